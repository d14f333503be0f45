use Rattle.std.proofs.Common.{◌≡◌, true, false, sym, ◌∙◌, inl}
use Rattle.std.proofs.lemmas.Result.{IfOk-weaker}
use Rattle.pst_block.specs.Blocks.{table_of}
use Rattle.pst_datatree.specs.declared.named.Named.TheVariants.{Nothing, Data, Xblock, Xxblock}
use Rattle.pst_datatree.proofs.NamedLemmas.{facts_of}
use Rattle.pst_datatree.proofs.AddLemmas.{adds_of, tree_of_named, known_named, none_internal}
use Rattle.pst_datatree.proofs.lengths.data_len.Goals as goal

pub xxblock_once-requires-clause-level : goal.xxblock_once-requires-clause-level
xxblock_once-requires-clause-level c = (facts_of (table_of c.args.blocks.now) c.args.bid (Xxblock c.in-Xxblock.entry) c.in-Xxblock.ensures.value).2

pub returns-in-Nothing-clause-there : goal.returns-in-Nothing-clause-there
returns-in-Nothing-clause-there c e internal =
    let none = facts_of (table_of c.args.blocks.now) c.args.bid Nothing c.in-Nothing.ensures.value in
    let bad : false ≡ true = none_internal c.args.bid none internal.1 in
    cc

pub returns-in-Data-clause-there : goal.returns-in-Data-clause-there
returns-in-Data-clause-there c =
    let t = table_of c.args.blocks.now in
    let facts = facts_of t c.args.bid (Data c.in-Data.entry) c.in-Data.ensures.value in
    known_named t c.args.seen.now c.args.bid c.in-Data.entry facts.0.1 (λ internal. let bad : false ≡ true = sym facts.1 ∙ internal in cc)

pub returns-in-Xblock-clause-adds : goal.returns-in-Xblock-clause-adds
returns-in-Xblock-clause-adds c =
    let t = table_of c.args.blocks.now in
    let facts = facts_of t c.args.bid (Xblock c.in-Xblock.entry) c.in-Xblock.ensures.value in
    adds_of t _ _ _ _ (λ key own. tree_of_named t c.args.bid c.in-Xblock.entry facts.0.1 facts.1 key (inl own)) c.xblock_once.ensures.adds

pub returns-in-Xblock-clause-there : goal.returns-in-Xblock-clause-there
returns-in-Xblock-clause-there c =
    let t = table_of c.args.blocks.now in
    let facts = facts_of t c.args.bid (Xblock c.in-Xblock.entry) c.in-Xblock.ensures.value in
    IfOk-weaker c.xblock_once.result _ _ (λ size known. known_named t c.xblock_once.new.seen c.args.bid c.in-Xblock.entry facts.0.1 (λ internal. known)) c.xblock_once.ensures.there

pub returns-in-Xxblock-clause-adds : goal.returns-in-Xxblock-clause-adds
returns-in-Xxblock-clause-adds c =
    let t = table_of c.args.blocks.now in
    let facts = facts_of t c.args.bid (Xxblock c.in-Xxblock.entry) c.in-Xxblock.ensures.value in
    adds_of t _ _ _ _ (tree_of_named t c.args.bid c.in-Xxblock.entry facts.0.1 facts.1) c.xxblock_once.ensures.adds

pub returns-in-Xxblock-clause-there : goal.returns-in-Xxblock-clause-there
returns-in-Xxblock-clause-there c =
    let t = table_of c.args.blocks.now in
    let facts = facts_of t c.args.bid (Xxblock c.in-Xxblock.entry) c.in-Xxblock.ensures.value in
    IfOk-weaker c.xxblock_once.result _ _ (λ size known. known_named t c.xxblock_once.new.seen c.args.bid c.in-Xxblock.entry facts.0.1 (λ internal. known)) c.xxblock_once.ensures.there
