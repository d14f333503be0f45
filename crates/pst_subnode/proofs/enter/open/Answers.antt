use Rattle.std.proofs.Common.{◌≡◌, ◌+◌, ◌-◌, ◌*◌, false, true, sym, ap, ◌∙◌, arith}
use Rattle.std.proofs.lemmas.Result.{err_from_is_err_and}
use Rattle.pst_fault.proofs.FirstLemmas.{is_first_then}
use Rattle.pst_block.specs.Blocks.{table_of}
use Rattle.pst_block.specs.Table.{body_of}
use Rattle.pst_subnode.specs.Body.{has_level_one}
use Rattle.pst_subnode.specs.List.{list_fault}
use Rattle.pst_subnode.specs.Marks.{rank_of, IsSiList}
use Rattle.pst_subnode.proofs.MarkLemmas.{rank_none, rank_one}
use Rattle.pst_subnode.proofs.StateLemmas.{same_place, alike_same, alike_marks}
use Rattle.pst_subnode.proofs.SubLemmas.{sub_fault_list}
use Rattle.pst_subnode.proofs.WalkLemmas.{walked_alike}
use Rattle.pst_subnode.proofs.StackLemmas.{opens_alike}
use Rattle.pst_subnode.proofs.enter.open.Goals as goal

pub returns-in_err-entry-clause-opens : goal.returns-in_err-entry-clause-opens
returns-in_err-entry-clause-opens c = λ s trees.
    let p = err_from_is_err_and c.from_residual.result c.from_residual.ensures.1 in
    let t = table_of c.args.blocks.now in
    let own = c.in_err-entry.ensures in
    rw (p.1, p.2) (record {
      exact = rw (sub_fault_list t c.args.limit (c.args.limit - 1) c.args.bid (omega (arith, c.requires.room)) c.requires.named) (is_first_then (list_fault t c.args.bid) _ _ own.exact);
      walked = walked_alike t _ s c.args.heights.now c.check_own_blocks.new.heights trees own.known own.same;
    })

pub open_siblock-requires-clause-come : goal.open_siblock-requires-clause-come
open_siblock-requires-clause-come c =
    let t = table_of c.args.blocks.now in
    let own = c.in_ok-entry.ensures in
    let level : has_level_one (body_of t c.in_ok-entry.entry) ≡ true = ap has_level_one (sym c.body_in.ensures) ∙ (sym c.has_level_one.ensures ∙ c.if-has_level_one.true) in
    let is : IsSiList t c.args.bid c.in_ok-entry.entry = record { is_list = record { named = c.requires.named; list = own.none }; entry = c.in_ok-entry.ensures.entry; level = level } in
    let come = same_place t c.args.heights.now c.check_own_blocks.new.heights _ _ c.args.limit (alike_marks _ _ own.same) c.requires.come in
    rw (rank_one t c.args.bid c.in_ok-entry.entry is) at come

pub open_siblock-requires-clause-fresh : goal.open_siblock-requires-clause-fresh
open_siblock-requires-clause-fresh c = alike_same _ _ c.in_ok-entry.ensures.same _ ∙ c.requires.fresh

pub open_slblock-requires-clause-is_list : goal.open_slblock-requires-clause-is_list
open_slblock-requires-clause-is_list c =
    let t = table_of c.args.blocks.now in
    let level : has_level_one (body_of t c.in_ok-entry.entry) ≡ false = ap has_level_one (sym c.body_in.ensures) ∙ (sym c.has_level_one.ensures ∙ c.if-has_level_one.false) in
    record { is_list = record { named = c.requires.named; list = c.in_ok-entry.ensures.none }; rank = rank_none t c.args.bid c.in_ok-entry.entry c.in_ok-entry.ensures.entry level }

pub open_slblock-requires-clause-come : goal.open_slblock-requires-clause-come
open_slblock-requires-clause-come c =
    let t = table_of c.args.blocks.now in
    let own = c.in_ok-entry.ensures in
    let level : has_level_one (body_of t c.in_ok-entry.entry) ≡ false = ap has_level_one (sym c.body_in.ensures) ∙ (sym c.has_level_one.ensures ∙ c.if-has_level_one.false) in
    let come = same_place t c.args.heights.now c.check_own_blocks.new.heights _ _ c.args.limit (alike_marks _ _ own.same) c.requires.come in
    rw (rank_none t c.args.bid c.in_ok-entry.entry c.in_ok-entry.ensures.entry level) at come

pub open_slblock-requires-clause-fresh : goal.open_slblock-requires-clause-fresh
open_slblock-requires-clause-fresh c = alike_same _ _ c.in_ok-entry.ensures.same _ ∙ c.requires.fresh

pub returns-then-has_level_one-clause-opens : goal.returns-then-has_level_one-clause-opens
returns-then-has_level_one-clause-opens c = λ s trees.
    let own = c.in_ok-entry.ensures in
    opens_alike (table_of c.args.blocks.now) c.args.bid c.args.limit s c.args.heights.now c.check_own_blocks.new.heights c.open_siblock.new.heights c.open_siblock.result trees own.known own.same (c.open_siblock.ensures.opens s trees)

pub returns-then-has_level_one-clause-light : goal.returns-then-has_level_one-clause-light
returns-then-has_level_one-clause-light c =
    let t = table_of c.args.blocks.now in
    let level : has_level_one (body_of t c.in_ok-entry.entry) ≡ true = ap has_level_one (sym c.body_in.ensures) ∙ (sym c.has_level_one.ensures ∙ c.if-has_level_one.true) in
    let is : IsSiList t c.args.bid c.in_ok-entry.entry = record { is_list = record { named = c.requires.named; list = c.in_ok-entry.ensures.none }; entry = c.in_ok-entry.ensures.entry; level = level } in
    let same : 2 * c.args.limit + rank_of t c.args.bid + 1 ≡ 2 * c.args.limit + 2 = omega (arith, rank_one t c.args.bid c.in_ok-entry.entry is) in
    rw same c.open_siblock.ensures.light

pub returns-else-has_level_one-clause-opens : goal.returns-else-has_level_one-clause-opens
returns-else-has_level_one-clause-opens c = λ s trees.
    let own = c.in_ok-entry.ensures in
    opens_alike (table_of c.args.blocks.now) c.args.bid c.args.limit s c.args.heights.now c.check_own_blocks.new.heights c.open_slblock.new.heights c.open_slblock.result trees own.known own.same (c.open_slblock.ensures.opens s trees)

pub returns-else-has_level_one-clause-light : goal.returns-else-has_level_one-clause-light
returns-else-has_level_one-clause-light c =
    let t = table_of c.args.blocks.now in
    let level : has_level_one (body_of t c.in_ok-entry.entry) ≡ false = ap has_level_one (sym c.body_in.ensures) ∙ (sym c.has_level_one.ensures ∙ c.if-has_level_one.false) in
    let same : 2 * c.args.limit + rank_of t c.args.bid + 1 ≡ 2 * c.args.limit + 1 = omega (arith, rank_none t c.args.bid c.in_ok-entry.entry c.in_ok-entry.ensures.entry level) in
    rw same c.open_slblock.ensures.light
