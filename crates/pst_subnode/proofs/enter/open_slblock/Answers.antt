use Rattle.std.proofs.Common.{◌≡◌, refl, ◌∙◌, arith}
use Rattle.std.proofs.lemmas.Result.{err_from_is_err_and}
use Rattle.pst_block.specs.Blocks.{table_of}
use Rattle.pst_subnode.specs.List.{slblock_subs, subs_of}
use Rattle.pst_subnode.specs.Stack.{IsMarking}
use Rattle.pst_subnode.proofs.StackLemmas.{begin_refused}
use Rattle.pst_subnode.proofs.WeightLemmas.{entries_light}
use Rattle.pst_subnode.proofs.ExpandLemmas.{since_begun, slblock_left, slblock_entries}
use Rattle.pst_subnode.proofs.enter.open_slblock.Goals as goal

pub returns-in_err-begin-clause-opens : goal.returns-in_err-begin-clause-opens
returns-in_err-begin-clause-opens c = λ s trees.
    let p = err_from_is_err_and c.from_residual.result c.from_residual.ensures.1 in
    let put = c.in_err-begin.ensures in
    rw (p.1, p.2) (begin_refused (table_of c.args.blocks.now) c.args.bid c.args.limit s c.args.heights.now c.begin.new.self _ trees c.requires.known put.memory put.same put.ranges put.grows)

pub returns-clause-opens : goal.returns-clause-opens
returns-clause-opens c = λ s trees.
    let t = table_of c.args.blocks.now in
    let put = c.in_ok-begin.ensures in
    let marking : IsMarking t c.args.bid c.args.heights.now c.begin.new.self = record { list = c.requires.is_list.is_list.list; fresh = c.requires.fresh; put = put.put; grows = put.grows } in
    let own : slblock_subs t c.args.entry ≡ subs_of t c.args.bid = rw c.requires.entry at (slblock_entries t c.args.bid c.requires.is_list) in
    record {
      same_bid = refl;
      same_limit = refl;
      since = since_begun t c.args.bid s c.args.heights.now c.begin.new.self marking put.ranges put.keeps trees c.requires.known;
      left = slblock_left t c.args.bid c.args.limit c.of_slblock.result s c.args.heights.now c.begin.new.self c.requires.room c.requires.is_list (c.of_slblock.ensures.left ∙ own) c.requires.come put.put;
    }

pub returns-clause-light : goal.returns-clause-light
returns-clause-light c = entries_light _ c.of_slblock.result refl c.of_slblock.ensures.leaves (omega (arith, c.of_slblock.result.entries_few))
