use Rattle.std.specs.Prelude.{not, if◌then◌else◌}
use Rattle.std.specs.Ordering.{nat_cmp}
use Rattle.std.specs.BTreeSet.{contains, btree_set_len}
use Rattle.std.proofs.Common.{◌≡◌, ◌+◌, true, ap, ◌∙◌, sym, inl, inr}
use Rattle.pst_block.specs.Block.{bid_key}
use Rattle.pst_datatree.specs.Seen.{has_tree}
use Rattle.pst_datatree.proofs.SeenLemmas.{only_new, put_true, put_ahead}
use Rattle.pst_datatree.proofs.seen.Seen.put.Goals as goal

pub returns-clause-known : goal.returns-clause-known
unfolding has_tree
returns-clause-known c t e listed sound true_of =
    put_true t c.args.self.now _ c.args.bid e
    (λ other h. elim (only_new c.args.self.now.trees c.insert.new.self c.key_of.result c.in_ok-insert.ensures.updates.0 (bid_key other) h) [ inl was ↦ inl was | inr same ↦ inr (sym c.key_of.ensures.value ∙ same) ])
    listed sound true_of

pub returns-clause-ahead : goal.returns-clause-ahead
unfolding has_tree
returns-clause-ahead c absent k ahead =
    let new : c.in_ok-insert.field-0 ≡ true = c.in_ok-insert.ensures.added ∙ ap not (ap (contains nat_cmp c.args.self.now.trees) c.key_of.ensures.value ∙ absent) in
    let more : btree_set_len c.insert.new.self ≡ btree_set_len c.args.self.now.trees + 1 = c.in_ok-insert.ensures.len ∙ ap (λ b. btree_set_len c.args.self.now.trees + (if b then 1 else 0)) new in
    put_ahead c.args.self.now.expansions (btree_set_len c.args.self.now.trees) (btree_set_len c.insert.new.self) k more ahead
