use Rattle.std.proofs.Common.{◌≡◌, ◌++◌, ℕ, drop}
use Rattle.std.specs.Prelude.{None, nat_eq}
use Rattle.std.specs.List.{list_any}
use Rattle.pst_btree.specs.Order.{Rises}
use Rattle.pst_json.specs.Listings.{folders_listing, if_listed}
use Rattle.pst_json.proofs.listings.Listings.note_all.Given as goal

-- what is noted, with the messages that are left, is all
abbrev pub invariant-loop-message : goal.invariant-loop-message
invariant-loop-message l = record {
  rise : (low : ℕ) × Rises low None (drop l.message-index l.messages);
  noted : (nid : ℕ) → folders_listing l.self nid ++ if_listed (list_any (nat_eq nid) (drop l.message-index l.messages)) l.folder
      ≡ folders_listing l.initial.self nid ++ if_listed (list_any (nat_eq nid) l.messages) l.folder;
}
