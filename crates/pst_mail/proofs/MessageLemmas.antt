-- The equations of messages and attachments.
use Rattle.std.proofs.Common.{◌≡◌, ℕ, zero, suc, ◌-◌, ◌<◌, true, Some, Result, refl, arith}
use Rattle.pst_fault.specs.declared.fault.Fault.{Fault}
use Rattle.pst_fault.specs.First.{Tells}
use Rattle.pst_block.specs.Table.{Table}
use Rattle.pst_ndb.specs.Roots.{Roots, subnode_of}
use Rattle.pst_tc.specs.Values.{RowParts}
use Rattle.pst_mail.specs.declared.nid.TheConstants.{ATTACHMENT}
use Rattle.pst_mail.specs.Nid.{is_type}
use Rattle.pst_mail.specs.Fault.{attachment_row_fault, message_part, attachment_part, message_at, attachment_at, below_message, below_attachment}

pub message_is : (t : Table) (limit : ℕ) (r : Roots) → message_at t limit r ≡ message_part t (below_message t limit) r
unfolding message_at
message_is t zero r = refl
message_is t (suc n) r = refl

pub attachment_is : (t : Table) (limit : ℕ) (r : Roots) → attachment_at t limit r ≡ attachment_part t (below_attachment t limit) r
unfolding attachment_at
attachment_is t zero r = refl
attachment_is t (suc n) r = refl

pub below_message_is : (t : Table) (limit : ℕ) (s : Roots) → 0 < limit → below_message t limit s ≡ attachment_at t (limit - 1) s
below_message_is t zero s h = absurd (omega arith)
below_message_is t (suc n) s h = let less : suc n - 1 ≡ n = omega arith in rw less refl

pub below_attachment_is : (t : Table) (limit : ℕ) (s : Roots) → 0 < limit → below_attachment t limit s ≡ message_at t (limit - 1) s
below_attachment_is t zero s h = absurd (omega arith)
below_attachment_is t (suc n) s h = let less : suc n - 1 ≡ n = omega arith in rw less refl

-- ---- a row, whose subnode is of the type of attachments: what is told of that

pub row_found : (t u : Table) (limit bid : ℕ) (r : Roots) (x : RowParts) (s : Roots) (result : Result (Unit {0}) Fault) → u ≡ t → 0 < limit → Some s ≡ subnode_of t r x.id → is_type ATTACHMENT x.id ≡ true → Tells result (attachment_at u (limit - 1) s) tt → Tells result (attachment_row_fault t (below_message t limit) r bid x) tt
unfolding attachment_row_fault
row_found t u limit bid r x s result same some found kind told = rw (← found, kind, below_message_is t limit s some, ← same) told
