-- How often the walk of a message can be gone on with: once for the message itself, and once for each row of its attachment table
-- and for what lies below that. Nothing is passed over here, so this says how long the stack's walk can be.
use Rattle.std.specs.Prelude.{ℕ, zero, suc, ◌+◌, Option, Some, None, sum_by}
use Rattle.pst_block.specs.Table.{Table}
use Rattle.pst_ndb.specs.Roots.{Roots, subnode_of}
use Rattle.pst_ndb.specs.Views.{roots_of}
use Rattle.pst_msg.specs.Rest.{rows_of_table_left}
use Rattle.pst_tc.specs.Values.{RowParts}
use Rattle.pst_msg.specs.declared.frame.Frame.{Frame}
use Rattle.pst_mail.specs.declared.object.Object.{Object}
use Rattle.pst_mail.specs.Shown.{attachment_rows}
use Rattle.pst_mail.specs.Values.{embedded_of}

-- of a part that may be missing
abbrev pub steps_there : {X : Type 0} → (X → ℕ) → Option X → ℕ
steps_there steps None = 0
steps_there steps (Some x) = steps x

abbrev pub no_steps : Roots → ℕ
no_steps r = 0

-- a row of an attachment table, and below it the attachment
unfoldable pub row_steps : Table → (Roots → ℕ) → Roots → RowParts → ℕ
row_steps t below r x = 1 + steps_there below (subnode_of t r x.id)

unfoldable pub message_part_steps : Table → (Roots → ℕ) → Roots → ℕ
message_part_steps t below r = 1 + sum_by (row_steps t below r) (attachment_rows t r)

abbrev pub object_steps : Table → (Roots → ℕ) → Roots → Object → ℕ
object_steps t below r o = steps_there below (subnode_of t r o.nid)

unfoldable pub attachment_part_steps : Table → (Roots → ℕ) → Roots → ℕ
attachment_part_steps t below r = steps_there (object_steps t below r) (embedded_of t r)

unfoldable mutual
  pub message_steps : Table → ℕ → Roots → ℕ
  message_steps t zero r = message_part_steps t no_steps r
  message_steps t (suc n) r = message_part_steps t (attachment_steps t n) r

  pub attachment_steps : Table → ℕ → Roots → ℕ
  attachment_steps t zero r = attachment_part_steps t no_steps r
  attachment_steps t (suc n) r = attachment_part_steps t (message_steps t n) r

abbrev pub steps_below_message : Table → ℕ → Roots → ℕ
steps_below_message t zero = no_steps
steps_below_message t (suc n) = attachment_steps t n

abbrev pub steps_below_attachment : Table → ℕ → Roots → ℕ
steps_below_attachment t zero = no_steps
steps_below_attachment t (suc n) = message_steps t n

-- what is left of a message on the stack
abbrev pub frame_steps : Table → Frame → ℕ
frame_steps t f = 1 + sum_by (row_steps t (steps_below_message t f.limit) (roots_of f.node)) (rows_of_table_left f.rest)
