-- How often the walk of a message can be gone on with.
use Rattle.std.proofs.Common.{◌≡◌, ℕ, zero, suc, ◌+◌, ◌-◌, ◌<◌, ◌≤◌, ◌∷◌, Some, refl, sym, ap, ◌∙◌, arith}
use Rattle.std.specs.Prelude.{sum_by}
use Rattle.std.proofs.lemmas.List.Sums.{sum_by-cons}
use Rattle.pst_block.specs.Table.{Table}
use Rattle.pst_ndb.specs.Roots.{Roots, subnode_of}
use Rattle.pst_ndb.specs.Views.{roots_of}
use Rattle.pst_msg.specs.declared.rest.Rest.{Rest}
use Rattle.pst_msg.specs.Rest.{rows_of_table_left}
use Rattle.pst_tc.specs.Values.{RowParts, tc_rows}
use Rattle.pst_msg.specs.declared.frame.Frame.{Frame}
use Rattle.pst_mail.specs.declared.nid.TheConstants.{ATTACHMENTS}
use Rattle.pst_mail.specs.declared.object.Object.{Object}
use Rattle.pst_mail.specs.Values.{embedded_of}
use Rattle.pst_mail.specs.Shown.{attachment_rows, rows_there}
use Rattle.pst_msg.specs.Steps.{steps_there, row_steps, message_part_steps, object_steps, attachment_part_steps, message_steps, attachment_steps, steps_below_message, steps_below_attachment, frame_steps}
use Rattle.pst_msg.specs.Frames.{with_rest}

message_steps_is : (t : Table) (limit : ℕ) (r : Roots) → message_steps t limit r ≡ message_part_steps t (steps_below_message t limit) r
unfolding message_steps
message_steps_is t zero r = refl
message_steps_is t (suc n) r = refl

attachment_steps_is : (t : Table) (limit : ℕ) (r : Roots) → attachment_steps t limit r ≡ attachment_part_steps t (steps_below_attachment t limit) r
unfolding attachment_steps
attachment_steps_is t zero r = refl
attachment_steps_is t (suc n) r = refl

below_message_steps : (t : Table) (limit : ℕ) (s : Roots) → 0 < limit → steps_below_message t limit s ≡ attachment_steps t (limit - 1) s
below_message_steps t zero s h = absurd (omega arith)
below_message_steps t (suc n) s h = let less : suc n - 1 ≡ n = omega arith in rw less refl

below_attachment_steps : (t : Table) (limit : ℕ) (s : Roots) → 0 < limit → steps_below_attachment t limit s ≡ message_steps t (limit - 1) s
below_attachment_steps t zero s h = absurd (omega arith)
below_attachment_steps t (suc n) s h = let less : suc n - 1 ≡ n = omega arith in rw less refl

-- a message whose rows are all left
rows_of_part : (t : Table) (below : Roots → ℕ) (r table : Roots) → subnode_of t r ATTACHMENTS ≡ Some table → message_part_steps t below r ≡ 1 + sum_by (row_steps t below r) (tc_rows t table)
unfolding message_part_steps attachment_rows
rows_of_part t below r table is = ap (λ o. 1 + sum_by (row_steps t below r) (rows_there t o)) is

pub opened_steps : (t : Table) (f : Frame) (table : Roots) → subnode_of t (roots_of f.node) ATTACHMENTS ≡ Some table → rows_of_table_left f.rest ≡ tc_rows t table → frame_steps t f ≤ message_steps t f.limit (roots_of f.node)
opened_steps t f table is rows =
    let same : frame_steps t f ≡ message_steps t f.limit (roots_of f.node) =
    ap (λ xs. 1 + sum_by (row_steps t (steps_below_message t f.limit) (roots_of f.node)) xs) rows
    ∙ sym (message_steps_is t f.limit (roots_of f.node) ∙ rows_of_part t (steps_below_message t f.limit) (roots_of f.node) table is) in
    omega (arith, same)

-- an attachment that embeds a message
pub embedded_steps : (t : Table) (limit : ℕ) (a s : Roots) (o : Object) → 0 < limit → embedded_of t a ≡ Some o → subnode_of t a o.nid ≡ Some s → attachment_steps t limit a ≡ message_steps t (limit - 1) s
unfolding attachment_part_steps
embedded_steps t limit a s o some embeds found =
    attachment_steps_is t limit a
    ∙ ap (λ e. steps_there (object_steps t (steps_below_attachment t limit) a) e) embeds
    ∙ ap (λ e. steps_there (steps_below_attachment t limit) e) found
    ∙ below_attachment_steps t limit s some

-- a row that names an attachment
pub row_steps_is : (t : Table) (limit : ℕ) (r : Roots) (x : RowParts) (s : Roots) → 0 < limit → subnode_of t r x.id ≡ Some s → row_steps t (steps_below_message t limit) r x ≡ 1 + attachment_steps t (limit - 1) s
unfolding row_steps
row_steps_is t limit r x s some found = ap (λ e. 1 + steps_there (steps_below_message t limit) e) found ∙ ap (λ n. 1 + n) (below_message_steps t limit s some)

-- one row fewer is left
pub fewer_steps : (t : Table) (f : Frame) (rest : Rest) (x : RowParts) → rows_of_table_left f.rest ≡ x ∷ rows_of_table_left rest → frame_steps t f ≡ row_steps t (steps_below_message t f.limit) (roots_of f.node) x + frame_steps t (with_rest f rest)
fewer_steps t f rest x is =
    let more = sum_by-cons (row_steps t (steps_below_message t f.limit) (roots_of f.node)) x (rows_of_table_left rest) in
    let all : frame_steps t f ≡ 1 + sum_by (row_steps t (steps_below_message t f.limit) (roots_of f.node)) (x ∷ rows_of_table_left rest) = ap (λ xs. 1 + sum_by (row_steps t (steps_below_message t f.limit) (roots_of f.node)) xs) is in
    omega (arith, all, more)
