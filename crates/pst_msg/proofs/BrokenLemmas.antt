-- A fault in a message is in what it holds, and in what those hold that wait for it.
use Rattle.std.proofs.Common.{◌≡◌, ℕ, ◌-◌, ◌<◌, List, [], ◌∷◌, length, get_or, reverse, Option, ap, ◌∙◌, inl, inr, None, arith}
use Rattle.std.specs.List.{Contains}
use Rattle.std.proofs.lemmas.List.{get_or-reverse, length-reverse}
use Rattle.pst_fault.specs.declared.fault.Fault.{Fault}
use Rattle.pst_fault.specs.First.{IsFirst}
use Rattle.pst_fault.proofs.FirstLemmas.{is_first_then}
use Rattle.pst_block.specs.Table.{Table}
use Rattle.pst_subnode.specs.declared.check.TheConstants.{LISTS}
use Rattle.pst_subnode.specs.Tree.{sub_fault}
use Rattle.pst_ndb.specs.declared.node.Node.{Node}
use Rattle.pst_ndb.specs.Roots.{Roots}
use Rattle.pst_ndb.specs.Views.{table_of_node, roots_of}
use Rattle.pst_msg.specs.declared.frame.Frame.{Frame}
use Rattle.pst_msg.specs.declared.known.KnownParts.{KnownParts}
use Rattle.pst_remembered.specs.declared.role.Role.TheVariants.{Properties}
use Rattle.pst_mail.specs.Fault.{held_fault, message_at, below_message}
use Rattle.pst_msg.specs.Known.{IsTrueOf}
use Rattle.pst_msg.specs.Frames.{left_of, holder_of, IsFrame, IsBelowMessage, IsStack, IsBrokenBy, AreBrokenBy, WaitFor}
use Rattle.pst_msg.proofs.GrowLemmas.{by_first}
use Rattle.pst_mail.proofs.LimitLemmas.{held_limit}
use Rattle.pst_msg.proofs.OpenLemmas.{message_held}

-- a first fault of what a message holds is that under the limit of a file
pub whole_first : (t : Table) (limit : ℕ) (node : Node) (e : Fault) → table_of_node node ≡ t → sub_fault t limit (roots_of node).bid_sub ≡ None → IsFirst (held_fault t (below_message t limit) (roots_of node)) e → IsFirst (held_fault t (below_message t LISTS) (roots_of node)) e
whole_first t limit node e same sound first =
    let all : sub_fault t LISTS (roots_of node).bid_sub ≡ None = rw (← same) node.subs in
    rw (held_limit t limit LISTS (roots_of node) sound all) at first

-- what each of them holds has it, too
broken_here : (t : Table) (k : KnownParts) (now : Option Fault) (waits : Option Roots) (f : Frame) (e : Fault) → IsTrueOf t k → IsFirst now e → IsFrame t k now waits f → IsBrokenBy t e f
broken_here t k now waits f e known refused is = (is.table, whole_first t f.limit f.node e is.table is.sound (rw is.first (is_first_then now (left_of t f) e refused)))

below_broken : (t : Table) (root : Roots) (k : KnownParts) (r : Roots) (limit : ℕ) (waits : Option Roots) (below : List Frame) (e : Fault) → IsTrueOf t k → IsFirst (message_at t limit r) e → IsBelowMessage t root k r limit waits below → AreBrokenBy t e below
unfolding IsBelowMessage
below_broken t root k r limit waits [] e known refused is g within = absurd (omega (arith, within.1))
below_broken t root k r limit waits (f ∷ below) e known refused is g within =
    let frame = is.0 in
    let here : IsBrokenBy t e f = broken_here t k (message_at t limit r) waits f e known refused frame in
    let held : IsFirst (held_fault t (below_message t f.limit) (roots_of f.node)) e = rw frame.first (is_first_then (message_at t limit r) (left_of t f) e refused) in
    let message : IsFirst (message_at t f.limit (roots_of f.node)) e = rw (message_held t f.limit (roots_of f.node) (known.contexts Properties (roots_of f.node) frame.properties)) held in
    elim (by_first (λ h. IsBrokenBy t e h) f g below here within) [
      | inl it ↦ it
      | inr later ↦ below_broken t root k (roots_of f.node) f.limit (holder_of f) below e known message is.3 g later
    ]

in_reverse : (xs : List Frame) (x : Frame) → Contains xs x → Contains (reverse xs) x
in_reverse xs x w =
    let back : length xs - 1 - (length xs - 1 - w.0) ≡ w.0 = omega (arith, w.1) in
    let lt : length xs - 1 - w.0 < length xs = omega (arith, w.1) in
    (length xs - 1 - w.0, rw length-reverse lt, get_or-reverse xs (length xs - 1 - w.0) x lt ∙ ap (λ (k : ℕ). get_or xs k x) back ∙ w.2)

pub stack_waits : (t : Table) (root : Roots) (k : KnownParts) (f : Frame) (all : List Frame) → IsTrueOf t k → IsStack t root k (f ∷ reverse all) → WaitFor t f all
unfolding IsStack
stack_waits t root k f all known is e refused g within = below_broken t root k (roots_of f.node) f.limit (holder_of f) (reverse all) e known refused is.3 g (in_reverse all g within)

-- and what it holds itself
pub broken_held : (t : Table) (k : KnownParts) (f : Frame) (e : Fault) → IsTrueOf t k → IsFrame t k None None f → IsFirst (message_at t f.limit (roots_of f.node)) e → IsFirst (held_fault t (below_message t LISTS) (roots_of f.node)) e
broken_held t k f e known is refused =
    let held : IsFirst (held_fault t (below_message t f.limit) (roots_of f.node)) e = rw (message_held t f.limit (roots_of f.node) (known.contexts Properties (roots_of f.node) is.properties)) at refused in
    whole_first t f.limit f.node e is.table is.sound held
