-- All that is broken of a file that is not encoded.
use Rattle.std.proofs.Common.{◌≡◌, ℕ, List, Option, None, Some, true, false, refl}
use Rattle.std.specs.Option.{is_some}
use Rattle.std.proofs.lemmas.Bool.{and_parts}
use Rattle.pst_ask.specs.Ask.{Asked, Wanted, report, damage, head, nodes, folders, contents, messages, props, value, export}
use Rattle.pst_encoding.specs.declared.method.Method.{Method}
use Rattle.pst_plain.specs.Twin.{method_of}
use Rattle.pst_run.specs.Answer.{answer_with, decoded_damage, is_damage, is_decoded_damage}

as_stored : (ask : Wanted) (digest : Option (List ℕ)) (I : List ℕ) → is_damage ask ≡ true → answer_with ask digest I ≡ decoded_damage None digest I
unfolding answer_with
as_stored (report strict digested) digest I is = absurd cc
as_stored (damage digested) digest I is = refl
as_stored head digest I is = absurd cc
as_stored nodes digest I is = absurd cc
as_stored folders digest I is = absurd cc
as_stored (contents nid) digest I is = absurd cc
as_stored messages digest I is = absurd cc
as_stored (props places paths) digest I is = absurd cc
as_stored (value text path id) digest I is = absurd cc
as_stored export digest I is = absurd cc

-- there is no method
pub none_of : (o : Option Method) → is_some o ≡ false → o ≡ None
none_of None is = refl
none_of (Some m) is = absurd cc

pub plain_damage : (a : Asked) (digest : Option (List ℕ)) (I : List ℕ) → is_decoded_damage a ≡ true → method_of I ≡ None
    → answer_with a.ask digest I ≡ decoded_damage (method_of I) digest I
plain_damage a digest I is none = rw none (as_stored a.ask digest I (and_parts (is_damage a.ask) a.decode is).0)
