-- The message that an attachment embeds.
use Rattle.std.proofs.Common.{◌≡◌, refl, ap}
use Rattle.std.specs.Prelude.{Option, Some, None, option_map}
use Rattle.pst_block.specs.Table.{Table}
use Rattle.pst_ndb.specs.Roots.{Roots}
use Rattle.pst_verify.specs.pst_msg.pst_mail.declared.object.Object.{Object}
use Rattle.pst_verify.specs.pst_msg.Shown.{Shown, object_shown}
use Rattle.pst_props.specs.Node.{nid_of_object}

pub embedded_there_is : (t : Table) (r : Roots) (o : Option Object) (s : Shown) → Some s ≡ option_map (object_shown t r) o → Some s.nid ≡ option_map nid_of_object o
embedded_there_is t r None s is = absurd cc
embedded_there_is t r (Some o) s is = ap (option_map (λ (x : Shown). x.nid)) is

pub embedded_none : (t : Table) (r : Roots) (o : Option Object) → None ≡ option_map (object_shown t r) o → None ≡ option_map nid_of_object o
embedded_none t r None is = refl
embedded_none t r (Some o) is = absurd cc
