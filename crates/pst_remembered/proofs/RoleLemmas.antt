-- A role is known by its number.
use Rattle.std.proofs.Common.{◌≡◌, refl, sym, ap, ◌∙◌}
use Rattle.pst_mail.specs.declared.items.Items.TheVariants.{Subfolders, Messages, Associated}
use Rattle.pst_remembered.specs.declared.role.Role.{Role}
use Rattle.pst_remembered.specs.declared.role.Role.TheVariants.{Properties, Listed, Recipients, Attachments}
use Rattle.pst_remembered.specs.Roles.{role_number, role_with}

pub role_back : (role : Role) → role_with (role_number role) ≡ role
unfolding role_with
role_back Properties = refl
role_back (Listed Subfolders) = refl
role_back (Listed Messages) = refl
role_back (Listed Associated) = refl
role_back Recipients = refl
role_back Attachments = refl

pub same_role : (role other : Role) → role_number role ≡ role_number other → role ≡ other
same_role role other e = sym (role_back role) ∙ ap role_with e ∙ role_back other
