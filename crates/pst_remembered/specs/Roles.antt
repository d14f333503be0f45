-- The roles of contexts.
use Rattle.std.specs.Prelude.{ℕ, zero, suc, Option}
use Rattle.pst_fault.specs.declared.fault.Fault.{Fault}
use Rattle.pst_block.specs.Table.{Table}
use Rattle.pst_ndb.specs.Roots.{Roots}
use Rattle.pst_pc.specs.Fault.{pc_fault}
use Rattle.pst_tc.specs.Fault.{tc_fault}
use Rattle.pst_mail.specs.declared.items.Items.TheVariants.{Subfolders, Messages, Associated}
use Rattle.pst_remembered.specs.declared.role.Role.{Role}
use Rattle.pst_remembered.specs.declared.role.Role.TheVariants.{Properties, Listed, Recipients, Attachments}

abbrev pub role_number : Role → ℕ
role_number Properties = 0
role_number (Listed Subfolders) = 1
role_number (Listed Messages) = 2
role_number (Listed Associated) = 3
role_number Recipients = 4
role_number Attachments = 5

-- the role with a number
unfoldable pub role_with : ℕ → Role
role_with zero = Properties
role_with (suc zero) = Listed Subfolders
role_with (suc (suc zero)) = Listed Messages
role_with (suc (suc (suc zero))) = Listed Associated
role_with (suc (suc (suc (suc zero)))) = Recipients
role_with (suc (suc (suc (suc (suc n))))) = Attachments

-- the first fault of a context in a role
abbrev pub role_fault : Table → Role → Roots → Option Fault
role_fault t Properties r = pc_fault t r
role_fault t (Listed items) r = tc_fault t r
role_fault t Recipients r = tc_fault t r
role_fault t Attachments r = tc_fault t r
