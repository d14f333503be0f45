-- Laws of what a store's messaging names.
use Rattle.std.specs.Prelude.{◌≡◌, ℕ, None, List}
use Rattle.pst_page.specs.declared.entry.NodeEntry.{NodeEntry}
use Rattle.pst_block.specs.Table.{Table}
use Rattle.pst_ndb.specs.Roots.{Roots}
use Rattle.pst_mail.specs.Grammar.{Contents}
use Rattle.pst_remembered.specs.declared.role.Role.{Role}
use Rattle.pst_msg.specs.Counts.{Names, IsRaised}
use Rattle.pst_remembered.specs.Roles.{role_fault}

-- What a store's messaging names are contexts: each has no first fault in its role.
abbrev pub NamesLaw : Type 0
NamesLaw =
    (t : Table) (nodes : List NodeEntry) (role : Role) (r : Roots) → Contents t nodes → Names t nodes role r → role_fault t role r ≡ None

-- A store names one number of contexts.
abbrev pub CountLaw : Type 0
CountLaw = (t : Table) (nodes : List NodeEntry) (start a b : ℕ) → IsRaised t nodes start a → IsRaised t nodes start b → a ≡ b
