-- What a contract sees of an archive, and of what it is made from.
use Rattle.std.specs.Prelude.{◌≡◌, ◌<◌, ◌+◌, ℕ, List, Option, Some, None, option_map}
use Rattle.pst_intact.specs.View.{table_of_intact, nodes_of_intact}
use Rattle.pst_json.specs.pst_whole.View.{lost_in}
use Rattle.pst_export.specs.declared.export.Export.{Export}
use Rattle.pst_tar.specs.Archive.{Member}
use Rattle.pst_export.specs.Store.{all_files, archive_text}

-- so many are counted down from a number: what is left of it, or that they are more
abbrev pub CountsDown : ℕ → ℕ → Option ℕ → Type 0
CountsDown most count None = most < count
CountsDown most count (Some left) = most ≡ left + count

-- what is told of all that is broken, where something is
abbrev pub text_of_damage : Export → Option (List ℕ)
text_of_damage e = option_map (λ t. t.items) e.damage

-- the archive
abbrev pub archive_in : Export → List ℕ
archive_in e = archive_text (text_of_damage e) (table_of_intact e.intact) (nodes_of_intact e.intact) (lost_in e.lost)

-- and its files
abbrev pub files_in : Export → List Member
files_in e = all_files (text_of_damage e) (table_of_intact e.intact) (nodes_of_intact e.intact) (lost_in e.lost)
