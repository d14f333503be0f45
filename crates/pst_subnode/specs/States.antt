-- What is known of lists, by their keys: one that may stand apart, and the others.
use Rattle.std.specs.Prelude.{◌≡◌, ℕ, ◌<◌, Bool, true, false, cond, Option, Some, None, List}
use Rattle.std.specs.Ordering.{nat_cmp, eq_by_cmp}
use Rattle.std.specs.Map.{lookup}
use Rattle.std.specs.BTreeMap.{insert_entry, is_at}
use Rattle.pst_subnode.specs.declared.states.Latest.{Latest}

-- a key, and what is known of it
abbrev pub Entry : Type 0
Entry = ℕ × ℕ

-- what is known of a key, of such entries
abbrev pub entry_at : List Entry → ℕ → Option ℕ
entry_at es key = lookup (is_at (nat_cmp key)) es

-- keys with what is known of each, in the keys' order
pub record KnownStates : Type 0 where
  pub entries : List Entry

-- what is known of a key
abbrev pub state_in : KnownStates → ℕ → Option ℕ
state_in states key = entry_at states.entries key

-- ---- one that may stand apart

-- entries, and the one that stands apart at its place among them
abbrev pub with_last : Option Latest → List Entry → List Entry
with_last None es = es
with_last (Some last) es = insert_entry nat_cmp es last.key last.state

-- whether a key is that of the one that stands apart
abbrev pub is_at_last : Option Latest → ℕ → Bool
is_at_last None key = false
is_at_last (Some last) key = eq_by_cmp nat_cmp last.key key

-- what is known of it then
abbrev pub state_at_last : Option Latest → ℕ → Option ℕ
state_at_last None key = None
state_at_last (Some last) key = cond (eq_by_cmp nat_cmp last.key key) (Some last.state) None

-- it is none of the others
abbrev pub IsApart : Option Latest → List Entry → Type 0
IsApart last es = (key : ℕ) → is_at_last last key ≡ true → entry_at es key ≡ None

-- no key is above that one
abbrev pub AreUpTo : ℕ → List Entry → Type 0
AreUpTo top es = (key : ℕ) → top < key → entry_at es key ≡ None

-- what is kept: the one that stands apart, the others, and a key that none of these is above
pub record AreKept (last : Option Latest) (es : List Entry) (top : ℕ) : Type 0 where
  pub apart : IsApart last es
  pub up_to : AreUpTo top es
