-- Objects and lists that are written one member, and one item, after another.
use Rattle.std.specs.Prelude.{◌≡◌, ℕ, Bool, true, false, ◌&&◌, Option, Some, None, List, [], ◌∷◌, ◌++◌}
use Rattle.std.specs.Ordering.{nat_cmp, match_ordering}
use Rattle.std.specs.Cmp.Lexicographic.{slice_cmp}
use Rattle.serde_json.specs.Data.{Data, Members, no_members, member}

-- one more at the end
abbrev pub and_member : Members → List ℕ → Data → Members
and_member no_members k d = member k d no_members
and_member (member l e ms) k d = member l e (and_member ms k d)

-- one more, where it is there
abbrev pub and_member_if : Members → List ℕ → Option Data → Members
and_member_if ms k None = ms
and_member_if ms k (Some d) = and_member ms k d

-- these before others
abbrev pub before : Members → Members → Members
before no_members rest = rest
before (member k d ms) rest = member k d (before ms rest)

-- the key stands behind those of all, in the order of their bytes
abbrev pub is_last : Members → List ℕ → Bool
is_last no_members k = true
is_last (member l e ms) k = match_ordering (slice_cmp nat_cmp k l) false false true && is_last ms k

abbrev pub IsLast : Members → List ℕ → Type 0
IsLast ms k = is_last ms k ≡ true

-- the key of a member in its quotes, with its colon
abbrev pub key_and_colon : List ℕ → List ℕ
key_and_colon k = 34 ∷ (k ++ 34 ∷ 58 ∷ [])

-- An object is begun behind what stood there, and has these members: the value of the last key stands there. By what a pen puts, and
-- where it has a key.
abbrev pub InObject : {P : Type 0} → (P → P → Data → Type 0) → (P → P → Members → List ℕ → Type 0) → P → P → Members → Type 0
InObject {P} Puts AtKey base now done = (s : P) × (front : Members) × (k : List ℕ) × (d : Data) × AtKey base s front k × Puts s now d × IsLast front k × (done ≡ and_member front k d)
