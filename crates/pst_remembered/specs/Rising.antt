-- A set of keys that come mostly in rising order: a run of keys that strictly rise, and the others.
use Rattle.std.specs.Prelude.{◌≡◌, ◌-◌, Bool, true, false, cond, List, [], ◌∷◌, length, Option, Some, None, slice_get}
use Rattle.std.specs.List.{AllByRecursion}
use Rattle.std.specs.List.Sorted.{IsStrictlySortedBy}
use Rattle.std.specs.Ordering.{is_gt}
use Rattle.std.specs.declared.cmp.Ordering.{Ordering}
use Rattle.std.specs.declared.cmp.Ordering.TheVariants.{Equal}
use Rattle.std.specs.BTreeSet.{insert_key}

-- the last one, if there is one
abbrev pub last_of : {K : Type 0} → List K → Option K
last_of run = slice_get run (length run - 1)

module _ {K : Type 0} (cmp : K → K → Ordering) where
  -- only a key itself compares equal to it
  abbrev pub TellsApart : Type 0
  TellsApart = (x y : K) → cmp x y ≡ Equal → x ≡ y

  -- keys, and those of a run at their places among them
  abbrev pub with_run : List K → List K → List K
  with_run [] ks = ks
  with_run (x ∷ run) ks = insert_key cmp (with_run run ks) x

  -- whether a key is above another one, if there is one
  abbrev pub is_above : Option K → K → Bool
  is_above None k = true
  is_above (Some bound) k = is_gt (cmp k bound)

  -- the greater one
  abbrev pub raised : Option K → K → Option K
  raised bound k = cond (is_above bound k) (Some k) bound

  -- none of the keys is above that one; without one there are none
  abbrev pub AreUpTo : Option K → List K → Type 0
  AreUpTo None ks = ks ≡ []
  AreUpTo (Some bound) ks = AllByRecursion (λ k. is_gt (cmp k bound) ≡ false) ks

  -- what is known of a run, of the other keys, and of the greatest of these
  pub record IsRising (run ks : List K) (top : Option K) : Type 0 where
    pub rises : IsStrictlySortedBy cmp run
    pub ordered : IsStrictlySortedBy cmp ks
    pub up_to : AreUpTo top ks
