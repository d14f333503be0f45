-- What a change makes of the bytes of an image.
use Rattle.std.specs.Prelude.{◌≡◌, ℕ, ⊤, ◌+◌, ◌<◌, ◌⊎◌, List, [], ◌∷◌, ◌++◌, length, take, set, get_or, replicate, bit_xor}
use Rattle.pst_make.specs.declared.change.Change.{Change}
use Rattle.pst_make.specs.declared.change.Change.TheVariants.{Set, Flip, Cut, Grow, Header, Page, Block}
use Rattle.pst_make.specs.declared.change.ChangeFault.{ChangeFault}
use Rattle.pst_make.specs.declared.change.ChangeFault.TheVariants.{PastEnd, Memory}
use Rattle.pst_make.specs.Elsewhere.{overwritten, SameElsewhere}
use Rattle.pst_make.specs.Sealed.{SealedHeader, SealedPage, SealedBlock, header_checks, page_checks, block_checks, sealed_size}

-- the lowest bit of a byte is the other one
abbrev pub flipped : List ℕ → ℕ → List ℕ
flipped I at = set I at (bit_xor (get_or I at 0) 1)

-- how many bytes an image has that is changed so
abbrev pub reach_of : Change → ℕ
reach_of (Set at bytes) = at + length bytes.now
reach_of (Flip at) = at + 1
reach_of (Cut len) = 0
reach_of (Grow more) = 0
reach_of Header = 564
reach_of (Page at) = at + 512
reach_of (Block at cb) = at + sealed_size cb

-- the new bytes are what the change makes of the old
abbrev pub IsChanged : Change → List ℕ → List ℕ → Type 0
IsChanged (Set at bytes) old new = new ≡ overwritten old at bytes.now
IsChanged (Flip at) old new = new ≡ flipped old at
IsChanged (Cut len) old new = new ≡ take len old
IsChanged (Grow more) old new = new ≡ old ++ replicate more 0
IsChanged Header old new = SealedHeader new × SameElsewhere old new header_checks
IsChanged (Page at) old new = SealedPage new at × SameElsewhere old new (page_checks at)
IsChanged (Block at cb) old new = SealedBlock new at cb × SameElsewhere old new (block_checks at cb)

-- a change that makes the image longer, which alone needs memory
abbrev pub IsGrowth : Change → Type 0
IsGrowth (Grow more) = ⊤
IsGrowth other = ⊥

-- with which fault a change can't be done
abbrev pub FailsWith : Change → List ℕ → ChangeFault → Type 0
FailsWith change old PastEnd = length old < reach_of change
FailsWith change old Memory = IsGrowth change

-- one after another
unfoldable pub AreChanged : List Change → List ℕ → List ℕ → Type 0
AreChanged [] old new = new ≡ old
AreChanged (first ∷ rest) old new = (between : List ℕ) × IsChanged first old between × AreChanged rest between new

-- those before the first that can't be done are done, and that one is not
unfoldable pub StopsAt : List Change → List ℕ → List ℕ → ChangeFault → Type 0
StopsAt [] old new fault = ⊥
StopsAt (first ∷ rest) old new fault =
    ((new ≡ old) × FailsWith first old fault) ⊎ ((between : List ℕ) × IsChanged first old between × StopsAt rest between new fault)
