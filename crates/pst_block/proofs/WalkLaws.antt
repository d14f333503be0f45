-- All blocks are walked without fault exactly where they are good and can be claimed; and what is claimed at a fault.
use Rattle.std.proofs.Common.{◌≡◌, ℕ, List, [], ◌∷◌, Option, Some, None, Result, Ok, Err, refl, sym, ap, ◌∙◌, ◌⊎◌, inl, inr}
use Rattle.std.specs.Prelude.{OnOk, IsOk, ◌↔◌}
use Rattle.pst_bytes.specs.declared.span.Span.{Span}
use Rattle.pst_fault.specs.declared.fault.Fault.{Fault}
use Rattle.pst_fault.proofs.FirstLemmas.{both_none}
use Rattle.pst_fault.proofs.GeneralLemmas.{some_is, none_is}
use Rattle.pst_page.specs.declared.entry.BlockEntry.{BlockEntry}
use Rattle.pst_space.specs.Claimed.{Claimed, claim_of, claim_all}
use Rattle.pst_space.specs.Step.{Step, ◌>>=◌, unless, claimed_or, ClaimsSome, EndsStep}
use Rattle.pst_block.specs.Block.{block_span}
use Rattle.pst_block.specs.Fault.{block_place_fault, block_trailer_fault, block_fault}
use Rattle.pst_block.specs.Good.{GoodBlock}
use Rattle.pst_block.specs.Walk.{block_step, blocks_walk, blocks_fault, block_spans, AreGood, BlocksLaw}
use Rattle.pst_block.proofs.BlockLaws.{place_law, trailer_law, block_law}
use Rattle.pst_space.proofs.ApartLemmas.{claims_law}
use Rattle.pst_space.proofs.StepLemmas.{claims_none}
use Rattle.pst_block.proofs.WalkLemmas.{go_on, stop, done}
use Rattle.pst_block.proofs.UnitLemmas.{blocks_units}

-- ---- one block

-- its three parts
abbrev step_of : Option Fault → Option Claimed → Option Fault → Span → ℕ → Claimed → Step Claimed
step_of place claim trailer span bid old = unless place old (do
  more ← claimed_or span bid old claim
  unless trailer more (Ok more))

ok_parts : (place : Option Fault) (claim : Option Claimed) (trailer : Option Fault) (span : Span) (bid : ℕ) (old new : Claimed) → step_of place claim trailer span bid old ≡ Ok new → (place ≡ None) × (claim ≡ Some new) × (trailer ≡ None)
ok_parts None (Some more) None span bid old new e = (refl, cc, refl)
ok_parts None (Some more) (Some f) span bid old new e = cc
ok_parts None None trailer span bid old new e = cc
ok_parts (Some f) claim trailer span bid old new e = cc

err_is : (x y : Claimed) (f g : Fault) → (let r : Step Claimed = Err (x, f) in r ≡ Err (y, g)) → y ≡ x
err_is x y f g e = let pairs : (x, f) ≡ (y, g) = cc in sym (ap (λ (q : Claimed × Fault). q.0) pairs)

some_sym : (x y : Claimed) → x ≡ y → (let o : Option Claimed = Some y in o ≡ Some x)
some_sym x y e = rw e refl

err_parts : (place : Option Fault) (claim : Option Claimed) (trailer : Option Fault) (span : Span) (bid : ℕ) (old new : Claimed) (f : Fault) → step_of place claim trailer span bid old ≡ Err (new, f) → (new ≡ old) ⊎ (claim ≡ Some new)
err_parts None (Some more) None span bid old new f e = cc
err_parts None (Some more) (Some g) span bid old new f e = inr (some_sym new more (err_is more new g f e))
err_parts None None trailer span bid old new f e = inl (err_is old new _ f e)
err_parts (Some g) claim trailer span bid old new f e = inl (err_is old new g f e)

step_good : (end : ℕ) (I : List ℕ) (old new : Claimed) (e : BlockEntry) → block_step end I old e ≡ Ok new → GoodBlock I end e × (claim_of old (block_span e) ≡ Some new)
unfolding block_step
step_good end I old new e h =
    let p = ok_parts (block_place_fault end e) (claim_of old (block_span e)) (block_trailer_fault I e) (block_span e) e.bid old new h in
    let lies = (place_law end e).1 p.0 in
    (record { small = lies.0; place = lies.1; trailer = (trailer_law I e).1 p.2 }, p.1)

good_step : (end : ℕ) (I : List ℕ) (old new : Claimed) (e : BlockEntry) → GoodBlock I end e → claim_of old (block_span e) ≡ Some new → block_step end I old e ≡ Ok new
unfolding block_step
good_step end I old new e g c = rw ((place_law end e).0 (g.small, g.place), c, (trailer_law I e).0 g.trailer) refl

step_claims : (end : ℕ) (I : List ℕ) (old new : Claimed) (e : BlockEntry) (f : Fault) → block_step end I old e ≡ Err (new, f) → (new ≡ old) ⊎ (claim_of old (block_span e) ≡ Some new)
unfolding block_step
step_claims end I old new e f h = err_parts (block_place_fault end e) (claim_of old (block_span e)) (block_trailer_fault I e) (block_span e) e.bid old new f h

-- ---- all blocks

ok_is : (x y : Claimed) → (let r : Step Claimed = Ok x in r ≡ Ok y) → x ≡ y
ok_is x y e = cc

err_ok : (x : Claimed × Fault) (y : Claimed) → (let r : Step Claimed = Err x in r ≡ Ok y) → ⊥
err_ok x y e = cc

ok_err : (x : Claimed) (y : Claimed × Fault) → (let r : Step Claimed = Ok x in r ≡ Err y) → ⊥
ok_err x y e = cc

-- claims, one and then the rest
claim_first : (old next new : Claimed) (s : Span) (ss : List Span) → claim_of old s ≡ Some next → claim_all next ss ≡ Some new → claim_all old (s ∷ ss) ≡ Some new
claim_first old next new s ss c rest = rw c rest

first_claim : (old new : Claimed) (s : Span) (ss : List Span) (o : Option Claimed) → claim_of old s ≡ o → claim_all old (s ∷ ss) ≡ Some new → (next : Claimed) × (claim_of old s ≡ Some next) × (claim_all next ss ≡ Some new)
first_claim old new s ss None c e = absurd (none_is new (rw c at e))
first_claim old new s ss (Some next) c e = (next, c, rw c at e)

pub walked_good : (end : ℕ) (I : List ℕ) (old new : Claimed) (entries : List BlockEntry) → blocks_walk end I old entries ≡ Ok new → AreGood I end entries × (claim_all old (block_spans entries) ≡ Some new)
walked_good end I old new [] h = (tt, rw (ok_is old new (sym (done end I old) ∙ h)) refl)
walked_good end I old new (e ∷ rest) h = by_step (block_step end I old e) refl (λ more. walked_good end I more new rest)
  where
    by_step : (s : Step Claimed) → block_step end I old e ≡ s → ((more : Claimed) → blocks_walk end I more rest ≡ Ok new → AreGood I end rest × (claim_all more (block_spans rest) ≡ Some new))
        → AreGood I end (e ∷ rest) × (claim_all old (block_spans (e ∷ rest)) ≡ Some new)
    by_step (Ok more) is later_of =
        let one = step_good end I old more e is in
        let later = later_of more (sym (go_on end I old more e rest is) ∙ h) in
        ((one.0, later.0), claim_first old more new (block_span e) (block_spans rest) one.1 later.1)
    by_step (Err x) is later_of = absurd (err_ok x new (sym (stop end I old e rest x is) ∙ h))

good_walked : (end : ℕ) (I : List ℕ) (old new : Claimed) (entries : List BlockEntry) → AreGood I end entries → claim_all old (block_spans entries) ≡ Some new → blocks_walk end I old entries ≡ Ok new
good_walked end I old new [] g c = rw (← some_is old new c) (done end I old)
good_walked end I old new (e ∷ rest) g c =
    let one = first_claim old new (block_span e) (block_spans rest) _ refl c in
    go_on end I old one.0 e rest (good_step end I old one.0 e g.0 one.1) ∙ good_walked end I one.0 new rest g.1 one.2

-- by claims, one after another
pub blocks_claims : (I : List ℕ) (end : ℕ) (old new : Claimed) (entries : List BlockEntry) → (AreGood I end entries × (claim_all old (block_spans entries) ≡ Some new)) ↔ (blocks_walk end I old entries ≡ Ok new)
blocks_claims I end old new entries = (λ (g, c). good_walked end I old new entries g c, λ h. walked_good end I old new entries h)

pub blocks_law : BlocksLaw
blocks_law I end old new entries long = (
  λ (g, c). good_walked end I old new entries g ((claims_law old new (block_spans entries) (blocks_units I end old entries long g)).1 (c.free, c.apart, c.claims)),
  λ h.
      let both = walked_good end I old new entries h in
      let c = (claims_law old new (block_spans entries) (blocks_units I end old entries long both.0)).0 both.1 in
      (both.0, record { free = c.0; apart = c.1; claims = c.2 }),
)

-- ---- what a check says

no_fault : (end : ℕ) (I : List ℕ) (entries : List BlockEntry) → AreGood I end entries → blocks_fault end I entries ≡ None
unfolding blocks_fault
no_fault end I [] g = refl
no_fault end I (e ∷ rest) g = both_none (block_fault end I e) (blocks_fault end I rest) ((block_law I end e).0 g.0) (no_fault end I rest g.1)

pub walked_no_fault : (end : ℕ) (I : List ℕ) (old new : Claimed) (entries : List BlockEntry) → blocks_walk end I old entries ≡ Ok new → blocks_fault end I entries ≡ None
walked_no_fault end I old new entries h = no_fault end I entries (walked_good end I old new entries h).0

pub good_if : {X : Type 0} (end : ℕ) (I : List ℕ) (old new : Claimed) (entries : List BlockEntry) (r : Result X Fault) → EndsStep r new (blocks_walk end I old entries) → OnOk r (AreGood I end entries)
good_if end I old new entries (Ok x) h = (walked_good end I old new entries h).0
good_if end I old new entries (Err f) h = tt

pub only_if : {X : Type 0} (end : ℕ) (I : List ℕ) (old left new : Claimed) (entries : List BlockEntry) (r : Result X Fault) → EndsStep r left (blocks_walk end I old entries) → AreGood I end entries → claim_all old (block_spans entries) ≡ Some new → IsOk r
only_if end I old left new entries (Ok x) h g c = refl
only_if end I old left new entries (Err f) h g c = let walked = good_walked end I old new entries g c in cc

-- at a fault the blocks from the first up to some one are claimed
refused_some : (end : ℕ) (I : List ℕ) (old new : Claimed) (entries : List BlockEntry) (f : Fault) → blocks_walk end I old entries ≡ Err (new, f) → ClaimsSome old new (block_spans entries)
refused_some end I old new [] f h = absurd (ok_err old (new, f) (sym (done end I old) ∙ h))
refused_some end I old new (e ∷ rest) f h = by_step (block_step end I old e) refl (λ more. refused_some end I more new rest f)
  where
    at_fault : (new ≡ old) ⊎ (claim_of old (block_span e) ≡ Some new) → ClaimsSome old new (block_spans (e ∷ rest))
    at_fault (inl is) = inl is
    at_fault (inr c) = inr (new, c, claims_none new (block_spans rest))

    by_step : (s : Step Claimed) → block_step end I old e ≡ s → ((more : Claimed) → blocks_walk end I more rest ≡ Err (new, f) → ClaimsSome more new (block_spans rest)) → ClaimsSome old new (block_spans (e ∷ rest))
    by_step (Ok more) is later_of = inr (more, (step_good end I old more e is).1, later_of more (sym (go_on end I old more e rest is) ∙ h))
    by_step (Err x) is later_of = at_fault (step_claims end I old new e f (is ∙ sym (stop end I old e rest x is) ∙ h))

claimed_some : (old new : Claimed) (spans : List Span) → claim_all old spans ≡ Some new → ClaimsSome old new spans
claimed_some old new [] c = sym (some_is old new c)
claimed_some old new (s ∷ ss) c = let one = first_claim old new s ss _ refl c in inr (one.0, one.1, claimed_some one.0 new ss one.2)

pub some_if : {X : Type 0} (end : ℕ) (I : List ℕ) (old new : Claimed) (entries : List BlockEntry) (r : Result X Fault) → EndsStep r new (blocks_walk end I old entries) → ClaimsSome old new (block_spans entries)
some_if end I old new entries (Ok x) h = claimed_some old new (block_spans entries) (walked_good end I old new entries h).1
some_if end I old new entries (Err f) h = refused_some end I old new entries f h
