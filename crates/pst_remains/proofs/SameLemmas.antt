-- A check that stops at its first fault, and a walk that tells each fault: the first that is told is the one that stops the check,
-- and where none is told both find the same.
use Rattle.std.proofs.Common.{◌≡◌, ℕ, suc, zero, ◌+◌, Bool, true, false, cond, List, [], ◌∷◌, ◌++◌, Option, Some, None, Ok, Err, refl, sym, ap, ◌∙◌, append_assoc}
use Rattle.std.specs.Prelude.{is_none, ◌||◌}
use Rattle.std.proofs.lemmas.List.{append-nil}
use Rattle.pst_bytes.specs.declared.span.Span.{Span}
use Rattle.pst_fault.specs.declared.fault.Fault.{Fault}
use Rattle.pst_fault.specs.declared.kind.Kind.TheVariants.{Overlap}
use Rattle.pst_fault.specs.Fault.{fault_in}
use Rattle.pst_fault.specs.First.{◌then◌, holds_or}
use Rattle.pst_header.specs.declared.header.Bref.{Bref}
use Rattle.pst_page.specs.declared.kind.PageKind.{PageKind}
use Rattle.pst_page.specs.declared.entry.BlockEntry.{BlockEntry}
use Rattle.pst_page.specs.Page.{entries_at}
use Rattle.pst_page.specs.Entry.{key_at, child_at}
use Rattle.pst_page.specs.Fault.{page_place_fault}
use Rattle.pst_space.specs.Claimed.{Claimed, claim_of, is_clear, first_unit, unit_count, with_span}
use Rattle.pst_space.specs.Step.{Step, ◌>>=◌, unless, claimed_or}
use Rattle.pst_btree.specs.Tree.{span_of}
use Rattle.pst_btree.specs.Walk.{Found, found_so_far, Visit, body_fault, children, walk_of, opened, next_key}
use Rattle.pst_block.specs.Block.{block_span}
use Rattle.pst_block.specs.Fault.{block_place_fault, block_trailer_fault}
use Rattle.pst_block.specs.Walk.{block_step, blocks_walk}
use Rattle.pst_remains.specs.declared.pages.Broken.{Broken}
use Rattle.pst_remains.specs.Judged.{overlap_fault}
use Rattle.pst_remains.specs.Blocks.{BlocksLeft, block_damage, told_block, with_block, with_blocks}
use Rattle.pst_remains.specs.Pages.{Left, Look, claim_fault, page_damage, is_followed, is_open, leaf_entries, keys_end, look_at, look_each, look_on, told_page, with_leaf, with_page}
use Rattle.pst_remains.proofs.LeafLemmas.{leaf_entries-append}

-- ---- one that claims: its place, its claim, and then the rest

-- a step of a check, beside the first fault of what it looks at
abbrev pub Stops : Option Fault → Claimed → Step Claimed → Type 0
Stops None more step = step ≡ Ok more
Stops (Some f) more step = (c : Claimed) × (step ≡ Err (c, f))

one_stops : (p b : Option Fault) (clear : Bool) (claimed more : Claimed) (span : Span) (bid : ℕ)
    → Stops ((p then holds_or clear (fault_in Overlap span.at bid)) then b) more (unless p claimed (claimed_or span bid claimed (cond clear (Some more) None) >>= λ c. unless b c (Ok c)))
one_stops (Some f) b clear claimed more span bid = (claimed, refl)
one_stops None b false claimed more span bid = (claimed, refl)
one_stops None None true claimed more span bid = refl
one_stops None (Some f) true claimed more span bid = (more, refl)

two_stops : (p b : Option Fault) (clear : Bool) (claimed more : Claimed) (span : Span) (bid : ℕ)
    → Stops (p then holds_or clear (fault_in Overlap span.at bid) then b) more (unless p claimed (claimed_or span bid claimed (cond clear (Some more) None) >>= λ c. unless b c (Ok c)))
two_stops (Some f) b clear claimed more span bid = (claimed, refl)
two_stops None b false claimed more span bid = (claimed, refl)
two_stops None None true claimed more span bid = refl
two_stops None (Some f) true claimed more span bid = (more, refl)

page_stops : (kind : PageKind) (I : List ℕ) (end level : ℕ) (claimed : Claimed) (page : Bref) (low : ℕ) (high : Option ℕ)
    → Stops (page_damage kind I end level claimed page low high) (with_span claimed (span_of page)) (opened kind I end level claimed page low high)
unfolding page_damage claim_fault overlap_fault opened claim_of
page_stops kind I end level claimed page low high = one_stops (page_place_fault end page) (body_fault kind I level page low high) (is_clear claimed (first_unit (span_of page)) (unit_count (span_of page))) claimed (with_span claimed (span_of page)) (span_of page) page.bid

block_stops : (end : ℕ) (I : List ℕ) (claimed : Claimed) (e : BlockEntry) → Stops (block_damage end I claimed e) (with_span claimed (block_span e)) (block_step end I claimed e)
unfolding block_damage overlap_fault block_step claim_of
block_stops end I claimed e = two_stops (block_place_fault end e) (block_trailer_fault I e) (is_clear claimed (first_unit (block_span e)) (unit_count (block_span e))) claimed (with_span claimed (block_span e)) (block_span e) e.bid

-- ---- blocks

abbrev pub BlocksFollow : BlocksLeft → List BlockEntry → Step Claimed → BlocksLeft → Type 0
BlocksFollow b entries (Ok new) now = (now.claimed ≡ new) × (now.faults ≡ b.faults) × (now.good ≡ b.good ++ entries)
BlocksFollow b entries (Err stop) now = (rest : List Fault) × (now.faults ≡ b.faults ++ stop.1 ∷ rest)

-- faults are added to those before
abbrev pub AddsFaults : BlocksLeft → BlocksLeft → Type 0
AddsFaults b now = (rest : List Fault) × (now.faults ≡ b.faults ++ rest)

told_more : (end : ℕ) (I : List ℕ) (b : BlocksLeft) (e : BlockEntry) (entries : List BlockEntry) → ((x : BlocksLeft) → AddsFaults x (with_blocks end I x entries)) → (d : Option Fault) → AddsFaults b (with_blocks end I (told_block d b e) entries)
told_more end I b e entries more None = more (told_block None b e)
told_more end I b e entries more (Some f) =
    let h = more (told_block (Some f) b e) in
    (f ∷ h.0, h.1 ∙ append_assoc b.faults (f ∷ []) h.0)

faults_more : (end : ℕ) (I : List ℕ) (b : BlocksLeft) (entries : List BlockEntry) → AddsFaults b (with_blocks end I b entries)
unfolding with_blocks with_block
faults_more end I b [] = ([], sym (append-nil b.faults))
faults_more end I b (e ∷ entries) = told_more end I b e entries (λ x. faults_more end I x entries) (block_damage end I b.claimed e)

after_good : (b now : BlocksLeft) (e : BlockEntry) (entries : List BlockEntry) (step : Step Claimed) → BlocksFollow (told_block None b e) entries step now → BlocksFollow b (e ∷ entries) step now
after_good b now e entries (Ok new) h = (h.0, h.1, h.2 ∙ append_assoc b.good (e ∷ []) entries)
after_good b now e entries (Err stop) h = h

told_follow : (end : ℕ) (I : List ℕ) (b : BlocksLeft) (e : BlockEntry) (entries : List BlockEntry) → BlocksFollow (told_block None b e) entries (blocks_walk end I (with_span b.claimed (block_span e)) entries) (with_blocks end I (told_block None b e) entries)
    → (d : Option Fault) (step : Step Claimed) → Stops d (with_span b.claimed (block_span e)) step → BlocksFollow b (e ∷ entries) (step >>= λ more. blocks_walk end I more entries) (with_blocks end I (told_block d b e) entries)
told_follow end I b e entries follow None step h =
    rw h (after_good b (with_blocks end I (told_block None b e) entries) e entries (blocks_walk end I (with_span b.claimed (block_span e)) entries) follow)
told_follow end I b e entries follow (Some f) step h =
    let more = faults_more end I (told_block (Some f) b e) entries in
    rw h.1 (more.0, more.1 ∙ append_assoc b.faults (f ∷ []) more.0)

pub blocks_follow : (end : ℕ) (I : List ℕ) (b : BlocksLeft) (entries : List BlockEntry) → BlocksFollow b entries (blocks_walk end I b.claimed entries) (with_blocks end I b entries)
unfolding with_blocks with_block blocks_walk
blocks_follow end I b [] = (refl, refl, sym (append-nil b.good))
blocks_follow end I b (e ∷ entries) =
    told_follow end I b e entries (blocks_follow end I (told_block None b e) entries) (block_damage end I b.claimed e) (block_step end I b.claimed e) (block_stops end I b.claimed e)

-- ---- pages

abbrev pub PagesFollow : List ℕ → List ℕ → Left → Step Found → Left → Type 0
PagesFollow I entries left (Ok new) now = (more : List ℕ) × (now.claimed ≡ new.claimed) × (now.broken ≡ left.broken) × (now.leaves ≡ left.leaves ++ more) × (new.entries ≡ entries ++ leaf_entries I more)
PagesFollow I entries left (Err stop) now = (b : Broken) × (rest : List Broken) × (b.fault ≡ stop.1) × (now.broken ≡ left.broken ++ b ∷ rest)

-- pages with a fault are added to those before
abbrev pub AddsBroken : Left → Left → Type 0
AddsBroken left now = (rest : List Broken) × (now.broken ≡ left.broken ++ rest)

adds_after : (left mid now : Left) → AddsBroken left mid → AddsBroken mid now → AddsBroken left now
adds_after left mid now a b = (a.0 ++ b.0, b.1 ∙ ap (λ (xs : List Broken). xs ++ b.0) a.1 ∙ append_assoc left.broken a.0 b.0)

told_adds : (d : Option Fault) (left : Left) (page : Bref) (from : ℕ) (high : Option ℕ) → AddsBroken left (told_page d left page from high)
told_adds None left page from high = ([], sym (append-nil left.broken))
told_adds (Some f) left page from high = (record { fault = f; from = from; high = high } ∷ [], refl)

module _ (kind : PageKind) (I : List ℕ) (end : ℕ) where
  abbrev LookAdds : Look → Type 0
  LookAdds look = (left : Left) (page : Bref) (from low : ℕ) (high : Option ℕ) → AddsBroken left (look left page from low high)

  each_adds : (look : Look) → LookAdds look → (from : ℕ) (high : Option ℕ) (left : Left) (entries : List ℕ) → AddsBroken left (look_each kind I look from high left entries)
  unfolding look_each
  each_adds look adds from high left [] = ([], sym (append-nil left.broken))
  each_adds look adds from high left (at ∷ rest) =
      let next = look left (child_at I at) from (key_at kind I at) (next_key kind I rest high) in
      adds_after left next (look_each kind I look (keys_end (next_key kind I rest high)) high next rest) (adds left (child_at I at) from (key_at kind I at) (next_key kind I rest high)) (each_adds look adds (keys_end (next_key kind I rest high)) high next rest)

  on_adds : (b : Bool) (below : Left → Left) (left mid : Left) → AddsBroken left mid → AddsBroken mid (below mid) → AddsBroken left (look_on b below mid)
  on_adds true below left mid a c = adds_after left mid (below mid) a c
  on_adds false below left mid a c = a

  look_adds : (level : ℕ) → LookAdds (look_at kind I end level)
  unfolding look_at with_page
  look_adds zero = λ left page from low high.
      on_adds (is_open kind I end 0 left.claimed page low high) (with_leaf page) left (told_page (page_damage kind I end 0 left.claimed page low high) left page from high) (told_adds (page_damage kind I end 0 left.claimed page low high) left page from high) ([], sym (append-nil (told_page (page_damage kind I end 0 left.claimed page low high) left page from high).broken))
  look_adds (suc level) = λ left page from low high.
      on_adds (is_open kind I end (suc level) left.claimed page low high) (λ passed. look_each kind I (look_at kind I end level) from high passed (entries_at I page.ib)) left (told_page (page_damage kind I end (suc level) left.claimed page low high) left page from high) (told_adds (page_damage kind I end (suc level) left.claimed page low high) left page from high)
      (each_adds (look_at kind I end level) (look_adds level) from high (told_page (page_damage kind I end (suc level) left.claimed page low high) left page from high) (entries_at I page.ib))

  abbrev LookFollows : Look → Visit → Type 0
  LookFollows look visit = (found : Found) (left : Left) (page : Bref) (from low : ℕ) (high : Option ℕ) → found.claimed ≡ left.claimed → PagesFollow I found.entries left (visit found page low high) (look left page from low high)

  -- what follows a part follows the whole
  follows_on : (entries : List ℕ) (left mid now : Left) (new : Found) (step : Step Found) → PagesFollow I entries left (Ok new) mid → PagesFollow I new.entries mid step now → PagesFollow I entries left step now
  follows_on entries left mid now new (Ok last) a b = (
    a.0 ++ b.0,
    b.1,
    b.2 ∙ a.2,
    b.3 ∙ ap (λ (xs : List ℕ). xs ++ b.0) a.3 ∙ append_assoc left.leaves a.0 b.0,
    b.4 ∙ ap (λ (xs : List ℕ). xs ++ leaf_entries I b.0) a.4 ∙ append_assoc entries (leaf_entries I a.0) (leaf_entries I b.0) ∙ sym (ap (λ (xs : List ℕ). entries ++ xs) (leaf_entries-append I a.0 b.0)),
  )
  follows_on entries left mid now new (Err stop) a b = (b.0, b.1, b.2, b.3 ∙ ap (λ (xs : List Broken). xs ++ b.0 ∷ b.1) a.2)

  -- and so does what stops it
  stops_on : (entries : List ℕ) (left mid now : Left) (stop : Claimed × Fault) → PagesFollow I entries left (Err stop) mid → AddsBroken mid now → PagesFollow I entries left (Err stop) now
  stops_on entries left mid now stop a b = (a.0, a.1 ++ b.0, a.2, b.1 ∙ ap (λ (xs : List Broken). xs ++ b.0) a.3 ∙ append_assoc left.broken (a.0 ∷ a.1) b.0)

  after_one : (look : Look) (visit : Visit) → LookAdds look → (from : ℕ) (high : Option ℕ) (rest entries : List ℕ) (left mid : Left) (step : Step Found)
      → ((new : Found) → new.claimed ≡ mid.claimed → PagesFollow I new.entries mid (children kind I visit high new rest) (look_each kind I look from high mid rest))
      → PagesFollow I entries left step mid → PagesFollow I entries left (step >>= λ next. children kind I visit high next rest) (look_each kind I look from high mid rest)
  after_one look visit adds from high rest entries left mid (Ok new) go h =
      follows_on entries left mid (look_each kind I look from high mid rest) new (children kind I visit high new rest) h (go new (sym h.1))
  after_one look visit adds from high rest entries left mid (Err stop) go h =
      stops_on entries left mid (look_each kind I look from high mid rest) stop h (each_adds look adds from high mid rest)

  each_follows : (look : Look) (visit : Visit) → LookAdds look → LookFollows look visit → (found : Found) (left : Left) (from : ℕ) (high : Option ℕ) (entries : List ℕ) → found.claimed ≡ left.claimed
      → PagesFollow I found.entries left (children kind I visit high found entries) (look_each kind I look from high left entries)
  unfolding look_each children
  each_follows look visit adds follows found left from high [] same = ([], sym same, refl, sym (append-nil left.leaves), sym (append-nil found.entries))
  each_follows look visit adds follows found left from high (at ∷ rest) same =
      let mid = look left (child_at I at) from (key_at kind I at) (next_key kind I rest high) in
      after_one look visit adds (keys_end (next_key kind I rest high)) high rest found.entries left mid (visit found (child_at I at) (key_at kind I at) (next_key kind I rest high))
      (λ new h. each_follows look visit adds follows new mid (keys_end (next_key kind I rest high)) high rest h)
      (follows found left (child_at I at) from (key_at kind I at) (next_key kind I rest high) same)

  -- a page, and what is looked at below it
  page_follows : (d : Option Fault) (followed : Bool) (entries : List ℕ) (left : Left) (page : Bref) (from : ℕ) (high : Option ℕ) (step : Step Claimed) (below : Left → Left) (go : Claimed → Step Found)
      → Stops d (with_span left.claimed (span_of page)) step → ((mid : Left) → AddsBroken mid (below mid)) → PagesFollow I entries left (go (with_span left.claimed (span_of page))) (below (told_page None left page from high))
      → PagesFollow I entries left (step >>= go) (look_on (is_none d || followed) below (told_page d left page from high))
  page_follows None followed entries left page from high step below go h adds on = rw h on
  page_follows (Some f) true entries left page from high step below go h adds on =
      rw h.1 (stops_on entries left (told_page (Some f) left page from high) (below (told_page (Some f) left page from high)) (h.0, f) (record { fault = f; from = from; high = high }, [], refl, refl) (adds (told_page (Some f) left page from high)))
  page_follows (Some f) false entries left page from high step below go h adds on = rw h.1 (record { fault = f; from = from; high = high }, [], refl, refl)

  same_base : (entries : List ℕ) (left now : Left) (page : Bref) (from : ℕ) (high : Option ℕ) (step : Step Found) → PagesFollow I entries (told_page None left page from high) step now → PagesFollow I entries left step now
  same_base entries left now page from high (Ok new) h = h
  same_base entries left now page from high (Err stop) h = h

  pub look_follows : (level : ℕ) → LookFollows (look_at kind I end level) (walk_of kind I end level)
  unfolding look_at with_page walk_of is_open
  look_follows zero = λ found left page from low high same.
      rw same (page_follows (page_damage kind I end 0 left.claimed page low high) (is_followed kind I end 0 left.claimed page low high) found.entries left page from high (opened kind I end 0 left.claimed page low high)
      (with_leaf page) (λ claimed. Ok (found_so_far claimed (found.entries ++ entries_at I page.ib) (found.pages + 1))) (page_stops kind I end 0 left.claimed page low high)
      (λ mid. ([], sym (append-nil mid.broken))) (page.ib ∷ [], refl, refl, refl, ap (λ (es : List ℕ). found.entries ++ es) (sym (append-nil (entries_at I page.ib)))))
  look_follows (suc level) = λ found left page from low high same.
      rw same (page_follows (page_damage kind I end (suc level) left.claimed page low high) (is_followed kind I end (suc level) left.claimed page low high) found.entries left page from high (opened kind I end (suc level) left.claimed page low high)
      (λ passed. look_each kind I (look_at kind I end level) from high passed (entries_at I page.ib)) (λ claimed. children kind I (walk_of kind I end level) high (found_so_far claimed found.entries (found.pages + 1)) (entries_at I page.ib))
      (page_stops kind I end (suc level) left.claimed page low high) (λ mid. each_adds (look_at kind I end level) (look_adds level) from high mid (entries_at I page.ib))
      (same_base found.entries left (look_each kind I (look_at kind I end level) from high (told_page None left page from high) (entries_at I page.ib)) page from high (children kind I (walk_of kind I end level) high (found_so_far (with_span left.claimed (span_of page)) found.entries (found.pages + 1)) (entries_at I page.ib)) (each_follows (look_at kind I end level) (walk_of kind I end level) (look_adds level) (look_follows level) (found_so_far (with_span left.claimed (span_of page)) found.entries (found.pages + 1)) (told_page None left page from high) from high (entries_at I page.ib) refl)))
