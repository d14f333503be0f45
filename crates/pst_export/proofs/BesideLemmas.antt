-- Files that lie beside one another: behind what their names have in common other parts stand, words or identifiers without a slash.
use Rattle.std.proofs.Common.{◌≡◌, ◌≢◌, ◌<◌, ◌+◌, ◌%◌, ◌/◌, ◌^◌, ℕ, zero, suc, Bool, true, false, List, [], ◌∷◌, ◌++◌, AllPairs, refl, sym, ap, subst, ◌∙◌, arith, append_assoc, true≢false}
use Rattle.std.specs.Prelude.{◌&&◌, not, nat_eq, nat_lt, if◌then◌else◌, codes, flat_map, ◌==◌, bytes_eq}
use Rattle.std.specs.Fmt.{digit_glyph, digits, digits_onto}
use Rattle.std.specs.List.{All, list_all}
use Rattle.std.specs.Str.Parse.{digits_value}
use Rattle.std.proofs.lemmas.Bool.{ne_eqb}
use Rattle.std.proofs.lemmas.Fmt.{digits_is_IsNumeral}
use Rattle.std.proofs.lemmas.List.{append_cancel_left}
use Rattle.std.proofs.lemmas.List.Elements.{All-append, All-head, All-nil, All-tail}
use Rattle.std.proofs.lemmas.List.Kept.{AllPairs-cons}
use Rattle.std.proofs.lemmas.Slice.Eq.{bytes_eq-Decides}
use Rattle.pst_value_json.specs.pst_text.Names.{nid_text}
use Rattle.pst_tar.specs.Archive.{Member}
use Rattle.pst_export.specs.Held.{folder_in}
use Rattle.pst_export.specs.Laws.{IsBeside, IsFolderOf}

-- ---- pairs of elements of lists

pub pairs_nil : {X : Type 0} (R : X → X → Type 0) → AllPairs R []
pairs_nil R i j d below within = absurd (omega arith)

pub pairs_one : {X : Type 0} (R : X → X → Type 0) (x : X) → AllPairs R (x ∷ [])
pairs_one R x i j d below within = absurd (omega arith)

pub pairs_head : {X : Type 0} (R : X → X → Type 0) (x : X) (xs : List X) → AllPairs R (x ∷ xs) → All (R x) xs
pairs_head R x xs all k d within = all 0 (suc k) d (omega arith) (omega arith)

pub pairs_tail : {X : Type 0} (R : X → X → Type 0) (x : X) (xs : List X) → AllPairs R (x ∷ xs) → AllPairs R xs
pairs_tail R x xs all i j d below within = all (suc i) (suc j) d (omega arith) (omega arith)

pub pairs_joined : {X : Type 0} (R : X → X → Type 0) (xs ys : List X) → AllPairs R xs → AllPairs R ys → All (λ x. All (R x) ys) xs → AllPairs R (xs ++ ys)
pairs_joined R [] ys first second across = second
pairs_joined R (x ∷ xs) ys first second across =
    AllPairs-cons R x (xs ++ ys) (All-append (R x) xs ys (pairs_head R x xs first) (All-head (λ x. All (R x) ys) x xs across))
    (pairs_joined R xs ys (pairs_tail R x xs first) second (All-tail (λ x. All (R x) ys) x xs across))

-- ---- parts of names: no slash is in them, and behind them a name ends, or a slash stands

abbrev pub is_inner : ℕ → Bool
is_inner c = not (nat_eq c 47)

abbrev pub is_behind : List ℕ → Bool
is_behind [] = true
is_behind (c ∷ rest) = nat_eq c 47

no_behind : {P : Type 0} (b : Bool) → not b ≡ true → b ≡ true → P
no_behind true inner end = absurd cc
no_behind false inner end = absurd cc

first_inner : (c : ℕ) (rest : List ℕ) → list_all is_inner (c ∷ rest) ≡ true → is_inner c ≡ true
first_inner c rest all = by_test (is_inner c) all
  where
    by_test : (b : Bool) → (b && list_all is_inner rest) ≡ true → b ≡ true
    by_test true is = refl
    by_test false is = absurd cc

rest_inner : (c : ℕ) (rest : List ℕ) → list_all is_inner (c ∷ rest) ≡ true → list_all is_inner rest ≡ true
rest_inner c rest all = by_test (is_inner c) all
  where
    by_test : (b : Bool) → (b && list_all is_inner rest) ≡ true → list_all is_inner rest ≡ true
    by_test true is = is
    by_test false is = absurd cc

ends_there : {P : Type 0} (c : ℕ) (more x : List ℕ) → is_inner c ≡ true → is_behind x ≡ true → x ≡ c ∷ more → P
ends_there c more x inner end is = no_behind (nat_eq c 47) inner (subst (λ l. is_behind l ≡ true) is end)

first_same : (c d : ℕ) (xs ys : List ℕ) → c ∷ xs ≡ d ∷ ys → c ≡ d
first_same c d xs ys is = cc

rest_same : (c d : ℕ) (xs ys : List ℕ) → c ∷ xs ≡ d ∷ ys → xs ≡ ys
rest_same c d xs ys is = cc

pub parted : (a b x y : List ℕ) → list_all is_inner a ≡ true → list_all is_inner b ≡ true → is_behind x ≡ true → is_behind y ≡ true → a ++ x ≡ b ++ y → a ≡ b
parted [] [] x y inner other end last is = refl
parted [] (d ∷ b) x y inner other end last is = ends_there d (b ++ y) x (first_inner d b other) end is
parted (c ∷ a) [] x y inner other end last is = ends_there c (a ++ x) y (first_inner c a inner) last (sym is)
parted (c ∷ a) (d ∷ b) x y inner other end last is =
    let rest : a ≡ b = parted a b x y (rest_inner c a inner) (rest_inner d b other) end last (rest_same c d (a ++ x) (b ++ y) is) in
    ap (λ e. e ∷ a) (first_same c d (a ++ x) (b ++ y) is) ∙ ap (λ l. d ∷ l) rest

-- a name in which a part stands behind some front
abbrev pub IsAt : List ℕ → List ℕ → List ℕ → Type 0
IsAt front part name = (rest : List ℕ) × (is_behind rest ≡ true) × (name ≡ front ++ (part ++ rest))

-- so has a name in the folder that such a name is
at_below : (front part name other : List ℕ) → IsAt front part name → IsFolderOf name other → IsAt front part other
at_below front part name other at below =
    let x = at.0 in
    let rest = below.0 in
    let longer : other ≡ front ++ (part ++ (x ++ 47 ∷ rest)) =
    below.1 ∙ append_assoc name (codes "/") rest ∙ ap (λ l. l ++ 47 ∷ rest) at.2 ∙ append_assoc front (part ++ x) (47 ∷ rest)
    ∙ ap (λ l. front ++ l) (append_assoc part x (47 ∷ rest)) in
    (x ++ 47 ∷ rest, still x at.1, longer)
  where
    still : (x : List ℕ) → is_behind x ≡ true → is_behind (x ++ 47 ∷ below.0) ≡ true
    still [] end = refl
    still (c ∷ more) end = end

same_part : (front a b m n : List ℕ) → list_all is_inner a ≡ true → list_all is_inner b ≡ true → IsAt front a m → IsAt front b n → m ≡ n → a ≡ b
same_part front a b m n inner other at also is =
    parted a b at.0 also.0 inner other at.1 also.1 (append_cancel_left front (a ++ at.0) (b ++ also.0) (sym at.2 ∙ is ∙ also.2))

-- Files lie beside one another whose names have other parts behind one front.
pub beside_parts : (front a b : List ℕ) (m n : Member) → list_all is_inner a ≡ true → list_all is_inner b ≡ true → a ≢ b → IsAt front a m.name → IsAt front b n.name → IsBeside m n
beside_parts front a b m n inner other differ at also = record {
  names = λ is. differ (same_part front a b m.name n.name inner other at also is);
  inside = λ below. differ (same_part front a b n.name n.name inner other (at_below front a m.name n.name at below) also refl);
  around = λ below. differ (same_part front a b m.name m.name inner other at (at_below front b n.name m.name also below) refl);
}

-- ---- the texts of identifiers

-- of numbers of 32 bits no two have one text
pub nid_same : (a b : ℕ) → a < 2 ^ 32 → b < 2 ^ 32 → nid_text a ≡ nid_text b → a ≡ b
nid_same a b small less is =
    let digits_same : digits 16 false a ≡ digits 16 false b = append_cancel_left (codes "0x") (digits 16 false a) (digits 16 false b) is in
    sym (digits_is_IsNumeral 16 false (omega arith) (omega arith) a (omega arith)).1
    ∙ ap (digits_value 16) digits_same ∙ (digits_is_IsNumeral 16 false (omega arith) (omega arith) b (omega arith)).1

glyph_inner : (d : ℕ) → is_inner (digit_glyph false d) ≡ true
glyph_inner d = by_ten (nat_lt d 10) refl
  where
    by_ten : (b : Bool) → nat_lt d 10 ≡ b → is_inner (digit_glyph false d) ≡ true
    by_ten true is = rw is (rw (ne_eqb (48 + d) 47 (λ e. omega (arith, e))) refl)
    by_ten false is = rw is (rw (ne_eqb (87 + d) 47 (λ e. omega (arith, e))) refl)

inner_front : (d : ℕ) (text : List ℕ) → list_all is_inner text ≡ true → list_all is_inner (digit_glyph false d ∷ text) ≡ true
inner_front d text is = ap (λ b. b && list_all is_inner text) (glyph_inner d) ∙ is

inner_digits : (k n : ℕ) (text : List ℕ) → list_all is_inner text ≡ true → list_all is_inner (digits_onto k 16 false n text) ≡ true
inner_digits zero n text is = is
inner_digits (suc k) n text is =
    let front = inner_front (n % 16) text is in
    elim (n / 16 == 0) as (λ b. list_all is_inner (if b then digit_glyph false (n % 16) ∷ text else digits_onto k 16 false (n / 16) (digit_glyph false (n % 16) ∷ text)) ≡ true) [
      | true ↦ front
      | false ↦ inner_digits k (n / 16) (digit_glyph false (n % 16) ∷ text) front
    ]

pub nid_inner : (nid : ℕ) → list_all is_inner (nid_text nid) ≡ true
unfolding digits
nid_inner nid = inner_digits 64 nid [] refl

-- ---- words

pub words_differ : (a b : List ℕ) → bytes_eq a b ≡ false → a ≢ b
words_differ a b apart is = true≢false (sym ((bytes_eq-Decides a b).1 is) ∙ apart)

-- a word that begins with another letter is no identifier
pub no_nid : (c : ℕ) (word : List ℕ) (nid : ℕ) → nat_eq c 48 ≡ false → c ∷ word ≢ nid_text nid
no_nid c word nid other is = true≢false (ap (λ x. nat_eq x 48) (sym (first_same c 48 word (120 ∷ digits 16 false nid) is)) ∙ other)

-- ---- parts of a folder, each with its files

pub record Slot : Type 0 where
  pub part : List ℕ
  pub files : List Member

abbrev pub slot_of : List ℕ → List Member → Slot
slot_of part files = record { part = part; files = files }

abbrev pub slot_files : Slot → List Member
slot_files s = s.files

-- its files lie beside one another, and each of their names has the part behind a front
pub record IsFit (front : List ℕ) (s : Slot) : Type 0 where
  pub inner : list_all is_inner s.part ≡ true
  pub beside : AllPairs IsBeside s.files
  pub at : All (λ m. IsAt front s.part m.name) s.files

abbrev pub HaveOtherParts : Slot → Slot → Type 0
HaveOtherParts a b = a.part ≢ b.part

-- those of two lie so
across_two : (front : List ℕ) (a b : Slot) → IsFit front a → IsFit front b → HaveOtherParts a b → All (λ m. All (IsBeside m) b.files) a.files
across_two front a b fit also differ k d within j e inside =
    beside_parts front a.part b.part _ _ fit.inner also.inner differ (fit.at k d within) (also.at j e inside)

across_all : (front : List ℕ) (a : Slot) (slots : List Slot) → IsFit front a → All (IsFit front) slots → All (HaveOtherParts a) slots
    → All (λ m. All (IsBeside m) (flat_map slot_files slots)) a.files
across_all front a [] fit fits differ k d within = All-nil (IsBeside _)
across_all front a (b ∷ slots) fit fits differ k d within =
    let here = across_two front a b fit (All-head (IsFit front) b slots fits) (All-head (HaveOtherParts a) b slots differ) in
    let later = across_all front a slots fit (All-tail (IsFit front) b slots fits) (All-tail (HaveOtherParts a) b slots differ) in
    All-append (IsBeside _) b.files (flat_map slot_files slots) (here k d within) (later k d within)

pub slots_beside : (front : List ℕ) (slots : List Slot) → All (IsFit front) slots → AllPairs HaveOtherParts slots → AllPairs IsBeside (flat_map slot_files slots)
slots_beside front [] fits differ = pairs_nil IsBeside
slots_beside front (a ∷ slots) fits differ =
    let fit = All-head (IsFit front) a slots fits in
    let others = All-tail (IsFit front) a slots fits in
    pairs_joined IsBeside a.files (flat_map slot_files slots) fit.beside (slots_beside front slots others (pairs_tail HaveOtherParts a slots differ))
    (across_all front a slots fit others (pairs_head HaveOtherParts a slots differ))

-- ---- all files of a folder

abbrev pub IsIn : List ℕ → Member → Type 0
IsIn folder m = IsFolderOf folder m.name

pub record AreFine (folder : List ℕ) (files : List Member) : Type 0 where
  pub beside : AllPairs IsBeside files
  pub inside : All (IsIn folder) files

slot_inside : (folder : List ℕ) (s : Slot) → IsFit (folder ++ codes "/") s → All (IsIn folder) s.files
slot_inside folder s fit k d within = let at = fit.at k d within in (s.part ++ at.0, at.2)

slots_inside : (folder : List ℕ) (slots : List Slot) → All (IsFit (folder ++ codes "/")) slots → All (IsIn folder) (flat_map slot_files slots)
slots_inside folder [] fits = All-nil (IsIn folder)
slots_inside folder (s ∷ slots) fits =
    All-append (IsIn folder) s.files (flat_map slot_files slots) (slot_inside folder s (All-head (IsFit (folder ++ codes "/")) s slots fits))
    (slots_inside folder slots (All-tail (IsFit (folder ++ codes "/")) s slots fits))

pub slots_fine : (folder : List ℕ) (slots : List Slot) → All (IsFit (folder ++ codes "/")) slots → AllPairs HaveOtherParts slots → AreFine folder (flat_map slot_files slots)
slots_fine folder slots fits differ = record { beside = slots_beside (folder ++ codes "/") slots fits differ; inside = slots_inside folder slots fits }

-- the files of a folder that is called as a node, among those of the folder that it is in
nid_at : (folder : List ℕ) (nid : ℕ) (name : List ℕ) → IsFolderOf (folder_in folder nid) name → IsAt (folder ++ codes "/") (nid_text nid) name
nid_at folder nid name below =
    let rest = below.0 in
    (47 ∷ rest, refl, below.1 ∙ append_assoc (folder_in folder nid) (codes "/") rest ∙ append_assoc (folder ++ codes "/") (nid_text nid) (47 ∷ rest))

pub nid_fit : (folder : List ℕ) (nid : ℕ) (files : List Member) → AreFine (folder_in folder nid) files → IsFit (folder ++ codes "/") (slot_of (nid_text nid) files)
nid_fit folder nid files fine = record {
  inner = nid_inner nid;
  beside = fine.beside;
  at = λ k d within. nid_at folder nid _ (fine.inside k d within);
}
