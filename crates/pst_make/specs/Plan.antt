-- What a plan names: bodies and their lengths, and identifiers.
use Rattle.std.specs.Prelude.{ℕ, zero, suc, ◌+◌, ◌*◌, ◌/◌, ◌%◌, ◌^◌, ◌≤◌, Bool, List, [], ◌∷◌, ◌++◌, length, map, fold, max, nat_lt}
use Rattle.std.specs.List.{list_any}
use Rattle.pst_make.specs.declared.plan.BlockPlan.{BlockPlan}

abbrev pub body_length : BlockPlan → ℕ
body_length block = length block.body.items

abbrev pub body_lengths : List BlockPlan → List ℕ
body_lengths blocks = map body_length blocks

abbrev pub bodies_of : List BlockPlan → List (List ℕ)
bodies_of blocks = map (λ block. block.body.items) blocks

abbrev pub bids_of : List BlockPlan → List ℕ
bids_of blocks = map (λ block. block.bid) blocks

-- the identifiers of n blocks in turn: 4, 8, 12 and on
abbrev pub first_bids : ℕ → List ℕ
first_bids zero = []
first_bids (suc n) = first_bids n ++ (4 * suc n) ∷ []

-- a body has at most 8,176 bytes ([MS-PST] 2.2.2.8)
abbrev pub HasShortBody : BlockPlan → Type 0
HasShortBody block = body_length block ≤ 8176

abbrev pub has_long_body : List BlockPlan → Bool
has_long_body blocks = list_any (λ block. nat_lt 8176 (body_length block)) blocks

-- the greatest BID of blocks, 0 where there is none
abbrev pub greatest_bid : List BlockPlan → ℕ
greatest_bid blocks = fold (λ greatest block. max greatest block.bid) 0 blocks

-- the next multiple of 4 above it, as a number of 64 bits
abbrev pub next_bid : List BlockPlan → ℕ
next_bid blocks = (greatest_bid blocks / 4 + 1) * 4 % 2 ^ 64
