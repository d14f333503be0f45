use Rattle.std.proofs.Common.{◌≡◌, map, take}
use Rattle.pst_ask.specs.Words.{texts}
use Rattle.pst_answer.proofs.words.owned.Given as goal

-- the words so far are those of the pieces so far
abbrev pub invariant-loop-piece : goal.invariant-loop-piece
invariant-loop-piece l = record {
  so_far : texts l.words.items ≡ map (λ w. w.now) (take l.piece-index l.pieces);
}
