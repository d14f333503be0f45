use Rattle.std.proofs.Common.{◌≡◌}
use Rattle.pst_names.specs.Behind.{IsBehind}
use Rattle.pst_names.specs.Rest.{rest_file, rest_spans, pieces_left}
use Rattle.pst_names.proofs.rest.Rest.settled.Given as goal

-- the same bytes are left
abbrev pub invariant-loop-rest : goal.invariant-loop-rest
invariant-loop-rest l = record {
  behind : IsBehind (rest_file l.fn.self) (rest_spans l.fn.self) 0 (rest_spans l.rest);
  file : rest_file l.rest ≡ rest_file l.fn.self;
}

abbrev pub decreases-loop-rest : goal.decreases-loop-rest
decreases-loop-rest l = pieces_left l.rest
