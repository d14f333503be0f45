use Rattle.std.proofs.Common.{◌≡◌, length, take}
use Rattle.pst_datatree.specs.Spans.{joined_bytes}
use Rattle.pst_names.specs.Behind.{IsBehind}
use Rattle.pst_names.specs.Rest.{rest_file, rest_spans}
use Rattle.pst_names.proofs.rest.Rest.entry.Given as goal

-- what was read, and what is left behind it
abbrev pub invariant-loop-i : goal.invariant-loop-i
invariant-loop-i l = record {
  room : length l.bytes ≡ 8;
  read : take l.i l.bytes ≡ take l.i (joined_bytes (rest_file l.fn.self) (rest_spans l.fn.self));
  behind : IsBehind (rest_file l.fn.self) (rest_spans l.fn.self) l.i (rest_spans l.rest);
  file : rest_file l.rest ≡ rest_file l.fn.self;
}
