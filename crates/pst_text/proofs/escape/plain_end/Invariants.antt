use Rattle.std.proofs.Common.{◌≡◌, ◌+◌, ◌-◌, ◌≤◌, length, drop}
use Rattle.std.specs.List.{prefix_len}
use Rattle.json.specs.Run.{is_plain}
use Rattle.pst_text.proofs.escape.plain_end.Given as goal

-- all bytes that are passed stand for themselves
abbrev pub invariant-loop-end : goal.invariant-loop-end
invariant-loop-end l = record {
  run : l.from + prefix_len is_plain (drop l.from l.shown) ≡ l.end + prefix_len is_plain (drop l.end l.shown);
  within : l.end ≤ length l.shown;
}

abbrev pub decreases-loop-end : goal.decreases-loop-end
decreases-loop-end l = length l.shown - l.end
