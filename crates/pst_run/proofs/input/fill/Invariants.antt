use Rattle.std.proofs.Common.{vec_len, ◌≡◌, ◌≤◌, ◌-◌}
use Rattle.std.specs.Io.KnownBytes.{Consumes}
use Rattle.pst_run.proofs.input.fill.Given as goal

-- what was read so far is what the reader no longer has
abbrev pub invariant-loop-reads : goal.invariant-loop-reads
invariant-loop-reads g l = record {
  taken : Consumes (g.R.Read.remaining l.initial.input) (g.R.Read.remaining l.input) l.bytes.items;
  fits : vec_len l.bytes ≤ 17179869184;
  room : vec_len l.piece ≡ 65536;
  within : l.reads.count ≤ 16777216;
  counted : l.reads.bytes ≡ vec_len l.bytes;
}

-- each turn makes a read
abbrev pub decreases-loop-reads : goal.decreases-loop-reads
decreases-loop-reads g l = 16777216 - l.reads.count
