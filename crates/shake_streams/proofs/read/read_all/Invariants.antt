use Rattle.std.proofs.Common.{◌≡◌, length, ◌-◌, ◌+◌, ◌≤◌, vec_len}
use Rattle.shake_streams.specs.Past.{with_bytes}
use Rattle.shake_streams.proofs.Taking.{Taken}
use Rattle.shake_streams.proofs.read.read_all.Given as goal

abbrev pub invariant-pieces : goal.invariant-pieces
invariant-pieces g l = record {
  taken : Taken (g.S.Source.left l.initial.source) (g.S.Source.left l.source) l.bytes.items;
  gave : g.S.Source.given l.source ≡ with_bytes (g.S.Source.given l.initial.source) l.bytes.items;
  within : length l.bytes.items ≤ l.limit + 1;
  later : g.S.Source.faults l.initial.source ≤ g.S.Source.faults l.source;
}

abbrev pub decreases-pieces : goal.decreases-pieces
decreases-pieces g l = l.limit + 1 - vec_len l.bytes
