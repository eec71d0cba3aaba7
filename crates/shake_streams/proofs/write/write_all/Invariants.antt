use Rattle.std.proofs.Common.{◌≡◌, length, take, ◌-◌, ◌≤◌, ◌++◌}
use Rattle.shake_streams.specs.Past.{with_bytes}
use Rattle.shake_streams.specs.Moves.{Known}
use Rattle.shake_streams.proofs.write.write_all.Given as goal

abbrev pub invariant-pieces : goal.invariant-pieces
invariant-pieces g l = record {
  within : l.sent ≤ length l.text;
  sent : Known (λ bytes. bytes ++ take l.sent l.text) (g.K.Sink.written l.initial.sink) (g.K.Sink.written l.sink);
  took : g.K.Sink.taken l.sink ≡ with_bytes (g.K.Sink.taken l.initial.sink) (take l.sent l.text);
  later : g.K.Sink.faults l.initial.sink ≤ g.K.Sink.faults l.sink;
}

abbrev pub decreases-pieces : goal.decreases-pieces
decreases-pieces g l = length l.text - l.sent
