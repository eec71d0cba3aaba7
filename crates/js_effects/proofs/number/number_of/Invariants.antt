use Rattle.std.proofs.Common.{◌≡◌, ◌≤◌, drop}
use Rattle.js_effects.specs.Number.{digits_from, within, limit}
use Rattle.js_effects.proofs.number.number_of.Given as goal

abbrev pub invariant-loop-byte : goal.invariant-loop-byte
invariant-loop-byte l = record {
  so_far : within (digits_from 0 l.text) ≡ within (digits_from l.number (drop l.byte-index l.text));
  small : l.number ≤ limit;
}
