use Rattle.std.proofs.Common.{◌≡◌, ◌+◌, ◌<◌, ◌≤◌, ℕ, true, length, take, get_or}
use Rattle.std.specs.List.{suffix_len}
use Rattle.std.specs.Char.{is_ascii_digit}
use Rattle.fresh_names.proofs.uid.digits_start.Given as goal

abbrev pub invariant-loop-start : goal.invariant-loop-start
invariant-loop-start l = record {
  within : l.start ≤ length l.bytes;
  ends : l.start + suffix_len is_ascii_digit l.bytes ≡ length l.bytes + suffix_len is_ascii_digit (take l.start l.bytes);
  digits : (k : ℕ) → l.start ≤ k → k < length l.bytes → is_ascii_digit (get_or l.bytes k 0) ≡ true;
}

abbrev pub decreases-loop-start : goal.decreases-loop-start
decreases-loop-start l = l.start
