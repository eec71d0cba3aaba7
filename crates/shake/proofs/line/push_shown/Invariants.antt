use Rattle.std.proofs.Common.{◌≡◌, ◌++◌, take, string_bytes}
use Rattle.shake.specs.Line.{shown}
use Rattle.shake.proofs.line.push_shown.Given as goal

abbrev pub invariant-bytes : goal.invariant-bytes
invariant-bytes l = string_bytes l.line ≡ string_bytes l.initial.line ++ shown (take l.byte-index l.kind)
