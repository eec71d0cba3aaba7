use Rattle.std.proofs.Common.{◌≡◌, drop}
use Rattle.name_digest.specs.Digest.{digest_from}
use Rattle.name_digest.proofs.text.digest.Given as goal

abbrev pub invariant-loop-byte : goal.invariant-loop-byte
invariant-loop-byte l = digest_from l.digest (drop l.byte-index l.text) ≡ digest_from l.start l.text
