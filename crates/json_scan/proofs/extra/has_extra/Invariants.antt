use Rattle.std.proofs.Common.{◌≡◌, drop}
use Rattle.json_scan.specs.Extra.{has_extra}
use Rattle.json_scan.proofs.extra.has_extra.Given as goal

abbrev pub invariant-members : goal.invariant-members
invariant-members l = has_extra (drop l.member-index l.members) ≡ has_extra l.members
