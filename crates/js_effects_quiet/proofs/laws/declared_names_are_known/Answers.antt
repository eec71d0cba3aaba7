use Rattle.std.proofs.Common.{◌≡◌, true}
use Rattle.js_effects_quiet.specs.Silent.{HasBinding}
use Rattle.js_effects_quiet.proofs.Marks.{holds_too}
use Rattle.js_effects_quiet.proofs.laws.declared_names_are_known.Goals as goal

pub returns : goal.returns
returns c declares bound env f t h = holds_too (λ x. declares x ≡ true) (HasBinding env) bound f t h
