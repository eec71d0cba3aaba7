use Rattle.std.proofs.Common.{◌≡◌, ℕ, ◌+◌, ◌==◌, ap, arith}
use Rattle.min_imports.proofs.Lists.{none_behind, not_one}
use Rattle.min_imports.proofs.names.are_one.Goals as goal

pub returns-then-here-eq0 : goal.returns-then-here-eq0
returns-then-here-eq0 c = let same : c.args.there ≡ c.args.here + c.args.there = omega (arith, c.if-here-eq0.true) in ap (λ (n : ℕ). n == 1) same

pub returns-then-here-eq1 : goal.returns-then-here-eq1
returns-then-here-eq1 c = none_behind c.args.here c.args.there c.if-here-eq1.true

pub returns-else-here-eq1 : goal.returns-else-here-eq1
returns-else-here-eq1 c = not_one c.args.here c.args.there c.if-here-eq0.false c.if-here-eq1.false
