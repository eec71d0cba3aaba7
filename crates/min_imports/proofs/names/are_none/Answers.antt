use Rattle.std.proofs.Common.{◌≡◌, ℕ, ◌+◌, ◌==◌, ap, arith}
use Rattle.min_imports.proofs.Lists.{not_none}
use Rattle.min_imports.proofs.names.are_none.Goals as goal

pub returns-then-here-eq0 : goal.returns-then-here-eq0
returns-then-here-eq0 c = let same : c.args.there ≡ c.args.here + c.args.there = omega (arith, c.if-here-eq0.true) in ap (λ (n : ℕ). n == 0) same

pub returns-else-here-eq0 : goal.returns-else-here-eq0
returns-else-here-eq0 c = not_none c.args.here c.args.there c.if-here-eq0.false
