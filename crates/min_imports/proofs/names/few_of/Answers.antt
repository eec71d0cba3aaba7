use Rattle.std.proofs.Common.{◌∙◌, ℕ, nat_le, ap}
use Rattle.js_syntax.specs.Node.{row}
use Rattle.min_imports.proofs.Lists.{of_both}
use Rattle.min_imports.proofs.names.few_of.Goals as goal

pub returns : goal.returns
returns c = c.are_few.ensures ∙ ap (λ (n : ℕ). nat_le n 1) (of_both c.args.sort (row c.args.names.now) (row c.args.later.now) _ _ c.how_many-here.ensures c.how_many-there.ensures)
