use Rattle.std.proofs.Common.{◌≡◌, drop}
use Rattle.js_syntax.specs.Node.{row}
use Rattle.steps.specs.Allowed.MergedImports.{names_merged}
use Rattle.min_imports.specs.Merging.{joined_by}
use Rattle.min_imports.proofs.names.put_names.Given as goal

abbrev pub invariant-loop-item : goal.invariant-loop-item
invariant-loop-item l = joined_by l.has_default (row l.names.items) (row (drop l.item-index l.later)) ≡ names_merged (row l.fn.names.items) (row l.later)
