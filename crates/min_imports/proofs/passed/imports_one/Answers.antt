use Rattle.std.proofs.Common.{◌∙◌, is_some, sym, ap}
use Rattle.json_shape.specs.Exact.{is_exact_module_name}
use Rattle.rules.specs.Imports.Passed.{imported}
use Rattle.min_imports.proofs.Naming.{some_if}
use Rattle.min_imports.proofs.passed.imports_one.Goals as goal

pub returns-in-ImportSpecifier : goal.returns-in-ImportSpecifier
returns-in-ImportSpecifier c = c.is_exact.ensures ∙ some_if (is_exact_module_name c.in-ImportSpecifier.name) c.in-ImportSpecifier.name ∙ ap (λ k. is_some (imported k)) (sym c.in-ImportSpecifier.is)
