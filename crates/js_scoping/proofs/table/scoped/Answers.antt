use Rattle.std.proofs.Common.{length, ap, arith}
use Rattle.js_syntax.specs.Node.{forest_of}
use Rattle.js_scoping.proofs.table.scoped.Goals as goal
use Rattle.scope_match.proofs.Whole.{few_bindings, few_references}

pub table-requires-clause-few_bindings : goal.table-requires-clause-few_bindings
table-requires-clause-few_bindings c = omega (arith, ap (λ f. length f.bindings) c.in_ok-found.ensures.sites, few_bindings (forest_of c.args.program.now), c.requires.small)

pub table-requires-clause-few_references : goal.table-requires-clause-few_references
table-requires-clause-few_references c = omega (arith, ap (λ f. length f.references) c.in_ok-found.ensures.sites, few_references (forest_of c.args.program.now), c.requires.small)
