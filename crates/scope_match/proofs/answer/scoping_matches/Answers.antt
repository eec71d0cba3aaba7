use Rattle.std.proofs.Common.{length, ap, arith}
use Rattle.js_syntax.specs.Node.{forest_of}
use Rattle.scope_rules.specs.Site.{Found}
use Rattle.scope_match.proofs.Whole.{few_scopes, few_bindings, few_references}
use Rattle.scope_match.proofs.answer.scoping_matches.Goals as goal

pub matches_found-requires-clause-few_scopes : goal.matches_found-requires-clause-few_scopes
matches_found-requires-clause-few_scopes c = omega (arith, ap (λ (f : Found). length f.scopes) c.in_ok-found.ensures.sites, few_scopes (forest_of c.args.program.now), c.requires.small)

pub matches_found-requires-clause-few_bindings : goal.matches_found-requires-clause-few_bindings
matches_found-requires-clause-few_bindings c = omega (arith, ap (λ (f : Found). length f.bindings) c.in_ok-found.ensures.sites, few_bindings (forest_of c.args.program.now), c.requires.small)

pub matches_found-requires-clause-few_references : goal.matches_found-requires-clause-few_references
matches_found-requires-clause-few_references c = omega (arith, ap (λ (f : Found). length f.references) c.in_ok-found.ensures.sites, few_references (forest_of c.args.program.now), c.requires.small)
