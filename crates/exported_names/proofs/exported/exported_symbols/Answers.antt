use Rattle.std.proofs.Common.{◌∙◌}
use Rattle.js_syntax.specs.Node.{forest_of}
use Rattle.exported_names.proofs.Telling.{exported_are, exports_told, exports_only}
use Rattle.exported_names.proofs.exported.exported_symbols.Goals as goal

pub returns-clause-exact : goal.returns-clause-exact
returns-clause-exact c =
    exported_are c.args.scoping.now (forest_of c.args.root.now) c.as_slice.result.now c.in_ok-exported.exported.items (c.as_slice.ensures.value ∙ c.in_ok-named.ensures) c.in_ok-exported.ensures

pub returns-clause-marked : goal.returns-clause-marked
returns-clause-marked c = exports_told c.args.scoping.now (forest_of c.args.root.now) c.in_ok-exported.exported.items (returns-clause-exact c)

pub returns-clause-only : goal.returns-clause-only
returns-clause-only c = exports_only c.args.scoping.now (forest_of c.args.root.now) c.in_ok-exported.exported.items (returns-clause-exact c)
