use Rattle.std.proofs.Common.{◌∙◌, refl, sym, ap, subst}
use Rattle.std.specs.Option.{option_map}
use Rattle.js_syntax.specs.Node.{row}
use Rattle.min_imports.specs.Merging.{planned}
use Rattle.min_imports.specs.Passing.{Passes}
use Rattle.min_imports.proofs.Binding.{exports_not, exports_there}
use Rattle.min_imports.proofs.passing.export_goes.Goals as goal

pub returns-in_default-clause-passes : goal.returns-in_default-clause-passes
returns-in_default-clause-passes c = (
  exports_not c.args.uses.now (planned c.args.items.now c.args.staying.now c.args.changed.now.items) c.args.node.now.kind c.args.node.now.below (sym c.exports_names.ensures ∙ ap (option_map (λ s. row s.now)) c.in_default.is),
  λ e. refl,
)

pub returns-clause-passes : goal.returns-clause-passes
returns-clause-passes c =
    let before = planned c.args.items.now c.args.staying.now c.args.changed.now.items in
    subst (λ o. Passes o before c.in_ok-goes.goes (planned c.args.items.now c.args.staying.now c.pass_among.new.changed.items))
    (sym (exports_there c.args.uses.now before c.args.node.now.kind c.args.node.now.below (row c.in-Some.specifiers.now) (sym c.exports_names.ensures ∙ ap (option_map (λ s. row s.now)) c.in-Some.is)))
    c.in_ok-goes.ensures.passes
