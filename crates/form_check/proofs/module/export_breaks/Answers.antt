use Rattle.std.proofs.Common.{suc, List, ◌∙◌, [], ap, ap₂, add-one}
use Rattle.form_rules.specs.Break.{least}
use Rattle.form_rules.specs.Scope.{Declared}
use Rattle.form_rules.specs.Rules.{Exported, each_breaks, first_below, repeated_exports, exported_among, undeclared, declared_by, locals_among}
use Rattle.form_check.proofs.First.{joined}
use Rattle.form_check.proofs.module.export_breaks.Goals as goal

pub returns : goal.returns
returns c =
    let x = c.args.context.now in
    let k = c.args.node.now.kind in
    let p = c.args.place in
    let b = c.args.node.now.below in
    let statements = c.first_below-statements.ensures.below ∙ ap first_below c.children.ensures in
    let exported = c.as_slice.ensures.value ∙ c.in_ok-exported.ensures.exported ∙ ap₂ exported_among (add-one p) statements in
    let locals = c.as_slice-3.ensures.value ∙ c.in_ok-locals.ensures.locals ∙ ap₂ locals_among (add-one p) statements in
    let declared = c.as_slice-2.ensures.value ∙ c.in_ok-declared.ensures in
    joined (each_breaks 7 (repeated_exports [] (exported_among (suc p) (first_below b)))) (each_breaks 7 (undeclared (declared_by x k p b) (locals_among (suc p) (first_below b)))) c.first_of.ensures.first
    (c.in_ok-repeated.ensures.first ∙ ap (λ (es : List Exported). least (each_breaks 7 (repeated_exports [] es))) exported)
    (c.in_ok-undeclared.ensures.first ∙ ap₂ (λ (ds : List Declared) (es : List Exported). least (each_breaks 7 (undeclared ds es))) declared locals)
