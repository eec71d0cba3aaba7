use Rattle.std.proofs.Common.{◌∙◌, ◌&&◌, sym, ap, ap₂}
use Rattle.js_syntax.specs.Node.{row, joined}
use Rattle.min_imports.proofs.Lists.{apart, beside}
use Rattle.min_imports.proofs.names.go_together.Goals as goal

pub returns-then-none_of : goal.returns-then-none_of
returns-then-none_of c = apart (joined (row c.args.names.now) (row c.args.later.now)) c.none_of.result c.none_of.ensures c.if-none_of.true

pub returns-then-unnamed : goal.returns-then-unnamed
returns-then-unnamed c =
    sym (ap₂ (λ x y. x && (y && c.few_of-few.result)) c.if-alone.true c.if-unnamed.true) ∙ beside (joined (row c.args.names.now) (row c.args.later.now)) _ _ _ _ c.none_of.ensures c.if-none_of.false c.one_of-alone.ensures c.none_of-unnamed.ensures c.few_of-few.ensures

pub returns-else-unnamed : goal.returns-else-unnamed
returns-else-unnamed c =
    c.if-unnamed.false
    ∙ sym (ap₂ (λ x y. x && (y && c.few_of-few.result)) c.if-alone.true c.if-unnamed.false) ∙ beside (joined (row c.args.names.now) (row c.args.later.now)) _ _ _ _ c.none_of.ensures c.if-none_of.false c.one_of-alone.ensures c.none_of-unnamed.ensures c.few_of-few.ensures

pub returns-else-alone : goal.returns-else-alone
returns-else-alone c =
    c.if-alone.false
    ∙ sym (ap (λ x. x && (c.none_of-unnamed.result && c.few_of-few.result)) c.if-alone.false) ∙ beside (joined (row c.args.names.now) (row c.args.later.now)) _ _ _ _ c.none_of.ensures c.if-none_of.false c.one_of-alone.ensures c.none_of-unnamed.ensures c.few_of-few.ensures
