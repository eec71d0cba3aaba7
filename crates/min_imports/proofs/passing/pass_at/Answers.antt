use Rattle.std.proofs.Common.{◌∙◌, is_some, sym, ap}
use Rattle.js_syntax.specs.Node.{row}
use Rattle.min_imports.specs.Merging.{or_changed}
use Rattle.min_imports.proofs.Binding.{none_at, changed_none, same_at}
use Rattle.min_imports.proofs.passing.pass_at.Goals as goal

pub returns-then-not-stays-clause-goes : goal.returns-then-not-stays-clause-goes
returns-then-not-stays-clause-goes c = ap is_some (none_at c.args.uses.now (row c.args.listed.now.specifiers.now) c.args.stays (or_changed c.args.item.now c.args.changed.now) c.if-not-stays.true)

pub returns-then-not-stays-clause-changed : goal.returns-then-not-stays-clause-changed
returns-then-not-stays-clause-changed c = ap (or_changed c.args.changed.now) (none_at c.args.uses.now (row c.args.listed.now.specifiers.now) c.args.stays (or_changed c.args.item.now c.args.changed.now) c.if-not-stays.true)

pub returns-then-not-is_missing-clause-goes : goal.returns-then-not-is_missing-clause-goes
returns-then-not-is_missing-clause-goes c =
    ap is_some (changed_none c.args.uses.now (row c.args.listed.now.specifiers.now) c.args.stays c.args.item.now c.args.changed.now (sym c.is_missing.ensures ∙ c.if-not-is_missing.true) c.requires.exported)

pub returns-then-not-is_missing-clause-changed : goal.returns-then-not-is_missing-clause-changed
returns-then-not-is_missing-clause-changed c =
    ap (or_changed c.args.changed.now) (changed_none c.args.uses.now (row c.args.listed.now.specifiers.now) c.args.stays c.args.item.now c.args.changed.now (sym c.is_missing.ensures ∙ c.if-not-is_missing.true) c.requires.exported)

pub returns-clause-goes : goal.returns-clause-goes
returns-clause-goes c =
    c.put_passed-goes.ensures.goes ∙ ap is_some (same_at c.args.uses.now (row c.args.listed.now.specifiers.now) c.args.stays c.args.item.now c.args.changed.now c.in_ok-passed.passed c.if-not-stays.false (sym c.is_missing.ensures ∙ c.if-not-is_missing.false) c.in_ok-passed.ensures)

pub returns-clause-changed : goal.returns-clause-changed
returns-clause-changed c =
    c.put_passed-goes.ensures.changed
    ∙ ap (or_changed c.args.changed.now) (same_at c.args.uses.now (row c.args.listed.now.specifiers.now) c.args.stays c.args.item.now c.args.changed.now c.in_ok-passed.passed c.if-not-stays.false (sym c.is_missing.ensures ∙ c.if-not-is_missing.false) c.in_ok-passed.ensures)
