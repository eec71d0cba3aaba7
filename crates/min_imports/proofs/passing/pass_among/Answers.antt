use Rattle.std.proofs.Common.{◌∙◌, sym, subst}
use Rattle.js_syntax.specs.Node.{row}
use Rattle.rules.specs.Imports.Passed.{passed_among}
use Rattle.min_imports.specs.Merging.{overlaid, planned}
use Rattle.min_imports.specs.Passing.{Told, Beside, Passes}
use Rattle.min_imports.proofs.Going.{beside, none_stands, ends_inside, none_at_all}
use Rattle.min_imports.proofs.passing.pass_among.Goals as goal

pub returns-in_default-clause-passes : goal.returns-in_default-clause-passes
returns-in_default-clause-passes c =
    none_at_all c.args.uses.now (row c.args.specifiers.now) c.args.items.now c.args.staying.now c.args.changed.now.items c.requires.even c.requires.within (none_stands c.args.uses.now (row c.args.specifiers.now) c.args.items.now c.args.staying.now c.args.changed.now.items c.requires.even c.requires.within c.args.binders.now c.requires.covers (sym c.binders_of.ensures ∙ c.in_default.is))

pub pass_within-requires : goal.pass_within-requires
pass_within-requires c =
    let found = sym c.binders_of.ensures ∙ c.in-Some.is in
    let told = c.in_ok-listed.ensures in
    record {
      told = subst (λ s. Told c.in_ok-listed.listed.texts c.in_ok-listed.listed.references (row s)) (sym told.specifiers) told.told;
      even = c.requires.even;
      within = c.requires.within;
      exported = c.requires.exported;
      inside = ends_inside c.args.uses.now (row c.args.specifiers.now) c.args.items.now c.args.staying.now c.args.changed.now.items c.requires.even c.requires.within c.args.binders.now c.requires.covers c.in-Some.within found;
      beside = subst (λ s. Beside c.args.uses.now (row s) c.args.staying.now (overlaid c.args.items.now c.args.changed.now.items) c.in-Some.within.from c.in-Some.within.to) (sym told.specifiers) (beside c.args.uses.now (row c.args.specifiers.now) c.args.items.now c.args.staying.now c.args.changed.now.items c.requires.even c.requires.within c.args.binders.now c.requires.covers c.in-Some.within found c.requires.there);
    }

pub returns-clause-passes : goal.returns-clause-passes
returns-clause-passes c =
    subst (λ s. Passes (passed_among c.args.uses.now (row s) (planned c.args.items.now c.args.staying.now c.args.changed.now.items)) (planned c.args.items.now c.args.staying.now c.args.changed.now.items) c.in_ok-goes.goes (planned c.args.items.now c.args.staying.now c.pass_within.new.changed.items))
    c.in_ok-listed.ensures.specifiers c.in_ok-goes.ensures.passes
