use Rattle.std.proofs.Common.{◌≡◌, ◌∙◌, ◌<◌, true, false, None, length, get_or, set, refl, sym, ap, subst, arith}
use Rattle.std.proofs.lemmas.List.{length-set}
use Rattle.js_syntax.specs.Node.{row}
use Rattle.rules.specs.Imports.Passed.{passed_among}
use Rattle.min_imports.specs.Merging.{overlaid, planned}
use Rattle.min_imports.specs.Passing.{Passes, NoImports, item_binds}
use Rattle.min_imports.proofs.Going.{slot_no_import, before_next, none_of_all, goes_none, slot_same, passes_there, binds_there, imports_there, none_at_all}
use Rattle.min_imports.proofs.passing.pass_within.Goals as goal

pub loop-at-init : goal.loop-at-init
loop-at-init c = record { before = c.requires.beside.before; same = refl; even = c.requires.even }

pub pass_at-requires : goal.pass_at-requires
pass_at-requires c = record {
  told = c.requires.told;
  exported = slot_no_import c.loop-at.changed.items c.loop-at.at c.index_mut-slot.result.now (subst (λ l. NoImports l) (sym c.loop-at.invariant.same) c.requires.exported) (omega (arith, c.loop-at-test.true, c.requires.inside, c.loop-at.invariant.even)) c.index_mut-slot.ensures.value;
}

pub loop-at-preserved : goal.loop-at-preserved
loop-at-preserved c =
    let f = c.args.uses.now in
    let listed = row c.args.listed.now.specifiers.now in
    let items = c.args.items.now in
    let bs = c.args.staying.now in
    let cs = c.args.changed.now.items in
    let at = c.loop-at.at in
    let same = c.loop-at.invariant.same in
    let slot = c.index_mut-slot.result.now in
    let inside : at < length bs = omega (arith, c.loop-at-test.true, c.requires.inside) in
    let is_slot : slot ≡ get_or cs at slot = c.index_mut-slot.ensures.value ∙ ap (λ l. get_or l at slot) same in
    record {
      before = before_next f listed bs (overlaid items cs) at c.loop-at.invariant.before (goes_none f listed items bs cs c.requires.even c.requires.within at c.index-items-at.result _ slot c.pass_at.new.changed inside c.index-items-at.is refl is_slot c.in_ok-goes.ensures.changed c.in_ok-goes.goes c.in_ok-goes.ensures.goes c.if-goes.false);
      same = ap (λ l. set l at c.pass_at.new.changed) same ∙ slot_same f listed items bs cs c.requires.even c.requires.within at c.index-items-at.result _ slot c.pass_at.new.changed inside c.index-items-at.is refl is_slot c.in_ok-goes.ensures.changed c.in_ok-goes.goes c.in_ok-goes.ensures.goes c.if-goes.false;
      even = length-set c.loop-at.changed.items at c.pass_at.new.changed ∙ c.loop-at.invariant.even;
    }

pub returns-then-goes-clause-passes : goal.returns-then-goes-clause-passes
returns-then-goes-clause-passes c =
    let f = c.args.uses.now in
    let listed = row c.args.listed.now.specifiers.now in
    let items = c.args.items.now in
    let bs = c.args.staying.now in
    let cs = c.args.changed.now.items in
    let at = c.loop-at.at in
    let same = c.loop-at.invariant.same in
    let slot = c.index_mut-slot.result.now in
    let inside : at < length bs = omega (arith, c.loop-at-test.true, c.requires.inside) in
    let is_slot : slot ≡ get_or cs at slot = c.index_mut-slot.ensures.value ∙ ap (λ l. get_or l at slot) same in
    subst (λ l. Passes (passed_among f listed (planned items bs cs)) (planned items bs cs) true (planned items bs (set l at c.pass_at.new.changed))) (sym same)
    (passes_there f listed items bs cs c.requires.even c.requires.within at c.index-items-at.result _ slot c.pass_at.new.changed inside c.index-items-at.is refl is_slot c.in_ok-goes.ensures.changed c.in_ok-goes.goes c.in_ok-goes.ensures.goes c.if-goes.true c.loop-at.invariant.before c.requires.beside.there)

pub returns-then-goes-clause-binds : goal.returns-then-goes-clause-binds
returns-then-goes-clause-binds c =
    let f = c.args.uses.now in
    let listed = row c.args.listed.now.specifiers.now in
    let items = c.args.items.now in
    let bs = c.args.staying.now in
    let cs = c.args.changed.now.items in
    let at = c.loop-at.at in
    let same = c.loop-at.invariant.same in
    let slot = c.index_mut-slot.result.now in
    let inside : at < length bs = omega (arith, c.loop-at-test.true, c.requires.inside) in
    let is_slot : slot ≡ get_or cs at slot = c.index_mut-slot.ensures.value ∙ ap (λ l. get_or l at slot) same in
    λ j q h. binds_there f listed items bs cs c.requires.even c.requires.within at c.index-items-at.result _ slot c.pass_at.new.changed inside c.index-items-at.is refl is_slot c.in_ok-goes.ensures.changed c.in_ok-goes.goes c.in_ok-goes.ensures.goes c.if-goes.true j q (subst (λ l. item_binds (get_or (overlaid items (set l at c.pass_at.new.changed)) j None) q ≡ true) same h)

pub returns-then-goes-clause-even : goal.returns-then-goes-clause-even
returns-then-goes-clause-even c = length-set c.loop-at.changed.items c.loop-at.at c.pass_at.new.changed ∙ ap length c.loop-at.invariant.same

pub returns-then-goes-clause-exported : goal.returns-then-goes-clause-exported
returns-then-goes-clause-exported c =
    let f = c.args.uses.now in
    let listed = row c.args.listed.now.specifiers.now in
    let items = c.args.items.now in
    let bs = c.args.staying.now in
    let cs = c.args.changed.now.items in
    let at = c.loop-at.at in
    let same = c.loop-at.invariant.same in
    let slot = c.index_mut-slot.result.now in
    let inside : at < length bs = omega (arith, c.loop-at-test.true, c.requires.inside) in
    let is_slot : slot ≡ get_or cs at slot = c.index_mut-slot.ensures.value ∙ ap (λ l. get_or l at slot) same in
    subst (λ l. NoImports (set l at c.pass_at.new.changed)) (sym same) (imports_there f listed items bs cs c.requires.even c.requires.within at c.index-items-at.result _ slot c.pass_at.new.changed inside c.index-items-at.is refl is_slot c.in_ok-goes.ensures.changed c.in_ok-goes.goes c.in_ok-goes.ensures.goes c.if-goes.true c.requires.exported)

pub returns-clause-passes : goal.returns-clause-passes
returns-clause-passes c =
    let f = c.args.uses.now in
    let listed = row c.args.listed.now.specifiers.now in
    let items = c.args.items.now in
    let bs = c.args.staying.now in
    let cs = c.args.changed.now.items in
    subst (λ l. Passes (passed_among f listed (planned items bs cs)) (planned items bs cs) false (planned items bs l)) (sym c.loop-at.invariant.same)
    (none_at_all f listed items bs cs c.requires.even c.requires.within (none_of_all f listed bs (overlaid items cs) c.loop-at.at c.loop-at.invariant.before c.args.within.to (omega (arith, c.loop-at-test.false)) c.requires.beside.behind))

pub returns-clause-binds : goal.returns-clause-binds
returns-clause-binds c = λ j q h. subst (λ l. item_binds (get_or (overlaid c.args.items.now l) j None) q ≡ true) c.loop-at.invariant.same h

pub returns-clause-even : goal.returns-clause-even
returns-clause-even c = ap length c.loop-at.invariant.same

pub returns-clause-exported : goal.returns-clause-exported
returns-clause-exported c = subst (λ l. NoImports l) (sym c.loop-at.invariant.same) c.requires.exported
