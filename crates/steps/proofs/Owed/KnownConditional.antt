-- What a conditional owes of which the test is known, which becomes the branch that is taken.
use Rattle.std.proofs.Common.{◌≡◌, ◌<◌, [], ◌∷◌, true, false, Some, arith, refl, sym, subst}
use Rattle.js_syntax.specs.Class.{Class, root, expression}
use Rattle.js_syntax.specs.declared.node_kind.NodeKind.{NodeKind as Kind}
use Rattle.js_syntax.specs.Facts.{weight}
use Rattle.js_syntax.specs.Node.{Note, Forest, Tree, nothing, node, forest_of, total}
use Rattle.js_meaning_near.specs.Near.{module_of}
use Rattle.known_tests.proofs.Taken.{condition_holds, condition_fails}
use Rattle.js_meaning_near.specs.Local.{for_part}
use Rattle.json_shape.specs.Shape.{one, these, Fits}
use Rattle.form_rules.specs.Form.{IsWellFormed}
use Rattle.scope_counts.proofs.Leaving.{conditional_is_plain}
use Rattle.scope_laws.specs.Place.{Around, plug}
use Rattle.steps.specs.Steps.{all_core}
use Rattle.min_pass.specs.Around.{outermost as asked_of_program}
use Rattle.steps.specs.Allowed.Places.{asked_at}
use Rattle.steps.specs.Allowed.Uses.{use_at}
use Rattle.steps.specs.Allowed.Wanted.{wanted_at}
use Rattle.steps.specs.Allowed.KnownConditional.{a_conditional, KnownConditional, consequent_is_taken, alternate_is_taken}
use Rattle.steps.proofs.Fit.CoreCalm.{nameless_as_planned}
use Rattle.steps.proofs.Fit.Held.{core_below}
use Rattle.steps.specs.Owed.Comes.{Comes}
use Rattle.steps.specs.Owed.Owed.{ComesOut, ByPart}
use Rattle.steps.specs.Owed.Part.{IsPart}
use Rattle.steps.specs.Owed.TakesPlace.{TakesPlace}
use Rattle.steps.proofs.Owed.Bare.{bare_comes_out, bare_at}
use Rattle.steps.proofs.Owed.BranchKinds.{expression_told, no_statement, bare_unasked}
use Rattle.steps.proofs.Owed.ByPart.{part_lighter}
use Rattle.steps.proofs.Owed.ChoiceParts.{Three, parts_of_conditional}
use Rattle.steps.proofs.Owed.ChoiceRuns.{consequent_core, alternate_core, core_there, no_imports_below}
use Rattle.steps.proofs.Owed.Expressions.{expression_declares_nothing}
use Rattle.steps.proofs.Owed.FitsTaking.{as_conditional, conditional_stood}
use Rattle.steps.proofs.Owed.KnownTests.{test_tells}
use Rattle.steps.proofs.Owed.Outward.{declares_row}
use Rattle.steps.proofs.Owed.PartForm.{Stands, none_of_conditional}
use Rattle.steps.proofs.Owed.Undeclared.{DeclaresNothing, nothing_behind, both_plainly}
use Rattle.steps.proofs.Owed.Wanting.{wanted_as_used}

conditional_lighter : (a : Around) (x y : Tree) → KnownConditional a x y → total weight (forest_of y) < total weight (forest_of x)
conditional_lighter a x y (consequent_is_taken n m i j t k l d b c truth bare) =
    part_lighter Kind.ConditionalExpression k n i x.below b (node t m d nothing) (node l j c nothing) (Prim.omega arith) refl
conditional_lighter a x y (alternate_is_taken n m i j t k l d b c truth bare) =
    part_lighter Kind.ConditionalExpression l n j x.below c (node t m d (node k i b nothing)) nothing (Prim.omega arith) refl

-- by the table of node types, and by the rules of form: the three parts are expressions
conditional_takes : (a : Around) (x y : Tree) → KnownConditional a x y → Three x.below → TakesPlace x y
conditional_takes a x y (consequent_is_taken n m i j t k l d b c truth bare) three = record {
  classes = λ (to : Class) fits. (as_conditional k b to (conditional_stood to n x.below fits) three.1.0, tt);
  old_told = refl;
  new_told = expression_told k b three.1.0;
}
conditional_takes a x y (alternate_is_taken n m i j t k l d b c truth bare) three = record {
  classes = λ (to : Class) fits. (as_conditional l c to (conditional_stood to n x.below fits) three.1.1.0, tt);
  old_told = refl;
  new_told = expression_told l c three.1.1.0;
}

conditional_stands : (a : Around) (x y : Tree) → KnownConditional a x y → Three x.below → Stands x y
conditional_stands a x y (consequent_is_taken n m i j t k l d b c truth bare) three = record {
  before = node t m d nothing;
  after = node l j c nothing;
  note = i;
  is_part = refl;
  gives = refl;
  unasked = bare_unasked k b three.1.0 (use_at a) (asked_at (asked_of_program true) a).in_with bare;
  alike = no_statement k b three.1.0;
  none_before = none_of_conditional (node t m d nothing);
  none_after = none_of_conditional (node l j c nothing);
}
conditional_stands a x y (alternate_is_taken n m i j t k l d b c truth bare) three = record {
  before = node t m d (node k i b nothing);
  after = nothing;
  note = j;
  is_part = refl;
  gives = refl;
  unasked = bare_unasked l c three.1.1.0 (use_at a) (asked_at (asked_of_program true) a).in_with bare;
  alike = no_statement l c three.1.1.0;
  none_before = none_of_conditional (node t m d (node k i b nothing));
  none_after = λ s p. refl;
}

conditional_comes_out : (a : Around) (x y : Tree) → KnownConditional a x y → ComesOut a y
conditional_comes_out a x y (consequent_is_taken n m i j t k l d b c truth bare) = bare_comes_out a k i b bare
conditional_comes_out a x y (alternate_is_taken n m i j t k l d b c truth bare) = bare_comes_out a l j c bare

-- by its table of names
conditional_is_part : (a : Around) (x y : Tree) → KnownConditional a x y → Three x.below → IsPart x y
conditional_is_part a x y (consequent_is_taken n m i j t k l d b c truth bare) three = record {
  before = node t m d nothing;
  after = node l j c nothing;
  stands = refl;
  plain = conditional_is_plain;
  before_declares = expression_declares_nothing (node t m d nothing) (three.0, tt);
  after_declares = expression_declares_nothing (node l j c nothing) (three.1.1.0, tt);
}
conditional_is_part a x y (alternate_is_taken n m i j t k l d b c truth bare) three = record {
  before = node t m d (node k i b nothing);
  after = nothing;
  stands = refl;
  plain = conditional_is_plain;
  before_declares = declares_row t m d (node k i b nothing) (expression_declares_nothing (node t m d nothing) (three.0, tt)) (expression_declares_nothing (node k i b nothing) (three.1.0, tt));
  after_declares = λ aims at. refl;
}

-- by its runs
conditional_comes : (a : Around) (x y : Tree) → KnownConditional a x y → Fits root (plug a (Some x)) → all_core (plug a (Some x)) ≡ true → Three x.below → DeclaresNothing x.below → Comes a x y
conditional_comes a x y (consequent_is_taken n m i j t k l d b c truth bare) fits core three h =
    let branches = node k i b (node l j c nothing) in
    let below = node t m d branches in
    let is_core = consequent_core Kind.ConditionalExpression k n m i t d b (node l j c nothing) in
    let wanted = wanted_as_used a x (λ e. cc) core fits in
    record {
      inner = b;
      same = refl;
      stands = for_part (λ st. condition_holds (wanted_at a) st t m i j d k l b c (test_tells t m d true truth) (bare_at a k i b three.1.0 (is_core (core_there a x core)) wanted bare));
      old_calm = refl;
      declares = both_plainly Kind.ConditionalExpression below k i b (node l j c nothing) refl h (nothing_behind t m d branches h);
      core = is_core;
    }
conditional_comes a x y (alternate_is_taken n m i j t k l d b c truth bare) fits core three h =
    let branches = node k i b (node l j c nothing) in
    let below = node t m d branches in
    let is_core = alternate_core Kind.ConditionalExpression k l n m i j t d b c in
    let wanted = wanted_as_used a x (λ e. cc) core fits in
    record {
      inner = c;
      same = refl;
      stands = for_part (λ st. condition_fails (wanted_at a) st t m i j d k l b c (test_tells t m d false truth) (bare_at a l j c three.1.1.0 (is_core (core_there a x core)) wanted bare));
      old_calm = refl;
      declares = both_plainly Kind.ConditionalExpression below l j c nothing refl h (nothing_behind k i b (node l j c nothing) (nothing_behind t m d branches h));
      core = is_core;
    }

module _ (n m : Note) (b : Forest) (a : Around) (o : Note) (below : Forest) where
  abbrev whole : Tree
  whole = record { kind = Kind.ConditionalExpression; note = o; below = below }

  comes : (y : Tree) → plug a (Some whole) ≡ module_of n m b → Fits root (module_of n m b) → IsWellFormed (module_of n m b) → all_core (module_of n m b) ≡ true → KnownConditional a whole y → Comes a whole y
  comes y is fits form core known =
      let there = subst (Fits root) (sym is) fits in
      let all = subst (λ t. all_core t ≡ true) (sym is) core in
      let three = parts_of_conditional a o below there in
      conditional_comes a whole y known there all three
      (record {
        bound = nameless_as_planned below (these (one expression ∷ one expression ∷ one expression ∷ [])) refl three (core_below Kind.ConditionalExpression o below nothing (core_there a whole all));
        imports = no_imports_below n m b a whole y is fits form core Kind.ConditionalExpression refl refl (λ p i. refl);
      })

known_owes : (a : Around) (n : Note) (t : Kind) (m : Note) (d : Forest) (branches : Forest) (y : Tree) → KnownConditional a (a_conditional n t m d branches) y → ByPart a (a_conditional n t m d branches) y
known_owes a n t m d branches y known =
    let x = a_conditional n t m d branches in
    record {
      lighter = conditional_lighter a x y known;
      no_call = record { counts = refl; lists = λ i. refl; begins = λ i. refl; calls = refl };
      ends = refl;
      may_change = refl;
      takes = λ fits. conditional_takes a x y known (parts_of_conditional a n x.below fits);
      stands = λ fits. conditional_stands a x y known (parts_of_conditional a n x.below fits);
      comes_out = conditional_comes_out a x y known;
      part = λ fits. conditional_is_part a x y known (parts_of_conditional a n x.below fits);
      coming = λ o p r is fits form core. comes o p r a n x.below y is fits form core known;
    }

pub known_conditional_owes : (a : Around) (x y : Tree) → KnownConditional a x y → ByPart a x y
known_conditional_owes a x y (consequent_is_taken n m i j t k l d b c truth bare) = known_owes a n t m d (node k i b (node l j c nothing)) y (consequent_is_taken n m i j t k l d b c truth bare)
known_conditional_owes a x y (alternate_is_taken n m i j t k l d b c truth bare) = known_owes a n t m d (node k i b (node l j c nothing)) y (alternate_is_taken n m i j t k l d b c truth bare)
