-- What a logical expression owes of which it is known which side counts, which becomes that side.
use Rattle.std.proofs.Common.{◌≡◌, ◌<◌, [], ◌∷◌, true, false, Some, arith, refl, sym, subst}
use Rattle.js_syntax.specs.Class.{Class, root, expression}
use Rattle.js_syntax.specs.declared.node_kind.NodeKind.{NodeKind as Kind}
use Rattle.js_syntax.specs.declared.operator.LogicalOperator.{LogicalOperator}
use Rattle.js_syntax.specs.Facts.{weight}
use Rattle.js_syntax.specs.Node.{Note, Forest, Tree, nothing, node, forest_of, total}
use Rattle.js_meaning_near.specs.Near.{module_of}
use Rattle.known_tests.proofs.Taken.{right_counts, left_decides}
use Rattle.js_meaning_near.specs.Local.{for_part}
use Rattle.json_shape.specs.Shape.{one, these, Fits}
use Rattle.form_rules.specs.Form.{IsWellFormed}
use Rattle.scope_counts.proofs.Leaving.{logical_is_plain}
use Rattle.scope_laws.specs.Place.{Around, plug}
use Rattle.steps.specs.Steps.{all_core}
use Rattle.min_pass.specs.Around.{outermost as asked_of_program}
use Rattle.steps.specs.Allowed.Places.{asked_at}
use Rattle.steps.specs.Allowed.Uses.{use_at}
use Rattle.steps.specs.Allowed.Wanted.{wanted_at}
use Rattle.steps.specs.Allowed.KnownSide.{a_logical, KnownSide, right_side_counts, left_side_decides}
use Rattle.steps.proofs.Fit.CoreCalm.{nameless_as_planned}
use Rattle.steps.proofs.Fit.Held.{core_below, core_alone}
use Rattle.steps.specs.Owed.Comes.{Comes}
use Rattle.steps.specs.Owed.Owed.{ComesOut, ByPart}
use Rattle.steps.specs.Owed.Part.{IsPart}
use Rattle.steps.specs.Owed.TakesPlace.{TakesPlace}
use Rattle.steps.proofs.Owed.Bare.{bare_comes_out, bare_at}
use Rattle.steps.proofs.Owed.BranchKinds.{expression_told, no_statement, bare_unasked}
use Rattle.steps.proofs.Owed.ByPart.{part_lighter}
use Rattle.steps.proofs.Owed.ChoiceParts.{Two, sides_of_logical}
use Rattle.steps.proofs.Owed.ChoiceRuns.{consequent_core, core_there, no_imports_below}
use Rattle.steps.proofs.Owed.Expressions.{expression_declares_nothing}
use Rattle.steps.proofs.Owed.FitsTaking.{as_logical, logical_stood}
use Rattle.steps.proofs.Owed.KnownTests.{side_tells}
use Rattle.steps.proofs.Owed.PartForm.{Stands, none_of_logical}
use Rattle.steps.proofs.Owed.Undeclared.{DeclaresNothing, nothing_behind, both_plainly}
use Rattle.steps.proofs.Owed.Wanting.{wanted_as_used}

side_lighter : (a : Around) (x y : Tree) → KnownSide a x y → total weight (forest_of y) < total weight (forest_of x)
side_lighter a x y (right_side_counts o n m i t k d b goes bare) = part_lighter (Kind.LogicalExpression o) k n i x.below b (node t m d nothing) nothing (Prim.omega arith) refl
side_lighter a x y (left_side_decides o n m i t k d b stays bare) = part_lighter (Kind.LogicalExpression o) t n m x.below d nothing (node k i b nothing) (Prim.omega arith) refl

-- by the table of node types, and by the rules of form: both sides are expressions
side_takes : (a : Around) (x y : Tree) → KnownSide a x y → Two x.below → TakesPlace x y
side_takes a x y (right_side_counts o n m i t k d b goes bare) two = record {
  classes = λ (to : Class) fits. (as_logical k b to (logical_stood to n x.below o fits) two.1.0, tt);
  old_told = refl;
  new_told = expression_told k b two.1.0;
}
side_takes a x y (left_side_decides o n m i t k d b stays bare) two = record {
  classes = λ (to : Class) fits. (as_logical t d to (logical_stood to n x.below o fits) two.0, tt);
  old_told = refl;
  new_told = expression_told t d two.0;
}

side_stands : (a : Around) (x y : Tree) → KnownSide a x y → Two x.below → Stands x y
side_stands a x y (right_side_counts o n m i t k d b goes bare) two = record {
  before = node t m d nothing;
  after = nothing;
  note = i;
  is_part = refl;
  gives = refl;
  unasked = bare_unasked k b two.1.0 (use_at a) (asked_at (asked_of_program true) a).in_with bare;
  alike = no_statement k b two.1.0;
  none_before = none_of_logical o (node t m d nothing);
  none_after = λ s p. refl;
}
side_stands a x y (left_side_decides o n m i t k d b stays bare) two = record {
  before = nothing;
  after = node k i b nothing;
  note = m;
  is_part = refl;
  gives = refl;
  unasked = bare_unasked t d two.0 (use_at a) (asked_at (asked_of_program true) a).in_with bare;
  alike = no_statement t d two.0;
  none_before = λ s p. refl;
  none_after = none_of_logical o (node k i b nothing);
}

side_comes_out : (a : Around) (x y : Tree) → KnownSide a x y → ComesOut a y
side_comes_out a x y (right_side_counts o n m i t k d b goes bare) = bare_comes_out a k i b bare
side_comes_out a x y (left_side_decides o n m i t k d b stays bare) = bare_comes_out a t m d bare

-- by its table of names
side_is_part : (a : Around) (x y : Tree) → KnownSide a x y → Two x.below → IsPart x y
side_is_part a x y (right_side_counts o n m i t k d b goes bare) two = record {
  before = node t m d nothing;
  after = nothing;
  stands = refl;
  plain = logical_is_plain o;
  before_declares = expression_declares_nothing (node t m d nothing) (two.0, tt);
  after_declares = λ aims at. refl;
}
side_is_part a x y (left_side_decides o n m i t k d b stays bare) two = record {
  before = nothing;
  after = node k i b nothing;
  stands = refl;
  plain = logical_is_plain o;
  before_declares = λ aims at. refl;
  after_declares = expression_declares_nothing (node k i b nothing) (two.1.0, tt);
}

-- by its runs
pub left_core : (above k : Kind) (n m : Note) (d r : Forest) → all_core (node above n (node k m d r) nothing) ≡ true → all_core (node k m d nothing) ≡ true
left_core above k n m d r h = core_alone k m d r (core_below above n (node k m d r) nothing h)

side_comes : (a : Around) (x y : Tree) → KnownSide a x y → Fits root (plug a (Some x)) → all_core (plug a (Some x)) ≡ true → Two x.below → DeclaresNothing x.below → Comes a x y
side_comes a x y (right_side_counts o n m i t k d b goes bare) fits core two h =
    let right = node k i b nothing in
    let below = node t m d right in
    let is_core = consequent_core (Kind.LogicalExpression o) k n m i t d b nothing in
    let wanted = wanted_as_used a x (λ e. cc) core fits in
    record {
      inner = b;
      same = refl;
      stands = for_part (λ st. right_counts (wanted_at a) st o t m i d k b (side_tells t m d o true goes).0 (bare_at a k i b two.1.0 (is_core (core_there a x core)) wanted bare));
      old_calm = refl;
      declares = both_plainly (Kind.LogicalExpression o) below k i b nothing refl h (nothing_behind t m d right h);
      core = is_core;
    }
side_comes a x y (left_side_decides o n m i t k d b stays bare) fits core two h =
    let right = node k i b nothing in
    let below = node t m d right in
    let is_core = left_core (Kind.LogicalExpression o) t n m d right in
    let wanted = wanted_as_used a x (λ e. cc) core fits in
    let told = side_tells t m d o false stays in
    record {
      inner = d;
      same = refl;
      stands = for_part (λ st. left_decides (wanted_at a) st o t m i d k b told.0 told.1 (bare_at a t m d two.0 (is_core (core_there a x core)) wanted bare));
      old_calm = refl;
      declares = both_plainly (Kind.LogicalExpression o) below t m d right refl h h;
      core = is_core;
    }

module _ (n m : Note) (b : Forest) (a : Around) (o : LogicalOperator) (j : Note) (below : Forest) where
  abbrev whole : Tree
  whole = record { kind = Kind.LogicalExpression o; note = j; below = below }

  comes : (y : Tree) → plug a (Some whole) ≡ module_of n m b → Fits root (module_of n m b) → IsWellFormed (module_of n m b) → all_core (module_of n m b) ≡ true → KnownSide a whole y → Comes a whole y
  comes y is fits form core known =
      let there = subst (Fits root) (sym is) fits in
      let all = subst (λ t. all_core t ≡ true) (sym is) core in
      let two = sides_of_logical a o j below there in
      side_comes a whole y known there all two
      (record {
        bound = nameless_as_planned below (these (one expression ∷ one expression ∷ [])) refl two (core_below (Kind.LogicalExpression o) j below nothing (core_there a whole all));
        imports = no_imports_below n m b a whole y is fits form core (Kind.LogicalExpression o) refl refl (λ p i. refl);
      })

known_owes : (a : Around) (o : LogicalOperator) (n : Note) (t : Kind) (m : Note) (d : Forest) (right : Forest) (y : Tree) → KnownSide a (a_logical o n t m d right) y → ByPart a (a_logical o n t m d right) y
known_owes a o n t m d right y known =
    let x = a_logical o n t m d right in
    record {
      lighter = side_lighter a x y known;
      no_call = record { counts = refl; lists = λ i. refl; begins = λ i. refl; calls = refl };
      ends = refl;
      may_change = refl;
      takes = λ fits. side_takes a x y known (sides_of_logical a o n x.below fits);
      stands = λ fits. side_stands a x y known (sides_of_logical a o n x.below fits);
      comes_out = side_comes_out a x y known;
      part = λ fits. side_is_part a x y known (sides_of_logical a o n x.below fits);
      coming = λ p q r is fits form core. comes p q r a o n x.below y is fits form core known;
    }

pub known_side_owes : (a : Around) (x y : Tree) → KnownSide a x y → ByPart a x y
known_side_owes a x y (right_side_counts o n m i t k d b goes bare) = known_owes a o n t m d (node k i b nothing) y (right_side_counts o n m i t k d b goes bare)
known_side_owes a x y (left_side_decides o n m i t k d b stays bare) = known_owes a o n t m d (node k i b nothing) y (left_side_decides o n m i t k d b stays bare)
