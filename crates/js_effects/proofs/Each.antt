-- What is asked of the nodes of a row one by one.
use Rattle.std.proofs.Common.{◌≡◌, Bool, true, false, ◌&&◌, ◌||◌, List, [], ◌∷◌, Option, Some, None, refl, sym, ap}
use Rattle.js_syntax.specs.Node.{Tree, forest_of, row}
use Rattle.js_syntax.proofs.Truth.{or_false}
use Rattle.js_tree.proofs.Search.{AsksEach}
use Rattle.js_effects.specs.declared.surroundings.Surroundings.{Surroundings}
use Rattle.js_effects.specs.Silence.{has_effect, may_have_effects}
use Rattle.js_effects.specs.Answers.{Answers}
use Rattle.js_effects.specs.Kinds.{types, all_primitive}
use Rattle.js_effects.specs.Effects.{has_spread, acts, any_acts}

pub effects_each : (bound : List Bool) (s : Surroundings) → AsksEach (may_have_effects bound s)
effects_each bound s None ts = refl
effects_each bound s (Some t) ts = ap (λ (b : Bool). b || may_have_effects bound s (row ts)) (sym (or_false (has_effect bound s t.kind t.note t.below (may_have_effects bound s t.below))))

pub acts_one : (A : Answers) (t : Tree) → any_acts A (row (Some t ∷ [])) ≡ acts A (forest_of t)
acts_one A t = or_false (acts A (forest_of t))

pub acts_each : (A : Answers) → AsksEach (any_acts A)
acts_each A None ts = refl
acts_each A (Some t) ts = ap (λ (b : Bool). b || any_acts A (row ts)) (sym (or_false (acts A (forest_of t))))

pub spreads_each : AsksEach has_spread
spreads_each None ts = refl
spreads_each (Some t) ts = ap (λ (b : Bool). b || has_spread (row ts)) (sym (or_false _))

and_true : (a : Bool) → a && true ≡ a
and_true true = refl
and_true false = refl

pub primitive_each : (A : Answers) (t : Option Tree) (ts : List (Option Tree)) → all_primitive (types A (row (t ∷ ts))) ≡ (all_primitive (types A (row (t ∷ []))) && all_primitive (types A (row ts)))
primitive_each A None ts = refl
primitive_each A (Some t) ts = ap (λ (b : Bool). b && all_primitive (types A (row ts))) (sym (and_true _))
