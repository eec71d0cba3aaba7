-- What is left of object literals of which nobody takes the value.
use Rattle.std.proofs.Common.{◌≡◌, ◌∙◌, ◌≤◌, ◌+◌, ℕ, Some, None, if◌then◌else◌, sym, ap, arith}
use Rattle.js_syntax.specs.declared.node_kind.NodeKind.{NodeKind as Kind}
use Rattle.js_syntax.specs.declared.node_kind.NodeKind.TheVariants.{ObjectExpression as object_expression, Properties as properties}
use Rattle.js_syntax.specs.Facts.{weight}
use Rattle.js_syntax.specs.Node.{Forest, Tree, Note, nothing, node, absent, joined, bare, forest_of, total}
use Rattle.scope_counts.specs.Counts.{ids}
use Rattle.min_context.specs.Place.{place_at, goes_on}
use Rattle.scope_laws.specs.Place as places
use Rattle.scope_counts.specs.Edits.{Around}
use Rattle.steps.specs.Allowed.UnusedList.{acting, as_one}
use Rattle.steps.specs.Allowed.UnusedObject.{all_come_apart, keys_and_values, object_becomes, UnusedObject, acting_values_stay}
use Rattle.rules.specs.DeadCode.Before.{before}
use Rattle.rules.specs.Expressions.Uses.{Spot, spot_of}
use Rattle.rules.specs.Expressions.Lists.{new_note, list_note}
use Rattle.rules.specs.Expressions.Objects.{object_left}
use Rattle.rules.proofs.Expressions.Uses.{spot_at, spot_before}
use Rattle.rules.proofs.Expressions.Becoming.{no_answer, IsLess}
use Rattle.rules.proofs.Expressions.Lists.{HasAnswer, one_as, when_as, IsTaken, taken, no_more, no_heavier, one_little}

-- ---- whether an object becomes anything doesn't depend on notes

object_as : (n m i j : Note) (k : Kind) (below : Forest) (y : Tree) → object_becomes n m k below ≡ Some y → HasAnswer (object_becomes i j k below) y
object_as n m i j object_expression (node properties l es nothing) y e =
    let left = acting (keys_and_values es) in
    when_as (all_come_apart es) (as_one n m left) (as_one i j left) y (one_as n m i j left y) e
object_as n m i j k below y e = no_answer e

-- ---- the answer is an edit, and where an edit applies there is an answer

object_at : (s : Spot) (n : Note) (k : Kind) (parts : Forest) (y : Tree) → object_left s n k parts ≡ Some y → IsTaken s.is_unused (object_becomes (new_note n) (new_note (list_note parts)) k parts) y
object_at s n k parts y e = taken s.is_unused (object_becomes (new_note n) (new_note (list_note parts)) k parts) y e

pub object_edits : (a : places.Around) (x y : Tree) → object_left (spot_at a) x.note x.kind x.below ≡ Some y → UnusedObject a x y
object_edits a x y e =
    let h = object_at (spot_at a) x.note x.kind x.below y e in
    acting_values_stay (new_note x.note) (new_note (list_note x.below)) x y h.holds h.answers

pub object_answers : (a : places.Around) (x z : Tree) → UnusedObject a x z → (y : Tree) × (object_left (spot_at a) x.note x.kind x.below ≡ Some y) × (bare (forest_of y) ≡ bare (forest_of z))
object_answers a _ _ (acting_values_stay n m x z unused e) =
    let h = object_as n m (new_note x.note) (new_note (list_note x.below)) x.kind x.below z e in
    (h.left, ap (λ b. if b then object_becomes (new_note x.note) (new_note (list_note x.below)) x.kind x.below else None) unused ∙ h.answers, h.same)

-- at a place of a walk
pub object_edits_there : (a : Around) (x y : Tree) (rest : Forest) → object_left (spot_of (place_at a (goes_on rest))) x.note x.kind x.below ≡ Some y → UnusedObject (before a rest) x y
object_edits_there a x y rest e = object_edits (before a rest) x y (ap (λ s. object_left s x.note x.kind x.below) (sym (spot_before a rest)) ∙ e)

pub object_answers_there : (a : Around) (x z : Tree) (rest : Forest) → UnusedObject (before a rest) x z → (y : Tree) × (object_left (spot_of (place_at a (goes_on rest))) x.note x.kind x.below ≡ Some y) × (bare (forest_of y) ≡ bare (forest_of z))
object_answers_there a x z rest o = let w = object_answers (before a rest) x z o in (w.0, ap (λ s. object_left s x.note x.kind x.below) (spot_before a rest) ∙ w.1, w.2)

-- ---- keys and values are among the properties

ids_joined : (r : ℕ) (t u : Forest) → ids r (joined t u) ≡ ids r t + ids r u
ids_joined r nothing u = Prim.omega arith
ids_joined r (absent t) u = ids_joined r t u
ids_joined r (node k n b t) u = Prim.omega (arith, ids_joined r t u)

parts_no_more : (r : ℕ) (es : Forest) → ids r (keys_and_values es) ≤ ids r es
parts_no_more r nothing = Prim.omega arith
parts_no_more r (absent rest) = parts_no_more r rest
parts_no_more r (node k n below rest) = Prim.omega (arith, ids_joined r below (keys_and_values rest), parts_no_more r rest)

weight_joined : (t u : Forest) → total weight (joined t u) ≡ total weight t + total weight u
weight_joined nothing u = Prim.omega arith
weight_joined (absent t) u = weight_joined t u
weight_joined (node k n b t) u = Prim.omega (arith, weight_joined t u)

parts_no_heavier : (es : Forest) → total weight (keys_and_values es) ≤ total weight es
parts_no_heavier nothing = Prim.omega arith
parts_no_heavier (absent rest) = parts_no_heavier rest
parts_no_heavier (node k n below rest) = Prim.omega (arith, weight_joined below (keys_and_values rest), parts_no_heavier rest)

-- ---- what is left is less

object_less : (i j n : Note) (k : Kind) (parts : Forest) (y : Tree) → object_becomes i j k parts ≡ Some y → IsLess (record { kind = k; note = n; below = parts }) y
object_less i j n object_expression (node properties l es nothing) y e =
    let parts = keys_and_values es in
    let h = one_little i j (acting parts) y (taken (all_come_apart es) (as_one i j (acting parts)) y e).answers in
    record { thins = λ r. Prim.omega (arith, h.fewer r, no_more r parts, parts_no_more r es); lighter = Prim.omega (arith, h.lighter, no_heavier parts, parts_no_heavier es) }
object_less i j n k parts y e = no_answer e

pub object_is_less : (s : Spot) (n : Note) (k : Kind) (parts : Forest) (y : Tree) → object_left s n k parts ≡ Some y → IsLess (record { kind = k; note = n; below = parts }) y
object_is_less s n k parts y e = object_less (new_note n) (new_note (list_note parts)) n k parts y (object_at s n k parts y e).answers
