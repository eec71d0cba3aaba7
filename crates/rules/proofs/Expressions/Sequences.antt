-- What is left of sequences of which some part doesn't act.
use Rattle.std.proofs.Common.{◌≡◌, ◌∙◌, ◌+◌, ◌≤◌, ◌<◌, ℕ, Bool, true, false, ◌||◌, ◌&&◌, Some, if◌then◌else◌, refl, sym, ap, subst, arith}
use Rattle.js_syntax.specs.declared.node_kind.NodeKind.{NodeKind as Kind}
use Rattle.js_syntax.specs.declared.node_kind.NodeKind.TheVariants.{SequenceExpression as sequence_expression, Expressions as expressions}
use Rattle.js_syntax.specs.Facts.{weight}
use Rattle.js_syntax.specs.Node.{Forest, Tree, Note, nothing, node, absent, bare, forest_of, total}
use Rattle.js_tree.specs.Walk.{is_list as is_row}
use Rattle.scope_counts.specs.Counts.{ids}
use Rattle.min_context.specs.Place.{place_at, goes_on}
use Rattle.scope_laws.specs.Lists.{is_list}
use Rattle.scope_laws.specs.Place as places
use Rattle.scope_counts.specs.Edits.{Around}
use Rattle.steps.specs.Allowed.UnusedOperation.{acts}
use Rattle.steps.specs.Allowed.IdleParts.{stays_before, counting, all_count, more_before, itself_or_behind, as_value_of, sequence_becomes, IdleParts, idle_parts_leave}
use Rattle.steps.specs.Allowed.IndirectChoice.{behind_zero}
use Rattle.steps.specs.Allowed.Uses.{Use, stands_bare}
pub use Rattle.steps.proofs.Owed.IdleParts.{some_left, first_leaves, none_behind, zero_lighter}
use Rattle.rules.specs.DeadCode.Before.{before}
use Rattle.rules.specs.Expressions.Uses.{Spot, spot_of}
use Rattle.rules.specs.Expressions.Lists.{new_note, list_note}
use Rattle.rules.specs.Expressions.Sequences.{sequence_left}
use Rattle.rules.proofs.Expressions.Uses.{spot_at, spot_before}
use Rattle.rules.proofs.Expressions.Becoming.{no_answer, same_answer, IsLess}
use Rattle.rules.proofs.Expressions.Lists.{HasAnswer, answer, made, several_as, unless_as, idle_weighs, several_little, unless}

-- ---- whether a sequence becomes anything doesn't depend on notes

itself_as : (bare more : Bool) (n i : Note) (x y : Tree) → itself_or_behind bare more n x ≡ Some y → HasAnswer (itself_or_behind bare more i x) y
itself_as true more n i x y e = record { left = y; answers = e; same = refl }
itself_as false true n i x y e = subst (λ z. HasAnswer (Some (behind_zero i i i x)) z) (same_answer e) (answer (behind_zero i i i x) (behind_zero n n n x) refl)
itself_as false false n i x y e = no_answer e

value_as : (u : Use) (in_with more : Bool) (n m i j : Note) (parts : Forest) (y : Tree) → as_value_of u in_with more n m parts ≡ Some y → HasAnswer (as_value_of u in_with more i j parts) y
value_as u in_with more n m i j nothing y e = no_answer e
value_as u in_with more n m i j (absent rest) y e = several_as n m i j (absent rest) y e
value_as u in_with more n m i j (node k l a nothing) y e = itself_as (stands_bare u in_with k a) more n i (record { kind = k; note = l; below = a }) y e
value_as u in_with more n m i j (node k l a (node h g b rest)) y e = several_as n m i j (node k l a (node h g b rest)) y e
value_as u in_with more n m i j (node k l a (absent rest)) y e = several_as n m i j (node k l a (absent rest)) y e

sequence_as : (u : Use) (in_with : Bool) (n m i j : Note) (k : Kind) (below : Forest) (y : Tree) → sequence_becomes u in_with n m k below ≡ Some y → HasAnswer (sequence_becomes u in_with i j k below) y
sequence_as u in_with n m i j sequence_expression (node expressions l parts nothing) y e =
    let more = more_before parts in
    unless_as (all_count parts) (as_value_of u in_with more n m (counting parts)) (as_value_of u in_with more i j (counting parts)) y (value_as u in_with more n m i j (counting parts) y) e
sequence_as u in_with n m i j k below y e = no_answer e

-- ---- the answer is an edit, and where an edit applies there is an answer

pub sequence_edits : (a : places.Around) (x y : Tree) → sequence_left (spot_at a) x.note x.kind x.below ≡ Some y → IdleParts a x y
sequence_edits a x y e = idle_parts_leave (new_note x.note) (new_note (list_note x.below)) x y e

pub sequence_answers : (a : places.Around) (x z : Tree) → IdleParts a x z → (y : Tree) × (sequence_left (spot_at a) x.note x.kind x.below ≡ Some y) × (bare (forest_of y) ≡ bare (forest_of z))
sequence_answers a _ _ (idle_parts_leave n m x z e) =
    let h = sequence_as (spot_at a).used_as (spot_at a).in_with n m (new_note x.note) (new_note (list_note x.below)) x.kind x.below z e in
    (h.left, h.answers, h.same)

-- at a place of a walk
pub sequence_edits_there : (a : Around) (x y : Tree) (rest : Forest) → sequence_left (spot_of (place_at a (goes_on rest))) x.note x.kind x.below ≡ Some y → IdleParts (before a rest) x y
sequence_edits_there a x y rest e = sequence_edits (before a rest) x y (ap (λ s. sequence_left s x.note x.kind x.below) (sym (spot_before a rest)) ∙ e)

pub sequence_answers_there : (a : Around) (x z : Tree) (rest : Forest) → IdleParts (before a rest) x z → (y : Tree) × (sequence_left (spot_of (place_at a (goes_on rest))) x.note x.kind x.below ≡ Some y) × (bare (forest_of y) ≡ bare (forest_of z))
sequence_answers_there a x z rest o = let w = sequence_answers (before a rest) x z o in (w.0, ap (λ s. sequence_left s x.note x.kind x.below) (spot_before a rest) ∙ w.1, w.2)

-- ---- what counts is among the parts

fewer_there : (r : ℕ) (k : Kind) (n : Note) (a rest left : Forest) (b : Bool) → ids r left ≤ ids r rest → ids r (if b then node k n a left else left) ≤ ids r (node k n a rest)
fewer_there r k n a rest left true h = Prim.omega (arith, h)
fewer_there r k n a rest left false h = Prim.omega (arith, h)

no_more : (r : ℕ) (parts : Forest) → ids r (counting parts) ≤ ids r parts
no_more r nothing = Prim.omega arith
no_more r (absent rest) = no_more r rest
no_more r (node k n a rest) = at rest (no_more r rest)
  where
    at : (others : Forest) → ids r (counting others) ≤ ids r others → ids r (counting (node k n a others)) ≤ ids r (node k n a others)
    at nothing h = Prim.omega arith
    at (absent others) h = fewer_there r k n a (absent others) (counting (absent others)) (stays_before k n a) h
    at (node l m b others) h = fewer_there r k n a (node l m b others) (counting (node l m b others)) (stays_before k n a) h

lighter_there : (k : Kind) (n : Note) (a rest left : Forest) (b : Bool) → total weight left ≤ total weight rest → total weight (if b then node k n a left else left) ≤ total weight (node k n a rest)
lighter_there k n a rest left true h = Prim.omega (arith, h)
lighter_there k n a rest left false h = Prim.omega (arith, h)

no_heavier : (parts : Forest) → total weight (counting parts) ≤ total weight parts
no_heavier nothing = Prim.omega arith
no_heavier (absent rest) = no_heavier rest
no_heavier (node k n a rest) = at rest (no_heavier rest)
  where
    at : (others : Forest) → total weight (counting others) ≤ total weight others → total weight (counting (node k n a others)) ≤ total weight (node k n a others)
    at nothing h = Prim.omega arith
    at (absent others) h = lighter_there k n a (absent others) (counting (absent others)) (stays_before k n a) h
    at (node l m b others) h = lighter_there k n a (node l m b others) (counting (node l m b others)) (stays_before k n a) h

-- ---- and a part that leaves weighs something

same_lists : (k : Kind) → is_list k ≡ is_row k
same_lists Kind.Statements = refl
same_lists Kind.Cases = refl
same_lists Kind.Declarators = refl
same_lists Kind.Parameters = refl
same_lists Kind.Members = refl
same_lists Kind.Elements = refl
same_lists Kind.Properties = refl
same_lists Kind.Expressions = refl
same_lists Kind.Arguments = refl
same_lists Kind.Quasis = refl
same_lists Kind.Specifiers = refl
same_lists k = refl

leaving_weighs : (k : Kind) (n : Note) (a : Forest) → stays_before k n a ≡ false → 1 ≤ weight k
leaving_weighs k n a leaves = idle_weighs k n a (ap (λ b. acts k n a || b) (same_lists k) ∙ leaves)

-- so of a sequence in which not all stay less is left
pub record IsSmaller (y : Tree) (parts : Forest) : Type 0 where
  pub fewer : (r : ℕ) → ids r (forest_of y) ≤ ids r parts
  pub lighter : total weight (forest_of y) < total weight parts + 2

less_there : (k : Kind) (n : Note) (a rest : Forest) (b : Bool) → stays_before k n a ≡ b → (all_count rest ≡ false → total weight (counting rest) + 1 ≤ total weight rest) → (b && all_count rest) ≡ false
    → total weight (if b then node k n a (counting rest) else counting rest) + 1 ≤ total weight (node k n a rest)
less_there k n a rest true stays more e = Prim.omega (arith, more e)
less_there k n a rest false leaves more e = Prim.omega (arith, no_heavier rest, leaving_weighs k n a leaves)

lighter_row : (parts : Forest) → all_count parts ≡ false → total weight (counting parts) + 1 ≤ total weight parts
lighter_row nothing e = absurd Prim.cc
lighter_row (absent rest) e = lighter_row rest e
lighter_row (node k n a rest) e = at rest (λ h. lighter_row rest h) e
  where
    at : (others : Forest) → (all_count others ≡ false → total weight (counting others) + 1 ≤ total weight others) → all_count (node k n a others) ≡ false → total weight (counting (node k n a others)) + 1 ≤ total weight (node k n a others)
    at nothing more h = absurd Prim.cc
    at (absent others) more h = less_there k n a (absent others) (stays_before k n a) refl more h
    at (node l m b others) more h = less_there k n a (node l m b others) (stays_before k n a) refl more h

-- ---- what is left is less

itself_little : (bare more : Bool) (n : Note) (k : Kind) (i : Note) (a : Forest) (y : Tree) (parts : Forest) → more_before parts ≡ more → counting parts ≡ node k i a nothing → all_count parts ≡ false
    → itself_or_behind bare more n (record { kind = k; note = i; below = a }) ≡ Some y → IsSmaller y parts
itself_little true more n k i a y parts is of idle e =
    subst (λ z. IsSmaller z parts) (same_answer e) (record { fewer = λ r. Prim.omega (arith, no_more r parts, ap (ids r) of); lighter = Prim.omega (arith, lighter_row parts idle, ap (total weight) of) })
itself_little false true n k i a y parts is of idle e =
    subst (λ z. IsSmaller z parts) (same_answer e) (record { fewer = λ r. Prim.omega (arith, no_more r parts, ap (ids r) of); lighter = Prim.omega (arith, zero_lighter k i a parts of idle is) })
itself_little false false n k i a y parts is of idle e = no_answer e

several_smaller : (n m : Note) (left parts : Forest) (y : Tree) → counting parts ≡ left → all_count parts ≡ false → Some (made n m left) ≡ Some y → IsSmaller y parts
several_smaller n m left parts y of idle e =
    let h = several_little n m left y e in
    record { fewer = λ r. Prim.omega (arith, h.fewer r, no_more r parts, ap (ids r) of); lighter = Prim.omega (arith, h.lighter, lighter_row parts idle, ap (total weight) of) }

value_smaller : (u : Use) (in_with : Bool) (n m : Note) (left parts : Forest) (y : Tree) → counting parts ≡ left → all_count parts ≡ false → as_value_of u in_with (more_before parts) n m left ≡ Some y → IsSmaller y parts
value_smaller u in_with n m nothing parts y of idle e = no_answer e
value_smaller u in_with n m (absent rest) parts y of idle e = several_smaller n m (absent rest) parts y of idle e
value_smaller u in_with n m (node k l a nothing) parts y of idle e = itself_little (stands_bare u in_with k a) (more_before parts) n k l a y parts refl of idle e
value_smaller u in_with n m (node k l a (node h g b rest)) parts y of idle e = several_smaller n m (node k l a (node h g b rest)) parts y of idle e
value_smaller u in_with n m (node k l a (absent rest)) parts y of idle e = several_smaller n m (node k l a (absent rest)) parts y of idle e

sequence_less : (u : Use) (in_with : Bool) (i j n : Note) (k : Kind) (parts : Forest) (y : Tree) → sequence_becomes u in_with i j k parts ≡ Some y → IsLess (record { kind = k; note = n; below = parts }) y
sequence_less u in_with i j n sequence_expression (node expressions l parts nothing) y e =
    let h = unless (all_count parts) (as_value_of u in_with (more_before parts) i j (counting parts)) y e in
    let small = value_smaller u in_with i j (counting parts) parts y refl h.holds_not h.answers in
    record { thins = λ r. Prim.omega (arith, small.fewer r); lighter = Prim.omega (arith, small.lighter) }
sequence_less u in_with i j n k parts y e = no_answer e

pub sequence_is_less : (s : Spot) (n : Note) (k : Kind) (parts : Forest) (y : Tree) → sequence_left s n k parts ≡ Some y → IsLess (record { kind = k; note = n; below = parts }) y
sequence_is_less s n k parts y e = sequence_less s.used_as s.in_with (new_note n) (new_note (list_note parts)) n k parts y e
