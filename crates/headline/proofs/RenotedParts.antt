-- The branch that acts alone, and what counts of a sequence, don't see notes.
use Rattle.std.proofs.Common.{◌≡◌, ◌∙◌, Bool, true, false, ◌&&◌, ◌||◌, Some, None, is_some, if◌then◌else◌, refl, ap, ap₂}
use Rattle.js_syntax.specs.declared.node_kind.NodeKind.{NodeKind as Kind}
use Rattle.js_syntax.specs.declared.node_kind.NodeKind.TheVariants.{ConditionalExpression as conditional_expression, SequenceExpression as sequence_expression, Expressions as expressions, ParenthesizedExpression as parenthesized_expression}
use Rattle.js_syntax.specs.declared.operator.LogicalOperator.TheVariants as logical
use Rattle.js_syntax.specs.Node.{Forest, Tree, Note, nothing, node, absent, nowhere, bare}
use Rattle.scope_laws.proofs.Notes.{unseen}
use Rattle.steps.specs.Allowed.Uses.{Use, stands_bare}
use Rattle.steps.specs.Allowed.UnusedOperation.{acts}
use Rattle.steps.specs.Allowed.OneSidedChoice.{sides, one_side, one_sided}
use Rattle.steps.specs.Allowed.IdleParts.{stays_before, counting, all_count, is_more, more_before, itself_or_behind, as_value_of, sequence_becomes}
use Rattle.headline.proofs.RenotedUnused.{stands_bare_bare, acts_bare, some_tree}

-- ---- the branch that acts

side_if : (a b : Bool) (x y z w : Tree)
    → is_some (if a then (if b then None else Some x) else (if b then Some y else None)) ≡ is_some (if a then (if b then None else Some z) else (if b then Some w else None))
side_if true true x y z w = refl
side_if true false x y z w = refl
side_if false true x y z w = refl
side_if false false x y z w = refl

side_bare : (n : Note) (t : Forest) → is_some (one_side n (bare t)) ≡ is_some (one_side n t)
side_bare n (node k i a (node l j b (node z o c nothing))) =
    let test : Tree = record { kind = k; note = nowhere; below = bare a } in
    let first : Tree = record { kind = l; note = nowhere; below = bare b } in
    let second : Tree = record { kind = z; note = nowhere; below = bare c } in
    ap₂ (λ p q. is_some (if p then (if q then None else Some (sides n logical.And test first)) else (if q then Some (sides n logical.Or test second) else None))) (acts_bare l j b) (acts_bare z o c)
    ∙ side_if (acts l j b) (acts z o c) (sides n logical.And test first) (sides n logical.Or test second)
    (sides n logical.And (record { kind = k; note = i; below = a }) (record { kind = l; note = j; below = b })) (sides n logical.Or (record { kind = k; note = i; below = a }) (record { kind = z; note = o; below = c }))
side_bare n (node k i a (node l j b (node z o c (node h g d rest)))) = refl
side_bare n (node k i a (node l j b (node z o c (absent rest)))) = refl
side_bare n (node k i a (node l j b (absent rest))) = refl
side_bare n (node k i a (node l j b nothing)) = refl
side_bare n (node k i a (absent rest)) = refl
side_bare n (node k i a nothing) = refl
side_bare n (absent rest) = refl
side_bare n nothing = refl

sided_bare : (n : Note) (k : Kind) (t : Forest) → is_some (one_sided n k (bare t)) ≡ is_some (one_sided n k t)
sided_bare n conditional_expression t = side_bare n t
sided_bare n k t = refl

pub side_as : (n : Note) (k : Kind) (f g : Forest) (y : Tree) → bare f ≡ bare g → one_sided n k g ≡ Some y → (z : Tree) × (one_sided n k f ≡ Some z)
side_as n k f g y e h = some_tree (one_sided n k f) (unseen (λ t. is_some (one_sided n k t)) (sided_bare n k) f g e ∙ ap is_some h)

-- ---- what counts of a sequence

or_same : (x y z : Bool) → x ≡ y → (x || z) ≡ (y || z)
or_same x y z e = ap (λ b. b || z) e

before_bare : (k : Kind) (n : Note) (t : Forest) → stays_before k nowhere (bare t) ≡ stays_before k n t
before_bare k n t = or_same (acts k nowhere (bare t)) (acts k n t) _ (acts_bare k n t)

if_counts : (b : Bool) (k : Kind) (n : Note) (a rest : Forest) → (if b then node k nowhere (bare a) (bare rest) else bare rest) ≡ bare (if b then node k n a rest else rest)
if_counts true k n a rest = refl
if_counts false k n a rest = refl

counting_bare : (t : Forest) → counting (bare t) ≡ bare (counting t)
counting_bare nothing = refl
counting_bare (absent rest) = ap absent (counting_bare rest)
counting_bare (node k n a nothing) = refl
counting_bare (node k n a (absent rest)) =
    ap₂ (λ b r. if b then node k nowhere (bare a) r else r) (before_bare k n a) (counting_bare (absent rest)) ∙ if_counts (stays_before k n a) k n a (counting (absent rest))
counting_bare (node k n a (node l m b rest)) =
    ap₂ (λ c r. if c then node k nowhere (bare a) r else r) (before_bare k n a) (counting_bare (node l m b rest)) ∙ if_counts (stays_before k n a) k n a (counting (node l m b rest))

all_count_bare : (t : Forest) → all_count (bare t) ≡ all_count t
all_count_bare nothing = refl
all_count_bare (absent rest) = all_count_bare rest
all_count_bare (node k n a nothing) = refl
all_count_bare (node k n a (absent rest)) = ap₂ (λ x y. x && y) (before_bare k n a) (all_count_bare rest)
all_count_bare (node k n a (node l m b rest)) = ap₂ (λ x y. x && y) (before_bare k n a) (all_count_bare (node l m b rest))

more_is_bare : (k : Kind) (t : Forest) → is_more k (bare t) ≡ is_more k t
more_is_bare parenthesized_expression nothing = refl
more_is_bare parenthesized_expression (absent rest) = refl
more_is_bare parenthesized_expression (node k n a rest) = refl
more_is_bare k t = refl

more_bare : (t : Forest) → more_before (bare t) ≡ more_before t
more_bare (node k n a (node l m b nothing)) = more_is_bare k a
more_bare (node k n a (node l m b (absent rest))) = refl
more_bare (node k n a (node l m b (node h g c rest))) = refl
more_bare (node k n a (absent rest)) = refl
more_bare (node k n a nothing) = refl
more_bare (absent rest) = refl
more_bare nothing = refl

some_itself : (b c : Bool) (n : Note) (x y : Tree) → is_some (itself_or_behind b c n x) ≡ is_some (itself_or_behind b c n y)
some_itself true c n x y = refl
some_itself false true n x y = refl
some_itself false false n x y = refl

value_bare : (u : Use) (w more : Bool) (n m : Note) (t : Forest) → is_some (as_value_of u w more n m (bare t)) ≡ is_some (as_value_of u w more n m t)
value_bare u w more n m nothing = refl
value_bare u w more n m (absent rest) = refl
value_bare u w more n m (node k i a nothing) =
    let x : Tree = record { kind = k; note = nowhere; below = bare a } in
    ap (λ b. is_some (itself_or_behind b more n x)) (stands_bare_bare u w k a) ∙ some_itself (stands_bare u w k a) more n x (record { kind = k; note = i; below = a })
value_bare u w more n m (node k i a (absent rest)) = refl
value_bare u w more n m (node k i a (node l j b rest)) = refl

unless : (u : Use) (w more : Bool) (n m : Note) (b : Bool) (parts : Forest) → is_some (if b then None else as_value_of u w more n m (bare parts)) ≡ is_some (if b then None else as_value_of u w more n m parts)
unless u w more n m true parts = refl
unless u w more n m false parts = value_bare u w more n m parts

sequence_bare : (u : Use) (w : Bool) (n m : Note) (k : Kind) (t : Forest) → is_some (sequence_becomes u w n m k (bare t)) ≡ is_some (sequence_becomes u w n m k t)
sequence_bare u w n m sequence_expression (node expressions i parts nothing) =
    ap₂ (λ b ps. is_some (if b then None else as_value_of u w (more_before (bare parts)) n m ps)) (all_count_bare parts) (counting_bare parts)
    ∙ ap (λ more. is_some (if all_count parts then None else as_value_of u w more n m (bare (counting parts)))) (more_bare parts)
    ∙ unless u w (more_before parts) n m (all_count parts) (counting parts)
sequence_bare u w n m k t = refl

pub sequence_as : (u : Use) (w : Bool) (n m : Note) (k : Kind) (f g : Forest) (y : Tree) → bare f ≡ bare g → sequence_becomes u w n m k g ≡ Some y → (z : Tree) × (sequence_becomes u w n m k f ≡ Some z)
sequence_as u w n m k f g y e h = some_tree (sequence_becomes u w n m k f) (unseen (λ t. is_some (sequence_becomes u w n m k t)) (sequence_bare u w n m k) f g e ∙ ap is_some h)
