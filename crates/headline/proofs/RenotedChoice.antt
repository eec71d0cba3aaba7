-- The part that is known to count, whether it matters that it stands there itself, and whether it follows a test that acts, don't see notes.
use Rattle.std.proofs.Common.{◌≡◌, ◌∙◌, Bool, true, false, Option, Some, None, is_some, if◌then◌else◌, refl, sym, ap, ap₂, true≢false}
use Rattle.js_syntax.specs.declared.node_kind.NodeKind.{NodeKind as Kind}
use Rattle.js_syntax.specs.declared.node_kind.NodeKind.TheVariants.{ConditionalExpression as conditional_expression, LogicalExpression as logical_expression}
use Rattle.js_syntax.specs.declared.operator.LogicalOperator.{LogicalOperator}
use Rattle.js_syntax.specs.Node.{Forest, Tree, Note, nothing, node, nowhere, bare}
use Rattle.scope_laws.proofs.Notes.{unseen}
use Rattle.steps.specs.Allowed.Uses.{Use, matters}
use Rattle.steps.specs.Allowed.IndirectChoice.{one_of, if_so, part_counts, truth_beside, way_beside, behind, behind_test}
use Rattle.steps.specs.Allowed.KnownConditional.{truth_known}
use Rattle.steps.specs.Allowed.KnownSide.{side_known}
use Rattle.headline.proofs.RenotedKnown.{given_bare, way_bare, truth_bare, side_bare}
use Rattle.headline.proofs.RenotedUnused.{acts_bare, matters_bare, some_tree}

abbrev part_matters : Use → (in_with : Bool) → Option Tree → Bool
part_matters u w None = false
part_matters u w (Some z) = matters u w z.kind z.below

branch_bare : (u : Use) (w : Bool) (known : Option Bool) (k l : Kind) (i j : Note) (b c : Forest)
    → part_matters u w (one_of known (record { kind = k; note = nowhere; below = bare b }) (record { kind = l; note = nowhere; below = bare c })) ≡ part_matters u w (one_of known (record { kind = k; note = i; below = b }) (record { kind = l; note = j; below = c }))
branch_bare u w (Some true) k l i j b c = matters_bare u w k b
branch_bare u w (Some false) k l i j b c = matters_bare u w l c
branch_bare u w None k l i j b c = refl

right_bare : (u : Use) (w : Bool) (known : Option Bool) (k : Kind) (i : Note) (b : Forest)
    → part_matters u w (if_so known (record { kind = k; note = nowhere; below = bare b })) ≡ part_matters u w (if_so known (record { kind = k; note = i; below = b }))
right_bare u w (Some true) k i b = matters_bare u w k b
right_bare u w (Some false) k i b = refl
right_bare u w None k i b = refl

counts_bare : (u : Use) (w : Bool) (k : Kind) (t : Forest) → part_matters u w (part_counts k (bare t)) ≡ part_matters u w (part_counts k t)
counts_bare u w conditional_expression (node t m a (node k i b (node l j c nothing))) =
    ap (λ x. part_matters u w (one_of x (record { kind = k; note = nowhere; below = bare b }) (record { kind = l; note = nowhere; below = bare c }))) (truth_bare t m a) ∙ branch_bare u w (truth_known t m a) k l i j b c
counts_bare u w (logical_expression o) (node t m a (node k i b nothing)) =
    ap (λ x. part_matters u w (if_so x (record { kind = k; note = nowhere; below = bare b }))) (side_bare o t m a) ∙ right_bare u w (side_known o t m a) k i b
counts_bare u w k t = refl

part_there : (u : Use) (w : Bool) (x : Option Tree) → part_matters u w x ≡ true → (y : Tree) × (x ≡ Some y) × (matters u w y.kind y.below ≡ true)
part_there u w (Some y) h = (y, refl, h)
part_there u w None h = absurd (true≢false (sym h))

pub counts_as : (u : Use) (w : Bool) (k : Kind) (f g : Forest) (z : Tree) → bare f ≡ bare g → part_counts k g ≡ Some z → matters u w z.kind z.below ≡ true
    → (y : Tree) × (part_counts k f ≡ Some y) × (matters u w y.kind y.below ≡ true)
counts_as u w k f g z e counts alone = part_there u w (part_counts k f) (unseen (λ t. part_matters u w (part_counts k t)) (counts_bare u w k) f g e ∙ ap (part_matters u w) counts ∙ alone)

-- ---- behind a test that acts

truth_beside_bare : (k : Kind) (n : Note) (t : Forest) → truth_beside k nowhere (bare t) ≡ truth_beside k n t
truth_beside_bare k n t = ap₂ (λ (b : Bool) (o : Option Bool). if b then o else None) (acts_bare k n t) (given_bare k n t)

way_beside_bare : (o : LogicalOperator) (k : Kind) (n : Note) (t : Forest) → way_beside o k nowhere (bare t) ≡ way_beside o k n t
way_beside_bare o k n t = ap₂ (λ (b : Bool) (w : Option Bool). if b then w else None) (acts_bare k n t) (way_bare o k n t)

branch_follows : (n m : Note) (known : Option Bool) (x y z v w u : Tree) → is_some (behind n m x (one_of known y z)) ≡ is_some (behind n m v (one_of known w u))
branch_follows n m (Some true) x y z v w u = refl
branch_follows n m (Some false) x y z v w u = refl
branch_follows n m None x y z v w u = refl

side_follows : (n m : Note) (known : Option Bool) (x y v w : Tree) → is_some (behind n m x (if_so known y)) ≡ is_some (behind n m v (if_so known w))
side_follows n m (Some true) x y v w = refl
side_follows n m (Some false) x y v w = refl
side_follows n m None x y v w = refl

follows_bare : (n m : Note) (k : Kind) (t : Forest) → is_some (behind_test n m k (bare t)) ≡ is_some (behind_test n m k t)
follows_bare n m conditional_expression (node t o a (node k i b (node l j c nothing))) =
    let x : Tree = record { kind = t; note = nowhere; below = bare a } in
    let y : Tree = record { kind = k; note = nowhere; below = bare b } in
    let z : Tree = record { kind = l; note = nowhere; below = bare c } in
    ap (λ known. is_some (behind n m x (one_of known y z))) (truth_beside_bare t o a)
    ∙ branch_follows n m (truth_beside t o a) x y z (record { kind = t; note = o; below = a }) (record { kind = k; note = i; below = b }) (record { kind = l; note = j; below = c })
follows_bare n m (logical_expression q) (node t o a (node k i b nothing)) =
    let x : Tree = record { kind = t; note = nowhere; below = bare a } in
    let y : Tree = record { kind = k; note = nowhere; below = bare b } in
    ap (λ known. is_some (behind n m x (if_so known y))) (way_beside_bare q t o a) ∙ side_follows n m (way_beside q t o a) x y (record { kind = t; note = o; below = a }) (record { kind = k; note = i; below = b })
follows_bare n m k t = refl

pub follows_as : (n m : Note) (k : Kind) (f g : Forest) (y : Tree) → bare f ≡ bare g → behind_test n m k g ≡ Some y → (z : Tree) × (behind_test n m k f ≡ Some z)
follows_as n m k f g y e h = some_tree (behind_test n m k f) (unseen (λ t. is_some (behind_test n m k t)) (follows_bare n m k) f g e ∙ ap is_some h)
