-- What the rules do is edits, and where they have an answer an edit applies.
use Rattle.std.proofs.Common.{◌≡◌, ◌∙◌, inl, inr, Some, refl, sym, ap, subst}
use Rattle.js_syntax.specs.declared.node_kind.NodeKind.{NodeKind as Kind}
use Rattle.js_syntax.specs.Node.{Forest, Tree, Note, nothing, node}
use Rattle.min_context.specs.Place.{place_at, goes_on}
use Rattle.scope_laws.specs.Place as places
use Rattle.scope_counts.specs.Edits.{Around, plug}
use Rattle.steps.specs.Allowed.EmptyIf.{EmptyIf}
use Rattle.steps.specs.Allowed.EmptyAlternate.{EmptyAlternate}
use Rattle.steps.specs.Allowed.Edits.{Becomes, Edit, becomes, known_conditional, known_side, known_if, dead_if, empty_if, empty_alternate, idle_try, unused_operation, unused_list, indirect_choice, one_sided_choice, idle_parts, two_sides, unused_object, known_operation}
use Rattle.steps.specs.Allowed.KnownConditional.{KnownConditional, a_conditional, consequent_is_taken, alternate_is_taken}
use Rattle.steps.specs.Allowed.KnownSide.{KnownSide, a_logical, right_side_counts, left_side_decides}
use Rattle.steps.specs.Allowed.UnusedOperation.{UnusedOperation}
use Rattle.steps.specs.Allowed.UnusedList.{UnusedList}
use Rattle.steps.specs.Allowed.IndirectChoice.{IndirectChoice}
use Rattle.steps.specs.Allowed.OneSidedChoice.{OneSidedChoice}
use Rattle.steps.specs.Allowed.IdleParts.{IdleParts}
use Rattle.steps.specs.Allowed.TwoSides.{TwoSides}
use Rattle.steps.specs.Allowed.UnusedObject.{UnusedObject}
use Rattle.steps.specs.Allowed.KnownOperation.{KnownOperation}
use Rattle.rules.specs.DeadCode.Before.{before}
use Rattle.rules.specs.Expressions.Uses.{spot_of}
use Rattle.rules.specs.Expressions.Known.{conditional_becomes, logical_becomes}
use Rattle.rules.proofs.Expressions.Uses.{spot_at, spot_before, plug_before}
use Rattle.rules.proofs.Expressions.Becoming.{Branch, consequent, alternate, branch, branch_is, Side, right_side, left_side, side, side_is}
use Rattle.rules.specs.Expressions.Ifs.{IfEdit}

-- ---- at a place of edits

branch_edits : (a : places.Around) (k : Kind) (n : Note) (parts : Forest) (y : Tree) → Branch (spot_at a) k parts y → KnownConditional a (record { kind = k; note = n; below = parts }) y
branch_edits a _ n _ _ (consequent m i j t k l d b c y w may is) = subst (λ z. KnownConditional a (a_conditional n t m d (node k i b (node l j c nothing))) z) is (consequent_is_taken n m i j t k l d b c w may)
branch_edits a _ n _ _ (alternate m i j t k l d b c y w may is) = subst (λ z. KnownConditional a (a_conditional n t m d (node k i b (node l j c nothing))) z) is (alternate_is_taken n m i j t k l d b c w may)

side_edits : (a : places.Around) (k : Kind) (n : Note) (parts : Forest) (y : Tree) → Side (spot_at a) k parts y → KnownSide a (record { kind = k; note = n; below = parts }) y
side_edits a _ n _ _ (right_side o m i t k d b y w may is) = subst (λ z. KnownSide a (a_logical o n t m d (node k i b nothing)) z) is (right_side_counts o n m i t k d b w may)
side_edits a _ n _ _ (left_side o m i t k d b y w may is) = subst (λ z. KnownSide a (a_logical o n t m d (node k i b nothing)) z) is (left_side_decides o n m i t k d b w may)

pub conditional_edits : (a : places.Around) (x y : Tree) → conditional_becomes (spot_at a) x.kind x.below ≡ Some y → KnownConditional a x y
conditional_edits a x y e = branch_edits a x.kind x.note x.below y (branch (spot_at a) x.kind x.below y e)

pub logical_edits : (a : places.Around) (x y : Tree) → logical_becomes (spot_at a) x.kind x.below ≡ Some y → KnownSide a x y
logical_edits a x y e = side_edits a x.kind x.note x.below y (side (spot_at a) x.kind x.below y e)

pub conditional_answers : (a : places.Around) (x y : Tree) → KnownConditional a x y → conditional_becomes (spot_at a) x.kind x.below ≡ Some y
conditional_answers a _ _ (consequent_is_taken n m i j t k l d b c w may) = branch_is {s = spot_at a} (consequent m i j t k l d b c (record { kind = k; note = i; below = b }) w may refl)
conditional_answers a _ _ (alternate_is_taken n m i j t k l d b c w may) = branch_is {s = spot_at a} (alternate m i j t k l d b c (record { kind = l; note = j; below = c }) w may refl)

pub logical_answers : (a : places.Around) (x y : Tree) → KnownSide a x y → logical_becomes (spot_at a) x.kind x.below ≡ Some y
logical_answers a _ _ (right_side_counts o n m i t k d b w may) = side_is {s = spot_at a} (right_side o m i t k d b (record { kind = k; note = i; below = b }) w may refl)
logical_answers a _ _ (left_side_decides o n m i t k d b w may) = side_is {s = spot_at a} (left_side o m i t k d b (record { kind = t; note = m; below = d }) w may refl)

-- ---- at a place of a walk

pub conditional_edits_there : (a : Around) (x y : Tree) (rest : Forest) → conditional_becomes (spot_of (place_at a (goes_on rest))) x.kind x.below ≡ Some y → KnownConditional (before a rest) x y
conditional_edits_there a x y rest e = conditional_edits (before a rest) x y (ap (λ s. conditional_becomes s x.kind x.below) (sym (spot_before a rest)) ∙ e)

pub logical_edits_there : (a : Around) (x y : Tree) (rest : Forest) → logical_becomes (spot_of (place_at a (goes_on rest))) x.kind x.below ≡ Some y → KnownSide (before a rest) x y
logical_edits_there a x y rest e = logical_edits (before a rest) x y (ap (λ s. logical_becomes s x.kind x.below) (sym (spot_before a rest)) ∙ e)

pub conditional_answers_there : (a : Around) (x y : Tree) (rest : Forest) → KnownConditional (before a rest) x y → conditional_becomes (spot_of (place_at a (goes_on rest))) x.kind x.below ≡ Some y
conditional_answers_there a x y rest e = ap (λ s. conditional_becomes s x.kind x.below) (spot_before a rest) ∙ conditional_answers (before a rest) x y e

pub logical_answers_there : (a : Around) (x y : Tree) (rest : Forest) → KnownSide (before a rest) x y → logical_becomes (spot_of (place_at a (goes_on rest))) x.kind x.below ≡ Some y
logical_answers_there a x y rest e = ap (λ s. logical_becomes s x.kind x.below) (spot_before a rest) ∙ logical_answers (before a rest) x y e

edit_there : (a : Around) (x y : Tree) (rest : Forest) → Becomes (before a rest) x y → Edit (plug a (node x.kind x.note x.below rest)) (plug a (node y.kind y.note y.below rest))
edit_there a x y rest b =
    subst (λ u. Edit (plug a (node x.kind x.note x.below rest)) u) (plug_before a y rest)
    (subst (λ t. Edit t (places.plug (before a rest) (Some y))) (plug_before a x rest) (becomes (before a rest) x y b))

pub conditional_edit : (a : Around) (x y : Tree) (rest : Forest) → conditional_becomes (spot_of (place_at a (goes_on rest))) x.kind x.below ≡ Some y → Edit (plug a (node x.kind x.note x.below rest)) (plug a (node y.kind y.note y.below rest))
conditional_edit a x y rest e = edit_there a x y rest (known_conditional (conditional_edits_there a x y rest e))

pub logical_edit : (a : Around) (x y : Tree) (rest : Forest) → logical_becomes (spot_of (place_at a (goes_on rest))) x.kind x.below ≡ Some y → Edit (plug a (node x.kind x.note x.below rest)) (plug a (node y.kind y.note y.below rest))
logical_edit a x y rest e = edit_there a x y rest (known_side (logical_edits_there a x y rest e))

pub unused_edit : (a : Around) (x y : Tree) (rest : Forest) → UnusedOperation (before a rest) x y → Edit (plug a (node x.kind x.note x.below rest)) (plug a (node y.kind y.note y.below rest))
unused_edit a x y rest o = edit_there a x y rest (unused_operation o)

pub list_edit : (a : Around) (x y : Tree) (rest : Forest) → UnusedList (before a rest) x y → Edit (plug a (node x.kind x.note x.below rest)) (plug a (node y.kind y.note y.below rest))
list_edit a x y rest o = edit_there a x y rest (unused_list o)

pub indirect_edit : (a : Around) (x y : Tree) (rest : Forest) → IndirectChoice (before a rest) x y → Edit (plug a (node x.kind x.note x.below rest)) (plug a (node y.kind y.note y.below rest))
indirect_edit a x y rest o = edit_there a x y rest (indirect_choice o)

pub one_sided_edit : (a : Around) (x y : Tree) (rest : Forest) → OneSidedChoice (before a rest) x y → Edit (plug a (node x.kind x.note x.below rest)) (plug a (node y.kind y.note y.below rest))
one_sided_edit a x y rest o = edit_there a x y rest (one_sided_choice o)

pub sequence_edit : (a : Around) (x y : Tree) (rest : Forest) → IdleParts (before a rest) x y → Edit (plug a (node x.kind x.note x.below rest)) (plug a (node y.kind y.note y.below rest))
sequence_edit a x y rest o = edit_there a x y rest (idle_parts o)

pub two_sides_edit : (a : Around) (x y : Tree) (rest : Forest) → TwoSides (before a rest) x y → Edit (plug a (node x.kind x.note x.below rest)) (plug a (node y.kind y.note y.below rest))
two_sides_edit a x y rest o = edit_there a x y rest (two_sides o)

pub object_edit : (a : Around) (x y : Tree) (rest : Forest) → UnusedObject (before a rest) x y → Edit (plug a (node x.kind x.note x.below rest)) (plug a (node y.kind y.note y.below rest))
object_edit a x y rest o = edit_there a x y rest (unused_object o)

pub if_edit : (a : Around) (x y : Tree) (rest : Forest) → IfEdit x y → Edit (plug a (node x.kind x.note x.below rest)) (plug a (node y.kind y.note y.below rest))
if_edit a x y rest (inl known) = edit_there a x y rest (known_if known)
if_edit a x y rest (inr (inl dead)) = edit_there a x y rest (dead_if dead)
if_edit a x y rest (inr (inr idle)) = edit_there a x y rest (idle_try idle)

pub empty_if_edit : (a : Around) (x y : Tree) (rest : Forest) → EmptyIf x y → Edit (plug a (node x.kind x.note x.below rest)) (plug a (node y.kind y.note y.below rest))
empty_if_edit a x y rest o = edit_there a x y rest (empty_if o)

pub empty_alternate_edit : (a : Around) (x y : Tree) (rest : Forest) → EmptyAlternate (before a rest) x y → Edit (plug a (node x.kind x.note x.below rest)) (plug a (node y.kind y.note y.below rest))
empty_alternate_edit a x y rest o = edit_there a x y rest (empty_alternate o)

pub known_edit : (a : Around) (x y : Tree) (rest : Forest) → KnownOperation (before a rest) x y → Edit (plug a (node x.kind x.note x.below rest)) (plug a (node y.kind y.note y.below rest))
known_edit a x y rest o = edit_there a x y rest (known_operation o)
