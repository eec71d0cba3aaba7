-- Where the rules have no answer no edit of theirs applies.
use Rattle.std.proofs.Common.{◌≡◌, ◌∙◌, inl, inr, Some, refl, sym, ap, subst}
use Rattle.js_syntax.specs.Node.{Forest, Tree}
use Rattle.min_context.specs.Place.{place_at, goes_on}
use Rattle.scope_laws.specs.Place as places
use Rattle.scope_laws.specs.Place.{first, behind, behind_none, under}
use Rattle.steps.specs.Allowed.KnownConditional.{KnownConditional}
use Rattle.steps.specs.Allowed.KnownSide.{KnownSide}
use Rattle.steps.specs.Allowed.UnusedOperation.{UnusedOperation}
use Rattle.steps.specs.Allowed.UnusedList.{UnusedList}
use Rattle.steps.specs.Allowed.IndirectChoice.{IndirectChoice}
use Rattle.steps.specs.Allowed.OneSidedChoice.{OneSidedChoice}
use Rattle.steps.specs.Allowed.IdleParts.{IdleParts}
use Rattle.steps.specs.Allowed.TwoSides.{TwoSides}
use Rattle.steps.specs.Allowed.UnusedObject.{UnusedObject}
use Rattle.steps.specs.Allowed.KnownOperation.{KnownOperation}
use Rattle.steps.specs.Allowed.KnownIf.{KnownIf}
use Rattle.steps.specs.Allowed.DeadIf.{DeadIf}
use Rattle.steps.specs.Allowed.EmptyIf.{EmptyIf}
use Rattle.steps.specs.Allowed.EmptyAlternate.{EmptyAlternate}
use Rattle.steps.specs.Allowed.KeptNames.{KeptNames}
use Rattle.steps.proofs.Owed.Places.{place_of, rest_of, placed_is}
use Rattle.rules.specs.DeadCode.Before.{before}
use Rattle.rules.specs.Expressions.Uses.{spot_of}
use Rattle.rules.specs.Expressions.Known.{conditional_becomes, logical_becomes}
use Rattle.rules.specs.Expressions.Unused.{unused_becomes}
use Rattle.rules.specs.Expressions.Lists.{unused_list_becomes}
use Rattle.rules.specs.Expressions.Indirect.{indirect_becomes}
use Rattle.rules.specs.Expressions.OneSided.{one_sided_becomes}
use Rattle.rules.specs.Expressions.Sequences.{sequence_left}
use Rattle.rules.specs.Expressions.TwoSides.{two_sides_become}
use Rattle.rules.specs.Expressions.Objects.{object_left}
use Rattle.rules.specs.Expressions.Operations.{known_becomes}
use Rattle.rules.specs.Expressions.EmptyIfs.{test_left}
use Rattle.rules.specs.Expressions.EmptyAlternates.{is_last, alternate_left}
use Rattle.rules.specs.Expressions.Ifs.{if_becomes}
use Rattle.rules.specs.Expressions.Settled.{IsSettledAt, IsSettled}
use Rattle.rules.proofs.Expressions.Uses.{spot_at, spot_before, plug_before}
use Rattle.rules.proofs.Expressions.Becoming.{no_answer, none_of}
use Rattle.rules.proofs.Expressions.Unused.{first_of, unused_edits_there, unused_answers}
use Rattle.rules.proofs.Expressions.Lists.{list_edits_there, list_answers}
use Rattle.rules.proofs.Expressions.Indirect.{indirect_edits_there, indirect_answers}
use Rattle.rules.proofs.Expressions.OneSided.{one_sided_edits_there, one_sided_answers}
use Rattle.rules.proofs.Expressions.Sequences.{sequence_edits_there, sequence_answers}
use Rattle.rules.proofs.Expressions.TwoSides.{two_sides_edits_there, two_sides_answers}
use Rattle.rules.proofs.Expressions.Objects.{object_edits_there, object_answers}
use Rattle.rules.proofs.Expressions.Operations.{known_edits, known_answers}
use Rattle.steps.specs.Allowed.Unreached.{Unreached}
use Rattle.steps.specs.Allowed.IdleStatement.{IdleStatement}
use Rattle.steps.specs.Allowed.IdleTry.{IdleTry}
use Rattle.steps.specs.Allowed.UnrunValue.{UnrunValue}
use Rattle.steps.specs.Allowed.Untaken.{Untaken}
use Rattle.rules.proofs.Expressions.Jumps.{settled_lists, settled_items, settled_without}
use Rattle.rules.proofs.Expressions.Untaken as untaken
use Rattle.rules.proofs.Expressions.Untaken.{settled_ifs, settled_values}
use Rattle.rules.proofs.Expressions.NoNames.{settled_names, settled_without_names}
use Rattle.rules.proofs.Expressions.EmptyIfs.{empty_if_edits, empty_if_answers}
use Rattle.rules.proofs.Expressions.EmptyAlternates.{empty_alternate_edits, empty_alternate_answers}
use Rattle.rules.proofs.Expressions.Ifs.{if_edits, known_if_answers, dead_if_answers, idle_try_answers}
use Rattle.rules.proofs.Expressions.Editing.{conditional_edits_there, logical_edits_there, conditional_answers, logical_answers}

before_place : (a : places.Around) → before (place_of a) (rest_of a) ≡ a
before_place (first rest) = refl
before_place (behind k n b a) = ap (λ c. behind k n b c) (before_place a)
before_place (behind_none a) = ap (λ c. behind_none c) (before_place a)
before_place (under k n a rest) = ap (λ c. under k n c rest) (before_place a)

spot_there : (a : places.Around) → spot_of (place_at (place_of a) (goes_on (rest_of a))) ≡ spot_at a
spot_there a = spot_before (place_of a) (rest_of a) ∙ ap spot_at (before_place a)

module _ (t : Forest) (settled : IsSettled t) (a : places.Around) (x y : Tree) (is : t ≡ places.plug a (Some x)) where
  settled_there : IsSettledAt (place_at (place_of a) (goes_on (rest_of a))) x
  settled_there = settled.each (place_of a) x (rest_of a) (is ∙ placed_is a x)

  pub no_conditional : KnownConditional a x y → ⊥
  no_conditional k = no_answer (sym settled_there.conditional ∙ ap (λ s. conditional_becomes s x.kind x.below) (spot_there a) ∙ conditional_answers a x y k)

  pub no_side : KnownSide a x y → ⊥
  no_side k = no_answer (sym settled_there.logical ∙ ap (λ s. logical_becomes s x.kind x.below) (spot_there a) ∙ logical_answers a x y k)

  pub no_unused : UnusedOperation a x y → ⊥
  no_unused o = let w = unused_answers a x y o in no_answer (sym settled_there.unused ∙ ap (λ s. unused_becomes s x.kind x.below) (spot_there a) ∙ w.1)

  pub no_list : UnusedList a x y → ⊥
  no_list o = let w = list_answers a x y o in no_answer (sym settled_there.list ∙ ap (λ s. unused_list_becomes s x.note x.kind x.below) (spot_there a) ∙ w.1)

  pub no_indirect : IndirectChoice a x y → ⊥
  no_indirect o = let w = indirect_answers a x y o in no_answer (sym settled_there.indirect ∙ ap (λ s. indirect_becomes s x.note x.kind x.below) (spot_there a) ∙ w.1)

  pub no_one_sided : OneSidedChoice a x y → ⊥
  no_one_sided o = let w = one_sided_answers a x y o in no_answer (sym settled_there.one_sided ∙ ap (λ s. one_sided_becomes s x.note x.kind x.below) (spot_there a) ∙ w.1)

  pub no_sequence : IdleParts a x y → ⊥
  no_sequence o = let w = sequence_answers a x y o in no_answer (sym settled_there.sequence ∙ ap (λ s. sequence_left s x.note x.kind x.below) (spot_there a) ∙ w.1)

  pub no_two_sides : TwoSides a x y → ⊥
  no_two_sides o = let w = two_sides_answers a x y o in no_answer (sym settled_there.two_sides ∙ ap (λ s. two_sides_become s x.note x.kind x.below) (spot_there a) ∙ w.1)

  pub no_object : UnusedObject a x y → ⊥
  no_object o = let w = object_answers a x y o in no_answer (sym settled_there.object ∙ ap (λ s. object_left s x.note x.kind x.below) (spot_there a) ∙ w.1)

  pub no_known : KnownOperation a x y → ⊥
  no_known o = let w = known_answers a x y o in no_answer (sym settled_there.known ∙ w.1)

  pub no_known_if : KnownIf x y → ⊥
  no_known_if o = no_answer (sym settled_there.statement ∙ known_if_answers x y o)

  pub no_dead_if : DeadIf x y → ⊥
  no_dead_if o = let w = dead_if_answers x y o in no_answer (sym settled_there.statement ∙ w.1)

  pub no_empty_if : EmptyIf x y → ⊥
  no_empty_if o = let w = empty_if_answers x y o in no_answer (sym settled_there.test ∙ w.1)

  pub no_empty_alternate : EmptyAlternate a x y → ⊥
  no_empty_alternate o = no_answer (sym settled_there.alternate ∙ empty_alternate_answers (place_of a) (rest_of a) x y (subst (λ c. EmptyAlternate c x y) (sym (before_place a)) o))

  pub no_try : IdleTry x y → ⊥
  no_try o = no_answer (sym settled_there.statement ∙ idle_try_answers x y o)

pub no_unreached : (t : Forest) → IsSettled t → (a : places.Around) (x : Tree) → t ≡ places.plug a (Some x) → Unreached a x → ⊥
no_unreached t settled = settled_lists t (λ a x rest is. (settled.each a x rest is).jumps)

pub no_value : (t : Forest) → IsSettled t → (a : places.Around) (x y : Tree) → t ≡ places.plug a (Some x) → UnrunValue a x y → ⊥
no_value t settled = settled_values t (λ a x rest is. (settled.each a x rest is).untaken)

pub no_idle : (t : Forest) → IsSettled t → (a : places.Around) (x : Tree) → t ≡ places.plug a (Some x) → IdleStatement a x → ⊥
no_idle t settled = settled_items t (λ a x rest is. (settled.each a x rest is).jumps)

pub no_untaken : (t : Forest) → IsSettled t → (a : places.Around) (x : Tree) → t ≡ places.plug a (Some x) → Untaken a x → ⊥
no_untaken t settled = settled_ifs t (λ a x rest is. (settled.each a x rest is).untaken)

pub no_names : (t : Forest) → IsSettled t → (a : places.Around) (x y : Tree) → t ≡ places.plug a (Some x) → KeptNames a x y → ⊥
no_names t settled = settled_names t (λ a x rest is. (settled.each a x rest is).names)

pub is_settled :
    (t : Forest)
    → ((a : places.Around) (x y : Tree) → t ≡ places.plug a (Some x) → KnownConditional a x y → ⊥)
    → ((a : places.Around) (x y : Tree) → t ≡ places.plug a (Some x) → KnownSide a x y → ⊥)
    → ((a : places.Around) (x y : Tree) → t ≡ places.plug a (Some x) → UnusedOperation a x y → ⊥)
    → ((a : places.Around) (x y : Tree) → t ≡ places.plug a (Some x) → UnusedList a x y → ⊥)
    → ((a : places.Around) (x y : Tree) → t ≡ places.plug a (Some x) → IndirectChoice a x y → ⊥)
    → ((a : places.Around) (x y : Tree) → t ≡ places.plug a (Some x) → OneSidedChoice a x y → ⊥)
    → ((a : places.Around) (x y : Tree) → t ≡ places.plug a (Some x) → IdleParts a x y → ⊥)
    → ((a : places.Around) (x y : Tree) → t ≡ places.plug a (Some x) → TwoSides a x y → ⊥)
    → ((a : places.Around) (x y : Tree) → t ≡ places.plug a (Some x) → UnusedObject a x y → ⊥)
    → ((a : places.Around) (x y : Tree) → t ≡ places.plug a (Some x) → KnownOperation a x y → ⊥)
    → ((a : places.Around) (x y : Tree) → t ≡ places.plug a (Some x) → KnownIf x y → ⊥)
    → ((a : places.Around) (x y : Tree) → t ≡ places.plug a (Some x) → DeadIf x y → ⊥)
    → ((a : places.Around) (x : Tree) → t ≡ places.plug a (Some x) → Unreached a x → ⊥)
    → ((a : places.Around) (x : Tree) → t ≡ places.plug a (Some x) → Untaken a x → ⊥)
    → ((a : places.Around) (x : Tree) → t ≡ places.plug a (Some x) → IdleStatement a x → ⊥)
    → ((a : places.Around) (x y : Tree) → t ≡ places.plug a (Some x) → UnrunValue a x y → ⊥)
    → ((a : places.Around) (x y : Tree) → t ≡ places.plug a (Some x) → IdleTry x y → ⊥)
    → ((a : places.Around) (x y : Tree) → t ≡ places.plug a (Some x) → EmptyIf x y → ⊥)
    → ((a : places.Around) (x y : Tree) → t ≡ places.plug a (Some x) → EmptyAlternate a x y → ⊥)
    → ((a : places.Around) (x y : Tree) → t ≡ places.plug a (Some x) → KeptNames a x y → ⊥)
    → IsSettled t
is_settled t never_branch never_side never_unused never_list never_indirect never_one_sided never_sequence never_two_sides never_object never_known never_known_if never_dead_if never_unreached never_untaken never_idle never_value never_try never_empty_if never_empty_alternate never_names = record {
  each = λ a x rest is. record {
    conditional = none_of (conditional_becomes (spot_of (place_at a (goes_on rest))) x.kind x.below) (λ y e. never_branch (before a rest) x y (is ∙ sym (plug_before a x rest)) (conditional_edits_there a x y rest e));
    logical = none_of (logical_becomes (spot_of (place_at a (goes_on rest))) x.kind x.below) (λ y e. never_side (before a rest) x y (is ∙ sym (plug_before a x rest)) (logical_edits_there a x y rest e));
    unused = none_of (unused_becomes (spot_of (place_at a (goes_on rest))) x.kind x.below) (λ y e. let o = first_of (unused_edits_there a x y rest e) in never_unused (before a rest) x o.0 (is ∙ sym (plug_before a x rest)) o.1);
    list = none_of (unused_list_becomes (spot_of (place_at a (goes_on rest))) x.note x.kind x.below) (λ y e. never_list (before a rest) x y (is ∙ sym (plug_before a x rest)) (list_edits_there a x y rest e));
    indirect = none_of (indirect_becomes (spot_of (place_at a (goes_on rest))) x.note x.kind x.below) (λ y e. never_indirect (before a rest) x y (is ∙ sym (plug_before a x rest)) (indirect_edits_there a x y rest e));
    one_sided = none_of (one_sided_becomes (spot_of (place_at a (goes_on rest))) x.note x.kind x.below) (λ y e. never_one_sided (before a rest) x y (is ∙ sym (plug_before a x rest)) (one_sided_edits_there a x y rest e));
    sequence = none_of (sequence_left (spot_of (place_at a (goes_on rest))) x.note x.kind x.below) (λ y e. never_sequence (before a rest) x y (is ∙ sym (plug_before a x rest)) (sequence_edits_there a x y rest e));
    two_sides = none_of (two_sides_become (spot_of (place_at a (goes_on rest))) x.note x.kind x.below) (λ y e. never_two_sides (before a rest) x y (is ∙ sym (plug_before a x rest)) (two_sides_edits_there a x y rest e));
    object = none_of (object_left (spot_of (place_at a (goes_on rest))) x.note x.kind x.below) (λ y e. never_object (before a rest) x y (is ∙ sym (plug_before a x rest)) (object_edits_there a x y rest e));
    known = none_of (known_becomes x.note x.kind x.below) (λ y e. never_known (before a rest) x y (is ∙ sym (plug_before a x rest)) (known_edits (before a rest) x y e));
    statement = none_of (if_becomes x.note x.kind x.below) (λ y e. elim (if_edits x y e) [
      | inl known ↦ never_known_if (before a rest) x y (is ∙ sym (plug_before a x rest)) known
      | inr other ↦ elim other [
        | inl dead ↦ never_dead_if (before a rest) x y (is ∙ sym (plug_before a x rest)) dead
        | inr idle ↦ never_try (before a rest) x y (is ∙ sym (plug_before a x rest)) idle
      ]
    ]);
    test = none_of (test_left x.note x.kind x.below) (λ y e. never_empty_if (before a rest) x y (is ∙ sym (plug_before a x rest)) (empty_if_edits x y e));
    alternate = none_of (alternate_left (is_last (place_at a (goes_on rest))) x.note x.kind x.below) (λ y e. never_empty_alternate (before a rest) x y (is ∙ sym (plug_before a x rest)) (empty_alternate_edits a rest x y e));
    jumps = settled_without t never_unreached never_idle a x rest is;
    untaken = untaken.settled_without t never_untaken never_value a x rest is;
    names = settled_without_names t never_names a x rest is;
  };
}
