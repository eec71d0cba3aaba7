-- In a tree that fits the table of node types a run wants of a choice what it is used for.
use Rattle.std.proofs.Common.{◌≡◌, ◌⊎◌, inl, inr, ℕ, suc, Bool, true, false, ◌∷◌, [], Some, refl, sym, ap, ◌∙◌, subst, true≢false}
use Rattle.js_syntax.specs.Class.{root, callee, argument}
use Rattle.js_syntax.specs.declared.node_kind.NodeKind.{NodeKind as Kind}
use Rattle.js_syntax.specs.declared.operator.UnaryOperator.{UnaryOperator}
use Rattle.js_syntax.specs.declared.operator.UnaryOperator.TheVariants as unary
use Rattle.js_syntax.specs.Facts.{is_core}
use Rattle.js_syntax.specs.Node.{Forest, Tree, Note, node}
use Rattle.js_meaning.specs.Node.{Wanted, itself, to_call}
use Rattle.js_meaning.specs.Expression.{wanted_by}
use Rattle.js_meaning_near.specs.Near.{is_row}
use Rattle.js_meaning_near.specs.Purpose.{Purpose, for_value, for_effect, asked, Purposes, all, first_then, last_for, purpose_here, purposes_behind, for_values, handed_on, wanted_below}
use Rattle.json_shape.specs.Shape.{one, list, Plan, these, first_place, Stand, Fits}
use Rattle.json_shape.specs.Shape as shape
use Rattle.scope_laws.specs.Place.{Around, first, behind, behind_none, under, plug}
use Rattle.steps.specs.Steps.{all_core}
use Rattle.steps.proofs.Fit.Held.{core_here, core_below, core_behind}
use Rattle.steps.proofs.Fit.Holding.{is_sound, planned_below}
use Rattle.steps.proofs.Fit.Passing.{plan_passes, first_passes, behind_passes}
use Rattle.steps.specs.Allowed.Uses.{Use, as_value, operand_of, use_below, use_there, use_at}
use Rattle.steps.specs.Allowed.Wanted.{wanted_in, wanted_at}
use Rattle.steps.proofs.Owed.Bare.{wanted_for}
use Rattle.steps.proofs.Owed.ChoiceParts.{call_stands}
use Rattle.steps.proofs.Owed.Made.{made_at}

-- ---- what the expressions of a row are asked for: all of them for the same

abbrev AsksAll : Purposes → Wanted → Type 0
AsksAll (all u) w = asked u ≡ w
AsksAll (first_then u us) w = (asked u ≡ w) × AsksAll us w
AsksAll (last_for u) w = (asked u ≡ w) × (itself ≡ w)

asks_here : (us : Purposes) (w : Wanted) (more : Bool) → AsksAll us w → asked (purpose_here us more) ≡ w
asks_here (all u) w more h = h
asks_here (first_then u us) w more h = h.0
asks_here (last_for u) w true h = h.1
asks_here (last_for u) w false h = h.0

asks_behind : (us : Purposes) (w : Wanted) → AsksAll us w → AsksAll (purposes_behind us) w
asks_behind (all u) w h = h
asks_behind (first_then u us) w h = h.1
asks_behind (last_for u) w h = h

-- below a node of which this is asked
abbrev wants : Wanted → Kind → Wanted
wants w Kind.ParenthesizedExpression = w
wants w (Kind.CallExpression optional pure) = to_call
wants w Kind.TaggedTemplateExpression = to_call
wants w (Kind.UnaryExpression o) = wanted_by o
wants w k = itself

handed : (u : Purpose) → asked (handed_on u) ≡ itself
handed (for_value w) = refl
handed for_effect = refl

asks_below : (u : Purpose) (k : Kind) → AsksAll (wanted_below u k) (wants (asked u) k)
asks_below u Kind.ExpressionStatement = refl
asks_below u Kind.ForStatement = (refl, (refl, refl))
asks_below u Kind.ParenthesizedExpression = refl
asks_below u Kind.SequenceExpression = handed u
asks_below u Kind.Expressions = (handed u, refl)
asks_below u Kind.ConditionalExpression = (refl, handed u)
asks_below u (Kind.LogicalExpression o) = (refl, handed u)
asks_below u (Kind.CallExpression optional pure) = refl
asks_below u Kind.TaggedTemplateExpression = refl
asks_below u (Kind.UnaryExpression o) = refl
asks_below u k = refl

-- What is wanted of a row, and what its nodes are used for: the same of all, or the row is of a call, of which the arguments' list is
-- no expression, or what is left of one.
abbrev pub Agrees : (uses : ℕ → Use) → (at : ℕ) → Wanted → Plan → Type 0
Agrees us at w plan =
    ((i : ℕ) → w ≡ wanted_for (us i))
    ⊎ (((w ≡ wanted_for (us at)) × (plan ≡ these (one callee ∷ list Kind.Arguments argument ∷ [])))
    ⊎ ((plan ≡ these (list Kind.Arguments argument ∷ [])) ⊎ (plan ≡ these [])))

pub operand_wanted : (o : UnaryOperator) → wanted_by o ≡ wanted_for (operand_of o)
operand_wanted unary.Typeof = refl
operand_wanted unary.Delete = refl
operand_wanted o = refl

abbrev is_call : Kind → Bool
is_call (Kind.CallExpression optional pure) = true
is_call k = false

abbrev is_parenthesized : Kind → Bool
is_parenthesized Kind.ParenthesizedExpression = true
is_parenthesized k = false

-- below a node that is no call
below_agrees : (u : Use) (w : Wanted) (k : Kind) → is_call k ≡ false → is_core k ≡ true → (is_parenthesized k ≡ true → w ≡ wanted_for u) → (i : ℕ) → wants w k ≡ wanted_for (use_below u k i)
below_agrees u w Kind.ParenthesizedExpression none core f i = f refl
below_agrees u w (Kind.CallExpression optional pure) none core f i = absurd (true≢false none)
below_agrees u w Kind.TaggedTemplateExpression none core f i = absurd (true≢false (sym core))
below_agrees u w (Kind.UnaryExpression o) none core f i = operand_wanted o
below_agrees u w k none core f i = refl

-- a node that stands where the list of arguments does is that
is_arguments : (k : Kind) (n : Note) (b r : Forest) (plan : Plan) → plan ≡ these (list Kind.Arguments argument ∷ []) → Stand plan (node k n b r) → k ≡ Kind.Arguments
is_arguments k n b r plan e st = (subst (λ p. Stand p (node k n b r)) e st).0.0

none_stands : (k : Kind) (n : Note) (b r : Forest) (plan : Plan) → plan ≡ these [] → Stand plan (node k n b r) → ⊥
none_stands k n b r plan e st = (subst (λ p. Stand p (node k n b r)) e st).0

here_agrees : (us : ℕ → Use) (at : ℕ) (w : Wanted) (plan : Plan) (k : Kind) (n : Note) (b r : Forest) → (k ≡ Kind.Arguments → ⊥) → Agrees us at w plan → Stand plan (node k n b r) → w ≡ wanted_for (us at)
here_agrees us at w plan k n b r other (inl same) st = same at
here_agrees us at w plan k n b r other (inr (inl (same, e))) st = same
here_agrees us at w plan k n b r other (inr (inr (inl e))) st = absurd (other (is_arguments k n b r plan e st))
here_agrees us at w plan k n b r other (inr (inr (inr e))) st = absurd (none_stands k n b r plan e st)

next_agrees : (us : ℕ → Use) (at : ℕ) (w : Wanted) (plan : Plan) (k : Kind) → Agrees us at w plan → Agrees us (suc at) w (shape.behind plan k)
next_agrees us at w plan k (inl same) = inl same
next_agrees us at w plan k (inr (inl (same, e))) = inr (inr (inl (ap (λ p. shape.behind p k) e)))
next_agrees us at w plan k (inr (inr (inl e))) = inr (inr (inr (ap (λ p. shape.behind p k) e)))
next_agrees us at w plan k (inr (inr (inr e))) = inr (inr (inr (ap (λ p. shape.behind p k) e)))

no_arguments : (k : Kind) → is_parenthesized k ≡ true → k ≡ Kind.Arguments → ⊥
no_arguments k p e = true≢false (sym p ∙ ap is_parenthesized e)

module _ (x : Tree) (other : x.kind ≡ Kind.Arguments → ⊥) where
  wanted_there : (a : Around) (us : ℕ → Use) (at : ℕ) (w : Wanted) (ps : Purposes) → AsksAll ps w → (plan : Plan) → plan_passes is_sound plan ≡ true → Agrees us at w plan → all_core (plug a (Some x)) ≡ true
      → Stand plan (plug a (Some x)) → asked (wanted_in ps a) ≡ wanted_for (use_there us at a)
  wanted_there (first rest) us at w ps e plan h g core st = asks_here ps w (is_row rest) e ∙ here_agrees us at w plan x.kind x.note x.below rest other g st
  wanted_there (behind k n b a) us at w ps e plan h g core st =
      wanted_there a us (suc at) w (purposes_behind ps) (asks_behind ps w e) (shape.behind plan k) (behind_passes is_sound plan k h) (next_agrees us at w plan k g) (core_behind k n b (plug a (Some x)) core) st.1
  wanted_there (behind_none a) us at w ps e plan h g core st =
      wanted_there a us (suc at) w (purposes_behind ps) (asks_behind ps w e) (shape.behind plan Kind.Hole) (behind_passes is_sound plan Kind.Hole h) (next_agrees us at w plan Kind.Hole g) core st.1
  wanted_there (under (Kind.CallExpression optional pure) n a rest) us at w ps e plan h g core st =
      let k = Kind.CallExpression optional pure in
      let t = plug a (Some x) in
      wanted_there a (λ i. use_below (us at) k i) 0 to_call (all (for_value to_call)) refl (these (one callee ∷ list Kind.Arguments argument ∷ [])) refl (inr (inl (refl, refl))) (core_below k n t rest core)
      (call_stands optional pure t (made_at t k refl (first_place plan) (first_passes is_sound plan refl h) st.0))
  wanted_there (under k n a rest) us at w ps e plan h g core st =
      let t = plug a (Some x) in
      let u = purpose_here ps (is_row rest) in
      let planned = planned_below t (first_place plan) k st.0 in
      wanted_there a (λ i. use_below (us at) k i) 0 (wants w k) (wanted_below u k) (subst (λ v. AsksAll (wanted_below u k) (wants v k)) (asks_here ps w (is_row rest) e) (asks_below u k)) planned.0 planned.1
      (inl (below_agrees (us at) w k refl (core_here k n t rest core) (λ p. here_agrees us at w plan k n t rest (no_arguments k p) g st))) (core_below k n t rest core) planned.2

-- in a program
pub wanted_as_used : (a : Around) (x : Tree) → (x.kind ≡ Kind.Arguments → ⊥) → all_core (plug a (Some x)) ≡ true → Fits root (plug a (Some x)) → asked (wanted_at a) ≡ wanted_for (use_at a)
wanted_as_used a x other core fits = wanted_there x other a (λ i. as_value) 0 itself for_values refl (these (one root ∷ [])) refl (inl (λ i. refl)) core fits
