-- What becomes of operations on two sides of which nobody takes the value: both act, or one that does nothing but give a text stands beside
-- what does. And of templates that have texts.
use Rattle.std.proofs.Common.{◌≡◌, ◌∙◌, ℕ, Bool, true, false, ◌&&◌, Option, Some, None, if◌then◌else◌, refl, sym, ap, subst, arith}
use Rattle.js_syntax.specs.declared.node_kind.NodeKind.{NodeKind as Kind}
use Rattle.js_syntax.specs.declared.node_kind.NodeKind.TheVariants.{BinaryExpression as binary_expression, TemplateLiteral as template_literal, Quasis as quasis, Expressions as expressions, TemplateElement as template_element}
use Rattle.js_syntax.specs.declared.operator.BinaryOperator.TheVariants.{Addition as addition}
use Rattle.js_syntax.specs.Node.{Forest, Tree, Note, nothing, node, absent, bare, forest_of}
use Rattle.scope_counts.specs.Counts.{ids}
use Rattle.min_context.specs.Edited.{evals}
use Rattle.min_context.specs.Place.{place_at, goes_on}
use Rattle.scope_laws.specs.Place as places
use Rattle.scope_counts.specs.Edits.{Around}
use Rattle.js_syntax.proofs.Truth.{first_of_both}
use Rattle.js_effects.specs.Silence.{only_combines}
use Rattle.steps.specs.Allowed.TwoSides.{empty_text, gives_text, has_texts, is_whole, without_texts, text_emptied, two_sides, TwoSides, both_sides_act}
use Rattle.steps.specs.Allowed.UnusedOperation.{acts}
use Rattle.steps.proofs.Owed.SilentTexts.{its_text}
use Rattle.steps.proofs.Owed.TwoSides.{Sides, both_act, first_text, second_text, no_texts, elements_lighter, are_sides}
use Rattle.rules.specs.DeadCode.Before.{before}
use Rattle.rules.specs.Expressions.Uses.{Spot, spot_of}
use Rattle.rules.specs.Expressions.Lists.{new_note}
use Rattle.rules.specs.Expressions.TwoSides.{two_sides_become}
use Rattle.rules.proofs.Expressions.Uses.{spot_at, spot_before}
use Rattle.rules.proofs.Expressions.Becoming.{no_answer, same_answer, IsLess}
use Rattle.rules.proofs.Expressions.Lists.{HasAnswer, answer, made, several_as, when_as, IsTaken, taken, several_little}

-- ---- whether an operation becomes anything doesn't depend on notes

-- of two answers by a decision
either_as : (b : Bool) (o p q r : Option Tree) (y : Tree) → (o ≡ Some y → HasAnswer p y) → (q ≡ Some y → HasAnswer r y) → (if b then o else q) ≡ Some y → HasAnswer (if b then p else r) y
either_as true o p q r y h g e = h e
either_as false o p q r y h g e = g e

abbrev sum : Note → Forest → Tree
sum n sides = record { kind = binary_expression addition; note = n; below = sides }

sum_as : (n i : Note) (sides : Forest) (y : Tree) → Some (sum n sides) ≡ Some y → HasAnswer (Some (sum i sides)) y
sum_as n i sides y e = subst (λ z. HasAnswer (Some (sum i sides)) z) (same_answer e) (answer (sum i sides) (sum n sides) refl)

abbrev template : Note → Forest → Tree
template n parts = record { kind = template_literal; note = n; below = parts }

template_as : (n i : Note) (parts : Forest) (y : Tree) → Some (template n parts) ≡ Some y → HasAnswer (Some (template i parts)) y
template_as n i parts y e = subst (λ z. HasAnswer (Some (template i parts)) z) (same_answer e) (answer (template i parts) (template n parts) refl)

text_as : (n i : Note) (k : Kind) (parts : Forest) (y : Tree) → text_emptied n k parts ≡ Some y → HasAnswer (text_emptied i k parts) y
text_as n i (binary_expression addition) (node k g a (node l h b nothing)) y e =
    let first : Forest = node empty_text g nothing (node l h b nothing) in
    let second : Forest = node k g a (node empty_text h nothing nothing) in
    either_as (gives_text k g a && acts l h b) (Some (sum n first)) (Some (sum i first)) (if gives_text l h b && acts k g a then Some (sum n second) else None) (if gives_text l h b && acts k g a then Some (sum i second) else None) y (sum_as n i first y)
    (when_as (gives_text l h b && acts k g a) (Some (sum n second)) (Some (sum i second)) y (sum_as n i second y)) e
text_as n i template_literal (node quasis h texts (node expressions j parts nothing)) y e =
    let left : Forest = node quasis h (without_texts texts) (node expressions j parts nothing) in
    when_as (has_texts texts && is_whole texts parts) (Some (template n left)) (Some (template i left)) y (template_as n i left y) e
text_as n i k parts y e = no_answer e

two_sides_as : (n m i j : Note) (k : Kind) (parts : Forest) (y : Tree) → two_sides n m k parts ≡ Some y → HasAnswer (two_sides i j k parts) y
two_sides_as n m i j (binary_expression o) (node k g a (node l h b nothing)) y e =
    let both : Forest = node k g a (node l h b nothing) in
    either_as (only_combines (binary_expression o) both && (acts k g a && acts l h b)) (Some (made n m both)) (Some (made i j both)) (text_emptied n (binary_expression o) both) (text_emptied i (binary_expression o) both) y (several_as n m i j both y) (text_as n i (binary_expression o) both y) e
two_sides_as n m i j template_literal parts y e = text_as n i template_literal parts y e
two_sides_as n m i j k parts y e = no_answer e

-- ---- the answer is an edit, and where an edit applies there is an answer

two_sides_at : (s : Spot) (n : Note) (k : Kind) (parts : Forest) (y : Tree) → two_sides_become s n k parts ≡ Some y → IsTaken s.is_unused (two_sides (new_note n) (new_note n) k parts) y
two_sides_at s n k parts y e = taken s.is_unused (two_sides (new_note n) (new_note n) k parts) y e

pub two_sides_edits : (a : places.Around) (x y : Tree) → two_sides_become (spot_at a) x.note x.kind x.below ≡ Some y → TwoSides a x y
two_sides_edits a x y e = let h = two_sides_at (spot_at a) x.note x.kind x.below y e in both_sides_act (new_note x.note) (new_note x.note) x y h.holds h.answers

pub two_sides_answers : (a : places.Around) (x z : Tree) → TwoSides a x z → (y : Tree) × (two_sides_become (spot_at a) x.note x.kind x.below ≡ Some y) × (bare (forest_of y) ≡ bare (forest_of z))
two_sides_answers a _ _ (both_sides_act n m x z unused e) =
    let h = two_sides_as n m (new_note x.note) (new_note x.note) x.kind x.below z e in
    (h.left, ap (λ b. if b then two_sides (new_note x.note) (new_note x.note) x.kind x.below else None) unused ∙ h.answers, h.same)

-- at a place of a walk
pub two_sides_edits_there : (a : Around) (x y : Tree) (rest : Forest) → two_sides_become (spot_of (place_at a (goes_on rest))) x.note x.kind x.below ≡ Some y → TwoSides (before a rest) x y
two_sides_edits_there a x y rest e = two_sides_edits (before a rest) x y (ap (λ s. two_sides_become s x.note x.kind x.below) (sym (spot_before a rest)) ∙ e)

pub two_sides_answers_there : (a : Around) (x z : Tree) (rest : Forest) → TwoSides (before a rest) x z → (y : Tree) × (two_sides_become (spot_of (place_at a (goes_on rest))) x.note x.kind x.below ≡ Some y) × (bare (forest_of y) ≡ bare (forest_of z))
two_sides_answers_there a x z rest o = let w = two_sides_answers (before a rest) x z o in (w.0, ap (λ s. two_sides_become s x.note x.kind x.below) (spot_before a rest) ∙ w.1, w.2)

-- ---- the operation weighs more than a sequence, and a text more than the empty one

-- the texts of a template hold no reference, and call nothing
pub elements_ids : (r : ℕ) (t : Forest) → ids r (without_texts t) ≡ ids r t
elements_ids r nothing = refl
elements_ids r (absent t) = elements_ids r t
elements_ids r (node (template_element text tail) n a t) = Prim.omega (arith, elements_ids r t)
elements_ids r (node k n a t) = Prim.omega (arith, elements_ids r t)

pub elements_evals : (t : Forest) → evals (without_texts t) ≡ evals t
elements_evals nothing = refl
elements_evals (absent t) = elements_evals t
elements_evals (node (template_element text tail) n a t) = Prim.omega (arith, elements_evals t)
elements_evals (node k n a t) = Prim.omega (arith, elements_evals t)

sides_less : {i j : Note} {k : Kind} {parts : Forest} {y : Tree} (n : Note) → Sides i j k parts y → IsLess (record { kind = k; note = n; below = parts }) y
sides_less {i = i} {j = j} n (both_act o k l g h a b combines) =
    let both : Forest = node k g a (node l h b nothing) in
    let little = several_little i j both (made i j both) refl in
    record { thins = λ r. Prim.omega (arith, little.fewer r); lighter = Prim.omega (arith, little.lighter) }
sides_less n (first_text k l g h a b is) = record { thins = λ r. Prim.omega arith; lighter = Prim.omega (arith, (its_text k g a is).weighs) }
sides_less n (second_text k l g h a b is) = record { thins = λ r. Prim.omega arith; lighter = Prim.omega (arith, (its_text l h b is).weighs) }
sides_less n (no_texts h j texts parts has) = record { thins = λ r. Prim.omega (arith, elements_ids r texts); lighter = Prim.omega (arith, elements_lighter texts (first_of_both (has_texts texts) (is_whole texts parts) has)) }

pub two_sides_is_less : (s : Spot) (n : Note) (k : Kind) (parts : Forest) (y : Tree) → two_sides_become s n k parts ≡ Some y → IsLess (record { kind = k; note = n; below = parts }) y
two_sides_is_less s n k parts y e = sides_less n (are_sides (new_note n) (new_note n) k parts y (two_sides_at s n k parts y e).answers)
