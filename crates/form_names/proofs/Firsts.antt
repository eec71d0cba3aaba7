-- The first break of a list of places, one after another.
use Rattle.std.proofs.Common.{◌≡◌, ◌∙◌, ◌<◌, ◌+◌, ℕ, List, [], ◌∷◌, Bool, true, false, not, Option, Some, if◌then◌else◌, length, get_or, drop, drop-cons, add-one, sym, ap, subst}
use Rattle.form_rules.specs.declared.rule.Break.{Break}
use Rattle.form_rules.specs.Break.{at_place, unless, least, merged}
use Rattle.form_rules.specs.Rules.{each_breaks}
use Rattle.form_rules.proofs.Least.{merged_none, merged_assoc}

abbrev pub IsFirst : (rule : ℕ) → (so_far whole : Option Break) → (places : List ℕ) → Type 0
IsFirst rule so_far whole places = merged so_far (least (each_breaks rule places)) ≡ whole

pub first_of_none : (rule : ℕ) (first whole : Option Break) (places : List ℕ) → places ≡ [] → IsFirst rule first whole places → first ≡ whole
first_of_none rule first whole places none so_far = sym (merged_none first) ∙ ap (λ ps. merged first (least (each_breaks rule ps))) (sym none) ∙ so_far

-- a place is passed where the rule holds, and a break is merged where it does not
pub first_unless_more : (rule : ℕ) (first next whole : Option Break) (holds : Bool) (place : ℕ) (places : List ℕ)
    → next ≡ merged first (least (unless holds place rule)) → IsFirst rule first whole (if holds then places else place ∷ places) → IsFirst rule next whole places
first_unless_more rule first next whole true place places is so_far = ap (λ x. merged x (least (each_breaks rule places))) (is ∙ merged_none first) ∙ so_far
first_unless_more rule first next whole false place places is so_far =
    ap (λ x. merged x (least (each_breaks rule places))) is ∙ merged_assoc first (Some (at_place place rule)) (least (each_breaks rule places)) ∙ so_far

pub first_if_more : (rule : ℕ) (first next whole : Option Break) (breaks : Bool) (place : ℕ) (places : List ℕ)
    → next ≡ merged first (least (unless (not breaks) place rule)) → IsFirst rule first whole (if breaks then place ∷ places else places) → IsFirst rule next whole places
first_if_more rule first next whole true place places is so_far = first_unless_more rule first next whole false place places is so_far
first_if_more rule first next whole false place places is so_far = first_unless_more rule first next whole true place places is so_far

pub first_of_more : (rule : ℕ) (places : List ℕ) (i : ℕ) (first next whole : Option Break) → i < length places
    → next ≡ merged first (Some (at_place (get_or places i 0) rule)) → IsFirst rule first whole (drop i places) → IsFirst rule next whole (drop (i + 1) places)
first_of_more rule places i first next whole within is so_far =
    let front : drop i places ≡ get_or places i 0 ∷ drop (i + 1) places = rw add-one (drop-cons places i 0 within) in
    first_unless_more rule first next whole false (get_or places i 0) (drop (i + 1) places) is (subst (IsFirst rule first whole) front so_far)
