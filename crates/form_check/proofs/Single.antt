-- Of nodes of which one rule of form may speak, or none: what is left of the list of all breaks. That no declaration stands alone as a
-- body is asked of each kind.
use Rattle.std.proofs.Common.{◌≡◌, ◌∙◌, ℕ, List, [], ◌∷◌, ◌++◌, Bool, true, false, not, ◌&&◌, Option, None, refl, sym, ap}
use Rattle.form_rules.specs.declared.rule.Break.{Break}
use Rattle.form_rules.specs.Break.{least, unless}

behind_nothing : (xs : List Break) → xs ++ [] ≡ xs
behind_nothing [] = refl
behind_nothing (x ∷ xs) = ap (λ ys. x ∷ ys) (behind_nothing xs)

-- what is no declaration may stand alone
pub may_stand : (is_alone : Bool) (place : ℕ) (xs : List Break) → (unless (not (is_alone && false)) place 11 ++ []) ++ xs ≡ xs
may_stand true place xs = refl
may_stand false place xs = refl

pub said_last : (is_alone : Bool) (place : ℕ) (xs : List Break) {first : Option Break} → first ≡ least xs → first ≡ least ((unless (not (is_alone && false)) place 11 ++ []) ++ xs)
said_last is_alone place xs e = e ∙ sym (ap least (may_stand is_alone place xs))

pub said_first : (is_alone : Bool) (place : ℕ) (xs : List Break) {first : Option Break} → first ≡ least xs → first ≡ least (xs ++ ((unless (not (is_alone && false)) place 11 ++ []) ++ []))
said_first is_alone place xs e = e ∙ sym (ap least (ap (λ ys. xs ++ ys) (may_stand is_alone place []) ∙ behind_nothing xs))

pub nothing_said : (is_alone : Bool) (place : ℕ) → None ≡ least ((unless (not (is_alone && false)) place 11 ++ []) ++ [])
nothing_said is_alone place = sym (ap least (may_stand is_alone place []))
