-- The value of a flag, as it is read from what clap found.
use Rattle.std.proofs.Common.{◌≡◌, Bool, Option, Some, None, true, false, refl, ap, codes, unwrap_or, sym, Decides}
use Rattle.std.specs.Str.{bytes_eq}
use Rattle.std.specs.Str.Parse.{ParsesBool}
use Rattle.std.specs.Option.{option_map_or}
use Rattle.std.proofs.lemmas.Slice.Eq.{bytes_eq-Decides}
use Rattle.clap.specs.Walk.{Text}
use Rattle.clap.specs.Matches.{ReadsOne}

is_no : (b : Bool) {P : Type 0} → Decides b P → (P → ⊥) → false ≡ b
is_no true decides other = absurd (other (decides.0 refl))
is_no false decides other = refl

read_value : (E : Type 0) (t : Text) (r : Option Bool) → ReadsOne (ParsesBool {E = E}) t r → unwrap_or r false ≡ bytes_eq t (codes "true")
read_value E t (Some true) is = ap (λ x. bytes_eq x (codes "true")) (sym is)
read_value E t (Some false) is = ap (λ x. bytes_eq x (codes "true")) (sym is)
read_value E t None is = is_no _ (bytes_eq-Decides t (codes "true")) is.1.0

pub read_flag : (E : Type 0) (found : Option Text) (r : Option Bool) → (found ≡ None → r ≡ None) → ((t : Text) → found ≡ Some t → ReadsOne (ParsesBool {E = E}) t r)
    → unwrap_or r false ≡ option_map_or (λ t. bytes_eq t (codes "true")) found false
read_flag E None r none value = ap (λ x. unwrap_or x false) (none refl)
read_flag E (Some t) r none value = read_value E t r (value t refl)
