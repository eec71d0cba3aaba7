-- What holds of a program holds of it with other notes.
use Rattle.std.proofs.Common.{◌≡◌, Bool, true, false, not, ◌&&◌, ◌||◌, ◌==◌, ℕ, suc, [], ◌∷◌, refl, ap, ap₂, subst}
use Rattle.js_syntax.specs.Class.{root}
use Rattle.js_syntax.specs.Facts.{is_core}
use Rattle.js_syntax.specs.Node.{Forest, Note, bare}
use Rattle.form_rules.specs.Form.{IsWellFormed}
use Rattle.form_rules.specs.Rules.{length_of}
use Rattle.js_meaning_near.specs.Near.{module_of}
use Rattle.js_meaning_near.proofs.Alike.{Alike, alike_nothing, alike_absent, alike_node, same_alike}
use Rattle.steps.specs.Steps.{all_core}
use Rattle.json_shape.specs.Shape.{these, one, Stand, Fits}
use Rattle.json_shape.proofs.Standing.{bare_stands, stands_bare}
use Rattle.steps.specs.KeepForm.Sheds.{Row, of_declarators, keeps_one, row_below, Around, entered, outermost, Sheds, ends, keeps_absent, keeps}
use Rattle.steps.proofs.KeepForm.Form.{stays_well_formed}
use Rattle.steps.proofs.Fit.Modules.{IsModule}

pub alike_module : {n m : Note} {a u : Forest} → Alike (module_of n m a) u → IsModule u
alike_module (alike_node {m = i} (alike_node {m = j} {b = b} below alike_nothing) alike_nothing) = record { note = i; list_note = j; items = b; is = refl }

pub alike_core : {t u : Forest} → Alike t u → all_core t ≡ all_core u
alike_core alike_nothing = refl
alike_core (alike_absent r) = alike_core r
alike_core (alike_node {k = k} below r) = ap₂ (λ x y. is_core k && (x && y)) (alike_core below) (alike_core r)

-- ---- nothing is shed

length_alike : {t u : Forest} → Alike t u → length_of t ≡ length_of u
length_alike alike_nothing = refl
length_alike (alike_absent r) = length_alike r
length_alike (alike_node b r) = ap suc (length_alike r)

itself : (n : ℕ) → (n == 0 || not (n == 0)) ≡ true
itself n = one_of (n == 0)
  where
    one_of : (b : Bool) → (b || not b) ≡ true
    one_of true = refl
    one_of false = refl

keeps_alike : (row : Row) {a b : Forest} → Alike a b → keeps_one row a b ≡ true
keeps_alike of_declarators {a = a} {b = b} h = subst (λ n. (length_of a == 0 || not (n == 0)) ≡ true) (length_alike h) (itself (length_of a))
keeps_alike row h = refl

pub alike_sheds : {t u : Forest} (w : Around) → Alike t u → Sheds w t u
alike_sheds w alike_nothing = ends
alike_sheds w (alike_absent r) = keeps_absent (alike_sheds w r)
alike_sheds w (alike_node {k = k} {a = a} below r) = keeps (keeps_alike (row_below w.row k) below) (alike_sheds (entered w k a) below) (alike_sheds w r)

-- ---- the two that a sensible program begins with

pub fits_renoted : (t u : Forest) → bare t ≡ bare u → Fits root t → Fits root u
fits_renoted t u e fits = stands_bare u (these (one root ∷ [])) (subst (Stand (these (one root ∷ []))) e (bare_stands t (these (one root ∷ [])) fits))

pub form_renoted : (t u : Forest) → bare t ≡ bare u → IsWellFormed t → IsWellFormed u
form_renoted t u e form = stays_well_formed t u (alike_sheds outermost (same_alike t u e)) form
