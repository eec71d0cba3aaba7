-- The least of breaks that stand in two lists.
use Rattle.std.proofs.Common.{◌≡◌, ◌∙◌, List, [], ◌∷◌, ◌++◌, Bool, true, false, Option, Some, None, if◌then◌else◌, refl, sym, ap, arith}
use Rattle.std.proofs.lemmas.Bool.Decides.{nat_tests}
use Rattle.form_rules.specs.declared.rule.Break.{Break}
use Rattle.form_rules.specs.Break.{comes_before, lesser, least, merged}

pub merged_none : (a : Option Break) → merged a None ≡ a
merged_none None = refl
merged_none (Some a) = refl

before_all : (a b c : Break) → comes_before c b ≡ true → comes_before b a ≡ true → comes_before c a ≡ true
before_all a b c h k = grind (arith, nat_tests, h, k)

before_none : (a b c : Break) → comes_before c b ≡ false → comes_before b a ≡ false → comes_before c a ≡ false
before_none a b c h k = grind (arith, nat_tests, h, k)

lesser_by : (a b c : Break) (x y : Bool) → comes_before b a ≡ x → comes_before c b ≡ y → lesser (if x then b else a) (Some c) ≡ lesser a (Some (if y then c else b))
lesser_by a b c true true h k = rw (k, before_all a b c k h) refl
lesser_by a b c true false h k = rw (h, k) refl
lesser_by a b c false true h k = refl
lesser_by a b c false false h k = rw (h, before_none a b c k h) refl

lesser_assoc : (a b c : Break) → lesser (lesser a (Some b)) (Some c) ≡ lesser a (Some (lesser b (Some c)))
lesser_assoc a b c = lesser_by a b c (comes_before b a) (comes_before c b) refl refl

pub merged_assoc : (a b c : Option Break) → merged (merged a b) c ≡ merged a (merged b c)
merged_assoc None b c = refl
merged_assoc (Some a) None c = refl
merged_assoc (Some a) (Some b) None = refl
merged_assoc (Some a) (Some b) (Some c) = ap (λ x. Some x) (lesser_assoc a b c)

pub least_append : (xs ys : List Break) → least (xs ++ ys) ≡ merged (least xs) (least ys)
least_append [] ys = refl
least_append (x ∷ xs) ys = ap (merged (Some x)) (least_append xs ys) ∙ sym (merged_assoc (Some x) (least xs) (least ys))
