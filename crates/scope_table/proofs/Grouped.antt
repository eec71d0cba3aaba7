-- What changes where the item of a number is changed.
use Rattle.std.proofs.Common.{◌≡◌, ◌∙◌, ◌<◌, ◌≤◌, ◌+◌, ℕ, zero, suc, List, [], ◌∷◌, Option, Some, None, if◌then◌else◌, length, get_or, arith, refl, sym, ap}
use Rattle.std.proofs.Math.ListN.{set}
use Rattle.std.proofs.lemmas.Bool.{ne_eqb, eq-eqb}
use Rattle.scope_table.specs.Group.{at_number}

module _ {X : Type 0} (change : X → X) where
  pub no_number : (next : ℕ) (xs : List X) → at_number change None next xs ≡ xs
  no_number next [] = refl
  no_number next (x ∷ xs) = ap (λ ys. x ∷ ys) (no_number (suc next) xs)

  number_passed : (m next : ℕ) (xs : List X) → m < next → at_number change (Some m) next xs ≡ xs
  number_passed m next [] h = refl
  number_passed m next (x ∷ xs) h =
      ap (λ b. (if b then change x else x) ∷ at_number change (Some m) (suc next) xs) (ne_eqb m next (omega arith)) ∙ ap (λ ys. x ∷ ys) (number_passed m (suc next) xs (omega arith))

  number_beyond_from : (m n next : ℕ) (xs : List X) → m ≡ next + n → length xs ≤ n → at_number change (Some m) next xs ≡ xs
  number_beyond_from m n next [] is h = refl
  number_beyond_from m zero next (x ∷ xs) is h = absurd (omega arith)
  number_beyond_from m (suc n) next (x ∷ xs) is h =
      ap (λ b. (if b then change x else x) ∷ at_number change (Some m) (suc next) xs) (ne_eqb m next (omega arith)) ∙ ap (λ ys. x ∷ ys) (number_beyond_from m n (suc next) xs (omega arith) (omega arith))

  pub number_beyond : (n : ℕ) (xs : List X) → length xs ≤ n → at_number change (Some n) 0 xs ≡ xs
  number_beyond n xs h = number_beyond_from n n 0 xs (omega arith) h

  number_set_from : (m n next : ℕ) (d : X) (xs : List X) → m ≡ next + n → n < length xs → at_number change (Some m) next xs ≡ set xs n (change (get_or xs n d))
  number_set_from m n next d [] is h = absurd (omega arith)
  number_set_from m zero next d (x ∷ xs) is h =
      ap (λ b. (if b then change x else x) ∷ at_number change (Some m) (suc next) xs) (eq-eqb m next (omega arith)) ∙ ap (λ ys. change x ∷ ys) (number_passed m (suc next) xs (omega arith))
  number_set_from m (suc n) next d (x ∷ xs) is h =
      ap (λ b. (if b then change x else x) ∷ at_number change (Some m) (suc next) xs) (ne_eqb m next (omega arith)) ∙ ap (λ ys. x ∷ ys) (number_set_from m n (suc next) d xs (omega arith) (omega arith))

  pub number_set : (n : ℕ) (d : X) (xs : List X) → n < length xs → at_number change (Some n) 0 xs ≡ set xs n (change (get_or xs n d))
  number_set n d xs h = number_set_from n n 0 d xs (omega arith) h

  pub changed : (number : Option ℕ) (n : ℕ) (xs : List X) (old new : X) → number ≡ Some n → n < length xs → old ≡ get_or xs n old → new ≡ change old → set xs n new ≡ at_number change number 0 xs
  changed number n xs old new is within at new_is = ap (set xs n) (new_is ∙ ap change at) ∙ sym (number_set n old xs within) ∙ ap (λ m. at_number change m 0 xs) (sym is)

  pub beyond : (number : Option ℕ) (n : ℕ) (xs : List X) → number ≡ Some n → length xs ≤ n → xs ≡ at_number change number 0 xs
  beyond number n xs is past = sym (number_beyond n xs past) ∙ ap (λ m. at_number change m 0 xs) (sym is)

  pub nowhere : (number : Option ℕ) (xs : List X) → number ≡ None → xs ≡ at_number change number 0 xs
  nowhere number xs is = sym (no_number 0 xs) ∙ ap (λ m. at_number change m 0 xs) (sym is)
