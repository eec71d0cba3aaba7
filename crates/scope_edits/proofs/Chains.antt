-- The scopes around one, in a table whose parents end.
use Rattle.std.proofs.Common.{◌≡◌, ◌∙◌, ◌<◌, ◌≤◌, ◌+◌, ◌-◌, inl, inr, ℕ, zero, suc, List, [], ◌∷◌, true, false, true≢false, ◌||◌, Option, Some, None, cond, nat_eq, length, arith, refl, sym, ap, subst}
use Rattle.std.specs.List.{list_any}
use Rattle.std.proofs.lemmas.Bool.{ne_eqb, eqb-true, eqb-false, false≢true, cases_order}
use Rattle.std.proofs.lemmas.Option.{none-some, same_Some}
use Rattle.scope_rules.specs.Table.{Scoping}
use Rattle.scope_counts.specs.Exact.{count}
use Rattle.scope_table.specs.Reading.{scope_at, scopes_up}
use Rattle.scope_table.specs.Editing.{up, ParentsEnd}
use Rattle.scope_edits.specs.Ending.{EndsOnTop}

-- ---- steps

pub none_stays : (s : Scoping) (steps : ℕ) → up steps s None ≡ None
none_stays s zero = refl
none_stays s (suc steps) = refl

-- the steps of a sum are those of one part and then those of the other
pub up_sum : (s : Scoping) (a b c : ℕ) (n : Option ℕ) → c ≡ a + b → up c s n ≡ up b s (up a s n)
up_sum s zero b c n is = let same : c ≡ b = omega (arith, is) in ap (λ k. up k s n) same
up_sum s (suc a) b zero n is = absurd (omega (arith, is))
up_sum s (suc a) b (suc c) None is = sym (none_stays s b)
up_sum s (suc a) b (suc c) (Some n) is = up_sum s a b c (scope_at s n).parent (omega (arith, is))

pub later_none : (s : Scoping) (a c : ℕ) (n : Option ℕ) → up a s n ≡ None → a ≤ c → up c s n ≡ None
later_none s a c n end h = up_sum s a (c - a) c n (omega (arith, h)) ∙ ap (up (c - a) s) end ∙ none_stays s (c - a)

-- ---- no circle

abbrev many : ℕ → ℕ → ℕ
many j zero = 0
many j (suc q) = suc (j + many j q)

many_least : (j q : ℕ) → q ≤ many j q
many_least j zero = omega arith
many_least j (suc q) = let r = many_least j q in omega (arith, r)

again : (s : Scoping) (j n : ℕ) → up (suc j) s (Some n) ≡ Some n → (q : ℕ) → up (many j q) s (Some n) ≡ Some n
again s j n back zero = refl
again s j n back (suc q) = up_sum s (suc j) (many j q) (many j (suc q)) (Some n) (omega arith) ∙ ap (up (many j q) s) back ∙ again s j n back q

pub no_circle : (s : Scoping) (j n steps : ℕ) → up steps s (Some n) ≡ None → up (suc j) s (Some n) ≡ Some n → ⊥
no_circle s j n steps end back = none-some n (sym (later_none s steps (many j steps) (Some n) end (many_least j steps)) ∙ again s j n back steps)

-- ---- lists of scopes

nothing_up : (s : Scoping) (most : ℕ) → scopes_up most s None ≡ []
nothing_up s zero = refl
nothing_up s (suc most) = refl

-- a scope of the list is some steps up
pub found_up : (s : Scoping) (most : ℕ) (n : Option ℕ) (m : ℕ) → list_any (nat_eq m) (scopes_up most s n) ≡ true → (i : ℕ) × (up i s n ≡ Some m)
found_up s zero n m h = absurd (false≢true h)
found_up s (suc most) None m h = absurd (false≢true h)
found_up s (suc most) (Some n) m h =
    elim (nat_eq m n) as (λ b. nat_eq m n ≡ b → b || list_any (nat_eq m) (scopes_up most s (scope_at s n).parent) ≡ true → (i : ℕ) × (up i s (Some n) ≡ Some m))
    [ true ↦ λ same _. (0, ap Some (sym (eqb-true m n same))) | false ↦ λ _ rest. let r = found_up s most (scope_at s n).parent m rest in (suc r.0, r.1) ] refl h

pub count_none : (m : ℕ) (xs : List ℕ) → list_any (nat_eq m) xs ≡ false → count m xs ≡ 0
count_none m [] h = refl
count_none m (x ∷ xs) h =
    elim (nat_eq m x) as (λ b. b || list_any (nat_eq m) xs ≡ false → cond b 1 0 + count m xs ≡ 0)
    [ true ↦ λ e. absurd (true≢false e) | false ↦ λ e. let r = count_none m xs e in omega (arith, r) ] h

not_above : (s : Scoping) (most n steps : ℕ) → up steps s (Some n) ≡ None → list_any (nat_eq n) (scopes_up most s (scope_at s n).parent) ≡ false
not_above s most n steps end =
    elim (list_any (nat_eq n) (scopes_up most s (scope_at s n).parent)) as (λ b. list_any (nat_eq n) (scopes_up most s (scope_at s n).parent) ≡ b → b ≡ false)
    [ true ↦ λ e. let r = found_up s most (scope_at s n).parent n e in absurd (no_circle s r.0 n steps end r.1) | false ↦ λ e. refl ] refl

-- each has a scope once at most
pub each_once : (s : Scoping) → ((n : ℕ) → (steps : ℕ) × (up steps s (Some n) ≡ None)) → (most : ℕ) (n : Option ℕ) (m : ℕ) → count m (scopes_up most s n) ≤ 1
each_once s ends zero n m = omega arith
each_once s ends (suc most) None m = omega arith
each_once s ends (suc most) (Some n) m =
    elim (nat_eq m n) as (λ b. nat_eq m n ≡ b → cond b 1 0 + count m (scopes_up most s (scope_at s n).parent) ≤ 1) [
      | true ↦ λ e.
          let none : count n (scopes_up most s (scope_at s n).parent) ≡ 0 = count_none n (scopes_up most s (scope_at s n).parent) (not_above s most n (ends n).0 (ends n).1) in
          let here : count m (scopes_up most s (scope_at s n).parent) ≡ 0 = ap (λ k. count k (scopes_up most s (scope_at s n).parent)) (eqb-true m n e) ∙ none in
          omega (arith, here)
      | false ↦ λ e. let r = each_once s ends most (scope_at s n).parent m in omega (arith, r)
    ] refl

-- as many as steps lead to a scope
full : (s : Scoping) (most : ℕ) (n : Option ℕ) (m : ℕ) → up most s n ≡ Some m → length (scopes_up (suc most) s n) ≡ suc most
full s zero None m h = absurd (none-some m h)
full s zero (Some n) m h = refl
full s (suc most) None m h = absurd (none-some m h)
full s (suc most) (Some n) m h = ap suc (full s most (scope_at s n).parent m h)

-- ---- numbers below a bound

abbrev Below : ℕ → List ℕ → Type 0
Below l [] = Unit {0}
Below l (x ∷ xs) = (x < l) × Below l xs

within : (s : Scoping) → ((n p : ℕ) → (scope_at s n).parent ≡ Some p → p < length s.scopes) → (most : ℕ) (n : Option ℕ) → ((m : ℕ) → n ≡ Some m → m < length s.scopes) → Below (length s.scopes) (scopes_up most s n)
within s there zero n h = tt
within s there (suc most) None h = tt
within s there (suc most) (Some n) h = (h n refl, within s there most (scope_at s n).parent (there n))

-- how many there are of each number below the bound, together
abbrev total : ℕ → List ℕ → ℕ
total zero xs = 0
total (suc l) xs = count l xs + total l xs

total_nil : (l : ℕ) → total l [] ≡ 0
total_nil zero = refl
total_nil (suc l) = let r = total_nil l in omega (arith, r)

total_past : (l x : ℕ) (xs : List ℕ) → l ≤ x → total l (x ∷ xs) ≡ total l xs
total_past zero x xs h = refl
total_past (suc l) x xs h =
    let r = total_past l x xs (omega (arith, h)) in
    ap (λ b. cond b 1 0 + count l xs + total l (x ∷ xs)) (ne_eqb l x (λ e. omega (arith, e, h))) ∙ omega (arith, r)

less : (l x : ℕ) → x < suc l → (l ≡ x → ⊥) → x < l
less l x h apart = elim (cases_order l x) [ inl e ↦ absurd (apart e) | inr (inl e) ↦ absurd (omega (arith, e, h)) | inr (inr e) ↦ e ]

total_here : (l x : ℕ) (xs : List ℕ) → x < l → total l (x ∷ xs) ≡ suc (total l xs)
total_here zero x xs h = absurd (omega (arith, h))
total_here (suc l) x xs h =
    elim (nat_eq l x) as (λ b. nat_eq l x ≡ b → cond b 1 0 + count l xs + total l (x ∷ xs) ≡ suc (count l xs + total l xs)) [
      | true ↦ λ e. let same = eqb-true l x e in let r = total_past l x xs (omega (arith, same)) in omega (arith, r)
      | false ↦ λ e. let r = total_here l x xs (less l x h (eqb-false l x e)) in omega (arith, r)
    ] refl

total_is_length : (l : ℕ) (xs : List ℕ) → Below l xs → total l xs ≡ length xs
total_is_length l [] h = total_nil l
total_is_length l (x ∷ xs) h = total_here l x xs h.0 ∙ ap suc (total_is_length l xs h.1)

total_small : (l : ℕ) (xs : List ℕ) → ((m : ℕ) → count m xs ≤ 1) → total l xs ≤ l
total_small zero xs h = omega arith
total_small (suc l) xs h = let one = h l in let r = total_small l xs h in omega (arith, one, r)

few : (l : ℕ) (xs : List ℕ) → Below l xs → ((m : ℕ) → count m xs ≤ 1) → length xs ≤ l
few l xs below once = let a = total_is_length l xs below in let b = total_small l xs once in omega (arith, a, b)

-- ---- as many steps as there are scopes end

pub all_end : (s : Scoping) → ParentsEnd s → (n : ℕ) → n < length s.scopes → up (length s.scopes) s (Some n) ≡ None
all_end s h n low =
    elim (up (length s.scopes) s (Some n)) as (λ o. up (length s.scopes) s (Some n) ≡ o → o ≡ None) [
      | None ↦ λ e. refl
      | Some m ↦ λ e.
          let long = full s (length s.scopes) (Some n) m e in
          let short = few (length s.scopes) (scopes_up (suc (length s.scopes)) s (Some n)) (within s h.there (suc (length s.scopes)) (Some n) (λ k is. subst (λ j. j < length s.scopes) (same_Some n k is) low)) (each_once s h.end (suc (length s.scopes)) (Some n)) in
          absurd (omega (arith, long, short))
    ] refl

pub ends_on_top : (s : Scoping) (most n : ℕ) → up most s (Some n) ≡ None → EndsOnTop s (scopes_up most s (Some n))
ends_on_top s zero n end = absurd (none-some n (sym end))
ends_on_top s (suc most) n end =
    elim (scope_at s n).parent as (λ o. (scope_at s n).parent ≡ o → up most s o ≡ None → EndsOnTop s (n ∷ scopes_up most s o)) [
      | None ↦ λ e _. record { front = []; top = n; parts = ap (λ xs. n ∷ xs) (nothing_up s most); no_parent = e }
      | Some p ↦ λ _ rest. let r = ends_on_top s most p rest in record { front = n ∷ r.front; top = r.top; parts = ap (λ xs. n ∷ xs) r.parts; no_parent = r.no_parent }
    ] refl end
