-- There is at most one list of marks for what was found.
use Rattle.std.proofs.Common.{◌≡◌, ◌∙◌, ◌<◌, ◌+◌, ◌++◌, ◌||◌, ℕ, suc, List, [], ◌∷◌, map, Bool, true, false, true≢false, nat_eq, Option, Some, length, drop, drop-cons, drop_of_length-le, length-append, append_assoc, if◌then◌else◌, refl, sym, ap, ap₂, subst, arith, eqb-true, eq-eqb}
use Rattle.scope_rules.specs.Site.{BindingSite, ScopeSite, ReferenceSite, Found}
use Rattle.scope_rules.specs.Binding.{Binding, declared_by}
use Rattle.scope_rules.specs.Table.{same_binding, is_among, new_behind, symbols_of, number_from, number_or_none, symbol_used, symbols_declared, symbols_from}
use Rattle.scope_laws.proofs.Bindings.{same_binding_same}
use Rattle.scope_match.specs.Matches.{Marks, AreMarked, mark_at}
use Rattle.scope_match.specs.Candidates.{first_marks_from, candidates}
use Rattle.scope_match.proofs.Have.{same_head, same_tail}
use Rattle.js_syntax.proofs.Truth.{or_associates, or_false}

-- ---- numbers of bindings

abbrev number_in : ℕ → List Binding → Binding → ℕ
number_in n all b = number_or_none (number_from n all b)

-- one of the first has a number below how many they are
below : (n : ℕ) (xs ys : List Binding) (b : Binding) → is_among b xs ≡ true → number_in n (xs ++ ys) b < n + length xs
below n [] ys b h = absurd (true≢false (sym h))
below n (a ∷ xs) ys b h =
    (elim (same_binding a b) as (λ t. t || is_among b xs ≡ true → number_or_none (if t then Some n else number_from (suc n) (xs ++ ys) b) < n + suc (length xs)) [
      | true ↦ λ e. Prim.omega arith
      | false ↦ λ e. Prim.omega (arith, below (suc n) xs ys b e)
    ]) h

-- one that is new has the next number
next_number : (n : ℕ) (xs ys : List Binding) (b : Binding) → is_among b xs ≡ false → number_from n (xs ++ b ∷ ys) b ≡ Some (n + length xs)
next_number n [] ys b h = ap (λ t. if t then Some n else number_from (suc n) ys b) (same_binding_same b) ∙ ap Some (Prim.omega arith)
next_number n (a ∷ xs) ys b h =
    (elim (same_binding a b) as (λ t. t || is_among b xs ≡ false → (if t then Some n else number_from (suc n) (xs ++ b ∷ ys) b) ≡ Some (n + suc (length xs))) [
      | true ↦ λ e. absurd (true≢false e)
      | false ↦ λ e. next_number (suc n) xs ys b e ∙ ap Some (Prim.omega arith)
    ]) h

or_comm : (a b : Bool) → a || b ≡ b || a
or_comm true true = refl
or_comm true false = refl
or_comm false true = refl
or_comm false false = refl

among_append : (q : Binding) (xs ys : List Binding) → is_among q (xs ++ ys) ≡ is_among q xs || is_among q ys
among_append q [] ys = refl
among_append q (x ∷ xs) ys = ap (λ t. same_binding x q || t) (among_append q xs ys) ∙ or_associates (same_binding x q) (is_among q xs) (is_among q ys)

other_number : (a b : ℕ) → a < b → nat_eq a b ≡ false
other_number a b less = (elim (nat_eq a b) as (λ t. nat_eq a b ≡ t → t ≡ false) [
  | true ↦ λ e. absurd (Prim.omega (arith, eqb-true a b e, less))
  | false ↦ λ e. refl
]) refl

-- ---- marks of first declarations

abbrev Ids : List Binding → List BindingSite → List ℕ → Type 0
Ids all bs m = map (λ (b : BindingSite). b.id) bs ≡ map (λ n. Some (mark_at m n)) (map (λ b. number_in 0 all (declared_by b)) bs)

abbrev FirstMarks : List Binding → (prefix seen : List Binding) → List BindingSite → List ℕ → Type 0
FirstMarks all prefix seen bs m =
    all ≡ prefix ++ new_behind seen (map declared_by bs) → ((q : Binding) → is_among q seen ≡ is_among q prefix) → length m ≡ length all → Ids all bs m
    → first_marks_from (length prefix) (map (λ b. number_in 0 all (declared_by b)) bs) bs ≡ drop (length prefix) m

step : (all prefix seen : List Binding) (b : BindingSite) (bs : List BindingSite) (m : List ℕ) (t : Bool) → is_among (declared_by b) seen ≡ t
    → FirstMarks all prefix seen bs m
    → FirstMarks all (prefix ++ declared_by b ∷ []) (declared_by b ∷ seen) bs m
    → all ≡ prefix ++ (if t then new_behind seen (map declared_by bs) else declared_by b ∷ new_behind (declared_by b ∷ seen) (map declared_by bs))
    → ((q : Binding) → is_among q seen ≡ is_among q prefix) → length m ≡ length all → Ids all (b ∷ bs) m
    → first_marks_from (length prefix) (map (λ b. number_in 0 all (declared_by b)) (b ∷ bs)) (b ∷ bs) ≡ drop (length prefix) m
step all prefix seen b bs m true known seen_before new is same len ids =
    let d = declared_by b in
    let less : number_in 0 all d < length prefix = let first = below 0 prefix (new_behind seen (map declared_by bs)) d (sym (same d) ∙ known) in subst (λ xs. number_in 0 xs d < length prefix) (sym is) (Prim.omega (arith, first)) in
    ap (λ t. if t then number_or_none b.id ∷ first_marks_from (suc (length prefix)) (map (λ b. number_in 0 all (declared_by b)) bs) bs else first_marks_from (length prefix) (map (λ b. number_in 0 all (declared_by b)) bs) bs)
    (other_number (number_in 0 all d) (length prefix) less)
    ∙ seen_before is same len (same_tail b.id _ (map (λ (b : BindingSite). b.id) bs) _ ids)
step all prefix seen b bs m false known seen_before new is same len ids =
    let d = declared_by b in
    let rest = new_behind (d ∷ seen) (map declared_by bs) in
    let number : number_in 0 all d ≡ length prefix = ap (λ xs. number_in 0 xs d) is ∙ ap number_or_none (next_number 0 prefix rest d (sym (same d) ∙ known)) ∙ Prim.omega arith in
    let longer : length (prefix ++ d ∷ []) ≡ suc (length prefix) = length-append prefix (d ∷ []) ∙ Prim.omega arith in
    let here : length prefix < length m = Prim.omega (arith, len, ap (λ (xs : List Binding). length xs) is, length-append prefix (d ∷ rest)) in
    let id : number_or_none b.id ≡ mark_at m (length prefix) = ap number_or_none (same_head b.id _ (map (λ (b : BindingSite). b.id) bs) _ ids) ∙ ap (mark_at m) number in
    ap (λ t. if t then number_or_none b.id ∷ first_marks_from (suc (length prefix)) (map (λ b. number_in 0 all (declared_by b)) bs) bs else first_marks_from (length prefix) (map (λ b. number_in 0 all (declared_by b)) bs) bs)
    (eq-eqb (number_in 0 all d) (length prefix) number)
    ∙ ap₂ (λ x xs. x ∷ xs) id
    (ap (λ n. first_marks_from n (map (λ b. number_in 0 all (declared_by b)) bs) bs) (sym longer)
    ∙ new (is ∙ sym (append_assoc prefix (d ∷ []) rest)) (λ q. or_comm (same_binding d q) (is_among q seen) ∙ ap₂ (λ s t. s || t) (same q) (sym (or_false (same_binding d q))) ∙ sym (among_append q prefix (d ∷ [])))
    len (same_tail b.id _ (map (λ (b : BindingSite). b.id) bs) _ ids)
    ∙ ap (λ n. drop n m) longer)
    ∙ sym (drop-cons m (length prefix) (length prefix) here)

first_marks : (all prefix seen : List Binding) (bs : List BindingSite) (m : List ℕ) → FirstMarks all prefix seen bs m
first_marks all prefix seen [] m is same len ids = sym (drop_of_length-le m (Prim.omega (arith, len, ap (λ (xs : List Binding). length xs) is, length-append prefix [])))
first_marks all prefix seen (b ∷ bs) m is same len ids =
    step all prefix seen b bs m (is_among (declared_by b) seen) refl (first_marks all prefix seen bs m) (first_marks all (prefix ++ declared_by b ∷ []) (declared_by b ∷ seen) bs m) is same len ids

-- ---- all marks

composed : {A B C : Type 0} (h : B → C) (g : A → B) (xs : List A) → map (λ x. h (g x)) xs ≡ map h (map g xs)
composed h g [] = refl
composed h g (x ∷ xs) = ap (λ ys. h (g x) ∷ ys) (composed h g xs)

numbers_back : (ms : List ℕ) → map number_or_none (map Some ms) ≡ ms
numbers_back [] = refl
numbers_back (m ∷ ms) = ap (λ ys. m ∷ ys) (numbers_back ms)

numbers_of : {A : Type 0} (g : A → Option ℕ) (xs : List A) (ms : List ℕ) → map g xs ≡ map Some ms → ms ≡ map (λ x. number_or_none (g x)) xs
numbers_of g xs ms e = sym (numbers_back ms) ∙ ap (map number_or_none) (sym e) ∙ sym (composed number_or_none g xs)

pub length_symbols : (bs : List BindingSite) (uses : List (Option ℕ)) (next : ℕ) (all : List Binding) → length (symbols_from bs uses next all) ≡ length all
length_symbols bs uses next [] = refl
length_symbols bs uses next (b ∷ all) = ap suc (length_symbols bs uses (suc next) all)

pub only_candidates : (f : Found) (m : Marks) → AreMarked f m → m ≡ candidates f
only_candidates f m h =
    let bs = f.bindings in
    let scopes = numbers_of (λ (s : ScopeSite). s.id) f.scopes m.scopes h.scopes in
    let references = numbers_of (λ (r : ReferenceSite). r.id) f.references m.references h.references in
    let symbols : first_marks_from 0 (symbols_declared bs) bs ≡ m.symbols =
    first_marks (symbols_of bs) [] [] bs m.symbols refl (λ q. refl) (h.symbols ∙ length_symbols bs (map (symbol_used bs) f.references) 0 (symbols_of bs)) h.declarations in
    ap₂ made scopes (sym symbols) ∙ ap (λ r. record { scopes = (candidates f).scopes; symbols = (candidates f).symbols; references = r }) references
  where
    made : List ℕ → List ℕ → Marks
    made s y = record { scopes = s; symbols = y; references = m.references }
