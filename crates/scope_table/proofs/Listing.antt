-- Symbols list each reference that has a symbol, once.
use Rattle.std.proofs.Common.{◌≡◌, ◌∙◌, ◌<◌, ◌≤◌, ◌+◌, ◌≢◌, ℕ, suc, List, [], ◌∷◌, Bool, true, false, Option, Some, None, is_some, option_and_then, cond, if◌then◌else◌, map, length, arith, refl, sym, ap}
use Rattle.std.specs.Bool.{nat_eq}
use Rattle.std.specs.List.{count_by, sum_by}
use Rattle.std.proofs.lemmas.Bool.{ne_eqb, eqb-false}
use Rattle.std.proofs.lemmas.Bool.Decides.{Decides-eqb}
use Rattle.std.proofs.lemmas.List.Sums.{sum_by-cons}
use Rattle.scope_rules.specs.Site.{BindingSite, ReferenceSite}
use Rattle.scope_rules.specs.Binding.{Binding, binding_of}
use Rattle.scope_rules.specs.Table.{same_binding, is_number, references_to, number_from, symbols_of, symbol_of, symbol_used, symbol_at, symbols_from, reference_at}

listed_from : (n : ℕ) → (uses : List (Option ℕ)) → (next : ℕ) → List Binding → ℕ
listed_from n uses next [] = 0
listed_from n uses next (b ∷ bs) = length (references_to next n uses) + listed_from n uses (suc next) bs

ones : Option ℕ → (next : ℕ) → List Binding → ℕ
ones u next [] = 0
ones u next (b ∷ bs) = cond (is_number next u) 1 0 + ones u (suc next) bs

one_longer : (here : Bool) (n : ℕ) (rs : List ℕ) → length (if here then n ∷ rs else rs) ≡ cond here 1 0 + length rs
one_longer true n rs = omega arith
one_longer false n rs = omega arith

listed_more : (n : ℕ) (u : Option ℕ) (uses : List (Option ℕ)) (next : ℕ) (bs : List Binding) → listed_from n (u ∷ uses) next bs ≡ ones u next bs + listed_from (suc n) uses next bs
unfolding listed_from ones
listed_more n u uses next [] = omega arith
listed_more n u uses next (b ∷ bs) =
    let here = one_longer (is_number next u) n (references_to next (suc n) uses) in
    let rest = listed_more n u uses (suc next) bs in
    omega (arith, here, rest)

no_ones : (next : ℕ) (bs : List Binding) → ones None next bs ≡ 0
unfolding ones
no_ones next [] = refl
no_ones next (b ∷ bs) = let rest = no_ones (suc next) bs in omega (arith, rest)

ones_passed : (m next : ℕ) (bs : List Binding) → m < next → ones (Some m) next bs ≡ 0
unfolding ones
ones_passed m next [] h = refl
ones_passed m next (b ∷ bs) h =
    let rest = ones_passed m (suc next) bs (omega arith) in
    ap (λ c. cond c 1 0 + ones (Some m) (suc next) bs) (ne_eqb m next (omega arith)) ∙ omega (arith, rest)

one_one : (m next : ℕ) (bs : List Binding) → next ≤ m → m < next + length bs → ones (Some m) next bs ≡ 1
unfolding ones
one_one m next [] low high = absurd (omega arith)
one_one m next (b ∷ bs) low high =
    elim (nat_eq m next) as (λ c. nat_eq m next ≡ c → cond c 1 0 + ones (Some m) (suc next) bs ≡ 1) [
      | true ↦ λ e. let same : m ≡ next = (Decides-eqb m next).0 e in let rest = ones_passed m (suc next) bs (omega arith) in omega (arith, rest)
      | false ↦ λ e. let apart : m ≢ next = eqb-false m next e in let rest = one_one m (suc next) bs (omega (arith, apart)) (omega arith) in omega (arith, rest)
    ] refl

none_listed : (n next : ℕ) (bs : List Binding) → listed_from n [] next bs ≡ 0
unfolding listed_from
none_listed n next [] = refl
none_listed n next (b ∷ bs) = let rest = none_listed n (suc next) bs in omega (arith, rest)

number_within : (k : ℕ) (xs : List Binding) (b : Binding) (m : ℕ) → number_from k xs b ≡ Some m → m < k + length xs
number_within k [] b m h = absurd (cc)
number_within k (x ∷ xs) b m h =
    elim (same_binding x b) as (λ c. (if c then Some k else number_from (suc k) xs b) ≡ Some m → m < k + suc (length xs))
    [ true ↦ λ e. let same : k ≡ m = cc in omega (arith, same) | false ↦ λ e. let rest = number_within (suc k) xs b m e in omega (arith, rest) ] h

used_within : (bs : List BindingSite) (b : Option Binding) (m : ℕ) → option_and_then (symbol_of bs) b ≡ Some m → m < 0 + length (symbols_of bs)
used_within bs None m h = absurd (cc)
used_within bs (Some b) m h = number_within 0 (symbols_of bs) b m h

used_once : (bs : List BindingSite) (u : Option ℕ) → ((m : ℕ) → u ≡ Some m → m < 0 + length (symbols_of bs)) → ones u 0 (symbols_of bs) ≡ cond (is_some u) 1 0
used_once bs None within = no_ones 0 (symbols_of bs)
used_once bs (Some m) within = one_one m 0 (symbols_of bs) (omega arith) (within m refl)

uses_listed : (bs : List BindingSite) (rs : List ReferenceSite) (n : ℕ) → listed_from n (map (symbol_used bs) rs) 0 (symbols_of bs) ≡ count_by (λ r. is_some r.symbol) (map (reference_at bs) rs)
uses_listed bs [] n = none_listed n 0 (symbols_of bs)
uses_listed bs (r ∷ rs) n =
    listed_more n (symbol_used bs r) (map (symbol_used bs) rs) 0 (symbols_of bs)
    ∙ (λ i. used_once bs (symbol_used bs r) (λ m h. used_within bs (binding_of bs r) m h) i + uses_listed bs rs (suc n) i)
    ∙ sym (sum_by-cons (λ x. cond (is_some x.symbol) 1 0) (reference_at bs r) (map (reference_at bs) rs))

symbols_list : (bs : List BindingSite) (uses : List (Option ℕ)) (next : ℕ) (xs : List Binding) → sum_by (λ s. length s.references) (symbols_from bs uses next xs) ≡ listed_from 0 uses next xs
unfolding listed_from
symbols_list bs uses next [] = refl
symbols_list bs uses next (x ∷ xs) =
    sum_by-cons (λ s. length s.references) (symbol_at bs uses next x) (symbols_from bs uses (suc next) xs) ∙ ap (λ n. length (references_to next 0 uses) + n) (symbols_list bs uses (suc next) xs)

pub listed_are : (bs : List BindingSite) (rs : List ReferenceSite) → sum_by (λ s. length s.references) (symbols_from bs (map (symbol_used bs) rs) 0 (symbols_of bs)) ≡ count_by (λ r. is_some r.symbol) (map (reference_at bs) rs)
listed_are bs rs = symbols_list bs (map (symbol_used bs) rs) 0 (symbols_of bs) ∙ uses_listed bs rs 0
