-- Bindings that are numbered in the order of their first declarations.
use Rattle.std.proofs.Common.{◌≡◌, ◌∙◌, ◌<◌, ◌≤◌, ◌+◌, ◌&&◌, ◌||◌, ℕ, suc, List, [], ◌∷◌, ◌++◌, Bool, true, false, Option, Some, None, is_some, if◌then◌else◌, length, get_or, drop, map, drop_of_length-le, append_assoc, append-nil, length-append, arith, refl, sym, ap, subst}
use Rattle.std.specs.Bool.{nat_eq}
use Rattle.std.specs.Str.{bytes_eq}
use Rattle.std.proofs.lemmas.Bool.Decides.{Decides-eqb}
use Rattle.std.proofs.lemmas.Slice.Eq.{bytes_eq-Decides}
use Rattle.js_tree.proofs.Rows.{front_of}
use Rattle.scope_rules.specs.Site.{BindingSite}
use Rattle.scope_rules.specs.Binding.{Binding, declared_by}
use Rattle.scope_rules.specs.Table.{same_flag, same_binding, is_among, new_behind, symbols_of, number_from}
use Rattle.js_syntax.proofs.Truth.{first_of_both, second_of_both}

-- ---- one binding or two

flags_same : (a b : Bool) → same_flag a b ≡ true → a ≡ b
flags_same true true h = refl
flags_same true false h = sym h
flags_same false true h = h
flags_same false false h = refl

flag_itself : (a : Bool) → same_flag a a ≡ true
flag_itself true = refl
flag_itself false = refl

pub same_is : (a b : Binding) → same_binding a b ≡ true → a ≡ b
same_is a b h =
    let scopes : a.scope ≡ b.scope = (Decides-eqb a.scope b.scope).0 (first_of_both (nat_eq a.scope b.scope) (same_flag a.is_own b.is_own) (first_of_both (nat_eq a.scope b.scope && same_flag a.is_own b.is_own) (bytes_eq a.name b.name) h)) in
    let flags : a.is_own ≡ b.is_own = flags_same a.is_own b.is_own (second_of_both (nat_eq a.scope b.scope) (same_flag a.is_own b.is_own) (first_of_both (nat_eq a.scope b.scope && same_flag a.is_own b.is_own) (bytes_eq a.name b.name) h)) in
    let names : a.name ≡ b.name = (bytes_eq-Decides a.name b.name).0 (second_of_both (nat_eq a.scope b.scope && same_flag a.is_own b.is_own) (bytes_eq a.name b.name) h) in
    λ i. record { scope = scopes i; is_own = flags i; name = names i }

pub same_itself : (a : Binding) → same_binding a a ≡ true
same_itself a =
    ap (λ x. x && same_flag a.is_own a.is_own && bytes_eq a.name a.name) ((Decides-eqb a.scope a.scope).1 refl)
    ∙ ap (λ x. x && bytes_eq a.name a.name) (flag_itself a.is_own)
    ∙ (bytes_eq-Decides a.name a.name).1 refl

-- ---- numbers

pub number_other : (k : ℕ) (xs : List Binding) (b q : Binding) → same_binding b q ≡ false → number_from k (xs ++ b ∷ []) q ≡ number_from k xs q
number_other k [] b q h = ap (λ x. if x then Some k else None) h
number_other k (x ∷ xs) b q h = ap (λ n. if same_binding x q then Some k else n) (number_other (suc k) xs b q h)

pub count_up : (k n : ℕ) → Some (suc k + n) ≡ Some (k + suc n)
count_up k n = ap (λ m. Some m) (omega arith)

pub number_last : (k : ℕ) (xs : List Binding) (b : Binding) → number_from k xs b ≡ None → number_from k (xs ++ b ∷ []) b ≡ Some (k + length xs)
number_last k [] b h = ap (λ x. if x then Some k else None) (same_itself b) ∙ ap (λ m. Some m) (omega arith)
number_last k (x ∷ xs) b h =
    elim (same_binding x b) as (λ c. (if c then Some k else number_from (suc k) xs b) ≡ None → (if c then Some k else number_from (suc k) (xs ++ b ∷ []) b) ≡ Some (k + suc (length xs)))
    [ true ↦ λ impossible. cc | false ↦ λ none. number_last (suc k) xs b none ∙ count_up k (length xs) ] h

pub number_among : (k : ℕ) (xs : List Binding) (b : Binding) → is_some (number_from k xs b) ≡ is_among b xs
number_among k [] b = refl
number_among k (x ∷ xs) b =
    elim (same_binding x b) as (λ c. is_some (if c then Some k else number_from (suc k) xs b) ≡ c || is_among b xs) [ true ↦ refl | false ↦ number_among (suc k) xs b ]

-- ---- numbering, one declaration after another

-- the bindings that the first declarations declare, with their numbers
pub record AreNumbered (sites : List BindingSite) (i : ℕ) (numbers : Binding → Option ℕ) (firsts : List Binding) : Type 0 where
  pub seen : List Binding
  pub known : (q : Binding) → is_some (numbers q) ≡ is_among q seen
  pub numbered : (q : Binding) → numbers q ≡ number_from 0 firsts q
  pub whole : firsts ++ new_behind seen (map declared_by (drop i sites)) ≡ symbols_of sites
  pub few : length firsts ≤ i

one_number : (k : ℕ) (firsts : List Binding) (b q : Binding) (known : Option ℕ) (same : Bool) → same_binding b q ≡ same → number_from 0 firsts b ≡ None → known ≡ number_from 0 firsts q
    → (if same then Some (length firsts) else known) ≡ number_from 0 (firsts ++ b ∷ []) q
one_number k firsts b q known true same none is =
    subst (λ r. Some (length firsts) ≡ number_from 0 (firsts ++ b ∷ []) r) (same_is b q same) (ap (λ m. Some m) (omega arith) ∙ sym (number_last 0 firsts b none))
one_number k firsts b q known false other none is = is ∙ sym (number_other 0 firsts b q other)

one_known : (b q : Binding) (seen : List Binding) (n : ℕ) (known : Option ℕ) (same : Bool) → same_binding b q ≡ same → is_some known ≡ is_among q seen
    → is_some (if same then Some n else known) ≡ is_among q (b ∷ seen)
one_known b q seen n known true same is = sym (ap (λ c. c || is_among q seen) same)
one_known b q seen n known false other is = is ∙ sym (ap (λ c. c || is_among q seen) other)

pub is_none : (n : Option ℕ) → is_some n ≡ false → n ≡ None
is_none None h = refl
is_none (Some k) h = cc

step : (sites : List BindingSite) (i : ℕ) (s : BindingSite) (numbers after : Binding → Option ℕ) (firsts more : List Binding) (c : Bool) → i < length sites → s ≡ get_or sites i s
    → is_some (numbers (declared_by s)) ≡ c
    → more ≡ (if c then firsts else firsts ++ declared_by s ∷ [])
    → ((q : Binding) → after q ≡ (if c then numbers q else if same_binding (declared_by s) q then Some (length firsts) else numbers q))
    → AreNumbered sites i numbers firsts → AreNumbered sites (i + 1) after more
step sites i s numbers after firsts more true within at has firsts_are numbers_are n =
    let b = declared_by s in
    let rest = map declared_by (drop (i + 1) sites) in
    record {
      seen = n.seen;
      known = λ q. ap is_some (numbers_are q) ∙ n.known q;
      numbered = λ q. numbers_are q ∙ n.numbered q ∙ ap (λ f. number_from 0 f q) (sym firsts_are);
      whole = ap (λ f. f ++ new_behind n.seen rest) firsts_are
          ∙ sym (ap (λ x. firsts ++ (if x then new_behind n.seen rest else b ∷ new_behind (b ∷ n.seen) rest)) (sym (n.known b) ∙ has))
          ∙ sym (ap (λ ds. firsts ++ new_behind n.seen (map declared_by ds)) (front_of sites i s within at)) ∙ n.whole;
      few = omega (arith, ap length firsts_are, n.few);
    }
step sites i s numbers after firsts more false within at has firsts_are numbers_are n =
    let b = declared_by s in
    let rest = map declared_by (drop (i + 1) sites) in
    let none : number_from 0 firsts b ≡ None = sym (n.numbered b) ∙ is_none (numbers b) has in
    record {
      seen = b ∷ n.seen;
      known = λ q. ap is_some (numbers_are q) ∙ one_known b q n.seen (length firsts) (numbers q) (same_binding b q) refl (n.known q);
      numbered = λ q. numbers_are q ∙ one_number 0 firsts b q (numbers q) (same_binding b q) refl none (n.numbered q) ∙ ap (λ f. number_from 0 f q) (sym firsts_are);
      whole = ap (λ f. f ++ new_behind (b ∷ n.seen) rest) firsts_are ∙ append_assoc firsts (b ∷ []) (new_behind (b ∷ n.seen) rest)
          ∙ sym (ap (λ x. firsts ++ (if x then new_behind n.seen rest else b ∷ new_behind (b ∷ n.seen) rest)) (sym (n.known b) ∙ has))
          ∙ sym (ap (λ ds. firsts ++ new_behind n.seen (map declared_by ds)) (front_of sites i s within at)) ∙ n.whole;
      few = omega (arith, ap length firsts_are, length-append firsts (b ∷ []), n.few);
    }

pub numbered_more : (sites : List BindingSite) (i : ℕ) (s : BindingSite) (b : Binding) (numbers after : Binding → Option ℕ) (firsts more : List Binding) → i < length sites → s ≡ get_or sites i s
    → b ≡ declared_by s
    → more ≡ (if is_some (numbers b) then firsts else firsts ++ b ∷ [])
    → ((q : Binding) → after q ≡ (if is_some (numbers b) then numbers q else if same_binding b q then Some (length firsts) else numbers q))
    → AreNumbered sites i numbers firsts → AreNumbered sites (i + 1) after more
numbered_more sites i s b numbers after firsts more within at is firsts_are numbers_are n =
    step sites i s numbers after firsts more (is_some (numbers (declared_by s))) within at refl (subst (λ d. more ≡ (if is_some (numbers d) then firsts else firsts ++ d ∷ [])) is firsts_are)
    (λ q. subst (λ d. after q ≡ (if is_some (numbers d) then numbers q else if same_binding d q then Some (length firsts) else numbers q)) is (numbers_are q)) n

pub numbered_none : (sites : List BindingSite) (numbers : Binding → Option ℕ) → ((q : Binding) → numbers q ≡ None) → AreNumbered sites 0 numbers []
numbered_none sites numbers none = record { seen = []; known = λ q. ap is_some (none q); numbered = none; whole = refl; few = omega arith }

pub numbered_all : (sites : List BindingSite) (i : ℕ) (numbers : Binding → Option ℕ) (firsts : List Binding) → length sites ≤ i → AreNumbered sites i numbers firsts → firsts ≡ symbols_of sites
numbered_all sites i numbers firsts past n =
    sym (append-nil firsts) ∙ ap (λ ds. firsts ++ new_behind n.seen (map declared_by ds)) (sym (drop_of_length-le sites past)) ∙ n.whole
