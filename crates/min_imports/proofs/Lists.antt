-- Lists of an import's names: which are such, how many of a sort they have, and the names of two lists.
use Rattle.std.proofs.Common.{◌≡◌, ◌∙◌, ◌<◌, ◌≤◌, ◌+◌, ◌==◌, ℕ, zero, suc, List, [], ◌∷◌, ◌++◌, Bool, true, false, true≢false, not, ◌&&◌, ◌||◌, Option, Some, None, nat_le, if◌then◌else◌, length, drop, get_or, refl, sym, ap, ap₂, arith}
use Rattle.std.specs.Cmp.{unsigned_Decides}
use Rattle.std.proofs.lemmas.Bool.{leb-true}
use Rattle.std.proofs.lemmas.List.{drop_all}
use Rattle.js_syntax.specs.declared.node_kind.NodeKind.{NodeKind as Kind}
use Rattle.js_syntax.specs.declared.node_kind.NodeKind.TheVariants.{BindingName as binding_name}
use Rattle.js_syntax.specs.Node.{Tree, Forest, Note, nothing, node, absent, joined, row}
use Rattle.js_tree.proofs.Rows.{front_of, joined_nothing, joined_assoc, row_push}
use Rattle.js_tree.proofs.Search.{AsksEach}
use Rattle.steps.specs.Steps.{binds_import}
use Rattle.steps.specs.Allowed.Arranged.{is_nothing}
use Rattle.steps.specs.Allowed.MergedImports.{is_one_name, are_names, is_default, is_namespace, is_named, how_many, all_named, first_default, but_first_default, as_named, go_together, names_merged}
use Rattle.min_imports.specs.declared.names.Sort.{Sort}
use Rattle.min_imports.specs.declared.names.Sort.TheVariants as sort
use Rattle.min_imports.specs.Merging.{is_of, item_is_of, joined_by, named_one}

-- ---- names

pub name_alone : (k : Kind) (n : Note) (t : Forest) (x : List ℕ) → k ≡ binding_name x → is_nothing t ≡ is_one_name (node k n t nothing)
name_alone k n t x is = empty t ∙ ap (λ l. is_one_name (node l n t nothing)) (sym is)
  where
    empty : (u : Forest) → is_nothing u ≡ is_one_name (node (binding_name x) n u nothing)
    empty nothing = refl
    empty (absent r) = refl
    empty (node l m b r) = refl

two_named : (k : Kind) (n : Note) (b : Forest) (y : Option Tree) (ts : List (Option Tree)) → false ≡ is_one_name (node k n b (row (y ∷ ts)))
two_named (binding_name x) n nothing None ts = refl
two_named (binding_name x) n nothing (Some y) ts = refl
two_named (binding_name x) n (absent r) None ts = refl
two_named (binding_name x) n (absent r) (Some y) ts = refl
two_named (binding_name x) n (node k m b r) None ts = refl
two_named (binding_name x) n (node k m b r) (Some y) ts = refl
two_named k n b None ts = refl
two_named k n b (Some y) ts = refl

pub two_items : (ts : List (Option Tree)) → 2 ≤ length ts → false ≡ is_one_name (row ts)
two_items [] h = absurd (Prim.omega (arith, h))
two_items (None ∷ ts) h = refl
two_items (Some x ∷ []) h = absurd (Prim.omega (arith, h))
two_items (Some x ∷ y ∷ ts) h = two_named x.kind x.note x.below y ts

abbrev pub has_other : Forest → Bool
has_other t = not (are_names t)

not_both : (a b c : Bool) → not (a && (b && c)) ≡ not (a && (b && true)) || not c
not_both true true c = refl
not_both true false c = refl
not_both false b c = refl

pub others_each : AsksEach has_other
others_each None ts = refl
others_each (Some x) ts = not_both (binds_import x.kind) (is_one_name x.below) (are_names (row ts))

-- ---- how many

pub many_joined : (test : Kind → Bool) (t u : Forest) → how_many test (joined t u) ≡ how_many test t + how_many test u
many_joined test nothing u = Prim.omega arith
many_joined test (absent r) u = many_joined test r u
many_joined test (node k n b r) u = Prim.omega (arith, many_joined test r u)

pub many_first : (s : Sort) (x : Option Tree) (ts : List (Option Tree)) → how_many (is_of s) (row (x ∷ ts)) ≡ (if item_is_of s x then 1 else 0) + how_many (is_of s) (row ts)
many_first s None ts = let none : how_many (is_of s) (row ts) ≡ 0 + how_many (is_of s) (row ts) = Prim.omega arith in none
many_first s (Some x) ts = refl

module _ (s : Sort) (xs : List (Option Tree)) (i : ℕ) where
  counted : (x : Option Tree) (is : Bool) → i < length xs → x ≡ get_or xs i x → item_is_of s x ≡ is → how_many (is_of s) (row (drop i xs)) ≡ (if is then 1 else 0) + how_many (is_of s) (row (drop (i + 1) xs))
  counted x is h at told = ap (λ l. how_many (is_of s) (row l)) (front_of xs i x h at) ∙ many_first s x (drop (i + 1) xs) ∙ ap (λ b. (if b then 1 else 0) + how_many (is_of s) (row (drop (i + 1) xs))) told

  pub one_more : (x : Option Tree) (c w : ℕ) → i < length xs → x ≡ get_or xs i x → item_is_of s x ≡ true → c + how_many (is_of s) (row (drop i xs)) ≡ w → c + 1 + how_many (is_of s) (row (drop (i + 1) xs)) ≡ w
  one_more x c w h at told so_far = Prim.omega (arith, counted x true h at told, so_far)

  pub none_more : (x : Option Tree) (c w : ℕ) → i < length xs → x ≡ get_or xs i x → item_is_of s x ≡ false → c + how_many (is_of s) (row (drop i xs)) ≡ w → c + how_many (is_of s) (row (drop (i + 1) xs)) ≡ w
  none_more x c w h at told so_far = Prim.omega (arith, counted x false h at told, so_far)

  pub all_counted : (c w : ℕ) → length xs ≤ i → c + how_many (is_of s) (row (drop i xs)) ≡ w → c ≡ w
  all_counted c w h so_far = Prim.omega (arith, ap (λ l. how_many (is_of s) (row l)) (drop_all i xs h), so_far)

-- ---- of two lists

is_so : (n m : ℕ) → n ≡ m → (n == m) ≡ true
is_so n m is = (unsigned_Decides n m).1 is

is_not : (n m : ℕ) → (n ≡ m → ⊥) → (n == m) ≡ false
is_not n m other = by (n == m) refl
  where
    by : (b : Bool) → (n == m) ≡ b → (n == m) ≡ false
    by true e = absurd (other ((unsigned_Decides n m).0 e))
    by false e = e

pub not_none : (a b : ℕ) → (a ≡ 0 → ⊥) → (a == 0) ≡ (a + b == 0)
not_none a b some = is_not a 0 some ∙ sym (is_not (a + b) 0 (λ e. some (Prim.omega (arith, e))))

pub not_one : (a b : ℕ) → (a ≡ 0 → ⊥) → (a ≡ 1 → ⊥) → (a == 1) ≡ (a + b == 1)
not_one a b some more = is_not a 1 more ∙ sym (is_not (a + b) 1 (λ e. by a some more e))
  where
    by : (c : ℕ) → (c ≡ 0 → ⊥) → (c ≡ 1 → ⊥) → c + b ≡ 1 → ⊥
    by zero some more e = some refl
    by (suc zero) some more e = more refl
    by (suc (suc c)) some more e = absurd (Prim.omega (arith, e))

pub none_behind : (a b : ℕ) → a ≡ 1 → (b == 0) ≡ (a + b == 1)
none_behind a b is = by b
  where
    by : (c : ℕ) → (c == 0) ≡ (a + c == 1)
    by zero = sym (is_so (a + 0) 1 (Prim.omega (arith, is)))
    by (suc c) = is_not (suc c) 0 (λ e. absurd (Prim.omega (arith, e))) ∙ sym (is_not (a + suc c) 1 (λ e. absurd (Prim.omega (arith, is, e))))

many : (n : ℕ) → (n ≤ 1 → ⊥) → nat_le n 1 ≡ false
many n more = by (nat_le n 1) refl
  where
    by : (b : Bool) → nat_le n 1 ≡ b → nat_le n 1 ≡ false
    by true e = absurd (more (leb-true n 1 e))
    by false e = e

at_most_one : (n : ℕ) → (n == 0) || (n == 1) ≡ nat_le n 1
at_most_one zero = refl
at_most_one (suc zero) = refl
at_most_one (suc (suc a)) =
    ap₂ (λ b c. b || c) (is_not (suc (suc a)) 0 (λ e. absurd (Prim.omega (arith, e)))) (is_not (suc (suc a)) 1 (λ e. absurd (Prim.omega (arith, e))))
    ∙ sym (many (suc (suc a)) (λ h. absurd (Prim.omega (arith, h))))

pub few_none : (n : ℕ) (b : Bool) → b ≡ (n == 0) → b ≡ true → true ≡ nat_le n 1
few_none n b is so = ap (λ c. c || (n == 1)) (sym so ∙ is) ∙ at_most_one n

pub few_one : (n : ℕ) (b c : Bool) → b ≡ (n == 0) → b ≡ false → c ≡ (n == 1) → c ≡ nat_le n 1
few_one n b c is some one = one ∙ ap (λ d. d || (n == 1)) (sym some ∙ is) ∙ at_most_one n

pub of_both : (s : Sort) (t u : Forest) (a b : ℕ) → a ≡ how_many (is_of s) t → b ≡ how_many (is_of s) u → a + b ≡ how_many (is_of s) (joined t u)
of_both s t u a b is be = ap₂ (λ (c d : ℕ). c + d) is be ∙ sym (many_joined (is_of s) t u)

-- which go together
pub apart : (t : Forest) (a : Bool) → a ≡ (how_many (is_of sort.Namespace) t == 0) → a ≡ true → true ≡ go_together t
apart t a is so = ap (λ c. c || ((how_many is_namespace t == 1) && ((how_many is_named t == 0) && nat_le (how_many is_default t) 1))) (sym so ∙ is)

pub beside : (t : Forest) (a b c d : Bool) → a ≡ (how_many (is_of sort.Namespace) t == 0) → a ≡ false → b ≡ (how_many (is_of sort.Namespace) t == 1) → c ≡ (how_many (is_of sort.Named) t == 0) → d ≡ nat_le (how_many (is_of sort.Default) t) 1
    → b && (c && d) ≡ go_together t
beside t a b c d is some bs cs ds =
    ap₂ (λ x y. x && (y && d)) bs cs
    ∙ ap (λ x. (how_many is_namespace t == 1) && ((how_many is_named t == 0) && x)) ds
    ∙ ap (λ x. x || ((how_many is_namespace t == 1) && ((how_many is_named t == 0) && nat_le (how_many is_default t) 1))) (sym some ∙ is)

-- ---- the names of both

stays_named : (k : Kind) → is_default k ≡ false → as_named k ≡ k
stays_named Kind.ImportDefaultSpecifier h = absurd cc
stays_named k h = refl

default_there : (x : Option Tree) (names rest : Forest) → item_is_of sort.Default x ≡ true → joined_by true (joined (row (x ∷ [])) names) rest ≡ joined_by false names (joined (row (x ∷ [])) rest)
default_there None names rest h = absurd cc
default_there (Some x) names rest h =
    ap₂ (λ b c. joined (if b then node x.kind x.note x.below nothing else first_default rest) (joined names (all_named (if c then rest else node x.kind x.note x.below (but_first_default rest))))) (sym h) (sym h)

-- a first default is put to the front
pub at_front : (x : Option Tree) (xs : List (Option Tree)) (rest : Forest) → item_is_of sort.Default x ≡ true → joined_by true (row (x ∷ xs)) rest ≡ joined_by false (row xs) (joined (row (x ∷ [])) rest)
at_front None xs rest h = absurd cc
at_front (Some x) xs rest h = default_there (Some x) (row xs) rest h

-- any other name to the end
behind_named : (x : Option Tree) (xs : List (Option Tree)) (rest : Forest) → joined (row (xs ++ named_one x ∷ [])) rest ≡ joined (row xs) (joined (row (named_one x ∷ [])) rest)
behind_named x xs rest = ap (λ t. joined t rest) (row_push xs (named_one x)) ∙ joined_assoc (row xs) (row (named_one x ∷ [])) rest

with_default : (x : Option Tree) (xs : List (Option Tree)) (rest : Forest) → joined_by true (row (xs ++ named_one x ∷ [])) rest ≡ joined_by true (row xs) (joined (row (x ∷ [])) rest)
with_default None xs rest = behind_named None xs (all_named rest)
with_default (Some x) xs rest = behind_named (Some x) xs (all_named rest)

without_default : (x : Option Tree) (xs : List (Option Tree)) (rest : Forest) → item_is_of sort.Default x ≡ false → joined_by false (row (xs ++ named_one x ∷ [])) rest ≡ joined_by false (row xs) (joined (row (x ∷ [])) rest)
without_default None xs rest h = ap (λ t. joined (first_default rest) t) (behind_named None xs (all_named (but_first_default rest)))
without_default (Some x) xs rest h =
    ap (λ t. joined (first_default rest) t) (behind_named (Some x) xs (all_named (but_first_default rest)))
    ∙ ap₂ (λ b c. joined (if b then node x.kind x.note x.below nothing else first_default rest) (joined (row xs) (all_named (if c then rest else node x.kind x.note x.below (but_first_default rest))))) (sym h) (sym h)

pub at_end : (has : Bool) (x : Option Tree) (xs : List (Option Tree)) (rest : Forest) → not has && item_is_of sort.Default x ≡ false → joined_by has (row (xs ++ named_one x ∷ [])) rest ≡ joined_by has (row xs) (joined (row (x ∷ [])) rest)
at_end true x xs rest h = with_default x xs rest
at_end false x xs rest h = without_default x xs rest h

pub none_later : (has : Bool) (t : Forest) → joined_by has t nothing ≡ t
none_later true t = joined_nothing t
none_later false t = joined_nothing t

first_default_goes : (b : Bool) (t u : Forest) → joined_by (not b) t u ≡ (if b then joined (first_default u) (joined t (all_named (but_first_default u))) else joined t (all_named u))
first_default_goes true t u = refl
first_default_goes false t u = refl

pub begins : (a : ℕ) (t u : Forest) → a ≡ how_many (is_of sort.Default) t → joined_by (not (a == 0)) t u ≡ names_merged t u
begins a t u is = ap (λ b. joined_by (not (b == 0)) t u) is ∙ first_default_goes (how_many is_default t == 0) t u

-- one more name is put
pub first_put : (has : Bool) (x : Option Tree) (xs ys : List (Option Tree)) (a : Bool) → a ≡ not has && item_is_of sort.Default x → a ≡ true → ys ≡ x ∷ xs → (rest : Forest) → joined_by true (row ys) rest ≡ joined_by has (row xs) (joined (row (x ∷ [])) rest)
first_put true x xs ys a is so put rest = absurd (true≢false (sym so ∙ is))
first_put false x xs ys a is so put rest = ap (λ l. joined_by true (row l) rest) put ∙ at_front x xs rest (sym is ∙ so)

pub next_put : (has : Bool) (x : Option Tree) (xs ys : List (Option Tree)) (a : Bool) → a ≡ not has && item_is_of sort.Default x → a ≡ false → ys ≡ xs ++ named_one x ∷ [] → (rest : Forest) → joined_by has (row ys) rest ≡ joined_by has (row xs) (joined (row (x ∷ [])) rest)
next_put has x xs ys a is so put rest = ap (λ l. joined_by has (row l) rest) put ∙ at_end has x xs rest (sym is ∙ so)

first_joined : (x : Option Tree) (ts : List (Option Tree)) → row (x ∷ ts) ≡ joined (row (x ∷ [])) (row ts)
first_joined None ts = refl
first_joined (Some x) ts = refl

pub put_more : (has was : Bool) (names before : Forest) (later : List (Option Tree)) (i : ℕ) (x : Option Tree) (w : Forest) → i < length later → x ≡ get_or later i x
    → joined_by has names (row (drop (i + 1) later)) ≡ joined_by was before (joined (row (x ∷ [])) (row (drop (i + 1) later))) → joined_by was before (row (drop i later)) ≡ w → joined_by has names (row (drop (i + 1) later)) ≡ w
put_more has was names before later i x w h is put so_far = put ∙ ap (joined_by was before) (sym (ap row (front_of later i x h is) ∙ first_joined x (drop (i + 1) later))) ∙ so_far

pub all_put : (has : Bool) (names : Forest) (later : List (Option Tree)) (i : ℕ) (w : Forest) → length later ≤ i → joined_by has names (row (drop i later)) ≡ w → names ≡ w
all_put has names later i w h so_far = sym (ap (λ l. joined_by has names (row l)) (drop_all i later h) ∙ none_later has names) ∙ so_far
