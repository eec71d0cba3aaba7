-- The table that is made of a tree matches the tree once it is marked.
use Rattle.std.proofs.Common.{◌≡◌, ◌∙◌, ◌<◌, ◌≤◌, ◌+◌, ◌||◌, ◌&&◌, ℕ, zero, suc, List, [], ◌∷◌, ◌++◌, map, length, drop, not, nat_eq, Bool, true, false, true≢false, slice_index_or, Option, Some, None, option_map, option_and_then, if◌then◌else◌, bytes_eq, inl, inr, refl, sym, ap, ap₂, subst, arith}
use Rattle.std.proofs.lemmas.Slice.Eq.{bytes_eq-Decides}
use Rattle.js_syntax.specs.Node.{Forest}
use Rattle.scope_rules.specs.Site.{ScopeSite, BindingSite, ReferenceSite, Found, found_in, sites_of}
use Rattle.scope_rules.specs.Binding.{Binding, declared_by, binding_of}
use Rattle.scope_rules.specs.Table.{Named, Scope, Symbol, Reference, Redeclaration, Unresolved, new_behind, symbols_of, symbol_of, number_from, symbol_used, symbol_declared, symbols_declared, is_number, redeclaration, declarations_of, joined_bits, if_several, is_pure_alone, references_to, is_hidden, names_from, scopes_from, symbols_from, reference_at, unless_bound, unbound_name, is_named, names_behind, name_number, unresolved_from, unresolved_among, scoping_of, number_or_none}
use Rattle.scope_rules.specs.Mark.{first_marks, marked}
use Rattle.scope_laws.specs.Renumbered.{reference_with, scopes_from as scopes_marked, bindings_with, references_from, found_renumbered}
use Rattle.scope_laws.specs.Exact.{Among, NoneTwice}
use Rattle.scope_laws.proofs.Bindings.{same_binding_of}
use Rattle.scope_laws.proofs.Among.{among_cases}
use Rattle.scope_laws.proofs.Marking.{found_marked}
use Rattle.scope_laws.proofs.Numbers.{listed_once}
use Rattle.scope_table.specs.Reading.{no_scope, no_symbol, scope_at, reference_at as entry_at, symbol_at as symbol_numbered}
use Rattle.scope_match.specs.Items.{SameItems}
use Rattle.scope_match.specs.Matches.{Marks, AreMarked, mark_at, marks_at, named_by, Use, use_of, uses_in, use_by, SameScope, SameSymbol, SameReference, SameUnresolved, SameTable, MatchesFound, Matches}
use Rattle.scope_match.proofs.Only.{length_symbols}
use Rattle.js_syntax.proofs.Truth.{second_of_neither, first_of_neither}

-- ---- marks in order

abbrev counting : {A : Type 0} → ℕ → List A → List ℕ
counting n [] = []
counting n (x ∷ xs) = n ∷ counting (n + 1) xs

itself : {A : Type 0} (k : ℕ) (xs : List A) (n : ℕ) → slice_index_or (counting k xs) n (k + n) ≡ k + n
itself k [] zero = refl
itself k [] (suc n) = refl
itself k (x ∷ xs) zero = Prim.omega arith
itself k (x ∷ xs) (suc n) =
    let e : k + suc n ≡ (k + 1) + n = Prim.omega arith in
    ap (λ (d : ℕ). slice_index_or (counting (k + 1) xs) n d) e ∙ itself (k + 1) xs n ∙ sym e

at_itself : {A : Type 0} (xs : List A) (n : ℕ) → mark_at (counting 0 xs) n ≡ n
at_itself xs n =
    let e : n ≡ 0 + n = Prim.omega arith in
    ap (λ (d : ℕ). slice_index_or (counting 0 xs) n d) e ∙ itself 0 xs n ∙ sym e

later : {A : Type 0} (n k : ℕ) (xs : List A) → Among k (counting n xs) → n ≤ k
later n k [] h = absurd h
later n k (x ∷ xs) (inl e) = Prim.omega (arith, e)
later n k (x ∷ xs) (inr h) = Prim.omega (arith, later (n + 1) k xs h)

counting_once : {A : Type 0} (n : ℕ) (xs : List A) → NoneTwice (counting n xs)
counting_once n [] = tt
counting_once n (x ∷ xs) = (λ h. Prim.omega (arith, later (n + 1) n xs h), counting_once (n + 1) xs)

length_counting : {A : Type 0} (n : ℕ) (xs : List A) → length (counting n xs) ≡ length xs
length_counting n [] = refl
length_counting n (x ∷ xs) = ap suc (length_counting (n + 1) xs)

scope_ids : (n : ℕ) (ss : List ScopeSite) → map (λ (s : ScopeSite). s.id) (scopes_marked n ss) ≡ map Some (counting n ss)
scope_ids n [] = refl
scope_ids n (s ∷ ss) = ap (λ xs. Some n ∷ xs) (scope_ids (n + 1) ss)

reference_ids : (n : ℕ) (rs : List ReferenceSite) → map (λ (r : ReferenceSite). r.id) (references_from n rs) ≡ map Some (counting n rs)
reference_ids n [] = refl
reference_ids n (r ∷ rs) = ap (λ xs. Some n ∷ xs) (reference_ids (n + 1) rs)

binding_ids : (h : BindingSite → ℕ) (bs : List BindingSite) → map (λ (b : BindingSite). b.id) (bindings_with (map h bs) bs) ≡ map Some (map h bs)
binding_ids h [] = refl
binding_ids h (b ∷ bs) = ap (λ xs. Some (h b) ∷ xs) (binding_ids h bs)

map_alike : {A B : Type 0} (f g : A → B) → ((x : A) → f x ≡ g x) → (xs : List A) → map f xs ≡ map g xs
map_alike f g e [] = refl
map_alike f g e (x ∷ xs) = ap₂ (λ y ys. y ∷ ys) (e x) (map_alike f g e xs)

map_itself : {A : Type 0} (f : A → A) → ((x : A) → f x ≡ x) → (xs : List A) → map f xs ≡ xs
map_itself f e [] = refl
map_itself f e (x ∷ xs) = ap₂ (λ y ys. y ∷ ys) (e x) (map_itself f e xs)

option_itself : (f : ℕ → ℕ) → ((n : ℕ) → f n ≡ n) → (o : Option ℕ) → o ≡ option_map f o
option_itself f e None = refl
option_itself f e (Some n) = ap Some (sym (e n))

-- ---- marks do not change the table

declared_same : (symbols : List ℕ) (bs : List BindingSite) → map declared_by (bindings_with symbols bs) ≡ map declared_by bs
declared_same symbols [] = refl
declared_same symbols (b ∷ bs) = ap (λ xs. declared_by b ∷ xs) (declared_same (drop 1 symbols) bs)

symbols_same : (symbols : List ℕ) (bs : List BindingSite) → symbols_of (bindings_with symbols bs) ≡ symbols_of bs
symbols_same symbols bs = ap (new_behind []) (declared_same symbols bs)

used_same : (symbols : List ℕ) (bs : List BindingSite) (id : Option ℕ) (r : ReferenceSite) → symbol_used (bindings_with symbols bs) (reference_with id r) ≡ symbol_used bs r
used_same symbols bs id r =
    ap (λ all. option_and_then (λ b. number_from 0 all b) (binding_of (bindings_with symbols bs) r)) (symbols_same symbols bs) ∙ ap (option_and_then (symbol_of bs)) (same_binding_of symbols bs r)

uses_same : (symbols : List ℕ) (bs : List BindingSite) (n : ℕ) (rs : List ReferenceSite) → map (symbol_used (bindings_with symbols bs)) (references_from n rs) ≡ map (symbol_used bs) rs
uses_same symbols bs n [] = refl
uses_same symbols bs n (r ∷ rs) = ap₂ (λ y ys. y ∷ ys) (used_same symbols bs (Some n) r) (uses_same symbols bs (n + 1) rs)

abbrev entry : ReferenceSite → Option ℕ → Reference
entry r symbol = record { scope = r.scope; symbol = symbol; flags = r.flags }

entries_same : (symbols : List ℕ) (bs : List BindingSite) (n : ℕ) (rs : List ReferenceSite) → map (reference_at (bindings_with symbols bs)) (references_from n rs) ≡ map (reference_at bs) rs
entries_same symbols bs n [] = refl
entries_same symbols bs n (r ∷ rs) = ap₂ (λ o ys. entry r o ∷ ys) (used_same symbols bs (Some n) r) (entries_same symbols bs (n + 1) rs)

unbound_same : (symbols : List ℕ) (bs : List BindingSite) (n : ℕ) (rs : List ReferenceSite) → map (unbound_name (bindings_with symbols bs)) (references_from n rs) ≡ map (unbound_name bs) rs
unbound_same symbols bs n [] = refl
unbound_same symbols bs n (r ∷ rs) = ap₂ (λ o ys. unless_bound o r.name ∷ ys) (used_same symbols bs (Some n) r) (unbound_same symbols bs (n + 1) rs)

declarations_same : (some all : List BindingSite) → symbols_of some ≡ symbols_of all → (n : ℕ) (symbols : List ℕ) (ss : List BindingSite) → declarations_of some n (bindings_with symbols ss) ≡ declarations_of all n ss
declarations_same some all same n symbols [] = refl
declarations_same some all same n symbols (s ∷ ss) =
    ap₂ (λ (t : Bool) xs. if t then redeclaration s ∷ xs else xs) (ap (λ l. is_number n (number_from 0 l (declared_by s))) same) (declarations_same some all same n (drop 1 symbols) ss)

abbrev symbol_made : (uses : List (Option ℕ)) → ℕ → Binding → List Redeclaration → Symbol
symbol_made uses n b ds = record { name = b.name; flags = joined_bits 0 ds; scope = b.scope; redeclarations = if_several ds; references = references_to n 0 uses; is_pure = is_pure_alone ds }

made_same : (symbols : List ℕ) (bs : List BindingSite) (uses : List (Option ℕ)) (n : ℕ) (all : List Binding) → symbols_from (bindings_with symbols bs) uses n all ≡ symbols_from bs uses n all
made_same symbols bs uses n [] = refl
made_same symbols bs uses n (b ∷ all) =
    ap₂ (λ ds ys. symbol_made uses n b ds ∷ ys) (declarations_same (bindings_with symbols bs) bs (symbols_same symbols bs) n symbols bs) (made_same symbols bs uses (suc n) all)

abbrev scope_made : List Binding → ℕ → ScopeSite → Scope
scope_made all n s = record { parent = s.parent; flags = s.flags; bindings = names_from all n 0 all }

scopes_same : (all : List Binding) (k n : ℕ) (ss : List ScopeSite) → scopes_from all k (scopes_marked n ss) ≡ scopes_from all k ss
scopes_same all k n [] = refl
scopes_same all k n (s ∷ ss) = ap (λ xs. scope_made all k s ∷ xs) (scopes_same all (suc k) (n + 1) ss)

abbrev numbered : Found → Found
numbered f = found_renumbered (first_marks (symbols_declared f.bindings)) f

pub table_same : (f : Found) → scoping_of (numbered f) ≡ scoping_of f
table_same f =
    let symbols = symbols_declared f.bindings in
    let bs = f.bindings in
    let gb = bindings_with symbols bs in
    let scopes : scopes_from (symbols_of gb) 0 (scopes_marked 0 f.scopes) ≡ scopes_from (symbols_of bs) 0 f.scopes =
    ap (λ all. scopes_from all 0 (scopes_marked 0 f.scopes)) (symbols_same symbols bs) ∙ scopes_same (symbols_of bs) 0 0 f.scopes in
    let made : symbols_from gb (map (symbol_used gb) (references_from 0 f.references)) 0 (symbols_of gb) ≡ symbols_from bs (map (symbol_used bs) f.references) 0 (symbols_of bs) =
    ap₂ (λ uses all. symbols_from gb uses 0 all) (uses_same symbols bs 0 f.references) (symbols_same symbols bs) ∙ made_same symbols bs (map (symbol_used bs) f.references) 0 (symbols_of bs) in
    let unresolved = ap unresolved_among (unbound_same symbols bs 0 f.references) in
    λ i. record { scopes = scopes i; symbols = made i; references = entries_same symbols bs 0 f.references i; unresolved = unresolved i }

declared_numbers : (symbols : List ℕ) (ss : List BindingSite) (some all : List Binding) → some ≡ all
    → map (λ (s : BindingSite). number_or_none (number_from 0 some (declared_by s))) (bindings_with symbols ss) ≡ map (λ (s : BindingSite). number_or_none (number_from 0 all (declared_by s))) ss
declared_numbers symbols [] some all e = refl
declared_numbers symbols (s ∷ ss) some all e = ap₂ (λ y ys. y ∷ ys) (ap (λ l. number_or_none (number_from 0 l (declared_by s))) e) (declared_numbers (drop 1 symbols) ss some all e)

pub numbers_same : (symbols : List ℕ) (bs : List BindingSite) → symbols_declared (bindings_with symbols bs) ≡ symbols_declared bs
numbers_same symbols bs = declared_numbers symbols bs (symbols_of (bindings_with symbols bs)) (symbols_of bs) (symbols_same symbols bs)

-- ---- nothing stands twice

named_if : (next : ℕ) (x : Named) (b : Binding) (rest : List Named) (t : Bool) → (Among x rest → suc next ≤ x.symbol)
    → Among x (if t then record { name = b.name; symbol = next } ∷ rest else rest) → next ≤ x.symbol
named_if next x b rest true h (inl e) = Prim.omega (arith, ap (λ (n : Named). n.symbol) e)
named_if next x b rest true h (inr k) = Prim.omega (arith, h k)
named_if next x b rest false h k = Prim.omega (arith, h k)

named_later : (all : List Binding) (scope next : ℕ) (bs : List Binding) (x : Named) → Among x (names_from all scope next bs) → next ≤ x.symbol
named_later all scope next [] x h = absurd h
named_later all scope next (b ∷ bs) x h =
    named_if next x b (names_from all scope (suc next) bs) (nat_eq b.scope scope && not (is_hidden all b)) (named_later all scope (suc next) bs x) h

once_if : (next : ℕ) (b : Binding) (rest : List Named) (t : Bool) → ((x : Named) → Among x rest → suc next ≤ x.symbol) → NoneTwice rest
    → NoneTwice (if t then record { name = b.name; symbol = next } ∷ rest else rest)
once_if next b rest true h once = (λ k. Prim.omega (arith, h (record { name = b.name; symbol = next }) k), once)
once_if next b rest false h once = once

names_once : (all : List Binding) (scope next : ℕ) (bs : List Binding) → NoneTwice (names_from all scope next bs)
names_once all scope next [] = tt
names_once all scope next (b ∷ bs) =
    once_if next b (names_from all scope (suc next) bs) (nat_eq b.scope scope && not (is_hidden all b)) (named_later all scope (suc next) bs) (names_once all scope (suc next) bs)

scope_once : (all : List Binding) (k : ℕ) (ss : List ScopeSite) (n : ℕ) → NoneTwice (slice_index_or (scopes_from all k ss) n no_scope).bindings
scope_once all k [] zero = tt
scope_once all k [] (suc n) = tt
scope_once all k (s ∷ ss) zero = names_once all k 0 all
scope_once all k (s ∷ ss) (suc n) = scope_once all (suc k) ss n

symbol_once : (bs : List BindingSite) (uses : List (Option ℕ)) (k : ℕ) (all : List Binding) (n : ℕ) → NoneTwice (slice_index_or (symbols_from bs uses k all) n no_symbol).references
symbol_once bs uses k [] zero = tt
symbol_once bs uses k [] (suc n) = tt
symbol_once bs uses k (b ∷ all) zero = listed_once k 0 uses
symbol_once bs uses k (b ∷ all) (suc n) = symbol_once bs uses (suc k) all n

unseen_if : (seen : List (List ℕ)) (y x : List ℕ) (same more : List (List ℕ)) (t : Bool) → is_named seen y ≡ t → (Among x same → is_named seen x ≡ false)
    → (Among x more → is_named (y ∷ seen) x ≡ false) → Among x (if t then same else y ∷ more) → is_named seen x ≡ false
unseen_if seen y x same more true is h k a = h a
unseen_if seen y x same more false is h k (inl e) = ap (is_named seen) (sym e) ∙ is
unseen_if seen y x same more false is h k (inr a) = second_of_neither (bytes_eq y x) (is_named seen x) (k a)

unseen : (seen : List (List ℕ)) (us : List (Option (List ℕ))) (x : List ℕ) → Among x (names_behind seen us) → is_named seen x ≡ false
unseen seen [] x h = absurd h
unseen seen (None ∷ us) x h = unseen seen us x h
unseen seen (Some y ∷ us) x h = unseen_if seen y x (names_behind seen us) (names_behind (y ∷ seen) us) (is_named seen y) refl (unseen seen us x) (unseen (y ∷ seen) us x) h

behind_if : (seen : List (List ℕ)) (y : List ℕ) (same more : List (List ℕ)) (t : Bool) → (Among y more → is_named (y ∷ seen) y ≡ false) → NoneTwice same → NoneTwice more
    → NoneTwice (if t then same else y ∷ more)
behind_if seen y same more true h once others = once
behind_if seen y same more false h once others = (λ a. true≢false (sym ((bytes_eq-Decides y y).1 refl) ∙ first_of_neither (bytes_eq y y) (is_named seen y) (h a)), others)

behind_once : (seen : List (List ℕ)) (us : List (Option (List ℕ))) → NoneTwice (names_behind seen us)
behind_once seen [] = tt
behind_once seen (None ∷ us) = behind_once seen us
behind_once seen (Some y ∷ us) = behind_if seen y (names_behind seen us) (names_behind (y ∷ seen) us) (is_named seen y) (unseen (y ∷ seen) us y) (behind_once seen us) (behind_once (y ∷ seen) us)

abbrev names_of : List Unresolved → List (List ℕ)
names_of us = map (λ (u : Unresolved). u.name) us

unresolved_names : (uses : List (Option ℕ)) (k : ℕ) (names : List (List ℕ)) → names_of (unresolved_from uses k names) ≡ names
unresolved_names uses k [] = refl
unresolved_names uses k (x ∷ xs) = ap (λ ys. x ∷ ys) (unresolved_names uses (suc k) xs)

each_once : (uses : List (Option ℕ)) (k : ℕ) (names : List (List ℕ)) (u : Unresolved) → Among u (unresolved_from uses k names) → NoneTwice u.references
each_once uses k [] u h = absurd h
each_once uses k (x ∷ xs) u (inl e) = subst (λ (u : Unresolved). NoneTwice u.references) e (listed_once k 0 uses)
each_once uses k (x ∷ xs) u (inr h) = each_once uses (suc k) xs u h

use_name : (x : List ℕ) (rs : List ℕ) (u : Use) → Among u (map (use_of x) rs) → x ≡ u.name
use_name x [] u h = absurd h
use_name x (r ∷ rs) u (inl e) = ap (λ (u : Use). u.name) e
use_name x (r ∷ rs) u (inr h) = use_name x rs u h

use_reference : (x : List ℕ) (rs : List ℕ) (r : ℕ) → Among (use_of x r) (map (use_of x) rs) → Among r rs
use_reference x [] r h = absurd h
use_reference x (q ∷ rs) r (inl e) = inl (ap (λ (u : Use). u.reference) e)
use_reference x (q ∷ rs) r (inr h) = inr (use_reference x rs r h)

mapped_once : (x : List ℕ) (rs : List ℕ) → NoneTwice rs → NoneTwice (map (use_of x) rs)
mapped_once x [] h = tt
mapped_once x (r ∷ rs) h = (λ a. h.0 (use_reference x rs r a), mapped_once x rs h.1)

append_once : {X : Type 0} (xs ys : List X) → NoneTwice xs → NoneTwice ys → ((x : X) → Among x xs → Among x ys → ⊥) → NoneTwice (xs ++ ys)
append_once [] ys h k apart = k
append_once (x ∷ xs) ys h k apart = (
  λ a. elim (among_cases x xs ys a) [
    | inl b ↦ h.0 b
    | inr b ↦ apart x (inl refl) b
  ],
  append_once xs ys h.1 k (λ y b. apart y (inr b)),
)

uses_named : (us : List Unresolved) (u : Use) → Among u (uses_in us) → Among u.name (names_of us)
uses_named [] u h = absurd h
uses_named (v ∷ us) u h = elim (among_cases u (map (use_of v.name) v.references) (uses_in us) h) [
  | inl a ↦ inl (use_name v.name v.references u a)
  | inr a ↦ inr (uses_named us u a)
]

uses_once : (us : List Unresolved) → NoneTwice (names_of us) → ((u : Unresolved) → Among u us → NoneTwice u.references) → NoneTwice (uses_in us)
uses_once [] h each = tt
uses_once (v ∷ us) h each =
    append_once (map (use_of v.name) v.references) (uses_in us) (mapped_once v.name v.references (each v (inl refl))) (uses_once us h.1 (λ u a. each u (inr a)))
    (λ u a b. h.0 (subst (λ x. Among x (names_of us)) (sym (use_name v.name v.references u a)) (uses_named us u b)))

-- ---- every entry says the same

same_as : {X : Type 0} (xs ys : List X) → NoneTwice xs → ys ≡ xs → SameItems xs ys
same_as xs ys once e = subst (SameItems xs) (sym e) (once, λ x. (λ h. h, λ h. h))

abbrev in_order : Found → Marks
in_order f = record { scopes = counting 0 f.scopes; symbols = counting 0 (symbols_of f.bindings); references = counting 0 f.references }

scope_same : (f : Found) (n : ℕ) → n < length (scoping_of f).scopes → SameScope (in_order f) (scoping_of f) (scoping_of f) n
scope_same f n within =
    let t = scoping_of f in
    let e = at_itself f.scopes n in
    let at = mark_at (counting 0 f.scopes) n in
    record {
      stands = subst (λ a. a < length t.scopes) (sym e) within;
      parent = ap (λ a. (scope_at t a).parent) e ∙ option_itself (mark_at (counting 0 f.scopes)) (at_itself f.scopes) (scope_at t n).parent;
      flags = ap (λ a. (scope_at t a).flags) e;
      bindings = same_as (scope_at t at).bindings (map (named_by (counting 0 (symbols_of f.bindings))) (scope_at t n).bindings) (scope_once (symbols_of f.bindings) 0 f.scopes at)
          (map_itself (named_by (counting 0 (symbols_of f.bindings))) (λ x. ap (λ (k : ℕ). named x.name k) (at_itself (symbols_of f.bindings) x.symbol)) (scope_at t n).bindings
          ∙ ap (λ a. (scope_at t a).bindings) (sym e));
    }
  where
    named : List ℕ → ℕ → Named
    named x k = record { name = x; symbol = k }

symbol_same : (f : Found) (n : ℕ) → n < length (scoping_of f).symbols → SameSymbol (in_order f) (scoping_of f) (scoping_of f) n
symbol_same f n within =
    let t = scoping_of f in
    let e = at_itself (symbols_of f.bindings) n in
    let at = mark_at (counting 0 (symbols_of f.bindings)) n in
    record {
      stands = subst (λ a. a < length t.symbols) (sym e) within;
      name = ap (λ a. (symbol_numbered t a).name) e;
      flags = ap (λ a. (symbol_numbered t a).flags) e;
      scope = ap (λ a. (symbol_numbered t a).scope) e ∙ sym (at_itself f.scopes (symbol_numbered t n).scope);
      redeclarations = ap (λ a. (symbol_numbered t a).redeclarations) e;
      is_pure = ap (λ a. (symbol_numbered t a).is_pure) e;
      references = same_as (symbol_numbered t at).references (marks_at (counting 0 f.references) (symbol_numbered t n).references) (symbol_once f.bindings (map (symbol_used f.bindings) f.references) 0 (symbols_of f.bindings) at)
          (map_itself (mark_at (counting 0 f.references)) (at_itself f.references) (symbol_numbered t n).references ∙ ap (λ a. (symbol_numbered t a).references) (sym e));
    }

reference_same : (f : Found) (n : ℕ) → n < length (scoping_of f).references → SameReference (in_order f) (scoping_of f) (scoping_of f) n
reference_same f n within =
    let t = scoping_of f in
    let e = at_itself f.references n in
    record {
      stands = subst (λ a. a < length t.references) (sym e) within;
      scope = ap (λ a. (entry_at t a).scope) e ∙ sym (at_itself f.scopes (entry_at t n).scope);
      symbol = ap (λ a. (entry_at t a).symbol) e ∙ option_itself (mark_at (counting 0 (symbols_of f.bindings))) (at_itself (symbols_of f.bindings)) (entry_at t n).symbol;
      flags = ap (λ a. (entry_at t a).flags) e;
    }

unresolved_same : (marks : List ℕ) → ((n : ℕ) → mark_at marks n ≡ n) → (us : List (Option (List ℕ))) → SameUnresolved marks (unresolved_among us) (unresolved_among us)
unresolved_same marks e us =
    let names = names_behind [] us in
    let uses = map (λ u. option_and_then (name_number 0 names) u) us in
    let once : NoneTwice (names_of (unresolved_among us)) = subst NoneTwice (sym (unresolved_names uses 0 names)) (behind_once [] us) in
    record {
      names = same_as (names_of (unresolved_among us)) (names_of (unresolved_among us)) once refl;
      uses = same_as (uses_in (unresolved_among us)) (map (use_by marks) (uses_in (unresolved_among us))) (uses_once (unresolved_among us) once (each_once uses 0 names))
          (map_itself (use_by marks) (λ u. ap (λ (k : ℕ). use_of u.name k) (e u.reference)) (uses_in (unresolved_among us)));
    }

are_marked : (f : Found) → AreMarked (numbered f) (in_order f)
are_marked f =
    let bs = f.bindings in
    let symbols = symbols_declared bs in
    let gb = bindings_with symbols bs in
    let m = in_order f in
    let declared : symbols_declared gb ≡ symbols = numbers_same symbols bs in
    record {
      scopes = scope_ids 0 f.scopes;
      references = reference_ids 0 f.references;
      declarations = binding_ids (λ b. number_or_none (symbol_declared bs b)) bs ∙ map_alike Some (λ n. Some (mark_at m.symbols n)) (λ n. ap Some (sym (at_itself (symbols_of bs) n))) symbols
          ∙ ap (map (λ n. Some (mark_at m.symbols n))) (sym declared);
      symbols = length_counting 0 (symbols_of bs) ∙ ap length (sym (symbols_same symbols bs)) ∙ sym (length_symbols gb (map (symbol_used gb) (references_from 0 f.references)) 0 (symbols_of gb));
      scopes_apart = counting_once 0 f.scopes;
      symbols_apart = counting_once 0 (symbols_of bs);
      references_apart = counting_once 0 f.references;
    }

found_matches : (f : Found) → MatchesFound (scoping_of f) (numbered f)
found_matches f = record {
  marks = in_order f;
  are_marked = are_marked f;
  says = subst (SameTable (in_order f) (scoping_of f)) (sym (table_same f)) (record {
    scopes = scope_same f;
    symbols = symbol_same f;
    references = reference_same f;
    unresolved = unresolved_same (counting 0 f.references) (at_itself f.references) (map (unbound_name f.bindings) f.references);
  });
}

pub fresh_matches : (t : Forest) → Matches (scoping_of (found_in (sites_of t))) (marked (first_marks (symbols_declared (found_in (sites_of t)).bindings)) t)
fresh_matches t =
    let f = found_in (sites_of t) in
    subst (MatchesFound (scoping_of f)) (sym (found_marked (first_marks (symbols_declared f.bindings)) t)) (found_matches f)
