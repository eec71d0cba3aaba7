-- A table that matches a tree is exact for it, where symbols that are left over list nothing.
use Rattle.std.proofs.Common.{◌≡◌, ◌∙◌, ◌↔◌, ◌<◌, ◌+◌, ℕ, zero, suc, List, [], ◌∷◌, map, length, get_or, slice_get, Option, Some, None, option_map, option_and_then, inl, inr, refl, sym, ap, subst, arith}
use Rattle.std.proofs.lemmas.Option.{slice_get-map, slice_get_within, slice_get-get_or, get_or_from_slice_get}
use Rattle.scope_rules.specs.Site.{BindingSite, ReferenceSite, Found}
use Rattle.scope_rules.specs.Binding.{Binding, declared_by, binding_of}
use Rattle.scope_rules.specs.Table.{Symbol, Reference, Scoping, symbols_of, symbol_of, symbol_used, symbol_declared, symbol_at, reference_at, references_to, number_or_none, scoping_of}
use Rattle.scope_laws.specs.Exact.{Among, NoneTwice, Names, IsNamed, IsEntered, IsDeclared, IsListed, ExactFor}
use Rattle.scope_laws.proofs.Bindings.{none_is_some, same_value, declared_binding}
use Rattle.scope_laws.proofs.Among.{among_map, image}
use Rattle.scope_laws.proofs.Numbers.{numbered, one_number, has_symbol, listed_at, at_listed, symbols_at}
use Rattle.scope_table.specs.Reading.{symbol_at as symbol_numbered, reference_at as entry_at, no_symbol, no_reference}
use Rattle.scope_match.specs.Matches.{Marks, mark_at, marks_at, MatchesFound}
use Rattle.scope_match.specs.Leftover.{LeavesNothing}
use Rattle.scope_match.proofs.Have.{Have, same_head, same_tail}
use Rattle.scope_match.proofs.Only.{length_symbols}

-- ---- lists

record Mapped {A B : Type 0} (f : A → B) (o : Option A) (y : B) : Type 0 where
  value : A
  is : o ≡ Some value
  gives : f value ≡ y

mapped : {A B : Type 0} (f : A → B) (o : Option A) (y : B) → option_map f o ≡ Some y → Mapped f o y
mapped f None y e = absurd (none_is_some e)
mapped f (Some x) y e = record { value = x; is = refl; gives = same_value e }

record Place {A : Type 0} (x : A) (xs : List A) : Type 0 where
  number : ℕ
  stands : slice_get xs number ≡ Some x

place : {A : Type 0} (x : A) (xs : List A) → Among x xs → Place x xs
place x [] h = absurd h
place x (y ∷ ys) (inl e) = record { number = zero; stands = ap Some e }
place x (y ∷ ys) (inr h) = let p = place x ys h in record { number = suc p.number; stands = p.stands }

among_at : {A : Type 0} (xs : List A) (k : ℕ) (x : A) → slice_get xs k ≡ Some x → Among x xs
among_at [] k x e = absurd (none_is_some e)
among_at (y ∷ ys) zero x e = inl (same_value e)
among_at (y ∷ ys) (suc k) x e = inr (among_at ys k x e)

-- what is told alike of a whole list is of each item
have_at : {A B : Type 0} (g h : A → B) (xs : List A) (x : A) → Have g h xs → Among x xs → g x ≡ h x
have_at g h [] x e a = absurd a
have_at g h (y ∷ ys) x e (inl k) = ap g (sym k) ∙ same_head (g y) (h y) (map g ys) (map h ys) e ∙ ap h k
have_at g h (y ∷ ys) x e (inr a) = have_at g h ys x (same_tail (g y) (h y) (map g ys) (map h ys) e) a

-- where all items have numbers, each has the one at its place
number_at : {A : Type 0} (g : A → Option ℕ) (xs : List A) (ms : List ℕ) → map g xs ≡ map Some ms → (k : ℕ) (x : A) → slice_get xs k ≡ Some x → g x ≡ Some (mark_at ms k)
number_at g xs ms e k x s =
    let there = mapped Some (slice_get ms k) (g x) (sym (slice_get-map Some ms k) ∙ ap (λ l. slice_get l k) (sym e) ∙ slice_get-map g xs k ∙ ap (option_map g) s) in
    sym there.gives ∙ ap Some (sym (get_or_from_slice_get ms k there.value k there.is))

among_read : (ms : List ℕ) (k d : ℕ) → k < length ms → Among (get_or ms k d) ms
among_read ms k d within = among_at ms k (get_or ms k d) (slice_get-get_or ms k d within)

-- no number stands at two places
apart : (ms : List ℕ) → NoneTwice ms → (j k c d : ℕ) → j < length ms → k < length ms → get_or ms j c ≡ get_or ms k d → j ≡ k
apart [] once j k c d p q e = Prim.omega (arith, p)
apart (m ∷ ms) once zero zero c d p q e = refl
apart (m ∷ ms) once zero (suc k) c d p q e = absurd (once.0 (subst (λ n. Among n ms) (sym e) (among_read ms k d (Prim.omega (arith, q)))))
apart (m ∷ ms) once (suc j) zero c d p q e = absurd (once.0 (subst (λ n. Among n ms) e (among_read ms j c (Prim.omega (arith, p)))))
apart (m ∷ ms) once (suc j) (suc k) c d p q e = ap suc (apart ms once.1 j k c d (Prim.omega (arith, p)) (Prim.omega (arith, q)) e)

module _ (s : Scoping) (f : Found) (h : MatchesFound s f) where
  abbrev bs : List BindingSite
  bs = f.bindings

  abbrev rs : List ReferenceSite
  rs = f.references

  abbrev t : Scoping
  t = scoping_of f

  abbrev m : Marks
  m = h.marks

  abbrev uses : List (Option ℕ)
  uses = map (symbol_used bs) rs

  -- ---- declarations

  abbrev number : BindingSite → ℕ
  number b = number_or_none (symbol_declared bs b)

  number_is : (b : BindingSite) → Among b bs → symbol_of bs (declared_by b) ≡ Some (number b)
  number_is b a = let n = has_symbol bs b a in n.is ∙ ap (λ o. Some (number_or_none o)) (sym n.is)

  marked_as : (b : BindingSite) → Among b bs → b.id ≡ Some (mark_at m.symbols (number b))
  marked_as b a =
      have_at (λ (b : BindingSite). b.id) (λ (b : BindingSite). Some (mark_at m.symbols (number b))) bs b
      (h.are_marked.declarations ∙ sym (composed (λ n. Some (mark_at m.symbols n)) number bs)) a
    where
      composed : {A B C : Type 0} (h : B → C) (g : A → B) (xs : List A) → map (λ x. h (g x)) xs ≡ map h (map g xs)
      composed h g [] = refl
      composed h g (x ∷ xs) = ap (λ ys. h (g x) ∷ ys) (composed h g xs)

  first_at : (b : BindingSite) → Among b bs → slice_get (symbols_of bs) (number b) ≡ Some (declared_by b)
  first_at b a = let n = numbered 0 (symbols_of bs) (declared_by b) (number b) (number_is b a) in ap (slice_get (symbols_of bs)) (n.is ∙ Prim.omega arith) ∙ n.stands

  as_many : length m.symbols ≡ length (symbols_of bs)
  as_many = h.are_marked.symbols ∙ length_symbols bs uses 0 (symbols_of bs)

  below_marks : (b : BindingSite) → Among b bs → number b < length m.symbols
  below_marks b a = Prim.omega (arith, slice_get_within (symbols_of bs) (number b) (declared_by b) (first_at b a), as_many)

  below_symbols : (b : BindingSite) → Among b bs → number b < length t.symbols
  below_symbols b a = Prim.omega (arith, below_marks b a, h.are_marked.symbols)

  -- declarations of one mark have one symbol
  same_number : (a b : BindingSite) → Among a bs → Among b bs → a.id ≡ b.id → number a ≡ number b
  same_number a b p q e =
      apart m.symbols h.are_marked.symbols_apart (number a) (number b) (number a) (number b) (below_marks a p) (below_marks b q) (same_value (sym (marked_as a p) ∙ e ∙ marked_as b q))

  symbol_here : (b : BindingSite) → Among b bs → symbol_numbered t (number b) ≡ symbol_at bs uses (number b) (declared_by b)
  symbol_here b a =
      get_or_from_slice_get t.symbols (number b) (symbol_at bs uses (0 + number b) (declared_by b)) no_symbol
      (symbols_at bs uses 0 (symbols_of bs) (number b) ∙ ap (option_map (symbol_at bs uses (0 + number b))) (first_at b a))
      ∙ ap (λ (n : ℕ). symbol_at bs uses n (declared_by b)) (Prim.omega arith)

  -- ---- references

  reference_marked : (k : ℕ) (r : ReferenceSite) → slice_get rs k ≡ Some r → r.id ≡ Some (mark_at m.references k)
  reference_marked k r e = number_at (λ (r : ReferenceSite). r.id) rs m.references h.are_marked.references k r e

  names_if : (r : ReferenceSite) (n : ℕ) (o : Option Binding) → binding_of bs r ≡ o → option_and_then (symbol_of bs) o ≡ Some n → Names bs r (mark_at m.symbols n)
  names_if r n None is e = absurd (none_is_some e)
  names_if r n (Some b) is e =
      let d = declared_binding bs r b is in
      let same : number d.site ≡ n = same_value (sym (number_is d.site d.stands) ∙ ap (symbol_of bs) d.same ∙ e) in
      record { declaration = d.site; stands = d.stands; is_marked = marked_as d.site d.stands ∙ ap (λ (n : ℕ). Some (mark_at m.symbols n)) same; binds = is ∙ ap Some (sym d.same) }

  used_by : (r : ReferenceSite) (symbol : ℕ) → (k : Names bs r symbol) → symbol_used bs r ≡ Some (number k.declaration)
  used_by r symbol k = ap (option_and_then (symbol_of bs)) k.binds ∙ number_is k.declaration k.stands

  entered : (r : ReferenceSite) → Among r rs → IsEntered s bs r
  entered r a =
      let p = place r rs a in
      let within : p.number < length t.references =
      slice_get_within t.references p.number (reference_at bs r) (slice_get-map (reference_at bs) rs p.number ∙ ap (option_map (reference_at bs)) p.stands) in
      let same = h.says.references p.number within in
      let at = mark_at m.references p.number in
      let used : (entry_at t p.number).symbol ≡ symbol_used bs r =
      ap (λ (e : Reference). e.symbol)
      (get_or_from_slice_get t.references p.number (reference_at bs r) no_reference (slice_get-map (reference_at bs) rs p.number ∙ ap (option_map (reference_at bs)) p.stands)) in
      let symbol : (entry_at s at).symbol ≡ option_map (mark_at m.symbols) (symbol_used bs r) = same.symbol ∙ ap (option_map (mark_at m.symbols)) used in
      record {
        id = at;
        entry = entry_at s at;
        has_id = reference_marked p.number r p.stands;
        stands = slice_get-get_or s.references at no_reference same.stands;
        names = λ n. (
          λ e.
              let x = mapped (mark_at m.symbols) (symbol_used bs r) n (sym symbol ∙ e) in
              subst (Names bs r) x.gives (names_if r x.value (binding_of bs r) refl x.is),
          λ k. symbol ∙ ap (option_map (mark_at m.symbols)) (used_by r n k) ∙ sym (marked_as k.declaration k.stands) ∙ k.is_marked,
        );
      }

  declared : (b : BindingSite) → Among b bs → IsDeclared s b
  declared b a =
      let same = h.says.symbols (number b) (below_symbols b a) in
      let at = mark_at m.symbols (number b) in
      record {
        number = at;
        symbol = symbol_numbered s at;
        is_marked = marked_as b a;
        stands = slice_get-get_or s.symbols at no_symbol same.stands;
        same_name = same.name ∙ ap (λ (x : Symbol). x.name) (symbol_here b a);
      }

  one_symbol : (a b : BindingSite) → Among a bs → Among b bs → (a.id ≡ b.id) ↔ (declared_by a ≡ declared_by b)
  one_symbol a b p q = (
    λ e. one_number (symbols_of bs) (declared_by a) (declared_by b) (number b) (number_is a p ∙ ap Some (same_number a b p q e)) (number_is b q),
    λ e. marked_as a p ∙ ap (λ x. Some (mark_at m.symbols (number_or_none (symbol_of bs x)))) e ∙ sym (marked_as b q),
  )

  -- ---- the lists of symbols that declarations are marked with

  record ListedAt (n id : ℕ) : Type 0 where
    number_of : ℕ
    stands : Among number_of (references_to n 0 uses)
    marks : mark_at m.references number_of ≡ id

  named_at : (b : BindingSite) → Among b bs → (id : ℕ) → ListedAt (number b) id → IsNamed bs rs (mark_at m.symbols (number b)) id
  named_at b a id l =
      let x = listed_at (number b) 0 l.number_of uses l.stands in
      let r = mapped (symbol_used bs) (slice_get rs x.place) (Some (number b)) (sym (slice_get-map (symbol_used bs) rs x.place) ∙ x.uses_it) in
      record {
        reference = r.value;
        stands = among_at rs x.place r.value r.is;
        has_id = reference_marked x.place r.value r.is ∙ ap (λ (n : ℕ). Some (mark_at m.references n)) (Prim.omega (arith, x.is)) ∙ ap Some l.marks;
        names = names_if r.value (number b) (binding_of bs r.value) refl r.gives;
      }

  at_named : (b : BindingSite) → Among b bs → (id : ℕ) → IsNamed bs rs (mark_at m.symbols (number b)) id → ListedAt (number b) id
  at_named b a id k =
      let p = place k.reference rs k.stands in
      let d = k.names.declaration in
      let same : number d ≡ number b = same_number d b k.names.stands a (k.names.is_marked ∙ sym (marked_as b a)) in
      record {
        number_of = p.number;
        stands = at_listed (number b) 0 p.number uses p.number (Prim.omega arith)
            (slice_get-map (symbol_used bs) rs p.number ∙ ap (option_map (symbol_used bs)) p.stands ∙ ap Some (used_by k.reference (mark_at m.symbols (number b)) k.names ∙ ap Some same));
        marks = same_value (sym (reference_marked p.number k.reference p.stands) ∙ k.has_id);
      }

  pub listed_here : (b : BindingSite) → Among b bs → (n : ℕ) (x : Symbol) → b.id ≡ Some n → slice_get s.symbols n ≡ Some x → IsListed bs rs n x
  listed_here b a n x is e =
      let same = h.says.symbols (number b) (below_symbols b a) in
      let at : mark_at m.symbols (number b) ≡ n = same_value (sym (marked_as b a) ∙ is) in
      let here : (symbol_numbered s (mark_at m.symbols (number b))).references ≡ x.references =
      ap (λ n. (symbol_numbered s n).references) at ∙ ap (λ (x : Symbol). x.references) (get_or_from_slice_get s.symbols n x no_symbol e) in
      let wanted : marks_at m.references (symbol_numbered t (number b)).references ≡ marks_at m.references (references_to (number b) 0 uses) =
      ap (λ (x : Symbol). marks_at m.references x.references) (symbol_here b a) in
      record {
        once = subst NoneTwice here same.references.0;
        holds = λ id. (
          λ k.
              let i = image (mark_at m.references) (references_to (number b) 0 uses) id (subst (Among id) wanted ((same.references.1 id).0 (subst (Among id) (sym here) k))) in
              subst (λ n. IsNamed bs rs n id) at (named_at b a id (record { number_of = i.item; stands = i.stands; marks = i.gives })),
          λ k.
              let l = at_named b a id (subst (λ n. IsNamed bs rs n id) (sym at) k) in
              subst (Among id) here ((same.references.1 id).1 (subst (Among id) (sym wanted) (subst (λ i. Among i (marks_at m.references (references_to (number b) 0 uses))) l.marks (among_map (mark_at m.references) l.number_of (references_to (number b) 0 uses) l.stands)))),
        );
      }

  none_over : (n : ℕ) (x : Symbol) → slice_get s.symbols n ≡ Some x → x.references ≡ [] → IsListed bs rs n x
  none_over n x e empty = record {
    once = subst NoneTwice (sym empty) tt;
    holds = λ id. (
      λ k. absurd (subst (Among id) empty k),
      λ k. absurd (subst (Among id) empty (((listed_here k.names.declaration k.names.stands n x k.names.is_marked e).holds id).1 k)),
    );
  }

  listed : LeavesNothing s bs → (n : ℕ) (x : Symbol) → slice_get s.symbols n ≡ Some x → IsListed bs rs n x
  listed left n x e = elim (left n x e) [
    | inl b ↦ listed_here b.declaration b.stands n x b.is_marked e
    | inr empty ↦ none_over n x e empty
  ]

  ids_apart : (g : ReferenceSite → Option ℕ) (xs : List ReferenceSite) (ms : List ℕ) → map g xs ≡ map Some ms → NoneTwice ms → NoneTwice (map g xs)
  ids_apart g xs ms e once = subst NoneTwice (sym e) (somes_apart ms once)
    where
      some_among : (n : ℕ) (ms : List ℕ) → Among (Some n) (map Some ms) → Among n ms
      some_among n [] h = absurd h
      some_among n (m ∷ ms) (inl e) = inl (same_value e)
      some_among n (m ∷ ms) (inr h) = inr (some_among n ms h)

      somes_apart : (ms : List ℕ) → NoneTwice ms → NoneTwice (map Some ms)
      somes_apart [] h = tt
      somes_apart (m ∷ ms) h = (λ k. h.0 (some_among m ms k), somes_apart ms h.1)

  pub exact_if : LeavesNothing s bs → ExactFor s bs rs
  exact_if left = record {
    own_ids = ids_apart (λ (r : ReferenceSite). r.id) rs m.references h.are_marked.references h.are_marked.references_apart;
    entered = entered;
    declared = declared;
    one_symbol = one_symbol;
    listed = listed left;
  }
