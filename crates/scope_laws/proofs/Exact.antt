-- The table that is made of a tree tells what stands in it, once its nodes are marked.
use Rattle.std.proofs.Common.{◌≡◌, ◌∙◌, ◌↔◌, ◌+◌, ◌≤◌, ℕ, zero, suc, List, [], ◌∷◌, map, slice_get, Option, Some, None, option_map, option_and_then, inl, inr, refl, sym, ap, ap₂, subst, subst₂, arith}
use Rattle.std.proofs.lemmas.Option.{slice_get-map}
use Rattle.js_syntax.specs.Node.{Forest}
use Rattle.scope_rules.specs.Site.{BindingSite, ReferenceSite, Found, found_in, sites_of}
use Rattle.scope_rules.specs.Binding.{Binding, declared_by, binding_of}
use Rattle.scope_rules.specs.Table.{symbols_of, symbol_of, symbol_used, symbol_at, symbols_from, reference_at, number_or_none, symbols_declared, scoping_of, Symbol, references_to}
use Rattle.scope_rules.specs.Mark.{first_marks, marked}
use Rattle.scope_laws.specs.Renumbered.{binding_with, reference_with, bindings_with, references_from}
use Rattle.scope_laws.specs.Exact.{Among, NoneTwice, Names, IsNamed, IsEntered, IsDeclared, IsListed, ExactFor, Exact}
use Rattle.scope_laws.proofs.Marking.{found_marked}
use Rattle.scope_laws.proofs.Bindings.{none_is_some, same_value, declared_binding, same_binding_of}
use Rattle.scope_laws.proofs.Numbers.{numbered, one_number, has_symbol, listed_at, at_listed, listed_once, symbols_at}

-- ---- the references of a marked tree

-- which of the references before has this one become
record Reference (next : ℕ) (rs : List ReferenceSite) (r : ReferenceSite) : Type 0 where
  place : ℕ
  before : ReferenceSite
  stands : slice_get rs place ≡ Some before
  is : r ≡ reference_with (Some (next + place)) before

reference : (next : ℕ) (rs : List ReferenceSite) (r : ReferenceSite) → Among r (references_from next rs) → Reference next rs r
reference next [] r h = absurd h
reference next (a ∷ rs) r (inl e) = record { place = zero; before = a; stands = refl; is = sym e ∙ ap (λ (n : ℕ). reference_with (Some n) a) (Prim.omega arith) }
reference next (a ∷ rs) r (inr h) =
    let x = reference (next + 1) rs r h in
    record { place = suc x.place; before = x.before; stands = x.stands; is = x.is ∙ ap (λ (n : ℕ). reference_with (Some n) x.before) (Prim.omega arith) }

among_references : (next : ℕ) (rs : List ReferenceSite) (k : ℕ) (r : ReferenceSite) → slice_get rs k ≡ Some r → Among (reference_with (Some (next + k)) r) (references_from next rs)
among_references next [] k r e = absurd (none_is_some e)
among_references next (a ∷ rs) zero r e = inl (ap₂ (λ (n : ℕ) x. reference_with (Some n) x) (Prim.omega arith) (same_value e))
among_references next (a ∷ rs) (suc k) r e =
    inr (subst₂ Among (ap (λ (n : ℕ). reference_with (Some n) r) (Prim.omega arith)) refl (among_references (next + 1) rs k r e))

-- the ids are the numbers from the first on
later : (next id : ℕ) (rs : List ReferenceSite) → Among (Some id) (map (λ (r : ReferenceSite). r.id) (references_from next rs)) → next ≤ id
later next id [] h = absurd h
later next id (a ∷ rs) (inl e) = Prim.omega (arith, same_value e)
later next id (a ∷ rs) (inr h) = Prim.omega (arith, later (next + 1) id rs h)

ids_once : (next : ℕ) (rs : List ReferenceSite) → NoneTwice (map (λ (r : ReferenceSite). r.id) (references_from next rs))
ids_once next [] = tt
ids_once next (a ∷ rs) = (λ h. Prim.omega (arith, later (next + 1) next rs h), ids_once (next + 1) rs)

-- ---- its declarations

pub record Declaration (f : BindingSite → ℕ) (bs : List BindingSite) (b : BindingSite) : Type 0 where
  pub before : BindingSite
  pub stands : Among before bs
  pub is : b ≡ binding_with (Some (f before)) before

pub declaration : (f : BindingSite → ℕ) (bs : List BindingSite) (b : BindingSite) → Among b (bindings_with (map f bs) bs) → Declaration f bs b
declaration f [] b h = absurd h
declaration f (a ∷ bs) b (inl e) = record { before = a; stands = inl refl; is = sym e }
declaration f (a ∷ bs) b (inr h) = let x = declaration f bs b h in record { before = x.before; stands = inr x.stands; is = x.is }

among_bindings : (f : BindingSite → ℕ) (bs : List BindingSite) (b : BindingSite) → Among b bs → Among (binding_with (Some (f b)) b) (bindings_with (map f bs) bs)
among_bindings f [] b h = absurd h
among_bindings f (a ∷ bs) b (inl e) = inl (ap (λ x. binding_with (Some (f x)) x) e)
among_bindings f (a ∷ bs) b (inr h) = inr (among_bindings f bs b h)

-- ---- symbols

abbrev pub number : List BindingSite → BindingSite → ℕ
number bs b = number_or_none (symbol_of bs (declared_by b))

pub number_is : (bs : List BindingSite) (b : BindingSite) → Among b bs → symbol_of bs (declared_by b) ≡ Some (number bs b)
number_is bs b h = let n = has_symbol bs b h in n.is ∙ ap (λ o. Some (number_or_none o)) (sym n.is)

abbrev pub marked_bindings : List BindingSite → List BindingSite
marked_bindings bs = bindings_with (symbols_declared bs) bs

-- the symbol that the table gives to a reference is the one that it names
used_names : (bs : List BindingSite) (r : ReferenceSite) (n : ℕ) (o : Option Binding) → binding_of bs r ≡ o → option_and_then (symbol_of bs) o ≡ Some n → Names (marked_bindings bs) r n
used_names bs r n None is e = absurd (none_is_some e)
used_names bs r n (Some b) is e =
    let d = declared_binding bs r b is in
    record {
      declaration = binding_with (Some (number bs d.site)) d.site;
      stands = among_bindings (number bs) bs d.site d.stands;
      is_marked = ap (λ x. Some (number_or_none (symbol_of bs x))) d.same ∙ ap (λ o. Some (number_or_none o)) e;
      binds = same_binding_of (symbols_declared bs) bs r ∙ is ∙ ap Some (sym d.same);
    }

names_used : (bs : List BindingSite) (r : ReferenceSite) (n : ℕ) → Names (marked_bindings bs) r n → symbol_used bs r ≡ Some n
names_used bs r n h =
    let d = declaration (number bs) bs h.declaration h.stands in
    ap (option_and_then (symbol_of bs)) (sym (same_binding_of (symbols_declared bs) bs r) ∙ h.binds ∙ ap (λ b. Some (declared_by b)) d.is)
    ∙ number_is bs d.before d.stands
    ∙ sym (ap (λ (b : BindingSite). b.id) d.is)
    ∙ h.is_marked

-- a reference's mark aside
renamed : (bs : List BindingSite) (id : Option ℕ) (r : ReferenceSite) (n : ℕ) → Names bs r n → Names bs (reference_with id r) n
renamed bs id r n k = record { declaration = k.declaration; stands = k.stands; is_marked = k.is_marked; binds = k.binds }

unnamed : (bs : List BindingSite) (id : Option ℕ) (r : ReferenceSite) (n : ℕ) → Names bs (reference_with id r) n → Names bs r n
unnamed bs id r n k = record { declaration = k.declaration; stands = k.stands; is_marked = k.is_marked; binds = k.binds }

-- ---- the table

entered : (f : Found) (r : ReferenceSite) → Among r (references_from 0 f.references) → IsEntered (scoping_of f) (marked_bindings f.bindings) r
entered f r h =
    let x = reference 0 f.references r h in
    record {
      id = 0 + x.place;
      entry = reference_at f.bindings x.before;
      has_id = ap (λ (r : ReferenceSite). r.id) x.is;
      stands = slice_get-map (reference_at f.bindings) f.references (0 + x.place) ∙ ap (λ (n : ℕ). option_map (reference_at f.bindings) (slice_get f.references n)) (Prim.omega arith) ∙ ap (option_map (reference_at f.bindings)) x.stands;
      names = λ n. (
        λ e. subst₂ (Names (marked_bindings f.bindings)) (sym x.is) refl (renamed (marked_bindings f.bindings) (Some (0 + x.place)) x.before n (used_names f.bindings x.before n (binding_of f.bindings x.before) refl e)),
        λ k. names_used f.bindings x.before n (unnamed (marked_bindings f.bindings) (Some (0 + x.place)) x.before n (subst₂ (Names (marked_bindings f.bindings)) x.is refl k)),
      );
    }

declared : (f : Found) (b : BindingSite) → Among b (marked_bindings f.bindings) → IsDeclared (scoping_of f) b
declared f b h =
    let bs = f.bindings in
    let d = declaration (number bs) bs b h in
    let n = numbered 0 (symbols_of bs) (declared_by d.before) (number bs d.before) (number_is bs d.before d.stands) in
    let uses = map (symbol_used bs) f.references in
    record {
      number = number bs d.before;
      symbol = symbol_at bs uses (0 + n.place) (declared_by d.before);
      is_marked = ap (λ (b : BindingSite). b.id) d.is;
      stands = ap (slice_get (symbols_from bs uses 0 (symbols_of bs))) (n.is ∙ Prim.omega arith) ∙ symbols_at bs uses 0 (symbols_of bs) n.place ∙ ap (option_map (symbol_at bs uses (0 + n.place))) n.stands;
      same_name = ap (λ (b : BindingSite). b.name) (sym d.is);
    }

one_symbol : (bs : List BindingSite) (a b : BindingSite) → Among a (marked_bindings bs) → Among b (marked_bindings bs) → (a.id ≡ b.id) ↔ (declared_by a ≡ declared_by b)
one_symbol bs a b h k =
    let c = declaration (number bs) bs a h in
    let d = declaration (number bs) bs b k in (
      λ e.
          let same : number bs c.before ≡ number bs d.before = same_value (sym (ap (λ (b : BindingSite). b.id) c.is) ∙ e ∙ ap (λ (b : BindingSite). b.id) d.is) in
          ap declared_by c.is
          ∙ one_number (symbols_of bs) (declared_by c.before) (declared_by d.before) (number bs d.before) (number_is bs c.before c.stands ∙ ap Some same) (number_is bs d.before d.stands)
          ∙ ap declared_by (sym d.is),
      λ e. ap (λ (b : BindingSite). b.id) c.is ∙ ap (λ x. Some (number_or_none (symbol_of bs x))) (ap declared_by (sym c.is) ∙ e ∙ ap declared_by d.is) ∙ ap (λ (b : BindingSite). b.id) (sym d.is),
    )

-- ---- the lists

record Mapped {A B : Type 0} (f : A → B) (o : Option A) (y : B) : Type 0 where
  value : A
  is : o ≡ Some value
  gives : f value ≡ y

mapped : {A B : Type 0} (f : A → B) (o : Option A) (y : B) → option_map f o ≡ Some y → Mapped f o y
mapped f None y e = absurd (none_is_some e)
mapped f (Some x) y e = record { value = x; is = refl; gives = same_value e }

abbrev uses_of : Found → List (Option ℕ)
uses_of f = map (symbol_used f.bindings) f.references

references_of : (f : Found) (n : ℕ) (x : Symbol) → slice_get (scoping_of f).symbols n ≡ Some x → x.references ≡ references_to n 0 (uses_of f)
references_of f n x e =
    let m = mapped (symbol_at f.bindings (uses_of f) (0 + n)) (slice_get (symbols_of f.bindings) n) x (sym (symbols_at f.bindings (uses_of f) 0 (symbols_of f.bindings) n) ∙ e) in
    ap (λ (x : Symbol). x.references) (sym m.gives) ∙ ap (λ (n : ℕ). references_to n 0 (uses_of f)) (Prim.omega arith)

named_at : (f : Found) (n id : ℕ) → Among id (references_to n 0 (uses_of f)) → IsNamed (marked_bindings f.bindings) (references_from 0 f.references) n id
named_at f n id h =
    let a = listed_at n 0 id (uses_of f) h in
    let m = mapped (symbol_used f.bindings) (slice_get f.references a.place) (Some n) (sym (slice_get-map (symbol_used f.bindings) f.references a.place) ∙ a.uses_it) in
    record {
      reference = reference_with (Some (0 + a.place)) m.value;
      stands = among_references 0 f.references a.place m.value m.is;
      has_id = ap Some (sym a.is);
      names = renamed (marked_bindings f.bindings) (Some (0 + a.place)) m.value n (used_names f.bindings m.value n (binding_of f.bindings m.value) refl m.gives);
    }

at_named : (f : Found) (n id : ℕ) → IsNamed (marked_bindings f.bindings) (references_from 0 f.references) n id → Among id (references_to n 0 (uses_of f))
at_named f n id k =
    let x = reference 0 f.references k.reference k.stands in
    let is : id ≡ 0 + x.place = same_value (sym k.has_id ∙ ap (λ (r : ReferenceSite). r.id) x.is) in
    let uses : symbol_used f.bindings x.before ≡ Some n = names_used f.bindings x.before n (unnamed (marked_bindings f.bindings) (Some (0 + x.place)) x.before n (subst₂ (Names (marked_bindings f.bindings)) x.is refl k.names)) in
    at_listed n 0 id (uses_of f) x.place is (slice_get-map (symbol_used f.bindings) f.references x.place ∙ ap (option_map (symbol_used f.bindings)) x.stands ∙ ap Some uses)

listed : (f : Found) (n : ℕ) (x : Symbol) → slice_get (scoping_of f).symbols n ≡ Some x → IsListed (marked_bindings f.bindings) (references_from 0 f.references) n x
listed f n x e =
    let refs = references_of f n x e in
    record {
      once = subst NoneTwice (sym refs) (listed_once n 0 (uses_of f));
      holds = λ id. (λ h. named_at f n id (subst (Among id) refs h), λ k. subst (Among id) (sym refs) (at_named f n id k));
    }

exact_for : (f : Found) → ExactFor (scoping_of f) (marked_bindings f.bindings) (references_from 0 f.references)
exact_for f = record { own_ids = ids_once 0 f.references; entered = entered f; declared = declared f; one_symbol = one_symbol f.bindings; listed = listed f }

pub exact : (t : Forest) → Exact (scoping_of (found_in (sites_of t))) (marked (first_marks (symbols_declared (found_in (sites_of t)).bindings)) t)
exact t =
    let f = found_in (sites_of t) in
    subst (λ (g : Found). ExactFor (scoping_of f) g.bindings g.references) (sym (found_marked (first_marks (symbols_declared f.bindings)) t)) (exact_for f)
