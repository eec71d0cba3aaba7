-- What is found of the parts of a table holds of the whole.
use Rattle.std.proofs.Common.{◌≡◌, ◌∙◌, ◌↔◌, ◌<◌, ◌≤◌, ◌+◌, ℕ, suc, List, [], ◌∷◌, ◌++◌, map, length, Bool, true, false, true≢false, IsTrue, Some, option_map, if◌then◌else◌, length-append, refl, sym, ap, ap₂, subst, subst₂, arith}
use Rattle.std.proofs.lemmas.Simd.{map-map}
use Rattle.js_syntax.specs.declared.node_kind.NodeKind.{NodeKind as Kind}
use Rattle.js_syntax.specs.declared.node_kind.NodeKind.TheVariants.{BindingName as binding_name, ReferenceName as reference_name, TargetName as target_name}
use Rattle.js_syntax.specs.Node.{Forest, Note, nothing, node, absent}
use Rattle.js_tree.specs.Count.{node_count}
use Rattle.scope_rules.specs.Context.{Context, opens, inside, outermost}
use Rattle.scope_rules.specs.Site.{Site, scope_site, binding_site, reference_site, ScopeSite, BindingSite, ReferenceSite, Found, found_in, sites, sites_of, name_sites, own_sites, opens_one, scope_bits, scope_count, scopes_among}
use Rattle.scope_rules.specs.Binding.{Binding}
use Rattle.scope_rules.specs.Table.{Named, Scoping, Unresolved, scopes_from, scoping_of, symbols_of, symbol_declared, symbols_declared, number_or_none}
use Rattle.scope_rules.proofs.Counts.{no_more_scopes, no_more_bindings, no_more_references}
use Rattle.scope_laws.proofs.Around.{bindings_count, references_count}
use Rattle.scope_table.specs.Reading.{scope_at, symbol_at}
use Rattle.scope_match.specs.Items.{SameItems}
use Rattle.scope_match.specs.Matches.{Marks, AreMarked, mark_at, marks_at, named_by, SameScope, SameSymbol, SameReference, SameUnresolved, SameTable, MatchesFound}
use Rattle.scope_match.specs.Parts.{HaveMarks, AreApart, SameHead}
use Rattle.scope_match.specs.Candidates.{first_marks_from, candidates}
use Rattle.scope_match.proofs.Only.{only_candidates}
use Rattle.scope_walk.proofs.Steps.{scopes_append}

-- ---- truth values

pub never : {P : Type 0} → IsTrue false → P
never e = absurd (true≢false (sym e))

-- ---- how many scopes there are

no_scopes : (c : Context) (n : Note) (k : Kind) → scopes_among (name_sites c n k) ≡ []
no_scopes c n (binding_name x) = refl
no_scopes c n (reference_name x) = refl
no_scopes c n (target_name x) = refl
no_scopes c n k = refl

one_opened : (b : Bool) (s : ScopeSite) (names : List Site) → scopes_among names ≡ [] → length (scopes_among ((if b then scope_site s ∷ [] else []) ++ names)) ≡ (if b then 1 else 0)
one_opened true s names e = ap (λ (l : List ScopeSite). suc (length l)) e
one_opened false s names e = ap (λ (l : List ScopeSite). length l) e

own_scopes : (c : Context) (n : Note) (k : Kind) (t : Forest) → length (scopes_among (own_sites c n k t)) ≡ opens_one k t
own_scopes c n k t = one_opened (opens k t) (record { id = n.id; parent = c.scope; flags = scope_bits c k t }) (name_sites c n k) (no_scopes c n k)

scopes_count : (cs : ℕ → Context) (at next : ℕ) (t : Forest) → length (scopes_among (sites cs at next t)) ≡ scope_count t
scopes_count cs at next nothing = refl
scopes_count cs at next (absent rest) = scopes_count cs (suc at) next rest
scopes_count cs at next (node k n below rest) =
    let own = own_sites (cs at) n k below in
    let inner = sites (inside (cs at) next k below) 0 (next + opens_one k below) below in
    let outer = sites cs (suc at) (next + scope_count (node k n below nothing)) rest in
    ap length (scopes_append (own ++ inner) outer)
    ∙ length-append (scopes_among (own ++ inner)) (scopes_among outer)
    ∙ ap₂ (λ (a b : ℕ). a + b)
    (ap length (scopes_append own inner) ∙ length-append (scopes_among own) (scopes_among inner)
    ∙ ap₂ (λ (a b : ℕ). a + b) (own_scopes (cs at) n k below) (scopes_count (inside (cs at) next k below) 0 (next + opens_one k below) below))
    (scopes_count cs (suc at) (next + scope_count (node k n below nothing)) rest)

abbrev found_of : Forest → Found
found_of t = found_in (sites_of t)

pub few_scopes : (t : Forest) → length (found_of t).scopes ≤ node_count t
few_scopes t = Prim.omega (arith, scopes_count (λ at. outermost) 0 0 t, no_more_scopes t)

pub few_bindings : (t : Forest) → length (found_of t).bindings ≤ node_count t
few_bindings t = Prim.omega (arith, bindings_count (λ at. outermost) 0 0 t, no_more_bindings t)

pub few_references : (t : Forest) → length (found_of t).references ≤ node_count t
few_references t = Prim.omega (arith, references_count (λ at. outermost) 0 0 t, no_more_references t)

length_scopes : (all : List Binding) (next : ℕ) (ss : List ScopeSite) → length (scopes_from all next ss) ≡ length ss
length_scopes all next [] = refl
length_scopes all next (s ∷ ss) = ap suc (length_scopes all (suc next) ss)

pub as_many_scopes : (f : Found) (t : Scoping) → t ≡ scoping_of f → length t.scopes ≡ length f.scopes
as_many_scopes f t e = ap (λ (t : Scoping). length t.scopes) e ∙ length_scopes (symbols_of f.bindings) 0 f.scopes

-- ---- marks

pub candidates_are : (f : Found) (ss : List ScopeSite) (bs : List BindingSite) (rs : List ReferenceSite) (symbols s y r : List ℕ)
    → ss ≡ f.scopes → bs ≡ f.bindings → rs ≡ f.references → symbols ≡ symbols_declared f.bindings
    → s ≡ map (λ (s : ScopeSite). number_or_none s.id) ss → y ≡ first_marks_from 0 symbols bs → r ≡ map (λ (r : ReferenceSite). number_or_none r.id) rs
    → record { scopes = s; symbols = y; references = r } ≡ candidates f
candidates_are f ss bs rs symbols s y r scopes bindings references declared s_is y_is r_is =
    ap₂ (λ a b. made a b r) (s_is ∙ ap (map (λ (s : ScopeSite). number_or_none s.id)) scopes) (y_is ∙ ap₂ (first_marks_from 0) declared bindings)
    ∙ ap (made (candidates f).scopes (candidates f).symbols) (r_is ∙ ap (map (λ (r : ReferenceSite). number_or_none r.id)) references)
  where
    made : List ℕ → List ℕ → List ℕ → Marks
    made s y r = record { scopes = s; symbols = y; references = r }

-- lists of marks as they are written in either way
scopes_as : (f : Found) (m : Marks) → m ≡ candidates f → map Some m.scopes ≡ map (λ (s : ScopeSite). Some (number_or_none s.id)) f.scopes
scopes_as f m e = ap (λ (m : Marks). map Some m.scopes) e ∙ map-map Some (λ (s : ScopeSite). number_or_none s.id) f.scopes

references_as : (f : Found) (m : Marks) → m ≡ candidates f → map Some m.references ≡ map (λ (r : ReferenceSite). Some (number_or_none r.id)) f.references
references_as f m e = ap (λ (m : Marks). map Some m.references) e ∙ map-map Some (λ (r : ReferenceSite). number_or_none r.id) f.references

declared_as : (f : Found) (m : Marks)
    → map (λ n. Some (mark_at m.symbols n)) (symbols_declared f.bindings) ≡ map (λ (b : BindingSite). Some (mark_at m.symbols (number_or_none (symbol_declared f.bindings b)))) f.bindings
declared_as f m = map-map (λ n. Some (mark_at m.symbols n)) (λ (b : BindingSite). number_or_none (symbol_declared f.bindings b)) f.bindings

pub marked_if : (f : Found) (m : Marks) (count : ℕ) → m ≡ candidates f → count ≡ length (scoping_of f).symbols → HaveMarks f m count → AreApart m → AreMarked f m
marked_if f m count e c h a = record {
  scopes = h.scopes ∙ sym (scopes_as f m e);
  references = h.references ∙ sym (references_as f m e);
  declarations = h.declarations ∙ sym (declared_as f m);
  symbols = h.symbols ∙ c;
  scopes_apart = a.scopes;
  symbols_apart = a.symbols;
  references_apart = a.references;
}

pub if_marked : (f : Found) (m : Marks) (count : ℕ) → m ≡ candidates f → count ≡ length (scoping_of f).symbols → AreMarked f m → HaveMarks f m count
if_marked f m count e c h = record {
  scopes = h.scopes ∙ scopes_as f m e;
  references = h.references ∙ references_as f m e;
  declarations = h.declarations ∙ declared_as f m;
  symbols = h.symbols ∙ sym c;
}

pub if_apart : (f : Found) (m : Marks) → AreMarked f m → AreApart m
if_apart f m h = record { scopes = h.scopes_apart; symbols = h.symbols_apart; references = h.references_apart }

pub declared_have : (f : Found) (m : Marks) (count : ℕ) (bs : List BindingSite) (symbols : List ℕ) → bs ≡ f.bindings → symbols ≡ m.symbols → HaveMarks f m count
    → map (λ (b : BindingSite). b.id) bs ≡ map (λ (b : BindingSite). Some (mark_at symbols (number_or_none (symbol_declared bs b)))) bs
declared_have f m count bs symbols e k h =
    subst₂ (λ bs symbols. map (λ (b : BindingSite). b.id) bs ≡ map (λ (b : BindingSite). Some (mark_at symbols (number_or_none (symbol_declared bs b)))) bs) (sym e) (sym k) h.declarations

-- ---- entries

symbol_is : (m : Marks) (s t : Scoping) (n : ℕ) (b : Bool) (given wanted marks : List ℕ) → wanted ≡ (symbol_at t n).references → marks ≡ m.references
    → (IsTrue b ↔ SameItems given (marks_at marks wanted)) → mark_at m.symbols n < length s.symbols
    → SameHead m.scopes s (mark_at m.symbols n) t n → given ≡ (symbol_at s (mark_at m.symbols n)).references → IsTrue b ↔ SameSymbol m s t n
symbol_is m s t n b given wanted marks wanted_is marks_are h within head given_is = (
  λ e. record {
    stands = within;
    name = head.name;
    flags = head.flags;
    scope = head.scope;
    redeclarations = head.redeclarations;
    is_pure = head.is_pure;
    references = subst₂ SameItems given_is (ap₂ marks_at marks_are wanted_is) (h.0 e);
  },
  λ k. h.1 (subst₂ SameItems (sym given_is) (sym (ap₂ marks_at marks_are wanted_is)) k.references),
)

pub symbol_at_mark : (m : Marks) (s t : Scoping) (n at : ℕ) (b : Bool) (given wanted marks symbols scopes : List ℕ) → symbols ≡ m.symbols → scopes ≡ m.scopes → marks ≡ m.references
    → at ≡ mark_at symbols n → at < length s.symbols → SameHead scopes s at t n → given ≡ (symbol_at s at).references → wanted ≡ (symbol_at t n).references
    → (IsTrue b ↔ SameItems given (marks_at marks wanted)) → IsTrue b ↔ SameSymbol m s t n
symbol_at_mark m s t n at b given wanted marks symbols scopes symbols_are scopes_are marks_are at_is within head given_is wanted_is h =
    subst (λ a. a < length s.symbols → SameHead m.scopes s a t n → given ≡ (symbol_at s a).references → IsTrue b ↔ SameSymbol m s t n)
    (sym (at_is ∙ ap (λ l. mark_at l n) symbols_are)) (symbol_is m s t n b given wanted marks wanted_is marks_are h) within (subst (λ l. SameHead l s at t n) scopes_are head) given_is

scope_is : (m : Marks) (s t : Scoping) (n : ℕ) (b : Bool) (given wanted : List Named) (symbols : List ℕ) → wanted ≡ (scope_at t n).bindings → symbols ≡ m.symbols
    → (IsTrue b ↔ SameItems given (map (named_by symbols) wanted)) → mark_at m.scopes n < length s.scopes
    → (scope_at s (mark_at m.scopes n)).parent ≡ option_map (mark_at m.scopes) (scope_at t n).parent → (scope_at s (mark_at m.scopes n)).flags ≡ (scope_at t n).flags
    → given ≡ (scope_at s (mark_at m.scopes n)).bindings → IsTrue b ↔ SameScope m s t n
scope_is m s t n b given wanted symbols wanted_is symbols_are h within parent flags given_is = (
  λ e. record { stands = within; parent = parent; flags = flags; bindings = subst₂ SameItems given_is (ap₂ (λ l. map (named_by l)) symbols_are wanted_is) (h.0 e) },
  λ k. h.1 (subst₂ SameItems (sym given_is) (sym (ap₂ (λ l. map (named_by l)) symbols_are wanted_is)) k.bindings),
)

pub scope_at_mark : (m : Marks) (s t : Scoping) (n at : ℕ) (b : Bool) (given wanted : List Named) (symbols scopes around : List ℕ) → symbols ≡ m.symbols → scopes ≡ m.scopes → around ≡ m.scopes
    → at ≡ mark_at scopes n → at < length s.scopes → (scope_at s at).parent ≡ option_map (mark_at around) (scope_at t n).parent → (scope_at s at).flags ≡ (scope_at t n).flags
    → given ≡ (scope_at s at).bindings → wanted ≡ (scope_at t n).bindings → (IsTrue b ↔ SameItems given (map (named_by symbols) wanted)) → IsTrue b ↔ SameScope m s t n
scope_at_mark m s t n at b given wanted symbols scopes around symbols_are scopes_are around_are at_is within parent flags given_is wanted_is h =
    subst (λ a. a < length s.scopes → (scope_at s a).parent ≡ option_map (mark_at m.scopes) (scope_at t n).parent → (scope_at s a).flags ≡ (scope_at t n).flags → given ≡ (scope_at s a).bindings → IsTrue b ↔ SameScope m s t n)
    (sym (at_is ∙ ap (λ l. mark_at l n) scopes_are)) (scope_is m s t n b given wanted symbols wanted_is symbols_are h) within
    (parent ∙ ap (λ l. option_map (mark_at l) (scope_at t n).parent) around_are) flags given_is

-- ---- the table

pub table_is : (m : Marks) (s t : Scoping) (b : Bool) (given wanted : List Unresolved) (marks : List ℕ)
    → ((n : ℕ) → n < length t.scopes → SameScope m s t n) → ((n : ℕ) → n < length t.symbols → SameSymbol m s t n) → ((n : ℕ) → n < length t.references → SameReference m s t n)
    → given ≡ s.unresolved → wanted ≡ t.unresolved → marks ≡ m.references → (IsTrue b ↔ SameUnresolved marks given wanted) → IsTrue b ↔ SameTable m s t
table_is m s t b given wanted marks scopes symbols references given_is wanted_is marks_are h = (
  λ e. record {
    scopes = scopes;
    symbols = symbols;
    references = references;
    unresolved = subst (λ marks. SameUnresolved marks s.unresolved t.unresolved) marks_are (subst₂ (SameUnresolved marks) given_is wanted_is (h.0 e));
  },
  λ k. h.1 (subst₂ (SameUnresolved marks) (sym given_is) (sym wanted_is) (subst (λ marks. SameUnresolved marks s.unresolved t.unresolved) (sym marks_are) k.unresolved)),
)

pub not_found : (s : Scoping) (f : Found) (m : Marks) (b : Bool) → m ≡ candidates f → (IsTrue b ↔ AreMarked f m) → b ≡ false → IsTrue false ↔ MatchesFound s f
not_found s f m b e h n = (never, λ k. sym n ∙ h.1 (subst (AreMarked f) (only_candidates f k.marks k.are_marked ∙ sym e) k.are_marked))

pub is_found : (s : Scoping) (f : Found) (m : Marks) (t : Scoping) (b : Bool) → m ≡ candidates f → t ≡ scoping_of f → AreMarked f m → (IsTrue b ↔ SameTable m s t) → IsTrue b ↔ MatchesFound s f
is_found s f m t b e made marked h = (
  λ k. record { marks = m; are_marked = marked; says = subst (SameTable m s) made (h.0 k) },
  λ k. h.1 (subst (SameTable m s) (sym made) (subst (λ m. SameTable m s (scoping_of f)) (only_candidates f k.marks k.are_marked ∙ sym e) k.says)),
)
