-- What is known of a program is known of it without an export of names alone, but that its references are marked; so by the rule nothing of
-- what is left refers to an import's names exactly where the export lists what their symbols list.
use Rattle.std.proofs.Common.{◌≡◌, ◌∙◌, ◌≤◌, ◌+◌, ◌==◌, inl, inr, ℕ, suc, List, [], ◌∷◌, ◌++◌, Bool, true, false, true≢false, not, ◌||◌, if◌then◌else◌, slice_get, append-nil, Option, Some, None, refl, sym, ap, subst, arith, eqb-true, eq-eqb}
use Rattle.std.specs.Prelude.{cond, nat_lt}
use Rattle.std.specs.List.{list_all}
use Rattle.std.proofs.lemmas.Bool.{and_parts, and_from, false_from_ne_true}
use Rattle.std.proofs.lemmas.Option.{get_or_from_slice_get}
use Rattle.js_syntax.specs.declared.node_kind.NodeKind.{NodeKind as Kind}
use Rattle.js_syntax.specs.declared.node_kind.NodeKind.TheVariants.{Program as program, Statements as statements, ImportDeclaration as import_declaration, Specifiers as specifiers, BindingName as binding_name, PropertyDefinition as property_definition, ExportNamedDeclaration as export_named_declaration}
use Rattle.js_syntax.specs.declared.scalar.SourceType.TheVariants as source_type
use Rattle.js_syntax.specs.Class.{root}
use Rattle.js_syntax.specs.Node.{Forest, Note, nothing, node, absent}
use Rattle.js_syntax.proofs.Truth.{not_true}
use Rattle.js_effects.specs.Silence.{is_marked}
use Rattle.js_meaning_near.specs.Near.{module_of}
use Rattle.json_shape.specs.Shape.{Fits}
use Rattle.scope_rules.specs.Context.{Context, has_second, is_there, opens, inside, outermost, body_of}
use Rattle.scope_rules.specs.Site.{Site, BindingSite, own_sites, opens_one, scope_count, sites, sites_of, bindings_among}
use Rattle.scope_rules.specs.Binding.{declared_by, named_in}
use Rattle.scope_rules.specs.Table.{Symbol, Scoping}
use Rattle.scope_table.specs.Reading.{no_symbol, symbol_at}
use Rattle.scope_laws.specs.Exact.{Among, IsDeclared, Exact}
use Rattle.scope_laws.specs.Lists.{is_list}
use Rattle.scope_laws.specs.Place.{plug}
use Rattle.scope_counts.specs.Counts.{Aims, hoisted, is_id, ids}
use Rattle.scope_counts.specs.Edits as counts
use Rattle.scope_counts.specs.Edits.{place_in, program_with, SameScopes, in_list}
use Rattle.scope_counts.specs.Exact.{count, references_of, lists_of}
use Rattle.scope_counts.specs.Losing.{left}
use Rattle.scope_counts.specs.Scopes.{ExactButMarks, unmarked}
use Rattle.scope_counts.proofs.Stays.{exact_without}
use Rattle.steps.specs.Allowed.Free.{IsFree}
use Rattle.steps.specs.Allowed.PassedExports.{AreFree, WithoutExport, export_leaves, leaves_behind, PassesIn}
use Rattle.steps.specs.Owed.Kept.{Shortens}
use Rattle.steps.specs.Naming.Standing.{is_export, exported_sites, exported_declarations}
use Rattle.steps.proofs.Marked.Referring.{unreferred}
use Rattle.steps.proofs.Marked.Tables.{pruned_exact}
use Rattle.steps.proofs.Naming.Sites.{binding_second, binding_third, bindings_append}
use Rattle.steps.proofs.Owed.MergedRows.{AreNames, no_names, a_name}
use Rattle.steps.proofs.Owed.PassedFits.{left_fits}
use Rattle.steps.proofs.Owed.PassedPlaces.{an_export, an_import, export_in, import_in, in_module, flat_listed, flat_holds}
use Rattle.steps.proofs.Owed.PassedRows.{AreListed, none_listed, one_listed}
use Rattle.steps.proofs.Owed.Places.{rest_of, inside_list, is_rooted}
use Rattle.steps.proofs.Owed.Pruning.{pruned, prunes, prunes_shorten}
use Rattle.rules.specs.DeadCode.Knows.{TellsExported, Knows}
use Rattle.rules.specs.DeadCode.Quiet.{IsExported, Exactly}
use Rattle.rules.specs.DeadCode.Rules.{Facts}
use Rattle.rules.proofs.DeadCode.Idle.{find}
use Rattle.rules.proofs.DeadCode.Leaving.{named_site}
use Rattle.rules.proofs.DeadCode.Silent.{AllDeclared}
use Rattle.rules.proofs.DeadCode.Unused.{exported_stands}
use Rattle.rules.specs.Imports.Passed.{is_number, has_reference, is_passed_alone, are_passed_alone}
use Rattle.rules.proofs.Imports.Leaving.{layer_stays}

-- ---- declarations below exports stay

listed_open_none : {t : Forest} → AreListed t → scope_count t ≡ 0
listed_open_none none_listed = refl
listed_open_none (one_listed exported n m x rest are) = Prim.omega (arith, listed_open_none are)

module _ (c : Context) where
  abbrev exported : ℕ → ℕ → Forest → List BindingSite
  exported at next t = bindings_among (exported_sites (λ i. c) at next t)

  abbrev own : Kind → (next : ℕ) → Forest → List Site
  own k next b = if is_export k then sites (inside c next k b) 0 (next + opens_one k b) b else exported_sites (inside c next k b) 0 (next + opens_one k b) b

  listed_bind_none : {listed : Forest} → AreListed listed → (at next : ℕ) → bindings_among (sites (λ i. c) at next listed) ≡ []
  listed_bind_none none_listed at next = refl
  listed_bind_none (one_listed exported n m x rest are) at next = listed_bind_none are (suc at) (next + scope_count (node (Kind.ExportSpecifier exported) n (node (Kind.ReferenceName x) m nothing nothing) nothing))

  exported_first : (k : Kind) (n : Note) (b t : Forest) (at next : ℕ) → exported at next (node k n b t) ≡ bindings_among (own k next b) ++ exported (suc at) (next + scope_count (node k n b nothing)) t
  exported_first k n b t at next = bindings_append (own k next b) (exported_sites (λ i. c) (suc at) (next + scope_count (node k n b nothing)) t)

  exported_anywhere : (i j next : ℕ) (t : Forest) → exported i next t ≡ exported j next t
  exported_anywhere i j next nothing = refl
  exported_anywhere i j next (absent t) = exported_anywhere (suc i) (suc j) next t
  exported_anywhere i j next (node k n b t) =
      exported_first k n b t i next ∙ ap (λ l. bindings_among (own k next b) ++ l) (exported_anywhere (suc i) (suc j) (next + scope_count (node k n b nothing)) t) ∙ sym (exported_first k n b t j next)

module _ (c : Context) where
  export_passed : {listed : Forest} → AreListed listed → (n m : Note) (t : Forest) (at next : ℕ) → exported c at next (node (export_named_declaration None) n (absent (node specifiers m listed nothing)) t) ≡ exported c (suc at) next t
  export_passed {listed = listed} are n m t at next =
      let below = absent (node specifiers m listed nothing) in
      let outer = inside c next (export_named_declaration None) below 1 in
      let opens_none : scope_count (node (export_named_declaration None) n below nothing) ≡ 0 = Prim.omega (arith, listed_open_none are) in
      exported_first c (export_named_declaration None) n below t at next
      ∙ ap (λ l. l ++ exported c (suc at) (next + scope_count (node (export_named_declaration None) n below nothing)) t)
      (bindings_append (sites (inside outer (next + 0) specifiers listed) 0 (next + 0 + 0) listed) [] ∙ ap (λ l. l ++ []) (listed_bind_none (inside outer (next + 0) specifiers listed 0) are 0 (next + 0 + 0)))
      ∙ ap (λ i. exported c (suc at) i t) (Prim.omega (arith, opens_none))

  row_exported : {listed r s : Forest} → AreListed listed → (i j next : ℕ) → WithoutExport listed r s → exported c i next s ≡ exported c j next r
  row_exported are i j next (export_leaves n m rest) = exported_anywhere c i (suc j) next rest ∙ sym (export_passed are n m rest j next)
  row_exported are i j next (leaves_behind k n below r s out) =
      exported_first c k n below s i next ∙ ap (λ l. bindings_among (own c k next below) ++ l) (row_exported are (suc i) (suc j) (next + scope_count (node k n below nothing)) out) ∙ sym (exported_first c k n below r j next)

same_exports : (n m : Note) {listed r s : Forest} → AreListed listed → WithoutExport listed r s → exported_declarations (module_of n m s) ≡ exported_declarations (module_of n m r)
same_exports n m {r = r} {s = s} are out =
    let top = inside outermost 0 (program source_type.Module) (node statements m s nothing) 0 in
    let c = inside top 1 statements s 0 in
    twice (exported_sites (λ i. c) 0 1 s) ∙ row_exported c are 0 0 1 out ∙ sym (twice (exported_sites (λ i. c) 0 1 r))
  where
    twice : (xs : List Site) → bindings_among ((xs ++ []) ++ []) ≡ bindings_among xs
    twice xs = ap bindings_among (append-nil (xs ++ []) ∙ append-nil xs)

-- ---- the export's references leave

abbrev Says : Bool → ℕ → Type 0
Says true n = 1 ≤ n
Says false n = n ≡ 0

one_says : (i : ℕ) (q : Option ℕ) (b : Bool) (c d : ℕ) → d ≡ is_id i q + c → Says b c → Says (is_number i q || b) d
one_says i None true c d is h = Prim.omega (arith, is, h)
one_says i None false c d is h = Prim.omega (arith, is, h)
one_says i (Some o) b c d is h = by (i == o) b is h
  where
    by : (e b : Bool) → d ≡ cond e 1 0 + c → Says b c → Says (e || b) d
    by true b is h = Prim.omega (arith, is)
    by false true is h = Prim.omega (arith, is, h)
    by false false is h = Prim.omega (arith, is, h)

reference_says : {listed : Forest} → AreListed listed → (i : ℕ) → Says (has_reference listed i) (ids i listed)
reference_says none_listed i = refl
reference_says (one_listed exported n m x rest are) i =
    one_says i m.id (has_reference rest i) (ids i rest) (ids i (node (Kind.ExportSpecifier exported) n (node (Kind.ReferenceName x) m nothing nothing) rest)) (Prim.omega arith) (reference_says are i)

left_by : (b : Bool) (c d e : ℕ) → d ≡ c + e → Says b c → nat_lt e d ≡ b
left_by true c d e is h = less e d (Prim.omega (arith, is, h))
  where
    less : (i j : ℕ) → i + 1 ≤ j → nat_lt i j ≡ true
    less i j h = Prim.grind arith
left_by false c d e is h = same e d (Prim.omega (arith, is, h))
  where
    same : (i j : ℕ) → i ≡ j → nat_lt i j ≡ false
    same i j h = Prim.grind arith

export_left : {listed : Forest} → AreListed listed → (n m : Note) (rest : Forest) (i : ℕ) → left (node (export_named_declaration None) n (absent (node specifiers m listed nothing)) rest) rest i ≡ has_reference listed i
export_left {listed = listed} are n m rest i =
    left_by (has_reference listed i) (ids i listed) (ids i (node (export_named_declaration None) n (absent (node specifiers m listed nothing)) rest)) (ids i rest) (Prim.omega arith) (reference_says are i)

listed_hoist : {listed : Forest} → AreListed listed → (aims : ℕ → Aims) (at : ℕ) → hoisted aims at listed ≡ []
listed_hoist none_listed aims at = refl
listed_hoist (one_listed exported n m x rest are) aims at = listed_hoist are aims (suc at)

-- ---- nodes around have the scopes that they had

module _ (t u : Forest) where
  same_front : (a : counts.Around) → in_list false a ≡ true → is_there (counts.plug a t) ≡ is_there (counts.plug a u)
  same_front counts.here e = absurd (true≢false (sym e))
  same_front (counts.behind k n b a) e = refl
  same_front (counts.behind_none a) e = refl
  same_front (counts.under k n a rest) e = refl

  same_second : (a : counts.Around) → in_list false a ≡ true → has_second (counts.plug a t) ≡ has_second (counts.plug a u)
  same_second counts.here e = absurd (true≢false (sym e))
  same_second (counts.behind k n b a) e = same_front a e
  same_second (counts.behind_none a) e = same_front a e
  same_second (counts.under k n a rest) e = refl

  listed_opens : (k : Kind) (a : counts.Around) → in_list (is_list k) a ≡ true → opens k (counts.plug a t) ≡ opens k (counts.plug a u)
  listed_opens (property_definition is_static key) a e = same_second a e
  listed_opens k a e = refl

  listed_scopes : (a : counts.Around) (row : Bool) → in_list row a ≡ true → SameScopes a t u
  listed_scopes counts.here row e = tt
  listed_scopes (counts.behind k n b a) row e = listed_scopes a row e
  listed_scopes (counts.behind_none a) row e = listed_scopes a row e
  listed_scopes (counts.under k n a rest) row e = (listed_opens k a e, listed_scopes a (is_list k) e)

-- ---- what is known of what is left

abbrev pub or_listed : (marked : ℕ → Bool) (listed : Forest) → ℕ → Bool
or_listed marked listed i = marked i || has_reference listed i

pub record LeftKnown (f : Facts) (marked : ℕ → Bool) (listed v : Forest) : Type 0 where
  pub fits : Fits root v
  pub exact : ExactButMarks f.scoping (or_listed marked listed) v
  pub exported : TellsExported f.exported v

module _ (f : Facts) (marked : ℕ → Bool) (n m : Note) {listed r s : Forest} (are : AreListed listed) (out : WithoutExport listed r s) (h : Knows f marked (module_of n m r)) where
  exact_left : ExactButMarks f.scoping (or_listed marked listed) (module_of n m s)
  exact_left =
      let e = export_in out in
      let a = in_module n m e.around in
      let x = an_export listed e.note e.list_note in
      let in_row = flat_listed e.around e.flat in
      let place = is_rooted a x (inside_list a in_row) refl in
      let p = place.rooted in
      let rest = rest_of a in
      let whole = node x.kind x.note x.below rest in
      let old : ExactButMarks f.scoping marked (program_with p whole) = subst (λ t. ExactButMarks f.scoping marked t) (ap (λ t. module_of n m t) (sym e.there) ∙ place.with_node x) h.exact in
      let in_it : in_list false (place_in p) ≡ true = sym place.listed ∙ in_row in
      subst (λ t. ExactButMarks f.scoping (or_listed marked listed) t) (sym place.with_none ∙ ap (λ t. module_of n m t) e.gone)
      (exact_without (λ z. false) p x.kind x.note x.below rest (λ aims d i. absurd (subst (λ l. Among d l) (ap (λ l. l ++ []) (listed_hoist are (λ i. aims) 0)) i)) (listed_scopes whole rest (place_in p) false in_it) in_it
      (λ z g. absurd (true≢false (sym g))) f.scoping marked (or_listed marked listed) (λ i. ap (λ b. marked i || b) (sym (export_left are e.note e.list_note rest i))) old)

  pub left_known : LeftKnown f marked listed (module_of n m s)
  left_known = record {
    fits = left_fits n m out h.fits;
    exact = exact_left;
    exported = λ e among first. h.exported e (subst (λ l. Among e l) (same_exports n m are out) among) first;
  }

-- ---- where the names of the import are declared

pub record SiteOf (v : Forest) (x : List ℕ) (q : Option ℕ) : Type 0 where
  pub site : BindingSite
  pub stands : Among site (bindings_among (sites_of v))
  pub same : declared_by site ≡ named_in x (body_of 0)
  pub has_mark : site.id ≡ q

abbrev pub Sites : (v names : Forest) → Type 0
Sites v nothing = Unit {0}
Sites v (absent rest) = Sites v rest
Sites v (node k n (node (binding_name x) m below beside) rest) = SiteOf v x m.id × Sites v rest
Sites v (node k n below rest) = Sites v rest

sites_there : (v : Forest) (c : Context) → c.declaring.layer ≡ body_of 0 → {names : Forest} → AreNames names → (at next : ℕ) → AllDeclared (bindings_among (sites_of v)) (sites (λ i. c) at next names) → Sites v names
sites_there v c here no_names at next all = tt
sites_there v c here (a_name k n m x rest binds names) at next all =
    let below = node (binding_name x) m nothing nothing in
    let fs = inside c next k below in
    let own = own_sites c n k below in
    let inner = sites fs 0 (next + opens_one k below) below in
    let outer = sites (λ i. c) (suc at) (next + scope_count (node k n below nothing)) rest in
    let d = named_site (fs 0) m x in (
      record { site = d; stands = all d (binding_second d own inner outer (inl refl)); same = ap (named_in x) (layer_stays c next k below binds ∙ here); has_mark = refl },
      sites_there v c here names (suc at) (next + scope_count (node k n below nothing)) (λ b g. all b (binding_third b own inner outer g)),
    )

pub import_sites : (n m : Note) {names r s z : Forest} → PassesIn names r s z → Sites (module_of n m s) names
import_sites n m {names = names} p =
    let i = import_in p in
    let a = in_module n m i.around in
    let x = an_import i.source names i.note i.list_note in
    let row = plug i.around (Some x) in
    let holds : Bool → Context → ℕ → Type 0 = λ w c next. c.block ≡ body_of 0 in
    let place = find a (Some x) holds (flat_holds (inside (inside outermost 0 (program source_type.Module) (node statements m row nothing) 0) 1 statements row 0) x holds (λ next. refl) 0 1 i.around i.flat) in
    let c = place.contexts place.at in
    let list = node specifiers i.list_note names nothing in
    let outer = inside c place.next (import_declaration i.source) list in
    let inner = inside (outer 0) (place.next + 0) specifiers names in
    subst (λ t. Sites (module_of n m t) names) i.there
    (sites_there (plug a (Some x)) (inner 0) place.holds_there i.names_are 0 (place.next + 0 + 0)
    (λ b g. place.bindings b (binding_second b [] (sites outer 0 (place.next + 0) list) [] (binding_second b [] (sites inner 0 (place.next + 0 + 0) names) [] g))))

-- ---- lists

count_it : (id : ℕ) (ids : List ℕ) → Among id ids → 1 ≤ count id ids
count_it id [] h = absurd h
count_it id (x ∷ ids) (inl e) = subst (λ b. 1 ≤ cond b 1 0 + count id ids) (sym (eq-eqb id x (sym e))) (Prim.omega arith)
count_it id (x ∷ ids) (inr h) = Prim.omega (arith, count_it id ids h)

counted : (id : ℕ) (ids : List ℕ) → 1 ≤ count id ids → Among id ids
counted id [] h = absurd (Prim.omega (arith, h))
counted id (x ∷ ids) h = by (id == x) refl h (λ l. counted id ids l)
  where
    by : (b : Bool) → (id == x) ≡ b → 1 ≤ cond b 1 0 + count id ids → (1 ≤ count id ids → Among id ids) → Among id (x ∷ ids)
    by true e l more = inl (sym (eqb-true id x e))
    by false e l more = inr (more (Prim.omega (arith, l)))

all_there : (g : ℕ → Bool) (ids : List ℕ) → list_all g ids ≡ true → (id : ℕ) → Among id ids → g id ≡ true
all_there g [] h id among = absurd among
all_there g (x ∷ ids) h id (inl e) = subst (λ z. g z ≡ true) e (and_parts (g x) (list_all g ids) h).0
all_there g (x ∷ ids) h id (inr among) = all_there g ids (and_parts (g x) (list_all g ids) h).1 id among

all_so : (g : ℕ → Bool) (ids : List ℕ) → ((id : ℕ) → Among id ids → g id ≡ true) → list_all g ids ≡ true
all_so g [] h = refl
all_so g (x ∷ ids) h = and_from (g x) (list_all g ids) (h x (inl refl)) (all_so g ids (λ id among. h id (inr among)))

-- a symbol's list, as it is read
read_so : (s : Scoping) (n : ℕ) (P : List ℕ → Type 0) → ((y : Symbol) → slice_get s.symbols n ≡ Some y → P (symbol_at s n).references → P y.references) → P [] → P (symbol_at s n).references → P (lists_of s n)
read_so s n P some none h = by (slice_get s.symbols n) refl
  where
    by : (o : Option Symbol) → slice_get s.symbols n ≡ o → P (references_of o)
    by None e = none
    by (Some y) e = some y e h

listed_so : (s : Scoping) (n : ℕ) (g : ℕ → Bool) → list_all g (symbol_at s n).references ≡ true → list_all g (lists_of s n) ≡ true
listed_so s n g h =
    read_so s n (λ l. list_all g l ≡ true) (λ y e k. subst (λ (z : Symbol). list_all g z.references ≡ true) (get_or_from_slice_get s.symbols n y no_symbol e) k) refl h

-- ---- what is told of a name

module _ (f : Facts) (marked : ℕ → Bool) (listed v : Forest) (k : LeftKnown f marked listed v) where
  -- nothing refers to one that is passed on alone
  free_number : (d : BindingSite) → Among d (bindings_among (sites_of v)) → (symbol : ℕ) → d.id ≡ Some symbol → list_all (has_reference listed) (symbol_at f.scoping symbol).references ≡ true → is_marked f.exported (Some symbol) ≡ false → IsFree v (declared_by d)
  free_number d stands symbol is alone apart =
      let exact = pruned_exact v k.fits (or_listed marked listed) f.scoping (pruned (or_listed marked listed) f.scoping) (prunes (or_listed marked listed) f.scoping) k.exact in
      record {
        unreferred = unreferred v k.fits f.scoping (or_listed marked listed) k.exact d stands symbol is
            (λ id l. second (marked id) (all_there (has_reference listed) (lists_of f.scoping symbol) (listed_so f.scoping symbol (has_reference listed) alone) id (counted id (lists_of f.scoping symbol) l)));
        unexported = λ e among first same.
            let one = (exact.one_symbol e d (exported_stands (λ at. outermost) 0 0 v e among) stands).1 same in
            true≢false (sym (k.exported e among first) ∙ ap (is_marked f.exported) (one ∙ is) ∙ apart);
      }
    where
      second : (b : Bool) {c : Bool} → c ≡ true → b || c ≡ true
      second true h = refl
      second false h = h

  free_site : (x : List ℕ) (q : Option ℕ) → SiteOf v x q → is_passed_alone f listed q ≡ true → IsFree v (named_in x (body_of 0))
  free_site x None o h = absurd (true≢false (sym h))
  free_site x (Some symbol) o h =
      let parts = and_parts (not (is_marked f.exported (Some symbol))) (list_all (has_reference listed) (symbol_at f.scoping symbol).references) h in
      subst (λ b. IsFree v b) o.same (free_number o.site o.stands symbol o.has_mark parts.1 (not_true (is_marked f.exported (Some symbol)) parts.0))

  pub are_free : {names : Forest} → AreNames names → Sites v names → are_passed_alone f listed names ≡ true → AreFree v names
  are_free no_names o h = tt
  are_free (a_name l n m x rest binds names) o h =
      let parts = and_parts (is_passed_alone f listed m.id) (are_passed_alone f listed rest) h in
      (free_site x m.id o.0 parts.0, are_free names o.1 parts.1)

-- ---- and where all is known exactly, one that nothing refers to is passed on alone

abbrev pub ExportedOnly : Facts → Forest → Type 0
ExportedOnly f v = (symbol : ℕ) → is_marked f.exported (Some symbol) ≡ true → IsExported v symbol

pub left_only : (f : Facts) (n m : Note) {listed r s : Forest} → AreListed listed → WithoutExport listed r s → Exactly f (module_of n m r) → ExportedOnly f (module_of n m s)
left_only f n m are out exactly symbol e =
    let o = exactly.exported symbol e in
    record { declaration = o.declaration; stands = subst (λ l. Among o.declaration l) (sym (same_exports n m are out)) o.stands; is_outermost = o.is_outermost; has_mark = o.has_mark }

as_it_is : (s : Scoping) → Shortens s s
as_it_is s = record { same_entries = refl; symbols = λ n y e. record { symbol = y; stood = e; listed = λ id h. h } }

module _ (f : Facts) (listed v : Forest) (k : LeftKnown f unmarked listed v) (only : ExportedOnly f v) where
  abbrev listing : ℕ → Bool
  listing = or_listed unmarked listed

  exact : Exact (pruned listing f.scoping) v
  exact = pruned_exact v k.fits listing f.scoping (pruned listing f.scoping) (prunes listing f.scoping) k.exact

  module _ (d : BindingSite) (stands : Among d (bindings_among (sites_of v))) (free : IsFree v (declared_by d)) where
    no_more : (i : IsDeclared (pruned listing f.scoping) d) (id : ℕ) → Among id (lists_of (pruned listing f.scoping) i.number) → ⊥
    no_more i id among =
        let named = ((exact.listed i.number i.symbol i.stands).holds id).0 (subst (λ o. Among id (references_of o)) i.stands among) in
        let same : declared_by named.names.declaration ≡ declared_by d = (exact.one_symbol named.names.declaration d named.names.stands stands).0 (named.names.is_marked ∙ sym i.is_marked) in
        free.unreferred named.reference named.stands (named.names.binds ∙ ap Some same)

    listed_here : (i : IsDeclared (pruned listing f.scoping) d) (id : ℕ) → 1 ≤ count id (lists_of f.scoping i.number) → has_reference listed id ≡ true
    listed_here i id some = by (has_reference listed id) ((prunes listing f.scoping).lists i.number id)
      where
        by : (b : Bool) → count id (lists_of (pruned listing f.scoping) i.number) ≡ cond b 0 (count id (lists_of f.scoping i.number)) → b ≡ true
        by true e = refl
        by false e = absurd (no_more i id (counted id (lists_of (pruned listing f.scoping) i.number) (Prim.omega (arith, e, some))))

    all_listed : (i : IsDeclared (pruned listing f.scoping) d) → list_all (has_reference listed) (symbol_at f.scoping i.number).references ≡ true
    all_listed i =
        let was = (prunes_shorten listing f.scoping f.scoping (as_it_is f.scoping)).symbols i.number i.symbol i.stands in
        subst (λ (y : Symbol). list_all (has_reference listed) y.references ≡ true) (sym (get_or_from_slice_get f.scoping.symbols i.number was.symbol no_symbol was.stood))
        (all_so (has_reference listed) was.symbol.references
        (λ id among. listed_here i id (subst (λ o. 1 ≤ count id (references_of o)) (sym was.stood) (count_it id was.symbol.references among))))

    not_exported : (i : IsDeclared (pruned listing f.scoping) d) → is_marked f.exported (Some i.number) ≡ false
    not_exported i = false_from_ne_true (is_marked f.exported (Some i.number))
        (λ g.
        let e = only i.number g in
        free.unexported e.declaration e.stands e.is_outermost ((exact.one_symbol e.declaration d (exported_stands (λ at. outermost) 0 0 v e.declaration e.stands) stands).0 (e.has_mark ∙ sym i.is_marked)))

    alone_number : is_passed_alone f listed d.id ≡ true
    alone_number =
        let i = exact.declared d stands in
        ap (is_passed_alone f listed) i.is_marked
        ∙ and_from (not (is_marked f.exported (Some i.number))) (list_all (has_reference listed) (symbol_at f.scoping i.number).references) (ap not (not_exported i)) (all_listed i)

  pub are_alone : {names : Forest} → AreNames names → Sites v names → AreFree v names → are_passed_alone f listed names ≡ true
  are_alone no_names o free = refl
  are_alone (a_name l n m x rest binds names) o free =
      and_from (is_passed_alone f listed m.id) (are_passed_alone f listed rest)
      (subst (λ q. is_passed_alone f listed q ≡ true) o.0.has_mark (alone_number o.0.site o.0.stands (subst (λ b. IsFree v b) (sym o.0.same) free.0))) (are_alone names o.1 free.1)
