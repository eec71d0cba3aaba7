-- What no reference has as its binding is unused, wherever it is declared.
use Rattle.std.proofs.Common.{◌≡◌, ◌∙◌, ◌⊎◌, inl, inr, ℕ, suc, ◌+◌, Bool, true, false, ◌&&◌, ◌||◌, if◌then◌else◌, List, [], ◌∷◌, refl, sym, ap, ap₂, subst}
use Rattle.std.proofs.lemmas.Bool.{and_parts, and_from, or_left, or_right, false_from_ne_true, eq-eqb}
use Rattle.std.proofs.lemmas.Slice.Eq.{bytes_eq-Decides}
use Rattle.js_syntax.specs.declared.node_kind.NodeKind.{NodeKind as Kind}
use Rattle.js_syntax.specs.declared.scalar.SourceType.{SourceType}
use Rattle.js_syntax.specs.Node.{Forest, nothing, node, absent, Note}
use Rattle.js_syntax.specs.declared.kind.VariableKind.{VariableKind}
use Rattle.js_syntax.specs.declared.kind.VariableKind.TheVariants as variable
use Rattle.js_syntax.specs.declared.kind.FunctionKind.TheVariants as function_kind
use Rattle.form_rules.specs.Context.{is_module, is_strict_list}
use Rattle.js_meaning.specs.Value.{Text}
use Rattle.steps.specs.Names.{is_among, refers}
use Rattle.steps.specs.Steps.{Row, items, of_item, declarators, other, is_single, row_below, Around, entered, outermost, is_used}
use Rattle.scope_rules.specs.SymbolFlags as symbol_flag
use Rattle.scope_rules.specs.declared.layer.Layer.{Layer}
use Rattle.scope_rules.specs.declared.layer.Part.{Part}
use Rattle.scope_rules.specs.declared.layer.Part.TheVariants.{OwnName as own_name, Parameters as parameters_part, Body as body}
use Rattle.scope_rules.specs.Context.{Context, inside, body_of, in_body, below_it, in_variables, outermost as outermost_context}
use Rattle.scope_rules.specs.Site.{BindingSite, ReferenceSite, own_sites, opens_one, scope_count, sites, bindings_among, references_among}
use Rattle.scope_rules.specs.Binding.{same_part, same_layer, is_declared, named_in, declared_by}
use Rattle.scope_laws.specs.Exact.{Among}
use Rattle.steps.specs.Naming.Placed.{Sort, Place, a_declaration, an_import, a_declarator, program_list, others, sort_of, place_below, well_placed, is_well_placed}
use Rattle.steps.specs.Naming.Agreeing.{Agrees}
use Rattle.scope_laws.proofs.Bindings.{Declares}
use Rattle.steps.proofs.Naming.Exporting.{no_exports, program_exports}
use Rattle.steps.specs.Naming.Standing.{Stands, program, below, behind_node, behind_absent, exported_declarations, layer_of, NothingRefers, IsUnused}
use Rattle.steps.proofs.Naming.Sites.{reference_second, reference_third, binding_second, binding_third, placed_here, placed_below, placed_behind}
use Rattle.steps.proofs.Naming.Agreeing.{well_placed_agrees}
use Rattle.steps.proofs.Naming.Referring.{HasReference}
use Rattle.steps.proofs.Naming.Standing.{declarations_of, references_of, Answers, Top, inside_top, needs_block, needs_variables, Settled, AllSettled, settled_from, answers_in, settled_below}
use Rattle.js_syntax.proofs.Truth.{neither}

-- ---- rows of declarators declare as their declaration says

abbrev pub RowDeclares : Row → (cs : ℕ → Context) → Type 0
RowDeclares (of_item how) cs = (i : ℕ) → (cs i).declaring.layer ≡ layer_of how (cs i)
RowDeclares (declarators how) cs = (i : ℕ) → (cs i).declaring.layer ≡ layer_of how (cs i)
RowDeclares row cs = Unit {0}

of_declaration : (c : Context) (how : VariableKind) → (in_variables c how).declaring.layer ≡ layer_of how (in_variables c how)
of_declaration c variable.Var = refl
of_declaration c variable.Let = refl
of_declaration c variable.Const = refl

same_layer_of : (c : Context) (how : VariableKind) → layer_of how (below_it c) ≡ layer_of how c
same_layer_of c variable.Var = refl
same_layer_of c variable.Let = refl
same_layer_of c variable.Const = refl

of_declarators : (how : VariableKind) (c : Context) (single : Bool) → c.declaring.layer ≡ layer_of how c → RowDeclares (if single then other else declarators how) (λ i. below_it c)
of_declarators how c true h = tt
of_declarators how c false h = λ i. h ∙ sym (same_layer_of c how)

row_declares : (row : Row) (cs : ℕ → Context) (at next : ℕ) (k : Kind) (a : Forest) → RowDeclares row cs → RowDeclares (row_below row k a) (inside (cs at) next k a)
row_declares items cs at next (Kind.VariableDeclaration how) a h = λ i. of_declaration (cs at) how
row_declares (of_item how) cs at next Kind.Declarators a h = of_declarators how (cs at) (is_single a) (h at)
row_declares row cs at next Kind.Statements a h = tt
row_declares row cs at next k a h = tt

pub entered_row : (w : Around) (k : Kind) (a : Forest) → (entered w k a).row ≡ row_below w.row k a
entered_row w (Kind.Program source) a = refl
entered_row w (Kind.Function f pure) a = refl
entered_row w k a = refl

-- what holds wherever a row stands
pub record Holds (t : Forest) (w : Around) (cs : ℕ → Context) (at next : ℕ) (row : Forest) : Type 0 where
  pub places : ℕ → Place
  pub placed : well_placed places at row ≡ true
  pub agreed : Agrees (declarations_of t) next row
  pub declarations : (b : BindingSite) → Among b (bindings_among (sites cs at next row)) → Among b (declarations_of t)
  pub references : (r : ReferenceSite) → Among r (references_among (sites cs at next row)) → Among r (references_of t)
  pub tops : (i : ℕ) → Top (cs i)
  pub settled : AllSettled t w cs at row
  pub declares : RowDeclares w.row cs

holds_program : (source : SourceType) (n : Note) (a : Forest) → is_well_placed (node (Kind.Program source) n a nothing) ≡ true
    → Holds (node (Kind.Program source) n a nothing) (entered outermost (Kind.Program source) a) (inside outermost_context 0 (Kind.Program source) a) 0 1 a
holds_program source n a w = record {
  places = λ i. program_list;
  placed = placed;
  agreed = agreed;
  declarations = declarations;
  references = references;
  tops = tops;
  settled = settled_from t (entered outermost (Kind.Program source) a) (λ i. program_list) cs 0 a (λ i s f. record { block = λ h. inner; variables = λ h. inner }) placed;
  declares = tt;
}
  where
    t : Forest
    t = node (Kind.Program source) n a nothing

    cs : ℕ → Context
    cs i = in_body outermost_context 0 (is_module source || is_strict_list a)

    placed : well_placed (λ i. program_list) 0 a ≡ true
    placed = (and_parts (well_placed (place_below others (Kind.Program source)) 0 a) _ w).0

    agreed : Agrees (declarations_of t) 1 a
    agreed = (well_placed_agrees t w).1

    declarations : (b : BindingSite) → Among b (bindings_among (sites cs 0 1 a)) → Among b (declarations_of t)
    declarations b h = binding_second b (own_sites outermost_context n (Kind.Program source) a) (sites cs 0 1 a) [] h

    references : (r : ReferenceSite) → Among r (references_among (sites cs 0 1 a)) → Among r (references_of t)
    references r h = reference_second r (own_sites outermost_context n (Kind.Program source) a) (sites cs 0 1 a) [] h

    tops : (i : ℕ) → Top (cs i)
    tops i = record { rest = []; is = refl }

    inner : Answers t a (body_of 0)
    inner = answers_in t (λ i. program_list) cs 1 a (body_of 0) (record { placed = placed; agreed = agreed; references = references; exported = λ x e. (refl, program_exports source n a x w e) }) (λ i. refl) tops

below_second : (t : Forest) (cs : ℕ → Context) (at next : ℕ) (k : Kind) (n : Note) (a r : Forest) → ((s : ReferenceSite) → Among s (references_among (sites cs at next (node k n a r))) → Among s (references_of t))
    → (s : ReferenceSite) → Among s (references_among (sites (inside (cs at) next k a) 0 (next + opens_one k a) a)) → Among s (references_of t)
below_second t cs at next k n a r h s g = h s (reference_second s (own_sites (cs at) n k a) (sites (inside (cs at) next k a) 0 (next + opens_one k a) a) (sites cs (suc at) (next + scope_count (node k n a nothing)) r) g)

holds_below : (t : Forest) (w : Around) (cs : ℕ → Context) (at next : ℕ) (k : Kind) (n : Note) (a r : Forest) → Holds t w cs at next (node k n a r) → Holds t (entered w k a) (inside (cs at) next k a) 0 (next + opens_one k a) a
holds_below t w cs at next k n a r h = record {
  places = place_below (h.places at) k;
  placed = placed_below h.places at k n a r h.placed;
  agreed = h.agreed.1;
  declarations = λ b g. h.declarations b (binding_second b (own_sites (cs at) n k a) (sites (inside (cs at) next k a) 0 (next + opens_one k a) a) (sites cs (suc at) (next + scope_count (node k n a nothing)) r) g);
  references = below_second t cs at next k n a r h.references;
  tops = λ i. inside_top (h.places at) (cs at) next k a i (placed_here h.places at k n a r h.placed) (h.tops at);
  settled = settled_from t (entered w k a) (place_below (h.places at) k) (inside (cs at) next k a) 0 a
      (settled_below t w (h.places at) (cs at) next k a (placed_here h.places at k n a r h.placed) (h.tops at) h.settled.0
      (λ l inner. record {
        placed = placed_below h.places at k n a r h.placed;
        agreed = h.agreed.1;
        references = below_second t cs at next k n a r h.references;
        exported = λ x e. absurd (no_exports x (place_below (h.places at) k) 0 a inner (placed_below h.places at k n a r h.placed) e);
      }))
      (placed_below h.places at k n a r h.placed);
  declares = subst (λ row. RowDeclares row (inside (cs at) next k a)) (sym (entered_row w k a)) (row_declares w.row cs at next k a h.declares);
}

holds_behind : (t : Forest) (w : Around) (cs : ℕ → Context) (at next : ℕ) (k : Kind) (n : Note) (a r : Forest) → Holds t w cs at next (node k n a r) → Holds t w cs (suc at) (next + scope_count (node k n a nothing)) r
holds_behind t w cs at next k n a r h = record {
  places = h.places;
  placed = placed_behind h.places at k n a r h.placed;
  agreed = h.agreed.2;
  declarations = λ b g. h.declarations b (binding_third b (own_sites (cs at) n k a) (sites (inside (cs at) next k a) 0 (next + opens_one k a) a) (sites cs (suc at) (next + scope_count (node k n a nothing)) r) g);
  references = λ s g. h.references s (reference_third s (own_sites (cs at) n k a) (sites (inside (cs at) next k a) 0 (next + opens_one k a) a) (sites cs (suc at) (next + scope_count (node k n a nothing)) r) g);
  tops = h.tops;
  settled = h.settled.1;
  declares = h.declares;
}

pub holds : (t : Forest) (w : Around) (cs : ℕ → Context) (at next : ℕ) (row : Forest) → is_well_placed t ≡ true → Stands t w cs at next row → Holds t w cs at next row
holds t w cs at next row placed (program {source = source} {n = n} {a = a} e) =
    subst (λ u. is_well_placed u ≡ true → Holds u (entered outermost (Kind.Program source) a) (inside outermost_context 0 (Kind.Program source) a) 0 1 a) (sym e) (holds_program source n a) placed
holds t w cs at next row placed (below {w = v} {contexts = ds} {at = i} {next = m} {k = k} {n = n} {a = a} {r = r} h) = holds_below t v ds i m k n a r (holds t v ds i m (node k n a r) placed h)
holds t w cs at next row placed (behind_node {w = v} {contexts = ds} {at = i} {next = m} {k = k} {n = n} {a = a} {r = r} h) = holds_behind t v ds i m k n a r (holds t v ds i m (node k n a r) placed h)
holds t w cs at next row placed (behind_absent {w = v} {contexts = ds} {at = i} {next = m} {r = r} h) =
    let g = holds t v ds i m (absent r) placed h in
    record { places = g.places; placed = g.placed; agreed = g.agreed; declarations = g.declarations; references = g.references; tops = g.tops; settled = g.settled; declares = g.declares }

-- ---- a declaration in a list

same_part_itself : (p : Part) → same_part p p ≡ true
same_part_itself own_name = refl
same_part_itself parameters_part = refl
same_part_itself body = refl

same_layer_itself : (l : Layer) → same_layer l l ≡ true
same_layer_itself l = and_from _ (same_part l.part l.part) (eq-eqb l.scope l.scope refl) (same_part_itself l.part)

pub declared : (bs : List BindingSite) (b : BindingSite) → Among b bs → is_declared bs b.layer b.name ≡ true
declared [] b h = absurd h
declared (d ∷ bs) b (inl e) = subst (λ (s : BindingSite). is_declared (d ∷ bs) s.layer s.name ≡ true) e
    (or_left (same_layer d.layer d.layer && _) (is_declared bs d.layer d.name) (and_from (same_layer d.layer d.layer) _ (same_layer_itself d.layer) ((bytes_eq-Decides d.name d.name).1 refl)))
declared (d ∷ bs) b (inr h) = or_right (same_layer d.layer b.layer && _) (is_declared bs b.layer b.name) (declared bs b h)

-- ---- unused

answered : (t : Forest) (row : Forest) (l : Layer) (x : Text) → Answers t row l → is_declared (declarations_of t) l x ≡ true → NothingRefers t (named_in x l) → ((b : BindingSite) → Among b (exported_declarations t) → b.layer.scope ≡ 0 → declared_by b ≡ named_in x l → ⊥) → refers x row ≡ false
answered t row l x h e none unexported = false_from_ne_true (refers x row) (λ g. by (h x e g))
  where
    by : ((l.scope ≡ 0) × Declares (exported_declarations t) l x) ⊎ HasReference (declarations_of t) (named_in x l) (references_of t) → ⊥
    by (inl f) = unexported f.1.site f.1.stands (ap (λ (m : Layer). m.scope) f.1.layer ∙ f.0) (ap₂ named_in f.1.name f.1.layer)
    by (inr f) = none f.reference f.stands f.binds

pub unused_so : (t : Forest) (w : Around) (c : Context) (how : VariableKind) (x : Text) (s : Sort) → Settled t w c s → needs_block s ≡ true → needs_variables s ≡ true → is_declared (declarations_of t) (layer_of how c) x ≡ true → IsUnused t w c how x → is_used w how x ≡ false
unused_so t w c variable.Var x s h needs needs_too e u = neither (refers x w.variables) (is_among w.inner x) (answered t w.variables c.variables x (h.variables needs_too) e u.nothing_refers u.is_not_exported) u.is_seen
unused_so t w c variable.Let x s h needs needs_too e u = neither (refers x w.block) (is_among w.passing x) (answered t w.block c.block x (h.block needs) e u.nothing_refers u.is_not_exported) u.is_seen
unused_so t w c variable.Const x s h needs needs_too e u = neither (refers x w.block) (is_among w.passing x) (answered t w.block c.block x (h.block needs) e u.nothing_refers u.is_not_exported) u.is_seen

-- ---- at the places of steps

-- the site of the first name of a row stands in it
first_site : (cs : ℕ → Context) (next : ℕ) (x : Text) (m : Note) (a v : Forest)
    → Among (record { id = m.id; name = x; layer = (cs 0).declaring.layer; flags = (cs 0).declaring.flags; is_pure = (cs 0).declaring.is_pure; span = m.span }) (bindings_among (sites cs 0 next (node (Kind.BindingName x) m a v)))
first_site cs next x m a v = inl refl

abbrev named_site : Context → Note → Text → BindingSite
named_site c m x = record { id = m.id; name = x; layer = c.declaring.layer; flags = c.declaring.flags; is_pure = c.declaring.is_pure; span = m.span }

pub function_unused : (t : Forest) (w : Around) (cs : ℕ → Context) (at next : ℕ) (pure : Bool) (x : Text) (n m : Note) (a b r : Forest) → is_well_placed t ≡ true
    → Stands t w cs at next (node (Kind.Function function_kind.Declaration pure) n (node (Kind.BindingName x) m a b) r) → IsUnused t w (cs at) variable.Let x → is_used w variable.Let x ≡ false
function_unused t w cs at next pure x n m a b r placed stands u =
    let h = holds t w cs at next _ placed stands in
    let g = holds_below t w cs at next (Kind.Function function_kind.Declaration pure) n (node (Kind.BindingName x) m a b) r h in
    unused_so t w (cs at) variable.Let x a_declaration h.settled.0 refl refl
    (declared (declarations_of t) (record { id = m.id; name = x; layer = (cs at).block; flags = symbol_flag.function; is_pure = pure; span = m.span })
    (g.declarations _ (first_site (inside (cs at) next (Kind.Function function_kind.Declaration pure) (node (Kind.BindingName x) m a b)) (next + 1) x m a b)))
    u

pub declarator_unused : (t : Forest) (w : Around) (cs : ℕ → Context) (at next : ℕ) (how : VariableKind) (x : Text) (n m : Note) (a v r : Forest) → is_well_placed t ≡ true → w.row ≡ declarators how
    → Stands t w cs at next (node Kind.VariableDeclarator n (node (Kind.BindingName x) m a v) r) → IsUnused t w (cs at) how x → is_used w how x ≡ false
declarator_unused t w cs at next how x n m a v r placed is stands u =
    let h = holds t w cs at next _ placed stands in
    let g = holds_below t w cs at next Kind.VariableDeclarator n (node (Kind.BindingName x) m a v) r h in
    let layer = subst (λ row. RowDeclares row cs) is h.declares at in
    unused_so t w (cs at) how x a_declarator h.settled.0 refl refl
    (subst (λ l. is_declared (declarations_of t) l x ≡ true) layer
    (declared (declarations_of t) (named_site (cs at) m x) (g.declarations _ (first_site (inside (cs at) next Kind.VariableDeclarator (node (Kind.BindingName x) m a v)) (next + 0) x m a v))))
    u

needs_both : (how : VariableKind) → (needs_block (sort_of (Kind.VariableDeclaration how)) ≡ true) × (needs_variables (sort_of (Kind.VariableDeclaration how)) ≡ true)
needs_both variable.Var = (refl, refl)
needs_both variable.Let = (refl, refl)
needs_both variable.Const = (refl, refl)

layer_below : (c : Context) (how : VariableKind) → (below_it (in_variables c how)).declaring.layer ≡ layer_of how c
layer_below c variable.Var = refl
layer_below c variable.Let = refl
layer_below c variable.Const = refl

pub declaration_unused : (t : Forest) (w : Around) (cs : ℕ → Context) (at next : ℕ) (how : VariableKind) (x : Text) (n m l j : Note) (a v b r : Forest) → is_well_placed t ≡ true
    → Stands t w cs at next (node (Kind.VariableDeclaration how) n (node Kind.Declarators m (node Kind.VariableDeclarator l (node (Kind.BindingName x) j a v) nothing) b) r) → IsUnused t w (cs at) how x → is_used w how x ≡ false
declaration_unused t w cs at next how x n m l j a v b r placed stands u =
    let h = holds t w cs at next _ placed stands in
    let needs = needs_both how in
    let declarator = node Kind.VariableDeclarator l (node (Kind.BindingName x) j a v) nothing in
    let c = in_variables (cs at) how in
    let ds = inside (cs at) next (Kind.VariableDeclaration how) (node Kind.Declarators m declarator b) in
    let es = inside c (next + 0) Kind.Declarators declarator in
    let fs = inside (below_it c) (next + 0 + 0) Kind.VariableDeclarator (node (Kind.BindingName x) j a v) in
    let g = holds_below t (entered w (Kind.VariableDeclaration how) (node Kind.Declarators m declarator b)) ds 0 (next + 0) Kind.Declarators m declarator b (holds_below t w cs at next (Kind.VariableDeclaration how) n (node Kind.Declarators m declarator b) r h) in
    let f = holds_below t _ es 0 (next + 0 + 0) Kind.VariableDeclarator l (node (Kind.BindingName x) j a v) nothing g in
    unused_so t w (cs at) how x (sort_of (Kind.VariableDeclaration how)) h.settled.0 needs.0 needs.1
    (subst (λ y. is_declared (declarations_of t) y x ≡ true) (layer_below (cs at) how)
    (declared (declarations_of t) (named_site (below_it (in_variables (cs at) how)) j x) (f.declarations _ (first_site fs (next + 0 + 0 + 0) x j a v))))
    u

-- the scope around an import has the name
pub import_unused : (t : Forest) (w : Around) (cs : ℕ → Context) (at next : ℕ) (source x : Text) (n : Note) (a r : Forest) → is_well_placed t ≡ true → Stands t w cs at next (node (Kind.ImportDeclaration source) n a r)
    → is_declared (declarations_of t) (cs at).block x ≡ true → IsUnused t w (cs at) variable.Let x → is_used w variable.Let x ≡ false
import_unused t w cs at next source x n a r placed stands e u = let h = holds t w cs at next _ placed stands in unused_so t w (cs at) variable.Let x an_import h.settled.0 refl refl e u
