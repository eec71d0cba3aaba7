-- What the edit on names of imports does to a core module is a step.
use Rattle.std.proofs.Common.{◌≡◌, ℕ, suc, ◌+◌, ◌==◌, Bool, true, false, ◌||◌, true≢false, List, [], if◌then◌else◌, Some, inl, refl, sym, subst}
use Rattle.std.proofs.lemmas.Bool.{false_from_ne_true}
use Rattle.js_syntax.specs.declared.node_kind.NodeKind.{NodeKind as Kind}
use Rattle.js_syntax.specs.declared.kind.FunctionKind.TheVariants as function_kind
use Rattle.js_syntax.specs.declared.kind.VariableKind.TheVariants as variable
use Rattle.js_syntax.specs.Node.{Forest, Tree, nothing, node, absent, Note}
use Rattle.js_meaning.specs.Value.{Text}
use Rattle.js_meaning.specs.Scope.{lexical, import_decls}
use Rattle.js_meaning.specs.Module.{names_in}
use Rattle.min_pass.specs.Around.{is_with}
use Rattle.steps.specs.Names.{is_among}
use Rattle.steps.specs.Steps as steps
use Rattle.steps.specs.Steps.{items, Around, entered, binds_import, Unbinds, unbinds_here, unbinds_below, unbinds_behind, unbinds_behind_absent, Step, unbinds, inside, behind_node, behind_absent}
use Rattle.steps.proofs.KeepRuns.Unbound.{dropped_among, unbound_decls}
use Rattle.scope_rules.specs.declared.layer.Layer.{Layer}
use Rattle.scope_rules.specs.Context.{Context, inside as inside_context, outermost as outermost_context}
use Rattle.scope_rules.specs.Site.{BindingSite, Site, own_sites, opens_one, scope_count, sites, bindings_among}
use Rattle.scope_rules.specs.Binding.{is_declared, named_in}
use Rattle.scope_laws.specs.Exact.{Among}
use Rattle.scope_laws.specs.Place.{Around as Place, first, behind, behind_none, under, one_place, plug, there}
use Rattle.scope_laws.specs.Lists.{without}
use Rattle.scope_laws.proofs.Around.{stands_there}
use Rattle.steps.specs.Naming.Placed.{Place as PlaceOf, no_node, names, specifiers, imports, sort_of, place_below, fits, well_placed, is_well_placed}
use Rattle.steps.proofs.Naming.Lists.{declared_left}
use Rattle.steps.proofs.Naming.Sites.{binding_second, placed_here, placed_below, placed_behind}
use Rattle.steps.proofs.Naming.Standing.{declarations_of}
use Rattle.steps.proofs.Naming.Unused.{declared, import_unused}
use Rattle.steps.specs.Allowed.Silent.{HoldsThere}
use Rattle.steps.specs.Allowed.Free.{IsFree, FreeDeclarator}
use Rattle.steps.specs.Allowed.Imports.{below_import, in_names, elsewhere, import_row_below, import_row, IsImported}
use Rattle.steps.specs.Allowed.Places.{At}
use Rattle.steps.specs.Owed.Good.{Good}
use Rattle.steps.proofs.Owed.AsSteps.{of_list}
use Rattle.steps.proofs.Owed.Focus.{not_alone, nothing_behind, something}
use Rattle.steps.proofs.Owed.Here.{good_below, Here, here_program, here_below, here_behind, here_absent}
use Rattle.steps.proofs.Owed.ImportFacts.{import_facts}
use Rattle.steps.proofs.Owed.ItemRows.{import_place}

-- ---- what stands below an import

no_names : elsewhere ≡ in_names → ⊥
no_names e = cc

not_below : below_import ≡ in_names → ⊥
not_below e = cc

-- no import stands where a name does
abbrev OnlyName : PlaceOf → Type 0
OnlyName names = Unit {0}
OnlyName no_node = Unit {0}
OnlyName p = ⊥

two_only : (b : Bool) → OnlyName (if b then names else no_node)
two_only true = tt
two_only false = tt

data IsBindingName : Kind → Type 0 where
  is_binding_name : (y : Text) → IsBindingName (Kind.BindingName y)

name_stands : (p : PlaceOf) (k : Kind) → OnlyName p → fits p (sort_of k) ≡ true → IsBindingName k
name_stands names (Kind.BindingName y) h e = is_binding_name y
name_stands names (Kind.VariableDeclaration variable.Var) h e = absurd (true≢false (sym e))
name_stands names (Kind.VariableDeclaration variable.Let) h e = absurd (true≢false (sym e))
name_stands names (Kind.VariableDeclaration variable.Const) h e = absurd (true≢false (sym e))
name_stands names (Kind.Function function_kind.Declaration pure) h e = absurd (true≢false (sym e))
name_stands names (Kind.Function function_kind.Expression pure) h e = absurd (true≢false (sym e))
name_stands names (Kind.Function function_kind.Arrow pure) h e = absurd (true≢false (sym e))
name_stands names k h e = absurd (true≢false (sym e))
name_stands no_node k h e = absurd (true≢false (sym e))
name_stands p k h e = absurd h

no_import_in : (places : ℕ → PlaceOf) → ((i : ℕ) → OnlyName (places i)) → (at : ℕ) (a : Place) (x : Tree) → well_placed places at (plug a (Some x)) ≡ true → import_row elsewhere a ≡ in_names → ⊥
no_import_in places only at (first rest) x w e = no_names e
no_import_in places only at (behind k n b a) x w e = no_import_in places only (suc at) a x (placed_behind places at k n b (plug a (Some x)) w) e
no_import_in places only at (behind_none a) x w e = no_import_in places only (suc at) a x w e
no_import_in places only at (under k n a rest) x w e =
    by (name_stands (places at) k (only at) (placed_here places at k n (plug a (Some x)) rest w)) (placed_below places at k n (plug a (Some x)) rest w) e (λ inner f. no_import_in (λ i. no_node) (λ i. tt) 0 a x inner f)
  where
    by : {j : Kind} → IsBindingName j → well_placed (place_below (places at) j) 0 (plug a (Some x)) ≡ true → import_row (import_row_below elsewhere j) a ≡ in_names
        → (well_placed (λ i. no_node) 0 (plug a (Some x)) ≡ true → import_row elsewhere a ≡ in_names → ⊥) → ⊥
    by (is_binding_name y) inner f none = none inner f

data IsSpecifiers : Kind → Type 0 where
  is_specifiers : IsSpecifiers Kind.Specifiers

specifiers_stand : (k : Kind) → fits specifiers (sort_of k) ≡ true → IsSpecifiers k
specifiers_stand Kind.Specifiers e = is_specifiers
specifiers_stand (Kind.VariableDeclaration variable.Var) e = absurd (true≢false (sym e))
specifiers_stand (Kind.VariableDeclaration variable.Let) e = absurd (true≢false (sym e))
specifiers_stand (Kind.VariableDeclaration variable.Const) e = absurd (true≢false (sym e))
specifiers_stand (Kind.Function function_kind.Declaration pure) e = absurd (true≢false (sym e))
specifiers_stand (Kind.Function function_kind.Expression pure) e = absurd (true≢false (sym e))
specifiers_stand (Kind.Function function_kind.Arrow pure) e = absurd (true≢false (sym e))
specifiers_stand k e = absurd (true≢false (sym e))

-- what stands among an import's names holds a name and nothing else
record IsImportName (k : Kind) : Type 0 where
  no_row : import_row_below in_names k ≡ elsewhere
  holds : (i : ℕ) → OnlyName (place_below imports k i)

imported_stands : (k : Kind) → fits imports (sort_of k) ≡ true → IsImportName k
imported_stands (Kind.ImportSpecifier name) e = record { no_row = refl; holds = λ i. two_only (i == 0) }
imported_stands Kind.ImportDefaultSpecifier e = record { no_row = refl; holds = λ i. two_only (i == 0) }
imported_stands Kind.ImportNamespaceSpecifier e = record { no_row = refl; holds = λ i. two_only (i == 0) }
imported_stands (Kind.VariableDeclaration variable.Var) e = absurd (true≢false (sym e))
imported_stands (Kind.VariableDeclaration variable.Let) e = absurd (true≢false (sym e))
imported_stands (Kind.VariableDeclaration variable.Const) e = absurd (true≢false (sym e))
imported_stands (Kind.Function function_kind.Declaration pure) e = absurd (true≢false (sym e))
imported_stands (Kind.Function function_kind.Expression pure) e = absurd (true≢false (sym e))
imported_stands (Kind.Function function_kind.Arrow pure) e = absurd (true≢false (sym e))
imported_stands k e = absurd (true≢false (sym e))

abbrev AllDeclared : List BindingSite → List Site → Type 0
AllDeclared all ss = (b : BindingSite) → Among b (bindings_among ss) → Among b all

-- the name leaves what lies below the import, is free in this layer, and is declared there
record Leaves (t : Forest) (x : Text) (l : Layer) (old new : Forest) : Type 0 where
  gone : Unbinds x old new
  free : IsFree t (named_in x l)
  is_there : is_declared (declarations_of t) l x ≡ true

more : {t : Forest} {x : Text} {l : Layer} {old new : Forest} (k : Kind) (n : Note) (b : Forest) → Leaves t x l old new → Leaves t x l (node k n b old) (node k n b new)
more k n b h = record { gone = unbinds_behind h.gone; free = h.free; is_there = h.is_there }

more_absent : {t : Forest} {x : Text} {l : Layer} {old new : Forest} → Leaves t x l old new → Leaves t x l (absent old) (absent new)
more_absent h = record { gone = unbinds_behind_absent h.gone; free = h.free; is_there = h.is_there }

module _ (k : Kind) (n m : Note) (x : Text) (binds : binds_import k ≡ true) where
  abbrev named : Forest
  named = node (Kind.BindingName x) m nothing nothing

  abbrev imported : Tree
  imported = record { kind = k; note = n; below = named }

  module _ (t : Forest) where
    abbrev IsFreeThere : Bool → Context → ℕ → Type 0
    IsFreeThere = FreeDeclarator t x

    is_declared_here : (cs : ℕ → Context) (at next : ℕ) → AllDeclared (declarations_of t) (sites cs at next (one_place (Some imported))) → is_declared (declarations_of t) (cs at).declaring.layer x ≡ true
    is_declared_here cs at next all =
        let ds = inside_context (cs at) next k named in
        let b : BindingSite = record { id = m.id; name = x; layer = (ds 0).declaring.layer; flags = (ds 0).declaring.flags; is_pure = (ds 0).declaring.is_pure; span = m.span } in
        subst (λ l. is_declared (declarations_of t) l x ≡ true) ((import_facts k n named binds).declaring (cs at) next)
        (declared (declarations_of t) b (all b (binding_second b (own_sites (cs at) n k named) (sites ds 0 (next + opens_one k named) named) [] (inl refl))))

    -- in the list
    of_names : (a : Place) (in_with : Bool) (cs : ℕ → Context) (at next : ℕ) (l : Layer) → well_placed (λ i. imports) at (plug a (Some imported)) ≡ true → import_row in_names a ≡ in_names → ((i : ℕ) → (cs i).declaring.layer ≡ l)
        → HoldsThere in_with cs at next a (Some imported) IsFreeThere → AllDeclared (declarations_of t) (there cs at next a (Some imported)) → Leaves t x l (plug a (Some imported)) (without a)
    of_names (first rest) in_with cs at next l w e same free all = record {
      gone = unbinds_here binds;
      free = subst (λ q. IsFree t (named_in x q)) (same at) free;
      is_there = subst (λ q. is_declared (declarations_of t) q x ≡ true) (same at) (is_declared_here cs at next all);
    }
    of_names (behind j i b a) in_with cs at next l w e same free all = more j i b (of_names a in_with cs (suc at) (next + scope_count (node j i b nothing)) l (placed_behind (λ i. imports) at j i b (plug a (Some imported)) w) e same free all)
    of_names (behind_none a) in_with cs at next l w e same free all = more_absent (of_names a in_with cs (suc at) next l w e same free all)
    of_names (under j i a rest) in_with cs at next l w e same free all =
        let s = imported_stands j (placed_here (λ i. imports) at j i (plug a (Some imported)) rest w) in
        absurd (no_import_in (place_below imports j) s.holds 0 a imported (placed_below (λ i. imports) at j i (plug a (Some imported)) rest w) (subst (λ r. import_row r a ≡ in_names) s.no_row e))

    -- below the import
    of_import : (a : Place) (in_with : Bool) (cs : ℕ → Context) (at next : ℕ) (l : Layer) → well_placed (λ i. specifiers) at (plug a (Some imported)) ≡ true → import_row below_import a ≡ in_names → ((i : ℕ) → (cs i).declaring.layer ≡ l)
        → HoldsThere in_with cs at next a (Some imported) IsFreeThere → AllDeclared (declarations_of t) (there cs at next a (Some imported)) → Leaves t x l (plug a (Some imported)) (without a)
    of_import (first rest) in_with cs at next l w e same free all = absurd (not_below e)
    of_import (behind j i b a) in_with cs at next l w e same free all = more j i b (of_import a in_with cs (suc at) (next + scope_count (node j i b nothing)) l (placed_behind (λ i. specifiers) at j i b (plug a (Some imported)) w) e same free all)
    of_import (behind_none a) in_with cs at next l w e same free all = more_absent (of_import a in_with cs (suc at) next l w e same free all)
    of_import (under j i a rest) in_with cs at next l w e same free all =
        by (specifiers_stand j (placed_here (λ i. specifiers) at j i (plug a (Some imported)) rest w)) (placed_below (λ i. specifiers) at j i (plug a (Some imported)) rest w) e free all
      where
        by : {h : Kind} → IsSpecifiers h → well_placed (place_below specifiers h) 0 (plug a (Some imported)) ≡ true → import_row (import_row_below below_import h) a ≡ in_names
            → HoldsThere (in_with || is_with h) (inside_context (cs at) next h (plug a (Some imported))) 0 (next + opens_one h (plug a (Some imported))) a (Some imported) IsFreeThere
            → AllDeclared (declarations_of t) (there (inside_context (cs at) next h (plug a (Some imported))) 0 (next + opens_one h (plug a (Some imported))) a (Some imported))
            → Leaves t x l (node h i (plug a (Some imported)) rest) (node h i (without a) rest)
        by is_specifiers inner f free there_all =
            let g = of_names a (in_with || false) (inside_context (cs at) next Kind.Specifiers (plug a (Some imported))) 0 (next + 0) l inner f (λ d. same at) free there_all in
            record { gone = unbinds_below g.gone; free = g.free; is_there = g.is_there }

    -- an import in a list
    import_step : (w : Around) (cs : ℕ → Context) (at next : ℕ) (in_with : Bool) (source : Text) (i : Note) (a : Place) (rest : Forest) → is_well_placed t ≡ true
        → Here t w cs at next (node (Kind.ImportDeclaration source) i (plug a (Some imported)) rest) → import_row below_import a ≡ in_names
        → HoldsThere in_with (inside_context (cs at) next (Kind.ImportDeclaration source) (plug a (Some imported))) 0 (next + 0) a (Some imported) IsFreeThere
        → AllDeclared (declarations_of t) (there (inside_context (cs at) next (Kind.ImportDeclaration source) (plug a (Some imported))) 0 (next + 0) a (Some imported))
        → Step w (node (Kind.ImportDeclaration source) i (plug a (Some imported)) rest) (node (Kind.ImportDeclaration source) i (without a) rest)
    import_step w cs at next in_with source i a rest placed h e free all =
        let below = plug a (Some imported) in
        let k = Kind.ImportDeclaration source in
        let row = node k i below rest in
        let items_row = h.rows at (import_place (h.places at) (placed_here h.places at k i below rest h.placed)) in
        let g = of_import a in_with (inside_context (cs at) next k below) 0 (next + 0) (cs at).block (placed_below h.places at k i below rest h.placed) e (λ d. refl) free all in
        let among : is_among (names_in (lexical row)) x ≡ true = declared_left (import_decls source below) (lexical rest) x (dropped_among (unbound_decls source g.gone)) in
        unbinds items_row
        (import_unused t w cs at next source x i below rest placed h.stands g.is_there (record {
          nothing_refers = g.free.unreferred;
          is_not_exported = g.free.unexported;
          is_seen = false_from_ne_true (is_among w.passing x) (of_list w.row w row items_row h.apart x among);
        }))
        g.gone

    step_there : (a : Place) (w : Around) (cs : ℕ → Context) (at next : ℕ) (in_with : Bool) → is_well_placed t ≡ true → Here t w cs at next (plug a (Some imported)) → import_row elsewhere a ≡ in_names
        → HoldsThere in_with cs at next a (Some imported) IsFreeThere → AllDeclared (declarations_of t) (there cs at next a (Some imported)) → Step w (plug a (Some imported)) (without a)
    step_there (first rest) w cs at next in_with placed h e free all = absurd (no_names e)
    step_there (behind j i b a) w cs at next in_with placed h e free all =
        behind_node (step_there a w cs (suc at) (next + scope_count (node j i b nothing)) in_with placed (here_behind t w cs at next j i b (plug a (Some imported)) h) e free all)
    step_there (behind_none a) w cs at next in_with placed h e free all = behind_absent (step_there a w cs (suc at) next in_with placed (here_absent t w cs at next (plug a (Some imported)) h) e free all)
    step_there (under (Kind.ImportDeclaration source) i a rest) w cs at next in_with placed h e free all = import_step w cs at next (in_with || false) source i a rest placed h e free all
    step_there (under Kind.Specifiers i a rest) w cs at next in_with placed h e free all =
        let below = plug a (Some imported) in
        inside (step_there a (entered w Kind.Specifiers below) (inside_context (cs at) next Kind.Specifiers below) 0 (next + opens_one Kind.Specifiers below) (in_with || false) placed (here_below t w cs at next Kind.Specifiers i below rest h) e free all)
    step_there (under j i a rest) w cs at next in_with placed h e free all =
        let below = plug a (Some imported) in
        inside (step_there a (entered w j below) (inside_context (cs at) next j below) 0 (next + opens_one j below) (in_with || is_with j) placed (here_below t w cs at next j i below rest h) e free all)

  -- of a program
  pub import_stepped : (a : Place) → is_well_placed (plug a (Some imported)) ≡ true → Good (plug a (Some imported)) → IsImported a → At a (Some imported) (FreeDeclarator (plug a (Some imported)) x) → Step steps.outermost (plug a (Some imported)) (without a)
  import_stepped (first rest) w good e free = absurd (not_alone k n named rest (import_facts k n named binds).no_program w)
  import_stepped (behind j i b a) w good e free = absurd (something a imported (nothing_behind j i b (plug a (Some imported)) w))
  import_stepped (behind_none a) w good e free = absurd (true≢false (sym w))
  import_stepped (under (Kind.Program source) i a nothing) w good e free =
      let p = Kind.Program source in
      let below = plug a (Some imported) in
      inside (step_there (node p i below nothing) a (entered steps.outermost p below) (inside_context outermost_context 0 p below) 0 1 false w (here_program source i below w (good_below p i below nothing good)) e free
      (stands_there (under p i a nothing) (Some imported)))
  import_stepped (under (Kind.Program source) i a (absent r)) w good e free = absurd (true≢false (sym w))
  import_stepped (under (Kind.Program source) i a (node j l c r)) w good e free = absurd (true≢false (sym w))
  import_stepped (under j i a rest) w good e free = absurd (true≢false (sym w))
