-- Where a core module passes on what it imports in front of an import that nothing refers to, the import's names leave one by one, and then
-- the import, whose module is asked for in front of it: the module does the same.
use Rattle.std.proofs.Common.{◌≡◌, ◌∙◌, ◌⊎◌, inl, inr, ◌≤◌, ◌+◌, ℕ, suc, List, [], ◌∷◌, ◌++◌, Bool, true, false, true≢false, ◌&&◌, ◌||◌, if◌then◌else◌, bytes_eq, Some, None, arith, refl, sym, ap, ap₂, subst}
use Rattle.std.proofs.lemmas.Bool.{and_parts}
use Rattle.std.proofs.lemmas.List.{append_assoc}
use Rattle.std.proofs.lemmas.Slice.Eq.{bytes_eq-Decides}
use Rattle.js_syntax.specs.declared.node_kind.NodeKind.{NodeKind as Kind}
use Rattle.js_syntax.specs.declared.kind.VariableKind.TheVariants as variable
use Rattle.js_syntax.specs.declared.scalar.SourceType.TheVariants as source_type
use Rattle.js_syntax.specs.Facts.{is_core}
use Rattle.js_syntax.specs.Node.{Forest, Tree, Note, nothing, node, absent, alone}
use Rattle.js_syntax.proofs.Truth.{both, neither, first_of_neither, second_of_neither}
use Rattle.js_meaning.specs.Value.{Text, this_name}
use Rattle.js_meaning.specs.Scope.{ready, linked, Decl, decl, all_so, import_decls, item_decls, lexical, vars_of, var_names, module_decls}
use Rattle.js_meaning.specs.Kept.{Refined}
use Rattle.js_meaning.proofs.Kept.{refined_joined}
use Rattle.js_meaning_near.specs.Avoid.{CellIf, HasCells, declares, InPlace}
use Rattle.js_meaning_near.specs.Fit.{whole}
use Rattle.js_meaning_near.specs.Near as near
use Rattle.js_meaning_near.specs.Near.{module_of}
use Rattle.scope_rules.specs.Context.{Context, inside, outermost as outermost_context, body_of}
use Rattle.scope_rules.specs.Site.{scope_count, sites, sites_of, bindings_among}
use Rattle.scope_rules.specs.Binding.{is_declared, named_in}
use Rattle.scope_laws.specs.Place.{Around, first, behind, behind_none, under, plug}
use Rattle.scope_laws.specs.Lists.{without}
use Rattle.steps.specs.Names.{is_among, refers_at, refers}
use Rattle.steps.specs.Steps as steps
use Rattle.steps.specs.Steps.{items, Unbinds, unbinds_here, unbinds_below, Step, unbinds, behind_node, behind_absent, is_used, all_core}
use Rattle.steps.specs.Allowed.Free.{IsFree}
use Rattle.steps.specs.Allowed.PassedExports.{AreFree, WithoutExport, export_leaves, leaves_behind, PassesIn, passes_here, passes_behind}
use Rattle.steps.specs.Allowed.RepeatedImport.{asks_for, is_asked_before}
use Rattle.steps.specs.Fit.Clear.{times}
use Rattle.steps.specs.Fit.Sensible.{IsSensibleModule}
use Rattle.steps.specs.KeepRuns.Drop.{of_block, dropped}
use Rattle.steps.specs.KeepRuns.Formed.{holds_well, calm, is_formed}
use Rattle.steps.specs.KeepRuns.Many.{CoreSteps, no_step, one_step}
use Rattle.steps.specs.KeepRuns.Once.{OnceAt, OnceIn, Once}
use Rattle.steps.specs.Naming.Placed.{Place, module_items, program_list, imports, others, sort_of, place_below, fits, well_placed, has_plain_value, has_plain_values, is_well_placed}
use Rattle.steps.specs.Naming.Standing.{Stands, program, below as stands_below, behind_node as stands_behind, behind_absent as stands_behind_absent}
use Rattle.steps.specs.Owed.Seeking.{Within}
use Rattle.steps.proofs.Fit.Held.{core_here, core_below, core_behind}
use Rattle.steps.proofs.Fit.Bound.{plain_here, plain_below, plain_behind}
use Rattle.steps.proofs.Fit.Lists.{times_joined}
use Rattle.steps.proofs.KeepRuns.Binding.{undeclared_left, undeclared_right, undeclared_so, Free, row_free, items_place, row_binds}
use Rattle.steps.proofs.KeepRuns.Calm.{form_holds, form_below, form_behind}
use Rattle.steps.proofs.KeepRuns.Many.{module_many}
use Rattle.steps.proofs.KeepRuns.Modules.{top}
use Rattle.steps.proofs.KeepRuns.Names.{declares_among}
use Rattle.steps.proofs.Naming.Sites.{placed_here, placed_below, placed_behind}
use Rattle.steps.proofs.Naming.Unused.{declared, import_unused}
use Rattle.steps.proofs.Owed.MergedRows.{AreNames, no_names, a_name}
use Rattle.steps.proofs.Owed.MergedRuns.{no_variables}
use Rattle.steps.proofs.Owed.PassedPlaces.{an_import, put_before, before_flat, before_alone, export_in, export_out, import_in}
use Rattle.steps.proofs.Owed.PassedRows.{ArePassed, none_passed, one_passed, IsNew, new_names, new_namespace, parts}
use Rattle.steps.proofs.Owed.PassedRuns.{Named, named_here, named_behind, text_of_kind, import_here, cells_behind, lexical_before, lexical_after, lexical_around, passed_vars, new_requests, between, between_refines}
use Rattle.steps.proofs.Owed.PassedSheds.{left_sensible}
use Rattle.steps.proofs.Owed.RepeatedRuns.{is_flat, flat_refines}
use Rattle.steps.proofs.Owed.Seeking.{within_below, within_later, Declares}
use Rattle.steps.proofs.Owed.Unexported.{name_stands}

-- ---- what an import's names have nothing of

names_refer : (x : Text) {t : Forest} → AreNames t → refers x t ≡ false
names_refer x no_names = refl
names_refer x (a_name (Kind.ImportSpecifier imported) n m y rest h are) = names_refer x are
names_refer x (a_name Kind.ImportDefaultSpecifier n m y rest h are) = names_refer x are
names_refer x (a_name Kind.ImportNamespaceSpecifier n m y rest h are) = names_refer x are
names_refer x (a_name k n m y rest h are) = absurd (true≢false (sym h))

names_placed : {t : Forest} → AreNames t → (at : ℕ) → well_placed (λ i. imports) at t ≡ true
names_placed no_names at = refl
names_placed (a_name (Kind.ImportSpecifier imported) n m y rest h are) at = names_placed are (suc at)
names_placed (a_name Kind.ImportDefaultSpecifier n m y rest h are) at = names_placed are (suc at)
names_placed (a_name Kind.ImportNamespaceSpecifier n m y rest h are) at = names_placed are (suc at)
names_placed (a_name k n m y rest h are) at = absurd (true≢false (sym h))

names_plain : {t : Forest} → AreNames t → has_plain_values t ≡ true
names_plain no_names = refl
names_plain (a_name (Kind.ImportSpecifier imported) n m y rest h are) = names_plain are
names_plain (a_name Kind.ImportDefaultSpecifier n m y rest h are) = names_plain are
names_plain (a_name Kind.ImportNamespaceSpecifier n m y rest h are) = names_plain are
names_plain (a_name k n m y rest h are) = absurd (true≢false (sym h))

-- ---- what is said of what comes in

passed_refer : (x : Text) {t : Forest} → ArePassed t → refers x t ≡ false
passed_refer x none_passed = refl
passed_refer x (one_passed imported exported n rest are) = passed_refer x are

passed_placed : {t : Forest} → ArePassed t → (at : ℕ) → well_placed (λ i. others) at t ≡ true
passed_placed none_passed at = refl
passed_placed (one_passed imported exported n rest are) at = passed_placed are (suc at)

passed_plain : {t : Forest} → ArePassed t → has_plain_values t ≡ true
passed_plain none_passed = refl
passed_plain (one_passed imported exported n rest are) = passed_plain are

passed_calm : {t : Forest} → ArePassed t → calm t ≡ true
passed_calm none_passed = refl
passed_calm (one_passed imported exported n rest are) = passed_calm are

passed_held : {t : Forest} → ArePassed t → holds_well Kind.Specifiers t ≡ true
passed_held none_passed = refl
passed_held (one_passed imported exported n rest are) = passed_held are

passed_formed : {t : Forest} → ArePassed t → is_formed t ≡ true
passed_formed none_passed = refl
passed_formed (one_passed imported exported n rest are) = passed_formed are

passed_core : {t : Forest} → ArePassed t → all_core t ≡ true
passed_core none_passed = refl
passed_core (one_passed imported exported n rest are) = passed_core are

passed_place : (p : near.Row) {t : Forest} → ArePassed t → InPlace whole p t
passed_place p none_passed = tt
passed_place p (one_passed imported exported n rest are) = ((tt, tt), passed_place p are)

module _ (i : Note) (rest : Forest) where
  new_refer : {source : Text} {k : Kind} {below : Forest} (x : Text) → IsNew source k below → refers_at x k below (refers x below) ≡ false
  new_refer x (new_names passed j are) = ap₂ (λ vs b. is_among ((vs ++ []) ++ []) x || (b || false)) (passed_vars are) (passed_refer x are)
  new_refer x (new_namespace exported) = refl

  new_placed : {source : Text} {k : Kind} {below : Forest} → IsNew source k below → (at : ℕ) → well_placed (λ i. module_items) (suc at) rest ≡ true → well_placed (λ i. module_items) at (node k i below rest) ≡ true
  new_placed (new_names passed j are) at h = both (well_placed (λ i. others) 0 passed && true) (well_placed (λ i. module_items) (suc at) rest) (both (well_placed (λ i. others) 0 passed) true (passed_placed are 0) refl) h
  new_placed (new_namespace exported) at h = h

  new_plain : {source : Text} {k : Kind} {below : Forest} → IsNew source k below → has_plain_values rest ≡ true → has_plain_values (node k i below rest) ≡ true
  new_plain (new_names passed j are) h = both (has_plain_values passed && true) (has_plain_values rest) (both (has_plain_values passed) true (passed_plain are) refl) h
  new_plain (new_namespace exported) h = h

  new_held : {source : Text} {k : Kind} {below : Forest} → IsNew source k below → holds_well Kind.Statements rest ≡ true → holds_well Kind.Statements (node k i below rest) ≡ true
  new_held (new_names passed j are) h = h
  new_held (new_namespace exported) h = h

  new_formed : {source : Text} {k : Kind} {below : Forest} → IsNew source k below → is_formed rest ≡ true → is_formed (node k i below rest) ≡ true
  new_formed (new_names passed j are) h =
      both (calm passed && true) ((holds_well Kind.Specifiers passed && true) && (is_formed passed && true) && is_formed rest) (both (calm passed) true (passed_calm are) refl)
      (both ((holds_well Kind.Specifiers passed && true) && (is_formed passed && true)) (is_formed rest)
      (both (holds_well Kind.Specifiers passed && true) (is_formed passed && true) (both (holds_well Kind.Specifiers passed) true (passed_held are) refl) (both (is_formed passed) true (passed_formed are) refl)) h)
  new_formed (new_namespace exported) h = h

  new_core : {source : Text} {k : Kind} {below : Forest} → IsNew source k below → all_core rest ≡ true → all_core (node k i below rest) ≡ true
  new_core (new_names passed j are) h = both (all_core passed && true) (all_core rest) (both (all_core passed) true (passed_core are) refl) h
  new_core (new_namespace exported) h = h

  new_place : {source : Text} {k : Kind} {below : Forest} → IsNew source k below → InPlace whole near.items rest → InPlace whole near.items (node k i below rest)
  new_place (new_names passed j are) h = ((tt, ((tt, passed_place _ are), tt)), h)
  new_place (new_namespace exported) h = ((tt, tt), h)

-- a list is well placed wherever it begins
placed_anywhere : (p : Place) (i j : ℕ) (t : Forest) → well_placed (λ e. p) i t ≡ true → well_placed (λ e. p) j t ≡ true
placed_anywhere p i j nothing h = refl
placed_anywhere p i j (absent t) h = placed_anywhere p (suc i) (suc j) t h
placed_anywhere p i j (node k n b t) h =
    both (fits p (sort_of k)) (well_placed (place_below p k) 0 b && well_placed (λ e. p) (suc j) t) (placed_here (λ e. p) i k n b t h)
    (both (well_placed (place_below p k) 0 b) (well_placed (λ e. p) (suc j) t) (placed_below (λ e. p) i k n b t h) (placed_anywhere p (suc i) (suc j) t (placed_behind (λ e. p) i k n b t h)))

-- ---- rows with what comes in, in front of the import with these names

module _ {source : Text} {k : Kind} {below : Forest} (new : IsNew source k below) (i n m : Note) where
  abbrev with_names : Around → Forest → Forest
  with_names a names = plug a (Some (an_import source names n m))

  abbrev row : Around → Forest → Forest
  row a names = with_names (put_before k i below a) names

  row_refers : (x : Text) (names : Forest) {now : Forest} → AreNames now → (a : Around) → is_flat a ≡ true → refers x (with_names a names) ≡ false → refers x (row a now) ≡ false
  row_refers x names {now = now} are (first rest) flat h =
      neither (refers_at x k below (refers x below)) ((refers x now || false) || refers x rest) (new_refer i rest x new)
      (neither (refers x now || false) (refers x rest) (ap (λ b. b || false) (names_refer x are)) (second_of_neither (refers x names || false) (refers x rest) h))
  row_refers x names {now = now} are (behind j q b a) flat h =
      neither (refers_at x j b (refers x b)) (refers x (row a now)) (first_of_neither (refers_at x j b (refers x b)) (refers x (with_names a names)) h)
      (row_refers x names are a flat (second_of_neither (refers_at x j b (refers x b)) (refers x (with_names a names)) h))
  row_refers x names are (behind_none a) flat h = row_refers x names are a flat h
  row_refers x names are (under j q a rest) flat h = absurd (true≢false (sym flat))

  import_placed : {now : Forest} → AreNames now → (rest : Forest) (at : ℕ) → well_placed (λ e. module_items) (suc at) rest ≡ true → well_placed (λ e. module_items) at (with_names (first rest) now) ≡ true
  import_placed {now = now} are rest at h =
      both (well_placed (λ e. imports) 0 now && true) (well_placed (λ e. module_items) (suc at) rest) (both (well_placed (λ e. imports) 0 now) true (names_placed are 0) refl) h

  row_placed : (names : Forest) {now : Forest} → AreNames now → (a : Around) → is_flat a ≡ true → (at later : ℕ) → well_placed (λ e. module_items) at (with_names a names) ≡ true → well_placed (λ e. module_items) later (row a now) ≡ true
  row_placed names {now = now} are (first rest) flat at later h =
      new_placed i (with_names (first rest) now) new later
      (import_placed are rest (suc later) (placed_anywhere module_items (suc at) (suc (suc later)) rest (placed_behind (λ e. module_items) at (Kind.ImportDeclaration source) n (node Kind.Specifiers m names nothing) rest h)))
  row_placed names {now = now} are (behind j q b a) flat at later h =
      both (fits module_items (sort_of j)) (well_placed (place_below module_items j) 0 b && well_placed (λ e. module_items) (suc later) (row a now)) (placed_here (λ e. module_items) at j q b (with_names a names) h)
      (both (well_placed (place_below module_items j) 0 b) (well_placed (λ e. module_items) (suc later) (row a now)) (placed_below (λ e. module_items) at j q b (with_names a names) h)
      (row_placed names are a flat (suc at) (suc later) (placed_behind (λ e. module_items) at j q b (with_names a names) h)))
  row_placed names are (behind_none a) flat at later h = row_placed names are a flat (suc at) (suc later) h
  row_placed names are (under j q a rest) flat at later h = absurd (true≢false (sym flat))

  row_plain : (names : Forest) {now : Forest} → AreNames now → (a : Around) → is_flat a ≡ true → has_plain_values (with_names a names) ≡ true → has_plain_values (row a now) ≡ true
  row_plain names {now = now} are (first rest) flat h =
      new_plain i (with_names (first rest) now) new
      (both (has_plain_values now && true) (has_plain_values rest) (both (has_plain_values now) true (names_plain are) refl) (plain_behind (Kind.ImportDeclaration source) n (node Kind.Specifiers m names nothing) rest h))
  row_plain names {now = now} are (behind j q b a) flat h =
      both (has_plain_value j b) (has_plain_values b && has_plain_values (row a now)) (plain_here j q b (with_names a names) h)
      (both (has_plain_values b) (has_plain_values (row a now)) (plain_below j q b (with_names a names) h) (row_plain names are a flat (plain_behind j q b (with_names a names) h)))
  row_plain names are (behind_none a) flat h = row_plain names are a flat h
  row_plain names are (under j q a rest) flat h = absurd (true≢false (sym flat))

  row_held : (names : Forest) (a : Around) → is_flat a ≡ true → holds_well Kind.Statements (with_names a names) ≡ true → holds_well Kind.Statements (row a names) ≡ true
  row_held names (first rest) flat h = new_held i (with_names (first rest) names) new h
  row_held names (behind j q b a) flat h = let parts = and_parts _ (holds_well Kind.Statements (with_names a names)) h in both _ (holds_well Kind.Statements (row a names)) parts.0 (row_held names a flat parts.1)
  row_held names (behind_none a) flat h = row_held names a flat h
  row_held names (under j q a rest) flat h = absurd (true≢false (sym flat))

  row_formed : (names : Forest) (a : Around) → is_flat a ≡ true → is_formed (with_names a names) ≡ true → is_formed (row a names) ≡ true
  row_formed names (first rest) flat h = new_formed i (with_names (first rest) names) new h
  row_formed names (behind j q b a) flat h =
      let parts = and_parts _ (is_formed b && is_formed (with_names a names)) h in
      both _ (is_formed b && is_formed (row a names)) parts.0 (both (is_formed b) (is_formed (row a names)) (form_below j b (with_names a names) h) (row_formed names a flat (form_behind j b (with_names a names) h)))
  row_formed names (behind_none a) flat h = row_formed names a flat h
  row_formed names (under j q a rest) flat h = absurd (true≢false (sym flat))

  row_core : (names : Forest) (a : Around) → is_flat a ≡ true → all_core (with_names a names) ≡ true → all_core (row a names) ≡ true
  row_core names (first rest) flat h = new_core i (with_names (first rest) names) new h
  row_core names (behind j q b a) flat h =
      both (is_core j) (all_core b && all_core (row a names)) (core_here j q b (with_names a names) h) (both (all_core b) (all_core (row a names)) (core_below j q b (with_names a names) h) (row_core names a flat (core_behind j q b (with_names a names) h)))
  row_core names (behind_none a) flat h = row_core names a flat h
  row_core names (under j q a rest) flat h = absurd (true≢false (sym flat))

  row_place : (names : Forest) (a : Around) → is_flat a ≡ true → InPlace whole near.items (with_names a names) → InPlace whole near.items (row a names)
  row_place names (first rest) flat h = new_place i (with_names (first rest) names) new h
  row_place names (behind j q b a) flat h = (h.0, row_place names a flat h.1)
  row_place names (behind_none a) flat h = row_place names a flat h
  row_place names (under j q a rest) flat h = absurd (true≢false (sym flat))

  row_vars : {names : Forest} → AreNames names → (a : Around) → is_flat a ≡ true → var_names (with_names a names) ≡ var_names (with_names a nothing)
  row_vars are (first rest) flat = ap (λ l. ((l ++ []) ++ var_names rest)) (no_variables are)
  row_vars are (behind j q b a) flat = ap (λ l. vars_of j b (var_names b) ++ l) (row_vars are a flat)
  row_vars are (behind_none a) flat = row_vars are a flat
  row_vars are (under j q a rest) flat = absurd (true≢false (sym flat))

  -- ---- a name leaves the import

  name_steps : (w : steps.Around) (x : Text) {old now : Forest} → w.row ≡ items → is_used w variable.Let x ≡ false → Unbinds x (node Kind.Specifiers m old nothing) (node Kind.Specifiers m now nothing) → (a : Around) → is_flat a ≡ true
      → Step w (with_names a old) (with_names a now)
  name_steps w x is unused gone (first rest) flat = unbinds is unused gone
  name_steps w x is unused gone (behind j q b a) flat = behind_node (name_steps w x is unused gone a flat)
  name_steps w x is unused gone (behind_none a) flat = behind_absent (name_steps w x is unused gone a flat)
  name_steps w x is unused gone (under j q a rest) flat = absurd (true≢false (sym flat))

  name_drops : (w : steps.Around) (x : Text) {old now : Forest} (is : w.row ≡ items) (unused : is_used w variable.Let x ≡ false) (gone : Unbinds x (node Kind.Specifiers m old nothing) (node Kind.Specifiers m now nothing)) (a : Around) (flat : is_flat a ≡ true)
      → (dropped (name_steps w x is unused gone a flat) ≡ of_block x) × Once (name_steps w x is unused gone a flat)
  unfolding name_steps
  name_drops w x is unused gone (first rest) flat = (refl, tt)
  name_drops w x is unused gone (behind j q b a) flat = name_drops w x is unused gone a flat
  name_drops w x is unused gone (behind_none a) flat = name_drops w x is unused gone a flat
  name_drops w x is unused gone (under j q a rest) flat = absurd (true≢false (sym flat))

-- ---- names that are declared once

cells_nowhere : (x : Text) (ds : List Decl) → times x ds ≡ 0 → HasCells x ds
cells_nowhere x [] h = tt
cells_nowhere x (decl y way ∷ ds) h = by (bytes_eq y x) h (λ g. cells_nowhere x ds g)
  where
    by : (b : Bool) → (if b then 1 else 0) + times x ds ≡ 0 → (times x ds ≡ 0 → HasCells x ds) → CellIf b way × HasCells x ds
    by true g more = absurd (Prim.omega (arith, g))
    by false g more = (tt, more (Prim.omega (arith, g)))

abbrev OnceDeclared : List Decl → Type 0
OnceDeclared ds = (x : Text) → (times x ds ≤ 1) ⊎ HasCells x ds

cells_without : (x : Text) (ds : List Decl) (d : Decl) (es : List Decl) → HasCells x (ds ++ (d ∷ es)) → HasCells x (ds ++ es)
cells_without x [] (decl y way) es h = h.1
cells_without x (decl y way ∷ ds) d es h = (h.0, cells_without x ds d es h.1)

once_without : (ds : List Decl) (d : Decl) (es : List Decl) → OnceDeclared (ds ++ (d ∷ es)) → OnceDeclared (ds ++ es)
once_without ds (decl y way) es once x = elim (once x) [
  | inl few ↦ inl (Prim.omega (arith, few, times_joined x ds (decl y way ∷ es), times_joined x ds es))
  | inr cells ↦ inr (cells_without x ds (decl y way) es cells)
]

no_link : (x source text : Text) (ds : List Decl) → HasCells x (decl x (linked source text) ∷ ds) → ⊥
no_link x source text ds h = by (bytes_eq x x) ((bytes_eq-Decides x x).1 refl) h.0
  where
    by : (b : Bool) → b ≡ true → CellIf b (linked source text) → ⊥
    by true e c = c
    by false e c = true≢false (sym e)

none_left : (x source text : Text) (ds es : List Decl) → OnceDeclared (ds ++ (decl x (linked source text) ∷ es)) → times x (ds ++ es) ≡ 0
none_left x source text ds es once = elim (once x) [
  | inl few ↦ Prim.omega (arith, few, times_joined x ds (decl x (linked source text) ∷ es), times_joined x ds es, ap (λ b. (if b then 1 else 0) + times x es) ((bytes_eq-Decides x x).1 refl))
  | inr cells ↦ absurd (no_link x source text es (cells_behind x ds (decl x (linked source text) ∷ es) cells))
]

items_free : (x : Text) (b : Forest) → declares (module_decls b) x ≡ false → Free x (λ i. module_items) 0 b
items_free x b e =
    let h = undeclared_right x (decl this_name ready ∷ []) (all_so ready (var_names b) ++ lexical b) (sym (declares_among (module_decls b) x) ∙ e) in
    let v = undeclared_so x ready (var_names b) (undeclared_left x (all_so ready (var_names b)) (lexical b) h) in
    row_free x (λ i. module_items) 0 b (λ i n. items_place x module_items b refl refl (undeclared_right x (all_so ready (var_names b)) (lexical b) h) v)

-- ---- all names leave

module _ {source : Text} {k : Kind} {below : Forest} (new : IsNew source k below) (i n m : Note) (a : Around) (flat : is_flat a ≡ true) (o l : Note) (full : Forest)
    (placed : well_placed (λ e. module_items) 0 (plug a (Some (an_import source full n m))) ≡ true) (plain : has_plain_values (plug a (Some (an_import source full n m))) ≡ true) where
  abbrev there : Around
  there = put_before k i below a

  abbrev at_names : Forest → Forest
  at_names names = plug there (Some (an_import source names n m))

  still_flat : is_flat there ≡ true
  still_flat = before_flat k i below a flat

  abbrev front : List Decl
  front = decl this_name ready ∷ (all_so ready (var_names (at_names nothing)) ++ lexical_before there)

  decls_are : {names : Forest} → AreNames names → module_decls (at_names names) ≡ front ++ (import_decls source names ++ lexical_after there)
  decls_are {names = names} are =
      let vs = all_so ready (var_names (at_names nothing)) in
      ap₂ (λ ws ls. decl this_name ready ∷ (all_so ready ws ++ ls)) (row_vars new i n m are there still_flat) (lexical_around source names n m there still_flat)
      ∙ ap (λ ds. decl this_name ready ∷ ds) (sym (append_assoc vs (lexical_before there) (import_decls source names ++ lexical_after there)))

  names_leave : {names : Forest} → AreNames names → ((x text : Text) → Named names x text → refers x (plug a (Some (an_import source full n m))) ≡ false) → OnceDeclared (module_decls (at_names names))
      → CoreSteps (module_of o l (at_names names)) (module_of o l (at_names nothing))
  names_leave no_names unused once = no_step
  names_leave (a_name j q p x rest binds are) unused once =
      let list = node j q (node (Kind.BindingName x) p nothing nothing) rest in
      let later = import_decls source rest ++ lexical_after there in
      let linked_now = linked source (text_of_kind j) in
      let before = decls_are (a_name j q p x rest binds are) ∙ ap (λ ds. front ++ ds) (import_here source j q p x rest (lexical_after there) binds) in
      let after = decls_are are in
      let was = subst OnceDeclared before once in
      let w = top l (at_names list) in
      let free = row_refers new i n m x full (a_name j q p x rest binds are) a flat (unused x (text_of_kind j) (named_here j q p x rest binds)) in
      let no_use = ap (λ b. (b || false) || false) free in
      let gone : Unbinds x (node Kind.Specifiers m list nothing) (node Kind.Specifiers m rest nothing) = unbinds_below (unbinds_here binds) in
      let step = name_steps new i n m w x refl no_use gone there still_flat in
      let said = name_drops new i n m w x refl no_use gone there still_flat in
      let row_now = at_names rest in
      let none = none_left x source (text_of_kind j) front later was in
      let at : OnceAt x (module_decls row_now) row_now = (
        subst (HasCells x) (sym after) (cells_nowhere x (front ++ later) none),
        λ e. row_binds x (λ e. module_items) 0 row_now (row_placed new i n m full are a flat 0 0 placed) (row_plain new i n m full are a flat plain) (items_free x row_now e),
      )
      in
      one_step (steps.inside (steps.inside step)) (subst (λ d. OnceIn (Kind.Program source_type.Module) (alone Kind.Statements l row_now) d) (sym said.0) at, (tt, said.1))
      (names_leave are (λ y text h. unused y text (named_behind j q (node (Kind.BindingName x) p nothing nothing) rest y text h)) (subst OnceDeclared (sym after) (once_without front (decl x linked_now) later was)))

-- ---- it declares what it declared

new_lexical : {source : Text} {k : Kind} {below : Forest} → IsNew source k below → item_decls k below (lexical below) ≡ []
new_lexical (new_names passed j are) = refl
new_lexical (new_namespace exported) = refl

new_vars : {source : Text} {k : Kind} {below : Forest} → IsNew source k below → vars_of k below (var_names below) ≡ []
new_vars (new_names passed j are) = ap (λ l. l ++ []) (passed_vars are)
new_vars (new_namespace exported) = refl

module _ {source : Text} {k : Kind} {below : Forest} (new : IsNew source k below) (i : Note) (y : Tree) where
  same_lexical : (a : Around) → is_flat a ≡ true → lexical (plug (put_before k i below a) (Some y)) ≡ lexical (plug a (Some y))
  same_lexical (first rest) flat = ap (λ l. l ++ lexical (plug (first rest) (Some y))) (new_lexical new)
  same_lexical (behind j q b a) flat = ap (λ l. item_decls j b (lexical b) ++ l) (same_lexical a flat)
  same_lexical (behind_none a) flat = same_lexical a flat
  same_lexical (under j q a rest) flat = absurd (true≢false (sym flat))

  same_vars : (a : Around) → is_flat a ≡ true → var_names (plug (put_before k i below a) (Some y)) ≡ var_names (plug a (Some y))
  same_vars (first rest) flat = ap (λ l. l ++ var_names (plug (first rest) (Some y))) (new_vars new)
  same_vars (behind j q b a) flat = ap (λ l. vars_of j b (var_names b) ++ l) (same_vars a flat)
  same_vars (behind_none a) flat = same_vars a flat
  same_vars (under j q a rest) flat = absurd (true≢false (sym flat))

  same_decls : (a : Around) → is_flat a ≡ true → module_decls (plug (put_before k i below a) (Some y)) ≡ module_decls (plug a (Some y))
  same_decls a flat = ap₂ (λ vs ls. decl this_name ready ∷ (all_so ready vs ++ ls)) (same_vars a flat) (same_lexical a flat)

  -- and the module is asked for in front of the import
  asked_first : (asked : Bool) (a : Around) → is_flat a ≡ true → is_asked_before source asked (put_before k i below a) ≡ true
  asked_first asked (first rest) flat = ap (λ rs. asked || is_among rs source) (new_requests new) ∙ ap (λ b. asked || (b || false)) ((bytes_eq-Decides source source).1 refl) ∙ either asked
    where
      either : (b : Bool) → (b || true) ≡ true
      either true = refl
      either false = refl
  asked_first asked (behind j q b a) flat = asked_first (asked || asks_for source j) a flat
  asked_first asked (behind_none a) flat = asked_first asked a flat
  asked_first asked (under j q a rest) flat = absurd (true≢false (sym flat))

-- ---- nothing refers to the names

free_named : {t names : Forest} {x text : Text} → AreNames names → AreFree t names → Named names x text → IsFree t (named_in x (body_of 0))
free_named no_names free h = elim h [ ]
free_named (a_name k n m y rest binds are) free (named_here j q p x more b) = free.0
free_named (a_name k n m y rest binds are) free (named_behind j q c more x text h) = free_named are free.1 h

module _ (t : Forest) (c : Context) (here : c.declaring.layer ≡ body_of 0) where
  abbrev Stand : ℕ → ℕ → Forest → Type 0
  Stand at next u = Within t (sites (λ i. c) at next u)

  names_declared : {names : Forest} {x text : Text} → AreNames names → (at next : ℕ) → Stand at next names → Named names x text → Declares t x (body_of 0)
  names_declared no_names at next within h = elim h [ ]
  names_declared (a_name (Kind.ImportSpecifier imported) n m y rest binds are) at next within (named_here j q p x more b) =
      let below = node (Kind.BindingName y) m nothing nothing in
      let k = Kind.ImportSpecifier imported in
      subst (Declares t y) here (name_stands t (inside c next k below) (next + 0) y m nothing (within_below t (λ i. c) at next k n below rest within))
  names_declared (a_name Kind.ImportDefaultSpecifier n m y rest binds are) at next within (named_here j q p x more b) =
      let below = node (Kind.BindingName y) m nothing nothing in
      let k = Kind.ImportDefaultSpecifier in
      subst (Declares t y) here (name_stands t (inside c next k below) (next + 0) y m nothing (within_below t (λ i. c) at next k n below rest within))
  names_declared (a_name Kind.ImportNamespaceSpecifier n m y rest binds are) at next within (named_here j q p x more b) =
      let below = node (Kind.BindingName y) m nothing nothing in
      let k = Kind.ImportNamespaceSpecifier in
      subst (Declares t y) here (name_stands t (inside c next k below) (next + 0) y m nothing (within_below t (λ i. c) at next k n below rest within))
  names_declared (a_name k n m y rest binds are) at next within (named_here j q p x more b) = absurd (true≢false (sym binds))
  names_declared (a_name k n m y rest binds are) at next within (named_behind j q b more x text h) =
      let below = node (Kind.BindingName y) m nothing nothing in
      names_declared are (suc at) (next + scope_count (node k n below nothing)) (within_later t (λ i. c) at next k n below rest within) h

-- where the import stands
record ImportHere (t : Forest) (w : steps.Around) (c : Context) (k : Kind) (n : Note) (below : Forest) : Type 0 where
  at : ℕ
  next : ℕ
  rest : Forest
  stands : Stands t w (λ i. c) at next (node k n below rest)
  within : Within t (sites (λ i. c) at next (node k n below rest))

import_stands : (t : Forest) (w : steps.Around) (c : Context) (y : Tree) (a : Around) → is_flat a ≡ true → (at next : ℕ) → Stands t w (λ i. c) at next (plug a (Some y)) → Within t (sites (λ i. c) at next (plug a (Some y))) → ImportHere t w c y.kind y.note y.below
import_stands t w c y (first rest) flat at next stands within = record { at = at; next = next; rest = rest; stands = stands; within = within }
import_stands t w c y (behind k n b a) flat at next stands within =
    import_stands t w c y a flat (suc at) (next + scope_count (node k n b nothing)) (stands_behind stands) (within_later t (λ i. c) at next k n b (plug a (Some y)) within)
import_stands t w c y (behind_none a) flat at next stands within = import_stands t w c y a flat (suc at) next (stands_behind_absent stands) within
import_stands t w c y (under k n a rest) flat at next stands within = absurd (true≢false (sym flat))

is_declared_there : {t : Forest} {x : Text} → Declares t x (body_of 0) → is_declared (bindings_among (sites_of t)) (body_of 0) x ≡ true
is_declared_there {t = t} {x = x} d =
    let bs = bindings_among (sites_of t) in
    subst (λ l. is_declared bs l x ≡ true) d.layer (subst (λ y. is_declared bs d.site.layer y ≡ true) d.name (declared bs d.site d.stands))

names_unused : (n m : Note) (source : Text) (names : Forest) (i j : Note) (a : Around) → is_flat a ≡ true → AreNames names → AreFree (module_of n m (plug a (Some (an_import source names i j)))) names
    → is_well_placed (module_of n m (plug a (Some (an_import source names i j)))) ≡ true → (x text : Text) → Named names x text → refers x (plug a (Some (an_import source names i j))) ≡ false
names_unused n m source names i j a flat are free placed x text h =
    let row = plug a (Some (an_import source names i j)) in
    let t = module_of n m row in
    let list = node Kind.Statements m row nothing in
    let c = inside (inside outermost_context 0 (Kind.Program source_type.Module) list 0) 1 Kind.Statements row 0 in
    let w = top m row in
    let all : Within t (sites_of t) = record { binding = λ b g. g; reference = λ r g. g } in
    let inner = within_below t (inside outermost_context 0 (Kind.Program source_type.Module) list) 0 1 Kind.Statements m row nothing (within_below t (λ e. outermost_context) 0 0 (Kind.Program source_type.Module) n list nothing all) in
    let o = import_stands t w c (an_import source names i j) a flat 0 1 (stands_below (program refl)) inner in
    let names_list = node Kind.Specifiers j names nothing in
    let k = Kind.ImportDeclaration source in
    let below = within_below t (λ e. c) o.at o.next k i names_list o.rest o.within in
    let d = inside (inside c o.next k names_list 0) (o.next + 0) Kind.Specifiers names 0 in
    let it = is_declared_there (names_declared t d refl are 0 (o.next + 0 + 0) (within_below t (inside c o.next k names_list) 0 (o.next + 0) Kind.Specifiers j names nothing below) h) in
    let no_reference = free_named are free h in
    let unused = import_unused t w (λ e. c) o.at o.next source x i names_list o.rest placed o.stands it (record { nothing_refers = no_reference.unreferred; is_not_exported = no_reference.unexported; is_seen = refl }) in
    first_of_neither (refers x row) false (first_of_neither (refers x row || false) false unused)

-- ---- the module

between_is : {names r s z : Forest} (h : PassesIn names r s z) → between h ≡ plug (put_before (import_in h).kind (import_in h).new_note (import_in h).below (import_in h).around) (Some (an_import (import_in h).source names (import_in h).note (import_in h).list_note))
unfolding between import_in
between_is (passes_here source n m i listed k below r s on out) = refl
between_is (passes_behind k n below r s z h) = ap (λ t. node k n below t) (between_is h)

pub passed_refines : (n m : Note) (names r s z : Forest) → PassesIn names r s z → AreFree (module_of n m s) names → IsSensibleModule (module_of n m r) → Refined (module_of n m r) (module_of n m z)
passed_refines n m names r s z h free sensible =
    let listed = export_out h in
    let e = export_in listed.out in
    let i = import_in h in
    let y = an_import i.source names i.note i.list_note in
    let left = left_sensible n m listed.listed_are listed.out sensible in
    let v = subst (λ t. IsSensibleModule (module_of n m t)) (sym i.there) left in
    let list = node Kind.Statements m (plug i.around (Some y)) nothing in
    let there = put_before i.kind i.new_note i.below i.around in
    let old = plug there (Some y) in
    let placed = and_parts (well_placed (λ e. program_list) 0 list) (has_plain_values list) v.placed in
    let items_placed = (and_parts (well_placed (λ e. module_items) 0 (plug i.around (Some y))) true placed.0).0 in
    let plain = plain_below Kind.Statements m (plug i.around (Some y)) nothing placed.1 in
    let formed_list = form_below (Kind.Program source_type.Module) list nothing v.formed in
    let held = row_held i.new i.new_note i.note i.list_note names i.around i.flat (form_holds Kind.Statements (plug i.around (Some y)) nothing formed_list) in
    let formed = row_formed i.new i.new_note i.note i.list_note names i.around i.flat (form_below Kind.Statements (plug i.around (Some y)) nothing formed_list) in
    let core = row_core i.new i.new_note i.note i.list_note names i.around i.flat (core_below Kind.Statements m (plug i.around (Some y)) nothing (core_below (Kind.Program source_type.Module) n list nothing v.core)) in
    let place = row_place i.new i.new_note i.note i.list_note names i.around i.flat v.in_place.0.1.0.1 in
    let once = subst OnceDeclared (sym (same_decls i.new i.new_note y i.around i.flat)) v.clear.0 in
    let gone = names_leave i.new i.new_note i.note i.list_note i.around i.flat n m names items_placed plain i.names_are
    (names_unused n m i.source names i.note i.list_note i.around i.flat i.names_are (subst (λ t. AreFree (module_of n m t) names) (sym i.there) free) v.placed) once in
    let none = plug there (Some (an_import i.source nothing i.note i.list_note)) in
    let first = subst (λ t. Refined (module_of n m r) (module_of n m t)) (between_is h) (between_refines n m h sensible) in
    let second = module_many n m old (module_of n m none) gone
    (both (is_formed (node Kind.Statements m old nothing)) true (both (holds_well Kind.Statements old && true) (is_formed old && true) (both (holds_well Kind.Statements old) true held refl) (both (is_formed old) true formed refl)) refl)
    core ((v.in_place.0.0, ((v.in_place.0.1.0.0, place), tt)), tt) in
    let third = flat_refines i.source i.note i.list_note n m there (before_flat i.kind i.new_note i.below i.around i.flat) (asked_first i.new i.new_note y false i.around i.flat) in
    subst (λ t. Refined (module_of n m r) (module_of n m t)) (before_alone i.kind i.new_note i.below i.around ∙ i.comes)
    (refined_joined (module_of n m r) (module_of n m old) (module_of n m (without there)) first (refined_joined (module_of n m old) (module_of n m none) (module_of n m (without there)) second third))

-- ---- it stays core

left_core : {listed r s : Forest} → WithoutExport listed r s → all_core r ≡ true → all_core s ≡ true
left_core {listed = listed} (export_leaves n m rest) core = core_behind (Kind.ExportNamedDeclaration None) n (absent (node Kind.Specifiers m listed nothing)) rest core
left_core (leaves_behind k n below r s out) core =
    both (is_core k) (all_core below && all_core s) (core_here k n below r core) (both (all_core below) (all_core s) (core_below k n below r core) (left_core out (core_behind k n below r core)))

pub module_core : {names r s z : Forest} → PassesIn names r s z → all_core r ≡ true → all_core z ≡ true
module_core {names = names} (passes_here source n m i listed k below r s on out) core =
    new_core i s (parts on).new (left_core out (core_behind (Kind.ImportDeclaration source) n (node Kind.Specifiers m names nothing) r core))
module_core (passes_behind k n below r s z h) core =
    both (is_core k) (all_core below && all_core z) (core_here k n below r core) (both (all_core below) (all_core z) (core_below k n below r core) (module_core h (core_behind k n below r core)))
