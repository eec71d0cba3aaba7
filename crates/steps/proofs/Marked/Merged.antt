-- Where two imports are one, no call of `eval`, no flag that tells of a place and no export comes in or leaves.
use Rattle.std.proofs.Common.{◌≡◌, ◌∙◌, ℕ, suc, ◌+◌, List, [], ◌++◌, Bool, true, false, true≢false, ◌||◌, if◌then◌else◌, is_some, arith, refl, sym, ap, ap₂, subst}
use Rattle.js_syntax.specs.declared.node_kind.NodeKind.{NodeKind as Kind}
use Rattle.js_syntax.specs.declared.node_kind.NodeKind.TheVariants.{Program as program, Statements as statements, ImportDeclaration as import_declaration, Specifiers as specifiers}
use Rattle.js_syntax.specs.declared.scalar.SourceType.TheVariants as source_type
use Rattle.js_syntax.specs.Node.{Forest, Note, nothing, node, absent}
use Rattle.js_tree.specs.Names.{eval_of_call}
use Rattle.scope_rules.specs.Context.{Context, inside, outermost}
use Rattle.scope_rules.specs.Site.{Site, has_eval, opens_one, scope_count, sites, bindings_among}
use Rattle.scope_rules.specs.Table.{Scoping}
use Rattle.scope_laws.specs.Exact.{Among}
use Rattle.scope_counts.specs.Counts.{Decl, Weight, tally}
use Rattle.scope_counts.specs.Losing.{referring, declaring}
use Rattle.steps.specs.Allowed.Exposure.{evaluates_somewhere}
use Rattle.steps.specs.Allowed.MergedImports.{WithoutImport, import_leaves, leaves_behind, MergesIn, merges_here, merges_behind, MergedImports, imports_merge}
use Rattle.steps.specs.Marked.Flags.{Stand, stand_inside, Tells, Told, FlagsTell}
use Rattle.steps.specs.Naming.Standing.{is_export, exported_sites, exported_declarations}
use Rattle.steps.proofs.Owed.Shuffled.{before_all}
use Rattle.steps.proofs.Owed.MergedRows.{AreNames, no_names, a_name, may, merged_are, reordered}
use Rattle.steps.proofs.Owed.MergedRuns.{same_order}
use Rattle.steps.proofs.Owed.AlikeTables.{Any, among_shuffled}
use Rattle.steps.proofs.Owed.MergedTables.{merged_tally, reads_references, reads_declaring}

-- ---- references and declarations

pub same_tally : (w : Weight) (t u : Forest) → MergedImports t u → tally w u ≡ tally w t
same_tally w _ _ (imports_merge n m r s h none) = Prim.omega (arith, merged_tally w h)

pub same_referring : (t u : Forest) → MergedImports t u → referring u ≡ referring t
same_referring _ _ (imports_merge n m r s h none) = ap (λ l. (l ++ []) ++ []) (same_order (reordered reads_references h))

pub declared_before : (t u : Forest) → MergedImports t u → (d : Decl) → Among d (declaring u) → Among d (declaring t)
declared_before _ _ (imports_merge n m r s h none) d = among_shuffled d (before_all Any [] (before_all Any [] (reordered reads_declaring h)))

-- ---- calls of `eval`

pub names_call_none : {t : Forest} → AreNames t → has_eval t ≡ false
names_call_none no_names = refl
names_call_none (a_name (Kind.ImportSpecifier imported) n m x rest h names) = names_call_none names
names_call_none (a_name Kind.ImportDefaultSpecifier n m x rest h names) = names_call_none names
names_call_none (a_name Kind.ImportNamespaceSpecifier n m x rest h names) = names_call_none names
names_call_none (a_name k n m x rest h names) = absurd (true≢false (sym h))

abbrev pub beside_names : Bool → Bool → Bool
beside_names names rest = (false || ((false || names) || false)) || rest

left_evals : {source : List ℕ} {names r s : Forest} → AreNames names → WithoutImport source names r s → has_eval s ≡ has_eval r
left_evals names (import_leaves n m rest) = sym (ap (λ b. beside_names b (has_eval rest)) (names_call_none names))
left_evals names (leaves_behind k n below r s out) = ap (λ b. (is_some (eval_of_call k below) || has_eval below) || b) (left_evals names out)

pub merged_evals : {r s : Forest} → MergesIn r s → has_eval s ≡ has_eval r
merged_evals (merges_here source n m names later r s h out) =
    let known = may names later h in
    ap₂ beside_names (names_call_none (merged_are known.names_are known.later_are)) (left_evals known.later_are out) ∙ sym (ap (λ b. beside_names b (has_eval r)) (names_call_none known.names_are))
merged_evals (merges_behind k n below r s h) = ap (λ b. (is_some (eval_of_call k below) || has_eval below) || b) (merged_evals h)

-- ---- what flags tell

module _ (t : Scoping) where
  abbrev There : Stand → ℕ → Forest → Type 0
  There p at row = Told t false (λ i. p) at row

  told_anywhere : (p : Stand) (i j : ℕ) (row : Forest) → There p i row → There p j row
  told_anywhere p i j nothing h = tt
  told_anywhere p i j (absent row) h = told_anywhere p (suc i) (suc j) row h
  told_anywhere p i j (node k n b row) h = (h.0, h.1, told_anywhere p (suc i) (suc j) row h.2)

  names_told : {names : Forest} → AreNames names → (p : Stand) (at : ℕ) → Tells t false p → There p at names
  names_told no_names p at here = tt
  names_told (a_name (Kind.ImportSpecifier imported) n m x rest h names) p at here = (here, (here, tt, tt), names_told names p (suc at) here)
  names_told (a_name Kind.ImportDefaultSpecifier n m x rest h names) p at here = (here, (here, tt, tt), names_told names p (suc at) here)
  names_told (a_name Kind.ImportNamespaceSpecifier n m x rest h names) p at here = (here, (here, tt, tt), names_told names p (suc at) here)
  names_told (a_name k n m x rest h names) p at here = absurd (true≢false (sym h))

  left_told : {source : List ℕ} {names r s : Forest} → WithoutImport source names r s → (p : Stand) (i j : ℕ) → There p i r → There p j s
  left_told (import_leaves n m rest) p i j h = told_anywhere p (suc i) j rest h.2
  left_told (leaves_behind k n below r s out) p i j h = (h.0, h.1, left_told out p (suc i) (suc j) h.2)

  row_told : {r s : Forest} → MergesIn r s → (p : Stand) (at : ℕ) → There p at r → There p at s
  row_told (merges_here source n m names later r s h out) p at told =
      let known = may names later h in
      (told.0, (told.1.0, names_told (merged_are known.names_are known.later_are) (stand_inside p (import_declaration source) n nothing 0) 0 told.1.0, tt), left_told out p (suc at) (suc at) told.2)
  row_told (merges_behind k n below r s h) p at told = (told.0, told.1, row_told h p (suc at) told.2)

-- at a module, and at its items
abbrev pub at_top : Bool → Note → Stand
at_top calls n = record { exposure = record { outside = true; strict = false; variables_shared = false; names_shared = false; declared_shared = false; evaluates = calls; in_sloppy_block = false }; scope = n.id; variables = n.id; declaring = n.id }

abbrev pub at_items : Bool → Note → Stand
at_items calls n = record { exposure = record { outside = false; strict = true; variables_shared = false; names_shared = false; declared_shared = false; evaluates = calls; in_sloppy_block = false }; scope = n.id; variables = n.id; declaring = n.id }

abbrev pub calls_of : Forest → Bool
calls_of row = (false || has_eval row) || false

pub merged_told : (table : Scoping) (t u : Forest) → MergedImports t u → FlagsTell table t → FlagsTell table u
merged_told table _ _ (imports_merge n m r s h none) told =
    let same : calls_of r ≡ calls_of s = ap (λ b. (false || b) || false) (sym (merged_evals h)) in (
      subst (λ b. Tells table false (at_top b n)) same told.0,
      (
        subst (λ b. Tells table false (at_items b n)) same told.1.0,
        subst (λ b. Told table false (λ i. at_items b n) 0 s) same (row_told table h (at_items (calls_of r) n) 0 told.1.1),
        tt,
      ),
      tt,
    )

-- ---- exports

pub names_open_none : {t : Forest} → AreNames t → scope_count t ≡ 0
names_open_none no_names = refl
names_open_none (a_name (Kind.ImportSpecifier imported) n m x rest h names) = Prim.omega (arith, names_open_none names)
names_open_none (a_name Kind.ImportDefaultSpecifier n m x rest h names) = Prim.omega (arith, names_open_none names)
names_open_none (a_name Kind.ImportNamespaceSpecifier n m x rest h names) = Prim.omega (arith, names_open_none names)
names_open_none (a_name k n m x rest h names) = absurd (true≢false (sym h))

pub names_export_none : {t : Forest} → AreNames t → (cs : ℕ → Context) (at next : ℕ) → exported_sites cs at next t ≡ []
names_export_none no_names cs at next = refl
names_export_none (a_name (Kind.ImportSpecifier imported) n m x rest h names) cs at next = names_export_none names cs (suc at) _
names_export_none (a_name Kind.ImportDefaultSpecifier n m x rest h names) cs at next = names_export_none names cs (suc at) _
names_export_none (a_name Kind.ImportNamespaceSpecifier n m x rest h names) cs at next = names_export_none names cs (suc at) _
names_export_none (a_name k n m x rest h names) cs at next = absurd (true≢false (sym h))

-- of a row whose nodes stand in one context
module _ (c : Context) where
  abbrev exported : ℕ → ℕ → Forest → List Site
  exported at next t = exported_sites (λ i. c) at next t

  exported_anywhere : (i j next : ℕ) (t : Forest) → exported i next t ≡ exported j next t
  exported_anywhere i j next nothing = refl
  exported_anywhere i j next (absent t) = exported_anywhere (suc i) (suc j) next t
  exported_anywhere i j next (node k n b t) =
      ap (λ l. (if is_export k then sites (inside c next k b) 0 (next + opens_one k b) b else exported_sites (inside c next k b) 0 (next + opens_one k b) b) ++ l) (exported_anywhere (suc i) (suc j) (next + scope_count (node k n b nothing)) t)

  -- an import exports nothing, and the scopes behind it have the numbers that they would have without it
  import_passed : (source : List ℕ) (n m : Note) {names : Forest} → AreNames names → (at next : ℕ) (rest : Forest) → exported at next (node (import_declaration source) n (node specifiers m names nothing) rest) ≡ exported (suc at) next rest
  import_passed source n m {names = names} are at next rest =
      let inner = inside c next (import_declaration source) (node specifiers m names nothing) in
      let below = inside (inner 0) (next + 0) specifiers names in
      ap (λ l. (l ++ []) ++ exported (suc at) (next + scope_count (node (import_declaration source) n (node specifiers m names nothing) nothing)) rest) (names_export_none are below 0 (next + 0 + 0))
      ∙ ap (λ i. exported (suc at) i rest) (Prim.omega (arith, names_open_none are))

  left_exported : {source : List ℕ} {names r s : Forest} → AreNames names → WithoutImport source names r s → (i j next : ℕ) → exported i next s ≡ exported j next r
  left_exported {source = source} are (import_leaves n m rest) i j next = exported_anywhere i (suc j) next rest ∙ sym (import_passed source n m are j next rest)
  left_exported are (leaves_behind k n below r s out) i j next =
      ap (λ l. (if is_export k then sites (inside c next k below) 0 (next + opens_one k below) below else exported_sites (inside c next k below) 0 (next + opens_one k below) below) ++ l)
      (left_exported are out (suc i) (suc j) (next + scope_count (node k n below nothing)))

  row_exported : {r s : Forest} → MergesIn r s → (i j next : ℕ) → exported i next s ≡ exported j next r
  row_exported (merges_here source n m names later r s h out) i j next =
      let known = may names later h in
      import_passed source n m (merged_are known.names_are known.later_are) i next s ∙ left_exported known.later_are out (suc i) (suc j) next ∙ sym (import_passed source n m known.names_are j next r)
  row_exported (merges_behind k n below r s h) i j next =
      ap (λ l. (if is_export k then sites (inside c next k below) 0 (next + opens_one k below) below else exported_sites (inside c next k below) 0 (next + opens_one k below) below) ++ l)
      (row_exported h (suc i) (suc j) (next + scope_count (node k n below nothing)))

pub same_exports : (t u : Forest) → MergedImports t u → exported_declarations u ≡ exported_declarations t
same_exports _ _ (imports_merge n m r s h none) =
    let top = inside outermost 0 (program source_type.Module) (node statements m s nothing) 0 in
    ap (λ l. bindings_among (((l ++ []) ++ []))) (row_exported (inside top 1 statements s 0) h 0 0 1)

pub same_evaluates : (t u : Forest) → MergedImports t u → evaluates_somewhere u ≡ evaluates_somewhere t
same_evaluates _ _ (imports_merge n m r s h none) = ap (λ b. (false || b) || false) (merged_evals h)
