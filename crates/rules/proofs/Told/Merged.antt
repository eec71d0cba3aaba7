-- What holds at each place of a program holds at each place where two imports are one, and no call of `eval` and no scope comes or leaves.
use Rattle.std.proofs.Common.{◌≡◌, ◌∙◌, ℕ, suc, ◌+◌, List, true, false, true≢false, ◌||◌, Option, refl, sym, ap, subst, arith}
use Rattle.js_syntax.specs.declared.node_kind.NodeKind.{NodeKind as Kind}
use Rattle.js_syntax.specs.declared.node_kind.NodeKind.TheVariants.{ImportDeclaration as import_declaration, Specifiers as specifiers, BindingName as binding_name}
use Rattle.js_syntax.specs.declared.scalar.SourceType.TheVariants as source_type
use Rattle.js_syntax.specs.Node.{Forest, Note, nothing, node, absent}
use Rattle.scope_rules.specs.Context.{opens}
use Rattle.scope_rules.specs.Table.{Scoping}
use Rattle.scope_counts.specs.Exact.{count}
use Rattle.min_context.specs.Edited.{evals}
use Rattle.steps.specs.Steps.{binds_import}
use Rattle.steps.specs.Allowed.MergedImports.{names_merged, WithoutImport, import_leaves, leaves_behind, MergesIn, merges_here, merges_behind, MergedImports, imports_merge}
use Rattle.steps.specs.Marked.Flags.{Stand, stand_inside, stands_of}
use Rattle.steps.proofs.Marked.Merged.{merged_evals, at_top, at_items, calls_of}
use Rattle.steps.proofs.Owed.MergedRows.{AreNames, no_names, a_name, may, merged_are}
use Rattle.steps.proofs.Owed.MergedTables.{plain_import}
use Rattle.rules.specs.Told.Places.{EachPlace}
use Rattle.rules.specs.Told.Nesting.{scope_inside, own_scope, scope_marks, NestsAt, ScopesNest}
use Rattle.rules.proofs.Told.Marks.{marks_of_node}

-- ---- places

module _ {S : Type 0} (around : S → Kind → Note → Forest → ℕ → S) (P : S → Kind → Note → Forest → Type 0)
    (anew : (p : S) (k l : Kind) (n m : Note) (below now : Forest) → opens l now ≡ false → P p k n below → P p l m now)
    (in_import : (p : S) (source : List ℕ) (n : Note) (b c : Forest) → around p (import_declaration source) n b 0 ≡ around p (import_declaration source) n c 0)
    (in_names : (p : S) (n : Note) (b : Forest) (at : ℕ) → around p specifiers n b at ≡ p)
    (in_name : (p : S) (k : Kind) → binds_import k ≡ true → (n : Note) (b : Forest) (at : ℕ) → around p k n b at ≡ p) where
  abbrev There : S → ℕ → Forest → Type 0
  There p at t = EachPlace around P (λ i. p) at t

  anywhere : (p : S) (i j : ℕ) (t : Forest) → There p i t → There p j t
  anywhere p i j nothing h = tt
  anywhere p i j (absent t) h = anywhere p (suc i) (suc j) t h
  anywhere p i j (node k n b t) h = (h.0, h.1, anywhere p (suc i) (suc j) t h.2)

  names_there : {t : Forest} → AreNames t → (p : S) (k : Kind) (n : Note) (below : Forest) → P p k n below → (at : ℕ) → There p at t
  names_there no_names p l i b h at = tt
  names_there (a_name k n m x rest binds names) p l i b h at =
      let below = node (binding_name x) m nothing nothing in
      let same : around p k n below ≡ (λ at. p) = λ z. λ at. in_name p k binds n below at z in (
        anew p l k i n b below ((plain_import k binds).opens_none below) h,
        subst (λ f. EachPlace around P f 0 below) (sym same) (anew p l (binding_name x) i m b nothing refl h, tt, tt),
        names_there names p l i b h (suc at),
      )

  left_there : {source : List ℕ} {names r s : Forest} → WithoutImport source names r s → (p : S) (i j : ℕ) → There p i r → There p j s
  left_there (import_leaves n m rest) p i j h = anywhere p (suc i) j rest h.2
  left_there (leaves_behind k n below r s out) p i j h = (h.0, h.1, left_there out p (suc i) (suc j) h.2)

  pub row_there : {r s : Forest} → MergesIn r s → (p : S) (at : ℕ) → There p at r → There p at s
  row_there (merges_here source n m names later r s h out) p at told =
      let known = may names later h in
      let k = import_declaration source in
      let all = names_merged names later in
      let before = node specifiers m names nothing in
      let now = node specifiers m all nothing in
      let q = around p k n before 0 in
      let same : around p k n now 0 ≡ q = in_import p source n now before in
      let inner : around q specifiers m all ≡ (λ at. q) = λ z. λ at. in_names q m all at z in (
        anew p k k n n before now refl told.0,
        (
          subst (λ x. P x specifiers m all) (sym same) (anew q specifiers specifiers m m names all refl told.1.0),
          subst (λ x. EachPlace around P (around x specifiers m all) 0 all) (sym same)
              (subst (λ f. EachPlace around P f 0 all) (sym inner) (names_there (merged_are known.names_are known.later_are) q specifiers m names told.1.0 0)),
          tt,
        ),
        left_there out p (suc at) (suc at) told.2,
      )
  row_there (merges_behind k n below r s h) p at told = (told.0, told.1, row_there h p (suc at) told.2)

-- ---- what is so of a place

in_name_stand : (p : Stand) (k : Kind) → binds_import k ≡ true → (n : Note) (b : Forest) (at : ℕ) → stand_inside p k n b at ≡ p
in_name_stand p (Kind.ImportSpecifier imported) h n b at = refl
in_name_stand p Kind.ImportDefaultSpecifier h n b at = refl
in_name_stand p Kind.ImportNamespaceSpecifier h n b at = refl
in_name_stand p k h n b at = absurd (true≢false (sym h))

pub merged_throughout : (P : Stand → Type 0) (t u : Forest) → MergedImports t u → EachPlace stand_inside (λ p k n below. P p) (stands_of t) 0 t → EachPlace stand_inside (λ p k n below. P p) (stands_of u) 0 u
merged_throughout P _ _ (imports_merge n m r s h none) told =
    let same : calls_of r ≡ calls_of s = ap (λ b. (false || b) || false) (sym (merged_evals h)) in
    let row = row_there stand_inside (λ p k n below. P p) (λ p k l n m below now e x. x) (λ p source n b c. refl) (λ p n b at. refl) in_name_stand h (at_items (calls_of r) n) 0 told.1.1 in (
      subst (λ b. P (at_top b n)) same told.0,
      (
        subst (λ b. P (at_items b n)) same told.1.0,
        subst (λ b. EachPlace stand_inside (λ p k n below. P p) (λ i. at_items b n) 0 s) same row,
        tt,
      ),
      tt,
    )

-- ---- scopes

in_name_scope : (p : Option ℕ) (k : Kind) → binds_import k ≡ true → (n : Note) (b : Forest) (at : ℕ) → scope_inside p k n b at ≡ p
in_name_scope p (Kind.ImportSpecifier imported) h n b at = refl
in_name_scope p Kind.ImportDefaultSpecifier h n b at = refl
in_name_scope p Kind.ImportNamespaceSpecifier h n b at = refl
in_name_scope p k h n b at = absurd (true≢false (sym h))

module _ (i : ℕ) where
  names_marked : {t : Forest} → AreNames t → count i (scope_marks t) ≡ 0
  names_marked no_names = refl
  names_marked (a_name (Kind.ImportSpecifier imported) n m x rest h names) = names_marked names
  names_marked (a_name Kind.ImportDefaultSpecifier n m x rest h names) = names_marked names
  names_marked (a_name Kind.ImportNamespaceSpecifier n m x rest h names) = names_marked names
  names_marked (a_name k n m x rest h names) = absurd (true≢false (sym h))

  import_marked : (source : List ℕ) (n m : Note) (names rest : Forest) → AreNames names → count i (scope_marks (node (import_declaration source) n (node specifiers m names nothing) rest)) ≡ count i (scope_marks rest)
  import_marked source n m names rest are =
      Prim.omega (arith, marks_of_node i (import_declaration source) n (node specifiers m names nothing) rest, marks_of_node i specifiers m names nothing, names_marked are)

  left_marked : {source : List ℕ} {names r s : Forest} → AreNames names → WithoutImport source names r s → count i (scope_marks s) ≡ count i (scope_marks r)
  left_marked {source = source} {names = names} are (import_leaves n m rest) = sym (import_marked source n m names rest are)
  left_marked are (leaves_behind k n below r s out) = Prim.omega (arith, marks_of_node i k n below r, marks_of_node i k n below s, left_marked are out)

  row_marked : {r s : Forest} → MergesIn r s → count i (scope_marks s) ≡ count i (scope_marks r)
  row_marked (merges_here source n m names later r s h out) =
      let known = may names later h in
      Prim.omega (arith, import_marked source n m names r known.names_are, import_marked source n m (names_merged names later) s (merged_are known.names_are known.later_are), left_marked known.later_are out)
  row_marked (merges_behind k n below r s h) = Prim.omega (arith, marks_of_node i k n below r, marks_of_node i k n below s, row_marked h)

  program_marked : (n m : Note) (t : Forest) → count i (scope_marks (node (Kind.Program source_type.Module) n (node Kind.Statements m t nothing) nothing)) ≡ count i (own_scope (Kind.Program source_type.Module) n nothing) + count i (scope_marks t)
  program_marked n m t =
      Prim.omega (arith, marks_of_node i (Kind.Program source_type.Module) n (node Kind.Statements m t nothing) nothing, marks_of_node i Kind.Statements m t nothing)

pub merged_nests : (s : Scoping) (t u : Forest) → MergedImports t u → ScopesNest s t → ScopesNest s u
merged_nests table _ _ (imports_merge n m r s h none) nests = record {
  nested = (
    nests.nested.0,
    (nests.nested.1.0, row_there scope_inside (NestsAt table) (λ p k l n m below now closed x o. absurd (true≢false (sym o ∙ closed))) (λ p source n b c. refl) (λ p n b at. refl) in_name_scope h n.id 0 nests.nested.1.1, tt),
    tt,
  );
  once = λ i. Prim.omega (arith, nests.once i, program_marked i n m r, program_marked i n m s, row_marked i h);
}

-- ---- calls of `eval`

names_evaluate : {t : Forest} → AreNames t → evals t ≡ 0
names_evaluate no_names = refl
names_evaluate (a_name (Kind.ImportSpecifier imported) n m x rest h names) = Prim.omega (arith, names_evaluate names)
names_evaluate (a_name Kind.ImportDefaultSpecifier n m x rest h names) = Prim.omega (arith, names_evaluate names)
names_evaluate (a_name Kind.ImportNamespaceSpecifier n m x rest h names) = Prim.omega (arith, names_evaluate names)
names_evaluate (a_name k n m x rest h names) = absurd (true≢false (sym h))

left_evaluates : {source : List ℕ} {names r s : Forest} → AreNames names → WithoutImport source names r s → evals s ≡ evals r
left_evaluates are (import_leaves n m rest) = Prim.omega (arith, names_evaluate are)
left_evaluates are (leaves_behind k n below r s out) = Prim.omega (arith, left_evaluates are out)

pub row_evaluates : {r s : Forest} → MergesIn r s → evals s ≡ evals r
row_evaluates (merges_here source n m names later r s h out) =
    let known = may names later h in
    Prim.omega (arith, names_evaluate known.names_are, names_evaluate (merged_are known.names_are known.later_are), left_evaluates known.later_are out)
row_evaluates (merges_behind k n below r s h) = Prim.omega (arith, row_evaluates h)

pub merged_evaluates : (t u : Forest) → MergedImports t u → evals u ≡ evals t
merged_evaluates _ _ (imports_merge n m r s h none) = Prim.omega (arith, row_evaluates h)
