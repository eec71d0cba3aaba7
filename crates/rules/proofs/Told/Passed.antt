-- What holds at each place of a program holds at each place where an import and an export are an export from the other module, and no call of
-- `eval` and no scope comes or leaves.
use Rattle.std.proofs.Common.{◌≡◌, ◌∙◌, ◌≤◌, ℕ, suc, List, [], ◌++◌, false, true≢false, ◌||◌, Option, Some, refl, sym, ap, subst, arith}
use Rattle.js_syntax.specs.declared.node_kind.NodeKind.{NodeKind as Kind}
use Rattle.js_syntax.specs.declared.node_kind.NodeKind.TheVariants.{ImportDeclaration as import_declaration, Specifiers as specifiers, ExportNamedDeclaration as export_named_declaration, ForeignSpecifier as foreign_specifier}
use Rattle.js_syntax.specs.declared.scalar.SourceType.TheVariants as source_type
use Rattle.js_syntax.specs.Node.{Forest, Note, nothing, node, absent}
use Rattle.scope_rules.specs.Context.{opens}
use Rattle.scope_rules.specs.Table.{Scoping}
use Rattle.scope_counts.specs.Exact.{count}
use Rattle.min_context.specs.Edited.{evals}
use Rattle.steps.specs.Allowed.PassedExports.{WithoutExport, export_leaves, leaves_behind, PassesIn, passes_here, passes_behind, PassedExports, exports_pass}
use Rattle.steps.specs.Marked.Flags.{Stand, stand_inside, stands_of}
use Rattle.steps.proofs.Marked.Merged.{at_top, at_items, calls_of}
use Rattle.steps.proofs.Marked.Passed.{passed_evals}
use Rattle.steps.proofs.Owed.MergedRows.{AreNames, no_names, a_name}
use Rattle.steps.proofs.Owed.PassedRows.{AreListed, none_listed, one_listed, ArePassed, none_passed, one_passed, IsNew, new_names, new_namespace, parts}
use Rattle.rules.specs.Told.Places.{EachPlace}
use Rattle.rules.specs.Told.Nesting.{scope_inside, own_scope, scope_marks, NestsAt, ScopesNest}

-- ---- places

module _ {S : Type 0} (around : S → Kind → Note → Forest → ℕ → S) (P : S → Kind → Note → Forest → Type 0)
    (anew : (p : S) (k l : Kind) (n m : Note) (below now : Forest) → opens l now ≡ false → P p k n below → P p l m now)
    (in_export : (p : S) (source : Option (List ℕ)) (n : Note) (b : Forest) (at : ℕ) → around p (export_named_declaration source) n b at ≡ p)
    (in_names : (p : S) (n : Note) (b : Forest) (at : ℕ) → around p specifiers n b at ≡ p) where
  abbrev There : S → ℕ → Forest → Type 0
  There p at t = EachPlace around P (λ i. p) at t

  anywhere : (p : S) (i j : ℕ) (t : Forest) → There p i t → There p j t
  anywhere p i j nothing h = tt
  anywhere p i j (absent t) h = anywhere p (suc i) (suc j) t h
  anywhere p i j (node k n b t) h = (h.0, h.1, anywhere p (suc i) (suc j) t h.2)

  passed_there : {passed : Forest} → ArePassed passed → (p : S) (k : Kind) (n : Note) (below : Forest) → P p k n below → (at : ℕ) → There p at passed
  passed_there none_passed p k n below h at = tt
  passed_there (one_passed imported exported m rest are) p k n below h at = (anew p k (foreign_specifier imported exported) n m below nothing refl h, tt, passed_there are p k n below h (suc at))

  new_there : {source : List ℕ} {k : Kind} {now : Forest} → IsNew source k now → (p : S) (l : Kind) (n i : Note) (below s : Forest) → P p l n below → (at : ℕ) → There p (suc at) s → There p at (node k i now s)
  new_there {source = source} (new_names passed j are) p l n i below s h at rest =
      let now = absent (node specifiers j passed nothing) in
      let outer : around p (export_named_declaration (Some source)) i now ≡ (λ at. p) = λ z. λ at. in_export p (Some source) i now at z in
      let inner : around p specifiers j passed ≡ (λ at. p) = λ z. λ at. in_names p j passed at z in (
        anew p l (export_named_declaration (Some source)) n i below now refl h,
        subst (λ f. EachPlace around P f 1 (node specifiers j passed nothing)) (sym outer)
            (anew p l specifiers n j below passed refl h, subst (λ f. EachPlace around P f 0 passed) (sym inner) (passed_there are p l n below h 0), tt),
        rest,
      )
  new_there (new_namespace exported) p l n i below s h at rest = (anew p l _ n i below nothing refl h, tt, rest)

  left_there : {listed r s : Forest} → WithoutExport listed r s → (p : S) (i j : ℕ) → There p i r → There p j s
  left_there (export_leaves n m rest) p i j h = anywhere p (suc i) j rest h.2
  left_there (leaves_behind k n below r s out) p i j h = (h.0, h.1, left_there out p (suc i) (suc j) h.2)

  pub row_there : (p : S) {names : Forest} (at : ℕ) {r s z : Forest} → PassesIn names r s z → There p at r → There p at z
  row_there p {names = names} at (passes_here source n m i listed k below r s on out) told =
      new_there (parts on).new p (import_declaration source) n i (node specifiers m names nothing) s told.0 at (left_there out p (suc at) (suc at) told.2)
  row_there p at (passes_behind k n below r s z h) told = (told.0, told.1, row_there p (suc at) h told.2)

-- ---- what is so of a place

pub passed_throughout : (P : Stand → Type 0) (t u : Forest) → PassedExports t u → EachPlace stand_inside (λ p k n below. P p) (stands_of t) 0 t → EachPlace stand_inside (λ p k n below. P p) (stands_of u) 0 u
passed_throughout P _ _ (exports_pass n m names r s z h free none) told =
    let same : calls_of r ≡ calls_of z = ap (λ b. (false || b) || false) (sym (passed_evals h)) in
    let row = row_there stand_inside (λ p k n below. P p) (λ p k l n m below now e x. x) (λ p source n b at. refl) (λ p n b at. refl) (at_items (calls_of r) n) 0 h told.1.1 in (
      subst (λ b. P (at_top b n)) same told.0,
      (
        subst (λ b. P (at_items b n)) same told.1.0,
        subst (λ b. EachPlace stand_inside (λ p k n below. P p) (λ i. at_items b n) 0 z) same row,
        tt,
      ),
      tt,
    )

-- ---- scopes

names_marked : {t : Forest} → AreNames t → scope_marks t ≡ []
names_marked no_names = refl
names_marked (a_name (Kind.ImportSpecifier imported) n m x rest h names) = names_marked names
names_marked (a_name Kind.ImportDefaultSpecifier n m x rest h names) = names_marked names
names_marked (a_name Kind.ImportNamespaceSpecifier n m x rest h names) = names_marked names
names_marked (a_name k n m x rest h names) = absurd (true≢false (sym h))

listed_marked : {t : Forest} → AreListed t → scope_marks t ≡ []
listed_marked none_listed = refl
listed_marked (one_listed exported n m x rest are) = listed_marked are

passed_marked : {t : Forest} → ArePassed t → scope_marks t ≡ []
passed_marked none_passed = refl
passed_marked (one_passed imported exported n rest are) = passed_marked are

new_marked : {source : List ℕ} {k : Kind} {below : Forest} → IsNew source k below → (i : Note) (s : Forest) → scope_marks (node k i below s) ≡ scope_marks s
new_marked (new_names passed j are) i s = ap (λ l. (l ++ []) ++ scope_marks s) (passed_marked are)
new_marked (new_namespace exported) i s = refl

left_marked : {listed r s : Forest} → AreListed listed → WithoutExport listed r s → scope_marks s ≡ scope_marks r
left_marked are (export_leaves n m rest) = sym (ap (λ l. (l ++ []) ++ scope_marks rest) (listed_marked are))
left_marked are (leaves_behind k n below r s out) = ap (λ l. own_scope k n below ++ (scope_marks below ++ l)) (left_marked are out)

row_marked : {names r s z : Forest} → PassesIn names r s z → scope_marks r ≡ scope_marks z
row_marked (passes_here source n m i listed k below r s on out) =
    let known = parts on in
    ap (λ l. (l ++ []) ++ scope_marks r) (names_marked known.names_are) ∙ sym (left_marked known.listed_are out) ∙ sym (new_marked known.new i s)
row_marked (passes_behind k n below r s z h) = ap (λ l. own_scope k n below ++ (scope_marks below ++ l)) (row_marked h)

pub passed_nests : (s : Scoping) (t u : Forest) → PassedExports t u → ScopesNest s t → ScopesNest s u
passed_nests table _ _ (exports_pass n m names r s z h free none) nests = record {
  nested = (
    nests.nested.0,
    (
      nests.nested.1.0,
      row_there scope_inside (NestsAt table) (λ p k l n m below now closed x o. absurd (true≢false (sym o ∙ closed))) (λ p source n b at. refl) (λ p n b at. refl) n.id 0 h nests.nested.1.1,
      tt,
    ),
    tt,
  );
  once = λ i. subst (λ l. count i (own_scope (Kind.Program source_type.Module) n nothing ++ ((l ++ []) ++ [])) ≤ 1) (row_marked h) (nests.once i);
}

-- ---- calls of `eval`

names_evaluate : {t : Forest} → AreNames t → evals t ≡ 0
names_evaluate no_names = refl
names_evaluate (a_name (Kind.ImportSpecifier imported) n m x rest h names) = Prim.omega (arith, names_evaluate names)
names_evaluate (a_name Kind.ImportDefaultSpecifier n m x rest h names) = Prim.omega (arith, names_evaluate names)
names_evaluate (a_name Kind.ImportNamespaceSpecifier n m x rest h names) = Prim.omega (arith, names_evaluate names)
names_evaluate (a_name k n m x rest h names) = absurd (true≢false (sym h))

pub listed_evaluate : {t : Forest} → AreListed t → evals t ≡ 0
listed_evaluate none_listed = refl
listed_evaluate (one_listed exported n m x rest are) = Prim.omega (arith, listed_evaluate are)

passed_evaluate : {t : Forest} → ArePassed t → evals t ≡ 0
passed_evaluate none_passed = refl
passed_evaluate (one_passed imported exported n rest are) = Prim.omega (arith, passed_evaluate are)

new_evaluates : {source : List ℕ} {k : Kind} {below : Forest} → IsNew source k below → (i : Note) (s : Forest) → evals (node k i below s) ≡ evals s
new_evaluates (new_names passed j are) i s = Prim.omega (arith, passed_evaluate are)
new_evaluates (new_namespace exported) i s = Prim.omega arith

left_evaluates : {listed r s : Forest} → AreListed listed → WithoutExport listed r s → evals s ≡ evals r
left_evaluates are (export_leaves n m rest) = Prim.omega (arith, listed_evaluate are)
left_evaluates are (leaves_behind k n below r s out) = Prim.omega (arith, left_evaluates are out)

pub row_evaluates : {names r s z : Forest} → PassesIn names r s z → evals z ≡ evals r
row_evaluates (passes_here source n m i listed k below r s on out) =
    let known = parts on in
    Prim.omega (arith, names_evaluate known.names_are, new_evaluates known.new i s, left_evaluates known.listed_are out)
row_evaluates (passes_behind k n below r s z h) = Prim.omega (arith, row_evaluates h)

pub passed_evaluates : (t u : Forest) → PassedExports t u → evals u ≡ evals t
passed_evaluates _ _ (exports_pass n m names r s z h free none) = Prim.omega (arith, row_evaluates h)
