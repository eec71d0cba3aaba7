-- Where an import and an export are an export from the other module, less is left, no call leaves, and something may change.
use Rattle.std.proofs.Common.{◌≡◌, ◌≤◌, ◌<◌, ℕ, suc, ◌+◌, List, Bool, true, false, ◌||◌, if◌then◌else◌, Some, None, arith, refl, ap}
use Rattle.js_syntax.specs.declared.node_kind.NodeKind.{NodeKind as Kind}
use Rattle.js_syntax.specs.declared.node_kind.NodeKind.TheVariants.{Program as program, Statements as statements, ImportDeclaration as import_declaration, Specifiers as specifiers, ReferenceName as reference_name, ExportNamedDeclaration as export_named_declaration, ExportAllDeclaration as export_all_declaration, ExportSpecifier as export_specifier, ForeignSpecifier as foreign_specifier}
use Rattle.js_syntax.specs.declared.scalar.SourceType.TheVariants as source_type
use Rattle.js_syntax.specs.declared.value.ModuleName.{ModuleName}
use Rattle.js_syntax.specs.Facts.{weight}
use Rattle.js_syntax.specs.Node.{Forest, Note, nothing, node, absent, total}
use Rattle.json_shape.specs.Exact.{is_exact_module_name}
use Rattle.min_pass.specs.declared.around.Around.{Around as Asked}
use Rattle.min_pass.specs.Around.{entered as asked_below, outermost as asked_of_program}
use Rattle.js_meaning_near.specs.Near.{module_of}
use Rattle.js_syntax.proofs.Truth.{first_of_either, second_of_either}
use Rattle.steps.specs.Allowed.Calls.{begins_with_call, counted, may_end, calls_in, root_calls}
use Rattle.steps.specs.Allowed.Changing.{ends_before, may_change_at, may_change, may_change_somewhere}
use Rattle.steps.specs.Allowed.Exposure.{Exposure, exposed_inside, exposed_of, evaluates_somewhere}
use Rattle.steps.specs.Allowed.PassedExports.{Passes, passes_none, passes_one, PassedOn, names_passed_on, namespace_passed_on, WithoutExport, export_leaves, leaves_behind, PassesIn, passes_here, passes_behind, PassedExports, exports_pass}
use Rattle.steps.proofs.Owed.PassedRows.{IsNew, new_names, new_namespace, parts, bound_exactly}

-- ---- what is summed over nodes, by a count of which what comes in has no more than what goes

pub record IsPassing (f : Kind → ℕ) : Type 0 where
  pub named : (source : List ℕ) → f (export_named_declaration (Some source)) ≤ f (import_declaration source) + f (export_named_declaration None)
  pub each : (imported exported : ModuleName) → is_exact_module_name imported ≡ true → f (foreign_specifier imported exported) ≤ f (export_specifier exported)
  pub whole : (source : List ℕ) (exported : ModuleName) → f (export_all_declaration (Some exported) source) ≤ f (import_declaration source) + f (export_named_declaration None) + f (export_specifier exported)

module _ (f : Kind → ℕ) where
  abbrev sum : Forest → ℕ
  sum t = total f t

  left_sum : {listed r s : Forest} → WithoutExport listed r s → sum s + (f (export_named_declaration None) + f specifiers + sum listed) ≡ sum r
  left_sum (export_leaves n m rest) = Prim.omega arith
  left_sum (leaves_behind k n below r s out) = Prim.omega (arith, left_sum out)

  module _ (p : IsPassing f) where
    passed_sum : {names listed passed : Forest} → Passes names listed passed → sum passed ≤ sum listed
    passed_sum passes_none = Prim.omega arith
    passed_sum (passes_one exported imported n m i x rest passed binds more) = Prim.omega (arith, p.each imported exported (bound_exactly binds), passed_sum more)

    row_sum : {names r s z : Forest} → PassesIn names r s z → sum z ≤ sum r
    row_sum (passes_here source n m i _ _ _ r s (names_passed_on names listed passed j may passes) out) = Prim.omega (arith, p.named source, passed_sum passes, left_sum out)
    row_sum (passes_here source n m i _ _ _ r s (namespace_passed_on exported j l o q x) out) = Prim.omega (arith, p.whole source exported, left_sum out)
    row_sum (passes_behind k n below r s z h) = Prim.omega (arith, row_sum h)

    pub passed_total : (t u : Forest) → PassedExports t u → total f u ≤ total f t
    passed_total _ _ (exports_pass n m names r s z h free none) = Prim.omega (arith, row_sum h)

-- an import or an export goes

weight_passes : IsPassing weight
weight_passes = record { named = λ source. Prim.omega arith; each = λ imported exported exact. Prim.omega arith; whole = λ source exported. Prim.omega arith }

row_lighter : {names r s z : Forest} → PassesIn names r s z → total weight z < total weight r
row_lighter (passes_here source n m i _ _ _ r s (names_passed_on names listed passed j may passes) out) = Prim.omega (arith, passed_sum weight weight_passes passes, left_sum weight out)
row_lighter (passes_here source n m i _ _ _ r s (namespace_passed_on exported j l o q x) out) = Prim.omega (arith, left_sum weight out)
row_lighter (passes_behind k n below r s z h) = Prim.omega (arith, row_lighter h)

pub passed_lighter : (t u : Forest) → PassedExports t u → total weight u < total weight t
passed_lighter _ _ (exports_pass n m names r s z h free none) = Prim.omega (arith, row_lighter h)

-- ---- calls

left_calls : {listed r s : Forest} → WithoutExport listed r s → calls_in r ≡ calls_in s
left_calls (export_leaves n m rest) = Prim.omega arith
left_calls (leaves_behind k n below r s out) = ap (λ i. counted k (begins_with_call below) + (if may_end k then 0 else i)) (left_calls out)

new_calls : {source : List ℕ} {k : Kind} {below : Forest} → IsNew source k below → (i : Note) (s : Forest) → calls_in s ≡ calls_in (node k i below s)
new_calls (new_names passed j are) i s = Prim.omega arith
new_calls (new_namespace exported) i s = Prim.omega arith

row_calls : {names r s z : Forest} → PassesIn names r s z → calls_in r ≡ calls_in z
row_calls (passes_here source n m i listed k below r s on out) = Prim.omega (arith, left_calls out, new_calls (parts on).new i s)
row_calls (passes_behind k n below r s z h) = ap (λ i. counted k (begins_with_call below) + (if may_end k then 0 else i)) (row_calls h)

pub passed_calls : (t u : Forest) → PassedExports t u → root_calls t ≡ root_calls u
passed_calls _ _ (exports_pass n m names r s z h free none) = row_calls h

-- ---- where something may change

row_may_change : (evaluates : Bool) (w : Asked) (es : ℕ → Exposure) {names : Forest} (at : ℕ) {r s z : Forest} → PassesIn names r s z → may_change evaluates w es at r ≡ true
row_may_change evaluates w es at (passes_here source n m i listed k below r s on out) = refl
row_may_change evaluates w es at (passes_behind k n below r s z h) =
    second_of_either (may_change_at evaluates w (es at) k below || may_change evaluates (asked_below w k) (exposed_inside (es at) k below) 0 below) (ends_before w.row k below r || may_change evaluates w es (suc at) r)
    (second_of_either (ends_before w.row k below r) (may_change evaluates w es (suc at) r) (row_may_change evaluates w es (suc at) h))

pub passed_may_change : (t u : Forest) → PassedExports t u → may_change_somewhere t ≡ true
passed_may_change _ _ (exports_pass n m names r s z h free none) =
    let t = module_of n m r in
    let top = program source_type.Module in
    let inner = asked_below (asked_of_program true) top in
    let es = exposed_inside (exposed_of t 0) top (node statements m r nothing) in
    first_of_either (may_change (evaluates_somewhere t) inner es 0 (node statements m r nothing)) false
    (first_of_either (may_change (evaluates_somewhere t) (asked_below inner statements) (exposed_inside (es 0) statements r) 0 r) false
    (row_may_change (evaluates_somewhere t) (asked_below inner statements) (exposed_inside (es 0) statements r) 0 h))
