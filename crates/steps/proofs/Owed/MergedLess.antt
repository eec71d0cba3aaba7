-- Where two imports are one, less is left, no call leaves, and something may change.
use Rattle.std.proofs.Common.{◌≡◌, ◌≤◌, ◌<◌, ℕ, suc, ◌+◌, ◌==◌, List, Bool, true, false, ◌||◌, if◌then◌else◌, arith, refl, ap}
use Rattle.js_syntax.specs.declared.node_kind.NodeKind.{NodeKind as Kind}
use Rattle.js_syntax.specs.declared.node_kind.NodeKind.TheVariants.{Program as program, Statements as statements, ImportDeclaration as import_declaration, Specifiers as specifiers, BindingName as binding_name}
use Rattle.js_syntax.specs.declared.scalar.SourceType.TheVariants as source_type
use Rattle.js_syntax.specs.Facts.{weight}
use Rattle.js_syntax.specs.Node.{Forest, nothing, node, absent, joined, total}
use Rattle.min_pass.specs.declared.around.Around.{Around as Asked}
use Rattle.min_pass.specs.Around.{entered as asked_below, outermost as asked_of_program}
use Rattle.js_meaning_near.specs.Near.{module_of}
use Rattle.js_syntax.proofs.Truth.{first_of_either, second_of_either}
use Rattle.steps.specs.Steps.{binds_import}
use Rattle.steps.specs.Allowed.Calls.{begins_with_call, counted, may_end, calls_in, root_calls}
use Rattle.steps.specs.Allowed.Changing.{ends_before, may_change_at, may_change, may_change_somewhere}
use Rattle.steps.specs.Allowed.Exposure.{Exposure, exposed_inside, exposed_of, evaluates_somewhere}
use Rattle.steps.specs.Allowed.MergedImports.{is_default, how_many, as_named, all_named, first_default, but_first_default, names_merged, WithoutImport, import_leaves, leaves_behind, MergesIn, merges_here, merges_behind, MergedImports, imports_merge}
use Rattle.steps.proofs.Owed.MergedRows.{AreNames, no_names, a_name, others_are, may}

-- ---- what is summed over nodes, where a default counts no less than an export of its name

module _ (f : Kind → ℕ) (less : (k : Kind) → binds_import k ≡ true → f (as_named k) ≤ f k) where
  abbrev sum : Forest → ℕ
  sum t = total f t

  joined_sum : (t u : Forest) → sum (joined t u) ≡ sum t + sum u
  joined_sum nothing u = Prim.omega arith
  joined_sum (absent t) u = joined_sum t u
  joined_sum (node k n b t) u = Prim.omega (arith, joined_sum t u)

  named_sum : {t : Forest} → AreNames t → sum (all_named t) ≤ sum t
  named_sum no_names = Prim.omega arith
  named_sum (a_name k n m x rest h names) = Prim.omega (arith, less k h, named_sum names)

  default_sum : {t : Forest} → AreNames t → sum (first_default t) + sum (but_first_default t) ≡ sum t
  default_sum no_names = refl
  default_sum (a_name k n m x rest h names) = by (is_default k) (default_sum names)
    where
      below : Forest
      below = node (binding_name x) m nothing nothing

      by : (b : Bool) → sum (first_default rest) + sum (but_first_default rest) ≡ sum rest → sum (if b then node k n below nothing else first_default rest) + sum (if b then rest else node k n below (but_first_default rest)) ≡ sum (node k n below rest)
      by true e = Prim.omega arith
      by false e = Prim.omega (arith, e)

  merged_sum : {t u : Forest} → AreNames t → AreNames u → sum (names_merged t u) ≤ sum t + sum u
  merged_sum {t = t} {u = u} a b = by (how_many is_default t == 0)
    where
      by : (c : Bool) → sum (if c then joined (first_default u) (joined t (all_named (but_first_default u))) else joined t (all_named u)) ≤ sum t + sum u
      by true =
          Prim.omega (
            arith,
            joined_sum (first_default u) (joined t (all_named (but_first_default u))),
            joined_sum t (all_named (but_first_default u)),
            named_sum (others_are b),
            default_sum b,
          )
      by false = Prim.omega (arith, joined_sum t (all_named u), named_sum b)

  left_sum : {source : List ℕ} {names r s : Forest} → WithoutImport source names r s → sum s + (f (import_declaration source) + f specifiers + sum names) ≡ sum r
  left_sum (import_leaves n m rest) = Prim.omega arith
  left_sum (leaves_behind k n below r s out) = Prim.omega (arith, left_sum out)

  row_sum : {r s : Forest} → MergesIn r s → sum s ≤ sum r
  row_sum (merges_here source n m names later r s h out) =
      let known = may names later h in
      Prim.omega (arith, merged_sum known.names_are known.later_are, left_sum out)
  row_sum (merges_behind k n below r s h) = Prim.omega (arith, row_sum h)

  pub merged_total : (t u : Forest) → MergedImports t u → total f u ≤ total f t
  merged_total _ _ (imports_merge n m r s h none) = Prim.omega (arith, row_sum h)

-- an import goes, and its names don't

same_weight : (k : Kind) → binds_import k ≡ true → weight (as_named k) ≤ weight k
same_weight Kind.ImportDefaultSpecifier h = Prim.omega arith
same_weight k h = Prim.omega arith

pub row_lighter : {r s : Forest} → MergesIn r s → total weight s < total weight r
row_lighter (merges_here source n m names later r s h out) =
    let known = may names later h in
    Prim.omega (arith, merged_sum weight same_weight known.names_are known.later_are, left_sum weight same_weight out)
row_lighter (merges_behind k n below r s h) = Prim.omega (arith, row_lighter h)

pub merged_lighter : (t u : Forest) → MergedImports t u → total weight u < total weight t
merged_lighter _ _ (imports_merge n m r s h none) = Prim.omega (arith, row_lighter h)

-- ---- calls

left_calls : {source : List ℕ} {names r s : Forest} → WithoutImport source names r s → calls_in r ≡ calls_in s
left_calls (import_leaves n m rest) = Prim.omega arith
left_calls (leaves_behind k n below r s out) = ap (λ i. counted k (begins_with_call below) + (if may_end k then 0 else i)) (left_calls out)

row_calls : {r s : Forest} → MergesIn r s → calls_in r ≡ calls_in s
row_calls (merges_here source n m names later r s h out) = ap (λ i. 0 + i) (left_calls out)
row_calls (merges_behind k n below r s h) = ap (λ i. counted k (begins_with_call below) + (if may_end k then 0 else i)) (row_calls h)

pub merged_calls : (t u : Forest) → MergedImports t u → root_calls t ≡ root_calls u
merged_calls _ _ (imports_merge n m r s h none) = row_calls h

-- ---- where something may change

row_may_change : (evaluates : Bool) (w : Asked) (es : ℕ → Exposure) (at : ℕ) {r s : Forest} → MergesIn r s → may_change evaluates w es at r ≡ true
row_may_change evaluates w es at (merges_here source n m names later r s h out) = refl
row_may_change evaluates w es at (merges_behind k n below r s h) =
    second_of_either (may_change_at evaluates w (es at) k below || may_change evaluates (asked_below w k) (exposed_inside (es at) k below) 0 below) (ends_before w.row k below r || may_change evaluates w es (suc at) r)
    (second_of_either (ends_before w.row k below r) (may_change evaluates w es (suc at) r) (row_may_change evaluates w es (suc at) h))

pub merged_may_change : (t u : Forest) → MergedImports t u → may_change_somewhere t ≡ true
merged_may_change _ _ (imports_merge n m r s h none) =
    let t = module_of n m r in
    let top = program source_type.Module in
    let inner = asked_below (asked_of_program true) top in
    let es = exposed_inside (exposed_of t 0) top (node statements m r nothing) in
    first_of_either (may_change (evaluates_somewhere t) inner es 0 (node statements m r nothing)) false
    (first_of_either (may_change (evaluates_somewhere t) (asked_below inner statements) (exposed_inside (es 0) statements r) 0 r) false
    (row_may_change (evaluates_somewhere t) (asked_below inner statements) (exposed_inside (es 0) statements r) 0 h))
