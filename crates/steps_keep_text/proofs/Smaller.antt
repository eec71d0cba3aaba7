-- What edits leave of a tree is no larger, by any count of its nodes, and no deeper.
use Rattle.std.proofs.Common.{◌≡◌, ◌≤◌, ◌+◌, ◌==◌, ℕ, suc, max, List, Bool, true, false, if◌then◌else◌, refl, sym, true≢false, arith}
use Rattle.js_syntax.specs.declared.node_kind.NodeKind.{NodeKind as Kind}
use Rattle.js_syntax.specs.declared.node_kind.NodeKind.TheVariants.{EmptyStatement as empty_statement, ExpressionStatement as expression_statement, Class as class, BindingName as binding_name}
use Rattle.js_syntax.specs.Node.{Forest, Note, nothing, node, absent, joined, bare, total}
use Rattle.js_tree.specs.Count.{one_each, node_count, lower, levels_at, levels}
use Rattle.json_kept.proofs.Depths.{total_joined}
use Rattle.scope_laws.specs.Lists.{is_list}
use Rattle.scope_laws.proofs.Notes.{total_bare, unseen}
use Rattle.steps.specs.KeepForm.Part.{may_be_idle}
use Rattle.steps.proofs.KeepForm.Asked.{idle_kinds, tested_kinds}
use Rattle.steps.specs.Steps.{binds_import}
use Rattle.steps.specs.Allowed.MergedImports.{is_default, how_many, as_named, all_named, first_default, but_first_default, names_merged, WithoutImport, import_leaves, leaves_behind, MergesIn, merges_here, merges_behind, MergedImports, imports_merge}
use Rattle.steps.specs.Allowed.PassedExports.{Passes, passes_none, passes_one, names_passed_on, namespace_passed_on, WithoutExport, export_leaves, leaves_behind as export_behind, PassesIn, passes_here, passes_behind, PassedExports, exports_pass}
use Rattle.steps.proofs.Owed.MergedLess.{merged_total}
use Rattle.steps.proofs.Owed.PassedLess.{IsPassing, passed_total}
use Rattle.steps.proofs.Owed.MergedRows.{AreNames, no_names, a_name, may, merged_are}
use Rattle.steps.proofs.Marked.Cuts as cuts
use Rattle.steps.proofs.Marked.Cuts.{Cuts}
use Rattle.steps_keep_text.proofs.Along.{IsShed}
use Rattle.steps_keep_text.proofs.KeptNames.{names_weigh_less, names_no_deeper, one_statement}
use Rattle.steps_keep_text.proofs.Picked.{IsSparing, picked_counts}

-- ---- counts, by which what edits build counts no more than what it is built of

module _ (counts : Kind → ℕ) (spares : IsSparing counts) where
  cut_lighter : (listed : Bool) (t u : Forest) → Cuts listed t u → total counts u ≤ total counts t
  cut_lighter listed t u (cuts.leaves k n below rest plain) = Prim.omega arith
  cut_lighter listed t u (cuts.empties l n m below rest) = Prim.omega (arith, spares.empty)
  cut_lighter listed t u (cuts.empties_idle l k n m below rest idle) = Prim.omega (arith, spares.empty_idle k idle)
  cut_lighter listed t u (cuts.tests l k z n m i b after rest tested) = Prim.omega (arith, spares.statement_of_test k tested)
  cut_lighter listed t u (cuts.states z how x k n m l j i o b rest none) = Prim.omega (arith, spares.statement_of_value how)
  cut_lighter listed t u (cuts.alternate y l i j o d b) = Prim.omega arith
  cut_lighter listed t u (cuts.parts i k l n m b v w rest gives unasked) = Prim.omega (arith, total_joined counts v (node l m b w))
  cut_lighter listed t u (cuts.rebuilds i k l n m a b rest made) = Prim.omega (arith, picked_counts counts spares made.picks)
  cut_lighter listed t u (cuts.names_left i k n m a b rest left) = Prim.omega (arith, names_weigh_less counts k n m a b left)
  cut_lighter listed t u (cuts.inside l k n below now rest called c) = Prim.omega (arith, cut_lighter (is_list k) below now c)
  cut_lighter listed t u (cuts.behind l k n below rest now c) = Prim.omega (arith, cut_lighter l rest now c)
  cut_lighter listed t u (cuts.behind_none l rest now c) = cut_lighter l rest now c

  named_counts : (k : Kind) → binds_import k ≡ true → counts (as_named k) ≤ counts k
  named_counts Kind.ImportDefaultSpecifier h = spares.default_named
  named_counts k h = Prim.omega arith

  pub counts_shed : IsPassing counts → IsShed (total counts)
  counts_shed passing = record { renoted = unseen (total counts) (total_bare counts); cut = cut_lighter false; merged = merged_total counts named_counts; passed = passed_total counts passing }

-- ---- levels: in a list none stands lower than the others by its place

abbrev IsLevel : (more : ℕ → ℕ) → Type 0
IsLevel more = (at : ℕ) → more at ≡ 0

list_level : (k : Kind) → is_list k ≡ true → IsLevel (lower k)
list_level (class how) h = absurd (true≢false (sym h))
list_level k h = λ at. refl

-- so that they may stand further on
moved : (more : ℕ → ℕ) → IsLevel more → (at later : ℕ) (t : Forest) → levels_at more at t ≡ levels_at more later t
moved more level at later nothing = refl
moved more level at later (absent rest) = moved more level (suc at) (suc later) rest
moved more level at later (node k n below rest) = Prim.omega (arith, level at, level later, moved more level (suc at) (suc later) rest)

-- a part has no more levels than the whole has below it
part_levels : (more : ℕ → ℕ) (at : ℕ) (v : Forest) (l : Kind) (m : Note) (b w : Forest) → one_each l + levels_at (lower l) 0 b ≤ levels_at more at (joined v (node l m b w))
part_levels more at nothing l m b w = Prim.omega arith
part_levels more at (absent v) l m b w = part_levels more (suc at) v l m b w
part_levels more at (node k n below v) l m b w = Prim.omega (arith, part_levels more (suc at) v l m b w)

-- a statement that may do nothing is a node, as an empty one is
one_idle : (k : Kind) → may_be_idle k ≡ true → one_each empty_statement ≤ one_each k
one_idle k idle = idle_kinds (λ z. one_each empty_statement ≤ one_each z) (Prim.omega arith) (Prim.omega arith) (Prim.omega arith) (Prim.omega arith) (Prim.omega arith) (λ label. Prim.omega arith) k idle

cut_levels : (more : ℕ → ℕ) (at : ℕ) (listed : Bool) (t u : Forest) → Cuts listed t u → (listed ≡ true → IsLevel more) → levels_at more at u ≤ levels_at more at t
cut_levels more at listed t u (cuts.leaves k n below rest plain) level = Prim.omega (arith, moved more (level refl) at (suc at) rest)
cut_levels more at listed t u (cuts.empties l n m below rest) level = Prim.omega arith
cut_levels more at listed t u (cuts.empties_idle l k n m below rest idle) level = Prim.omega (arith, one_idle k idle)
cut_levels more at listed t u (cuts.tests z k l n m i b after rest tested) level = tested_kinds (λ y. levels_at more at (node expression_statement m (node l i b nothing) rest) ≤ levels_at more at (node y n (node l i b after) rest)) (Prim.omega arith) k tested
cut_levels more at listed t u (cuts.states z how x k n m l j i o b rest none) level = Prim.omega arith
cut_levels more at listed t u (cuts.alternate y l i j o d b) level = Prim.omega arith
cut_levels more at listed t u (cuts.parts i k l n m b v w rest gives unasked) level = Prim.omega (arith, part_levels (lower k) 0 v l m b w)
cut_levels more at listed t u (cuts.rebuilds i k l n m a b rest made) level = Prim.omega (arith, made.no_deeper)
cut_levels more at listed t u (cuts.names_left i k n m a b rest left) level = Prim.omega (arith, names_no_deeper k n m a b left, one_statement k left.holds)
cut_levels more at listed t u (cuts.inside l k n below now rest called c) level = Prim.omega (arith, cut_levels (lower k) 0 (is_list k) below now c (list_level k))
cut_levels more at listed t u (cuts.behind l k n below rest now c) level = Prim.omega (arith, cut_levels more (suc at) l rest now c level)
cut_levels more at listed t u (cuts.behind_none l rest now c) level = cut_levels more (suc at) l rest now c level

bare_levels : (more : ℕ → ℕ) (at : ℕ) (t : Forest) → levels_at more at (bare t) ≡ levels_at more at t
bare_levels more at nothing = refl
bare_levels more at (absent rest) = bare_levels more (suc at) rest
bare_levels more at (node k n below rest) = Prim.omega (arith, bare_levels (lower k) 0 below, bare_levels more (suc at) rest)

-- ---- imports that become one

-- two where there is a name
abbrev deep : Forest → ℕ
deep nothing = 0
deep (absent rest) = 0
deep (node k n below rest) = 2

few_deep : (t : Forest) → deep t ≤ 2
few_deep nothing = Prim.omega arith
few_deep (absent rest) = Prim.omega arith
few_deep (node k n below rest) = Prim.omega arith

names_deep : {t : Forest} → AreNames t → (at : ℕ) → levels_at (λ i. 0) at t ≡ deep t
names_deep no_names at = refl
names_deep (a_name Kind.ImportDefaultSpecifier n m x rest h names) at = Prim.omega (arith, names_deep names (suc at), few_deep rest)
names_deep (a_name Kind.ImportNamespaceSpecifier n m x rest h names) at = Prim.omega (arith, names_deep names (suc at), few_deep rest)
names_deep (a_name (Kind.ImportSpecifier imported) n m x rest h names) at = Prim.omega (arith, names_deep names (suc at), few_deep rest)
names_deep (a_name k n m x rest h names) at = absurd (true≢false (sym h))

joined_deep : (t u : Forest) → deep (joined t u) ≤ max (deep t) (deep u)
joined_deep nothing u = Prim.omega arith
joined_deep (absent t) u = Prim.omega arith
joined_deep (node k n b t) u = Prim.omega arith

named_deep : (t : Forest) → deep (all_named t) ≡ deep t
named_deep nothing = refl
named_deep (absent t) = refl
named_deep (node k n b t) = refl

some_deep : (c : Bool) (t u : Forest) (i : ℕ) → deep t ≤ i → deep u ≤ i → deep (if c then t else u) ≤ i
some_deep true t u i h g = h
some_deep false t u i h g = g

default_deep : {t : Forest} → AreNames t → deep (first_default t) ≤ deep t
default_deep no_names = Prim.omega arith
default_deep (a_name k n m x rest h names) = few_deep (first_default (node k n (node (binding_name x) m nothing nothing) rest))

others_deep : {t : Forest} → AreNames t → deep (but_first_default t) ≤ deep t
others_deep no_names = Prim.omega arith
others_deep (a_name k n m x rest h names) = few_deep (but_first_default (node k n (node (binding_name x) m nothing nothing) rest))

merged_deep : {t u : Forest} → AreNames t → AreNames u → deep (names_merged t u) ≤ max (deep t) (deep u)
merged_deep {t = t} {u = u} a b =
    some_deep (how_many is_default t == 0) (joined (first_default u) (joined t (all_named (but_first_default u)))) (joined t (all_named u)) (max (deep t) (deep u))
    (Prim.omega (
      arith,
      joined_deep (first_default u) (joined t (all_named (but_first_default u))),
      joined_deep t (all_named (but_first_default u)),
      named_deep (but_first_default u),
      default_deep b,
      others_deep b,
    ))
    (Prim.omega (arith, joined_deep t (all_named u), named_deep u))

abbrev flat : ℕ → Forest → ℕ
flat at t = levels_at (λ i. 0) at t

flat_anywhere : (i j : ℕ) (t : Forest) → flat i t ≡ flat j t
flat_anywhere i j t = moved (λ i. 0) (λ at. refl) i j t

left_levels : {source : List ℕ} {names r s : Forest} → AreNames names → WithoutImport source names r s → (at : ℕ) → max (1 + deep names) (flat at s) ≤ flat at r
left_levels are (import_leaves n m rest) at = Prim.omega (arith, names_deep are 0, flat_anywhere at (suc at) rest)
left_levels are (leaves_behind k n below r s out) at = Prim.omega (arith, left_levels are out (suc at))

row_levels : {r s : Forest} → MergesIn r s → (at : ℕ) → flat at s ≤ flat at r
row_levels (merges_here source n m names later r s h out) at =
    let known = may names later h in
    Prim.omega (
      arith,
      names_deep known.names_are 0,
      names_deep (merged_are known.names_are known.later_are) 0,
      merged_deep known.names_are known.later_are,
      left_levels known.later_are out (suc at),
    )
row_levels (merges_behind k n below r s h) at = Prim.omega (arith, row_levels h (suc at))

merged_levels : (t u : Forest) → MergedImports t u → levels u ≤ levels t
merged_levels _ _ (imports_merge n m r s h none) = Prim.omega (arith, row_levels h 0)

-- ---- an import and an export that become one

passed_levels : {names listed passed : Forest} (at later : ℕ) → Passes names listed passed → flat at passed ≤ flat later listed
passed_levels at later passes_none = Prim.omega arith
passed_levels at later (passes_one exported imported n m i x rest passed binds more) = Prim.omega (arith, passed_levels (suc at) (suc later) more)

listed_levels : {listed r s : Forest} (at : ℕ) → WithoutExport listed r s → max (1 + flat 0 listed) (flat at s) ≤ flat at r
listed_levels at (export_leaves n m rest) = Prim.omega (arith, flat_anywhere at (suc at) rest)
listed_levels at (export_behind k n below r s out) = Prim.omega (arith, listed_levels (suc at) out)

passing_levels : {names : Forest} (at : ℕ) {r s z : Forest} → PassesIn names r s z → flat at z ≤ flat at r
passing_levels at (passes_here source n m i _ _ _ r s (names_passed_on names listed passed j may passes) out) = Prim.omega (arith, passed_levels 0 0 passes, listed_levels (suc at) out)
passing_levels at (passes_here source n m i _ _ _ r s (namespace_passed_on exported j l o q x) out) = Prim.omega (arith, listed_levels (suc at) out)
passing_levels at (passes_behind k n below r s z h) = Prim.omega (arith, passing_levels (suc at) h)

exports_levels : (t u : Forest) → PassedExports t u → levels u ≤ levels t
exports_levels _ _ (exports_pass n m names r s z h free none) = Prim.omega (arith, passing_levels 0 h)

pub levels_shed : IsShed levels
levels_shed = record { renoted = unseen levels (bare_levels (λ at. 0) 0); cut = λ t u c. cut_levels (λ at. 0) 0 false t u c (λ h. absurd (true≢false (sym h))); merged = merged_levels; passed = exports_levels }

pub nodes_shed : IsShed node_count
nodes_shed = counts_shed one_each (record {
  empty = Prim.omega arith;
  empty_idle = one_idle;
  statement_of_test = λ k tested. tested_kinds (λ z. one_each expression_statement ≤ one_each z) (Prim.omega arith) k tested;
  statement_of_value = λ how. Prim.omega arith;
  of_array = Prim.omega arith;
  of_elements = Prim.omega arith;
  of_template = Prim.omega arith;
  of_object = Prim.omega arith;
  of_properties = Prim.omega arith;
  of_comparison = λ o. Prim.omega arith;
  of_conditional = Prim.omega arith;
  of_logical = λ o. Prim.omega arith;
  of_choice = λ o. Prim.omega arith;
  zero = λ t h. Prim.omega (arith, h);
  of_one = λ o w h. Prim.omega arith;
  of_two = λ o w h. Prim.omega arith;
  minus_of_one = λ o. Prim.omega arith;
  minus_of_two = λ o. Prim.omega arith;
  operand = λ t w h s. Prim.omega (arith, h);
  default_named = Prim.omega arith;
  of_element = λ text tail. Prim.omega arith;
}) (record { named = λ source. Prim.omega arith; each = λ imported exported exact. Prim.omega arith; whole = λ source exported. Prim.omega arith })
