-- What a run leaves of a program.
use Rattle.std.proofs.Common.{◌≡◌, ◌∙◌, ◌+◌, ◌≤◌, ◌<◌, ◌^◌, ℕ, IfOk, Result, Ok, Err, sym, ap, subst, arith}
use Rattle.js_syntax.specs.Class.{root}
use Rattle.js_syntax.specs.Facts.{weight}
use Rattle.js_syntax.specs.Node.{Forest, bare, total}
use Rattle.js_tree.specs.Count.{node_count}
use Rattle.form_rules.specs.Form.{IsWellFormed}
use Rattle.js_scoping.specs.Build.{table_of, numbered}
use Rattle.js_scoping.proofs.Again.{numbered_same, numbered_total, table_again, numbered_again, resolved_again}
use Rattle.json_shape.specs.Shape.{Fits}
use Rattle.scope_laws.specs.Exact.{Exact}
use Rattle.scope_match.specs.Matches.{Matches}
use Rattle.scope_rules.specs.Binding.{resolved_references}
use Rattle.scope_rules.specs.Table.{Scoping}
use Rattle.std.specs.List.{count_by}
use Rattle.std.specs.Prelude.{is_some}
use Rattle.steps.specs.Allowed.Edits.{TreeEdits, no_edit}
use Rattle.steps.proofs.Allowed.Composing.{edits_follow, tree_edits_are_edits}
use Rattle.steps.proofs.Fit.Arranged.{fits_arranged}
use Rattle.steps.proofs.Marked.Shedding.{edits_weigh_no_more}
use Rattle.steps.proofs.Owed.FitsEdits.{tree_edits_fit, renoted_fits}
use Rattle.steps_keep_text.proofs.Along.{edits_shed}
use Rattle.steps_keep_text.proofs.Smaller.{nodes_shed}
use Rattle.min_options.specs.declared.options.CompressOptions.{CompressOptions}
use Rattle.min_statements.specs.Walker.{keeps_unused, keeps_imports}
use Rattle.min_peephole.specs.CleanBy.{CleanBy}
use Rattle.headline.proofs.Renoted.{clean_as}
use Rattle.min_pass.specs.Pass.{cleared}
use Rattle.min_peephole.specs.Shaken.{IsMarked, Runs, IsShaken}
use Rattle.min_peephole.proofs.Clearing.{clearing_comes}
use Rattle.min_peephole.proofs.Weighing.{weighs}

-- ---- marks

pub built_marked : (t u : Forest) (s : Scoping) → u ≡ numbered t → s ≡ table_of t → Exact s u → Matches s u → count_by (λ r. is_some r.symbol) s.references ≡ resolved_references t → IsMarked u s
built_marked t u s tree table exact matches resolved = record {
  marked = tree ∙ sym (numbered_again t) ∙ ap numbered (sym tree);
  table = table ∙ sym (table_again t) ∙ ap table_of (sym tree);
  exact = exact;
  matches = matches;
  resolved = resolved ∙ sym (resolved_again t) ∙ ap resolved_references (sym tree);
}

-- ---- sizes

pub light : (t : Forest) → node_count t < 2 ^ 32 → total weight t < 2 ^ 64
light t small = Prim.omega (arith, weighs t, small)

pub no_more_nodes : (t u : Forest) → TreeEdits t u → Fits root t → node_count u ≤ node_count t
no_more_nodes t u edits fits = edits_shed node_count nodes_shed t u (tree_edits_are_edits edits) fits

-- ---- behind the passes

pub runs : (o : CompressOptions) (t u v : Forest) (s : Scoping) (n : ℕ) → TreeEdits t u → CleanBy o u → n + total weight u ≤ total weight t → (n ≡ 0 → u ≡ t) → v ≡ numbered u → IsMarked v s → Runs o t v s n
runs o t u v s n edits clean few none tree marked =
    let same : bare v ≡ bare u = ap bare tree ∙ numbered_same u in
    record {
      edits = edits_follow (tree_edits_are_edits edits) (no_edit u v (sym same));
      clean = clean_as (keeps_unused o) (keeps_imports o) u v (sym same) clean;
      marked = marked;
      few = Prim.omega (arith, few, ap (total weight) tree, numbered_total weight u);
      none = λ e. same ∙ ap bare (none e);
    }

-- ---- of any program

pub cleared_comes : (t : Forest) → Fits root t → IsWellFormed t → TreeEdits t (cleared t)
cleared_comes t fits form = clearing_comes t (fits_arranged t fits form)

pub shaken : (o : CompressOptions) (t u v : Forest) (s : Scoping) (n : ℕ) → Fits root t → IsWellFormed t → u ≡ numbered (cleared t) → Runs o u v s n → IsShaken o t v s n
shaken o t u v s n fits form tree r =
    let comes = cleared_comes t fits form in
    let same : bare u ≡ bare (cleared t) = ap bare tree ∙ numbered_same (cleared t) in
    record {
      edits = edits_follow (edits_follow (tree_edits_are_edits comes) (no_edit (cleared t) u (sym same))) r.edits;
      clean = r.clean;
      marked = r.marked;
      few = Prim.omega (arith, r.few, ap (total weight) tree, numbered_total weight (cleared t), edits_weigh_no_more t (cleared t) comes fits);
      none = λ e. r.none e ∙ same;
    }

-- the program that passes begin with fits the table
pub begins_fitting : (t u : Forest) → Fits root t → IsWellFormed t → u ≡ numbered (cleared t) → Fits root u
begins_fitting t u fits form tree = subst (Fits root) (sym tree) (renoted_fits (cleared t) (numbered (cleared t)) (sym (numbered_same (cleared t))) (tree_edits_fit t (cleared t) (cleared_comes t fits form) fits))

-- whatever is answered
module _ {X E : Type 0} (o : CompressOptions) (trees : X → Forest) (tables : X → Scoping) (counts : X → ℕ) where
  pub all_run : (t u : Forest) (n : ℕ) → TreeEdits t u → CleanBy o u → n + total weight u ≤ total weight t → (n ≡ 0 → u ≡ t) → (r : Result X E) → IfOk r (λ x. IsMarked (trees x) (tables x)) → IfOk r (λ x. trees x ≡ numbered u) → IfOk r (λ x. counts x ≡ n)
      → IfOk r (λ x. Runs o t (trees x) (tables x) (counts x))
  all_run t u n edits clean few none (Ok x) marked tree count = subst (λ (m : ℕ). Runs o t (trees x) (tables x) m) (sym count) (runs o t u (trees x) (tables x) n edits clean few none tree marked)
  all_run t u n edits clean few none (Err e) marked tree count = marked

  pub all_shaken : (t u : Forest) → Fits root t → IsWellFormed t → u ≡ numbered (cleared t) → (r : Result X E) → IfOk r (λ x. Runs o u (trees x) (tables x) (counts x)) → IfOk r (λ x. IsShaken o t (trees x) (tables x) (counts x))
  all_shaken t u fits form tree (Ok x) run = shaken o t u (trees x) (tables x) (counts x) fits form tree run
  all_shaken t u fits form tree (Err e) run = run
