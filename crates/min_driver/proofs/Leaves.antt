-- What stands in a program's place has what is promised of it.
use Rattle.std.proofs.Common.{◌≡◌, ◌∙◌, ◌+◌, ◌≤◌, ℕ, true, false, Option, Some, None, is_some, Result, Ok, Err, IfOk, refl, sym, subst, ap, arith}
use Rattle.std.specs.List.{count_by}
use Rattle.js_syntax.specs.Class.{root}
use Rattle.js_syntax.specs.Facts.{weight}
use Rattle.js_syntax.specs.Node.{Forest, bare, total}
use Rattle.js_tree.specs.Count.{one_each, node_count, levels}
use Rattle.form_rules.specs.Form.{IsWellFormed}
use Rattle.js_scoping.specs.Build.{table_of, numbered}
use Rattle.js_scoping.proofs.Again.{numbered_same, numbered_total, numbered_levels, table_again, numbered_again, resolved_again}
use Rattle.scope_laws.specs.Exact.{Exact}
use Rattle.scope_match.specs.Matches.{Matches}
use Rattle.scope_rules.specs.Binding.{resolved_references}
use Rattle.scope_rules.specs.Table.{Scoping}
use Rattle.steps.specs.Allowed.Edits.{Edits, no_edit}
use Rattle.steps.proofs.Allowed.Composing.{edits_follow}
use Rattle.json_shape.specs.Shape.{Fits}
use Rattle.headline.specs.Clean.{CleanBut}
use Rattle.headline.specs.Headline.{ImportsAreUsed}
use Rattle.headline.proofs.Headline.{kept_by, back_by}
use Rattle.headline.proofs.Loading.{edits_load}
use Rattle.headline.proofs.Rooted.{edits_names}
use Rattle.headline.proofs.UsedImports.{imports_used}
use Rattle.headline.proofs.Renoted.{clean_as}
use Rattle.min_pass.specs.Pass.{cleared}
use Rattle.min_pass.proofs.Lighter.{cleared_lighter}
use Rattle.min_peephole.specs.Shaken as peephole
use Rattle.min_peephole.specs.Shaken.{IsMarked}
use Rattle.steps.proofs.Fit.Sensible.{sensible}
use Rattle.steps.proofs.Owed.Edited.{edits_sensible}
use Rattle.steps.proofs.Owed.FitsEdits.{edits_fit}
use Rattle.steps_keep_text.proofs.Along.{edits_shed}
use Rattle.steps_keep_text.proofs.Smaller.{nodes_shed, levels_shed}
use Rattle.min_driver.specs.Left.{IsLeft}
use Rattle.min_driver.specs.Limit.{IsWithinLimits}
use Rattle.min_driver.specs.Minify.{IsCleanBy, KeepsNothing}
use Rattle.min_peephole.specs.CleanBy.{keeps_unused}
pub use Rattle.min_peephole.proofs.Keeping.{dce_clean}
use Rattle.steps.specs.Allowed.Exposure.{is_script, evaluates_somewhere}
use Rattle.min_driver.proofs.Cleared.{cleared_levels}
use Rattle.min_options.specs.declared.options.CompressOptions.{CompressOptions}

-- ---- whatever made it

-- how the program `u` came from the program `t`, how large it is, and behind how many passes
pub record Came (o : Option CompressOptions) (t u : Forest) (iterations : ℕ) : Type 0 where
  pub edits : Fits root t → Edits t u
  pub clean : Fits root t → IsCleanBy o u
  pub nodes : node_count u ≤ node_count t
  pub levels : levels u ≤ levels t
  pub untouched : o ≡ None → (u ≡ t) × (iterations ≡ 0)
  pub few : iterations + total weight u ≤ total weight t
  pub none : is_some o ≡ true → iterations ≡ 0 → bare u ≡ bare (cleared t)

-- a tree whose nodes are marked by the table that was made of it before
pub marked_now : (u new : Forest) (s : Scoping) → new ≡ numbered u → s ≡ table_of u → Exact s new → Matches s new → count_by (λ r. is_some r.symbol) s.references ≡ resolved_references u → IsMarked new s
marked_now u new s tree table exact matches resolved = record {
  marked = tree ∙ sym (numbered_again u) ∙ ap numbered (sym tree);
  table = table ∙ sym (table_again u) ∙ ap table_of (sym tree);
  exact = exact;
  matches = matches;
  resolved = resolved ∙ sym (resolved_again u) ∙ ap resolved_references (sym tree);
}

clean_by : (o : Option CompressOptions) (u : Forest) → IsCleanBy o u → IsCleanBy o (numbered u)
clean_by None u clean = tt
clean_by (Some options) u clean = clean_as _ _ u (numbered u) (sym (numbered_same u)) clean

used_by : (o : Option CompressOptions) (u : Forest) → KeepsNothing o → Fits root u → is_script u ≡ false → evaluates_somewhere u ≡ false → IsCleanBy o u → ImportsAreUsed u
used_by None u keeps fits script calls clean = absurd keeps
used_by (Some options) u keeps fits script calls clean = imports_used u fits script calls (subst (λ b. CleanBut b false u) keeps.0 (subst (λ b. CleanBut (keeps_unused options) b u) keeps.1 clean))

module _ (o : Option CompressOptions) (t u new : Forest) (s : Scoping) (iterations : ℕ) (within : IsWithinLimits t) (form : IsWellFormed t) (came : Came o t u iterations) (tree : new ≡ numbered u) (m : IsMarked new s) where
  same : bare new ≡ bare u
  same = ap bare tree ∙ numbered_same u

  edits : Fits root t → Edits t new
  edits fits = edits_follow (came.edits fits) (no_edit u new (sym same))

  nodes : node_count new ≤ node_count t
  nodes = Prim.omega (arith, ap node_count tree, numbered_total one_each u, came.nodes)

  deep : levels new ≤ levels t
  deep = Prim.omega (arith, ap levels tree, numbered_levels u, came.levels)

  pub is_left : IsLeft o t new s iterations
  is_left = record {
    edits = edits;
    kept = λ fits core. kept_by t new fits form (edits fits) core;
    back = λ fits core. back_by t new fits form (edits fits) core;
    fits = λ fits. edits_fit t new (edits fits) fits;
    formed = λ fits. (edits_sensible (edits fits) (sensible t fits form)).well_formed;
    clean = λ fits. subst (IsCleanBy o) (sym tree) (clean_by o u (came.clean fits));
    loads = λ fits. edits_load (edits fits) fits;
    shared = λ fits shared. edits_names (edits fits) fits shared;
    imports = λ fits keeps script calls. used_by o new keeps (edits_fit t new (edits fits) fits) script calls (subst (IsCleanBy o) (sym tree) (clean_by o u (came.clean fits)));
    nodes = nodes;
    levels = deep;
    small = record { nodes = Prim.omega (arith, nodes, within.nodes); levels = Prim.omega (arith, deep, within.levels) };
    marked = m.marked;
    scoping = m.table;
    exact = m.exact;
    matches = m.matches;
    resolved = m.resolved;
    untouched = λ asked. (tree ∙ ap numbered (came.untouched asked).0, (came.untouched asked).1);
    few = Prim.omega (arith, ap (total weight) tree, numbered_total weight u, came.few);
    none = λ asked zero. same ∙ came.none asked zero;
  }

-- ---- what passes leave, and a program that stays or only loses its empty statements

peephole_came : (options : CompressOptions) (t u : Forest) (s : Scoping) (iterations : ℕ) → Fits root t → peephole.IsShaken options t u s iterations → Came (Some options) t u iterations
peephole_came options t u s iterations fits k = record {
  edits = λ h. k.edits;
  clean = λ h. k.clean;
  nodes = edits_shed node_count nodes_shed t u k.edits fits;
  levels = edits_shed levels levels_shed t u k.edits fits;
  untouched = λ asked. absurd (cc asked);
  few = k.few;
  none = λ asked. k.none;
}

pub cleared_nodes : (t : Forest) → node_count (cleared t) ≤ node_count t
cleared_nodes t = cleared_lighter one_each t

-- of a program that doesn't fit the table
cleared_came : (options : CompressOptions) (t : Forest) (iterations : ℕ) → (Fits root t → ⊥) → iterations ≡ 0 → Came (Some options) t (cleared t) iterations
cleared_came options t iterations unfit none = record {
  edits = λ fits. absurd (unfit fits);
  clean = λ fits. absurd (unfit fits);
  nodes = cleared_nodes t;
  levels = cleared_levels t;
  untouched = λ asked. absurd (cc asked);
  few = Prim.omega (arith, none, cleared_lighter weight t);
  none = λ asked zero. refl;
}

stays_came : (t : Forest) (iterations : ℕ) → iterations ≡ 0 → Came None t t iterations
stays_came t iterations none = record {
  edits = λ fits. no_edit t t refl;
  clean = λ fits. tt;
  nodes = Prim.omega arith;
  levels = Prim.omega arith;
  untouched = λ asked. (refl, none);
  few = Prim.omega (arith, none);
  none = λ asked. absurd (cc asked);
}

pub compressed : (options : CompressOptions) (t u : Forest) (s : Scoping) (iterations : ℕ) → IsWithinLimits t → IsWellFormed t → Fits root t → peephole.IsShaken options t u s iterations → IsLeft (Some options) t u s iterations
compressed options t u s iterations within form fits k = is_left (Some options) t u u s iterations within form (peephole_came options t u s iterations fits k) k.marked.marked k.marked

-- whatever is answered beside the tree, its table and the number of passes
module _ {X E : Type 0} (trees : X → Forest) (tables : X → Scoping) (counts : X → ℕ) (t : Forest) (within : IsWithinLimits t) (form : IsWellFormed t) where
  pub all_cleared : (options : CompressOptions) → (Fits root t → ⊥) → (r : Result X E) → IfOk r (λ x. trees x ≡ numbered (cleared t)) → IfOk r (λ x. IsMarked (trees x) (tables x)) → IfOk r (λ x. counts x ≡ 0)
      → IfOk r (λ x. IsLeft (Some options) t (trees x) (tables x) (counts x))
  all_cleared options unfit (Ok x) tree marked none =
      is_left (Some options) t (cleared t) (trees x) (tables x) (counts x) within form (cleared_came options t (counts x) unfit none) tree marked
  all_cleared options unfit (Err e) tree marked none = tree

  pub all_marked : (r : Result X E) → IfOk r (λ x. trees x ≡ numbered t) → IfOk r (λ x. IsMarked (trees x) (tables x)) → IfOk r (λ x. counts x ≡ 0) → IfOk r (λ x. IsLeft None t (trees x) (tables x) (counts x))
  all_marked (Ok x) tree marked none = is_left None t t (trees x) (tables x) (counts x) within form (stays_came t (counts x) none) tree marked
  all_marked (Err e) tree marked none = tree
