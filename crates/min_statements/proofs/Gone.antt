-- What leaves a list of statements, whether it stands behind a jump or is dead code otherwise.
use Rattle.std.proofs.Common.{◌≡◌, ◌≤◌, ◌+◌, ℕ, Bool, true, false, ◌||◌, if◌then◌else◌, refl, sym, ap, subst, arith}
use Rattle.js_syntax.specs.declared.node_kind.NodeKind.{NodeKind as Kind}
use Rattle.js_syntax.specs.declared.node_kind.NodeKind.TheVariants.{Statements as statements, EmptyStatement as empty_statement}
use Rattle.js_syntax.specs.Facts.{weight}
use Rattle.js_syntax.specs.Node.{Forest, Note, nothing, node, absent, alone, total}
use Rattle.js_meaning_near.specs.Near.{cuts_off}
use Rattle.min_context.specs.Edited.{evals}
use Rattle.min_context.specs.Place.{place_at, goes_on}
use Rattle.scope_counts.specs.Counts.{ids}
use Rattle.scope_counts.specs.Edits.{Around, plug}
use Rattle.steps.specs.Allowed.Edits.{TreeEdits}
use Rattle.steps.proofs.Allowed.Composing.{tree_edits_compose}
use Rattle.rules.specs.DeadCode.Knows.{Knows}
use Rattle.rules.specs.DeadCode.Rules.{Facts, Where, where_of, has_dead, trimmed}
use Rattle.rules.proofs.DeadCode.Keeping.{Known, still_known}
use Rattle.rules.proofs.DeadCode.Lighter.{trimmed_is_lighter, trimmed_is_same, trimmed_sheds}
use Rattle.rules.proofs.DeadCode.Trimming.{list_trims}
use Rattle.rules.specs.Expressions.Lists.{new_note}
use Rattle.rules.specs.Expressions.Jumps.{is_inert, reached, emptied_behind, has_inert}
use Rattle.rules.proofs.Expressions.Jumps.{thinner, lighter, reach_edits, emptied_trims, all_reached}
use Rattle.min_statements.specs.Acts.{has_gone, shorter}
use Rattle.min_statements.specs.Shed.{inert_shed, list_shed}
use Rattle.min_statements.proofs.Shed.{Adds, ids_add, evals_add, splits}

module _ (f : Facts) (w : Where) where
  -- ---- less

  pub shorter_sheds : (t : Forest) (r : ℕ) → ids r (shorter f w t) ≤ ids r t
  shorter_sheds t r = Prim.omega (arith, ap (ids r) (emptied_trims f w false t), trimmed_sheds f w (reached false t) r, thinner r false t)

  trimmed_no_heavier : (t : Forest) (dead : Bool) → has_dead f w t ≡ dead → total weight (trimmed f w t) ≤ total weight t
  trimmed_no_heavier t true e = Prim.omega (arith, trimmed_is_lighter f w t e)
  trimmed_no_heavier t false e = Prim.omega (arith, ap (total weight) (trimmed_is_same f w t e))

  lighter_by : (t : Forest) (cut : Bool) → has_inert false t ≡ cut → (cut || has_dead f w t) ≡ true → total weight (trimmed f w (reached false t)) + 1 ≤ total weight t
  lighter_by t true e h = Prim.omega (arith, trimmed_no_heavier (reached false t) (has_dead f w (reached false t)) refl, lighter false t e)
  lighter_by t false e h = subst (λ u. total weight (trimmed f w u) + 1 ≤ total weight t) (sym (all_reached false t e)) (trimmed_is_lighter f w t h)

  pub shorter_is_lighter : (t : Forest) → has_gone f w t ≡ true → total weight (shorter f w t) + 1 ≤ total weight t
  shorter_is_lighter t h = Prim.omega (arith, ap (total weight) (emptied_trims f w false t), lighter_by t (has_inert false t) refl h)

-- ---- edits

pub list_shortens : (f : Facts) (marked : ℕ → Bool) (a : Around) (n : Note) (row rest : Forest) → Knows f marked (plug a (node statements n row rest))
    → TreeEdits (plug a (node statements n row rest)) (plug a (node statements n (shorter f (where_of (place_at a (goes_on rest))) row) rest))
list_shortens f marked a n row rest h =
    let t = plug a (node statements n row rest) in
    let u = plug a (node statements n (reached false row) rest) in
    let first = reach_edits a n row rest in
    let known : Known f u = still_known f t u first (record { marked = marked; knows = h }) in
    subst (λ l. TreeEdits t (plug a (node statements n l rest))) (sym (emptied_trims f (where_of (place_at a (goes_on rest))) false row))
    (tree_edits_compose first (list_trims f known.marked a n (reached false row) rest known.knows))

-- ---- counted

module _ (m : Forest → ℕ) (a : Adds m) (none : (n : Note) → m (alone empty_statement n nothing) ≡ 0) where
  splits_by : (goes : Bool) (k : Kind) (n : Note) (b rest gone stays : Forest) (s t : ℕ) → m rest ≡ s + m gone → m rest ≡ t + m stays
      → m (node k n b rest) ≡ (if goes then m (alone k n b) + s else t) + m (if goes then node empty_statement (new_note n) nothing gone else node k n b stays)
  splits_by true k n b rest gone stays s t h g = Prim.omega (arith, a.joins k n b rest, a.joins empty_statement (new_note n) nothing gone, none (new_note n), h)
  splits_by false k n b rest gone stays s t h g = Prim.omega (arith, a.joins k n b rest, a.joins k n b stays, g)

  pub emptied_splits : (jumped : Bool) (t : Forest) → m t ≡ inert_shed m jumped t + m (emptied_behind jumped t)
  emptied_splits jumped nothing = Prim.omega arith
  emptied_splits jumped (absent rest) = Prim.omega (arith, a.gap rest, a.gap (emptied_behind jumped rest), emptied_splits jumped rest)
  emptied_splits jumped (node k n b rest) =
      splits_by (is_inert jumped k b) k n b rest (emptied_behind jumped rest) (emptied_behind (jumped || cuts_off k b) rest) (inert_shed m jumped rest) (inert_shed m (jumped || cuts_off k b) rest) (emptied_splits jumped rest) (emptied_splits (jumped || cuts_off k b) rest)

  pub list_splits : (f : Facts) (w : Where) (t : Forest) → m t ≡ list_shed m f w t + m (shorter f w t)
  list_splits f w t = Prim.omega (arith, emptied_splits false t, splits m a f w (emptied_behind false t))

pub ids_split : (r : ℕ) (f : Facts) (w : Where) (t : Forest) → ids r t ≡ list_shed (ids r) f w t + ids r (shorter f w t)
ids_split r = list_splits (ids r) (ids_add r) (λ n. Prim.omega arith)

pub evals_split : (f : Facts) (w : Where) (t : Forest) → evals t ≡ list_shed evals f w t + evals (shorter f w t)
evals_split = list_splits evals evals_add (λ n. Prim.omega arith)
