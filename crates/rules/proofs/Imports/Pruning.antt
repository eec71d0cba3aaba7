-- An import is pruned by single edits, from left to right.
use Rattle.std.proofs.Common.{◌≡◌, ℕ, List, Bool, true, false, if◌then◌else◌, Some, refl, sym, ap, subst}
use Rattle.js_syntax.specs.declared.node_kind.NodeKind.{NodeKind as Kind}
use Rattle.js_syntax.specs.declared.node_kind.NodeKind.TheVariants.{BindingName as binding_name}
use Rattle.js_syntax.specs.Node.{Forest, Tree, Note, nothing, node, absent}
use Rattle.min_context.specs.Place.{place_at, goes_on}
use Rattle.scope_counts.specs.Edits as counts
use Rattle.scope_counts.specs.Edits.{here, behind, behind_none, plug}
use Rattle.steps.specs.Allowed.Edits.{Edit, TreeEdits, no_tree_edit, one_tree_edit}
use Rattle.steps.specs.Allowed.UnusedImport.{an_imported}
use Rattle.steps.proofs.Allowed.Composing.{tree_edits_compose}
use Rattle.rules.specs.DeadCode.Knows.{Knows}
use Rattle.rules.specs.DeadCode.Rules.{Facts, Where, where_of}
use Rattle.rules.proofs.DeadCode.Keeping.{Known, still_known}
use Rattle.rules.proofs.DeadCode.Places.{to, join, plug_join, is_row, row_join}
use Rattle.rules.specs.Imports.Rules.{specifier_goes, names_left, pruned}
use Rattle.rules.proofs.Imports.Pruned.{an_import_of, Goes, a_name, goes_view, prunes}
use Rattle.rules.proofs.Imports.Places.{row_join_none, an_import, in_import, name_plugged, name_edit, name_there, name_declares}
use Rattle.rules.proofs.Imports.Leaving.{name_leaves}

once : (t u : Forest) → Edit t u → TreeEdits t u
once t u e = one_tree_edit t u u e (no_tree_edit u)

then_many : (f : Facts) (t u v : Forest) → TreeEdits t u → (Known f u → TreeEdits u v) → Known f t → TreeEdits t v
then_many f t u v some more h = tree_edits_compose some (more (still_known f t u some h))

module _ (f : Facts) (a : counts.Around) (source : List ℕ) (n m : Note) (rest : Forest) where
  abbrev w : Where
  w = where_of (place_at a (goes_on rest))

  -- the program with these names
  abbrev whole : (names : Forest) → Forest
  whole names = plug a (an_import source n m names rest)

  name_goes_there : (d : counts.Around) (k : Kind) (l : Note) (below more : Forest) → is_row d ≡ true → Goes f w k below → Known f (whole (plug d (node k l below more))) → Edit (whole (plug d (node k l below more))) (whole (plug d more))
  name_goes_there d k l below more row (a_name x j binds unused) h =
      let y = an_imported k l j x in
      let b = to a (in_import source n m d more rest) in
      name_edit a d source n m more rest y
      (name_leaves f h.marked w.scope b k l j x (subst (λ t. Knows f h.marked t) (sym (name_plugged a d source n m more rest y)) h.knows) binds (name_there a d source n m more rest row)
      (name_declares a d source n m more rest f h.marked (record { kind = k; note = l; below = node (binding_name x) j nothing nothing }) row h.knows) unused)

  abbrev Comes : (names : Forest) → Type 0
  Comes names = (d : counts.Around) → is_row d ≡ true → Known f (whole (plug d names)) → TreeEdits (whole (plug d names)) (whole (plug d (names_left f w names)))

  by_name : (g : Bool) (k : Kind) (l : Note) (below more : Forest) → specifier_goes f w k below ≡ g → Comes more → (d : counts.Around) → is_row d ≡ true → Known f (whole (plug d (node k l below more)))
      → TreeEdits (whole (plug d (node k l below more))) (whole (plug d (if g then names_left f w more else node k l below (names_left f w more))))
  by_name true k l below more e comes d row h =
      let t = whole (plug d (node k l below more)) in
      let u = whole (plug d more) in
      then_many f t u (whole (plug d (names_left f w more))) (once t u (name_goes_there d k l below more row (goes_view f w k below e) h)) (λ now. comes d row now) h
  by_name false k l below more e comes d row h =
      let next = join d (behind k l below here) in
      let left = names_left f w more in
      subst (λ t. TreeEdits t (whole (plug d (node k l below left)))) (ap whole (plug_join d (behind k l below here) more))
      (subst (λ t. TreeEdits (whole (plug next more)) t) (ap whole (plug_join d (behind k l below here) left))
      (comes next (row_join d k l below row) (subst (λ t. Known f t) (sym (ap whole (plug_join d (behind k l below here) more))) h)))

  names_come : (names : Forest) → Comes names
  names_come nothing d row h = no_tree_edit _
  names_come (absent more) d row h =
      let next = join d (behind_none here) in
      let left = names_left f w more in
      subst (λ t. TreeEdits t (whole (plug d (absent left)))) (ap whole (plug_join d (behind_none here) more))
      (subst (λ t. TreeEdits (whole (plug next more)) t) (ap whole (plug_join d (behind_none here) left))
      (names_come more next (row_join_none d row) (subst (λ t. Known f t) (sym (ap whole (plug_join d (behind_none here) more))) h)))
  names_come (node k l below more) d row h = by_name (specifier_goes f w k below) k l below more refl (names_come more) d row h

-- of an import at a place
pub import_prunes : (f : Facts) (marked : ℕ → Bool) (a : counts.Around) (x y : Tree) (rest : Forest) → Knows f marked (plug a (node x.kind x.note x.below rest)) → pruned f (where_of (place_at a (goes_on rest))) x ≡ Some y
    → TreeEdits (plug a (node x.kind x.note x.below rest)) (plug a (node y.kind y.note y.below rest))
import_prunes f marked a x y rest h is =
    let o = prunes f (where_of (place_at a (goes_on rest))) x y is in
    let old = an_import_of o.source o.note o.list_note o.names in
    let known : Knows f marked (plug a (node old.kind old.note old.below rest)) = subst (λ (t : Tree). Knows f marked (plug a (node t.kind t.note t.below rest))) (sym o.old) h in
    subst (λ (t : Tree). TreeEdits (plug a (node t.kind t.note t.below rest)) (plug a (node y.kind y.note y.below rest))) o.old
    (subst (λ (t : Tree). TreeEdits (plug a (node old.kind old.note old.below rest)) (plug a (node t.kind t.note t.below rest))) o.new
    (names_come f a o.source o.note o.list_note rest o.names here refl (record { marked = marked; knows = known })))
