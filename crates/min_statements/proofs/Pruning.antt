-- What the call does of which names leave an import, and that it may.
use Rattle.std.proofs.Common.{◌≡◌, ◌∙◌, Bool, true, false, ◌&&◌, if◌then◌else◌, Option, Some, None, is_some, refl, sym, ap, subst, arith}
use Rattle.js_syntax.specs.Node.{Tree}
use Rattle.scope_counts.specs.Edits.{plug}
use Rattle.scope_laws.specs.Place.{Around}
use Rattle.symbol_sets.specs.Numbers.{has}
use Rattle.steps.specs.Allowed.Uses.{use_at, stands_bare}
use Rattle.min_context.specs.Edited.{Edited}
use Rattle.min_context.specs.Seen.{Seen, still}
use Rattle.min_traverse.specs.Lawful.{Stays, Does, or_same}
use Rattle.min_traverse.specs.Moves.{Holds, NodeMoves, before}
use Rattle.min_traverse.proofs.Joining.{does_some, does_none}
use Rattle.rules.specs.DeadCode.Rules.{Facts, Where, where_of}
use Rattle.rules.specs.Imports.Rules.{import_has_unused, import_left, loses_names, pruned}
use Rattle.rules.proofs.Imports.Pruned.{prunes}
use Rattle.rules.proofs.Imports.Pruning.{import_prunes}
use Rattle.rules.proofs.Imports.Lighter.{pruned_lighter, pruned_refers, pruned_calls}
use Rattle.min_statements.specs.Acts.{prune}
use Rattle.min_statements.specs.Own.{AnyEdit, Own}
use Rattle.min_statements.specs.Walker.{Names, facts_of}
use Rattle.min_statements.proofs.Acting.{none_left, known, moves, stayed}
use Rattle.min_statements.proofs.Calls.{is_no_name, CallsStay}
use Rattle.min_statements.proofs.Shed.{leaves_none, edited}

-- ---- what the call does

some_left : {b : Bool} (y : Tree) → b ≡ true → (if b then Some y else None) ≡ Some y
some_left y e = ap (λ b. if b then Some y else None) e

-- whether something goes, as code asks it
abbrev goes : Names → Seen → Tree → Bool
goes names c x = loses_names (facts_of names c) x.kind && import_has_unused (facts_of names c) (where_of c.place) x.below

pub prunes_none : (names : Names) (c : Seen) (x : Tree) → false ≡ goes names c x → Does (prune names) c x false c x
prunes_none names c x none =
    does_none (prune names) c x (none_left (record x { below = import_left (facts_of names c) (where_of c.place) x.below }) (sym none))

-- no reference and no call left
prune_edited : (f : Facts) (w : Where) (c : Seen) (x y : Tree) → pruned f w x ≡ Some y → Edited c x y true (record c { requested = true })
prune_edited f w c x y is = edited x y refl (leaves_none (record c { requested = true })) (λ r. Prim.omega (arith, pruned_refers f w x y is r)) (Prim.omega (arith, pruned_calls f w x y is))

pub prunes_so : (names : Names) (c d : Seen) (x y : Tree) (g : Facts) (w : Where) → w ≡ where_of c.place → true ≡ goes names c x → g ≡ facts_of names c
    → y ≡ record x { below = import_left g w x.below } → d ≡ record c { requested = true } → Does (prune names) c x true d y
prunes_so names c d x y g w at some later tree noticed =
    let left : Tree = record x { below = import_left (facts_of names c) (where_of c.place) x.below } in
    let is : y ≡ left = tree ∙ ap {A = Facts} {B = Tree} (λ q. record x { below = import_left q w x.below }) later ∙ ap {A = Where} {B = Tree} (λ q. record x { below = import_left (facts_of names c) q x.below }) at in
    let found : prune names c x ≡ Some y = some_left left (sym some) ∙ ap Some (sym is) in
    does_some (prune names) c x y found (subst (λ q. Edited c x y true q) (sym noticed) (prune_edited (facts_of names c) (where_of c.place) c x y found))

-- ---- moves

prune_calls : (f : Facts) (w : Where) (a : Around) (x y : Tree) → pruned f w x ≡ Some y → CallsStay a x y
prune_calls f w a x y is =
    let o = prunes f w x y is in
    record {
      fewer = Prim.omega (arith, pruned_calls f w x y is);
      old = ap {A = Tree} (λ t. is_no_name t.kind) (sym o.old);
      in_with = false;
      bare = ap {A = Tree} (λ t. stands_bare (use_at a) false t.kind t.below) (sym o.new);
    }

module _ (stays : Stays AnyEdit) (names : Names) where
  pub prune_moves : {c d : Seen} {x y : Tree} {answer : Bool} → Does (prune names) c x answer d y → NodeMoves Names AnyEdit (Holds Own) names c x names d y
  prune_moves {c = c} {d = d} {x = x} {y = y} does = go (prune names c x) refl
    where
      go : (o : Option Tree) → prune names c x ≡ o → NodeMoves Names AnyEdit (Holds Own) names c x names d y
      go None is =
          let e : Edited c x y false d = subst (λ o. Edited c x y (is_some o) d) is does.edited in
          stayed stays names (does.tree ∙ ap (or_same x) is) (e.none refl)
      go (Some z) is =
          let f = facts_of names c in
          let w = where_of c.place in
          let found : pruned f w x ≡ Some y = is ∙ ap Some (sym (does.tree ∙ ap (or_same x) is)) in
          let e : Edited c x y true d = subst (λ o. Edited c x y (is_some o) d) is does.edited in
          moves stays names (λ a r p h. import_prunes f (has c.marked) a x y r (known names (still c) (plug a (before x r)) h) (ap (λ q. pruned f (where_of q) x) p ∙ found)) (λ i. Prim.omega (arith, pruned_refers f w x y found i))
          (pruned_lighter f w x y found) (λ a r p. prune_calls f w _ x y found) e
