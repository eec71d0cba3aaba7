use Rattle.std.proofs.Common.{◌≡◌, ◌∙◌, ◌<◌, ◌+◌, ◌∷◌, ap, sym, subst, map, drop, length, slice_index_or}
use Rattle.std.proofs.lemmas.List.{get_or_default}
use Rattle.std.proofs.lemmas.List.Elements.{All-head}
use Rattle.js_tree.proofs.Rows.{front_of}
use Rattle.scope_table.specs.Editing.{IsOutside}
use Rattle.js_traverse.specs.Below.{with_parents, MayMove}
use Rattle.js_traverse.proofs.Moved.{rest_may_move, same_length}
use Rattle.js_traverse.proofs.below.put_into.Goals as goal

pub set_scope_parent_id-requires-clause-scope : goal.set_scope_parent_id-requires-clause-scope
set_scope_parent_id-requires-clause-scope c =
    let here = slice_index_or c.args.scopes.now c.loop-scope.scope-index (record { 0 = 0 }) in
    let rest = drop (c.loop-scope.scope-index + 1) c.args.scopes.now in
    let parted : drop c.loop-scope.scope-index c.args.scopes.now ≡ here ∷ rest = front_of c.args.scopes.now c.loop-scope.scope-index here c.loop-scope-test.true (get_or_default _ _ _ _ c.loop-scope-test.true) in
    let s = c.loop-scope.scoping in
    (All-head (λ x. (x < length s.scopes) × IsOutside s x c.args.parent.0) here.0 (map (λ x. x.0) rest)
    (subst (λ xs. MayMove (map (λ x. x.0) xs) c.args.parent.0 s) parted c.loop-scope.invariant.rest)).0

pub set_scope_parent_id-requires-clause-outside : goal.set_scope_parent_id-requires-clause-outside
set_scope_parent_id-requires-clause-outside c =
    let here = slice_index_or c.args.scopes.now c.loop-scope.scope-index (record { 0 = 0 }) in
    let rest = drop (c.loop-scope.scope-index + 1) c.args.scopes.now in
    let parted : drop c.loop-scope.scope-index c.args.scopes.now ≡ here ∷ rest = front_of c.args.scopes.now c.loop-scope.scope-index here c.loop-scope-test.true (get_or_default _ _ _ _ c.loop-scope-test.true) in
    let s = c.loop-scope.scoping in
    (All-head (λ x. (x < length s.scopes) × IsOutside s x c.args.parent.0) here.0 (map (λ x. x.0) rest)
    (subst (λ xs. MayMove (map (λ x. x.0) xs) c.args.parent.0 s) parted c.loop-scope.invariant.rest)).1

pub loop-scope-preserved : goal.loop-scope-preserved
loop-scope-preserved c =
    let here = slice_index_or c.args.scopes.now c.loop-scope.scope-index (record { 0 = 0 }) in
    let rest = drop (c.loop-scope.scope-index + 1) c.args.scopes.now in
    let parted : drop c.loop-scope.scope-index c.args.scopes.now ≡ here ∷ rest = front_of c.args.scopes.now c.loop-scope.scope-index here c.loop-scope-test.true (get_or_default _ _ _ _ c.loop-scope-test.true) in
    let s = c.loop-scope.scoping in
    let parent = c.args.parent.0 in
    let now = c.set_scope_parent_id.ensures.parent in
    let may = subst (λ xs. MayMove (map (λ x. x.0) xs) parent s) parted c.loop-scope.invariant.rest in
    record {
      moved = ap (with_parents (map (λ x. x.0) rest) parent) now ∙ ap (λ xs. with_parents (map (λ x. x.0) xs) parent s) (sym parted) ∙ c.loop-scope.invariant.moved;
      rest = subst (λ t. MayMove (map (λ x. x.0) rest) parent t) (sym now) (rest_may_move s here.0 (map (λ x. x.0) rest) parent may);
      there = subst (λ t. parent < length t.scopes) (sym now) (subst (λ n. parent < n) (sym (same_length s here.0 _)) c.loop-scope.invariant.there);
    }
