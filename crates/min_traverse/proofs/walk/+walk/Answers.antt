use Rattle.std.proofs.Common.{◌≡◌, ◌+◌, ◌<◌, ◌≤◌, ◌∙◌, ◌==◌, ℕ, List, [], ◌∷◌, true, false, Option, get_or, length, take, drop, set, Some, None, refl, sym, ap, subst, arith}
use Rattle.std.specs.Prelude.{nat_lt}
use Rattle.std.specs.Cmp.{unsigned_Decides}
use Rattle.js_syntax.specs.Node.{Forest, Tree, nothing, row}
use Rattle.js_tree.specs.Weight.{size_of}
use Rattle.min_context.specs.Place.{Place, Spot, below, goes_on, inside}
use Rattle.min_context.specs.Seen.{Seen}
use Rattle.min_traverse.specs.Moves.{Holds, RowMoves}
use Rattle.min_traverse.specs.Visits.{Visits, VisitsFront}
use Rattle.min_traverse.proofs.Rows.{spot_at, child_spot, more_behind, spot_then, first_then, back, markable_below, front_of, left, set_same, markable_at, row_markable, row_stays, node_markable, next, child, whole, same_tree, written}
use Rattle.min_traverse.proofs.Visiting.{one_more, all_visited, child_visit, node_visit, later_unvisited}
use Rattle.min_traverse.proofs.walk.+walk.Goals.{walk_children-in-Some+in_ok-walk_child-in-Some, walk_children-in-None}
use Rattle.min_traverse.proofs.walk.+walk.Goals as goal

before_end : (i n : ℕ) → i < n → nat_lt i n ≡ true
before_end i n h = Prim.grind arith

at_end : (i n : ℕ) → n ≤ i → nat_lt i n ≡ false
at_end i n h = Prim.grind arith

none_below : (xs : List (Option Tree)) (t : Forest) → row xs ≡ t → (length xs == 0) ≡ true → t ≡ nothing
none_below [] t is h = sym is
none_below (x ∷ xs) t is h = absurd (omega (arith, (unsigned_Decides (length (x ∷ xs)) 0).0 h))

pub walk_node-exit_node-requires : goal.walk_node-exit_node-requires
walk_node-exit_node-requires g t c = record { markable = node_markable c.in_ok-enter_node.ensures.moves c.requires.markable }

pub walk_node-returns-then-is_empty : goal.walk_node-returns-then-is_empty
walk_node-returns-then-is_empty g t c =
    let node = c.args.node.now in
    let entered = c.in_ok-enter_node.ensures.moves in
    let is : node.below ≡ nothing = none_below c.children.result.now node.below c.children.ensures (sym c.is_empty.ensures ∙ c.if-is_empty.true) in
    let stands = same_tree node node.kind node.note nothing refl refl is in
    record {
      moves = whole entered is (row_stays _ _ _ _) stands c.in_ok-exit_node.ensures.moves;
      visited = λ q.
          let q1 : c.enter_node.new.ctx.requested ≡ false = (c.in_ok-exit_node.ensures.moves.moves nothing).quiet_before q in
          node_visit g.T.Traverse.visits g.T.Traverse.written node node nothing _ _ _ _ _ _ _ _ entered.same_place refl is refl (c.in_ok-enter_node.ensures.visited q1) (refl, refl) (c.in_ok-exit_node.ensures.visited q);
    }

pub walk_node-returns : goal.walk_node-returns
walk_node-returns g t c =
    let entered = c.in_ok-enter_node.ensures.moves in
    let is = sym c.replace_children-children.ensures.taken ∙ ap row (sym c.as_mut_slice.ensures.value) in
    let rows = subst (λ a. RowMoves _ g.T.Traverse.edit (Holds g.T.Traverse.own) (below c.enter_node.new.ctx.place a) c.enter_node.new.traverse c.enter_node.new.ctx (row c.as_mut_slice.result.now) c.walk_children.new.traverse c.walk_children.new.ctx (row c.walk_children.new.children)) c.of-above.ensures.above c.in_ok-walk_children.ensures.moves in
    let stands = same_tree _ _ _ _ (c.replace_children.ensures.kind ∙ c.replace_children-children.ensures.kind) (c.replace_children.ensures.note ∙ c.replace_children-children.ensures.note) (c.replace_children.ensures.below ∙ ap row (written c.replace_children-children.result.len c.walk_children.new.children (drop (length c.walk_children.new.children) c.replace_children-children.result.items) (omega (arith, c.walk_children.auto.children, c.as_mut_slice.ensures.len)))) in
    record {
      moves = whole entered is rows stands c.in_ok-exit_node-2.ensures.moves;
      visited = λ q.
          let q2 : c.walk_children.new.ctx.requested ≡ false = (c.in_ok-exit_node-2.ensures.moves.moves nothing).quiet_before q in
          let q1 : c.enter_node.new.ctx.requested ≡ false = rows.moves.quiet_before q2 in
          let same = stands ∙ ap (λ u. record { kind = c.args.node.now.kind; note = c.args.node.now.note; below = u }) (rows.moves.quiet q2 ∙ sym is) in
          let inside = subst (λ a. Visits g.T.Traverse.visits g.T.Traverse.written (below c.enter_node.new.ctx.place a) (row c.as_mut_slice.result.now) c.enter_node.new.traverse c.enter_node.new.ctx c.walk_children.new.traverse c.walk_children.new.ctx) c.of-above.ensures.above (c.in_ok-walk_children.ensures.visited q2) in
          node_visit g.T.Traverse.visits g.T.Traverse.written c.args.node.now c.replace_children.new.self _ _ _ _ _ _ _ _ _ entered.same_place rows.same_place is same (c.in_ok-enter_node.ensures.visited q1) inside (c.in_ok-exit_node-2.ensures.visited q);
    }

pub walk_node-walk_children-requires : goal.walk_node-walk_children-requires
walk_node-walk_children-requires g t c κs within =
    let is = sym c.replace_children-children.ensures.taken ∙ ap row (sym c.as_mut_slice.ensures.value) in
    (omega (arith, ap size_of is), (within, markable_below c.enter_node.new.ctx c.args.node.now (row c.as_mut_slice.result.now) is (node_markable c.in_ok-enter_node.ensures.moves c.requires.markable)))

pub walk_child-returns : goal.walk_child-returns
walk_child-returns g t c =
    let entered : c.enter.new.self ≡ record c.args.ctx.now { place = inside c.args.ctx.now.place c.args.above c.args.at c.args.previous c.args.more } = c.in_ok-enter.ensures.entered ∙ ap {A = ℕ} {B = Seen} (λ n. record c.args.ctx.now { place = inside c.args.ctx.now.place c.args.above n c.args.previous c.args.more }) c.in_ok-number.ensures in
    let left : c.leave.new.self ≡ record c.walk_node.new.ctx { place = c.args.ctx.now.place } = back c.args.ctx.now c.enter.new.self c.walk_node.new.ctx c.leave.new.self c.args.above c.args.at c.args.previous c.args.more _ _ _ entered c.in_ok-walk_node.ensures.moves.same_place c.leave.ensures.left c.current_scopes-scopes.ensures.scope c.current_scopes-scopes.ensures.hoist_scope c.current_scopes-scopes.ensures.block_scope in
    record {
      moves = child entered c.in_ok-walk_node.ensures.moves left;
      visited = λ q. child_visit g.T.Traverse.visits g.T.Traverse.written (child_spot c.args.ctx.now.place c.args.above c.args.at c.args.previous) c.args.more c.args.node.now c.args.traverse.now c.walk_node.new.traverse c.args.ctx.now c.enter.new.self c.walk_node.new.ctx c.leave.new.self refl entered (ap {A = Seen} (λ k. k.place) entered) left (c.in_ok-walk_node.ensures.visited (ap {A = Seen} (λ k. k.requested) (sym left) ∙ q));
    }

pub walk_children-loop-at-init : goal.walk_children-loop-at-init
walk_children-loop-at-init g t c = record { moves = row_stays _ _ _ _; visited = λ q. (refl, refl); spot = refl; first_spot = refl; unvisited = λ j d h. refl; small = omega arith }

pub walk_children-walk_child-requires : goal.walk_children-walk_child-requires
walk_children-walk_child-requires g t c κs within =
    let in_row : c.loop-at.at < length c.loop-at.children = omega (arith, c.loop-at-test.true, c.loop-at.auto.children) in
    let front = front_of c.loop-at.children c.loop-at.at c.index-children-at.result (Some c.in-Some.node) in_row c.in-Some.is in
    (omega (arith, ap (λ ts. size_of (row ts)) front, c.loop-at.invariant.small), (within, markable_at c.loop-at.ctx c.loop-at.children c.loop-at.at c.in-Some.node front (row_markable c.loop-at.invariant.moves c.requires.markable)))

pub walk_children-loop-at-preserved : goal.walk_children-loop-at-preserved
walk_children-loop-at-preserved g t c =
    let i = c.loop-at.at in
    let first : Spot = below c.args.ctx.now.place c.args.above in
    let in_row : i < length c.loop-at.children = omega (arith, c.loop-at-test.true, c.loop-at.auto.children) in
    let stood : c.index-children-at.result ≡ get_or c.args.children.now i c.index-children-at.result = c.index-children-at.is ∙ c.loop-at.invariant.unvisited i c.index-children-at.result (omega arith) in
    let more = nat_lt (i + 1) (length c.args.children.now) in
    let on : goes_on (row (drop (i + 1) c.loop-at.children)) ≡ more = more_behind c.loop-at.children i ∙ ap (nat_lt (i + 1)) c.loop-at.auto.children in
    let first_part : c.loop-at.ctx.requested ≡ false → VisitsFront g.T.Traverse.visits g.T.Traverse.written first true (row (take i c.args.children.now)) c.args.traverse.now c.args.ctx.now c.loop-at.traverse c.loop-at.ctx = λ q. subst (λ m. VisitsFront g.T.Traverse.visits g.T.Traverse.written first m (row (take i c.args.children.now)) c.args.traverse.now c.args.ctx.now c.loop-at.traverse c.loop-at.ctx) (before_end i (length c.args.children.now) c.loop-at-test.true) (c.loop-at.invariant.visited q) in
    elim c.match-child.branch [
      | walk_children-in-Some+in_ok-walk_child-in-Some w ↦
          let front = front_of c.loop-at.children i c.index-children-at.result (Some w.in-Some.node) in_row w.in-Some.is in
          let same : c.loop-at.ctx.place ≡ c.args.ctx.now.place = c.loop-at.invariant.moves.same_place in
          let spot : spot_at first c.loop-at.children i ≡ child_spot c.loop-at.ctx.place c.args.above i c.loop-at.previous = c.loop-at.invariant.spot ∙ ap {A = Place} {B = Spot} (λ o. child_spot o c.args.above i c.loop-at.previous) (sym same) in
          let is : c.index-children-at.result ≡ Some w.in-Some.node = c.index-children-at.is ∙ w.in-Some.is in
          record {
            moves = rw (w.traverse-is, w.ctx-is, w.children-is) (next c.loop-at.children i w.in-Some.node w.walk_child.new.node _ in_row front spot on c.loop-at.invariant.moves w.in_ok-walk_child-in-Some.ensures.moves);
            visited = λ q.
                let q1 : w.walk_child.new.ctx.requested ≡ false = ap {A = Seen} (λ k. k.requested) (sym w.ctx-is) ∙ q in
                let before = first_part ((w.in_ok-walk_child-in-Some.ensures.moves.moves nothing).quiet_before q1) in
                let at_child : spot_at first c.args.children.now i ≡ child_spot c.loop-at.ctx.place c.args.above i c.loop-at.previous = c.loop-at.invariant.first_spot ∙ ap {A = Place} {B = Spot} (λ o. child_spot o c.args.above i c.loop-at.previous) (sym same) in
                let alone = subst (λ x. VisitsFront g.T.Traverse.visits g.T.Traverse.written (child_spot c.loop-at.ctx.place c.args.above i c.loop-at.previous) more (row (x ∷ [])) c.loop-at.traverse c.loop-at.ctx w.walk_child.new.traverse w.walk_child.new.ctx) (sym is) (w.in_ok-walk_child-in-Some.ensures.visited q1) in
                let here = subst (λ p. VisitsFront g.T.Traverse.visits g.T.Traverse.written p more (row (c.index-children-at.result ∷ [])) c.loop-at.traverse c.loop-at.ctx w.walk_child.new.traverse w.walk_child.new.ctx) (sym at_child) alone in
                rw (w.traverse-is, w.ctx-is) (one_more g.T.Traverse.visits g.T.Traverse.written first more c.args.children.now i c.index-children-at.result _ _ _ _ _ _ c.loop-at-test.true stood before here);
            spot = rw (w.children-is, w.previous-is) (spot_then first c.loop-at.children i c.args.ctx.now.place c.args.above c.loop-at.previous (Some w.walk_child.new.node) in_row c.loop-at.invariant.spot);
            first_spot = rw w.previous-is (first_then first c.args.children.now i c.args.ctx.now.place c.args.above c.loop-at.previous c.index-children-at.result (Some w.in-Some.node) c.loop-at-test.true (sym stood) is c.loop-at.invariant.first_spot);
            unvisited = rw w.children-is (later_unvisited c.args.children.now c.loop-at.children i (Some w.walk_child.new.node) c.loop-at.invariant.unvisited);
            small = omega (arith, ap (λ ts. size_of (row (drop (i + 1) ts))) w.children-is, ap (λ ts. size_of (row ts)) (left c.loop-at.children i (Some w.walk_child.new.node)), ap (λ ts. size_of (row ts)) front, c.loop-at.invariant.small);
          }
      | walk_children-in-None w ↦
          let front = front_of c.loop-at.children i c.index-children-at.result None in_row w.in-None.is in
          let now : c.match-child.children ≡ c.loop-at.children = w.children-is ∙ ap (λ y. set c.loop-at.children i y) w.in-None.is ∙ set_same c.loop-at.children i c.index-children-at.result None w.in-None.is in_row in
          let is : c.index-children-at.result ≡ None = c.index-children-at.is ∙ w.in-None.is in
          record {
            moves = rw (w.traverse-is, w.ctx-is, now) c.loop-at.invariant.moves;
            visited = λ q.
                let q1 : c.loop-at.ctx.requested ≡ false = ap {A = Seen} (λ k. k.requested) (sym w.ctx-is) ∙ q in
                let here : VisitsFront g.T.Traverse.visits g.T.Traverse.written (spot_at first c.args.children.now i) more (row (c.index-children-at.result ∷ [])) c.loop-at.traverse c.loop-at.ctx c.loop-at.traverse c.loop-at.ctx = rw is (refl, refl) in
                rw (w.traverse-is, w.ctx-is) (one_more g.T.Traverse.visits g.T.Traverse.written first more c.args.children.now i c.index-children-at.result _ _ _ _ _ _ c.loop-at-test.true stood (first_part q1) here);
            spot = rw (now, w.previous-is) (first_then first c.loop-at.children i c.args.ctx.now.place c.args.above c.loop-at.previous c.index-children-at.result None in_row (sym c.index-children-at.is) is c.loop-at.invariant.spot);
            first_spot = rw w.previous-is (first_then first c.args.children.now i c.args.ctx.now.place c.args.above c.loop-at.previous c.index-children-at.result None c.loop-at-test.true (sym stood) is c.loop-at.invariant.first_spot);
            unvisited = λ j d h. ap (λ ts. get_or ts j d) now ∙ c.loop-at.invariant.unvisited j d (omega arith);
            small = omega (arith, ap (λ ts. size_of (row (drop (i + 1) ts))) now, ap (λ ts. size_of (row ts)) front, c.loop-at.invariant.small);
          }
    ]

pub walk_children-returns : goal.walk_children-returns
walk_children-returns g t c = record {
  moves = c.loop-at.invariant.moves;
  visited = λ q. all_visited g.T.Traverse.visits g.T.Traverse.written (below c.args.ctx.now.place c.args.above) c.args.children.now c.loop-at.at _ _ _ _ (omega (arith, c.loop-at-test.false)) (subst (λ m. VisitsFront g.T.Traverse.visits g.T.Traverse.written (below c.args.ctx.now.place c.args.above) m (row (take c.loop-at.at c.args.children.now)) c.args.traverse.now c.args.ctx.now c.loop-at.traverse c.loop-at.ctx) (at_end c.loop-at.at (length c.args.children.now) (omega (arith, c.loop-at-test.false))) (c.loop-at.invariant.visited q));
}
