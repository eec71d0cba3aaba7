use Rattle.std.proofs.Common.{◌<◌, ◌∙◌, IsTrue, false, length, refl, sym, arith}
use Rattle.js_tree_equal.proofs.Same.{same_kinds, rows_of, tree_of_rows, same_length, same_from_next, child_differs, all_same}
use Rattle.js_tree.proofs.Rows.{front_of}
use Rattle.js_tree.proofs.Sizes.{row_smaller}
use Rattle.js_tree_equal.proofs.walk.+walk.Goals as goal

not_true : (P : Type 0) → IsTrue false → P
not_true P h = absurd (cc)

pub same_node-returns-then-not-same_kind : goal.same_node-returns-then-not-same_kind
same_node-returns-then-not-same_kind t c =
    record { same = (not_true _, λ e. c.if-not-same_kind.ensures.same.1 (c.kind.ensures ∙ same_kinds c.args.one.now c.args.other.now e ∙ sym c.kind-2.ensures)) }

pub same_node-returns-then-children-others : goal.same_node-returns-then-children-others
same_node-returns-then-children-others t c =
    record { same = (not_true _, λ e. absurd (c.if-children-others.true (same_length _ _ (rows_of c.args.one.now c.args.other.now _ _ c.children-children.ensures c.children-others.ensures e)))) }

pub same_node-same_child-requires : goal.same_node-same_child-requires
same_node-same_child-requires t c =
    (omega (arith, row_smaller _ _ _ c.args.one.now c.children-test.true c.index-children-at.is c.children-children.ensures), tt)

pub same_node-children-preserved : goal.same_node-children-preserved
same_node-children-preserved t c =
    let within : c.children.at < length c.children-others.result.now = omega (arith, c.children-test.true, c.if-children-others.false) in
    same_from_next _ _ _ _ _ (front_of _ _ _ c.children-test.true c.index-children-at.is) (front_of _ _ _ within c.index-others-at.is)
    (c.if-not-same_child.ensures.same.0 refl) c.children.invariant

pub same_node-returns-then-not-same_child : goal.same_node-returns-then-not-same_child
same_node-returns-then-not-same_child t c =
    let within : c.children.at < length c.children-others.result.now = omega (arith, c.children-test.true, c.if-children-others.false) in
    record {
      same = (
        not_true _,
        λ e. c.if-not-same_child.ensures.same.1
            (child_differs _ _ _ _ _ (front_of _ _ _ c.children-test.true c.index-children-at.is) (front_of _ _ _ within c.index-others-at.is)
            c.children.invariant (rows_of c.args.one.now c.args.other.now _ _ c.children-children.ensures c.children-others.ensures e)),
      );
    }

pub same_node-returns : goal.same_node-returns
same_node-returns t c =
    let kinds = sym c.kind.ensures ∙ c.if-not-same_kind.ensures.same.0 refl ∙ c.kind-2.ensures in
    record {
      same = (
        λ h. tree_of_rows c.args.one.now c.args.other.now _ _ c.children-children.ensures c.children-others.ensures kinds
            (all_same _ _ c.children.at c.children-test.false c.if-children-others.false c.children.invariant),
        λ e. refl,
      );
    }
