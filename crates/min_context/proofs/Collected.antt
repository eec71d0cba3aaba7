-- What a walk of the collector marks.
use Rattle.std.proofs.Common.{◌≡◌, ◌+◌, ℕ, Bool, true, false, refl, sym, ap, subst, true≢false}
use Rattle.std.specs.Prelude.{cond, is_some}
use Rattle.js_syntax.specs.declared.node_kind.NodeKind.{NodeKind as Kind}
use Rattle.js_syntax.specs.declared.node_kind.NodeKind.TheVariants.{ReferenceName as reference_name, TargetName as target_name, CallExpression as call_expression}
use Rattle.js_syntax.specs.Node.{Forest, Note, nothing, node, absent}
use Rattle.js_tree.specs.Names.{eval_of_call}
use Rattle.js_tree.specs.Walk.{is_list, Walks, Visited}
use Rattle.scope_counts.specs.Counts.{ids, by_id, own}
use Rattle.min_context.specs.Collecting.{Collects}
use Rattle.min_context.specs.Edited.{evals}
use Rattle.min_context.specs.Left.{Left}
use Rattle.min_context.specs.declared.collector.DroppedSubtreeCollector.{DroppedSubtreeCollector}
use Rattle.min_context.proofs.Marking.{left_none, left_more}

lists_are_no_references : (r : ℕ) (n : Note) (k : Kind) → is_list k ≡ true → own (by_id r) n k ≡ 0
lists_are_no_references r n (reference_name x) is = absurd (true≢false (sym is))
lists_are_no_references r n (target_name x) is = absurd (true≢false (sym is))
lists_are_no_references r n k is = refl

abbrev own_evals : Kind → Forest → ℕ
own_evals k b = cond (is_some (eval_of_call k b)) 1 0

lists_are_no_calls : (k : Kind) (b : Forest) → is_list k ≡ true → own_evals k b ≡ 0
lists_are_no_calls (call_expression optional pure) b is = absurd (true≢false (sym is))
lists_are_no_calls k b is = refl

visited : (k : Kind) (n : Note) (b : Forest) (of_list : Bool) (c d : DroppedSubtreeCollector) → ((a e : DroppedSubtreeCollector) → Walks Collects b a e → Left a.changes.now (λ r. ids r b) (evals b) e.changes.now)
    → is_list k ≡ of_list → Visited Collects of_list (record { kind = k; note = n; below = b }) (Walks Collects b) c d
    → Left c.changes.now (λ r. own (by_id r) n k + ids r b) (own_evals k b + evals b) d.changes.now
visited k n b true c d below is inner =
    left_more (λ r. ap (λ m. m + ids r b) (lists_are_no_references r n k is)) (ap (λ m. m + evals b) (lists_are_no_calls k b is)) (left_none c.changes.now) (below c d inner)
visited k n b false c d below is (true, s, met, inner) = left_more (λ r. refl) refl met.left (below s d inner)
visited k n b false c d below is (false, s, met, inner) = absurd (true≢false (sym met.walks_on))

pub collected : (t : Forest) (c d : DroppedSubtreeCollector) → Walks Collects t c d → Left c.changes.now (λ r. ids r t) (evals t) d.changes.now
collected nothing c d same = subst (λ (e : DroppedSubtreeCollector). Left c.changes.now (λ r. 0) 0 e.changes.now) same (left_none c.changes.now)
collected (absent rest) c d walks = collected rest c d walks
collected (node k n b rest) c d (m, here, walks) = left_more (λ r. refl) refl (visited k n b (is_list k) c m (collected b) refl here) (collected rest m d walks)
