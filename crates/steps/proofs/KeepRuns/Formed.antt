-- A step of a formed tree leaves a formed tree.
use Rattle.std.proofs.Common.{◌≡◌, ◌∙◌, Bool, true, true≢false, ◌&&◌, refl, sym, ap}
use Rattle.js_syntax.specs.declared.node_kind.NodeKind.{NodeKind as Kind}
use Rattle.js_syntax.specs.Node.{Forest, nothing, node, alone}
use Rattle.js_meaning.specs.Scope.{first_of, behind}
use Rattle.steps.specs.Steps.{items, other, Around, entered, Step, leaves, empties, unbinds, states, inside, behind_node, behind_absent}
use Rattle.steps.specs.KeepRuns.Formed.{may_hold, holds_well, is_plain, still, calm_at, calm, heads, is_formed}
use Rattle.steps.proofs.KeepRuns.Unbound.{unbound_holds, unbound_still, unbound_calm, unbound_formed}
use Rattle.steps.proofs.KeepRuns.Calm.{entered_row, items_other, leaves_no_other, no_items_below, still_stays, first_stays, form_holds, form_heads, form_below, form_behind}
use Rattle.js_syntax.proofs.Truth.{first_of_both, second_of_both, both}

holds_step : {w : Around} {t u : Forest} (k : Kind) → Step w t u → holds_well k t ≡ true → holds_well k u ≡ true
holds_step k (leaves {k = l} {r = r} g) e = second_of_both (may_hold k l) (holds_well k r) e
holds_step k (empties h) e = e
holds_step k (unbinds i u h) e = e
holds_step k (states i u h) e = e
holds_step k (inside s) e = e
holds_step k (behind_node {k = l} {r = r} s) e = both (may_hold k l) _ (first_of_both (may_hold k l) (holds_well k r) e) (holds_step k s (second_of_both (may_hold k l) (holds_well k r) e))
holds_step k (behind_absent s) e = holds_step k s e

calm_node : (k : Kind) (i j : Bool) → (is_plain k ≡ true → i ≡ true → j ≡ true) → calm_at k i ≡ true → calm_at k j ≡ true
calm_node (Kind.Function f pure) i j h e = refl
calm_node k i j h e = let plain = first_of_both (is_plain k) i e in both (is_plain k) j plain (h plain (second_of_both (is_plain k) i e))

-- outside of lists of statements
calm_stays : {w : Around} {t u : Forest} → Step w t u → (w.row ≡ items → ⊥) → calm t ≡ true → calm u ≡ true
calm_stays (leaves {k = k} {a = a} {r = r} g) o e = second_of_both (calm_at k (calm a)) (calm r) e
calm_stays (empties h) o e = absurd (true≢false (sym e))
calm_stays (unbinds {a = a} {b = b} {r = r} i u h) o e = both (calm b) (calm r) (unbound_calm h (first_of_both (calm a) (calm r) e)) (second_of_both (calm a) (calm r) e)
calm_stays (states i u h) o e = absurd (o i)
calm_stays (inside {w = w} {k = k} {a = a} {b = b} {r = r} s) o e =
    both (calm_at k (calm b)) (calm r) (calm_node k (calm a) (calm b) (λ p. calm_stays s (λ f. no_items_below w.row k a p (sym (entered_row w k a) ∙ f))) (first_of_both (calm_at k (calm a)) (calm r) e)) (second_of_both (calm_at k (calm a)) (calm r) e)
calm_stays (behind_node {k = k} {a = a} {r = r} s) o e = both (calm_at k (calm a)) _ (first_of_both (calm_at k (calm a)) (calm r) e) (calm_stays s o (second_of_both (calm_at k (calm a)) (calm r) e))
calm_stays (behind_absent s) o e = calm_stays s o e

calm_first : {w : Around} {a b : Forest} → Step w a b → w.row ≡ other → calm (first_of a) ≡ true → calm (first_of b) ≡ true
calm_first (leaves h) g e = absurd (leaves_no_other h g)
calm_first (empties h) g e = absurd (true≢false (sym e))
calm_first (unbinds i u h) g e = absurd (items_other i g)
calm_first (states i u h) g e = absurd (items_other i g)
calm_first (inside {n = n} s) g e = calm_stays (inside {n = n} {r = nothing} s) (λ i. items_other i g) e
calm_first (behind_node s) g e = e
calm_first (behind_absent s) g e = e

function_heads : {w : Around} {a b : Forest} (s : Step w a b) → w.row ≡ other → (still (first_of a) && still (first_of (behind a))) ≡ true → (still (first_of b) && still (first_of (behind b))) ≡ true
function_heads {w} {a} {b} s g e =
    let first : still (first_of a) ≡ true = first_of_both (still (first_of a)) (still (first_of (behind a))) e in
    let second : still (first_of (behind a)) ≡ true = second_of_both (still (first_of a)) (still (first_of (behind a))) e in
    let i = first_stays s g first in
    both (still (first_of b)) _ (ap still (sym i.first) ∙ first) (ap still (sym (first_stays i.step g second).first) ∙ second)

heads_step : (w : Around) {a b : Forest} (k : Kind) → Step (entered w k a) a b → heads k a ≡ true → heads k b ≡ true
heads_step w {a} (Kind.VariableDeclaration how) s e = calm_stays s (λ i. no_items_below w.row (Kind.VariableDeclaration how) a refl i) e
heads_step w Kind.ForStatement s e = calm_first s refl e
heads_step w Kind.CatchClause s e = ap still (sym (first_stays s refl e).first) ∙ e
heads_step w (Kind.Function f pure) s e = function_heads s refl e
heads_step w (Kind.Class c) s e = absurd (still_stays s refl e)
heads_step w (Kind.ImportDeclaration source) s e = absurd (still_stays s refl e)
heads_step w {a} (Kind.ExportNamedDeclaration source) s e = calm_stays s (λ i. no_items_below w.row (Kind.ExportNamedDeclaration source) a refl i) e
heads_step w {a} Kind.ExportDefaultDeclaration s e = calm_stays s (λ i. no_items_below w.row Kind.ExportDefaultDeclaration a refl i) e
heads_step w {a} Kind.ObjectExpression s e = calm_stays s (λ i. no_items_below w.row Kind.ObjectExpression a refl i) e
heads_step w (Kind.BindingName y) s e = e
heads_step w k s e = refl

-- a statement holds what a declarator does
held_in_statement : (k : Kind) → may_hold Kind.VariableDeclarator k ≡ true → may_hold Kind.ExpressionStatement k ≡ true
held_in_statement Kind.Statements e = e
held_in_statement Kind.FunctionBody e = e
held_in_statement Kind.SwitchCase e = e
held_in_statement Kind.Cases e = e
held_in_statement (Kind.Program source) e = e
held_in_statement (Kind.Function f pure) e = e
held_in_statement k e = refl

pub formed_step : {w : Around} {t u : Forest} → Step w t u → is_formed t ≡ true → is_formed u ≡ true
formed_step (leaves {k = k} {a = a} {r = r} g) e = form_behind k a r e
formed_step (empties {k = k} {l = l} {a = a} {r = r} h) e = form_behind Kind.ExpressionStatement (alone k l a) r e
formed_step (unbinds {source = source} {a = a} {b = b} {r = r} i u h) e =
    let k : Kind = Kind.ImportDeclaration source in
    both (holds_well k b && heads k b) (is_formed b && is_formed r) (both (holds_well k b) (heads k b) (unbound_holds k h (form_holds k a r e)) (unbound_still h (form_heads k a r e)))
    (both (is_formed b) (is_formed r) (unbound_formed h (form_below k a r e)) (form_behind k a r e))
formed_step (states {how = how} {x = x} {k = k} {n = n} {m = m} {l = l} {j = j} {i = i} {a = a} {r = r} g u h) e =
    let value = alone k i a in
    let name = node (Kind.BindingName x) j nothing value in
    let declarator = alone Kind.VariableDeclarator l name in
    let all = form_below (Kind.VariableDeclaration how) (alone Kind.Declarators m declarator) r e in
    let one = form_below Kind.Declarators declarator nothing all in
    let held = second_of_both (may_hold Kind.VariableDeclarator (Kind.BindingName x)) (may_hold Kind.VariableDeclarator k && true) (form_holds Kind.VariableDeclarator name nothing one) in
    both (holds_well Kind.ExpressionStatement value && true) (is_formed value && is_formed r)
    (both (holds_well Kind.ExpressionStatement value) true (both (may_hold Kind.ExpressionStatement k) true (held_in_statement k (first_of_both (may_hold Kind.VariableDeclarator k) true held)) refl) refl)
    (both (is_formed value) (is_formed r) (form_behind (Kind.BindingName x) nothing value (form_below Kind.VariableDeclarator name nothing one)) (form_behind (Kind.VariableDeclaration how) (alone Kind.Declarators m declarator) r e))
formed_step (inside {w = w} {k = k} {a = a} {b = b} {r = r} s) e =
    both (holds_well k b && heads k b) (is_formed b && is_formed r) (both (holds_well k b) (heads k b) (holds_step k s (form_holds k a r e)) (heads_step w k s (form_heads k a r e))) (both (is_formed b) (is_formed r) (formed_step s (form_below k a r e)) (form_behind k a r e))
formed_step (behind_node {k = k} {a = a} {r = r} {s = z} s) e =
    both (holds_well k a && heads k a) (is_formed a && is_formed z) (both (holds_well k a) (heads k a) (form_holds k a r e) (form_heads k a r e)) (both (is_formed a) (is_formed z) (form_below k a r e) (formed_step s (form_behind k a r e)))
formed_step (behind_absent s) e = formed_step s e
