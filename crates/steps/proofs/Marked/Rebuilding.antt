-- A row that is rebuilt of its parts calls no `eval` that it didn't.
use Rattle.std.proofs.Common.{◌≡◌, ◌∙◌, Bool, true, false, true≢false, ◌||◌, is_some, refl, sym, ap}
use Rattle.js_syntax.specs.declared.node_kind.NodeKind.{NodeKind as Kind}
use Rattle.js_syntax.specs.declared.node_kind.NodeKind.TheVariants.{CallExpression as call_expression}
use Rattle.js_syntax.specs.Node.{Forest, Note, nothing, node, absent, joined, alone}
use Rattle.js_syntax.proofs.Truth.{first_of_either, second_of_either}
use Rattle.js_tree.specs.Names.{eval_of_call}
use Rattle.js_rebuilt.specs.Rebuilt.{is_call, Rebuilt, ends, stays, leaves, opened, built, absent_leaves, absent_comes}
use Rattle.scope_rules.specs.Site.{has_eval}

or_or : (b c d : Bool) → (b || c) || d ≡ b || (c || d)
or_or true c d = refl
or_or false c d = refl

or_none : (b : Bool) → b || false ≡ b
or_none true = refl
or_none false = refl

either_stays : (b c d : Bool) → (d ≡ true → c ≡ true) → b || d ≡ true → b || c ≡ true
either_stays true c d f e = refl
either_stays false c d f e = f e

pub calls_no_eval : (k : Kind) (a : Forest) → is_call k ≡ false → is_some (eval_of_call k a) ≡ false
calls_no_eval (call_expression optional pure) a h = absurd (true≢false h)
calls_no_eval k a h = refl

evals_joined : (t u : Forest) → has_eval (joined t u) ≡ has_eval t || has_eval u
evals_joined nothing u = refl
evals_joined (absent t) u = evals_joined t u
evals_joined (node k n a t) u =
    ap (λ b. (is_some (eval_of_call k a) || has_eval a) || b) (evals_joined t u) ∙ sym (or_or (is_some (eval_of_call k a) || has_eval a) (has_eval t) (has_eval u))

-- a node evaluates where it does itself, or its parts and what stands behind it do
node_evals : (k : Kind) (a r : Forest) → (is_some (eval_of_call k a) || has_eval a) || has_eval r ≡ is_some (eval_of_call k a) || has_eval (joined a r)
node_evals k a r = or_or (is_some (eval_of_call k a)) (has_eval a) (has_eval r) ∙ ap (λ b. is_some (eval_of_call k a) || b) (sym (evals_joined a r))

pub rebuilt_evals : {t u : Forest} → Rebuilt t u → has_eval u ≡ true → has_eval t ≡ true
rebuilt_evals ends e = e
rebuilt_evals (stays {k = k} {a = a} {r = r} {s = s} rest) e = either_stays (is_some (eval_of_call k a) || has_eval a) (has_eval r) (has_eval s) (rebuilt_evals rest) e
rebuilt_evals (leaves {k = k} {a = a} {r = r} rest) e = second_of_either (is_some (eval_of_call k a) || has_eval a) (has_eval r) (rebuilt_evals rest e)
rebuilt_evals (opened {k = k} {a = a} {r = r} is rest) e = node_evals k a r ∙ second_of_either (is_some (eval_of_call k a)) (has_eval (joined a r)) (rebuilt_evals rest e)
rebuilt_evals (built {l = l} {b = b} {s = s} may rest) e = rebuilt_evals rest (sym (node_evals l b s ∙ ap (λ c. c || has_eval (joined b s)) (calls_no_eval l b may.calls_none)) ∙ e)
rebuilt_evals (absent_leaves rest) e = rebuilt_evals rest e
rebuilt_evals (absent_comes rest) e = rebuilt_evals rest e

-- one expression in the place of another
pub one_evals : (k l : Kind) (n m : Note) (a b : Forest) → Rebuilt (alone k n a) (alone l m b) → is_some (eval_of_call l b) || has_eval b ≡ true → is_some (eval_of_call k a) || has_eval a ≡ true
one_evals k l n m a b rebuilt e =
    let old = is_some (eval_of_call k a) || has_eval a in
    let new = is_some (eval_of_call l b) || has_eval b in
    sym (or_none old) ∙ rebuilt_evals rebuilt (first_of_either new false e)
