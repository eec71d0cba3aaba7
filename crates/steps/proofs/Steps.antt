-- What steps keep.
use Rattle.std.proofs.Common.{◌≡◌, true, ◌&&◌, refl}
use Rattle.js_syntax.specs.declared.node_kind.NodeKind.{NodeKind as Kind}
use Rattle.js_syntax.specs.Node.{Forest, nothing, node, alone}
use Rattle.js_syntax.specs.Facts.{is_core}
use Rattle.js_meaning.specs.Value.{Text}
use Rattle.steps.specs.Steps.{Around, Unbinds, unbinds_here, unbinds_below, unbinds_behind, unbinds_behind_absent, Step, leaves, empties, unbinds, states, inside, behind_node, behind_absent, all_core}
use Rattle.js_syntax.proofs.Truth.{first_of_both, second_of_both, both}

-- of a node: its kind, what lies below it, and what stands behind it
core_kind : (k : Kind) (a r : Forest) → (is_core k && (all_core a && all_core r)) ≡ true → is_core k ≡ true
core_kind k a r e = first_of_both _ _ e

core_below : (k : Kind) (a r : Forest) → (is_core k && (all_core a && all_core r)) ≡ true → all_core a ≡ true
core_below k a r e = first_of_both _ (all_core r) (second_of_both (is_core k) _ e)

core_behind : (k : Kind) (a r : Forest) → (is_core k && (all_core a && all_core r)) ≡ true → all_core r ≡ true
core_behind k a r e = second_of_both (all_core a) _ (second_of_both (is_core k) _ e)

unbound_core : {x : Text} {t u : Forest} → Unbinds x t u → all_core t ≡ true → all_core u ≡ true
unbound_core {x} (unbinds_here {k = k} {m = m} {r = r} b) e = core_behind k (node (Kind.BindingName x) m nothing nothing) r e
unbound_core (unbinds_below {a = a} {b = b} {r = r} h) e = both true _ refl (both (all_core b) _ (unbound_core h (core_below Kind.Specifiers a r e)) (core_behind Kind.Specifiers a r e))
unbound_core (unbinds_behind {k = k} {a = a} {r = r} h) e = both (is_core k) _ (core_kind k a r e) (both (all_core a) _ (core_below k a r e) (unbound_core h (core_behind k a r e)))
unbound_core (unbinds_behind_absent h) e = unbound_core h e

pub step_core : {w : Around} {t u : Forest} → Step w t u → all_core t ≡ true → all_core u ≡ true
step_core (leaves {k = k} {a = a} {r = r} g) e = core_behind k a r e
step_core (empties {k = k} {l = l} {a = a} {r = r} h) e = core_behind Kind.ExpressionStatement (alone k l a) r e
step_core (unbinds {source = source} {a = a} {b = b} {r = r} i o h) e =
    both true _ refl (both (all_core b) _ (unbound_core h (core_below (Kind.ImportDeclaration source) a r e)) (core_behind (Kind.ImportDeclaration source) a r e))
step_core (states {how = how} {x = x} {k = k} {m = m} {l = l} {j = j} {i = i} {a = a} {r = r} g u h) e =
    let value = alone k i a in
    let name = node (Kind.BindingName x) j nothing value in
    let declarator = alone Kind.VariableDeclarator l name in
    let all = core_below (Kind.VariableDeclaration how) (alone Kind.Declarators m declarator) r e in
    both true _ refl (both (all_core value) _ (core_behind (Kind.BindingName x) nothing value (core_below Kind.VariableDeclarator name nothing (core_below Kind.Declarators declarator nothing all))) (core_behind (Kind.VariableDeclaration how) (alone Kind.Declarators m declarator) r e))
step_core (inside {k = k} {a = a} {b = b} {r = r} s) e = both (is_core k) _ (core_kind k a r e) (both (all_core b) _ (step_core s (core_below k a r e)) (core_behind k a r e))
step_core (behind_node {k = k} {a = a} {r = r} s) e = both (is_core k) _ (core_kind k a r e) (both (all_core a) _ (core_below k a r e) (step_core s (core_behind k a r e)))
step_core (behind_absent s) e = step_core s e
