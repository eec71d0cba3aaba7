-- In a program that breaks no rule of form each declaration has a declarator.
use Rattle.std.proofs.Common.{◌≡◌, ℕ, ◌+◌, suc, [], ◌++◌, Bool, true, false, not, ◌&&◌, ◌==◌, refl, arith}
use Rattle.std.proofs.lemmas.Bool.Decides.{nat_tests}
use Rattle.js_tree.specs.Count.{one_each, node_count}
use Rattle.js_syntax.specs.declared.node_kind.NodeKind.{NodeKind as Kind}
use Rattle.js_syntax.specs.declared.node_kind.NodeKind.TheVariants.{VariableDeclaration as variable_declaration}
use Rattle.js_syntax.specs.Node.{Forest, nothing, node, absent}
use Rattle.form_rules.specs.Break.{unless}
use Rattle.form_rules.specs.Context.{Context, inside, outermost}
use Rattle.form_rules.specs.Rules.{places_of, each_breaks, length_of, first_below, is_declarator_wrong, counts_right, is_declaration, parts_of, rule_11, rule_12, broken_at}
use Rattle.form_rules.specs.Form.{broken_in, source_of, broken, IsWellFormed}
use Rattle.steps.proofs.KeepForm.Rules.{first_empty, second_empty}
use Rattle.steps.proofs.KeepForm.Form.{none_broken}
use Rattle.js_syntax.proofs.Truth.{both}

abbrev pub is_filled : Kind → (below : Forest) → Bool
is_filled (variable_declaration how) below = not (length_of (first_below below) == 0)
is_filled k below = true

abbrev pub are_filled : Forest → Bool
are_filled nothing = true
are_filled (absent r) = are_filled r
are_filled (node k n a r) = is_filled k a && (are_filled a && are_filled r)

counted : (is_head : Bool) (n : ℕ) → counts_right is_head n ≡ true → not (n == 0) ≡ true
counted true n right = grind (arith, nat_tests, right)
counted false n right = right

pub holds_so : (b : Bool) (place rule : ℕ) → unless b place rule ≡ [] → b ≡ true
holds_so true place rule h = refl
holds_so false place rule h = absurd cc

filled_at : (c : Context) (k : Kind) (p : ℕ) (a : Forest) → broken_at c k p a ≡ [] → is_filled k a ≡ true
filled_at c (variable_declaration how) p a h =
    let rule = first_empty (rule_11 c (variable_declaration how) p a) (rule_12 c (variable_declaration how) p a) h in
    let parts = second_empty (unless (not (c.is_alone && is_declaration (variable_declaration how))) p 11) (parts_of c (variable_declaration how) p a) rule in
    counted c.is_head (length_of (first_below a))
    (holds_so (counts_right c.is_head (length_of (first_below a))) p 11
    (first_empty (unless (counts_right c.is_head (length_of (first_below a))) p 11) (each_breaks 11 (places_of (is_declarator_wrong c.is_head how) (suc p) (first_below a))) parts))
filled_at c k p a h = refl

filled_in : (f : ℕ → Context) (i p : ℕ) (t : Forest) → broken_in f i p t ≡ [] → are_filled t ≡ true
filled_in f i p nothing h = refl
filled_in f i p (absent r) h = filled_in f (suc i) p r h
filled_in f i p (node k n a r) h =
    let front = first_empty (broken_at (f i) k p a ++ broken_in (inside (f i) k a) 0 (p + one_each k) a) (broken_in f (suc i) (p + node_count (node k n a nothing)) r) h in
    let behind = second_empty (broken_at (f i) k p a ++ broken_in (inside (f i) k a) 0 (p + one_each k) a) (broken_in f (suc i) (p + node_count (node k n a nothing)) r) h in
    both (is_filled k a) (are_filled a && are_filled r) (filled_at (f i) k p a (first_empty (broken_at (f i) k p a) (broken_in (inside (f i) k a) 0 (p + one_each k) a) front))
    (both (are_filled a) (are_filled r) (filled_in (inside (f i) k a) 0 (p + one_each k) a (second_empty (broken_at (f i) k p a) (broken_in (inside (f i) k a) 0 (p + one_each k) a) front))
    (filled_in f (suc i) (p + node_count (node k n a nothing)) r behind))

pub whole_filled : (t : Forest) → IsWellFormed t → are_filled t ≡ true
whole_filled t whole = filled_in (λ at. outermost (source_of t)) 0 0 t (none_broken (broken t) whole)
