-- What a call did is what the rule says, and what is known then.
use Rattle.std.proofs.Common.{◌≡◌, ◌∙◌, ◌+◌, ◌||◌, Bool, true, false, true≢false, Some, None, if◌then◌else◌, refl, sym, ap, subst, arith}
use Rattle.std.specs.Prelude.{is_some}
use Rattle.js_syntax.specs.declared.node_kind.NodeKind.{NodeKind as Kind}
use Rattle.js_syntax.specs.declared.node_kind.NodeKind.TheVariants.{Statements as statements}
use Rattle.js_syntax.specs.Node.{Forest, Note, Tree, nothing, node}
use Rattle.js_syntax.proofs.Truth.{or_false}
use Rattle.symbol_sets.specs.Numbers.{has}
use Rattle.min_context.specs.Edited.{evals, Leaves}
use Rattle.min_context.specs.Seen.{Seen}
use Rattle.min_traverse.specs.Lawful.{Does}
use Rattle.min_traverse.proofs.Joining.{does_none, does_some, left_is_missing}
use Rattle.test_traverse.specs.Bodies.{is_list, without_empty}
use Rattle.test_traverse.specs.Cleaning.{is_cleaned, clean_of, cleaned, LeftAlone}
use Rattle.test_traverse.proofs.Editing.{answers}
use Rattle.test_traverse.proofs.Lists.{ids_stay, evals_stay}

none_leaves : (c : Seen) → Leaves c (λ r. 0) 0 c
none_leaves c = record { same = refl; room = refl; marks = λ r h. sym (or_false (has c.marked r)); evals = sym (or_false c.eval_dropped) }

calls_stay : (k : Kind) (n : Note) (b : Forest) → is_list k ≡ true → evals (node k n b nothing) ≡ 0 + evals (node k n (without_empty b) nothing)
calls_stay statements n b e = Prim.omega (arith, evals_stay b)
calls_stay k n b e = absurd (true≢false (sym e))

chosen : (b : Bool) (z : Tree) → b ≡ true → (if b then Some z else None) ≡ Some z
chosen true z e = refl
chosen false z e = absurd (true≢false (sym e))

not_chosen : (b : Bool) (z : Tree) → b ≡ false → (if b then Some z else None) ≡ None
not_chosen true z e = absurd (true≢false e)
not_chosen false z e = refl

does : (c : Seen) (x : Tree) → is_cleaned c x ≡ true → Does cleaned c x true (record c { requested = true }) (clean_of x)
does c x e =
    let is : cleaned c x ≡ Some (clean_of x) = chosen (is_cleaned c x) (clean_of x) e in
    does_some cleaned c x (clean_of x) is
    (left_is_missing x (clean_of x) (none_leaves c) (λ r. Prim.omega (arith, ids_stay r x.below)) (calls_stay x.kind x.note x.below (answers c x (clean_of x) is).list))

same_tree : (y : Tree) (k : Kind) (n : Note) (t : Forest) → y.kind ≡ k → y.note ≡ n → y.below ≡ t → y ≡ record { kind = k; note = n; below = t }
same_tree y k n t e f g = ap (λ z. record { kind = z; note = y.note; below = y.below }) e ∙ ap (λ z. record { kind = k; note = z; below = y.below }) f ∙ ap (λ z. record { kind = k; note = n; below = z }) g

pub done : {c d : Seen} {x y : Tree} → is_cleaned c x ≡ true → d ≡ record c { requested = true } → y.kind ≡ x.kind → y.note ≡ x.note → y.below ≡ without_empty x.below → Does cleaned c x true d y
done {c = c} {d = d} {x = x} {y = y} e asked kind note below =
    let tree : y ≡ clean_of x = same_tree y x.kind x.note (without_empty x.below) kind note below in
    subst (λ z. Does cleaned c x true d z) (sym tree) (subst (λ k. Does cleaned c x true k (clean_of x)) (sym asked) (does c x e))

pub not_done : {c : Seen} {x : Tree} → is_cleaned c x ≡ false → Does cleaned c x false c x
not_done {c = c} {x = x} e = does_none cleaned c x (not_chosen (is_cleaned c x) (clean_of x) e)

-- ---- where no other walk is asked for

not_asked : (a b : Bool) → (a || b) ≡ false → b ≡ false
not_asked true b e = absurd (true≢false e)
not_asked false b e = e

not_some : (b : Bool) (z : Tree) → is_some (if b then Some z else None) ≡ false → b ≡ false
not_some true z e = absurd (true≢false e)
not_some false z e = refl

pub quiet : {c d : Seen} {x y : Tree} {answer : Bool} → Does cleaned c x answer d y → d.requested ≡ false → LeftAlone c x d
quiet {c = c} {d = d} {x = x} does e =
    let none : is_some (cleaned c x) ≡ false = not_asked c.requested (is_some (cleaned c x)) (sym does.edited.asked ∙ e) in
    record { clean = not_some (is_cleaned c x) (clean_of x) none; same = does.edited.none none }
