use Rattle.std.proofs.Common.{◌≡◌, ◌∙◌, ◌&&◌, ◌==◌, Some, None, true, false, sym, ap, arith}
use Rattle.js_effects.specs.Each.{width, child_of}
use Rattle.js_effects.specs.Silence.{names_one}
use Rattle.js_effects.proofs.Children.{child_size}
use Rattle.js_effects.proofs.OneName.{one_name_some, one_name_none}
use Rattle.js_effects.proofs.silent.+one_name.Goals as goal

pub has_one_name-names_one-requires : goal.has_one_name-names_one-requires
has_one_name-names_one-requires z c =
    let there : child_of c.args.node.now.below 0 ≡ Some c.in-Some.part.now = rw c.in-Some.is at (sym c.child.ensures) in
    (omega (arith, child_size c.args.node.now.below 0 c.in-Some.part.now there), tt)

pub has_one_name-returns-then-has_one_part : goal.has_one_name-returns-then-has_one_part
has_one_name-returns-then-has_one_part z c =
    let there : child_of c.args.node.now.below 0 ≡ Some c.in-Some.part.now = rw c.in-Some.is at (sym c.child.ensures) in
    let one : (width c.args.node.now.below == 1) ≡ true = sym c.has_one_part.ensures ∙ c.if-has_one_part.true in
    c.names_one.ensures ∙ sym (one_name_some c.args.node.now.below c.in-Some.part.now there ∙ ap (λ b. b && names_one c.in-Some.part.now.kind c.in-Some.part.now.below) one)

pub has_one_name-returns-else-has_one_part : goal.has_one_name-returns-else-has_one_part
has_one_name-returns-else-has_one_part z c =
    let there : child_of c.args.node.now.below 0 ≡ Some c.in-Some.part.now = rw c.in-Some.is at (sym c.child.ensures) in
    let more : (width c.args.node.now.below == 1) ≡ false = sym c.has_one_part.ensures ∙ c.if-has_one_part.false in
    c.if-has_one_part.false ∙ sym (one_name_some c.args.node.now.below c.in-Some.part.now there ∙ ap (λ b. b && names_one c.in-Some.part.now.kind c.in-Some.part.now.below) more)

pub has_one_name-returns-in-None : goal.has_one_name-returns-in-None
has_one_name-returns-in-None z c =
    let there : child_of c.args.node.now.below 0 ≡ None = rw c.in-None.is at (sym c.child.ensures) in
    sym (one_name_none c.args.node.now.below there)
