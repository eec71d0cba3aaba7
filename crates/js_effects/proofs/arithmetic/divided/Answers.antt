use Rattle.std.proofs.Common.{◌≡◌, ◌∙◌, sym, refl, false, true, arith, to_z, of_z, to_z-of_z, w64}
use Rattle.std.specs.Int.{w128}
use Rattle.std.specs.Prelude.{int_rem}
use Rattle.js_effects.specs.Values.{is_zero}
use Rattle.js_effects.proofs.Quotients.{no_rest}
use Rattle.js_effects.proofs.arithmetic.divided.Goals as goal

pub returns : goal.returns
returns c =
    let a : to_z w64 (of_z w64 c.args.a) ≡ c.args.a = grind (arith, to_z-of_z) in
    let b : to_z w64 (of_z w64 c.args.b) ≡ c.args.b = grind (arith, to_z-of_z) in
    let rest : to_z w128 (of_z w128 c.rest.result) ≡ c.rest.result = grind (arith, to_z-of_z) in
    let quotient : to_z w128 (of_z w128 c.quotient.result) ≡ c.quotient.result = grind (arith, to_z-of_z) in
    let divisor : is_zero c.args.b ≡ false = rw b at (sym c.is_zero.ensures ∙ c.if-is_zero.false) in
    let none : is_zero (int_rem c.args.a c.args.b) ≡ true = rw (rest, c.rest.ensures, a, b) at (sym c.is_nothing.ensures ∙ c.if-not-is_nothing.false) in
    c.signed.ensures ∙ rw (quotient, c.is_negative.ensures, c.quotient.ensures, a, b) refl ∙ sym (no_rest c.args.a c.args.b divisor none)
