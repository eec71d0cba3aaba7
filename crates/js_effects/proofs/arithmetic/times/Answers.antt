use Rattle.std.proofs.Common.{◌≡◌, ◌∙◌, refl, arith, to_z, of_z, to_z-of_z, w64}
use Rattle.std.specs.Int.{w128}
use Rattle.js_effects.proofs.arithmetic.times.Goals as goal

pub returns : goal.returns
returns c =
    let product : to_z w128 (of_z w128 c.product.result) ≡ c.product.result = grind (arith, to_z-of_z) in
    let a : to_z w64 (of_z w64 c.args.a) ≡ c.args.a = grind (arith, to_z-of_z) in
    let b : to_z w64 (of_z w64 c.args.b) ≡ c.args.b = grind (arith, to_z-of_z) in
    c.signed.ensures ∙ rw (product, c.is_either_negative.ensures, c.product.ensures, a, b) refl
