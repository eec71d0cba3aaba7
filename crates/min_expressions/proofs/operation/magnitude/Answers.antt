use Rattle.std.proofs.Common.{◌≡◌, ◌∙◌, Some, pos, ap, sym, subst, arith, true, to_z, of_z, to_z-of_z, FitsSigned, w64}
use Rattle.std.specs.Prelude.{◌-ℤ◌, int_lt}
use Rattle.min_expressions.proofs.Negative.{magnitude_fits, magnitude_is}
use Rattle.min_expressions.proofs.operation.magnitude.Goals as goal

pub overflow_sub-result : goal.overflow_sub-result
overflow_sub-result c =
    let same : to_z w64 (of_z w64 c.args.number) ≡ c.args.number = grind (arith, true, to_z-of_z) in
    subst (λ z. FitsSigned w64 (pos 0 -ℤ z)) (sym same) (magnitude_fits c.args.number (subst (λ z. int_lt z (pos 0) ≡ true) same c.if-number-lt0.true) c.requires)

pub returns-then-number-lt0 : goal.returns-then-number-lt0
returns-then-number-lt0 c =
    let same : to_z w64 (of_z w64 c.args.number) ≡ c.args.number = grind (arith, true, to_z-of_z) in
    let less = subst (λ z. int_lt z (pos 0) ≡ true) same c.if-number-lt0.true in
    let fits = magnitude_fits c.args.number less c.requires in
    ap (λ z. Some (to_z w64 (of_z w64 (pos 0 -ℤ z)))) same ∙ (ap Some (to_z-of_z fits) ∙ magnitude_is c.args.number less)
