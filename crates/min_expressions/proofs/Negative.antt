-- Operations that give negative numbers.
use Rattle.std.proofs.Common.{◌≡◌, ◌∙◌, ◌+◌, ℕ, ℤ, suc, pos, Option, Some, None, true, true≢false, refl, sym, ap, arith, zero, negsuc, FitsSigned, w64}
use Rattle.std.specs.Prelude.{nat_le, nat_lt, int_lt, ◌-ℤ◌}
use Rattle.std.proofs.lemmas.Bool.{leb-true, ltb-true}
use Rattle.std.specs.Option.{option_map}
use Rattle.js_syntax.specs.declared.node_kind.NodeKind.{NodeKind as Kind}
use Rattle.js_syntax.specs.declared.node_kind.NodeKind.TheVariants.{Literal as literal, UnaryExpression as unary_expression, BinaryExpression as binary_expression}
use Rattle.js_syntax.specs.declared.operator.UnaryOperator.TheVariants.{UnaryNegation}
use Rattle.js_syntax.specs.declared.value.LiteralValue.TheVariants as value
use Rattle.js_syntax.specs.Node.{Forest, Tree, Note, nothing, alone}
use Rattle.js_effects.specs.declared.value.ConstantValue.TheVariants.{Number}
use Rattle.js_effects.specs.Answers.{bare_answers}
use Rattle.js_effects.specs.Values.{largest, value_of}
use Rattle.scope_laws.proofs.Bindings.{same_value}
use Rattle.steps.specs.Allowed.KnownOperation.{as_negative, gives_negative}
use Rattle.steps.proofs.Owed.KnownSizes.{unary_negative_small, binary_negative_small}
use Rattle.rules.specs.Expressions.Lists.{new_note}
use Rattle.rules.specs.Expressions.Operations.{minus_there}

-- what is known of an operation is exact
pub covered : (k : Kind) (n : Note) (below : Forest) → gives_negative k below ≡ true → (i : ℕ) → as_negative (value_of bare_answers (alone k n below)) ≡ Some i → nat_le (suc i) largest ≡ true
covered (unary_expression o) n below gives i is = unary_negative_small o _ _ i is
covered (binary_expression o) n below gives i is = binary_negative_small o _ _ _ _ i is
covered k n below gives i is = absurd (true≢false (sym gives))

-- so its magnitude is a number of 64 bits
abbrev IsCovered : ℤ → Type 0
IsCovered z = (n : ℕ) → as_negative (Some (Number z)) ≡ Some n → nat_le (suc n) largest ≡ true

none_below : (n : ℕ) → nat_lt n 0 ≡ true → ⊥
none_below n less = Prim.omega (arith, ltb-true n 0 less)

pub magnitude_fits : (z : ℤ) → int_lt z (pos 0) ≡ true → IsCovered z → FitsSigned w64 (pos 0 -ℤ z)
magnitude_fits (negsuc n) less exact =
    let most = leb-true (suc n) 9007199254740991 (exact n refl) in record { sfits = Prim.omega (arith, most) }
magnitude_fits (pos zero) less exact = absurd (true≢false (sym less))
magnitude_fits (pos (suc n)) less exact = absurd (none_below (suc n) less)

pub magnitude_is : (z : ℤ) → int_lt z (pos 0) ≡ true → Some (pos 0 -ℤ z) ≡ option_map (λ n. pos (suc n)) (as_negative (Some (Number z)))
magnitude_is (negsuc n) less =
    let sum : 0 + suc n ≡ suc n = Prim.omega arith in
    ap (λ (k : ℕ). Some (pos k)) sum
magnitude_is (pos zero) less = absurd (true≢false (sym less))
magnitude_is (pos (suc n)) less = absurd (none_below (suc n) less)

abbrev pub minus_on : Note → ℤ → Tree
minus_on n m = record { kind = unary_expression UnaryNegation; note = new_note n; below = alone (literal (value.Number m)) (new_note n) nothing }

pub some_there : (n : Note) (o : Option ℕ) (m : ℤ) (y : Tree) → option_map (λ i. pos (suc i)) o ≡ Some m → y ≡ minus_on n m → minus_there n o ≡ Some y
some_there n (Some i) m y is put = ap (λ z. Some (minus_on n z)) (same_value is) ∙ ap Some (sym put)
some_there n None m y is put = absurd Prim.cc

pub none_there : (n : Note) (o : Option ℕ) → option_map (λ i. pos (suc i)) o ≡ None → minus_there n o ≡ None
none_there n (Some i) is = absurd Prim.cc
none_there n None is = refl
