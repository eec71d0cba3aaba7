-- What the operands of an expression do, where each of them is known.
use Rattle.std.proofs.Common.{◌≡◌, ◌∙◌, ap}
use Rattle.js_syntax.specs.Node.{Forest, Tree}
use Rattle.js_syntax.specs.declared.operator.BinaryOperator.{BinaryOperator}
use Rattle.js_syntax.specs.declared.operator.LogicalOperator.{LogicalOperator}
use Rattle.js_meaning.specs.Value.{Env, object, no_content}
use Rattle.js_meaning.specs.State.{M, give, identity, with_value, with_receiver, with_all}
use Rattle.js_meaning.specs.Node.{now}
use Rattle.js_meaning.specs.Host.{Enter}
use Rattle.js_meaning.specs.Expression.{binary_value, logical_value, object_content}
use Rattle.run_plan.specs.Frame.{meaning}

pub left_first : (E : Enter) (o : BinaryOperator) (l r s : Tree) (e env : Env) (m : M) → m ≡ meaning E l now e → e ≡ env → r ≡ s
    → with_receiver m (λ v this. with_value (meaning E r now env) (binary_value E o v)) ≡ with_value (meaning E l now env) (λ v. with_value (meaning E s now env) (binary_value E o v))
left_first E o l r s e env m does around right =
    λ i. with_receiver ((does ∙ ap (meaning E l now) around) i) (λ v this. with_value (meaning E (right i) now env) (binary_value E o v))

pub left_decides : (E : Enter) (o : LogicalOperator) (l r s : Tree) (e env : Env) (m : M) → m ≡ meaning E l now e → e ≡ env → r ≡ s
    → with_receiver m (λ v this. logical_value o v (meaning E r now env)) ≡ with_value (meaning E l now env) (λ v. logical_value o v (meaning E s now env))
left_decides E o l r s e env m does around right =
    λ i. with_receiver ((does ∙ ap (meaning E l now) around) i) (λ v this. logical_value o v (meaning E (right i) now env))

pub object_of : (a b : Forest) (m n : M) → m ≡ n → a ≡ b
    → with_all m (λ vs. identity (λ k. give (object k (object_content a vs no_content)))) ≡ with_all n (λ vs. identity (λ k. give (object k (object_content b vs no_content))))
object_of a b m n does below = λ i. with_all (does i) (λ vs. identity (λ k. give (object k (object_content (below i) vs no_content))))
