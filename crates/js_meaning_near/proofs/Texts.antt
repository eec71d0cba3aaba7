-- In a sum of which nobody takes the value a text may be another: what stands beside it is converted alike.
use Rattle.std.proofs.Common.{◌≡◌, ◌∙◌, refl, sym, ap, subst}
use Rattle.js_syntax.specs.declared.node_kind.NodeKind.{NodeKind as Kind}
use Rattle.js_syntax.specs.declared.operator.BinaryOperator.TheVariants as binary
use Rattle.js_syntax.specs.declared.value.LiteralValue.{LiteralValue as Literal}
use Rattle.js_syntax.specs.Node.{Note, Forest, nothing, node}
use Rattle.js_meaning.specs.Value.{Text, Env, undefined, null, boolean, number, text, host, other, Value, plain}
use Rattle.js_meaning.specs.State.{M, bind, done, stop, choose, give, with_value}
use Rattle.js_meaning.specs.Host.{Enter}
use Rattle.js_meaning.specs.Node.{now}
use Rattle.js_meaning.specs.Expression.{binary_value}
use Rattle.js_meaning.specs.Meaning.{eval}
use Rattle.js_meaning_near.specs.Wasted.{Wastes, wastes_part}
use Rattle.js_meaning_near.specs.Names.{Names}
use Rattle.js_meaning_near.specs.Near.{meaning, SameEffects}
use Rattle.js_meaning_near.specs.Examples.{sum, text_of}
use Rattle.js_meaning_near.proofs.Effects.{more_nothing}
use Rattle.js_meaning_near.proofs.Spared.{statement_is, binary_does, two_on}
use Rattle.js_meaning_near.proofs.Unused.{over, over_ends, stands}

-- ---- what is joined to a text, or a text to it, and then let go

left_alike : (E : Enter) (s t : Text) (u : Value) → with_value (binary_value E binary.Addition (plain (text s)) u) over ≡ with_value (binary_value E binary.Addition (plain (text t)) u) over
unfolding bind done stop over choose
left_alike E s t (plain undefined) = refl
left_alike E s t (plain null) = refl
left_alike E s t (plain (boolean b)) = refl
left_alike E s t (plain (number z)) = refl
left_alike E s t (plain (text r)) = refl
left_alike E s t (plain (host h callable)) = refl
left_alike E s t (plain (other i kind b)) = refl
left_alike E s t u = refl

right_alike : (E : Enter) (s t : Text) (v : Value) → with_value (binary_value E binary.Addition v (plain (text s))) over ≡ with_value (binary_value E binary.Addition v (plain (text t))) over
unfolding bind done stop over choose
right_alike E s t (plain undefined) = refl
right_alike E s t (plain null) = refl
right_alike E s t (plain (boolean b)) = refl
right_alike E s t (plain (number z)) = refl
right_alike E s t (plain (text r)) = refl
right_alike E s t (plain (host h callable)) = refl
right_alike E s t (plain (other i kind b)) = refl
right_alike E s t v = refl

given_on : (x : Value) (f : Value → M) → with_value (give x) f ≡ f x
unfolding bind done
given_on x f = λ i s. more_nothing (f x s) i

-- ---- the sum as a statement

module _ (E : Enter) (env : Env) (k : Kind) (j : Note) (b : Forest) where
  first_lets_go : (s : Text) (i : Note) (a : Forest) → with_value (meaning E (Kind.BinaryExpression binary.Addition) (text_of s i a (node k j b nothing)) now env) over
      ≡ with_value (meaning E k b now env) (λ u. with_value (binary_value E binary.Addition (plain (text s)) u) over)
  first_lets_go s i a =
      ap (λ m. with_value m over) (binary_does E binary.Addition (Kind.Literal (Literal.Text s)) k i j a b env)
      ∙ two_on (meaning E (Kind.Literal (Literal.Text s)) a now env) (meaning E k b now env) (binary_value E binary.Addition) over
      ∙ given_on (plain (text s)) (λ v. with_value (meaning E k b now env) (λ u. with_value (binary_value E binary.Addition v u) over))

  second_lets_go : (s : Text) (i : Note) (a : Forest) → with_value (meaning E (Kind.BinaryExpression binary.Addition) (node k j b (text_of s i a nothing)) now env) over
      ≡ with_value (meaning E k b now env) (λ v. with_value (binary_value E binary.Addition v (plain (text s))) over)
  second_lets_go s i a =
      ap (λ m. with_value m over) (binary_does E binary.Addition k (Kind.Literal (Literal.Text s)) j i b a env)
      ∙ two_on (meaning E k b now env) (meaning E (Kind.Literal (Literal.Text s)) a now env) (binary_value E binary.Addition) over
      ∙ ap (with_value (meaning E k b now env)) (λ i v. given_on (plain (text s)) (λ u. with_value (binary_value E binary.Addition v u) over) i)

  first_same : (s t : Text) (i h : Note) (a c : Forest) → with_value (meaning E (Kind.BinaryExpression binary.Addition) (text_of t h c (node k j b nothing)) now env) over
      ≡ with_value (meaning E (Kind.BinaryExpression binary.Addition) (text_of s i a (node k j b nothing)) now env) over
  first_same s t i h a c = first_lets_go t h c ∙ ap (with_value (meaning E k b now env)) (λ i u. left_alike E t s u i) ∙ sym (first_lets_go s i a)

  second_same : (s t : Text) (i h : Note) (a c : Forest) → with_value (meaning E (Kind.BinaryExpression binary.Addition) (node k j b (text_of t h c nothing)) now env) over
      ≡ with_value (meaning E (Kind.BinaryExpression binary.Addition) (node k j b (text_of s i a nothing)) now env) over
  second_same s t i h a c = second_lets_go t h c ∙ ap (with_value (meaning E k b now env)) (λ i v. right_alike E t s v i) ∙ sym (second_lets_go s i a)

-- what does as much as a sum where both are let go
wasted_alike : (st : Names) (old new : Forest) (n m : Note) → ((E : Enter) (env : Env) → with_value (meaning E (Kind.BinaryExpression binary.Addition) new now env) over ≡ with_value (meaning E (Kind.BinaryExpression binary.Addition) old now env) over)
    → SameEffects st (sum n old) Kind.ExpressionStatement (sum m new) (sum m new) (sum m new)
unfolding eval
wasted_alike st old new n m same = record {
  new_hoists = refl;
  wastes = λ E env b ls. subst (λ z. Wastes E st env z (eval E (sum m new))) (same E env ∙ statement_is E (Kind.BinaryExpression binary.Addition) n old ls env) (wastes_part (λ v. over_ends v));
  drops_all = λ E env ls. stands E env m ls (sum m new) tt;
}

pub first_text_wasted : (st : Names) (s t : Text) (k : Kind) (n m i h j : Note) (a b c : Forest)
    → SameEffects st (sum n (text_of s i a (node k j b nothing))) Kind.ExpressionStatement (sum m (text_of t h c (node k j b nothing))) (sum m (text_of t h c (node k j b nothing))) (sum m (text_of t h c (node k j b nothing)))
first_text_wasted st s t k n m i h j a b c = wasted_alike st (text_of s i a (node k j b nothing)) (text_of t h c (node k j b nothing)) n m (λ E env. first_same E env k j b s t i h a c)

pub second_text_wasted : (st : Names) (s t : Text) (k : Kind) (n m i h j : Note) (a b c : Forest)
    → SameEffects st (sum n (node k j b (text_of s i a nothing))) Kind.ExpressionStatement (sum m (node k j b (text_of t h c nothing))) (sum m (node k j b (text_of t h c nothing))) (sum m (node k j b (text_of t h c nothing)))
second_text_wasted st s t k n m i h j a b c = wasted_alike st (node k j b (text_of s i a nothing)) (node k j b (text_of t h c nothing)) n m (λ E env. second_same E env k j b s t i h a c)
