-- One more property of an object literal.
use Rattle.std.proofs.Common.{◌≡◌, List, [], ◌∷◌, ap, sym, ◌∙◌}
use Rattle.js_syntax.specs.declared.node_kind.NodeKind.{NodeKind as Kind}
use Rattle.js_syntax.specs.Node.{Forest, node, Tree}
use Rattle.js_meaning.specs.Value.{Content}
use Rattle.js_meaning.specs.Expression.{add_property, object_content}
use Rattle.run_value.specs.declared.value.Value.{Value}
use Rattle.run_value.specs.View.{value_of}
use Rattle.run_world.specs.World.{values_of}

pub adds_more : (t : Tree) (k : Kind) (r a : Forest) (u v : Value) (us vs : List Value) (c d : Content) → node t.kind t.note t.below r ≡ a → vs ≡ u ∷ us → value_of v ≡ value_of u → k ≡ t.kind → d ≡ add_property k (value_of v) c
    → object_content r (values_of us) d ≡ object_content a (values_of vs) c
adds_more t k r a u v us vs c d front is same kind added =
    ap (object_content r (values_of us)) (added ∙ ap (λ j. add_property j (value_of v) c) kind ∙ ap (λ x. add_property t.kind x c) same) ∙ (λ i. object_content (front i) (values_of (sym is i)) c)
