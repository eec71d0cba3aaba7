-- Of two trees that differ in notes alone.
use Rattle.std.proofs.Common.{◌≡◌, ◌≤◌, ◌+◌, ◌∙◌, ℕ, [], ◌∷◌, refl, sym, subst, ap, ap₂}
use Rattle.serde_json.specs.Data.{Data, depth}
use Rattle.serde_json.specs.Read.{max_depth}
use Rattle.js_syntax.specs.Class.{root}
use Rattle.js_syntax.specs.declared.node_kind.NodeKind.{NodeKind as Kind}
use Rattle.js_syntax.specs.Node.{Forest, nothing, node, absent, bare, total}
use Rattle.json_text.specs.Text.{data_of}
use Rattle.json_shape.specs.Shape.{these, one, Stand}
use Rattle.json_shape.specs.Exact.{inexact}
use Rattle.json_shape.specs.Readable.{IsReadable}
use Rattle.json_shape.proofs.NotesWritten.{data_bare}
use Rattle.json_shape.proofs.Standing.{bare_stands, stands_bare}

total_bare : (weight : Kind → ℕ) (t : Forest) → total weight (bare t) ≡ total weight t
total_bare weight nothing = refl
total_bare weight (absent rest) = total_bare weight rest
total_bare weight (node k n below rest) = ap₂ (λ (a b : ℕ). weight k + a + b) (total_bare weight below) (total_bare weight rest)

pub same_data : (t u : Forest) → bare t ≡ bare u → data_of t ≡ data_of u
same_data t u same = sym (data_bare t) ∙ ap data_of same ∙ data_bare u

pub readable : (t u : Forest) → bare t ≡ bare u → IsReadable t → IsReadable u
readable t u same r = record {
  shape = stands_bare u (these (one root ∷ [])) (subst (Stand (these (one root ∷ []))) same (bare_stands t (these (one root ∷ [])) r.shape));
  values = sym (total_bare inexact u) ∙ sym (ap (total inexact) same) ∙ total_bare inexact t ∙ r.values;
  nesting = subst (λ (d : Data). depth d ≤ max_depth) (same_data t u same) r.nesting;
}
