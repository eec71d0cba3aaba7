-- Contexts that tell names alike tell expressions alike.
use Rattle.std.proofs.Common.{◌≡◌, ◌∙◌, List, ◌∷◌, refl, ap, ap₂}
use Rattle.js_syntax.specs.declared.node_kind.NodeKind.{NodeKind as Kind}
use Rattle.js_syntax.specs.Node.{Forest, nothing, node, absent, Note}
use Rattle.js_effects.specs.declared.form.Form.{Form}
use Rattle.js_effects.specs.declared.form.Form.TheVariants as form
use Rattle.js_effects.specs.declared.value.ValueType.{ValueType}
use Rattle.js_effects.specs.declared.value.ValueType.TheVariants.{Undetermined}
use Rattle.js_effects.specs.Answers.{Answers}
use Rattle.js_effects.specs.Forms.{form_of}
use Rattle.js_effects.specs.Kinds.{type_of_name, type_by, type_from, types}

module _ (A B : Answers) (same : (k : Kind) (n : Note) → type_of_name A k n ≡ type_of_name B k n) where
  same_by : (f : Form) (k : Kind) (n : Note) (ts : List ValueType) → type_by A f k n ts ≡ type_by B f k n ts
  same_by form.Name k n ts = same k n
  same_by form.Literal k n ts = refl
  same_by form.Object k n ts = refl
  same_by form.New k n ts = refl
  same_by form.Template k n ts = refl
  same_by form.First k n ts = refl
  same_by form.Last k n ts = refl
  same_by form.Right k n ts = refl
  same_by form.Conditional k n ts = refl
  same_by (form.Logical o) k n ts = refl
  same_by (form.Unary o) k n ts = refl
  same_by (form.Binary o) k n ts = refl
  same_by form.Other k n ts = refl

  pub same_types : (t : Forest) → types A t ≡ types B t
  same_types nothing = refl
  same_types (absent r) = ap (λ ts. Undetermined ∷ ts) (same_types r)
  same_types (node k n a r) = ap₂ (λ t ts. t ∷ ts) (ap (type_from A k n a) (same_types a) ∙ same_by (form_of k) k n (types B a)) (same_types r)
