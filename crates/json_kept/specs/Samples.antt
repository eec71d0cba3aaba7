-- Small modules as JSON, and the trees that they are read as.
use Rattle.std.specs.Prelude.{ℕ, pos, negsuc, List, [], ◌∷◌, false, codes}
use Rattle.serde_json.specs.Data.{Data, string, array, object, Members, no_members, put, unsigned, negative}
use Rattle.serde_json.specs.Data as json
use Rattle.js_syntax.specs.declared.node_kind.NodeKind.{NodeKind as Kind}
use Rattle.js_syntax.specs.declared.operator.UnaryOperator.TheVariants as unary
use Rattle.js_syntax.specs.declared.scalar.SourceType.TheVariants as source_type
use Rattle.js_syntax.specs.declared.kind.PropertyKind.TheVariants as property_kind
use Rattle.js_syntax.specs.declared.value.LiteralValue.TheVariants as value
use Rattle.js_syntax.specs.declared.value.Key.{Key}
use Rattle.js_syntax.specs.Node.{Forest, nothing, node, absent, nowhere}
use Rattle.json_text.specs.Text.{items_of}

-- ---- JSON

abbrev pub fields : List (List ℕ × Data) → Members
fields [] = no_members
fields (f ∷ fs) = put f.0 f.1 (fields fs)

abbrev pub typed : List ℕ → List (List ℕ × Data) → Data
typed type fs = object (put (codes "type") (string type) (fields fs))

-- throw argument;
abbrev pub throws_data : (argument : Data) → Data
throws_data argument = typed (codes "Program") ((codes "sourceType", string (codes "module"))
    ∷ (codes "body", array (items_of (typed (codes "ThrowStatement") ((codes "argument", argument) ∷ []) ∷ []))) ∷ [])

abbrev pub number_data : json.Num → Data
number_data n = typed (codes "Literal") ((codes "value", json.number n) ∷ [])

-- an object literal with one property, whose key is an Identifier
abbrev pub object_data : (key : List ℕ) → Data
object_data key = typed (codes "ObjectExpression") ((
  codes "properties",
  array (items_of (typed (codes "Property") (
      (codes "kind", string (codes "init")) ∷ (codes "key", typed (codes "Identifier") ((codes "name", string key) ∷ [])) ∷ (codes "value", number_data (unsigned 1)) ∷ []) ∷ [])),
) ∷ [])

-- ---- trees

abbrev pub over : Kind → Forest → Forest
over k below = node k nowhere below nothing

abbrev pub throws : (argument : Forest) → Forest
throws argument = over (Kind.Program source_type.Module) (over Kind.Statements (over Kind.ThrowStatement argument))

abbrev pub four : Forest
four = over (Kind.Literal (value.Number (pos 4))) nothing

abbrev pub less_four : Forest
less_four = over (Kind.Literal (value.Number (negsuc 3))) nothing

abbrev pub minus_on_four : Forest
minus_on_four = over (Kind.UnaryExpression unary.UnaryNegation) four

abbrev pub an_object : Key → Forest
an_object key = over Kind.ObjectExpression (over Kind.Properties (over (Kind.Property property_kind.Init false key) (absent (over (Kind.Literal (value.Number (pos 1))) nothing))))
