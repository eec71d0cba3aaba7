-- What a node with the nodes below it makes of its context, worked out once for all of them.
use Rattle.std.specs.Prelude.{ℕ, List, [], ◌∷◌, ◌++◌, Bool, false, ◌||◌}
use Rattle.js_syntax.specs.declared.node_kind.NodeKind.{NodeKind as Kind}
use Rattle.js_syntax.specs.declared.node_kind.NodeKind.TheVariants.{Program as program, Function as function, Class as class, LabeledStatement as labeled_statement}
use Rattle.js_syntax.specs.Node.{Forest, Tree}
use Rattle.form_rules.specs.Context.{Context, Label, is_module, is_strict_list, is_strict_function, privates_of, extends_another, is_loop}

pub record Frame : Type 0 where
  pub strict : Bool
  pub is_derived : Bool
  pub labels : List Label
  pub privates : List (List ℕ)

abbrev pub strict_in : Context → Kind → (below : Forest) → Bool
strict_in c (program source) below = is_module source || is_strict_list below
strict_in c (function how pure) below = c.strict || is_strict_function below
strict_in c k below = false

abbrev pub is_derived_in : Kind → (below : Forest) → Bool
is_derived_in (class how) below = extends_another below
is_derived_in k below = false

abbrev pub labels_in : Context → Kind → (below : Forest) → List Label
labels_in c (labeled_statement label) below = record { name = label; is_loop = is_loop below } ∷ c.leaves.labels
labels_in c k below = []

abbrev pub privates_in : Context → Kind → (below : Forest) → List (List ℕ)
privates_in c (class how) below = privates_of below ++ c.members.privates
privates_in c k below = []

abbrev pub frame_of : Context → Tree → Frame
frame_of c t = record { strict = strict_in c t.kind t.below; is_derived = is_derived_in t.kind t.below; labels = labels_in c t.kind t.below; privates = privates_in c t.kind t.below }
