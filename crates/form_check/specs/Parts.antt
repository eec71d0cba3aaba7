-- What two rules ask of some nodes.
use Rattle.std.specs.Prelude.{ℕ, suc, List, [], ◌++◌, Bool}
use Rattle.js_syntax.specs.declared.node_kind.NodeKind.{NodeKind as Kind}
use Rattle.js_syntax.specs.declared.kind.VariableKind.{VariableKind}
use Rattle.js_syntax.specs.Node.{Forest}
use Rattle.form_rules.specs.declared.rule.Break.{Break}
use Rattle.form_rules.specs.Break.{unless}
use Rattle.form_rules.specs.Context.{Context}
use Rattle.form_rules.specs.Rules.{each_breaks, places_of, counts_right, length_of, first_below, is_declarator_wrong, repeated_exports, exported_among, undeclared, declared_by, locals_among}

-- of a declaration of variables
abbrev pub declarator_breaks : (is_head : Bool) → VariableKind → (place : ℕ) → (below : Forest) → List Break
declarator_breaks is_head how place below =
    unless (counts_right is_head (length_of (first_below below))) place 11 ++ each_breaks 11 (places_of (is_declarator_wrong is_head how) (suc place) (first_below below))

-- of a program
abbrev pub export_breaks : Context → Kind → (place : ℕ) → (below : Forest) → List Break
export_breaks c k place below =
    each_breaks 7 (repeated_exports [] (exported_among (suc place) (first_below below))) ++ each_breaks 7 (undeclared (declared_by c k place below) (locals_among (suc place) (first_below below)))
