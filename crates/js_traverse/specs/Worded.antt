-- The kinds of the nodes of references.
use Rattle.std.specs.Prelude.{ℕ, List}
use Rattle.js_syntax.specs.declared.node_kind.NodeKind.{NodeKind as Kind}
use Rattle.js_syntax.specs.declared.node_kind.NodeKind.TheVariants.{ReferenceName as reference_name, TargetName as target_name}
use Rattle.js_traverse.specs.declared.identifier.Word.{Word}
use Rattle.js_traverse.specs.declared.identifier.Word.TheVariants.{Reference as reference, Target as target}

abbrev pub worded : Word → List ℕ → Kind
worded reference name = reference_name name
worded target name = target_name name
