-- Small programs on which it is tried of which statements a declaration of names is left.
use Rattle.std.specs.Prelude.{[], ◌∷◌}
use Rattle.js_syntax.specs.declared.node_kind.NodeKind.{NodeKind as Kind}
use Rattle.js_syntax.specs.declared.kind.VariableKind.TheVariants as variable
use Rattle.js_syntax.specs.Node.{Forest, Tree, node, joined}
use Rattle.js_meaning.specs.Value.{Text}
use Rattle.form_rules.specs.Samples.{over, listed, no, a, binds, one, declares}
use Rattle.scope_laws.specs.Place.{Around}
use Rattle.steps.specs.Allowed.KeptNames.{KeptNames}

-- var x, y;
abbrev pub vars : Text → Text → Forest
vars x y = over (Kind.VariableDeclaration variable.Var) (listed Kind.Declarators (over Kind.VariableDeclarator (joined (binds x) no) ∷ over Kind.VariableDeclarator (joined (binds y) no) ∷ []))

-- var [a] = 1;
abbrev pub pattern_of_a : Forest
pattern_of_a = declares variable.Var (over Kind.BindingArray (listed Kind.Elements (binds a ∷ []))) one

abbrev pub StaysWhole : Around → Forest → Type 0
StaysWhole place (node k n below rest) = (y : Tree) → KeptNames place (record { kind = k; note = n; below = below }) y → ⊥
StaysWhole place t = ⊥
