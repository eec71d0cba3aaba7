-- How many nodes a tree has, and how many levels.
use Rattle.std.specs.Prelude.{ℕ, suc, ◌+◌, max, ◌==◌, if◌then◌else◌}
use Rattle.js_syntax.specs.declared.node_kind.NodeKind.{NodeKind as Kind}
use Rattle.js_syntax.specs.declared.node_kind.NodeKind.TheVariants.{Class as class, Statements as statements, Cases as cases, Declarators as declarators, Parameters as parameters, Members as members, Elements as elements, Properties as properties, Expressions as expressions, Arguments as arguments, Quasis as quasis, Specifiers as specifiers}
use Rattle.js_syntax.specs.Node.{Forest, nothing, node, absent, total}

-- a list of nodes is a field, and no node of its own
abbrev pub one_each : Kind → ℕ
one_each statements = 0
one_each cases = 0
one_each declarators = 0
one_each parameters = 0
one_each members = 0
one_each elements = 0
one_each properties = 0
one_each expressions = 0
one_each arguments = 0
one_each quasis = 0
one_each specifiers = 0
one_each k = 1

abbrev pub node_count : Forest → ℕ
node_count t = total one_each t

-- how much lower than the others a child stands by its place: what a class extends is the second of its children
abbrev pub lower : Kind → (at : ℕ) → ℕ
lower (class how) at = if at == 1 then 1 else 0
lower k at = 0

-- The levels of a row of nodes, the first of which is the child at a place: each stands one level below its parent, and
-- `more` lower by its place.
abbrev pub levels_at : (more : ℕ → ℕ) (at : ℕ) → Forest → ℕ
levels_at more at nothing = 0
levels_at more at (node k n below rest) = max (more at + one_each k + levels_at (lower k) 0 below) (levels_at more (suc at) rest)
levels_at more at (absent rest) = levels_at more (suc at) rest

abbrev pub levels : Forest → ℕ
levels t = levels_at (λ _. 0) 0 t
