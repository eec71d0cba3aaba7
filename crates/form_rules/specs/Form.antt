-- When a program breaks no rule of form, and else where it does first.
use Rattle.std.specs.Prelude.{◌≡◌, ℕ, suc, ◌+◌, List, [], ◌++◌, Option, None}
use Rattle.js_tree.specs.Count.{one_each, node_count}
use Rattle.js_syntax.specs.declared.node_kind.NodeKind.TheVariants.{Program as program}
use Rattle.js_syntax.specs.declared.scalar.SourceType.{SourceType}
use Rattle.js_syntax.specs.declared.scalar.SourceType.TheVariants as source_type
use Rattle.js_syntax.specs.Node.{Forest, nothing, node, absent}
use Rattle.form_rules.specs.declared.rule.Break.{Break}
use Rattle.form_rules.specs.Break.{least}
use Rattle.form_rules.specs.Context.{Context, inside, outermost}
use Rattle.form_rules.specs.Rules.{broken_at}

-- A row of nodes, the first of which is the child at a place among those below its parent: `context` gives each child's context.
abbrev pub broken_in : (context : ℕ → Context) → (at place : ℕ) → Forest → List Break
broken_in context at place nothing = []
broken_in context at place (absent rest) = broken_in context (suc at) place rest
broken_in context at place (node k n below rest) =
    broken_at (context at) k place below ++ broken_in (inside (context at) k below) 0 (place + one_each k) below ++ broken_in context (suc at) (place + node_count (node k n below nothing)) rest

abbrev pub source_of : Forest → SourceType
source_of (node (program source) n below rest) = source
source_of t = source_type.Script

abbrev pub broken : Forest → List Break
broken t = broken_in (λ at. outermost (source_of t)) 0 0 t

-- the first break, by place and then by rule
abbrev pub first_broken : Forest → Option Break
first_broken t = least (broken t)

abbrev pub IsWellFormed : Forest → Type 0
IsWellFormed t = first_broken t ≡ None
