-- A `try` around nothing becomes its finalizer, or its block where it has none, if its handler declares no name around it: the block
-- completes normally, so that the handler never runs, and what the finalizer comes to counts (ECMA-262 14.15.3).
use Rattle.std.specs.Prelude.{◌≡◌, Bool, true, false, ◌&&◌}
use Rattle.js_syntax.specs.declared.node_kind.NodeKind.{NodeKind as Kind}
use Rattle.js_syntax.specs.declared.node_kind.NodeKind.TheVariants.{Statements as statements, BlockStatement as block_statement, IfStatement as if_statement, LabeledStatement as labeled_statement, WhileStatement as while_statement, DoWhileStatement as do_while_statement, ForStatement as for_statement, ForInStatement as for_in_statement, ForOfStatement as for_of_statement, TryStatement as try_statement}
use Rattle.js_syntax.specs.Node.{Forest, Tree, Note, nothing, node, absent}
use Rattle.steps.specs.Allowed.Branches.{declares_none}
use Rattle.steps.specs.Allowed.EmptyBlock.{idles}

-- Whether labels around a row reach no loop in it, through blocks, `if` and further labels, as a `try` keeps them from its finalizer.
abbrev pub has_no_loop_at : Kind → (below : Bool) → Bool
has_no_loop_at while_statement below = false
has_no_loop_at do_while_statement below = false
has_no_loop_at for_statement below = false
has_no_loop_at for_in_statement below = false
has_no_loop_at for_of_statement below = false
has_no_loop_at statements below = below
has_no_loop_at block_statement below = below
has_no_loop_at if_statement below = below
has_no_loop_at (labeled_statement label) below = below
has_no_loop_at k below = true

abbrev pub has_no_loop : Forest → Bool
has_no_loop nothing = true
has_no_loop (absent rest) = has_no_loop rest
has_no_loop (node k n below rest) = has_no_loop_at k (has_no_loop below) && has_no_loop rest

abbrev pub a_try : (n i : Note) (block rest : Forest) → Tree
a_try n i block rest = record { kind = try_statement; note = n; below = node block_statement i block rest }

pub data IdleTry : (x y : Tree) → Type 0 where
  finalizer_is_run : (n i j : Note) (block finalizer : Forest) → idles block ≡ true → has_no_loop finalizer ≡ true
      → IdleTry (a_try n i block (absent (node block_statement j finalizer nothing))) (record { kind = block_statement; note = j; below = finalizer })
  finalizer_is_run_alone : (n i h j : Note) (k : Kind) (block handler finalizer : Forest) → idles block ≡ true → declares_none (node k h handler nothing) ≡ true → has_no_loop finalizer ≡ true
      → IdleTry (a_try n i block (node k h handler (node block_statement j finalizer nothing))) (record { kind = block_statement; note = j; below = finalizer })
  block_is_run : (n i h : Note) (k : Kind) (block handler : Forest) → idles block ≡ true → declares_none (node k h handler nothing) ≡ true
      → IdleTry (a_try n i block (node k h handler (absent nothing))) (record { kind = block_statement; note = i; below = block })
