use Rattle.std.proofs.Common.{◌≡◌, ◌≤◌, ◌+◌, ◌*◌, ◌++◌, length}
use Rattle.js_syntax.specs.Node.{row}
use Rattle.js_tree.specs.Weight.{size_of, tree_size}
use Rattle.js_meaning.specs.Scope.{lexical}
use Rattle.run_names.specs.Way.{decls_of}
use Rattle.run_names.proofs.declared.+lexical.Given as goal

abbrev pub decreases-lexical_of_node : goal.decreases-lexical_of_node
decreases-lexical_of_node l = 2 * tree_size l.node.now

abbrev pub decreases-lexical_of_row : goal.decreases-lexical_of_row
decreases-lexical_of_row l = 2 * size_of (row l.nodes.now) + 1

abbrev pub invariant-lexical_of_row-loop-rest : goal.invariant-lexical_of_row-loop-rest
invariant-lexical_of_row-loop-rest l =
    record {
      names : decls_of l.found.items ++ lexical (row l.rest) ≡ decls_of l.fn.found.items ++ lexical (row l.nodes);
      small : size_of (row l.rest) ≤ size_of (row l.nodes);
    }

abbrev pub decreases-lexical_of_row-loop-rest : goal.decreases-lexical_of_row-loop-rest
decreases-lexical_of_row-loop-rest l = length l.rest
