-- What is said of a tree that is laid out, node by node.
use Rattle.std.proofs.Common.{◌≡◌, true, not, ◌&&◌, ◌||◌}
use Rattle.js_syntax.specs.declared.node_kind.NodeKind.{NodeKind as Kind}
use Rattle.js_syntax.specs.Node.{Note, Forest, node, absent}
use Rattle.form_rules.specs.Context.{has_use_strict}
use Rattle.json_shape.specs.Shape.{is_directive_kind}
use Rattle.steps.specs.KeepForm.Sheds.{Row, row_below}
use Rattle.steps.specs.KeepForm.Layout.{is_declarators, stands_right, is_laid_out}
use Rattle.js_syntax.proofs.Truth.{first_of_both, second_of_both}

pub laid_absent : (row : Row) (r : Forest) → is_laid_out row (absent r) ≡ true → is_laid_out row r ≡ true
laid_absent row r h = second_of_both (not (is_declarators row)) (is_laid_out row r) h

module _ (row : Row) (k : Kind) (n : Note) (a r : Forest) (h : is_laid_out row (node k n a r) ≡ true) where
  parts_of_it : (stands_right row k a && (is_laid_out (row_below row k) a && is_laid_out row r)) ≡ true
  parts_of_it = second_of_both (is_directive_kind k || not (has_use_strict r)) (stands_right row k a && (is_laid_out (row_below row k) a && is_laid_out row r)) h

  pub laid_order : (is_directive_kind k || not (has_use_strict r)) ≡ true
  laid_order = first_of_both (is_directive_kind k || not (has_use_strict r)) (stands_right row k a && (is_laid_out (row_below row k) a && is_laid_out row r)) h

  pub laid_right : stands_right row k a ≡ true
  laid_right = first_of_both (stands_right row k a) (is_laid_out (row_below row k) a && is_laid_out row r) parts_of_it

  pub laid_below : is_laid_out (row_below row k) a ≡ true
  laid_below = first_of_both (is_laid_out (row_below row k) a) (is_laid_out row r) (second_of_both (stands_right row k a) (is_laid_out (row_below row k) a && is_laid_out row r) parts_of_it)

  pub laid_behind : is_laid_out row r ≡ true
  laid_behind = second_of_both (is_laid_out (row_below row k) a) (is_laid_out row r) (second_of_both (stands_right row k a) (is_laid_out (row_below row k) a && is_laid_out row r) parts_of_it)
