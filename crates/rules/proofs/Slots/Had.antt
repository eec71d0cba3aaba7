-- Both together.
use Rattle.std.proofs.Common.{◌∙◌, ap}
use Rattle.js_syntax.specs.Class.{root}
use Rattle.js_syntax.specs.Node.{Forest, Tree}
use Rattle.json_shape.specs.Shape.{Fits}
use Rattle.min_context.specs.Place.{Place, top}
use Rattle.min_traverse.specs.Slot.{outer_slot}
use Rattle.min_traverse.specs.Visits.{above_place}
use Rattle.rules.specs.DeadCode.Quiet.{EachNode}
use Rattle.rules.proofs.DeadCode.Walked.{each_both}
use Rattle.rules.specs.Slots.Had.{HasSlots, is_always_expression}
use Rattle.rules.proofs.Slots.Missed.{IsSeen, unmissed}
use Rattle.rules.proofs.Slots.Statements as statement
use Rattle.rules.proofs.Slots.Statements.{slot_of_list, slot_of_statement, watched, statements_seen}
use Rattle.rules.proofs.Slots.Expressions as expression
use Rattle.rules.proofs.Slots.Expressions.{slot_of_expression, expressions_seen}

has_slots : (p : Place) (x : Tree) → IsSeen statement.is_missed statement.is_watched p x → IsSeen expression.is_missed is_always_expression p x → HasSlots p x
has_slots p x s e = record {
  list = λ is.
      ap (λ k. outer_slot (above_place p) k) is ∙ slot_of_list (above_place p) (unmissed (statement.is_missed (above_place p)) (statement.is_watched x.kind) s (ap statement.is_watched is));
  statement = λ is.
      slot_of_statement (above_place p) x.kind is (unmissed (statement.is_missed (above_place p)) (statement.is_watched x.kind) s (watched x.kind is));
  expression = λ is. slot_of_expression (above_place p) x.kind (unmissed (expression.is_missed (above_place p)) (is_always_expression x.kind) e is) is;
}

pub slots_had : (t : Forest) → Fits root t → EachNode HasSlots top t
slots_had t fits = each_both has_slots top t (statements_seen t fits) (expressions_seen t fits)
