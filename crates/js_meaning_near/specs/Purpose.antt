-- What an expression is evaluated for, at each place of a row.
use Rattle.std.specs.Prelude.{Bool, true, false}
use Rattle.js_syntax.specs.declared.node_kind.NodeKind.{NodeKind as Kind}
use Rattle.js_meaning.specs.Node.{Wanted, itself, to_call}
use Rattle.js_meaning.specs.Host.{Loop, while_loop, do_loop, for_loop}
use Rattle.js_meaning.specs.Expression.{wanted_by}

-- for its value, which is wanted for this; or for its effects alone, and nobody takes the value
pub data Purpose : Type 0 where
  for_value : Wanted → Purpose
  for_effect : Purpose

abbrev pub ForEffect : Purpose → Type 0
ForEffect for_effect = Unit {0}
ForEffect (for_value w) = ⊥

-- what an expression is asked for
abbrev pub asked : Purpose → Wanted
asked (for_value w) = w
asked for_effect = itself

-- The purposes of a row: all have one; the first has this one, and those behind it these; the last has this one, and
-- those before it are evaluated for their effects.
pub data Purposes : Type 0 where
  all : Purpose → Purposes
  first_then : Purpose → Purposes → Purposes
  last_for : Purpose → Purposes

-- of what stands in front, by whether anything follows it
abbrev pub purpose_here : Purposes → (more : Bool) → Purpose
purpose_here (all u) more = u
purpose_here (first_then u us) more = u
purpose_here (last_for u) true = for_effect
purpose_here (last_for u) false = u

abbrev pub purposes_behind : Purposes → Purposes
purposes_behind (all u) = all u
purposes_behind (first_then u us) = us
purposes_behind (last_for u) = last_for u

abbrev pub for_values : Purposes
for_values = all (for_value itself)

-- of an expression that gives the value of the whole, but as a value alone: no name, and no receiver (13.3.6.2)
abbrev pub handed_on : Purpose → Purpose
handed_on (for_value w) = for_value itself
handed_on for_effect = for_effect

-- below a loop: of the update of a `for` nobody takes the value (14.7.4.3)
abbrev pub loop_purposes : Loop → Purposes
loop_purposes while_loop = for_values
loop_purposes do_loop = for_values
loop_purposes for_loop = first_then (for_value itself) (first_then (for_value itself) (all for_effect))

-- Below a node, by its own purpose: nobody takes a statement's value (14.5.1), nor those before the last in a sequence
-- (13.16.1); a branch gives what the whole does (13.13.1, 13.14.1); a callee is called (13.3.6.1, 13.3.11.1), a
-- parenthesis stands for what lies in it (13.2.9.3), and `typeof` takes names that nothing declares (13.5.3.1). Of a list
-- of arguments no value is asked. Of operands of `delete`, which isn't core, this says nothing.
abbrev pub wanted_below : Purpose → Kind → Purposes
wanted_below u Kind.ExpressionStatement = all for_effect
wanted_below u Kind.ForStatement = loop_purposes for_loop
wanted_below u Kind.ParenthesizedExpression = all u
wanted_below u Kind.SequenceExpression = all (handed_on u)
wanted_below u Kind.Expressions = last_for (handed_on u)
wanted_below u Kind.ConditionalExpression = first_then (for_value itself) (all (handed_on u))
wanted_below u (Kind.LogicalExpression o) = first_then (for_value itself) (all (handed_on u))
wanted_below u (Kind.CallExpression optional pure) = all (for_value to_call)
wanted_below u Kind.TaggedTemplateExpression = all (for_value to_call)
wanted_below u (Kind.UnaryExpression o) = all (for_value (wanted_by o))
wanted_below u k = for_values
