-- A statement in a branch of an `if` that isn't taken leaves its list, where it declares no name around it: it never runs (ECMA-262 14.6.2).
use Rattle.std.specs.Prelude.{◌≡◌, Bool, true, false, not, ◌&&◌, ◌||◌, Option, Some, None}
use Rattle.js_syntax.specs.declared.node_kind.NodeKind.{NodeKind as Kind}
use Rattle.js_syntax.specs.declared.node_kind.NodeKind.TheVariants.{Statements as statements, BlockStatement as block_statement, IfStatement as if_statement, LabeledStatement as labeled_statement, WhileStatement as while_statement, DoWhileStatement as do_while_statement, ForStatement as for_statement, ForInStatement as for_in_statement, ForOfStatement as for_of_statement, WithStatement as with_statement, SwitchStatement as switch_statement, Cases as cases, SwitchCase as switch_case, TryStatement as try_statement, CatchClause as catch_clause}
use Rattle.js_syntax.specs.Node.{Forest, Tree, Note, alone, forest_of}
use Rattle.js_effects.specs.Answers.{bare_answers}
use Rattle.js_effects.specs.Values.{truth_of}
use Rattle.scope_laws.specs.Place.{Around, first, behind, behind_none, under}
use Rattle.steps.specs.Allowed.Branches.{declares_none}
use Rattle.steps.specs.Allowed.Places.{IsItem}
use Rattle.steps.specs.Allowed.Unreached.{only_runs}

-- What the test of an `if` is where a branch isn't taken, by the place of what lies in that: behind the test stands the consequent, and
-- behind that the alternate.
abbrev pub untaken_where : Around → Option Bool
untaken_where (under k n a rest) = Some false
untaken_where (behind k n b (under l i a rest)) = Some true
untaken_where a = None

-- Whether a value is true, where it is known by its form, which may act all the same: `x && false` is false, if it gives a value.
abbrev pub truth_given : Kind → Note → (below : Forest) → Option Bool
truth_given k n a = truth_of bare_answers (alone k n a)

-- whether it is known by its form to be that
abbrev pub is_known : (so truth : Option Bool) → Bool
is_known (Some true) (Some b) = b
is_known (Some false) (Some b) = not b
is_known so truth = false

-- whether the row below an `if` leads into a branch that isn't taken
abbrev pub leads_to_untaken : Around → Bool
leads_to_untaken (behind t m d a) = is_known (untaken_where a) (truth_given t m d)
leads_to_untaken a = false

abbrev pub begins_untaken : Kind → Around → Bool
begins_untaken if_statement a = leads_to_untaken a
begins_untaken k a = false

-- Statements, and what they hold that is run where they are: not so the code of a function, which may be called from elsewhere.
abbrev pub runs_inside : Kind → Bool
runs_inside statements = true
runs_inside block_statement = true
runs_inside if_statement = true
runs_inside (labeled_statement label) = true
runs_inside while_statement = true
runs_inside do_while_statement = true
runs_inside for_statement = true
runs_inside for_in_statement = true
runs_inside for_of_statement = true
runs_inside with_statement = true
runs_inside switch_statement = true
runs_inside cases = true
runs_inside switch_case = true
runs_inside try_statement = true
runs_inside catch_clause = true
runs_inside k = false

-- Whether a branch is around that isn't taken, or was around this part of the place, by the nodes that may stand between.
abbrev pub led_by : (passes : Kind → Bool) → (untaken : Bool) → Around → Bool
led_by passes untaken (first rest) = untaken
led_by passes untaken (behind k n below a) = led_by passes untaken a
led_by passes untaken (behind_none a) = led_by passes untaken a
led_by passes untaken (under k n a rest) = led_by passes (untaken && passes k || begins_untaken k a) a

abbrev pub is_untaken : (untaken : Bool) → Around → Bool
is_untaken untaken a = led_by runs_inside untaken a

pub data Untaken (a : Around) (x : Tree) : Type 0 where
  never_taken : IsItem a → is_untaken false a ≡ true → only_runs x.kind ≡ true → declares_none (forest_of x) ≡ true → Untaken a x
