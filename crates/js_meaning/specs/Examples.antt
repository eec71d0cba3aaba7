-- Programs with the runs that ECMA-262 gives them.
use Rattle.std.specs.Prelude.{◌≡◌, ℕ, true, false, List, [], ◌∷◌, None, codes}
use Rattle.js_syntax.specs.declared.node_kind.NodeKind.{NodeKind as Kind}
use Rattle.js_syntax.specs.Node.{Forest}
use Rattle.js_syntax.specs.declared.value.Key.TheVariants.{Name as key_name}
use Rattle.js_syntax.specs.declared.kind.VariableKind.TheVariants as variable
use Rattle.js_syntax.specs.declared.kind.FunctionKind.TheVariants as function_kind
use Rattle.js_syntax.specs.declared.kind.PropertyKind.TheVariants as property_kind
use Rattle.js_syntax.specs.declared.operator.BinaryOperator.TheVariants as binary
use Rattle.js_syntax.specs.declared.operator.UnaryOperator.TheVariants as unary
use Rattle.js_syntax.specs.declared.operator.UpdateOperator.TheVariants as update
use Rattle.js_meaning.specs.Value.{Text, undefined, text, host, given, plainly, first, Sort, Parts}
use Rattle.js_meaning.specs.Trace.{Act, ShownExport, ShownExports, Event, Move, answer, call_own, Script, Ending, ended, Run}
use Rattle.js_meaning.specs.Run.{run}
use Rattle.js_meaning.specs.Samples as sample

pub record Example : Type 0 where
  pub tree : Forest
  pub script : Script
  pub bound : ℕ
  pub run : Run

abbrev pub Holds : Example → Type 0
Holds e = run e.tree e.script e.bound ≡ e.run

-- with a host that answers undefined three times, and room for nine entries
abbrev pub plainly_run : List Forest → Run → Example
plainly_run items expected =
    record { tree = sample.a_module items; script = sample.with_moves (sample.fine ∷ sample.fine ∷ sample.fine ∷ []); bound = 9; run = expected }

abbrev pub g : Text
g = codes "g"

abbrev pub h : Text
h = codes "h"

abbrev pub i : Text
i = codes "i"

abbrev pub o : Text
o = codes "o"

abbrev pub says_name : Text → Forest
says_name x = sample.says (sample.name x ∷ [])

abbrev pub says_number : ℕ → Forest
says_number n = sample.says (sample.number_of n ∷ [])

abbrev pub said_number : ℕ → Event
said_number n = sample.said (sample.shown_number n ∷ [])

-- o.g(5): the property is read, then the host's object 9 is called with o as the receiver
abbrev pub member_moves : List Move
member_moves = answer (given (host 9 true)) ∷ sample.fine ∷ []

abbrev pub got_member : Event
got_member = sample.bare (Act.get (plainly (host 2 false)) (plainly (text g)))

abbrev pub member_call : Example
member_call = record {
  tree = sample.a_module (sample.does_it (sample.call (sample.member (sample.name o) g) (sample.number_of 5 ∷ [])) ∷ []);
  script = sample.with_moves member_moves;
  bound = 0;
  run = sample.over_with (got_member ∷ sample.bare (Act.call (plainly (host 9 true)) (plainly (host 2 false)) (sample.shown_number 5 ∷ [])) ∷ []);
}

-- (0, o.g)(5): no receiver
abbrev pub indirect_call : Example
indirect_call = record {
  tree = sample.a_module (sample.does_it (sample.call (sample.over Kind.ParenthesizedExpression (sample.over Kind.SequenceExpression (sample.listed Kind.Expressions (sample.number_of 0 ∷ sample.member (sample.name o) g ∷ [])))) (sample.number_of 5 ∷ [])) ∷ []);
  script = sample.with_moves member_moves;
  bound = 0;
  run = sample.over_with (got_member ∷ sample.bare (Act.call (plainly (host 9 true)) sample.nothing_shown (sample.shown_number 5 ∷ [])) ∷ []);
}

-- function g() { try { return 1; } finally { return 2; } } f(g());
abbrev pub returned : ℕ → Forest
returned n = sample.over Kind.ReturnStatement (sample.number_of n)

abbrev pub function_g : List Forest → Forest
function_g items = sample.function_of function_kind.Declaration (sample.leaf (Kind.BindingName g)) [] items

abbrev pub finally_wins : Example
finally_wins = plainly_run
    (function_g (sample.over Kind.TryStatement (sample.row (sample.block (returned 1 ∷ []) ∷ sample.left_out_here ∷ sample.block (returned 2 ∷ []) ∷ [])) ∷ [])
    ∷ sample.says (sample.call (sample.name g) [] ∷ []) ∷ [])
    (sample.over_with (said_number 2 ∷ []))

-- switch (n) { case 1: f(1); default: f(2); case 3: f(3); break; case 4: f(4); }
abbrev pub case_of : Forest → List Forest → Forest
case_of test items = sample.over Kind.SwitchCase (sample.row (test ∷ sample.listed Kind.Statements items ∷ []))

abbrev pub switched : ℕ → Forest
switched n = sample.over Kind.SwitchStatement (sample.row (sample.number_of n ∷ sample.listed Kind.Cases
    (case_of (sample.number_of 1) (says_number 1 ∷ [])
    ∷ case_of sample.left_out_here (says_number 2 ∷ [])
    ∷ case_of (sample.number_of 3) (says_number 3 ∷ sample.leaf (Kind.BreakStatement None) ∷ [])
    ∷ case_of (sample.number_of 4) (says_number 4 ∷ []) ∷ []) ∷ []))

abbrev pub default_in_the_middle : Example
default_in_the_middle = plainly_run (switched 9 ∷ []) (sample.over_with (said_number 2 ∷ said_number 3 ∷ []))

abbrev pub default_is_last : Example
default_is_last = plainly_run (switched 4 ∷ []) (sample.over_with (said_number 4 ∷ []))

-- let g = 0; for (let i = 0; i < 2; i++) if (i === 0) g = () => i; f(g());
abbrev pub cells_of_a_loop : Example
cells_of_a_loop = plainly_run
    (sample.declared variable.Let g (sample.number_of 0)
    ∷ sample.over Kind.ForStatement (sample.row (sample.declared variable.Let i (sample.number_of 0)
    ∷ sample.binary_of binary.LessThan (sample.name i) (sample.number_of 2)
    ∷ sample.over (Kind.UpdateExpression update.Increment false) (sample.leaf (Kind.TargetName i))
    ∷ sample.over Kind.IfStatement (sample.row (sample.binary_of binary.StrictEquality (sample.name i) (sample.number_of 0)
    ∷ sample.does_it (sample.assigned g (sample.over (Kind.Function function_kind.Arrow false) (sample.row (sample.left_out_here ∷ sample.leaf Kind.Parameters ∷ sample.name i ∷ []))))
    ∷ sample.left_out_here ∷ [])) ∷ []))
    ∷ sample.says (sample.call (sample.name g) [] ∷ []) ∷ [])
    (sample.over_with (said_number 0 ∷ []))

-- f(g); let g = 1;
abbrev pub read_too_early : Example
read_too_early = plainly_run (says_name g ∷ sample.declared variable.Let g (sample.number_of 1) ∷ []) (record { trace = []; ending = Ending.uncovered })

-- const g = 1; g = 2;
abbrev pub constant_written : Example
constant_written = plainly_run
    (sample.declared variable.Const g (sample.number_of 1) ∷ sample.does_it (sample.assigned g (sample.number_of 2)) ∷ [])
    (record { trace = sample.bare (Act.failed (first 0 Sort.a_type_error Parts.no_parts)) ∷ []; ending = ended sample.no_exports })

-- f(typeof g);
abbrev pub typeof_of_nothing : Example
typeof_of_nothing = plainly_run
    (sample.says (sample.over (Kind.UnaryExpression unary.Typeof) (sample.name g) ∷ []) ∷ [])
    (sample.over_with (sample.said (plainly (text (codes "undefined")) ∷ []) ∷ []))

-- function g() {} g(); with room for no entry
abbrev pub no_room : Example
no_room = record {
  tree = sample.a_module (function_g [] ∷ sample.does_it (sample.call (sample.name g) []) ∷ []);
  script = sample.with_moves [];
  bound = 0;
  run = record { trace = []; ending = Ending.out };
}

-- export let g = 1; f(); g = 2;
abbrev pub exporting : ShownExport → ShownExports
exporting e = record { names = e ∷ []; stars = [] }

abbrev pub exporting_number : ℕ → ShownExports
exporting_number n = exporting (ShownExport.exports_value g (sample.shown_number n))

abbrev pub exports_are_live : Example
exports_are_live = plainly_run
    (sample.over (Kind.ExportNamedDeclaration None) (sample.row (sample.declared variable.Let g (sample.number_of 1) ∷ sample.leaf Kind.Specifiers ∷ []))
    ∷ sample.says [] ∷ sample.does_it (sample.assigned g (sample.number_of 2)) ∷ [])
    (record {
      trace = record { act = Act.call (plainly (host 1 true)) sample.nothing_shown []; exports = exporting_number 1 } ∷ record { act = Act.finished; exports = exporting_number 2 } ∷ [];
      ending = ended (exporting_number 2);
    })

-- function g() { f(1); } f(g); and while f is called the host calls g
abbrev pub called_back : Example
called_back = record {
  tree = sample.a_module (function_g (says_number 1 ∷ []) ∷ says_name g ∷ []);
  script = sample.with_moves (call_own 0 (given undefined) [] ∷ sample.fine ∷ sample.fine ∷ []);
  bound = 1;
  run = sample.over_with (sample.said (first 0 Sort.a_function Parts.no_parts ∷ []) ∷ said_number 1 ∷ sample.bare (Act.returned sample.nothing_shown) ∷ []);
}

-- f({ g: 1, h: 2, g: 3 });
abbrev pub key_of : Text → ℕ → Forest
key_of x n = sample.over (Kind.Property property_kind.Init false (key_name x)) (sample.row (sample.left_out_here ∷ sample.number_of n ∷ []))

abbrev pub keys_once : Example
keys_once = plainly_run
    (sample.says (sample.over Kind.ObjectExpression (sample.listed Kind.Properties (key_of g 1 ∷ key_of h 2 ∷ key_of g 3 ∷ [])) ∷ []) ∷ [])
    (sample.over_with (sample.said (first 0 Sort.an_object (Parts.shows_at g (sample.shown_number 3) (Parts.shows_at h (sample.shown_number 2) Parts.no_parts)) ∷ []) ∷ []))
