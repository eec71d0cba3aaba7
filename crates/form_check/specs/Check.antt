-- What the walk that tests the rules of form answers.
use Rattle.std.specs.Prelude.{◌≡◌, ℕ, ◌+◌, List, ◌++◌, Some}
use Rattle.js_syntax.specs.Node.{Forest, Tree}
use Rattle.js_tree.specs.Count.{one_each}
use Rattle.form_rules.specs.declared.rule.Break.{Break}
use Rattle.form_rules.specs.Break.{at_place}
use Rattle.form_rules.specs.Context.{Context, inside}
use Rattle.form_rules.specs.Rules.{broken_at}
use Rattle.form_rules.specs.Form.{broken_in, first_broken}
use Rattle.form_check.specs.declared.error.FormError.{FormError}
use Rattle.form_check.specs.declared.error.FormError.TheVariants.{IllFormed, OutOfMemory}

-- the breaks by a node and by all that lies below it
abbrev pub broken_below : Context → Tree → (place : ℕ) → List Break
broken_below c t place = broken_at c t.kind place t.below ++ broken_in (inside c t.kind t.below) 0 (place + one_each t.kind) t.below

-- the program has this fault: its first break is this one
abbrev pub IsFaultOf : FormError → Forest → Type 0
IsFaultOf (IllFormed rule place) t = first_broken t ≡ Some (at_place place rule)
IsFaultOf OutOfMemory t = Unit {0}
