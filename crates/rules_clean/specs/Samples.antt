-- A function that nothing refers to, and what is taken for known of it.
use Rattle.std.specs.Prelude.{[], ◌∷◌, true, false}
use Rattle.js_syntax.specs.Node.{Forest}
use Rattle.form_rules.specs.Samples.{a_module, a_script, function_a}
use Rattle.scope_counts.specs.Tried.{with_marks}
use Rattle.rules.specs.DeadCode.Rules.{Facts}
use Rattle.rules.specs.DeadCode.Samples.{facts_of}

-- function a() {}
abbrev pub a_function_of_a_script : Forest
a_function_of_a_script = with_marks (a_script (function_a [] [] ∷ []))

abbrev pub a_function_of_a_module : Forest
a_function_of_a_module = with_marks (a_module (function_a [] [] ∷ []))

-- what is so of the script
abbrev pub known_of_the_script : Facts
known_of_the_script = facts_of [] (a_script (function_a [] [] ∷ []))

-- that it is none
abbrev pub taken_for_a_module : Facts
taken_for_a_module = record known_of_the_script { is_script = false }

-- that the module exports the function
abbrev pub taken_for_exported : Facts
taken_for_exported = facts_of (true ∷ []) (a_module (function_a [] [] ∷ []))
