-- The rule, tried on small programs.
use Rattle.std.specs.Prelude.{List, [], ◌∷◌, Bool, true, Option, Some, None, codes}
use Rattle.js_syntax.specs.declared.node_kind.NodeKind.{NodeKind as Kind}
use Rattle.js_syntax.specs.declared.value.ModuleName.TheVariants.{Name as plain_name}
use Rattle.js_syntax.specs.Node.{Forest, Tree, nothing, node, forest_of, bare}
use Rattle.form_rules.specs.Samples.{over, row, listed, a, a_module, binds}
use Rattle.min_context.specs.Place.{outside}
use Rattle.scope_rules.specs.Samples.{b}
use Rattle.scope_counts.specs.Tried.{with_marks}
use Rattle.rules.specs.DeadCode.Rules.{Facts}
use Rattle.rules.specs.DeadCode.Samples.{facts_of, items_of, at_top}
use Rattle.rules.specs.Imports.Repeated.{each_once}
use Rattle.rules.specs.Imports.Merged.{together}
use Rattle.rules.specs.Imports.Passed.{all_passed, pass_on}
use Rattle.rules.specs.Imports.Rules.{pruned}

-- import a, { b } from 'm';
abbrev pub imports_both : Forest
imports_both = over (Kind.ImportDeclaration (codes "m")) (listed Kind.Specifiers (over Kind.ImportDefaultSpecifier (binds a) ∷ over (Kind.ImportSpecifier (plain_name b)) (binds b) ∷ []))

-- import {} from 'm';
abbrev pub imports_none : Forest
imports_none = over (Kind.ImportDeclaration (codes "m")) (listed Kind.Specifiers [])

abbrev pub or_as_it_was : Tree → Option Tree → Tree
or_as_it_was x None = x
or_as_it_was x (Some y) = y

-- what is left of the first of a row, at the top of a program
abbrev pub first_left : Facts → Forest → Forest
first_left f (node k n below rest) = let x : Tree = record { kind = k; note = n; below = below } in bare (forest_of (or_as_it_was x (pruned f at_top x)))
first_left f t = t

-- what the first of a row becomes, asked as a program
abbrev pub first_passed : Facts → Forest → Forest
first_passed f (node k n below rest) = let x : Tree = record { kind = k; note = n; below = below } in bare (forest_of (or_as_it_was x (pass_on f outside x)))
first_passed f t = t

-- of the import that a program begins with
abbrev pub left : (exported : List Bool) → Forest → Forest
left exported t = first_left (facts_of exported t) (items_of (with_marks t))

-- where such names are kept
abbrev pub left_kept : Forest → Forest
left_kept t = first_left (record (facts_of [] t) { keeps_imports = true }) (items_of (with_marks t))

-- what is left of a program's list by the rule on repeated imports, without notes
abbrev pub once : Forest → Forest
once t = bare (each_once [] (items_of t))

-- what is left of a list by the rule on imports of one module, without notes
abbrev pub come_of : List Forest → Forest
come_of items = bare (together nothing (row items))

-- what is left of a program's list by the rule on imports that are exported, by its own table and what is exported, without notes
abbrev pub passed_of : (exported : List Bool) → List Forest → Forest
passed_of exported items = let t = a_module items in bare (all_passed (facts_of exported t) nothing (items_of (with_marks t)))

-- and of a program, asked whole
abbrev pub passed_whole : List Forest → Forest
passed_whole items = let t = a_module items in first_passed (facts_of [] t) (with_marks t)
