-- What the scope of a node seeks among its children.
use Rattle.js_syntax.specs.declared.node_kind.NodeKind.{NodeKind as Kind}
use Rattle.js_syntax.specs.declared.node_kind.NodeKind.TheVariants.{Program as program, BlockStatement as block_statement, Function as function, StaticBlock as static_block, ForStatement as for_statement, ForInStatement as for_in_statement, ForOfStatement as for_of_statement, Cases as cases, CatchClause as catch_clause}
use Rattle.form_rules.specs.declared.sought.Sort.TheVariants.{Lexical as lexical, Hoisted as hoisted}
use Rattle.form_rules.specs.declared.sought.Sought.{Sought}
use Rattle.form_rules.specs.declared.sought.Sought.TheVariants.{Nothing as none, Scope as scope, FunctionScope as function_scope, CatchScope as catch_scope}
use Rattle.form_rules.specs.Context.{Context}
use Rattle.form_rules.specs.Rules.{functions_in, at_top}

abbrev pub sought_by : Context → Kind → Sought
sought_by c (program source) = scope (at_top source)
sought_by c (function how pure) = function_scope
sought_by c static_block = scope hoisted
sought_by c block_statement = scope (functions_in c.strict)
sought_by c cases = scope (functions_in c.strict)
sought_by c for_statement = scope lexical
sought_by c for_in_statement = scope lexical
sought_by c for_of_statement = scope lexical
sought_by c catch_clause = catch_scope (functions_in c.strict)
sought_by c k = none
