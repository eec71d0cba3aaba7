-- A tree has no more scopes, declarations and references than nodes.
use Rattle.std.proofs.Common.{◌≤◌, Bool, true, false, arith, if◌then◌else◌}
use Rattle.js_syntax.specs.declared.node_kind.NodeKind.{NodeKind as Kind}
use Rattle.js_syntax.specs.declared.node_kind.NodeKind.TheVariants.{Program as program, Function as function, Class as class, PropertyDefinition as property_definition, StaticBlock as static_block, BlockStatement as block_statement, WithStatement as with_statement, SwitchStatement as switch_statement, CatchClause as catch_clause, ForStatement as for_statement, ForInStatement as for_in_statement, ForOfStatement as for_of_statement, BindingName as binding_name, ReferenceName as reference_name, TargetName as target_name}
use Rattle.js_syntax.specs.Node.{Forest, nothing, node, absent, total}
use Rattle.js_tree.specs.Count.{one_each, node_count}
use Rattle.scope_rules.specs.Context.{has_second}
use Rattle.scope_rules.specs.Site.{opens_one, scope_count}
use Rattle.scope_rules.specs.Mark.{own_binding, own_reference}

at_most_one : (b : Bool) → (if b then 1 else 0) ≤ 1
at_most_one true = Prim.omega arith
at_most_one false = Prim.omega arith

one_opens : (k : Kind) (below : Forest) → opens_one k below ≤ one_each k
one_opens (program source) below = Prim.omega arith
one_opens (function how pure) below = Prim.omega arith
one_opens (class how) below = Prim.omega arith
one_opens static_block below = Prim.omega arith
one_opens block_statement below = Prim.omega arith
one_opens for_statement below = Prim.omega arith
one_opens for_in_statement below = Prim.omega arith
one_opens for_of_statement below = Prim.omega arith
one_opens switch_statement below = Prim.omega arith
one_opens catch_clause below = Prim.omega arith
one_opens with_statement below = Prim.omega arith
one_opens (property_definition is_static key) below = at_most_one (has_second below)
one_opens k below = Prim.omega arith

pub no_more_scopes : (t : Forest) → scope_count t ≤ node_count t
no_more_scopes nothing = Prim.omega arith
no_more_scopes (absent rest) = no_more_scopes rest
no_more_scopes (node k n below rest) = Prim.omega (arith, one_opens k below, no_more_scopes below, no_more_scopes rest)

one_reference : (k : Kind) → own_reference k ≤ one_each k
one_reference (reference_name x) = Prim.omega arith
one_reference (target_name x) = Prim.omega arith
one_reference k = Prim.omega arith

pub no_more_references : (t : Forest) → total own_reference t ≤ node_count t
no_more_references nothing = Prim.omega arith
no_more_references (absent rest) = no_more_references rest
no_more_references (node k n below rest) = Prim.omega (arith, one_reference k, no_more_references below, no_more_references rest)

one_binding : (k : Kind) → own_binding k ≤ one_each k
one_binding (binding_name x) = Prim.omega arith
one_binding k = Prim.omega arith

pub no_more_bindings : (t : Forest) → total own_binding t ≤ node_count t
no_more_bindings nothing = Prim.omega arith
no_more_bindings (absent rest) = no_more_bindings rest
no_more_bindings (node k n below rest) = Prim.omega (arith, one_binding k, no_more_bindings below, no_more_bindings rest)
