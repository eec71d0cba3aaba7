-- Whether the rules leave a program as it is, by the table that is made of it.
use Rattle.std.specs.Prelude.{Bool, true, false, not, ◌&&◌, is_some}
use Rattle.js_syntax.specs.declared.node_kind.NodeKind.{NodeKind as Kind}
use Rattle.js_syntax.specs.declared.node_kind.NodeKind.TheVariants.{Statements as statements}
use Rattle.js_syntax.specs.Node.{Forest, Note, nothing, node, absent}
use Rattle.js_scoping.specs.Build.{table_of, numbered}
use Rattle.steps.specs.Allowed.Exposure.{is_script}
use Rattle.min_context.specs.Above.{above_of}
use Rattle.min_context.specs.Place.{Place, Spot, place_of, next_of, below, top, goes_on}
use Rattle.exported_names.specs.Answers.{bound_of}
use Rattle.exported_names.specs.Exported.{exported_of}
use Rattle.rules.specs.DeadCode.Rules.{Facts, where_of, has_dead, becomes_empty, becomes_stated}
use Rattle.rules.specs.Imports.Merged.{come_together}
use Rattle.rules.specs.Imports.Passed.{pass_on}
use Rattle.rules.specs.Imports.Repeated.{list_once}
use Rattle.rules.specs.Imports.Rules.{pruned}
use Rattle.rules.specs.Expressions.Uses.{spot_of}
use Rattle.rules.specs.Expressions.Known.{conditional_becomes, logical_becomes}
use Rattle.rules.specs.Expressions.Unused.{unused_becomes}
use Rattle.rules.specs.Expressions.Lists.{unused_list_becomes}
use Rattle.rules.specs.Expressions.Indirect.{indirect_becomes}
use Rattle.rules.specs.Expressions.OneSided.{one_sided_becomes}
use Rattle.rules.specs.Expressions.Sequences.{sequence_left}
use Rattle.rules.specs.Expressions.TwoSides.{two_sides_become}
use Rattle.rules.specs.Expressions.Objects.{object_left}
use Rattle.rules.specs.Expressions.Operations.{known_becomes}
use Rattle.rules.specs.Expressions.EmptyIfs.{test_left}
use Rattle.rules.specs.Expressions.EmptyAlternates.{is_last, alternate_left}
use Rattle.rules.specs.Expressions.Ifs.{if_becomes}
use Rattle.rules.specs.Expressions.Jumps.{list_reached}
use Rattle.rules.specs.Expressions.Untaken.{if_left}
use Rattle.rules.specs.Expressions.LeftNames.{if_named}

-- what the first pass knows, where nothing is kept
abbrev pub first_facts : Forest → Facts
first_facts t = record { scoping = table_of t; bound = bound_of (table_of t); exported = exported_of (table_of t) (numbered t); is_script = is_script (numbered t); keeps_unused = false; keeps_imports = false }

abbrev pub is_row : Kind → Bool
is_row statements = true
is_row k = false

-- an expression at a place isn't decided by what is known
abbrev pub decides_none : Place → Note → Kind → (inner : Forest) → Bool
decides_none p n k inner = not (is_some (conditional_becomes (spot_of p) k inner)) && (not (is_some (logical_becomes (spot_of p) k inner)) && not (is_some (indirect_becomes (spot_of p) n k inner)))

-- and, where nobody takes its value, is no operation, no list and no conditional that comes to what of it acts
abbrev pub wastes_none : Place → Note → Kind → (inner : Forest) → Bool
wastes_none p n k inner = not (is_some (unused_becomes (spot_of p) k inner)) && (not (is_some (unused_list_becomes (spot_of p) n k inner)) && not (is_some (one_sided_becomes (spot_of p) n k inner)))

-- and is no sequence that comes to what counts of it, nor, where nobody takes its value, an operation or an object literal that comes
-- to its sides or its values
abbrev pub keeps_parts : Place → Note → Kind → (inner : Forest) → Bool
keeps_parts p n k inner = not (is_some (sequence_left (spot_of p) n k inner)) && (not (is_some (two_sides_become (spot_of p) n k inner)) && not (is_some (object_left (spot_of p) n k inner)))

-- and is no operation that comes to its value, nor an `if` that comes to a branch or its test, becomes empty or loses its alternate, and has
-- nothing that never runs
abbrev pub computes_none : Place → Note → Kind → (inner : Forest) → Bool
computes_none p n k inner =
    not (is_some (known_becomes n k inner))
    && (not (is_some (if_becomes n k inner)) && (not (is_some (test_left n k inner)) && (not (is_some (alternate_left (is_last p) n k inner)) && (not (is_some (list_reached n k inner)) && (not (is_some (if_left n k inner)) && not (is_some (if_named n k inner)))))))

-- and is no import that a name leaves, no list that an import leaves, and no program whose imports come together or become exports from their modules
abbrev pub uses_names : Facts → Place → Note → Kind → (inner : Forest) → Bool
uses_names f p n k inner = not (is_some (pruned f (where_of p) (record { kind = k; note = n; below = inner }))) && (not (is_some (list_once n k inner)) && (not (is_some (come_together f p (record { kind = k; note = n; below = inner }))) && not (is_some (pass_on f p (record { kind = k; note = n; below = inner })))))

-- a node at a place: no item of a list goes, no statement becomes empty, no declaration becomes a statement of its value, no name leaves an import, and no expression comes to its parts or its value
abbrev pub stays : Facts → Place → Note → Kind → (inner : Forest) → Bool
stays f p n k inner =
    not (is_row k && has_dead f (where_of p) inner)
    && (not (becomes_empty f p k inner) && (not (becomes_stated f p k inner) && (uses_names f p n k inner && (decides_none p n k inner && (wastes_none p n k inner && (keeps_parts p n k inner && computes_none p n k inner))))))

-- each node of a row, by its place
abbrev pub all_stay : Facts → Spot → Forest → Bool
all_stay f s nothing = true
all_stay f s (absent rest) = all_stay f (next_of s false) rest
all_stay f s (node k n inner rest) = stays f (place_of s (goes_on rest)) n k inner && (all_stay f (below (place_of s (goes_on rest)) (above_of k n)) inner && all_stay f (next_of s true) rest)

abbrev pub is_quiet : Forest → Bool
is_quiet t = all_stay (first_facts t) top (numbered t)
