-- The small programs, by computing.
use Rattle.std.proofs.Common.{◌≡◌, inr, [], ◌∷◌, true, false, true≢false, Some, None, refl, sym}
use Rattle.js_syntax.specs.Class.{root, declared_name, binding_element, function_block}
use Rattle.js_syntax.specs.declared.node_kind.NodeKind.{NodeKind as Kind}
use Rattle.js_syntax.specs.declared.scalar.SourceType.{SourceType}
use Rattle.js_syntax.specs.declared.scalar.SourceType.TheVariants as source_type
use Rattle.js_syntax.specs.Node.{Tree, nothing, nowhere, below_of}
use Rattle.js_syntax.specs.Table.{a_program, a_binding_name, a_function_declaration, a_function_body}
use Rattle.form_rules.specs.Samples.{over, listed, a_module, a_script, a, function_a}
use Rattle.json_shape.specs.Shape.{one as one_of, list, these, Stand, Fits}
use Rattle.min_context.specs.Place.{Place}
use Rattle.scope_counts.specs.Edits.{here, under}
use Rattle.scope_counts.specs.Scopes.{unmarked}
use Rattle.steps.specs.Allowed.Rows.{before}
use Rattle.headline.specs.Clean.{Clean, an_unused_function}
use Rattle.headline.proofs.Renoted.{clean_as}
use Rattle.rules.specs.DeadCode.Knows.{Knows}
use Rattle.rules.specs.DeadCode.Quiet.{Exactly, IsQuiet, IsQuietAt}
use Rattle.rules.specs.DeadCode.Rules.{Facts, where_of, has_dead, emptied, stated}
use Rattle.rules.proofs.DeadCode.New.{new_known}
use Rattle.rules.proofs.DeadCode.Tried.{told_only}
use Rattle.rules.proofs.DeadCode.Walked.{quiet_nodes}
use Rattle.rules.specs.Imports.Quiet.{ImportsUsed}
use Rattle.rules.proofs.Imports.Walked.{imports_used}
use Rattle.rules.specs.Expressions.Uses.{spot_of}
use Rattle.rules.specs.Expressions.Known.{conditional_becomes, logical_becomes}
use Rattle.rules.specs.Expressions.Unused.{unused_becomes}
use Rattle.rules.specs.Expressions.Lists.{unused_list_becomes}
use Rattle.rules.specs.Expressions.Indirect.{indirect_becomes}
use Rattle.rules.specs.Expressions.OneSided.{one_sided_becomes}
use Rattle.rules.specs.Expressions.Sequences.{sequence_left}
use Rattle.rules.specs.Expressions.TwoSides.{two_sides_become}
use Rattle.rules.specs.Expressions.Objects.{object_left}
use Rattle.rules.specs.Expressions.Operations.{known_becomes}
use Rattle.rules.specs.Expressions.EmptyIfs.{test_left}
use Rattle.rules.specs.Expressions.EmptyAlternates.{is_last, alternate_left}
use Rattle.rules.specs.Expressions.Ifs.{if_becomes}
use Rattle.rules.specs.Expressions.Jumps.{list_reached}
use Rattle.rules.specs.Expressions.Untaken.{if_left}
use Rattle.rules.specs.Expressions.LeftNames.{if_named}
use Rattle.rules.specs.Expressions.Settled.{IsSettledAt, IsSettled}
use Rattle.rules.proofs.Expressions.Walked.{settled_nodes}
use Rattle.rules_clean.proofs.Cleaned.{clean}
use Rattle.rules_clean.specs.Samples.{a_function_of_a_script, a_function_of_a_module, known_of_the_script, taken_for_a_module, taken_for_exported}

-- ---- both fit the table of node types

function_parts : Stand (these (one_of declared_name ∷ list Kind.Parameters binding_element ∷ one_of function_block ∷ [])) (below_of (function_a [] []))
function_parts = ((a_binding_name, (a, tt), refl, tt, refl, tt), ((refl, tt), ((a_function_body, tt, refl, tt, refl, ((refl, tt), tt)), tt)))

fits : (source : SourceType) → Fits root (over (Kind.Program source) (listed Kind.Statements (function_a [] [] ∷ [])))
fits source = ((a_program, (source, tt), refl, tt, refl, ((refl, (inr (refl, (a_function_declaration, (false, tt), refl, tt, refl, function_parts)), tt)), tt)), tt)

still : {f : Facts} {p : Place} {x : Tree} → has_dead f (where_of p) x.below ≡ false → emptied f p x ≡ None → stated f p x ≡ None → IsQuietAt f p x
still stays statement declaration = record { list = λ is. stays; statement = statement; declaration = declaration }

settles : {p : Place} {x : Tree} → conditional_becomes (spot_of p) x.kind x.below ≡ None → logical_becomes (spot_of p) x.kind x.below ≡ None → unused_becomes (spot_of p) x.kind x.below ≡ None
    → unused_list_becomes (spot_of p) x.note x.kind x.below ≡ None → indirect_becomes (spot_of p) x.note x.kind x.below ≡ None
    → one_sided_becomes (spot_of p) x.note x.kind x.below ≡ None → sequence_left (spot_of p) x.note x.kind x.below ≡ None
    → two_sides_become (spot_of p) x.note x.kind x.below ≡ None → object_left (spot_of p) x.note x.kind x.below ≡ None → known_becomes x.note x.kind x.below ≡ None → if_becomes x.note x.kind x.below ≡ None
    → test_left x.note x.kind x.below ≡ None → alternate_left (is_last p) x.note x.kind x.below ≡ None → list_reached x.note x.kind x.below ≡ None → if_left x.note x.kind x.below ≡ None → if_named x.note x.kind x.below ≡ None → IsSettledAt p x
settles conditional logical unused parts indirect side rest sides values known statement test alternate jumps untaken names = record { conditional = conditional; logical = logical; unused = unused; list = parts; indirect = indirect; one_sided = side; sequence = rest; two_sides = sides; object = values; known = known; statement = statement; test = test; alternate = alternate; jumps = jumps; untaken = untaken; names = names }

-- ---- a function of a script

script_is_known : Knows known_of_the_script unmarked a_function_of_a_script
script_is_known = new_known (a_script (function_a [] [] ∷ [])) (fits source_type.Script) [] [] false false (λ id. refl) (λ e stands outermost. absurd stands)

script_is_known_exactly : Exactly known_of_the_script a_function_of_a_script
script_is_known_exactly = record { flags = told_only known_of_the_script.scoping a_function_of_a_script refl; exported = λ symbol e. absurd (true≢false (sym e)) }

-- nothing goes of a program, its list and a function, with its name, its parameters and its body
script_is_quiet : IsQuiet known_of_the_script a_function_of_a_script
script_is_quiet =
    quiet_nodes known_of_the_script a_function_of_a_script
    (still refl refl refl, (still refl refl refl, (still refl refl refl, (still refl refl refl, tt, (still refl refl refl, tt, (still refl refl refl, (still refl refl refl, tt, tt), tt))), tt), tt), tt)

script_uses_imports : ImportsUsed known_of_the_script a_function_of_a_script
script_uses_imports = imports_used known_of_the_script a_function_of_a_script ((refl, refl, refl, refl), ((refl, refl, refl, refl), ((refl, refl, refl, refl), ((refl, refl, refl, refl), tt, ((refl, refl, refl, refl), tt, ((refl, refl, refl, refl), ((refl, refl, refl, refl), tt, tt), tt))), tt), tt), tt)

script_is_settled : IsSettled a_function_of_a_script
script_is_settled =
    settled_nodes a_function_of_a_script
    (settles refl refl refl refl refl refl refl refl refl refl refl refl refl refl refl refl, (settles refl refl refl refl refl refl refl refl refl refl refl refl refl refl refl refl, (settles refl refl refl refl refl refl refl refl refl refl refl refl refl refl refl refl, (settles refl refl refl refl refl refl refl refl refl refl refl refl refl refl refl refl, tt, (settles refl refl refl refl refl refl refl refl refl refl refl refl refl refl refl refl, tt, (settles refl refl refl refl refl refl refl refl refl refl refl refl refl refl refl refl, (settles refl refl refl refl refl refl refl refl refl refl refl refl refl refl refl refl, tt, tt), tt))), tt), tt), tt)

pub script_is_clean : Clean a_function_of_a_script
script_is_clean = clean known_of_the_script a_function_of_a_script script_is_known script_is_known_exactly script_is_quiet script_uses_imports script_is_settled

pub script_is_not_quiet : IsQuiet taken_for_a_module a_function_of_a_script → ⊥
script_is_not_quiet q = true≢false (q.lists (under (Kind.Program source_type.Script) (record { span = nowhere.span; id = Some 0 }) here nothing) nowhere _ nothing refl)

-- ---- a function of a module

pub module_is_known : Knows taken_for_exported unmarked a_function_of_a_module
module_is_known = new_known (a_module (function_a [] [] ∷ [])) (fits source_type.Module) [] (true ∷ []) false false (λ id. refl) (λ e stands outermost. absurd stands)

pub module_is_quiet : IsQuiet taken_for_exported a_function_of_a_module
module_is_quiet =
    quiet_nodes taken_for_exported a_function_of_a_module
    -- the program, its list and the function, with its name, its parameters and its body
    (still refl refl refl, (still refl refl refl, (still refl refl refl, (still refl refl refl, tt, (still refl refl refl, tt, (still refl refl refl, (still refl refl refl, tt, tt), tt))), tt), tt), tt)

pub module_is_dead : Clean a_function_of_a_module → ⊥
module_is_dead clean =
    (clean_as false false a_function_of_a_module (a_module (function_a [] [] ∷ [])) refl clean).nothing_is_dead (before []) _ refl
    (an_unused_function (before []) false nowhere nowhere a _ refl refl refl (record { unreferred = λ r h e. h; unexported = λ e h s d. h }))
