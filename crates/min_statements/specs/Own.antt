-- What the walker asks of the whole program beside that the context is true, and what it leaves known.
use Rattle.std.specs.Prelude.{◌≡◌, ℕ, Bool, true, false, ◌||◌, Some, is_some}
use Rattle.js_syntax.specs.Node.{Forest, Tree}
use Rattle.min_context.specs.Place.{Place}
use Rattle.min_context.specs.Seen.{Seen}
use Rattle.min_options.specs.declared.options.CompressOptions.{CompressOptions}
use Rattle.min_traverse.specs.declared.slot.Hook.{Hook}
use Rattle.min_traverse.specs.declared.slot.Hook.TheVariants as hook
use Rattle.steps.specs.Allowed.Edits.{Edit}
use Rattle.steps.specs.Allowed.Exposure.{is_script, is_script_source}
use Rattle.steps.specs.Marked.Flags.{first_mark, FlagsTell}
use Rattle.scope_rules.specs.Table.{Scoping}
use Rattle.rules.specs.Told.Nesting.{ScopesNest}
use Rattle.rules.specs.Told.Parts.{CallsToldOnly, NamesToldOnly}
use Rattle.js_effects.specs.Silence.{is_marked}
use Rattle.rules.specs.DeadCode.Quiet.{IsExported}
use Rattle.rules.specs.DeadCode.Knows.{TellsBound, TellsExported}
use Rattle.rules.specs.DeadCode.Rules.{Facts, where_of, becomes_empty, becomes_stated}
use Rattle.rules.specs.Expressions.Known.{at_expression_end}
use Rattle.rules.specs.Expressions.EmptyAlternates.{is_last}
use Rattle.rules.specs.Expressions.LeftNames.{if_ends}
use Rattle.rules.specs.Imports.Merged.{come_together}
use Rattle.rules.specs.Imports.Passed.{pass_on}
use Rattle.rules.specs.Imports.Rules.{pruned}
use Rattle.min_statements.specs.Acts.{list_changes}
use Rattle.min_statements.specs.Walker.{Names, facts_of}

-- an edit of a program, by whatever options
abbrev pub AnyEdit : CompressOptions → Forest → Forest → Type 0
AnyEdit o t u = Edit t u

-- What the table tells only: its scopes stand in one another as the nodes do that make them, and their flags say that names are
-- exposed only where they are, but that a call of `eval` may have left which is noted (ECMA-262 19.2.1.1).
pub record IsToldOnly (s : Scoping) (eval_dropped : Bool) (t : Forest) : Type 0 where
  pub nested : ScopesNest s t
  pub names : NamesToldOnly s t
  pub calls : eval_dropped ≡ false → CallsToldOnly s t

-- no symbol is taken for exported that isn't
abbrev pub ExportedOnly : Names → Forest → Type 0
ExportedOnly names t = (symbol : ℕ) → is_marked names.exported (Some symbol) ≡ true → IsExported t symbol

pub record Own (names : Names) (c : Seen) (t : Forest) : Type 0 where
  pub flags : FlagsTell c.scoping t
  pub outermost : first_mark t ≡ Some 0
  pub bound : TellsBound c.scoping names.bound
  pub exported : TellsExported names.exported t
  pub script : is_script_source c.source_type ≡ is_script t
  pub only : IsToldOnly c.scoping c.eval_dropped t
  pub exported_only : ExportedOnly names t

-- ---- which hooks it has, and what they leave known where they ask for nothing

abbrev pub is_written : Hook → Bool
is_written hook.ExitStatements = true
is_written hook.ExitStatement = true
is_written hook.ExitExpression = true
is_written hook.ExitProgram = true
is_written h = false

-- a statement becomes empty, or one of its value, or comes to a branch of it or to its test, or loses an alternate or what goes of a branch, or names leave it
abbrev pub statement_changes : Facts → Place → Tree → Bool
statement_changes f p x = becomes_empty f p x.kind x.below || becomes_stated f p x.kind x.below || is_some (if_ends (is_last p) x.note x.kind x.below) || is_some (pruned f (where_of p) x)

-- imports of a program come together, or one that only feeds an export becomes one
abbrev pub program_changes : Facts → Place → Tree → Bool
program_changes f p x = is_some (come_together f p x) || is_some (pass_on f p x)

-- nothing changed, and of what the hook looks at nothing goes or becomes another
pub record Found (dead : Bool) (names : Names) (c : Seen) (later : Names) (d : Seen) : Type 0 where
  pub names_same : later ≡ names
  pub context_same : d ≡ c
  pub none : dead ≡ false

abbrev pub Visited : Hook → Names → Seen → Tree → Names → Seen → Type 0
Visited hook.ExitStatements names c x later d = Found (list_changes (facts_of names c) (where_of c.place) x.below) names c later d
Visited hook.ExitStatement names c x later d = Found (statement_changes (facts_of names c) c.place x) names c later d
Visited hook.ExitExpression names c x later d = Found (is_some (at_expression_end c x)) names c later d
Visited hook.ExitProgram names c x later d = Found (program_changes (facts_of names c) c.place x) names c later d
Visited h names c x later d = Unit {0}
