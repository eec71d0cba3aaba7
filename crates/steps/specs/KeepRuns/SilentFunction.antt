-- Functions of which a call does nothing but give a value, as their text tells: parameters are names, and statements evaluate what is silent
-- where the function's own names are declared, for nothing, for a name of it, or to return it (ECMA-262 10.2.11, 14.3, 14.5, 14.10). No call
-- stands in one: so a call of it makes no other, and is one entry of a run.
use Rattle.std.specs.Prelude.{Bool, true, false, not, ◌&&◌, ◌||◌, List}
use Rattle.js_syntax.specs.declared.node_kind.NodeKind.{NodeKind as Kind}
use Rattle.js_syntax.specs.declared.kind.FunctionKind.TheVariants as function_kind
use Rattle.js_syntax.specs.Node.{Note, Forest, nothing, node, absent, alone}
use Rattle.js_meaning.specs.Value.{Text}
use Rattle.js_meaning.specs.Scope.{first_name, function_decls}
use Rattle.js_meaning.specs.Module.{names_in}
use Rattle.js_meaning_near.specs.Known.{code_of}
use Rattle.steps.specs.Names.{is_among, may_act}
use Rattle.steps.specs.KeepRuns.Once.{is_first}

abbrev pub is_call : Kind → Bool
is_call (Kind.CallExpression optional pure) = true
is_call k = false

abbrev pub holds_call : Forest → Bool
holds_call nothing = false
holds_call (absent r) = holds_call r
holds_call (node k n a r) = is_call k || (holds_call a || holds_call r)

abbrev pub are_names : Forest → Bool
are_names nothing = true
are_names (node (Kind.BindingName x) n a r) = are_names r
are_names t = false

-- an expression, and each of a row of them, where these names are declared
abbrev pub is_silent : List Text → Kind → Note → Forest → Bool
is_silent names k n a = not (may_act names (alone k n a))

abbrev pub are_silent : List Text → Forest → Bool
are_silent names nothing = true
are_silent names (absent r) = false
are_silent names (node k n a r) = is_silent names k n a && are_silent names r

-- a silent one stands first, or none does
abbrev pub gives_silently : List Text → Forest → Bool
gives_silently names nothing = false
gives_silently names (absent r) = true
gives_silently names (node k n a r) = is_silent names k n a

abbrev pub declares_silently : List Text → Forest → Bool
declares_silently names nothing = true
declares_silently names (node Kind.VariableDeclarator n (node (Kind.BindingName x) m a v) r) = (is_among names x && gives_silently names v) && declares_silently names r
declares_silently names t = false

abbrev pub runs_silently : List Text → Kind → Forest → Bool
runs_silently names Kind.EmptyStatement a = true
runs_silently names Kind.ExpressionStatement (node k n a r) = is_silent names k n a
runs_silently names Kind.ReturnStatement a = gives_silently names a
runs_silently names (Kind.VariableDeclaration how) (node Kind.Declarators n a r) = declares_silently names a
runs_silently names k a = false

abbrev pub all_run_silently : List Text → Forest → Bool
all_run_silently names nothing = true
all_run_silently names (absent r) = false
all_run_silently names (node k n a r) = runs_silently names k a && all_run_silently names r

-- what lies below a function: its name, its parameters and its body
abbrev pub has_silent_parts : Forest → Bool
has_silent_parts (node (Kind.BindingName x) i nothing (node Kind.Parameters j ps (node Kind.FunctionBody k (node Kind.Statements l b nothing) nothing))) =
    are_names ps && all_run_silently (names_in (function_decls function_kind.Declaration (code_of i j k l x ps b))) b
has_silent_parts t = false

abbrev pub is_silent_code : Forest → Bool
is_silent_code a = has_silent_parts a && not (holds_call a)

-- whether a list of statements has a declaration of such a function under this name
abbrev pub is_silent_function : Text → Kind → Forest → Bool
is_silent_function x (Kind.Function function_kind.Declaration pure) a = is_first x (first_name a) && is_silent_code a
is_silent_function x k a = false

abbrev pub has_silent_function : Text → Forest → Bool
has_silent_function x nothing = false
has_silent_function x (absent r) = has_silent_function x r
has_silent_function x (node k n a r) = is_silent_function x k a || has_silent_function x r
