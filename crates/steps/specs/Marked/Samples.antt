-- Small programs that the definitions are tried on, and tests that decide by computing.
use Rattle.std.specs.Prelude.{ℕ, suc, List, [], ◌∷◌, length, map, Bool, true, false, not, ◌&&◌, ◌||◌, ◌==◌, cond, nat_eq, Option, Some}
use Rattle.js_syntax.specs.Node.{Forest, nothing, node, absent}
use Rattle.form_rules.specs.Samples.{a_module, a_script, a, let_, reads, does, block, function_a}
use Rattle.scope_rules.specs.ScopeFlags as scope_flag
use Rattle.scope_rules.specs.Site.{sites_of, found_in}
use Rattle.scope_rules.specs.Table.{Scoping, scoping_of}
use Rattle.scope_rules.specs.Mark.{marked, first_marks}
use Rattle.scope_rules.specs.Samples.{Row}
use Rattle.scope_counts.specs.Counts.{uses}
use Rattle.scope_counts.specs.Exact.{count, lists_of}
use Rattle.scope_counts.specs.Tried.{below_all, with_marks}
use Rattle.steps.specs.Allowed.Exposure.{Exposure, is_script}
use Rattle.steps.specs.Allowed.Rows.{call_of_eval}
use Rattle.steps.specs.Marked.Flags.{scope_has, is_sloppy_block, Stand, stand_inside, stands_of}

abbrev pub table_of : Forest → Scoping
table_of t = scoping_of (found_in (sites_of t))

-- ---- lists

-- its lists are what is counted, but for the marked ids
abbrev pub counts_but_marks : Scoping → (marked : ℕ → Bool) → Forest → Bool
counts_but_marks s marked t = below_all (λ symbol. below_all (λ id. nat_eq (uses symbol id t) (cond (marked id) 0 (count id (lists_of s symbol)))) (length s.references)) (length s.symbols)

-- let a; a;
abbrev pub reads_a : Forest
reads_a = a_module (let_ a ∷ does (reads a) ∷ [])

-- what an edit may leave of it, with the marks that it had: let a;
abbrev pub declares_a : Forest
declares_a = marked (first_marks (0 ∷ [])) (a_module (let_ a ∷ []))

-- ---- flags

abbrev pub implies : Bool → Bool → Bool
implies b c = not b || c

abbrev pub numbers_tell : Scoping → (script : Bool) → Exposure → (scope variables declaring : Option ℕ) → Bool
numbers_tell s script e (Some n) (Some v) (Some d) =
    implies e.evaluates (scope_has s n scope_flag.direct_eval)
    && (implies e.in_sloppy_block (is_sloppy_block s n) && (implies e.names_shared (script && n == 0) && (implies e.variables_shared (script && v == 0) && implies e.declared_shared (script && d == 0))))
numbers_tell s script e n v d = false

abbrev pub is_told : Scoping → (script : Bool) → (stands : ℕ → Stand) → (at : ℕ) → Forest → Bool
is_told s script ps at nothing = true
is_told s script ps at (absent rest) = is_told s script ps (suc at) rest
is_told s script ps at (node k n below rest) =
    numbers_tell s script (ps at).exposure (ps at).scope (ps at).variables (ps at).declaring && (is_told s script (stand_inside (ps at) k n below) 0 below && is_told s script ps (suc at) rest)

abbrev pub do_flags_tell : Scoping → Forest → Bool
do_flags_tell s t = is_told s (is_script t) (stands_of t) 0 t

-- by their own tables
abbrev pub new_flags_tell : List Row → List Bool
new_flags_tell rows = map (λ (r : Row). do_flags_tell (table_of r.tree) (with_marks r.tree)) rows

-- function a() { } { function a() { } } in a script
abbrev pub two_functions : Forest
two_functions = a_script (function_a [] [] ∷ block (function_a [] [] ∷ []) ∷ [])

-- { function a() { } } in a script
abbrev pub one_function : Forest
one_function = a_script (block (function_a [] [] ∷ []) ∷ [])

-- without the first item of a program
abbrev pub without_first : Forest → Forest
without_first (node k n (node l m (node j i below items) r) rest) = node k n (node l m items r) rest
without_first t = t

-- what is left of the two, with the marks that it had
abbrev pub left_of_two : Forest
left_of_two = without_first (with_marks two_functions)

-- eval(); and an empty module
abbrev pub evaluating : Forest
evaluating = a_module (does call_of_eval ∷ [])

abbrev pub empty_module : Forest
empty_module = a_module []
