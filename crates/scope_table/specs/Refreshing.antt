-- The bit of direct eval, as a program has it.
use Rattle.std.specs.Prelude.{ℕ, suc, List, [], ◌∷◌, ◌++◌, map, Bool, ◌&&◌, nat_eq, bit_or, if◌then◌else◌}
use Rattle.std.specs.List.{list_any}
use Rattle.std.specs.Option.{option_to_list}
use Rattle.bitflags.specs.Sets.{without as without_bits}
use Rattle.js_syntax.specs.declared.node_kind.NodeKind.{NodeKind as Kind}
use Rattle.js_syntax.specs.Node.{Forest, nothing, node, absent, Note}
use Rattle.scope_rules.specs.ScopeFlags as scope_flag
use Rattle.scope_rules.specs.Context.{opens}
use Rattle.scope_rules.specs.Site.{has_eval, scope_row}
use Rattle.scope_rules.specs.Table.{Scope, Scoping}
use Rattle.scope_table.specs.Reading.{ancestors}
use Rattle.scope_table.specs.Editing.{with_scope_as}

-- ---- of a program

-- the mark of a node that makes a scope in which a direct call of `eval` stands
abbrev pub own_eval : Kind → Note → (below : Forest) → List ℕ
own_eval k n below = if opens k below && has_eval (scope_row k below) then option_to_list n.id else []

abbrev pub eval_scopes : Forest → List ℕ
eval_scopes nothing = []
eval_scopes (absent rest) = eval_scopes rest
eval_scopes (node k n below rest) = own_eval k n below ++ (eval_scopes below ++ eval_scopes rest)

-- ---- of a table

-- whether a scope is one of some, or around one
abbrev pub is_around : Scoping → (inner : List ℕ) → (scope : ℕ) → Bool
is_around s inner n = list_any (λ m. list_any (nat_eq n) (ancestors s m)) inner

abbrev pub with_eval : Scope → Scope
with_eval x = record x { flags = bit_or x.flags scope_flag.direct_eval }

abbrev pub without_eval : Scope → Scope
without_eval x = record x { flags = without_bits 16 x.flags scope_flag.direct_eval }

-- the scopes that pass a test with the bit, and the others without it
abbrev pub flagged : (test : ℕ → Bool) → (next : ℕ) → List Scope → List Scope
flagged test next [] = []
flagged test next (x ∷ xs) = (if test next then with_eval (without_eval x) else without_eval x) ∷ flagged test (suc next) xs

-- a table whose scopes have the bit where a direct call of `eval` stands in them, or in one below, and nowhere else
abbrev pub refreshed : Forest → Scoping → Scoping
refreshed t s = record s { scopes = flagged (is_around s (eval_scopes t)) 0 s.scopes }

-- ---- one after another

abbrev pub marked : List ℕ → Scoping → Scoping
marked [] s = s
marked (n ∷ ns) s = marked ns (with_scope_as n with_eval s)

abbrev pub marked_around : (inner : List ℕ) → Scoping → Scoping
marked_around [] s = s
marked_around (m ∷ ms) s = marked_around ms (marked (ancestors s m) s)

abbrev pub cleared : Scoping → Scoping
cleared s = record s { scopes = map without_eval s.scopes }
