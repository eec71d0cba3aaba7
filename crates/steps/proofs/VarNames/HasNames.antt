-- Where `var` declares names in a statement, and no patterns, some are kept, and a declaration of them is left; and the other way round.
use Rattle.std.proofs.Common.{◌≡◌, ◌∙◌, ◌⊎◌, inl, inr, List, [], ◌∷◌, ◌++◌, Bool, true, false, ◌&&◌, ◌||◌, Some, None, if◌then◌else◌, refl, sym, ap, true≢false}
use Rattle.std.specs.Prelude.{map}
use Rattle.std.proofs.lemmas.Bool.{or_cases}
use Rattle.js_syntax.specs.declared.node_kind.NodeKind.{NodeKind as Kind}
use Rattle.js_syntax.specs.declared.node_kind.NodeKind.TheVariants.{BindingName as binding_name, Declarators as declarators, VariableDeclarator as variable_declarator}
use Rattle.js_syntax.specs.Node.{Forest, Tree, nothing, node, absent}
use Rattle.js_syntax.proofs.Truth.{first_of_both, second_of_both, first_of_either, second_of_either}
use Rattle.kept_names.specs.Kept.{is_var, holds_statements, declared_of, declared, kept_of, kept, declarator_of, declaration_with, declaration_of}
use Rattle.steps.specs.VarNames.Plain.{binds_name, bind_names, has_names, vars_bind_names_at, vars_bind_names}
use Rattle.steps.specs.VarNames.Has.{has_node, has_declarator, has_vars_at, has_vars}

no_kind : {A : Type 0} → false ≡ true → A
no_kind e = absurd (true≢false (sym e))

no_declaration : {P : Type 0} {y : Tree} → None ≡ Some y → P
no_declaration e = absurd cc

-- ---- where `var` declares a name, some are kept

empty_parts : (xs ys : List Tree) → xs ++ ys ≡ [] → (xs ≡ []) × (ys ≡ [])
empty_parts [] ys e = (refl, e)
empty_parts (x ∷ xs) ys e = absurd cc

named_some : (k : Kind) (a : Forest) → binds_name k a ≡ true → (declared_of k a (declared a) ≡ []) → ⊥
named_some variable_declarator (node (binding_name x) n nothing value) h e = cc
named_some variable_declarator (node (binding_name x) n (absent r) value) h e = absurd cc
named_some variable_declarator (node (binding_name x) n (node j o c r) value) h e = absurd cc
named_some variable_declarator (node k n inner value) h e = absurd cc
named_some variable_declarator (absent r) h e = absurd cc
named_some variable_declarator nothing h e = absurd cc
named_some k a h e = absurd cc

some_declared : (t : Forest) → bind_names t ≡ true → has_node t ≡ true → (declared t ≡ []) → ⊥
some_declared nothing h some e = no_kind some
some_declared (absent r) h some e = some_declared r h some e
some_declared (node k n a r) h some e = named_some k a (first_of_both (binds_name k a) (bind_names r) h) (empty_parts (declared_of k a (declared a)) (declared r) e).0

of_var : (a : Forest) → has_names a ≡ true → has_declarator a ≡ true → (declared a ≡ []) → ⊥
of_var (node declarators n ds nothing) h some e = some_declared ds h some (empty_parts (declared ds) [] e).0
of_var (node declarators n ds (absent r)) h some e = absurd cc
of_var (node declarators n ds (node k i b r)) h some e = absurd cc
of_var (node k n ds r) h some e = absurd cc
of_var (absent r) h some e = absurd cc
of_var nothing h some e = absurd cc

of_node : (a : Forest) (v s : Bool) → (if v then has_names a else if s then vars_bind_names a else true) ≡ true → (if v then has_declarator a else (s && has_vars a)) ≡ true
    → (vars_bind_names a ≡ true → has_vars a ≡ true → (kept a ≡ []) → ⊥) → ((if v then declared a else if s then kept a else []) ≡ []) → ⊥
of_node a true s h some below e = of_var a h some e
of_node a false true h some below e = below h some e
of_node a false false h some below e = no_kind some

pub some_kept : (t : Forest) → vars_bind_names t ≡ true → has_vars t ≡ true → (kept t ≡ []) → ⊥
some_kept nothing h some e = no_kind some
some_kept (absent r) h some e = some_kept r h some e
some_kept (node k n a r) h some e =
    let here = vars_bind_names_at k a (vars_bind_names a) in
    let empty = empty_parts (kept_of k a (kept a)) (kept r) e in
    elim (or_cases (has_vars_at k a (has_vars a)) (has_vars r) some) [
      | inl at ↦ of_node a (is_var k) (holds_statements k) (first_of_both here (vars_bind_names r) h) at (some_kept a) empty.0
      | inr later ↦ some_kept r (second_of_both here (vars_bind_names r) h) later empty.1
    ]

-- ---- a declaration of them

pub declares_some : (ts : List Tree) → ((ts ≡ []) → ⊥) → (y : Tree) × (declaration_of (map declarator_of ts) ≡ Some y)
declares_some [] some = absurd (some refl)
declares_some (t ∷ ts) some = (declaration_with (map declarator_of (t ∷ ts)), refl)

-- ---- where names are kept, `var` declares one

has_one : (t : Forest) → ((declared t ≡ []) → ⊥) → has_node t ≡ true
has_one nothing some = absurd (some refl)
has_one (absent r) some = has_one r some
has_one (node k n a r) some = refl

var_there : (a : Forest) → has_names a ≡ true → ((declared a ≡ []) → ⊥) → has_declarator a ≡ true
var_there (node declarators n ds nothing) h some = has_one ds (λ e. some (ap (λ ts. ts ++ []) e))
var_there (node declarators n ds (absent r)) h some = absurd cc
var_there (node declarators n ds (node k i b r)) h some = absurd cc
var_there (node k n ds r) h some = absurd cc
var_there (absent r) h some = absurd cc
var_there nothing h some = absurd cc

node_there : (a : Forest) (v s : Bool) → (if v then has_names a else if s then vars_bind_names a else true) ≡ true → (vars_bind_names a ≡ true → ((kept a ≡ []) → ⊥) → has_vars a ≡ true)
    → (((if v then declared a else if s then kept a else []) ≡ []) → ⊥) → (if v then has_declarator a else (s && has_vars a)) ≡ true
node_there a true s h below some = var_there a h some
node_there a false true h below some = below h some
node_there a false false h below some = absurd (some refl)

not_empty : (t : Tree) (ts : List Tree) → (t ∷ ts ≡ []) → ⊥
not_empty t ts e = cc

is_empty : (ts : List Tree) → (ts ≡ []) ⊎ ((ts ≡ []) → ⊥)
is_empty [] = inl refl
is_empty (t ∷ ts) = inr (not_empty t ts)

pub has_some : (t : Forest) → vars_bind_names t ≡ true → ((kept t ≡ []) → ⊥) → has_vars t ≡ true
has_some nothing h some = absurd (some refl)
has_some (absent r) h some = has_some r h some
has_some (node k n a r) h some =
    let here = vars_bind_names_at k a (vars_bind_names a) in
    elim (is_empty (kept_of k a (kept a))) [
      | inl none ↦
          second_of_either (has_vars_at k a (has_vars a)) (has_vars r) (has_some r (second_of_both here (vars_bind_names r) h) (λ e. some (ap (λ ts. ts ++ kept r) none ∙ e)))
      | inr more ↦ first_of_either (has_vars_at k a (has_vars a)) (has_vars r) (node_there a (is_var k) (holds_statements k) (first_of_both here (vars_bind_names r) h) (has_some a) more)
    ]

pub declares_kept : (ts : List Tree) (y : Tree) → declaration_of (map declarator_of ts) ≡ Some y → (ts ≡ []) → ⊥
declares_kept [] y is e = no_declaration is
declares_kept (t ∷ ts) y is e = cc
