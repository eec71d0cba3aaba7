-- Names resolve alike with signs applied: the scopes, bindings and references of a tree are the same.
use Rattle.std.proofs.Common.{◌≡◌, ◌∙◌, ◌+◌, ◌++◌, ℕ, suc, negsuc, List, [], ◌∷◌, Bool, true, false, ◌||◌, ◌&&◌, ◌==◌, Some, None, codes, if◌then◌else◌, refl, ap, ap₂}
use mathlib.Core.Path.{fun_ext}
use Rattle.std.specs.Prelude.{is_some}
use Rattle.std.specs.Str.{bytes_eq}
use Rattle.js_syntax.specs.declared.node_kind.NodeKind.{NodeKind as Kind}
use Rattle.js_syntax.specs.declared.node_kind.NodeKind.TheVariants.{Program as program, Directive as directive, Statements as statements, Function as function, FunctionBody as function_body, PropertyDefinition as property_definition, SwitchStatement as switch_statement, WithStatement as with_statement, CallExpression as call_expression, ParenthesizedExpression as parenthesized_expression, ReferenceName as reference_name, Literal as literal}
use Rattle.js_syntax.specs.declared.value.LiteralValue.TheVariants as value
use Rattle.js_syntax.specs.Node.{Note, Forest, nothing, node, absent}
use Rattle.js_tree.specs.Names.{eval_name, eval_of_call}
use Rattle.form_rules.specs.Context.{is_module, has_use_strict, is_strict_list, is_strict_function, behind_first}
use Rattle.scope_rules.specs.Context.{Context, is_there, has_second, opens, strict_in, in_body, in_block, below_it, of_function, inside, outermost}
use Rattle.scope_rules.specs.Site.{Site, scope_site, has_eval, scope_row, form_bits, bit, scope_bits, name_sites, own_sites, opens_one, scope_count, sites, found_in}
use Rattle.scope_rules.specs.Table.{scoping_of}
use Rattle.js_scoping.specs.Build.{table_of}
use Rattle.js_meaning_near.specs.Signed.{signed}
use Rattle.js_meaning_near.proofs.Signed.{Sign, is_number, is_other, sign_of}

-- ---- what is read off a row

behind_signed : (t : Forest) → behind_first (signed t) ≡ signed (behind_first t)
behind_signed nothing = refl
behind_signed (absent rest) = refl
behind_signed (node (literal (value.Number (negsuc i))) n nothing rest) = refl
behind_signed (node k n below rest) = refl

there_signed : (t : Forest) → is_there (signed t) ≡ is_there t
there_signed nothing = refl
there_signed (absent rest) = refl
there_signed (node (literal (value.Number (negsuc i))) n nothing rest) = refl
there_signed (node k n below rest) = refl

second_signed : (t : Forest) → has_second (signed t) ≡ has_second t
second_signed t = ap is_there (behind_signed t) ∙ there_signed (behind_first t)

use_strict_signed : (t : Forest) → has_use_strict (signed t) ≡ has_use_strict t
use_strict_signed nothing = refl
use_strict_signed (absent rest) = refl
use_strict_signed (node (directive written) n below rest) = ap (λ (b : Bool). bytes_eq written (codes "use strict") || b) (use_strict_signed rest)
use_strict_signed (node (literal (value.Number (negsuc i))) n nothing rest) = refl
use_strict_signed (node k n below rest) = refl

strict_list_signed : (t : Forest) → is_strict_list (signed t) ≡ is_strict_list t
strict_list_signed nothing = refl
strict_list_signed (absent rest) = refl
strict_list_signed (node statements n below rest) = use_strict_signed below
strict_list_signed (node (literal (value.Number (negsuc i))) n nothing rest) = refl
strict_list_signed (node k n below rest) = refl

strict_function_signed : (t : Forest) → is_strict_function (signed t) ≡ is_strict_function t
strict_function_signed nothing = refl
strict_function_signed (absent rest) = strict_function_signed rest
strict_function_signed (node function_body n below rest) = strict_list_signed below
strict_function_signed (node (literal (value.Number (negsuc i))) n nothing rest) = strict_function_signed rest
strict_function_signed (node k n below rest) = strict_function_signed rest

-- ---- calls of `eval`

some_if : {A : Type 0} (b : Bool) (x y : A) → is_some (if b then Some x else None) ≡ is_some (if b then Some y else None)
some_if true x y = refl
some_if false x y = refl

name_signed : (t : Forest) → is_some (eval_name (signed t)) ≡ is_some (eval_name t)
name_signed nothing = refl
name_signed (absent rest) = refl
name_signed (node parenthesized_expression n below rest) = name_signed below
name_signed (node (reference_name s) n below rest) = some_if (bytes_eq s (codes "eval")) _ _
name_signed (node (literal (value.Number (negsuc i))) n nothing rest) = refl
name_signed (node k n below rest) = refl

call_signed : (k : Kind) (t : Forest) → is_some (eval_of_call k (signed t)) ≡ is_some (eval_of_call k t)
call_signed (call_expression false pure) t = name_signed t
call_signed (call_expression true pure) t = refl
call_signed k t = refl

eval_one : (k : Kind) (a : Forest) → Sign k a → (n : Note) (rest : Forest) → has_eval (signed a) ≡ has_eval a → has_eval (signed rest) ≡ has_eval rest → has_eval (signed (node k n a rest)) ≡ has_eval (node k n a rest)
eval_one _ _ is_number n rest below later = later
eval_one k a (is_other is) n rest below later = ap has_eval (is n rest) ∙ ap₂ (λ (x y : Bool). x || y) (ap₂ (λ (x y : Bool). x || y) (call_signed k a) below) later

eval_signed : (t : Forest) → has_eval (signed t) ≡ has_eval t
eval_signed nothing = refl
eval_signed (absent rest) = eval_signed rest
eval_signed (node k n a rest) = eval_one k a (sign_of k a) n rest (eval_signed a) (eval_signed rest)

-- ---- scopes

opens_signed : (k : Kind) (t : Forest) → opens k (signed t) ≡ opens k t
opens_signed (property_definition is_static key) t = second_signed t
opens_signed k t = refl

row_signed : (k : Kind) (t : Forest) → scope_row k (signed t) ≡ signed (scope_row k t)
row_signed switch_statement t = behind_signed t
row_signed with_statement t = behind_signed t
row_signed (property_definition is_static key) t = behind_signed t
row_signed k t = refl

strict_signed : (c : Context) (k : Kind) (t : Forest) → strict_in c k (signed t) ≡ strict_in c k t
strict_signed c (program source) t = ap (λ (b : Bool). is_module source || b) (strict_list_signed t)
strict_signed c (function how pure) t = ap (λ (b : Bool). c.strict || b) (strict_function_signed t)
strict_signed c k t = refl

bits_signed : (c : Context) (k : Kind) (t : Forest) → scope_bits c k (signed t) ≡ scope_bits c k t
bits_signed c k t = ap₂ (λ (s e : Bool). bit s 1 + form_bits k c.constructs + bit e 512) (strict_signed c k t) (ap has_eval (row_signed k t) ∙ eval_signed (scope_row k t))

inside_signed : (c : Context) (scope : ℕ) (k : Kind) (t : Forest) (at : ℕ) → inside c scope k (signed t) at ≡ inside c scope k t at
inside_signed c scope (program source) t at = ap (λ (b : Bool). in_body c scope (is_module source || b)) (strict_list_signed t)
inside_signed c scope (function how pure) t at = ap (λ (b : Bool). of_function c scope how pure (c.strict || b) at) (strict_function_signed t)
inside_signed c scope (property_definition is_static key) t at = ap (λ (b : Bool). if b && at == 1 then in_block c scope c.strict else below_it c) (second_signed t)
inside_signed c scope k t at = refl

own_signed : (c : Context) (n : Note) (k : Kind) (t : Forest) → own_sites c n k (signed t) ≡ own_sites c n k t
own_signed c n k t =
    ap₂ (λ (b : Bool) (bits : ℕ). (if b then scope_site (record { id = n.id; parent = c.scope; flags = bits }) ∷ [] else []) ++ name_sites c n k) (opens_signed k t) (bits_signed c k t)

count_one : (k : Kind) (a : Forest) → Sign k a → (n : Note) (rest : Forest) → scope_count (signed a) ≡ scope_count a → scope_count (signed rest) ≡ scope_count rest → scope_count (signed (node k n a rest)) ≡ scope_count (node k n a rest)
count_one _ _ is_number n rest below later = ap (λ (i : ℕ). 0 + i) later
count_one k a (is_other is) n rest below later =
    ap scope_count (is n rest) ∙ ap₂ (λ (b : Bool) (i : ℕ). (if b then 1 else 0) + i + scope_count (signed rest)) (opens_signed k a) below ∙ ap (λ (i : ℕ). opens_one k a + scope_count a + i) later

count_signed : (t : Forest) → scope_count (signed t) ≡ scope_count t
count_signed nothing = refl
count_signed (absent rest) = count_signed rest
count_signed (node k n a rest) = count_one k a (sign_of k a) n rest (count_signed a) (count_signed rest)

-- ---- sites

-- the sites of a row, wherever it stands
abbrev SitesAre : Forest → Type 0
SitesAre t = (contexts : ℕ → Context) (at next : ℕ) → sites contexts at next (signed t) ≡ sites contexts at next t

sites_one : (k : Kind) (a : Forest) → Sign k a → (n : Note) (rest : Forest) → SitesAre a → SitesAre rest → SitesAre (node k n a rest)
sites_one _ _ is_number n rest below later contexts at next = later contexts (suc at) (next + 0)
sites_one k a (is_other is) n rest below later contexts at next =
    let c = contexts at in
    let inner = ap₂ (λ (f : ℕ → Context) (i : ℕ). sites f 0 i (signed a)) (fun_ext (inside_signed c next k a)) (ap (λ (b : Bool). next + (if b then 1 else 0)) (opens_signed k a)) ∙ below (inside c next k a) 0 (next + opens_one k a) in
    let counted = ap₂ (λ (b : Bool) (i : ℕ). (if b then 1 else 0) + i + 0) (opens_signed k a) (count_signed a) in
    let behind = ap (λ (i : ℕ). sites contexts (suc at) (next + i) (signed rest)) counted ∙ later contexts (suc at) (next + scope_count (node k n a nothing)) in
    ap (sites contexts at next) (is n rest)
    ∙ ap₂ (λ (own others : List Site). own ++ others) (ap₂ (λ (own others : List Site). own ++ others) (own_signed c n k a) inner) behind

sites_signed : (t : Forest) → SitesAre t
sites_signed nothing contexts at next = refl
sites_signed (absent rest) contexts at next = sites_signed rest contexts (suc at) next
sites_signed (node k n a rest) contexts at next = sites_one k a (sign_of k a) n rest (sites_signed a) (sites_signed rest) contexts at next

pub table_signed : (t : Forest) → table_of (signed t) ≡ table_of t
table_signed t = ap (λ s. scoping_of (found_in s)) (sites_signed t (λ at. outermost) 0 0)
