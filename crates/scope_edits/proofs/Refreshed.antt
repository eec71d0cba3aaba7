-- In a table as it is made of a program, the scopes with the bit of direct eval are those in which a direct call of `eval` stands,
-- and a scope around one that has it has it too.
use Rattle.std.proofs.Common.{◌≡◌, ◌∙◌, ◌+◌, ◌==◌, ℕ, zero, suc, List, [], ◌∷◌, ◌++◌, Bool, true, false, true≢false, ◌&&◌, ◌||◌, Option, Some, None, is_some, if◌then◌else◌, nat_eq, bit_or, length, slice_index_or, refl, sym, ap, subst, arith, append_assoc, append-nil}
use Rattle.std.specs.List.{list_any}
use Rattle.std.specs.Option.{option_to_list}
use Rattle.std.specs.Int.RustNames.{bit_and}
use Rattle.std.proofs.lemmas.Bool.{and_parts, eqb-true, eq-eqb}
use Rattle.bitflags.specs.Sets.{without as without_bits}
use Rattle.js_syntax.specs.declared.node_kind.NodeKind.{NodeKind as Kind}
use Rattle.js_syntax.specs.declared.node_kind.NodeKind.TheVariants.{Program as program, Function as function, Class as class, MethodDefinition as method_definition, PropertyDefinition as property_definition, StaticBlock as static_block, BlockStatement as block_statement, WithStatement as with_statement, SwitchStatement as switch_statement, CatchClause as catch_clause, ForStatement as for_statement, ForInStatement as for_in_statement, ForOfStatement as for_of_statement, VariableDeclaration as variable_declaration, AssignmentExpression as assignment_expression, MemberExpression as member_expression, TargetProperty as target_property, TargetDefault as target_default, BindingName as binding_name, ReferenceName as reference_name, TargetName as target_name}
use Rattle.js_syntax.specs.Node.{Forest, nothing, node, absent, Note}
use Rattle.js_syntax.specs.declared.kind.FunctionKind.{FunctionKind}
use Rattle.js_syntax.specs.declared.kind.FunctionKind.TheVariants as function_kind
use Rattle.js_syntax.specs.declared.kind.ClassKind.{ClassKind}
use Rattle.js_syntax.specs.declared.kind.ClassKind.TheVariants as class_kind
use Rattle.js_syntax.specs.declared.kind.MethodKind.{MethodKind}
use Rattle.js_syntax.specs.declared.kind.MethodKind.TheVariants as method_kind
use Rattle.js_syntax.specs.declared.kind.VariableKind.{VariableKind}
use Rattle.js_syntax.specs.declared.kind.VariableKind.TheVariants as variable_kind
use Rattle.form_rules.specs.Context.{behind_first}
use Rattle.js_tree.specs.Names.{eval_of_call}
use Rattle.scope_rules.specs.Context.{Context, strict_in, has_second, opens, of_method, in_variables, at_function_name, at_class_name, beside, inside, outermost}
use Rattle.scope_rules.specs.Site.{ScopeSite, Site, scope_site, Found, bit, function_bits, form_bits, has_eval, scope_row, scope_bits, name_sites, opens_one, scope_count, own_sites, sites, sites_of, scopes_among, found_in}
use Rattle.scope_rules.specs.Binding.{Binding}
use Rattle.scope_rules.specs.Table.{Scope, Scoping, symbols_of, symbols_declared, names_from, scopes_from, scoping_of}
use Rattle.scope_rules.specs.Mark.{marked, first_marks}
use Rattle.scope_table.specs.Reading.{no_scope, scope_at, scopes_up, ancestors}
use Rattle.scope_table.specs.Refreshing.{own_eval, eval_scopes, is_around, with_eval, without_eval, flagged, refreshed}
use Rattle.scope_laws.specs.Renumbered.{scopes_from as scopes_with}
use Rattle.scope_laws.proofs.Marking.{found_marked}

-- ---- bits of flags

abbrev has : ℕ → Bool
has f = bit_and f 512 == 512

-- the bit taken, and given where it was
abbrev told_again : (set : Bool) → ℕ → ℕ
told_again set f = if set then bit_or (without_bits 16 f 512) 512 else without_bits 16 f 512

abbrev flags_of : (form : ℕ) → (strict evaluates : Bool) → ℕ
flags_of form strict evaluates = bit strict 1 + form + bit evaluates 512

record IsForm (form : ℕ) : Type 0 where
  same : (a e : Bool) → told_again e (flags_of form a e) ≡ flags_of form a e
  told : (a e : Bool) → has (flags_of form a e) ≡ e

by_bits : (P : Bool → Bool → Type 0) → P true true → P true false → P false true → P false false → (a e : Bool) → P a e
by_bits P f g h k true true = f
by_bits P f g h k true false = g
by_bits P f g h k false true = h
by_bits P f g h k false false = k

function_form : (how : FunctionKind) (constructs : Bool) → IsForm (function_bits how constructs)
function_form function_kind.Arrow constructs = record { same = by_bits _ refl refl refl refl; told = by_bits _ refl refl refl refl }
function_form function_kind.Declaration true = record { same = by_bits _ refl refl refl refl; told = by_bits _ refl refl refl refl }
function_form function_kind.Declaration false = record { same = by_bits _ refl refl refl refl; told = by_bits _ refl refl refl refl }
function_form function_kind.Expression true = record { same = by_bits _ refl refl refl refl; told = by_bits _ refl refl refl refl }
function_form function_kind.Expression false = record { same = by_bits _ refl refl refl refl; told = by_bits _ refl refl refl refl }

block_form : IsForm 64
block_form = record { same = by_bits _ refl refl refl refl; told = by_bits _ refl refl refl refl }

form : (k : Kind) (constructs : Bool) → IsForm (form_bits k constructs)
form (program source) constructs = record { same = by_bits _ refl refl refl refl; told = by_bits _ refl refl refl refl }
form (function how pure) constructs = function_form how constructs
form static_block constructs = record { same = by_bits _ refl refl refl refl; told = by_bits _ refl refl refl refl }
form block_statement constructs = block_form
form switch_statement constructs = block_form
form for_statement constructs = block_form
form for_in_statement constructs = block_form
form for_of_statement constructs = block_form
form catch_clause constructs = record { same = by_bits _ refl refl refl refl; told = by_bits _ refl refl refl refl }
form with_statement constructs = record { same = by_bits _ refl refl refl refl; told = by_bits _ refl refl refl refl }
form k constructs = record { same = by_bits _ refl refl refl refl; told = by_bits _ refl refl refl refl }

has_told : (c : Context) (k : Kind) (below : Forest) → has (scope_bits c k below) ≡ has_eval (scope_row k below)
has_told c k below = (form k c.constructs).told (strict_in c k below) (has_eval (scope_row k below))

abbrev IsSame : ℕ → Type 0
IsSame f = told_again (has f) f ≡ f

same_told : (c : Context) (k : Kind) (below : Forest) → IsSame (scope_bits c k below)
same_told c k below = ap (λ b. told_again b (scope_bits c k below)) (has_told c k below) ∙ (form k c.constructs).same (strict_in c k below) (has_eval (scope_row k below))

-- ---- calls of `eval` in a row, by place

never : {X : Type 0} → false ≡ true → X
never e = absurd (true≢false (sym e))

or_left : (a b : Bool) → a ≡ true → a || b ≡ true
or_left true b e = refl
or_left false b e = never e

or_right : (a b : Bool) → b ≡ true → a || b ≡ true
or_right true b e = refl
or_right false b e = e

front : (a b c : Bool) → a || b ≡ true → a || b || c ≡ true
front true b c e = refl
front false true c e = refl
front false false c e = never e

back : (a b c : Bool) → c ≡ true → a || b || c ≡ true
back true b c e = refl
back false true c e = refl
back false false c e = e

abbrev eval_at : ℕ → Forest → Bool
eval_at i nothing = false
eval_at zero (absent rest) = false
eval_at zero (node k n below rest) = is_some (eval_of_call k below) || has_eval below
eval_at (suc i) (absent rest) = eval_at i rest
eval_at (suc i) (node k n below rest) = eval_at i rest

any : (i : ℕ) (t : Forest) → eval_at i t ≡ true → has_eval t ≡ true
any i nothing e = never e
any zero (absent rest) e = never e
any zero (node k n below rest) e = front (is_some (eval_of_call k below)) (has_eval below) (has_eval rest) e
any (suc i) (absent rest) e = any i rest e
any (suc i) (node k n below rest) e = back (is_some (eval_of_call k below)) (has_eval below) (has_eval rest) (any i rest e)

any_behind : (i : ℕ) (t : Forest) → (i == 1) ≡ true → eval_at i t ≡ true → has_eval (behind_first t) ≡ true
any_behind zero t h e = never h
any_behind (suc i) nothing h e = never e
any_behind (suc i) (absent rest) h e = any i rest e
any_behind (suc i) (node k n below rest) h e = any i rest e

behind_part : (t : Forest) → has_eval (behind_first t) ≡ true → has_eval t ≡ true
behind_part nothing e = e
behind_part (absent rest) e = e
behind_part (node k n below rest) e = back (is_some (eval_of_call k below)) (has_eval below) (has_eval rest) e

row_part : (k : Kind) (below : Forest) → has_eval (scope_row k below) ≡ true → has_eval below ≡ true
row_part switch_statement below e = behind_part below e
row_part with_statement below e = behind_part below e
row_part (property_definition is_static key) below e = behind_part below e
row_part k below e = e

-- ---- the scopes of a row, in front of others

abbrev own_scope : (b : Bool) → ScopeSite → List ScopeSite → List ScopeSite
own_scope true x ys = x ∷ ys
own_scope false x ys = ys

abbrev scope_of : Context → Note → Kind → (below : Forest) → ScopeSite
scope_of c note k below = record { id = note.id; parent = c.scope; flags = scope_bits c k below }

abbrev scopes_row : (cs : ℕ → Context) → (at n : ℕ) → Forest → List ScopeSite → List ScopeSite
scopes_row cs at n nothing ys = ys
scopes_row cs at n (absent rest) ys = scopes_row cs (suc at) n rest ys
scopes_row cs at n (node k note below rest) ys =
    own_scope (opens k below) (scope_of (cs at) note k below) (scopes_row (inside (cs at) n k below) 0 (n + opens_one k below) below (scopes_row cs (suc at) (n + scope_count (node k note below nothing)) rest ys))

no_names : (c : Context) (note : Note) (k : Kind) (xs : List Site) → scopes_among (name_sites c note k ++ xs) ≡ scopes_among xs
no_names c note (binding_name x) xs = refl
no_names c note (reference_name x) xs = refl
no_names c note (target_name x) xs = refl
no_names c note k xs = refl

own_first : (b : Bool) (x : ScopeSite) (names xs : List Site) → scopes_among (names ++ xs) ≡ scopes_among xs → scopes_among (((if b then scope_site x ∷ [] else []) ++ names) ++ xs) ≡ own_scope b x (scopes_among xs)
own_first true x names xs e = ap (λ ys. x ∷ ys) e
own_first false x names xs e = e

row_scopes : (cs : ℕ → Context) (at n : ℕ) (t : Forest) (xs : List Site) → scopes_among (sites cs at n t ++ xs) ≡ scopes_row cs at n t (scopes_among xs)
row_scopes cs at n nothing xs = refl
row_scopes cs at n (absent rest) xs = row_scopes cs (suc at) n rest xs
row_scopes cs at n (node k note below rest) xs =
    let own = own_sites (cs at) note k below in
    let inner = sites (inside (cs at) n k below) 0 (n + opens_one k below) below in
    let outer = sites cs (suc at) (n + scope_count (node k note below nothing)) rest in
    let x = scope_of (cs at) note k below in
    ap scopes_among (append_assoc (own ++ inner) outer xs ∙ append_assoc own inner (outer ++ xs))
    ∙ own_first (opens k below) x (name_sites (cs at) note k) (inner ++ (outer ++ xs)) (no_names (cs at) note k (inner ++ (outer ++ xs)))
    ∙ ap (own_scope (opens k below) x)
    (row_scopes (inside (cs at) n k below) 0 (n + opens_one k below) below (outer ++ xs)
    ∙ ap (scopes_row (inside (cs at) n k below) 0 (n + opens_one k below) below) (row_scopes cs (suc at) (n + scope_count (node k note below nothing)) rest xs))

all_scopes : (t : Forest) → scopes_among (sites_of t) ≡ scopes_row (λ at. outermost) 0 0 t []
all_scopes t = ap scopes_among (sym (append-nil (sites_of t))) ∙ row_scopes (λ at. outermost) 0 0 t []

-- ---- the marks of those that have the bit

abbrev ids : List ScopeSite → List ℕ
ids [] = []
ids (x ∷ xs) = (if has x.flags then option_to_list x.id else []) ++ ids xs

own_ids : (b e : Bool) (x : ScopeSite) (ys : List ScopeSite) → has x.flags ≡ e → ids (own_scope b x ys) ≡ (if b && e then option_to_list x.id else []) ++ ids ys
own_ids true e x ys is = ap (λ c. (if c then option_to_list x.id else []) ++ ids ys) is
own_ids false e x ys is = refl

row_ids : (cs : ℕ → Context) (at n : ℕ) (t : Forest) (ys : List ScopeSite) → ids (scopes_row cs at n t ys) ≡ eval_scopes t ++ ids ys
row_ids cs at n nothing ys = refl
row_ids cs at n (absent rest) ys = row_ids cs (suc at) n rest ys
row_ids cs at n (node k note below rest) ys =
    let own = own_eval k note below in
    let more = scopes_row cs (suc at) (n + scope_count (node k note below nothing)) rest ys in
    own_ids (opens k below) (has_eval (scope_row k below)) (scope_of (cs at) note k below) (scopes_row (inside (cs at) n k below) 0 (n + opens_one k below) below more) (has_told (cs at) k below)
    ∙ ap (λ zs. own ++ zs)
    (row_ids (inside (cs at) n k below) 0 (n + opens_one k below) below more ∙ ap (λ zs. eval_scopes below ++ zs) (row_ids cs (suc at) (n + scope_count (node k note below nothing)) rest ys) ∙ sym (append_assoc (eval_scopes below) (eval_scopes rest) (ids ys)))
    ∙ sym (append_assoc own (eval_scopes below ++ eval_scopes rest) (ids ys))

eval_ids : (t : Forest) → eval_scopes t ≡ ids (scopes_among (sites_of t))
eval_ids t = sym (ap ids (all_scopes t) ∙ row_ids (λ at. outermost) 0 0 t [] ∙ append-nil (eval_scopes t))

-- ---- scopes, by whether the one of a number has the bit

module _ (B : ℕ → Bool) where
  abbrev Has : Option ℕ → Type 0
  Has None = Unit {0}
  Has (Some p) = B p ≡ true

  record IsFine (x : ScopeSite) : Type 0 where
    same : IsSame x.flags
    up : has x.flags ≡ true → Has x.parent

  abbrev AllFine : List ScopeSite → Type 0
  AllFine [] = Unit {0}
  AllFine (x ∷ xs) = IsFine x × AllFine xs

  abbrev Known : ℕ → List ScopeSite → Type 0
  Known n [] = Unit {0}
  Known n (x ∷ xs) = (B n ≡ has x.flags) × Known (n + 1) xs

  known_at : (xs : List ScopeSite) (n m : ℕ) → n ≡ m → Known n xs → Known m xs
  known_at xs n m e h = subst (λ k. Known k xs) e h

  either : (b : Bool) (x y : Context) → (b ≡ true → Has x.scope) → Has y.scope → Has (if b then x else y).scope
  either true x y h g = h refl
  either false x y h g = g

  method_has : (c : Context) (how : MethodKind) → Has c.scope → Has (of_method c how).scope
  method_has c method_kind.Constructor h = h
  method_has c how h = h

  variables_has : (c : Context) (how : VariableKind) → Has c.scope → Has (in_variables c how).scope
  variables_has c variable_kind.Var h = h
  variables_has c variable_kind.Let h = h
  variables_has c variable_kind.Const h = h

  function_name_has : (c : Context) (scope : ℕ) (how : FunctionKind) (pure : Bool) → Has c.scope → Has (at_function_name c scope how pure).scope
  function_name_has c scope function_kind.Declaration pure h = h
  function_name_has c scope how pure h = h

  class_name_has : (c : Context) (scope : ℕ) (how : ClassKind) → Has c.scope → Has (at_class_name c scope how).scope
  class_name_has c scope class_kind.Declaration h = h
  class_name_has c scope class_kind.Expression h = h

  beside_has : (c : Context) (k : Kind) (at : ℕ) → Has c.scope → Has (beside c k at).scope
  beside_has c (method_definition how is_static key) at h = either (at == 1) _ _ (λ e. method_has c how h) h
  beside_has c (variable_declaration how) at h = variables_has c how h
  beside_has c (assignment_expression operator) at h = either (at == 0) _ _ (λ e. h) h
  beside_has c (member_expression key optional) at h = either (at == 0) _ _ (λ e. h) h
  beside_has c (target_property key) at h = either (at == 1) _ _ (λ e. h) h
  beside_has c target_default at h = either (at == 0) _ _ (λ e. h) h
  beside_has c k at h = h

  -- the scope around a child in which a call stands has the bit
  inside_has : (c : Context) (n : ℕ) (k : Kind) (below : Forest) (at : ℕ) → Has c.scope → (opens k below ≡ true → B n ≡ has_eval (scope_row k below)) → eval_at at below ≡ true → Has (inside c n k below at).scope
  inside_has c n (program source) below at h own e = own refl ∙ any at below e
  inside_has c n (function how pure) below at h own e =
      let here = own refl ∙ any at below e in
      either (at == 0) _ _ (λ z. function_name_has c n how pure h) (either (at == 1) _ _ (λ z. here) here)
  inside_has c n (class how) below at h own e = either (at == 0) _ _ (λ z. class_name_has c n how h) (own refl ∙ any at below e)
  inside_has c n static_block below at h own e = own refl ∙ any at below e
  inside_has c n (property_definition is_static key) below at h own e =
      either (has_second below && at == 1) _ _ (λ z. let p = and_parts (has_second below) (at == 1) z in own p.0 ∙ any_behind at below p.1 e) h
  inside_has c n block_statement below at h own e = own refl ∙ any at below e
  inside_has c n switch_statement below at h own e = either (at == 1) _ _ (λ z. own refl ∙ any_behind at below z e) h
  inside_has c n with_statement below at h own e = either (at == 1) _ _ (λ z. own refl ∙ any_behind at below z e) h
  inside_has c n catch_clause below at h own e = let here = own refl ∙ any at below e in either (at == 0) _ _ (λ z. here) here
  inside_has c n for_statement below at h own e = own refl ∙ any at below e
  inside_has c n for_in_statement below at h own e = let here = own refl ∙ any at below e in either (at == 0) _ _ (λ z. here) here
  inside_has c n for_of_statement below at h own e = let here = own refl ∙ any at below e in either (at == 0) _ _ (λ z. here) here
  inside_has c n k below at h own e = beside_has c k at h

  fine_own : (b : Bool) (x : ScopeSite) (n : ℕ) (zs : List ScopeSite) → IsFine x → Known n (own_scope b x zs) → (Known (n + (if b then 1 else 0)) zs → AllFine zs) → AllFine (own_scope b x zs)
  fine_own true x n zs fine known left = (fine, left known.1)
  fine_own false x n zs fine known left = left (known_at zs n (n + 0) (Prim.omega arith) known)

  first_known : (b : Bool) (x : ScopeSite) (n : ℕ) (zs : List ScopeSite) → Known n (own_scope b x zs) → b ≡ true → B n ≡ has x.flags
  first_known true x n zs known e = known.0
  first_known false x n zs known e = never e

  abbrev Under : (cs : ℕ → Context) → (at : ℕ) → Forest → Type 0
  Under cs at t = (i j : ℕ) → j ≡ at + i → eval_at i t ≡ true → Has (cs j).scope

  fine_row : (cs : ℕ → Context) (at n : ℕ) (t : Forest) (ys : List ScopeSite) → Under cs at t → Known n (scopes_row cs at n t ys) → (Known (n + scope_count t) ys → AllFine ys) → AllFine (scopes_row cs at n t ys)
  fine_row cs at n nothing ys under known left = left (known_at ys n (n + 0) (Prim.omega arith) known)
  fine_row cs at n (absent rest) ys under known left = fine_row cs (suc at) n rest ys (λ i j is e. under (suc i) j (Prim.omega (arith, is)) e) known left
  fine_row cs at n (node k note below rest) ys under known left =
      let x = scope_of (cs at) note k below in
      let more = scopes_row cs (suc at) (n + scope_count (node k note below nothing)) rest ys in
      let inner = scopes_row (inside (cs at) n k below) 0 (n + opens_one k below) below more in
      let called = is_some (eval_of_call k below) in
      let here : has_eval below ≡ true → Has (cs at).scope = λ e. under 0 at (Prim.omega arith) (or_right called (has_eval below) e) in
      let own : opens k below ≡ true → B n ≡ has_eval (scope_row k below) = λ o. first_known (opens k below) x n inner known o ∙ has_told (cs at) k below in
      fine_own (opens k below) x n inner (record { same = same_told (cs at) k below; up = λ e. here (row_part k below (sym (has_told (cs at) k below) ∙ e)) }) known
      (λ kn.
      fine_row (inside (cs at) n k below) 0 (n + opens_one k below) below more (λ i j is e. (
      let same : i ≡ j = Prim.omega (arith, is) in
      inside_has (cs at) n k below j (here (any i below e)) own (subst (λ m. eval_at m below ≡ true) same e))) kn
      (λ kn2.
      fine_row cs (suc at) (n + scope_count (node k note below nothing)) rest ys (λ i j is e. under (suc i) j (Prim.omega (arith, is)) e)
      (known_at more (n + opens_one k below + scope_count below) (n + scope_count (node k note below nothing)) (Prim.omega arith) kn2)
      (λ kn3. left (known_at ys (n + scope_count (node k note below nothing) + scope_count rest) (n + scope_count (node k note below rest)) (Prim.omega arith) kn3))))

  -- ---- marks that have the bit

  abbrev AllHave : List ℕ → Type 0
  AllHave [] = Unit {0}
  AllHave (m ∷ ms) = (B m ≡ true) × AllHave ms

  ids_have : (first : ℕ) (ss : List ScopeSite) → Known first ss → AllHave (ids (scopes_with first ss))
  ids_have first [] known = tt
  ids_have first (x ∷ ss) known =
      elim (has x.flags) as (λ b. has x.flags ≡ b → AllHave ((if b then first ∷ [] else []) ++ ids (scopes_with (first + 1) ss)))
      [ true ↦ λ e. (known.0 ∙ e, ids_have (first + 1) ss known.1) | false ↦ λ e. ids_have (first + 1) ss known.1 ] refl

  -- ---- a table whose scopes have it so

  module _ (s : Scoping) (up : (m : ℕ) → B m ≡ true → Has (scope_at s m).parent) where
    chain_has : (n most : ℕ) (o : Option ℕ) → Has o → list_any (nat_eq n) (scopes_up most s o) ≡ true → B n ≡ true
    chain_has n zero o h e = never e
    chain_has n (suc most) None h e = never e
    chain_has n (suc most) (Some m) h e =
        elim (nat_eq n m) as (λ b. nat_eq n m ≡ b → b || list_any (nat_eq n) (scopes_up most s (scope_at s m).parent) ≡ true → B n ≡ true)
        [ true ↦ λ same _. ap B (eqb-true n m same) ∙ h | false ↦ λ _ rest. chain_has n most (scope_at s m).parent (up m h) rest ] refl e

    around_has : (n : ℕ) (ms : List ℕ) → AllHave ms → is_around s ms n ≡ true → B n ≡ true
    around_has n [] h e = never e
    around_has n (m ∷ ms) h e =
        elim (list_any (nat_eq n) (ancestors s m)) as (λ b. list_any (nat_eq n) (ancestors s m) ≡ b → b || is_around s ms n ≡ true → B n ≡ true)
        [ true ↦ λ here _. chain_has n (length s.scopes) (Some m) h.0 here | false ↦ λ _ rest. around_has n ms h.1 rest ] refl e

  known_of : (all : List Binding) (next first : ℕ) (ss : List ScopeSite) → ((n j : ℕ) → j ≡ first + n → B j ≡ has (slice_index_or (scopes_from all next ss) n no_scope).flags) → Known first ss
  known_of all next first [] h = tt
  known_of all next first (x ∷ ss) h = (h 0 first (Prim.omega arith), known_of all (suc next) (first + 1) ss (λ n j is. h (suc n) j (Prim.omega (arith, is))))

  up_of : (all : List Binding) (next : ℕ) (ss : List ScopeSite) (m : ℕ) → AllFine ss → has (slice_index_or (scopes_from all next ss) m no_scope).flags ≡ true → Has (slice_index_or (scopes_from all next ss) m no_scope).parent
  up_of all next [] m fine e = tt
  up_of all next (x ∷ ss) zero fine e = (fine.0).up e
  up_of all next (x ∷ ss) (suc m) fine e = up_of all (suc next) ss m fine.1 e

  one_same : (b : Bool) (x : Scope) → b ≡ has x.flags → IsSame x.flags → (if b then with_eval (without_eval x) else without_eval x) ≡ x
  one_same true x e g = ap (λ f. record x { flags = f }) (ap (λ b. told_again b x.flags) e ∙ g)
  one_same false x e g = ap (λ f. record x { flags = f }) (ap (λ b. told_again b x.flags) e ∙ g)

  flagged_same : (test : ℕ → Bool) → ((n : ℕ) → test n ≡ B n) → (all : List Binding) (next first : ℕ) (ss : List ScopeSite) → next ≡ first → Known first ss → AllFine ss → flagged test next (scopes_from all next ss) ≡ scopes_from all next ss
  flagged_same test same all next first [] is known fine = refl
  flagged_same test same all next first (x ∷ ss) is known fine = λ i.
      one_same (test next) (record { parent = x.parent; flags = x.flags; bindings = names_from all next 0 all }) (same next ∙ ap B is ∙ known.0) (fine.0).same i ∷ flagged_same test same all (suc next) (first + 1) ss (Prim.omega (arith, is)) known.1 fine.1 i

-- ---- one that has the bit is among the marks

found : (P : ℕ → Bool) (all : List Binding) (next first n m : ℕ) (ss : List ScopeSite) → m ≡ first + n → has (slice_index_or (scopes_from all next ss) n no_scope).flags ≡ true → P m ≡ true → list_any P (ids (scopes_with first ss)) ≡ true
found P all next first n m [] is e h = never e
found P all next first zero m (x ∷ ss) is e h =
    let same : m ≡ first = Prim.omega (arith, is) in
    subst (λ b. list_any P ((if b then first ∷ [] else []) ++ ids (scopes_with (first + 1) ss)) ≡ true) (sym e) (or_left (P first) (list_any P (ids (scopes_with (first + 1) ss))) (ap P (sym same) ∙ h))
found P all next first (suc n) m (x ∷ ss) is e h =
    let rest : list_any P (ids (scopes_with (first + 1) ss)) ≡ true = found P all (suc next) (first + 1) n m ss (Prim.omega (arith, is)) e h in
    elim (has x.flags) as (λ b. list_any P ((if b then first ∷ [] else []) ++ ids (scopes_with (first + 1) ss)) ≡ true)
    [ true ↦ or_right (P first) (list_any P (ids (scopes_with (first + 1) ss))) rest | false ↦ rest ]

itself : (all : List Binding) (ss : List ScopeSite) (s : Scoping) (n : ℕ) → has (slice_index_or (scopes_from all 0 ss) n no_scope).flags ≡ true → list_any (nat_eq n) (scopes_up (length (scopes_from all 0 ss)) s (Some n)) ≡ true
itself all [] s n e = never e
itself all (x ∷ ss) s n e = or_left (nat_eq n n) (list_any (nat_eq n) (scopes_up (length (scopes_from all 1 ss)) s (scope_at s n).parent)) (eq-eqb n n refl)

-- ---- the table of a program

both : (a b : Bool) → (a ≡ true → b ≡ true) → (b ≡ true → a ≡ true) → a ≡ b
both true b f g = sym (f refl)
both false true f g = never (g refl)
both false false f g = refl

pub stays : (t : Forest) → let f = found_in (sites_of t) in refreshed (marked (first_marks (symbols_declared f.bindings)) t) (scoping_of f) ≡ scoping_of f
stays t =
    let f = found_in (sites_of t) in
    let s = scoping_of f in
    let u = marked (first_marks (symbols_declared f.bindings)) t in
    let ss = scopes_among (sites_of t) in
    let all = symbols_of f.bindings in
    let B : ℕ → Bool = λ n. has (scope_at s n).flags in
    let known : Known B 0 ss = known_of B all 0 0 ss (λ n j is. (let same : j ≡ n = Prim.omega (arith, is) in ap B same)) in
    let row_known : Known B 0 (scopes_row (λ at. outermost) 0 0 t []) = subst (λ xs. Known B 0 xs) (all_scopes t) known in
    let fine : AllFine B ss = subst (λ xs. AllFine B xs) (sym (all_scopes t)) (fine_row B (λ at. outermost) 0 0 t [] (λ i j is e. tt) row_known (λ k. tt)) in
    let marks : eval_scopes u ≡ ids (scopes_with 0 ss) = eval_ids u ∙ ap (λ (g : Found). ids g.scopes) (found_marked (first_marks (symbols_declared f.bindings)) t) in
    let up : (m : ℕ) → B m ≡ true → Has B (scope_at s m).parent = λ m e. up_of B all 0 ss m fine e in
    let same : (n : ℕ) → is_around s (eval_scopes u) n ≡ B n = λ n. ap (λ ms. is_around s ms n) marks
    ∙ both (is_around s (ids (scopes_with 0 ss)) n) (B n) (around_has B s up n (ids (scopes_with 0 ss)) (ids_have B 0 ss known))
    (λ e. found (λ m. list_any (nat_eq n) (ancestors s m)) all 0 0 n n ss (Prim.omega arith) e (itself all ss s n e)) in
    ap (λ xs. record s { scopes = xs }) (flagged_same B (is_around s (eval_scopes u)) same all 0 0 ss refl known fine)
