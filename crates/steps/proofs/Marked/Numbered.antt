-- The flags of a table that is made of a program tell of the program once it is marked.
use Rattle.std.proofs.Common.{◌≡◌, ◌∙◌, ◌≤◌, ◌+◌, ◌==◌, ℕ, zero, suc, List, [], ◌∷◌, ◌++◌, length, Bool, true, false, not, ◌&&◌, ◌||◌, true≢false, if◌then◌else◌, slice_get, slice_index_or, Some, refl, sym, ap, ap₂, subst, arith, eqb-true}
use Rattle.std.proofs.lemmas.Bool.{and_parts, false_from_ne_true}
use Rattle.std.proofs.lemmas.List.{length-append}
use Rattle.js_syntax.specs.declared.node_kind.NodeKind.{NodeKind as Kind}
use Rattle.js_syntax.specs.declared.node_kind.NodeKind.TheVariants as kind
use Rattle.js_syntax.specs.declared.kind.FunctionKind.{FunctionKind}
use Rattle.js_syntax.specs.declared.kind.FunctionKind.TheVariants as function_kind
use Rattle.js_syntax.specs.declared.kind.ClassKind.{ClassKind}
use Rattle.js_syntax.specs.declared.kind.ClassKind.TheVariants as class_kind
use Rattle.js_syntax.specs.declared.kind.MethodKind.{MethodKind}
use Rattle.js_syntax.specs.declared.kind.MethodKind.TheVariants as method_kind
use Rattle.js_syntax.specs.declared.kind.VariableKind.{VariableKind}
use Rattle.js_syntax.specs.declared.kind.VariableKind.TheVariants as variable
use Rattle.js_syntax.specs.declared.scalar.SourceType.{SourceType}
use Rattle.js_syntax.specs.declared.scalar.SourceType.TheVariants as source_type
use Rattle.js_syntax.specs.Class.{root}
use Rattle.js_syntax.specs.Node.{Forest, Note, nothing, node, absent}
use Rattle.json_shape.specs.Shape.{Fits}
use Rattle.form_rules.specs.Context.{is_module, is_strict_list, is_strict_function, behind_first}
use Rattle.scope_rules.specs.declared.layer.Layer.{Layer}
use Rattle.scope_rules.specs.declared.layer.Role.{Role}
use Rattle.scope_rules.specs.Context.{Context, opens, has_second, in_body, in_block as scope_block, declares, at_function_name as function_name_context, at_parameters, in_function, at_class_name as class_name_context, below_it, used, of_method, beside, inside, outermost}
use Rattle.scope_rules.specs.Site.{Site, scope_site, ScopeSite, Found, found_in, bit, function_bits, scope_bits, has_eval, name_sites, own_sites, opens_one, scope_count, sites, sites_of, scopes_among}
use Rattle.scope_rules.specs.Binding.{Binding}
use Rattle.scope_rules.specs.Table.{Scoping, symbols_of, scopes_from, symbols_declared, scoping_of}
use Rattle.scope_rules.specs.Mark.{Marks, marked, first_marks}
use Rattle.scope_table.specs.Reading.{no_scope, scope_at}
use Rattle.scope_laws.specs.Renumbered.{scopes_from as scopes_with}
use Rattle.scope_laws.proofs.Marking.{found_marked}
use Rattle.scope_laws.proofs.Bindings.{none_is_some, same_value}
use Rattle.steps.proofs.Fit.Modules.{fits_program}
use Rattle.steps.specs.Allowed.Exposure.{Exposure, in_code, in_block, declaring, shares, is_script_source, is_script, at_function_name, at_class_name, exposed_inside}
use Rattle.steps.specs.Owed.Kept.{is_program}
use Rattle.steps.specs.Marked.Flags.{has_bits, scope_has, Stand, declares_in, stand_inside, stands_of, Tells, Told, FlagsTell}
use Rattle.steps.proofs.Marked.Exposing.{never}

-- ---- lists of sites

get_left : {X : Type 0} (xs ys : List X) (n : ℕ) (x : X) → slice_get xs n ≡ Some x → slice_get (xs ++ ys) n ≡ Some x
get_left [] ys n x e = absurd (none_is_some e)
get_left (a ∷ xs) ys zero x e = e
get_left (a ∷ xs) ys (suc n) x e = get_left xs ys n x e

get_right : {X : Type 0} (xs ys : List X) (n : ℕ) (x : X) → slice_get ys n ≡ Some x → slice_get (xs ++ ys) (length xs + n) ≡ Some x
get_right [] ys n x e = let same : n ≡ 0 + n = Prim.omega arith in subst (λ m. slice_get ys m ≡ Some x) same e
get_right (a ∷ xs) ys n x e = let same : suc (length xs + n) ≡ suc (length xs) + n = Prim.omega arith in subst (λ m. slice_get (a ∷ (xs ++ ys)) m ≡ Some x) same (get_right xs ys n x e)

scopes_append : (xs ys : List Site) → scopes_among (xs ++ ys) ≡ scopes_among xs ++ scopes_among ys
scopes_append [] ys = refl
scopes_append (scope_site x ∷ xs) ys = ap (λ l. x ∷ l) (scopes_append xs ys)
scopes_append (Site.binding_site x ∷ xs) ys = scopes_append xs ys
scopes_append (Site.reference_site x ∷ xs) ys = scopes_append xs ys

no_scopes : (c : Context) (n : Note) (k : Kind) → scopes_among (name_sites c n k) ≡ []
no_scopes c n (kind.BindingName x) = refl
no_scopes c n (kind.ReferenceName x) = refl
no_scopes c n (kind.TargetName x) = refl
no_scopes c n k = refl

own_scopes : (b : Bool) (x : ScopeSite) (names : List Site) → scopes_among names ≡ [] → length (scopes_among ((if b then scope_site x ∷ [] else []) ++ names)) ≡ bit b 1
own_scopes true x names e = ap (λ (l : List ScopeSite). suc (length l)) e
own_scopes false x names e = ap (λ (l : List ScopeSite). length l) e

own_count : (c : Context) (n : Note) (k : Kind) (below : Forest) → length (scopes_among (own_sites c n k below)) ≡ opens_one k below
own_count c n k below = own_scopes (opens k below) _ (name_sites c n k) (no_scopes c n k)

count : (cs : ℕ → Context) (at next : ℕ) (t : Forest) → length (scopes_among (sites cs at next t)) ≡ scope_count t
count cs at next nothing = refl
count cs at next (absent rest) = count cs (suc at) next rest
count cs at next (node k n below rest) =
    let own = own_sites (cs at) n k below in
    let inner = sites (inside (cs at) next k below) 0 (next + opens_one k below) below in
    let outer = sites cs (suc at) (next + scope_count (node k n below nothing)) rest in
    ap length (scopes_append (own ++ inner) outer)
    ∙ length-append (scopes_among (own ++ inner)) (scopes_among outer)
    ∙ ap₂ (λ (a b : ℕ). a + b)
    (ap length (scopes_append own inner) ∙ length-append (scopes_among own) (scopes_among inner)
    ∙ ap₂ (λ (a b : ℕ). a + b) (own_count (cs at) n k below) (count (inside (cs at) next k below) 0 (next + opens_one k below) below))
    (count cs (suc at) (next + scope_count (node k n below nothing)) rest)

node_count : (cs : ℕ → Context) (at next : ℕ) (k : Kind) (n : Note) (below : Forest)
    → length (scopes_among (own_sites (cs at) n k below ++ sites (inside (cs at) next k below) 0 (next + opens_one k below) below)) ≡ scope_count (node k n below nothing)
node_count cs at next k n below =
    let inner = sites (inside (cs at) next k below) 0 (next + opens_one k below) below in
    ap length (scopes_append (own_sites (cs at) n k below) inner) ∙ length-append (scopes_among (own_sites (cs at) n k below)) (scopes_among inner)
    ∙ Prim.omega (arith, own_count (cs at) n k below, count (inside (cs at) next k below) 0 (next + opens_one k below) below)

first_scope : (b : Bool) (x : ScopeSite) (names more others : List Site) → b ≡ true → slice_get (scopes_among ((((if b then scope_site x ∷ [] else []) ++ names) ++ more) ++ others)) 0 ≡ Some x
first_scope true x names more others e = refl
first_scope false x names more others e = never e

-- ---- bits of flags

abbrev flags_of : (form : ℕ) → (strict evaluates : Bool) → ℕ
flags_of form strict evaluates = bit strict 1 + form + bit evaluates 512

abbrev is_sloppy : ℕ → Bool
is_sloppy flags = not (has_bits flags 1 || has_bits flags 2 || has_bits flags 4 || has_bits flags 16)

-- a form of scope leaves the bit of `eval` free
record IsForm (form : ℕ) : Type 0 where
  evaluates : (a : Bool) → has_bits (flags_of form a true) 512 ≡ true

-- and is a block's
record IsBlock (form : ℕ) : Type 0 where
  evaluates : (a : Bool) → has_bits (flags_of form a true) 512 ≡ true
  sloppy : (b : Bool) → is_sloppy (flags_of form false b) ≡ true

by_bit : (P : Bool → Type 0) → P true → P false → (a : Bool) → P a
by_bit P f g true = f
by_bit P f g false = g

function_form : (how : FunctionKind) (constructs : Bool) → IsForm (function_bits how constructs)
function_form function_kind.Arrow constructs = record { evaluates = by_bit _ refl refl }
function_form function_kind.Declaration true = record { evaluates = by_bit _ refl refl }
function_form function_kind.Declaration false = record { evaluates = by_bit _ refl refl }
function_form function_kind.Expression true = record { evaluates = by_bit _ refl refl }
function_form function_kind.Expression false = record { evaluates = by_bit _ refl refl }

program_form : IsForm 2
program_form = record { evaluates = by_bit _ refl refl }

static_form : IsForm 16
static_form = record { evaluates = by_bit _ refl refl }

block_form : IsBlock 64
block_form = record { evaluates = by_bit _ refl refl; sloppy = by_bit _ refl refl }

catch_form : IsBlock 128
catch_form = record { evaluates = by_bit _ refl refl; sloppy = by_bit _ refl refl }

with_form : IsBlock 256
with_form = record { evaluates = by_bit _ refl refl; sloppy = by_bit _ refl refl }

plain_form : IsBlock 0
plain_form = record { evaluates = by_bit _ refl refl; sloppy = by_bit _ refl refl }

-- ---- contexts are as strict as what is around them

strict_if : (b : Bool) (c d : Context) (s : Bool) → c.strict ≡ s → d.strict ≡ s → (if b then c else d).strict ≡ s
strict_if true c d s e f = e
strict_if false c d s e f = f

strict_method : (c : Context) (how : MethodKind) → (of_method c how).strict ≡ c.strict
strict_method c method_kind.Constructor = refl
strict_method c how = refl

strict_beside : (c : Context) (k : Kind) (at : ℕ) → (beside c k at).strict ≡ c.strict
strict_beside c (kind.MethodDefinition how is_static key) at = strict_if (at == 1) (of_method c how) (below_it c) c.strict (strict_method c how) refl
strict_beside c (kind.VariableDeclaration variable.Var) at = refl
strict_beside c (kind.VariableDeclaration variable.Let) at = refl
strict_beside c (kind.VariableDeclaration variable.Const) at = refl
strict_beside c (kind.AssignmentExpression operator) at = strict_if (at == 0) _ (below_it c) c.strict refl refl
strict_beside c (kind.MemberExpression key optional) at = strict_if (at == 0) _ (below_it c) c.strict refl refl
strict_beside c (kind.TargetProperty key) at = strict_if (at == 1) _ (below_it c) c.strict refl refl
strict_beside c kind.TargetDefault at = strict_if (at == 0) _ (below_it c) c.strict refl refl
strict_beside c k at = refl

strict_function_name : (c : Context) (next : ℕ) (how : FunctionKind) (pure : Bool) → (function_name_context c next how pure).strict ≡ c.strict
strict_function_name c next function_kind.Declaration pure = refl
strict_function_name c next function_kind.Expression pure = refl
strict_function_name c next function_kind.Arrow pure = refl

strict_class_name : (c : Context) (next : ℕ) (how : ClassKind) → (class_name_context c next how).strict ≡ c.strict
strict_class_name c next class_kind.Declaration = refl
strict_class_name c next class_kind.Expression = refl

module _ (s : Scoping) (script : Bool) where
  -- a context and a place of one node
  record Fine (c : Context) (p : Stand) : Type 0 where
    strict : c.strict ≡ p.exposure.strict
    tells : Tells s script p

  -- the node is marked with its scope's number, and the table has the flags there
  record IsMade (c : Context) (next : ℕ) (k : Kind) (n : Note) (below : Forest) : Type 0 where
    mark : n.id ≡ Some next
    flags : (scope_at s next).flags ≡ scope_bits c k below

  evaluated : (next form : ℕ) (strict : Bool) (row : Forest) → (scope_at s next).flags ≡ flags_of form strict (has_eval row) → ((a : Bool) → has_bits (flags_of form a true) 512 ≡ true) → has_eval row ≡ true → scope_has s next 512 ≡ true
  evaluated next form strict row flags f e = ap (λ (n : ℕ). has_bits n 512) flags ∙ ap (λ b. has_bits (flags_of form strict b) 512) e ∙ f strict

  turned : (b : Bool) → not b ≡ true → b ≡ false
  turned true e = absurd (true≢false (sym e))
  turned false e = refl

  -- the code of a function, a static block, or a program in another
  code_tells : (p : Stand) (n : Note) (next form : ℕ) (strict now : Bool) (row : Forest) → n.id ≡ Some next → (scope_at s next).flags ≡ flags_of form strict (has_eval row) → IsForm form → Tells s script p
      → Tells s script (record { exposure = in_code p.exposure false now row; scope = n.id; variables = n.id; declaring = p.declaring })
  code_tells p n next form strict now row mark flags f h = record {
    scope = next;
    scope_is = mark;
    variables = next;
    variables_is = mark;
    declaring = h.declaring;
    declaring_is = h.declaring_is;
    evaluates = evaluated next form strict row flags f.evaluates;
    sloppy = λ e. never e;
    names = λ e. never e;
    variable_names = λ e. never e;
    declared = h.declared;
  }

  -- a scope through which `var` passes
  block_tells : (p : Stand) (n : Note) (next form : ℕ) (strict : Bool) (row : Forest) → n.id ≡ Some next → (scope_at s next).flags ≡ flags_of form strict (has_eval row) → IsBlock form → Tells s script p
      → (now : Bool) → strict ≡ now → Tells s script (record { exposure = in_block p.exposure now row; scope = n.id; variables = p.variables; declaring = p.declaring })
  block_tells p n next form strict row mark flags f h now same = record {
    scope = next;
    scope_is = mark;
    variables = h.variables;
    variables_is = h.variables_is;
    declaring = h.declaring;
    declaring_is = h.declaring_is;
    evaluates = evaluated next form strict row flags f.evaluates;
    sloppy = λ e. ap is_sloppy flags ∙ ap (λ b. is_sloppy (flags_of form b (has_eval row))) (same ∙ turned now e) ∙ f.sloppy (has_eval row);
    names = λ e. never e;
    variable_names = h.variable_names;
    declared = h.declared;
  }

  -- below a declaration that shares nothing, one that declares in the innermost scope, and one where `var` does
  apart_tells : (p : Stand) → Tells s script p → Tells s script (record { exposure = declaring p.exposure false; scope = p.scope; variables = p.variables; declaring = p.declaring })
  apart_tells p h = record {
    scope = h.scope;
    scope_is = h.scope_is;
    variables = h.variables;
    variables_is = h.variables_is;
    declaring = h.declaring;
    declaring_is = h.declaring_is;
    evaluates = h.evaluates;
    sloppy = h.sloppy;
    names = h.names;
    variable_names = h.variable_names;
    declared = λ e. never e;
  }

  names_tell : (p : Stand) → Tells s script p → Tells s script (record { exposure = declaring p.exposure p.exposure.names_shared; scope = p.scope; variables = p.variables; declaring = p.scope })
  names_tell p h = record {
    scope = h.scope;
    scope_is = h.scope_is;
    variables = h.variables;
    variables_is = h.variables_is;
    declaring = h.scope;
    declaring_is = h.scope_is;
    evaluates = h.evaluates;
    sloppy = h.sloppy;
    names = h.names;
    variable_names = h.variable_names;
    declared = h.names;
  }

  variables_tell : (p : Stand) → Tells s script p → (how : VariableKind) → Tells s script (record { exposure = declaring p.exposure (shares p.exposure how); scope = p.scope; variables = p.variables; declaring = declares_in p how })
  variables_tell p h variable.Let = names_tell p h
  variables_tell p h variable.Const = names_tell p h
  variables_tell p h variable.Var = record {
    scope = h.scope;
    scope_is = h.scope_is;
    variables = h.variables;
    variables_is = h.variables_is;
    declaring = h.variables;
    declaring_is = h.variables_is;
    evaluates = h.evaluates;
    sloppy = h.sloppy;
    names = h.names;
    variable_names = h.variable_names;
    declared = h.variable_names;
  }

  -- ---- below a node

  field_tells : (p : Stand) (n : Note) (next form : ℕ) (strict : Bool) (row : Forest) (b : Bool) → (b ≡ true → (n.id ≡ Some next) × ((scope_at s next).flags ≡ flags_of form strict (has_eval row))) → IsBlock form → Tells s script p
      → (now : Bool) → strict ≡ now
      → Tells s script (record { exposure = if b then in_block p.exposure now row else p.exposure; scope = if b then n.id else p.scope; variables = p.variables; declaring = p.declaring })
  field_tells p n next form strict row true made f h now same = block_tells p n next form strict row (made refl).0 (made refl).1 f h now same
  field_tells p n next form strict row false made f h now same = h

  block_fine : (c : Context) (p : Stand) (n : Note) (next form : ℕ) (row : Forest) → n.id ≡ Some next → (scope_at s next).flags ≡ flags_of form c.strict (has_eval row) → IsBlock form → Fine c p
      → Fine (scope_block c next c.strict) (record { exposure = in_block p.exposure p.exposure.strict row; scope = n.id; variables = p.variables; declaring = p.declaring })
  block_fine c p n next form row mark flags f h = record { strict = h.strict; tells = block_tells p n next form c.strict row mark flags f h.tells p.exposure.strict h.strict }

  field_fine : (c : Context) (p : Stand) (n : Note) (next form : ℕ) (row : Forest) (b : Bool) → (b ≡ true → (n.id ≡ Some next) × ((scope_at s next).flags ≡ flags_of form c.strict (has_eval row))) → IsBlock form → Fine c p
      → Fine (if b then scope_block c next c.strict else below_it c) (record { exposure = if b then in_block p.exposure p.exposure.strict row else p.exposure; scope = if b then n.id else p.scope; variables = p.variables; declaring = p.declaring })
  field_fine c p n next form row true made f h = block_fine c p n next form row (made refl).0 (made refl).1 f h
  field_fine c p n next form row false made f h = record { strict = h.strict; tells = h.tells }

  catch_fine : (c : Context) (p : Stand) (n : Note) (next : ℕ) (l : Layer) (flag : ℕ) (row : Forest) → n.id ≡ Some next → (scope_at s next).flags ≡ flags_of 128 c.strict (has_eval row) → Fine c p → (first : Bool)
      → Fine (if first then declares (scope_block c next c.strict) l flag false else scope_block c next c.strict)
      (record { exposure = if first then declaring (in_block p.exposure p.exposure.strict row) false else in_block p.exposure p.exposure.strict row; scope = n.id; variables = p.variables; declaring = p.declaring })
  catch_fine c p n next l flag row mark flags h true = let b = block_fine c p n next 128 row mark flags catch_form h in record { strict = h.strict; tells = apart_tells _ b.tells }
  catch_fine c p n next l flag row mark flags h false = block_fine c p n next 128 row mark flags catch_form h

  -- a loop's first part may be a target
  head_fine : (c : Context) (p : Stand) (r : Role) (first : Bool) → Fine c p → Fine (if first then used r c else c) p
  head_fine c p r true h = record { strict = h.strict; tells = h.tells }
  head_fine c p r false h = h

  -- ---- functions and classes: their names, a function's parameters, and what lies in them

  module _ (c : Context) (p : Stand) (n : Note) (next : ℕ) (below : Forest) (mark : n.id ≡ Some next) (h : Fine c p) where
    abbrev strict_before : Bool
    strict_before = c.strict || is_strict_function below

    abbrev strict_there : Bool
    strict_there = p.exposure.strict || is_strict_function below

    abbrev body_stand : Stand
    body_stand = record { exposure = in_code p.exposure false strict_there below; scope = n.id; variables = n.id; declaring = p.declaring }

    abbrev parameters_stand : Stand
    parameters_stand = record { exposure = declaring (in_code p.exposure false strict_there below) false; scope = n.id; variables = n.id; declaring = p.declaring }

    same_strict : strict_before ≡ strict_there
    same_strict = ap (λ (b : Bool). b || is_strict_function below) h.strict

    module _ (how : FunctionKind) (pure : Bool) (flags : (scope_at s next).flags ≡ flags_of (function_bits how c.constructs) (c.strict || is_strict_function below) (has_eval below)) where
      body_fine : Fine (in_function c next how (c.strict || is_strict_function below)) body_stand
      body_fine = record { strict = same_strict; tells = code_tells p n next (function_bits how c.constructs) strict_before strict_there below mark flags (function_form how c.constructs) h.tells }

      parameters_fine : Fine (at_parameters c next how (c.strict || is_strict_function below)) parameters_stand
      parameters_fine = record { strict = same_strict; tells = apart_tells body_stand body_fine.tells }

      declaration_fine : (first second : Bool)
          → Fine (if first then function_name_context c next function_kind.Declaration pure else if second then at_parameters c next how (c.strict || is_strict_function below) else in_function c next how (c.strict || is_strict_function below))
          (record {
            exposure = if first then at_function_name p.exposure function_kind.Declaration else if second then declaring (in_code p.exposure false strict_there below) false else in_code p.exposure false strict_there below;
            scope = if not first then n.id else p.scope;
            variables = if not first then n.id else p.variables;
            declaring = if first then p.scope else p.declaring;
          })
      declaration_fine true second = record { strict = h.strict; tells = names_tell p h.tells }
      declaration_fine false true = parameters_fine
      declaration_fine false false = body_fine

      expression_fine : (d : Context) (e : Exposure) → d.strict ≡ c.strict → e ≡ declaring p.exposure false → (first second : Bool)
          → Fine (if first then d else if second then at_parameters c next how (c.strict || is_strict_function below) else in_function c next how (c.strict || is_strict_function below))
          (record {
            exposure = if first then e else if second then declaring (in_code p.exposure false strict_there below) false else in_code p.exposure false strict_there below;
            scope = if not first then n.id else p.scope;
            variables = if not first then n.id else p.variables;
            declaring = p.declaring;
          })
      expression_fine d e same is true second = record {
        strict = same ∙ h.strict ∙ ap (λ (x : Exposure). x.strict) (sym is);
        tells = subst (λ (x : Exposure). Tells s script (record { exposure = x; scope = p.scope; variables = p.variables; declaring = p.declaring })) (sym is) (apart_tells p h.tells);
      }
      expression_fine d e same is false true = parameters_fine
      expression_fine d e same is false false = body_fine

    module _ (flags : (scope_at s next).flags ≡ flags_of 0 true (has_eval below)) where
      members_fine : Fine (scope_block c next true) (record { exposure = in_block p.exposure true below; scope = n.id; variables = p.variables; declaring = p.declaring })
      members_fine = record { strict = refl; tells = block_tells p n next 0 true below mark flags plain_form h.tells true refl }

      class_fine : (first : Bool)
          → Fine (if first then class_name_context c next class_kind.Declaration else scope_block c next true)
          (record {
            exposure = if first then at_class_name p.exposure class_kind.Declaration else in_block p.exposure true below;
            scope = if not first then n.id else p.scope;
            variables = p.variables;
            declaring = if first then p.scope else p.declaring;
          })
      class_fine true = record { strict = h.strict; tells = names_tell p h.tells }
      class_fine false = members_fine

      class_expression_fine : (first : Bool)
          → Fine (if first then class_name_context c next class_kind.Expression else scope_block c next true)
          (record {
            exposure = if first then at_class_name p.exposure class_kind.Expression else in_block p.exposure true below;
            scope = if not first then n.id else p.scope;
            variables = p.variables;
            declaring = p.declaring;
          })
      class_expression_fine true = record { strict = h.strict; tells = apart_tells p h.tells }
      class_expression_fine false = members_fine

  -- ---- below any node

  module _ (c : Context) (p : Stand) (n : Note) (next : ℕ) (below : Forest) (h : Fine c p) (within : p.exposure.outside ≡ false) where
    fine_inside : (k : Kind) → (opens k below ≡ true → IsMade c next k n below) → (at : ℕ) → Fine (inside c next k below at) (stand_inside p k n below at)
    fine_inside (kind.Program source) made at =
        let strict = is_module source || is_strict_list below in
        let m = made refl in
        subst (λ (b : Bool). Fine (in_body c next strict) (record { exposure = in_code p.exposure (b && is_script_source source) strict below; scope = n.id; variables = n.id; declaring = p.declaring })) (sym within)
        (record { strict = refl; tells = code_tells p n next 2 strict strict below m.mark m.flags program_form h.tells })
    fine_inside (kind.Function function_kind.Declaration pure) made at = let m = made refl in declaration_fine c p n next below m.mark h function_kind.Declaration pure m.flags (at == 0) (at == 1)
    fine_inside (kind.Function function_kind.Expression pure) made at =
        let m = made refl in expression_fine c p n next below m.mark h function_kind.Expression pure m.flags (function_name_context c next function_kind.Expression pure) (at_function_name p.exposure function_kind.Expression) refl refl (at == 0) (at == 1)
    fine_inside (kind.Function function_kind.Arrow pure) made at =
        let m = made refl in expression_fine c p n next below m.mark h function_kind.Arrow pure m.flags (function_name_context c next function_kind.Arrow pure) (at_function_name p.exposure function_kind.Arrow) refl refl (at == 0) (at == 1)
    fine_inside (kind.Class class_kind.Declaration) made at = let m = made refl in class_fine c p n next below m.mark h m.flags (at == 0)
    fine_inside (kind.Class class_kind.Expression) made at = let m = made refl in class_expression_fine c p n next below m.mark h m.flags (at == 0)
    fine_inside kind.StaticBlock made at = let m = made refl in record { strict = h.strict; tells = code_tells p n next 16 c.strict p.exposure.strict below m.mark m.flags static_form h.tells }
    fine_inside (kind.PropertyDefinition is_static key) made at =
        field_fine c p n next 0 (behind_first below) (has_second below && at == 1) (λ e. let m = made (and_parts (has_second below) (at == 1) e).0 in (m.mark, m.flags)) plain_form h
    fine_inside kind.BlockStatement made at = let m = made refl in block_fine c p n next 64 below m.mark m.flags block_form h
    fine_inside kind.SwitchStatement made at = let m = made refl in field_fine c p n next 64 (behind_first below) (at == 1) (λ e. (m.mark, m.flags)) block_form h
    fine_inside kind.WithStatement made at = let m = made refl in field_fine c p n next 256 (behind_first below) (at == 1) (λ e. (m.mark, m.flags)) with_form h
    fine_inside kind.CatchClause made at = let m = made refl in catch_fine c p n next _ _ below m.mark m.flags h (at == 0)
    fine_inside kind.ForStatement made at = let m = made refl in block_fine c p n next 64 below m.mark m.flags block_form h
    fine_inside kind.ForInStatement made at = let m = made refl in head_fine _ _ _ (at == 0) (block_fine c p n next 64 below m.mark m.flags block_form h)
    fine_inside kind.ForOfStatement made at = let m = made refl in head_fine _ _ _ (at == 0) (block_fine c p n next 64 below m.mark m.flags block_form h)
    fine_inside (kind.VariableDeclaration variable.Var) made at = record { strict = h.strict; tells = variables_tell p h.tells variable.Var }
    fine_inside (kind.VariableDeclaration variable.Let) made at = record { strict = h.strict; tells = variables_tell p h.tells variable.Let }
    fine_inside (kind.VariableDeclaration variable.Const) made at = record { strict = h.strict; tells = variables_tell p h.tells variable.Const }
    fine_inside (kind.ImportDeclaration source) made at = record { strict = h.strict; tells = names_tell p h.tells }
    fine_inside k made at = record { strict = strict_beside c k at ∙ h.strict; tells = h.tells }

  -- ---- what lies in a program

  outside_if : (e f : Exposure) (b : Bool) → e.outside ≡ false → f.outside ≡ false → (if b then e else f).outside ≡ false
  outside_if e f true g h = g
  outside_if e f false g h = h

  outside_function : (e : Exposure) (how : FunctionKind) → e.outside ≡ false → (at_function_name e how).outside ≡ false
  outside_function e function_kind.Declaration o = o
  outside_function e function_kind.Expression o = o
  outside_function e function_kind.Arrow o = o

  outside_class : (e : Exposure) (how : ClassKind) → e.outside ≡ false → (at_class_name e how).outside ≡ false
  outside_class e class_kind.Declaration o = o
  outside_class e class_kind.Expression o = o

  outside_stays : (k : Kind) (e : Exposure) (below : Forest) (at : ℕ) → e.outside ≡ false → (exposed_inside e k below at).outside ≡ false
  outside_stays (kind.Program source) e below at o = refl
  outside_stays (kind.Function how pure) e below at o = outside_if _ _ (at == 0) (outside_function e how o) (outside_if _ _ (at == 1) refl refl)
  outside_stays (kind.Class how) e below at o = outside_if _ _ (at == 0) (outside_class e how o) o
  outside_stays kind.StaticBlock e below at o = refl
  outside_stays (kind.PropertyDefinition is_static key) e below at o = outside_if _ _ (has_second below && at == 1) o o
  outside_stays kind.BlockStatement e below at o = o
  outside_stays kind.SwitchStatement e below at o = outside_if _ _ (at == 1) o o
  outside_stays kind.WithStatement e below at o = outside_if _ _ (at == 1) o o
  outside_stays kind.CatchClause e below at o = outside_if _ _ (at == 0) o o
  outside_stays kind.ForStatement e below at o = o
  outside_stays kind.ForInStatement e below at o = o
  outside_stays kind.ForOfStatement e below at o = o
  outside_stays (kind.VariableDeclaration how) e below at o = o
  outside_stays (kind.ImportDeclaration source) e below at o = o
  outside_stays k e below at o = o

  -- ---- the scopes of a row, from a number on

  record IsKnown (m : ℕ) (x : ScopeSite) : Type 0 where
    mark : x.id ≡ Some m
    flags : (scope_at s m).flags ≡ x.flags

  abbrev ScopesFrom : (next : ℕ) → List Site → Type 0
  ScopesFrom next ss = (n : ℕ) (x : ScopeSite) → slice_get (scopes_among ss) n ≡ Some x → IsKnown (next + n) x

  from_left : (next : ℕ) (xs ys : List Site) → ScopesFrom next (xs ++ ys) → ScopesFrom next xs
  from_left next xs ys f n x e = f n x (subst (λ l. slice_get l n ≡ Some x) (sym (scopes_append xs ys)) (get_left (scopes_among xs) (scopes_among ys) n x e))

  from_right : (next number : ℕ) (xs ys : List Site) → length (scopes_among xs) ≡ number → ScopesFrom next (xs ++ ys) → ScopesFrom (next + number) ys
  from_right next number xs ys c f n x e =
      let same : next + (length (scopes_among xs) + n) ≡ next + number + n = Prim.omega (arith, c) in
      subst (λ m. IsKnown m x) same
      (f (length (scopes_among xs) + n) x (subst (λ l. slice_get l (length (scopes_among xs) + n) ≡ Some x) (sym (scopes_append xs ys)) (get_right (scopes_among xs) (scopes_among ys) n x e)))

  row_told : (f : Forest) (cs : ℕ → Context) (ps : ℕ → Stand) (at next : ℕ) → ((i : ℕ) → at ≤ i → (ps i).exposure.outside ≡ false) → ((i : ℕ) → Fine (cs i) (ps i)) → ScopesFrom next (sites cs at next f) → Told s script ps at f
  row_told nothing cs ps at next o h f = tt
  row_told (absent rest) cs ps at next o h f = row_told rest cs ps (suc at) next (λ i l. o i (Prim.omega (arith, l))) h f
  row_told (node k n below rest) cs ps at next o h f =
      let own_part = own_sites (cs at) n k below in
      let inner = sites (inside (cs at) next k below) 0 (next + opens_one k below) below in
      let outer = sites cs (suc at) (next + scope_count (node k n below nothing)) rest in
      let same : next + 0 ≡ next = Prim.omega arith in
      let made : opens k below ≡ true → IsMade (cs at) next k n below = λ e. (let m = f 0 _ (first_scope (opens k below) _ (name_sites (cs at) n k) inner outer e) in
      record { mark = subst (λ i. n.id ≡ Some i) same m.mark; flags = subst (λ i. (scope_at s i).flags ≡ scope_bits (cs at) k below) same m.flags }) in
      let within = o at (Prim.omega arith) in (
        (h at).tells,
        row_told below (inside (cs at) next k below) (stand_inside (ps at) k n below) 0 (next + opens_one k below) (λ i l. outside_stays k (ps at).exposure below i within) (fine_inside (cs at) (ps at) n next below (h at) within k made)
            (from_right next (opens_one k below) own_part inner (own_count (cs at) n k below) (from_left next (own_part ++ inner) outer f)),
        row_told rest cs ps (suc at) (next + scope_count (node k n below nothing)) (λ i l. o i (Prim.omega (arith, l))) h
            (from_right next (scope_count (node k n below nothing)) (own_part ++ inner) outer (node_count cs at next k n below) f),
      )

-- ---- whole programs

script_source : (source : SourceType) (n : Note) (below rest : Forest) → is_script (node (kind.Program source) n below rest) ≡ is_script_source source
script_source source_type.Script n below rest = refl
script_source source_type.Module n below rest = refl
script_source source_type.CommonJs n below rest = refl

and_true : (b : Bool) → b ≡ true → b && true ≡ true
and_true true e = refl
and_true false e = e

not_first : (i : ℕ) → 1 ≤ i → (i == 0) ≡ false
not_first i h = false_from_ne_true (i == 0) (λ e. Prim.omega (arith, h, eqb-true i 0 e))

program_told : (s : Scoping) (source : SourceType) (n : Note) (below rest : Forest) → let t = node (kind.Program source) n below rest in ScopesFrom s (is_script t) 0 (sites_of t) → FlagsTell s t
program_told s source n below rest from =
    let t = node (kind.Program source) n below rest in
    let script = is_script t in
    let strict = is_module source || is_strict_list below in
    let own_part = own_sites outermost n (kind.Program source) below in
    let inner = sites (inside outermost 0 (kind.Program source) below) 0 1 below in
    let outer = sites (λ at. outermost) 1 (0 + scope_count (node (kind.Program source) n below nothing)) rest in
    let made = from 0 _ (first_scope true _ (name_sites outermost n (kind.Program source)) inner outer refl) in
    let shared : is_script t ≡ true → is_script t && true ≡ true = and_true (is_script t) in
    let source_shared : is_script_source source ≡ true → is_script t && true ≡ true = λ e. and_true (is_script t) (script_source source n below rest ∙ e) in
    let has : has_eval below ≡ true → scope_has s 0 512 ≡ true = evaluated s script 0 2 strict below made.flags program_form.evaluates in
    let at_root : (i : ℕ) → Tells s script (stands_of t i) = λ i. record {
      scope = 0;
      scope_is = made.mark;
      variables = 0;
      variables_is = made.mark;
      declaring = 0;
      declaring_is = made.mark;
      evaluates = has;
      sloppy = λ e. never e;
      names = shared;
      variable_names = shared;
      declared = shared;
    } in (
      at_root 0,
      row_told s script below (inside outermost 0 (kind.Program source) below) (stand_inside (stands_of t 0) (kind.Program source) n below) 0 1 (λ i l. refl)
          (λ i. record {
            strict = refl;
            tells = record {
              scope = 0;
              scope_is = made.mark;
              variables = 0;
              variables_is = made.mark;
              declaring = 0;
              declaring_is = made.mark;
              evaluates = has;
              sloppy = λ e. never e;
              names = source_shared;
              variable_names = source_shared;
              declared = shared;
            };
          })
          (from_right s script 0 1 own_part inner (own_count outermost n (kind.Program source) below) (from_left s script 0 (own_part ++ inner) outer from)),
      row_told s script rest (λ at. outermost) (stands_of t) 1 (0 + scope_count (node (kind.Program source) n below nothing)) (λ i l. not_first i l) (λ i. record { strict = refl; tells = at_root i })
          (from_right s script 0 (scope_count (node (kind.Program source) n below nothing)) (own_part ++ inner) outer (node_count (λ at. outermost) 0 0 (kind.Program source) n below) from),
    )

told_of : (s : Scoping) (t : Forest) → is_program t ≡ true → ScopesFrom s (is_script t) 0 (sites_of t) → FlagsTell s t
told_of s (node (kind.Program source) n below rest) e from = program_told s source n below rest from
told_of s (node k n below rest) e from = absurd (true≢false (sym e))
told_of s (absent rest) e from = absurd (true≢false (sym e))
told_of s nothing e from = absurd (true≢false (sym e))

-- ---- a program that is marked by its table

pub marked_program : (m : Marks) (t : Forest) → is_program t ≡ true → is_program (marked m t) ≡ true
marked_program m (node (kind.Program source) n below rest) e = refl
marked_program m (node k n below rest) e = absurd (true≢false (sym e))
marked_program m (absent rest) e = absurd (true≢false (sym e))
marked_program m nothing e = absurd (true≢false (sym e))

scope_flags : (all : List Binding) (next first : ℕ) (ss : List ScopeSite) (n : ℕ) (x : ScopeSite) → slice_get (scopes_with first ss) n ≡ Some x → (slice_index_or (scopes_from all next ss) n no_scope).flags ≡ x.flags
scope_flags all next first [] n x e = absurd (none_is_some e)
scope_flags all next first (y ∷ ss) zero x e = ap (λ (z : ScopeSite). z.flags) (same_value e)
scope_flags all next first (y ∷ ss) (suc n) x e = scope_flags all (suc next) (first + 1) ss n x e

scope_mark : (first : ℕ) (ss : List ScopeSite) (n : ℕ) (x : ScopeSite) → slice_get (scopes_with first ss) n ≡ Some x → x.id ≡ Some (first + n)
scope_mark first [] n x e = absurd (none_is_some e)
scope_mark first (y ∷ ss) zero x e = let same : first ≡ first + 0 = Prim.omega arith in sym (ap (λ (z : ScopeSite). z.id) (same_value e)) ∙ ap Some same
scope_mark first (y ∷ ss) (suc n) x e = let same : first + 1 + n ≡ first + suc n = Prim.omega arith in scope_mark (first + 1) ss n x e ∙ ap Some same

pub marked_told : (t : Forest) → Fits root t → let f = found_in (sites_of t) in FlagsTell (scoping_of f) (marked (first_marks (symbols_declared f.bindings)) t)
marked_told t fits =
    let f = found_in (sites_of t) in
    let m = first_marks (symbols_declared f.bindings) in
    told_of (scoping_of f) (marked m t) (marked_program m t (fits_program t fits)) (λ n x e. (
    let stands : slice_get (scopes_with 0 f.scopes) n ≡ Some x = subst (λ (g : Found). slice_get g.scopes n ≡ Some x) (found_marked m t) e in
    let same : n ≡ 0 + n = Prim.omega arith in
    record { mark = scope_mark 0 f.scopes n x stands; flags = subst (λ i. (scope_at (scoping_of f) i).flags ≡ x.flags) same (scope_flags (symbols_of f.bindings) 0 0 f.scopes n x stands) }))
