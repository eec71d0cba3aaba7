-- What flags tell of a row they tell of it where something else is declared: of the scopes around it the same is told.
use Rattle.std.proofs.Common.{◌≡◌, ◌∙◌, ℕ, suc, Bool, true, false, ◌&&◌, ◌||◌, ◌==◌, if◌then◌else◌, Option, Some, refl, sym, ap}
use Rattle.js_syntax.specs.declared.node_kind.NodeKind.{NodeKind as Kind}
use Rattle.js_syntax.specs.declared.node_kind.NodeKind.TheVariants as kind
use Rattle.js_syntax.specs.declared.kind.FunctionKind.{FunctionKind}
use Rattle.js_syntax.specs.declared.kind.FunctionKind.TheVariants as function_kind
use Rattle.js_syntax.specs.declared.kind.ClassKind.{ClassKind}
use Rattle.js_syntax.specs.declared.kind.ClassKind.TheVariants as class_kind
use Rattle.js_syntax.specs.declared.kind.VariableKind.{VariableKind}
use Rattle.js_syntax.specs.declared.kind.VariableKind.TheVariants as variable
use Rattle.js_syntax.specs.Node.{Forest, Note, nothing, node, absent}
use Rattle.form_rules.specs.Context.{is_strict_function}
use Rattle.scope_rules.specs.Context.{has_second}
use Rattle.scope_rules.specs.Site.{scope_row}
use Rattle.scope_rules.specs.Table.{Scoping}
use Rattle.steps.specs.Allowed.Exposure.{Exposure, in_code, in_block, declaring, at_function_name, at_class_name, exposed_inside}
use Rattle.steps.specs.Marked.Flags.{Stand, is_within, holds_variables, stand_inside, Tells, Told}

-- ---- exposures that are the same but for what the declaration around declares

abbrev pub undeclared : Exposure → Exposure
undeclared e = declaring e false

strip_if : (c : Bool) (a b p q : Exposure) → undeclared a ≡ undeclared p → undeclared b ≡ undeclared q → undeclared (if c then a else b) ≡ undeclared (if c then p else q)
strip_if true a b p q f g = f
strip_if false a b p q f g = g

strip_inside : (e : Exposure) (k : Kind) (below : Forest) (at : ℕ) → undeclared (exposed_inside e k below at) ≡ undeclared (exposed_inside (undeclared e) k below at)
strip_inside e (kind.Program source) below at = refl
strip_inside e (kind.Function how pure) below at =
    let code = in_code e false (e.strict || is_strict_function below) below in
    let now = in_code (undeclared e) false (e.strict || is_strict_function below) below in
    let name : undeclared (at_function_name e how) ≡ undeclared (at_function_name (undeclared e) how) = function_name how in
    strip_if (at == 0) (at_function_name e how) (if at == 1 then declaring code false else code) (at_function_name (undeclared e) how) (if at == 1 then declaring now false else now) name
    (strip_if (at == 1) (declaring code false) code (declaring now false) now refl refl)
  where
    function_name : (how : FunctionKind) → undeclared (at_function_name e how) ≡ undeclared (at_function_name (undeclared e) how)
    function_name function_kind.Declaration = refl
    function_name function_kind.Expression = refl
    function_name function_kind.Arrow = refl
strip_inside e (kind.Class how) below at =
    strip_if (at == 0) (at_class_name e how) (in_block e true below) (at_class_name (undeclared e) how) (in_block (undeclared e) true below) (class_name how) refl
  where
    class_name : (how : ClassKind) → undeclared (at_class_name e how) ≡ undeclared (at_class_name (undeclared e) how)
    class_name class_kind.Declaration = refl
    class_name class_kind.Expression = refl
strip_inside e kind.StaticBlock below at = refl
strip_inside e (kind.PropertyDefinition is_static key) below at =
    let row = scope_row (kind.PropertyDefinition is_static key) below in
    strip_if (has_second below && at == 1) (in_block e e.strict row) e (in_block (undeclared e) e.strict row) (undeclared e) refl refl
strip_inside e kind.BlockStatement below at = refl
strip_inside e kind.SwitchStatement below at =
    let row = scope_row kind.SwitchStatement below in
    strip_if (at == 1) (in_block e e.strict row) e (in_block (undeclared e) e.strict row) (undeclared e) refl refl
strip_inside e kind.WithStatement below at =
    let row = scope_row kind.WithStatement below in
    strip_if (at == 1) (in_block e e.strict row) e (in_block (undeclared e) e.strict row) (undeclared e) refl refl
strip_inside e kind.CatchClause below at =
    strip_if (at == 0) (declaring (in_block e e.strict below) false) (in_block e e.strict below) (declaring (in_block (undeclared e) e.strict below) false) (in_block (undeclared e) e.strict below) refl refl
strip_inside e kind.ForStatement below at = refl
strip_inside e kind.ForInStatement below at = refl
strip_inside e kind.ForOfStatement below at = refl
strip_inside e (kind.VariableDeclaration how) below at = refl
strip_inside e (kind.ImportDeclaration source) below at = refl
strip_inside e k below at = refl

module _ (s : Scoping) (script : Bool) where
  -- ---- what is told of the declaration around

  abbrev Declaring : Option ℕ → Exposure → Type 0
  Declaring d e = (n : ℕ) × (d ≡ Some n) × (e.declared_shared ≡ true → script && n == 0 ≡ true)

  told_if : (c : Bool) (d f : Option ℕ) (a b : Exposure) → Declaring d a → Declaring f b → Declaring (if c then d else f) (if c then a else b)
  told_if true d f a b h g = h
  told_if false d f a b h g = g

  told_either : (c : Bool) (d : Option ℕ) (a b : Exposure) → Declaring d a → Declaring d b → Declaring d (if c then a else b)
  told_either true d a b h g = h
  told_either false d a b h g = g

  unshared : (n : ℕ) → false ≡ true → script && n == 0 ≡ true
  unshared n e = absurd cc

  module _ (p : Stand) (told : Tells s script p) where
    around : Declaring p.declaring p.exposure
    around = (told.declaring, told.declaring_is, told.declared)

    hidden : (e : Exposure) → e.declared_shared ≡ false → Declaring p.declaring e
    hidden e h = (told.declaring, told.declaring_is, λ g. unshared told.declaring (sym h ∙ g))

    names : Declaring p.scope (declaring p.exposure p.exposure.names_shared)
    names = (told.scope, told.scope_is, told.names)

    declaring_told : (k : Kind) (n : Note) (below : Forest) (at : ℕ) → Declaring (stand_inside p k n below at).declaring (stand_inside p k n below at).exposure
    declaring_told (kind.Program source) n below at = around
    declaring_told (kind.Function function_kind.Declaration pure) n below at =
        let e = p.exposure in
        let code = in_code e false (e.strict || is_strict_function below) below in
        told_if (at == 0) p.scope p.declaring (at_function_name e function_kind.Declaration) (if at == 1 then declaring code false else code) names
        (told_either (at == 1) p.declaring (declaring code false) code (hidden (declaring code false) refl) around)
    declaring_told (kind.Function function_kind.Expression pure) n below at =
        let e = p.exposure in
        let code = in_code e false (e.strict || is_strict_function below) below in
        told_either (at == 0) p.declaring (declaring e false) (if at == 1 then declaring code false else code) (hidden (declaring e false) refl)
        (told_either (at == 1) p.declaring (declaring code false) code (hidden (declaring code false) refl) around)
    declaring_told (kind.Function function_kind.Arrow pure) n below at =
        let e = p.exposure in
        let code = in_code e false (e.strict || is_strict_function below) below in
        told_either (at == 0) p.declaring (declaring e false) (if at == 1 then declaring code false else code) (hidden (declaring e false) refl)
        (told_either (at == 1) p.declaring (declaring code false) code (hidden (declaring code false) refl) around)
    declaring_told (kind.Class class_kind.Declaration) n below at = told_if (at == 0) p.scope p.declaring (at_class_name p.exposure class_kind.Declaration) (in_block p.exposure true below) names around
    declaring_told (kind.Class class_kind.Expression) n below at = told_either (at == 0) p.declaring (declaring p.exposure false) (in_block p.exposure true below) (hidden (declaring p.exposure false) refl) around
    declaring_told kind.StaticBlock n below at = around
    declaring_told (kind.PropertyDefinition is_static key) n below at =
        told_either (has_second below && at == 1) p.declaring (in_block p.exposure p.exposure.strict (scope_row (kind.PropertyDefinition is_static key) below)) p.exposure around around
    declaring_told kind.BlockStatement n below at = around
    declaring_told kind.SwitchStatement n below at = told_either (at == 1) p.declaring (in_block p.exposure p.exposure.strict (scope_row kind.SwitchStatement below)) p.exposure around around
    declaring_told kind.WithStatement n below at = told_either (at == 1) p.declaring (in_block p.exposure p.exposure.strict (scope_row kind.WithStatement below)) p.exposure around around
    declaring_told kind.CatchClause n below at =
        told_either (at == 0) p.declaring (declaring (in_block p.exposure p.exposure.strict below) false) (in_block p.exposure p.exposure.strict below) (hidden (declaring (in_block p.exposure p.exposure.strict below) false) refl) around
    declaring_told kind.ForStatement n below at = around
    declaring_told kind.ForInStatement n below at = around
    declaring_told kind.ForOfStatement n below at = around
    declaring_told (kind.VariableDeclaration variable.Var) n below at = (told.variables, told.variables_is, told.variable_names)
    declaring_told (kind.VariableDeclaration variable.Let) n below at = names
    declaring_told (kind.VariableDeclaration variable.Const) n below at = names
    declaring_told (kind.ImportDeclaration source) n below at = names
    declaring_told k n below at = around

  -- ---- a place, and the same where something else is declared

  pub record Redeclared (q p : Stand) : Type 0 where
    pub same : undeclared q.exposure ≡ undeclared p.exposure
    pub scope : q.scope ≡ p.scope
    pub variables : q.variables ≡ p.variables
    pub told : Declaring q.declaring q.exposure

  tells_again : {q p : Stand} → Redeclared q p → Tells s script p → Tells s script q
  tells_again r h = record {
    scope = h.scope;
    scope_is = r.scope ∙ h.scope_is;
    variables = h.variables;
    variables_is = r.variables ∙ h.variables_is;
    declaring = r.told.0;
    declaring_is = r.told.1;
    evaluates = λ e. h.evaluates (sym (ap (λ (x : Exposure). x.evaluates) r.same) ∙ e);
    sloppy = λ e. h.sloppy (sym (ap (λ (x : Exposure). x.in_sloppy_block) r.same) ∙ e);
    names = λ e. h.names (sym (ap (λ (x : Exposure). x.names_shared) r.same) ∙ e);
    variable_names = λ e. h.variable_names (sym (ap (λ (x : Exposure). x.variables_shared) r.same) ∙ e);
    declared = r.told.2;
  }

  pub stands_within : (q p : Stand) → Redeclared q p → Tells s script q → (k : Kind) (n : Note) (below : Forest) (at : ℕ) → Redeclared (stand_inside q k n below at) (stand_inside p k n below at)
  stands_within q p r h k n below at = record {
    same = strip_inside q.exposure k below at ∙ ap (λ e. undeclared (exposed_inside e k below at)) r.same ∙ sym (strip_inside p.exposure k below at);
    scope = ap (λ (o : Option ℕ). if is_within k below at then n.id else o) r.scope;
    variables = ap (λ (o : Option ℕ). if holds_variables k at then n.id else o) r.variables;
    told = declaring_told q h k n below at;
  }

  pub redeclared_told : (t : Forest) (qs ps : ℕ → Stand) (at : ℕ) → ((i : ℕ) → Redeclared (qs i) (ps i)) → Told s script ps at t → Told s script qs at t
  redeclared_told nothing qs ps at r h = tt
  redeclared_told (absent t) qs ps at r h = redeclared_told t qs ps (suc at) r h
  redeclared_told (node k n below t) qs ps at r h =
      let here = tells_again (r at) h.0 in (
        here,
        redeclared_told below (stand_inside (qs at) k n below) (stand_inside (ps at) k n below) 0 (λ i. stands_within (qs at) (ps at) (r at) here k n below i) h.1,
        redeclared_told t qs ps (suc at) r h.2,
      )

  -- what stands in a declaration, where the declaration stood
  pub out_of_declaration : (p : Stand) (how : VariableKind) (n : Note) (below : Forest) → Tells s script p → Redeclared p (stand_inside p (kind.VariableDeclaration how) n below 0)
  out_of_declaration p how n below h = record { same = refl; scope = refl; variables = refl; told = around p h }
