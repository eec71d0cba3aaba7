-- Who may use the names that a place declares does not depend on spans and ids.
use Rattle.std.proofs.Common.{◌≡◌, ◌∙◌, ◌==◌, ℕ, Bool, true, false, not, ◌&&◌, ◌||◌, if◌then◌else◌, Some, None, is_some, codes, bytes_eq, refl, ap, ap₂}
use Rattle.js_syntax.specs.declared.node_kind.NodeKind.{NodeKind as Kind}
use Rattle.js_syntax.specs.declared.node_kind.NodeKind.TheVariants as kind
use Rattle.js_syntax.specs.Node.{Forest, nothing, node, absent, bare, below_of}
use Rattle.js_tree.specs.Names.{eval_name, eval_of_call}
use Rattle.form_rules.specs.Context.{has_use_strict, is_module, is_strict_list, is_strict_function, behind_first}
use Rattle.scope_rules.specs.Context.{is_there, has_second}
use Rattle.scope_rules.specs.Site.{has_eval}
use Rattle.steps.specs.Allowed.Exposure.{Exposure, declaring, is_script_source, is_script, at_function_name, at_class_name, exposed_inside, exposed_of}

named : {X : Type 0} (b : Bool) (x y : X) → is_some (if b then Some x else None) ≡ is_some (if b then Some y else None)
named true x y = refl
named false x y = refl

bare_name : (t : Forest) → is_some (eval_name (bare t)) ≡ is_some (eval_name t)
bare_name nothing = refl
bare_name (absent rest) = refl
bare_name (node kind.ParenthesizedExpression n below rest) = bare_name below
bare_name (node (kind.ReferenceName x) n below rest) = named (bytes_eq x (codes "eval")) _ _
bare_name (node k n below rest) = refl

bare_call : (k : Kind) (below : Forest) → is_some (eval_of_call k (bare below)) ≡ is_some (eval_of_call k below)
bare_call (kind.CallExpression false pure) below = bare_name below
bare_call k below = refl

pub bare_evals : (t : Forest) → has_eval (bare t) ≡ has_eval t
bare_evals nothing = refl
bare_evals (absent rest) = bare_evals rest
bare_evals (node k n below rest) = ap₂ (λ b c. b || c) (ap₂ (λ b c. b || c) (bare_call k below) (bare_evals below)) (bare_evals rest)

bare_use_strict : (t : Forest) → has_use_strict (bare t) ≡ has_use_strict t
bare_use_strict nothing = refl
bare_use_strict (absent rest) = refl
bare_use_strict (node (kind.Directive written) n below rest) = ap (λ b. bytes_eq written (codes "use strict") || b) (bare_use_strict rest)
bare_use_strict (node k n below rest) = refl

bare_list : (t : Forest) → is_strict_list (bare t) ≡ is_strict_list t
bare_list nothing = refl
bare_list (absent rest) = refl
bare_list (node kind.Statements n below rest) = bare_use_strict below
bare_list (node k n below rest) = refl

bare_function : (t : Forest) → is_strict_function (bare t) ≡ is_strict_function t
bare_function nothing = refl
bare_function (absent rest) = bare_function rest
bare_function (node kind.FunctionBody n below rest) = bare_list below
bare_function (node k n below rest) = bare_function rest

bare_there : (t : Forest) → is_there (bare t) ≡ is_there t
bare_there nothing = refl
bare_there (absent rest) = refl
bare_there (node k n below rest) = refl

bare_behind : (t : Forest) → behind_first (bare t) ≡ bare (behind_first t)
bare_behind nothing = refl
bare_behind (absent rest) = refl
bare_behind (node k n below rest) = refl

bare_second : (t : Forest) → has_second (bare t) ≡ has_second t
bare_second t = ap is_there (bare_behind t) ∙ bare_there (behind_first t)

bare_evals_behind : (t : Forest) → has_eval (behind_first (bare t)) ≡ has_eval (behind_first t)
bare_evals_behind t = ap has_eval (bare_behind t) ∙ bare_evals (behind_first t)

-- exposures by what is asked of the row
abbrev code_with : Exposure → (shared strict evaluates : Bool) → Exposure
code_with e shared strict evaluates =
    record { outside = false; strict = strict; variables_shared = shared; names_shared = shared; declared_shared = e.declared_shared; evaluates = evaluates; in_sloppy_block = false }

abbrev block_with : Exposure → (strict evaluates : Bool) → Exposure
block_with e strict evaluates =
    record { outside = e.outside; strict = strict; variables_shared = e.variables_shared; names_shared = false; declared_shared = e.declared_shared; evaluates = evaluates; in_sloppy_block = not strict }

pub bare_inside : (k : Kind) (e : Exposure) (below : Forest) (at : ℕ) → exposed_inside e k (bare below) at ≡ exposed_inside e k below at
bare_inside (kind.Program source) e below at = ap₂ (λ s b. code_with e (e.outside && is_script_source source) (is_module source || s) b) (bare_list below) (bare_evals below)
bare_inside (kind.Function how pure) e below at =
    ap₂ (λ s b. if at == 0 then at_function_name e how else if at == 1 then declaring (code_with e false (e.strict || s) b) false else code_with e false (e.strict || s) b) (bare_function below) (bare_evals below)
bare_inside (kind.Class how) e below at = ap (λ b. if at == 0 then at_class_name e how else block_with e true b) (bare_evals below)
bare_inside kind.StaticBlock e below at = ap (λ b. code_with e false e.strict b) (bare_evals below)
bare_inside (kind.PropertyDefinition is_static key) e below at = ap₂ (λ c b. if c && at == 1 then block_with e e.strict b else e) (bare_second below) (bare_evals_behind below)
bare_inside kind.BlockStatement e below at = ap (λ b. block_with e e.strict b) (bare_evals below)
bare_inside kind.SwitchStatement e below at = ap (λ b. if at == 1 then block_with e e.strict b else e) (bare_evals_behind below)
bare_inside kind.WithStatement e below at = ap (λ b. if at == 1 then block_with e e.strict b else e) (bare_evals_behind below)
bare_inside kind.CatchClause e below at = ap (λ b. if at == 0 then declaring (block_with e e.strict b) false else block_with e e.strict b) (bare_evals below)
bare_inside kind.ForStatement e below at = ap (λ b. block_with e e.strict b) (bare_evals below)
bare_inside kind.ForInStatement e below at = ap (λ b. block_with e e.strict b) (bare_evals below)
bare_inside kind.ForOfStatement e below at = ap (λ b. block_with e e.strict b) (bare_evals below)
bare_inside (kind.VariableDeclaration how) e below at = refl
bare_inside (kind.ImportDeclaration source) e below at = refl
bare_inside k e below at = refl

pub bare_below : (t : Forest) → has_eval (below_of (bare t)) ≡ has_eval (below_of t)
bare_below nothing = refl
bare_below (absent rest) = refl
bare_below (node k n below rest) = bare_evals below

pub bare_script : (t : Forest) → is_script (bare t) ≡ is_script t
bare_script nothing = refl
bare_script (absent rest) = refl
bare_script (node (kind.Program source) n below rest) = refl
bare_script (node k n below rest) = refl

abbrev beside_with : (shared evaluates : Bool) → (at : ℕ) → Exposure
beside_with shared evaluates at =
    record { outside = at == 0; strict = false; variables_shared = shared; names_shared = shared; declared_shared = shared; evaluates = evaluates; in_sloppy_block = false }

pub bare_exposed : (t : Forest) (i : ℕ) → exposed_of (bare t) i ≡ exposed_of t i
bare_exposed t i = ap₂ (λ s b. beside_with s b i) (bare_script t) (bare_below t)
