-- A statement in a branch of an `if` that isn't taken becomes a declaration of the names that it declares by `var`, if it declares no others
-- around it, and these by no pattern, so that each declarator stands for one of the statement: they are names of the function around, whether
-- the statement runs or not (ECMA-262 8.2.6, 14.3.2).
use Rattle.std.specs.Prelude.{◌≡◌, true, false, Some, map}
use Rattle.js_syntax.specs.Node.{Tree, forest_of}
use Rattle.kept_names.specs.Kept.{kept, declarator_of, declaration_of}
use Rattle.scope_laws.specs.Place.{Around}
use Rattle.steps.specs.Allowed.Branches.{declares_none}
use Rattle.steps.specs.Allowed.Places.{IsItem}
use Rattle.steps.specs.Allowed.Untaken.{is_untaken}
use Rattle.steps.specs.KeepForm.Part.{leaves_names_of}
use Rattle.steps.specs.VarNames.Declared.{without_vars}
use Rattle.steps.specs.VarNames.Plain.{vars_bind_names}

pub data KeptNames (a : Around) : (x y : Tree) → Type 0 where
  names_stay : (x y : Tree) → IsItem a → is_untaken false a ≡ true → leaves_names_of x.kind ≡ true → declares_none (without_vars (forest_of x)) ≡ true
      → vars_bind_names (forest_of x) ≡ true → declaration_of (map declarator_of (kept (forest_of x))) ≡ Some y → KeptNames a x y
