-- That a declaration stands among others that are marked as it is.
use Rattle.std.specs.Prelude.{◌≡◌, List}
use Rattle.js_syntax.specs.Node.{Forest}
use Rattle.scope_rules.specs.Site.{BindingSite}
use Rattle.scope_laws.specs.Exact.{Among}
use Rattle.steps.specs.Naming.Standing.{exported_declarations}

-- one of them declares the name in the program's own scope, with the same mark
pub record IsMarkedAmong (ds : List BindingSite) (e : BindingSite) : Type 0 where
  pub declaration : BindingSite
  pub stands : Among declaration ds
  pub is_outermost : declaration.layer.scope ≡ 0
  pub same_mark : declaration.id ≡ e.id
  pub same_name : declaration.name ≡ e.name

abbrev pub WasExported : Forest → BindingSite → Type 0
WasExported t e = IsMarkedAmong (exported_declarations t) e
