-- What a node owes for runs that becomes one that stands for it.
use Rattle.std.specs.Prelude.{◌≡◌, ◌⊎◌, true}
use Rattle.js_syntax.specs.declared.node_kind.NodeKind.{NodeKind as Kind}
use Rattle.js_syntax.specs.Node.{Forest, Tree, bare, forest_of}
use Rattle.js_meaning.specs.Scope.{names_of, bound_names}
use Rattle.js_meaning_near.specs.Near.{is_calm}
use Rattle.js_meaning_near.specs.Local.{Stands, Plainly}
use Rattle.scope_laws.specs.Place.{Around}
use Rattle.steps.specs.Steps.{all_core}
use Rattle.steps.specs.KeepForm.Part.{is_statement}
use Rattle.steps.specs.Allowed.Wanted.{wanted_at}

-- The one node declares outside what the other does. So does it bind, but for a statement, which stands below what binds names in functions
-- and classes alone.
pub record DeclaresSame (k : Kind) (a : Forest) (l : Kind) (b : Forest) : Type 0 where
  pub plainly : Plainly k a l b
  pub binds : (is_statement k ≡ true) ⊎ (names_of k (bound_names a) ≡ names_of l (bound_names b))

-- At a place.
pub record Comes (a : Around) (x y : Tree) : Type 0 where
  -- what lies below the new node, but for notes
  pub inner : Forest
  pub same : bare inner ≡ bare y.below
  -- for what the node is evaluated there, the new one may stand for it, whatever is known of the names around
  pub stands : Stands (wanted_at a) x.kind x.below y.kind inner
  -- the old node starts nothing where its scope is entered, and declares no name itself
  pub old_calm : is_calm x.kind ≡ true
  pub declares : DeclaresSame x.kind x.below y.kind inner
  pub core : all_core (forest_of x) ≡ true → all_core (forest_of y) ≡ true
