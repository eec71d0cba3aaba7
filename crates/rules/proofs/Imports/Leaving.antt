-- A name that goes leaves its import by a single edit.
use Rattle.std.proofs.Common.{◌≡◌, ◌+◌, ℕ, List, [], Bool, true, Some, inl, refl, subst}
use Rattle.js_syntax.specs.declared.node_kind.NodeKind.{NodeKind as Kind}
use Rattle.js_syntax.specs.declared.node_kind.NodeKind.TheVariants.{ImportSpecifier as import_specifier, ImportDefaultSpecifier as import_default_specifier, ImportNamespaceSpecifier as import_namespace_specifier, BindingName as binding_name}
use Rattle.js_syntax.specs.Node.{Forest, Note, nothing, node}
use Rattle.scope_rules.specs.Context.{Context, inside}
use Rattle.scope_rules.specs.Site.{own_sites, opens_one, sites}
use Rattle.scope_rules.specs.Binding.{named_in}
use Rattle.scope_laws.specs.Place.{Around, plug}
use Rattle.scope_laws.specs.Lists.{without}
use Rattle.steps.specs.Steps.{binds_import}
use Rattle.steps.proofs.Naming.Sites.{binding_second}
use Rattle.steps.specs.Allowed.Exposure.{IsOwnDeclarator}
use Rattle.steps.specs.Allowed.Free.{IsFree, FreeDeclarator}
use Rattle.steps.specs.Allowed.Imports.{IsImported}
use Rattle.steps.specs.Allowed.Places.{At}
use Rattle.steps.specs.Allowed.UnusedImport.{an_imported, unused_import_leaves}
use Rattle.steps.specs.Allowed.Edits.{Edit, leaves, unused_import}
use Rattle.steps.specs.Marked.Flags.{stand}
use Rattle.steps.proofs.Marked.Telling.{declarator_hidden}
use Rattle.rules.specs.DeadCode.Knows.{Knows}
use Rattle.rules.specs.DeadCode.Rules.{Facts, variable_is_unused}
use Rattle.rules.proofs.DeadCode.Leaving.{named_site, hidden}
use Rattle.rules.proofs.DeadCode.Silent.{declared_at}
use Rattle.rules.proofs.DeadCode.Unused.{is_free}
use Rattle.rules.proofs.Imports.Pruned.{wrong}

-- what binds it declares where the import does
pub layer_stays : (c : Context) (next : ℕ) (k : Kind) (below : Forest) → binds_import k ≡ true → (inside c next k below 0).declaring.layer ≡ c.declaring.layer
layer_stays c next (import_specifier name) below e = refl
layer_stays c next import_default_specifier below e = refl
layer_stays c next import_namespace_specifier below e = refl
layer_stays c next k below e = wrong e

-- what is to be true of a name that goes
pub record IsUnused (a : Around) (k : Kind) (n m : Note) (x : List ℕ) : Type 0 where
  pub own : IsOwnDeclarator a (an_imported k n m x)
  pub free : At a (an_imported k n m x) (FreeDeclarator (plug a (an_imported k n m x)) x)

pub name_unused : (f : Facts) (marked : ℕ → Bool) (scope : ℕ) (a : Around) (k : Kind) (n m : Note) (x : List ℕ) → Knows f marked (plug a (an_imported k n m x)) → binds_import k ≡ true → (stand a (an_imported k n m x)).declaring ≡ Some scope
    → variable_is_unused f scope m.id ≡ true → IsUnused a k n m x
name_unused f marked scope a k n m x h binds is e =
    let below = node (binding_name x) m nothing nothing in
    let v = plug a (an_imported k n m x) in
    let o = hidden f marked v h scope m.id e in
    record {
      own = declarator_hidden a (record { kind = k; note = n; below = below }) f.scoping h.flags scope is o.unshared o.no_evals;
      free = declared_at a (an_imported k n m x) (FreeDeclarator v x)
          (λ in_with cs place next all_of.
          let fs = inside (cs place) next k below in
          let d = named_site (fs 0) m x in
          subst (λ r. IsFree v (named_in x r)) (layer_stays (cs place) next k below binds)
          (is_free f marked v h d (all_of d (binding_second d (own_sites (cs place) n k below) (sites fs 0 (next + opens_one k below) below) [] (inl refl))) o.unlisted));
    }

pub name_leaves : (f : Facts) (marked : ℕ → Bool) (scope : ℕ) (a : Around) (k : Kind) (n m : Note) (x : List ℕ) → Knows f marked (plug a (an_imported k n m x)) → binds_import k ≡ true → IsImported a → (stand a (an_imported k n m x)).declaring ≡ Some scope
    → variable_is_unused f scope m.id ≡ true → Edit (plug a (an_imported k n m x)) (without a)
name_leaves f marked scope a k n m x h binds imported is e =
    let o = name_unused f marked scope a k n m x h binds is e in
    leaves a (record { kind = k; note = n; below = node (binding_name x) m nothing nothing }) (unused_import (unused_import_leaves k n m x binds imported o.own o.free))
