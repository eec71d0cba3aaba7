-- What the rule tells, where it has an answer.
use Rattle.std.proofs.Common.{◌≡◌, ℕ, List, Bool, true, false, not, ◌&&◌, if◌then◌else◌, Some, None, true≢false, refl, sym}
use Rattle.std.proofs.lemmas.Bool.{and_parts}
use Rattle.js_syntax.specs.declared.node_kind.NodeKind.{NodeKind as Kind}
use Rattle.js_syntax.specs.declared.node_kind.NodeKind.TheVariants.{ImportDeclaration as import_declaration, Specifiers as specifiers, BindingName as binding_name}
use Rattle.js_syntax.specs.Node.{Forest, Tree, Note, nothing, node}
use Rattle.scope_laws.proofs.Bindings.{none_is_some, same_value}
use Rattle.steps.specs.Steps.{binds_import}
use Rattle.rules.specs.DeadCode.Rules.{Facts, Where, variable_is_unused}
use Rattle.rules.specs.Imports.Rules.{name_goes, specifier_goes, one_goes, names_left, pruned}

pub wrong : {P : Type 0} → false ≡ true → P
wrong e = absurd (true≢false (sym e))

abbrev pub an_import_of : List ℕ → (n m : Note) → (names : Forest) → Tree
an_import_of source n m names = record { kind = import_declaration source; note = n; below = node specifiers m names nothing }

module _ (f : Facts) (w : Where) where
  -- ---- a name that goes

  pub data Goes (k : Kind) : (below : Forest) → Type 0 where
    a_name : (x : List ℕ) (j : Note) → binds_import k ≡ true → variable_is_unused f w.scope j.id ≡ true → Goes k (node (binding_name x) j nothing nothing)

  below_view : (k : Kind) (below : Forest) → binds_import k ≡ true → name_goes f w below ≡ true → Goes k below
  below_view k (node (binding_name x) j nothing nothing) binds e = a_name x j binds e
  below_view k below binds e = wrong e

  pub goes_view : (k : Kind) (below : Forest) → specifier_goes f w k below ≡ true → Goes k below
  goes_view k below e = let h = and_parts (binds_import k) (name_goes f w below) e in below_view k below h.0 h.1

  -- ---- an import of which some go

  pub record Prunes (x y : Tree) : Type 0 where
    pub source : List ℕ
    pub note : Note
    pub list_note : Note
    pub names : Forest
    pub unkept : not f.keeps_imports ≡ true
    pub goes : one_goes f w names ≡ true
    pub old : an_import_of source note list_note names ≡ x
    pub new : an_import_of source note list_note (names_left f w names) ≡ y

  prunes_if : (source : List ℕ) (n m : Note) (names : Forest) (y : Tree) (b : Bool) → (not f.keeps_imports && one_goes f w names) ≡ b → (if b then Some (an_import_of source n m (names_left f w names)) else None) ≡ Some y → Prunes (an_import_of source n m names) y
  prunes_if source n m names y true e is =
      let h = and_parts (not f.keeps_imports) (one_goes f w names) e in
      record { source = source; note = n; list_note = m; names = names; unkept = h.0; goes = h.1; old = refl; new = same_value is }
  prunes_if source n m names y false e is = absurd (none_is_some is)

  -- nothing is asked of what is no list
  never : {P : Type 0} (x y : Tree) (b : Bool) → (if b && false then Some x else None) ≡ Some y → P
  never x y true is = absurd (none_is_some is)
  never x y false is = absurd (none_is_some is)

  prunes_view : (k : Kind) (n : Note) (below : Forest) (y : Tree) → (let x : Tree = record { kind = k; note = n; below = below } in pruned f w x ≡ Some y) → (let x : Tree = record { kind = k; note = n; below = below } in Prunes x y)
  prunes_view (import_declaration source) n (node specifiers m names nothing) y is = prunes_if source n m names y (not f.keeps_imports && one_goes f w names) refl is
  prunes_view (import_declaration source) n below y is = never (record { kind = import_declaration source; note = n; below = below }) y (not f.keeps_imports) is
  prunes_view k n below y is = absurd (none_is_some is)

  pub prunes : (x y : Tree) → pruned f w x ≡ Some y → Prunes x y
  prunes x y is = prunes_view x.kind x.note x.below y is
