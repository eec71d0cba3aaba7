-- What is left of a statement of which a declaration of its names is left.
use Rattle.std.proofs.Common.{◌≡◌, ◌∙◌, ◌<◌, ℕ, List, [], ◌∷◌, ◌++◌, Bool, true, false, append-nil, refl, sym, ap, subst}
use Rattle.std.specs.Prelude.{Some, map}
use Rattle.js_syntax.specs.Class.{root, statement}
use Rattle.js_syntax.specs.declared.node_kind.NodeKind.{NodeKind as Kind}
use Rattle.js_syntax.specs.Facts.{weight}
use Rattle.js_syntax.specs.Node.{Note, Forest, Tree, nothing, node, nowhere, row, alone, forest_of, total}
use Rattle.json_shape.specs.Shape.{Fits}
use Rattle.kept_names.specs.Kept.{kept, declarator_of, declaration_of}
use Rattle.scope_laws.proofs.Bindings.{same_value}
use Rattle.scope_laws.specs.Place.{Around, plug}
use Rattle.scope_counts.specs.Counts.{Aims, hoisted}
use Rattle.steps.specs.Allowed.KeptNames.{KeptNames, names_stay}
use Rattle.steps.specs.KeepForm.Part.{a_var, leaves_names_of}
use Rattle.steps.specs.VarNames.Declared.{decls}
use Rattle.steps.specs.VarNames.Plain.{vars_bind_names}
use Rattle.steps.proofs.Fit.Enclosing.{fits_enclosed}
use Rattle.steps.proofs.Owed.KeptNames.{stands_there, kept_names_owe}
use Rattle.steps.proofs.Owed.Unseen.{enclosed_alone_there}
use Rattle.steps.proofs.VarNames.Again.{are_names, kept_are_names}
use Rattle.steps.proofs.VarNames.Anew.{declared_in_layers}
use Rattle.steps.proofs.VarNames.Table.{BringsNames, declaration_brings, Stands, kept_stands}

pub record NamesLeft (k : Kind) (n : Note) (a : Forest) (m : Note) (b : Forest) : Type 0 where
  pub holds : leaves_names_of k ≡ true
  pub fits : Fits statement (alone k n a)
  pub names : List Tree
  pub bare : are_names names ≡ true
  pub is : b ≡ node Kind.Declarators nowhere (row (map declarator_of names)) nothing
  pub some : (names ≡ []) → ⊥
  pub kept_are : kept (alone k n a) ≡ names
  pub plain : vars_bind_names (alone k n a) ≡ true
  pub stand : Stands names (alone k n a)
  pub brings : BringsNames (alone a_var m b) (decls names)
  pub same : (aims : Aims) → hoisted (λ q. aims) 0 (alone k n a) ≡ hoisted (λ q. aims) 0 (alone a_var m b)
  pub lighter : total weight (alone a_var m b) < total weight (alone k n a)

record IsVar (ts : List Tree) (y : Tree) : Type 0 where
  kind : y.kind ≡ a_var
  below : y.below ≡ node Kind.Declarators nowhere (row (map declarator_of ts)) nothing
  whole : row (declaration_of (map declarator_of ts) ∷ []) ≡ forest_of y
  some : (ts ≡ []) → ⊥

has_some : (t : Tree) (ts : List Tree) → (t ∷ ts ≡ []) → ⊥
has_some t ts e = cc

is_var_of : (ts : List Tree) (y : Tree) → declaration_of (map declarator_of ts) ≡ Some y → IsVar ts y
is_var_of [] y e = absurd cc
is_var_of (t ∷ ts) y e = subst (IsVar (t ∷ ts)) (same_value e) (record { kind = refl; below = refl; whole = refl; some = has_some t ts })

pub names_left : (a : Around) (x y : Tree) → KeptNames a x y → Fits root (plug a (Some x)) → (y.kind ≡ a_var) × NamesLeft x.kind x.note x.below y.note y.below
names_left a _ _ (names_stay x y item untaken leaves vars_alone plain is) fits =
    let ts = kept (forest_of x) in
    let there = stands_there a x y item untaken leaves vars_alone is fits in
    let var = is_var_of ts y is in
    let as_var : (P : Kind → Type 0) → P y.kind → P a_var = λ P h. subst P var.kind h in (
      var.kind,
      record {
        holds = leaves;
        fits = there;
        names = ts;
        bare = kept_are_names (forest_of x) there;
        is = var.below;
        some = var.some;
        kept_are = refl;
        plain = plain;
        stand = kept_stands (forest_of x);
        brings = as_var (λ k. BringsNames (alone k y.note y.below) (decls ts)) (declaration_brings ts y (kept_are_names (forest_of x) there) is);
        same = λ aims. as_var (λ k. hoisted (λ q. aims) 0 (forest_of x) ≡ hoisted (λ q. aims) 0 (alone k y.note y.below))
            (sym (declared_in_layers (forest_of x) there vars_alone (enclosed_alone_there a x.kind x.note x.below (fits_enclosed (plug a (Some x)) fits)) (λ q. aims) 0 (λ q. refl)) ∙ ap (hoisted (λ q. aims) 0) var.whole);
        lighter = as_var (λ k. total weight (alone k y.note y.below) < total weight (forest_of x)) (kept_names_owe a x y (names_stay x y item untaken leaves vars_alone plain is)).lighter;
      },
    )
