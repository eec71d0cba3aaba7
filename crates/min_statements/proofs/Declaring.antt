-- What calls ask of what `var` declares is what the definitions say of a row.
use Rattle.std.proofs.Common.{◌≡◌, ◌≤◌, ◌==◌, ℕ, Bool, false, ◌&&◌, List, [], ◌∷◌, Option, Some, None, length, refl, arith}
use Rattle.js_syntax.specs.declared.node_kind.NodeKind.{NodeKind as Kind}
use Rattle.js_syntax.specs.declared.node_kind.NodeKind.TheVariants.{Function as function, Class as class, BindingName as binding_name, Declarators as declarators}
use Rattle.js_syntax.specs.Node.{Forest, Tree, Note, node, absent, row}
use Rattle.steps.specs.Allowed.Branches.{declares_no_name}
use Rattle.steps.specs.KeepForm.Part.{leaves_names_of}
use Rattle.steps.specs.VarNames.Plain.{has_names, vars_bind_names}
use Rattle.steps.specs.VarNames.Has.{has_vars}
use Rattle.rules.specs.Expressions.LeftNames.{leaves_names}
use Rattle.min_statements.specs.Vars.{is_name_alone, without_vars_below}

pub name_alone : (k : Kind) {x : List ℕ} (ts : List (Option Tree)) → k ≡ binding_name x → (length ts == 0) ≡ is_name_alone k (row ts)
name_alone k [] e = rw e refl
name_alone k (None ∷ ts) e = rw e (Prim.grind arith)
name_alone k (Some t ∷ ts) e = rw e (Prim.grind arith)

more_none : (k : Kind) (n : Note) (ds rest : Forest) → false ≡ has_names (node k n ds (absent rest))
more_none declarators n ds rest = refl
more_none k n ds rest = refl

more_nodes : (k : Kind) (n : Note) (ds : Forest) (l : Kind) (m : Note) (b rest : Forest) → false ≡ has_names (node k n ds (node l m b rest))
more_nodes declarators n ds l m b rest = refl
more_nodes k n ds l m b rest = refl

pub names_of_more : (ts : List (Option Tree)) → 2 ≤ length ts → false ≡ has_names (row ts)
names_of_more [] l = absurd (Prim.omega (arith, l))
names_of_more (x ∷ []) l = absurd (Prim.omega (arith, l))
names_of_more (None ∷ x ∷ ts) l = refl
names_of_more (Some t ∷ None ∷ ts) l = more_none t.kind t.note t.below (row ts)
names_of_more (Some t ∷ Some u ∷ ts) l = more_nodes t.kind t.note t.below u.kind u.note u.below (row ts)

-- what a statement holds is no code of a function or a class
pub vars_alone : (listed : Bool) (k : Kind) (b : Forest) → (listed && (leaves_names_of k && (has_vars b && (vars_bind_names b && declares_no_name k (without_vars_below k b))))) ≡ leaves_names listed k b
vars_alone listed (function how pure) b = refl
vars_alone listed (class how) b = refl
vars_alone listed k b = refl
