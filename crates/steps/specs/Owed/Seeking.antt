-- Where a program exports names without declaring them there, a reference reads each.
use Rattle.std.specs.Prelude.{◌≡◌, ℕ, List, ◌∷◌, true}
use Rattle.js_syntax.specs.Node.{Forest}
use Rattle.form_rules.specs.declared.sought.Sought.{Sought}
use Rattle.form_rules.specs.declared.sought.Sought.TheVariants.{Bound as bound, Scope as scope, Variables as variables, FunctionScope as function_scope, CatchScope as catch_scope}
use Rattle.form_rules.specs.Rules.{Exported, is_exported}
use Rattle.scope_rules.specs.declared.layer.Layer.{Layer}
use Rattle.scope_rules.specs.Context.{Context}
use Rattle.scope_rules.specs.Site.{Site, BindingSite, ReferenceSite, sites_of, bindings_among, references_among}
use Rattle.scope_laws.specs.Exact.{Among}

-- what stands in a part of the tree stands in the tree
pub record Within (t : Forest) (ss : List Site) : Type 0 where
  pub binding : (b : BindingSite) → Among b (bindings_among ss) → Among b (bindings_among (sites_of t))
  pub reference : (r : ReferenceSite) → Among r (references_among ss) → Among r (references_among (sites_of t))

-- a reference of the tree reads this name in a scope of this layer
pub record IsRead (t : Forest) (x : List ℕ) (l : Layer) : Type 0 where
  pub reference : ReferenceSite
  pub stands : Among reference (references_among (sites_of t))
  pub name : reference.name ≡ x
  pub rest : List Layer
  pub layers : reference.layers ≡ l ∷ rest

abbrev pub AllRead : Forest → List Exported → Layer → Type 0
AllRead t es l = (x : List ℕ) → is_exported x es ≡ true → IsRead t x l

-- by what is sought at the place for the top of the program
abbrev pub Seeks : Forest → Sought → List Exported → Context → Type 0
Seeks t (scope f) es c = AllRead t es c.block × AllRead t es c.variables
Seeks t variables es c = AllRead t es c.variables
Seeks t (bound f) es c = AllRead t es c.declaring.layer
Seeks t function_scope es c = ⊥
Seeks t (catch_scope f) es c = ⊥
Seeks t s es c = Unit {0}
