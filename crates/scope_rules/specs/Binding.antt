-- Which binding a reference has: that of the innermost layer around it which declares its name (ECMA-262 9.4.2).
use Rattle.std.specs.Prelude.{ℕ, suc, List, [], ◌∷◌, Bool, true, false, ◌&&◌, ◌||◌, nat_eq, Option, Some, None, option_map, is_some, if◌then◌else◌}
use Rattle.std.specs.Str.{bytes_eq}
use Rattle.js_syntax.specs.Node.{Forest}
use Rattle.scope_rules.specs.declared.layer.Layer.{Layer}
use Rattle.scope_rules.specs.declared.layer.Part.{Part}
use Rattle.scope_rules.specs.declared.layer.Part.TheVariants.{OwnName as own_name, Parameters as parameters, Body as body}
use Rattle.scope_rules.specs.Site.{BindingSite, ReferenceSite, sites_of, bindings_among, references_among}

abbrev pub is_own_name : Part → Bool
is_own_name own_name = true
is_own_name part = false

abbrev pub is_parameters : Part → Bool
is_parameters parameters = true
is_parameters part = false

abbrev pub is_body : Part → Bool
is_body body = true
is_body part = false

abbrev pub same_part : Part → Part → Bool
same_part own_name q = is_own_name q
same_part parameters q = is_parameters q
same_part body q = is_body q

abbrev pub same_layer : Layer → Layer → Bool
same_layer l m = nat_eq l.scope m.scope && same_part l.part m.part

abbrev pub is_declared : List BindingSite → Layer → List ℕ → Bool
is_declared [] l x = false
is_declared (b ∷ bs) l x = (same_layer b.layer l && bytes_eq b.name x) || is_declared bs l x

abbrev pub binding_layer : List BindingSite → List Layer → List ℕ → Option Layer
binding_layer bs [] x = None
binding_layer bs (l ∷ ls) x = if is_declared bs l x then Some l else binding_layer bs ls x

-- A binding: a name in a scope. A parameter and a name of the body are one; the own name of a function expression is
-- another.
pub record Binding : Type 0 where
  pub scope : ℕ
  pub is_own : Bool
  pub name : List ℕ

abbrev pub named_in : List ℕ → Layer → Binding
named_in x l = record { scope = l.scope; is_own = is_own_name l.part; name = x }

abbrev pub declared_by : BindingSite → Binding
declared_by b = named_in b.name b.layer

abbrev pub binding_of : List BindingSite → ReferenceSite → Option Binding
binding_of bs r = option_map (named_in r.name) (binding_layer bs r.layers r.name)

-- how many references have one
abbrev pub resolved : List BindingSite → List ReferenceSite → ℕ
resolved bs [] = 0
resolved bs (r ∷ rs) = if is_some (binding_of bs r) then suc (resolved bs rs) else resolved bs rs

abbrev pub resolved_references : Forest → ℕ
resolved_references t = resolved (bindings_among (sites_of t)) (references_among (sites_of t))
