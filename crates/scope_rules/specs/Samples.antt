-- Small programs, with their scopes, bindings and references, told by hand.
use Rattle.std.specs.Prelude.{◌≡◌, ℕ, List, [], ◌∷◌, map, true, false, Option, Some, None, codes}
use Rattle.js_syntax.specs.declared.node_kind.NodeKind.{NodeKind as Kind}
use Rattle.js_syntax.specs.declared.value.Key.TheVariants.{Name as key_name}
use Rattle.js_syntax.specs.declared.kind.ClassKind.TheVariants as class_kind
use Rattle.js_syntax.specs.declared.operator.AssignmentOperator.{AssignmentOperator}
use Rattle.js_syntax.specs.Node.{Forest, joined}
use Rattle.form_rules.specs.Samples.{over, leaf, row, listed, no, binds, one}
use Rattle.scope_rules.specs.declared.layer.Part.{Part}
use Rattle.scope_rules.specs.Site.{Site, ScopeSite, BindingSite, ReferenceSite, sites_of, scopes_among, bindings_among, references_among}
use Rattle.scope_rules.specs.Binding.{Binding, binding_of}

-- ---- what a program has

-- the number of the scope around, and its bits
pub data Scope : Type 0 where
  within : Option ℕ → ℕ → Scope

-- a name, the scope of which number, which part of it, and its bits
pub data Declared : Type 0 where
  named : List ℕ → ℕ → Part → ℕ → Declared

-- a name, the scope that it stands in, its bits, and its binding
pub data Used : Type 0 where
  uses : List ℕ → ℕ → ℕ → Option Binding → Used

abbrev pub scope_told : ScopeSite → Scope
scope_told s = within s.parent s.flags

abbrev pub binding_told : BindingSite → Declared
binding_told b = named b.name b.layer.scope b.layer.part b.flags

abbrev pub reference_told : List BindingSite → ReferenceSite → Used
reference_told bs r = uses r.name r.scope r.flags (binding_of bs r)

pub record Row : Type 0 where
  pub tree : Forest
  pub scopes : List Scope
  pub bindings : List Declared
  pub references : List Used

abbrev pub IsRight : Row → List Site → Type 0
IsRight r sites =
    (map scope_told (scopes_among sites) ≡ r.scopes) × (map binding_told (bindings_among sites) ≡ r.bindings) × (map (reference_told (bindings_among sites)) (references_among sites) ≡ r.references)

abbrev pub AreRight : List Row → Type 0
AreRight [] = Unit {0}
AreRight (r ∷ rs) = IsRight r (sites_of r.tree) × AreRight rs

-- ---- words of rows

abbrev pub program_of : ℕ → Scope
program_of bits = within None bits

abbrev pub inside_of : ℕ → ℕ → Scope
inside_of parent bits = within (Some parent) bits

abbrev pub bound : List ℕ → ℕ → Option Binding
bound x scope = Some (record { scope = scope; is_own = false; name = x })

abbrev pub bound_to_own : List ℕ → ℕ → Option Binding
bound_to_own x scope = Some (record { scope = scope; is_own = true; name = x })

abbrev pub b : List ℕ
b = codes "b"

-- ---- more trees

abbrev pub writes : List ℕ → Forest
writes x = leaf (Kind.TargetName x)

abbrev pub assigns : AssignmentOperator → Forest → Forest → Forest
assigns operator target value = over (Kind.AssignmentExpression operator) (joined target value)

-- target.b
abbrev pub member : Forest → Forest
member target = over (Kind.MemberExpression (key_name b) false) (joined target no)

abbrev pub defaults : Forest → Forest → Forest
defaults target value = over Kind.BindingDefault (joined target value)

abbrev pub class_expression : Forest → List Forest → Forest
class_expression id members = over (Kind.Class class_kind.Expression) (row (id ∷ no ∷ over Kind.ClassBody (listed Kind.Members members) ∷ []))

-- b = value;
abbrev pub field : Forest → Forest
field value = over (Kind.PropertyDefinition false (key_name b)) (joined no value)

-- switch (tested) { case 1: .. }
abbrev pub switches : Forest → List Forest → Forest
switches tested items = over Kind.SwitchStatement (joined tested (listed Kind.Cases (over Kind.SwitchCase (joined one (listed Kind.Statements items)) ∷ [])))

abbrev pub imports : List ℕ → Forest
imports x = over (Kind.ImportDeclaration (codes "m")) (listed Kind.Specifiers (over Kind.ImportDefaultSpecifier (binds x) ∷ []))
