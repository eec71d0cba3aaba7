-- A silent expression declares nothing that is sought around it.
use Rattle.std.proofs.Common.{◌≡◌, ◌∙◌, inl, inr, ℕ, suc, ◌+◌, false, List, [], ◌++◌, refl, true≢false, sym}
use Rattle.js_syntax.specs.declared.node_kind.NodeKind.{NodeKind as Kind}
use Rattle.js_syntax.specs.declared.node_kind.NodeKind.TheVariants.{BindingName as binding_name, Declarators as declarators, VariableDeclarator as variable_declarator, Parameters as parameters, BindingRest as binding_rest, BindingObject as binding_object, BindingArray as binding_array, BindingProperty as binding_property, BindingDefault as binding_default, Properties as properties, Elements as elements, Specifiers as specifiers, ImportSpecifier as import_specifier, ImportDefaultSpecifier as import_default_specifier, ImportNamespaceSpecifier as import_namespace_specifier}
use Rattle.js_syntax.specs.Node.{Note, Forest, nothing, node, absent, alone}
use Rattle.js_tree.specs.Count.{one_each, node_count}
use Rattle.js_effects.specs.declared.surroundings.Surroundings.{Surroundings}
use Rattle.js_effects.specs.Still.{is_value}
use Rattle.js_effects.specs.Silence.{runs_its_parts}
use Rattle.form_rules.specs.declared.sought.Sort.{Sort}
use Rattle.form_rules.specs.declared.sought.Sought.TheVariants.{Bound as bound}
use Rattle.form_rules.specs.Scope.{declared, declared_here, sought_below}
use Rattle.scope_rules.specs.Context.{Context, inside}
use Rattle.scope_rules.specs.Site.{BindingSite, opens_one, scope_count}
use Rattle.steps.specs.Allowed.Silent.{IsFound, IsSilentNode, IsSilent}
use Rattle.steps.proofs.KeepForm.ShedNames.{none_declared}
use Rattle.steps.proofs.KeepForm.Rules.{both_empty}

module _ (f : Sort) (bs : List BindingSite) (w : Surroundings) where
  acts : (c : Context) (k : Kind) (n : Note) (a : Forest) (parts : Type 0) → is_value k ≡ false → runs_its_parts k a ≡ false → (IsFound bs w c k n a → ⊥) → IsSilentNode bs w c k n a parts → ⊥
  acts c k n a parts value runs found (inl h) = true≢false (sym h ∙ value)
  acts c k n a parts value runs found (inr (inl h)) = found h
  acts c k n a parts value runs found (inr (inr h)) = true≢false (sym h.0 ∙ runs)

  its_parts : (c : Context) (k : Kind) (n : Note) (a : Forest) (parts : Type 0) → is_value k ≡ false → (IsFound bs w c k n a → ⊥) → IsSilentNode bs w c k n a parts → parts
  its_parts c k n a parts value found (inl h) = absurd (true≢false (sym h ∙ value))
  its_parts c k n a parts value found (inr (inl h)) = absurd (found h)
  its_parts c k n a parts value found (inr (inr h)) = h.1

  node_silent : (c : Context) (k : Kind) (n : Note) (a : Forest) (p q : ℕ) (parts : Type 0) → (parts → declared (bound f) q a ≡ []) → IsSilentNode bs w c k n a parts → declared_here (bound f) p k ++ declared (sought_below (bound f) k) q a ≡ []
  node_silent c (binding_name x) n a p q parts below h = absurd (acts c (binding_name x) n a parts refl refl (λ g. g) h)
  node_silent c declarators n a p q parts below h = absurd (acts c declarators n a parts refl refl (λ g. g) h)
  node_silent c variable_declarator n a p q parts below h = absurd (acts c variable_declarator n a parts refl refl (λ g. g) h)
  node_silent c parameters n a p q parts below h = absurd (acts c parameters n a parts refl refl (λ g. g) h)
  node_silent c binding_object n a p q parts below h = absurd (acts c binding_object n a parts refl refl (λ g. g) h)
  node_silent c properties n a p q parts below h = below (its_parts c properties n a parts refl (λ g. g) h)
  node_silent c (binding_property key) n a p q parts below h = absurd (acts c (binding_property key) n a parts refl refl (λ g. g) h)
  node_silent c binding_array n a p q parts below h = absurd (acts c binding_array n a parts refl refl (λ g. g) h)
  node_silent c elements n a p q parts below h = below (its_parts c elements n a parts refl (λ g. g) h)
  node_silent c binding_default n a p q parts below h = absurd (acts c binding_default n a parts refl refl (λ g. g) h)
  node_silent c binding_rest n a p q parts below h = absurd (acts c binding_rest n a parts refl refl (λ g. g) h)
  node_silent c specifiers n a p q parts below h = absurd (acts c specifiers n a parts refl refl (λ g. g) h)
  node_silent c (import_specifier imported) n a p q parts below h = absurd (acts c (import_specifier imported) n a parts refl refl (λ g. g) h)
  node_silent c import_default_specifier n a p q parts below h = absurd (acts c import_default_specifier n a parts refl refl (λ g. g) h)
  node_silent c import_namespace_specifier n a p q parts below h = absurd (acts c import_namespace_specifier n a parts refl refl (λ g. g) h)
  node_silent c k n a p q parts below h = none_declared q a

  pub silent_declares_nothing : (cs : ℕ → Context) (at next p : ℕ) (t : Forest) → IsSilent bs w cs at next t → declared (bound f) p t ≡ []
  silent_declares_nothing cs at next p nothing h = refl
  silent_declares_nothing cs at next p (absent r) h = silent_declares_nothing cs (suc at) next p r h
  silent_declares_nothing cs at next p (node k n a r) h =
      both_empty (declared_here (bound f) p k ++ declared (sought_below (bound f) k) (p + one_each k) a) (declared (bound f) (p + node_count (alone k n a)) r)
      (node_silent (cs at) k n a p (p + one_each k) (IsSilent bs w (inside (cs at) next k a) 0 (next + opens_one k a) a) (silent_declares_nothing (inside (cs at) next k a) 0 (next + opens_one k a) (p + one_each k) a) h.0)
      (silent_declares_nothing cs (suc at) (next + scope_count (node k n a nothing)) (p + node_count (alone k n a)) r h.1)
