-- A declaration of the names that are kept of a statement breaks no rule of form where the statement breaks none.
use Rattle.std.proofs.Common.{◌≡◌, ℕ, ◌+◌, suc, arith, List, [], ◌∷◌, ◌++◌, Bool, true, false, not, ◌&&◌, ◌==◌, if◌then◌else◌, refl, sym, ap, ap₂, subst}
use Rattle.std.specs.Prelude.{None, map}
use Rattle.js_syntax.specs.Class.{statement}
use Rattle.js_syntax.specs.declared.node_kind.NodeKind.{NodeKind as Kind}
use Rattle.js_syntax.specs.declared.node_kind.NodeKind.TheVariants.{Program as program, Function as function, Class as class, MethodDefinition as method_definition, PropertyDefinition as property_definition, Property as property, IfStatement as if_statement, WithStatement as with_statement, WhileStatement as while_statement, DoWhileStatement as do_while_statement, ForStatement as for_statement, ForInStatement as for_in_statement, ForOfStatement as for_of_statement, SwitchStatement as switch_statement, Declarators as declarators, VariableDeclarator as variable_declarator, BindingName as binding_name, BindingDefault as binding_default, BindingProperty as binding_property, BindingObject as binding_object, BindingArray as binding_array, BindingRest as binding_rest, Properties as properties, Elements as elements}
use Rattle.js_syntax.specs.declared.kind.VariableKind.TheVariants as variable
use Rattle.js_syntax.specs.Node.{Note, Forest, nothing, node, absent, Tree, row}
use Rattle.js_syntax.proofs.Truth.{first_of_both, second_of_both}
use Rattle.js_tree.specs.Count.{one_each, node_count}
use Rattle.js_tree.specs.Names.{Looked, looked, names_of}
use Rattle.form_rules.specs.Break.{unless}
use Rattle.form_rules.specs.Context as form
use Rattle.form_rules.specs.Context.{Context, is_module, inside}
use Rattle.form_rules.specs.Name.{may_be_bound}
use Rattle.form_rules.specs.Form.{broken_in}
use Rattle.form_rules.specs.Rules.{broken_at, length_of, counts_right, places_of, each_breaks, is_declarator_wrong}
use Rattle.json_shape.specs.Shape.{Fits}
use Rattle.kept_names.specs.Kept.{is_var, holds_statements, declared_of, declared, kept_of, kept, declarator_of, declaration_of}
use Rattle.js_syntax.specs.declared.scalar.SourceType.{SourceType}
use Rattle.steps.specs.VarNames.Declared.{AsStrict}
use Rattle.steps.proofs.Fit.Contexts.{of_names, kept_here, kept_below, kept_behind}
use Rattle.steps.proofs.KeepForm.Rules.{is_kept}
use Rattle.steps.proofs.Owed.Outward.{not_first}
use Rattle.steps.proofs.Naming.Lists.{either}
use Rattle.steps.proofs.VarNames.Again.{is_name_alone, is_bare_name, are_names, kept_are_names}

-- ---- code as strict, of the same source

abbrev passes_on : Kind → Bool
passes_on (program source) = false
passes_on (function how pure) = false
passes_on (class how) = false
passes_on k = true

strict_inside : (s : Bool) (o : SourceType) (c : Context) (k : Kind) (a : Forest) (i : ℕ) → passes_on k ≡ true → AsStrict s o c → AsStrict s o (inside c k a i)
strict_inside s o c (program source) a i h g = absurd cc
strict_inside s o c (function how pure) a i h g = absurd cc
strict_inside s o c (class how) a i h g = absurd cc
strict_inside s o c (method_definition how is_static key) a i h g = either (AsStrict s o) (i == 1) (form.as_role (form.role_of_method how c.members.is_derived) c) (form.below_it c) (record { strict = g.strict; source = g.source }) (record { strict = g.strict; source = g.source })
strict_inside s o c (property_definition is_static key) a i h g = either (AsStrict s o) (i == 1) (form.bordered c c.strict false false true true) (form.below_it c) (record { strict = g.strict; source = g.source }) (record { strict = g.strict; source = g.source })
strict_inside s o c (property how is_one key) a i h g = either (AsStrict s o) (i == 1) (form.as_role (form.role_of_property how is_one) c) (form.below_it c) (record { strict = g.strict; source = g.source }) (record { strict = g.strict; source = g.source })
strict_inside s o c if_statement a i h g = either (AsStrict s o) (i == 0) (form.below_it c) (form.as_body c) (record { strict = g.strict; source = g.source }) (record { strict = g.strict; source = g.source })
strict_inside s o c with_statement a i h g = either (AsStrict s o) (i == 0) (form.below_it c) (form.as_body c) (record { strict = g.strict; source = g.source }) (record { strict = g.strict; source = g.source })
strict_inside s o c while_statement a i h g = either (AsStrict s o) (i == 0) (form.below_it c) (form.in_loop c) (record { strict = g.strict; source = g.source }) (record { strict = g.strict; source = g.source })
strict_inside s o c do_while_statement a i h g = either (AsStrict s o) (i == 0) (form.in_loop c) (form.below_it c) (record { strict = g.strict; source = g.source }) (record { strict = g.strict; source = g.source })
strict_inside s o c for_statement a i h g = either (AsStrict s o) (i == 3) (form.in_loop c) (form.below_it c) (record { strict = g.strict; source = g.source }) (record { strict = g.strict; source = g.source })
strict_inside s o c for_in_statement a i h g =
    either (AsStrict s o) (i == 2) (form.in_loop c) (if i == 0 then form.in_head c else form.below_it c) (record { strict = g.strict; source = g.source })
    (either (AsStrict s o) (i == 0) (form.in_head c) (form.below_it c) (record { strict = g.strict; source = g.source }) (record { strict = g.strict; source = g.source }))
strict_inside s o c for_of_statement a i h g =
    either (AsStrict s o) (i == 2) (form.in_loop c) (if i == 0 then form.in_head c else form.below_it c) (record { strict = g.strict; source = g.source })
    (either (AsStrict s o) (i == 0) (form.in_head c) (form.below_it c) (record { strict = g.strict; source = g.source }) (record { strict = g.strict; source = g.source }))
strict_inside s o c switch_statement a i h g = either (AsStrict s o) (i == 1) (form.in_switch c) (form.below_it c) (record { strict = g.strict; source = g.source }) (record { strict = g.strict; source = g.source })
strict_inside s o c k a i h g = record { strict = g.strict; source = g.source }

-- ---- names that may be bound there

module _ (s : Bool) (o : SourceType) where
  abbrev pub BoundAt : Kind → Type 0
  BoundAt (binding_name x) = may_be_bound s (is_module o) x ≡ true
  BoundAt k = Unit {0}

  abbrev pub AllBound : List Tree → Type 0
  AllBound [] = Unit {0}
  AllBound (t ∷ ts) = BoundAt t.kind × AllBound ts

  bound_joined : (xs ys : List Tree) → AllBound xs → AllBound ys → AllBound (xs ++ ys)
  bound_joined [] ys h g = g
  bound_joined (x ∷ xs) ys h g = (h.0, bound_joined xs ys h.1 g)

  bound_here : (c : Context) (k : Kind) (q : ℕ) (a : Forest) → AsStrict s o c → broken_at c k q a ≡ [] → BoundAt k
  bound_here c (binding_name x) q a g h =
      subst (λ z. may_be_bound s (is_module z) x ≡ true) g.source (subst (λ b. may_be_bound b (is_module c.source) x ≡ true) g.strict (is_kept (may_be_bound c.strict (is_module c.source) x) q 5 (of_names c (binding_name x) q a h).1))
  bound_here c k q a g h = tt

  record BoundLooked (l : Looked) : Type 0 where
    all : AllBound l.all
    first : AllBound l.first
    behind : AllBound l.behind

  names_bound : (k : Kind) (n : Note) (a : Forest) → BoundAt k → (passes_on k ≡ true → BoundLooked (looked a)) → AllBound (names_of (record { kind = k; note = n; below = a }) (looked a))
  names_bound (binding_name x) n a here below = (here, tt)
  names_bound binding_default n a here below = (below refl).first
  names_bound (binding_property key) n a here below = (below refl).behind
  names_bound binding_object n a here below = (below refl).all
  names_bound binding_array n a here below = (below refl).all
  names_bound binding_rest n a here below = (below refl).all
  names_bound properties n a here below = (below refl).all
  names_bound elements n a here below = (below refl).all
  names_bound k n a here below = tt

  -- a row whose nodes break no rule, in code as strict
  looked_bound : (cs : ℕ → Context) (at q : ℕ) (t : Forest) → ((i : ℕ) → AsStrict s o (cs i)) → broken_in cs at q t ≡ [] → BoundLooked (looked t)
  looked_bound cs at q nothing g h = record { all = tt; first = tt; behind = tt }
  looked_bound cs at q (absent r) g h = let later = looked_bound cs (suc at) q r g h in record { all = later.all; first = tt; behind = later.all }
  looked_bound cs at q (node k n a r) g h =
      let later = looked_bound cs (suc at) (q + node_count (node k n a nothing)) r g (kept_behind cs at q k n a r h) in
      let names =
      names_bound k n a (bound_here (cs at) k q a (g at) (kept_here cs at q k n a r h))
      (λ p. looked_bound (inside (cs at) k a) 0 (q + one_each k) a (λ i. strict_inside s o (cs at) k a i p (g at)) (kept_below cs at q k n a r h)) in
      record { all = bound_joined (names_of (record { kind = k; note = n; below = a }) (looked a)) (looked r).all names later.all; first = names; behind = later.all }

  declared_here : (k : Kind) (a : Forest) → (passes_on k ≡ true → BoundLooked (looked a)) → (passes_on k ≡ true → AllBound (declared a)) → AllBound (declared_of k a (declared a))
  declared_here declarators a looks inner = inner refl
  declared_here variable_declarator a looks inner = (looks refl).first
  declared_here k a looks inner = tt

  declared_bound : (cs : ℕ → Context) (at q : ℕ) (t : Forest) → ((i : ℕ) → AsStrict s o (cs i)) → broken_in cs at q t ≡ [] → AllBound (declared t)
  declared_bound cs at q nothing g h = tt
  declared_bound cs at q (absent r) g h = declared_bound cs (suc at) q r g h
  declared_bound cs at q (node k n a r) g h =
      bound_joined (declared_of k a (declared a)) (declared r)
      (declared_here k a
      (λ p. looked_bound (inside (cs at) k a) 0 (q + one_each k) a (λ i. strict_inside s o (cs at) k a i p (g at)) (kept_below cs at q k n a r h))
      (λ p. declared_bound (inside (cs at) k a) 0 (q + one_each k) a (λ i. strict_inside s o (cs at) k a i p (g at)) (kept_below cs at q k n a r h)))
      (declared_bound cs (suc at) (q + node_count (node k n a nothing)) r g (kept_behind cs at q k n a r h))

  var_passes : (k : Kind) → is_var k ≡ true → passes_on k ≡ true
  var_passes (program source) h = absurd cc
  var_passes (function how pure) h = absurd cc
  var_passes (class how) h = absurd cc
  var_passes k h = refl

  statements_pass : (k : Kind) → holds_statements k ≡ true → passes_on k ≡ true
  statements_pass (program source) h = absurd cc
  statements_pass (function how pure) h = absurd cc
  statements_pass (class how) h = absurd cc
  statements_pass k h = refl

  either_bound : (v w : Bool) (xs ys : List Tree) → (v ≡ true → AllBound xs) → (w ≡ true → AllBound ys) → AllBound (if v then xs else if w then ys else [])
  either_bound true w xs ys f g = f refl
  either_bound false true xs ys f g = g refl
  either_bound false false xs ys f g = tt

  pub kept_bound : (cs : ℕ → Context) (at q : ℕ) (t : Forest) → ((i : ℕ) → AsStrict s o (cs i)) → broken_in cs at q t ≡ [] → AllBound (kept t)
  kept_bound cs at q nothing g h = tt
  kept_bound cs at q (absent r) g h = kept_bound cs (suc at) q r g h
  kept_bound cs at q (node k n a r) g h =
      bound_joined (kept_of k a (kept a)) (kept r)
      (either_bound (is_var k) (holds_statements k) (declared a) (kept a)
      (λ is. declared_bound (inside (cs at) k a) 0 (q + one_each k) a (λ i. strict_inside s o (cs at) k a i (var_passes k is) (g at)) (kept_below cs at q k n a r h))
      (λ holds. kept_bound (inside (cs at) k a) 0 (q + one_each k) a (λ i. strict_inside s o (cs at) k a i (statements_pass k holds) (g at)) (kept_below cs at q k n a r h)))
      (kept_bound cs (suc at) (q + node_count (node k n a nothing)) r g (kept_behind cs at q k n a r h))

  -- ---- a declaration of such names

  nothing_broken : (b : Bool) (q r : ℕ) → b ≡ true → unless b q r ≡ []
  nothing_broken true q r h = refl
  nothing_broken false q r h = absurd cc

  a_name_is_formed : (c : Context) (q : ℕ) (k : Kind) (n : Note) (b : Forest) → AsStrict s o c → is_name_alone k b ≡ true → BoundAt k → broken_in (λ i. form.below_it c) 0 q (node k n b (absent nothing)) ≡ []
  a_name_is_formed c q (binding_name x) n nothing g h bound =
      ap (λ z. z ++ [] ++ [] ++ [] ++ [] ++ [] ++ [] ++ [] ++ [] ++ [])
      (nothing_broken (may_be_bound c.strict (is_module c.source) x) q 5
      (subst (λ z. may_be_bound z (is_module c.source) x ≡ true) (sym g.strict) (subst (λ z. may_be_bound s (is_module z) x ≡ true) (sym g.source) bound)))
  a_name_is_formed c q (binding_name x) n (absent r) g h bound = absurd cc
  a_name_is_formed c q (binding_name x) n (node j m d r) g h bound = absurd cc
  a_name_is_formed c q k n b g h bound = absurd cc

  below_strict : (c : Context) → AsStrict s o c → AsStrict s o (form.below_it c)
  below_strict c g = record { strict = g.strict; source = g.source }

  declarators_formed : (c : Context) (at q : ℕ) (ts : List Tree) → AsStrict s o c → are_names ts ≡ true → AllBound ts → broken_in (λ i. form.below_it c) at q (row (map declarator_of ts)) ≡ []
  declarators_formed c at q [] g h bound = refl
  declarators_formed c at q (t ∷ ts) g h bound =
      ap₂ (λ x y. x ++ y)
      (a_name_is_formed (form.below_it c) (q + one_each variable_declarator) t.kind t.note t.below (below_strict c g) (first_of_both (is_bare_name t) (are_names ts) h) bound.0)
      (declarators_formed c (suc at) (q + node_count (node variable_declarator (record { span = t.note.span; id = None }) (node t.kind t.note t.below (absent nothing)) nothing)) ts g (second_of_both (is_bare_name t) (are_names ts) h) bound.1)

  right_here : (q : ℕ) (k : Kind) (n m : Note) (b r : Forest) → is_name_alone k b ≡ true → ((q : ℕ) → places_of (is_declarator_wrong false variable.Var) q r ≡ [])
      → places_of (is_declarator_wrong false variable.Var) q (node variable_declarator n (node k m b (absent nothing)) r) ≡ []
  right_here q (binding_name x) n m nothing r h later = later (q + node_count (node variable_declarator n (node (binding_name x) m nothing (absent nothing)) nothing))
  right_here q (binding_name x) n m (absent c) r h later = absurd cc
  right_here q (binding_name x) n m (node j i d c) r h later = absurd cc
  right_here q k n m b r h later = absurd cc

  none_wrong : (q : ℕ) (ts : List Tree) → are_names ts ≡ true → places_of (is_declarator_wrong false variable.Var) q (row (map declarator_of ts)) ≡ []
  none_wrong q [] h = refl
  none_wrong q (t ∷ ts) h = right_here q t.kind (record { span = t.note.span; id = None }) t.note t.below (row (map declarator_of ts)) (first_of_both (is_bare_name t) (are_names ts) h) (λ p. none_wrong p ts (second_of_both (is_bare_name t) (are_names ts) h))

  own_rules : (is_alone is_head : Bool) (q : ℕ) (t : Tree) (ts : List Tree) → is_head ≡ false → are_names (t ∷ ts) ≡ true
      → (unless (not (is_alone && false)) q 11 ++ (unless (counts_right is_head (length_of (row (map declarator_of (t ∷ ts))))) q 11 ++ each_breaks 11 (places_of (is_declarator_wrong is_head variable.Var) (suc q) (row (map declarator_of (t ∷ ts)))))) ++ [] ≡ []
  own_rules is_alone false q t ts is h =
      ap₂ (λ x y. x ++ y ++ []) (never_alone is_alone q)
      (ap₂ (λ x y. x ++ each_breaks 11 y) (ap (λ b. unless (not b) q 11) (not_first (length_of (row (map declarator_of (t ∷ ts)))) (Prim.omega arith))) (none_wrong (suc q) (t ∷ ts) h))
    where
      never_alone : (b : Bool) (q : ℕ) → unless (not (b && false)) q 11 ≡ []
      never_alone true q = refl
      never_alone false q = refl
  own_rules is_alone true q t ts is h = absurd cc

  declaration_formed : (cs : ℕ → Context) (at q : ℕ) (ts : List Tree) → AsStrict s o (cs at) → (cs at).is_head ≡ false → are_names ts ≡ true → AllBound ts → broken_in cs at q (row (declaration_of (map declarator_of ts) ∷ [])) ≡ []
  declaration_formed cs at q [] g head h bound = refl
  declaration_formed cs at q (t ∷ ts) g head h bound =
      ap₂ (λ x y. x ++ (y ++ []) ++ []) (own_rules (cs at).is_alone (cs at).is_head q t ts head h) (declarators_formed (form.below_it (cs at)) 0 (q + 1 + 0) (t ∷ ts) (below_strict (cs at) g) h bound)

-- in code as strict, of the same source, and not in the head of a loop
pub breaks_none : (t : Forest) → Fits statement t → (cs ds : ℕ → Context) (at bt p q : ℕ) → ((i : ℕ) → AsStrict (ds bt).strict (ds bt).source (cs i)) → broken_in cs at p t ≡ [] → (ds bt).is_head ≡ false
    → broken_in ds bt q (row (declaration_of (map declarator_of (kept t)) ∷ [])) ≡ []
breaks_none t fits cs ds at bt p q alike h head =
    declaration_formed (ds bt).strict (ds bt).source ds bt q (kept t) (record { strict = refl; source = refl }) head (kept_are_names t fits) (kept_bound (ds bt).strict (ds bt).source cs at p t alike h)
