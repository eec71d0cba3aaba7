-- Where the names of a row are declared: in a scope of the row, or by a node of it in the context of its place.
use Rattle.std.proofs.Common.{◌≡◌, ◌∙◌, ◌⊎◌, ◌≤◌, inl, inr, ℕ, suc, true, arith}
use Rattle.js_syntax.specs.declared.node_kind.NodeKind.{NodeKind as Kind}
use Rattle.js_syntax.specs.Node.{Forest, nothing, node, absent, Note}
use Rattle.js_meaning.specs.Value.{Text}
use Rattle.js_meaning.specs.Scope.{names_of, bound_names, vars_of, var_names, specifier_decls, import_decls, item_decls, lexical}
use Rattle.js_meaning.specs.Module.{names_in}
use Rattle.steps.specs.Names.{is_among}
use Rattle.scope_rules.specs.declared.layer.Layer.{Layer}
use Rattle.scope_rules.specs.Context.{Context}
use Rattle.scope_rules.specs.Site.{BindingSite}
use Rattle.steps.specs.Naming.Placed.{Place}
use Rattle.steps.proofs.Naming.Lists.{in_left, in_right, declared_left, declared_right}
use Rattle.steps.proofs.Naming.Taking.{takes_items, takes_vars, takes_names, takes_imports}

-- b is declared by a node at this place, or below it
pub data Here (p : Place) (c : Context) (k : Kind) (a : Forest) (b : BindingSite) : Type 0 where
  in_block : takes_items p ≡ true → b.layer ≡ c.block → is_among (names_in (item_decls k a (lexical a))) b.name ≡ true → Here p c k a b
  in_variables : takes_vars p ≡ true → b.layer ≡ c.variables → is_among (vars_of k a (var_names a)) b.name ≡ true → Here p c k a b
  as_declared : takes_names p ≡ true → b.layer ≡ c.declaring.layer → is_among (names_of k (bound_names a)) b.name ≡ true → Here p c k a b
  as_imported : takes_imports p ≡ true → b.layer ≡ c.declaring.layer → ((source : Text) → is_among (names_in (specifier_decls source k a (import_decls source a))) b.name ≡ true) → Here p c k a b

abbrev pub Meets : (ps : ℕ → Place) (cs : ℕ → Context) (at : ℕ) (t : Forest) (b : BindingSite) → Type 0
Meets ps cs at nothing b = ⊥
Meets ps cs at (absent r) b = Meets ps cs (suc at) r b
Meets ps cs at (node k n a r) b = Here (ps at) (cs at) k a b ⊎ Meets ps cs (suc at) r b

-- ---- in a row whose contexts declare in the same layers

pub record Same (cs : ℕ → Context) (at : ℕ) (block variables declares : Layer) : Type 0 where
  pub in_block : (i : ℕ) → at ≤ i → (cs i).block ≡ block
  pub in_variables : (i : ℕ) → at ≤ i → (cs i).variables ≡ variables
  pub as_declared : (i : ℕ) → at ≤ i → (cs i).declaring.layer ≡ declares

pub same_later : (cs : ℕ → Context) (at : ℕ) (x y z : Layer) → Same cs at x y z → Same cs (suc at) x y z
same_later cs at x y z s = record {
  in_block = λ i h. s.in_block i (Prim.omega (arith, h));
  in_variables = λ i h. s.in_variables i (Prim.omega (arith, h));
  as_declared = λ i h. s.as_declared i (Prim.omega (arith, h));
}

pub data Gathered (ps : ℕ → Place) (at : ℕ) (x y z : Layer) (t : Forest) (b : BindingSite) : Type 0 where
  of_block : (i : ℕ) → at ≤ i → takes_items (ps i) ≡ true → b.layer ≡ x → is_among (names_in (lexical t)) b.name ≡ true → Gathered ps at x y z t b
  of_variables : (i : ℕ) → at ≤ i → takes_vars (ps i) ≡ true → b.layer ≡ y → is_among (var_names t) b.name ≡ true → Gathered ps at x y z t b
  of_declared : (i : ℕ) → at ≤ i → takes_names (ps i) ≡ true → b.layer ≡ z → is_among (bound_names t) b.name ≡ true → Gathered ps at x y z t b
  of_imported : (i : ℕ) → at ≤ i → takes_imports (ps i) ≡ true → b.layer ≡ z → ((source : Text) → is_among (names_in (import_decls source t)) b.name ≡ true) → Gathered ps at x y z t b

first_gathered : (ps : ℕ → Place) (cs : ℕ → Context) (at : ℕ) (x y z : Layer) (k : Kind) (n : Note) (a r : Forest) (b : BindingSite) → Same cs at x y z → Here (ps at) (cs at) k a b → Gathered ps at x y z (node k n a r) b
first_gathered ps cs at x y z k n a r b s (in_block f e h) = of_block at (Prim.omega arith) f (e ∙ s.in_block at (Prim.omega arith)) (declared_left (item_decls k a (lexical a)) (lexical r) b.name h)
first_gathered ps cs at x y z k n a r b s (in_variables f e h) = of_variables at (Prim.omega arith) f (e ∙ s.in_variables at (Prim.omega arith)) (in_left (vars_of k a (var_names a)) (var_names r) b.name h)
first_gathered ps cs at x y z k n a r b s (as_declared f e h) = of_declared at (Prim.omega arith) f (e ∙ s.as_declared at (Prim.omega arith)) (in_left (names_of k (bound_names a)) (bound_names r) b.name h)
first_gathered ps cs at x y z k n a r b s (as_imported f e h) =
    of_imported at (Prim.omega arith) f (e ∙ s.as_declared at (Prim.omega arith)) (λ source. declared_left (specifier_decls source k a (import_decls source a)) (import_decls source r) b.name (h source))

pub later : (at i : ℕ) → suc at ≤ i → at ≤ i
later at i h = Prim.omega (arith, h)

behind_gathered : (ps : ℕ → Place) (at : ℕ) (x y z : Layer) (k : Kind) (n : Note) (a r : Forest) (b : BindingSite) → Gathered ps (suc at) x y z r b → Gathered ps at x y z (node k n a r) b
behind_gathered ps at x y z k n a r b (of_block i l f e h) = of_block i (later at i l) f e (declared_right (item_decls k a (lexical a)) (lexical r) b.name h)
behind_gathered ps at x y z k n a r b (of_variables i l f e h) = of_variables i (later at i l) f e (in_right (vars_of k a (var_names a)) (var_names r) b.name h)
behind_gathered ps at x y z k n a r b (of_declared i l f e h) = of_declared i (later at i l) f e (in_right (names_of k (bound_names a)) (bound_names r) b.name h)
behind_gathered ps at x y z k n a r b (of_imported i l f e h) = of_imported i (later at i l) f e (λ source. declared_right (specifier_decls source k a (import_decls source a)) (import_decls source r) b.name (h source))

absent_gathered : (ps : ℕ → Place) (at : ℕ) (x y z : Layer) (r : Forest) (b : BindingSite) → Gathered ps (suc at) x y z r b → Gathered ps at x y z (absent r) b
absent_gathered ps at x y z r b (of_block i l f e h) = of_block i (later at i l) f e h
absent_gathered ps at x y z r b (of_variables i l f e h) = of_variables i (later at i l) f e h
absent_gathered ps at x y z r b (of_declared i l f e h) = of_declared i (later at i l) f e h
absent_gathered ps at x y z r b (of_imported i l f e h) = of_imported i (later at i l) f e h

pub gather : (ps : ℕ → Place) (cs : ℕ → Context) (at : ℕ) (x y z : Layer) (t : Forest) (b : BindingSite) → Same cs at x y z → Meets ps cs at t b → Gathered ps at x y z t b
gather ps cs at x y z nothing b s h = absurd h
gather ps cs at x y z (absent r) b s h = absent_gathered ps at x y z r b (gather ps cs (suc at) x y z r b (same_later cs at x y z s) h)
gather ps cs at x y z (node k n a r) b s (inl h) = first_gathered ps cs at x y z k n a r b s h
gather ps cs at x y z (node k n a r) b s (inr h) = behind_gathered ps at x y z k n a r b (gather ps cs (suc at) x y z r b (same_later cs at x y z s) h)
