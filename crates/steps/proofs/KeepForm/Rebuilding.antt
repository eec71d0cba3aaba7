-- An expression that is rebuilt of its parts breaks no rule of form.
use Rattle.std.proofs.Common.{◌≡◌, ℕ, ◌+◌, suc, List, [], ◌++◌, ◌==◌, Bool, true, false, if◌then◌else◌, refl, sym, ap, ◌∙◌}
use Rattle.js_tree.specs.Count.{one_each, node_count}
use Rattle.js_syntax.specs.declared.node_kind.NodeKind.{NodeKind as Kind}
use Rattle.js_syntax.specs.declared.node_kind.NodeKind.TheVariants.{Program as program, Function as function, Class as class, MethodDefinition as method_definition, PropertyDefinition as property_definition, Property as property, StaticBlock as static_block, LabeledStatement as labeled_statement, IfStatement as if_statement, WithStatement as with_statement, WhileStatement as while_statement, DoWhileStatement as do_while_statement, ForStatement as for_statement, ForInStatement as for_in_statement, ForOfStatement as for_of_statement, SwitchStatement as switch_statement}
use Rattle.js_syntax.specs.declared.kind.PropertyKind.TheVariants as property_kind
use Rattle.js_syntax.specs.Node.{Note, Forest, nothing, node, absent, joined, alone}
use Rattle.js_rebuilt.specs.Rebuilt.{is_operation, MayBeBuilt, Rebuilt, ends, stays, leaves, opened, built, absent_leaves, absent_comes}
use Rattle.form_rules.specs.declared.rule.Break.{Break}
use Rattle.form_rules.specs.Context.{Context, below_it, inside}
use Rattle.form_rules.specs.Rules.{broken_at}
use Rattle.form_rules.specs.Form.{broken_in}
use Rattle.steps.specs.KeepForm.Part.{is_asked_for, RebuildsTo}
use Rattle.steps.specs.KeepForm.Sheds.{outermost, entered}
use Rattle.steps.proofs.KeepForm.Alone.{inside_alike, rules_alike}
use Rattle.steps.proofs.KeepForm.Rows.{itself}
use Rattle.steps.proofs.KeepForm.Rules.{first_empty, second_empty, both_empty, rules_kept}

-- in the same contexts, at other places of the tree, a row breaks no rule either
pub moved : (t : Forest) (f g : ℕ → Context) → ((i : ℕ) → g i ≡ f i) → (i p q : ℕ) → broken_in f i p t ≡ [] → broken_in g i q t ≡ []
moved nothing f g same i p q h = refl
moved (absent r) f g same i p q h = moved r f g same (suc i) p q h
moved (node k n a r) f g same i p q h =
    let own = broken_at (f i) k p a in
    let below = broken_in (inside (f i) k a) 0 (p + one_each k) a in
    let behind = broken_in f (suc i) (p + node_count (node k n a nothing)) r in
    let front = first_empty (own ++ below) behind h in
    both_empty (broken_at (g i) k q a ++ broken_in (inside (g i) k a) 0 (q + one_each k) a) (broken_in g (suc i) (q + node_count (node k n a nothing)) r)
    (both_empty (broken_at (g i) k q a) (broken_in (inside (g i) k a) 0 (q + one_each k) a)
    (ap (λ c. broken_at c k q a) (same i) ∙ rules_kept outermost (f i) p q a a k (itself (entered outermost k a) a) (first_empty own below front))
    (moved a (inside (f i) k a) (inside (g i) k a) (λ x. ap (λ c. inside c k a x) (same i)) 0 (p + one_each k) (q + one_each k) (second_empty own below front)))
    (moved r f g same (suc i) (p + node_count (node k n a nothing)) (q + node_count (node k n a nothing)) (second_empty (own ++ below) behind h))

-- ---- rows in one context

-- what lies below an operation is in the context that it is in
inside_operation : (c : Context) (k : Kind) (a : Forest) (at : ℕ) → is_operation k ≡ true → inside c k a at ≡ below_it c
inside_operation c (program source) a at h = absurd cc
inside_operation c (function how pure) a at h = absurd cc
inside_operation c (class how) a at h = absurd cc
inside_operation c (method_definition how is_static key) a at h = absurd cc
inside_operation c (property_definition is_static key) a at h = absurd cc
inside_operation c static_block a at h = absurd cc
inside_operation c (labeled_statement label) a at h = absurd cc
inside_operation c if_statement a at h = absurd cc
inside_operation c with_statement a at h = absurd cc
inside_operation c while_statement a at h = absurd cc
inside_operation c do_while_statement a at h = absurd cc
inside_operation c for_statement a at h = absurd cc
inside_operation c for_in_statement a at h = absurd cc
inside_operation c for_of_statement a at h = absurd cc
inside_operation c switch_statement a at h = absurd cc
inside_operation c (property property_kind.Init false key) a at h = either (at == 1)
  where
    either : (is_value : Bool) → (if is_value then below_it c else below_it c) ≡ below_it c
    either true = refl
    either false = refl
inside_operation c (property property_kind.Init true key) a at h = absurd cc
inside_operation c (property property_kind.Get is_one key) a at h = absurd cc
inside_operation c (property property_kind.Set is_one key) a at h = absurd cc
inside_operation c k a at h = refl

module _ (c : Context) where
  -- that of a node below another
  abbrev there : ℕ → Context
  there at = below_it c

  -- a node, and what lies below it
  abbrev own : (k : Kind) (p : ℕ) (a : Forest) → List Break
  own k p a = broken_at (below_it c) k p a ++ broken_in (inside (below_it c) k a) 0 (p + one_each k) a

  own_moved : (k : Kind) (n : Note) (a : Forest) (p q : ℕ) → own k p a ≡ [] → own k q a ≡ []
  own_moved k n a p q h = first_empty (own k q a) [] (moved (node k n a nothing) there there (λ i. refl) 0 p q (both_empty (own k p a) [] h refl))

  anywhere : (t : Forest) (i j p q : ℕ) → broken_in there i p t ≡ [] → broken_in there j q t ≡ []
  anywhere nothing i j p q h = refl
  anywhere (absent r) i j p q h = anywhere r (suc i) (suc j) p q h
  anywhere (node k n a r) i j p q h =
      let behind = broken_in there (suc i) (p + node_count (node k n a nothing)) r in
      both_empty (own k q a) (broken_in there (suc j) (q + node_count (node k n a nothing)) r) (own_moved k n a p q (first_empty (own k p a) behind h))
      (anywhere r (suc i) (suc j) (p + node_count (node k n a nothing)) (q + node_count (node k n a nothing)) (second_empty (own k p a) behind h))

  abbrev None : Forest → Type 0
  None t = broken_in there 0 0 t ≡ []

  node_none : (k : Kind) (n : Note) (a r : Forest) → own k 0 a ≡ [] → None r → None (node k n a r)
  node_none k n a r h g = both_empty (own k 0 a) (broken_in there 1 (0 + node_count (node k n a nothing)) r) h (anywhere r 0 1 0 (0 + node_count (node k n a nothing)) g)

  own_none : (k : Kind) (n : Note) (a r : Forest) → None (node k n a r) → own k 0 a ≡ []
  own_none k n a r h = first_empty (own k 0 a) (broken_in there 1 (0 + node_count (node k n a nothing)) r) h

  behind_none : (k : Kind) (n : Note) (a r : Forest) → None (node k n a r) → None r
  behind_none k n a r h = anywhere r 1 0 (0 + node_count (node k n a nothing)) 0 (second_empty (own k 0 a) (broken_in there 1 (0 + node_count (node k n a nothing)) r) h)

  joined_none : (t u : Forest) → None t → None u → None (joined t u)
  joined_none nothing u h g = g
  joined_none (absent r) u h g = anywhere (joined r u) 0 1 0 0 (joined_none r u (anywhere r 1 0 0 0 h) g)
  joined_none (node k n a r) u h g = node_none k n a (joined r u) (own_none k n a r h) (joined_none r u (behind_none k n a r h) g)

  before_none : (t u : Forest) → None (joined t u) → None t
  before_none nothing u h = refl
  before_none (absent r) u h = anywhere r 0 1 0 0 (before_none r u (anywhere (joined r u) 1 0 0 0 h))
  before_none (node k n a r) u h = node_none k n a r (own_none k n a (joined r u) h) (before_none r u (behind_none k n a (joined r u) h))

  after_none : (t u : Forest) → None (joined t u) → None u
  after_none nothing u h = h
  after_none (absent r) u h = after_none r u (anywhere (joined r u) 1 0 0 0 h)
  after_none (node k n a r) u h = after_none r u (behind_none k n a (joined r u) h)

  same_there : (k : Kind) (a : Forest) → is_operation k ≡ true → inside (below_it c) k a ≡ there
  same_there k a is = λ z. λ at. inside_operation (below_it c) k a at is z

  parts_none : (k : Kind) (a : Forest) → is_operation k ≡ true → own k 0 a ≡ [] → None a
  parts_none k a is h =
      anywhere a 0 0 (0 + one_each k) 0
      (sym (ap (λ (f : ℕ → Context). broken_in f 0 (0 + one_each k) a) (same_there k a is)) ∙ second_empty (broken_at (below_it c) k 0 a) (broken_in (inside (below_it c) k a) 0 (0 + one_each k) a) h)

  operation_none : (k : Kind) (a : Forest) → MayBeBuilt k a → None a → own k 0 a ≡ []
  operation_none k a may h =
      both_empty (broken_at (below_it c) k 0 a) (broken_in (inside (below_it c) k a) 0 (0 + one_each k) a) (may.breaks_none c 0)
      (ap (λ (f : ℕ → Context). broken_in f 0 (0 + one_each k) a) (same_there k a may.operation) ∙ anywhere a 0 0 0 (0 + one_each k) h)

  rebuilt_none : {t u : Forest} → Rebuilt t u → None t → None u
  rebuilt_none ends h = refl
  rebuilt_none (stays {k = k} {n = n} {a = a} {r = r} {s = s} rest) h = node_none k n a s (own_none k n a r h) (rebuilt_none rest (behind_none k n a r h))
  rebuilt_none (leaves {k = k} {n = n} {a = a} {r = r} rest) h = rebuilt_none rest (behind_none k n a r h)
  rebuilt_none (opened {k = k} {n = n} {a = a} {r = r} is rest) h = rebuilt_none rest (joined_none a r (parts_none k a is (own_none k n a r h)) (behind_none k n a r h))
  rebuilt_none (built {l = l} {m = m} {b = b} {s = s} may rest) h =
      let below = rebuilt_none rest h in
      node_none l m b s (operation_none l b may (before_none b s below)) (after_none b s below)
  rebuilt_none (absent_leaves {r = r} rest) h = rebuilt_none rest (anywhere r 1 0 0 0 h)
  rebuilt_none (absent_comes {s = s} rest) h = anywhere s 0 1 0 0 (rebuilt_none rest h)

-- ---- one expression in the place of another

-- a node for which it doesn't matter what is said of it alone
module _ (c : Context) (k : Kind) (n : Note) (a : Forest) (unasked : is_asked_for k ≡ false) where
  inside_both : inside (below_it c) k a ≡ inside c k a
  inside_both = λ z. λ at. inside_alike c k a at unasked z

  below_both : (p : ℕ) → broken_in (inside (below_it c) k a) 0 (p + one_each k) a ≡ broken_in (inside c k a) 0 (p + one_each k) a
  below_both p = ap (λ (f : ℕ → Context). broken_in f 0 (p + one_each k) a) inside_both

  as_below : (p : ℕ) → broken_at c k p a ++ broken_in (inside c k a) 0 (p + one_each k) a ≡ [] → None c (alone k n a)
  as_below p h =
      let here = broken_at c k p a in
      let below = broken_in (inside c k a) 0 (p + one_each k) a in
      node_none c k n a nothing
      (own_moved c k n a p 0
      (both_empty (broken_at (below_it c) k p a) (broken_in (inside (below_it c) k a) 0 (p + one_each k) a) (rules_alike k p a unasked c (below_it c) refl (first_empty here below h)) (below_both p ∙ second_empty here below h))) refl

  from_below : (q : ℕ) → None c (alone k n a) → broken_at c k q a ++ broken_in (inside c k a) 0 (q + one_each k) a ≡ []
  from_below q h =
      let moved_there = own_moved c k n a 0 q (own_none c k n a nothing h) in
      let here = broken_at (below_it c) k q a in
      let below = broken_in (inside (below_it c) k a) 0 (q + one_each k) a in
      both_empty (broken_at c k q a) (broken_in (inside c k a) 0 (q + one_each k) a) (rules_alike k q a unasked (below_it c) c refl (first_empty here below moved_there))
      (sym (below_both q) ∙ second_empty here below moved_there)

pub rebuilt_kept : (c : Context) (k l : Kind) (n m : Note) (a b : Forest) (p q : ℕ) → RebuildsTo k n a l m b → broken_at c k p a ++ broken_in (inside c k a) 0 (p + one_each k) a ≡ []
    → broken_at c l q b ++ broken_in (inside c l b) 0 (q + one_each l) b ≡ []
rebuilt_kept c k l n m a b p q made h = from_below c l m b made.unasked q (rebuilt_none c made.rebuilt (as_below c k n a made.old_unasked p h))
