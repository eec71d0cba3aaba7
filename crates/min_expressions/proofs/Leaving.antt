-- What leaves with an expression that becomes a child of its own.
use Rattle.std.proofs.Common.{◌≡◌, ◌∙◌, ◌<◌, ◌≤◌, ◌+◌, ℕ, zero, suc, List, [], ◌∷◌, Bool, true, false, ◌||◌, cond, Option, Some, None, is_some, length, refl, sym, ap, subst, true≢false, arith}
use Rattle.std.specs.Prelude.{nat_lt, slice_index_or, slice_set}
use Rattle.js_syntax.specs.declared.node_kind.NodeKind.{NodeKind as Kind}
use Rattle.js_syntax.specs.declared.node_kind.NodeKind.TheVariants.{CallExpression as call_expression}
use Rattle.js_syntax.specs.Node.{Forest, Tree, Note, nothing, node, absent, row, forest_of}
use Rattle.js_tree.specs.Names.{eval_of_call}
use Rattle.scope_counts.specs.Counts.{ids}
use Rattle.symbol_sets.specs.Numbers.{has}
use Rattle.min_context.specs.Edited.{evals, Leaves, DropsNode, Edited}
use Rattle.min_context.specs.Seen.{Seen}
use Rattle.min_expressions.specs.Kept.{child_at, is_call}

-- ---- a row without one of its nodes

pub child_is : (ts : List (Option Tree)) (i : ℕ) → child_at i (row ts) ≡ slice_index_or ts i None
child_is [] i = refl
child_is (None ∷ ts) zero = refl
child_is (Some t ∷ ts) zero = refl
child_is (None ∷ ts) (suc i) = child_is ts i
child_is (Some t ∷ ts) (suc i) = child_is ts i

pub is_within : (ts : List (Option Tree)) (i : ℕ) → is_some (child_at i (row ts)) ≡ true → i < length ts
is_within [] i e = absurd (true≢false (sym e))
is_within (t ∷ ts) zero e = Prim.omega arith
is_within (None ∷ ts) (suc i) e = Prim.omega (arith, is_within ts i e)
is_within (Some t ∷ ts) (suc i) e = Prim.omega (arith, is_within ts i e)

pub record Adds (m : Forest → ℕ) : Type 0 where
  pub none : m nothing ≡ 0
  pub gap : (t : Forest) → m (absent t) ≡ m t
  pub joins : (k : Kind) (n : Note) (b t : Forest) → m (node k n b t) ≡ m (node k n b nothing) + m t
  pub below : (k : Kind) (n : Note) (b : Forest) → m b ≤ m (node k n b nothing)

pub ids_add : (r : ℕ) → Adds (ids r)
ids_add r = record { none = refl; gap = λ t. refl; joins = λ k n b t. Prim.omega arith; below = λ k n b. Prim.omega arith }

pub evals_add : Adds evals
evals_add = record { none = refl; gap = λ t. refl; joins = λ k n b t. Prim.omega arith; below = λ k n b. Prim.omega arith }

pub same_some : {x y : Tree} → Some x ≡ Some y → x ≡ y
same_some e = Prim.cc

pub no_child : {P : Type 0} {y : Tree} → None ≡ Some y → P
no_child e = absurd Prim.cc

taken_out : (m : Forest → ℕ) → Adds m → (ts : List (Option Tree)) (i : ℕ) (y : Tree) → child_at i (row ts) ≡ Some y → m (row ts) ≡ m (row (slice_set ts i None)) + m (forest_of y)
taken_out m a [] i y e = no_child e
taken_out m a (None ∷ ts) zero y e = no_child e
taken_out m a (Some t ∷ ts) zero y e = Prim.omega (arith, a.joins t.kind t.note t.below (row ts), a.gap (row ts), ap (λ z. m (forest_of z)) (same_some e))
taken_out m a (None ∷ ts) (suc i) y e = Prim.omega (arith, a.gap (row ts), a.gap (row (slice_set ts i None)), taken_out m a ts i y e)
taken_out m a (Some t ∷ ts) (suc i) y e = Prim.omega (arith, a.joins t.kind t.note t.below (row ts), a.joins t.kind t.note t.below (row (slice_set ts i None)), taken_out m a ts i y e)

-- ---- the context

no_call : (k : Kind) (b : Forest) → is_call k ≡ false → cond {A = ℕ} (is_some (eval_of_call k b)) 1 0 ≡ 0
no_call (call_expression optional pure) b e = absurd (true≢false e)
no_call k b e = refl

missing : (b : Bool) (f g m n : ℕ) → m ≡ (f + g) + n → ((b || nat_lt 0 f) || nat_lt 0 g) ≡ (b || nat_lt n m)
missing true f g m n e = refl
missing false f g m n e = Prim.grind arith

asked_some : (b : Bool) → true ≡ b || true
asked_some true = refl
asked_some false = refl

gone_twice : (b : Bool) (m n f : ℕ) → f ≡ m + n → (b || nat_lt 0 m) || nat_lt 0 n ≡ b || nat_lt 0 f
gone_twice true m n f e = refl
gone_twice false m n f e = Prim.grind arith

none_gone : (b : Bool) → b ≡ b || nat_lt 0 0
none_gone true = refl
none_gone false = refl

pub leaves_none : (c : Seen) → Leaves c (λ r. 0) 0 c
leaves_none c = record { same = refl; room = refl; marks = λ r h. none_gone (has c.marked r); evals = none_gone c.eval_dropped }

-- some leave, and then others
pub leaves_more : {c d e : Seen} {g h f : ℕ → ℕ} {a b n : ℕ} → Leaves c g a d → Leaves d h b e → ((r : ℕ) → f r ≡ g r + h r) → n ≡ a + b → Leaves c f n e
leaves_more {c = c} {d = d} {e = e} {g = g} {h = h} {f = f} {a = a} {b = b} {n = n} m l both calls = record {
  same = l.same ∙ ap {A = Seen} {B = Seen} (λ z. record z { marked = e.marked; eval_dropped = e.eval_dropped }) m.same;
  room = l.room ∙ m.room;
  marks = λ r i. l.marks r (Prim.omega (arith, i, m.room)) ∙ ap (λ x. x || nat_lt 0 (h r)) (m.marks r i) ∙ gone_twice (has c.marked r) (g r) (h r) (f r) (both r);
  evals = l.evals ∙ ap (λ x. x || nat_lt 0 b) m.evals ∙ gone_twice c.eval_dropped a b n calls;
}

-- in the place of x is y; of all else in it the context was told
module _ (c d e : Seen) (x y : Tree) {gone : ℕ → ℕ} {calls : ℕ} (others : Leaves c gone calls d) (itself : DropsNode d (record { kind = x.kind; note = x.note; below = nothing }) e)
    (ids_split : (r : ℕ) → ids r (forest_of x) ≡ (gone r + ids r (node x.kind x.note nothing nothing)) + ids r (forest_of y)) (evals_split : evals (forest_of x) ≡ (calls + evals (node x.kind x.note nothing nothing)) + evals (forest_of y)) where
  pub edits_to : Edited c x y true e
  edits_to =
      let asked : e.requested ≡ true = ap {A = Seen} (λ z. z.requested) itself.same in
      record {
        same = itself.same ∙ ap {A = Seen} {B = Seen} (λ z. record z { marked = e.marked; eval_dropped = e.eval_dropped; requested = true }) others.same
            ∙ ap {A = Bool} {B = Seen} (λ b. record c { marked = e.marked; eval_dropped = e.eval_dropped; requested = b }) (sym asked);
        room = itself.room ∙ others.room;
        marks = λ r h. itself.marks r (Prim.omega (arith, h, others.room)) ∙ ap (λ b. b || nat_lt 0 (ids r (node x.kind x.note nothing nothing))) (others.marks r h)
            ∙ missing (has c.marked r) (gone r) (ids r (node x.kind x.note nothing nothing)) (ids r (forest_of x)) (ids r (forest_of y)) (ids_split r);
        evals = itself.evals ∙ ap (λ b. b || nat_lt 0 (evals (node x.kind x.note nothing nothing))) others.evals
            ∙ missing c.eval_dropped calls (evals (node x.kind x.note nothing nothing)) (evals (forest_of x)) (evals (forest_of y)) evals_split;
        asked = asked ∙ asked_some c.requested;
        none = λ q. absurd (true≢false q);
      }

-- the same where x had this row, and y was among it
module _ (c d e : Seen) (x y : Tree) (ts : List (Option Tree)) (i : ℕ) (below : row ts ≡ x.below) (there : child_at i (row ts) ≡ Some y) (call : is_call x.kind ≡ false)
    (others : Leaves c (λ r. ids r (row (slice_set ts i None))) (evals (row (slice_set ts i None))) d) (itself : DropsNode d (record { kind = x.kind; note = x.note; below = nothing }) e) where
  ids_split : (r : ℕ) → ids r (forest_of x) ≡ (ids r (row (slice_set ts i None)) + ids r (node x.kind x.note nothing nothing)) + ids r (forest_of y)
  ids_split r = Prim.omega (arith, ap (ids r) below, taken_out (ids r) (ids_add r) ts i y there)

  evals_split : evals (forest_of x) ≡ (evals (row (slice_set ts i None)) + evals (node x.kind x.note nothing nothing)) + evals (forest_of y)
  evals_split = Prim.omega (arith, ap evals below, taken_out evals evals_add ts i y there, no_call x.kind x.below call, no_call x.kind nothing call)

  pub kept_edits : Edited c x y true e
  kept_edits = edits_to c d e x y others itself ids_split evals_split

-- ---- the same, of what code finds

pub found : (i : ℕ) {ts us : List (Option Tree)} {t : Forest} {o : Option Tree} {y : Tree} → row ts ≡ t → us ≡ ts → o ≡ slice_index_or us i None → o ≡ Some y → child_at i t ≡ Some y
found i {ts = ts} {us = us} below same taken is = ap (child_at i) (sym below) ∙ child_is ts i ∙ ap (λ vs. slice_index_or vs i None) (sym same) ∙ sym taken ∙ is

none_there : {P : Type 0} (o : Option Tree) → is_some o ≡ true → o ≡ None → P
none_there o e f = absurd (true≢false (sym e ∙ ap is_some f))

pub not_none : {P : Type 0} (i : ℕ) {ts us : List (Option Tree)} {t : Forest} {o : Option Tree} → row ts ≡ t → us ≡ ts → is_some (child_at i t) ≡ true → o ≡ slice_index_or us i None → o ≡ None → P
not_none i {ts = ts} {us = us} {t = t} below same there taken is = none_there (child_at i t) there (ap (child_at i) (sym below) ∙ child_is ts i ∙ ap (λ vs. slice_index_or vs i None) (sym same) ∙ sym taken ∙ is)

pub emptied : (v : Tree) (k : Kind) (n : Note) → v.kind ≡ k → v.note ≡ n → v.below ≡ nothing → v ≡ record { kind = k; note = n; below = nothing }
emptied v k n kind note none = ap {A = Kind} {B = Tree} (λ l. record { kind = l; note = v.note; below = v.below }) kind ∙ ap {A = Note} {B = Tree} (λ m. record { kind = k; note = m; below = v.below }) note ∙ ap {A = Forest} {B = Tree} (λ b. record { kind = k; note = n; below = b }) none

pub edits : (i : ℕ) {c d e : Seen} {x v y z : Tree} {ts us : List (Option Tree)} {o : Option Tree} → row ts ≡ x.below → us ≡ ts → o ≡ slice_index_or us i None → o ≡ Some z → y ≡ z → is_call x.kind ≡ false
    → v.kind ≡ x.kind → v.note ≡ x.note → v.below ≡ nothing
    → Leaves c (λ r. ids r (row (slice_set us i None))) (evals (row (slice_set us i None))) d → DropsNode d v e → Edited c x y true e
edits i {c = c} {d = d} {e = e} {x = x} {v = v} {y = y} {z = z} {ts = ts} {us = us} {o = o} below same taken is put call kind note none others itself =
    let there : child_at i (row ts) ≡ Some y = ap (child_at i) below ∙ found i {ts = ts} {us = us} {t = x.below} {o = o} {y = y} below same taken (is ∙ ap Some (sym put)) in
    kept_edits c d e x y ts i below there call
    (subst (λ vs. Leaves c (λ r. ids r (row (slice_set vs i None))) (evals (row (slice_set vs i None))) d) same others)
    (subst (λ w. DropsNode d w e) (emptied v x.kind x.note kind note none) itself)

-- ---- one edit after another

lost_twice : (b : Bool) (m n p : ℕ) → n ≤ m → p ≤ n → ((b || nat_lt n m) || nat_lt p n) ≡ (b || nat_lt p m)
lost_twice true m n p h i = refl
lost_twice false m n p h i = Prim.grind arith

asked_twice : (b : Bool) → ((b || true) || true) ≡ (b || true)
asked_twice true = refl
asked_twice false = refl

-- x became y, that became z, and none brought anything in
pub edited_twice : {c d e : Seen} (x y z : Tree) → ((m : Forest → ℕ) → Adds m → m (forest_of y) ≤ m (forest_of x)) → ((m : Forest → ℕ) → Adds m → m (forest_of z) ≤ m (forest_of y)) → Edited c x y true d → Edited d y z true e → Edited c x z true e
edited_twice {c = c} {d = d} {e = e} x y z fewer again first second = record {
  same = second.same ∙ ap {A = Seen} {B = Seen} (λ v. record v { marked = e.marked; eval_dropped = e.eval_dropped; requested = e.requested }) first.same;
  room = second.room ∙ first.room;
  marks = λ r h. second.marks r (Prim.omega (arith, h, first.room)) ∙ ap (λ b. b || nat_lt (ids r (forest_of z)) (ids r (forest_of y))) (first.marks r h)
      ∙ lost_twice (has c.marked r) (ids r (forest_of x)) (ids r (forest_of y)) (ids r (forest_of z)) (fewer (ids r) (ids_add r)) (again (ids r) (ids_add r));
  evals = second.evals ∙ ap (λ b. b || nat_lt (evals (forest_of z)) (evals (forest_of y))) first.evals
      ∙ lost_twice c.eval_dropped (evals (forest_of x)) (evals (forest_of y)) (evals (forest_of z)) (fewer evals evals_add) (again evals evals_add);
  asked = second.asked ∙ ap (λ b. b || true) first.asked ∙ asked_twice c.requested;
  none = λ q. absurd (true≢false q);
}
