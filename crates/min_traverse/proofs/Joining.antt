-- How an exact clause makes a hook's contract.
use Rattle.std.proofs.Common.{◌≡◌, ◌∙◌, ◌<◌, ◌≤◌, ◌+◌, ℕ, Bool, true, false, ◌||◌, Option, Some, None, ◌⊎◌, inl, inr, length, refl, sym, ap, subst, arith, true≢false}
use Rattle.std.specs.Prelude.{nat_lt, cond, is_some}
use Rattle.js_syntax.specs.Facts.{weight}
use Rattle.js_syntax.specs.Node.{Forest, Tree, nothing, forest_of, total}
use Rattle.scope_counts.specs.Counts.{ids}
use Rattle.scope_counts.specs.Edits.{Around, plug}
use Rattle.symbol_sets.specs.Numbers.{has}
use Rattle.min_context.specs.Edited.{evals, Edited, Leaves}
use Rattle.min_context.specs.IsTrue.{IsTrue}
use Rattle.min_context.specs.Seen.{Seen, still}
use Rattle.min_options.specs.declared.options.CompressOptions.{CompressOptions}
use Rattle.min_traverse.specs.Edits.{Edits, no_edit}
use Rattle.min_traverse.specs.Moves.{Holds, IsHere, NodeMoves, before}
use Rattle.min_traverse.specs.Lawful.{MarksLeft, Stays, Rule, or_same, Lawful, Kept, Does, or_else, either}
use Rattle.min_traverse.proofs.Moving.{ids_plug, fewer_beside, none_fewer}
use Rattle.min_traverse.proofs.Rows.{node_stays}

-- ---- a node with others behind it

total_before : (x : Tree) (r : Forest) → total weight (before x r) ≡ total weight (forest_of x) + total weight r
total_before x r = Prim.omega arith

ids_before : (i : ℕ) (x : Tree) (r : Forest) → ids i (before x r) ≡ ids i r + ids i (forest_of x)
ids_before i x r = Prim.omega arith

asked_not : (a b : Bool) → (a || b) ≡ false → b ≡ false
asked_not true b e = absurd (true≢false e)
asked_not false b e = e

asked_before : (a b : Bool) → (a || b) ≡ false → a ≡ false
asked_before true b e = absurd (true≢false e)
asked_before false b e = refl

weighs : (m n r x y : ℕ) (a b o : Bool) → o ≡ a || b → x ≡ m + r → y ≡ n + r → n + cond b 1 0 ≤ m → y + cond o 1 0 ≤ x + cond a 1 0
weighs m n r x y true true o e f g l = rw e (Prim.omega (arith, f, g, l))
weighs m n r x y true false o e f g l = rw e (Prim.omega (arith, f, g, l))
weighs m n r x y false true o e f g l = rw e (Prim.omega (arith, f, g, l))
weighs m n r x y false false o e f g l = rw e (Prim.omega (arith, f, g, l))

-- ---- a hook

module _ {S : Type 0} {E : CompressOptions → Forest → Forest → Type 0} {Own : S → Seen → Forest → Type 0} (stays : Stays E) where
  -- what any hook owes whose call edits as `Edited` says; its edits may go by what the walker asks beside,
  -- and that may be so again by what is marked
  pub held_moves : {s s' : S} {c d : Seen} {x y : Tree} {asks : Bool}
      → ((a : Around) (r : Forest) → IsHere c a r → Holds Own s (still c) (plug a (before x r)) → Edits (E c.options) (plug a (before x r)) (plug a (before y r)))
      → ((i : ℕ) → ids i (forest_of y) ≤ ids i (forest_of x))
      → total weight (forest_of y) + cond asks 1 0 ≤ total weight (forest_of x)
      → (asks ≡ false → y ≡ x)
      → Edited c x y asks d
      → ((a : Around) (r : Forest) → IsHere c a r → MarksLeft (still c) (still d) (plug a (before x r)) (plug a (before y r)) → Holds Own s (still c) (plug a (before x r)) → Own s' (still d) (plug a (before y r)))
      → NodeMoves S E (Holds Own) s c x s' d y
  held_moves {c = c} {d = d} {x = x} {y = y} {asks = asks} edits fewer lighter quiet e kept =
      let fewer_with : (r : Forest) (i : ℕ) → ids i (before y r) ≤ ids i (before x r) = λ r i. Prim.omega (arith, fewer i, ids_before i x r, ids_before i y r) in
      let marks_with : (r : Forest) (i : ℕ) → i < length c.marked → has d.marked i ≡ (has c.marked i || nat_lt (ids i (before y r)) (ids i (before x r))) =
      λ r i l. e.marks i l ∙ ap (λ b. has c.marked i || b) (sym (fewer_beside (ids i r) (ids i (before x r)) (ids i (before y r)) (ids i (forest_of x)) (ids i (forest_of y)) (ids_before i x r) (ids_before i y r))) in
      let marks_at : (a : Around) (r : Forest) → MarksLeft (still c) (still d) (plug a (before x r)) (plug a (before y r)) = λ a r. record {
        same = ap still e.same;
        room = e.room;
        marks = λ i l. marks_with r i l ∙ ap (λ b. has c.marked i || b) (sym (fewer_beside (ids i (plug a nothing)) (ids i (plug a (before x r))) (ids i (plug a (before y r))) (ids i (before x r)) (ids i (before y r)) (ids_plug i a (before x r)) (ids_plug i a (before y r))));
      } in
      record {
        moves = λ r. record {
          keeps = λ a p h. (stays (still c) (still d) (plug a (before x r)) (plug a (before y r)) (edits a r p h) (marks_at a r) h.0, kept a r p (marks_at a r) h);
          edits = λ a p h. edits a r p h;
          options = ap (λ z. z.options) e.same;
          room = e.room;
          fewer = fewer_with r;
          marks = marks_with r;
          lighter = weighs (total weight (forest_of x)) (total weight (forest_of y)) (total weight r) (total weight (before x r)) (total weight (before y r)) c.requested asks d.requested e.asked (total_before x r) (total_before y r) lighter;
          quiet = λ q. ap (λ z. before z r) (quiet (asked_not c.requested asks (sym e.asked ∙ q)));
          quiet_before = λ q. asked_before c.requested asks (sym e.asked ∙ q);
        };
        same_place = ap (λ z. z.place) e.same;
      }

  -- the same where a true context is enough
  pub edit_moves : {s s' : S} {c d : Seen} {x y : Tree} {asks : Bool}
      → ((a : Around) (r : Forest) → IsHere c a r → IsTrue (still c) (plug a (before x r)) → Edits (E c.options) (plug a (before x r)) (plug a (before y r)))
      → ((i : ℕ) → ids i (forest_of y) ≤ ids i (forest_of x))
      → total weight (forest_of y) + cond asks 1 0 ≤ total weight (forest_of x)
      → (asks ≡ false → y ≡ x)
      → Edited c x y asks d → Kept Own s c x s' d y → NodeMoves S E (Holds Own) s c x s' d y
  edit_moves edits fewer lighter quiet e kept = held_moves (λ a r p h. edits a r p h.0) fewer lighter quiet e (λ a r p m h. kept a r p h.0 h.1)

  -- a hook that applies a rule
  pub lawful_moves : {s s' : S} {c d : Seen} {x y : Tree} (rule : Rule) → Lawful E rule → y ≡ or_same x (rule c x) → Edited c x y (is_some (rule c x)) d → Kept Own s c x s' d y → NodeMoves S E (Holds Own) s c x s' d y
  lawful_moves {s = s} {s' = s'} {c = c} {d = d} {x = x} {y = y} rule w = at (rule c x) refl
    where
      at : (o : Option Tree) → rule c x ≡ o → y ≡ or_same x o → Edited c x y (is_some o) d → Kept Own s c x s' d y → NodeMoves S E (Holds Own) s c x s' d y
      at None is tree e kept = edit_moves (λ a r p h. subst (λ z. Edits (E c.options) (plug a (before x r)) (plug a (before z r))) (sym tree) no_edit) (λ i. Prim.omega (arith, ap (λ z. ids i (forest_of z)) tree)) (Prim.omega (arith, ap (λ z. total weight (forest_of z)) tree)) (λ q. tree) e kept
      at (Some z) is tree e kept =
          let found : rule c x ≡ Some y = is ∙ ap Some (sym tree) in
          edit_moves (λ a r p h. w.edits c a x y r h p found) (w.thins c x y found) (w.lighter c x y found) (λ q. absurd (true≢false q)) e kept

  -- the same of a call's exact clause
  pub does_moves : {s s' : S} {c d : Seen} {x y : Tree} {b : Bool} (rule : Rule) → Lawful E rule → Does rule c x b d y → Kept Own s c x s' d y → NodeMoves S E (Holds Own) s c x s' d y
  does_moves rule w e kept = lawful_moves rule w e.tree e.edited kept

-- a hook that changes neither the node nor the context: what the walker asks beside must be so of it again
pub unchanged_moves : {S : Type 0} {E : CompressOptions → Forest → Forest → Type 0} {Own : S → Seen → Forest → Type 0} {s s' : S} {c : Seen} {x : Tree} → Kept Own s c x s' c x → NodeMoves S E (Holds Own) s c x s' c x
unchanged_moves {S = S} {E = E} {Own = Own} {s = s} {c = c} {x = x} kept =
    let stay : NodeMoves S E (Holds Own) s c x s c x = node_stays s c x in
    record {
      moves = λ r. record {
        keeps = λ a p h. (h.0, kept a r p h.0 h.1);
        edits = λ a p h. no_edit;
        options = refl;
        room = refl;
        fewer = (stay.moves r).fewer;
        marks = (stay.moves r).marks;
        lighter = (stay.moves r).lighter;
        quiet = λ q. refl;
        quiet_before = λ q. q;
      };
      same_place = refl;
    }

-- ---- what a call shows for its exact clause

asked_none : (b : Bool) → b ≡ b || false
asked_none true = refl
asked_none false = refl

asked_some : (b : Bool) → true ≡ b || true
asked_some true = refl
asked_some false = refl

pub unedited : (c : Seen) (x : Tree) → Edited c x x false c
unedited c x = record {
  same = refl;
  room = refl;
  marks = λ r h. none_fewer (has c.marked r) (ids r (forest_of x));
  evals = none_fewer c.eval_dropped (evals (forest_of x));
  asked = asked_none c.requested;
  none = λ q. refl;
}

missing : (b : Bool) (gone m n : ℕ) → m ≡ gone + n → b || nat_lt 0 gone ≡ b || nat_lt n m
missing true gone m n e = refl
missing false gone m n e = Prim.grind arith

-- what left is what is missing
pub left_is_missing : {c d : Seen} {gone : ℕ → ℕ} {calls : ℕ} (x y : Tree) → Leaves c gone calls d → ((r : ℕ) → ids r (forest_of x) ≡ gone r + ids r (forest_of y)) → evals (forest_of x) ≡ calls + evals (forest_of y) → Edited c x y true (record d { requested = true })
left_is_missing {c = c} {gone = gone} {calls = calls} x y l split calls_split = record {
  same = ap {A = Seen} {B = Seen} (λ z. record z { requested = true }) l.same;
  room = l.room;
  marks = λ r h. l.marks r h ∙ missing (has c.marked r) (gone r) (ids r (forest_of x)) (ids r (forest_of y)) (split r);
  evals = l.evals ∙ missing c.eval_dropped calls (evals (forest_of x)) (evals (forest_of y)) calls_split;
  asked = asked_some c.requested;
  none = λ q. absurd (true≢false q);
}

pub does_none : (rule : Rule) (c : Seen) (x : Tree) → rule c x ≡ None → Does rule c x false c x
does_none rule c x e = record { answers = ap is_some (sym e); tree = ap (or_same x) (sym e); edited = subst (λ o. Edited c x x (is_some o) c) (sym e) (unedited c x) }

pub does_some : {d : Seen} (rule : Rule) (c : Seen) (x y : Tree) → rule c x ≡ Some y → Edited c x y true d → Does rule c x true d y
does_some {d = d} rule c x y e w = record { answers = ap is_some (sym e); tree = ap (or_same x) (sym e); edited = subst (λ o. Edited c x y (is_some o) d) (sym e) w }

no_answer : (o : Option Tree) → false ≡ is_some o → o ≡ None
no_answer None e = refl
no_answer (Some x) e = absurd (true≢false (sym e))

-- ---- rules one after another

pub first_does : {c d : Seen} {x y : Tree} (f g : Rule) → Does f c x true d y → Does (either f g) c x true d y
first_does {c = c} {d = d} {x = x} {y = y} f g w = at (f c x) refl w.answers w.tree w.edited
  where
    at : (o : Option Tree) → f c x ≡ o → true ≡ is_some o → y ≡ or_same x o → Edited c x y (is_some o) d → Does (either f g) c x true d y
    at None is e tree w = absurd (true≢false e)
    at (Some z) is e tree w = subst (Does (either f g) c x true d) (sym tree) (does_some (either f g) c x z (ap (λ o. or_else o (g c x)) is) (subst (λ t. Edited c x t true d) tree w))

pub then_does : {c d e : Seen} {x y z : Tree} {b : Bool} (f g : Rule) → Does f c x false d y → Does g d y b e z → Does (either f g) c x b e z
then_does {c = c} {d = d} {e = e} {x = x} {y = y} {z = z} {b = b} f g w v =
    let no : f c x ≡ None = no_answer (f c x) w.answers in
    let same : y ≡ x = w.tree ∙ ap (or_same x) no in
    let stays : d ≡ c = w.edited.none (sym w.answers) in
    let second : Does g c x b e z = subst (λ t. Does g c t b e z) same (subst (λ k. Does g k y b e z) stays v) in
    let is : either f g c x ≡ g c x = ap (λ o. or_else o (g c x)) no in
    record {
      answers = second.answers ∙ ap is_some (sym is);
      tree = second.tree ∙ ap (or_same x) (sym is);
      edited = subst (λ o. Edited c x z (is_some o) e) (sym is) second.edited;
    }

one_of : (o p : Option Tree) (y : Tree) → or_else o p ≡ Some y → (o ≡ Some y) ⊎ (p ≡ Some y)
one_of None p y e = inr e
one_of (Some x) p y e = inl e

pub either_lawful : {E : CompressOptions → Forest → Forest → Type 0} {f g : Rule} → Lawful E f → Lawful E g → Lawful E (either f g)
either_lawful {f = f} {g = g} v w = record {
  edits = λ c a x y r h p e. elim (one_of (f c x) (g c x) y e) [ inl i ↦ v.edits c a x y r h p i | inr i ↦ w.edits c a x y r h p i ];
  thins = λ c x y e. elim (one_of (f c x) (g c x) y e) [ inl i ↦ v.thins c x y i | inr i ↦ w.thins c x y i ];
  lighter = λ c x y e. elim (one_of (f c x) (g c x) y e) [ inl i ↦ v.lighter c x y i | inr i ↦ w.lighter c x y i ];
}
