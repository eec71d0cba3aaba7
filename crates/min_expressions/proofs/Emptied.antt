-- A text of a sum becomes the empty one, and nothing leaves but what stood below it.
use Rattle.std.proofs.Common.{◌≡◌, ◌∙◌, ◌<◌, ◌+◌, ◌++◌, ℕ, List, [], ◌∷◌, Bool, true, false, ◌&&◌, Option, Some, None, if◌then◌else◌, length, take, refl, sym, ap, ap₂, subst, true≢false, arith}
use Rattle.std.specs.Prelude.{slice_index_or, slice_set}
use Rattle.std.specs.Option.{option_map}
use Rattle.std.proofs.lemmas.List.{take_all, take-append-le}
use Rattle.js_syntax.specs.declared.node_kind.NodeKind.{NodeKind as Kind}
use Rattle.js_syntax.specs.declared.node_kind.NodeKind.TheVariants.{BinaryExpression as binary_expression, TemplateLiteral as template_literal, Quasis as quasis, Expressions as expressions}
use Rattle.js_syntax.specs.declared.operator.BinaryOperator.TheVariants.{Addition as addition}
use Rattle.js_syntax.specs.Node.{Forest, Tree, Note, nothing, node, absent, alone, row, forest_of}
use Rattle.js_syntax.proofs.Truth.{first_of_both}
use Rattle.js_effects.specs.Silence.{only_combines}
use Rattle.scope_counts.specs.Counts.{ids}
use Rattle.min_context.specs.Edited.{evals, Leaves, DropsNode, Edited}
use Rattle.min_context.specs.Seen.{Seen}
use Rattle.steps.specs.Allowed.TwoSides.{gives_text, empty_text, has_texts, is_whole, without_texts, text_emptied, two_sides}
use Rattle.steps.specs.Allowed.UnusedOperation.{acts}
use Rattle.rules.specs.Expressions.Uses.{Spot}
use Rattle.min_expressions.specs.TwoSides.{sides_act, sides_go, text_for, text_goes, emptied}
use Rattle.min_expressions.specs.Textless.{template_has_texts, texts_go}
use Rattle.min_expressions.proofs.Chosen.{no_index}
use Rattle.min_expressions.proofs.Leaving.{emptied as itself_alone, edits_to}
use Rattle.min_expressions.proofs.Sided.{two_in}
use Rattle.min_expressions.proofs.TwoSides.{if_true, if_false, both_true}

abbrev sum : Kind
sum = binary_expression addition

abbrev pub sum_of : Note → Forest → Tree
sum_of n t = record { kind = sum; note = n; below = t }

-- ---- which text, and what is left

pub record HasText (k : Kind) (t : Forest) (i : ℕ) : Type 0 where
  pub items : List (Option Tree)
  pub text : Tree
  pub unique : (ts : List (Option Tree)) → row ts ≡ t → ts ≡ items
  pub within : i < length items
  pub two_there : length items ≡ 2
  pub there : (d : Option Tree) → slice_index_or items i d ≡ Some text
  pub becomes : (n : Note) → text_emptied n k t ≡ Some (sum_of n (row (slice_set items i (Some (emptied text)))))
  pub ids_split : (r : ℕ) (n m : Note) → ids r (alone k n t) ≡ (ids r (forest_of text) + ids r (alone k n nothing)) + ids r (alone sum m (row (slice_set items i (Some (emptied text)))))
  pub evals_split : (n m : Note) → evals (alone k n t) ≡ (evals (forest_of text) + evals (alone k n nothing)) + evals (alone sum m (row (slice_set items i (Some (emptied text)))))

first_has : (k l : Kind) (i j : Note) (a b : Forest) → (gives_text k i a && acts l j b) ≡ true → HasText sum (node k i a (node l j b nothing)) 0
first_has k l i j a b e =
    let text : Tree = record { kind = k; note = i; below = a } in
    let other : Tree = record { kind = l; note = j; below = b } in
    record {
      items = Some text ∷ Some other ∷ [];
      text = text;
      unique = λ ts w. two_in ts text other w;
      within = Prim.omega arith;
      two_there = refl;
      there = λ d. refl;
      becomes = λ n. if_true (gives_text k i a && acts l j b) _ _ e;
      ids_split = λ r n m. Prim.omega arith;
      evals_split = λ n m. Prim.omega arith;
    }

second_has : (k l : Kind) (i j : Note) (a b : Forest) → (gives_text k i a && acts l j b) ≡ false → (gives_text l j b && acts k i a) ≡ true → HasText sum (node k i a (node l j b nothing)) 1
second_has k l i j a b f e =
    let text : Tree = record { kind = l; note = j; below = b } in
    let other : Tree = record { kind = k; note = i; below = a } in
    record {
      items = Some other ∷ Some text ∷ [];
      text = text;
      unique = λ ts w. two_in ts other text w;
      within = Prim.omega arith;
      two_there = refl;
      there = λ d. refl;
      becomes = λ n. if_false (gives_text k i a && acts l j b) _ _ f ∙ if_true (gives_text l j b && acts k i a) _ _ e;
      ids_split = λ r n m. Prim.omega arith;
      evals_split = λ n m. Prim.omega arith;
    }

abbrev which : (p q : Bool) → Option ℕ
which p q = if p then Some 0 else if q then Some 1 else None

same_index : {i j : ℕ} → Some i ≡ Some j → i ≡ j
same_index e = Prim.cc

pub has_text : (k : Kind) (t : Forest) (i : ℕ) → text_for k t ≡ Some i → HasText k t i
has_text (binary_expression addition) (node k h a (node l j b nothing)) i e = each (gives_text k h a && acts l j b) (gives_text l j b && acts k h a) refl refl e
  where
    each : (p q : Bool) → (gives_text k h a && acts l j b) ≡ p → (gives_text l j b && acts k h a) ≡ q → which p q ≡ Some i → HasText sum (node k h a (node l j b nothing)) i
    each true q first second is = subst (HasText sum (node k h a (node l j b nothing))) (same_index is) (first_has k l h j a b first)
    each false true first second is = subst (HasText sum (node k h a (node l j b nothing))) (same_index is) (second_has k l h j a b first second)
    each false false first second is = no_index is
has_text (binary_expression addition) (node k h a (node l j b (node m n c nothing))) i e = no_index e
has_text (binary_expression addition) (node k h a (node l j b (node m n c (absent r)))) i e = no_index e
has_text (binary_expression addition) (node k h a (node l j b (node m n c (node q o d r)))) i e = no_index e
has_text k t i e = no_index e

-- ---- as code does it

module _ {k : Kind} {t : Forest} {i : ℕ} (w : HasText k t i) where
  pub is_there : (ts : List (Option Tree)) → row ts ≡ t → length ts ≡ 2 × i < length ts
  is_there ts e = let same = ap length (w.unique ts e) in (same ∙ w.two_there, Prim.omega (arith, same, w.within))

  items_are : (ts us : List (Option Tree)) → row ts ≡ t → us ≡ ts → us ≡ w.items
  items_are ts us e f = f ∙ w.unique ts e

  pub text_taken : (ts us : List (Option Tree)) → row ts ≡ t → us ≡ ts → slice_index_or us i None ≡ Some w.text
  text_taken ts us e f = ap (λ xs. slice_index_or xs i None) (items_are ts us e f) ∙ w.there None

  pub row_left : (n : ℕ) (ts us vs xs : List (Option Tree)) → row ts ≡ t → us ≡ ts → n ≡ length ts → length vs ≡ length us → vs ≡ slice_set us i (option_map emptied (slice_index_or us i None))
      → row (take n (vs ++ xs)) ≡ row (slice_set w.items i (Some (emptied w.text)))
  row_left n ts us vs xs e f all same is =
      ap row (take-append-le n vs xs (Prim.omega (arith, all, same, ap length f)) ∙ take_all n vs (Prim.omega (arith, all, same, ap length f)) ∙ is
      ∙ ap₂ (λ ys o. slice_set ys i (option_map emptied o)) (items_are ts us e f) (text_taken ts us e f))

pub text_edits : {c d e : Seen} {v y : Tree} {o : Option Tree} (x : Tree) (i : ℕ) (w : HasText x.kind x.below i) (n : Note) → y ≡ sum_of n (row (slice_set w.items i (Some (emptied w.text)))) → o ≡ Some w.text
    → v.kind ≡ x.kind → v.note ≡ x.note → v.below ≡ nothing → Leaves c (λ r. ids r (row (o ∷ []))) (evals (row (o ∷ []))) d → DropsNode d v e → Edited c x y true e
text_edits {c = c} {d = d} {e = e} {v = v} {y = y} x i w n is gone kind note empty others itself =
    edits_to c d e x y
    (subst (λ b. Leaves c (λ r. ids r (row (b ∷ []))) (evals (row (b ∷ []))) d) gone others)
    (subst (λ u. DropsNode d u e) (itself_alone v x.kind x.note kind note empty) itself)
    (λ r. w.ids_split r x.note n ∙ ap (λ u. (ids r (forest_of w.text) + ids r (alone x.kind x.note nothing)) + ids r (forest_of u)) (sym is))
    (w.evals_split x.note n ∙ ap (λ u. (evals (forest_of w.text) + evals (alone x.kind x.note nothing)) + evals (forest_of u)) (sym is))

-- ---- as the rule says it

-- where the sides don't stay in turn
otherwise : (n m : Note) (k : Kind) (t : Forest) → sides_act k t ≡ false → two_sides n m k t ≡ text_emptied n k t
otherwise n m (binary_expression o) (node k i a (node l j b nothing)) e = if_false (only_combines (binary_expression o) (node k i a (node l j b nothing)) && (acts k i a && acts l j b)) _ _ e
otherwise n m (binary_expression addition) nothing e = refl
otherwise n m (binary_expression addition) (absent rest) e = refl
otherwise n m (binary_expression addition) (node k i a nothing) e = refl
otherwise n m (binary_expression addition) (node k i a (absent rest)) e = refl
otherwise n m (binary_expression addition) (node k i a (node l j b (absent rest))) e = refl
otherwise n m (binary_expression addition) (node k i a (node l j b (node h p c rest))) e = refl
otherwise n m template_literal t e = refl
otherwise n m k t e = refl

neither_text : (p q : Bool) (y z : Tree) → which p q ≡ None → (if p then Some y else if q then Some z else None) ≡ None
neither_text true q y z e = absurd Prim.cc
neither_text false true y z e = absurd Prim.cc
neither_text false false y z e = refl

none_emptied : (n : Note) (k : Kind) (t : Forest) → text_for k t ≡ None → template_has_texts k t ≡ false → text_emptied n k t ≡ None
none_emptied n (binary_expression addition) (node k i a (node l j b nothing)) e f =
    neither_text (gives_text k i a && acts l j b) (gives_text l j b && acts k i a) (sum_of n (node empty_text i nothing (node l j b nothing))) (sum_of n (node k i a (node empty_text j nothing nothing))) e
none_emptied n template_literal (node quasis h elements (node expressions j parts nothing)) e f =
    if_false (has_texts elements && is_whole elements parts) (Some (record { kind = template_literal; note = n; below = node quasis h (without_texts elements) (node expressions j parts nothing) })) None f
none_emptied n k t e f = refl

unused_if : (b : Bool) (o : Option ℕ) (i : ℕ) → (if b then o else None) ≡ Some i → (b ≡ true) × (o ≡ Some i)
unused_if true o i e = (refl, e)
unused_if false o i e = no_index e

act_not : (b c : Bool) → b && c ≡ false → b ≡ true → c ≡ false
act_not true c e f = e
act_not false c e f = absurd (true≢false (sym f))

none_if : (b c d : Bool) (o : Option ℕ) (p : Option Tree) → (b && c) ≡ false → (if b then o else None) ≡ None → (b && d) ≡ false → (c ≡ false → o ≡ None → d ≡ false → p ≡ None) → (if b then p else None) ≡ None
none_if true c d o p e f g h = h e f g
none_if false c d o p e f g h = refl

module _ (s : Spot) (k : Kind) (t : Forest) where
  pub text_there : (i : ℕ) → text_goes s k t ≡ Some i → text_for k t ≡ Some i
  text_there i e = (unused_if s.is_unused (text_for k t) i e).1

  left : (n m : Note) (y : Tree) → sides_go s k t ≡ false → s.is_unused ≡ true → text_emptied n k t ≡ Some y → (if s.is_unused then two_sides n m k t else None) ≡ Some y
  left n m y stay unused is = ap (λ b. if b then two_sides n m k t else None) unused ∙ otherwise n m k t (act_not s.is_unused (sides_act k t) stay unused) ∙ is

  pub text_left : (n m : Note) (i : ℕ) (y : Tree) → sides_go s k t ≡ false → text_goes s k t ≡ Some i → text_emptied n k t ≡ Some y → (if s.is_unused then two_sides n m k t else None) ≡ Some y
  text_left n m i y stay goes is = left n m y stay (unused_if s.is_unused (text_for k t) i goes).0 is

  pub texts_there : texts_go s k t ≡ true → template_has_texts k t ≡ true
  texts_there e = (both_true s.is_unused (template_has_texts k t) e).1

  pub texts_left : (n m : Note) (y : Tree) → sides_go s k t ≡ false → texts_go s k t ≡ true → text_emptied n k t ≡ Some y → (if s.is_unused then two_sides n m k t else None) ≡ Some y
  texts_left n m y stay goes is = left n m y stay (both_true s.is_unused (template_has_texts k t) goes).0 is

  pub text_stays : (n m : Note) → sides_go s k t ≡ false → text_goes s k t ≡ None → texts_go s k t ≡ false → (if s.is_unused then two_sides n m k t else None) ≡ None
  text_stays n m stay none no_texts = none_if s.is_unused (sides_act k t) (template_has_texts k t) (text_for k t) (two_sides n m k t) stay none no_texts (λ still no_text textless. otherwise n m k t still ∙ none_emptied n k t no_text textless)
