-- The texts of a template become empty, and nothing leaves.
use Rattle.std.proofs.Common.{◌≡◌, ◌∙◌, ◌<◌, ◌≤◌, ◌+◌, ℕ, zero, suc, List, [], ◌∷◌, ◌++◌, Bool, true, false, ◌&&◌, ◌||◌, Option, Some, None, map, length, take, get_or, set, refl, ap, subst, add-one, arith}
use Rattle.std.specs.Option.{option_map}
use Rattle.std.proofs.lemmas.List.{take_all, take-append-le}
use Rattle.js_syntax.specs.declared.node_kind.NodeKind.{NodeKind as Kind}
use Rattle.js_syntax.specs.declared.node_kind.NodeKind.TheVariants.{TemplateLiteral as template_literal, Quasis as quasis, Expressions as expressions, TemplateElement as template_element}
use Rattle.js_syntax.specs.Node.{Forest, Tree, Note, nothing, node, absent, alone, row, forest_of}
use Rattle.js_tree.proofs.Search.{AsksEach}
use Rattle.scope_counts.specs.Counts.{ids}
use Rattle.min_context.specs.Edited.{evals, DropsNode, Edited}
use Rattle.min_context.specs.Seen.{Seen}
use Rattle.steps.specs.Allowed.TwoSides.{has_text, has_texts, is_whole, no_text, without_text, without_texts, text_emptied}
use Rattle.rules.proofs.Expressions.TwoSides.{elements_ids, elements_evals}
use Rattle.min_expressions.specs.Textless.{template_has_texts, tail_of, textless, textless_list, textless_row}
use Rattle.min_expressions.proofs.Leaving.{leaves_none, emptied as itself_alone, edits_to}
use Rattle.min_expressions.proofs.Lists.{no_list}
use Rattle.min_expressions.proofs.TwoSides.{if_true}

-- ---- an element

pub textless_kind : (k : Kind) (tail : Bool) → tail_of k ≡ Some tail → template_element no_text tail ≡ without_text k
textless_kind (template_element text last) tail e = Prim.cc
textless_kind k tail e = absurd Prim.cc

pub same_kind : (k : Kind) → tail_of k ≡ None → k ≡ without_text k
same_kind (template_element text last) e = absurd Prim.cc
same_kind k e = refl

pub stays_textless : (x : Tree) → tail_of x.kind ≡ None → x ≡ textless x
stays_textless x e = ap (λ k. record { kind = k; note = x.note; below = x.below }) (same_kind x.kind e)

or_false : (b : Bool) → b ≡ (b || false)
or_false true = refl
or_false false = refl

-- alone in a row
pub one_has : (x : Tree) → has_text x.kind ≡ has_texts (row (Some x ∷ []))
one_has x = or_false (has_text x.kind)

pub texts_each : AsksEach has_texts
texts_each None ts = refl
texts_each (Some t) ts = ap (λ (b : Bool). b || has_texts (row ts)) (or_false (has_text t.kind))

-- the list of them, as the first of a row
pub first_emptied : (xs : List (Option Tree)) (x y : Option Tree) → 0 < length xs → y ≡ option_map textless_list (get_or xs 0 x) → row (set xs 0 y) ≡ textless_row (row xs)
first_emptied [] x y l puts = absurd (Prim.omega (arith, l))
first_emptied (None ∷ xs) x y l puts = ap (λ z. row (z ∷ xs)) puts
first_emptied (Some t ∷ xs) x y l puts = ap (λ z. row (z ∷ xs)) puts

pub no_first : (xs : List (Option Tree)) → length xs ≤ 0 → row xs ≡ textless_row (row xs)
no_first [] l = refl
no_first (x ∷ xs) l = absurd (Prim.omega (arith, l))

-- ---- one after another

pub each_textless : (ts : List (Option Tree)) → row (map (option_map textless) ts) ≡ without_texts (row ts)
each_textless [] = refl
each_textless (None ∷ ts) = ap absent (each_textless ts)
each_textless (Some t ∷ ts) = ap (node (without_text t.kind) t.note t.below) (each_textless ts)

-- the list once those before i are changed and the others will be
module _ (h : Option Tree → Option Tree) where
  abbrev pub changing : List (Option Tree) → ℕ → List (Option Tree)
  changing [] i = []
  changing (x ∷ xs) zero = h x ∷ map h xs
  changing (x ∷ xs) (suc i) = x ∷ changing xs i

  pub changing_first : (xs : List (Option Tree)) → changing xs 0 ≡ map h xs
  changing_first [] = refl
  changing_first (x ∷ xs) = refl

  changing_then : (xs : List (Option Tree)) (i : ℕ) (x : Option Tree) → i < length xs → x ≡ get_or xs i x → changing (set xs i (h x)) (suc i) ≡ changing xs i
  changing_then [] i x l is = absurd (Prim.omega (arith, l))
  changing_then (y ∷ ys) zero x l is = ap (λ z. h x ∷ z) (changing_first ys) ∙ ap (λ z. h z ∷ map h ys) is
  changing_then (y ∷ ys) (suc i) x l is = ap (λ z. y ∷ z) (changing_then ys i x (Prim.omega (arith, l)) is)

  pub changing_next : (xs : List (Option Tree)) (i : ℕ) (x : Option Tree) → i < length xs → x ≡ get_or xs i x → changing (set xs i (h x)) (i + 1) ≡ changing xs i
  changing_next xs i x l is = ap (λ k. changing (set xs i (h x)) k) (add-one i) ∙ changing_then xs i x l is

  pub changed : (xs : List (Option Tree)) (i : ℕ) → length xs ≤ i → changing xs i ≡ xs
  changed [] i l = refl
  changed (x ∷ xs) zero l = absurd (Prim.omega (arith, l))
  changed (x ∷ xs) (suc i) l = ap (λ z. x ∷ z) (changed xs i (Prim.omega (arith, l)))

-- ---- a node with other children, and a row whose first is changed

pub same_tree : (y : Tree) (k : Kind) (n : Note) (t : Forest) → y.kind ≡ k → y.note ≡ n → y.below ≡ t → y ≡ record { kind = k; note = n; below = t }
same_tree y k n t a b c = ap (λ x. record { kind = x; note = y.note; below = y.below }) a ∙ ap (λ x. record { kind = k; note = x; below = y.below }) b ∙ ap (λ x. record { kind = k; note = n; below = x }) c

pub written : {A : Type 0} (n : ℕ) (ys zs : List A) → n ≡ length ys → take n (ys ++ zs) ≡ ys
written n ys zs e = take-append-le n ys zs (Prim.omega (arith, e)) ∙ take_all n ys (Prim.omega (arith, e))

-- ---- the template

pub record HasTexts (k : Kind) (t : Forest) : Type 0 where
  pub becomes : (n : Note) → text_emptied n k t ≡ Some (record { kind = template_literal; note = n; below = textless_row t })
  pub same_ids : (r : ℕ) (n m : Note) → ids r (alone k n t) ≡ ids r (alone k n nothing) + ids r (alone template_literal m (textless_row t))
  pub same_evals : (n m : Note) → evals (alone k n t) ≡ evals (alone k n nothing) + evals (alone template_literal m (textless_row t))

pub its_texts : (k : Kind) (t : Forest) → template_has_texts k t ≡ true → HasTexts k t
its_texts template_literal (node quasis h elements (node expressions j parts nothing)) e = record {
  becomes = λ n. if_true (has_texts elements && is_whole elements parts) (Some (record { kind = template_literal; note = n; below = node quasis h (without_texts elements) (node expressions j parts nothing) })) None e;
  same_ids = λ r n m. Prim.omega (arith, elements_ids r elements);
  same_evals = λ n m. Prim.omega (arith, elements_evals elements);
}
its_texts template_literal (node quasis h elements (node l j parts nothing)) e = no_list e
its_texts template_literal (node k h elements (node l j parts nothing)) e = no_list e
its_texts template_literal nothing e = no_list e
its_texts template_literal (absent rest) e = no_list e
its_texts template_literal (node k h elements nothing) e = no_list e
its_texts template_literal (node k h elements (absent rest)) e = no_list e
its_texts template_literal (node k h elements (node l j parts (absent rest))) e = no_list e
its_texts template_literal (node k h elements (node l j parts (node m o b rest))) e = no_list e
its_texts k t e = no_list e

pub texts_edits : {c e : Seen} {v y : Tree} (x : Tree) (n : Note) → HasTexts x.kind x.below → y ≡ record { kind = template_literal; note = n; below = textless_row x.below } → v.kind ≡ x.kind → v.note ≡ x.note → v.below ≡ nothing → DropsNode c v e → Edited c x y true e
texts_edits {c = c} {e = e} {v = v} {y = y} x n w is kind note empty itself =
    edits_to c c e x y (leaves_none c) (subst (λ u. DropsNode c u e) (itself_alone v x.kind x.note kind note empty) itself)
    (λ r. Prim.omega (arith, w.same_ids r x.note n, ap {A = Tree} (λ u. ids r (forest_of u)) is))
    (Prim.omega (arith, w.same_evals x.note n, ap {A = Tree} (λ u. evals (forest_of u)) is))
