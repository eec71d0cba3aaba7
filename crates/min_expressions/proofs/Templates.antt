-- What is left of a template of which nobody takes the value: the texts leave, and the substitutions that don't act.
use Rattle.std.proofs.Common.{◌≡◌, ◌∙◌, List, [], ◌∷◌, Bool, true, false, ◌&&◌, Option, Some, None, is_some, if◌then◌else◌, ◌||◌, refl, sym, ap, ap₂, subst, true≢false, arith}
use Rattle.std.specs.Prelude.{slice_index_or}
use Rattle.std.specs.List.{remove}
use Rattle.js_syntax.specs.declared.node_kind.NodeKind.{NodeKind as Kind}
use Rattle.js_syntax.specs.declared.node_kind.NodeKind.TheVariants.{ArrayExpression as array_expression, SequenceExpression as sequence_expression, TemplateLiteral as template_literal, Quasis as quasis, Expressions as expressions}
use Rattle.js_syntax.specs.Node.{Forest, Tree, Note, nothing, node, absent, alone, row}
use Rattle.js_effects.specs.Silence.{only_combines}
use Rattle.scope_counts.specs.Counts.{ids}
use Rattle.min_context.specs.Edited.{evals, Leaves, DropsNode, Edited}
use Rattle.min_context.specs.Seen.{Seen}
use Rattle.steps.specs.Allowed.UnusedList.{acting, as_one, list_becomes}
use Rattle.rules.specs.Expressions.Uses.{Spot}
use Rattle.rules.specs.Expressions.Lists.{new_note, list_note, unused_list_becomes}
use Rattle.min_expressions.specs.Lists.{only, are_one, array_goes, sequence_goes, parts_go, list_goes}
use Rattle.min_expressions.specs.Templates.{row_goes, template_goes, unused_template_goes, first_span}
use Rattle.min_expressions.proofs.Leaving.{ids_add, evals_add, leaves_more, emptied, edits_to}
use Rattle.min_expressions.proofs.Lists.{IdleLeaves, splits, counts, one_same, array_same, sequence_same, if_unused, if_none, used, no_list, no_tree}
use Rattle.min_expressions.proofs.Sided.{two_in}
use Rattle.min_expressions.proofs.TwoSides.{both_true, never}

-- ---- a template, its texts, and its substitutions

pub record IsTemplate (k : Kind) (t : Forest) : Type 0 where
  pub text_note : Note
  pub list_note_is : Note
  pub texts : Forest
  pub parts : Forest
  pub kind : k ≡ template_literal
  pub below : t ≡ node quasis text_note texts (node expressions list_note_is parts nothing)
  pub combines : only_combines k t ≡ true
  pub is_one : are_one (acting parts) ≡ true

abbrev texts_tree : Note → Forest → Tree
texts_tree h texts = record { kind = quasis; note = h; below = texts }

abbrev list_tree : Note → Forest → Tree
list_tree i parts = record { kind = expressions; note = i; below = parts }

with_combines : (t : Forest) → only_combines template_literal t ≡ true → row_goes t ≡ true → IsTemplate template_literal t
with_combines (node quasis h texts (node expressions i parts nothing)) c e = record { text_note = h; list_note_is = i; texts = texts; parts = parts; kind = refl; below = refl; combines = c; is_one = e }
with_combines (node quasis h texts (node l i parts nothing)) c e = no_list e
with_combines (node k h texts (node l i parts nothing)) c e = no_list e
with_combines nothing c e = no_list e
with_combines (absent rest) c e = no_list e
with_combines (node k h texts nothing) c e = no_list e
with_combines (node k h texts (absent rest)) c e = no_list e
with_combines (node k h texts (node l i parts (absent rest))) c e = no_list e
with_combines (node k h texts (node l i parts (node j o b rest))) c e = no_list e

pub is_template : (k : Kind) (t : Forest) → template_goes k t ≡ true → IsTemplate k t
is_template template_literal t e = let both = both_true (only_combines template_literal t) (row_goes t) e in with_combines t both.0 both.1
is_template k t e = no_list e

pub becomes_so : (n m : Note) (k : Kind) (t : Forest) (w : IsTemplate k t) → list_becomes n m k t ≡ as_one n m (acting w.parts)
becomes_so n m k t w =
    let it = node quasis w.text_note w.texts (node expressions w.list_note_is w.parts nothing) in
    ap (λ l. list_becomes n m l t) w.kind ∙ ap (list_becomes n m template_literal) w.below
    ∙ ap (λ (b : Bool). if b then as_one n m (acting w.parts) else None) (ap (only_combines template_literal) (sym w.below) ∙ ap (λ l. only_combines l t) (sym w.kind) ∙ w.combines)

-- ---- the row that it has

module _ {k : Kind} {t : Forest} (w : IsTemplate k t) where
  pub its_items : (ts : List (Option Tree)) → row ts ≡ t → ts ≡ Some (texts_tree w.text_note w.texts) ∷ Some (list_tree w.list_note_is w.parts) ∷ []
  its_items ts e = two_in ts (texts_tree w.text_note w.texts) (list_tree w.list_note_is w.parts) (e ∙ w.below)

  pub its_span : (d : Note) → first_span d.span t ≡ w.text_note.span
  its_span d = ap (first_span d.span) w.below

  pub its_note : list_note t ≡ w.text_note
  its_note = ap list_note w.below

  pub list_alone : (ts us : List (Option Tree)) → row ts ≡ t → us ≡ remove ts 0 → row us ≡ node expressions w.list_note_is w.parts nothing
  list_alone ts us e left = ap row left ∙ ap (λ vs. row (remove vs 0)) (its_items ts e)

  pub texts_gone : {c d : Seen} (ts : List (Option Tree)) (o : Option Tree) → row ts ≡ t → o ≡ slice_index_or ts 0 o → Leaves c (λ r. ids r (row (o ∷ []))) (evals (row (o ∷ []))) d
      → Leaves c (λ r. ids r (alone quasis w.text_note w.texts)) (evals (alone quasis w.text_note w.texts)) d
  texts_gone {c = c} {d = d} ts o e taken left = subst (λ p. Leaves c (λ r. ids r (row (p ∷ []))) (evals (row (p ∷ []))) d) (taken ∙ ap (λ vs. slice_index_or vs 0 o) (its_items ts e)) left

-- what it leaves
pub template_edits : {c d e f : Seen} {v y : Tree} (x : Tree) (w : IsTemplate x.kind x.below) (n m : Note) → as_one n m (acting w.parts) ≡ Some y → v.kind ≡ x.kind → v.note ≡ x.note → v.below ≡ nothing
    → Leaves c (λ r. ids r (alone quasis w.text_note w.texts)) (evals (alone quasis w.text_note w.texts)) d → IdleLeaves d w.parts e → DropsNode e v f → Edited c x y true f
template_edits {c = c} {d = d} {e = e} {f = f} {v = v} {y = y} x w n m left kind note empty texts others itself =
    let s = counts n m (acting w.parts) y left in
    edits_to c e f x y (leaves_more texts others (λ r. refl) refl) (subst (λ u. DropsNode e u f) (emptied v x.kind x.note kind note empty) itself)
    (λ r. ap (λ l. ids r (alone l x.note x.below)) w.kind ∙ ap (λ b. ids r (alone template_literal x.note b)) w.below
    ∙ Prim.omega (arith, splits (ids r) (ids_add r) w.parts, s.same_ids r, ap (λ l. ids r (alone l x.note nothing)) w.kind))
    (ap (λ l. evals (alone l x.note x.below)) w.kind ∙ ap (λ b. evals (alone template_literal x.note b)) w.below
    ∙ Prim.omega (arith, splits evals evals_add w.parts, s.same_evals, ap (λ l. evals (alone l x.note nothing)) w.kind))

-- ---- as the rule says it

template_same : (n m : Note) (t : Forest) → is_some (list_becomes n m template_literal t) ≡ only_combines template_literal t && row_goes t
template_same n m (node quasis h texts (node expressions i parts nothing)) = when_same (only_combines template_literal (node quasis h texts (node expressions i parts nothing)))
  where
    when_same : (b : Bool) → is_some (if b then as_one n m (acting parts) else None) ≡ b && are_one (acting parts)
    when_same true = one_same n m (acting parts)
    when_same false = refl
template_same n m (node quasis h texts (node l i parts nothing)) = sym (never (only_combines template_literal (node quasis h texts (node l i parts nothing))))
template_same n m (node k h texts (node l i parts nothing)) = sym (never (only_combines template_literal (node k h texts (node l i parts nothing))))
template_same n m nothing = sym (never (only_combines template_literal nothing))
template_same n m (absent rest) = sym (never (only_combines template_literal (absent rest)))
template_same n m (node quasis h texts nothing) = sym (never (only_combines template_literal (node quasis h texts nothing)))
template_same n m (node k h texts nothing) = sym (never (only_combines template_literal (node k h texts nothing)))
template_same n m (node quasis h texts (absent rest)) = sym (never (only_combines template_literal (node quasis h texts (absent rest))))
template_same n m (node k h texts (absent rest)) = sym (never (only_combines template_literal (node k h texts (absent rest))))
template_same n m (node quasis h texts (node expressions i parts (absent rest))) = sym (never (only_combines template_literal (node quasis h texts (node expressions i parts (absent rest)))))
template_same n m (node quasis h texts (node l i parts (absent rest))) = sym (never (only_combines template_literal (node quasis h texts (node l i parts (absent rest)))))
template_same n m (node k h texts (node l i parts (absent rest))) = sym (never (only_combines template_literal (node k h texts (node l i parts (absent rest)))))
template_same n m (node quasis h texts (node expressions i parts (node j o b rest))) = sym (never (only_combines template_literal (node quasis h texts (node expressions i parts (node j o b rest)))))
template_same n m (node quasis h texts (node l i parts (node j o b rest))) = sym (never (only_combines template_literal (node quasis h texts (node l i parts (node j o b rest)))))
template_same n m (node k h texts (node l i parts (node j o b rest))) = sym (never (only_combines template_literal (node k h texts (node l i parts (node j o b rest)))))

or_never : (b c : Bool) → c ≡ c || (b && false)
or_never true true = refl
or_never true false = refl
or_never false true = refl
or_never false false = refl

-- of arrays, sequences and templates
pub goes_same : (s : Spot) (n : Note) (k : Kind) (t : Forest) → is_some (unused_list_becomes s n k t) ≡ list_goes s k t || unused_template_goes s k t
goes_same s n array_expression t = if_unused s.is_unused _ _ (array_same (new_note n) (new_note (list_note t)) t) ∙ or_never s.is_unused (s.is_unused && array_goes (only t))
goes_same s n sequence_expression t = if_unused s.is_unused _ _ (sequence_same (new_note n) (new_note (list_note t)) t) ∙ or_never s.is_unused (s.is_unused && sequence_goes (only t))
goes_same s n template_literal t = if_unused s.is_unused _ _ (template_same (new_note n) (new_note (list_note t)) t)
goes_same s n k t = if_none s.is_unused ∙ or_never s.is_unused false

first_so : (a b : Bool) → a ≡ true → (a || b) ≡ true
first_so true b e = refl
first_so false b e = absurd (true≢false (sym e))

second_so : (a b : Bool) → b ≡ true → (a || b) ≡ true
second_so true b e = refl
second_so false b e = e

pub goes_there : (s : Spot) (k : Kind) (t : Forest) → list_goes s k t ≡ true → parts_go k t ≡ true
goes_there s array_expression t e = (both_true s.is_unused (array_goes (only t)) e).1
goes_there s sequence_expression t e = (both_true s.is_unused (sequence_goes (only t)) e).1
goes_there s k t e = no_list e

module _ (s : Spot) (n : Note) (k : Kind) (t : Forest) where
  pub template_there : unused_template_goes s k t ≡ true → template_goes k t ≡ true
  template_there e = (both_true s.is_unused (template_goes k t) e).1

  answers_so : (y : Tree) → (list_goes s k t || unused_template_goes s k t) ≡ true → list_becomes (new_note n) (new_note (list_note t)) k t ≡ Some y → unused_list_becomes s n k t ≡ Some y
  answers_so y e f = ap (λ b. if b then list_becomes (new_note n) (new_note (list_note t)) k t else None) (used s.is_unused (list_becomes (new_note n) (new_note (list_note t)) k t) (goes_same s n k t ∙ e)).0 ∙ f

  pub list_left : (y : Tree) → list_goes s k t ≡ true → list_becomes (new_note n) (new_note (list_note t)) k t ≡ Some y → unused_list_becomes s n k t ≡ Some y
  list_left y e f = answers_so y (first_so (list_goes s k t) (unused_template_goes s k t) e) f

  pub template_left : (y : Tree) → unused_template_goes s k t ≡ true → list_becomes (new_note n) (new_note (list_note t)) k t ≡ Some y → unused_list_becomes s n k t ≡ Some y
  template_left y e f = answers_so y (second_so (list_goes s k t) (unused_template_goes s k t) e) f

  pub neither_goes : list_goes s k t ≡ false → unused_template_goes s k t ≡ false → unused_list_becomes s n k t ≡ None
  neither_goes e f = no_tree (unused_list_becomes s n k t) (goes_same s n k t ∙ ap₂ (λ a b. a || b) e f)
