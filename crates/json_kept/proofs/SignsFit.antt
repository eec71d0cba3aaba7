-- A tree that fits the table fits it with its signs applied, and is exact then.
use Rattle.std.proofs.Common.{◌≡◌, ◌⊎◌, ◌≤◌, ◌+◌, ◌<◌, inl, inr, ℕ, suc, pos, negsuc, None, Some, List, [], ◌∷◌, Bool, true, false, not, ◌&&◌, if◌then◌else◌, refl, sym, subst, ap, ◌∙◌, arith, ltb-true}
use Rattle.std.proofs.lemmas.Bool.{le-leb}
use Rattle.std.specs.Prelude.{nat_le}
use Rattle.serde_json.specs.Data.{depth}
use Rattle.js_syntax.specs.Class.{Class, root, a_prologue, arrow_body, for_init, default_export, expression, expression_or_private, callee, argument, private_key}
use Rattle.js_syntax.specs.Scalar.{Scalar, the_value}
use Rattle.js_syntax.specs.declared.value.Key.{Key}
use Rattle.js_syntax.specs.declared.value.Key.TheVariants.{Name as key_name, Text as key_text, Number as key_number, Below as key_below}
use Rattle.js_syntax.specs.declared.value.LiteralValue.{LiteralValue as Value}
use Rattle.js_syntax.specs.declared.value.LiteralValue.TheVariants as value
use Rattle.js_syntax.specs.declared.operator.UnaryOperator.TheVariants.{UnaryNegation as unary_negation}
use Rattle.js_syntax.specs.declared.node_kind.NodeKind.{NodeKind as Kind}
use Rattle.js_syntax.specs.declared.node_kind.NodeKind.TheVariants.{Literal as literal, UnaryExpression as unary_expression, ObjectExpression as object_expression, Function as function, Class as class, ExportNamedDeclaration as export_named_declaration, Properties as properties, Hole as hole, Statements as statements}
use Rattle.js_syntax.specs.declared.kind.FunctionKind.TheVariants as function_kind
use Rattle.js_syntax.specs.declared.kind.ClassKind.TheVariants as class_kind
use Rattle.js_syntax.specs.Facts.{scalars_of}
use Rattle.js_syntax.specs.Field.{Keys, keeps, checks, a_key, child, maybe, each, each_or_hole, a_body, Field, field}
use Rattle.js_syntax.specs.Hint.{has, is_private}
use Rattle.js_syntax.specs.Node.{Note, Forest, nothing, node, absent, alone, nowhere, total}
use Rattle.js_syntax.specs.Table.{Row, a_literal, a_text_literal, a_unary_expression, an_object_expression, fields_of, type_of, stands}
use Rattle.js_syntax.specs.declared.node_type.NodeType.TheVariants as type
use Rattle.js_syntax.proofs.Truth.{first_of_both, second_of_both, both}
use Rattle.js_meaning.specs.Operator.{largest}
use Rattle.js_meaning_near.specs.Signed.{signed, NodeMayBeSigned, MayBeSigned}
use Rattle.js_meaning_near.proofs.Signed.{Sign, is_number, is_other, sign_of}
use Rattle.json_shape.specs.Exact.{inexact, inexact_among, is_exact, is_exact_number}
use Rattle.json_shape.specs.Readable.{IsReadable}
use Rattle.json_shape.specs.Shape.{Values, kind_in, key_place, is_text, IsChosen, first_of, Place, one, maybe_one, beyond, key_node, key_apart, list, list_with_holes, body, item_or_hole, item_of_body, places, Plan, these, all, all_or_holes, all_of_body, first_place, behind, after_body_item, is_directive_kind, IsOf, IsAt, Stand, Fits}
use Rattle.json_shape.proofs.Choice.{is_list_kind, are_lists, lists_in}
use Rattle.json_kept.specs.Respelled.{is_negative, count_among, negative}
use Rattle.json_kept.specs.Signs.{magnitude, inexact_size, IsSignable}
use Rattle.json_kept.proofs.SignsWritten.{private_signed, data_signed}

-- ---- plans whose lists are lists

abbrev place_ok : Place → Bool
place_ok (list kind c) = is_list_kind kind
place_ok (list_with_holes kind c) = is_list_kind kind
place_ok p = true

abbrev places_ok : List Place → Bool
places_ok [] = true
places_ok (p ∷ ps) = place_ok p && places_ok ps

abbrev plan_ok : Plan → Bool
plan_ok (these ps) = places_ok ps
plan_ok plan = true

first_ok : (plan : Plan) → plan_ok plan ≡ true → place_ok (first_place plan) ≡ true
first_ok (these []) ok = refl
first_ok (these (p ∷ ps)) ok = first_of_both _ _ ok
first_ok (all c) ok = refl
first_ok (all_or_holes c) ok = refl
first_ok (all_of_body c) ok = refl

after_ok : (c : Class) (b : Bool) → plan_ok (after_body_item c b) ≡ true
after_ok c true = refl
after_ok c false = refl

behind_ok : (plan : Plan) (k : Kind) → plan_ok plan ≡ true → plan_ok (behind plan k) ≡ true
behind_ok (these []) k ok = refl
behind_ok (these (p ∷ ps)) k ok = second_of_both _ _ ok
behind_ok (all c) k ok = refl
behind_ok (all_or_holes c) k ok = refl
behind_ok (all_of_body c) k ok = after_ok c (is_directive_kind k)

key_ok : (keys : Keys) (private : Bool) (key : Key) → place_ok (key_place keys private key) ≡ true
key_ok keys private (key_name s) = refl
key_ok keys private (key_text s) = refl
key_ok keys private (key_number n) = refl
key_ok keys private key_below = refl

fields_ok : (private : Bool) (fs : List Field) (vs : Values fs) → are_lists fs ≡ true → places_ok (places private fs vs) ≡ true
fields_ok private [] vs lists = refl
fields_ok private (field name (keeps k) ∷ fs) vs lists = fields_ok private fs vs.1 lists
fields_ok private (field name (checks c) ∷ fs) vs lists = fields_ok private fs vs lists
fields_ok private (field name (a_key keys) ∷ fs) vs lists = both _ _ (key_ok keys private vs.0) (fields_ok private fs vs.1 lists)
fields_ok private (field name (child c) ∷ fs) vs lists = fields_ok private fs vs lists
fields_ok private (field name (maybe c) ∷ fs) vs lists = fields_ok private fs vs lists
fields_ok private (field name (each kind c) ∷ fs) vs lists = both _ _ (first_of_both _ _ lists) (fields_ok private fs vs (second_of_both _ _ lists))
fields_ok private (field name (each_or_hole kind c) ∷ fs) vs lists = both _ _ (first_of_both _ _ lists) (fields_ok private fs vs (second_of_both _ _ lists))
fields_ok private (field name (a_body c) ∷ fs) vs lists = fields_ok private fs vs lists

row_ok : (private : Bool) (r : Row) (vs : Values (fields_of r)) → plan_ok (these (places private (fields_of r) vs)) ≡ true
row_ok private r vs = fields_ok private (fields_of r) vs (lists_in r)

no_list : (k kind : Kind) → is_list_kind k ≡ false → is_list_kind kind ≡ true → k ≡ kind → ⊥
no_list k kind other lists same = cc (sym other ∙ ap is_list_kind same ∙ lists)

-- ---- unary minus in the place of a number

abbrev is_number_kind : Kind → Bool
is_number_kind (literal (value.Number z)) = true
is_number_kind k = false

no_text : (v : Value) → is_number_kind (literal v) ≡ true → is_text v ≡ true → ⊥
no_text (value.Number z) h text = cc text
no_text v h text = cc h

number_row : (r : Row) (vs : Values (fields_of r)) → is_number_kind (kind_in r vs) ≡ true → IsChosen r vs → r ≡ a_literal
number_row a_literal vs h chosen = refl
number_row a_text_literal vs h chosen = absurd (no_text vs.0 h chosen)
number_row r vs h chosen = absurd cc

minus_may : (c : Class) → stands c type.Literal ≡ Some a_literal → stands c type.UnaryExpression ≡ Some a_unary_expression
minus_may arrow_body h = refl
minus_may for_init h = refl
minus_may default_export h = refl
minus_may expression h = refl
minus_may expression_or_private h = refl
minus_may callee h = refl
minus_may argument h = refl
minus_may c h = absurd cc

abbrev minus : Kind
minus = unary_expression unary_negation

abbrev size : ℕ → Forest
size i = alone (literal (value.Number (pos (suc i)))) nowhere nothing

size_fits : (i : ℕ) → Fits expression (size i)
size_fits i = ((a_literal, (value.Number (pos (suc i)), tt), refl, tt, refl, tt), tt)

minus_of : (i : ℕ) (a : Forest) (c : Class) → IsOf (literal (value.Number (negsuc i))) a (λ p. Stand p a) c → IsOf minus (size i) (λ p. Stand p (size i)) c
minus_of i a c of =
    let row = number_row of.0 of.1 (ap is_number_kind (sym of.4)) of.3 in
    (a_unary_expression, (unary_negation, tt), minus_may c (subst (λ (r : Row). stands c (type_of r) ≡ Some (first_of r)) row of.2), tt, refl, size_fits i)

no_hole : (i : ℕ) → literal (value.Number (negsuc i)) ≡ hole → ⊥
no_hole i same = cc

minus_at : (i : ℕ) (a : Forest) (p : Place) → place_ok p ≡ true → IsAt (literal (value.Number (negsuc i))) a (λ p. Stand p a) p → IsAt minus (size i) (λ p. Stand p (size i)) p
minus_at i a (one c) ok of = minus_of i a c of
minus_at i a (maybe_one c) ok of = minus_of i a c of
minus_at i a beyond ok at = absurd at
minus_at i a (key_node keys true) ok at = (at.0, minus_of i a private_key at.1)
minus_at i a (key_node keys false) ok of = minus_of i a expression of
minus_at i a (key_apart may) ok at = absurd at
minus_at i a (list kind c) ok at = absurd (no_list _ kind refl ok at.0)
minus_at i a (list_with_holes kind c) ok at = absurd (no_list _ kind refl ok at.0)
minus_at i a (body c) ok at = absurd (no_list _ statements refl refl at.0)
minus_at i a (item_or_hole c) ok (inl at) = absurd (no_hole i at.0)
minus_at i a (item_or_hole c) ok (inr of) = inr (minus_of i a c of)
minus_at i a (item_of_body c) ok (inl of) = inl (minus_of i a a_prologue of)
minus_at i a (item_of_body c) ok (inr at) = inr (refl, minus_of i a c at.1)

-- neither of the two is a directive
behind_either : (i : ℕ) (plan : Plan) → behind plan (literal (value.Number (negsuc i))) ≡ behind plan minus
behind_either i (these []) = refl
behind_either i (these (p ∷ ps)) = refl
behind_either i (all c) = refl
behind_either i (all_or_holes c) = refl
behind_either i (all_of_body c) = refl

-- ---- all other nodes stay

module _ (k : Kind) (below other : Forest) (private : has is_private below ≡ has is_private other) (moves : (plan : Plan) → plan_ok plan ≡ true → Stand plan below → Stand plan other) where
  of_moves : (c : Class) → IsOf k below (λ p. Stand p below) c → IsOf k other (λ p. Stand p other) c
  of_moves c of = (
    of.0,
    of.1,
    of.2,
    of.3,
    of.4,
    subst (λ (b : Bool). Stand (these (places b (fields_of of.0) of.1)) other) private (moves (these (places (has is_private below) (fields_of of.0) of.1)) (row_ok (has is_private below) of.0 of.1) of.5),
  )

  at_moves : (p : Place) → IsAt k below (λ p. Stand p below) p → IsAt k other (λ p. Stand p other) p
  at_moves (one c) of = of_moves c of
  at_moves (maybe_one c) of = of_moves c of
  at_moves beyond at = absurd at
  at_moves (key_node keys true) at = (at.0, of_moves private_key at.1)
  at_moves (key_node keys false) of = of_moves expression of
  at_moves (key_apart may) at = absurd at
  at_moves (list kind c) at = (at.0, moves (all c) refl at.1)
  at_moves (list_with_holes kind c) at = (at.0, moves (all_or_holes c) refl at.1)
  at_moves (body c) at = (at.0, moves (all_of_body c) refl at.1)
  at_moves (item_or_hole c) (inl at) = inl (at.0, moves (these []) refl at.1)
  at_moves (item_or_hole c) (inr of) = inr (of_moves c of)
  at_moves (item_of_body c) (inl of) = inl (of_moves a_prologue of)
  at_moves (item_of_body c) (inr at) = inr (at.0, of_moves c at.1)

one_stands : (k : Kind) (a : Forest) → Sign k a → (n : Note) (rest : Forest) (plan : Plan) → plan_ok plan ≡ true → Stand plan (node k n a rest)
    → ((p : Plan) → plan_ok p ≡ true → Stand p a → Stand p (signed a)) → Stand (behind plan k) (signed rest) → Stand plan (signed (node k n a rest))
one_stands _ _ (is_number {i = i}) n rest plan ok h moves later = (minus_at i nothing (first_place plan) (first_ok plan ok) h.0, subst (λ (p : Plan). Stand p (signed rest)) (behind_either i plan) later)
one_stands k a (is_other is) n rest plan ok h moves later = subst (Stand plan) (sym (is n rest)) (at_moves k a (signed a) (sym (private_signed a)) moves (first_place plan) h.0, later)

pub signed_stands : (t : Forest) (plan : Plan) → plan_ok plan ≡ true → Stand plan t → Stand plan (signed t)
signed_stands nothing plan ok h = h
signed_stands (absent rest) plan ok h = (h.0, signed_stands rest (behind plan hole) (behind_ok plan hole ok) h.1)
signed_stands (node k n a rest) plan ok h =
    one_stands k a (sign_of k a) n rest plan ok h (signed_stands a) (signed_stands rest (behind plan k) (behind_ok plan k ok) h.1)

-- ---- what stands below a node

abbrev Below : Forest → Type 0
Below a = (plan : Plan) × (plan_ok plan ≡ true) × Stand plan a

of_below : (k : Kind) (a : Forest) (c : Class) → IsOf k a (λ p. Stand p a) c → Below a
of_below k a c of = (these (places (has is_private a) (fields_of of.0) of.1), row_ok (has is_private a) of.0 of.1, of.5)

at_below : (k : Kind) (a : Forest) (p : Place) → IsAt k a (λ p. Stand p a) p → Below a
at_below k a (one c) of = of_below k a c of
at_below k a (maybe_one c) of = of_below k a c of
at_below k a beyond at = absurd at
at_below k a (key_node keys true) at = of_below k a private_key at.1
at_below k a (key_node keys false) of = of_below k a expression of
at_below k a (key_apart may) at = absurd at
at_below k a (list kind c) at = (all c, refl, at.1)
at_below k a (list_with_holes kind c) at = (all_or_holes c, refl, at.1)
at_below k a (body c) at = (all_of_body c, refl, at.1)
at_below k a (item_or_hole c) (inl at) = (these [], refl, at.1)
at_below k a (item_or_hole c) (inr of) = of_below k a c of
at_below k a (item_of_body c) (inl of) = of_below k a a_prologue of
at_below k a (item_of_body c) (inr at) = of_below k a c at.1

-- a node that is no list and no hole is of a row
abbrev OfRow : Kind → Forest → Type 0
OfRow k a = (c : Class) × IsOf k a (λ p. Stand p a) c

at_row : (k : Kind) (a : Forest) (p : Place) → is_list_kind k ≡ false → (k ≡ hole → ⊥) → place_ok p ≡ true → IsAt k a (λ p. Stand p a) p → OfRow k a
at_row k a (one c) other whole ok of = (c, of)
at_row k a (maybe_one c) other whole ok of = (c, of)
at_row k a beyond other whole ok at = absurd at
at_row k a (key_node keys true) other whole ok at = (private_key, at.1)
at_row k a (key_node keys false) other whole ok of = (expression, of)
at_row k a (key_apart may) other whole ok at = absurd at
at_row k a (list kind c) other whole ok at = absurd (no_list k kind other ok at.0)
at_row k a (list_with_holes kind c) other whole ok at = absurd (no_list k kind other ok at.0)
at_row k a (body c) other whole ok at = absurd (no_list k statements other refl at.0)
at_row k a (item_or_hole c) other whole ok (inl at) = absurd (whole at.0)
at_row k a (item_or_hole c) other whole ok (inr of) = (c, of)
at_row k a (item_of_body c) other whole ok (inl of) = (a_prologue, of)
at_row k a (item_of_body c) other whole ok (inr at) = (c, at.1)

-- ---- below a number stands nothing, and below an object literal its list of properties

ends : (a : Forest) → Stand (these []) a → a ≡ nothing
ends nothing h = refl
ends (absent rest) h = absurd h.0
ends (node k n b rest) h = absurd h.0

number_below : (r : Row) (vs : Values (fields_of r)) (private : Bool) (a : Forest) → is_number_kind (kind_in r vs) ≡ true → Stand (these (places private (fields_of r) vs)) a → a ≡ nothing
number_below a_literal vs private a h st = ends a st
number_below a_text_literal vs private a h st = ends a st
number_below r vs private a h st = absurd cc

number_alone : (i : ℕ) (a : Forest) (p : Place) → place_ok p ≡ true → IsAt (literal (value.Number (negsuc i))) a (λ p. Stand p a) p → a ≡ nothing
number_alone i a p ok at =
    let of = at_row (literal (value.Number (negsuc i))) a p refl (no_hole i) ok at in
    number_below of.1.0 of.1.1 (has is_private a) a (ap is_number_kind (sym of.1.4)) of.1.5

abbrev is_object_kind : Kind → Bool
is_object_kind object_expression = true
is_object_kind k = false

first_listed : (a : Forest) (c : Class) → Stand (these (list properties c ∷ [])) a → NodeMayBeSigned object_expression a
first_listed nothing c st = tt
first_listed (absent rest) c st = tt
first_listed (node (literal v) n b rest) c st = absurd (no_list (literal v) properties refl refl st.0.0)
first_listed (node k n b rest) c st = tt

object_below : (r : Row) (vs : Values (fields_of r)) (private : Bool) (a : Forest) → is_object_kind (kind_in r vs) ≡ true → Stand (these (places private (fields_of r) vs)) a → NodeMayBeSigned object_expression a
object_below an_object_expression vs private a h st = first_listed a _ st
object_below r vs private a h st = absurd cc

no_object_hole : object_expression ≡ hole → ⊥
no_object_hole same = cc

object_listed : (a : Forest) (p : Place) → place_ok p ≡ true → IsAt object_expression a (λ p. Stand p a) p → NodeMayBeSigned object_expression a
object_listed a p ok at =
    let of = at_row object_expression a p refl no_object_hole ok at in
    object_below of.1.0 of.1.1 (has is_private a) a (ap is_object_kind (sym of.1.4)) of.1.5

-- ---- exact numbers

counted_not : (b : Bool) → (if not b then 1 else 0) + 0 ≡ 0 → b ≡ true
counted_not true h = refl
counted_not false h = absurd cc

covered : (i : ℕ) → inexact_size (literal (value.Number (negsuc i))) ≡ 0 → nat_le (suc i) largest ≡ true
covered i h =
    let less : suc i < 9007199254740992 = ltb-true (suc i) 9007199254740992 (counted_not (is_exact_number (suc i)) h) in
    le-leb (suc i) 9007199254740991 (omega arith)

node_may : (k : Kind) (a : Forest) (p : Place) → place_ok p ≡ true → IsAt k a (λ p. Stand p a) p → inexact_size k ≡ 0 → NodeMayBeSigned k a
node_may (literal (value.Number (negsuc i))) a p ok at exact = covered i exact
node_may object_expression a p ok at exact = object_listed a p ok at
node_may k a p ok at exact = tt

may_be_signed : (t : Forest) (plan : Plan) → plan_ok plan ≡ true → Stand plan t → total inexact_size t ≡ 0 → MayBeSigned t
may_be_signed nothing plan ok h exact = tt
may_be_signed (absent rest) plan ok h exact = may_be_signed rest (behind plan hole) (behind_ok plan hole ok) h.1 exact
may_be_signed (node k n a rest) plan ok h exact =
    let below = at_below k a (first_place plan) h.0 in
    (node_may k a (first_place plan) (first_ok plan ok) h.0 (omega (arith, exact)), may_be_signed a below.0 below.1 below.2 (omega (arith, exact)), may_be_signed rest (behind plan k) (behind_ok plan k ok) h.1 (omega (arith, exact)))

-- ---- exact values

one_exact : (s : Scalar) → (if is_exact s then 0 else 1) ≤ (if not (is_exact (magnitude s)) then 1 else 0) + (if is_negative s then 1 else 0)
one_exact (the_value (value.Number (negsuc i))) = omega arith
one_exact (the_value (value.Number (pos i))) = either (is_exact_number i)
  where
    either : (b : Bool) → (if b then 0 else 1) ≤ (if not b then 1 else 0) + 0
    either true = omega arith
    either false = omega arith
one_exact s = either (is_exact s)
  where
    either : (b : Bool) → (if b then 0 else 1) ≤ (if not b then 1 else 0) + 0
    either true = omega arith
    either false = omega arith

scalars_exact : (ss : List Scalar) → inexact_among ss ≤ count_among (λ s. not (is_exact (magnitude s))) ss + count_among is_negative ss
scalars_exact [] = omega arith
scalars_exact (s ∷ ss) = omega (arith, one_exact s, scalars_exact ss)

-- a kind with a negative number is such a literal
abbrev IsNegative : Kind → Type 0
IsNegative k = (i : ℕ) × (k ≡ literal (value.Number (negsuc i)))

negative_kind : (k : Kind) → (negative k ≡ 0) ⊎ IsNegative k
negative_kind (literal (value.Number (negsuc i))) = inr (i, refl)
negative_kind (literal (value.Number (pos i))) = inl refl
negative_kind (literal v) = inl refl
negative_kind (function function_kind.Declaration pure) = inl refl
negative_kind (function how pure) = inl refl
negative_kind (class class_kind.Declaration) = inl refl
negative_kind (class how) = inl refl
negative_kind (export_named_declaration None) = inl refl
negative_kind (export_named_declaration (Some source)) = inl refl
negative_kind k = inl refl

abbrev first_number : Forest → Bool
first_number (node k n a rest) = is_number_kind k
first_number t = false

-- nothing else stands for a number that stands alone
no_other : (k : Kind) (a : Forest) → ((n : Note) (rest : Forest) → signed (node k n a rest) ≡ node k n (signed a) (signed rest)) → (IsNegative k → a ≡ nothing) → (negative k ≡ 0) ⊎ IsNegative k → negative k ≡ 0
no_other k a is alone_so (inl none) = none
no_other k a is alone_so (inr so) =
    let i = so.0 in
    let same = subst (λ (b : Forest). signed (node (literal (value.Number (negsuc i))) nowhere b nothing) ≡ node (literal (value.Number (negsuc i))) nowhere (signed b) nothing) (alone_so so)
    (subst (λ (j : Kind). signed (node j nowhere a nothing) ≡ node j nowhere (signed a) nothing) so.1 (is nowhere nothing)) in
    absurd (cc (ap first_number same))

exact_one : (k : Kind) (a : Forest) → Sign k a → (n : Note) (rest : Forest) → (IsNegative k → a ≡ nothing) → total inexact (signed a) ≤ total inexact_size a → total inexact (signed rest) ≤ total inexact_size rest
    → total inexact (signed (node k n a rest)) ≤ total inexact_size (node k n a rest)
exact_one _ _ (is_number {i = i}) n rest alone_so below later = omega (arith, scalars_exact (the_value (value.Number (pos (suc i))) ∷ []), later)
exact_one k a (is_other is) n rest alone_so below later =
    omega (arith, ap (total inexact) (is n rest), scalars_exact (scalars_of k), no_other k a is alone_so (negative_kind k), below, later)

negative_alone : (k : Kind) (a : Forest) (p : Place) → place_ok p ≡ true → IsAt k a (λ p. Stand p a) p → IsNegative k → a ≡ nothing
negative_alone k a p ok at so = number_alone so.0 a p ok (subst (λ (j : Kind). IsAt j a (λ p. Stand p a) p) so.1 at)

pub signed_exact : (t : Forest) (plan : Plan) → plan_ok plan ≡ true → Stand plan t → total inexact (signed t) ≤ total inexact_size t
signed_exact nothing plan ok h = omega arith
signed_exact (absent rest) plan ok h = signed_exact rest (behind plan hole) (behind_ok plan hole ok) h.1
signed_exact (node k n a rest) plan ok h =
    let below = at_below k a (first_place plan) h.0 in
    exact_one k a (sign_of k a) n rest (negative_alone k a (first_place plan) (first_ok plan ok) h.0) (signed_exact a below.0 below.1 below.2) (signed_exact rest (behind plan k) (behind_ok plan k ok) h.1)

-- ---- whole trees

pub signed_readable : (t : Forest) → IsSignable t → IsReadable (signed t)
signed_readable t s = record {
  shape = signed_stands t (these (one root ∷ [])) refl s.shape;
  values = omega (arith, signed_exact t (these (one root ∷ [])) refl s.shape, s.values);
  nesting = omega (arith, ap depth (data_signed t), s.nesting);
}

pub exact_may : (t : Forest) → Fits root t → total inexact_size t ≡ 0 → MayBeSigned t
exact_may t = may_be_signed t (these (one root ∷ [])) refl
