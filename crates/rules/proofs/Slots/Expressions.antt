-- In a tree that fits the table of node types each expression has the slot of expressions, but for the kinds that a chain, a directive
-- or a method may hold.
use Rattle.std.proofs.Common.{◌≡◌, ◌∙◌, ℕ, [], ◌∷◌, Bool, true, false, not, ◌&&◌, if◌then◌else◌, Some, None, refl, sym, ap, true≢false}
use Rattle.js_syntax.specs.Class.{Class, root, chain_part, directive_text, method_value}
use Rattle.js_syntax.specs.declared.kind.PropertyKind.{PropertyKind}
use Rattle.js_syntax.specs.declared.kind.PropertyKind.TheVariants as property_kind
use Rattle.js_syntax.specs.declared.node_kind.NodeKind.{NodeKind as Kind}
use Rattle.js_syntax.specs.Node.{Forest}
use Rattle.js_syntax.specs.Table.{Row, a_call_expression, a_member_expression, a_text_literal, a_literal, a_reg_exp, a_function_expression, a_property, a_method_property, fields_of, type_of, stands}
use Rattle.json_shape.specs.Shape.{Values, kind_in, IsChosen, is_method, first_of, Place as Planned, one, maybe_one, places, Plan, IsOf, IsAt, Fits}
use Rattle.json_shape.proofs.Choice.{is_list_kind}
use Rattle.min_context.specs.Above.{holds_method, parent_of}
use Rattle.min_context.specs.Place.{told_of, top}
use Rattle.min_context.specs.declared.ancestor.Ancestor.{Ancestor}
use Rattle.min_context.specs.declared.ancestor.Ancestor.TheVariants.{Field as field}
use Rattle.min_context.specs.declared.ancestor.Parent.{Parent}
use Rattle.min_context.specs.declared.ancestor.Parent.TheVariants as parent
use Rattle.min_traverse.specs.Slot.{is_expression_place, is_expression, middle_slot}
use Rattle.min_traverse.specs.declared.slot.Middle.TheVariants as middle
use Rattle.rules.specs.DeadCode.Quiet.{EachNode}
use Rattle.rules.specs.Slots.Had.{may_be_no_expression, is_always_expression}
use Rattle.rules.proofs.Slots.Missed.{none_missed, plain_row, places_seen, fits_seen, IsSeen, each_seen}

abbrev pub is_missed : Ancestor → Bool
is_missed a = not (is_expression_place a)

expression_slot : (place is_one may : Bool) → not place ≡ false → (is_one && not may) ≡ true → (if place && is_one then middle.Expression else middle.None) ≡ middle.Expression
expression_slot true true may e h = refl
expression_slot true false may e h = absurd (true≢false (sym h))
expression_slot false is_one may e h = absurd (true≢false e)

pub slot_of_expression : (a : Ancestor) (k : Kind) → is_missed a ≡ false → is_always_expression k ≡ true → middle_slot a k ≡ middle.Expression
slot_of_expression a k e h = expression_slot (is_expression_place a) (is_expression k) (may_be_no_expression k) e h

told_same : (p : Parent) (at : ℕ) (previous more : Bool) → is_missed (field (told_of p at previous more) at) ≡ is_missed (field p at)
told_same (parent.Class derived) at previous more = refl
told_same (parent.Expressions followed) at previous more = refl
told_same p at previous more = refl

-- ---- where the table lets them stand: anywhere else

abbrev may_be_any : Class → Bool
may_be_any chain_part = false
may_be_any directive_text = false
may_be_any method_value = false
may_be_any c = true

abbrev may_hold : Planned → Bool
may_hold (one c) = may_be_any c
may_hold (maybe_one c) = may_be_any c
may_hold p = true

none_row : {P : Type 0} {r : Row} → None ≡ Some r → P
none_row e = absurd Prim.cc

other_row : Some a_text_literal ≡ Some a_literal → ⊥
other_row e = Prim.cc

no_link : (r : Row) (vs : Values (fields_of r)) → stands chain_part (type_of r) ≡ Some (first_of r) → is_always_expression (kind_in r vs) ≡ true → ⊥
no_link a_call_expression vs e h = true≢false (sym h)
no_link a_member_expression vs e h = true≢false (sym h)
no_link r vs e h = none_row e

no_text : (r : Row) (vs : Values (fields_of r)) → stands directive_text (type_of r) ≡ Some (first_of r) → is_always_expression (kind_in r vs) ≡ true → ⊥
no_text a_text_literal vs e h = true≢false (sym h)
no_text a_literal vs e h = true≢false (sym h)
no_text a_reg_exp vs e h = other_row e
no_text r vs e h = none_row e

no_method : (r : Row) (vs : Values (fields_of r)) → stands method_value (type_of r) ≡ Some (first_of r) → is_always_expression (kind_in r vs) ≡ true → ⊥
no_method a_function_expression vs e h = true≢false (sym h)
no_method r vs e h = none_row e

may_row : (c : Class) (r : Row) (vs : Values (fields_of r)) → stands c (type_of r) ≡ Some (first_of r) → is_always_expression (kind_in r vs) ≡ true → may_be_any c ≡ true
may_row chain_part r vs e h = absurd (no_link r vs e h)
may_row directive_text r vs e h = absurd (no_text r vs e h)
may_row method_value r vs e h = absurd (no_method r vs e h)
may_row c r vs e h = refl

module _ (k : Kind) (a : Forest) (S : Plan → Type 0) where
  may_of : (c : Class) → IsOf k a S c → is_always_expression k ≡ true → may_be_any c ≡ true
  may_of c of h = may_row c of.0 of.1 of.2 (ap is_always_expression (sym of.4) ∙ h)

  may_there : (p : Planned) → IsAt k a S p → is_always_expression k ≡ true → may_hold p ≡ true
  may_there (one c) of h = may_of c of h
  may_there (maybe_one c) of h = may_of c of h
  may_there p at h = refl

-- ---- rows of the table

-- the value of a property is an expression where it is no method
no_method_value : (how : PropertyKind) (method : Bool) → is_method how method ≡ false → holds_method how method ≡ false
no_method_value property_kind.Init method e = e
no_method_value property_kind.Get method e = absurd (true≢false e)
no_method_value property_kind.Set method e = absurd (true≢false e)

property_seen : (method : Bool) (key : Planned) → method ≡ false → places_seen is_missed is_always_expression may_hold (parent.Property method) 0 (key ∷ one Class.expression ∷ []) ≡ true
property_seen true key e = absurd (true≢false e)
property_seen false key e = refl

method_seen : (method : Bool) (key : Planned) → places_seen is_missed is_always_expression may_hold (parent.Property method) 0 (key ∷ one method_value ∷ []) ≡ true
method_seen true key = refl
method_seen false key = refl

rows_seen : (r : Row) (vs : Values (fields_of r)) (private : Bool) → IsChosen r vs → places_seen is_missed is_always_expression may_hold (parent_of (kind_in r vs)) 0 (places private (fields_of r) vs) ≡ true
rows_seen a_property vs private chosen = property_seen (holds_method vs.0 vs.1.0) _ (no_method_value vs.0 vs.1.0 chosen)
rows_seen a_method_property vs private chosen = method_seen (holds_method vs.0 vs.1.0) _
rows_seen r vs private chosen = refl

-- ---- lists

abbrev holds_others : Parent → Bool
holds_others parent.ChainExpression = true
holds_others parent.Directive = true
holds_others (parent.MethodDefinition is_constructor) = true
holds_others (parent.Property is_method) = true
holds_others p = false

plain : (p : Parent) → holds_others p ≡ false → (at : ℕ) → is_missed (field p at) ≡ false
plain parent.ChainExpression e at = absurd (true≢false e)
plain parent.Directive e at = absurd (true≢false e)
plain (parent.MethodDefinition is_constructor) e at = absurd (true≢false e)
plain (parent.Property is_method) e at = absurd (true≢false e)
plain p e at = refl

row_of : (p : Parent) → holds_others p ≡ false → (a : Forest) → none_missed is_missed is_always_expression p 0 a ≡ true
row_of p e a = plain_row is_missed is_always_expression p (plain p e) 0 a

lists_seen : (k : Kind) (a : Forest) → is_list_kind k ≡ true → none_missed is_missed is_always_expression (parent_of k) 0 a ≡ true
lists_seen Kind.ChainExpression a h = absurd (true≢false (sym h))
lists_seen (Kind.Directive written) a h = absurd (true≢false (sym h))
lists_seen (Kind.MethodDefinition how is_static key) a h = absurd (true≢false (sym h))
lists_seen (Kind.Property how is_method key) a h = absurd (true≢false (sym h))
lists_seen k a h = row_of (parent_of k) refl a

-- ---- trees

pub expressions_seen : (t : Forest) → Fits root t → EachNode (IsSeen is_missed is_always_expression) top t
expressions_seen t fits = each_seen is_missed is_always_expression told_same refl t (fits_seen is_missed is_always_expression may_hold may_there rows_seen lists_seen (row_of parent.Other refl) t fits)
