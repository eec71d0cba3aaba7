-- What stands at a place of a tree that fits the table of node types is made by a row of it.
use Rattle.std.proofs.Common.{◌≡◌, inl, inr, [], ◌∷◌, Bool, true, false, not, ◌&&◌, ◌||◌, Some, refl, sym, ap, ◌∙◌, true≢false}
use Rattle.js_syntax.specs.Class.{Class, a_prologue, read_name, expression, private_key, object_item}
use Rattle.js_syntax.specs.declared.node_kind.NodeKind.{NodeKind as Kind}
use Rattle.js_syntax.specs.declared.value.ModuleName.{ModuleName}
use Rattle.js_syntax.specs.Hint.{has, is_private}
use Rattle.js_syntax.specs.Node.{Forest, Tree}
use Rattle.js_syntax.specs.Table.{Row, a_reference_name, an_object_expression, a_conditional_expression, an_export_specifier, fields_of, type_of, stands}
use Rattle.js_meaning_near.specs.Near.{is_calm}
use Rattle.json_shape.specs.Shape.{Values, kind_in, first_of, IsChosen, Place, one, maybe_one, beyond, key_node, key_apart, list, list_with_holes, body, item_or_hole, item_of_body, places, Plan, these, first_place, IsOf, IsAt, Stand}
use Rattle.json_shape.specs.Shape as shape
use Rattle.json_shape.proofs.Choice.{is_list_kind}
use Rattle.scope_laws.specs.Place.{Around, first, behind, behind_none, under, plug}
use Rattle.steps.specs.Fit.Hoisted.{holds_variables}
use Rattle.steps.specs.Owed.Owed.{is_read_name}
use Rattle.steps.proofs.Fit.Calm.{is_calm_class}
use Rattle.steps.proofs.Fit.Holding.{is_sound, planned_below}
use Rattle.steps.proofs.Fit.Passing.{plan_passes, first_passes, behind_passes}
use Rattle.js_syntax.proofs.Truth.{first_of_both}

pub record MadeBy (k : Kind) (a : Forest) : Type 0 where
  pub row : Row
  pub values : Values (fields_of row)
  pub chosen : IsChosen row values
  pub is : k ≡ kind_in row values
  pub stands : Stand (these (places (has is_private a) (fields_of row) values)) a

-- ---- a node that is neither a list nor a hole

abbrev pub is_single : Kind → Bool
is_single Kind.Hole = false
is_single k = not (is_list_kind k)

lists_are_not : (k : Kind) → is_list_kind k ≡ true → is_single k ≡ false
lists_are_not Kind.Hole h = refl
lists_are_not k h = ap not h

pub calm_single : (k : Kind) → is_calm k ≡ true → is_single k ≡ true
calm_single Kind.Hole h = absurd (true≢false (sym h))
calm_single Kind.Statements h = absurd (true≢false (sym h))
calm_single Kind.Cases h = absurd (true≢false (sym h))
calm_single Kind.Declarators h = absurd (true≢false (sym h))
calm_single Kind.Parameters h = absurd (true≢false (sym h))
calm_single Kind.Members h = absurd (true≢false (sym h))
calm_single Kind.Elements h = absurd (true≢false (sym h))
calm_single Kind.Properties h = absurd (true≢false (sym h))
calm_single Kind.Expressions h = absurd (true≢false (sym h))
calm_single Kind.Arguments h = absurd (true≢false (sym h))
calm_single Kind.Quasis h = absurd (true≢false (sym h))
calm_single Kind.Specifiers h = absurd (true≢false (sym h))
calm_single k h = refl

pub not_calm : (k l : Kind) → k ≡ l → is_calm l ≡ false → is_calm k ≡ true → ⊥
not_calm k l is h g = true≢false (sym g ∙ ap is_calm is ∙ h)

not_single : (k l : Kind) → k ≡ l → is_single l ≡ false → is_single k ≡ true → ⊥
not_single k l is h g = true≢false (sym g ∙ ap is_single is ∙ h)

module _ (a : Forest) (k : Kind) (single : is_single k ≡ true) where
  made_of : (c : Class) → IsOf k a (λ p. Stand p a) c → MadeBy k a
  made_of c of = record { row = of.0; values = of.1; chosen = of.3; is = of.4; stands = of.5 }

  no_list : (kind : Kind) (c : Class) → k ≡ kind → (is_list_kind kind && (holds_variables kind || is_calm_class c)) ≡ true → MadeBy k a
  no_list kind c is h = absurd (not_single k kind is (lists_are_not kind (first_of_both (is_list_kind kind) (holds_variables kind || is_calm_class c) h)) single)

  pub made_at : (p : Place) → is_sound p ≡ true → IsAt k a (λ p. Stand p a) p → MadeBy k a
  made_at (one c) h of = made_of c of
  made_at (maybe_one c) h of = made_of c of
  made_at beyond h at = absurd at
  made_at (key_apart may) h at = absurd at
  made_at (key_node keys true) h at = made_of private_key at.1
  made_at (key_node keys false) h at = made_of expression at
  made_at (list kind c) h at = no_list kind c at.0 h
  made_at (list_with_holes kind c) h at = no_list kind c at.0 h
  made_at (body c) h at = absurd (not_single k Kind.Statements at.0 refl single)
  made_at (item_or_hole c) h (inl at) = absurd (not_single k Kind.Hole at.0 refl single)
  made_at (item_or_hole c) h (inr of) = made_of c of
  made_at (item_of_body c) h (inl of) = made_of a_prologue of
  made_at (item_of_body c) h (inr at) = made_of c at.1

-- ---- at a place

pub single_made_there : (a : Around) (x : Tree) (plan : Plan) → is_single x.kind ≡ true → plan_passes is_sound plan ≡ true → Stand plan (plug a (Some x)) → MadeBy x.kind x.below
single_made_there (first rest) x plan single h st = made_at x.below x.kind single (first_place plan) (first_passes is_sound plan refl h) st.0
single_made_there (behind k n below a) x plan single h st = single_made_there a x (shape.behind plan k) single (behind_passes is_sound plan k h) st.1
single_made_there (behind_none a) x plan single h st = single_made_there a x (shape.behind plan Kind.Hole) single (behind_passes is_sound plan Kind.Hole h) st.1
single_made_there (under k n a rest) x plan single h st =
    let planned = planned_below (plug a (Some x)) (first_place plan) k st.0 in
    single_made_there a x planned.0 single planned.1 planned.2

pub made_there : (a : Around) (x : Tree) (plan : Plan) → is_calm x.kind ≡ true → plan_passes is_sound plan ≡ true → Stand plan (plug a (Some x)) → MadeBy x.kind x.below
made_there a x plan calm h st = single_made_there a x plan (calm_single x.kind calm) h st

-- ---- what stands below some

abbrev is_conditional : Kind → Bool
is_conditional Kind.ConditionalExpression = true
is_conditional k = false

abbrev is_object : Kind → Bool
is_object Kind.ObjectExpression = true
is_object k = false

row_of_conditional : (r : Row) (vs : Values (fields_of r)) (private : Bool) (a : Forest)
    → Kind.ConditionalExpression ≡ kind_in r vs → Stand (these (places private (fields_of r) vs)) a → Stand (these (one expression ∷ one expression ∷ one expression ∷ [])) a
row_of_conditional a_conditional_expression vs private a is st = st
row_of_conditional r vs private a is st = absurd (true≢false (ap is_conditional is))

pub conditional_stands : (a : Forest) → MadeBy Kind.ConditionalExpression a → Stand (these (one expression ∷ one expression ∷ one expression ∷ [])) a
conditional_stands a made = row_of_conditional made.row made.values (has is_private a) a made.is made.stands

row_of_object : (r : Row) (vs : Values (fields_of r)) (private : Bool) (a : Forest)
    → Kind.ObjectExpression ≡ kind_in r vs → Stand (these (places private (fields_of r) vs)) a → Stand (these (list Kind.Properties object_item ∷ [])) a
row_of_object an_object_expression vs private a is st = st
row_of_object r vs private a is st = absurd (true≢false (ap is_object is))

pub object_stands : (a : Forest) → MadeBy Kind.ObjectExpression a → Stand (these (list Kind.Properties object_item ∷ [])) a
object_stands a made = row_of_object made.row made.values (has is_private a) a made.is made.stands

abbrev is_export : Kind → Bool
is_export (Kind.ExportSpecifier exported) = true
is_export k = false

row_of_export : (exported : ModuleName) (r : Row) (vs : Values (fields_of r)) (private : Bool) (a : Forest)
    → Kind.ExportSpecifier exported ≡ kind_in r vs → Stand (these (places private (fields_of r) vs)) a → Stand (these (one read_name ∷ [])) a
row_of_export exported an_export_specifier vs private a is st = st
row_of_export exported r vs private a is st = absurd (true≢false (ap is_export is))

pub export_stands : (exported : ModuleName) (a : Forest) → MadeBy (Kind.ExportSpecifier exported) a → Stand (these (one read_name ∷ [])) a
export_stands exported a made = row_of_export exported made.row made.values (has is_private a) a made.is made.stands

-- what stands where a name is read is one
row_is_name : (r : Row) (vs : Values (fields_of r)) → stands read_name (type_of r) ≡ Some (first_of r) → is_read_name (kind_in r vs) ≡ true
row_is_name a_reference_name vs is = refl
row_is_name r vs is = absurd cc

pub name_is_read : (k : Kind) (a : Forest) → IsOf k a (λ p. Stand p a) read_name → is_read_name k ≡ true
name_is_read k a of = ap is_read_name of.4 ∙ row_is_name of.0 of.1 of.2

-- a name that is read is no calm node
row_of_name : (r : Row) (vs : Values (fields_of r)) → stands read_name (type_of r) ≡ Some (first_of r) → is_calm (kind_in r vs) ≡ true → ⊥
row_of_name a_reference_name vs is calm = true≢false (sym calm)
row_of_name r vs is calm = absurd cc

pub name_not_calm : (k : Kind) (a : Forest) → IsOf k a (λ p. Stand p a) read_name → is_calm k ≡ true → ⊥
name_not_calm k a of calm = row_of_name of.0 of.1 of.2 (sym (ap is_calm of.4) ∙ calm)
