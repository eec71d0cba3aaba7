-- Where no tag stands before a place, no row that is planned there has one for the template behind a tag; and none stands where nobody
-- takes the value.
use Rattle.std.proofs.Common.{◌≡◌, ◌∙◌, ℕ, suc, ◌||◌, List, [], ◌∷◌, Bool, true, false, not, ◌&&◌, refl, sym, ap, true≢false}
use Rattle.js_effects.specs.Silence.{is_nothing}
use Rattle.js_syntax.specs.Class.{Class}
use Rattle.js_syntax.specs.declared.node_kind.NodeKind.{NodeKind as Kind}
use Rattle.js_syntax.specs.declared.value.Key.{Key}
use Rattle.js_syntax.specs.declared.value.Key.TheVariants.{Name as key_name, Text as key_text, Number as key_number, Below as key_below}
use Rattle.js_syntax.specs.Field.{Keys, keeps, checks, a_key, child, maybe, each, each_or_hole, a_body, Field, field}
use Rattle.js_syntax.specs.Table.{Row, a_program, a_tagged_template_expression, fields_of}
use Rattle.js_syntax.proofs.Truth.{first_of_both, second_of_both, both}
use Rattle.json_shape.specs.Shape.{Values, kind_in, Place, one, maybe_one, list, list_with_holes, body, item_or_hole, item_of_body, key_place, places, Plan, these, all, all_or_holes, all_of_body, first_place, behind, after_body_item, is_directive_kind}
use Rattle.scope_laws.specs.Lists.{is_list}
use Rattle.scope_laws.specs.Place.{Around, first, behind as around_behind, behind_none, under}
use Rattle.steps.specs.Allowed.Unused.{Taker, somebody, is_nobody, of_part, taken_below, taken_there, is_unused_at}
use Rattle.steps.specs.Owed.TakesPlace.{is_template, is_tag, stands_tagged}

-- ---- plans without the class

abbrev pub no_template : Place → Bool
no_template (one c) = not (is_template c)
no_template (maybe_one c) = not (is_template c)
no_template (list kind c) = not (is_template c)
no_template (list_with_holes kind c) = not (is_template c)
no_template (body c) = not (is_template c)
no_template (item_or_hole c) = not (is_template c)
no_template (item_of_body c) = not (is_template c)
no_template p = true

abbrev pub no_templates : List Place → Bool
no_templates [] = true
no_templates (p ∷ ps) = no_template p && no_templates ps

abbrev pub plans_none : Plan → Bool
plans_none (these ps) = no_templates ps
plans_none (all c) = not (is_template c)
plans_none (all_or_holes c) = not (is_template c)
plans_none (all_of_body c) = not (is_template c)

pub none_first : (plan : Plan) → plans_none plan ≡ true → no_template (first_place plan) ≡ true
none_first (these []) none = refl
none_first (these (p ∷ ps)) none = first_of_both _ _ none
none_first (all c) none = none
none_first (all_or_holes c) none = none
none_first (all_of_body c) none = none

none_after : (c : Class) (b : Bool) → not (is_template c) ≡ true → plans_none (after_body_item c b) ≡ true
none_after c true none = none
none_after c false none = none

pub none_behind : (plan : Plan) (k : Kind) → plans_none plan ≡ true → plans_none (behind plan k) ≡ true
none_behind (these []) k none = refl
none_behind (these (p ∷ ps)) k none = second_of_both _ _ none
none_behind (all c) k none = none
none_behind (all_or_holes c) k none = none
none_behind (all_of_body c) k none = none_after c (is_directive_kind k) none

-- ---- of each row but that of a tag

abbrev asks_none : List Field → Bool
asks_none [] = true
asks_none (field name (child c) ∷ fs) = not (is_template c) && asks_none fs
asks_none (field name (maybe c) ∷ fs) = not (is_template c) && asks_none fs
asks_none (field name (each kind c) ∷ fs) = not (is_template c) && asks_none fs
asks_none (field name (each_or_hole kind c) ∷ fs) = not (is_template c) && asks_none fs
asks_none (field name (a_body c) ∷ fs) = not (is_template c) && asks_none fs
asks_none (field name how ∷ fs) = asks_none fs

abbrev is_tag_row : Row → Bool
is_tag_row a_tagged_template_expression = true
is_tag_row r = false

asked_in : (r : Row) → is_tag_row r ≡ false → asks_none (fields_of r) ≡ true
asked_in a_tagged_template_expression h = absurd (true≢false h)
asked_in a_program h = refl
asked_in r h = refl

tag_of_row : (r : Row) (vs : Values (fields_of r)) → is_tag (kind_in r vs) ≡ false → is_tag_row r ≡ false
tag_of_row a_tagged_template_expression vs h = h
tag_of_row r vs h = refl

key_none : (keys : Keys) (private : Bool) (key : Key) → no_template (key_place keys private key) ≡ true
key_none keys private (key_name s) = refl
key_none keys private (key_text s) = refl
key_none keys private (key_number n) = refl
key_none keys private key_below = refl

fields_none : (private : Bool) (fs : List Field) (vs : Values fs) → asks_none fs ≡ true → no_templates (places private fs vs) ≡ true
fields_none private [] vs none = refl
fields_none private (field name (keeps k) ∷ fs) vs none = fields_none private fs vs.1 none
fields_none private (field name (checks c) ∷ fs) vs none = fields_none private fs vs none
fields_none private (field name (a_key keys) ∷ fs) vs none = both _ _ (key_none keys private vs.0) (fields_none private fs vs.1 none)
fields_none private (field name (child c) ∷ fs) vs none = both _ _ (first_of_both _ _ none) (fields_none private fs vs (second_of_both _ _ none))
fields_none private (field name (maybe c) ∷ fs) vs none = both _ _ (first_of_both _ _ none) (fields_none private fs vs (second_of_both _ _ none))
fields_none private (field name (each kind c) ∷ fs) vs none = both _ _ (first_of_both _ _ none) (fields_none private fs vs (second_of_both _ _ none))
fields_none private (field name (each_or_hole kind c) ∷ fs) vs none = both _ _ (first_of_both _ _ none) (fields_none private fs vs (second_of_both _ _ none))
fields_none private (field name (a_body c) ∷ fs) vs none = both _ _ (first_of_both _ _ none) (fields_none private fs vs (second_of_both _ _ none))

-- what a row of the table plans below a node that is no tag has no place for a template
pub row_plans_none : (private : Bool) (r : Row) (vs : Values (fields_of r)) → is_tag (kind_in r vs) ≡ false → plans_none (these (places private (fields_of r) vs)) ≡ true
row_plans_none private r vs h = fields_none private (fields_of r) vs (asked_in r (tag_of_row r vs h))

-- ---- where nobody takes the value

taken_list : (t : Taker) → t ≡ somebody → (more : Bool) → of_part t more ≡ somebody
taken_list t e more = ap (λ s. of_part s more) e

taken_tagged : (k : Kind) (t : Taker) (tagged : Bool) → (tagged ≡ true → t ≡ somebody) → (is_tag k || (is_list k && tagged)) ≡ true → (at : ℕ) (more : Bool) → taken_below t k at more ≡ somebody
taken_tagged Kind.TaggedTemplateExpression t tagged h e at more = refl
taken_tagged Kind.Expressions t tagged h e at more = taken_list t (h e) more
taken_tagged Kind.Statements t tagged h e at more = refl
taken_tagged Kind.Cases t tagged h e at more = refl
taken_tagged Kind.Declarators t tagged h e at more = refl
taken_tagged Kind.Parameters t tagged h e at more = refl
taken_tagged Kind.Members t tagged h e at more = refl
taken_tagged Kind.Elements t tagged h e at more = refl
taken_tagged Kind.Properties t tagged h e at more = refl
taken_tagged Kind.Arguments t tagged h e at more = refl
taken_tagged Kind.Quasis t tagged h e at more = refl
taken_tagged Kind.Specifiers t tagged h e at more = refl
taken_tagged k t tagged h e at more = absurd (true≢false (sym e))

at_first : (t : Taker) (tagged : Bool) → (tagged ≡ true → t ≡ somebody) → is_nobody t ≡ true → tagged ≡ false
at_first t true h nobody = absurd (true≢false (sym nobody ∙ ap is_nobody (h refl)))
at_first t false h nobody = refl

untagged_from : (ts : ℕ → Bool → Taker) (at : ℕ) (tagged : Bool) (a : Around) → (tagged ≡ true → (i : ℕ) (more : Bool) → ts i more ≡ somebody) → is_nobody (taken_there ts at a) ≡ true → stands_tagged tagged a ≡ false
untagged_from ts at tagged (first rest) h nobody = at_first (ts at (not (is_nothing rest))) tagged (λ e. h e at (not (is_nothing rest))) nobody
untagged_from ts at tagged (around_behind k n below a) h nobody = untagged_from ts (suc at) tagged a h nobody
untagged_from ts at tagged (behind_none a) h nobody = untagged_from ts (suc at) tagged a h nobody
untagged_from ts at tagged (under k n a rest) h nobody = untagged_from (taken_below (ts at (not (is_nothing rest))) k) 0 (is_tag k || (is_list k && tagged)) a (taken_tagged k (ts at (not (is_nothing rest))) tagged (λ e. h e at (not (is_nothing rest)))) nobody

pub unused_is_untagged : (a : Around) → is_unused_at a ≡ true → stands_tagged false a ≡ false
unused_is_untagged a unused = untagged_from (λ i more. somebody) 0 false a (λ e. absurd (true≢false (sym e))) unused
