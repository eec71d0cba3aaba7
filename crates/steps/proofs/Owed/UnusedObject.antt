-- What an object literal owes of which nobody takes the value, and of which the values stay that act.
use Rattle.std.proofs.Common.{◌≡◌, ◌∙◌, ◌≤◌, ◌+◌, ℕ, suc, [], ◌∷◌, ◌++◌, Bool, true, false, not, ◌&&◌, ◌||◌, Some, None, if◌then◌else◌, arith, refl, sym, ap, subst, true≢false}
use Rattle.js_syntax.specs.Class.{Class, root, object_item}
use Rattle.js_syntax.specs.Core.{is_plain_property}
use Rattle.js_syntax.specs.declared.node_kind.NodeKind.{NodeKind as Kind}
use Rattle.js_syntax.specs.declared.node_kind.NodeKind.TheVariants.{ObjectExpression as object_expression, Properties as properties, Property as property}
use Rattle.js_syntax.specs.declared.kind.PropertyKind.{PropertyKind}
use Rattle.js_syntax.specs.declared.kind.PropertyKind.TheVariants as property_kind
use Rattle.js_syntax.specs.declared.value.Key.{Key}
use Rattle.js_syntax.specs.declared.value.Key.TheVariants as key_form
use Rattle.js_syntax.specs.Field.{property_key}
use Rattle.js_syntax.specs.Facts.{weight, is_core}
use Rattle.js_syntax.specs.Hint.{has, is_private}
use Rattle.js_syntax.specs.Node.{Note, Forest, Tree, nothing, node, absent, alone, joined, total}
use Rattle.js_syntax.specs.Table.{Row, an_object_expression, a_property, a_method_property, fields_of}
use Rattle.js_syntax.proofs.Truth.{first_of_both, second_of_both, both}
use Rattle.js_tree.specs.Count.{lower, levels_at}
use Rattle.js_rebuilt.specs.Rebuilt.{is_operation, Rebuilt, ends, stays, leaves, opened, absent_leaves}
use Rattle.js_meaning.specs.Scope.{specifier_decls, import_decls}
use Rattle.js_meaning_near.specs.Names.{Names}
use Rattle.js_meaning_near.specs.Near.{module_of}
use Rattle.js_meaning_near.specs.Unused.{NeededValues, all_needed_values, needed_value, not_needed_value}
use Rattle.js_meaning_near.proofs.Spared.{spared, object_wasted}
use Rattle.json_shape.specs.Shape.{Values, kind_in, is_method, IsChosen, IsOf, IsAt, list, key_place, places, these, all, Stand, Fits}
use Rattle.form_rules.specs.Form.{IsWellFormed}
use Rattle.scope_laws.specs.Place.{Around, plug}
use Rattle.steps.specs.Steps.{all_core}
use Rattle.steps.specs.Allowed.Unused.{is_unused_at}
use Rattle.steps.specs.Allowed.UnusedList.{acting, as_one}
use Rattle.steps.specs.Allowed.UnusedObject.{comes_out as value_comes_out, is_computed, comes_apart, all_come_apart, keys_and_values, object_becomes, UnusedObject, acting_values_stay}
use Rattle.steps.specs.Allowed.UnusedOperation.{acts}
use Rattle.steps.specs.Allowed.Uses.{as_value, stands_bare}
use Rattle.steps.specs.Allowed.Wanted.{wanted_at}
use Rattle.steps.proofs.Fit.CoreCalm.{nameless_as_planned}
use Rattle.steps.proofs.Fit.Held.{core_here, core_below, core_behind}
use Rattle.steps.proofs.KeepForm.Rules.{first_empty, second_empty, both_empty}
use Rattle.steps.specs.Owed.Comes.{Comes}
use Rattle.steps.specs.Owed.TakesPlace.{anywhere}
use Rattle.steps.specs.Owed.Owed.{ByParts, by_coming}
use Rattle.steps.proofs.Owed.BranchKinds.{IsExpression, expression_told}
use Rattle.steps.proofs.Owed.ChoiceParts.{properties_of_object}
use Rattle.steps.proofs.Owed.ChoiceRuns.{core_there, no_imports_below}
use Rattle.steps.proofs.Owed.FitsTaking.{as_object, object_stood}
use Rattle.steps.proofs.Owed.SilentAnywhere.{silent_anywhere}
use Rattle.steps.proofs.Owed.Undeclared.{DeclaresNothing, both_plainly}
use Rattle.steps.proofs.Owed.UnusedList.{Left, is_left, acting_nodes, acting_less, acting_lower, left_rebuilt, left_weighs, left_lower, Parts, left_fits, left_unasked, left_some, left_stands, left_hoists, left_core, ImportsNone, left_declares}
use Rattle.steps.proofs.Owed.UnusedOperation.{comes_out}
use Rattle.steps.proofs.Owed.UnusedPlace.{unused_for_effect}

abbrev tree : Kind → Note → (below : Forest) → Tree
tree k n below = record { kind = k; note = n; below = below }

-- ---- an object, and what is left of it

pub data Literal (n m : Note) : Kind → (below : Forest) → Tree → Type 0 where
  an_object : (i : Note) (es : Forest) (y : Tree) → all_come_apart es ≡ true → Left n m (acting (keys_and_values es)) y → Literal n m object_expression (node properties i es nothing) y

is_literal : (n m : Note) (k : Kind) (below : Forest) (y : Tree) → object_becomes n m k below ≡ Some y → Literal n m k below y
is_literal n m object_expression (node properties i es nothing) y e = each (all_come_apart es) refl e
  where
    each : (b : Bool) → all_come_apart es ≡ b → (if b then as_one n m (acting (keys_and_values es)) else None) ≡ Some y → Literal n m object_expression (node properties i es nothing) y
    each true apart is = an_object i es y apart (is_left n m (acting (keys_and_values es)) y (acting_nodes (keys_and_values es)) is)
    each false apart is = absurd cc
is_literal n m k below y e = absurd cc

-- what comes out of a method doesn't act
method_is_idle : (k : Kind) (n : Note) (a : Forest) → value_comes_out true k n a ≡ true → acts k n a ≡ false
method_is_idle k n a e = each (acts k n a) e
  where
    each : (b : Bool) → (not b || false) ≡ true → b ≡ false
    each true h = absurd (true≢false (sym h))
    each false h = refl

without_idle : (k : Kind) (n : Note) (a more : Forest) → acts k n a ≡ false → acting (node k n a more) ≡ acting more
without_idle k n a more idle = ap (λ b. if b then node k n a (acting more) else acting more) idle

-- ---- rebuilt

property_is_operation : (how : PropertyKind) (key : Key) → is_plain_property how key ≡ true → is_operation (property how false key) ≡ true
property_is_operation property_kind.Init key plain = refl
property_is_operation how key plain = absurd (true≢false (sym plain))

computed_is_operation : (how : PropertyKind) (key : Key) (below : Forest) → is_computed how key below ≡ true → is_operation (property how false key) ≡ true
computed_is_operation property_kind.Init key below computed = refl
computed_is_operation how key below computed = absurd (true≢false (sym computed))

row_rebuilt : (below more r : Forest) → Rebuilt r (joined (acting more) nothing) → Rebuilt (joined below r) (joined (acting (joined below more)) nothing)
row_rebuilt nothing more r h = h
row_rebuilt (absent b) more r h = absent_leaves (row_rebuilt b more r h)
row_rebuilt (node k n a b) more r h = each (acts k n a) (row_rebuilt b more r h)
  where
    each : (is : Bool) → Rebuilt (joined b r) (joined (acting (joined b more)) nothing) → Rebuilt (node k n a (joined b r)) (joined (if is then node k n a (acting (joined b more)) else acting (joined b more)) nothing)
    each true later = stays later
    each false later = leaves later

property_rebuilt : (k : Kind) (n : Note) (below more r : Forest) → comes_apart k below ≡ true → Rebuilt r (joined (acting more) nothing) → Rebuilt (node k n below r) (joined (acting (joined below more)) nothing)
property_rebuilt (property how false key) n (absent (node k m a nothing)) more r e h =
    opened (property_is_operation how key (first_of_both (is_plain_property how key) (value_comes_out false k m a) e)) (row_rebuilt (absent (node k m a nothing)) more r h)
property_rebuilt (property how false key) n (node j i b (node k m a nothing)) more r e h =
    opened (computed_is_operation how key (alone j i b) (first_of_both (is_computed how key (alone j i b)) (value_comes_out false j i b && value_comes_out false k m a) e)) (row_rebuilt (node j i b (node k m a nothing)) more r h)
property_rebuilt (property how true key) n (absent (node k m a nothing)) more r e h =
    let idle = method_is_idle k m a (second_of_both (is_plain_property how key) (value_comes_out true k m a) e) in
    subst (λ t. Rebuilt (node (property how true key) n (absent (node k m a nothing)) r) (joined t nothing)) (sym (without_idle k m a more idle)) (leaves h)
property_rebuilt (property how true key) n (node j i b (node k m a nothing)) more r e h =
    let outward = second_of_both (is_computed how key (alone j i b)) (value_comes_out true j i b && value_comes_out true k m a) e in
    let first = method_is_idle j i b (first_of_both (value_comes_out true j i b) (value_comes_out true k m a) outward) in
    let second = method_is_idle k m a (second_of_both (value_comes_out true j i b) (value_comes_out true k m a) outward) in
    subst (λ t. Rebuilt (node (property how true key) n (node j i b (node k m a nothing)) r) (joined t nothing)) (sym (without_idle j i b (node k m a more) first ∙ without_idle k m a more second)) (leaves h)
property_rebuilt k n below more r e h = absurd cc

object_rebuilt : (es : Forest) → all_come_apart es ≡ true → Rebuilt (joined es nothing) (joined (acting (keys_and_values es)) nothing)
object_rebuilt nothing e = ends
object_rebuilt (absent rest) e = absurd cc
object_rebuilt (node k n below rest) e =
    property_rebuilt k n below (keys_and_values rest) (joined rest nothing) (first_of_both (comes_apart k below) (all_come_apart rest) e) (object_rebuilt rest (second_of_both (comes_apart k below) (all_come_apart rest) e))

-- ---- what it weighs, and how many levels there are

total_joined : (w : Kind → ℕ) (t u : Forest) → total w (joined t u) ≡ total w t + total w u
total_joined w nothing u = Prim.omega arith
total_joined w (absent t) u = total_joined w t u
total_joined w (node k n b t) u = Prim.omega (arith, total_joined w t u)

parts_weigh_less : (w : Kind → ℕ) (es : Forest) → total w (keys_and_values es) ≤ total w es
parts_weigh_less w nothing = Prim.omega arith
parts_weigh_less w (absent rest) = parts_weigh_less w rest
parts_weigh_less w (node k n below rest) = Prim.omega (arith, total_joined w below (keys_and_values rest), parts_weigh_less w rest)

row_lower : (f : ℕ → ℕ) (most at : ℕ) (below more : Forest) → levels_at f at below ≤ most → ((p : ℕ) → levels_at (λ i. 0) p more ≤ most) → (p : ℕ) → levels_at (λ i. 0) p (joined below more) ≤ most
row_lower f most at nothing more here later p = later p
row_lower f most at (absent b) more here later p = row_lower f most (suc at) b more here later (suc p)
row_lower f most at (node k n a b) more here later p =
    let h = row_lower f most (suc at) b more (Prim.omega (arith, here)) later (suc p) in
    Prim.omega (arith, here, h)

parts_lower : (f : ℕ → ℕ) (most at : ℕ) (es : Forest) → levels_at f at es ≤ most → (p : ℕ) → levels_at (λ i. 0) p (keys_and_values es) ≤ most
parts_lower f most at nothing here p = Prim.omega arith
parts_lower f most at (absent rest) here p = parts_lower f most (suc at) rest here p
parts_lower f most at (node k n below rest) here p =
    row_lower (lower k) most 0 below (keys_and_values rest) (Prim.omega (arith, here)) (parts_lower f most (suc at) rest (Prim.omega (arith, here))) p

object_lower : (es : Forest) (g : ℕ → ℕ) → ((i : ℕ) → g i ≡ 0) → levels_at g 0 (acting (keys_and_values es)) ≤ levels_at (λ i. lower properties i) 0 es
object_lower es g none =
    let most = levels_at (λ i. lower properties i) 0 es in
    Prim.omega (arith, acting_lower (λ i. 0) g none (keys_and_values es) 0 0, parts_lower (λ i. lower properties i) most 0 es (Prim.omega arith) 0)

-- ---- by the table of node types

abbrev Properties : Forest → Type 0
Properties t = Stand (all object_item) t

abbrev IsItem : Kind → Forest → Type 0
IsItem k below = IsOf k below (λ p. Stand p below) object_item

abbrev is_property : Kind → Bool
is_property (property how is_method key) = true
is_property k = false

abbrev holds_method : Kind → Bool
holds_method (property how method key) = is_method how method
holds_method k = false

plain_is_no_method : (how : PropertyKind) (key : Key) → is_plain_property how key ≡ true → is_method how false ≡ false
plain_is_no_method property_kind.Init key plain = refl
plain_is_no_method how key plain = absurd (true≢false (sym plain))

computed_is_no_method : (how : PropertyKind) (key : Key) (below : Forest) → is_computed how key below ≡ true → is_method how false ≡ false
computed_is_no_method property_kind.Init key below computed = refl
computed_is_no_method how key below computed = absurd (true≢false (sym computed))

value_of_row : (how : PropertyKind) (key : Key) → is_method how false ≡ false → (r : Row) (vs : Values (fields_of r)) (private : Bool) (k : Kind) (m : Note) (a : Forest)
    → IsChosen r vs → property how false key ≡ kind_in r vs → Stand (these (places private (fields_of r) vs)) (absent (node k m a nothing)) → IsExpression k a
value_of_row how key none a_property vs private k m a chosen is st = st.1.0
value_of_row how key none a_method_property vs private k m a chosen is st = absurd (true≢false (sym chosen ∙ sym (ap holds_method is) ∙ none))
value_of_row how key none r vs private k m a chosen is st = absurd (true≢false (ap is_property is))

-- no private name is the key of a property
key_is_expression : (private : Bool) (key : Key) (j : Kind) (b : Forest) → IsAt j b (λ p. Stand p b) (key_place property_key private key) → IsExpression j b
key_is_expression true key_form.Below j b st = absurd (true≢false (sym st.0))
key_is_expression false key_form.Below j b st = st
key_is_expression private key j b st = absurd st

both_of_row : (how : PropertyKind) (key : Key) → is_method how false ≡ false → (r : Row) (vs : Values (fields_of r)) (private : Bool) (j k : Kind) (i m : Note) (b a : Forest)
    → IsChosen r vs → property how false key ≡ kind_in r vs → Stand (these (places private (fields_of r) vs)) (node j i b (node k m a nothing)) → IsExpression j b × IsExpression k a
both_of_row how key none a_property vs private j k i m b a chosen is st = (key_is_expression private vs.1.1.0 j b st.0, st.1.0)
both_of_row how key none a_method_property vs private j k i m b a chosen is st = absurd (true≢false (sym chosen ∙ sym (ap holds_method is) ∙ none))
both_of_row how key none r vs private j k i m b a chosen is st = absurd (true≢false (ap is_property is))

-- where it acts it stays
stay_if_acting : (k : Kind) (n : Note) (a more : Forest) → IsExpression k a → Parts (acting more) → Parts (acting (node k n a more))
stay_if_acting k n a more of later = each (acts k n a)
  where
    each : (b : Bool) → Parts (if b then node k n a (acting more) else acting more)
    each true = (of, later)
    each false = later

property_stays : (k : Kind) (below more : Forest) → comes_apart k below ≡ true → IsItem k below → Parts (acting more) → Parts (acting (joined below more))
property_stays (property how false key) (absent (node k m a nothing)) more e of later =
    let none = plain_is_no_method how key (first_of_both (is_plain_property how key) (value_comes_out false k m a) e) in
    stay_if_acting k m a more (value_of_row how key none of.0 of.1 (has is_private (absent (node k m a nothing))) k m a of.3 of.4 of.5) later
property_stays (property how false key) (node j i b (node k m a nothing)) more e of later =
    let none = computed_is_no_method how key (alone j i b) (first_of_both (is_computed how key (alone j i b)) (value_comes_out false j i b && value_comes_out false k m a) e) in
    let two = both_of_row how key none of.0 of.1 (has is_private (node j i b (node k m a nothing))) j k i m b a of.3 of.4 of.5 in
    stay_if_acting j i b (node k m a more) two.0 (stay_if_acting k m a more two.1 later)
property_stays (property how true key) (absent (node k m a nothing)) more e of later =
    subst Parts (sym (without_idle k m a more (method_is_idle k m a (second_of_both (is_plain_property how key) (value_comes_out true k m a) e)))) later
property_stays (property how true key) (node j i b (node k m a nothing)) more e of later =
    let outward = second_of_both (is_computed how key (alone j i b)) (value_comes_out true j i b && value_comes_out true k m a) e in
    let first = method_is_idle j i b (first_of_both (value_comes_out true j i b) (value_comes_out true k m a) outward) in
    let second = method_is_idle k m a (second_of_both (value_comes_out true j i b) (value_comes_out true k m a) outward) in
    subst Parts (sym (without_idle j i b (node k m a more) first ∙ without_idle k m a more second)) later
property_stays k below more e of later = absurd cc

parts_stay : (es : Forest) → all_come_apart es ≡ true → Properties es → Parts (acting (keys_and_values es))
parts_stay nothing e st = tt
parts_stay (absent rest) e st = absurd cc
parts_stay (node k n below rest) e st =
    property_stays k below (keys_and_values rest) (first_of_both (comes_apart k below) (all_come_apart rest) e) st.0 (parts_stay rest (second_of_both (comes_apart k below) (all_come_apart rest) e) st.1)

-- ---- runs, which are defined of plain keys alone

pub data Plain : (es : Forest) → (left : Forest) → Type 0 where
  none_left : Plain nothing nothing
  value_stays : {how : PropertyKind} {key : Key} {k : Kind} {n m : Note} {a rest left : Forest} → is_plain_property how key ≡ true → Plain rest left → Plain (node (property how false key) n (absent (node k m a nothing)) rest) (node k m a left)
  value_leaves : {how : PropertyKind} {is_method : Bool} {key : Key} {k : Kind} {n m : Note} {a rest left : Forest} → is_plain_property how key ≡ true → acts k m a ≡ false → Plain rest left → Plain (node (property how is_method key) n (absent (node k m a nothing)) rest) left

plain_value : (how : PropertyKind) (is_method : Bool) (key : Key) (n m : Note) (k : Kind) (a rest left : Forest) (b : Bool) → acts k m a ≡ b → is_plain_property how key ≡ true → (not b || (not is_method && stands_bare as_value false k a)) ≡ true → Plain rest left
    → Plain (node (property how is_method key) n (absent (node k m a nothing)) rest) (if b then node k m a left else left)
plain_value how true key n m k a rest left true is plain out later = absurd (true≢false (sym out))
plain_value how false key n m k a rest left true is plain out later = value_stays plain later
plain_value how is_method key n m k a rest left false is plain out later = value_leaves plain is later

computed_is_not_plain : (how : PropertyKind) (key : Key) (below : Forest) → is_computed how key below ≡ true → is_plain_property how key ≡ true → ⊥
computed_is_not_plain property_kind.Init key_form.Below below computed plain = true≢false (sym plain)
computed_is_not_plain how key below computed plain = true≢false (sym computed)

plain_property : (k : Kind) (n : Note) (below rest : Forest) → comes_apart k below ≡ true → is_core k ≡ true → Plain rest (acting (keys_and_values rest)) → Plain (node k n below rest) (acting (joined below (keys_and_values rest)))
plain_property (property how is_method key) n (absent (node k m a nothing)) rest e core later =
    plain_value how is_method key n m k a rest (acting (keys_and_values rest)) (acts k m a) refl (first_of_both (is_plain_property how key) (value_comes_out is_method k m a) e)
    (second_of_both (is_plain_property how key) (value_comes_out is_method k m a) e) later
plain_property (property how is_method key) n (node j i b (node k m a nothing)) rest e core later =
    absurd (computed_is_not_plain how key (alone j i b) (first_of_both (is_computed how key (alone j i b)) (value_comes_out is_method j i b && value_comes_out is_method k m a) e) core)
plain_property k n below rest e core later = absurd cc

plain_properties : (es : Forest) → all_come_apart es ≡ true → all_core es ≡ true → Plain es (acting (keys_and_values es))
plain_properties nothing e core = none_left
plain_properties (absent rest) e core = absurd cc
plain_properties (node k n below rest) e core =
    plain_property k n below rest (first_of_both (comes_apart k below) (all_come_apart rest) e) (core_here k n below rest core)
    (plain_properties rest (second_of_both (comes_apart k below) (all_come_apart rest) e) (core_behind k n below rest core))

plain_needed : (st : Names) {es left : Forest} → Plain es left → NeededValues st es left
plain_needed st none_left = all_needed_values
plain_needed st (value_stays plain later) = needed_value plain (plain_needed st later)
plain_needed st (value_leaves {k = k} {m = m} {a = a} plain is later) = not_needed_value plain (silent_anywhere st k m a is) (plain_needed st later)

plain_core : {es left : Forest} → Plain es left → all_core es ≡ true → all_core left ≡ true
plain_core none_left core = refl
plain_core (value_stays {how = how} {key = key} {k = k} {n = n} {m = m} {a = a} {rest = rest} {left = left} plain later) core =
    let here = core_below (property how false key) n (absent (node k m a nothing)) rest core in
    both (is_core k) (all_core a && all_core left) (core_here k m a nothing here) (both (all_core a) (all_core left) (core_below k m a nothing here) (plain_core later (core_behind (property how false key) n (absent (node k m a nothing)) rest core)))
plain_core (value_leaves {how = how} {is_method = is_method} {key = key} {k = k} {n = n} {m = m} {a = a} {rest = rest} plain is later) core =
    plain_core later (core_behind (property how is_method key) n (absent (node k m a nothing)) rest core)

plain_imports : {es left : Forest} → Plain es left → ImportsNone es → ImportsNone left
plain_imports none_left none = none
plain_imports (value_stays {k = k} {m = m} {a = a} {rest = rest} {left = left} plain later) none = λ source.
    let value = specifier_decls source k a (import_decls source a) in
    both_empty value (import_decls source left) (first_empty value [] (first_empty (value ++ []) (import_decls source rest) (none source)))
    (plain_imports later (λ z. second_empty (specifier_decls z k a (import_decls z a) ++ []) (import_decls z rest) (none z)) source)
plain_imports (value_leaves {k = k} {m = m} {a = a} {rest = rest} plain is later) none =
    plain_imports later (λ source. second_empty (specifier_decls source k a (import_decls source a) ++ []) (import_decls source rest) (none source))

-- ---- all of it

module _ (a : Around) (unused : is_unused_at a ≡ true) (p n m i : Note) (es : Forest) (y : Tree) (apart : all_come_apart es ≡ true) (stays_left : Left n m (acting (keys_and_values es)) y) where
  abbrev left : Forest
  left = acting (keys_and_values es)

  abbrev object : Tree
  object = tree object_expression p (node properties i es nothing)

  properties_there : Fits root (plug a (Some object)) → Properties es
  properties_there fits = (properties_of_object a p object.below fits).0.1

  left_there : Fits root (plug a (Some object)) → Parts left
  left_there fits = parts_stay es apart (properties_there fits)

  comes : (q s : Note) (b : Forest) → plug a (Some object) ≡ module_of q s b → Fits root (module_of q s b) → IsWellFormed (module_of q s b) → all_core (module_of q s b) ≡ true → Comes a object y
  comes q s b is fits form core =
      let there = subst (Fits root) (sym is) fits in
      let below = core_below object_expression p object.below nothing (core_there a object (subst (λ t. all_core t ≡ true) (sym is) core)) in
      let listed = core_below properties i es nothing below in
      let plain = plain_properties es apart listed in
      let within = plain_core plain listed in
      let imports : ImportsNone object.below = no_imports_below q s b a object y is fits form core object_expression refl refl (λ s i. refl) in
      let none : DeclaresNothing object.below = record { bound = nameless_as_planned object.below (these (list properties object_item ∷ [])) refl (properties_of_object a p object.below there) below; imports = imports } in
      record {
        inner = y.below;
        same = refl;
        stands = left_stands (wanted_at a) object_expression object.below stays_left
            (spared (wanted_at a) object_expression p m object.below left (unused_for_effect a unused) (left_some stays_left) refl (left_hoists stays_left (left_there there) within)
            (λ st. object_wasted st p i m es left (plain_needed st plain)));
        old_calm = refl;
        declares = both_plainly object_expression object.below y.kind y.note y.below nothing refl none
            (left_declares stays_left (left_there there) within (plain_imports plain (λ source. first_empty (import_decls source es) [] (imports source))));
        core = λ c. left_core stays_left within;
      }

  object_owes : ByParts a object y
  object_owes = record {
    rebuilt = λ fits. opened refl (opened refl (left_rebuilt (joined es nothing) stays_left (object_rebuilt es apart)));
    lighter = let h = left_weighs stays_left in let less = acting_less weight (keys_and_values es) in Prim.omega (arith, h, less, parts_weigh_less weight es);
    no_deeper = let h = left_lower (levels_at (λ i. lower properties i) 0 es) stays_left (object_lower es) in Prim.omega (arith, h);
    no_call = record { counts = refl; lists = λ i. refl; begins = λ i. refl; calls = refl };
    ends = refl;
    may_change = refl;
    fits_expression = λ fits. ((an_object_expression, tt, refl, tt, refl, properties_of_object a p object.below fits), tt);
    takes = λ fits.
        let of = left_fits stays_left (left_there fits) in
        anywhere (record { classes = λ (to : Class) f. (as_object y.kind y.below to (object_stood to p object.below f) of, tt); old_told = refl; new_told = expression_told y.kind y.below of });
    no_name = refl;
    old_unasked = λ fits. refl;
    unasked = λ fits. left_unasked stays_left (left_there fits);
    comes_out = comes_out a y unused;
    runs = by_coming comes;
  }

literal_owes : (a : Around) (p n m : Note) (k : Kind) (below : Forest) (y : Tree) → is_unused_at a ≡ true → Literal n m k below y → ByParts a (tree k p below) y
literal_owes a p n m _ _ _ unused (an_object i es y apart left) = object_owes a unused p n m i es y apart left

pub unused_object_owes : (a : Around) (x y : Tree) → UnusedObject a x y → ByParts a x y
unused_object_owes a x y (acting_values_stay n m _ _ unused is) = literal_owes a x.note n m x.kind x.below y unused (is_literal n m x.kind x.below y is)
