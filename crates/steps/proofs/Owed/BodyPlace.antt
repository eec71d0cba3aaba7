-- Where the body of a statement stands, an empty statement may stand: no block is asked for there, as behind `try`, and statements may become
-- empty.
use Rattle.std.proofs.Common.{◌≡◌, ◌∙◌, ℕ, inl, inr, List, [], ◌∷◌, Bool, true, false, not, ◌&&◌, Some, refl, sym, subst, ap, true≢false}
use Rattle.js_syntax.specs.Class.{Class, root, module_item, statement, block, expression, private_key, a_prologue}
use Rattle.js_syntax.specs.declared.node_kind.NodeKind.{NodeKind as Kind}
use Rattle.js_syntax.specs.declared.node_kind.NodeKind.TheVariants.{Program as program, EmptyStatement as empty_statement, ExpressionStatement as expression_statement, LabeledStatement as labeled_statement, IfStatement as if_statement, WithStatement as with_statement, WhileStatement as while_statement, DoWhileStatement as do_while_statement, ForStatement as for_statement, ForInStatement as for_in_statement, ForOfStatement as for_of_statement, Literal as literal}
use Rattle.js_syntax.specs.declared.node_type.NodeType.TheVariants as type
use Rattle.js_syntax.specs.declared.value.LiteralValue.TheVariants as value
use Rattle.js_syntax.specs.Hint.{has, is_private}
use Rattle.js_syntax.specs.Node.{Note, Forest, Tree, nothing, node, alone, forest_of}
use Rattle.js_syntax.specs.Table.{Row as TableRow, a_program, a_block_statement, a_labeled_statement, an_if_statement, a_try_statement, a_while_statement, a_for_statement, a_with_statement, a_do_while_statement, a_for_in_statement, a_for_of_statement, an_empty_statement, an_expression_statement, fields_of, type_of, stands}
use Rattle.js_syntax.proofs.Truth.{first_of_both, second_of_both}
use Rattle.form_rules.specs.declared.sought.Sought.{Sought}
use Rattle.form_rules.specs.Scope.{declared}
use Rattle.json_shape.specs.Shape.{Values, kind_in, first_of, Place, one, maybe_one, beyond, key_node, key_apart, list, list_with_holes, body, item_or_hole, item_of_body, places, Plan, these, all, all_or_holes, all_of_body, first_place, behind as plan_behind, IsOf, IsAt, Stand, Fits}
use Rattle.json_shape.proofs.Choice.{is_list_kind}
use Rattle.scope_laws.specs.Place.{Around, first, behind, behind_none, under, plug}
use Rattle.steps.specs.Allowed.IdleBody.{has_body, stands_as_body, IsBody}
use Rattle.steps.specs.KeepForm.Part.{may_be_idle}
use Rattle.steps.specs.KeepForm.Sheds as shed
use Rattle.steps.specs.KeepForm.Sheds.{row_below, labeled_below, sought_inside, entered, outermost, Sheds, keeps_absent, keeps, empties_idle}
use Rattle.steps.specs.KeepForm.Layout.{is_laid_out}
use Rattle.steps.specs.Owed.TakesPlace.{is_told_by_class}
use Rattle.steps.proofs.KeepForm.Asked.{idle_kinds}
use Rattle.steps.proofs.KeepForm.Fitting.{fits_laid_out}
use Rattle.steps.proofs.KeepForm.Laid.{laid_absent, laid_right, laid_below, laid_behind}
use Rattle.steps.proofs.KeepForm.Rows.{itself, keeps_itself}
use Rattle.steps.proofs.KeepTable.Planned.{place_ok, plan_ok, first_ok, behind_ok, row_ok}
use Rattle.steps.proofs.Owed.FitsBecoming.{private_taken}
use Rattle.steps.proofs.Owed.FitsTaking.{as_if}
use Rattle.steps.proofs.Owed.KnownOperation.{literal_expression}
use Rattle.steps.proofs.Owed.PartForm.{is_catch, below_no_catch, keeps_all}

no_kind : {A : Type 0} → false ≡ true → A
no_kind e = absurd (true≢false (sym e))

-- ---- plans that ask for no block

abbrev is_block : Class → Bool
is_block block = true
is_block c = false

abbrev is_plain : Place → Bool
is_plain (one c) = not (is_block c)
is_plain (maybe_one c) = not (is_block c)
is_plain p = false

abbrev are_plain : List Place → Bool
are_plain [] = true
are_plain (p ∷ ps) = is_plain p && are_plain ps

abbrev plans_plainly : Plan → Bool
plans_plainly (these ps) = are_plain ps
plans_plainly plan = false

behind_plain : (plan : Plan) (k : Kind) → plans_plainly plan ≡ true → plans_plainly (plan_behind plan k) ≡ true
behind_plain (these []) k h = refl
behind_plain (these (p ∷ ps)) k h = second_of_both _ _ h
behind_plain (all c) k h = no_kind h
behind_plain (all_or_holes c) k h = no_kind h
behind_plain (all_of_body c) k h = no_kind h

-- that of each statement that has a body
row_plans_plainly : (private : Bool) (r : TableRow) (vs : Values (fields_of r)) → has_body (kind_in r vs) ≡ true → plans_plainly (these (places private (fields_of r) vs)) ≡ true
row_plans_plainly private an_if_statement vs h = refl
row_plans_plainly private a_with_statement vs h = refl
row_plans_plainly private a_while_statement vs h = refl
row_plans_plainly private a_do_while_statement vs h = refl
row_plans_plainly private a_for_statement vs h = refl
row_plans_plainly private a_for_in_statement vs h = refl
row_plans_plainly private a_for_of_statement vs h = refl
row_plans_plainly private a_program vs h = no_kind h
row_plans_plainly private r vs h = no_kind h

no_list : (k : Kind) → has_body k ≡ true → is_list_kind k ≡ false
no_list if_statement h = refl
no_list with_statement h = refl
no_list while_statement h = refl
no_list do_while_statement h = refl
no_list for_statement h = refl
no_list for_in_statement h = refl
no_list for_of_statement h = refl
no_list k h = no_kind h

listed : {P : Type 0} (k kind : Kind) → is_list_kind kind ≡ true → k ≡ kind → has_body k ≡ true → P
listed k kind is same h = absurd (true≢false (sym is ∙ ap is_list_kind (sym same) ∙ no_list k h))

-- ---- a node in the place of another

-- a node stands where it stood if the row below it does that
module _ (k : Kind) (below now : Forest) (private : has is_private below ≡ has is_private now)
    (moves : (plan : Plan) → plan_ok plan ≡ true → (has_body k ≡ true → plans_plainly plan ≡ true) → Stand plan below → Stand plan now) where
  of_inside : (c : Class) → IsOf k below (λ p. Stand p below) c → IsOf k now (λ p. Stand p now) c
  of_inside c of =
      let plan = these (places (has is_private below) (fields_of of.0) of.1) in
      let moved = moves plan (row_ok (has is_private below) of.0 of.1) (λ h. row_plans_plainly (has is_private below) of.0 of.1 (sym (ap has_body of.4) ∙ h)) of.5 in
      (of.0, of.1, of.2, of.3, of.4, subst (λ (b : Bool). Stand (these (places b (fields_of of.0) of.1)) now) private moved)

  hole_inside : k ≡ Kind.Hole → Stand (these []) below → Stand (these []) now
  hole_inside is h = moves (these []) refl (λ h. refl) h

  stands_inside : (p : Place) → place_ok p ≡ true → IsAt k below (λ p. Stand p below) p → IsAt k now (λ p. Stand p now) p
  stands_inside (one c) ok of = of_inside c of
  stands_inside (maybe_one c) ok of = of_inside c of
  stands_inside beyond ok at = absurd at
  stands_inside (key_node keys true) ok at = (at.0, of_inside private_key at.1)
  stands_inside (key_node keys false) ok of = of_inside expression of
  stands_inside (key_apart may) ok at = absurd at
  stands_inside (list kind c) ok at = (at.0, moves (all c) refl (λ h. listed k kind ok at.0 h) at.1)
  stands_inside (list_with_holes kind c) ok at = (at.0, moves (all_or_holes c) refl (λ h. listed k kind ok at.0 h) at.1)
  stands_inside (body c) ok at = (at.0, moves (all_of_body c) ok (λ h. listed k Kind.Statements refl at.0 h) at.1)
  stands_inside (item_or_hole c) ok (inl at) = inl (at.0, hole_inside at.0 at.1)
  stands_inside (item_or_hole c) ok (inr of) = inr (of_inside c of)
  stands_inside (item_of_body c) ok (inl of) = inl (of_inside a_prologue of)
  stands_inside (item_of_body c) ok (inr at) = inr (at.0, of_inside c at.1)

not_block : (c : Class) → not (is_block c) ≡ true → is_block c ≡ false
not_block block h = absurd cc
not_block c h = refl

-- of each class but a block it is what the other is
module _ (x y : Tree) (classes : (c : Class) → is_block c ≡ false → IsOf x.kind x.below (λ p. Stand p x.below) c → IsOf y.kind y.below (λ p. Stand p y.below) c)
    (old_told : is_told_by_class x.kind ≡ true) (new_told : is_told_by_class y.kind ≡ true) where
  first_stands : (plan : Plan) (rest : Forest) → plans_plainly plan ≡ true → Stand plan (node x.kind x.note x.below rest) → Stand plan (node y.kind y.note y.below rest)
  first_stands (these (one c ∷ ps)) rest h st = (classes c (not_block c (first_of_both (not (is_block c)) (are_plain ps) h)) st.0, st.1)
  first_stands (these (maybe_one c ∷ ps)) rest h st = (classes c (not_block c (first_of_both (not (is_block c)) (are_plain ps) h)) st.0, st.1)
  first_stands (these (p ∷ ps)) rest h st = no_kind h
  first_stands (these []) rest h st = absurd st.0
  first_stands (all c) rest h st = no_kind h
  first_stands (all_or_holes c) rest h st = no_kind h
  first_stands (all_of_body c) rest h st = no_kind h

  body_stands : (begun : Bool) (a : Around) (plan : Plan) → plan_ok plan ≡ true → (begun ≡ true → plans_plainly plan ≡ true) → stands_as_body begun a ≡ true → Stand plan (plug a (Some x)) → Stand plan (plug a (Some y))
  body_stands begun (first rest) plan ok plain here h = first_stands plan rest (plain here) h
  body_stands begun (behind k n below a) plan ok plain here h = (h.0, body_stands begun a (plan_behind plan k) (behind_ok plan k ok) (λ e. behind_plain plan k (plain e)) here h.1)
  body_stands begun (behind_none a) plan ok plain here h = (h.0, body_stands begun a (plan_behind plan Kind.Hole) (behind_ok plan Kind.Hole ok) (λ e. behind_plain plan Kind.Hole (plain e)) here h.1)
  body_stands begun (under k n a rest) plan ok plain here h = (
    stands_inside k (plug a (Some x)) (plug a (Some y)) (private_taken x y old_told new_told a) (λ p fine planned. body_stands (has_body k) a p fine planned here) (first_place plan) (first_ok plan ok) h.0,
    h.1,
  )

  body_takes : (a : Around) → IsBody a → Fits root (plug a (Some x)) → Fits root (plug a (Some y))
  body_takes a here fits = body_stands false a (these (one root ∷ [])) refl (λ e. refl) here fits

-- ---- what does nothing stands where statements do

block_class : (c : Class) → is_block c ≡ false → stands c type.BlockStatement ≡ Some a_block_statement → stands c type.IfStatement ≡ Some an_if_statement
block_class statement none h = refl
block_class module_item none h = refl
block_class c none h = absurd cc

label_class : (c : Class) → stands c type.LabeledStatement ≡ Some a_labeled_statement → stands c type.IfStatement ≡ Some an_if_statement
label_class statement h = refl
label_class module_item h = refl
label_class c h = absurd cc

try_class : (c : Class) → stands c type.TryStatement ≡ Some a_try_statement → stands c type.IfStatement ≡ Some an_if_statement
try_class statement h = refl
try_class module_item h = refl
try_class c h = absurd cc

while_class : (c : Class) → stands c type.WhileStatement ≡ Some a_while_statement → stands c type.IfStatement ≡ Some an_if_statement
while_class statement h = refl
while_class module_item h = refl
while_class c h = absurd cc

for_class : (c : Class) → stands c type.ForStatement ≡ Some a_for_statement → stands c type.IfStatement ≡ Some an_if_statement
for_class statement h = refl
for_class module_item h = refl
for_class c h = absurd cc

idle_class : (c : Class) (r : TableRow) (vs : Values (fields_of r)) → may_be_idle (kind_in r vs) ≡ true → is_block c ≡ false → stands c (type_of r) ≡ Some (first_of r) → stands c type.IfStatement ≡ Some an_if_statement
idle_class c a_block_statement vs h none stood = block_class c none stood
idle_class c a_labeled_statement vs h none stood = label_class c stood
idle_class c an_if_statement vs h none stood = stood
idle_class c a_try_statement vs h none stood = try_class c stood
idle_class c a_while_statement vs h none stood = while_class c stood
idle_class c a_for_statement vs h none stood = for_class c stood
idle_class c a_program vs h none stood = no_kind h
idle_class c r vs h none stood = no_kind h

module _ (a : Around) (x : Tree) (m : Note) (idle : may_be_idle x.kind ≡ true) (here : IsBody a) where
  abbrev empty : Tree
  empty = record { kind = empty_statement; note = m; below = nothing }

  -- a statement of an expression, which stands where statements may become empty
  abbrev spoken : Tree
  spoken = record { kind = expression_statement; note = m; below = alone (literal value.Null) m nothing }

  takes : (c : Class) → is_block c ≡ false → IsOf x.kind x.below (λ p. Stand p x.below) c → stands c type.IfStatement ≡ Some an_if_statement
  takes c none of = idle_class c of.0 of.1 (sym (ap may_be_idle of.4) ∙ idle) none of.2

  told : is_told_by_class x.kind ≡ true
  told = idle_kinds (λ z. is_told_by_class z ≡ true) refl refl refl refl refl (λ label. refl) x.kind idle

  pub body_fits : Fits root (plug a (Some x)) → Fits root (plug a (Some empty))
  body_fits fits = body_takes x empty (λ c none of. as_if empty_statement nothing c (takes c none of) (an_empty_statement, tt, refl, tt, refl, tt)) told refl a here fits

  spoken_fits : Fits root (plug a (Some x)) → Fits root (plug a (Some spoken))
  spoken_fits fits = body_takes x spoken (λ c none of. as_if expression_statement spoken.below c (takes c none of) (an_expression_statement, tt, refl, tt, refl, (literal_expression value.Null, tt))) told refl a here fits

  no_label : (k : Kind) → has_body k ≡ true → labeled_below k ≡ false
  no_label (labeled_statement l) h = no_kind h
  no_label k h = refl

  -- and no more is sought there than of any statement
  no_catch : (s : Sought) (k : Kind) → has_body k ≡ true → is_catch (sought_inside s k) ≡ false
  no_catch s (program source) h = no_kind h
  no_catch s k h = below_no_catch s k

  module _ (unnamed : (s : Sought) → is_catch s ≡ false → (at : ℕ) → declared s at (forest_of x) ≡ []) where
    body_sheds_from : (begun : Bool) (b : Around) (z : shed.Around) → (begun ≡ true → (z.is_labeled ≡ false) × (is_catch z.sought ≡ false)) → stands_as_body begun b ≡ true → is_laid_out z.row (plug b (Some spoken)) ≡ true → Sheds z (plug b (Some x)) (plug b (Some empty))
    body_sheds_from begun (first rest) z free is laid =
        empties_idle idle (λ labeled. absurd (true≢false (sym labeled ∙ (free is).0))) (laid_right z.row expression_statement m spoken.below rest laid) (unnamed z.sought (free is).1) (itself z rest)
    body_sheds_from begun (behind k n d b) z free is laid =
        keeps (keeps_itself (row_below z.row k) d) (itself (entered z k d) d) (body_sheds_from begun b z free is (laid_behind z.row k n d (plug b (Some spoken)) laid))
    body_sheds_from begun (behind_none b) z free is laid = keeps_absent (body_sheds_from begun b z free is (laid_absent z.row (plug b (Some spoken)) laid))
    body_sheds_from begun (under k n b rest) z free is laid =
        keeps (keeps_all x empty (row_below z.row k) b)
        (body_sheds_from (has_body k) b (entered z k (plug b (Some x))) (λ h. (no_label k h, no_catch z.sought k h)) is (laid_below z.row k n (plug b (Some spoken)) rest laid)) (itself z rest)

    pub body_sheds : Fits root (plug a (Some x)) → Sheds outermost (plug a (Some x)) (plug a (Some empty))
    body_sheds fits = body_sheds_from false a outermost (λ e. (refl, refl)) here (fits_laid_out (plug a (Some spoken)) (spoken_fits fits))
