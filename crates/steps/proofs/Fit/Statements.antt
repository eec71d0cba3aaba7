-- Which nodes of a core tree statements stand below, and where names stand in none of its lists.
use Rattle.std.proofs.Common.{◌≡◌, ◌∙◌, inl, inr, [], ◌∷◌, Bool, true, false, not, ◌&&◌, ◌||◌, None, refl, sym, ap, true≢false}
use Rattle.js_syntax.specs.Class.{Class, a_prologue, expression, private_key, function_block, arrow_body, binding_element, declared_name, no_node}
use Rattle.js_syntax.specs.declared.node_kind.NodeKind.{NodeKind as Kind}
use Rattle.js_syntax.specs.declared.kind.FunctionKind.{FunctionKind}
use Rattle.js_syntax.specs.Hint.{has, is_private}
use Rattle.js_syntax.specs.Node.{Forest}
use Rattle.js_syntax.specs.Facts.{is_core}
use Rattle.js_syntax.specs.Table.{Row, a_program, a_block_statement, a_function_body, a_labeled_statement, an_if_statement, a_switch_statement, a_switch_case, a_try_statement, a_catch_clause, a_for_statement, a_function_declaration, a_default_function, a_function_expression, an_arrow_function, a_binding_name, fields_of}
use Rattle.js_meaning.specs.Scope as scope
use Rattle.js_meaning_near.specs.Near.{is_passage}
use Rattle.steps.specs.KeepRuns.Formed.{is_function}
use Rattle.json_shape.specs.Shape.{Values, kind_in, first_of, Place, one, maybe_one, beyond, key_node, key_apart, list, list_with_holes, body, item_or_hole, item_of_body, places, Plan, these, all, all_or_holes, all_of_body, first_place, IsOf, IsAt, Stand}
use Rattle.steps.proofs.Fit.CoreRows.{takes_such, taken, core_row, if_so, core_right}
use Rattle.json_shape.proofs.Choice.{is_list_kind}
use Rattle.steps.specs.Fit.Hoisted.{holds_variables}
use Rattle.steps.proofs.Fit.Calm.{is_calm_class}
use Rattle.steps.proofs.Fit.Held.{no_hole}
use Rattle.steps.proofs.Fit.Holding.{is_sound}
use Rattle.steps.proofs.Fit.Passing.{fields_pass, plan_passes, places_pass}
use Rattle.js_syntax.proofs.Truth.{first_of_both, second_of_both, both, not_true}

-- ---- places where no node of some kinds stands

pub record Lacking (bad : Kind → Bool) (good : Row → Bool) : Type 0 where
  pub kinds : (r : Row) (vs : Values (fields_of r)) → (not (good r) || not (bad (kind_in r vs))) ≡ true
  pub also : (r : Row) → (not (good (first_of r)) || good r) ≡ true

module _ (bad : Kind → Bool) (good : Row → Bool) where
  abbrev pub place_lacks : Place → Bool
  place_lacks (one c) = takes_such good c
  place_lacks (maybe_one c) = takes_such good c
  place_lacks beyond = true
  place_lacks (key_node keys private) = takes_such good private_key && takes_such good expression
  place_lacks (key_apart may) = true
  place_lacks (list kind c) = not (bad kind)
  place_lacks (list_with_holes kind c) = not (bad kind)
  place_lacks (body c) = not (bad Kind.Statements)
  place_lacks (item_or_hole c) = takes_such good c
  place_lacks (item_of_body c) = takes_such good c && takes_such good a_prologue

  module _ (lacking : Lacking bad good) (a : Forest) (k : Kind) where
    lacks_of : (c : Class) → takes_such good c ≡ true → IsOf k a (λ p. Stand p a) c → bad k ≡ false
    lacks_of c h of =
        let row = if_so (good (first_of of.0)) (good of.0) (lacking.also of.0) (taken good c of.0 h of.2) in
        ap bad of.4 ∙ not_true (bad (kind_in of.0 of.1)) (if_so (good of.0) (not (bad (kind_in of.0 of.1))) (lacking.kinds of.0 of.1) row)

    lacks_kind : (kind : Kind) → k ≡ kind → not (bad kind) ≡ true → bad k ≡ false
    lacks_kind kind is h = ap bad is ∙ not_true (bad kind) h

    pub lacks_at : (p : Place) → is_core k ≡ true → place_lacks p ≡ true → IsAt k a (λ p. Stand p a) p → bad k ≡ false
    lacks_at (one c) core h of = lacks_of c h of
    lacks_at (maybe_one c) core h of = lacks_of c h of
    lacks_at beyond core h at = absurd at
    lacks_at (key_apart may) core h at = absurd at
    lacks_at (key_node keys true) core h at = lacks_of private_key (first_of_both (takes_such good private_key) (takes_such good expression) h) at.1
    lacks_at (key_node keys false) core h at = lacks_of expression (second_of_both (takes_such good private_key) (takes_such good expression) h) at
    lacks_at (list kind c) core h at = lacks_kind kind at.0 h
    lacks_at (list_with_holes kind c) core h at = lacks_kind kind at.0 h
    lacks_at (body c) core h at = lacks_kind Kind.Statements at.0 h
    lacks_at (item_or_hole c) core h (inl at) = absurd (no_hole k at.0 core)
    lacks_at (item_or_hole c) core h (inr of) = lacks_of c h of
    lacks_at (item_of_body c) core h (inl of) = lacks_of a_prologue (second_of_both (takes_such good c) (takes_such good a_prologue) h) of
    lacks_at (item_of_body c) core h (inr at) = lacks_of c (first_of_both (takes_such good c) (takes_such good a_prologue) h) at.1

-- ---- of passages, of names, and of passages but bodies of functions

abbrev pub no_passage : Row → Bool
no_passage a_block_statement = false
no_passage a_function_body = false
no_passage a_labeled_statement = false
no_passage an_if_statement = false
no_passage a_switch_statement = false
no_passage a_switch_case = false
no_passage a_try_statement = false
no_passage a_catch_clause = false
no_passage r = true

passage_kinds : (r : Row) (vs : Values (fields_of r)) → (not (no_passage r) || not (is_passage (kind_in r vs))) ≡ true
passage_kinds a_program vs = refl
passage_kinds r vs = refl

passage_also : (r : Row) → (not (no_passage (first_of r)) || no_passage r) ≡ true
passage_also a_program = refl
passage_also r = refl

pub lacks_passages : Lacking is_passage no_passage
lacks_passages = record { kinds = passage_kinds; also = passage_also }

abbrev pub is_name : Kind → Bool
is_name (Kind.BindingName x) = true
is_name k = false

abbrev pub no_name : Row → Bool
no_name a_binding_name = false
no_name r = true

name_kinds : (r : Row) (vs : Values (fields_of r)) → (not (no_name r) || not (is_name (kind_in r vs))) ≡ true
name_kinds a_program vs = refl
name_kinds r vs = refl

name_also : (r : Row) → (not (no_name (first_of r)) || no_name r) ≡ true
name_also a_program = refl
name_also r = refl

pub lacks_names : Lacking is_name no_name
lacks_names = record { kinds = name_kinds; also = name_also }

abbrev pub is_body : Kind → Bool
is_body Kind.FunctionBody = true
is_body k = false

abbrev pub is_other_passage : Kind → Bool
is_other_passage k = is_passage k && not (is_body k)

abbrev pub no_other_passage : Row → Bool
no_other_passage a_function_body = true
no_other_passage r = no_passage r

other_kinds : (r : Row) (vs : Values (fields_of r)) → (not (no_other_passage r) || not (is_other_passage (kind_in r vs))) ≡ true
other_kinds a_program vs = refl
other_kinds r vs = refl

other_also : (r : Row) → (not (no_other_passage (first_of r)) || no_other_passage r) ≡ true
other_also a_program = refl
other_also r = refl

lacks_others : Lacking is_other_passage no_other_passage
lacks_others = record { kinds = other_kinds; also = other_also }

pub name_of_none : (k : Kind) → is_name k ≡ false → scope.declared_name k ≡ None
name_of_none (Kind.BindingName x) h = absurd (true≢false h)
name_of_none k h = refl

-- ---- below which nodes statements stand

abbrev pub leads : Kind → Bool
leads (Kind.Program source) = true
leads (Kind.Function f pure) = true
leads Kind.WhileStatement = true
leads Kind.DoWhileStatement = true
leads Kind.ForStatement = true
leads k = is_passage k

abbrev pub is_statements : Kind → Bool
is_statements Kind.Statements = true
is_statements k = false

-- where a list stands below which no statements do, no passage is an item of it; and no name is one of statements
abbrev pub order : Place → Bool
order (list kind c) = (leads kind || takes_such no_passage c) && (not (is_statements kind) || takes_such no_name c)
order (list_with_holes kind c) = (leads kind || takes_such no_passage c) && (not (is_statements kind) || takes_such no_name c)
order (body c) = takes_such no_name c && takes_such no_name a_prologue
order p = true

abbrev pub is_ordered : Place → Bool
is_ordered p = is_sound p && order p

rows_ordered : (r : Row) → fields_pass is_ordered (fields_of r) ≡ true
rows_ordered a_program = refl
rows_ordered r = refl

abbrev pub dry : Place → Bool
dry p = place_lacks is_passage no_passage p

abbrev pub nameless : Place → Bool
nameless p = place_lacks is_name no_name p

rows_dry : (r : Row) (vs : Values (fields_of r)) → (not (core_row r) || (leads (kind_in r vs) || fields_pass dry (fields_of r))) ≡ true
rows_dry a_program vs = refl
rows_dry r vs = refl

abbrev pub is_for : Kind → Bool
is_for Kind.ForStatement = true
is_for k = false

heads_dry : (r : Row) (vs : Values (fields_of r)) (private : Bool) → is_for (kind_in r vs) ≡ true → dry (first_place (these (places private (fields_of r) vs))) ≡ true
heads_dry a_for_statement vs private e = refl
heads_dry r vs private e = absurd (true≢false (sym e))

-- ---- what stands below a node

pub record Planned (k : Kind) (a : Forest) : Type 0 where
  pub plan : Plan
  pub ordered : plan_passes is_ordered plan ≡ true
  pub stand : Stand plan a
  pub lacks : leads k ≡ false → plan_passes dry plan ≡ true
  pub items : is_statements k ≡ true → plan_passes nameless plan ≡ true
  pub head : is_for k ≡ true → dry (first_place plan) ≡ true

list_no_for : (k : Kind) → is_list_kind k ≡ true → is_for k ≡ false
list_no_for Kind.ForStatement h = absurd (true≢false (sym h))
list_no_for k h = refl

or_right : (b c : Bool) → (b || c) ≡ true → b ≡ false → c ≡ true
or_right true c h e = absurd (true≢false e)
or_right false c h e = h

no_statements : (r : Row) (vs : Values (fields_of r)) → is_statements (kind_in r vs) ≡ false
no_statements a_program vs = refl
no_statements r vs = refl

module _ (k : Kind) (a : Forest) (core : is_core k ≡ true) where
  planned_of : (c : Class) → IsOf k a (λ p. Stand p a) c → Planned k a
  planned_of c of =
      let kind = kind_in of.0 of.1 in
      let private = has is_private a in
      let row = core_right of.0 of.1 (ap is_core (sym of.4) ∙ core) in
      record {
        plan = these (places private (fields_of of.0) of.1);
        ordered = places_pass is_ordered private (fields_of of.0) of.1 (rows_ordered of.0);
        stand = of.5;
        lacks = λ e. places_pass dry private (fields_of of.0) of.1 (or_right (leads kind) (fields_pass dry (fields_of of.0)) (if_so (core_row of.0) (leads kind || fields_pass dry (fields_of of.0)) (rows_dry of.0 of.1) row) (ap leads (sym of.4) ∙ e));
        items = λ e. absurd (true≢false (sym e ∙ ap is_statements of.4 ∙ no_statements of.0 of.1));
        head = λ e. heads_dry of.0 of.1 private (ap is_for (sym of.4) ∙ e);
      }

  no_for : (kind : Kind) → k ≡ kind → is_for kind ≡ false → is_for k ≡ true → (p : Place) → dry p ≡ true
  no_for kind is n e p = absurd (true≢false (sym e ∙ ap is_for is ∙ n))

  planned_list : (kind : Kind) (c : Class) (plan : Plan) → k ≡ kind → is_for kind ≡ false → ((leads kind || takes_such no_passage c) && (not (is_statements kind) || takes_such no_name c)) ≡ true
      → plan_passes is_ordered plan ≡ true → (takes_such no_passage c ≡ true → plan_passes dry plan ≡ true) → (takes_such no_name c ≡ true → plan_passes nameless plan ≡ true) → Stand plan a → Planned k a
  planned_list kind c plan is n h o to_dry to_nameless st = record {
    plan = plan;
    ordered = o;
    stand = st;
    lacks = λ e. to_dry (or_right (leads kind) (takes_such no_passage c) (first_of_both (leads kind || takes_such no_passage c) (not (is_statements kind) || takes_such no_name c) h) (ap leads (sym is) ∙ e));
    items = λ e. to_nameless (if_so (is_statements kind) (takes_such no_name c) (second_of_both (leads kind || takes_such no_passage c) (not (is_statements kind) || takes_such no_name c) h) (ap is_statements (sym is) ∙ e));
    head = λ e. no_for kind is n e (first_place plan);
  }

  -- a list that the table has
  list_here : (kind : Kind) (c : Class) (plan : Plan) → k ≡ kind → (is_list_kind kind && (holds_variables kind || is_calm_class c)) ≡ true → order (list kind c) ≡ true
      → plan_passes is_ordered plan ≡ true → (takes_such no_passage c ≡ true → plan_passes dry plan ≡ true) → (takes_such no_name c ≡ true → plan_passes nameless plan ≡ true) → Stand plan a → Planned k a
  list_here kind c plan is sound h o to_dry to_nameless st =
      planned_list kind c plan is (list_no_for kind (first_of_both (is_list_kind kind) (holds_variables kind || is_calm_class c) sound)) h o to_dry to_nameless st

  planned_body : (c : Class) → k ≡ Kind.Statements → (takes_such no_name c && takes_such no_name a_prologue) ≡ true → Stand (all_of_body c) a → Planned k a
  planned_body c is h st = record {
    plan = all_of_body c;
    ordered = refl;
    stand = st;
    lacks = λ e. absurd (true≢false (ap leads (sym is) ∙ e));
    items = λ e. both (takes_such no_name c && takes_such no_name a_prologue) (takes_such no_name c) h (first_of_both (takes_such no_name c) (takes_such no_name a_prologue) h);
    head = λ e. no_for Kind.Statements is refl e (first_place (all_of_body c));
  }

  pub planned_at : (p : Place) → is_ordered p ≡ true → IsAt k a (λ p. Stand p a) p → Planned k a
  planned_at (one c) h of = planned_of c of
  planned_at (maybe_one c) h of = planned_of c of
  planned_at beyond h at = absurd at
  planned_at (key_apart may) h at = absurd at
  planned_at (key_node keys true) h at = planned_of private_key at.1
  planned_at (key_node keys false) h at = planned_of expression at
  planned_at (list kind c) h at = list_here kind c (all c) at.0 (first_of_both (is_sound (list kind c)) (order (list kind c)) h) (second_of_both (is_sound (list kind c)) (order (list kind c)) h) refl (λ e. e) (λ e. e) at.1
  planned_at (list_with_holes kind c) h at =
      list_here kind c (all_or_holes c) at.0 (first_of_both (is_sound (list kind c)) (order (list kind c)) h) (second_of_both (is_sound (list kind c)) (order (list kind c)) h) refl (λ e. e) (λ e. e) at.1
  planned_at (body c) h at = planned_body c at.0 h at.1
  planned_at (item_or_hole c) h (inl at) = absurd (no_hole k at.0 core)
  planned_at (item_or_hole c) h (inr of) = planned_of c of
  planned_at (item_of_body c) h (inl of) = planned_of a_prologue of
  planned_at (item_of_body c) h (inr at) = planned_of c at.1

-- ---- below a function

pub record CodeStands (a : Forest) : Type 0 where
  pub name : Place
  pub inner : Class
  pub stand : Stand (these (name ∷ list Kind.Parameters binding_element ∷ one inner ∷ [])) a
  pub only : takes_such no_other_passage inner ≡ true

code_of_row : (r : Row) (vs : Values (fields_of r)) (private : Bool) (a : Forest) → is_function (kind_in r vs) ≡ true → Stand (these (places private (fields_of r) vs)) a → CodeStands a
code_of_row a_function_declaration vs private a e st = record { name = one declared_name; inner = function_block; stand = st; only = refl }
code_of_row a_default_function vs private a e st = record { name = maybe_one declared_name; inner = function_block; stand = st; only = refl }
code_of_row a_function_expression vs private a e st = record { name = maybe_one declared_name; inner = function_block; stand = st; only = refl }
code_of_row an_arrow_function vs private a e st = record { name = maybe_one no_node; inner = arrow_body; stand = st; only = refl }
code_of_row r vs private a e st = absurd (true≢false (sym e))

module _ (f : FunctionKind) (pure : Bool) (a : Forest) where
  code_of_class : (c : Class) → IsOf (Kind.Function f pure) a (λ p. Stand p a) c → CodeStands a
  code_of_class c of = code_of_row of.0 of.1 (has is_private a) a (ap is_function (sym of.4)) of.5

  not_listed : (kind : Kind) → Kind.Function f pure ≡ kind → is_list_kind kind ≡ true → ⊥
  not_listed kind is h = true≢false (sym h ∙ ap is_list_kind (sym is))

  pub code_stands : (p : Place) → is_ordered p ≡ true → IsAt (Kind.Function f pure) a (λ p. Stand p a) p → CodeStands a
  code_stands (one c) h of = code_of_class c of
  code_stands (maybe_one c) h of = code_of_class c of
  code_stands beyond h at = absurd at
  code_stands (key_apart may) h at = absurd at
  code_stands (key_node keys true) h at = code_of_class private_key at.1
  code_stands (key_node keys false) h at = code_of_class expression at
  code_stands (list kind c) h at = absurd (not_listed kind at.0 (first_of_both (is_list_kind kind) (holds_variables kind || is_calm_class c) (first_of_both (is_sound (list kind c)) (order (list kind c)) h)))
  code_stands (list_with_holes kind c) h at = absurd (not_listed kind at.0 (first_of_both (is_list_kind kind) (holds_variables kind || is_calm_class c) (first_of_both (is_sound (list kind c)) (order (list kind c)) h)))
  code_stands (body c) h at = absurd cc
  code_stands (item_or_hole c) h (inl at) = absurd cc
  code_stands (item_or_hole c) h (inr of) = code_of_class c of
  code_stands (item_of_body c) h (inl of) = code_of_class a_prologue of
  code_stands (item_of_body c) h (inr at) = code_of_class c at.1

-- a passage there is the body
a_body : (k : Kind) → is_passage k ≡ true → is_other_passage k ≡ false → k ≡ Kind.FunctionBody
a_body Kind.FunctionBody h e = refl
a_body Kind.Statements h e = absurd (true≢false e)
a_body Kind.BlockStatement h e = absurd (true≢false e)
a_body Kind.IfStatement h e = absurd (true≢false e)
a_body (Kind.LabeledStatement l) h e = absurd (true≢false e)
a_body Kind.SwitchStatement h e = absurd (true≢false e)
a_body Kind.Cases h e = absurd (true≢false e)
a_body Kind.SwitchCase h e = absurd (true≢false e)
a_body Kind.TryStatement h e = absurd (true≢false e)
a_body Kind.CatchClause h e = absurd (true≢false e)
a_body k h e = absurd (true≢false (sym h))

pub body_stands : (c : Class) (k : Kind) (a : Forest) → takes_such no_other_passage c ≡ true → is_core k ≡ true → is_passage k ≡ true → IsAt k a (λ p. Stand p a) (one c) → k ≡ Kind.FunctionBody
body_stands c k a h core passage at = a_body k passage (lacks_at is_other_passage no_other_passage lacks_others a k (one c) core h at)
