-- What a value owes that is never given, which becomes a zero.
use Rattle.std.proofs.Common.{◌≡◌, ◌∙◌, ◌≤◌, ℕ, List, [], ◌∷◌, inl, inr, Bool, true, false, ◌||◌, Some, pos, arith, refl, sym, ap, subst, true≢false}
use Rattle.std.proofs.lemmas.Bool.{or_cases}
use Rattle.js_syntax.specs.Class.{Class, root, a_prologue, expression, private_key, binding}
use Rattle.js_syntax.specs.declared.node_kind.NodeKind.{NodeKind as Kind}
use Rattle.js_syntax.specs.declared.node_kind.NodeKind.TheVariants.{VariableDeclarator as variable_declarator}
use Rattle.js_syntax.specs.declared.value.LiteralValue.TheVariants as value
use Rattle.js_syntax.specs.Facts.{weight, is_core}
use Rattle.js_syntax.specs.Hint.{has, is_private}
use Rattle.js_syntax.specs.Node.{Note, Forest, Tree, nothing, node, alone, forest_of}
use Rattle.js_syntax.specs.Table.{Row, a_variable_declarator, fields_of}
use Rattle.js_meaning.specs.Value.{Text}
use Rattle.js_meaning.specs.Scope.{Decl, names_of, bound_names, vars_of, var_names, specifier_decls, import_decls}
use Rattle.js_meaning_near.specs.Near.{hoists_nothing, module_of}
use Rattle.js_tree.specs.Count.{one_each, levels}
use Rattle.js_rebuilt.specs.Rebuilt.{Rebuilt, built, leaves, ends}
use Rattle.json_shape.specs.Shape.{Values, kind_in, Place, one, maybe_one, beyond, key_node, key_apart, list, list_with_holes, body, item_or_hole, item_of_body, places, Plan, these, first_place, behind as plan_behind, IsOf, IsAt, Stand, Fits}
use Rattle.form_rules.specs.Form.{IsWellFormed}
use Rattle.scope_laws.specs.Place.{Around, first, behind, behind_none, under, plug}
use Rattle.steps.specs.Steps.{all_core}
use Rattle.steps.specs.Allowed.Calls.{begins_with_call, counted, may_end, of_list, of_program}
use Rattle.steps.specs.Allowed.UnrunValue.{is_value_of, is_value, is_unrun, may_be_dropped, a_zero, UnrunValue, value_never_given}
use Rattle.steps.proofs.Fit.CoreCalm.{nameless_as_planned}
use Rattle.steps.proofs.Fit.Held.{core_here}
use Rattle.steps.proofs.Fit.Holding.{is_sound, planned_below}
use Rattle.steps.proofs.Fit.Modules.{fits_program}
use Rattle.steps.proofs.Fit.Passing.{plan_passes, first_passes, behind_passes}
use Rattle.steps.specs.KeepForm.Part.{is_asked_for, RebuildsTo, by_parts as replaced_by_parts}
use Rattle.steps.proofs.KeepForm.Rules.{first_empty}
use Rattle.steps.proofs.KeepTable.Planned.{place_ok, plan_ok, first_ok, behind_ok}
use Rattle.steps.proofs.KeepTable.Inside.{at_inside}
use Rattle.steps.specs.Naming.Placed.{Place as NamePlace, place_below}
use Rattle.steps.specs.Owed.Owed.{is_read_name, Becoming, by_changing}
use Rattle.steps.specs.Owed.TakesPlace.{is_told_by_class}
use Rattle.steps.proofs.Owed.BranchKinds.{no_statement}
use Rattle.steps.proofs.Owed.ByParts.{moves}
use Rattle.steps.proofs.Owed.ChoiceRuns.{core_there, module_placed}
use Rattle.steps.proofs.Owed.Expressions.{expression_declares_none, expression_stays_outside, expression_declares_nothing}
use Rattle.steps.proofs.Owed.FitsBecoming.{no_such_list, told_no_hole}
use Rattle.steps.proofs.Owed.KnownOperation.{literal_is_built, literal_expression}
use Rattle.steps.proofs.Owed.Made.{MadeBy, is_single, made_at}
use Rattle.steps.proofs.Owed.PartForm.{nothing_declared, replaced_sheds}
use Rattle.steps.proofs.Owed.PartRuns.{core_kept}
use Rattle.steps.proofs.Owed.RebuiltCounts.{rebuilt_kept}
use Rattle.steps.proofs.Owed.Undeclared.{no_variables, is_root, lead_to_imports, no_imports_inside}
use Rattle.steps.proofs.Owed.UnrunRuns.{DeclareNothing, unrun_is_local}

no_kind : {A : Type 0} → false ≡ true → A
no_kind e = absurd (true≢false (sym e))

-- ---- kinds

pub record Dropped (k : Kind) : Type 0 where
  pub weighs : 2 ≤ weight k
  pub unasked : is_asked_for k ≡ false
  pub told : is_told_by_class k ≡ true
  pub unread : is_read_name k ≡ false
  pub inner : is_root k ≡ false
  pub hoists : is_core k ≡ true → hoists_nothing k ≡ true
  pub leads : (p : NamePlace) (i : ℕ) → lead_to_imports (place_below p k i) ≡ false
  pub specifies : (source : Text) (a : Forest) (l : List Decl) → specifier_decls source k a l ≡ l
  pub counts : (b : Bool) → counted k b ≡ 0
  pub lists : (m : ℕ) → of_list k m ≡ 0
  pub begins : (m : ℕ) → of_program k m ≡ 0
  pub ends : may_end k ≡ true
  pub one : one_each k ≡ 1
  pub deep : (n : Note) (a : Forest) → 1 ≤ levels (alone k n a)

pub dropped : (k : Kind) → may_be_dropped k ≡ true → Dropped k
dropped Kind.ThisExpression h = record { weighs = Prim.omega arith; unasked = refl; told = refl; unread = refl; inner = refl; hoists = λ core. refl; leads = λ p i. refl; specifies = λ source a l. refl; counts = λ b. refl; lists = λ m. refl; begins = λ m. refl; ends = refl; one = refl; deep = λ n a. Prim.omega arith }
dropped Kind.ArrayExpression h = record { weighs = Prim.omega arith; unasked = refl; told = refl; unread = refl; inner = refl; hoists = λ core. refl; leads = λ p i. refl; specifies = λ source a l. refl; counts = λ b. refl; lists = λ m. refl; begins = λ m. refl; ends = refl; one = refl; deep = λ n a. Prim.omega arith }
dropped Kind.ObjectExpression h = record { weighs = Prim.omega arith; unasked = refl; told = refl; unread = refl; inner = refl; hoists = λ core. refl; leads = λ p i. refl; specifies = λ source a l. refl; counts = λ b. refl; lists = λ m. refl; begins = λ m. refl; ends = refl; one = refl; deep = λ n a. Prim.omega arith }
dropped Kind.SequenceExpression h = record { weighs = Prim.omega arith; unasked = refl; told = refl; unread = refl; inner = refl; hoists = λ core. refl; leads = λ p i. refl; specifies = λ source a l. refl; counts = λ b. refl; lists = λ m. refl; begins = λ m. refl; ends = refl; one = refl; deep = λ n a. Prim.omega arith }
dropped (Kind.UnaryExpression o) h = record { weighs = Prim.omega arith; unasked = refl; told = refl; unread = refl; inner = refl; hoists = λ core. refl; leads = λ p i. refl; specifies = λ source a l. refl; counts = λ b. refl; lists = λ m. refl; begins = λ m. refl; ends = refl; one = refl; deep = λ n a. Prim.omega arith }
dropped (Kind.UpdateExpression o prefix) h = record { weighs = Prim.omega arith; unasked = refl; told = refl; unread = refl; inner = refl; hoists = λ core. refl; leads = λ p i. refl; specifies = λ source a l. refl; counts = λ b. refl; lists = λ m. refl; begins = λ m. refl; ends = refl; one = refl; deep = λ n a. Prim.omega arith }
dropped (Kind.BinaryExpression o) h = record { weighs = Prim.omega arith; unasked = refl; told = refl; unread = refl; inner = refl; hoists = λ core. refl; leads = λ p i. refl; specifies = λ source a l. refl; counts = λ b. refl; lists = λ m. refl; begins = λ m. refl; ends = refl; one = refl; deep = λ n a. Prim.omega arith }
dropped (Kind.LogicalExpression o) h = record { weighs = Prim.omega arith; unasked = refl; told = refl; unread = refl; inner = refl; hoists = λ core. refl; leads = λ p i. refl; specifies = λ source a l. refl; counts = λ b. refl; lists = λ m. refl; begins = λ m. refl; ends = refl; one = refl; deep = λ n a. Prim.omega arith }
dropped (Kind.AssignmentExpression o) h = record { weighs = Prim.omega arith; unasked = refl; told = refl; unread = refl; inner = refl; hoists = λ core. refl; leads = λ p i. refl; specifies = λ source a l. refl; counts = λ b. refl; lists = λ m. refl; begins = λ m. refl; ends = refl; one = refl; deep = λ n a. Prim.omega arith }
dropped Kind.ConditionalExpression h = record { weighs = Prim.omega arith; unasked = refl; told = refl; unread = refl; inner = refl; hoists = λ core. refl; leads = λ p i. refl; specifies = λ source a l. refl; counts = λ b. refl; lists = λ m. refl; begins = λ m. refl; ends = refl; one = refl; deep = λ n a. Prim.omega arith }
dropped (Kind.CallExpression optional pure) h = record { weighs = Prim.omega arith; unasked = refl; told = refl; unread = refl; inner = refl; hoists = λ core. refl; leads = λ p i. refl; specifies = λ source a l. refl; counts = λ b. refl; lists = λ m. refl; begins = λ m. refl; ends = refl; one = refl; deep = λ n a. Prim.omega arith }
dropped (Kind.NewExpression pure) h = record { weighs = Prim.omega arith; unasked = refl; told = refl; unread = refl; inner = refl; hoists = λ core. refl; leads = λ p i. refl; specifies = λ source a l. refl; counts = λ b. refl; lists = λ m. refl; begins = λ m. refl; ends = refl; one = refl; deep = λ n a. Prim.omega arith }
dropped (Kind.MemberExpression key optional) h = record { weighs = Prim.omega arith; unasked = refl; told = refl; unread = refl; inner = refl; hoists = λ core. refl; leads = λ p i. refl; specifies = λ source a l. refl; counts = λ b. refl; lists = λ m. refl; begins = λ m. refl; ends = refl; one = refl; deep = λ n a. Prim.omega arith }
dropped Kind.TemplateLiteral h = record { weighs = Prim.omega arith; unasked = refl; told = refl; unread = refl; inner = refl; hoists = λ core. no_kind core; leads = λ p i. refl; specifies = λ source a l. refl; counts = λ b. refl; lists = λ m. refl; begins = λ m. refl; ends = refl; one = refl; deep = λ n a. Prim.omega arith }
dropped Kind.TaggedTemplateExpression h = record { weighs = Prim.omega arith; unasked = refl; told = refl; unread = refl; inner = refl; hoists = λ core. no_kind core; leads = λ p i. refl; specifies = λ source a l. refl; counts = λ b. refl; lists = λ m. refl; begins = λ m. refl; ends = refl; one = refl; deep = λ n a. Prim.omega arith }
dropped k h = no_kind h

-- ---- by the table of node types

abbrev is_declarator : Kind → Bool
is_declarator variable_declarator = true
is_declarator k = false

row_declarator : (r : Row) (vs : Values (fields_of r)) (private : Bool) (a : Forest) → variable_declarator ≡ kind_in r vs → Stand (these (places private (fields_of r) vs)) a → Stand (these (one binding ∷ maybe_one expression ∷ [])) a
row_declarator a_variable_declarator vs private a is st = st
row_declarator r vs private a is st = absurd (true≢false (ap is_declarator is))

row_again : (r : Row) (vs : Values (fields_of r)) (private : Bool) (a : Forest) → variable_declarator ≡ kind_in r vs → Stand (these (one binding ∷ maybe_one expression ∷ [])) a → Stand (these (places private (fields_of r) vs)) a
row_again a_variable_declarator vs private a is st = st
row_again r vs private a is st = absurd (true≢false (ap is_declarator is))

-- a declarator with another row below it
module _ (a b : Forest) (moved : Stand (these (one binding ∷ maybe_one expression ∷ [])) a → Stand (these (one binding ∷ maybe_one expression ∷ [])) b) where
  of_declarator : (c : Class) → IsOf variable_declarator a (λ p. Stand p a) c → IsOf variable_declarator b (λ p. Stand p b) c
  of_declarator c of = (of.0, of.1, of.2, of.3, of.4, row_again of.0 of.1 (has is_private b) b of.4 (moved (row_declarator of.0 of.1 (has is_private a) a of.4 of.5)))

  at_declarator : (p : Place) → place_ok p ≡ true → IsAt variable_declarator a (λ p. Stand p a) p → IsAt variable_declarator b (λ p. Stand p b) p
  at_declarator (one c) ok of = of_declarator c of
  at_declarator (maybe_one c) ok of = of_declarator c of
  at_declarator beyond ok at = absurd at
  at_declarator (key_node keys true) ok at = (at.0, of_declarator private_key at.1)
  at_declarator (key_node keys false) ok of = of_declarator expression of
  at_declarator (key_apart may) ok at = absurd at
  at_declarator (list kind c) ok at = absurd (no_such_list variable_declarator kind refl ok at.0)
  at_declarator (list_with_holes kind c) ok at = absurd (no_such_list variable_declarator kind refl ok at.0)
  at_declarator (body c) ok at = absurd (no_such_list variable_declarator _ refl refl at.0)
  at_declarator (item_or_hole c) ok (inl at) = absurd (told_no_hole variable_declarator refl at.0)
  at_declarator (item_or_hole c) ok (inr of) = inr (of_declarator c of)
  at_declarator (item_of_body c) ok (inl of) = inl (of_declarator a_prologue of)
  at_declarator (item_of_body c) ok (inr at) = inr (at.0, of_declarator c at.1)

no_private : (l : Kind) → is_told_by_class l ≡ true → is_private l ≡ false
no_private (Kind.PrivateName x) told = no_kind told
no_private l told = refl

module _ (x : Tree) (n : Note) (told : is_told_by_class x.kind ≡ true) where
  abbrev y : Tree
  y = a_zero n

  -- in the row of the declarator
  here_stands : (k : Kind) (a : Around) → is_value_of k a ≡ true → (p : Place) → place_ok p ≡ true → IsAt k (plug a (Some x)) (λ p. Stand p (plug a (Some x))) p → IsAt k (plug a (Some y)) (λ p. Stand p (plug a (Some y))) p
  here_stands variable_declarator (behind l m b (first r)) h p ok at =
      at_declarator (node l m b (node x.kind x.note x.below r)) (node l m b (node y.kind y.note y.below r)) (λ st. (st.0, (literal_expression (value.Number (pos 0)), st.1.1))) p ok at
  here_stands variable_declarator (first r) h p ok at = no_kind h
  here_stands variable_declarator (behind l m b (behind j i c a)) h p ok at = no_kind h
  here_stands variable_declarator (behind l m b (behind_none a)) h p ok at = no_kind h
  here_stands variable_declarator (behind l m b (under j i a r)) h p ok at = no_kind h
  here_stands variable_declarator (behind_none a) h p ok at = no_kind h
  here_stands variable_declarator (under j i a r) h p ok at = no_kind h
  here_stands k a h p ok at = no_kind h

  same_private : (a : Around) → has is_private (plug a (Some x)) ≡ has is_private (plug a (Some y))
  same_private (first rest) = ap (λ b. b || has is_private rest) (no_private x.kind told)
  same_private (behind k i below a) = ap (λ b. is_private k || b) (same_private a)
  same_private (behind_none a) = same_private a
  same_private (under k i a rest) = refl

  value_stands : (a : Around) (plan : Plan) → is_value a ≡ true → plan_ok plan ≡ true → Stand plan (plug a (Some x)) → Stand plan (plug a (Some y))
  value_stands (first rest) plan v ok h = no_kind v
  value_stands (behind k i below a) plan v ok h = (h.0, value_stands a (plan_behind plan k) v (behind_ok plan k ok) h.1)
  value_stands (behind_none a) plan v ok h = (h.0, value_stands a (plan_behind plan Kind.Hole) v (behind_ok plan Kind.Hole ok) h.1)
  value_stands (under k i a rest) plan v ok h =
      elim (or_cases (is_value_of k a) (is_value a) v) [
        | inl here ↦ (here_stands k a here (first_place plan) (first_ok plan ok) h.0, h.1)
        | inr further ↦ (at_inside k (plug a (Some x)) (plug a (Some y)) (λ none. same_private a) (λ p fine is_below. value_stands a p further fine) (first_place plan) (first_ok plan ok) h.0, h.1)
      ]

  -- it is an expression
  here_fits : (k : Kind) (a : Around) → is_value_of k a ≡ true → (is_single k ≡ true → MadeBy k (plug a (Some x))) → Fits expression (forest_of x)
  here_fits variable_declarator (behind l m b (first r)) h made =
      let it = made refl in
      let row = node l m b (node x.kind x.note x.below r) in
      ((row_declarator it.row it.values (has is_private row) row it.is it.stands).1.0, tt)
  here_fits variable_declarator (first r) h made = no_kind h
  here_fits variable_declarator (behind l m b (behind j i c a)) h made = no_kind h
  here_fits variable_declarator (behind l m b (behind_none a)) h made = no_kind h
  here_fits variable_declarator (behind l m b (under j i a r)) h made = no_kind h
  here_fits variable_declarator (behind_none a) h made = no_kind h
  here_fits variable_declarator (under j i a r) h made = no_kind h
  here_fits k a h made = no_kind h

  value_fits : (a : Around) (plan : Plan) → is_value a ≡ true → plan_passes is_sound plan ≡ true → Stand plan (plug a (Some x)) → Fits expression (forest_of x)
  value_fits (first rest) plan v h st = no_kind v
  value_fits (behind k i below a) plan v h st = value_fits a (plan_behind plan k) v (behind_passes is_sound plan k h) st.1
  value_fits (behind_none a) plan v h st = value_fits a (plan_behind plan Kind.Hole) v (behind_passes is_sound plan Kind.Hole h) st.1
  value_fits (under k i a rest) plan v h st =
      let planned = planned_below (plug a (Some x)) (first_place plan) k st.0 in
      elim (or_cases (is_value_of k a) (is_value a) v) [
        | inl here ↦ here_fits k a here (λ s. made_at (plug a (Some x)) k s (first_place plan) (first_passes is_sound plan refl h) st.0)
        | inr further ↦ value_fits a planned.0 further planned.1 planned.2
      ]

-- ---- all of it

module _ (a : Around) (n : Note) (x : Tree) (is_given : is_value a ≡ true) (unrun : is_unrun false a ≡ true) (drops : may_be_dropped x.kind ≡ true) where
  abbrev kind : Dropped x.kind
  kind = dropped x.kind drops

  abbrev zero : Tree
  zero = a_zero n

  pub old_fits : Fits root (plug a (Some x)) → Fits expression (forest_of x)
  old_fits fits = value_fits x n kind.told a (these (one root ∷ [])) is_given refl fits

  pub new_fits : Fits expression (forest_of zero)
  new_fits = (literal_expression (value.Number (pos 0)), tt)

  pub rebuilt : Rebuilt (forest_of x) (forest_of zero)
  rebuilt = leaves (built (literal_is_built (value.Number (pos 0)) refl) ends)

  rebuilds : Fits root (plug a (Some x)) → RebuildsTo x.kind x.note x.below zero.kind zero.note zero.below
  rebuilds fits = record {
    rebuilt = rebuilt;
    old_unasked = kind.unasked;
    unasked = refl;
    old_expression = no_statement x.kind x.below (old_fits fits).0;
    expression = refl;
    none = λ s p. nothing_declared s p (forest_of x) (expression_stays_outside s (forest_of x) (old_fits fits)) (expression_declares_none (forest_of x) (old_fits fits));
    still_none = λ s p. nothing_declared s p (forest_of zero) (expression_stays_outside s (forest_of zero) new_fits) (expression_declares_none (forest_of zero) new_fits);
    laid_out = refl;
  }

  alike : (p q : Note) (b : Forest) → plug a (Some x) ≡ module_of p q b → Fits root (module_of p q b) → IsWellFormed (module_of p q b) → all_core (module_of p q b) ≡ true → DeclareNothing x zero
  alike p q b is fits form core =
      let there = old_fits (subst (Fits root) (sym is) fits) in
      record {
        vars = first_empty (vars_of x.kind x.below (var_names x.below)) [] (no_variables (forest_of x) (expression_declares_none (forest_of x) there));
        imports = λ source. kind.specifies source x.below (import_decls source x.below) ∙ no_imports_inside p q b a x is (module_placed p q b fits form core) kind.inner kind.leads source;
        bound = first_empty (names_of x.kind (bound_names x.below)) [] (nameless_as_planned (forest_of x) (these (one expression ∷ [])) refl there (core_there a x (subst (λ t. all_core t ≡ true) (sym is) core)));
      }

  owes : Becoming a x zero
  owes = record {
    lighter = Prim.omega (arith, kind.weighs);
    no_call = record { counts = kind.counts (begins_with_call x.below); lists = kind.lists; begins = kind.begins; calls = inr is_given };
    ends = inl kind.ends;
    may_change = inr (inl unrun);
    fits = λ fits. value_stands x n kind.told a (these (one root ∷ [])) is_given refl fits;
    sheds = λ fits. replaced_sheds a x zero (replaced_by_parts (rebuilds fits)) (moves x.kind kind.told kind.unread (no_statement x.kind x.below (old_fits fits).0) kind.unasked) (λ e. refl) fits;
    kept = λ fits s kept. rebuilt_kept a x zero rebuilt (expression_declares_nothing (forest_of x) (old_fits fits)) kind.unasked (fits_program (plug a (Some x)) fits) s kept;
    runs = by_changing (λ p q b is fits form core.
        let old_core = subst (λ t. all_core t ≡ true) (sym is) core in
        let core_x = core_there a x old_core in (
          unrun_is_local x zero (kind.hoists (core_here x.kind x.note x.below nothing core_x)) kind.unread refl (alike p q b is fits form core) a unrun (subst (Fits root) (sym is) fits),
          core_kept x zero (λ h. refl) a old_core,
        ));
  }

pub unrun_value_owes : (a : Around) (x y : Tree) → UnrunValue a x y → Becoming a x y
unrun_value_owes a x _ (value_never_given n _ is_given unrun drops) = owes a n x is_given unrun drops
