-- What a declaration owes that becomes a statement of its value.
use Rattle.std.proofs.Common.{inl, inr, ◌≡◌, ℕ, suc, ◌+◌, List, [], ◌∷◌, Bool, true, false, not, ◌||◌, Some, arith, refl, ap, subst, true≢false}
use Rattle.std.proofs.lemmas.Bool.{and_from}
use Rattle.js_syntax.specs.Class.{Class, root, module_item, statement, for_init, for_left, declaration, declarator_item, expression}
use Rattle.js_syntax.specs.declared.kind.VariableKind.{VariableKind}
use Rattle.js_syntax.specs.declared.node_kind.NodeKind.{NodeKind as Kind}
use Rattle.js_syntax.specs.declared.node_kind.NodeKind.TheVariants.{Statements as statements, ExpressionStatement as expression_statement, VariableDeclaration as variable_declaration, Declarators as declarators, VariableDeclarator as variable_declarator, BindingName as binding_name}
use Rattle.js_syntax.specs.declared.node_type.NodeType.TheVariants as type
use Rattle.js_syntax.specs.Hint.{has, is_private}
use Rattle.js_syntax.specs.Node.{Note, Forest, Tree, nothing, node, alone, forest_of}
use Rattle.js_syntax.specs.Table.{Row as TableRow, an_expression_statement, an_if_statement, a_variable_declaration, a_variable_declarator, fields_of, type_of, stands}
use Rattle.form_rules.specs.declared.sought.Sought.TheVariants.{Bound as bound}
use Rattle.json_shape.specs.Shape.{Values, kind_in, first_of, one, list, places, these, Stand, Fits}
use Rattle.min_pass.specs.declared.around.Around.{Around as Asked}
use Rattle.min_pass.specs.declared.around.Row.{Row as AskedRow}
use Rattle.min_pass.specs.declared.around.Row.TheVariants as asked
use Rattle.min_pass.specs.declared.around.Row.TheVariants.{Items as items}
use Rattle.min_pass.specs.Around.{row_below as asked_row_below, is_with, entered as asked_entered, outermost as asked_of_program}
use Rattle.scope_rules.specs.Context.{Context, inside, outermost as outermost_context}
use Rattle.scope_rules.specs.Site.{opens_one, scope_count, sites}
use Rattle.scope_laws.specs.Place.{Around as Place, first, behind, behind_none, under, plug}
use Rattle.steps.specs.Allowed.Changing.{holds_items}
use Rattle.steps.specs.Allowed.EmptyIf.{statement_of}
use Rattle.steps.specs.Allowed.Exposure.{IsOwnDeclaration}
use Rattle.steps.specs.Allowed.Free.{Free}
use Rattle.steps.specs.Allowed.Places.{asked_at, IsItem, At}
use Rattle.steps.specs.Allowed.Silent.{HoldsThere}
use Rattle.steps.specs.Allowed.ValueStays.{declaration_of_value, ValueStays, value_is_stated}
use Rattle.steps.specs.KeepForm.Layout.{stands_right, is_laid_out}
use Rattle.steps.specs.KeepForm.Part.{declares_one}
use Rattle.steps.specs.KeepForm.Sheds.{Row, parts, row_below, asked_below, Around, entered, outermost, Sheds, keeps_absent, keeps, states}
use Rattle.steps.specs.Owed.Owed.{IsUnexported, by_step, Becoming}
use Rattle.steps.specs.Owed.Seeking.{Within, Seeks}
use Rattle.steps.proofs.Fit.Modules.{fits_program}
use Rattle.steps.proofs.KeepForm.Fitting.{fits_laid_out}
use Rattle.steps.proofs.KeepForm.Laid.{laid_absent, laid_right, laid_below, laid_behind}
use Rattle.steps.proofs.KeepForm.Rows.{itself, keeps_itself}
use Rattle.steps.proofs.Owed.AsSteps.{value_step}
use Rattle.steps.proofs.Owed.Expressions.{expression_declares_none, expression_stays_outside, expression_declares_nothing}
use Rattle.steps.proofs.Owed.FitsItem.{is_head, item_fits}
use Rattle.steps.proofs.Owed.FitsTaking.{as_if}
use Rattle.steps.proofs.Owed.Focus.{follows_there}
use Rattle.steps.proofs.Owed.Made.{MadeBy, single_made_there}
use Rattle.steps.proofs.Owed.PartForm.{nothing_declared, keeps_all}
use Rattle.steps.proofs.Owed.Seeking.{within_below, within_later, seeks_inside}
use Rattle.steps.proofs.Owed.Shedding.{Fit, fit_inside, all_within}
use Rattle.steps.proofs.Owed.Unexported.{declaration_out}
use Rattle.steps.proofs.Owed.ValueCounts.{stated_kept}

-- ---- by the table of node types

abbrev is_declaration : Kind → Bool
is_declaration (variable_declaration how) = true
is_declaration k = false

abbrev is_declarator : Kind → Bool
is_declarator variable_declarator = true
is_declarator k = false

declarators_stand : (how : VariableKind) (r : TableRow) (vs : Values (fields_of r)) (private : Bool) (a : Forest) → variable_declaration how ≡ kind_in r vs → Stand (these (places private (fields_of r) vs)) a → Stand (these (list declarators declarator_item ∷ [])) a
declarators_stand how a_variable_declaration vs private a is st = st
declarators_stand how r vs private a is st = absurd (true≢false (ap is_declaration is))

value_stands : (j i : Note) (x : List ℕ) (k : Kind) (b : Forest) (r : TableRow) (vs : Values (fields_of r)) (private : Bool) → variable_declarator ≡ kind_in r vs → Stand (these (places private (fields_of r) vs)) (node (binding_name x) j nothing (alone k i b))
    → Fits expression (alone k i b)
value_stands j i x k b a_variable_declarator vs private is st = (st.1.0, tt)
value_stands j i x k b r vs private is st = absurd (true≢false (ap is_declarator is))

stands_as : (how : VariableKind) (c : Class) (r : TableRow) (vs : Values (fields_of r)) → variable_declaration how ≡ kind_in r vs → stands c (type_of r) ≡ Some (first_of r) → stands c type.VariableDeclaration ≡ Some a_variable_declaration
stands_as how c a_variable_declaration vs is st = st
stands_as how c r vs is st = absurd (true≢false (ap is_declaration is))

-- a class that takes declarations takes statements, but in the head of a loop and behind `export`
takes_statements : (c : Class) → is_head c ≡ false → stands c type.VariableDeclaration ≡ Some a_variable_declaration → stands c type.IfStatement ≡ Some an_if_statement
takes_statements statement none st = refl
takes_statements module_item none st = refl
takes_statements for_init none st = absurd (true≢false none)
takes_statements for_left none st = absurd (true≢false none)
takes_statements declaration none st = absurd (true≢false none)
takes_statements c none st = absurd cc

-- ---- by the rules of form

unasked_inside : (row : AskedRow) (m : Row) (k : Kind) (a : Forest) → stands_right m k a ≡ true → asked_row_below row k ≡ items → asked_below m k ≡ false
unasked_inside row parts statements a right e = refl
unasked_inside row m statements a right e = absurd cc
unasked_inside items m (Kind.VariableDeclaration how) a right e = absurd cc
unasked_inside items m k a right e = absurd cc
unasked_inside asked.OfItem m Kind.Declarators a right e = absurd cc
unasked_inside asked.OfItem m k a right e = absurd cc
unasked_inside asked.Declarators m k a right e = absurd cc
unasked_inside asked.Other m k a right e = absurd cc

module _ (t : Forest) (how : VariableKind) (n m l j i o : Note) (x : List ℕ) (k : Kind) (b : Forest) where
  abbrev old : Tree
  old = declaration_of_value how n m l j i x k b

  abbrev new : Tree
  new = statement_of o i k b

  states_there : (a : Place) (z : Around) (w : Asked) (in_with : Bool) (cs : ℕ → Context) (at next : ℕ) → Fit w.row z.row → (w.row ≡ items → z.is_asked ≡ false) → ((q : ℕ) → Seeks t z.sought z.exported (cs q)) → Within t (sites cs at next (plug a (Some old)))
      → is_laid_out z.row (plug a (Some old)) ≡ true → (asked_at w a).row ≡ items → HoldsThere in_with cs at next a (Some old) (IsUnexported t old) → Sheds z (plug a (Some old)) (plug a (Some new))
  states_there (first rest) z w in_with cs at next fit unasked seeks within laid e h =
      states (subst (λ r. Fit r z.row) e fit) (unasked e) (h z (within_below t cs at next old.kind old.note old.below rest within) (laid_right z.row old.kind old.note old.below rest laid) (seeks at)) (itself z rest)
  states_there (behind g q c a) z w in_with cs at next fit unasked seeks within laid e h =
      keeps (keeps_itself (row_below z.row g) c) (itself (entered z g c) c)
      (states_there a z w in_with cs (suc at) (next + scope_count (node g q c nothing)) fit unasked seeks (within_later t cs at next g q c (plug a (Some old)) within) (laid_behind z.row g q c (plug a (Some old)) laid) e h)
  states_there (behind_none a) z w in_with cs at next fit unasked seeks within laid e h = keeps_absent (states_there a z w in_with cs (suc at) next fit unasked seeks within (laid_absent z.row (plug a (Some old)) laid) e h)
  states_there (under g q a rest) z w in_with cs at next fit unasked seeks within laid e h =
      let below = plug a (Some old) in
      let right = laid_right z.row g q below rest laid in
      let inner = laid_below z.row g q below rest laid in
      let stands = within_below t cs at next g q below rest within in
      keeps (keeps_all old new (row_below z.row g) a)
      (states_there a (entered z g below) (asked_entered w g) (in_with || is_with g) (inside (cs at) next g below) 0 (next + opens_one g below) (fit_inside w.row z.row g below right fit) (unasked_inside w.row z.row g below right)
      (λ y. seeks_inside t z.row z.sought z.exported (cs at) next g below y stands right inner (seeks at)) stands inner e h)
      (itself z rest)

-- ---- all that it owes

module _ (a : Place) (how : VariableKind) (n m l j i o : Note) (x : List ℕ) (k : Kind) (b : Forest) (item : IsItem a) (own : IsOwnDeclaration how a (Some (declaration_of_value how n m l j i x k b)))
    (free : At a (Some (declaration_of_value how n m l j i x k b)) (Free (plug a (Some (declaration_of_value how n m l j i x k b))) how x)) where
  abbrev x1 : Tree
  x1 = declaration_of_value how n m l j i x k b

  abbrev y1 : Tree
  y1 = statement_of o i k b

  abbrev value : Forest
  value = alone k i b

  value_of : MadeBy (variable_declaration how) (declares_one m l j x value) → Fits expression value
  value_of made =
      let list_of = declarators_stand how made.row made.values (has is_private (declares_one m l j x value)) (declares_one m l j x value) made.is made.stands in
      let declared = list_of.0.1.0 in
      value_stands j i x k b declared.0 declared.1 (has is_private (node (binding_name x) j nothing value)) declared.4 declared.5

  pub value_fits : Fits root (plug a (Some x1)) → Fits expression value
  value_fits fits = value_of (single_made_there a x1 (these (one root ∷ [])) refl refl fits)

  takes : (c : Class) → is_head c ≡ false → Fits c (forest_of x1) → Fits c (forest_of y1)
  takes c none fits =
      let of = fits.0 in
      let inner = value_of (record { row = of.0; values = of.1; chosen = of.3; is = of.4; stands = of.5 }) in
      (as_if expression_statement value c (takes_statements c none (stands_as how c of.0 of.1 of.4 of.2)) (an_expression_statement, tt, refl, tt, refl, (inner.0, tt)), tt)

  unexported : Fits root (plug a (Some x1)) → At a (Some x1) (IsUnexported (plug a (Some x1)) x1)
  unexported fits =
      let t = plug a (Some x1) in
      let inner = value_fits fits in
      follows_there (Free t how x) (IsUnexported t x1)
      (λ in_with c next h z within right seeks. declaration_out t z.exported c next x z.sought how n m l j value within (λ f p. nothing_declared (bound f) p value (expression_stays_outside (bound f) value inner) (expression_declares_none value inner)) h seeks)
      (Some x1) a false (λ at. outermost_context) 0 0 free

  owes : Becoming a x1 y1
  owes = record {
    lighter = Prim.omega arith;
    no_call = record { counts = refl; lists = λ q. refl; begins = λ q. refl; calls = inl refl };
    ends = inr refl;
    may_change = inl (and_from (holds_items (asked_at (asked_of_program true) a).row) _ (ap holds_items item) (ap not own));
    fits = item_fits x1 y1 takes refl refl a item;
    sheds = λ fits.
        let t = plug a (Some x1) in
        states_there t how n m l j i o x k b a outermost (asked_of_program true) false (λ at. outermost_context) 0 0 tt (λ e. absurd cc) (λ q. tt) (all_within t) (fits_laid_out t fits) item (unexported fits);
    kept = λ fits s it. stated_kept a how n m l j i o x k b (expression_declares_nothing value (value_fits fits)) (fits_program (plug a (Some x1)) fits) free s it;
    runs = by_step (λ w good. value_step a how n m l j i o x k b w good item free);
  }

pub value_stays_owes : (a : Place) (x y : Tree) → ValueStays a x y → Becoming a x y
value_stays_owes a _ _ (value_is_stated how n m l j i o x k b stated item in_with own free) = owes a how n m l j i o x k b item own free
