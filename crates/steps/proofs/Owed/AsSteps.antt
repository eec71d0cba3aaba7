-- What edits of declarations and silent statements do to a core module are steps.
use Rattle.std.proofs.Common.{◌≡◌, ◌+◌, Bool, true, false, ◌&&◌, List, [], ◌∷◌, ◌++◌, Some, bytes_eq, refl, subst}
use Rattle.std.proofs.lemmas.Bool.{and_parts, or_left, false_from_ne_true}
use Rattle.std.proofs.lemmas.Slice.Eq.{bytes_eq-Decides}
use Rattle.js_syntax.specs.declared.node_kind.NodeKind.{NodeKind as Kind}
use Rattle.js_syntax.specs.Node.{Forest, Tree, nothing, node, Note, alone}
use Rattle.js_syntax.specs.declared.kind.VariableKind.{VariableKind}
use Rattle.js_syntax.specs.declared.kind.VariableKind.TheVariants as variable
use Rattle.js_syntax.specs.declared.kind.FunctionKind.TheVariants as function_kind
use Rattle.js_meaning.specs.Value.{Text}
use Rattle.js_meaning.specs.Scope.{waiting, all_so, bound_names, var_names, lexical}
use Rattle.js_meaning.specs.Module.{names_in}
use Rattle.steps.specs.Names.{is_among}
use Rattle.steps.specs.Steps as steps
use Rattle.steps.specs.Steps.{Row, items, declarators, Around, is_used, Initialiser, Step}
use Rattle.steps.specs.Fit.Clear.{Apart}
use Rattle.steps.specs.Allowed.Arranged.{is_leaf, is_field, is_declarator, are_declarators}
use Rattle.steps.specs.Allowed.Places.{a_node, in_class_at, At, IsItem, IsDeclarator, has_other}
use Rattle.steps.specs.Allowed.Silent.{inside_of}
use Rattle.steps.specs.Allowed.Free.{IsFree, Free, FreeDeclarator}
use Rattle.steps.specs.Allowed.SilentStatement.{a_statement, SilentStatement}
use Rattle.steps.specs.Allowed.UnusedFunction.{a_function}
use Rattle.steps.specs.Allowed.UnusedDeclarator.{a_declarator, SilentDeclarator}
use Rattle.steps.specs.Allowed.UnusedDeclaration.{one_declarator, a_declaration, SilentDeclaration}
use Rattle.steps.specs.Allowed.EmptyIf.{statement_of}
use Rattle.scope_rules.specs.Context.{inside, in_variables, outermost as outermost_context}
use Rattle.scope_rules.specs.Site.{opens_one, scope_count}
use Rattle.scope_rules.specs.Binding.{named_in}
use Rattle.scope_laws.specs.Place.{Around as Place, plug}
use Rattle.scope_laws.specs.Lists.{without}
use Rattle.steps.specs.Naming.Placed.{is_well_placed}
use Rattle.steps.specs.Naming.Standing.{is_crossed}
use Rattle.steps.proofs.Naming.Lists.{in_left, declared_left, declared_so}
use Rattle.steps.proofs.Naming.Standing.{declarations_of}
use Rattle.steps.proofs.Naming.Unused.{RowDeclares, holds, function_unused, declaration_unused, declarator_unused}
use Rattle.steps.proofs.Owed.KnownNames.{variables_known}
use Rattle.steps.proofs.Owed.Separate.{ListApart, CrossApart, RowApart}
use Rattle.steps.specs.Owed.Good.{Good}
use Rattle.steps.proofs.Owed.Here.{plain_value_here, plain_statement_here, arranged_here, good_below}
use Rattle.steps.proofs.Owed.Focus.{focused, both_there, always}
use Rattle.steps.proofs.Owed.SilentActs.{silent_row, no_names, initialiser}

-- ---- names that are not crossed

first_among : (x : Text) (xs : List Text) → is_among (x ∷ xs) x ≡ true
first_among x xs = or_left (bytes_eq x x) (is_among xs x) ((bytes_eq-Decides x x).1 refl)

pub of_list : (row : Row) (w : Around) (f : Forest) → row ≡ items → RowApart row w f → ListApart w f
of_list row w f e h = subst (λ r. RowApart r w f) e h

function_seen : (w : Around) (pure : Bool) (x : Text) (n m : Note) (rest r : Forest) → w.row ≡ items → RowApart w.row w (node (Kind.Function function_kind.Declaration pure) n (node (Kind.BindingName x) m nothing rest) r) → is_crossed w variable.Let x ≡ false
function_seen w pure x n m rest r e h = false_from_ne_true (is_among w.passing x)
    (of_list w.row w (node (Kind.Function function_kind.Declaration pure) n (node (Kind.BindingName x) m nothing rest) r) e h x (first_among x (names_in (lexical r))))

crossed_not : (w : Around) (how : VariableKind) (x : Text) (xs : List Text) → is_among xs x ≡ true → CrossApart w how xs → is_crossed w how x ≡ false
crossed_not w variable.Var x xs e h = false_from_ne_true (is_among w.inner x) (h x e)
crossed_not w variable.Let x xs e h = false_from_ne_true (is_among w.passing x) (h x e)
crossed_not w variable.Const x xs e h = false_from_ne_true (is_among w.passing x) (h x e)

declaration_seen : (w : Around) (how : VariableKind) (x : Text) (n : Note) (a r : Forest) → is_among (bound_names a) x ≡ true → Apart (var_names (node (Kind.VariableDeclaration how) n a r)) w.inner → ListApart w (node (Kind.VariableDeclaration how) n a r) → is_crossed w how x ≡ false
declaration_seen w variable.Var x n a r e vars lists = false_from_ne_true (is_among w.inner x) (vars x (in_left (bound_names a ++ var_names a) (var_names r) x (in_left (bound_names a) (var_names a) x e)))
declaration_seen w variable.Let x n a r e vars lists = false_from_ne_true (is_among w.passing x) (lists x (declared_left (all_so (waiting false) (bound_names a)) (lexical r) x (declared_so (waiting false) (bound_names a) x e)))
declaration_seen w variable.Const x n a r e vars lists = false_from_ne_true (is_among w.passing x) (lists x (declared_left (all_so (waiting true) (bound_names a)) (lexical r) x (declared_so (waiting true) (bound_names a) x e)))

-- a declarator's value is a field
field_behind : (k : Kind) (value : Forest) → (is_leaf k nothing && is_field value) ≡ true → is_field value ≡ true
field_behind k value e = (and_parts (is_leaf k nothing) (is_field value) e).1

-- ---- each edit

-- the tree before, the one place that changes, and what the tree is
module _ (a : Place) where
  -- an empty statement leaves
  pub empty_step : (n : Note) → is_well_placed (plug a (a_node Kind.EmptyStatement n nothing)) ≡ true → Good (plug a (a_node Kind.EmptyStatement n nothing)) → IsItem a → Step steps.outermost (plug a (a_node Kind.EmptyStatement n nothing)) (without a)
  empty_step n w good item =
      let x : Tree = record { kind = Kind.EmptyStatement; note = n; below = nothing } in
      let f = focused x (λ b c i. Unit {0}) a refl w good (always (Some x) a false (λ i. outermost_context) 0 0) in
      f.leaves (steps.empty_statement (f.item item))

  -- a statement becomes empty
  pub statement_step : (n m l : Note) (k : Kind) (inner : Forest) → is_well_placed (plug a (a_statement n l k inner)) ≡ true → Good (plug a (a_statement n l k inner))
      → At a (a_statement n l k inner) (SilentStatement (plug a (a_statement n l k inner)) (alone k l inner) (in_class_at a)) → Step steps.outermost (plug a (a_statement n l k inner)) (plug a (a_node Kind.EmptyStatement m nothing))
  statement_step n m l k inner w good silent =
      let expression = alone k l inner in
      let x : Tree = record { kind = Kind.ExpressionStatement; note = n; below = expression } in
      let t = plug a (Some x) in
      let f = focused x (SilentStatement t expression (in_class_at a)) a refl w good silent in
      f.keeps (record { kind = Kind.EmptyStatement; note = m; below = nothing }) (steps.empties (record {
        silent = silent_row (declarations_of t) f.around.names f.here.this (inside_of (in_class_at a) f.in_with) (inside (f.contexts f.at) f.next Kind.ExpressionStatement expression) 0 (f.next + opens_one Kind.ExpressionStatement expression) expression (λ i. f.here.known.0) f.there;
        declares = no_names (bound_names expression) (plain_statement_here Kind.ExpressionStatement n expression f.rest f.here.good);
      }))

  -- a function declaration leaves
  pub function_step : (pure : Bool) (n m : Note) (x : Text) (rest : Forest) → is_well_placed (plug a (a_function pure n m x rest)) ≡ true → Good (plug a (a_function pure n m x rest)) → IsItem a
      → At a (a_function pure n m x rest) (Free (plug a (a_function pure n m x rest)) variable.Let x) → Step steps.outermost (plug a (a_function pure n m x rest)) (without a)
  function_step pure n m x rest w good item free =
      let y : Tree = record { kind = Kind.Function function_kind.Declaration pure; note = n; below = node (Kind.BindingName x) m nothing rest } in
      let t = plug a (Some y) in
      let f = focused y (Free t variable.Let x) a refl w good free in
      f.leaves (steps.unused_function (f.item item)
      (function_unused t f.around f.contexts f.at f.next pure x n m nothing rest f.rest w f.here.stands (record {
        nothing_refers = f.there.unreferred;
        is_not_exported = f.there.unexported;
        is_seen = function_seen f.around pure x n m rest f.rest (f.item item) f.here.apart;
      })))

  -- a declarator leaves the others
  pub declarator_step : (n m : Note) (x : Text) (value : Forest) → is_well_placed (plug a (a_declarator n m x value)) ≡ true → Good (plug a (a_declarator n m x value)) → IsDeclarator a → has_other false a ≡ true
      → At a (a_declarator n m x value) (SilentDeclarator (plug a (a_declarator n m x value)) (node (Kind.BindingName x) m nothing value) (in_class_at a)) → At a (a_declarator n m x value) (FreeDeclarator (plug a (a_declarator n m x value)) x)
      → Step steps.outermost (plug a (a_declarator n m x value)) (without a)
  declarator_step n m x value w good item others silent free =
      let inner = node (Kind.BindingName x) m nothing value in
      let y : Tree = record { kind = Kind.VariableDeclarator; note = n; below = inner } in
      let t = plug a (Some y) in
      let f = focused y (λ b c i. SilentDeclarator t inner (in_class_at a) b c i × FreeDeclarator t x b c i) a refl w good (both_there (SilentDeclarator t inner (in_class_at a)) (FreeDeclarator t x) (Some y) a false (λ i. outermost_context) 0 0 silent free) in
      let c = f.contexts f.at in
      let row = node Kind.VariableDeclarator n inner f.rest in
      let d = f.declarator item others in
      let apart = subst (λ r. RowApart r f.around row) d.is f.here.apart in
      let layer = subst (λ r. RowDeclares r f.contexts) d.is (holds t f.around f.contexts f.at f.next row w f.here.stands).declares f.at in
      let unused = subst (λ l. IsFree t (named_in x l)) layer f.there.1 in
      f.leaves (steps.unused_declarator d.is
      (declarator_unused t f.around f.contexts f.at f.next d.how x n m nothing value f.rest w d.is f.here.stands (record {
        nothing_refers = unused.unreferred;
        is_not_exported = unused.unexported;
        is_seen = crossed_not f.around d.how x (bound_names row) (first_among x (bound_names value ++ bound_names f.rest)) apart.0;
      }))
      (initialiser (declarations_of t) f.around.names f.here.this (inside_of (in_class_at a) f.in_with) (inside c f.next Kind.VariableDeclarator inner) 1 (f.next + opens_one Kind.VariableDeclarator inner + scope_count (node (Kind.BindingName x) m nothing nothing)) value (λ i. f.here.known.0)
      (field_behind (Kind.BindingName x) value (and_parts (is_declarator Kind.VariableDeclarator inner) (are_declarators f.rest) apart.1).0) (plain_value_here Kind.VariableDeclarator n inner f.rest f.here.good) f.there.0.1))

  -- a declaration leaves
  pub declaration_step : (how : VariableKind) (n m l j : Note) (x : Text) (value : Forest) → is_well_placed (plug a (a_declaration how n m l j x value)) ≡ true → Good (plug a (a_declaration how n m l j x value)) → IsItem a
      → At a (a_declaration how n m l j x value) (SilentDeclaration (plug a (a_declaration how n m l j x value)) how m l (node (Kind.BindingName x) j nothing value) (in_class_at a))
      → At a (a_declaration how n m l j x value) (Free (plug a (a_declaration how n m l j x value)) how x) → Step steps.outermost (plug a (a_declaration how n m l j x value)) (without a)
  declaration_step how n m l j x value w good item silent free =
      let inner = node (Kind.BindingName x) j nothing value in
      let ds = node Kind.VariableDeclarator l inner nothing in
      let all = one_declarator m l inner in
      let y : Tree = record { kind = Kind.VariableDeclaration how; note = n; below = all } in
      let t = plug a (Some y) in
      let f = focused y (λ b c i. SilentDeclaration t how m l inner (in_class_at a) b c i × Free t how x b c i) a refl w good (both_there (SilentDeclaration t how m l inner (in_class_at a)) (Free t how x) (Some y) a false (λ i. outermost_context) 0 0 silent free) in
      let c = f.contexts f.at in
      let place = f.next + opens_one (Kind.VariableDeclaration how) all in
      let e = inside (in_variables c how) place Kind.Declarators ds 0 in
      let row = node (Kind.VariableDeclaration how) n all f.rest in
      let in_all = good_below (Kind.VariableDeclaration how) n all f.rest f.here.good in
      let in_list = good_below Kind.Declarators m ds nothing in_all in
      f.leaves (steps.unused_declaration (f.item item)
      (declaration_unused t f.around f.contexts f.at f.next how x n m l j nothing value nothing f.rest w f.here.stands (record {
        nothing_refers = f.there.1.unreferred;
        is_not_exported = f.there.1.unexported;
        is_seen = declaration_seen f.around how x n all f.rest (first_among x (((bound_names value) ++ []) ++ [])) f.here.variables (of_list f.around.row f.around row (f.item item) f.here.apart);
      }))
      (initialiser (declarations_of t) f.around.names f.here.this (inside_of (in_class_at a) f.in_with) (inside e (place + opens_one Kind.Declarators ds) Kind.VariableDeclarator inner) 1
      (place + opens_one Kind.Declarators ds + opens_one Kind.VariableDeclarator inner + scope_count (node (Kind.BindingName x) j nothing nothing)) value (λ i. variables_known (declarations_of t) f.around.names c how f.here.known.0)
      (field_behind (Kind.BindingName x) value (and_parts (is_declarator Kind.VariableDeclarator inner) true (arranged_here (Kind.VariableDeclaration how) n all f.rest f.here.good)).0) (plain_value_here Kind.VariableDeclarator l inner nothing in_list) f.there.0.1))

  -- a declaration becomes a statement of its value
  pub value_step : (how : VariableKind) (n m l j i o : Note) (x : Text) (k : Kind) (b : Forest) → is_well_placed (plug a (a_declaration how n m l j x (alone k i b))) ≡ true → Good (plug a (a_declaration how n m l j x (alone k i b))) → IsItem a
      → At a (a_declaration how n m l j x (alone k i b)) (Free (plug a (a_declaration how n m l j x (alone k i b))) how x) → Step steps.outermost (plug a (a_declaration how n m l j x (alone k i b))) (plug a (Some (statement_of o i k b)))
  value_step how n m l j i o x k b w good item free =
      let value = alone k i b in
      let inner = node (Kind.BindingName x) j nothing value in
      let ds = node Kind.VariableDeclarator l inner nothing in
      let all = one_declarator m l inner in
      let y : Tree = record { kind = Kind.VariableDeclaration how; note = n; below = all } in
      let t = plug a (Some y) in
      let f = focused y (Free t how x) a refl w good free in
      let row = node (Kind.VariableDeclaration how) n all f.rest in
      let in_all = good_below (Kind.VariableDeclaration how) n all f.rest f.here.good in
      let in_list = good_below Kind.Declarators m ds nothing in_all in
      f.keeps (statement_of o i k b) (steps.states (f.item item)
      (declaration_unused t f.around f.contexts f.at f.next how x n m l j nothing value nothing f.rest w f.here.stands (record {
        nothing_refers = f.there.unreferred;
        is_not_exported = f.there.unexported;
        is_seen = declaration_seen f.around how x n all f.rest (first_among x (((bound_names value) ++ []) ++ [])) f.here.variables (of_list f.around.row f.around row (f.item item) f.here.apart);
      }))
      (no_names (bound_names value) (plain_value_here Kind.VariableDeclarator l inner nothing in_list)))
