-- The names that a program declares in its own scope stay through edits, where other code than its references may use them.
use Rattle.std.proofs.Common.{◌≡◌, ◌∙◌, ◌⊎◌, inl, inr, ℕ, suc, ◌+◌, ◌==◌, List, [], ◌∷◌, ◌++◌, Bool, true, false, ◌||◌, if◌then◌else◌, Option, Some, append-nil, refl, sym, ap, ap₂, true≢false}
use Rattle.js_syntax.proofs.Truth.{both}
use Rattle.js_syntax.specs.Class.{root, expression}
use Rattle.js_syntax.specs.declared.node_kind.NodeKind.{NodeKind as Kind}
use Rattle.js_syntax.specs.declared.kind.ClassKind.TheVariants as class_kind
use Rattle.js_syntax.specs.declared.kind.FunctionKind.TheVariants as function_kind
use Rattle.js_syntax.specs.declared.kind.VariableKind.{VariableKind}
use Rattle.js_syntax.specs.declared.kind.VariableKind.TheVariants as variable
use Rattle.js_syntax.specs.declared.scalar.SourceType.{SourceType}
use Rattle.js_syntax.specs.Node.{Forest, Tree, Note, nothing, node, absent, alone, joined, forest_of, bare}
use Rattle.js_tree.specs.Count.{one_each, node_count}
use Rattle.json_shape.specs.Shape.{Fits}
use Rattle.form_rules.specs.declared.sought.Sort.{Sort}
use Rattle.form_rules.specs.declared.sought.Sought.{Sought}
use Rattle.form_rules.specs.declared.sought.Sought.TheVariants.{Nothing as none, Names as names, Bound as bound, Scope as scope, Variables as variables, FunctionScope as function_scope, CatchScope as catch_scope}
use Rattle.form_rules.specs.Rules.{at_top}
use Rattle.form_rules.specs.Scope.{Declared, bound_below, variables_below, scope_below, sought_below, declared_here, declared}
use Rattle.scope_laws.specs.Place.{Around, first, behind, behind_none, under, plug}
use Rattle.scope_laws.specs.Lists.{without}
use Rattle.steps.specs.Steps.{binds_import}
use Rattle.steps.proofs.Fit.Modules.{fits_program, ends}
use Rattle.steps.specs.Fit.Sensible.{is_program}
use Rattle.steps.specs.KeepForm.Part.{gives_way, is_asked_for, StandsFor}
use Rattle.steps.specs.VarNames.Texts.{Named, named, is_of_catch}
use Rattle.steps.proofs.KeepForm.Asked.{no_name_here, no_catch_below, sought_alike}
use Rattle.steps.proofs.KeepForm.ShedNames.{none_declared}
use Rattle.steps.specs.Allowed.Branches.{declares_none}
use Rattle.steps.specs.Allowed.DeadIf.{nothing_is_run}
use Rattle.steps.specs.Allowed.EmptyIf.{test_stays}
use Rattle.steps.specs.Allowed.EmptyAlternate.{alternate_goes}
use Rattle.steps.specs.Allowed.ValueStays.{value_is_stated}
use Rattle.steps.specs.Allowed.IdleBody.{idle_body_empties}
use Rattle.steps.specs.Allowed.Edits.{Leaves, empty_statement, empty_block, unused_function, unused_declarator, unused_declaration, unused_import, unreached, untaken, idle_statement, repeated_import, Becomes, silent_statement, known_conditional, known_side, known_if, idle_try, idle_body, empty_if, empty_alternate, dead_if, unused_operation, unused_list, indirect_choice, one_sided_choice, idle_parts, two_sides, unused_object, known_operation, unrun_value, kept_names, Edit, leaves, becomes, Edits, no_edit, one_edit, merges, passes, value_stays}
use Rattle.steps.specs.Allowed.EmptyBlock.{empty_block_leaves}
use Rattle.steps.specs.Allowed.EmptyStatement.{empty_statement_leaves}
use Rattle.steps.specs.Allowed.Exposure.{Exposure, shares, exposed_inside, exposed_of, exposed_at, exposure, is_script, evaluates_somewhere, function_is_exposed}
use Rattle.steps.specs.Allowed.IdleStatement.{idle_leaves}
use Rattle.steps.specs.Allowed.KeptNames.{KeptNames, names_stay}
use Rattle.steps.specs.Allowed.RepeatedImport.{import_of, RepeatedImport, repeated_import_leaves}
use Rattle.steps.specs.Allowed.SilentStatement.{silent_statement_empties}
use Rattle.steps.specs.Allowed.Unreached.{never_runs}
use Rattle.steps.specs.Allowed.UnrunValue.{value_never_given}
use Rattle.steps.specs.Allowed.Untaken.{never_taken}
use Rattle.steps.specs.Allowed.UnusedDeclaration.{unused_declaration_leaves}
use Rattle.steps.specs.Allowed.UnusedDeclarator.{unused_declarator_leaves}
use Rattle.steps.specs.Allowed.UnusedFunction.{unused_function_leaves}
use Rattle.steps.specs.Allowed.UnusedImport.{unused_import_leaves}
use Rattle.steps.specs.Owed.Owed.{ByPart, ByParts}
use Rattle.steps.proofs.Owed.ChoiceParts.{parts_of_if}
use Rattle.steps.proofs.Owed.EmptyBlock.{holding_declares_none}
use Rattle.steps.proofs.Owed.ExposedBare.{bare_below, bare_script}
use Rattle.steps.proofs.Owed.FitsBecoming.{taken_as}
use Rattle.steps.proofs.Owed.Expressions.{expression_declares_none, expression_stays_outside}
use Rattle.steps.proofs.Owed.FitsEdits.{edit_fits, renoted_fits}
use Rattle.steps.proofs.Owed.Focus.{something}
use Rattle.steps.proofs.Owed.IndirectChoice.{indirect_choice_owes}
use Rattle.steps.proofs.Owed.IdleParts.{idle_parts_owes}
use Rattle.steps.proofs.Owed.KeptNames.{stands_there}
use Rattle.steps.proofs.Owed.KnownConditional.{known_conditional_owes}
use Rattle.steps.proofs.Owed.EmptyIf.{empty_declares}
use Rattle.steps.proofs.Owed.IdleTry.{idle_try_owes}
use Rattle.steps.proofs.Owed.KnownIf.{tested_row, known_if_owes}
use Rattle.steps.proofs.Owed.KnownOperation.{known_operation_owes}
use Rattle.steps.proofs.Owed.KnownSide.{known_side_owes}
use Rattle.steps.proofs.Owed.OneSidedChoice.{one_sided_choice_owes}
use Rattle.steps.proofs.Owed.PartForm.{outside_as, if_stays_outside, nothing_declared}
use Rattle.steps.proofs.Owed.TwoSides.{two_sides_owes}
use Rattle.steps.proofs.Owed.UnrunValue.{old_fits, new_fits}
use Rattle.steps.proofs.Owed.UnusedList.{unused_list_owes}
use Rattle.steps.proofs.Owed.UnusedObject.{unused_object_owes}
use Rattle.steps.proofs.Owed.UnusedOperation.{unused_operation_owes}
use Rattle.steps.specs.Allowed.MergedImports.{MergedImports, imports_merge}
use Rattle.steps.specs.Allowed.PassedExports.{PassedExports, exports_pass}
use Rattle.steps.proofs.Marked.Cuts.{edit_cuts}
use Rattle.steps.proofs.Marked.Merged.{same_evaluates}
use Rattle.steps.proofs.Marked.Passed as passed
use Rattle.steps.proofs.Marked.Exposing.{below_stays}
use Rattle.steps.proofs.VarNames.Alike.{found_alike}
use Rattle.steps.proofs.VarNames.Place.{keeps_kind}
use Rattle.headline.specs.Lasting.{names_in, declared_at_root, root_names, HasSharedNames}
use Rattle.headline.proofs.Loading.{asks_nothing, leaves_asks, becomes_asks}

no_kind : {A : Type 0} → false ≡ true → A
no_kind e = absurd (true≢false (sym e))

-- ---- the names of a row, wherever it stands

abbrev pub names_of : Sought → Forest → List (List ℕ)
names_of s nothing = []
names_of s (absent r) = names_of s r
names_of s (node k n a r) = (names_in (declared_here s 0 k) ++ names_of (sought_below s k) a) ++ names_of s r

names_joined : (ds es : List Declared) → names_in (ds ++ es) ≡ names_in ds ++ names_in es
names_joined [] es = refl
names_joined (d ∷ ds) es = ap (λ l. d.name ∷ l) (names_joined ds es)

here_anywhere : (s : Sought) (p : ℕ) (k : Kind) → names_in (declared_here s p k) ≡ names_in (declared_here s 0 k)
here_anywhere (names f) p (Kind.BindingName x) = refl
here_anywhere (bound f) p (Kind.BindingName x) = refl
here_anywhere (catch_scope f) p (Kind.BindingName x) = refl
here_anywhere s p k = refl

names_anywhere : (s : Sought) (p : ℕ) (t : Forest) → names_in (declared s p t) ≡ names_of s t
names_anywhere s p nothing = refl
names_anywhere s p (absent r) = names_anywhere s p r
names_anywhere s p (node k n a r) =
    let own = declared_here s p k in
    let below = declared (sought_below s k) (p + one_each k) a in
    names_joined (own ++ below) (declared s (p + node_count (alone k n a)) r)
    ∙ ap₂ (λ v w. v ++ w) (names_joined own below ∙ ap₂ (λ v w. v ++ w) (here_anywhere s p k) (names_anywhere (sought_below s k) (p + one_each k) a)) (names_anywhere s (p + node_count (alone k n a)) r)

none_named : (s : Sought) (t : Forest) → declared s 0 t ≡ [] → names_of s t ≡ []
none_named s t h = sym (names_anywhere s 0 t) ∙ ap names_in h

row_joined : (s : Sought) (v w : Forest) → names_of s (joined v w) ≡ names_of s v ++ names_of s w
row_joined s nothing w = refl
row_joined s (absent v) w = row_joined s v w
row_joined s (node k n a v) w = ap (λ l. (names_in (declared_here s 0 k) ++ names_of (sought_below s k) a) ++ l) (row_joined s v w) ∙ sym (list_assoc (names_in (declared_here s 0 k) ++ names_of (sought_below s k) a) (names_of s v) (names_of s w))
  where
    list_assoc : (xs ys zs : List (List ℕ)) → (xs ++ ys) ++ zs ≡ xs ++ (ys ++ zs)
    list_assoc [] ys zs = refl
    list_assoc (x ∷ xs) ys zs = ap (λ l. x ∷ l) (list_assoc xs ys zs)

-- ---- at a place

abbrev pub sought_at : Sought → Around → Sought
sought_at s (first rest) = s
sought_at s (behind k n b a) = sought_at s a
sought_at s (behind_none a) = sought_at s a
sought_at s (under k n a rest) = sought_at (sought_below s k) a

own_names : (s : Sought) (x : Tree) → names_of s (forest_of x) ≡ names_in (declared_here s 0 x.kind) ++ names_of (sought_below s x.kind) x.below
own_names s x = append-nil (names_in (declared_here s 0 x.kind) ++ names_of (sought_below s x.kind) x.below)

left_names : (x : Tree) (s : Sought) (a : Around) → names_of (sought_at s a) (forest_of x) ≡ [] → names_of s (without a) ≡ names_of s (plug a (Some x))
left_names x s (first rest) h = ap (λ l. l ++ names_of s rest) (sym h ∙ own_names s x)
left_names x s (behind k n b a) h = ap (λ l. (names_in (declared_here s 0 k) ++ names_of (sought_below s k) b) ++ l) (left_names x s a h)
left_names x s (behind_none a) h = left_names x s a h
left_names x s (under k n a rest) h = ap (λ l. (names_in (declared_here s 0 k) ++ l) ++ names_of s rest) (left_names x (sought_below s k) a h)

replaced_names : (x y : Tree) (s : Sought) (a : Around) → names_of (sought_at s a) (forest_of y) ≡ names_of (sought_at s a) (forest_of x) → names_of s (plug a (Some y)) ≡ names_of s (plug a (Some x))
replaced_names x y s (first rest) h = ap (λ l. l ++ names_of s rest) (sym (own_names s y) ∙ h ∙ own_names s x)
replaced_names x y s (behind k n b a) h = ap (λ l. (names_in (declared_here s 0 k) ++ names_of (sought_below s k) b) ++ l) (replaced_names x y s a h)
replaced_names x y s (behind_none a) h = replaced_names x y s a h
replaced_names x y s (under k n a rest) h = ap (λ l. (names_in (declared_here s 0 k) ++ l) ++ names_of s rest) (replaced_names x y (sought_below s k) a h)

no_catch_at : (s : Sought) (a : Around) → is_of_catch s ≡ false → is_of_catch (sought_at s a) ≡ false
no_catch_at s (first rest) h = h
no_catch_at s (behind k n b a) h = no_catch_at s a h
no_catch_at s (behind_none a) h = no_catch_at s a h
no_catch_at s (under k n a rest) h = no_catch_at (sought_below s k) a (no_catch_below s k)

-- ---- what declares nothing

outside : (s : Sought) (t : Forest) → is_of_catch s ≡ false → declares_none t ≡ true → names_of s t ≡ []
outside none t h e = none_named none t (nothing_declared none 0 t (outside_as none t refl) e)
outside (names f) t h e = none_named (names f) t (nothing_declared (names f) 0 t (outside_as (names f) t refl) e)
outside (bound f) t h e = none_named (bound f) t (nothing_declared (bound f) 0 t (outside_as (bound f) t refl) e)
outside (scope f) t h e = none_named (scope f) t (nothing_declared (scope f) 0 t (outside_as (scope f) t refl) e)
outside variables t h e = none_named variables t (nothing_declared variables 0 t (outside_as variables t refl) e)
outside function_scope t h e = none_named function_scope t (nothing_declared function_scope 0 t (outside_as function_scope t refl) e)
outside (catch_scope f) t h e = absurd (true≢false h)

of_expression : (s : Sought) (t : Forest) → Fits expression t → names_of s t ≡ []
of_expression s t fits = none_named s t (nothing_declared s 0 t (expression_stays_outside s t fits) (expression_declares_none t fits))

unsought : (t : Forest) → names_of none t ≡ []
unsought t = none_named none t (none_declared 0 t)

-- ---- a part declares what the whole did

unasked : (k : Kind) → gives_way k ≡ true → is_asked_for k ≡ false
unasked Kind.IfStatement h = refl
unasked Kind.ConditionalExpression h = refl
unasked Kind.TryStatement h = refl
unasked (Kind.LogicalExpression o) h = refl
unasked (Kind.UnaryExpression o) h = refl
unasked (Kind.BinaryExpression o) h = refl
unasked k h = no_kind h

module _ (s : Sought) (calm : is_of_catch s ≡ false) (k l : Kind) (n m : Note) (a b : Forest) (part : StandsFor k a l b) where
  abbrev inner : Sought
  inner = sought_below s k

  amid : names_of inner a ≡ names_of (sought_below s l) b
  amid =
      ap (names_of inner) part.is_part
      ∙ row_joined inner part.before (node l part.note b part.after)
      ∙ ap (λ v. v ++ names_of inner (node l part.note b part.after)) (none_named inner part.before (part.none_before s 0))
      ∙ ap (λ v. (names_in (declared_here inner 0 l) ++ names_of (sought_below inner l) b) ++ v) (none_named inner part.after (part.none_after s 0))
      ∙ append-nil (names_in (declared_here inner 0 l) ++ names_of (sought_below inner l) b)
      ∙ ap₂ (λ v z. names_in v ++ names_of z b) (no_name_here inner 0 l part.unasked) (sym (sought_alike s k l calm part.gives part.unasked part.alike))

  part_names : names_of s (alone l m b) ≡ names_of s (alone k n a)
  part_names =
      ap (λ v. (names_in v ++ names_of (sought_below s l) b) ++ []) (no_name_here s 0 l part.unasked)
      ∙ ap (λ v. v ++ []) (sym amid)
      ∙ ap (λ v. (names_in v ++ names_of inner a) ++ []) (sym (no_name_here s 0 k (unasked k part.gives)))

-- ---- what a place shares that declares names of a script's own scope

abbrev pub Shared : Sought → Exposure → Type 0
Shared (scope f) e = (e.names_shared ≡ true) × (e.variables_shared ≡ true)
Shared variables e = e.variables_shared ≡ true
Shared (bound f) e = e.declared_shared ≡ true
Shared function_scope e = ⊥
Shared (catch_scope f) e = ⊥
Shared s e = Unit {0}

either : (b : Bool) (e f : Exposure) → e.variables_shared ≡ true → f.variables_shared ≡ true → (if b then e else f).variables_shared ≡ true
either true e f g h = g
either false e f g h = h

shared_bound : (f : Sort) (e : Exposure) (k : Kind) (below : Forest) (at : ℕ) → e.declared_shared ≡ true → Shared (bound_below f k) (exposed_inside e k below at)
shared_bound f e Kind.Declarators below at h = h
shared_bound f e Kind.VariableDeclarator below at h = h
shared_bound f e Kind.Parameters below at h = h
shared_bound f e Kind.BindingObject below at h = h
shared_bound f e Kind.Properties below at h = h
shared_bound f e (Kind.BindingProperty key) below at h = h
shared_bound f e Kind.BindingArray below at h = h
shared_bound f e Kind.Elements below at h = h
shared_bound f e Kind.BindingDefault below at h = h
shared_bound f e Kind.BindingRest below at h = h
shared_bound f e Kind.Specifiers below at h = h
shared_bound f e (Kind.ImportSpecifier imported) below at h = h
shared_bound f e Kind.ImportDefaultSpecifier below at h = h
shared_bound f e Kind.ImportNamespaceSpecifier below at h = h
shared_bound f e k below at h = tt

shared_variables : (e : Exposure) (k : Kind) (below : Forest) (at : ℕ) → e.variables_shared ≡ true → Shared (variables_below k) (exposed_inside e k below at)
shared_variables e (Kind.VariableDeclaration variable.Var) below at h = h
shared_variables e (Kind.VariableDeclaration how) below at h = tt
shared_variables e Kind.Statements below at h = h
shared_variables e Kind.BlockStatement below at h = h
shared_variables e Kind.IfStatement below at h = h
shared_variables e Kind.WithStatement below at h = either (at == 1) _ e h h
shared_variables e (Kind.LabeledStatement label) below at h = h
shared_variables e Kind.SwitchStatement below at h = either (at == 1) _ e h h
shared_variables e Kind.Cases below at h = h
shared_variables e Kind.SwitchCase below at h = h
shared_variables e Kind.TryStatement below at h = h
shared_variables e Kind.CatchClause below at h = either (at == 0) _ _ h h
shared_variables e Kind.WhileStatement below at h = h
shared_variables e Kind.DoWhileStatement below at h = h
shared_variables e Kind.ForStatement below at h = h
shared_variables e Kind.ForInStatement below at h = h
shared_variables e Kind.ForOfStatement below at h = h
shared_variables e (Kind.ExportNamedDeclaration source) below at h = h
shared_variables e k below at h = tt

shared_scope : (f : Sort) (e : Exposure) (k : Kind) (below : Forest) (at : ℕ) → Shared (scope f) e → Shared (scope_below f k) (exposed_inside e k below at)
shared_scope f e Kind.Statements below at h = h
shared_scope f e Kind.SwitchCase below at h = h
shared_scope f e (Kind.ExportNamedDeclaration source) below at h = h
shared_scope f e Kind.ExportDefaultDeclaration below at h = h
shared_scope f e (Kind.VariableDeclaration variable.Let) below at h = h.0
shared_scope f e (Kind.VariableDeclaration variable.Const) below at h = h.0
shared_scope f e (Kind.ImportDeclaration source) below at h = h.0
shared_scope f e (Kind.Class class_kind.Declaration) below at h = tt
shared_scope f e (Kind.Function function_kind.Declaration pure) below at h = tt
shared_scope f e k below at h = shared_variables e k below at h.1

shared_below : (s : Sought) (e : Exposure) (k : Kind) (below : Forest) (at : ℕ) → Shared s e → Shared (sought_below s k) (exposed_inside e k below at)
shared_below none e k below at h = tt
shared_below (names f) e k below at h = tt
shared_below (bound f) e k below at h = shared_bound f e k below at h
shared_below (scope f) e k below at h = shared_scope f e k below at h
shared_below variables e k below at h = shared_variables e k below at h
shared_below function_scope e k below at h = absurd h
shared_below (catch_scope f) e k below at h = absurd h

-- ---- and in what scope a call of `eval` lies

abbrev pub Evaluates : Sought → Exposure → Type 0
Evaluates (scope f) e = e.evaluates ≡ true
Evaluates function_scope e = ⊥
Evaluates (catch_scope f) e = ⊥
Evaluates s e = Unit {0}

evaluates_bound : (f : Sort) (e : Exposure) (k : Kind) → Evaluates (bound_below f k) e
evaluates_bound f e Kind.Declarators = tt
evaluates_bound f e Kind.VariableDeclarator = tt
evaluates_bound f e Kind.Parameters = tt
evaluates_bound f e Kind.BindingObject = tt
evaluates_bound f e Kind.Properties = tt
evaluates_bound f e (Kind.BindingProperty key) = tt
evaluates_bound f e Kind.BindingArray = tt
evaluates_bound f e Kind.Elements = tt
evaluates_bound f e Kind.BindingDefault = tt
evaluates_bound f e Kind.BindingRest = tt
evaluates_bound f e Kind.Specifiers = tt
evaluates_bound f e (Kind.ImportSpecifier imported) = tt
evaluates_bound f e Kind.ImportDefaultSpecifier = tt
evaluates_bound f e Kind.ImportNamespaceSpecifier = tt
evaluates_bound f e k = tt

evaluates_variables : (e : Exposure) (k : Kind) → Evaluates (variables_below k) e
evaluates_variables e (Kind.VariableDeclaration variable.Var) = tt
evaluates_variables e (Kind.VariableDeclaration how) = tt
evaluates_variables e k = tt

evaluates_scope : (f : Sort) (e : Exposure) (k : Kind) (below : Forest) (at : ℕ) → e.evaluates ≡ true → Evaluates (scope_below f k) (exposed_inside e k below at)
evaluates_scope f e Kind.Statements below at h = h
evaluates_scope f e Kind.SwitchCase below at h = h
evaluates_scope f e (Kind.ExportNamedDeclaration source) below at h = h
evaluates_scope f e Kind.ExportDefaultDeclaration below at h = h
evaluates_scope f e (Kind.VariableDeclaration variable.Let) below at h = tt
evaluates_scope f e (Kind.VariableDeclaration variable.Const) below at h = tt
evaluates_scope f e (Kind.ImportDeclaration source) below at h = tt
evaluates_scope f e (Kind.Class class_kind.Declaration) below at h = tt
evaluates_scope f e (Kind.Function function_kind.Declaration pure) below at h = tt
evaluates_scope f e k below at h = evaluates_variables (exposed_inside e k below at) k

evaluates_below : (s : Sought) (e : Exposure) (k : Kind) (below : Forest) (at : ℕ) → Evaluates s e → Evaluates (sought_below s k) (exposed_inside e k below at)
evaluates_below none e k below at h = tt
evaluates_below (names f) e k below at h = tt
evaluates_below (bound f) e k below at h = evaluates_bound f (exposed_inside e k below at) k
evaluates_below (scope f) e k below at h = evaluates_scope f e k below at h
evaluates_below variables e k below at h = evaluates_variables (exposed_inside e k below at) k
evaluates_below function_scope e k below at h = absurd h
evaluates_below (catch_scope f) e k below at h = absurd h

-- ---- along a place

module _ (Tells : Sought → Exposure → Type 0) (step : (s : Sought) (e : Exposure) (k : Kind) (below : Forest) (at : ℕ) → Tells s e → Tells (sought_below s k) (exposed_inside e k below at)) where
  tells_at : (s : Sought) (es : ℕ → Exposure) (at : ℕ) (a : Around) (x : Option Tree) → ((i : ℕ) → Tells s (es i)) → Tells (sought_at s a) (exposed_at es at a x)
  tells_at s es at (first rest) x h = h at
  tells_at s es at (behind k n b a) x h = tells_at s es (suc at) a x h
  tells_at s es at (behind_none a) x h = tells_at s es (suc at) a x h
  tells_at s es at (under k n a rest) x h = tells_at (sought_below s k) (exposed_inside (es at) k (plug a x)) 0 a x (λ i. step s (es at) k (plug a x) i (h at))

-- ---- a program's own names, which other code may use

-- of a place below a program: what is told there, and whether a direct call of `eval` lies somewhere
pub data Kept (s : Sought) (e : Exposure) (somewhere : Bool) : Type 0 where
  in_script : Shared s e → Kept s e somewhere
  evaluated : Evaluates s e → somewhere ≡ true → Kept s e somewhere

no_own : (e : Exposure) → function_is_exposed e ≡ false → (e.names_shared ≡ true) ⊎ (e.evaluates ≡ true) → ⊥
no_own e own told = by e.names_shared e.evaluates e.in_sloppy_block own told
  where
    by : (b c d : Bool) → (b || c || d) ≡ false → (b ≡ true) ⊎ (c ≡ true) → ⊥
    by true c d h t = true≢false h
    by false true d h t = true≢false h
    by false false d h (inl t) = true≢false (sym t)
    by false false d h (inr t) = true≢false (sym t)

no_declared : (b c : Bool) → (b || c) ≡ false → (b ≡ true) ⊎ (c ≡ true) → ⊥
no_declared true c h t = true≢false h
no_declared false true h t = true≢false h
no_declared false false h (inl t) = true≢false (sym t)
no_declared false false h (inr t) = true≢false (sym t)

-- a row that is one node, below which nothing is sought
one_unsought : (t : Forest) → ([] ++ names_of none t) ++ [] ≡ []
one_unsought t = ap (λ l. l ++ []) (unsought t)

function_named : (s : Sought) (e : Exposure) (somewhere pure : Bool) (n : Note) (below : Forest) → function_is_exposed e ≡ false → Kept s e somewhere → names_of s (alone (Kind.Function function_kind.Declaration pure) n below) ≡ []
function_named none e w pure n below own h = one_unsought below
function_named (names f) e w pure n below own h = one_unsought below
function_named (bound f) e w pure n below own h = one_unsought below
function_named (scope f) e w pure n below own (in_script h) = absurd (no_own e own (inl h.0))
function_named (scope f) e w pure n below own (evaluated h is) = absurd (no_own e own (inr h))
function_named variables e w pure n below own h = one_unsought below
function_named function_scope e w pure n below own (in_script h) = absurd h
function_named function_scope e w pure n below own (evaluated h is) = absurd h
function_named (catch_scope f) e w pure n below own (in_script h) = absurd h
function_named (catch_scope f) e w pure n below own (evaluated h is) = absurd h

declarator_named : (s : Sought) (e : Exposure) (somewhere : Bool) (n : Note) (below : Forest) → (e.declared_shared || somewhere) ≡ false → Kept s e somewhere → names_of s (alone Kind.VariableDeclarator n below) ≡ []
declarator_named s e w n below own (evaluated h is) = absurd (no_declared e.declared_shared w own (inr is))
declarator_named none e w n below own (in_script h) = one_unsought below
declarator_named (names f) e w n below own (in_script h) = one_unsought below
declarator_named (bound f) e w n below own (in_script h) = absurd (no_declared e.declared_shared w own (inl h))
declarator_named (scope f) e w n below own (in_script h) = one_unsought below
declarator_named variables e w n below own (in_script h) = one_unsought below
declarator_named function_scope e w n below own (in_script h) = absurd h
declarator_named (catch_scope f) e w n below own (in_script h) = absurd h

declaration_named : (s : Sought) (e : Exposure) (somewhere : Bool) (how : VariableKind) (n : Note) (below : Forest) → (shares e how || somewhere) ≡ false → Kept s e somewhere → names_of s (alone (Kind.VariableDeclaration how) n below) ≡ []
declaration_named s e w how n below own (evaluated h is) = absurd (no_declared (shares e how) w own (inr is))
declaration_named none e w how n below own (in_script h) = one_unsought below
declaration_named (names f) e w how n below own (in_script h) = one_unsought below
declaration_named (bound f) e w how n below own (in_script h) = one_unsought below
declaration_named (scope f) e w variable.Var n below own (in_script h) = absurd (no_declared e.variables_shared w own (inl h.1))
declaration_named (scope f) e w variable.Let n below own (in_script h) = absurd (no_declared e.names_shared w own (inl h.0))
declaration_named (scope f) e w variable.Const n below own (in_script h) = absurd (no_declared e.names_shared w own (inl h.0))
declaration_named variables e w variable.Var n below own (in_script h) = absurd (no_declared e.variables_shared w own (inl h))
declaration_named variables e w variable.Let n below own (in_script h) = one_unsought below
declaration_named variables e w variable.Const n below own (in_script h) = one_unsought below
declaration_named function_scope e w how n below own (in_script h) = absurd h
declaration_named (catch_scope f) e w how n below own (in_script h) = absurd h

imported_named : (s : Sought) (e : Exposure) (somewhere : Bool) (k : Kind) (n : Note) (below : Forest) → binds_import k ≡ true → (e.declared_shared || somewhere) ≡ false → Kept s e somewhere → names_of s (alone k n below) ≡ []
imported_named s e w k n below binds own (evaluated h is) = absurd (no_declared e.declared_shared w own (inr is))
imported_named (bound f) e w k n below binds own (in_script h) = absurd (no_declared e.declared_shared w own (inl h))
imported_named none e w k n below binds own (in_script h) = unsought (alone k n below)
imported_named (names f) e w (Kind.ImportSpecifier imported) n below binds own (in_script h) = one_unsought below
imported_named (names f) e w Kind.ImportDefaultSpecifier n below binds own (in_script h) = one_unsought below
imported_named (names f) e w Kind.ImportNamespaceSpecifier n below binds own (in_script h) = one_unsought below
imported_named (names f) e w k n below binds own (in_script h) = no_kind binds
imported_named (scope f) e w (Kind.ImportSpecifier imported) n below binds own (in_script h) = one_unsought below
imported_named (scope f) e w Kind.ImportDefaultSpecifier n below binds own (in_script h) = one_unsought below
imported_named (scope f) e w Kind.ImportNamespaceSpecifier n below binds own (in_script h) = one_unsought below
imported_named (scope f) e w k n below binds own (in_script h) = no_kind binds
imported_named variables e w (Kind.ImportSpecifier imported) n below binds own (in_script h) = one_unsought below
imported_named variables e w Kind.ImportDefaultSpecifier n below binds own (in_script h) = one_unsought below
imported_named variables e w Kind.ImportNamespaceSpecifier n below binds own (in_script h) = one_unsought below
imported_named variables e w k n below binds own (in_script h) = no_kind binds
imported_named function_scope e w k n below binds own (in_script h) = absurd h
imported_named (catch_scope f) e w k n below binds own (in_script h) = absurd h

empty_named : (s : Sought) (n : Note) → names_of s (alone Kind.EmptyStatement n nothing) ≡ []
empty_named none n = refl
empty_named (names f) n = refl
empty_named (bound f) n = refl
empty_named (scope f) n = refl
empty_named variables n = refl
empty_named function_scope n = refl
empty_named (catch_scope f) n = refl

statement_named : (s : Sought) (n : Note) (below : Forest) → names_of s (alone Kind.ExpressionStatement n below) ≡ []
statement_named none n below = one_unsought below
statement_named (names f) n below = one_unsought below
statement_named (bound f) n below = one_unsought below
statement_named (scope f) n below = one_unsought below
statement_named variables n below = one_unsought below
statement_named function_scope n below = one_unsought below
statement_named (catch_scope f) n below = one_unsought below

-- ---- each case

leaves_named : (a : Around) (x : Tree) → Leaves a x → (s : Sought) → is_of_catch s ≡ false → Kept s (exposure a (Some x)) (evaluates_somewhere (plug a (Some x))) → names_of s (forest_of x) ≡ []
leaves_named a x (empty_statement (empty_statement_leaves n item)) s calm h = empty_named s n
leaves_named a x (empty_block (empty_block_leaves item held)) s calm h = outside s (forest_of x) calm (holding_declares_none x held)
leaves_named a x (unused_function (unused_function_leaves pure n m name rest item own free)) s calm h = function_named s (exposure a (Some x)) (evaluates_somewhere (plug a (Some x))) pure n x.below own h
leaves_named a x (unused_declarator (unused_declarator_leaves n m name value declares other own silent free)) s calm h = declarator_named s (exposure a (Some x)) (evaluates_somewhere (plug a (Some x))) n x.below own h
leaves_named a x (unused_declaration (unused_declaration_leaves how n m l j name value item own silent free)) s calm h = declaration_named s (exposure a (Some x)) (evaluates_somewhere (plug a (Some x))) how n x.below own h
leaves_named a x (unused_import (unused_import_leaves k n m name binds imported own free)) s calm h = imported_named s (exposure a (Some x)) (evaluates_somewhere (plug a (Some x))) k n x.below binds own h
leaves_named a x (unreached (never_runs item cut runs undeclared)) s calm h = outside s (forest_of x) calm undeclared
leaves_named a x (untaken (never_taken item branch runs undeclared)) s calm h = outside s (forest_of x) calm undeclared
leaves_named a x (idle_statement (idle_leaves item idle undeclared)) s calm h = outside s (forest_of x) calm undeclared
leaves_named a x (repeated_import (repeated_import_leaves source n m item asked)) s calm h = outside s (forest_of (import_of source n m)) calm refl

-- where the program has names that other code may use
abbrev SameNames : (a : Around) (x y : Tree) → Type 0
SameNames a x y = (s : Sought) → is_of_catch s ≡ false → Kept s (exposure a (Some x)) (evaluates_somewhere (plug a (Some x))) → names_of s (forest_of y) ≡ names_of s (forest_of x)

part_named : (a : Around) (x y : Tree) → ByPart a x y → Fits root (plug a (Some x)) → SameNames a x y
part_named a x y owed fits = λ s calm kept. part_names s calm x.kind y.kind x.note y.note x.below y.below (owed.stands fits)

parts_named : (a : Around) (x y : Tree) → ByParts a x y → Fits root (plug a (Some x)) → SameNames a x y
parts_named a x y owed fits = λ s calm kept. let old = owed.fits_expression fits in of_expression s (forest_of y) (taken_as (owed.takes fits) expression refl old) ∙ sym (of_expression s (forest_of x) old)

-- of names a declaration is left that declares them
abbrev only_names : List Named → List (List ℕ)
only_names [] = []
only_names (d ∷ ds) = d.name ∷ only_names ds

names_alone : (ds : List Declared) → names_in ds ≡ only_names (named ds)
names_alone [] = refl
names_alone (d ∷ ds) = ap (λ l. d.name ∷ l) (names_alone ds)

kept_named : (a : Around) (x y : Tree) → KeptNames a x y → Fits root (plug a (Some x)) → SameNames a x y
kept_named a _ _ (names_stay x y item never holds alone_vars plain is) fits = λ s calm shared.
    let old = declared s 0 (forest_of x) in
    let new = declared s 0 (forest_of y) in
    sym (names_anywhere s 0 (forest_of y))
    ∙ names_alone new
    ∙ ap only_names (sym (found_alike x y (keeps_kind x.kind holds) (stands_there a x y item never holds alone_vars is fits) is s 0 0 calm))
    ∙ sym (names_alone old)
    ∙ names_anywhere s 0 (forest_of x)

becomes_named : (a : Around) (x y : Tree) → Becomes a x y → Fits root (plug a (Some x)) → SameNames a x y
becomes_named a x y (silent_statement (silent_statement_empties n m l k held silent)) fits = λ s calm kept. empty_named s m ∙ sym (statement_named s n x.below)
becomes_named a x y (known_conditional c) fits = part_named a x y (known_conditional_owes a x y c) fits
becomes_named a x y (known_side c) fits = part_named a x y (known_side_owes a x y c) fits
becomes_named a x y (known_if c) fits = part_named a x y (known_if_owes a x y c) fits
becomes_named a x y (idle_try c) fits = part_named a x y (idle_try_owes a x y c) fits
becomes_named a x y (dead_if (nothing_is_run n m i o t k d b truth undeclared)) fits = λ s calm kept.
    let branch = node k i b (absent nothing) in
    let below = node t m d branch in
    let tested = tested_row t m d branch (expression_declares_none (node t m d nothing) ((parts_of_if a n below fits).0, tt)) undeclared in
    empty_named s o ∙ sym (none_named s (forest_of x) (nothing_declared s 0 (forest_of x) (if_stays_outside s n below) (both (declares_none below) true tested refl)))
becomes_named a x y (empty_if (test_stays n m o t d branches empty unnamed)) fits = λ s calm kept.
    let below = node t m d branches in
    let tested = tested_row t m d branches (expression_declares_none (node t m d nothing) ((parts_of_if a n below fits).0, tt)) (empty_declares branches empty) in
    statement_named s o (node t m d nothing) ∙ sym (none_named s (forest_of x) (nothing_declared s 0 (forest_of x) (if_stays_outside s n below) (both (declares_none below) true tested refl)))
becomes_named a x y (value_stays (value_is_stated how n m l j i o name k b stated item in_with own free)) fits = λ s calm kept.
    statement_named s o (alone k i b) ∙ sym (declaration_named s (exposure a (Some x)) (evaluates_somewhere (plug a (Some x))) how n x.below own kept)
becomes_named a x y (empty_alternate (alternate_goes n i j o t l d b last)) fits = λ s calm kept.
    let z = sought_below s Kind.IfStatement in
    let first = names_in (declared_here z 0 t) ++ names_of (sought_below z t) d in
    let second = names_in (declared_here z 0 l) ++ names_of (sought_below z l) b in
    ap (λ ns. (names_in (declared_here s 0 Kind.IfStatement) ++ (first ++ (second ++ ns))) ++ []) (sym (empty_named z o))
becomes_named a x y (idle_body (idle_body_empties _ m body idle undeclared)) fits = λ s calm kept. empty_named s m ∙ sym (outside s (forest_of x) calm undeclared)
becomes_named a x y (unused_operation c) fits = part_named a x y (unused_operation_owes a x y c) fits
becomes_named a x y (unused_list c) fits = parts_named a x y (unused_list_owes a x y c) fits
becomes_named a x y (indirect_choice c) fits = parts_named a x y (indirect_choice_owes a x y c) fits
becomes_named a x y (one_sided_choice c) fits = parts_named a x y (one_sided_choice_owes a x y c) fits
becomes_named a x y (idle_parts c) fits = parts_named a x y (idle_parts_owes a x y c) fits
becomes_named a x y (two_sides c) fits = parts_named a x y (two_sides_owes a x y c) fits
becomes_named a x y (unused_object c) fits = parts_named a x y (unused_object_owes a x y c) fits
becomes_named a x y (known_operation c) fits = parts_named a x y (known_operation_owes a x y c) fits
becomes_named a x y (kept_names c) fits = kept_named a x y c fits
becomes_named a x y (unrun_value (value_never_given n z given unrun drops)) fits = λ s calm kept. of_expression s (forest_of y) (new_fits a n x given unrun drops) ∙ sym (of_expression s (forest_of x) (old_fits a n x given unrun drops fits))

-- ---- a place in a program that fits the table

-- below the program
pub data InProgram : Around → Type 0 where
  in_program : (source : SourceType) (n : Note) (a : Around) (rest : Forest) → InProgram (under (Kind.Program source) n a rest)

-- what is no program
abbrev pub is_inner : Kind → Bool
is_inner (Kind.Program source) = false
is_inner k = true

asking_inner : (k : Kind) → asks_nothing k ≡ true → is_inner k ≡ true
asking_inner (Kind.Program source) h = h
asking_inner k h = refl

leaves_inner : (a : Around) (x : Tree) → (asks_nothing x.kind ≡ true) ⊎ RepeatedImport a x → is_inner x.kind ≡ true
leaves_inner a x (inl asks) = asking_inner x.kind asks
leaves_inner a x (inr (repeated_import_leaves source n m item asked)) = refl

no_inner_program : (k : Kind) (n : Note) (b rest : Forest) → is_program (node k n b rest) ≡ true → is_inner k ≡ true → ⊥
no_inner_program (Kind.Program source) n b rest p h = true≢false (sym h)
no_inner_program k n b rest p h = true≢false (sym p)

below_it : (k : Kind) (n : Note) (a : Around) (rest row : Forest) → is_program (node k n row rest) ≡ true → InProgram (under k n a rest)
below_it (Kind.Program source) n a rest row p = in_program source n a rest
below_it k n a rest row p = no_kind p

pub in_its_program : (a : Around) (x : Tree) → is_inner x.kind ≡ true → Fits root (plug a (Some x)) → InProgram a
in_its_program (first rest) x below_top fits = absurd (no_inner_program x.kind x.note x.below rest (fits_program (plug (first rest) (Some x)) fits) below_top)
in_its_program (behind k n b a) x below_top fits = absurd (something a x (ends (plug a (Some x)) fits.1))
in_its_program (behind_none a) x below_top fits = absurd fits.0
in_its_program (under k n a rest) x below_top fits = below_it k n a rest (plug a (Some x)) (fits_program (plug (under k n a rest) (Some x)) fits)

-- ---- one edit

kept_there : (source : SourceType) (n : Note) (a : Around) (rest : Forest) (x : Tree) → let b = under (Kind.Program source) n a rest in
    (is_script (plug b (Some x)) ≡ true) ⊎ (evaluates_somewhere (plug b (Some x)) ≡ true) → Kept (sought_at (scope (at_top source)) a) (exposure b (Some x)) (evaluates_somewhere (plug b (Some x)))
kept_there source n a rest x (inl script) =
    let t = plug (under (Kind.Program source) n a rest) (Some x) in
    in_script (tells_at Shared shared_below (scope (at_top source)) (exposed_inside (exposed_of t 0) (Kind.Program source) (plug a (Some x))) 0 a (Some x) (λ i. (script, script)))
kept_there source n a rest x (inr calls) =
    let t = plug (under (Kind.Program source) n a rest) (Some x) in
    evaluated (tells_at Evaluates evaluates_below (scope (at_top source)) (exposed_inside (exposed_of t 0) (Kind.Program source) (plug a (Some x))) 0 a (Some x) (λ i. calls)) calls

at_root : (source : SourceType) (n : Note) (below rest : Forest) → root_names (node (Kind.Program source) n below rest) ≡ names_of (scope (at_top source)) below
at_root source n below rest = names_anywhere (scope (at_top source)) 1 below

left_there : (a : Around) (x : Tree) → InProgram a → Leaves a x → (is_script (plug a (Some x)) ≡ true) ⊎ (evaluates_somewhere (plug a (Some x)) ≡ true) → root_names (without a) ≡ root_names (plug a (Some x))
left_there a x (in_program source n b rest) c h =
    let s = scope (at_top source) in
    at_root source n (without b) rest
    ∙ left_names x s b (leaves_named a x c (sought_at s b) (no_catch_at s b refl) (kept_there source n b rest x h))
    ∙ sym (at_root source n (plug b (Some x)) rest)

replaced_there : (a : Around) (x y : Tree) → InProgram a → SameNames a x y → (is_script (plug a (Some x)) ≡ true) ⊎ (evaluates_somewhere (plug a (Some x)) ≡ true) → root_names (plug a (Some y)) ≡ root_names (plug a (Some x))
replaced_there a x y (in_program source n b rest) same h =
    let s = scope (at_top source) in
    at_root source n (plug b (Some y)) rest ∙ replaced_names x y s b (same (sought_at s b) (no_catch_at s b refl) (kept_there source n b rest x h)) ∙ sym (at_root source n (plug b (Some x)) rest)

-- no other code may use the names of a program of which two imports become one
merged_names : (t u : Forest) → MergedImports t u → (is_script t ≡ true) ⊎ (evaluates_somewhere t ≡ true) → root_names u ≡ root_names t
merged_names _ _ (imports_merge n m r s h no_calls) (inl script) = absurd (true≢false (sym script))
merged_names _ _ (imports_merge n m r s h no_calls) (inr calls) = absurd (true≢false (sym calls ∙ no_calls))

-- nor those of one of which an import and an export do
passed_names : (t u : Forest) → PassedExports t u → (is_script t ≡ true) ⊎ (evaluates_somewhere t ≡ true) → root_names u ≡ root_names t
passed_names _ _ (exports_pass n m ns r s z h free no_calls) (inl script) = absurd (true≢false (sym script))
passed_names _ _ (exports_pass n m ns r s z h free no_calls) (inr calls) = absurd (true≢false (sym calls ∙ no_calls))

edit_names : (t u : Forest) → Edit t u → Fits root t → (is_script t ≡ true) ⊎ (evaluates_somewhere t ≡ true) → root_names u ≡ root_names t
edit_names t u (leaves a x c) fits h = left_there a x (in_its_program a x (leaves_inner a x (leaves_asks a x c)) fits) c h
edit_names t u (becomes a x y c) fits h = replaced_there a x y (in_its_program a x (asking_inner x.kind (becomes_asks a x y c fits).0) fits) (becomes_named a x y c fits) h
edit_names t u (merges v w c) fits h = merged_names v w c h
edit_names t u (passes v w c) fits h = passed_names v w c h

-- a script stays one, and no edit brings in a call of `eval`

script_left : (a : Around) → InProgram a → (x : Option Tree) → is_script (plug a x) ≡ is_script (without a)
script_left a (in_program source n b rest) x = refl

script_replaced : (a : Around) → InProgram a → (x y : Option Tree) → is_script (plug a x) ≡ is_script (plug a y)
script_replaced a (in_program source n b rest) x y = refl

edit_script : (t u : Forest) → Edit t u → Fits root t → is_script t ≡ is_script u
edit_script t u (leaves a x c) fits = script_left a (in_its_program a x (leaves_inner a x (leaves_asks a x c)) fits) (Some x)
edit_script t u (becomes a x y c) fits = script_replaced a (in_its_program a x (asking_inner x.kind (becomes_asks a x y c fits).0) fits) (Some x) (Some y)
edit_script _ _ (merges _ _ (imports_merge n m r s h no_calls)) fits = refl
edit_script _ _ (passes _ _ (exports_pass n m ns r s z h free no_calls)) fits = refl

edit_evaluates : (t u : Forest) → Edit t u → Fits root t → evaluates_somewhere u ≡ true → evaluates_somewhere t ≡ true
edit_evaluates t u e fits h = elim (edit_cuts t u e fits) [
  | inl c ↦ below_stays false t u c refl (fits_program t fits) h
  | inr (inl m) ↦ sym (same_evaluates t u m) ∙ h
  | inr (inr p) ↦ sym (passed.same_evaluates t u p) ∙ h
]

-- ---- edits

bare_evaluates : (t u : Forest) → bare t ≡ bare u → evaluates_somewhere t ≡ evaluates_somewhere u
bare_evaluates t u same = sym (bare_below t) ∙ ap evaluates_somewhere same ∙ bare_below u

bare_scripts : (t u : Forest) → bare t ≡ bare u → is_script t ≡ is_script u
bare_scripts t u same = sym (bare_script t) ∙ ap is_script same ∙ bare_script u

bare_names : (s : Sought) (t : Forest) → names_of s (bare t) ≡ names_of s t
bare_names s nothing = refl
bare_names s (absent r) = bare_names s r
bare_names s (node k n a r) = ap₂ (λ v w. (names_in (declared_here s 0 k) ++ v) ++ w) (bare_names (sought_below s k) a) (bare_names s r)

bare_declared : (k : Kind) (t : Forest) → names_in (declared_at_root k (bare t)) ≡ names_in (declared_at_root k t)
bare_declared (Kind.Program source) t = let s = scope (at_top source) in names_anywhere s 1 (bare t) ∙ bare_names s t ∙ sym (names_anywhere s 1 t)
bare_declared k t = refl

bare_root : (t : Forest) → root_names (bare t) ≡ root_names t
bare_root nothing = refl
bare_root (absent r) = refl
bare_root (node k n a r) = bare_declared k a

renoted_names : (t u : Forest) → bare t ≡ bare u → root_names u ≡ root_names t
renoted_names t u same = sym (bare_root u) ∙ ap root_names (sym same) ∙ bare_root t

edits_evaluate : {t u : Forest} → Edits t u → Fits root t → evaluates_somewhere u ≡ true → evaluates_somewhere t ≡ true
edits_evaluate (no_edit t u same) fits h = bare_evaluates t u same ∙ h
edits_evaluate (one_edit t v w u same e more) fits h =
    let before = renoted_fits t v same fits in
    bare_evaluates t v same ∙ edit_evaluates v w e before (edits_evaluate more (edit_fits v w e before) h)

pub edits_names : {t u : Forest} → Edits t u → Fits root t → HasSharedNames t u → root_names u ≡ root_names t
edits_names (no_edit t u same) fits h = renoted_names t u same
edits_names (one_edit t v w u same e more) fits h =
    let before = renoted_fits t v same fits in
    let after = edit_fits v w e before in
    edits_names more after (later h) ∙ edit_names v w e before (now h) ∙ renoted_names t v same
  where
    later : HasSharedNames t u → HasSharedNames w u
    later (inl script) = inl (sym (edit_script v w e (renoted_fits t v same fits)) ∙ sym (bare_scripts t v same) ∙ script)
    later (inr calls) = inr calls

    now : HasSharedNames t u → (is_script v ≡ true) ⊎ (evaluates_somewhere v ≡ true)
    now (inl script) = inl (sym (bare_scripts t v same) ∙ script)
    now (inr calls) = inr (edit_evaluates v w e (renoted_fits t v same fits) (edits_evaluate more (edit_fits v w e (renoted_fits t v same fits)) calls))
