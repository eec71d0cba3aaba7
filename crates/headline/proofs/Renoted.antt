-- A program without dead code has none with other notes.
use Rattle.std.proofs.Common.{◌≡◌, ◌∙◌, ◌+◌, ℕ, suc, List, Bool, true, false, not, ◌&&◌, ◌||◌, Option, Some, None, is_some, if◌then◌else◌, refl, sym, ap, ap₂, subst, inl, inr}
use mathlib.Core.Path.{fun_ext}
use Rattle.js_syntax.specs.declared.node_kind.NodeKind.{NodeKind as Kind}
use Rattle.js_syntax.specs.declared.node_kind.NodeKind.TheVariants.{Function as function, UnaryExpression as unary_expression, BindingName as binding_name, ReferenceName as reference_name, ThisExpression as this_expression, Specifiers as specifiers, EmptyStatement as empty_statement, ExpressionStatement as expression_statement, VariableDeclaration as variable_declaration, VariableDeclarator as variable_declarator, ConditionalExpression as conditional_expression, LogicalExpression as logical_expression}
use Rattle.js_syntax.specs.declared.kind.FunctionKind.TheVariants as function_kind
use Rattle.js_syntax.specs.declared.kind.VariableKind.TheVariants as variable
use Rattle.js_syntax.specs.declared.operator.UnaryOperator.TheVariants as unary
use Rattle.js_syntax.specs.Node.{Forest, Tree, Note, nothing, node, absent, alone, nowhere, bare, forest_of}
use Rattle.js_effects.specs.declared.surroundings.Surroundings.{Surroundings}
use Rattle.js_effects.specs.Silence.{is_nothing, is_one_name, runs_its_parts}
use Rattle.js_effects.proofs.Bare.{runs_bare, one_name_bare}
use Rattle.js_meaning_near.specs.Near.{cuts_off}
use Rattle.min_pass.specs.declared.around.Around.{Around as Asked}
use Rattle.min_pass.specs.Around.{is_with, entered as asked_below, outermost as asked_of_program}
use Rattle.min_pass.specs.Pass.{is_given}
use Rattle.scope_rules.specs.Context.{Context, inside, outermost}
use Rattle.scope_rules.specs.Site.{BindingSite, ReferenceSite, opens_one, scope_count, sites_of, bindings_among}
use Rattle.scope_rules.specs.Binding.{named_in, binding_of}
use Rattle.scope_laws.specs.Place.{Around, first, behind, behind_none, under, plug}
use Rattle.scope_laws.proofs.Notes.{unseen, scope_count_bare}
use Rattle.steps.specs.Allowed.Silent.{read_in, inside_of, IsFound, IsSilentNode, IsSilent, HoldsThere}
use Rattle.steps.specs.Allowed.Exposure.{Exposure, exposed_inside, exposed_of, exposed_at, exposure, shares, function_is_exposed, evaluates_somewhere, IsOwnFunction, IsOwnDeclarator}
use Rattle.steps.specs.Allowed.Uses.{Use, use_below, use_there, use_at, matters, stands_bare}
use Rattle.steps.specs.Allowed.Unused.{Taker, somebody, is_nobody, taken_below, taken_there}
use Rattle.steps.specs.Steps.{binds_import}
use Rattle.steps.specs.Allowed.Imports.{ImportRow, elsewhere, import_row_below, import_row, IsImported}
use Rattle.steps.specs.Allowed.Places.{a_node, asked_at, in_class_at, IsItem, IsDeclarator, At, MayStandBare}
use Rattle.steps.specs.Allowed.Free.{Free, FreeDeclarator}
use Rattle.steps.specs.Allowed.SilentStatement.{SilentStatement}
use Rattle.steps.specs.Allowed.UnusedFunction.{a_function}
use Rattle.steps.specs.Allowed.UnusedDeclarator.{a_declarator, SilentDeclarator}
use Rattle.steps.specs.Allowed.UnusedImport.{an_imported}
use Rattle.steps.specs.Allowed.KnownConditional.{KnownConditional, consequent_is_taken, alternate_is_taken}
use Rattle.steps.specs.Allowed.KnownSide.{KnownSide, right_side_counts, left_side_decides}
use Rattle.steps.specs.Allowed.UnusedOperation.{UnusedOperation, one_operand_acts}
use Rattle.steps.specs.Allowed.UnusedList.{UnusedList, acting_parts_stay}
use Rattle.steps.specs.Allowed.IndirectChoice.{IndirectChoice, value_alone_counts, part_counts_behind_test}
use Rattle.steps.specs.Allowed.OneSidedChoice.{OneSidedChoice, one_branch_acts}
use Rattle.steps.specs.Allowed.IdleParts.{sequence_becomes, IdleParts, idle_parts_leave}
use Rattle.steps.specs.Allowed.TwoSides.{TwoSides, both_sides_act}
use Rattle.steps.specs.Allowed.UnusedObject.{UnusedObject, acting_values_stay}
use Rattle.steps.specs.Allowed.KnownOperation.{KnownOperation, value_is_known, negative_is_known}
use Rattle.steps.specs.Allowed.Branches.{declares_none}
use Rattle.steps.specs.Allowed.KnownIf.{KnownIf}
use Rattle.steps.specs.Allowed.DeadIf.{DeadIf}
use Rattle.steps.specs.Allowed.EmptyIf.{EmptyIf}
use Rattle.steps.specs.Allowed.EmptyAlternate.{is_last_below, is_last_at, EmptyAlternate}
use Rattle.steps.specs.Allowed.EmptyBlock.{holds_nothing, EmptyBlock, empty_block_leaves}
use Rattle.steps.specs.Allowed.Unreached.{is_behind_jump, Unreached, never_runs}
use Rattle.steps.specs.Allowed.RepeatedImport.{asks_for, is_asked_before, import_of, RepeatedImport, repeated_import_leaves}
use Rattle.steps.specs.Allowed.IdleTry.{IdleTry}
use Rattle.steps.specs.Allowed.IdleBody.{has_body, stands_as_body, IdleBody, idle_body_empties}
use Rattle.steps.specs.Allowed.IdleStatement.{does_nothing, IdleStatement, idle_leaves}
use Rattle.steps.specs.KeepForm.Part.{declares_one}
use Rattle.steps.specs.Naming.Standing.{layer_of}
use Rattle.steps.specs.Allowed.ValueStays.{ValueStays, value_is_stated}
use Rattle.steps.specs.Allowed.UnrunValue.{passes, is_unrun, is_value_of, is_value, a_zero, UnrunValue, value_never_given}
use Rattle.steps.specs.Allowed.KeptNames.{KeptNames, names_stay}
use Rattle.steps.specs.Allowed.Untaken.{truth_given, untaken_where, is_known, leads_to_untaken, begins_untaken, runs_inside, is_untaken, Untaken, never_taken}
use Rattle.steps.proofs.Owed.Changing.{cuts_bare}
use Rattle.steps.proofs.Owed.ExposedBare.{bare_inside, bare_below, bare_exposed}
use Rattle.steps.proofs.Owed.Focus.{follows_there}
use Rattle.headline.specs.Clean.{IsDead, an_empty_statement, an_empty_block, a_silent_statement, an_unused_function, an_unused_declarator, a_value_of_an_unused_name, an_unused_import, a_known_conditional, a_known_side, an_unused_operation, an_unused_list, an_indirect_choice, a_one_sided_choice, idle_parts, two_sides, an_unused_object, a_known_operation, a_known_if, a_dead_if, an_empty_if, an_empty_alternate, an_unreached_statement, an_untaken_statement, a_statement_of_names, an_unrun_value, an_idle_statement, a_repeated_import, an_idle_try, an_idle_body, CleanBut}
use Rattle.headline.proofs.RenotedImports.{merged_as}
use Rattle.headline.proofs.RenotedPassed.{passed_as}
use Rattle.headline.proofs.RenotedUnused.{stands_as, needed_as, child_as, list_as}
use Rattle.headline.proofs.RenotedChoice.{counts_as, follows_as}
use Rattle.headline.proofs.RenotedParts.{side_as, sequence_as}
use Rattle.headline.proofs.RenotedSides.{two_sides_as, object_as}
use Rattle.headline.proofs.RenotedKnown.{known_as, negative_as, given_bare, truth_as, side_as as known_side_as}
use Rattle.steps.proofs.Owed.EmptyBlock.{holds_bare}
use Rattle.headline.proofs.RenotedIdle.{idle_bare}
use Rattle.headline.proofs.RenotedTry.{idle_try_as}
use Rattle.headline.proofs.RenotedRows.{same_below, same_rest, same_kind, same_absent, nothing_node, nothing_absent, absent_node, nothing_bare, begins, opened, before_one, before_two}
use Rattle.headline.proofs.RenotedValue.{stated_as, declared_as}
use Rattle.headline.proofs.RenotedIf.{declares_bare, known_if_as, dead_if_as, empty_if_as, empty_alternate_as}
use Rattle.headline.proofs.RenotedNames.{names_as}
use Rattle.headline.proofs.RenotedSites.{free_as, inside_same, opens_same, same_binding}

-- ---- what stands behind a node

place_as : (next : ℕ) (k : Kind) (n m : Note) (f g : Forest) → bare f ≡ bare g → next + scope_count (node k n f nothing) ≡ next + scope_count (node k m g nothing)
place_as next k n m f g e = ap (λ (i : ℕ). next + i) (unseen scope_count scope_count_bare (node k n f nothing) (node k m g nothing) (ap (λ x. node k nowhere x nothing) e))

-- ---- what is silent

found_as : (bs ds : List BindingSite) → ((r : ReferenceSite) → binding_of bs r ≡ binding_of ds r) → (w : Surroundings) (c : Context) (k : Kind) (n m : Note) (f g : Forest) → bare f ≡ bare g → IsFound bs w c k n f → IsFound ds w c k m g
found_as bs ds same w c (reference_name x) n m f g e (outside, inl h) = (outside, inl (ap is_some (sym (same (read_in c m x))) ∙ h))
found_as bs ds same w c (reference_name x) n m f g e (outside, inr h) = (outside, inr h)
found_as bs ds same w c (unary_expression unary.Typeof) n m f g e h = (h.0, sym (one_name_bare g) ∙ ap is_one_name (sym e) ∙ one_name_bare f ∙ h.1)
found_as bs ds same w c this_expression n m f g e h = h
found_as bs ds same w c k n m f g e h = absurd h

silent_node : (bs ds : List BindingSite) → ((r : ReferenceSite) → binding_of bs r ≡ binding_of ds r) → (w : Surroundings) (c : Context) (k : Kind) (n m : Note) (f g : Forest) → bare f ≡ bare g → (parts now : Type 0) → (parts → now)
    → IsSilentNode bs w c k n f parts → IsSilentNode ds w c k m g now
silent_node bs ds same w c k n m f g e parts now then_ (inl h) = inl h
silent_node bs ds same w c k n m f g e parts now then_ (inr (inl h)) = inr (inl (found_as bs ds same w c k n m f g e h))
silent_node bs ds same w c k n m f g e parts now then_ (inr (inr h)) = inr (inr (sym (runs_bare k g) ∙ ap (runs_its_parts k) (sym e) ∙ runs_bare k f ∙ h.0, then_ h.1))

silent_as : (bs ds : List BindingSite) → ((r : ReferenceSite) → binding_of bs r ≡ binding_of ds r) → (w : Surroundings) (cs : ℕ → Context) (at next : ℕ) (f g : Forest) → bare f ≡ bare g
    → IsSilent bs w cs at next f → IsSilent ds w cs at next g
silent_as bs ds same w cs at next nothing nothing e h = tt
silent_as bs ds same w cs at next nothing (absent g) e h = absurd (nothing_absent e)
silent_as bs ds same w cs at next nothing (node l m c g) e h = absurd (nothing_node e)
silent_as bs ds same w cs at next (absent f) nothing e h = absurd (nothing_absent (sym e))
silent_as bs ds same w cs at next (absent f) (absent g) e h = silent_as bs ds same w cs (suc at) next f g (same_absent e) h
silent_as bs ds same w cs at next (absent f) (node l m c g) e h = absurd (absent_node e)
silent_as bs ds same w cs at next (node k n b f) nothing e h = absurd (nothing_node (sym e))
silent_as bs ds same w cs at next (node k n b f) (absent g) e h = absurd (absent_node (sym e))
silent_as bs ds same w cs at next (node k n b f) (node l m c g) e h =
    let inner = same_below e in
    let after = next + scope_count (node k n b nothing) in
    let parts : IsSilent bs w (inside (cs at) next k b) 0 (next + opens_one k b) b → IsSilent ds w (inside (cs at) next k c) 0 (next + opens_one k c) c = λ p.
    subst (λ (i : ℕ). IsSilent ds w (inside (cs at) next k c) 0 (next + i) c) (opens_same k b c inner)
    (subst (λ (es : ℕ → Context). IsSilent ds w es 0 (next + opens_one k b) c) (inside_same (cs at) next k b c inner) (silent_as bs ds same w (inside (cs at) next k b) 0 (next + opens_one k b) b c inner p)) in
    let here : IsSilent ds w cs at next (node k m c g) = (
      silent_node bs ds same w (cs at) k n m b c inner (IsSilent bs w (inside (cs at) next k b) 0 (next + opens_one k b) b) (IsSilent ds w (inside (cs at) next k c) 0 (next + opens_one k c) c) parts h.0,
      subst (λ (i : ℕ). IsSilent ds w cs (suc at) i g) (place_as next k n m b c inner) (silent_as bs ds same w cs (suc at) after f g (same_rest e) h.1),
    ) in
    subst (λ j. IsSilent ds w cs at next (node j m c g)) (same_kind e) here

-- ---- exposures

exposed_same : (e : Exposure) (k : Kind) (f g : Forest) → bare f ≡ bare g → exposed_inside e k f ≡ exposed_inside e k g
exposed_same e k f g h = fun_ext (λ i. unseen (λ t. exposed_inside e k t i) (λ t. bare_inside k e t i) f g h)

-- ---- the same place

-- a place further in than this row
abbrev is_further : Around → Bool
is_further (under k n a rest) = true
is_further a = false

-- a node in front of the rest of its row
abbrev is_end : Around → Bool
is_end (first rest) = true
is_end a = false

value_behind : (j k : Kind) (n : Note) (b : Forest) (a : Around) → is_value_of j (behind k n b a) ≡ (if is_end a then is_value_of j (behind k n b (first nothing)) else false)
value_behind Kind.VariableDeclarator k n b (first rest) = refl
value_behind Kind.VariableDeclarator k n b (behind l i c a) = refl
value_behind Kind.VariableDeclarator k n b (behind_none a) = refl
value_behind Kind.VariableDeclarator k n b (under l i a rest) = refl
value_behind j k n b (first rest) = refl
value_behind j k n b (behind l i c a) = refl
value_behind j k n b (behind_none a) = refl
value_behind j k n b (under l i a rest) = refl

same_behind_value : (v j : Kind) (m i : Note) (c d : Forest) (a : Around) → (if is_end a then is_value_of v (behind j m c (first nothing)) else false) ≡ is_value_of v (behind j i d a)
same_behind_value Kind.VariableDeclarator j m i c d (first rest) = refl
same_behind_value Kind.VariableDeclarator j m i c d (behind l o e a) = refl
same_behind_value Kind.VariableDeclarator j m i c d (behind_none a) = refl
same_behind_value Kind.VariableDeclarator j m i c d (under l o a rest) = refl
same_behind_value v j m i c d (first rest) = refl
same_behind_value v j m i c d (behind l o e a) = refl
same_behind_value v j m i c d (behind_none a) = refl
same_behind_value v j m i c d (under l o a rest) = refl

no_value_first : (v : Kind) (r s : Forest) → is_value_of v (first r) ≡ is_value_of v (first s)
no_value_first Kind.VariableDeclarator r s = refl
no_value_first v r s = refl

no_value_behind_none : (v : Kind) (a b : Around) → is_value_of v (behind_none a) ≡ is_value_of v (behind_none b)
no_value_behind_none Kind.VariableDeclarator a b = refl
no_value_behind_none v a b = refl

no_value_under : (v j : Kind) (m i : Note) (a b : Around) (r s : Forest) → is_value_of v (under j m a r) ≡ is_value_of v (under j i b s)
no_value_under Kind.VariableDeclarator j m i a b r s = refl
no_value_under v j m i a b r s = refl

where_behind : (k : Kind) (n : Note) (b : Forest) (a : Around) → untaken_where (behind k n b a) ≡ (if is_further a then Some true else None)
where_behind k n b (under l i a rest) = refl
where_behind k n b (first rest) = refl
where_behind k n b (behind l i c a) = refl
where_behind k n b (behind_none a) = refl

begins_as : (k : Kind) (a b : Around) → leads_to_untaken a ≡ leads_to_untaken b → begins_untaken k a ≡ begins_untaken k b
begins_as Kind.IfStatement a b e = e
begins_as k a b e = refl

more_bare : (t : Forest) → is_nothing (bare t) ≡ is_nothing t
more_bare nothing = refl
more_bare (absent r) = refl
more_bare (node k n a r) = refl

more_same : (t u : Forest) → bare t ≡ bare u → not (is_nothing t) ≡ not (is_nothing u)
more_same t u e = ap not (sym (more_bare t) ∙ ap is_nothing e ∙ more_bare u)

-- The place in another tree, with what stands there.
record Twin (t : Forest) (a : Around) (k : Kind) (n : Note) (b : Forest) : Type 1 where
  around : Around
  note : Note
  below : Forest
  is : t ≡ plug around (a_node k note below)
  same : bare below ≡ bare b
  asked : (w : Asked) → asked_at w around ≡ asked_at w a
  used : (us : ℕ → Use) (at : ℕ) → use_there us at around ≡ use_there us at a
  unused : (ts : ℕ → Bool → Taker) (at : ℕ) → taken_there ts at around ≡ taken_there ts at a
  jumped : (j : Bool) → is_behind_jump j around ≡ is_behind_jump j a
  requested : (source : List ℕ) (q : Bool) → is_asked_before source q around ≡ is_asked_before source q a
  untaken : (q : Bool) → is_untaken q around ≡ is_untaken q a
  unrun : (q : Bool) → is_unrun q around ≡ is_unrun q a
  value_of : (j : Kind) → is_value_of j around ≡ is_value_of j a
  value : is_value around ≡ is_value a
  bodied : (begun : Bool) → stands_as_body begun around ≡ stands_as_body begun a
  last : (lasts : ℕ → Bool) (at : ℕ) → is_last_at lasts at around ≡ is_last_at lasts at a
  ends : is_end around ≡ is_end a
  further : is_further around ≡ is_further a
  untaken_there : untaken_where around ≡ untaken_where a
  leads : leads_to_untaken around ≡ leads_to_untaken a
  imported : (r : ImportRow) → import_row r around ≡ import_row r a
  exposed : (es : ℕ → Exposure) (at : ℕ) → exposed_at es at around (a_node k note below) ≡ exposed_at es at a (a_node k n b)
  holds : (P : Bool → Context → ℕ → Type 0) (w : Bool) (cs : ℕ → Context) (at next : ℕ) → HoldsThere w cs at next a (a_node k n b) P → HoldsThere w cs at next around (a_node k note below) P

twin : (a : Around) (k : Kind) (n : Note) (b : Forest) (t : Forest) → bare t ≡ bare (plug a (a_node k n b)) → Twin t a k n b
twin (first rest) k n b nothing e = absurd (nothing_node e)
twin (first rest) k n b (absent r) e = absurd (absent_node e)
twin (first rest) k n b (node l m c r) e = record {
  around = first r;
  note = m;
  below = c;
  is = ap (λ j. node j m c r) (same_kind e);
  same = same_below e;
  asked = λ w. refl;
  used = λ us at. refl;
  unused = λ ts at. ap (ts at) (more_same r rest (same_rest e));
  jumped = λ q. refl;
  requested = λ source q. refl;
  untaken = λ q. refl;
  unrun = λ q. refl;
  value_of = λ j. no_value_first j _ _;
  value = refl;
  bodied = λ begun. refl;
  last = λ lasts at. refl;
  ends = refl;
  further = refl;
  untaken_there = refl;
  leads = refl;
  imported = λ r. refl;
  exposed = λ es at. refl;
  holds = λ P w cs at next h. h;
}
twin (behind j i d a) k n b nothing e = absurd (nothing_node e)
twin (behind j i d a) k n b (absent r) e = absurd (absent_node e)
twin (behind j i d a) k n b (node l m c r) e =
    let o = twin a k n b r (same_rest e) in
    record {
      around = behind j m c o.around;
      note = o.note;
      below = o.below;
      is = ap₂ (λ x y. node x m c y) (same_kind e) o.is;
      same = o.same;
      asked = o.asked;
      used = λ us at. o.used us (suc at);
      unused = λ ts at. o.unused ts (suc at);
      jumped = λ q. o.jumped (q || cuts_off j c) ∙ ap (λ b. is_behind_jump (q || b) a) (unseen (cuts_off j) (cuts_bare j) c d (same_below e));
      requested = λ source q. o.requested source (q || asks_for source j);
      untaken = o.untaken;
      unrun = o.unrun;
      value_of = λ v. value_behind v j m c o.around ∙ ap (λ b. if b then is_value_of v (behind j m c (first nothing)) else false) o.ends ∙ same_behind_value v j m i c d a;
      value = o.value;
      bodied = o.bodied;
      last = λ lasts at. o.last lasts (suc at);
      ends = refl;
      further = refl;
      untaken_there = where_behind j m c o.around ∙ ap (λ b. if b then Some true else None) o.further ∙ sym (where_behind j i d a);
      leads = ap₂ (λ x y. is_known x y) o.untaken_there (sym (given_bare j m c) ∙ ap (truth_given j nowhere) (same_below e) ∙ given_bare j i d);
      imported = o.imported;
      exposed = λ es at. o.exposed es (suc at);
      holds = λ P w cs at next h. subst (λ (q : ℕ). HoldsThere w cs (suc at) q o.around (a_node k o.note o.below) P) (sym (place_as next j m i c d (same_below e))) (o.holds P w cs (suc at) (next + scope_count (node j i d nothing)) h);
    }
twin (behind_none a) k n b nothing e = absurd (nothing_absent e)
twin (behind_none a) k n b (node l m c r) e = absurd (absent_node (sym e))
twin (behind_none a) k n b (absent r) e =
    let o = twin a k n b r (same_absent e) in
    record {
      around = behind_none o.around;
      note = o.note;
      below = o.below;
      is = ap absent o.is;
      same = o.same;
      asked = o.asked;
      used = λ us at. o.used us (suc at);
      unused = λ ts at. o.unused ts (suc at);
      jumped = o.jumped;
      requested = o.requested;
      untaken = o.untaken;
      unrun = o.unrun;
      value_of = λ v. no_value_behind_none v o.around a;
      value = o.value;
      bodied = o.bodied;
      last = λ lasts at. o.last lasts (suc at);
      ends = refl;
      further = refl;
      untaken_there = refl;
      leads = refl;
      imported = o.imported;
      exposed = λ es at. o.exposed es (suc at);
      holds = λ P w cs at next h. o.holds P w cs (suc at) next h;
    }
twin (under j i a rest) k n b nothing e = absurd (nothing_node e)
twin (under j i a rest) k n b (absent r) e = absurd (absent_node e)
twin (under j i a rest) k n b (node l m c r) e =
    let o = twin a k n b c (same_below e) in
    let x = a_node k n b in
    let y = a_node k o.note o.below in
    let inner : bare (plug a x) ≡ bare (plug o.around y) = sym (same_below e) ∙ ap bare o.is in
    record {
      around = under j m o.around r;
      note = o.note;
      below = o.below;
      is = ap₂ (λ x y. node x m y r) (same_kind e) o.is;
      same = o.same;
      asked = λ w. o.asked (asked_below w j);
      used = λ us at. o.used (λ i. use_below (us at) j i) 0;
      unused = λ ts at. o.unused (taken_below (ts at (not (is_nothing r))) j) 0 ∙ ap (λ more. taken_there (taken_below (ts at more) j) 0 a) (more_same r rest (same_rest e));
      jumped = λ q. o.jumped false;
      requested = λ source q. o.requested source false;
      untaken = λ q. ap (λ f. is_untaken f o.around) (ap (λ b. q && runs_inside j || b) (begins_as j o.around a o.leads)) ∙ o.untaken (q && runs_inside j || begins_untaken j a);
      unrun = λ q. ap (λ f. is_unrun f o.around) (ap (λ b. q && passes j || b) (begins_as j o.around a o.leads)) ∙ o.unrun (q && passes j || begins_untaken j a);
      value_of = λ v. no_value_under v j m i o.around a _ _;
      value = ap₂ (λ b c. b || c) (o.value_of j) o.value;
      bodied = λ begun. o.bodied (has_body j);
      last = λ lasts at. o.last (λ i. is_last_below (lasts at) j i) 0;
      ends = refl;
      further = refl;
      untaken_there = refl;
      leads = refl;
      imported = λ r. o.imported (import_row_below r j);
      exposed = λ es at. ap (λ (fs : ℕ → Exposure). exposed_at fs 0 o.around y) (sym (exposed_same (es at) j (plug a x) (plug o.around y) inner)) ∙ o.exposed (exposed_inside (es at) j (plug a x)) 0;
      holds = λ P w cs at next h.
          subst (λ (q : ℕ). HoldsThere (w || is_with j) (inside (cs at) next j (plug o.around y)) 0 (next + q) o.around y P) (opens_same j (plug a x) (plug o.around y) inner)
          (subst (λ (ds : ℕ → Context). HoldsThere (w || is_with j) ds 0 (next + opens_one j (plug a x)) o.around y P) (inside_same (cs at) next j (plug a x) (plug o.around y) inner)
          (o.holds P (w || is_with j) (inside (cs at) next j (plug a x)) 0 (next + opens_one j (plug a x)) h));
    }

-- ---- whole programs

beside_bare : (t : Forest) → exposed_of (bare t) ≡ exposed_of t
beside_bare t = fun_ext (bare_exposed t)

module _ (t u : Forest) (e : bare t ≡ bare u) where
  evaluates_same : evaluates_somewhere t ≡ evaluates_somewhere u
  evaluates_same = unseen evaluates_somewhere bare_below t u e

  silent_in : (w : Surroundings) (cs : ℕ → Context) (at next : ℕ) (f g : Forest) → bare f ≡ bare g → IsSilent (bindings_among (sites_of u)) w cs at next f
      → IsSilent (bindings_among (sites_of t)) w cs at next g
  silent_in w cs at next f g h s = silent_as (bindings_among (sites_of u)) (bindings_among (sites_of t)) (λ r. sym (same_binding t u e r)) w cs at next f g h s

  statement_as : (f g : Forest) → bare f ≡ bare g → (class w : Bool) (c : Context) (next : ℕ) → SilentStatement u f class w c next → SilentStatement t g class w c next
  statement_as f g h class w c next s =
      subst (λ (i : ℕ). IsSilent (bindings_among (sites_of t)) (inside_of class w) (inside c next expression_statement g) 0 (next + i) g) (opens_same expression_statement f g h)
      (subst (λ (ds : ℕ → Context). IsSilent (bindings_among (sites_of t)) (inside_of class w) ds 0 (next + opens_one expression_statement f) g) (inside_same c next expression_statement f g h)
      (silent_in (inside_of class w) (inside c next expression_statement f) 0 (next + opens_one expression_statement f) f g h s))

  given_same : (f g : Forest) → bare f ≡ bare g → is_given f ≡ is_given g
  given_same f g h = unseen is_given by f g h
    where
      by : (x : Forest) → is_given (bare x) ≡ is_given x
      by nothing = refl
      by (absent r) = refl
      by (node k n b r) = refl

  declarator_as : (x : List ℕ) (m n : Note) (f g : Forest) → bare f ≡ bare g → (class w : Bool) (c : Context) (next : ℕ) → SilentDeclarator u (node (binding_name x) m nothing f) class w c next
      → SilentDeclarator t (node (binding_name x) n nothing g) class w c next
  declarator_as x m n f g h class w c next s = (ap (λ b. w && b) (sym (given_same f g h)) ∙ s.0, silent_in (inside_of class w) (inside c next variable_declarator (node (binding_name x) m nothing f)) 1 (next + 0 + 0) f g h s.1)

-- ---- dead code

module _ (unused imports : Bool) (t u : Forest) (e : bare t ≡ bare u) (clean : CleanBut unused imports t) where
  other_place : (a : Around) (k : Kind) (n : Note) (b : Forest) → u ≡ plug a (a_node k n b) → Twin t a k n b
  other_place a k n b is = twin a k n b t (e ∙ ap bare is)

  item_as : {k : Kind} {n : Note} {b : Forest} (a : Around) (o : Twin t a k n b) → IsItem a → IsItem o.around
  item_as a o h = ap (λ (w : Asked). w.row) (o.asked (asked_of_program true)) ∙ h

  declares_as : {k : Kind} {n : Note} {b : Forest} (a : Around) (o : Twin t a k n b) → IsDeclarator a → IsDeclarator o.around
  declares_as a o h = ap (λ (w : Asked). w.row) (o.asked (asked_of_program true)) ∙ h

  class_as : {k : Kind} {n : Note} {b : Forest} (a : Around) (o : Twin t a k n b) → in_class_at o.around ≡ in_class_at a
  class_as a o = ap (λ (w : Asked). w.in_class) (o.asked (asked_of_program true))

  exposure_as : {k : Kind} {n : Note} {b : Forest} (a : Around) (o : Twin t a k n b) → u ≡ plug a (a_node k n b) → exposure o.around (a_node k o.note o.below) ≡ exposure a (a_node k n b)
  exposure_as {k = k} {n = n} {b = b} a o is =
      let now = plug o.around (a_node k o.note o.below) in
      let then_ = plug a (a_node k n b) in
      let same : bare now ≡ bare then_ = sym (ap bare o.is) ∙ e ∙ ap bare is in
      ap (λ (es : ℕ → Exposure). exposed_at es 0 o.around (a_node k o.note o.below)) (unseen exposed_of beside_bare now then_ same) ∙ o.exposed (exposed_of then_) 0

  evaluates_as : {k : Kind} {n : Note} {b : Forest} (a : Around) (o : Twin t a k n b) → u ≡ plug a (a_node k n b)
      → evaluates_somewhere (plug o.around (a_node k o.note o.below)) ≡ evaluates_somewhere (plug a (a_node k n b))
  evaluates_as a o is = unseen evaluates_somewhere bare_below _ _ (sym (ap bare o.is) ∙ e ∙ ap bare is)

  no_empty : (a : Around) (n : Note) → u ≡ plug a (a_node empty_statement n nothing) → IsItem a → ⊥
  no_empty a n is item =
      let o = other_place a empty_statement n nothing is in
      let below = nothing_bare o.below o.same in
      clean.nothing_is_dead o.around (a_node empty_statement o.note nothing) (o.is ∙ ap (λ b. plug o.around (a_node empty_statement o.note b)) below) (an_empty_statement o.around o.note (item_as a o item))

  no_silent : (a : Around) (n : Note) (b : Forest) → u ≡ plug a (a_node expression_statement n b) → At a (a_node expression_statement n b) (SilentStatement u b (in_class_at a)) → ⊥
  no_silent a n b is silent =
      let o = other_place a expression_statement n b is in
      clean.nothing_is_dead o.around (a_node expression_statement o.note o.below) o.is
      (a_silent_statement o.around o.note o.below
      (subst (λ class. At o.around (a_node expression_statement o.note o.below) (SilentStatement t o.below class)) (sym (class_as a o))
      (follows_there (SilentStatement u b (in_class_at a)) (SilentStatement t o.below (in_class_at a)) (statement_as t u e b o.below (sym o.same) (in_class_at a)) (a_node expression_statement o.note o.below) o.around false (λ at. outermost) 0 0
      (o.holds (SilentStatement u b (in_class_at a)) false (λ at. outermost) 0 0 silent))))

  no_function : (a : Around) (pure : Bool) (n m : Note) (x : List ℕ) (rest : Forest) → u ≡ plug a (a_function pure n m x rest) → unused ≡ false → IsItem a → IsOwnFunction a (a_function pure n m x rest)
      → At a (a_function pure n m x rest) (Free u variable.Let x) → ⊥
  no_function a pure n m x rest is goes item own free =
      let k = function function_kind.Declaration pure in
      let b = node (binding_name x) m nothing rest in
      let o = other_place a k n b is in
      let f = begins o.below x m rest o.same in
      let now : (t ≡ plug o.around (a_node k o.note o.below)) × (function_is_exposed (exposure o.around (a_node k o.note o.below)) ≡ false) × At o.around (a_node k o.note o.below) (Free t variable.Let x) = (
        o.is,
        ap function_is_exposed (exposure_as a o is) ∙ own,
        follows_there (Free u variable.Let x) (Free t variable.Let x) (λ v c i h. free_as t u e (named_in x c.block) h) (a_node k o.note o.below) o.around false (λ at. outermost) 0 0
            (o.holds (Free u variable.Let x) false (λ at. outermost) 0 0 free),
      ) in
      let there = subst (λ d. (t ≡ plug o.around (a_node k o.note d)) × (function_is_exposed (exposure o.around (a_node k o.note d)) ≡ false) × At o.around (a_node k o.note d) (Free t variable.Let x)) f.is now in
      clean.nothing_is_dead o.around (a_function pure o.note f.note x f.rest_now) there.0 (an_unused_function o.around pure o.note f.note x f.rest_now goes (item_as a o item) there.1 there.2)

  no_declarator : (a : Around) (n m : Note) (x : List ℕ) (value : Forest) → u ≡ plug a (a_declarator n m x value) → unused ≡ false → IsDeclarator a → IsOwnDeclarator a (a_declarator n m x value)
      → At a (a_declarator n m x value) (SilentDeclarator u (node (binding_name x) m nothing value) (in_class_at a)) → At a (a_declarator n m x value) (FreeDeclarator u x) → ⊥
  no_declarator a n m x value is goes declares own silent free =
      let k = variable_declarator in
      let b = node (binding_name x) m nothing value in
      let o = other_place a k n b is in
      let f = begins o.below x m value o.same in
      let quiet = SilentDeclarator t (node (binding_name x) f.note nothing f.rest_now) in
      let class = in_class_at a in
      let now : (t ≡ plug o.around (a_node k o.note o.below)) × ((exposure o.around (a_node k o.note o.below)).declared_shared || evaluates_somewhere (plug o.around (a_node k o.note o.below)) ≡ false)
      × At o.around (a_node k o.note o.below) (quiet (in_class_at o.around)) × At o.around (a_node k o.note o.below) (FreeDeclarator t x) = (
        o.is,
        ap₂ (λ (q : Exposure) v. q.declared_shared || v) (exposure_as a o is) (evaluates_as a o is) ∙ own,
        subst (λ v. At o.around (a_node k o.note o.below) (quiet v)) (sym (class_as a o))
            (follows_there (SilentDeclarator u b class) (quiet class) (declarator_as t u e x m f.note value f.rest_now f.same class) (a_node k o.note o.below) o.around false (λ at. outermost) 0 0 (o.holds (SilentDeclarator u b class) false (λ at. outermost) 0 0 silent)),
        follows_there (FreeDeclarator u x) (FreeDeclarator t x) (λ v c i h. free_as t u e (named_in x c.declaring.layer) h) (a_node k o.note o.below) o.around false (λ at. outermost) 0 0
            (o.holds (FreeDeclarator u x) false (λ at. outermost) 0 0 free),
      ) in
      let there = subst (λ d. (t ≡ plug o.around (a_node k o.note d)) × ((exposure o.around (a_node k o.note d)).declared_shared || evaluates_somewhere (plug o.around (a_node k o.note d)) ≡ false)
      × At o.around (a_node k o.note d) (quiet (in_class_at o.around)) × At o.around (a_node k o.note d) (FreeDeclarator t x)) f.is now in
      clean.nothing_is_dead o.around (a_declarator o.note f.note x f.rest_now) there.0
      (an_unused_declarator o.around o.note f.note x f.rest_now goes (declares_as a o declares) there.1 there.2 there.3)

  no_stated : (a : Around) (x y : Tree) → u ≡ plug a (Some x) → unused ≡ false → ValueStays a x y → ⊥
  no_stated a _ _ is goes (value_is_stated how n m l j i out x k b may item without own free) =
      let d = variable_declaration how in
      let old = declares_one m l j x (alone k i b) in
      let o = other_place a d n old is in
      let f = declared_as o.below m l j i x k b o.same in
      let there : Forest → Forest = λ c. plug o.around (a_node d o.note c) in
      let then_ = plug a (a_node d n old) in
      let same : bare (there o.below) ≡ bare then_ = sym (ap bare o.is) ∙ e ∙ ap bare is in
      let now : (t ≡ there o.below) × (shares (exposure o.around (a_node d o.note o.below)) how || evaluates_somewhere (there o.below) ≡ false) × At o.around (a_node d o.note o.below) (Free (there o.below) how x) = (
        o.is,
        ap₂ (λ (q : Exposure) v. shares q how || v) (exposure_as a o is) (evaluates_as a o is) ∙ own,
        follows_there (Free then_ how x) (Free (there o.below) how x) (λ v c w h. free_as (there o.below) then_ same (named_in x (layer_of how c)) h) (a_node d o.note o.below) o.around false (λ at. outermost) 0 0
            (o.holds (Free then_ how x) false (λ at. outermost) 0 0 free),
      ) in
      let at_place = subst (λ c. (t ≡ there c) × (shares (exposure o.around (a_node d o.note c)) how || evaluates_somewhere (there c) ≡ false) × At o.around (a_node d o.note c) (Free (there c) how x)) f.is now in
      let outside_with = ap (λ (w : Asked). w.in_with) (o.asked (asked_of_program true)) ∙ without in
      clean.nothing_is_dead o.around _ at_place.0
      (a_value_of_an_unused_name o.around _ _ goes
      (value_is_stated how o.note f.list_note f.declarator_note f.name_note f.value_note out x k f.value_below (stated_as k f.value_below b f.same may) (item_as a o item) outside_with at_place.1 at_place.2))

  no_import : (a : Around) (k : Kind) (n m : Note) (x : List ℕ) → u ≡ plug a (an_imported k n m x) → unused ≡ false → imports ≡ false → binds_import k ≡ true → IsImported a → IsOwnDeclarator a (an_imported k n m x) → At a (an_imported k n m x) (FreeDeclarator u x) → ⊥
  no_import a k n m x is goes named binds imported own free =
      let b = node (binding_name x) m nothing nothing in
      let o = other_place a k n b is in
      let f = begins o.below x m nothing o.same in
      let below : o.below ≡ node (binding_name x) f.note nothing nothing = f.is ∙ ap (λ r. node (binding_name x) f.note nothing r) (nothing_bare f.rest_now (sym f.same)) in
      let now : (t ≡ plug o.around (a_node k o.note o.below)) × ((exposure o.around (a_node k o.note o.below)).declared_shared || evaluates_somewhere (plug o.around (a_node k o.note o.below)) ≡ false)
      × At o.around (a_node k o.note o.below) (FreeDeclarator t x) = (
        o.is,
        ap₂ (λ (q : Exposure) v. q.declared_shared || v) (exposure_as a o is) (evaluates_as a o is) ∙ own,
        follows_there (FreeDeclarator u x) (FreeDeclarator t x) (λ v c i h. free_as t u e (named_in x c.declaring.layer) h) (a_node k o.note o.below) o.around false (λ at. outermost) 0 0
            (o.holds (FreeDeclarator u x) false (λ at. outermost) 0 0 free),
      ) in
      let there = subst (λ d. (t ≡ plug o.around (a_node k o.note d)) × ((exposure o.around (a_node k o.note d)).declared_shared || evaluates_somewhere (plug o.around (a_node k o.note d)) ≡ false)
      × At o.around (a_node k o.note d) (FreeDeclarator t x)) below now in
      clean.nothing_is_dead o.around (an_imported k o.note f.note x) there.0 (an_unused_import o.around k o.note f.note x goes named binds (o.imported elsewhere ∙ imported) there.1 there.2)

  bare_as : {k : Kind} {n : Note} {b : Forest} (a : Around) (o : Twin t a k n b) (j : Kind) (c d : Forest) → bare c ≡ bare d → MayStandBare a j d → MayStandBare o.around j c
  bare_as a o j c d same may =
      stands_as (use_at o.around) (asked_at (asked_of_program true) o.around).in_with j c d same
      ∙ ap₂ (λ v (w : Asked). stands_bare v w.in_with j d) (o.used (λ i. Use.as_value) 0) (o.asked (asked_of_program true)) ∙ may

  no_conditional : (a : Around) (x y : Tree) → u ≡ plug a (Some x) → KnownConditional a x y → ⊥
  no_conditional a x y is (consequent_is_taken n m i j t k l d b c truth may) =
      let o = other_place a conditional_expression n (node t m d (node k i b (node l j c nothing))) is in
      let f = before_two o.below t m i j d k b l c o.same in
      clean.nothing_is_dead o.around _ (o.is ∙ ap (λ d. plug o.around (a_node conditional_expression o.note d)) f.is)
      (a_known_conditional o.around _ _ (consequent_is_taken o.note f.note f.first_note f.second_note t k l f.below f.first_below f.second_below (truth_as t f.note m f.below d true f.same_below truth) (bare_as a o k f.first_below b f.same_first may)))
  no_conditional a x y is (alternate_is_taken n m i j t k l d b c truth may) =
      let o = other_place a conditional_expression n (node t m d (node k i b (node l j c nothing))) is in
      let f = before_two o.below t m i j d k b l c o.same in
      clean.nothing_is_dead o.around _ (o.is ∙ ap (λ d. plug o.around (a_node conditional_expression o.note d)) f.is)
      (a_known_conditional o.around _ _ (alternate_is_taken o.note f.note f.first_note f.second_note t k l f.below f.first_below f.second_below (truth_as t f.note m f.below d false f.same_below truth) (bare_as a o l f.second_below c f.same_second may)))

  no_side : (a : Around) (x y : Tree) → u ≡ plug a (Some x) → KnownSide a x y → ⊥
  no_side a x y is (right_side_counts operator n m i t k d b goes may) =
      let o = other_place a (logical_expression operator) n (node t m d (node k i b nothing)) is in
      let f = before_one o.below t m i d k b o.same in
      clean.nothing_is_dead o.around _ (o.is ∙ ap (λ d. plug o.around (a_node (logical_expression operator) o.note d)) f.is)
      (a_known_side o.around _ _ (right_side_counts operator o.note f.note f.first_note t k f.below f.first_below (known_side_as operator t f.note m f.below d true f.same_below goes) (bare_as a o k f.first_below b f.same may)))
  no_side a x y is (left_side_decides operator n m i t k d b stays may) =
      let o = other_place a (logical_expression operator) n (node t m d (node k i b nothing)) is in
      let f = before_one o.below t m i d k b o.same in
      clean.nothing_is_dead o.around _ (o.is ∙ ap (λ d. plug o.around (a_node (logical_expression operator) o.note d)) f.is)
      (a_known_side o.around _ _ (left_side_decides operator o.note f.note f.first_note t k f.below f.first_below (known_side_as operator t f.note m f.below d false f.same_below stays) (bare_as a o t f.below d f.same_below may)))

  no_operation : (a : Around) (x y : Tree) → u ≡ plug a (Some x) → UnusedOperation a x y → ⊥
  no_operation a _ _ is (one_operand_acts i x y unused needed there) =
      let o = other_place a x.kind x.note x.below is in
      let now : Tree = record { kind = x.kind; note = o.note; below = o.below } in
      let z = child_as i o.below x.below y o.same there in
      clean.nothing_is_dead o.around (Some now) o.is
      (an_unused_operation o.around now z.0 (one_operand_acts i now z.0 (ap is_nobody (o.unused (λ j more. somebody) 0) ∙ unused) (needed_as x.kind o.below x.below o.same ∙ needed) z.1))

  no_list : (a : Around) (x y : Tree) → u ≡ plug a (Some x) → UnusedList a x y → ⊥
  no_list a _ _ is (acting_parts_stay n m x y unused becomes) =
      let o = other_place a x.kind x.note x.below is in
      let now : Tree = record { kind = x.kind; note = o.note; below = o.below } in
      let z = list_as n m x.kind o.below x.below y o.same becomes in
      clean.nothing_is_dead o.around (Some now) o.is (an_unused_list o.around now z.0 (acting_parts_stay n m now z.0 (ap is_nobody (o.unused (λ j more. somebody) 0) ∙ unused) z.1))

  no_choice : (a : Around) (x y : Tree) → u ≡ plug a (Some x) → IndirectChoice a x y → ⊥
  no_choice a _ _ is (value_alone_counts n m i x z counts alone) =
      let o = other_place a x.kind x.note x.below is in
      let now : Tree = record { kind = x.kind; note = o.note; below = o.below } in
      let p = counts_as (use_at a) (asked_at (asked_of_program true) a).in_with x.kind o.below x.below z o.same counts alone in
      let alone_now = ap₂ (λ v (w : Asked). matters v w.in_with p.0.kind p.0.below) (o.used (λ j. Use.as_value) 0) (o.asked (asked_of_program true)) ∙ p.2 in
      clean.nothing_is_dead o.around (Some now) o.is (an_indirect_choice o.around now _ (value_alone_counts n m i now p.0 p.1 alone_now))
  no_choice a _ _ is (part_counts_behind_test n m x y follows) =
      let o = other_place a x.kind x.note x.below is in
      let now : Tree = record { kind = x.kind; note = o.note; below = o.below } in
      let z = follows_as n m x.kind o.below x.below y o.same follows in
      clean.nothing_is_dead o.around (Some now) o.is (an_indirect_choice o.around now z.0 (part_counts_behind_test n m now z.0 z.1))

  no_one_sided : (a : Around) (x y : Tree) → u ≡ plug a (Some x) → OneSidedChoice a x y → ⊥
  no_one_sided a _ _ is (one_branch_acts n x y unused acts_alone) =
      let o = other_place a x.kind x.note x.below is in
      let now : Tree = record { kind = x.kind; note = o.note; below = o.below } in
      let z = side_as n x.kind o.below x.below y o.same acts_alone in
      clean.nothing_is_dead o.around (Some now) o.is (a_one_sided_choice o.around now z.0 (one_branch_acts n now z.0 (ap is_nobody (o.unused (λ j more. somebody) 0) ∙ unused) z.1))

  no_idle_parts : (a : Around) (x y : Tree) → u ≡ plug a (Some x) → IdleParts a x y → ⊥
  no_idle_parts a _ _ is (idle_parts_leave n m x y becomes) =
      let o = other_place a x.kind x.note x.below is in
      let now : Tree = record { kind = x.kind; note = o.note; below = o.below } in
      let z = sequence_as (use_at a) (asked_at (asked_of_program true) a).in_with n m x.kind o.below x.below y o.same becomes in
      let becomes_now = ap₂ (λ v (w : Asked). sequence_becomes v w.in_with n m x.kind o.below) (o.used (λ j. Use.as_value) 0) (o.asked (asked_of_program true)) ∙ z.1 in
      clean.nothing_is_dead o.around (Some now) o.is (idle_parts o.around now z.0 (idle_parts_leave n m now z.0 becomes_now))

  no_two_sides : (a : Around) (x y : Tree) → u ≡ plug a (Some x) → TwoSides a x y → ⊥
  no_two_sides a _ _ is (both_sides_act n m x y unused act) =
      let o = other_place a x.kind x.note x.below is in
      let now : Tree = record { kind = x.kind; note = o.note; below = o.below } in
      let z = two_sides_as n m x.kind o.below x.below y o.same act in
      clean.nothing_is_dead o.around (Some now) o.is (two_sides o.around now z.0 (both_sides_act n m now z.0 (ap is_nobody (o.unused (λ j more. somebody) 0) ∙ unused) z.1))

  no_object : (a : Around) (x y : Tree) → u ≡ plug a (Some x) → UnusedObject a x y → ⊥
  no_object a _ _ is (acting_values_stay n m x y unused becomes) =
      let o = other_place a x.kind x.note x.below is in
      let now : Tree = record { kind = x.kind; note = o.note; below = o.below } in
      let z = object_as n m x.kind o.below x.below y o.same becomes in
      clean.nothing_is_dead o.around (Some now) o.is (an_unused_object o.around now z.0 (acting_values_stay n m now z.0 (ap is_nobody (o.unused (λ j more. somebody) 0) ∙ unused) z.1))

  no_known : (a : Around) (x y : Tree) → u ≡ plug a (Some x) → KnownOperation a x y → ⊥
  no_known a _ _ is (value_is_known i v x known) =
      let o = other_place a x.kind x.note x.below is in
      let now : Tree = record { kind = x.kind; note = o.note; below = o.below } in
      clean.nothing_is_dead o.around (Some now) o.is (a_known_operation o.around now _ (value_is_known i v now (known_as x.kind o.note x.note o.below x.below v o.same known)))
  no_known a _ _ is (negative_is_known i j m x known) =
      let o = other_place a x.kind x.note x.below is in
      let now : Tree = record { kind = x.kind; note = o.note; below = o.below } in
      clean.nothing_is_dead o.around (Some now) o.is (a_known_operation o.around now _ (negative_is_known i j m now (negative_as x.kind o.note x.note o.below x.below m o.same known)))

  no_known_if : (a : Around) (x y : Tree) → u ≡ plug a (Some x) → KnownIf x y → ⊥
  no_known_if a x y is known =
      let o = other_place a x.kind x.note x.below is in
      let now : Tree = record { kind = x.kind; note = o.note; below = o.below } in
      let z = known_if_as o.note o.below x y o.same known in
      clean.nothing_is_dead o.around (Some now) o.is (a_known_if o.around now z.0 z.1)

  no_idle_try : (a : Around) (x y : Tree) → u ≡ plug a (Some x) → IdleTry x y → ⊥
  no_idle_try a x y is idle =
      let o = other_place a x.kind x.note x.below is in
      let now : Tree = record { kind = x.kind; note = o.note; below = o.below } in
      let z = idle_try_as o.note o.below x y o.same idle in
      clean.nothing_is_dead o.around (Some now) o.is (an_idle_try o.around now z.0 z.1)

  no_dead_if : (a : Around) (x y : Tree) → u ≡ plug a (Some x) → DeadIf x y → ⊥
  no_dead_if a x y is dead =
      let o = other_place a x.kind x.note x.below is in
      let now : Tree = record { kind = x.kind; note = o.note; below = o.below } in
      let z = dead_if_as o.note o.below x y o.same dead in
      clean.nothing_is_dead o.around (Some now) o.is (a_dead_if o.around now z.0 z.1)

  no_empty_if : (a : Around) (x y : Tree) → u ≡ plug a (Some x) → EmptyIf x y → ⊥
  no_empty_if a x y is empty =
      let o = other_place a x.kind x.note x.below is in
      let now : Tree = record { kind = x.kind; note = o.note; below = o.below } in
      let z = empty_if_as o.note o.below x y o.same empty in
      clean.nothing_is_dead o.around (Some now) o.is (an_empty_if o.around now z.0 z.1)

  no_empty_alternate : (a : Around) (x y : Tree) → u ≡ plug a (Some x) → EmptyAlternate a x y → ⊥
  no_empty_alternate a x y is empty =
      let o = other_place a x.kind x.note x.below is in
      let now : Tree = record { kind = x.kind; note = o.note; below = o.below } in
      let z = empty_alternate_as o.around a o.note o.below x y (o.last (λ i. false) 0) o.same empty in
      clean.nothing_is_dead o.around (Some now) o.is (an_empty_alternate o.around now z.0 z.1)

  no_block : (a : Around) (x : Tree) → u ≡ plug a (Some x) → EmptyBlock a x → ⊥
  no_block a x is (empty_block_leaves item nothing_held) =
      let o = other_place a x.kind x.note x.below is in
      let now : Tree = record { kind = x.kind; note = o.note; below = o.below } in
      let same = unseen (holds_nothing x.kind) (holds_bare x.kind) o.below x.below o.same in
      clean.nothing_is_dead o.around (Some now) o.is (an_empty_block o.around now (empty_block_leaves (item_as a o item) (same ∙ nothing_held)))

  no_unreached : (a : Around) (x : Tree) → u ≡ plug a (Some x) → Unreached a x → ⊥
  no_unreached a x is (never_runs item jump runs none) =
      let o = other_place a x.kind x.note x.below is in
      let now : Tree = record { kind = x.kind; note = o.note; below = o.below } in
      let same = unseen declares_none declares_bare (forest_of now) (forest_of x) (ap (λ b. node x.kind nowhere b nothing) o.same) in
      clean.nothing_is_dead o.around (Some now) o.is (an_unreached_statement o.around now (never_runs (item_as a o item) (o.jumped false ∙ jump) runs (same ∙ none)))

  no_untaken : (a : Around) (x : Tree) → u ≡ plug a (Some x) → Untaken a x → ⊥
  no_untaken a x is (never_taken item taken runs none) =
      let o = other_place a x.kind x.note x.below is in
      let now : Tree = record { kind = x.kind; note = o.note; below = o.below } in
      let same = unseen declares_none declares_bare (forest_of now) (forest_of x) (ap (λ b. node x.kind nowhere b nothing) o.same) in
      clean.nothing_is_dead o.around (Some now) o.is (an_untaken_statement o.around now (never_taken (item_as a o item) (o.untaken false ∙ taken) runs (same ∙ none)))

  no_names : (a : Around) (x y : Tree) → u ≡ plug a (Some x) → KeptNames a x y → ⊥
  no_names a _ _ is (names_stay x y item taken leaves others plain made) =
      let o = other_place a x.kind x.note x.below is in
      let now : Tree = record { kind = x.kind; note = o.note; below = o.below } in
      let z = names_as a o.around o.note o.below x y (item_as a o item) (o.untaken false ∙ taken) o.same (names_stay x y item taken leaves others plain made) in
      clean.nothing_is_dead o.around (Some now) o.is (a_statement_of_names o.around now z.0 z.1)

  no_value : (a : Around) (x y : Tree) → u ≡ plug a (Some x) → UnrunValue a x y → ⊥
  no_value a x _ is (value_never_given n _ given unrun drops) =
      let o = other_place a x.kind x.note x.below is in
      let now : Tree = record { kind = x.kind; note = o.note; below = o.below } in
      clean.nothing_is_dead o.around (Some now) o.is (an_unrun_value o.around now (a_zero n) (value_never_given n now (o.value ∙ given) (o.unrun false ∙ unrun) drops))

  no_idle : (a : Around) (x : Tree) → u ≡ plug a (Some x) → IdleStatement a x → ⊥
  no_idle a x is (idle_leaves item idle none) =
      let o = other_place a x.kind x.note x.below is in
      let now : Tree = record { kind = x.kind; note = o.note; below = o.below } in
      let same = unseen declares_none declares_bare (forest_of now) (forest_of x) (ap (λ b. node x.kind nowhere b nothing) o.same) in
      clean.nothing_is_dead o.around (Some now) o.is (an_idle_statement o.around now (idle_leaves (item_as a o item) (unseen (does_nothing x.kind) (idle_bare x.kind) o.below x.below o.same ∙ idle) (same ∙ none)))

  no_body : (a : Around) (x y : Tree) → u ≡ plug a (Some x) → IdleBody a x y → ⊥
  no_body a _ _ is (idle_body_empties x m body idle none) =
      let o = other_place a x.kind x.note x.below is in
      let now : Tree = record { kind = x.kind; note = o.note; below = o.below } in
      let same = unseen declares_none declares_bare (forest_of now) (forest_of x) (ap (λ b. node x.kind nowhere b nothing) o.same) in
      let held = ap₂ (λ b c. b || c) (unseen (holds_nothing x.kind) (holds_bare x.kind) o.below x.below o.same) (unseen (does_nothing x.kind) (idle_bare x.kind) o.below x.below o.same) in
      clean.nothing_is_dead o.around (Some now) o.is (an_idle_body o.around now _ (idle_body_empties now m (o.bodied false ∙ body) (held ∙ idle) (same ∙ none)))

  no_repeated : (a : Around) (x : Tree) → u ≡ plug a (Some x) → RepeatedImport a x → ⊥
  no_repeated a _ is (repeated_import_leaves source n m item asked) =
      let o = other_place a (import_of source n m).kind n (import_of source n m).below is in
      let f = opened o.below specifiers m nothing nothing o.same in
      let now = import_of source o.note f.note in
      let below : o.below ≡ now.below = f.is ∙ ap₂ (λ b r. node specifiers f.note b r) (nothing_bare f.below_now f.same_below) (nothing_bare f.rest_now f.same_rest) in
      clean.nothing_is_dead o.around (Some now) (o.is ∙ ap (λ b. plug o.around (a_node now.kind o.note b)) below)
      (a_repeated_import o.around now (repeated_import_leaves source o.note f.note (item_as a o item) (o.requested source false ∙ asked)))

  none_dead : (a : Around) (x : Option Tree) → u ≡ plug a x → IsDead unused imports u a x → ⊥
  none_dead a x is (an_empty_statement b n item) = no_empty b n is item
  none_dead a x is (an_empty_block b y held) = no_block b y is held
  none_dead a x is (a_silent_statement b n below silent) = no_silent b n below is silent
  none_dead a x is (an_unused_function b pure n m y rest goes item own free) = no_function b pure n m y rest is goes item own free
  none_dead a x is (an_unused_declarator b n m y value goes item own silent free) = no_declarator b n m y value is goes item own silent free
  none_dead a x is (a_value_of_an_unused_name b y z goes stays) = no_stated b y z is goes stays
  none_dead a x is (an_unused_import b k n m y goes named binds imported own free) = no_import b k n m y is goes named binds imported own free
  none_dead a x is (a_known_conditional b y z known) = no_conditional b y z is known
  none_dead a x is (a_known_side b y z known) = no_side b y z is known
  none_dead a x is (an_unused_operation b y z unneeded) = no_operation b y z is unneeded
  none_dead a x is (an_unused_list b y z unneeded) = no_list b y z is unneeded
  none_dead a x is (an_indirect_choice b y z decides) = no_choice b y z is decides
  none_dead a x is (a_one_sided_choice b y z one_acts) = no_one_sided b y z is one_acts
  none_dead a x is (idle_parts b y z leave) = no_idle_parts b y z is leave
  none_dead a x is (two_sides b y z act) = no_two_sides b y z is act
  none_dead a x is (an_unused_object b y z unneeded) = no_object b y z is unneeded
  none_dead a x is (a_known_operation b y z known) = no_known b y z is known
  none_dead a x is (a_known_if b y z known) = no_known_if b y z is known
  none_dead a x is (a_dead_if b y z dead) = no_dead_if b y z is dead
  none_dead a x is (an_unreached_statement b y unreached) = no_unreached b y is unreached
  none_dead a x is (an_untaken_statement b y untaken) = no_untaken b y is untaken
  none_dead a x is (a_statement_of_names b y z names) = no_names b y z is names
  none_dead a x is (an_idle_statement b y idle) = no_idle b y is idle
  none_dead a x is (an_empty_if b y z empty) = no_empty_if b y z is empty
  none_dead a x is (an_empty_alternate b y z empty) = no_empty_alternate b y z is empty
  none_dead a x is (an_idle_try b y z idle) = no_idle_try b y z is idle
  none_dead a x is (an_idle_body b y z idle) = no_body b y z is idle
  none_dead a x is (an_unrun_value b y z value) = no_value b y z is value
  none_dead a x is (a_repeated_import b y repeated) = no_repeated b y is repeated

pub clean_as : (unused imports : Bool) (t u : Forest) → bare t ≡ bare u → CleanBut unused imports t → CleanBut unused imports u
clean_as unused imports t u e clean = record {
  nothing_is_dead = none_dead unused imports t u e clean;
  imports_are_together = λ v merged. let o = merged_as t u v e merged in clean.imports_are_together o.0 o.1;
  none_is_passed_on = λ v passed. let o = passed_as t u v e passed in clean.none_is_passed_on o.0 o.1;
}
