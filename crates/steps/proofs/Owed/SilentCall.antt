-- A statement of a call of a silent function leaves a list of a core module: every run is kept, and comes back within twice the bound and one
-- more.
use Rattle.std.proofs.Common.{◌≡◌, ◌≤◌, inl, inr, suc, ◌+◌, List, [], ◌∷◌, Bool, true, false, ◌&&◌, ◌||◌, not, Some, arith, refl, sym, subst, true≢false, bytes_eq}
use Rattle.std.proofs.lemmas.Bool.{and_parts}
use Rattle.js_syntax.specs.Class.{root}
use Rattle.js_syntax.specs.declared.node_kind.NodeKind.{NodeKind as Kind}
use Rattle.js_syntax.specs.declared.scalar.SourceType.TheVariants as source_type
use Rattle.js_syntax.specs.Node.{Note, Forest, Tree, nothing, node}
use Rattle.js_syntax.proofs.Truth.{first_of_both, second_of_both, not_true}
use Rattle.js_meaning.specs.Value.{Text, this_name}
use Rattle.js_meaning.specs.Scope.{ready, all_so, bound_names, var_names, lexical, default_name, module_decls}
use Rattle.js_meaning.specs.Module.{entries}
use Rattle.js_meaning.specs.Kept.{Kept, Recovered}
use Rattle.js_meaning_near.specs.Near.{items, module_of}
use Rattle.js_meaning_near.specs.Purpose.{for_values}
use Rattle.js_meaning_near.specs.Known.{DeclaredOnce}
use Rattle.js_meaning_near.proofs.Gone.{gone_rewritten}
use Rattle.js_meaning_near.proofs.Known.{decls_kept}
use Rattle.json_shape.specs.Shape.{one, first_place}
use Rattle.min_pass.specs.Around.{entered as asked_below, outermost as asked_of_program}
use Rattle.min_pass.specs.declared.around.Row.TheVariants.{Items as asked_items}
use Rattle.scope_laws.specs.Place.{Around, first, behind, behind_none, under, plug}
use Rattle.scope_laws.specs.Lists.{without}
use Rattle.steps.specs.Steps.{all_core}
use Rattle.steps.specs.Allowed.Places.{asked_at}
use Rattle.steps.specs.Allowed.SilentCall.{call_statement, SilentCall, silent_call_leaves, in_module}
use Rattle.steps.specs.Fit.Clear.{times}
use Rattle.steps.specs.Fit.Hoisted.{is_none, holds_variables, has_variables_in_place}
use Rattle.steps.specs.Fit.Plain.{is_plain_statement, has_plain_statements}
use Rattle.steps.specs.Fit.Sensible.{IsSensibleModule}
use Rattle.steps.specs.KeepRuns.Assigned.{assigns}
use Rattle.steps.specs.KeepRuns.Formed.{is_free_name, is_formed}
use Rattle.steps.specs.KeepRuns.SilentFunction.{are_silent, has_silent_function}
use Rattle.steps.specs.KeepRuns.Ways.{Beside, of_silent, hides, IsCall, a_call}
use Rattle.steps.specs.Naming.Placed.{program_list, module_items, well_placed, has_plain_values}
use Rattle.steps.proofs.Fit.Held.{core_below}
use Rattle.steps.proofs.Fit.Lists.{times_joined, times_so}
use Rattle.steps.proofs.Fit.Passing.{first_passes}
use Rattle.steps.proofs.Fit.Rows.{declared_once}
use Rattle.steps.proofs.Fit.Statements.{is_ordered, Planned, planned_at}
use Rattle.steps.proofs.KeepRuns.Calm.{form_holds, form_below}
use Rattle.steps.proofs.KeepRuns.SilentFunction.{silent_arguments, known_declared}
use Rattle.steps.proofs.KeepRuns.Ways.{gone_within, rewritten_further, within_kept, within_recovers, further_kept, further_recovers}
use Rattle.steps.proofs.Owed.CallBeside.{ListRow, declared, row_declares, beside_of, function_once, name_is_free}
use Rattle.steps.proofs.Owed.CallEntries.{Private, entries_left, stars_left, requests_left}
use Rattle.steps.proofs.Owed.CallWays.{Way, way_of}
use Rattle.steps.proofs.Owed.ChoiceRuns.{no_imports_below}

-- ---- what is known of the statement

pub plain_there : (a : Around) (x : Tree) → has_plain_statements (plug a (Some x)) ≡ true → is_plain_statement x.kind x.below ≡ true
plain_there (first rest) x h = first_of_both (is_plain_statement x.kind x.below) (has_plain_statements x.below && has_plain_statements rest) h
plain_there (behind k n below a) x h = plain_there a x (second_of_both (has_plain_statements below) (has_plain_statements (plug a (Some x))) (second_of_both (is_plain_statement k below) (has_plain_statements below && has_plain_statements (plug a (Some x))) h))
plain_there (behind_none a) x h = plain_there a x h
plain_there (under k n a rest) x h = plain_there a x (first_of_both (has_plain_statements (plug a (Some x))) (has_plain_statements rest) (second_of_both (is_plain_statement k (plug a (Some x))) (has_plain_statements (plug a (Some x)) && has_plain_statements rest) h))

variables_there : (a : Around) (x : Tree) → has_variables_in_place (plug a (Some x)) ≡ true → (holds_variables x.kind || is_none (var_names x.below)) ≡ true
variables_there (first rest) x h = first_of_both (holds_variables x.kind || is_none (var_names x.below)) (has_variables_in_place x.below && has_variables_in_place rest) h
variables_there (behind k n below a) x h =
    variables_there a x (second_of_both (has_variables_in_place below) (has_variables_in_place (plug a (Some x))) (second_of_both (holds_variables k || is_none (var_names below)) (has_variables_in_place below && has_variables_in_place (plug a (Some x))) h))
variables_there (behind_none a) x h = variables_there a x h
variables_there (under k n a rest) x h =
    variables_there a x (first_of_both (has_variables_in_place (plug a (Some x))) (has_variables_in_place rest) (second_of_both (holds_variables k || is_none (var_names (plug a (Some x)))) (has_variables_in_place (plug a (Some x)) && has_variables_in_place rest) h))

none_of : (xs : List Text) → is_none xs ≡ true → xs ≡ []
none_of [] h = refl
none_of (x ∷ xs) h = absurd (true≢false (sym h))

-- ---- where it stands in a list of a module

module _ (n m : Note) (c : Around) (pure : Bool) (i j k l : Note) (x : Text) (es : Forest) (silent : are_silent (x ∷ []) es ≡ true) where
  abbrev call : Tree
  call = call_statement pure i j k l x es

  abbrev old : Forest
  old = plug c (Some call)

  module _ (item : (asked_at (asked_of_program true) (in_module n m c)).row ≡ asked_items) (it : has_silent_function x old ≡ true) (reads : assigns x old ≡ false) (shown : hides x c (Some call) ≡ false) (h : IsSensibleModule (module_of n m old)) where
    abbrev around_items : Forest
    around_items = node Kind.Statements m old nothing

    core : all_core old ≡ true
    core = core_below Kind.Statements m old nothing (core_below (Kind.Program source_type.Module) n around_items nothing h.core)

    listed : is_formed around_items ≡ true
    listed = form_below (Kind.Program source_type.Module) around_items nothing h.formed

    formed : is_formed old ≡ true
    formed = form_below Kind.Statements old nothing listed

    way : Way call refl refl items c
    way =
        let program : Planned (Kind.Program source_type.Module) around_items = planned_at (Kind.Program source_type.Module) around_items refl (one root) refl h.sensible.fits.0 in
        let list : Planned Kind.Statements old = planned_at Kind.Statements old refl (first_place program.plan) (first_passes is_ordered program.plan refl program.ordered) program.stand.0 in
        way_of call refl refl items (asked_below (asked_below (asked_of_program true) (Kind.Program source_type.Module)) Kind.Statements) Kind.Statements c list.plan list.ordered list.stand core (form_holds Kind.Statements old nothing listed) formed (λ e. refl) (λ e. list.items refl) item

    place : well_placed (λ i. module_items) 0 old ≡ true
    place = (and_parts (well_placed (λ i. module_items) 0 old) true (and_parts true _ (and_parts (well_placed (λ i. program_list) 0 around_items) (has_plain_values around_items) h.placed).0).1).0

    values : has_plain_values old ≡ true
    values = (and_parts (has_plain_values old) true (and_parts (well_placed (λ i. program_list) 0 around_items) (has_plain_values around_items) h.placed).1).0

    row : ListRow x 0 old
    row = record { holds = form_holds Kind.Statements old nothing listed; formed = formed; reads = reads; place = h.in_place.0.1.0.1; placed = place; values = values }

    free : is_free_name x ≡ true
    free = name_is_free x old it formed

    other : bytes_eq default_name x ≡ false
    other = not_true (bytes_eq default_name x) (second_of_both (not (bytes_eq this_name x)) (not (bytes_eq default_name x)) free)

    once : times x (module_decls old) ≤ 1
    once = declared_once n m old h.placed h.variables h.sensible.well_formed x (not_true (bytes_eq this_name x) (first_of_both (not (bytes_eq this_name x)) (not (bytes_eq default_name x)) free)) other (row_declares x other old it)

    counted : declared x old ≤ 1
    counted =
        let all = times_joined x (all_so ready (var_names old)) (lexical old) in
        let so = times_so x ready (var_names old) in
        let some = once in
        omega (arith, all, so, some)

    beside : Beside x items c (Some call)
    beside = beside_of x other call refl refl 0 c row it counted

    is_call : IsCall x call
    is_call = a_call (λ f st g. silent_arguments (x ∷ []) st (known_declared x f st g) es silent) (λ rest e. record {
      name = sym e;
      bound = none_of (bound_names call.below) (plain_there (in_module n m c) call h.statements);
      vars = none_of (var_names call.below) (variables_there (in_module n m c) call h.variables);
      imports = λ source. no_imports_below n m old (in_module n m c) call call refl h.sensible.fits h.sensible.well_formed h.core Kind.ExpressionStatement refl refl (λ p i. refl) source;
      items = refl;
    })

    private : Private call
    private = record { entries = refl; stars = refl; requests = refl }

    same_entries : entries old ≡ entries (without c)
    same_entries = entries_left call refl refl private (asked_below (asked_below (asked_of_program true) (Kind.Program source_type.Module)) Kind.Statements) c item formed

    declared_old : DeclaredOnce x (module_decls old)
    declared_old = function_once x other old it once

    by_way : Way call refl refl items c → Kept (module_of n m old) (module_of n m (without c)) × Recovered (λ bound. suc (bound + bound)) (module_of n m old) (module_of n m (without c))
    by_way (inl v) =
        let s : DeclaredOnce x (module_decls (without c)) = subst (DeclaredOnce x) (decls_kept (gone_rewritten {us = for_values} (gone_within is_call v core beside shown))) declared_old in (
          within_kept n m x call c is_call v core beside shown s same_entries (stars_left call refl refl private c) (requests_left call refl refl private c),
          within_recovers n m x call c is_call v core beside shown s same_entries (stars_left call refl refl private c) (requests_left call refl refl private c),
        )
    by_way (inr v) =
        let s : DeclaredOnce x (module_decls (without c)) = subst (DeclaredOnce x) (decls_kept (rewritten_further for_values of_silent is_call v core beside shown)) declared_old in (
          further_kept n m x call c is_call v core beside shown s same_entries (stars_left call refl refl private c) (requests_left call refl refl private c),
          further_recovers n m x call c is_call v core beside shown s same_entries (stars_left call refl refl private c) (requests_left call refl refl private c),
        )

    pub call_leaves : Kept (module_of n m old) (module_of n m (without c)) × Recovered (λ bound. suc (bound + bound)) (module_of n m old) (module_of n m (without c))
    call_leaves = by_way way

pub silent_call_left : (n m : Note) (c : Around) (t : Tree) → SilentCall (in_module n m c) t → IsSensibleModule (module_of n m (plug c (Some t))) → Kept (module_of n m (plug c (Some t))) (module_of n m (without c)) × Recovered (λ bound. suc (bound + bound)) (module_of n m (plug c (Some t))) (module_of n m (without c))
silent_call_left n m c _ (silent_call_leaves {pure = pure} {n = i} {m = j} {i = k} {j = l} {x = x} {es = es} item silent it shown) h = call_leaves n m c pure i j k l x es silent item it.silent it.constant shown h
