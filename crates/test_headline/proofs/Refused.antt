-- What the headline refuses of the small modules.
use Rattle.std.proofs.Common.{◌≡◌, ◌∙◌, ◌⊎◌, inl, inr, Bool, true, false, ◌||◌, true≢false, List, [], ◌∷◌, refl, sym, ap, subst, arith}
use Rattle.js_syntax.specs.declared.kind.VariableKind.TheVariants as variable
use Rattle.js_syntax.specs.Node.{Forest, bare, total}
use Rattle.form_rules.specs.Samples.{a_module, a_script, a, binds, one, does, declares, function_a}
use Rattle.scope_rules.specs.Samples.{imports}
use Rattle.scope_rules.specs.Mark.{own_binding}
use Rattle.steps.specs.Allowed.Changing.{may_change_somewhere}
use Rattle.steps.specs.Allowed.Rows.{call_of_eval}
use Rattle.steps.specs.Allowed.Edits.{Edits}
use Rattle.steps.proofs.Owed.Edited.{nothing_changes}
use Rattle.js_meaning.specs.Value.{Shown, plainly, host}
use Rattle.js_meaning.specs.Trace.{Act, ShownExport, Event, Ending, ended, Run}
use Rattle.js_meaning.specs.Kept.{Kept, KeptBack, Keeps, ComesBack}
use Rattle.headline.specs.Headline.{Headline}
use Rattle.test_headline.specs.Rows as row
use Rattle.test_headline.proofs.Dead.{number_is_dead, conditional_is_dead, tested_is_dead, side_is_dead, operation_is_dead, list_is_dead, choice_is_dead, branch_is_dead, part_is_dead, behind_one_is_dead, sides_are_dead, object_is_dead, known_is_dead, if_holds_is_dead, if_fails_is_dead, unreached_is_dead, untaken_is_dead, acting_is_dead, block_is_dead, loop_is_dead, value_is_dead, label_is_dead, try_is_dead, body_is_dead, test_is_dead, alternate_is_dead}
use Rattle.test_headline.proofs.Runs.{answers, gives_function, empty_runs, export_runs, call_runs, import_runs, own_call_runs, no_call_runs, chosen_runs, member_runs, loop_runs}

-- what is asked of two runs is asked of what they compute to
keeps_computed : (p q r s : Run) → p ≡ r → q ≡ s → Keeps p q → Keeps r s
keeps_computed p q r s old new k = subst (λ x. Keeps r x) new (subst (λ x. Keeps x q) old k)

back_computed : (p q r s : Run) → p ≡ r → q ≡ s → ComesBack p q → ComesBack r s
back_computed p q r s old new k = subst (λ x. ComesBack r x) new (subst (λ x. ComesBack x q) old k)

-- how runs are told apart

has_some : List ShownExport → Bool
has_some [] = false
has_some (e ∷ es) = true

shows_exports : Ending → Bool
shows_exports (ended exports) = has_some exports.names
shows_exports e = false

is_out : Ending → Bool
is_out Ending.out = true
is_out e = false

is_alone : List Event → Bool
is_alone (e ∷ []) = true
is_alone es = false

is_done : Act → Bool
is_done Act.finished = true
is_done act = false

begins_done : List Event → Bool
begins_done [] = false
begins_done (e ∷ es) = is_done e.act

is_object : Shown → Bool
is_object (plainly (host i called)) = true
is_object x = false

has_receiver : Act → Bool
has_receiver (Act.call f this xs) = is_object this
has_receiver act = false

calls_on_object : List Event → Bool
calls_on_object [] = false
calls_on_object (e ∷ es) = has_receiver e.act || calls_on_object es

pub export_shown : Kept row.exports_one row.empty → ⊥
unfolding shows_exports has_some
export_shown k = true≢false (sym (ap (λ r. shows_exports r.ending) (keeps_computed _ _ _ _ export_runs (empty_runs 0) (k answers 0))))

pub call_shown : Kept row.calls_host row.empty → ⊥
unfolding is_alone
call_shown k = true≢false (ap (λ r. is_alone r.trace) (keeps_computed _ _ _ _ call_runs (empty_runs 0) (k answers 0)))

pub import_shown : Kept (a_module (imports a ∷ [])) row.empty → ⊥
unfolding is_alone
import_shown k = true≢false (ap (λ r. is_alone r.trace) (keeps_computed _ _ _ _ import_runs (empty_runs 0) (k answers 0)))

pub function_called : Kept row.calls_own row.calls_nothing → ⊥
unfolding begins_done is_done
function_called k = true≢false (sym (ap (λ r. begins_done r.trace) (keeps_computed _ _ _ _ own_call_runs no_call_runs (k answers 1))))

pub receiver_shown : Kept row.calls_chosen row.calls_member → ⊥
unfolding is_object has_receiver calls_on_object
receiver_shown k = true≢false (ap (λ r. calls_on_object r.trace) (keeps_computed _ _ _ _ chosen_runs member_runs (k gives_function 0)))

out_or_same : (new : Run) → is_out new.ending ≡ false → (Ending.out ≡ Ending.uncovered) ⊎ (record { trace = []; ending = Ending.out } ≡ new) → ⊥
unfolding is_out
out_or_same new e (inl h) = true≢false (ap is_out h)
out_or_same new e (inr h) = true≢false (ap (λ r. is_out r.ending) h ∙ e)

pub loop_stays : KeptBack row.never_ends row.empty → ⊥
unfolding is_out
loop_stays k = out_or_same _ refl (back_computed _ _ _ _ loop_runs (empty_runs 0) (k answers 0))

pub dead_goes : Headline row.dead row.dead → ⊥
dead_goes h = number_is_dead h.clean

pub conditional_goes : Headline row.takes_branch row.takes_branch → ⊥
conditional_goes h = conditional_is_dead h.clean

pub tested_goes : Headline row.takes_behind_test row.takes_behind_test → ⊥
tested_goes h = tested_is_dead h.clean

pub side_goes : Headline row.never_calls row.never_calls → ⊥
side_goes h = side_is_dead h.clean

pub operation_goes : Headline row.compares_call row.compares_call → ⊥
operation_goes h = operation_is_dead h.clean

pub list_goes : Headline row.lists_call row.lists_call → ⊥
list_goes h = list_is_dead h.clean

pub choice_goes : Headline row.calls_chosen row.calls_chosen → ⊥
choice_goes h = choice_is_dead h.clean

pub branch_goes : Headline row.chooses_call row.chooses_call → ⊥
branch_goes h = branch_is_dead h.clean

pub part_goes : Headline row.uses_sequence row.uses_sequence → ⊥
part_goes h = part_is_dead h.clean

pub behind_one_goes : Headline row.calls_behind_one row.calls_behind_one → ⊥
behind_one_goes h = behind_one_is_dead h.clean

pub sides_go : Headline row.compares_calls row.compares_calls → ⊥
sides_go h = sides_are_dead h.clean

pub object_goes : Headline row.holds_call row.holds_call → ⊥
object_goes h = object_is_dead h.clean

pub known_goes : Headline row.uses_negation row.uses_negation → ⊥
known_goes h = known_is_dead h.clean

pub if_holds_goes : Headline row.runs_one_branch row.runs_one_branch → ⊥
if_holds_goes h = if_holds_is_dead h.clean

pub if_fails_goes : Headline row.runs_no_branch row.runs_no_branch → ⊥
if_fails_goes h = if_fails_is_dead h.clean

pub block_goes : Headline row.labels_nothing row.labels_nothing → ⊥
block_goes h = block_is_dead h.clean

pub unreached_goes : Headline row.calls_behind_throw row.calls_behind_throw → ⊥
unreached_goes h = unreached_is_dead h.clean

pub label_goes : Headline row.leaves_label row.leaves_label → ⊥
label_goes h = label_is_dead h.clean

pub try_goes : Headline row.runs_finalizer row.runs_finalizer → ⊥
try_goes h = try_is_dead h.clean

pub test_goes : Headline row.tests_for_nothing row.tests_for_nothing → ⊥
test_goes h = test_is_dead h.clean

pub alternate_goes : Headline row.ends_in_nothing row.ends_in_nothing → ⊥
alternate_goes h = alternate_is_dead h.clean

pub body_goes : Headline row.turns_around_block row.turns_around_block → ⊥
body_goes h = body_is_dead h.clean

pub value_goes : Headline row.gives_call row.gives_call → ⊥
value_goes h = value_is_dead h.clean

pub loop_goes : Headline row.never_turns row.never_turns → ⊥
loop_goes h = loop_is_dead h.clean

pub untaken_goes : Headline row.keeps_variable row.keeps_variable → ⊥
untaken_goes h = untaken_is_dead h.clean

pub acting_goes : Headline row.never_holds row.never_holds → ⊥
acting_goes h = acting_is_dead h.clean

-- ---- what others may use: where nothing may change, as many names are declared as before

same_declared : (t u : Forest) → may_change_somewhere t ≡ false → Edits t u → total own_binding (bare t) ≡ total own_binding (bare u)
same_declared t u still edits = ap (total own_binding) (nothing_changes t u still edits)

pub function_beside_eval : Edits (a_module (function_a [] [] ∷ does call_of_eval ∷ [])) (a_module (does call_of_eval ∷ [])) → ⊥
function_beside_eval edits = let e : 1 ≡ 0 = same_declared (a_module (function_a [] [] ∷ does call_of_eval ∷ [])) (a_module (does call_of_eval ∷ [])) refl edits in Prim.omega (arith, e)

pub declarator_beside_eval : Edits row.of_two_evaluated row.of_one_evaluated → ⊥
declarator_beside_eval edits = let e : 2 ≡ 1 = same_declared row.of_two_evaluated row.of_one_evaluated refl edits in Prim.omega (arith, e)

pub variable_of_script : Edits (a_script (declares variable.Let (binds a) one ∷ [])) (a_script []) → ⊥
variable_of_script edits = let e : 1 ≡ 0 = same_declared (a_script (declares variable.Let (binds a) one ∷ [])) (a_script []) refl edits in Prim.omega (arith, e)

pub declarator_of_script : Edits row.of_two_in_script row.of_one_in_script → ⊥
declarator_of_script edits = let e : 2 ≡ 1 = same_declared row.of_two_in_script row.of_one_in_script refl edits in Prim.omega (arith, e)
