-- Calls of silent functions, tried on small programs.
use Rattle.std.proofs.Common.{[], ◌∷◌, true≢false, codes, refl, sym, suc, ◌+◌}
use Rattle.js_syntax.specs.Node.{Forest, nothing, nowhere}
use Rattle.js_meaning.specs.Kept.{Kept, Recovered}
use Rattle.form_rules.specs.Samples.{a_module, a, reads, one, does, function_a}
use Rattle.scope_laws.specs.Place.{first}
use Rattle.steps.specs.Allowed.Rows.{call_of_a, past}
use Rattle.steps.specs.Allowed.SilentCall.{SilentCall, silent_call_leaves}
use Rattle.steps.specs.Allowed.SilentCallRows.{calls_a, called_with, gives_back, does_nothing, keeps_it, assigns_a, behind_it, behind_both, in_front, in_while, in_block_of_a, exported, CallStays}
use Rattle.steps.specs.Fit.Sensible.{IsSensibleModule}
use Rattle.steps.proofs.Owed.SilentCall.{silent_call_left}

pub behind_leaves : SilentCall (behind_it gives_back) (calls_a (one ∷ []))
behind_leaves = silent_call_leaves refl refl (record { silent = refl; constant = refl }) refl

pub in_front_leaves : SilentCall (in_front gives_back) (calls_a (one ∷ []))
in_front_leaves = silent_call_leaves refl refl (record { silent = refl; constant = refl }) refl

pub in_loop_leaves : SilentCall (in_while gives_back) (calls_a (one ∷ []))
in_loop_leaves = silent_call_leaves refl refl (record { silent = refl; constant = refl }) refl

pub empty_leaves : SilentCall (behind_it does_nothing) (calls_a [])
empty_leaves = silent_call_leaves refl refl (record { silent = refl; constant = refl }) refl

pub held_leaves : SilentCall (behind_it (keeps_it (codes "c"))) (calls_a (reads a ∷ []))
held_leaves = silent_call_leaves refl refl (record { silent = refl; constant = refl }) refl

pub argument_stays : CallStays (behind_it gives_back) (call_of_a ∷ [])
argument_stays (silent_call_leaves item silent it shown) = true≢false (sym silent)

pub acting_stays : CallStays (behind_it (function_a [] (does (reads (codes "x")) ∷ []))) []
acting_stays (silent_call_leaves item silent it shown) = true≢false (sym it.silent)

pub calling_stays : CallStays (behind_it (function_a [] (does call_of_a ∷ []))) []
calling_stays (silent_call_leaves item silent it shown) = true≢false (sym it.silent)

pub assigned_stays : CallStays (behind_both gives_back assigns_a) (one ∷ [])
assigned_stays (silent_call_leaves item silent it shown) = true≢false it.constant

pub hidden_stays : CallStays (in_block_of_a gives_back) (one ∷ [])
hidden_stays (silent_call_leaves item silent it shown) = true≢false shown

pub exported_stays : CallStays (behind_it (exported gives_back)) (one ∷ [])
exported_stays (silent_call_leaves item silent it shown) = true≢false (sym it.silent)

abbrev pub with_call : Forest
with_call = a_module (gives_back ∷ does (called_with (one ∷ [])) ∷ [])

pub module_left : IsSensibleModule with_call → Kept with_call (a_module (gives_back ∷ [])) × Recovered (λ bound. suc (bound + bound)) with_call (a_module (gives_back ∷ []))
module_left h = silent_call_left nowhere nowhere (past gives_back (first nothing)) (calls_a (one ∷ [])) behind_leaves h
