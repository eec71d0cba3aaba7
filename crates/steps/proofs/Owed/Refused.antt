-- Small programs from which no edits lead where they may not.
use Rattle.std.proofs.Common.{◌≡◌, ◌≤◌, [], ◌∷◌, arith, refl, ap}
use Rattle.js_syntax.specs.declared.kind.VariableKind.TheVariants as variable
use Rattle.js_syntax.specs.Node.{total}
use Rattle.form_rules.specs.Samples.{a_module, a_script, a, binds, one, does, declares, function_a, block}
use Rattle.scope_rules.specs.Mark.{own_binding}
use Rattle.steps.specs.Allowed.Edits.{Edits}
use Rattle.steps.specs.Allowed.Rows.{call_of_a, call_of_eval}
use Rattle.steps.proofs.Owed.Edited.{edits_keep_calls, nothing_changes}

-- ---- from a call to nothing

pub call_stays : Edits (a_module (does call_of_a ∷ [])) (a_module []) → ⊥
call_stays r = let e : 1 ≤ 0 = edits_keep_calls r in omega (arith, e)

pub call_stays_behind : Edits (a_module (does one ∷ does call_of_a ∷ [])) (a_module []) → ⊥
call_stays_behind r = let e : 1 ≤ 0 = edits_keep_calls r in omega (arith, e)

-- ---- names that others may use stay

pub evaluated_stays : Edits (a_module (declares variable.Let (binds a) one ∷ does call_of_eval ∷ [])) (a_module (does call_of_eval ∷ [])) → ⊥
evaluated_stays r =
    let e : 1 ≡ 0 = ap (total own_binding) (nothing_changes (a_module (declares variable.Let (binds a) one ∷ does call_of_eval ∷ [])) (a_module (does call_of_eval ∷ [])) refl r) in
    Prim.omega (arith, e)

pub global_stays : Edits (a_script (function_a [] [] ∷ [])) (a_script []) → ⊥
global_stays r =
    let e : 1 ≡ 0 = ap (total own_binding) (nothing_changes (a_script (function_a [] [] ∷ [])) (a_script []) refl r) in
    Prim.omega (arith, e)

pub sloppy_stays : Edits (a_script (block (function_a [] [] ∷ []) ∷ [])) (a_script (block [] ∷ [])) → ⊥
sloppy_stays r =
    let e : 1 ≡ 0 = ap (total own_binding) (nothing_changes (a_script (block (function_a [] [] ∷ []) ∷ [])) (a_script (block [] ∷ [])) refl r) in
    Prim.omega (arith, e)
