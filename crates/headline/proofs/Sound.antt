-- A step from a sensible module leads to one that refines it.
use Rattle.std.proofs.Common.{◌≡◌, true, refl, sym, subst}
use Rattle.js_syntax.specs.declared.node_kind.NodeKind.{NodeKind as Kind}
use Rattle.js_syntax.specs.declared.scalar.SourceType.TheVariants as source_type
use Rattle.js_syntax.specs.Node.{Note, Forest, nothing, alone}
use Rattle.js_meaning.specs.Kept.{Refined}
use Rattle.js_meaning.proofs.Kept.{refined_joined}
use Rattle.js_meaning_near.specs.Near.{module_of}
use Rattle.steps.specs.Steps.{outermost, Step, all_core}
use Rattle.steps.proofs.Steps.{step_core}
use Rattle.steps.proofs.KeepRuns.Modules.{InItems, in_items, in_its_items}
use Rattle.steps.proofs.KeepRuns.Whole as refining
use Rattle.steps.specs.Fit.Sensible.{IsSensible, IsSensibleModule}
use Rattle.steps.proofs.Fit.Held.{core_below}
use Rattle.steps.proofs.Fit.Modules.{IsModule}
use Rattle.steps.proofs.Fit.Sensible.{of_module}
use Rattle.headline.proofs.Once.{module_once}

-- what another program has, by a step or by changes
pub record Refines (t u : Forest) : Type 0 where
  pub left : IsSensibleModule u
  pub refined : Refined t u

-- ---- a step of a module leads to a module

module_stays : (n m : Note) (a u : Forest) (s : Step outermost (module_of n m a) u) → InItems n m a u s → IsModule u
module_stays n m a _ _ (in_items {b = b} s) = record { note = n; list_note = m; items = b; is = refl }

-- ---- one step

statements_core : (n m : Note) (a : Forest) → all_core (module_of n m a) ≡ true → all_core a ≡ true
statements_core n m a core = core_below Kind.Statements m a nothing (core_below (Kind.Program source_type.Module) n (alone Kind.Statements m a) nothing core)

module_step : (n m : Note) (a u : Forest) → Step outermost (module_of n m a) u → IsSensibleModule (module_of n m a) → IsSensible u → Refines (module_of n m a) u
module_step n m a u s h g =
    let left = of_module u (module_stays n m a u s (in_its_items n m a u s)) (step_core s h.core) g in
    record { left = left; refined = refining.module_once n m a u s h.formed (statements_core n m a h.core) h.in_place (module_once n m a u s h.formed left.placed h.clear) }

pub step_refines : (t u : Forest) → Step outermost t u → IsSensibleModule t → IsSensible u → Refines t u
step_refines t u s h g = subst (λ x. Step outermost x u → IsSensibleModule x → Refines x u) (sym h.is) (λ step before. module_step h.note h.list_note h.items u step before g) s h

-- ---- one after the other

pub refines_joined : {t u v : Forest} → Refines t u → Refines u v → Refines t v
refines_joined {t} {u} {v} h g = record { left = g.left; refined = refined_joined t u v h.refined g.refined }
