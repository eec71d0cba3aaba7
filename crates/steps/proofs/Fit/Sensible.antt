-- What fits the table of node types and breaks no rule of form is sensible, with whatever notes.
use Rattle.std.proofs.Common.{◌≡◌, ◌∙◌, true, true≢false, refl, sym, subst}
use Rattle.js_syntax.specs.Class.{root}
use Rattle.js_syntax.specs.declared.node_kind.NodeKind.{NodeKind as Kind}
use Rattle.js_syntax.specs.declared.scalar.SourceType.TheVariants as source_type
use Rattle.js_syntax.specs.Node.{Note, Forest, nothing, node, bare}
use Rattle.js_syntax.proofs.Truth.{second_of_both, both}
use Rattle.json_shape.specs.Shape.{Fits}
use Rattle.form_rules.specs.Form.{IsWellFormed}
use Rattle.js_meaning_near.specs.Near.{module_of}
use Rattle.js_meaning_near.proofs.Alike.{Alike, same_alike}
use Rattle.steps.specs.Steps.{all_core}
use Rattle.steps.proofs.KeepForm.Fitting.{fits_laid_out}
use Rattle.steps.specs.Naming.Placed.{others, place_below, well_placed, has_plain_values, is_well_placed}
use Rattle.steps.specs.Fit.Sensible.{is_core_module, IsSensible, IsSensibleModule}
use Rattle.steps.proofs.Fit.Arranged.{fits_arranged}
use Rattle.steps.proofs.Fit.Catches.{fits_in_blocks}
use Rattle.steps.proofs.Fit.Enclosing.{fits_enclosed}
use Rattle.steps.proofs.Fit.Formed.{good_program, program_formed, program_well_placed}
use Rattle.steps.proofs.Fit.Held.{core_below}
use Rattle.steps.proofs.Fit.Holding.{core_in_place}
use Rattle.steps.proofs.Fit.Modules.{IsModule, fits_module, fits_program}
use Rattle.steps.proofs.Fit.Notes.{alike_module, alike_core, fits_renoted, form_renoted}
use Rattle.steps.proofs.Fit.Place.{program_in_place}
use Rattle.steps.proofs.Fit.Plain.{fits_plain}
use Rattle.steps.proofs.Fit.Rows.{clear_with_blocks}

pub sensible : (t : Forest) → Fits root t → IsWellFormed t → IsSensible t
sensible t fits form = record {
  fits = fits;
  well_formed = form;
  program = fits_program t fits;
  laid_out = fits_laid_out t fits;
  arranged = fits_arranged t fits form;
  enclosed = fits_enclosed t fits;
}

-- ---- core modules

-- a program's values are asked of it where its declarations stand
pub placed_values : (t : Forest) → is_well_placed t ≡ true → has_plain_values t ≡ true
placed_values (node (Kind.Program source) n a nothing) w = both (has_plain_values a) true (second_of_both (well_placed (place_below others (Kind.Program source)) 0 a) (has_plain_values a) w) refl
placed_values t w = absurd (true≢false (sym w))

listed : (n m : Note) (a : Forest) → all_core (module_of n m a) ≡ true → IsSensible (module_of n m a) → IsSensibleModule (module_of n m a)
listed n m a core s =
    let list = node Kind.Statements m a nothing in
    let inner = core_below (Kind.Program source_type.Module) n list nothing core in
    let good = good_program source_type.Module n list s.fits s.well_formed inner in
    let placed = program_well_placed source_type.Module n list s.fits s.well_formed inner in
    let variables = core_in_place (module_of n m a) s.fits core in
    let catches = fits_in_blocks (module_of n m a) s.fits in
    record {
      sensible = s;
      core = core;
      note = n;
      list_note = m;
      items = a;
      is = refl;
      formed = program_formed source_type.Module n list s.fits s.well_formed inner;
      in_place = program_in_place source_type.Module n list good.0 good.1;
      placed = placed;
      variables = variables;
      catches = catches;
      clear = clear_with_blocks n m a placed variables catches s.well_formed;
      values = placed_values (module_of n m a) placed;
      statements = fits_plain (module_of n m a) s.fits core;
    }

-- a sensible program that is a core module
pub of_module : (t : Forest) → IsModule t → all_core t ≡ true → IsSensible t → IsSensibleModule t
of_module t m core s = subst (λ x. all_core x ≡ true → IsSensible x → IsSensibleModule x) (sym m.is) (listed m.note m.list_note m.items) core s

pub sensible_module : (t : Forest) → is_core_module t ≡ true → Fits root t → IsWellFormed t → IsSensibleModule t
sensible_module (node (Kind.Program source_type.Module) n a r) core fits form = of_module (node (Kind.Program source_type.Module) n a r) (fits_module n a r fits) core (sensible (node (Kind.Program source_type.Module) n a r) fits form)
sensible_module t core fits form = absurd (true≢false (sym core))

-- ---- other notes

pub renoted : (t u : Forest) → bare t ≡ bare u → IsSensible t → IsSensible u
renoted t u e s = sensible u (fits_renoted t u e s.fits) (form_renoted t u e s.well_formed)

pub module_renoted : (t u : Forest) → bare t ≡ bare u → IsSensibleModule t → IsSensibleModule u
module_renoted t u e s =
    let alike = same_alike t u e in
    of_module u (alike_module (subst (λ x. Alike x u) s.is alike)) (sym (alike_core alike) ∙ s.core) (renoted t u e s.sensible)
