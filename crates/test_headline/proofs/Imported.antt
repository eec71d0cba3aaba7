-- Imports that may come together, and one that an export alone needs.
use Rattle.std.proofs.Common.{codes, inr, refl}
use Rattle.js_syntax.specs.Class.{root}
use Rattle.js_syntax.specs.declared.scalar.SourceType.TheVariants as source_type
use Rattle.js_syntax.specs.declared.value.ModuleName.TheVariants as module_name
use Rattle.js_syntax.specs.Node.{nowhere}
use Rattle.js_syntax.specs.Table.{a_program, an_import_declaration, an_import_default_specifier, a_binding_name, an_export_list, an_export_specifier, a_reference_name, an_export_from, a_foreign_specifier}
use Rattle.form_rules.specs.Form.{IsWellFormed}
use Rattle.form_rules.specs.Samples as form
use Rattle.json_text.specs.Text.{is_identifier_name}
use Rattle.json_shape.specs.Shape.{Fits}
use Rattle.scope_rules.specs.Samples.{b}
use Rattle.steps.specs.Allowed.Edits.{no_tree_edit, one_tree_edit, passes}
use Rattle.steps.specs.Allowed.MergedImports.{merges_here, import_leaves, imports_merge}
use Rattle.steps.specs.Allowed.Rows.{default_name}
use Rattle.steps.proofs.Allowed.Composing.{tree_edits_are_edits}
use Rattle.steps.proofs.Allowed.TriedPassed.{default_passes}
use Rattle.headline.specs.Clean.{Clean}
use Rattle.headline.specs.Headline.{Edits, Headline}
use Rattle.headline.proofs.Headline.{headline_of}
use Rattle.min_peephole.proofs.Quieted.{quiet_clean}
use Rattle.test_headline.specs.Rows as row

pub apart_is_dead : Clean row.imports_twice → ⊥
apart_is_dead c = c.imports_are_together _ (imports_merge nowhere nowhere _ _ (merges_here (codes "m") nowhere nowhere (default_name form.a) (default_name b) _ _ refl (import_leaves nowhere nowhere _)) refl)

pub apart_goes : Headline row.imports_twice row.imports_twice → ⊥
apart_goes h = apart_is_dead h.clean

pub shown_is_dead : Clean row.shows_import → ⊥
shown_is_dead c = c.none_is_passed_on _ default_passes

pub shown_goes : Headline row.shows_import row.shows_import → ⊥
shown_goes h = shown_is_dead h.clean

-- ---- and what becomes of it

shown_fits : Fits root row.shows_import
shown_fits = (
  (
    a_program,
    (source_type.Module, tt),
    refl,
    tt,
    refl,
    (
      (
        refl,
        (
          inr (refl, (an_import_declaration, (codes "m", tt), refl, tt, refl, ((refl, ((an_import_default_specifier, tt, refl, tt, refl, ((a_binding_name, (form.a, tt), refl, tt, refl, tt), tt)), tt)), tt))),
          ((an_export_list, tt, refl, tt, refl, (tt, ((refl, ((an_export_specifier, (module_name.Name form.a, tt), refl, tt, refl, ((a_reference_name, (form.a, tt), refl, tt, refl, tt), tt)), tt)), tt))), tt),
        ),
      ),
      tt,
    ),
  ),
  tt,
)

shown_well_formed : IsWellFormed row.shows_import
unfolding is_identifier_name
shown_well_formed = refl

default_is_passed : Edits row.shows_import row.passes_default
default_is_passed = tree_edits_are_edits (one_tree_edit _ _ _ (passes _ _ default_passes) (no_tree_edit _))

passed_fits : Fits root row.passes_default
passed_fits = (
  (
    a_program,
    (source_type.Module, tt),
    refl,
    tt,
    refl,
    (
      (
        refl,
        (
          inr (refl, (an_export_from, (codes "m", tt), refl, tt, refl, (tt, ((refl, ((a_foreign_specifier, (module_name.Name (codes "default"), (module_name.Name form.a, tt)), refl, tt, refl, tt), tt)), tt)))),
          tt,
        ),
      ),
      tt,
    ),
  ),
  tt,
)

pub shown_left : Headline row.shows_import row.passes_default
shown_left = headline_of row.shows_import row.passes_default shown_fits shown_well_formed default_is_passed (quiet_clean _ passed_fits refl)
