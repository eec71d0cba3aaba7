-- The value of a variable that nothing refers to stays as a statement.
use Rattle.std.proofs.Common.{◌≡◌, ◌∙◌, List, Some, None, inl, inr, refl, sym, ap}
use Rattle.js_syntax.specs.Class.{root}
use Rattle.js_syntax.specs.declared.kind.VariableKind.TheVariants as variable
use Rattle.js_syntax.specs.declared.scalar.SourceType.TheVariants as source_type
use Rattle.js_syntax.specs.Node.{nowhere}
use Rattle.js_syntax.specs.Table.{a_program, a_variable_declaration, a_variable_declarator, a_binding_name}
use Rattle.form_rules.specs.Form.{IsWellFormed}
use Rattle.json_text.specs.Text.{is_identifier_name}
use Rattle.json_shape.specs.Shape.{Fits}
use Rattle.scope_rules.specs.Context.{body_of}
use Rattle.scope_rules.specs.Site.{BindingSite, ReferenceSite, sites_of, bindings_among}
use Rattle.scope_rules.specs.Binding.{Binding, named_in, binding_of}
use Rattle.steps.specs.Allowed.Edits.{no_tree_edit, one_tree_edit, becomes, value_stays}
use Rattle.steps.specs.Allowed.Free.{IsFree}
use Rattle.steps.specs.Allowed.ValueRows.{x, only_item}
use Rattle.steps.specs.Allowed.ValueStays.{value_is_stated}
use Rattle.steps.proofs.Allowed.Composing.{tree_edits_are_edits}
use Rattle.headline.specs.Clean.{Clean, a_value_of_an_unused_name}
use Rattle.headline.specs.Headline.{Edits, Headline}
use Rattle.headline.proofs.Headline.{headline_of}
use Rattle.test_headline.specs.Rows as row
use Rattle.test_headline.proofs.Dead.{name_stands, call_is_clean as a_is_clean}

-- a name without a declaration is bound to nothing
no_binding : (r s : ReferenceSite) (bs : List BindingSite) (b : Binding) → binding_of bs s ≡ None → s ≡ r → binding_of bs r ≡ Some b → ⊥
no_binding r s bs b none is e = absurd (cc (sym none ∙ ap (binding_of bs) is ∙ e))

name_is_free : IsFree row.names_call (named_in x (body_of 0))
name_is_free = record {
  unreferred = λ r h e. elim h [
    | inl q ↦ no_binding r _ (bindings_among (sites_of row.names_call)) _ refl q e
    | inr n ↦ n
  ];
  unexported = λ e h s d. h;
}

pub stated_is_dead : Clean row.names_call → ⊥
stated_is_dead c = c.nothing_is_dead only_item _ refl (a_value_of_an_unused_name only_item _ _ refl (value_is_stated variable.Let nowhere nowhere nowhere nowhere nowhere nowhere x _ _ refl refl refl refl name_is_free))

pub stated_goes : Headline row.names_call row.names_call → ⊥
stated_goes h = stated_is_dead h.clean

-- ---- and alone it is left

named_fits : Fits root row.names_call
named_fits = (
  (
    a_program,
    (source_type.Module, tt),
    refl,
    tt,
    refl,
    (
      (
        refl,
        (
          inr (refl, (a_variable_declaration, (variable.Let, tt), refl, tt, refl, ((refl, ((a_variable_declarator, tt, refl, tt, refl, ((a_binding_name, (x, tt), refl, tt, refl, tt), (name_stands.0, tt))), tt)), tt))),
          tt,
        ),
      ),
      tt,
    ),
  ),
  tt,
)

named_well_formed : IsWellFormed row.names_call
unfolding is_identifier_name
named_well_formed = refl

call_comes_out : Edits row.names_call row.calls_a
call_comes_out = tree_edits_are_edits (one_tree_edit _ _ _ (becomes only_item _ _ (value_stays (value_is_stated variable.Let nowhere nowhere nowhere nowhere nowhere nowhere x _ _ refl refl refl refl name_is_free))) (no_tree_edit _))

pub stated_left : Headline row.names_call row.calls_a
stated_left = headline_of row.names_call row.calls_a named_fits named_well_formed call_comes_out a_is_clean
