-- The small programs, by computing.
use Rattle.std.proofs.Common.{◌≡◌, ◌∙◌, inl, inr, ℕ, refl, ap, arith}
use Rattle.std.specs.Prelude.{None}
use Rattle.js_syntax.specs.declared.node_kind.NodeKind.{NodeKind as Kind}
use Rattle.js_syntax.specs.Class.{root}
use Rattle.js_syntax.specs.Node.{nothing, nowhere}
use Rattle.json_shape.specs.Shape.{Fits}
use Rattle.scope_rules.specs.Site.{BindingSite, number_or_first}
use Rattle.scope_laws.specs.Exact.{Among}
use Rattle.steps.specs.Naming.Standing.{exported_declarations}
use Rattle.steps.specs.Allowed.Edits.{known_conditional, becomes, TreeEdits, no_tree_edit, one_tree_edit}
use Rattle.steps.specs.Allowed.KnownConditional.{consequent_is_taken}
use Rattle.rules.specs.DeadCode.Quiet.{IsExported}
use Rattle.rules.specs.Export.Samples.{one_of_two, with_a_local, by_reference, literal_one, torn, statement, before_it, behind_it}
use Rattle.rules.proofs.Export.Edited.{exports_stay}

abbrev mark_of : BindingSite → ℕ
mark_of b = number_or_first b.id

abbrev scope_of : BindingSite → ℕ
scope_of b = b.layer.scope

pub first_of_two : IsExported one_of_two 0
first_of_two = record { declaration = _; stands = inl refl; is_outermost = refl; has_mark = refl }

pub second_of_two : IsExported one_of_two 1 → ⊥
second_of_two h = by h.stands
  where
    by : Among h.declaration (exported_declarations one_of_two) → ⊥
    by (inl e) = let one : 0 ≡ 1 = ap mark_of e ∙ ap number_or_first h.has_mark in Prim.omega (arith, one)
    by (inr e) = e

pub the_function : IsExported with_a_local 0
the_function = record { declaration = _; stands = inl refl; is_outermost = refl; has_mark = refl }

pub its_local : IsExported with_a_local 1 → ⊥
its_local h = by h.stands
  where
    by : Among h.declaration (exported_declarations with_a_local) → ⊥
    by (inl e) = let one : 0 ≡ 1 = ap mark_of e ∙ ap number_or_first h.has_mark in Prim.omega (arith, one)
    by (inr (inl e)) = let outermost : 1 ≡ 0 = ap scope_of e ∙ h.is_outermost in Prim.omega (arith, outermost)
    by (inr (inr e)) = e

pub only_named : IsExported by_reference 0 → ⊥
only_named h = h.stands

-- ---- no program

pub torn_becomes : TreeEdits before_it behind_it
torn_becomes =
    let taken = known_conditional (consequent_is_taken nowhere nowhere nowhere nowhere literal_one.kind literal_one.kind (Kind.ExportNamedDeclaration None) nothing nothing _ refl refl) in
    one_tree_edit before_it behind_it behind_it (becomes statement torn literal_one taken) (no_tree_edit behind_it)

pub torn_exports : IsExported before_it 0
torn_exports = record { declaration = _; stands = inl refl; is_outermost = refl; has_mark = refl }

pub none_behind : IsExported behind_it 0 → ⊥
none_behind h = h.stands

pub torn_is_unfit : Fits root before_it → ⊥
torn_is_unfit fits = none_behind (exports_stay before_it behind_it torn_becomes fits 0 torn_exports)
