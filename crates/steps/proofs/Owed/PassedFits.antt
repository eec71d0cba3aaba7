-- A program in which an import and an export are an export from the other module fits the table of node types.
use Rattle.std.proofs.Common.{◌≡◌, inl, inr, [], ◌∷◌, ℕ, List, Bool, true, false, true≢false, Some, None, is_some, ◌∙◌, refl, sym, ap, subst}
use Rattle.js_syntax.specs.Class.{Class, root, module_item, a_prologue, private_key, expression, foreign_item}
use Rattle.js_syntax.specs.declared.node_kind.NodeKind.{NodeKind as Kind}
use Rattle.js_syntax.specs.declared.node_kind.NodeKind.TheVariants.{ImportDeclaration as import_declaration, Specifiers as specifiers, ExportNamedDeclaration as export_named_declaration}
use Rattle.js_syntax.specs.declared.node_type.NodeType.TheVariants as type
use Rattle.js_syntax.specs.declared.scalar.SourceType.TheVariants as source_type
use Rattle.js_syntax.specs.Node.{Forest, Note, nothing, node, absent}
use Rattle.js_syntax.specs.Table.{Row, an_import_declaration, an_export_from, an_export_all_declaration, a_foreign_specifier, fields_of, type_of, stands}
use Rattle.js_meaning_near.specs.Near.{module_of}
use Rattle.json_shape.specs.Shape.{Values, kind_in, first_of, Place, one, maybe_one, beyond, key_node, key_apart, list, list_with_holes, body, item_or_hole, item_of_body, Plan, these, all, all_or_holes, all_of_body, after_body_item, first_place, is_directive_kind, IsOf, IsAt, Stand, Fits}
use Rattle.json_shape.specs.Shape as shape
use Rattle.json_shape.proofs.Choice.{is_list_kind}
use Rattle.steps.specs.Allowed.PassedExports.{WithoutExport, export_leaves, leaves_behind, PassesIn, passes_here, passes_behind, PassedExports, exports_pass}
use Rattle.steps.proofs.KeepTable.Inside.{Moves, at_inside}
use Rattle.steps.proofs.KeepTable.Planned.{place_ok, plan_ok, first_ok, behind_ok, of_list, behind_list, gone}
use Rattle.steps.proofs.Owed.PassedRows.{ArePassed, none_passed, one_passed, IsNew, new_names, new_namespace, parts}

-- ---- where an import may stand, an export may

abbrev is_import : Kind → Bool
is_import (Kind.ImportDeclaration source) = true
is_import k = false

of_module : (c : Class) → stands c type.ImportDeclaration ≡ Some an_import_declaration → c ≡ module_item
of_module module_item h = refl
of_module c h = absurd (true≢false (sym (ap is_some h)))

module _ (source : List ℕ) where
  in_module : (c : Class) (r : Row) (vs : Values (fields_of r)) → import_declaration source ≡ kind_in r vs → stands c (type_of r) ≡ Some (first_of r) → c ≡ module_item
  in_module c an_import_declaration vs is h = of_module c h
  in_module c r vs is h = absurd (true≢false (ap is_import is))

  passed_stand : {passed : Forest} → ArePassed passed → Stand (all foreign_item) passed
  passed_stand none_passed = tt
  passed_stand (one_passed imported exported n rest are) = ((a_foreign_specifier, (imported, (exported, tt)), refl, tt, refl, tt), passed_stand are)

  new_stands : {k : Kind} {below : Forest} → IsNew source k below → IsOf k below (λ p. Stand p below) module_item
  new_stands (new_names passed j are) = (an_export_from, (source, tt), refl, tt, refl, (tt, ((refl, passed_stand are), tt)))
  new_stands (new_namespace exported) = (an_export_all_declaration, (Some exported, (source, tt)), refl, tt, refl, tt)

  no_directive : {k : Kind} {below : Forest} → IsNew source k below → is_directive_kind k ≡ false
  no_directive (new_names passed j are) = refl
  no_directive (new_namespace exported) = refl

  module _ (old : Forest) {k : Kind} {now : Forest} (new : IsNew source k now) where
    abbrev Old : Place → Type 0
    Old p = IsAt (import_declaration source) old (λ q. Stand q old) p

    abbrev New : Place → Type 0
    New p = IsAt k now (λ q. Stand q now) p

    of_class : (c : Class) → IsOf (import_declaration source) old (λ q. Stand q old) c → IsOf k now (λ q. Stand q now) c
    of_class c of = subst (λ d. IsOf k now (λ q. Stand q now) d) (sym (in_module c of.0 of.1 of.4 of.2)) (new_stands new)

    no_list : (kind : Kind) → import_declaration source ≡ kind → is_list_kind kind ≡ true → ⊥
    no_list kind is h = true≢false (sym h ∙ sym (ap is_list_kind is))

    new_at : (p : Place) → place_ok p ≡ true → Old p → New p
    new_at (one c) ok of = of_class c of
    new_at (maybe_one c) ok of = of_class c of
    new_at beyond ok at = absurd at
    new_at (key_apart may) ok at = absurd at
    new_at (key_node keys true) ok at = (at.0, of_class private_key at.1)
    new_at (key_node keys false) ok of = of_class expression of
    new_at (list kind c) ok at = absurd (no_list kind at.0 ok)
    new_at (list_with_holes kind c) ok at = absurd (no_list kind at.0 ok)
    new_at (body c) ok at = absurd (true≢false (ap is_import at.0))
    new_at (item_or_hole c) ok (inl at) = absurd (true≢false (ap is_import at.0))
    new_at (item_or_hole c) ok (inr of) = inr (of_class c of)
    new_at (item_of_body c) ok (inl of) = inl (of_class a_prologue of)
    new_at (item_of_body c) ok (inr at) = inr (no_directive new, of_class c at.1)

-- ---- rows

same_behind : (plan : Plan) (k l : Kind) → is_directive_kind k ≡ is_directive_kind l → shape.behind plan k ≡ shape.behind plan l
same_behind (these []) k l e = refl
same_behind (these (p ∷ ps)) k l e = refl
same_behind (all c) k l e = refl
same_behind (all_or_holes c) k l e = refl
same_behind (all_of_body c) k l e = ap (after_body_item c) e

left_stands : {listed r s : Forest} (plan : Plan) → plan_ok plan ≡ true → of_list plan ≡ true → WithoutExport listed r s → Stand plan r → Stand plan s
left_stands plan ok listed (export_leaves n m rest) h = gone plan (export_named_declaration None) rest ok listed h.1
left_stands plan ok listed (leaves_behind k n below r s out) h = (h.0, left_stands (shape.behind plan k) (behind_ok plan k ok) (behind_list plan k listed) out h.1)

row_stands : {names r s z : Forest} (plan : Plan) → plan_ok plan ≡ true → of_list plan ≡ true → PassesIn names r s z → Stand plan r → Stand plan z
row_stands {names = names} plan ok listed (passes_here source n m i those k below r s on out) h =
    let new = (parts on).new in
    let old = import_declaration source in (
      new_at source (node specifiers m names nothing) new (first_place plan) (first_ok plan ok) h.0,
      subst (λ p. Stand p s) (same_behind plan old k (sym (no_directive source new))) (left_stands (shape.behind plan old) (behind_ok plan old ok) (behind_list plan old listed) out h.1),
    )
row_stands plan ok listed (passes_behind k n below r s z passes) h = (h.0, row_stands (shape.behind plan k) (behind_ok plan k ok) (behind_list plan k listed) passes h.1)

-- ---- a program

module _ (n m : Note) (r z : Forest) (moves : (plan : Plan) → plan_ok plan ≡ true → of_list plan ≡ true → Stand plan r → Stand plan z) where
  abbrev row_of : Forest → Forest
  row_of t = node Kind.Statements m t nothing

  abbrev top : Kind
  top = Kind.Program source_type.Module

  list_stands : Moves top (row_of r) (row_of z)
  list_stands plan ok below h = (at_inside Kind.Statements r z (λ none. absurd cc) (λ p fine listed. moves p fine (listed refl)) (first_place plan) (first_ok plan ok) h.0, h.1)

  module_fits : Fits root (module_of n m r) → Fits root (module_of n m z)
  module_fits h = (at_inside top (row_of r) (row_of z) (λ none. refl) list_stands (one root) refl h.0, h.1)

pub left_fits : (n m : Note) {listed r s : Forest} → WithoutExport listed r s → Fits root (module_of n m r) → Fits root (module_of n m s)
left_fits n m {r = r} {s = s} out = module_fits n m r s (λ plan ok listed h. left_stands plan ok listed out h)

pub passed_fits : (t u : Forest) → PassedExports t u → Fits root t → Fits root u
passed_fits _ _ (exports_pass n m names r s z passes free none) = module_fits n m r z (λ plan ok listed h. row_stands plan ok listed passes h)
