-- A program in which two imports are one fits the table of node types.
use Rattle.std.proofs.Common.{◌≡◌, ◌∙◌, inl, inr, [], ◌∷◌, ℕ, ◌==◌, List, Bool, true, false, if◌then◌else◌, codes, refl, sym, ap, subst, true≢false}
use Rattle.js_syntax.specs.Class.{Class, root, a_prologue, private_key, expression, declared_name, import_item}
use Rattle.js_syntax.specs.declared.node_kind.NodeKind.{NodeKind as Kind}
use Rattle.js_syntax.specs.declared.node_kind.NodeKind.TheVariants.{ImportDeclaration as import_declaration, Specifiers as specifiers, ImportSpecifier as import_specifier, ImportDefaultSpecifier as import_default_specifier, BindingName as binding_name}
use Rattle.js_syntax.specs.declared.scalar.SourceType.{SourceType}
use Rattle.js_syntax.specs.declared.scalar.SourceType.TheVariants as source_type
use Rattle.js_syntax.specs.declared.value.ModuleName.TheVariants.{Name as plain_name}
use Rattle.js_syntax.specs.Hint.{has, is_private}
use Rattle.js_syntax.specs.Node.{Forest, Note, nothing, node, joined}
use Rattle.js_syntax.specs.Table.{Row, an_import_declaration, an_import_specifier, an_import_default_specifier, fields_of}
use Rattle.json_shape.specs.Shape.{Values, kind_in, first_of, IsChosen, Place, one, maybe_one, beyond, key_node, key_apart, list, list_with_holes, body, item_or_hole, item_of_body, places, Plan, these, all, all_or_holes, all_of_body, first_place, IsOf, IsAt, Stand, Fits}
use Rattle.json_shape.specs.Shape as shape
use Rattle.json_shape.proofs.Choice.{is_list_kind}
use Rattle.steps.specs.Allowed.MergedImports.{is_default, how_many, as_named, all_named, first_default, but_first_default, names_merged, WithoutImport, import_leaves, leaves_behind, MergesIn, merges_here, merges_behind, MergedImports, imports_merge}
use Rattle.steps.proofs.KeepTable.Inside.{Moves, at_inside}
use Rattle.steps.proofs.KeepTable.Planned.{place_ok, plan_ok, first_ok, behind_ok, of_list, behind_list, gone}
use Rattle.steps.proofs.Owed.MergedRows.{AreNames, no_names, a_name, default_is, others_are, may}

-- ---- which rows of the table make them

abbrev is_import : Kind → Bool
is_import (Kind.ImportDeclaration source) = true
is_import k = false

abbrev is_default_import : Kind → Bool
is_default_import Kind.ImportDefaultSpecifier = true
is_default_import k = false

import_plan : (source : List ℕ) (private : Bool) (r : Row) (vs : Values (fields_of r)) → import_declaration source ≡ kind_in r vs → places private (fields_of r) vs ≡ list specifiers import_item ∷ []
import_plan source private an_import_declaration vs is = refl
import_plan source private r vs is = absurd (true≢false (ap is_import is))

default_plan : (private : Bool) (r : Row) (vs : Values (fields_of r)) → import_default_specifier ≡ kind_in r vs → places private (fields_of r) vs ≡ one declared_name ∷ []
default_plan private an_import_default_specifier vs is = refl
default_plan private r vs is = absurd (true≢false (ap is_default_import is))

-- ---- lists of names

abbrev AllImported : Forest → Type 0
AllImported t = Stand (all import_item) t

of_default : (below : Forest) → IsOf import_default_specifier below (λ p. Stand p below) import_item → IsOf (import_specifier (plain_name (codes "default"))) below (λ p. Stand p below) import_item
of_default below of =
    (an_import_specifier, (plain_name (codes "default"), tt), refl, tt, refl, subst (λ ps. Stand (these ps) below) (default_plan (has is_private below) of.0 of.1 of.4) of.5)

of_named : (k : Kind) (below : Forest) → IsOf k below (λ p. Stand p below) import_item → IsOf (as_named k) below (λ p. Stand p below) import_item
of_named Kind.ImportDefaultSpecifier below of = of_default below of
of_named k below of = of

named_stand : {t : Forest} → AreNames t → AllImported t → AllImported (all_named t)
named_stand no_names h = h
named_stand (a_name k n m x rest b names) h = (of_named k (node (binding_name x) m nothing nothing) h.0, named_stand names h.1)

joined_stand : {t : Forest} → AreNames t → (u : Forest) → AllImported t → AllImported u → AllImported (joined t u)
joined_stand no_names u h g = g
joined_stand (a_name k n m x rest b names) u h g = (h.0, joined_stand names u h.1 g)

if_stand : (b : Bool) (t u : Forest) → AllImported t → AllImported u → AllImported (if b then t else u)
if_stand true t u h g = h
if_stand false t u h g = g

default_stands : {t : Forest} → AreNames t → AllImported t → AllImported (first_default t)
default_stands no_names h = h
default_stands (a_name k n m x rest b names) h = if_stand (is_default k) (node k n (node (binding_name x) m nothing nothing) nothing) (first_default rest) (h.0, tt) (default_stands names h.1)

others_stand : {t : Forest} → AreNames t → AllImported t → AllImported (but_first_default t)
others_stand no_names h = h
others_stand (a_name k n m x rest b names) h =
    if_stand (is_default k) rest (node k n (node (binding_name x) m nothing nothing) (but_first_default rest)) h.1 (h.0, others_stand names h.1)

merged_stand : {t u : Forest} → AreNames t → AreNames u → AllImported t → AllImported u → AllImported (names_merged t u)
merged_stand {t = t} {u = u} a b h g =
    if_stand (how_many is_default t == 0) (joined (first_default u) (joined t (all_named (but_first_default u)))) (joined t (all_named u))
    (joined_stand (default_is b) (joined t (all_named (but_first_default u))) (default_stands b g) (joined_stand a (all_named (but_first_default u)) h (named_stand (others_are b) (others_stand b g))))
    (joined_stand a (all_named u) h (named_stand b g))

-- ---- imports

module _ (source : List ℕ) (m : Note) (names : Forest) where
  abbrev Old : Place → Type 0
  Old p = IsAt (import_declaration source) (node specifiers m names nothing) (λ q. Stand q (node specifiers m names nothing)) p

  of_import : (c : Class) → IsOf (import_declaration source) (node specifiers m names nothing) (λ q. Stand q (node specifiers m names nothing)) c → AllImported names
  of_import c of = (subst (λ ps. Stand (these ps) (node specifiers m names nothing)) (import_plan source (has is_private (node specifiers m names nothing)) of.0 of.1 of.4) of.5).0.1

  no_list : (kind : Kind) → import_declaration source ≡ kind → is_list_kind kind ≡ true → ⊥
  no_list kind is h = true≢false (sym h ∙ sym (ap is_list_kind is))

  imported_at : (p : Place) → place_ok p ≡ true → Old p → AllImported names
  imported_at (one c) ok of = of_import c of
  imported_at (maybe_one c) ok of = of_import c of
  imported_at beyond ok at = absurd at
  imported_at (key_apart may) ok at = absurd at
  imported_at (key_node keys true) ok at = of_import private_key at.1
  imported_at (key_node keys false) ok of = of_import expression of
  imported_at (list kind c) ok at = absurd (no_list kind at.0 ok)
  imported_at (list_with_holes kind c) ok at = absurd (no_list kind at.0 ok)
  imported_at (body c) ok at = absurd (true≢false (ap is_import at.0))
  imported_at (item_or_hole c) ok (inl at) = absurd (true≢false (ap is_import at.0))
  imported_at (item_or_hole c) ok (inr of) = of_import c of
  imported_at (item_of_body c) ok (inl of) = of_import a_prologue of
  imported_at (item_of_body c) ok (inr at) = of_import c at.1

  -- with other names
  module _ (now : Forest) (h : AllImported now) where
    abbrev New : Place → Type 0
    New p = IsAt (import_declaration source) (node specifiers m now nothing) (λ q. Stand q (node specifiers m now nothing)) p

    with_others : (c : Class) → IsOf (import_declaration source) (node specifiers m names nothing) (λ q. Stand q (node specifiers m names nothing)) c
        → IsOf (import_declaration source) (node specifiers m now nothing) (λ q. Stand q (node specifiers m now nothing)) c
    with_others c of = (of.0, of.1, of.2, of.3, of.4, subst (λ ps. Stand (these ps) (node specifiers m now nothing)) (sym (import_plan source (has is_private (node specifiers m now nothing)) of.0 of.1 of.4)) ((refl, h), tt))

    import_at : (p : Place) → place_ok p ≡ true → Old p → New p
    import_at (one c) ok of = with_others c of
    import_at (maybe_one c) ok of = with_others c of
    import_at beyond ok at = absurd at
    import_at (key_apart may) ok at = absurd at
    import_at (key_node keys true) ok at = (at.0, with_others private_key at.1)
    import_at (key_node keys false) ok of = with_others expression of
    import_at (list kind c) ok at = absurd (no_list kind at.0 ok)
    import_at (list_with_holes kind c) ok at = absurd (no_list kind at.0 ok)
    import_at (body c) ok at = absurd (true≢false (ap is_import at.0))
    import_at (item_or_hole c) ok (inl at) = absurd (true≢false (ap is_import at.0))
    import_at (item_or_hole c) ok (inr of) = inr (with_others c of)
    import_at (item_of_body c) ok (inl of) = inl (with_others a_prologue of)
    import_at (item_of_body c) ok (inr at) = inr (at.0, with_others c at.1)

-- ---- rows

left_names : {source : List ℕ} {names r s : Forest} (plan : Plan) → plan_ok plan ≡ true → WithoutImport source names r s → Stand plan r → AllImported names
left_names {source = source} {names = names} plan ok (import_leaves n m rest) h = imported_at source m names (first_place plan) (first_ok plan ok) h.0
left_names plan ok (leaves_behind k n below r s out) h = left_names (shape.behind plan k) (behind_ok plan k ok) out h.1

left_stands : {source : List ℕ} {names r s : Forest} (plan : Plan) → plan_ok plan ≡ true → of_list plan ≡ true → WithoutImport source names r s → Stand plan r → Stand plan s
left_stands {source = source} plan ok listed (import_leaves n m rest) h = gone plan (import_declaration source) rest ok listed h.1
left_stands plan ok listed (leaves_behind k n below r s out) h = (h.0, left_stands (shape.behind plan k) (behind_ok plan k ok) (behind_list plan k listed) out h.1)

row_stands : {r s : Forest} (plan : Plan) → plan_ok plan ≡ true → of_list plan ≡ true → MergesIn r s → Stand plan r → Stand plan s
row_stands plan ok listed (merges_here source n m names later r s may_be out) h =
    let known = may names later may_be in
    let k = import_declaration source in
    let all = merged_stand known.names_are known.later_are (imported_at source m names (first_place plan) (first_ok plan ok) h.0) (left_names (shape.behind plan k) (behind_ok plan k ok) out h.1) in
    (import_at source m names (names_merged names later) all (first_place plan) (first_ok plan ok) h.0, left_stands (shape.behind plan k) (behind_ok plan k ok) (behind_list plan k listed) out h.1)
row_stands plan ok listed (merges_behind k n below r s merged) h = (h.0, row_stands (shape.behind plan k) (behind_ok plan k ok) (behind_list plan k listed) merged h.1)

-- ---- a program

module _ (source : SourceType) (n m : Note) (r s : Forest) (merged : MergesIn r s) where
  abbrev row_of : Forest → Forest
  row_of t = node Kind.Statements m t nothing

  list_stands : Moves (Kind.Program source) (row_of r) (row_of s)
  list_stands plan ok below h = (at_inside Kind.Statements r s (λ none. absurd cc) (λ p fine listed. row_stands p fine (listed refl) merged) (first_place plan) (first_ok plan ok) h.0, h.1)

  program_fits : Fits root (node (Kind.Program source) n (row_of r) nothing) → Fits root (node (Kind.Program source) n (row_of s) nothing)
  program_fits h = (at_inside (Kind.Program source) (row_of r) (row_of s) (λ none. refl) list_stands (one root) refl h.0, h.1)

pub merged_fits : (t u : Forest) → MergedImports t u → Fits root t → Fits root u
merged_fits _ _ (imports_merge n m r s h none) fits = program_fits source_type.Module n m r s h fits
