-- No export stands in a statement, so that of one that leaves a declaration of its names each declaration that counts stays.
use Rattle.std.proofs.Common.{◌≡◌, ◌∙◌, ◌<◌, inl, inr, ℕ, suc, [], ◌∷◌, ◌++◌, Bool, true, false, not, ◌&&◌, true≢false, Some, refl, sym, ap, ap₂, subst, arith}
use Rattle.js_syntax.specs.Class.{Class, root, a_prologue, module_item, statement, expression, private_key}
use Rattle.js_syntax.specs.declared.node_kind.NodeKind.{NodeKind as Kind}
use Rattle.js_syntax.specs.Hint.{has, is_private}
use Rattle.js_syntax.specs.Node.{Forest, Note, nothing, node, absent, alone}
use Rattle.js_syntax.specs.Table.{Row, a_program, an_export_list, an_export_declaration, an_export_from, an_export_default_declaration, fields_of, type_of, stands}
use Rattle.js_syntax.proofs.Truth.{first_of_both, second_of_both, both}
use Rattle.json_shape.specs.Shape.{Values, kind_in, first_of, Place, one, maybe_one, beyond, key_node, key_apart, list, list_with_holes, body, item_or_hole, item_of_body, places, Plan, these, all, all_or_holes, all_of_body, first_place, behind, IsOf, IsAt, Stand, Fits}
use Rattle.json_shape.proofs.Choice.{is_list_kind}
use Rattle.scope_rules.specs.Context.{Context}
use Rattle.scope_rules.specs.Site.{BindingSite}
use Rattle.scope_laws.specs.Exact.{Among}
use Rattle.scope_laws.specs.Place.{one_place}
use Rattle.scope_counts.specs.Counts.{Aims, no_part, aims_inside}
use Rattle.steps.specs.KeepForm.Part.{a_var}
use Rattle.steps.specs.Naming.Standing.{is_export}
use Rattle.steps.proofs.Fit.Passing.{fields_pass, plan_passes, first_passes, behind_passes, places_pass}
use Rattle.steps.proofs.Marked.Unexporting.{decl_of}
use Rattle.steps.proofs.VarNames.Left.{NamesLeft}
use Rattle.rules.proofs.Export.Gathered.{gathered, all_gathered, is_gathered}
use Rattle.rules.proofs.Export.Staying.{Stays}

-- ---- which places take no export

abbrev is_inner_class : Class → Bool
is_inner_class root = false
is_inner_class module_item = false
is_inner_class c = true

abbrev is_inner : Place → Bool
is_inner (one c) = is_inner_class c
is_inner (maybe_one c) = is_inner_class c
is_inner (list kind c) = is_list_kind kind && is_inner_class c
is_inner (list_with_holes kind c) = is_list_kind kind && is_inner_class c
is_inner (body c) = is_inner_class c
is_inner (item_or_hole c) = is_inner_class c
is_inner (item_of_body c) = is_inner_class c
is_inner p = true

-- trees without exports
abbrev lacks_exports : Forest → Bool
lacks_exports nothing = true
lacks_exports (absent r) = lacks_exports r
lacks_exports (node k n a r) = not (is_export k) && (lacks_exports a && lacks_exports r)

-- ---- what a row of the table makes there

row_inner : (r : Row) (c : Class) → is_inner_class c ≡ true → stands c (type_of r) ≡ Some (first_of r) → fields_pass is_inner (fields_of r) ≡ true
row_inner a_program root inner is = absurd cc
row_inner a_program c inner is = absurd cc
row_inner r c inner is = refl

row_unexported : (r : Row) (c : Class) (vs : Values (fields_of r)) → is_inner_class c ≡ true → stands c (type_of r) ≡ Some (first_of r) → is_export (kind_in r vs) ≡ false
row_unexported an_export_list module_item vs inner is = absurd cc
row_unexported an_export_list c vs inner is = absurd cc
row_unexported an_export_declaration module_item vs inner is = absurd cc
row_unexported an_export_declaration c vs inner is = absurd cc
row_unexported an_export_from module_item vs inner is = absurd cc
row_unexported an_export_from c vs inner is = absurd cc
row_unexported an_export_default_declaration module_item vs inner is = absurd cc
row_unexported an_export_default_declaration c vs inner is = absurd cc
row_unexported r c vs inner is = refl

list_unexported : (kind : Kind) → is_list_kind kind ≡ true → is_export kind ≡ false
list_unexported (Kind.ExportNamedDeclaration source) h = absurd cc
list_unexported Kind.ExportDefaultDeclaration h = absurd cc
list_unexported kind h = refl

-- ---- a node there

module _ (a : Forest) (below : (plan : Plan) → plan_passes is_inner plan ≡ true → Stand plan a → lacks_exports a ≡ true) where
  lacking_of : (c : Class) (k : Kind) → is_inner_class c ≡ true → IsOf k a (λ p. Stand p a) c → (is_export k ≡ false) × (lacks_exports a ≡ true)
  lacking_of c k inner of = (
    ap is_export of.4 ∙ row_unexported of.0 c of.1 inner of.2,
    below (these (places (has is_private a) (fields_of of.0) of.1)) (places_pass is_inner (has is_private a) (fields_of of.0) of.1 (row_inner of.0 c inner of.2)) of.5,
  )

  lacking_list : (kind k : Kind) (c : Class) (plan : Plan) → k ≡ kind → (is_list_kind kind && is_inner_class c) ≡ true → (is_inner_class c ≡ true → plan_passes is_inner plan ≡ true) → Stand plan a
      → (is_export k ≡ false) × (lacks_exports a ≡ true)
  lacking_list kind k c plan is h passes st = (
    ap is_export is ∙ list_unexported kind (first_of_both (is_list_kind kind) (is_inner_class c) h),
    below plan (passes (second_of_both (is_list_kind kind) (is_inner_class c) h)) st,
  )

  lacking_at : (p : Place) (k : Kind) → is_inner p ≡ true → IsAt k a (λ p. Stand p a) p → (is_export k ≡ false) × (lacks_exports a ≡ true)
  lacking_at (one c) k h of = lacking_of c k h of
  lacking_at (maybe_one c) k h of = lacking_of c k h of
  lacking_at beyond k h at = absurd at
  lacking_at (key_apart may) k h at = absurd at
  lacking_at (key_node keys true) k h at = lacking_of private_key k refl at.1
  lacking_at (key_node keys false) k h at = lacking_of expression k refl at
  lacking_at (list kind c) k h at = lacking_list kind k c (all c) at.0 h (λ e. e) at.1
  lacking_at (list_with_holes kind c) k h at = lacking_list kind k c (all_or_holes c) at.0 h (λ e. e) at.1
  lacking_at (body c) k h at = (ap is_export at.0, below (all_of_body c) (both (is_inner_class c) (is_inner_class c) h h) at.1)
  lacking_at (item_or_hole c) k h (inl at) = (ap is_export at.0, below (these []) refl at.1)
  lacking_at (item_or_hole c) k h (inr of) = lacking_of c k h of
  lacking_at (item_of_body c) k h (inl of) = lacking_of a_prologue k refl of
  lacking_at (item_of_body c) k h (inr at) = lacking_of c k h at.1

-- ---- rows of nodes

lacking : (t : Forest) (plan : Plan) → plan_passes is_inner plan ≡ true → Stand plan t → lacks_exports t ≡ true
lacking nothing plan h st = refl
lacking (absent r) plan h st = lacking r (behind plan Kind.Hole) (behind_passes is_inner plan Kind.Hole h) st.1
lacking (node k n a r) plan h st =
    let here = lacking_at a (λ p. lacking a p) (first_place plan) k (first_passes is_inner plan refl h) st.0 in
    both (not (is_export k)) (lacks_exports a && lacks_exports r) (ap not here.0) (both (lacks_exports a) (lacks_exports r) here.1 (lacking r (behind plan k) (behind_passes is_inner plan k h) st.1))

statement_lacks : (t : Forest) → Fits statement t → lacks_exports t ≡ true
statement_lacks t fits = lacking t (these (one statement ∷ [])) refl fits

-- ---- declarations below exports

none_by : (b : Bool) (aims : ℕ → Aims) (t : Forest) → not b ≡ true → gathered false aims 0 t ≡ [] → gathered b aims 0 t ≡ []
none_by true aims t e h = absurd (true≢false (sym e))
none_by false aims t e h = h

none_gathered : (aims : ℕ → Aims) (at : ℕ) (t : Forest) → lacks_exports t ≡ true → gathered false aims at t ≡ []
none_gathered aims at nothing h = refl
none_gathered aims at (absent r) h = none_gathered aims (suc at) r h
none_gathered aims at (node k n a r) h =
    let inner = second_of_both (not (is_export k)) (lacks_exports a && lacks_exports r) h in
    ap₂ (λ ds es. ds ++ es)
    (none_by (is_export k) (aims_inside no_part (aims at) k a) a (first_of_both (not (is_export k)) (lacks_exports a && lacks_exports r) h)
    (none_gathered (aims_inside no_part (aims at) k a) 0 a (first_of_both (lacks_exports a) (lacks_exports r) inner)))
    (none_gathered aims (suc at) r (second_of_both (lacks_exports a) (lacks_exports r) inner))

pub names_stay : (e : BindingSite) → e.layer.scope ≡ 0 → (k : Kind) (n m : Note) (a b : Forest) → NamesLeft k n a m b → (c : Context) (next : ℕ) → 0 < next
    → Stays e (record { kind = k; note = n; below = a }) (Some (record { kind = a_var; note = m; below = b })) c next
names_stay e top k n m a b left c next some true aims same h =
    subst (Among (decl_of e)) (all_gathered (λ i. aims) 0 (alone k n a) ∙ left.same aims ∙ sym (all_gathered (λ i. aims) 0 (alone a_var m b)))
    (is_gathered e true (λ at. c) (λ at. aims) 0 next (one_place (Some (record { kind = k; note = n; below = a }))) (Prim.omega (arith, some, top)) (λ i. same) h)
names_stay e top k n m a b left c next some false aims same h =
    absurd (subst (Among (decl_of e)) (none_gathered (λ i. aims) 0 (alone k n a) (statement_lacks (alone k n a) left.fits))
    (is_gathered e false (λ at. c) (λ at. aims) 0 next (one_place (Some (record { kind = k; note = n; below = a }))) (Prim.omega (arith, some, top)) (λ i. same) h))
