-- A core module of the table that breaks no rule of form is formed and well placed, place by place.
use Rattle.std.proofs.Common.{◌≡◌, ℕ, ◌+◌, suc, inl, inr, [], ◌∷◌, ◌++◌, Bool, true, false, ◌&&◌, Some, refl, sym, subst}
use Rattle.js_tree.specs.Count.{one_each, node_count}
use Rattle.js_syntax.specs.Class.{Class, root, a_prologue, expression, private_key, module_item}
use Rattle.js_syntax.specs.declared.node_kind.NodeKind.{NodeKind as Kind}
use Rattle.js_syntax.specs.declared.scalar.SourceType.{SourceType}
use Rattle.js_syntax.specs.Facts.{is_core}
use Rattle.js_syntax.specs.Hint.{has, is_private}
use Rattle.js_syntax.specs.Node.{Note, Forest, nothing, node, absent}
use Rattle.js_syntax.specs.Table.{Row, a_program, fields_of, type_of, stands}
use Rattle.steps.specs.Steps.{all_core}
use Rattle.form_rules.specs.Context as around
use Rattle.form_rules.specs.Context.{Context, inside}
use Rattle.form_rules.specs.Rules.{broken_at}
use Rattle.form_rules.specs.Form.{broken_in, broken, IsWellFormed}
use Rattle.steps.specs.KeepRuns.Formed.{may_hold, holds_well, heads, is_formed}
use Rattle.steps.specs.Naming.Placed as placed
use Rattle.steps.specs.Naming.Placed.{fits, sort_of, place_below, well_placed, has_plain_value, has_plain_values, is_well_placed}
use Rattle.json_shape.specs.Shape.{Values, kind_in, first_of, Place, one, maybe_one, beyond, key_node, key_apart, list, list_with_holes, body, item_or_hole, item_of_body, places, Plan, these, all, all_or_holes, all_of_body, first_place, behind, IsOf, IsAt, Stand, Fits}
use Rattle.json_shape.proofs.Choice.{is_list_kind}
use Rattle.steps.proofs.KeepForm.Rules.{first_empty, second_empty}
use Rattle.steps.proofs.Fit.CoreRows.{core_right, places_so}
use Rattle.steps.proofs.Fit.Held.{core_here, core_below, core_behind, no_hole}
use Rattle.steps.proofs.Fit.Takes.{takes, takes_list, is_held, is_fit, suits, suits_at, Suits, first_suits, behind_suits, made_suits, list_heads, list_values, list_takes}
use Rattle.steps.proofs.Fit.Trees.{fifth_kept, not_declared_alone, name_kept, made_heads, made_values}
use Rattle.js_syntax.proofs.Truth.{first_of_both, second_of_both, both}
use Rattle.steps.proofs.KeepForm.Form.{none_broken}

-- ---- what is shown of a row below a node of this kind, whose nodes stand at these places

abbrev pub Good : Kind → (ℕ → placed.Place) → (at : ℕ) → Forest → Type 0
Good k q at t = (holds_well k t ≡ true) × (is_formed t ≡ true) × (well_placed q at t ≡ true) × (has_plain_values t ≡ true)

-- and of a node, by the row below it
abbrev GoodNode : Kind → placed.Place → Kind → Forest → Type 0
GoodNode above q k a = (may_hold above k ≡ true) × (fits q (sort_of k) ≡ true) × (heads k a ≡ true) × (has_plain_value k a ≡ true) × Good k (place_below q k) 0 a

-- what a node breaks, and those below it
abbrev Whole : Context → Kind → (place inner : ℕ) → Forest → Type 0
Whole c k place inner a = (is_core k ≡ true) × (broken_at c k place a ≡ []) × (broken_in (inside c k a) 0 inner a ≡ [])

abbrev Shown : Forest → Type 0
Shown t = (k : Kind) (q : ℕ → placed.Place) (context : ℕ → Context) (at place : ℕ) (plan : Plan) → Suits k q context at plan → Stand plan t → all_core t ≡ true → broken_in context at place t ≡ [] → Good k q at t

module _ (a : Forest) (below : Shown a) (core : all_core a ≡ true) (above : Kind) (q : placed.Place) (c : Context) (place inner : ℕ) where
  good_row : (cl : Class) (r : Row) (vs : Values (fields_of r)) → takes above q c.is_alone cl ≡ true → stands cl (type_of r) ≡ Some (first_of r) → Stand (these (places (has is_private a) (fields_of r) vs)) a
      → Whole c (kind_in r vs) place inner a → GoodNode above q (kind_in r vs) a
  good_row cl r vs h is st whole = (
    is_held above q c.is_alone cl h r vs is,
    is_fit above q c.is_alone cl h r vs is whole.0 (not_declared_alone c (kind_in r vs) place a whole.1),
    made_heads r vs (has is_private a) a (core_right r vs whole.0) core (name_kept c (kind_in r vs) place a (fifth_kept c (kind_in r vs) place a whole.1)) st,
    made_values r vs (has is_private a) a core st,
    below (kind_in r vs) (place_below q (kind_in r vs)) (inside c (kind_in r vs) a) 0 inner (these (places (has is_private a) (fields_of r) vs))
        (places_so (λ i p. suits_at (kind_in r vs) (place_below q (kind_in r vs)) (inside c (kind_in r vs) a) i p) (has is_private a) 0 (fields_of r) vs (made_suits q c a r vs whole.0)) st core whole.2,
  )

  good_of : (k : Kind) (cl : Class) → takes above q c.is_alone cl ≡ true → IsOf k a (λ p. Stand p a) cl → Whole c k place inner a → GoodNode above q k a
  good_of k cl h of whole = subst (λ x. Whole c x place inner a → GoodNode above q x a) (sym of.4) (good_row cl of.0 of.1 h of.2 of.5) whole

  good_list : (kind : Kind) (plan : Plan) → takes_list above q kind ≡ true → (is_list_kind kind ≡ true → Suits kind (place_below q kind) (inside c kind a) 0 plan) → Stand plan a → Whole c kind place inner a → GoodNode above q kind a
  good_list kind plan h suit st whole =
      let is = first_of_both (is_list_kind kind) (may_hold above kind && fits q (sort_of kind)) h in
      let stays = second_of_both (is_list_kind kind) (may_hold above kind && fits q (sort_of kind)) h in (
        first_of_both (may_hold above kind) (fits q (sort_of kind)) stays,
        second_of_both (may_hold above kind) (fits q (sort_of kind)) stays,
        list_heads a kind is,
        list_values a kind is,
        below kind (place_below q kind) (inside c kind a) 0 inner plan (suit is) st core whole.2,
      )

  good_kind : (k kind : Kind) (plan : Plan) → k ≡ kind → takes_list above q kind ≡ true → (is_list_kind kind ≡ true → Suits kind (place_below q kind) (inside c kind a) 0 plan) → Stand plan a → Whole c k place inner a → GoodNode above q k a
  good_kind k kind plan is h suit st whole = subst (λ x. Whole c x place inner a → GoodNode above q x a) (sym is) (good_list kind plan h suit st) whole

  good_at : (p : Place) (k : Kind) → suits above q c.is_alone p ≡ true → IsAt k a (λ p. Stand p a) p → Whole c k place inner a → GoodNode above q k a
  good_at (one cl) k h of whole = good_of k cl h of whole
  good_at (maybe_one cl) k h of whole = good_of k cl h of whole
  good_at beyond k h at whole = absurd at
  good_at (key_apart may) k h at whole = absurd at
  good_at (key_node keys true) k h at whole = good_of k private_key (first_of_both (takes above q c.is_alone private_key) (takes above q c.is_alone expression) h) at.1 whole
  good_at (key_node keys false) k h at whole = good_of k expression (second_of_both (takes above q c.is_alone private_key) (takes above q c.is_alone expression) h) at whole
  good_at (list kind cl) k h at whole =
      good_kind k kind (all cl) at.0 (first_of_both (takes_list above q kind) (takes kind (place_below q kind 0) false cl) h)
      (λ is i. list_takes q c a kind cl i is (second_of_both (takes_list above q kind) (takes kind (place_below q kind 0) false cl) h)) at.1 whole
  good_at (list_with_holes kind cl) k h at whole =
      good_kind k kind (all_or_holes cl) at.0 (first_of_both (takes_list above q kind) (takes kind (place_below q kind 0) false cl) h)
      (λ is i. list_takes q c a kind cl i is (second_of_both (takes_list above q kind) (takes kind (place_below q kind 0) false cl) h)) at.1 whole
  good_at (body cl) k h at whole =
      let items = second_of_both (takes_list above q Kind.Statements) (takes Kind.Statements (place_below q Kind.Statements 0) false cl && takes Kind.Statements (place_below q Kind.Statements 0) false a_prologue) h in
      good_kind k Kind.Statements (all_of_body cl) at.0 (first_of_both (takes_list above q Kind.Statements) (takes Kind.Statements (place_below q Kind.Statements 0) false cl && takes Kind.Statements (place_below q Kind.Statements 0) false a_prologue) h)
      (λ is i. both (takes Kind.Statements (place_below q Kind.Statements i) (inside c Kind.Statements a i).is_alone cl) (takes Kind.Statements (place_below q Kind.Statements i) (inside c Kind.Statements a i).is_alone a_prologue)
      (list_takes q c a Kind.Statements cl i is (first_of_both (takes Kind.Statements (place_below q Kind.Statements 0) false cl) (takes Kind.Statements (place_below q Kind.Statements 0) false a_prologue) items))
      (list_takes q c a Kind.Statements a_prologue i is (second_of_both (takes Kind.Statements (place_below q Kind.Statements 0) false cl) (takes Kind.Statements (place_below q Kind.Statements 0) false a_prologue) items))) at.1 whole
  good_at (item_or_hole cl) k h (inl at) whole = absurd (no_hole k at.0 whole.0)
  good_at (item_or_hole cl) k h (inr of) whole = good_of k cl h of whole
  good_at (item_of_body cl) k h (inl of) whole = good_of k a_prologue (second_of_both (takes above q c.is_alone cl) (takes above q c.is_alone a_prologue) h) of whole
  good_at (item_of_body cl) k h (inr at) whole = good_of k cl (first_of_both (takes above q c.is_alone cl) (takes above q c.is_alone a_prologue) h) at.1 whole

-- ---- the breaks of a row

module _ (f : ℕ → Context) (at place : ℕ) (k : Kind) (n : Note) (a r : Forest) (h : broken_in f at place (node k n a r) ≡ []) where
  front : broken_at (f at) k place a ++ broken_in (inside (f at) k a) 0 (place + one_each k) a ≡ []
  front = first_empty (broken_at (f at) k place a ++ broken_in (inside (f at) k a) 0 (place + one_each k) a) (broken_in f (suc at) (place + node_count (node k n a nothing)) r) h

  whole_here : broken_at (f at) k place a ≡ []
  whole_here = first_empty (broken_at (f at) k place a) (broken_in (inside (f at) k a) 0 (place + one_each k) a) front

  whole_below : broken_in (inside (f at) k a) 0 (place + one_each k) a ≡ []
  whole_below = second_empty (broken_at (f at) k place a) (broken_in (inside (f at) k a) 0 (place + one_each k) a) front

  whole_behind : broken_in f (suc at) (place + node_count (node k n a nothing)) r ≡ []
  whole_behind = second_empty (broken_at (f at) k place a ++ broken_in (inside (f at) k a) 0 (place + one_each k) a) (broken_in f (suc at) (place + node_count (node k n a nothing)) r) h

-- ---- trees

good_both : (above : Kind) (q : ℕ → placed.Place) (at : ℕ) (k : Kind) (n : Note) (a r : Forest) → GoodNode above (q at) k a → Good above q (suc at) r → Good above q at (node k n a r)
good_both above q at k n a r this later = (
  both (may_hold above k) (holds_well above r) this.0 later.0,
  both (holds_well k a && heads k a) (is_formed a && is_formed r) (both (holds_well k a) (heads k a) this.4.0 this.2) (both (is_formed a) (is_formed r) this.4.1 later.1),
  both (fits (q at) (sort_of k)) (well_placed (place_below (q at) k) 0 a && well_placed q (suc at) r) this.1 (both (well_placed (place_below (q at) k) 0 a) (well_placed q (suc at) r) this.4.2 later.2),
  both (has_plain_value k a) (has_plain_values a && has_plain_values r) this.3 (both (has_plain_values a) (has_plain_values r) this.4.3 later.3),
)

pub good_as_planned : (t : Forest) → Shown t
good_as_planned nothing above q f at place plan suit st core whole = (refl, refl, refl, refl)
good_as_planned (absent r) above q f at place plan suit st core whole =
    let later = good_as_planned r above q f (suc at) place (behind plan Kind.Hole) (behind_suits above q f at plan Kind.Hole suit) st.1 core whole in
    (later.0, later.1, later.2, later.3)
good_as_planned (node k n a r) above q f at place plan suit st core whole =
    good_both above q at k n a r
    (good_at a (good_as_planned a) (core_below k n a r core) above (q at) (f at) place (place + one_each k) (first_place plan) k (first_suits above q f at plan suit) st.0
    (core_here k n a r core, whole_here f at place k n a r whole, whole_below f at place k n a r whole))
    (good_as_planned r above q f (suc at) (place + node_count (node k n a nothing)) (behind plan k) (behind_suits above q f at plan k suit) st.1 (core_behind k n a r core) (whole_behind f at place k n a r whole))

-- ---- modules

good_root : (r : Row) (vs : Values (fields_of r)) (private : Bool) (source : SourceType) (c : Context) (inner : ℕ) (a : Forest) → stands root (type_of r) ≡ Some (first_of r) → Stand (these (places private (fields_of r) vs)) a → all_core a ≡ true
    → broken_in (inside c (Kind.Program source) a) 0 inner a ≡ [] → Good (Kind.Program source) (place_below placed.others (Kind.Program source)) 0 a
good_root a_program vs private source c inner a is st core whole =
    good_as_planned a (Kind.Program source) (place_below placed.others (Kind.Program source)) (inside c (Kind.Program source) a) 0 inner (these (body module_item ∷ [])) refl st core whole
good_root r vs private source c inner a is st core whole = absurd cc

pub good_program : (source : SourceType) (n : Note) (a : Forest) → Fits root (node (Kind.Program source) n a nothing) → IsWellFormed (node (Kind.Program source) n a nothing) → all_core a ≡ true
    → Good (Kind.Program source) (place_below placed.others (Kind.Program source)) 0 a
good_program source n a fits form core =
    good_root fits.0.0 fits.0.1 (has is_private a) source (around.outermost source) (0 + one_each (Kind.Program source)) a fits.0.2 fits.0.5 core
    (whole_below (λ at. around.outermost source) 0 0 (Kind.Program source) n a nothing (none_broken (broken (node (Kind.Program source) n a nothing)) form))

pub program_formed : (source : SourceType) (n : Note) (a : Forest) → Fits root (node (Kind.Program source) n a nothing) → IsWellFormed (node (Kind.Program source) n a nothing) → all_core a ≡ true → is_formed (node (Kind.Program source) n a nothing) ≡ true
program_formed source n a fits form core =
    let good = good_program source n a fits form core in
    both (holds_well (Kind.Program source) a && true) (is_formed a && true) (both (holds_well (Kind.Program source) a) true good.0 refl) (both (is_formed a) true good.1 refl)

pub program_well_placed : (source : SourceType) (n : Note) (a : Forest) → Fits root (node (Kind.Program source) n a nothing) → IsWellFormed (node (Kind.Program source) n a nothing) → all_core a ≡ true → is_well_placed (node (Kind.Program source) n a nothing) ≡ true
program_well_placed source n a fits form core =
    let good = good_program source n a fits form core in
    both (well_placed (place_below placed.others (Kind.Program source)) 0 a) (has_plain_values a) good.2 good.3
