-- Edits bring in no references and declarations, and leave less.
use Rattle.std.proofs.Common.{◌≡◌, ◌≤◌, ◌<◌, ◌+◌, ℕ, List, true, false, Option, true≢false, arith, inl, inr, sym, subst}
use Rattle.js_syntax.specs.declared.node_kind.NodeKind.{NodeKind as Kind}
use Rattle.js_syntax.specs.declared.node_kind.NodeKind.TheVariants.{IfStatement as if_statement, TryStatement as try_statement, ConditionalExpression as conditional_expression, UnaryExpression as unary_expression, BinaryExpression as binary_expression, LogicalExpression as logical_expression}
use Rattle.js_syntax.specs.Class.{root}
use Rattle.js_syntax.specs.Facts as facts
use Rattle.js_syntax.specs.Node.{Forest, Note, nothing, node, absent, joined, total}
use Rattle.json_shape.specs.Shape.{Fits}
use Rattle.scope_laws.specs.Exact.{Among}
use Rattle.scope_counts.specs.Losing.{referring, declaring}
use Rattle.scope_counts.proofs.Rebuilding.{rebuilt_tally, rebuilt_thins}
use Rattle.scope_counts.proofs.Tables.{referring_each, each_referring}
use Rattle.scope_counts.specs.Counts.{Decl, Weight, tally, by_id, ids}
use Rattle.scope_counts.specs.Edits.{Around, here, behind, behind_none, under, plug}
use Rattle.scope_counts.specs.Scopes.{EachName, EachDeclaration, EachUse, EachReference}
use Rattle.steps.specs.KeepForm.Part.{gives_way}
use Rattle.steps.specs.Allowed.Edits.{Edit, TreeEdits, no_tree_edit, one_tree_edit}
use Rattle.steps.proofs.Owed.FitsEdits.{edit_fits}
use Rattle.steps.proofs.KeepForm.Asked.{tested_kinds}
use Rattle.steps.proofs.Owed.IdleBody.{idle_weighs}
use Rattle.steps.specs.KeepForm.Part.{a_var}
use Rattle.steps.proofs.VarNames.Table.{names_thin}
use Rattle.steps.proofs.Marked.Local.{Local, leaves, empties, empties_idle, tests, states, alternate, parts, rebuilds, names_left, is_local, IsLocal}
use Rattle.steps.proofs.Owed.Declaring.{declaring_each, each_declaring}
use Rattle.steps.proofs.Marked.Merged as merged
use Rattle.steps.proofs.Marked.Merged.{same_tally, same_referring}
use Rattle.steps.proofs.Marked.Passed as passed
use Rattle.steps.proofs.Marked.Passed.{fewer_tally}
use Rattle.steps.proofs.Owed.MergedLess.{merged_lighter}
use Rattle.steps.proofs.Owed.PassedLess.{passed_lighter}

-- ---- references

module _ (w : Weight) where
  tally_joined : (v t : Forest) → tally w (joined v t) ≡ tally w v + tally w t
  tally_joined nothing t = Prim.omega arith
  tally_joined (absent v) t = tally_joined v t
  tally_joined (node k n b v) t = Prim.omega (arith, tally_joined v t)

  tally_local : (place : Around) (t u : Forest) → Local place t u → tally w u ≤ tally w t
  tally_local place t u (leaves k n b rest listed plain weighs) = Prim.omega arith
  tally_local place t u (empties n m b rest) = Prim.omega arith
  tally_local place t u (empties_idle k n m b rest idle) = Prim.omega arith
  tally_local place t u (tests k l n m i b after rest tested) = Prim.omega arith
  tally_local place t u (states how x k n m l j i o b rest none) = Prim.omega arith
  tally_local place t u (alternate y l n i j o d b rest) = Prim.omega arith
  tally_local place t u (parts k l i j b v x rest gives unasked uncalled) = Prim.omega (arith, tally_joined v (node l j b x))
  tally_local place t u (rebuilds k l n m a b rest made uncalled) = Prim.omega (arith, rebuilt_tally w made.rebuilt)
  tally_local place t u (names_left k n m a b rest made) = let none = made.brings.no_ids w in Prim.omega (arith, none)

  tally_plug : (a : Around) (t u : Forest) → tally w u ≤ tally w t → tally w (plug a u) ≤ tally w (plug a t)
  tally_plug here t u h = h
  tally_plug (behind k n b a) t u h = Prim.omega (arith, tally_plug a t u h)
  tally_plug (behind_none a) t u h = tally_plug a t u h
  tally_plug (under k n a rest) t u h = Prim.omega (arith, tally_plug a t u h)

local_sheds : (t u : Forest) → IsLocal t u → (r : ℕ) → ids r u ≤ ids r t
local_sheds t u l r =
    subst (λ x. tally (by_id r) x ≤ ids r t) (sym l.new_is)
    (subst (λ x. tally (by_id r) (plug l.place l.new) ≤ tally (by_id r) x) (sym l.old_is) (tally_plug (by_id r) l.place l.old l.new (tally_local (by_id r) l.place l.old l.new l.local)))

edit_sheds_references : (t u : Forest) → Edit t u → Fits root t → (r : ℕ) → ids r u ≤ ids r t
edit_sheds_references t u e fits r = elim (is_local t u e fits) [
  | inl l ↦ local_sheds t u l r
  | inr (inl m) ↦ Prim.omega (arith, same_tally (by_id r) t u m)
  | inr (inr p) ↦ fewer_tally (by_id r) t u p
]

pub edits_shed : (t u : Forest) → TreeEdits t u → Fits root t → (r : ℕ) → ids r u ≤ ids r t
edits_shed t u (no_tree_edit v) fits r = Prim.omega arith
edits_shed t u (one_tree_edit v w x e more) fits r = Prim.omega (arith, edit_sheds_references v w e fits r, edits_shed w x more (edit_fits v w e fits) r)

-- ---- weights

gives_weight : (k : Kind) → gives_way k ≡ true → 1 ≤ facts.weight k
gives_weight if_statement e = Prim.omega arith
gives_weight try_statement e = Prim.omega arith
gives_weight conditional_expression e = Prim.omega arith
gives_weight (logical_expression operator) e = Prim.omega arith
gives_weight (unary_expression operator) e = Prim.omega arith
gives_weight (binary_expression operator) e = Prim.omega arith
gives_weight k e = absurd (true≢false (sym e))

weight_joined : (v t : Forest) → total facts.weight (joined v t) ≡ total facts.weight v + total facts.weight t
weight_joined nothing t = Prim.omega arith
weight_joined (absent v) t = weight_joined v t
weight_joined (node k n b v) t = Prim.omega (arith, weight_joined v t)

weight_local : (place : Around) (t u : Forest) → Local place t u → total facts.weight u < total facts.weight t
weight_local place t u (leaves k n b rest listed plain weighs) = Prim.omega (arith, weighs)
weight_local place t u (empties n m b rest) = Prim.omega arith
weight_local place t u (empties_idle k n m b rest idle) = let more = idle_weighs k idle in Prim.omega (arith, more)
weight_local place t u (tests k l n m i b after rest tested) = Prim.omega (arith, tested_kinds (λ z. 3 ≤ facts.weight z) (Prim.omega arith) k tested)
weight_local place t u (states how x k n m l j i o b rest none) = Prim.omega arith
weight_local place t u (alternate y l n i j o d b rest) = Prim.omega arith
weight_local place t u (parts k l i j b v x rest gives unasked uncalled) = Prim.omega (arith, weight_joined v (node l j b x), gives_weight k gives)
weight_local place t u (rebuilds k l n m a b rest made uncalled) = Prim.omega (arith, made.lighter)
weight_local place t u (names_left k n m a b rest made) = Prim.omega (arith, made.lighter)

weight_plug : (a : Around) (t u : Forest) → total facts.weight u < total facts.weight t → total facts.weight (plug a u) < total facts.weight (plug a t)
weight_plug here t u h = h
weight_plug (behind k n b a) t u h = Prim.omega (arith, weight_plug a t u h)
weight_plug (behind_none a) t u h = weight_plug a t u h
weight_plug (under k n a rest) t u h = Prim.omega (arith, weight_plug a t u h)

local_weighs_less : (t u : Forest) → IsLocal t u → total facts.weight u < total facts.weight t
local_weighs_less t u l =
    subst (λ x. total facts.weight x < total facts.weight t) (sym l.new_is)
    (subst (λ x. total facts.weight (plug l.place l.new) < total facts.weight x) (sym l.old_is) (weight_plug l.place l.old l.new (weight_local l.place l.old l.new l.local)))

pub edit_weighs_less : (t u : Forest) → Edit t u → Fits root t → total facts.weight u < total facts.weight t
edit_weighs_less t u e fits = elim (is_local t u e fits) [
  | inl l ↦ local_weighs_less t u l
  | inr (inl m) ↦ merged_lighter t u m
  | inr (inr p) ↦ passed_lighter t u p
]

pub edits_weigh_no_more : (t u : Forest) → TreeEdits t u → Fits root t → total facts.weight u ≤ total facts.weight t
edits_weigh_no_more t u (no_tree_edit v) fits = Prim.omega arith
edits_weigh_no_more t u (one_tree_edit v w x e more) fits = Prim.omega (arith, edit_weighs_less v w e fits, edits_weigh_no_more w x more (edit_fits v w e fits))

-- ---- declarations

module _ (P : List ℕ → Option ℕ → Type 0) where
  declared_part : (v : Forest) (l : Kind) (j : Note) (b w : Forest) → EachDeclaration P (joined v (node l j b w)) → EachName P j l × EachDeclaration P b
  declared_part nothing l j b w e = (e.0, e.1)
  declared_part (absent v) l j b w e = declared_part v l j b w e
  declared_part (node k n c v) l j b w e = declared_part v l j b w e.2

  declared_local : (place : Around) (t u : Forest) → Local place t u → EachDeclaration P t → EachDeclaration P u
  declared_local place t u (leaves k n b rest listed plain weighs) e = e.2
  declared_local place t u (empties n m b rest) e = (tt, tt, e.2)
  declared_local place t u (empties_idle k n m b rest idle) e = (tt, tt, e.2)
  declared_local place t u (tests k l n m i b after rest tested) e = (tt, (e.1.0, e.1.1, tt), e.2)
  declared_local place t u (states how x k n m l j i o b rest none) e = (tt, e.1.1.1.2, e.2)
  declared_local place t u (alternate y l n i j o d b rest) e = (e.0, (e.1.0, e.1.1, (e.1.2.0, e.1.2.1, tt)), e.2)
  declared_local place t u (parts k l i j b v x rest gives unasked uncalled) e = let inner = declared_part v l j b x e.1 in (inner.0, inner.1, e.2)
  declared_local place t u (rebuilds k l n m a b rest made uncalled) e = each_declaring P u (λ d h. declaring_each P t e d ((rebuilt_thins (λ r. false) k l n m a b rest made.rebuilt).declarations d h))
  declared_local place t u (names_left k n m a b rest made) e = each_declaring P u (λ d h. declaring_each P t e d ((names_thin k a_var n m a b rest made.names made.brings made.stand).declarations d h))

  declared_plug : (a : Around) (t u : Forest) → (EachDeclaration P t → EachDeclaration P u) → EachDeclaration P (plug a t) → EachDeclaration P (plug a u)
  declared_plug here t u f e = f e
  declared_plug (behind k n b a) t u f e = (e.0, e.1, declared_plug a t u f e.2)
  declared_plug (behind_none a) t u f e = declared_plug a t u f e
  declared_plug (under k n a rest) t u f e = (e.0, declared_plug a t u f e.1, e.2)

  edit_declares : (t u : Forest) → Edit t u → Fits root t → EachDeclaration P t → EachDeclaration P u
  edit_declares t u e fits declared = elim (is_local t u e fits) [
    | inl l ↦ subst (EachDeclaration P) (sym l.new_is) (declared_plug l.place l.old l.new (declared_local l.place l.old l.new l.local) (subst (EachDeclaration P) l.old_is declared))
    | inr (inl m) ↦ each_declaring P u (λ d h. declaring_each P t declared d (merged.declared_before t u m d h))
    | inr (inr p) ↦ each_declaring P u (λ d h. declaring_each P t declared d (passed.declared_before t u p d h))
  ]

  pub edits_declare : (t u : Forest) → TreeEdits t u → Fits root t → EachDeclaration P t → EachDeclaration P u
  edits_declare t u (no_tree_edit v) fits declared = declared
  edits_declare t u (one_tree_edit v w x e more) fits declared = edits_declare w x more (edit_fits v w e fits) (edit_declares v w e fits declared)

-- ---- references, whatever holds of each

module _ (P : List ℕ → Option ℕ → Type 0) where
  referring_part : (v : Forest) (l : Kind) (j : Note) (b w : Forest) → EachReference P (joined v (node l j b w)) → EachUse P j l × EachReference P b
  referring_part nothing l j b w e = (e.0, e.1)
  referring_part (absent v) l j b w e = referring_part v l j b w e
  referring_part (node k n c v) l j b w e = referring_part v l j b w e.2

  referring_local : (place : Around) (t u : Forest) → Local place t u → EachReference P t → EachReference P u
  referring_local place t u (leaves k n b rest listed plain weighs) e = e.2
  referring_local place t u (empties n m b rest) e = (tt, tt, e.2)
  referring_local place t u (empties_idle k n m b rest idle) e = (tt, tt, e.2)
  referring_local place t u (tests k l n m i b after rest tested) e = (tt, (e.1.0, e.1.1, tt), e.2)
  referring_local place t u (states how x k n m l j i o b rest none) e = (tt, e.1.1.1.2, e.2)
  referring_local place t u (alternate y l n i j o d b rest) e = (e.0, (e.1.0, e.1.1, (e.1.2.0, e.1.2.1, tt)), e.2)
  referring_local place t u (parts k l i j b v x rest gives unasked uncalled) e = let inner = referring_part v l j b x e.1 in (inner.0, inner.1, e.2)
  referring_local place t u (rebuilds k l n m a b rest made uncalled) e = each_referring P u (λ d h. referring_each P t e d ((rebuilt_thins (λ r. false) k l n m a b rest made.rebuilt).references d h))
  referring_local place t u (names_left k n m a b rest made) e = each_referring P u (λ d h. referring_each P t e d ((names_thin k a_var n m a b rest made.names made.brings made.stand).references d h))

  referring_plug : (a : Around) (t u : Forest) → (EachReference P t → EachReference P u) → EachReference P (plug a t) → EachReference P (plug a u)
  referring_plug here t u f e = f e
  referring_plug (behind k n b a) t u f e = (e.0, e.1, referring_plug a t u f e.2)
  referring_plug (behind_none a) t u f e = referring_plug a t u f e
  referring_plug (under k n a rest) t u f e = (e.0, referring_plug a t u f e.1, e.2)

  edit_refers : (t u : Forest) → Edit t u → Fits root t → EachReference P t → EachReference P u
  edit_refers t u e fits refers = elim (is_local t u e fits) [
    | inl l ↦ subst (EachReference P) (sym l.new_is) (referring_plug l.place l.old l.new (referring_local l.place l.old l.new l.local) (subst (EachReference P) l.old_is refers))
    | inr (inl m) ↦ each_referring P u (λ d h. referring_each P t refers d (subst (Among d) (same_referring t u m) h))
    | inr (inr p) ↦ each_referring P u (λ d h. referring_each P t refers d (passed.referred_before t u p d h))
  ]

  pub edits_refer : (t u : Forest) → TreeEdits t u → Fits root t → EachReference P t → EachReference P u
  edits_refer t u (no_tree_edit v) fits referring = referring
  edits_refer t u (one_tree_edit v w x e more) fits referring = edits_refer w x more (edit_fits v w e fits) (edit_refers v w e fits referring)

-- ---- among what stood there

abbrev named : List Decl → List ℕ → Option ℕ → Type 0
named ds x q = Among (record { name = x; symbol = q }) ds

pub declared_before : (t u : Forest) → TreeEdits t u → Fits root t → (d : Decl) → Among d (declaring u) → Among d (declaring t)
declared_before t u edits fits d h = declaring_each (named (declaring t)) u (edits_declare (named (declaring t)) t u edits fits (each_declaring (named (declaring t)) t (λ e k. k))) d h

pub referred_before : (t u : Forest) → TreeEdits t u → Fits root t → (d : Decl) → Among d (referring u) → Among d (referring t)
referred_before t u edits fits d h = referring_each (named (referring t)) u (edits_refer (named (referring t)) t u edits fits (each_referring (named (referring t)) t (λ e k. k))) d h
