-- What the two hooks do, and that they may.
use Rattle.std.proofs.Common.{◌≡◌, ◌∙◌, ◌⊎◌, inl, inr, ◌<◌, ◌≤◌, ◌+◌, ℕ, Bool, true, false, ◌||◌, ◌&&◌, if◌then◌else◌, List, [], Option, Some, None, length, refl, sym, ap, subst, arith, true≢false}
use Rattle.std.specs.Prelude.{nat_lt, is_some}
use Rattle.std.proofs.Math.ListN.{get_or-eq_default}
use Rattle.js_syntax.specs.declared.node_kind.NodeKind.{NodeKind as Kind}
use Rattle.js_syntax.specs.declared.node_kind.NodeKind.TheVariants.{Statements as statements, EmptyStatement as empty_statement}
use Rattle.js_syntax.specs.Facts.{weight}
use Rattle.js_syntax.specs.declared.scalar.Span.{Span}
use Rattle.js_syntax.specs.Node.{Forest, Tree, Note, nothing, node, row, forest_of, total}
use Rattle.scope_counts.specs.Counts.{ids}
use Rattle.scope_counts.specs.Edits.{Around, plug}
use Rattle.scope_counts.specs.Losing.{left, MarksWhatLeft}
use Rattle.scope_counts.proofs.Scopes.{below_or_above}
use Rattle.symbol_sets.specs.Numbers.{has}
use Rattle.steps.specs.Allowed.Edits.{Edit, TreeEdits, no_tree_edit, one_tree_edit}
use Rattle.min_context.specs.Edited.{evals, Edited, DropsNode, Leaves}
use Rattle.min_context.specs.Place.{Place, place_at, goes_on}
use Rattle.min_context.specs.Seen.{Seen, still}
use Rattle.min_pass.specs.Pass.{unmarked}
use Rattle.min_traverse.specs.Edits.{Edits, no_edit, one_edit}
use Rattle.min_traverse.specs.Lawful.{MarksLeft, Stays, Does, or_same}
use Rattle.min_traverse.specs.Moves.{Holds, IsHere, NodeMoves, before}
use Rattle.min_traverse.specs.Slot.{is_key_place, is_statement_place, is_statement, own_slot, outer_slot}
use Rattle.min_traverse.specs.Visits.{above_place}
use Rattle.min_traverse.specs.declared.slot.Outer.{Outer}
use Rattle.min_traverse.specs.declared.slot.Outer.TheVariants as outer
use Rattle.min_traverse.proofs.Joining.{does_some, does_none, held_moves, unchanged_moves}
use Rattle.rules.specs.DeadCode.Knows.{Knows}
use Rattle.rules.specs.DeadCode.Rules.{Facts, Where, where_of, trimmed, becomes_empty, emptied}
use Rattle.rules.specs.Expressions.Jumps.{emptied_behind}
use Rattle.rules.proofs.DeadCode.Keeping.{keeps}
use Rattle.rules.proofs.DeadCode.Emptying.{statement_empties_there}
use Rattle.rules.proofs.DeadCode.Lighter.{emptied_is_lighter, emptied_sheds}
use Rattle.min_statements.specs.Acts.{has_gone, shorter, trim, empty}
use Rattle.json_shape.specs.Shape.{Fits}
use Rattle.js_syntax.specs.Class.{root}
use Rattle.rules.proofs.Told.Edited.{joined_only, calls_of, edits_names, edits_told_only}
use Rattle.rules.proofs.Told.Nested.{edits_nest}
use Rattle.rules.proofs.Export.Edited.{listed_stay}
use Rattle.min_statements.specs.Own.{AnyEdit, ExportedOnly, Own, IsToldOnly}
use Rattle.min_statements.proofs.Calls.{is_no_name, emptied_is_no_name, evals_kept, CallsStay, none_dropped}
use Rattle.steps.specs.Allowed.Uses.{use_at, stands_bare}
use Rattle.rules.specs.DeadCode.Before as in_row
use Rattle.min_statements.specs.Shed.{shed, inert_shed, list_shed}
use Rattle.min_statements.specs.Walker.{Names, facts_of}
use Rattle.min_statements.proofs.Shed.{LeavesBy, facts_still, leaves_more, edited}
use Rattle.min_statements.proofs.Gone.{shorter_sheds, shorter_is_lighter, list_shortens, ids_split, evals_split}

-- ---- what the calls do

some_left : {b : Bool} (y : Tree) → b ≡ true → (if b then Some y else None) ≡ Some y
some_left y e = ap (λ b. if b then Some y else None) e

pub none_left : {b : Bool} (y : Tree) → b ≡ false → (if b then Some y else None) ≡ None
none_left y e = ap (λ b. if b then Some y else None) e

trim_ids : (r : ℕ) (n : Note) (b u : Forest) (s : ℕ) → ids r b ≡ s + ids r u → ids r (node statements n b nothing) ≡ s + ids r (node statements n u nothing)
trim_ids r n b u s h = Prim.omega (arith, h)

trim_evals : (n : Note) (b u : Forest) (s : ℕ) → evals b ≡ s + evals u → evals (node statements n b nothing) ≡ s + evals (node statements n u nothing)
trim_evals n b u s h = Prim.omega (arith, h)

trim_does : (names : Names) (c k d : Seen) (x y : Tree) → x.kind ≡ statements → has_gone (facts_of names c) (where_of c.place) x.below ≡ true → k ≡ record c { requested = true } → LeavesBy (λ m f t. list_shed m f (where_of c.place) t) names k x.below d
    → y ≡ record x { below = shorter (facts_of names c) (where_of c.place) x.below } → Does (trim names) c x true d y
trim_does names c k d x y list dead asked leaves tree =
    let f = facts_of names c in
    let w = where_of c.place in
    let z : Tree = record { kind = statements; note = x.note; below = x.below } in
    let v : Tree = record { kind = statements; note = x.note; below = shorter f w x.below } in
    let is : x ≡ z = ap {A = Kind} {B = Tree} (λ q. record { kind = q; note = x.note; below = x.below }) list in
    let left_is : y ≡ v = tree ∙ ap {A = Kind} {B = Tree} (λ q. record { kind = q; note = x.note; below = shorter f w x.below }) list in
    let now : LeavesBy (λ m g t. list_shed m g w t) names (record c { requested = true }) x.below d = subst (λ q. LeavesBy (λ m g t. list_shed m g w t) names q x.below d) asked leaves in
    let e : Edited c z v true d = edited z v refl now (λ r. trim_ids r x.note x.below (shorter f w x.below) (list_shed (ids r) f w x.below) (ids_split r f w x.below)) (trim_evals x.note x.below (shorter f w x.below) (list_shed evals f w x.below) (evals_split f w x.below)) in
    does_some (trim names) c x y (some_left (record x { below = shorter f w x.below }) dead ∙ ap Some (sym tree)) (subst (λ q. Edited c x q true d) (sym left_is) (subst (λ q. Edited c q v true d) (sym is) e))

trim_does_none : (names : Names) (c : Seen) (x : Tree) → has_gone (facts_of names c) (where_of c.place) x.below ≡ false → Does (trim names) c x false c x
trim_does_none names c x e = does_none (trim names) c x (none_left (record x { below = shorter (facts_of names c) (where_of c.place) x.below }) e)

pub empty_edited : (c d : Seen) (x y : Tree) → y ≡ record { kind = empty_statement; note = unmarked x.note; below = nothing } → DropsNode c x d → Edited c x y true d
empty_edited c d x y tree drops =
    let z : Tree = record { kind = empty_statement; note = unmarked x.note; below = nothing } in
    let l : Leaves (record c { requested = true }) (λ r. ids r (forest_of x)) (evals (forest_of x)) d = record { same = drops.same; room = drops.room; marks = drops.marks; evals = drops.evals } in
    let e : Edited c x z true d = edited x z refl l (λ r. Prim.omega arith) (Prim.omega arith) in
    subst (λ q. Edited c x q true d) (sym tree) e

empty_does : (names : Names) (c d : Seen) (x y : Tree) → becomes_empty (facts_of names c) c.place x.kind x.below ≡ true → y ≡ record { kind = empty_statement; note = unmarked x.note; below = nothing } → Edited c x y true d → Does (empty names) c x true d y
empty_does names c d x y goes tree e =
    let z : Tree = record { kind = empty_statement; note = unmarked x.note; below = nothing } in
    does_some (empty names) c x y (some_left z goes ∙ ap Some (sym tree)) e

empty_does_none : (names : Names) (c : Seen) (x : Tree) → becomes_empty (facts_of names c) c.place x.kind x.below ≡ false → Does (empty names) c x false c x
empty_does_none names c x e = does_none (empty names) c x (none_left (record { kind = empty_statement; note = unmarked x.note; below = nothing }) e)

-- the same, of what code asks and answers
asked_so : (q : Facts → Where → Forest → Bool) (f g : Facts) (w v : Where) (t u : Forest) (b : Bool) → b ≡ q f w t → f ≡ g → w ≡ v → t ≡ u → q g v u ≡ b
asked_so q f g w v t u b e facts at row = sym (e ∙ ap (λ x. q x w t) facts ∙ ap (λ x. q g x t) at ∙ ap (λ x. q g v x) row)

-- what never runs left, and then the rest
left_both : {k l d : Seen} (names : Names) (w : Where) (t : Forest) → Leaves k (λ r. inert_shed (ids r) false t) (inert_shed evals false t) l → LeavesBy (λ m q r. shed m q w r) names l (emptied_behind false t) d → LeavesBy (λ m q r. list_shed m q w r) names k t d
left_both {k = k} {l = l} {d = d} names w t first second =
    let f = facts_of names k in
    let same : Leaves l (λ r. shed (ids r) f w (emptied_behind false t)) (shed evals f w (emptied_behind false t)) d = subst (λ g. Leaves l (λ r. shed (ids r) g w (emptied_behind false t)) (shed evals g w (emptied_behind false t)) d) (facts_still names first) second in
    leaves_more first same (λ r. refl) refl

pub trims : (names : Names) (c k l d : Seen) (x v y : Tree) (f g : Facts) (w : Where) (t u s : Forest) → x.kind ≡ statements → w ≡ where_of c.place → f ≡ facts_of names c → t ≡ x.below → true ≡ has_gone f w t
    → k ≡ record c { requested = true } → u ≡ x.below → Leaves k (λ r. inert_shed (ids r) false u) (inert_shed evals false u) l → v ≡ record x { below = emptied_behind false x.below } → s ≡ v.below
    → LeavesBy (λ m q r. shed m q w r) names l s d → g ≡ facts_of names d → y ≡ record v { below = trimmed g w v.below } → Does (trim names) c x true d y
trims names c k l d x v y f g w t u s list at facts first dead asked row unreached emptied_is middle leaves later tree =
    let is_gone : has_gone (facts_of names c) (where_of c.place) x.below ≡ true = asked_so has_gone f (facts_of names c) w (where_of c.place) t x.below true dead facts at first in
    let one_there : Leaves k (λ r. inert_shed (ids r) false x.below) (inert_shed evals false x.below) l = subst (λ z. Leaves k (λ r. inert_shed (ids r) false z) (inert_shed evals false z) l) row unreached in
    let middle_is : s ≡ emptied_behind false x.below = middle ∙ ap {A = Tree} (λ z. z.below) emptied_is in
    let two_there : LeavesBy (λ m q r. shed m q w r) names l (emptied_behind false x.below) d = subst (λ z. LeavesBy (λ m q r. shed m q w r) names l z d) middle_is leaves in
    let all_there : LeavesBy (λ m q r. list_shed m q w r) names k x.below d = left_both names w x.below one_there two_there in
    let left_there : LeavesBy (λ m q r. list_shed m q (where_of c.place) r) names k x.below d = subst (λ z. LeavesBy (λ m q r. list_shed m q z r) names k x.below d) at all_there in
    let same_facts : g ≡ facts_of names c = later ∙ facts_still names two_there ∙ facts_still names one_there ∙ ap {A = Seen} (λ z. facts_of names z) asked in
    trim_does names c k d x y list is_gone asked left_there
    (tree ∙ ap {A = Tree} {B = Tree} (λ z. record z { below = trimmed g w z.below }) emptied_is ∙ ap {A = Facts} {B = Tree} (λ q. record x { below = shorter q w x.below }) same_facts ∙ ap {A = Where} {B = Tree} (λ z. record x { below = shorter (facts_of names c) z x.below }) at)

pub trims_none : (names : Names) (c : Seen) (x : Tree) (f : Facts) (w : Where) (t : Forest) → w ≡ where_of c.place → f ≡ facts_of names c → t ≡ x.below → false ≡ has_gone f w t → Does (trim names) c x false c x
trims_none names c x f w t at facts first dead = trim_does_none names c x (asked_so has_gone f (facts_of names c) w (where_of c.place) t x.below false dead facts at first)

pub new_empty : (z : Tree) (n : Note) (s : Span) (items : List (Option Tree)) → z ≡ record { kind = empty_statement; note = record { span = s; id = None }; below = row items } → s ≡ n.span → items ≡ [] → z ≡ record { kind = empty_statement; note = unmarked n; below = nothing }
new_empty z n s items new span none =
    new ∙ ap {A = Span} {B = Tree} (λ q. record { kind = empty_statement; note = record { span = q; id = None }; below = row items }) span ∙ ap {A = List (Option Tree)} {B = Tree} (λ l. record { kind = empty_statement; note = unmarked n; below = row l }) none

pub empties : (names : Names) (c d : Seen) (x y : Tree) → true ≡ becomes_empty (facts_of names c) c.place x.kind x.below → y ≡ record { kind = empty_statement; note = unmarked x.note; below = nothing } → Edited c x y true d → Does (empty names) c x true d y
empties names c d x y goes put e = empty_does names c d x y (sym goes) put e

pub empties_none : (names : Names) (c : Seen) (x : Tree) → false ≡ becomes_empty (facts_of names c) c.place x.kind x.below → Does (empty names) c x false c x
empties_none names c x stays = empty_does_none names c x (sym stays)

-- ---- what is known

pub known : (names : Names) (c : Seen) (t : Forest) → Holds Own names c t → Knows (facts_of names c) (has c.marked) t
known names c t h = record { fits = h.0.fits; exact = h.0.lists; flags = h.1.flags; outermost = h.1.outermost; bound = h.1.bound; exported = h.1.exported; script = h.1.script }

-- ---- marks

none_fewer : (m n : ℕ) → n ≡ 0 → nat_lt m n ≡ false
none_fewer m n h = Prim.grind arith

nowhere : (i r n : ℕ) → (0 < i → r < n) → n ≤ r → i ≡ 0
nowhere i r n room h = elim (below_or_above 0 i) [
  | inl l ↦ let k : r < n = room l in absurd (Prim.omega (arith, k, h))
  | inr l ↦ Prim.omega (arith, l)
]

-- a reference past the room for marks stands nowhere, before or after
marks_all : (c d : Seen) (t u : Forest) → MarksLeft c d t u → ((r : ℕ) → 0 < ids r t → r < length c.marked) → MarksWhatLeft (has c.marked) t u (has d.marked)
marks_all c d t u m room r = go (below_or_above r (length c.marked))
  where
    go : (r < length c.marked) ⊎ (length c.marked ≤ r) → has d.marked r ≡ (has c.marked r || left t u r)
    go (inl h) = m.marks r h
    go (inr h) =
        let was : has c.marked r ≡ false = get_or-eq_default c.marked false h in
        let now : has d.marked r ≡ false = get_or-eq_default d.marked false (Prim.omega (arith, m.room)) in
        let none : ids r t ≡ 0 = nowhere (ids r t) r (length c.marked) (room r) h in
        now ∙ sym (ap (λ b. b || left t u r) was ∙ none_fewer (ids r u) (ids r t) none)

pub own_of : (names : Names) (c : Seen) (marked : ℕ → Bool) (t : Forest) → Knows (facts_of names c) marked t → IsToldOnly c.scoping c.eval_dropped t → ExportedOnly names t → Own names (still c) t
own_of names c marked t k only exported = record { flags = k.flags; outermost = k.outermost; bound = k.bound; exported = k.exported; script = k.script; only = only; exported_only = exported }

-- no call of `eval` left that isn't noted
abbrev pub Noted : (c d : Seen) (t u : Forest) → Type 0
Noted c d t u = d.eval_dropped ≡ false → (c.eval_dropped ≡ false) × (evals u ≡ evals t)

only_still : (c d : Seen) (t u : Forest) → TreeEdits t u → Noted c d t u → Fits root t → IsToldOnly c.scoping c.eval_dropped t → IsToldOnly c.scoping d.eval_dropped u
only_still c d t u edits noted fits h = record {
  nested = edits_nest c.scoping t u edits fits h.nested;
  names = edits_names c.scoping t u edits fits h.names;
  calls = λ e. calls_of c.scoping u (edits_told_only c.scoping t u edits fits (noted e).1 (joined_only c.scoping t (h.calls (noted e).0) h.names));
}

pub known_still : (names : Names) (c d : Seen) (t u : Forest) → TreeEdits t u → MarksLeft c d t u → Noted c d t u → Holds Own names c t → Own names d u
known_still names c d t u edits m noted h =
    let k = keeps (facts_of names c) t u edits (has c.marked) (has d.marked) (marks_all c d t u m h.0.room) (known names c t h) in
    let only = only_still c d t u edits noted h.0.fits h.1.only in
    subst (λ z. Own names z u) (sym m.same) (record { flags = k.flags; outermost = k.outermost; bound = k.bound; exported = k.exported; script = k.script; only = only; exported_only = listed_stay t u edits h.0.fits names.exported h.1.exported_only })

-- ---- edits

pub as_edits : {t u : Forest} → TreeEdits t u → (Edits Edit) t u
as_edits (no_tree_edit t) = no_edit
as_edits (one_tree_edit t u v e more) = one_edit e (as_edits more)

pub as_tree_edits : {t u : Forest} → (Edits Edit) t u → TreeEdits t u
as_tree_edits {t = t} no_edit = no_tree_edit t
as_tree_edits {t = t} (one_edit {u = v} e more) = one_tree_edit t v _ e (as_tree_edits more)

pub one : {t u : Forest} → Edit t u → TreeEdits t u
one {t = t} {u = u} e = one_tree_edit t u u e (no_tree_edit u)

-- ---- moves

list_calls : (k : Kind) (n : Note) (b : Forest) → k ≡ statements → evals (node k n b nothing) ≡ evals b
list_calls k n b e = subst (λ q. evals (node q n b nothing) ≡ evals b) (sym e) (Prim.omega arith)

trim_calls : (f : Facts) (w : Where) (x y : Tree) → x.kind ≡ statements → y ≡ record x { below = shorter f w x.below } → evals (forest_of y) ≤ evals (forest_of x)
trim_calls f w x y list tree =
    Prim.omega (arith, ap (λ q. evals (forest_of q)) tree, list_calls x.kind x.note x.below list, list_calls x.kind x.note (shorter f w x.below) list, evals_split f w x.below)

module _ (stays : Stays AnyEdit) (names : Names) where
  noted : {c d : Seen} {x y : Tree} → ((a : Around) (r : Forest) → IsHere c a r → CallsStay (in_row.before a r) x y) → Edited c x y true d → (a : Around) (r : Forest) → IsHere c a r → Noted (still c) (still d) (plug a (before x r)) (plug a (before y r))
  noted {c = c} {d = d} {x = x} {y = y} calls e a r p q =
      let h = calls a r p in
      let none = none_dropped d.eval_dropped c.eval_dropped (evals (forest_of y)) (evals (forest_of x)) e.evals h.fewer q in
      (none.0, evals_kept x.kind y.kind x.note y.note x.below y.below r h.old h.in_with none.1 a h.bare)

  pub moves : {c d : Seen} {x y : Tree} → ((a : Around) (r : Forest) → IsHere c a r → Holds Own names (still c) (plug a (before x r)) → TreeEdits (plug a (before x r)) (plug a (before y r)))
      → ((i : ℕ) → ids i (forest_of y) ≤ ids i (forest_of x)) → total weight (forest_of y) + 1 ≤ total weight (forest_of x) → ((a : Around) (r : Forest) → IsHere c a r → CallsStay (in_row.before a r) x y)
      → Edited c x y true d → NodeMoves Names AnyEdit (Holds Own) names c x names d y
  moves {c = c} {d = d} {x = x} {y = y} edits fewer lighter calls e =
      held_moves stays (λ a r p h. as_edits (edits a r p h)) fewer lighter (λ q. absurd (true≢false q)) e
      (λ a r p m h. known_still names (still c) (still d) (plug a (before x r)) (plug a (before y r)) (edits a r p h) m (noted calls e a r p) h)

  trim_edits : (f : Facts) (m : ℕ → Bool) (p : Place) (k : Kind) (n : Note) (b : Forest) → k ≡ statements → (a : Around) (r : Forest) → place_at a (goes_on r) ≡ p → Knows f m (plug a (node k n b r)) → TreeEdits (plug a (node k n b r)) (plug a (node k n (shorter f (where_of p) b) r))
  trim_edits f m p k n b list a r at =
      subst (λ q. Knows f m (plug a (node q n b r)) → TreeEdits (plug a (node q n b r)) (plug a (node q n (shorter f (where_of p) b) r))) (sym list)
      (λ h. subst (λ q. TreeEdits (plug a (node statements n b r)) (plug a (node statements n (shorter f (where_of q) b) r))) at (list_shortens f m a n b r h))

  pub stayed : {c d : Seen} {x y : Tree} → y ≡ x → d ≡ c → NodeMoves Names AnyEdit (Holds Own) names c x names d y
  stayed {c = c} {d = d} {x = x} {y = y} tree context =
      let same : NodeMoves Names AnyEdit (Holds Own) names c x names c x = unchanged_moves (λ a r p t o. o) in
      subst (λ q. NodeMoves Names AnyEdit (Holds Own) names c x names d q) (sym tree) (subst (λ q. NodeMoves Names AnyEdit (Holds Own) names c x names q x) (sym context) same)

  pub trim_moves : {c d : Seen} {x y : Tree} {answer : Bool} → x.kind ≡ statements → Does (trim names) c x answer d y → NodeMoves Names AnyEdit (Holds Own) names c x names d y
  trim_moves {c = c} {d = d} {x = x} {y = y} list does = go (has_gone (facts_of names c) (where_of c.place) x.below) refl
    where
      go : (v : Bool) → has_gone (facts_of names c) (where_of c.place) x.below ≡ v → NodeMoves Names AnyEdit (Holds Own) names c x names d y
      go true dead =
          let z : Tree = record x { below = shorter (facts_of names c) (where_of c.place) x.below } in
          let is : trim names c x ≡ Some z = some_left z dead in
          let tree : y ≡ z = does.tree ∙ ap (or_same x) is in
          let e : Edited c x y true d = subst (λ o. Edited c x y (is_some o) d) is does.edited in
          moves
          (λ a r p h. subst (λ q. TreeEdits (plug a (before x r)) (plug a (before q r))) (sym tree) (trim_edits (facts_of names c) (has c.marked) c.place x.kind x.note x.below list a r p (known names (still c) (plug a (before x r)) h)))
          (λ i. Prim.omega (arith, ap (λ q. ids i (forest_of q)) tree, shorter_sheds (facts_of names c) (where_of c.place) x.below i))
          (Prim.omega (arith, ap (λ q. total weight (forest_of q)) tree, shorter_is_lighter (facts_of names c) (where_of c.place) x.below dead))
          (λ a r p. record {
            fewer = trim_calls (facts_of names c) (where_of c.place) x y list tree;
            old = ap is_no_name list;
            in_with = false;
            bare = subst (λ k. stands_bare (use_at (in_row.before a r)) false k y.below ≡ true) (sym (ap (λ q. q.kind) tree ∙ list)) refl;
          })
          e
      go false dead =
          let is : trim names c x ≡ None = none_left (record x { below = shorter (facts_of names c) (where_of c.place) x.below }) dead in
          let tree : y ≡ x = does.tree ∙ ap (or_same x) is in
          let e : Edited c x y false d = subst (λ o. Edited c x y (is_some o) d) is does.edited in
          stayed tree (e.none refl)

  pub empty_moves : {c d : Seen} {x y : Tree} {answer : Bool} → Does (empty names) c x answer d y → NodeMoves Names AnyEdit (Holds Own) names c x names d y
  empty_moves {c = c} {d = d} {x = x} {y = y} does = go (becomes_empty (facts_of names c) c.place x.kind x.below) refl
    where
      go : (v : Bool) → becomes_empty (facts_of names c) c.place x.kind x.below ≡ v → NodeMoves Names AnyEdit (Holds Own) names c x names d y
      go true goes =
          let z : Tree = record { kind = empty_statement; note = unmarked x.note; below = nothing } in
          let is : empty names c x ≡ Some z = some_left z goes in
          let tree : y ≡ z = does.tree ∙ ap (or_same x) is in
          let e : Edited c x y true d = subst (λ o. Edited c x y (is_some o) d) is does.edited in
          let found : emptied (facts_of names c) c.place x ≡ Some y = is ∙ ap Some (sym tree) in
          moves
          (λ a r p h. one (statement_empties_there (facts_of names c) (has c.marked) a x y r (known names (still c) (plug a (before x r)) h) (ap (λ q. emptied (facts_of names c) q x) p ∙ found)))
          (emptied_sheds (facts_of names c) c.place x y found)
          (emptied_is_lighter (facts_of names c) c.place x y found)
          (λ a r p. record {
            fewer = Prim.omega (arith, ap (λ q. evals (forest_of q)) tree);
            old = emptied_is_no_name (facts_of names c) c.place x.kind x.below goes;
            in_with = false;
            bare = subst (λ k. stands_bare (use_at (in_row.before a r)) false k y.below ≡ true) (sym (ap (λ q. q.kind) tree)) refl;
          })
          e
      go false stays =
          let is : empty names c x ≡ None = none_left (record { kind = empty_statement; note = unmarked x.note; below = nothing }) stays in
          let tree : y ≡ x = does.tree ∙ ap (or_same x) is in
          let e : Edited c x y false d = subst (λ o. Edited c x y (is_some o) d) is does.edited in
          stayed tree (e.none refl)

-- ---- visits

pub asked_true : (b : Bool) {P : Type 0} → (b || true) ≡ false → P
asked_true true e = absurd (true≢false e)
asked_true false e = absurd (true≢false e)

-- ---- slots

if_key : (key s : Bool) (own : Outer) → (if key then outer.PropertyKey else if s then outer.Statement else own) ≡ outer.Statements → own ≡ outer.Statements
if_key true s own e = absurd Prim.cc
if_key false true own e = absurd Prim.cc
if_key false false own e = e

own_list : (k : Kind) → own_slot k ≡ outer.Statements → k ≡ statements
own_list statements e = refl
own_list k e = absurd Prim.cc

pub is_list : (p : Place) (k : Kind) → outer_slot (above_place p) k ≡ outer.Statements → k ≡ statements
is_list p k e = own_list k (if_key (is_key_place (above_place p)) (is_statement_place (above_place p) && is_statement k) (own_slot k) e)
