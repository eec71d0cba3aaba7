-- The keys and values of an object literal that act, and what leaves with it.
use Rattle.std.proofs.Common.{◌≡◌, ◌∙◌, ◌<◌, ◌≤◌, ◌+◌, ℕ, List, [], ◌∷◌, Bool, true, false, ◌||◌, ◌&&◌, not, if◌then◌else◌, Option, Some, None, is_some, length, drop, get_or, refl, sym, ap, ap₂, true≢false, arith}
use Rattle.std.specs.Prelude.{slice_index_or, slice_set}
use Rattle.std.proofs.lemmas.List.{drop_all}
use Rattle.js_syntax.specs.declared.node_kind.NodeKind.{NodeKind as Kind}
use Rattle.js_syntax.specs.declared.node_kind.NodeKind.TheVariants.{ObjectExpression as object_expression, Properties as properties, Property as property}
use Rattle.js_syntax.specs.Node.{Forest, Tree, Note, nothing, node, absent, alone, joined, row, forest_of}
use Rattle.js_tree.proofs.Rows.{front_of}
use Rattle.js_tree.proofs.Search.{AsksEach}
use Rattle.scope_counts.specs.Counts.{ids}
use Rattle.min_context.specs.Edited.{evals, DropsNode, Edited}
use Rattle.min_context.specs.Seen.{Seen}
use Rattle.steps.specs.Allowed.UnusedList.{acting, as_one}
use Rattle.steps.specs.Allowed.UnusedObject.{comes_apart, all_come_apart, keys_and_values, object_becomes}
use Rattle.rules.specs.Expressions.Lists.{new_note, list_note}
use Rattle.rules.specs.Expressions.Uses.{Spot}
use Rattle.min_expressions.specs.Kept.{child_at}
use Rattle.min_expressions.specs.Lists.{Found, none, found_from, is_enough, are_one}
use Rattle.min_expressions.specs.Objects.{all_pairs, in_front, in_pairs, pair_found, all_found, parts_go, object_goes}
use Rattle.min_expressions.proofs.Leaving.{ids_add, evals_add, child_is}
use Rattle.min_expressions.proofs.Lists.{HasList, IdleLeaves, enough_found, splits, counts, one_same, if_unused, no_list, no_tree, parts_edits}
use Rattle.min_expressions.proofs.TwoSides.{both_true}

-- ---- asked of one property after another

and_true : (b : Bool) → b && true ≡ b
and_true true = refl
and_true false = refl

pub other_is : (x : Tree) → not (comes_apart x.kind x.below) ≡ not (all_come_apart (row (Some x ∷ [])))
other_is x = ap not (sym (and_true (comes_apart x.kind x.below)))

abbrev pub some_other : Forest → Bool
some_other t = not (all_come_apart t)

not_both : (a b : Bool) → not (a && b) ≡ not (a && true) || not b
not_both true b = refl
not_both false b = refl

pub other_each : AsksEach some_other
other_each None ts = refl
other_each (Some x) ts = not_both (comes_apart x.kind x.below) (all_come_apart (row ts))

pub is_false : (b : Bool) → not b ≡ true → false ≡ b
is_false true e = absurd (true≢false (sym e))
is_false false e = refl

pub is_true : (b : Bool) → not b ≡ false → true ≡ b
is_true true e = refl
is_true false e = absurd (true≢false e)

-- ---- how many keys and values act

pub next_pair : (ts : List (Option Tree)) (i : ℕ) (x : Option Tree) (f : Found) → i < length ts → x ≡ get_or ts i x → all_found f (drop i ts) ≡ all_found (pair_found f x) (drop (i + 1) ts)
next_pair ts i x f h is = ap (all_found f) (front_of ts i x h is)

pub last_pair : (ts : List (Option Tree)) (i : ℕ) (f : Found) → length ts ≤ i → all_found f (drop i ts) ≡ f
last_pair ts i f h = ap (all_found f) (drop_all i ts h)

found_same : (f : Found) (ts : List (Option Tree)) → all_found f ts ≡ found_from f (all_pairs ts)
found_same f [] = refl
found_same f (None ∷ ts) = found_same f ts
found_same f (Some t ∷ ts) = found_same (pair_found f (Some t)) ts

row_front : (x : Option Tree) (ts : List (Option Tree)) → row (x ∷ ts) ≡ in_front x (row ts)
row_front None ts = refl
row_front (Some x) ts = refl

pub pairs_row : (ts : List (Option Tree)) → row (all_pairs ts) ≡ in_pairs (row ts)
pairs_row [] = refl
pairs_row (None ∷ ts) = pairs_row ts
pairs_row (Some t ∷ ts) =
    row_front (child_at 0 t.below) (child_at 1 t.below ∷ all_pairs ts)
    ∙ ap (in_front (child_at 0 t.below)) (row_front (child_at 1 t.below) (all_pairs ts) ∙ ap (in_front (child_at 1 t.below)) (pairs_row ts))

pub enough_parts : (ts : List (Option Tree)) → is_enough (all_found none ts) ≡ are_one (acting (in_pairs (row ts)))
enough_parts ts = ap is_enough (found_same none ts) ∙ enough_found (all_pairs ts) ∙ ap (λ t. are_one (acting t)) (pairs_row ts)

-- ---- a pair is taken

pub first_is : (ts : List (Option Tree)) → slice_index_or ts 0 None ≡ child_at 0 (row ts)
first_is ts = sym (child_is ts 0)

pub none_in : (ts : List (Option Tree)) → length ts ≡ 0 → None ≡ child_at 0 (row ts)
none_in [] h = refl
none_in (x ∷ ts) h = absurd (Prim.omega (arith, h))

pub second_stays : (ts : List (Option Tree)) → child_at 1 (row (slice_set ts 0 None)) ≡ child_at 1 (row ts)
second_stays [] = refl
second_stays (None ∷ ts) = refl
second_stays (Some t ∷ ts) = refl

pub second_is : (ts : List (Option Tree)) → slice_index_or ts 1 None ≡ child_at 1 (row ts)
second_is ts = sym (child_is ts 1)

pub no_second : (ts : List (Option Tree)) → length ts < 2 → child_at 1 (row ts) ≡ None
no_second [] h = refl
no_second (None ∷ []) h = refl
no_second (Some t ∷ []) h = refl
no_second (x ∷ y ∷ ts) h = absurd (Prim.omega (arith, h))

-- ---- the parts of properties that come apart

apart_pair : (k : Kind) (below more : Forest) → comes_apart k below ≡ true → in_front (child_at 0 below) (in_front (child_at 1 below) more) ≡ joined below more
apart_pair (property how is_method key) (absent (node k m a nothing)) more e = refl
apart_pair (property how is_method key) (node j i b (node k m a nothing)) more e = refl
apart_pair k below more e = no_list e

apart_pairs : (es : Forest) → all_come_apart es ≡ true → in_pairs es ≡ keys_and_values es
apart_pairs nothing e = refl
apart_pairs (absent rest) e = no_list e
apart_pairs (node k n below rest) e =
    let w = both_true (comes_apart k below) (all_come_apart rest) e in
    apart_pair k below (in_pairs rest) w.0 ∙ ap (joined below) (apart_pairs rest w.1)

ids_joined : (r : ℕ) (t u : Forest) → ids r (joined t u) ≡ ids r t + ids r u
ids_joined r nothing u = Prim.omega arith
ids_joined r (absent t) u = ids_joined r t u
ids_joined r (node k n b t) u = Prim.omega (arith, ids_joined r t u)

evals_joined : (t u : Forest) → evals (joined t u) ≡ evals t + evals u
evals_joined nothing u = Prim.omega arith
evals_joined (absent t) u = evals_joined t u
evals_joined (node k n b t) u = Prim.omega (arith, evals_joined t u)

-- a property has no number and calls nothing itself
property_ids : (r : ℕ) (k : Kind) (n : Note) (below : Forest) → comes_apart k below ≡ true → ids r (alone k n below) ≡ ids r below
property_ids r (property how is_method key) n below e = Prim.omega arith
property_ids r k n below e = no_list e

property_evals : (k : Kind) (n : Note) (below : Forest) → comes_apart k below ≡ true → evals (alone k n below) ≡ evals below
property_evals (property how is_method key) n below e = Prim.omega arith
property_evals k n below e = no_list e

parts_ids : (r : ℕ) (es : Forest) → all_come_apart es ≡ true → ids r es ≡ ids r (keys_and_values es)
parts_ids r nothing e = refl
parts_ids r (absent rest) e = no_list e
parts_ids r (node k n below rest) e =
    let w = both_true (comes_apart k below) (all_come_apart rest) e in
    Prim.omega (arith, property_ids r k n below w.0, ids_joined r below (keys_and_values rest), parts_ids r rest w.1)

parts_evals : (es : Forest) → all_come_apart es ≡ true → evals es ≡ evals (keys_and_values es)
parts_evals nothing e = refl
parts_evals (absent rest) e = no_list e
parts_evals (node k n below rest) e =
    let w = both_true (comes_apart k below) (all_come_apart rest) e in
    Prim.omega (arith, property_evals k n below w.0, evals_joined below (keys_and_values rest), parts_evals rest w.1)

-- ---- the list of an object

abbrev object_list : (i : Note) (es : Forest) → HasList object_expression (node properties i es nothing)
object_list i es = record {
  list = record { kind = properties; note = i; below = es };
  below = refl;
  no_id = λ r p b. Prim.omega arith;
  list_no_id = λ r. Prim.omega arith;
  no_eval = λ p b. Prim.omega arith;
  list_no_eval = Prim.omega arith;
}

pub record IsObject (k : Kind) (t : Forest) : Type 0 where
  pub has : HasList k t
  pub apart : all_come_apart has.list.below ≡ true
  pub becomes : (n m : Note) → object_becomes n m k t ≡ as_one n m (acting (keys_and_values has.list.below))
  pub is_one : are_one (acting (in_pairs has.list.below)) ≡ true

pub is_object : (k : Kind) (t : Forest) → parts_go k t ≡ true → IsObject k t
is_object object_expression (node properties i es nothing) e =
    let w = both_true (all_come_apart es) (are_one (acting (in_pairs es))) e in
    record {
      has = object_list i es;
      apart = w.0;
      becomes = λ n m. ap (λ (b : Bool). if b then as_one n m (acting (keys_and_values es)) else None) w.0;
      is_one = w.1;
    }
is_object object_expression nothing e = no_list e
is_object object_expression (absent rest) e = no_list e
is_object object_expression (node k i es (absent rest)) e = no_list e
is_object object_expression (node k i es (node l j b rest)) e = no_list e
is_object object_expression (node k i es nothing) e = no_list e
is_object k t e = no_list e

pub parts_one : {l : Tree} {k : Kind} {t : Forest} (v : Tree) (w : IsObject k t) → l ≡ w.has.list → v.below ≡ in_pairs l.below → are_one (acting v.below) ≡ true
parts_one v w is below = ap (λ u. are_one (acting u)) (below ∙ ap {A = Tree} (λ u. in_pairs u.below) is) ∙ w.is_one

pub object_kept : {y z l : Tree} (x v : Tree) (w : IsObject x.kind x.below) → l ≡ w.has.list → new_note v.note ≡ new_note l.note → v.below ≡ in_pairs l.below → as_one (new_note x.note) (new_note v.note) (acting v.below) ≡ Some z → y ≡ z
    → object_becomes (new_note x.note) (new_note (list_note x.below)) x.kind x.below ≡ Some y
object_kept {l = l} x v w is note below left put =
    w.becomes (new_note x.note) (new_note (list_note x.below)) ∙ ap (λ u. as_one (new_note x.note) (new_note (list_note u)) (acting (keys_and_values w.has.list.below))) w.has.below
    ∙ ap (λ u. as_one (new_note x.note) (new_note w.has.list.note) (acting u)) (sym (apart_pairs w.has.list.below w.apart))
    ∙ ap {A = Tree} (λ u. as_one (new_note x.note) (new_note u.note) (acting (in_pairs u.below))) (sym is)
    ∙ ap₂ (λ m t. as_one (new_note x.note) m (acting t)) (sym note) (sym below) ∙ left ∙ ap Some (sym put)

-- the keys and values that act of x became y
pub object_edits : {c d e : Seen} {v y z l : Tree} (x u : Tree) (n m : Note) (w : IsObject x.kind x.below) → l ≡ w.has.list → u.below ≡ in_pairs l.below → as_one n m (acting u.below) ≡ Some z → y ≡ z
    → v.kind ≡ x.kind → v.note ≡ x.note → v.below ≡ nothing → IdleLeaves c u.below d → DropsNode d v e → Edited c x y true e
object_edits {z = z} {l = l} x u n m w is below left put kind note empty others itself =
    let s = counts n m (acting u.below) z left in
    let apart = ap {A = Tree} (λ o. all_come_apart o.below) is ∙ w.apart in
    let parts = below ∙ apart_pairs l.below apart in
    parts_edits x w.has is
    (λ r. Prim.omega (arith, parts_ids r l.below apart, ap (ids r) parts, splits (ids r) (ids_add r) u.below, s.same_ids r, ap (λ o. ids r (forest_of o)) put))
    (Prim.omega (arith, parts_evals l.below apart, ap evals parts, splits evals evals_add u.below, s.same_evals, ap (λ o. evals (forest_of o)) put))
    kind note empty others itself

-- ---- as the rule says it

apart_same : (n m : Note) (es : Forest) (b : Bool) → all_come_apart es ≡ b → is_some (if b then as_one n m (acting (keys_and_values es)) else None) ≡ b && are_one (acting (in_pairs es))
apart_same n m es true e = one_same n m (acting (keys_and_values es)) ∙ ap (λ t. are_one (acting t)) (sym (apart_pairs es e))
apart_same n m es false e = refl

object_same : (n m : Note) (k : Kind) (t : Forest) → is_some (object_becomes n m k t) ≡ parts_go k t
object_same n m object_expression (node properties i es nothing) = apart_same n m es (all_come_apart es) refl
object_same n m object_expression nothing = refl
object_same n m object_expression (absent rest) = refl
object_same n m object_expression (node properties i es (absent rest)) = refl
object_same n m object_expression (node properties i es (node l j b rest)) = refl
object_same n m object_expression (node k i es nothing) = refl
object_same n m object_expression (node k i es (absent rest)) = refl
object_same n m object_expression (node k i es (node l j b rest)) = refl
object_same n m k t = refl

module _ (s : Spot) (n m : Note) (k : Kind) (t : Forest) where
  pub parts_there : object_goes s k t ≡ true → parts_go k t ≡ true
  parts_there e = (both_true s.is_unused (parts_go k t) e).1

  pub object_left_so : (y : Tree) → object_goes s k t ≡ true → object_becomes n m k t ≡ Some y → (if s.is_unused then object_becomes n m k t else None) ≡ Some y
  object_left_so y e f = ap (λ b. if b then object_becomes n m k t else None) (both_true s.is_unused (parts_go k t) e).0 ∙ f

  pub object_stays : object_goes s k t ≡ false → (if s.is_unused then object_becomes n m k t else None) ≡ None
  object_stays e = no_tree (if s.is_unused then object_becomes n m k t else None) (if_unused s.is_unused (object_becomes n m k t) (parts_go k t) (object_same n m k t) ∙ e)
