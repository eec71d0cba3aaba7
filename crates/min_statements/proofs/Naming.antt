-- What the calls on names in a branch that isn't taken do is what the rule answers, and the context is told of exactly what goes.
use Rattle.std.proofs.Common.{◌≡◌, ◌∙◌, ◌<◌, ◌≤◌, ◌+◌, ◌-◌, ℕ, zero, suc, Bool, true, false, if◌then◌else◌, List, [], ◌∷◌, Option, Some, None, map, length, take, drop, get_or, set, refl, sym, ap, subst, arith}
use Rattle.js_syntax.specs.declared.node_kind.NodeKind.{NodeKind as Kind}
use Rattle.js_syntax.specs.declared.node_kind.NodeKind.TheVariants.{BindingName as binding_name, VariableDeclarator as variable_declarator, IfStatement as if_statement}
use Rattle.js_syntax.specs.Node.{Forest, Tree, Note, nothing, node, absent, alone, forest_of, row}
use Rattle.js_syntax.proofs.Truth.{first_of_both, second_of_both}
use Rattle.kept_names.specs.Kept.{kept, declarator_of, declaration_of}
use Rattle.scope_counts.specs.Counts.{ids}
use Rattle.scope_laws.specs.Place as places
use Rattle.scope_laws.specs.Place.{placed}
use Rattle.min_context.specs.Edited.{evals, Leaves}
use Rattle.min_context.specs.Seen.{Seen}
use Rattle.min_expressions.specs.Kept.{kept_if}
use Rattle.min_traverse.specs.Lawful.{Does}
use Rattle.min_traverse.proofs.Joining.{does_some, does_none}
use Rattle.steps.specs.Allowed.Untaken.{truth_given, runs_inside}
use Rattle.steps.specs.Allowed.UnrunValue.{passes}
use Rattle.steps.specs.Allowed.Uses.{use_at, stands_bare}
use Rattle.steps.proofs.VarNames.Again.{is_name_alone, is_bare_name, are_names}
use Rattle.steps.proofs.VarNames.Counted.{kept_bound}
use Rattle.rules.specs.Expressions.Ifs.{given_if}
use Rattle.rules.specs.Expressions.Untaken.{is_list}
use Rattle.rules.specs.Expressions.LeftNames.{leaves_names, names_of, with_names, branch_leaves, branch_named, what_is_named, if_named, name_if}
use Rattle.rules.proofs.Expressions.LeftNames.{is_named, kept_there, names_there}
use Rattle.min_statements.specs.LeftNames.{named_by_truth, named_at, row_gone, inside_gone, one_gone, gone_of, gone_at, named_item, named_child, named_of, put_there, named_there}
use Rattle.min_statements.proofs.Calls.{is_no_name, CallsStay}
use Rattle.min_statements.proofs.Emptying.{others}
use Rattle.min_statements.proofs.Shed.{Adds, ids_add, evals_add, leaves_none, leaves_more, edited}
use Rattle.min_statements.proofs.Thinning.{CountsInside, ids_inside, evals_inside, runs_pass}

-- ---- what stands there then

abbrev named_by : Note → Kind → Forest → Option ℕ → Option Tree
named_by n k t None = None
named_by n k t (Some i) = Some (record { kind = k; note = n; below = named_there i t })

chosen_named : (g : Bool) (i : ℕ) (n : Note) (k : Kind) (t : Forest) → named_by n k t (kept_if g i) ≡ given_if g (record { kind = k; note = n; below = named_there i t })
chosen_named true i n k t = refl
chosen_named false i n k t = refl

module _ (n t_note : Note) (t : Kind) (a : Forest) where
  named_so : (truth : Option Bool) (branches : Forest) → named_by n if_statement (node t t_note a branches) (named_by_truth truth branches) ≡ what_is_named n t t_note a truth branches
  named_so (Some false) (node k i b alternate) = chosen_named (branch_leaves k b) 1 n if_statement (node t t_note a (node k i b alternate))
  named_so (Some true) (node k i b (node l j c rest)) = chosen_named (branch_leaves l c) 2 n if_statement (node t t_note a (node k i b (node l j c rest)))
  named_so (Some false) nothing = refl
  named_so (Some false) (absent rest) = refl
  named_so (Some true) nothing = refl
  named_so (Some true) (absent rest) = refl
  named_so (Some true) (node k i b nothing) = refl
  named_so (Some true) (node k i b (absent rest)) = refl
  named_so None nothing = refl
  named_so None (absent rest) = refl
  named_so None (node k i b rest) = refl

named_as_ruled : (n : Note) (k : Kind) (t : Forest) → named_by n k t (named_at k t) ≡ if_named n k t
named_as_ruled n if_statement (node t m a branches) = named_so n m t a (truth_given t m a) branches
named_as_ruled n if_statement nothing = refl
named_as_ruled n if_statement (absent rest) = refl
named_as_ruled n k t = refl

-- ---- counted: declared names count nothing

abbrev CountsNoNames : (Forest → ℕ) → Type 0
CountsNoNames m = (ts : List Tree) → are_names ts ≡ true → (left : Forest) → m (placed (declaration_of (map declarator_of ts)) left) ≡ m left

one_id : (r : ℕ) (k : Kind) (n m : Note) (b rest : Forest) → is_name_alone k b ≡ true → ids r (node variable_declarator n (node k m b (absent nothing)) rest) ≡ ids r rest
one_id r (binding_name x) n m nothing rest h = Prim.omega arith
one_id r (binding_name x) n m (absent c) rest h = absurd Prim.cc
one_id r (binding_name x) n m (node j i c d) rest h = absurd Prim.cc
one_id r k n m b rest h = absurd Prim.cc

row_ids : (r : ℕ) (ts : List Tree) → are_names ts ≡ true → ids r (row (map declarator_of ts)) ≡ 0
row_ids r [] h = refl
row_ids r (t ∷ ts) h =
    one_id r t.kind (record { span = t.note.span; id = None }) t.note t.below (row (map declarator_of ts)) (first_of_both (is_bare_name t) (are_names ts) h) ∙ row_ids r ts (second_of_both (is_bare_name t) (are_names ts) h)

ids_no_names : (r : ℕ) → CountsNoNames (ids r)
ids_no_names r [] h left = refl
ids_no_names r (t ∷ ts) h left = Prim.omega (arith, row_ids r (t ∷ ts) h)

one_eval : (k : Kind) (n m : Note) (b rest : Forest) → is_name_alone k b ≡ true → evals (node variable_declarator n (node k m b (absent nothing)) rest) ≡ evals rest
one_eval (binding_name x) n m nothing rest h = Prim.omega arith
one_eval (binding_name x) n m (absent c) rest h = absurd Prim.cc
one_eval (binding_name x) n m (node j i c d) rest h = absurd Prim.cc
one_eval k n m b rest h = absurd Prim.cc

row_evals : (ts : List Tree) → are_names ts ≡ true → evals (row (map declarator_of ts)) ≡ 0
row_evals [] h = refl
row_evals (t ∷ ts) h =
    one_eval t.kind (record { span = t.note.span; id = None }) t.note t.below (row (map declarator_of ts)) (first_of_both (is_bare_name t) (are_names ts) h) ∙ row_evals ts (second_of_both (is_bare_name t) (are_names ts) h)

evals_no_names : CountsNoNames evals
evals_no_names [] h left = refl
evals_no_names (t ∷ ts) h left = Prim.omega (arith, row_evals (t ∷ ts) h)

module _ (m : Forest → ℕ) (a : Adds m) (inside : CountsInside m) (none : CountsNoNames m) where
  names_count_none : (listed : Bool) (k : Kind) (n : Note) (b left : Forest) → leaves_names listed k b ≡ true → m (placed (names_of k n b) left) ≡ m left
  names_count_none listed k n b left h =
      let named = is_named listed k b h in
      none (kept (alone k n b)) (ap are_names (kept_there n named) ∙ kept_bound b named.plain) left

  inside_splits : (runs : Bool) (k : Kind) (n : Note) (b left : Forest) (s : ℕ) → runs_inside k ≡ runs → m b ≡ s + m left → m (alone k n b) ≡ (if runs then s else 0) + m (alone k n (if runs then left else b))
  inside_splits true k n b left s e h = Prim.omega (arith, inside k n b left (runs_pass k e), h)
  inside_splits false k n b left s e h = Prim.omega arith

  one_splits : (listed : Bool) (goes : Bool) (k : Kind) (n : Note) (b c rest left : Forest) (s t : ℕ) → leaves_names listed k b ≡ goes → m (alone k n b) ≡ s + m (alone k n c) → m rest ≡ t + m left
      → m (node k n b rest) ≡ ((if goes then m (alone k n b) else s) + t) + m (if goes then placed (names_of k n b) left else node k n c left)
  one_splits listed true k n b c rest left s t is h g = Prim.omega (arith, a.joins k n b rest, g, names_count_none listed k n b left is)
  one_splits listed false k n b c rest left s t is h g = Prim.omega (arith, a.joins k n b rest, a.joins k n c left, h, g)

  rows_split : (listed : Bool) (t : Forest) → m t ≡ row_gone m listed t + m (with_names listed t)
  rows_split listed nothing = Prim.omega arith
  rows_split listed (absent rest) = Prim.omega (arith, a.gap rest, a.gap (with_names listed rest), rows_split listed rest)
  rows_split listed (node k n b rest) =
      one_splits listed (leaves_names listed k b) k n b (branch_named k b) rest (with_names listed rest) (inside_gone m k b) (row_gone m listed rest) refl
      (inside_splits (runs_inside k) k n b (with_names (is_list k) b) (row_gone m (is_list k) b) refl (rows_split (is_list k) b)) (rows_split listed rest)

  branch_splits : (k : Kind) (n : Note) (b rest : Forest) → m (node k n b rest) ≡ inside_gone m k b + m (node k n (branch_named k b) rest)
  branch_splits k n b rest =
      Prim.omega (arith, a.joins k n b rest, a.joins k n (branch_named k b) rest, inside_splits (runs_inside k) k n b (with_names (is_list k) b) (row_gone m (is_list k) b) refl (rows_split (is_list k) b))

  at_splits : (i : ℕ) (t : Forest) → m t ≡ gone_at m i t + m (named_there i t)
  at_splits zero nothing = Prim.omega arith
  at_splits (suc i) nothing = Prim.omega arith
  at_splits zero (absent rest) = Prim.omega arith
  at_splits zero (node k n b rest) = branch_splits k n b rest
  at_splits (suc i) (absent rest) = Prim.omega (arith, a.gap rest, a.gap (named_there i rest), at_splits i rest)
  at_splits (suc i) (node k n b rest) = Prim.omega (arith, a.joins k n b rest, a.joins k n b (named_there i rest), at_splits i rest)

  if_splits : (x : Tree) (i : ℕ) → passes x.kind ≡ true → m (forest_of x) ≡ gone_at m i x.below + m (alone x.kind x.note (named_there i x.below))
  if_splits x i e = Prim.omega (arith, inside x.kind x.note x.below (named_there i x.below) e, at_splits i x.below)

-- ---- what the call does

is_if : (k : Kind) (t : Forest) (i : ℕ) → named_at k t ≡ Some i → k ≡ if_statement
is_if if_statement t i e = refl
is_if k t i e = absurd Prim.cc

pub names_do : {c k d : Seen} (x y : Tree) (i : ℕ) (b : Forest) → named_at x.kind x.below ≡ Some i → k ≡ record c { requested = true } → b ≡ x.below → Leaves k (λ r. gone_at (ids r) i b) (gone_at evals i b) d → y ≡ record x { below = named_there i x.below } → Does name_if c x true d y
names_do {c = c} {k = k} {d = d} x y i b at asked is left tree =
    let z : Tree = record { kind = x.kind; note = x.note; below = named_there i x.below } in
    let there : Leaves k (λ r. gone_at (ids r) i x.below) (gone_at evals i x.below) d = subst (λ t. Leaves k (λ r. gone_at (ids r) i t) (gone_at evals i t) d) is left in
    let runs = ap passes (is_if x.kind x.below i at) in
    let does : Does name_if c x true d z =
    does_some name_if c x z (sym (named_as_ruled x.note x.kind x.below) ∙ ap (named_by x.note x.kind x.below) at)
    (edited x z asked there (λ r. if_splits (ids r) (ids_add r) (ids_inside r) (ids_no_names r) x i runs) (if_splits evals evals_add evals_inside evals_no_names x i runs)) in
    subst (λ t. Does name_if c x true d t) (sym tree) does

pub names_none : (c : Seen) (x : Tree) → named_at x.kind x.below ≡ None → Does name_if c x false c x
names_none c x at = does_none name_if c x (sym (named_as_ruled x.note x.kind x.below) ∙ ap (named_by x.note x.kind x.below) at)

-- no call of it is a direct one of `eval`

none_then : {P : Type 0} {y : Tree} → None ≡ Some y → P
none_then e = absurd Prim.cc

some_same : {x y : Tree} → Some x ≡ Some y → x ≡ y
some_same e = Prim.cc

pub names_calls : (a : places.Around) (x y : Tree) → if_named x.note x.kind x.below ≡ Some y → CallsStay a x y
names_calls a x y e = by (named_at x.kind x.below) refl
  where
    by : (o : Option ℕ) → named_at x.kind x.below ≡ o → CallsStay a x y
    by None at = none_then (sym (ap (named_by x.note x.kind x.below) at) ∙ named_as_ruled x.note x.kind x.below ∙ e)
    by (Some i) at =
        let z : Tree = record { kind = x.kind; note = x.note; below = named_there i x.below } in
        let same : z ≡ y = some_same (sym (ap (named_by x.note x.kind x.below) at) ∙ named_as_ruled x.note x.kind x.below ∙ e) in
        let is = is_if x.kind x.below i at in
        let stay : CallsStay a x z = record {
          fewer = Prim.omega (arith, if_splits evals evals_add evals_inside evals_no_names x i (ap passes is));
          old = ap is_no_name is;
          in_with = false;
          bare = ap (λ l. stands_bare (use_at a) false l (named_there i x.below)) is;
        } in
        subst (λ t. CallsStay a x t) same stay

-- ---- rows of items

placed_row : (o : Option Tree) (t : Tree) (ts : List (Option Tree)) → o ≡ Some t → row (o ∷ ts) ≡ placed o (row ts)
placed_row o t ts e = ap (λ p. row (p ∷ ts)) e ∙ sym (ap (λ p. placed p (row ts)) e)

named_row : (listed : Bool) (g : Bool) (t : Tree) (ts : List (Option Tree)) (left : Forest) → leaves_names listed t.kind t.below ≡ g → row ts ≡ left
    → row ((if g then names_of t.kind t.note t.below else Some (record { kind = t.kind; note = t.note; below = branch_named t.kind t.below })) ∷ ts)
    ≡ (if g then placed (names_of t.kind t.note t.below) left else node t.kind t.note (branch_named t.kind t.below) left)
named_row listed true t ts left is e =
    let y = names_there t.note (is_named listed t.kind t.below is) in
    placed_row (names_of t.kind t.note t.below) y.0 ts y.1 ∙ ap (placed (names_of t.kind t.note t.below)) e
named_row listed false t ts left is e = ap (node t.kind t.note (branch_named t.kind t.below)) e

pub each_named : (listed : Bool) (ts : List (Option Tree)) → row (map (named_item listed) ts) ≡ with_names listed (row ts)
each_named listed [] = refl
each_named listed (None ∷ ts) = ap absent (each_named listed ts)
each_named listed (Some t ∷ ts) = named_row listed (leaves_names listed t.kind t.below) t (map (named_item listed) ts) (with_names listed (row ts)) refl (each_named listed ts)

-- ---- the context is told

abbrev pub LeavesRow : Seen → (listed : Bool) → Forest → Seen → Type 0
LeavesRow c listed t d = Leaves c (λ r. row_gone (ids r) listed t) (row_gone evals listed t) d

-- what is left to be told, by a loop: whatever tells the context of that has told it of all
abbrev pub Until : (start : Seen) → (listed : Bool) → Forest → Seen → Forest → Type 0
Until c listed all d t = (e : Seen) → LeavesRow d listed t e → LeavesRow c listed all e

pub until_next : {c d e : Seen} (listed : Bool) (all : Forest) (xs : List (Option Tree)) (y : Option Tree) (x : Tree) → 1 ≤ length xs → y ≡ get_or xs 0 y → y ≡ Some x
    → Leaves d (λ r. one_gone (ids r) listed x) (one_gone evals listed x) e → Until c listed all d (row xs) → Until c listed all e (row (take (length xs - 1) (drop 1 xs)))
until_next listed all [] y x l at is told until f rest = absurd (Prim.omega (arith, l))
until_next {c = c} {d = d} {e = e} listed all (z ∷ zs) y x l at is told until f rest =
    let first : z ≡ Some x = sym at ∙ is in
    let here : LeavesRow e listed (row zs) f = subst (λ us. LeavesRow e listed (row us) f) (others zs z) rest in
    let both : LeavesRow d listed (row (Some x ∷ zs)) f = leaves_more told here (λ r. refl) refl in
    until f (subst (λ q. LeavesRow d listed (row (q ∷ zs)) f) (sym first) both)

pub until_none : {c d : Seen} (listed : Bool) (all : Forest) (xs : List (Option Tree)) → length xs < 1 → Until c listed all d (row xs) → LeavesRow c listed all d
until_none {d = d} listed all [] l until = until d (leaves_none d)
until_none listed all (x ∷ xs) l until = absurd (Prim.omega (arith, l))

-- ---- the child at a place

pub child_shed : (m : Forest → ℕ) (xs : List (Option Tree)) (i : ℕ) (d : Option Tree) → i < length xs → gone_of m (get_or xs i d) ≡ gone_at m i (row xs)
child_shed m [] i d l = absurd (Prim.omega (arith, l))
child_shed m (None ∷ xs) zero d l = refl
child_shed m (Some t ∷ xs) zero d l = refl
child_shed m (None ∷ xs) (suc i) d l = child_shed m xs i d (Prim.omega (arith, l))
child_shed m (Some t ∷ xs) (suc i) d l = child_shed m xs i d (Prim.omega (arith, l))

pub no_child_shed : (m : Forest → ℕ) (xs : List (Option Tree)) (i : ℕ) → length xs ≤ i → 0 ≡ gone_at m i (row xs)
no_child_shed m [] zero l = refl
no_child_shed m [] (suc i) l = refl
no_child_shed m (x ∷ xs) zero l = absurd (Prim.omega (arith, l))
no_child_shed m (None ∷ xs) (suc i) l = no_child_shed m xs i (Prim.omega (arith, l))
no_child_shed m (Some t ∷ xs) (suc i) l = no_child_shed m xs i (Prim.omega (arith, l))

pub child_told : {c d : Seen} (xs : List (Option Tree)) (i : ℕ) (x : Option Tree) → i < length xs → x ≡ get_or xs i x → Leaves c (λ r. gone_of (ids r) x) (gone_of evals x) d → Leaves c (λ r. gone_at (ids r) i (row xs)) (gone_at evals i (row xs)) d
child_told {c = c} xs i x l is told =
    leaves_more (leaves_none c) told (λ r. Prim.omega (arith, child_shed (ids r) xs i x l, ap (gone_of (ids r)) is)) (Prim.omega (arith, child_shed evals xs i x l, ap (gone_of evals) is))

pub no_child_told : (c : Seen) (xs : List (Option Tree)) (i : ℕ) → length xs ≤ i → Leaves c (λ r. gone_at (ids r) i (row xs)) (gone_at evals i (row xs)) c
no_child_told c xs i l =
    leaves_more (leaves_none c) (leaves_none c) (λ r. Prim.omega (arith, no_child_shed (ids r) xs i l)) (Prim.omega (arith, no_child_shed evals xs i l))

pub child_of : (xs : List (Option Tree)) (i : ℕ) (x : Option Tree) → i < length xs → x ≡ get_or xs i x → named_child x ≡ named_of i (row xs)
child_of [] i x l is = absurd (Prim.omega (arith, l))
child_of (None ∷ xs) zero x l is = ap named_child is
child_of (Some t ∷ xs) zero x l is = ap named_child is
child_of (None ∷ xs) (suc i) x l is = child_of xs i x (Prim.omega (arith, l)) is
child_of (Some t ∷ xs) (suc i) x l is = child_of xs i x (Prim.omega (arith, l)) is

pub no_child_of : (xs : List (Option Tree)) (i : ℕ) → length xs ≤ i → None ≡ named_of i (row xs)
no_child_of [] zero l = refl
no_child_of [] (suc i) l = refl
no_child_of (x ∷ xs) zero l = absurd (Prim.omega (arith, l))
no_child_of (None ∷ xs) (suc i) l = no_child_of xs i (Prim.omega (arith, l))
no_child_of (Some t ∷ xs) (suc i) l = no_child_of xs i (Prim.omega (arith, l))

put_first : (x y : Option Tree) (ts : List (Option Tree)) → row (y ∷ ts) ≡ put_there 0 y (row (x ∷ ts))
put_first None None ts = refl
put_first None (Some t) ts = refl
put_first (Some u) None ts = refl
put_first (Some u) (Some t) ts = refl

pub child_put : (xs : List (Option Tree)) (i : ℕ) (y : Option Tree) → i < length xs → row (set xs i y) ≡ put_there i y (row xs)
child_put [] i y l = absurd (Prim.omega (arith, l))
child_put (x ∷ xs) zero y l = put_first x y xs
child_put (None ∷ xs) (suc i) y l = ap absent (child_put xs i y (Prim.omega (arith, l)))
child_put (Some t ∷ xs) (suc i) y l = ap (node t.kind t.note t.below) (child_put xs i y (Prim.omega (arith, l)))

pub no_child_put : (xs : List (Option Tree)) (i : ℕ) (y : Option Tree) → length xs ≤ i → row xs ≡ put_there i y (row xs)
no_child_put [] zero y l = refl
no_child_put [] (suc i) y l = refl
no_child_put (x ∷ xs) zero y l = absurd (Prim.omega (arith, l))
no_child_put (None ∷ xs) (suc i) y l = ap absent (no_child_put xs i y (Prim.omega (arith, l)))
no_child_put (Some t ∷ xs) (suc i) y l = ap (node t.kind t.note t.below) (no_child_put xs i y (Prim.omega (arith, l)))

pub named_put : (i : ℕ) (t : Forest) → put_there i (named_of i t) t ≡ named_there i t
named_put zero nothing = refl
named_put (suc i) nothing = refl
named_put zero (absent rest) = refl
named_put zero (node k n below rest) = refl
named_put (suc i) (absent rest) = ap absent (named_put i rest)
named_put (suc i) (node k n below rest) = ap (node k n below) (named_put i rest)

pub put_named : (x y : Tree) (i : ℕ) (b : Forest) (o : Option Tree) → b ≡ x.below → o ≡ named_of i b → y ≡ record x { below = put_there i o x.below } → y ≡ record x { below = named_there i x.below }
put_named x y i b o is made put = put ∙ ap {B = Tree} (λ t. record x { below = t }) (ap (λ p. put_there i p x.below) (made ∙ ap (named_of i) is) ∙ named_put i x.below)
