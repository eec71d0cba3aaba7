-- What the calls on a branch that isn't taken do is what the rule answers, and the context is told of exactly what goes.
use Rattle.std.proofs.Common.{◌≡◌, ◌∙◌, ◌<◌, ◌≤◌, ◌+◌, ◌-◌, ℕ, zero, suc, Bool, true, false, not, if◌then◌else◌, List, [], ◌∷◌, Option, Some, None, map, length, take, drop, get_or, set, refl, sym, ap, subst, arith, true≢false}
use Rattle.std.specs.Prelude.{filter}
use Rattle.std.proofs.lemmas.List.{drop-set-lt}
use Rattle.js_syntax.specs.declared.node_kind.NodeKind.{NodeKind as Kind}
use Rattle.js_syntax.specs.declared.node_kind.NodeKind.TheVariants.{Statements as statements, BlockStatement as block_statement, IfStatement as if_statement, LabeledStatement as labeled_statement, WhileStatement as while_statement, DoWhileStatement as do_while_statement, ForStatement as for_statement, ForInStatement as for_in_statement, ForOfStatement as for_of_statement, WithStatement as with_statement, SwitchStatement as switch_statement, Cases as cases, SwitchCase as switch_case, TryStatement as try_statement, CatchClause as catch_clause, VariableDeclaration as variable_declaration, Declarators as declarators, VariableDeclarator as variable_declarator}
use Rattle.js_syntax.specs.Node.{Forest, Tree, Note, nothing, node, absent, alone, forest_of, row}
use Rattle.js_syntax.proofs.Truth.{first_of_either}
use Rattle.js_tree.specs.Weight.{size_of}
use Rattle.js_tree.proofs.Rows.{front_of}
use Rattle.js_tree.proofs.Sizes.{rest_smaller}
use Rattle.scope_counts.specs.Counts.{ids}
use Rattle.min_context.specs.Edited.{evals, Leaves}
use Rattle.min_context.specs.Seen.{Seen}
use Rattle.min_expressions.specs.Kept.{kept_if}
use Rattle.min_traverse.specs.Lawful.{Does}
use Rattle.min_traverse.proofs.Joining.{does_some, does_none}
use Rattle.rules.specs.Expressions.Ifs.{given_if}
use Rattle.rules.specs.Expressions.Untaken.{is_list, may_go, is_declarator, zero_for, value_left, values_of, values_rid, rid, branch_left, branch_loses, what_stays, if_left, rid_if}
use Rattle.steps.specs.Allowed.Untaken.{truth_given, runs_inside}
use Rattle.steps.specs.Allowed.UnrunValue.{declares, passes, may_be_dropped}
use Rattle.steps.specs.Allowed.Uses.{Use, use_at, stands_bare}
use Rattle.scope_laws.specs.Place as places
use Rattle.min_statements.specs.Untaken.{by_truth, untaken_at, value_shed, declarator_shed, values_shed_of, values_shed, row_shed, inside_shed, one_shed, shed_of, shed_at, goes_there, kept_of, each_rid, rid_one, rid_at}
use Rattle.min_statements.proofs.Calls.{is_no_name, CallsStay}
use Rattle.min_statements.proofs.Emptying.{others}
use Rattle.min_statements.proofs.Kept.{kept}
use Rattle.min_statements.proofs.Shed.{Adds, ids_add, evals_add, leaves_none, leaves_more, edited}

-- ---- what stands there then

abbrev left_by : Note → Kind → Forest → Option ℕ → Option Tree
left_by n k t None = None
left_by n k t (Some i) = Some (record { kind = k; note = n; below = rid_at i t })

chosen_left : (g : Bool) (i : ℕ) (n : Note) (k : Kind) (t : Forest) → left_by n k t (kept_if g i) ≡ given_if g (record { kind = k; note = n; below = rid_at i t })
chosen_left true i n k t = refl
chosen_left false i n k t = refl

module _ (n t_note : Note) (t : Kind) (a : Forest) where
  left_so : (truth : Option Bool) (branches : Forest) → left_by n if_statement (node t t_note a branches) (by_truth truth branches) ≡ what_stays n t t_note a truth branches
  left_so (Some false) (node k i b alternate) =
      chosen_left (branch_loses k b) 1 n if_statement (node t t_note a (node k i b alternate))
  left_so (Some true) (node k i b (node l j c rest)) =
      chosen_left (branch_loses l c) 2 n if_statement (node t t_note a (node k i b (node l j c rest)))
  left_so (Some false) nothing = refl
  left_so (Some false) (absent rest) = refl
  left_so (Some true) nothing = refl
  left_so (Some true) (absent rest) = refl
  left_so (Some true) (node k i b nothing) = refl
  left_so (Some true) (node k i b (absent rest)) = refl
  left_so None nothing = refl
  left_so None (absent rest) = refl
  left_so None (node k i b rest) = refl

left_as_ruled : (n : Note) (k : Kind) (t : Forest) → left_by n k t (untaken_at k t) ≡ if_left n k t
left_as_ruled n if_statement (node t m a branches) = left_so n m t a (truth_given t m a) branches
left_as_ruled n if_statement nothing = refl
left_as_ruled n if_statement (absent rest) = refl
left_as_ruled n k t = refl

-- ---- counted

none_inside : {P : Type 0} → false ≡ true → P
none_inside e = absurd (true≢false (sym e))

-- what lies in a statement counts for itself
abbrev pub CountsInside : (Forest → ℕ) → Type 0
CountsInside m = (k : Kind) (n : Note) (b c : Forest) → passes k ≡ true → m (alone k n b) + m c ≡ m (alone k n c) + m b

pub ids_inside : (r : ℕ) → CountsInside (ids r)
ids_inside r k n b c e = Prim.omega arith

pub evals_inside : CountsInside evals
evals_inside statements n b c e = Prim.omega arith
evals_inside block_statement n b c e = Prim.omega arith
evals_inside if_statement n b c e = Prim.omega arith
evals_inside (labeled_statement label) n b c e = Prim.omega arith
evals_inside while_statement n b c e = Prim.omega arith
evals_inside do_while_statement n b c e = Prim.omega arith
evals_inside for_statement n b c e = Prim.omega arith
evals_inside for_in_statement n b c e = Prim.omega arith
evals_inside for_of_statement n b c e = Prim.omega arith
evals_inside with_statement n b c e = Prim.omega arith
evals_inside switch_statement n b c e = Prim.omega arith
evals_inside cases n b c e = Prim.omega arith
evals_inside switch_case n b c e = Prim.omega arith
evals_inside try_statement n b c e = Prim.omega arith
evals_inside catch_clause n b c e = Prim.omega arith
evals_inside (variable_declaration how) n b c e = Prim.omega arith
evals_inside declarators n b c e = Prim.omega arith
evals_inside variable_declarator n b c e = Prim.omega arith
evals_inside k n b c e = none_inside e

-- a value holds no declaration around it, and a zero counts nothing
plain_value : (l : Kind) → may_be_dropped l ≡ true → passes l ≡ false
plain_value Kind.ThisExpression h = refl
plain_value Kind.ArrayExpression h = refl
plain_value Kind.ObjectExpression h = refl
plain_value Kind.SequenceExpression h = refl
plain_value (Kind.UnaryExpression o) h = refl
plain_value (Kind.UpdateExpression o prefix) h = refl
plain_value (Kind.BinaryExpression o) h = refl
plain_value (Kind.LogicalExpression o) h = refl
plain_value (Kind.AssignmentExpression o) h = refl
plain_value Kind.ConditionalExpression h = refl
plain_value (Kind.CallExpression optional pure) h = refl
plain_value (Kind.NewExpression pure) h = refl
plain_value (Kind.MemberExpression key optional) h = refl
plain_value Kind.TemplateLiteral h = refl
plain_value Kind.TaggedTemplateExpression h = refl
plain_value k h = none_inside h

pub runs_pass : (k : Kind) → runs_inside k ≡ true → passes k ≡ true
runs_pass k h = first_of_either (runs_inside k) (declares k) h

abbrev CountsZero : (Forest → ℕ) → Type 0
CountsZero m = (n : Note) → m (forest_of (zero_for n)) ≡ 0

module _ (m : Forest → ℕ) (a : Adds m) (inside : CountsInside m) (blank : CountsZero m) where
  value_by : (k : Kind) (n : Note) (b : Forest) (l : Kind) (o : Note) (c d r s : Forest) (drops : Bool) → may_be_dropped l ≡ drops → (passes l ≡ false → d ≡ c)
      → m (node k n b (node l o d r)) ≡ (if drops then m (alone l o c) else 0) + m (node k n b (if drops then node (zero_for o).kind (zero_for o).note nothing r else node l o d r))
  value_by k n b l o c d r s true is same =
      Prim.omega (arith, a.joins k n b (node l o d r), a.joins k n b (node (zero_for o).kind (zero_for o).note nothing r), a.joins l o d r, a.joins (zero_for o).kind (zero_for o).note nothing r, blank o, ap (λ e. m (alone l o e)) (same (plain_value l is)))
  value_by k n b l o c d r s false is same = Prim.omega arith

  unpassed : (l : Kind) (c : Forest) → passes l ≡ false → values_of l c (values_rid c) ≡ c
  unpassed l c e = ap (λ p. if p then (if is_declarator l then value_left (values_rid c) else values_rid c) else c) e

  value_splits : (t : Forest) → m (values_rid t) ≡ value_shed m t + m (value_left (values_rid t))
  value_splits nothing = Prim.omega arith
  value_splits (absent r) = Prim.omega arith
  value_splits (node k n b nothing) = Prim.omega arith
  value_splits (node k n b (absent r)) = Prim.omega arith
  value_splits (node k n b (node l o c r)) = value_by k n (values_of k b (values_rid b)) l o c (values_of l c (values_rid c)) (values_rid r) nothing (may_be_dropped l) refl (unpassed l c)

  of_splits : (k : Kind) (t : Forest) (s : ℕ) (p d : Bool) → m t ≡ s + m (values_rid t)
      → m t ≡ (if p then s + (if d then value_shed m t else 0) else 0) + m (if p then (if d then value_left (values_rid t) else values_rid t) else t)
  of_splits k t s true true h = Prim.omega (arith, h, value_splits t)
  of_splits k t s true false h = Prim.omega (arith, h)
  of_splits k t s false d h = Prim.omega arith

  alone_splits : (p : Bool) (k : Kind) (n : Note) (b c : Forest) (s : ℕ) → passes k ≡ p → m b ≡ (if p then s else 0) + m (if p then c else b) → m (alone k n b) ≡ (if p then s else 0) + m (alone k n (if p then c else b))
  alone_splits true k n b c s e h = Prim.omega (arith, inside k n b c e, h)
  alone_splits false k n b c s e h = Prim.omega arith

  values_alone : (k : Kind) (n : Note) (b : Forest) → m b ≡ values_shed m b + m (values_rid b) → m (alone k n b) ≡ values_shed_of m k b (values_shed m b) + m (alone k n (values_of k b (values_rid b)))
  values_alone k n b h =
      alone_splits (passes k) k n b (if is_declarator k then value_left (values_rid b) else values_rid b) (values_shed m b + declarator_shed m k b) refl (of_splits k b (values_shed m b) (passes k) (is_declarator k) h)

  values_split : (t : Forest) → m t ≡ values_shed m t + m (values_rid t)
  values_split nothing = Prim.omega arith
  values_split (absent rest) = Prim.omega (arith, a.gap rest, a.gap (values_rid rest), values_split rest)
  values_split (node k n b rest) = Prim.omega (arith, a.joins k n b rest, a.joins k n (values_of k b (values_rid b)) (values_rid rest), values_alone k n b (values_split b), values_split rest)

  inside_splits : (runs : Bool) (k : Kind) (n : Note) (b left : Forest) (s : ℕ) → runs_inside k ≡ runs → m b ≡ s + m left
      → m (alone k n b) ≡ (if runs then s else values_shed_of m k b (values_shed m b)) + m (alone k n (if runs then left else values_of k b (values_rid b)))
  inside_splits true k n b left s e h = Prim.omega (arith, inside k n b left (runs_pass k e), h)
  inside_splits false k n b left s e h = values_alone k n b (values_split b)

  one_splits : (goes : Bool) (k : Kind) (n : Note) (b left rest stays : Forest) (s t : ℕ) → m (alone k n b) ≡ s + m (alone k n left) → m rest ≡ t + m stays
      → m (node k n b rest) ≡ ((if goes then m (alone k n b) else s) + t) + m (if goes then stays else node k n left stays)
  one_splits true k n b left rest stays s t h g = Prim.omega (arith, a.joins k n b rest, g)
  one_splits false k n b left rest stays s t h g = Prim.omega (arith, a.joins k n b rest, a.joins k n left stays, h, g)

  rid_splits : (listed : Bool) (t : Forest) → m t ≡ row_shed m listed t + m (rid listed t)
  rid_splits listed nothing = Prim.omega arith
  rid_splits listed (absent rest) = Prim.omega (arith, a.gap rest, a.gap (rid listed rest), rid_splits listed rest)
  rid_splits listed (node k n b rest) =
      one_splits (may_go listed k b) k n b (branch_left k b) rest (rid listed rest) (inside_shed m k b) (row_shed m listed rest)
      (inside_splits (runs_inside k) k n b (rid (is_list k) b) (row_shed m (is_list k) b) refl (rid_splits (is_list k) b)) (rid_splits listed rest)

  branch_splits : (k : Kind) (n : Note) (b rest : Forest) → m (node k n b rest) ≡ inside_shed m k b + m (node k n (branch_left k b) rest)
  branch_splits k n b rest =
      Prim.omega (arith, a.joins k n b rest, a.joins k n (branch_left k b) rest, inside_splits (runs_inside k) k n b (rid (is_list k) b) (row_shed m (is_list k) b) refl (rid_splits (is_list k) b))

  at_splits : (i : ℕ) (t : Forest) → m t ≡ shed_at m i t + m (rid_at i t)
  at_splits zero nothing = Prim.omega arith
  at_splits (suc i) nothing = Prim.omega arith
  at_splits zero (absent rest) = Prim.omega arith
  at_splits zero (node k n b rest) = branch_splits k n b rest
  at_splits (suc i) (absent rest) = Prim.omega (arith, a.gap rest, a.gap (rid_at i rest), at_splits i rest)
  at_splits (suc i) (node k n b rest) = Prim.omega (arith, a.joins k n b rest, a.joins k n b (rid_at i rest), at_splits i rest)

  if_splits : (x : Tree) (i : ℕ) → passes x.kind ≡ true → m (forest_of x) ≡ shed_at m i x.below + m (alone x.kind x.note (rid_at i x.below))
  if_splits x i e = Prim.omega (arith, inside x.kind x.note x.below (rid_at i x.below) e, at_splits i x.below)

-- ---- what the call does

is_if : (k : Kind) (t : Forest) (i : ℕ) → untaken_at k t ≡ Some i → k ≡ if_statement
is_if if_statement t i e = refl
is_if k t i e = absurd Prim.cc

zero_ids : (r : ℕ) → CountsZero (ids r)
zero_ids r n = refl

zero_evals : CountsZero evals
zero_evals n = refl

runs_there : (k : Kind) (t : Forest) (i : ℕ) → untaken_at k t ≡ Some i → passes k ≡ true
runs_there k t i e = ap passes (is_if k t i e)

pub left_does : {c k d : Seen} (x y : Tree) (i : ℕ) (b : Forest) → untaken_at x.kind x.below ≡ Some i → k ≡ record c { requested = true } → b ≡ x.below → Leaves k (λ r. shed_at (ids r) i b) (shed_at evals i b) d → y ≡ record x { below = rid_at i x.below } → Does rid_if c x true d y
left_does {c = c} {k = k} {d = d} x y i b at asked is left tree =
    let z : Tree = record { kind = x.kind; note = x.note; below = rid_at i x.below } in
    let there : Leaves k (λ r. shed_at (ids r) i x.below) (shed_at evals i x.below) d = subst (λ t. Leaves k (λ r. shed_at (ids r) i t) (shed_at evals i t) d) is left in
    let runs = runs_there x.kind x.below i at in
    let does : Does rid_if c x true d z =
    does_some rid_if c x z (sym (left_as_ruled x.note x.kind x.below) ∙ ap (left_by x.note x.kind x.below) at)
    (edited x z asked there (λ r. if_splits (ids r) (ids_add r) (ids_inside r) (zero_ids r) x i runs) (if_splits evals evals_add evals_inside zero_evals x i runs)) in
    subst (λ t. Does rid_if c x true d t) (sym tree) does

pub left_none : (c : Seen) (x : Tree) → untaken_at x.kind x.below ≡ None → Does rid_if c x false c x
left_none c x at = does_none rid_if c x (sym (left_as_ruled x.note x.kind x.below) ∙ ap (left_by x.note x.kind x.below) at)

-- no call of it is a direct one of `eval`

pub if_bare : (u : Use) (k : Kind) (b : Forest) → k ≡ if_statement → stands_bare u false k b ≡ true
if_bare u k b e = ap (λ l. stands_bare u false l b) e

none_then : {P : Type 0} {y : Tree} → None ≡ Some y → P
none_then e = absurd Prim.cc

some_same : {x y : Tree} → Some x ≡ Some y → x ≡ y
some_same e = Prim.cc

pub left_calls : (a : places.Around) (x y : Tree) → if_left x.note x.kind x.below ≡ Some y → CallsStay a x y
left_calls a x y e = by (untaken_at x.kind x.below) refl
  where
    by : (o : Option ℕ) → untaken_at x.kind x.below ≡ o → CallsStay a x y
    by None at = none_then (sym (ap (left_by x.note x.kind x.below) at) ∙ left_as_ruled x.note x.kind x.below ∙ e)
    by (Some i) at =
        let z : Tree = record { kind = x.kind; note = x.note; below = rid_at i x.below } in
        let same : z ≡ y = some_same (sym (ap (left_by x.note x.kind x.below) at) ∙ left_as_ruled x.note x.kind x.below ∙ e) in
        let stay : CallsStay a x z = record {
          fewer = Prim.omega (arith, if_splits evals evals_add evals_inside zero_evals x i (runs_there x.kind x.below i at));
          old = ap is_no_name (is_if x.kind x.below i at);
          in_with = false;
          bare = if_bare (use_at a) x.kind (rid_at i x.below) (is_if x.kind x.below i at);
        } in
        subst (λ t. CallsStay a x t) same stay

-- ---- the context is told

abbrev pub LeavesRow : Seen → (listed : Bool) → Forest → Seen → Type 0
LeavesRow c listed t d = Leaves c (λ r. row_shed (ids r) listed t) (row_shed evals listed t) d

-- what is left to be told, by a loop: whatever tells the context of that has told it of all
abbrev pub Until : (start : Seen) → (listed : Bool) → Forest → Seen → Forest → Type 0
Until c listed all d t = (e : Seen) → LeavesRow d listed t e → LeavesRow c listed all e

pub until_next : {c d e : Seen} (listed : Bool) (all : Forest) (xs : List (Option Tree)) (y : Option Tree) (x : Tree) → 1 ≤ length xs → y ≡ get_or xs 0 y → y ≡ Some x
    → Leaves d (λ r. one_shed (ids r) listed x) (one_shed evals listed x) e → Until c listed all d (row xs) → Until c listed all e (row (take (length xs - 1) (drop 1 xs)))
until_next listed all [] y x l at is told until f rest = absurd (Prim.omega (arith, l))
until_next {c = c} {d = d} {e = e} listed all (z ∷ zs) y x l at is told until f rest =
    let first : z ≡ Some x = sym at ∙ is in
    let here : LeavesRow e listed (row zs) f = subst (λ us. LeavesRow e listed (row us) f) (others zs z) rest in
    let both : LeavesRow d listed (row (Some x ∷ zs)) f = leaves_more told here (λ r. refl) refl in
    until f (subst (λ q. LeavesRow d listed (row (q ∷ zs)) f) (sym first) both)

pub until_none : {c d : Seen} (listed : Bool) (all : Forest) (xs : List (Option Tree)) → length xs < 1 → Until c listed all d (row xs) → LeavesRow c listed all d
until_none {d = d} listed all [] l until = until d (leaves_none d)
until_none listed all (x ∷ xs) l until = absurd (Prim.omega (arith, l))

pub rest_sized : (xs : List (Option Tree)) → 1 ≤ length xs → size_of (row (take (length xs - 1) (drop 1 xs))) ≤ size_of (row xs)
rest_sized [] l = absurd (Prim.omega (arith, l))
rest_sized (x ∷ xs) l = Prim.omega (arith, ap (λ ts. size_of (row ts)) (others xs x), rest_smaller x xs)

-- ---- the child at a place

pub child_shed : (m : Forest → ℕ) (xs : List (Option Tree)) (i : ℕ) (d : Option Tree) → i < length xs → shed_of m (get_or xs i d) ≡ shed_at m i (row xs)
child_shed m [] i d l = absurd (Prim.omega (arith, l))
child_shed m (None ∷ xs) zero d l = refl
child_shed m (Some t ∷ xs) zero d l = refl
child_shed m (None ∷ xs) (suc i) d l = child_shed m xs i d (Prim.omega (arith, l))
child_shed m (Some t ∷ xs) (suc i) d l = child_shed m xs i d (Prim.omega (arith, l))

pub no_child_shed : (m : Forest → ℕ) (xs : List (Option Tree)) (i : ℕ) → length xs ≤ i → 0 ≡ shed_at m i (row xs)
no_child_shed m [] zero l = refl
no_child_shed m [] (suc i) l = refl
no_child_shed m (x ∷ xs) zero l = absurd (Prim.omega (arith, l))
no_child_shed m (None ∷ xs) (suc i) l = no_child_shed m xs i (Prim.omega (arith, l))
no_child_shed m (Some t ∷ xs) (suc i) l = no_child_shed m xs i (Prim.omega (arith, l))

pub child_told : {c d : Seen} (xs : List (Option Tree)) (i : ℕ) (x : Option Tree) → i < length xs → x ≡ get_or xs i x → Leaves c (λ r. shed_of (ids r) x) (shed_of evals x) d → Leaves c (λ r. shed_at (ids r) i (row xs)) (shed_at evals i (row xs)) d
child_told {c = c} xs i x l is told =
    leaves_more (leaves_none c) told (λ r. Prim.omega (arith, child_shed (ids r) xs i x l, ap (shed_of (ids r)) is)) (Prim.omega (arith, child_shed evals xs i x l, ap (shed_of evals) is))

pub no_child_told : (c : Seen) (xs : List (Option Tree)) (i : ℕ) → length xs ≤ i → Leaves c (λ r. shed_at (ids r) i (row xs)) (shed_at evals i (row xs)) c
no_child_told c xs i l =
    leaves_more (leaves_none c) (leaves_none c) (λ r. Prim.omega (arith, no_child_shed (ids r) xs i l)) (Prim.omega (arith, no_child_shed evals xs i l))

pub child_rid : (xs : List (Option Tree)) (i : ℕ) (x y : Option Tree) → i < length xs → y ≡ rid_one (get_or xs i x) → row (set xs i y) ≡ rid_at i (row xs)
child_rid [] i x y l puts = absurd (Prim.omega (arith, l))
child_rid (None ∷ xs) zero x y l puts = ap (λ z. row (z ∷ xs)) puts
child_rid (Some t ∷ xs) zero x y l puts = ap (λ z. row (z ∷ xs)) puts
child_rid (None ∷ xs) (suc i) x y l puts = ap absent (child_rid xs i x y (Prim.omega (arith, l)) puts)
child_rid (Some t ∷ xs) (suc i) x y l puts = ap (node t.kind t.note t.below) (child_rid xs i x y (Prim.omega (arith, l)) puts)

pub no_child_rid : (xs : List (Option Tree)) (i : ℕ) → length xs ≤ i → row xs ≡ rid_at i (row xs)
no_child_rid [] zero l = refl
no_child_rid [] (suc i) l = refl
no_child_rid (x ∷ xs) zero l = absurd (Prim.omega (arith, l))
no_child_rid (None ∷ xs) (suc i) l = ap absent (no_child_rid xs i (Prim.omega (arith, l)))
no_child_rid (Some t ∷ xs) (suc i) l = ap (node t.kind t.note t.below) (no_child_rid xs i (Prim.omega (arith, l)))

-- ---- items that stay

pub kept_there : (listed : Bool) (ts : List (Option Tree)) → row (filter (λ x. not (goes_there listed x)) ts) ≡ kept_of listed (row ts)
kept_there listed [] = refl
kept_there listed (None ∷ ts) = ap absent (kept_there listed ts)
kept_there listed (Some t ∷ ts) = kept (may_go listed t.kind t.below) t (filter (λ x. not (goes_there listed x)) ts) (kept_of listed (row ts)) (kept_there listed ts)

one_rid : (g : Bool) (k : Kind) (n : Note) (b r l : Forest) → each_rid r ≡ l → each_rid (if g then r else node k n b r) ≡ (if g then l else node k n (branch_left k b) l)
one_rid true k n b r l e = e
one_rid false k n b r l e = ap (node k n (branch_left k b)) e

pub kept_rid : (listed : Bool) (t : Forest) → each_rid (kept_of listed t) ≡ rid listed t
kept_rid listed nothing = refl
kept_rid listed (absent rest) = ap absent (kept_rid listed rest)
kept_rid listed (node k n b rest) = one_rid (may_go listed k b) k n b (kept_of listed rest) (rid listed rest) (kept_rid listed rest)

pub each_is_rid : (ts : List (Option Tree)) → row (map rid_one ts) ≡ each_rid (row ts)
each_is_rid [] = refl
each_is_rid (None ∷ ts) = ap absent (each_is_rid ts)
each_is_rid (Some t ∷ ts) = ap (node t.kind t.note (branch_left t.kind t.below)) (each_is_rid ts)

-- ---- and are no larger

smaller_if : (g : Bool) (k : Kind) (n : Note) (b r rest : Forest) → size_of r ≤ size_of rest → size_of (if g then r else node k n b r) ≤ size_of (node k n b rest)
smaller_if true k n b r rest h = Prim.omega (arith, h)
smaller_if false k n b r rest h = Prim.omega (arith, h)

pub kept_smaller : (listed : Bool) (t : Forest) → size_of (kept_of listed t) ≤ size_of t
kept_smaller listed nothing = Prim.omega arith
kept_smaller listed (absent rest) = Prim.omega (arith, kept_smaller listed rest)
kept_smaller listed (node k n b rest) = smaller_if (may_go listed k b) k n b (kept_of listed rest) rest (kept_smaller listed rest)

pub next_sized : (xs : List (Option Tree)) (i : ℕ) (x y : Option Tree) (n : ℕ) → i < length xs → x ≡ get_or xs i x → size_of (row (drop i xs)) ≤ n → size_of (row (drop (i + 1) (set xs i y))) ≤ n
next_sized xs i x y n l is h =
    Prim.omega (arith, ap (λ ts. size_of (row ts)) (drop-set-lt (i + 1) xs i y (Prim.omega arith)), ap (λ ts. size_of (row ts)) (front_of xs i x l is), rest_smaller x (drop (i + 1) xs), h)
