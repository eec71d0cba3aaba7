-- What leaves a list, and what is left of it, count together what stood there.
use Rattle.std.proofs.Common.{◌≡◌, ◌∙◌, ◌<◌, ◌≤◌, ◌+◌, ◌++◌, ℕ, Bool, true, false, ◌||◌, if◌then◌else◌, List, [], ◌∷◌, Option, Some, None, length, take, get_or, refl, sym, ap, subst, arith, true≢false}
use Rattle.std.specs.Prelude.{nat_lt}
use Rattle.std.proofs.lemmas.List.{take_more, take_all}
use Rattle.js_syntax.specs.declared.node_kind.NodeKind.{NodeKind as Kind}
use Rattle.js_syntax.specs.declared.node_kind.NodeKind.TheVariants.{VariableDeclaration as variable_declaration, Declarators as declarators}
use Rattle.js_syntax.specs.declared.kind.VariableKind.{VariableKind}
use Rattle.js_syntax.specs.Node.{Forest, Tree, Note, nothing, node, absent, alone, row, forest_of}
use Rattle.scope_counts.specs.Counts.{ids}
use Rattle.min_context.specs.Edited.{evals, Leaves, Dropped, DropsNode, Edited}
use Rattle.min_context.specs.Seen.{Seen}
use Rattle.min_traverse.proofs.Joining.{left_is_missing}
use Rattle.rules.specs.DeadCode.Rules.{Facts, Where, declarator_goes, declarators_left, item_goes, declaration_left, item_left, trimmed}
use Rattle.symbol_sets.specs.Numbers.{has}
use Rattle.min_statements.specs.Shed.{declarators_shed, declaration_shed, item_shed, shed}
use Rattle.min_statements.specs.Walker.{Names, facts_of}

-- ---- what counts node by node

pub record Adds (m : Forest → ℕ) : Type 0 where
  pub none : m nothing ≡ 0
  pub gap : (t : Forest) → m (absent t) ≡ m t
  pub joins : (k : Kind) (n : Note) (b t : Forest) → m (node k n b t) ≡ m (alone k n b) + m t
  pub declaration : (how : VariableKind) (n : Note) (b c : Forest) → m (alone (variable_declaration how) n b) + m c ≡ m (alone (variable_declaration how) n c) + m b
  pub list : (n : Note) (b c : Forest) → m (alone declarators n b) + m c ≡ m (alone declarators n c) + m b

pub ids_add : (r : ℕ) → Adds (ids r)
ids_add r = record { none = refl; gap = λ t. refl; joins = λ k n b t. Prim.omega arith; declaration = λ how n b c. Prim.omega arith; list = λ n b c. Prim.omega arith }

pub evals_add : Adds evals
evals_add = record { none = refl; gap = λ t. refl; joins = λ k n b t. Prim.omega arith; declaration = λ how n b c. Prim.omega arith; list = λ n b c. Prim.omega arith }

module _ (m : Forest → ℕ) (a : Adds m) (f : Facts) (w : Where) where
  -- ---- split

  declarator_splits : (g : Bool) (k : Kind) (n : Note) (below rest left : Forest) (s : ℕ) → m rest ≡ s + m left → m (node k n below rest) ≡ ((if g then m (alone k n below) else 0) + s) + m (if g then left else node k n below left)
  declarator_splits true k n below rest left s h = Prim.omega (arith, a.joins k n below rest, h)
  declarator_splits false k n below rest left s h = Prim.omega (arith, a.joins k n below rest, a.joins k n below left, h)

  declarators_split : (how : VariableKind) (ds : Forest) → m ds ≡ declarators_shed m f w how ds + m (declarators_left f w how ds)
  declarators_split how nothing = Prim.omega arith
  declarators_split how (absent rest) = Prim.omega (arith, a.gap rest, a.gap (declarators_left f w how rest), declarators_split how rest)
  declarators_split how (node k n below rest) = declarator_splits (declarator_goes f w how k below) k n below rest (declarators_left f w how rest) (declarators_shed m f w how rest) (declarators_split how rest)

  list_splits : (n : Note) (ds rest left : Forest) (s : ℕ) → m ds ≡ s + m left → m (node declarators n ds rest) ≡ s + m (node declarators n left rest)
  list_splits n ds rest left s h = Prim.omega (arith, a.joins declarators n ds rest, a.joins declarators n left rest, a.list n ds left, h)

  none_splits : (t : Forest) → m t ≡ 0 + m t
  none_splits t = Prim.omega arith

  declaration_splits : (how : VariableKind) (b : Forest) → m b ≡ declaration_shed m f w how b + m (declaration_left f w how b)
  declaration_splits how (node declarators n ds rest) = list_splits n ds rest (declarators_left f w how ds) (declarators_shed m f w how ds) (declarators_split how ds)
  declaration_splits how b = none_splits b

  below_splits : (how : VariableKind) (n : Note) (b left : Forest) (s : ℕ) → m b ≡ s + m left → m (alone (variable_declaration how) n b) ≡ s + m (alone (variable_declaration how) n left)
  below_splits how n b left s h = Prim.omega (arith, a.declaration how n b left, h)

  item_splits : (k : Kind) (n : Note) (b : Forest) → m (alone k n b) ≡ item_shed m f w k b + m (alone k n (item_left f w k b))
  item_splits (variable_declaration how) n b = below_splits how n b (declaration_left f w how b) (declaration_shed m f w how b) (declaration_splits how b)
  item_splits k n b = none_splits (alone k n b)

  items_split : (g : Bool) (k : Kind) (n : Note) (b c rest left : Forest) (s t : ℕ) → m (alone k n b) ≡ t + m (alone k n c) → m rest ≡ s + m left
      → m (node k n b rest) ≡ ((if g then m (alone k n b) else t) + s) + m (if g then left else node k n c left)
  items_split true k n b c rest left s t i h = Prim.omega (arith, a.joins k n b rest, h)
  items_split false k n b c rest left s t i h = Prim.omega (arith, a.joins k n b rest, a.joins k n c left, i, h)

  pub splits : (t : Forest) → m t ≡ shed m f w t + m (trimmed f w t)
  splits nothing = Prim.omega arith
  splits (absent rest) = Prim.omega (arith, a.gap rest, a.gap (trimmed f w rest), splits rest)
  splits (node k n b rest) = items_split (item_goes f w k b) k n b (item_left f w k b) rest (trimmed f w rest) (shed m f w rest) (item_shed m f w k b) (item_splits k n b) (splits rest)

-- ---- one by one

abbrev Sheds : Type 0
Sheds = (Forest → ℕ) → Facts → Forest → ℕ

abbrev Each : Sheds → Type 0
Each S = (m : Forest → ℕ) (f : Facts) (t : Option Tree) (ts : List (Option Tree)) → S m f (row (t ∷ ts)) ≡ S m f (row (t ∷ [])) + S m f (row ts)

pub declarators_each : (w : Where) (how : VariableKind) → Each (λ m f t. declarators_shed m f w how t)
declarators_each w how m f None ts = Prim.omega arith
declarators_each w how m f (Some t) ts = Prim.omega arith

pub items_each : (w : Where) → Each (λ m f t. shed m f w t)
items_each w m f None ts = Prim.omega arith
items_each w m f (Some t) ts = Prim.omega arith

module _ (g : Forest → ℕ) (none : g nothing ≡ 0) (each : (t : Option Tree) (ts : List (Option Tree)) → g (row (t ∷ ts)) ≡ g (row (t ∷ [])) + g (row ts)) where
  pushed : (ts : List (Option Tree)) (x : Option Tree) → g (row (ts ++ x ∷ [])) ≡ g (row ts) + g (row (x ∷ []))
  pushed [] x = Prim.omega (arith, none)
  pushed (t ∷ ts) x = Prim.omega (arith, each t (ts ++ x ∷ []), pushed ts x, each t ts)

  one_more : (ts : List (Option Tree)) (i : ℕ) (x : Option Tree) → i < length ts → x ≡ get_or ts i x → g (row (take (i + 1) ts)) ≡ g (row (take i ts)) + g (row (x ∷ []))
  one_more ts i x h is = rw (take_more ts i x h, ← is) (pushed (take i ts) x)

-- ---- the context

gone_twice : (b : Bool) (m n f : ℕ) → f ≡ m + n → (b || nat_lt 0 m) || nat_lt 0 n ≡ b || nat_lt 0 f
gone_twice true m n f e = refl
gone_twice false m n f e = Prim.grind arith

none_gone : (b : Bool) → b ≡ b || nat_lt 0 0
none_gone true = refl
none_gone false = refl

pub leaves_none : (c : Seen) → Leaves c (λ r. 0) 0 c
leaves_none c = record { same = refl; room = refl; marks = λ r h. none_gone (has c.marked r); evals = none_gone c.eval_dropped }

pub leaves_more : {c d e : Seen} {g h f : ℕ → ℕ} {a b n : ℕ} → Leaves c g a d → Leaves d h b e → ((r : ℕ) → f r ≡ g r + h r) → n ≡ a + b → Leaves c f n e
leaves_more {c = c} {d = d} {e = e} {g = g} {h = h} {f = f} {a = a} {b = b} {n = n} m l both calls = record {
  same = l.same ∙ ap {A = Seen} {B = Seen} (λ z. record z { marked = e.marked; eval_dropped = e.eval_dropped }) m.same;
  room = l.room ∙ m.room;
  marks = λ r i. l.marks r (Prim.omega (arith, i, m.room)) ∙ ap (λ x. x || nat_lt 0 (h r)) (m.marks r i) ∙ gone_twice (has c.marked r) (g r) (h r) (f r) (both r);
  evals = l.evals ∙ ap (λ x. x || nat_lt 0 b) m.evals ∙ gone_twice c.eval_dropped a b n calls;
}

pub dropped_leaves : {c d : Seen} {g : ℕ → ℕ} {n : ℕ} → c.requested ≡ true → Dropped c g n d → Leaves c g n d
dropped_leaves {c = c} {d = d} asked l = record {
  same = l.same ∙ ap {A = Bool} {B = Seen} (λ b. record c { marked = d.marked; eval_dropped = d.eval_dropped; requested = b }) (sym asked);
  room = l.room;
  marks = l.marks;
  evals = l.evals;
}

pub asked_still : {c d : Seen} {g : ℕ → ℕ} {n : ℕ} → Leaves c g n d → c.requested ≡ true → d.requested ≡ true
asked_still l asked = ap {A = Seen} (λ z. z.requested) l.same ∙ asked

pub facts_still : {c d : Seen} {g : ℕ → ℕ} {n : ℕ} (names : Names) → Leaves c g n d → facts_of names d ≡ facts_of names c
facts_still names l = ap {A = Seen} (λ z. facts_of names z) l.same

shed_one : (b : Bool) (n : ℕ) → b ≡ true → (if b then n else 0) + 0 ≡ 0 + n
shed_one true n e = Prim.omega arith
shed_one false n e = absurd (true≢false (sym e))

pub dropped_declarator : {c d : Seen} (f g : Facts) (w : Where) (how : VariableKind) (o : Option Tree) (x : Tree) → c.requested ≡ true → o ≡ Some x → g ≡ f → true ≡ declarator_goes g w how x.kind x.below → DropsNode c x d
    → Leaves c (λ r. declarators_shed (ids r) f w how (row (o ∷ []))) (declarators_shed evals f w how (row (o ∷ []))) d
dropped_declarator {c = c} {d = d} f g w how o x asked is facts goes drops =
    let dead : declarator_goes f w how x.kind x.below ≡ true = ap (λ q. declarator_goes q w how x.kind x.below) (sym facts) ∙ sym goes in
    subst (λ q. Leaves c (λ r. declarators_shed (ids r) f w how (row (q ∷ []))) (declarators_shed evals f w how (row (q ∷ []))) d) (sym is)
    (leaves_more (leaves_none c) (dropped_leaves asked drops) (λ r. shed_one (declarator_goes f w how x.kind x.below) (ids r (forest_of x)) dead) (shed_one (declarator_goes f w how x.kind x.below) (evals (forest_of x)) dead))

asked_some : (b : Bool) → true ≡ b || true
asked_some true = refl
asked_some false = refl

pub edited : {c k d : Seen} {gone : ℕ → ℕ} {calls : ℕ} (x y : Tree) → k ≡ record c { requested = true } → Leaves k gone calls d → ((r : ℕ) → ids r (forest_of x) ≡ gone r + ids r (forest_of y)) → evals (forest_of x) ≡ calls + evals (forest_of y) → Edited c x y true d
edited {c = c} {k = k} {d = d} {gone = gone} {calls = calls} x y asked left split calls_split =
    let l : Leaves (record c { requested = true }) gone calls d = subst (λ z. Leaves z gone calls d) asked left in
    let e = left_is_missing x y l split calls_split in
    let is_asked : d.requested ≡ true = ap {A = Seen} (λ z. z.requested) l.same in
    record {
      same = l.same ∙ ap {A = Bool} {B = Seen} (λ b. record c { marked = d.marked; eval_dropped = d.eval_dropped; requested = b }) (sym is_asked);
      room = e.room;
      marks = e.marks;
      evals = e.evals;
      asked = is_asked ∙ asked_some c.requested;
      none = λ q. absurd (true≢false q);
    }

-- ---- a loop that tells the context of one item after another

abbrev pub LeavesBy : ((Forest → ℕ) → Facts → Forest → ℕ) → Names → Seen → Forest → Seen → Type 0
LeavesBy S names c t d = Leaves c (λ r. S (ids r) (facts_of names c) t) (S evals (facts_of names c) t) d

module _ (S : (Forest → ℕ) → Facts → Forest → ℕ) (none : (m : Forest → ℕ) (f : Facts) → S m f nothing ≡ 0)
    (each : (m : Forest → ℕ) (f : Facts) (t : Option Tree) (ts : List (Option Tree)) → S m f (row (t ∷ ts)) ≡ S m f (row (t ∷ [])) + S m f (row ts)) (names : Names) where
  pub next : {c d e : Seen} (ts : List (Option Tree)) (i : ℕ) (x : Option Tree) → i < length ts → x ≡ get_or ts i x → LeavesBy S names c (row (take i ts)) d → LeavesBy S names d (row (x ∷ [])) e → LeavesBy S names c (row (take (i + 1) ts)) e
  next {c = c} {d = d} {e = e} ts i x h is so_far here =
      let f = facts_of names c in
      let same : Leaves d (λ r. S (ids r) f (row (x ∷ []))) (S evals f (row (x ∷ []))) e = subst (λ g. Leaves d (λ r. S (ids r) g (row (x ∷ []))) (S evals g (row (x ∷ []))) e) (facts_still names so_far) here in
      leaves_more so_far same (λ r. one_more (S (ids r) f) (none (ids r) f) (each (ids r) f) ts i x h is) (one_more (S evals f) (none evals f) (each evals f) ts i x h is)

  pub all : {c d : Seen} (ts : List (Option Tree)) (i : ℕ) → length ts ≤ i → LeavesBy S names c (row (take i ts)) d → LeavesBy S names c (row ts) d
  all {c = c} {d = d} ts i h l = subst (λ us. LeavesBy S names c (row us) d) (take_all i ts h) l
