-- What acts of a list, and what doesn't.
use Rattle.std.proofs.Common.{◌≡◌, ◌∙◌, ◌<◌, ◌≤◌, ◌+◌, ◌++◌, ℕ, suc, List, [], ◌∷◌, Bool, true, false, ◌||◌, ◌&&◌, not, cond, if◌then◌else◌, Option, Some, None, is_some, length, take, drop, get_or, refl, sym, ap, subst, true≢false, arith}
use Rattle.std.specs.Prelude.{filter, slice_index_or}
use Rattle.std.proofs.lemmas.List.{drop_all, take_more, take_all, take-append-le}
use Rattle.js_syntax.specs.declared.node_kind.NodeKind.{NodeKind as Kind}
use Rattle.js_syntax.specs.declared.node_kind.NodeKind.TheVariants.{ArrayExpression as array_expression, SequenceExpression as sequence_expression, Statements as statements, Cases as cases, Declarators as declarators, Parameters as parameters, Members as members, Elements as elements, Properties as properties, Expressions as expressions, Arguments as arguments, Quasis as quasis, Specifiers as specifiers}
use Rattle.js_syntax.specs.Node.{Forest, Tree, Note, nothing, node, absent, alone, row, forest_of}
use Rattle.js_tree.proofs.Rows.{front_of}
use Rattle.js_tree.proofs.Search.{AsksEach}
use Rattle.js_tree.specs.Walk.{is_list}
use Rattle.scope_counts.specs.Counts.{ids}
use Rattle.min_context.specs.Edited.{evals, Leaves, DropsNode, Edited}
use Rattle.min_context.specs.Seen.{Seen}
use Rattle.steps.specs.Allowed.UnusedOperation.{acts}
use Rattle.steps.specs.Allowed.UnusedList.{acting, all_act, is_spread, has_spread, as_one, as_elements, list_becomes}
use Rattle.steps.specs.Allowed.Uses.{as_value, stands_bare}
use Rattle.rules.specs.Expressions.Lists.{new_note, list_note}
use Rattle.min_expressions.specs.Kept.{child_at}
use Rattle.min_expressions.specs.Lists.{only, item_acts, idle, Found, none, one, several, found_with, found_from, is_enough, are_one, is_array, list_left, are_left, array_goes, sequence_goes, parts_go}
use Rattle.min_expressions.specs.Unused.{tree_acts}
use Rattle.min_expressions.proofs.Leaving.{leaves_none, Adds, ids_add, evals_add, leaves_more, same_some, found, emptied, edits_to}

-- ---- asked of one part after another

pub or_false : (b : Bool) → b || false ≡ b
or_false true = refl
or_false false = refl

pub spread_each : AsksEach has_spread
spread_each None ts = refl
spread_each (Some t) ts = ap (λ (b : Bool). b || has_spread (row ts)) (sym (or_false (is_spread t.kind)))

-- of those that act
abbrev pub has_acting_spread : Forest → Bool
has_acting_spread t = has_spread (acting t)

pub acting_spread_each : AsksEach has_acting_spread
acting_spread_each None ts = refl
acting_spread_each (Some t) ts = if_acts (tree_acts t)
  where
    if_acts : (b : Bool) → has_spread (if b then node t.kind t.note t.below (acting (row ts)) else acting (row ts)) ≡ has_spread (if b then alone t.kind t.note t.below else nothing) || has_spread (acting (row ts))
    if_acts true = ap (λ (b : Bool). b || has_spread (acting (row ts))) (sym (or_false (is_spread t.kind)))
    if_acts false = refl

and_true : (b : Bool) → b && true ≡ b
and_true true = refl
and_true false = refl

and_false : (b : Bool) → b && false ≡ false
and_false true = refl
and_false false = refl

pub acting_spread_is : (x : Tree) → is_spread x.kind && tree_acts x ≡ has_acting_spread (row (Some x ∷ []))
acting_spread_is x = if_acts (tree_acts x)
  where
    if_acts : (b : Bool) → is_spread x.kind && b ≡ has_spread (if b then alone x.kind x.note x.below else nothing)
    if_acts true = and_true (is_spread x.kind) ∙ sym (or_false (is_spread x.kind))
    if_acts false = and_false (is_spread x.kind)

not_both : (a b : Bool) → not (a && b) ≡ not (a && true) || not b
not_both true b = refl
not_both false b = refl

abbrev pub some_idle : Forest → Bool
some_idle t = not (all_act t)

pub idle_each : AsksEach some_idle
idle_each None ts = refl
idle_each (Some t) ts = not_both _ (all_act (row ts))

acts_is : (k : Kind) (n : Note) (b : Forest) → not (all_act (alone k n b)) ≡ not (acts k n b || is_list k)
acts_is statements n b = ap not (and_true (acts statements n b || true))
acts_is cases n b = ap not (and_true (acts cases n b || true))
acts_is declarators n b = ap not (and_true (acts declarators n b || true))
acts_is parameters n b = ap not (and_true (acts parameters n b || true))
acts_is members n b = ap not (and_true (acts members n b || true))
acts_is elements n b = ap not (and_true (acts elements n b || true))
acts_is properties n b = ap not (and_true (acts properties n b || true))
acts_is expressions n b = ap not (and_true (acts expressions n b || true))
acts_is arguments n b = ap not (and_true (acts arguments n b || true))
acts_is quasis n b = ap not (and_true (acts quasis n b || true))
acts_is specifiers n b = ap not (and_true (acts specifiers n b || true))
acts_is k n b = ap not (and_true (acts k n b || false))

pub idle_is : (x : Tree) → not (tree_acts x || is_list x.kind) ≡ not (all_act (row (Some x ∷ [])))
idle_is x = sym (acts_is x.kind x.note x.below)

-- ---- how much acts

pub next_found : (ts : List (Option Tree)) (i : ℕ) (x : Option Tree) (f : Found) → i < length ts → x ≡ get_or ts i x → found_from f (drop i ts) ≡ found_from (found_with f x) (drop (i + 1) ts)
next_found ts i x f h is = ap (found_from f) (front_of ts i x h is)

pub last_found : (ts : List (Option Tree)) (i : ℕ) (f : Found) → length ts ≤ i → found_from f (drop i ts) ≡ f
last_found ts i f h = ap (found_from f) (drop_all i ts h)

several_stay : (ts : List (Option Tree)) → is_enough (found_from several ts) ≡ true
several_stay [] = refl
several_stay (None ∷ ts) = several_stay ts
several_stay (Some t ∷ ts) = if_acts (tree_acts t) (several_stay ts)
  where
    if_acts : (b : Bool) → is_enough (found_from several ts) ≡ true → is_enough (found_from (if b then several else several) ts) ≡ true
    if_acts true e = e
    if_acts false e = e

one_found : (k : Kind) (n : Note) (a : Forest) (ts : List (Option Tree)) → is_enough (found_from (one (stands_bare as_value false k a)) ts) ≡ are_one (node k n a (acting (row ts)))
one_found k n a [] = refl
one_found k n a (None ∷ ts) = one_found k n a ts
one_found k n a (Some t ∷ ts) = if_acts (tree_acts t) (one_found k n a ts)
  where
    if_acts : (b : Bool) → is_enough (found_from (one (stands_bare as_value false k a)) ts) ≡ are_one (node k n a (acting (row ts))) → is_enough (found_from (if b then several else one (stands_bare as_value false k a)) ts) ≡ are_one (node k n a (if b then node t.kind t.note t.below (acting (row ts)) else acting (row ts)))
    if_acts true e = several_stay ts
    if_acts false e = e

pub enough_found : (ts : List (Option Tree)) → is_enough (found_from none ts) ≡ are_one (acting (row ts))
enough_found [] = refl
enough_found (None ∷ ts) = enough_found ts
enough_found (Some t ∷ ts) = if_acts (tree_acts t) (enough_found ts)
  where
    if_acts : (b : Bool) → is_enough (found_from none ts) ≡ are_one (acting (row ts)) → is_enough (found_from (if b then one (stands_bare as_value false t.kind t.below) else none) ts) ≡ are_one (if b then node t.kind t.note t.below (acting (row ts)) else acting (row ts))
    if_acts true e = one_found t.kind t.note t.below ts
    if_acts false e = e

-- ---- what stays in the vector

pub acting_kept : (ts : List (Option Tree)) → row (filter item_acts ts) ≡ acting (row ts)
acting_kept [] = refl
acting_kept (None ∷ ts) = acting_kept ts
acting_kept (Some t ∷ ts) = if_acts (tree_acts t) (acting_kept ts)
  where
    if_acts : (b : Bool) → row (filter item_acts ts) ≡ acting (row ts) → row (cond b (Some t ∷ filter item_acts ts) (filter item_acts ts)) ≡ (if b then node t.kind t.note t.below (acting (row ts)) else acting (row ts))
    if_acts true e = ap (node t.kind t.note t.below) e
    if_acts false e = e

-- ---- what leaves

module _ (m : Forest → ℕ) (a : Adds m) where
  pub splits : (parts : Forest) → m parts ≡ m (idle parts) + m (acting parts)
  splits nothing = Prim.omega (arith, a.none)
  splits (absent rest) = Prim.omega (arith, a.gap rest, splits rest)
  splits (node k n b rest) = if_acts (acts k n b) (splits rest)
    where
      if_acts : (acts : Bool) → m rest ≡ m (idle rest) + m (acting rest) → m (node k n b rest) ≡ m (if acts then idle rest else node k n b (idle rest)) + m (if acts then node k n b (acting rest) else acting rest)
      if_acts true e = Prim.omega (arith, a.joins k n b rest, a.joins k n b (acting rest), e)
      if_acts false e = Prim.omega (arith, a.joins k n b rest, a.joins k n b (idle rest), e)

  each_idle : (t : Option Tree) (ts : List (Option Tree)) → m (idle (row (t ∷ ts))) ≡ m (idle (row (t ∷ []))) + m (idle (row ts))
  each_idle None ts = Prim.omega (arith, a.none)
  each_idle (Some t) ts = if_acts (tree_acts t)
    where
      if_acts : (acts : Bool) → m (if acts then idle (row ts) else node t.kind t.note t.below (idle (row ts))) ≡ m (if acts then nothing else node t.kind t.note t.below nothing) + m (idle (row ts))
      if_acts true = Prim.omega (arith, a.none)
      if_acts false = a.joins t.kind t.note t.below (idle (row ts))

  pushed : (ts : List (Option Tree)) (x : Option Tree) → m (idle (row (ts ++ x ∷ []))) ≡ m (idle (row ts)) + m (idle (row (x ∷ [])))
  pushed [] x = Prim.omega (arith, a.none)
  pushed (t ∷ ts) x = Prim.omega (arith, each_idle t (ts ++ x ∷ []), pushed ts x, each_idle t ts)

  pub idle_more : (ts : List (Option Tree)) (i : ℕ) (x : Option Tree) → i < length ts → x ≡ get_or ts i x → m (idle (row (take (i + 1) ts))) ≡ m (idle (row (take i ts))) + m (idle (row (x ∷ [])))
  idle_more ts i x h is = rw (take_more ts i x h, ← is) (pushed (take i ts) x)

abbrev pub IdleLeaves : Seen → Forest → Seen → Type 0
IdleLeaves c t d = Leaves c (λ r. ids r (idle t)) (evals (idle t)) d

pub next_leaves : {c d e : Seen} (ts : List (Option Tree)) (i : ℕ) (x : Option Tree) → i < length ts → x ≡ get_or ts i x → IdleLeaves c (row (take i ts)) d → IdleLeaves d (row (x ∷ [])) e → IdleLeaves c (row (take (i + 1) ts)) e
next_leaves ts i x h is so_far here = leaves_more so_far here (λ r. idle_more (ids r) (ids_add r) ts i x h is) (idle_more evals evals_add ts i x h is)

pub all_leave : {c d : Seen} (ts : List (Option Tree)) (i : ℕ) → length ts ≤ i → IdleLeaves c (row (take i ts)) d → IdleLeaves c (row ts) d
all_leave {c = c} {d = d} ts i h l = subst (λ us. IdleLeaves c (row us) d) (take_all i ts h) l

idle_one : (o : Option Tree) (x : Tree) → o ≡ Some x → tree_acts x ≡ false → idle (row (o ∷ [])) ≡ forest_of x
idle_one o x is e = ap (λ p. idle (row (p ∷ []))) is ∙ ap (λ b. if b then nothing else forest_of x) e

idle_none : (o : Option Tree) (x : Tree) → o ≡ Some x → tree_acts x ≡ true → idle (row (o ∷ [])) ≡ nothing
idle_none o x is e = ap (λ p. idle (row (p ∷ []))) is ∙ ap (λ b. if b then nothing else forest_of x) e

pub one_leaves : {c d : Seen} (o : Option Tree) (x : Tree) → o ≡ Some x → tree_acts x ≡ false → Leaves c (λ r. ids r (forest_of x)) (evals (forest_of x)) d → IdleLeaves c (row (o ∷ [])) d
one_leaves {c = c} {d = d} o x is e l = subst (λ t. Leaves c (λ r. ids r t) (evals t) d) (sym (idle_one o x is e)) l

pub one_stays : {c : Seen} (o : Option Tree) (x : Tree) → o ≡ Some x → tree_acts x ≡ true → Leaves c (λ r. 0) 0 c → IdleLeaves c (row (o ∷ [])) c
one_stays {c = c} o x is e l = subst (λ t. Leaves c (λ r. ids r t) (evals t) c) (sym (idle_none o x is e)) l

-- ---- one part alone

pub not_alone : (ts : List (Option Tree)) → (length ts ≡ 1 → ⊥) → only (row ts) ≡ None
not_alone [] h = refl
not_alone (None ∷ ts) h = refl
not_alone (Some t ∷ []) h = absurd (h refl)
not_alone (Some t ∷ None ∷ ts) h = refl
not_alone (Some t ∷ Some x ∷ ts) h = refl

pub is_alone : (ts : List (Option Tree)) (d : Option Tree) → length ts ≡ 1 → get_or ts 0 d ≡ only (row ts)
is_alone [] d h = absurd (Prim.omega (arith, h))
is_alone (None ∷ []) d h = refl
is_alone (Some t ∷ []) d h = refl
is_alone (x ∷ y ∷ ts) d h = absurd (Prim.omega (arith, h))

pub no_node : {P : Type 0} {x : Tree} → None ≡ Some x → P
no_node e = absurd Prim.cc

abbrev pub made : Note → Note → Forest → Tree
made n m parts = record { kind = sequence_expression; note = n; below = node expressions m parts nothing }

pub if_bare : (b : Bool) (x : Tree) → b ≡ true → (if b then Some x else None) ≡ Some x
if_bare true x e = refl
if_bare false x e = absurd (true≢false (sym e))

-- ---- the list of an array or of a sequence

-- the only child of a node
pub record HasList (k : Kind) (t : Forest) : Type 0 where
  pub list : Tree
  pub below : t ≡ forest_of list
  -- neither counts itself
  pub no_id : (r : ℕ) (n : Note) (b : Forest) → ids r (alone k n b) ≡ ids r b
  pub list_no_id : (r : ℕ) → ids r (forest_of list) ≡ ids r list.below
  pub no_eval : (n : Note) (b : Forest) → evals (alone k n b) ≡ evals b
  pub list_no_eval : evals (forest_of list) ≡ evals list.below

pub record IsListOf (k : Kind) (t : Forest) : Type 0 where
  pub has : HasList k t
  pub becomes : (n m : Note) → list_becomes n m k t ≡ list_left (is_array k) n m (acting has.list.below)
  pub is_one : are_left (is_array k) (acting has.list.below) ≡ true

-- whether parts are one expression
pub one_same : (n m : Note) (parts : Forest) → is_some (as_one n m parts) ≡ are_one parts
one_same n m nothing = refl
one_same n m (absent rest) = refl
one_same n m (node k i a nothing) = if_stands (stands_bare as_value false k a)
  where
    if_stands : (b : Bool) → is_some {T = Tree} (if b then Some (record { kind = k; note = i; below = a }) else None) ≡ b
    if_stands true = refl
    if_stands false = refl
one_same n m (node k i a (absent rest)) = refl
one_same n m (node k i a (node l j b rest)) = refl

unless : (b : Bool) (o : Option Tree) → is_some (if b then None else o) ≡ true → (b ≡ false) × (is_some o ≡ true)
unless true o e = absurd (true≢false (sym e))
unless false o e = (refl, e)

pub no_list : {P : Type 0} → false ≡ true → P
no_list e = absurd (true≢false (sym e))

abbrev array_list : (i : Note) (parts : Forest) → HasList array_expression (node elements i parts nothing)
array_list i parts = record {
  list = record { kind = elements; note = i; below = parts };
  below = refl;
  no_id = λ r p b. Prim.omega arith;
  list_no_id = λ r. Prim.omega arith;
  no_eval = λ p b. Prim.omega arith;
  list_no_eval = Prim.omega arith;
}

abbrev pub sequence_list : (i : Note) (parts : Forest) → HasList sequence_expression (node expressions i parts nothing)
sequence_list i parts = record {
  list = record { kind = expressions; note = i; below = parts };
  below = refl;
  no_id = λ r p b. Prim.omega arith;
  list_no_id = λ r. Prim.omega arith;
  no_eval = λ p b. Prim.omega arith;
  list_no_eval = Prim.omega arith;
}

not_so : (b c : Bool) → not b && c ≡ true → (b ≡ false) × (c ≡ true)
not_so true c e = absurd (true≢false (sym e))
not_so false c e = (refl, e)

array_goes_so : (s a o : Bool) → (if s then not a else o) ≡ true → ((s && a) ≡ false) × (((true && s) || o) ≡ true)
array_goes_so true true o e = absurd (true≢false (sym e))
array_goes_so true false o e = (refl, refl)
array_goes_so false a o e = (refl, e)

pub list_of : (k : Kind) (t : Forest) → parts_go k t ≡ true → IsListOf k t
list_of array_expression (node elements i parts nothing) e =
    let w = array_goes_so (has_spread (acting parts)) (all_act parts) (are_one (acting parts)) e in
    record { has = array_list i parts; becomes = λ p q. ap (λ (b : Bool). if b then None else as_elements p q (acting parts)) w.0; is_one = w.1 }
list_of array_expression nothing e = no_list e
list_of array_expression (absent rest) e = no_list e
list_of array_expression (node k i parts nothing) e = no_list e
list_of array_expression (node k i parts (absent rest)) e = no_list e
list_of array_expression (node k i parts (node l j b rest)) e = no_list e
list_of sequence_expression (node expressions i parts nothing) e =
    let w = not_so (all_act parts) (are_one (acting parts)) e in
    record { has = sequence_list i parts; becomes = λ p q. ap (λ (b : Bool). if b then None else as_one p q (acting parts)) w.0; is_one = w.1 }
list_of sequence_expression nothing e = no_list e
list_of sequence_expression (absent rest) e = no_list e
list_of sequence_expression (node k i parts nothing) e = no_list e
list_of sequence_expression (node k i parts (absent rest)) e = no_list e
list_of sequence_expression (node k i parts (node l j b rest)) e = no_list e
list_of k t e = no_list e

-- the row that it stands in alone
abbrev pub behind : Forest → Forest
behind (node k n b rest) = rest
behind t = nothing

pub no_items : (ts : List (Option Tree)) → row ts ≡ nothing → length ts ≡ 0
no_items [] e = refl
no_items (None ∷ ts) e = absurd Prim.cc
no_items (Some t ∷ ts) e = absurd Prim.cc

pub alone_in : (ts : List (Option Tree)) (t : Tree) → row ts ≡ forest_of t → length ts ≡ 1
alone_in [] t e = absurd Prim.cc
alone_in (None ∷ ts) t e = absurd Prim.cc
alone_in (Some x ∷ ts) t e = ap suc (no_items ts (ap behind e))

module _ {k : Kind} {t : Forest} (w : HasList k t) where
  pub its_row : (ts us : List (Option Tree)) → row ts ≡ t → us ≡ ts → length us ≡ 1
  its_row ts us e f = ap length f ∙ alone_in ts w.list (e ∙ w.below)

  pub left_row : (n : ℕ) (ts us vs xs : List (Option Tree)) → row ts ≡ t → us ≡ ts → n ≡ length ts → length vs ≡ length us → length (take n (vs ++ xs)) ≡ 1
  left_row n ts us vs xs e f taken same =
      ap length (take-append-le n vs xs (Prim.omega (arith, taken, same, ap length f)) ∙ take_all n vs (Prim.omega (arith, taken, same, ap length f))) ∙ same ∙ its_row ts us e f

  pub its_list : {ts us : List (Option Tree)} {o : Option Tree} {x : Tree} → row ts ≡ t → us ≡ ts → o ≡ slice_index_or us 0 None → o ≡ Some x → x ≡ w.list
  its_list {ts = ts} {us = us} {o = o} {x = x} e f taken is = same_some (sym (found 0 {ts = ts} {us = us} {t = t} {o = o} {y = x} e f taken is) ∙ ap (child_at 0) w.below)

pub record Counts (y : Tree) (parts : Forest) : Type 0 where
  pub same_ids : (r : ℕ) → ids r (forest_of y) ≡ ids r parts
  pub same_evals : evals (forest_of y) ≡ evals parts

pub made_counts : (n m : Note) (parts : Forest) (y : Tree) → Some (made n m parts) ≡ Some y → Counts y parts
made_counts n m parts y e = subst (λ z. Counts z parts) (same_some e) (record { same_ids = λ r. Prim.omega arith; same_evals = Prim.omega arith })

pub alone_counts : (b : Bool) (k : Kind) (i : Note) (a : Forest) (y : Tree) → (if b then Some (record { kind = k; note = i; below = a }) else None) ≡ Some y → Counts y (alone k i a)
alone_counts true k i a y e = subst (λ z. Counts z (alone k i a)) (same_some e) (record { same_ids = λ r. refl; same_evals = refl })
alone_counts false k i a y e = no_node e

pub counts : (n m : Note) (parts : Forest) (y : Tree) → as_one n m parts ≡ Some y → Counts y parts
counts n m nothing y e = no_node e
counts n m (absent rest) y e = made_counts n m (absent rest) y e
counts n m (node k i a nothing) y e = alone_counts (stands_bare as_value false k a) k i a y e
counts n m (node k i a (absent rest)) y e = made_counts n m (node k i a (absent rest)) y e
counts n m (node k i a (node l j b rest)) y e = made_counts n m (node k i a (node l j b rest)) y e

pub left_counts : (array : Bool) (n m : Note) (parts : Forest) (y : Tree) → list_left array n m parts ≡ Some y → Counts y parts
left_counts false n m parts y e = counts n m parts y e
left_counts true n m parts y e = by_spread (has_spread parts) e
  where
    by_spread : (b : Bool) → (if b then Some (record { kind = array_expression; note = n; below = node elements m parts nothing }) else as_one n m parts) ≡ Some y → Counts y parts
    by_spread true e = subst (λ z. Counts z parts) (same_some e) (record { same_ids = λ r. Prim.omega arith; same_evals = Prim.omega arith })
    by_spread false e = counts n m parts y e

-- A node that becomes the sequence of all that lies below it by a rule, and counts nothing itself.
pub record StaysInTurn (rule : Note → Note → Kind → Forest → Option Tree) (k : Kind) (t : Forest) : Type 0 where
  pub becomes : (n m : Note) → rule n m k t ≡ Some (made n m t)
  pub no_id : (r : ℕ) (n : Note) (b : Forest) → ids r (alone k n b) ≡ ids r b
  pub no_eval : (n : Note) (b : Forest) → evals (alone k n b) ≡ evals b

pub in_turn_edits : {c e : Seen} {v y : Tree} {rule : Note → Note → Kind → Forest → Option Tree} (x : Tree) (n m : Note) → StaysInTurn rule x.kind x.below → y ≡ made n m x.below → v.kind ≡ x.kind → v.note ≡ x.note → v.below ≡ nothing → DropsNode c v e → Edited c x y true e
in_turn_edits {c = c} {e = e} {v = v} {y = y} x n m w is kind note empty itself =
    let s = made_counts n m x.below y (ap Some (sym is)) in
    edits_to c c e x y (leaves_none c) (subst (λ u. DropsNode c u e) (emptied v x.kind x.note kind note empty) itself)
    (λ r. Prim.omega (arith, w.no_id r x.note x.below, w.no_id r x.note nothing, s.same_ids r))
    (Prim.omega (arith, w.no_eval x.note x.below, w.no_eval x.note nothing, s.same_evals))

-- of the list of x all left but for what y has
pub parts_edits : {c d e : Seen} {v y l : Tree} {gone : ℕ → ℕ} {calls : ℕ} (x : Tree) (w : HasList x.kind x.below) → l ≡ w.list → ((r : ℕ) → ids r l.below ≡ gone r + ids r (forest_of y)) → evals l.below ≡ calls + evals (forest_of y)
    → v.kind ≡ x.kind → v.note ≡ x.note → v.below ≡ nothing → Leaves c gone calls d → DropsNode d v e → Edited c x y true e
parts_edits {c = c} {d = d} {e = e} {v = v} {y = y} x w is ids_left evals_left kind note empty others itself =
    edits_to c d e x y others (subst (λ u. DropsNode d u e) (emptied v x.kind x.note kind note empty) itself)
    (λ r. Prim.omega (arith, w.no_id r x.note x.below, w.no_id r x.note nothing, ap (ids r) w.below, w.list_no_id r, ap {A = Tree} (λ u. ids r u.below) is, ids_left r))
    (Prim.omega (arith, w.no_eval x.note x.below, w.no_eval x.note nothing, ap evals w.below, w.list_no_eval, ap {A = Tree} (λ u. evals u.below) is, evals_left))

-- what acts of x became y
pub list_edits : {c d e : Seen} {v y z l : Tree} (x : Tree) (array : Bool) (n m : Note) (w : HasList x.kind x.below) → l ≡ w.list → list_left array n m (acting l.below) ≡ Some z → y ≡ z
    → v.kind ≡ x.kind → v.note ≡ x.note → v.below ≡ nothing → IdleLeaves c l.below d → DropsNode d v e → Edited c x y true e
list_edits {z = z} {l = l} x array n m w is left put kind note empty others itself =
    let s = left_counts array n m (acting l.below) z left in
    parts_edits x w is
    (λ r. Prim.omega (arith, splits (ids r) (ids_add r) l.below, s.same_ids r, ap (λ u. ids r (forest_of u)) put))
    (Prim.omega (arith, splits evals evals_add l.below, s.same_evals, ap (λ u. evals (forest_of u)) put))
    kind note empty others itself

pub list_kept : {y z l : Tree} (x : Tree) (w : IsListOf x.kind x.below) → l ≡ w.has.list → list_left (is_array x.kind) (new_note x.note) (new_note l.note) (acting l.below) ≡ Some z → y ≡ z → list_becomes (new_note x.note) (new_note (list_note x.below)) x.kind x.below ≡ Some y
list_kept {l = l} x w is left put =
    w.becomes (new_note x.note) (new_note (list_note x.below)) ∙ ap (λ u. list_left (is_array x.kind) (new_note x.note) (new_note (list_note u)) (acting w.has.list.below)) w.has.below
    ∙ ap {A = Tree} (λ u. list_left (is_array x.kind) (new_note x.note) (new_note u.note) (acting u.below)) (sym is) ∙ left ∙ ap Some (sym put)

-- ---- as the rule says it

pub unless_same : (b : Bool) (o : Option Tree) (c : Bool) → is_some o ≡ c → is_some (if b then None else o) ≡ not b && c
unless_same true o c e = refl
unless_same false o c e = e

elements_same : (s a : Bool) (x : Tree) (o : Option Tree) (c : Bool) → is_some o ≡ c → is_some (if s && a then None else (if s then Some x else o)) ≡ (if s then not a else c)
elements_same true true x o c e = refl
elements_same true false x o c e = refl
elements_same false a x o c e = e

pub array_same : (n m : Note) (t : Forest) → is_some (list_becomes n m array_expression t) ≡ array_goes (only t)
array_same n m nothing = refl
array_same n m (absent rest) = refl
array_same n m (node elements i parts nothing) =
    elements_same (has_spread (acting parts)) (all_act parts) (record { kind = array_expression; note = n; below = node elements m (acting parts) nothing }) (as_one n m (acting parts)) (are_one (acting parts)) (one_same n m (acting parts))
array_same n m (node elements i parts (absent rest)) = refl
array_same n m (node elements i parts (node l j b rest)) = refl
array_same n m (node k i parts nothing) = refl
array_same n m (node k i parts (absent rest)) = refl
array_same n m (node k i parts (node l j b rest)) = refl

pub sequence_same : (n m : Note) (t : Forest) → is_some (list_becomes n m sequence_expression t) ≡ sequence_goes (only t)
sequence_same n m nothing = refl
sequence_same n m (absent rest) = refl
sequence_same n m (node expressions i parts nothing) = unless_same (all_act parts) (as_one n m (acting parts)) (are_one (acting parts)) (one_same n m (acting parts))
sequence_same n m (node expressions i parts (absent rest)) = refl
sequence_same n m (node expressions i parts (node l j b rest)) = refl
sequence_same n m (node k i parts nothing) = refl
sequence_same n m (node k i parts (absent rest)) = refl
sequence_same n m (node k i parts (node l j b rest)) = refl

pub if_unused : (b : Bool) (o : Option Tree) (c : Bool) → is_some o ≡ c → is_some (if b then o else None) ≡ b && c
if_unused true o c e = e
if_unused false o c e = refl

pub if_none : (b : Bool) → is_some {T = Tree} (if b then None else None) ≡ false
if_none true = refl
if_none false = refl

pub used : (b : Bool) (o : Option Tree) → is_some (if b then o else None) ≡ true → (b ≡ true) × (is_some o ≡ true)
used true o e = (refl, e)
used false o e = absurd (true≢false (sym e))

pub no_tree : (o : Option Tree) → is_some o ≡ false → o ≡ None
no_tree None e = refl
no_tree (Some x) e = absurd (true≢false e)
