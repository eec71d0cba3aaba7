-- What stays of a sequence, and what leaves.
use Rattle.std.proofs.Common.{◌≡◌, ◌∙◌, ◌<◌, ◌≤◌, ◌+◌, ◌-◌, ◌++◌, ℕ, List, [], ◌∷◌, Bool, true, false, ◌||◌, ◌&&◌, not, cond, if◌then◌else◌, Option, Some, None, is_some, length, take, get_or, refl, sym, ap, ap₂, subst, true≢false, arith}
use Rattle.std.specs.Prelude.{filter}
use Rattle.std.proofs.lemmas.List.{take_more, take_all, take-append-le, length-append}
use Rattle.js_syntax.specs.declared.node_kind.NodeKind.{NodeKind as Kind}
use Rattle.js_syntax.specs.declared.node_kind.NodeKind.TheVariants.{SequenceExpression as sequence_expression, Statements as statements, Cases as cases, Declarators as declarators, Parameters as parameters, Members as members, Elements as elements, Properties as properties, Expressions as expressions, Arguments as arguments, Quasis as quasis, Specifiers as specifiers}
use Rattle.js_syntax.specs.Node.{Forest, Tree, Note, nothing, node, absent, row, forest_of}
use Rattle.js_tree.proofs.Search.{AsksEach}
use Rattle.scope_counts.specs.Counts.{ids}
use Rattle.min_context.specs.Edited.{evals, Leaves, DropsNode, Edited}
use Rattle.min_context.specs.Seen.{Seen}
use Rattle.js_tree.specs.Walk.{is_list}
use Rattle.steps.specs.Allowed.IdleParts.{stays_before, counting, all_count, more_before, itself_or_behind, as_value_of, sequence_becomes}
use Rattle.steps.specs.Allowed.IndirectChoice.{behind_zero}
use Rattle.steps.specs.Allowed.UnusedOperation.{acts}
use Rattle.steps.specs.Allowed.UnusedList.{all_act}
use Rattle.steps.specs.Allowed.Uses.{stands_bare}
use Rattle.rules.specs.Expressions.Uses.{Spot}
use Rattle.rules.specs.Expressions.Lists.{new_note, list_note}
use Rattle.min_expressions.specs.Lists.{only}
use Rattle.min_expressions.specs.Sequences.{item_stays, some_stay, more_alone, leaving, last_stands, are_value, comes_behind, parts_go, only_goes, sequence_goes}
use Rattle.rules.proofs.Expressions.Sequences.{some_left, first_leaves, none_behind}
use Rattle.min_expressions.proofs.Leaving.{Adds, ids_add, evals_add, leaves_none, leaves_more, same_some}
use Rattle.min_expressions.proofs.Lists.{or_false, no_node, no_list, no_tree, unless_same, HasList, sequence_list, parts_edits, Counts, made_counts}

-- ---- parts in front of another

pub stays_alone : (x : Option Tree) → item_stays x ≡ some_stay (row (x ∷ []))
stays_alone None = refl
stays_alone (Some t) = sym (or_false (stays_before t.kind t.note t.below))

pub stay_each : AsksEach some_stay
stay_each None ts = refl
stay_each (Some t) ts = ap (λ (b : Bool). b || some_stay (row ts)) (sym (or_false (stays_before t.kind t.note t.below)))

-- of parts of which nobody takes the value the same stay
all_act_first : (k : Kind) (n : Note) (b rest : Forest) → all_act (node k n b rest) ≡ stays_before k n b && all_act rest
all_act_first statements n b rest = refl
all_act_first cases n b rest = refl
all_act_first declarators n b rest = refl
all_act_first parameters n b rest = refl
all_act_first members n b rest = refl
all_act_first elements n b rest = refl
all_act_first properties n b rest = refl
all_act_first expressions n b rest = refl
all_act_first arguments n b rest = refl
all_act_first quasis n b rest = refl
all_act_first specifiers n b rest = refl
all_act_first k n b rest = refl

-- ---- the first of parts that others follow

first_counts : (t : Tree) (ts : List (Option Tree)) (x : Option Tree) → counting (row (Some t ∷ (ts ++ x ∷ []))) ≡ (if stays_before t.kind t.note t.below then node t.kind t.note t.below (counting (row (ts ++ x ∷ []))) else counting (row (ts ++ x ∷ [])))
first_counts t [] None = refl
first_counts t [] (Some x) = refl
first_counts t (None ∷ ts) x = refl
first_counts t (Some y ∷ ts) x = refl

first_stays : (t : Tree) (ts : List (Option Tree)) (x : Option Tree) → all_count (row (Some t ∷ (ts ++ x ∷ []))) ≡ stays_before t.kind t.note t.below && all_count (row (ts ++ x ∷ []))
first_stays t [] None = refl
first_stays t [] (Some x) = refl
first_stays t (None ∷ ts) x = refl
first_stays t (Some y ∷ ts) x = refl

all_stay : (ts : List (Option Tree)) (x : Option Tree) → all_act (row ts) ≡ all_count (row (ts ++ x ∷ []))
all_stay [] None = refl
all_stay [] (Some x) = refl
all_stay (None ∷ ts) x = all_stay ts x
all_stay (Some t ∷ ts) x = all_act_first t.kind t.note t.below (row ts) ∙ ap (λ (b : Bool). stays_before t.kind t.note t.below && b) (all_stay ts x) ∙ sym (first_stays t ts x)

-- two parts are one expression
two_are_value : (s : Spot) (more : Bool) (t : Tree) (ts : List (Option Tree)) (x : Option Tree) → are_value s more (node t.kind t.note t.below (counting (row (ts ++ x ∷ [])))) ≡ true
two_are_value s more t [] None = refl
two_are_value s more t [] (Some x) = refl
two_are_value s more t (None ∷ ts) x = refl
two_are_value s more t (Some y ∷ ts) x = ap (λ p. are_value s more (node t.kind t.note t.below p)) (first_counts y ts x) ∙ if_stays (stays_before y.kind y.note y.below) (two_are_value s more t ts x)
  where
    if_stays : (b : Bool) → are_value s more (node t.kind t.note t.below (counting (row (ts ++ x ∷ [])))) ≡ true
        → are_value s more (node t.kind t.note t.below (if b then node y.kind y.note y.below (counting (row (ts ++ x ∷ []))) else counting (row (ts ++ x ∷ [])))) ≡ true
    if_stays true e = refl
    if_stays false e = e

value_by_last : (s : Spot) (more : Bool) (ts : List (Option Tree)) (x : Option Tree) → some_stay (row ts) || (last_stands s x || more) ≡ are_value s more (counting (row (ts ++ x ∷ [])))
value_by_last s more [] None = refl
value_by_last s more [] (Some x) = refl
value_by_last s more (None ∷ ts) x = refl
value_by_last s more (Some t ∷ ts) x = if_stays (stays_before t.kind t.note t.below) (value_by_last s more ts x) ∙ ap (are_value s more) (sym (first_counts t ts x))
  where
    if_stays : (b : Bool) → some_stay (row ts) || (last_stands s x || more) ≡ are_value s more (counting (row (ts ++ x ∷ [])))
        → (b || some_stay (row ts)) || (last_stands s x || more) ≡ are_value s more (if b then node t.kind t.note t.below (counting (row (ts ++ x ∷ []))) else counting (row (ts ++ x ∷ [])))
    if_stays true e = sym (two_are_value s more t ts x)
    if_stays false e = e

or_more : (p q m : Bool) → (p || (q || false)) || m ≡ p || (q || m)
or_more true q m = refl
or_more false true m = refl
or_more false false m = refl

not_not : (b : Bool) → not (not b) ≡ b
not_not true = refl
not_not false = refl

-- what is before the last is more than a zero
more_same : (ts : List (Option Tree)) (y : Tree) → more_alone (row ts) ≡ more_before (row (ts ++ Some y ∷ []))
more_same [] y = refl
more_same (None ∷ ts) y = refl
more_same (Some t ∷ []) y = refl
more_same (Some t ∷ (None ∷ ts)) y = refl
more_same (Some t ∷ (Some u ∷ [])) y = refl
more_same (Some t ∷ (Some u ∷ (None ∷ ts))) y = refl
more_same (Some t ∷ (Some u ∷ (Some v ∷ ts))) y = refl

value_alone : (s : Spot) (ts : List (Option Tree)) (x : Option Tree) → are_value s (more_alone (row ts)) (counting (row (ts ++ x ∷ []))) ≡ are_value s (more_before (row (ts ++ x ∷ []))) (counting (row (ts ++ x ∷ [])))
value_alone s ts None = sym (value_by_last s (more_alone (row ts)) ts None) ∙ value_by_last s (more_before (row (ts ++ None ∷ []))) ts None
value_alone s ts (Some y) = ap (λ m. are_value s m (counting (row (ts ++ Some y ∷ [])))) (more_same ts y)

behind_or_more : (s : Spot) (ts : List (Option Tree)) (x : Option Tree) → not (comes_behind s (row (ts ++ x ∷ []))) || more_alone (row ts) ≡ are_value s (more_before (row (ts ++ x ∷ []))) (counting (row (ts ++ x ∷ [])))
behind_or_more s ts x =
    let left = counting (row (ts ++ x ∷ [])) in
    let more = more_alone (row ts) in
    ap (λ b. b || more) (not_not (are_value s false left) ∙ sym (value_by_last s false ts x)) ∙ or_more (some_stay (row ts)) (last_stands s x) more ∙ value_by_last s more ts x ∙ value_alone s ts x

pub comes_by_last : (s : Spot) (ts us : List (Option Tree)) (x : Option Tree) → us ≡ ts ++ x ∷ [] → not (some_stay (row ts) || last_stands s x) ≡ comes_behind s (row us)
comes_by_last s ts us x e = ap (λ (b : Bool). not (some_stay (row ts) || b)) (sym (or_false (last_stands s x))) ∙ ap not (value_by_last s false ts x) ∙ ap (λ vs. comes_behind s (row vs)) (sym e)

pub goes_by_last : (s : Spot) (ts us : List (Option Tree)) (x : Option Tree) → us ≡ ts ++ x ∷ [] → not (all_act (row ts)) && (not (comes_behind s (row us)) || more_alone (row ts)) ≡ parts_go s (row us)
goes_by_last s ts us x e =
    ap (λ vs. not (all_act (row ts)) && (not (comes_behind s (row vs)) || more_alone (row ts))) e
    ∙ ap₂ (λ (a b : Bool). not a && b) (all_stay ts x) (behind_or_more s ts x) ∙ ap (λ vs. parts_go s (row vs)) (sym e)

-- ---- what stays in the vector

pub end_is : (ts : List (Option Tree)) (i : ℕ) (x d : Option Tree) → i + 1 ≡ length ts → x ≡ get_or ts i d → ts ≡ take i ts ++ x ∷ []
end_is ts i x d e is = sym (take_all (i + 1) ts (Prim.omega (arith, e))) ∙ take_more ts i d (Prim.omega (arith, e)) ∙ ap (λ y. take i ts ++ y ∷ []) (sym is)

none_last : (ts : List (Option Tree)) → filter item_stays (ts ++ None ∷ []) ≡ filter item_stays ts ++ None ∷ []
none_last [] = refl
none_last (None ∷ ts) = ap (λ us. None ∷ us) (none_last ts)
none_last (Some t ∷ ts) = if_stays (item_stays (Some t)) (none_last ts)
  where
    if_stays : (b : Bool) → filter item_stays (ts ++ None ∷ []) ≡ filter item_stays ts ++ None ∷ [] → cond b (Some t ∷ filter item_stays (ts ++ None ∷ [])) (filter item_stays (ts ++ None ∷ [])) ≡ cond b (Some t ∷ filter item_stays ts) (filter item_stays ts) ++ None ∷ []
    if_stays true e = ap (λ us. Some t ∷ us) e
    if_stays false e = e

counting_kept : (ts : List (Option Tree)) (x : Option Tree) → row (filter item_stays ts ++ x ∷ []) ≡ counting (row (ts ++ x ∷ []))
counting_kept [] None = refl
counting_kept [] (Some x) = refl
counting_kept (None ∷ ts) x = ap absent (counting_kept ts x)
counting_kept (Some t ∷ ts) x = if_stays (item_stays (Some t)) (counting_kept ts x) ∙ sym (first_counts t ts x)
  where
    if_stays : (b : Bool) → row (filter item_stays ts ++ x ∷ []) ≡ counting (row (ts ++ x ∷ []))
        → row (cond b (Some t ∷ filter item_stays ts) (filter item_stays ts) ++ x ∷ []) ≡ (if b then node t.kind t.note t.below (counting (row (ts ++ x ∷ []))) else counting (row (ts ++ x ∷ [])))
    if_stays true e = ap (node t.kind t.note t.below) e
    if_stays false e = e

all_but_last : (ts : List (Option Tree)) (x : Option Tree) (n : ℕ) → n + 1 ≡ length (ts ++ x ∷ []) → take n (ts ++ x ∷ []) ≡ ts
all_but_last ts x n e = take-append-le n ts (x ∷ []) (Prim.omega (arith, e, length-append ts (x ∷ []))) ∙ take_all n ts (Prim.omega (arith, e, length-append ts (x ∷ [])))

module _ (front us vs : List (Option Tree)) (emptied : us ≡ front ++ None ∷ []) (kept : vs ≡ filter item_stays us) where
  kept_is : vs ≡ filter item_stays front ++ None ∷ []
  kept_is = kept ∙ ap (filter item_stays) emptied ∙ none_last front

  pub one_is_left : 0 < length vs
  one_is_left = Prim.omega (arith, ap length kept_is, length-append (filter item_stays front) (None ∷ []))

  pub put_back : (ts ws : List (Option Tree)) (x : Option Tree) → ts ≡ front ++ x ∷ [] → ws ≡ take (length vs - 1) vs ++ x ∷ [] → row ws ≡ counting (row ts)
  put_back ts ws x e put =
      let n = length vs - 1 in
      let same : take n vs ≡ filter item_stays front = ap (take n) kept_is ∙ all_but_last (filter item_stays front) None n (Prim.omega (arith, one_is_left, ap length kept_is)) in
      ap row (put ∙ ap (λ us. us ++ x ∷ []) same) ∙ counting_kept front x ∙ ap (λ us. counting (row us)) (sym e)

-- ---- what leaves

module _ (m : Forest → ℕ) (a : Adds m) where
  each_leaves : (t : Option Tree) (ts : List (Option Tree)) → m (leaving (row (t ∷ ts))) ≡ m (leaving (row (t ∷ []))) + m (leaving (row ts))
  each_leaves None ts = Prim.omega (arith, a.none)
  each_leaves (Some t) ts = if_stays (stays_before t.kind t.note t.below)
    where
      if_stays : (b : Bool) → m (if b then leaving (row ts) else node t.kind t.note t.below (leaving (row ts))) ≡ m (if b then nothing else node t.kind t.note t.below nothing) + m (leaving (row ts))
      if_stays true = Prim.omega (arith, a.none)
      if_stays false = a.joins t.kind t.note t.below (leaving (row ts))

  leaves_pushed : (ts : List (Option Tree)) (x : Option Tree) → m (leaving (row (ts ++ x ∷ []))) ≡ m (leaving (row ts)) + m (leaving (row (x ∷ [])))
  leaves_pushed [] x = Prim.omega (arith, a.none)
  leaves_pushed (t ∷ ts) x = Prim.omega (arith, each_leaves t (ts ++ x ∷ []), leaves_pushed ts x, each_leaves t ts)

  leaving_more : (ts : List (Option Tree)) (i : ℕ) (x : Option Tree) → i < length ts → x ≡ get_or ts i x → m (leaving (row (take (i + 1) ts))) ≡ m (leaving (row (take i ts))) + m (leaving (row (x ∷ [])))
  leaving_more ts i x h is = rw (take_more ts i x h, ← is) (leaves_pushed (take i ts) x)

  leaves_front : (ts : List (Option Tree)) (x : Option Tree) → m (row (ts ++ x ∷ [])) ≡ m (leaving (row ts)) + m (counting (row (ts ++ x ∷ [])))
  leaves_front [] None = Prim.omega (arith, a.none)
  leaves_front [] (Some x) = Prim.omega (arith, a.none)
  leaves_front (None ∷ ts) x = Prim.omega (arith, a.gap (row (ts ++ x ∷ [])), a.gap (counting (row (ts ++ x ∷ []))), leaves_front ts x)
  leaves_front (Some t ∷ ts) x = Prim.omega (arith, if_stays (stays_before t.kind t.note t.below) (leaves_front ts x), ap m (first_counts t ts x))
    where
      if_stays : (b : Bool) → m (row (ts ++ x ∷ [])) ≡ m (leaving (row ts)) + m (counting (row (ts ++ x ∷ [])))
          → m (node t.kind t.note t.below (row (ts ++ x ∷ []))) ≡ m (if b then leaving (row ts) else node t.kind t.note t.below (leaving (row ts))) + m (if b then node t.kind t.note t.below (counting (row (ts ++ x ∷ []))) else counting (row (ts ++ x ∷ [])))
      if_stays true e = Prim.omega (arith, e, a.joins t.kind t.note t.below (row (ts ++ x ∷ [])), a.joins t.kind t.note t.below (counting (row (ts ++ x ∷ []))))
      if_stays false e = Prim.omega (arith, e, a.joins t.kind t.note t.below (row (ts ++ x ∷ [])), a.joins t.kind t.note t.below (leaving (row ts)))

  -- what stays is part of the whole
  fewer_count : (parts : Forest) → m (counting parts) ≤ m parts
  fewer_count nothing = Prim.omega arith
  fewer_count (absent rest) = Prim.omega (arith, a.gap rest, a.gap (counting rest), fewer_count rest)
  fewer_count (node k n b nothing) = Prim.omega arith
  fewer_count (node k n b (absent rest)) = if_stays (stays_before k n b) (fewer_count (absent rest))
    where
      if_stays : (c : Bool) → m (counting (absent rest)) ≤ m (absent rest) → m (if c then node k n b (counting (absent rest)) else counting (absent rest)) ≤ m (node k n b (absent rest))
      if_stays true e = Prim.omega (arith, e, a.joins k n b (absent rest), a.joins k n b (counting (absent rest)))
      if_stays false e = Prim.omega (arith, e, a.joins k n b (absent rest))
  fewer_count (node k n b (node l i c rest)) = if_stays (stays_before k n b) (fewer_count (node l i c rest))
    where
      if_stays : (d : Bool) → m (counting (node l i c rest)) ≤ m (node l i c rest) → m (if d then node k n b (counting (node l i c rest)) else counting (node l i c rest)) ≤ m (node k n b (node l i c rest))
      if_stays true e = Prim.omega (arith, e, a.joins k n b (node l i c rest), a.joins k n b (counting (node l i c rest)))
      if_stays false e = Prim.omega (arith, e, a.joins k n b (node l i c rest))

abbrev pub FrontLeaves : Seen → Forest → Seen → Type 0
FrontLeaves c t d = Leaves c (λ r. ids r (leaving t)) (evals (leaving t)) d

abbrev pub PartsLeave : Seen → Forest → Seen → Type 0
PartsLeave c t d = Leaves c (λ r. ids r t - ids r (counting t)) (evals t - evals (counting t)) d

pub next_front : {c d e : Seen} (ts : List (Option Tree)) (i : ℕ) (x : Option Tree) → i < length ts → x ≡ get_or ts i x → FrontLeaves c (row (take i ts)) d → FrontLeaves d (row (x ∷ [])) e → FrontLeaves c (row (take (i + 1) ts)) e
next_front ts i x h is so_far here = leaves_more so_far here (λ r. leaving_more (ids r) (ids_add r) ts i x h is) (leaving_more evals evals_add ts i x h is)

pub front_leaves : {c d : Seen} (ts : List (Option Tree)) (i : ℕ) → length ts ≤ i → FrontLeaves c (row (take i ts)) d → FrontLeaves c (row ts) d
front_leaves {c = c} {d = d} ts i h l = subst (λ us. FrontLeaves c (row us) d) (take_all i ts h) l

pub parts_leave : {c d : Seen} (ts us : List (Option Tree)) (x : Option Tree) → us ≡ ts ++ x ∷ [] → FrontLeaves c (row ts) d → PartsLeave c (row us) d
parts_leave {c = c} {d = d} ts us x e l = subst (λ vs. PartsLeave c (row vs) d) (sym e)
    (leaves_more (leaves_none c) l (λ r. Prim.omega (arith, leaves_front (ids r) (ids_add r) ts x)) (Prim.omega (arith, leaves_front evals evals_add ts x)))

-- ---- one part alone, or several

itself : (b more : Bool) (n : Note) (x : Tree) → (b || false) ≡ true → itself_or_behind b more n x ≡ Some x
itself true more n x e = refl
itself false more n x e = absurd (true≢false (sym e))

pub value_is : (s : Spot) (more : Bool) (n m : Note) (parts : Forest) (x : Tree) → are_value s false parts ≡ true → only parts ≡ Some x → as_value_of s.used_as s.in_with more n m parts ≡ Some x
value_is s more n m nothing x e f = no_node f
value_is s more n m (absent rest) x e f = no_node f
value_is s more n m (node k i a nothing) x e f = itself (stands_bare s.used_as s.in_with k a) more n (record { kind = k; note = i; below = a }) e ∙ f
value_is s more n m (node k i a (absent rest)) x e f = no_node f
value_is s more n m (node k i a (node l j b rest)) x e f = no_node f

both : (a b : Bool) → not a && b ≡ true → (a ≡ false) × (b ≡ true)
both true b e = absurd (true≢false (sym e))
both false b e = (refl, e)

pub some_parts : (s : Spot) (ts : List (Option Tree)) → parts_go s (row ts) ≡ true → 0 < length ts
some_parts s [] e = absurd (true≢false (sym e))
some_parts s (t ∷ ts) e = Prim.omega arith

pub several_parts : (s : Spot) (ts : List (Option Tree)) → parts_go s (row ts) ≡ true → 2 ≤ length ts
several_parts s [] e = absurd (true≢false (sym e))
several_parts s (None ∷ []) e = absurd (true≢false (sym e))
several_parts s (Some t ∷ []) e = absurd (true≢false (sym e))
several_parts s (t ∷ (u ∷ ts)) e = Prim.omega arith

pub stands_itself : (s : Spot) (parts : Forest) → comes_behind s parts ≡ false → are_value s false (counting parts) ≡ true
stands_itself s parts e = sym (not_not (are_value s false (counting parts))) ∙ ap not e

-- ---- the last one, alone

abbrev first_tree : Forest → Option Tree
first_tree (node k n a rest) = Some (record { kind = k; note = n; below = a })
first_tree t = None

alone_is_last : (t : Option Tree) (ts : List (Option Tree)) (k : Kind) (i : Note) (a : Forest) → counting (row (t ∷ ts)) ≡ node k i a nothing → get_or (t ∷ ts) (length ts) None ≡ Some (record { kind = k; note = i; below = a })
alone_is_last None ts k i a e = absurd Prim.cc
alone_is_last (Some t) [] k i a e = ap first_tree e
alone_is_last (Some t) (None ∷ ts) k i a e = absurd (none_behind k i a t.kind t.note t.below (row ts) e)
alone_is_last (Some t) (Some u ∷ ts) k i a e =
    let rest = row (Some u ∷ ts) in
    first_leaves k i a t.kind t.note t.below (counting rest) (some_left u.kind u.note u.below (row ts)) (acts t.kind t.note t.below) (is_list t.kind) refl refl e (λ idle no_list is. alone_is_last (Some u) ts k i a is)

pub record IsBehind (s : Spot) (n : Note) (ts : List (Option Tree)) (parts : Forest) (more : Bool) : Type 0 where
  pub part : Tree
  pub last : get_or ts (length ts - 1) None ≡ Some part
  pub put : (m : Note) → as_value_of s.used_as s.in_with more n m parts ≡ Some (behind_zero n n n part)

behind_by : (b more : Bool) (n : Note) (x : Tree) → not (b || false) ≡ true → b || more ≡ true → itself_or_behind b more n x ≡ Some (behind_zero n n n x)
behind_by true more n x e f = absurd (true≢false (sym e))
behind_by false true n x e f = refl
behind_by false false n x e f = absurd (true≢false (sym f))

last_alone : (s : Spot) (n : Note) (ts : List (Option Tree)) (more : Bool) (parts : Forest) → counting (row ts) ≡ parts → not (are_value s false parts) ≡ true → are_value s more parts ≡ true → IsBehind s n ts parts more
last_alone s n [] more parts is behind value = absurd (true≢false (sym value ∙ ap (are_value s more) (sym is)))
last_alone s n (t ∷ ts) more nothing is behind value = absurd (true≢false (sym value))
last_alone s n (t ∷ ts) more (absent rest) is behind value = absurd (true≢false (sym behind))
last_alone s n (t ∷ ts) more (node k i a nothing) is behind value = record {
  part = record { kind = k; note = i; below = a };
  last = ap (λ j. get_or (t ∷ ts) j None) (Prim.omega arith) ∙ alone_is_last t ts k i a is;
  put = λ m. behind_by (stands_bare s.used_as s.in_with k a) more n (record { kind = k; note = i; below = a }) behind value;
}
last_alone s n (t ∷ ts) more (node k i a (absent rest)) is behind value = absurd (true≢false (sym behind))
last_alone s n (t ∷ ts) more (node k i a (node l j b rest)) is behind value = absurd (true≢false (sym behind))

pub stands_behind : (s : Spot) (n : Note) (ts : List (Option Tree)) → parts_go s (row ts) ≡ true → comes_behind s (row ts) ≡ true → IsBehind s n ts (counting (row ts)) (more_before (row ts))
stands_behind s n ts goes behind = last_alone s n ts (more_before (row ts)) (counting (row ts)) refl behind (both (all_count (row ts)) (are_value s (more_before (row ts)) (counting (row ts))) goes).1

-- ---- it has what its parts have

itself_counts : (b more : Bool) (n : Note) (k : Kind) (i : Note) (a : Forest) (y : Tree) → itself_or_behind b more n (record { kind = k; note = i; below = a }) ≡ Some y → Counts y (node k i a nothing)
itself_counts true more n k i a y e = subst (λ z. Counts z (node k i a nothing)) (same_some e) (record { same_ids = λ r. refl; same_evals = refl })
itself_counts false true n k i a y e = subst (λ z. Counts z (node k i a nothing)) (same_some e) (record { same_ids = λ r. Prim.omega arith; same_evals = Prim.omega arith })
itself_counts false false n k i a y e = no_node e

value_counts : (s : Spot) (more : Bool) (n m : Note) (parts : Forest) (y : Tree) → as_value_of s.used_as s.in_with more n m parts ≡ Some y → Counts y parts
value_counts s more n m nothing y e = no_node e
value_counts s more n m (absent rest) y e = made_counts n m (absent rest) y e
value_counts s more n m (node k i a nothing) y e = itself_counts (stands_bare s.used_as s.in_with k a) more n k i a y e
value_counts s more n m (node k i a (absent rest)) y e = made_counts n m (node k i a (absent rest)) y e
value_counts s more n m (node k i a (node l j b rest)) y e = made_counts n m (node k i a (node l j b rest)) y e

-- ---- the list of a sequence

pub record IsSequence (s : Spot) (k : Kind) (t : Forest) : Type 0 where
  pub has : HasList k t
  pub becomes : (n m : Note) → sequence_becomes s.used_as s.in_with n m k t ≡ as_value_of s.used_as s.in_with (more_before has.list.below) n m (counting has.list.below)
  pub goes : parts_go s has.list.below ≡ true

in_sequence : (s : Spot) (t : Forest) → only_goes s (only t) ≡ true → IsSequence s sequence_expression t
in_sequence s nothing e = no_list e
in_sequence s (absent rest) e = no_list e
in_sequence s (node expressions i parts nothing) e = record {
  has = sequence_list i parts;
  becomes = λ n m. ap (λ (b : Bool). if b then None else as_value_of s.used_as s.in_with (more_before parts) n m (counting parts)) (both (all_count parts) (are_value s (more_before parts) (counting parts)) e).0;
  goes = e;
}
in_sequence s (node k i parts nothing) e = no_list e
in_sequence s (node k i parts (absent rest)) e = no_list e
in_sequence s (node k i parts (node l j b rest)) e = no_list e

pub is_sequence : (s : Spot) (k : Kind) (t : Forest) → sequence_goes s k t ≡ true → IsSequence s k t
is_sequence s sequence_expression t e = in_sequence s t e
is_sequence s k t e = no_list e

pub sequence_edits : {c d e : Seen} {v y z l : Tree} (s : Spot) (x : Tree) (n m : Note) (w : HasList x.kind x.below) → l ≡ w.list → as_value_of s.used_as s.in_with (more_before l.below) n m (counting l.below) ≡ Some z → y ≡ z
    → v.kind ≡ x.kind → v.note ≡ x.note → v.below ≡ nothing → PartsLeave c l.below d → DropsNode d v e → Edited c x y true e
sequence_edits {z = z} {l = l} s x n m w is left put kind note empty others itself =
    let h = value_counts s (more_before l.below) n m (counting l.below) z left in
    parts_edits x w is
    (λ r. Prim.omega (arith, fewer_count (ids r) (ids_add r) l.below, h.same_ids r, ap (λ u. ids r (forest_of u)) put))
    (Prim.omega (arith, fewer_count evals evals_add l.below, h.same_evals, ap (λ u. evals (forest_of u)) put))
    kind note empty others itself

pub sequence_kept : {y z l : Tree} (s : Spot) (x : Tree) (w : IsSequence s x.kind x.below) → l ≡ w.has.list → as_value_of s.used_as s.in_with (more_before l.below) (new_note x.note) (new_note l.note) (counting l.below) ≡ Some z → y ≡ z
    → sequence_becomes s.used_as s.in_with (new_note x.note) (new_note (list_note x.below)) x.kind x.below ≡ Some y
sequence_kept {l = l} s x w is left put =
    w.becomes (new_note x.note) (new_note (list_note x.below)) ∙ ap (λ u. as_value_of s.used_as s.in_with (more_before w.has.list.below) (new_note x.note) (new_note (list_note u)) (counting w.has.list.below)) w.has.below
    ∙ ap {A = Tree} (λ u. as_value_of s.used_as s.in_with (more_before u.below) (new_note x.note) (new_note u.note) (counting u.below)) (sym is) ∙ left ∙ ap Some (sym put)

-- ---- as the rule says it

itself_same : (b more : Bool) (n : Note) (x : Tree) → is_some (itself_or_behind b more n x) ≡ b || more
itself_same true more n x = refl
itself_same false true n x = refl
itself_same false false n x = refl

value_same : (s : Spot) (more : Bool) (n m : Note) (parts : Forest) → is_some (as_value_of s.used_as s.in_with more n m parts) ≡ are_value s more parts
value_same s more n m nothing = refl
value_same s more n m (absent rest) = refl
value_same s more n m (node k i a nothing) = itself_same (stands_bare s.used_as s.in_with k a) more n (record { kind = k; note = i; below = a })
value_same s more n m (node k i a (absent rest)) = refl
value_same s more n m (node k i a (node l j b rest)) = refl

in_list : (s : Spot) (n m : Note) (t : Forest) → is_some (sequence_becomes s.used_as s.in_with n m sequence_expression t) ≡ only_goes s (only t)
in_list s n m nothing = refl
in_list s n m (absent rest) = refl
in_list s n m (node expressions i parts nothing) = unless_same (all_count parts) (as_value_of s.used_as s.in_with (more_before parts) n m (counting parts)) (are_value s (more_before parts) (counting parts)) (value_same s (more_before parts) n m (counting parts))
in_list s n m (node expressions i parts (absent rest)) = refl
in_list s n m (node expressions i parts (node l j b rest)) = refl
in_list s n m (node k i parts nothing) = refl
in_list s n m (node k i parts (absent rest)) = refl
in_list s n m (node k i parts (node l j b rest)) = refl

as_ruled : (s : Spot) (n m : Note) (k : Kind) (t : Forest) → is_some (sequence_becomes s.used_as s.in_with n m k t) ≡ sequence_goes s k t
as_ruled s n m sequence_expression t = in_list s n m t
as_ruled s n m k t = refl

pub sequence_stays : (s : Spot) (n m : Note) (k : Kind) (t : Forest) → sequence_goes s k t ≡ false → sequence_becomes s.used_as s.in_with n m k t ≡ None
sequence_stays s n m k t e = no_tree (sequence_becomes s.used_as s.in_with n m k t) (as_ruled s n m k t ∙ e)
