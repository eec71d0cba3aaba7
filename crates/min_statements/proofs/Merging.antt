-- What the hook of programs does: imports of one module come together.
use Rattle.std.proofs.Common.{◌≡◌, ◌∙◌, length, List, [], ◌∷◌, Bool, true, false, true≢false, not, ◌&&◌, if◌then◌else◌, Option, Some, None, is_some, Result, Ok, Err, IfOk, OnErr, refl, sym, ap, subst, get_or, set, arith}
use Rattle.js_syntax.specs.declared.node_kind.NodeKind.{NodeKind as Kind}
use Rattle.js_syntax.specs.declared.node_kind.NodeKind.TheVariants.{Program as program, Statements as statements}
use Rattle.js_syntax.specs.declared.scalar.SourceType.TheVariants as source_type
use Rattle.js_syntax.specs.Node.{Forest, Tree, Note, nothing, node, forest_of, row}
use Rattle.scope_counts.specs.Edits.{plug}
use Rattle.scope_laws.specs.Place.{Around}
use Rattle.scope_rules.specs.ScopeFlags as scope_flag
use Rattle.symbol_sets.specs.Numbers.{has}
use Rattle.steps.specs.Allowed.Uses.{use_at, stands_bare}
use Rattle.steps.specs.Marked.Flags.{scope_has}
use Rattle.min_context.specs.Edited.{Edited}
use Rattle.min_context.specs.Place.{Place}
use Rattle.min_context.specs.Seen.{Seen, still}
use Rattle.min_traverse.specs.Lawful.{Stays, Does, or_same}
use Rattle.min_traverse.specs.Moves.{Holds, NodeMoves, before}
use Rattle.min_traverse.proofs.Joining.{does_some, does_none}
use Rattle.rules.specs.DeadCode.Rules.{Facts}
use Rattle.rules.specs.Imports.Merged.{one_goes, together, list_together, with_below, is_outermost, come_together}
use Rattle.rules.proofs.Imports.Together.{none_come, rule_edits, rule_lighter, rule_refers, rule_calls}
use Rattle.min_statements.specs.Acts.{merge}
use Rattle.min_statements.specs.Merged.{is_module, is_statements, or_as_it_was, ListComes}
use Rattle.min_statements.specs.Own.{AnyEdit, Own, Found}
use Rattle.min_statements.specs.Walker.{Names, facts_of}
use Rattle.min_statements.proofs.Acting.{known, moves, stayed}
use Rattle.min_statements.proofs.Calls.{is_no_name, CallsStay}
use Rattle.min_statements.proofs.Expressions.{rule_visits}
use Rattle.min_statements.proofs.Shed.{leaves_none, edited}

-- ---- a list

if_some : (b : Bool) (t : Forest) → b ≡ is_some (if b then Some t else None)
if_some true t = refl
if_some false t = refl

left_if : (b : Bool) (t u : Forest) → (b ≡ false → u ≡ t) → u ≡ or_as_it_was t (if b then Some u else None)
left_if true t u h = refl
left_if false t u h = h refl

list_comes : (m : Note) (t : Forest) (x y : Tree) (b : Bool) → x ≡ record { kind = statements; note = m; below = t } → b ≡ one_goes nothing t → y ≡ record x { below = together nothing t } → ListComes (forest_of x) b (forest_of y)
list_comes m t x y b old said new =
    subst (λ (z : Tree). ListComes (forest_of z) b (forest_of y)) (sym old)
    (subst (λ (z : Tree). ListComes (node statements m t nothing) b (forest_of z)) (sym (new ∙ ap {A = Tree} {B = Tree} (λ z. record z { below = together nothing t }) old))
    (said ∙ if_some (one_goes nothing t) (node statements m (together nothing t) nothing), left_if (one_goes nothing t) (node statements m t nothing) (node statements m (together nothing t) nothing) (λ none. ap (λ u. node statements m u nothing) (none_come nothing t none))))

pub a_list_comes : (x y : Tree) (b : Bool) → x.kind ≡ statements → b ≡ one_goes nothing x.below → y ≡ record x { below = together nothing x.below } → ListComes (forest_of x) b (forest_of y)
a_list_comes x y b list said new = list_comes x.note x.below x y b (ap {A = Kind} {B = Tree} (λ k. record { kind = k; note = x.note; below = x.below }) list) said new

pub statements_are : (k : Kind) → is_statements k ≡ true → k ≡ statements
statements_are Kind.Statements is = refl
statements_are k is = absurd (true≢false (sym is))

no_list : (k : Kind) (n : Note) (t r : Forest) → is_statements k ≡ false → list_together (node k n t r) ≡ None
no_list Kind.Statements n t r other = absurd (true≢false other)
no_list k n t r other = refl

comes_not : (t u : Forest) → list_together t ≡ None → u ≡ t → ListComes t false u
comes_not t u none same = (ap is_some (sym none), same ∙ ap (or_as_it_was t) (sym none))

-- ---- the children of a program

several : (k : Kind) (n : Note) (b : Forest) (y : Option Tree) (ts : List (Option Tree)) → list_together (node k n b (row (y ∷ ts))) ≡ None
several Kind.Statements n b None ts = refl
several Kind.Statements n b (Some y) ts = refl
several k n b None ts = refl
several k n b (Some y) ts = refl

not_one : (ts : List (Option Tree)) → (length ts ≡ 1 → ⊥) → list_together (row ts) ≡ None
not_one [] other = refl
not_one (None ∷ ts) other = refl
not_one (Some x ∷ []) other = absurd (other (Prim.omega arith))
not_one (Some x ∷ y ∷ ts) other = several x.kind x.note x.below y ts

pub no_only : (ts : List (Option Tree)) → (length ts ≡ 1 → ⊥) → ListComes (row ts) false (row ts)
no_only ts other = comes_not (row ts) (row ts) (not_one ts other) refl

pub only_comes : (ts : List (Option Tree)) (x y : Option Tree) (b : Bool) → length ts ≡ 1 → ListComes (row (get_or ts 0 x ∷ [])) b (row (y ∷ [])) → ListComes (row ts) b (row (set ts 0 y))
only_comes [] x y b one comes = absurd (Prim.omega (arith, one))
only_comes (z ∷ []) x y b one comes = comes
only_comes (z ∷ w ∷ ts) x y b one comes = absurd (Prim.omega (arith, one))

pub no_other_list : (x : Tree) → is_statements x.kind ≡ false → ListComes (forest_of x) false (forest_of x)
no_other_list x other = comes_not (forest_of x) (forest_of x) (no_list x.kind x.note x.below nothing other) refl

-- where nothing is done
pub child_same : (ts : List (Option Tree)) (x y : Option Tree) → y ≡ get_or ts 0 x → set ts 0 y ≡ ts
child_same [] x y same = refl
child_same (z ∷ ts) x y same = ap (λ (w : Option Tree). w ∷ ts) same

pub comes_there : {E : Type 0} (r : Result Bool E) (t u v w : Forest) → t ≡ u → v ≡ w → IfOk r (λ b. ListComes t b v) → IfOk r (λ b. ListComes u b w)
comes_there r t u v w is be comes = subst (λ z. IfOk r (λ b. ListComes u b z)) be (subst (λ z. IfOk r (λ b. ListComes z b v)) is comes)

pub refused_there : {A E : Type 0} (r : Result A E) {P : Type 0} → P → OnErr r P
refused_there (Ok a) h = tt
refused_there (Err e) h = h

pub refused_so : {A E : Type 0} (r : Result A E) {P Q : Type 0} → (P → Q) → OnErr r P → OnErr r Q
refused_so (Ok a) step h = tt
refused_so (Err e) step h = step h

-- ---- a program

either_way : (b : Bool) → (let none : Option Tree = None in if b then none else none) ≡ None
either_way true = refl
either_way false = refl

-- as code asks it
abbrev may : Facts → Place → Bool
may f p = is_outermost p.ancestors && not (scope_has f.scoping 0 scope_flag.direct_eval)

no_module : (f : Facts) (p : Place) (k : Kind) (n : Note) (b : Forest) → is_module k ≡ false → (let x : Tree = record { kind = k; note = n; below = b } in come_together f p x ≡ None)
no_module f p (Kind.Program source_type.Module) n b e = absurd (true≢false e)
no_module f p k n b e = either_way (may f p)

a_module : (f : Facts) (p : Place) (k : Kind) (n : Note) (b : Forest) → is_module k ≡ true → (let x : Tree = record { kind = k; note = n; below = b } in come_together f p x ≡ (if may f p then with_below x (list_together b) else None))
a_module f p (Kind.Program source_type.Module) n b e = refl
a_module f p k n b e = absurd (true≢false (sym e))

asked : (f : Facts) (p : Place) (x : Tree) (b : Bool) → is_module x.kind ≡ b → b && may f p ≡ false → come_together f p x ≡ None
asked f p x true is isnt = a_module f p x.kind x.note x.below is ∙ ap (λ c. if c then with_below x (list_together x.below) else None) isnt
asked f p x false is isnt = no_module f p x.kind x.note x.below is

pub merges_none : (names : Names) (c : Seen) (x : Tree) → false ≡ (is_module x.kind && may (facts_of names c) c.place) → Does (merge names) c x false c x
merges_none names c x isnt = does_none (merge names) c x (asked (facts_of names c) c.place x (is_module x.kind) refl (sym isnt))

and_first : (a b : Bool) → true ≡ a && b → a ≡ true
and_first true b e = refl
and_first false b e = absurd (true≢false e)

and_second : (a b : Bool) → true ≡ a && b → b ≡ true
and_second true b e = sym e
and_second false b e = absurd (true≢false e)

module _ (names : Names) (c : Seen) (x : Tree) (does : true ≡ (is_module x.kind && may (facts_of names c) c.place)) where
  found : come_together (facts_of names c) c.place x ≡ with_below x (list_together x.below)
  found =
      a_module (facts_of names c) c.place x.kind x.note x.below (and_first (is_module x.kind) (may (facts_of names c) c.place) does)
      ∙ ap (λ b. if b then with_below x (list_together x.below) else None) (and_second (is_module x.kind) (may (facts_of names c) c.place) does)

  same_tree : (y : Tree) (u : Forest) → y.kind ≡ x.kind → y.note ≡ x.note → y.below ≡ u → y ≡ record { kind = x.kind; note = x.note; below = u }
  same_tree y u k n b =
      ap {A = Kind} {B = Tree} (λ z. record { kind = z; note = y.note; below = y.below }) k ∙ ap {A = Note} {B = Tree} (λ z. record { kind = x.kind; note = z; below = y.below }) n
      ∙ ap {A = Forest} {B = Tree} (λ z. record { kind = x.kind; note = x.note; below = z }) b

  none_some : (o : Option Forest) → false ≡ is_some o → o ≡ None
  none_some None e = refl
  none_some (Some t) e = absurd (true≢false (sym e))

  pub merges_not : (y : Tree) → y.kind ≡ x.kind → y.note ≡ x.note → ListComes x.below false y.below → Does (merge names) c x false c y
  merges_not y k n comes =
      let none = none_some (list_together x.below) comes.0 in
      subst (λ z. Does (merge names) c x false c z) (sym (same_tree y x.below k n (comes.1 ∙ ap (or_as_it_was x.below) none))) (does_none (merge names) c x (found ∙ ap (with_below x) none))

  some_is : (o : Option Forest) → true ≡ is_some o → with_below x o ≡ Some (record { kind = x.kind; note = x.note; below = or_as_it_was x.below o })
  some_is None e = absurd (true≢false e)
  some_is (Some t) e = refl

  pub merges_so : (d : Seen) (y : Tree) → y.kind ≡ x.kind → y.note ≡ x.note → ListComes x.below true y.below → d ≡ record c { requested = true } → Does (merge names) c x true d y
  merges_so d y k n comes noticed =
      let f = facts_of names c in
      let there : come_together f c.place x ≡ Some y = found ∙ some_is (list_together x.below) comes.0 ∙ ap Some (sym (same_tree y (or_as_it_was x.below (list_together x.below)) k n comes.1)) in
      does_some (merge names) c x y there
      (subst (λ q. Edited c x y true q) (sym noticed)
      (edited x y refl (leaves_none (record c { requested = true })) (λ r. Prim.omega (arith, rule_refers f c.place x y there r)) (Prim.omega (arith, rule_calls f c.place x y there))))

-- ---- moves

record Kinds (k l : Kind) : Type 0 where
  no_name : is_no_name k ≡ true
  module_left : l ≡ program source_type.Module

kinds_so : (f : Facts) (p : Place) (k : Kind) (n : Note) (b : Forest) (y : Tree) → (let x : Tree = record { kind = k; note = n; below = b } in come_together f p x ≡ Some y) → Kinds k y.kind
kinds_so f p (Kind.Program source_type.Module) n b y e = by (may f p) (list_together b) e
  where
    by : (c : Bool) (o : Option Forest) → (let x : Tree = record { kind = program source_type.Module; note = n; below = b } in (if c then with_below x o else None) ≡ Some y) → Kinds (program source_type.Module) y.kind
    by true None h = absurd cc
    by true (Some t) h = let same : y ≡ record { kind = program source_type.Module; note = n; below = t } = cc (sym h) in record { no_name = refl; module_left = ap {A = Tree} (λ z. z.kind) same }
    by false o h = absurd cc
kinds_so f p k n b y e = none_is (sym (either_way (may f p)) ∙ e)
  where
    none_is : {P : Type 0} → (let none : Option Tree = None in none ≡ Some y) → P
    none_is h = absurd cc

merge_calls : (f : Facts) (p : Place) (a : Around) (x y : Tree) → come_together f p x ≡ Some y → CallsStay a x y
merge_calls f p a x y is =
    let o = kinds_so f p x.kind x.note x.below y is in
    record {
      fewer = Prim.omega (arith, rule_calls f p x y is);
      old = o.no_name;
      in_with = false;
      bare = subst (λ k. stands_bare (use_at a) false k y.below ≡ true) (sym o.module_left) refl;
    }

module _ (stays : Stays AnyEdit) (names : Names) where
  pub merge_moves : {c d : Seen} {x y : Tree} {answer : Bool} → Does (merge names) c x answer d y → NodeMoves Names AnyEdit (Holds Own) names c x names d y
  merge_moves {c = c} {d = d} {x = x} {y = y} does = go (merge names c x) refl
    where
      go : (o : Option Tree) → merge names c x ≡ o → NodeMoves Names AnyEdit (Holds Own) names c x names d y
      go None is =
          let e : Edited c x y false d = subst (λ o. Edited c x y (is_some o) d) is does.edited in
          stayed stays names (does.tree ∙ ap (or_same x) is) (e.none refl)
      go (Some z) is =
          let f = facts_of names c in
          let there : come_together f c.place x ≡ Some y = is ∙ ap Some (sym (does.tree ∙ ap (or_same x) is)) in
          let e : Edited c x y true d = subst (λ o. Edited c x y (is_some o) d) is does.edited in
          moves stays names (λ a r p h. rule_edits f (has c.marked) a x y r (known names (still c) (plug a (before x r)) h) (ap (λ q. come_together f q x) p ∙ there)) (λ i. Prim.omega (arith, rule_refers f c.place x y there i))
          (rule_lighter f c.place x y there) (λ a r p. merge_calls f c.place _ x y there) e

-- ---- visits

module _ (names : Names) {d : Seen} (quiet : d.requested ≡ false) where
  pub merge_visits : {c : Seen} {x y : Tree} {answer : Bool} → Does (merge names) c x answer d y → Found (is_some (come_together (facts_of names c) c.place x)) names c names d
  merge_visits does = rule_visits names quiet (merge names) does
