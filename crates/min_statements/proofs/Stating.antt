-- What the call does of a declaration that becomes a statement of its value, and that it may.
use Rattle.std.proofs.Common.{◌≡◌, ◌∙◌, ◌+◌, ℕ, List, Bool, true, false, if◌then◌else◌, Option, Some, None, is_some, refl, sym, ap, subst, arith}
use Rattle.js_syntax.specs.declared.node_kind.NodeKind.{NodeKind as Kind}
use Rattle.js_syntax.specs.declared.node_kind.NodeKind.TheVariants.{ExpressionStatement as expression_statement, VariableDeclaration as variable_declaration}
use Rattle.js_syntax.specs.declared.kind.VariableKind.{VariableKind}
use Rattle.js_syntax.specs.declared.scalar.Span.{Span}
use Rattle.js_syntax.specs.Node.{Forest, Tree, Note, nothing, alone, forest_of}
use Rattle.scope_counts.specs.Counts.{ids}
use Rattle.scope_counts.specs.Edits.{plug}
use Rattle.scope_laws.specs.Place.{Around}
use Rattle.symbol_sets.specs.Numbers.{has}
use Rattle.steps.specs.KeepForm.Part.{declares_one}
use Rattle.steps.specs.Allowed.EmptyIf.{statement_of}
use Rattle.steps.specs.Allowed.Uses.{use_at, stands_bare}
use Rattle.steps.specs.Allowed.ValueStays.{declaration_of_value}
use Rattle.min_context.specs.Edited.{evals, Edited, DropsNode, Leaves}
use Rattle.min_context.specs.Place.{Place}
use Rattle.min_context.specs.Seen.{Seen, still}
use Rattle.min_pass.specs.Pass.{unmarked}
use Rattle.min_traverse.specs.Lawful.{Stays, Does, or_same}
use Rattle.min_traverse.specs.Moves.{Holds, NodeMoves, before}
use Rattle.min_traverse.proofs.Joining.{does_some, does_none}
use Rattle.min_expressions.proofs.Leaving.{emptied}
use Rattle.rules.specs.DeadCode.Rules.{Facts, becomes_stated, value_below, stated}
use Rattle.rules.proofs.DeadCode.Stating.{States, states, value_stays_there, stated_is_lighter, stated_sheds}
use Rattle.min_statements.specs.Acts.{state}
use Rattle.min_statements.specs.Own.{AnyEdit, Own}
use Rattle.min_statements.specs.Walker.{Names, facts_of}
use Rattle.min_statements.proofs.Acting.{none_left, known, one, moves, stayed}
use Rattle.min_statements.proofs.Calls.{is_no_name, CallsStay}
use Rattle.min_statements.proofs.Shed.{edited}

abbrev statement_with : Note → (below : Forest) → Tree
statement_with n below = record { kind = expression_statement; note = n; below = below }

some_left : {b : Bool} (y : Tree) → b ≡ true → (if b then Some y else None) ≡ Some y
some_left y e = ap (λ b. if b then Some y else None) e

-- ---- the new statement

pub statement_is : (z : Tree) (n : Note) (s : Span) (b c : Forest) → z ≡ record { kind = expression_statement; note = record { span = s; id = None }; below = b } → s ≡ n.span → b ≡ c → z ≡ statement_with (unmarked n) c
statement_is z n s b c new span below =
    new ∙ ap {A = Span} {B = Tree} (λ q. record { kind = expression_statement; note = record { span = q; id = None }; below = b }) span ∙ ap {A = Forest} {B = Tree} (λ t. statement_with (unmarked n) t) below

-- ---- what leaves

ids_split : (how : VariableKind) (n m l j i o : Note) (x : List ℕ) (k : Kind) (b : Forest) (r : ℕ) → ids r (alone (variable_declaration how) n (declares_one m l j x (alone k i b))) ≡ ids r (alone (variable_declaration how) n nothing) + ids r (alone expression_statement o (alone k i b))
ids_split how n m l j i o x k b r = Prim.omega arith

evals_split : (how : VariableKind) (n m l j i o : Note) (x : List ℕ) (k : Kind) (b : Forest) → evals (alone (variable_declaration how) n (declares_one m l j x (alone k i b))) ≡ evals (alone (variable_declaration how) n nothing) + evals (alone expression_statement o (alone k i b))
evals_split how n m l j i o x k b = Prim.omega arith

left_edited : {f : Facts} {p : Place} {c d : Seen} (x y : Tree) → States f p x y → DropsNode c (record { kind = x.kind; note = x.note; below = nothing }) d → Edited c x y true d
left_edited {c = c} {d = d} x y o drops =
    let n = x.note in
    let old = declaration_of_value o.how n o.list_note o.declarator_note o.name_note o.value_note o.name o.kind o.below in
    let new = statement_of (unmarked n) o.value_note o.kind o.below in
    let hollow = alone (variable_declaration o.how) n nothing in
    let l = subst (λ (z : Tree). DropsNode c (record { kind = z.kind; note = z.note; below = nothing }) d) (sym o.old) drops in
    let left : Leaves (record c { requested = true }) (λ r. ids r hollow) (evals hollow) d = record { same = l.same; room = l.room; marks = l.marks; evals = l.evals } in
    subst (λ z. Edited c x z true d) o.new
    (subst (λ z. Edited c z new true d) o.old
    (edited old new refl left (ids_split o.how n o.list_note o.declarator_note o.name_note o.value_note (unmarked n) o.name o.kind o.below) (evals_split o.how n o.list_note o.declarator_note o.name_note o.value_note (unmarked n) o.name o.kind o.below)))

found_if : (f : Facts) (p : Place) (x y : Tree) → becomes_stated f p x.kind x.below ≡ true → y ≡ statement_with (unmarked x.note) (value_below x.below) → stated f p x ≡ Some y
found_if f p x y e put = some_left (statement_with (unmarked x.note) (value_below x.below)) e ∙ ap Some (sym put)

pub state_edited : {c d : Seen} {v : Tree} (f : Facts) (p : Place) (x y : Tree) → becomes_stated f p x.kind x.below ≡ true → y ≡ statement_with (unmarked x.note) (value_below x.below) → v.kind ≡ x.kind → v.note ≡ x.note → v.below ≡ nothing → DropsNode c v d → Edited c x y true d
state_edited {c = c} {d = d} {v = v} f p x y e put kind note below drops =
    left_edited x y (states f p x y (found_if f p x y e put)) (subst (λ u. DropsNode c u d) (emptied v x.kind x.note kind note below) drops)

-- ---- the call

pub states_so : (names : Names) (c d : Seen) (x y : Tree) → becomes_stated (facts_of names c) c.place x.kind x.below ≡ true → y ≡ statement_with (unmarked x.note) (value_below x.below) → Edited c x y true d → Does (state names) c x true d y
states_so names c d x y e put is = does_some (state names) c x y (found_if (facts_of names c) c.place x y e put) is

pub states_none : (names : Names) (c : Seen) (x : Tree) → becomes_stated (facts_of names c) c.place x.kind x.below ≡ false → Does (state names) c x false c x
states_none names c x e = does_none (state names) c x (none_left (statement_with (unmarked x.note) (value_below x.below)) e)

-- ---- moves

state_calls : (f : Facts) (p : Place) (a : Around) (x y : Tree) → stated f p x ≡ Some y → CallsStay a x y
state_calls f p a x y is =
    let o = states f p x y is in
    let n = x.note in
    let new = statement_of (unmarked n) o.value_note o.kind o.below in
    let fewer = evals_split o.how n o.list_note o.declarator_note o.name_note o.value_note (unmarked n) o.name o.kind o.below in
    record {
      fewer = Prim.omega (arith, fewer, ap {A = Tree} (λ t. evals (forest_of t)) o.old, ap {A = Tree} (λ t. evals (forest_of t)) o.new);
      old = ap {A = Tree} (λ t. is_no_name t.kind) (sym o.old);
      in_with = false;
      bare = ap {A = Tree} (λ t. stands_bare (use_at a) false t.kind t.below) (sym o.new);
    }

module _ (stays : Stays AnyEdit) (names : Names) where
  pub state_moves : {c d : Seen} {x y : Tree} {answer : Bool} → Does (state names) c x answer d y → NodeMoves Names AnyEdit (Holds Own) names c x names d y
  state_moves {c = c} {d = d} {x = x} {y = y} does = go (state names c x) refl
    where
      go : (o : Option Tree) → state names c x ≡ o → NodeMoves Names AnyEdit (Holds Own) names c x names d y
      go None is =
          let e : Edited c x y false d = subst (λ o. Edited c x y (is_some o) d) is does.edited in
          stayed stays names (does.tree ∙ ap (or_same x) is) (e.none refl)
      go (Some z) is =
          let f = facts_of names c in
          let found : stated f c.place x ≡ Some y = is ∙ ap Some (sym (does.tree ∙ ap (or_same x) is)) in
          let e : Edited c x y true d = subst (λ o. Edited c x y (is_some o) d) is does.edited in
          moves stays names (λ a r p h. one (value_stays_there f (has c.marked) a x y r (known names (still c) (plug a (before x r)) h) (ap (λ q. stated f q x) p ∙ found))) (stated_sheds f c.place x y found) (stated_is_lighter f c.place x y found)
          (λ a r p. state_calls f c.place _ x y found) e
