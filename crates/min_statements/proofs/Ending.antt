-- What the hook of statements does: a silent one, or one that does nothing as a branch or a body, becomes empty, or else a declaration of a
-- name that nothing uses a statement of its value, or else an `if` what is
-- known of it, or its test, or it loses an empty alternate or what never runs, or else names leave an import.
use Rattle.std.proofs.Common.{◌≡◌, ◌∙◌, Bool, true, false, ◌||◌, Option, Some, None, is_some, if◌then◌else◌, refl, sym, ap, subst, true≢false}
use Rattle.js_syntax.specs.Node.{Forest, Tree}
use Rattle.scope_counts.specs.Edits.{Around}
use Rattle.min_context.specs.Edited.{Edited}
use Rattle.min_context.specs.Seen.{Seen}
use Rattle.min_traverse.specs.Lawful.{Rule, Stays, Does, or_same, or_else}
use Rattle.min_traverse.specs.Moves.{Holds, IsHere, NodeMoves}
use Rattle.rules.specs.DeadCode.Before.{before}
use Rattle.rules.specs.DeadCode.Rules.{where_of, becomes_empty, becomes_stated}
use Rattle.rules.specs.Expressions.Ifs.{if_becomes}
use Rattle.rules.specs.Expressions.EmptyIfs.{test_left}
use Rattle.rules.specs.Expressions.EmptyAlternates.{is_last, alternate_left}
use Rattle.rules.specs.Expressions.Untaken.{if_left}
use Rattle.rules.specs.Expressions.LeftNames.{if_named, if_ends, at_if_end}
use Rattle.rules.specs.Imports.Rules.{pruned}
use Rattle.rules.proofs.Expressions.Folding.{ifs_end}
use Rattle.min_statements.specs.Acts.{empty, state, prune}
use Rattle.min_statements.specs.Own.{AnyEdit, Own, Found, statement_changes}
use Rattle.min_statements.specs.Walker.{Names, facts_of}
use Rattle.min_statements.proofs.Acting.{asked_true}
use Rattle.min_statements.proofs.Calls.{CallsStay}
use Rattle.min_statements.proofs.Expressions.{rule_moves, rule_visits}
use Rattle.min_statements.proofs.Alternates.{alternate_calls}
use Rattle.min_statements.proofs.Tests.{test_calls}
use Rattle.min_statements.proofs.Branches.{if_calls}
use Rattle.min_statements.proofs.Naming.{names_calls}
use Rattle.min_statements.proofs.Thinning.{left_calls}
use Rattle.min_statements.proofs.Pruning.{prune_moves}
use Rattle.min_statements.proofs.Stating.{state_moves}

-- a call that did nothing
pub record Stayed (c : Seen) (x : Tree) (d : Seen) (y : Tree) : Type 0 where
  pub tree : y ≡ x
  pub context : d ≡ c

none_is : (o : Option Tree) → false ≡ is_some o → o ≡ None
none_is None e = refl
none_is (Some y) e = absurd (true≢false (sym e))

pub nothing_done : {c d : Seen} {x y : Tree} (rule : Rule) → Does rule c x false d y → Stayed c x d y
nothing_done {c = c} {x = x} rule does = record { tree = does.tree ∙ ap (or_same x) (none_is (rule c x) (sym (sym does.answers))); context = does.edited.none (sym does.answers) }

-- the next call finds what it left as it was
pub after_nothing : {c k d : Seen} {x z y : Tree} {answer : Bool} (rule next : Rule) → Does rule c x false k z → Does next k z answer d y → Does next c x answer d y
after_nothing {c = c} {k = k} {d = d} {x = x} {z = z} {y = y} {answer = answer} rule next first second =
    let same = nothing_done rule first in
    let here : Does next c z answer d y = subst (λ q. Does next q z answer d y) same.context second in
    subst (λ q. Does next c q answer d y) same.tree here

-- and one that did something asked for another pass
pub done_asks : {P : Type 0} {c d : Seen} {x y : Tree} (rule : Rule) → Does rule c x true d y → d.requested ≡ false → P
done_asks {c = c} {d = d} {x = x} {y = y} rule does quiet =
    let e : Edited c x y true d = subst (λ b. Edited c x y b d) (sym does.answers) does.edited in
    asked_true c.requested (sym e.asked ∙ quiet)

-- no statement becomes empty then
none_emptied : (goes : Bool) (y : Tree) → false ≡ is_some (if goes then Some y else None) → goes ≡ false
none_emptied true y e = absurd (true≢false (sym e))
none_emptied false y e = refl

if_calls_stay : (c : Seen) (a : Around) (x y : Tree) (r : Forest) → IsHere c a r → at_if_end c x ≡ Some y → CallsStay (before a r) x y
if_calls_stay c a x y r here found = by one refl
  where
    one : Option Tree
    one = if_becomes x.note x.kind x.below

    two : Option Tree
    two = test_left x.note x.kind x.below

    three : Option Tree
    three = alternate_left (is_last c.place) x.note x.kind x.below

    four : Option Tree
    four = if_left x.note x.kind x.below

    five : Option Tree
    five = if_named x.note x.kind x.below

    by_branch : (o : Option Tree) → four ≡ o → or_else four five ≡ Some y → CallsStay (before a r) x y
    by_branch (Some z) is e = left_calls (before a r) x y (is ∙ sym (ap (λ o. or_else o five) is) ∙ e)
    by_branch None is e = names_calls (before a r) x y (sym (ap (λ o. or_else o five) is) ∙ e)

    by_alternate : (o : Option Tree) → three ≡ o → or_else (or_else three four) five ≡ Some y → CallsStay (before a r) x y
    by_alternate (Some z) is e = alternate_calls (before a r) (is_last c.place) x y (is ∙ sym (ap (λ o. or_else (or_else o four) five) is) ∙ e)
    by_alternate None is e = by_branch four refl (sym (ap (λ o. or_else (or_else o four) five) is) ∙ e)

    by_test : (o : Option Tree) → two ≡ o → or_else (or_else (or_else two three) four) five ≡ Some y → CallsStay (before a r) x y
    by_test (Some z) is e = test_calls (before a r) x y (is ∙ sym (ap (λ o. or_else (or_else (or_else o three) four) five) is) ∙ e)
    by_test None is e = by_alternate three refl (sym (ap (λ o. or_else (or_else (or_else o three) four) five) is) ∙ e)

    by : (o : Option Tree) → one ≡ o → CallsStay (before a r) x y
    by (Some z) is = if_calls (before a r) x y (is ∙ sym (ap (λ o. or_else (or_else (or_else (or_else o two) three) four) five) is) ∙ found)
    by None is = by_test two refl (sym (ap (λ o. or_else (or_else (or_else (or_else o two) three) four) five) is) ∙ found)

-- four calls one after another
module _ (names : Names) where
  pub after_empty : {c k d : Seen} {x z y : Tree} {answer : Bool} (next : Rule) → Does (empty names) c x false k z → Does next k z answer d y → Does next c x answer d y
  after_empty next first second = after_nothing (empty names) next first second

  pub after_state : {c k l d : Seen} {x z v y : Tree} {answer : Bool} (next : Rule) → Does (empty names) c x false k z → Does (state names) k z false l v → Does next l v answer d y → Does next c x answer d y
  after_state next first second third = after_nothing (empty names) next first (after_nothing (state names) next second third)

  pub after_fold : {c k l m d : Seen} {x z v w y : Tree} {answer : Bool} (next : Rule) → Does (empty names) c x false k z → Does (state names) k z false l v → Does at_if_end l v false m w → Does next m w answer d y → Does next c x answer d y
  after_fold next first second third fourth = after_state next first second (after_nothing at_if_end next third fourth)

module _ (stays : Stays AnyEdit) (names : Names) where
  pub stating_moves : {c k d : Seen} {x z y : Tree} {answer : Bool} → Does (empty names) c x false k z → Does (state names) k z answer d y → NodeMoves Names AnyEdit (Holds Own) names c x names d y
  stating_moves first second = state_moves stays names (after_empty names (state names) first second)

  pub fold_moves : {c k l d : Seen} {x z v y : Tree} {answer : Bool} → Does (empty names) c x false k z → Does (state names) k z false l v → Does at_if_end l v answer d y → NodeMoves Names AnyEdit (Holds Own) names c x names d y
  fold_moves first second third = rule_moves stays names at_if_end (ifs_end AnyEdit (λ o t u e. e)) if_calls_stay (after_state names at_if_end first second third)

  pub statement_moves : {c k l m d : Seen} {x z v w y : Tree} {answer : Bool} → Does (empty names) c x false k z → Does (state names) k z false l v → Does at_if_end l v false m w → Does (prune names) m w answer d y
      → NodeMoves Names AnyEdit (Holds Own) names c x names d y
  statement_moves first second third fourth = prune_moves stays names (after_fold names (prune names) first second third fourth)

-- nothing becomes of it
abbrev FoundNothing : Names → Seen → Tree → Seen → Type 0
FoundNothing names c x d = Found (statement_changes (facts_of names c) c.place x) names c names d

module _ (names : Names) {d : Seen} (quiet : d.requested ≡ false) where
  pub emptied_visits : {c : Seen} {x y : Tree} → Does (empty names) c x true d y → FoundNothing names c x d
  emptied_visits does = done_asks (empty names) does quiet

  pub stated_visits : {c k : Seen} {x z y : Tree} → Does (empty names) c x false k z → Does (state names) k z true d y → FoundNothing names c x d
  stated_visits first second = done_asks (state names) (after_empty names (state names) first second) quiet

  pub fold_visits : {c k l : Seen} {x z v y : Tree} → Does (empty names) c x false k z → Does (state names) k z false l v → Does at_if_end l v true d y → FoundNothing names c x d
  fold_visits first second third = done_asks at_if_end (after_state names at_if_end first second third) quiet

  pub statement_visits : {c k l m : Seen} {x z v w y : Tree} {answer : Bool} → Does (empty names) c x false k z → Does (state names) k z false l v → Does at_if_end l v false m w → Does (prune names) m w answer d y → FoundNothing names c x d
  statement_visits {c = c} {x = x} first second third fourth =
      let f = facts_of names c in
      let at = where_of c.place in
      let states = after_empty names (state names) first second in
      let folds = after_state names at_if_end first second third in
      let found = rule_visits names quiet (prune names) (after_fold names (prune names) first second third fourth) in
      let stays = none_emptied (becomes_empty f c.place x.kind x.below) _ first.answers in
      let declares = none_emptied (becomes_stated f c.place x.kind x.below) _ states.answers in
      record {
        names_same = found.names_same;
        context_same = found.context_same;
        none = ap (λ b. b || becomes_stated f c.place x.kind x.below || is_some (if_ends (is_last c.place) x.note x.kind x.below) || is_some (pruned f at x)) stays
            ∙ ap (λ b. b || is_some (if_ends (is_last c.place) x.note x.kind x.below) || is_some (pruned f at x)) declares ∙ ap (λ b. b || is_some (pruned f at x)) (sym folds.answers) ∙ found.none;
      }
