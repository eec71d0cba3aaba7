-- An `if` of which the test alone stays.
use Rattle.std.proofs.Common.{◌≡◌, ◌∙◌, ◌+◌, ℕ, List, [], ◌∷◌, true, false, Option, Some, None, if◌then◌else◌, take, refl, sym, ap, subst, true≢false, arith}
use Rattle.js_syntax.specs.declared.node_kind.NodeKind.{NodeKind as Kind}
use Rattle.js_syntax.specs.declared.node_kind.NodeKind.TheVariants.{IfStatement as if_statement, ExpressionStatement as expression_statement}
use Rattle.js_syntax.specs.Node.{Forest, Tree, Note, nothing, node, absent, row, alone}
use Rattle.scope_counts.specs.Counts.{ids}
use Rattle.scope_laws.specs.Place as places
use Rattle.min_context.specs.Edited.{evals, Leaves, DropsNode, Edited}
use Rattle.min_context.specs.Seen.{Seen}
use Rattle.steps.specs.Allowed.EmptyIf.{are_empty, statement_of, EmptyIf, test_stays}
use Rattle.steps.proofs.Owed.EmptyIf.{each_empty}
use Rattle.rules.specs.Expressions.EmptyIfs.{test_left}
use Rattle.rules.specs.Expressions.Lists.{new_note}
use Rattle.rules.proofs.Expressions.EmptyIfs.{empty_if_edits}
use Rattle.min_statements.specs.Tests.{keeps_test}
use Rattle.min_expressions.proofs.Leaving.{emptied}
use Rattle.min_statements.proofs.Calls.{CallsStay}
use Rattle.min_statements.proofs.Shed.{edited}

-- ---- as code decides it

abbrev statement_of_first : Note → Forest → Option Tree
statement_of_first n (node t m d rest) = Some (statement_of n m t d)
statement_of_first n t = None

-- what it answers is what the rule answers
pub ruled : (n : Note) (k : Kind) (t : Forest) → test_left n k t ≡ (if keeps_test k t then statement_of_first (new_note n) t else None)
ruled n if_statement nothing = refl
ruled n if_statement (absent r) = refl
ruled n if_statement (node t m d nothing) = refl
ruled n if_statement (node t m d (absent nothing)) = refl
ruled n if_statement (node t m d (absent (absent r))) = refl
ruled n if_statement (node t m d (absent (node l j c nothing))) = refl
ruled n if_statement (node t m d (absent (node l j c (absent r)))) = refl
ruled n if_statement (node t m d (absent (node l j c (node h p e r)))) = refl
ruled n if_statement (node t m d (node k i b nothing)) = refl
ruled n if_statement (node t m d (node k i b (absent nothing))) = refl
ruled n if_statement (node t m d (node k i b (absent (absent r)))) = refl
ruled n if_statement (node t m d (node k i b (absent (node l j c r)))) = refl
ruled n if_statement (node t m d (node k i b (node l j c nothing))) = refl
ruled n if_statement (node t m d (node k i b (node l j c (absent r)))) = refl
ruled n if_statement (node t m d (node k i b (node l j c (node h p e r)))) = refl
ruled n k t = refl

-- the row that is cut behind its first node has the test
no_test : {P : Type 0} → false ≡ true → P
no_test e = absurd (true≢false (sym e))

first_row : (n : Note) (k : Kind) (ts : List (Option Tree)) → keeps_test k (row ts) ≡ true → statement_of_first n (row ts) ≡ Some (record { kind = expression_statement; note = n; below = row (take 1 ts) })
first_row n if_statement [] e = no_test e
first_row n if_statement (None ∷ ts) e = no_test e
first_row n if_statement (Some x ∷ ts) e = refl
first_row n k ts e = no_test e

pub test_kept : (n m : Note) (k : Kind) (t : Forest) (ts : List (Option Tree)) → keeps_test k t ≡ true → row ts ≡ t → m ≡ new_note n → test_left n k t ≡ Some (record { kind = expression_statement; note = m; below = row (take 1 ts) })
test_kept n m k t ts e is noted =
    ruled n k t
    ∙ ap (λ b. if b then statement_of_first (new_note n) t else None) e
    ∙ ap (statement_of_first (new_note n)) (sym is)
    ∙ first_row (new_note n) k ts (ap (keeps_test k) is ∙ e)
    ∙ ap (λ q. Some (record { kind = expression_statement; note = q; below = row (take 1 ts) })) (sym noted)

pub test_not_kept : (n : Note) (k : Kind) (t : Forest) → keeps_test k t ≡ false → test_left n k t ≡ None
test_not_kept n k t e = ruled n k t ∙ ap (λ b. if b then statement_of_first (new_note n) t else None) e

-- ---- what leaves

ids_split : (n m o : Note) (t : Kind) (d branches : Forest) → are_empty branches ≡ true → (r : ℕ) → ids r (alone if_statement n (node t m d branches)) ≡ ids r (alone if_statement n nothing) + ids r (alone expression_statement o (node t m d nothing))
ids_split n m o t d branches empty r = each_empty (λ b. ids r (alone if_statement n (node t m d b)) ≡ ids r (alone if_statement n nothing) + ids r (alone expression_statement o (node t m d nothing))) (λ i. Prim.omega arith) (λ i j. Prim.omega arith) branches empty

evals_split : (n m o : Note) (t : Kind) (d branches : Forest) → are_empty branches ≡ true → evals (alone if_statement n (node t m d branches)) ≡ evals (alone if_statement n nothing) + evals (alone expression_statement o (node t m d nothing))
evals_split n m o t d branches empty = each_empty (λ b. evals (alone if_statement n (node t m d b)) ≡ evals (alone if_statement n nothing) + evals (alone expression_statement o (node t m d nothing))) (λ i. Prim.omega arith) (λ i j. Prim.omega arith) branches empty

pub test_edited : {c d : Seen} {v y : Tree} (x : Tree) → test_left x.note x.kind x.below ≡ Some y → v.kind ≡ x.kind → v.note ≡ x.note → v.below ≡ nothing → DropsNode c v d → Edited c x y true d
test_edited {c = c} {d = d} {v = v} {y = y} x e kind note below drops = by x y (empty_if_edits x y e) (subst (λ u. DropsNode c u d) (emptied v x.kind x.note kind note below) drops)
  where
    by : (x y : Tree) → EmptyIf x y → DropsNode c (record { kind = x.kind; note = x.note; below = nothing }) d → Edited c x y true d
    by x y (test_stays n m o t f branches empty unnamed) l =
        let left : Leaves (record c { requested = true }) (λ r. ids r (alone if_statement n nothing)) (evals (alone if_statement n nothing)) d = record { same = l.same; room = l.room; marks = l.marks; evals = l.evals } in
        edited x y refl left (ids_split n m o t f branches empty) (evals_split n m o t f branches empty)

-- ---- no call of it is a direct one of `eval`

empty_if_calls : (a : places.Around) (x y : Tree) → EmptyIf x y → CallsStay a x y
empty_if_calls a _ _ (test_stays n m o t d branches empty unnamed) = record { fewer = Prim.omega (arith, evals_split n m o t d branches empty); old = refl; in_with = false; bare = refl }

pub test_calls : (a : places.Around) (x y : Tree) → test_left x.note x.kind x.below ≡ Some y → CallsStay a x y
test_calls a x y e = empty_if_calls a x y (empty_if_edits x y e)
