-- What a `try` around nothing comes to: its finalizer, or its block where it has none.
use Rattle.std.proofs.Common.{◌≡◌, ◌∙◌, List, [], ◌∷◌, Bool, true, false, ◌&&◌, Option, Some, None, refl, sym, ap, ap₂, subst, true≢false}
use Rattle.std.proofs.lemmas.List.{append-nil}
use Rattle.std.proofs.Math.Path.{fun_ext}
use Rattle.js_syntax.specs.declared.kind.FunctionKind.TheVariants as function_kind
use Rattle.js_syntax.specs.declared.node_kind.NodeKind.{NodeKind as Kind}
use Rattle.js_syntax.specs.declared.node_kind.NodeKind.TheVariants.{BlockStatement as block_statement, TryStatement as try_statement}
use Rattle.js_syntax.specs.Node.{Note, Forest, nothing, node, absent, joined}
use Rattle.js_syntax.proofs.Truth.{first_of_both, second_of_both}
use Rattle.js_meaning.specs.Value.{Text, Env}
use Rattle.js_meaning.specs.State.{State, normal, gives, gives_all, refers, breaks, continues, returns, throws, Out, goes, stops, M, go_on, bind, done, choose, seq, with_value}
use Rattle.js_meaning.specs.Operator.{truthy}
use Rattle.js_meaning.specs.Scope.{lexical, declare, start}
use Rattle.js_meaning.specs.Host.{Enter}
use Rattle.js_meaning.specs.Node.{Ask, run, now, Meaning, Parts, need, may, each, ask_maybe}
use Rattle.js_meaning.specs.Statement.{after_label, after_block, after_finally}
use Rattle.js_meaning.specs.Meaning.{does, if_core, eval}
use Rattle.js_syntax.specs.Facts.{is_core}
use Rattle.js_meaning_near.specs.Quiet.{LeadsFrom, Leads, goes_on_as, stops_before}
use Rattle.js_meaning_near.specs.Purpose.{Purpose}
use Rattle.js_meaning_near.specs.Names.{Names}
use Rattle.js_meaning_near.specs.Near.{meaning, ComesTo}
use Rattle.js_meaning_near.specs.Local.{IsField}
use Rattle.known_tests.proofs.Taken.{unknown_leads}
use Rattle.steps.specs.Allowed.EmptyBlock.{is_idle, idles}
use Rattle.steps.specs.Allowed.IdleTry.{has_no_loop_at, has_no_loop}
use Rattle.steps.proofs.Owed.IdleRuns.{Ends, ends_normally, is_uncovered, Nothing, bound, node_ends, rows_end, held}
use Rattle.steps.proofs.Owed.IdleStatement.{handled}
use Rattle.steps.proofs.Owed.LastPart.{allocates_nothing, more_nothing}

no_kind : {A : Type 0} → false ≡ true → A
no_kind e = absurd (true≢false (sym e))

-- ---- where no loop is reached, labels don't matter

abbrev branches_do : Parts → M → List Text → Env → M
branches_do ms test ls env = need ms (λ c r. may r (λ d r. with_value test (λ v. choose (truthy v) (c (run ls) env) (ask_maybe d (run ls) env))))

-- of a row: all of it, its first node, behind a label, behind a test, and the last branch
record Unlabeled (a : Forest) : Type 0 where
  all : (E : Enter) (ls ms : List Text) (env : Env) → each (run ls) (eval E a) env ≡ each (run ms) (eval E a) env
  one : (E : Enter) (ls ms : List Text) (env : Env) (f : M → M) → need (eval E a) (λ m r. f (m (run ls) env)) ≡ need (eval E a) (λ m r. f (m (run ms) env))
  last : (E : Enter) (ls ms : List Text) (env : Env) (f : M → M) → may (eval E a) (λ d r. f (ask_maybe d (run ls) env)) ≡ may (eval E a) (λ d r. f (ask_maybe d (run ms) env))
  both : (E : Enter) (ls ms : List Text) (env : Env) (test : M) → branches_do (eval E a) test ls env ≡ branches_do (eval E a) test ms env
  tested : (E : Enter) (ls ms : List Text) (env : Env) → need (eval E a) (λ t r. branches_do r (t now env) ls env) ≡ need (eval E a) (λ t r. branches_do r (t now env) ms env)

does_same : (E : Enter) (k : Kind) (a : Forest) (ls ms : List Text) (env : Env) → has_no_loop_at k (has_no_loop a) ≡ true → (has_no_loop a ≡ true → Unlabeled a) → does E k a (eval E a) (run ls) env ≡ does E k a (eval E a) (run ms) env
does_same E Kind.WhileStatement a ls ms env h row = no_kind h
does_same E Kind.DoWhileStatement a ls ms env h row = no_kind h
does_same E Kind.ForStatement a ls ms env h row = no_kind h
does_same E Kind.ForInStatement a ls ms env h row = no_kind h
does_same E Kind.ForOfStatement a ls ms env h row = no_kind h
does_same E Kind.Statements a ls ms env h row = (row h).all E ls ms env
does_same E Kind.BlockStatement a ls ms env h row = ap (λ (k : Env → M). declare (lexical a) env (λ env. start a env (k env))) (fun_ext (λ env. (row h).one E ls ms env (λ m. m)))
does_same E Kind.IfStatement a ls ms env h row = (row h).tested E ls ms env
does_same E (Kind.LabeledStatement l) a ls ms env h row = (row h).one E (l ∷ ls) (l ∷ ms) env (λ m. bind m (after_label l))
does_same E (Kind.Function function_kind.Declaration pure) a ls ms env h row = refl
does_same E (Kind.Function function_kind.Expression pure) a ls ms env h row = refl
does_same E (Kind.Function function_kind.Arrow pure) a ls ms env h row = refl
does_same E (Kind.CallExpression false pure) a ls ms env h row = refl
does_same E (Kind.CallExpression true pure) a ls ms env h row = refl
does_same E (Kind.MemberExpression key false) a ls ms env h row = refl
does_same E (Kind.MemberExpression key true) a ls ms env h row = refl
does_same E k a ls ms env h row = refl

core_same : (b : Bool) (m : Meaning) (ls ms : List Text) (env : Env) → m (run ls) env ≡ m (run ms) env → if_core b m (run ls) env ≡ if_core b m (run ms) env
core_same true m ls ms env e = e
core_same false m ls ms env e = refl

same_node : (E : Enter) (k : Kind) (a : Forest) (ls ms : List Text) (env : Env) → has_no_loop_at k (has_no_loop a) ≡ true → (has_no_loop a ≡ true → Unlabeled a) → meaning E k a (run ls) env ≡ meaning E k a (run ms) env
same_node E k a ls ms env h row = core_same (is_core k) (does E k a (eval E a)) ls ms env (does_same E k a ls ms env h row)

same_row : (a : Forest) → has_no_loop a ≡ true → Unlabeled a
unfolding eval each need may
same_row nothing h = record { all = λ E ls ms env. refl; one = λ E ls ms env f. refl; last = λ E ls ms env f. refl; both = λ E ls ms env test. refl; tested = λ E ls ms env. refl }
same_row (absent r) h = record { all = λ E ls ms env. refl; one = λ E ls ms env f. refl; last = λ E ls ms env f. refl; both = λ E ls ms env test. refl; tested = λ E ls ms env. refl }
same_row (node k n a r) h =
    let rest = same_row r (second_of_both (has_no_loop_at k (has_no_loop a)) (has_no_loop r) h) in
    let here = λ (E : Enter) (ls ms : List Text) (env : Env). same_node E k a ls ms env (first_of_both (has_no_loop_at k (has_no_loop a)) (has_no_loop r) h) (same_row a) in
    record {
      all = λ E ls ms env. ap₂ (λ m k. seq m k) (here E ls ms env) (rest.all E ls ms env);
      one = λ E ls ms env f. ap f (here E ls ms env);
      last = λ E ls ms env f. ap f (here E ls ms env);
      both = λ E ls ms env test.
          rest.last E ls ms env (λ m. with_value test (λ v. choose (truthy v) (meaning E k a (run ls) env) m))
          ∙ ap (λ c. may (eval E r) (λ d s. with_value test (λ v. choose (truthy v) c (ask_maybe d (run ms) env)))) (here E ls ms env);
      tested = λ E ls ms env. rest.both E ls ms env (meaning E k a now env);
    }

same_block : (E : Enter) (a : Forest) (ls ms : List Text) (env : Env) → has_no_loop a ≡ true → meaning E block_statement a (run ls) env ≡ meaning E block_statement a (run ms) env
same_block E a ls ms env h = same_node E block_statement a ls ms env h (same_row a)

-- no loop stands in what holds nothing
no_loop_here : (k : Kind) (below : Bool) → is_idle k ≡ true → below ≡ true → has_no_loop_at k below ≡ true
no_loop_here Kind.EmptyStatement below h e = refl
no_loop_here Kind.Statements below h e = e
no_loop_here Kind.BlockStatement below h e = e
no_loop_here (Kind.LabeledStatement l) below h e = e
no_loop_here k below h e = no_kind h

idle_has_no_loop : (a : Forest) → idles a ≡ true → has_no_loop a ≡ true
idle_has_no_loop nothing h = refl
idle_has_no_loop (absent r) h = idle_has_no_loop r h
idle_has_no_loop (node k n a r) h =
    let o = held k a r h in
    ap₂ (λ x y. x && y) (no_loop_here k (has_no_loop a) o.idle (idle_has_no_loop a o.below)) (idle_has_no_loop r o.rest)

-- ---- the finalizer

finally_counts : (o : Out) → go_on o (after_finally normal) ≡ o
unfolding done
finally_counts (goes es z normal) = ap (λ fs. goes fs z normal) (append-nil es)
finally_counts (goes es z (gives v r)) = ap (λ fs. goes fs z (gives v r)) (append-nil es)
finally_counts (goes es z (gives_all vs)) = ap (λ fs. goes fs z (gives_all vs)) (append-nil es)
finally_counts (goes es z (refers p)) = ap (λ fs. goes fs z (refers p)) (append-nil es)
finally_counts (goes es z (breaks l)) = ap (λ fs. goes fs z (breaks l)) (append-nil es)
finally_counts (goes es z (continues l)) = ap (λ fs. goes fs z (continues l)) (append-nil es)
finally_counts (goes es z (returns v)) = ap (λ fs. goes fs z (returns v)) (append-nil es)
finally_counts (goes es z (throws v)) = ap (λ fs. goes fs z (throws v)) (append-nil es)
finally_counts (stops es e) = refl

finally_from : (f n : M) → f ≡ n → (s : State) (o : Out) → Ends s o → LeadsFrom s n (go_on o (λ c. bind f (after_finally c)))
unfolding bind
finally_from f n e s _ ends_normally = subst (LeadsFrom s n) (sym (more_nothing (go_on (f s) (after_finally normal)) ∙ finally_counts (f s) ∙ ap (λ m. m s) e)) (goes_on_as (allocates_nothing s))
finally_from f n e s _ is_uncovered = stops_before

finally_leads : (first f n : M) → Nothing first → f ≡ n → Leads (bind first (λ c. bind f (after_finally c))) n
unfolding bind
finally_leads first f n ends e = record { leads = λ s. finally_from f n e s (first s) (ends.ends s) }

-- ---- or the block

block_from : (h : Option Meaning) (env : Env) (m n : M) → m ≡ n → (s : State) (o : Out) → m s ≡ o → Ends s o → LeadsFrom s n (go_on (go_on o (after_block h env)) (λ c. bind (done normal) (after_finally c)))
unfolding bind done
block_from None env m n e s _ is ends_normally = subst (LeadsFrom s n) (ap (λ k. k s) (sym e) ∙ is) (goes_on_as (allocates_nothing s))
block_from (Some handler) env m n e s _ is ends_normally = subst (LeadsFrom s n) (ap (λ k. k s) (sym e) ∙ is) (goes_on_as (allocates_nothing s))
block_from h env m n e s _ is is_uncovered = stops_before

block_leads : (h : Option Meaning) (env : Env) (m n : M) → Nothing m → m ≡ n → Leads (bind (bind m (after_block h env)) (λ c. bind (done normal) (after_finally c))) n
unfolding bind
block_leads h env m n ends e = record { leads = λ s. block_from h env m n e s (m s) refl (ends.ends s) }

-- ---- the whole

module _ (E : Enter) (env : Env) (i : Note) (b : Forest) (idle : idles b ≡ true) where
  abbrev block : M
  block = meaning E block_statement b (run []) env

  block_ends : Nothing block
  block_ends = node_ends E (run []) block_statement b env refl idle (rows_end b idle)

  finalizer_leads : (j : Note) (handler c : Forest) → IsField handler → has_no_loop c ≡ true → (q : Ask) → Leads (meaning E try_statement (node block_statement i b (joined handler (node block_statement j c nothing))) q env) (meaning E block_statement c q env)
  unfolding eval need may
  finalizer_leads j (absent nothing) c f h (run ls) =
      finally_leads (bind block (after_block None env)) (meaning E block_statement c (run []) env) (meaning E block_statement c (run ls) env) (bound block (after_block None env) block_ends (handled None env)) (same_block E c [] ls env h)
  finalizer_leads j (node k m d nothing) c f h (run ls) =
      let handler = Some (meaning E k d) in
      finally_leads (bind block (after_block handler env)) (meaning E block_statement c (run []) env) (meaning E block_statement c (run ls) env) (bound block (after_block handler env) block_ends (handled handler env)) (same_block E c [] ls env h)
  finalizer_leads j (absent nothing) c f h q = unknown_leads _
  finalizer_leads j (node k m d nothing) c f h q = unknown_leads _
  finalizer_leads j nothing c f h q = absurd f
  finalizer_leads j (absent (absent r)) c f h q = absurd f
  finalizer_leads j (absent (node k m d r)) c f h q = absurd f
  finalizer_leads j (node k m d (absent r)) c f h q = absurd f
  finalizer_leads j (node k m d (node l p e r)) c f h q = absurd f

  whole_leads : (handler : Forest) → IsField handler → (q : Ask) → Leads (meaning E try_statement (node block_statement i b (joined handler (absent nothing))) q env) (meaning E block_statement b q env)
  unfolding eval need may
  whole_leads (absent nothing) f (run ls) = block_leads None env block (meaning E block_statement b (run ls) env) block_ends (same_block E b [] ls env (idle_has_no_loop b idle))
  whole_leads (node k m d nothing) f (run ls) = block_leads (Some (meaning E k d)) env block (meaning E block_statement b (run ls) env) block_ends (same_block E b [] ls env (idle_has_no_loop b idle))
  whole_leads (absent nothing) f q = unknown_leads _
  whole_leads (node k m d nothing) f q = unknown_leads _
  whole_leads nothing f q = absurd f
  whole_leads (absent (absent r)) f q = absurd f
  whole_leads (absent (node k m d r)) f q = absurd f
  whole_leads (node k m d (absent r)) f q = absurd f
  whole_leads (node k m d (node l p e r)) f q = absurd f

pub finalizer_comes : (u : Purpose) (st : Names) (i j : Note) (b handler c : Forest) → idles b ≡ true → IsField handler → has_no_loop c ≡ true
    → ComesTo u st try_statement (node block_statement i b (joined handler (node block_statement j c nothing))) block_statement c
finalizer_comes u st i j b handler c idle field h = record { old_hoists = refl; new_hoists = refl; comes = λ E env binds q p. finalizer_leads E env i b idle j handler c field h q }

pub block_comes : (u : Purpose) (st : Names) (i : Note) (b handler : Forest) → idles b ≡ true → IsField handler → ComesTo u st try_statement (node block_statement i b (joined handler (absent nothing))) block_statement b
block_comes u st i b handler idle field = record { old_hoists = refl; new_hoists = refl; comes = λ E env binds q p. whole_leads E env i b idle handler field q }
