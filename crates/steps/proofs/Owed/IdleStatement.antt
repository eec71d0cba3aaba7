-- What a statement that does nothing owes that leaves its list.
use Rattle.std.proofs.Common.{◌≡◌, [], ◌∷◌, ◌⊎◌, inl, inr, Bool, true, false, ◌&&◌, Option, Some, None, refl, sym, true≢false}
use Rattle.std.proofs.lemmas.Bool.{or_cases}
use Rattle.js_syntax.specs.declared.node_kind.NodeKind.{NodeKind as Kind}
use Rattle.js_syntax.specs.declared.node_kind.NodeKind.TheVariants.{LabeledStatement as labeled_statement, WhileStatement as while_statement, ForStatement as for_statement, TryStatement as try_statement}
use Rattle.js_syntax.specs.Node.{Note, Forest, Tree, nothing, node, absent}
use Rattle.js_syntax.proofs.Truth.{first_of_both, second_of_both}
use Rattle.js_meaning.specs.Value.{Text, Env}
use Rattle.js_meaning.specs.State.{State, normal, Out, M, go_on, bind, done}
use Rattle.js_meaning.specs.Host.{Enter}
use Rattle.js_meaning.specs.Node.{Ask, run, Meaning, need, may, ask_maybe}
use Rattle.js_meaning.specs.Statement.{after_label, after_block, after_finally}
use Rattle.js_meaning.specs.Meaning.{eval}
use Rattle.js_meaning_near.specs.Quiet.{LeadsFrom, Leads, goes_on_as, stops_before}
use Rattle.js_meaning_near.specs.Near.{meaning, DoesNothing}
use Rattle.known_tests.proofs.Taken.{unknown_leads, while_does_nothing, for_does_nothing}
use Rattle.scope_laws.specs.Place.{Around}
use Rattle.steps.specs.Allowed.EmptyBlock.{is_idle, idles}
use Rattle.steps.specs.Allowed.Branches.{declares_none, declares_no_name}
use Rattle.steps.specs.Allowed.IdleStatement.{finalizer_idles, leaves_at_once, does_nothing, IdleStatement, idle_leaves}
use Rattle.steps.specs.Allowed.KnownConditional.{truth_known}
use Rattle.steps.specs.Allowed.Unreached.{only_runs}
use Rattle.steps.specs.Allowed.Untaken.{is_known}
use Rattle.steps.specs.Owed.Owed.{IsOther, MayChange, Leaving}
use Rattle.steps.proofs.Owed.IdleRuns.{Nothing, nothing_known, nothing_done, bound, node_ends, rows_end, leads, leaving_is_local}
use Rattle.steps.proofs.Owed.KnownTests.{test_tells}
use Rattle.steps.proofs.Owed.LeftAtOnce.{outside, left_at_once, arrive_leads}
use Rattle.steps.proofs.Owed.Unreached.{unshown_owes}

no_kind : {A : Type 0} → false ≡ true → A
no_kind e = absurd (true≢false (sym e))

-- ---- a loop

fails : (known : Option Bool) → is_known (Some false) known ≡ true → known ≡ Some false
fails (Some false) h = refl
fails (Some true) h = no_kind h
fails None h = no_kind h

-- ---- a `try` around nothing

pub handled : (h : Option Meaning) (env : Env) → Nothing (after_block h env normal)
handled None env = nothing_done
handled (Some m) env = nothing_done

tried : (m f : M) (h : Option Meaning) (env : Env) → Nothing m → Nothing f → Nothing (bind (bind m (after_block h env)) (λ c. bind f (after_finally c)))
tried m f h env block finally = bound (bind m (after_block h env)) _ (bound m (after_block h env) block (handled h env)) (bound f (after_finally normal) finally nothing_done)

-- what stands in the row of a `try` behind its handler
finished : (E : Enter) (m : M) (h : Option Meaning) (env : Env) (t : Forest) → idles t ≡ true → Nothing m → Nothing (may (eval E t) (λ f r. bind (bind m (after_block h env)) (λ c. bind (ask_maybe f (run []) env) (after_finally c))))
unfolding may eval
finished E m h env nothing i block = nothing_known
finished E m h env (absent r) i block = tried m (done normal) h env block nothing_done
finished E m h env (node k n a r) i block =
    let inner = second_of_both (is_idle k) (idles a && idles r) i in
    tried m (meaning E k a (run []) env) h env block (node_ends E (run []) k a env (first_of_both (is_idle k) (idles a && idles r) i) (first_of_both (idles a) (idles r) inner) (rows_end a (first_of_both (idles a) (idles r) inner)))

behind_block : (E : Enter) (m : M) (env : Env) (t : Forest) → finalizer_idles t ≡ true → Nothing m
    → Nothing (may (eval E t) (λ h r. may r (λ f r. bind (bind m (after_block h env)) (λ c. bind (ask_maybe f (run []) env) (after_finally c)))))
unfolding may eval
behind_block E m env nothing i block = no_kind i
behind_block E m env (absent r) i block = finished E m None env r i block
behind_block E m env (node k n a r) i block = finished E m (Some (meaning E k a)) env r i block

try_ends : (E : Enter) (q : Ask) (env : Env) (k : Kind) (n : Note) (b t : Forest) → is_idle k ≡ true → idles b ≡ true → finalizer_idles t ≡ true → Nothing (meaning E try_statement (node k n b t) q env)
unfolding need eval
try_ends E (run ls) env k n b t i h f = behind_block E (meaning E k b (run []) env) env t f (node_ends E (run []) k b env i h (rows_end b h))
try_ends E q env k n b t i h f = nothing_known

try_does_nothing : (k : Kind) (n : Note) (b t : Forest) → (is_idle k && idles b) && finalizer_idles t ≡ true → DoesNothing try_statement (node k n b t)
try_does_nothing k n b t h =
    let block = first_of_both (is_idle k && idles b) (finalizer_idles t) h in
    let i = first_of_both (is_idle k) (idles b) block in
    let l = second_of_both (is_idle k) (idles b) block in
    let f = second_of_both (is_idle k && idles b) (finalizer_idles t) h in
    record { hoists = refl; nothing_done = λ E q env. record { leads = λ s. leads ((try_ends E q env k n b t i l f).ends s) } }

-- ---- behind a label

label_from : (l : Text) (s : State) (o : Out) → LeadsFrom s (done normal) o → LeadsFrom s (done normal) (go_on o (after_label l))
unfolding done
label_from l s _ (goes_on_as a) = goes_on_as a
label_from l s _ stops_before = stops_before

label_leads : (l : Text) (m : M) → Leads m (done normal) → Leads (bind m (after_label l)) (done normal)
unfolding bind
label_leads l m h = record { leads = λ s. label_from l s (m s) (h.leads s) }

label_ends : (E : Enter) (q : Ask) (env : Env) (l : Text) (k : Kind) (n : Note) (a r : Forest) → ((q : Ask) → Leads (bind (meaning E k a q env) (after_label l)) (done normal)) → Leads (meaning E (labeled_statement l) (node k n a r) q env) (done normal)
unfolding need eval
label_ends E (run ls) env l k n a r h = h (run (l ∷ ls))
label_ends E q env l k n a r h = unknown_leads (done normal)

-- by what stands there, or since that leaves it at once
behind_label : (l : Text) (k : Kind) (a : Forest) → DoesNothing k a ⊎ (leaves_at_once l k a ≡ true) → declares_no_name k a ≡ true → (E : Enter) (env : Env) (q : Ask) → Leads (bind (meaning E k a q env) (after_label l)) (done normal)
behind_label l k a (inl idle) none E env q = label_leads l (meaning E k a q env) (idle.nothing_done E q env)
behind_label l k a (inr leaves) none E env q = arrive_leads l (meaning E k a q env) (left_at_once E l k a q env leaves (outside none))

-- ---- the node

pub nothing_done_by : (k : Kind) (a : Forest) → does_nothing k a ≡ true → declares_no_name k a ≡ true → DoesNothing k a
nothing_done_by while_statement (node t m d rest) h none = while_does_nothing t m d rest (test_tells t m d false (fails (truth_known t m d) h))
nothing_done_by while_statement nothing h none = no_kind h
nothing_done_by while_statement (absent rest) h none = no_kind h
nothing_done_by for_statement (absent (node t m d rest)) h none = for_does_nothing t m d rest (test_tells t m d false (fails (truth_known t m d) h))
nothing_done_by for_statement (absent nothing) h none = no_kind h
nothing_done_by for_statement (absent (absent rest)) h none = no_kind h
nothing_done_by for_statement nothing h none = no_kind h
nothing_done_by for_statement (node t m d rest) h none = no_kind h
nothing_done_by try_statement (node k n b rest) h none = try_does_nothing k n b rest h
nothing_done_by try_statement nothing h none = no_kind h
nothing_done_by try_statement (absent rest) h none = no_kind h
nothing_done_by (labeled_statement l) (node k n a rest) h none =
    let here = first_of_both (declares_no_name k a) (declares_none rest) none in
    let ends : DoesNothing k a ⊎ (leaves_at_once l k a ≡ true) = elim (or_cases (does_nothing k a) (leaves_at_once l k a) h) [
      | inl idle ↦ inl (nothing_done_by k a idle here)
      | inr leaves ↦ inr leaves
    ] in
    record { hoists = refl; nothing_done = λ E q env. label_ends E q env l k n a rest (behind_label l k a ends here E env) }
nothing_done_by (labeled_statement l) nothing h none = no_kind h
nothing_done_by (labeled_statement l) (absent rest) h none = no_kind h
nothing_done_by k a h none = no_kind h

pub record Held (k : Kind) : Type 0 where
  pub runs : only_runs k ≡ true
  pub other : (n : Note) (a : Forest) → IsOther (record { kind = k; note = n; below = a })
  pub may : (b : Around) (n : Note) (a : Forest) → MayChange b (record { kind = k; note = n; below = a })

pub held : (k : Kind) (a : Forest) → does_nothing k a ≡ true → Held k
held while_statement a h = record { runs = refl; other = λ n a. record { counts = refl; lists = λ m. refl; begins = λ m. refl; calls = refl }; may = λ b n a. refl }
held for_statement a h = record { runs = refl; other = λ n a. record { counts = refl; lists = λ m. refl; begins = λ m. refl; calls = refl }; may = λ b n a. refl }
held try_statement a h = record { runs = refl; other = λ n a. record { counts = refl; lists = λ m. refl; begins = λ m. refl; calls = refl }; may = λ b n a. refl }
held (labeled_statement l) a h = record { runs = refl; other = λ n a. record { counts = refl; lists = λ m. refl; begins = λ m. refl; calls = refl }; may = λ b n a. refl }
held k a h = no_kind h

-- ---- all of it

pub idle_runs : (k : Kind) (a : Forest) → does_nothing k a ≡ true → only_runs k ≡ true
idle_runs k a h = (held k a h).runs

pub idle_statement_owes : (a : Around) (x : Tree) → IdleStatement a x → Leaving a x
idle_statement_owes a x (idle_leaves item idle none) =
    let it = held x.kind x.below idle in
    let here = first_of_both (declares_no_name x.kind x.below) true none in
    unshown_owes a x item (inl (it.other x.note x.below)) (inl (it.may a x.note x.below)) it.runs none (λ states declares fits. leaving_is_local x (nothing_done_by x.kind x.below idle here) states declares a item fits)
