-- What holds nothing does nothing: a block of nothing, and one behind labels, leave their list, and no run shows it.
use Rattle.std.proofs.Common.{◌≡◌, ◌∙◌, [], ◌∷◌, ◌++◌, true, false, ◌&&◌, Some, arith, refl, sym, ap, subst, true≢false}
use Rattle.js_syntax.specs.Class.{root}
use Rattle.js_syntax.specs.declared.node_kind.NodeKind.{NodeKind as Kind}
use Rattle.js_syntax.specs.declared.node_kind.NodeKind.TheVariants.{Statements as statements, EmptyStatement as empty_statement, BlockStatement as block_statement, LabeledStatement as labeled_statement}
use Rattle.js_syntax.specs.Node.{Forest, Tree, nothing, node, absent}
use Rattle.js_syntax.proofs.Truth.{first_of_both, second_of_both}
use Rattle.js_meaning.specs.Value.{Env}
use Rattle.js_meaning.specs.State.{State, Completion, normal, Out, goes, stops, M, go_on, bind, done, stop, unknown}
use Rattle.js_meaning.specs.Trace.{Ending}
use Rattle.js_meaning.specs.Scope.{lexical, item_decls, declare, start_item, start, scope}
use Rattle.js_meaning.specs.Host.{Enter}
use Rattle.js_meaning.specs.Node.{Ask, run, need, each}
use Rattle.js_meaning.specs.Statement.{after_label}
use Rattle.js_meaning.specs.Meaning.{eval}
use Rattle.js_meaning_near.specs.Quiet.{OnlyAllocates, LeadsFrom, goes_on_as, stops_before}
use Rattle.js_meaning_near.specs.Purpose.{Purposes, for_values, purpose_here, purposes_behind, wanted_below}
use Rattle.js_meaning_near.specs.Near.{meaning, DoesNothing, hoists_nothing, is_row, Row as NearRow, fields, items as near_items, row_below as near_row_below}
use Rattle.js_meaning_near.specs.Local.{DeclaresNothing, Local, leaves_list, in_below, in_rest, in_absent}
use Rattle.json_shape.specs.Shape.{one, Plan, these, first_place, Stand, Fits}
use Rattle.json_shape.specs.Shape as shape
use Rattle.min_pass.specs.declared.around.Around.{Around as Asked}
use Rattle.min_pass.specs.declared.around.Row.TheVariants.{Items as items}
use Rattle.min_pass.specs.Around.{entered as asked_below, outermost as asked_of_program}
use Rattle.scope_laws.specs.Place.{Around, first, behind, behind_none, under, plug}
use Rattle.scope_laws.specs.Lists.{without}
use Rattle.steps.specs.Allowed.EmptyBlock.{is_idle, idles, holds_nothing}
use Rattle.steps.specs.Allowed.Places.{asked_at, IsItem}
use Rattle.steps.proofs.Fit.Holding.{is_sound, planned_below}
use Rattle.steps.proofs.Fit.Passing.{plan_passes, first_passes, behind_passes}
use Rattle.steps.specs.KeepForm.Part.{is_statement}
use Rattle.steps.proofs.Owed.Made.{MadeBy, is_single, made_at}
use Rattle.steps.proofs.Owed.LeftRuns.{list_of_both, reads_same}

-- ---- what is said of a row of nothing

no_kind : {A : Type 0} → false ≡ true → A
no_kind e = absurd (true≢false (sym e))

pub record Held (k : Kind) (a r : Forest) : Type 0 where
  pub idle : is_idle k ≡ true
  pub below : idles a ≡ true
  pub rest : idles r ≡ true

pub held : (k : Kind) (a r : Forest) → is_idle k && (idles a && idles r) ≡ true → Held k a r
held k a r h =
    let inner = second_of_both (is_idle k) (idles a && idles r) h in
    record { idle = first_of_both (is_idle k) (idles a && idles r) h; below = first_of_both (idles a) (idles r) inner; rest = second_of_both (idles a) (idles r) inner }

-- it declares nothing in the scope around, and starts nothing there
declares_here : (k : Kind) (a : Forest) → is_idle k ≡ true → lexical a ≡ [] → item_decls k a (lexical a) ≡ []
declares_here empty_statement a h e = refl
declares_here statements a h e = e
declares_here block_statement a h e = refl
declares_here (labeled_statement l) a h e = refl
declares_here k a h e = no_kind h

declares_none : (t : Forest) → idles t ≡ true → lexical t ≡ []
declares_none nothing h = refl
declares_none (absent r) h = declares_none r h
declares_none (node k n a r) h =
    let o = held k a r h in
    ap (λ ds. ds ++ lexical r) (declares_here k a o.idle (declares_none a o.below)) ∙ declares_none r o.rest

starts_here : (k : Kind) (a : Forest) (i : M → M) (env : Env) (m : M) → is_idle k ≡ true → ((m : M) → i m ≡ m) → start_item k a i env m ≡ m
starts_here empty_statement a i env m h e = refl
starts_here statements a i env m h e = e m
starts_here block_statement a i env m h e = refl
starts_here (labeled_statement l) a i env m h e = refl
starts_here k a i env m h e = no_kind h

starts_none : (t : Forest) (env : Env) (m : M) → idles t ≡ true → start t env m ≡ m
unfolding start
starts_none nothing env m h = refl
starts_none (absent r) env m h = starts_none r env m h
starts_none (node k n a r) env m h =
    let o = held k a r h in
    starts_here k a (start a env) env (start r env m) o.idle (λ m. starts_none a env m o.below) ∙ starts_none r env m o.rest

-- ---- it runs to its end, and that is all

-- from a state
pub data Ends (s : State) : Out → Type 0 where
  ends_normally : Ends s (goes [] s normal)
  is_uncovered : Ends s (stops [] Ending.uncovered)

pub record Nothing (m : M) : Type 0 where
  pub ends : (s : State) → Ends s (m s)

pub nothing_known : Nothing unknown
unfolding stop
nothing_known = record { ends = λ s. is_uncovered }

pub nothing_done : Nothing (done normal)
unfolding done
nothing_done = record { ends = λ s. ends_normally }

again : {s : State} {o : Out} → Ends s o → Ends s (go_on (goes [] s normal) (λ c z. o))
again ends_normally = ends_normally
again is_uncovered = is_uncovered

then_on : (m : M) (k : Completion → M) (s : State) (o : Out) → Ends s o → Nothing (k normal) → Ends s (go_on o k)
then_on m k s _ ends_normally rest = again (rest.ends s)
then_on m k s _ is_uncovered rest = is_uncovered

pub bound : (m : M) (k : Completion → M) → Nothing m → Nothing (k normal) → Nothing (bind m k)
unfolding bind
bound m k before rest = record { ends = λ s. then_on m k s (m s) (before.ends s) rest }

-- the scope of a block of nothing has no names
in_scope : (a : Forest) (env : Env) (m : Env → M) → idles a ≡ true → Nothing (m env) → Nothing (scope a env m)
unfolding declare
in_scope a env m h ends =
    subst (λ ds. Nothing (declare ds env (λ e. start a e (m e)))) (sym (declares_none a h)) (subst Nothing (sym (starts_none a env (m env) h)) ends)

-- what a row does: all of it; the one statement of a list or a block; and of a label
pub record RowEnds (a : Forest) : Type 0 where
  all : (E : Enter) (q : Ask) (env : Env) → Nothing (each q (eval E a) env)
  one : (E : Enter) (q : Ask) (env : Env) → Nothing (need (eval E a) (λ m r. m q env))
  labeled : (E : Enter) (q : Ask) (env : Env) (k : Completion → M) → Nothing (k normal) → Nothing (need (eval E a) (λ m r. bind (m q env) k))

pub node_ends : (E : Enter) (q : Ask) (k : Kind) (a : Forest) (env : Env) → is_idle k ≡ true → idles a ≡ true → RowEnds a → Nothing (meaning E k a q env)
node_ends E (run ls) empty_statement a env h below row = nothing_done
node_ends E (run ls) statements a env h below row = row.all E (run ls) env
node_ends E (run ls) block_statement a env h below row = in_scope a env (λ e. need (eval E a) (λ m r. m (run ls) e)) below (row.one E (run ls) env)
node_ends E (run ls) (labeled_statement l) a env h below row = row.labeled E (run (l ∷ ls)) env (after_label l) nothing_done
node_ends E q empty_statement a env h below row = nothing_known
node_ends E q statements a env h below row = nothing_known
node_ends E q block_statement a env h below row = nothing_known
node_ends E q (labeled_statement l) a env h below row = nothing_known
node_ends E q k a env h below row = no_kind h

pub rows_end : (t : Forest) → idles t ≡ true → RowEnds t
unfolding each need eval
rows_end nothing h = record { all = λ E q env. nothing_done; one = λ E q env. nothing_known; labeled = λ E q env k rest. nothing_known }
rows_end (absent r) h = record { all = λ E q env. nothing_known; one = λ E q env. nothing_known; labeled = λ E q env k rest. nothing_known }
rows_end (node k n a r) h =
    let o = held k a r h in
    let below = rows_end a o.below in
    let rest = rows_end r o.rest in
    let here = λ (E : Enter) (q : Ask) (env : Env). node_ends E q k a env o.idle o.below below in
    record {
      all = λ E q env. bound (meaning E k a q env) _ (here E q env) (rest.all E q env);
      one = λ E q env. here E q env;
      labeled = λ E q env j ends. bound (meaning E k a q env) j (here E q env) ends;
    }

-- ---- so it does nothing

same_state : (s : State) → OnlyAllocates s s
same_state s = record { budget = refl; fresh = Prim.omega arith; store = λ i h. refl; globals = λ x. refl; imports = λ x y. refl; shown = refl; moves = refl; exports = refl; stars = refl }

pub leads : {s : State} {o : Out} → Ends s o → LeadsFrom s (done normal) o
unfolding done
leads {s = s} ends_normally = goes_on_as (same_state s)
leads is_uncovered = stops_before

kind_hoists : (k : Kind) (a : Forest) → holds_nothing k a ≡ true → hoists_nothing k ≡ true
kind_hoists block_statement a h = refl
kind_hoists (labeled_statement l) a h = refl
kind_hoists k a h = no_kind h

holding_ends : (E : Enter) (q : Ask) (k : Kind) (a : Forest) (env : Env) → holds_nothing k a ≡ true → Nothing (meaning E k a q env)
holding_ends E q block_statement a env h = node_ends E q block_statement a env refl h (rows_end a h)
holding_ends E q (labeled_statement l) a env h = node_ends E q (labeled_statement l) a env refl h (rows_end a h)
holding_ends E q k a env h = no_kind h

pub does_nothing : (k : Kind) (a : Forest) → holds_nothing k a ≡ true → DoesNothing k a
does_nothing k a h = record { hoists = kind_hoists k a h; nothing_done = λ E q env. record { leads = λ s. leads ((holding_ends E q k a env h).ends s) } }

-- ---- the change

module _ (x : Tree) (idle : DoesNothing x.kind x.below) (states : is_statement x.kind ≡ true) (declares : DeclaresNothing x.kind x.below) where
  local_leaving : (us : Purposes) (o : NearRow) (w : Asked) (a : Around) → (w.row ≡ items → o ≡ near_items) → (asked_at w a).row ≡ items → (plan : Plan) → plan_passes is_sound plan ≡ true → Stand plan (plug a (Some x)) → Local us o (plug a (Some x)) (without a)
  local_leaving us o w (first rest) list item plan h st = subst (λ p. Local us p (node x.kind x.note x.below rest) rest) (sym (list item)) (leaves_list idle declares)
  local_leaving us o w (behind k n below a) list item plan h st = in_rest (local_leaving (purposes_behind us) o w a list item (shape.behind plan k) (behind_passes is_sound plan k h) st.1)
  local_leaving us o w (behind_none a) list item plan h st = in_absent (local_leaving (purposes_behind us) o w a list item (shape.behind plan Kind.Hole) (behind_passes is_sound plan Kind.Hole h) st.1)
  local_leaving us o w (under k n a rest) list item plan h st =
      let planned = planned_below (plug a (Some x)) (first_place plan) k st.0 in
      let single : is_single k ≡ true → MadeBy k (plug a (Some x)) = λ s. made_at (plug a (Some x)) k s (first_place plan) (first_passes is_sound plan refl h) st.0 in
      in_below (reads_same x states w k a item single) (local_leaving (wanted_below (purpose_here us (is_row rest)) k) (near_row_below k) (asked_below w k) a (list_of_both w.row k) item planned.0 planned.1 planned.2)

  pub leaving_is_local : (a : Around) → IsItem a → Fits root (plug a (Some x)) → Local for_values fields (plug a (Some x)) (without a)
  leaving_is_local a item fits = local_leaving for_values fields (asked_of_program true) a (λ e. absurd cc) item (these (one root ∷ [])) refl fits
