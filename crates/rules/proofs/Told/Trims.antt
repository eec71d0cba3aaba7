-- What an edit makes of a program that is laid out, row by row, and what it leaves as it was.
use Rattle.std.proofs.Common.{◌≡◌, ◌∙◌, ◌≤◌, ◌+◌, ℕ, zero, suc, Bool, true, false, not, ◌&&◌, ◌||◌, ◌==◌, true≢false, cond, is_some, bytes_eq, codes, refl, sym, ap, arith, List}
use Rattle.js_syntax.specs.declared.node_kind.NodeKind.{NodeKind as Kind}
use Rattle.js_syntax.specs.declared.node_kind.NodeKind.TheVariants as kind
use Rattle.js_syntax.specs.Node.{Forest, Note, nothing, node, absent, joined, alone}
use Rattle.js_syntax.proofs.Truth.{first_of_either, second_of_either}
use Rattle.js_tree.specs.Names.{eval_of_call}
use Rattle.js_rebuilt.specs.Rebuilt.{Rebuilt, ends, stays, leaves as leaves_whole, opened, built, absent_leaves, absent_comes}
use Rattle.json_shape.specs.Shape.{is_directive_kind}
use Rattle.form_rules.specs.Context.{is_module, has_use_strict, is_strict_list, is_strict_function, behind_first}
use Rattle.scope_rules.specs.Context.{opens}
use Rattle.scope_rules.specs.Site.{has_eval, scope_row}
use Rattle.scope_laws.specs.Lists.{is_list}
use Rattle.steps.specs.KeepForm.Part.{gives_way, may_be_idle, is_tested, is_asked_for, a_var, declares_one}
use Rattle.steps.specs.KeepForm.Sheds.{Row, row_below}
use Rattle.steps.specs.KeepForm.Layout.{is_laid_out}
use Rattle.steps.proofs.KeepForm.Asked.{idle_kinds, tested_kinds}
use Rattle.steps.proofs.KeepForm.Laid.{laid_absent, laid_order, laid_below, laid_behind}
use Rattle.steps.specs.Marked.Flags.{is_within}
use Rattle.steps.proofs.VarNames.Left.{NamesLeft}
use Rattle.steps.proofs.Marked.Cuts as cuts
use Rattle.steps.proofs.Marked.Cuts.{Cuts}
use Rattle.steps.proofs.Marked.Exposing.{Only, only_or, kept, never, names_evaluate_none, holds_no_body, whole_no_body, part_no_directive, part_no_list, part_no_body, first_strict, first_list, first_function, Thinner, thinner_cuts}
use Rattle.steps.proofs.Marked.Rebuilding.{calls_no_eval}
use Rattle.min_context.specs.Edited.{evals}
use Rattle.rules.proofs.Told.Standing.{strict_code}
use Rattle.js_syntax.specs.declared.kind.VariableKind.{VariableKind}

-- ---- code that wasn't strict is not

none_behind : (k b : Bool) → k || not b ≡ true → k ≡ false → b ≡ true → false ≡ true
none_behind true b h plain e = absurd (true≢false plain)
none_behind false true h plain e = h
none_behind false false h plain e = e

directives_back : (listed : Bool) (m : Row) (t u : Forest) → Cuts listed t u → is_laid_out m t ≡ true → Only (has_use_strict u) (has_use_strict t)
directives_back listed m t u (cuts.leaves k n below rest plain) laid e = never (none_behind (is_directive_kind k) (has_use_strict rest) (laid_order m k n below rest laid) plain e)
directives_back listed m t u (cuts.empties r n i below rest) laid e = never e
directives_back listed m t u (cuts.empties_idle r k n i below rest idle) laid e = never e
directives_back listed m t u (cuts.tests r k l n i j b after rest tested) laid e = never e
directives_back listed m t u (cuts.states r how x k n i l j y o b rest none) laid e = never e
directives_back listed m t u (cuts.alternate y l i j o d b) laid e = sym (first_strict y l i j o d b) ∙ e
directives_back listed m t u (cuts.parts r k l i j b v w rest gives unasked) laid e = never (sym (part_no_directive l j b rest unasked) ∙ e)
directives_back listed m t u (cuts.rebuilds r k l n i a b rest made) laid e = never (sym (part_no_directive l i b rest made.unasked) ∙ e)
directives_back listed m t u (cuts.names_left r k n i a b rest made) laid e = never e
directives_back listed m t u (cuts.inside r (kind.Directive written) n below now rest called h) laid e = e
directives_back listed m t u (cuts.inside r k n below now rest called h) laid e = never e
directives_back listed m t u (cuts.behind r (kind.Directive written) n below rest now h) laid e =
    only_or (bytes_eq written (codes "use strict")) (has_use_strict now) (bytes_eq written (codes "use strict")) (has_use_strict rest) kept
    (directives_back r m rest now h (laid_behind m (kind.Directive written) n below rest laid)) e
directives_back listed m t u (cuts.behind r k n below rest now h) laid e = never e
directives_back listed m t u (cuts.behind_none r rest now h) laid e = never e

list_back : (listed : Bool) (m : Row) (t u : Forest) → Cuts listed t u → listed ≡ false → is_laid_out m t ≡ true → Only (is_strict_list u) (is_strict_list t)
list_back listed m t u (cuts.leaves k n below rest plain) l laid e = absurd (true≢false l)
list_back listed m t u (cuts.empties r n i below rest) l laid e = never e
list_back listed m t u (cuts.empties_idle r k n i below rest idle) l laid e = never e
list_back listed m t u (cuts.tests r k x n i j b after rest tested) l laid e = never e
list_back listed m t u (cuts.states r how x k n i l j y o b rest none) q laid e = never e
list_back listed m t u (cuts.alternate y k i j o d b) l laid e = sym (first_list y k i j o d b) ∙ e
list_back listed m t u (cuts.parts r k x i j b v w rest gives unasked) l laid e = never (sym (part_no_list x j b rest unasked) ∙ e)
list_back listed m t u (cuts.rebuilds r k x n i a b rest made) l laid e = never (sym (part_no_list x i b rest made.unasked) ∙ e)
list_back listed m t u (cuts.names_left r k n i a b rest made) l laid e = never e
list_back listed m t u (cuts.inside r kind.Statements n below now rest called h) l laid e = directives_back true (row_below m kind.Statements) below now h (laid_below m kind.Statements n below rest laid) e
list_back listed m t u (cuts.inside r k n below now rest called h) l laid e = never e
list_back listed m t u (cuts.behind r kind.Statements n below rest now h) l laid e = e
list_back listed m t u (cuts.behind r k n below rest now h) l laid e = never e
list_back listed m t u (cuts.behind_none r rest now h) l laid e = never e

function_back : (listed : Bool) (m : Row) (t u : Forest) → Cuts listed t u → listed ≡ false → is_laid_out m t ≡ true → Only (is_strict_function u) (is_strict_function t)
function_back listed m t u (cuts.leaves k n below rest plain) l laid e = absurd (true≢false l)
function_back listed m t u (cuts.empties r n i below rest) l laid e = e
function_back listed m t u (cuts.empties_idle r k n i below rest idle) l laid e = sym (idle_kinds (λ z. is_strict_function rest ≡ is_strict_function (node z n below rest)) refl refl refl refl refl (λ label. refl) k idle) ∙ e
function_back listed m t u (cuts.tests r k x n i j b after rest tested) l laid e = sym (tested_kinds (λ z. is_strict_function rest ≡ is_strict_function (node z n (node x j b after) rest)) refl k tested) ∙ e
function_back listed m t u (cuts.states r how x k n i l j y o b rest none) q laid e = e
function_back listed m t u (cuts.alternate y k i j o d b) l laid e = sym (first_function y k i j o d b) ∙ e
function_back listed m t u (cuts.parts r k x i j b v w rest gives unasked) l laid e = whole_no_body k i (joined v (node x j b w)) rest gives ∙ sym (part_no_body x j b rest unasked) ∙ e
function_back listed m t u (cuts.rebuilds r k x n i a b rest made) l laid e = part_no_body k n a rest made.old_unasked ∙ sym (part_no_body x i b rest made.unasked) ∙ e
function_back listed m t u (cuts.names_left r k n i a b rest made) l laid e = holds_no_body k n a rest made.holds ∙ e
function_back listed m t u (cuts.inside r kind.FunctionBody n below now rest called h) l laid e = list_back false (row_below m kind.FunctionBody) below now h refl (laid_below m kind.FunctionBody n below rest laid) e
function_back listed m t u (cuts.inside r k n below now rest called h) l laid e = e
function_back listed m t u (cuts.behind r kind.FunctionBody n below rest now h) l laid e = e
function_back listed m t u (cuts.behind r k n below rest now h) l laid e = function_back r m rest now h l (laid_behind m k n below rest laid) e
function_back listed m t u (cuts.behind_none r rest now h) l laid e = function_back r m rest now h l (laid_absent m rest laid) e

both_ways : (a b : Bool) → Only a b → Only b a → a ≡ b
both_ways true b f g = sym (f refl)
both_ways false true f g = g refl
both_ways false false f g = refl

same_strict : (m : Row) (k : Kind) (below now : Forest) → Cuts (is_list k) below now → is_laid_out m below ≡ true → (b : Bool) → strict_code b k now ≡ strict_code b k below
same_strict m (kind.Program source) below now h laid b =
    ap (λ c. is_module source || c) (both_ways (is_strict_list now) (is_strict_list below) (list_back false m below now h refl laid) ((thinner_cuts (kind.Program source) below now h).listed refl))
same_strict m (kind.Function how pure) below now h laid b =
    ap (λ c. b || c) (both_ways (is_strict_function now) (is_strict_function below) (function_back false m below now h refl laid) ((thinner_cuts (kind.Function how pure) below now h).coded refl))
same_strict m k below now h laid b = refl

-- ---- calls of `eval`

abbrev pub calls : Kind → Forest → ℕ
calls k below = cond (is_some (eval_of_call k below)) 1 0

pub only_fewer : (a b : Bool) → Only a b → cond a 1 0 ≤ cond b 1 0
only_fewer true true f = Prim.omega arith
only_fewer true false f = never (f refl)
only_fewer false b f = Prim.omega arith

fewer_calls : (k : Kind) (below now : Forest) → Only (is_some (eval_of_call k now)) (is_some (eval_of_call k below)) → calls k now ≤ calls k below
fewer_calls k below now h = only_fewer (is_some (eval_of_call k now)) (is_some (eval_of_call k below)) h

part_fewer : (v : Forest) (l : Kind) (j : Note) (b w : Forest) → calls l b + evals b ≤ evals (joined v (node l j b w))
part_fewer nothing l j b w = Prim.omega arith
part_fewer (absent v) l j b w = part_fewer v l j b w
part_fewer (node k n c v) l j b w = Prim.omega (arith, part_fewer v l j b w)

evals_joined : (t u : Forest) → evals (joined t u) ≡ evals t + evals u
evals_joined nothing u = Prim.omega arith
evals_joined (absent t) u = evals_joined t u
evals_joined (node k n a t) u = Prim.omega (arith, evals_joined t u)

rebuilt_fewer : {t u : Forest} → Rebuilt t u → evals u ≤ evals t
rebuilt_fewer ends = Prim.omega arith
rebuilt_fewer (stays rest) = Prim.omega (arith, rebuilt_fewer rest)
rebuilt_fewer (leaves_whole rest) = Prim.omega (arith, rebuilt_fewer rest)
rebuilt_fewer (opened {a = a} {r = r} is rest) = Prim.omega (arith, evals_joined a r, rebuilt_fewer rest)
rebuilt_fewer (built {l = l} {b = b} {s = s} may rest) =
    let none : calls l b ≡ 0 = ap (λ c. cond c 1 0) (calls_no_eval l b may.calls_none) in Prim.omega (arith, none, evals_joined b s, rebuilt_fewer rest)
rebuilt_fewer (absent_leaves rest) = rebuilt_fewer rest
rebuilt_fewer (absent_comes rest) = rebuilt_fewer rest

seen : (a b c : Bool) (x y : ℕ) → (1 ≤ x → b ≡ true) → (1 ≤ y → c ≡ true) → 1 ≤ cond a 1 0 + x + y → a || b || c ≡ true
seen true b c x y f g h = first_of_either (true || b) c refl
seen false b c zero y f g h = second_of_either (false || b) c (g (Prim.omega (arith, h)))
seen false b c (suc x) y f g h = first_of_either (false || b) c (f (Prim.omega arith))

never_one : {P : Type 0} → 1 ≤ 0 → P
never_one h = absurd (Prim.omega (arith, h))

pub evals_some : (t : Forest) → 1 ≤ evals t → has_eval t ≡ true
evals_some nothing h = never_one h
evals_some (absent rest) h = evals_some rest h
evals_some (node k n below rest) h = seen (is_some (eval_of_call k below)) (has_eval below) (has_eval rest) (evals below) (evals rest) (evals_some below) (evals_some rest) h

no_evals : (t : Forest) (n : ℕ) → evals t ≡ n → has_eval t ≡ false → n ≡ 0
no_evals t zero is none = refl
no_evals t (suc n) is none = never (sym none ∙ evals_some t (Prim.omega (arith, is)))

pub fewer : (listed : Bool) (t u : Forest) → Cuts listed t u → evals u ≤ evals t
fewer listed t u (cuts.leaves k n below rest plain) = Prim.omega arith
fewer listed t u (cuts.empties r n m below rest) = Prim.omega arith
fewer listed t u (cuts.empties_idle r k n m below rest idle) = Prim.omega arith
fewer listed t u (cuts.tests r k l n m i b after rest tested) = Prim.omega arith
fewer listed t u (cuts.states r how x k n m l j y o b rest none) = Prim.omega arith
fewer listed t u (cuts.alternate y l i j o d b) = Prim.omega arith
fewer listed t u (cuts.parts r k l i j b v w rest gives unasked) = Prim.omega (arith, part_fewer v l j b w)
fewer listed t u (cuts.rebuilds r k l n m a b rest made) = Prim.omega (arith, rebuilt_fewer made.rebuilt)
fewer listed t u (cuts.names_left r k n m a b rest made) = let none = no_evals b (evals b) refl (names_evaluate_none made) in Prim.omega (arith, none)
fewer listed t u (cuts.inside r k n below now rest called h) = Prim.omega (arith, fewer (is_list k) below now h, fewer_calls k below now called)
fewer listed t u (cuts.behind r k n below rest now h) = Prim.omega (arith, fewer r rest now h)
fewer listed t u (cuts.behind_none r rest now h) = fewer r rest now h

counted : (a b c : Bool) (x y : ℕ) → (b ≡ true → 1 ≤ x) → (c ≡ true → 1 ≤ y) → a || b || c ≡ true → 1 ≤ cond a 1 0 + x + y
counted true b c x y f g e = Prim.omega arith
counted false true c x y f g e = let some = f refl in Prim.omega (arith, some)
counted false false true x y f g e = let some = g refl in Prim.omega (arith, some)
counted false false false x y f g e = never e

pub some_evals : (t : Forest) → has_eval t ≡ true → 1 ≤ evals t
some_evals nothing e = never e
some_evals (absent rest) e = some_evals rest e
some_evals (node k n below rest) e = counted (is_some (eval_of_call k below)) (has_eval below) (has_eval rest) (evals below) (evals rest) (some_evals below) (some_evals rest) e

none_left : (t u : Forest) → evals u ≡ evals t → Only (has_eval t) (has_eval u)
none_left t u same e = evals_some u (Prim.omega (arith, same, some_evals t e))

behind_same : (listed : Bool) (t u : Forest) → Cuts listed t u → listed ≡ false → evals u ≡ evals t → evals (behind_first u) ≡ evals (behind_first t)
behind_same listed t u (cuts.leaves k n below rest plain) l same = absurd (true≢false l)
behind_same listed t u (cuts.empties r n m below rest) l same = refl
behind_same listed t u (cuts.empties_idle r k n m below rest idle) l same = refl
behind_same listed t u (cuts.tests r k x n m i b after rest tested) l same = refl
behind_same listed t u (cuts.states r how x k n m l j y o b rest none) q same = refl
behind_same listed t u (cuts.alternate y k i j o d b) l same = refl
behind_same listed t u (cuts.parts r k x i j b v w rest gives unasked) l same = refl
behind_same listed t u (cuts.rebuilds r k x n m a b rest made) l same = refl
behind_same listed t u (cuts.names_left r k n m a b rest made) l same = refl
behind_same listed t u (cuts.inside r k n below now rest called h) l same = refl
behind_same listed t u (cuts.behind r k n below rest now h) l same = Prim.omega (arith, same)
behind_same listed t u (cuts.behind_none r rest now h) l same = same

row_calls : (k : Kind) (below now : Forest) → Cuts (is_list k) below now → evals now ≡ evals below → Only (has_eval (scope_row k below)) (has_eval (scope_row k now))
row_calls kind.SwitchStatement below now h same = none_left (behind_first below) (behind_first now) (behind_same false below now h refl same)
row_calls kind.WithStatement below now h same = none_left (behind_first below) (behind_first now) (behind_same false below now h refl same)
row_calls (kind.PropertyDefinition is_static key) below now h same = none_left (behind_first below) (behind_first now) (behind_same false below now h refl same)
row_calls k below now h same = none_left below now same

-- ---- row by row

-- what lies below a node makes as much of its scope as before; and if no call left, so do calls
pub record Alike (all : Bool) (k : Kind) (now below : Forest) : Type 0 where
  pub strict : (b : Bool) → strict_code b k now ≡ strict_code b k below
  pub within : (at : ℕ) → is_within k now at ≡ is_within k below at
  pub opens : opens k now ≡ opens k below
  pub calls : all ≡ true → Only (has_eval (scope_row k below)) (has_eval (scope_row k now))

pub alike_itself : (all : Bool) (k : Kind) (below : Forest) → Alike all k below below
alike_itself all k below = record { strict = λ b. refl; within = λ at. refl; opens = refl; calls = λ e. kept }

same_within : (k : Kind) (now below : Forest) → Thinner k now below → (at : ℕ) → is_within k now at ≡ is_within k below at
same_within (kind.PropertyDefinition is_static key) now below t at = ap (λ b. b && at == 1) (t.second refl)
same_within k now below t at = refl

same_opens : (k : Kind) (now below : Forest) → Thinner k now below → opens k now ≡ opens k below
same_opens (kind.PropertyDefinition is_static key) now below t = t.second refl
same_opens k now below t = refl

-- of a row, which is a list or not
pub data Trims (all : Bool) : (listed : Bool) → (t u : Forest) → Type 0 where
  leaves : (k : Kind) (n : Note) (below rest : Forest) → Trims all true (node k n below rest) rest
  empties : (listed : Bool) (n m : Note) (below rest : Forest) → Trims all listed (node kind.ExpressionStatement n below rest) (node kind.EmptyStatement m nothing rest)
  empties_idle : (listed : Bool) (k : Kind) (n m : Note) (below rest : Forest) → may_be_idle k ≡ true → Trims all listed (node k n below rest) (node kind.EmptyStatement m nothing rest)
  tests : (listed : Bool) (k l : Kind) (n m i : Note) (b after rest : Forest) → is_tested k ≡ true → Trims all listed (node k n (node l i b after) rest) (node kind.ExpressionStatement m (node l i b nothing) rest)
  states : (listed : Bool) (how : VariableKind) (x : List ℕ) (k : Kind) (n m l j i o : Note) (b rest : Forest) → Trims all listed (node (kind.VariableDeclaration how) n (declares_one m l j x (alone k i b)) rest) (node kind.ExpressionStatement o (alone k i b) rest)
  alternate : (t l : Kind) (i j o : Note) (d b : Forest) → Trims all false (node t i d (node l j b (node kind.EmptyStatement o nothing nothing))) (node t i d (node l j b (absent nothing)))
  parts : (listed : Bool) (k l : Kind) (i j : Note) (b v w rest : Forest) → gives_way k ≡ true → Trims all listed (node k i (joined v (node l j b w)) rest) (node l j b rest)
  rebuilds : (listed : Bool) (k l : Kind) (n m : Note) (a b rest : Forest) → Rebuilt (alone k n a) (alone l m b) → is_asked_for k ≡ false → Trims all listed (node k n a rest) (node l m b rest)
  names_left : (listed : Bool) (k : Kind) (n m : Note) (a b rest : Forest) → NamesLeft k n a m b → Trims all listed (node k n a rest) (node a_var m b rest)
  inside : (listed : Bool) (k : Kind) (n : Note) (below now rest : Forest) → Alike all k now below → Trims all (is_list k) below now → Trims all listed (node k n below rest) (node k n now rest)
  behind : (listed : Bool) (k : Kind) (n : Note) (below rest now : Forest) → Trims all listed rest now → Trims all listed (node k n below rest) (node k n below now)
  behind_none : (listed : Bool) (rest now : Forest) → Trims all listed rest now → Trims all listed (absent rest) (absent now)

pub trims : (all listed : Bool) (m : Row) (t u : Forest) → Cuts listed t u → is_laid_out m t ≡ true → (all ≡ true → evals u ≡ evals t) → Trims all listed t u
trims all listed m t u (cuts.leaves k n below rest plain) laid same = leaves k n below rest
trims all listed m t u (cuts.empties r n i below rest) laid same = empties r n i below rest
trims all listed m t u (cuts.empties_idle r k n i below rest idle) laid same = empties_idle r k n i below rest idle
trims all listed m t u (cuts.tests r k l n i j b after rest tested) laid same = tests r k l n i j b after rest tested
trims all listed m t u (cuts.states r how x k n i l j y o b rest none) laid same = states r how x k n i l j y o b rest
trims all listed m t u (cuts.alternate y l i j o d b) laid same = alternate y l i j o d b
trims all listed m t u (cuts.parts r k l i j b v w rest gives unasked) laid same = parts r k l i j b v w rest gives
trims all listed m t u (cuts.rebuilds r k l n i a b rest made) laid same = rebuilds r k l n i a b rest made.rebuilt made.old_unasked
trims all listed m t u (cuts.names_left r k n i a b rest made) laid same = names_left r k n i a b rest made
trims all listed m t u (cuts.inside r k n below now rest called h) laid same =
    let thin = thinner_cuts k below now h in
    let inner = laid_below m k n below rest laid in
    let left : all ≡ true → evals now ≡ evals below = λ e. Prim.omega (arith, same e, fewer (is_list k) below now h, fewer_calls k below now called) in
    inside r k n below now rest (record { strict = same_strict (row_below m k) k below now h inner; within = same_within k now below thin; opens = same_opens k now below thin; calls = λ e. row_calls k below now h (left e) })
    (trims all (is_list k) (row_below m k) below now h inner left)
trims all listed m t u (cuts.behind r k n below rest now h) laid same = behind r k n below rest now (trims all r m rest now h (laid_behind m k n below rest laid) (λ e. Prim.omega (arith, same e)))
trims all listed m t u (cuts.behind_none r rest now h) laid same = behind_none r rest now (trims all r m rest now h (laid_absent m rest laid) same)
