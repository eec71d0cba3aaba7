-- An edit exposes no name: strict code stays strict, and no call of `eval` comes.
use Rattle.std.specs.Prelude.{List, [], ◌∷◌, None, map}
use Rattle.std.proofs.Common.{◌≡◌, ◌∙◌, ℕ, Bool, true, false, not, ◌&&◌, ◌||◌, ◌==◌, true≢false, if◌then◌else◌, is_some, bytes_eq, codes, refl, sym, subst, ap}
use Rattle.std.proofs.lemmas.Bool.{and_parts, and_from}
use Rattle.js_syntax.specs.declared.node_kind.NodeKind.{NodeKind as Kind}
use Rattle.js_syntax.specs.declared.node_kind.NodeKind.TheVariants as kind
use Rattle.js_syntax.specs.declared.kind.FunctionKind.{FunctionKind}
use Rattle.js_syntax.specs.declared.kind.FunctionKind.TheVariants as function_kind
use Rattle.js_syntax.specs.declared.kind.ClassKind.{ClassKind}
use Rattle.js_syntax.specs.declared.kind.ClassKind.TheVariants as class_kind
use Rattle.js_syntax.specs.declared.kind.VariableKind.{VariableKind}
use Rattle.js_syntax.specs.declared.kind.VariableKind.TheVariants as variable
use Rattle.js_syntax.specs.Node.{Forest, Note, Tree, nothing, node, absent, row, joined, below_of}
use Rattle.js_tree.specs.Names.{eval_of_call}
use Rattle.form_rules.specs.Context.{has_use_strict, is_module, is_strict_list, is_strict_function, behind_first}
use Rattle.scope_rules.specs.Context.{is_there, has_second}
use Rattle.scope_rules.specs.Site.{has_eval, scope_row}
use Rattle.scope_laws.specs.Lists.{is_list}
use Rattle.steps.specs.KeepForm.Part.{gives_way, is_asked_for}
use Rattle.steps.specs.Owed.Kept.{is_program}
use Rattle.steps.specs.Allowed.Exposure.{Exposure, in_code, in_block, declaring, shares, is_script_source, at_function_name, at_class_name, exposed_inside, beside_program}
use Rattle.js_syntax.proofs.Truth.{first_of_either, second_of_either, first_of_both, second_of_both}
use Rattle.steps.proofs.KeepForm.Asked.{idle_kinds, tested_kinds}
use Rattle.kept_names.specs.Kept.{declarator_of}
use Rattle.steps.specs.KeepForm.Part.{leaves_names_of}
use Rattle.steps.proofs.VarNames.Again.{is_name_alone, is_bare_name, are_names}
use Rattle.steps.proofs.VarNames.Left.{NamesLeft}
use Rattle.steps.proofs.Marked.Cuts.{Cuts, leaves, empties, empties_idle, tests, states, alternate, parts, rebuilds, names_left, inside, behind, behind_none}
use Rattle.steps.proofs.Marked.Rebuilding.{one_evals}

-- ---- truth values

abbrev pub Only : (now before : Bool) → Type 0
Only now before = now ≡ true → before ≡ true

pub only_not : (x y : Bool) → Only x y → Only (not y) (not x)
only_not true true f e = e
only_not true false f e = f refl
only_not false y f e = refl

pub only_or : (x y z w : Bool) → Only x z → Only y w → Only (x || y) (z || w)
only_or true y z w f g e = subst (λ (b : Bool). b || w ≡ true) (sym (f refl)) refl
only_or false y true w f g e = refl
only_or false y false w f g e = g e

pub only_and : (x y z w : Bool) → Only x z → Only y w → Only (x && y) (z && w)
only_and x y z w f g e = let p = and_parts x y e in and_from z w (f p.0) (g p.1)

pub kept : {x : Bool} → Only x x
kept e = e

pub never : {P : Type 0} → false ≡ true → P
never e = absurd (true≢false (sym e))

-- ---- what may stand for a node, and for what

no_directive : (k : Kind) (n : Note) (b rest : Forest) → gives_way k ≡ true → has_use_strict (node k n b rest) ≡ false
no_directive (kind.Directive written) n b rest e = never e
no_directive k n b rest e = refl

no_list : (k : Kind) (n : Note) (b rest : Forest) → gives_way k ≡ true → is_strict_list (node k n b rest) ≡ false
no_list kind.Statements n b rest e = never e
no_list k n b rest e = refl

pub whole_no_body : (k : Kind) (n : Note) (b rest : Forest) → gives_way k ≡ true → is_strict_function (node k n b rest) ≡ is_strict_function rest
whole_no_body kind.FunctionBody n b rest e = never e
whole_no_body k n b rest e = refl

pub part_no_directive : (l : Kind) (n : Note) (b rest : Forest) → is_asked_for l ≡ false → has_use_strict (node l n b rest) ≡ false
part_no_directive (kind.Directive written) n b rest e = never (sym e)
part_no_directive l n b rest e = refl

pub part_no_list : (l : Kind) (n : Note) (b rest : Forest) → is_asked_for l ≡ false → is_strict_list (node l n b rest) ≡ false
part_no_list kind.Statements n b rest e = never (sym e)
part_no_list l n b rest e = refl

pub part_no_body : (l : Kind) (n : Note) (b rest : Forest) → is_asked_for l ≡ false → is_strict_function (node l n b rest) ≡ is_strict_function rest
part_no_body kind.FunctionBody n b rest e = never (sym e)
part_no_body l n b rest e = refl

pub part_no_program : (l : Kind) (n : Note) (b rest : Forest) → is_asked_for l ≡ false → is_program (node l n b rest) ≡ false
part_no_program (kind.Program source) n b rest e = never (sym e)
part_no_program l n b rest e = refl

-- ---- calls of `eval`

or_nothing : (b : Bool) → (b || false) ≡ true → b ≡ true
or_nothing true e = e
or_nothing false e = e

evals_part : (v : Forest) (l : Kind) (j : Note) (b w : Forest) → Only (is_some (eval_of_call l b) || has_eval b) (has_eval (joined v (node l j b w)))
evals_part nothing l j b w e = first_of_either (is_some (eval_of_call l b) || has_eval b) (has_eval w) e
evals_part (absent v) l j b w e = evals_part v l j b w e
evals_part (node k n c v) l j b w e = second_of_either (is_some (eval_of_call k c) || has_eval c) (has_eval (joined v (node l j b w))) (evals_part v l j b w e)

-- names call nothing
one_calls_none : (k : Kind) (n m : Note) (b rest : Forest) → is_name_alone k b ≡ true → has_eval (node kind.VariableDeclarator n (node k m b (absent nothing)) rest) ≡ has_eval rest
one_calls_none (kind.BindingName x) n m nothing rest h = refl
one_calls_none (kind.BindingName x) n m (absent r) rest h = absurd cc
one_calls_none (kind.BindingName x) n m (node j i c r) rest h = absurd cc
one_calls_none k n m b rest h = absurd cc

declarators_call_none : (ts : List Tree) → are_names ts ≡ true → has_eval (row (map declarator_of ts)) ≡ false
declarators_call_none [] h = refl
declarators_call_none (t ∷ ts) h =
    one_calls_none t.kind (record { span = t.note.span; id = None }) t.note t.below (row (map declarator_of ts)) (first_of_both (is_bare_name t) (are_names ts) h) ∙ declarators_call_none ts (second_of_both (is_bare_name t) (are_names ts) h)

pub names_evaluate_none : {k : Kind} {n m : Note} {a b : Forest} → NamesLeft k n a m b → has_eval b ≡ false
names_evaluate_none made = ap has_eval made.is ∙ ap (λ c. c || false) (declarators_call_none made.names made.bare)

-- a statement of which names are left is no directive, no list and no body
holds_no_directive : (k : Kind) (n : Note) (a rest : Forest) → leaves_names_of k ≡ true → has_use_strict (node k n a rest) ≡ false
holds_no_directive (kind.Directive written) n a rest h = absurd cc
holds_no_directive k n a rest h = refl

holds_no_list : (k : Kind) (n : Note) (a rest : Forest) → leaves_names_of k ≡ true → is_strict_list (node k n a rest) ≡ false
holds_no_list kind.Statements n a rest h = absurd cc
holds_no_list k n a rest h = refl

pub holds_no_body : (k : Kind) (n : Note) (a rest : Forest) → leaves_names_of k ≡ true → is_strict_function (node k n a rest) ≡ is_strict_function rest
holds_no_body kind.FunctionBody n a rest h = absurd cc
holds_no_body k n a rest h = refl

pub holds_no_program : (k : Kind) (n : Note) (a rest : Forest) → leaves_names_of k ≡ true → is_program (node k n a rest) ≡ false
holds_no_program (kind.Program source) n a rest h = absurd cc
holds_no_program k n a rest h = refl

evals_stay : (listed : Bool) (t u : Forest) → Cuts listed t u → Only (has_eval u) (has_eval t)
evals_stay listed t u (leaves k n below rest plain) e = second_of_either (is_some (eval_of_call k below) || has_eval below) (has_eval rest) e
evals_stay listed t u (empties r n m below rest) e = second_of_either (has_eval below) (has_eval rest) e
evals_stay listed t u (empties_idle r k n m below rest idle) e = second_of_either (is_some (eval_of_call k below) || has_eval below) (has_eval rest) e
evals_stay listed t u (tests r k l n m i b after rest tested) e =
    let part = is_some (eval_of_call l b) || has_eval b in
    let whole = node l i b after in
    only_or (part || false) (has_eval rest) (is_some (eval_of_call k whole) || has_eval whole) (has_eval rest)
    (λ h. second_of_either (is_some (eval_of_call k whole)) (has_eval whole) (first_of_either part (has_eval after) (or_nothing part h))) kept e
evals_stay listed t u (states r how x k n m l j i o b rest none) e =
    let value = is_some (eval_of_call k b) || has_eval b || false in
    only_or value (has_eval rest) ((value || false) || false) (has_eval rest) (λ h. ap (λ (v : Bool). (v || false) || false) h) kept e
evals_stay listed t u (alternate y l i j o d b) e = e
evals_stay listed t u (parts r k l i j b v w rest gives unasked) e =
    let whole = joined v (node l j b w) in
    only_or (is_some (eval_of_call l b) || has_eval b) (has_eval rest) (is_some (eval_of_call k whole) || has_eval whole) (has_eval rest)
    (λ h. second_of_either (is_some (eval_of_call k whole)) (has_eval whole) (evals_part v l j b w h)) kept e
evals_stay listed t u (rebuilds r k l n m a b rest made) e =
    only_or (is_some (eval_of_call l b) || has_eval b) (has_eval rest) (is_some (eval_of_call k a) || has_eval a) (has_eval rest) (one_evals k l n m a b made.rebuilt) kept e
evals_stay listed t u (names_left r k n m a b rest made) e =
    second_of_either (is_some (eval_of_call k a) || has_eval a) (has_eval rest) (ap (λ c. c || has_eval rest) (sym (names_evaluate_none made)) ∙ e)
evals_stay listed t u (inside r k n below now rest called h) e =
    only_or (is_some (eval_of_call k now) || has_eval now) (has_eval rest) (is_some (eval_of_call k below) || has_eval below) (has_eval rest)
    (only_or (is_some (eval_of_call k now)) (has_eval now) (is_some (eval_of_call k below)) (has_eval below) called (evals_stay (is_list k) below now h)) kept e
evals_stay listed t u (behind r k n below rest now h) e =
    only_or (is_some (eval_of_call k below) || has_eval below) (has_eval now) (is_some (eval_of_call k below) || has_eval below) (has_eval rest) kept (evals_stay r rest now h) e
evals_stay listed t u (behind_none r rest now h) e = evals_stay r rest now h e

evals_behind : (listed : Bool) (t u : Forest) → Cuts listed t u → listed ≡ false → Only (has_eval (behind_first u)) (has_eval (behind_first t))
evals_behind listed t u (leaves k n below rest plain) l e = absurd (true≢false l)
evals_behind listed t u (empties r n m below rest) l e = e
evals_behind listed t u (empties_idle r k n m below rest idle) l e = e
evals_behind listed t u (tests r k x n m i b after rest tested) l e = e
evals_behind listed t u (states r how x k n m l j i o b rest none) q e = e
evals_behind listed t u (alternate y l i j o d b) m e = e
evals_behind listed t u (parts r k x i j b v w rest gives unasked) l e = e
evals_behind listed t u (rebuilds r k x n m a b rest made) l e = e
evals_behind listed t u (names_left r k n m a b rest made) l e = e
evals_behind listed t u (inside r k n below now rest called h) l e = e
evals_behind listed t u (behind r k n below rest now h) l e = evals_stay r rest now h e
evals_behind listed t u (behind_none r rest now h) l e = evals_stay r rest now h e

row_evals : (k : Kind) (below now : Forest) → Cuts (is_list k) below now → Only (has_eval (scope_row k now)) (has_eval (scope_row k below))
row_evals kind.SwitchStatement below now h e = evals_behind false below now h refl e
row_evals kind.WithStatement below now h e = evals_behind false below now h refl e
row_evals (kind.PropertyDefinition is_static key) below now h e = evals_behind false below now h refl e
row_evals k below now h e = evals_stay (is_list k) below now h e

-- ---- strict code

-- what stands before an alternate that goes
module _ (t l : Kind) (i j o : Note) (d b : Forest) where
  abbrev with_alternate : Forest
  with_alternate = node t i d (node l j b (node kind.EmptyStatement o nothing nothing))

  abbrev without_alternate : Forest
  without_alternate = node t i d (node l j b (absent nothing))

last_strict : (l : Kind) (j o : Note) (b : Forest) → has_use_strict (node l j b (absent nothing)) ≡ has_use_strict (node l j b (node kind.EmptyStatement o nothing nothing))
last_strict (kind.Directive written) j o b = refl
last_strict l j o b = refl

pub first_strict : (t l : Kind) (i j o : Note) (d b : Forest) → has_use_strict (without_alternate t l i j o d b) ≡ has_use_strict (with_alternate t l i j o d b)
first_strict (kind.Directive written) l i j o d b = ap (λ s. bytes_eq written (codes "use strict") || s) (last_strict l j o b)
first_strict t l i j o d b = refl

pub first_list : (t l : Kind) (i j o : Note) (d b : Forest) → is_strict_list (without_alternate t l i j o d b) ≡ is_strict_list (with_alternate t l i j o d b)
first_list kind.Statements l i j o d b = refl
first_list t l i j o d b = refl

last_function : (l : Kind) (j o : Note) (b : Forest) → is_strict_function (node l j b (absent nothing)) ≡ is_strict_function (node l j b (node kind.EmptyStatement o nothing nothing))
last_function kind.FunctionBody j o b = refl
last_function l j o b = refl

pub first_function : (t l : Kind) (i j o : Note) (d b : Forest) → is_strict_function (without_alternate t l i j o d b) ≡ is_strict_function (with_alternate t l i j o d b)
first_function kind.FunctionBody l i j o d b = refl
first_function t l i j o d b = last_function l j o b

use_strict_stays : (listed : Bool) (t u : Forest) → Cuts listed t u → Only (has_use_strict t) (has_use_strict u)
use_strict_stays listed t u (leaves (kind.Directive written) n below rest plain) e = absurd (true≢false plain)
use_strict_stays listed t u (leaves k n below rest plain) e = never e
use_strict_stays listed t u (empties r n m below rest) e = never e
use_strict_stays listed t u (empties_idle r k n m below rest idle) e = never (idle_kinds (λ z. false ≡ has_use_strict (node z n below rest)) refl refl refl refl refl (λ label. refl) k idle ∙ e)
use_strict_stays listed t u (tests r k l n m i b after rest tested) e = never (tested_kinds (λ z. false ≡ has_use_strict (node z n (node l i b after) rest)) refl k tested ∙ e)
use_strict_stays listed t u (states r how x k n m l j i o b rest none) e = never e
use_strict_stays listed t u (alternate y l i j o d b) e = first_strict y l i j o d b ∙ e
use_strict_stays listed t u (parts r k l i j b v w rest gives unasked) e = never (sym (no_directive k i (joined v (node l j b w)) rest gives) ∙ e)
use_strict_stays listed t u (rebuilds r k l n m a b rest made) e = never (sym (part_no_directive k n a rest made.old_unasked) ∙ e)
use_strict_stays listed t u (names_left r k n m a b rest made) e = never (sym (holds_no_directive k n a rest made.holds) ∙ e)
use_strict_stays listed t u (inside r (kind.Directive written) n below now rest called h) e = e
use_strict_stays listed t u (inside r k n below now rest called h) e = never e
use_strict_stays listed t u (behind r (kind.Directive written) n below rest now h) e =
    only_or (bytes_eq written (codes "use strict")) (has_use_strict rest) (bytes_eq written (codes "use strict")) (has_use_strict now) kept (use_strict_stays r rest now h) e
use_strict_stays listed t u (behind r k n below rest now h) e = never e
use_strict_stays listed t u (behind_none r rest now h) e = never e

list_stays : (listed : Bool) (t u : Forest) → Cuts listed t u → listed ≡ false → Only (is_strict_list t) (is_strict_list u)
list_stays listed t u (leaves k n below rest plain) l e = absurd (true≢false l)
list_stays listed t u (empties r n m below rest) l e = never e
list_stays listed t u (empties_idle r k n m below rest idle) l e = never (idle_kinds (λ z. false ≡ is_strict_list (node z n below rest)) refl refl refl refl refl (λ label. refl) k idle ∙ e)
list_stays listed t u (tests r k x n m i b after rest tested) l e = never (tested_kinds (λ z. false ≡ is_strict_list (node z n (node x i b after) rest)) refl k tested ∙ e)
list_stays listed t u (states r how x k n m l j i o b rest none) q e = never e
list_stays listed t u (alternate y l i j o d b) m e = first_list y l i j o d b ∙ e
list_stays listed t u (parts r k x i j b v w rest gives unasked) l e = never (sym (no_list k i (joined v (node x j b w)) rest gives) ∙ e)
list_stays listed t u (rebuilds r k x n m a b rest made) l e = never (sym (part_no_list k n a rest made.old_unasked) ∙ e)
list_stays listed t u (names_left r k n m a b rest made) l e = never (sym (holds_no_list k n a rest made.holds) ∙ e)
list_stays listed t u (inside r kind.Statements n below now rest called h) l e = use_strict_stays true below now h e
list_stays listed t u (inside r k n below now rest called h) l e = never e
list_stays listed t u (behind r kind.Statements n below rest now h) l e = e
list_stays listed t u (behind r k n below rest now h) l e = never e
list_stays listed t u (behind_none r rest now h) l e = never e

function_stays : (listed : Bool) (t u : Forest) → Cuts listed t u → listed ≡ false → Only (is_strict_function t) (is_strict_function u)
function_stays listed t u (leaves k n below rest plain) l e = absurd (true≢false l)
function_stays listed t u (empties r n m below rest) l e = e
function_stays listed t u (empties_idle r k n m below rest idle) l e = idle_kinds (λ z. is_strict_function rest ≡ is_strict_function (node z n below rest)) refl refl refl refl refl (λ label. refl) k idle ∙ e
function_stays listed t u (tests r k x n m i b after rest tested) l e = tested_kinds (λ z. is_strict_function rest ≡ is_strict_function (node z n (node x i b after) rest)) refl k tested ∙ e
function_stays listed t u (states r how x k n m l j i o b rest none) q e = e
function_stays listed t u (alternate y l i j o d b) m e = first_function y l i j o d b ∙ e
function_stays listed t u (parts r k x i j b v w rest gives unasked) l e = part_no_body x j b rest unasked ∙ sym (whole_no_body k i (joined v (node x j b w)) rest gives) ∙ e
function_stays listed t u (rebuilds r k x n m a b rest made) l e = part_no_body x m b rest made.unasked ∙ sym (part_no_body k n a rest made.old_unasked) ∙ e
function_stays listed t u (names_left r k n m a b rest made) l e = sym (holds_no_body k n a rest made.holds) ∙ e
function_stays listed t u (inside r kind.FunctionBody n below now rest called h) l e = list_stays false below now h refl e
function_stays listed t u (inside r k n below now rest called h) l e = e
function_stays listed t u (behind r kind.FunctionBody n below rest now h) l e = e
function_stays listed t u (behind r k n below rest now h) l e = function_stays r rest now h l e
function_stays listed t u (behind_none r rest now h) l e = function_stays r rest now h l e

there_same : (listed : Bool) (t u : Forest) → Cuts listed t u → listed ≡ false → is_there u ≡ is_there t
there_same listed t u (leaves k n below rest plain) l = absurd (true≢false l)
there_same listed t u (empties r n m below rest) l = refl
there_same listed t u (empties_idle r k n m below rest idle) l = refl
there_same listed t u (tests r k x n m i b after rest tested) l = refl
there_same listed t u (states r how x k n m l j i o b rest none) q = refl
there_same listed t u (alternate y l i j o d b) m = refl
there_same listed t u (parts r k x i j b v w rest gives unasked) l = refl
there_same listed t u (rebuilds r k x n m a b rest made) l = refl
there_same listed t u (names_left r k n m a b rest made) l = refl
there_same listed t u (inside r k n below now rest called h) l = refl
there_same listed t u (behind r k n below rest now h) l = refl
there_same listed t u (behind_none r rest now h) l = refl

second_same : (listed : Bool) (t u : Forest) → Cuts listed t u → listed ≡ false → has_second u ≡ has_second t
second_same listed t u (leaves k n below rest plain) l = absurd (true≢false l)
second_same listed t u (empties r n m below rest) l = refl
second_same listed t u (empties_idle r k n m below rest idle) l = refl
second_same listed t u (tests r k x n m i b after rest tested) l = refl
second_same listed t u (states r how x k n m l j i o b rest none) q = refl
second_same listed t u (alternate y l i j o d b) m = refl
second_same listed t u (parts r k x i j b v w rest gives unasked) l = refl
second_same listed t u (rebuilds r k x n m a b rest made) l = refl
second_same listed t u (names_left r k n m a b rest made) l = refl
second_same listed t u (inside r k n below now rest called h) l = refl
second_same listed t u (behind r k n below rest now h) l = there_same r rest now h l
second_same listed t u (behind_none r rest now h) l = there_same r rest now h l

-- what lies below a node is as it was, but for what went
pub record Thinner (k : Kind) (now below : Forest) : Type 0 where
  pub evals : Only (has_eval (scope_row k now)) (has_eval (scope_row k below))
  pub listed : is_list k ≡ false → Only (is_strict_list below) (is_strict_list now)
  pub coded : is_list k ≡ false → Only (is_strict_function below) (is_strict_function now)
  pub second : is_list k ≡ false → has_second now ≡ has_second below

pub thinner_itself : (k : Kind) (below : Forest) → Thinner k below below
thinner_itself k below = record { evals = kept; listed = λ l. kept; coded = λ l. kept; second = λ l. refl }

pub thinner_cuts : (k : Kind) (below now : Forest) → Cuts (is_list k) below now → Thinner k now below
thinner_cuts k below now h = record {
  evals = row_evals k below now h;
  listed = list_stays (is_list k) below now h;
  coded = function_stays (is_list k) below now h;
  second = second_same (is_list k) below now h;
}

-- ---- exposures: q is of the tree that is there now, e of the one before

pub record Less (q e : Exposure) : Type 0 where
  pub outside : Only q.outside e.outside
  pub strict : Only e.strict q.strict
  pub variables : Only q.variables_shared e.variables_shared
  pub names : Only q.names_shared e.names_shared
  pub declared : Only q.declared_shared e.declared_shared
  pub evaluates : Only q.evaluates e.evaluates
  pub sloppy : Only q.in_sloppy_block e.in_sloppy_block

less_code : {q e : Exposure} (shared shared_then strict strict_then : Bool) (row row_then : Forest) → Less q e → Only shared shared_then → Only strict_then strict → Only (has_eval row) (has_eval row_then)
    → Less (in_code q shared strict row) (in_code e shared_then strict_then row_then)
less_code x y s t r w l f g h = record { outside = kept; strict = g; variables = f; names = f; declared = l.declared; evaluates = h; sloppy = kept }

less_block : {q e : Exposure} (strict strict_then : Bool) (row row_then : Forest) → Less q e → Only strict_then strict → Only (has_eval row) (has_eval row_then) → Less (in_block q strict row) (in_block e strict_then row_then)
less_block s t r w l g h = record { outside = l.outside; strict = g; variables = l.variables; names = kept; declared = l.declared; evaluates = h; sloppy = only_not t s g }

less_declaring : {q e : Exposure} (shared shared_then : Bool) → Less q e → Only shared shared_then → Less (declaring q shared) (declaring e shared_then)
less_declaring x y l f = record { outside = l.outside; strict = l.strict; variables = l.variables; names = l.names; declared = f; evaluates = l.evaluates; sloppy = l.sloppy }

less_if : {q r e f : Exposure} (b : Bool) → Less q e → Less r f → Less (if b then q else r) (if b then e else f)
less_if true l m = l
less_if false l m = m

less_shares : {q e : Exposure} (how : VariableKind) → Less q e → Only (shares q how) (shares e how)
less_shares variable.Var l = l.variables
less_shares variable.Let l = l.names
less_shares variable.Const l = l.names

less_function_name : {q e : Exposure} (how : FunctionKind) → Less q e → Less (at_function_name q how) (at_function_name e how)
less_function_name {q = q} {e = e} function_kind.Declaration l = less_declaring q.names_shared e.names_shared l l.names
less_function_name function_kind.Expression l = less_declaring false false l kept
less_function_name function_kind.Arrow l = less_declaring false false l kept

less_class_name : {q e : Exposure} (how : ClassKind) → Less q e → Less (at_class_name q how) (at_class_name e how)
less_class_name {q = q} {e = e} class_kind.Declaration l = less_declaring q.names_shared e.names_shared l l.names
less_class_name class_kind.Expression l = less_declaring false false l kept

pub less_inside : {q e : Exposure} (k : Kind) (now below : Forest) → Thinner k now below → Less q e → (at : ℕ) → Less (exposed_inside q k now at) (exposed_inside e k below at)
less_inside {q = q} {e = e} (kind.Program source) now below t l at =
    less_code _ _ _ _ now below l (only_and q.outside (is_script_source source) e.outside (is_script_source source) l.outside kept)
    (only_or (is_module source) (is_strict_list below) (is_module source) (is_strict_list now) kept (t.listed refl)) t.evals
less_inside {q = q} {e = e} (kind.Function how pure) now below t l at =
    let strict = only_or e.strict (is_strict_function below) q.strict (is_strict_function now) l.strict (t.coded refl) in
    let code = less_code false false _ _ now below l kept strict t.evals in
    less_if (at == 0) (less_function_name how l) (less_if (at == 1) (less_declaring false false code kept) code)
less_inside (kind.Class how) now below t l at = less_if (at == 0) (less_class_name how l) (less_block true true now below l kept t.evals)
less_inside kind.StaticBlock now below t l at = less_code false false _ _ now below l kept l.strict t.evals
less_inside {q = q} {e = e} (kind.PropertyDefinition is_static key) now below t l at =
    subst (λ (b : Bool). Less (if b && at == 1 then in_block q q.strict (behind_first now) else q) (if has_second below && at == 1 then in_block e e.strict (behind_first below) else e)) (sym (t.second refl))
    (less_if (has_second below && at == 1) (less_block _ _ (behind_first now) (behind_first below) l l.strict t.evals) l)
less_inside kind.BlockStatement now below t l at = less_block _ _ now below l l.strict t.evals
less_inside kind.SwitchStatement now below t l at = less_if (at == 1) (less_block _ _ (behind_first now) (behind_first below) l l.strict t.evals) l
less_inside kind.WithStatement now below t l at = less_if (at == 1) (less_block _ _ (behind_first now) (behind_first below) l l.strict t.evals) l
less_inside kind.CatchClause now below t l at = let block = less_block _ _ now below l l.strict t.evals in less_if (at == 0) (less_declaring false false block kept) block
less_inside kind.ForStatement now below t l at = less_block _ _ now below l l.strict t.evals
less_inside kind.ForInStatement now below t l at = less_block _ _ now below l l.strict t.evals
less_inside kind.ForOfStatement now below t l at = less_block _ _ now below l l.strict t.evals
less_inside (kind.VariableDeclaration how) now below t l at = less_declaring _ _ l (less_shares how l)
less_inside (kind.ImportDeclaration source) now below t l at = less_declaring _ _ l l.names
less_inside k now below t l at = l

-- ---- whole programs

pub below_stays : (listed : Bool) (t u : Forest) → Cuts listed t u → listed ≡ false → is_program t ≡ true → Only (has_eval (below_of u)) (has_eval (below_of t))
below_stays listed t u (leaves k n below rest plain) l is e = absurd (true≢false l)
below_stays listed t u (empties r n m below rest) l is e = never e
below_stays listed t u (empties_idle r k n m below rest idle) l is e = never e
below_stays listed t u (tests r k x n m i b after rest tested) l is e = never (tested_kinds (λ z. false ≡ is_program (node z n (node x i b after) rest)) refl k tested ∙ is)
below_stays listed t u (states r how x k n m l j i o b rest none) q is e = never is
below_stays listed t u (alternate y l i j o d b) m is e = e
below_stays listed t u (parts r k x i j b v w rest gives unasked) l is e = evals_part v x j b w (second_of_either (is_some (eval_of_call x b)) (has_eval b) e)
below_stays listed t u (rebuilds r k x n m a b rest made) l is e = never (sym (part_no_program k n a rest made.old_unasked) ∙ is)
below_stays listed t u (names_left r k n m a b rest made) l is e = never (sym (holds_no_program k n a rest made.holds) ∙ is)
below_stays listed t u (inside r k n below now rest called h) l is e = evals_stay (is_list k) below now h e
below_stays listed t u (behind r k n below rest now h) l is e = e
below_stays listed t u (behind_none r rest now h) l is e = never e

pub less_beside : (shared shared_then : Bool) (now below : Forest) → shared ≡ shared_then → Only (has_eval now) (has_eval below) → (at : ℕ) → Less (beside_program shared now at) (beside_program shared_then below at)
less_beside shared shared_then now below e f at =
    let s : Only shared shared_then = λ h. sym e ∙ h in
    record { outside = kept; strict = kept; variables = s; names = s; declared = s; evaluates = f; sloppy = kept }
