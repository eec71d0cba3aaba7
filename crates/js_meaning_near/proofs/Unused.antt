-- Statements whose values nobody takes: they do no more than their parts.
use Rattle.std.proofs.Common.{◌≡◌, List, [], ◌∷◌, Some, refl, sym, ap, subst, ◌∙◌, arith}
use Rattle.std.specs.Prelude.{Bool, true, false, ◌||◌}
use Rattle.js_syntax.specs.declared.node_kind.NodeKind.{NodeKind as Kind}
use Rattle.js_syntax.specs.declared.operator.BinaryOperator.TheVariants as binary
use Rattle.js_syntax.specs.declared.operator.UnaryOperator.TheVariants as unary
use Rattle.js_syntax.specs.declared.value.LiteralValue.{LiteralValue as Literal}
use Rattle.js_syntax.specs.Node.{Note, Forest, nothing, node, absent}
use Rattle.js_meaning.specs.Value.{Text, Env, Value, undef, array, literal_value}
use Rattle.js_meaning.specs.State.{State, Completion, normal, gives, gives_all, refers, breaks, continues, returns, throws, M, bind, done, stop, unknown, choose, give, if_gives, with_receiver, with_value, if_gives_all, with_all, identity}
use Rattle.js_meaning.specs.Operator.{is_other, answer_is, compare, unary_of}
use Rattle.js_meaning.specs.Host.{Enter}
use Rattle.js_meaning.specs.Node.{run, now, Meaning, Parts, need, values}
use Rattle.js_meaning.specs.Expression.{in_turn, array_content, binary_value, call_value}
use Rattle.js_meaning.specs.Scope.{look}
use Rattle.js_meaning.specs.Reference.{name_value}
use Rattle.js_meaning.specs.Meaning.{eval}
use Rattle.js_meaning_near.specs.Quiet.{Quiet}
use Rattle.js_meaning_near.specs.Wasted.{drops, EndsSoon, ends_soon, stops_soon, Wastes, wastes_nothing, wastes_part, wastes_silent, wastes_known, wastes_call, IsSilent}
use Rattle.js_meaning_near.specs.Names.{known, silent_function, Names, Binds}
use Rattle.js_meaning_near.specs.Near.{Row, fields, same_effects, meaning, SameEffects, hoists_nothing}
use Rattle.js_meaning_near.specs.Fit.{whole, Fits}
use Rattle.js_meaning_near.specs.Rewritten.{SameNames, Rewritten, at_place}
use Rattle.js_meaning_near.specs.Purpose.{Purposes, purposes_behind}
use Rattle.js_meaning_near.proofs.Effects.{more_nothing, bind_on, value_on}
use Rattle.js_meaning_near.proofs.Fit.{fit}
use Rattle.js_meaning_near.specs.Unused.{Needed, all_needed, needed, not_needed, kind_of, below_of}

-- values of lists, and what follows

gives_all_on : (f : Value → M) (g : List Value → M) (c : Completion) → bind (if_gives (λ v r. f v) c) (if_gives_all g) ≡ if_gives (λ v r. with_all (f v) g) c
unfolding bind done stop
gives_all_on f g normal = refl
gives_all_on f g (gives v r) = refl
gives_all_on f g (gives_all vs) = refl
gives_all_on f g (refers p) = refl
gives_all_on f g (breaks o) = refl
gives_all_on f g (continues o) = refl
gives_all_on f g (returns v) = refl
gives_all_on f g (throws v) = refl

pub all_on : (m : M) (f : Value → M) (g : List Value → M) → with_all (with_value m f) g ≡ with_value m (λ v. with_all (f v) g)
all_on m f g = bind_on m (if_gives (λ v r. f v)) (if_gives_all g) ∙ ap (bind m) (λ i c. gives_all_on f g c i)

all_then : (g : List Value → M) (h : Value → M) (c : Completion) → bind (if_gives_all g c) (if_gives (λ v r. h v)) ≡ if_gives_all (λ vs. with_value (g vs) h) c
unfolding bind done stop
all_then g h normal = refl
all_then g h (gives v r) = refl
all_then g h (gives_all vs) = refl
all_then g h (refers p) = refl
all_then g h (breaks o) = refl
all_then g h (continues o) = refl
all_then g h (returns v) = refl
all_then g h (throws v) = refl

pub all_value : (m : M) (g : List Value → M) (h : Value → M) → with_value (with_all m g) h ≡ with_all m (λ vs. with_value (g vs) h)
all_value m g h = bind_on m (if_gives_all g) (if_gives (λ v r. h v)) ∙ ap (bind m) (λ i c. all_then g h c i)

-- an array literal of which nobody takes the value

unfoldable pub over : Value → M
over v = done normal

array_soon : (vs : List Value) (s : State) → EndsSoon s (with_all (done (gives_all vs)) (λ vs. with_value (identity (λ i. give (array i (array_content vs)))) over) s)
unfolding bind done identity over
array_soon vs s = ends_soon (record { budget = refl; fresh = omega arith; store = λ i h. refl; globals = λ x. refl; imports = λ x y. refl; shown = refl; moves = refl; exports = refl; stars = refl })

pub part_in : {E : Enter} {st : Names} {env : Env} {ms : Parts} (p : Meaning) (f : Value → M) (g : List Value → M) → ((v : Value) → Wastes E st env (with_all (f v) g) ms) → Wastes E st env (with_all (with_value (p now env) f) g) (Some p ∷ ms)
part_in {E = E} {st = st} {env = env} {ms = ms} p f g h = subst (λ m. Wastes E st env m (Some p ∷ ms)) (sym (all_on (p now env) f g)) (wastes_part h)

pub silent_in : {E : Enter} {st : Names} {env : Env} {ms : Parts} (m : M) (f : Value → M) (g : List Value → M) → Quiet m → ((v : Value) → Wastes E st env (with_all (f v) g) ms) → Wastes E st env (with_all (with_value m f) g) ms
silent_in {E = E} {st = st} {env = env} {ms = ms} m f g q h = subst (λ m. Wastes E st env m ms) (sym (all_on m f g)) (wastes_silent q h)

after_array : List Value → M
after_array vs = with_value (identity (λ i. give (array i (array_content vs)))) over

elements_wasted : {st : Names} {es ps : Forest} (E : Enter) (env : Env) (after : List Value → M) → Binds st env → Needed st es ps → (k : List Value → List Value) → ((vs : List Value) → Wastes E st env (with_all (done (gives_all vs)) after) [])
    → Wastes E st env (with_all (values now (eval E es) env (λ vs. done (gives_all (k vs)))) after) (eval E ps)
unfolding values eval
elements_wasted E env f b all_needed k h = h (k [])
elements_wasted E env f b (needed {k = l} {a = a} {r = r} n) k h = part_in (meaning E l a) (λ v. values now (eval E r) env (λ vs. done (gives_all (k (v ∷ vs))))) f (λ v. elements_wasted E env f b n (λ vs. k (v ∷ vs)) h)
elements_wasted E env f b (not_needed {k = l} {a = a} {r = r} q n) k h = silent_in (meaning E l a now env) (λ v. values now (eval E r) env (λ vs. done (gives_all (k (v ∷ vs))))) f (q.silent E env b) (λ v. elements_wasted E env f b n (λ vs. k (v ∷ vs)) h)

array_ends : {E : Enter} {st : Names} {env : Env} (vs : List Value) → Wastes E st env (with_all (done (gives_all vs)) after_array) []
unfolding after_array
array_ends vs = wastes_nothing (array_soon vs)

-- what stands for it

abbrev pub AllNodes : Forest → Type 0
AllNodes nothing = Unit {0}
AllNodes (absent r) = ⊥
AllNodes (node k n a r) = AllNodes r

pub all_nodes : {st : Names} {es ps : Forest} → Needed st es ps → AllNodes ps
all_nodes all_needed = tt
all_nodes (needed x) = all_nodes x
all_nodes (not_needed q x) = all_nodes x

turn_drops : (E : Enter) (env : Env) (ps : Forest) (k : Kind) (n : Note) (a : Forest) → AllNodes ps → drops (eval E (node k n a ps)) env ≡ with_value (in_turn (eval E (node k n a ps)) env) over
unfolding drops in_turn eval over
turn_drops E env nothing k n a y = refl
turn_drops E env (absent r) k n a y = absurd y
turn_drops E env (node l m b s) k n a y =
    ap (λ (m : M). with_value (meaning E k a now env) (λ v. m)) (turn_drops E env s l m b y) ∙ sym (value_on (meaning E k a now env) (λ v. in_turn (eval E (node l m b s)) env) over)

pub stands : (E : Enter) (env : Env) (n : Note) (ls : List Text) (ps : Forest) → AllNodes ps → drops (eval E ps) env ≡ meaning E (kind_of ps) (below_of n ps) (run ls) env
unfolding drops need eval over
stands E env n ls nothing y = refl
stands E env n ls (absent r) y = absurd y
stands E env n ls (node k m a nothing) y = refl
stands E env n ls (node k m a (absent r)) y = absurd y
stands E env n ls (node k m a (node l o b s)) y = turn_drops E env (node l o b s) k m a y

pub hoists_kind : (ps : Forest) → hoists_nothing (kind_of ps) ≡ true
hoists_kind nothing = refl
hoists_kind (absent r) = refl
hoists_kind (node k n a r) = refl

array_means : (E : Enter) (env : Env) (n m : Note) (es : Forest) (ls : List Text) → with_all (values now (eval E es) env (λ vs. done (gives_all vs))) after_array ≡ meaning E Kind.ExpressionStatement (node Kind.ArrayExpression n (node Kind.Elements m es nothing) nothing) (run ls) env
unfolding need eval after_array over
array_means E env n m es ls = sym (all_value (values now (eval E es) env (λ vs. done (gives_all vs))) (λ vs. identity (λ i. give (array i (array_content vs)))) over)

-- an array literal of which nobody takes the value
pub array_wasted : (st : Names) (n m i : Note) (es ps : Forest) → Needed st es ps → SameEffects st (node Kind.ArrayExpression n (node Kind.Elements m es nothing) nothing) (kind_of ps) (below_of i ps) ps ps
array_wasted st n m i es ps x = record {
  new_hoists = hoists_kind ps;
  wastes = λ E env b ls. subst (λ m. Wastes E st env m (eval E ps)) (array_means E env n m es ls) (elements_wasted E env after_array b x (λ vs. vs) array_ends);
  drops_all = λ E env ls. stands E env i ls ps (all_nodes x);
}

one_part : {st : Names} {env : Env} (E : Enter) (k : Kind) (n : Note) (a : Forest) (f : Value → M) → ((v : Value) → Wastes E st env (f v) []) → Wastes E st env (with_value (meaning E k a now env) f) (eval E (node k n a nothing))
unfolding eval
one_part E k n a f h = wastes_part h

-- a comparison with a literal, negated, of which nobody takes the value

-- with a primitive of the host nothing is said of it
abbrev compares_if : Bool → Value → Value → M
compares_if b u v = choose b unknown (compare u v answer_is)

if_soon : (b : Bool) (u v : Value) (s : State) → EndsSoon s (with_value (with_value (compares_if b u v) (unary_of unary.LogicalNot)) over s)
unfolding bind done over compare choose stop
if_soon true u v s = stops_soon
if_soon false u v s = ends_soon (record { budget = refl; fresh = omega arith; store = λ i h. refl; globals = λ x. refl; imports = λ x y. refl; shown = refl; moves = refl; exports = refl; stars = refl })

compared_soon : (E : Enter) (v : Literal) (u : Value) (s : State) → EndsSoon s (with_value (with_value (with_value (give (literal_value v)) (binary_value E binary.StrictEquality u)) (unary_of unary.LogicalNot)) over s)
unfolding bind done
compared_soon E v u s =
    let b = is_other u || is_other (literal_value v) in
    let x = compares_if b u (literal_value v) s in
    subst (λ o. EndsSoon s (with_value (with_value (λ r. o) (unary_of unary.LogicalNot)) over s)) (sym (more_nothing x)) (if_soon b u (literal_value v) s)

compared : (E : Enter) (env : Env) (k : Kind) (a : Forest) (v : Literal) (n m i j : Note) (ls : List Text)
    → with_value (meaning E k a now env) (λ u. with_value (with_value (with_value (give (literal_value v)) (binary_value E binary.StrictEquality u)) (unary_of unary.LogicalNot)) over)
    ≡ meaning E Kind.ExpressionStatement (node (Kind.UnaryExpression unary.LogicalNot) n (node (Kind.BinaryExpression binary.StrictEquality) m (node k i a (node (Kind.Literal v) j nothing nothing)) nothing) nothing) (run ls) env
unfolding need eval over
compared E env k a v n m i j ls =
    sym (ap (λ (m : M). with_value m over) (value_on (meaning E k a now env) (λ u. with_value (give (literal_value v)) (binary_value E binary.StrictEquality u)) (unary_of unary.LogicalNot))
    ∙ value_on (meaning E k a now env) (λ u. with_value (with_value (give (literal_value v)) (binary_value E binary.StrictEquality u)) (unary_of unary.LogicalNot)) over)

pub comparison_wasted : (st : Names) (k : Kind) (a : Forest) (v : Literal) (n m i j : Note)
    → SameEffects st (node (Kind.UnaryExpression unary.LogicalNot) n (node (Kind.BinaryExpression binary.StrictEquality) m (node k i a (node (Kind.Literal v) j nothing nothing)) nothing) nothing) Kind.ExpressionStatement (node k i a nothing) (node k i a nothing) (node k i a nothing)
comparison_wasted st k a v n m i j = record {
  new_hoists = refl;
  wastes = λ E env b ls. subst (λ m. Wastes E st env m (eval E (node k i a nothing))) (compared E env k a v n m i j ls) (one_part E k i a _ (λ u. wastes_nothing (compared_soon E v u)));
  drops_all = λ E env ls. stands E env i ls (node k i a nothing) tt;
}

-- a call of a function that does nothing; the arguments that aren't silent stay

pub over_soon : (s : State) → EndsSoon s (over undef s)
unfolding over done
over_soon s = ends_soon (record { budget = refl; fresh = omega arith; store = λ i h. refl; globals = λ x. refl; imports = λ x y. refl; shown = refl; moves = refl; exports = refl; stars = refl })

pub over_ends : {E : Enter} {st : Names} {env : Env} (v : Value) → Wastes E st env (over v) []
unfolding over
over_ends v = wastes_nothing over_soon

unfoldable pub after_arguments : Enter → Value → Value → List Value → M
after_arguments E v this vs = with_value (call_value E v this vs) over

pub given_all : (vs : List Value) (f : List Value → M) → with_all (done (gives_all vs)) f ≡ f vs
unfolding bind done
given_all vs f = λ i s. more_nothing (f vs s) i

call_ends : {E : Enter} {st : Names} {env : Env} (x : Text) → st x ≡ known silent_function → (v this : Value) → IsSilent v → (vs : List Value) → Wastes E st env (with_all (done (gives_all vs)) (after_arguments E v this)) []
unfolding after_arguments
call_ends {E = E} {st = st} {env = env} x q v this y vs = subst (λ m. Wastes E st env m []) (sym (given_all vs (after_arguments E v this))) (wastes_call {x = x} v this vs q y over_ends)

-- the callee's value, its arguments, the call, and nothing
receivers_on : (f : Value → Value → M) (g : Value → M) (c : Completion) → bind (if_gives f c) (if_gives (λ v r. g v)) ≡ if_gives (λ v r. with_value (f v r) g) c
unfolding bind done stop
receivers_on f g normal = refl
receivers_on f g (gives v r) = refl
receivers_on f g (gives_all vs) = refl
receivers_on f g (refers p) = refl
receivers_on f g (breaks o) = refl
receivers_on f g (continues o) = refl
receivers_on f g (returns v) = refl
receivers_on f g (throws v) = refl

receiver_on : (m : M) (f : Value → Value → M) (g : Value → M) → with_value (with_receiver m f) g ≡ with_receiver m (λ v r. with_value (f v r) g)
receiver_on m f g = bind_on m (if_gives f) (if_gives (λ v r. g v)) ∙ ap (bind m) (λ i c. receivers_on f g c i)

pub call_means : (E : Enter) (env : Env) (x : Text) (pure : Bool) (n m i : Note) (es : Forest) (ls : List Text)
    → with_receiver (name_value (look env x) x) (λ v this. with_all (values now (eval E es) env (λ vs. done (gives_all vs))) (after_arguments E v this))
    ≡ meaning E Kind.ExpressionStatement (node (Kind.CallExpression false pure) n (node (Kind.ReferenceName x) m nothing (node Kind.Arguments i es nothing)) nothing) (run ls) env
unfolding need eval after_arguments over
call_means E env x pure n m i es ls =
    sym (receiver_on (name_value (look env x) x) (λ f this. with_all (values now (eval E es) env (λ vs. done (gives_all vs))) (call_value E f this)) over
    ∙ ap (with_receiver (name_value (look env x) x)) (λ j v this. all_value (values now (eval E es) env (λ vs. done (gives_all vs))) (call_value E v this) over j))

pub call_wasted : (st : Names) (x : Text) (pure : Bool) (n m i j : Note) (es ps : Forest) → st x ≡ known silent_function → Needed st es ps
    → SameEffects st (node (Kind.CallExpression false pure) n (node (Kind.ReferenceName x) m nothing (node Kind.Arguments i es nothing)) nothing) (kind_of ps) (below_of j ps) ps ps
call_wasted st x pure n m i j es ps q d = record {
  new_hoists = hoists_kind ps;
  wastes = λ E env b ls. subst (λ m. Wastes E st env m (eval E ps)) (call_means E env x pure n m i es ls) (wastes_known {x = x} _ q (λ v y. elements_wasted E env (after_arguments E v undef) b d (λ vs. vs) (λ vs. call_ends x q v undef y vs)));
  drops_all = λ E env ls. stands E env j ls ps (all_nodes d);
}

-- such a statement as a place of change, where the parts stay
pub effects_place : {C : Names → Type 0} {us : Purposes} {p : Row} {a b r s : Forest} {l : Kind} (n m : Note) (ps : Forest) → SameNames Kind.ExpressionStatement a l b → ((st : Names) → C st → SameEffects st a l b ps ps) → ((st : Names) → C st → Fits whole fields st ps)
    → Rewritten C whole (purposes_behind us) p r s → Rewritten C whole us p (node Kind.ExpressionStatement n a r) (node l m b s)
effects_place n m ps y f g t = at_place y (λ st h o. same_effects (f st h) (fit whole fields st ps (g st h)) o) t
