-- What operators, literals, sequences and choices waste of which nobody takes the value.
use Rattle.std.proofs.Common.{◌≡◌, List, [], ◌∷◌, refl, sym, ap, subst, ◌∙◌, arith}
use Rattle.std.specs.Prelude.{ℤ, ◌+ℤ◌, ◌-ℤ◌, ◌*ℤ◌, neg_ℤ, unsigned_abs, int_lt, int_le, int_div, int_rem, nat_le, Option, Some, Bool, true, false, not, ◌&&◌, ◌||◌}
use Rattle.js_syntax.specs.declared.node_kind.NodeKind.{NodeKind as Kind}
use Rattle.js_syntax.specs.declared.operator.BinaryOperator.{BinaryOperator}
use Rattle.js_syntax.specs.declared.operator.BinaryOperator.TheVariants as binary
use Rattle.js_syntax.specs.declared.operator.UnaryOperator.{UnaryOperator}
use Rattle.js_syntax.specs.declared.operator.UnaryOperator.TheVariants as unary
use Rattle.js_syntax.specs.declared.operator.LogicalOperator.{LogicalOperator}
use Rattle.js_syntax.specs.declared.kind.PropertyKind.{PropertyKind}
use Rattle.js_syntax.specs.declared.value.Key.{Key}
use Rattle.js_syntax.specs.Core.{is_core_unary, is_core_binary, is_plain_property}
use Rattle.js_syntax.specs.Facts.{is_core}
use Rattle.js_syntax.specs.Node.{Note, Forest, nothing, node, absent}
use Rattle.js_meaning.specs.Value.{Text, Env, Plain, Value, plain, boolean, number, object, no_content}
use Rattle.js_meaning.specs.State.{State, gives_all, Out, M, go_on, bind, done, stop, unknown, choose, give, if_gives, with_value, with_all, identity}
use Rattle.js_meaning.specs.Operator.{truthy, goes_right, is_other, is_nullish, is_zero, is_negative, is_text, plain_text, same_type, compare, loosely, largest, whole as whole_number, signed, times, divided, remainder, joined, plus_plain, plus, on_number, on_numbers, answer_is, answer_not, known_binary, unary_of}
use Rattle.js_meaning.specs.Host.{Enter}
use Rattle.js_meaning.specs.Node.{run, now, entry, Meaning, need, may, values}
use Rattle.js_meaning.specs.Expression.{wanted_by, binary_value, logical_value, object_content, in_turn}
use Rattle.js_meaning.specs.Meaning.{does, if_core, eval}
use Rattle.js_meaning_near.specs.Quiet.{EndsQuietly, gives_quietly, stops_quietly, Quiet}
use Rattle.js_meaning_near.specs.Wasted.{EndsSoon, ends_soon, stops_soon, Wastes, wastes_nothing, wastes_part, wastes_silent}
use Rattle.js_meaning_near.specs.Names.{Names, Binds}
use Rattle.js_meaning_near.specs.Near.{meaning, Silent, is_blunt, hoists_nothing, SameEffects, LessWaste, fields}
use Rattle.js_meaning_near.specs.Bare.{stands_bare}
use Rattle.js_meaning_near.specs.Purpose.{Purpose, ForEffect}
use Rattle.js_meaning_near.specs.Fit.{whole, Fits}
use Rattle.js_meaning_near.specs.Once.{NodeStays}
use Rattle.js_meaning_near.specs.Local.{Stands, for_waste}
use Rattle.js_meaning_near.specs.Unused.{Needed, all_needed, needed, not_needed, NeededValues, all_needed_values, needed_value, not_needed_value, only_answers, kind_of, below_of, expression_kind, expression_below, IsSome}
use Rattle.js_meaning_near.proofs.Branches.{bare_asks}
use Rattle.js_meaning_near.proofs.Effects.{value_on}
use Rattle.js_meaning_near.proofs.Unused.{over, over_ends, all_value, part_in, silent_in, AllNodes, all_nodes, stands, hoists_kind}

true_false : true ≡ false → ⊥
true_false e = cc

-- what gives a value, or is uncovered, and shows nothing

record Answers (m : M) : Type 0 where
  ends : (s : State) → EndsSoon s (with_value m over s)

give_answers : (v : Value) → Answers (give v)
unfolding bind done over
give_answers v = record { ends = λ s. ends_soon (record { budget = refl; fresh = omega arith; store = λ i h. refl; globals = λ x. refl; imports = λ x y. refl; shown = refl; moves = refl; exports = refl; stars = refl }) }

unknown_answers : Answers unknown
unfolding bind stop
unknown_answers = record { ends = λ s. stops_soon }

choice_answers : {m n : M} (b : Bool) → Answers m → Answers n → Answers (choose b m n)
unfolding choose
choice_answers true x y = x
choice_answers false x y = y

compared_answers : (v u : Value) (k : Bool → M) → ((b : Bool) → Answers (k b)) → Answers (compare v u k)
unfolding compare bind
compared_answers v u k h = record { ends = λ s. (h _).ends s }

quiet_soon : (s : State) (o : Out) → EndsQuietly s o → EndsSoon s (go_on o (if_gives (λ v r. over v)))
unfolding done over
quiet_soon s _ (gives_quietly a) = ends_soon a
quiet_soon s _ stops_quietly = stops_soon

quiet_answers : {m : M} → Quiet m → Answers m
unfolding bind
quiet_answers {m = m} q = record { ends = λ s. quiet_soon s (m s) (q.quiet s) }

numbers_answer : (op : ℤ → ℤ → M) → ((a b : ℤ) → Answers (op a b)) → (v u : Value) → Answers (on_numbers op v u)
numbers_answer op h (plain (number a)) (plain (number b)) = h a b
numbers_answer op h v u = unknown_answers

loosely_answers : (v u : Value) (k : Bool → M) → ((b : Bool) → Answers (k b)) → Answers (loosely v u k)
loosely_answers v u k h = choice_answers (is_nullish v || is_nullish u) (h _) (choice_answers (same_type v u) (compared_answers v u k h) unknown_answers)

number_answers : (op : ℤ → M) → ((a : ℤ) → Answers (op a)) → (v : Value) → Answers (on_number op v)
number_answers op h (plain (number a)) = h a
number_answers op h v = unknown_answers

whole_answers : (z : ℤ) → Answers (whole_number z)
whole_answers z = choice_answers (nat_le (unsigned_abs z) largest) (give_answers (plain (number z))) unknown_answers

signed_answers : (minus : Bool) (z : ℤ) → Answers (signed minus z)
signed_answers minus z = choice_answers (is_zero z && minus) unknown_answers (whole_answers z)

times_answers : (a b : ℤ) → Answers (times a b)
times_answers a b = signed_answers (is_negative a || is_negative b) (a *ℤ b)

divided_answers : (a b : ℤ) → Answers (divided a b)
divided_answers a b = choice_answers (is_zero b || not (is_zero (int_rem a b))) unknown_answers (signed_answers (is_negative b) (int_div a b))

remainder_answers : (a b : ℤ) → Answers (remainder a b)
remainder_answers a b = choice_answers (is_zero b) unknown_answers (signed_answers (is_negative a) (int_rem a b))

joined_answers : (a b : Option Text) → Answers (joined a b)
joined_answers (Some a) (Some b) = give_answers _
joined_answers a b = unknown_answers

plain_answers : (p q : Plain) → Answers (plus_plain p q)
plain_answers (number a) (number b) = whole_answers (a +ℤ b)
plain_answers p q = choice_answers (is_text p || is_text q) (joined_answers (plain_text p) (plain_text q)) unknown_answers

plus_answers : (v u : Value) → Answers (plus v u)
plus_answers (plain p) (plain q) = plain_answers p q
plus_answers v u = unknown_answers

known_answers : (o : BinaryOperator) (v u : Value) → Answers (known_binary o v u)
known_answers binary.Equality v u = loosely_answers v u answer_is (λ b. give_answers _)
known_answers binary.Inequality v u = loosely_answers v u answer_not (λ b. give_answers _)
known_answers binary.StrictEquality v u = compared_answers v u answer_is (λ b. give_answers _)
known_answers binary.StrictInequality v u = compared_answers v u answer_not (λ b. give_answers _)
known_answers binary.LessThan v u = numbers_answer (λ a b. answer_is (int_lt a b)) (λ a b. give_answers (plain (boolean (int_lt a b)))) v u
known_answers binary.LessEqualThan v u = numbers_answer (λ a b. answer_is (int_le a b)) (λ a b. give_answers (plain (boolean (int_le a b)))) v u
known_answers binary.GreaterThan v u = numbers_answer (λ a b. answer_is (int_lt b a)) (λ a b. give_answers (plain (boolean (int_lt b a)))) v u
known_answers binary.GreaterEqualThan v u = numbers_answer (λ a b. answer_is (int_le b a)) (λ a b. give_answers (plain (boolean (int_le b a)))) v u
known_answers binary.Addition v u = plus_answers v u
known_answers binary.Subtraction v u = numbers_answer (λ a b. whole_number (a -ℤ b)) (λ a b. whole_answers (a -ℤ b)) v u
known_answers binary.Multiplication v u = numbers_answer times times_answers v u
known_answers binary.Division v u = numbers_answer divided divided_answers v u
known_answers binary.Remainder v u = numbers_answer remainder remainder_answers v u
known_answers o v u = unknown_answers

binary_answers : (E : Enter) (o : BinaryOperator) (v u : Value) → only_answers o ≡ true → Answers (binary_value E o v u)
binary_answers E binary.In v u h = absurd (true_false (sym h))
binary_answers E binary.Instanceof v u h = absurd (true_false (sym h))
binary_answers E o v u h = choice_answers (is_other v || is_other u) unknown_answers (known_answers o v u)

unary_answers : (o : UnaryOperator) (v : Value) → is_core_unary o ≡ true → Answers (unary_of o v)
unary_answers unary.LogicalNot v h = give_answers _
unary_answers unary.Void v h = give_answers _
unary_answers unary.Typeof v h = give_answers _
unary_answers unary.UnaryNegation v h = number_answers (λ a. signed true (neg_ℤ a)) (λ a. signed_answers true (neg_ℤ a)) v
unary_answers unary.UnaryPlus v h = number_answers whole_number whole_answers v
unary_answers o v h = absurd (true_false (sym h))

-- a part in front, whose value whatever follows may see

first_wasted : {st : Names} {E : Enter} {env : Env} {k : Kind} {n : Note} {a r ps : Forest} {f : Value → M} → Binds st env → Needed st (node k n a r) ps → ((qs : Forest) → Needed st r qs → (v : Value) → Wastes E st env (f v) (eval E qs))
    → Wastes E st env (with_value (meaning E k a now env) f) (eval E ps)
unfolding eval
first_wasted b (needed x) h = wastes_part (λ v. h _ x v)
first_wasted {E = E} {env = env} b (not_needed q x) h = wastes_silent (q.silent E env b) (λ v. h _ x v)

-- and nothing else
last_wasted : {st : Names} {E : Enter} {env : Env} {ps : Forest} {m : M} → Needed st nothing ps → Answers m → Wastes E st env (with_value m over) (eval E ps)
unfolding eval
last_wasted all_needed h = wastes_nothing h.ends

pub statement_is : (E : Enter) (k : Kind) (n : Note) (a : Forest) (ls : List Text) (env : Env) → with_value (meaning E k a now env) over ≡ meaning E Kind.ExpressionStatement (node k n a nothing) (run ls) env
unfolding need eval over
statement_is E k n a ls env = refl

wastes_parts : {st : Names} (k : Kind) (n j : Note) (a ps : Forest) → AllNodes ps → ((E : Enter) (env : Env) → Binds st env → Wastes E st env (with_value (meaning E k a now env) over) (eval E ps)) → SameEffects st (node k n a nothing) (kind_of ps) (below_of j ps) ps ps
wastes_parts {st = st} k n j a ps y h = record {
  new_hoists = hoists_kind ps;
  wastes = λ E env b ls. subst (λ m. Wastes E st env m (eval E ps)) (statement_is E k n a ls env) (h E env b);
  drops_all = λ E env ls. stands E env j ls ps y;
}

core_does : (core : Bool) (m : Meaning) (env : Env) → core ≡ true → if_core core m now env ≡ m now env
core_does true m env h = refl
core_does false m env h = absurd (true_false (sym h))

-- operators

unary_does : (E : Enter) (o : UnaryOperator) (k : Kind) (i : Note) (a : Forest) (env : Env) → stands_bare (wanted_by o) k a ≡ true → does E (Kind.UnaryExpression o) (node k i a nothing) (eval E (node k i a nothing)) now env ≡ with_value (meaning E k a now env) (unary_of o)
unfolding need eval
unary_does E o k i a env h = ap (λ m. with_value m (unary_of o)) (bare_asks E (wanted_by o) k a env h)

pub unary_wasted : (st : Names) (o : UnaryOperator) (k : Kind) (n i j : Note) (a ps : Forest) → is_core_unary o ≡ true → stands_bare (wanted_by o) k a ≡ true → Needed st (node k i a nothing) ps
    → SameEffects st (node (Kind.UnaryExpression o) n (node k i a nothing) nothing) (kind_of ps) (below_of j ps) ps ps
unary_wasted st o k n i j a ps t h x = wastes_parts (Kind.UnaryExpression o) n j (node k i a nothing) ps (all_nodes x) (λ E env b.
    subst (λ m. Wastes E st env m (eval E ps)) (sym (ap (λ m. with_value m over) (core_does (is_core (Kind.UnaryExpression o)) (does E (Kind.UnaryExpression o) (node k i a nothing) (eval E (node k i a nothing))) env t ∙ unary_does E o k i a env h) ∙ value_on (meaning E k a now env) (unary_of o) over))
    (first_wasted b x (λ qs y v. last_wasted y (unary_answers o v t))))

answers_core : (o : BinaryOperator) → only_answers o ≡ true → is_core_binary o ≡ true
answers_core binary.In h = absurd (true_false (sym h))
answers_core binary.Instanceof h = absurd (true_false (sym h))
answers_core o h = h

pub binary_does : (E : Enter) (o : BinaryOperator) (k l : Kind) (n m : Note) (a b : Forest) (env : Env)
    → does E (Kind.BinaryExpression o) (node k n a (node l m b nothing)) (eval E (node k n a (node l m b nothing))) now env ≡ with_value (meaning E k a now env) (λ v. with_value (meaning E l b now env) (binary_value E o v))
unfolding need eval
binary_does E o k l n m a b env = refl

pub two_on : (m n : M) (f : Value → Value → M) (g : Value → M) → with_value (with_value m (λ v. with_value n (f v))) g ≡ with_value m (λ v. with_value n (λ u. with_value (f v u) g))
two_on m n f g = value_on m (λ v. with_value n (f v)) g ∙ ap (with_value m) (λ i v. value_on n (f v) g i)

pub binary_wasted : (st : Names) (o : BinaryOperator) (k l : Kind) (n i m j : Note) (a b ps : Forest) → only_answers o ≡ true → Needed st (node k i a (node l m b nothing)) ps
    → SameEffects st (node (Kind.BinaryExpression o) n (node k i a (node l m b nothing)) nothing) (kind_of ps) (below_of j ps) ps ps
binary_wasted st o k l n i m j a b ps t x = wastes_parts (Kind.BinaryExpression o) n j (node k i a (node l m b nothing)) ps (all_nodes x) (λ E env c.
    subst (λ m. Wastes E st env m (eval E ps)) (sym (ap (λ m. with_value m over) (core_does (is_core (Kind.BinaryExpression o)) (does E (Kind.BinaryExpression o) (node k i a (node l m b nothing)) (eval E (node k i a (node l m b nothing)))) env (answers_core o t)
    ∙ binary_does E o k l i m a b env) ∙ two_on (meaning E k a now env) (meaning E l b now env) (binary_value E o) over))
    (first_wasted c x (λ qs y v. first_wasted c y (λ rs z u. last_wasted z (binary_answers E o v u t)))))

-- choices of which one side, or each, does nothing

logical_does : (E : Enter) (o : LogicalOperator) (k l : Kind) (n m : Note) (a b : Forest) (env : Env)
    → meaning E (Kind.LogicalExpression o) (node k n a (node l m b nothing)) now env ≡ with_value (meaning E k a now env) (λ v. logical_value o v (meaning E l b now env))
unfolding need eval
logical_does E o k l n m a b env = refl

pub logical_wasted : (st : Names) (o : LogicalOperator) (k l : Kind) (n i m j : Note) (a b ps : Forest) → Silent st l b → Needed st (node k i a nothing) ps
    → SameEffects st (node (Kind.LogicalExpression o) n (node k i a (node l m b nothing)) nothing) (kind_of ps) (below_of j ps) ps ps
logical_wasted st o k l n i m j a b ps q x = wastes_parts (Kind.LogicalExpression o) n j (node k i a (node l m b nothing)) ps (all_nodes x) (λ E env c.
    subst (λ m. Wastes E st env m (eval E ps)) (sym (ap (λ m. with_value m over) (logical_does E o k l i m a b env) ∙ value_on (meaning E k a now env) (λ v. logical_value o v (meaning E l b now env)) over))
    (first_wasted c x (λ qs y v. last_wasted y (choice_answers (goes_right o v) (quiet_answers (q.silent E env c)) (give_answers v)))))

conditional_does : (E : Enter) (k l z : Kind) (n m i : Note) (a b c : Forest) (env : Env)
    → meaning E Kind.ConditionalExpression (node k n a (node l m b (node z i c nothing))) now env ≡ with_value (meaning E k a now env) (λ v. choose (truthy v) (meaning E l b now env) (meaning E z c now env))
unfolding need eval
conditional_does E k l z n m i a b c env = refl

pub conditional_wasted : (st : Names) (k l z : Kind) (n i m o j : Note) (a b c ps : Forest) → Silent st l b → Silent st z c → Needed st (node k i a nothing) ps
    → SameEffects st (node Kind.ConditionalExpression n (node k i a (node l m b (node z o c nothing))) nothing) (kind_of ps) (below_of j ps) ps ps
conditional_wasted st k l z n i m o j a b c ps q p x = wastes_parts Kind.ConditionalExpression n j (node k i a (node l m b (node z o c nothing))) ps (all_nodes x) (λ E env d.
    subst (λ m. Wastes E st env m (eval E ps)) (sym (ap (λ m. with_value m over) (conditional_does E k l z i m o a b c env) ∙ value_on (meaning E k a now env) (λ v. choose (truthy v) (meaning E l b now env) (meaning E z c now env)) over))
    (first_wasted d x (λ qs y v. last_wasted y (choice_answers (truthy v) (quiet_answers (q.silent E env d)) (quiet_answers (p.silent E env d))))))

-- sequences: each part that does nothing leaves

needed_nodes : {st : Names} {es ps : Forest} → Needed st es ps → AllNodes es
needed_nodes all_needed = tt
needed_nodes (needed x) = needed_nodes x
needed_nodes (not_needed q x) = needed_nodes x

over_wasted : {st : Names} {E : Enter} {env : Env} {qs : Forest} (v : Value) → Needed st nothing qs → Wastes E st env (over v) (eval E qs)
unfolding eval
over_wasted v all_needed = over_ends v

turn_wasted : {st : Names} {E : Enter} {env : Env} (es ps : Forest) → Binds st env → Needed st es ps → AllNodes es → IsSome es → Wastes E st env (with_value (in_turn (eval E es) env) over) (eval E ps)
unfolding eval in_turn
turn_wasted nothing ps b x y z = absurd z
turn_wasted (absent r) ps b x y z = absurd z
turn_wasted (node k n a nothing) ps b x y z = first_wasted b x (λ qs t v. over_wasted v t)
turn_wasted (node k n a (absent r)) ps b x y z = absurd y
turn_wasted {st = st} {E = E} {env = env} (node k n a (node l m c r)) ps b x y z =
    subst (λ m. Wastes E st env m (eval E ps)) (sym (value_on (meaning E k a now env) (λ v. in_turn (eval E (node l m c r)) env) over))
    (first_wasted b x (λ qs t v. turn_wasted (node l m c r) qs b t y tt))

sequence_does : (E : Enter) (n : Note) (es : Forest) (env : Env) → meaning E Kind.SequenceExpression (node Kind.Expressions n es nothing) now env ≡ in_turn (eval E es) env
unfolding need eval
sequence_does E n es env = refl

pub sequence_wasted : (st : Names) (n i j : Note) (es ps : Forest) → IsSome es → Needed st es ps → SameEffects st (node Kind.SequenceExpression n (node Kind.Expressions i es nothing) nothing) (kind_of ps) (below_of j ps) ps ps
sequence_wasted st n i j es ps y x = wastes_parts Kind.SequenceExpression n j (node Kind.Expressions i es nothing) ps (all_nodes x) (λ E env b.
    subst (λ m. Wastes E st env m (eval E ps)) (sym (ap (λ m. with_value m over) (sequence_does E i es env))) (turn_wasted es ps b x (needed_nodes x) y))

-- object literals

property_does : (E : Enter) (how : PropertyKind) (method : Bool) (key : Key) (k : Kind) (m : Note) (a t : Forest) (env : Env) (core : Bool) → core ≡ true
    → if_core core (does E (Kind.Property how method key) (absent (node k m a t)) (eval E (absent (node k m a t)))) entry env ≡ meaning E k a now env
unfolding need may eval
property_does E how method key k m a t env true h = refl
property_does E how method key k m a t env false h = absurd (true_false (sym h))

value_nodes : {st : Names} {es ps : Forest} → NeededValues st es ps → AllNodes ps
value_nodes all_needed_values = tt
value_nodes (needed_value h x) = value_nodes x
value_nodes (not_needed_value h q x) = value_nodes x

values_wasted : {st : Names} {es ps : Forest} (E : Enter) (env : Env) (after : List Value → M) → Binds st env → NeededValues st es ps → (f : List Value → List Value) → ((vs : List Value) → Wastes E st env (with_all (done (gives_all vs)) after) [])
    → Wastes E st env (with_all (values entry (eval E es) env (λ vs. done (gives_all (f vs)))) after) (eval E ps)
unfolding values eval
values_wasted E env after b all_needed_values f h = h (f [])
values_wasted {st = st} E env after b (needed_value {how = how} {method = method} {key = key} {k = k} {m = m} {a = a} {t = t} {r = r} {s = s} c x) f h =
    subst (λ p. Wastes E st env (with_all (with_value p (λ v. values entry (eval E r) env (λ vs. done (gives_all (f (v ∷ vs)))))) after) (Some (meaning E k a) ∷ eval E s)) (sym (property_does E how method key k m a t env (is_plain_property how key) c))
    (part_in (meaning E k a) (λ v. values entry (eval E r) env (λ vs. done (gives_all (f (v ∷ vs))))) after (λ v. values_wasted E env after b x (λ vs. f (v ∷ vs)) h))
values_wasted {st = st} E env after b (not_needed_value {how = how} {method = method} {key = key} {k = k} {m = m} {a = a} {t = t} {r = r} {s = s} c q x) f h =
    subst (λ p. Wastes E st env (with_all (with_value p (λ v. values entry (eval E r) env (λ vs. done (gives_all (f (v ∷ vs)))))) after) (eval E s)) (sym (property_does E how method key k m a t env (is_plain_property how key) c))
    (silent_in (meaning E k a now env) (λ v. values entry (eval E r) env (λ vs. done (gives_all (f (v ∷ vs))))) after (q.silent E env b) (λ v. values_wasted E env after b x (λ vs. f (v ∷ vs)) h))

after_object : Forest → List Value → M
after_object es vs = with_value (identity (λ i. give (object i (object_content es vs no_content)))) over

object_soon : (es : Forest) (vs : List Value) (s : State) → EndsSoon s (with_all (done (gives_all vs)) (after_object es) s)
unfolding bind done identity over after_object
object_soon es vs s = ends_soon (record { budget = refl; fresh = omega arith; store = λ i h. refl; globals = λ x. refl; imports = λ x y. refl; shown = refl; moves = refl; exports = refl; stars = refl })

object_does : (E : Enter) (m : Note) (es : Forest) (env : Env) → with_value (meaning E Kind.ObjectExpression (node Kind.Properties m es nothing) now env) over ≡ with_all (values entry (eval E es) env (λ vs. done (gives_all vs))) (after_object es)
unfolding need eval after_object
object_does E m es env = all_value (values entry (eval E es) env (λ vs. done (gives_all vs))) (λ vs. identity (λ i. give (object i (object_content es vs no_content)))) over

pub object_wasted : (st : Names) (n i j : Note) (es ps : Forest) → NeededValues st es ps → SameEffects st (node Kind.ObjectExpression n (node Kind.Properties i es nothing) nothing) (kind_of ps) (below_of j ps) ps ps
object_wasted st n i j es ps x = wastes_parts Kind.ObjectExpression n j (node Kind.Properties i es nothing) ps (value_nodes x) (λ E env b.
    subst (λ m. Wastes E st env m (eval E ps)) (sym (object_does E i es env)) (values_wasted E env (after_object es) b x (λ vs. vs) (λ vs. wastes_nothing (object_soon es vs))))

-- what a statement may waste, an expression may of which nobody takes the value

pub less_waste : (st : Names) (k : Kind) (i j : Note) (a ps : Forest) → IsSome ps → is_blunt k ≡ true → hoists_nothing (expression_kind ps) ≡ true → SameEffects st (node k i a nothing) (kind_of ps) (below_of j ps) ps ps
    → LessWaste st k a (expression_kind ps) (expression_below j ps) ps ps
less_waste st k i j a nothing y h g x = absurd y
less_waste st k i j a (absent r) y h g x = absurd y
less_waste st k i j a (node l m b nothing) y h g x = record { old_note = i; new_note = m; old_blunt = h; new_hoists = g; effects = x }
less_waste st k i j a (node l m b (absent r)) y h g x = record { old_note = i; new_note = j; old_blunt = h; new_hoists = g; effects = x }
less_waste st k i j a (node l m b (node z o c r)) y h g x = record { old_note = i; new_note = j; old_blunt = h; new_hoists = g; effects = x }

-- where the new expression stays, so do its parts
parts_stay : (st : Names) (j : Note) (ps : Forest) → IsSome ps → NodeStays fields st (expression_kind ps) (expression_below j ps) → Fits whole fields st ps
parts_stay st j nothing y h = absurd y
parts_stay st j (absent r) y h = absurd y
parts_stay st j (node l m b nothing) y h = (h, tt)
parts_stay st j (node l m b (absent r)) y h = h.1.0.1
parts_stay st j (node l m b (node z o c r)) y h = h.1.0.1

pub spared : (u : Purpose) (k : Kind) (i j : Note) (a ps : Forest) → ForEffect u → IsSome ps → is_blunt k ≡ true → hoists_nothing (expression_kind ps) ≡ true → ((st : Names) → SameEffects st (node k i a nothing) (kind_of ps) (below_of j ps) ps ps)
    → Stands u k a (expression_kind ps) (expression_below j ps)
spared u k i j a ps g y h t x = for_waste g (λ st. less_waste st k i j a ps y h t (x st)) (λ st. parts_stay st j ps y)
