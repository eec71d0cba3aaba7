-- What a sum wastes of which nobody takes the value, and of which a side that does nothing but give a text becomes the empty one: what
-- stands beside it is converted alike, and nobody can tell when the text was given.
use Rattle.std.proofs.Common.{◌≡◌, ◌∙◌, ◌≤◌, ◌+◌, ℕ, List, [], ◌∷◌, Bool, true, false, not, ◌&&◌, ◌||◌, arith, refl, sym, ap, subst, true≢false}
use Rattle.js_syntax.specs.declared.node_kind.NodeKind.{NodeKind as Kind}
use Rattle.js_syntax.specs.declared.operator.BinaryOperator.TheVariants as binary
use Rattle.js_syntax.specs.declared.value.LiteralValue.{LiteralValue as Literal}
use Rattle.js_syntax.specs.Facts.{weight}
use Rattle.js_syntax.specs.Node.{Note, Forest, nothing, node, absent, alone, total}
use Rattle.js_syntax.proofs.Truth.{first_of_both, second_of_both, first_of_neither, second_of_neither}
use Rattle.js_tree.specs.Count.{one_each}
use Rattle.js_tree.specs.Walk.{is_list}
use Rattle.js_effects.specs.declared.value.ValueType.{ValueType}
use Rattle.js_effects.specs.declared.value.ValueType.TheVariants.{String, Undetermined}
use Rattle.js_effects.specs.Each.{last}
use Rattle.js_effects.specs.Answers.{bare_answers}
use Rattle.js_effects.specs.Kinds.{type_from, types, type_at, type_of}
use Rattle.js_meaning.specs.Value.{Env, undefined, null, boolean, number, text, host, other, Value, plain}
use Rattle.js_meaning.specs.Trace.{Ending}
use Rattle.js_meaning.specs.State.{State, Out, goes, stops, normal, gives, gives_all, refers, breaks, continues, returns, throws, M, go_on, more, bind, done, stop, unknown, choose, give, if_gives, with_value}
use Rattle.js_meaning.specs.Host.{Enter}
use Rattle.js_meaning.specs.Node.{itself, now}
use Rattle.js_meaning.specs.Expression.{binary_value}
use Rattle.js_meaning.specs.Meaning.{eval}
use Rattle.js_meaning_near.specs.Quiet.{EndsQuietly, gives_quietly, stops_quietly, Quiet}
use Rattle.js_meaning_near.specs.Wasted.{Wastes, wastes_part, wastes_silent}
use Rattle.js_meaning_near.specs.Names.{Names}
use Rattle.js_meaning_near.specs.Near.{meaning, Silent, SameEffects}
use Rattle.js_meaning_near.specs.Examples.{sum, text_of}
use Rattle.js_meaning_near.proofs.Effects.{more_nothing}
use Rattle.js_meaning_near.proofs.Spared.{statement_is, binary_does, two_on}
use Rattle.js_meaning_near.proofs.Unused.{over, over_ends, stands}
use Rattle.js_values.specs.Gives.{OfValue, IsSo, Gives}
use Rattle.js_values.specs.Told.{is_text, HasType}
use Rattle.js_values.proofs.Gives.{gives_map}
use Rattle.js_values.proofs.Values.{told_by_form}
use Rattle.steps.specs.Allowed.TwoSides.{is_empty_text, is_text_type, gives_text}
use Rattle.steps.specs.Allowed.UnusedOperation.{acts}

abbrev plus : Kind
plus = Kind.BinaryExpression binary.Addition

abbrev added : Enter → Value → Value → M
added E v u = binary_value E binary.Addition v u

abbrev no_text : Value
no_text = plain (text [])

abbrev IsText : Value → Type 0
IsText v = is_text v ≡ true

-- ---- what is joined to a text, or a text to it, and then let go

left_alike : (E : Enter) (v : Value) → IsText v → (u : Value) → with_value (added E v u) over ≡ with_value (added E no_text u) over
unfolding bind done stop over choose
left_alike E (plain (text s)) t (plain undefined) = refl
left_alike E (plain (text s)) t (plain null) = refl
left_alike E (plain (text s)) t (plain (boolean b)) = refl
left_alike E (plain (text s)) t (plain (number z)) = refl
left_alike E (plain (text s)) t (plain (text r)) = refl
left_alike E (plain (text s)) t (plain (host h callable)) = refl
left_alike E (plain (text s)) t (plain (other i kind b)) = refl
left_alike E (plain (text s)) t u = refl
left_alike E v t u = absurd (true≢false (sym t))

right_alike : (E : Enter) (v u : Value) → IsText u → with_value (added E v u) over ≡ with_value (added E v no_text) over
unfolding bind done stop over choose
right_alike E (plain undefined) (plain (text s)) t = refl
right_alike E (plain null) (plain (text s)) t = refl
right_alike E (plain (boolean b)) (plain (text s)) t = refl
right_alike E (plain (number z)) (plain (text s)) t = refl
right_alike E (plain (text r)) (plain (text s)) t = refl
right_alike E (plain (host h callable)) (plain (text s)) t = refl
right_alike E (plain (other i kind b)) (plain (text s)) t = refl
right_alike E v (plain (text s)) t = refl
right_alike E v u t = absurd (true≢false (sym t))

-- it gives a value, or is uncovered
data Answers : M → Type 0 where
  a_value : (v : Value) → Answers (give v)
  no_value : Answers unknown

text_answers : (E : Enter) (v : Value) → Answers (added E v no_text)
unfolding choose
text_answers E (plain undefined) = a_value _
text_answers E (plain null) = a_value _
text_answers E (plain (boolean b)) = a_value _
text_answers E (plain (number z)) = a_value _
text_answers E (plain (text r)) = a_value _
text_answers E (plain (host h callable)) = no_value
text_answers E (plain (other i kind b)) = no_value
text_answers E v = no_value

-- ---- what follows a value that is told sees no other

module _ (P : Value → Type 0) (f g : Value → M) (same : (v : Value) → P v → f v ≡ g v) where
  told_out : (o : Out) → IsSo (OfValue P) o → go_on o (if_gives (λ v r. f v)) ≡ go_on o (if_gives (λ v r. g v))
  told_out (goes es z (gives v r)) told = ap (λ (m : M). more es (m z)) (same v told)
  told_out (goes es z normal) told = refl
  told_out (goes es z (gives_all vs)) told = refl
  told_out (goes es z (refers p)) told = refl
  told_out (goes es z (breaks l)) told = refl
  told_out (goes es z (continues l)) told = refl
  told_out (goes es z (returns v)) told = refl
  told_out (goes es z (throws v)) told = refl
  told_out (stops es e) told = refl

  told_on : (m : M) → Gives P m → with_value m f ≡ with_value m g
  unfolding bind
  told_on m told = λ i s. told_out (m s) (told.at s) i

-- ---- what does nothing but give a value may be evaluated later

given_on : (v : Value) (f : Value → M) → with_value (give v) f ≡ f v
unfolding bind done
given_on v f = λ i s. more_nothing (f v s) i

quiet_out : (f : Value → M) (s : State) (o : Out) → ((v : Value) → f v ≡ unknown) → EndsQuietly s o → go_on o (if_gives (λ v r. f v)) ≡ stops [] Ending.uncovered
unfolding stop
quiet_out f s _ none (gives_quietly {z = z} {v = v} a) = ap (λ (m : M). more [] (m z)) (none v)
quiet_out f s _ none stops_quietly = refl

unknown_on : (f : Value → M) → with_value unknown f ≡ unknown
unfolding bind stop
unknown_on f = refl

quiet_unknown : (m : M) → Quiet m → with_value m (λ u. with_value unknown over) ≡ unknown
unfolding bind stop
quiet_unknown m q = λ i s. quiet_out (λ u. with_value unknown over) s (m s) (λ v. unknown_on over) (q.quiet s) i

later : (m n : M) → Quiet m → Answers n → with_value m (λ u. with_value n over) ≡ with_value n (λ w. with_value m over)
unfolding over
later m _ q (a_value v) = ap (with_value m) (λ i u. given_on v over i) ∙ sym (given_on v (λ w. with_value m over))
later m _ q no_value = quiet_unknown m q ∙ sym (unknown_on (λ w. with_value m over))

-- ---- the sum as a statement

module _ (E : Enter) (env : Env) (k l : Kind) (i j h : Note) (a b c : Forest) (told : Gives IsText (meaning E k a now env)) where
  abbrev giving : M
  giving = meaning E k a now env

  abbrev beside : M
  beside = meaning E l b now env

  first_old : with_value (meaning E plus (node k i a (node l j b nothing)) now env) over ≡ with_value giving (λ v. with_value beside (λ u. with_value (added E v u) over))
  first_old = ap (λ m. with_value m over) (binary_does E binary.Addition k l i j a b env) ∙ two_on giving beside (binary_value E binary.Addition) over

  first_new : with_value (meaning E plus (text_of [] h c (node l j b nothing)) now env) over ≡ with_value beside (λ u. with_value (added E no_text u) over)
  first_new =
      ap (λ m. with_value m over) (binary_does E binary.Addition (Kind.Literal (Literal.Text [])) l h j c b env)
      ∙ two_on (meaning E (Kind.Literal (Literal.Text [])) c now env) beside (binary_value E binary.Addition) over
      ∙ given_on no_text (λ v. with_value beside (λ u. with_value (added E v u) over))

  first_is : with_value giving (λ v. with_value (meaning E plus (text_of [] h c (node l j b nothing)) now env) over) ≡ with_value (meaning E plus (node k i a (node l j b nothing)) now env) over
  first_is =
      ap (with_value giving) (λ x v. first_new x)
      ∙ sym (told_on IsText (λ v. with_value beside (λ u. with_value (added E v u) over)) (λ v. with_value beside (λ u. with_value (added E no_text u) over)) (λ v t. ap (with_value beside) (λ x u. left_alike E v t u x)) giving told)
      ∙ sym first_old

  second_old : with_value (meaning E plus (node l j b (node k i a nothing)) now env) over ≡ with_value beside (λ v. with_value giving (λ u. with_value (added E v u) over))
  second_old = ap (λ m. with_value m over) (binary_does E binary.Addition l k j i b a env) ∙ two_on beside giving (binary_value E binary.Addition) over

  second_new : (f : Value → M) → with_value (meaning E plus (node l j b (text_of [] h c nothing)) now env) f ≡ with_value beside (λ v. with_value (added E v no_text) f)
  second_new f =
      ap (λ m. with_value m f) (binary_does E binary.Addition l (Kind.Literal (Literal.Text [])) j h b c env)
      ∙ two_on beside (meaning E (Kind.Literal (Literal.Text [])) c now env) (binary_value E binary.Addition) f
      ∙ ap (with_value beside) (λ x v. given_on no_text (λ u. with_value (added E v u) f) x)

  second_is : Quiet giving → with_value (meaning E plus (node l j b (text_of [] h c nothing)) now env) (λ w. with_value giving over) ≡ with_value (meaning E plus (node l j b (node k i a nothing)) now env) over
  second_is q =
      second_new (λ w. with_value giving over)
      ∙ ap (with_value beside) (λ x v. sym (later giving (added E v no_text) q (text_answers E v)) x)
      ∙ ap (with_value beside) (λ x v. sym (told_on IsText (λ u. with_value (added E v u) over) (λ u. with_value (added E v no_text) over) (λ u t. right_alike E v u t) giving told) x)
      ∙ sym second_old

-- ---- what it weighs

abbrev Weighs : Kind → ℕ → Type 0
Weighs k w = (3 ≤ w) × (is_list k ≡ false → is_empty_text k ≡ false → 4 ≤ w)

heavy : (k : Kind) (w : ℕ) → 4 ≤ w → Weighs k w
heavy k w h = (Prim.omega (arith, h), λ no_list full. h)

text_node : (k : Kind) (n : Note) (a : Forest) → (type_at 0 (types bare_answers a) ≡ String → 3 ≤ total weight a) → (last Undetermined (types bare_answers a) ≡ String → 3 ≤ total weight a)
    → type_from bare_answers k n a (types bare_answers a) ≡ String → Weighs k (weight k + total weight a)
text_node (Kind.Literal (Literal.Text [])) n a first final is = (Prim.omega arith, λ no_list full. absurd (true≢false full))
text_node (Kind.Literal (Literal.Text (c ∷ cs))) n a first final is = (Prim.omega arith, λ no_list full. Prim.omega arith)
text_node (Kind.Literal v) n a first final is = absurd cc
text_node Kind.ParenthesizedExpression n a first final is = heavy Kind.ParenthesizedExpression (1 + total weight a) (Prim.omega (arith, first is))
text_node Kind.SequenceExpression n a first final is = heavy Kind.SequenceExpression (2 + total weight a) (Prim.omega (arith, first is))
text_node Kind.Expressions n a first final is = (Prim.omega (arith, final is), λ no_list full. absurd (true≢false no_list))
text_node (Kind.Directive written) n a first final is = absurd cc
text_node Kind.ExpressionStatement n a first final is = absurd cc
text_node Kind.BlockStatement n a first final is = absurd cc
text_node Kind.FunctionBody n a first final is = absurd cc
text_node Kind.EmptyStatement n a first final is = absurd cc
text_node Kind.SwitchCase n a first final is = absurd cc
text_node Kind.CatchClause n a first final is = absurd cc
text_node (Kind.Function how pure) n a first final is = absurd cc
text_node (Kind.VariableDeclaration how) n a first final is = absurd cc
text_node Kind.VariableDeclarator n a first final is = absurd cc
text_node (Kind.Class how) n a first final is = absurd cc
text_node Kind.ClassBody n a first final is = absurd cc
text_node Kind.ArrayExpression n a first final is = absurd cc
text_node Kind.ObjectExpression n a first final is = absurd cc
text_node Kind.ChainExpression n a first final is = absurd cc
text_node (Kind.TemplateElement written tail) n a first final is = absurd cc
text_node Kind.SpreadElement n a first final is = absurd cc
text_node Kind.BindingRest n a first final is = absurd cc
text_node Kind.TargetRest n a first final is = absurd cc
text_node (Kind.ExportNamedDeclaration source) n a first final is = absurd cc
text_node Kind.Hole n a first final is = absurd cc
text_node Kind.Statements n a first final is = absurd cc
text_node Kind.Cases n a first final is = absurd cc
text_node Kind.Declarators n a first final is = absurd cc
text_node Kind.Parameters n a first final is = absurd cc
text_node Kind.Members n a first final is = absurd cc
text_node Kind.Elements n a first final is = absurd cc
text_node Kind.Properties n a first final is = absurd cc
text_node Kind.Arguments n a first final is = absurd cc
text_node Kind.Quasis n a first final is = absurd cc
text_node Kind.Specifiers n a first final is = absurd cc
text_node k n a first final is = heavy k (weight k + total weight a) (Prim.omega arith)

-- where the first of a row gives a text, and where the last does
abbrev TextRow : Forest → Type 0
TextRow t = (type_at 0 (types bare_answers t) ≡ String → 3 ≤ total weight t) × (last Undetermined (types bare_answers t) ≡ String → 3 ≤ total weight t)

one_node_more : (k : Kind) (n : Note) (a r : Forest) → TextRow a → TextRow r → TextRow (node k n a r)
one_node_more k n a r below after = (λ is. Prim.omega (arith, (text_node k n a below.0 below.1 is).0), by_rest (types bare_answers r) refl)
  where
    by_rest : (ts : List ValueType) → types bare_answers r ≡ ts → last (type_from bare_answers k n a (types bare_answers a)) ts ≡ String → 3 ≤ total weight (node k n a r)
    by_rest [] same is = Prim.omega (arith, (text_node k n a below.0 below.1 is).0)
    by_rest (y ∷ ys) same is = Prim.omega (arith, after.1 (ap (last Undetermined) same ∙ is))

text_row : (t : Forest) → TextRow t
text_row nothing = (λ is. absurd cc, λ is. absurd cc)
text_row (absent r) = (λ is. absurd cc, (text_row r).1)
text_row (node k n a r) = one_node_more k n a r (text_row a) (text_row r)

-- ---- by what its form tells of it

pub record GivesText (k : Kind) (n : Note) (a : Forest) : Type 0 where
  pub idle : acts k n a ≡ false
  pub type : type_of bare_answers (alone k n a) ≡ String
  pub weighs : 4 ≤ weight k + total weight a
  pub counts : one_each k ≡ 1

is_text_kind : (y : ValueType) → is_text_type y ≡ true → y ≡ String
is_text_kind String is = refl
is_text_kind y is = absurd (true≢false (sym is))

one_node : (k : Kind) → is_list k ≡ false → one_each k ≡ 1
one_node Kind.Statements is = absurd (true≢false is)
one_node Kind.Cases is = absurd (true≢false is)
one_node Kind.Declarators is = absurd (true≢false is)
one_node Kind.Parameters is = absurd (true≢false is)
one_node Kind.Members is = absurd (true≢false is)
one_node Kind.Elements is = absurd (true≢false is)
one_node Kind.Properties is = absurd (true≢false is)
one_node Kind.Expressions is = absurd (true≢false is)
one_node Kind.Arguments is = absurd (true≢false is)
one_node Kind.Quasis is = absurd (true≢false is)
one_node Kind.Specifiers is = absurd (true≢false is)
one_node k is = refl

denied : (b : Bool) → not b ≡ true → b ≡ false
denied true e = absurd (true≢false (sym e))
denied false e = refl

pub its_text : (k : Kind) (n : Note) (a : Forest) → gives_text k n a ≡ true → GivesText k n a
its_text k n a is =
    let full = denied (is_empty_text k) (first_of_both (not (is_empty_text k)) (not (acts k n a || is_list k) && is_text_type (type_of bare_answers (alone k n a))) is) in
    let others = second_of_both (not (is_empty_text k)) (not (acts k n a || is_list k) && is_text_type (type_of bare_answers (alone k n a))) is in
    let neither = denied (acts k n a || is_list k) (first_of_both (not (acts k n a || is_list k)) (is_text_type (type_of bare_answers (alone k n a))) others) in
    let type = is_text_kind (type_of bare_answers (alone k n a)) (second_of_both (not (acts k n a || is_list k)) (is_text_type (type_of bare_answers (alone k n a))) others) in
    let no_list = second_of_neither (acts k n a) (is_list k) neither in
    record { idle = first_of_neither (acts k n a) (is_list k) neither; type = type; weighs = (text_node k n a (text_row a).0 (text_row a).1 type).1 no_list full; counts = one_node k no_list }

-- ---- and so of its value

text_told : (E : Enter) (env : Env) (k : Kind) (n : Note) (a : Forest) → type_of bare_answers (alone k n a) ≡ String → Gives IsText (meaning E k a now env)
text_told E env k n a is = gives_map ((told_by_form env E (alone k n a)).0 itself) (λ v t. subst (λ y. HasType y v) is t.type)

module _ (st : Names) (k l : Kind) (n m i j h : Note) (a b c : Forest) (silent : Silent st k a) (is : type_of bare_answers (alone k i a) ≡ String) where
  abbrev first_left : Forest
  first_left = text_of [] h c (node l j b nothing)

  pub first_silent_wasted : SameEffects st (sum n (node k i a (node l j b nothing))) Kind.ExpressionStatement (sum m first_left) (sum m first_left) (sum m first_left)
  unfolding eval
  first_silent_wasted = record {
    new_hoists = refl;
    wastes = λ E env binds ls. subst (λ z. Wastes E st env z (eval E (sum m first_left)))
        (first_is E env k l i j h a b c (text_told E env k i a is) ∙ statement_is E plus n (node k i a (node l j b nothing)) ls env)
        (wastes_silent (silent.silent E env binds) (λ v. wastes_part (λ u. over_ends u)));
    drops_all = λ E env ls. stands E env m ls (sum m first_left) tt;
  }

  abbrev second_left : Forest
  second_left = node l j b (text_of [] h c nothing)

  pub second_silent_wasted : SameEffects st (sum n (node l j b (node k i a nothing))) Kind.ExpressionStatement (sum m second_left) (sum m second_left) (sum m second_left)
  unfolding eval
  second_silent_wasted = record {
    new_hoists = refl;
    wastes = λ E env binds ls. subst (λ z. Wastes E st env z (eval E (sum m second_left)))
        (second_is E env k l i j h a b c (text_told E env k i a is) (silent.silent E env binds) ∙ statement_is E plus n (node l j b (node k i a nothing)) ls env)
        (wastes_part (λ v. wastes_silent (silent.silent E env binds) (λ u. over_ends u)));
    drops_all = λ E env ls. stands E env m ls (sum m second_left) tt;
  }
