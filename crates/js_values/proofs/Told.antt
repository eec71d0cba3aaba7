-- What is told of the nodes of a row is so.
use Rattle.std.proofs.Common.{◌≡◌, ◌∙◌, ℕ, zero, suc, List, [], ◌∷◌, Bool, true, false, not, ◌&&◌, Option, Some, None, if◌then◌else◌, bytes_eq, codes, refl, sym, ap, subst, true≢false}
use Rattle.js_syntax.specs.declared.node_kind.NodeKind.{NodeKind as Kind}
use Rattle.js_syntax.specs.declared.value.LiteralValue.{LiteralValue}
use Rattle.js_syntax.specs.declared.value.LiteralValue.TheVariants as literal
use Rattle.js_syntax.specs.declared.kind.FunctionKind.{FunctionKind}
use Rattle.js_syntax.specs.declared.kind.FunctionKind.TheVariants as function_kind
use Rattle.js_syntax.specs.declared.operator.UnaryOperator.{UnaryOperator}
use Rattle.js_syntax.specs.declared.operator.BinaryOperator.{BinaryOperator}
use Rattle.js_syntax.specs.declared.operator.LogicalOperator.{LogicalOperator}
use Rattle.js_syntax.specs.declared.operator.LogicalOperator.TheVariants as logical
use Rattle.js_syntax.specs.declared.operator.AssignmentOperator.TheVariants as assignment
use Rattle.js_syntax.specs.Facts.{is_core}
use Rattle.js_syntax.specs.Node.{Forest, nothing, node, absent, Note, below_of}
use Rattle.js_effects.specs.declared.value.ValueType.{ValueType}
use Rattle.js_effects.specs.declared.value.ValueType.TheVariants as type
use Rattle.js_effects.specs.declared.value.ConstantValue.{ConstantValue}
use Rattle.js_effects.specs.declared.value.ConstantValue.TheVariants as constant
use Rattle.js_effects.specs.Answers.{Answers}
use Rattle.js_effects.specs.Each.{last, inner_at}
use Rattle.js_effects.specs.Kinds.{common, literal_type, is_global_undefined, or_undetermined, type_by_number, type_from, types}
use Rattle.js_effects.specs.Values as known
use Rattle.js_effects.specs.Values.{Known, exactly, only_truth, unknown, exact, is_exact, is_true, is_false, constant_truth, literal_constant, unary_known, binary_known, and_known, or_known, coalesce_known, logical_known, conditional_known, known_by_number, known_at, text_of, known_from, knowns}
use Rattle.js_meaning.specs.Value.{Text, Env, Value, plain, undefined, null, boolean, number, text, host, other, closure, object, array, error, no_content, undef, literal_value}
use Rattle.js_meaning.specs.State.{Completion, M, choose, give, with_value, with_place}
use Rattle.js_meaning.specs.Operator as operator
use Rattle.js_meaning.specs.Operator.{is_other, is_object, truthy, goes_right, unary_of}
use Rattle.js_meaning.specs.Scope.{waiting, named_so, own_name, look}
use Rattle.js_meaning.specs.Host.{Enter}
use Rattle.js_meaning.specs.Reference.{Global, the_undefined, global_named, name_value, typeof_name, if_there, or_undefined, global_value}
use Rattle.js_meaning.specs.Node.{for_typeof, itself, to_call, Wanted, value, collect, place, now, Meaning, Parts, need}
use Rattle.js_meaning.specs.Expression.{wanted_by, fill_own, function_value, in_turn, array_content, object_content, logical_value, construct_value, binary_value, assign}
use Rattle.js_meaning.specs.Meaning.{does, if_core, eval}
use Rattle.js_values.specs.Gives.{Ends, Gives}
use Rattle.js_values.specs.Told.{as_value, HasType, Is, IsTold, ToldRow, NameIsTrue, NamesAreTrue, TellsNoConstant}
use Rattle.js_values.proofs.Gives.{ends_unknown, gives_give, ends_choose, gives_with, gives_some, gives_each, gives_with_all, gives_with_place, ends_identity, ends_fill, ends_declare, gives_map}
use Rattle.js_values.proofs.Shows.{ends_show, ends_show_all, gives_only, written}
use Rattle.js_values.proofs.Operators.{constant_is, unary_told}
use Rattle.js_values.proofs.Binary.{IsText, binary_told}

whatever : (v : Value) → IsTold type.Undetermined unknown v
whatever v = record { type = tt; known = tt }

-- ---- what chooses

left_type : (s t : ValueType) (v : Value) → HasType s v → HasType (common s t) v
left_type type.Undefined type.Undefined v h = h
left_type type.Null type.Null v h = h
left_type type.Number type.Number v h = h
left_type type.Boolean type.Boolean v h = h
left_type type.String type.String v h = h
left_type type.Object type.Object v h = h
left_type s t v h = tt

right_type : (s t : ValueType) (v : Value) → HasType t v → HasType (common s t) v
right_type type.Undefined type.Undefined v h = h
right_type type.Null type.Null v h = h
right_type type.Number type.Number v h = h
right_type type.Boolean type.Boolean v h = h
right_type type.String type.String v h = h
right_type type.Object type.Object v h = h
right_type s t v h = tt

exact_is : (k : Known) (v : Value) → Is k v → Is (exact k) v
exact_is (exactly c) v h = h
exact_is (only_truth b) v h = tt
exact_is unknown v h = tt

not_true : (b : Bool) → not b ≡ true → b ≡ false
not_true true e = absurd (true≢false (sym e))
not_true false e = refl

true_is : (k : Known) (v : Value) → is_true k ≡ true → Is k v → truthy v ≡ true
true_is (exactly c) v e h = ap truthy h ∙ constant_is c ∙ e
true_is (only_truth b) v e h = h ∙ e
true_is unknown v e h = absurd (true≢false (sym e))

false_is : (k : Known) (v : Value) → is_false k ≡ true → Is k v → truthy v ≡ false
false_is (exactly c) v e h = ap truthy h ∙ constant_is c ∙ not_true (constant_truth c) e
false_is (only_truth b) v e h = h ∙ not_true b e
false_is unknown v e h = absurd (true≢false (sym e))

both_not : (b c : Bool) → b ≡ true → b ≡ c → c ≡ false → ⊥
both_not b c e f g = true≢false (sym e ∙ f ∙ g)

first_and : (a b : Bool) → (a && b) ≡ true → a ≡ true
first_and true b e = refl
first_and false b e = absurd (true≢false (sym e))

-- the one of three that holds
by_three : (P : Known → Type 0) (a b c : Bool) (j k l : Known) → (a ≡ true → P j) → (b ≡ true → P k) → (c ≡ true → P l) → P unknown → P (if a then j else if b then k else if c then l else unknown)
by_three P true b c j k l h g f e = h refl
by_three P false true c j k l h g f e = g refl
by_three P false false true j k l h g f e = f refl
by_three P false false false j k l h g f e = e

by_two : (P : Known → Type 0) (a b : Bool) (j k : Known) → (a ≡ true → P j) → (b ≡ true → P k) → P unknown → P (if a then j else if b then k else unknown)
by_two P true b j k h g e = h refl
by_two P false true j k h g e = g refl
by_two P false false j k h g e = e

module _ (s t : ValueType) (j k : Known) (v : Value) (right : M) (h : IsTold s j v) (g : Gives (IsTold t k) right) where
  and_told : Gives (IsTold (common s t) (and_known j k)) (choose (truthy v) right (give v))
  and_told =
      ends_choose (truthy v)
      (λ e. gives_map g (λ u told. record {
        type = right_type s t u told.type;
        known = by_three (λ r. Is r u) (is_false j) (is_true j && is_exact k) (is_false k) j k (only_truth false)
            (λ f. absurd (true≢false (sym e ∙ false_is j v f h.known))) (λ f. told.known) (λ f. false_is k u f told.known) tt;
      }))
      (λ e. gives_give v (record {
        type = left_type s t v h.type;
        known = by_three (λ r. Is r v) (is_false j) (is_true j && is_exact k) (is_false k) j k (only_truth false)
            (λ f. h.known) (λ f. absurd (true≢false (sym (true_is j v (first_and (is_true j) (is_exact k) f) h.known) ∙ e))) (λ f. e) tt;
      }))

  or_told : Gives (IsTold (common s t) (or_known j k)) (choose (not (truthy v)) right (give v))
  or_told =
      ends_choose (not (truthy v))
      (λ e. gives_map g (λ u told. record {
        type = right_type s t u told.type;
        known = by_three (λ r. Is r u) (is_true j) (is_false j && is_exact k) (is_true k) j k (only_truth true)
            (λ f. absurd (true≢false (sym (true_is j v f h.known) ∙ not_true (truthy v) e))) (λ f. told.known) (λ f. true_is k u f told.known) tt;
      }))
      (λ e. gives_give v (record {
        type = left_type s t v h.type;
        known = by_three (λ r. Is r v) (is_true j) (is_false j && is_exact k) (is_true k) j k (only_truth true)
            (λ f. h.known) (λ f. absurd (true≢false (sym (ap not (false_is j v (first_and (is_false j) (is_exact k) f) h.known)) ∙ e))) (λ f. is_so (truthy v) e) tt;
      }))
    where
      is_so : (b : Bool) → not b ≡ false → b ≡ true
      is_so true e = refl
      is_so false e = absurd (true≢false e)

nullish_is : (c : ConstantValue) → operator.is_nullish (as_value c) ≡ known.is_nullish c
nullish_is (constant.Number z) = refl
nullish_is (constant.Text s) = refl
nullish_is (constant.Boolean b) = refl
nullish_is constant.Null = refl
nullish_is constant.Undefined = refl

by_one : (P : Known → Type 0) (a : Bool) (j k : Known) → (a ≡ true → P j) → (a ≡ false → P k) → P (if a then j else k)
by_one P true j k h g = h refl
by_one P false j k h g = g refl

coalesce_right : (j k : Known) (v u : Value) → operator.is_nullish v ≡ true → Is j v → Is k u → Is (coalesce_known j k) u
coalesce_right (exactly c) k v u e h g = by_one (λ r. Is r u) (known.is_nullish c) (exact k) (exactly c) (λ f. exact_is k u g) (λ f. absurd (true≢false (sym e ∙ ap operator.is_nullish h ∙ nullish_is c ∙ f)))
coalesce_right (only_truth b) k v u e h g = tt
coalesce_right unknown k v u e h g = tt

coalesce_left : (j k : Known) (v : Value) → operator.is_nullish v ≡ false → Is j v → Is (coalesce_known j k) v
coalesce_left (exactly c) k v e h = by_one (λ r. Is r v) (known.is_nullish c) (exact k) (exactly c) (λ f. absurd (true≢false (sym (ap operator.is_nullish h ∙ nullish_is c ∙ f) ∙ e))) (λ f. h)
coalesce_left (only_truth b) k v e h = tt
coalesce_left unknown k v e h = tt

logical_told : (o : LogicalOperator) (s t : ValueType) (j k : Known) (v : Value) (right : M) → IsTold s j v → Gives (IsTold t k) right → Gives (IsTold (common s t) (logical_known o j k)) (logical_value o v right)
logical_told logical.And s t j k v right h g = and_told s t j k v right h g
logical_told logical.Or s t j k v right h g = or_told s t j k v right h g
logical_told logical.Coalesce s t j k v right h g =
    ends_choose (operator.is_nullish v)
    (λ e. gives_map g (λ u told. record { type = right_type s t u told.type; known = coalesce_right j k v u e h.known told.known }))
    (λ e. gives_give v (record { type = left_type s t v h.type; known = coalesce_left j k v e h.known }))

conditional_told : (i j k : Known) (s t : ValueType) (v : Value) (c d : M) → Is i v → Gives (IsTold s j) c → Gives (IsTold t k) d → Gives (IsTold (common s t) (conditional_known i j k)) (choose (truthy v) c d)
conditional_told i j k s t v c d h g f =
    ends_choose (truthy v)
    (λ e. gives_map g (λ u told. record {
      type = left_type s t u told.type;
      known = by_two (λ r. Is r u) (is_true i) (is_false i) (exact j) (exact k) (λ x. exact_is j u told.known) (λ x. absurd (true≢false (sym e ∙ false_is i v x h))) tt;
    }))
    (λ e. gives_map f (λ u told. record {
      type = right_type s t u told.type;
      known = by_two (λ r. Is r u) (is_true i) (is_false i) (exact j) (exact k) (λ x. absurd (true≢false (sym (true_is i v x h) ∙ e))) (λ x. exact_is k u told.known) tt;
    }))

-- ---- what makes objects

object_true : (v : Value) → is_object v ≡ true → truthy v ≡ true
object_true (plain undefined) e = absurd (true≢false (sym e))
object_true (plain null) e = absurd (true≢false (sym e))
object_true (plain (boolean b)) e = absurd (true≢false (sym e))
object_true (plain (number z)) e = absurd (true≢false (sym e))
object_true (plain (text s)) e = absurd (true≢false (sym e))
object_true (plain (host i callable)) e = refl
object_true (plain (other i kind truth)) e = absurd (true≢false (sym e))
object_true (closure i f a env) e = refl
object_true (object i c) e = refl
object_true (array i c) e = refl
object_true (error i e) x = refl

pub need_any : {W : Completion → Type 0} {k : Meaning → Parts → M} (ms : Parts) → ((m : Meaning) (r : Parts) → Ends W (k m r)) → Ends W (need ms k)
unfolding need
need_any [] h = ends_unknown
need_any (None ∷ ms) h = ends_unknown
need_any (Some m ∷ ms) h = h m ms

an_object : Value → Type 0
an_object v = IsTold type.Object (only_truth true) v

literal_told : (v : LiteralValue) → IsTold (literal_type v) (exactly (literal_constant v)) (literal_value v)
literal_told literal.Null = record { type = refl; known = refl }
literal_told (literal.Boolean b) = record { type = refl; known = refl }
literal_told (literal.Number z) = record { type = refl; known = refl }
literal_told (literal.Text s) = record { type = refl; known = refl }

own_filled : (o : Option Text) (env : Env) (i : ℕ) (f : FunctionKind) (a : Forest) → Gives (IsTold type.Object (only_truth true)) (fill_own o env (closure i f a env) (give (closure i f a env)))
own_filled None env i f a = gives_give _ (record { type = refl; known = refl })
own_filled (Some x) env i f a = ends_fill (look env x) _ (gives_give _ (record { type = refl; known = refl }))

function_told : (f : FunctionKind) (a : Forest) (env : Env) → Gives (IsTold type.Object (only_truth true)) (function_value f a env)
function_told f a env = ends_declare (named_so (waiting true) (own_name f a)) env (λ env. ends_identity (λ i. own_filled (own_name f a) env i f a))

new_told : (E : Enter) (v : Value) (vs : List Value) → Gives (IsTold type.Undetermined (only_truth true)) (construct_value E v vs)
new_told E v vs = ends_choose (is_other v) (λ e. ends_unknown) (λ e. ends_show v (λ x. ends_show_all vs (λ xs. gives_map (gives_only is_object _) (λ w is. record { type = tt; known = object_true w is }))))

-- ---- names

undefined_named : (x : Text) (b : Bool) (g : Global) → b ≡ true → (if b then the_undefined else g) ≡ the_undefined
undefined_named x true g e = refl
undefined_named x false g e = absurd (true≢false (sym e))

undefined_given : (k : Option Value → M) (x : Text) → bytes_eq x (codes "undefined") ≡ true → Gives (λ v. v ≡ undef) (global_value (global_named x) x k)
undefined_given k x e = subst (λ g. Gives (λ v. v ≡ undef) (global_value g x k)) (sym (undefined_named x (bytes_eq x (codes "undefined")) _ e)) (gives_give undef refl)

abbrev Named : (w u : Bool) → ValueType → Known → M → Type 0
Named w u t k m = Gives (IsTold (if w then type.Undetermined else if u then type.Undefined else t) (if w then unknown else if u then exactly constant.Undefined else k)) m

named_told : (w u : Bool) (t : ValueType) (k : Known) (m : M) → t ≡ type.Undetermined → k ≡ unknown → (w ≡ false → u ≡ true → Gives (λ v. v ≡ undef) m) → Named w u t k m
named_told true u t k m e f h = gives_each whatever m
named_told false true t k m e f h = gives_map (h refl refl) (λ v is. record { type = is; known = is })
named_told false false t k m e f h = subst (λ s. Gives (IsTold s k) m) (sym e) (subst (λ r. Gives (IsTold type.Undetermined r) m) (sym f) (gives_each whatever m))

module _ (A : Answers) (env : Env) (E : Enter) (plainly : TellsNoConstant A) where
  no_type : (o : Option ℕ) → type_by_number A.names.constant_type o ≡ type.Undetermined
  no_type (Some i) = ap or_undetermined (plainly.types i)
  no_type None = refl

  no_known : (o : Option ℕ) → known_by_number A.names.constant o ≡ unknown
  no_known (Some i) = ap known.known_constant (plainly.values i)
  no_known None = refl

  -- ---- nodes, by what is told of what lies below them

  abbrev Row : Forest → Type 0
  Row a = ToldRow A env E a

  abbrev Node : Kind → Note → Forest → Wanted → M → Type 0
  Node k n a w m = Gives (IsTold (type_from A k n a (types A a)) (known_from A k n a (knowns A a))) m

  both_named : (u g : Bool) → (u && g) ≡ true → (u ≡ true) × (g ≡ true)
  both_named true true e = (refl, refl)
  both_named true false e = absurd (true≢false (sym e))
  both_named false g e = absurd (true≢false (sym e))

  name_told : (x : Text) (n : Note) (a : Forest) (w : Wanted) (below : Type 0) → NameIsTrue A env (Kind.ReferenceName x) n below → Node (Kind.ReferenceName x) n a w (does E (Kind.ReferenceName x) a (eval E a) (value w) env)
  name_told x n a w below h =
      named_told A.effects.inside_with (is_global_undefined A (Kind.ReferenceName x) n) (type_by_number A.names.constant_type n.id) (known_by_number A.names.constant n.id) _ (no_type n.id) (no_known n.id)
      (λ e f. let both = both_named (bytes_eq x (codes "undefined")) (A.names.is_global (Kind.ReferenceName x) n) f in given w both.0 (h e both.0 both.1))
    where
      given : (w : Wanted) → bytes_eq x (codes "undefined") ≡ true → look env x ≡ None → Gives (λ v. v ≡ undef) (does E (Kind.ReferenceName x) a (eval E a) (value w) env)
      given for_typeof e free = subst (λ o. Gives (λ v. v ≡ undef) (typeof_name o x)) (sym free) (undefined_given or_undefined x e)
      given itself e free = subst (λ o. Gives (λ v. v ≡ undef) (name_value o x)) (sym free) (undefined_given if_there x e)
      given to_call e free = subst (λ o. Gives (λ v. v ≡ undef) (name_value o x)) (sym free) (undefined_given if_there x e)

  first_told : (n : Note) (a : Forest) (w : Wanted) → Row a → Node Kind.ParenthesizedExpression n a w (need (eval E a) (λ m r. m (value w) env))
  unfolding need eval
  first_told n nothing w h = ends_unknown
  first_told n (absent r) w h = ends_unknown
  first_told n (node k m b r) w h = h.0 w

  sequence_told : (n : Note) (a : Forest) (w : Wanted) → Row a → Node Kind.SequenceExpression n a w (need (eval E a) (λ m r. m now env))
  unfolding need eval
  sequence_told n nothing w h = ends_unknown
  sequence_told n (absent r) w h = ends_unknown
  sequence_told n (node k m b r) w h = h.0 itself

  turns_told : (t : ValueType) (j : Known) (a : Forest) → Row a → Gives (IsTold (last t (types A a)) (last j (knowns A a))) (in_turn (eval E a) env)
  unfolding in_turn eval
  turns_told t j nothing h = ends_unknown
  turns_told t j (absent r) h = ends_unknown
  turns_told t j (node k m b nothing) h = h.0 itself
  turns_told t j (node k m b (absent r)) h = gives_with (h.0 itself) (λ v told. ends_unknown)
  turns_told t j (node k m b (node l i c r)) h = gives_with (h.0 itself) (λ v told. turns_told (type_from A k m b (types A b)) (known_from A k m b (knowns A b)) (node l i c r) h.1)

  unary_node : (o : UnaryOperator) (n : Note) (a : Forest) (w : Wanted) → Row a → Node (Kind.UnaryExpression o) n a w (need (eval E a) (λ m r. with_value (m (value (wanted_by o)) env) (unary_of o)))
  unfolding need eval
  unary_node o n nothing w h = ends_unknown
  unary_node o n (absent r) w h = ends_unknown
  unary_node o n (node k m b r) w h = gives_with (h.0 (wanted_by o)) (λ v told. unary_told o _ _ v told)

  -- what stands as a text is known to be it
  text_known : (a : Forest) (i : ℕ) (x : List ℕ) → text_of (inner_at i a) ≡ Some x → known_at i (knowns A a) ≡ exactly (constant.Text x)
  text_known nothing i x e = absurd cc
  text_known (absent r) zero x e = absurd cc
  text_known (absent r) (suc i) x e = text_known r i x e
  text_known (node k n b r) (suc i) x e = text_known r i x e
  text_known (node Kind.ParenthesizedExpression n b r) zero x e = text_known b 0 x e
  text_known (node (Kind.Literal (literal.Text s)) n b r) zero x e = ap (λ (y : List ℕ). exactly (constant.Text y)) (same_text e)
    where
      same_text : Some s ≡ Some x → s ≡ x
      same_text e = cc
  text_known (node k n b r) zero x e = absurd cc

  stands_as_text : (a : Forest) (i : ℕ) (v : Value) → Is (known_at i (knowns A a)) v → IsText (text_of (inner_at i a)) v
  stands_as_text a i v h x e = subst (λ k. Is k v) (text_known a i x e) h

  binary_node : (o : BinaryOperator) (n : Note) (a : Forest) (w : Wanted) → Row a → Node (Kind.BinaryExpression o) n a w (need (eval E a) (λ l r. need r (λ m r. with_value (l now env) (λ v. with_value (m now env) (binary_value E o v)))))
  unfolding need eval
  binary_node o n (node k m b (node l i c r)) w h =
      gives_with (h.0 itself) (λ v told. gives_with (h.1.0 itself) (λ u told_too.
      binary_told _ _ (text_of (inner_at 0 (node k m b (node l i c r)))) (text_of (inner_at 1 (node k m b (node l i c r)))) _ _ v u told told_too
      (stands_as_text (node k m b (node l i c r)) 0 v told.known) (stands_as_text (node k m b (node l i c r)) 1 u told_too.known) E o))
  binary_node o n nothing w h = ends_unknown
  binary_node o n (absent r) w h = ends_unknown
  binary_node o n (node k m b nothing) w h = ends_unknown
  binary_node o n (node k m b (absent r)) w h = ends_unknown

  logical_node : (o : LogicalOperator) (n : Note) (a : Forest) (w : Wanted) → Row a → Node (Kind.LogicalExpression o) n a w (need (eval E a) (λ l r. need r (λ m r. with_value (l now env) (λ v. logical_value o v (m now env)))))
  unfolding need eval
  logical_node o n (node k m b (node l i c r)) w h = gives_with (h.0 itself) (λ v told. logical_told o _ _ _ _ v _ told (h.1.0 itself))
  logical_node o n nothing w h = ends_unknown
  logical_node o n (absent r) w h = ends_unknown
  logical_node o n (node k m b nothing) w h = ends_unknown
  logical_node o n (node k m b (absent r)) w h = ends_unknown

  conditional_node : (n : Note) (a : Forest) (w : Wanted) → Row a → Node Kind.ConditionalExpression n a w (need (eval E a) (λ t r. need r (λ c r. need r (λ d r. with_value (t now env) (λ v. choose (truthy v) (c now env) (d now env))))))
  unfolding need eval
  conditional_node n (node k m b (node l i c (node p j d r))) w h = gives_with (h.0 itself) (λ v told. conditional_told _ _ _ _ _ v _ _ told.known (h.1.0 itself) (h.1.1.0 itself))
  conditional_node n nothing w h = ends_unknown
  conditional_node n (absent r) w h = ends_unknown
  conditional_node n (node k m b nothing) w h = ends_unknown
  conditional_node n (node k m b (absent r)) w h = ends_unknown
  conditional_node n (node k m b (node l i c nothing)) w h = ends_unknown
  conditional_node n (node k m b (node l i c (absent r))) w h = ends_unknown

  -- `=` gives what is assigned
  assigned_node : (n : Note) (a : Forest) (w : Wanted) → Row a → Node (Kind.AssignmentExpression assignment.Assign) n a w (need (eval E a) (λ t r. need r (λ m r. with_place (t place env) (λ p. assign E assignment.Assign p (m now env)))))
  unfolding need eval
  assigned_node n (node k m b (node l i c r)) w h =
      gives_with_place _ (λ p. gives_with (h.1.0 itself) (λ v told. gives_map (written v E p) (λ u same. record { type = subst (HasType _) (sym same) told.type; known = tt })))
  assigned_node n nothing w h = ends_unknown
  assigned_node n (absent r) w h = ends_unknown
  assigned_node n (node k m b nothing) w h = ends_unknown
  assigned_node n (node k m b (absent r)) w h = ends_unknown

  told_node : (k : Kind) (n : Note) (a : Forest) → NameIsTrue A env k n (NamesAreTrue A env a) → (NamesAreTrue A env a → Row a) → (w : Wanted) → Node k n a w (does E k a (eval E a) (value w) env)
  told_node (Kind.Literal v) n a true_of rows w = gives_give _ (literal_told v)
  told_node (Kind.RegExp x) n a true_of rows w = ends_unknown
  told_node (Kind.Function function_kind.Declaration pure) n a true_of rows w = ends_unknown
  told_node (Kind.Function function_kind.Expression pure) n a true_of rows w = function_told function_kind.Expression a env
  told_node (Kind.Function function_kind.Arrow pure) n a true_of rows w = function_told function_kind.Arrow a env
  told_node (Kind.Class how) n a true_of rows w = ends_unknown
  told_node Kind.ArrayExpression n a true_of rows w = need_any (eval E a) (λ m r. gives_with_all (m collect env) (λ vs. ends_identity (λ i. gives_give (array i (array_content vs)) (record { type = refl; known = refl }))))
  told_node Kind.ObjectExpression n a true_of rows w =
      need_any (eval E a) (λ m r. gives_with_all (m collect env) (λ vs. ends_identity (λ i. gives_give (object i (object_content (below_of a) vs no_content)) (record { type = refl; known = refl }))))
  told_node (Kind.NewExpression pure) n a true_of rows w = need_any (eval E a) (λ c r. need_any r (λ args r. gives_with (gives_some (c now env)) (λ f given. gives_with_all (args collect env) (new_told E f))))
  told_node Kind.TemplateLiteral n a true_of rows w = ends_unknown
  told_node (Kind.ReferenceName x) n a true_of rows w = name_told x n a w (NamesAreTrue A env a) true_of
  told_node Kind.ParenthesizedExpression n a true_of rows w = first_told n a w (rows true_of)
  told_node Kind.SequenceExpression n a true_of rows w = sequence_told n a w (rows true_of)
  told_node Kind.Expressions n a true_of rows w = turns_told type.Undetermined unknown a (rows true_of)
  told_node (Kind.AssignmentExpression assignment.Assign) n a true_of rows w = assigned_node n a w (rows true_of)
  told_node (Kind.AssignmentExpression o) n a true_of rows w = gives_each whatever _
  told_node Kind.ConditionalExpression n a true_of rows w = conditional_node n a w (rows true_of)
  told_node (Kind.LogicalExpression o) n a true_of rows w = logical_node o n a w (rows true_of)
  told_node (Kind.UnaryExpression o) n a true_of rows w = unary_node o n a w (rows true_of)
  told_node (Kind.BinaryExpression o) n a true_of rows w = binary_node o n a w (rows true_of)
  told_node k n a true_of rows w = gives_each whatever _

  if_core_told : (core : Bool) (P : Value → Type 0) (m : Meaning) (w : Wanted) → Gives P (m (value w) env) → Gives P (if_core core m (value w) env)
  if_core_told true P m w h = h
  if_core_told false P m w h = ends_unknown

  pub told_row : (t : Forest) → NamesAreTrue A env t → ToldRow A env E t
  told_row nothing true_of = tt
  told_row (absent r) true_of = told_row r true_of
  told_row (node k n a r) true_of = ((λ w. if_core_told (is_core k) _ (does E k a (eval E a)) w (told_node k n a true_of.0 (told_row a) w)), told_row r true_of.1)
