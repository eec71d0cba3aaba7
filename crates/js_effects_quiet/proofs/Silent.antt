-- What the silent forms do is quiet, whatever they are asked.
use Rattle.std.proofs.Common.{◌≡◌, ◌⊎◌, inl, inr, ℕ, List, [], ◌∷◌, Bool, true, false, ◌||◌, Option, Some, None, is_some, if◌then◌else◌, bytes_eq, codes, refl, subst, sym, true≢false}
use Rattle.std.proofs.lemmas.Slice.Eq.{bytes_eq-Decides}
use Rattle.js_syntax.specs.declared.node_kind.NodeKind.{NodeKind as Kind}
use Rattle.js_syntax.specs.Node.{Forest, nothing, node, absent, Note, alone}
use Rattle.js_syntax.specs.Facts.{is_core}
use Rattle.js_syntax.specs.declared.kind.FunctionKind.{FunctionKind}
use Rattle.js_syntax.specs.declared.kind.FunctionKind.TheVariants as function_kind
use Rattle.js_syntax.specs.declared.operator.UnaryOperator.{UnaryOperator}
use Rattle.js_syntax.specs.declared.operator.UnaryOperator.TheVariants as unary
use Rattle.js_syntax.specs.declared.operator.BinaryOperator.{BinaryOperator}
use Rattle.js_syntax.specs.declared.operator.BinaryOperator.TheVariants as binary
use Rattle.js_syntax.specs.declared.value.Key.{Key}
use Rattle.js_syntax.proofs.Truth.{second_of_both}
use Rattle.js_effects.specs.Answers.{Answers, bare_answers}
use Rattle.js_effects.specs.Each.{inner_at}
use Rattle.js_effects.specs.Kinds.{asks_an_object, types, all_primitive}
use Rattle.js_effects.specs.Still.{is_value}
use Rattle.js_effects.specs.Effects.{is_name, only_runs_parts, is_silent_binary, converts_primitives}
use Rattle.js_effects.specs.Silence.{is_nothing, is_one_name, runs_entries, runs_its_parts}
use Rattle.js_meaning.specs.Value.{Text, Slot, local, imported, arguments_object, bound as is_at, Env, this_name, Value, closure, undef}
use Rattle.js_meaning.specs.State.{Cell, cell, Completion, normal, gives, gives_all, M, give, alloc, identity}
use Rattle.js_meaning.specs.Operator.{truthy, goes_right}
use Rattle.js_meaning.specs.Scope.{waiting, named_so, own_name, look, declare, initialised, fill}
use Rattle.js_meaning.specs.Host.{Enter}
use Rattle.js_meaning.specs.Reference.{Global, the_undefined, global_named, if_set, cell_value, slot_value, if_there, global_value, name_value, typeof_name}
use Rattle.js_meaning.specs.Node.{for_typeof, Ask, run, value, place, collect, entry, now, Meaning, Parts, need, may, values, all_values}
use Rattle.js_meaning.specs.Expression.{wanted_by, fill_own, function_value, in_turn}
use Rattle.js_meaning.specs.Meaning.{does, if_core, eval}
use Rattle.js_effects_quiet.specs.Quiet.{Quietly, IsList, IsNormal, Quiet}
use Rattle.js_effects_quiet.specs.Silent.{HasBinding, IsFound, IsSilent, SilentRow, QuietNode, QuietRow, meaning}
use Rattle.js_syntax.specs.declared.kind.PropertyKind.{PropertyKind}
use Rattle.js_effects_quiet.proofs.Operators.{quiet_unary_of, quiet_binary_value, quiet_typeof_global}
use Rattle.js_effects_quiet.proofs.Quiet.{quiet_done, quiet_unknown, quiet_choose, quiet_read, quiet_import, quiet_identity, quiet_value, quiet_all, quiet_give, quiet_fresh}

-- the fields of a row

pub quiet_need : {W : Completion → Type 0} {k : Meaning → Parts → M} (env : Env) (ms : Parts) → QuietRow env ms → ((m : Meaning) (r : Parts) → QuietNode env m → QuietRow env r → Quietly W (k m r)) → Quietly W (need ms k)
unfolding need
quiet_need env [] rows h = quiet_unknown
quiet_need env (None ∷ ms) rows h = quiet_unknown
quiet_need env (Some m ∷ ms) rows h = h m ms rows.0 rows.1

pub quiet_may : {W : Completion → Type 0} {k : Option Meaning → Parts → M} (env : Env) (ms : Parts) → QuietRow env ms → ((o : Option Meaning) (r : Parts) → QuietRow env r → Quietly W (k o r)) → Quietly W (may ms k)
unfolding may
quiet_may env [] rows h = quiet_unknown
quiet_may env (o ∷ ms) rows h = h o ms rows.1

quiet_values : {W : Completion → Type 0} {k : List Value → M} (env : Env) (q : Ask) (ms : Parts) → ((m : Meaning) → QuietNode env m → Quiet (m q env)) → QuietRow env ms → ((vs : List Value) → Quietly W (k vs)) → Quietly W (values q ms env k)
unfolding values
quiet_values env q [] asked rows h = h []
quiet_values env q (None ∷ ms) asked rows h = quiet_unknown
quiet_values env q (Some m ∷ ms) asked rows h = quiet_value (asked m rows.0) (λ v. quiet_values env q ms asked rows.1 (λ vs. h (v ∷ vs)))

quiet_list : (env : Env) (q : Ask) (ms : Parts) → ((m : Meaning) → QuietNode env m → Quiet (m q env)) → QuietRow env ms → Quietly IsList (all_values q ms env)
quiet_list env q ms asked rows = quiet_values env q ms asked rows (λ vs. quiet_done (gives_all vs) tt)

quiet_in_turn : (env : Env) (ms : Parts) → QuietRow env ms → Quiet (in_turn ms env)
unfolding in_turn
quiet_in_turn env [] rows = quiet_unknown
quiet_in_turn env (None ∷ ms) rows = quiet_unknown
quiet_in_turn env (Some m ∷ []) rows = rows.0 now
quiet_in_turn env (Some m ∷ o ∷ ms) rows = quiet_value (rows.0 now) (λ v. quiet_in_turn env (o ∷ ms) rows.1)

-- names

quiet_if_set : (o : Option Value) → Quiet (if_set o)
quiet_if_set None = quiet_unknown
quiet_if_set (Some v) = quiet_give v

quiet_cell_value : (c : Cell) → Quiet (cell_value c)
quiet_cell_value (cell constant o) = quiet_if_set o

pub quiet_slot : (slot : Slot) → Quiet (slot_value slot)
quiet_slot (local c) = quiet_read c quiet_cell_value
quiet_slot (imported source x) = quiet_import source x quiet_if_set
quiet_slot arguments_object = quiet_unknown

is_undefined : (x : Text) (b : Bool) (g : Global) → b ≡ true → (if b then the_undefined else g) ≡ the_undefined
is_undefined x true g e = refl
is_undefined x false g e = absurd (true≢false (sym e))

quiet_undefined : (k : Option Value → M) (x : Text) → bytes_eq x (codes "undefined") ≡ true → Quiet (global_value (global_named x) x k)
quiet_undefined k x e = subst (λ g. Quiet (global_value g x k)) (sym (is_undefined x (bytes_eq x (codes "undefined")) _ e)) (quiet_give undef)

quiet_name : (o : Option Slot) (x : Text) → (is_some o ≡ true) ⊎ (bytes_eq x (codes "undefined") ≡ true) → Quiet (name_value o x)
quiet_name (Some slot) x h = quiet_slot slot
quiet_name None x (inl e) = absurd (true≢false (sym e))
quiet_name None x (inr e) = quiet_undefined if_there x e

quiet_bound : (o : Option Slot) (x : Text) → is_some o ≡ true → Quiet (name_value o x)
quiet_bound (Some slot) x b = quiet_slot slot
quiet_bound None x b = absurd (true≢false (sym b))

pub quiet_this : (E : Enter) (env : Env) (a : Forest) (ms : Parts) → HasBinding env this_name → QuietNode env (does E Kind.ThisExpression a ms)
quiet_this E env a ms b (value w) = quiet_bound (look env this_name) this_name b
quiet_this E env a ms b q = quiet_unknown

quiet_typeof_name : (o : Option Slot) (x : Text) → Quiet (typeof_name o x)
quiet_typeof_name (Some slot) x = quiet_slot slot
quiet_typeof_name None x = quiet_typeof_global (global_named x) x

-- functions: an expression's own name is a new cell

name_itself : (x : Text) → bytes_eq x x ≡ true
name_itself x = (bytes_eq-Decides x x).1 refl

abbrev OwnName : Text → ℕ → Env → Bool → FunctionKind → Forest → M
OwnName x c env b f a =
    identity (λ i. fill (if b then Some (local c) else look env x) (closure i f a (is_at x (local c) ∷ env)) (give (closure i f a (is_at x (local c) ∷ env))))

quiet_own_name : (b : Bool) (x : Text) (f : FunctionKind) (a : Forest) (env : Env) → b ≡ true → Quiet (alloc (cell true None) (λ c. OwnName x c env b f a))
quiet_own_name true x f a env e =
    quiet_fresh (cell true None) (λ c i old. initialised old (closure i f a (is_at x (local c) ∷ env))) (λ c i. gives (closure i f a (is_at x (local c) ∷ env)) undef) (λ c i. tt)
quiet_own_name false x f a env e = absurd (true≢false (sym e))

quiet_named : (o : Option Text) (f : FunctionKind) (a : Forest) (env : Env) → Quiet (declare (named_so (waiting true) o) env (λ env. identity (λ i. fill_own o env (closure i f a env) (give (closure i f a env)))))
unfolding declare
quiet_named None f a env = quiet_identity (λ i. quiet_give _)
quiet_named (Some x) f a env = quiet_own_name (bytes_eq x x) x f a env (name_itself x)

quiet_function : (f : FunctionKind) (a : Forest) (env : Env) → Quiet (function_value f a env)
quiet_function f a env = quiet_named (own_name f a) f a env

-- Each sort of kind.

pub quiet_kind : (E : Enter) (env : Env) (a : Forest) (ms : Parts) (k : Kind) → is_value k ≡ true → QuietNode env (does E k a ms)
quiet_kind E env a ms (Kind.Literal v) e (value w) = quiet_give _
quiet_kind E env a ms (Kind.Literal v) e q = quiet_unknown
quiet_kind E env a ms (Kind.RegExp x) e q = quiet_unknown
quiet_kind E env a ms (Kind.Function function_kind.Declaration pure) e q = absurd (true≢false (sym e))
quiet_kind E env a ms (Kind.Function function_kind.Expression pure) e (value w) = quiet_function function_kind.Expression a env
quiet_kind E env a ms (Kind.Function function_kind.Expression pure) e q = quiet_unknown
quiet_kind E env a ms (Kind.Function function_kind.Arrow pure) e (value w) = quiet_function function_kind.Arrow a env
quiet_kind E env a ms (Kind.Function function_kind.Arrow pure) e q = quiet_unknown
quiet_kind E env a ms Kind.NewTarget e q = quiet_unknown
quiet_kind E env a ms Kind.Hole e q = quiet_unknown
quiet_kind E env a ms (Kind.TemplateElement written tail) e q = quiet_unknown
quiet_kind E env a ms k e q = absurd (true≢false (sym e))

pub quiet_reference : (E : Enter) (env : Env) (a : Forest) (ms : Parts) (x : Text) → HasBinding env x ⊎ (bytes_eq x (codes "undefined") ≡ true) → QuietNode env (does E (Kind.ReferenceName x) a ms)
quiet_reference E env a ms x h (value for_typeof) = quiet_typeof_name (look env x) x
quiet_reference E env a ms x h (value w) = quiet_name (look env x) x h
quiet_reference E env a ms x h q = quiet_unknown

-- `typeof` of a name, parentheses aside
asked_for_its_type : {W : Completion → Type 0} {k : Meaning → Parts → M} (E : Enter) (env : Env) (a : Forest) → is_name (inner_at 0 a) ≡ true
    → ((m : Meaning) (r : Parts) → Quiet (m (value for_typeof) env) → Quietly W (k m r)) → Quietly W (need (eval E a) k)
unfolding eval need
asked_for_its_type E env (node (Kind.ReferenceName x) n a r) e h = h _ _ (quiet_typeof_name (look env x) x)
asked_for_its_type E env (node Kind.ParenthesizedExpression n a r) e h = h _ _ (asked_for_its_type E env a e (λ m ms q. q))
asked_for_its_type E env t e h = absurd (true≢false (sym e))

pub quiet_typeof : (E : Enter) (env : Env) (a : Forest) → is_name (inner_at 0 a) ≡ true → QuietNode env (does E (Kind.UnaryExpression unary.Typeof) a (eval E a))
quiet_typeof E env a named (value w) = asked_for_its_type E env a named (λ m r q. quiet_value q (quiet_unary_of unary.Typeof))
quiet_typeof E env a named q = quiet_unknown

pub one_name : (a : Forest) → is_one_name a ≡ true → is_name (inner_at 0 a) ≡ true
one_name (node (Kind.ReferenceName x) n a r) e = refl
one_name (node Kind.ParenthesizedExpression n a r) e = one_name a (second_of_both (is_nothing r) _ e)
one_name (node k n a r) e = absurd (true≢false (sym (second_of_both (is_nothing r) _ e)))
one_name nothing e = absurd (true≢false (sym e))
one_name (absent r) e = absurd (true≢false (sym e))

pub quiet_found : (E : Enter) (env : Env) (a : Forest) (k : Kind) → IsFound env k a → QuietNode env (does E k a (eval E a))
quiet_found E env a (Kind.ReferenceName x) h = quiet_reference E env a (eval E a) x h
quiet_found E env a Kind.ThisExpression h = quiet_this E env a (eval E a) h
quiet_found E env a (Kind.UnaryExpression unary.Typeof) h = quiet_typeof E env a (one_name a h)
quiet_found E env a k h = absurd h

-- ---- what runs its parts

quiet_unary : (E : Enter) (env : Env) (a : Forest) (ms : Parts) (o : UnaryOperator) → QuietRow env ms → QuietNode env (does E (Kind.UnaryExpression o) a ms)
quiet_unary E env a ms o rows (value w) = quiet_need env ms rows (λ m r h hs. quiet_value (h (value (wanted_by o))) (quiet_unary_of o))
quiet_unary E env a ms o rows q = quiet_unknown

quiet_binary : (E : Enter) (env : Env) (a : Forest) (ms : Parts) (o : BinaryOperator) → asks_an_object o ≡ false → QuietRow env ms → QuietNode env (does E (Kind.BinaryExpression o) a ms)
quiet_binary E env a ms o e rows (value w) =
    quiet_need env ms rows (λ l r h hs. quiet_need env r hs (λ m r g gs. quiet_value (h now) (λ v. quiet_value (g now) (λ u. quiet_binary_value E o v u e))))
quiet_binary E env a ms o e rows q = quiet_unknown

no_object : (o : BinaryOperator) (b : Bool) → is_silent_binary o b ≡ true → asks_an_object o ≡ false
no_object binary.In b e = absurd (true≢false (sym e))
no_object binary.Instanceof b e = absurd (true≢false (sym e))
no_object o b e = refl

pub quiet_only : (E : Enter) (env : Env) (a : Forest) (ms : Parts) (k : Kind) → only_runs_parts k ≡ true → QuietRow env ms → QuietNode env (does E k a ms)
quiet_only E env a ms Kind.ParenthesizedExpression e rows (value w) = quiet_need env ms rows (λ m r h hs. h (value w))
quiet_only E env a ms Kind.ParenthesizedExpression e rows place = quiet_need env ms rows (λ m r h hs. h place)
quiet_only E env a ms (Kind.LogicalExpression o) e rows (value w) = quiet_need env ms rows (λ l r h hs. quiet_need env r hs (λ m r g gs. quiet_value (h now) (λ v. quiet_choose (goes_right o v) (g now) (quiet_give v))))
quiet_only E env a ms Kind.ConditionalExpression e rows (value w) = quiet_need env ms rows (λ t r h hs. quiet_need env r hs (λ c r g gs. quiet_need env r gs (λ d r f fs. quiet_value (h now) (λ v. quiet_choose (truthy v) (g now) (f now)))))
quiet_only E env a ms Kind.SequenceExpression e rows (value w) = quiet_need env ms rows (λ m r h hs. h now)
quiet_only E env a ms Kind.Expressions e rows (value w) = quiet_in_turn env ms rows
quiet_only E env a ms Kind.ArrayExpression e rows (value w) = quiet_need env ms rows (λ m r h hs. quiet_all (h collect) (λ vs. quiet_identity (λ i. quiet_give _)))
quiet_only E env a ms Kind.Elements e rows collect = quiet_list env now ms (λ m h. h now) rows
quiet_only E env a ms Kind.ObjectExpression e rows (value w) = quiet_need env ms rows (λ m r h hs. quiet_all (h collect) (λ vs. quiet_identity (λ i. quiet_give _)))
quiet_only E env a ms Kind.ParenthesizedExpression e rows q = quiet_unknown
quiet_only E env a ms (Kind.LogicalExpression o) e rows q = quiet_unknown
quiet_only E env a ms Kind.ConditionalExpression e rows q = quiet_unknown
quiet_only E env a ms Kind.SequenceExpression e rows q = quiet_unknown
quiet_only E env a ms Kind.Expressions e rows q = quiet_unknown
quiet_only E env a ms Kind.ArrayExpression e rows q = quiet_unknown
quiet_only E env a ms Kind.Elements e rows q = quiet_unknown
quiet_only E env a ms Kind.ObjectExpression e rows q = quiet_unknown
quiet_only E env a ms Kind.Quasis e rows q = quiet_unknown
quiet_only E env a ms Kind.ClassBody e rows q = quiet_unknown
quiet_only E env a ms Kind.Members e rows q = quiet_unknown
quiet_only E env a ms k e rows q = absurd (true≢false (sym e))

pub quiet_converts : (A : Answers) (E : Enter) (env : Env) (a : Forest) (ms : Parts) (k : Kind) → converts_primitives A k a ≡ true → QuietRow env ms → QuietNode env (does E k a ms)
quiet_converts A E env a ms (Kind.UnaryExpression o) e rows = quiet_unary E env a ms o rows
quiet_converts A E env a ms (Kind.BinaryExpression o) e rows = quiet_binary E env a ms o (no_object o (all_primitive (types A a)) e) rows
quiet_converts A E env a ms Kind.TemplateLiteral e rows = λ q. quiet_unknown
quiet_converts A E env a ms k e rows = absurd (true≢false (sym e))

pub quiet_property : (E : Enter) (env : Env) (a : Forest) (ms : Parts) (how : PropertyKind) (is_method : Bool) (key : Key) → QuietRow env ms → QuietNode env (does E (Kind.Property how is_method key) a ms)
quiet_property E env a ms how is_method key rows entry = quiet_may env ms rows (λ o r hs. quiet_need env r hs (λ m r h hs. h now))
quiet_property E env a ms how is_method key rows q = quiet_unknown

pub quiet_properties : (E : Enter) (env : Env) (a : Forest) (ms : Parts) → QuietRow env ms → QuietNode env (does E Kind.Properties a ms)
quiet_properties E env a ms rows collect = quiet_list env entry ms (λ m h. h entry) rows
quiet_properties E env a ms rows q = quiet_unknown

quiet_entries : (E : Enter) (env : Env) (a : Forest) (ms : Parts) (k : Kind) → runs_entries k a ≡ true → QuietRow env ms → QuietNode env (does E k a ms)
quiet_entries E env a ms (Kind.Property how is_method key) e rows = quiet_property E env a ms how is_method key rows
quiet_entries E env a ms Kind.SpreadElement e rows = λ q. quiet_unknown
quiet_entries E env a ms Kind.Properties e rows = quiet_properties E env a ms rows
quiet_entries E env a ms k e rows = absurd (true≢false (sym e))

pub one_of_three : (a b c : Bool) → (a || (b || c)) ≡ true → (a ≡ true) ⊎ ((b ≡ true) ⊎ (c ≡ true))
one_of_three true b c e = inl refl
one_of_three false true c e = inr (inl refl)
one_of_three false false c e = inr (inr e)

pub quiet_parts : (E : Enter) (env : Env) (a : Forest) (ms : Parts) (k : Kind) → runs_its_parts k a ≡ true → QuietRow env ms → QuietNode env (does E k a ms)
quiet_parts E env a ms k e rows = elim (one_of_three (only_runs_parts k) (converts_primitives bare_answers k a) (runs_entries k a) e) [
  | inl h ↦ quiet_only E env a ms k h rows
  | inr (inl h) ↦ quiet_converts bare_answers E env a ms k h rows
  | inr (inr h) ↦ quiet_entries E env a ms k h rows
]

-- rows

pub quiet_core : (env : Env) (b : Bool) (m : Meaning) → QuietNode env m → QuietNode env (if_core b m)
quiet_core env true m h q = h q
quiet_core env false m h q = quiet_unknown

quiet_silent : (E : Enter) (env : Env) (a : Forest) (k : Kind) (below : Type 0) → (below → QuietRow env (eval E a)) → IsSilent env k a below → QuietNode env (does E k a (eval E a))
quiet_silent E env a k below rows (inl v) = quiet_kind E env a (eval E a) k v
quiet_silent E env a k below rows (inr (inl f)) = quiet_found E env a k f
quiet_silent E env a k below rows (inr (inr r)) = quiet_parts E env a (eval E a) k r.0 (rows r.1)

pub quiet_row : (env : Env) (E : Enter) (t : Forest) → SilentRow env t → QuietRow env (eval E t)
unfolding eval
quiet_row env E nothing h = tt
quiet_row env E (absent r) h = (tt, quiet_row env E r h)
quiet_row env E (node k n a r) h =
    (quiet_core env (is_core k) (does E k a (eval E a)) (quiet_silent E env a k (SilentRow env a) (quiet_row env E a) h.0), quiet_row env E r h.1)

pub quiet_node : (env : Env) (E : Enter) (k : Kind) (n : Note) (a : Forest) → SilentRow env (alone k n a) → QuietNode env (meaning E k a)
quiet_node env E k n a h = quiet_core env (is_core k) (does E k a (eval E a)) (quiet_silent E env a k (SilentRow env a) (quiet_row env E a) h.0)

-- a statement of a silent expression goes on, and shows nothing
pub quiet_statement : (env : Env) (E : Enter) (a : Forest) (ls : List Text) → SilentRow env a → Quietly IsNormal (meaning E Kind.ExpressionStatement a (run ls) env)
quiet_statement env E a ls h = quiet_need env (eval E a) (quiet_row env E a h) (λ m r g gs. quiet_value (g now) (λ v. quiet_done normal tt))
