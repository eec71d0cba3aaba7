-- What an operation owes of which the value is known and which doesn't act, and which becomes a literal of it, or unary minus on one.
use Rattle.std.specs.Prelude.{◌^◌, nat_le, nat_lt}
use Rattle.std.proofs.Common.{◌≡◌, ◌≤◌, ◌<◌, ℕ, zero, suc, pos, negsuc, [], ◌∷◌, Bool, true, false, not, ◌&&◌, ◌||◌, Option, Some, None, if◌then◌else◌, arith, refl, sym, ap, subst, ◌∙◌, true≢false}
use Rattle.js_syntax.specs.Class.{Class, root, expression}
use Rattle.js_syntax.specs.Core.{value_weight, is_core_unary, is_core_binary}
use Rattle.js_syntax.specs.Facts.{weight}
use Rattle.js_syntax.specs.declared.node_kind.NodeKind.{NodeKind as Kind}
use Rattle.js_syntax.specs.declared.node_kind.NodeKind.TheVariants.{Literal as literal, UnaryExpression as unary_expression, BinaryExpression as binary_expression}
use Rattle.js_syntax.specs.declared.operator.UnaryOperator.{UnaryOperator}
use Rattle.js_syntax.specs.declared.operator.UnaryOperator.TheVariants.{UnaryNegation}
use Rattle.js_syntax.specs.declared.operator.BinaryOperator.{BinaryOperator}
use Rattle.js_syntax.specs.declared.operator.BinaryOperator.TheVariants as binary
use Rattle.js_syntax.specs.declared.value.LiteralValue.{LiteralValue}
use Rattle.js_syntax.specs.declared.value.LiteralValue.TheVariants as value
use Rattle.js_syntax.specs.Node.{Note, Forest, Tree, nothing, node, absent, alone, total}
use Rattle.js_syntax.specs.Table.{a_literal, a_unary_expression, a_binary_expression}
use Rattle.js_syntax.proofs.Truth.{first_of_neither}
use Rattle.js_tree.specs.Walk.{is_list}
use Rattle.js_tree.specs.Count.{one_each, lower, levels_at}
use Rattle.js_effects.specs.declared.value.ConstantValue.{ConstantValue}
use Rattle.js_effects.specs.declared.value.ConstantValue.TheVariants as constant
use Rattle.js_effects.specs.declared.value.ValueType.{ValueType}
use Rattle.js_effects.specs.Answers.{bare_answers}
use Rattle.js_effects.specs.Silence.{runs_its_parts, anywhere as wherever, has_effect, may_have_effects}
use Rattle.js_effects.specs.Values.{Known, exactly, unknown as not_known, value as value_known, value_of, literal_constant, on_known_numbers}
use Rattle.js_effects_quiet.specs.Quiet as quiet
use Rattle.js_effects_quiet.specs.Silent.{QuietNode}
use Rattle.js_effects_quiet.proofs.Silent.{quiet_node}
use Rattle.js_values.specs.Gives.{OfValue, IsSo, Ends, Gives}
use Rattle.js_values.specs.Told.{as_value, Is, IsTold}
use Rattle.js_values.proofs.Gives.{ends_unknown, ends_with}
use Rattle.js_values.proofs.Plain.{plain_unary, plain_binary}
use Rattle.js_values.proofs.Told.{need_any}
use Rattle.js_values.proofs.Values.{told_by_form}
use Rattle.js_rebuilt.specs.Rebuilt.{MayBeBuilt, ends, leaves, built}
use Rattle.js_meaning.specs.Value.{Env, Value, plain, number, undef, literal_value}
use Rattle.js_meaning.specs.State.{M, State, Completion, normal, gives, gives_all, refers, breaks, continues, returns, throws, Out, goes, stop, done, choose, give, unknown}
use Rattle.js_meaning.specs.Host.{Enter}
use Rattle.js_meaning.specs.Node.{Wanted, Ask, value as asks_value, now, Meaning, need}
use Rattle.js_meaning_near.proofs.Branches.{given_is}
use Rattle.js_meaning.specs.Operator.{largest, unary_of}
use Rattle.js_meaning.specs.Expression.{wanted_by, binary_value}
use Rattle.js_meaning.specs.Meaning.{if_core, does, eval}
use Rattle.js_meaning_near.specs.Names.{Names}
use Rattle.js_meaning_near.specs.Near.{meaning, module_of, ComesTo}
use Rattle.js_meaning_near.specs.Local.{for_part}
use Rattle.js_meaning_near.specs.Purpose.{Purpose}
use Rattle.js_meaning_near.specs.Quiet.{OnlyAllocates, LeadsFrom, goes_on_as, stops_before, Leads}
use Rattle.json_shape.specs.Shape.{is_in, one as one_place, these, Fits}
use Rattle.form_rules.specs.Form.{IsWellFormed}
use Rattle.form_rules.specs.Break.{unless}
use Rattle.scope_laws.specs.Place.{Around, plug}
use Rattle.scope_laws.proofs.Bindings.{same_value}
use Rattle.steps.specs.Steps.{all_core}
use Rattle.steps.proofs.Silent.{silent_row}
use Rattle.steps.specs.Allowed.KnownOperation.{as_literal, as_negative, is_literal, gives_negative, has_operand, known_literal, known_negative, less_than_zero, KnownOperation, value_is_known, negative_is_known}
use Rattle.steps.specs.Allowed.UnusedOperation.{acts}
use Rattle.steps.specs.Allowed.Wanted.{wanted_at}
use Rattle.steps.proofs.Fit.CoreCalm.{nameless_as_planned}
use Rattle.steps.proofs.Fit.Held.{core_below}
use Rattle.steps.specs.Owed.Comes.{Comes}
use Rattle.steps.specs.Owed.TakesPlace.{anywhere}
use Rattle.steps.specs.Owed.Owed.{ByParts, by_coming}
use Rattle.steps.proofs.Owed.BranchKinds.{IsExpression}
use Rattle.steps.proofs.Owed.ChoiceParts.{Two, operand_of_unary, sides_of_binary}
use Rattle.steps.proofs.Owed.ChoiceRuns.{core_there, no_imports_below}
use Rattle.steps.proofs.Owed.FitsTaking.{as_unary, unary_stood, as_binary, binary_stood}
use Rattle.steps.proofs.Owed.KnownSizes.{IsSmall, unary_small, binary_small, below_largest, unary_negative_small, binary_negative_small}
use Rattle.steps.proofs.Owed.KnownWeights.{one_lighter, two_lighter}
use Rattle.steps.proofs.Owed.SilentAnywhere.{row_is_idle}
use Rattle.steps.proofs.Owed.Undeclared.{DeclaresNothing, both_plainly}
use Rattle.steps.proofs.Owed.UnusedList.{idle_weighs}

abbrev tree : Kind → Note → (below : Forest) → Tree
tree k n below = record { kind = k; note = n; below = below }

-- ---- an operation that doesn't act, and the value that is known of it

pub data Operation : Kind → Note → (below : Forest) → LiteralValue → Type 0 where
  on_one : (o : UnaryOperator) (n : Note) (below : Forest) (w : LiteralValue) → acts (unary_expression o) n below ≡ false → has_operand below ≡ true → as_literal (value_of bare_answers (alone (unary_expression o) n below)) ≡ Some w → Operation (unary_expression o) n below w
  on_two : (o : BinaryOperator) (n : Note) (below : Forest) (w : LiteralValue) → acts (binary_expression o) n below ≡ false → as_literal (value_of bare_answers (alone (binary_expression o) n below)) ≡ Some w → Operation (binary_expression o) n below w

-- where something is known it isn't said that nothing is
unless_some : {X : Type 0} (b : Bool) (o : Option X) (w : X) → (if b then None else o) ≡ Some w → (b ≡ false) × (o ≡ Some w)
unless_some true o w e = absurd cc
unless_some false o w e = (refl, e)

neither : (a b : Bool) → (a || not b) ≡ false → (a ≡ false) × (b ≡ true)
neither true b e = absurd (true≢false e)
neither false true e = (refl, refl)
neither false false e = absurd (true≢false e)

pub is_operation_known : (k : Kind) (n : Note) (below : Forest) (w : LiteralValue) → known_literal k n below ≡ Some w → Operation k n below w
is_operation_known (unary_expression o) n below w is =
    let h = unless_some (acts (unary_expression o) n below || not (has_operand below)) (as_literal (value_of bare_answers (alone (unary_expression o) n below))) w is in
    let g = neither (acts (unary_expression o) n below) (has_operand below) h.0 in
    on_one o n below w g.0 g.1 h.1
is_operation_known (binary_expression o) n below w is =
    let h = unless_some (acts (binary_expression o) n below) (as_literal (value_of bare_answers (alone (binary_expression o) n below))) w is in
    on_two o n below w h.0 h.1
is_operation_known k n below w is = absurd cc

pub data Negative : Kind → Note → (below : Forest) → ℕ → Type 0 where
  under_one : (o : UnaryOperator) (n : Note) (below : Forest) (i : ℕ) → acts (unary_expression o) n below ≡ false → gives_negative (unary_expression o) below ≡ true → as_negative (value_of bare_answers (alone (unary_expression o) n below)) ≡ Some i → Negative (unary_expression o) n below i
  under_two : (o : BinaryOperator) (n : Note) (below : Forest) (i : ℕ) → acts (binary_expression o) n below ≡ false → gives_negative (binary_expression o) below ≡ true → as_negative (value_of bare_answers (alone (binary_expression o) n below)) ≡ Some i → Negative (binary_expression o) n below i

negative_with : (k : Kind) (n : Note) (below : Forest) (i : ℕ) → acts k n below ≡ false → gives_negative k below ≡ true → as_negative (value_of bare_answers (alone k n below)) ≡ Some i → Negative k n below i
negative_with (unary_expression o) n below i idle may is = under_one o n below i idle may is
negative_with (binary_expression o) n below i idle may is = under_two o n below i idle may is
negative_with k n below i idle may is = absurd (true≢false (sym may))

pub is_negative_known : (k : Kind) (n : Note) (below : Forest) (i : ℕ) → known_negative k n below ≡ Some i → Negative k n below i
is_negative_known k n below i is =
    let h = unless_some (acts k n below || not (gives_negative k below)) (as_negative (value_of bare_answers (alone k n below))) i is in
    let g = neither (acts k n below) (gives_negative k below) h.0 in
    negative_with k n below i g.0 g.1 h.1

-- the values that these are
literal_is : (o : Option ConstantValue) (w : LiteralValue) → as_literal o ≡ Some w → o ≡ Some (literal_constant w)
literal_is (Some (constant.Number (pos i))) w is = ap (λ w. Some (literal_constant w)) (same_value is)
literal_is (Some (constant.Text s)) w is = ap (λ w. Some (literal_constant w)) (same_value is)
literal_is (Some (constant.Boolean b)) w is = ap (λ w. Some (literal_constant w)) (same_value is)
literal_is (Some constant.Null) w is = ap (λ w. Some (literal_constant w)) (same_value is)
literal_is o w is = absurd cc

pub negative_is : (o : Option ConstantValue) (i : ℕ) → as_negative o ≡ Some i → o ≡ Some (literal_constant (value.Number (negsuc i)))
negative_is (Some (constant.Number (negsuc j))) i is = ap (λ i. Some (literal_constant (value.Number (negsuc i)))) (same_value is)
negative_is o i is = absurd cc

-- of `in` no value is known
in_is_not : (a b : Known) → on_known_numbers binary.In a b ≡ not_known
in_is_not (exactly (constant.Number a)) (exactly (constant.Number b)) = refl
in_is_not a b = refl

not_in : (o : BinaryOperator) (n : Note) (below : Forest) (w : LiteralValue) → value_of bare_answers (alone (binary_expression o) n below) ≡ Some (literal_constant w) → is_in o ≡ false
not_in binary.In n below w is = absurd (none (on_known_numbers binary.In _ _) (in_is_not _ _) is)
  where
    none : (k : Known) → k ≡ not_known → value_known k ≡ Some (literal_constant w) → ⊥
    none k e is = no_value (subst (λ k. value_known k ≡ Some (literal_constant w)) e is)
      where
        no_value : None ≡ Some (literal_constant w) → ⊥
        no_value e = cc
not_in o n below w is = refl

abbrev is_instance : BinaryOperator → Bool
is_instance binary.Instanceof = true
is_instance o = false

instance_is_not : (a b : Known) → on_known_numbers binary.Instanceof a b ≡ not_known
instance_is_not (exactly (constant.Number a)) (exactly (constant.Number b)) = refl
instance_is_not a b = refl

not_instance : (o : BinaryOperator) (n : Note) (below : Forest) (w : LiteralValue) → value_of bare_answers (alone (binary_expression o) n below) ≡ Some (literal_constant w) → is_instance o ≡ false
not_instance binary.Instanceof n below w is = absurd (none (on_known_numbers binary.Instanceof _ _) (instance_is_not _ _) is)
  where
    none : (k : Known) → k ≡ not_known → value_known k ≡ Some (literal_constant w) → ⊥
    none k e is = no_value (subst (λ k. value_known k ≡ Some (literal_constant w)) e is)
      where
        no_value : None ≡ Some (literal_constant w) → ⊥
        no_value e = cc
not_instance o n below w is = refl

-- ---- what it weighs

at_most : (w : LiteralValue) → value_weight w ≤ 4
at_most (value.Number (pos zero)) = Prim.omega arith
at_most (value.Number (pos (suc zero))) = Prim.omega arith
at_most (value.Number (pos (suc (suc n)))) = Prim.omega arith
at_most (value.Number (negsuc n)) = Prim.omega arith
at_most (value.Text []) = Prim.omega arith
at_most (value.Text (c ∷ cs)) = Prim.omega arith
at_most value.Null = Prim.omega arith
at_most (value.Boolean b) = Prim.omega arith

-- what doesn't act itself weighs something, if it is no list
operand_idle : (o : UnaryOperator) (n : Note) (k : Kind) (i : Note) (a rest : Forest) → acts (unary_expression o) n (node k i a rest) ≡ false → acts k i a ≡ false
operand_idle o n k i a rest e =
    let below = node k i a rest in
    let whole = first_of_neither (has_effect [] wherever (unary_expression o) n below (may_have_effects [] wherever below)) false e in
    let parts = idle_below (runs_its_parts (unary_expression o) below) (may_have_effects [] wherever below) whole in
    or_nothing (has_effect [] wherever k i a (may_have_effects [] wherever a)) (first_of_neither (has_effect [] wherever k i a (may_have_effects [] wherever a)) (may_have_effects [] wherever rest) parts)
  where
    idle_below : (r b : Bool) → (not r || b) ≡ false → b ≡ false
    idle_below true b e = e
    idle_below false b e = absurd (true≢false e)

    or_nothing : (b : Bool) → b ≡ false → (b || false) ≡ false
    or_nothing true e = e
    or_nothing false e = refl

operand_weighs : (o : UnaryOperator) (n : Note) (below : Forest) → acts (unary_expression o) n below ≡ false → has_operand below ≡ true → 1 ≤ total weight below
operand_weighs o n (node k i a rest) idle is = let here = idle_weighs k i a (operand_idle o n k i a rest idle) (not_so (is_list k) is) in Prim.omega (arith, here)
  where
    not_so : (b : Bool) → not b ≡ true → b ≡ false
    not_so true e = absurd (true≢false (sym e))
    not_so false e = refl
operand_weighs o n nothing idle is = absurd (true≢false (sym is))
operand_weighs o n (absent rest) idle is = absurd (true≢false (sym is))

-- ---- runs

itself : (s : State) → OnlyAllocates s s
itself s = record { budget = refl; fresh = Prim.omega arith; store = λ i h. refl; globals = λ x. refl; imports = λ x y. refl; shown = refl; moves = refl; exports = refl; stars = refl }

unknown_leads : (m : M) → Leads unknown m
unfolding stop
unknown_leads m = record { leads = λ s. stops_before }

core_leads : (core : Bool) (m : Meaning) (q : Ask) (env : Env) (n : M) → Leads (m q env) n → Leads (if_core core m q env) n
core_leads true m q env n h = h
core_leads false m q env n h = unknown_leads n

-- what is given where a value is known
known_value : (k : Known) (v : Value) (w : LiteralValue) → Is k v → value_known k ≡ Some (literal_constant w) → v ≡ literal_value w
known_value (exactly c) v w h is = h ∙ (ap as_value (same_value is) ∙ same_constant w)
  where
    same_constant : (w : LiteralValue) → as_value (literal_constant w) ≡ literal_value w
    same_constant (value.Number z) = refl
    same_constant (value.Text s) = refl
    same_constant (value.Boolean b) = refl
    same_constant value.Null = refl
known_value k v w h is = absurd cc

same_allocation : {s z : State} → quiet.OnlyAllocates s z → OnlyAllocates s z
same_allocation a = record { budget = a.budget; fresh = a.fresh; store = a.store; globals = λ x. ap (λ f. f x) a.globals; imports = λ source x. ap (λ f. f source x) a.imports; shown = a.shown; moves = a.moves; exports = a.exports; stars = a.stars }

-- without a receiver
abbrev Alone : Completion → Type 0
Alone (gives v r) = r ≡ undef
Alone c = Unit {0}

module _ (w : LiteralValue) where
  -- what only allocates and gives the value comes to the literal
  gives_it : {s z : State} (k : Known) (v r : Value) → OnlyAllocates s z → Is k v → r ≡ undef → value_known k ≡ Some (literal_constant w) → LeadsFrom s (give (literal_value w)) (goes [] z (gives v r))
  unfolding done
  gives_it {s} {z} k v r a h alone is =
      subst (λ x. LeadsFrom s (give (literal_value w)) (goes [] z (gives x r))) (sym (known_value k v w h is))
      (subst (λ x. LeadsFrom s (give (literal_value w)) (goes [] z (gives (literal_value w) x))) (sym alone) (goes_on_as a))

  ended : {s z : State} (t : ValueType) (k : Known) (c : Completion) → quiet.OnlyAllocates s z → quiet.IsValue c → OfValue (IsTold t k) c → Alone c → value_known k ≡ Some (literal_constant w) → LeadsFrom s (give (literal_value w)) (goes [] z c)
  ended t k (gives v r) a i told alone is = gives_it k v r (same_allocation a) told.known alone is
  ended t k normal a i told alone is = absurd i
  ended t k (gives_all vs) a i told alone is = absurd i
  ended t k (refers p) a i told alone is = absurd i
  ended t k (breaks o) a i told alone is = absurd i
  ended t k (continues o) a i told alone is = absurd i
  ended t k (returns v) a i told alone is = absurd i
  ended t k (throws v) a i told alone is = absurd i

  from_state : (s : State) (t : ValueType) (k : Known) (o : Out) → quiet.Silently quiet.IsValue s o → IsSo (OfValue (IsTold t k)) o → IsSo Alone o → value_known k ≡ Some (literal_constant w) → LeadsFrom s (give (literal_value w)) o
  from_state s t k _ (quiet.goes_on {c = c} a i) told alone is = ended t k c a i told alone is
  from_state s t k _ quiet.is_uncovered told alone is = stops_before

  value_leads : (t : ValueType) (k : Known) (m : M) → quiet.Quietly quiet.IsValue m → Gives (IsTold t k) m → Ends Alone m → value_known k ≡ Some (literal_constant w) → Leads m (give (literal_value w))
  value_leads t k m silent told alone is = record { leads = λ s. from_state s t k (m s) (silent.at s) (told.at s) (alone.at s) is }

-- what isn't known to act is quiet
quiet_anywhere : (E : Enter) (env : Env) (k : Kind) (n : Note) (below : Forest) → acts k n below ≡ false → QuietNode env (meaning E k below)
quiet_anywhere E env k n below e = quiet_node env E k n below (silent_row [] env (alone k n below) (λ x h. absurd (true≢false (sym h))) (row_is_idle (alone k n below) e))

core_alone : (core : Bool) (m : Meaning) (q : Ask) (env : Env) → Ends Alone (m q env) → Ends Alone (if_core core m q env)
core_alone true m q env h = h
core_alone false m q env h = ends_unknown

unary_alone : (E : Enter) (env : Env) (o : UnaryOperator) (below : Forest) (u : Wanted) → Ends Alone (meaning E (unary_expression o) below (asks_value u) env)
unary_alone E env o below u =
    core_alone (is_core_unary o) (does E (unary_expression o) below (eval E below)) (asks_value u) env
    (need_any (eval E below) (λ m r. ends_with (m (asks_value (wanted_by o)) env) (unary_of o) (λ v. plain_unary (λ v. refl) o v) (λ v. tt)))

binary_alone : (E : Enter) (env : Env) (o : BinaryOperator) → is_in o ≡ false → is_instance o ≡ false → (below : Forest) (u : Wanted) → Ends Alone (meaning E (binary_expression o) below (asks_value u) env)
binary_alone E env o no_in no_instance below u =
    core_alone (is_core_binary o) (does E (binary_expression o) below (eval E below)) (asks_value u) env
    (need_any (eval E below) (λ l r. need_any r (λ m r. ends_with (l now env) _ (λ v. ends_with (m now env) _ (λ x. each o no_in no_instance v x) (λ x. tt)) (λ v. tt))))
  where
    each : (o : BinaryOperator) → is_in o ≡ false → is_instance o ≡ false → (v x : Value) → Ends Alone (binary_value E o v x)
    each binary.In e f v x = absurd (true≢false e)
    each binary.Instanceof e f v x = absurd (true≢false f)
    each o e f v x = plain_binary (λ v. refl) o v x

module _ (E : Enter) (env : Env) (n : Note) (below : Forest) (w : LiteralValue) (y : Meaning) (gives_value : (u : Wanted) → y (asks_value u) env ≡ give (literal_value w)) where
  led_to : (m : M) (u : Wanted) → Leads m (give (literal_value w)) → Leads m (y (asks_value u) env)
  led_to m u h = subst (λ v. Leads m v) (sym (gives_value u)) h

  one_leads : (o : UnaryOperator) → acts (unary_expression o) n below ≡ false → value_of bare_answers (alone (unary_expression o) n below) ≡ Some (literal_constant w) → (q : Ask) → Leads (meaning E (unary_expression o) below q env) (y q env)
  one_leads o idle is (asks_value u) =
      led_to (meaning E (unary_expression o) below (asks_value u) env) u
      (value_leads w _ _ (meaning E (unary_expression o) below (asks_value u) env) (quiet_anywhere E env (unary_expression o) n below idle (asks_value u)) ((told_by_form env E (alone (unary_expression o) n below)).0 u) (unary_alone E env o below u) is)
  one_leads o idle is q = core_leads (is_core_unary o) (does E (unary_expression o) below (eval E below)) q env (y q env) (unknown_leads _)

  two_lead : (o : BinaryOperator) → acts (binary_expression o) n below ≡ false → value_of bare_answers (alone (binary_expression o) n below) ≡ Some (literal_constant w) → (q : Ask) → Leads (meaning E (binary_expression o) below q env) (y q env)
  two_lead o idle is (asks_value u) =
      led_to (meaning E (binary_expression o) below (asks_value u) env) u
      (value_leads w _ _ (meaning E (binary_expression o) below (asks_value u) env) (quiet_anywhere E env (binary_expression o) n below idle (asks_value u)) ((told_by_form env E (alone (binary_expression o) n below)).0 u)
      (binary_alone E env o (not_in o n below w is) (not_instance o n below w is) below u) is)
  two_lead o idle is q = core_leads (is_core_binary o) (does E (binary_expression o) below (eval E below)) q env (y q env) (unknown_leads _)

comes_to_value : (u : Purpose) (st : Names) (k : Kind) (n : Note) (below : Forest) (w : LiteralValue) → Operation k n below w → ComesTo u st k below (literal w) nothing
comes_to_value u st _ n below w (on_one o _ _ _ idle some is) =
    record { old_hoists = refl; new_hoists = refl; comes = λ E env binds q permits. one_leads E env n below w (meaning E (literal w) nothing) (λ u. refl) o idle (literal_is (value_of bare_answers (alone (unary_expression o) n below)) w is) q }
comes_to_value u st _ n below w (on_two o _ _ _ idle is) =
    record { old_hoists = refl; new_hoists = refl; comes = λ E env binds q permits. two_lead E env n below w (meaning E (literal w) nothing) (λ u. refl) o idle (literal_is (value_of bare_answers (alone (binary_expression o) n below)) w is) q }

-- ---- of unary minus on a literal

abbrev magnitude : ℕ → LiteralValue
magnitude i = value.Number (pos (suc i))

-- on a number that arithmetic covers it gives the negative one (13.5.5)
minus_gives : (i : ℕ) (b : Bool) → b ≡ true → choose b (give (plain (number (negsuc i)))) unknown ≡ give (plain (number (negsuc i)))
unfolding choose
minus_gives i true covered = refl
minus_gives i false covered = absurd cc

minus_is : (E : Enter) (env : Env) (j : Note) (i : ℕ) → nat_le (suc i) largest ≡ true → (u : Wanted) → meaning E (unary_expression UnaryNegation) (alone (literal (magnitude i)) j nothing) (asks_value u) env ≡ give (plain (number (negsuc i)))
unfolding need eval choose
minus_is E env j i covered u = given_is (plain (number (pos (suc i)))) (unary_of UnaryNegation) ∙ minus_gives i (nat_le (suc i) largest) covered

comes_to_negative : (u : Purpose) (st : Names) (k : Kind) (n j : Note) (below : Forest) (i : ℕ) → nat_le (suc i) largest ≡ true → Negative k n below i → ComesTo u st k below (unary_expression UnaryNegation) (alone (literal (magnitude i)) j nothing)
comes_to_negative u st _ n j below i covered (under_one o _ _ _ idle may is) =
    let y : (E : Enter) → Meaning = λ E. meaning E (unary_expression UnaryNegation) (alone (literal (magnitude i)) j nothing) in
    record { old_hoists = refl; new_hoists = refl; comes = λ E env binds q permits. one_leads E env n below (value.Number (negsuc i)) (y E) (minus_is E env j i covered) o idle (negative_is (value_of bare_answers (alone (unary_expression o) n below)) i is) q }
comes_to_negative u st _ n j below i covered (under_two o _ _ _ idle may is) =
    let y : (E : Enter) → Meaning = λ E. meaning E (unary_expression UnaryNegation) (alone (literal (magnitude i)) j nothing) in
    record { old_hoists = refl; new_hoists = refl; comes = λ E env binds q permits. two_lead E env n below (value.Number (negsuc i)) (y E) (minus_is E env j i covered) o idle (negative_is (value_of bare_answers (alone (binary_expression o) n below)) i is) q }

-- ---- by the table of node types, and by the rules of form

pub literal_expression : (w : LiteralValue) → IsExpression (literal w) nothing
literal_expression w = (a_literal, (w, tt), refl, tt, refl, tt)

minus_expression : (j : Note) (i : ℕ) → IsExpression (unary_expression UnaryNegation) (alone (literal (magnitude i)) j nothing)
minus_expression j i = (a_unary_expression, (UnaryNegation, tt), refl, tt, refl, (literal_expression (magnitude i), tt))

minus_is_built : (j : Note) (i : ℕ) → MayBeBuilt (unary_expression UnaryNegation) (alone (literal (magnitude i)) j nothing)
minus_is_built j i = record { operation = refl; calls_none = refl; breaks_none = λ c place. refl }

no_break : (b : Bool) (place : ℕ) → b ≡ true → unless b place 12 ≡ []
no_break true place h = refl
no_break false place h = absurd cc

pub literal_is_built : (w : LiteralValue) → IsSmall w → MayBeBuilt (literal w) nothing
literal_is_built (value.Number (pos n)) small = record { operation = refl; calls_none = refl; breaks_none = λ c place. no_break (nat_lt n (2 ^ 53)) place small }
literal_is_built (value.Number (negsuc n)) small = absurd small
literal_is_built value.Null small = record { operation = refl; calls_none = refl; breaks_none = λ c place. refl }
literal_is_built (value.Boolean b) small = record { operation = refl; calls_none = refl; breaks_none = λ c place. refl }
literal_is_built (value.Text s) small = record { operation = refl; calls_none = refl; breaks_none = λ c place. refl }

pub value_small : {k : Kind} {n : Note} {below : Forest} {w : LiteralValue} → Operation k n below w → IsSmall w
value_small (on_one o n below w idle some is) = unary_small o _ _ w is
value_small (on_two o n below w idle is) = binary_small o _ _ _ _ w is

pub negative_small : {k : Kind} {n : Note} {below : Forest} {i : ℕ} → Negative k n below i → nat_le (suc i) largest ≡ true
negative_small (under_one o n below i idle may is) = unary_negative_small o _ _ i is
negative_small (under_two o n below i idle may is) = binary_negative_small o _ _ _ _ i is

-- what is no list is a level of its own
pub one_level : (k : Kind) → is_list k ≡ false → one_each k ≡ 1
one_level Kind.Statements h = absurd (true≢false h)
one_level Kind.Cases h = absurd (true≢false h)
one_level Kind.Declarators h = absurd (true≢false h)
one_level Kind.Parameters h = absurd (true≢false h)
one_level Kind.Members h = absurd (true≢false h)
one_level Kind.Elements h = absurd (true≢false h)
one_level Kind.Properties h = absurd (true≢false h)
one_level Kind.Expressions h = absurd (true≢false h)
one_level Kind.Arguments h = absurd (true≢false h)
one_level Kind.Quasis h = absurd (true≢false h)
one_level Kind.Specifiers h = absurd (true≢false h)
one_level k h = refl

operand_level : (more : ℕ → ℕ) (below : Forest) → has_operand below ≡ true → 1 ≤ levels_at more 0 below
operand_level more (node k n a rest) some = let here = one_level k (not_so (is_list k) some) in Prim.omega (arith, here)
  where
    not_so : (b : Bool) → not b ≡ true → b ≡ false
    not_so true e = absurd (true≢false (sym e))
    not_so false e = refl
operand_level more nothing some = absurd (true≢false (sym some))
operand_level more (absent rest) some = absurd (true≢false (sym some))

-- ---- all of it

module _ (a : Around) (n i : Note) (w : LiteralValue) where
  abbrev y : Tree
  y = tree (literal w) i nothing

  literal_declares : DeclaresNothing (alone (literal w) i nothing)
  literal_declares = record { bound = refl; imports = λ source. refl }

  module _ (o : UnaryOperator) (m : Note) (operand : Forest) (idle : acts (unary_expression o) m operand ≡ false) (some : has_operand operand ≡ true) (is : as_literal (value_of bare_answers (alone (unary_expression o) m operand)) ≡ Some w) where
    abbrev one : Tree
    one = tree (unary_expression o) n operand

    one_comes : (q s : Note) (b : Forest) → plug a (Some one) ≡ module_of q s b → Fits root (module_of q s b) → IsWellFormed (module_of q s b) → all_core (module_of q s b) ≡ true → Comes a one y
    one_comes q s b same fits form core =
        let there = operand_of_unary a o n operand (subst (Fits root) (sym same) fits) in
        let within = core_below (unary_expression o) n operand nothing (core_there a one (subst (λ t. all_core t ≡ true) (sym same) core)) in
        let none : DeclaresNothing operand = record { bound = nameless_as_planned operand (these (one_place expression ∷ [])) refl there within; imports = no_imports_below q s b a one y same fits form core (unary_expression o) refl refl (λ s i. refl) } in
        record {
          inner = nothing;
          same = refl;
          stands = for_part (λ st. comes_to_value (wanted_at a) st (unary_expression o) m operand w (on_one o m operand w idle some is));
          old_calm = refl;
          declares = both_plainly (unary_expression o) operand (literal w) i nothing nothing refl none literal_declares;
          core = λ c. refl;
        }

    one_owes : ByParts a one y
    one_owes = record {
      rebuilt = λ fits. leaves (built (literal_is_built w (value_small (on_one o m operand w idle some is))) ends);
      lighter = Prim.omega (arith, at_most w, operand_weighs o m operand idle some);
      no_deeper = Prim.omega arith;
      no_call = record { counts = refl; lists = λ i. refl; begins = λ i. refl; calls = refl };
      ends = refl;
      may_change = refl;
      fits_expression = λ fits. ((a_unary_expression, (o, tt), refl, tt, refl, operand_of_unary a o n operand fits), tt);
      takes = λ fits. anywhere (record { classes = λ (to : Class) f. (as_unary (literal w) nothing to (unary_stood to n operand o f) (literal_expression w), tt); old_told = refl; new_told = refl });
      no_name = refl;
      old_unasked = λ fits. refl;
      unasked = λ fits. refl;
      comes_out = record { undeleted = λ e. refl; uncalled = λ e. refl };
      runs = by_coming one_comes;
    }

  module _ (o : BinaryOperator) (m : Note) (sides : Forest) (idle : acts (binary_expression o) m sides ≡ false) (is : as_literal (value_of bare_answers (alone (binary_expression o) m sides)) ≡ Some w) where
    abbrev two : Tree
    two = tree (binary_expression o) n sides

    no_in : is_in o ≡ false
    no_in = not_in o m sides w (literal_is (value_of bare_answers (alone (binary_expression o) m sides)) w is)

    two_there : Fits root (plug a (Some two)) → Two sides
    two_there fits = sides_of_binary a o no_in n sides fits

    two_comes : (q s : Note) (b : Forest) → plug a (Some two) ≡ module_of q s b → Fits root (module_of q s b) → IsWellFormed (module_of q s b) → all_core (module_of q s b) ≡ true → Comes a two y
    two_comes q s b same fits form core =
        let there = two_there (subst (Fits root) (sym same) fits) in
        let within = core_below (binary_expression o) n sides nothing (core_there a two (subst (λ t. all_core t ≡ true) (sym same) core)) in
        let none : DeclaresNothing sides = record { bound = nameless_as_planned sides (these (one_place expression ∷ one_place expression ∷ [])) refl there within; imports = no_imports_below q s b a two y same fits form core (binary_expression o) refl refl (λ s i. refl) } in
        record {
          inner = nothing;
          same = refl;
          stands = for_part (λ st. comes_to_value (wanted_at a) st (binary_expression o) m sides w (on_two o m sides w idle is));
          old_calm = refl;
          declares = both_plainly (binary_expression o) sides (literal w) i nothing nothing refl none literal_declares;
          core = λ c. refl;
        }

    two_owe : ByParts a two y
    two_owe = record {
      rebuilt = λ fits. leaves (built (literal_is_built w (value_small (on_two o m sides w idle is))) ends);
      lighter = Prim.omega (arith, at_most w);
      no_deeper = Prim.omega arith;
      no_call = record { counts = refl; lists = λ i. refl; begins = λ i. refl; calls = refl };
      ends = refl;
      may_change = refl;
      fits_expression = λ fits. ((a_binary_expression, (o, tt), refl, no_in, refl, two_there fits), tt);
      takes = λ fits. anywhere (record { classes = λ (to : Class) f. (as_binary (literal w) nothing to (binary_stood to n sides o f) (literal_expression w), tt); old_told = refl; new_told = refl });
      no_name = refl;
      old_unasked = λ fits. refl;
      unasked = λ fits. refl;
      comes_out = record { undeleted = λ e. refl; uncalled = λ e. refl };
      runs = by_coming two_comes;
    }

module _ (a : Around) (n i j : Note) (z : ℕ) where
  abbrev minus : Tree
  minus = less_than_zero i j z

  minus_declares : DeclaresNothing (alone (unary_expression UnaryNegation) i minus.below)
  minus_declares = record { bound = refl; imports = λ source. refl }

  module _ (o : UnaryOperator) (m : Note) (operand : Forest) (negative : Negative (unary_expression o) m operand z) (some : has_operand operand ≡ true) (lighter : value_weight (magnitude z) < total weight operand) where
    abbrev from_one : Tree
    from_one = tree (unary_expression o) n operand

    from_one_comes : (q s : Note) (b : Forest) → plug a (Some from_one) ≡ module_of q s b → Fits root (module_of q s b) → IsWellFormed (module_of q s b) → all_core (module_of q s b) ≡ true → Comes a from_one minus
    from_one_comes q s b same fits form core =
        let there = operand_of_unary a o n operand (subst (Fits root) (sym same) fits) in
        let within = core_below (unary_expression o) n operand nothing (core_there a from_one (subst (λ t. all_core t ≡ true) (sym same) core)) in
        let none : DeclaresNothing operand = record { bound = nameless_as_planned operand (these (one_place expression ∷ [])) refl there within; imports = no_imports_below q s b a from_one minus same fits form core (unary_expression o) refl refl (λ s i. refl) } in
        record {
          inner = minus.below;
          same = refl;
          stands = for_part (λ st. comes_to_negative (wanted_at a) st (unary_expression o) m j operand z (negative_small negative) negative);
          old_calm = refl;
          declares = both_plainly (unary_expression o) operand minus.kind i minus.below nothing refl none minus_declares;
          core = λ c. refl;
        }

    from_one_owes : ByParts a from_one minus
    from_one_owes = record {
      rebuilt = λ fits. leaves (built (minus_is_built j z) (built (literal_is_built (magnitude z) (below_largest z (negative_small negative))) ends));
      lighter = Prim.omega (arith, lighter);
      no_deeper = Prim.omega (arith, operand_level (lower (unary_expression o)) operand some);
      no_call = record { counts = refl; lists = λ i. refl; begins = λ i. refl; calls = refl };
      ends = refl;
      may_change = refl;
      fits_expression = λ fits. ((a_unary_expression, (o, tt), refl, tt, refl, operand_of_unary a o n operand fits), tt);
      takes = λ fits. anywhere (record { classes = λ (to : Class) f. (as_unary minus.kind minus.below to (unary_stood to n operand o f) (minus_expression j z), tt); old_told = refl; new_told = refl });
      no_name = refl;
      old_unasked = λ fits. refl;
      unasked = λ fits. refl;
      comes_out = record { undeleted = λ e. refl; uncalled = λ e. refl };
      runs = by_coming from_one_comes;
    }

  module _ (o : BinaryOperator) (m : Note) (sides : Forest) (negative : Negative (binary_expression o) m sides z) (no_in : is_in o ≡ false) (some : has_operand sides ≡ true) (lighter : value_weight (magnitude z) ≤ total weight sides) where
    abbrev from_two : Tree
    from_two = tree (binary_expression o) n sides

    from_two_comes : (q s : Note) (b : Forest) → plug a (Some from_two) ≡ module_of q s b → Fits root (module_of q s b) → IsWellFormed (module_of q s b) → all_core (module_of q s b) ≡ true → Comes a from_two minus
    from_two_comes q s b same fits form core =
        let there = sides_of_binary a o no_in n sides (subst (Fits root) (sym same) fits) in
        let within = core_below (binary_expression o) n sides nothing (core_there a from_two (subst (λ t. all_core t ≡ true) (sym same) core)) in
        let none : DeclaresNothing sides = record { bound = nameless_as_planned sides (these (one_place expression ∷ one_place expression ∷ [])) refl there within; imports = no_imports_below q s b a from_two minus same fits form core (binary_expression o) refl refl (λ s i. refl) } in
        record {
          inner = minus.below;
          same = refl;
          stands = for_part (λ st. comes_to_negative (wanted_at a) st (binary_expression o) m j sides z (negative_small negative) negative);
          old_calm = refl;
          declares = both_plainly (binary_expression o) sides minus.kind i minus.below nothing refl none minus_declares;
          core = λ c. refl;
        }

    from_two_owes : ByParts a from_two minus
    from_two_owes = record {
      rebuilt = λ fits. leaves (built (minus_is_built j z) (built (literal_is_built (magnitude z) (below_largest z (negative_small negative))) ends));
      lighter = Prim.omega (arith, lighter);
      no_deeper = Prim.omega (arith, operand_level (lower (binary_expression o)) sides some);
      no_call = record { counts = refl; lists = λ i. refl; begins = λ i. refl; calls = refl };
      ends = refl;
      may_change = refl;
      fits_expression = λ fits. ((a_binary_expression, (o, tt), refl, no_in, refl, sides_of_binary a o no_in n sides fits), tt);
      takes = λ fits. anywhere (record { classes = λ (to : Class) f. (as_binary minus.kind minus.below to (binary_stood to n sides o f) (minus_expression j z), tt); old_told = refl; new_told = refl });
      no_name = refl;
      old_unasked = λ fits. refl;
      unasked = λ fits. refl;
      comes_out = record { undeleted = λ e. refl; uncalled = λ e. refl };
      runs = by_coming from_two_comes;
    }

first_so : (a b : Bool) → (a && b) ≡ true → a ≡ true
first_so true b e = refl
first_so false b e = absurd (true≢false (sym e))

negative_owes : (a : Around) (n i j m : Note) (k : Kind) (below : Forest) (z : ℕ) → Negative k m below z → ByParts a (tree k n below) (less_than_zero i j z)
negative_owes a n i j _ _ _ _ (under_one o m operand z idle may is) =
    from_one_owes a n i j z o m operand (under_one o m operand z idle may is) (first_so (has_operand operand) (not (is_literal operand)) may) (one_lighter o m operand z may is)
negative_owes a n i j _ _ _ _ (under_two o m sides z idle may is) =
    let given = negative_is (value_of bare_answers (alone (binary_expression o) m sides)) z is in
    from_two_owes a n i j z o m sides (under_two o m sides z idle may is) (not_in o m sides (value.Number (negsuc z)) given) may (two_lighter o m sides z is)

each_owes : (a : Around) (n i m : Note) (k : Kind) (below : Forest) (w : LiteralValue) → Operation k m below w → ByParts a (tree k n below) (tree (literal w) i nothing)
each_owes a n i _ _ _ _ (on_one o m operand w idle some is) = one_owes a n i w o m operand idle some is
each_owes a n i _ _ _ _ (on_two o m below w idle is) = two_owe a n i w o m below idle is

pub known_operation_owes : (a : Around) (x y : Tree) → KnownOperation a x y → ByParts a x y
known_operation_owes a x _ (value_is_known i w _ is) = each_owes a x.note i x.note x.kind x.below w (is_operation_known x.kind x.note x.below w is)
known_operation_owes a x _ (negative_is_known i j z _ is) = negative_owes a x.note i j x.note x.kind x.below z (is_negative_known x.kind x.note x.below z is)
