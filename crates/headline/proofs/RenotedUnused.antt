-- What is left of an expression of which nobody takes the value doesn't see notes.
use Rattle.std.proofs.Common.{◌≡◌, ◌∙◌, ℕ, zero, suc, [], Bool, true, false, not, ◌&&◌, ◌||◌, Option, Some, None, is_some, if◌then◌else◌, refl, sym, ap, ap₂, true≢false}
use Rattle.js_syntax.specs.declared.node_kind.NodeKind.{NodeKind as Kind}
use Rattle.js_syntax.specs.declared.node_kind.NodeKind.TheVariants.{Function as function, ReferenceName as reference_name, MemberExpression as member_expression, ChainExpression as chain_expression, ParenthesizedExpression as parenthesized_expression, Class as class, ConditionalExpression as conditional_expression, LogicalExpression as logical_expression, UnaryExpression as unary_expression, BinaryExpression as binary_expression, ArrayExpression as array_expression, Elements as elements, SequenceExpression as sequence_expression, Expressions as expressions, TemplateLiteral as template_literal, Quasis as quasis}
use Rattle.js_syntax.specs.Node.{Forest, Tree, Note, nothing, node, absent, nowhere, bare}
use Rattle.js_effects.specs.Still.{is_value}
use Rattle.js_effects.specs.Silence.{anywhere, may_have_effects, only_combines}
use Rattle.js_effects.proofs.Bare.{converts_bare, runs_bare}
use Rattle.scope_laws.specs.Lists.{is_list}
use Rattle.scope_laws.proofs.Notes.{unseen}
use Rattle.steps.specs.Allowed.Uses.{Use, as_value, operand_of, chain_matters, matters, may_take_name, stands_bare}
use Rattle.steps.specs.Allowed.Child.{child_at}
use Rattle.steps.specs.Allowed.UnusedOperation.{acts, is_needed, index_if, operand_needed, side_needed, left_needed, condition_needed, needed_at}
use Rattle.steps.specs.Allowed.UnusedList.{acting, all_act, is_spread, has_spread, as_one, as_elements, array_stays, list_becomes}

-- ---- what may stand bare

chain_bare : (u : Use) (t : Forest) → chain_matters u (bare t) ≡ chain_matters u t
chain_bare u (node (member_expression key optional) n below rest) = refl
chain_bare u (node k n below rest) = refl
chain_bare u (absent rest) = refl
chain_bare u nothing = refl

pub matters_bare : (u : Use) (w : Bool) (k : Kind) (t : Forest) → matters u w k (bare t) ≡ matters u w k t
matters_bare u w (reference_name x) t = refl
matters_bare u w (member_expression key optional) t = refl
matters_bare u w chain_expression t = chain_bare u t
matters_bare u w parenthesized_expression (node k n below rest) = matters_bare u w k below
matters_bare u w parenthesized_expression (absent rest) = refl
matters_bare u w parenthesized_expression nothing = refl
matters_bare u w k t = refl

pub names_taken_bare : (k : Kind) (t : Forest) → may_take_name k (bare t) ≡ may_take_name k t
names_taken_bare (function how pure) t = refl
names_taken_bare (class how) t = refl
names_taken_bare parenthesized_expression (node k n below rest) = names_taken_bare k below
names_taken_bare parenthesized_expression (absent rest) = refl
names_taken_bare parenthesized_expression nothing = refl
names_taken_bare k t = refl

pub stands_bare_bare : (u : Use) (w : Bool) (k : Kind) (t : Forest) → stands_bare u w k (bare t) ≡ stands_bare u w k t
stands_bare_bare u w k t = ap₂ (λ m n. not (m || n)) (matters_bare u w k t) (names_taken_bare k t)

pub stands_as : (u : Use) (w : Bool) (k : Kind) (f g : Forest) → bare f ≡ bare g → stands_bare u w k f ≡ stands_bare u w k g
stands_as u w k f g e = unseen (stands_bare u w k) (stands_bare_bare u w k) f g e

-- ---- the operand that is needed

-- nothing is known, so no id plays a part
effects_bare : (t : Forest) → may_have_effects [] anywhere (bare t) ≡ may_have_effects [] anywhere t
effects_bare nothing = refl
effects_bare (absent rest) = effects_bare rest
effects_bare (node k n below rest) =
    ap₂ (λ x y. x || y) (ap₂ (λ (r b : Bool). if is_value k || false then false else not r || b) (runs_bare k below) (effects_bare below)) (effects_bare rest)

pub acts_bare : (k : Kind) (n : Note) (t : Forest) → acts k nowhere (bare t) ≡ acts k n t
acts_bare k n t = effects_bare (node k n t nothing)

is_needed_bare : (u : Use) (k : Kind) (n : Note) (t : Forest) → is_needed u k nowhere (bare t) ≡ is_needed u k n t
is_needed_bare u k n t = ap₂ (λ x y. x && y) (acts_bare k n t) (stands_bare_bare u false k t)

operand_bare : (u : Use) (t : Forest) → operand_needed u (bare t) ≡ operand_needed u t
operand_bare u (node k n a nothing) = ap (λ x. index_if x 0) (is_needed_bare u k n a)
operand_bare u (node k n a (node l m b rest)) = refl
operand_bare u (node k n a (absent rest)) = refl
operand_bare u (absent rest) = refl
operand_bare u nothing = refl

side_bare : (t : Forest) → side_needed (bare t) ≡ side_needed t
side_bare (node k n a (node l m b nothing)) =
    ap₂ (λ x y. if x then y else index_if (is_needed as_value k nowhere (bare a)) 0) (acts_bare l m b)
    (ap₂ (λ x y. index_if (not x && y) 1) (acts_bare k n a) (stands_bare_bare as_value false l b))
    ∙ ap (λ x. if acts l m b then index_if (not (acts k n a) && stands_bare as_value false l b) 1 else index_if x 0) (is_needed_bare as_value k n a)
side_bare (node k n a (node l m b (node j i c rest))) = refl
side_bare (node k n a (node l m b (absent rest))) = refl
side_bare (node k n a (absent rest)) = refl
side_bare (node k n a nothing) = refl
side_bare (absent rest) = refl
side_bare nothing = refl

left_bare : (t : Forest) → left_needed (bare t) ≡ left_needed t
left_bare (node k n a (node l m b nothing)) = ap₂ (λ x y. index_if (not x && y) 0) (acts_bare l m b) (is_needed_bare as_value k n a)
left_bare (node k n a (node l m b (node j i c rest))) = refl
left_bare (node k n a (node l m b (absent rest))) = refl
left_bare (node k n a (absent rest)) = refl
left_bare (node k n a nothing) = refl
left_bare (absent rest) = refl
left_bare nothing = refl

condition_bare : (t : Forest) → condition_needed (bare t) ≡ condition_needed t
condition_bare (node k n a (node l m b (node j i c nothing))) = ap₂ (λ x y. index_if (not x && y) 0) (ap₂ (λ x y. x || y) (acts_bare l m b) (acts_bare j i c)) (is_needed_bare as_value k n a)
condition_bare (node k n a (node l m b (node j i c (node h g d rest)))) = refl
condition_bare (node k n a (node l m b (node j i c (absent rest)))) = refl
condition_bare (node k n a (node l m b (absent rest))) = refl
condition_bare (node k n a (node l m b nothing)) = refl
condition_bare (node k n a (absent rest)) = refl
condition_bare (node k n a nothing) = refl
condition_bare (absent rest) = refl
condition_bare nothing = refl

pub combines_bare : (k : Kind) (t : Forest) → only_combines k (bare t) ≡ only_combines k t
combines_bare k t = converts_bare k t

needed_bare : (k : Kind) (t : Forest) → needed_at k (bare t) ≡ needed_at k t
needed_bare (unary_expression o) t = ap₂ (λ (b : Bool) x. if b then x else None) (combines_bare (unary_expression o) t) (operand_bare (operand_of o) t)
needed_bare (binary_expression o) t = ap₂ (λ (b : Bool) x. if b then x else None) (combines_bare (binary_expression o) t) (side_bare t)
needed_bare (logical_expression o) t = left_bare t
needed_bare conditional_expression t = condition_bare t
needed_bare k t = refl

pub needed_as : (k : Kind) (f g : Forest) → bare f ≡ bare g → needed_at k f ≡ needed_at k g
needed_as k f g e = unseen (needed_at k) (needed_bare k) f g e

child_bare : (i : ℕ) (t : Forest) → is_some (child_at i (bare t)) ≡ is_some (child_at i t)
child_bare i nothing = refl
child_bare zero (absent rest) = refl
child_bare zero (node k n below rest) = refl
child_bare (suc i) (absent rest) = child_bare i rest
child_bare (suc i) (node k n below rest) = child_bare i rest

pub some_tree : (x : Option Tree) → is_some x ≡ true → (y : Tree) × (x ≡ Some y)
some_tree (Some y) h = (y, refl)
some_tree None h = absurd (true≢false (sym h))

pub child_as : (i : ℕ) (f g : Forest) (y : Tree) → bare f ≡ bare g → child_at i g ≡ Some y → (z : Tree) × (child_at i f ≡ Some z)
child_as i f g y e h = some_tree (child_at i f) (unseen (λ t. is_some (child_at i t)) (child_bare i) f g e ∙ ap is_some h)

-- ---- the parts that act

pub acting_bare : (t : Forest) → acting (bare t) ≡ bare (acting t)
acting_bare nothing = refl
acting_bare (absent rest) = acting_bare rest
acting_bare (node k n a rest) = ap₂ (λ b r. if b then node k nowhere (bare a) r else r) (acts_bare k n a) (acting_bare rest) ∙ if_acts (acts k n a)
  where
    if_acts : (b : Bool) → (if b then node k nowhere (bare a) (bare (acting rest)) else bare (acting rest)) ≡ bare (if b then node k n a (acting rest) else acting rest)
    if_acts true = refl
    if_acts false = refl

all_act_bare : (t : Forest) → all_act (bare t) ≡ all_act t
all_act_bare nothing = refl
all_act_bare (absent rest) = all_act_bare rest
all_act_bare (node k n a rest) = ap₂ (λ x y. (x || is_list k) && y) (acts_bare k n a) (all_act_bare rest)

spread_bare : (t : Forest) → has_spread (bare t) ≡ has_spread t
spread_bare nothing = refl
spread_bare (absent rest) = spread_bare rest
spread_bare (node k n a rest) = ap (λ x. is_spread k || x) (spread_bare rest)

pub some_if : (b : Bool) (x : Tree) → is_some (if b then Some x else None) ≡ b
some_if true x = refl
some_if false x = refl

pub as_one_bare : (n m : Note) (t : Forest) → is_some (as_one n m (bare t)) ≡ is_some (as_one n m t)
as_one_bare n m nothing = refl
as_one_bare n m (absent rest) = refl
as_one_bare n m (node k i a nothing) =
    some_if (stands_bare as_value false k (bare a)) (record { kind = k; note = nowhere; below = bare a }) ∙ stands_bare_bare as_value false k a
    ∙ sym (some_if (stands_bare as_value false k a) (record { kind = k; note = i; below = a }))
as_one_bare n m (node k i a (absent rest)) = refl
as_one_bare n m (node k i a (node l j b rest)) = refl

as_elements_bare : (n m : Note) (t : Forest) → is_some (as_elements n m (bare t)) ≡ is_some (as_elements n m t)
as_elements_bare n m t = ap (λ (b : Bool). is_some {T = Tree} (if b then Some (record { kind = array_expression; note = n; below = node elements m (bare t) nothing }) else as_one n m (bare t))) (spread_bare t) ∙ by_spread (has_spread t)
  where
    by_spread : (b : Bool) → is_some {T = Tree} (if b then Some (record { kind = array_expression; note = n; below = node elements m (bare t) nothing }) else as_one n m (bare t))
        ≡ is_some {T = Tree} (if b then Some (record { kind = array_expression; note = n; below = node elements m t nothing }) else as_one n m t)
    by_spread true = refl
    by_spread false = as_one_bare n m t

array_stays_bare : (t : Forest) → array_stays (bare t) ≡ array_stays t
array_stays_bare t = ap₂ (λ x y. x && y) (ap has_spread (acting_bare t) ∙ spread_bare (acting t)) (all_act_bare t)

module _ (all : Forest → Bool) (left : Forest → Option Tree) where
  kept_bare : ((t : Forest) → all (bare t) ≡ all t) → ((t : Forest) → is_some (left (bare t)) ≡ is_some (left t)) → (parts : Forest)
      → is_some (if all (bare parts) then None else left (acting (bare parts))) ≡ is_some (if all parts then None else left (acting parts))
  kept_bare same so parts = ap₂ (λ b ps. is_some (if b then None else left ps)) (same parts) (acting_bare parts) ∙ unless (all parts)
    where
      unless : (b : Bool) → is_some (if b then None else left (bare (acting parts))) ≡ is_some (if b then None else left (acting parts))
      unless true = refl
      unless false = so (acting parts)

list_bare : (n m : Note) (k : Kind) (t : Forest) → is_some (list_becomes n m k (bare t)) ≡ is_some (list_becomes n m k t)
list_bare n m array_expression (node elements i parts nothing) = kept_bare array_stays (as_elements n m) array_stays_bare (as_elements_bare n m) parts
list_bare n m sequence_expression (node expressions i parts nothing) = kept_bare all_act (as_one n m) all_act_bare (as_one_bare n m) parts
list_bare n m template_literal (node quasis h texts (node expressions i parts nothing)) =
    ap₂ (λ (b : Bool) ps. is_some (if b then as_one n m ps else None)) (combines_bare template_literal (node quasis h texts (node expressions i parts nothing))) (acting_bare parts)
    ∙ if_combines (only_combines template_literal (node quasis h texts (node expressions i parts nothing)))
  where
    if_combines : (b : Bool) → is_some (if b then as_one n m (bare (acting parts)) else None) ≡ is_some (if b then as_one n m (acting parts) else None)
    if_combines true = as_one_bare n m (acting parts)
    if_combines false = refl
list_bare n m k t = refl

pub list_as : (n m : Note) (k : Kind) (f g : Forest) (y : Tree) → bare f ≡ bare g → list_becomes n m k g ≡ Some y → (z : Tree) × (list_becomes n m k f ≡ Some z)
list_as n m k f g y e h = some_tree (list_becomes n m k f) (unseen (λ t. is_some (list_becomes n m k t)) (list_bare n m k) f g e ∙ ap is_some h)
