-- What a choice comes to of which it is known which part counts, whatever it is evaluated for: the part behind a zero.
use Rattle.std.proofs.Common.{◌≡◌, ◌∙◌, pos, true, false, refl, sym}
use Rattle.js_syntax.specs.declared.node_kind.NodeKind.{NodeKind as Kind}
use Rattle.js_syntax.specs.declared.operator.LogicalOperator.{LogicalOperator}
use Rattle.js_syntax.specs.declared.value.LiteralValue.TheVariants as value
use Rattle.js_syntax.specs.Node.{Note, Forest, nothing, node}
use Rattle.js_meaning.specs.Value.{Env, literal_value}
use Rattle.js_meaning.specs.Operator.{truthy, goes_right}
use Rattle.js_meaning.specs.Host.{Enter}
use Rattle.js_meaning.specs.Node.{Wanted, Ask, value as asks_value, now, need}
use Rattle.js_meaning.specs.Expression.{in_turn}
use Rattle.js_meaning.specs.Meaning.{eval}
use Rattle.js_meaning_near.specs.Names.{Names}
use Rattle.js_meaning_near.specs.Near.{meaning, ComesTo}
use Rattle.js_meaning_near.specs.Purpose.{Purpose}
use Rattle.js_meaning_near.specs.Quiet.{Leads}
use Rattle.js_meaning_near.proofs.Branches.{given_is}
use Rattle.known_tests.specs.Tells.{Tells}
use Rattle.known_tests.proofs.Told.{told_leads}
use Rattle.known_tests.proofs.Taken.{unknown_leads, chosen, not_chosen}

-- (0, part)
abbrev pub zero_and : (m o p : Note) (l : Kind) (b : Forest) → Forest
zero_and m o p l b = node Kind.Expressions m (node (Kind.Literal (value.Number (pos 0))) o nothing (node l p b nothing)) nothing

-- it does what the part does that is evaluated for itself
pub zero_is : (E : Enter) (env : Env) (w : Wanted) (m o p : Note) (l : Kind) (b : Forest) → meaning E Kind.SequenceExpression (zero_and m o p l b) (asks_value w) env ≡ meaning E l b now env
unfolding need eval in_turn
zero_is E env w m o p l b = given_is (literal_value (value.Number (pos 0))) (λ u. meaning E l b now env)

module _ (t : Kind) (n i : Note) (d : Forest) (k : Kind) (b : Forest) (m h p : Note) where
  module _ (j : Note) (l : Kind) (c : Forest) where
    abbrev branches : Forest
    branches = node t n d (node k i b (node l j c nothing))

    first : (E : Enter) (env : Env) (q : Ask) → Tells (λ v. truthy v ≡ true) t d → Leads (meaning E Kind.ConditionalExpression branches q env) (meaning E Kind.SequenceExpression (zero_and m h p k b) q env)
    unfolding need eval
    first E env (asks_value w) tells =
        told_leads (λ v. truthy v ≡ true) (meaning E t d now env) _ _ (λ v e. chosen (truthy v) (meaning E k b now env) _ e ∙ sym (zero_is E env w m h p k b)) (tells.quiet E env) (tells.told E env)
    first E env q tells = unknown_leads _

    second : (E : Enter) (env : Env) (q : Ask) → Tells (λ v. truthy v ≡ false) t d → Leads (meaning E Kind.ConditionalExpression branches q env) (meaning E Kind.SequenceExpression (zero_and m h p l c) q env)
    unfolding need eval
    second E env (asks_value w) tells =
        told_leads (λ v. truthy v ≡ false) (meaning E t d now env) _ _ (λ v e. not_chosen (truthy v) _ (meaning E l c now env) e ∙ sym (zero_is E env w m h p l c)) (tells.quiet E env) (tells.told E env)
    second E env q tells = unknown_leads _

  module _ (o : LogicalOperator) where
    abbrev sides : Forest
    sides = node t n d (node k i b nothing)

    right : (E : Enter) (env : Env) (q : Ask) → Tells (λ v. goes_right o v ≡ true) t d → Leads (meaning E (Kind.LogicalExpression o) sides q env) (meaning E Kind.SequenceExpression (zero_and m h p k b) q env)
    unfolding need eval
    right E env (asks_value w) tells =
        told_leads (λ v. goes_right o v ≡ true) (meaning E t d now env) _ _ (λ v e. chosen (goes_right o v) (meaning E k b now env) _ e ∙ sym (zero_is E env w m h p k b)) (tells.quiet E env) (tells.told E env)
    right E env q tells = unknown_leads _

pub consequent_behind_zero : (u : Purpose) (st : Names) (n i j m o p : Note) (t k l : Kind) (d b c : Forest) → Tells (λ v. truthy v ≡ true) t d
    → ComesTo u st Kind.ConditionalExpression (node t n d (node k i b (node l j c nothing))) Kind.SequenceExpression (zero_and m o p k b)
consequent_behind_zero u st n i j m o p t k l d b c tells = record { old_hoists = refl; new_hoists = refl; comes = λ E env binds q permits. first t n i d k b m o p j l c E env q tells }

pub alternate_behind_zero : (u : Purpose) (st : Names) (n i j m o p : Note) (t k l : Kind) (d b c : Forest) → Tells (λ v. truthy v ≡ false) t d
    → ComesTo u st Kind.ConditionalExpression (node t n d (node k i b (node l j c nothing))) Kind.SequenceExpression (zero_and m o p l c)
alternate_behind_zero u st n i j m o p t k l d b c tells = record { old_hoists = refl; new_hoists = refl; comes = λ E env binds q permits. second t n i d k b m o p j l c E env q tells }

pub right_side_behind_zero : (u : Purpose) (st : Names) (o : LogicalOperator) (n i m h p : Note) (t k : Kind) (d b : Forest) → Tells (λ v. goes_right o v ≡ true) t d
    → ComesTo u st (Kind.LogicalExpression o) (node t n d (node k i b nothing)) Kind.SequenceExpression (zero_and m h p k b)
right_side_behind_zero u st o n i m h p t k d b tells = record { old_hoists = refl; new_hoists = refl; comes = λ E env binds q permits. right t n i d k b m h p o E env q tells }
