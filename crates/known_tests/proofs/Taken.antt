-- Conditionals, logical expressions and statements `if` come to the part that is taken, where it is known which.
use Rattle.std.proofs.Common.{◌≡◌, ◌∙◌, true, false, Bool, refl, sym, subst, true≢false}
use Rattle.js_syntax.specs.declared.node_kind.NodeKind.{NodeKind as Kind}
use Rattle.js_syntax.specs.declared.operator.LogicalOperator.{LogicalOperator}
use Rattle.js_syntax.specs.Node.{Note, Forest, nothing, node, absent}
use Rattle.js_meaning.specs.Value.{Env}
use Rattle.js_meaning.specs.Operator.{truthy, goes_right}
use Rattle.js_meaning.specs.State.{M, Completion, normal, bind, done, choose, unknown, stop, give}
use Rattle.js_meaning.specs.Host.{Enter}
use Rattle.js_meaning.specs.Scope.{copy, declare}
use Rattle.js_meaning.specs.Node.{Wanted, Ask, value, run, now, need, may}
use Rattle.js_meaning.specs.Expression.{in_turn}
use Rattle.js_meaning.specs.Meaning.{eval}
use Rattle.js_meaning_near.specs.Quiet.{Leads, LeadsFrom, stops_before}
use Rattle.js_meaning_near.specs.Names.{Names}
use Rattle.js_meaning_near.specs.Near.{meaning, is_calm, hoists_nothing, DoesNothing, Permits, ComesTo}
use Rattle.js_meaning_near.specs.Local.{IsField}
use Rattle.js_meaning_near.specs.Purpose.{Purpose, asked}
use Rattle.js_meaning_near.specs.Bare.{stands_bare}
use Rattle.js_meaning_near.proofs.Branches.{bare_asks, bare_hoists}
use Rattle.known_tests.specs.Tells.{Tells, GivesOnly, GivesAlone}
use Rattle.known_tests.proofs.Told.{more_nothing, told_leads, value_leads, alike_leads}

pub unknown_leads : (m : M) → Leads unknown m
unfolding stop
unknown_leads m = record { leads = λ s. stops_before }

pub chosen : (b : Bool) (m n : M) → b ≡ true → choose b m n ≡ m
unfolding choose
chosen true m n e = refl
chosen false m n e = absurd (true≢false (sym e))

pub not_chosen : (b : Bool) (m n : M) → b ≡ false → choose b m n ≡ n
unfolding choose
not_chosen true m n e = absurd (true≢false e)
not_chosen false m n e = refl

calm_hoists : (k : Kind) → is_calm k ≡ true → hoists_nothing k ≡ true
calm_hoists (Kind.ReferenceName x) h = refl
calm_hoists (Kind.MemberExpression key optional) h = refl
calm_hoists Kind.ParenthesizedExpression h = refl
calm_hoists (Kind.Function f pure) h = absurd (true≢false (sym h))
calm_hoists k h = h

module _ (t : Kind) (n i : Note) (a : Forest) (k : Kind) (b : Forest) where
  module _ (j : Note) (l : Kind) (c : Forest) where
    abbrev branches : Forest
    branches = node t n a (node k i b (node l j c nothing))

    first : (E : Enter) (w : Wanted) (env : Env) (q : Ask) → Tells (λ v. truthy v ≡ true) t a → Permits w q → stands_bare w k b ≡ true → Leads (meaning E Kind.ConditionalExpression branches q env) (meaning E k b q env)
    unfolding need eval
    first E w env (value u) tells p bare =
        told_leads (λ v. truthy v ≡ true) (meaning E t a now env) _ (meaning E k b (value u) env)
        (λ v h. chosen (truthy v) (meaning E k b now env) _ h ∙ sym (bare_asks E u k b env (subst (λ u. stands_bare u k b ≡ true) (sym p) bare)))
        (tells.quiet E env) (tells.told E env)
    first E w env q tells p bare = unknown_leads _

    second : (E : Enter) (w : Wanted) (env : Env) (q : Ask) → Tells (λ v. truthy v ≡ false) t a → Permits w q → stands_bare w l c ≡ true → Leads (meaning E Kind.ConditionalExpression branches q env) (meaning E l c q env)
    unfolding need eval
    second E w env (value u) tells p bare =
        told_leads (λ v. truthy v ≡ false) (meaning E t a now env) _ (meaning E l c (value u) env)
        (λ v h. not_chosen (truthy v) _ (meaning E l c now env) h ∙ sym (bare_asks E u l c env (subst (λ u. stands_bare u l c ≡ true) (sym p) bare)))
        (tells.quiet E env) (tells.told E env)
    second E w env q tells p bare = unknown_leads _

    second_statement : (E : Enter) (env : Env) (q : Ask) → Tells (λ v. truthy v ≡ false) t a → Leads (meaning E Kind.IfStatement branches q env) (meaning E l c q env)
    unfolding need may eval
    second_statement E env (run ls) tells =
        told_leads (λ v. truthy v ≡ false) (meaning E t a now env) _ (meaning E l c (run ls) env)
        (λ v h. not_chosen (truthy v) _ (meaning E l c (run ls) env) h)
        (tells.quiet E env) (tells.told E env)
    second_statement E env q tells = unknown_leads _

  no_statement : (E : Enter) (env : Env) (q : Ask) → Tells (λ v. truthy v ≡ false) t a → Leads (meaning E Kind.IfStatement (node t n a (node k i b (absent nothing))) q env) (meaning E Kind.EmptyStatement nothing q env)
  unfolding need may eval
  no_statement E env (run ls) tells =
      told_leads (λ v. truthy v ≡ false) (meaning E t a now env) _ (meaning E Kind.EmptyStatement nothing (run ls) env) (λ v h. not_chosen (truthy v) (meaning E k b (run ls) env) _ h) (tells.quiet E env) (tells.told E env)
  no_statement E env q tells = unknown_leads _

  module _ (o : LogicalOperator) where
    abbrev sides : Forest
    sides = node t n a (node k i b nothing)

    right : (E : Enter) (w : Wanted) (env : Env) (q : Ask) → Tells (λ v. goes_right o v ≡ true) t a → Permits w q → stands_bare w k b ≡ true → Leads (meaning E (Kind.LogicalExpression o) sides q env) (meaning E k b q env)
    unfolding need eval
    right E w env (value u) tells p bare =
        told_leads (λ v. goes_right o v ≡ true) (meaning E t a now env) _ (meaning E k b (value u) env)
        (λ v h. chosen (goes_right o v) (meaning E k b now env) _ h ∙ sym (bare_asks E u k b env (subst (λ u. stands_bare u k b ≡ true) (sym p) bare)))
        (tells.quiet E env) (tells.told E env)
    right E w env q tells p bare = unknown_leads _

    left : (E : Enter) (w : Wanted) (env : Env) (q : Ask) → Tells (λ v. goes_right o v ≡ false) t a → GivesAlone t a → Permits w q → stands_bare w t a ≡ true → Leads (meaning E (Kind.LogicalExpression o) sides q env) (meaning E t a q env)
    unfolding need eval
    left E w env (value u) tells alone p bare =
        subst (λ m. Leads (meaning E (Kind.LogicalExpression o) sides (value u) env) m) (sym (bare_asks E u t a env (subst (λ u. stands_bare u t a ≡ true) (sym p) bare)))
        (value_leads (λ v. goes_right o v ≡ false) (meaning E t a now env) _
        (λ v h. not_chosen (goes_right o v) (meaning E k b now env) (give v) h)
        (tells.quiet E env) (tells.told E env) (alone E env))
    left E w env q tells alone p bare = unknown_leads _

  first_statement : (E : Enter) (env : Env) (q : Ask) (r : Forest) → Tells (λ v. truthy v ≡ true) t a → IsField r → Leads (meaning E Kind.IfStatement (node t n a (node k i b r)) q env) (meaning E k b q env)
  unfolding need may eval
  first_statement E env (run ls) (absent nothing) tells f =
      told_leads (λ v. truthy v ≡ true) (meaning E t a now env) _ (meaning E k b (run ls) env) (λ v h. chosen (truthy v) (meaning E k b (run ls) env) _ h) (tells.quiet E env) (tells.told E env)
  first_statement E env (run ls) (node l j c nothing) tells f =
      told_leads (λ v. truthy v ≡ true) (meaning E t a now env) _ (meaning E k b (run ls) env) (λ v h. chosen (truthy v) (meaning E k b (run ls) env) _ h) (tells.quiet E env) (tells.told E env)
  first_statement E env q (absent nothing) tells f = unknown_leads _
  first_statement E env q (node l j c nothing) tells f = unknown_leads _
  first_statement E env q nothing tells f = absurd f
  first_statement E env q (absent (node l j c r)) tells f = absurd f
  first_statement E env q (absent (absent r)) tells f = absurd f
  first_statement E env q (node l j c (node z y d r)) tells f = absurd f
  first_statement E env q (node l j c (absent r)) tells f = absurd f

pub condition_holds : (u : Purpose) (st : Names) (t : Kind) (n i j : Note) (a : Forest) (k l : Kind) (b c : Forest) → Tells (λ v. truthy v ≡ true) t a → stands_bare (asked u) k b ≡ true → ComesTo u st Kind.ConditionalExpression (node t n a (node k i b (node l j c nothing))) k b
condition_holds u st t n i j a k l b c tells bare = record { old_hoists = refl; new_hoists = bare_hoists (asked u) k b bare; comes = λ E env binds q p. first t n i a k b j l c E (asked u) env q tells p bare }

pub condition_fails : (u : Purpose) (st : Names) (t : Kind) (n i j : Note) (a : Forest) (k l : Kind) (b c : Forest) → Tells (λ v. truthy v ≡ false) t a → stands_bare (asked u) l c ≡ true → ComesTo u st Kind.ConditionalExpression (node t n a (node k i b (node l j c nothing))) l c
condition_fails u st t n i j a k l b c tells bare = record { old_hoists = refl; new_hoists = bare_hoists (asked u) l c bare; comes = λ E env binds q p. second t n i a k b j l c E (asked u) env q tells p bare }

pub right_counts : (u : Purpose) (st : Names) (o : LogicalOperator) (t : Kind) (n i : Note) (a : Forest) (k : Kind) (b : Forest) → Tells (λ v. goes_right o v ≡ true) t a → stands_bare (asked u) k b ≡ true → ComesTo u st (Kind.LogicalExpression o) (node t n a (node k i b nothing)) k b
right_counts u st o t n i a k b tells bare = record { old_hoists = refl; new_hoists = bare_hoists (asked u) k b bare; comes = λ E env binds q p. right t n i a k b o E (asked u) env q tells p bare }

pub left_decides : (u : Purpose) (st : Names) (o : LogicalOperator) (t : Kind) (n i : Note) (a : Forest) (k : Kind) (b : Forest) → Tells (λ v. goes_right o v ≡ false) t a → GivesAlone t a → stands_bare (asked u) t a ≡ true → ComesTo u st (Kind.LogicalExpression o) (node t n a (node k i b nothing)) t a
left_decides u st o t n i a k b tells alone bare = record { old_hoists = refl; new_hoists = bare_hoists (asked u) t a bare; comes = λ E env binds q p. left t n i a k b o E (asked u) env q tells alone p bare }

pub statement_holds : (u : Purpose) (st : Names) (t : Kind) (n i : Note) (a : Forest) (k : Kind) (b r : Forest) → Tells (λ v. truthy v ≡ true) t a → is_calm k ≡ true → IsField r → ComesTo u st Kind.IfStatement (node t n a (node k i b r)) k b
statement_holds u st t n i a k b r tells calm f = record { old_hoists = refl; new_hoists = calm_hoists k calm; comes = λ E env binds q p. first_statement t n i a k b E env q r tells f }

pub statement_fails : (u : Purpose) (st : Names) (t : Kind) (n i j : Note) (a : Forest) (k l : Kind) (b c : Forest) → Tells (λ v. truthy v ≡ false) t a → is_calm l ≡ true → ComesTo u st Kind.IfStatement (node t n a (node k i b (node l j c nothing))) l c
statement_fails u st t n i j a k l b c tells calm = record { old_hoists = refl; new_hoists = calm_hoists l calm; comes = λ E env binds q p. second_statement t n i a k b j l c E env q tells }

pub statement_is_empty : (u : Purpose) (st : Names) (t : Kind) (n i : Note) (a : Forest) (k : Kind) (b : Forest) → Tells (λ v. truthy v ≡ false) t a → ComesTo u st Kind.IfStatement (node t n a (node k i b (absent nothing))) Kind.EmptyStatement nothing
statement_is_empty u st t n i a k b tells = record { old_hoists = refl; new_hoists = refl; comes = λ E env binds q p. no_statement t n i a k b E env q tells }

-- ---- of a branch that isn't taken it doesn't matter what it is

same_choice : (b : Bool) (x y z : M) → b ≡ false → choose b x z ≡ choose b y z
same_choice b x y z e = not_chosen b x z e ∙ sym (not_chosen b y z e)

same_other : (b : Bool) (x y z : M) → b ≡ true → choose b x y ≡ choose b x z
same_other b x y z e = chosen b x y e ∙ sym (chosen b x z e)

module _ (t : Kind) (n i : Note) (a : Forest) (k : Kind) where
  consequent : (E : Enter) (env : Env) (q : Ask) (b c r : Forest) → GivesOnly (λ v. truthy v ≡ false) t a → IsField r → Leads (meaning E Kind.IfStatement (node t n a (node k i b r)) q env) (meaning E Kind.IfStatement (node t n a (node k i c r)) q env)
  unfolding need may eval
  consequent E env (run ls) b c (absent nothing) given f = alike_leads (λ v. truthy v ≡ false) (meaning E t a now env) _ _ (λ v h. same_choice (truthy v) (meaning E k b (run ls) env) (meaning E k c (run ls) env) _ h) (given E env)
  consequent E env (run ls) b c (node l j d nothing) given f = alike_leads (λ v. truthy v ≡ false) (meaning E t a now env) _ _ (λ v h. same_choice (truthy v) (meaning E k b (run ls) env) (meaning E k c (run ls) env) _ h) (given E env)
  consequent E env q b c (absent nothing) given f = unknown_leads _
  consequent E env q b c (node l j d nothing) given f = unknown_leads _
  consequent E env q b c nothing given f = absurd f
  consequent E env q b c (absent (node l j d r)) given f = absurd f
  consequent E env q b c (absent (absent r)) given f = absurd f
  consequent E env q b c (node l j d (node z y e r)) given f = absurd f
  consequent E env q b c (node l j d (absent r)) given f = absurd f

  alternate : (E : Enter) (env : Env) (q : Ask) (b : Forest) (j : Note) (l : Kind) (c d : Forest) → GivesOnly (λ v. truthy v ≡ true) t a → Leads (meaning E Kind.IfStatement (node t n a (node k i b (node l j c nothing))) q env) (meaning E Kind.IfStatement (node t n a (node k i b (node l j d nothing))) q env)
  unfolding need may eval
  alternate E env (run ls) b j l c d given = alike_leads (λ v. truthy v ≡ true) (meaning E t a now env) _ _ (λ v h. same_other (truthy v) (meaning E k b (run ls) env) (meaning E l c (run ls) env) (meaning E l d (run ls) env) h) (given E env)
  alternate E env q b j l c d given = unknown_leads _

  pub consequent_changes : (u : Purpose) (st : Names) (b c r : Forest) → GivesOnly (λ v. truthy v ≡ false) t a → IsField r → ComesTo u st Kind.IfStatement (node t n a (node k i b r)) Kind.IfStatement (node t n a (node k i c r))
  consequent_changes u st b c r given f = record { old_hoists = refl; new_hoists = refl; comes = λ E env binds q p. consequent E env q b c r given f }

  pub alternate_changes : (u : Purpose) (st : Names) (b : Forest) (j : Note) (l : Kind) (c d : Forest) → GivesOnly (λ v. truthy v ≡ true) t a
      → ComesTo u st Kind.IfStatement (node t n a (node k i b (node l j c nothing))) Kind.IfStatement (node t n a (node k i b (node l j d nothing)))
  alternate_changes u st b j l c d given = record { old_hoists = refl; new_hoists = refl; comes = λ E env binds q p. alternate E env q b j l c d given }

-- ---- a part comes behind a test that acts

-- (test, part)
abbrev pub in_sequence : (m n : Note) (t : Kind) (a : Forest) (i : Note) (k : Kind) (b : Forest) → Forest
in_sequence m n t a i k b = node Kind.Expressions m (node t n a (node k i b nothing)) nothing

module _ (t : Kind) (n i m : Note) (a : Forest) (k : Kind) (b : Forest) where
  module _ (j : Note) (l : Kind) (c : Forest) where
    first_behind : (E : Enter) (env : Env) (q : Ask) → GivesOnly (λ v. truthy v ≡ true) t a → Leads (meaning E Kind.ConditionalExpression (node t n a (node k i b (node l j c nothing))) q env) (meaning E Kind.SequenceExpression (in_sequence m n t a i k b) q env)
    unfolding need eval in_turn
    first_behind E env (value u) given = alike_leads (λ v. truthy v ≡ true) (meaning E t a now env) _ _ (λ v h. chosen (truthy v) (meaning E k b now env) _ h) (given E env)
    first_behind E env q given = unknown_leads _

    second_behind : (E : Enter) (env : Env) (q : Ask) → GivesOnly (λ v. truthy v ≡ false) t a → Leads (meaning E Kind.ConditionalExpression (node t n a (node k i b (node l j c nothing))) q env) (meaning E Kind.SequenceExpression (in_sequence m n t a j l c) q env)
    unfolding need eval in_turn
    second_behind E env (value u) given = alike_leads (λ v. truthy v ≡ false) (meaning E t a now env) _ _ (λ v h. not_chosen (truthy v) _ (meaning E l c now env) h) (given E env)
    second_behind E env q given = unknown_leads _

  right_behind : (o : LogicalOperator) (E : Enter) (env : Env) (q : Ask) → GivesOnly (λ v. goes_right o v ≡ true) t a → Leads (meaning E (Kind.LogicalExpression o) (node t n a (node k i b nothing)) q env) (meaning E Kind.SequenceExpression (in_sequence m n t a i k b) q env)
  unfolding need eval in_turn
  right_behind o E env (value u) given = alike_leads (λ v. goes_right o v ≡ true) (meaning E t a now env) _ _ (λ v h. chosen (goes_right o v) (meaning E k b now env) _ h) (given E env)
  right_behind o E env q given = unknown_leads _

pub consequent_behind : (u : Purpose) (st : Names) (t : Kind) (n i j m : Note) (a : Forest) (k l : Kind) (b c : Forest) → GivesOnly (λ v. truthy v ≡ true) t a
    → ComesTo u st Kind.ConditionalExpression (node t n a (node k i b (node l j c nothing))) Kind.SequenceExpression (in_sequence m n t a i k b)
consequent_behind u st t n i j m a k l b c given = record { old_hoists = refl; new_hoists = refl; comes = λ E env binds q p. first_behind t n i m a k b j l c E env q given }

pub alternate_behind : (u : Purpose) (st : Names) (t : Kind) (n i j m : Note) (a : Forest) (k l : Kind) (b c : Forest) → GivesOnly (λ v. truthy v ≡ false) t a
    → ComesTo u st Kind.ConditionalExpression (node t n a (node k i b (node l j c nothing))) Kind.SequenceExpression (in_sequence m n t a j l c)
alternate_behind u st t n i j m a k l b c given = record { old_hoists = refl; new_hoists = refl; comes = λ E env binds q p. second_behind t n i m a k b j l c E env q given }

pub right_side_behind : (u : Purpose) (st : Names) (o : LogicalOperator) (t : Kind) (n i m : Note) (a : Forest) (k : Kind) (b : Forest) → GivesOnly (λ v. goes_right o v ≡ true) t a
    → ComesTo u st (Kind.LogicalExpression o) (node t n a (node k i b nothing)) Kind.SequenceExpression (in_sequence m n t a i k b)
right_side_behind u st o t n i m a k b given = record { old_hoists = refl; new_hoists = refl; comes = λ E env binds q p. right_behind t n i m a k b o E env q given }

-- ---- a loop of which the test fails from the start does nothing

behind_nothing : (k : Completion → M) (n : M) → Leads (k normal) n → Leads (bind (done normal) k) n
unfolding bind done
behind_nothing k n h = record { leads = λ s. subst (LeadsFrom s n) (sym (more_nothing (k normal s))) (h.leads s) }

module _ (t : Kind) (n : Note) (a r : Forest) where
  while_ends : (E : Enter) (env : Env) (q : Ask) → Tells (λ v. truthy v ≡ false) t a → Leads (meaning E Kind.WhileStatement (node t n a r) q env) (done normal)
  unfolding need eval
  while_ends E env (run ls) tells = told_leads (λ v. truthy v ≡ false) (meaning E t a now env) _ (done normal) (λ v h. not_chosen (truthy v) _ (done normal) h) (tells.quiet E env) (tells.told E env)
  while_ends E env q tells = unknown_leads _

  for_ends : (E : Enter) (env : Env) (q : Ask) → Tells (λ v. truthy v ≡ false) t a → Leads (meaning E Kind.ForStatement (absent (node t n a r)) q env) (done normal)
  unfolding may eval declare copy
  for_ends E env (run ls) tells = behind_nothing _ (done normal) (told_leads (λ v. truthy v ≡ false) (meaning E t a now env) _ (done normal) (λ v h. not_chosen (truthy v) _ (done normal) h) (tells.quiet E env) (tells.told E env))
  for_ends E env q tells = unknown_leads _

  pub while_does_nothing : Tells (λ v. truthy v ≡ false) t a → DoesNothing Kind.WhileStatement (node t n a r)
  while_does_nothing tells = record { hoists = refl; nothing_done = λ E q env. while_ends E env q tells }

  pub for_does_nothing : Tells (λ v. truthy v ≡ false) t a → DoesNothing Kind.ForStatement (absent (node t n a r))
  for_does_nothing tells = record { hoists = refl; nothing_done = λ E q env. for_ends E env q tells }
