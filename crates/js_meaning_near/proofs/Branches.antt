-- A conditional whose test is a literal comes to one of its branches.
use Rattle.std.proofs.Common.{◌≡◌, [], refl, sym, ap, ◌∙◌, subst}
use Rattle.std.specs.Prelude.{Bool, true, false}
use Rattle.std.proofs.Common.{arith}
use Rattle.js_syntax.specs.declared.node_kind.NodeKind.{NodeKind as Kind}
use Rattle.js_syntax.specs.declared.kind.FunctionKind.TheVariants as function_kind
use Rattle.js_syntax.specs.declared.value.LiteralValue.{LiteralValue as Literal}
use Rattle.js_syntax.specs.Node.{Note, Forest, nothing, node, absent}
use Rattle.js_meaning.specs.Value.{Env, Value, literal_value}
use Rattle.js_meaning.specs.Operator.{truthy, goes_right}
use Rattle.js_meaning.specs.State.{State, Out, goes, stops, M, more, go_on, bind, done, stop, choose, unknown, give, if_gives, with_value}
use Rattle.js_meaning.specs.Host.{Enter}
use Rattle.js_meaning.specs.Node.{Wanted, itself, to_call, for_typeof, Ask, run, value, now, Meaning, Parts, need, may}
use Rattle.js_syntax.specs.Facts.{is_core}
use Rattle.js_meaning.specs.Meaning.{if_core, does, eval}
use Rattle.js_meaning_near.specs.Quiet.{EndsQuietly, gives_quietly, stops_quietly, Quiet, OnlyAllocates, LeadsFrom, goes_on_as, stops_before, Leads}
use Rattle.js_meaning_near.specs.Names.{Names}
use Rattle.js_meaning_near.specs.Local.{IsField}
use Rattle.js_syntax.specs.declared.operator.LogicalOperator.{LogicalOperator}
use Rattle.js_meaning.specs.Expression.{in_turn}
use Rattle.js_meaning_near.specs.Near.{Silent, meaning, is_blunt, is_calm, hoists_nothing, Permits, ComesTo}
use Rattle.js_meaning_near.specs.Purpose.{Purpose, asked}
use Rattle.js_meaning_near.specs.Bare.{stands_bare}

true_false : true ≡ false → ⊥
true_false e = cc

pub allocates_nothing : (s : State) → OnlyAllocates s s
allocates_nothing s = record { budget = refl; fresh = omega arith; store = λ i h. refl; globals = λ x. refl; imports = λ x y. refl; shown = refl; moves = refl; exports = refl; stars = refl }

more_nothing : (o : Out) → more [] o ≡ o
more_nothing (goes es s c) = refl
more_nothing (stops es e) = refl

-- what stands bare hoists nothing
pub blunt_hoists : (k : Kind) → is_blunt k ≡ true → hoists_nothing k ≡ true
blunt_hoists (Kind.Literal v) h = refl
blunt_hoists Kind.ThisExpression h = refl
blunt_hoists Kind.ArrayExpression h = refl
blunt_hoists Kind.ObjectExpression h = refl
blunt_hoists Kind.SequenceExpression h = refl
blunt_hoists (Kind.UnaryExpression o) h = refl
blunt_hoists (Kind.UpdateExpression o prefix) h = refl
blunt_hoists (Kind.BinaryExpression o) h = refl
blunt_hoists (Kind.LogicalExpression o) h = refl
blunt_hoists (Kind.AssignmentExpression o) h = refl
blunt_hoists Kind.ConditionalExpression h = refl
blunt_hoists (Kind.CallExpression optional pure) h = refl
blunt_hoists (Kind.NewExpression pure) h = refl
blunt_hoists k h = absurd cc

pub bare_hoists : (w : Wanted) (k : Kind) (a : Forest) → stands_bare w k a ≡ true → hoists_nothing k ≡ true
bare_hoists w (Kind.ReferenceName x) a h = refl
bare_hoists w (Kind.MemberExpression key optional) a h = refl
bare_hoists w Kind.ParenthesizedExpression a h = refl
bare_hoists w (Kind.Function function_kind.Expression pure) a h = refl
bare_hoists w (Kind.Function function_kind.Arrow pure) a h = refl
bare_hoists w (Kind.Function function_kind.Declaration pure) a h = absurd (true_false (sym h))
bare_hoists w k a h = blunt_hoists k h

calm_hoists : (k : Kind) → is_calm k ≡ true → hoists_nothing k ≡ true
calm_hoists (Kind.ReferenceName x) h = refl
calm_hoists (Kind.MemberExpression key optional) h = refl
calm_hoists Kind.ParenthesizedExpression h = refl
calm_hoists (Kind.Function f pure) h = absurd (true_false (sym h))
calm_hoists k h = h

core_asks : (core : Bool) (m : Meaning) (env : Env) (w : Wanted) → m (value w) env ≡ m now env → if_core core m (value w) env ≡ if_core core m now env
core_asks true m env w e = e
core_asks false m env w e = refl

-- what a blunt expression is wanted for makes no difference
blunt_does : (E : Enter) (l : Kind) (b : Forest) (ms : Parts) (env : Env) (w : Wanted) → is_blunt l ≡ true → does E l b ms (value w) env ≡ does E l b ms now env
blunt_does E (Kind.ReferenceName x) b ms env w h = absurd (true_false (sym h))
blunt_does E (Kind.MemberExpression key optional) b ms env w h = absurd (true_false (sym h))
blunt_does E Kind.ParenthesizedExpression b ms env w h = absurd (true_false (sym h))
blunt_does E (Kind.Function f pure) b ms env w h = absurd (true_false (sym h))
blunt_does E (Kind.CallExpression false pure) b ms env w h = refl
blunt_does E (Kind.CallExpression true pure) b ms env w h = refl
blunt_does E l b ms env w h = refl

-- nor does it of what stands bare there, where it is asked just that
bare_does : (E : Enter) (w : Wanted) (l : Kind) (b : Forest) (env : Env) → stands_bare w l b ≡ true → does E l b (eval E b) (value w) env ≡ does E l b (eval E b) now env
unfolding need eval
bare_does E itself l b env h = refl
bare_does E to_call (Kind.ReferenceName x) b env h = refl
bare_does E for_typeof (Kind.ReferenceName x) b env h = absurd (true_false (sym h))
bare_does E to_call (Kind.MemberExpression key optional) b env h = absurd (true_false (sym h))
bare_does E for_typeof (Kind.MemberExpression key false) b env h = refl
bare_does E for_typeof (Kind.MemberExpression key true) b env h = refl
bare_does E to_call (Kind.Function function_kind.Declaration pure) b env h = absurd (true_false (sym h))
bare_does E for_typeof (Kind.Function function_kind.Declaration pure) b env h = absurd (true_false (sym h))
bare_does E to_call (Kind.Function function_kind.Expression pure) b env h = refl
bare_does E for_typeof (Kind.Function function_kind.Expression pure) b env h = refl
bare_does E to_call (Kind.Function function_kind.Arrow pure) b env h = refl
bare_does E for_typeof (Kind.Function function_kind.Arrow pure) b env h = refl
bare_does E to_call Kind.ParenthesizedExpression (node k n a r) env h = core_asks (is_core k) (does E k a (eval E a)) env to_call (bare_does E to_call k a env h)
bare_does E for_typeof Kind.ParenthesizedExpression (node k n a r) env h = core_asks (is_core k) (does E k a (eval E a)) env for_typeof (bare_does E for_typeof k a env h)
bare_does E to_call Kind.ParenthesizedExpression nothing env h = absurd (true_false (sym h))
bare_does E for_typeof Kind.ParenthesizedExpression nothing env h = absurd (true_false (sym h))
bare_does E to_call Kind.ParenthesizedExpression (absent r) env h = absurd (true_false (sym h))
bare_does E for_typeof Kind.ParenthesizedExpression (absent r) env h = absurd (true_false (sym h))
bare_does E to_call l b env h = blunt_does E l b (eval E b) env to_call h
bare_does E for_typeof l b env h = blunt_does E l b (eval E b) env for_typeof h

pub bare_asks : (E : Enter) (w : Wanted) (l : Kind) (b : Forest) (env : Env) → stands_bare w l b ≡ true → meaning E l b (value w) env ≡ meaning E l b now env
bare_asks E w l b env h = core_asks (is_core l) (does E l b (eval E b)) env w (bare_does E w l b env h)

leads_at : (n : M) (s : State) (o : Out) → o ≡ n s → LeadsFrom s n (more [] o)
leads_at n s o e = subst (LeadsFrom s n) (sym (more_nothing o)) (subst (LeadsFrom s n) (sym e) (goes_on_as (allocates_nothing s)))

unknown_leads : (m : M) → Leads unknown m
unfolding stop
unknown_leads m = record { leads = λ s. stops_before }

chosen : (b : Bool) (m n : M) → b ≡ true → choose b m n ≡ m
unfolding choose
chosen true m n e = refl
chosen false m n e = absurd (true_false (sym e))

not_chosen : (b : Bool) (m n : M) → b ≡ false → choose b m n ≡ n
unfolding choose
not_chosen true m n e = absurd (true_false e)
not_chosen false m n e = refl

-- a literal's value, and on
given : (v : Value) (k : Value → M) (m : M) → k v ≡ m → Leads (with_value (give v) k) m
unfolding bind done
given v k m e = record { leads = λ s. leads_at m s (k v s) (ap (λ n. n s) e) }

conditional : (E : Enter) (w : Wanted) (v : Literal) (n i j : Note) (l z : Kind) (b c : Forest) (env : Env) (q : Ask) → Permits w q → truthy (literal_value v) ≡ true → stands_bare w l b ≡ true
    → Leads (meaning E Kind.ConditionalExpression (node (Kind.Literal v) n nothing (node l i b (node z j c nothing))) q env) (meaning E l b q env)
unfolding need eval
conditional E w v n i j l z b c env (value u) p t h = given (literal_value v) _ _ (chosen (truthy (literal_value v)) (meaning E l b now env) _ t ∙ sym (bare_asks E u l b env (subst (λ u. stands_bare u l b ≡ true) (sym p) h)))
conditional E w v n i j l z b c env q p t h = unknown_leads _

-- a conditional on a literal is its live branch, wherever that stands bare
pub condition_holds : (u : Purpose) (st : Names) (v : Literal) (n i j : Note) (l z : Kind) (b c : Forest) → truthy (literal_value v) ≡ true → stands_bare (asked u) l b ≡ true
    → ComesTo u st Kind.ConditionalExpression (node (Kind.Literal v) n nothing (node l i b (node z j c nothing))) l b
condition_holds u st v n i j l z b c t h = record { old_hoists = refl; new_hoists = bare_hoists (asked u) l b h; comes = λ E env binds q p. conditional E (asked u) v n i j l z b c env q p t h }

other : (E : Enter) (w : Wanted) (v : Literal) (n i j : Note) (l z : Kind) (b c : Forest) (env : Env) (q : Ask) → Permits w q → truthy (literal_value v) ≡ false → stands_bare w z c ≡ true
    → Leads (meaning E Kind.ConditionalExpression (node (Kind.Literal v) n nothing (node l i b (node z j c nothing))) q env) (meaning E z c q env)
unfolding need eval
other E w v n i j l z b c env (value u) p t h = given (literal_value v) _ _ (not_chosen (truthy (literal_value v)) _ (meaning E z c now env) t ∙ sym (bare_asks E u z c env (subst (λ u. stands_bare u z c ≡ true) (sym p) h)))
other E w v n i j l z b c env q p t h = unknown_leads _

pub condition_fails : (u : Purpose) (st : Names) (v : Literal) (n i j : Note) (l z : Kind) (b c : Forest) → truthy (literal_value v) ≡ false → stands_bare (asked u) z c ≡ true
    → ComesTo u st Kind.ConditionalExpression (node (Kind.Literal v) n nothing (node l i b (node z j c nothing))) z c
condition_fails u st v n i j l z b c t h = record { old_hoists = refl; new_hoists = bare_hoists (asked u) z c h; comes = λ E env binds q p. other E (asked u) v n i j l z b c env q p t h }

choice : (E : Enter) (v : Literal) (n i : Note) (l : Kind) (b r : Forest) (env : Env) (q : Ask) → truthy (literal_value v) ≡ true → IsField r
    → Leads (meaning E Kind.IfStatement (node (Kind.Literal v) n nothing (node l i b r)) q env) (meaning E l b q env)
unfolding need may eval
choice E v n i l b (absent nothing) env (run ls) t h = given (literal_value v) _ _ (chosen (truthy (literal_value v)) (meaning E l b (run ls) env) _ t)
choice E v n i l b (node z j c nothing) env (run ls) t h = given (literal_value v) _ _ (chosen (truthy (literal_value v)) (meaning E l b (run ls) env) _ t)
choice E v n i l b (absent nothing) env q t h = unknown_leads _
choice E v n i l b (node z j c nothing) env q t h = unknown_leads _
choice E v n i l b nothing env q t h = absurd h
choice E v n i l b (absent (node z j c r)) env q t h = absurd h
choice E v n i l b (absent (absent r)) env q t h = absurd h
choice E v n i l b (node z j c (node y k d r)) env q t h = absurd h
choice E v n i l b (node z j c (absent r)) env q t h = absurd h

-- an `if` on a literal is its live branch
pub if_holds : (u : Purpose) (st : Names) (v : Literal) (n i : Note) (l : Kind) (b r : Forest) → truthy (literal_value v) ≡ true → is_calm l ≡ true → IsField r
    → ComesTo u st Kind.IfStatement (node (Kind.Literal v) n nothing (node l i b r)) l b
if_holds u st v n i l b r t g h = record { old_hoists = refl; new_hoists = calm_hoists l g; comes = λ E env binds q p. choice E v n i l b r env q t h }

other_choice : (E : Enter) (v : Literal) (n i j : Note) (l z : Kind) (b c : Forest) (env : Env) (q : Ask) → truthy (literal_value v) ≡ false
    → Leads (meaning E Kind.IfStatement (node (Kind.Literal v) n nothing (node l i b (node z j c nothing))) q env) (meaning E z c q env)
unfolding need may eval
other_choice E v n i j l z b c env (run ls) t = given (literal_value v) _ _ (not_chosen (truthy (literal_value v)) _ (meaning E z c (run ls) env) t)
other_choice E v n i j l z b c env q t = unknown_leads _

pub if_fails : (u : Purpose) (st : Names) (v : Literal) (n i j : Note) (l z : Kind) (b c : Forest) → truthy (literal_value v) ≡ false → is_calm z ≡ true
    → ComesTo u st Kind.IfStatement (node (Kind.Literal v) n nothing (node l i b (node z j c nothing))) z c
if_fails u st v n i j l z b c t g = record { old_hoists = refl; new_hoists = calm_hoists z g; comes = λ E env binds q p. other_choice E v n i j l z b c env q t }

-- a logical expression whose left side is a literal is its right side, or the literal

right_side : (E : Enter) (w : Wanted) (o : LogicalOperator) (v : Literal) (n i : Note) (l : Kind) (b : Forest) (env : Env) (q : Ask) → Permits w q → goes_right o (literal_value v) ≡ true → stands_bare w l b ≡ true
    → Leads (meaning E (Kind.LogicalExpression o) (node (Kind.Literal v) n nothing (node l i b nothing)) q env) (meaning E l b q env)
unfolding need eval
right_side E w o v n i l b env (value u) p t h = given (literal_value v) _ _ (chosen (goes_right o (literal_value v)) (meaning E l b now env) _ t ∙ sym (bare_asks E u l b env (subst (λ u. stands_bare u l b ≡ true) (sym p) h)))
right_side E w o v n i l b env q p t h = unknown_leads _

pub right_side_counts : (u : Purpose) (st : Names) (o : LogicalOperator) (v : Literal) (n i : Note) (l : Kind) (b : Forest) → goes_right o (literal_value v) ≡ true → stands_bare (asked u) l b ≡ true
    → ComesTo u st (Kind.LogicalExpression o) (node (Kind.Literal v) n nothing (node l i b nothing)) l b
right_side_counts u st o v n i l b t h = record { old_hoists = refl; new_hoists = bare_hoists (asked u) l b h; comes = λ E env binds q p. right_side E (asked u) o v n i l b env q p t h }

left_side : (E : Enter) (o : LogicalOperator) (v : Literal) (n i : Note) (l : Kind) (b c : Forest) (env : Env) (q : Ask) → goes_right o (literal_value v) ≡ false
    → Leads (meaning E (Kind.LogicalExpression o) (node (Kind.Literal v) n nothing (node l i b nothing)) q env) (meaning E (Kind.Literal v) c q env)
unfolding need eval
left_side E o v n i l b c env (value w) t = given (literal_value v) _ _ (not_chosen (goes_right o (literal_value v)) _ (give (literal_value v)) t)
left_side E o v n i l b c env q t = unknown_leads _

pub left_side_decides : (u : Purpose) (st : Names) (o : LogicalOperator) (v : Literal) (n i : Note) (l : Kind) (b c : Forest) → goes_right o (literal_value v) ≡ false
    → ComesTo u st (Kind.LogicalExpression o) (node (Kind.Literal v) n nothing (node l i b nothing)) (Kind.Literal v) c
left_side_decides u st o v n i l b c t = record { old_hoists = refl; new_hoists = refl; comes = λ E env binds q p. left_side E o v n i l b c env q t }

-- a silent part in front leaves a sequence of two

quietly : (m : M) (k : Value → M) (n : M) → Quiet m → ((v : Value) → k v ≡ n) → Leads (with_value m k) n
unfolding bind
quietly m k n q e = record { leads = λ s. go s (m s) (q.quiet s) }
  where
    go : (s : State) (o : Out) → EndsQuietly s o → LeadsFrom s n (go_on o (if_gives (λ v r. k v)))
    go s _ (gives_quietly {z = z} {v = v} a) = subst (LeadsFrom s n) (sym (more_nothing (k v z))) (subst (λ f. LeadsFrom s n (f z)) (sym (e v)) (goes_on_as a))
    go s _ stops_quietly = stops_before

sequence : (E : Enter) (w : Wanted) (k l : Kind) (a b : Forest) (n i j : Note) (env : Env) (q : Ask) → Permits w q → Quiet (meaning E k a now env) → stands_bare w l b ≡ true
    → Leads (meaning E Kind.SequenceExpression (node Kind.Expressions n (node k i a (node l j b nothing)) nothing) q env) (meaning E l b q env)
unfolding need eval in_turn
sequence E w k l a b n i j env (value u) p s h = quietly (meaning E k a now env) _ (meaning E l b (value u) env) s (λ v. sym (bare_asks E u l b env (subst (λ u. stands_bare u l b ≡ true) (sym p) h)))
sequence E w k l a b n i j env q p s h = unknown_leads _

pub silent_part_leaves : (u : Purpose) (st : Names) (k l : Kind) (a b : Forest) (n i j : Note) → Silent st k a → stands_bare (asked u) l b ≡ true
    → ComesTo u st Kind.SequenceExpression (node Kind.Expressions n (node k i a (node l j b nothing)) nothing) l b
silent_part_leaves u st k l a b n i j s h = record { old_hoists = refl; new_hoists = bare_hoists (asked u) l b h; comes = λ E env binds q p. sequence E (asked u) k l a b n i j env q p (s.silent E env binds) h }

pub given_is : (v : Value) (k : Value → M) → with_value (give v) k ≡ k v
unfolding bind done
given_is v k = λ i s. more_nothing (k v s) i

-- `(0, e)` for what would come out bare: the conditional as a callee keeps its receiver back
zero_first : (E : Enter) (v z : Literal) (n i j m o p : Note) (l y : Kind) (b c : Forest) (env : Env) (q : Ask) → truthy (literal_value v) ≡ true
    → Leads (meaning E Kind.ConditionalExpression (node (Kind.Literal v) n nothing (node l i b (node y j c nothing))) q env) (meaning E Kind.SequenceExpression (node Kind.Expressions m (node (Kind.Literal z) o nothing (node l p b nothing)) nothing) q env)
unfolding need eval in_turn
zero_first E v z n i j m o p l y b c env (value w) t = given (literal_value v) _ _ (chosen (truthy (literal_value v)) (meaning E l b now env) _ t ∙ sym (given_is (literal_value z) (λ u. meaning E l b now env)))
zero_first E v z n i j m o p l y b c env q t = unknown_leads _

pub holds_bare : (u : Purpose) (st : Names) (v z : Literal) (n i j m o p : Note) (l y : Kind) (b c : Forest) → truthy (literal_value v) ≡ true
    → ComesTo u st Kind.ConditionalExpression (node (Kind.Literal v) n nothing (node l i b (node y j c nothing))) Kind.SequenceExpression (node Kind.Expressions m (node (Kind.Literal z) o nothing (node l p b nothing)) nothing)
holds_bare u st v z n i j m o p l y b c t = record { old_hoists = refl; new_hoists = refl; comes = λ E env binds q h. zero_first E v z n i j m o p l y b c env q t }
