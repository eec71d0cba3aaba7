-- Where nobody takes the value of an expression a run asks for its effects alone, and it is used as a value.
use Rattle.std.proofs.Common.{◌≡◌, ℕ, suc, Bool, true, false, not, ◌==◌, refl, sym, subst, true≢false}
use Rattle.std.specs.Prelude.{if◌then◌else◌}
use Rattle.js_effects.specs.Silence.{is_nothing}
use Rattle.js_syntax.specs.declared.node_kind.NodeKind.{NodeKind as Kind}
use Rattle.js_syntax.specs.Node.{Forest, nothing, node, absent}
use Rattle.js_meaning_near.specs.Near.{is_row}
use Rattle.js_meaning_near.specs.Purpose.{Purpose, for_value, for_effect, ForEffect, Purposes, all, first_then, last_for, purpose_here, purposes_behind, for_values, handed_on, wanted_below}
use Rattle.scope_laws.specs.Place.{Around, first, behind, behind_none, under}
use Rattle.steps.specs.Allowed.Unused.{Taker, somebody, nobody, last_alone, is_nobody, of_sequence, of_part, of_branch, in_parentheses, taken_below, taken_there, is_unused_at}
use Rattle.steps.specs.Allowed.Uses.{Use, as_value, use_below, use_there, use_at}
use Rattle.steps.specs.Allowed.Wanted.{wanted_in, wanted_at}

never : {P : Type 0} → false ≡ true → P
never e = absurd (true≢false (sym e))

-- ---- what a run asks for

-- with more behind it or none
same_more : (rest : Forest) → not (is_nothing rest) ≡ is_row rest
same_more nothing = refl
same_more (absent r) = refl
same_more (node k n a r) = refl

-- of each node of a row from an index on
abbrev Tells : (ts : ℕ → Bool → Taker) → (at : ℕ) → Purposes → Type 0
Tells ts at (all u) = (i : ℕ) (more : Bool) → is_nobody (ts i more) ≡ true → ForEffect u
Tells ts at (first_then u ps) = ((more : Bool) → is_nobody (ts at more) ≡ true → ForEffect u) × Tells ts (suc at) ps
Tells ts at (last_for u) = (i : ℕ) (more : Bool) → is_nobody (ts i more) ≡ true → ForEffect (purpose_here (last_for u) more)

tells_here : (ts : ℕ → Bool → Taker) (at : ℕ) (ps : Purposes) (more : Bool) → Tells ts at ps → is_nobody (ts at more) ≡ true → ForEffect (purpose_here ps more)
tells_here ts at (all u) more h e = h at more e
tells_here ts at (first_then u ps) more h e = h.0 more e
tells_here ts at (last_for u) more h e = h at more e

tells_behind : (ts : ℕ → Bool → Taker) (at : ℕ) (ps : Purposes) → Tells ts at ps → Tells ts (suc at) (purposes_behind ps)
tells_behind ts at (all u) h = h
tells_behind ts at (first_then u ps) h = h.1
tells_behind ts at (last_for u) h = h

at_end : (u : Purpose) (more : Bool) → ForEffect u → ForEffect (purpose_here (last_for u) more)
at_end u true h = tt
at_end u false h = h

handed : (u : Purpose) → ForEffect u → ForEffect (handed_on u)
handed (for_value w) h = absurd h
handed for_effect h = tt

-- below a node, by who takes its own value
below_parentheses : (t : Taker) (u : Purpose) → (is_nobody t ≡ true → ForEffect u) → is_nobody (in_parentheses t) ≡ true → ForEffect u
below_parentheses nobody u h e = h refl
below_parentheses somebody u h e = never e
below_parentheses last_alone u h e = never e

one_of_both : {P : Type 0} (b : Bool) → is_nobody (if b then last_alone else somebody) ≡ true → P
one_of_both true e = never e
one_of_both false e = never e

below_sequence : (t : Taker) (u : Purpose) → (is_nobody t ≡ true → ForEffect u) → (i : ℕ) → is_nobody (of_sequence t i) ≡ true → ForEffect (handed_on u)
below_sequence nobody u h i e = handed u (h refl)
below_sequence somebody u h i e = one_of_both (i == 0) e
below_sequence last_alone u h i e = one_of_both (i == 0) e

below_list : (t : Taker) (u : Purpose) → (is_nobody t ≡ true → ForEffect u) → (more : Bool) → is_nobody (of_part t more) ≡ true → ForEffect (purpose_here (last_for (handed_on u)) more)
below_list nobody u h more e = at_end (handed_on u) more (handed u (h refl))
below_list last_alone u h true e = tt
below_list last_alone u h false e = never e
below_list somebody u h more e = never e

below_first : (t : Taker) → is_nobody (of_branch t 0) ≡ true → ⊥
below_first nobody e = true≢false (sym e)
below_first somebody e = true≢false (sym e)
below_first last_alone e = true≢false (sym e)

below_branch : (t : Taker) (u : Purpose) → (is_nobody t ≡ true → ForEffect u) → (i : ℕ) → is_nobody (of_branch t i) ≡ true → ForEffect (handed_on u)
below_branch nobody u h i e = handed u (h refl)
below_branch somebody u h i e = never e
below_branch last_alone u h i e = never e

tells_below : (t : Taker) (u : Purpose) (k : Kind) → (is_nobody t ≡ true → ForEffect u) → Tells (taken_below t k) 0 (wanted_below u k)
tells_below t u Kind.ExpressionStatement h = λ i more e. tt
tells_below t u Kind.ForStatement h = (λ more e. never e, (λ more e. never e, λ i more e. tt))
tells_below t u Kind.ParenthesizedExpression h = λ i more e. below_parentheses t u h e
tells_below t u Kind.SequenceExpression h = λ i more e. below_sequence t u h i e
tells_below t u Kind.Expressions h = λ i more e. below_list t u h more e
tells_below t u (Kind.LogicalExpression o) h = (λ more e. absurd (below_first t e), λ i more e. below_branch t u h i e)
tells_below t u Kind.ConditionalExpression h = (λ more e. absurd (below_first t e), λ i more e. below_branch t u h i e)
tells_below t u (Kind.CallExpression optional pure) h = λ i more e. never e
tells_below t u Kind.TaggedTemplateExpression h = λ i more e. never e
tells_below t u (Kind.UnaryExpression o) h = λ i more e. never e
tells_below t u k h = λ i more e. never e

effect_there : (a : Around) (ts : ℕ → Bool → Taker) (at : ℕ) (ps : Purposes) → Tells ts at ps → is_nobody (taken_there ts at a) ≡ true → ForEffect (wanted_in ps a)
effect_there (first rest) ts at ps h e = subst (λ more. ForEffect (purpose_here ps more)) (same_more rest) (tells_here ts at ps (not (is_nothing rest)) h e)
effect_there (behind k n b a) ts at ps h e = effect_there a ts (suc at) (purposes_behind ps) (tells_behind ts at ps h) e
effect_there (behind_none a) ts at ps h e = effect_there a ts (suc at) (purposes_behind ps) (tells_behind ts at ps h) e
effect_there (under k n a rest) ts at ps h e =
    let u = purpose_here ps (is_row rest) in
    let t = ts at (not (is_nothing rest)) in
    effect_there a (taken_below t k) 0 (wanted_below u k)
    (tells_below t u k (λ d. subst (λ more. ForEffect (purpose_here ps more)) (same_more rest) (tells_here ts at ps (not (is_nothing rest)) h d))) e

pub unused_for_effect : (a : Around) → is_unused_at a ≡ true → ForEffect (wanted_at a)
unused_for_effect a e = effect_there a (λ i more. somebody) 0 for_values (λ i more d. never d) e

-- ---- what it is used for

inside_value : (t : Taker) (u : Use) → (is_nobody t ≡ true → u ≡ as_value) → is_nobody (in_parentheses t) ≡ true → u ≡ as_value
inside_value nobody u h e = h refl
inside_value somebody u h e = never e
inside_value last_alone u h e = never e

value_below : (t : Taker) (u : Use) (k : Kind) → (is_nobody t ≡ true → u ≡ as_value) → (i : ℕ) (more : Bool) → is_nobody (taken_below t k i more) ≡ true → use_below u k i ≡ as_value
value_below t u Kind.ParenthesizedExpression h i more e = inside_value t u h e
value_below t u (Kind.CallExpression optional pure) h i more e = never e
value_below t u Kind.TaggedTemplateExpression h i more e = never e
value_below t u (Kind.UnaryExpression o) h i more e = never e
value_below t u k h i more e = refl

value_there : (a : Around) (ts : ℕ → Bool → Taker) (uses : ℕ → Use) (at : ℕ) → ((i : ℕ) (more : Bool) → is_nobody (ts i more) ≡ true → uses i ≡ as_value) → is_nobody (taken_there ts at a) ≡ true → use_there uses at a ≡ as_value
value_there (first rest) ts uses at h e = h at (not (is_nothing rest)) e
value_there (behind k n b a) ts uses at h e = value_there a ts uses (suc at) h e
value_there (behind_none a) ts uses at h e = value_there a ts uses (suc at) h e
value_there (under k n a rest) ts uses at h e = value_there a (taken_below (ts at (not (is_nothing rest))) k) (λ i. use_below (uses at) k i) 0 (value_below (ts at (not (is_nothing rest))) (uses at) k (h at (not (is_nothing rest)))) e

pub unused_as_value : (a : Around) → is_unused_at a ≡ true → use_at a ≡ as_value
unused_as_value a e = value_there a (λ i more. somebody) (λ i. as_value) 0 (λ i more d. refl) e
