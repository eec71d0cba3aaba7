-- What the first node of a row does, and the others after it.
use Rattle.std.proofs.Common.{◌≡◌, ◌∙◌, List, [], ◌∷◌, ◌++◌, Some, drop, ap, sym}
use Rattle.js_syntax.specs.Node.{Forest, node, Tree}
use Rattle.js_meaning.specs.Value.{Env, Value, undef}
use Rattle.js_meaning.specs.State.{M, done, gives_all, seq, with_receiver, with_value}
use Rattle.js_meaning.specs.Node.{Ask, take, matches, values}
use Rattle.js_meaning.specs.Statement.{choose_case}
use Rattle.js_meaning.specs.Host.{Enter}
use Rattle.js_meaning.specs.Meaning.{eval, take_each}
use Rattle.run_plan.specs.Frame.{meaning, case_found}
use Rattle.run_plan.specs.First.{first_or_undefined}

pub collects : (E : Enter) (t : Tree) (q r : Ask) (e env : Env) (a b : Forest) (vs : List Value) (m : M) → m ≡ meaning E t q e → q ≡ r → e ≡ env → a ≡ b
    → with_receiver m (λ v this. values r (eval E a) env (λ us. done (gives_all (vs ++ (v ∷ us))))) ≡ with_value (meaning E t r env) (λ v. values r (eval E b) env (λ us. done (gives_all (vs ++ (v ∷ us)))))
collects E t q r e env a b vs m does asked around rest =
    λ i. with_receiver ((does ∙ ap (λ z. meaning E t z e) asked ∙ ap (meaning E t r) around) i) (λ v this. values r (eval E (rest i)) env (λ us. done (gives_all (vs ++ (v ∷ us)))))

pub gives_first : (E : Enter) (t : Tree) (e env : Env) (a b : Forest) (v : Value) (us vs : List Value) (m : M) → m ≡ meaning E t (take v) e → v ≡ first_or_undefined vs → us ≡ drop 1 vs → e ≡ env → a ≡ b
    → seq m (take_each (eval E a) us env) ≡ take_each (Some (meaning E t) ∷ eval E b) vs env
unfolding take_each
gives_first E t e env a b v us [] m does first others around rest =
    λ i. seq ((does ∙ ap (λ z. meaning E t (take z) e) first ∙ ap (meaning E t (take undef)) around) i) (take_each (eval E (rest i)) (others i) env)
gives_first E t e env a b v us (w ∷ vs) m does first others around rest =
    λ i. seq ((does ∙ ap (λ z. meaning E t (take z) e) first ∙ ap (meaning E t (take w)) around) i) (take_each (eval E (rest i)) (others i) env)

pub finds : (E : Enter) (t : Tree) (rest here : Forest) (u v : Value) (e env : Env) (default m : M) → m ≡ meaning E t (matches u) e → u ≡ v → e ≡ env → here ≡ node t.kind t.note t.below rest
    → with_value m (case_found E here v env default) ≡ choose_case (eval E here) v env default
unfolding choose_case eval
finds E t rest here u v e env default m does sought around is =
    (λ i. with_value ((does ∙ ap (λ z. meaning E t (matches z) e) sought ∙ ap (meaning E t (matches v)) around) i) (case_found E (is i) v env default)) ∙ ap (λ h. choose_case (eval E h) v env default) (sym is)
