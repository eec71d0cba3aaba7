-- Acts on several values, one after another.
use Rattle.std.proofs.Common.{◌≡◌, ◌∙◌, ◌≤◌, ◌-◌, ℕ, List, [], ◌∷◌, Option, Some, None, Vec, length, get_or, take, drop, map, refl, sym, ap, arith}
use Rattle.std.proofs.lemmas.List.{take_all}
use Rattle.std.specs.Prelude.{Result, IfOk}
use Rattle.std.specs.Global.{Global}
use Rattle.std.proofs.lemmas.Result.{IfOk-weaker}
use Rattle.js_meaning.specs.Value as meant
use Rattle.js_meaning.specs.Trace.{Ending}
use Rattle.js_meaning.specs.State.{M, stop}
use Rattle.js_meaning.specs.Show.{show, show_all, if_some, resolve, resolve_all}
use Rattle.run_value.specs.declared.value.Value.{Value}
use Rattle.run_value.specs.View.{value_of}
use Rattle.run_value.specs.declared.shown.Shown.{Shown}
use Rattle.run_value.specs.declared.shown.Given.{Given}
use Rattle.run_value.specs.ShownView.{shown_of, given_of}
use Rattle.run_value.specs.Trace.{all_of}
use Rattle.run_world.specs.declared.world.World.{World}
use Rattle.run_world.specs.World.{at, maybe_value, values_of, givens_of}
use Rattle.run_world.specs.Going.{if_all}

pub first_item : {A : Type 0} (xs : List A) (x : A) → 1 ≤ length xs → x ≡ get_or xs 0 x → xs ≡ x ∷ take (length xs - 1) (drop 1 xs)
first_item [] x h is = absurd (omega arith)
first_item (y ∷ ys) x h is =
    let all : take (length (y ∷ ys) - 1) ys ≡ ys = take_all _ _ (omega arith) in
    λ t. (sym is t) ∷ (sym all t)

pub shows_more : (w mid end : World) (values : List Value) (v : Value) (x : Shown) (xs : Vec Shown Global) {X : Type 0} (r : Result (Vec Shown Global) X)
    → values ≡ v ∷ take (length values - 1) (drop 1 values)
    → ((k : meant.Shown → M) → at w (show (value_of v) k) ≡ at mid (k (shown_of x)))
    → ((k : List meant.Shown → M) → at mid (show_all (values_of (take (length values - 1) (drop 1 values))) k) ≡ at end (k (all_of xs.items)))
    → IfOk r (λ ys. ys.items ≡ x ∷ xs.items)
    → IfOk r (λ ys. (k : List meant.Shown → M) → at w (show_all (values_of values) k) ≡ at end (k (all_of ys.items)))
unfolding show_all
shows_more w mid end values v x xs r is first rest told =
    IfOk-weaker r _ _ (λ ys made k. ap (λ vs. at w (show_all (values_of vs) k)) is ∙ first (λ y. show_all (values_of (take (length values - 1) (drop 1 values))) (λ zs. k (y ∷ zs))) ∙ rest (λ zs. k (shown_of x ∷ zs)) ∙ ap (λ zs. at end (k (all_of zs))) (sym made)) told

pub resolves_more : (w : World) (givens : List Given) (g : Given) (o : Option Value) (v : Value) (others : Option (Vec Value Global))
    → givens ≡ g ∷ take (length givens - 1) (drop 1 givens)
    → ((k : meant.Value → M) → at w (resolve (given_of g) k) ≡ at w (if_some (maybe_value o) k)) → o ≡ Some v
    → ((k : List meant.Value → M) → at w (resolve_all (givens_of (take (length givens - 1) (drop 1 givens))) k) ≡ at w (if_all others k))
    → (k : List meant.Value → M) → at w (resolve_all (givens_of givens) k) ≡ at w (if_all others (λ vs. k (value_of v ∷ vs)))
unfolding resolve_all
resolves_more w givens g o v others is first found rest k =
    ap (λ gs. at w (resolve_all (givens_of gs) k)) is ∙ first (λ y. resolve_all (givens_of (take (length givens - 1) (drop 1 givens))) (λ vs. k (y ∷ vs))) ∙ ap (λ p. at w (if_some (maybe_value p) (λ y. resolve_all (givens_of (take (length givens - 1) (drop 1 givens))) (λ vs. k (y ∷ vs))))) found ∙ rest (λ vs. k (value_of v ∷ vs))
