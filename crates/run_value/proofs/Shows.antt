-- Showing several values, one after another.
use Rattle.std.proofs.Common.{◌≡◌, ◌∙◌, ℕ, ◌+◌, List, [], ◌∷◌, map, String, string_bytes, refl, sym, ap, arith}
use Rattle.std.specs.Prelude.{Result, IfOk}
use Rattle.std.proofs.lemmas.Result.{IfOk-weaker}
use Rattle.std.specs.Global.{Global}
use Rattle.std.specs.declared.rc.Rc.{Rc}
use Rattle.js_meaning.specs.Value as meant
use Rattle.js_meaning.specs.Value.{shows, shows_at}
use Rattle.js_meaning.specs.Show.{After, number_of, show_own, show_in, show_content}
use Rattle.run_value.specs.declared.value.Value.{Value}
use Rattle.run_value.specs.View.{value_of, content_of}
use Rattle.run_value.specs.Weight.{value_size, content_size}
use Rattle.run_value.specs.declared.shown.Shown.{Shown}
use Rattle.run_value.specs.ShownView.{shown_of, parts_of}
use Rattle.run_value.specs.Showing.{ShowsEach, ShowsOne, ShowsParts, ShowsOwn, sizes}

abbrev Keys : Type 0
Keys = List (Rc (String Global) Global)

pub size_of_content : (keys : Keys) (vs : List Value) → content_size (content_of keys vs) ≡ sizes vs
size_of_content keys [] = refl
size_of_content [] (v ∷ vs) = omega (arith, size_of_content [] vs)
size_of_content (k ∷ keys) (v ∷ vs) = omega (arith, size_of_content keys vs)

pub shows_none : (seen : List meant.Value) → ShowsEach [] seen [] seen
shows_none seen keys k = refl

pub shows_more : (v : Value) (vs : List Value) (x : Shown) (xs : List Shown) (seen mid after : List meant.Value)
    → ShowsOne (value_of v) seen (shown_of x) mid → ShowsEach vs mid xs after → ShowsEach (v ∷ vs) seen (x ∷ xs) after
shows_more v vs x xs seen mid after first rest [] k =
    first (λ y seen. show_content (content_of [] vs) seen (λ parts. k (shows y parts))) ∙ rest [] (λ parts. k (shows (shown_of x) parts))
shows_more v vs x xs seen mid after first rest (key ∷ keys) k =
    first (λ y seen. show_content (content_of keys vs) seen (λ parts. k (shows_at (string_bytes key.value) y parts))) ∙ rest keys (λ parts. k (shows_at (string_bytes key.value) (shown_of x) parts))

-- the same keys, copied
pub same_keys : (keys copies : Keys) (xs : List Shown) → map (λ k. k.value) copies ≡ map (λ k. k.value) keys → parts_of copies xs ≡ parts_of keys xs
same_keys [] [] xs h = refl
same_keys [] (c ∷ cs) xs h = absurd (cc h)
same_keys (k ∷ ks) [] xs h = absurd (cc h)
same_keys (k ∷ ks) (c ∷ cs) [] h = refl
same_keys (k ∷ ks) (c ∷ cs) (x ∷ xs) h =
    let here : c.value ≡ k.value = cc h in
    let others : map (λ k. k.value) cs ≡ map (λ k. k.value) ks = cc h in
    let rest = same_keys ks cs xs others in
    λ t. shows_at (string_bytes (here t)) (shown_of x) (rest t)

pub shows_content : (keys copies : Keys) (vs : List Value) (xs : List Shown) (seen after : List meant.Value) (c : meant.Content) (x : meant.Parts)
    → content_of keys vs ≡ c → ShowsEach vs seen xs after → map (λ k. k.value) copies ≡ map (λ k. k.value) keys → x ≡ parts_of copies xs → ShowsParts c seen x after
shows_content keys copies vs xs seen after c x is each same made k =
    ap (λ d. show_content d seen k) (sym is) ∙ each keys k ∙ ap (λ p. k p after) (sym (made ∙ same_keys keys copies xs same))

-- an own object that holds something
pub shows_own : {X : Type 0} (r : Result Shown X) (v u : meant.Value) (n : ℕ) (sort : meant.Sort) (c d : meant.Content) (seen after : List meant.Value)
    → v ≡ u → c ≡ d → ((k : After meant.Shown) → show_in u seen k ≡ show_own (number_of n seen 0) u sort seen (show_content d) k)
    → IfOk r (λ x. ShowsOwn n v sort (show_content c) seen (shown_of x) after) → IfOk r (λ x. ShowsOne v seen (shown_of x) after)
shows_own r v u n sort c d seen after is same opens h =
    IfOk-weaker r _ _ (λ x told k. ap (λ w. show_in w seen k) is ∙ opens k ∙ ap (λ w. show_own (number_of n seen 0) w sort seen (show_content d) k) (sym is) ∙ ap (λ e. show_own (number_of n seen 0) v sort seen (show_content e) k) (sym same) ∙ told k) h
