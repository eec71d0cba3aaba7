-- The first item that takes names, sought one after the other.
use Rattle.std.proofs.Common.{◌≡◌, ◌∙◌, ◌<◌, ◌≤◌, ◌+◌, ℕ, suc, List, ◌∷◌, Bool, true, false, true≢false, Option, Some, None, IfSome, if◌then◌else◌, length, drop, get_or, refl, sym, ap, ap₂, subst, arith}
use Rattle.std.proofs.lemmas.List.{drop_more, drop_all}
use Rattle.js_syntax.specs.Node.{Tree, Forest}
use Rattle.rules.specs.Imports.Merged.{takes}
use Rattle.min_imports.specs.Merging.{shifted, receiver, ends, there}

abbrev pub shifted_by : ℕ → Option ℕ → Option ℕ
shifted_by at None = None
shifted_by at (Some j) = Some (at + j)

shifted_none : (r : Option ℕ) → shifted_by 0 r ≡ r
shifted_none None = refl
shifted_none (Some j) = let same : 0 + j ≡ j = Prim.omega arith in ap Some same

shifted_more : (at : ℕ) (r : Option ℕ) → shifted_by at (shifted r) ≡ shifted_by (at + 1) r
shifted_more at None = refl
shifted_more at (Some j) = let same : at + suc j ≡ at + 1 + j = Prim.omega arith in ap Some same

module _ (source : List ℕ) (later : Forest) (bs : List Bool) (ys : List (Option Tree)) where
  -- none before an index does
  abbrev pub NoneBefore : ℕ → Type 0
  NoneBefore at = receiver source later bs ys ≡ shifted_by at (receiver source later (drop at bs) (drop at ys))

  pub none_yet : NoneBefore 0
  none_yet = sym (shifted_none (receiver source later bs ys))

  module _ (at : ℕ) where
    next : (b : Bool) (y : Option Tree) → at < length bs → at < length ys → get_or bs at false ≡ b → get_or ys at None ≡ y → receiver source later (drop at bs) (drop at ys) ≡ receiver source later (b ∷ drop (at + 1) bs) (y ∷ drop (at + 1) ys)
    next b y h g is be =
        ap₂ (receiver source later) (drop_more bs at false h ∙ ap (λ c. c ∷ drop (at + 1) bs) is) (drop_more ys at None g ∙ ap (λ z. z ∷ drop (at + 1) ys) be)

    pub gone : NoneBefore at → at < length bs → at < length ys → get_or bs at false ≡ false → NoneBefore (at + 1)
    gone so h g is = so ∙ ap (shifted_by at) (next false (get_or ys at None) h g is refl) ∙ shifted_more at (receiver source later (drop (at + 1) bs) (drop (at + 1) ys))

    taking : (x : Tree) (c : Bool) → at < length bs → at < length ys → get_or bs at false ≡ true → get_or ys at None ≡ Some x → takes source later x.kind x.below ≡ c
        → receiver source later (drop at bs) (drop at ys) ≡ (if c then Some 0 else shifted (receiver source later (drop (at + 1) bs) (drop (at + 1) ys)))
    taking x c h g is be does = next true (Some x) h g is be ∙ ap (λ d. if d then Some 0 else shifted (receiver source later (drop (at + 1) bs) (drop (at + 1) ys))) does

    pub takes_none : (x : Tree) → NoneBefore at → at < length bs → at < length ys → get_or bs at false ≡ true → get_or ys at None ≡ Some x → takes source later x.kind x.below ≡ false → NoneBefore (at + 1)
    takes_none x so h g is be does = so ∙ ap (shifted_by at) (taking x false h g is be does) ∙ shifted_more at (receiver source later (drop (at + 1) bs) (drop (at + 1) ys))

    pub takes_them : (x : Tree) → NoneBefore at → at < length bs → at < length ys → get_or bs at false ≡ true → get_or ys at None ≡ Some x → takes source later x.kind x.below ≡ true → receiver source later bs ys ≡ Some at
    takes_them x so h g is be does = let same : at + 0 ≡ at = Prim.omega arith in so ∙ ap (shifted_by at) (taking x true h g is be does) ∙ ap Some same

    pub missing : NoneBefore at → at < length bs → at < length ys → get_or bs at false ≡ true → get_or ys at None ≡ None → receiver source later bs ys ≡ None
    missing so h g is be = so ∙ ap (shifted_by at) (next true None h g is be)

    pub at_end : NoneBefore at → length bs ≤ at → receiver source later bs ys ≡ None
    at_end so h = so ∙ ap (λ l. shifted_by at (receiver source later l (drop at ys))) (drop_all at bs h)

    -- the search ends at an item, or goes on
    pub ends_here : (b : Bool) (y : Option Tree) → NoneBefore at → at < length bs → at < length ys → get_or bs at false ≡ b → get_or ys at None ≡ y → ends source later b y ≡ true → there at y ≡ receiver source later bs ys
    ends_here false y so h g is be does = absurd (true≢false (sym does))
    ends_here true None so h g is be does = sym (missing so h g is be)
    ends_here true (Some x) so h g is be does = sym (takes_them x so h g is be does)

    pub goes_on : (b : Bool) (y : Option Tree) → NoneBefore at → at < length bs → at < length ys → get_or bs at false ≡ b → get_or ys at None ≡ y → ends source later b y ≡ false → NoneBefore (at + 1)
    goes_on false y so h g is be does = gone so h g is
    goes_on true None so h g is be does = absurd (true≢false does)
    goes_on true (Some x) so h g is be does = takes_none x so h g is be does

pub there_within : (at n : ℕ) (x : Option Tree) (r : Option ℕ) → r ≡ there at x → at < n → IfSome r (λ i. i < n)
there_within at n x r is h = subst (λ o. IfSome o (λ i. i < n)) (sym is) (by x)
  where
    by : (y : Option Tree) → IfSome (there at y) (λ i. i < n)
    by None = tt
    by (Some y) = h
