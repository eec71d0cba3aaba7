-- Items that become others, one after the other.
use Rattle.std.proofs.Common.{◌≡◌, ◌∙◌, ◌<◌, ◌≤◌, ◌+◌, ℕ, zero, suc, List, [], ◌∷◌, Option, length, get_or, set, add-one, refl, sym, ap, ap₂, arith}
use Rattle.js_syntax.specs.Node.{Tree}
use Rattle.min_imports.specs.Merging.{or_changed, overlaid}

-- the items before an index as they become
abbrev pub laid : ℕ → (items changed : List (Option Tree)) → List (Option Tree)
laid at [] changed = []
laid at (x ∷ items) [] = x ∷ items
laid zero (x ∷ items) (c ∷ changed) = x ∷ items
laid (suc at) (x ∷ items) (c ∷ changed) = or_changed x c ∷ laid at items changed

pub none_laid : (items changed : List (Option Tree)) → items ≡ laid 0 items changed
none_laid [] changed = refl
none_laid (x ∷ items) [] = refl
none_laid (x ∷ items) (c ∷ changed) = refl

laid_there : (at : ℕ) (items changed : List (Option Tree)) (d : Option Tree) → get_or (laid at items changed) at d ≡ get_or items at d
laid_there at [] changed d = refl
laid_there at (x ∷ items) [] d = refl
laid_there zero (x ∷ items) (c ∷ changed) d = refl
laid_there (suc at) (x ∷ items) (c ∷ changed) d = laid_there at items changed d

laid_next : (at : ℕ) (items changed : List (Option Tree)) (x c w : Option Tree) → at < length items → length changed ≡ length items → x ≡ get_or items at x → c ≡ get_or changed at c → w ≡ or_changed x c → set (laid at items changed) at w ≡ laid (suc at) items changed
laid_next at [] changed x c w h even is be put = absurd (Prim.omega (arith, h))
laid_next at (y ∷ items) [] x c w h even is be put = absurd (Prim.omega (arith, even))
laid_next zero (y ∷ items) (e ∷ changed) x c w h even is be put = ap₂ (λ (z : Option Tree) l. z ∷ l) (put ∙ ap₂ or_changed is be) (none_laid items changed)
laid_next (suc at) (y ∷ items) (e ∷ changed) x c w h even is be put = ap (λ l. or_changed y e ∷ l) (laid_next at items changed x c w (Prim.omega (arith, h)) (Prim.omega (arith, even)) is be put)

pub laid_more : (at : ℕ) (items changed : List (Option Tree)) (x c w : Option Tree) → at < length items → length changed ≡ length items → x ≡ get_or (laid at items changed) at x → c ≡ get_or changed at c → w ≡ or_changed x c
    → set (laid at items changed) at w ≡ laid (at + 1) items changed
laid_more at items changed x c w h even is be put =
    laid_next at items changed x c w h even (is ∙ laid_there at items changed x) be put ∙ ap (λ n. laid n items changed) (sym (add-one at))

pub all_laid : (at : ℕ) (items changed : List (Option Tree)) → length changed ≤ at → length changed ≡ length items → laid at items changed ≡ overlaid items changed
all_laid at [] changed h even = refl
all_laid at (x ∷ items) [] h even = absurd (Prim.omega (arith, even))
all_laid zero (x ∷ items) (c ∷ changed) h even = absurd (Prim.omega (arith, h))
all_laid (suc at) (x ∷ items) (c ∷ changed) h even = ap (λ l. or_changed x c ∷ l) (all_laid at items changed (Prim.omega (arith, h)) (Prim.omega (arith, even)))
