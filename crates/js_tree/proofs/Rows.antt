-- Rows of nodes that grow by one.
use Rattle.std.proofs.Common.{◌≡◌, ◌<◌, ◌+◌, ◌++◌, ◌∙◌, ℕ, suc, List, [], ◌∷◌, Option, Some, None, length, drop, get_or, drop-cons, add-one, refl, sym, ap}
use Rattle.js_syntax.specs.Node.{Forest, nothing, node, absent, joined, Tree, row}

pub joined_nothing : (t : Forest) → joined t nothing ≡ t
joined_nothing nothing = refl
joined_nothing (node k n below rest) = ap (node k n below) (joined_nothing rest)
joined_nothing (absent rest) = ap absent (joined_nothing rest)

pub joined_assoc : (a b c : Forest) → joined (joined a b) c ≡ joined a (joined b c)
joined_assoc nothing b c = refl
joined_assoc (node k n below rest) b c = ap (node k n below) (joined_assoc rest b c)
joined_assoc (absent rest) b c = ap absent (joined_assoc rest b c)

-- one more node, or one more field that is not there
pub row_push : (ts : List (Option Tree)) (t : Option Tree) → row (ts ++ t ∷ []) ≡ joined (row ts) (row (t ∷ []))
row_push [] None = refl
row_push [] (Some t) = refl
row_push (None ∷ ts) t = ap absent (row_push ts t)
row_push (Some x ∷ ts) t = ap (node x.kind x.note x.below) (row_push ts t)

-- the rest of a list, from its first item on
pub front_of : {A : Type 0} (xs : List A) (i : ℕ) (x : A) → i < length xs → x ≡ get_or xs i x → drop i xs ≡ x ∷ drop (i + 1) xs
front_of xs i x h is = rw add-one (drop-cons xs i x h ∙ ap (λ y. y ∷ drop (suc i) xs) (sym is))
