-- The children of a node, one after another.
use Rattle.std.proofs.Common.{◌≡◌, ◌<◌, ◌≤◌, ◌+◌, ◌++◌, ◌∙◌, ℕ, List, [], ◌∷◌, Option, length, get_or, take, take_all, sym, ap}
use Rattle.std.proofs.lemmas.List.{take_more}
use Rattle.js_syntax.specs.Node.{Forest, Tree, row}

-- a node is what it is made of
pub same_tree : (a b : Tree) → a.kind ≡ b.kind → a.note.span ≡ b.note.span → a.note.id ≡ b.note.id → a.below ≡ b.below → a ≡ b
same_tree a b kinds spans ids below = λ i. record { kind = kinds i; note = record { span = spans i; id = ids i }; below = below i }

-- one child more was copied
pub one_more : {A : Type 0} (xs : List A) (i : ℕ) (x y : A) (front new : List A) → i < length xs → x ≡ get_or xs i x → y ≡ x → front ≡ take i xs → new ≡ front ++ y ∷ [] → new ≡ take (i + 1) xs
one_more xs i x y front new within at same so_far is =
    is ∙ ap (λ f. f ++ y ∷ []) so_far ∙ ap (λ z. take i xs ++ z ∷ []) (same ∙ at) ∙ sym (take_more xs i x within)

pub all_copied : (ts : List (Option Tree)) (i : ℕ) (copies : List (Option Tree)) (below : Forest) → length ts ≤ i → copies ≡ take i ts → row ts ≡ below → row copies ≡ below
all_copied ts i copies below past so_far is = ap row (so_far ∙ take_all i ts past) ∙ is
