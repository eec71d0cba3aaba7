-- When two trees are the same but for their notes.
use Rattle.std.proofs.Common.{◌≡◌, ◌≤◌, ◌+◌, ◌↔◌, ◌∙◌, ℕ, List, [], ◌∷◌, Option, Some, None, length, drop, drop_of_length-le, refl, sym, ap, arith}
use Rattle.js_syntax.specs.Node.{Tree, row, forest_of, bare}

-- ---- one node

pub same_kinds : (a b : Tree) → bare (forest_of a) ≡ bare (forest_of b) → a.kind ≡ b.kind
same_kinds a b e = cc

same_below : (a b : Tree) → bare (forest_of a) ≡ bare (forest_of b) → bare a.below ≡ bare b.below
same_below a b e = cc

same_forest : (a b : Tree) → a.kind ≡ b.kind → bare a.below ≡ bare b.below → bare (forest_of a) ≡ bare (forest_of b)
same_forest a b kinds below = cc

abbrev pub SameRows : List (Option Tree) → List (Option Tree) → Type 0
SameRows ts us = bare (row ts) ≡ bare (row us)

pub rows_of : (a b : Tree) (ts us : List (Option Tree)) → row ts ≡ a.below → row us ≡ b.below → bare (forest_of a) ≡ bare (forest_of b) → SameRows ts us
rows_of a b ts us left right e = ap bare left ∙ same_below a b e ∙ ap bare (sym right)

pub tree_of_rows : (a b : Tree) (ts us : List (Option Tree)) → row ts ≡ a.below → row us ≡ b.below → a.kind ≡ b.kind → SameRows ts us → bare (forest_of a) ≡ bare (forest_of b)
tree_of_rows a b ts us left right kinds e = same_forest a b kinds (ap bare (sym left) ∙ e ∙ ap bare right)

-- ---- child by child

pub same_first : (x y : Option Tree) (ts us : List (Option Tree)) → SameRows (x ∷ ts) (y ∷ us) → SameRows (x ∷ []) (y ∷ [])
same_first None None ts us e = refl
same_first None (Some y) ts us e = absurd (cc)
same_first (Some x) None ts us e = absurd (cc)
same_first (Some x) (Some y) ts us e = cc

same_rest : (x y : Option Tree) (ts us : List (Option Tree)) → SameRows (x ∷ ts) (y ∷ us) → SameRows ts us
same_rest None None ts us e = cc
same_rest None (Some y) ts us e = absurd (cc)
same_rest (Some x) None ts us e = absurd (cc)
same_rest (Some x) (Some y) ts us e = cc

same_more : (x y : Option Tree) (ts us : List (Option Tree)) → SameRows (x ∷ []) (y ∷ []) → SameRows ts us → SameRows (x ∷ ts) (y ∷ us)
same_more None None ts us e f = cc
same_more None (Some y) ts us e f = absurd (cc)
same_more (Some x) None ts us e f = absurd (cc)
same_more (Some x) (Some y) ts us e f = cc

pub same_length : (ts us : List (Option Tree)) → SameRows ts us → length ts ≡ length us
same_length [] [] e = refl
same_length [] (None ∷ us) e = absurd (cc)
same_length [] (Some u ∷ us) e = absurd (cc)
same_length (None ∷ ts) [] e = absurd (cc)
same_length (Some t ∷ ts) [] e = absurd (cc)
same_length (x ∷ ts) (y ∷ us) e = omega (arith, same_length ts us (same_rest x y ts us e))

-- the rows are the same where those from a place on are
abbrev pub SameFrom : ℕ → List (Option Tree) → List (Option Tree) → Type 0
SameFrom i ts us = SameRows ts us ↔ SameRows (drop i ts) (drop i us)

pub same_from_next : (ts us : List (Option Tree)) (i : ℕ) (x y : Option Tree) → drop i ts ≡ x ∷ drop (i + 1) ts → drop i us ≡ y ∷ drop (i + 1) us → SameRows (x ∷ []) (y ∷ []) → SameFrom i ts us → SameFrom (i + 1) ts us
same_from_next ts us i x y left right same so_far = (
  λ e. same_rest x y _ _ (ap (λ rs. bare (row rs)) (sym left) ∙ so_far.0 e ∙ ap (λ rs. bare (row rs)) right),
  λ e. so_far.1 (ap (λ rs. bare (row rs)) left ∙ same_more x y _ _ same e ∙ ap (λ rs. bare (row rs)) (sym right)),
)

pub child_differs : (ts us : List (Option Tree)) (i : ℕ) (x y : Option Tree) → drop i ts ≡ x ∷ drop (i + 1) ts → drop i us ≡ y ∷ drop (i + 1) us → SameFrom i ts us → SameRows ts us → SameRows (x ∷ []) (y ∷ [])
child_differs ts us i x y left right so_far e =
    same_first x y _ _ (ap (λ rs. bare (row rs)) (sym left) ∙ so_far.0 e ∙ ap (λ rs. bare (row rs)) right)

pub all_same : (ts us : List (Option Tree)) (i : ℕ) → length ts ≤ i → length ts ≡ length us → SameFrom i ts us → SameRows ts us
all_same ts us i past lengths so_far =
    so_far.1 (ap (λ rs. bare (row rs)) (drop_of_length-le ts past ∙ sym (drop_of_length-le us (omega (arith, past, lengths)))))
