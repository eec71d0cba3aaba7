-- Names of one node more.
use Rattle.std.proofs.Common.{◌≡◌, ◌<◌, ◌+◌, ℕ, List, [], ◌∷◌, ◌++◌, Option, Some, None, length, take, get_or, refl}
use Rattle.std.proofs.lemmas.List.{take_more}
use Rattle.js_syntax.specs.Node.{Tree, row}
use Rattle.min_context.specs.Naming.{with_part, part_before, part_behind, gathered}

push : (text : List ℕ) (ts : List (Option Tree)) (x : Option Tree) → gathered text (row (ts ++ x ∷ [])) ≡ gathered (gathered text (row ts)) (row (x ∷ []))
push text [] x = refl
push text (None ∷ ts) x = push text ts x
push text (Some t ∷ ts) x = push (with_part (gathered (with_part text (part_before t.kind)) t.below) (part_behind t.kind)) ts x

pub next : (text : List ℕ) (ts : List (Option Tree)) (i : ℕ) (x : Option Tree) → i < length ts → x ≡ get_or ts i x → gathered text (row (take (i + 1) ts)) ≡ gathered (gathered text (row (take i ts))) (row (x ∷ []))
next text ts i x h is = rw (take_more ts i x h, ← is) (push text (take i ts) x)
