-- A source that is read piece by piece.
use Rattle.std.proofs.Common.{◌≡◌, ◌∙◌, ℕ, ◌+◌, ◌≤◌, List, ◌++◌, length, take, drop, Option, Some, None, sym, ap, append_assoc, length-append, length-take, arith}
use Rattle.std.proofs.lemmas.List.{take-append-drop}
use Rattle.shake_streams.specs.Moves.{Known, Came}
use Rattle.shake_streams.specs.Reading.{LeavesRest}

-- of the bytes that were left, these have been read
abbrev pub Taken : Option (List ℕ) → Option (List ℕ) → List ℕ → Type 0
Taken None now bytes = Unit {0}
Taken (Some left) now bytes = (rest : List ℕ) × (left ≡ bytes ++ rest) × (now ≡ Some rest)

-- a piece that came and isn't kept leaves a rest too
pub rest_after : (n most : ℕ) (bytes into filled : List ℕ) (old now next : Option (List ℕ)) → Taken old now bytes
    → Came n into filled now → Known (drop n) now next → length bytes + n ≤ most → LeavesRest old next most
rest_after n most bytes into filled None now next t c k le = tt
rest_after n most bytes into filled (Some left) None next t c k le = absurd cc
rest_after n most bytes into filled (Some left) (Some mid) next t c k le =
    let there : mid ≡ t.0 = cc in
    (bytes ++ take n mid, drop n mid, t.1 ∙ ap (λ r. bytes ++ r) (sym there ∙ sym (take-append-drop n mid)) ∙ sym (append_assoc bytes (take n mid) (drop n mid)), omega (arith, length-append bytes (take n mid), length-take n mid), k)
