-- What is taken back leaves the table as it was.
use Rattle.std.proofs.Common.{◌≡◌, ◌∙◌, ℕ, ◌+◌, ◌-◌, List, [], ◌∷◌, ◌++◌, length, take, ap, arith, length-append}
use Rattle.std.proofs.Math.Seq.{take-append_seam}

pub last_back : {X : Type 0} (xs : List X) (x : X) → take (length (xs ++ x ∷ []) - 1) (xs ++ x ∷ []) ≡ xs
last_back xs x =
    let long : length (xs ++ x ∷ []) - 1 ≡ length xs = omega (arith, length-append xs (x ∷ [])) in
    ap (λ n. take n (xs ++ x ∷ [])) long ∙ take-append_seam xs (x ∷ [])
