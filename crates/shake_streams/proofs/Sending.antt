-- A text that goes out piece by piece.
use Rattle.std.proofs.Common.{◌≡◌, ◌∙◌, ℕ, ◌+◌, ◌-◌, List, ◌++◌, length, take, drop, Option, Some, None, Ok, sym, ap, append_assoc, length-drop, arith}
use Rattle.std.proofs.Math.Seq.{take-add}
use Rattle.std.proofs.lemmas.List.{take-append-drop, take_all}
use Rattle.shake_streams.specs.Moves.{Known, Went, SendsFront}

rest_of : (text : List ℕ) (sent : ℕ) → take (length text - sent) (drop sent text) ≡ drop sent text
rest_of text sent = take_all _ _ (omega (arith, length-drop sent text))

joins : (old text : List ℕ) (sent n : ℕ) → (old ++ take sent text) ++ take n (drop sent text) ≡ old ++ take (sent + n) text
joins old text sent n = append_assoc old (take sent text) (take n (drop sent text)) ∙ ap (λ t. old ++ t) (sym (take-add sent n text))

pub sent_more : (n : ℕ) (text : List ℕ) (sent : ℕ) (old now next : Option (List ℕ)) → Known (λ bytes. bytes ++ take sent text) old now
    → Went (Ok n) (take (length text - sent) (drop sent text)) now next → Known (λ bytes. bytes ++ take (sent + n) text) old next
sent_more n text sent None now next k w = tt
sent_more n text sent (Some old) None next k w = absurd cc
sent_more n text sent (Some old) (Some mid) next k w =
    let there : mid ≡ old ++ take sent text = cc in
    w ∙ rw (there, rest_of text sent) (ap Some (joins old text sent n))

-- a fault stops it, and what went out is a front
pub sent_front : (text : List ℕ) (sent : ℕ) (old now next : Option (List ℕ)) → Known (λ bytes. bytes ++ take sent text) old now
    → Known (λ bytes. bytes) now next → SendsFront text old next
sent_front text sent None now next k w = tt
sent_front text sent (Some old) None next k w = absurd cc
sent_front text sent (Some old) (Some mid) next k w =
    (take sent text, (drop sent text, sym (take-append-drop sent text)), w ∙ k)
