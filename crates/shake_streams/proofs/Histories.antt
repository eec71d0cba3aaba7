-- A history that grows piece by piece.
use Rattle.std.proofs.Common.{◌≡◌, ◌∙◌, inl, inr, ◌≤◌, ◌==◌, ℕ, ◌+◌, ◌-◌, false, Ok, List, [], ◌++◌, map, length, take, drop, sym, ap, append_assoc, append-nil, length-drop, length-append, length-take, arith}
use Rattle.std.proofs.Math.Seq.{take-add}
use Rattle.std.proofs.lemmas.List.{take-append-drop, take_all, map-append}
use Rattle.shake_streams.specs.Past.{Past, byte, with_bytes, with_fault, with_pull, StopsAtOnce}
use Rattle.shake_streams.specs.Moves.{TakesFront}
use Rattle.shake_streams.specs.Reading.{GivesAll, GivesNot}
use Rattle.shake_streams.specs.declared.read.ReadAllError.TheVariants.{Fault, TooLong, OutOfMemory}
use Rattle.shake_streams.specs.declared.read.ReadAllError.{ReadAllError}

pub none_more : (p : Past) → with_bytes p [] ≡ p
none_more p = append-nil p

pub more_twice : (p : Past) (first second : List ℕ) → with_bytes (with_bytes p first) second ≡ with_bytes p (first ++ second)
more_twice p first second = append_assoc p (map byte first) (map byte second) ∙ ap (λ (es : Past). p ++ es) (sym (map-append byte first second))

rest_of : (text : List ℕ) (sent : ℕ) → take (length text - sent) (drop sent text) ≡ drop sent text
rest_of text sent = take_all _ _ (omega (arith, length-drop sent text))

pub took_more : (p q r : Past) (text : List ℕ) (sent n : ℕ) → q ≡ with_bytes p (take sent text)
    → r ≡ with_bytes q (take n (take (length text - sent) (drop sent text))) → r ≡ with_bytes p (take (sent + n) text)
took_more p q r text sent n so more =
    more ∙ ap (λ (b : List ℕ). with_bytes q (take n b)) (rest_of text sent)
    ∙ ap (λ (old : Past). with_bytes old (take n (drop sent text))) so
    ∙ more_twice p (take sent text) (take n (drop sent text)) ∙ ap (with_bytes p) (sym (take-add sent n text))

pub took_front : (p q r : Past) (text : List ℕ) (sent : ℕ) → q ≡ with_bytes p (take sent text) → r ≡ with_fault q → TakesFront text p r
took_front p q r text sent so failed = (take sent text, (drop sent text, sym (take-append-drop sent text)), failed ∙ ap with_fault so)

-- a piece that came and isn't kept was given too
pub gave_unkept : (old now next : Past) (bytes piece : List ℕ) (n room limit : ℕ) → now ≡ with_bytes old bytes → next ≡ with_pull now (Ok n) room piece → n == 0 ≡ false
    → length bytes + n ≤ limit + 1 → GivesNot OutOfMemory old next limit
gave_unkept old now next bytes piece n room limit so more some fits =
    let more : next ≡ with_bytes now (take n piece) = rw some at more in
    (bytes ++ take n piece, omega (arith, length-append bytes (take n piece), length-take n piece), more ∙ ap (λ (p : Past). with_bytes p (take n piece)) so ∙ more_twice old bytes (take n piece))

pub gave_fault : (old now next : Past) (bytes : List ℕ) (limit : ℕ) → now ≡ with_bytes old bytes → next ≡ with_fault now → length bytes ≤ limit → GivesNot Fault old next limit
gave_fault old now next bytes limit so failed fits = (bytes, fits, failed ∙ ap with_fault so)

-- ---- nothing behind the end or a fault

pub stays_stops : (p : Past) → StopsAtOnce p p
stays_stops p = ([], inl (sym (none_more p)))

pub gave_stops : (old now : Past) (bytes : List ℕ) → GivesAll old now bytes → StopsAtOnce old now
gave_stops old now bytes gave = (bytes, inr (inl gave))

pub gave_not_stops : (e : ReadAllError) (old now : Past) (limit : ℕ) → GivesNot e old now limit → StopsAtOnce old now
gave_not_stops Fault old now limit not = (not.0, inr (inr not.2))
gave_not_stops TooLong old now limit not = (not.0, inl not.2)
gave_not_stops OutOfMemory old now limit not = (not.0, inl not.2)

pub took_stops : (old now : Past) (text : List ℕ) → now ≡ with_bytes old text → StopsAtOnce old now
took_stops old now text took = (text, inl took)

pub front_stops : (old now : Past) (text : List ℕ) → TakesFront text old now → StopsAtOnce old now
front_stops old now text took = (took.0, inr (inr took.2))
