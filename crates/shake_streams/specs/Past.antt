-- What the calls of a stream have answered so far.
use Rattle.std.specs.Prelude.{◌≡◌, ◌⊎◌, ◌==◌, ◌&&◌, if◌then◌else◌, nat_lt, ℕ, List, [], ◌∷◌, ◌++◌, map, take, Result, Ok, Err}
use Rattle.shake_streams.specs.declared.traits.Failed.{Failed}

-- a byte that went by, the end that was told, or a call that failed
pub data Event : Type 0 where
  byte : ℕ → Event
  ended : Event
  failed : Event

-- all of them, in their order
abbrev pub Past : Type 0
Past = List Event

abbrev pub with_bytes : Past → List ℕ → Past
with_bytes past more = past ++ map byte more

abbrev pub with_end : Past → Past
with_end past = past ++ ended ∷ []

abbrev pub with_fault : Past → Past
with_fault past = past ++ failed ∷ []

-- with what a pull answered for a piece with so much room, and what was in the piece then: no bytes where there is room tell the end
abbrev pub with_pull : Past → Result ℕ Failed → (room : ℕ) → (piece : List ℕ) → Past
with_pull past (Ok n) room piece = if n == 0 && nat_lt 0 room then with_end past else with_bytes past (take n piece)
with_pull past (Err e) room piece = with_fault past

-- with what a push of this piece answered
abbrev pub with_push : Past → Result ℕ Failed → (piece : List ℕ) → Past
with_push past (Ok n) piece = with_bytes past (take n piece)
with_push past (Err e) piece = with_fault past

-- in between some bytes went by, and then at most one call told the end or failed: nothing came behind it
abbrev pub StopsAtOnce : Past → Past → Type 0
StopsAtOnce old now = (bytes : List ℕ) × ((now ≡ with_bytes old bytes) ⊎ ((now ≡ with_end (with_bytes old bytes)) ⊎ (now ≡ with_fault (with_bytes old bytes))))
