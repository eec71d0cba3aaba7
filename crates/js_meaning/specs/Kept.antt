-- When a program keeps the runs of another.
use Rattle.std.specs.Prelude.{◌≡◌, ℕ, List, ◌++◌, ◌⊎◌}
use Rattle.js_syntax.specs.Node.{Forest}
use Rattle.js_meaning.specs.Trace.{Event, Script, Ending, ended, host_stopped, out, uncovered, Run}
use Rattle.js_meaning.specs.Run.{run}

abbrev pub Prefix : List Event → List Event → Type 0
Prefix es fs = (rest : List Event) × (fs ≡ es ++ rest)

-- A run that ends or that the host stops is the same; any other goes on from the same events.
abbrev pub keeps : Ending → Run → Run → Type 0
keeps (ended exports) old new = new ≡ old
keeps host_stopped old new = new ≡ old
keeps out old new = Prefix old.trace new.trace
keeps uncovered old new = Prefix old.trace new.trace

abbrev pub Keeps : Run → Run → Type 0
Keeps old new = keeps old.ending old new

-- The new tree keeps every run of the old one.
abbrev pub Kept : Forest → Forest → Type 0
Kept t u = (script : Script) (n : ℕ) → Keeps (run t script n) (run u script n)

-- The way back: where the new run ends or is stopped by the host, the old one within the same bound is the same, unless
-- it is uncovered.
abbrev pub comes_back : Ending → Run → Run → Type 0
comes_back (ended exports) old new = (old.ending ≡ uncovered) ⊎ (old ≡ new)
comes_back host_stopped old new = (old.ending ≡ uncovered) ⊎ (old ≡ new)
comes_back out old new = Unit {0}
comes_back uncovered old new = Unit {0}

abbrev pub ComesBack : Run → Run → Type 0
ComesBack old new = comes_back new.ending old new

abbrev pub KeptBack : Forest → Forest → Type 0
KeptBack t u = (script : Script) (n : ℕ) → ComesBack (run t script n) (run u script n)

-- So within another bound, which goes by that of the new run.
abbrev pub BackWithin : (ℕ → ℕ) → Forest → Forest → Type 0
BackWithin f t u = (script : Script) (n : ℕ) → ComesBack (run t script (f n)) (run u script n)

-- And where the new run isn't out of its bound, the old one is the same, or uncovered behind the same events: this composes.
abbrev pub recovers : Ending → Run → Run → Type 0
recovers out old new = Unit {0}
recovers e old new = (old ≡ new) ⊎ ((old.ending ≡ uncovered) × Prefix old.trace new.trace)

abbrev pub Recovers : Run → Run → Type 0
Recovers old new = recovers new.ending old new

abbrev pub Recovered : (ℕ → ℕ) → Forest → Forest → Type 0
Recovered f t u = (script : Script) (n : ℕ) → Recovers (run t script (f n)) (run u script n)

-- One relation for both: the new run is the old one, but behind an uncovered act of the old one it may go on as it likes.
abbrev pub refines : Ending → Run → Run → Type 0
refines (ended exports) old new = new ≡ old
refines host_stopped old new = new ≡ old
refines out old new = new ≡ old
refines uncovered old new = Prefix old.trace new.trace

abbrev pub Refines : Run → Run → Type 0
Refines old new = refines old.ending old new

abbrev pub Refined : Forest → Forest → Type 0
Refined t u = (script : Script) (n : ℕ) → Refines (run t script n) (run u script n)
