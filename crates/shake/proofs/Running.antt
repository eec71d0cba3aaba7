-- From what the streams answered to what a run says of them.
use Rattle.std.proofs.Common.{◌≡◌, ◌⊎◌, inl, inr, ◌≤◌, ℕ, List, [], length, Option, Some, None, refl, arith}
use Rattle.shake_streams.specs.Past.{Past, StopsAtOnce, with_bytes}
use Rattle.shake_streams.specs.Moves.{TakesFront}
use Rattle.shake_streams.specs.Reading.{GivesAll, LeavesRest}
use Rattle.shake_streams.proofs.Histories.{stays_stops, gave_stops, took_stops, front_stops}
use Rattle.run_module.specs.declared.error.RunError.{RunError}
use Rattle.shake_words.specs.Meaning.{command_of}
use Rattle.shake_words.specs.declared.answer.Command.{Command}
use Rattle.shake.specs.Answer.{IsCauseOf}
use Rattle.shake.specs.Fault.{IsAnswerTo, refusal_line}
use Rattle.shake.specs.Line.{status_line}
use Rattle.shake.specs.Run.{max_input, IsOutput, IsLineFor}
use Rattle.shake.specs.Ran.{Took, Follows, Ran, Tells, IsLineGiven}
use Rattle.shake.specs.declared.status.Status.{Status}
use Rattle.shake.specs.declared.status.Status.TheVariants as status
use Rattle.shake.proofs.Answering.{line_of_refusal, sent, sent_line}

-- ---- what the sink took

took_whole : (s : Status) (text : List ℕ) (taken now : Past) → Took s text taken now → s ≡ status.Ok → now ≡ with_bytes taken text
took_whole s text taken now took is = rw is at took

took_front : (s : Status) (text : List ℕ) (taken now : Past) → Took s text taken now → s ≡ status.WriteFault → TakesFront text taken now
took_front s text taken now took is = rw is at took

pub sent_follows : (command : Command) (s : Status) (bytes text : List ℕ) (taken now : Past) → IsOutput command bytes text → (s ≡ status.Ok) ⊎ (s ≡ status.WriteFault) → Took s text taken now → Follows command s bytes taken now
sent_follows command s bytes text taken now output answer took =
    sent command s bytes text output answer (λ t. now ≡ with_bytes taken t) (λ t. TakesFront t taken now) (now ≡ taken) (took_whole s text taken now took) (took_front s text taken now took)

-- ---- what was told

pub tells_refusal : (command : Command) (e : RunError) (s : Status) (bytes : List ℕ) (taken now : Past) → IsCauseOf command e bytes → IsAnswerTo e s → Tells (λ l. l ≡ refusal_line e s) taken now → Tells (IsLineFor command s bytes) taken now
tells_refusal command e s bytes taken now cause is told = (told.0, line_of_refusal command e s bytes told.0 cause is told.1, told.2)

pub sent_tells : (command : Command) (s : Status) (bytes : List ℕ) (taken now : Past) → (s ≡ status.Ok) ⊎ (s ≡ status.WriteFault) → Tells (λ l. l ≡ status_line s) taken now → Tells (IsLineFor command s bytes) taken now
sent_tells command s bytes taken now answer told = (told.0, sent_line command s bytes told.0 answer told.1, told.2)

-- ---- a run

pub ran : (words : List (List ℕ)) (command : Command) → command_of words ≡ Some command → (given given_now taken taken_now : Past) (bytes : List ℕ) → GivesAll given given_now bytes → length bytes ≤ max_input
    → (s : Status) → Follows command s bytes taken taken_now → Ran words s given given_now taken taken_now
ran words command asked given given_now taken taken_now bytes gave within status.Ok f = (command, asked, bytes, gave, within, f)
ran words command asked given given_now taken taken_now bytes gave within status.Usage f = absurd f.0
ran words command asked given given_now taken taken_now bytes gave within status.ReadFault f = absurd f.0
ran words command asked given given_now taken taken_now bytes gave within status.InputTooLong f = absurd f.0
ran words command asked given given_now taken taken_now bytes gave within status.Syntax f = (command, asked, bytes, gave, within, f)
ran words command asked given given_now taken taken_now bytes gave within status.Tree f = (command, asked, bytes, gave, within, f)
ran words command asked given given_now taken taken_now bytes gave within status.TooLarge f = (command, asked, bytes, gave, within, f)
ran words command asked given given_now taken taken_now bytes gave within status.IllFormed f = (command, asked, bytes, gave, within, f)
ran words command asked given given_now taken taken_now bytes gave within status.WriteFault f = (command, asked, bytes, gave, within, f)
ran words command asked given given_now taken taken_now bytes gave within status.OutOfMemory f = (gave_stops given given_now bytes gave, f.1)
ran words command asked given given_now taken taken_now bytes gave within status.BadScript f = (command, asked, bytes, gave, within, f)
ran words command asked given given_now taken taken_now bytes gave within status.NotCore f = (command, asked, bytes, gave, within, f)

line_given : (words : List (List ℕ)) (command : Command) → command_of words ≡ Some command → (s : Status) (given given_now : Past) (bytes line : List ℕ) → GivesAll given given_now bytes → IsLineFor command s bytes line
    → IsLineGiven words s given given_now line
line_given words command asked status.Ok given given_now bytes line gave says = says
line_given words command asked status.Usage given given_now bytes line gave says = says
line_given words command asked status.ReadFault given given_now bytes line gave says = says
line_given words command asked status.InputTooLong given given_now bytes line gave says = says
line_given words command asked status.Syntax given given_now bytes line gave says = says
line_given words command asked status.Tree given given_now bytes line gave says = (command, asked, bytes, gave, says)
line_given words command asked status.TooLarge given given_now bytes line gave says = (command, asked, bytes, gave, says)
line_given words command asked status.IllFormed given given_now bytes line gave says = (command, asked, bytes, gave, says)
line_given words command asked status.WriteFault given given_now bytes line gave says = says
line_given words command asked status.OutOfMemory given given_now bytes line gave says = says
line_given words command asked status.BadScript given given_now bytes line gave says = (command, asked, bytes, gave, says)
line_given words command asked status.NotCore given given_now bytes line gave says = (command, asked, bytes, gave, says)

pub tells_given : (words : List (List ℕ)) (command : Command) → command_of words ≡ Some command → (s : Status) (given given_now : Past) (bytes : List ℕ) (taken now : Past) → GivesAll given given_now bytes
    → Tells (IsLineFor command s bytes) taken now → Tells (IsLineGiven words s given given_now) taken now
tells_given words command asked s given given_now bytes taken now gave told = (told.0, line_given words command asked s given given_now bytes told.0 gave told.1, told.2)

-- ---- nothing behind the end or a fault

pub follows_stops : (command : Command) (s : Status) (bytes : List ℕ) (taken now : Past) → Follows command s bytes taken now → StopsAtOnce taken now
follows_stops command status.Ok bytes taken now f = took_stops taken now _ f.2
follows_stops command status.Usage bytes taken now f = rw f.1 (stays_stops taken)
follows_stops command status.ReadFault bytes taken now f = rw f.1 (stays_stops taken)
follows_stops command status.InputTooLong bytes taken now f = rw f.1 (stays_stops taken)
follows_stops command status.Syntax bytes taken now f = rw f.1 (stays_stops taken)
follows_stops command status.Tree bytes taken now f = rw f.1 (stays_stops taken)
follows_stops command status.TooLarge bytes taken now f = rw f.1 (stays_stops taken)
follows_stops command status.IllFormed bytes taken now f = rw f.1 (stays_stops taken)
follows_stops command status.WriteFault bytes taken now f = front_stops taken now _ f.2
follows_stops command status.OutOfMemory bytes taken now f = rw f.1 (stays_stops taken)
follows_stops command status.BadScript bytes taken now f = rw f.1 (stays_stops taken)
follows_stops command status.NotCore bytes taken now f = rw f.1 (stays_stops taken)

pub tells_stops : (IsLine : List ℕ → Type 0) (taken now : Past) → Tells IsLine taken now → StopsAtOnce taken now
tells_stops IsLine taken now (line, is, inl whole) = took_stops taken now line whole
tells_stops IsLine taken now (line, is, inr front) = front_stops taken now line front

pub still_stops : (p : Past) → StopsAtOnce p p
still_stops p = stays_stops p

pub still_rests : (left : Option (List ℕ)) (most : ℕ) → LeavesRest left left most
still_rests None most = tt
still_rests (Some bytes) most = ([], bytes, refl, omega arith, refl)
