-- What a run of the program asks of its streams and what they answer, for every source and every sink, the standard streams too.
use Rattle.std.specs.Prelude.{◌≡◌, ◌⊎◌, ◌<◌, ◌≤◌, ℕ, List, false, length, Some}
use Rattle.shake_streams.specs.Past.{Past, with_bytes, with_fault, StopsAtOnce}
use Rattle.shake_streams.specs.Moves.{TakesFront}
use Rattle.shake_streams.specs.Reading.{GivesAll}
use Rattle.shake_words.specs.Meaning.{command_of, accepts}
use Rattle.shake_words.specs.declared.answer.Command.{Command}
use Rattle.shake.specs.Answer.{Stands}
use Rattle.shake.specs.Code.{code_of}
use Rattle.shake.specs.Line.{status_line}
use Rattle.shake.specs.Run.{max_input, IsLineFor}
use Rattle.shake.specs.declared.status.Status.{Status}
use Rattle.shake.specs.declared.status.Status.TheVariants as status

-- what the sink of a text took: all of it with answer 0, a front of it and then a fault with a fault of writing, and else nothing
abbrev pub Took : Status → List ℕ → (taken now : Past) → Type 0
Took status.Ok text taken now = now ≡ with_bytes taken text
Took status.WriteFault text taken now = TakesFront text taken now
Took s text taken now = now ≡ taken

-- what stands behind each answer for the bytes that were read, and what the sink took of the output
abbrev pub Follows : Command → Status → (bytes : List ℕ) → (taken now : Past) → Type 0
Follows command s bytes taken now = Stands command s bytes (λ text. now ≡ with_bytes taken text) (λ text. TakesFront text taken now) (now ≡ taken)

-- the words ask for a command, the source gave these bytes, which are within the limit, and then told its end, and the answer follows
abbrev pub Reads : (words : List (List ℕ)) → Status → (given given_now taken taken_now : Past) → Type 0
Reads words s given given_now taken taken_now =
    (command : Command) × (command_of words ≡ Some command) × (bytes : List ℕ) × GivesAll given given_now bytes × (length bytes ≤ max_input) × Follows command s bytes taken taken_now

-- what each answer says of the run: of the bytes that the source gave, and of those that the sink took
abbrev pub Ran : (words : List (List ℕ)) → Status → (given given_now taken taken_now : Past) → Type 0
Ran words status.Usage given given_now taken taken_now = (accepts words ≡ false) × (given_now ≡ given) × (taken_now ≡ taken)
Ran words status.ReadFault given given_now taken taken_now =
    (bytes : List ℕ) × (length bytes ≤ max_input) × (given_now ≡ with_fault (with_bytes given bytes)) × (taken_now ≡ taken)
Ran words status.InputTooLong given given_now taken taken_now =
    (bytes : List ℕ) × (max_input < length bytes) × (given_now ≡ with_bytes given bytes) × (taken_now ≡ taken)
Ran words status.OutOfMemory given given_now taken taken_now = StopsAtOnce given given_now × (taken_now ≡ taken)
Ran words s given given_now taken taken_now = Reads words s given given_now taken taken_now

-- a line was told whole, or a front of it and then a fault
abbrev pub Tells : (List ℕ → Type 0) → (taken now : Past) → Type 0
Tells IsLine taken now = (line : List ℕ) × IsLine line × ((now ≡ with_bytes taken line) ⊎ TakesFront line taken now)

-- the line of an answer that refuses the bytes which the source gave
abbrev pub IsSaid : (words : List (List ℕ)) → Status → (given given_now : Past) → List ℕ → Type 0
IsSaid words s given given_now line = (command : Command) × (command_of words ≡ Some command) × (bytes : List ℕ) × GivesAll given given_now bytes × IsLineFor command s bytes line

-- the line of an answer
abbrev pub IsLineGiven : (words : List (List ℕ)) → Status → (given given_now : Past) → List ℕ → Type 0
IsLineGiven words status.Tree given given_now line = IsSaid words status.Tree given given_now line
IsLineGiven words status.TooLarge given given_now line = IsSaid words status.TooLarge given given_now line
IsLineGiven words status.IllFormed given given_now line = IsSaid words status.IllFormed given given_now line
IsLineGiven words status.BadScript given given_now line = IsSaid words status.BadScript given given_now line
IsLineGiven words status.NotCore given given_now line = IsSaid words status.NotCore given given_now line
IsLineGiven words s given given_now line = line ≡ status_line s

-- the run has an answer of this code: what the source gave, what the sink of the output took, and what standard error was told
abbrev pub RanWithCode : (words : List (List ℕ)) (code : ℕ) (given given_now taken taken_now told told_now : Past) → Type 0
RanWithCode words code given given_now taken taken_now told told_now =
    (s : Status) × (code ≡ code_of s) × Ran words s given given_now taken taken_now × Tells (IsLineGiven words s given given_now) told told_now
