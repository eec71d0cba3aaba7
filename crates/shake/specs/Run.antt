-- What a run of the program leaves behind.
use Rattle.std.specs.Prelude.{◌≡◌, ◌≢◌, ◌⊎◌, ◌+◌, ◌^◌, ◌≤◌, ℕ, List, [], ◌++◌, Bool, true, false, length, Option, Some, None, Result, Ok, Err, IsUtf8, codes, decimal}
use Rattle.shake_streams.specs.Moves.{HasFailed, Known, SendsFront}
use Rattle.js_syntax.specs.Facts.{weight}
use Rattle.js_syntax.specs.Node.{Forest, bare, total}
use Rattle.json_text.specs.Answer.{IsReadAs, IsNoJson}
use Rattle.json_text.specs.Fault.{Fault, too_deep}
use Rattle.serde_json.specs.Data.{Data}
use Rattle.run_module.specs.Running.{IsJson, HasProgram, HasRuns, IsRunOf}
use Rattle.run_module.specs.Answer.{IsBad, IsOutside}
use Rattle.run_script.specs.Script.{Input, read_script}
use Rattle.run_script.specs.declared.fault.Field.{Field}
use Rattle.json_text.specs.Text.{text_of}
use Rattle.shake_words.specs.Meaning.{command_of, accepts}
use Rattle.shake_words.specs.declared.answer.Command.{Command}
use Rattle.shake_words.specs.declared.answer.Command.TheVariants.{Dce, Run}
use Rattle.min_pass.specs.Pass.{cleared}
use Rattle.headline.specs.Headline.{Headline}
use Rattle.headline_text.specs.Written.{TextHeadline}
use Rattle.scope_rules.specs.Binding.{resolved_references}
use Rattle.form_rules.specs.Form.{IsWellFormed}
use Rattle.min_driver.specs.Limit.{IsWithinLimits, IsTooLarge}
use Rattle.shake.specs.Line.{fault_line, too_large_line, IsBreakLine, bad_script_line, not_core_line, status_line}
use Rattle.shake.specs.declared.status.Status.{Status}
use Rattle.shake.specs.declared.status.Status.TheVariants as status

-- how many bytes the program reads at most
abbrev pub max_input : ℕ
max_input = 2 ^ 28

-- the line of counts, on a line of its own
abbrev pub counts_of : (passes references : ℕ) → List ℕ
counts_of passes references = codes "\npasses " ++ (decimal passes ++ (codes " references " ++ (decimal references ++ codes "\n")))

-- a tree and the line of counts
abbrev pub output_of : Forest → (passes references : ℕ) → List ℕ
output_of t passes references = text_of t ++ counts_of passes references

-- a tree alone
abbrev pub tree_output_of : Forest → List ℕ
tree_output_of t = text_of t ++ codes "\n"

-- what `dce` writes for a tree that is left: with `--tree-only` the tree alone
abbrev pub dce_output : (tree_only : Bool) → Forest → (passes references : ℕ) → List ℕ
dce_output false t passes references = output_of t passes references
dce_output true t passes references = tree_output_of t

-- the text of a tree is UTF-8
abbrev pub IsInUtf8 : Forest → Type 0
IsInUtf8 t = IsUtf8 (text_of t)

-- Of the tree `t` that was read the program `u` is left, behind so many passes that changed something.
pub record Shaken (t u : Forest) (passes : ℕ) : Type 0 where
  -- it is the program that was read without its dead code: edits lead to it, it keeps the runs, and has no dead code
  pub headline : Headline t u
  -- its text is UTF-8, is read as it where it keeps JSON's limit of nesting, and keeps the runs
  pub utf8 : IsInUtf8 u
  pub text : TextHeadline t u
  -- it is lighter by one at least for each pass; where there was none, only empty statements of lists are gone
  pub few : passes + total weight u ≤ total weight t
  pub none : passes ≡ 0 → bare u ≡ bare (cleared t)

-- what `dce` writes for the tree that was read: a program that is left of it, the passes that there were, and how many references
-- of what is left have a binding
pub record IsDceOutput (tree_only : Bool) (t : Forest) (text : List ℕ) : Type 0 where
  pub left : Forest
  pub passes : ℕ
  pub shaken : Shaken t left passes
  pub is : text ≡ dce_output tree_only left passes (resolved_references left)

-- a tree that is within the limits, and breaks no rule of form, or does
pub record IsSound (t : Forest) : Type 0 where
  pub limits : IsWithinLimits t
  pub form : IsWellFormed t

abbrev pub IsIllFormed : Forest → Type 0
IsIllFormed t = IsWithinLimits t × ¬ IsWellFormed t

-- some bytes are read as the tree
abbrev pub WasRead : Forest → Type 0
WasRead t = (bytes : List ℕ) × IsReadAs bytes (Ok t)

-- ---- by command

-- how the tree is read that a command asks for: the bytes are its JSON, and for a run its field `program` is
abbrev pub IsReadFor : Command → List ℕ → Result Forest Fault → Type 0
IsReadFor (Dce tree_only) bytes outcome = IsReadAs bytes outcome
IsReadFor Run bytes outcome = (d : Data) × IsJson bytes d × HasProgram d outcome

-- the text that a command writes for the bytes that were read: what is left of their program without its dead code; or the run
-- that they ask for, of a core module over a script
abbrev pub IsOutput : Command → List ℕ → List ℕ → Type 0
IsOutput (Dce tree_only) bytes text = (t : Forest) × IsReadAs bytes (Ok t) × IsSound t × IsDceOutput tree_only t text
IsOutput Run bytes text = (d : Data) × IsJson bytes d × IsRunOf d text

-- the first field of an input that is missing or isn't as it must be
abbrev pub IsBadIn : Command → List ℕ → Field → Type 0
IsBadIn (Dce tree_only) bytes f = ⊥
IsBadIn Run bytes f = (d : Data) × IsJson bytes d × IsBad f d

-- the least place of a node that is not of the core of the language
abbrev pub IsOutsideIn : Command → List ℕ → (place : ℕ) → Type 0
IsOutsideIn (Dce tree_only) bytes place = ⊥
IsOutsideIn Run bytes place = (d : Data) × IsJson bytes d × IsOutside place d

-- why a command writes nothing for the bytes
abbrev pub IsCauseFor : Command → Status → List ℕ → Type 0
IsCauseFor command status.Syntax bytes = IsNoJson bytes
IsCauseFor command status.Tree bytes = (f : Fault) × (f ≢ too_deep) × IsReadFor command bytes (Err f)
IsCauseFor command status.TooLarge bytes = (t : Forest) × IsReadFor command bytes (Ok t) × IsTooLarge t
IsCauseFor command status.IllFormed bytes = (t : Forest) × IsReadFor command bytes (Ok t) × IsIllFormed t
IsCauseFor command status.BadScript bytes = (f : Field) × IsBadIn command bytes f
IsCauseFor command status.NotCore bytes = (place : ℕ) × IsOutsideIn command bytes place
IsCauseFor command status.OutOfMemory bytes = Unit {0}
IsCauseFor command _ bytes = ⊥

-- the line that says so
abbrev pub IsLineFor : Command → Status → List ℕ → List ℕ → Type 0
IsLineFor command status.Tree bytes line = (f : Fault) × (line ≡ fault_line f) × (f ≢ too_deep) × IsReadFor command bytes (Err f)
IsLineFor command status.TooLarge bytes line = (t : Forest) × (line ≡ too_large_line t) × IsReadFor command bytes (Ok t)
IsLineFor command status.IllFormed bytes line = (t : Forest) × IsBreakLine t line × IsReadFor command bytes (Ok t)
IsLineFor command status.BadScript bytes line = (f : Field) × (line ≡ bad_script_line f) × IsBadIn command bytes f
IsLineFor command status.NotCore bytes line = (place : ℕ) × (line ≡ not_core_line place) × IsOutsideIn command bytes place
IsLineFor command s bytes line = line ≡ status_line s

-- ---- of streams that tell their bytes

-- where the source tells its bytes
abbrev pub Told : Option (List ℕ) → (List ℕ → Type 0) → Type 0
Told None P = Unit {0}
Told (Some bytes) P = P bytes

-- The words ask for a command, and this holds of it and the bytes that were read, which are within the limit and those that the
-- source told.
abbrev pub Asks : (words : List (List ℕ)) (left : Option (List ℕ)) → (Command → List ℕ → Type 0) → Type 0
Asks words left P =
    (command : Command) × (command_of words ≡ Some command) × (bytes : List ℕ) × Told left (λ all. all ≡ bytes) × (length bytes ≤ max_input) × P command bytes

-- answer 0: the words ask for a command, all bytes were read, and what the command writes for them went out whole
abbrev pub Shakes : (words : List (List ℕ)) (left left_now written written_now : Option (List ℕ)) → Type 0
Shakes words left left_now written written_now =
    Asks words left (λ command bytes. (text : List ℕ) × IsOutput command bytes text × Told left (λ _. left_now ≡ Some []) × Known (λ w. w ++ text) written written_now)

-- a fault of the sink: a front of such an output went out
abbrev pub ShakesFront : (words : List (List ℕ)) (left written written_now : Option (List ℕ)) → Type 0
ShakesFront words left written written_now = Asks words left (λ command bytes. (text : List ℕ) × IsOutput command bytes text × SendsFront text written written_now)

-- an answer that refuses the bytes has its cause in them
abbrev pub IsRefused : Status → (words : List (List ℕ)) (left : Option (List ℕ)) → Type 0
IsRefused s words left = Asks words left (λ command bytes. IsCauseFor command s bytes)

-- the line of an answer; that of bytes that are refused says why
abbrev pub IsLineOf : Status → (words : List (List ℕ)) (left : Option (List ℕ)) → List ℕ → Type 0
IsLineOf status.Tree words left line = Asks words left (λ command bytes. IsLineFor command status.Tree bytes line)
IsLineOf status.TooLarge words left line = Asks words left (λ command bytes. IsLineFor command status.TooLarge bytes line)
IsLineOf status.IllFormed words left line = Asks words left (λ command bytes. IsLineFor command status.IllFormed bytes line)
IsLineOf status.BadScript words left line = Asks words left (λ command bytes. IsLineFor command status.BadScript bytes line)
IsLineOf status.NotCore words left line = Asks words left (λ command bytes. IsLineFor command status.NotCore bytes line)
IsLineOf s words left line = line ≡ status_line s

-- Only with these two answers is anything written.
abbrev pub writes : Status → Bool
writes status.Ok = true
writes status.WriteFault = true
writes _ = false

-- nothing in the bytes stands in the way of a command: their tree is within the limits and well formed, and for a run it is a core
-- module, and the script is one
abbrev pub CanAnswer : Command → List ℕ → Type 0
CanAnswer (Dce tree_only) bytes = (t : Forest) × IsReadAs bytes (Ok t) × IsSound t
CanAnswer Run bytes = (d : Data) × IsJson bytes d × (t : Forest) × HasProgram d (Ok t) × HasRuns t × (i : Input) × (read_script d ≡ Ok i)

-- where the words ask for a command, nothing in the bytes stands in its way, and nothing fails, the answer is 0, unless memory is
-- short
abbrev pub Completes : (words : List (List ℕ)) (left : Option (List ℕ)) (source_faults source_later out_faults out_later : ℕ) → Status → Type 0
Completes words left source_faults source_later out_faults out_later s =
    (command : Command) → command_of words ≡ Some command → accepts words ≡ true → (bytes : List ℕ) → left ≡ Some bytes → length bytes ≤ max_input → CanAnswer command bytes
    → ¬ HasFailed source_faults source_later → ¬ HasFailed out_faults out_later → (s ≡ status.Ok) ⊎ (s ≡ status.OutOfMemory)
