-- What the program does with the bytes that it read.
use Rattle.std.specs.Prelude.{◌≡◌, ℕ, List, ◌++◌, Option, Ok}
use Rattle.shake_streams.specs.Moves.{HasFailed, Known, SendsFront}
use Rattle.js_syntax.specs.Node.{Forest}
use Rattle.json_text.specs.Answer.{IsReadAs}
use Rattle.json_text.specs.Answer as json
use Rattle.shake_words.specs.declared.answer.Command.{Command}
use Rattle.shake_words.specs.declared.answer.Command.TheVariants.{Dce, Run}
use Rattle.min_driver.specs.Minify.{IsCause}
use Rattle.run_module.specs.Answer as run
use Rattle.run_module.specs.declared.error.RunError.{RunError}
use Rattle.run_module.specs.declared.error.RunError.TheVariants.{Tree, Refused, NotCore, Bad, OutOfMemory}
use Rattle.shake.specs.Run.{IsOutput, IsCauseFor}
use Rattle.shake.specs.declared.status.Status.{Status}
use Rattle.shake.specs.declared.status.Status.TheVariants as status

-- the cause of an error of a command; memory may be short at any time
abbrev pub IsCauseOf : Command → RunError → List ℕ → Type 0
IsCauseOf (Dce tree_only) (Tree e) bytes = json.IsCauseOf e bytes
IsCauseOf (Dce tree_only) (Refused e) bytes = (t : Forest) × IsReadAs bytes (Ok t) × IsCause e t
IsCauseOf (Dce tree_only) (NotCore place) bytes = ⊥
IsCauseOf (Dce tree_only) (Bad field) bytes = ⊥
IsCauseOf (Dce tree_only) OutOfMemory bytes = Unit {0}
IsCauseOf Run e bytes = run.IsCauseOf e bytes

-- what stands behind each answer: that the output went out `whole`, or a `front` of it, or `nothing`
abbrev pub Stands : Command → Status → List ℕ → (whole front : List ℕ → Type 0) (nothing : Type 0) → Type 0
Stands command status.Ok bytes whole front nothing = (text : List ℕ) × IsOutput command bytes text × whole text
Stands command status.WriteFault bytes whole front nothing = (text : List ℕ) × IsOutput command bytes text × front text
Stands command s bytes whole front nothing = IsCauseFor command s bytes × nothing

-- of sinks that tell their bytes
abbrev pub Answers : Command → Status → List ℕ → (written now : Option (List ℕ)) → (faults later : ℕ) → Type 0
Answers command s bytes written now faults later =
    Stands command s bytes (λ text. Known (λ w. w ++ text) written now) (λ text. SendsFront text written now × HasFailed faults later) (now ≡ written)
