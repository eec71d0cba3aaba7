-- From what a command makes of the bytes to the answer.
use Rattle.std.proofs.Common.{◌≡◌, ◌⊎◌, inl, inr, ◌∙◌, ℕ, List, Option, Some, None, Ok, ap₂}
use Rattle.shake_words.specs.declared.answer.Command.{Command}
use Rattle.shake_words.specs.declared.answer.Command.TheVariants.{Dce, Run}
use Rattle.json_text.specs.Fault.{unknown_node, bad_field, out_of_range}
use Rattle.json_text.specs.declared.error.TreeError.TheVariants as tree
use Rattle.form_rules.specs.Break.{at_place}
use Rattle.js_syntax.specs.Node.{Forest}
use Rattle.min_driver.specs.Minify.{IsCause}
use Rattle.min_driver.specs.declared.error.MinifyError.{MinifyError}
use Rattle.min_driver.specs.declared.error.MinifyError.TheVariants as minify
use Rattle.run_module.specs.declared.error.RunError.{RunError}
use Rattle.run_module.specs.declared.error.RunError.TheVariants.{Tree, Refused, NotCore, Bad, OutOfMemory}
use Rattle.shake.specs.Answer.{IsCauseOf, Stands}
use Rattle.shake.specs.Fault.{status_of, IsAnswerTo, refusal_line}
use Rattle.shake.specs.Line.{Says, status_line, large_line}
use Rattle.shake.specs.Run.{IsOutput, IsReadFor, IsCauseFor, IsLineFor}
use Rattle.shake.specs.declared.status.Status.{Status}
use Rattle.shake.specs.declared.status.Status.TheVariants as status

-- ---- a refusal

not_none : {A : Type 0} {o : Option A} {x : A} → o ≡ Some x → o ≡ None → ⊥
not_none is none = absurd (cc (is, none))

-- a program that is refused
refused_by : (command : Command) (e : MinifyError) (bytes : List ℕ) (t : Forest) → IsReadFor command bytes (Ok t) → IsCause e t → IsCauseFor command (status_of (Refused e)) bytes
refused_by command (minify.TooLarge nodes deep) bytes t is cause = (t, is, cause.0)
refused_by command (minify.IllFormed rule place) bytes t is cause = (t, is, (cause.0, not_none cause.1))
refused_by command minify.OutOfMemory bytes t is cause = tt

-- the error has its cause, so the answer has
cause_for : (command : Command) (e : RunError) (bytes : List ℕ) → IsCauseOf command e bytes → IsCauseFor command (status_of e) bytes
cause_for (Dce tree_only) (Tree tree.Syntax) bytes cause = cause
cause_for (Dce tree_only) (Tree (tree.UnknownNode kind)) bytes cause = (unknown_node _, (λ h. cc), cause)
cause_for (Dce tree_only) (Tree (tree.BadField kind field)) bytes cause = (bad_field _ _, (λ h. cc), cause)
cause_for (Dce tree_only) (Tree tree.NumberOutOfRange) bytes cause = (out_of_range, (λ h. cc), cause)
cause_for (Dce tree_only) (Tree tree.OutOfMemory) bytes cause = tt
cause_for (Dce tree_only) (Refused e) bytes cause = refused_by (Dce tree_only) e bytes cause.0 cause.1 cause.2
cause_for (Dce tree_only) (NotCore place) bytes cause = absurd cause
cause_for (Dce tree_only) (Bad field) bytes cause = absurd cause
cause_for (Dce tree_only) OutOfMemory bytes cause = tt
cause_for Run (Tree tree.Syntax) bytes cause = cause
cause_for Run (Tree (tree.UnknownNode kind)) bytes cause = (unknown_node _, (λ h. cc), cause)
cause_for Run (Tree (tree.BadField kind field)) bytes cause = (bad_field _ _, (λ h. cc), cause)
cause_for Run (Tree tree.NumberOutOfRange) bytes cause = (out_of_range, (λ h. cc), cause)
cause_for Run (Tree tree.OutOfMemory) bytes cause = tt
cause_for Run (Refused e) bytes (d, is, (t, read, cause)) = refused_by Run e bytes t (d, is, read) cause
cause_for Run (NotCore place) bytes cause = (place, cause)
cause_for Run (Bad field) bytes cause = (field, cause)
cause_for Run OutOfMemory bytes cause = tt

-- no error is a success
abbrev refuses : Status → Type 0
refuses status.Ok = ⊥
refuses status.WriteFault = ⊥
refuses s = Unit {0}

error_refuses : (e : RunError) → refuses (status_of e)
error_refuses (Tree tree.Syntax) = tt
error_refuses (Tree (tree.UnknownNode kind)) = tt
error_refuses (Tree (tree.BadField kind field)) = tt
error_refuses (Tree tree.NumberOutOfRange) = tt
error_refuses (Tree tree.OutOfMemory) = tt
error_refuses (Refused (minify.TooLarge nodes deep)) = tt
error_refuses (Refused (minify.IllFormed rule place)) = tt
error_refuses (Refused minify.OutOfMemory) = tt
error_refuses (NotCore place) = tt
error_refuses (Bad field) = tt
error_refuses OutOfMemory = tt

stands_refused : (command : Command) (s : Status) (bytes : List ℕ) → refuses s → IsCauseFor command s bytes → (whole front : List ℕ → Type 0) (nothing : Type 0) → nothing → Stands command s bytes whole front nothing
stands_refused command status.Ok bytes r cause whole front nothing n = absurd r
stands_refused command status.WriteFault bytes r cause whole front nothing n = absurd r
stands_refused command status.Usage bytes r cause whole front nothing n = (cause, n)
stands_refused command status.ReadFault bytes r cause whole front nothing n = (cause, n)
stands_refused command status.InputTooLong bytes r cause whole front nothing n = (cause, n)
stands_refused command status.Syntax bytes r cause whole front nothing n = (cause, n)
stands_refused command status.Tree bytes r cause whole front nothing n = (cause, n)
stands_refused command status.TooLarge bytes r cause whole front nothing n = (cause, n)
stands_refused command status.IllFormed bytes r cause whole front nothing n = (cause, n)
stands_refused command status.OutOfMemory bytes r cause whole front nothing n = (cause, n)
stands_refused command status.BadScript bytes r cause whole front nothing n = (cause, n)
stands_refused command status.NotCore bytes r cause whole front nothing n = (cause, n)

pub refused : (command : Command) (e : RunError) (s : Status) (bytes : List ℕ) → IsCauseOf command e bytes → IsAnswerTo e s → (whole front : List ℕ → Type 0) (nothing : Type 0) → nothing
    → Stands command s bytes whole front nothing
refused command e s bytes cause (inl is) whole front nothing n = rw is (stands_refused command (status_of e) bytes (error_refuses e) (cause_for command e bytes cause) whole front nothing n)
refused command e s bytes cause (inr short) whole front nothing n = rw short (tt, n)

-- ---- its line

minify_line : (command : Command) (e : MinifyError) (bytes line : List ℕ) (t : Forest) → IsReadFor command bytes (Ok t) → IsCause e t → line ≡ refusal_line (Refused e) (status_of (Refused e)) → IsLineFor command (status_of (Refused e)) bytes line
minify_line command (minify.TooLarge nodes deep) bytes line t is cause says = (t, says ∙ ap₂ (λ (n l : ℕ). large_line n l) cause.1.0 cause.1.1, is)
minify_line command (minify.IllFormed rule place) bytes line t is cause says = (t, (at_place place rule, cause.1, says), is)
minify_line command minify.OutOfMemory bytes line t is cause says = says

line_for : (command : Command) (e : RunError) (bytes line : List ℕ) → IsCauseOf command e bytes → line ≡ refusal_line e (status_of e) → IsLineFor command (status_of e) bytes line
line_for (Dce tree_only) (Tree tree.Syntax) bytes line cause says = says
line_for (Dce tree_only) (Tree (tree.UnknownNode kind)) bytes line cause says = (unknown_node _, says, (λ h. cc), cause)
line_for (Dce tree_only) (Tree (tree.BadField kind field)) bytes line cause says = (bad_field _ _, says, (λ h. cc), cause)
line_for (Dce tree_only) (Tree tree.NumberOutOfRange) bytes line cause says = (out_of_range, says, (λ h. cc), cause)
line_for (Dce tree_only) (Tree tree.OutOfMemory) bytes line cause says = says
line_for (Dce tree_only) (Refused e) bytes line cause says = minify_line (Dce tree_only) e bytes line cause.0 cause.1 cause.2 says
line_for (Dce tree_only) (NotCore place) bytes line cause says = absurd cause
line_for (Dce tree_only) (Bad field) bytes line cause says = absurd cause
line_for (Dce tree_only) OutOfMemory bytes line cause says = says
line_for Run (Tree tree.Syntax) bytes line cause says = says
line_for Run (Tree (tree.UnknownNode kind)) bytes line cause says = (unknown_node _, says, (λ h. cc), cause)
line_for Run (Tree (tree.BadField kind field)) bytes line cause says = (bad_field _ _, says, (λ h. cc), cause)
line_for Run (Tree tree.NumberOutOfRange) bytes line cause says = (out_of_range, says, (λ h. cc), cause)
line_for Run (Tree tree.OutOfMemory) bytes line cause says = says
line_for Run (Refused e) bytes line (d, is, (t, read, cause)) says = minify_line Run e bytes line t (d, is, read) cause says
line_for Run (NotCore place) bytes line cause says = (place, says, cause)
line_for Run (Bad field) bytes line cause says = (field, says, cause)
line_for Run OutOfMemory bytes line cause says = says

pub line_of_refusal : (command : Command) (e : RunError) (s : Status) (bytes line : List ℕ) → IsCauseOf command e bytes → IsAnswerTo e s → line ≡ refusal_line e s → IsLineFor command s bytes line
line_of_refusal command e s bytes line cause (inl same) says = rw same (line_for command e bytes line cause (rw same at says))
line_of_refusal command e s bytes line cause (inr short) says = rw short (rw short at says)

pub says_refusal : (command : Command) (e : RunError) (s : Status) (bytes : List ℕ) (written now : Option (List ℕ)) (faults later : ℕ) → IsCauseOf command e bytes → IsAnswerTo e s
    → Says (λ l. l ≡ refusal_line e s) written now faults later → Says (IsLineFor command s bytes) written now faults later
says_refusal command e s bytes written now faults later cause is said = (said.0, line_of_refusal command e s bytes said.0 cause is said.1, said.2, said.3)

-- ---- what is sent

pub sent : (command : Command) (s : Status) (bytes text : List ℕ) → IsOutput command bytes text → (s ≡ status.Ok) ⊎ (s ≡ status.WriteFault) → (whole front : List ℕ → Type 0) (nothing : Type 0)
    → (s ≡ status.Ok → whole text) → (s ≡ status.WriteFault → front text) → Stands command s bytes whole front nothing
sent command s bytes text output (inl told) whole front nothing w f = rw told (text, output, w told)
sent command s bytes text output (inr told) whole front nothing w f = rw told (text, output, f told)

pub sent_line : (command : Command) (s : Status) (bytes line : List ℕ) → (s ≡ status.Ok) ⊎ (s ≡ status.WriteFault) → line ≡ status_line s → IsLineFor command s bytes line
sent_line command s bytes line (inl told) says = rw told (rw told at says)
sent_line command s bytes line (inr told) says = rw told (rw told at says)

pub sent_says : (command : Command) (s : Status) (bytes : List ℕ) (said said_now : Option (List ℕ)) (faults later : ℕ) → (s ≡ status.Ok) ⊎ (s ≡ status.WriteFault)
    → Says (λ l. l ≡ status_line s) said said_now faults later → Says (IsLineFor command s bytes) said said_now faults later
sent_says command s bytes said said_now faults later answer line = (line.0, sent_line command s bytes line.0 answer line.1, line.2, line.3)
