-- From the bytes that were read to the bytes that the source told.
use Rattle.std.proofs.Common.{◌≡◌, ◌⊎◌, inl, inr, ◌≤◌, ℕ, List, [], length, Option, Some, None, Ok, Err, refl, sym, subst}
use Rattle.shake_streams.specs.Moves.{HasFailed}
use Rattle.shake_streams.specs.Reading.{Ends}
use Rattle.js_syntax.specs.Node.{Forest}
use Rattle.json_text.specs.Fault.{Fault}
use Rattle.run_module.proofs.Core.{module_covered}
use Rattle.run_script.specs.declared.fault.Field.{Field}
use Rattle.run_script.specs.declared.fault.Field.TheVariants as field
use Rattle.shake_words.specs.Meaning.{command_of}
use Rattle.shake_words.specs.declared.answer.Command.{Command}
use Rattle.shake_words.specs.declared.answer.Command.TheVariants.{Dce, Run}
use Rattle.shake.specs.Answer.{Answers}
use Rattle.shake.specs.Run.{max_input, Told, IsSound, IsReadFor, IsBadIn, IsOutsideIn, IsCauseFor, IsLineFor, IsLineOf, Asks, Shakes, ShakesFront, IsRefused, CanAnswer, Completes}
use Rattle.shake.specs.Line.{Says}
use Rattle.shake.specs.declared.status.Status.{Status}
use Rattle.shake.specs.declared.status.Status.TheVariants as status

these : (left now : Option (List ℕ)) (bytes : List ℕ) → Ends left now bytes → Told left (λ all. all ≡ bytes)
these None now bytes h = tt
these (Some all) now bytes h = sym h.0

emptied : (left now : Option (List ℕ)) (bytes : List ℕ) → Ends left now bytes → Told left (λ _. now ≡ Some [])
emptied None now bytes h = tt
emptied (Some all) now bytes h = h.1

same_bytes : (left now : Option (List ℕ)) (bytes other : List ℕ) → Ends left now bytes → left ≡ Some other → other ≡ bytes
same_bytes None now bytes other h is = absurd (cc is)
same_bytes (Some all) now bytes other h is = cc (h.0, is)

-- ---- where nothing stands in the way, nothing is refused

no_fault : (command : Command) (bytes : List ℕ) (f : Fault) → CanAnswer command bytes → IsReadFor command bytes (Err f) → ⊥
no_fault (Dce tree_only) bytes f (t, (utf, (d, read, is)), sound) (utf2, (e, read2, is2)) = absurd (cc (read, read2, is, is2))
no_fault Run bytes f (d, (utf, read), t, (m, at, is), runs, i, asked) (e, (utf2, read2), (m2, at2, is2)) = absurd (cc (read, read2, at, at2, is, is2))

-- the tree is the one that was read
its_tree : (command : Command) (bytes : List ℕ) (t : Forest) → CanAnswer command bytes → IsReadFor command bytes (Ok t) → IsSound t
its_tree (Dce tree_only) bytes t (u, (utf, (d, read, is)), sound) (utf2, (e, read2, is2)) = subst IsSound (cc (read, read2, is, is2)) sound
its_tree Run bytes t (d, (utf, read), u, (m, at, is), runs, i, asked) (e, (utf2, read2), (m2, at2, is2)) = subst IsSound (cc (read, read2, at, at2, is, is2)) (record { limits = runs.limits; form = runs.form })

no_bad : (bytes : List ℕ) (f : Field) → CanAnswer Run bytes → IsBadIn Run bytes f → ⊥
no_bad bytes field.Program (d, (utf, read), t, (m, at, is), runs, i, asked) (e, (utf2, read2), lacks) = absurd (cc (read, read2, at, lacks))
no_bad bytes field.Script (d, (utf, read), t, has, runs, i, asked) (e, (utf2, read2), bad) = absurd (cc (read, read2, asked, bad.3))
no_bad bytes field.Globals (d, (utf, read), t, has, runs, i, asked) (e, (utf2, read2), bad) = absurd (cc (read, read2, asked, bad.3))
no_bad bytes field.Moves (d, (utf, read), t, has, runs, i, asked) (e, (utf2, read2), bad) = absurd (cc (read, read2, asked, bad.3))
no_bad bytes field.Bound (d, (utf, read), t, has, runs, i, asked) (e, (utf2, read2), bad) = absurd (cc (read, read2, asked, bad.3))

no_outside : (bytes : List ℕ) (place : ℕ) → CanAnswer Run bytes → IsOutsideIn Run bytes place → ⊥
no_outside bytes place (d, (utf, read), t, (m, at, is), runs, i, asked) (e, (utf2, read2), (u, (m2, at2, is2), limits, form, first)) =
    absurd (cc (read, read2, at, at2, is, is2, first, module_covered t runs.core))

unrefused : (command : Command) (bytes : List ℕ) (s : Status) → CanAnswer command bytes → IsCauseFor command s bytes → s ≡ status.OutOfMemory
unrefused command bytes status.OutOfMemory can cause = refl
unrefused (Dce tree_only) bytes status.Syntax (t, (utf, (d, read, is)), sound) cause = absurd (cc (read, cause utf))
unrefused Run bytes status.Syntax (d, (utf, read), t, has, runs, i, asked) cause = absurd (cc (read, cause utf))
unrefused command bytes status.Tree can (f, not_deep, is) = absurd (no_fault command bytes f can is)
unrefused command bytes status.TooLarge can (t, is, large) = absurd (large (its_tree command bytes t can is).limits)
unrefused command bytes status.IllFormed can (t, is, broken) = absurd (broken.1 (its_tree command bytes t can is).form)
unrefused (Dce tree_only) bytes status.BadScript can (f, bad) = absurd bad
unrefused Run bytes status.BadScript can (f, bad) = absurd (no_bad bytes f can bad)
unrefused (Dce tree_only) bytes status.NotCore can (place, out) = absurd out
unrefused Run bytes status.NotCore can (place, out) = absurd (no_outside bytes place can out)
unrefused command bytes status.Ok can cause = absurd cause
unrefused command bytes status.Usage can cause = absurd cause
unrefused command bytes status.ReadFault can cause = absurd cause
unrefused command bytes status.InputTooLong can cause = absurd cause
unrefused command bytes status.WriteFault can cause = absurd cause

-- ---- the answers for the bytes, as answers of the program

module _ (words : List (List ℕ)) (command : Command) (asked : command_of words ≡ Some command) (left now : Option (List ℕ)) (bytes : List ℕ) (ends : Ends left now bytes) (within : length bytes ≤ max_input) where
  pub asks : (P : Command → List ℕ → Type 0) → P command bytes → Asks words left P
  asks P p = (command, asked, bytes, these left now bytes ends, within, p)

  pub shakes : (s : Status) (w w' : Option (List ℕ)) (f f' : ℕ) → Answers command s bytes w w' f f' → s ≡ status.Ok → Shakes words left now w w'
  shakes s w w' f f' a is =
      let ok : Answers command status.Ok bytes w w' f f' = subst (λ x. Answers command x bytes w w' f f') is a in
      (command, asked, bytes, these left now bytes ends, within, (ok.0, ok.1, emptied left now bytes ends, ok.2))

  pub shakes_front : (s : Status) (w w' : Option (List ℕ)) (f f' : ℕ) → Answers command s bytes w w' f f' → s ≡ status.WriteFault → ShakesFront words left w w'
  shakes_front s w w' f f' a is =
      let fault : Answers command status.WriteFault bytes w w' f f' = subst (λ x. Answers command x bytes w w' f f') is a in
      (command, asked, bytes, these left now bytes ends, within, (fault.0, fault.1, fault.2.0))

  pub is_syntax : (s : Status) (w w' : Option (List ℕ)) (f f' : ℕ) → Answers command s bytes w w' f f' → s ≡ status.Syntax → IsRefused status.Syntax words left
  is_syntax s w w' f f' a is =
      let refused : Answers command status.Syntax bytes w w' f f' = subst (λ x. Answers command x bytes w w' f f') is a in
      asks (λ c b. IsCauseFor c status.Syntax b) refused.0

  pub is_tree : (s : Status) (w w' : Option (List ℕ)) (f f' : ℕ) → Answers command s bytes w w' f f' → s ≡ status.Tree → IsRefused status.Tree words left
  is_tree s w w' f f' a is =
      let refused : Answers command status.Tree bytes w w' f f' = subst (λ x. Answers command x bytes w w' f f') is a in
      asks (λ c b. IsCauseFor c status.Tree b) refused.0

  pub is_large : (s : Status) (w w' : Option (List ℕ)) (f f' : ℕ) → Answers command s bytes w w' f f' → s ≡ status.TooLarge → IsRefused status.TooLarge words left
  is_large s w w' f f' a is =
      let refused : Answers command status.TooLarge bytes w w' f f' = subst (λ x. Answers command x bytes w w' f f') is a in
      asks (λ c b. IsCauseFor c status.TooLarge b) refused.0

  pub is_broken : (s : Status) (w w' : Option (List ℕ)) (f f' : ℕ) → Answers command s bytes w w' f f' → s ≡ status.IllFormed → IsRefused status.IllFormed words left
  is_broken s w w' f f' a is =
      let refused : Answers command status.IllFormed bytes w w' f f' = subst (λ x. Answers command x bytes w w' f f') is a in
      asks (λ c b. IsCauseFor c status.IllFormed b) refused.0

  pub is_bad : (s : Status) (w w' : Option (List ℕ)) (f f' : ℕ) → Answers command s bytes w w' f f' → s ≡ status.BadScript → IsRefused status.BadScript words left
  is_bad s w w' f f' a is =
      let refused : Answers command status.BadScript bytes w w' f f' = subst (λ x. Answers command x bytes w w' f f') is a in
      asks (λ c b. IsCauseFor c status.BadScript b) refused.0

  pub is_outside : (s : Status) (w w' : Option (List ℕ)) (f f' : ℕ) → Answers command s bytes w w' f f' → s ≡ status.NotCore → IsRefused status.NotCore words left
  is_outside s w w' f f' a is =
      let refused : Answers command status.NotCore bytes w w' f f' = subst (λ x. Answers command x bytes w w' f f') is a in
      asks (λ c b. IsCauseFor c status.NotCore b) refused.0

  line_of : (s : Status) (line : List ℕ) → IsLineFor command s bytes line → IsLineOf s words left line
  line_of status.Ok line says = says
  line_of status.Usage line says = says
  line_of status.ReadFault line says = says
  line_of status.InputTooLong line says = says
  line_of status.Syntax line says = says
  line_of status.Tree line says = asks (λ c b. IsLineFor c status.Tree b line) says
  line_of status.TooLarge line says = asks (λ c b. IsLineFor c status.TooLarge b line) says
  line_of status.IllFormed line says = asks (λ c b. IsLineFor c status.IllFormed b line) says
  line_of status.WriteFault line says = says
  line_of status.OutOfMemory line says = says
  line_of status.BadScript line says = asks (λ c b. IsLineFor c status.BadScript b line) says
  line_of status.NotCore line says = asks (λ c b. IsLineFor c status.NotCore b line) says

  pub says_line : (s : Status) (said said_now : Option (List ℕ)) (faults later : ℕ) → Says (IsLineFor command s bytes) said said_now faults later → Says (IsLineOf s words left) said said_now faults later
  says_line s said said_now faults later line = (line.0, line_of s line.0 line.1, line.2, line.3)

  ends_so : (s : Status) (w w' : Option (List ℕ)) (f f' : ℕ) → Answers command s bytes w w' f f' → CanAnswer command bytes → ¬ HasFailed f f' → (s ≡ status.Ok) ⊎ (s ≡ status.OutOfMemory)
  ends_so status.Ok w w' f f' a can fails = inl refl
  ends_so status.WriteFault w w' f f' a can fails = absurd (fails a.2.1)
  ends_so status.Usage w w' f f' a can fails = inr (unrefused command bytes status.Usage can a.0)
  ends_so status.ReadFault w w' f f' a can fails = inr (unrefused command bytes status.ReadFault can a.0)
  ends_so status.InputTooLong w w' f f' a can fails = inr (unrefused command bytes status.InputTooLong can a.0)
  ends_so status.Syntax w w' f f' a can fails = inr (unrefused command bytes status.Syntax can a.0)
  ends_so status.Tree w w' f f' a can fails = inr (unrefused command bytes status.Tree can a.0)
  ends_so status.TooLarge w w' f f' a can fails = inr (unrefused command bytes status.TooLarge can a.0)
  ends_so status.IllFormed w w' f f' a can fails = inr (unrefused command bytes status.IllFormed can a.0)
  ends_so status.OutOfMemory w w' f f' a can fails = inr (unrefused command bytes status.OutOfMemory can a.0)
  ends_so status.BadScript w w' f f' a can fails = inr (unrefused command bytes status.BadScript can a.0)
  ends_so status.NotCore w w' f f' a can fails = inr (unrefused command bytes status.NotCore can a.0)

  pub completes : (s : Status) (w w' : Option (List ℕ)) (f f' : ℕ) (g g' : ℕ) → Answers command s bytes w w' f f' → Completes words left g g' f f' s
  completes s w w' f f' g g' a = λ other asks_other accepted all is_all few can sound fails.
      let same : other ≡ command = cc (asks_other, asked) in
      let can_here : CanAnswer command all = subst (λ c. CanAnswer c all) same can in
      ends_so s w w' f f' a (subst (λ b. CanAnswer command b) (same_bytes left now bytes all ends is_all) can_here) fails
