-- Why nothing is written for bytes, as code has it: the answer for each error, and its line.
use Rattle.std.specs.Prelude.{◌≡◌, ◌⊎◌, ℕ, List, string_bytes}
use Rattle.json_text.specs.Fault.{unknown_node, bad_field, out_of_range}
use Rattle.json_text.specs.declared.error.TreeError.{TreeError}
use Rattle.json_text.specs.declared.error.TreeError.TheVariants as tree
use Rattle.min_driver.specs.declared.error.MinifyError.{MinifyError}
use Rattle.min_driver.specs.declared.error.MinifyError.TheVariants as minify
use Rattle.run_module.specs.declared.error.RunError.{RunError}
use Rattle.run_module.specs.declared.error.RunError.TheVariants.{Tree, Refused, NotCore, Bad, OutOfMemory}
use Rattle.shake.specs.Line.{fault_line, large_line, ill_formed_line, bad_script_line, not_core_line, status_line}
use Rattle.shake.specs.declared.status.Status.{Status}
use Rattle.shake.specs.declared.status.Status.TheVariants as status

abbrev pub tree_status : TreeError → Status
tree_status tree.Syntax = status.Syntax
tree_status tree.OutOfMemory = status.OutOfMemory
tree_status e = status.Tree

abbrev pub minify_status : MinifyError → Status
minify_status (minify.TooLarge nodes levels) = status.TooLarge
minify_status (minify.IllFormed rule place) = status.IllFormed
minify_status minify.OutOfMemory = status.OutOfMemory

abbrev pub status_of : RunError → Status
status_of (Tree e) = tree_status e
status_of (Refused e) = minify_status e
status_of (NotCore place) = status.NotCore
status_of (Bad field) = status.BadScript
status_of OutOfMemory = status.OutOfMemory

abbrev pub tree_text : TreeError → List ℕ
tree_text tree.Syntax = status_line status.Syntax
tree_text (tree.UnknownNode kind) = fault_line (unknown_node (string_bytes kind))
tree_text (tree.BadField kind field) = fault_line (bad_field kind.now field.now)
tree_text tree.NumberOutOfRange = fault_line out_of_range
tree_text tree.OutOfMemory = status_line status.OutOfMemory

abbrev pub minify_text : MinifyError → List ℕ
minify_text (minify.TooLarge nodes levels) = large_line nodes levels
minify_text (minify.IllFormed rule place) = ill_formed_line rule place
minify_text minify.OutOfMemory = status_line status.OutOfMemory

abbrev pub refusal_text : RunError → List ℕ
refusal_text (Tree e) = tree_text e
refusal_text (Refused e) = minify_text e
refusal_text (NotCore place) = not_core_line place
refusal_text (Bad field) = bad_script_line field
refusal_text OutOfMemory = status_line status.OutOfMemory

-- the answer for an error, and its line; memory for the line may be short
abbrev pub IsAnswerTo : RunError → Status → Type 0
IsAnswerTo e s = (s ≡ status_of e) ⊎ (s ≡ status.OutOfMemory)

abbrev pub refusal_line : RunError → Status → List ℕ
refusal_line e status.OutOfMemory = status_line status.OutOfMemory
refusal_line e s = refusal_text e
