-- What the program says on standard error.
use Rattle.std.specs.Prelude.{◌≡◌, ◌⊎◌, ◌&&◌, ◌||◌, ◌==◌, ℕ, List, [], ◌∷◌, ◌++◌, flat_map, Bool, nat_le, nat_lt, Option, Some, codes, decimal, min, ◌+◌, if◌then◌else◌}
use Rattle.shake_streams.specs.Moves.{HasFailed, Known, SendsFront}
use Rattle.json_text.specs.Fault.{Fault, too_deep, unknown_node, bad_field, out_of_range}
use Rattle.run_script.specs.Field.{field_name}
use Rattle.run_script.specs.declared.fault.Field.{Field}
use Rattle.js_syntax.specs.Node.{Forest}
use Rattle.js_tree.specs.Count.{node_count, levels}
use Rattle.form_rules.specs.declared.rule.Break.{Break}
use Rattle.form_rules.specs.Form.{first_broken}
use Rattle.min_driver.specs.Limit.{max_nodes, max_levels}
use Rattle.shake.specs.declared.status.Status.{Status}
use Rattle.shake.specs.declared.status.Status.TheVariants as status

-- an ASCII letter or digit, or `_`
abbrev pub is_word_byte : ℕ → Bool
is_word_byte b = (nat_le 97 b && nat_le b 122) || (nat_le 65 b && nat_le b 90) || (nat_le 48 b && nat_le b 57) || b == 95

-- a byte of UTF-8 that begins no character
abbrev pub is_continuation : ℕ → Bool
is_continuation b = nat_le 128 b && nat_lt b 192

-- what stands for a byte: nothing, or the one character that begins with it, as `?` where it is no part of a word
abbrev pub shown_byte : ℕ → List ℕ
shown_byte b = if is_continuation b then [] else (if is_word_byte b then b ∷ [] else 63 ∷ [])

abbrev pub shown : List ℕ → List ℕ
shown = flat_map shown_byte

abbrev pub fault_line : Fault → List ℕ
fault_line (unknown_node kind) = codes "shake: unknown node " ++ (shown kind ++ codes "\n")
fault_line (bad_field kind field) = codes "shake: bad field " ++ (field ++ (codes " in " ++ (kind ++ codes "\n")))
fault_line out_of_range = codes "shake: number out of range\n"
fault_line too_deep = []

abbrev pub status_line : Status → List ℕ
status_line status.Ok = []
status_line status.Usage = codes "shake: usage: shake dce [--tree-only], or shake run\n"
status_line status.ReadFault = codes "shake: read fault\n"
status_line status.InputTooLong = codes "shake: input too long\n"
status_line status.Syntax = codes "shake: not JSON\n"
status_line status.Tree = []
status_line status.TooLarge = []
status_line status.IllFormed = []
status_line status.WriteFault = codes "shake: write fault\n"
status_line status.OutOfMemory = codes "shake: out of memory\n"
status_line status.BadScript = []
status_line status.NotCore = []

-- both counts, each capped one past its limit
abbrev pub large_line : (nodes levels : ℕ) → List ℕ
large_line nodes levels = codes "shake: too large: nodes " ++ (decimal nodes ++ (codes " levels " ++ (decimal levels ++ codes "\n")))

abbrev pub too_large_line : Forest → List ℕ
too_large_line t = large_line (min (node_count t) (max_nodes + 1)) (min (levels t) (max_levels + 1))

-- the rule and the place of the first break
abbrev pub ill_formed_line : (rule place : ℕ) → List ℕ
ill_formed_line rule place = codes "shake: ill formed: rule " ++ (decimal rule ++ (codes " at " ++ (decimal place ++ codes "\n")))

abbrev pub IsBreakLine : Forest → List ℕ → Type 0
IsBreakLine t line = (b : Break) × (first_broken t ≡ Some b) × (line ≡ ill_formed_line b.rule b.place)

-- the field of an input that is at fault
abbrev pub bad_script_line : Field → List ℕ
bad_script_line f = codes "shake: bad script: " ++ (field_name f ++ codes "\n")

-- the least place of a node that is not of the core
abbrev pub not_core_line : (place : ℕ) → List ℕ
not_core_line place = codes "shake: not core: place " ++ (decimal place ++ codes "\n")

-- a line went out, or a front of it where a fault came
abbrev pub Says : (List ℕ → Type 0) → (written now : Option (List ℕ)) → (faults later : ℕ) → Type 0
Says IsLine written now faults later = (line : List ℕ) × IsLine line × SendsFront line written now × (HasFailed faults later ⊎ Known (λ w. w ++ line) written now)
