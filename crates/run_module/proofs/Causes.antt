-- From errors of parts to those of the whole.
use Rattle.std.proofs.Common.{◌≡◌, ◌≤◌, ℕ, max, List, Option, Some, None, Result, Ok, Err, IfErr, codes, sym, ◌∙◌, subst, arith}
use Rattle.std.specs.Ordering.{nat_cmp, match_ordering}
use Rattle.std.specs.Cmp.Lexicographic.{slice_cmp}
use Rattle.std.specs.declared.cmp.Ordering.{Ordering}
use Rattle.serde_json.specs.Data.{Data, null, boolean, number, string, array, object, Members, no_members, member, depth, members_depth}
use Rattle.serde_json.specs.Find.{get, get_member}
use Rattle.serde_json.specs.Read.{max_depth}
use Rattle.js_syntax.specs.Class.{root}
use Rattle.js_syntax.specs.Node.{Forest, forest_of}
use Rattle.js_meaning.specs.Trace.{Move}
use Rattle.json_text.specs.Answer.{Gives}
use Rattle.json_text.specs.Fault.{Fault, too_deep, untyped}
use Rattle.json_text.specs.Reading.{read_program}
use Rattle.json_text.specs.declared.error.TreeError.{TreeError}
use Rattle.json_text.specs.declared.error.TreeError.TheVariants as tree
use Rattle.json_text.proofs.Levels.{node_ends}
use Rattle.json_text.proofs.Plain.{untyped_is_no_level}
use Rattle.run_script.specs.Field.{◌>>=◌, or_fault}
use Rattle.run_script.specs.Script.{Global, an_input, member_in, object_in, globals_in, moves_in, bound_in, read_script}
use Rattle.run_script.specs.declared.fault.Field.{Field}
use Rattle.run_script.specs.declared.fault.Field.TheVariants as field
use Rattle.run_module.specs.Running.{IsJson, HasProgram, HasRuns}
use Rattle.run_script.specs.Answer as script
use Rattle.run_script.specs.declared.fault.ScriptError.{ScriptError}
use Rattle.run_script.specs.declared.fault.ScriptError.TheVariants as fault
use Rattle.run_module.specs.Answer.{IsBad, IsTreeFault, Fails, IsCauseOf, script_fault}
use Rattle.run_module.specs.declared.error.RunError.{RunError}
use Rattle.run_module.specs.declared.error.RunError.TheVariants.{Tree, Refused, NotCore, Bad, OutOfMemory}

-- what reading the field answers
pub tree_fault : (e : TreeError) (d m : Data) → get (codes "program") d ≡ Some m → Gives forest_of (Err e) (read_program m) → IsTreeFault e d
tree_fault tree.Syntax d m at h = (m, at, h)
tree_fault (tree.UnknownNode kind) d m at h = (m, at, h)
tree_fault (tree.BadField kind name) d m at h = (m, at, h)
tree_fault tree.NumberOutOfRange d m at h = (m, at, h)
tree_fault tree.OutOfMemory d m at h = tt

-- ---- a field nests no deeper than its value

by_order : (o : Ordering) (l m g : Option Data) (d : Data) → match_ordering o l m g ≡ Some d → (n : ℕ) → (l ≡ Some d → depth d ≤ n) → (m ≡ Some d → depth d ≤ n) → (g ≡ Some d → depth d ≤ n) → depth d ≤ n
by_order Ordering.Less l m g d h n a b c = a h
by_order Ordering.Equal l m g d h n a b c = b h
by_order Ordering.Greater l m g d h n a b c = c h

shallow : (e d : Data) → Some e ≡ Some d → (n : ℕ) → depth e ≤ n → depth d ≤ n
shallow e d h n le = subst (λ x. depth x ≤ n) (cc h) le

in_members : (k : List ℕ) (ms : Members) (d : Data) → get_member k ms ≡ Some d → depth d ≤ members_depth ms
in_members k no_members d h = absurd (cc h)
in_members k (member l e ms) d h =
    by_order (slice_cmp nat_cmp k l) (get_member k ms) (Some e) (get_member k ms) d h (max (depth e) (members_depth ms))
    (λ g. omega (arith, in_members k ms d g)) (λ g. shallow e d g (max (depth e) (members_depth ms)) (omega arith)) (λ g. omega (arith, in_members k ms d g))

field_depth : (k : List ℕ) (d m : Data) → get k d ≡ Some m → depth m ≤ depth d
field_depth k null m h = absurd (cc h)
field_depth k (boolean b) m h = absurd (cc h)
field_depth k (number n) m h = absurd (cc h)
field_depth k (string s) m h = absurd (cc h)
field_depth k (array ds) m h = absurd (cc h)
field_depth k (object ms) m h = omega (arith, in_members k ms m h)

-- so a value that JSON's limit lets in is never refused for its levels
never_too_deep : (d : Data) → depth d ≤ max_depth → HasProgram d (Err too_deep) → ⊥
never_too_deep d within (m, at, deep) = node_ends 128 root untyped m (omega (arith, field_depth (codes "program") d m at, within)) untyped_is_no_level deep

-- ---- of bytes

pub causes : (e : RunError) (bytes : List ℕ) (d : Data) → IsJson bytes d → depth d ≤ max_depth → Fails e d → IsCauseOf e bytes
causes (Tree tree.Syntax) bytes d is within h = absurd (never_too_deep d within h)
causes (Tree (tree.UnknownNode kind)) bytes d is within h = (d, is, h)
causes (Tree (tree.BadField kind name)) bytes d is within h = (d, is, h)
causes (Tree tree.NumberOutOfRange) bytes d is within h = (d, is, h)
causes (Tree tree.OutOfMemory) bytes d is within h = tt
causes (Refused e) bytes d is within h = (d, is, h)
causes (NotCore place) bytes d is within h = (d, is, h)
causes (Bad f) bytes d is within h = (d, is, h)
causes OutOfMemory bytes d is within h = tt

pub all_causes : {A : Type 0} (r : Result A RunError) (bytes : List ℕ) (d : Data) → IsJson bytes d → depth d ≤ max_depth → IfErr r (λ e. Fails e d) → IfErr r (λ e. IsCauseOf e bytes)
all_causes (Ok x) bytes d is within h = tt
all_causes (Err e) bytes d is within h = causes e bytes d is within h

-- bytes hold one value, so what one reader finds in it the other does
pub same_value : (bytes : List ℕ) (d e : Data) (outcome : Result Forest Fault) → IsJson bytes d → IsJson bytes e → HasProgram d outcome → HasProgram e outcome
same_value bytes d e outcome one other has = let same : d ≡ e = cc (sym one.1 ∙ other.1) in subst (λ x. HasProgram x outcome) same has

-- ---- a script is never at fault for its program

last_not : (gs : List Global) (ms : List Move) (w : Option ℕ) → (or_fault field.Bound w >>= λ n. Ok (an_input gs ms n)) ≡ Err field.Program → ⊥
last_not gs ms None h = absurd (cc h)
last_not gs ms (Some n) h = absurd (cc h)

moves_not : (gs : List Global) (z : Option (List Move)) (w : Option ℕ) → (or_fault field.Moves z >>= λ ms. or_fault field.Bound w >>= λ n. Ok (an_input gs ms n)) ≡ Err field.Program → ⊥
moves_not gs None w h = absurd (cc h)
moves_not gs (Some ms) w h = last_not gs ms w h

globals_not : (y : Option (List Global)) (z : Option (List Move)) (w : Option ℕ) → (or_fault field.Globals y >>= λ gs. or_fault field.Moves z >>= λ ms. or_fault field.Bound w >>= λ n. Ok (an_input gs ms n)) ≡ Err field.Program → ⊥
globals_not None z w h = absurd (cc h)
globals_not (Some gs) z w h = moves_not gs z w h

script_not : (x : Option Data) (y : Data → Option (List Global)) (z : Data → Option (List Move)) (w : Option ℕ)
    → (or_fault field.Script x >>= λ s. or_fault field.Globals (y s) >>= λ gs. or_fault field.Moves (z s) >>= λ ms. or_fault field.Bound w >>= λ n. Ok (an_input gs ms n)) ≡ Err field.Program → ⊥
script_not None y z w h = absurd (cc h)
script_not (Some s) y z w h = globals_not (y s) (z s) w h

not_program : (d : Data) → read_script d ≡ Err field.Program → ⊥
unfolding read_script
not_program d h =
    script_not (member_in (codes "script") object_in d) (λ s. member_in (codes "globals") globals_in s) (λ s. member_in (codes "moves") moves_in s) (member_in (codes "n") bound_in d) h

bad_field : (f : Field) (d : Data) (t : Forest) → HasProgram d (Ok t) → HasRuns t → read_script d ≡ Err f → IsBad f d
bad_field field.Program d t has runs h = absurd (not_program d h)
bad_field field.Script d t has runs h = (t, has, runs, h)
bad_field field.Globals d t has runs h = (t, has, runs, h)
bad_field field.Moves d t has runs h = (t, has, runs, h)
bad_field field.Bound d t has runs h = (t, has, runs, h)

pub script_fails : (e : ScriptError) (d : Data) (t : Forest) → HasProgram d (Ok t) → HasRuns t → script.Fails e (read_script d) → Fails (script_fault e) d
script_fails (fault.Bad f) d t has runs h = bad_field f d t has runs h
script_fails fault.OutOfMemory d t has runs h = tt
