-- What JSON values say where no node of the tree stands: a node's type, texts, flags, values, names and keys.
use Rattle.std.specs.Prelude.{ℕ, suc, ◌^◌, pos, negsuc, List, [], Bool, true, false, not, Option, Some, None, is_some, Result, Ok, Err, codes, nat_lt, if◌then◌else◌}
use Rattle.std.specs.Str.{bytes_eq}
use Rattle.serde_json.specs.Data.{Num, unsigned, negative, float, Data, null, boolean, string, array, object, no_items, no_members}
use Rattle.serde_json.specs.Data as json
use Rattle.serde_json.specs.Find.{get}
use Rattle.js_syntax.specs.Name.{type_named}
use Rattle.js_syntax.specs.Word.{Words, Word, word_named}
use Rattle.js_syntax.specs.declared.value.LiteralValue.{LiteralValue as Value}
use Rattle.js_syntax.specs.declared.value.Key.{Key}
use Rattle.js_syntax.specs.declared.value.Key.TheVariants.{Name as key_name, Text as key_text, Number as key_number}
use Rattle.js_syntax.specs.declared.value.ModuleName.{ModuleName}
use Rattle.js_syntax.specs.declared.value.ModuleName.TheVariants.{Name as plain_name, Text as quoted_name}
use Rattle.js_syntax.specs.declared.value.TemplateText.{TemplateText}
use Rattle.js_syntax.specs.declared.value.RegExpText.{RegExpText}
use Rattle.js_syntax.specs.declared.value.LiteralValue.TheVariants as tree
use Rattle.js_syntax.specs.Field.{Kept, a_text, a_flag, a_value, a_word, a_mark, a_name, maybe_name, a_module_name, maybe_module_name, a_source, a_template_text, a_reg_exp_text, Reads, Check, never, constant, fixed_name, null_only, hint, unread, Keys, property_key, class_key, member_key}
use Rattle.js_syntax.specs.declared.node_type.NodeType.{NodeType}
use Rattle.js_syntax.specs.declared.node_type.NodeType.TheVariants as type
use Rattle.json_text.specs.Fault.{Fault, unknown_node, out_of_range, ◌>>=◌, fault_of, untyped}

-- ---- a node's type

abbrev pub is_object : Data → Bool
is_object (object ms) = true
is_object _ = false

abbrev pub is_object_at : Option Data → Bool
is_object_at (Some d) = is_object d
is_object_at None = false

-- a field that is there and isn't null
abbrev pub is_there : Option Data → Bool
is_there None = false
is_there (Some null) = false
is_there (Some d) = true

abbrev pub is_true_at : Option Data → Bool
is_true_at (Some (boolean b)) = b
is_true_at _ = false

abbrev pub is_this : List ℕ → Option Data → Bool
is_this s (Some (string r)) = bytes_eq r s
is_this s _ = false

abbrev pub is_text_at : Option Data → Bool
is_text_at (Some (string s)) = true
is_text_at _ = false

-- Whole numbers of arbitrary size are literals that the table doesn't have.
abbrev pub is_known : NodeType → Data → Bool
is_known type.Literal d = not (is_some (get (codes "bigint") d))
is_known _ d = true

abbrev pub known : List ℕ → Data → Option NodeType → Result NodeType Fault
known s d None = Err (unknown_node s)
known s d (Some t) = if is_known t d then Ok t else Err (unknown_node s)

abbrev pub named : Data → Option Data → Result NodeType Fault
named d (Some (string s)) = known s d (type_named s)
named d _ = Err untyped

-- `bad` is the fault of the field that the node stands in
unfoldable pub type_at : Fault → Data → Result NodeType Fault
type_at bad d = if is_object d then named d (get (codes "type") d) else Err bad

-- ---- fields that are no nodes: `bad` is the fault of the field

unfoldable pub read_text : Fault → Option Data → Result (List ℕ) Fault
read_text bad (Some (string s)) = Ok s
read_text bad _ = Err bad

unfoldable pub read_text_or_null : Fault → Option Data → Result (Option (List ℕ)) Fault
read_text_or_null bad (Some null) = Ok None
read_text_or_null bad found = read_text bad found >>= λ s. Ok (Some s)

-- a missing one is false
unfoldable pub read_flag : Fault → Option Data → Result Bool Fault
read_flag bad (Some (boolean b)) = Ok b
read_flag bad None = Ok false
read_flag bad _ = Err bad

abbrev pub some_word : {A : Type 0} → Fault → Option A → Result A Fault
some_word bad (Some w) = Ok w
some_word bad None = Err bad

unfoldable pub read_word : (w : Words) → Fault → Option Data → Result (Word w) Fault
read_word w bad (Some (string s)) = some_word bad (word_named w s)
read_word w bad _ = Err bad

-- Numbers are whole and within 2^53 - 1 in magnitude; JSON's reading of one with a fraction or an exponent is a float.
abbrev pub in_range : ℕ → Value → Result Value Fault
in_range n v = if nat_lt n (2 ^ 53) then Ok v else Err out_of_range

abbrev pub read_number : Num → Result Value Fault
read_number (unsigned n) = in_range n (tree.Number (pos n))
read_number (negative (pos n)) = in_range n (tree.Number (pos n))
read_number (negative (negsuc n)) = in_range (suc n) (tree.Number (negsuc n))
read_number (float x) = Err out_of_range

-- A null stands for a number that JSON lacks, where the source wrote something else: `raw` is what it wrote.
abbrev pub read_null : Option Data → Result Value Fault
read_null (Some (string raw)) = if bytes_eq raw (codes "null") then Ok tree.Null else Err out_of_range
read_null _ = Ok tree.Null

unfoldable pub read_value : Fault → (raw found : Option Data) → Result Value Fault
read_value bad raw (Some null) = read_null raw
read_value bad raw (Some (boolean b)) = Ok (tree.Boolean b)
read_value bad raw (Some (json.number n)) = read_number n
read_value bad raw (Some (string s)) = Ok (tree.Text s)
read_value bad raw _ = Err bad

-- ---- what every node has, whatever its type

-- a field that says more of a node than the table has: whatever it says is refused, unless it says nothing
pub data Extra : Type 0 where
  true_is_refused full_is_refused value_is_refused : Extra

abbrev pub is_empty : Data → Bool
is_empty null = true
is_empty (string []) = true
is_empty (array no_items) = true
is_empty (object no_members) = true
is_empty _ = false

abbrev pub says_nothing : Extra → Option Data → Bool
says_nothing e None = true
says_nothing true_is_refused (Some (boolean b)) = not b
says_nothing true_is_refused (Some d) = true
says_nothing full_is_refused (Some d) = is_empty d
says_nothing value_is_refused (Some null) = true
says_nothing value_is_refused (Some d) = false

unfoldable pub check_extra : Extra → Fault → Option Data → Result (Unit {0}) Fault
check_extra e bad found = if says_nothing e found then Ok tt else Err bad

-- `async`, generators, decorators and import attributes and phases aren't in the table
unfoldable pub check_extras : NodeType → Data → Result (Unit {0}) Fault
check_extras t d =
    check_extra true_is_refused (fault_of t (codes "async")) (get (codes "async") d) >>= λ _.
    check_extra true_is_refused (fault_of t (codes "generator")) (get (codes "generator") d) >>= λ _.
    check_extra true_is_refused (fault_of t (codes "await")) (get (codes "await") d) >>= λ _.
    check_extra full_is_refused (fault_of t (codes "decorators")) (get (codes "decorators") d) >>= λ _.
    check_extra full_is_refused (fault_of t (codes "attributes")) (get (codes "attributes") d) >>= λ _.
    check_extra full_is_refused (fault_of t (codes "assertions")) (get (codes "assertions") d) >>= λ _.
    check_extra full_is_refused (fault_of t (codes "options")) (get (codes "options") d) >>= λ _.
    check_extra value_is_refused (fault_of t (codes "phase")) (get (codes "phase") d)

-- ---- nodes of JSON that are no nodes of the tree

-- what a field holds by the type of the node there; the same, or null
unfoldable pub read_typed : {A : Type 0} → (Data → NodeType → Result A Fault) → Fault → Option Data → Result A Fault
read_typed here bad None = Err bad
read_typed here bad (Some d) = type_at bad d >>= here d

unfoldable pub read_or_null : {A : Type 0} → (Option Data → Result A Fault) → Option Data → Result (Option A) Fault
read_or_null one None = Ok None
read_or_null one (Some null) = Ok None
read_or_null one (Some d) = one (Some d) >>= λ x. Ok (Some x)

-- a name: that of an Identifier
abbrev pub read_identifier_name : Data → Result (List ℕ) Fault
read_identifier_name d = read_text (fault_of type.Identifier (codes "name")) (get (codes "name") d) >>= λ s. check_extras type.Identifier d >>= λ _. Ok s

-- the text of a Literal that is no regular expression
abbrev pub read_text_literal : Fault → Data → Result (List ℕ) Fault
read_text_literal bad d = (if is_object_at (get (codes "regex") d) then Err bad else read_text bad (get (codes "value") d)) >>= λ s. check_extras type.Literal d >>= λ _. Ok s

abbrev pub name_here : Fault → Data → NodeType → Result (List ℕ) Fault
name_here bad d type.Identifier = read_identifier_name d
name_here bad d _ = Err bad

abbrev pub source_here : Fault → Data → NodeType → Result (List ℕ) Fault
source_here bad d type.Literal = read_text_literal bad d
source_here bad d _ = Err bad

abbrev pub module_name_here : Fault → Data → NodeType → Result ModuleName Fault
module_name_here bad d type.Identifier = read_identifier_name d >>= λ s. Ok (plain_name s)
module_name_here bad d type.Literal = read_text_literal bad d >>= λ s. Ok (quoted_name s)
module_name_here bad d _ = Err bad

unfoldable pub read_name : Fault → Option Data → Result (List ℕ) Fault
read_name bad = read_typed (name_here bad) bad

unfoldable pub read_source : Fault → Option Data → Result (List ℕ) Fault
read_source bad = read_typed (source_here bad) bad

unfoldable pub read_module_name : Fault → Option Data → Result ModuleName Fault
read_module_name bad = read_typed (module_name_here bad) bad

-- ---- keys that are no nodes of the tree

abbrev pub takes_literal : Keys → Bool
takes_literal property_key = true
takes_literal class_key = true
takes_literal member_key = false

abbrev pub takes_private : Keys → Bool
takes_private property_key = false
takes_private class_key = true
takes_private member_key = true

unfoldable pub read_identifier : Data → Result Key Fault
read_identifier d = read_identifier_name d >>= λ s. Ok (key_name s)

-- a text, or a number that isn't negative
abbrev pub key_of : Fault → Value → Result Key Fault
key_of bad (tree.Text s) = Ok (key_text s)
key_of bad (tree.Number (pos n)) = Ok (key_number n)
key_of bad _ = Err bad

abbrev pub literal_value : Data → Result Value Fault
literal_value d = read_value (fault_of type.Literal (codes "value")) (get (codes "raw") d) (get (codes "value") d)

unfoldable pub read_literal_key : Fault → Data → Result Key Fault
read_literal_key bad d = if is_object_at (get (codes "regex") d) then Err bad else (literal_value d >>= λ v. key_of bad v >>= λ k. check_extras type.Literal d >>= λ _. Ok k)

-- ---- fields that hold several texts

unfoldable pub read_template_text : Fault → Option Data → Result TemplateText Fault
read_template_text bad None = Err bad
read_template_text bad (Some d) = read_text bad (get (codes "raw") d) >>= λ r. read_text_or_null bad (get (codes "cooked") d) >>= λ c. Ok (record { raw = r; cooked = c })

unfoldable pub read_reg_exp_text : Fault → Option Data → Result RegExpText Fault
read_reg_exp_text bad None = Err bad
read_reg_exp_text bad (Some d) = read_text bad (get (codes "pattern") d) >>= λ p. read_text bad (get (codes "flags") d) >>= λ f. Ok (record { pattern = p; flags = f })

-- ---- by the table

-- what the kind keeps of a field
abbrev pub read_kept : (k : Kept) → NodeType → (name : List ℕ) → Data → Result (Reads k) Fault
read_kept a_text t name d = read_text (fault_of t name) (get name d)
read_kept a_flag t name d = read_flag (fault_of t name) (get name d)
read_kept a_value t name d = read_value (fault_of t name) (get (codes "raw") d) (get name d)
read_kept (a_word w) t name d = read_word w (fault_of t name) (get name d)
read_kept a_mark t name d = Ok (is_true_at (get name d))
read_kept a_name t name d = read_name (fault_of t name) (get name d)
read_kept maybe_name t name d = read_or_null (read_name (fault_of t name)) (get name d)
read_kept a_module_name t name d = read_module_name (fault_of t name) (get name d)
read_kept maybe_module_name t name d = read_or_null (read_module_name (fault_of t name)) (get name d)
read_kept a_source t name d = read_source (fault_of t name) (get name d)
read_kept a_template_text t name d = read_template_text (fault_of t name) (get name d)
read_kept a_reg_exp_text t name d = read_reg_exp_text (fault_of t name) (get name d)

abbrev pub only_if : Bool → Fault → Result (Unit {0}) Fault
only_if holds bad = if holds then Ok tt else Err bad

abbrev pub read_null_only : Fault → Option Data → Result (Unit {0}) Fault
read_null_only bad None = Ok tt
read_null_only bad (Some null) = Ok tt
read_null_only bad (Some d) = type_at bad d >>= λ _. Err bad

-- that a field says what it may
unfoldable pub read_check : Check → Fault → Option Data → Result (Unit {0}) Fault
read_check never bad found = read_flag bad found >>= λ b. only_if (not b) bad
read_check (constant s) bad found = only_if (is_this s found) bad
read_check (fixed_name s) bad found = read_name bad found >>= λ r. only_if (bytes_eq r s) bad
read_check null_only bad found = read_null_only bad found
read_check (hint h) bad found = read_flag bad found >>= λ _. Ok tt
read_check (unread s) bad found = Ok tt
