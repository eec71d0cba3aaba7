-- What stands within a value of JSON nests less, and reading what is no node of the tree never runs out of levels.
use Rattle.std.proofs.Common.{◌≡◌, ◌≢◌, ℕ, suc, max, pos, negsuc, ◌<◌, ◌≤◌, List, Bool, true, false, not, Option, Some, None, Result, Ok, Err, Ordering, Less, Equal, Greater, if◌then◌else◌, codes, nat_lt, refl, arith}
use Rattle.std.specs.Str.{bytes_eq}
use Rattle.std.specs.Ordering.{nat_cmp, match_ordering}
use Rattle.std.specs.Cmp.Lexicographic.{slice_cmp}
use Rattle.serde_json.specs.Data.{Num, unsigned, negative, float, Data, null, boolean, string, array, object, Members, no_members, member, depth, members_depth}
use Rattle.serde_json.specs.Data as json
use Rattle.serde_json.specs.Find.{get, get_member}
use Rattle.js_syntax.specs.Name.{type_named}
use Rattle.js_syntax.specs.Word.{Words, word_named}
use Rattle.js_syntax.specs.declared.value.LiteralValue.{LiteralValue as Value}
use Rattle.js_syntax.specs.declared.value.LiteralValue.TheVariants as tree
use Rattle.js_syntax.specs.Field.{Kept, a_text, a_flag, a_value, a_word, a_mark, a_name, maybe_name, a_module_name, maybe_module_name, a_source, a_template_text, a_reg_exp_text, Check, never, constant, fixed_name, null_only, hint, unread}
use Rattle.js_syntax.specs.declared.node_type.NodeType.{NodeType}
use Rattle.js_syntax.specs.declared.node_type.NodeType.TheVariants as type
use Rattle.json_text.specs.Fault.{Fault, too_deep, unknown_node, bad_field, out_of_range, ◌>>=◌, untyped}
use Rattle.json_text.specs.Plain.{is_object, is_object_at, is_known, is_this, known, named, type_at, read_text, read_text_or_null, read_flag, some_word, read_word, read_number, read_null, read_value, Extra, says_nothing, check_extra, check_extras, read_typed, read_or_null, read_identifier_name, read_text_literal, name_here, source_here, module_name_here, read_name, read_source, read_module_name, read_identifier, key_of, read_literal_key, read_template_text, read_reg_exp_text, read_kept, only_if, read_null_only, read_check}

-- ---- what stands within a value nests less

picked : (o : Ordering) (rest : Option Data) (x e : Data) (n : ℕ) → (rest ≡ Some e → depth e ≤ n) → match_ordering o rest (Some x) rest ≡ Some e → depth e ≤ max (depth x) n
picked Less rest x e n within h = omega (arith, within h)
picked Greater rest x e n within h = omega (arith, within h)
picked Equal rest x e n within h = let same : x ≡ e = cc in rw same (omega arith)

member_depth : (name : List ℕ) (ms : Members) (e : Data) → get_member name ms ≡ Some e → depth e ≤ members_depth ms
member_depth name no_members e h = absurd cc
member_depth name (member k x ms) e h = picked (slice_cmp nat_cmp name k) (get_member name ms) x e (members_depth ms) (member_depth name ms e) h

pub get_depth : (name : List ℕ) (d e : Data) → get name d ≡ Some e → depth e < depth d
get_depth name null e h = absurd cc
get_depth name (boolean b) e h = absurd cc
get_depth name (json.number n) e h = absurd cc
get_depth name (string s) e h = absurd cc
get_depth name (array ds) e h = absurd cc
get_depth name (object ms) e h = omega (arith, member_depth name ms e h)

-- ---- step by step

pub bound : {A B : Type 0} (r : Result A Fault) (f : A → Result B Fault) → r ≢ Err too_deep → ((x : A) → f x ≢ Err too_deep) → (r >>= f) ≢ Err too_deep
bound (Ok x) f first next h = next x h
bound (Err e) f first next h = first (let same : e ≡ too_deep = cc in rw same refl)

either : {A : Type 0} (b : Bool) (x : A) (bad : Fault) → bad ≢ too_deep → (if b then Ok x else Err bad) ≢ Err too_deep
either true x bad ne h = cc
either false x bad ne h = ne cc

pub chosen : {A : Type 0} (b : Bool) (x y : Result A Fault) → x ≢ Err too_deep → y ≢ Err too_deep → (if b then x else y) ≢ Err too_deep
chosen true x y hx hy = hx
chosen false x y hx hy = hy

-- ---- plain fields

text_ends : (bad : Fault) (found : Option Data) → bad ≢ too_deep → read_text bad found ≢ Err too_deep
unfolding read_text
text_ends bad (Some (string s)) ne h = cc
text_ends bad other ne h = ne cc

flag_ends : (bad : Fault) (found : Option Data) → bad ≢ too_deep → read_flag bad found ≢ Err too_deep
unfolding read_flag
flag_ends bad (Some (boolean b)) ne h = cc
flag_ends bad None ne h = cc
flag_ends bad other ne h = ne cc

some_ends : {A : Type 0} (bad : Fault) (w : Option A) → bad ≢ too_deep → some_word bad w ≢ Err too_deep
some_ends bad (Some w) ne h = cc
some_ends bad None ne h = ne cc

word_ends : (w : Words) (bad : Fault) (found : Option Data) → bad ≢ too_deep → read_word w bad found ≢ Err too_deep
unfolding read_word
word_ends w bad (Some (string s)) ne h = some_ends bad (word_named w s) ne h
word_ends w bad other ne h = ne cc

range_is_no_level : out_of_range ≢ too_deep
range_is_no_level h = cc

pub field_is_no_level : (kind name : List ℕ) → bad_field kind name ≢ too_deep
field_is_no_level kind name h = cc

pub untyped_is_no_level : untyped ≢ too_deep
untyped_is_no_level h = cc

unknown_is_no_level : (name : List ℕ) → unknown_node name ≢ too_deep
unknown_is_no_level name h = cc

number_ends : (n : Num) → read_number n ≢ Err too_deep
number_ends (unsigned n) = either (nat_lt n 9007199254740992) _ out_of_range range_is_no_level
number_ends (negative (pos n)) = either (nat_lt n 9007199254740992) _ out_of_range range_is_no_level
number_ends (negative (negsuc n)) = either (nat_lt (suc n) 9007199254740992) _ out_of_range range_is_no_level
number_ends (float x) = λ h. cc

null_ends : (raw : Option Data) → read_null raw ≢ Err too_deep
null_ends (Some (string s)) = either (bytes_eq s (codes "null")) _ out_of_range range_is_no_level
null_ends other = λ h. cc

value_ends : (bad : Fault) (raw found : Option Data) → bad ≢ too_deep → read_value bad raw found ≢ Err too_deep
unfolding read_value
value_ends bad raw (Some null) ne h = null_ends raw h
value_ends bad raw (Some (boolean b)) ne h = cc
value_ends bad raw (Some (json.number n)) ne h = number_ends n h
value_ends bad raw (Some (string s)) ne h = cc
value_ends bad raw other ne h = ne cc

known_ends : (s : List ℕ) (d : Data) (t : Option NodeType) → known s d t ≢ Err too_deep
known_ends s d None = λ h. cc
known_ends s d (Some t) = either (is_known t d) t (unknown_node s) (unknown_is_no_level s)

named_ends : (d : Data) (found : Option Data) → named d found ≢ Err too_deep
named_ends d (Some (string s)) = known_ends s d (type_named s)
named_ends d other = λ h. cc

pub type_ends : (bad : Fault) (d : Data) → bad ≢ too_deep → type_at bad d ≢ Err too_deep
unfolding type_at
type_ends bad d ne = chosen (is_object d) (named d (get (codes "type") d)) (Err bad) (named_ends d (get (codes "type") d)) (λ h. ne cc)

extra_ends : (e : Extra) (bad : Fault) (found : Option Data) → bad ≢ too_deep → check_extra e bad found ≢ Err too_deep
unfolding check_extra
extra_ends e bad found ne = either (says_nothing e found) tt bad ne

pub extras_end : (t : NodeType) (d : Data) → check_extras t d ≢ Err too_deep
unfolding check_extras
extras_end t d =
    bound _ _ (extra_ends _ _ _ (field_is_no_level _ _)) (λ _.
    bound _ _ (extra_ends _ _ _ (field_is_no_level _ _)) (λ _.
    bound _ _ (extra_ends _ _ _ (field_is_no_level _ _)) (λ _.
    bound _ _ (extra_ends _ _ _ (field_is_no_level _ _)) (λ _.
    bound _ _ (extra_ends _ _ _ (field_is_no_level _ _)) (λ _.
    bound _ _ (extra_ends _ _ _ (field_is_no_level _ _)) (λ _.
    bound _ _ (extra_ends _ _ _ (field_is_no_level _ _)) (λ _.
    extra_ends _ _ _ (field_is_no_level _ _))))))))

-- ---- nodes of JSON that are no nodes of the tree

text_or_null_ends : (bad : Fault) (found : Option Data) → bad ≢ too_deep → read_text_or_null bad found ≢ Err too_deep
unfolding read_text_or_null
text_or_null_ends bad (Some null) ne = λ h. cc
text_or_null_ends bad None ne = bound _ _ (text_ends bad None ne) (λ s h. cc)
text_or_null_ends bad (Some (boolean b)) ne = bound _ _ (text_ends bad (Some (boolean b)) ne) (λ s h. cc)
text_or_null_ends bad (Some (json.number n)) ne = bound _ _ (text_ends bad (Some (json.number n)) ne) (λ s h. cc)
text_or_null_ends bad (Some (string s)) ne = bound _ _ (text_ends bad (Some (string s)) ne) (λ s h. cc)
text_or_null_ends bad (Some (array ds)) ne = bound _ _ (text_ends bad (Some (array ds)) ne) (λ s h. cc)
text_or_null_ends bad (Some (object ms)) ne = bound _ _ (text_ends bad (Some (object ms)) ne) (λ s h. cc)

typed_ends : {A : Type 0} (here : Data → NodeType → Result A Fault) (bad : Fault) (found : Option Data) → bad ≢ too_deep → ((d : Data) (t : NodeType) → here d t ≢ Err too_deep) → read_typed here bad found ≢ Err too_deep
unfolding read_typed
typed_ends here bad None ne all = λ h. ne cc
typed_ends here bad (Some d) ne all = bound _ _ (type_ends bad d ne) (λ t. all d t)

or_null_ends : {A : Type 0} (one : Option Data → Result A Fault) (found : Option Data) → ((d : Option Data) → one d ≢ Err too_deep) → read_or_null one found ≢ Err too_deep
unfolding read_or_null
or_null_ends one None all = λ h. cc
or_null_ends one (Some null) all = λ h. cc
or_null_ends one (Some (boolean b)) all = bound _ _ (all (Some (boolean b))) (λ x h. cc)
or_null_ends one (Some (json.number n)) all = bound _ _ (all (Some (json.number n))) (λ x h. cc)
or_null_ends one (Some (string s)) all = bound _ _ (all (Some (string s))) (λ x h. cc)
or_null_ends one (Some (array ds)) all = bound _ _ (all (Some (array ds))) (λ x h. cc)
or_null_ends one (Some (object ms)) all = bound _ _ (all (Some (object ms))) (λ x h. cc)

-- what is read and then what every node has
checked : {A : Type 0} (t : NodeType) (d : Data) (r : Result A Fault) → r ≢ Err too_deep → (r >>= λ x. check_extras t d >>= λ _. Ok x) ≢ Err too_deep
checked t d r ne = bound r _ ne (λ x. bound _ _ (extras_end t d) (λ _ h. cc))

refused : {A : Type 0} (bad : Fault) → bad ≢ too_deep → ◌≢◌ {A = Result A Fault} (Err bad) (Err too_deep)
refused bad ne h = ne cc

identifier_name_ends : (d : Data) → read_identifier_name d ≢ Err too_deep
identifier_name_ends d = checked _ d _ (text_ends _ _ (field_is_no_level _ _))

text_literal_ends : (bad : Fault) (d : Data) → bad ≢ too_deep → read_text_literal bad d ≢ Err too_deep
text_literal_ends bad d ne = checked _ d _ (chosen (is_object_at (get (codes "regex") d)) _ _ (refused bad ne) (text_ends bad _ ne))

name_here_ends : (bad : Fault) (d : Data) (t : NodeType) → bad ≢ too_deep → name_here bad d t ≢ Err too_deep
name_here_ends bad d type.Identifier ne = identifier_name_ends d
name_here_ends bad d t ne = refused bad ne

source_here_ends : (bad : Fault) (d : Data) (t : NodeType) → bad ≢ too_deep → source_here bad d t ≢ Err too_deep
source_here_ends bad d type.Literal ne = text_literal_ends bad d ne
source_here_ends bad d t ne = refused bad ne

module_name_here_ends : (bad : Fault) (d : Data) (t : NodeType) → bad ≢ too_deep → module_name_here bad d t ≢ Err too_deep
module_name_here_ends bad d type.Identifier ne = bound _ _ (identifier_name_ends d) (λ s h. cc)
module_name_here_ends bad d type.Literal ne = bound _ _ (text_literal_ends bad d ne) (λ s h. cc)
module_name_here_ends bad d t ne = refused bad ne

name_ends : (bad : Fault) (found : Option Data) → bad ≢ too_deep → read_name bad found ≢ Err too_deep
unfolding read_name
name_ends bad found ne = typed_ends _ bad found ne (λ d t. name_here_ends bad d t ne)

source_ends : (bad : Fault) (found : Option Data) → bad ≢ too_deep → read_source bad found ≢ Err too_deep
unfolding read_source
source_ends bad found ne = typed_ends _ bad found ne (λ d t. source_here_ends bad d t ne)

module_name_ends : (bad : Fault) (found : Option Data) → bad ≢ too_deep → read_module_name bad found ≢ Err too_deep
unfolding read_module_name
module_name_ends bad found ne = typed_ends _ bad found ne (λ d t. module_name_here_ends bad d t ne)

-- ---- keys, and fields that hold several texts

pub identifier_ends : (d : Data) → read_identifier d ≢ Err too_deep
unfolding read_identifier
identifier_ends d = bound _ _ (identifier_name_ends d) (λ s h. cc)

key_of_ends : (bad : Fault) (v : Value) → bad ≢ too_deep → key_of bad v ≢ Err too_deep
key_of_ends bad (tree.Text s) ne = λ h. cc
key_of_ends bad (tree.Number (pos n)) ne = λ h. cc
key_of_ends bad (tree.Number (negsuc n)) ne = refused bad ne
key_of_ends bad tree.Null ne = refused bad ne
key_of_ends bad (tree.Boolean b) ne = refused bad ne

pub literal_key_ends : (bad : Fault) (d : Data) → bad ≢ too_deep → read_literal_key bad d ≢ Err too_deep
unfolding read_literal_key
literal_key_ends bad d ne =
    chosen (is_object_at (get (codes "regex") d)) _ _ (refused bad ne)
    (bound _ _ (value_ends _ _ _ (field_is_no_level _ _)) (λ v. checked _ d _ (key_of_ends bad v ne)))

template_ends : (bad : Fault) (found : Option Data) → bad ≢ too_deep → read_template_text bad found ≢ Err too_deep
unfolding read_template_text
template_ends bad None ne = refused bad ne
template_ends bad (Some d) ne = bound _ _ (text_ends bad _ ne) (λ r. bound _ _ (text_or_null_ends bad _ ne) (λ c h. cc))

reg_exp_ends : (bad : Fault) (found : Option Data) → bad ≢ too_deep → read_reg_exp_text bad found ≢ Err too_deep
unfolding read_reg_exp_text
reg_exp_ends bad None ne = refused bad ne
reg_exp_ends bad (Some d) ne = bound _ _ (text_ends bad _ ne) (λ p. bound _ _ (text_ends bad _ ne) (λ f h. cc))

-- ---- by the table

pub kept_ends : (k : Kept) (t : NodeType) (name : List ℕ) (d : Data) → read_kept k t name d ≢ Err too_deep
kept_ends a_text t name d = text_ends _ (get name d) (field_is_no_level _ _)
kept_ends a_flag t name d = flag_ends _ (get name d) (field_is_no_level _ _)
kept_ends a_value t name d = value_ends _ (get (codes "raw") d) (get name d) (field_is_no_level _ _)
kept_ends (a_word w) t name d = word_ends w _ (get name d) (field_is_no_level _ _)
kept_ends a_mark t name d = λ h. cc
kept_ends a_name t name d = name_ends _ (get name d) (field_is_no_level _ _)
kept_ends maybe_name t name d = or_null_ends _ (get name d) (λ e. name_ends _ e (field_is_no_level _ _))
kept_ends a_module_name t name d = module_name_ends _ (get name d) (field_is_no_level _ _)
kept_ends maybe_module_name t name d = or_null_ends _ (get name d) (λ e. module_name_ends _ e (field_is_no_level _ _))
kept_ends a_source t name d = source_ends _ (get name d) (field_is_no_level _ _)
kept_ends a_template_text t name d = template_ends _ (get name d) (field_is_no_level _ _)
kept_ends a_reg_exp_text t name d = reg_exp_ends _ (get name d) (field_is_no_level _ _)

only_if_ends : (holds : Bool) (bad : Fault) → bad ≢ too_deep → only_if holds bad ≢ Err too_deep
only_if_ends holds bad ne = either holds tt bad ne

null_only_ends : (bad : Fault) (found : Option Data) → bad ≢ too_deep → read_null_only bad found ≢ Err too_deep
null_only_ends bad None ne = λ h. cc
null_only_ends bad (Some null) ne = λ h. cc
null_only_ends bad (Some (boolean b)) ne = bound _ _ (type_ends bad (boolean b) ne) (λ _. refused bad ne)
null_only_ends bad (Some (json.number n)) ne = bound _ _ (type_ends bad (json.number n) ne) (λ _. refused bad ne)
null_only_ends bad (Some (string s)) ne = bound _ _ (type_ends bad (string s) ne) (λ _. refused bad ne)
null_only_ends bad (Some (array ds)) ne = bound _ _ (type_ends bad (array ds) ne) (λ _. refused bad ne)
null_only_ends bad (Some (object ms)) ne = bound _ _ (type_ends bad (object ms) ne) (λ _. refused bad ne)

pub check_ends : (c : Check) (bad : Fault) (found : Option Data) → bad ≢ too_deep → read_check c bad found ≢ Err too_deep
unfolding read_check
check_ends never bad found ne = bound _ _ (flag_ends bad found ne) (λ b. only_if_ends (not b) bad ne)
check_ends (constant s) bad found ne = only_if_ends (is_this s found) bad ne
check_ends (fixed_name s) bad found ne = bound _ _ (name_ends bad found ne) (λ r. only_if_ends (bytes_eq r s) bad ne)
check_ends null_only bad found ne = null_only_ends bad found ne
check_ends (hint h) bad found ne = bound _ _ (flag_ends bad found ne) (λ b e. cc)
check_ends (unread s) bad found ne = λ h. cc
