-- What is read of a field that is no node is written no deeper, and its numbers are exact.
use Rattle.std.proofs.Common.{◌≡◌, ◌≤◌, ℕ, suc, pos, negsuc, List, Bool, true, false, Option, Some, None, Result, Ok, Err, if◌then◌else◌, refl, subst, arith}
use Rattle.std.specs.Prelude.{codes, nat_lt}
use Rattle.std.specs.Str.{bytes_eq}
use Rattle.serde_json.specs.Data.{Num, unsigned, negative, float, Data, null, boolean, string, array, object, depth}
use Rattle.serde_json.specs.Data as json
use Rattle.serde_json.specs.Find.{get}
use Rattle.js_syntax.specs.Scalar.{Scalar, the_value, the_key, the_property, the_template_text}
use Rattle.js_syntax.specs.declared.value.LiteralValue.{LiteralValue as Value}
use Rattle.js_syntax.specs.declared.value.LiteralValue.TheVariants as value
use Rattle.js_syntax.specs.declared.value.Key.{Key}
use Rattle.js_syntax.specs.declared.value.Key.TheVariants.{Text as key_text, Number as key_number}
use Rattle.js_syntax.specs.declared.value.ModuleName.{ModuleName}
use Rattle.js_syntax.specs.declared.value.ModuleName.TheVariants.{Name as plain_name, Text as quoted_name}
use Rattle.js_syntax.specs.declared.node_type.NodeType.{NodeType}
use Rattle.js_syntax.specs.Field.{Kept, a_text, a_flag, a_value, a_word, a_mark, a_name, maybe_name, a_module_name, maybe_module_name, a_source, a_template_text, a_reg_exp_text, Reads, Check, never, constant, fixed_name, null_only, hint, unread}
use Rattle.json_text.specs.Fault.{Fault, ◌>>=◌, fault_of, out_of_range}
use Rattle.json_text.specs.Plain.{is_object, named, type_at, read_text, read_text_or_null, read_number, read_null, read_value, read_typed, read_or_null, name_here, source_here, module_name_here, read_name, read_source, read_module_name, key_of, read_template_text, read_reg_exp_text, read_kept, only_if, read_check}
use Rattle.json_text.specs.Text.{identifier, text_literal, is_identifier_name, value_data, module_name_data, scalar_data}
use Rattle.json_text.proofs.Plain.{get_depth}
use Rattle.json_shape.specs.Exact.{is_exact_number}
use Rattle.json_shape.proofs.Facts.{scalar_of}
use Rattle.json_shape.proofs.Fitting.{began, ok_is}
use Rattle.json_kept.proofs.Depths.{IsCheckShallow}

-- ---- exact numbers

abbrev pub is_ranged : Scalar → Bool
is_ranged (the_value (value.Number (pos n))) = is_exact_number n
is_ranged (the_value (value.Number (negsuc n))) = is_exact_number (suc n)
is_ranged (the_key (key_number n)) = is_exact_number n
is_ranged (the_property (key_number n)) = is_exact_number n
is_ranged s = true

ranged_at : (b : Bool) (v w : Value) → (is_ranged (the_value v) ≡ b) → (if b then Ok v else Err out_of_range) ≡ Ok w → is_ranged (the_value w) ≡ true
ranged_at true v w is h = subst (λ (x : Value). is_ranged (the_value x) ≡ true) (ok_is v w h) is
ranged_at false v w is h = absurd cc

number_ranged : (n : Num) (v : Value) → read_number n ≡ Ok v → is_ranged (the_value v) ≡ true
number_ranged (unsigned n) v h = ranged_at (nat_lt n 9007199254740992) (value.Number (pos n)) v refl h
number_ranged (negative (pos n)) v h = ranged_at (nat_lt n 9007199254740992) (value.Number (pos n)) v refl h
number_ranged (negative (negsuc n)) v h = ranged_at (nat_lt (suc n) 9007199254740992) (value.Number (negsuc n)) v refl h
number_ranged (float x) v h = absurd cc

null_at : (b : Bool) (v : Value) → (if b then Ok value.Null else Err out_of_range) ≡ Ok v → is_ranged (the_value v) ≡ true
null_at true v h = subst (λ (x : Value). is_ranged (the_value x) ≡ true) (ok_is value.Null v h) refl
null_at false v h = absurd cc

null_ranged : (raw : Option Data) (v : Value) → read_null raw ≡ Ok v → is_ranged (the_value v) ≡ true
null_ranged (Some (string s)) v h = null_at _ v h
null_ranged raw v h = subst (λ (x : Value). is_ranged (the_value x) ≡ true) (ok_is value.Null v h) refl

pub value_ranged : (bad : Fault) (raw found : Option Data) (v : Value) → read_value bad raw found ≡ Ok v → is_ranged (the_value v) ≡ true
unfolding read_value
value_ranged bad raw (Some null) v h = null_ranged raw v h
value_ranged bad raw (Some (boolean b)) v h = subst (λ (x : Value). is_ranged (the_value x) ≡ true) (ok_is (value.Boolean b) v h) refl
value_ranged bad raw (Some (json.number n)) v h = number_ranged n v h
value_ranged bad raw (Some (string s)) v h = subst (λ (x : Value). is_ranged (the_value x) ≡ true) (ok_is (value.Text s) v h) refl
value_ranged bad raw found v h = absurd cc

pub key_ranged : (bad : Fault) (v : Value) (key : Key) → is_ranged (the_value v) ≡ true → key_of bad v ≡ Ok key → is_ranged (the_key key) ≡ true
key_ranged bad (value.Text s) key is h = subst (λ (x : Key). is_ranged (the_key x) ≡ true) (ok_is (key_text s) key h) refl
key_ranged bad (value.Number (pos n)) key is h = subst (λ (x : Key). is_ranged (the_key x) ≡ true) (ok_is (key_number n) key h) is
key_ranged bad (value.Number (negsuc n)) key is h = absurd cc
key_ranged bad v key is h = absurd cc

-- ---- what nests was read from an object

-- something that nests stands there
abbrev pub Nests : Option Data → Type 0
Nests found = (e : Data) × (found ≡ Some e) × (1 ≤ depth e)

object_nests : (d : Data) → is_object d ≡ true → 1 ≤ depth d
object_nests (object ms) h = omega arith
object_nests d h = absurd cc

typed_at : (b : Bool) (bad : Fault) (r : Result NodeType Fault) (t : NodeType) → (if b then r else Err bad) ≡ Ok t → b ≡ true
typed_at true bad r t h = refl
typed_at false bad r t h = absurd cc

pub typed_nests : (bad : Fault) (d : Data) (t : NodeType) → type_at bad d ≡ Ok t → 1 ≤ depth d
unfolding type_at
typed_nests bad d t h = object_nests d (typed_at (is_object d) bad (named d (get (codes "type") d)) t h)

there_nests : {A : Type 0} (here : Data → NodeType → Result A Fault) (bad : Fault) (found : Option Data) (x : A) → read_typed here bad found ≡ Ok x → Nests found
unfolding read_typed
there_nests here bad None x h = absurd cc
there_nests here bad (Some d) x h =
    let t = began (type_at bad d) (here d) x h in
    (d, refl, typed_nests bad d t.0 t.1)

name_nests : (bad : Fault) (found : Option Data) (s : List ℕ) → read_name bad found ≡ Ok s → Nests found
unfolding read_name
name_nests bad found s h = there_nests (name_here bad) bad found s h

source_nests : (bad : Fault) (found : Option Data) (s : List ℕ) → read_source bad found ≡ Ok s → Nests found
unfolding read_source
source_nests bad found s h = there_nests (source_here bad) bad found s h

module_name_nests : (bad : Fault) (found : Option Data) (m : ModuleName) → read_module_name bad found ≡ Ok m → Nests found
unfolding read_module_name
module_name_nests bad found m h = there_nests (module_name_here bad) bad found m h

text_within : (bad : Fault) (name : List ℕ) (d : Data) (s : List ℕ) → read_text bad (get name d) ≡ Ok s → 1 ≤ depth d
unfolding read_text
text_within bad name null s h = absurd cc
text_within bad name (boolean b) s h = absurd cc
text_within bad name (json.number n) s h = absurd cc
text_within bad name (string r) s h = absurd cc
text_within bad name (array ds) s h = absurd cc
text_within bad name (object ms) s h = omega arith

some_is : {A : Type 0} (x y : A) → ◌≡◌ {A = Result (Option A) Fault} (Ok (Some x)) (Ok (Some y)) → x ≡ y
some_is x y h = cc

-- nothing where null stands, and else what stands there
or_null_is : {A : Type 0} (one : Option Data → Result A Fault) (found : Option Data) (x : A) → read_or_null one found ≡ Ok (Some x) → one found ≡ Ok x
unfolding read_or_null
or_null_is one None x h = absurd cc
or_null_is one (Some null) x h = absurd cc
or_null_is one (Some d) x h =
    let y = began (one (Some d)) (λ y. Ok (Some y)) (Some x) h in
    subst (λ z. one (Some d) ≡ Ok z) (some_is y.0 x y.2) y.1

-- ---- what a kind keeps

-- what is written of it nests less than the object that it was read from
abbrev pub Fitting : ℕ → Scalar → Type 0
Fitting n s = (depth (scalar_data s) ≤ n) × (is_ranged s ≡ true)

pub name_one : (b : Bool) (s : List ℕ) → depth (if b then identifier s else text_literal s) ≤ 1
name_one true s = omega arith
name_one false s = omega arith

module_name_one : (m : ModuleName) → depth (module_name_data m) ≤ 1
module_name_one (plain_name s) = name_one (is_identifier_name s) s
module_name_one (quoted_name s) = omega arith

template_one : (raw : List ℕ) (cooked : Option (List ℕ)) → depth (scalar_data (the_template_text (record { raw = raw; cooked = cooked }))) ≤ 1
template_one raw None = omega arith
template_one raw (Some s) = omega arith

value_flat : (v : Value) → depth (value_data v) ≤ 0
value_flat value.Null = omega arith
value_flat (value.Boolean b) = omega arith
value_flat (value.Number (pos n)) = omega arith
value_flat (value.Number (negsuc n)) = omega arith
value_flat (value.Text s) = omega arith

-- what is written of a field that isn't read
abbrev pub IsUnreadShallow : ℕ → Check → Type 0
IsUnreadShallow n (unread s) = depth (scalar_data s) ≤ n
IsUnreadShallow n c = Unit {0}

module _ (n : ℕ) (name : List ℕ) (d : Data) (deep : depth d ≡ suc n) where
  roomy : Nests (get name d) → 1 ≤ n
  roomy there = omega (arith, get_depth name d there.0 there.1, there.2, deep)

  template_roomy : (bad : Fault) (found : Option Data) (t : Reads a_template_text) → read_template_text bad found ≡ Ok t → Nests found
  unfolding read_template_text
  template_roomy bad None t h = absurd cc
  template_roomy bad (Some e) t h =
      let raw = began (read_text bad (get (codes "raw") e)) (λ r. read_text_or_null bad (get (codes "cooked") e) >>= λ c. Ok (record { raw = r; cooked = c })) t h in
      (e, refl, text_within bad (codes "raw") e raw.0 raw.1)

  reg_exp_roomy : (bad : Fault) (found : Option Data) (t : Reads a_reg_exp_text) → read_reg_exp_text bad found ≡ Ok t → Nests found
  unfolding read_reg_exp_text
  reg_exp_roomy bad None t h = absurd cc
  reg_exp_roomy bad (Some e) t h =
      let pattern = began (read_text bad (get (codes "pattern") e)) (λ p. read_text bad (get (codes "flags") e) >>= λ f. Ok (record { pattern = p; flags = f })) t h in
      (e, refl, text_within bad (codes "pattern") e pattern.0 pattern.1)

  pub kept_fits : (t : NodeType) (k : Kept) (v : Reads k) → read_kept k t name d ≡ Ok v → Fitting n (scalar_of k v)
  kept_fits t a_text v h = (omega arith, refl)
  kept_fits t a_flag v h = (omega arith, refl)
  kept_fits t a_value v h = (omega (arith, value_flat v), value_ranged (fault_of t name) (get (codes "raw") d) (get name d) v h)
  kept_fits t (a_word w) v h = (omega arith, refl)
  kept_fits t a_mark v h = (omega arith, refl)
  kept_fits t a_name v h = (omega (arith, roomy (name_nests (fault_of t name) (get name d) v h)), refl)
  kept_fits t maybe_name None h = (omega arith, refl)
  kept_fits t maybe_name (Some s) h = (omega (arith, roomy (name_nests (fault_of t name) (get name d) s (or_null_is (read_name (fault_of t name)) (get name d) s h))), refl)
  kept_fits t a_module_name v h = (omega (arith, module_name_one v, roomy (module_name_nests (fault_of t name) (get name d) v h)), refl)
  kept_fits t maybe_module_name None h = (omega arith, refl)
  kept_fits t maybe_module_name (Some m) h =
      (omega (arith, module_name_one m, roomy (module_name_nests (fault_of t name) (get name d) m (or_null_is (read_module_name (fault_of t name)) (get name d) m h))), refl)
  kept_fits t a_source v h = (omega (arith, roomy (source_nests (fault_of t name) (get name d) v h)), refl)
  kept_fits t a_template_text v h = (omega (arith, template_one v.raw v.cooked, roomy (template_roomy (fault_of t name) (get name d) v h)), refl)
  kept_fits t a_reg_exp_text v h = (omega (arith, roomy (reg_exp_roomy (fault_of t name) (get name d) v h)), refl)

  pub check_fits : (bad : Fault) (c : Check) → read_check c bad (get name d) ≡ Ok tt → IsUnreadShallow n c → IsCheckShallow n c
  unfolding read_check
  check_fits bad never h free = tt
  check_fits bad (constant s) h free = tt
  check_fits bad (fixed_name s) h free =
      let x = began (read_name bad (get name d)) (λ r. only_if (bytes_eq r s) bad) tt h in
      roomy (name_nests bad (get name d) x.0 x.1)
  check_fits bad null_only h free = tt
  check_fits bad (hint g) h free = tt
  check_fits bad (unread s) h free = free
