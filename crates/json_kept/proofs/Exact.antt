-- Where each value is written as what it is, what was read is exact.
use Rattle.std.proofs.Common.{◌≡◌, ◌≤◌, ◌+◌, ℕ, min, pos, negsuc, List, [], ◌∷◌, Bool, true, false, not, Some, Ok, if◌then◌else◌, arith}
use Rattle.serde_json.specs.Data.{Data, depth}
use Rattle.serde_json.specs.Read.{max_depth}
use Rattle.serde_json.proofs.Nesting.{depth-read}
use Rattle.js_syntax.specs.Class.{root}
use Rattle.js_syntax.specs.Scalar.{Scalar, the_value, the_key, the_property, the_module_name, the_module_name_or_null}
use Rattle.js_syntax.specs.declared.value.LiteralValue.TheVariants as value
use Rattle.js_syntax.specs.declared.value.Key.TheVariants.{Name as key_name, Number as key_number}
use Rattle.js_syntax.specs.declared.value.ModuleName.TheVariants.{Name as plain_name}
use Rattle.js_syntax.specs.Facts.{scalars_of}
use Rattle.js_syntax.specs.Node.{Forest, nothing, node, absent, total}
use Rattle.json_text.specs.Answer.{IsReadAs}
use Rattle.json_text.specs.Fault.{untyped}
use Rattle.json_text.specs.Reading.{read_program}
use Rattle.json_text.specs.Text.{is_identifier_name, row_datas, data_of, first_or_null}
use Rattle.json_shape.specs.Exact.{inexact, inexact_among, is_exact, is_exact_number}
use Rattle.json_shape.specs.Readable.{IsReadable}
use Rattle.json_shape.proofs.FittingNodes.{nodes_fit}
use Rattle.json_kept.specs.Respelled.{is_negative, is_misnamed, count_among, negative, misnamed, IsWrittenAsItIs}
use Rattle.json_kept.proofs.Depths.{deepest}
use Rattle.json_kept.proofs.Plainly.{is_ranged}
use Rattle.json_kept.proofs.Reading.{unranged, program_read}

-- ---- what isn't exact

either : (b : Bool) → (if b then 0 else 1) ≤ (if not b then 1 else 0)
either true = omega arith
either false = omega arith

-- what counts against a value
abbrev faults : Scalar → ℕ
faults s = (if not (is_ranged s) then 1 else 0) + (if is_negative s then 1 else 0) + (if is_misnamed s then 1 else 0)

scalar_exact : (s : Scalar) → (if is_exact s then 0 else 1) ≤ faults s
scalar_exact (the_value (value.Number (pos n))) = omega (arith, either (is_exact_number n))
scalar_exact (the_value (value.Number (negsuc n))) = omega arith
scalar_exact (the_value v) = omega arith
scalar_exact (the_key (key_name s)) = omega (arith, either (is_identifier_name s))
scalar_exact (the_key (key_number n)) = omega (arith, either (is_exact_number n))
scalar_exact (the_property (key_number n)) = omega (arith, either (is_exact_number n))
scalar_exact (the_module_name (plain_name s)) = omega (arith, either (is_identifier_name s))
scalar_exact (the_module_name_or_null (Some (plain_name s))) = omega (arith, either (is_identifier_name s))
scalar_exact s = omega arith

scalars_exact : (ss : List Scalar) → inexact_among ss ≤ count_among (λ s. not (is_ranged s)) ss + count_among is_negative ss + count_among is_misnamed ss
scalars_exact [] = omega arith
scalars_exact (s ∷ ss) = omega (arith, scalar_exact s, scalars_exact ss)

tree_exact : (t : Forest) → total inexact t ≤ total unranged t + total negative t + total misnamed t
tree_exact nothing = omega arith
tree_exact (node k n below rest) = omega (arith, scalars_exact (scalars_of k), tree_exact below, tree_exact rest)
tree_exact (absent rest) = tree_exact rest

-- ---- trees that were read

first_deep : (ds : List Data) → depth (first_or_null ds) ≤ deepest ds
first_deep [] = omega arith
first_deep (d ∷ ds) = omega arith

pub data_nests : (d : Data) (t : Forest) → read_program d ≡ Ok t → depth (data_of t) ≤ depth d + min 1 (total negative t)
data_nests d t h = omega (arith, first_deep (row_datas t), (program_read d t h).deep)

pub text_nests : (bytes : List ℕ) (t : Forest) → IsReadAs bytes (Ok t) → depth (data_of t) ≤ max_depth + min 1 (total negative t)
text_nests bytes t read = omega (arith, data_nests read.1.0 t read.1.2, depth-read bytes read.1.0 read.1.1)

pub read_readable : (bytes : List ℕ) (t : Forest) → IsReadAs bytes (Ok t) → IsWrittenAsItIs t → IsReadable t
read_readable bytes t read so = record {
  shape = nodes_fit 128 root untyped read.1.0 t read.1.2;
  values = omega (arith, tree_exact t, (program_read read.1.0 t read.1.2).ranged, so.numbers, so.names);
  nesting = omega (arith, text_nests bytes t read, so.numbers);
}
