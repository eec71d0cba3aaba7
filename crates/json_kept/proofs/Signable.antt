-- What was read is readable once its signs are applied.
use Rattle.std.proofs.Common.{◌≡◌, ◌≤◌, ◌+◌, ℕ, pos, negsuc, List, [], ◌∷◌, not, Some, Ok, if◌then◌else◌, arith}
use Rattle.serde_json.specs.Data.{depth}
use Rattle.serde_json.specs.Read.{max_depth}
use Rattle.js_syntax.specs.Class.{root}
use Rattle.js_syntax.specs.Scalar.{Scalar, the_value, the_key, the_property, the_module_name, the_module_name_or_null}
use Rattle.js_syntax.specs.declared.value.LiteralValue.TheVariants as value
use Rattle.js_syntax.specs.declared.value.Key.TheVariants.{Name as key_name, Number as key_number}
use Rattle.js_syntax.specs.declared.value.ModuleName.TheVariants.{Name as plain_name}
use Rattle.js_syntax.specs.Facts.{scalars_of}
use Rattle.js_syntax.specs.Node.{Forest, nothing, node, absent, total}
use Rattle.json_text.specs.Answer.{IsReadAs}
use Rattle.json_text.specs.Fault.{untyped}
use Rattle.json_text.specs.Text.{data_of}
use Rattle.json_shape.specs.Exact.{is_exact}
use Rattle.json_shape.proofs.FittingNodes.{nodes_fit}
use Rattle.json_kept.specs.Respelled.{is_misnamed, count_among, misnamed}
use Rattle.json_kept.specs.Signs.{magnitude, inexact_size, IsSignable}
use Rattle.json_kept.proofs.Plainly.{is_ranged}
use Rattle.json_kept.proofs.Reading.{unranged, program_read}

-- what counts against a value, its sign aside
abbrev faults : Scalar → ℕ
faults s = (if not (is_ranged s) then 1 else 0) + (if is_misnamed s then 1 else 0)

scalar_exact : (s : Scalar) → (if not (is_exact (magnitude s)) then 1 else 0) ≤ faults s
scalar_exact (the_value (value.Number (pos n))) = omega arith
scalar_exact (the_value (value.Number (negsuc n))) = omega arith
scalar_exact (the_value v) = omega arith
scalar_exact (the_key (key_name s)) = omega arith
scalar_exact (the_key (key_number n)) = omega arith
scalar_exact (the_property (key_number n)) = omega arith
scalar_exact (the_module_name (plain_name s)) = omega arith
scalar_exact (the_module_name_or_null (Some (plain_name s))) = omega arith
scalar_exact s = omega arith

scalars_exact : (ss : List Scalar) → count_among (λ s. not (is_exact (magnitude s))) ss ≤ count_among (λ s. not (is_ranged s)) ss + count_among is_misnamed ss
scalars_exact [] = omega arith
scalars_exact (s ∷ ss) = omega (arith, scalar_exact s, scalars_exact ss)

tree_exact : (t : Forest) → total inexact_size t ≤ total unranged t + total misnamed t
tree_exact nothing = omega arith
tree_exact (node k n below rest) = omega (arith, scalars_exact (scalars_of k), tree_exact below, tree_exact rest)
tree_exact (absent rest) = tree_exact rest

pub read_exact_sizes : (bytes : List ℕ) (t : Forest) → IsReadAs bytes (Ok t) → total misnamed t ≡ 0 → total inexact_size t ≡ 0
read_exact_sizes bytes t read names = omega (arith, tree_exact t, (program_read read.1.0 t read.1.2).ranged, names)

pub read_signable : (bytes : List ℕ) (t : Forest) → IsReadAs bytes (Ok t) → total misnamed t ≡ 0 → depth (data_of t) ≤ max_depth → IsSignable t
read_signable bytes t read names shallow = record {
  shape = nodes_fit 128 root untyped read.1.0 t read.1.2;
  values = read_exact_sizes bytes t read names;
  nesting = shallow;
}
