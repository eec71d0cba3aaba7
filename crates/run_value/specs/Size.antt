-- What lies in the content of a literal is smaller than it.
use Rattle.std.specs.Prelude.{ℕ, ◌+◌, ◌≤◌, max, List, [], ◌∷◌, String}
use Rattle.std.proofs.Common.{arith}
use Rattle.std.specs.Global.{Global}
use Rattle.std.specs.declared.rc.Rc.{Rc}
use denote.Param.Weighed.{most}
use Rattle.run_value.specs.declared.value.Value as held
use Rattle.run_value.specs.declared.value.Value.TheVariants.{Plain as plain_value, Closure as closure_value, Object as object_value, Array as array_value, Error as error_value}
use Rattle.run_value.specs.declared.value.Content.TheDeep.{deep-Value}
use Rattle.run_value.specs.View.{value_of, content_of}
use Rattle.run_value.specs.Weight.{value_size, content_size}

depth_within : (v : held.Value) → deep-Value v ≤ 1 + value_size (value_of v)
depth_within (plain_value p) = omega arith
depth_within (closure_value i f below env) = omega arith
depth_within (object_value i c) = omega arith
depth_within (array_value i c) = omega arith
depth_within (error_value i e) = omega arith

pub deepest_in_content : (keys : List (Rc (String Global) Global)) (vs : List held.Value) → max (most (λ v. deep-Value v) vs) 0 ≤ content_size (content_of keys vs)
deepest_in_content keys [] = omega arith
deepest_in_content [] (v ∷ vs) = omega (arith, depth_within v, deepest_in_content [] vs)
deepest_in_content (k ∷ keys) (v ∷ vs) = omega (arith, depth_within v, deepest_in_content keys vs)
