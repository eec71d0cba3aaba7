-- What is shown in a literal is smaller than it.
use Rattle.std.specs.Prelude.{ℕ, ◌+◌, ◌≤◌, max, List, [], ◌∷◌, String}
use Rattle.std.proofs.Common.{arith}
use Rattle.std.specs.Global.{Global}
use Rattle.std.specs.declared.rc.Rc.{Rc}
use denote.Param.Weighed.{most}
use Rattle.run_value.specs.declared.shown.Shown as held
use Rattle.run_value.specs.declared.shown.Shown.TheVariants.{Plainly, Again, First}
use Rattle.run_value.specs.declared.shown.Parts.TheDeep.{deep-Shown}
use Rattle.run_value.specs.ShownView.{shown_of, parts_of}
use Rattle.run_value.specs.ShownWeight.{shown_size, parts_size}

depth_within : (v : held.Shown) → deep-Shown v ≤ 1 + shown_size (shown_of v)
depth_within (Plainly p) = omega arith
depth_within (Again n) = omega arith
depth_within (First n sort parts) = omega arith

pub deepest_in_parts : (keys : List (Rc (String Global) Global)) (vs : List held.Shown) → max (most (λ v. deep-Shown v) vs) 0 ≤ parts_size (parts_of keys vs)
deepest_in_parts keys [] = omega arith
deepest_in_parts [] (v ∷ vs) = omega (arith, depth_within v, deepest_in_parts [] vs)
deepest_in_parts (k ∷ keys) (v ∷ vs) = omega (arith, depth_within v, deepest_in_parts keys vs)
