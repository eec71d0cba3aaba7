-- Values that are read one after another.
use Rattle.std.proofs.Common.{List, ◌++◌, Option, option_map}

-- what is read behind what was read before
abbrev pub after : {A : Type 0} → List A → Option (List A) → Option (List A)
after xs o = option_map (λ ys. xs ++ ys) o
