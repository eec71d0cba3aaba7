-- A program that declares nothing.
use Rattle.std.specs.Prelude.{true, None}
use Rattle.js_effects.specs.Answers.{Names}

abbrev pub no_names : Names
no_names = record { is_global = λ k n. true; constant = λ i. None; constant_type = λ i. None }
