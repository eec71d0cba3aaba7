-- Which of three goes on, by the truth value that a value is, if it is one.
use Rattle.std.specs.Prelude.{Bool, true, false, Option, Some, None}
use Rattle.js_meaning.specs.State.{M}

abbrev pub by_truth : Option Bool → M → M → M → M
by_truth (Some true) here on otherwise = here
by_truth (Some false) here on otherwise = on
by_truth None here on otherwise = otherwise
