-- That flags tell only what is so, and the parts of it: one tells of calls of `eval`, the other of all else.
use Rattle.std.specs.Prelude.{◌≡◌, ℕ, Bool, true, Some}
use Rattle.js_syntax.specs.Node.{Forest}
use Rattle.scope_rules.specs.ScopeFlags as scope_flag
use Rattle.scope_rules.specs.Table.{Scoping}
use Rattle.steps.specs.Allowed.Exposure.{is_script}
use Rattle.steps.specs.Marked.Flags.{scope_has, is_sloppy_block, Stand, stand_inside, stands_of}
use Rattle.rules.specs.DeadCode.Quiet.{ToldOnly}
use Rattle.rules.specs.Told.Places.{EachPlace}

-- in a whole tree
abbrev pub FlagsTellOnly : Scoping → Forest → Type 0
FlagsTellOnly s t = ToldOnly s (is_script t) (stands_of t) 0 t

-- ---- at a place

-- the bit of direct eval says that a call stands in the scope only where one does
abbrev pub TellsCallsOnly : Scoping → Stand → Type 0
TellsCallsOnly s p = (n : ℕ) → p.scope ≡ Some n → scope_has s n scope_flag.direct_eval ≡ true → p.exposure.evaluates ≡ true

-- the other bits and the numbers say that code isn't strict, and that names are a script's own, only where that is so
pub record TellsNamesOnly (s : Scoping) (script : Bool) (p : Stand) : Type 0 where
  pub sloppy : (n : ℕ) → p.scope ≡ Some n → is_sloppy_block s n ≡ true → p.exposure.in_sloppy_block ≡ true
  pub names : script ≡ true → p.scope ≡ Some 0 → p.exposure.names_shared ≡ true
  pub variable_names : script ≡ true → p.variables ≡ Some 0 → p.exposure.variables_shared ≡ true

-- ---- in a whole tree

abbrev pub CallsToldOnly : Scoping → Forest → Type 0
CallsToldOnly s t = EachPlace stand_inside (λ p k n below. TellsCallsOnly s p) (stands_of t) 0 t

abbrev pub NamesToldOnly : Scoping → Forest → Type 0
NamesToldOnly s t = EachPlace stand_inside (λ p k n below. TellsNamesOnly s (is_script t) p) (stands_of t) 0 t
