-- The bits of a scope's flags, as `ScopeFlags` has them.
use Rattle.std.specs.Prelude.{ℕ}

-- its code is strict
abbrev pub strict_mode : ℕ
strict_mode = 1

-- a program's
abbrev pub top : ℕ
top = 2

abbrev pub function : ℕ
function = 4

-- beside `function`
abbrev pub arrow : ℕ
arrow = 8

abbrev pub class_static_block : ℕ
class_static_block = 16

-- beside `function`
abbrev pub constructor : ℕ
constructor = 32

-- a block's, a loop's or a switch's
abbrev pub block : ℕ
block = 64

abbrev pub catch : ℕ
catch = 128

abbrev pub with_statement : ℕ
with_statement = 256

-- a direct call of `eval` stands in it
abbrev pub direct_eval : ℕ
direct_eval = 512
