-- The bits of a symbol's flags, as `SymbolFlags` has them: how its name is declared.
use Rattle.std.specs.Prelude.{ℕ}

-- by `var`, or a parameter
abbrev pub function_scoped_variable : ℕ
function_scoped_variable = 1

-- by `let` or `const`
abbrev pub block_scoped_variable : ℕ
block_scoped_variable = 2

-- by `const`
abbrev pub const_variable : ℕ
const_variable = 4

abbrev pub class : ℕ
class = 8

abbrev pub catch_variable : ℕ
catch_variable = 16

abbrev pub function : ℕ
function = 32

abbrev pub import : ℕ
import = 64
