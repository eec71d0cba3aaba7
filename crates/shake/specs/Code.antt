-- The exit status of each answer.
use Rattle.std.specs.Prelude.{ℕ}
use Rattle.shake.specs.declared.status.Status.{Status}
use Rattle.shake.specs.declared.status.Status.TheVariants.{Ok, Usage, ReadFault, InputTooLong, Syntax, Tree, TooLarge, IllFormed, WriteFault, OutOfMemory, BadScript, NotCore}

abbrev pub code_of : Status → ℕ
code_of Ok = 0
code_of Usage = 1
code_of ReadFault = 2
code_of InputTooLong = 3
code_of Syntax = 4
code_of Tree = 5
code_of TooLarge = 6
code_of IllFormed = 7
code_of WriteFault = 8
code_of OutOfMemory = 9
code_of BadScript = 15
code_of NotCore = 16
