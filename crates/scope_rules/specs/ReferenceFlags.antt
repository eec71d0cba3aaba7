-- The bits of a reference's flags, as `ReferenceFlags` has them: how a name is used.
use Rattle.std.specs.Prelude.{ℕ}

abbrev pub read : ℕ
read = 1

abbrev pub write : ℕ
write = 2

-- beside `read`: the object of an assigned member
abbrev pub member_write_target : ℕ
member_write_target = 4
