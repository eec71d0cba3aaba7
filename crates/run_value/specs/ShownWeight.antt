-- How much is shown of a value and of what it holds.
use Rattle.std.specs.Prelude.{ℕ, ◌+◌}
use Rattle.js_meaning.specs.Value.{Shown, Parts, plainly, again, first, no_parts, shows, shows_at}

abbrev mutual
  pub shown_size : Shown → ℕ
  shown_size (plainly p) = 0
  shown_size (again n) = 0
  shown_size (first n sort parts) = 1 + parts_size parts

  pub parts_size : Parts → ℕ
  parts_size no_parts = 0
  parts_size (shows v c) = 1 + shown_size v + parts_size c
  parts_size (shows_at key v c) = 1 + shown_size v + parts_size c
