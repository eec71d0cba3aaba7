-- How much a value and the content of a literal hold.
use Rattle.std.specs.Prelude.{ℕ, ◌+◌}
use Rattle.js_meaning.specs.Value.{Value, Content, plain, closure, object, array, error, no_content, element, property}

abbrev mutual
  pub value_size : Value → ℕ
  value_size (plain p) = 0
  value_size (closure i f a env) = 0
  value_size (object i c) = 1 + content_size c
  value_size (array i c) = 1 + content_size c
  value_size (error i e) = 0

  pub content_size : Content → ℕ
  content_size no_content = 0
  content_size (element v c) = 1 + value_size v + content_size c
  content_size (property key v c) = 1 + value_size v + content_size c
