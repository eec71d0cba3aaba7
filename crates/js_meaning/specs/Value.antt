-- What programs compute with (ECMA-262 6.1), and how the host sees it.
use Rattle.std.specs.Prelude.{ℕ, ℤ, List, Bool, codes}
use Rattle.js_syntax.specs.Node.{Forest}
use Rattle.js_syntax.specs.declared.value.LiteralValue.{LiteralValue as Literal}
use Rattle.js_syntax.specs.declared.kind.FunctionKind.{FunctionKind}

-- a name or a text, as bytes in UTF-8
abbrev pub Text : Type 0
Text = List ℕ

-- What a name is bound to (9.1).
pub data Slot : Type 0 where
  -- the cell of this number
  local : ℕ → Slot
  -- what the module of this source exports under this name (9.1.1.5.5); `*` is the namespace
  imported : (source name : Text) → Slot
  -- the arguments object (10.4.4), which runs leave out
  arguments_object : Slot

pub data Bound : Type 0 where
  bound : Text → Slot → Bound

-- An environment with all those around it: the first match wins (9.4.2).
abbrev pub Env : Type 0
Env = List Bound

-- `this` is bound as a name that no program can declare
abbrev pub this_name : Text
this_name = codes "this"

-- which primitive values have no content here but what `typeof` says of them (13.5.3)
pub data PrimitiveKind : Type 0 where
  a_number a_bigint a_symbol a_string : PrimitiveKind

-- A value that is no object of the program's own: a primitive value, whose numbers are whole (and within 2^53 - 1
-- wherever an operator gives them), or an object of the host, with its number and whether it can be called.
pub data Plain : Type 0 where
  undefined null : Plain
  boolean : Bool → Plain
  number : ℤ → Plain
  text : Text → Plain
  host : ℕ → Bool → Plain
  -- any other primitive value of the host, as a fraction, NaN, a bigint or a symbol: a number that names it, its kind, and
  -- whether it is true in a test
  other : ℕ → PrimitiveKind → Bool → Plain

pub data ErrorKind : Type 0 where
  type_error reference_error : ErrorKind

-- A value. An own object carries its identity, a number that no other object has.
mutual
  pub data Value : Type 0 where
    plain : Plain → Value
    -- a function (10.2): what it is, what lies below its node, and the environment around it
    closure : ℕ → FunctionKind → Forest → Env → Value
    -- what an object or array literal made (13.2.4, 13.2.5); the content never changes
    object : ℕ → Content → Value
    array : ℕ → Content → Value
    -- what the language itself throws (20.5.5)
    error : ℕ → ErrorKind → Value

  pub data Content : Type 0 where
    no_content : Content
    element : Value → Content → Content
    property : Text → Value → Content → Content

abbrev pub undef : Value
undef = plain undefined

-- a value as the host hands it in: an own object by the number under which it was shown
pub data Given : Type 0 where
  given : Plain → Given
  given_own : ℕ → Given

pub data Sort : Type 0 where
  a_function an_object an_array a_type_error a_reference_error : Sort

-- A value as the host sees it. An own object has its number in the order of first showing; where it is shown first,
-- what it is and what a literal holds stand beside.
mutual
  pub data Shown : Type 0 where
    plainly : Plain → Shown
    again : ℕ → Shown
    first : ℕ → Sort → Parts → Shown

  pub data Parts : Type 0 where
    no_parts : Parts
    shows : Shown → Parts → Parts
    shows_at : Text → Shown → Parts → Parts

-- a literal's value (13.2.3)
abbrev pub literal_value : Literal → Value
literal_value Literal.Null = plain null
literal_value (Literal.Boolean b) = plain (boolean b)
literal_value (Literal.Number z) = plain (number z)
literal_value (Literal.Text s) = plain (text s)
