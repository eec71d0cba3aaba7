-- What may be a name (ECMA-262 12.7 and 13.1.1).
use Rattle.std.specs.Prelude.{ℕ, List, [], ◌∷◌, Bool, false, not, ◌&&◌, ◌||◌, codes}
use Rattle.std.specs.Str.{bytes_eq}
use Rattle.json_text.specs.Text.{is_identifier_name}

abbrev pub is_among : List ℕ → List (List ℕ) → Bool
is_among s [] = false
is_among s (w ∷ ws) = bytes_eq s w || is_among s ws

-- ReservedWord
abbrev pub reserved_words : List (List ℕ)
reserved_words =
    codes "break" ∷ codes "case" ∷ codes "catch" ∷ codes "class" ∷ codes "const" ∷ codes "continue" ∷ codes "debugger" ∷ codes "default" ∷ codes "delete" ∷ codes "do" ∷ codes "else" ∷ codes "enum" ∷ codes "export" ∷ codes "extends"
    ∷ codes "false" ∷ codes "finally" ∷ codes "for" ∷ codes "function" ∷ codes "if" ∷ codes "import" ∷ codes "in" ∷ codes "instanceof" ∷ codes "new" ∷ codes "null" ∷ codes "return" ∷ codes "super" ∷ codes "switch" ∷ codes "this"
    ∷ codes "throw" ∷ codes "true" ∷ codes "try" ∷ codes "typeof" ∷ codes "var" ∷ codes "void" ∷ codes "while" ∷ codes "with" ∷ []

-- in strict code these as well
abbrev pub strict_words : List (List ℕ)
strict_words = codes "implements" ∷ codes "interface" ∷ codes "let" ∷ codes "package" ∷ codes "private" ∷ codes "protected" ∷ codes "public" ∷ codes "static" ∷ codes "yield" ∷ []

abbrev pub is_reserved : (strict is_module : Bool) → List ℕ → Bool
is_reserved strict is_module s = is_among s reserved_words || (strict && is_among s strict_words) || (is_module && bytes_eq s (codes "await"))

-- a name that may be read
abbrev pub may_be_read : (strict is_module : Bool) → List ℕ → Bool
may_be_read strict is_module s = is_identifier_name s && not (is_reserved strict is_module s)

-- and one that may be bound or assigned
abbrev pub may_be_bound : (strict is_module : Bool) → List ℕ → Bool
may_be_bound strict is_module s = may_be_read strict is_module s && not (strict && (bytes_eq s (codes "eval") || bytes_eq s (codes "arguments")))
