-- A value, by the token that comes first.
use Rattle.std.proofs.Common.{◌≡◌, ℕ, ◌-◌, ◌<◌, List, [], ◌∷◌, length, Bool, Option, Some, None, refl, ap, ◌∙◌}
use Rattle.json.specs.Token.{Token}
use Rattle.json.specs.Json.{parse_map, items, members, value}
use Rattle.json.proofs.Grammar.{value_is, value-begin_array, value-begin_object}
use Rattle.serde_json.specs.Data.{Data, Num, null, boolean, number, string, array, object, no_members}
use Rattle.serde_json.specs.Read.{of_json, of_items, of_members, number_of, converted}
use Rattle.json_value.proofs.Turns.{of_array, of_object}

abbrev read_of : ℕ → List Token → Option (Data × List Token)
read_of depth ts = converted of_json (value depth ts)

pub nothing_read : (depth : ℕ) (ts : List Token) → ts ≡ [] → read_of depth ts ≡ None
nothing_read depth ts is = ap (read_of depth) is ∙ ap (converted of_json) (value_is depth [])

module _ (depth : ℕ) (ts rest : List Token) where
  pub text_read : (s : List ℕ) → ts ≡ Token.string s ∷ rest → read_of depth ts ≡ Some (string s, rest)
  text_read s is = ap (read_of depth) is ∙ ap (converted of_json) (value_is depth (Token.string s ∷ rest))

  pub truth_read : (b : Bool) → ts ≡ Token.boolean b ∷ rest → read_of depth ts ≡ Some (boolean b, rest)
  truth_read b is = ap (read_of depth) is ∙ ap (converted of_json) (value_is depth (Token.boolean b ∷ rest))

  pub null_read : ts ≡ Token.null ∷ rest → read_of depth ts ≡ Some (null, rest)
  null_read is = ap (read_of depth) is ∙ ap (converted of_json) (value_is depth (Token.null ∷ rest))

  pub number_read : (s : List ℕ) (n : Num) → ts ≡ Token.number s ∷ rest → number_of s ≡ Some n → read_of depth ts ≡ Some (number n, rest)
  number_read s n is told = ap (read_of depth) is ∙ ap (converted of_json) (value_is depth (Token.number s ∷ rest)) ∙ rw told refl

  pub number_refused : (s : List ℕ) → ts ≡ Token.number s ∷ rest → number_of s ≡ None → read_of depth ts ≡ None
  number_refused s is told = ap (read_of depth) is ∙ ap (converted of_json) (value_is depth (Token.number s ∷ rest)) ∙ rw told refl

  pub no_array : ts ≡ Token.begin_array ∷ rest → depth ≡ 0 → read_of depth ts ≡ None
  unfolding value
  no_array is none = rw (is, none) refl

  pub no_object : ts ≡ Token.begin_object ∷ rest → depth ≡ 0 → read_of depth ts ≡ None
  unfolding value
  no_object is none = rw (is, none) refl

  pub array_read : ts ≡ Token.begin_array ∷ rest → 0 < depth → read_of depth ts ≡ parse_map array (converted of_items (items (value (depth - 1)) (length rest) rest))
  array_read is some = ap (read_of depth) is ∙ ap (converted of_json) (value-begin_array depth rest some) ∙ of_array (items (value (depth - 1)) (length rest) rest)

  pub object_read : ts ≡ Token.begin_object ∷ rest → 0 < depth → read_of depth ts ≡ parse_map object (converted (λ ms. of_members ms no_members) (members (value (depth - 1)) (length rest) rest))
  object_read is some = ap (read_of depth) is ∙ ap (converted of_json) (value-begin_object depth rest some) ∙ of_object (members (value (depth - 1)) (length rest) rest)
