-- Where a program breaks a rule of form.
use Rattle.std.specs.Prelude.{ℕ, List, [], ◌∷◌, Bool, ◌&&◌, ◌||◌, ◌==◌, Option, Some, None, nat_lt, if◌then◌else◌}
use Rattle.form_rules.specs.declared.rule.Break.{Break}

abbrev pub at_place : (place rule : ℕ) → Break
at_place place rule = record { place = place; rule = rule }

-- the rule is broken there unless this holds
abbrev pub unless : Bool → (place rule : ℕ) → List Break
unless holds place rule = if holds then [] else at_place place rule ∷ []

abbrev pub comes_before : Break → Break → Bool
comes_before a b = nat_lt a.place b.place || (a.place == b.place && nat_lt a.rule b.rule)

abbrev pub lesser : Break → Option Break → Break
lesser a None = a
lesser a (Some b) = if comes_before b a then b else a

-- the least place, and there the least rule
abbrev pub least : List Break → Option Break
least [] = None
least (b ∷ bs) = Some (lesser b (least bs))

-- the first of two, where there is one
abbrev pub merged : Option Break → Option Break → Option Break
merged None b = b
merged (Some a) b = Some (lesser a b)
