-- Truth values.
use Rattle.std.proofs.Common.{◌≡◌, Bool, true, false, not, ◌&&◌, ◌||◌, refl}

pub first_of_both : (a b : Bool) → a && b ≡ true → a ≡ true
first_of_both true b h = refl
first_of_both false b h = absurd cc

pub second_of_both : (a b : Bool) → a && b ≡ true → b ≡ true
second_of_both true b h = h
second_of_both false b h = absurd cc

pub both : (a b : Bool) → a ≡ true → b ≡ true → a && b ≡ true
both true b h g = g
both false b h g = absurd cc

pub first_of_neither : (a b : Bool) → a || b ≡ false → a ≡ false
first_of_neither true b h = absurd cc
first_of_neither false b h = refl

pub second_of_neither : (a b : Bool) → a || b ≡ false → b ≡ false
second_of_neither true b h = absurd cc
second_of_neither false b h = h

pub neither : (a b : Bool) → a ≡ false → b ≡ false → a || b ≡ false
neither true b h g = h
neither false b h g = g

pub first_of_either : (a b : Bool) → a ≡ true → a || b ≡ true
first_of_either true b h = refl
first_of_either false b h = absurd cc

pub second_of_either : (a b : Bool) → b ≡ true → a || b ≡ true
second_of_either true b h = refl
second_of_either false b h = h

pub or_false : (a : Bool) → a || false ≡ a
or_false true = refl
or_false false = refl

pub or_associates : (a b c : Bool) → a || (b || c) ≡ (a || b) || c
or_associates true b c = refl
or_associates false b c = refl

pub not_true : (a : Bool) → not a ≡ true → a ≡ false
not_true true h = absurd cc
not_true false h = refl

pub not_false : (a : Bool) → not a ≡ false → a ≡ true
not_false true h = refl
not_false false h = absurd cc
