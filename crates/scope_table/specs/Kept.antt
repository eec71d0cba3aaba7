-- Symbols as they are kept while the table is made: with all their declarations so far.
use Rattle.std.specs.Prelude.{ℕ, suc, List, [], ◌∷◌, ◌++◌, Bool, Option}
use Rattle.std.specs.Int.RustNames.{bit_or}
use Rattle.scope_table.specs.Editing.{without}
use Rattle.scope_rules.specs.Site.{BindingSite}
use Rattle.scope_rules.specs.Binding.{Binding}
use Rattle.scope_rules.specs.Table.{Redeclaration, declarations_of, joined_bits, if_several, is_pure_alone, references_to, Symbol}

pub record KeptSymbol : Type 0 where
  pub name : List ℕ
  pub scope : ℕ
  pub flags : ℕ
  pub declarations : List Redeclaration
  pub references : List ℕ

abbrev pub blank : Binding → KeptSymbol
blank b = record { name = b.name; scope = b.scope; flags = 0; declarations = []; references = [] }

abbrev pub undeclared : (name : List ℕ) → (flags scope : ℕ) → KeptSymbol
undeclared name flags scope = record { name = name; scope = scope; flags = flags; declarations = []; references = [] }

abbrev pub with_declaration : Redeclaration → KeptSymbol → KeptSymbol
with_declaration d s = record { name = s.name; scope = s.scope; flags = bit_or s.flags d.flags; declarations = s.declarations ++ d ∷ []; references = s.references }

abbrev pub with_reference : ℕ → KeptSymbol → KeptSymbol
with_reference r s = record { name = s.name; scope = s.scope; flags = s.flags; declarations = s.declarations; references = s.references ++ r ∷ [] }

-- one whose list has none that pass a test
abbrev pub kept_without : (away : ℕ → Bool) → KeptSymbol → KeptSymbol
kept_without away s = record s { references = without away s.references }

-- one with those of its declarations that are among some, and of its references those among some
abbrev pub kept_at : (all some : List BindingSite) → (uses : List (Option ℕ)) → (number : ℕ) → Binding → KeptSymbol
kept_at all some uses number b =
    record { name = b.name; scope = b.scope; flags = joined_bits 0 (declarations_of all number some); declarations = declarations_of all number some; references = references_to number 0 uses }

abbrev pub kept_from : (all some : List BindingSite) → (uses : List (Option ℕ)) → (next : ℕ) → List Binding → List KeptSymbol
kept_from all some uses next [] = []
kept_from all some uses next (b ∷ bs) = kept_at all some uses next b ∷ kept_from all some uses (suc next) bs

-- what a table says of it
abbrev pub told : KeptSymbol → Symbol
told s = record { name = s.name; flags = s.flags; scope = s.scope; redeclarations = if_several s.declarations; references = s.references; is_pure = is_pure_alone s.declarations }
