-- The only marks that there can be.
use Rattle.std.specs.Prelude.{ℕ, suc, List, [], ◌∷◌, map, nat_eq, if◌then◌else◌}
use Rattle.scope_rules.specs.Site.{ScopeSite, BindingSite, ReferenceSite, Found}
use Rattle.scope_rules.specs.Table.{number_or_none, symbols_declared}
use Rattle.scope_match.specs.Matches.{Marks}

-- The marks of first declarations, of declarations with these symbols: a symbol is declared for the first time where its number
-- is how many were declared before.
abbrev pub first_marks_from : (next : ℕ) → (symbols : List ℕ) → List BindingSite → List ℕ
first_marks_from next symbols [] = []
first_marks_from next [] (b ∷ bs) = []
first_marks_from next (n ∷ ns) (b ∷ bs) = if nat_eq n next then number_or_none b.id ∷ first_marks_from (suc next) ns bs else first_marks_from next ns bs

abbrev pub candidates : Found → Marks
candidates f = record {
  scopes = map (λ (s : ScopeSite). number_or_none s.id) f.scopes;
  symbols = first_marks_from 0 (symbols_declared f.bindings) f.bindings;
  references = map (λ (r : ReferenceSite). number_or_none r.id) f.references;
}
