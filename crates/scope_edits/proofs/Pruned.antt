-- Lists without the references that are marked.
use Rattle.std.proofs.Common.{◌≡◌, ◌∙◌, ◌+◌, ℕ, List, [], ◌∷◌, Bool, true, false, not, cond, nat_eq, true≢false, slice_get, Option, Some, None, option_map, refl, sym, ap, arith, eqb-true}
use Rattle.std.proofs.lemmas.Option.{slice_get-map}
use Rattle.js_syntax.specs.Node.{Forest}
use Rattle.scope_rules.specs.Table.{Symbol, Scoping}
use Rattle.symbol_sets.specs.Numbers.{has}
use Rattle.scope_table.specs.Editing.{without, symbol_without, pruned}
use Rattle.scope_counts.specs.Exact.{count, references_of}
use Rattle.scope_counts.specs.Losing.{Prunes, SameSymbol}
use Rattle.scope_counts.specs.Scopes.{ExactButMarks, unmarked}
use Rattle.scope_counts.proofs.Tables.{marks_may_go}

abbrev bit : Bool → ℕ
bit b = cond b 1 0

count_without : (away : ℕ → Bool) (r : ℕ) (ids : List ℕ) → count r (without away ids) ≡ cond (away r) 0 (count r ids)
count_without away r [] = none (away r)
  where
    none : (b : Bool) → count r [] ≡ cond b 0 (count r [])
    none true = refl
    none false = refl
count_without away r (i ∷ ids) = go (away i) (away r) (nat_eq r i) refl refl refl (count_without away r ids)
  where
    apart : (b : Bool) → nat_eq r i ≡ true → away i ≡ true → away r ≡ b → b ≡ true
    apart b e h g = sym g ∙ ap away (eqb-true r i e) ∙ h

    go : (b c e : Bool) → away i ≡ b → away r ≡ c → nat_eq r i ≡ e → count r (without away ids) ≡ cond c 0 (count r ids)
        → count r (cond (not b) (i ∷ without away ids) (without away ids)) ≡ cond c 0 (cond e 1 0 + count r ids)
    go true true e h g f later = later
    go true false true h g f later = absurd (true≢false (sym (apart false f h g)))
    go true false false h g f later = Prim.omega (arith, later)
    go false true true h g f later = absurd (true≢false (sym (ap away (sym (eqb-true r i f)) ∙ g) ∙ h))
    go false true false h g f later = Prim.omega (arith, later, ap bit f)
    go false false true h g f later = Prim.omega (arith, later, ap bit f)
    go false false false h g f later = Prim.omega (arith, later, ap bit f)

listed : (away : ℕ → Bool) (r : ℕ) (o : Option Symbol) → count r (references_of (option_map (symbol_without away) o)) ≡ cond (away r) 0 (count r (references_of o))
listed away r None = count_without away r []
listed away r (Some y) = count_without away r y.references

same_symbol : (away : ℕ → Bool) (s : Scoping) (number : ℕ) (y : Symbol) → slice_get s.symbols number ≡ Some y → SameSymbol (pruned away s) number y
same_symbol away s number y is = record {
  symbol = symbol_without away y;
  stands = slice_get-map (symbol_without away) s.symbols number ∙ ap (option_map (symbol_without away)) is;
  same_name = refl;
}

pub prunes : (away : ℕ → Bool) (s : Scoping) → Prunes away s (pruned away s)
prunes away s = record {
  same_entries = refl;
  same_symbols = same_symbol away s;
  lists = λ number r. ap (λ o. count r (references_of o)) (slice_get-map (symbol_without away) s.symbols number) ∙ listed away r (slice_get s.symbols number);
}

pub exact_again : (set : List Bool) (marked : ℕ → Bool) (s : Scoping) (t : Forest) → ((r : ℕ) → has set r ≡ marked r) → ExactButMarks s marked t → ExactButMarks (pruned (has set) s) unmarked t
exact_again set marked s t same exact =
    let all : Prunes (has set) s (pruned (has set) s) = prunes (has set) s in
    marks_may_go marked s (pruned (has set) s) t
    (record { same_entries = all.same_entries; same_symbols = all.same_symbols; lists = λ number r. all.lists number r ∙ ap (λ b. cond b 0 (count r (references_of (slice_get s.symbols number)))) (same r) }) exact
