-- What is answered of symbols is what exports declare.
use Rattle.std.proofs.Common.{◌≡◌, ◌∙◌, ◌<◌, inl, inr, ℕ, List, length, Bool, true, false, true≢false, Some, sym, ap, subst, arith, eqb-true, eq-eqb}
use Rattle.std.proofs.lemmas.Bool.{and_parts, and_from}
use Rattle.std.proofs.lemmas.List.{get_or-replicate, length-replicate}
use Rattle.std.proofs.lemmas.Option.{slice_get_within, get_or_from_slice_get}
use Rattle.js_syntax.specs.Node.{Forest}
use Rattle.js_effects.specs.Silence.{is_marked}
use Rattle.symbol_sets.specs.Numbers.{has, none_below}
use Rattle.scope_rules.specs.Context.{outermost}
use Rattle.scope_rules.specs.Site.{Site, BindingSite}
use Rattle.scope_rules.specs.Table.{Symbol, Scoping}
use Rattle.scope_table.specs.Reading.{no_symbol, symbol_at}
use Rattle.scope_laws.specs.Exact.{Among}
use Rattle.scope_laws.proofs.Bindings.{same_value}
use Rattle.steps.specs.Naming.Standing.{exported_sites, exported_declarations}
use Rattle.exported_names.specs.Answers.{answers}
use Rattle.exported_names.specs.Exported.{with_exports, is_outermost, is_exported, exported_of}
use Rattle.exported_names.specs.Placed.{IsPlaced, ArePlaced}
use Rattle.rules.specs.DeadCode.Knows.{TellsExported}
use Rattle.rules.specs.DeadCode.Quiet.{IsExported}
use Rattle.exported_names.proofs.Listing.{below_or_above, answer, no_answer}
use Rattle.exported_names.proofs.Walked.{with_sites, exports_walked, came, marked, exported_stands}

module _ (s : Scoping) (t : Forest) (placed : ArePlaced s t) where
  abbrev count : ℕ
  count = length s.symbols

  abbrev exports : List Site
  exports = exported_sites (λ at. outermost) 0 0 t

  abbrev named : List Bool
  named = with_exports t (none_below count)

  walked : (n : ℕ) → has named n ≡ has (with_sites exports (none_below count)) n
  walked n = ap (λ marks. has marks n) (exports_walked (λ at. outermost) 0 0 t (none_below count))

  place : (e : BindingSite) → Among e (exported_declarations t) → IsPlaced s e
  place e h = placed e (exported_stands (λ at. outermost) 0 0 t e h)

  scope_is : (e : BindingSite) (p : IsPlaced s e) → (symbol_at s p.number).scope ≡ e.layer.scope
  scope_is e p = ap (λ (x : Symbol). x.scope) (get_or_from_slice_get s.symbols p.number p.symbol no_symbol p.stands) ∙ p.same_scope

  each : TellsExported (exported_of s t) t
  each e h zero =
      let p = place e h in
      let below = slice_get_within s.symbols p.number p.symbol p.stands in
      ap (is_marked (exported_of s t)) p.is_marked
      ∙ answer (is_exported s named) count p.number below
      ∙ and_from (has named p.number) (is_outermost s p.number)
      (walked p.number ∙ marked exports (none_below count) p.number e h p.is_marked (Prim.omega (arith, below, length-replicate count false)))
      (eq-eqb (symbol_at s p.number).scope 0 (scope_is e p ∙ zero))

  only : (n : ℕ) → is_marked (exported_of s t) (Some n) ≡ true → IsExported t n
  only n h = elim (below_or_above n count) [
    | inr l ↦ absurd (true≢false (sym h ∙ no_answer (is_exported s named) count n l))
    | inl l ↦ by l (and_parts (has named n) (is_outermost s n) (sym (answer (is_exported s named) count n l) ∙ h))
  ]
    where
      by : n < count → (has named n ≡ true) × (is_outermost s n ≡ true) → IsExported t n
      by l both = elim (came exports (none_below count) n (sym (walked n) ∙ both.0)) [
        | inl g ↦ absurd (true≢false (sym g ∙ get_or-replicate count n false false l))
        | inr i ↦
            let p = place i.declaration i.stands in
            let same : p.number ≡ n = same_value (sym p.is_marked ∙ i.has_mark) in
            record {
              declaration = i.declaration;
              stands = i.stands;
              is_outermost = sym (scope_is i.declaration p) ∙ ap (λ m. (symbol_at s m).scope) same ∙ eqb-true (symbol_at s n).scope 0 both.1;
              has_mark = i.has_mark;
            }
      ]

-- what is answered by what the walk has marked
pub exported_are : (s : Scoping) (t : Forest) (marks symbols : List Bool) → marks ≡ with_exports t (none_below (length s.symbols)) → symbols ≡ answers (is_exported s marks) (length s.symbols) → symbols ≡ exported_of s t
exported_are s t marks symbols walks keeps = keeps ∙ ap (λ (v : List Bool). answers (is_exported s v) (length s.symbols)) walks

pub exports_told : (s : Scoping) (t : Forest) (v : List Bool) → v ≡ exported_of s t → ArePlaced s t → TellsExported v t
exports_told s t v e placed = subst (λ w. TellsExported w t) (sym e) (each s t placed)

pub exports_only : (s : Scoping) (t : Forest) (v : List Bool) → v ≡ exported_of s t → ArePlaced s t → (n : ℕ) → is_marked v (Some n) ≡ true → IsExported t n
exports_only s t v e placed n h = only s t placed n (ap (λ w. is_marked w (Some n)) (sym e) ∙ h)
