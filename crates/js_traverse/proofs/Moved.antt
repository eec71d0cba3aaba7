-- Scopes may be put into another one after another.
use Rattle.std.proofs.Common.{◌≡◌, ◌∙◌, ℕ, zero, suc, ◌<◌, false, Option, Some, None, List, ◌∷◌, length, refl, ap, sym, subst}
use Rattle.std.specs.Prelude.{nat_eq}
use Rattle.std.specs.List.{list_any}
use Rattle.std.proofs.lemmas.Bool.{eqb-false, or_parts}
use Rattle.std.proofs.lemmas.List.{length-set, get_or-set_other}
use Rattle.std.proofs.lemmas.List.Elements.{All-head, All-tail, All-weaker}
use Rattle.scope_rules.specs.Table.{Scoping}
use Rattle.scope_table.specs.Reading.{scope_at, scopes_up, no_scope}
use Rattle.scope_table.specs.Editing.{with_parent, IsOutside}
use Rattle.js_traverse.specs.Below.{MayMove}

-- who is not on the way up may get another parent
same_way : (s : Scoping) (scope : ℕ) (parent : Option ℕ) (most : ℕ) (n : Option ℕ) → list_any (nat_eq scope) (scopes_up most s n) ≡ false → scopes_up most (with_parent scope parent s) n ≡ scopes_up most s n
same_way s scope parent zero n away = refl
same_way s scope parent (suc most) None away = refl
same_way s scope parent (suc most) (Some n) away =
    let parts = or_parts (nat_eq scope n) (list_any (nat_eq scope) (scopes_up most s (scope_at s n).parent)) away in
    let here : scope_at (with_parent scope parent s) n ≡ scope_at s n =
    get_or-set_other s.scopes scope n (record (scope_at s scope) { parent = parent }) no_scope (λ e. eqb-false scope n parts.0 (sym e)) in
    ap (λ x. n ∷ scopes_up most (with_parent scope parent s) x.parent) here ∙ ap (λ ns. n ∷ ns) (same_way s scope parent most (scope_at s n).parent parts.1)

pub same_length : (s : Scoping) (scope : ℕ) (parent : Option ℕ) → length (with_parent scope parent s).scopes ≡ length s.scopes
same_length s scope parent = length-set s.scopes scope (record (scope_at s scope) { parent = parent })

stays_outside : (s : Scoping) (scope other : ℕ) (parent : Option ℕ) (top : ℕ) → IsOutside s scope top → IsOutside s other top → IsOutside (with_parent scope parent s) other top
stays_outside s scope other parent top away is =
    ap (λ most. list_any (nat_eq other) (scopes_up most (with_parent scope parent s) (Some top))) (same_length s scope parent)
    ∙ ap (list_any (nat_eq other)) (same_way s scope parent (length s.scopes) (Some top) away) ∙ is

pub rest_may_move : (s : Scoping) (scope : ℕ) (scopes : List ℕ) (parent : ℕ) → MayMove (scope ∷ scopes) parent s → MayMove scopes parent (with_parent scope (Some parent) s)
rest_may_move s scope scopes parent may =
    let first = All-head (λ x. (x < length s.scopes) × IsOutside s x parent) scope scopes may in
    All-weaker (λ x. (x < length s.scopes) × IsOutside s x parent) (λ x. (x < length (with_parent scope (Some parent) s).scopes) × IsOutside (with_parent scope (Some parent) s) x parent)
    (λ x is. (subst (λ n. x < n) (sym (same_length s scope (Some parent))) is.0, stays_outside s scope x (Some parent) parent first.1 is.1))
    scopes (All-tail (λ x. (x < length s.scopes) × IsOutside s x parent) scope scopes may)
