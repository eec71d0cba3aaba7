-- The symbols' lists hold as many references as have a binding.
use Rattle.std.proofs.Common.{◌≡◌, ◌∙◌, ◌+◌, ◌<◌, ℕ, zero, suc, List, [], ◌∷◌, map, length, Bool, true, false, true≢false, nat_eq, slice_get, Option, Some, None, is_some, option_and_then, if◌then◌else◌, refl, sym, ap, ap₂, arith, eq-eqb, eqb-true}
use Rattle.scope_rules.specs.Site.{BindingSite, ReferenceSite, Found}
use Rattle.scope_rules.specs.Binding.{Binding, declared_by, binding_of, resolved}
use Rattle.scope_rules.specs.Table.{symbols_of, symbol_of, symbol_used, is_number, references_to, symbols_from, scoping_of}
use Rattle.scope_laws.specs.Counted.{listed_references}
use Rattle.scope_laws.proofs.Bindings.{none_is_some, declared_binding}
use Rattle.scope_laws.proofs.Numbers.{numbered, has_symbol}

one_if : Bool → ℕ
one_if b = if b then 1 else 0

-- how many of the uses are of a symbol
uses_of_one : (symbol : ℕ) → List (Option ℕ) → ℕ
uses_of_one symbol [] = 0
uses_of_one symbol (o ∷ uses) = one_if (is_number symbol o) + uses_of_one symbol uses

length_if : (b : Bool) (x : ℕ) (xs ys : List ℕ) (n : ℕ) → length xs ≡ n → ys ≡ xs → length (if b then x ∷ xs else ys) ≡ one_if b + n
unfolding one_if
length_if true x xs ys n e f = Prim.omega (arith, e)
length_if false x xs ys n e f = ap length f ∙ e ∙ Prim.omega arith

lengths : (symbol next : ℕ) (uses : List (Option ℕ)) → length (references_to symbol next uses) ≡ uses_of_one symbol uses
unfolding uses_of_one
lengths symbol next [] = refl
lengths symbol next (o ∷ uses) = length_if (is_number symbol o) next (references_to symbol (suc next) uses) (references_to symbol (suc next) uses) (uses_of_one symbol uses) (lengths symbol (suc next) uses) refl

-- all uses of the symbols of these numbers, and how many of the symbols one use is of
uses_of_all : (next : ℕ) → List Binding → List (Option ℕ) → ℕ
uses_of_all next [] uses = 0
uses_of_all next (b ∷ all) uses = uses_of_one next uses + uses_of_all (suc next) all uses

symbols_of_one : (next : ℕ) → List Binding → Option ℕ → ℕ
symbols_of_one next [] o = 0
symbols_of_one next (b ∷ all) o = one_if (is_number next o) + symbols_of_one (suc next) all o

table_lists : (bs : List BindingSite) (uses : List (Option ℕ)) (next : ℕ) (all : List Binding) → listed_references (symbols_from bs uses next all) ≡ uses_of_all next all uses
unfolding uses_of_all
table_lists bs uses next [] = refl
table_lists bs uses next (b ∷ all) = ap₂ (λ (m n : ℕ). m + n) (lengths next 0 uses) (table_lists bs uses (suc next) all)

no_uses : (next : ℕ) (all : List Binding) → uses_of_all next all [] ≡ 0
unfolding uses_of_all uses_of_one
no_uses next [] = refl
no_uses next (b ∷ all) = ap (λ (n : ℕ). 0 + n) (no_uses (suc next) all)

one_more_use : (next : ℕ) (all : List Binding) (o : Option ℕ) (uses : List (Option ℕ)) → uses_of_all next all (o ∷ uses) ≡ symbols_of_one next all o + uses_of_all next all uses
unfolding uses_of_all uses_of_one symbols_of_one
one_more_use next [] o uses = refl
one_more_use next (b ∷ all) o uses = Prim.omega (arith, one_more_use (suc next) all o uses)

of_none : (next : ℕ) (all : List Binding) → symbols_of_one next all None ≡ 0
unfolding symbols_of_one one_if
of_none next [] = refl
of_none next (b ∷ all) = ap (λ (n : ℕ). 0 + n) (of_none (suc next) all)

no_number : (next m : ℕ) (b : Bool) → nat_eq m next ≡ b → m < next → one_if b ≡ 0
unfolding one_if
no_number next m true e h = Prim.omega (arith, eqb-true m next e, h)
no_number next m false e h = refl

of_past : (next m : ℕ) (all : List Binding) → m < next → symbols_of_one next all (Some m) ≡ 0
unfolding symbols_of_one
of_past next m [] h = refl
of_past next m (b ∷ all) h = Prim.omega (arith, no_number next m (nat_eq m next) refl h, of_past (suc next) m all (Prim.omega (arith, h)))

not_yet : (next m : ℕ) (b : Bool) → nat_eq m next ≡ b → next < m → one_if b ≡ 0
unfolding one_if
not_yet next m true e h = Prim.omega (arith, eqb-true m next e, h)
not_yet next m false e h = refl

is_one : (b : Bool) → b ≡ true → one_if b ≡ 1
unfolding one_if
is_one true e = refl
is_one false e = absurd (true≢false (sym e))

of_place : (next m : ℕ) (all : List Binding) (place : ℕ) (b : Binding) → m ≡ next + place → slice_get all place ≡ Some b → symbols_of_one next all (Some m) ≡ 1
unfolding symbols_of_one
of_place next m [] place b is e = absurd (none_is_some e)
of_place next m (a ∷ all) zero b is e = Prim.omega (arith, is_one (nat_eq m next) (eq-eqb m next (Prim.omega (arith, is))), of_past (suc next) m all (Prim.omega (arith, is)))
of_place next m (a ∷ all) (suc place) b is e = Prim.omega (arith, not_yet next m (nat_eq m next) refl (Prim.omega (arith, is)), of_place (suc next) m all place b (Prim.omega (arith, is)) e)

-- a reference is listed once if it has a binding
listed_if_bound : (bs : List BindingSite) (r : ReferenceSite) (o : Option Binding) → binding_of bs r ≡ o → symbols_of_one 0 (symbols_of bs) (option_and_then (symbol_of bs) o) ≡ one_if (is_some o)
unfolding one_if
listed_if_bound bs r None is = of_none 0 (symbols_of bs)
listed_if_bound bs r (Some b) is =
    let d = declared_binding bs r b is in
    let h = has_symbol bs d.site d.stands in
    let n = numbered 0 (symbols_of bs) (declared_by d.site) h.number h.is in
    ap (λ x. symbols_of_one 0 (symbols_of bs) (symbol_of bs x)) (sym d.same) ∙ ap (symbols_of_one 0 (symbols_of bs)) h.is
    ∙ of_place 0 h.number (symbols_of bs) n.place (declared_by d.site) n.is n.stands

one_or_none : (b : Bool) (n : ℕ) → one_if b + n ≡ (if b then suc n else n)
unfolding one_if
one_or_none true n = Prim.omega arith
one_or_none false n = Prim.omega arith

all_listed : (bs : List BindingSite) (rs : List ReferenceSite) → uses_of_all 0 (symbols_of bs) (map (symbol_used bs) rs) ≡ resolved bs rs
all_listed bs [] = no_uses 0 (symbols_of bs)
all_listed bs (r ∷ rs) =
    one_more_use 0 (symbols_of bs) (symbol_used bs r) (map (symbol_used bs) rs)
    ∙ ap₂ (λ (m n : ℕ). m + n) (listed_if_bound bs r (binding_of bs r) refl) (all_listed bs rs)
    ∙ one_or_none (is_some (binding_of bs r)) (resolved bs rs)

pub listed_resolved : (f : Found) → listed_references (scoping_of f).symbols ≡ resolved f.bindings f.references
listed_resolved f = table_lists f.bindings (map (symbol_used f.bindings) f.references) 0 (symbols_of f.bindings) ∙ all_listed f.bindings f.references
