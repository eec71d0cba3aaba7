-- An `if` that loses an alternate.
use Rattle.std.proofs.Common.{◌≡◌, ◌∙◌, ◌+◌, ◌<◌, ◌≤◌, ℕ, zero, suc, Bool, true, false, List, [], ◌∷◌, Option, Some, None, length, drop, get_or, set, slice_index_or, refl, sym, ap, drop-cons, add-one, true≢false, arith}
use Rattle.std.proofs.lemmas.List.{drop_all}
use Rattle.js_syntax.specs.declared.node_kind.NodeKind.{NodeKind as Kind}
use Rattle.js_syntax.specs.declared.node_kind.NodeKind.TheVariants.{IfStatement as if_statement, EmptyStatement as empty_statement}
use Rattle.js_syntax.specs.Node.{Forest, Tree, Note, nothing, node, absent, row}
use Rattle.min_context.specs.declared.ancestor.Ancestor.{Ancestor}
use Rattle.min_context.specs.Edited.{Edited}
use Rattle.min_context.specs.Seen.{Seen}
use Rattle.scope_laws.specs.Place as places
use Rattle.rules.specs.Expressions.EmptyAlternates.{last_in, last_from, alternate_left}
use Rattle.rules.proofs.Expressions.EmptyAlternates.{each_alternate}
use Rattle.min_statements.specs.Alternates.{has_empty_alternate, cleared_at}
use Rattle.min_statements.proofs.Calls.{CallsStay}
use Rattle.min_statements.proofs.Shed.{leaves_none, edited}

-- ---- the nodes above, one after the other

pub next_last : (xs : List Ancestor) (i : ℕ) (d : Ancestor) (last : Bool) → i < length xs → last_from last (drop i xs) ≡ last_from (last_in last (slice_index_or xs i d)) (drop (i + 1) xs)
next_last xs i d last h = ap (last_from last) (drop-cons xs i d h) ∙ ap (λ k. last_from (last_in last (slice_index_or xs i d)) (drop k xs)) (sym (add-one i))

pub at_last : (xs : List Ancestor) (i : ℕ) (last : Bool) → length xs ≤ i → last_from last (drop i xs) ≡ last
at_last xs i last h = ap (last_from last) (drop_all i xs h)

-- ---- the row without the alternate

pub cleared : (xs : List (Option Tree)) (i : ℕ) (y : Option Tree) → i < length xs → y ≡ None → row (set xs i y) ≡ cleared_at i (row xs)
cleared [] i y l puts = absurd (Prim.omega (arith, l))
cleared (None ∷ xs) zero y l puts = ap (λ z. row (z ∷ xs)) puts
cleared (Some t ∷ xs) zero y l puts = ap (λ z. row (z ∷ xs)) puts
cleared (None ∷ xs) (suc i) y l puts = ap absent (cleared xs i y (Prim.omega (arith, l)) puts)
cleared (Some t ∷ xs) (suc i) y l puts = ap (node t.kind t.note t.below) (cleared xs i y (Prim.omega (arith, l)) puts)

pub none_cleared : (xs : List (Option Tree)) (i : ℕ) → length xs ≤ i → row xs ≡ cleared_at i (row xs)
none_cleared [] zero l = refl
none_cleared [] (suc i) l = refl
none_cleared (x ∷ xs) zero l = absurd (Prim.omega (arith, l))
none_cleared (None ∷ xs) (suc i) l = ap absent (none_cleared xs i (Prim.omega (arith, l)))
none_cleared (Some t ∷ xs) (suc i) l = ap (node t.kind t.note t.below) (none_cleared xs i (Prim.omega (arith, l)))

-- ---- as the rule says it

no_alternate : {P : Type 0} → false ≡ true → P
no_alternate e = absurd (true≢false (sym e))

of_last : (n : Note) (t l : Kind) (i j o : Note) (d b : Forest) (k : Kind) (c : Forest) → has_empty_alternate if_statement (node t i d (node l j b (node k o c nothing))) ≡ true
    → alternate_left true n if_statement (node t i d (node l j b (node k o c nothing))) ≡ Some (record { kind = if_statement; note = n; below = cleared_at 2 (node t i d (node l j b (node k o c nothing))) })
of_last n t l i j o d b empty_statement nothing e = refl
of_last n t l i j o d b empty_statement (absent r) e = no_alternate e
of_last n t l i j o d b empty_statement (node q m a r) e = no_alternate e
of_last n t l i j o d b k c e = no_alternate e

pub ruled : (n : Note) (k : Kind) (t : Forest) → has_empty_alternate k t ≡ true → alternate_left true n k t ≡ Some (record { kind = k; note = n; below = cleared_at 2 t })
ruled n if_statement nothing e = no_alternate e
ruled n if_statement (absent r) e = no_alternate e
ruled n if_statement (node t i d nothing) e = no_alternate e
ruled n if_statement (node t i d (absent nothing)) e = no_alternate e
ruled n if_statement (node t i d (absent (absent r))) e = no_alternate e
ruled n if_statement (node t i d (absent (node l j b nothing))) e = no_alternate e
ruled n if_statement (node t i d (absent (node l j b (absent r)))) e = no_alternate e
ruled n if_statement (node t i d (absent (node l j b (node k o c r)))) e = no_alternate e
ruled n if_statement (node t i d (node l j b nothing)) e = no_alternate e
ruled n if_statement (node t i d (node l j b (absent nothing))) e = no_alternate e
ruled n if_statement (node t i d (node l j b (absent (absent r)))) e = no_alternate e
ruled n if_statement (node t i d (node l j b (absent (node k o c r)))) e = no_alternate e
ruled n if_statement (node t i d (node l j b (node k o c nothing))) e = of_last n t l i j o d b k c e
ruled n if_statement (node t i d (node l j b (node k o c (absent r)))) e = no_alternate e
ruled n if_statement (node t i d (node l j b (node k o c (node q m a r)))) e = no_alternate e
ruled n k t e = no_alternate e

-- where there is none
pub none_ruled : (last : Bool) (n : Note) (k : Kind) (t : Forest) → has_empty_alternate k t ≡ false → alternate_left last n k t ≡ None
none_ruled last n if_statement (node t i d (node l j b (node empty_statement o nothing nothing))) e = absurd (true≢false e)
none_ruled last n k t e = refl

-- where an alternate of an `if` around may follow
pub none_there : (n : Note) (k : Kind) (t : Forest) → alternate_left false n k t ≡ None
none_there n if_statement (node t i d (node l j b (node empty_statement o nothing nothing))) = refl
none_there n k t = refl

-- ---- what leaves

pub alternate_edited : (c : Seen) (x y : Tree) (last : Bool) → alternate_left last x.note x.kind x.below ≡ Some y → Edited c x y true (record c { requested = true })
alternate_edited c x y last e =
    each_alternate (λ k t z. Edited c (record { kind = k; note = x.note; below = t }) z true (record c { requested = true }))
    (λ n i j o t l d b. edited (record { kind = if_statement; note = x.note; below = node t i d (node l j b (node empty_statement o nothing nothing)) }) (record { kind = if_statement; note = n; below = node t i d (node l j b (absent nothing)) }) refl
    (leaves_none (record c { requested = true })) (λ r. Prim.omega arith) (Prim.omega arith)) last x.note x.kind x.below y e

-- ---- no call of it is a direct one of `eval`

pub alternate_calls : (a : places.Around) (last : Bool) (x y : Tree) → alternate_left last x.note x.kind x.below ≡ Some y → CallsStay a x y
alternate_calls a last x y e =
    each_alternate (λ k t z. CallsStay a (record { kind = k; note = x.note; below = t }) z) (λ n i j o t l d b. record { fewer = Prim.omega arith; old = refl; in_with = false; bare = refl }) last x.note x.kind x.below y e
