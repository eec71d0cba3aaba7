-- What a table that is exact but for marks tells of uses.
use Rattle.std.proofs.Common.{◌≡◌, ◌∙◌, ◌↔◌, ◌≤◌, ◌+◌, inl, inr, ℕ, List, [], ◌∷◌, Bool, true, false, slice_get, Option, Some, true≢false, sym, ap, subst, arith, eq-eqb}
use Rattle.std.specs.Prelude.{cond}
use Rattle.js_syntax.specs.Class.{root}
use Rattle.js_syntax.specs.Node.{Forest}
use Rattle.json_shape.specs.Shape.{Fits}
use Rattle.scope_rules.specs.Site.{BindingSite, ReferenceSite, sites_of, bindings_among, references_among}
use Rattle.scope_rules.specs.Table.{Symbol, Reference, Scoping}
use Rattle.scope_laws.specs.Exact.{Among, Names, IsNamed}
use Rattle.scope_laws.proofs.Bindings.{same_value}
use Rattle.scope_counts.specs.Exact.{count, references_of, lists_of}
use Rattle.scope_counts.specs.Scopes.{ExactButMarks}
use Rattle.steps.specs.Owed.Unseen.{IsUnreferred}
use Rattle.steps.proofs.Owed.Pruning.{pruned, prunes}
use Rattle.steps.proofs.Marked.Tables.{pruned_exact}

count_it : (id : ℕ) (ids : List ℕ) → Among id ids → 1 ≤ count id ids
count_it id [] h = absurd h
count_it id (x ∷ ids) (inl e) = subst (λ b. 1 ≤ cond b 1 0 + count id ids) (sym (eq-eqb id x (sym e))) (Prim.omega arith)
count_it id (x ∷ ids) (inr h) = Prim.omega (arith, count_it id ids h)

all_marked : (b : Bool) (m n : ℕ) → m ≡ cond b 0 n → (1 ≤ n → b ≡ true) → 1 ≤ m → ⊥
all_marked true m n e f h = Prim.omega (arith, e, h)
all_marked false m n e f h = let l : 1 ≤ n = Prim.omega (arith, e, h) in true≢false (sym (f l))

pub unreferred : (t : Forest) → Fits root t → (s : Scoping) (marked : ℕ → Bool) → ExactButMarks s marked t → (b : BindingSite) → Among b (bindings_among (sites_of t)) → (symbol : ℕ) → b.id ≡ Some symbol
    → ((id : ℕ) → 1 ≤ count id (lists_of s symbol) → marked id ≡ true) → IsUnreferred t b
unreferred t fits s marked x b h symbol is all r k e =
    let table = pruned marked s in
    let exact = pruned_exact t fits marked s table (prunes marked s) x in
    let d = exact.declared b h in
    let same : d.number ≡ symbol = same_value (sym d.is_marked ∙ is) in
    let entry = exact.entered r k in
    let named : IsNamed (bindings_among (sites_of t)) (references_among (sites_of t)) d.number entry.id =
    record { reference = r; stands = k; has_id = entry.has_id; names = record { declaration = b; stands = h; is_marked = d.is_marked; binds = e } } in
    let listed : Among entry.id (lists_of table d.number) = subst (λ (o : Option Symbol). Among entry.id (references_of o)) (sym d.stands) (((exact.listed d.number d.symbol d.stands).holds entry.id).1 named) in
    all_marked (marked entry.id) (count entry.id (lists_of table d.number)) (count entry.id (lists_of s d.number)) ((prunes marked s).lists d.number entry.id)
    (λ l. all entry.id (subst (λ n. 1 ≤ count entry.id (lists_of s n)) same l)) (count_it entry.id (lists_of table d.number) listed)

pub entries_tell : (t : Forest) → Fits root t → (s : Scoping) (marked : ℕ → Bool) → ExactButMarks s marked t → (r : ReferenceSite) → Among r (references_among (sites_of t)) → (id : ℕ) (entry : Reference) → r.id ≡ Some id
    → slice_get s.references id ≡ Some entry → (symbol : ℕ) → (entry.symbol ≡ Some symbol) ↔ Names (bindings_among (sites_of t)) r symbol
entries_tell t fits s marked x r h id entry is stands symbol =
    let exact = pruned_exact t fits marked s (pruned marked s) (prunes marked s) x in
    let e = exact.entered r h in
    let same : e.id ≡ id = same_value (sym e.has_id ∙ is) in
    let one : e.entry ≡ entry = same_value (sym e.stands ∙ ap (slice_get s.references) same ∙ stands) in (
      λ f. (e.names symbol).0 (ap (λ (y : Reference). y.symbol) one ∙ f),
      λ n. ap (λ (y : Reference). y.symbol) (sym one) ∙ (e.names symbol).1 n,
    )
