-- A table without marked ids in its lists.
use Rattle.std.proofs.Common.{◌≡◌, ◌∙◌, ◌+◌, ℕ, List, [], ◌∷◌, map, Bool, true, false, nat_eq, true≢false, slice_get, Option, Some, None, option_map, if◌then◌else◌, inl, inr, refl, sym, ap, subst, arith, eqb-true}
use Rattle.std.specs.Prelude.{cond}
use Rattle.std.proofs.lemmas.Option.{slice_get-map}
use Rattle.js_syntax.specs.Node.{Forest}
use Rattle.scope_rules.specs.Table.{Symbol, Scoping}
use Rattle.scope_laws.specs.Exact.{Among}
use Rattle.scope_laws.proofs.Bindings.{none_is_some, same_value}
use Rattle.scope_counts.specs.Exact.{count, references_of}
use Rattle.scope_counts.specs.Losing.{Prunes}
use Rattle.scope_counts.specs.Scopes.{ExactButMarks}
use Rattle.scope_counts.specs.Edits.{Rooted, program_with}
use Rattle.scope_counts.proofs.Tables.{marks_may_go}
use Rattle.scope_counts.proofs.Whole.{exact_with}
use Rattle.steps.specs.Owed.Kept.{Shortens, IsKept}

abbrev staying : (ℕ → Bool) → List ℕ → List ℕ
staying away [] = []
staying away (id ∷ ids) = if away id then staying away ids else id ∷ staying away ids

abbrev with_staying : (ℕ → Bool) → Symbol → Symbol
with_staying away y = record { name = y.name; flags = y.flags; scope = y.scope; redeclarations = y.redeclarations; references = staying away y.references; is_pure = y.is_pure }

abbrev pub pruned : (ℕ → Bool) → Scoping → Scoping
pruned away s = record { scopes = s.scopes; symbols = map (with_staying away) s.symbols; references = s.references; unresolved = s.unresolved }

stays_among : (away : ℕ → Bool) (ids : List ℕ) (id : ℕ) → Among id (staying away ids) → Among id ids
stays_among away [] id h = h
stays_among away (i ∷ ids) id h = go (away i) (stays_among away ids id) h
  where
    go : (b : Bool) → (Among id (staying away ids) → Among id ids) → Among id (if b then staying away ids else i ∷ staying away ids) → Among id (i ∷ ids)
    go true later k = inr (later k)
    go false later (inl k) = inl k
    go false later (inr k) = inr (later k)

abbrev bit : Bool → ℕ
bit b = cond b 1 0

count_staying : (away : ℕ → Bool) (r : ℕ) (ids : List ℕ) → count r (staying away ids) ≡ cond (away r) 0 (count r ids)
count_staying away r [] = none (away r)
  where
    none : (b : Bool) → count r [] ≡ cond b 0 (count r [])
    none true = refl
    none false = refl
count_staying away r (i ∷ ids) = go (away i) (away r) (nat_eq r i) refl refl refl (count_staying away r ids)
  where
    apart : (b : Bool) → nat_eq r i ≡ true → away i ≡ true → away r ≡ b → b ≡ true
    apart b e h g = sym g ∙ ap away (eqb-true r i e) ∙ h

    go : (b c e : Bool) → away i ≡ b → away r ≡ c → nat_eq r i ≡ e → count r (staying away ids) ≡ cond c 0 (count r ids)
        → count r (if b then staying away ids else i ∷ staying away ids) ≡ cond c 0 (cond e 1 0 + count r ids)
    go true true e h g f later = later
    go true false true h g f later = absurd (true≢false (sym (apart false f h g)))
    go true false false h g f later = Prim.omega (arith, later)
    go false true true h g f later = absurd (true≢false (sym (ap away (sym (eqb-true r i f)) ∙ g) ∙ h))
    go false true false h g f later = Prim.omega (arith, later, ap bit f)
    go false false true h g f later = Prim.omega (arith, later, ap bit f)
    go false false false h g f later = Prim.omega (arith, later, ap bit f)

listed : (away : ℕ → Bool) (r : ℕ) (o : Option Symbol) → count r (references_of (option_map (with_staying away) o)) ≡ cond (away r) 0 (count r (references_of o))
listed away r None = count_staying away r []
listed away r (Some y) = count_staying away r y.references

pub prunes : (away : ℕ → Bool) (s : Scoping) → Prunes away s (pruned away s)
prunes away s = record {
  same_entries = refl;
  same_symbols = λ n y e. record { symbol = with_staying away y; stands = slice_get-map (with_staying away) s.symbols n ∙ ap (option_map (with_staying away)) e; same_name = refl };
  lists = λ n r. ap (λ o. count r (references_of o)) (slice_get-map (with_staying away) s.symbols n) ∙ listed away r (slice_get s.symbols n);
}

record Mapped (f : Symbol → Symbol) (o : Option Symbol) (y : Symbol) : Type 0 where
  value : Symbol
  is : o ≡ Some value
  gives : f value ≡ y

mapped : (f : Symbol → Symbol) (o : Option Symbol) (y : Symbol) → option_map f o ≡ Some y → Mapped f o y
mapped f None y e = absurd (none_is_some e)
mapped f (Some x) y e = record { value = x; is = refl; gives = same_value e }

pub prunes_shorten : (away : ℕ → Bool) (s t : Scoping) → Shortens s t → Shortens s (pruned away t)
prunes_shorten away s t shortens = record {
  same_entries = shortens.same_entries;
  symbols = λ n y e.
      let m = mapped (with_staying away) (slice_get t.symbols n) y (sym (slice_get-map (with_staying away) t.symbols n) ∙ e) in
      let h = shortens.symbols n m.value m.is in
      record { symbol = h.symbol; stood = h.stood; listed = λ id k. h.listed id (stays_among away m.value.references id (subst (λ (x : Symbol). Among id x.references) (sym m.gives) k)) };
}

-- a table that is exact but for what left is exact once that is out of its lists
pub kept_but_marks : (p : Rooted) (away : ℕ → Bool) (t u : Forest) (s : Scoping) (kept : IsKept s (program_with p t)) → ExactButMarks kept.table away (program_with p u) → IsKept s (program_with p u)
kept_but_marks p away t u s kept marked = record {
  table = pruned away kept.table;
  shortens = prunes_shorten away s kept.table kept.shortens;
  exact = (exact_with p u (pruned away kept.table)).1 (marks_may_go away kept.table (pruned away kept.table) (program_with p u) (prunes away kept.table) marked);
}
