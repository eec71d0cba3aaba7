-- What the facts call unlisted nothing uses.
use Rattle.std.proofs.Common.{◌≡◌, ◌∙◌, ◌≤◌, ◌+◌, ◌==◌, ℕ, suc, List, [], ◌∷◌, length, Bool, true, false, not, ◌&&◌, true≢false, if◌then◌else◌, slice_get, Option, Some, None, refl, sym, ap, subst, arith, eqb-true}
use Rattle.std.proofs.lemmas.Bool.{and_parts}
use Rattle.std.proofs.lemmas.Option.{get_or_from_slice_get}
use Rattle.js_syntax.specs.Node.{Forest, nothing, node, absent}
use Rattle.js_effects.specs.Silence.{is_marked}
use Rattle.scope_rules.specs.Context.{Context, inside, outermost}
use Rattle.scope_rules.specs.Site.{BindingSite, own_sites, opens_one, scope_count, sites, sites_of, bindings_among}
use Rattle.scope_rules.specs.Binding.{declared_by}
use Rattle.scope_rules.specs.Table.{Symbol, Scoping}
use Rattle.scope_table.specs.Reading.{no_symbol, symbol_at}
use Rattle.scope_laws.specs.Exact.{Among}
use Rattle.scope_counts.specs.Exact.{count, references_of, lists_of}
use Rattle.steps.specs.Naming.Standing.{is_export, exported_sites}
use Rattle.steps.proofs.Naming.Sites.{InThree, in_first, in_second, in_third, binding_in, binding_second, binding_third}
use Rattle.steps.specs.Allowed.Free.{IsFree}
use Rattle.steps.proofs.Owed.Pruning.{pruned, prunes}
use Rattle.steps.proofs.Marked.Tables.{pruned_exact}
use Rattle.steps.proofs.Marked.Referring.{unreferred}
use Rattle.js_syntax.proofs.Truth.{not_true}
use Rattle.rules.specs.DeadCode.Rules.{Facts, is_unlisted}
use Rattle.rules.specs.DeadCode.Knows.{Knows}

-- ---- lists

no_items : (xs : List ℕ) → (length xs == 0) ≡ true → xs ≡ []
no_items [] e = refl
no_items (x ∷ xs) e = absurd (Prim.omega (arith, eqb-true (length (x ∷ xs)) 0 e))

none_of : (s : Scoping) (n : ℕ) (o : Option Symbol) → slice_get s.symbols n ≡ o → (length (symbol_at s n).references == 0) ≡ true → references_of o ≡ []
none_of s n None is e = refl
none_of s n (Some y) is e = no_items y.references (subst (λ (z : Symbol). (length z.references == 0) ≡ true) (get_or_from_slice_get s.symbols n y no_symbol is) e)

none_listed : (xs : List ℕ) (id : ℕ) → xs ≡ [] → 1 ≤ count id xs → ⊥
none_listed [] id e l = Prim.omega (arith, l)
none_listed (x ∷ xs) id e l = absurd cc

-- ---- exports are declarations

pub exported_stands : (cs : ℕ → Context) (at next : ℕ) (t : Forest) (b : BindingSite) → Among b (bindings_among (exported_sites cs at next t)) → Among b (bindings_among (sites cs at next t))
exported_stands cs at next nothing b h = absurd h
exported_stands cs at next (absent rest) b h = exported_stands cs (suc at) next rest b h
exported_stands cs at next (node k n below rest) b h =
    by (is_export k)
    (binding_in b [] (if is_export k then sites (inside (cs at) next k below) 0 (next + opens_one k below) below else exported_sites (inside (cs at) next k below) 0 (next + opens_one k below) below)
    (exported_sites cs (suc at) (next + scope_count (node k n below nothing)) rest) h)
    (λ g. exported_stands (inside (cs at) next k below) 0 (next + opens_one k below) below b g)
    (λ g. exported_stands cs (suc at) (next + scope_count (node k n below nothing)) rest b g)
  where
    second : Among b (bindings_among (sites (inside (cs at) next k below) 0 (next + opens_one k below) below)) → Among b (bindings_among (sites cs at next (node k n below rest)))
    second g = binding_second b (own_sites (cs at) n k below) (sites (inside (cs at) next k below) 0 (next + opens_one k below) below) (sites cs (suc at) (next + scope_count (node k n below nothing)) rest) g

    third : Among b (bindings_among (sites cs (suc at) (next + scope_count (node k n below nothing)) rest)) → Among b (bindings_among (sites cs at next (node k n below rest)))
    third g = binding_third b (own_sites (cs at) n k below) (sites (inside (cs at) next k below) 0 (next + opens_one k below) below) (sites cs (suc at) (next + scope_count (node k n below nothing)) rest) g

    by : (d : Bool) → InThree b (bindings_among []) (bindings_among (if d then sites (inside (cs at) next k below) 0 (next + opens_one k below) below else exported_sites (inside (cs at) next k below) 0 (next + opens_one k below) below))
        (bindings_among (exported_sites cs (suc at) (next + scope_count (node k n below nothing)) rest))
        → (Among b (bindings_among (exported_sites (inside (cs at) next k below) 0 (next + opens_one k below) below)) → Among b (bindings_among (sites (inside (cs at) next k below) 0 (next + opens_one k below) below)))
        → (Among b (bindings_among (exported_sites cs (suc at) (next + scope_count (node k n below nothing)) rest)) → Among b (bindings_among (sites cs (suc at) (next + scope_count (node k n below nothing)) rest)))
        → Among b (bindings_among (sites cs at next (node k n below rest)))
    by d (in_first g) inner later = absurd g
    by true (in_second g) inner later = second g
    by false (in_second g) inner later = second (inner g)
    by d (in_third g) inner later = third (later g)

-- ---- what is unlisted is free

free_number : (f : Facts) (marked : ℕ → Bool) (v : Forest) → Knows f marked v → (d : BindingSite) → Among d (bindings_among (sites_of v)) → (symbol : ℕ) → d.id ≡ Some symbol → (length (symbol_at f.scoping symbol).references == 0) ≡ true
    → is_marked f.exported (Some symbol) ≡ false → IsFree v (declared_by d)
free_number f marked v h d stands symbol is none apart =
    let exact = pruned_exact v h.fits marked f.scoping (pruned marked f.scoping) (prunes marked f.scoping) h.exact in
    record {
      unreferred = unreferred v h.fits f.scoping marked h.exact d stands symbol is (λ id l. absurd (none_listed (lists_of f.scoping symbol) id (none_of f.scoping symbol (slice_get f.scoping.symbols symbol) refl none) l));
      unexported = λ e among first same.
          let one = (exact.one_symbol e d (exported_stands (λ at. outermost) 0 0 v e among) stands).1 same in
          true≢false (sym (h.exported e among first) ∙ ap (is_marked f.exported) (one ∙ is) ∙ apart);
    }

unlisted_free : (f : Facts) (marked : ℕ → Bool) (v : Forest) → Knows f marked v → (d : BindingSite) → Among d (bindings_among (sites_of v)) → (o : Option ℕ) → d.id ≡ o → is_unlisted f o ≡ true → IsFree v (declared_by d)
unlisted_free f marked v h d stands None is e = absurd (true≢false (sym e))
unlisted_free f marked v h d stands (Some n) is e =
    let listed = length (symbol_at f.scoping n).references == 0 in
    let parts = and_parts listed (not (is_marked f.exported (Some n))) (and_parts (not f.keeps_unused) (listed && not (is_marked f.exported (Some n))) e).1 in
    free_number f marked v h d stands n is parts.0 (not_true (is_marked f.exported (Some n)) parts.1)

pub is_free : (f : Facts) (marked : ℕ → Bool) (v : Forest) → Knows f marked v → (d : BindingSite) → Among d (bindings_among (sites_of v)) → is_unlisted f d.id ≡ true → IsFree v (declared_by d)
is_free f marked v h d stands e = unlisted_free f marked v h d stands d.id refl e
