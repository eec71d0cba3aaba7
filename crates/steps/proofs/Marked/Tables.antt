-- A table that is exact but for marks stays so.
use Rattle.std.proofs.Common.{◌≡◌, ◌∙◌, ◌↔◌, ◌≤◌, ◌+◌, ℕ, zero, suc, List, Bool, true, false, nat_eq, true≢false, slice_get, Option, Some, None, refl, sym, ap, subst, arith, eqb-true}
use Rattle.std.specs.Prelude.{cond}
use Rattle.js_syntax.specs.declared.node_kind.NodeKind.{NodeKind as Kind}
use Rattle.js_syntax.specs.declared.node_kind.NodeKind.TheVariants.{Program as program, ReferenceName as reference_name, TargetName as target_name}
use Rattle.js_syntax.specs.Class.{root}
use Rattle.js_syntax.specs.Node.{Forest, Note, nothing, node, absent}
use Rattle.json_shape.specs.Shape.{Fits}
use Rattle.scope_rules.specs.Site.{sites_of, found_in}
use Rattle.scope_rules.specs.Table.{Reference, Scoping, scoping_of, symbols_declared}
use Rattle.scope_rules.specs.Mark.{marked, first_marks}
use Rattle.scope_laws.proofs.Exact.{exact}
use Rattle.steps.proofs.Marked.Numbered.{marked_program}
use Rattle.scope_laws.specs.Exact.{Exact}
use Rattle.scope_laws.proofs.Bindings.{same_value}
use Rattle.scope_counts.specs.Counts.{declared_by_program, free, within, own, is_id, bound_to, uses, by_id, ids}
use Rattle.scope_counts.specs.Exact.{count, lists_of}
use Rattle.scope_counts.specs.Losing.{MarksWhatLeft, Prunes}
use Rattle.scope_counts.specs.Scopes.{EachUse, EachReference, IsSymbolOf, IsEntryOf, ExactButMarks, unmarked}
use Rattle.scope_counts.proofs.Edits.{within_small, free_small, refs_small, listed_after}
use Rattle.scope_counts.proofs.Tables.{marks_may_go}
use Rattle.scope_counts.proofs.Whole.{exact_is}
use Rattle.steps.proofs.Fit.Modules.{fits_program}
use Rattle.steps.specs.Allowed.Edits.{TreeEdits}
use Rattle.steps.specs.Owed.Kept.{is_program, IsKept}
use Rattle.steps.proofs.Owed.Edited.{tree_edits_keep}
use Rattle.steps.proofs.Owed.FitsEdits.{tree_edits_fit}
use Rattle.steps.proofs.Owed.Pruning.{pruned, prunes}
use Rattle.steps.proofs.Marked.Shedding.{edits_shed, edits_declare}

-- ---- both ways of saying that a table is exact

exact_of : (s : Scoping) (t : Forest) → is_program t ≡ true → Exact s t ↔ ExactButMarks s unmarked t
exact_of s nothing e = absurd (true≢false (sym e))
exact_of s (absent rest) e = absurd (true≢false (sym e))
exact_of s (node (program source) n below beside) e = exact_is source n below beside s
exact_of s (node k n below beside) e = absurd cc

pub pruned_exact : (t : Forest) → Fits root t → (marked : ℕ → Bool) (before now : Scoping) → Prunes marked before now → ExactButMarks before marked t → Exact now t
pruned_exact t fits marked before now prune x = (exact_of now t (fits_program t fits)).1 (marks_may_go marked before now t prune x)

-- ---- an id that stands in a tree

is_it : (r : ℕ) (q : Option ℕ) → 1 ≤ is_id r q → q ≡ Some r
is_it r None h = absurd (Prim.omega (arith, h))
is_it r (Some q) h = go (nat_eq r q) refl h
  where
    go : (b : Bool) → nat_eq r q ≡ b → 1 ≤ cond b 1 0 → Some q ≡ Some r
    go true e h = ap Some (sym (eqb-true r q e))
    go false e h = absurd (Prim.omega (arith, h))

module _ (P : List ℕ → Option ℕ → Type 0) (Q : Type 0) (r : ℕ) (found : (x : List ℕ) (q : Option ℕ) → q ≡ Some r → P x q → Q) where
  used : (n : Note) (k : Kind) → EachUse P n k → 1 ≤ own (by_id r) n k → Q
  used n (reference_name x) e h = found x n.id (is_it r n.id h) e
  used n (target_name x) e h = found x n.id (is_it r n.id h) e
  used n k e h = absurd (Prim.omega (arith, h))

  stands : (t : Forest) → EachReference P t → 1 ≤ ids r t → Q
  stands nothing e h = absurd (Prim.omega (arith, h))
  stands (absent t) e h = stands t e h
  stands (node k n b t) e h = go (own (by_id r) n k) (ids r b) (used n k e.0) (stands b e.1) (stands t e.2) h
    where
      go : (i j : ℕ) → (1 ≤ i → Q) → (1 ≤ j → Q) → (1 ≤ ids r t → Q) → 1 ≤ i + j + ids r t → Q
      go (suc i) j f g h e = f (Prim.omega arith)
      go zero (suc j) f g h e = g (Prim.omega arith)
      go zero zero f g h e = h (Prim.omega (arith, e))

-- its entry, which has the symbol that counts once
record Entry (s : Scoping) (t : Forest) (id : ℕ) : Type 0 where
  entry : Reference
  stands : slice_get s.references id ≡ Some entry
  counts : (symbol : ℕ) → (entry.symbol ≡ Some symbol) ↔ (uses symbol id t ≡ 1)

entry_of : (s : Scoping) (t : Forest) → EachReference (IsEntryOf s t) t → (id : ℕ) → 1 ≤ ids id t → Entry s t id
entry_of s t e id h =
    stands (IsEntryOf s t) (Entry s t id) id
    (λ x q is i. subst (Entry s t) (same_value (sym i.has_id ∙ is)) (record { entry = i.entry; stands = i.stands; counts = i.counts })) t e h

-- ---- counts

few : (s r : ℕ) (t : Forest) → uses s r t ≤ ids r t
few s r nothing = Prim.omega arith
few s r (absent t) = Prim.omega arith
few s r (node (program source) n t rest) =
    Prim.omega (
      arith,
      refs_small s r (λ at. within (bound_to s r) (declared_by_program t rest) free) 0 t (λ i. within_small s r (declared_by_program t rest) free (free_small r)),
      refs_small s r (λ at. free) 1 rest (λ i. free_small r),
    )
few s r (node k n t rest) = Prim.omega arith

both_or_none : (m n : ℕ) → m ≤ 1 → n ≤ 1 → (m ≡ 1 → n ≡ 1) → (n ≡ 1 → m ≡ 1) → m ≡ n
both_or_none zero zero h j f g = refl
both_or_none zero (suc n) h j f g = absurd (Prim.omega (arith, j, g (Prim.omega (arith, j))))
both_or_none (suc m) n h j f g = Prim.omega (arith, h, f (Prim.omega (arith, h)))

-- where an id stands in two trees, its entry tells what it counts in both
same_uses : (s : Scoping) (t u : Forest) → EachReference (IsEntryOf s t) t → EachReference (IsEntryOf s u) u → (symbol id : ℕ) → ids id t ≤ 1 → ids id u ≡ ids id t → uses symbol id t ≡ uses symbol id u
same_uses s t u old new symbol id once same = go (ids id t) refl
  where
    go : (m : ℕ) → ids id t ≡ m → uses symbol id t ≡ uses symbol id u
    go zero e = Prim.omega (arith, e, same, few symbol id t, few symbol id u)
    go (suc m) e =
        let a = entry_of s t old id (Prim.omega (arith, e)) in
        let b = entry_of s u new id (Prim.omega (arith, e, same)) in
        let entries : a.entry ≡ b.entry = same_value (sym a.stands ∙ b.stands) in
        both_or_none (uses symbol id t) (uses symbol id u) (Prim.omega (arith, once, few symbol id t)) (Prim.omega (arith, once, same, few symbol id u))
        (λ k. (b.counts symbol).0 (ap (λ (i : Reference). i.symbol) (sym entries) ∙ (a.counts symbol).1 k))
        (λ k. (a.counts symbol).0 (ap (λ (i : Reference). i.symbol) entries ∙ (b.counts symbol).1 k))

-- ---- the table

used_by : (s now : Scoping) (t : Forest) → now.references ≡ s.references → (n : Note) (k : Kind) → EachUse (IsEntryOf now t) n k → EachUse (IsEntryOf s t) n k
used_by s now t same n (reference_name x) e =
    record { id = e.id; entry = e.entry; has_id = e.has_id; stands = subst (λ es. slice_get es e.id ≡ Some e.entry) same e.stands; counts = e.counts }
used_by s now t same n (target_name x) e =
    record { id = e.id; entry = e.entry; has_id = e.has_id; stands = subst (λ es. slice_get es e.id ≡ Some e.entry) same e.stands; counts = e.counts }
used_by s now t same n k e = tt

entered_by : (s now : Scoping) (t : Forest) → now.references ≡ s.references → (u : Forest) → EachReference (IsEntryOf now t) u → EachReference (IsEntryOf s t) u
entered_by s now t same nothing e = tt
entered_by s now t same (absent u) e = entered_by s now t same u e
entered_by s now t same (node k n b u) e = (used_by s now t same n k e.0, entered_by s now t same b e.1, entered_by s now t same u e.2)

kept_at_first : (s : Scoping) (t : Forest) → Exact s t → IsKept s t
kept_at_first s t exact = record { table = s; shortens = record { same_entries = refl; symbols = λ n y e. record { symbol = y; stood = e; listed = λ id h. h } }; exact = exact }

pub edits_keep_marked : (t u : Forest) → TreeEdits t u → Fits root t → (s : Scoping) (before after : ℕ → Bool) → MarksWhatLeft before t u after → ExactButMarks s before t → ExactButMarks s after u
edits_keep_marked t u edits fits s before after marks x =
    let table = pruned before s in
    let kept = tree_edits_keep t u edits fits table (kept_at_first table t (pruned_exact t fits before s table (prunes before s) x)) in
    let now = (exact_of kept.table u (fits_program u (tree_edits_fit t u edits fits))).0 kept.exact in
    let entered = entered_by s kept.table u kept.shortens.same_entries u now.entered in
    let shed = edits_shed t u edits fits in
    record {
      once = now.once;
      entered = entered;
      declared = edits_declare (IsSymbolOf s) t u edits fits x.declared;
      agree = now.agree;
      apart = now.apart;
      lists = λ symbol id.
          listed_after (count id (lists_of s symbol)) (before id) (after id) (uses symbol id t) (uses symbol id u) (ids id t) (ids id u) (marks id) (shed id) (x.lists symbol id)
          (λ e. same_uses s t u x.entered entered symbol id (x.once id) e) (λ l. Prim.omega (arith, l, x.once id, few symbol id u));
    }

-- ---- a new table

pub new_exact : (t : Forest) → let f = found_in (sites_of t) in Fits root t → ExactButMarks (scoping_of f) unmarked (marked (first_marks (symbols_declared f.bindings)) t)
new_exact t fits =
    let f = found_in (sites_of t) in
    let m = first_marks (symbols_declared f.bindings) in
    (exact_of (scoping_of f) (marked m t) (marked_program m t (fits_program t fits))).0 (exact t)
