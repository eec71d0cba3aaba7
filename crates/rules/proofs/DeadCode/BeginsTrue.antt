-- What the context of a walk tells is true at first.
use Rattle.std.proofs.Common.{◌≡◌, ◌∙◌, ◌⊎◌, inl, inr, ℕ, ◌<◌, ◌≤◌, ◌+◌, List, Option, cond, nat_eq, false, length, sym, ap, subst, arith}
use Rattle.std.proofs.Math.ListN.{get_or-eq_default}
use Rattle.std.proofs.lemmas.List.{get_or-replicate, length-replicate}
use Rattle.std.proofs.lemmas.Option.{slice_get_within}
use Rattle.js_syntax.specs.Class.{root}
use Rattle.js_syntax.specs.declared.node_kind.NodeKind.{NodeKind as Kind}
use Rattle.js_syntax.specs.declared.node_kind.NodeKind.TheVariants.{ReferenceName as reference_name, TargetName as target_name}
use Rattle.js_syntax.specs.Node.{Forest, Note, nothing, node, absent}
use Rattle.json_shape.specs.Shape.{Fits}
use Rattle.scope_rules.specs.Mark.{marked, first_marks}
use Rattle.scope_rules.specs.Site.{sites_of, found_in}
use Rattle.scope_rules.specs.Table.{Scoping, scoping_of, symbols_declared}
use Rattle.scope_laws.proofs.Marking.{bare_marked}
use Rattle.scope_counts.specs.Counts.{own, by_id, is_id, ids}
use Rattle.scope_counts.specs.Exact.{count, lists_of}
use Rattle.scope_counts.specs.Scopes.{EachUse, EachReference, IsEntryOf, ExactButMarks, unmarked}
use Rattle.scope_counts.proofs.Scopes.{below_or_above}
use Rattle.symbol_sets.specs.Numbers.{has, none_below}
use Rattle.steps.proofs.Owed.FitsEdits.{renoted_fits}
use Rattle.steps.proofs.Marked.Tables.{new_exact}
use Rattle.min_context.specs.IsTrue.{IsTrue}
use Rattle.min_context.specs.Seen.{Seen}

-- ---- each id that stands in the program is that of an entry of the table

same_number : (r id m : ℕ) → id < m → 0 < cond (nat_eq r id) 1 0 → r < m
same_number r id m l h = Prim.grind arith

entry_held : (s : Scoping) (whole : Forest) (x : List ℕ) (q : Option ℕ) (r : ℕ) → IsEntryOf s whole x q → 0 < is_id r q → r < length s.references
entry_held s whole x q r e h =
    same_number r e.id (length s.references) (slice_get_within s.references e.id e.entry e.stands) (subst (λ o. 0 < is_id r o) e.has_id h)

own_held : (s : Scoping) (whole : Forest) (r : ℕ) (n : Note) (k : Kind) → EachUse (IsEntryOf s whole) n k → 0 < own (by_id r) n k → r < length s.references
own_held s whole r n (reference_name x) e h = entry_held s whole x n.id r e h
own_held s whole r n (target_name x) e h = entry_held s whole x n.id r e h
own_held s whole r n k e h = absurd (Prim.omega arith)

of_one : (l m n : ℕ) (P : Type 0) → (0 < l → P) → (0 < m → P) → (0 < n → P) → 0 < l + m + n → P
of_one l m n P f g h e = go (below_or_above 0 l) (below_or_above 0 m)
  where
    go : (0 < l) ⊎ (l ≤ 0) → (0 < m) ⊎ (m ≤ 0) → P
    go (inl a) o = f a
    go (inr a) (inl b) = g b
    go (inr a) (inr b) = h (Prim.omega (arith, a, b, e))

held : (s : Scoping) (whole : Forest) (r : ℕ) (t : Forest) → EachReference (IsEntryOf s whole) t → 0 < ids r t → r < length s.references
held s whole r nothing e h = absurd (Prim.omega arith)
held s whole r (absent rest) e h = held s whole r rest e h
held s whole r (node k n below rest) e h =
    of_one (own (by_id r) n k) (ids r below) (ids r rest) (r < length s.references) (own_held s whole r n k e.0) (held s whole r below e.1) (held s whole r rest e.2) h

-- ---- nothing is marked

none_marked : (n r : ℕ) → has (none_below n) r ≡ false
none_marked n r = go (below_or_above r n)
  where
    go : (r < n) ⊎ (n ≤ r) → has (none_below n) r ≡ false
    go (inl l) = get_or-replicate n r false false l
    go (inr l) = get_or-eq_default (none_below n) false (Prim.omega (arith, length-replicate n false))

-- ---- all of it

pub begins : (t : Forest) → let f = found_in (sites_of t) in
    Fits root t → (c : Seen) → c.scoping ≡ scoping_of f → c.marked ≡ none_below (length c.scoping.references) → IsTrue c (marked (first_marks (symbols_declared f.bindings)) t)
begins t fits c table marks =
    let f = found_in (sites_of t) in
    let now = marked (first_marks (symbols_declared f.bindings)) t in
    let exact = subst (λ s. ExactButMarks s unmarked now) (sym table) (new_exact t fits) in
    let none : (r : ℕ) → false ≡ has c.marked r = λ r. sym (ap (λ m. has m r) marks ∙ none_marked (length c.scoping.references) r) in
    record {
      lists = record {
        once = exact.once;
        entered = exact.entered;
        declared = exact.declared;
        agree = exact.agree;
        apart = exact.apart;
        lists = λ symbol id. exact.lists symbol id ∙ ap (λ b. cond b 0 (count id (lists_of c.scoping symbol))) (none id);
      };
      room = λ r stands. Prim.omega (arith, held c.scoping now r now exact.entered stands, ap length marks, length-replicate (length c.scoping.references) false);
      fits = renoted_fits t now (sym (bare_marked (first_marks (symbols_declared f.bindings)) t)) fits;
      dead = λ symbol e. absurd Prim.cc;
      constants = λ symbol value e. absurd Prim.cc;
      summaries = λ symbol. tt;
    }
