-- A walk leads from between two passes to where the next may begin, once the pass is completed.
use Rattle.std.proofs.Common.{◌≡◌, ◌∙◌, ℕ, zero, suc, Bool, true, false, cond, length, is_some, slice_index_or, refl, sym, ap, subst, arith}
use Rattle.std.proofs.lemmas.List.{length-replicate}
use Rattle.js_syntax.specs.Node.{Forest, Tree, forest_of}
use Rattle.scope_laws.specs.Exact.{Exact}
use Rattle.scope_rules.specs.Table.{Scoping}
use Rattle.scope_counts.specs.Exact.{count, lists_of}
use Rattle.scope_counts.specs.Losing.{Prunes}
use Rattle.scope_counts.specs.Scopes.{ExactButMarks, unmarked}
use Rattle.scope_counts.proofs.Tables.{marks_may_go}
use Rattle.scope_edits.proofs.Pruned.{prunes}
use Rattle.scope_table.specs.Editing.{pruned}
use Rattle.scope_table.specs.Refreshing.{refreshed}
use Rattle.scope_table.specs.Reading.{no_reference}
use Rattle.symbol_sets.specs.Numbers.{has, none_below}
use Rattle.steps.specs.Marked.Flags.{FlagsTell}
use Rattle.steps.proofs.Marked.Tables.{pruned_exact}
use Rattle.min_peephole.specs.CleanBy.{CleanBy}
use Rattle.steps.proofs.Marked.Telling.{flags_alone}
use Rattle.rules.specs.Told.Nesting.{ScopesNest}
use Rattle.rules.specs.Told.Parts.{CallsToldOnly, FlagsTellOnly}
use Rattle.rules.proofs.Told.Alone.{flags_alone as only_alone}
use Rattle.rules.proofs.Told.Anew.{refreshed_tells}
use Rattle.rules.proofs.Told.Edited.{joined_only, calls_of, names_of}
use Rattle.rules.proofs.Told.Nested.{parents_alone}
use Rattle.rules.proofs.Told.Refreshed.{refreshed_tells_only, refreshed_nests}
use Rattle.rules.specs.DeadCode.Knows.{Knows}
use Rattle.rules.specs.DeadCode.Quiet.{IsQuiet}
use Rattle.rules.specs.Imports.Quiet.{ImportsUsed}
use Rattle.rules.specs.Expressions.Settled.{IsSettled}
use Rattle.min_context.specs.Completing.{table_anew, completed}
use Rattle.min_context.specs.IsTrue.{IsTrue}
use Rattle.min_context.specs.Place.{outside}
use Rattle.min_context.specs.Seen.{Seen, still}
use Rattle.min_statements.specs.Own.{ExportedOnly, IsToldOnly}
use Rattle.min_statements.specs.Walker.{Names, facts_of}
use Rattle.min_peephole.specs.Between.{BetweenPasses}
use Rattle.rules_clean.proofs.Cleaned.{clean}

-- ---- nothing is marked

cleared : (capacity n : ℕ) → has (none_below capacity) n ≡ false
cleared zero n = refl
cleared (suc capacity) zero = refl
cleared (suc capacity) (suc n) = cleared capacity n

none_has : (c : Seen) → c.marked ≡ none_below (length c.marked) → (r : ℕ) → has c.marked r ≡ false
none_has c e r = ap (λ m. has m r) e ∙ cleared (length c.marked) r

-- by whatever marks that are none
exact_by : (s : Scoping) (m n : ℕ → Bool) (t : Forest) → ((r : ℕ) → m r ≡ n r) → ExactButMarks s m t → ExactButMarks s n t
exact_by s m n t same x = record {
  once = x.once;
  entered = x.entered;
  declared = x.declared;
  agree = x.agree;
  apart = x.apart;
  lists = λ symbol id. x.lists symbol id ∙ ap (λ b. cond b 0 (count id (lists_of s symbol))) (same id);
}

none_pruned : (s : Scoping) → Prunes unmarked s s
none_pruned s = record { same_entries = refl; same_symbols = λ number y e. record { symbol = y; stands = e; same_name = refl }; lists = λ number r. refl }

-- ---- before a walk

module _ (names : Names) (c : Seen) (t : Forest) (b : BetweenPasses names c t) where
  pub is_true : IsTrue (still c) t
  is_true = record { lists = b.holds.lists; room = b.holds.room; fits = b.holds.fits; dead = λ symbol e. absurd Prim.cc; constants = λ symbol value e. absurd Prim.cc; summaries = λ symbol. tt }

  pub known : Knows (facts_of names c) (has c.marked) t
  known = record { fits = b.holds.fits; exact = b.holds.lists; flags = b.flags; outermost = b.outermost; bound = b.bound; exported = b.exported; script = b.source }

  pub only : IsToldOnly c.scoping c.eval_dropped t
  only = record { nested = b.nested; names = names_of c.scoping t b.flags_only; calls = λ e. calls_of c.scoping t b.flags_only }

  pub exact : Exact c.scoping t
  exact = pruned_exact t b.holds.fits unmarked c.scoping c.scoping (none_pruned c.scoping) (exact_by c.scoping (has c.marked) unmarked t (none_has c b.marks) b.holds.lists)

  -- where nothing goes, and no expression comes to its parts
  pub no_dead_code : IsQuiet (facts_of names c) t → ImportsUsed (facts_of names c) t → IsSettled t → CleanBy c.options t
  no_dead_code quiet used settled =
      let k : Knows (facts_of names c) unmarked t = record { fits = b.holds.fits; exact = exact_by c.scoping (has c.marked) unmarked t (none_has c b.marks) b.holds.lists; flags = b.flags; outermost = b.outermost; bound = b.bound; exported = b.exported; script = b.source } in
      clean (facts_of names c) t k (record { flags = b.flags_only; exported = b.exported_only }) quiet used settled

-- ---- behind a walk

refreshed_prunes : (away : ℕ → Bool) (t : Forest) (s : Scoping) → Prunes away s (pruned away (refreshed t s))
refreshed_prunes away t s =
    let p = prunes away s in
    record {
      same_entries = p.same_entries;
      same_symbols = λ number y e. let q = p.same_symbols number y e in record { symbol = q.symbol; stands = q.stands; same_name = q.same_name };
      lists = p.lists;
    }

module _ (names : Names) (c : Seen) (u : Forest) (holds : IsTrue (still c) u) (k : Knows (facts_of names c) (has c.marked) u) (told : IsToldOnly c.scoping c.eval_dropped u) (exported : ExportedOnly names u) where
  record Anew (s : Scoping) : Type 0 where
    flags : FlagsTell s u
    flags_only : FlagsTellOnly s u
    nested : ScopesNest s u
    prunes : Prunes (has c.marked) c.scoping (pruned (has c.marked) s)

  anew : (dropped : Bool) → (dropped ≡ false → CallsToldOnly c.scoping u) → Anew (table_anew dropped u c.scoping)
  anew true calls = record {
    flags = refreshed_tells c.scoping u holds.fits k.flags;
    flags_only = refreshed_tells_only c.scoping u holds.fits told.nested told.names;
    nested = refreshed_nests c.scoping u u told.nested;
    prunes = refreshed_prunes (has c.marked) u c.scoping;
  }
  anew false calls = record { flags = k.flags; flags_only = joined_only c.scoping u (calls refl) told.names; nested = told.nested; prunes = prunes (has c.marked) c.scoping }

  pub completed_between : c.place ≡ outside → BetweenPasses names (completed u c) u
  completed_between place =
      let s = table_anew c.eval_dropped u c.scoping in
      let now = pruned (has c.marked) s in
      let a = anew c.eval_dropped told.calls in
      let width : length (none_below (length c.marked)) ≡ length c.marked = length-replicate (length c.marked) false in
      record {
        place = place;
        marks = ap none_below (sym width);
        calls_stay = refl;
        nothing_asked = refl;
        holds = record {
          lists = exact_by now unmarked (has (none_below (length c.marked))) u (λ r. sym (cleared (length c.marked) r)) (marks_may_go (has c.marked) c.scoping now u a.prunes holds.lists);
          room = λ r stands. Prim.omega (arith, holds.room r stands, width);
          fits = holds.fits;
          dead = λ symbol e. absurd Prim.cc;
          constants = λ symbol value e. absurd Prim.cc;
          summaries = λ symbol. tt;
        };
        nested = parents_alone u s now (λ n. refl) a.nested;
        flags = flags_alone u s now (λ n. refl) a.flags;
        flags_only = only_alone u s now (λ n. refl) a.flags_only;
        outermost = k.outermost;
        source = k.script;
        bound = λ id. k.bound id ∙ ap (λ rs. is_some (slice_index_or rs id no_reference).symbol) (sym a.prunes.same_entries);
        exported = k.exported;
        exported_only = exported;
      }

-- of the same walker, the same context and the same program
pub between_same : (names : Names) (c d : Seen) (x y : Tree) → d ≡ c → y ≡ x → BetweenPasses names c (forest_of x) → BetweenPasses names d (forest_of y)
between_same names c d x y context tree b = subst (λ q. BetweenPasses names d (forest_of q)) (sym tree) (subst (λ q. BetweenPasses names q (forest_of x)) (sym context) b)
