-- Edits of a program leave true what the context of a walk tells.
use Rattle.std.proofs.Common.{◌≡◌, ◌∙◌, ◌⊎◌, inl, inr, ℕ, ◌<◌, ◌≤◌, false, ◌||◌, length, sym, ap, subst, arith}
use Rattle.std.proofs.Math.ListN.{get_or-eq_default}
use Rattle.std.specs.Prelude.{nat_lt}
use Rattle.js_syntax.specs.Node.{Forest}
use Rattle.scope_counts.specs.Counts.{ids}
use Rattle.scope_counts.specs.Losing.{left, MarksWhatLeft}
use Rattle.scope_counts.specs.Scopes.{ExactButMarks}
use Rattle.scope_counts.proofs.Scopes.{below_or_above}
use Rattle.symbol_sets.specs.Numbers.{has}
use Rattle.steps.specs.Allowed.Edits.{Edit, TreeEdits, no_tree_edit, one_tree_edit}
use Rattle.steps.proofs.Owed.FitsEdits.{tree_edits_fit}
use Rattle.steps.proofs.Marked.Shedding.{edits_shed}
use Rattle.steps.proofs.Marked.Tables.{edits_keep_marked}
use Rattle.min_context.specs.Seen.{Seen}
use Rattle.min_options.specs.declared.options.CompressOptions.{CompressOptions}
use Rattle.min_traverse.specs.Edits.{Edits, no_edit, one_edit}
use Rattle.min_traverse.specs.Lawful.{MarksLeft, Stays}

-- a walker's edits, where each is an edit of a program
pub as_tree_edits : (E : Forest → Forest → Type 0) → ((t u : Forest) → E t u → Edit t u) → (t u : Forest) → Edits E t u → TreeEdits t u
as_tree_edits E is t u no_edit = no_tree_edit t
as_tree_edits E is t u (one_edit {u = v} e more) = one_tree_edit t v u (is t v e) (as_tree_edits E is v u more)

-- ---- marks

none_left : (m n : ℕ) → n ≡ 0 → nat_lt m n ≡ false
none_left m n h = Prim.grind arith

nowhere : (i r n : ℕ) → (0 < i → r < n) → n ≤ r → i ≡ 0
nowhere i r n room h = elim (below_or_above 0 i) [
  | inl l ↦ let k : r < n = room l in absurd (Prim.omega (arith, k, h))
  | inr l ↦ Prim.omega (arith, l)
]

-- a reference past the room for marks stands nowhere, before or after
marks_all : (c d : Seen) (t u : Forest) → MarksLeft c d t u → ((r : ℕ) → 0 < ids r t → r < length c.marked) → MarksWhatLeft (has c.marked) t u (has d.marked)
marks_all c d t u m room r = go (below_or_above r (length c.marked))
  where
    go : (r < length c.marked) ⊎ (length c.marked ≤ r) → has d.marked r ≡ (has c.marked r || left t u r)
    go (inl h) = m.marks r h
    go (inr h) =
        let before : has c.marked r ≡ false = get_or-eq_default c.marked false h in
        let after : has d.marked r ≡ false = get_or-eq_default d.marked false (Prim.omega (arith, m.room)) in
        let none : ids r t ≡ 0 = nowhere (ids r t) r (length c.marked) (room r) h in
        after ∙ sym (ap (λ b. b || left t u r) before ∙ none_left (ids r u) (ids r t) none)

-- ---- all of it

pub stays : (E : CompressOptions → Forest → Forest → Type 0) → ((o : CompressOptions) (t u : Forest) → E o t u → Edit t u) → Stays E
stays E is c d t u edits m h =
    let some = as_tree_edits (E c.options) (is c.options) t u edits in
    let marks = marks_all c d t u m h.room in
    let table : d.scoping ≡ c.scoping = ap (λ s. s.scoping) m.same in
    let shed = edits_shed t u some h.fits in
    record {
      lists = subst (λ s. ExactButMarks s (has d.marked) u) (sym table) (edits_keep_marked t u some h.fits c.scoping (has c.marked) (has d.marked) marks h.lists);
      room = λ r stands. Prim.omega (arith, m.room, h.room r, shed r);
      fits = tree_edits_fit t u some h.fits;
      dead = λ symbol e. absurd Prim.cc;
      constants = λ symbol value e. absurd Prim.cc;
      summaries = λ symbol. tt;
    }
