-- A tree that is numbered is the same program, as large as it was, has the table that it had, and is numbered as it is.
use Rattle.std.proofs.Common.{◌≡◌, ◌∙◌, ◌+◌, ℕ, suc, drop, Bool, Some, if◌then◌else◌, refl, ap, arith}
use Rattle.js_syntax.specs.declared.node_kind.NodeKind.{NodeKind as Kind}
use Rattle.js_syntax.specs.Node.{Forest, nothing, node, absent, Note, nowhere, bare, total}
use Rattle.js_tree.specs.Count.{lower, levels_at, levels}
use Rattle.scope_rules.specs.Context.{opens}
use Rattle.scope_rules.specs.Site.{Found, scope_count}
use Rattle.scope_rules.specs.Binding.{resolved, resolved_references}
use Rattle.scope_rules.specs.Table.{symbols_declared, scoping_of}
use Rattle.scope_rules.specs.Mark.{Marks, own_reference, own_binding, name_mark, mark_of, behind_node, behind_row, marked, first_marks}
use Rattle.scope_laws.proofs.Bindings.{same_resolved}
use Rattle.scope_laws.proofs.Marking.{bare_marked, found_marked}
use Rattle.scope_laws.proofs.Notes.{unseen, opens_bare, scope_count_bare, total_bare}
use Rattle.scope_match.proofs.Fresh.{table_same, numbers_same}
use Rattle.js_scoping.specs.Build.{found_of, table_of, numbered}

-- ---- marking a tree with marks that it has

module _ (m : Marks) (k : Kind) (t u : Forest) (same : bare t ≡ bare u) where
  same_mark : mark_of m k t ≡ mark_of m k u
  same_mark = ap (λ (b : Bool). if b then Some m.scope else name_mark m k) (unseen (opens k) (opens_bare k) t u same)

  same_behind_node : behind_node m k t ≡ behind_node m k u
  same_behind_node =
      ap (λ (b : Bool). record { scope = m.scope + (if b then 1 else 0); reference = m.reference + own_reference k; symbols = drop (own_binding k) m.symbols }) (unseen (opens k) (opens_bare k) t u same)

same_behind_row : (m : Marks) (t u : Forest) → bare t ≡ bare u → behind_row m t ≡ behind_row m u
same_behind_row m t u same =
    let scopes = unseen scope_count scope_count_bare t u same in
    let references = unseen (total own_reference) (total_bare own_reference) t u same in
    let bindings = unseen (total own_binding) (total_bare own_binding) t u same in
    λ i. record { scope = m.scope + scopes i; reference = m.reference + references i; symbols = drop (bindings i) m.symbols }

marked_again : (m : Marks) (t : Forest) → marked m (marked m t) ≡ marked m t
marked_again m nothing = refl
marked_again m (absent rest) = ap absent (marked_again m rest)
marked_again m (node k n below rest) =
    let m1 = behind_node m k below in
    let m2 = behind_row m (node k n below nothing) in
    let o : Note = record { span = n.span; id = mark_of m k below } in
    let now = marked m1 below in
    let same = bare_marked m1 below in
    let mark = same_mark m k now below same in
    let inner = ap (λ (x : Marks). marked x now) (same_behind_node m k now below same) ∙ marked_again m1 below in
    let later = ap (λ (x : Marks). marked x (marked m2 rest)) (same_behind_row m (node k o now nothing) (node k n below nothing) (ap (λ (b : Forest). node k nowhere b nothing) same)) ∙ marked_again m2 rest in
    λ i. node k (record { span = n.span; id = mark i }) (inner i) (later i)

-- ---- whole trees

abbrev marks_of : Forest → Marks
marks_of t = first_marks (symbols_declared (found_of t).bindings)

pub numbered_same : (t : Forest) → bare (numbered t) ≡ bare t
numbered_same t = bare_marked (marks_of t) t

-- it is as large, by any count of its nodes, and as deep
pub numbered_total : (counts : Kind → ℕ) (t : Forest) → total counts (numbered t) ≡ total counts t
numbered_total counts t = unseen (total counts) (total_bare counts) (numbered t) t (numbered_same t)

bare_levels : (more : ℕ → ℕ) (at : ℕ) (t : Forest) → levels_at more at (bare t) ≡ levels_at more at t
bare_levels more at nothing = refl
bare_levels more at (absent rest) = bare_levels more (suc at) rest
bare_levels more at (node k n below rest) = Prim.omega (arith, bare_levels (lower k) 0 below, bare_levels more (suc at) rest)

pub numbered_levels : (t : Forest) → levels (numbered t) ≡ levels t
numbered_levels t = unseen levels (bare_levels (λ at. 0) 0) (numbered t) t (numbered_same t)

pub table_again : (t : Forest) → table_of (numbered t) ≡ table_of t
table_again t = ap scoping_of (found_marked (marks_of t) t) ∙ table_same (found_of t)

pub numbered_again : (t : Forest) → numbered (numbered t) ≡ numbered t
numbered_again t =
    let bs = (found_of t).bindings in
    let declared = ap (λ (f : Found). symbols_declared f.bindings) (found_marked (marks_of t) t) ∙ numbers_same (symbols_declared bs) bs in
    ap (λ symbols. marked (first_marks symbols) (numbered t)) declared ∙ marked_again (marks_of t) t

pub resolved_again : (t : Forest) → resolved_references (numbered t) ≡ resolved_references t
resolved_again t =
    let m = marks_of t in
    let f = found_of t in
    ap (λ (g : Found). resolved g.bindings g.references) (found_marked m t) ∙ same_resolved m.symbols m.reference f.bindings f.references
