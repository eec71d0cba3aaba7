-- In a branch that isn't taken statements become declarations of their names, by edits.
use Rattle.std.proofs.Common.{◌≡◌, ◌∙◌, [], ◌++◌, Bool, true, false, ◌&&◌, ◌≤◌, Option, Some, None, if◌then◌else◌, append-nil, arith, refl, sym, ap, subst}
use Rattle.js_syntax.specs.declared.node_kind.NodeKind.{NodeKind as Kind}
use Rattle.js_syntax.specs.declared.node_kind.NodeKind.TheVariants.{IfStatement as if_statement}
use Rattle.js_syntax.specs.Facts.{weight}
use Rattle.js_syntax.specs.Node.{Forest, Tree, Note, nothing, node, absent, alone}
use Rattle.js_syntax.proofs.Truth.{both, first_of_both, second_of_both}
use Rattle.kept_names.specs.Kept.{kept}
use Rattle.min_pass.specs.declared.around.Around.{Around as Asked}
use Rattle.min_pass.specs.Around.{outermost as asked_of_program}
use Rattle.scope_counts.specs.Edits as counts
use Rattle.scope_counts.specs.Edits.{here, behind, behind_none, under, plug}
use Rattle.scope_laws.specs.Place.{first, placed}
use Rattle.steps.specs.Allowed.Branches.{declares_none, declares_no_name}
use Rattle.steps.specs.Allowed.Edits.{Edit, becomes, kept_names, TreeEdits, no_tree_edit, one_tree_edit}
use Rattle.steps.specs.Allowed.KeptNames.{names_stay}
use Rattle.steps.specs.Allowed.KnownIf.{an_if}
use Rattle.steps.specs.Allowed.Untaken.{truth_given, runs_inside}
use Rattle.steps.specs.KeepForm.Part.{leaves_names_of}
use Rattle.steps.specs.VarNames.Declared.{without_vars}
use Rattle.steps.specs.VarNames.Plain.{vars_bind_names}
use Rattle.steps.specs.VarNames.Has.{has_vars}
use Rattle.steps.proofs.VarNames.HasNames.{some_kept, declares_some}
use Rattle.rules.specs.Expressions.LeftNames.{leaves_names, names_of, with_names, branch_leaves, branch_named, what_is_named, if_named}
use Rattle.rules.specs.Expressions.Untaken.{is_list}
use Rattle.rules.proofs.DeadCode.Items.{becomes_there}
use Rattle.rules.proofs.DeadCode.Places.{to, join, asked_to}
use Rattle.rules.proofs.Expressions.Becoming.{no_answer, chosen, chosen_if}
use Rattle.rules.proofs.Expressions.Thinner.{no_kind}
use Rattle.rules.proofs.Expressions.Untaken.{All, all_under, all_behind, all_absent, all_from, ItemsIf, items_under, items_next, items_absent, joined_edits, within, if_runs, Branch, at_consequent, at_alternate}

-- ---- kinds

pub record Leaving (k : Kind) : Type 0 where
  pub kept_is : (n : Note) (b : Forest) → kept (alone k n b) ≡ kept b ++ []
  pub plain_is : (n : Note) (b : Forest) → vars_bind_names (alone k n b) ≡ (vars_bind_names b && true)
  pub others_are : (n : Note) (b : Forest) → declares_none (without_vars (alone k n b)) ≡ (declares_no_name k (without_vars b) && true)
  pub weighs : 1 ≤ weight k

pub leaving : (k : Kind) → leaves_names_of k ≡ true → Leaving k
leaving (Kind.LabeledStatement l) h = record { kept_is = λ n b. refl; plain_is = λ n b. refl; others_are = λ n b. refl; weighs = Prim.omega arith }
leaving Kind.IfStatement h = record { kept_is = λ n b. refl; plain_is = λ n b. refl; others_are = λ n b. refl; weighs = Prim.omega arith }
leaving Kind.WithStatement h = record { kept_is = λ n b. refl; plain_is = λ n b. refl; others_are = λ n b. refl; weighs = Prim.omega arith }
leaving Kind.WhileStatement h = record { kept_is = λ n b. refl; plain_is = λ n b. refl; others_are = λ n b. refl; weighs = Prim.omega arith }
leaving Kind.DoWhileStatement h = record { kept_is = λ n b. refl; plain_is = λ n b. refl; others_are = λ n b. refl; weighs = Prim.omega arith }
leaving Kind.ForStatement h = record { kept_is = λ n b. refl; plain_is = λ n b. refl; others_are = λ n b. refl; weighs = Prim.omega arith }
leaving Kind.ForInStatement h = record { kept_is = λ n b. refl; plain_is = λ n b. refl; others_are = λ n b. refl; weighs = Prim.omega arith }
leaving Kind.ForOfStatement h = record { kept_is = λ n b. refl; plain_is = λ n b. refl; others_are = λ n b. refl; weighs = Prim.omega arith }
leaving Kind.SwitchStatement h = record { kept_is = λ n b. refl; plain_is = λ n b. refl; others_are = λ n b. refl; weighs = Prim.omega arith }
leaving Kind.TryStatement h = record { kept_is = λ n b. refl; plain_is = λ n b. refl; others_are = λ n b. refl; weighs = Prim.omega arith }
leaving k h = no_kind h

-- ---- what is asked of a node

pub record IsNamed (listed : Bool) (k : Kind) (b : Forest) : Type 0 where
  pub is_item : listed ≡ true
  pub leaves : leaves_names_of k ≡ true
  pub some : has_vars b ≡ true
  pub plain : vars_bind_names b ≡ true
  pub others : declares_no_name k (without_vars b) ≡ true

pub is_named : (listed : Bool) (k : Kind) (b : Forest) → leaves_names listed k b ≡ true → IsNamed listed k b
is_named listed k b h =
    let one = has_vars b && (vars_bind_names b && declares_no_name k (without_vars b)) in
    let two = vars_bind_names b && declares_no_name k (without_vars b) in
    let kinds = second_of_both listed (leaves_names_of k && one) h in
    let vars = second_of_both (leaves_names_of k) one kinds in
    let names = second_of_both (has_vars b) two vars in
    record {
      is_item = first_of_both listed (leaves_names_of k && one) h;
      leaves = first_of_both (leaves_names_of k) one kinds;
      some = first_of_both (has_vars b) two vars;
      plain = first_of_both (vars_bind_names b) (declares_no_name k (without_vars b)) names;
      others = second_of_both (vars_bind_names b) (declares_no_name k (without_vars b)) names;
    }

pub named_so : {listed : Bool} {k : Kind} {b : Forest} → IsNamed listed k b → leaves_names listed k b ≡ true
named_so {listed = listed} {k = k} {b = b} h =
    let one = has_vars b && (vars_bind_names b && declares_no_name k (without_vars b)) in
    let two = vars_bind_names b && declares_no_name k (without_vars b) in
    both listed (leaves_names_of k && one) h.is_item
    (both (leaves_names_of k) one h.leaves (both (has_vars b) two h.some (both (vars_bind_names b) (declares_no_name k (without_vars b)) h.plain h.others)))

-- ---- a declaration of the names

pub kept_there : {listed : Bool} {k : Kind} {b : Forest} (n : Note) → IsNamed listed k b → kept (alone k n b) ≡ kept b
kept_there {k = k} {b = b} n h = (leaving k h.leaves).kept_is n b ∙ append-nil (kept b)

pub names_there : {listed : Bool} {k : Kind} {b : Forest} (n : Note) → IsNamed listed k b → (y : Tree) × (names_of k n b ≡ Some y)
names_there {k = k} {b = b} n h = declares_some (kept (alone k n b)) (λ e. some_kept b h.plain h.some (sym (kept_there n h) ∙ e))

name_edit : (listed : Bool) (a : counts.Around) (k : Kind) (n : Note) (b rest : Forest) (y : Tree) → ItemsIf listed a → All runs_inside a → IsNamed listed k b → names_of k n b ≡ Some y → Edit (plug a (node k n b rest)) (plug a (node y.kind y.note y.below rest))
name_edit listed a k n b rest y items all h is =
    let x : Tree = record { kind = k; note = n; below = b } in
    let leaves = leaving k h.leaves in
    becomes_there a (Some x) (Some y) rest
    (becomes (to a (first rest)) x y
    (kept_names
    (names_stay x y (ap (λ (w : Asked). w.row) (asked_to (asked_of_program true) a (first rest)) ∙ items h.is_item) (all false (first rest)) h.leaves (leaves.others_are n b ∙ both (declares_no_name k (without_vars b)) true h.others refl)
    (leaves.plain_is n b ∙ both (vars_bind_names b) true h.plain refl) is)))

-- ---- rows

by_name : (listed : Bool) (a : counts.Around) (k : Kind) (n : Note) (b c rest left : Forest) (goes : Bool) → ItemsIf listed a → All runs_inside a → leaves_names listed k b ≡ goes
    → ((y : Tree) → TreeEdits (plug a (node y.kind y.note y.below rest)) (plug a (node y.kind y.note y.below left))) → TreeEdits (plug a (node k n b rest)) (plug a (node k n c rest))
    → TreeEdits (plug a (node k n b rest)) (plug a (if goes then placed (names_of k n b) left else node k n c left))
by_name listed a k n b c rest left true items all is next below =
    let h = is_named listed k b is in
    let y = names_there n h in
    subst (λ o. TreeEdits (plug a (node k n b rest)) (plug a (placed o left))) (sym y.1)
    (one_tree_edit (plug a (node k n b rest)) (plug a (node y.0.kind y.0.note y.0.below rest)) (plug a (node y.0.kind y.0.note y.0.below left)) (name_edit listed a k n b rest y.0 items all h y.1) (next y.0))
by_name listed a k n b c rest left false items all is next below = joined_edits below (next (record { kind = k; note = n; below = c }))

named_edits : (listed : Bool) (a : counts.Around) (t : Forest) → ItemsIf listed a → All runs_inside a → TreeEdits (plug a t) (plug a (with_names listed t))
named_edits listed a nothing items all = no_tree_edit (plug a nothing)
named_edits listed a (absent rest) items all = within a (behind_none here) rest (with_names listed rest) (named_edits listed (join a (behind_none here)) rest (items_absent listed a items) (all_absent runs_inside a all))
named_edits listed a (node k n b rest) items all =
    let p = join a (under k n here rest) in
    let c = branch_named k b in
    by_name listed a k n b c rest (with_names listed rest) (leaves_names listed k b) items all refl
    (λ y. within a (behind y.kind y.note y.below here) rest (with_names listed rest)
    (named_edits listed (join a (behind y.kind y.note y.below here)) rest (items_next listed a y.kind y.note y.below items) (all_behind runs_inside a y.kind y.note y.below all)))
    (within a (under k n here rest) b c
    (if_runs p b (with_names (is_list k) b) b (runs_inside k) (λ runs. named_edits (is_list k) p b (items_under a k n rest) (all_under runs_inside a k n rest runs all)) (no_tree_edit (plug p b))))

-- ---- of an `if`

branch_edits : (a c : counts.Around) (k : Kind) (below : Forest) → Branch a c k → TreeEdits (plug a (plug c below)) (plug a (plug c (branch_named k below)))
branch_edits a c k below at =
    within a c below (branch_named k below)
    (if_runs (join a c) below (with_names (is_list k) below) below (runs_inside k) (λ runs. named_edits (is_list k) (join a c) below at.items (all_from runs_inside a c (at.led runs_inside runs))) (no_tree_edit (plug (join a c) below)))

module _ (n : Note) (t : Kind) (m : Note) (d : Forest) where
  by_truth : (a : counts.Around) (rest : Forest) (truth : Option Bool) (branches : Forest) (y : Tree) → truth_given t m d ≡ truth → what_is_named n t m d truth branches ≡ Some y
      → TreeEdits (plug a (node if_statement n (node t m d branches) rest)) (plug a (node y.kind y.note y.below rest))
  by_truth a rest (Some false) (node k i b alternate) y is e =
      elim (chosen_if (branch_leaves k b) (an_if n t m d (node k i (branch_named k b) alternate)) y e) [
        | chosen has same ↦
            subst (λ (z : Tree). TreeEdits (plug a (node if_statement n (node t m d (node k i b alternate)) rest)) (plug a (node z.kind z.note z.below rest))) same
            (branch_edits a (under if_statement n (behind t m d (under k i here alternate)) rest) k b (at_consequent a n t m d k i alternate rest is))
      ]
  by_truth a rest (Some true) (node k i b (node l j c r)) y is e =
      elim (chosen_if (branch_leaves l c) (an_if n t m d (node k i b (node l j (branch_named l c) r))) y e) [
        | chosen has same ↦
            subst (λ (z : Tree). TreeEdits (plug a (node if_statement n (node t m d (node k i b (node l j c r))) rest)) (plug a (node z.kind z.note z.below rest))) same
            (branch_edits a (under if_statement n (behind t m d (behind k i b (under l j here r))) rest) l c (at_alternate a n t m d k i b l j r rest is))
      ]
  by_truth a rest None branches y is e = no_answer e
  by_truth a rest (Some false) nothing y is e = no_answer e
  by_truth a rest (Some false) (absent r) y is e = no_answer e
  by_truth a rest (Some true) nothing y is e = no_answer e
  by_truth a rest (Some true) (absent r) y is e = no_answer e
  by_truth a rest (Some true) (node k i b nothing) y is e = no_answer e
  by_truth a rest (Some true) (node k i b (absent r)) y is e = no_answer e

names_edits_at : (a : counts.Around) (n : Note) (k : Kind) (below : Forest) (y : Tree) (rest : Forest) → if_named n k below ≡ Some y → TreeEdits (plug a (node k n below rest)) (plug a (node y.kind y.note y.below rest))
names_edits_at a n if_statement (node t m d branches) y rest e = by_truth n t m d a rest (truth_given t m d) branches y refl e
names_edits_at a n if_statement nothing y rest e = no_answer e
names_edits_at a n if_statement (absent r) y rest e = no_answer e
names_edits_at a n k below y rest e = no_answer e

-- what an `if` becomes it becomes by edits
pub names_edits : (a : counts.Around) (x y : Tree) (rest : Forest) → if_named x.note x.kind x.below ≡ Some y → TreeEdits (plug a (node x.kind x.note x.below rest)) (plug a (node y.kind y.note y.below rest))
names_edits a x y rest e = names_edits_at a x.note x.kind x.below y rest e
