-- What is known of a program is known of what edits leave of it.
use Rattle.std.proofs.Common.{◌≡◌, ◌∙◌, inl, inr, ℕ, Bool, true, false, true≢false, ◌||◌, refl, sym, subst}
use Rattle.js_syntax.specs.declared.node_kind.NodeKind.{NodeKind as Kind}
use Rattle.js_syntax.specs.Class.{root}
use Rattle.js_syntax.specs.Node.{Forest, Note, node, joined, nothing, absent}
use Rattle.json_shape.specs.Shape.{Fits}
use Rattle.js_effects.specs.Silence.{is_marked}
use Rattle.scope_counts.specs.Losing.{left, MarksWhatLeft}
use Rattle.steps.specs.Allowed.MergedImports.{MergedImports, imports_merge}
use Rattle.steps.specs.Allowed.PassedExports.{PassedExports, exports_pass}
use Rattle.steps.specs.Allowed.Edits.{Edit, TreeEdits, no_tree_edit, one_tree_edit}
use Rattle.steps.specs.Allowed.Exposure.{is_script}
use Rattle.steps.proofs.Fit.Modules.{fits_program}
use Rattle.steps.specs.Owed.Kept.{is_program}
use Rattle.steps.proofs.Owed.FitsEdits.{edit_fits, tree_edits_fit}
use Rattle.steps.specs.Marked.Flags.{first_mark}
use Rattle.steps.proofs.KeepForm.Asked.{idle_kinds, tested_kinds}
use Rattle.steps.proofs.Marked.Cuts.{Cuts, leaves, empties, empties_idle, tests, states, alternate, parts, rebuilds, names_left, inside, behind, behind_none, edit_cuts}
use Rattle.steps.proofs.Marked.Exposing.{part_no_program, holds_no_program}
use Rattle.steps.proofs.Marked.Telling.{no_program, edits_told}
use Rattle.steps.proofs.Marked.Tables.{edits_keep_marked}
use Rattle.steps.proofs.Marked.Unexporting.{edits_export}
use Rattle.rules.specs.DeadCode.Rules.{Facts}
use Rattle.rules.specs.DeadCode.Knows.{Knows}

-- ---- the program itself stays

record SameRoot (t u : Forest) : Type 0 where
  script : is_script u ≡ is_script t
  mark : first_mark u ≡ first_mark t

never : {P : Type 0} → false ≡ true → P
never e = absurd (true≢false (sym e))

script_first : (k : Kind) (n m : Note) (a b c d : Forest) → is_script (node k n a c) ≡ is_script (node k m b d)
script_first (Kind.Program source) n m a b c d = refl
script_first k n m a b c d = refl

root_cut : (listed : Bool) (t u : Forest) → Cuts listed t u → listed ≡ false → is_program t ≡ true → SameRoot t u
root_cut listed t u (leaves k n below rest plain) l e = absurd (true≢false l)
root_cut listed t u (empties r n m below rest) l e = never e
root_cut listed t u (empties_idle r k n m below rest idle) l e = never (idle_kinds (λ z. false ≡ is_program (node z n below rest)) refl refl refl refl refl (λ label. refl) k idle ∙ e)
root_cut listed t u (tests r k x n m i b after rest tested) l e = never (tested_kinds (λ z. false ≡ is_program (node z n (node x i b after) rest)) refl k tested ∙ e)
root_cut listed t u (states r how x k n m l j i o b rest none) q e = never e
root_cut listed t u (alternate y l i j o d b) m e =
    record { script = script_first y i i d d (node l j b (absent nothing)) (node l j b (node Kind.EmptyStatement o nothing nothing)); mark = refl }
root_cut listed t u (parts r k x i j b v w rest gives unasked) l e = never (sym (no_program k i (joined v (node x j b w)) rest gives) ∙ e)
root_cut listed t u (rebuilds r k x n m a b rest made) l e = never (sym (part_no_program k n a rest made.old_unasked) ∙ e)
root_cut listed t u (names_left r k n m a b rest made) l e = never (sym (holds_no_program k n a rest made.holds) ∙ e)
root_cut listed t u (inside r k n below now rest called h) l e = record { script = script_first k n n now below rest rest; mark = refl }
root_cut listed t u (behind r k n below rest now h) l e = record { script = script_first k n n below below now rest; mark = refl }
root_cut listed t u (behind_none r rest now h) l e = never e

root_merged : (t u : Forest) → MergedImports t u → SameRoot t u
root_merged _ _ (imports_merge n m r s h none) = record { script = refl; mark = refl }

root_passed : (t u : Forest) → PassedExports t u → SameRoot t u
root_passed _ _ (exports_pass n m names r s z h free none) = record { script = refl; mark = refl }

root_edited : (t u : Forest) → Edit t u → Fits root t → SameRoot t u
root_edited t u e fits = elim (edit_cuts t u e fits) [
  | inl c ↦ root_cut false t u c refl (fits_program t fits)
  | inr (inl m) ↦ root_merged t u m
  | inr (inr p) ↦ root_passed t u p
]

root_stays : (t u : Forest) → TreeEdits t u → Fits root t → SameRoot t u
root_stays t u (no_tree_edit v) fits = record { script = refl; mark = refl }
root_stays t u (one_tree_edit v w x e more) fits =
    let one = root_edited v w e fits in
    let then_ = root_stays w x more (edit_fits v w e fits) in
    record { script = then_.script ∙ one.script; mark = then_.mark ∙ one.mark }

-- ---- all of it

pub keeps : (f : Facts) (t u : Forest) → TreeEdits t u → (before after : ℕ → Bool) → MarksWhatLeft before t u after → Knows f before t → Knows f after u
keeps f t u edits before after marks h =
    let same = root_stays t u edits h.fits in
    record {
      fits = tree_edits_fit t u edits h.fits;
      exact = edits_keep_marked t u edits h.fits f.scoping before after marks h.exact;
      flags = edits_told f.scoping t u edits h.fits h.flags;
      outermost = same.mark ∙ h.outermost;
      bound = h.bound;
      exported = λ e stands outermost.
          let was = edits_export t u edits h.fits e stands outermost in
          subst (λ o. is_marked f.exported o ≡ true) was.same_mark (h.exported was.declaration was.stands was.is_outermost);
      script = h.script ∙ sym same.script;
    }

-- with some marks
pub record Known (f : Facts) (t : Forest) : Type 0 where
  pub marked : ℕ → Bool
  pub knows : Knows f marked t

pub still_known : (f : Facts) (t u : Forest) → TreeEdits t u → Known f t → Known f u
still_known f t u edits k = record { marked = λ r. k.marked r || left t u r; knows = keeps f t u edits k.marked (λ r. k.marked r || left t u r) (λ r. refl) k.knows }
