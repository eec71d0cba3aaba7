-- What flags tell only they tell only of what edits leave, but for calls of `eval` that left.
use Rattle.std.proofs.Common.{◌≡◌, ◌∙◌, inl, inr, ◌≤◌, ℕ, suc, Bool, true, false, not, ◌&&◌, if◌then◌else◌, Option, refl, sym, ap, ap₂, subst, arith}
use Rattle.js_syntax.specs.declared.node_kind.NodeKind.{NodeKind as Kind}
use Rattle.js_syntax.specs.declared.node_kind.NodeKind.TheVariants as kind
use Rattle.js_syntax.specs.Class.{root}
use Rattle.js_syntax.specs.Node.{Forest, Note, nothing, node, absent, joined, below_of}
use Rattle.json_shape.specs.Shape.{Fits}
use Rattle.scope_rules.specs.Site.{has_eval}
use Rattle.scope_rules.specs.Table.{Scoping}
use Rattle.steps.specs.KeepForm.Sheds.{other}
use Rattle.steps.proofs.KeepForm.Fitting.{fits_laid_out}
use Rattle.steps.proofs.Fit.Modules.{fits_program}
use Rattle.steps.specs.Allowed.Edits.{Edit, TreeEdits, no_tree_edit, one_tree_edit}
use Rattle.steps.specs.Allowed.Exposure.{Exposure, declaring, is_script_source, is_script}
use Rattle.steps.specs.Owed.Kept.{is_program}
use Rattle.steps.proofs.Owed.FitsEdits.{edit_fits}
use Rattle.steps.specs.Marked.Flags.{is_within, Stand, stand_inside, first_mark, stands_of}
use Rattle.steps.specs.Allowed.MergedImports.{MergedImports, imports_merge}
use Rattle.steps.specs.Allowed.PassedExports.{PassedExports, exports_pass}
use Rattle.steps.proofs.Marked.Cuts.{Cuts, edit_cuts}
use Rattle.steps.proofs.Marked.Exposing.{Only, never, kept, part_no_program, holds_no_program}
use Rattle.steps.proofs.Marked.Telling.{no_program, operation_inside}
use Rattle.min_context.specs.Edited.{evals}
use Rattle.rules.specs.DeadCode.Quiet.{ToldOnly}
use Rattle.rules.specs.Told.Places.{EachPlace}
use Rattle.rules.specs.Told.Parts.{FlagsTellOnly, TellsCallsOnly, TellsNamesOnly, CallsToldOnly, NamesToldOnly}
use Rattle.rules.proofs.Told.Standing.{strict_code, is_block, shares_code, exposed_in_scope, inside_reads, scope_evaluates, scope_strict, scope_sloppy, scope_names, scope_variables, scope_outside, variables_within}
use Rattle.steps.proofs.KeepForm.Asked.{idle_kinds, tested_kinds}
use Rattle.rules.proofs.Told.Trims.{Alike, Trims, leaves, empties, empties_idle, tests, states, alternate, parts, rebuilds, names_left, inside, behind, behind_none, fewer, trims}
use Rattle.rules.proofs.Told.Merged.{merged_throughout, merged_evaluates}
use Rattle.rules.proofs.Told.Passed.{passed_throughout, passed_evaluates}
use Rattle.rules.proofs.Told.Walking.{trimmed_stays}

-- ---- the parts, and both

abbrev pub Throughout : (Stand → Type 0) → (ℕ → Stand) → ℕ → Forest → Type 0
Throughout P ps at t = EachPlace stand_inside (λ p k n below. P p) ps at t

module _ (s : Scoping) (script : Bool) where
  pub row_joined : (ps : ℕ → Stand) (at : ℕ) (t : Forest) → Throughout (TellsCallsOnly s) ps at t → Throughout (TellsNamesOnly s script) ps at t → ToldOnly s script ps at t
  row_joined ps at nothing c h = tt
  row_joined ps at (absent rest) c h = row_joined ps (suc at) rest c h
  row_joined ps at (node k n below rest) c h = (
    record { evaluates = c.0; sloppy = h.0.sloppy; names = h.0.names; variable_names = h.0.variable_names },
    row_joined (stand_inside (ps at) k n below) 0 below c.1 h.1,
    row_joined ps (suc at) rest c.2 h.2,
  )

  pub row_calls : (ps : ℕ → Stand) (at : ℕ) (t : Forest) → ToldOnly s script ps at t → Throughout (TellsCallsOnly s) ps at t
  row_calls ps at nothing h = tt
  row_calls ps at (absent rest) h = row_calls ps (suc at) rest h
  row_calls ps at (node k n below rest) h = (h.0.evaluates, row_calls (stand_inside (ps at) k n below) 0 below h.1, row_calls ps (suc at) rest h.2)

  pub row_names : (ps : ℕ → Stand) (at : ℕ) (t : Forest) → ToldOnly s script ps at t → Throughout (TellsNamesOnly s script) ps at t
  row_names ps at nothing h = tt
  row_names ps at (absent rest) h = row_names ps (suc at) rest h
  row_names ps at (node k n below rest) h = (
    record { sloppy = h.0.sloppy; names = h.0.names; variable_names = h.0.variable_names },
    row_names (stand_inside (ps at) k n below) 0 below h.1,
    row_names ps (suc at) rest h.2,
  )

pub joined_only : (s : Scoping) (t : Forest) → CallsToldOnly s t → NamesToldOnly s t → FlagsTellOnly s t
joined_only s t = row_joined s (is_script t) (stands_of t) 0 t

pub calls_of : (s : Scoping) (t : Forest) → FlagsTellOnly s t → CallsToldOnly s t
calls_of s t = row_calls s (is_script t) (stands_of t) 0 t

pub names_of : (s : Scoping) (t : Forest) → FlagsTellOnly s t → NamesToldOnly s t
names_of s t = row_names s (is_script t) (stands_of t) 0 t

-- ---- places: q is of the tree that is there now, p of the one before

record Stays (all : Bool) (q p : Stand) : Type 0 where
  outside : q.exposure.outside ≡ p.exposure.outside
  strict : q.exposure.strict ≡ p.exposure.strict
  names : q.exposure.names_shared ≡ p.exposure.names_shared
  variable_names : q.exposure.variables_shared ≡ p.exposure.variables_shared
  sloppy : q.exposure.in_sloppy_block ≡ p.exposure.in_sloppy_block
  calls : all ≡ true → Only p.exposure.evaluates q.exposure.evaluates
  scope : q.scope ≡ p.scope
  variables : q.variables ≡ p.variables

if_only : (w v x y z u : Bool) → w ≡ v → Only x z → Only y u → Only (if v then x else y) (if w then z else u)
if_only true true x y z u e f g = f
if_only true false x y z u e f g = never (sym e)
if_only false true x y z u e f g = never e
if_only false false x y z u e f g = g

shares_same : (q e : Exposure) (k : Kind) → q.outside ≡ e.outside → shares_code q k ≡ shares_code e k
shares_same q e (kind.Program source) same = ap (λ b. b && is_script_source source) same
shares_same q e k same = refl

module _ (all : Bool) where
  module _ (q p : Stand) (k : Kind) (n : Note) (now below : Forest) (a : Alike all k now below) (f : Stays all q p) (i j : ℕ) (w : is_within k now i ≡ is_within k below j) where
    abbrev there_now : Exposure
    there_now = exposed_in_scope q.exposure k now

    abbrev there : Exposure
    there = exposed_in_scope p.exposure k below

    same_code : strict_code q.exposure.strict k now ≡ strict_code p.exposure.strict k below
    same_code = a.strict q.exposure.strict ∙ ap (λ b. strict_code b k below) f.strict

    same_shared : shares_code q.exposure k ≡ shares_code p.exposure k
    same_shared = shares_same q.exposure p.exposure k f.outside

    reads_same : (read : Exposure → Bool) → ((e : Exposure) (shared : Bool) → read (declaring e shared) ≡ read e) → read there_now ≡ read there → read q.exposure ≡ read p.exposure
        → read (stand_inside q k n now i).exposure ≡ read (stand_inside p k n below j).exposure
    reads_same read undeclared in_scope outside =
        inside_reads read undeclared q.exposure k now i
        ∙ ap₂ (λ v (x : Bool × Bool). if v then x.0 else x.1) w (λ z. (in_scope z, outside z))
        ∙ sym (inside_reads read undeclared p.exposure k below j)

    stays_inside : Stays all (stand_inside q k n now i) (stand_inside p k n below j)
    stays_inside = record {
      outside = reads_same (λ e. e.outside) (λ e b. refl) (scope_outside q.exposure k now ∙ ap (λ b. is_block k && b) f.outside ∙ sym (scope_outside p.exposure k below)) f.outside;
      strict = reads_same (λ e. e.strict) (λ e b. refl) (scope_strict q.exposure k now ∙ same_code ∙ sym (scope_strict p.exposure k below)) f.strict;
      names = reads_same (λ e. e.names_shared) (λ e b. refl) (scope_names q.exposure k now ∙ ap (λ b. not (is_block k) && b) same_shared ∙ sym (scope_names p.exposure k below)) f.names;
      variable_names = reads_same (λ e. e.variables_shared) (λ e b. refl)
          (scope_variables q.exposure k now ∙ ap₂ (λ (x y : Bool). if is_block k then x else y) f.variable_names same_shared ∙ sym (scope_variables p.exposure k below)) f.variable_names;
      sloppy = reads_same (λ e. e.in_sloppy_block) (λ e b. refl) (scope_sloppy q.exposure k now ∙ ap (λ b. is_block k && not b) same_code ∙ sym (scope_sloppy p.exposure k below)) f.sloppy;
      calls = λ e g. inside_reads (λ x. x.evaluates) (λ x b. refl) q.exposure k now i
          ∙ if_only (is_within k now i) (is_within k below j) there.evaluates p.exposure.evaluates there_now.evaluates q.exposure.evaluates w
          (λ h. scope_evaluates q.exposure k now ∙ a.calls e (sym (scope_evaluates p.exposure k below) ∙ h)) (f.calls e)
          (sym (inside_reads (λ x. x.evaluates) (λ x b. refl) p.exposure k below j) ∙ g);
      scope = ap₂ (λ (b : Bool) (o : Option ℕ). if b then n.id else o) w f.scope;
      variables = ap₂ (λ (b : Bool) (o : Option ℕ). if b then n.id else o) (variables_within k now i ∙ ap (λ b. b && not (is_block k)) w ∙ sym (variables_within k below j)) f.variables;
    }

  module _ (q p : Stand) (k : Kind) (n : Note) (below : Forest) (at : ℕ) (w : is_within k below at ≡ false) (f : Stays all q p) where
    reads_through : (read : Exposure → Bool) → ((e : Exposure) (shared : Bool) → read (declaring e shared) ≡ read e) → read (stand_inside p k n below at).exposure ≡ read p.exposure
    reads_through read undeclared = inside_reads read undeclared p.exposure k below at ∙ ap (λ v. if v then read (exposed_in_scope p.exposure k below) else read p.exposure) w

    stays_through : Stays all q (stand_inside p k n below at)
    stays_through = record {
      outside = f.outside ∙ sym (reads_through (λ e. e.outside) (λ e b. refl));
      strict = f.strict ∙ sym (reads_through (λ e. e.strict) (λ e b. refl));
      names = f.names ∙ sym (reads_through (λ e. e.names_shared) (λ e b. refl));
      variable_names = f.variable_names ∙ sym (reads_through (λ e. e.variables_shared) (λ e b. refl));
      sloppy = f.sloppy ∙ sym (reads_through (λ e. e.in_sloppy_block) (λ e b. refl));
      calls = λ e g. f.calls e (sym (reads_through (λ x. x.evaluates) (λ x b. refl)) ∙ g);
      scope = f.scope ∙ sym (ap (λ (b : Bool). if b then n.id else p.scope) w);
      variables = f.variables ∙ sym (ap (λ (b : Bool). if b then n.id else p.variables) (variables_within k below at ∙ ap (λ b. b && not (is_block k)) w));
    }

  module _ (q p : Stand) (k : Kind) (n : Note) (now : Forest) (at : ℕ) (w : is_within k now at ≡ false) (f : Stays all q p) where
    reads_into : (read : Exposure → Bool) → ((e : Exposure) (shared : Bool) → read (declaring e shared) ≡ read e) → read (stand_inside q k n now at).exposure ≡ read q.exposure
    reads_into read undeclared = inside_reads read undeclared q.exposure k now at ∙ ap (λ v. if v then read (exposed_in_scope q.exposure k now) else read q.exposure) w

    stays_into : Stays all (stand_inside q k n now at) p
    stays_into = record {
      outside = reads_into (λ e. e.outside) (λ e b. refl) ∙ f.outside;
      strict = reads_into (λ e. e.strict) (λ e b. refl) ∙ f.strict;
      names = reads_into (λ e. e.names_shared) (λ e b. refl) ∙ f.names;
      variable_names = reads_into (λ e. e.variables_shared) (λ e b. refl) ∙ f.variable_names;
      sloppy = reads_into (λ e. e.in_sloppy_block) (λ e b. refl) ∙ f.sloppy;
      calls = λ e g. reads_into (λ x. x.evaluates) (λ x b. refl) ∙ f.calls e g;
      scope = ap (λ (b : Bool). if b then n.id else q.scope) w ∙ f.scope;
      variables = ap (λ (b : Bool). if b then n.id else q.variables) (variables_within k now at ∙ ap (λ b. b && not (is_block k)) w) ∙ f.variables;
    }

names_stay : (s : Scoping) (script all : Bool) (q p : Stand) → Stays all q p → TellsNamesOnly s script p → TellsNamesOnly s script q
names_stay s script all q p f h = record {
  sloppy = λ n e g. f.sloppy ∙ h.sloppy n (sym f.scope ∙ e) g;
  names = λ g e. f.names ∙ h.names g (sym f.scope ∙ e);
  variable_names = λ g e. f.variable_names ∙ h.variable_names g (sym f.variables ∙ e);
}

calls_stay : (s : Scoping) (q p : Stand) → Stays true q p → TellsCallsOnly s p → TellsCallsOnly s q
calls_stay s q p f h = λ n e g. f.calls refl (h n (sym f.scope ∙ e) g)

-- ---- whole programs

record SameRoot (all : Bool) (t u : Forest) : Type 0 where
  script : is_script u ≡ is_script t
  mark : first_mark u ≡ first_mark t
  calls : all ≡ true → Only (has_eval (below_of t)) (has_eval (below_of u))

root_stays : (all listed : Bool) (t u : Forest) → Trims all listed t u → listed ≡ false → is_program t ≡ true → SameRoot all t u
root_stays all listed t u (leaves k n below rest) l e = never (sym l)
root_stays all listed t u (empties r n m below rest) l e = never e
root_stays all listed t u (empties_idle r k n m below rest idle) l e = never (idle_kinds (λ z. false ≡ is_program (node z n below rest)) refl refl refl refl refl (λ label. refl) k idle ∙ e)
root_stays all listed t u (tests r k x n m i b after rest tested) l e = never (tested_kinds (λ z. false ≡ is_program (node z n (node x i b after) rest)) refl k tested ∙ e)
root_stays all listed t u (states r how x k n m l j y o b rest) q e = never e
root_stays all listed t u (alternate (kind.Program source) l i j o d b) m e = record { script = refl; mark = refl; calls = λ g. kept }
root_stays all listed t u (alternate y l i j o d b) m e = never e
root_stays all listed t u (parts r k x i j b v w rest gives) l e = never (sym (no_program k i (joined v (node x j b w)) rest gives) ∙ e)
root_stays all listed t u (rebuilds r k x n m a b rest made unasked) l e = never (sym (part_no_program k n a rest unasked) ∙ e)
root_stays all listed t u (names_left r k n m a b rest made) l e = never (sym (holds_no_program k n a rest made.holds) ∙ e)
root_stays all listed t u (inside r (kind.Program source) n below now rest a h) l e = record { script = refl; mark = refl; calls = a.calls }
root_stays all listed t u (inside r k n below now rest a h) l e = never e
root_stays all listed t u (behind r (kind.Program source) n below rest now h) l e = record { script = refl; mark = refl; calls = λ g. kept }
root_stays all listed t u (behind r k n below rest now h) l e = never e
root_stays all listed t u (behind_none r rest now h) l e = never e

stays_at_root : (all : Bool) (t u : Forest) → SameRoot all t u → (i j : ℕ) → i ≡ j → Stays all (stands_of u i) (stands_of t j)
stays_at_root all t u same i j f = subst (λ (m : ℕ). Stays all (stands_of u i) (stands_of t m)) f
    (record { outside = refl; strict = refl; names = same.script; variable_names = same.script; sloppy = refl; calls = same.calls; scope = same.mark; variables = same.mark })

module _ (all : Bool) (t u : Forest) (c : Cuts false t u) (fits : Fits root t) (left : all ≡ true → evals u ≡ evals t) where
  edit_trims : Trims all false t u
  edit_trims = trims all false other t u c (fits_laid_out t fits) left

  edit_root : SameRoot all t u
  edit_root = root_stays all false t u edit_trims refl (fits_program t fits)

  throughout_stays : (P : Stand → Type 0) → ((q p : Stand) → Stays all q p → P p → P q) → Throughout P (stands_of t) 0 t → Throughout P (stands_of u) 0 u
  throughout_stays P keeps h =
      trimmed_stays all stand_inside (λ p k n below. P p) (Stays all) (stays_inside all) (stays_through all) (stays_into all) (λ q p k n now below a f x. keeps q p f x) (λ p k l n m below now none x. x) operation_inside (λ p n below at. refl) false t u edit_trims (stands_of u) (stands_of t) 0 0
      (λ i j f. stays_at_root all t u edit_root i j (f refl)) (λ l. refl) h

same_script : (t u : Forest) → MergedImports t u → is_script u ≡ is_script t
same_script _ _ (imports_merge n m r s h none) = refl

passed_script : (t u : Forest) → PassedExports t u → is_script u ≡ is_script t
passed_script _ _ (exports_pass n m names r s z h free none) = refl

edit_names : (s : Scoping) (t u : Forest) → Edit t u → Fits root t → NamesToldOnly s t → NamesToldOnly s u
edit_names s t u e fits h = elim (edit_cuts t u e fits) [
  | inl c ↦
      let none : false ≡ true → evals u ≡ evals t = λ g. never g in
      subst (λ b. Throughout (TellsNamesOnly s b) (stands_of u) 0 u) (sym (edit_root false t u c fits none).script) (throughout_stays false t u c fits none (TellsNamesOnly s (is_script t)) (names_stay s (is_script t) false) h)
  | inr (inl m) ↦ subst (λ b. Throughout (TellsNamesOnly s b) (stands_of u) 0 u) (sym (same_script t u m)) (merged_throughout (TellsNamesOnly s (is_script t)) t u m h)
  | inr (inr p) ↦ subst (λ b. Throughout (TellsNamesOnly s b) (stands_of u) 0 u) (sym (passed_script t u p)) (passed_throughout (TellsNamesOnly s (is_script t)) t u p h)
]

pub edits_names : (s : Scoping) (t u : Forest) → TreeEdits t u → Fits root t → NamesToldOnly s t → NamesToldOnly s u
edits_names s t u (no_tree_edit v) fits h = h
edits_names s t u (one_tree_edit v w x e more) fits h = edits_names s w x more (edit_fits v w e fits) (edit_names s v w e fits h)

pub edit_fewer : (t u : Forest) → Edit t u → Fits root t → evals u ≤ evals t
edit_fewer t u e fits = elim (edit_cuts t u e fits) [
  | inl c ↦ fewer false t u c
  | inr (inl m) ↦ Prim.omega (arith, merged_evaluates t u m)
  | inr (inr p) ↦ Prim.omega (arith, passed_evaluates t u p)
]

edits_fewer : (t u : Forest) → TreeEdits t u → Fits root t → evals u ≤ evals t
edits_fewer t u (no_tree_edit v) fits = Prim.omega arith
edits_fewer t u (one_tree_edit v w x e more) fits = Prim.omega (arith, edits_fewer w x more (edit_fits v w e fits), edit_fewer v w e fits)

edit_calls : (s : Scoping) (t u : Forest) → Edit t u → Fits root t → evals u ≡ evals t → CallsToldOnly s t → CallsToldOnly s u
edit_calls s t u e fits same h = elim (edit_cuts t u e fits) [
  | inl c ↦ throughout_stays true t u c fits (λ g. same) (TellsCallsOnly s) (calls_stay s) h
  | inr (inl m) ↦ merged_throughout (TellsCallsOnly s) t u m h
  | inr (inr p) ↦ passed_throughout (TellsCallsOnly s) t u p h
]

edits_calls : (s : Scoping) (t u : Forest) → TreeEdits t u → Fits root t → evals u ≡ evals t → CallsToldOnly s t → CallsToldOnly s u
edits_calls s t u (no_tree_edit v) fits same h = h
edits_calls s t u (one_tree_edit v w x e more) fits same h =
    let next = edit_fits v w e fits in
    let later = edits_fewer w x more next in
    let now = edit_fewer v w e fits in
    edits_calls s w x more next (Prim.omega (arith, same, later, now)) (edit_calls s v w e fits (Prim.omega (arith, same, later, now)) h)

pub edits_told_only : (s : Scoping) (t u : Forest) → TreeEdits t u → Fits root t → evals u ≡ evals t → FlagsTellOnly s t → FlagsTellOnly s u
edits_told_only s t u edits fits same h = joined_only s u (edits_calls s t u edits fits same (calls_of s t h)) (edits_names s t u edits fits (names_of s t h))
