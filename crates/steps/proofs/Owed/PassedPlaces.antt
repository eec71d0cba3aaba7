-- Where in a program's own list the import and the export stand that become an export from the other module.
use Rattle.std.proofs.Common.{◌≡◌, ◌∙◌, ℕ, suc, ◌+◌, List, Bool, true, false, true≢false, Some, None, inl, refl, sym, ap}
use Rattle.js_syntax.specs.declared.node_kind.NodeKind.{NodeKind as Kind}
use Rattle.js_syntax.specs.declared.node_kind.NodeKind.TheVariants.{Program as program, Statements as statements, ImportDeclaration as import_declaration, Specifiers as specifiers, ExportNamedDeclaration as export_named_declaration}
use Rattle.js_syntax.specs.declared.scalar.SourceType.TheVariants as source_type
use Rattle.js_syntax.specs.Node.{Forest, Tree, Note, nothing, node, absent}
use Rattle.scope_rules.specs.Context.{Context}
use Rattle.scope_rules.specs.Site.{scope_count}
use Rattle.scope_laws.specs.Place.{Around, first, behind, behind_none, under, plug}
use Rattle.scope_laws.specs.Lists.{without, is_listed}
use Rattle.min_pass.specs.declared.around.Around.{Around as Asked}
use Rattle.min_pass.specs.Around.{outermost as asked_of_program}
use Rattle.steps.specs.Allowed.Places.{asked_at}
use Rattle.steps.specs.Allowed.Silent.{HoldsThere}
use Rattle.steps.specs.Allowed.PassedExports.{WithoutExport, export_leaves, leaves_behind, PassesIn, passes_here, passes_behind}
use Rattle.steps.specs.Owed.Owed.{IsListed}
use Rattle.steps.proofs.Owed.MergedRows.{AreNames}
use Rattle.steps.proofs.Owed.PassedRows.{AreListed, IsNew, parts}
use Rattle.steps.proofs.Owed.RepeatedRuns.{is_flat}

abbrev pub an_export : (listed : Forest) → (n m : Note) → Tree
an_export listed n m = record { kind = export_named_declaration None; note = n; below = absent (node specifiers m listed nothing) }

abbrev pub an_import : (source : List ℕ) → (names : Forest) → (n m : Note) → Tree
an_import source names n m = record { kind = import_declaration source; note = n; below = node specifiers m names nothing }

abbrev pub a_tree : Kind → Note → Forest → Tree
a_tree k n below = record { kind = k; note = n; below = below }

-- ---- the export

pub record ExportIn (listed row left : Forest) : Type 0 where
  pub note : Note
  pub list_note : Note
  pub around : Around
  pub flat : is_flat around ≡ true
  pub there : plug around (Some (an_export listed note list_note)) ≡ row
  pub gone : without around ≡ left

pub export_in : {listed r s : Forest} → WithoutExport listed r s → ExportIn listed r s
export_in (export_leaves n m rest) = record { note = n; list_note = m; around = first rest; flat = refl; there = refl; gone = refl }
export_in (leaves_behind k n below r s out) =
    let o = export_in out in
    record { note = o.note; list_note = o.list_note; around = behind k n below o.around; flat = o.flat; there = ap (λ t. node k n below t) o.there; gone = ap (λ t. node k n below t) o.gone }

-- the row without it
pub record Listed (row left : Forest) : Type 0 where
  pub listed : Forest
  pub listed_are : AreListed listed
  pub out : WithoutExport listed row left

pub export_out : {names r s z : Forest} → PassesIn names r s z → Listed r s
export_out {names = names} (passes_here source n m i listed k below r s on out) =
    record { listed = listed; listed_are = (parts on).listed_are; out = leaves_behind (import_declaration source) n (node specifiers m names nothing) r s out }
export_out (passes_behind k n below r s z h) = let o = export_out h in record { listed = o.listed; listed_are = o.listed_are; out = leaves_behind k n below r s o.out }

-- ---- the import, and what comes in its place

pub record ImportIn (names left now : Forest) : Type 0 where
  pub source : List ℕ
  pub note : Note
  pub list_note : Note
  pub names_are : AreNames names
  pub kind : Kind
  pub new_note : Note
  pub below : Forest
  pub new : IsNew source kind below
  pub around : Around
  pub flat : is_flat around ≡ true
  pub there : plug around (Some (an_import source names note list_note)) ≡ left
  pub comes : plug around (Some (a_tree kind new_note below)) ≡ now

unfoldable pub import_in : {names r s z : Forest} → PassesIn names r s z → ImportIn names s z
import_in (passes_here source n m i listed k below r s on out) = record {
  source = source;
  note = n;
  list_note = m;
  names_are = (parts on).names_are;
  kind = k;
  new_note = i;
  below = below;
  new = (parts on).new;
  around = first s;
  flat = refl;
  there = refl;
  comes = refl;
}
import_in (passes_behind k n below r s z h) =
    let o = import_in h in
    record {
      source = o.source;
      note = o.note;
      list_note = o.list_note;
      names_are = o.names_are;
      kind = o.kind;
      new_note = o.new_note;
      below = o.below;
      new = o.new;
      around = behind k n below o.around;
      flat = o.flat;
      there = ap (λ t. node k n below t) o.there;
      comes = ap (λ t. node k n below t) o.comes;
    }

-- ---- in a module

abbrev pub in_module : (n m : Note) → Around → Around
in_module n m a = under (program source_type.Module) n (under statements m a nothing) nothing

pub flat_listed : (a : Around) → is_flat a ≡ true → is_listed true a ≡ true
flat_listed (first rest) flat = refl
flat_listed (behind k n b a) flat = flat_listed a flat
flat_listed (behind_none a) flat = flat_listed a flat
flat_listed (under k n a rest) flat = absurd (true≢false (sym flat))

-- what holds in a list's context holds at a place of it
pub flat_holds : (c : Context) (x : Tree) (P : Bool → Context → ℕ → Type 0) → ((next : ℕ) → P false c next) → (at next : ℕ) (a : Around) → is_flat a ≡ true → HoldsThere false (λ i. c) at next a (Some x) P
flat_holds c x P h at next (first rest) flat = h next
flat_holds c x P h at next (behind k n b a) flat = flat_holds c x P h (suc at) (next + scope_count (node k n b nothing)) a flat
flat_holds c x P h at next (behind_none a) flat = flat_holds c x P h (suc at) next a flat
flat_holds c x P h at next (under k n a rest) flat = absurd (true≢false (sym flat))

flat_asked : (w : Asked) (a : Around) → is_flat a ≡ true → asked_at w a ≡ w
flat_asked w (first rest) flat = refl
flat_asked w (behind k n b a) flat = flat_asked w a flat
flat_asked w (behind_none a) flat = flat_asked w a flat
flat_asked w (under k n a rest) flat = absurd (true≢false (sym flat))

pub flat_item : (n m : Note) (a : Around) → is_flat a ≡ true → IsListed (in_module n m a)
flat_item n m a flat = inl (ap (λ (w : Asked). w.row) (flat_asked (asked_at (asked_of_program true) (in_module n m (first nothing))) a flat))

-- the same place, behind a further node
abbrev pub put_before : Kind → Note → Forest → Around → Around
put_before k n b (first rest) = behind k n b (first rest)
put_before k n b (behind j i c a) = behind j i c (put_before k n b a)
put_before k n b (behind_none a) = behind_none (put_before k n b a)
put_before k n b (under j i a rest) = under j i (put_before k n b a) rest

pub before_flat : (k : Kind) (n : Note) (b : Forest) (a : Around) → is_flat a ≡ true → is_flat (put_before k n b a) ≡ true
before_flat k n b (first rest) flat = refl
before_flat k n b (behind j i c a) flat = before_flat k n b a flat
before_flat k n b (behind_none a) flat = before_flat k n b a flat
before_flat k n b (under j i a rest) flat = absurd (true≢false (sym flat))

pub before_alone : (k : Kind) (n : Note) (b : Forest) (a : Around) → without (put_before k n b a) ≡ plug a (Some (a_tree k n b))
before_alone k n b (first rest) = refl
before_alone k n b (behind j i c a) = ap (λ t. node j i c t) (before_alone k n b a)
before_alone k n b (behind_none a) = ap (λ t. absent t) (before_alone k n b a)
before_alone k n b (under j i a rest) = ap (λ t. node j i t rest) (before_alone k n b a)
