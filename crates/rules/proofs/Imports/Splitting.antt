-- The place of an import's name lies in the list that the import has.
use Rattle.std.proofs.Common.{◌≡◌, ◌∙◌, ◌⊎◌, inl, inr, ℕ, List, Bool, true, false, true≢false, Some, refl, sym, ap, subst}
use Rattle.js_syntax.specs.declared.node_kind.NodeKind.{NodeKind as Kind}
use Rattle.js_syntax.specs.declared.node_kind.NodeKind.TheVariants.{ImportDeclaration as import_declaration, Specifiers as specifiers}
use Rattle.js_syntax.specs.Node.{Forest, Tree, Note, nothing, node, absent}
use Rattle.scope_laws.specs.Place as places
use Rattle.scope_laws.specs.Place.{Around, first}
use Rattle.scope_counts.specs.Edits as counts
use Rattle.scope_counts.specs.Edits.{here, behind, behind_none, under, plug}
use Rattle.steps.specs.Allowed.Imports.{ImportRow, below_import, in_names, elsewhere, import_row_below, import_row, IsImported}
use Rattle.steps.proofs.Owed.Places.{place_of, rest_of}
use Rattle.rules.proofs.DeadCode.Places.{to, plugged, join, plug_join, is_row}
use Rattle.rules.proofs.DeadCode.Splitting.{whole_place}
use Rattle.rules.proofs.DeadCode.Alive.{to_join}
use Rattle.rules.proofs.Imports.LaidOut.{has_names, are_listed, listed_there}
use Rattle.rules.proofs.Imports.Places.{row_there, row_to, row_along, in_import}

-- ---- rows

abbrev is_names : ImportRow → Bool
is_names in_names = true
is_names r = false

abbrev is_below : ImportRow → Bool
is_below below_import = true
is_below r = false

not_names : {P : Type 0} (r : ImportRow) → is_names r ≡ false → r ≡ in_names → P
not_names r f e = absurd (true≢false (sym (ap is_names e) ∙ f))

not_below : {P : Type 0} (r : ImportRow) → is_below r ≡ false → r ≡ below_import → P
not_below r f e = absurd (true≢false (sym (ap is_below e) ∙ f))

record Lists (r : ImportRow) (k : Kind) : Type 0 where
  row_is : r ≡ below_import
  kind_is : k ≡ specifiers

list_above : (r : ImportRow) (k : Kind) → import_row_below r k ≡ in_names → Lists r k
list_above r (import_declaration source) e = not_names below_import refl e
list_above below_import specifiers e = record { row_is = refl; kind_is = refl }
list_above r k e = not_names elsewhere refl e

record Imports (k : Kind) : Type 0 where
  source : List ℕ
  kind_is : k ≡ import_declaration source

import_above : (r : ImportRow) (k : Kind) → import_row_below r k ≡ below_import → Imports k
import_above r (import_declaration source) e = record { source = source; kind_is = refl }
import_above below_import specifiers e = not_below in_names refl e
import_above r k e = not_below elsewhere refl e

-- ---- the node above the place of a row

record Above (r : ImportRow) (a : counts.Around) : Type 0 where
  outer : counts.Around
  kind : Kind
  note : Note
  inner : counts.Around
  beside : Forest
  in_row : is_row inner ≡ true
  is : a ≡ join outer (under kind note inner beside)
  row_is : row_there r a ≡ import_row_below (row_there r outer) kind

split : (r : ImportRow) (a : counts.Around) → (is_row a ≡ true) ⊎ Above r a
split r here = inl refl
split r (behind k n b a) = elim (split r a) [
  | inl e ↦ inl e
  | inr o ↦ inr (record { outer = behind k n b o.outer; kind = o.kind; note = o.note; inner = o.inner; beside = o.beside; in_row = o.in_row; is = ap (λ x. behind k n b x) o.is; row_is = o.row_is })
]
split r (behind_none a) = elim (split r a) [
  | inl e ↦ inl e
  | inr o ↦ inr (record { outer = behind_none o.outer; kind = o.kind; note = o.note; inner = o.inner; beside = o.beside; in_row = o.in_row; is = ap (λ x. behind_none x) o.is; row_is = o.row_is })
]
split r (under k n a rest) = elim (split (import_row_below r k) a) [
  | inl e ↦ inr (record { outer = here; kind = k; note = n; inner = a; beside = rest; in_row = e; is = refl; row_is = row_along (import_row_below r k) a e })
  | inr o ↦ inr (record { outer = under k n o.outer rest; kind = o.kind; note = o.note; inner = o.inner; beside = o.beside; in_row = o.in_row; is = ap (λ x. under k n x rest) o.is; row_is = o.row_is })
]

above : (a : counts.Around) (row : ImportRow) → (elsewhere ≡ row → ⊥) → row_there elsewhere a ≡ row → Above elsewhere a
above a row differs e = by (split elsewhere a)
  where
    by : (is_row a ≡ true) ⊎ Above elsewhere a → Above elsewhere a
    by (inl r) = absurd (differs (sym (row_along elsewhere a r) ∙ e))
    by (inr o) = o

record InImport (a : counts.Around) : Type 0 where
  outer : counts.Around
  source : List ℕ
  note : Note
  list : counts.Around
  beside : Forest
  list_note : Note
  inner : counts.Around
  list_beside : Forest
  list_in_row : is_row list ≡ true
  in_row : is_row inner ≡ true
  is : a ≡ join (join outer (under (import_declaration source) note list beside)) (under specifiers list_note inner list_beside)

-- a list that stands in an import, and a row in the list
imported_in : (a : counts.Around) (o : Above elsewhere a) (q : Above elsewhere o.outer) → o.kind ≡ specifiers → Imports q.kind → InImport a
imported_in a o q lists imports = record {
  outer = q.outer;
  source = imports.source;
  note = q.note;
  list = q.inner;
  beside = q.beside;
  list_note = o.note;
  inner = o.inner;
  list_beside = o.beside;
  list_in_row = q.in_row;
  in_row = o.in_row;
  is = o.is ∙ ap (λ k. join o.outer (under k o.note o.inner o.beside)) lists ∙ ap (λ c. join c (under specifiers o.note o.inner o.beside)) q.is
      ∙ ap (λ k. join (join q.outer (under k q.note q.inner q.beside)) (under specifiers o.note o.inner o.beside)) imports.kind_is;
}

below_an_import : (a : counts.Around) → row_there elsewhere a ≡ in_names → InImport a
below_an_import a e =
    let o = above a in_names (λ f. true≢false (sym (ap is_names f))) e in
    let lists = list_above (row_there elsewhere o.outer) o.kind (sym o.row_is ∙ e) in
    let q = above o.outer below_import (λ f. true≢false (sym (ap is_below f))) lists.row_is in
    imported_in a o q lists.kind_is (import_above (row_there elsewhere q.outer) q.kind (sym q.row_is ∙ lists.row_is))

-- ---- an import has its list, and nothing beside

record OnlyList (list : counts.Around) (beside : Forest) : Type 0 where
  is_first : list ≡ here
  is_last : beside ≡ nothing

after_list : (m : Note) (names beside : Forest) → has_names (node specifiers m names beside) ≡ true → beside ≡ nothing
after_list m names nothing e = refl
after_list m names (absent rest) e = absurd (true≢false (sym e))
after_list m names (node k n b rest) e = absurd (true≢false (sym e))

not_after : (c : counts.Around) (m : Note) (names beside : Forest) → is_row c ≡ true → plug c (node specifiers m names beside) ≡ nothing → ⊥
not_after here m names beside r e = absurd cc
not_after (behind k n b c) m names beside r e = absurd cc
not_after (behind_none c) m names beside r e = absurd cc
not_after (under k n c rest) m names beside r e = absurd cc

behind_node : (k : Kind) (n : Note) (b t : Forest) → has_names (node k n b t) ≡ true → t ≡ nothing
behind_node specifiers n b nothing e = refl
behind_node specifiers n b (absent rest) e = absurd (true≢false (sym e))
behind_node specifiers n b (node j m c rest) e = absurd (true≢false (sym e))
behind_node k n b t e = absurd (true≢false (sym e))

only_list : (list : counts.Around) (m : Note) (names beside : Forest) → is_row list ≡ true → has_names (plug list (node specifiers m names beside)) ≡ true → OnlyList list beside
only_list here m names beside r e = record { is_first = refl; is_last = after_list m names beside e }
only_list (behind k n b c) m names beside r e = absurd (not_after c m names beside r (behind_node k n b (plug c (node specifiers m names beside)) e))
only_list (behind_none c) m names beside r e = absurd (true≢false (sym e))
only_list (under k n c rest) m names beside r e = absurd (true≢false (sym r))

-- ---- any place

there_is : (b : Around) → row_there elsewhere (place_of b) ≡ import_row elsewhere b
there_is b = sym (row_to elsewhere (place_of b) (first (rest_of b))) ∙ ap (λ c. import_row elsewhere c) (whole_place b)

pub record NameIn (b : Around) : Type 0 where
  pub outer : counts.Around
  pub source : List ℕ
  pub note : Note
  pub list_note : Note
  pub before : counts.Around
  pub more : Forest
  pub rest : Forest
  pub in_row : is_row before ≡ true
  pub is : to outer (in_import source note list_note before more rest) ≡ b

pub name_in : (b : Around) (x : Tree) → are_listed (places.plug b (Some x)) ≡ true → IsImported b → NameIn b
name_in b x listed imported =
    let r = below_an_import (place_of b) (there_is b ∙ imported) in
    let row = node x.kind x.note x.below (rest_of b) in
    let kind = import_declaration r.source in
    let import_ = under kind r.note r.list r.beside in
    let names = under specifiers r.list_note r.inner r.list_beside in
    let tree : places.plug b (Some x) ≡ plug r.outer (plug import_ (plug names row)) =
    ap (λ c. places.plug c (Some x)) (sym (whole_place b)) ∙ plugged (place_of b) (first (rest_of b)) (Some x) ∙ ap (λ a. plug a row) r.is ∙ plug_join (join r.outer import_) names row ∙ plug_join r.outer import_ (plug names row) in
    let below = plug r.list (node specifiers r.list_note (plug r.inner row) r.list_beside) in
    let has : has_names below ≡ true = listed_there r.outer kind r.note below r.beside (subst (λ t. are_listed t ≡ true) tree listed) in
    let only = only_list r.list r.list_note (plug r.inner row) r.list_beside r.list_in_row has in
    record {
      outer = r.outer;
      source = r.source;
      note = r.note;
      list_note = r.list_note;
      before = r.inner;
      more = rest_of b;
      rest = r.beside;
      in_row = r.in_row;
      is = sym (to_join r.outer (under kind r.note here r.beside) (to (under specifiers r.list_note r.inner nothing) (first (rest_of b))))
          ∙ sym (to_join (join r.outer (under kind r.note here r.beside)) (under specifiers r.list_note r.inner nothing) (first (rest_of b)))
          ∙ ap (λ e. to (join (join r.outer (under kind r.note e r.beside)) (under specifiers r.list_note r.inner nothing)) (first (rest_of b))) (sym only.is_first)
          ∙ ap (λ e. to (join (join r.outer import_) (under specifiers r.list_note r.inner e)) (first (rest_of b))) (sym only.is_last)
          ∙ ap (λ a. to a (first (rest_of b))) (sym r.is) ∙ whole_place b;
    }
