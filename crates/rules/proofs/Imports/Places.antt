-- Places of an import's names.
use Rattle.std.proofs.Common.{◌≡◌, ◌∙◌, ℕ, List, Bool, true, Option, Some, refl, sym, ap, subst}
use Rattle.js_syntax.specs.declared.node_kind.NodeKind.TheVariants.{ImportDeclaration as import_declaration, Specifiers as specifiers}
use Rattle.js_syntax.specs.Node.{Forest, Tree, Note, nothing, node}
use Rattle.min_context.specs.Place.{place_at, goes_on}
use Rattle.scope_laws.specs.Place as places
use Rattle.scope_laws.specs.Place.{Around, first, placed}
use Rattle.scope_laws.specs.Lists.{without}
use Rattle.scope_counts.specs.Edits as counts
use Rattle.scope_counts.specs.Edits.{here, behind, behind_none, under, plug}
use Rattle.steps.specs.Allowed.Edits.{Edit}
use Rattle.steps.specs.Allowed.Imports.{ImportRow, in_names, elsewhere, import_row_below, import_row, IsImported}
use Rattle.steps.specs.Marked.Flags.{Stand, stand_inside, stand}
use Rattle.rules.specs.DeadCode.Knows.{Knows}
use Rattle.rules.specs.DeadCode.Rules.{Facts, where_of}
use Rattle.rules.proofs.DeadCode.LaidOut.{fits_laid}
use Rattle.rules.proofs.DeadCode.Places.{to, plugged, left_out, join, is_row}
use Rattle.rules.proofs.DeadCode.Numbers.{Same, whole_stand, numbers, stand_to, stand_along}
use Rattle.rules.proofs.Imports.Pruned.{wrong}

-- ---- which row it is

abbrev pub row_there : ImportRow → counts.Around → ImportRow
row_there r here = r
row_there r (behind k n b a) = row_there r a
row_there r (behind_none a) = row_there r a
row_there r (under k n a rest) = row_there (import_row_below r k) a

pub row_to : (r : ImportRow) (a : counts.Around) (b : Around) → import_row r (to a b) ≡ import_row (row_there r a) b
row_to r here b = refl
row_to r (behind k n c a) b = row_to r a b
row_to r (behind_none a) b = row_to r a b
row_to r (under k n a rest) b = row_to (import_row_below r k) a b

pub row_along : (r : ImportRow) (a : counts.Around) → is_row a ≡ true → row_there r a ≡ r
row_along r here e = refl
row_along r (behind k n c a) e = row_along r a e
row_along r (behind_none a) e = row_along r a e
row_along r (under k n a rest) e = wrong e

pub row_join_none : (a : counts.Around) → is_row a ≡ true → is_row (join a (behind_none here)) ≡ true
row_join_none here e = refl
row_join_none (behind k n c a) e = row_join_none a e
row_join_none (behind_none a) e = row_join_none a e
row_join_none (under k n a rest) e = wrong e

-- ---- names

-- an import with others behind it
abbrev pub an_import : List ℕ → (n m : Note) → (names rest : Forest) → Forest
an_import source n m names rest = node (import_declaration source) n (node specifiers m names nothing) rest

-- the place behind some of its names
abbrev pub in_import : List ℕ → (n m : Note) → counts.Around → (more rest : Forest) → Around
in_import source n m d more rest = places.under (import_declaration source) n (places.under specifiers m (to d (first more)) nothing) rest

module _ (a d : counts.Around) (source : List ℕ) (n m : Note) (more rest : Forest) where
  pub name_plugged : (x : Option Tree) → places.plug (to a (in_import source n m d more rest)) x ≡ plug a (an_import source n m (plug d (placed x more)) rest)
  name_plugged x = plugged a (in_import source n m d more rest) x ∙ ap (λ t. plug a (an_import source n m t rest)) (plugged d (first more) x)

  name_left : without (to a (in_import source n m d more rest)) ≡ plug a (an_import source n m (plug d more) rest)
  name_left = left_out a (in_import source n m d more rest) ∙ ap (λ t. plug a (an_import source n m t rest)) (left_out d (first more))

  pub name_edit : (x : Option Tree) → Edit (places.plug (to a (in_import source n m d more rest)) x) (without (to a (in_import source n m d more rest)))
      → Edit (plug a (an_import source n m (plug d (placed x more)) rest)) (plug a (an_import source n m (plug d more) rest))
  name_edit x e =
      subst (λ u. Edit (plug a (an_import source n m (plug d (placed x more)) rest)) u) name_left
      (subst (λ t. Edit t (without (to a (in_import source n m d more rest)))) (name_plugged x) e)

  pub name_there : is_row d ≡ true → IsImported (to a (in_import source n m d more rest))
  name_there e = row_to elsewhere a (in_import source n m d more rest) ∙ row_to in_names d (first more) ∙ row_along in_names d e

  -- the scope that they are declared in is the one around the import
  pub import_same : (f : Facts) (marked : ℕ → Bool) (names : Forest) → Knows f marked (plug a (an_import source n m names rest)) → Same (whole_stand a (an_import source n m names rest)) (where_of (place_at a (goes_on rest)))
  import_same f marked names h =
      let whole = an_import source n m names rest in
      numbers f.scoping a (import_declaration source) n (node specifiers m names nothing) rest (fits_laid (plug a whole) h.fits) h.flags h.outermost

  pub name_stands : (x : Option Tree) → is_row d ≡ true
      → let list = node specifiers m (places.plug (to d (first more)) x) nothing in
      stand (to a (in_import source n m d more rest)) x ≡ stand_inside (whole_stand a (node (import_declaration source) n list rest)) (import_declaration source) n list 0
  name_stands x e =
      let list = node specifiers m (places.plug (to d (first more)) x) nothing in
      let q = stand_inside (whole_stand a (node (import_declaration source) n list rest)) (import_declaration source) n list 0 in
      stand_to a (in_import source n m d more rest) x ∙ stand_along q 0 d more x e

  pub name_declares : (f : Facts) (marked : ℕ → Bool) (x : Tree) → is_row d ≡ true → Knows f marked (plug a (an_import source n m (plug d (placed (Some x) more)) rest))
      → (stand (to a (in_import source n m d more rest)) (Some x)).declaring ≡ Some (where_of (place_at a (goes_on rest))).scope
  name_declares f marked x e h =
      let names = places.plug (to d (first more)) (Some x) in
      let known : Knows f marked (plug a (an_import source n m names rest)) = subst (λ t. Knows f marked (plug a (an_import source n m t rest))) (sym (plugged d (first more) (Some x))) h in
      ap (λ (r : Stand). r.declaring) (name_stands (Some x) e) ∙ (import_same f marked names known).scope
