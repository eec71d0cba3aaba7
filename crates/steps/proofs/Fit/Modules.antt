-- A module that fits the table of node types is a program with one list of statements.
use Rattle.std.proofs.Common.{◌≡◌, Bool, true, Some, [], ◌∷◌, refl, sym, ap₂, subst}
use Rattle.js_syntax.specs.Class.{Class, root}
use Rattle.js_syntax.specs.declared.node_kind.NodeKind.TheVariants.{Program as program, Statements as statements}
use Rattle.js_syntax.specs.declared.scalar.SourceType.TheVariants as source_type
use Rattle.js_syntax.specs.Hint.{has, is_private}
use Rattle.js_syntax.specs.Node.{Forest, Note, nothing, node, absent}
use Rattle.js_syntax.specs.Table.{Row, a_program, fields_of, type_of, stands}
use Rattle.json_shape.specs.Shape.{Values, kind_in, first_of, body, these, Stand, Fits, places}
use Rattle.js_meaning_near.specs.Near.{module_of}
use Rattle.steps.specs.Fit.Sensible.{is_program}

-- a module, as its list of statements
pub record IsModule (t : Forest) : Type 0 where
  pub note : Note
  pub list_note : Note
  pub items : Forest
  pub is : t ≡ module_of note list_note items

-- only a program's row stands at the root
root_row : (P : Row → Type 0) (r : Row) → stands root (type_of r) ≡ Some (first_of r) → P a_program → P r
root_row P a_program h p = p
root_row P r h p = absurd cc

pub ends : (r : Forest) → Stand (these []) r → r ≡ nothing
ends nothing st = refl
ends (absent r) st = absurd st.0
ends (node k n a r) st = absurd st.0

abbrev OneList : Forest → Type 0
OneList a = (m : Note) × (b : Forest) × (a ≡ node statements m b nothing)

one_list : (c : Class) (a : Forest) → Stand (these (body c ∷ [])) a → OneList a
one_list c nothing st = absurd st
one_list c (absent r) st = absurd st.0
one_list c (node k m b r) st = (m, b, ap₂ (λ x y. node x m b y) st.0.0 (ends r st.1))

listed_below : (private : Bool) (a : Forest) (r : Row) (vs : Values (fields_of r)) → stands root (type_of r) ≡ Some (first_of r) → Stand (these (places private (fields_of r) vs)) a → OneList a
listed_below private a r vs h st = root_row (λ row. (ws : Values (fields_of row)) → Stand (these (places private (fields_of row) ws)) a → OneList a) r h (λ ws s. one_list _ a s) vs st

pub fits_module : (n : Note) (a r : Forest) → Fits root (node (program source_type.Module) n a r) → IsModule (node (program source_type.Module) n a r)
fits_module n a r fits =
    let of = fits.0 in
    let below = listed_below (has is_private a) a of.0 of.1 of.2 of.5 in
    record { note = n; list_note = below.0; items = below.1; is = ap₂ (λ x y. node (program source_type.Module) n x y) below.2 (ends r fits.1) }

-- a tree that fits the table is a program
program_kind : (r : Row) (vs : Values (fields_of r)) (n : Note) (a b : Forest) → stands root (type_of r) ≡ Some (first_of r) → is_program (node (kind_in r vs) n a b) ≡ true
program_kind r vs n a b h = root_row (λ row. (ws : Values (fields_of row)) → is_program (node (kind_in row ws) n a b) ≡ true) r h (λ ws. refl) vs

pub fits_program : (t : Forest) → Fits root t → is_program t ≡ true
fits_program nothing fits = absurd fits
fits_program (absent r) fits = absurd fits.0
fits_program (node k n a r) fits = subst (λ x. is_program (node x n a r) ≡ true) (sym fits.0.4) (program_kind fits.0.0 fits.0.1 n a r fits.0.2)
