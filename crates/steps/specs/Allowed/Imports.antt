-- Where a name of an import stands (ECMA-262 16.2.2).
use Rattle.std.specs.Prelude.{◌≡◌}
use Rattle.js_syntax.specs.declared.node_kind.NodeKind.{NodeKind as Kind}
use Rattle.js_syntax.specs.declared.node_kind.NodeKind.TheVariants.{ImportDeclaration as import_declaration, Specifiers as specifiers}
use Rattle.scope_laws.specs.Place.{Around, first, behind, behind_none, under}

-- the row of a place: what lies below an import; its list of names; any other
pub data ImportRow : Type 0 where
  below_import in_names elsewhere : ImportRow

abbrev pub names_below : ImportRow → ImportRow
names_below below_import = in_names
names_below r = elsewhere

abbrev pub import_row_below : ImportRow → Kind → ImportRow
import_row_below r (import_declaration source) = below_import
import_row_below r specifiers = names_below r
import_row_below r k = elsewhere

abbrev pub import_row : ImportRow → Around → ImportRow
import_row r (first rest) = r
import_row r (behind k n below a) = import_row r a
import_row r (behind_none a) = import_row r a
import_row r (under k n a rest) = import_row (import_row_below r k) a

-- one of an import's names
abbrev pub IsImported : Around → Type 0
IsImported a = import_row elsewhere a ≡ in_names
