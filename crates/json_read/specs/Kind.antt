-- The kind of a node, by the table.
use Rattle.std.specs.Prelude.{Result}
use Rattle.serde_json.specs.Data.{Data}
use Rattle.js_syntax.specs.declared.node_kind.NodeKind.{NodeKind as Kind}
use Rattle.js_syntax.specs.Table.{Row, type_of, fields_of, kind_at}
use Rattle.json_text.specs.Fault.{Fault}
use Rattle.json_scan.specs.Scan.{read_kind}

-- what the fields of a node of this row that are no nodes make
abbrev pub kind_of : Row → Data → Result Kind Fault
kind_of row d = read_kind (type_of row) (fields_of row) (kind_at row) d
