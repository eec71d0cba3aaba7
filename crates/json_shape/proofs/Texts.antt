-- The text of a readable tree is read as that tree.
use Rattle.std.proofs.Common.{◌≡◌, ℕ, List, Ok, IsUtf8, arith}
use Rattle.json.specs.Lex.{tokens}
use Rattle.json.specs.Tree.{json_tokens}
use Rattle.serde_json.specs.Written.{outline}
use Rattle.js_syntax.specs.Class.{root}
use Rattle.js_syntax.specs.Node.{Forest, bare}
use Rattle.json_text.specs.Answer.{IsReadAs}
use Rattle.json_text.specs.Fault.{untyped}
use Rattle.json_text.specs.Reading.{read_program}
use Rattle.json_text.specs.Text.{data_of}
use Rattle.json_shape.specs.Readable.{IsReadable}
use Rattle.json_shape.proofs.Plain.{read-outline}
use Rattle.json_shape.proofs.PlainTrees.{data_plain}
use Rattle.json_shape.proofs.Reading.{tree_read}

pub data_read : (t : Forest) → IsReadable t → read_program (data_of t) ≡ Ok (bare t)
data_read t readable = tree_read root untyped 128 t readable.shape readable.values (omega (arith, readable.nesting))

pub text_read : (t : Forest) (text : List ℕ) → IsUtf8 text → tokens text ≡ json_tokens (outline (data_of t)) → IsReadable t → IsReadAs text (Ok (bare t))
text_read t text utf8 same readable = (utf8, (data_of t, read-outline text (data_of t) same (data_plain t readable.values) readable.nesting, data_read t readable))
