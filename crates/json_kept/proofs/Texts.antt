-- The text of a readable tree is read as that tree.
use Rattle.std.proofs.Common.{◌≡◌, Ok, IsUtf8, sym, ap, ◌∙◌}
use Rattle.json.specs.Lex.{tokens}
use Rattle.json.specs.Tree.{json_tokens, HasNumbers, ItemsHaveNumbers, MembersHaveNumbers}
use Rattle.json.proofs.Printed.Decimals.{IsNumber-decimal}
use Rattle.json.proofs.Printed.Tokens.{tokens-print}
use Rattle.json.proofs.Printed.Trees.{ArePrintable-json_tokens}
use Rattle.serde_json.specs.Data.{unsigned, Data, null, boolean, number, string, array, object, Items, no_items, item, Members, no_members, member}
use Rattle.serde_json.specs.Written.{outline, items_outline, members_outline, compact_text}
use Rattle.serde_json.proofs.Texts.{print-outline}
use Rattle.js_syntax.specs.Node.{Forest, bare}
use Rattle.json_text.specs.Answer.{IsReadAs}
use Rattle.json_text.specs.Text.{data_of, text_of}
use Rattle.json_shape.specs.Readable.{IsReadable}
use Rattle.json_shape.proofs.Plain.{IsPlain, AreItemsPlain, AreMembersPlain}
use Rattle.json_shape.proofs.PlainTrees.{data_plain}
use Rattle.json_shape.proofs.Texts.{text_read}

mutual
  plain_numbers : (d : Data) → IsPlain d → HasNumbers (outline d)
  plain_numbers null h = tt
  plain_numbers (boolean b) h = tt
  plain_numbers (number (unsigned n)) h = IsNumber-decimal n h
  plain_numbers (number n) h = absurd h
  plain_numbers (string s) h = tt
  plain_numbers (array ds) h = items_numbers ds h
  plain_numbers (object ms) h = members_numbers ms h

  items_numbers : (ds : Items) → AreItemsPlain ds → ItemsHaveNumbers (items_outline ds)
  items_numbers no_items h = tt
  items_numbers (item d ds) h = (plain_numbers d h.0, items_numbers ds h.1)

  members_numbers : (ms : Members) → AreMembersPlain ms → MembersHaveNumbers (members_outline ms)
  members_numbers no_members h = tt
  members_numbers (member k d ms) h = (plain_numbers d h.0, members_numbers ms h.2)

text_tokens : (d : Data) → IsPlain d → tokens (compact_text d) ≡ json_tokens (outline d)
text_tokens d plain = ap tokens (sym (print-outline d)) ∙ tokens-print (json_tokens (outline d)) (ArePrintable-json_tokens (outline d) (plain_numbers d plain))

pub readable_text : (t : Forest) → IsReadable t → IsUtf8 (text_of t) → IsReadAs (text_of t) (Ok (bare t))
readable_text t r utf8 = text_read t (text_of t) utf8 (text_tokens (data_of t) (data_plain t r.values)) r
