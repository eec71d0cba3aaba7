-- What a writer of JSON is given for a tree, token by token.
use Rattle.std.specs.Prelude.{◌≡◌, List, [], ◌∷◌, ◌++◌, Bool, true, Option, Some, None, Result, OnOk, if◌then◌else◌}
use Rattle.json.specs.Token.{Token, key, boolean}
use Rattle.json.specs.Tree.{json_tokens}
use Rattle.json.specs.Written.{Written}
use Rattle.serde_json.specs.Data.{Data, null}
use Rattle.serde_json.specs.Written.{outline}
use Rattle.js_syntax.specs.Scalar.{Scalar, the_key, the_property}
use Rattle.js_syntax.specs.Hint.{is_below, says}
use Rattle.js_syntax.specs.Node.{Tree}
use Rattle.js_syntax.specs.Facts.{scalars_of}
use Rattle.json_text.specs.Text.{row_datas, node_data}
use Rattle.json_entries.specs.Entry.{Content, mark_at, Entry, entry}
use Rattle.json_entries.specs.Members.{scalar_of_place, is_marked, content_data, fields_data}

abbrev pub data_tokens : Data → List Token
data_tokens d = json_tokens (outline d)

pub record IsAppended (old new : Written) (ts : List Token) : Type 0 where
  pub before : new.before ≡ old.before
  pub tokens : new.tokens ≡ old.tokens ++ ts

-- these tokens were appended, where memory was enough
abbrev pub Appends : {E : Type 0} → Result (Unit {0}) E → Written → Written → List Token → Type 0
Appends r old new ts = OnOk r (IsAppended old new ts)

-- ---- the parts of a node's text

-- what is written of a node, and of one that is not there
abbrev pub child_data : Option Tree → Data
child_data None = null
child_data (Some t) = node_data t.kind t.below (row_datas t.below)

abbrev pub child_tokens : Option Tree → List Token
child_tokens t = data_tokens (child_data t)

-- a scalar says that the key is a node
abbrev pub is_node_key : Scalar → Bool
is_node_key (the_key k) = is_below k
is_node_key (the_property k) = is_below k
is_node_key s = true

-- what stands behind a key
abbrev pub content_in : Tree → Content → Data
content_in t c = content_data (scalars_of t.kind) (λ h. says h t.kind t.below) (row_datas t.below) c

abbrev pub fields_in : Tree → Data
fields_in t = fields_data t.kind t.below (row_datas t.below)

abbrev pub entry_tokens : Tree → Entry → List Token
entry_tokens t (entry n (mark_at i)) = if is_marked (scalar_of_place i (scalars_of t.kind)) then key n ∷ boolean true ∷ [] else []
entry_tokens t (entry n c) = key n ∷ data_tokens (content_in t c)
