-- What stands behind a key.
use Rattle.std.specs.Prelude.{ℕ, List, [], ◌∷◌}
use Rattle.js_syntax.specs.Scalar.{Scalar, the_text, the_flag, the_value, the_mark, the_name, the_name_or_null, the_module_name, the_module_name_or_null, the_source, the_key, the_property, the_template_text, the_reg_exp_text}
use Rattle.js_syntax.specs.Field.{Hint}
use Rattle.js_syntax.specs.declared.node_type.NodeType.{NodeType}
use Rattle.json_table.specs.View.{hint_view}
use Rattle.json_entries.specs.declared.entry.Content.{Content as CodeContent}
use Rattle.json_entries.specs.declared.entry.Content.TheVariants as a_content
use Rattle.json_entries.specs.declared.entry.Entry.{Entry as CodeEntry}
use Rattle.json_entries.specs.declared.scalar.Scalar.{Scalar as CodeScalar}
use Rattle.json_entries.specs.declared.scalar.Scalar.TheVariants as a_scalar
use Rattle.json_entries.specs.declared.scalar.Scalars.{Scalars}
use Rattle.json_entries.specs.declared.scalar.Scalars.TheVariants as the_scalars

-- The number of a scalar or node is its place among those of the node.
pub data Content : Type 0 where
  the_type : NodeType → Content
  scalar_at mark_at node_at : ℕ → Content
  key_at : (scalar node : ℕ) → Content
  flag : Hint → Content
  no yes nothing_there empty : Content
  as_word as_name : List ℕ → Content

pub data Entry : Type 0 where
  entry : (name : List ℕ) (content : Content) → Entry

abbrev pub content_view : CodeContent → Content
content_view (a_content.Type t) = the_type t
content_view (a_content.Scalar i) = scalar_at i
content_view (a_content.Mark i) = mark_at i
content_view (a_content.Child j) = node_at j
content_view (a_content.Key i j) = key_at i j
content_view (a_content.Flag h) = flag (hint_view h)
content_view a_content.No = no
content_view a_content.Yes = yes
content_view a_content.Nothing = nothing_there
content_view a_content.Empty = empty
content_view (a_content.Word s) = as_word s.now
content_view (a_content.Name s) = as_name s.now

abbrev pub entry_view : CodeEntry → Entry
entry_view e = entry e.0.now (content_view e.1)

-- ---- scalars, which code refers to

abbrev pub scalar_of : CodeScalar → Scalar
scalar_of (a_scalar.Text s) = the_text s.now
scalar_of (a_scalar.Flag b) = the_flag b
scalar_of (a_scalar.Value v) = the_value v.now
scalar_of (a_scalar.Mark b) = the_mark b
scalar_of (a_scalar.Name s) = the_name s.now
scalar_of (a_scalar.NameOrNull s) = the_name_or_null s.now
scalar_of (a_scalar.ModuleName m) = the_module_name m.now
scalar_of (a_scalar.ModuleNameOrNull m) = the_module_name_or_null m.now
scalar_of (a_scalar.Source s) = the_source s.now
scalar_of (a_scalar.Key k) = the_key k.now
scalar_of (a_scalar.Property k) = the_property k.now
scalar_of (a_scalar.TemplateText t) = the_template_text t.now
scalar_of (a_scalar.RegExpText r) = the_reg_exp_text r.now

abbrev pub scalar_list : Scalars → List Scalar
scalar_list the_scalars.None = []
scalar_list (the_scalars.One a) = scalar_of a ∷ []
scalar_list (the_scalars.Two a b) = scalar_of a ∷ scalar_of b ∷ []
scalar_list (the_scalars.Three a b c) = scalar_of a ∷ scalar_of b ∷ scalar_of c ∷ []
