-- Which nodes may stand in the place of others, as far as the table of node types tells.
use Rattle.std.specs.Prelude.{◌≡◌, Bool, true, false, not, ◌&&◌, ◌||◌}
use Rattle.js_syntax.specs.Class.{Class, template}
use Rattle.js_syntax.specs.declared.node_kind.NodeKind.{NodeKind as Kind}
use Rattle.js_syntax.specs.declared.node_kind.NodeKind.TheVariants.{Directive as directive, PrivateName as private_name, Hole as hole, TaggedTemplateExpression as tagged_template_expression}
use Rattle.js_syntax.specs.Node.{Tree, forest_of}
use Rattle.json_shape.specs.Shape.{Fits}
use Rattle.scope_laws.specs.Lists.{is_list}
use Rattle.scope_laws.specs.Place.{Around, first, behind, behind_none, under}

-- Kinds of which nothing around asks but the class. What stands around a directive or a private name asks for it by its kind,
-- and a list or a hole has no class.
abbrev pub is_told_by_class : Kind → Bool
is_told_by_class (directive written) = false
is_told_by_class (private_name x) = false
is_told_by_class hole = false
is_told_by_class k = not (is_list k)

-- Of each class of which the old node is a tree the new one is a tree.
pub record TakesPlace (old new : Tree) : Type 0 where
  pub classes : (c : Class) → Fits c (forest_of old) → Fits c (forest_of new)
  pub old_told : is_told_by_class old.kind ≡ true
  pub new_told : is_told_by_class new.kind ≡ true

-- Behind a tag a template alone may stand (ECMA-262 13.3.11).
abbrev pub is_template : Class → Bool
is_template template = true
is_template c = false

abbrev pub is_tag : Kind → Bool
is_tag tagged_template_expression = true
is_tag k = false

-- whether a place is a tag's, or the one behind it, or in a list there; the same of the row that is begun
abbrev pub stands_tagged : (tagged : Bool) → Around → Bool
stands_tagged tagged (first rest) = tagged
stands_tagged tagged (behind k n below a) = stands_tagged tagged a
stands_tagged tagged (behind_none a) = stands_tagged tagged a
stands_tagged tagged (under k n a rest) = stands_tagged (is_tag k || (is_list k && tagged)) a

-- The same of each class but that one.
pub record TakesUntagged (old new : Tree) : Type 0 where
  pub classes : (c : Class) → is_template c ≡ false → Fits c (forest_of old) → Fits c (forest_of new)
  pub old_told : is_told_by_class old.kind ≡ true
  pub new_told : is_told_by_class new.kind ≡ true

-- Whether it takes the place of the other there: as it does anywhere, or since no tag stands before it.
pub data TakesThere (a : Around) (old new : Tree) : Type 0 where
  anywhere : TakesPlace old new → TakesThere a old new
  untagged : stands_tagged false a ≡ false → TakesUntagged old new → TakesThere a old new
