-- Which slots there are at some places.
use Rattle.std.proofs.Common.{◌≡◌, ℕ, true, false, refl, sym, true≢false}
use Rattle.js_syntax.specs.declared.node_kind.NodeKind.{NodeKind as Kind}
use Rattle.js_syntax.specs.declared.kind.FunctionKind.TheVariants as function_kind
use Rattle.js_syntax.specs.declared.kind.ClassKind.TheVariants as class_kind
use Rattle.min_context.specs.declared.ancestor.Ancestor.TheVariants as ancestor
use Rattle.min_context.specs.declared.ancestor.Parent.{Parent}
use Rattle.min_context.specs.declared.ancestor.Parent.TheVariants as parent
use Rattle.min_traverse.specs.Slot.{has_key, is_export, is_expression, is_loop_with_head, is_statement, own_slot, outer_slot}
use Rattle.min_traverse.specs.declared.slot.Outer.TheVariants as outer

pub in_loops : (p : Parent) (k : Kind) → is_loop_with_head p ≡ true → outer_slot (ancestor.Field p 0) k ≡ own_slot k
in_loops parent.ForStatement k e = refl
in_loops parent.ForInStatement k e = refl
in_loops parent.ForOfStatement k e = refl
in_loops p k e = absurd (true≢false (sym e))

pub in_exports : (p : Parent) (at : ℕ) (k : Kind) → is_export p ≡ true → outer_slot (ancestor.Field p at) k ≡ own_slot k
in_exports parent.ExportNamedDeclaration at k e = refl
in_exports parent.ExportDefaultDeclaration at k e = refl
in_exports p at k e = absurd (true≢false (sym e))

pub at_keys : (p : Parent) (k : Kind) → has_key p ≡ true → outer_slot (ancestor.Field p 0) k ≡ outer.PropertyKey
at_keys (parent.MethodDefinition is_constructor) k e = refl
at_keys parent.PropertyDefinition k e = refl
at_keys (parent.Property is_method) k e = refl
at_keys parent.PatternProperty k e = refl
at_keys p k e = absurd (true≢false (sym e))

pub not_both : (k : Kind) → is_expression k ≡ true → is_statement k ≡ false
not_both Kind.SequenceExpression e = refl
not_both (Kind.UnaryExpression operator) e = refl
not_both (Kind.UpdateExpression operator prefix) e = refl
not_both (Kind.BinaryExpression operator) e = refl
not_both (Kind.LogicalExpression operator) e = refl
not_both (Kind.AssignmentExpression operator) e = refl
not_both Kind.ConditionalExpression e = refl
not_both (Kind.CallExpression optional pure) e = refl
not_both (Kind.NewExpression pure) e = refl
not_both (Kind.MemberExpression key optional) e = refl
not_both Kind.ChainExpression e = refl
not_both Kind.TaggedTemplateExpression e = refl
not_both Kind.NewTarget e = refl
not_both Kind.ImportMeta e = refl
not_both Kind.ImportExpression e = refl
not_both (Kind.ReferenceName name) e = refl
not_both (Kind.Literal value) e = refl
not_both (Kind.RegExp value) e = refl
not_both Kind.ThisExpression e = refl
not_both Kind.ArrayExpression e = refl
not_both Kind.ObjectExpression e = refl
not_both Kind.ParenthesizedExpression e = refl
not_both Kind.TemplateLiteral e = refl
not_both (Kind.Function function_kind.Declaration pure) e = absurd (true≢false (sym e))
not_both (Kind.Function how pure) e = refl
not_both (Kind.Class class_kind.Declaration) e = absurd (true≢false (sym e))
not_both (Kind.Class how) e = refl
not_both k e = absurd (true≢false (sym e))
