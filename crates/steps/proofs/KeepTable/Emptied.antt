-- Where an expression statement stands, an empty statement may stand.
use Rattle.std.proofs.Common.{◌≡◌, inl, inr, Some, [], ◌∷◌, Bool, true, false, refl, sym, subst, ap}
use Rattle.js_syntax.specs.Class.{Class, a_prologue, module_item, expression, statement, private_key}
use Rattle.js_syntax.specs.declared.node_kind.NodeKind.{NodeKind as Kind}
use Rattle.js_syntax.specs.declared.node_kind.NodeKind.TheVariants.{Statements as statements, ExpressionStatement as expression_statement, EmptyStatement as empty_statement}
use Rattle.js_syntax.specs.Node.{Note, Forest, nothing, node}
use Rattle.js_syntax.specs.Table.{Row as TableRow, an_expression_statement, an_empty_statement, fields_of, type_of, stands}
use Rattle.js_syntax.specs.declared.node_type.NodeType.TheVariants as type
use Rattle.json_shape.specs.Shape.{Values, kind_in, first_of, Place, one, maybe_one, beyond, key_node, key_apart, list, list_with_holes, body, item_or_hole, item_of_body, Plan, these, all, all_or_holes, all_of_body, first_place, behind, IsOf, IsAt, Stand}
use Rattle.json_shape.proofs.Choice.{is_list_kind}
use Rattle.steps.proofs.KeepTable.Planned.{place_ok, plan_ok, first_ok}

abbrev is_statement : Kind → Bool
is_statement expression_statement = true
is_statement k = false

-- expression statements are of one row of the table
one_row : (r : TableRow) (vs : Values (fields_of r)) → is_statement (kind_in r vs) ≡ true → r ≡ an_expression_statement
one_row an_expression_statement vs h = refl
one_row r vs h = absurd cc

-- a class that takes them takes empty statements
empty_may : (c : Class) → stands c type.ExpressionStatement ≡ Some an_expression_statement → stands c type.EmptyStatement ≡ Some an_empty_statement
empty_may module_item h = refl
empty_may statement h = refl
empty_may c h = absurd cc

no_such_list : (kind : Kind) → is_list_kind kind ≡ true → expression_statement ≡ kind → ⊥
no_such_list kind ok same = absurd (cc (ok, ap is_list_kind same))

module _ (below : Forest) where
  pub empty_of : (c : Class) → IsOf expression_statement below (λ p. Stand p below) c → IsOf empty_statement nothing (λ p. Stand p nothing) c
  empty_of c of =
      let row = one_row of.0 of.1 (ap is_statement (sym of.4)) in
      (an_empty_statement, tt, empty_may c (subst (λ (r : TableRow). stands c (type_of r) ≡ Some (first_of r)) row of.2), tt, refl, tt)

  empty_at : (p : Place) → place_ok p ≡ true → IsAt expression_statement below (λ p. Stand p below) p → IsAt empty_statement nothing (λ p. Stand p nothing) p
  empty_at (one c) ok of = empty_of c of
  empty_at (maybe_one c) ok of = empty_of c of
  empty_at beyond ok at = absurd at
  empty_at (key_node keys true) ok at = (at.0, empty_of private_key at.1)
  empty_at (key_node keys false) ok of = empty_of expression of
  empty_at (key_apart may) ok at = absurd at
  empty_at (list kind c) ok at = absurd (no_such_list kind ok at.0)
  empty_at (list_with_holes kind c) ok at = absurd (no_such_list kind ok at.0)
  empty_at (body c) ok at = absurd (no_such_list statements refl at.0)
  empty_at (item_or_hole c) ok (inl at) = absurd (cc at.0)
  empty_at (item_or_hole c) ok (inr of) = inr (empty_of c of)
  empty_at (item_of_body c) ok (inl of) = inl (empty_of a_prologue of)
  empty_at (item_of_body c) ok (inr at) = inr (refl, empty_of c at.1)

-- neither of the two is a directive
behind_either : (plan : Plan) → behind plan expression_statement ≡ behind plan empty_statement
behind_either (these []) = refl
behind_either (these (p ∷ ps)) = refl
behind_either (all c) = refl
behind_either (all_or_holes c) = refl
behind_either (all_of_body c) = refl

pub empty_stands : (n m : Note) (below rest : Forest) (plan : Plan) → plan_ok plan ≡ true → Stand plan (node expression_statement n below rest) → Stand plan (node empty_statement m nothing rest)
empty_stands n m below rest plan ok h = (empty_at below (first_place plan) (first_ok plan ok) h.0, subst (λ (p : Plan). Stand p rest) (behind_either plan) h.1)
