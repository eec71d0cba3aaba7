-- The walker's edits are edits that a dead code remover may make.
use Rattle.std.proofs.Common.{◌≡◌, ◌&&◌, Bool, true, false, true≢false, refl, sym, subst}
use Rattle.std.proofs.lemmas.Bool.{and_parts}
use Rattle.js_syntax.specs.declared.node_kind.NodeKind.{NodeKind as Kind}
use Rattle.js_syntax.specs.declared.node_kind.NodeKind.TheVariants.{EmptyStatement as empty_statement, Statements as statements}
use Rattle.js_syntax.specs.Node.{Forest, nothing}
use Rattle.scope_counts.specs.Edits.{Around, here, behind, behind_none, under}
use Rattle.scope_laws.specs.Place.{first}
use Rattle.scope_laws.specs.Lists.{without}
use Rattle.min_pass.specs.declared.around.Around.{Around as Asked}
use Rattle.min_pass.specs.declared.around.Row.{Row}
use Rattle.min_pass.specs.declared.around.Row.TheVariants.{Items as items, OfItem as of_item, Declarators as item_declarators, Other as other}
use Rattle.min_pass.specs.Around.{row_below, entered as asked_below, outermost as asked_of_program}
use Rattle.steps.specs.Allowed.Edits as allowed
use Rattle.steps.specs.Allowed.Edits.{Edit}
use Rattle.steps.specs.Allowed.EmptyStatement.{empty_statement_leaves}
use Rattle.steps.specs.Allowed.Places.{a_node, asked_at}
use Rattle.min_traverse.specs.Lawful.{Stays}
use Rattle.rules.proofs.DeadCode.Places.{to, plugged, left_out}
use Rattle.rules.proofs.DeadCode.StaysTrue.{stays}
use Rattle.test_traverse.specs.Bodies.{is_list, is_body, list_of_body}
use Rattle.test_traverse.specs.Cleaning.{BodyEdit, an_empty_statement_leaves}

row_of_list : (r : Row) (k : Kind) → is_list k ≡ true → row_below r k ≡ items
row_of_list items statements e = refl
row_of_list of_item statements e = refl
row_of_list item_declarators statements e = refl
row_of_list other statements e = refl
row_of_list r k e = absurd (true≢false (sym e))

an_item : (w : Asked) (body list : Bool) (a : Around) (rest : Forest) → list_of_body body list a ≡ true → (list ≡ true → w.row ≡ items) → (asked_at w (to a (first rest))).row ≡ items
an_item w body list here rest e h = h e
an_item w body list (behind k n b a) rest e h = an_item w body list a rest e h
an_item w body list (behind_none a) rest e h = an_item w body list a rest e h
an_item w body list (under k n a r) rest e h = an_item (asked_below w k) (is_body k) (body && is_list k) a rest e (λ f. row_of_list w.row k (and_parts body (is_list k) f).1)

pub are_edits : (t u : Forest) → BodyEdit t u → Edit t u
are_edits t u (an_empty_statement_leaves a n rest e) =
    subst (λ v. Edit t v) (left_out a (first rest))
    (subst (λ v. Edit v (without (to a (first rest)))) (plugged a (first rest) (a_node empty_statement n nothing))
    (allowed.leaves (to a (first rest)) (record { kind = empty_statement; note = n; below = nothing })
    (allowed.empty_statement (empty_statement_leaves n (an_item (asked_of_program true) false false a rest e (λ f. absurd (true≢false (sym f))))))))

-- so they leave true what the context tells
pub stays_true : Stays (λ o. BodyEdit)
stays_true = stays (λ o. BodyEdit) (λ o. are_edits)
