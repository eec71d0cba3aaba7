-- The place of an item lies in a list of statements, and that of a declarator in the declaration that is such an item.
use Rattle.std.proofs.Common.{◌≡◌, ◌∙◌, ◌⊎◌, inl, inr, ℕ, suc, Bool, true, false, Some, true≢false, refl, sym, ap, subst}
use Rattle.js_syntax.specs.declared.node_kind.NodeKind.{NodeKind as Kind}
use Rattle.js_syntax.specs.declared.node_kind.NodeKind.TheVariants.{Statements as statements, VariableDeclaration as variable_declaration, Declarators as declarators}
use Rattle.js_syntax.specs.declared.kind.VariableKind.{VariableKind}
use Rattle.js_syntax.specs.Node.{Forest, Note, nothing, node, absent}
use Rattle.min_context.specs.Above.{above_of}
use Rattle.min_context.specs.Place.{Place, Spot, top, spot, place_at, goes_on}
use Rattle.min_pass.specs.declared.around.Around.{Around as Asked}
use Rattle.min_pass.specs.declared.around.Row.{Row}
use Rattle.min_pass.specs.declared.around.Row.TheVariants.{Items as items, OfItem as of_item, Declarators as item_declarators, Other as other}
use Rattle.min_pass.specs.Around.{row_below, entered as asked_below, outermost as asked_of_program}
use Rattle.scope_laws.specs.Place as places
use Rattle.scope_laws.specs.Place.{Around, first}
use Rattle.scope_counts.specs.Edits as counts
use Rattle.scope_counts.specs.Edits.{here, behind, behind_none, under, plug}
use Rattle.steps.proofs.Owed.Places.{place_of, rest_of}
use Rattle.rules.specs.DeadCode.Rules.{Facts, Where, declarator_goes, one_goes, item_has_dead, has_dead}
use Rattle.rules.proofs.DeadCode.LaidOut.{has_list}
use Rattle.rules.proofs.DeadCode.Places.{to, join, spot_join, asked_row, asked_join, is_row, asked_along}
use Rattle.rules.proofs.DeadCode.Items.{IsItems, row_of_list}
use Rattle.js_syntax.proofs.Truth.{first_of_neither, second_of_neither, first_of_either, second_of_either}

-- ---- rows

abbrev pub is_items : Row → Bool
is_items items = true
is_items r = false

abbrev is_of_item : Row → Bool
is_of_item of_item = true
is_of_item r = false

abbrev is_declarators : Row → Bool
is_declarators item_declarators = true
is_declarators r = false

not_items : {P : Type 0} (r : Row) → is_items r ≡ false → r ≡ items → P
not_items r f e = absurd (true≢false (sym (ap is_items e) ∙ f))

not_of_item : {P : Type 0} (r : Row) → is_of_item r ≡ false → r ≡ of_item → P
not_of_item r f e = absurd (true≢false (sym (ap is_of_item e) ∙ f))

not_declarators : {P : Type 0} (r : Row) → is_declarators r ≡ false → r ≡ item_declarators → P
not_declarators r f e = absurd (true≢false (sym (ap is_declarators e) ∙ f))

list_above : (r : Row) (k : Kind) → row_below r k ≡ items → k ≡ statements
list_above items statements e = refl
list_above of_item statements e = refl
list_above item_declarators statements e = refl
list_above other statements e = refl
list_above items (variable_declaration how) e = not_items of_item refl e
list_above of_item declarators e = not_items item_declarators refl e
list_above items k e = not_items other refl e
list_above of_item k e = not_items other refl e
list_above item_declarators k e = not_items other refl e
list_above other k e = not_items other refl e

record Declares (r : Row) (k : Kind) : Type 0 where
  how : VariableKind
  row_is : r ≡ items
  kind_is : k ≡ variable_declaration how

declaration_above : (r : Row) (k : Kind) → row_below r k ≡ of_item → Declares r k
declaration_above items (variable_declaration how) e = record { how = how; row_is = refl; kind_is = refl }
declaration_above items statements e = not_of_item items refl e
declaration_above of_item statements e = not_of_item items refl e
declaration_above item_declarators statements e = not_of_item items refl e
declaration_above other statements e = not_of_item items refl e
declaration_above of_item declarators e = not_of_item item_declarators refl e
declaration_above items k e = not_of_item other refl e
declaration_above of_item k e = not_of_item other refl e
declaration_above item_declarators k e = not_of_item other refl e
declaration_above other k e = not_of_item other refl e

record Lists (r : Row) (k : Kind) : Type 0 where
  row_is : r ≡ of_item
  kind_is : k ≡ declarators

declarators_above : (r : Row) (k : Kind) → row_below r k ≡ item_declarators → Lists r k
declarators_above of_item declarators e = record { row_is = refl; kind_is = refl }
declarators_above items (variable_declaration how) e = not_declarators of_item refl e
declarators_above items statements e = not_declarators items refl e
declarators_above of_item statements e = not_declarators items refl e
declarators_above item_declarators statements e = not_declarators items refl e
declarators_above other statements e = not_declarators items refl e
declarators_above items k e = not_declarators other refl e
declarators_above of_item k e = not_declarators other refl e
declarators_above item_declarators k e = not_declarators other refl e
declarators_above other k e = not_declarators other refl e

-- ---- the node above the place of a row

pub whole_place : (a : Around) → to (place_of a) (first (rest_of a)) ≡ a
whole_place (first rest) = refl
whole_place (places.behind k n b a) = ap (λ x. places.behind k n b x) (whole_place a)
whole_place (places.behind_none a) = ap (λ x. places.behind_none x) (whole_place a)
whole_place (places.under k n a rest) = ap (λ x. places.under k n x rest) (whole_place a)

record Above (w : Asked) (a : counts.Around) : Type 0 where
  outer : counts.Around
  kind : Kind
  note : Note
  inner : counts.Around
  beside : Forest
  in_row : is_row inner ≡ true
  is : a ≡ join outer (under kind note inner beside)
  asked_is : asked_row w a ≡ asked_below (asked_row w outer) kind

split : (w : Asked) (a : counts.Around) → (is_row a ≡ true) ⊎ Above w a
split w here = inl refl
split w (behind k n b a) = elim (split w a) [
  | inl e ↦ inl e
  | inr r ↦ inr (record { outer = behind k n b r.outer; kind = r.kind; note = r.note; inner = r.inner; beside = r.beside; in_row = r.in_row; is = ap (λ x. behind k n b x) r.is; asked_is = r.asked_is })
]
split w (behind_none a) = elim (split w a) [
  | inl e ↦ inl e
  | inr r ↦ inr (record { outer = behind_none r.outer; kind = r.kind; note = r.note; inner = r.inner; beside = r.beside; in_row = r.in_row; is = ap (λ x. behind_none x) r.is; asked_is = r.asked_is })
]
split w (under k n a rest) = elim (split (asked_below w k) a) [
  | inl e ↦ inr (record { outer = here; kind = k; note = n; inner = a; beside = rest; in_row = e; is = refl; asked_is = asked_along (asked_below w k) a e })
  | inr r ↦ inr (record { outer = under k n r.outer rest; kind = r.kind; note = r.note; inner = r.inner; beside = r.beside; in_row = r.in_row; is = ap (λ x. under k n x rest) r.is; asked_is = r.asked_is })
]

above : (a : counts.Around) (row : Row) → (other ≡ row → ⊥) → (asked_row (asked_of_program true) a).row ≡ row → Above (asked_of_program true) a
above a row differs e = by (split (asked_of_program true) a)
  where
    by : (is_row a ≡ true) ⊎ Above (asked_of_program true) a → Above (asked_of_program true) a
    by (inl r) = absurd (differs (sym (ap (λ (w : Asked). w.row) (asked_along (asked_of_program true) a r)) ∙ e))
    by (inr r) = r

-- ---- items

-- a row that stands behind others in a list of statements
pub record InList (a : counts.Around) : Type 0 where
  pub outer : counts.Around
  pub note : Note
  pub inner : counts.Around
  pub beside : Forest
  pub in_row : is_row inner ≡ true
  pub is : a ≡ join outer (under statements note inner beside)

pub in_list : (a : counts.Around) → (asked_row (asked_of_program true) a).row ≡ items → InList a
in_list a e =
    let r = above a items (λ f. true≢false (sym (ap is_items f))) e in
    record {
      outer = r.outer;
      note = r.note;
      inner = r.inner;
      beside = r.beside;
      in_row = r.in_row;
      is = subst (λ k. a ≡ join r.outer (under k r.note r.inner r.beside)) (list_above (asked_row (asked_of_program true) r.outer).row r.kind (sym (ap (λ (w : Asked). w.row) r.asked_is) ∙ e)) r.is;
    }

-- ---- declarators

pub record InDeclaration (a : counts.Around) : Type 0 where
  pub outer : counts.Around
  pub how : VariableKind
  pub note : Note
  pub list : counts.Around
  pub beside : Forest
  pub list_note : Note
  pub inner : counts.Around
  pub list_beside : Forest
  pub list_in_row : is_row list ≡ true
  pub in_row : is_row inner ≡ true
  pub is : a ≡ join (join outer (under (variable_declaration how) note list beside)) (under declarators list_note inner list_beside)
  pub item : (asked_row (asked_of_program true) outer).row ≡ items

-- a list that stands in a declaration, and a row in the list
declared_in : (a : counts.Around) (r : Above (asked_of_program true) a) (q : Above (asked_of_program true) r.outer) → r.kind ≡ declarators → (d : Declares (asked_row (asked_of_program true) q.outer).row q.kind) → InDeclaration a
declared_in a r q lists d = record {
  outer = q.outer;
  how = d.how;
  note = q.note;
  list = q.inner;
  beside = q.beside;
  list_note = r.note;
  inner = r.inner;
  list_beside = r.beside;
  list_in_row = q.in_row;
  in_row = r.in_row;
  is = r.is ∙ ap (λ k. join r.outer (under k r.note r.inner r.beside)) lists ∙ ap (λ o. join o (under declarators r.note r.inner r.beside)) q.is
      ∙ ap (λ k. join (join q.outer (under k q.note q.inner q.beside)) (under declarators r.note r.inner r.beside)) d.kind_is;
  item = d.row_is;
}

pub in_declaration : (a : counts.Around) → (asked_row (asked_of_program true) a).row ≡ item_declarators → InDeclaration a
in_declaration a e =
    let r = above a item_declarators (λ f. true≢false (sym (ap is_declarators f))) e in
    let lists = declarators_above (asked_row (asked_of_program true) r.outer).row r.kind (sym (ap (λ (w : Asked). w.row) r.asked_is) ∙ e) in
    let q = above r.outer of_item (λ f. true≢false (sym (ap is_of_item f))) lists.row_is in
    declared_in a r q lists.kind_is (declaration_above (asked_row (asked_of_program true) q.outer).row q.kind (sym (ap (λ (w : Asked). w.row) q.asked_is) ∙ lists.row_is))

-- ---- the row of a list

record Listed (p : Place) (n : Note) (s : Spot) : Type 0 where
  at : ℕ
  previous : Bool
  is : s ≡ record { outer = p; above = Some (above_of statements n); at = at; previous = previous }

spot_along : (p : Place) (n : Note) (at : ℕ) (previous : Bool) (c : counts.Around) → is_row c ≡ true → Listed p n (spot (record { outer = p; above = Some (above_of statements n); at = at; previous = previous }) c)
spot_along p n at previous here e = record { at = at; previous = previous; is = refl }
spot_along p n at previous (behind k m b c) e = spot_along p n (suc at) true c e
spot_along p n at previous (behind_none c) e = spot_along p n (suc at) false c e
spot_along p n at previous (under k m c rest) e = absurd (true≢false (sym e))

pub list_items : (a : counts.Around) (n : Note) (c : counts.Around) (rest : Forest) → is_row c ≡ true → IsItems (place_at a (goes_on rest)) (join a (under statements n c rest))
list_items a n c rest e =
    let w = asked_row (asked_of_program true) a in
    let there = spot_along (place_at a (goes_on rest)) n 0 false c e in
    record {
      note = n;
      at = there.at;
      previous = there.previous;
      spot_is = spot_join top a (under statements n c rest) ∙ there.is;
      row_is = ap (λ (v : Asked). v.row) (asked_join (asked_of_program true) a (under statements n c rest) ∙ asked_along (asked_below w statements) c e) ∙ row_of_list w.row;
    }

-- ---- what is dead in a row

module _ (f : Facts) (w : Where) where
  pub none_dead : (c : counts.Around) (k : Kind) (n : Note) (b rest : Forest) → is_row c ≡ true → has_dead f w (plug c (node k n b rest)) ≡ false → item_has_dead f w k b ≡ false
  none_dead here k n b rest e h = first_of_neither (item_has_dead f w k b) (has_dead f w rest) h
  none_dead (behind j m d c) k n b rest e h = none_dead c k n b rest e (second_of_neither (item_has_dead f w j d) (has_dead f w (plug c (node k n b rest))) h)
  none_dead (behind_none c) k n b rest e h = none_dead c k n b rest e h
  none_dead (under j m c r) k n b rest e h = absurd (true≢false (sym e))

  pub some_goes : (how : VariableKind) (c : counts.Around) (k : Kind) (n : Note) (b rest : Forest) → is_row c ≡ true → declarator_goes f w how k b ≡ true → one_goes f w how (plug c (node k n b rest)) ≡ true
  some_goes how here k n b rest e h = first_of_either (declarator_goes f w how k b) (one_goes f w how rest) h
  some_goes how (behind j m d c) k n b rest e h = second_of_either (declarator_goes f w how j d) (one_goes f w how (plug c (node k n b rest))) (some_goes how c k n b rest e h)
  some_goes how (behind_none c) k n b rest e h = some_goes how c k n b rest e h
  some_goes how (under j m c r) k n b rest e h = absurd (true≢false (sym e))

-- ---- a declaration has its list, and nothing beside

pub record OnlyList (list : counts.Around) (beside : Forest) : Type 0 where
  pub is_first : list ≡ here
  pub is_last : beside ≡ nothing

after_list : (m : Note) (ds beside : Forest) → has_list (node declarators m ds beside) ≡ true → beside ≡ nothing
after_list m ds nothing e = refl
after_list m ds (absent rest) e = absurd (true≢false (sym e))
after_list m ds (node k n b rest) e = absurd (true≢false (sym e))

not_after : (c : counts.Around) (m : Note) (ds beside : Forest) → is_row c ≡ true → plug c (node declarators m ds beside) ≡ nothing → ⊥
not_after here m ds beside r e = absurd cc
not_after (behind k n b c) m ds beside r e = absurd cc
not_after (behind_none c) m ds beside r e = absurd cc
not_after (under k n c rest) m ds beside r e = absurd cc

behind_node : (k : Kind) (n : Note) (b t : Forest) → has_list (node k n b t) ≡ true → t ≡ nothing
behind_node declarators n b nothing e = refl
behind_node declarators n b (absent rest) e = absurd (true≢false (sym e))
behind_node declarators n b (node j m c rest) e = absurd (true≢false (sym e))
behind_node k n b t e = absurd (true≢false (sym e))

pub only_list : (list : counts.Around) (m : Note) (ds beside : Forest) → is_row list ≡ true → has_list (plug list (node declarators m ds beside)) ≡ true → OnlyList list beside
only_list here m ds beside r e = record { is_first = refl; is_last = after_list m ds beside e }
only_list (behind k n b c) m ds beside r e = absurd (not_after c m ds beside r (behind_node k n b (plug c (node declarators m ds beside)) e))
only_list (behind_none c) m ds beside r e = absurd (true≢false (sym e))
only_list (under k n c rest) m ds beside r e = absurd (true≢false (sym r))
