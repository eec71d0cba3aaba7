-- What stands behind a jump or does nothing leaves its list by edits; and where nothing leaves one, nothing stands there that could.
use Rattle.std.proofs.Common.{◌≡◌, ◌∙◌, ◌⊎◌, inl, inr, ◌≤◌, ◌+◌, ℕ, Bool, true, false, ◌&&◌, ◌||◌, Some, None, if◌then◌else◌, refl, sym, ap, subst, arith, true≢false}
use Rattle.std.proofs.lemmas.Bool.{or_cases}
use Rattle.js_syntax.specs.declared.node_kind.NodeKind.{NodeKind as Kind}
use Rattle.js_syntax.specs.declared.node_kind.NodeKind.TheVariants.{Statements as statements, EmptyStatement as empty_statement}
use Rattle.js_syntax.specs.Facts.{weight}
use Rattle.js_syntax.specs.Node.{Forest, Tree, Note, nothing, node, absent, forest_of, total}
use Rattle.js_syntax.proofs.Truth.{both, first_of_both, second_of_both, first_of_either, second_of_either}
use Rattle.js_meaning_near.specs.Near.{cuts_off}
use Rattle.min_context.specs.Place.{Place, place_at, goes_on}
use Rattle.min_pass.specs.declared.around.Around.{Around as Asked}
use Rattle.min_pass.specs.declared.around.Row.{Row as AskedRow}
use Rattle.min_pass.specs.declared.around.Row.TheVariants.{Items as row_items, OfItem as row_of_item}
use Rattle.min_pass.specs.Around.{row_below as asked_row_below, entered as asked_below, outermost as asked_of_program}
use Rattle.scope_counts.specs.Counts.{ids}
use Rattle.scope_counts.specs.Edits as counts
use Rattle.scope_counts.specs.Edits.{here, behind, behind_none, under, plug}
use Rattle.scope_laws.specs.Place as places
use Rattle.scope_laws.specs.Place.{first}
use Rattle.steps.specs.Allowed.Branches.{declares_none, declares_no_name}
use Rattle.steps.specs.Allowed.Edits.{Leaves, Edit, leaves, unreached, idle_statement, TreeEdits, no_tree_edit, one_tree_edit}
use Rattle.steps.specs.Allowed.IdleStatement.{does_nothing, IdleStatement, idle_leaves}
use Rattle.steps.specs.Allowed.Unreached.{only_runs, is_behind_jump, Unreached, never_runs}
use Rattle.steps.specs.Allowed.Places.{asked_at, IsItem}
use Rattle.rules.proofs.DeadCode.Items.{IsItems, first_items, next_items, absent_items, item_there, leaves_there}
use Rattle.rules.proofs.DeadCode.Places.{to, plugged, join, plug_join}
use Rattle.steps.proofs.Owed.IdleStatement.{idle_runs}
use Rattle.steps.proofs.Owed.Unreached.{runs_weigh}
use Rattle.rules.proofs.Expressions.Becoming.{no_answer, chosen, chosen_if, IsLess}
use Rattle.rules.specs.DeadCode.Rules.{Facts, Where, item_goes, item_left, trimmed}
use Rattle.rules.specs.Expressions.Lists.{new_note}
use Rattle.rules.specs.Expressions.Jumps.{emptied_behind, is_inert, reached, has_inert, left_if, list_reached}

-- ---- jumps before a place in its row

abbrev jumped_at : Bool → counts.Around → Bool
jumped_at jumped here = jumped
jumped_at jumped (behind k n b a) = jumped_at (jumped || cuts_off k b) a
jumped_at jumped (behind_none a) = jumped_at jumped a
jumped_at jumped (under k n a rest) = jumped_at false a

jumped_to : (jumped : Bool) (a : counts.Around) (rest : Forest) → is_behind_jump jumped (to a (first rest)) ≡ jumped_at jumped a
jumped_to jumped here rest = refl
jumped_to jumped (behind k n b a) rest = jumped_to (jumped || cuts_off k b) a rest
jumped_to jumped (behind_none a) rest = jumped_to jumped a rest
jumped_to jumped (under k n a r) rest = jumped_to false a rest

jumped_next : (jumped : Bool) (a : counts.Around) (k : Kind) (n : Note) (b : Forest) → jumped_at jumped (join a (behind k n b here)) ≡ jumped_at jumped a || cuts_off k b
jumped_next jumped here k n b = refl
jumped_next jumped (behind l m c a) k n b = jumped_next (jumped || cuts_off l c) a k n b
jumped_next jumped (behind_none a) k n b = jumped_next jumped a k n b
jumped_next jumped (under l m a r) k n b = jumped_next false a k n b

jumped_none : (jumped : Bool) (a : counts.Around) → jumped_at jumped (join a (behind_none here)) ≡ jumped_at jumped a
jumped_none jumped here = refl
jumped_none jumped (behind l m c a) = jumped_none (jumped || cuts_off l c) a
jumped_none jumped (behind_none a) = jumped_none jumped a
jumped_none jumped (under l m a r) = jumped_none false a

-- ---- edits of the row

-- by either
data Inert (a : places.Around) (x : Tree) : Type 0 where
  never_runs_there : Unreached a x → Inert a x
  idles_there : IdleStatement a x → Inert a x

inert_there : (p : Place) (a : counts.Around) (jumped : Bool) (k : Kind) (n : Note) (b rest : Forest) → IsItems p a → jumped_at false a ≡ jumped → is_inert jumped k b ≡ true → Inert (to a (first rest)) (record { kind = k; note = n; below = b })
inert_there p a jumped k n b rest items is goes =
    let item = item_there p a rest items in
    let runs = second_of_both (jumped || does_nothing k b) (only_runs k && declares_no_name k b) goes in
    let none = both (declares_no_name k b) true (second_of_both (only_runs k) (declares_no_name k b) runs) refl in
    elim (or_cases jumped (does_nothing k b) (first_of_both (jumped || does_nothing k b) (only_runs k && declares_no_name k b) goes)) [
      | inl jump ↦ never_runs_there (never_runs item (jumped_to false a rest ∙ is ∙ jump) (first_of_both (only_runs k) (declares_no_name k b) runs) none)
      | inr idle ↦ idles_there (idle_leaves item idle none)
    ]

leaves_by : (a : places.Around) (x : Tree) → Inert a x → Leaves a x
leaves_by a x (never_runs_there c) = unreached c
leaves_by a x (idles_there c) = idle_statement c

inert_goes : (p : Place) (a : counts.Around) (jumped : Bool) (k : Kind) (n : Note) (b rest : Forest) → IsItems p a → jumped_at false a ≡ jumped → is_inert jumped k b ≡ true → Edit (plug a (node k n b rest)) (plug a rest)
inert_goes p a jumped k n b rest items is goes =
    let x : Tree = record { kind = k; note = n; below = b } in
    leaves_there a (Some x) rest (leaves (to a (first rest)) x (leaves_by (to a (first rest)) x (inert_there p a jumped k n b rest items is goes)))

by_item : (a : counts.Around) (jumped : Bool) (k : Kind) (n : Note) (b rest : Forest) (goes : Bool) → (goes ≡ true → Edit (plug a (node k n b rest)) (plug a rest)) → TreeEdits (plug a rest) (plug a (reached jumped rest))
    → TreeEdits (plug a (node k n b rest)) (plug a (node k n b (reached (jumped || cuts_off k b) rest)))
    → TreeEdits (plug a (node k n b rest)) (plug a (if goes then reached jumped rest else node k n b (reached (jumped || cuts_off k b) rest)))
by_item a jumped k n b rest true edit now next = one_tree_edit (plug a (node k n b rest)) (plug a rest) (plug a (reached jumped rest)) (edit refl) now
by_item a jumped k n b rest false edit now next = next

row_edits : (p : Place) (a : counts.Around) (jumped : Bool) (t : Forest) → IsItems p a → jumped_at false a ≡ jumped → TreeEdits (plug a t) (plug a (reached jumped t))
row_edits p a jumped nothing items is = no_tree_edit (plug a nothing)
row_edits p a jumped (absent rest) items is =
    subst (λ u. TreeEdits u (plug a (absent (reached jumped rest)))) (plug_join a (behind_none here) rest)
    (subst (λ u. TreeEdits (plug (join a (behind_none here)) rest) u) (plug_join a (behind_none here) (reached jumped rest))
    (row_edits p (join a (behind_none here)) jumped rest (absent_items p a items) (jumped_none false a ∙ is)))
row_edits p a jumped (node k n b rest) items is =
    by_item a jumped k n b rest (is_inert jumped k b) (λ goes. inert_goes p a jumped k n b rest items is goes) (row_edits p a jumped rest items is)
    (subst (λ u. TreeEdits u (plug a (node k n b (reached (jumped || cuts_off k b) rest)))) (plug_join a (behind k n b here) rest)
    (subst (λ u. TreeEdits (plug (join a (behind k n b here)) rest) u) (plug_join a (behind k n b here) (reached (jumped || cuts_off k b) rest))
    (row_edits p (join a (behind k n b here)) (jumped || cuts_off k b) rest (next_items p a k n b items) (jumped_next false a k n b ∙ ap (λ j. j || cuts_off k b) is))))

jumped_under : (jumped : Bool) (a : counts.Around) (k : Kind) (n : Note) (rest : Forest) → jumped_at jumped (join a (under k n here rest)) ≡ false
jumped_under jumped here k n rest = refl
jumped_under jumped (behind l m c a) k n rest = jumped_under (jumped || cuts_off l c) a k n rest
jumped_under jumped (behind_none a) k n rest = jumped_under jumped a k n rest
jumped_under jumped (under l m a r) k n rest = jumped_under false a k n rest

list_of : (n : Note) (k : Kind) (below : Forest) (y : Tree) → list_reached n k below ≡ Some y → (k ≡ statements) × ((has_inert false below ≡ true) × (y ≡ record { kind = statements; note = n; below = reached false below }))
list_of n Kind.Statements below y e = elim (chosen_if (has_inert false below) (record { kind = statements; note = n; below = reached false below }) y e) [ chosen may is ↦ (refl, (may, sym is)) ]
list_of n k below y e = no_answer e

-- a list without what never runs
pub reach_edits : (a : counts.Around) (n : Note) (row rest : Forest) → TreeEdits (plug a (node statements n row rest)) (plug a (node statements n (reached false row) rest))
reach_edits a n row rest =
    subst (λ u. TreeEdits u (plug a (node statements n (reached false row) rest))) (plug_join a (under statements n here rest) row)
    (subst (λ u. TreeEdits (plug (join a (under statements n here rest)) row) u) (plug_join a (under statements n here rest) (reached false row))
    (row_edits (place_at a (goes_on rest)) (join a (under statements n here rest)) false row (first_items a n rest) (jumped_under false a statements n rest)))

-- what a list becomes it becomes by edits
pub list_edits : (a : counts.Around) (x y : Tree) (rest : Forest) → list_reached x.note x.kind x.below ≡ Some y → TreeEdits (plug a (node x.kind x.note x.below rest)) (plug a (node y.kind y.note y.below rest))
list_edits a x y rest e =
    let is = list_of x.note x.kind x.below y e in
    subst (λ (z : Tree). TreeEdits (plug a (node x.kind x.note x.below rest)) (plug a (node z.kind z.note z.below rest))) (sym is.1.1)
    (subst (λ k. TreeEdits (plug a (node k x.note x.below rest)) (plug a (node statements x.note (reached false x.below) rest))) (sym is.0) (reach_edits a x.note x.below rest))

-- ---- what is left is less

inert_weighs : (jumped : Bool) (k : Kind) (b : Forest) → is_inert jumped k b ≡ true → 1 ≤ weight k
inert_weighs jumped k b h = runs_weigh k (first_of_both (only_runs k) (declares_no_name k b) (second_of_both (jumped || does_nothing k b) (only_runs k && declares_no_name k b) h))

thinner_by : (r : ℕ) (k : Kind) (n : Note) (b rest gone stays : Forest) (goes : Bool) → ids r gone ≤ ids r rest → ids r stays ≤ ids r rest → ids r (if goes then gone else node k n b stays) ≤ ids r (node k n b rest)
thinner_by r k n b rest gone stays true h g = Prim.omega (arith, h)
thinner_by r k n b rest gone stays false h g = Prim.omega (arith, g)

pub thinner : (r : ℕ) (jumped : Bool) (t : Forest) → ids r (reached jumped t) ≤ ids r t
thinner r jumped nothing = Prim.omega arith
thinner r jumped (absent rest) = thinner r jumped rest
thinner r jumped (node k n b rest) =
    thinner_by r k n b rest (reached jumped rest) (reached (jumped || cuts_off k b) rest) (is_inert jumped k b) (thinner r jumped rest) (thinner r (jumped || cuts_off k b) rest)

no_heavier_by : (k : Kind) (n : Note) (b rest gone stays : Forest) (goes : Bool) → total weight gone ≤ total weight rest → total weight stays ≤ total weight rest → total weight (if goes then gone else node k n b stays) ≤ total weight (node k n b rest)
no_heavier_by k n b rest gone stays true h g = Prim.omega (arith, h)
no_heavier_by k n b rest gone stays false h g = Prim.omega (arith, g)

pub no_heavier : (jumped : Bool) (t : Forest) → total weight (reached jumped t) ≤ total weight t
no_heavier jumped nothing = Prim.omega arith
no_heavier jumped (absent rest) = no_heavier jumped rest
no_heavier jumped (node k n b rest) =
    no_heavier_by k n b rest (reached jumped rest) (reached (jumped || cuts_off k b) rest) (is_inert jumped k b) (no_heavier jumped rest) (no_heavier (jumped || cuts_off k b) rest)

lighter_by : (jumped : Bool) (k : Kind) (n : Note) (b rest gone stays : Forest) (more goes : Bool) → is_inert jumped k b ≡ goes → (goes || more) ≡ true → total weight gone ≤ total weight rest → (more ≡ true → total weight stays + 1 ≤ total weight rest)
    → total weight (if goes then gone else node k n b stays) + 1 ≤ total weight (node k n b rest)
lighter_by jumped k n b rest gone stays more true goes e h g = Prim.omega (arith, h, inert_weighs jumped k b goes)
lighter_by jumped k n b rest gone stays more false goes e h g = Prim.omega (arith, g e)

pub lighter : (jumped : Bool) (t : Forest) → has_inert jumped t ≡ true → total weight (reached jumped t) + 1 ≤ total weight t
lighter jumped nothing h = absurd (true≢false (sym h))
lighter jumped (absent rest) h = lighter jumped rest h
lighter jumped (node k n b rest) h =
    lighter_by jumped k n b rest (reached jumped rest) (reached (jumped || cuts_off k b) rest) (has_inert (jumped || cuts_off k b) rest) (is_inert jumped k b) refl h (no_heavier jumped rest) (λ e. lighter (jumped || cuts_off k b) rest e)

pub cut_is_less : (x y : Tree) → list_reached x.note x.kind x.below ≡ Some y → IsLess x y
cut_is_less x y e =
    let is = list_of x.note x.kind x.below y e in
    subst (λ z. IsLess x z) (sym is.1.1) (record {
      thins = λ r. Prim.omega (arith, thinner r false x.below, ap (λ k. ids r (node k x.note x.below nothing)) is.0);
      lighter = Prim.omega (arith, lighter false x.below is.1.0, ap (λ k. total weight (node k x.note x.below nothing)) is.0);
    })

-- ---- where nothing leaves a list

record Found (t : Forest) : Type 0 where
  place : counts.Around
  note : Note
  items : Forest
  rest : Forest
  is : t ≡ plug place (node statements note items rest)
  has : has_inert false items ≡ true

list_row : (row : AskedRow) (k : Kind) → asked_row_below row k ≡ row_items → k ≡ statements
list_row row Kind.Statements e = refl
list_row row_items (Kind.VariableDeclaration how) e = absurd cc
list_row row_of_item Kind.Declarators e = absurd cc
list_row row k e = absurd cc

found_below : {t : Forest} (k : Kind) (n : Note) (rest : Forest) → Found t → Found (node k n t rest)
found_below k n rest f = record { place = under k n f.place rest; note = f.note; items = f.items; rest = f.rest; is = ap (λ u. node k n u rest) f.is; has = f.has }

found_behind : {t : Forest} (k : Kind) (n : Note) (below : Forest) → Found t → Found (node k n below t)
found_behind k n below f = record { place = behind k n below f.place; note = f.note; items = f.items; rest = f.rest; is = ap (λ u. node k n below u) f.is; has = f.has }

found_absent : {t : Forest} → Found t → Found (absent t)
found_absent f = record { place = behind_none f.place; note = f.note; items = f.items; rest = f.rest; is = ap (λ u. absent u) f.is; has = f.has }

-- behind a jump, or by itself
abbrev GoesThere : (jumped : Bool) → places.Around → Tree → Type 0
GoesThere jumped b x = (is_behind_jump jumped b ≡ true) ⊎ (does_nothing x.kind x.below ≡ true)

module _ (x : Tree) (runs : only_runs x.kind ≡ true) (none : declares_none (forest_of x) ≡ true) where
  goes_there : (jumped : Bool) → (jumped || does_nothing x.kind x.below) ≡ true → is_inert jumped x.kind x.below ≡ true
  goes_there jumped why =
      both (jumped || does_nothing x.kind x.below) (only_runs x.kind && declares_no_name x.kind x.below) why
      (both (only_runs x.kind) (declares_no_name x.kind x.below) runs (first_of_both (declares_no_name x.kind x.below) true none))

  why_here : (jumped : Bool) (rest : Forest) → GoesThere jumped (first rest) x → (jumped || does_nothing x.kind x.below) ≡ true
  why_here jumped rest (inl jump) = first_of_either jumped (does_nothing x.kind x.below) jump
  why_here jumped rest (inr idle) = second_of_either jumped (does_nothing x.kind x.below) idle

  find : (w : Asked) (b : places.Around) (jumped : Bool) → (asked_at w b).row ≡ row_items → GoesThere jumped b x
      → ((w.row ≡ row_items) × (has_inert jumped (places.plug b (Some x)) ≡ true)) ⊎ Found (places.plug b (Some x))
  find w (first rest) jumped item why = inl (item, first_of_either (is_inert jumped x.kind x.below) (has_inert (jumped || cuts_off x.kind x.below) rest) (goes_there jumped (why_here jumped rest why)))
  find w (places.behind k n below b) jumped item why =
      elim (find w b (jumped || cuts_off k below) item why) [
        | inl row ↦ inl (row.0, second_of_either (is_inert jumped k below) (has_inert (jumped || cuts_off k below) (places.plug b (Some x))) row.1)
        | inr there ↦ inr (found_behind k n below there)
      ]
  find w (places.behind_none b) jumped item why =
      elim (find w b jumped item why) [
        | inl row ↦ inl row
        | inr there ↦ inr (found_absent there)
      ]
  find w (places.under k n b rest) jumped item why =
      elim (find (asked_below w k) b false item why) [
        | inl row ↦ inr (subst (λ l. Found (node l n (places.plug b (Some x)) rest)) (sym (list_row w.row k row.0)) (record { place = here; note = n; items = places.plug b (Some x); rest = rest; is = refl; has = row.1 }))
        | inr there ↦ inr (found_below k n rest there)
      ]

  found : (b : places.Around) → IsItem b → GoesThere false b x → Found (places.plug b (Some x))
  found b item why =
      elim (find (asked_of_program true) b false item why) [
        | inl row ↦ absurd cc
        | inr there ↦ there
      ]

-- where no list leaves anything no statement stands that could leave one
module _ (t : Forest) (settled : (a : counts.Around) (x : Tree) (rest : Forest) → t ≡ plug a (node x.kind x.note x.below rest) → list_reached x.note x.kind x.below ≡ None) where
  none_goes : (b : places.Around) (x : Tree) → t ≡ places.plug b (Some x) → only_runs x.kind ≡ true → declares_none (forest_of x) ≡ true → IsItem b → GoesThere false b x → ⊥
  none_goes b x is runs none item why =
      let f = found x runs none b item why in
      some_none (ap (λ c. left_if c f.note f.items) (sym f.has) ∙ settled f.place (record { kind = statements; note = f.note; below = f.items }) f.rest (is ∙ f.is))
    where
      some_none : {y : Tree} → Some y ≡ None → ⊥
      some_none e = cc

  pub settled_lists : (b : places.Around) (x : Tree) → t ≡ places.plug b (Some x) → Unreached b x → ⊥
  settled_lists b x is (never_runs item jump runs none) = none_goes b x is runs none item (inl jump)

  pub settled_items : (b : places.Around) (x : Tree) → t ≡ places.plug b (Some x) → IdleStatement b x → ⊥
  settled_items b x is (idle_leaves item idle none) = none_goes b x is (idle_runs x.kind x.below idle) none item (inr idle)

-- ---- and the other way round

record Stands (t : Forest) : Type 0 where
  place : places.Around
  node_there : Tree
  is : t ≡ places.plug place (Some node_there)
  goes : Inert place node_there

stands_by : (p : Place) (a : counts.Around) (jumped : Bool) (k : Kind) (n : Note) (b rest : Forest) (more goes : Bool) → IsItems p a → jumped_at false a ≡ jumped → is_inert jumped k b ≡ goes → (goes || more) ≡ true → (more ≡ true → Stands (plug a (node k n b rest)))
    → Stands (plug a (node k n b rest))
stands_by p a jumped k n b rest more true items is goes e next =
    record { place = to a (first rest); node_there = record { kind = k; note = n; below = b }; is = sym (plugged a (first rest) (Some (record { kind = k; note = n; below = b }))); goes = inert_there p a jumped k n b rest items is goes }
stands_by p a jumped k n b rest more false items is goes e next = next e

some_inert : (p : Place) (a : counts.Around) (jumped : Bool) (t : Forest) → IsItems p a → jumped_at false a ≡ jumped → has_inert jumped t ≡ true → Stands (plug a t)
some_inert p a jumped nothing items is h = absurd (true≢false (sym h))
some_inert p a jumped (absent rest) items is h =
    subst Stands (plug_join a (behind_none here) rest) (some_inert p (join a (behind_none here)) jumped rest (absent_items p a items) (jumped_none false a ∙ is) h)
some_inert p a jumped (node k n b rest) items is h =
    stands_by p a jumped k n b rest (has_inert (jumped || cuts_off k b) rest) (is_inert jumped k b) items is refl h (λ e.
    subst Stands (plug_join a (behind k n b here) rest) (some_inert p (join a (behind k n b here)) (jumped || cuts_off k b) rest (next_items p a k n b items) (jumped_next false a k n b ∙ ap (λ j. j || cuts_off k b) is) e))

none_or : (t : Forest) (a : counts.Around) (n : Note) (below rest : Forest) (b : Bool) → has_inert false below ≡ b → t ≡ plug a (node statements n below rest) → (Stands t → ⊥) → left_if b n below ≡ None
none_or t a n below rest false has is none = refl
none_or t a n below rest true has is none =
    absurd (none (subst Stands (plug_join a (under statements n here rest) below ∙ sym is) (some_inert (place_at a (goes_on rest)) (join a (under statements n here rest)) false below (first_items a n rest) (jumped_under false a statements n rest) has)))

lists_settle : (t : Forest) (a : counts.Around) (k : Kind) (n : Note) (below rest : Forest) → t ≡ plug a (node k n below rest) → (Stands t → ⊥) → list_reached n k below ≡ None
lists_settle t a Kind.Statements n below rest is none = none_or t a n below rest (has_inert false below) refl is none
lists_settle t a k n below rest is none = refl

pub settled_without : (t : Forest) → ((b : places.Around) (x : Tree) → t ≡ places.plug b (Some x) → Unreached b x → ⊥) → ((b : places.Around) (x : Tree) → t ≡ places.plug b (Some x) → IdleStatement b x → ⊥)
    → (a : counts.Around) (x : Tree) (rest : Forest) → t ≡ plug a (node x.kind x.note x.below rest) → list_reached x.note x.kind x.below ≡ None
settled_without t none idle a x rest is = lists_settle t a x.kind x.note x.below rest is (λ s. no_more s.place s.node_there s.is s.goes)
  where
    no_more : (b : places.Around) (x : Tree) → t ≡ places.plug b (Some x) → Inert b x → ⊥
    no_more b x is (never_runs_there c) = none b x is c
    no_more b x is (idles_there c) = idle b x is c

-- ---- by way of empty statements

emptied_goes : (f : Facts) (w : Where) (k : Kind) (n : Note) (b gone stays : Forest) (rest more : Forest) (goes : Bool) → trimmed f w gone ≡ trimmed f w rest → trimmed f w stays ≡ trimmed f w more
    → trimmed f w (if goes then node empty_statement (new_note n) nothing gone else node k n b stays) ≡ trimmed f w (if goes then rest else node k n b more)
emptied_goes f w k n b gone stays rest more true h g = h
emptied_goes f w k n b gone stays rest more false h g = ap (λ (t : Forest). if item_goes f w k b then t else node k n (item_left f w k b) t) g

-- a list is trimmed alike, whether what never runs is gone or empty
pub emptied_trims : (f : Facts) (w : Where) (jumped : Bool) (t : Forest) → trimmed f w (emptied_behind jumped t) ≡ trimmed f w (reached jumped t)
emptied_trims f w jumped nothing = refl
emptied_trims f w jumped (absent rest) = ap (λ (t : Forest). absent t) (emptied_trims f w jumped rest)
emptied_trims f w jumped (node k n b rest) =
    emptied_goes f w k n b (emptied_behind jumped rest) (emptied_behind (jumped || cuts_off k b) rest) (reached jumped rest) (reached (jumped || cuts_off k b) rest) (is_inert jumped k b) (emptied_trims f w jumped rest) (emptied_trims f w (jumped || cuts_off k b) rest)

-- where nothing goes all stays
stay_by : (k : Kind) (n : Note) (b gone stays rest : Forest) (goes more : Bool) → (goes || more) ≡ false → (more ≡ false → stays ≡ rest) → (if goes then gone else node k n b stays) ≡ node k n b rest
stay_by k n b gone stays rest true more h g = absurd (true≢false h)
stay_by k n b gone stays rest false more h g = ap (λ (t : Forest). node k n b t) (g h)

pub all_reached : (jumped : Bool) (t : Forest) → has_inert jumped t ≡ false → reached jumped t ≡ t
all_reached jumped nothing h = refl
all_reached jumped (absent rest) h = ap (λ (t : Forest). absent t) (all_reached jumped rest h)
all_reached jumped (node k n b rest) h =
    stay_by k n b (reached jumped rest) (reached (jumped || cuts_off k b) rest) rest (is_inert jumped k b) (has_inert (jumped || cuts_off k b) rest) h (λ e. all_reached (jumped || cuts_off k b) rest e)
