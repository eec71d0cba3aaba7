-- Imports without names leave a list behind other requests of their modules, by edits; and where none leaves, none stands there that could.
use Rattle.std.proofs.Common.{◌≡◌, ◌∙◌, ◌⊎◌, inl, inr, ◌≤◌, ◌+◌, ℕ, List, [], ◌∷◌, ◌++◌, Bool, true, false, ◌&&◌, ◌||◌, Some, None, if◌then◌else◌, refl, sym, ap, subst, arith, true≢false}
use Rattle.js_syntax.specs.declared.node_kind.NodeKind.{NodeKind as Kind}
use Rattle.js_syntax.specs.declared.node_kind.NodeKind.TheVariants.{Statements as statements, ImportDeclaration as import_declaration, Specifiers as specifiers}
use Rattle.js_syntax.specs.Facts.{weight}
use Rattle.js_syntax.specs.Node.{Forest, Tree, Note, nothing, node, absent, forest_of, total}
use Rattle.js_syntax.proofs.Truth.{first_of_either, second_of_either}
use Rattle.js_meaning.specs.Module.{requests_of}
use Rattle.min_context.specs.Edited.{evals}
use Rattle.min_context.specs.Place.{Place, place_at, goes_on}
use Rattle.min_pass.specs.declared.around.Around.{Around as Asked}
use Rattle.min_pass.specs.declared.around.Row.{Row as AskedRow}
use Rattle.min_pass.specs.declared.around.Row.TheVariants.{Items as row_items, OfItem as row_of_item}
use Rattle.min_pass.specs.Around.{row_below as asked_row_below, entered as asked_below, outermost as asked_of_program}
use Rattle.scope_counts.specs.Counts.{ids}
use Rattle.scope_counts.specs.Edits as counts
use Rattle.scope_counts.specs.Edits.{here, behind, behind_none, under, plug}
use Rattle.scope_laws.specs.Place as places
use Rattle.scope_laws.specs.Place.{first}
use Rattle.steps.specs.Names.{is_among}
use Rattle.steps.proofs.Among.{among_joined}
use Rattle.steps.specs.Allowed.Edits.{Edit, leaves, repeated_import, TreeEdits, no_tree_edit, one_tree_edit}
use Rattle.steps.specs.Allowed.Places.{asked_at, IsItem}
use Rattle.steps.specs.Allowed.RepeatedImport.{asks_for, is_asked_before, import_of, RepeatedImport, repeated_import_leaves}
use Rattle.rules.proofs.DeadCode.Items.{IsItems, first_items, next_items, absent_items, item_there, leaves_there}
use Rattle.rules.proofs.DeadCode.Places.{to, plugged, join, plug_join}
use Rattle.rules.specs.Imports.Repeated.{has_no_names, repeats, has_repeated, each_once, once_if, list_once, asked_once}

no_kind : {A : Type 0} → false ≡ true → A
no_kind e = absurd (true≢false (sym e))

-- ---- what repeats

pub data Repeats (asked : List (List ℕ)) : Kind → Forest → Type 0 where
  a_repeat : (source : List ℕ) (m : Note) → is_among asked source ≡ true → Repeats asked (import_declaration source) (node specifiers m nothing nothing)

of_import : (asked : List (List ℕ)) (source : List ℕ) (b : Forest) → (has_no_names b && is_among asked source) ≡ true → Repeats asked (import_declaration source) b
of_import asked source (node Kind.Specifiers m nothing nothing) h = a_repeat source m h
of_import asked source (node Kind.Specifiers m (absent c) nothing) h = no_kind h
of_import asked source (node Kind.Specifiers m (node k n b c) nothing) h = no_kind h
of_import asked source (node Kind.Specifiers m c (absent r)) h = no_kind h
of_import asked source (node Kind.Specifiers m c (node k n b r)) h = no_kind h
of_import asked source (node k m c r) h = no_kind h
of_import asked source (absent r) h = no_kind h
of_import asked source nothing h = no_kind h

pub repeats_view : (asked : List (List ℕ)) (k : Kind) (b : Forest) → repeats asked k b ≡ true → Repeats asked k b
repeats_view asked (Kind.ImportDeclaration source) b h = of_import asked source b h
repeats_view asked k b h = no_kind h

-- ---- requests before a place in its row

abbrev asked_there : (source : List ℕ) → Bool → counts.Around → Bool
asked_there source q here = q
asked_there source q (behind k n b a) = asked_there source (q || asks_for source k) a
asked_there source q (behind_none a) = asked_there source q a
asked_there source q (under k n a rest) = asked_there source false a

asked_to : (source : List ℕ) (q : Bool) (a : counts.Around) (rest : Forest) → is_asked_before source q (to a (first rest)) ≡ asked_there source q a
asked_to source q here rest = refl
asked_to source q (behind k n b a) rest = asked_to source (q || asks_for source k) a rest
asked_to source q (behind_none a) rest = asked_to source q a rest
asked_to source q (under k n a r) rest = asked_to source false a rest

asked_next : (source : List ℕ) (q : Bool) (a : counts.Around) (k : Kind) (n : Note) (b : Forest) → asked_there source q (join a (behind k n b here)) ≡ asked_there source q a || asks_for source k
asked_next source q here k n b = refl
asked_next source q (behind l m c a) k n b = asked_next source (q || asks_for source l) a k n b
asked_next source q (behind_none a) k n b = asked_next source q a k n b
asked_next source q (under l m a r) k n b = asked_next source false a k n b

asked_none : (source : List ℕ) (q : Bool) (a : counts.Around) → asked_there source q (join a (behind_none here)) ≡ asked_there source q a
asked_none source q here = refl
asked_none source q (behind l m c a) = asked_none source (q || asks_for source l) a
asked_none source q (behind_none a) = asked_none source q a
asked_none source q (under l m a r) = asked_none source false a

asked_under : (source : List ℕ) (q : Bool) (a : counts.Around) (k : Kind) (n : Note) (rest : Forest) → asked_there source q (join a (under k n here rest)) ≡ false
asked_under source q here k n rest = refl
asked_under source q (behind l m c a) k n rest = asked_under source (q || asks_for source l) a k n rest
asked_under source q (behind_none a) k n rest = asked_under source q a k n rest
asked_under source q (under l m a r) k n rest = asked_under source false a k n rest

-- what is asked for before the place is what the list has
abbrev Told : counts.Around → List (List ℕ) → Type 0
Told a asked = (source : List ℕ) → asked_there source false a ≡ is_among asked source

told_next : (a : counts.Around) (asked : List (List ℕ)) (k : Kind) (n : Note) (b : Forest) → Told a asked → Told (join a (behind k n b here)) (asked ++ requests_of k)
told_next a asked k n b is source = asked_next source false a k n b ∙ ap (λ q. q || asks_for source k) (is source) ∙ sym (among_joined asked (requests_of k) source)

told_none : (a : counts.Around) (asked : List (List ℕ)) → Told a asked → Told (join a (behind_none here)) asked
told_none a asked is source = asked_none source false a ∙ is source

-- ---- edits of the row

repeated_there : (p : Place) (a : counts.Around) (asked : List (List ℕ)) (k : Kind) (n : Note) (b rest : Forest) → IsItems p a → Told a asked → Repeats asked k b → RepeatedImport (to a (first rest)) (record { kind = k; note = n; below = b })
repeated_there p a asked _ n _ rest items is (a_repeat source m among) = repeated_import_leaves source n m (item_there p a rest items) (asked_to source false a rest ∙ is source ∙ among)

repeated_goes : (p : Place) (a : counts.Around) (asked : List (List ℕ)) (k : Kind) (n : Note) (b rest : Forest) → IsItems p a → Told a asked → repeats asked k b ≡ true → Edit (plug a (node k n b rest)) (plug a rest)
repeated_goes p a asked k n b rest items is goes =
    let x : Tree = record { kind = k; note = n; below = b } in
    leaves_there a (Some x) rest (leaves (to a (first rest)) x (repeated_import (repeated_there p a asked k n b rest items is (repeats_view asked k b goes))))

by_item : (a : counts.Around) (asked : List (List ℕ)) (k : Kind) (n : Note) (b rest : Forest) (goes : Bool) → (goes ≡ true → Edit (plug a (node k n b rest)) (plug a rest)) → TreeEdits (plug a rest) (plug a (each_once asked rest))
    → TreeEdits (plug a (node k n b rest)) (plug a (node k n b (each_once (asked ++ requests_of k) rest)))
    → TreeEdits (plug a (node k n b rest)) (plug a (if goes then each_once asked rest else node k n b (each_once (asked ++ requests_of k) rest)))
by_item a asked k n b rest true edit now next = one_tree_edit (plug a (node k n b rest)) (plug a rest) (plug a (each_once asked rest)) (edit refl) now
by_item a asked k n b rest false edit now next = next

row_edits : (p : Place) (a : counts.Around) (asked : List (List ℕ)) (t : Forest) → IsItems p a → Told a asked → TreeEdits (plug a t) (plug a (each_once asked t))
row_edits p a asked nothing items is = no_tree_edit (plug a nothing)
row_edits p a asked (absent rest) items is =
    subst (λ u. TreeEdits u (plug a (absent (each_once asked rest)))) (plug_join a (behind_none here) rest)
    (subst (λ u. TreeEdits (plug (join a (behind_none here)) rest) u) (plug_join a (behind_none here) (each_once asked rest))
    (row_edits p (join a (behind_none here)) asked rest (absent_items p a items) (told_none a asked is)))
row_edits p a asked (node k n b rest) items is =
    by_item a asked k n b rest (repeats asked k b) (λ goes. repeated_goes p a asked k n b rest items is goes) (row_edits p a asked rest items is)
    (subst (λ u. TreeEdits u (plug a (node k n b (each_once (asked ++ requests_of k) rest)))) (plug_join a (behind k n b here) rest)
    (subst (λ u. TreeEdits (plug (join a (behind k n b here)) rest) u) (plug_join a (behind k n b here) (each_once (asked ++ requests_of k) rest))
    (row_edits p (join a (behind k n b here)) (asked ++ requests_of k) rest (next_items p a k n b items) (told_next a asked k n b is))))

-- a list's row
told_first : (a : counts.Around) (n : Note) (rest : Forest) → Told (join a (under statements n here rest)) []
told_first a n rest source = asked_under source false a statements n rest

once_edits : (a : counts.Around) (n : Note) (row rest : Forest) → TreeEdits (plug a (node statements n row rest)) (plug a (node statements n (each_once [] row) rest))
once_edits a n row rest =
    subst (λ u. TreeEdits u (plug a (node statements n (each_once [] row) rest))) (plug_join a (under statements n here rest) row)
    (subst (λ u. TreeEdits (plug (join a (under statements n here rest)) row) u) (plug_join a (under statements n here rest) (each_once [] row))
    (row_edits (place_at a (goes_on rest)) (join a (under statements n here rest)) [] row (first_items a n rest) (told_first a n rest)))

-- ---- a list, and what is left

pub record Repeating (x y : Tree) : Type 0 where
  pub note : Note
  pub items : Forest
  pub has : has_repeated [] items ≡ true
  pub old : record { kind = statements; note = note; below = items } ≡ x
  pub new : record { kind = statements; note = note; below = each_once [] items } ≡ y

some_is : (b : Bool) (y z : Tree) → (if b then Some y else None) ≡ Some z → (b ≡ true) × (y ≡ z)
some_is true y z e = (refl, cc e)
some_is false y z e = absurd cc

pub repeating : (x y : Tree) → asked_once x ≡ Some y → Repeating x y
repeating x y e = by x.kind e refl
  where
    by : (k : Kind) → list_once x.note k x.below ≡ Some y → k ≡ x.kind → Repeating x y
    by Kind.Statements f is =
        let o = some_is (has_repeated [] x.below) (record { kind = statements; note = x.note; below = each_once [] x.below }) y f in
        record { note = x.note; items = x.below; has = o.0; old = ap (λ k. record x { kind = k }) is; new = o.1 }
    by k f is = absurd cc

pub repeats_leave : (a : counts.Around) (x y : Tree) (rest : Forest) → asked_once x ≡ Some y → TreeEdits (plug a (node x.kind x.note x.below rest)) (plug a (node y.kind y.note y.below rest))
repeats_leave a x y rest e =
    let o = repeating x y e in
    subst (λ (z : Tree). TreeEdits (plug a (node x.kind x.note x.below rest)) (plug a (node z.kind z.note z.below rest))) o.new
    (subst (λ (z : Tree). TreeEdits (plug a (node z.kind z.note z.below rest)) (plug a (node statements o.note (each_once [] o.items) rest))) o.old (once_edits a o.note o.items rest))

-- ---- it is lighter, and has the same references and calls

repeat_weighs : (asked : List (List ℕ)) (k : Kind) (b : Forest) → Repeats asked k b → 1 ≤ weight k
repeat_weighs asked _ _ (a_repeat source m among) = Prim.omega arith

no_heavier_by : (k : Kind) (n : Note) (b rest gone stays : Forest) (goes : Bool) → total weight gone ≤ total weight rest → total weight stays ≤ total weight rest → total weight (if goes then gone else node k n b stays) ≤ total weight (node k n b rest)
no_heavier_by k n b rest gone stays true h g = Prim.omega (arith, h)
no_heavier_by k n b rest gone stays false h g = Prim.omega (arith, g)

no_heavier : (asked : List (List ℕ)) (t : Forest) → total weight (each_once asked t) ≤ total weight t
no_heavier asked nothing = Prim.omega arith
no_heavier asked (absent rest) = no_heavier asked rest
no_heavier asked (node k n b rest) = no_heavier_by k n b rest (each_once asked rest) (each_once (asked ++ requests_of k) rest) (repeats asked k b) (no_heavier asked rest) (no_heavier (asked ++ requests_of k) rest)

lighter_by : (asked : List (List ℕ)) (k : Kind) (n : Note) (b rest gone stays : Forest) (more goes : Bool) → repeats asked k b ≡ goes → (goes || more) ≡ true → total weight gone ≤ total weight rest → (more ≡ true → total weight stays + 1 ≤ total weight rest)
    → total weight (if goes then gone else node k n b stays) + 1 ≤ total weight (node k n b rest)
lighter_by asked k n b rest gone stays more true goes e h g = Prim.omega (arith, h, repeat_weighs asked k b (repeats_view asked k b goes))
lighter_by asked k n b rest gone stays more false goes e h g = Prim.omega (arith, g e)

row_lighter : (asked : List (List ℕ)) (t : Forest) → has_repeated asked t ≡ true → total weight (each_once asked t) + 1 ≤ total weight t
row_lighter asked nothing h = no_kind h
row_lighter asked (absent rest) h = row_lighter asked rest h
row_lighter asked (node k n b rest) h =
    lighter_by asked k n b rest (each_once asked rest) (each_once (asked ++ requests_of k) rest) (has_repeated (asked ++ requests_of k) rest) (repeats asked k b) refl h (no_heavier asked rest) (λ e. row_lighter (asked ++ requests_of k) rest e)

pub repeats_lighter : (x y : Tree) → asked_once x ≡ Some y → total weight (forest_of y) + 1 ≤ total weight (forest_of x)
repeats_lighter x y e =
    let o = repeating x y e in
    Prim.omega (arith, row_lighter [] o.items o.has, ap (λ (z : Tree). total weight (forest_of z)) o.old, ap (λ (z : Tree). total weight (forest_of z)) o.new)

-- by any count in which imports without names count for nothing
module _ (m : Forest → ℕ) (apart : (k : Kind) (n : Note) (b r : Forest) → m (node k n b r) ≡ m (node k n b nothing) + m r) (skips : (r : Forest) → m (absent r) ≡ m r)
    (free : (source : List ℕ) (n i : Note) → m (node (import_declaration source) n (node specifiers i nothing nothing) nothing) ≡ 0) where
  none_of : (asked : List (List ℕ)) (k : Kind) (n : Note) (b : Forest) → Repeats asked k b → m (node k n b nothing) ≡ 0
  none_of asked _ n _ (a_repeat source i among) = free source n i

  same_by : (asked : List (List ℕ)) (k : Kind) (n : Note) (b rest gone stays : Forest) (goes : Bool) → repeats asked k b ≡ goes → m gone ≡ m rest → m stays ≡ m rest → m (if goes then gone else node k n b stays) ≡ m (node k n b rest)
  same_by asked k n b rest gone stays true goes h g = Prim.omega (arith, h, apart k n b rest, none_of asked k n b (repeats_view asked k b goes))
  same_by asked k n b rest gone stays false goes h g = Prim.omega (arith, g, apart k n b rest, apart k n b stays)

  same_count : (asked : List (List ℕ)) (t : Forest) → m (each_once asked t) ≡ m t
  same_count asked nothing = refl
  same_count asked (absent rest) = skips (each_once asked rest) ∙ same_count asked rest ∙ sym (skips rest)
  same_count asked (node k n b rest) = same_by asked k n b rest (each_once asked rest) (each_once (asked ++ requests_of k) rest) (repeats asked k b) refl (same_count asked rest) (same_count (asked ++ requests_of k) rest)

ids_apart : (r : ℕ) (k : Kind) (n : Note) (b rest : Forest) → ids r (node k n b rest) ≡ ids r (node k n b nothing) + ids r rest
ids_apart r k n b rest = Prim.omega arith

evals_apart : (k : Kind) (n : Note) (b rest : Forest) → evals (node k n b rest) ≡ evals (node k n b nothing) + evals rest
evals_apart k n b rest = Prim.omega arith

pub repeats_refer : (x y : Tree) → asked_once x ≡ Some y → (r : ℕ) → ids r (forest_of y) ≡ ids r (forest_of x)
repeats_refer x y e r =
    let o = repeating x y e in
    let row = same_count (ids r) (ids_apart r) (λ t. refl) (λ source n i. refl) [] o.items in
    Prim.omega (arith, row, ap (λ (z : Tree). ids r (forest_of z)) o.old, ap (λ (z : Tree). ids r (forest_of z)) o.new)

pub repeats_call : (x y : Tree) → asked_once x ≡ Some y → evals (forest_of y) ≡ evals (forest_of x)
repeats_call x y e =
    let o = repeating x y e in
    let row = same_count evals evals_apart (λ t. refl) (λ source n i. refl) [] o.items in
    Prim.omega (arith, row, ap (λ (z : Tree). evals (forest_of z)) o.old, ap (λ (z : Tree). evals (forest_of z)) o.new)

-- ---- where nothing leaves a list

record Found (t : Forest) : Type 0 where
  place : counts.Around
  note : Note
  items : Forest
  rest : Forest
  is : t ≡ plug place (node statements note items rest)
  has : has_repeated [] items ≡ true

list_row : (row : AskedRow) (k : Kind) → asked_row_below row k ≡ row_items → k ≡ statements
list_row row Kind.Statements e = refl
list_row row_items (Kind.VariableDeclaration how) e = absurd cc
list_row row_of_item Kind.Declarators e = absurd cc
list_row row k e = absurd cc

found_below : {t : Forest} (k : Kind) (n : Note) (rest : Forest) → Found t → Found (node k n t rest)
found_below k n rest f = record { place = under k n f.place rest; note = f.note; items = f.items; rest = f.rest; is = ap (λ u. node k n u rest) f.is; has = f.has }

found_behind : {t : Forest} (k : Kind) (n : Note) (below : Forest) → Found t → Found (node k n below t)
found_behind k n below f = record { place = behind k n below f.place; note = f.note; items = f.items; rest = f.rest; is = ap (λ u. node k n below u) f.is; has = f.has }

found_absent : {t : Forest} → Found t → Found (absent t)
found_absent f = record { place = behind_none f.place; note = f.note; items = f.items; rest = f.rest; is = ap (λ u. absent u) f.is; has = f.has }

module _ (source : List ℕ) (n i : Note) where
  abbrev it : Tree
  it = import_of source n i

  find : (w : Asked) (b : places.Around) (asked : List (List ℕ)) → (asked_at w b).row ≡ row_items → is_asked_before source (is_among asked source) b ≡ true
      → ((w.row ≡ row_items) × (has_repeated asked (places.plug b (Some it)) ≡ true)) ⊎ Found (places.plug b (Some it))
  find w (first rest) asked item why = inl (item, first_of_either (is_among asked source) (has_repeated (asked ++ (source ∷ [])) rest) why)
  find w (places.behind k m below b) asked item why =
      elim (find w b (asked ++ requests_of k) item (ap (λ q. is_asked_before source q b) (among_joined asked (requests_of k) source) ∙ why)) [
        | inl row ↦ inl (row.0, second_of_either (repeats asked k below) (has_repeated (asked ++ requests_of k) (places.plug b (Some it))) row.1)
        | inr there ↦ inr (found_behind k m below there)
      ]
  find w (places.behind_none b) asked item why =
      elim (find w b asked item why) [
        | inl row ↦ inl row
        | inr there ↦ inr (found_absent there)
      ]
  find w (places.under k m b rest) asked item why =
      elim (find (asked_below w k) b [] item why) [
        | inl row ↦ inr (subst (λ l. Found (node l m (places.plug b (Some it)) rest)) (sym (list_row w.row k row.0)) (record { place = here; note = m; items = places.plug b (Some it); rest = rest; is = refl; has = row.1 }))
        | inr there ↦ inr (found_below k m rest there)
      ]

  found : (b : places.Around) → IsItem b → is_asked_before source false b ≡ true → Found (places.plug b (Some it))
  found b item why =
      elim (find (asked_of_program true) b [] item why) [
        | inl row ↦ absurd cc
        | inr there ↦ there
      ]

-- where no list leaves anything no import stands that could leave one
module _ (t : Forest) (once : (a : counts.Around) (x : Tree) (rest : Forest) → t ≡ plug a (node x.kind x.note x.below rest) → asked_once x ≡ None) where
  pub none_repeats : (b : places.Around) (x : Tree) → t ≡ places.plug b (Some x) → RepeatedImport b x → ⊥
  none_repeats b x is (repeated_import_leaves source n i item asked) =
      let f = found source n i b item asked in
      some_none (ap (λ c. once_if c f.note f.items) (sym f.has) ∙ once f.place (record { kind = statements; note = f.note; below = f.items }) f.rest (is ∙ f.is))
    where
      some_none : {y : Tree} → Some y ≡ None → ⊥
      some_none e = cc

-- ---- and the other way round

record Stands (t : Forest) : Type 0 where
  place : places.Around
  node_there : Tree
  is : t ≡ places.plug place (Some node_there)
  goes : RepeatedImport place node_there

stands_by : (p : Place) (a : counts.Around) (asked : List (List ℕ)) (k : Kind) (n : Note) (b rest : Forest) (more goes : Bool) → IsItems p a → Told a asked → repeats asked k b ≡ goes → (goes || more) ≡ true → (more ≡ true → Stands (plug a (node k n b rest)))
    → Stands (plug a (node k n b rest))
stands_by p a asked k n b rest more true items is goes e next =
    record { place = to a (first rest); node_there = record { kind = k; note = n; below = b }; is = sym (plugged a (first rest) (Some (record { kind = k; note = n; below = b }))); goes = repeated_there p a asked k n b rest items is (repeats_view asked k b goes) }
stands_by p a asked k n b rest more false items is goes e next = next e

some_repeated : (p : Place) (a : counts.Around) (asked : List (List ℕ)) (t : Forest) → IsItems p a → Told a asked → has_repeated asked t ≡ true → Stands (plug a t)
some_repeated p a asked nothing items is h = no_kind h
some_repeated p a asked (absent rest) items is h =
    subst Stands (plug_join a (behind_none here) rest) (some_repeated p (join a (behind_none here)) asked rest (absent_items p a items) (told_none a asked is) h)
some_repeated p a asked (node k n b rest) items is h =
    stands_by p a asked k n b rest (has_repeated (asked ++ requests_of k) rest) (repeats asked k b) items is refl h (λ e.
    subst Stands (plug_join a (behind k n b here) rest) (some_repeated p (join a (behind k n b here)) (asked ++ requests_of k) rest (next_items p a k n b items) (told_next a asked k n b is) e))

none_or : (t : Forest) (a : counts.Around) (n : Note) (below rest : Forest) (b : Bool) → has_repeated [] below ≡ b → t ≡ plug a (node statements n below rest) → (Stands t → ⊥) → once_if b n below ≡ None
none_or t a n below rest false has is none = refl
none_or t a n below rest true has is none =
    absurd (none (subst Stands (plug_join a (under statements n here rest) below ∙ sym is) (some_repeated (place_at a (goes_on rest)) (join a (under statements n here rest)) [] below (first_items a n rest) (told_first a n rest) has)))

lists_once : (t : Forest) (a : counts.Around) (k : Kind) (n : Note) (below rest : Forest) → t ≡ plug a (node k n below rest) → (Stands t → ⊥) → list_once n k below ≡ None
lists_once t a Kind.Statements n below rest is none = none_or t a n below rest (has_repeated [] below) refl is none
lists_once t a k n below rest is none = refl

pub once_without : (t : Forest) → ((b : places.Around) (x : Tree) → t ≡ places.plug b (Some x) → RepeatedImport b x → ⊥) → (a : counts.Around) (x : Tree) (rest : Forest) → t ≡ plug a (node x.kind x.note x.below rest) → asked_once x ≡ None
once_without t none a x rest is = lists_once t a x.kind x.note x.below rest is (λ s. none s.place s.node_there s.is s.goes)
