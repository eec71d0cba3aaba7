-- Places of the items of a list of statements, and of the declarators of such items.
use Rattle.std.proofs.Common.{◌≡◌, ◌∙◌, ℕ, suc, Bool, true, false, ◌||◌, Option, Some, refl, sym, ap, ap₂, subst}
use Rattle.js_syntax.specs.declared.node_kind.NodeKind.{NodeKind as Kind}
use Rattle.js_syntax.specs.declared.node_kind.NodeKind.TheVariants.{Statements as statements, VariableDeclaration as variable_declaration, Declarators as declarators}
use Rattle.js_syntax.specs.declared.kind.VariableKind.{VariableKind}
use Rattle.js_syntax.specs.Node.{Forest, Tree, Note, nothing, node}
use Rattle.min_context.specs.Above.{above_of}
use Rattle.min_context.specs.Place.{Place, told_of, Spot, place_of, next_of, top, spot, place_at, goes_on}
use Rattle.min_context.specs.declared.ancestor.Ancestor.TheVariants.{Field as field}
use Rattle.min_context.specs.declared.ancestor.Parent.TheVariants as parent
use Rattle.min_pass.specs.declared.around.Around.{Around as Asked}
use Rattle.min_pass.specs.declared.around.Row.{Row}
use Rattle.min_pass.specs.declared.around.Row.TheVariants.{Items as items, OfItem as of_item, Declarators as item_declarators, Other as other}
use Rattle.min_pass.specs.Around.{row_below, entered as asked_below, outermost as asked_of_program}
use Rattle.scope_laws.specs.Place as places
use Rattle.scope_laws.specs.Place.{Around, first, placed}
use Rattle.scope_laws.specs.Lists.{without}
use Rattle.scope_counts.specs.Edits as counts
use Rattle.scope_counts.specs.Edits.{here, behind, behind_none, under, plug}
use Rattle.steps.specs.Allowed.Edits.{Edit}
use Rattle.steps.specs.Allowed.Silent.{inside_of}
use Rattle.steps.specs.Allowed.Places.{asked_at, surroundings_asked, surroundings_at, has_node, has_other, IsItem, IsDeclarator}
use Rattle.steps.specs.Marked.Flags.{Stand, declares_in, stand_inside, stand}
use Rattle.js_syntax.proofs.Truth.{or_false}
use Rattle.rules.specs.DeadCode.Rules.{Facts, Where, has_with, has_class, where_of, surroundings_of, surroundings_below, scope_of}
use Rattle.rules.specs.DeadCode.Knows.{Knows}
use Rattle.rules.proofs.DeadCode.LaidOut.{is_laid, fits_laid, laid_below, laid_rest}
use Rattle.rules.proofs.DeadCode.Places.{to, plugged, left_out, join, spot_join, asked_row, asked_to, asked_join, other_under, is_row, has_before, asked_along, other_stands, other_behind, with_last, class_last, surroundings_are}
use Rattle.rules.proofs.DeadCode.Numbers.{Same, declares_there, whole_stand, numbers, stand_to, stand_along}
use Rattle.rules.proofs.DeadCode.Keeping.{Known}

pub laid_there : (a : counts.Around) (t : Forest) → is_laid (plug a t) ≡ true → is_laid t ≡ true
laid_there here t e = e
laid_there (behind k n b a) t e = laid_there a t (laid_rest k n b (plug a t) e)
laid_there (behind_none a) t e = laid_there a t e
laid_there (under k n a rest) t e = laid_there a t (laid_below k n (plug a t) rest e)

-- ---- items

-- a row below the list, whose place is p
abbrev listed : Place → Note → (at : ℕ) → (previous : Bool) → Spot
listed p n at previous = record { outer = p; above = Some (above_of statements n); at = at; previous = previous }

pub record IsItems (p : Place) (a : counts.Around) : Type 0 where
  pub note : Note
  pub at : ℕ
  pub previous : Bool
  pub spot_is : spot top a ≡ listed p note at previous
  pub row_is : (asked_row (asked_of_program true) a).row ≡ items

pub row_of_list : (r : Row) → row_below r statements ≡ items
row_of_list items = refl
row_of_list of_item = refl
row_of_list item_declarators = refl
row_of_list other = refl

pub first_items : (a : counts.Around) (n : Note) (rest : Forest) → IsItems (place_at a (goes_on rest)) (join a (under statements n here rest))
first_items a n rest = record {
  note = n;
  at = 0;
  previous = false;
  spot_is = spot_join top a (under statements n here rest);
  row_is = ap (λ (w : Asked). w.row) (asked_join (asked_of_program true) a (under statements n here rest)) ∙ row_of_list (asked_row (asked_of_program true) a).row;
}

pub next_items : (p : Place) (a : counts.Around) (k : Kind) (n : Note) (b : Forest) → IsItems p a → IsItems p (join a (behind k n b here))
next_items p a k n b h = record {
  note = h.note;
  at = suc h.at;
  previous = true;
  spot_is = spot_join top a (behind k n b here) ∙ ap (λ s. next_of s true) h.spot_is;
  row_is = ap (λ (w : Asked). w.row) (asked_join (asked_of_program true) a (behind k n b here)) ∙ h.row_is;
}

pub absent_items : (p : Place) (a : counts.Around) → IsItems p a → IsItems p (join a (behind_none here))
absent_items p a h = record {
  note = h.note;
  at = suc h.at;
  previous = false;
  spot_is = spot_join top a (behind_none here) ∙ ap (λ s. next_of s false) h.spot_is;
  row_is = ap (λ (w : Asked). w.row) (asked_join (asked_of_program true) a (behind_none here)) ∙ h.row_is;
}

-- what the rules are asked with is that of the list's own place
where_with : (p : Place) (in_with in_class : Bool) → in_with ≡ has_with p.ancestors → in_class ≡ has_class p.ancestors → (record { scope = p.scope; hoist_scope = p.hoist_scope; in_with = in_with; in_class = in_class }) ≡ where_of p
where_with p in_with in_class e g = ap₂ (λ b c. let w : Where = record { scope = p.scope; hoist_scope = p.hoist_scope; in_with = b; in_class = c } in w) e g

listed_with : (p : Place) (n : Note) (at : ℕ) (previous more : Bool) → has_with (place_of (listed p n at previous) more).ancestors ≡ has_with p.ancestors
listed_with p n at previous more = with_last p.ancestors (field (told_of parent.Statements at previous more) at) ∙ or_false (has_with p.ancestors)

listed_class : (p : Place) (n : Note) (at : ℕ) (previous more : Bool) → has_class (place_of (listed p n at previous) more).ancestors ≡ has_class p.ancestors
listed_class p n at previous more = class_last p.ancestors (field (told_of parent.Statements at previous more) at) ∙ or_false (has_class p.ancestors)

listed_where : (p : Place) (n : Note) (at : ℕ) (previous more : Bool) → where_of (place_of (listed p n at previous) more) ≡ where_of p
listed_where p n at previous more =
    where_with p (has_with (place_of (listed p n at previous) more).ancestors) (has_class (place_of (listed p n at previous) more).ancestors) (listed_with p n at previous more) (listed_class p n at previous more)

pub items_where : (p : Place) (a : counts.Around) (more : Bool) → IsItems p a → where_of (place_at a more) ≡ where_of p
items_where p a more h = ap (λ s. where_of (place_of s more)) h.spot_is ∙ listed_where p h.note h.at h.previous more

row_surroundings : (p : Place) (a : counts.Around) → IsItems p a → surroundings_asked (asked_row (asked_of_program true) a) ≡ surroundings_below p.ancestors
row_surroundings p a h = surroundings_are a false ∙ ap surroundings_of (items_where p a false h)

-- ---- as edits ask for it

pub item_there : (p : Place) (a : counts.Around) (rest : Forest) → IsItems p a → IsItem (to a (first rest))
item_there p a rest h = ap (λ (w : Asked). w.row) (asked_to (asked_of_program true) a (first rest)) ∙ h.row_is

pub item_surroundings : (p : Place) (a : counts.Around) (rest : Forest) → IsItems p a → surroundings_at (to a (first rest)) ≡ surroundings_below p.ancestors
item_surroundings p a rest h = ap surroundings_asked (asked_to (asked_of_program true) a (first rest)) ∙ row_surroundings p a h

pub leaves_there : (a : counts.Around) (x : Option Tree) (rest : Forest) → Edit (places.plug (to a (first rest)) x) (without (to a (first rest))) → Edit (plug a (placed x rest)) (plug a rest)
leaves_there a x rest e = subst (λ u. Edit (plug a (placed x rest)) u) (left_out a (first rest)) (subst (λ t. Edit t (without (to a (first rest)))) (plugged a (first rest) x) e)

pub becomes_there : (a : counts.Around) (x y : Option Tree) (rest : Forest) → Edit (places.plug (to a (first rest)) x) (places.plug (to a (first rest)) y) → Edit (plug a (placed x rest)) (plug a (placed y rest))
becomes_there a x y rest e = subst (λ u. Edit (plug a (placed x rest)) u) (plugged a (first rest) y) (subst (λ t. Edit t (places.plug (to a (first rest)) y)) (plugged a (first rest) x) e)

module _ (f : Facts) where
  pub knows_there : (marked : ℕ → Bool) (a : counts.Around) (b : Around) (x : Option Tree) → Knows f marked (plug a (places.plug b x)) → Knows f marked (places.plug (to a b) x)
  knows_there marked a b x h = subst (λ t. Knows f marked t) (sym (plugged a b x)) h

  pub known_laid : (a : counts.Around) (t : Forest) → Known f (plug a t) → is_laid t ≡ true
  known_laid a t h = laid_there a t (fits_laid (plug a t) h.knows.fits)

  -- the stand of an item
  pub items_same : (p : Place) (a : counts.Around) (k : Kind) (n : Note) (b rest : Forest) → IsItems p a → Known f (plug a (node k n b rest)) → Same (whole_stand a (node k n b rest)) (where_of p)
  items_same p a k n b rest h g = subst (λ w. Same (whole_stand a (node k n b rest)) w) (items_where p a (goes_on rest) h) (numbers f.scoping a k n b rest (fits_laid (plug a (node k n b rest)) g.knows.fits) g.knows.flags g.knows.outermost)

  pub item_scope : (p : Place) (a : counts.Around) (x : Tree) (rest : Forest) → IsItems p a → Known f (plug a (placed (Some x) rest)) → (stand (to a (first rest)) (Some x)).scope ≡ Some p.scope
  item_scope p a x rest h g = ap (λ (q : Stand). q.scope) (stand_to a (first rest) (Some x)) ∙ (items_same p a x.kind x.note x.below rest h g).scope

  pub item_declares : (p : Place) (a : counts.Around) (x : Tree) (rest : Forest) → IsItems p a → Known f (plug a (placed (Some x) rest)) → (how : VariableKind) → declares_in (stand (to a (first rest)) (Some x)) how ≡ Some (scope_of (where_of p) how)
  item_declares p a x rest h g how = ap (λ q. declares_in q how) (stand_to a (first rest) (Some x)) ∙ declares_there (whole_stand a (placed (Some x) rest)) (where_of p) (items_same p a x.kind x.note x.below rest h g) how

-- ---- declarators

-- a declaration with others behind it
abbrev pub declaration : VariableKind → (n m : Note) → (ds rest : Forest) → Forest
declaration how n m ds rest = node (variable_declaration how) n (node declarators m ds nothing) rest

-- the place behind some of its declarators
abbrev pub in_declaration : VariableKind → (n m : Note) → counts.Around → (more rest : Forest) → Around
in_declaration how n m d more rest = places.under (variable_declaration how) n (places.under declarators m (to d (first more)) nothing) rest

module _ (a d : counts.Around) (how : VariableKind) (n m : Note) (more rest : Forest) where
  pub declarator_plugged : (x : Option Tree) → places.plug (to a (in_declaration how n m d more rest)) x ≡ plug a (declaration how n m (plug d (placed x more)) rest)
  declarator_plugged x = plugged a (in_declaration how n m d more rest) x ∙ ap (λ t. plug a (declaration how n m t rest)) (plugged d (first more) x)

  declarator_left : without (to a (in_declaration how n m d more rest)) ≡ plug a (declaration how n m (plug d more) rest)
  declarator_left = left_out a (in_declaration how n m d more rest) ∙ ap (λ t. plug a (declaration how n m t rest)) (left_out d (first more))

  pub declarator_edit : (x : Option Tree) → Edit (places.plug (to a (in_declaration how n m d more rest)) x) (without (to a (in_declaration how n m d more rest)))
      → Edit (plug a (declaration how n m (plug d (placed x more)) rest)) (plug a (declaration how n m (plug d more) rest))
  declarator_edit x e =
      subst (λ u. Edit (plug a (declaration how n m (plug d (placed x more)) rest)) u) declarator_left
      (subst (λ t. Edit t (without (to a (in_declaration how n m d more rest)))) (declarator_plugged x) e)

  pub declarator_asked : is_row d ≡ true → asked_at (asked_of_program true) (to a (in_declaration how n m d more rest)) ≡ asked_below (asked_below (asked_row (asked_of_program true) a) (variable_declaration how)) declarators
  declarator_asked e =
      let w = asked_row (asked_of_program true) a in
      let v = asked_below (asked_below w (variable_declaration how)) declarators in
      asked_to (asked_of_program true) a (in_declaration how n m d more rest) ∙ asked_to v d (first more) ∙ asked_along v d e

  pub declarator_there : (p : Place) → IsItems p a → is_row d ≡ true → IsDeclarator (to a (in_declaration how n m d more rest))
  declarator_there p h e = ap (λ (w : Asked). w.row) (declarator_asked e) ∙ ap (λ r. row_below (row_below r (variable_declaration how)) declarators) h.row_is

  pub declarator_surroundings : (p : Place) → IsItems p a → is_row d ≡ true → surroundings_at (to a (in_declaration how n m d more rest)) ≡ surroundings_below p.ancestors
  declarator_surroundings p h e =
      let w = asked_row (asked_of_program true) a in
      ap surroundings_asked (declarator_asked e) ∙ ap₂ inside_of (or_false (w.in_class || false) ∙ or_false w.in_class) (or_false (w.in_with || false) ∙ or_false w.in_with) ∙ row_surroundings p a h

  pub declarator_other : is_row d ≡ true → (has_before d ≡ true) → has_other false (to a (in_declaration how n m d more rest)) ≡ true
  declarator_other e f = other_under false a (variable_declaration how) n (places.under declarators m (to d (first more)) nothing) rest ∙ other_stands d more e f

  pub declarator_other_behind : is_row d ≡ true → has_node more ≡ true → has_other false (to a (in_declaration how n m d more rest)) ≡ true
  declarator_other_behind e f = other_under false a (variable_declaration how) n (places.under declarators m (to d (first more)) nothing) rest ∙ other_behind false d more e f

  pub declarator_declares : (f : Facts) (p : Place) (x : Tree) → IsItems p a → is_row d ≡ true → Known f (plug a (declaration how n m (plug d (placed (Some x) more)) rest))
      → (stand (to a (in_declaration how n m d more rest)) (Some x)).declaring ≡ Some (scope_of (where_of p) how)
  declarator_declares f p x h e g =
      let b = in_declaration how n m d more rest in
      let list = node declarators m (places.plug (to d (first more)) (Some x)) nothing in
      let whole = node (variable_declaration how) n list rest in
      let outer = whole_stand a whole in
      let q = stand_inside outer (variable_declaration how) n list 0 in
      let known : Known f (plug a whole) = subst (λ t. Known f (plug a (declaration how n m t rest))) (sym (plugged d (first more) (Some x))) g in
      ap (λ (r : Stand). r.declaring) (stand_to a b (Some x)) ∙ ap (λ (r : Stand). r.declaring) (stand_along q 0 d more (Some x) e)
      ∙ declares_there outer (where_of p) (items_same f p a (variable_declaration how) n list rest h known) how
