-- A declaration of a name that nothing uses becomes a statement of its value by a single edit.
use Rattle.std.proofs.Common.{◌≡◌, ◌∙◌, ◌≤◌, ◌+◌, ℕ, List, Bool, true, false, not, ◌&&◌, if◌then◌else◌, Some, None, true≢false, refl, sym, ap, subst, arith}
use Rattle.std.proofs.lemmas.Bool.{and_parts}
use Rattle.js_syntax.specs.declared.node_kind.NodeKind.{NodeKind as Kind}
use Rattle.js_syntax.specs.declared.node_kind.NodeKind.TheVariants.{Statements as statements, ExpressionStatement as expression_statement, VariableDeclaration as variable_declaration, VariableDeclarator as variable_declarator, Declarators as declarators, BindingName as binding_name}
use Rattle.js_syntax.specs.declared.kind.VariableKind.{VariableKind}
use Rattle.js_syntax.specs.Facts as facts
use Rattle.js_syntax.specs.Node.{Forest, Tree, Note, nothing, node, alone, forest_of, total}
use Rattle.js_syntax.proofs.Truth.{not_true}
use Rattle.min_context.specs.Above.{parent_of, above_of}
use Rattle.min_context.specs.Place.{told_of, Place, Spot, place_below, place_of, next_of, below, top, spot, place_at, goes_on}
use Rattle.min_context.specs.declared.ancestor.Ancestor.TheVariants.{Field as field}
use Rattle.min_pass.specs.declared.around.Around.{Around as Asked}
use Rattle.min_pass.specs.declared.around.Row.{Row}
use Rattle.min_pass.specs.declared.around.Row.TheVariants.{Items as items, OfItem as of_item, Declarators as item_declarators, Other as other}
use Rattle.min_pass.specs.Around.{row_below, entered as asked_below, outermost as asked_of_program}
use Rattle.min_pass.specs.Pass.{unmarked}
use Rattle.scope_laws.specs.Place.{first}
use Rattle.scope_laws.proofs.Bindings.{same_value}
use Rattle.scope_counts.specs.Counts.{ids}
use Rattle.scope_counts.specs.Edits as counts
use Rattle.scope_counts.specs.Edits.{plug}
use Rattle.steps.specs.KeepForm.Part.{declares_one}
use Rattle.steps.specs.Allowed.EmptyIf.{statement_of}
use Rattle.steps.specs.Allowed.Edits.{Edit, becomes, value_stays}
use Rattle.steps.specs.Allowed.Places.{asked_at}
use Rattle.steps.specs.Allowed.ValueStays.{may_be_stated, declaration_of_value, ValueStays, value_is_stated}
use Rattle.steps.specs.Marked.Flags.{declares_in, stand}
use Rattle.rules.specs.DeadCode.Rules as rules
use Rattle.rules.specs.DeadCode.Rules.{Facts, where_of, has_with, scope_of, variable_is_unused, is_item_under, is_item, name_is_unused, value_of_stays, value_of_one_stays, value_in_stays, value_of_list_stays, becomes_stated, value_below, stated}
use Rattle.rules.specs.DeadCode.Knows.{Knows}
use Rattle.rules.proofs.DeadCode.LaidOut.{fits_laid}
use Rattle.rules.proofs.DeadCode.Places.{to, asked_to, with_is}
use Rattle.rules.proofs.DeadCode.Numbers.{declares_there, whole_stand, numbers, stand_to}
use Rattle.rules.proofs.DeadCode.Leaving.{declaration_unused}
use Rattle.rules.proofs.DeadCode.Items.{becomes_there, knows_there}
use Rattle.rules.proofs.DeadCode.Splitting.{is_items}
use Rattle.rules.proofs.DeadCode.Bodies.{nearest_last}

wrong : {P : Type 0} → false ≡ true → P
wrong e = absurd (true≢false (sym e))

-- ---- what is stated

-- of a row below a node, which stands for the declaration of one name
record Declares (f : Facts) (scope : ℕ) (t : Forest) : Type 0 where
  list_note : Note
  declarator_note : Note
  name_note : Note
  value_note : Note
  name : List ℕ
  kind : Kind
  below : Forest
  is : declares_one list_note declarator_note name_note name (alone kind value_note below) ≡ t
  unused : variable_is_unused f scope name_note.id ≡ true
  may : may_be_stated kind below ≡ true

record Declarator (f : Facts) (scope : ℕ) (t : Forest) : Type 0 where
  declarator_note : Note
  name_note : Note
  value_note : Note
  name : List ℕ
  kind : Kind
  below : Forest
  is : alone variable_declarator declarator_note (node (binding_name name) name_note nothing (alone kind value_note below)) ≡ t
  unused : variable_is_unused f scope name_note.id ≡ true
  may : may_be_stated kind below ≡ true

-- the name of a declarator
record Name (f : Facts) (scope : ℕ) (t : Kind) (n : Note) (a : Forest) : Type 0 where
  name : List ℕ
  is : (rest : Forest) → node (binding_name name) n nothing rest ≡ node t n a rest
  unused : variable_is_unused f scope n.id ≡ true

one_name : (f : Facts) (scope : ℕ) (t : Kind) (n : Note) (a : Forest) → name_is_unused f scope t n a ≡ true → Name f scope t n a
one_name f scope (binding_name x) n nothing e = record { name = x; is = λ rest. refl; unused = e }
one_name f scope t n a e = wrong e

declarator_parts : (f : Facts) (scope : ℕ) (l : Note) (parts : Forest) → rules.value_stays f scope parts ≡ true → Declarator f scope (alone variable_declarator l parts)
declarator_parts f scope l (node t n a (node k i b nothing)) e =
    let both = and_parts (name_is_unused f scope t n a) (may_be_stated k b) e in
    let o = one_name f scope t n a both.0 in
    record { declarator_note = l; name_note = n; value_note = i; name = o.name; kind = k; below = b; is = ap (alone variable_declarator l) (o.is (alone k i b)); unused = o.unused; may = both.1 }
declarator_parts f scope l parts e = wrong e

declarator_of : (f : Facts) (scope : ℕ) (k : Kind) (l : Note) (parts : Forest) → value_of_stays f scope k parts ≡ true → Declarator f scope (alone k l parts)
declarator_of f scope variable_declarator l parts e = declarator_parts f scope l parts e
declarator_of f scope k l parts e = wrong e

one_declarator : (f : Facts) (scope : ℕ) (ds : Forest) → value_of_one_stays f scope ds ≡ true → Declarator f scope ds
one_declarator f scope (node k l parts nothing) e = declarator_of f scope k l parts e
one_declarator f scope ds e = wrong e

in_list : (f : Facts) (scope : ℕ) (m : Note) (ds : Forest) → Declarator f scope ds → Declares f scope (alone declarators m ds)
in_list f scope m ds d =
    record { list_note = m; declarator_note = d.declarator_note; name_note = d.name_note; value_note = d.value_note; name = d.name; kind = d.kind; below = d.below; is = ap (λ t. alone declarators m t) d.is; unused = d.unused; may = d.may }

list_of : (f : Facts) (scope : ℕ) (k : Kind) (m : Note) (ds : Forest) → value_in_stays f scope k ds ≡ true → Declares f scope (alone k m ds)
list_of f scope declarators m ds e = in_list f scope m ds (one_declarator f scope ds e)
list_of f scope k m ds e = wrong e

one_list : (f : Facts) (scope : ℕ) (t : Forest) → value_of_list_stays f scope t ≡ true → Declares f scope t
one_list f scope (node k m ds nothing) e = list_of f scope k m ds e
one_list f scope t e = wrong e

-- of a node at a place, and of what it becomes
pub record States (f : Facts) (p : Place) (x y : Tree) : Type 0 where
  pub how : VariableKind
  pub list_note : Note
  pub declarator_note : Note
  pub name_note : Note
  pub value_note : Note
  pub name : List ℕ
  pub kind : Kind
  pub below : Forest
  pub old : declaration_of_value how x.note list_note declarator_note name_note value_note name kind below ≡ x
  pub new : statement_of (unmarked x.note) value_note kind below ≡ y
  pub item : is_item p ≡ true
  pub without : (where_of p).in_with ≡ false
  pub unused : variable_is_unused f (scope_of (where_of p) how) name_note.id ≡ true
  pub may : may_be_stated kind below ≡ true

abbrev statement_with : Note → (below : Forest) → Tree
statement_with n below = record { kind = expression_statement; note = n; below = below }

abbrev declaration_with : VariableKind → Note → (below : Forest) → Tree
declaration_with how n below = record { kind = variable_declaration how; note = n; below = below }

states_kind : (f : Facts) (p : Place) (k : Kind) (n : Note) (b : Forest) (y : Tree) → becomes_stated f p k b ≡ true → statement_with (unmarked n) (value_below b) ≡ y → (let x : Tree = record { kind = k; note = n; below = b } in States f p x y)
states_kind f p (variable_declaration how) n b y e is =
    let w = where_of p in
    let lists = value_of_list_stays f (scope_of w how) b in
    let at_place = and_parts (is_item p) (not w.in_with && lists) e in
    let at_list = and_parts (not w.in_with) lists at_place.1 in
    let d = one_list f (scope_of w how) b at_list.1 in
    record {
      how = how;
      list_note = d.list_note;
      declarator_note = d.declarator_note;
      name_note = d.name_note;
      value_note = d.value_note;
      name = d.name;
      kind = d.kind;
      below = d.below;
      old = ap (λ t. declaration_with how n t) d.is;
      new = ap (λ t. statement_with (unmarked n) (value_below t)) d.is ∙ is;
      item = at_place.0;
      without = not_true w.in_with at_list.0;
      unused = d.unused;
      may = d.may;
    }
states_kind f p k n b y e is = wrong e

states_if : (f : Facts) (p : Place) (x y : Tree) (b : Bool) → becomes_stated f p x.kind x.below ≡ b → (if b then Some (statement_with (unmarked x.note) (value_below x.below)) else None) ≡ Some y → States f p x y
states_if f p x y true e is = states_kind f p x.kind x.note x.below y e (same_value is)
states_if f p x y false e is = absurd cc

pub states : (f : Facts) (p : Place) (x y : Tree) → stated f p x ≡ Some y → States f p x y
states f p x y is = states_if f p x y (becomes_stated f p x.kind x.below) refl is

-- ---- the place

items_is : (r : Row) → is_items r ≡ true → r ≡ items
items_is items e = refl
items_is of_item e = wrong e
items_is item_declarators e = wrong e
items_is other e = wrong e

item_of_field : (r : Row) (k : Kind) (at : ℕ) (previous more : Bool) → is_item_under (field (told_of (parent_of k) at previous more) at) ≡ is_items (row_below r k)
item_of_field items statements at previous more = refl
item_of_field of_item statements at previous more = refl
item_of_field item_declarators statements at previous more = refl
item_of_field other statements at previous more = refl
item_of_field items (variable_declaration how) at previous more = refl
item_of_field of_item declarators at previous more = refl
item_of_field items k at previous more = refl
item_of_field of_item k at previous more = refl
item_of_field item_declarators k at previous more = refl
item_of_field other k at previous more = refl

item_row : (w : Asked) (s : Spot) (a : counts.Around) (rest : Forest) → ((at : ℕ) (previous more : Bool) → is_items w.row ≡ is_item (place_below s.outer s.above at previous more)) → is_items (asked_at w (to a (first rest))).row ≡ is_item (place_of (spot s a) (goes_on rest))
item_row w s counts.here rest h = h s.at s.previous (goes_on rest)
item_row w s (counts.behind k n b a) rest h = item_row w (next_of s true) a rest h
item_row w s (counts.behind_none a) rest h = item_row w (next_of s false) a rest h
item_row w s (counts.under k n a beside) rest h =
    let p = place_of s (goes_on beside) in
    item_row (asked_below w k) (below p (above_of k n)) a rest
    (λ at previous more. sym (item_of_field w.row k at previous more) ∙ ap is_item_under (sym (nearest_last p.ancestors (field (told_of (parent_of k) at previous more) at))))

pub is_item_there : (a : counts.Around) (rest : Forest) → is_items (asked_at (asked_of_program true) (to a (first rest))).row ≡ is_item (place_at a (goes_on rest))
is_item_there a rest = item_row (asked_of_program true) top a rest (λ at previous more. refl)

pub with_there : (a : counts.Around) (rest : Forest) → (asked_at (asked_of_program true) (to a (first rest))).in_with ≡ has_with (place_at a (goes_on rest)).ancestors
with_there a rest = ap (λ (w : Asked). w.in_with) (asked_to (asked_of_program true) a (first rest)) ∙ with_is a (goes_on rest)

-- ---- so the value stays there by an edit

pub declares_at : (f : Facts) (marked : ℕ → Bool) (a : counts.Around) (x : Tree) (rest : Forest) → Knows f marked (plug a (node x.kind x.note x.below rest)) → (how : VariableKind)
    → declares_in (stand (to a (first rest)) (Some x)) how ≡ Some (scope_of (where_of (place_at a (goes_on rest))) how)
declares_at f marked a x rest h how =
    let row = node x.kind x.note x.below rest in
    ap (λ q. declares_in q how) (stand_to a (first rest) (Some x))
    ∙ declares_there (whole_stand a row) (where_of (place_at a (goes_on rest))) (numbers f.scoping a x.kind x.note x.below rest (fits_laid (plug a row) h.fits) h.flags h.outermost) how

one_stays : (f : Facts) (marked : ℕ → Bool) (a : counts.Around) (rest : Forest) (how : VariableKind) (n m l j i : Note) (x : List ℕ) (k : Kind) (b : Forest)
    → (let v = alone k i b in let d = declaration_of_value how n m l j i x k b in
    Knows f marked (plug a (node d.kind d.note d.below rest)) → is_item (place_at a (goes_on rest)) ≡ true → (where_of (place_at a (goes_on rest))).in_with ≡ false → variable_is_unused f (scope_of (where_of (place_at a (goes_on rest))) how) j.id ≡ true → may_be_stated k b ≡ true
    → ValueStays (to a (first rest)) d (statement_of (unmarked n) i k b))
one_stays f marked a rest how n m l j i x k b h item without unused may =
    let d = declaration_of_value how n m l j i x k b in
    let here_ = to a (first rest) in
    let o = declaration_unused f marked (scope_of (where_of (place_at a (goes_on rest))) how) here_ how n m l j x (alone k i b) (knows_there f marked a (first rest) (Some d) h) (declares_at f marked a d rest h how) unused in
    value_is_stated how n m l j i (unmarked n) x k b may (items_is (asked_at (asked_of_program true) here_).row (is_item_there a rest ∙ item)) (with_there a rest ∙ without) o.own o.free

pub value_stated : (f : Facts) (marked : ℕ → Bool) (a : counts.Around) (x y : Tree) (rest : Forest) → Knows f marked (plug a (node x.kind x.note x.below rest)) → stated f (place_at a (goes_on rest)) x ≡ Some y → ValueStays (to a (first rest)) x y
value_stated f marked a x y rest h is =
    let o = states f (place_at a (goes_on rest)) x y is in
    let d = declaration_of_value o.how x.note o.list_note o.declarator_note o.name_note o.value_note o.name o.kind o.below in
    let s = statement_of (unmarked x.note) o.value_note o.kind o.below in
    subst (λ z. ValueStays (to a (first rest)) x z) o.new
    (subst (λ z. ValueStays (to a (first rest)) z s) o.old
    (one_stays f marked a rest o.how x.note o.list_note o.declarator_note o.name_note o.value_note o.name o.kind o.below
    (subst (λ (z : Tree). Knows f marked (plug a (node z.kind z.note z.below rest))) (sym o.old) h) o.item o.without o.unused o.may))

pub value_stays_there : (f : Facts) (marked : ℕ → Bool) (a : counts.Around) (x y : Tree) (rest : Forest) → Knows f marked (plug a (node x.kind x.note x.below rest)) → stated f (place_at a (goes_on rest)) x ≡ Some y
    → Edit (plug a (node x.kind x.note x.below rest)) (plug a (node y.kind y.note y.below rest))
value_stays_there f marked a x y rest h is = becomes_there a (Some x) (Some y) rest (becomes (to a (first rest)) x y (value_stays (value_stated f marked a x y rest h is)))

-- ---- and less is there then

pub stated_is_lighter : (f : Facts) (p : Place) (x y : Tree) → stated f p x ≡ Some y → total facts.weight (forest_of y) + 1 ≤ total facts.weight (forest_of x)
stated_is_lighter f p x y e =
    let o = states f p x y e in
    let less : total facts.weight (forest_of (statement_of (unmarked x.note) o.value_note o.kind o.below)) + 1 ≤ total facts.weight (forest_of (declaration_of_value o.how x.note o.list_note o.declarator_note o.name_note o.value_note o.name o.kind o.below)) = Prim.omega arith in
    subst (λ (t : Tree). total facts.weight (forest_of t) + 1 ≤ total facts.weight (forest_of x)) o.new
    (subst (λ (t : Tree). total facts.weight (forest_of (statement_of (unmarked x.note) o.value_note o.kind o.below)) + 1 ≤ total facts.weight (forest_of t)) o.old less)

pub stated_sheds : (f : Facts) (p : Place) (x y : Tree) → stated f p x ≡ Some y → (r : ℕ) → ids r (forest_of y) ≤ ids r (forest_of x)
stated_sheds f p x y e r =
    let o = states f p x y e in
    let less : ids r (forest_of (statement_of (unmarked x.note) o.value_note o.kind o.below)) ≤ ids r (forest_of (declaration_of_value o.how x.note o.list_note o.declarator_note o.name_note o.value_note o.name o.kind o.below)) = Prim.omega arith in
    subst (λ (t : Tree). ids r (forest_of t) ≤ ids r (forest_of x)) o.new
    (subst (λ (t : Tree). ids r (forest_of (statement_of (unmarked x.note) o.value_note o.kind o.below)) ≤ ids r (forest_of t)) o.old less)
