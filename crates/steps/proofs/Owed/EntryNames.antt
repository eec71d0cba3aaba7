-- A module's export entries have different names where no rule of form is broken: each is under a name that the rules find exported.
use Rattle.std.proofs.Common.{◌≡◌, ◌∙◌, ◌≤◌, ◌+◌, inl, inr, ℕ, suc, List, [], ◌∷◌, ◌++◌, Bool, true, false, true≢false, bytes_eq, Some, None, ◌&&◌, append-nil, if◌then◌else◌, arith, refl, sym, ap}
use Rattle.std.proofs.lemmas.Bool.{and_parts}
use Rattle.std.proofs.lemmas.Slice.Eq.{bytes_eq-Decides}
use Rattle.js_tree.specs.Count.{one_each, node_count}
use Rattle.js_syntax.specs.Class.{Class, root, module_item, a_prologue, no_node, declaration as a_declaration}
use Rattle.js_syntax.specs.Hint.{has, is_private}
use Rattle.js_syntax.specs.declared.scalar.SourceType.{SourceType}
use Rattle.js_syntax.specs.declared.scalar.SourceType.TheVariants as source_type
use Rattle.js_syntax.specs.Table.{Row as TableRow, a_program, an_export_list, an_export_declaration, an_export_from, fields_of}
use Rattle.js_syntax.specs.declared.node_kind.NodeKind.{NodeKind as Kind}
use Rattle.js_syntax.specs.declared.kind.VariableKind.TheVariants as variable
use Rattle.js_syntax.specs.declared.kind.FunctionKind.TheVariants as function_kind
use Rattle.js_syntax.specs.declared.value.ModuleName.{ModuleName}
use Rattle.js_syntax.specs.declared.value.ModuleName.TheVariants.{Name as plain_name, Text as quoted_name}
use Rattle.js_syntax.specs.Node.{Forest, Note, nothing, node, absent, alone}
use Rattle.js_meaning.specs.Value.{Text}
use Rattle.js_meaning.specs.Scope.{Decl, decl, waiting, first_name, named_so, module_text}
use Rattle.js_meaning.specs.Module.{Entry, local_entries, foreign_entries, same_names, names_in, declared_in, declared_entries, list_below, entries_of, entries}
use Rattle.js_meaning_near.specs.Near.{module_of}
use Rattle.js_meaning_near.specs.Reexported.{entry_name}
use Rattle.form_rules.specs.declared.sought.Sort.{Sort}
use Rattle.form_rules.specs.declared.sought.Sort.TheVariants.{Lexical as lexical_sort, Variable as variable_sort}
use Rattle.form_rules.specs.declared.sought.Sought.TheVariants.{Scope as scope_sought}
use Rattle.form_rules.specs.Scope.{Declared, declared, scope_below}
use Rattle.form_rules.specs.Rules.{Exported, exports_of, text_of, named_by, first_below, behind}
use Rattle.json_shape.specs.Shape.{Values, kind_in, places, Fits as ShapeFits, Plan, these, all, all_or_holes, all_of_body, first_place, IsOf, IsAt, Stand}
use Rattle.json_shape.specs.Shape as shape
use Rattle.json_shape.proofs.Choice.{is_list_kind}
use Rattle.steps.specs.KeepForm.Row.{Row, parts, items as items_row, other}
use Rattle.steps.specs.KeepForm.Layout.{are_specifiers_first, stands_right, is_laid_out}
use Rattle.steps.proofs.KeepForm.Laid.{laid_absent, laid_right, laid_below, laid_behind}
use Rattle.steps.proofs.KeepTable.Rows.{no_list}
use Rattle.steps.proofs.KeepTable.Planned.{of_list, behind_list}
use Rattle.steps.specs.Naming.Placed.{program_list, module_items, declared as declared_place, sort_of, place_below, fits, well_placed, has_plain_values}
use Rattle.steps.proofs.Naming.Sites.{placed_here, placed_below, placed_behind}
use Rattle.steps.specs.Fit.Clear.{times}
use Rattle.steps.specs.Fit.Sensible.{IsSensibleModule}
use Rattle.steps.proofs.Fit.Bound.{plain_below, plain_behind, first_among_names, declaration_row}
use Rattle.steps.proofs.Fit.Clashes.{is_let, is_var}
use Rattle.steps.proofs.Fit.Lists.{no_less, occurs, occurs_joined, named, count}
use Rattle.steps.proofs.Owed.Exported.{Lacks, Distinct, names_of, shown_by, shown}

abbrev pub entry_names : List Entry → List Text
entry_names [] = []
entry_names (e ∷ es) = entry_name e ∷ entry_names es

pub entries_joined : (es fs : List Entry) → entry_names (es ++ fs) ≡ entry_names es ++ entry_names fs
entries_joined [] fs = refl
entries_joined (e ∷ es) fs = ap (λ l. entry_name e ∷ l) (entries_joined es fs)

same_text : (m : ModuleName) → module_text m ≡ text_of m
same_text (plain_name s) = refl
same_text (quoted_name s) = refl

of_same : (xs : List Text) → entry_names (same_names xs) ≡ xs
of_same [] = refl
of_same (x ∷ xs) = ap (λ l. x ∷ l) (of_same xs)

-- the first of a row is no list
abbrev NoListFirst : Forest → Type 0
NoListFirst (node k n a r) = is_list_kind k ≡ false
NoListFirst t = Unit {0}

abbrev is_export : Kind → Bool
is_export (Kind.ExportNamedDeclaration source) = true
is_export k = false

-- ---- how often a name comes

module _ (x : Text) where
  occurs_names : (es fs : List Exported) → occurs x (names_of (es ++ fs)) ≡ occurs x (names_of es) + occurs x (names_of fs)
  occurs_names [] fs = Prim.omega arith
  occurs_names (e ∷ es) fs = Prim.omega (arith, occurs_names es fs)

  times_names : (ds : List Decl) → occurs x (names_in ds) ≡ times x ds
  times_names [] = refl
  times_names (decl y way ∷ ds) = Prim.omega (arith, times_names ds)

  counted : (f : Sort → Bool) (p : ℕ) (ds : List Declared) → count (named f x) ds ≤ occurs x (names_of (exports_of p ds))
  counted f p [] = Prim.omega arith
  counted f p (d ∷ ds) = Prim.omega (arith, counted f p ds, less (bytes_eq d.name x) (f d.sort))
    where
      less : (b c : Bool) → (if b && c then 1 else 0) ≤ (if b then 1 else 0)
      less true true = Prim.omega arith
      less true false = Prim.omega arith
      less false c = Prim.omega arith

  local_names : (t : Forest) → occurs x (entry_names (local_entries t)) ≤ occurs x (names_of (named_by 0 t))
  local_names nothing = Prim.omega arith
  local_names (absent r) = local_names r
  local_names (node (Kind.ExportSpecifier exported) n (node (Kind.ReferenceName y) m b c) r) = Prim.omega (arith, local_names r, ap {B = ℕ} (λ y. if bytes_eq y x then 1 else 0) (same_text exported))
  local_names (node (Kind.ExportSpecifier exported) n a r) = Prim.omega (arith, local_names r)
  local_names (node (Kind.ForeignSpecifier name exported) n a r) = Prim.omega (arith, local_names r)
  local_names (node k n a r) = local_names r

  foreign_names : (source : Text) (t : Forest) → occurs x (entry_names (foreign_entries source t)) ≤ occurs x (names_of (named_by 0 t))
  foreign_names source nothing = Prim.omega arith
  foreign_names source (absent r) = foreign_names source r
  foreign_names source (node (Kind.ForeignSpecifier name exported) n a r) = Prim.omega (arith, foreign_names source r, ap {B = ℕ} (λ y. if bytes_eq y x then 1 else 0) (same_text exported))
  foreign_names source (node (Kind.ExportSpecifier exported) n a r) = Prim.omega (arith, foreign_names source r)
  foreign_names source (node k n a r) = foreign_names source r

  -- a declaration of an export
  declared_names : (q : ℕ) (k : Kind) (a : Forest) → fits declared_place (sort_of k) ≡ true → well_placed (place_below declared_place k) 0 a ≡ true → has_plain_values a ≡ true
      → occurs x (declared_in k a) ≤ occurs x (names_of (exports_of 0 (declared (scope_below lexical_sort k) q a)))
  declared_names q (Kind.VariableDeclaration variable.Var) a h w v = Prim.omega (arith, declaration_row x is_var variable_sort refl 0 q a w v, counted is_var 0 (declared (scope_below lexical_sort (Kind.VariableDeclaration variable.Var)) q a))
  declared_names q (Kind.VariableDeclaration variable.Let) a h w v = Prim.omega (arith, declaration_row x is_let lexical_sort refl 0 q a w v, counted is_let 0 (declared (scope_below lexical_sort (Kind.VariableDeclaration variable.Let)) q a))
  declared_names q (Kind.VariableDeclaration variable.Const) a h w v = Prim.omega (arith, declaration_row x is_let lexical_sort refl 0 q a w v, counted is_let 0 (declared (scope_below lexical_sort (Kind.VariableDeclaration variable.Const)) q a))
  declared_names q (Kind.Function function_kind.Declaration pure) a h w v =
      Prim.omega (
        arith,
        times_names (named_so (waiting false) (first_name a) ++ []),
        ap (times x) (append-nil (named_so (waiting false) (first_name a))),
        first_among_names x is_let lexical_sort refl (waiting false) q a,
        counted is_let 0 (declared (scope_below lexical_sort (Kind.Function function_kind.Declaration pure)) q a),
      )
  declared_names q (Kind.Function function_kind.Expression pure) a h w v = no_less _
  declared_names q (Kind.Function function_kind.Arrow pure) a h w v = no_less _
  declared_names q (Kind.Class how) a h w v = absurd (true≢false (sym h))
  declared_names q (Kind.ImportDeclaration source) a h w v = absurd (true≢false (sym h))
  declared_names q (Kind.ExportNamedDeclaration source) a h w v = absurd (true≢false (sym h))
  declared_names q Kind.ExportDefaultDeclaration a h w v = absurd (true≢false (sym h))
  declared_names q Kind.FunctionBody a h w v = absurd (true≢false (sym h))
  declared_names q Kind.Statements a h w v = absurd (true≢false (sym h))
  declared_names q Kind.Cases a h w v = absurd (true≢false (sym h))
  declared_names q Kind.SwitchCase a h w v = absurd (true≢false (sym h))
  declared_names q k a h w v = no_less _

  first_names : (a : Forest) → well_placed (λ i. declared_place) 0 a ≡ true → has_plain_values a ≡ true → occurs x (entry_names (declared_entries a)) ≤ occurs x (names_of (exports_of 0 (declared (scope_sought lexical_sort) 0 a)))
  first_names nothing w v = Prim.omega arith
  first_names (absent r) w v = no_less _
  first_names (node k n a r) w v =
      let ds = declared (scope_below lexical_sort k) (0 + one_each k) a in
      let es = declared (scope_sought lexical_sort) (0 + node_count (alone k n a)) r in
      Prim.omega (
        arith,
        ap (occurs x) (of_same (declared_in k a)),
        declared_names (0 + one_each k) k a (placed_here (λ i. declared_place) 0 k n a r w) (placed_below (λ i. declared_place) 0 k n a r w) (plain_below k n a r v),
        ap (occurs x) (exports_joined ds es),
        occurs_joined x (names_of (exports_of 0 ds)) (names_of (exports_of 0 es)),
      )
    where
      exports_joined : (ds es : List Declared) → names_of (exports_of 0 (ds ++ es)) ≡ names_of (exports_of 0 ds) ++ names_of (exports_of 0 es)
      exports_joined [] es = refl
      exports_joined (d ∷ ds) es = ap (λ l. d.name ∷ l) (exports_joined ds es)

  -- the list of an export stands second
  list_first : (t : Forest) → are_specifiers_first t ≡ true → list_below t ≡ first_below t
  list_first (node Kind.Specifiers n a r) h = refl
  list_first nothing h = absurd (true≢false (sym h))
  list_first (absent r) h = absurd (true≢false (sym h))
  list_first (node k n a r) h = absurd (true≢false (sym h))

  past_first : (k : Kind) (n : Note) (a r : Forest) → is_list_kind k ≡ false → list_below (node k n a r) ≡ list_below r
  past_first Kind.Specifiers n a r h = absurd (true≢false h)
  past_first k n a r h = refl

  list_second : (a : Forest) → NoListFirst a → are_specifiers_first (behind a) ≡ true → list_below a ≡ first_below (behind a)
  list_second nothing first h = absurd (true≢false (sym h))
  list_second (absent r) first h = list_first r h
  list_second (node k n a r) first h = past_first k n a r first ∙ list_first r h

  node_names : (k : Kind) (row : Row) (a : Forest) → well_placed (place_below module_items k) 0 a ≡ true → has_plain_values a ≡ true → stands_right row k a ≡ true → (is_export k ≡ true → NoListFirst a) → occurs x (entry_names (entries_of k a)) ≤ occurs x (shown_by k a)
  node_names (Kind.ExportNamedDeclaration None) row a w v right first =
      let ds = exports_of 0 (declared (scope_sought lexical_sort) 0 a) in
      let list = first_below (behind a) in
      Prim.omega (
        arith,
        ap (λ t. occurs x (entry_names (declared_entries a ++ local_entries t))) (list_second a (first refl) right),
        ap (occurs x) (entries_joined (declared_entries a) (local_entries list)),
        occurs_joined x (entry_names (declared_entries a)) (entry_names (local_entries list)),
        first_names a w v,
        local_names list,
        occurs_names ds (named_by 0 list),
      )
  node_names (Kind.ExportNamedDeclaration (Some source)) row a w v right first =
      let ds = exports_of 0 (declared (scope_sought lexical_sort) 0 a) in
      let list = first_below (behind a) in
      Prim.omega (arith, ap (λ t. occurs x (entry_names (foreign_entries source t))) (list_second a (first refl) right), foreign_names source list, occurs_names ds (named_by 0 list))
  node_names Kind.ExportDefaultDeclaration row a w v right first = Prim.omega arith
  node_names (Kind.ExportAllDeclaration (Some exported) source) row a w v right first = Prim.omega (arith, ap {B = ℕ} (λ y. if bytes_eq y x then 1 else 0) (same_text exported))
  node_names (Kind.ExportAllDeclaration None source) row a w v right first = Prim.omega arith
  node_names k row a w v right first = no_less _

-- ---- what lies below an export begins with no list

of_class : (k : Kind) (below : Forest) (c : Class) → IsOf k below (λ p. Stand p below) c → is_list_kind k ≡ false
of_class k below c of = ap is_list_kind of.4 ∙ no_list of.0 of.1

row_first : (k : Kind) → is_export k ≡ true → (private : Bool) (r : TableRow) (vs : Values (fields_of r)) → k ≡ kind_in r vs → (a : Forest) → Stand (these (places private (fields_of r) vs)) a → NoListFirst a
row_first k e private an_export_list vs is nothing h = tt
row_first k e private an_export_list vs is (absent r) h = tt
row_first k e private an_export_list vs is (node l n b r) h = of_class l b no_node h.0
row_first k e private an_export_declaration vs is nothing h = tt
row_first k e private an_export_declaration vs is (absent r) h = tt
row_first k e private an_export_declaration vs is (node l n b r) h = of_class l b a_declaration h.0
row_first k e private an_export_from vs is nothing h = tt
row_first k e private an_export_from vs is (absent r) h = tt
row_first k e private an_export_from vs is (node l n b r) h = of_class l b no_node h.0
row_first k e private r vs is a h = absurd (true≢false (sym e ∙ ap is_export is))

class_first : (k : Kind) (a : Forest) (c : Class) → IsOf k a (λ p. Stand p a) c → is_export k ≡ true → NoListFirst a
class_first k a c of e = row_first k e (has is_private a) of.0 of.1 of.4 a of.5

item_first : (plan : Plan) (k : Kind) (a : Forest) → of_list plan ≡ true → IsAt k a (λ p. Stand p a) (first_place plan) → is_export k ≡ true → NoListFirst a
item_first (these ps) k a listed at e = absurd (true≢false (sym listed))
item_first (all c) k a listed of e = class_first k a c of e
item_first (all_or_holes c) k a listed (inl at) e = absurd (true≢false (sym e ∙ ap is_export at.0))
item_first (all_or_holes c) k a listed (inr of) e = class_first k a c of e
item_first (all_of_body c) k a listed (inl of) e = class_first k a a_prologue of e
item_first (all_of_body c) k a listed (inr at) e = class_first k a c at.1 e

-- ---- a row of items

row_names : (x : Text) (plan : Plan) (row : Row) (at : ℕ) (r : Forest) → of_list plan ≡ true → well_placed (λ i. module_items) at r ≡ true → has_plain_values r ≡ true → is_laid_out row r ≡ true → Stand plan r
    → occurs x (entry_names (entries r)) ≤ occurs x (shown r)
row_names x plan row at nothing listed w v laid h = Prim.omega arith
row_names x plan row at (absent r) listed w v laid h = row_names x (shape.behind plan Kind.Hole) row (suc at) r (behind_list plan Kind.Hole listed) w v (laid_absent row r laid) h.1
row_names x plan row at (node k n a r) listed w v laid h =
    Prim.omega (
      arith,
      ap (occurs x) (entries_joined (entries_of k a) (entries r)),
      occurs_joined x (entry_names (entries_of k a)) (entry_names (entries r)),
      node_names x k row a (placed_below (λ i. module_items) at k n a r w) (plain_below k n a r v) (laid_right row k n a r laid) (item_first plan k a listed h.0),
      row_names x (shape.behind plan k) row (suc at) r (behind_list plan k listed) (placed_behind (λ i. module_items) at k n a r w) (plain_behind k n a r v) (laid_behind row k n a r laid) h.1,
      occurs_joined x (shown_by k a) (shown r),
    )

-- ---- lists without equal names

lacks_none : (x y : Text) (ys : List Text) → bytes_eq y x ≡ true → Lacks ys y → occurs x ys ≡ 0
lacks_none x y [] e h = refl
lacks_none x y (z ∷ ys) e h = by (bytes_eq z x) refl (lacks_none x y ys e h.1)
  where
    by : (b : Bool) → bytes_eq z x ≡ b → occurs x ys ≡ 0 → (if b then 1 else 0) + occurs x ys ≡ 0
    by true f g = absurd (true≢false (sym ((bytes_eq-Decides z y).1 ((bytes_eq-Decides z x).0 f ∙ sym ((bytes_eq-Decides y x).0 e))) ∙ h.0))
    by false f g = Prim.omega (arith, g)

once_each : (ys : List Text) → Distinct ys → (x : Text) → occurs x ys ≤ 1
once_each [] h x = Prim.omega arith
once_each (y ∷ ys) h x = by (bytes_eq y x) refl (once_each ys h.1 x)
  where
    by : (b : Bool) → bytes_eq y x ≡ b → occurs x ys ≤ 1 → (if b then 1 else 0) + occurs x ys ≤ 1
    by true e g = Prim.omega (arith, lacks_none x y ys e h.0)
    by false e g = Prim.omega (arith, g)

none_lacks : (x : Text) (ys : List Text) → occurs x ys ≡ 0 → Lacks ys x
none_lacks x [] h = tt
none_lacks x (y ∷ ys) h = by (bytes_eq y x) refl h (λ g. none_lacks x ys g)
  where
    by : (b : Bool) → bytes_eq y x ≡ b → (if b then 1 else 0) + occurs x ys ≡ 0 → (occurs x ys ≡ 0 → Lacks ys x) → (bytes_eq y x ≡ false) × Lacks ys x
    by true e g more = absurd (Prim.omega (arith, g))
    by false e g more = (e, more (Prim.omega (arith, g)))

apart_once : (xs : List Text) → ((x : Text) → occurs x xs ≤ 1) → Distinct xs
apart_once [] h = tt
apart_once (x ∷ xs) h =
    (none_lacks x xs (Prim.omega (arith, h x, ap (λ b. (if b then 1 else 0) + occurs x xs) ((bytes_eq-Decides x x).1 refl))), apart_once xs (λ y. Prim.omega (arith, h y)))

-- ---- a module

abbrev is_program : Kind → Bool
is_program (Kind.Program source) = true
is_program k = false

program_row : (source : SourceType) (private : Bool) (row : TableRow) (vs : Values (fields_of row)) → Kind.Program source ≡ kind_in row vs → (m : Note) (r : Forest) → Stand (these (places private (fields_of row) vs)) (node Kind.Statements m r nothing) → Stand (all_of_body module_item) r
program_row source private a_program vs is m r h = h.0.1
program_row source private row vs is m r h = absurd (true≢false (ap is_program is))

module_row : (n m : Note) (r : Forest) → ShapeFits root (module_of n m r) → Stand (all_of_body module_item) r
module_row n m r h = program_row source_type.Module (has is_private (node Kind.Statements m r nothing)) h.0.0 h.0.1 h.0.4 m r h.0.5

-- its entries have different names
pub entries_apart : (n m : Note) (r : Forest) → IsSensibleModule (module_of n m r) → Distinct (shown r) → Distinct (entry_names (entries r))
entries_apart n m r h apart =
    let list = node Kind.Statements m r nothing in
    let placed = and_parts (well_placed (λ i. program_list) 0 list) (has_plain_values list) h.placed in
    let items = (and_parts (well_placed (λ i. module_items) 0 r) true placed.0).0 in
    let plain = plain_below Kind.Statements m r nothing placed.1 in
    let laid = laid_below parts Kind.Statements m r nothing (laid_below other (Kind.Program source_type.Module) n list nothing h.sensible.laid_out) in
    apart_once (entry_names (entries r)) (λ x. Prim.omega (arith, row_names x (all_of_body module_item) items_row 0 r refl items plain laid (module_row n m r h.sensible.fits), once_each (shown r) apart x))
