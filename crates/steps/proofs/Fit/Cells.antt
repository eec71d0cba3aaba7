-- Which declarations have cells of their own.
use Rattle.std.proofs.Common.{◌≡◌, ◌≤◌, inl, inr, ℕ, suc, ◌+◌, List, [], ◌∷◌, ◌++◌, Bool, true, false, ◌||◌, if◌then◌else◌, Option, Some, None, codes, refl, sym, true≢false}
use Rattle.std.specs.Str.{bytes_eq}
use Rattle.js_syntax.specs.declared.node_kind.NodeKind.{NodeKind as Kind}
use Rattle.js_syntax.specs.declared.kind.VariableKind.TheVariants as variable
use Rattle.js_syntax.specs.declared.kind.FunctionKind.{FunctionKind}
use Rattle.js_syntax.specs.declared.kind.FunctionKind.TheVariants as function_kind
use Rattle.js_syntax.specs.declared.kind.ClassKind.TheVariants as class_kind
use Rattle.js_syntax.specs.Node.{Forest, nothing, node, absent}
use Rattle.js_meaning.specs.Value.{Text, this_name}
use Rattle.js_meaning.specs.Scope.{Way, waiting, ready, linked, left_out, Decl, decl, first_of, behind, declared_name, first_name, names_of, bound_names, vars_of, var_names, all_so, named_so, module_text, specifier_decls, import_decls, or_default, default_name, item_decls, lexical, receiver_decls, function_decls}
use Rattle.js_meaning.specs.Module.{names_in}
use Rattle.js_meaning_near.specs.Names.{HasCell}
use Rattle.js_meaning_near.specs.Avoid.{CellIf, HasCells}
use Rattle.steps.specs.Names.{is_among}
use Rattle.steps.specs.Naming.Placed.{Place, code, lists, items, program_list, an_import, an_export, a_case, the_cases, sort_of, place_below, statements_place, fits, well_placed}
use Rattle.steps.proofs.Naming.Taking.{never_fits}
use Rattle.steps.proofs.Naming.Sites.{placed_here, placed_below, placed_behind}
use Rattle.std.proofs.lemmas.Bool.{or_cases}
use Rattle.steps.specs.Fit.Clear.{times}
use Rattle.steps.proofs.Fit.Lists.{one_here, one_more, is_same}
use Rattle.steps.proofs.Fit.Contexts.{OkName, OkAt, AllOk}

-- ---- lists with cells

pub cell_if : (b : Bool) (way : Way) → HasCell way → CellIf b way
cell_if true way h = h
cell_if false way h = tt

no_cell_asked : (b : Bool) (way : Way) → b ≡ false → CellIf b way
no_cell_asked true way h = absurd (true≢false h)
no_cell_asked false way h = tt

pub cells_joined : (x : Text) (ds es : List Decl) → HasCells x ds → HasCells x es → HasCells x (ds ++ es)
cells_joined x [] es h g = g
cells_joined x (decl y way ∷ ds) es h g = (h.0, cells_joined x ds es h.1 g)

pub cells_so : (x : Text) (way : Way) (xs : List Text) → HasCell way → HasCells x (all_so way xs)
cells_so x way [] h = tt
cells_so x way (y ∷ xs) h = (cell_if (bytes_eq y x) way h, cells_so x way xs h)

cells_named : (x : Text) (way : Way) (o : Option Text) → HasCell way → HasCells x (named_so way o)
cells_named x way None h = tt
cells_named x way (Some y) h = (cell_if (bytes_eq y x) way h, tt)

-- whether one of this name has no cell
abbrev pub lacks : Text → List Decl → Bool
lacks x [] = false
lacks x (decl y (waiting constant) ∷ ds) = lacks x ds
lacks x (decl y ready ∷ ds) = lacks x ds
lacks x (decl y (linked source name) ∷ ds) = bytes_eq y x || lacks x ds
lacks x (decl y left_out ∷ ds) = bytes_eq y x || lacks x ds

neither : (a b : Bool) → (a || b) ≡ false → (a ≡ false) × (b ≡ false)
neither true b h = absurd (true≢false h)
neither false b h = (refl, h)

pub cells_unless : (x : Text) (ds : List Decl) → lacks x ds ≡ false → HasCells x ds
cells_unless x [] h = tt
cells_unless x (decl y (waiting constant) ∷ ds) h = (cell_if (bytes_eq y x) (waiting constant) tt, cells_unless x ds h)
cells_unless x (decl y ready ∷ ds) h = (cell_if (bytes_eq y x) ready tt, cells_unless x ds h)
cells_unless x (decl y (linked source name) ∷ ds) h =
    let parts = neither (bytes_eq y x) (lacks x ds) h in
    (no_cell_asked (bytes_eq y x) (linked source name) parts.0, cells_unless x ds parts.1)
cells_unless x (decl y left_out ∷ ds) h =
    let parts = neither (bytes_eq y x) (lacks x ds) h in
    (no_cell_asked (bytes_eq y x) left_out parts.0, cells_unless x ds parts.1)

lacking_here : (b c : Bool) (n : ℕ) → (b || c) ≡ true → (c ≡ true → 1 ≤ n) → 1 ≤ (if b then 1 else 0) + n
lacking_here true c n h g = one_here true n refl
lacking_here false c n h g = one_more false n (g h)

pub lacks_one : (x : Text) (ds : List Decl) → lacks x ds ≡ true → 1 ≤ times x ds
lacks_one x [] h = absurd (true≢false (sym h))
lacks_one x (decl y (waiting constant) ∷ ds) h = one_more (bytes_eq y x) (times x ds) (lacks_one x ds h)
lacks_one x (decl y ready ∷ ds) h = one_more (bytes_eq y x) (times x ds) (lacks_one x ds h)
lacks_one x (decl y (linked source name) ∷ ds) h = lacking_here (bytes_eq y x) (lacks x ds) (times x ds) h (lacks_one x ds)
lacks_one x (decl y left_out ∷ ds) h = lacking_here (bytes_eq y x) (lacks x ds) (times x ds) h (lacks_one x ds)

-- ---- names of a tree whose binding names are such

abbrev pub EachName : (Text → Type 0) → List Text → Type 0
EachName P [] = Unit {0}
EachName P (x ∷ xs) = P x × EachName P xs

abbrev pub EachDecl : (Text → Way → Type 0) → List Decl → Type 0
EachDecl P [] = Unit {0}
EachDecl P (decl y way ∷ ds) = P y way × EachDecl P ds

each_joined : (P : Text → Type 0) (xs ys : List Text) → EachName P xs → EachName P ys → EachName P (xs ++ ys)
each_joined P [] ys h g = g
each_joined P (x ∷ xs) ys h g = (h.0, each_joined P xs ys h.1 g)

decls_joined : (P : Text → Way → Type 0) (ds es : List Decl) → EachDecl P ds → EachDecl P es → EachDecl P (ds ++ es)
decls_joined P [] es h g = g
decls_joined P (decl y way ∷ ds) es h g = (h.0, decls_joined P ds es h.1 g)

pub name_among : (P : Text → Type 0) (x : Text) (xs : List Text) → EachName P xs → is_among xs x ≡ true → P x
name_among P x [] h e = absurd (true≢false (sym e))
name_among P x (y ∷ xs) h e = elim (or_cases (bytes_eq y x) (is_among xs x) e) [
  | inl g ↦ is_same P y x g h.0
  | inr g ↦ name_among P x xs h.1 g
]

pub decl_among : (P : Text → Type 0) (x : Text) (ds : List Decl) → EachDecl (λ y way. P y) ds → is_among (names_in ds) x ≡ true → P x
decl_among P x [] h e = absurd (true≢false (sym e))
decl_among P x (decl y way ∷ ds) h e = elim (or_cases (bytes_eq y x) (is_among (names_in ds) x) e) [
  | inl g ↦ is_same P y x g h.0
  | inr g ↦ decl_among P x ds h.1 g
]

-- of those without a cell
abbrev pub IfLacking : (Text → Type 0) → Text → Way → Type 0
IfLacking P y (waiting constant) = Unit {0}
IfLacking P y ready = Unit {0}
IfLacking P y (linked source name) = P y
IfLacking P y left_out = P y

if_lacking : (P : Text → Type 0) (y : Text) (way : Way) → P y → IfLacking P y way
if_lacking P y (waiting constant) h = tt
if_lacking P y ready h = tt
if_lacking P y (linked source name) h = h
if_lacking P y left_out h = h

pub lacking_among : (P : Text → Type 0) (x : Text) (ds : List Decl) → EachDecl (IfLacking P) ds → lacks x ds ≡ true → P x
lacking_among P x [] h e = absurd (true≢false (sym e))
lacking_among P x (decl y (waiting constant) ∷ ds) h e = lacking_among P x ds h.1 e
lacking_among P x (decl y ready ∷ ds) h e = lacking_among P x ds h.1 e
lacking_among P x (decl y (linked source name) ∷ ds) h e = elim (or_cases (bytes_eq y x) (lacks x ds) e) [
  | inl g ↦ is_same P y x g h.0
  | inr g ↦ lacking_among P x ds h.1 g
]
lacking_among P x (decl y left_out ∷ ds) h e = elim (or_cases (bytes_eq y x) (lacks x ds) e) [
  | inl g ↦ is_same P y x g h.0
  | inr g ↦ lacking_among P x ds h.1 g
]

names_ok_at : (k : Kind) (inner : List Text) → OkAt k → EachName OkName inner → EachName OkName (names_of k inner)
names_ok_at (Kind.BindingName x) inner h g = (h, tt)
names_ok_at (Kind.VariableDeclaration variable.Let) inner h g = tt
names_ok_at (Kind.VariableDeclaration variable.Const) inner h g = tt
names_ok_at (Kind.Function f pure) inner h g = tt
names_ok_at (Kind.Class c) inner h g = tt
names_ok_at k inner h g = g

pub bound_ok : (t : Forest) → AllOk t → EachName OkName (bound_names t)
bound_ok nothing h = tt
bound_ok (absent r) h = bound_ok r h
bound_ok (node k n a r) h = each_joined OkName (names_of k (bound_names a)) (bound_names r) (names_ok_at k (bound_names a) h.0 (bound_ok a h.1)) (bound_ok r h.2)

vars_ok_at : (k : Kind) (a : Forest) (inner : List Text) → AllOk a → EachName OkName inner → EachName OkName (vars_of k a inner)
vars_ok_at (Kind.VariableDeclaration variable.Var) a inner h g = each_joined OkName (bound_names a) inner (bound_ok a h) g
vars_ok_at (Kind.VariableDeclaration variable.Let) a inner h g = tt
vars_ok_at (Kind.VariableDeclaration variable.Const) a inner h g = tt
vars_ok_at (Kind.Function f pure) a inner h g = tt
vars_ok_at (Kind.Class c) a inner h g = tt
vars_ok_at k a inner h g = g

pub vars_ok : (t : Forest) → AllOk t → EachName OkName (var_names t)
vars_ok nothing h = tt
vars_ok (absent r) h = vars_ok r h
vars_ok (node k n a r) h = each_joined OkName (vars_of k a (var_names a)) (var_names r) (vars_ok_at k a (var_names a) h.1 (vars_ok a h.1)) (vars_ok r h.2)

-- what is so of each way to declare such a name, and of the name of a default export
module _ (Q : Text → Way → Type 0) (every : (y : Text) (way : Way) → OkName y → Q y way) (of_default : Q default_name (waiting false)) where
  each_so : (way : Way) (xs : List Text) → EachName OkName xs → EachDecl Q (all_so way xs)
  each_so way [] h = tt
  each_so way (y ∷ xs) h = (every y way h.0, each_so way xs h.1)

  each_node_named : (way : Way) (k : Kind) → OkAt k → EachDecl Q (named_so way (declared_name k))
  each_node_named way (Kind.BindingName y) h = (every y way h, tt)
  each_node_named way k h = tt

  each_named : (way : Way) (t : Forest) → AllOk t → EachDecl Q (named_so way (first_name t))
  each_named way nothing h = tt
  each_named way (absent r) h = tt
  each_named way (node k n a r) h = each_node_named way k h.0

  each_specifier : (source : Text) (k : Kind) (a : Forest) (inner : List Decl) → AllOk a → EachDecl Q inner → EachDecl Q (specifier_decls source k a inner)
  each_specifier source (Kind.ImportSpecifier name) a inner h g = each_named (linked source (module_text name)) a h
  each_specifier source Kind.ImportDefaultSpecifier a inner h g = each_named _ a h
  each_specifier source Kind.ImportNamespaceSpecifier a inner h g = each_named _ a h
  each_specifier source k a inner h g = g

  each_import : (source : Text) (t : Forest) → AllOk t → EachDecl Q (import_decls source t)
  each_import source nothing h = tt
  each_import source (absent r) h = each_import source r h
  each_import source (node k n a r) h =
      decls_joined Q (specifier_decls source k a (import_decls source a)) (import_decls source r) (each_specifier source k a (import_decls source a) h.1 (each_import source a h.1)) (each_import source r h.2)

  each_or_default : (ds : List Decl) → EachDecl Q ds → EachDecl Q (or_default ds)
  each_or_default [] h = (of_default, tt)
  each_or_default (d ∷ ds) h = h

  each_item : (k : Kind) (a : Forest) (inner : List Decl) → AllOk a → EachDecl Q inner → EachDecl Q (item_decls k a inner)
  each_item (Kind.VariableDeclaration variable.Var) a inner h g = tt
  each_item (Kind.VariableDeclaration variable.Let) a inner h g = each_so (waiting false) (bound_names a) (bound_ok a h)
  each_item (Kind.VariableDeclaration variable.Const) a inner h g = each_so (waiting true) (bound_names a) (bound_ok a h)
  each_item (Kind.Function function_kind.Declaration pure) a inner h g = each_named (waiting false) a h
  each_item (Kind.Function function_kind.Expression pure) a inner h g = tt
  each_item (Kind.Function function_kind.Arrow pure) a inner h g = tt
  each_item (Kind.Class class_kind.Declaration) a inner h g = each_named (waiting false) a h
  each_item (Kind.Class class_kind.Expression) a inner h g = tt
  each_item (Kind.ImportDeclaration source) a inner h g = each_import source a h
  each_item (Kind.ExportNamedDeclaration None) a inner h g = g
  each_item (Kind.ExportNamedDeclaration (Some source)) a inner h g = tt
  each_item Kind.ExportDefaultDeclaration a inner h g = each_or_default inner g
  each_item Kind.FunctionBody a inner h g = g
  each_item Kind.Statements a inner h g = g
  each_item Kind.Cases a inner h g = g
  each_item Kind.SwitchCase a inner h g = g
  each_item k a inner h g = tt

  pub each_lexical : (t : Forest) → AllOk t → EachDecl Q (lexical t)
  each_lexical nothing h = tt
  each_lexical (absent r) h = each_lexical r h
  each_lexical (node k n a r) h = decls_joined Q (item_decls k a (lexical a)) (lexical r) (each_item k a (lexical a) h.1 (each_lexical a h.1)) (each_lexical r h.2)

pub ok_lacking : (t : Forest) → AllOk t → EachDecl (IfLacking OkName) (lexical t)
ok_lacking t h = each_lexical (IfLacking OkName) (λ y way g. if_lacking OkName y way g) tt t h

-- ---- inside functions nothing is imported

abbrev pub is_inner : Place → Bool
is_inner code = true
is_inner lists = true
is_inner items = true
is_inner p = false

inner_list : (p : Place) → is_inner p ≡ true → is_inner (statements_place p) ≡ true
inner_list program_list h = absurd (true≢false (sym h))
inner_list p h = refl

no_import : {X : Type 0} (p : Place) → is_inner p ≡ true → fits p an_import ≡ true → X
no_import code h g = absurd (true≢false (sym g))
no_import lists h g = absurd (true≢false (sym g))
no_import items h g = absurd (true≢false (sym g))
no_import p h g = absurd (true≢false (sym h))

no_export : {X : Type 0} (p : Place) → is_inner p ≡ true → fits p an_export ≡ true → X
no_export code h g = absurd (true≢false (sym g))
no_export lists h g = absurd (true≢false (sym g))
no_export items h g = absurd (true≢false (sym g))
no_export p h g = absurd (true≢false (sym h))

no_case : {X : Type 0} (p : Place) → is_inner p ≡ true → fits p a_case ≡ true → X
no_case code h g = absurd (true≢false (sym g))
no_case lists h g = absurd (true≢false (sym g))
no_case items h g = absurd (true≢false (sym g))
no_case p h g = absurd (true≢false (sym h))

no_cases : {X : Type 0} (p : Place) → is_inner p ≡ true → fits p the_cases ≡ true → X
no_cases code h g = absurd (true≢false (sym g))
no_cases lists h g = absurd (true≢false (sym g))
no_cases items h g = absurd (true≢false (sym g))
no_cases p h g = absurd (true≢false (sym h))

module _ (x : Text) where
  abbrev Inner : Forest → Type 0
  Inner t = (ps : ℕ → Place) (at : ℕ) → ((i : ℕ) → is_inner (ps i) ≡ true) → well_placed ps at t ≡ true → HasCells x (lexical t)

  inner_item : (p : Place) (k : Kind) (a : Forest) → is_inner p ≡ true → fits p (sort_of k) ≡ true → well_placed (place_below p k) 0 a ≡ true → Inner a → HasCells x (item_decls k a (lexical a))
  inner_item p (Kind.VariableDeclaration variable.Var) a h g w below = tt
  inner_item p (Kind.VariableDeclaration variable.Let) a h g w below = cells_so x (waiting false) (bound_names a) tt
  inner_item p (Kind.VariableDeclaration variable.Const) a h g w below = cells_so x (waiting true) (bound_names a) tt
  inner_item p (Kind.Function function_kind.Declaration pure) a h g w below = cells_named x (waiting false) (first_name a) tt
  inner_item p (Kind.Function function_kind.Expression pure) a h g w below = tt
  inner_item p (Kind.Function function_kind.Arrow pure) a h g w below = tt
  inner_item p (Kind.Class how) a h g w below = absurd (never_fits p g)
  inner_item p (Kind.ImportDeclaration source) a h g w below = no_import p h g
  inner_item p (Kind.ExportNamedDeclaration source) a h g w below = no_export p h g
  inner_item p Kind.ExportDefaultDeclaration a h g w below = no_export p h g
  inner_item p Kind.FunctionBody a h g w below = below (λ i. lists) 0 (λ i. refl) w
  inner_item p Kind.Statements a h g w below = below (λ i. statements_place p) 0 (λ i. inner_list p h) w
  inner_item p Kind.Cases a h g w below = no_cases p h g
  inner_item p Kind.SwitchCase a h g w below = no_case p h g
  inner_item p k a h g w below = tt

  pub inner_cells : (t : Forest) → Inner t
  inner_cells nothing ps at h w = tt
  inner_cells (absent r) ps at h w = inner_cells r ps (suc at) h w
  inner_cells (node k n a r) ps at h w =
      cells_joined x (item_decls k a (lexical a)) (lexical r) (inner_item (ps at) k a (h at) (placed_here ps at k n a r w) (placed_below ps at k n a r w) (inner_cells a)) (inner_cells r ps (suc at) h (placed_behind ps at k n a r w))

  -- ---- a function's entry

  receiver_cells : (f : FunctionKind) → bytes_eq (codes "arguments") x ≡ false → HasCells x (receiver_decls f)
  receiver_cells function_kind.Arrow h = tt
  receiver_cells f h = (cell_if (bytes_eq this_name x) ready tt, (no_cell_asked (bytes_eq (codes "arguments") x) left_out h, tt))

  pub entry_cells : (f : FunctionKind) (a : Forest) → bytes_eq (codes "arguments") x ≡ false → HasCells x (lexical (behind (behind a))) → HasCells x (function_decls f a)
  entry_cells f a h g =
      let vars = all_so ready (var_names (behind (behind a))) in
      let params = all_so ready (bound_names (first_of (behind a))) in
      cells_joined x ((receiver_decls f ++ vars) ++ params) (lexical (behind (behind a)))
      (cells_joined x (receiver_decls f ++ vars) params
      (cells_joined x (receiver_decls f) vars (receiver_cells f h) (cells_so x ready (var_names (behind (behind a))) tt))
      (cells_so x ready (bound_names (first_of (behind a))) tt)) g
