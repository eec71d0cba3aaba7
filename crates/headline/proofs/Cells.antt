-- What a scope that is no module declares for its own row has cells; and what is left of declarations that have.
use Rattle.std.proofs.Common.{◌≡◌, ◌⊎◌, ◌≤◌, ◌+◌, inl, inr, ℕ, suc, List, [], ◌∷◌, Bool, true, false, if◌then◌else◌, Option, Some, None, bytes_eq, refl, sym, arith, true≢false}
use Rattle.std.proofs.lemmas.Bool.{and_parts}
use Rattle.js_syntax.specs.declared.node_kind.NodeKind.{NodeKind as Kind}
use Rattle.js_syntax.specs.declared.kind.VariableKind.TheVariants as variable
use Rattle.js_syntax.specs.declared.kind.FunctionKind.TheVariants as function_kind
use Rattle.js_syntax.specs.Node.{Forest, nothing, node, absent}
use Rattle.js_meaning.specs.Value.{Text}
use Rattle.js_meaning.specs.Scope.{Decl, decl, Way, waiting, named_so, all_so, first_name, bound_names, item_decls, lexical}
use Rattle.js_meaning_near.specs.Names.{HasCell}
use Rattle.js_meaning_near.specs.Avoid.{Fewer, fewer_end, fewer_same, fewer_gone, Dropped, dropped_here, dropped_later, CellIf, HasCells}
use Rattle.steps.specs.Naming.Placed.{Place, an_import, an_export, program_list, module_items, sort_of, place_below, statements_place, fits, well_placed}
use Rattle.steps.proofs.Naming.Taking.{never_fits}
use Rattle.steps.specs.Fit.Clear.{times}
use Rattle.steps.proofs.Fit.Cells.{cells_joined, cell_if}
use Rattle.js_meaning_near.proofs.Avoid.{itself}

-- ---- lists

cells_so : (x : Text) (way : Way) → HasCell way → (ys : List Text) → HasCells x (all_so way ys)
cells_so x way h [] = tt
cells_so x way h (y ∷ ys) = (cell_if (bytes_eq y x) way h, cells_so x way h ys)

cells_named : (x : Text) (way : Way) → HasCell way → (o : Option Text) → HasCells x (named_so way o)
cells_named x way h None = tt
cells_named x way h (Some y) = (cell_if (bytes_eq y x) way h, tt)

-- fewer declarations

fewer_cells : (x : Text) {ds es : List Decl} → Fewer x ds es → HasCells x ds → HasCells x es
fewer_cells x fewer_end h = tt
fewer_cells x (fewer_same {d = decl y way} f) h = (h.0, fewer_cells x f h.1)
fewer_cells x (fewer_gone f) h = fewer_cells x f h.1

pub dropped_cells : (x : Text) {ds es : List Decl} → Dropped x ds es → HasCells x ds → HasCells x es
dropped_cells x (dropped_here f) h = fewer_cells x f h.1
dropped_cells x (dropped_later {d = decl y way} f) h = (h.0, dropped_cells x f h.1)

one_if : (b : Bool) → b ≡ true → ◌≡◌ {A = ℕ} (if b then 1 else 0) 1
one_if true e = refl
one_if false e = absurd (true≢false (sym e))

fewer_times : (x : Text) {ds es : List Decl} → Fewer x ds es → times x es ≤ times x ds
fewer_times x fewer_end = Prim.omega arith
fewer_times x (fewer_same {d = decl y way} f) = let g = fewer_times x f in Prim.omega (arith, g)
fewer_times x (fewer_gone f) = let g = fewer_times x f in Prim.omega (arith, g)

dropped_times : (x : Text) {ds es : List Decl} → Dropped x ds es → times x es + 1 ≤ times x ds
dropped_times x (dropped_here f) = let g = fewer_times x f in let e = one_if (bytes_eq x x) (itself x) in Prim.omega (arith, g, e)
dropped_times x (dropped_later {d = decl y way} f) = let g = dropped_times x f in Prim.omega (arith, g)

-- a name that isn't declared
nowhere_at : (b : Bool) (way : Way) (m : ℕ) → (if b then 1 else 0) + m ≤ 0 → CellIf b way × (m ≤ 0)
nowhere_at true way m h = absurd (Prim.omega (arith, h))
nowhere_at false way m h = (tt, Prim.omega (arith, h))

nowhere_cells : (x : Text) (ds : List Decl) → times x ds ≤ 0 → HasCells x ds
nowhere_cells x [] h = tt
nowhere_cells x (decl y way ∷ ds) h = let n = nowhere_at (bytes_eq y x) way (times x ds) h in (n.0, nowhere_cells x ds n.1)

pub once_cells : (x : Text) (ds es : List Decl) → Dropped x ds es → (times x ds ≤ 1) ⊎ HasCells x ds → HasCells x es
once_cells x ds es d (inl h) = let g = dropped_times x d in nowhere_cells x es (Prim.omega (arith, g, h))
once_cells x ds es d (inr h) = dropped_cells x d h

-- ---- rows of scopes that are no modules

abbrev pub is_inner : Place → Bool
is_inner program_list = false
is_inner module_items = false
is_inner p = true

no_import : {A : Type 0} (p : Place) → is_inner p ≡ true → fits p an_import ≡ true → A
no_import module_items e f = absurd (true≢false (sym e))
no_import p e f = absurd (true≢false (sym f))

no_export : {A : Type 0} (p : Place) → is_inner p ≡ true → fits p an_export ≡ true → A
no_export module_items e f = absurd (true≢false (sym e))
no_export p e f = absurd (true≢false (sym f))

inner_statements : (p : Place) → is_inner p ≡ true → is_inner (statements_place p) ≡ true
inner_statements program_list e = absurd (true≢false (sym e))
inner_statements p e = refl

node_cells : (x : Text) (p : Place) (k : Kind) (a : Forest) → is_inner p ≡ true → fits p (sort_of k) ≡ true → (((i : ℕ) → is_inner (place_below p k i) ≡ true) → HasCells x (lexical a)) → HasCells x (item_decls k a (lexical a))
node_cells x p (Kind.VariableDeclaration variable.Let) a i f h = cells_so x (waiting false) tt (bound_names a)
node_cells x p (Kind.VariableDeclaration variable.Const) a i f h = cells_so x (waiting true) tt (bound_names a)
node_cells x p (Kind.VariableDeclaration variable.Var) a i f h = tt
node_cells x p (Kind.Function function_kind.Declaration pure) a i f h = cells_named x (waiting false) tt (first_name a)
node_cells x p (Kind.Function function_kind.Expression pure) a i f h = tt
node_cells x p (Kind.Function function_kind.Arrow pure) a i f h = tt
node_cells x p (Kind.Class how) a i f h = absurd (never_fits p f)
node_cells x p (Kind.ImportDeclaration source) a i f h = no_import p i f
node_cells x p (Kind.ExportNamedDeclaration source) a i f h = no_export p i f
node_cells x p Kind.ExportDefaultDeclaration a i f h = no_export p i f
node_cells x p Kind.FunctionBody a i f h = h (λ j. refl)
node_cells x p Kind.Statements a i f h = h (λ j. inner_statements p i)
node_cells x p Kind.Cases a i f h = h (λ j. refl)
node_cells x p Kind.SwitchCase a i f h = h (λ j. refl)
node_cells x p k a i f h = tt

pub row_cells : (x : Text) (places : ℕ → Place) (at : ℕ) (t : Forest) → ((i : ℕ) → is_inner (places i) ≡ true) → well_placed places at t ≡ true → HasCells x (lexical t)
row_cells x places at nothing h w = tt
row_cells x places at (absent r) h w = row_cells x places (suc at) r h w
row_cells x places at (node k n a r) h w =
    let e = and_parts (fits (places at) (sort_of k)) _ w in
    let i = and_parts (well_placed (place_below (places at) k) 0 a) _ e.1 in
    cells_joined x (item_decls k a (lexical a)) (lexical r) (node_cells x (places at) k a (h at) e.0 (λ g. row_cells x (place_below (places at) k) 0 a g i.0)) (row_cells x places (suc at) r h i.1)
