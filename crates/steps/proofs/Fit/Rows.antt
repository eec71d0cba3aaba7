-- Each scope of a module's code that breaks no rule of form is clear.
use Rattle.std.proofs.Common.{◌≡◌, ◌∙◌, ◌≤◌, ◌⊎◌, inl, inr, ℕ, zero, suc, ◌+◌, ◌==◌, [], ◌++◌, Bool, true, false, ◌&&◌, ◌||◌, if◌then◌else◌, codes, refl, sym, subst, arith, true≢false}
use Rattle.std.specs.Str.{bytes_eq}
use Rattle.std.proofs.lemmas.Bool.{and_parts, and_from, or_cases}
use Rattle.js_tree.specs.Count.{one_each, node_count}
use Rattle.js_syntax.specs.declared.node_kind.NodeKind.{NodeKind as Kind}
use Rattle.js_syntax.specs.declared.scalar.SourceType.TheVariants as source_type
use Rattle.js_syntax.specs.declared.kind.VariableKind.TheVariants as variable
use Rattle.js_syntax.specs.declared.kind.FunctionKind.{FunctionKind}
use Rattle.js_syntax.specs.declared.kind.FunctionKind.TheVariants as function_kind
use Rattle.js_syntax.specs.Node.{Note, Forest, nothing, node, absent, alone}
use Rattle.form_rules.specs.declared.sought.Sort.TheVariants.{Lexical as lexical_sort}
use Rattle.form_rules.specs.declared.sought.Sought.TheVariants.{Scope as scope_sought, CatchScope as catch_sought}
use Rattle.form_rules.specs.Scope.{declared, declared_here, sought_below, later, clash, variable_of_catch}
use Rattle.form_rules.specs.Rules.{functions_in, broken_at}
use Rattle.form_rules.specs.Context.{Context, inside, outermost}
use Rattle.form_rules.specs.Form.{broken_in, broken, IsWellFormed}
use Rattle.js_meaning.specs.Value.{Text, this_name}
use Rattle.js_meaning.specs.Scope.{ready, default_name, first_of, behind, bound_names, var_names, all_so, lexical, function_decls, module_decls}
use Rattle.js_meaning.specs.Module.{names_in}
use Rattle.js_meaning_near.specs.Near.{module_of}
use Rattle.js_meaning_near.specs.Avoid.{HasCells}
use Rattle.steps.specs.Names.{is_among}
use Rattle.steps.proofs.Among.{among_joined}
use Rattle.steps.specs.Naming.Placed.{Place, code, names, others, parameters, program_list, lists, case_items, sort_of, place_below, name_place, function_place, fits, well_placed, has_plain_values, is_well_placed}
use Rattle.steps.proofs.Naming.Lists.{third}
use Rattle.steps.proofs.Naming.Taking.{never_fits}
use Rattle.steps.proofs.Naming.Sites.{placed_here, placed_below, placed_behind}
use Rattle.steps.specs.Fit.Clear.{Apart, times, ClearAt, Clear}
use Rattle.steps.specs.Fit.Hoisted.{is_none, holds_variables, has_variables_in_place}
use Rattle.steps.specs.Fit.Catches.{are_in_blocks, catches_in_block, has_blocks_in_catches}
use Rattle.steps.proofs.Fit.Lists.{one_here, occurs, occurs_joined, times_joined, times_so, among_occurs, among_times, no_variables, named, count}
use Rattle.steps.proofs.Fit.Clashes.{is_let, is_var, is_parameter, parameter_var, behind_first, let_once, let_apart}
use Rattle.steps.proofs.Fit.Contexts.{none_later, of_names, kept_here, kept_below, kept_behind, strict_below, OkName, AllOk, all_ok}
use Rattle.steps.proofs.Fit.Bound.{plain_below, plain_behind}
use Rattle.steps.proofs.Fit.Found.{holds_items, no_code, no_code_below, scope_found, first_found, variables_here, variables_inside, variables_behind, variables_found, blocks_found}
use Rattle.steps.proofs.Fit.Cells.{lacks, cells_unless, lacks_one, name_among, decl_among, lacking_among, cell_if, vars_ok, each_lexical, ok_lacking, cells_joined, cells_so, inner_cells, entry_cells}
use Rattle.steps.proofs.KeepForm.Form.{none_broken}

up : (m n : ℕ) → 1 ≤ m → m ≤ n → 1 ≤ n
up m n h g = omega (arith, h, g)

-- ---- blocks, cases and the heads of loops

block_clear : (ps : ℕ → Place) (q : ℕ) (a : Forest) → ((i : ℕ) → holds_items (ps i) ≡ true) → ((i : ℕ) → no_code (ps i) ≡ true) → well_placed ps 0 a ≡ true → has_plain_values a ≡ true → has_variables_in_place a ≡ true → AllOk a
    → later clash (declared (scope_sought lexical_sort) q a) ≡ [] → Apart (names_in (lexical a)) (var_names a)
block_clear ps q a hi nc w v e ok h x l n =
    let good = name_among OkName x (var_names a) (vars_ok a ok) n in
    let_apart x [] (declared (scope_sought lexical_sort) q a) h
    (up (times x (lexical a)) (count (named is_let x) (declared (scope_sought lexical_sort) q a)) (among_times x (lexical a) l) (scope_found x good.2 a ps 0 q hi w v))
    (up (occurs x (var_names a)) (count (named is_var x) (declared (scope_sought lexical_sort) q a)) (among_occurs x (var_names a) n) (variables_found x a (scope_sought lexical_sort) ps 0 q refl nc w v e))

for_clear : (ps : ℕ → Place) (q : ℕ) (a : Forest) → holds_items (ps 0) ≡ true → ((i : ℕ) → no_code (ps i) ≡ true) → well_placed ps 0 a ≡ true → has_plain_values a ≡ true → has_variables_in_place a ≡ true → AllOk a
    → later clash (declared (scope_sought lexical_sort) q a) ≡ [] → Apart (names_in (lexical (first_of a))) (var_names a)
for_clear ps q a hi nc w v e ok h x l n =
    let good = name_among OkName x (var_names a) (vars_ok a ok) n in
    let_apart x [] (declared (scope_sought lexical_sort) q a) h
    (up (times x (lexical (first_of a))) (count (named is_let x) (declared (scope_sought lexical_sort) q a)) (among_times x (lexical (first_of a)) l) (first_found x good.2 q ps a hi w v))
    (up (occurs x (var_names a)) (count (named is_var x) (declared (scope_sought lexical_sort) q a)) (among_occurs x (var_names a) n) (variables_found x a (scope_sought lexical_sort) ps 0 q refl nc w v e))

-- ---- catches

alone_so : (b : Bool) → (b || false) ≡ true → (b && true) ≡ true
alone_so true h = refl
alone_so false h = h

catch_node : (x : Text) (q : ℕ) (k : Kind) (n : Note) (b r : Forest) → fits names (sort_of k) ≡ true → (holds_variables k || is_none (var_names b)) ≡ true → is_among (bound_names (first_of (node k n b r))) x ≡ true
    → later variable_of_catch (declared (catch_sought lexical_sort) q (node k n b r)) ≡ [] → occurs x (var_names r) ≤ count (named is_var x) (declared (catch_sought lexical_sort) (q + node_count (alone k n b)) r) → 1 ≤ occurs x (var_names (node k n b r)) → ⊥
catch_node x q (Kind.BindingName y) n b r g e i h found one =
    let inner = declared (sought_below (catch_sought lexical_sort) (Kind.BindingName y)) (q + one_each (Kind.BindingName y)) b in
    let rest = declared (catch_sought lexical_sort) (q + node_count (alone (Kind.BindingName y) n b)) r in
    let quiet = behind_first variable_of_catch is_parameter is_var x parameter_var [] (declared_here (catch_sought lexical_sort) q (Kind.BindingName y) ++ inner) rest (one_here (bytes_eq y x && true) (count (named is_parameter x) inner) (alone_so (bytes_eq y x) i)) h in
    let joined = occurs_joined x (var_names b) (var_names r) in
    let none = no_variables x (var_names b) e in
    omega (arith, quiet, joined, none, found, one)
catch_node x q (Kind.VariableDeclaration variable.Var) n b r g e i h found one = true≢false (sym g)
catch_node x q (Kind.VariableDeclaration variable.Let) n b r g e i h found one = true≢false (sym g)
catch_node x q (Kind.VariableDeclaration variable.Const) n b r g e i h found one = true≢false (sym g)
catch_node x q (Kind.Function function_kind.Declaration pure) n b r g e i h found one = true≢false (sym g)
catch_node x q (Kind.Function function_kind.Expression pure) n b r g e i h found one = true≢false (sym g)
catch_node x q (Kind.Function function_kind.Arrow pure) n b r g e i h found one = true≢false (sym g)
catch_node x q k n b r g e i h found one = true≢false (sym g)

catch_clear : (q : ℕ) (a : Forest) → well_placed (λ i. if i == 0 then names else others) 0 a ≡ true → has_plain_values a ≡ true → has_variables_in_place a ≡ true → are_in_blocks (behind a) ≡ true
    → later variable_of_catch (declared (catch_sought lexical_sort) q a) ≡ [] → Apart (bound_names (first_of a)) (var_names a)
catch_clear q nothing w v e d h x i n = true≢false (sym i)
catch_clear q (absent r) w v e d h x i n = true≢false (sym i)
catch_clear q (node k m b r) w v e d h x i n =
    let ps : ℕ → Place = λ i. if i == 0 then names else others in
    catch_node x q k m b r (placed_here ps 0 k m b r w) (variables_here k m b r e) i h
    (blocks_found x lexical_sort ps 1 (q + node_count (alone k m b)) r (placed_behind ps 0 k m b r w) (plain_behind k m b r v) (variables_behind k m b r e) d)
    (among_occurs x (var_names (node k m b r)) n)

-- ---- functions

same_places : (ps qs : ℕ → Place) (low : ℕ) → ((i : ℕ) → low ≤ i → ps i ≡ qs i) → (at : ℕ) (t : Forest) → low ≤ at → well_placed ps at t ≡ true → well_placed qs at t ≡ true
same_places ps qs low f at nothing l w = refl
same_places ps qs low f at (absent r) l w = same_places ps qs low f (suc at) r (omega (arith, l)) w
same_places ps qs low f at (node k n a r) l w =
    and_from (fits (qs at) (sort_of k)) (well_placed (place_below (qs at) k) 0 a && well_placed qs (suc at) r) (subst (λ p. fits p (sort_of k) ≡ true) (f at l) (placed_here ps at k n a r w))
    (and_from (well_placed (place_below (qs at) k) 0 a) (well_placed qs (suc at) r) (subst (λ p. well_placed (place_below p k) 0 a ≡ true) (f at l) (placed_below ps at k n a r w))
    (same_places ps qs low f (suc at) r (omega (arith, l)) (placed_behind ps at k n a r w)))

pub placed_next : (ps : ℕ → Place) (at : ℕ) (t : Forest) → well_placed ps at t ≡ true → well_placed ps (suc at) (behind t) ≡ true
placed_next ps at nothing w = refl
placed_next ps at (absent r) w = w
placed_next ps at (node k n a r) w = placed_behind ps at k n a r w

ok_next : (t : Forest) → AllOk t → AllOk (behind t)
ok_next nothing h = tt
ok_next (absent r) h = h
ok_next (node k n a r) h = h.2

-- the body of a function
body_placed : (f : FunctionKind) (a : Forest) → well_placed (function_place f) 0 a ≡ true → well_placed (λ i. code) 2 (behind (behind a)) ≡ true
body_placed f a w = same_places (function_place f) (λ i. code) 2 (λ i l. third i (name_place f) parameters code l) 2 (behind (behind a)) (omega arith) (placed_next (function_place f) 1 (behind a) (placed_next (function_place f) 0 a w))

abbrev NotArguments : Text → Type 0
NotArguments y = bytes_eq (codes "arguments") y ≡ false

not_arguments : (t : Forest) (x : Text) → AllOk t → is_among (var_names t ++ names_in (lexical t)) x ≡ true → NotArguments x
not_arguments t x h e = elim (or_cases (is_among (var_names t) x) (is_among (names_in (lexical t)) x) (sym (among_joined (var_names t) (names_in (lexical t)) x) ∙ e)) [
  | inl g ↦ (name_among OkName x (var_names t) (vars_ok t h) g).0
  | inr g ↦ decl_among NotArguments x (lexical t) (each_lexical (λ y way. NotArguments y) (λ y way o. o.0) refl t h) g
]

function_clear : (f : FunctionKind) (a : Forest) → well_placed (function_place f) 0 a ≡ true → AllOk a → (x : Text) → is_among (var_names (behind (behind a)) ++ names_in (lexical (behind (behind a)))) x ≡ true → HasCells x (function_decls f a)
function_clear f a w h x e =
    entry_cells x f a (not_arguments (behind (behind a)) x (ok_next (behind a) (ok_next a h)) e) (inner_cells x (behind (behind a)) (λ i. code) 2 (λ i. refl) (body_placed f a w))

-- ---- all nodes

strictly : (b : Bool) (q : ℕ) (a : Forest) → b ≡ true → later clash (declared (scope_sought (functions_in b)) q a) ≡ [] → later clash (declared (scope_sought lexical_sort) q a) ≡ []
strictly true q a s h = h
strictly false q a s h = absurd (true≢false (sym s))

strictly_caught : (b : Bool) (q : ℕ) (a : Forest) → b ≡ true → later variable_of_catch (declared (catch_sought (functions_in b)) q a) ≡ [] → later variable_of_catch (declared (catch_sought lexical_sort) q a) ≡ []
strictly_caught true q a s h = h
strictly_caught false q a s h = absurd (true≢false (sym s))

clear_at : (c : Context) (p : Place) (q : ℕ) (k : Kind) (a : Forest) → c.strict ≡ true → fits p (sort_of k) ≡ true → well_placed (place_below p k) 0 a ≡ true → has_plain_values a ≡ true → has_variables_in_place a ≡ true → catches_in_block k a ≡ true → AllOk a
    → broken_at c k q a ≡ [] → ClearAt k a
clear_at c p q (Kind.Program source) a s f w v e d ok h = absurd (never_fits p f)
clear_at c p q (Kind.Function how pure) a s f w v e d ok h = function_clear how a w ok
clear_at c p q Kind.BlockStatement a s f w v e d ok h =
    block_clear (λ i. lists) (suc q) a (λ i. refl) (λ i. refl) w v e ok
    (strictly c.strict (suc q) a s (none_later 1 (later clash (declared (scope_sought (functions_in c.strict)) (suc q) a)) (of_names c Kind.BlockStatement q a h).0))
clear_at c p q Kind.Cases a s f w v e d ok h =
    block_clear (λ i. case_items) q a (λ i. refl) (λ i. refl) w v e ok (strictly c.strict q a s (none_later 1 (later clash (declared (scope_sought (functions_in c.strict)) q a)) (of_names c Kind.Cases q a h).0))
clear_at c p q Kind.ForStatement a s f w v e d ok h =
    for_clear (place_below p Kind.ForStatement) (suc q) a refl (λ i. no_code_below p Kind.ForStatement i refl) w v e ok (none_later 1 (later clash (declared (scope_sought lexical_sort) (suc q) a)) (of_names c Kind.ForStatement q a h).0)
clear_at c p q Kind.CatchClause a s f w v e d ok h =
    catch_clear (suc q) a w v e d (strictly_caught c.strict (suc q) a s (none_later 9 (later variable_of_catch (declared (catch_sought (functions_in c.strict)) (suc q) a)) (of_names c Kind.CatchClause q a h).2))
clear_at c p q k a s f w v e d ok h = tt

pub clear_rows : (cs : ℕ → Context) (ps : ℕ → Place) (at q : ℕ) (t : Forest) → ((i : ℕ) → (cs i).strict ≡ true) → well_placed ps at t ≡ true → has_plain_values t ≡ true → has_variables_in_place t ≡ true → has_blocks_in_catches t ≡ true → AllOk t
    → broken_in cs at q t ≡ [] → Clear t
clear_rows cs ps at q nothing s w v e d ok h = tt
clear_rows cs ps at q (absent r) s w v e d ok h = clear_rows cs ps (suc at) q r s w v e d ok h
clear_rows cs ps at q (node k n a r) s w v e d ok h =
    let here = placed_here ps at k n a r w in
    let of_node = and_parts (catches_in_block k a) (has_blocks_in_catches a && has_blocks_in_catches r) d in
    let of_rows = and_parts (has_blocks_in_catches a) (has_blocks_in_catches r) of_node.1 in (
      clear_at (cs at) (ps at) q k a (s at) here (placed_below ps at k n a r w) (plain_below k n a r v) (variables_inside k n a r e) of_node.0 ok.1 (kept_here cs at q k n a r h),
      clear_rows (inside (cs at) k a) (place_below (ps at) k) 0 (q + one_each k) a (λ i. strict_below (ps at) (cs at) k a i here (s at)) (placed_below ps at k n a r w) (plain_below k n a r v) (variables_inside k n a r e) of_rows.0 ok.1
          (kept_below cs at q k n a r h),
      clear_rows cs ps (suc at) (q + node_count (node k n a nothing)) r s (placed_behind ps at k n a r w) (plain_behind k n a r v) (variables_behind k n a r e) of_rows.1 ok.2 (kept_behind cs at q k n a r h),
    )

-- ---- a module

not_counted : (b : Bool) (n : ℕ) → b ≡ false → n ≤ 1 → (if b then 1 else 0) + n ≤ 1
not_counted true n h g = absurd (true≢false h)
not_counted false n h g = omega (arith, g)

none_if : (n : ℕ) → (1 ≤ n → ⊥) → n ≡ 0
none_if zero h = refl
none_if (suc n) h = absurd (h (omega arith))

-- what `let` declares there is declared once
once_there : (q : ℕ) (m : Note) (a : Forest) → well_placed (λ i. program_list) 0 (node Kind.Statements m a nothing) ≡ true → has_plain_values (node Kind.Statements m a nothing) ≡ true → has_variables_in_place (node Kind.Statements m a nothing) ≡ true
    → later clash (declared (scope_sought lexical_sort) q (node Kind.Statements m a nothing)) ≡ [] → (x : Text) → bytes_eq this_name x ≡ false → bytes_eq default_name x ≡ false → 1 ≤ times x (lexical a) → times x (module_decls a) ≤ 1
once_there q m a w v e h x this other some =
    let t = node Kind.Statements m a nothing in
    let ds = declared (scope_sought lexical_sort) q t in
    let found : times x (lexical a ++ []) ≤ count (named is_let x) ds = scope_found x other t (λ i. program_list) 0 q (λ i. refl) w v in
    let vars : occurs x (var_names a ++ []) ≤ count (named is_var x) ds = variables_found x t (scope_sought lexical_sort) (λ i. program_list) 0 q refl (λ i. refl) w v e in
    let same = times_joined x (lexical a) [] in
    let same_vars = occurs_joined x (var_names a) [] in
    let once = let_once x [] ds h in
    let is_there : 1 ≤ count (named is_let x) ds = omega (arith, some, found, same) in
    let none = none_if (count (named is_var x) ds) (let_apart x [] ds h is_there) in
    let all = times_joined x (all_so ready (var_names a)) (lexical a) in
    let so = times_so x ready (var_names a) in
    not_counted (bytes_eq this_name x) (times x (all_so ready (var_names a) ++ lexical a)) this (omega (arith, found, vars, same, same_vars, once, none, all, so))

program_clear : (q : ℕ) (m : Note) (a : Forest) → well_placed (λ i. program_list) 0 (node Kind.Statements m a nothing) ≡ true → has_plain_values (node Kind.Statements m a nothing) ≡ true → has_variables_in_place (node Kind.Statements m a nothing) ≡ true → AllOk a
    → later clash (declared (scope_sought lexical_sort) q (node Kind.Statements m a nothing)) ≡ [] → (x : Text) (b : Bool) → lacks x (lexical a) ≡ b → (times x (module_decls a) ≤ 1) ⊎ HasCells x (module_decls a)
program_clear q m a w v e ok h x true l =
    let good = lacking_among OkName x (lexical a) (ok_lacking a ok) l in
    inl (once_there q m a w v e h x good.1 good.2 (lacks_one x (lexical a) l))
program_clear q m a w v e ok h x false l =
    inr (cell_if (bytes_eq this_name x) ready tt, cells_joined x (all_so ready (var_names a)) (lexical a) (cells_so x ready (var_names a) tt) (cells_unless x (lexical a) l))

-- A module that breaks no rule of form is clear, where in catches `var` stands in blocks.
pub clear_with_blocks : (n m : Note) (a : Forest) → is_well_placed (module_of n m a) ≡ true → has_variables_in_place (module_of n m a) ≡ true → has_blocks_in_catches (module_of n m a) ≡ true → IsWellFormed (module_of n m a) → Clear (module_of n m a)
clear_with_blocks n m a w e d h =
    let t = node Kind.Statements m a nothing in
    let k = Kind.Program source_type.Module in
    let cs : ℕ → Context = λ i. outermost source_type.Module in
    let placed_so = and_parts (well_placed (λ i. program_list) 0 t) (has_plain_values t) w in
    let whole = none_broken (broken (module_of n m a)) h in
    let below = kept_below cs 0 0 k n t nothing whole in
    let first = none_later 1 (later clash (declared (scope_sought lexical_sort) 1 t)) (of_names (outermost source_type.Module) k 0 t (kept_here cs 0 0 k n t nothing whole)).0 in
    let inner = variables_inside k n t nothing e in
    let blocks = (and_parts (has_blocks_in_catches t) true d).0 in
    let ok = all_ok (inside (outermost source_type.Module) k t) (λ i. program_list) 0 1 t (λ i. refl) placed_so.0 below in (
      λ x. program_clear 1 m a placed_so.0 placed_so.1 inner ok.1 first x (lacks x (lexical a)) refl,
      clear_rows (inside (outermost source_type.Module) k t) (λ i. program_list) 0 1 t (λ i. refl) placed_so.0 placed_so.1 inner blocks ok below,
      tt,
    )

-- What `let`, a class or a function declares at the top of one is declared once.
pub declared_once : (n m : Note) (a : Forest) → is_well_placed (module_of n m a) ≡ true → has_variables_in_place (module_of n m a) ≡ true → IsWellFormed (module_of n m a) → (x : Text) → bytes_eq this_name x ≡ false → bytes_eq default_name x ≡ false
    → 1 ≤ times x (lexical a) → times x (module_decls a) ≤ 1
declared_once n m a w e h x this other some =
    let t = node Kind.Statements m a nothing in
    let k = Kind.Program source_type.Module in
    let cs : ℕ → Context = λ i. outermost source_type.Module in
    let placed_so = and_parts (well_placed (λ i. program_list) 0 t) (has_plain_values t) w in
    let whole = none_broken (broken (module_of n m a)) h in
    let first = none_later 1 (later clash (declared (scope_sought lexical_sort) 1 t)) (of_names (outermost source_type.Module) k 0 t (kept_here cs 0 0 k n t nothing whole)).0 in
    once_there 1 m a placed_so.0 placed_so.1 (variables_inside k n t nothing e) first x this other some
