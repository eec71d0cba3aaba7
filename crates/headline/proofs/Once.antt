-- Where the scopes of a module are clear, a name whose declaration goes stands in its scope no more, or what stays of it has cells.
use Rattle.std.proofs.Common.{◌≡◌, ◌∙◌, inl, inr, ℕ, suc, List, [], ◌∷◌, ◌++◌, true, false, bytes_eq, refl, sym, ap, subst}
use Rattle.std.proofs.lemmas.Bool.{and_parts, or_left}
use Rattle.js_syntax.specs.declared.node_kind.NodeKind.{NodeKind as Kind}
use Rattle.js_syntax.specs.declared.scalar.SourceType.TheVariants as source_type
use Rattle.js_syntax.specs.declared.kind.FunctionKind.{FunctionKind}
use Rattle.js_syntax.specs.Node.{Forest, nothing, node, absent, Note, alone}
use Rattle.js_meaning.specs.Value.{Text, this_name}
use Rattle.js_meaning.specs.Scope.{Decl, decl, ready, all_so, behind, var_names, lexical, function_decls, module_decls}
use Rattle.js_meaning.specs.Module.{names_in}
use Rattle.js_meaning_near.specs.Near.{module_of}
use Rattle.js_meaning_near.specs.Avoid.{declares, Dropped, HasCells}
use Rattle.js_meaning_near.proofs.Avoid.{itself}
use Rattle.steps.specs.Names.{is_among}
use Rattle.steps.specs.Steps.{Around, entered, outermost, Step, leaves, empties, unbinds, states, inside, behind_node, behind_absent}
use Rattle.steps.specs.KeepRuns.Formed.{holds_well, heads, is_formed}
use Rattle.steps.specs.KeepRuns.Drop.{Drop, no_drop, of_block, of_function, dropped}
use Rattle.steps.specs.KeepRuns.Once.{OnceAt, OnceIn, Once}
use Rattle.steps.proofs.KeepRuns.Calm.{form_holds, form_heads, form_below, form_behind}
use Rattle.steps.proofs.KeepRuns.Unbound.{dropped_among}
use Rattle.steps.proofs.KeepRuns.Lists.{Less, less_here, less_later, VarsChange, LexicalChange, vars_step, lexical_step}
use Rattle.steps.proofs.KeepRuns.Names.{declares_among, passing_free}
use Rattle.steps.proofs.KeepRuns.Scopes.{DeclsChange, BodyChange, body_change, function_change}
use Rattle.steps.proofs.KeepRuns.Modules.{module_lists, InItems, in_items, in_its_items}
use Rattle.steps.specs.Naming.Placed.{Place, program_list, module_items, lists, case_items, sort_of, place_below, function_place, fits, well_placed, has_plain_values, is_well_placed}
use Rattle.steps.proofs.Naming.Lists.{in_left, in_right}
use Rattle.steps.proofs.Naming.Taking.{never_fits}
use Rattle.steps.proofs.Naming.Values.{values_below, values_behind}
use Rattle.steps.specs.Fit.Clear.{ClearAt, Clear}
use Rattle.steps.proofs.KeepRuns.Binding.{Lacks, undeclared_left, undeclared_right, undeclared_so, Free, row_free, items_place, code_free, row_binds}
use Rattle.headline.proofs.Cells.{dropped_cells, once_cells, row_cells}
use Rattle.js_syntax.proofs.Truth.{second_of_either}

-- ---- what goes was declared

less_among : {x : Text} {xs ys : List Text} → Less x xs ys → is_among xs x ≡ true
less_among {x} (less_here {xs = xs}) = or_left (bytes_eq x x) (is_among xs x) (itself x)
less_among {x} (less_later {y = y} {xs = xs} l) = second_of_either (bytes_eq y x) (is_among xs x) (less_among l)

abbrev AmongIf : Drop → List Text → Type 0
AmongIf no_drop xs = Unit {0}
AmongIf (of_block x) xs = is_among xs x ≡ true
AmongIf (of_function x) xs = is_among xs x ≡ true

goes_among : (d : Drop) (xs ys : List Text) (ds es : List Decl) → VarsChange d xs ys → LexicalChange d ds es → AmongIf d (xs ++ names_in ds)
goes_among no_drop xs ys ds es v l = tt
goes_among (of_block x) xs ys ds es v l = in_right xs (names_in ds) x (dropped_among l)
goes_among (of_function x) xs ys ds es v l = in_left xs (names_in ds) x (less_among v)

body_among : {w : Around} {a b : Forest} (s : Step w a b) → BodyChange (dropped s) a b → AmongIf (dropped s) (var_names (behind (behind a)) ++ names_in (lexical (behind (behind a))))
body_among {a = a} {b = b} s c = goes_among (dropped s) (var_names (behind (behind a))) (var_names (behind (behind b))) (lexical (behind (behind a))) (lexical (behind (behind b))) c.vars c.lexical

-- ---- by scopes

behind_placed : (places : ℕ → Place) (b : Forest) → well_placed places 0 b ≡ true → well_placed places 1 (behind b) ≡ true
behind_placed places nothing w = refl
behind_placed places (absent r) w = w
behind_placed places (node k n a r) w = (and_parts (well_placed (place_below (places 0) k) 0 a) _ (and_parts (fits (places 0) (sort_of k)) _ w).1).1

behind_values : (b : Forest) → has_plain_values b ≡ true → has_plain_values (behind b) ≡ true
behind_values nothing v = refl
behind_values (absent r) v = v
behind_values (node k n a r) v = values_behind k n a r v

function_once : (x : Text) (f : FunctionKind) (a b : Forest) → Dropped x (function_decls f a) (function_decls f b) → HasCells x (function_decls f a) → well_placed (function_place f) 0 b ≡ true → has_plain_values b ≡ true → OnceAt x (function_decls f b) (behind b)
function_once x f a b d c w v = (dropped_cells x d c, λ e. row_binds x (function_place f) 1 (behind b) (behind_placed (function_place f) b w) (behind_values b v) (code_free x f b (sym (declares_among (function_decls f b) x) ∙ e)))

block_once : (x : Text) (p : Place) (a b : Forest) → well_placed (λ i. p) 0 b ≡ true → has_plain_values b ≡ true → HasCells x (lexical b) → (Lacks x (names_in (lexical b)) → Free x (λ i. p) 0 b) → OnceAt x (lexical b) b
block_once x p a b w v c h = (c, λ e. row_binds x (λ i. p) 0 b w v (h (sym (declares_among (lexical b) x) ∙ e)))

same_vars_after : (x : Text) (d : Drop) (xs ys : List Text) → d ≡ of_block x → VarsChange d xs ys → Lacks x xs → Lacks x ys
same_vars_after x d xs ys e v h = ap (λ zs. is_among zs x) (sym (subst (λ o. VarsChange o xs ys) e v)) ∙ h

once_at : (w : Around) {a b : Forest} (k : Kind) (s : Step (entered w k a) a b) (d : Drop) → dropped s ≡ d → holds_well k a ≡ true → heads k a ≡ true → is_formed a ≡ true → (p : Place) → fits p (sort_of k) ≡ true → well_placed (place_below p k) 0 b ≡ true → has_plain_values b ≡ true → ClearAt k a → OnceIn k b d
once_at w (Kind.Program source) s d e m g f p i o u c = absurd (never_fits p i)
once_at w {a} {b} (Kind.Function how pure) s (of_block x) e m g f p i o u c =
    function_once x how a b (subst (λ v. DeclsChange v (function_decls how a) (function_decls how b)) e (function_change how pure s refl m g f)) (c x (subst (λ v. AmongIf v (var_names (behind (behind a)) ++ names_in (lexical (behind (behind a))))) e (body_among s (body_change how pure s refl m g f)))) o u
once_at w {a} {b} (Kind.Function how pure) s (of_function x) e m g f p i o u c =
    function_once x how a b (subst (λ v. DeclsChange v (function_decls how a) (function_decls how b)) e (function_change how pure s refl m g f)) (c x (subst (λ v. AmongIf v (var_names (behind (behind a)) ++ names_in (lexical (behind (behind a))))) e (body_among s (body_change how pure s refl m g f)))) o u
once_at w {a} {b} Kind.BlockStatement s (of_block x) e m g f p i o u c =
    let v : Lacks x (var_names b) = same_vars_after x (dropped s) (var_names a) (var_names b) e (vars_step s Kind.BlockStatement m (inr refl) f) (passing_free s x e) in
    block_once x lists a b o u (row_cells x (λ i. lists) 0 b (λ i. refl) o) (λ l. row_free x (λ i. lists) 0 b (λ i n. items_place x lists b refl refl l v))
once_at w {a} {b} Kind.Cases s (of_block x) e m g f p i o u c =
    let v : Lacks x (var_names b) = same_vars_after x (dropped s) (var_names a) (var_names b) e (vars_step s Kind.Cases m (inr refl) f) (passing_free s x e) in
    block_once x case_items a b o u (row_cells x (λ i. case_items) 0 b (λ i. refl) o) (λ l. row_free x (λ i. case_items) 0 b (λ i n. items_place x case_items b refl refl l v))
once_at w k s d e m g f p i o u c = tt

once_step : {w : Around} {t u : Forest} (s : Step w t u) (places : ℕ → Place) (at : ℕ) → is_formed t ≡ true → well_placed places at u ≡ true → has_plain_values u ≡ true → Clear t → Once s
once_step (leaves g) places at f o v c = tt
once_step (empties h) places at f o v c = tt
once_step (unbinds i u h) places at f o v c = tt
once_step (states i u h) places at f o v c = tt
once_step (inside {w = w} {k = k} {n = n} {a = a} {b = b} {r = r} s) places at f o v c =
    let i = and_parts (fits (places at) (sort_of k)) _ o in
    let j = and_parts (well_placed (place_below (places at) k) 0 b) _ i.1 in
    let inner = values_below k n b r v in
    (once_at w k s (dropped s) refl (form_holds k a r f) (form_heads k a r f) (form_below k a r f) (places at) i.0 j.0 inner c.0, once_step s (place_below (places at) k) 0 (form_below k a r f) j.0 inner c.1)
once_step (behind_node {k = k} {n = n} {a = a} {r = r} {s = u} s) places at f o v c =
    once_step s places (suc at) (form_behind k a r f) (and_parts (well_placed (place_below (places at) k) 0 a) _ (and_parts (fits (places at) (sort_of k)) _ o).1).1 (values_behind k n a u v) c.2
once_step (behind_absent s) places at f o v c = once_step s places (suc at) f o v c

-- ---- modules

items_free : (x : Text) (b : Forest) → declares (module_decls b) x ≡ false → Free x (λ i. module_items) 0 b
items_free x b e =
    let h : Lacks x (names_in (all_so ready (var_names b) ++ lexical b)) = undeclared_right x (decl this_name ready ∷ []) (all_so ready (var_names b) ++ lexical b) (sym (declares_among (module_decls b) x) ∙ e) in
    let v : Lacks x (var_names b) = undeclared_so x ready (var_names b) (undeclared_left x (all_so ready (var_names b)) (lexical b) h) in
    row_free x (λ i. module_items) 0 b (λ i n. items_place x module_items b refl refl (undeclared_right x (all_so ready (var_names b)) (lexical b) h) v)

list_once : (x : Text) (m : Note) (a b : Forest) → Dropped x (module_decls a) (module_decls b) → well_placed (λ i. module_items) 0 b ≡ true → has_plain_values b ≡ true → ClearAt (Kind.Program source_type.Module) (alone Kind.Statements m a) → OnceAt x (module_decls b) b
list_once x m a b d w v c = (once_cells x (module_decls a) (module_decls b) d (c x), λ e. row_binds x (λ i. module_items) 0 b w v (items_free x b e))

top_once : (m : Note) (a b : Forest) (d : Drop) → DeclsChange d (module_decls a) (module_decls b) → well_placed (λ i. module_items) 0 b ≡ true → has_plain_values b ≡ true → ClearAt (Kind.Program source_type.Module) (alone Kind.Statements m a) → OnceIn (Kind.Program source_type.Module) (alone Kind.Statements m b) d
top_once m a b no_drop h w v c = tt
top_once m a b (of_block x) h w v c = list_once x m a b h w v c
top_once m a b (of_function x) h w v c = list_once x m a b h w v c

items_once : (n m : Note) (a u : Forest) (s : Step outermost (module_of n m a) u) → InItems n m a u s
    → is_formed (module_of n m a) ≡ true → is_well_placed u ≡ true → Clear (module_of n m a) → Once s
items_once n m a _ _ (in_items {b = b} s) f w c =
    let h : is_formed (alone Kind.Statements m a) ≡ true = form_below (Kind.Program source_type.Module) (alone Kind.Statements m a) nothing f in
    let g : is_formed a ≡ true = form_below Kind.Statements a nothing h in
    let l : holds_well Kind.Statements a ≡ true = form_holds Kind.Statements a nothing h in
    let k : Forest = alone Kind.Statements m b in
    let v : well_placed (λ i. program_list) 0 k ≡ true = (and_parts (well_placed (λ i. program_list) 0 k) (has_plain_values k) w).0 in
    let o : well_placed (λ i. module_items) 0 b ≡ true = (and_parts (well_placed (λ i. module_items) 0 b) true v).0 in
    let d = module_lists (dropped s) (var_names a) (var_names b) (lexical a) (lexical b) (vars_step s Kind.Statements l (inl refl) g) (lexical_step s Kind.Statements l refl (inl refl) g) in
    let u : has_plain_values b ≡ true = values_below Kind.Statements m b nothing (and_parts (well_placed (λ i. program_list) 0 k) (has_plain_values k) w).1 in
    (top_once m a b (dropped s) d o u c.0, (tt, once_step s (λ i. module_items) 0 g o u c.1.1))

pub module_once : (n m : Note) (a u : Forest) (s : Step outermost (module_of n m a) u) → is_formed (module_of n m a) ≡ true → is_well_placed u ≡ true → Clear (module_of n m a) → Once s
module_once n m a u s f w c = items_once n m a u s (in_its_items n m a u s) f w c
