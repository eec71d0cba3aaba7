-- A statement of a call that is gone at one place: all around it stays, and the way to it is one that pays.
use Rattle.std.proofs.Common.{◌≡◌, ◌+◌, arith, suc, List, [], ◌∷◌, ◌++◌, ◌∙◌, Some, refl, sym, ap, subst}
use Rattle.std.specs.Prelude.{Bool, true, false, ◌||◌}
use Rattle.std.specs.Str.{bytes_eq}
use Rattle.js_syntax.specs.declared.node_kind.NodeKind.{NodeKind as Kind}
use Rattle.js_syntax.specs.declared.kind.FunctionKind.{FunctionKind}
use Rattle.js_syntax.specs.declared.kind.FunctionKind.TheVariants as function_kind
use Rattle.js_syntax.specs.Facts.{is_core}
use Rattle.js_syntax.specs.Node.{Note, Forest, nothing, node, absent}
use Rattle.js_meaning.specs.Value.{Text, Env, Value, undef}
use Rattle.js_meaning.specs.State.{State, done, gives_all, with_all}
use Rattle.js_meaning.specs.Scope.{first_of, Decl, decl, waiting, named_so, own_name, item_decls, lexical, function_decls, module_decls}
use Rattle.js_meaning.specs.Host.{Enter}
use Rattle.js_meaning.specs.Node.{now, values}
use Rattle.js_meaning.specs.Meaning.{eval}
use Rattle.js_meaning.specs.Module.{entries, stars, requests}
use Rattle.js_meaning.specs.Kept.{Recovered}
use Rattle.js_meaning_near.specs.Wasted.{EndsSoon, ends_soon, IsSilent, Owing, owing_part, owing_silent, owing_known, owing_call}
use Rattle.js_meaning_near.specs.Names.{silent_function, owed_function, known, Names, owing_names, Binds, Decls, Copied, declared, names_below}
use Rattle.js_meaning_near.specs.Near.{Row, fields, switch_fields, items, is_passage, alone_in, Okay, OwedEffects, Near, near_nothing, near_absent, near_silent, Code, near_code, owing_code, Owes, owes_here, owes_item, owes_behind, owes_absent, owes_below, OwesBehind, behind_first, behind_no_first, near_while, near_do, near_for, meaning, module_of, owing_within, owing_itself}
use Rattle.js_meaning_near.specs.Purpose.{Purposes, purposes_behind, for_values}
use Rattle.js_meaning_near.specs.Fit.{whole, others, IfCore, NodeFits, names_after, around_code, within_code, FunctionOk, Fits}
use Rattle.js_meaning_near.specs.Once.{NodeStays, SameFirst, same_node_first, same_absent_first}
use Rattle.js_meaning_near.specs.Avoid.{declares, code_declares, CasesOk}
use Rattle.js_meaning_near.specs.Known.{Knows, DeclaredOnce, code_of, called, Steady}
use Rattle.js_meaning_near.specs.Rewritten.{SameNames, Rewritten, no_more, behind_absent as rewritten_absent, at_place, behind_node, in_node, in_code, behind_name, behind_no_name}
use Rattle.js_meaning_near.specs.Unused.{Needed, all_needed, needed, not_needed, kind_of, below_of}
use Rattle.js_meaning_near.specs.Local.{KeysStay}
use Rattle.js_meaning_near.specs.Gone.{Bystander, stays, is_function, Bystanders, no_bystander, bystander, behind_absent, Gone, comes_to_arguments, leaves_list, gone_behind, gone_behind_none, gone_below, GoneBehind, gone_behind_first, gone_behind_no_first, GoneInCode, gone_in_code}
use Rattle.js_meaning_near.specs.Near.{FirstField, first_node, first_absent}
use Rattle.js_meaning_near.proofs.Nodes.{true_false}
use Rattle.js_meaning_near.proofs.Contexts.{owing_recovers}
use Rattle.js_meaning_near.proofs.Fit.{same_decls, same_copied, fit}
use Rattle.js_meaning_near.proofs.Once.{node_stays}
use Rattle.js_meaning_near.proofs.Avoid.{receiver_ok}
use Rattle.js_meaning_near.proofs.Rewritten.{name_kept, bound_kept, vars_kept, imports_kept, lexical_kept, items_stay, decls_from, declared_kept, decls_stay, function_with, code_stays, rewritten_near}
use Rattle.js_meaning_near.proofs.Known.{knows_after, knows_below, knows_code, knowing, exports_known, decls_kept, function_place}
use Rattle.js_meaning_near.proofs.Steady.{steady_fits}
use Rattle.js_meaning_near.proofs.Unused.{over, given_all, all_on, after_arguments, call_means, hoists_kind, all_nodes, stands}
use Rattle.js_meaning_near.proofs.Calls.{statement_place, statement_leaves, identity_silent, identity_fits}
use Rattle.js_meaning_near.proofs.Instances.{literal_silent}
use Rattle.js_meaning_near.specs.Examples.{function_of, call_statement}
use Rattle.js_syntax.specs.declared.value.LiteralValue.{LiteralValue as Literal}

-- the call, whose function's value is known: its arguments that aren't silent, and the call behind them

over_ends : (v : Value) (s : State) → EndsSoon s (over v s)
unfolding over done
over_ends v s = ends_soon (record { budget = refl; fresh = omega arith; store = λ i h. refl; globals = λ x. refl; imports = λ x y. refl; shown = refl; moves = refl; exports = refl; stars = refl })

arguments_owing : {st : Names} {es ps : Forest} (E : Enter) (env : Env) (v this : Value) → IsSilent v → Binds st env → Needed st es ps → (k : List Value → List Value)
    → Owing E st env (with_all (values now (eval E es) env (λ vs. done (gives_all (k vs)))) (after_arguments E v this)) (eval E ps)
unfolding values eval after_arguments
arguments_owing {st = st} E env v this y b all_needed k = subst (λ m. Owing E st env m []) (sym (given_all (k []) (after_arguments E v this))) (owing_call v this (k []) y over_ends)
arguments_owing {st = st} E env v this y b (needed {k = l} {a = a} {r = r} {s = s} n) k =
    subst (λ m. Owing E st env m (Some (meaning E l a) ∷ eval E s)) (sym (all_on (meaning E l a now env) (λ u. values now (eval E r) env (λ vs. done (gives_all (k (u ∷ vs))))) (after_arguments E v this)))
    (owing_part (λ u. arguments_owing E env v this y b n (λ vs. k (u ∷ vs))))
arguments_owing {st = st} {ps = ps} E env v this y b (not_needed {k = l} {a = a} {r = r} q n) k =
    subst (λ m. Owing E st env m (eval E ps)) (sym (all_on (meaning E l a now env) (λ u. values now (eval E r) env (λ vs. done (gives_all (k (u ∷ vs))))) (after_arguments E v this)))
    (owing_silent (q.silent E env b) (λ u. arguments_owing E env v this y b n (λ vs. k (u ∷ vs))))

pub call_owing : (st : Names) (x : Text) (pure : Bool) (n m i j : Note) (es ps : Forest) → st x ≡ known owed_function → Needed st es ps → OwedEffects st (node (Kind.CallExpression false pure) n (called m i x es) nothing) (kind_of ps) (below_of j ps) ps
call_owing st x pure n m i j es ps q d = record {
  new_hoists = hoists_kind ps;
  owes = λ E env b ls. subst (λ o. Owing E st env o (eval E ps)) (call_means E env x pure n m i es ls) (owing_known {x = x} _ q (λ v y. arguments_owing E env v undef y b d (λ vs. vs)));
  drops_all = λ E env ls. stands E env j ls ps (all_nodes d);
}

-- what stands around it

bystander_rewritten : {x : Text} {us : Purposes} {p : Row} {k : Kind} {n : Note} {a r s : Forest} → Bystander x p k a → Rewritten (Knows x silent_function) whole (purposes_behind us) p r s → Rewritten (Knows x silent_function) whole us p (node k n a r) (node k n a s)
bystander_rewritten (stays h) t = behind_node (λ st g. h silent_function st g) t
bystander_rewritten (is_function e q h) t = function_place e (λ st g. q silent_function st tt g) (λ st g. h silent_function st g) t

all_rewritten : {x : Text} {p : Row} {us : Purposes} {r : Forest} → Bystanders x p r → Rewritten (Knows x silent_function) whole us p r r
all_rewritten no_bystander = no_more
all_rewritten (bystander b t) = bystander_rewritten b (all_rewritten t)
all_rewritten (behind_absent t) = rewritten_absent (all_rewritten t)

bystander_near : {x : Text} {p : Row} {k : Kind} {n : Note} {a r s : Forest} (st : Names) → Knows x owed_function st → Bystander x p k a → Near for_values p st r s → Near for_values p st (node k n a r) (node k n a s)
bystander_near {p = p} {k = k} {n = n} {a = a} st g (stays h) t = node_stays p st k n a (h owed_function st g) t
bystander_near {a = a} st g (is_function e q h) t =
    near_silent tt g.known_so e e (q owed_function st tt g) (near_code (same_decls st (function_decls function_kind.Declaration a)) (receiver_ok st function_kind.Declaration a) refl (fit others fields _ a (h owed_function st g))) t

all_near : {x : Text} {p : Row} {r : Forest} (st : Names) → Knows x owed_function st → Bystanders x p r → Near for_values p st r r
all_near st g no_bystander = near_nothing
all_near st g (bystander b t) = bystander_near st g b (all_near st g t)
all_near st g (behind_absent t) = near_absent (all_near st g t)

-- a node by itself

okay_alone : (st : Names) (k : Kind) → Okay items st k → Okay fields st k
okay_alone st Kind.Cases y = y
okay_alone st k y = y

items_alone : (st : Names) (k : Kind) (a : Forest) (core : Bool) → IfCore core (NodeFits items st k a (λ q r t. Fits q r t a)) → IfCore core (NodeFits fields st k a (λ q r t. Fits q r t a))
items_alone st k a false y = tt
items_alone st (Kind.Function f pure) a true y = y
items_alone st k a true y = (okay_alone st k y.0, y.1)

stays_alone : (p : Row) (st : Names) (k : Kind) (a : Forest) → NodeStays p st k a → NodeStays (alone_in p) st k a
stays_alone fields st k a y = y
stays_alone switch_fields st k a y = y
stays_alone items st k a y = items_alone st k a (is_core k) y

bystander_alone : {x : Text} {p : Row} {k : Kind} {n : Note} {a : Forest} (st : Names) → Knows x owed_function st → Bystander x p k a → Near for_values (alone_in p) st (node k n a nothing) (node k n a nothing)
bystander_alone {p = p} {k = k} {n = n} {a = a} st g (stays h) = node_stays (alone_in p) st k n a (stays_alone p st k a (h owed_function st g)) near_nothing
bystander_alone {a = a} st g (is_function e q h) =
    near_silent tt g.known_so e e (q owed_function st tt g) (near_code (same_decls st (function_decls function_kind.Declaration a)) (receiver_ok st function_kind.Declaration a) refl (fit others fields _ a (h owed_function st g))) near_nothing

-- passages

passage_okay : (p : Row) (st : Names) (k : Kind) → is_passage k ≡ true → CasesOk p k → Okay p st k
passage_okay p st Kind.Statements y c = tt
passage_okay p st Kind.BlockStatement y c = tt
passage_okay p st Kind.IfStatement y c = tt
passage_okay p st (Kind.LabeledStatement l) y c = tt
passage_okay p st Kind.SwitchStatement y c = tt
passage_okay p st Kind.Cases y c = c
passage_okay p st Kind.SwitchCase y c = tt
passage_okay p st Kind.TryStatement y c = tt
passage_okay p st Kind.CatchClause y c = tt
passage_okay p st Kind.FunctionBody y c = tt
passage_okay p st k y c = absurd (true_false (sym y))

passage_keys : (k : Kind) (a b : Forest) → is_passage k ≡ true → KeysStay k a b
passage_keys Kind.ObjectExpression a b y = absurd (true_false (sym y))
passage_keys k a b y = tt

pub gone_rewritten : {x : Text} {us : Purposes} {p : Row} {a b : Forest} → Gone x p a b → Rewritten (Knows x silent_function) whole us p a b
gone_rewritten (comes_to_arguments {es = es} {ps = ps} o y q g t) = statement_place o es ps y (λ st h. q silent_function st h) g (all_rewritten t)
gone_rewritten (leaves_list {es = es} y q t) = statement_leaves es y (λ st h. q silent_function st h) (all_rewritten t)
gone_rewritten (gone_behind b t) = bystander_rewritten b (gone_rewritten t)
gone_rewritten (gone_behind_none t) = rewritten_absent (gone_rewritten t)
gone_rewritten {x = x} {p = p} (gone_below {k = k} {a = a} {b = b} y c d g t) =
    in_node (λ st h. passage_okay p st k y c) (passage_keys k a b y) (knows_below x silent_function k b d) (gone_rewritten g) (all_rewritten t)

pub gone_owes : {x : Text} {p : Row} {a b : Forest} (st : Names) → Knows x owed_function st → Gone x p a b → Owes p st a b
gone_owes {x = x} st h (comes_to_arguments {pure = pure} {m = m} {i = i} {j = j} {es = es} {ps = ps} o y q g t) = owes_here (call_owing st x pure m i j o es ps h.known_so (q owed_function st h)) (fit whole fields st ps (steady_fits x owed_function whole fields st ps h g)) (all_near st h t)
gone_owes {x = x} st h (leaves_list {pure = pure} {m = m} {i = i} {j = j} {es = es} y q t) = owes_item (call_owing st x pure m i j m es nothing h.known_so (q owed_function st h)) (all_near st h t)
gone_owes st h (gone_behind b t) = owes_behind (bystander_alone st h b) (gone_owes st h t)
gone_owes st h (gone_behind_none t) = owes_absent (gone_owes st h t)
gone_owes {x = x} {p = p} st h (gone_below {k = k} {b = b} y c d g t) =
    owes_below y (passage_okay p st k y c) (decls_from st (declared_kept k (gone_rewritten {us = for_values} g))) (gone_owes (names_below k st (names_after st (declared k b))) (knows_below x owed_function k b d st h) g) (all_near st h t)

-- modules

gone_decls : {x : Text} {a b : Forest} → Gone x items a b → module_decls a ≡ module_decls b
gone_decls g = decls_kept (gone_rewritten {us = for_values} g)

-- where a call of a silent function leaves the module itself, the old one comes back within twice the bound, and one more
pub gone_recovers : (n m : Note) (x : Text) (a b : Forest) → DeclaredOnce x (module_decls b) → Gone x items a b → entries a ≡ entries b → stars a ≡ stars b → requests a ≡ requests b → Recovered (λ bound. suc (bound + bound)) (module_of n m a) (module_of n m b)
gone_recovers n m x a b d g e t r =
    let k = knowing x owed_function owing_names (λ y h. tt) refl d in
    owing_recovers n m n m (owing_itself (subst (λ ds. Decls owing_names ds (module_decls b) k.within) (sym (gone_decls g)) k.decls) e (exports_known x owed_function k.within (entries a) k.knows) t r (gone_owes k.within k.knows g))

-- and so where one each leaves functions of it
pub rewritten_recovers : (n m : Note) (x : Text) (a b : Forest) → DeclaredOnce x (module_decls b) → Rewritten (Knows x owed_function) whole for_values items a b → entries a ≡ entries b → stars a ≡ stars b → requests a ≡ requests b → Recovered (λ bound. suc (bound + bound)) (module_of n m a) (module_of n m b)
rewritten_recovers n m x a b d s e t r =
    let k = knowing x owed_function owing_names (λ y h. tt) refl d in
    owing_recovers n m n m (owing_within (subst (λ ds. Decls owing_names ds (module_decls b) k.within) (sym (decls_kept s)) k.decls) e (exports_known x owed_function k.within (entries a) k.knows) t r (rewritten_near k.within k.knows s))

-- functions

code_rewritten : {x : Text} {a b : Forest} → GoneInCode x a b → Rewritten (Knows x silent_function) others for_values fields a b
code_rewritten (gone_in_code same_node_first h g) = behind_name (behind_node (λ st k. h silent_function st k) (gone_rewritten g))
code_rewritten (gone_in_code same_absent_first h g) = behind_no_name (behind_node (λ st k. h silent_function st k) (gone_rewritten g))

first_fields : {a b c d : Forest} → SameFirst a b c d → FirstField a c × FirstField b d
first_fields same_node_first = (first_node, first_node)
first_fields same_absent_first = (first_absent, first_absent)

declares_front : (ds es : List Decl) (x : Text) → declares (ds ++ es) x ≡ false → declares ds x ≡ false
declares_front [] es x e = refl
declares_front (decl y way ∷ ds) es x e = second_known (bytes_eq y x) (declares (ds ++ es) x) (declares ds x) e (λ h. declares_front ds es x h)
  where
    second_known : (b c d : Bool) → (b || c) ≡ false → (c ≡ false → d ≡ false) → (b || d) ≡ false
    second_known true c d e h = e
    second_known false c d e h = h e

code_owes : {x : Text} {a b : Forest} (st : Names) (f : FunctionKind) → declares (code_declares f b) x ≡ false → Knows x owed_function st → GoneInCode x a b → Code (around_code st f b) f a b
code_owes {x = x} {b = b} st f e h (gone_in_code {ps = ps} {i = i} s k g) =
    let within : Knows x owed_function (within_code st f b) = knows_code x owed_function f b e st h in
    let firsts = first_fields s in
    owing_code x (knows_after x owed_function (named_so (waiting true) (own_name f b)) st (declares_front (named_so (waiting true) (own_name f b)) (function_decls f b) x e) h).known_so
    (decls_from (around_code st f b) (decls_stay f (code_rewritten (gone_in_code s k g)))) (receiver_ok (around_code st f b) f b) firsts.0 firsts.1
    (node_stays fields (within_code st f b) Kind.Parameters i ps (k owed_function (within_code st f b) within) near_nothing) (gone_owes (within_code st f b) within g)

same_code_names : {x : Text} {a b : Forest} (f : FunctionKind) (pure : Bool) → GoneInCode x a b → SameNames (Kind.Function f pure) a (Kind.Function f pure) b
same_code_names {a = a} {b = b} f pure g =
    let s = code_rewritten g in
    record { name = refl; bound = refl; vars = refl; imports = λ source. imports_kept source s; items = ap (item_decls (Kind.Function f pure) a) (lexical_kept s) ∙ items_stay (Kind.Function f pure) a b (lexical b) (bound_kept s) (name_kept s) (λ source. imports_kept source s) }

-- a function from whose body a call leaves, as a place of change
pub owing_place : {x : Text} {us : Purposes} {p : Row} {pure : Bool} {n m : Note} {a b r s : Forest} (f : FunctionKind) → declares (code_declares f b) x ≡ false → GoneInCode x a b → ((st : Names) → Knows x owed_function st → FunctionOk st f a) → Rewritten (Knows x owed_function) whole (purposes_behind us) p r s
    → Rewritten (Knows x owed_function) whole us p (node (Kind.Function f pure) n a r) (node (Kind.Function f pure) m b s)
owing_place {pure = pure} f e g y t = at_place (same_code_names f pure g) (λ st h o. function_with f (code_rewritten g) (code_stays st f (code_rewritten g) (y st h)) (code_owes st f e h g) o) t

-- the same for what is kept
pub silent_place : {x : Text} {us : Purposes} {p : Row} {pure : Bool} {n m : Note} {a b r s : Forest} (f : FunctionKind) → declares (code_declares f b) x ≡ false → GoneInCode x a b → ((st : Names) → Knows x silent_function st → FunctionOk st f a) → Rewritten (Knows x silent_function) whole (purposes_behind us) p r s
    → Rewritten (Knows x silent_function) whole us p (node (Kind.Function f pure) n a r) (node (Kind.Function f pure) m b s)
silent_place {x = x} {b = b} f e g y t = in_code (λ st h. code_stays st f (code_rewritten g) (y st h)) (knows_code x silent_function f b e) (code_rewritten g) t

-- loops

while_names : {x : Text} {a b : Forest} → Gone x fields a b → SameNames Kind.WhileStatement a Kind.WhileStatement b
while_names g = let s = gone_rewritten {us = for_values} g in record { name = refl; bound = bound_kept s; vars = vars_kept s; imports = λ source. imports_kept source s; items = refl }

do_names : {x : Text} {a b : Forest} → Gone x fields a b → SameNames Kind.DoWhileStatement a Kind.DoWhileStatement b
do_names g = let s = gone_rewritten {us = for_values} g in record { name = refl; bound = bound_kept s; vars = vars_kept s; imports = λ source. imports_kept source s; items = refl }

for_rewritten : {x : Text} {us : Purposes} {a b : Forest} → GoneBehind x a b → Rewritten (Knows x silent_function) whole us fields a b
for_rewritten (gone_behind_first h g) = behind_node (λ st k. h silent_function st k) (gone_rewritten g)
for_rewritten (gone_behind_no_first g) = rewritten_absent (gone_rewritten g)

for_names : {x : Text} {a b : Forest} → GoneBehind x a b → SameNames Kind.ForStatement a Kind.ForStatement b
for_names g = let s = for_rewritten {us = for_values} g in record { name = refl; bound = bound_kept s; vars = vars_kept s; imports = λ source. imports_kept source s; items = refl }

for_first : {x : Text} {a b : Forest} → GoneBehind x a b → lexical (first_of a) ≡ lexical (first_of b)
for_first (gone_behind_first h g) = refl
for_first (gone_behind_no_first g) = refl

for_owes : {x : Text} {a b : Forest} (st : Names) → Knows x owed_function st → GoneBehind x a b → OwesBehind st a b
for_owes st k (gone_behind_first {k = l} {n = n} {a = a} h g) = behind_first (node_stays fields st l n a (h owed_function st k) near_nothing) (gone_owes st k g)
for_owes st k (gone_behind_no_first g) = behind_no_first (gone_owes st k g)

pub owing_while : {x : Text} {us : Purposes} {p : Row} {n m : Note} {a b r s : Forest} → Gone x fields a b → Rewritten (Knows x owed_function) whole (purposes_behind us) p r s → Rewritten (Knows x owed_function) whole us p (node Kind.WhileStatement n a r) (node Kind.WhileStatement m b s)
owing_while {x = x} g t = at_place (while_names g) (λ st h o. near_while x h.known_so (gone_owes st h g) o) t

pub owing_do : {x : Text} {us : Purposes} {p : Row} {n m : Note} {a b r s : Forest} → Gone x fields a b → Rewritten (Knows x owed_function) whole (purposes_behind us) p r s → Rewritten (Knows x owed_function) whole us p (node Kind.DoWhileStatement n a r) (node Kind.DoWhileStatement m b s)
owing_do {x = x} g t = at_place (do_names g) (λ st h o. near_do x h.known_so (gone_owes st h g) o) t

for_near : {x : Text} {us : Purposes} {p : Row} {n m : Note} {a b r s : Forest} (st : Names) → declares (lexical (first_of b)) x ≡ false → GoneBehind x a b → Knows x owed_function st → Near (purposes_behind us) p st r s → Near us p st (node Kind.ForStatement n a r) (node Kind.ForStatement m b s)
for_near {x = x} {b = b} st e g h o =
    let t = names_after st (lexical (first_of b)) in
    let k = knows_after x owed_function (lexical (first_of b)) st e h in
    near_for x k.known_so (decls_from st (for_first g)) (subst (λ ds. Copied t ds (lexical (first_of b))) (sym (for_first g)) (same_copied t (lexical (first_of b)))) (for_owes t k g) o

pub owing_for : {x : Text} {us : Purposes} {p : Row} {n m : Note} {a b r s : Forest} → declares (lexical (first_of b)) x ≡ false → GoneBehind x a b → Rewritten (Knows x owed_function) whole (purposes_behind us) p r s
    → Rewritten (Knows x owed_function) whole us p (node Kind.ForStatement n a r) (node Kind.ForStatement m b s)
owing_for e g t = at_place (for_names g) (λ st h o. for_near st e g h o) t

-- the same for what is kept

pub silent_while : {x : Text} {us : Purposes} {p : Row} {n m : Note} {a b r s : Forest} → Gone x fields a b → Rewritten (Knows x silent_function) whole (purposes_behind us) p r s → Rewritten (Knows x silent_function) whole us p (node Kind.WhileStatement n a r) (node Kind.WhileStatement m b s)
silent_while g t = in_node (λ st h. tt) tt (λ st h. h) (gone_rewritten g) t

pub silent_do : {x : Text} {us : Purposes} {p : Row} {n m : Note} {a b r s : Forest} → Gone x fields a b → Rewritten (Knows x silent_function) whole (purposes_behind us) p r s → Rewritten (Knows x silent_function) whole us p (node Kind.DoWhileStatement n a r) (node Kind.DoWhileStatement m b s)
silent_do g t = in_node (λ st h. tt) tt (λ st h. h) (gone_rewritten g) t

pub silent_for : {x : Text} {us : Purposes} {p : Row} {n m : Note} {a b r s : Forest} → declares (lexical (first_of b)) x ≡ false → GoneBehind x a b → Rewritten (Knows x silent_function) whole (purposes_behind us) p r s
    → Rewritten (Knows x silent_function) whole us p (node Kind.ForStatement n a r) (node Kind.ForStatement m b s)
silent_for {x = x} {b = b} e g t = in_node (λ st h. tt) tt (knows_below x silent_function Kind.ForStatement b e) (for_rewritten g) t

-- what only reads the name stands by

pub steady_bystanders : (x : Text) (p : Row) (a : Forest) → Steady x whole p a → Bystanders x p a
steady_bystanders x p nothing y = no_bystander
steady_bystanders x p (absent c) y = behind_absent (steady_bystanders x p c y)
steady_bystanders x p (node k n a c) y = bystander (stays (λ f st h. (steady_fits x f whole p st (node k n a nothing) h (y.0, tt)).0)) (steady_bystanders x p c y.1)

-- `function x(y) { return y; } x(f(), value);`
pub identity_recovers : (n : Note) (x y f : Text) (v : Literal) (r : Forest) →
    let ps : Forest = node (Kind.BindingName y) n nothing nothing in
    let b : Forest = node Kind.ReturnStatement n (node (Kind.ReferenceName y) n nothing nothing) nothing in
    DeclaredOnce x (module_decls (function_of n x ps b (call_statement n f nothing r))) → declares (code_declares function_kind.Declaration (code_of n n n n x ps b)) x ≡ false → Steady x whole items r
    → Recovered (λ bound. suc (bound + bound)) (module_of n n (function_of n x ps b (call_statement n x (node (Kind.CallExpression false false) n (called n n f nothing) (node (Kind.Literal v) n nothing nothing)) r))) (module_of n n (function_of n x ps b (call_statement n f nothing r)))
identity_recovers n x y f v r d e g =
    gone_recovers n n x _ _ d
    (gone_behind (is_function refl (λ g st o h. identity_silent n x y st) (λ g st h. identity_fits n x y g st e h))
    (comes_to_arguments {ps = node (Kind.CallExpression false false) n (called n n f nothing) nothing} n (record { name = refl; bound = refl; vars = refl; imports = λ source. refl; items = refl })
    (λ g st h. needed (not_needed (literal_silent st v nothing) all_needed)) ((tt, tt, ((tt, tt, tt), ((tt, tt, tt), tt))), tt) (steady_bystanders x items r g))) refl refl refl
