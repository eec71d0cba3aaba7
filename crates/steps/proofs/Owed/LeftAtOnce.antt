-- A statement that only leaves the one with a label goes on as a jump to that does, but for the cells of the blocks around the jump.
use Rattle.std.proofs.Common.{◌≡◌, ◌∙◌, ◌<◌, ℕ, List, [], ◌∷◌, Bool, true, false, not, Some, None, suc, if◌then◌else◌, arith, refl, sym, ap, subst, true≢false}
use Rattle.std.proofs.lemmas.Bool.{ne_eqb}
use Rattle.std.proofs.lemmas.Slice.Eq.{bytes_eq-Decides}
use Rattle.std.specs.Str.{bytes_eq}
use Rattle.js_syntax.specs.declared.kind.FunctionKind.TheVariants as function_kind
use Rattle.js_syntax.specs.declared.node_kind.NodeKind.{NodeKind as Kind}
use Rattle.js_syntax.specs.declared.node_kind.NodeKind.TheVariants.{Statements as statements, BlockStatement as block_statement, BreakStatement as break_statement, LabeledStatement as labeled_statement}
use Rattle.js_syntax.specs.Node.{Forest, Note, nothing, node, absent}
use Rattle.js_syntax.proofs.Truth.{first_of_both, second_of_both}
use Rattle.js_meaning.specs.Value.{Text, Env}
use Rattle.js_meaning.specs.State.{State, Cell, normal, breaks, Out, M, more, go_on, bind, done, choose, if_normal, seq, alloc, put}
use Rattle.js_meaning.specs.Scope.{Decl, decl, waiting, ready, linked, left_out, declare, lexical, start_item, start}
use Rattle.js_meaning.specs.Host.{Enter}
use Rattle.js_meaning.specs.Node.{Ask, run, need, each}
use Rattle.js_meaning.specs.Statement.{after_label}
use Rattle.js_meaning.specs.Meaning.{eval}
use Rattle.js_meaning_near.specs.Quiet.{OnlyAllocates, LeadsFrom, Leads, goes_on_as, stops_before}
use Rattle.js_meaning_near.specs.Near.{meaning}
use Rattle.known_tests.proofs.Taken.{unknown_leads}
use Rattle.steps.specs.Allowed.Branches.{is_handler, lets_only, stays_inside_at, inside_from, stays_inside, declares_none, declares_no_name}
use Rattle.steps.specs.Allowed.IdleStatement.{leaves_at_once}
use Rattle.steps.proofs.Owed.LastPart.{leads_later, leads_itself}

no_kind : {A : Type 0} → false ≡ true → A
no_kind e = absurd (true≢false (sym e))

-- ---- what declares names in itself alone starts nothing where it is entered

item_starts : (k : Kind) (a : Forest) (i : M → M) (env : Env) (m : M) → stays_inside_at k (lets_only a) (inside_from (is_handler k) a) ≡ true → (stays_inside a ≡ true → (m : M) → i m ≡ m) → start_item k a i env m ≡ m
item_starts (Kind.Function function_kind.Declaration pure) a i env m h g = no_kind h
item_starts (Kind.ExportNamedDeclaration None) a i env m h g = g h m
item_starts Kind.ExportDefaultDeclaration (node (Kind.Function function_kind.Declaration pure) n b r) i env m h g = no_kind h
item_starts Kind.ExportDefaultDeclaration a i env m h g = g h m
item_starts Kind.FunctionBody a i env m h g = g h m
item_starts statements a i env m h g = g h m
item_starts Kind.Cases a i env m h g = g h m
item_starts Kind.SwitchCase a i env m h g = g h m
item_starts k a i env m h g = refl

starts_none : (a : Forest) (env : Env) (m : M) → stays_inside a ≡ true → start a env m ≡ m
unfolding start
starts_none nothing env m h = refl
starts_none (absent r) env m h = starts_none r env m h
starts_none (node k n a r) env m h =
    let here = stays_inside_at k (lets_only a) (inside_from (is_handler k) a) in
    item_starts k a (start a env) env (start r env m) (first_of_both here (stays_inside r) h) (λ g m. starts_none a env m g) ∙ starts_none r env m (second_of_both here (stays_inside r) h)

-- ---- where a scope is entered

put_elsewhere : (f : ℕ → Cell) (i : ℕ) (c : Cell) (j : ℕ) → j < i → put f i c j ≡ f j
put_elsewhere f i c j h = ap (λ b. if b then c else f j) (ne_eqb j i (λ e. Prim.omega (arith, h, e)))

allocates_cell : (s : State) (c : Cell) → OnlyAllocates s (record s { fresh = suc s.fresh; store = put s.store s.fresh c })
allocates_cell s c = record { budget = refl; fresh = Prim.omega arith; store = λ i h. put_elsewhere s.store s.fresh c i h; globals = λ x. refl; imports = λ x y. refl; shown = refl; moves = refl; exports = refl; stars = refl }

alloc_leads : (c : Cell) (k : ℕ → M) (m : M) → ((i : ℕ) → Leads (k i) m) → Leads (alloc c k) m
unfolding alloc
alloc_leads c k m h = record { leads = λ s. leads_later (allocates_cell s c) ((h s.fresh).leads _) }

declare_leads : (ds : List Decl) (env : Env) (k : Env → M) (m : M) → ((env : Env) → Leads (k env) m) → Leads (declare ds env k) m
unfolding declare
declare_leads [] env k m h = h env
declare_leads (decl x (waiting constant) ∷ ds) env k m h = alloc_leads _ _ m (λ i. declare_leads ds _ k m h)
declare_leads (decl x ready ∷ ds) env k m h = alloc_leads _ _ m (λ i. declare_leads ds _ k m h)
declare_leads (decl x (linked source name) ∷ ds) env k m h = declare_leads ds _ k m h
declare_leads (decl x left_out ∷ ds) env k m h = declare_leads ds _ k m h

-- ---- a jump

abbrev jump : Text → M
jump l = done (breaks (Some l))

-- what stands behind it doesn't run
cut_from : (l : Text) (k : M) (s : State) (o : Out) → LeadsFrom s (jump l) o → LeadsFrom s (jump l) (go_on o (if_normal k))
unfolding done
cut_from l k s _ (goes_on_as a) = goes_on_as a
cut_from l k s _ stops_before = stops_before

cut_leads : (l : Text) (m k : M) → Leads m (jump l) → Leads (seq m k) (jump l)
unfolding bind
cut_leads l m k h = record { leads = λ s. cut_from l k s (m s) (h.leads s) }

-- another label lets it pass
passes : (l : Text) (b : Bool) → b ≡ false → (s z : State) → OnlyAllocates s z → LeadsFrom s (jump l) (more [] (choose b (done normal) (jump l) z))
unfolding done choose
passes l false e s z a = goes_on_as a
passes l true e s z a = no_kind (sym e)

pass_from : (l m : Text) → bytes_eq m l ≡ false → (s : State) (o : Out) → LeadsFrom s (jump l) o → LeadsFrom s (jump l) (go_on o (after_label m))
unfolding done
pass_from l m other s _ (goes_on_as {z = z} a) = passes l (bytes_eq m l) other s z a
pass_from l m other s _ stops_before = stops_before

pass_leads : (l m : Text) (j : M) → bytes_eq m l ≡ false → Leads j (jump l) → Leads (bind j (after_label m)) (jump l)
unfolding bind
pass_leads l m j other h = record { leads = λ s. pass_from l m other s (j s) (h.leads s) }

-- and its own ends it
arrives : (l : Text) (b : Bool) → b ≡ true → (s z : State) → OnlyAllocates s z → LeadsFrom s (done normal) (more [] (choose b (done normal) (jump l) z))
unfolding done choose
arrives l true e s z a = goes_on_as a
arrives l false e s z a = no_kind e

arrive_from : (l : Text) (s : State) (o : Out) → LeadsFrom s (jump l) o → LeadsFrom s (done normal) (go_on o (after_label l))
unfolding done
arrive_from l s _ (goes_on_as {z = z} a) = arrives l (bytes_eq l l) ((bytes_eq-Decides l l).1 refl) s z a
arrive_from l s _ stops_before = stops_before

pub arrive_leads : (l : Text) (j : M) → Leads j (jump l) → Leads (bind j (after_label l)) (done normal)
unfolding bind
arrive_leads l j h = record { leads = λ s. arrive_from l s (j s) (h.leads s) }

-- ---- the statement

-- it declares no name around it, or none but in the blocks around it
pub data Calm (k : Kind) (a : Forest) : Type 0 where
  outside : declares_no_name k a ≡ true → Calm k a
  in_block : stays_inside_at k (lets_only a) (inside_from (is_handler k) a) ≡ true → Calm k a

first_calm : (k : Kind) (n : Note) (b r : Forest) → stays_inside (node k n b r) ≡ true → Calm k b
first_calm k n b r h = in_block (first_of_both (stays_inside_at k (lets_only b) (inside_from (is_handler k) b)) (stays_inside r) h)

first_outside : (k : Kind) (n : Note) (b r : Forest) → declares_none (node k n b r) ≡ true → Calm k b
first_outside k n b r h = outside (first_of_both (declares_no_name k b) (declares_none r) h)

label_calm : (m : Text) (k : Kind) (n : Note) (b r : Forest) → Calm (labeled_statement m) (node k n b r) → Calm k b
label_calm m k n b r (outside h) = first_outside k n b r h
label_calm m k n b r (in_block h) = first_calm k n b r h

list_calm : (k : Kind) (n : Note) (b r : Forest) → Calm statements (node k n b r) → Calm k b
list_calm k n b r (outside h) = first_outside k n b r h
list_calm k n b r (in_block h) = first_calm k n b r h

block_calm : (a : Forest) → Calm block_statement a → stays_inside a ≡ true
block_calm a (outside h) = h
block_calm a (in_block h) = h

differs : (b : Bool) → not b ≡ true → b ≡ false
differs false h = refl
differs true h = no_kind h

pub left_at_once : (E : Enter) (l : Text) (k : Kind) (a : Forest) (q : Ask) (env : Env) → leaves_at_once l k a ≡ true → Calm k a → Leads (meaning E k a q env) (jump l)
unfolding eval need each
left_at_once E l (break_statement (Some m)) a (run ls) env h c = subst (λ x. Leads (jump x) (jump l)) ((bytes_eq-Decides l m).0 h) (leads_itself (jump l))
left_at_once E l (break_statement (Some m)) a q env h c = unknown_leads (jump l)
left_at_once E l (break_statement None) a q env h c = no_kind h
left_at_once E l (labeled_statement m) (node k n b r) (run ls) env h c =
    pass_leads l m (meaning E k b (run (m ∷ ls)) env) (differs (bytes_eq m l) (first_of_both (not (bytes_eq m l)) (leaves_at_once l k b) h)) (left_at_once E l k b (run (m ∷ ls)) env (second_of_both (not (bytes_eq m l)) (leaves_at_once l k b) h) (label_calm m k n b r c))
left_at_once E l (labeled_statement m) (node k n b r) q env h c = unknown_leads (jump l)
left_at_once E l (labeled_statement m) nothing q env h c = no_kind h
left_at_once E l (labeled_statement m) (absent r) q env h c = no_kind h
left_at_once E l block_statement (node k n b r) (run ls) env h c =
    let a = node k n b r in
    let inside = block_calm a c in
    declare_leads (lexical a) env _ (jump l) (λ env. subst (λ m. Leads m (jump l)) (sym (starts_none a env (meaning E k b (run ls) env) inside)) (left_at_once E l k b (run ls) env h (first_calm k n b r inside)))
left_at_once E l block_statement (node k n b r) q env h c = unknown_leads (jump l)
left_at_once E l block_statement nothing q env h c = no_kind h
left_at_once E l block_statement (absent r) q env h c = no_kind h
left_at_once E l statements (node k n b r) (run ls) env h c = cut_leads l (meaning E k b (run ls) env) (each (run ls) (eval E r) env) (left_at_once E l k b (run ls) env h (list_calm k n b r c))
left_at_once E l statements (node k n b r) q env h c = unknown_leads (jump l)
left_at_once E l statements nothing q env h c = no_kind h
left_at_once E l statements (absent r) q env h c = no_kind h
left_at_once E l k a q env h c = no_kind h
