-- A core module does the same without an import that has no names, where a module is asked for before it that it asks for.
use Rattle.std.proofs.Common.{◌≡◌, ◌∙◌, inl, inr, ℕ, suc, ◌==◌, List, [], ◌∷◌, ◌++◌, Bool, true, false, ◌||◌, if◌then◌else◌, Some, None, append-nil, bytes_eq, refl, sym, ap, ap₂, subst, true≢false}
use mathlib.Core.Path.{fun_ext}
use Rattle.std.proofs.lemmas.Bool.{or_cases}
use Rattle.std.proofs.lemmas.Slice.Eq.{bytes_eq-Decides}
use Rattle.js_syntax.specs.Class.{root}
use Rattle.js_syntax.specs.declared.node_kind.NodeKind.{NodeKind as Kind}
use Rattle.js_syntax.specs.Facts.{is_core}
use Rattle.js_syntax.specs.declared.kind.FunctionKind.{FunctionKind}
use Rattle.js_syntax.specs.declared.kind.FunctionKind.TheVariants as function_kind
use Rattle.js_syntax.specs.declared.scalar.SourceType.{SourceType}
use Rattle.js_syntax.specs.Node.{Forest, Tree, Note, nothing, node, below_of}
use Rattle.js_meaning.specs.Value.{Text, Env, this_name}
use Rattle.js_meaning.specs.Trace.{Ending, ended, Run}
use Rattle.js_meaning.specs.State.{set_exports, M, normal, Out, goes, stops, more, bind, done, seq}
use Rattle.js_meaning.specs.Scope.{ready, decl, all_so, item_decls, lexical, vars_of, var_names, start_item, start, declare}
use Rattle.js_meaning.specs.Module.{sorted, resolve_entries, requests_of, requests, without as others, distinct, load_all, entries_of, entries, star_of, stars, exporting}
use Rattle.js_meaning.specs.Host.{Enter}
use Rattle.js_meaning.specs.Node.{run as run_under, each}
use Rattle.js_meaning.specs.Meaning.{does, if_core, eval, enter}
use Rattle.js_meaning.specs.Run.{finish, finally, module_does, first_state, seen, run_within, run}
use Rattle.js_meaning.specs.Kept.{refines, Refined}
use Rattle.js_meaning_near.specs.Near.{module_of}
use Rattle.json_shape.specs.Shape.{Fits}
use Rattle.form_rules.specs.Form.{IsWellFormed}
use Rattle.scope_laws.specs.Place.{Around, first, behind, behind_none, under, plug}
use Rattle.scope_laws.specs.Lists.{without}
use Rattle.steps.specs.Names.{is_among}
use Rattle.steps.specs.Steps.{all_core}
use Rattle.steps.proofs.Among.{among_joined}
use Rattle.steps.specs.Naming.Placed.{Place, sort_of, no_node, names, parameters, code, program_list, module_items, declared, cases, others as other_place, name_place, statements_place, specifier_place, specifiers, place_below, fits, well_placed, has_plain_values, is_well_placed}
use Rattle.steps.proofs.Naming.Sites.{placed_here, placed_below, placed_behind}
use Rattle.js_syntax.proofs.Truth.{first_of_both}
use Rattle.steps.specs.Allowed.RepeatedImport.{asks_for, is_asked_before, import_of}
use Rattle.steps.specs.Owed.Owed.{LeftModule}
use Rattle.steps.proofs.Owed.ChoiceRuns.{module_placed}
use Rattle.steps.proofs.Owed.Focus.{something}
use Rattle.steps.proofs.Owed.ItemRows.{import_place}

-- ---- a list that is asked for twice has the same distinct sources

itself : (y : Text) → bytes_eq y y ≡ true
itself y = (bytes_eq-Decides y y).1 refl

-- without another in front
others_by : (y x : Text) (xs : List Text) (b : Bool) → bytes_eq x y ≡ b → others y (x ∷ xs) ≡ (if b then others y xs else x ∷ others y xs)
others_by y x xs b e = ap (λ c. if c then others y xs else x ∷ others y xs) e

twice_by : (y x : Text) (xs : List Text) (b : Bool) → bytes_eq x y ≡ b → others y (others y xs) ≡ others y xs → others y (if b then others y xs else x ∷ others y xs) ≡ (if b then others y xs else x ∷ others y xs)
twice_by y x xs true e h = h
twice_by y x xs false e h = others_by y x (others y xs) false e ∙ ap (λ l. x ∷ l) h

others_twice : (y : Text) (xs : List Text) → others y (others y xs) ≡ others y xs
others_twice y [] = refl
others_twice y (x ∷ xs) = twice_by y x xs (bytes_eq x y) refl (others_twice y xs)

both_by : (y z x : Text) (xs : List Text) (b c : Bool) → bytes_eq x y ≡ b → bytes_eq x z ≡ c → others y (others z xs) ≡ others z (others y xs)
    → others y (if c then others z xs else x ∷ others z xs) ≡ others z (if b then others y xs else x ∷ others y xs)
both_by y z x xs true true e f h = h
both_by y z x xs true false e f h = others_by y x (others z xs) true e ∙ h
both_by y z x xs false true e f h = h ∙ sym (others_by z x (others y xs) true f)
both_by y z x xs false false e f h = others_by y x (others z xs) false e ∙ ap (λ l. x ∷ l) h ∙ sym (others_by z x (others y xs) false f)

others_both : (y z : Text) (xs : List Text) → others y (others z xs) ≡ others z (others y xs)
others_both y z [] = refl
others_both y z (x ∷ xs) = both_by y z x xs (bytes_eq x y) (bytes_eq x z) refl refl (others_both y z xs)

-- of what isn't it
others_amid : (y : Text) (xs ys : List Text) → others y (distinct (xs ++ (y ∷ ys))) ≡ others y (distinct (xs ++ ys))
others_amid y [] ys = others_by y y (others y (distinct ys)) true (itself y) ∙ others_twice y (distinct ys)
others_amid y (x ∷ xs) ys =
    ap (λ l. if bytes_eq x y then l else x ∷ l)
    (others_both y x (distinct (xs ++ (y ∷ ys))) ∙ ap (others x) (others_amid y xs ys) ∙ others_both x y (distinct (xs ++ ys)))

pub distinct_again : (y : Text) (xs ys : List Text) → is_among xs y ≡ true → distinct (xs ++ (y ∷ ys)) ≡ distinct (xs ++ ys)
distinct_again y [] ys h = absurd (true≢false (sym h))
distinct_again y (x ∷ xs) ys h =
    elim (or_cases (bytes_eq x y) (is_among xs y) h) [
      | inl same ↦ ap (λ l. x ∷ l)
          (subst (λ z. others z (distinct (xs ++ (y ∷ ys))) ≡ others z (distinct (xs ++ ys))) (sym ((bytes_eq-Decides x y).0 same)) (others_amid y xs ys))
      | inr further ↦ ap (λ l. x ∷ others x l) (distinct_again y xs ys further)
    ]

-- ---- a row in which the import stands itself

-- not further in
abbrev pub is_flat : Around → Bool
is_flat (first rest) = true
is_flat (behind k n b a) = is_flat a
is_flat (behind_none a) = is_flat a
is_flat (under k n a rest) = false

-- what is asked for before it, and behind
record Asked (source : Text) (row left : List Text) : Type 0 where
  before : List Text
  after : List Text
  row_is : row ≡ before ++ (source ∷ after)
  left_is : left ≡ before ++ after

module _ (source : Text) (n m : Note) where
  abbrev x : Tree
  x = import_of source n m

  asked_in : (a : Around) → is_flat a ≡ true → Asked source (requests (plug a (Some x))) (requests (without a))
  asked_in (first rest) flat = record { before = []; after = requests rest; row_is = refl; left_is = refl }
  asked_in (behind k i b a) flat =
      let o = asked_in a flat in
      record {
        before = requests_of k ++ o.before;
        after = o.after;
        row_is = ap (λ l. requests_of k ++ l) o.row_is ∙ sym (joined_again (requests_of k) o.before (source ∷ o.after));
        left_is = ap (λ l. requests_of k ++ l) o.left_is ∙ sym (joined_again (requests_of k) o.before o.after);
      }
    where
      joined_again : (xs ys zs : List Text) → (xs ++ ys) ++ zs ≡ xs ++ (ys ++ zs)
      joined_again [] ys zs = refl
      joined_again (y ∷ xs) ys zs = ap (λ l. y ∷ l) (joined_again xs ys zs)
  asked_in (behind_none a) flat = asked_in a flat
  asked_in (under k i a rest) flat = absurd (true≢false (sym flat))

  asked_first : (asked : Bool) (a : Around) (flat : is_flat a ≡ true) → is_asked_before source asked a ≡ true → (asked || is_among (asked_in a flat).before source) ≡ true
  unfolding asked_in
  asked_first asked (first rest) flat h = ap (λ b. b || false) h
  asked_first asked (behind k i b a) flat h =
      let later = (asked_in a flat).before in
      by asked (asks_for source k) (is_among later source) (is_among (requests_of k ++ later) source) (among_joined (requests_of k) later source) (asked_first (asked || asks_for source k) a flat h)
    where
      by : (b c d e : Bool) → e ≡ c || d → ((b || c) || d) ≡ true → (b || e) ≡ true
      by true c d e f g = refl
      by false c d e f g = f ∙ g
  asked_first asked (behind_none a) flat h = asked_first asked a flat h
  asked_first asked (under k i a rest) flat h = absurd (true≢false (sym flat))

  pub loads_same : (a : Around) → is_flat a ≡ true → is_asked_before source false a ≡ true → distinct (requests (plug a (Some x))) ≡ distinct (requests (without a))
  loads_same a flat h =
      let o = asked_in a flat in
      ap distinct o.row_is ∙ distinct_again source o.before o.after (asked_first false a flat h) ∙ ap distinct (sym o.left_is)

  -- ---- it declares nothing, exports nothing and does nothing

  same_lexical : (a : Around) → is_flat a ≡ true → lexical (plug a (Some x)) ≡ lexical (without a)
  same_lexical (first rest) flat = refl
  same_lexical (behind k i b a) flat = ap (λ l. item_decls k b (lexical b) ++ l) (same_lexical a flat)
  same_lexical (behind_none a) flat = same_lexical a flat
  same_lexical (under k i a rest) flat = absurd (true≢false (sym flat))

  same_variables : (a : Around) → is_flat a ≡ true → var_names (plug a (Some x)) ≡ var_names (without a)
  same_variables (first rest) flat = refl
  same_variables (behind k i b a) flat = ap (λ l. vars_of k b (var_names b) ++ l) (same_variables a flat)
  same_variables (behind_none a) flat = same_variables a flat
  same_variables (under k i a rest) flat = absurd (true≢false (sym flat))

  same_entries : (a : Around) → is_flat a ≡ true → entries (plug a (Some x)) ≡ entries (without a)
  same_entries (first rest) flat = refl
  same_entries (behind k i b a) flat = ap (λ l. entries_of k b ++ l) (same_entries a flat)
  same_entries (behind_none a) flat = same_entries a flat
  same_entries (under k i a rest) flat = absurd (true≢false (sym flat))

  same_stars : (a : Around) → is_flat a ≡ true → stars (plug a (Some x)) ≡ stars (without a)
  same_stars (first rest) flat = refl
  same_stars (behind k i b a) flat = ap (λ l. star_of k ++ l) (same_stars a flat)
  same_stars (behind_none a) flat = same_stars a flat
  same_stars (under k i a rest) flat = absurd (true≢false (sym flat))

  same_start : (a : Around) → is_flat a ≡ true → (env : Env) (c : M) → start (plug a (Some x)) env c ≡ start (without a) env c
  unfolding start
  same_start (first rest) flat env c = refl
  same_start (behind k i b a) flat env c = ap (λ z. start_item k b (start b env) env z) (same_start a flat env c)
  same_start (behind_none a) flat env c = same_start a flat env c
  same_start (under k i a rest) flat env c = absurd (true≢false (sym flat))

  nothing_more : (o : Out) → more [] o ≡ o
  nothing_more (goes es s c) = refl
  nothing_more (stops es e) = refl

  behind_done : (k : M) → seq (done normal) k ≡ k
  unfolding bind done
  behind_done k = fun_ext (λ s. nothing_more (k s))

  same_each : (E : Enter) (a : Around) → is_flat a ≡ true → (env : Env) → each (run_under []) (eval E (plug a (Some x))) env ≡ each (run_under []) (eval E (without a)) env
  unfolding each eval
  same_each E (first rest) flat env = behind_done (each (run_under []) (eval E rest) env)
  same_each E (behind k i b a) flat env = ap (λ z. seq (if_core (is_core k) (does E k b (eval E b)) (run_under []) env) z) (same_each E a flat env)
  same_each E (behind_none a) flat env = refl
  same_each E (under k i a rest) flat env = absurd (true≢false (sym flat))

  -- ---- the module

  module _ (a : Around) (flat : is_flat a ≡ true) (asked : is_asked_before source false a ≡ true) (E : Enter) where
    abbrev old : Forest
    old = plug a (Some x)

    abbrev new : Forest
    new = without a

    same_body : (env : Env) → seq (load_all E (distinct (requests old))) (each (run_under []) (eval E old) env) ≡ seq (load_all E (distinct (requests new))) (each (run_under []) (eval E new) env)
    same_body env = ap₂ (λ l z. seq (load_all E l) z) (loads_same a flat asked) (same_each E a flat env)

    same_code : (env : Env) → exporting old env (start old env (seq (load_all E (distinct (requests old))) (each (run_under []) (eval E old) env))) ≡ exporting new env (start new env (seq (load_all E (distinct (requests new))) (each (run_under []) (eval E new) env)))
    same_code env =
        ap (λ z. exporting old env (start old env z)) (same_body env)
        ∙ ap (λ z. exporting old env z) (same_start a flat env _)
        ∙ ap₂ (λ es ss. resolve_entries es env (λ shown. set_exports (sorted shown) ss (start new env (seq (load_all E (distinct (requests new))) (each (run_under []) (eval E new) env))))) (same_entries a flat) (same_stars a flat)

    same_module : module_does E old ≡ module_does E new
    unfolding module_does
    same_module =
        ap₂ (λ ds z. bind (bind (declare ds [] z) (finish E)) finally)
        (ap₂ (λ vs ls. decl this_name ready ∷ all_so ready vs ++ ls) (same_variables a flat) (same_lexical a flat)) (fun_ext same_code)

-- ---- its runs

refines_same : (p q : Run) → q ≡ p → (e : Ending) → refines e p q
refines_same p q h (ended shown) = h
refines_same p q h Ending.host_stopped = h
refines_same p q h Ending.out = h
refines_same p q h Ending.uncovered = ([], ap (λ (r : Run). r.trace) h ∙ sym (append-nil p.trace))

same_refines : (i j : Note) (a b : Forest) → ((E : Enter) → module_does E a ≡ module_does E b) → Refined (module_of i j a) (module_of i j b)
unfolding run run_within
same_refines i j a b h script n = refines_same (run (module_of i j a) script n) (run (module_of i j b) script n) (ap (λ z. seen (z (first_state script n))) (sym (h (enter n)))) (run (module_of i j a) script n).ending

pub flat_refines : (source : Text) (n m i j : Note) (a : Around) → is_flat a ≡ true → is_asked_before source false a ≡ true → Refined (module_of i j (plug a (Some (import_of source n m)))) (module_of i j (without a))
flat_refines source n m i j a flat asked = same_refines i j (plug a (Some (import_of source n m))) (without a) (λ E. same_module source n m a flat asked E)

-- ---- where an import stands

-- a program's own list, and its items
abbrev is_top : Place → Bool
is_top program_list = true
is_top module_items = true
is_top p = false

abbrev is_program_list : Place → Bool
is_program_list program_list = true
is_program_list p = false

two_low : (b : Bool) (p q : Place) → is_top p ≡ false → is_top q ≡ false → is_top (if b then p else q) ≡ false
two_low true p q h g = h
two_low false p q h g = g

name_low : (f : FunctionKind) → is_top (name_place f) ≡ false
name_low function_kind.Declaration = refl
name_low function_kind.Expression = refl
name_low function_kind.Arrow = refl

statements_low : (p : Place) → is_program_list p ≡ false → is_top (statements_place p) ≡ false
statements_low program_list h = absurd (true≢false h)
statements_low p h = refl

specifier_low : (p : Place) → is_top (specifier_place p) ≡ false
specifier_low specifiers = refl
specifier_low p = refl

no_program_fits : (p : Place) (source : SourceType) → fits p (sort_of (Kind.Program source)) ≡ true → ⊥
no_program_fits names source e = true≢false (sym e)
no_program_fits parameters source e = true≢false (sym e)
no_program_fits code source e = true≢false (sym e)
no_program_fits p source e = true≢false (sym e)

low_below : (p : Place) (k : Kind) (i : ℕ) → is_program_list p ≡ false → fits p (sort_of k) ≡ true → is_top (place_below p k i) ≡ false
low_below p (Kind.Program source) i h f = absurd (no_program_fits p source f)
low_below p Kind.Statements i h f = statements_low p h
low_below p Kind.VariableDeclarator i h f = two_low (i == 0) names other_place refl refl
low_below p (Kind.Function g pure) i h f = two_low (i == 0) (name_place g) (if i == 1 then parameters else code) (name_low g) (two_low (i == 1) parameters code refl refl)
low_below p Kind.CatchClause i h f = two_low (i == 0) names other_place refl refl
low_below p Kind.ForStatement i h f = two_low (i == 0) declared other_place refl refl
low_below p Kind.SwitchStatement i h f = two_low (i == 1) cases other_place refl refl
low_below p (Kind.ImportSpecifier name) i h f = two_low (i == 0) names no_node refl refl
low_below p Kind.ImportDefaultSpecifier i h f = two_low (i == 0) names no_node refl refl
low_below p Kind.ImportNamespaceSpecifier i h f = two_low (i == 0) names no_node refl refl
low_below p Kind.Specifiers i h f = specifier_low p
low_below p (Kind.ExportNamedDeclaration None) i h f = refl
low_below p (Kind.ExportNamedDeclaration (Some source)) i h f = refl
low_below p k i h f = refl

list_low : (p : Place) → is_top p ≡ false → is_program_list p ≡ false
list_low program_list h = h
list_low p h = refl

not_top : (p : Place) → p ≡ module_items → is_top p ≡ false → ⊥
not_top p e h = true≢false (sym (ap is_top e) ∙ h)

module _ (source : Text) (n m : Note) where
  abbrev it : Tree
  it = import_of source n m

  nowhere_low : (places : ℕ → Place) → ((i : ℕ) → is_top (places i) ≡ false) → (at : ℕ) (a : Around) → well_placed places at (plug a (Some it)) ≡ true → ⊥
  nowhere_low places low at (first rest) w = not_top (places at) (import_place (places at) (placed_here places at it.kind n it.below rest w)) (low at)
  nowhere_low places low at (behind k i b a) w = nowhere_low places low (suc at) a (placed_behind places at k i b (plug a (Some it)) w)
  nowhere_low places low at (behind_none a) w = nowhere_low places low (suc at) a w
  nowhere_low places low at (under k i a rest) w =
      nowhere_low (place_below (places at) k) (λ j. low_below (places at) k j (list_low (places at) (low at)) (placed_here places at k i (plug a (Some it)) rest w)) 0 a (placed_below places at k i (plug a (Some it)) rest w)

  flat_items : (at : ℕ) (a : Around) → well_placed (λ i. module_items) at (plug a (Some it)) ≡ true → is_flat a ≡ true
  flat_items at (first rest) w = refl
  flat_items at (behind k i b a) w = flat_items (suc at) a (placed_behind (λ j. module_items) at k i b (plug a (Some it)) w)
  flat_items at (behind_none a) w = flat_items (suc at) a w
  flat_items at (under k i a rest) w =
      absurd (nowhere_low (place_below module_items k) (λ j. low_below module_items k j refl (placed_here (λ l. module_items) at k i (plug a (Some it)) rest w)) 0 a (placed_below (λ l. module_items) at k i (plug a (Some it)) rest w))

-- ---- in a module

first_kind : Forest → Kind
first_kind (node k n a r) = k
first_kind t = Kind.EmptyStatement

first_note : Note → Forest → Note
first_note d (node k n a r) = n
first_note d t = d

rest_of : Forest → Forest
rest_of (node k n a r) = r
rest_of t = nothing

same_node : {k l : Kind} {n m : Note} {a b r s : Forest} → k ≡ l → n ≡ m → a ≡ b → r ≡ s → node k n a r ≡ node l m b s
same_node {k} {l} {n} {m} {a} {b} {r} {s} e f g h = ap (λ z. node z n a r) e ∙ ap (λ z. node l z a r) f ∙ ap (λ z. node l m z r) g ∙ ap (λ z. node l m b z) h

items_placed : (i j : Note) (b : Forest) → is_well_placed (module_of i j b) ≡ true → well_placed (λ at. module_items) 0 b ≡ true
items_placed i j b w =
    placed_below (λ at. program_list) 0 Kind.Statements j b nothing (first_of_both (well_placed (λ at. program_list) 0 (node Kind.Statements j b nothing)) (has_plain_values (node Kind.Statements j b nothing)) w)

module _ (source : Text) (n m : Note) where
  abbrev leaving : Tree
  leaving = import_of source n m

  pub repeated_refines : (a : Around) → is_asked_before source false a ≡ true → (i j : Note) (b : Forest) → plug a (Some leaving) ≡ module_of i j b → Fits root (module_of i j b) → IsWellFormed (module_of i j b) → all_core (module_of i j b) ≡ true
      → LeftModule i j b (without a)
  unfolding first_kind first_note rest_of
  repeated_refines (first rest) asked i j b is fits form core = absurd cc
  repeated_refines (behind k l c a) asked i j b is fits form core = absurd (something a leaving (ap rest_of is))
  repeated_refines (behind_none a) asked i j b is fits form core = absurd cc
  repeated_refines (under k l (first r) s) asked i j b is fits form core = absurd cc
  repeated_refines (under k l (behind g h c a) s) asked i j b is fits form core = absurd (something a leaving (ap (λ t. rest_of (below_of t)) is))
  repeated_refines (under k l (behind_none a) s) asked i j b is fits form core = absurd cc
  repeated_refines (under k l (under g h a r) s) asked i j b is fits form core =
      let row : plug a (Some leaving) ≡ b = ap (λ t. below_of (below_of t)) is in
      let flat : is_flat a ≡ true = flat_items source n m 0 a (subst (λ t. well_placed (λ at. module_items) 0 t ≡ true) (sym row) (items_placed i j b (module_placed i j b fits form core))) in
      let left : node k l (node g h (without a) r) s ≡ module_of i j (without a) =
      same_node (ap first_kind is) (ap (first_note i) is) (same_node (ap (λ t. first_kind (below_of t)) is) (ap (λ t. first_note j (below_of t)) is) refl (ap (λ t. rest_of (below_of t)) is)) (ap rest_of is)
      in
      record {
        items = without a;
        is = left;
        refined = subst (λ t. Refined (module_of i j b) t) (sym left)
            (subst (λ t. Refined (module_of i j t) (module_of i j (without a))) row (same_refines i j (plug a (Some leaving)) (without a) (λ E. same_module source n m a flat asked E)));
      }
