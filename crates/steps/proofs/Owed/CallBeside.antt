-- Beside a call of a silent function of the module's own list stand items that only read its name, and the function.
use Rattle.std.proofs.Common.{◌≡◌, ◌∙◌, ◌≤◌, inl, inr, ℕ, suc, ◌+◌, List, [], ◌∷◌, ◌++◌, Bool, true, false, not, ◌&&◌, ◌||◌, if◌then◌else◌, Option, Some, None, arith, refl, sym, ap, subst, true≢false, bytes_eq}
use Rattle.std.proofs.lemmas.Bool.{or_cases, false_from_ne_true}
use Rattle.std.proofs.lemmas.Slice.Eq.{bytes_eq-Decides}
use Rattle.js_syntax.specs.declared.node_kind.NodeKind.{NodeKind as Kind}
use Rattle.js_syntax.specs.declared.kind.FunctionKind.TheVariants as function_kind
use Rattle.js_syntax.specs.Node.{Note, Forest, Tree, nothing, node, absent}
use Rattle.js_syntax.proofs.Truth.{first_of_both, second_of_both, both, first_of_neither, second_of_neither, not_true, or_false}
use Rattle.js_meaning.specs.Value.{Text, this_name}
use Rattle.js_meaning.specs.Scope.{Way, waiting, ready, linked, left_out, Decl, decl, all_so, named_so, behind as behind_first, first_name, vars_of, var_names, item_decls, lexical, default_name, function_decls, module_decls}
use Rattle.js_meaning.specs.Module.{names_in}
use Rattle.js_meaning_near.specs.Names.{Fact, Names}
use Rattle.js_meaning_near.specs.Near.{fields, items}
use Rattle.js_meaning_near.specs.Fit.{whole, others, within_code, Fits}
use Rattle.js_meaning_near.specs.Avoid.{declares, code_declares, InPlace}
use Rattle.js_meaning_near.specs.Known.{Knows, DeclaredOnce, declared_here, declared_later, Steady}
use Rattle.js_meaning_near.specs.Gone.{Bystander, is_function, Bystanders, no_bystander, bystander, behind_absent}
use Rattle.js_meaning_near.proofs.Avoid.{code_all, fits_clear}
use Rattle.js_meaning_near.proofs.Gone.{steady_bystanders}
use Rattle.js_meaning_near.proofs.Known.{knows_code}
use Rattle.js_meaning_near.proofs.Steady.{steady_fits}
use Rattle.scope_laws.specs.Place.{Around, first, behind, behind_none, under, plug}
use Rattle.steps.specs.Names.{is_among}
use Rattle.steps.specs.Fit.Clear.{times}
use Rattle.steps.specs.KeepRuns.Assigned.{assigns_at, assigns}
use Rattle.steps.specs.KeepRuns.Formed.{may_hold, holds_well, heads, is_free_name, is_formed}
use Rattle.steps.specs.KeepRuns.Once.{is_first}
use Rattle.steps.specs.KeepRuns.SilentFunction.{holds_call, has_silent_parts, is_silent_code, is_silent_function, has_silent_function}
use Rattle.steps.specs.KeepRuns.Ways.{Beside}
use Rattle.steps.specs.Naming.Placed.{module_items, sort_of, place_below, function_place, fits, well_placed, has_plain_value, has_plain_values}
use Rattle.steps.proofs.Fit.Lists.{occurs, occurs_joined, times_joined, among_occurs, among_times, is_same}
use Rattle.steps.proofs.Fit.Rows.{placed_next}
use Rattle.steps.proofs.KeepRuns.Avoids.{code_names, shown_in}
use Rattle.steps.proofs.KeepRuns.Binding.{Lacks, row_free, items_place, code_free, row_binds}
use Rattle.steps.proofs.KeepRuns.Calm.{form_holds, form_heads, form_below, form_behind}
use Rattle.steps.proofs.KeepRuns.Names.{declares_among}
use Rattle.steps.proofs.KeepRuns.SilentFunction.{silent_code, call_there}
use Rattle.steps.proofs.KeepRuns.Steady.{assigns_behind, row_steady}
use Rattle.steps.proofs.KeepRuns.Ways.{bystander_in, steady_beside}
use Rattle.steps.proofs.Naming.Values.{values_below, values_behind}

-- ---- items of a module's own list

pub record ListRow (x : Text) (at : ℕ) (t : Forest) : Type 0 where
  pub holds : holds_well Kind.Statements t ≡ true
  pub formed : is_formed t ≡ true
  pub reads : assigns x t ≡ false
  pub place : InPlace whole items t
  pub placed : well_placed (λ i. module_items) at t ≡ true
  pub values : has_plain_values t ≡ true

row_behind : (x : Text) (at : ℕ) (k : Kind) (n : Note) (a r : Forest) → ListRow x at (node k n a r) → ListRow x (suc at) r
row_behind x at k n a r h = record {
  holds = second_of_both (may_hold Kind.Statements k) (holds_well Kind.Statements r) h.holds;
  formed = form_behind k a r h.formed;
  reads = second_of_neither (assigns_at x k a (assigns x a)) (assigns x r) h.reads;
  place = h.place.1;
  placed = second_of_both (well_placed (place_below module_items k) 0 a) (well_placed (λ i. module_items) (suc at) r) (second_of_both (fits module_items (sort_of k)) (well_placed (place_below module_items k) 0 a && well_placed (λ i. module_items) (suc at) r) h.placed);
  values = values_behind k n a r h.values;
}

row_alone : (x : Text) (at : ℕ) (k : Kind) (n : Note) (a r : Forest) → ListRow x at (node k n a r) → ListRow x at (node k n a nothing)
row_alone x at k n a r h = record {
  holds = both (may_hold Kind.Statements k) true (first_of_both (may_hold Kind.Statements k) (holds_well Kind.Statements r) h.holds) refl;
  formed = both (holds_well k a && heads k a) (is_formed a && true) (first_of_both (holds_well k a && heads k a) (is_formed a && is_formed r) h.formed) (both (is_formed a) true (form_below k a r h.formed) refl);
  reads = or_false (assigns_at x k a (assigns x a)) ∙ first_of_neither (assigns_at x k a (assigns x a)) (assigns x r) h.reads;
  place = (h.place.0, tt);
  placed = both (fits module_items (sort_of k)) (well_placed (place_below module_items k) 0 a && true) (first_of_both (fits module_items (sort_of k)) (well_placed (place_below module_items k) 0 a && well_placed (λ i. module_items) (suc at) r) h.placed)
      (both (well_placed (place_below module_items k) 0 a) true (first_of_both (well_placed (place_below module_items k) 0 a) (well_placed (λ i. module_items) (suc at) r) (second_of_both (fits module_items (sort_of k)) (well_placed (place_below module_items k) 0 a && well_placed (λ i. module_items) (suc at) r) h.placed)) refl);
  values = both (has_plain_value k a) (has_plain_values a && true) (first_of_both (has_plain_value k a) (has_plain_values a && has_plain_values r) h.values) (both (has_plain_values a) true (values_below k n a r h.values) refl);
}

row_absent : (x : Text) (at : ℕ) (r : Forest) → ListRow x at (absent r) → ListRow x (suc at) r
row_absent x at r h = record { holds = h.holds; formed = h.formed; reads = h.reads; place = h.place; placed = h.placed; values = h.values }

-- ---- how often the name is declared

abbrev pub declared : Text → Forest → ℕ
declared x t = occurs x (var_names t) + times x (lexical t)

abbrev declared_at : Text → Kind → Forest → ℕ
declared_at x k a = occurs x (vars_of k a (var_names a)) + times x (item_decls k a (lexical a))

split : (x : Text) (k : Kind) (n : Note) (a r : Forest) → declared x (node k n a r) ≡ declared_at x k a + declared x r
split x k n a r =
    let vs = occurs_joined x (vars_of k a (var_names a)) (var_names r) in
    let ds = times_joined x (item_decls k a (lexical a)) (lexical r) in
    omega (arith, vs, ds)

never : (x : Text) (n : ℕ) (b : Bool) → (b ≡ true → 1 ≤ n) → n ≡ 0 → b ≡ false
never x n b some none = false_from_ne_true b (λ e. let h = some e in absurd (omega (arith, h, none)))

-- ---- items that don't declare it

module _ (x : Text) (other : bytes_eq default_name x ≡ false) where
  steady_row : (at : ℕ) (t : Forest) → ListRow x at t → declared x t ≡ 0 → Steady x whole items t
  steady_row at t h none =
      let vars : Lacks x (var_names t) = never x (occurs x (var_names t)) (is_among (var_names t) x) (among_occurs x (var_names t)) (omega (arith, none)) in
      let list : Lacks x (names_in (lexical t)) = never x (times x (lexical t)) (is_among (names_in (lexical t)) x) (among_times x (lexical t)) (omega (arith, none)) in
      row_steady x whole items t Kind.Statements h.holds h.formed other h.reads (row_binds x (λ i. module_items) at t h.placed h.values (row_free x (λ i. module_items) at t (λ i l. items_place x module_items t refl refl list vars))) h.place

  steady_item : (at : ℕ) (k : Kind) (n : Note) (a r : Forest) → ListRow x at (node k n a r) → declared_at x k a ≡ 0 → Steady x whole items (node k n a nothing)
  steady_item at k n a r h none = let whole_count = split x k n a nothing in steady_row at (node k n a nothing) (row_alone x at k n a r h) (omega (arith, none, whole_count))

  -- ---- the function

  first_once : (o : Option Text) → is_first x o ≡ true → 1 ≤ times x (named_so (waiting false) o)
  first_once None h = absurd (true≢false (sym h))
  first_once (Some y) h = go (bytes_eq y x) h
    where
      go : (b : Bool) → b ≡ true → 1 ≤ (if b then 1 else 0) + 0
      go true h = omega arith
      go false h = absurd (true≢false (sym h))

  first_is : (o : Option Text) → is_first x o ≡ true → o ≡ Some x
  first_is None h = absurd (true≢false (sym h))
  first_is (Some y) h = ap Some ((bytes_eq-Decides y x).0 h)

  function_declares : (k : Kind) (a : Forest) → is_silent_function x k a ≡ true → 1 ≤ times x (item_decls k a (lexical a))
  function_declares (Kind.Function function_kind.Declaration pure) a h = first_once (first_name a) (first_of_both (is_first x (first_name a)) (is_silent_code a) h)
  function_declares k a h = absurd (true≢false (sym h))

  pub row_declares : (t : Forest) → has_silent_function x t ≡ true → 1 ≤ times x (lexical t)
  row_declares nothing h = absurd (true≢false (sym h))
  row_declares (absent r) h = row_declares r h
  row_declares (node k n a r) h = elim (or_cases (is_silent_function x k a) (has_silent_function x r) h) [
    | inl e ↦ let here = function_declares k a e in let ds = times_joined x (item_decls k a (lexical a)) (lexical r) in omega (arith, here, ds)
    | inr e ↦ let there = row_declares r e in let ds = times_joined x (item_decls k a (lexical a)) (lexical r) in omega (arith, there, ds)
  ]

  module _ (pure : Bool) (a : Forest) (holds : holds_well (Kind.Function function_kind.Declaration pure) a ≡ true) (formed : is_formed a ≡ true) (reads : assigns_at x (Kind.Function function_kind.Declaration pure) a (assigns x a) ≡ false) (place : InPlace others fields a)
      (placed : well_placed (function_place function_kind.Declaration) 0 a ≡ true) (values : has_plain_values a ≡ true) where
    values_next : (t : Forest) → has_plain_values t ≡ true → has_plain_values (behind_first t) ≡ true
    values_next nothing v = refl
    values_next (absent r) v = v
    values_next (node k n b r) v = values_behind k n b r v

    code_steady : declares (code_declares function_kind.Declaration a) x ≡ false → Steady x others fields a
    code_steady e =
        let kind : Kind = Kind.Function function_kind.Declaration pure in
        row_steady x others fields a kind holds formed other (assigns_behind x a (shown_in _ (assigns x a) (code_names function_kind.Declaration pure a x e) reads))
        (row_binds x (function_place function_kind.Declaration) 1 (behind_first a) (placed_next (function_place function_kind.Declaration) 0 a placed) (values_next a values) (code_free x function_kind.Declaration a (sym (declares_among (function_decls function_kind.Declaration a) x) ∙ e))) place

    code_fits : (f : Fact) (st : Names) → Knows x f st → Fits others fields (within_code st function_kind.Declaration a) a
    code_fits f st k = by (declares (code_declares function_kind.Declaration a) x) refl
      where
        by : (b : Bool) → declares (code_declares function_kind.Declaration a) x ≡ b → Fits others fields (within_code st function_kind.Declaration a) a
        by true e = fits_clear others fields (within_code st function_kind.Declaration a) a (code_all x function_kind.Declaration a st k.plain e) place
        by false e = steady_fits x f others fields (within_code st function_kind.Declaration a) a (knows_code x f function_kind.Declaration a e st k) (code_steady e)

  the_function : (at : ℕ) (k : Kind) (n : Note) (a r : Forest) → is_silent_function x k a ≡ true → ListRow x at (node k n a r) → Bystander x items k a
  the_function at (Kind.Function function_kind.Declaration pure) n a r h row =
      let kind : Kind = Kind.Function function_kind.Declaration pure in
      let code = second_of_both (is_first x (first_name a)) (is_silent_code a) h in
      let below = second_of_both (fits module_items (sort_of kind)) (well_placed (function_place function_kind.Declaration) 0 a && well_placed (λ i. module_items) (suc at) r) row.placed in
      is_function (first_is (first_name a) (first_of_both (is_first x (first_name a)) (is_silent_code a) h)) (λ f st o k. silent_code st a (first_of_both (has_silent_parts a) (not (holds_call a)) code))
      (λ f st k. code_fits pure a (form_holds kind a r row.formed) (form_below kind a r row.formed) (first_of_neither (assigns_at x kind a (assigns x a)) (assigns x r) row.reads) row.place.0
      (first_of_both (well_placed (function_place function_kind.Declaration) 0 a) (well_placed (λ i. module_items) (suc at) r) below) (values_below kind n a r row.values) f st k)
  the_function at k n a r h row = absurd (true≢false (sym h))

  -- ---- rows with it

  -- of a node that is the function, and of one that isn't where it stands behind it
  rest_lacks : (k : Kind) (n : Note) (a r : Forest) → is_silent_function x k a ≡ true → declared x (node k n a r) ≤ 1 → declared x r ≡ 0
  rest_lacks k n a r h once = let here = function_declares k a h in let all = split x k n a r in omega (arith, here, all, once)

  here_lacks : (k : Kind) (n : Note) (a r : Forest) → has_silent_function x r ≡ true → declared x (node k n a r) ≤ 1 → declared_at x k a ≡ 0
  here_lacks k n a r h once = let there = row_declares r h in let all = split x k n a r in omega (arith, there, all, once)

  rest_once : (k : Kind) (n : Note) (a r : Forest) → declared x (node k n a r) ≤ 1 → declared x r ≤ 1
  rest_once k n a r once = let all = split x k n a r in omega (arith, all, once)

  bystanders_of : (at : ℕ) (t : Forest) → ListRow x at t → has_silent_function x t ≡ true → declared x t ≤ 1 → Bystanders x items t
  bystanders_of at nothing h it once = no_bystander
  bystanders_of at (absent r) h it once = behind_absent (bystanders_of (suc at) r (row_absent x at r h) it once)
  bystanders_of at (node k n a r) h it once = elim (or_cases (is_silent_function x k a) (has_silent_function x r) it) [
    | inl e ↦ bystander (the_function at k n a r e h) (steady_bystanders x items r (steady_row (suc at) r (row_behind x at k n a r h) (rest_lacks k n a r e once)))
    | inr e ↦ bystander (bystander_in x items k n a nothing (steady_item at k n a r h (here_lacks k n a r e once))) (bystanders_of (suc at) r (row_behind x at k n a r h) e (rest_once k n a r once))
  ]

  no_call_in_it : (k : Kind) (a : Forest) → is_silent_function x k a ≡ true → holds_call a ≡ true → ⊥
  no_call_in_it (Kind.Function function_kind.Declaration pure) a h c =
      true≢false (sym c ∙ not_true (holds_call a) (second_of_both (has_silent_parts a) (not (holds_call a)) (second_of_both (is_first x (first_name a)) (is_silent_code a) h)))
  no_call_in_it k a h c = true≢false (sym h)

  module _ (t : Tree) (call : holds_call t.below ≡ true) (no_function : is_silent_function x t.kind t.below ≡ false) where
    not_it : (r : Forest) → (is_silent_function x t.kind t.below || has_silent_function x r) ≡ true → has_silent_function x r ≡ true
    not_it r it = ap (λ b. b || has_silent_function x r) (sym no_function) ∙ it

    pub beside_of : (at : ℕ) (a : Around) → ListRow x at (plug a (Some t)) → has_silent_function x (plug a (Some t)) ≡ true → declared x (plug a (Some t)) ≤ 1 → Beside x items a (Some t)
    beside_of at (first rest) h it once = bystanders_of (suc at) rest (row_behind x at t.kind t.note t.below rest h) (not_it rest it) (rest_once t.kind t.note t.below rest once)
    beside_of at (behind k n below a) h it once =
        let r = plug a (Some t) in
        elim (or_cases (is_silent_function x k below) (has_silent_function x r) it) [
          | inl e ↦ (the_function at k n below r e h, steady_beside x items a t (steady_row (suc at) r (row_behind x at k n below r h) (rest_lacks k n below r e once)))
          | inr e ↦ (bystander_in x items k n below nothing (steady_item at k n below r h (here_lacks k n below r e once)), beside_of (suc at) a (row_behind x at k n below r h) e (rest_once k n below r once))
        ]
    beside_of at (behind_none a) h it once = beside_of (suc at) a (row_absent x at (plug a (Some t)) h) it once
    beside_of at (under k n a rest) h it once =
        let inner = plug a (Some t) in
        elim (or_cases (is_silent_function x k inner) (has_silent_function x rest) it) [
          | inl e ↦ absurd (no_call_in_it k inner e (call_there t a call))
          | inr e ↦ (steady_item at k n inner rest h (here_lacks k n inner rest e once), bystanders_of (suc at) rest (row_behind x at k n inner rest h) e (rest_once k n inner rest once))
        ]

  -- ---- it is declared once

  abbrev waits : List Decl → Bool
  waits [] = false
  waits (decl y (waiting constant) ∷ ds) = bytes_eq y x || waits ds
  waits (decl y way ∷ ds) = waits ds

  waits_right : (ds es : List Decl) → waits es ≡ true → waits (ds ++ es) ≡ true
  waits_right [] es h = h
  waits_right (decl y (waiting constant) ∷ ds) es h = either (bytes_eq y x) (waits (ds ++ es)) (waits_right ds es h)
    where
      either : (b c : Bool) → c ≡ true → (b || c) ≡ true
      either true c h = refl
      either false c h = h
  waits_right (decl y ready ∷ ds) es h = waits_right ds es h
  waits_right (decl y (linked source name) ∷ ds) es h = waits_right ds es h
  waits_right (decl y left_out ∷ ds) es h = waits_right ds es h

  waits_left : (ds es : List Decl) → waits ds ≡ true → waits (ds ++ es) ≡ true
  waits_left [] es h = absurd (true≢false (sym h))
  waits_left (decl y (waiting constant) ∷ ds) es h = by (bytes_eq y x) (waits ds) (waits (ds ++ es)) h (waits_left ds es)
    where
      by : (b c d : Bool) → (b || c) ≡ true → (c ≡ true → d ≡ true) → (b || d) ≡ true
      by true c d h to = refl
      by false c d h to = to h
  waits_left (decl y ready ∷ ds) es h = waits_left ds es h
  waits_left (decl y (linked source name) ∷ ds) es h = waits_left ds es h
  waits_left (decl y left_out ∷ ds) es h = waits_left ds es h

  waits_some : (ds : List Decl) → waits ds ≡ true → 1 ≤ times x ds
  waits_some [] h = absurd (true≢false (sym h))
  waits_some (decl y (waiting constant) ∷ ds) h = by (bytes_eq y x) (waits ds) (times x ds) h (waits_some ds)
    where
      by : (b c : Bool) (n : ℕ) → (b || c) ≡ true → (c ≡ true → 1 ≤ n) → 1 ≤ (if b then 1 else 0) + n
      by true c n h to = omega arith
      by false c n h to = let e = to h in omega (arith, e)
  waits_some (decl y ready ∷ ds) h = let e = waits_some ds h in omega (arith, e)
  waits_some (decl y (linked source name) ∷ ds) h = let e = waits_some ds h in omega (arith, e)
  waits_some (decl y left_out ∷ ds) h = let e = waits_some ds h in omega (arith, e)

  undeclared : (ds : List Decl) → times x ds ≡ 0 → declares ds x ≡ false
  undeclared ds none = declares_among ds x ∙ never x (times x ds) (is_among (names_in ds) x) (among_times x ds) none

  other_here : (y : Text) (way : Way) (ds : List Decl) (b : Bool) → bytes_eq y x ≡ b → waits ds ≡ true → (if b then 1 else 0) + times x ds ≤ 1 → (times x ds ≤ 1 → DeclaredOnce x ds) → DeclaredOnce x (decl y way ∷ ds)
  other_here y way ds true e h once rest = let some = waits_some ds h in absurd (omega (arith, some, once))
  other_here y way ds false e h once rest = declared_later e (rest (omega (arith, once)))

  waiting_here : (y : Text) (constant : Bool) (ds : List Decl) (b : Bool) → bytes_eq y x ≡ b → (b || waits ds) ≡ true → (if b then 1 else 0) + times x ds ≤ 1 → (waits ds ≡ true → times x ds ≤ 1 → DeclaredOnce x ds) → DeclaredOnce x (decl y (waiting constant) ∷ ds)
  waiting_here y constant ds true e h once rest = subst (λ z. DeclaredOnce x (decl z (waiting constant) ∷ ds)) (sym ((bytes_eq-Decides y x).0 e)) (declared_here (undeclared ds (omega (arith, once))))
  waiting_here y constant ds false e h once rest = declared_later e (rest h (omega (arith, once)))

  once_of : (ds : List Decl) → waits ds ≡ true → times x ds ≤ 1 → DeclaredOnce x ds
  once_of [] h once = absurd (true≢false (sym h))
  once_of (decl y (waiting constant) ∷ ds) h once = waiting_here y constant ds (bytes_eq y x) refl h once (once_of ds)
  once_of (decl y ready ∷ ds) h once = other_here y ready ds (bytes_eq y x) refl h once (once_of ds h)
  once_of (decl y (linked source name) ∷ ds) h once = other_here y (linked source name) ds (bytes_eq y x) refl h once (once_of ds h)
  once_of (decl y left_out ∷ ds) h once = other_here y left_out ds (bytes_eq y x) refl h once (once_of ds h)

  first_waits : (o : Option Text) → is_first x o ≡ true → waits (named_so (waiting false) o) ≡ true
  first_waits None h = absurd (true≢false (sym h))
  first_waits (Some y) h = ap (λ b. b || false) h

  function_waits : (k : Kind) (a : Forest) → is_silent_function x k a ≡ true → waits (item_decls k a (lexical a)) ≡ true
  function_waits (Kind.Function function_kind.Declaration pure) a h = first_waits (first_name a) (first_of_both (is_first x (first_name a)) (is_silent_code a) h)
  function_waits k a h = absurd (true≢false (sym h))

  row_waits : (t : Forest) → has_silent_function x t ≡ true → waits (lexical t) ≡ true
  row_waits nothing h = absurd (true≢false (sym h))
  row_waits (absent r) h = row_waits r h
  row_waits (node k n a r) h = elim (or_cases (is_silent_function x k a) (has_silent_function x r) h) [
    | inl e ↦ waits_left (item_decls k a (lexical a)) (lexical r) (function_waits k a e)
    | inr e ↦ waits_right (item_decls k a (lexical a)) (lexical r) (row_waits r e)
  ]

  pub function_once : (t : Forest) → has_silent_function x t ≡ true → times x (module_decls t) ≤ 1 → DeclaredOnce x (module_decls t)
  function_once t h once = once_of (module_decls t) (waits_right (decl this_name ready ∷ all_so ready (var_names t)) (lexical t) (row_waits t h)) once

-- ---- its name is one that programs may declare

free_by : (x y : Text) → bytes_eq y x ≡ true → is_free_name y ≡ true → is_free_name x ≡ true
free_by x y e f = is_same (λ z. is_free_name z ≡ true) y x e f

code_name_free : (x : Text) (a : Forest) → has_silent_parts a ≡ true → is_first x (first_name a) ≡ true → is_formed a ≡ true → is_free_name x ≡ true
code_name_free x (node (Kind.BindingName y) i nothing r) h e f = free_by x y e (form_heads (Kind.BindingName y) nothing r f)
code_name_free x a h e f = absurd (true≢false (sym h))

function_free : (x : Text) (k : Kind) (a : Forest) → is_silent_function x k a ≡ true → is_formed a ≡ true → is_free_name x ≡ true
function_free x (Kind.Function function_kind.Declaration pure) a h f =
    code_name_free x a (first_of_both (has_silent_parts a) (not (holds_call a)) (second_of_both (is_first x (first_name a)) (is_silent_code a) h)) (first_of_both (is_first x (first_name a)) (is_silent_code a) h) f
function_free x k a h f = absurd (true≢false (sym h))

pub name_is_free : (x : Text) (t : Forest) → has_silent_function x t ≡ true → is_formed t ≡ true → is_free_name x ≡ true
name_is_free x nothing h f = absurd (true≢false (sym h))
name_is_free x (absent r) h f = name_is_free x r h f
name_is_free x (node k n a r) h f = elim (or_cases (is_silent_function x k a) (has_silent_function x r) h) [
  | inl e ↦ function_free x k a e (form_below k a r f)
  | inr e ↦ name_is_free x r e (form_behind k a r f)
]
