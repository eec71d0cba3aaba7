-- Where the rule on names answers nothing, no statement stands in a branch that isn't taken of which a declaration might be left; and the
-- other way round.
use Rattle.std.proofs.Common.{◌≡◌, ◌∙◌, ◌⊎◌, inl, inr, Bool, true, false, ◌&&◌, ◌||◌, Option, Some, None, is_some, append-nil, refl, sym, ap, subst, true≢false}
use Rattle.std.proofs.lemmas.Bool.{or_cases}
use Rattle.js_syntax.specs.declared.node_kind.NodeKind.{NodeKind as Kind}
use Rattle.js_syntax.specs.declared.node_kind.NodeKind.TheVariants.{IfStatement as if_statement}
use Rattle.js_syntax.specs.Node.{Forest, Tree, Note, nothing, node, absent, forest_of}
use Rattle.js_syntax.proofs.Truth.{both, first_of_both, second_of_both, first_of_either, second_of_either}
use Rattle.kept_names.specs.Kept.{kept}
use Rattle.min_pass.specs.declared.around.Around.{Around as Asked}
use Rattle.min_pass.specs.declared.around.Row.TheVariants.{Items as row_items}
use Rattle.min_pass.specs.Around.{entered as asked_below, outermost as asked_of_program}
use Rattle.scope_counts.specs.Edits as counts
use Rattle.scope_counts.specs.Edits.{here, behind, behind_none, under, plug}
use Rattle.scope_laws.specs.Place as places
use Rattle.scope_laws.specs.Place.{first}
use Rattle.steps.specs.Allowed.Branches.{declares_no_name}
use Rattle.steps.specs.Allowed.KeptNames.{KeptNames, names_stay}
use Rattle.steps.specs.Allowed.KnownIf.{an_if}
use Rattle.steps.specs.Allowed.Places.{asked_at, IsItem}
use Rattle.steps.specs.Allowed.Untaken.{truth_given, begins_untaken, runs_inside, is_untaken}
use Rattle.steps.specs.VarNames.Declared.{without_vars}
use Rattle.steps.specs.VarNames.Plain.{vars_bind_names}
use Rattle.steps.proofs.VarNames.HasNames.{has_some, declares_kept}
use Rattle.rules.specs.Expressions.LeftNames.{leaves_names, row_leaves, branch_leaves, branch_named, what_is_named, if_named}
use Rattle.rules.specs.Expressions.Untaken.{is_list}
use Rattle.rules.proofs.DeadCode.Places.{to, plugged, join, plug_join, asked_to}
use Rattle.rules.proofs.Expressions.Becoming.{no_answer, none_of, chosen, chosen_if}
use Rattle.rules.proofs.Expressions.LeftNames.{leaving, IsNamed, is_named, named_so, names_there}
use Rattle.rules.proofs.Expressions.Thinner.{no_kind}
use Rattle.rules.proofs.Expressions.Untaken.{All, all_under, all_behind, all_absent, all_from, ItemsIf, items_under, items_next, items_absent, leads_on, list_or_not, known_so, given_some, none_some, Branch, at_consequent, at_alternate}

-- so a node is named where the edit is made
is_named_there : {a : places.Around} {x y : Tree} → KeptNames a x y → leaves_names true x.kind x.below ≡ true
is_named_there (names_stay x y item untaken leaves others plain is) =
    let of = leaving x.kind leaves in
    let b = x.below in
    let binds = first_of_both (vars_bind_names b) true (sym (of.plain_is x.note b) ∙ plain) in
    let named : IsNamed true x.kind b = record {
      is_item = refl;
      leaves = leaves;
      some = has_some b binds (λ e. declares_kept (kept (forest_of x)) y is (of.kept_is x.note b ∙ append-nil (kept b) ∙ e));
      plain = binds;
      others = first_of_both (declares_no_name x.kind (without_vars b)) true (sym (of.others_are x.note b) ∙ others);
    } in
    named_so named

-- ---- where the rule answers nothing

record Found (t : Forest) : Type 0 where
  place : counts.Around
  note : Note
  below : Forest
  rest : Forest
  is : t ≡ plug place (node if_statement note below rest)
  answers : is_some (if_named note if_statement below) ≡ true

found_below : {t : Forest} (k : Kind) (n : Note) (rest : Forest) → Found t → Found (node k n t rest)
found_below k n rest f = record { place = under k n f.place rest; note = f.note; below = f.below; rest = f.rest; is = ap (λ u. node k n u rest) f.is; answers = f.answers }

found_behind : {t : Forest} (k : Kind) (n : Note) (below : Forest) → Found t → Found (node k n below t)
found_behind k n below f = record { place = behind k n below f.place; note = f.note; below = f.below; rest = f.rest; is = ap (λ u. node k n below u) f.is; answers = f.answers }

found_absent : {t : Forest} → Found t → Found (absent t)
found_absent f = record { place = behind_none f.place; note = f.note; below = f.below; rest = f.rest; is = ap (λ u. absent u) f.is; answers = f.answers }

module _ (x : Tree) (named : leaves_names true x.kind x.below ≡ true) where
  along : (listed : Bool) (w : Asked) (b : places.Around) → (w.row ≡ row_items → listed ≡ true) → (asked_at w b).row ≡ row_items → leads_on runs_inside b ≡ true → row_leaves listed (places.plug b (Some x)) ≡ true
  along listed w (first rest) list item p =
      first_of_either (leaves_names listed x.kind x.below) (branch_leaves x.kind x.below || row_leaves listed rest) (ap (λ l. leaves_names l x.kind x.below) (list item) ∙ named)
  along listed w (places.behind k n c b) list item p =
      second_of_either (leaves_names listed k c) (branch_leaves k c || row_leaves listed (places.plug b (Some x))) (second_of_either (branch_leaves k c) (row_leaves listed (places.plug b (Some x))) (along listed w b list item p))
  along listed w (places.behind_none b) list item p = along listed w b list item p
  along listed w (places.under k n b rest) list item p =
      let t = places.plug b (Some x) in
      second_of_either (leaves_names listed k t) (branch_leaves k t || row_leaves listed rest)
      (first_of_either (branch_leaves k t) (row_leaves listed rest)
      (both (runs_inside k) (row_leaves (is_list k) t) (first_of_both (runs_inside k) (leads_on runs_inside b) p)
      (along (is_list k) (asked_below w k) b (λ e. list_or_not w.row k e) item (second_of_both (runs_inside k) (leads_on runs_inside b) p))))

  has_branch : (w : Asked) (k : Kind) (b : places.Around) → (asked_at (asked_below w k) b).row ≡ row_items → (runs_inside k && leads_on runs_inside b) ≡ true → branch_leaves k (places.plug b (Some x)) ≡ true
  has_branch w k b item p =
      both (runs_inside k) (row_leaves (is_list k) (places.plug b (Some x))) (first_of_both (runs_inside k) (leads_on runs_inside b) p)
      (along (is_list k) (asked_below w k) b (λ e. list_or_not w.row k e) item (second_of_both (runs_inside k) (leads_on runs_inside b) p))

  -- at the `if`, whose row is no list
  at_if : (w : Asked) (n : Note) (b : places.Around) → begins_untaken if_statement b ≡ true → (asked_at (asked_below w if_statement) b).row ≡ row_items → leads_on runs_inside b ≡ true → is_some (if_named n if_statement (places.plug b (Some x))) ≡ true
  at_if w n (places.behind t m d (places.under k i b r)) begins item way =
      ap (λ o. is_some (what_is_named n t m d o (node k i (places.plug b (Some x)) r))) (known_so false (truth_given t m d) begins)
      ∙ given_some (branch_leaves k (places.plug b (Some x))) (an_if n t m d (node k i (branch_named k (places.plug b (Some x))) r)) (has_branch (asked_below w if_statement) k b item way)
  at_if w n (places.behind t m d (places.behind k i c (places.under l j b r))) begins item way =
      ap (λ o. is_some (what_is_named n t m d o (node k i c (node l j (places.plug b (Some x)) r)))) (known_so true (truth_given t m d) begins)
      ∙ given_some (branch_leaves l (places.plug b (Some x))) (an_if n t m d (node k i c (node l j (branch_named l (places.plug b (Some x))) r))) (has_branch (asked_below w if_statement) l b item way)
  at_if w n (places.behind t m d (places.behind k i c (first r))) begins item way = no_kind begins
  at_if w n (places.behind t m d (places.behind k i c (places.behind l j e b))) begins item way = no_kind begins
  at_if w n (places.behind t m d (places.behind k i c (places.behind_none b))) begins item way = no_kind begins
  at_if w n (places.behind t m d (first r)) begins item way = no_kind begins
  at_if w n (places.behind t m d (places.behind_none b)) begins item way = no_kind begins
  at_if w n (first r) begins item way = no_kind begins
  at_if w n (places.behind_none b) begins item way = no_kind begins
  at_if w n (places.under k i b r) begins item way = no_kind begins

  find_if : (w : Asked) (k : Kind) (n : Note) (b : places.Around) (rest : Forest) → begins_untaken k b ≡ true → (asked_at (asked_below w k) b).row ≡ row_items → leads_on runs_inside b ≡ true → Found (node k n (places.plug b (Some x)) rest)
  find_if w if_statement n b rest begins item way = record { place = here; note = n; below = places.plug b (Some x); rest = rest; is = refl; answers = at_if w n b begins item way }
  find_if w k n b rest begins item way = no_kind begins

  find : (w : Asked) (b : places.Around) (u : Bool) → (asked_at w b).row ≡ row_items → is_untaken u b ≡ true → ((u ≡ true) × (leads_on runs_inside b ≡ true)) ⊎ Found (places.plug b (Some x))
  find w (first rest) u item is = inl (is, refl)
  find w (places.behind k n c b) u item is =
      elim (find w b u item is) [
        | inl way ↦ inl way
        | inr there ↦ inr (found_behind k n c there)
      ]
  find w (places.behind_none b) u item is =
      elim (find w b u item is) [
        | inl way ↦ inl way
        | inr there ↦ inr (found_absent there)
      ]
  find w (places.under k n b rest) u item is =
      elim (find (asked_below w k) b (u && runs_inside k || begins_untaken k b) item is) [
        | inl way ↦ elim (or_cases (u && runs_inside k) (begins_untaken k b) way.0) [
          | inl around ↦ inl (first_of_both u (runs_inside k) around, both (runs_inside k) (leads_on runs_inside b) (second_of_both u (runs_inside k) around) way.1)
          | inr begins ↦ inr (find_if w k n b rest begins item way.1)
        ]
        | inr there ↦ inr (found_below k n rest there)
      ]

  found : (b : places.Around) → IsItem b → is_untaken false b ≡ true → Found (places.plug b (Some x))
  found b item is =
      elim (find (asked_of_program true) b false item is) [
        | inl way ↦ absurd (true≢false (sym way.0))
        | inr there ↦ there
      ]

-- where the rule answers nothing none stands there
pub settled_names : (t : Forest) → ((a : counts.Around) (x : Tree) (rest : Forest) → t ≡ plug a (node x.kind x.note x.below rest) → if_named x.note x.kind x.below ≡ None)
    → (b : places.Around) (x y : Tree) → t ≡ places.plug b (Some x) → KeptNames b x y → ⊥
settled_names t settled b _ _ is (names_stay x y item untaken leaves others plain made) =
    let f = found x (is_named_there {a = b} (names_stay x y item untaken leaves others plain made)) b item untaken in
    none_some (settled f.place (record { kind = if_statement; note = f.note; below = f.below }) f.rest (is ∙ f.is)) f.answers

-- ---- and the other way round

record Stands (t : Forest) : Type 0 where
  place : places.Around
  old : Tree
  new : Tree
  is : t ≡ places.plug place (Some old)
  kept_of_it : KeptNames place old new

stands_within : (a c : counts.Around) (t : Forest) → Stands (plug (join a c) t) → Stands (plug a (plug c t))
stands_within a c t s = subst Stands (plug_join a c t) s

named_stands : (listed : Bool) (a : counts.Around) (k : Kind) (n : Note) (b rest : Forest) → ItemsIf listed a → All runs_inside a → leaves_names listed k b ≡ true → Stands (plug a (node k n b rest))
named_stands listed a k n b rest items all h =
    let x : Tree = record { kind = k; note = n; below = b } in
    let named = is_named listed k b h in
    let y = names_there n named in
    let of = leaving k named.leaves in
    record {
      place = to a (first rest);
      old = x;
      new = y.0;
      is = sym (plugged a (first rest) (Some x));
      kept_of_it = names_stay x y.0 (ap (λ (w : Asked). w.row) (asked_to (asked_of_program true) a (first rest)) ∙ items named.is_item) (all false (first rest)) named.leaves
          (of.others_are n b ∙ both (declares_no_name k (without_vars b)) true named.others refl) (of.plain_is n b ∙ both (vars_bind_names b) true named.plain refl) y.1;
    }

stands_by : (listed : Bool) (a : counts.Around) (k : Kind) (n : Note) (b rest : Forest) (inner more goes : Bool) → ItemsIf listed a → All runs_inside a → leaves_names listed k b ≡ goes → (goes || (inner || more)) ≡ true
    → (inner ≡ true → Stands (plug a (node k n b rest))) → (more ≡ true → Stands (plug a (node k n b rest))) → Stands (plug a (node k n b rest))
stands_by listed a k n b rest inner more true items all is h below next = named_stands listed a k n b rest items all is
stands_by listed a k n b rest true more false items all is h below next = below refl
stands_by listed a k n b rest false true false items all is h below next = next refl
stands_by listed a k n b rest false false false items all is h below next = no_kind h

some_stand : (listed : Bool) (a : counts.Around) (t : Forest) → ItemsIf listed a → All runs_inside a → row_leaves listed t ≡ true → Stands (plug a t)
some_stand listed a nothing items all h = no_kind h
some_stand listed a (absent rest) items all h = stands_within a (behind_none here) rest (some_stand listed (join a (behind_none here)) rest (items_absent listed a items) (all_absent runs_inside a all) h)
some_stand listed a (node k n b rest) items all h =
    let p = join a (under k n here rest) in
    stands_by listed a k n b rest (branch_leaves k b) (row_leaves listed rest) (leaves_names listed k b) items all refl h
    (λ has. stands_within a (under k n here rest) b
    (some_stand (is_list k) p b (items_under a k n rest) (all_under runs_inside a k n rest (first_of_both (runs_inside k) (row_leaves (is_list k) b) has) all) (second_of_both (runs_inside k) (row_leaves (is_list k) b) has)))
    (λ more. stands_within a (behind k n b here) rest (some_stand listed (join a (behind k n b here)) rest (items_next listed a k n b items) (all_behind runs_inside a k n b all) more))

branch_stands : (a c : counts.Around) (k : Kind) (below : Forest) → Branch a c k → branch_leaves k below ≡ true → Stands (plug a (plug c below))
branch_stands a c k below at has =
    let runs = first_of_both (runs_inside k) (row_leaves (is_list k) below) has in
    stands_within a c below (some_stand (is_list k) (join a c) below at.items (all_from runs_inside a c (at.led runs_inside runs)) (second_of_both (runs_inside k) (row_leaves (is_list k) below) has))

stands_by_truth : (n : Note) (t : Kind) (m : Note) (d : Forest) (a : counts.Around) (rest : Forest) (truth : Option Bool) (branches : Forest) (y : Tree) → truth_given t m d ≡ truth → what_is_named n t m d truth branches ≡ Some y
    → Stands (plug a (node if_statement n (node t m d branches) rest))
stands_by_truth n t m d a rest (Some false) (node k i b alternate) y is e =
    elim (chosen_if (branch_leaves k b) (an_if n t m d (node k i (branch_named k b) alternate)) y e) [
      | chosen has same ↦ branch_stands a (under if_statement n (behind t m d (under k i here alternate)) rest) k b (at_consequent a n t m d k i alternate rest is) has
    ]
stands_by_truth n t m d a rest (Some true) (node k i b (node l j c r)) y is e =
    elim (chosen_if (branch_leaves l c) (an_if n t m d (node k i b (node l j (branch_named l c) r))) y e) [
      | chosen has same ↦ branch_stands a (under if_statement n (behind t m d (behind k i b (under l j here r))) rest) l c (at_alternate a n t m d k i b l j r rest is) has
    ]
stands_by_truth n t m d a rest None branches y is e = no_answer e
stands_by_truth n t m d a rest (Some false) nothing y is e = no_answer e
stands_by_truth n t m d a rest (Some false) (absent r) y is e = no_answer e
stands_by_truth n t m d a rest (Some true) nothing y is e = no_answer e
stands_by_truth n t m d a rest (Some true) (absent r) y is e = no_answer e
stands_by_truth n t m d a rest (Some true) (node k i b nothing) y is e = no_answer e
stands_by_truth n t m d a rest (Some true) (node k i b (absent r)) y is e = no_answer e

stands_at : (a : counts.Around) (n : Note) (k : Kind) (below : Forest) (y : Tree) (rest : Forest) → if_named n k below ≡ Some y → Stands (plug a (node k n below rest))
stands_at a n if_statement (node t m d branches) y rest e = stands_by_truth n t m d a rest (truth_given t m d) branches y refl e
stands_at a n if_statement nothing y rest e = no_answer e
stands_at a n if_statement (absent r) y rest e = no_answer e
stands_at a n k below y rest e = no_answer e

pub settled_without_names : (t : Forest) → ((b : places.Around) (x y : Tree) → t ≡ places.plug b (Some x) → KeptNames b x y → ⊥)
    → (a : counts.Around) (x : Tree) (rest : Forest) → t ≡ plug a (node x.kind x.note x.below rest) → if_named x.note x.kind x.below ≡ None
settled_without_names t none a x rest is =
    none_of (if_named x.note x.kind x.below) (λ y e. let s = stands_at a x.note x.kind x.below y rest e in none s.place s.old s.new (is ∙ s.is) s.kept_of_it)
