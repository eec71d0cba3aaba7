-- In a branch that isn't taken statements leave their lists, and values become zeros, by edits; and where the rule answers nothing, none
-- stands there that could.
use Rattle.std.proofs.Common.{◌≡◌, ◌∙◌, ◌⊎◌, inl, inr, Bool, true, false, ◌&&◌, ◌||◌, Option, Some, None, is_some, if◌then◌else◌, refl, sym, ap, subst, true≢false}
use Rattle.std.proofs.lemmas.Bool.{or_cases}
use Rattle.js_syntax.specs.declared.node_kind.NodeKind.{NodeKind as Kind}
use Rattle.js_syntax.specs.declared.node_kind.NodeKind.TheVariants.{Statements as statements, IfStatement as if_statement}
use Rattle.js_syntax.specs.Node.{Forest, Tree, Note, nothing, node, absent, forest_of}
use Rattle.js_syntax.proofs.Truth.{both, first_of_both, second_of_both, first_of_either, second_of_either}
use Rattle.min_pass.specs.declared.around.Around.{Around as Asked}
use Rattle.min_pass.specs.declared.around.Row.{Row as AskedRow}
use Rattle.min_pass.specs.declared.around.Row.TheVariants.{Items as row_items, OfItem as row_of_item}
use Rattle.min_pass.specs.Around.{row_below as asked_row_below, entered as asked_below, outermost as asked_of_program}
use Rattle.scope_counts.specs.Edits as counts
use Rattle.scope_counts.specs.Edits.{here, behind, behind_none, under, plug}
use Rattle.scope_laws.specs.Place as places
use Rattle.scope_laws.specs.Place.{first}
use Rattle.steps.specs.Allowed.Branches.{declares_none, declares_no_name}
use Rattle.steps.specs.Allowed.Edits.{Edit, leaves, becomes, untaken, unrun_value, TreeEdits, no_tree_edit, one_tree_edit}
use Rattle.steps.specs.Allowed.KnownIf.{an_if}
use Rattle.steps.specs.Allowed.Places.{asked_at, IsItem}
use Rattle.steps.specs.Allowed.Unreached.{only_runs}
use Rattle.steps.specs.Allowed.Untaken.{truth_given, is_known, begins_untaken, runs_inside, led_by, is_untaken, Untaken, never_taken}
use Rattle.steps.specs.Allowed.UnrunValue.{declares, passes, is_unrun, is_value_of, is_value, may_be_dropped, UnrunValue, value_never_given}
use Rattle.rules.proofs.DeadCode.Items.{row_of_list, leaves_there, becomes_there}
use Rattle.rules.proofs.DeadCode.Places.{to, plugged, join, plug_join, asked_row, asked_to, asked_join}
use Rattle.rules.specs.Expressions.Ifs.{given_if}
use Rattle.rules.specs.Expressions.Lists.{new_note}
use Rattle.rules.specs.Expressions.Untaken.{is_list, may_go, is_declarator, zero_for, value_left, value_drops, values_of, values_rid, drops_of, values_drop, rid, row_loses, branch_left, branch_loses, what_stays, if_left}
use Rattle.rules.proofs.Expressions.Becoming.{no_answer, none_of, chosen, chosen_if}
use Rattle.rules.proofs.Expressions.Thinner.{no_kind}

-- ---- places in a branch that isn't taken

-- by the nodes that may stand between
abbrev pub All : (passes : Kind → Bool) → counts.Around → Type 0
All p a = (u : Bool) (b : places.Around) → led_by p u (to a b) ≡ led_by p true b

-- for items, and for values
record Led (a : counts.Around) : Type 0 where
  items : All runs_inside a
  values : All passes a

pub to_join : (a c : counts.Around) (b : places.Around) → to (join a c) b ≡ to a (to c b)
to_join here c b = refl
to_join (behind k n d a) c b = ap (λ x. places.behind k n d x) (to_join a c b)
to_join (behind_none a) c b = ap (λ x. places.behind_none x) (to_join a c b)
to_join (under k n a rest) c b = ap (λ x. places.under k n x rest) (to_join a c b)

flagged : (p : Kind → Bool) (f : Bool) (b : places.Around) → f ≡ true → led_by p f b ≡ led_by p true b
flagged p f b e = ap (λ g. led_by p g b) e

runs_on : (p : Kind → Bool) (k : Kind) (b : places.Around) → p k ≡ true → (p k || begins_untaken k b) ≡ true
runs_on p k b e = ap (λ r. r || begins_untaken k b) e

all_more : (p : Kind → Bool) (a c : counts.Around) → All p a → ((b : places.Around) → led_by p true (to c b) ≡ led_by p true b) → All p (join a c)
all_more p a c h g u b = ap (λ x. led_by p u x) (to_join a c b) ∙ h u (to c b) ∙ g b

pub all_under : (p : Kind → Bool) (a : counts.Around) (k : Kind) (n : Note) (rest : Forest) → p k ≡ true → All p a → All p (join a (under k n here rest))
all_under p a k n rest e h = all_more p a (under k n here rest) h (λ x. flagged p (p k || begins_untaken k x) x (runs_on p k x e))

pub all_behind : (p : Kind → Bool) (a : counts.Around) (k : Kind) (n : Note) (b : Forest) → All p a → All p (join a (behind k n b here))
all_behind p a k n b h = all_more p a (behind k n b here) h (λ x. refl)

pub all_absent : (p : Kind → Bool) (a : counts.Around) → All p a → All p (join a (behind_none here))
all_absent p a h = all_more p a (behind_none here) h (λ x. refl)

pub all_from : (p : Kind → Bool) (a c : counts.Around) → All p c → All p (join a c)
all_from p here c h u b = h u b
all_from p (behind k n d a) c h u b = all_from p a c h u b
all_from p (behind_none a) c h u b = all_from p a c h u b
all_from p (under k n a rest) c h u b = all_from p a c h (u && p k || begins_untaken k (to (join a c) b)) b

or_true : (a : Bool) → (a || true) ≡ true
or_true true = refl
or_true false = refl

in_consequent : (p : Kind → Bool) (n : Note) (t : Kind) (m : Note) (d : Forest) (k : Kind) (i : Note) (r rest : Forest) → truth_given t m d ≡ Some false → p k ≡ true → All p (under if_statement n (behind t m d (under k i here r)) rest)
in_consequent p n t m d k i r rest truth runs u b =
    ap (λ o. led_by p (u && p if_statement || is_known (Some false) o) (places.behind t m d (places.under k i b r))) truth
    ∙ flagged p (u && p if_statement || true) (places.behind t m d (places.under k i b r)) (or_true (u && p if_statement))
    ∙ flagged p (p k || begins_untaken k b) b (runs_on p k b runs)

in_alternate : (p : Kind → Bool) (n : Note) (t : Kind) (m : Note) (d : Forest) (k : Kind) (i : Note) (e : Forest) (l : Kind) (j : Note) (r rest : Forest) → truth_given t m d ≡ Some true → p l ≡ true
    → All p (under if_statement n (behind t m d (behind k i e (under l j here r))) rest)
in_alternate p n t m d k i e l j r rest truth runs u b =
    ap (λ o. led_by p (u && p if_statement || is_known (Some true) o) (places.behind t m d (places.behind k i e (places.under l j b r)))) truth
    ∙ flagged p (u && p if_statement || true) (places.behind t m d (places.behind k i e (places.under l j b r))) (or_true (u && p if_statement))
    ∙ flagged p (p l || begins_untaken l b) b (runs_on p l b runs)

-- what runs what it holds may stand around a value too
runs_pass : (k : Kind) → runs_inside k ≡ true → passes k ≡ true
runs_pass k h = first_of_either (runs_inside k) (declares k) h

led_under : (a : counts.Around) (k : Kind) (n : Note) (rest : Forest) → runs_inside k ≡ true → Led a → Led (join a (under k n here rest))
led_under a k n rest e h = record { items = all_under runs_inside a k n rest e h.items; values = all_under passes a k n rest (runs_pass k e) h.values }

led_behind : (a : counts.Around) (k : Kind) (n : Note) (b : Forest) → Led a → Led (join a (behind k n b here))
led_behind a k n b h = record { items = all_behind runs_inside a k n b h.items; values = all_behind passes a k n b h.values }

led_absent : (a : counts.Around) → Led a → Led (join a (behind_none here))
led_absent a h = record { items = all_absent runs_inside a h.items; values = all_absent passes a h.values }

-- a place of a value
value_to : (a : counts.Around) (b : places.Around) → is_value b ≡ true → is_value (to a b) ≡ true
value_to here b h = h
value_to (behind k n d a) b h = value_to a b h
value_to (behind_none a) b h = value_to a b h
value_to (under k n a rest) b h = second_of_either (is_value_of k (to a b)) (is_value (to a b)) (value_to a b h)

-- the row of a declarator
abbrev OfDeclarator : counts.Around → Type 0
OfDeclarator a = (k : Kind) (n : Note) (b r : Forest) → is_value (to a (places.behind k n b (first r))) ≡ true

declarator_row : (a : counts.Around) (k : Kind) (n : Note) (rest : Forest) → is_declarator k ≡ true → OfDeclarator (join a (under k n here rest))
declarator_row a Kind.VariableDeclarator n rest h l m b r =
    ap (λ x. is_value x) (to_join a (under Kind.VariableDeclarator n here rest) (places.behind l m b (first r))) ∙ value_to a (places.under Kind.VariableDeclarator n (places.behind l m b (first r)) rest) refl
declarator_row a k n rest h l m b r = no_kind h

-- ---- edits there

abbrev pub ItemsIf : Bool → counts.Around → Type 0
ItemsIf listed a = listed ≡ true → (asked_row (asked_of_program true) a).row ≡ row_items

items_below : (k : Kind) (r : AskedRow) → is_list k ≡ true → asked_row_below r k ≡ row_items
items_below statements r e = row_of_list r
items_below k r e = no_kind e

pub items_under : (a : counts.Around) (k : Kind) (n : Note) (rest : Forest) → ItemsIf (is_list k) (join a (under k n here rest))
items_under a k n rest e = ap (λ (w : Asked). w.row) (asked_join (asked_of_program true) a (under k n here rest)) ∙ items_below k (asked_row (asked_of_program true) a).row e

pub items_next : (listed : Bool) (a : counts.Around) (k : Kind) (n : Note) (b : Forest) → ItemsIf listed a → ItemsIf listed (join a (behind k n b here))
items_next listed a k n b h e = ap (λ (w : Asked). w.row) (asked_join (asked_of_program true) a (behind k n b here)) ∙ h e

pub items_absent : (listed : Bool) (a : counts.Around) → ItemsIf listed a → ItemsIf listed (join a (behind_none here))
items_absent listed a h e = ap (λ (w : Asked). w.row) (asked_join (asked_of_program true) a (behind_none here)) ∙ h e

untaken_there : (listed : Bool) (a : counts.Around) (k : Kind) (n : Note) (b rest : Forest) → ItemsIf listed a → All runs_inside a → may_go listed k b ≡ true → Untaken (to a (first rest)) (record { kind = k; note = n; below = b })
untaken_there listed a k n b rest items all goes =
    let runs = second_of_both listed (only_runs k && declares_no_name k b) goes in
    never_taken (ap (λ (w : Asked). w.row) (asked_to (asked_of_program true) a (first rest)) ∙ items (first_of_both listed (only_runs k && declares_no_name k b) goes)) (all false (first rest))
    (first_of_both (only_runs k) (declares_no_name k b) runs) (both (declares_no_name k b) true (second_of_both (only_runs k) (declares_no_name k b) runs) refl)

goes_edit : (listed : Bool) (a : counts.Around) (k : Kind) (n : Note) (b rest : Forest) → ItemsIf listed a → All runs_inside a → may_go listed k b ≡ true → Edit (plug a (node k n b rest)) (plug a rest)
goes_edit listed a k n b rest items all goes =
    leaves_there a (Some (record { kind = k; note = n; below = b })) rest (leaves (to a (first rest)) (record { kind = k; note = n; below = b }) (untaken (untaken_there listed a k n b rest items all goes)))

-- a value
value_place : counts.Around → (k : Kind) (n : Note) (b r : Forest) → places.Around
value_place a k n b r = to (join a (behind k n b here)) (first r)

unrun_there : (a : counts.Around) (k : Kind) (n : Note) (b : Forest) (l : Kind) (m : Note) (c r : Forest) → OfDeclarator a → All passes a → may_be_dropped l ≡ true
    → UnrunValue (to (join a (behind k n b here)) (first r)) (record { kind = l; note = m; below = c }) (zero_for m)
unrun_there a k n b l m c r value all drops =
    value_never_given (new_note m) (record { kind = l; note = m; below = c }) (ap (λ x. is_value x) (to_join a (behind k n b here) (first r)) ∙ value k n b r)
    (ap (λ x. is_unrun false x) (to_join a (behind k n b here) (first r)) ∙ all false (places.behind k n b (first r))) drops

zero_edit : (a : counts.Around) (k : Kind) (n : Note) (b : Forest) (l : Kind) (m : Note) (c r : Forest) → OfDeclarator a → All passes a → may_be_dropped l ≡ true
    → Edit (plug a (node k n b (node l m c r))) (plug a (node k n b (node (zero_for m).kind (zero_for m).note nothing r)))
zero_edit a k n b l m c r value all drops =
    let x : Tree = record { kind = l; note = m; below = c } in
    let p = join a (behind k n b here) in
    subst (λ t. Edit t (plug a (node k n b (node (zero_for m).kind (zero_for m).note nothing r)))) (plug_join a (behind k n b here) (node l m c r))
    (subst (λ t. Edit (plug p (node l m c r)) t) (plug_join a (behind k n b here) (node (zero_for m).kind (zero_for m).note nothing r))
    (becomes_there p (Some x) (Some (zero_for m)) r (becomes (to p (first r)) x (zero_for m) (unrun_value (unrun_there a k n b l m c r value all drops)))))

pub joined_edits : {t u v : Forest} → TreeEdits t u → TreeEdits u v → TreeEdits t v
joined_edits (no_tree_edit t) more = more
joined_edits (one_tree_edit t u v e rest) more = one_tree_edit t u _ e (joined_edits rest more)

by_node : (a : counts.Around) (k : Kind) (n : Note) (b c rest left : Forest) (goes : Bool) → (goes ≡ true → Edit (plug a (node k n b rest)) (plug a rest)) → TreeEdits (plug a rest) (plug a left)
    → TreeEdits (plug a (node k n b rest)) (plug a (node k n c rest)) → TreeEdits (plug a (node k n c rest)) (plug a (node k n c left))
    → TreeEdits (plug a (node k n b rest)) (plug a (if goes then left else node k n c left))
by_node a k n b c rest left true edit now below next = one_tree_edit (plug a (node k n b rest)) (plug a rest) (plug a left) (edit refl) now
by_node a k n b c rest left false edit now below next = joined_edits below next

pub within : (a c : counts.Around) (t u : Forest) → TreeEdits (plug (join a c) t) (plug (join a c) u) → TreeEdits (plug a (plug c t)) (plug a (plug c u))
within a c t u e = subst (λ v. TreeEdits v (plug a (plug c u))) (plug_join a c t) (subst (λ v. TreeEdits (plug (join a c) t) v) (plug_join a c u) e)

-- the value of a declarator
zero_by : (a : counts.Around) (k : Kind) (n : Note) (b : Forest) (l : Kind) (m : Note) (c r : Forest) (drops : Bool) → OfDeclarator a → All passes a → may_be_dropped l ≡ drops
    → TreeEdits (plug a (node k n b (node l m c r))) (plug a (node k n b (if drops then node (zero_for m).kind (zero_for m).note nothing r else node l m c r)))
zero_by a k n b l m c r true value all drops =
    let new = plug a (node k n b (node (zero_for m).kind (zero_for m).note nothing r)) in
    one_tree_edit (plug a (node k n b (node l m c r))) new new (zero_edit a k n b l m c r value all drops) (no_tree_edit new)
zero_by a k n b l m c r false value all drops = no_tree_edit (plug a (node k n b (node l m c r)))

zero_edits : (a : counts.Around) (t : Forest) → OfDeclarator a → All passes a → TreeEdits (plug a t) (plug a (value_left t))
zero_edits a nothing value all = no_tree_edit (plug a nothing)
zero_edits a (absent r) value all = no_tree_edit (plug a (absent r))
zero_edits a (node k n b nothing) value all = no_tree_edit (plug a (node k n b nothing))
zero_edits a (node k n b (absent r)) value all = no_tree_edit (plug a (node k n b (absent r)))
zero_edits a (node k n b (node l m c r)) value all = zero_by a k n b l m c r (may_be_dropped l) value all refl

-- at the row below a node, by what the node is
of_values : (a : counts.Around) (k : Kind) (t u : Forest) (p d : Bool) → passes k ≡ p → is_declarator k ≡ d → (passes k ≡ true → All passes a) → (is_declarator k ≡ true → OfDeclarator a) → (passes k ≡ true → TreeEdits (plug a t) (plug a u))
    → TreeEdits (plug a t) (plug a (if p then (if d then value_left u else u) else t))
of_values a k t u true true is it all value inner = joined_edits (inner is) (zero_edits a u (value it) (all is))
of_values a k t u true false is it all value inner = inner is
of_values a k t u false d is it all value inner = no_tree_edit (plug a t)

value_edits : (a : counts.Around) (t : Forest) → All passes a → TreeEdits (plug a t) (plug a (values_rid t))
value_edits a nothing all = no_tree_edit (plug a nothing)
value_edits a (absent rest) all = within a (behind_none here) rest (values_rid rest) (value_edits (join a (behind_none here)) rest (all_absent passes a all))
value_edits a (node k n b rest) all =
    joined_edits (within a (under k n here rest) b (values_of k b (values_rid b))
    (of_values (join a (under k n here rest)) k b (values_rid b) (passes k) (is_declarator k) refl refl (λ h. all_under passes a k n rest h all) (declarator_row a k n rest)
    (λ h. value_edits (join a (under k n here rest)) b (all_under passes a k n rest h all))))
    (within a (behind k n (values_of k b (values_rid b)) here) rest (values_rid rest) (value_edits (join a (behind k n (values_of k b (values_rid b)) here)) rest (all_behind passes a k n (values_of k b (values_rid b)) all)))

-- below a node, where its row is led to
values_below : (a : counts.Around) (k : Kind) (b : Forest) → (passes k ≡ true → All passes a) → (is_declarator k ≡ true → OfDeclarator a) → TreeEdits (plug a b) (plug a (values_of k b (values_rid b)))
values_below a k b all value = of_values a k b (values_rid b) (passes k) (is_declarator k) refl refl all value (λ h. value_edits a b (all h))

pub if_runs : (a : counts.Around) (b c d : Forest) (runs : Bool) → (runs ≡ true → TreeEdits (plug a b) (plug a c)) → TreeEdits (plug a b) (plug a d) → TreeEdits (plug a b) (plug a (if runs then c else d))
if_runs a b c d true when otherwise = when refl
if_runs a b c d false when otherwise = otherwise

rid_edits : (listed : Bool) (a : counts.Around) (t : Forest) → ItemsIf listed a → Led a → TreeEdits (plug a t) (plug a (rid listed t))
rid_edits listed a nothing items led = no_tree_edit (plug a nothing)
rid_edits listed a (absent rest) items led = within a (behind_none here) rest (rid listed rest) (rid_edits listed (join a (behind_none here)) rest (items_absent listed a items) (led_absent a led))
rid_edits listed a (node k n b rest) items led =
    let p = join a (under k n here rest) in
    let c = branch_left k b in
    by_node a k n b c rest (rid listed rest) (may_go listed k b) (λ goes. goes_edit listed a k n b rest items led.items goes) (rid_edits listed a rest items led)
    (within a (under k n here rest) b c (if_runs p b (rid (is_list k) b) (values_of k b (values_rid b)) (runs_inside k) (λ runs. rid_edits (is_list k) p b (items_under a k n rest) (led_under a k n rest runs led))
    (values_below p k b (λ h. all_under passes a k n rest h led.values) (declarator_row a k n rest))))
    (within a (behind k n c here) rest (rid listed rest) (rid_edits listed (join a (behind k n c here)) rest (items_next listed a k n c items) (led_behind a k n c led)))

-- ---- of an `if`

-- by the place of what lies below its branch
pub record Branch (a c : counts.Around) (k : Kind) : Type 0 where
  pub items : ItemsIf (is_list k) (join a c)
  pub led : (p : Kind → Bool) → p k ≡ true → All p c
  value : is_declarator k ≡ true → OfDeclarator (join a c)

branch_edits : (a c : counts.Around) (k : Kind) (below : Forest) → Branch a c k → TreeEdits (plug a (plug c below)) (plug a (plug c (branch_left k below)))
branch_edits a c k below at =
    within a c below (branch_left k below)
    (if_runs (join a c) below (rid (is_list k) below) (values_of k below (values_rid below)) (runs_inside k)
    (λ runs. rid_edits (is_list k) (join a c) below at.items (record { items = all_from runs_inside a c (at.led runs_inside runs); values = all_from passes a c (at.led passes (runs_pass k runs)) }))
    (values_below (join a c) k below (λ h. all_from passes a c (at.led passes h)) at.value))

pub at_consequent : (a : counts.Around) (n : Note) (t : Kind) (m : Note) (d : Forest) (k : Kind) (i : Note) (alternate rest : Forest) → truth_given t m d ≡ Some false → Branch a (under if_statement n (behind t m d (under k i here alternate)) rest) k
at_consequent a n t m d k i alternate rest is =
    let c = under if_statement n (behind t m d (under k i here alternate)) rest in
    record {
      items = λ l. ap (λ (w : Asked). w.row) (asked_join (asked_of_program true) a c) ∙ items_below k (asked_below (asked_row (asked_of_program true) a) if_statement).row l;
      led = λ p runs. in_consequent p n t m d k i alternate rest is runs;
      value = λ h l o b r. ap (λ x. is_value x) (to_join a c (places.behind l o b (first r))) ∙ value_to a (to c (places.behind l o b (first r))) (declarator_row (under if_statement n (behind t m d here) rest) k i alternate h l o b r);
    }

pub at_alternate : (a : counts.Around) (n : Note) (t : Kind) (m : Note) (d : Forest) (k : Kind) (i : Note) (b : Forest) (l : Kind) (j : Note) (r rest : Forest) → truth_given t m d ≡ Some true
    → Branch a (under if_statement n (behind t m d (behind k i b (under l j here r))) rest) l
at_alternate a n t m d k i b l j r rest is =
    let c = under if_statement n (behind t m d (behind k i b (under l j here r))) rest in
    record {
      items = λ x. ap (λ (w : Asked). w.row) (asked_join (asked_of_program true) a c) ∙ items_below l (asked_below (asked_row (asked_of_program true) a) if_statement).row x;
      led = λ p runs. in_alternate p n t m d k i b l j r rest is runs;
      value = λ h x o e z. ap (λ y. is_value y) (to_join a c (places.behind x o e (first z))) ∙ value_to a (to c (places.behind x o e (first z))) (declarator_row (under if_statement n (behind t m d (behind k i b here)) rest) l j r h x o e z);
    }

module _ (n : Note) (t : Kind) (m : Note) (d : Forest) where
  by_truth : (a : counts.Around) (rest : Forest) (truth : Option Bool) (branches : Forest) (y : Tree) → truth_given t m d ≡ truth → what_stays n t m d truth branches ≡ Some y → TreeEdits (plug a (node if_statement n (node t m d branches) rest)) (plug a (node y.kind y.note y.below rest))
  by_truth a rest (Some false) (node k i b alternate) y is e =
      elim (chosen_if (branch_loses k b) (an_if n t m d (node k i (branch_left k b) alternate)) y e) [
        | chosen has same ↦
            subst (λ (z : Tree). TreeEdits (plug a (node if_statement n (node t m d (node k i b alternate)) rest)) (plug a (node z.kind z.note z.below rest))) same
            (branch_edits a (under if_statement n (behind t m d (under k i here alternate)) rest) k b (at_consequent a n t m d k i alternate rest is))
      ]
  by_truth a rest (Some true) (node k i b (node l j c r)) y is e =
      elim (chosen_if (branch_loses l c) (an_if n t m d (node k i b (node l j (branch_left l c) r))) y e) [
        | chosen has same ↦
            subst (λ (z : Tree). TreeEdits (plug a (node if_statement n (node t m d (node k i b (node l j c r))) rest)) (plug a (node z.kind z.note z.below rest))) same
            (branch_edits a (under if_statement n (behind t m d (behind k i b (under l j here r))) rest) l c (at_alternate a n t m d k i b l j r rest is))
      ]
  by_truth a rest None branches y is e = no_answer e
  by_truth a rest (Some false) nothing y is e = no_answer e
  by_truth a rest (Some false) (absent r) y is e = no_answer e
  by_truth a rest (Some true) nothing y is e = no_answer e
  by_truth a rest (Some true) (absent r) y is e = no_answer e
  by_truth a rest (Some true) (node k i b nothing) y is e = no_answer e
  by_truth a rest (Some true) (node k i b (absent r)) y is e = no_answer e

left_edits_at : (a : counts.Around) (n : Note) (k : Kind) (below : Forest) (y : Tree) (rest : Forest) → if_left n k below ≡ Some y → TreeEdits (plug a (node k n below rest)) (plug a (node y.kind y.note y.below rest))
left_edits_at a n if_statement (node t m d branches) y rest e = by_truth n t m d a rest (truth_given t m d) branches y refl e
left_edits_at a n if_statement nothing y rest e = no_answer e
left_edits_at a n if_statement (absent r) y rest e = no_answer e
left_edits_at a n k below y rest e = no_answer e

-- what an `if` becomes it becomes by edits
pub left_edits : (a : counts.Around) (x y : Tree) (rest : Forest) → if_left x.note x.kind x.below ≡ Some y → TreeEdits (plug a (node x.kind x.note x.below rest)) (plug a (node y.kind y.note y.below rest))
left_edits a x y rest e = left_edits_at a x.note x.kind x.below y rest e

-- ---- where the rule answers nothing

record Found (t : Forest) : Type 0 where
  place : counts.Around
  note : Note
  below : Forest
  rest : Forest
  is : t ≡ plug place (node if_statement note below rest)
  answers : is_some (if_left note if_statement below) ≡ true

found_below : {t : Forest} (k : Kind) (n : Note) (rest : Forest) → Found t → Found (node k n t rest)
found_below k n rest f = record { place = under k n f.place rest; note = f.note; below = f.below; rest = f.rest; is = ap (λ u. node k n u rest) f.is; answers = f.answers }

found_behind : {t : Forest} (k : Kind) (n : Note) (below : Forest) → Found t → Found (node k n below t)
found_behind k n below f = record { place = behind k n below f.place; note = f.note; below = f.below; rest = f.rest; is = ap (λ u. node k n below u) f.is; answers = f.answers }

found_absent : {t : Forest} → Found t → Found (absent t)
found_absent f = record { place = behind_none f.place; note = f.note; below = f.below; rest = f.rest; is = ap (λ u. absent u) f.is; answers = f.answers }

-- all nodes on the way are such
abbrev pub leads_on : (p : Kind → Bool) → places.Around → Bool
leads_on p (first rest) = true
leads_on p (places.behind k n b a) = leads_on p a
leads_on p (places.behind_none a) = leads_on p a
leads_on p (places.under k n a rest) = p k && leads_on p a

pub list_or_not : (r : AskedRow) (k : Kind) → asked_row_below r k ≡ row_items → is_list k ≡ true
list_or_not r statements e = refl
list_or_not row_items (Kind.VariableDeclaration how) e = absurd cc
list_or_not row_of_item Kind.Declarators e = absurd cc
list_or_not r k e = absurd cc

pub known_so : (b : Bool) (o : Option Bool) → is_known (Some b) o ≡ true → o ≡ Some b
known_so true (Some true) h = refl
known_so false (Some false) h = refl
known_so true (Some false) h = no_kind h
known_so false (Some true) h = no_kind h
known_so true None h = no_kind h
known_so false None h = no_kind h

pub given_some : (b : Bool) (x : Tree) → b ≡ true → is_some (given_if b x) ≡ true
given_some b x e = ap (λ c. is_some (given_if c x)) e

module _ (x : Tree) (runs : only_runs x.kind ≡ true) (none : declares_none (forest_of x) ≡ true) where
  x_goes : may_go true x.kind x.below ≡ true
  x_goes = both (only_runs x.kind) (declares_no_name x.kind x.below) runs (first_of_both (declares_no_name x.kind x.below) true none)

  along : (listed : Bool) (w : Asked) (b : places.Around) → (w.row ≡ row_items → listed ≡ true) → (asked_at w b).row ≡ row_items → leads_on runs_inside b ≡ true → row_loses listed (places.plug b (Some x)) ≡ true
  along listed w (first rest) list item p =
      first_of_either (may_go listed x.kind x.below) (branch_loses x.kind x.below || row_loses listed rest) (ap (λ l. may_go l x.kind x.below) (list item) ∙ x_goes)
  along listed w (places.behind k n c b) list item p =
      second_of_either (may_go listed k c) (branch_loses k c || row_loses listed (places.plug b (Some x))) (second_of_either (branch_loses k c) (row_loses listed (places.plug b (Some x))) (along listed w b list item p))
  along listed w (places.behind_none b) list item p = along listed w b list item p
  along listed w (places.under k n b rest) list item p =
      let t = places.plug b (Some x) in
      second_of_either (may_go listed k t) (branch_loses k t || row_loses listed rest)
      (first_of_either (branch_loses k t) (row_loses listed rest)
      (ap (λ r. if r then row_loses (is_list k) t else drops_of k t (values_drop t)) (first_of_both (runs_inside k) (leads_on runs_inside b) p)
      ∙ along (is_list k) (asked_below w k) b (λ e. list_or_not w.row k e) item (second_of_both (runs_inside k) (leads_on runs_inside b) p)))

  -- the branch has something that goes
  has_branch : (w : Asked) (k : Kind) (b : places.Around) → (asked_at (asked_below w k) b).row ≡ row_items → (runs_inside k && leads_on runs_inside b) ≡ true → branch_loses k (places.plug b (Some x)) ≡ true
  has_branch w k b item p =
      let t = places.plug b (Some x) in
      ap (λ r. if r then row_loses (is_list k) t else drops_of k t (values_drop t)) (first_of_both (runs_inside k) (leads_on runs_inside b) p)
      ∙ along (is_list k) (asked_below w k) b (λ e. list_or_not w.row k e) item (second_of_both (runs_inside k) (leads_on runs_inside b) p)

-- ---- at the `if`

module _ (x : Tree) (p : Kind → Bool) (at_branch : Asked → Kind → places.Around → Type 0) (loses : (w : Asked) (k : Kind) (b : places.Around) → at_branch w k b → (p k && leads_on p b) ≡ true → branch_loses k (places.plug b (Some x)) ≡ true) where
  -- what is asked of the branch, by the place of what lies below the `if`
  abbrev AtIf : Asked → places.Around → Type 0
  AtIf w (places.behind t m d (places.under k i b r)) = at_branch (asked_below w if_statement) k b
  AtIf w (places.behind t m d (places.behind k i c (places.under l j b r))) = at_branch (asked_below w if_statement) l b
  AtIf w b = Unit {0}

  at_if : (w : Asked) (n : Note) (b : places.Around) → begins_untaken if_statement b ≡ true → AtIf w b → leads_on p b ≡ true → is_some (if_left n if_statement (places.plug b (Some x))) ≡ true
  at_if w n (places.behind t m d (places.under k i b r)) begins item way =
      ap (λ o. is_some (what_stays n t m d o (node k i (places.plug b (Some x)) r))) (known_so false (truth_given t m d) begins)
      ∙ given_some (branch_loses k (places.plug b (Some x))) (an_if n t m d (node k i (branch_left k (places.plug b (Some x))) r)) (loses (asked_below w if_statement) k b item way)
  at_if w n (places.behind t m d (places.behind k i c (places.under l j b r))) begins item way =
      ap (λ o. is_some (what_stays n t m d o (node k i c (node l j (places.plug b (Some x)) r)))) (known_so true (truth_given t m d) begins)
      ∙ given_some (branch_loses l (places.plug b (Some x))) (an_if n t m d (node k i c (node l j (branch_left l (places.plug b (Some x))) r))) (loses (asked_below w if_statement) l b item way)
  at_if w n (places.behind t m d (places.behind k i c (first r))) begins item way = no_kind begins
  at_if w n (places.behind t m d (places.behind k i c (places.behind l j e b))) begins item way = no_kind begins
  at_if w n (places.behind t m d (places.behind k i c (places.behind_none b))) begins item way = no_kind begins
  at_if w n (places.behind t m d (first r)) begins item way = no_kind begins
  at_if w n (places.behind t m d (places.behind_none b)) begins item way = no_kind begins
  at_if w n (first r) begins item way = no_kind begins
  at_if w n (places.behind_none b) begins item way = no_kind begins
  at_if w n (places.under k i b r) begins item way = no_kind begins

  found_if : (w : Asked) (k : Kind) (n : Note) (b : places.Around) (rest : Forest) → begins_untaken k b ≡ true → AtIf w b → leads_on p b ≡ true → Found (node k n (places.plug b (Some x)) rest)
  found_if w if_statement n b rest begins item way = record { place = here; note = n; below = places.plug b (Some x); rest = rest; is = refl; answers = at_if w n b begins item way }
  found_if w k n b rest begins item way = no_kind begins

-- ---- an item

module _ (x : Tree) (runs : only_runs x.kind ≡ true) (none : declares_none (forest_of x) ≡ true) where
  abbrev ItemBelow : Asked → Kind → places.Around → Type 0
  ItemBelow w k b = (asked_at (asked_below w k) b).row ≡ row_items

  -- the row of an `if` is no list
  item_at_if : (w : Asked) (b : places.Around) → (asked_at (asked_below w if_statement) b).row ≡ row_items → AtIf x runs_inside ItemBelow (has_branch x runs none) w b
  item_at_if w (places.behind t m d (places.under k i b r)) item = item
  item_at_if w (places.behind t m d (places.behind k i c (places.under l j b r))) item = item
  item_at_if w (places.behind t m d (places.behind k i c (first r))) item = tt
  item_at_if w (places.behind t m d (places.behind k i c (places.behind l j e b))) item = tt
  item_at_if w (places.behind t m d (places.behind k i c (places.behind_none b))) item = tt
  item_at_if w (places.behind t m d (first r)) item = tt
  item_at_if w (places.behind t m d (places.behind_none b)) item = tt
  item_at_if w (first r) item = tt
  item_at_if w (places.behind_none b) item = tt
  item_at_if w (places.under k i b r) item = tt

  find_if : (w : Asked) (k : Kind) (n : Note) (b : places.Around) (rest : Forest) → begins_untaken k b ≡ true → (asked_at (asked_below w k) b).row ≡ row_items → leads_on runs_inside b ≡ true → Found (node k n (places.plug b (Some x)) rest)
  find_if w if_statement n b rest begins item way = found_if x runs_inside ItemBelow (has_branch x runs none) w if_statement n b rest begins (item_at_if w b item) way
  find_if w k n b rest begins item way = no_kind begins

  find : (w : Asked) (b : places.Around) (u : Bool) → (asked_at w b).row ≡ row_items → is_untaken u b ≡ true → ((u ≡ true) × (leads_on runs_inside b ≡ true)) ⊎ Found (places.plug b (Some x))
  find w (first rest) u item is = inl (is, refl)
  find w (places.behind k n c b) u item is =
      elim (find w b u item is) [
        | inl way ↦ inl way
        | inr there ↦ inr (found_behind k n c there)
      ]
  find w (places.behind_none b) u item is =
      elim (find w b u item is) [
        | inl way ↦ inl way
        | inr there ↦ inr (found_absent there)
      ]
  find w (places.under k n b rest) u item is =
      elim (find (asked_below w k) b (u && runs_inside k || begins_untaken k b) item is) [
        | inl way ↦ elim (or_cases (u && runs_inside k) (begins_untaken k b) way.0) [
          | inl around ↦ inl (first_of_both u (runs_inside k) around, both (runs_inside k) (leads_on runs_inside b) (second_of_both u (runs_inside k) around) way.1)
          | inr begins ↦ inr (find_if w k n b rest begins item way.1)
        ]
        | inr there ↦ inr (found_below k n rest there)
      ]

  found : (b : places.Around) → IsItem b → is_untaken false b ≡ true → Found (places.plug b (Some x))
  found b item is =
      elim (find (asked_of_program true) b false item is) [
        | inl way ↦ absurd (true≢false (sym way.0))
        | inr there ↦ there
      ]

-- ---- a value

abbrev GivenBelow : Asked → Kind → places.Around → Type 0
GivenBelow w k b = (is_value_of k b || is_value b) ≡ true

-- a value of what runs what it holds is one further in
value_further : (k : Kind) (b : places.Around) → runs_inside k ≡ true → (is_value_of k b || is_value b) ≡ true → is_value b ≡ true
value_further Kind.VariableDeclarator b runs v = no_kind runs
value_further k b runs v = v

module _ (x : Tree) (drops : may_be_dropped x.kind ≡ true) where
  -- in the row of its declarator
  value_here : (k : Kind) (b : places.Around) → is_value_of k b ≡ true → (is_declarator k && value_drops (places.plug b (Some x))) ≡ true
  value_here Kind.VariableDeclarator (places.behind l m c (first r)) v = drops
  value_here Kind.VariableDeclarator (first r) v = no_kind v
  value_here Kind.VariableDeclarator (places.behind l m c (places.behind j i e b)) v = no_kind v
  value_here Kind.VariableDeclarator (places.behind l m c (places.behind_none b)) v = no_kind v
  value_here Kind.VariableDeclarator (places.behind l m c (places.under j i b r)) v = no_kind v
  value_here Kind.VariableDeclarator (places.behind_none b) v = no_kind v
  value_here Kind.VariableDeclarator (places.under j i b r) v = no_kind v
  value_here k b v = no_kind v

  drops_here : (k : Kind) (b : places.Around) → passes k ≡ true → (is_value b ≡ true → values_drop (places.plug b (Some x)) ≡ true) → (is_value_of k b || is_value b) ≡ true → drops_of k (places.plug b (Some x)) (values_drop (places.plug b (Some x))) ≡ true
  drops_here k b passing inner v =
      let t = places.plug b (Some x) in
      both (passes k) (values_drop t || is_declarator k && value_drops t) passing
      (elim (or_cases (is_value_of k b) (is_value b) v) [
        | inl at ↦ second_of_either (values_drop t) (is_declarator k && value_drops t) (value_here k b at)
        | inr further ↦ first_of_either (values_drop t) (is_declarator k && value_drops t) (inner further)
      ])

  values_along : (b : places.Around) → is_value b ≡ true → leads_on passes b ≡ true → values_drop (places.plug b (Some x)) ≡ true
  values_along (first rest) v way = no_kind v
  values_along (places.behind k n c b) v way = second_of_either (drops_of k c (values_drop c)) (values_drop (places.plug b (Some x))) (values_along b v way)
  values_along (places.behind_none b) v way = values_along b v way
  values_along (places.under k n b rest) v way =
      let t = places.plug b (Some x) in
      first_of_either (drops_of k t (values_drop t)) (values_drop rest)
      (drops_here k b (first_of_both (passes k) (leads_on passes b) way) (λ further. values_along b further (second_of_both (passes k) (leads_on passes b) way)) v)

  by_runs : (k : Kind) (t : Forest) (runs : Bool) → runs_inside k ≡ runs → (runs_inside k ≡ true → row_loses (is_list k) t ≡ true) → drops_of k t (values_drop t) ≡ true → (if runs then row_loses (is_list k) t else drops_of k t (values_drop t)) ≡ true
  by_runs k t true is when otherwise = when is
  by_runs k t false is when otherwise = otherwise

  rows_along : (listed : Bool) (b : places.Around) → is_value b ≡ true → leads_on passes b ≡ true → row_loses listed (places.plug b (Some x)) ≡ true
  rows_along listed (first rest) v way = no_kind v
  rows_along listed (places.behind k n c b) v way =
      second_of_either (may_go listed k c) (branch_loses k c || row_loses listed (places.plug b (Some x))) (second_of_either (branch_loses k c) (row_loses listed (places.plug b (Some x))) (rows_along listed b v way))
  rows_along listed (places.behind_none b) v way = rows_along listed b v way
  rows_along listed (places.under k n b rest) v way =
      let t = places.plug b (Some x) in
      let on = second_of_both (passes k) (leads_on passes b) way in
      second_of_either (may_go listed k t) (branch_loses k t || row_loses listed rest)
      (first_of_either (branch_loses k t) (row_loses listed rest)
      (by_runs k t (runs_inside k) refl (λ runs. rows_along (is_list k) b (value_further k b runs v) on) (drops_here k b (first_of_both (passes k) (leads_on passes b) way) (λ further. values_along b further on) v)))

  value_in_branch : (w : Asked) (k : Kind) (b : places.Around) → GivenBelow w k b → (passes k && leads_on passes b) ≡ true → branch_loses k (places.plug b (Some x)) ≡ true
  value_in_branch w k b v way =
      let t = places.plug b (Some x) in
      let on = second_of_both (passes k) (leads_on passes b) way in
      by_runs k t (runs_inside k) refl (λ runs. rows_along (is_list k) b (value_further k b runs v) on) (drops_here k b (first_of_both (passes k) (leads_on passes b) way) (λ further. values_along b further on) v)

  value_at_if : (w : Asked) (b : places.Around) → is_value b ≡ true → AtIf x passes GivenBelow value_in_branch w b
  value_at_if w (places.behind t m d (places.under k i b r)) v = v
  value_at_if w (places.behind t m d (places.behind k i c (places.under l j b r))) v = v
  value_at_if w (places.behind t m d (places.behind k i c (first r))) v = tt
  value_at_if w (places.behind t m d (places.behind k i c (places.behind l j e b))) v = tt
  value_at_if w (places.behind t m d (places.behind k i c (places.behind_none b))) v = tt
  value_at_if w (places.behind t m d (first r)) v = tt
  value_at_if w (places.behind t m d (places.behind_none b)) v = tt
  value_at_if w (first r) v = tt
  value_at_if w (places.behind_none b) v = tt
  value_at_if w (places.under k i b r) v = tt

  find_value_if : (k : Kind) (n : Note) (b : places.Around) (rest : Forest) → begins_untaken k b ≡ true → is_value b ≡ true → leads_on passes b ≡ true → Found (node k n (places.plug b (Some x)) rest)
  find_value_if k n b rest begins v way = found_if x passes GivenBelow value_in_branch (asked_of_program true) k n b rest begins (value_at_if (asked_of_program true) b v) way

  -- what stands right in the row of the declarator
  led_here : (k : Kind) (b : places.Around) (u : Bool) → is_value_of k b ≡ true → led_by passes (u && passes k || begins_untaken k b) b ≡ true → (u ≡ true) × ((passes k && leads_on passes b) ≡ true)
  led_here Kind.VariableDeclarator (places.behind l m c (first r)) true v is = (refl, refl)
  led_here Kind.VariableDeclarator (places.behind l m c (first r)) false v is = no_kind is
  led_here Kind.VariableDeclarator (first r) u v is = no_kind v
  led_here Kind.VariableDeclarator (places.behind l m c (places.behind j i e b)) u v is = no_kind v
  led_here Kind.VariableDeclarator (places.behind l m c (places.behind_none b)) u v is = no_kind v
  led_here Kind.VariableDeclarator (places.behind l m c (places.under j i b r)) u v is = no_kind v
  led_here Kind.VariableDeclarator (places.behind_none b) u v is = no_kind v
  led_here Kind.VariableDeclarator (places.under j i b r) u v is = no_kind v
  led_here k b u v is = no_kind v

  find_value : (b : places.Around) (u : Bool) → is_value b ≡ true → is_unrun u b ≡ true → ((u ≡ true) × (leads_on passes b ≡ true)) ⊎ Found (places.plug b (Some x))
  find_value (first rest) u v is = no_kind v
  find_value (places.behind k n c b) u v is =
      elim (find_value b u v is) [
        | inl way ↦ inl way
        | inr there ↦ inr (found_behind k n c there)
      ]
  find_value (places.behind_none b) u v is =
      elim (find_value b u v is) [
        | inl way ↦ inl way
        | inr there ↦ inr (found_absent there)
      ]
  find_value (places.under k n b rest) u v is =
      elim (or_cases (is_value_of k b) (is_value b) v) [
        | inl at ↦ inl (led_here k b u at is)
        | inr further ↦ elim (find_value b (u && passes k || begins_untaken k b) further is) [
          | inl way ↦ elim (or_cases (u && passes k) (begins_untaken k b) way.0) [
            | inl around ↦ inl (first_of_both u (passes k) around, both (passes k) (leads_on passes b) (second_of_both u (passes k) around) way.1)
            | inr begins ↦ inr (find_value_if k n b rest begins further way.1)
          ]
          | inr there ↦ inr (found_below k n rest there)
        ]
      ]

  found_value : (b : places.Around) → is_value b ≡ true → is_unrun false b ≡ true → Found (places.plug b (Some x))
  found_value b v is =
      elim (find_value b false v is) [
        | inl way ↦ absurd (true≢false (sym way.0))
        | inr there ↦ there
      ]

pub none_some : {o : Option Tree} → o ≡ None → is_some o ≡ true → ⊥
none_some e h = true≢false (sym h ∙ ap is_some e)

-- where the rule answers nothing none stands in a branch that isn't taken that could leave
pub settled_ifs : (t : Forest) → ((a : counts.Around) (x : Tree) (rest : Forest) → t ≡ plug a (node x.kind x.note x.below rest) → if_left x.note x.kind x.below ≡ None)
    → (b : places.Around) (x : Tree) → t ≡ places.plug b (Some x) → Untaken b x → ⊥
settled_ifs t settled b x is (never_taken item taken runs none) =
    let f = found x runs none b item taken in
    none_some (settled f.place (record { kind = if_statement; note = f.note; below = f.below }) f.rest (is ∙ f.is)) f.answers

-- nor a value
pub settled_values : (t : Forest) → ((a : counts.Around) (x : Tree) (rest : Forest) → t ≡ plug a (node x.kind x.note x.below rest) → if_left x.note x.kind x.below ≡ None)
    → (b : places.Around) (x y : Tree) → t ≡ places.plug b (Some x) → UnrunValue b x y → ⊥
settled_values t settled b x _ is (value_never_given n _ given unrun drops) =
    let f = found_value x drops b given unrun in
    none_some (settled f.place (record { kind = if_statement; note = f.note; below = f.below }) f.rest (is ∙ f.is)) f.answers

-- ---- and the other way round

data Goes (b : places.Around) (x : Tree) : Type 0 where
  leaves_list : Untaken b x → Goes b x
  becomes_zero : (y : Tree) → UnrunValue b x y → Goes b x

record Stands (t : Forest) : Type 0 where
  place : places.Around
  node_there : Tree
  is : t ≡ places.plug place (Some node_there)
  goes : Goes place node_there

stands_within : (a c : counts.Around) (t : Forest) → Stands (plug (join a c) t) → Stands (plug a (plug c t))
stands_within a c t s = subst Stands (plug_join a c t) s

-- a value
value_stands : (a : counts.Around) (t : Forest) → OfDeclarator a → All passes a → value_drops t ≡ true → Stands (plug a t)
value_stands a nothing value all h = no_kind h
value_stands a (absent r) value all h = no_kind h
value_stands a (node k n b nothing) value all h = no_kind h
value_stands a (node k n b (absent r)) value all h = no_kind h
value_stands a (node k n b (node l m c r)) value all h =
    let x : Tree = record { kind = l; note = m; below = c } in
    let p = join a (behind k n b here) in
    record {
      place = to p (first r);
      node_there = x;
      is = sym (plugged p (first r) (Some x) ∙ plug_join a (behind k n b here) (node l m c r));
      goes = becomes_zero (zero_for m) (unrun_there a k n b l m c r value all h);
    }

drops_stand : (a : counts.Around) (k : Kind) (t : Forest) (inner : Bool) → (passes k ≡ true → All passes a) → (is_declarator k ≡ true → OfDeclarator a) → drops_of k t inner ≡ true → (passes k ≡ true → inner ≡ true → Stands (plug a t)) → Stands (plug a t)
drops_stand a k t inner all value h further =
    let passing = first_of_both (passes k) (inner || is_declarator k && value_drops t) h in
    elim (or_cases inner (is_declarator k && value_drops t) (second_of_both (passes k) (inner || is_declarator k && value_drops t) h)) [
      | inl deeper ↦ further passing deeper
      | inr at ↦ value_stands a t (value (first_of_both (is_declarator k) (value_drops t) at)) (all passing) (second_of_both (is_declarator k) (value_drops t) at)
    ]

values_stand : (a : counts.Around) (t : Forest) → All passes a → values_drop t ≡ true → Stands (plug a t)
values_stand a nothing all h = no_kind h
values_stand a (absent rest) all h = stands_within a (behind_none here) rest (values_stand (join a (behind_none here)) rest (all_absent passes a all) h)
values_stand a (node k n b rest) all h =
    elim (or_cases (drops_of k b (values_drop b)) (values_drop rest) h) [
      | inl at ↦ stands_within a (under k n here rest) b
          (drops_stand (join a (under k n here rest)) k b (values_drop b) (λ e. all_under passes a k n rest e all) (declarator_row a k n rest) at (λ e inner. values_stand (join a (under k n here rest)) b (all_under passes a k n rest e all) inner))
      | inr more ↦ stands_within a (behind k n b here) rest (values_stand (join a (behind k n b here)) rest (all_behind passes a k n b all) more)
    ]

values_below_stand : (a : counts.Around) (k : Kind) (b : Forest) → (passes k ≡ true → All passes a) → (is_declarator k ≡ true → OfDeclarator a) → drops_of k b (values_drop b) ≡ true → Stands (plug a b)
values_below_stand a k b all value h = drops_stand a k b (values_drop b) all value h (λ e inner. values_stand a b (all e) inner)

below_stands : (a : counts.Around) (b : Forest) (runs inner drops : Bool) → (if runs then inner else drops) ≡ true → (runs ≡ true → inner ≡ true → Stands (plug a b)) → (drops ≡ true → Stands (plug a b)) → Stands (plug a b)
below_stands a b true inner drops h when otherwise = when refl h
below_stands a b false inner drops h when otherwise = otherwise h

stands_by : (listed : Bool) (a : counts.Around) (k : Kind) (n : Note) (b rest : Forest) (inner more goes : Bool) → ItemsIf listed a → All runs_inside a → may_go listed k b ≡ goes → (goes || (inner || more)) ≡ true
    → (inner ≡ true → Stands (plug a (node k n b rest))) → (more ≡ true → Stands (plug a (node k n b rest))) → Stands (plug a (node k n b rest))
stands_by listed a k n b rest inner more true items all is h below next =
    record { place = to a (first rest); node_there = record { kind = k; note = n; below = b }; is = sym (plugged a (first rest) (Some (record { kind = k; note = n; below = b }))); goes = leaves_list (untaken_there listed a k n b rest items all is) }
stands_by listed a k n b rest true more false items all is h below next = below refl
stands_by listed a k n b rest false true false items all is h below next = next refl
stands_by listed a k n b rest false false false items all is h below next = no_kind h

some_stand : (listed : Bool) (a : counts.Around) (t : Forest) → ItemsIf listed a → Led a → row_loses listed t ≡ true → Stands (plug a t)
some_stand listed a nothing items led h = no_kind h
some_stand listed a (absent rest) items led h = stands_within a (behind_none here) rest (some_stand listed (join a (behind_none here)) rest (items_absent listed a items) (led_absent a led) h)
some_stand listed a (node k n b rest) items led h =
    let p = join a (under k n here rest) in
    stands_by listed a k n b rest (branch_loses k b) (row_loses listed rest) (may_go listed k b) items led.items refl h
    (λ has. stands_within a (under k n here rest) b (below_stands p b (runs_inside k) (row_loses (is_list k) b) (drops_of k b (values_drop b)) has
    (λ runs inner. some_stand (is_list k) p b (items_under a k n rest) (led_under a k n rest runs led) inner) (values_below_stand p k b (λ e. all_under passes a k n rest e led.values) (declarator_row a k n rest))))
    (λ more. stands_within a (behind k n b here) rest (some_stand listed (join a (behind k n b here)) rest (items_next listed a k n b items) (led_behind a k n b led) more))

branch_stands : (a c : counts.Around) (k : Kind) (below : Forest) → Branch a c k → branch_loses k below ≡ true → Stands (plug a (plug c below))
branch_stands a c k below at has =
    stands_within a c below
    (below_stands (join a c) below (runs_inside k) (row_loses (is_list k) below) (drops_of k below (values_drop below)) has
    (λ runs inner. some_stand (is_list k) (join a c) below at.items (record { items = all_from runs_inside a c (at.led runs_inside runs); values = all_from passes a c (at.led passes (runs_pass k runs)) }) inner)
    (values_below_stand (join a c) k below (λ e. all_from passes a c (at.led passes e)) at.value))

stands_by_truth : (n : Note) (t : Kind) (m : Note) (d : Forest) (a : counts.Around) (rest : Forest) (truth : Option Bool) (branches : Forest) (y : Tree) → truth_given t m d ≡ truth → what_stays n t m d truth branches ≡ Some y
    → Stands (plug a (node if_statement n (node t m d branches) rest))
stands_by_truth n t m d a rest (Some false) (node k i b alternate) y is e =
    elim (chosen_if (branch_loses k b) (an_if n t m d (node k i (branch_left k b) alternate)) y e) [
      | chosen has same ↦ branch_stands a (under if_statement n (behind t m d (under k i here alternate)) rest) k b (at_consequent a n t m d k i alternate rest is) has
    ]
stands_by_truth n t m d a rest (Some true) (node k i b (node l j c r)) y is e =
    elim (chosen_if (branch_loses l c) (an_if n t m d (node k i b (node l j (branch_left l c) r))) y e) [
      | chosen has same ↦ branch_stands a (under if_statement n (behind t m d (behind k i b (under l j here r))) rest) l c (at_alternate a n t m d k i b l j r rest is) has
    ]
stands_by_truth n t m d a rest None branches y is e = no_answer e
stands_by_truth n t m d a rest (Some false) nothing y is e = no_answer e
stands_by_truth n t m d a rest (Some false) (absent r) y is e = no_answer e
stands_by_truth n t m d a rest (Some true) nothing y is e = no_answer e
stands_by_truth n t m d a rest (Some true) (absent r) y is e = no_answer e
stands_by_truth n t m d a rest (Some true) (node k i b nothing) y is e = no_answer e
stands_by_truth n t m d a rest (Some true) (node k i b (absent r)) y is e = no_answer e

stands_at : (a : counts.Around) (n : Note) (k : Kind) (below : Forest) (y : Tree) (rest : Forest) → if_left n k below ≡ Some y → Stands (plug a (node k n below rest))
stands_at a n if_statement (node t m d branches) y rest e = stands_by_truth n t m d a rest (truth_given t m d) branches y refl e
stands_at a n if_statement nothing y rest e = no_answer e
stands_at a n if_statement (absent r) y rest e = no_answer e
stands_at a n k below y rest e = no_answer e

pub settled_without : (t : Forest) → ((b : places.Around) (x : Tree) → t ≡ places.plug b (Some x) → Untaken b x → ⊥) → ((b : places.Around) (x y : Tree) → t ≡ places.plug b (Some x) → UnrunValue b x y → ⊥)
    → (a : counts.Around) (x : Tree) (rest : Forest) → t ≡ plug a (node x.kind x.note x.below rest) → if_left x.note x.kind x.below ≡ None
settled_without t none no_value a x rest is =
    none_of (if_left x.note x.kind x.below) (λ y e. let s = stands_at a x.note x.kind x.below y rest e in gone s.place s.node_there (is ∙ s.is) s.goes)
  where
    gone : (b : places.Around) (x : Tree) → t ≡ places.plug b (Some x) → Goes b x → ⊥
    gone b x is (leaves_list c) = none b x is c
    gone b x is (becomes_zero y c) = no_value b x y is c
