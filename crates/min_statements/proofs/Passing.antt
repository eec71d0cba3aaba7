-- What the hook of programs does where no imports come together: one that only feeds an export becomes an export from its module.
use Rattle.std.proofs.Common.{◌≡◌, ◌∙◌, ◌<◌, ◌≤◌, ◌+◌, ℕ, zero, suc, length, take, get_or, set, List, [], ◌∷◌, ◌++◌, Bool, true, false, true≢false, not, ◌&&◌, ◌||◌, if◌then◌else◌, Option, Some, None, is_some, refl, sym, ap, ap₂, subst, arith}
use Rattle.std.proofs.lemmas.List.{take_more, take_all}
use Rattle.js_syntax.specs.declared.node_kind.NodeKind.{NodeKind as Kind}
use Rattle.js_syntax.specs.declared.node_kind.NodeKind.TheVariants.{Program as program, Statements as statements, ImportDeclaration as import_declaration, ExportNamedDeclaration as export_named_declaration}
use Rattle.js_syntax.specs.declared.scalar.SourceType.TheVariants as source_type
use Rattle.js_syntax.specs.Node.{Forest, Tree, Note, nothing, node, absent, joined, forest_of, row}
use Rattle.scope_counts.specs.Edits.{plug}
use Rattle.scope_counts.specs.Counts.{by_id, ids}
use Rattle.scope_counts.proofs.Leaving.{ids_joined}
use Rattle.scope_laws.specs.Place.{Around}
use Rattle.scope_rules.specs.ScopeFlags as scope_flag
use Rattle.symbol_sets.specs.Numbers.{has}
use Rattle.steps.specs.Allowed.PassedExports.{may_pass}
use Rattle.steps.specs.Allowed.Uses.{use_at, stands_bare}
use Rattle.steps.specs.Marked.Flags.{scope_has}
use Rattle.min_context.specs.Edited.{evals, Edited, Leaves, DropsNode}
use Rattle.min_context.specs.Place.{Place}
use Rattle.min_context.specs.Seen.{Seen, still}
use Rattle.min_imports.specs.declared.passing.Passing.{Passing}
use Rattle.min_imports.specs.Merging.{planned}
use Rattle.min_imports.specs.Passing.{uses_of, left_out, Plan, Planned}
use Rattle.min_imports.proofs.Going.{left_more}
use Rattle.min_imports.proofs.Overlaid.{row_same}
use Rattle.min_traverse.specs.Lawful.{Stays, Does, or_same}
use Rattle.min_traverse.specs.Moves.{Holds, NodeMoves, before}
use Rattle.min_traverse.proofs.Joining.{does_some, does_none}
use Rattle.rules.specs.DeadCode.Rules.{Facts}
use Rattle.rules.specs.Imports.Merged.{with_below, is_outermost}
use Rattle.rules.specs.Imports.Passed.{is_passed_alone, are_passed_alone, namespace_passed, passed, export_of, passed_on, put_in, passed_among, passed_before, one_passes, or_joined, all_passed, and_gone, all_gone, list_passed, list_gone, pass_on}
use Rattle.rules.proofs.Imports.Passing.{rule_edits, rule_lighter, rule_refers, rule_calls, rule_gone}
use Rattle.min_statements.specs.Acts.{merge, pass}
use Rattle.min_statements.specs.Merged.{is_module, is_statements}
use Rattle.min_statements.specs.Own.{AnyEdit, Own, Found, program_changes}
use Rattle.min_statements.specs.Passed.{list_of, with_items, out_one, PlannedList, PlannedBelow, FitsBelow, PutBelow}
use Rattle.min_statements.specs.Walker.{Names, facts_of}
use Rattle.min_statements.proofs.Acting.{known, moves, stayed}
use Rattle.min_statements.proofs.Calls.{is_no_name, CallsStay}
use Rattle.min_statements.proofs.Ending.{after_nothing, done_asks}
use Rattle.min_statements.proofs.Expressions.{rule_visits}
use Rattle.min_statements.proofs.Shed.{leaves_none, leaves_more, dropped_leaves, edited}

-- ---- what is known of names is the table and what is exported

module _ (f : Facts) where
  same_symbol : (listed : Forest) (q : Option ℕ) → is_passed_alone (uses_of f.scoping f.exported) listed q ≡ is_passed_alone f listed q
  same_symbol listed None = refl
  same_symbol listed (Some n) = refl

  same_names : (listed names : Forest) → are_passed_alone (uses_of f.scoping f.exported) listed names ≡ are_passed_alone f listed names
  same_names listed nothing = refl
  same_names listed (absent r) = same_names listed r
  same_names listed (node k n (node (Kind.BindingName x) m b c) r) = ap₂ (λ d e. d && e) (same_symbol listed m.id) (same_names listed r)
  same_names listed (node k n (node l m b c) r) = same_names listed r
  same_names listed (node k n (absent c) r) = same_names listed r
  same_names listed (node k n nothing r) = same_names listed r

  same_import : (listed : Forest) (source : List ℕ) (n : Note) (b : Forest) → passed_on (uses_of f.scoping f.exported) listed (import_declaration source) n b ≡ passed_on f listed (import_declaration source) n b
  same_import listed source n nothing = refl
  same_import listed source n (absent r) = refl
  same_import listed source n (node Kind.Specifiers m names nothing) = ap (λ c. if may_pass names listed && c then export_of source n m (namespace_passed names listed) (passed names listed) else None) (same_names listed names)
  same_import listed source n (node Kind.Specifiers m names (node k i c r)) = refl
  same_import listed source n (node Kind.Specifiers m names (absent r)) = refl
  same_import listed source n (node k m names r) = refl

  same_on : (listed : Forest) (k : Kind) (n : Note) (b : Forest) → passed_on (uses_of f.scoping f.exported) listed k n b ≡ passed_on f listed k n b
  same_on listed (Kind.ImportDeclaration source) n b = same_import listed source n b
  same_on listed k n b = refl

  same_among : (listed t : Forest) → passed_among (uses_of f.scoping f.exported) listed t ≡ passed_among f listed t
  same_among listed nothing = refl
  same_among listed (absent r) = refl
  same_among listed (node k n b r) = ap₂ (put_in k n b r) (same_on listed k n b) (same_among listed r)

  same_export : (t b : Forest) → passed_before (uses_of f.scoping f.exported) t (export_named_declaration None) b ≡ passed_before f t (export_named_declaration None) b
  same_export t nothing = refl
  same_export t (node k n c r) = refl
  same_export t (absent nothing) = refl
  same_export t (absent (absent r)) = refl
  same_export t (absent (node Kind.Specifiers m listed nothing)) = same_among listed t
  same_export t (absent (node Kind.Specifiers m listed (node k n c r))) = refl
  same_export t (absent (node Kind.Specifiers m listed (absent r))) = refl
  same_export t (absent (node k m listed r)) = refl

  same_before : (t : Forest) (k : Kind) (b : Forest) → passed_before (uses_of f.scoping f.exported) t k b ≡ passed_before f t k b
  same_before t (Kind.ExportNamedDeclaration None) b = same_export t b
  same_before t (Kind.ExportNamedDeclaration (Some source)) b = refl
  same_before t k b = refl

  same_one : (t items : Forest) → one_passes (uses_of f.scoping f.exported) t items ≡ one_passes f t items
  same_one t nothing = refl
  same_one t (absent r) = refl
  same_one t (node k n b r) = ap₂ (λ o c. is_some o || c) (same_before t k b) (same_one (joined t (node k n b nothing)) r)

  same_all : (t items : Forest) → all_passed (uses_of f.scoping f.exported) t items ≡ all_passed f t items
  same_all t nothing = refl
  same_all t (absent r) = refl
  same_all t (node k n b r) = same_all (or_joined (passed_before (uses_of f.scoping f.exported) t k b) t (node k n b nothing)) r ∙ ap (λ o. all_passed f (or_joined o t (node k n b nothing)) r) (same_before t k b)

  same_gone : (t items : Forest) → all_gone (uses_of f.scoping f.exported) t items ≡ all_gone f t items
  same_gone t nothing = refl
  same_gone t (absent r) = refl
  same_gone t (node k n b r) =
      ap (and_gone (passed_before (uses_of f.scoping f.exported) t k b) k n b) (same_gone (or_joined (passed_before (uses_of f.scoping f.exported) t k b) t (node k n b nothing)) r)
      ∙ ap (λ o. and_gone o k n b (all_gone f (or_joined o t (node k n b nothing)) r)) (same_before t k b)

  plan_known : (bs : List Bool) (cs : List (Option Tree)) (list : Forest) → Plan (uses_of f.scoping f.exported) bs cs list → Plan f bs cs list
  plan_known bs cs list p = record { items = p.items; are = p.are; even = p.even; long = p.long; left = p.left ∙ same_all nothing list; gone = p.gone ∙ same_gone nothing list; goes = p.goes ∙ same_one nothing list }

  -- ---- the list of a program

  if_not : (b : Bool) (t : Forest) → b ≡ false → (if b then Some t else None) ≡ None
  if_not true t e = absurd (true≢false e)
  if_not false t e = refl

  list_none : (b : Forest) → list_of b ≡ None → list_passed f b ≡ None
  list_none nothing e = refl
  list_none (absent r) e = refl
  list_none (node Kind.Statements m items nothing) e = absurd cc
  list_none (node Kind.Statements m items (node k n b r)) e = refl
  list_none (node Kind.Statements m items (absent r)) e = refl
  list_none (node k m items r) e = refl

  list_there : (b list : Forest) → list_of b ≡ Some list → one_passes f nothing list ≡ false → list_passed f b ≡ None
  list_there nothing list e none = absurd cc
  list_there (absent r) list e none = absurd cc
  list_there (node Kind.Statements m items nothing) list e none = let same : items ≡ list = cc e in if_not (one_passes f nothing items) (node statements m (all_passed f nothing items) nothing) (ap (one_passes f nothing) same ∙ none)
  list_there (node Kind.Statements m items (node k n b r)) list e none = absurd cc
  list_there (node Kind.Statements m items (absent r)) list e none = absurd cc
  list_there (node k m items nothing) list e none = absurd cc
  list_there (node k m items (node l n b r)) list e none = absurd cc
  list_there (node k m items (absent r)) list e none = absurd cc

  pub planned_none : (b : Forest) → list_of b ≡ None → PlannedBelow f b None
  planned_none b e = list_none b e

  pub planned_so : (b list : Forest) (p : Option Passing) → list_of b ≡ Some list → Planned (uses_of f.scoping f.exported) list p → PlannedBelow f b p
  planned_so b list None e none = list_there b list e (sym (same_one nothing list) ∙ none)
  planned_so b list (Some p) e plan = record { list = list; there = e; plan = plan_known p.staying.items p.changed.items list plan.0; goes = sym (same_one nothing list) ∙ plan.1 }

  -- what it becomes
  if_so : (b : Bool) (t : Forest) → b ≡ true → (if b then Some t else None) ≡ Some t
  if_so true t e = refl
  if_so false t e = absurd (true≢false (sym e))

  passed_list : (b list u : Forest) → list_of b ≡ Some list → one_passes f nothing list ≡ true → u ≡ all_passed f nothing list → list_passed f b ≡ Some (with_items u b)
  passed_list nothing list u e does is = absurd cc
  passed_list (absent r) list u e does is = absurd cc
  passed_list (node Kind.Statements m items nothing) list u e does is =
      let same : items ≡ list = cc e in
      if_so (one_passes f nothing items) (node statements m (all_passed f nothing items) nothing) (ap (one_passes f nothing) same ∙ does) ∙ ap (λ t. Some (node statements m t nothing)) (ap (all_passed f nothing) same ∙ sym is)
  passed_list (node Kind.Statements m items (node k n b r)) list u e does is = absurd cc
  passed_list (node Kind.Statements m items (absent r)) list u e does is = absurd cc
  passed_list (node k m items nothing) list u e does is = absurd cc
  passed_list (node k m items (node l n b r)) list u e does is = absurd cc
  passed_list (node k m items (absent r)) list u e does is = absurd cc

  gone_list : (b list : Forest) → list_of b ≡ Some list → list_gone f b ≡ all_gone f nothing list
  gone_list nothing list e = absurd cc
  gone_list (absent r) list e = absurd cc
  gone_list (node Kind.Statements m items nothing) list e = let same : items ≡ list = cc e in ap (all_gone f nothing) same
  gone_list (node Kind.Statements m items (node k n b r)) list e = absurd cc
  gone_list (node Kind.Statements m items (absent r)) list e = absurd cc
  gone_list (node k m items nothing) list e = absurd cc
  gone_list (node k m items (node l n b r)) list e = absurd cc
  gone_list (node k m items (absent r)) list e = absurd cc

-- ---- as code finds it

pub statements_listed : (x : Tree) → is_statements x.kind ≡ true → Some x.below ≡ list_of (forest_of x)
statements_listed x is = by x.kind is
  where
    by : (k : Kind) → is_statements k ≡ true → Some x.below ≡ list_of (node k x.note x.below nothing)
    by Kind.Statements e = refl
    by k e = absurd (true≢false (sym e))

pub others_unlisted : (x : Tree) → is_statements x.kind ≡ false → (let none : Option Forest = None in none ≡ list_of (forest_of x))
others_unlisted x isnt = by x.kind isnt
  where
    by : (k : Kind) → is_statements k ≡ false → (let none : Option Forest = None in none ≡ list_of (node k x.note x.below nothing))
    by Kind.Statements e = absurd (true≢false e)
    by k e = refl

two_lists : (k : Kind) (n : Note) (b : Forest) (y : Option Tree) (ts : List (Option Tree)) → (let none : Option Forest = None in none ≡ list_of (node k n b (row (y ∷ ts))))
two_lists Kind.Statements n b None ts = refl
two_lists Kind.Statements n b (Some y) ts = refl
two_lists k n b None ts = refl
two_lists k n b (Some y) ts = refl

pub several_lists : (ts : List (Option Tree)) → 2 ≤ length ts → (let none : Option Forest = None in none ≡ list_of (row ts))
several_lists [] h = absurd (Prim.omega (arith, h))
several_lists (None ∷ ts) h = refl
several_lists (Some x ∷ []) h = absurd (Prim.omega (arith, h))
several_lists (Some x ∷ y ∷ ts) h = two_lists x.kind x.note x.below y ts

-- ---- the context is told

pub none_left : (c : Seen) (o : Option Tree) → o ≡ None → Leaves c (λ r. ids r (row (o ∷ []))) (evals (row (o ∷ []))) c
none_left c o is = subst (λ (q : Option Tree). Leaves c (λ r. ids r (row (q ∷ []))) (evals (row (q ∷ []))) c) (sym is) (leaves_none c)

pub one_left : {c d : Seen} (o : Option Tree) (x : Tree) → o ≡ Some x → c.requested ≡ true → DropsNode c x d → Leaves c (λ r. ids r (row (o ∷ []))) (evals (row (o ∷ []))) d
one_left {c = c} {d = d} o x is asked drops = subst (λ (q : Option Tree). Leaves c (λ r. ids r (row (q ∷ []))) (evals (row (q ∷ []))) d) (sym is) (dropped_leaves asked drops)

evals_joined : (t u : Forest) → evals (joined t u) ≡ evals t + evals u
evals_joined nothing u = Prim.omega arith
evals_joined (absent t) u = evals_joined t u
evals_joined (node k n b t) u = Prim.omega (arith, evals_joined t u)

-- those that don't stay, before an index
abbrev pub OutBefore : List Bool → List (Option Tree) → ℕ → Seen → Seen → Type 0
OutBefore bs ts at c d = Leaves c (λ r. ids r (left_out (take at bs) ts)) (evals (left_out (take at bs) ts)) d

out_more : (bs : List Bool) (ts : List (Option Tree)) (at : ℕ) (b : Bool) (x : Option Tree) → at < length bs → length bs ≤ length ts → get_or bs at false ≡ b → x ≡ get_or ts at x → left_out (take (at + 1) bs) ts ≡ joined (left_out (take at bs) ts) (if b then nothing else row (x ∷ []))
out_more bs ts at b x h within bit is =
    ap (λ l. left_out l ts) (take_more bs at false h ∙ ap (λ c. take at bs ++ c ∷ []) bit) ∙ left_more (take at bs) ts at b x (taken bs at h) (Prim.omega (arith, h, within)) is
  where
    taken : (l : List Bool) (i : ℕ) → i < length l → length (take i l) ≡ i
    taken [] i g = absurd (Prim.omega (arith, g))
    taken (c ∷ l) zero g = refl
    taken (c ∷ l) (suc i) g = ap suc (taken l i (Prim.omega (arith, g)))

pub none_out : (c : Seen) (bs : List Bool) (ts : List (Option Tree)) → OutBefore bs ts 0 c c
none_out c bs ts = leaves_none c

pub out_next : {c d e : Seen} (bs : List Bool) (ts : List (Option Tree)) (at : ℕ) (b : Bool) (x : Option Tree) → at < length bs → length bs ≤ length ts → get_or bs at false ≡ b → x ≡ get_or ts at x → OutBefore bs ts at c d
    → Leaves d (λ r. ids r (out_one b x)) (evals (out_one b x)) e → OutBefore bs ts (at + 1) c e
out_next {c = c} {e = e} bs ts at b x h within bit is out one =
    let all = left_out (take at bs) ts in
    subst (λ t. Leaves c (λ r. ids r t) (evals t) e) (sym (out_more bs ts at b x h within bit is)) (leaves_more out one (λ r. ids_joined (by_id r) all (out_one b x)) (evals_joined all (out_one b x)))

pub one_stays : (c : Seen) (b : Bool) (x : Option Tree) → b ≡ true → Leaves c (λ r. ids r (out_one b x)) (evals (out_one b x)) c
one_stays c b x is = subst (λ (q : Bool). Leaves c (λ r. ids r (out_one q x)) (evals (out_one q x)) c) (sym is) (leaves_none c)

pub one_goes : {c d : Seen} (b : Bool) (x : Option Tree) → b ≡ false → Leaves c (λ r. ids r (row (x ∷ []))) (evals (row (x ∷ []))) d → Leaves c (λ r. ids r (out_one b x)) (evals (out_one b x)) d
one_goes {c = c} {d = d} b x is l = subst (λ (q : Bool). Leaves c (λ r. ids r (out_one q x)) (evals (out_one q x)) d) (sym is) l

pub all_out : {c d : Seen} (bs : List Bool) (ts : List (Option Tree)) (at : ℕ) → length bs ≤ at → OutBefore bs ts at c d → Leaves c (λ r. ids r (left_out bs ts)) (evals (left_out bs ts)) d
all_out {c = c} {d = d} bs ts at all out = subst (λ l. Leaves c (λ r. ids r (left_out l ts)) (evals (left_out l ts)) d) (take_all at bs all) out

-- the items are those of the list
pub same_items : (b : Forest) (xs ys : List (Option Tree)) → list_of b ≡ Some (row xs) → Some (row ys) ≡ list_of b → ys ≡ xs
same_items b xs ys is be = let same : row ys ≡ row xs = cc (be ∙ is) in row_same ys xs same

pub out_of_list : {c d : Seen} (b : Forest) (bs : List Bool) (ys : List (Option Tree)) → Some (row ys) ≡ list_of b → Leaves c (λ r. ids r (left_out bs ys)) (evals (left_out bs ys)) d → (xs : List (Option Tree)) → list_of b ≡ Some (row xs) → Leaves c (λ r. ids r (left_out bs xs)) (evals (left_out bs xs)) d
out_of_list {c = c} {d = d} b bs ys is l xs be = subst (λ z. Leaves c (λ r. ids r (left_out bs z)) (evals (left_out bs z)) d) (same_items b xs ys be is) l

pub no_list_there : {P : Type 0} (b : Forest) (xs : List (Option Tree)) → (let none : Option Forest = None in none ≡ list_of b) → list_of b ≡ Some (row xs) → P
no_list_there b xs none is = no_some (none ∙ is)
  where
    no_some : {Q : Type 0} → (let o : Option Forest = None in o ≡ Some (row xs)) → Q
    no_some e = absurd cc

-- ---- and the list as it is left

pub list_is : (x : Tree) (xs : List (Option Tree)) → list_of (forest_of x) ≡ Some (row xs) → x.below ≡ row xs
list_is x xs is = by x.kind is
  where
    by : (k : Kind) → list_of (node k x.note x.below nothing) ≡ Some (row xs) → x.below ≡ row xs
    by Kind.Statements e = cc e
    by k e = absurd cc

-- of one list
pub put_in_list : (x y : Tree) (bs : List Bool) (cs ys old : List (Option Tree)) → y.kind ≡ x.kind → y.note ≡ x.note → y.below ≡ row ys → row old ≡ x.below → row ys ≡ planned old bs cs → PutBelow bs cs (forest_of x) (forest_of y)
put_in_list x y bs cs ys old kinds notes belows is put = λ items there.
    ap₂ (λ k n. node k n y.below nothing) kinds notes ∙ ap (λ t. node x.kind x.note t nothing) (belows ∙ put ∙ ap (λ l. planned l bs cs) (row_same old items (is ∙ list_is x items there)))

pub fits_long : (x : Tree) (bs : List Bool) (cs old : List (Option Tree)) → FitsBelow bs cs (forest_of x) → row old ≡ x.below → (length cs ≡ length old) × (length bs ≡ length old)
fits_long x bs cs old w is =
    let same = ap length (row_same old w.items (is ∙ list_is x w.items w.there)) in
    (Prim.omega (arith, w.even, same), Prim.omega (arith, w.long, same))

-- and of the children of a program
not_one : (ts : List (Option Tree)) → (length ts ≡ 1 → ⊥) → (let none : Option Forest = None in none ≡ list_of (row ts))
not_one [] other = refl
not_one (None ∷ ts) other = refl
not_one (Some x ∷ []) other = absurd (other (Prim.omega arith))
not_one (Some x ∷ y ∷ ts) other = two_lists x.kind x.note x.below y ts

pub no_only : (ts : List (Option Tree)) (bs : List Bool) (cs : List (Option Tree)) → (length ts ≡ 1 → ⊥) → PutBelow bs cs (row ts) (row ts)
no_only ts bs cs other = λ items there. no_list_there (row ts) items (not_one ts other) there

pub only_fits : (ts : List (Option Tree)) (x : Option Tree) (bs : List Bool) (cs : List (Option Tree)) → length ts ≡ 1 → FitsBelow bs cs (row ts) → FitsBelow bs cs (row (get_or ts 0 x ∷ []))
only_fits [] x bs cs one w = absurd (Prim.omega (arith, one))
only_fits (z ∷ []) x bs cs one w = w
only_fits (z ∷ v ∷ ts) x bs cs one w = absurd (Prim.omega (arith, one))

pub only_put : (ts : List (Option Tree)) (x y : Option Tree) (bs : List Bool) (cs : List (Option Tree)) → length ts ≡ 1 → PutBelow bs cs (row (get_or ts 0 x ∷ [])) (row (y ∷ [])) → PutBelow bs cs (row ts) (row (set ts 0 y))
only_put [] x y bs cs one put = absurd (Prim.omega (arith, one))
only_put (z ∷ []) x y bs cs one put = put
only_put (z ∷ v ∷ ts) x y bs cs one put = absurd (Prim.omega (arith, one))

pub child_put : (o p : Option Tree) (x y : Tree) (bs : List Bool) (cs : List (Option Tree)) → o ≡ Some x → p ≡ Some y → PutBelow bs cs (forest_of x) (forest_of y) → PutBelow bs cs (row (o ∷ [])) (row (p ∷ []))
child_put o p x y bs cs is be put = subst (λ q. PutBelow bs cs (row (q ∷ [])) (row (p ∷ []))) (sym is) (subst (λ q. PutBelow bs cs (forest_of x) (row (q ∷ []))) (sym be) put)

pub child_fits : (o : Option Tree) (x : Tree) (bs : List Bool) (cs : List (Option Tree)) → o ≡ Some x → FitsBelow bs cs (row (o ∷ [])) → FitsBelow bs cs (forest_of x)
child_fits o x bs cs is w = subst (λ q. FitsBelow bs cs (row (q ∷ []))) is w

pub no_child : (o : Option Tree) (bs : List Bool) (cs : List (Option Tree)) → o ≡ None → PutBelow bs cs (row (o ∷ [])) (row (o ∷ []))
no_child o bs cs is = subst (λ q. PutBelow bs cs (row (q ∷ [])) (row (q ∷ []))) (sym is) (λ items there. no_list_there (absent nothing) items refl there)

pub put_there : (bs : List Bool) (cs : List (Option Tree)) (t u v w : Forest) → t ≡ u → v ≡ w → PutBelow bs cs t v → PutBelow bs cs u w
put_there bs cs t u v w is be put = subst (λ z. PutBelow bs cs u z) be (subst (λ z. PutBelow bs cs z v) is put)

pub fits_there : (bs : List Bool) (cs : List (Option Tree)) (t u : Forest) → t ≡ u → FitsBelow bs cs t → FitsBelow bs cs u
fits_there bs cs t u is w = subst (λ z. FitsBelow bs cs z) is w

-- ---- what it does

either_way : (b : Bool) → (let none : Option Tree = None in if b then none else none) ≡ None
either_way true = refl
either_way false = refl

abbrev may : Facts → Place → Bool
may f p = is_outermost p.ancestors && not (scope_has f.scoping 0 scope_flag.direct_eval)

no_module : (f : Facts) (p : Place) (k : Kind) (n : Note) (b : Forest) → is_module k ≡ false → (let x : Tree = record { kind = k; note = n; below = b } in pass_on f p x ≡ None)
no_module f p (Kind.Program source_type.Module) n b e = absurd (true≢false e)
no_module f p k n b e = either_way (may f p)

a_module : (f : Facts) (p : Place) (k : Kind) (n : Note) (b : Forest) → is_module k ≡ true → (let x : Tree = record { kind = k; note = n; below = b } in pass_on f p x ≡ (if may f p then with_below x (list_passed f b) else None))
a_module f p (Kind.Program source_type.Module) n b e = refl
a_module f p k n b e = absurd (true≢false (sym e))

asked : (f : Facts) (p : Place) (x : Tree) (b : Bool) → is_module x.kind ≡ b → b && may f p ≡ false → pass_on f p x ≡ None
asked f p x true is isnt = a_module f p x.kind x.note x.below is ∙ ap (λ c. if c then with_below x (list_passed f x.below) else None) isnt
asked f p x false is isnt = no_module f p x.kind x.note x.below is

pub passes_none : (names : Names) (c : Seen) (x : Tree) → false ≡ (is_module x.kind && may (facts_of names c) c.place) → Does (pass names) c x false c x
passes_none names c x isnt = does_none (pass names) c x (asked (facts_of names c) c.place x (is_module x.kind) refl (sym isnt))

and_first : (a b : Bool) → true ≡ a && b → a ≡ true
and_first true b e = refl
and_first false b e = absurd (true≢false e)

and_second : (a b : Bool) → true ≡ a && b → b ≡ true
and_second true b e = sym e
and_second false b e = absurd (true≢false e)

module _ (names : Names) (c : Seen) (x : Tree) (does : true ≡ (is_module x.kind && may (facts_of names c) c.place)) where
  found : pass_on (facts_of names c) c.place x ≡ with_below x (list_passed (facts_of names c) x.below)
  found =
      a_module (facts_of names c) c.place x.kind x.note x.below (and_first (is_module x.kind) (may (facts_of names c) c.place) does)
      ∙ ap (λ b. if b then with_below x (list_passed (facts_of names c) x.below) else None) (and_second (is_module x.kind) (may (facts_of names c) c.place) does)

  pub passes_not : (f : Facts) (t : Forest) → f ≡ facts_of names c → t ≡ x.below → PlannedBelow f t None → Does (pass names) c x false c x
  passes_not f t facts row none = does_none (pass names) c x (found ∙ ap (with_below x) (sym (ap₂ list_passed facts row) ∙ none))

  module _ (f : Facts) (t : Forest) (p : Passing) (facts : f ≡ facts_of names c) (at : t ≡ x.below) (given : PlannedBelow f t (Some p)) where
    plan_there : PlannedList (facts_of names c) p.staying.items p.changed.items x.below
    plan_there = subst (λ u. PlannedList (facts_of names c) p.staying.items p.changed.items u) at (subst (λ g. PlannedList g p.staying.items p.changed.items t) facts given)

    pub fits : FitsBelow p.staying.items p.changed.items x.below
    fits = let g = plan_there in record { items = g.plan.items; there = g.there ∙ ap Some (sym g.plan.are); even = g.plan.even; long = g.plan.long }

    pub inside : (u : Forest) (bits : List Bool) → u ≡ x.below → bits ≡ p.staying.items → (items : List (Option Tree)) → list_of u ≡ Some (row items) → length bits ≤ length items
    inside u bits at_row are items there =
        let g = fits in
        let same : row g.items ≡ row items = cc (sym g.there ∙ ap list_of (sym at_row) ∙ there) in
        Prim.omega (arith, g.long, ap length are, ap length (row_same g.items items same))

    same_tree : (y : Tree) (u : Forest) → y.kind ≡ x.kind → y.note ≡ x.note → y.below ≡ u → y ≡ record { kind = x.kind; note = x.note; below = u }
    same_tree y u k n b =
        ap {A = Kind} {B = Tree} (λ z. record { kind = z; note = y.note; below = y.below }) k ∙ ap {A = Note} {B = Tree} (λ z. record { kind = x.kind; note = z; below = y.below }) n
        ∙ ap {A = Forest} {B = Tree} (λ z. record { kind = x.kind; note = x.note; below = z }) b

    pub passes_so : (k d : Seen) (y : Tree) (u : Forest) (bits : List Bool) → k ≡ record c { requested = true } → u ≡ x.below → bits ≡ p.staying.items
        → ((items : List (Option Tree)) → list_of u ≡ Some (row items) → Leaves k (λ r. ids r (left_out bits items)) (evals (left_out bits items)) d)
        → y.kind ≡ x.kind → y.note ≡ x.note → PutBelow p.staying.items p.changed.items x.below y.below → Does (pass names) c x true d y
    passes_so k d y u bits noticed at_row are left kinds notes put =
        let g = plan_there in
        let fs = facts_of names c in
        let w : FitsBelow p.staying.items p.changed.items x.below = record { items = g.plan.items; there = g.there ∙ ap Some (sym g.plan.are); even = g.plan.even; long = g.plan.long } in
        let new : y.below ≡ with_items (planned w.items p.staying.items p.changed.items) x.below = put w.items w.there in
        let there : pass_on fs c.place x ≡ Some y = found ∙ ap (with_below x) (passed_list fs x.below g.list (planned w.items p.staying.items p.changed.items) g.there g.goes g.plan.left) ∙ ap Some (sym (same_tree y (with_items (planned w.items p.staying.items p.changed.items) x.below) kinds notes new)) in
        let out : left_out bits w.items ≡ list_gone fs x.below = ap (λ l. left_out l w.items) are ∙ g.plan.gone ∙ sym (gone_list fs x.below g.list g.there) in
        let leaves : Leaves k (λ r. ids r (list_gone fs x.below)) (evals (list_gone fs x.below)) d = subst (λ z. Leaves k (λ r. ids r z) (evals z) d) out (left w.items (ap list_of at_row ∙ w.there)) in
        does_some (pass names) c x y there (edited x y noticed leaves (λ r. Prim.omega (arith, rule_refers fs c.place x y there r)) (Prim.omega (arith, rule_calls fs c.place x y there, rule_gone fs c.place x y there)))

-- ---- moves

record Kinds (k l : Kind) : Type 0 where
  no_name : is_no_name k ≡ true
  module_left : l ≡ program source_type.Module

kinds_so : (f : Facts) (p : Place) (k : Kind) (n : Note) (b : Forest) (y : Tree) → (let x : Tree = record { kind = k; note = n; below = b } in pass_on f p x ≡ Some y) → Kinds k y.kind
kinds_so f p (Kind.Program source_type.Module) n b y e = by (may f p) (list_passed f b) e
  where
    by : (c : Bool) (o : Option Forest) → (let x : Tree = record { kind = program source_type.Module; note = n; below = b } in (if c then with_below x o else None) ≡ Some y) → Kinds (program source_type.Module) y.kind
    by true None h = absurd cc
    by true (Some t) h = let same : y ≡ record { kind = program source_type.Module; note = n; below = t } = cc (sym h) in record { no_name = refl; module_left = ap {A = Tree} (λ z. z.kind) same }
    by false o h = absurd cc
kinds_so f p k n b y e = none_is (sym (either_way (may f p)) ∙ e)
  where
    none_is : {P : Type 0} → (let none : Option Tree = None in none ≡ Some y) → P
    none_is h = absurd cc

pass_calls : (f : Facts) (p : Place) (a : Around) (x y : Tree) → pass_on f p x ≡ Some y → CallsStay a x y
pass_calls f p a x y is =
    let o = kinds_so f p x.kind x.note x.below y is in
    record {
      fewer = Prim.omega (arith, rule_calls f p x y is);
      old = o.no_name;
      in_with = false;
      bare = subst (λ k. stands_bare (use_at a) false k y.below ≡ true) (sym o.module_left) refl;
    }

module _ (stays : Stays AnyEdit) (names : Names) where
  pass_moves : {c d : Seen} {x y : Tree} {answer : Bool} → Does (pass names) c x answer d y → NodeMoves Names AnyEdit (Holds Own) names c x names d y
  pass_moves {c = c} {d = d} {x = x} {y = y} does = go (pass names c x) refl
    where
      go : (o : Option Tree) → pass names c x ≡ o → NodeMoves Names AnyEdit (Holds Own) names c x names d y
      go None is =
          let e : Edited c x y false d = subst (λ o. Edited c x y (is_some o) d) is does.edited in
          stayed stays names (does.tree ∙ ap (or_same x) is) (e.none refl)
      go (Some z) is =
          let f = facts_of names c in
          let there : pass_on f c.place x ≡ Some y = is ∙ ap Some (sym (does.tree ∙ ap (or_same x) is)) in
          let e : Edited c x y true d = subst (λ o. Edited c x y (is_some o) d) is does.edited in
          moves stays names (λ a r p h. rule_edits f (has c.marked) a x y r (known names (still c) (plug a (before x r)) h) (ap (λ q. pass_on f q x) p ∙ there)) (λ i. Prim.omega (arith, rule_refers f c.place x y there i))
          (rule_lighter f c.place x y there) (λ a r p. pass_calls f c.place _ x y there) e

  pub program_moves : {c k d : Seen} {x z y : Tree} {answer : Bool} → Does (merge names) c x false k z → Does (pass names) k z answer d y → NodeMoves Names AnyEdit (Holds Own) names c x names d y
  program_moves first second = pass_moves (after_nothing (merge names) (pass names) first second)

-- ---- visits

abbrev FoundNothing : Names → Seen → Tree → Seen → Type 0
FoundNothing names c x d = Found (program_changes (facts_of names c) c.place x) names c names d

module _ (names : Names) {d : Seen} (quiet : d.requested ≡ false) where
  pub merged_visits : {c : Seen} {x y : Tree} → Does (merge names) c x true d y → FoundNothing names c x d
  merged_visits does = done_asks (merge names) does quiet

  pub program_visits : {c k : Seen} {x z y : Tree} {answer : Bool} → Does (merge names) c x false k z → Does (pass names) k z answer d y → FoundNothing names c x d
  program_visits {c = c} {x = x} first second =
      let found = rule_visits names quiet (pass names) (after_nothing (merge names) (pass names) first second) in
      record { names_same = found.names_same; context_same = found.context_same; none = ap (λ b. b || is_some (pass_on (facts_of names c) c.place x)) (sym first.answers) ∙ found.none }
