-- Imports of a module come together by edits, one after the other; and none may go into another exactly where none goes.
use Rattle.std.proofs.Common.{◌≡◌, ◌∙◌, ◌≤◌, ◌+◌, ℕ, suc, List, [], ◌∷◌, ◌++◌, Bool, not, true, false, true≢false, ◌&&◌, ◌||◌, Option, Some, None, if◌then◌else◌, refl, sym, subst, arith}
use Rattle.std.proofs.lemmas.Bool.{and_parts}
use Rattle.std.proofs.lemmas.Slice.Eq.{bytes_eq-Decides}
use Rattle.std.specs.Str.{bytes_eq}
use Rattle.js_syntax.specs.declared.node_kind.NodeKind.{NodeKind as Kind}
use Rattle.js_syntax.specs.declared.node_kind.NodeKind.TheVariants.{Program as program, Statements as statements, ImportDeclaration as import_declaration, Specifiers as specifiers}
use Rattle.js_syntax.specs.declared.scalar.SourceType.TheVariants as source_type
use Rattle.js_syntax.specs.Facts.{weight}
use Rattle.js_syntax.specs.Node.{Forest, Tree, Note, nothing, node, absent, joined, forest_of, total}
use Rattle.js_syntax.proofs.Truth.{first_of_either, second_of_either}
use Rattle.js_tree.proofs.Rows.{joined_nothing, joined_assoc}
use Rattle.js_meaning_near.specs.Near.{module_of}
use Rattle.min_context.specs.Edited.{evals}
use Rattle.min_context.specs.Above.{above_of}
use Rattle.min_context.specs.Place.{Place, outside, told_of, place_of, spot, place_at, goes_on}
use Rattle.min_context.specs.declared.ancestor.Above.{Above}
use Rattle.min_context.specs.declared.ancestor.Ancestor.{Ancestor}
use Rattle.min_context.specs.declared.ancestor.Ancestor.TheVariants.{Field as field}
use Rattle.js_syntax.specs.Class.{root}
use Rattle.json_shape.specs.Shape.{Fits}
use Rattle.scope_counts.specs.Edits.{Around, here, behind, behind_none, under, plug}
use Rattle.steps.proofs.Fit.Modules.{ends}
use Rattle.scope_counts.specs.Counts.{by_id, ids}
use Rattle.steps.specs.Allowed.Exposure.{evaluates_somewhere}
use Rattle.steps.specs.Allowed.MergedImports.{may_merge, WithoutImport, import_leaves, leaves_behind, MergesIn, merges_here, merges_behind, MergedImports, imports_merge}
use Rattle.steps.specs.Allowed.Edits.{TreeEdits, no_tree_edit, one_tree_edit, merges}
use Rattle.scope_rules.specs.ScopeFlags as scope_flag
use Rattle.scope_counts.specs.Scopes.{unmarked}
use Rattle.steps.specs.Marked.Flags.{scope_has}
use Rattle.steps.proofs.Owed.MergedLess.{row_lighter}
use Rattle.steps.proofs.Owed.MergedTables.{merged_tally}
use Rattle.steps.proofs.Marked.Merged.{same_evaluates}
use Rattle.steps.proofs.Marked.Telling.{no_eval}
use Rattle.rules.specs.DeadCode.Rules.{Facts}
use Rattle.rules.specs.DeadCode.Knows.{Knows}
use Rattle.rules.specs.DeadCode.Quiet.{Exactly}
use Rattle.rules.proofs.DeadCode.Alive.{program_evaluates}
use Rattle.rules.specs.Imports.Merged.{takes, with_names, is_taken, taken, goes, given, one_goes, together, list_together, below_together, with_below, is_outermost, come_together}
use Rattle.rules.proofs.Told.Merged.{row_evaluates}

pub no_kind : {A : Type 0} → false ≡ true → A
no_kind e = absurd (true≢false (sym e))

-- ---- items, none of which is left out

pub data Items : Forest → Type 0 where
  no_items : Items nothing
  an_item : (k : Kind) (n : Note) (below rest : Forest) → Items rest → Items (node k n below rest)

pub items_joined : {t u : Forest} → Items t → Items u → Items (joined t u)
items_joined no_items h = h
items_joined {u = u} (an_item k n below rest items) h = an_item k n below (joined rest u) (items_joined items h)

pub one_more : {t : Forest} → Items t → (k : Kind) (n : Note) (below : Forest) → Items (joined t (node k n below nothing))
one_more items k n below = items_joined items (an_item k n below nothing no_items)

-- ---- an import that takes names

data Takes (source : List ℕ) (later : Forest) : Kind → Forest → Type 0 where
  takes_it : (m : Note) (names : Forest) → may_merge names later ≡ true → Takes source later (import_declaration source) (node specifiers m names nothing)

of_import : (source : List ℕ) (later : Forest) (other : List ℕ) (b : Forest) → takes source later (import_declaration other) b ≡ true → Takes source later (import_declaration other) b
of_import source later other (node Kind.Specifiers m names nothing) h =
    let o = and_parts (bytes_eq other source) (may_merge names later) h in
    subst (λ z. Takes z later (import_declaration other) (node specifiers m names nothing)) ((bytes_eq-Decides other source).0 o.0) (takes_it m names o.1)
of_import source later other (node Kind.Specifiers m names (absent r)) h = no_kind h
of_import source later other (node Kind.Specifiers m names (node k n b r)) h = no_kind h
of_import source later other (node k m names r) h = no_kind h
of_import source later other (absent r) h = no_kind h
of_import source later other nothing h = no_kind h

takes_view : (source : List ℕ) (later : Forest) (k : Kind) (b : Forest) → takes source later k b ≡ true → Takes source later k b
takes_view source later (Kind.ImportDeclaration other) b h = of_import source later other b h
takes_view source later k b h = no_kind h

-- and one that goes

data Goes (before : Forest) : Kind → Forest → Type 0 where
  goes_away : (source : List ℕ) (m : Note) (names : Forest) → is_taken source names before ≡ true → Goes before (import_declaration source) (node specifiers m names nothing)

import_goes : (before : Forest) (source : List ℕ) (b : Forest) → goes before (import_declaration source) b ≡ true → Goes before (import_declaration source) b
import_goes before source (node Kind.Specifiers m names nothing) h = goes_away source m names h
import_goes before source (node Kind.Specifiers m names (absent r)) h = no_kind h
import_goes before source (node Kind.Specifiers m names (node k n b r)) h = no_kind h
import_goes before source (node k m names r) h = no_kind h
import_goes before source (absent r) h = no_kind h
import_goes before source nothing h = no_kind h

goes_view : (before : Forest) (k : Kind) (b : Forest) → goes before k b ≡ true → Goes before k b
goes_view before (Kind.ImportDeclaration source) b h = import_goes before source b h
goes_view before k b h = no_kind h

-- ---- one import goes

without_behind : {source : List ℕ} {later r s p : Forest} → Items p → WithoutImport source later r s → WithoutImport source later (joined p r) (joined p s)
without_behind no_items out = out
without_behind {r = r} {s = s} (an_item k n below rest items) out = leaves_behind k n below (joined rest r) (joined rest s) (without_behind items out)

module _ (source : List ℕ) (n m : Note) (later rest : Forest) where
  abbrev gone : Forest
  gone = node (import_declaration source) n (node specifiers m later nothing) rest

  into_this : {k : Kind} {b p : Forest} → (i : Note) → Items p → Takes source later k b → MergesIn (node k i b (joined p gone)) (node k i (with_names later b) (joined p rest))
  into_this {p = p} i items (takes_it l names h) = merges_here source i l names later (joined p gone) (joined p rest) h (without_behind items (import_leaves n m rest))

  goes_in : {before : Forest} → Items before → is_taken source later before ≡ true → MergesIn (joined before gone) (joined (taken source later before) rest)
  goes_in no_items h = no_kind h
  goes_in (an_item k i b p items) h = by (takes source later k b) refl (λ g. goes_in items g)
    where
      by : (c : Bool) → takes source later k b ≡ c → (is_taken source later p ≡ true → MergesIn (joined p gone) (joined (taken source later p) rest)) → MergesIn (node k i b (joined p gone)) (joined (if c then node k i (with_names later b) p else node k i b (taken source later p)) rest)
      by true e next = into_this i items (takes_view source later k b e)
      by false e next = merges_behind k i b (joined p gone) (joined (taken source later p) rest) (next (subst (λ c. c || is_taken source later p ≡ true) e h))

if_items : (c : Bool) {t u : Forest} → Items t → Items u → Items (if c then t else u)
if_items true h g = h
if_items false h g = g

taken_items : (source : List ℕ) (later : Forest) {before : Forest} → Items before → Items (taken source later before)
taken_items source later no_items = no_items
taken_items source later (an_item k n b rest items) =
    if_items (takes source later k b) (an_item k n (with_names later b) rest items) (an_item k n b (taken source later rest) (taken_items source later items))

-- ---- and others after it

data Merging : Forest → Forest → Type 0 where
  none_more : (r : Forest) → Merging r r
  one_more_goes : (r s t : Forest) → MergesIn r s → Merging s t → Merging r t

-- one at least
record MergesSome (r t : Forest) : Type 0 where
  next : Forest
  first : MergesIn r next
  more : Merging next t

-- items behind others, whichever these are
abbrev Behind : (items : Forest) → Type 0
Behind items = (p : Forest) → Items p → Merging (joined p items) (together p items)

-- and with one more
abbrev longer : (before : Forest) → Kind → Note → (below : Forest) → Forest
longer before k n b = joined before (node k n b nothing)

come : {before : Forest} (items : Forest) → Items before → Merging (joined before items) (together before items)
come {before = before} nothing all = subst (λ z. Merging z before) (sym (joined_nothing before)) (none_more before)
come {before = before} (absent rest) all = none_more (joined before (absent rest))
come {before = before} (node k n b rest) all = by (goes before k b) refl (λ p. λ ps. come {before = p} rest ps)
  where
    taken_in : {l : Kind} {c : Forest} → Goes before l c → Behind rest → Merging (joined before (node l n c rest)) (together (given before l c) rest)
    taken_in (goes_away source m names h) next =
        one_more_goes (joined before (node (import_declaration source) n (node specifiers m names nothing) rest)) (joined (taken source names before) rest) (together (taken source names before) rest) (goes_in source n m names rest all h)
        (next (taken source names before) (taken_items source names all))

    by : (c : Bool) → goes before k b ≡ c → Behind rest → Merging (joined before (node k n b rest)) (together (if c then given before k b else joined before (node k n b nothing)) rest)
    by true e next = taken_in (goes_view before k b e) next
    by false e next = subst (λ z. Merging z (together (joined before (node k n b nothing)) rest)) (joined_assoc before (node k n b nothing) rest) (next (joined before (node k n b nothing)) (one_more all k n b))

some_come : {before : Forest} (items : Forest) → Items before → one_goes before items ≡ true → MergesSome (joined before items) (together before items)
some_come nothing all h = no_kind h
some_come (absent rest) all h = no_kind h
some_come {before = before} (node k n b rest) all h = by (goes before k b) refl (λ g. some_come rest (one_more all k n b) g)
  where
    taken_in : {l : Kind} {c : Forest} → Goes before l c → MergesSome (joined before (node l n c rest)) (together (given before l c) rest)
    taken_in (goes_away source m names h) = record { next = joined (taken source names before) rest; first = goes_in source n m names rest all h; more = come rest (taken_items source names all) }

    by : (c : Bool) → goes before k b ≡ c → (one_goes (longer before k n b) rest ≡ true → MergesSome (joined (longer before k n b) rest) (together (longer before k n b) rest)) → MergesSome (joined before (node k n b rest)) (together (if c then given before k b else longer before k n b) rest)
    by true e more = taken_in (goes_view before k b e)
    by false e more =
        subst (λ z. MergesSome z (together (longer before k n b) rest)) (joined_assoc before (node k n b nothing) rest) (more (subst (λ c. c || one_goes (longer before k n b) rest ≡ true) e h))

-- where none goes, all is as it was
pub none_come : (before items : Forest) → one_goes before items ≡ false → together before items ≡ joined before items
none_come before nothing h = sym (joined_nothing before)
none_come before (absent rest) h = refl
none_come before (node k n b rest) h = by (goes before k b) refl (λ g. none_come (joined before (node k n b nothing)) rest g)
  where
    by : (c : Bool) → goes before k b ≡ c → (one_goes (longer before k n b) rest ≡ false → together (longer before k n b) rest ≡ joined (longer before k n b) rest) → together (if c then given before k b else joined before (node k n b nothing)) rest ≡ joined before (node k n b rest)
    by true e same = absurd (true≢false (sym (first_of_either (goes before k b) (one_goes (longer before k n b) rest) e) ∙ h))
    by false e same = same (subst (λ c. c || one_goes (longer before k n b) rest ≡ false) e h) ∙ joined_assoc before (node k n b nothing) rest

-- ---- of a list, and of a module

less : {r t : Forest} → Merging r t → total weight t ≤ total weight r
less (none_more r) = Prim.omega arith
less (one_more_goes r s t h more) = Prim.omega (arith, row_lighter h, less more)

less_in_row : (r : Forest) → one_goes nothing r ≡ true → total weight (together nothing r) + 1 ≤ total weight r
less_in_row r h =
    let o = some_come r no_items h in
    Prim.omega (arith, row_lighter o.first, less o.more)

same_ids : {r t : Forest} → Merging r t → (i : ℕ) → ids i t ≡ ids i r
same_ids (none_more r) i = refl
same_ids (one_more_goes r s t h more) i = same_ids more i ∙ merged_tally (by_id i) h

same_calls : {r t : Forest} → Merging r t → evals t ≡ evals r
same_calls (none_more r) = refl
same_calls (one_more_goes r s t h more) = same_calls more ∙ row_evaluates h

module _ (n m : Note) where
  merged : {r s : Forest} → evaluates_somewhere (module_of n m r) ≡ false → MergesIn r s → MergedImports (module_of n m r) (module_of n m s)
  merged {r = r} {s = s} quiet h = imports_merge n m r s h quiet

  edits : {r t : Forest} → evaluates_somewhere (module_of n m r) ≡ false → Merging r t → TreeEdits (module_of n m r) (module_of n m t)
  edits quiet (none_more r) = no_tree_edit (module_of n m r)
  edits quiet (one_more_goes r s t h more) =
      one_tree_edit (module_of n m r) (module_of n m s) (module_of n m t) (merges (module_of n m r) (module_of n m s) (merged quiet h)) (edits (same_evaluates (module_of n m r) (module_of n m s) (merged quiet h) ∙ quiet) more)

  pub come_by_edits : (r : Forest) → evaluates_somewhere (module_of n m r) ≡ false → TreeEdits (module_of n m r) (module_of n m (together nothing r))
  come_by_edits r quiet = edits quiet (come r no_items)

  pub less_is_left : (r : Forest) → one_goes nothing r ≡ true → total weight (module_of n m (together nothing r)) + 1 ≤ total weight (module_of n m r)
  less_is_left r h = Prim.omega (arith, less_in_row r h)

  pub references_stay : (r : Forest) (i : ℕ) → ids i (module_of n m (together nothing r)) ≡ ids i (module_of n m r)
  references_stay r i = Prim.omega (arith, same_ids (come r no_items) i)

  pub calls_stay : (r : Forest) → evals (module_of n m (together nothing r)) ≡ evals (module_of n m r)
  calls_stay r = Prim.omega (arith, same_calls (come r no_items))

-- ---- which may go

still_taken : (source : List ℕ) (later p q : Forest) → is_taken source later p ≡ true → is_taken source later (joined p q) ≡ true
still_taken source later nothing q h = no_kind h
still_taken source later (absent p) q h = no_kind h
still_taken source later (node k n b p) q h = by (takes source later k b) h (λ g. still_taken source later p q g)
  where
    by : (c : Bool) → c || is_taken source later p ≡ true → (is_taken source later p ≡ true → is_taken source later (joined p q) ≡ true) → c || is_taken source later (joined p q) ≡ true
    by true e more = refl
    by false e more = more e

taken_by_last : (source : List ℕ) (later : Forest) {p : Forest} → Items p → (n m : Note) (names : Forest) → may_merge names later ≡ true
    → is_taken source later (joined p (node (import_declaration source) n (node specifiers m names nothing) nothing)) ≡ true
taken_by_last source later no_items n m names h =
    first_of_either (bytes_eq source source && may_merge names later) false (subst (λ c. c && may_merge names later ≡ true) (sym ((bytes_eq-Decides source source).1 refl)) h)
taken_by_last source later (an_item k i b p items) n m names h =
    second_of_either (takes source later k b) (is_taken source later (joined p (node (import_declaration source) n (node specifiers m names nothing) nothing))) (taken_by_last source later items n m names h)

later_goes : {source : List ℕ} {later r s : Forest} → WithoutImport source later r s → (before : Forest) → is_taken source later before ≡ true → one_goes before r ≡ true
later_goes {source = source} {later = later} (import_leaves n m rest) before h =
    first_of_either (is_taken source later before) (one_goes (joined before (node (import_declaration source) n (node specifiers m later nothing) nothing)) rest) h
later_goes {source = source} {later = later} (leaves_behind k n b r s out) before h =
    second_of_either (goes before k b) (one_goes (joined before (node k n b nothing)) r) (later_goes out (joined before (node k n b nothing)) (still_taken source later before (node k n b nothing) h))

goes_somewhere : {r s : Forest} → MergesIn r s → {before : Forest} → Items before → one_goes before r ≡ true
goes_somewhere (merges_here source n m names later r s h out) {before = before} all =
    let item = node (import_declaration source) n (node specifiers m names nothing) nothing in
    second_of_either (is_taken source names before) (one_goes (joined before item) r) (later_goes out (joined before item) (taken_by_last source later all n m names h))
goes_somewhere (merges_behind k n b r s h) {before = before} all =
    second_of_either (goes before k b) (one_goes (joined before (node k n b nothing)) r) (goes_somewhere h (one_more all k n b))

pub none_may_go : (r : Forest) → one_goes nothing r ≡ false → (s : Forest) → MergesIn r s → ⊥
none_may_go r none s h = true≢false (sym (goes_somewhere h no_items) ∙ none)

pub none_goes : (r : Forest) → ((s : Forest) → MergesIn r s → ⊥) → one_goes nothing r ≡ false
none_goes r none = by (one_goes nothing r) refl
  where
    by : (c : Bool) → one_goes nothing r ≡ c → c ≡ false
    by true e = let o = some_come r no_items e in absurd (none o.next o.first)
    by false e = refl

-- ---- the rule

data Together : Kind → Forest → Forest → Type 0 where
  list_comes : (m : Note) (items : Forest) → one_goes nothing items ≡ true → Together (program source_type.Module) (node statements m items nothing) (node statements m (together nothing items) nothing)

pub none_some : {A B : Type 0} {x : B} → None ≡ Some x → A
none_some e = absurd cc

list_view : (b c : Forest) → list_together b ≡ Some c → Together (program source_type.Module) b c
list_view (node Kind.Statements m items nothing) c e = by (one_goes nothing items) refl e
  where
    by : (q : Bool) → one_goes nothing items ≡ q → (if q then Some (node statements m (together nothing items) nothing) else None) ≡ Some c → Together (program source_type.Module) (node statements m items nothing) c
    by true h is = subst (λ z. Together (program source_type.Module) (node statements m items nothing) z) (cc is) (list_comes m items h)
    by false h is = none_some is
list_view (node Kind.Statements m items (absent r)) c e = none_some e
list_view (node Kind.Statements m items (node k n b r)) c e = none_some e
list_view (node k m items r) c e = none_some e
list_view (absent r) c e = none_some e
list_view nothing c e = none_some e

below_view : (k : Kind) (b c : Forest) → below_together k b ≡ Some c → Together k b c
below_view (Kind.Program source_type.Module) b c e = list_view b c e
below_view k b c e = none_some e

record Came (f : Facts) (p : Place) (x y : Tree) : Type 0 where
  below : Forest
  comes : Together x.kind x.below below
  outermost : is_outermost p.ancestors ≡ true
  shut : scope_has f.scoping 0 scope_flag.direct_eval ≡ false
  is : record { kind = x.kind; note = x.note; below = below } ≡ y

pub is_shut : (b : Bool) → not b ≡ true → b ≡ false
is_shut true h = absurd (true≢false (sym h))
is_shut false h = refl

came : (f : Facts) (p : Place) (x y : Tree) → come_together f p x ≡ Some y → Came f p x y
came f p x y e = by (is_outermost p.ancestors && not (scope_has f.scoping 0 scope_flag.direct_eval)) refl e
  where
    with_new : is_outermost p.ancestors && not (scope_has f.scoping 0 scope_flag.direct_eval) ≡ true → (o : Option Forest) → below_together x.kind x.below ≡ o → with_below x o ≡ Some y → Came f p x y
    with_new may None h is = none_some is
    with_new may (Some c) h is =
        let o = and_parts (is_outermost p.ancestors) (not (scope_has f.scoping 0 scope_flag.direct_eval)) may in
        record { below = c; comes = below_view x.kind x.below c h; outermost = o.0; shut = is_shut (scope_has f.scoping 0 scope_flag.direct_eval) o.1; is = cc is }

    by : (q : Bool) → is_outermost p.ancestors && not (scope_has f.scoping 0 scope_flag.direct_eval) ≡ q → (if q then with_below x (below_together x.kind x.below) else None) ≡ Some y → Came f p x y
    by true h is = with_new h (below_together x.kind x.below) refl is
    by false h is = none_some is

-- ---- where no node is above, in a tree that fits the table, the program stands alone

pub data Flat : Around → Type 0 where
  flat_here : Flat here
  flat_behind : (k : Kind) (n : Note) (below : Forest) (a : Around) → Flat (behind k n below a)
  flat_none : (a : Around) → Flat (behind_none a)

one_above : (above : List Ancestor) (a : Ancestor) → is_outermost (above ++ (a ∷ [])) ≡ false
one_above [] a = refl
one_above (b ∷ above) a = refl

inside_something : (p : Place) (above : Above) (at : ℕ) (previous more : Bool) (a : Around) → is_outermost (place_of (spot (record { outer = p; above = Some above; at = at; previous = previous }) a) more).ancestors ≡ false
inside_something p above at previous more here = one_above p.ancestors (field (told_of above.parent at previous more) at)
inside_something p above at previous more (behind k n b a) = inside_something p above (suc at) true more a
inside_something p above at previous more (behind_none a) = inside_something p above (suc at) false more a
inside_something p above at previous more (under k n a rest) = inside_something (place_of (record { outer = p; above = Some above; at = at; previous = previous }) (goes_on rest)) (above_of k n) 0 false more a

pub flat : (a : Around) (more : Bool) → is_outermost (place_at a more).ancestors ≡ true → Flat a
flat here more h = flat_here
flat (behind k n b a) more h = flat_behind k n b a
flat (behind_none a) more h = flat_none a
flat (under k n a rest) more h = absurd (true≢false (sym h ∙ inside_something outside (above_of k n) 0 false more a))

pub data Alone : Around → Forest → Type 0 where
  all_alone : Alone here nothing

some_there : (a : Around) (k : Kind) (n : Note) (b rest : Forest) → plug a (node k n b rest) ≡ nothing → ⊥
some_there here k n b rest e = cc
some_there (behind l m c a) k n b rest e = cc
some_there (behind_none a) k n b rest e = cc
some_there (under l m a r) k n b rest e = cc

pub alone : (a : Around) (k : Kind) (n : Note) (b rest : Forest) → Fits root (plug a (node k n b rest)) → Flat a → Alone a rest
alone _ k n b rest fits flat_here = subst (λ r. Alone here r) (sym (ends rest fits.1)) all_alone
alone _ k n b rest fits (flat_behind l m c a) = absurd (some_there a k n b rest (ends (plug a (node k n b rest)) fits.1))
alone _ k n b rest fits (flat_none a) = absurd fits.0

-- ---- what it does

-- what is known of a program says that no call of `eval` is in it where its scope has no such flag
pub shut_there : (f : Facts) (marked : ℕ → Bool) (t : Forest) → Knows f marked t → scope_has f.scoping 0 scope_flag.direct_eval ≡ false → evaluates_somewhere t ≡ false
shut_there f marked t k shut = no_eval t k.fits f.scoping k.flags 0 k.outermost shut

edits_by : {k : Kind} {b c : Forest} → Together k b c → (n : Note) → evaluates_somewhere (node k n b nothing) ≡ false → TreeEdits (node k n b nothing) (node k n c nothing)
edits_by (list_comes m items h) n quiet = come_by_edits n m items quiet

edits_there : (f : Facts) (marked : ℕ → Bool) {a : Around} {rest : Forest} → Alone a rest → (x y : Tree) → Knows f marked (plug a (node x.kind x.note x.below rest)) → Came f (place_at a (goes_on rest)) x y
    → TreeEdits (plug a (node x.kind x.note x.below rest)) (plug a (node y.kind y.note y.below rest))
edits_there f marked all_alone x y k o =
    subst (λ (z : Tree). TreeEdits (forest_of x) (forest_of z)) o.is (edits_by o.comes x.note (shut_there f marked (forest_of x) k o.shut))

pub rule_edits : (f : Facts) (marked : ℕ → Bool) (a : Around) (x y : Tree) (rest : Forest) → Knows f marked (plug a (node x.kind x.note x.below rest)) → come_together f (place_at a (goes_on rest)) x ≡ Some y
    → TreeEdits (plug a (node x.kind x.note x.below rest)) (plug a (node y.kind y.note y.below rest))
rule_edits f marked a x y rest k e =
    let o = came f (place_at a (goes_on rest)) x y e in
    edits_there f marked (alone a x.kind x.note x.below rest k.fits (flat a (goes_on rest) o.outermost)) x y k o

lighter_by : {k : Kind} {b c : Forest} → Together k b c → (n : Note) → total weight (node k n c nothing) + 1 ≤ total weight (node k n b nothing)
lighter_by (list_comes m items h) n = less_is_left n m items h

pub rule_lighter : (f : Facts) (p : Place) (x y : Tree) → come_together f p x ≡ Some y → total weight (forest_of y) + 1 ≤ total weight (forest_of x)
rule_lighter f p x y e = let o = came f p x y e in subst (λ (z : Tree). total weight (forest_of z) + 1 ≤ total weight (forest_of x)) o.is (lighter_by o.comes x.note)

refers_by : {k : Kind} {b c : Forest} → Together k b c → (n : Note) (i : ℕ) → ids i (node k n c nothing) ≡ ids i (node k n b nothing)
refers_by (list_comes m items h) n i = references_stay n m items i

pub rule_refers : (f : Facts) (p : Place) (x y : Tree) → come_together f p x ≡ Some y → (i : ℕ) → ids i (forest_of y) ≡ ids i (forest_of x)
rule_refers f p x y e i = let o = came f p x y e in subst (λ (z : Tree). ids i (forest_of z) ≡ ids i (forest_of x)) o.is (refers_by o.comes x.note i)

calls_by : {k : Kind} {b c : Forest} → Together k b c → (n : Note) → evals (node k n c nothing) ≡ evals (node k n b nothing)
calls_by (list_comes m items h) n = calls_stay n m items

pub rule_calls : (f : Facts) (p : Place) (x y : Tree) → come_together f p x ≡ Some y → evals (forest_of y) ≡ evals (forest_of x)
rule_calls f p x y e = let o = came f p x y e in subst (λ (z : Tree). evals (forest_of z) ≡ evals (forest_of x)) o.is (calls_by o.comes x.note)

-- ---- where it finds nothing

merges_by : {k : Kind} {b c : Forest} → Together k b c → (n : Note) → evaluates_somewhere (node k n b nothing) ≡ false → ((u : Forest) → MergedImports (node k n b nothing) u → ⊥) → ⊥
merges_by (list_comes m items h) n quiet none = let o = some_come items no_items h in none (module_of n m o.next) (merged n m quiet o.first)

stays_there : (f : Facts) (marked : ℕ → Bool) {a : Around} {rest : Forest} → Alone a rest → (x y : Tree) → Knows f marked (plug a (node x.kind x.note x.below rest)) → ((u : Forest) → MergedImports (plug a (node x.kind x.note x.below rest)) u → ⊥) → Came f (place_at a (goes_on rest)) x y → ⊥
stays_there f marked all_alone x y k none o = merges_by o.comes x.note (shut_there f marked (forest_of x) k o.shut) none

pub rule_stays : (f : Facts) (marked : ℕ → Bool) (t : Forest) → Knows f marked t → ((u : Forest) → MergedImports t u → ⊥) → (a : Around) (x : Tree) (rest : Forest) → t ≡ plug a (node x.kind x.note x.below rest) → come_together f (place_at a (goes_on rest)) x ≡ None
rule_stays f marked t knows nobody a x rest is =
    by (subst (λ u. Knows f marked u) is knows) (subst (λ v. (u : Forest) → MergedImports v u → ⊥) is nobody) (come_together f (place_at a (goes_on rest)) x) refl
  where
    by : Knows f marked (plug a (node x.kind x.note x.below rest)) → ((u : Forest) → MergedImports (plug a (node x.kind x.note x.below rest)) u → ⊥) → (o : Option Tree) → come_together f (place_at a (goes_on rest)) x ≡ o → o ≡ None
    by k none None e = refl
    by k none (Some y) e =
        let o = came f (place_at a (goes_on rest)) x y e in
        absurd (stays_there f marked (alone a x.kind x.note x.below rest k.fits (flat a (goes_on rest) o.outermost)) x y k none o)

comes_then : (x : Tree) (c : Forest) (a b : Bool) → a ≡ false → b ≡ true → (if not a then with_below x (if b then Some c else None) else None) ≡ None → ⊥
comes_then x c false true h g e = cc
comes_then x c true b h g e = true≢false h
comes_then x c false false h g e = true≢false (sym g)

pub not_flagged : (b c : Bool) → (b ≡ true → c ≡ true) → c ≡ false → b ≡ false
not_flagged true c h g = absurd (true≢false (sym (h refl) ∙ g))
not_flagged false c h g = refl

pub rule_goes : (f : Facts) (t : Forest) → Knows f unmarked t → Exactly f t → ((a : Around) (x : Tree) (rest : Forest) → t ≡ plug a (node x.kind x.note x.below rest) → come_together f (place_at a (goes_on rest)) x ≡ None) → (u : Forest) → MergedImports t u → ⊥
rule_goes f _ k exactly none _ (imports_merge n m r s h quiet) =
    let t = module_of n m r in
    let x : Tree = record { kind = program source_type.Module; note = n; below = node statements m r nothing } in
    comes_then x (node statements m (together nothing r) nothing) (scope_has f.scoping 0 scope_flag.direct_eval) (one_goes nothing r)
    (not_flagged (scope_has f.scoping 0 scope_flag.direct_eval) (evaluates_somewhere t) (program_evaluates f t k.outermost exactly.flags) quiet) (goes_somewhere h no_items) (none here x nothing refl)
