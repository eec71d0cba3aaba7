-- A plan for the items of a list: what is taken by which of them, and the list that is left by it.
use Rattle.std.proofs.Common.{◌≡◌, ◌∙◌, ◌<◌, ◌≤◌, ◌+◌, ℕ, suc, List, [], ◌∷◌, ◌++◌, Bool, true, false, true≢false, not, ◌&&◌, ◌||◌, cond, Option, Some, None, if◌then◌else◌, length, length-append, drop, get_or, set, refl, sym, ap, ap₂, subst, arith}
use Rattle.std.specs.Bool.{beq}
use Rattle.std.specs.BTreeSet as sorted
use Rattle.std.specs.BTreeSet.{BTreeSet, contains_by}
use Rattle.std.specs.Cmp.Lexicographic.{slice_cmp}
use Rattle.std.specs.List.{items_where_true, list_any}
use Rattle.std.specs.Ordering.{nat_cmp}
use Rattle.std.specs.Str.{bytes_eq}
use Rattle.std.proofs.lemmas.List.{drop_all}
use Rattle.std.proofs.lemmas.Map.Text.{is_eq-slice_cmp}
use Rattle.js_syntax.specs.declared.node_kind.NodeKind.{NodeKind as Kind}
use Rattle.js_syntax.specs.declared.node_kind.NodeKind.TheVariants.{ImportDeclaration as import_declaration, Specifiers as specifiers}
use Rattle.js_syntax.specs.Node.{Tree, Forest, Note, nothing, node, absent, joined, forest_of, row}
use Rattle.js_syntax.proofs.Truth.{first_of_neither, second_of_neither, or_false, or_associates}
use Rattle.js_tree.proofs.Rows.{front_of, joined_nothing, joined_assoc}
use Rattle.js_tree.proofs.Search.{AsksEach}
use Rattle.steps.specs.Allowed.MergedImports.{may_merge}
use Rattle.rules.specs.Imports.Merged.{takes, with_names, is_taken, taken, goes, given, one_goes, together}
use Rattle.rules.proofs.Imports.Together.{none_come}
use Rattle.min_imports.proofs.Overlaid.{over_at, over_set, planned_push}
use Rattle.min_imports.specs.Merging.{is_import, has_import, imported_from, names_of, list_takes, asks, one_asks, Known, or_changed, overlaid, planned, shifted, receiver, with_more, go_on, more_go, is_missing, TreeGoes, ItemGoes, Plan}
use denote.Ref.{Bor}

and_false : (c : Bool) → c && false ≡ false
and_false true = refl
and_false false = refl

and_true : (c : Bool) → c && true ≡ c
and_true true = refl
and_true false = refl

-- ---- imports, and those that have nothing to take or give

pub some_import : (source : List ℕ) (later : Forest) (k : Kind) (b : Forest) (other : List ℕ) → k ≡ import_declaration other → bytes_eq other source && list_takes later b ≡ takes source later k b
some_import source later k b other is = by_list b ∙ ap (λ l. takes source later l b) (sym is)
  where
    by_list : (t : Forest) → bytes_eq other source && list_takes later t ≡ takes source later (import_declaration other) t
    by_list (node Kind.Specifiers m names nothing) = refl
    by_list (node Kind.Specifiers m names (absent r)) = and_false (bytes_eq other source)
    by_list (node Kind.Specifiers m names (node k n c r)) = and_false (bytes_eq other source)
    by_list (node k m names r) = and_false (bytes_eq other source)
    by_list (absent r) = and_false (bytes_eq other source)
    by_list nothing = and_false (bytes_eq other source)

pub imports_from : (source : List ℕ) (later : Forest) (k : Kind) (b : Forest) (other : List ℕ) → imported_from k ≡ Some other → bytes_eq other source && list_takes later b ≡ takes source later k b
imports_from source later (Kind.ImportDeclaration o) b other is = let same : o ≡ other = cc is in some_import source later (import_declaration o) b other (ap import_declaration same)
imports_from source later k b other is = absurd cc

pub imports_none : (source : List ℕ) (later : Forest) (k : Kind) (b : Forest) → imported_from k ≡ None → false ≡ takes source later k b
imports_none source later (Kind.ImportDeclaration o) b is = absurd cc
imports_none source later k b is = refl

pub imports_each : AsksEach has_import
imports_each None ts = refl
imports_each (Some x) ts = ap (λ b. b || has_import (row ts)) (sym (or_false (is_import x.kind)))

no_import_goes : (before : Forest) (k : Kind) (b : Forest) → is_import k ≡ false → goes before k b ≡ false
no_import_goes before (Kind.ImportDeclaration source) b h = absurd (true≢false h)
no_import_goes before k b h = refl

-- where there is none, none goes
pub none_imported : (before t : Forest) → has_import t ≡ false → one_goes before t ≡ false
none_imported before nothing h = refl
none_imported before (absent r) h = refl
none_imported before (node k n b r) h =
    ap (λ c. c || one_goes (joined before (node k n b nothing)) r) (no_import_goes before k b (first_of_neither (is_import k) (has_import r) h))
    ∙ none_imported (joined before (node k n b nothing)) r (second_of_neither (is_import k) (has_import r) h)

two_lists : (k : Kind) (n : Note) (b : Forest) (y : Option Tree) (ts : List (Option Tree)) → (let none : Option Forest = None in none ≡ names_of (node k n b (row (y ∷ ts))))
two_lists Kind.Specifiers n b None ts = refl
two_lists Kind.Specifiers n b (Some y) ts = refl
two_lists k n b None ts = refl
two_lists k n b (Some y) ts = refl

pub several_lists : (ts : List (Option Tree)) → 2 ≤ length ts → (let none : Option Forest = None in none ≡ names_of (row ts))
several_lists [] h = absurd (Prim.omega (arith, h))
several_lists (None ∷ ts) h = refl
several_lists (Some x ∷ []) h = absurd (Prim.omega (arith, h))
several_lists (Some x ∷ y ∷ ts) h = two_lists x.kind x.note x.below y ts

pub listed : (k : Kind) (n : Note) (t : Forest) → k ≡ specifiers → Some t ≡ names_of (node k n t nothing)
listed k n t is = ap (λ l. names_of (node l n t nothing)) (sym is)

pub takes_some : (later b : Forest) (names : Forest) → names_of b ≡ Some names → list_takes later b ≡ may_merge names later
takes_some later (node Kind.Specifiers m t nothing) names h = let same : t ≡ names = cc h in ap (λ z. may_merge z later) same
takes_some later (node Kind.Specifiers m t (absent r)) names h = absurd cc
takes_some later (node Kind.Specifiers m t (node k n c r)) names h = absurd cc
takes_some later (node k m t r) names h = absurd cc
takes_some later (absent r) names h = absurd cc
takes_some later nothing names h = absurd cc

pub takes_nothing : (later b : Forest) → names_of b ≡ None → list_takes later b ≡ false
takes_nothing later (node Kind.Specifiers m t nothing) h = absurd cc
takes_nothing later (node Kind.Specifiers m t (absent r)) h = refl
takes_nothing later (node Kind.Specifiers m t (node k n c r)) h = refl
takes_nothing later (node k m t r) h = refl
takes_nothing later (absent r) h = refl
takes_nothing later nothing h = refl

-- the list of an import, with more names
others_stay : (later : Forest) (k : Kind) (n : Note) (b : Forest) (x : Option Tree) (ts : List (Option Tree)) → node k n b (row (x ∷ ts)) ≡ with_names later (node k n b (row (x ∷ ts)))
others_stay later specifiers n b None ts = refl
others_stay later specifiers n b (Some x) ts = refl
others_stay later k n b x ts = refl

pub no_list : (later : Forest) (ts : List (Option Tree)) → (length ts ≡ 1 → ⊥) → row ts ≡ with_names later (row ts)
no_list later [] other = refl
no_list later (x ∷ []) other = absurd (other (Prim.omega arith))
no_list later (None ∷ y ∷ ts) other = refl
no_list later (Some x ∷ y ∷ ts) other = others_stay later x.kind x.note x.below y ts

pub only_list : (later : Forest) (ts : List (Option Tree)) (x y : Option Tree) → length ts ≡ 1 → row (y ∷ []) ≡ with_names later (row (get_or ts 0 x ∷ [])) → row (set ts 0 y) ≡ with_names later (row ts)
only_list later [] x y one e = absurd (Prim.omega (arith, one))
only_list later (z ∷ []) x y one e = e
only_list later (z ∷ v ∷ ts) x y one e = absurd (Prim.omega (arith, one))

-- what an item does that has a list of names, and one that hasn't
pub record Gives (before : Forest) (k : Kind) (b : Forest) (source : List ℕ) (names : Forest) : Type 0 where
  pub goes_if : goes before k b ≡ is_taken source names before
  pub given_is : given before k b ≡ taken source names before
  pub asks_too : (other : List ℕ) → asks other k b ≡ bytes_eq source other

gives : (before : Forest) (source : List ℕ) (b names : Forest) → names_of b ≡ Some names → Gives before (import_declaration source) b source names
gives before source (node Kind.Specifiers m t nothing) names h =
    let same : t ≡ names = cc h in
    subst (λ z. Gives before (import_declaration source) (node specifiers m t nothing) source z) same (record { goes_if = refl; given_is = refl; asks_too = λ other. and_true (bytes_eq source other) })
gives before source (node Kind.Specifiers m t (absent r)) names h = absurd cc
gives before source (node Kind.Specifiers m t (node k n c r)) names h = absurd cc
gives before source (node k m t r) names h = absurd cc
gives before source (absent r) names h = absurd cc
gives before source nothing names h = absurd cc

imported : (before : Forest) (k : Kind) (b : Forest) (source : List ℕ) (names : Forest) → imported_from k ≡ Some source → names_of b ≡ Some names → Gives before k b source names
imported before (Kind.ImportDeclaration other) b source names is h = let same : other ≡ source = cc is in subst (λ z. Gives before (import_declaration other) b z names) same (gives before other b names h)
imported before k b source names is h = absurd cc

record Keeps (before : Forest) (k : Kind) (b : Forest) : Type 0 where
  goes_not : goes before k b ≡ false
  asks_not : (other : List ℕ) → asks other k b ≡ false

no_import : (before : Forest) (k : Kind) (b : Forest) → imported_from k ≡ None → Keeps before k b
no_import before (Kind.ImportDeclaration other) b h = absurd cc
no_import before k b h = record { goes_not = refl; asks_not = λ other. refl }

no_names : (before : Forest) (k : Kind) (b : Forest) → names_of b ≡ None → Keeps before k b
no_names before (Kind.ImportDeclaration source) (node Kind.Specifiers m t nothing) h = absurd cc
no_names before (Kind.ImportDeclaration source) (node Kind.Specifiers m t (absent r)) h = record { goes_not = refl; asks_not = λ other. and_false (bytes_eq source other) }
no_names before (Kind.ImportDeclaration source) (node Kind.Specifiers m t (node k n c r)) h = record { goes_not = refl; asks_not = λ other. and_false (bytes_eq source other) }
no_names before (Kind.ImportDeclaration source) (node k m t r) h = record { goes_not = refl; asks_not = λ other. and_false (bytes_eq source other) }
no_names before (Kind.ImportDeclaration source) (absent r) h = record { goes_not = refl; asks_not = λ other. and_false (bytes_eq source other) }
no_names before (Kind.ImportDeclaration source) nothing h = record { goes_not = refl; asks_not = λ other. and_false (bytes_eq source other) }
no_names before k b h = record { goes_not = refl; asks_not = λ other. refl }

-- ---- which item takes them

shifted_none : (r : Option ℕ) → shifted r ≡ None → r ≡ None
shifted_none None e = refl
shifted_none (Some at) e = absurd cc

module _ (source : List ℕ) (later : Forest) where
  pub none_receives : (bs : List Bool) (ys : List (Option Tree)) → receiver source later bs ys ≡ None → is_taken source later (row (items_where_true bs ys)) ≡ false
  none_receives [] ys e = refl
  none_receives (b ∷ bs) [] e = refl
  none_receives (false ∷ bs) (y ∷ ys) e = none_receives bs ys (shifted_none (receiver source later bs ys) e)
  none_receives (true ∷ bs) (None ∷ ys) e = refl
  none_receives (true ∷ bs) (Some x ∷ ys) e = by (takes source later x.kind x.below) (λ h. none_receives bs ys (shifted_none (receiver source later bs ys) h)) e
    where
      by : (c : Bool) → (shifted (receiver source later bs ys) ≡ None → is_taken source later (row (items_where_true bs ys)) ≡ false) → (if c then Some 0 else shifted (receiver source later bs ys)) ≡ None → c || is_taken source later (row (items_where_true bs ys)) ≡ false
      by true rest h = absurd cc
      by false rest h = rest h

  pub record Receives (bs : List Bool) (ys : List (Option Tree)) (at : ℕ) : Type 0 where
    pub taken_there : is_taken source later (row (items_where_true bs ys)) ≡ true
    pub taken_is : (y z : Option Tree) → get_or ys at y ≡ y → z ≡ with_more later y → row (items_where_true bs (set ys at z)) ≡ taken source later (row (items_where_true bs ys))

  shifted_some : (r : Option ℕ) (at : ℕ) → shifted r ≡ Some at → (j : ℕ) × (r ≡ Some j) × (at ≡ suc j)
  shifted_some None at e = absurd cc
  shifted_some (Some j) at e = let same : at ≡ suc j = cc (sym e) in (j, refl, same)

  first_takes : (x : Tree) (bs : List Bool) (ys : List (Option Tree)) → takes source later x.kind x.below ≡ true → Receives (true ∷ bs) (Some x ∷ ys) 0
  first_takes x bs ys h =
      let rest = row (items_where_true bs ys) in
      record {
        taken_there = ap (λ c. c || is_taken source later rest) h;
        taken_is = λ y z is more.
            ap (λ w. row (w ∷ items_where_true bs ys)) (more ∙ ap (with_more later) (sym is))
            ∙ ap (λ c. if c then node x.kind x.note (with_names later x.below) rest else node x.kind x.note x.below (taken source later rest)) (sym h);
      }

  later_takes : (x : Tree) (bs : List Bool) (ys : List (Option Tree)) (j : ℕ) → takes source later x.kind x.below ≡ false → Receives bs ys j → Receives (true ∷ bs) (Some x ∷ ys) (suc j)
  later_takes x bs ys j h r =
      let rest = row (items_where_true bs ys) in
      record {
        taken_there = ap (λ c. c || is_taken source later rest) h ∙ r.taken_there;
        taken_is = λ y z is more.
            ap (node x.kind x.note x.below) (r.taken_is y z is more) ∙ ap (λ c. if c then node x.kind x.note (with_names later x.below) rest else node x.kind x.note x.below (taken source later rest)) (sym h);
      }

  pub receives : (bs : List Bool) (ys : List (Option Tree)) (at : ℕ) → receiver source later bs ys ≡ Some at → Receives bs ys at
  receives [] ys at e = absurd cc
  receives (b ∷ bs) [] at e = absurd cc
  receives (false ∷ bs) (y ∷ ys) at e =
      let o = shifted_some (receiver source later bs ys) at e in
      let r = receives bs ys o.0 o.1 in
      subst (λ n. Receives (false ∷ bs) (y ∷ ys) n) (sym o.2) (record { taken_there = r.taken_there; taken_is = λ w z is more. r.taken_is w z is more })
  receives (true ∷ bs) (None ∷ ys) at e = absurd cc
  receives (true ∷ bs) (Some x ∷ ys) at e = by (takes source later x.kind x.below) refl (λ j is. receives bs ys j is) e
    where
      by : (c : Bool) → takes source later x.kind x.below ≡ c → ((j : ℕ) → receiver source later bs ys ≡ Some j → Receives bs ys j) → (if c then Some 0 else shifted (receiver source later bs ys)) ≡ Some at → Receives (true ∷ bs) (Some x ∷ ys) at
      by true h rest is = let same : 0 ≡ at = cc is in subst (λ n. Receives (true ∷ bs) (Some x ∷ ys) n) same (first_takes x bs ys h)
      by false h rest is =
          let o = shifted_some (receiver source later bs ys) at is in
          subst (λ n. Receives (true ∷ bs) (Some x ∷ ys) n) (sym o.2) (later_takes x bs ys o.0 h (rest o.0 o.1))

-- ---- items, and what they become

stays_changed : (later : Forest) (x c : Option Tree) → or_changed x (with_more later (or_changed x c)) ≡ with_more later (or_changed x c)
stays_changed later None None = refl
stays_changed later (Some x) None = refl
stays_changed later None (Some y) = refl
stays_changed later (Some x) (Some y) = refl

-- one of them takes the names
pub went_in : (source : List ℕ) (later : Forest) (items : List (Option Tree)) (bs : List Bool) (changed : List (Option Tree)) (at : ℕ) (x c w : Option Tree) → receiver source later bs (overlaid items changed) ≡ Some at
    → at < length changed → length changed ≤ length items → x ≡ get_or items at x → c ≡ get_or changed at c → w ≡ with_more later (or_changed x c) → planned items bs (set changed at w) ≡ taken source later (planned items bs changed)
went_in source later items bs changed at x c w found l h is be more =
    ap (λ ys. row (items_where_true bs ys)) (over_set items changed at x w l h is (ap (or_changed x) more ∙ stays_changed later x c ∙ sym more))
    ∙ (receives source later bs (overlaid items changed) at found).taken_is (or_changed x c) w (over_at items changed at x c (or_changed x c) l h is be) more

-- ---- which modules are known

has_after : (name : Bor (List ℕ)) (m n : BTreeSet (Bor (List ℕ))) → sorted.Updates (λ x y. slice_cmp nat_cmp x.now y.now) m n name true
    → (q : List ℕ) → contains_by (λ k. slice_cmp nat_cmp q k.now) n ≡ if bytes_eq name.now q then true else contains_by (λ k. slice_cmp nat_cmp q k.now) m
has_after name m n updates q =
    updates.0 (record { ref_ptr = (0, 0); now = q }) ∙ ap (λ b. cond b true (contains_by (λ k. slice_cmp nat_cmp q k.now) m)) (is_eq-slice_cmp name.now q)

not_the_same : (a b : Bool) → (if a then true else b) ≡ false → (a ≡ false) × (b ≡ false)
not_the_same true b h = absurd cc
not_the_same false b h = (refl, h)

-- an import that takes names asks for their module
taken_asks : (source : List ℕ) (later : Forest) (k : Kind) (b : Forest) → asks source k b ≡ false → takes source later k b ≡ false
taken_asks source later (Kind.ImportDeclaration other) (node Kind.Specifiers m names nothing) h = ap (λ c. c && may_merge names later) (sym (and_true (bytes_eq other source)) ∙ h)
taken_asks source later (Kind.ImportDeclaration other) (node Kind.Specifiers m names (absent r)) h = refl
taken_asks source later (Kind.ImportDeclaration other) (node Kind.Specifiers m names (node k n b r)) h = refl
taken_asks source later (Kind.ImportDeclaration other) (node k m names r) h = refl
taken_asks source later (Kind.ImportDeclaration other) (absent r) h = refl
taken_asks source later (Kind.ImportDeclaration other) nothing h = refl
taken_asks source later k b h = refl

pub none_taken : (source : List ℕ) (later t : Forest) → one_asks source t ≡ false → is_taken source later t ≡ false
none_taken source later nothing h = refl
none_taken source later (absent r) h = refl
none_taken source later (node k n b r) h =
    ap (λ c. c || is_taken source later r) (taken_asks source later k b (first_of_neither (asks source k b) (one_asks source r) h)) ∙ none_taken source later r (second_of_neither (asks source k b) (one_asks source r) h)

asks_more : (source : List ℕ) (t u : Forest) → one_asks source (joined t u) ≡ one_asks source t || one_asks source u
asks_more source nothing u = refl
asks_more source (absent r) u = asks_more source r u
asks_more source (node k n b r) u = ap (λ c. asks source k b || c) (asks_more source r u) ∙ or_associates (asks source k b) (one_asks source r) (one_asks source u)

asks_with : (source : List ℕ) (later : Forest) (k : Kind) (b : Forest) → asks source k (with_names later b) ≡ asks source k b
asks_with source later (Kind.ImportDeclaration other) (node Kind.Specifiers m names nothing) = refl
asks_with source later (Kind.ImportDeclaration other) (node Kind.Specifiers m names (absent r)) = refl
asks_with source later (Kind.ImportDeclaration other) (node Kind.Specifiers m names (node k n b r)) = refl
asks_with source later (Kind.ImportDeclaration other) (node k m names r) = refl
asks_with source later (Kind.ImportDeclaration other) (absent r) = refl
asks_with source later (Kind.ImportDeclaration other) nothing = refl
asks_with source later k b = refl

asks_still : (q source : List ℕ) (later t : Forest) → one_asks q (taken source later t) ≡ one_asks q t
asks_still q source later nothing = refl
asks_still q source later (absent r) = refl
asks_still q source later (node k n b r) = by (takes source later k b) (asks_still q source later r)
  where
    by : (c : Bool) → one_asks q (taken source later r) ≡ one_asks q r → one_asks q (if c then node k n (with_names later b) r else node k n b (taken source later r)) ≡ asks q k b || one_asks q r
    by true rest = ap (λ a. a || one_asks q r) (asks_with q later k b)
    by false rest = ap (λ a. asks q k b || a) rest

module _ (sources : BTreeSet (Bor (List ℕ))) (before : Forest) (x : Tree) where
  quiet : Keeps before x.kind x.below → TreeGoes sources before x false sources before
  quiet keeps known = (
    sym keeps.goes_not,
    refl,
    λ q none. asks_more q before (forest_of x) ∙ ap₂ (λ a b. a || (b || false)) (known q none) (keeps.asks_not q),
  )

  pub goes_no_import : imported_from x.kind ≡ None → TreeGoes sources before x false sources before
  goes_no_import e = quiet (no_import before x.kind x.below e)

  pub goes_no_names : names_of x.below ≡ None → TreeGoes sources before x false sources before
  goes_no_names e = quiet (no_names before x.kind x.below e)

  module _ (source : Bor (List ℕ)) (names : Forest) (behind : BTreeSet (Bor (List ℕ))) where
    -- an import of a module that none before it asks for
    pub goes_first : imported_from x.kind ≡ Some source.now → names_of x.below ≡ Some names → sorted.Updates (λ y z. slice_cmp nat_cmp y.now z.now) sources behind source true
        → contains_by (λ k. slice_cmp nat_cmp source.now k.now) sources ≡ false → TreeGoes sources before x false behind before
    goes_first is named updates new known =
        let g = imported before x.kind x.below source.now names is named in (
          sym (g.goes_if ∙ none_taken source.now names before (known source.now new)),
          refl,
          λ q none.
              let o = not_the_same (bytes_eq source.now q) (contains_by (λ k. slice_cmp nat_cmp q k.now) sources) (sym (has_after source sources behind updates q) ∙ none) in
              asks_more q before (forest_of x) ∙ ap₂ (λ a b. a || (b || false)) (known q o.1) (g.asks_too q ∙ o.0),
        )

    -- another one
    pub goes_in : (g : Bool) (after : Forest) → imported_from x.kind ≡ Some source.now → names_of x.below ≡ Some names → sorted.Updates (λ y z. slice_cmp nat_cmp y.now z.now) sources behind source true
        → g ≡ is_taken source.now names before → after ≡ (if g then taken source.now names before else before) → TreeGoes sources before x g behind after
    goes_in g after is named updates said left known =
        let o = imported before x.kind x.below source.now names is named in (
          said ∙ sym o.goes_if,
          left ∙ ap (λ t. if g then t else before) (sym o.given_is),
          λ q none.
              let same = not_the_same (bytes_eq source.now q) (contains_by (λ k. slice_cmp nat_cmp q k.now) sources) (sym (has_after source sources behind updates q) ∙ none) in
              ap (λ t. one_asks q (if g then t else joined before (forest_of x))) left ∙ by g q (known q same.1) (o.asks_too q ∙ same.0),
        )
      where
        by : (c : Bool) (q : List ℕ) → one_asks q before ≡ false → asks q x.kind x.below ≡ false → one_asks q (if c then (if c then taken source.now names before else before) else joined before (forest_of x)) ≡ false
        by true q none other = asks_still q source.now names before ∙ none
        by false q none other = asks_more q before (forest_of x) ∙ ap₂ (λ a b. a || (b || false)) none other

-- where nothing is done, or no more
pub ended_goes : (ended : Bool) (sources : BTreeSet (Bor (List ℕ))) (before : Forest) (x : Option Tree) → ended ≡ true → ItemGoes ended sources before x false sources before
ended_goes true sources before x is = (refl, refl)
ended_goes false sources before x is = absurd (true≢false (sym is))

pub none_goes : (ended : Bool) (sources : BTreeSet (Bor (List ℕ))) (before : Forest) (x : Option Tree) → x ≡ None → ItemGoes ended sources before x false sources before
none_goes true sources before x is = (refl, refl)
none_goes false sources before None is = (refl, refl)
none_goes false sources before (Some x) is = absurd cc

pub some_goes : (ended : Bool) (sources : BTreeSet (Bor (List ℕ))) (before : Forest) (x : Option Tree) (t : Tree) (g : Bool) (behind : BTreeSet (Bor (List ℕ))) (after : Forest) → ended ≡ false → x ≡ Some t → TreeGoes sources before t g behind after → ItemGoes ended sources before x g behind after
some_goes true sources before x t g behind after isnt is went = absurd (true≢false isnt)
some_goes false sources before None t g behind after isnt is went = absurd cc
some_goes false sources before (Some y) t g behind after isnt is went = let same : t ≡ y = cc (sym is) in subst (λ z. TreeGoes sources before z g behind after) same went

-- ---- item by item

pub record So (items : List (Option Tree)) (i : ℕ) (ended : Bool) (sources : BTreeSet (Bor (List ℕ))) (staying : List Bool) (changed : List (Option Tree)) : Type 0 where
  pub even : length changed ≡ i
  pub long : length staying ≡ i
  pub inside : i ≤ length items
  pub left : go_on ended (planned items staying changed) (row (drop i items)) ≡ together nothing (row items)
  pub goes : list_any (λ b. beq b false) staying || more_go ended (planned items staying changed) (row (drop i items)) ≡ one_goes nothing (row items)
  pub known : ended ≡ false → Known sources (planned items staying changed)

-- where a missing item ends what is done
ends : (b : Bool) (before : Forest) (x : Option Tree) (ts : List (Option Tree)) (ended : Bool) → b ≡ ended || is_missing x → b ≡ true
    → (go_on ended before (row (x ∷ ts)) ≡ joined before (row (x ∷ ts))) × (more_go ended before (row (x ∷ ts)) ≡ false)
ends b before x ts true is so = (refl, refl)
ends b before None ts false is so = (refl, refl)
ends b before (Some x) ts false is so = absurd (true≢false (sym so ∙ is))

some_more : (bs : List Bool) (b : Bool) → list_any (λ c. beq c false) (bs ++ not b ∷ []) ≡ list_any (λ c. beq c false) bs || b
some_more [] true = refl
some_more [] false = refl
some_more (c ∷ bs) b = ap (λ d. beq c false || d) (some_more bs b) ∙ or_associates (beq c false) (list_any (λ d. beq d false) bs) b

joined_more : (before : Forest) (x : Option Tree) (ts : List (Option Tree)) → joined (joined before (row (x ∷ []))) (row ts) ≡ joined before (row (x ∷ ts))
joined_more before None ts = joined_assoc before (row (None ∷ [])) (row ts)
joined_more before (Some x) ts = joined_assoc before (row (Some x ∷ [])) (row ts)

or_true : (a b : Bool) → (a || true) || b ≡ a || true
or_true true b = refl
or_true false b = refl

-- what an item does to what is left
module _ (sources behind : BTreeSet (Bor (List ℕ))) (before : Forest) (any : Bool) (ts : List (Option Tree)) where
  pub record Next (after next : Forest) (g : Bool) (x : Option Tree) (ended : Bool) (was : Bool) : Type 0 where
    pub left : go_on ended next (row ts) ≡ go_on was before (row (x ∷ ts))
    pub goes : (any || g) || more_go ended next (row ts) ≡ any || more_go was before (row (x ∷ ts))
    pub known : ended ≡ false → Known behind next

  nothing_done : (after next : Forest) (g : Bool) (x : Option Tree) (was : Bool) → true ≡ was || is_missing x → g ≡ false → after ≡ before → next ≡ (if not g then joined after (row (x ∷ [])) else after) → Next after next g x true was
  nothing_done after next g x was is none same pushed =
      let o = ends true before x ts was is refl in
      record {
        left = ap (λ t. joined t (row ts)) (pushed ∙ ap₂ (λ b t. if not b then joined t (row (x ∷ [])) else t) none same) ∙ joined_more before x ts ∙ sym o.0;
        goes = or_false (any || g) ∙ ap (λ b. any || b) (none ∙ sym o.1);
        known = λ e. absurd (true≢false e);
      }

  item_stays : (after next : Forest) (t : Tree) → (if goes before t.kind t.below then given before t.kind t.below else joined before (forest_of t)) ≡ joined before (forest_of t) → goes before t.kind t.below ≡ false → next ≡ joined before (forest_of t)
      → Known behind (joined before (forest_of t)) → Next after next false (Some t) false false
  item_stays after next t same isnt is known = record {
    left = ap (λ u. together u (row ts)) (is ∙ sym same);
    goes = ap (λ b. b || one_goes next (row ts)) (or_false any) ∙ ap₂ (λ u b. any || (b || one_goes u (row ts))) is (sym isnt);
    known = λ e. subst (λ u. Known behind u) (sym is) known;
  }

  item_goes : (after next : Forest) (t : Tree) → goes before t.kind t.below ≡ true → next ≡ given before t.kind t.below → Known behind (given before t.kind t.below) → Next after next true (Some t) false false
  item_goes after next t does is known = record {
    left = ap (λ u. together u (row ts)) is ∙ ap (λ b. together (if b then given before t.kind t.below else joined before (forest_of t)) (row ts)) (sym does);
    goes = or_true any (one_goes next (row ts)) ∙ ap (λ b. any || (b || one_goes (joined before (forest_of t)) (row ts))) (sym does);
    known = λ e. subst (λ u. Known behind u) (sym is) known;
  }

  item_done : (after next : Forest) (g : Bool) (t : Tree) → g ≡ goes before t.kind t.below → after ≡ (if g then given before t.kind t.below else before) → Known behind (if g then after else joined before (forest_of t))
      → next ≡ (if not g then joined after (forest_of t) else after) → Next after next g (Some t) false false
  item_done after next true t said left known pushed = item_goes after next t (sym said) (pushed ∙ left) (subst (λ u. Known behind u) left known)
  item_done after next false t said left known pushed =
      item_stays after next t (ap (λ b. if b then given before t.kind t.below else joined before (forest_of t)) (sym said)) (sym said) (pushed ∙ ap (λ u. joined u (forest_of t)) left) known

  pub done : (after next : Forest) (g : Bool) (x : Option Tree) (ended was : Bool) → ended ≡ was || is_missing x → (was ≡ false → Known sources before) → ItemGoes ended sources before x g behind after → next ≡ (if not g then joined after (row (x ∷ [])) else after)
      → Next after next g x ended was
  done after next g x true was is known went pushed = nothing_done after next g x was is went.0 went.1 pushed
  done after next g None false true is known went pushed = absurd (true≢false (sym is))
  done after next g None false false is known went pushed = absurd (true≢false (sym is))
  done after next g (Some t) false true is known went pushed = absurd (true≢false (sym is))
  done after next g (Some t) false false is known went pushed =
      let o = went (known refl) in
      item_done after next g t o.0 o.1 o.2 pushed

-- one more item is done
pub so_more : (items : List (Option Tree)) (i : ℕ) (was ended : Bool) (sources behind : BTreeSet (Bor (List ℕ))) (bs more : List Bool) (cs mid all : List (Option Tree)) (x : Option Tree) (g : Bool) → So items i was sources bs cs → i < length items → x ≡ get_or items i x
    → ended ≡ was || is_missing x → ItemGoes ended sources (planned items bs cs) x g behind (planned items bs mid) → length mid ≡ length cs → more ≡ bs ++ not g ∷ [] → all ≡ mid ++ None ∷ [] → So items (i + 1) ended behind more all
so_more items i was ended sources behind bs more cs mid all x g so h is ends went even pushed put =
    let pushed_all = ap₂ (planned items) pushed put ∙ planned_push items bs mid i (not g) x so.long (even ∙ so.even) h is in
    let n = done sources behind (planned items bs cs) (list_any (λ b. beq b false) bs) (drop (i + 1) items) (planned items bs mid) (planned items more all) g x ended was ends so.known went pushed_all in
    let front = ap row (front_of items i x h is) in
    record {
      even = Prim.omega (arith, ap length put, length-append mid (None ∷ []), even, so.even);
      long = Prim.omega (arith, ap length pushed, length-append bs (not g ∷ []), so.long);
      inside = Prim.omega (arith, h);
      left = n.left ∙ ap (go_on was (planned items bs cs)) (sym front) ∙ so.left;
      goes =
          ap (λ b. b || more_go ended (planned items more all) (row (drop (i + 1) items))) (ap (list_any (λ b. beq b false)) pushed ∙ some_more bs g)
          ∙ n.goes
          ∙ ap (λ t. list_any (λ b. beq b false) bs || more_go was (planned items bs cs) t) (sym front)
          ∙ so.goes;
      known = n.known;
    }

none_so : (items : List (Option Tree)) (sources : BTreeSet (Bor (List ℕ))) → So items 0 false sources [] []
none_so items sources = record { even = refl; long = refl; inside = Prim.omega arith; left = refl; goes = refl; known = λ e. λ q none. refl }

pub so_begins : (items : List (Option Tree)) (sources : BTreeSet (Bor (List ℕ))) (bs : List Bool) (cs : List (Option Tree)) → bs ≡ [] → cs ≡ [] → So items 0 false sources bs cs
so_begins items sources bs cs is be = subst (λ l. So items 0 false sources l cs) (sym is) (subst (λ l. So items 0 false sources [] l) (sym be) (none_so items sources))

all_done : (ended : Bool) (before : Forest) → go_on ended before nothing ≡ before
all_done true before = joined_nothing before
all_done false before = refl

none_to_go : (ended : Bool) (before : Forest) → more_go ended before nothing ≡ false
none_to_go true before = refl
none_to_go false before = refl

pub so_ends : (items : List (Option Tree)) (i : ℕ) (ended : Bool) (sources : BTreeSet (Bor (List ℕ))) (bs : List Bool) (cs : List (Option Tree)) → So items i ended sources bs cs → length items ≤ i → Plan bs cs (row items)
so_ends items i ended sources bs cs so all =
    let none = ap row (drop_all i items all) in
    record {
      items = items;
      are = refl;
      even = Prim.omega (arith, so.even, so.inside, all);
      long = Prim.omega (arith, so.long, so.inside, all);
      left = sym (ap (go_on ended (planned items bs cs)) none ∙ all_done ended (planned items bs cs)) ∙ so.left;
      goes = sym (ap (λ t. list_any (λ b. beq b false) bs || more_go ended (planned items bs cs) t) none ∙ ap (λ b. list_any (λ b. beq b false) bs || b) (none_to_go ended (planned items bs cs)) ∙ or_false (list_any (λ b. beq b false) bs)) ∙ so.goes;
    }

-- ---- the list

pub plan_moves : (bs bits : List Bool) (cs ds : List (Option Tree)) (t u : Forest) → bits ≡ bs → ds ≡ cs → t ≡ u → Plan bs cs t → Plan bits ds u
plan_moves bs bits cs ds t u is be are plan = subst (λ l. Plan l ds u) (sym is) (subst (λ l. Plan bs l u) (sym be) (subst (λ v. Plan bs cs v) are plan))

pub tree_stays : (x : Tree) → one_goes nothing x.below ≡ false → x ≡ record x { below = together nothing x.below }
tree_stays x none = ap (λ t. record { kind = x.kind; note = x.note; below = t }) (sym (none_come nothing x.below none))
