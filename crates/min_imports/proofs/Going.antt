-- Exports that go since an import has their names: one item after the other, and the list that is left.
use Rattle.std.proofs.Common.{◌≡◌, ◌∙◌, ◌<◌, ◌≤◌, ◌+◌, ◌⊎◌, inl, inr, ⊎_elim, ℕ, zero, suc, List, [], ◌∷◌, ◌++◌, Bool, true, false, true≢false, not, ◌||◌, Option, Some, None, is_some, if◌then◌else◌, length, length-append, drop, get_or, set, refl, sym, ap, ap₂, subst, arith}
use Rattle.std.specs.Bool.{beq}
use Rattle.std.specs.BTreeMap.{BTreeMap, is_at}
use Rattle.std.specs.Cmp.Lexicographic.{slice_cmp}
use Rattle.std.specs.Map.{lookup}
use Rattle.std.specs.Ordering.{nat_cmp}
use Rattle.std.specs.List.{items_where_true, list_any}
use Rattle.std.proofs.lemmas.List.{drop_all, get_or_read_under, get_or_past, get_or_push, get_or_append_left, get_or-set_same, get_or-set_other}
use Rattle.js_syntax.specs.Node.{Tree, Forest, nothing, joined, forest_of, row}
use Rattle.js_syntax.proofs.Truth.{or_false, or_associates}
use Rattle.js_tree.proofs.Rows.{front_of, joined_nothing, joined_assoc}
use Rattle.rules.specs.DeadCode.Rules.{Facts}
use Rattle.rules.specs.Imports.Passed.{put_in, passed_among, passed_before, one_passes, or_joined, all_passed, and_gone, all_gone}
use Rattle.min_imports.specs.declared.passing.Passing.{Passing}
use Rattle.min_imports.specs.declared.passing.Within.{Within}
use Rattle.min_imports.specs.Merging.{is_import, or_changed, overlaid, planned, is_missing}
use Rattle.min_imports.specs.Passing.{passes_at, imports, NoImports, Beside, Passes, item_binds, names_bind, stretch, stretch_for, widened_if, Holds, EndsBy, Covers, first_text, left_out, ItemPasses, Plan, Planned}
use Rattle.min_imports.proofs.Overlaid.{over_long, over_at, over_set, over_push, planned_push}
use Rattle.min_imports.proofs.Binding.{starts, became, no_names}
use denote.Ref.{Bor}

cases_eq : (j i : ℕ) → (j ≡ i) ⊎ (j ≡ i → ⊥)
cases_eq zero zero = inl refl
cases_eq zero (suc i) = inr (λ e. Prim.omega (arith, e))
cases_eq (suc j) zero = inr (λ e. Prim.omega (arith, e))
cases_eq (suc j) (suc i) = ⊎_elim (λ e. inl (ap suc e)) (λ other. inr (λ e. other (Prim.omega (arith, e)))) (cases_eq j i)

-- an index that isn't the last is before it or behind
cases_last : (j i : ℕ) → (j ≡ i → ⊥) → (j < i) ⊎ (i + 1 ≤ j)
cases_last zero zero other = absurd (other refl)
cases_last zero (suc i) other = inl (Prim.omega arith)
cases_last (suc j) zero other = inr (Prim.omega arith)
cases_last (suc j) (suc i) other = ⊎_elim (λ h. inl (Prim.omega (arith, h))) (λ h. inr (Prim.omega (arith, h))) (cases_last j i (λ e. other (ap suc e)))

-- ---- the first import that passes them on

module _ (f : Facts) (listed : Forest) where
  pub there_passes : (bs : List Bool) (ys : List (Option Tree)) (at : ℕ) (y : Tree) → length bs ≡ length ys → ((j : ℕ) → j < at → passes_at f listed (get_or bs j false) (get_or ys j None) ≡ None)
      → ((j : ℕ) → j < length ys → is_missing (get_or ys j None) ≡ false) → passes_at f listed (get_or bs at false) (get_or ys at None) ≡ Some y
      → passed_among f listed (row (items_where_true bs ys)) ≡ Some (row (items_where_true bs (set ys at (Some y))))
  there_passes [] ys at y even before there is = absurd cc
  there_passes (b ∷ bs) [] at y even before there is = absurd (Prim.omega (arith, even))
  there_passes (false ∷ bs) (x ∷ ys) zero y even before there is = absurd cc
  there_passes (false ∷ bs) (x ∷ ys) (suc at) y even before there is = there_passes bs ys at y (Prim.omega (arith, even)) (λ j h. before (suc j) (Prim.omega (arith, h))) (λ j h. there (suc j) (Prim.omega (arith, h))) is
  there_passes (true ∷ bs) (None ∷ ys) at y even before there is = absurd (true≢false (there 0 (Prim.omega arith)))
  there_passes (true ∷ bs) (Some x ∷ ys) zero y even before there is =
      let rest = row (items_where_true bs ys) in
      ap (λ o. put_in x.kind x.note x.below rest o (passed_among f listed rest)) is
  there_passes (true ∷ bs) (Some x ∷ ys) (suc at) y even before there is =
      ap₂ (put_in x.kind x.note x.below (row (items_where_true bs ys))) (before 0 (Prim.omega arith)) (there_passes bs ys at y (Prim.omega (arith, even)) (λ j h. before (suc j) (Prim.omega (arith, h))) (λ j h. there (suc j) (Prim.omega (arith, h))) is)

  pub none_passes : (bs : List Bool) (ys : List (Option Tree)) → length bs ≡ length ys → ((j : ℕ) → passes_at f listed (get_or bs j false) (get_or ys j None) ≡ None) → passed_among f listed (row (items_where_true bs ys)) ≡ None
  none_passes [] ys even none = refl
  none_passes (b ∷ bs) [] even none = absurd (Prim.omega (arith, even))
  none_passes (false ∷ bs) (x ∷ ys) even none = none_passes bs ys (Prim.omega (arith, even)) (λ j. none (suc j))
  none_passes (true ∷ bs) (None ∷ ys) even none = refl
  none_passes (true ∷ bs) (Some x ∷ ys) even none = ap₂ (put_in x.kind x.note x.below (row (items_where_true bs ys))) (none 0) (none_passes bs ys (Prim.omega (arith, even)) (λ j. none (suc j)))

pub set_same : {X : Type 0} (xs : List X) (i : ℕ) (x : X) → x ≡ get_or xs i x → set xs i x ≡ xs
set_same [] i x is = refl
set_same (y ∷ ys) zero x is = ap (λ z. z ∷ ys) is
set_same (y ∷ ys) (suc i) x is = ap (λ zs. y ∷ zs) (set_same ys i x is)

any_default : {X : Type 0} (xs : List X) (i : ℕ) (d e : X) → i < length xs → get_or xs i d ≡ get_or xs i e
any_default [] i d e h = absurd (Prim.omega (arith, h))
any_default (x ∷ xs) zero d e h = refl
any_default (x ∷ xs) (suc i) d e h = any_default xs i d e (Prim.omega (arith, h))

module _ (f : Facts) (listed : Forest) (items : List (Option Tree)) (bs : List Bool) (cs : List (Option Tree)) (even : length cs ≡ length bs) (within : length bs ≤ length items) where
  over_even : length bs ≡ length (overlaid items cs)
  over_even = Prim.omega (arith, even, over_long items cs (Prim.omega (arith, even, within)))

  -- what stands there and is not missing
  pub none_missing : ((j : ℕ) → j < length bs → is_missing (get_or items j None) ≡ false) → (j : ℕ) → j < length (overlaid items cs) → is_missing (get_or (overlaid items cs) j None) ≡ false
  none_missing there j h =
      let inside : j < length bs = Prim.omega (arith, h, over_even) in
      ap is_missing (over_at items cs j (get_or items j None) (get_or cs j None) None (Prim.omega (arith, inside, even)) (Prim.omega (arith, even, within)) (any_default items j None (get_or items j None) (Prim.omega (arith, inside, within))) (any_default cs j None (get_or cs j None) (Prim.omega (arith, inside, even))))
      ∙ by (get_or items j None) (get_or cs j None) (there j inside)
    where
      by : (x c : Option Tree) → is_missing x ≡ false → is_missing (or_changed x c) ≡ false
      by x None e = e
      by x (Some y) e = refl

  -- ---- an item is tried

  module _ (at : ℕ) (x : Option Tree) (b : Bool) (c w : Option Tree) (inside : at < length bs) (is_item : x ≡ get_or items at x) (is_bit : get_or bs at false ≡ b) (is_slot : c ≡ get_or cs at c) (put : w ≡ or_changed c (passes_at f listed b (or_changed x c))) where
    here : passes_at f listed (get_or bs at false) (get_or (overlaid items cs) at None) ≡ passes_at f listed b (or_changed x c)
    here = ap₂ (passes_at f listed) is_bit (over_at items cs at x c None (Prim.omega (arith, inside, even)) (Prim.omega (arith, even, within)) is_item is_slot)

    none_of : (o : Option Tree) → is_some o ≡ false → o ≡ None
    none_of None e = refl
    none_of (Some y) e = absurd (true≢false e)

    some_of : (o : Option Tree) → is_some o ≡ true → (y : Tree) × (o ≡ Some y)
    some_of None e = absurd (true≢false (sym e))
    some_of (Some y) e = (y, refl)

    pub goes_none : (g : Bool) → g ≡ is_some (passes_at f listed b (or_changed x c)) → g ≡ false → passes_at f listed (get_or bs at false) (get_or (overlaid items cs) at None) ≡ None
    goes_none g said isnt = here ∙ none_of (passes_at f listed b (or_changed x c)) (sym said ∙ isnt)

    pub slot_same : (g : Bool) → g ≡ is_some (passes_at f listed b (or_changed x c)) → g ≡ false → set cs at w ≡ cs
    slot_same g said isnt = ap (set cs at) (put ∙ ap (or_changed c) (none_of (passes_at f listed b (or_changed x c)) (sym said ∙ isnt))) ∙ set_same cs at c is_slot

    module _ (g : Bool) (said : g ≡ is_some (passes_at f listed b (or_changed x c))) (does : g ≡ true) where
      became_of : (y : Tree) × (passes_at f listed b (or_changed x c) ≡ Some y)
      became_of = some_of (passes_at f listed b (or_changed x c)) (sym said ∙ does)

      put_it : w ≡ Some became_of.0
      put_it = put ∙ ap (or_changed c) became_of.1

      over_it : overlaid items (set cs at w) ≡ set (overlaid items cs) at (Some became_of.0)
      over_it = ap (λ z. overlaid items (set cs at z)) put_it ∙ over_set items cs at x (Some became_of.0) (Prim.omega (arith, inside, even)) (Prim.omega (arith, even, within)) is_item refl

      no_import : is_import became_of.0.kind ≡ false
      no_import = became f listed b (or_changed x c) became_of.0 became_of.1

      pub passes_there : ((j : ℕ) → j < at → passes_at f listed (get_or bs j false) (get_or (overlaid items cs) j None) ≡ None) → ((j : ℕ) → j < length (overlaid items cs) → is_missing (get_or (overlaid items cs) j None) ≡ false)
          → Passes (passed_among f listed (planned items bs cs)) (planned items bs cs) true (planned items bs (set cs at w))
      passes_there before there = (
        there_passes f listed bs (overlaid items cs) at became_of.0 over_even before there (here ∙ became_of.1) ∙ ap (λ l. Some (row (items_where_true bs l))) (sym over_it),
        λ e. absurd (true≢false e),
      )

      pub binds_there : (j : ℕ) (q : List ℕ) → item_binds (get_or (overlaid items (set cs at w)) j None) q ≡ true → item_binds (get_or (overlaid items cs) j None) q ≡ true
      binds_there j q h = ⊎_elim
          (λ e. absurd (true≢false (sym (sym (ap (λ t. item_binds t q) (ap (λ l. get_or l j None) over_it ∙ ap (λ i. get_or (set (overlaid items cs) at (Some became_of.0)) i None) e ∙ get_or-set_same (overlaid items cs) at (Some became_of.0) None (Prim.omega (arith, inside, over_even))) ∙ none_bound) ∙ h))))
          (λ other. sym (ap (λ t. item_binds t q) (ap (λ l. get_or l j None) over_it ∙ get_or-set_other (overlaid items cs) at j (Some became_of.0) None other)) ∙ h)
          (cases_eq j at)
        where
          none_bound : item_binds (Some became_of.0) q ≡ false
          none_bound = ap (λ t. names_bind t q) (no_names became_of.0.kind became_of.0.below no_import)

      pub imports_there : NoImports cs → NoImports (set cs at w)
      imports_there none j = ⊎_elim
          (λ e. ap imports (ap (λ z. get_or (set cs at z) j None) put_it ∙ ap (λ i. get_or (set cs at (Some became_of.0)) i None) e ∙ get_or-set_same cs at (Some became_of.0) None (Prim.omega (arith, inside, even))) ∙ no_import)
          (λ other. ap imports (get_or-set_other cs at j w None other) ∙ none j)
          (cases_eq j at)

  -- ---- where none does

  pub none_at_all : ((j : ℕ) → passes_at f listed (get_or bs j false) (get_or (overlaid items cs) j None) ≡ None) → Passes (passed_among f listed (planned items bs cs)) (planned items bs cs) false (planned items bs cs)
  none_at_all none = (none_passes f listed bs (overlaid items cs) over_even none, λ e. refl)

  -- ---- imports that bind the first name that is listed

  module _ (binders : BTreeMap (Bor (List ℕ)) Within) (covers : Covers binders (overlaid items cs)) where
    stands : (j : ℕ) (y : Tree) (w : Option Within) → stretch_for binders (first_text listed) ≡ w → passes_at f listed (get_or bs j false) (get_or (overlaid items cs) j None) ≡ Some y → Holds w j
    stands j y w is does =
        let s = starts f listed (get_or bs j false) (get_or (overlaid items cs) j None) y does in
        subst (λ o. Holds o j) (ap (stretch_for binders) (sym s.first) ∙ is) (covers.holds j s.text s.bound)

    pub beside : (w : Within) → stretch_for binders (first_text listed) ≡ Some w → ((j : ℕ) → j < length bs → is_missing (get_or items j None) ≡ false) → Beside f listed bs (overlaid items cs) w.from w.to
    beside w is there = record {
      before = λ j h. by j (passes_at f listed (get_or bs j false) (get_or (overlaid items cs) j None)) refl (λ y e. let o = stands j y (Some w) is e in absurd (Prim.omega (arith, o.0, h)));
      behind = λ j h. by j (passes_at f listed (get_or bs j false) (get_or (overlaid items cs) j None)) refl (λ y e. let o = stands j y (Some w) is e in absurd (Prim.omega (arith, o.1, h)));
      there = none_missing there;
    }
      where
        by : (j : ℕ) (o : Option Tree) → passes_at f listed (get_or bs j false) (get_or (overlaid items cs) j None) ≡ o → ((y : Tree) → passes_at f listed (get_or bs j false) (get_or (overlaid items cs) j None) ≡ Some y → ⊥)
            → passes_at f listed (get_or bs j false) (get_or (overlaid items cs) j None) ≡ None
        by j None e not = e
        by j (Some y) e not = absurd (not y e)

    pub none_stands : stretch_for binders (first_text listed) ≡ None → (j : ℕ) → passes_at f listed (get_or bs j false) (get_or (overlaid items cs) j None) ≡ None
    none_stands is j = by (passes_at f listed (get_or bs j false) (get_or (overlaid items cs) j None)) refl
      where
        by : (o : Option Tree) → passes_at f listed (get_or bs j false) (get_or (overlaid items cs) j None) ≡ o → passes_at f listed (get_or bs j false) (get_or (overlaid items cs) j None) ≡ None
        by None e = e
        by (Some y) e = absurd (stands j y None is e)

    pub ends_inside : (w : Within) → stretch_for binders (first_text listed) ≡ Some w → w.to < length bs
    ends_inside w is = by (first_text listed) is
      where
        by : (o : Option (List ℕ)) → stretch_for binders o ≡ Some w → w.to < length bs
        by None h = absurd cc
        by (Some q) h = let o = subst (λ s. EndsBy s (length (overlaid items cs))) h (covers.ends q) in Prim.omega (arith, o.1, over_even)

-- ---- as code finds it

pub slot_no_import : (cs : List (Option Tree)) (at : ℕ) (c : Option Tree) → NoImports cs → at < length cs → c ≡ get_or cs at c → imports c ≡ false
slot_no_import cs at c none h is = ap imports (get_or_read_under cs at (length cs) c None is h refl) ∙ none at

module _ (f : Facts) (listed : Forest) (bs : List Bool) (ys : List (Option Tree)) (at : ℕ) (before : (j : ℕ) → j < at → passes_at f listed (get_or bs j false) (get_or ys j None) ≡ None) where
  pub before_next : passes_at f listed (get_or bs at false) (get_or ys at None) ≡ None → (j : ℕ) → j < at + 1 → passes_at f listed (get_or bs j false) (get_or ys j None) ≡ None
  before_next none j h = ⊎_elim
      (λ e. ap (λ i. passes_at f listed (get_or bs i false) (get_or ys i None)) e ∙ none)
      (λ other. ⊎_elim (λ l. before j l) (λ l. absurd (Prim.omega (arith, h, l))) (cases_last j at other))
      (cases_eq j at)

  pub none_of_all : (to : ℕ) → to < at → ((j : ℕ) → to < j → passes_at f listed (get_or bs j false) (get_or ys j None) ≡ None) → (j : ℕ) → passes_at f listed (get_or bs j false) (get_or ys j None) ≡ None
  none_of_all to past behind j = ⊎_elim
      (λ e. behind j (Prim.omega (arith, past, e)))
      (λ other. ⊎_elim (λ l. before j l) (λ l. behind j (Prim.omega (arith, past, l))) (cases_last j at other))
      (cases_eq j at)

pub ended_goes : (f : Facts) (ended : Bool) (before : Forest) (x : Option Tree) → ended ≡ true → ItemPasses f ended before x false before
ended_goes f true before x is = (refl, refl)
ended_goes f false before x is = absurd (true≢false (sym is))

pub none_goes : (f : Facts) (ended : Bool) (before : Forest) (x : Option Tree) → x ≡ None → ItemPasses f ended before x false before
none_goes f true before x is = (refl, refl)
none_goes f false before None is = (refl, refl)
none_goes f false before (Some x) is = absurd cc

pub some_goes : (f : Facts) (ended : Bool) (before : Forest) (x : Option Tree) (t : Tree) (g : Bool) (after : Forest) → ended ≡ false → x ≡ Some t → Passes (passed_before f before t.kind t.below) before g after → ItemPasses f ended before x g after
some_goes f true before x t g after isnt is went = absurd (true≢false isnt)
some_goes f false before None t g after isnt is went = absurd cc
some_goes f false before (Some y) t g after isnt is went = let same : t ≡ y = cc (sym is) in subst (λ (z : Tree). Passes (passed_before f before z.kind z.below) before g after) same went

-- ---- what is left of all items

abbrev pub go_on : Facts → (ended : Bool) → (before items : Forest) → Forest
go_on f true before items = joined before items
go_on f false before items = all_passed f before items

abbrev pub gone_on : Facts → (ended : Bool) → (before items : Forest) → Forest
gone_on f true before items = nothing
gone_on f false before items = all_gone f before items

abbrev pub more_pass : Facts → (ended : Bool) → (before items : Forest) → Bool
more_pass f true before items = false
more_pass f false before items = one_passes f before items

pub record So (f : Facts) (items : List (Option Tree)) (i : ℕ) (ended : Bool) (binders : BTreeMap (Bor (List ℕ)) Within) (bs : List Bool) (cs : List (Option Tree)) : Type 0 where
  pub even : length cs ≡ i
  pub long : length bs ≡ i
  pub inside : i ≤ length items
  pub left : go_on f ended (planned items bs cs) (row (drop i items)) ≡ all_passed f nothing (row items)
  pub gone : joined (left_out bs items) (gone_on f ended (planned items bs cs) (row (drop i items))) ≡ all_gone f nothing (row items)
  pub goes : list_any (λ b. beq b false) bs || more_pass f ended (planned items bs cs) (row (drop i items)) ≡ one_passes f nothing (row items)
  pub covers : Covers binders (overlaid items cs)
  pub there : ended ≡ false → (j : ℕ) → j < length bs → is_missing (get_or items j None) ≡ false
  pub exported : NoImports cs

-- one item more

some_more : (bs : List Bool) (b : Bool) → list_any (λ c. beq c false) (bs ++ not b ∷ []) ≡ list_any (λ c. beq c false) bs || b
some_more [] true = refl
some_more [] false = refl
some_more (c ∷ bs) b = ap (λ d. beq c false || d) (some_more bs b) ∙ or_associates (beq c false) (list_any (λ d. beq d false) bs) b

joined_more : (before : Forest) (x : Option Tree) (ts : List (Option Tree)) → joined (joined before (row (x ∷ []))) (row ts) ≡ joined before (row (x ∷ ts))
joined_more before None ts = joined_assoc before (row (None ∷ [])) (row ts)
joined_more before (Some x) ts = joined_assoc before (row (Some x ∷ [])) (row ts)

or_true : (a b : Bool) → (a || true) || b ≡ a || true
or_true true b = refl
or_true false b = refl

pub left_more : (bs : List Bool) (items : List (Option Tree)) (i : ℕ) (b : Bool) (x : Option Tree) → length bs ≡ i → i < length items → x ≡ get_or items i x → left_out (bs ++ b ∷ []) items ≡ joined (left_out bs items) (if b then nothing else row (x ∷ []))
left_more bs [] i b x n h is = absurd (Prim.omega (arith, h))
left_more [] (y ∷ items) zero true x n h is = refl
left_more [] (y ∷ items) zero false x n h is = joined_nothing (row (y ∷ [])) ∙ ap (λ z. row (z ∷ [])) (sym is)
left_more [] (y ∷ items) (suc i) b x n h is = absurd (Prim.omega (arith, n))
left_more (true ∷ bs) (y ∷ items) zero b x n h is = absurd (Prim.omega (arith, n))
left_more (true ∷ bs) (y ∷ items) (suc i) b x n h is = left_more bs items i b x (Prim.omega (arith, n)) (Prim.omega (arith, h)) is
left_more (false ∷ bs) (y ∷ items) zero b x n h is = absurd (Prim.omega (arith, n))
left_more (false ∷ bs) (y ∷ items) (suc i) b x n h is = ap (joined (row (y ∷ []))) (left_more bs items i b x (Prim.omega (arith, n)) (Prim.omega (arith, h)) is) ∙ sym (joined_assoc (row (y ∷ [])) (left_out bs items) (if b then nothing else row (x ∷ [])))

module _ (f : Facts) (before out : Forest) (any : Bool) (ts : List (Option Tree)) where
  pub record Next (next leaving : Forest) (g : Bool) (x : Option Tree) (ended was : Bool) : Type 0 where
    pub left : go_on f ended next (row ts) ≡ go_on f was before (row (x ∷ ts))
    pub gone : joined leaving (gone_on f ended next (row ts)) ≡ joined out (gone_on f was before (row (x ∷ ts)))
    pub goes : (any || g) || more_pass f ended next (row ts) ≡ any || more_pass f was before (row (x ∷ ts))

  -- where a missing item ends what is done
  ends : (was ended : Bool) (x : Option Tree) → ended ≡ was || is_missing x → ended ≡ true → (go_on f was before (row (x ∷ ts)) ≡ joined before (row (x ∷ ts))) × (gone_on f was before (row (x ∷ ts)) ≡ nothing) × (more_pass f was before (row (x ∷ ts)) ≡ false)
  ends true ended x so is = (refl, refl, refl)
  ends false ended None so is = (refl, refl, refl)
  ends false ended (Some x) so is = absurd (true≢false (sym is ∙ so))

  nothing_done : (after next leaving : Forest) (g : Bool) (x : Option Tree) (was : Bool) → true ≡ was || is_missing x → g ≡ false → after ≡ before → next ≡ (if not g then joined after (row (x ∷ [])) else after) → leaving ≡ joined out (if not g then nothing else row (x ∷ [])) → Next next leaving g x true was
  nothing_done after next leaving g x was is none same pushed put =
      let o = ends was true x is refl in
      record {
        left = ap (λ t. joined t (row ts)) (pushed ∙ ap₂ (λ b t. if not b then joined t (row (x ∷ [])) else t) none same) ∙ joined_more before x ts ∙ sym o.0;
        gone = ap (λ t. joined t nothing) (put ∙ ap (λ b. joined out (if not b then nothing else row (x ∷ []))) none ∙ joined_nothing out) ∙ ap (joined out) (sym o.1);
        goes = or_false (any || g) ∙ ap (λ b. any || b) none ∙ ap (λ b. any || b) (sym o.2);
      }

  item_done : (after next leaving : Forest) (g : Bool) (t : Tree) → Passes (passed_before f before t.kind t.below) before g after → next ≡ (if not g then joined after (forest_of t) else after) → leaving ≡ joined out (if not g then nothing else forest_of t) → Next next leaving g (Some t) false false
  item_done after next leaving true t said pushed put = record {
    left = ap (λ u. all_passed f u (row ts)) pushed ∙ ap (λ o. all_passed f (or_joined o before (forest_of t)) (row ts)) (sym said.0);
    gone = ap₂ (λ l u. joined l (all_gone f u (row ts))) put pushed ∙ joined_assoc out (forest_of t) (all_gone f after (row ts)) ∙ ap (λ o. joined out (and_gone o t.kind t.note t.below (all_gone f (or_joined o before (forest_of t)) (row ts)))) (sym said.0);
    goes = or_true any (one_passes f next (row ts)) ∙ ap (λ o. any || (is_some o || one_passes f (joined before (forest_of t)) (row ts))) (sym said.0);
  }
  item_done after next leaving false t said pushed put =
      let is = pushed ∙ ap (λ u. joined u (forest_of t)) (said.1 refl) in
      record {
        left = ap (λ u. all_passed f u (row ts)) is ∙ ap (λ o. all_passed f (or_joined o before (forest_of t)) (row ts)) (sym said.0);
        gone = ap₂ (λ l u. joined l (all_gone f u (row ts))) (put ∙ joined_nothing out) is ∙ ap (λ o. joined out (and_gone o t.kind t.note t.below (all_gone f (or_joined o before (forest_of t)) (row ts)))) (sym said.0);
        goes = ap (λ b. b || one_passes f next (row ts)) (or_false any) ∙ ap (λ u. any || one_passes f u (row ts)) is ∙ ap (λ o. any || (is_some o || one_passes f (joined before (forest_of t)) (row ts))) (sym said.0);
      }

  pub done : (after next leaving : Forest) (g : Bool) (x : Option Tree) (ended was : Bool) → ended ≡ was || is_missing x → ItemPasses f ended before x g after → next ≡ (if not g then joined after (row (x ∷ [])) else after) → leaving ≡ joined out (if not g then nothing else row (x ∷ [])) → Next next leaving g x ended was
  done after next leaving g x true was is went pushed put = nothing_done after next leaving g x was is went.0 went.1 pushed put
  done after next leaving g None false true is went pushed put = absurd (true≢false (sym is))
  done after next leaving g None false false is went pushed put = absurd (true≢false (sym is))
  done after next leaving g (Some t) false true is went pushed put = absurd (true≢false (sym is))
  done after next leaving g (Some t) false false is went pushed put = item_done after next leaving g t went pushed put

-- where imports stand, with one item more

holds_more : (b : Bool) (s : Option Within) (i j : ℕ) → j < i → Holds s j → Holds (widened_if b s i) j
holds_more true None i j h at = absurd at
holds_more true (Some w) i j h at = (at.0, Prim.omega (arith, h))
holds_more false s i j h at = at

holds_here : (s : Option Within) (i : ℕ) → EndsBy s i → Holds (widened_if true s i) i
holds_here None i ends = (Prim.omega arith, Prim.omega arith)
holds_here (Some w) i ends = (Prim.omega (arith, ends.0), Prim.omega arith)

ends_more : (b : Bool) (s : Option Within) (i n : ℕ) → n ≡ i + 1 → EndsBy s i → EndsBy (widened_if b s i) n
ends_more true None i n is ends = (Prim.omega (arith, is), Prim.omega (arith, is))
ends_more true (Some w) i n is ends = (Prim.omega (arith, is, ends.0), Prim.omega (arith, is))
ends_more false None i n is ends = tt
ends_more false (Some w) i n is ends = (Prim.omega (arith, is, ends.0), Prim.omega (arith, is, ends.1))

pub covers_more : (m n : BTreeMap (Bor (List ℕ)) Within) (ys : List (Option Tree)) (i : ℕ) (x : Option Tree) → length ys ≡ i → ((q : List ℕ) → stretch n q ≡ widened_if (item_binds x q) (stretch m q) i) → Covers m ys → Covers n (ys ++ x ∷ [])
covers_more m n ys i x long put covers = record {
  holds = λ j q h. ⊎_elim
      (λ e. subst (λ s. Holds s j) (sym (put q)) (subst (λ k. Holds (widened_if (item_binds x q) (stretch m q) i) k) (sym e) (subst (λ b. Holds (widened_if b (stretch m q) i) i) (sym (sym (ap (λ t. item_binds t q) (ap (λ k. get_or (ys ++ x ∷ []) k None) e ∙ get_or_push ys x None i long)) ∙ h)) (holds_here (stretch m q) i (subst (EndsBy (stretch m q)) long (covers.ends q))))))
      (λ other. subst (λ s. Holds s j) (sym (put q)) (before j q other h))
      (cases_eq j i);
  ends = λ q. subst (λ s. EndsBy s (length (ys ++ x ∷ []))) (sym (put q)) (ends_more (item_binds x q) (stretch m q) i (length (ys ++ x ∷ [])) (Prim.omega (arith, length-append ys (x ∷ []), long)) (subst (EndsBy (stretch m q)) long (covers.ends q)));
}
  where
    before : (j : ℕ) (q : List ℕ) → (j ≡ i → ⊥) → item_binds (get_or (ys ++ x ∷ []) j None) q ≡ true → Holds (widened_if (item_binds x q) (stretch m q) i) j
    before j q other h = ⊎_elim
        (λ l. holds_more (item_binds x q) (stretch m q) i j l (covers.holds j q (sym (ap (λ t. item_binds t q) (get_or_append_left ys (x ∷ []) None j (Prim.omega (arith, l, long)))) ∙ h)))
        (λ l. absurd (true≢false (sym (sym (ap (λ t. item_binds t q) (get_or_past (ys ++ x ∷ []) j None (Prim.omega (arith, l, length-append ys (x ∷ []), long)))) ∙ h))))
        (cases_last j i other)

-- the same items, of which some became others
pub covers_still : (m : BTreeMap (Bor (List ℕ)) Within) (ys zs : List (Option Tree)) → length zs ≡ length ys → ((j : ℕ) (q : List ℕ) → item_binds (get_or zs j None) q ≡ true → item_binds (get_or ys j None) q ≡ true) → Covers m ys → Covers m zs
covers_still m ys zs long binds covers = record { holds = λ j q h. covers.holds j q (binds j q h); ends = λ q. subst (EndsBy (stretch m q)) (sym long) (covers.ends q) }

one_none : (cs : List (Option Tree)) (j : ℕ) → get_or (cs ++ None ∷ []) j None ≡ get_or cs j None
one_none [] zero = refl
one_none [] (suc j) = refl
one_none (c ∷ cs) zero = refl
one_none (c ∷ cs) (suc j) = one_none cs j

there_more : (items : List (Option Tree)) (i : ℕ) (x : Option Tree) (was ended : Bool) → ended ≡ was || is_missing x → i < length items → x ≡ get_or items i x → (was ≡ false → (j : ℕ) → j < i → is_missing (get_or items j None) ≡ false) → ended ≡ false → (j : ℕ) → j < i + 1 → is_missing (get_or items j None) ≡ false
there_more items i x true ended is h at there isnt j l = absurd (true≢false (sym is ∙ isnt))
there_more items i x false ended is h at there isnt j l = ⊎_elim
    (λ e. ap is_missing (ap (λ k. get_or items k None) e ∙ sym (get_or_read_under items i (length items) x None at h refl)) ∙ sym is ∙ isnt)
    (λ other. ⊎_elim (λ less. there refl j less) (λ more. absurd (Prim.omega (arith, l, more))) (cases_last j i other))
    (cases_eq j i)

pub there_still : (items : List (Option Tree)) (was ended : Bool) (x : Option Tree) (bs bits : List Bool) → ended ≡ was || is_missing x → length bits ≡ length bs → (was ≡ false → (j : ℕ) → j < length bs → is_missing (get_or items j None) ≡ false) → ended ≡ false → (j : ℕ) → j < length bits → is_missing (get_or items j None) ≡ false
there_still items true ended x bs bits is same there isnt j h = absurd (true≢false (sym is ∙ isnt))
there_still items false ended x bs bits is same there isnt j h = there refl j (Prim.omega (arith, h, same))

pub so_more : (f : Facts) (items : List (Option Tree)) (i : ℕ) (was ended : Bool) (binders behind : BTreeMap (Bor (List ℕ)) Within) (bs more : List Bool) (cs mid all : List (Option Tree)) (x : Option Tree) (g : Bool) → So f items i was binders bs cs → i < length items → x ≡ get_or items i x
    → ended ≡ was || is_missing x → ItemPasses f ended (planned items bs cs) x g (planned items bs mid) → length mid ≡ length cs → ((j : ℕ) (q : List ℕ) → item_binds (get_or (overlaid items mid) j None) q ≡ true → item_binds (get_or (overlaid items cs) j None) q ≡ true) → NoImports mid
    → ((q : List ℕ) → stretch behind q ≡ widened_if (item_binds x q) (stretch binders q) i) → more ≡ bs ++ not g ∷ [] → all ≡ mid ++ None ∷ [] → So f items (i + 1) ended behind more all
so_more f items i was ended binders behind bs more cs mid all x g so h is ends went even binds none known pushed put =
    let pushed_all = ap₂ (planned items) pushed put ∙ planned_push items bs mid i (not g) x so.long (even ∙ so.even) h is in
    let leaving = ap (λ l. left_out l items) pushed ∙ left_more bs items i (not g) x so.long h is in
    let n = done f (planned items bs cs) (left_out bs items) (list_any (λ b. beq b false) bs) (drop (i + 1) items) (planned items bs mid) (planned items more all) (left_out more items) g x ended was ends went pushed_all leaving in
    let front = ap row (front_of items i x h is) in
    let over = ap (overlaid items) put ∙ over_push items mid i x (even ∙ so.even) h is in
    let over_cs : length (overlaid items cs) ≡ i = over_long items cs (Prim.omega (arith, so.even, so.inside)) ∙ so.even in
    let over_mid : length (overlaid items mid) ≡ i = over_long items mid (Prim.omega (arith, even, so.even, so.inside)) ∙ even ∙ so.even in
    record {
      even = Prim.omega (arith, ap length put, length-append mid (None ∷ []), even, so.even);
      long = Prim.omega (arith, ap length pushed, length-append bs (not g ∷ []), so.long);
      inside = Prim.omega (arith, h);
      left = n.left ∙ ap (go_on f was (planned items bs cs)) (sym front) ∙ so.left;
      gone = n.gone ∙ ap (λ t. joined (left_out bs items) (gone_on f was (planned items bs cs) t)) (sym front) ∙ so.gone;
      goes =
          ap (λ b. b || more_pass f ended (planned items more all) (row (drop (i + 1) items))) (ap (list_any (λ b. beq b false)) pushed ∙ some_more bs g)
          ∙ n.goes
          ∙ ap (λ t. list_any (λ b. beq b false) bs || more_pass f was (planned items bs cs) t) (sym front)
          ∙ so.goes;
      covers = subst (λ l. Covers behind l) (sym over) (covers_more binders behind (overlaid items mid) i x over_mid known (covers_still binders (overlaid items cs) (overlaid items mid) (over_mid ∙ sym over_cs) binds so.covers));
      there = λ isnt j l. there_more items i x was ended ends h is (λ e k less. so.there e k (Prim.omega (arith, less, so.long))) isnt j (Prim.omega (arith, l, ap length pushed, length-append bs (not g ∷ []), so.long));
      exported = subst (λ l. NoImports l) (sym put) (λ j. ap imports (one_none mid j) ∙ none j);
    }

none_covers : (binders : BTreeMap (Bor (List ℕ)) Within) (items : List (Option Tree)) → binders.entries ≡ [] → Covers binders (overlaid items [])
none_covers binders items empty = record {
  holds = λ j q h. absurd (true≢false (sym (sym (ap (λ t. item_binds t q) (ap (λ l. get_or l j None) (no_items items))) ∙ h)));
  ends = λ q. subst (λ s. EndsBy s (length (overlaid items []))) (sym (nowhere q)) tt;
}
  where
    no_items : (l : List (Option Tree)) → overlaid l [] ≡ []
    no_items [] = refl
    no_items (y ∷ l) = refl

    nowhere : (q : List ℕ) → stretch binders q ≡ None
    nowhere q = ap (lookup (is_at (λ k. slice_cmp nat_cmp q k.now))) empty

pub so_begins : (f : Facts) (items : List (Option Tree)) (binders : BTreeMap (Bor (List ℕ)) Within) (bs : List Bool) (cs : List (Option Tree)) → binders.entries ≡ [] → bs ≡ [] → cs ≡ [] → So f items 0 false binders bs cs
so_begins f items binders bs cs empty is be = subst (λ l. So f items 0 false binders l cs) (sym is) (subst (λ l. So f items 0 false binders [] l) (sym be) none_so)
  where
    none_so : So f items 0 false binders [] []
    none_so = record { even = refl; long = refl; inside = Prim.omega arith; left = refl; gone = refl; goes = refl; covers = none_covers binders items empty; there = λ e j h. absurd (Prim.omega (arith, h)); exported = λ j. refl }

all_done : (f : Facts) (ended : Bool) (before : Forest) → go_on f ended before nothing ≡ before
all_done f true before = joined_nothing before
all_done f false before = refl

none_gone : (f : Facts) (ended : Bool) (before : Forest) → gone_on f ended before nothing ≡ nothing
none_gone f true before = refl
none_gone f false before = refl

none_to_pass : (f : Facts) (ended : Bool) (before : Forest) → more_pass f ended before nothing ≡ false
none_to_pass f true before = refl
none_to_pass f false before = refl

pub so_ends : (f : Facts) (items : List (Option Tree)) (i : ℕ) (ended : Bool) (binders : BTreeMap (Bor (List ℕ)) Within) (bs : List Bool) (cs : List (Option Tree)) → So f items i ended binders bs cs → length items ≤ i → Plan f bs cs (row items)
so_ends f items i ended binders bs cs so all =
    let none = ap row (drop_all i items all) in
    record {
      items = items;
      are = refl;
      even = Prim.omega (arith, so.even, so.inside, all);
      long = Prim.omega (arith, so.long, so.inside, all);
      left = sym (ap (go_on f ended (planned items bs cs)) none ∙ all_done f ended (planned items bs cs)) ∙ so.left;
      gone = sym (ap (λ t. joined (left_out bs items) (gone_on f ended (planned items bs cs) t)) none ∙ ap (joined (left_out bs items)) (none_gone f ended (planned items bs cs)) ∙ joined_nothing (left_out bs items)) ∙ so.gone;
      goes = sym (ap (λ t. list_any (λ b. beq b false) bs || more_pass f ended (planned items bs cs) t) none ∙ ap (λ b. list_any (λ b. beq b false) bs || b) (none_to_pass f ended (planned items bs cs)) ∙ or_false (list_any (λ b. beq b false) bs)) ∙ so.goes;
    }

-- ---- a plan that changes something

pub plan_is : (p : Passing) (f : Facts) (list : Forest) (found : Bool) → found ≡ list_any (λ b. beq b false) p.staying.items → found ≡ true → Plan f p.staying.items p.changed.items list → Planned f list (Some p)
plan_is p f list found said does plan = (plan, sym plan.goes ∙ sym said ∙ does)

pub no_plan : (p : Passing) (f : Facts) (list : Forest) (found : Bool) → found ≡ list_any (λ b. beq b false) p.staying.items → found ≡ false → Plan f p.staying.items p.changed.items list → Planned f list None
no_plan p f list found said isnt plan = sym plan.goes ∙ sym said ∙ isnt
