-- What leaves by an edit stood at its place.
use Rattle.std.proofs.Common.{◌≡◌, ◌∙◌, ◌⊎◌, inl, inr, true≢false, ◌<◌, ◌≤◌, ◌+◌, ℕ, Bool, true, false, ◌||◌, Option, Some, None, refl, sym, ap, arith}
use Rattle.std.specs.Prelude.{nat_lt}
use Rattle.js_syntax.specs.Class.{root}
use Rattle.js_syntax.specs.Node.{Forest, Tree}
use Rattle.json_shape.specs.Shape.{Fits}
use Rattle.scope_laws.specs.Place.{Around, first, behind, behind_none, under, one_place, plug}
use Rattle.scope_laws.specs.Lists.{without}
use Rattle.scope_counts.proofs.Scopes.{below_or_above as below_or_at}
use Rattle.scope_counts.specs.Counts.{Weight, tally, by_id, ids}
use Rattle.scope_counts.specs.Edits as counts
use Rattle.scope_counts.specs.Scopes.{ExactButMarks}
use Rattle.scope_counts.proofs.Edits.{ids_plug}
use Rattle.scope_rules.specs.Table.{Scoping}
use Rattle.steps.proofs.Marked.Tables.{edits_keep_marked}
use Rattle.scope_counts.specs.Losing.{left, MarksWhatLeft}
use Rattle.steps.specs.Allowed.Edits.{TreeEdits}
use Rattle.steps.proofs.Owed.FitsEdits.{tree_edits_fit}
use Rattle.steps.proofs.Marked.Shedding.{edits_shed}

tally_around : (w : Weight) (a : Around) (x : Option Tree) → tally w (plug a x) ≡ tally w (without a) + tally w (one_place x)
tally_around w (first rest) None = Prim.omega arith
tally_around w (first rest) (Some x) = Prim.omega arith
tally_around w (behind k n b a) x = Prim.omega (arith, tally_around w a x)
tally_around w (behind_none a) x = tally_around w a x
tally_around w (under k n a rest) x = Prim.omega (arith, tally_around w a x)

-- ---- tests

same_test : (b c : Bool) → (b ≡ true → c ≡ true) → (c ≡ true → b ≡ true) → b ≡ c
same_test true c f g = sym (f refl)
same_test false true f g = g refl
same_test false false f g = refl

is_less : (i j : ℕ) → nat_lt i j ≡ true → i < j
is_less i j e = Prim.grind arith

tests_less : (i j : ℕ) → i < j → nat_lt i j ≡ true
tests_less i j h = Prim.grind arith

same_less : (i j m n : ℕ) → (i < j → m < n) → (m < n → i < j) → nat_lt i j ≡ nat_lt m n
same_less i j m n f g = same_test (nat_lt i j) (nat_lt m n) (λ e. tests_less m n (f (is_less i j e))) (λ e. tests_less i j (g (is_less m n e)))

-- ---- at a place

pub left_by_leaving : (a : Around) (x : Option Tree) (r : ℕ) → left (plug a x) (without a) r ≡ nat_lt 0 (ids r (one_place x))
left_by_leaving a x r =
    same_less (ids r (without a)) (ids r (plug a x)) 0 (ids r (one_place x)) (λ h. Prim.omega (arith, h, tally_around (by_id r) a x)) (λ h. Prim.omega (arith, h, tally_around (by_id r) a x))

pub left_by_becoming : (a : Around) (x y : Option Tree) (r : ℕ) → left (plug a x) (plug a y) r ≡ left (one_place x) (one_place y) r
left_by_becoming a x y r =
    same_less (ids r (plug a y)) (ids r (plug a x)) (ids r (one_place y)) (ids r (one_place x)) (λ h. Prim.omega (arith, h, tally_around (by_id r) a x, tally_around (by_id r) a y))
    (λ h. Prim.omega (arith, h, tally_around (by_id r) a x, tally_around (by_id r) a y))

pub left_by_row : (a : counts.Around) (t u : Forest) (r : ℕ) → left (counts.plug a t) (counts.plug a u) r ≡ left t u r
left_by_row a t u r =
    same_less (ids r (counts.plug a u)) (ids r (counts.plug a t)) (ids r u) (ids r t) (λ h. Prim.omega (arith, h, ids_plug r a t u)) (λ h. Prim.omega (arith, h, ids_plug r a t u))

pub rows_keep_marked : (a : counts.Around) (t u : Forest) → TreeEdits (counts.plug a t) (counts.plug a u) → Fits root (counts.plug a t) → (s : Scoping) (before after : ℕ → Bool) → MarksWhatLeft before t u after
    → ExactButMarks s before (counts.plug a t) → ExactButMarks s after (counts.plug a u)
rows_keep_marked a t u edits fits s before after marks =
    edits_keep_marked (counts.plug a t) (counts.plug a u) edits fits s before after (λ r. marks r ∙ ap (λ b. before r || b) (sym (left_by_row a t u r)))

-- ---- marks add up

both_less : (i j m : ℕ) (b c : Bool) → j ≤ i → m ≤ j → (b ≡ true → j < i) → (j < i → b ≡ true) → (c ≡ true → m < j) → (m < j → c ≡ true) → b || c ≡ nat_lt m i
both_less i j m true c h k f g p q = let l : j < i = f refl in sym (tests_less m i (Prim.omega (arith, k, l)))
both_less i j m false true h k f g p q = let l : m < j = p refl in sym (tests_less m i (Prim.omega (arith, h, l)))
both_less i j m false false h k f g p q = same_test false (nat_lt m i) (λ e. absurd (true≢false (sym e))) (λ e. go (below_or_at j i) (below_or_at m j) (is_less m i e))
  where
    go : (j < i) ⊎ (i ≤ j) → (m < j) ⊎ (j ≤ m) → m < i → false ≡ true
    go (inl l) o less = g l
    go (inr l) (inl o) less = q o
    go (inr l) (inr o) less = absurd (Prim.omega (arith, l, o, less))

either : (i j m : ℕ) → j ≤ i → m ≤ j → nat_lt j i || nat_lt m j ≡ nat_lt m i
either i j m h k = both_less i j m (nat_lt j i) (nat_lt m j) h k (is_less j i) (tests_less j i) (is_less m j) (tests_less m j)

or_or : (b c d : Bool) → (b || c) || d ≡ b || (c || d)
or_or true c d = refl
or_or false c d = refl

pub marks_joined : (t u v : Forest) → TreeEdits t u → TreeEdits u v → Fits root t → (before between after : ℕ → Bool) → MarksWhatLeft before t u between → MarksWhatLeft between u v after → MarksWhatLeft before t v after
marks_joined t u v edits more fits before between after left_first left_then r =
    left_then r ∙ ap (λ b. b || left u v r) (left_first r) ∙ or_or (before r) (left t u r) (left u v r)
    ∙ ap (λ b. before r || b) (either (ids r t) (ids r u) (ids r v) (edits_shed t u edits fits r) (edits_shed u v more (tree_edits_fit t u edits fits) r))
