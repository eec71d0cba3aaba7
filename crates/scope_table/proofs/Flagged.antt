-- Scopes that are marked one after another.
use Rattle.std.proofs.Common.{◌≡◌, ◌∙◌, ◌<◌, ◌≤◌, ◌+◌, ℕ, zero, suc, List, [], ◌∷◌, ◌++◌, Bool, true, false, ◌||◌, Option, Some, None, if◌then◌else◌, nat_eq, map, length, get_or, drop, arith, refl, sym, ap, append-nil}
use Rattle.std.proofs.Math.ListN.{set}
use Rattle.std.specs.List.{list_any}
use Rattle.std.specs.Int.Bits.{bit_or, or_add_and}
use Rattle.std.proofs.lemmas.Nat.{and_or_self}
use Rattle.std.proofs.lemmas.Bool.{ne_eqb, eq-eqb}
use Rattle.js_tree.proofs.Children.{child_at, none_at, none_left}
use Rattle.js_syntax.specs.Node.{Tree, row, forest_of}
use Rattle.scope_rules.specs.ScopeFlags as scope_flag
use Rattle.scope_rules.specs.Table.{Scope, Scoping}
use Rattle.scope_table.specs.Reading.{scope_at, scopes_up, ancestors, no_scope}
use Rattle.scope_table.specs.Editing.{with_scope_as}
use Rattle.scope_table.specs.Refreshing.{own_eval, eval_scopes, is_around, with_eval, without_eval, flagged, refreshed, marked, marked_around, cleared}

-- ---- one scope

bits_again : (f m : ℕ) → bit_or (bit_or f m) m ≡ bit_or f m
bits_again f m = let a = or_add_and (bit_or f m) m in let b = and_or_self m f in omega (arith, a, b)

eval_again : (x : Scope) → with_eval (with_eval x) ≡ with_eval x
eval_again x = ap (λ f. record { parent = x.parent; flags = f; bindings = x.bindings }) (bits_again x.flags scope_flag.direct_eval)

-- ---- those that pass a test

abbrev given : (ℕ → Bool) → (next : ℕ) → List Scope → List Scope
given test next [] = []
given test next (x ∷ xs) = (if test next then with_eval x else x) ∷ given test (suc next) xs

abbrev with_given : (ℕ → Bool) → Scoping → Scoping
with_given test s = record s { scopes = given test 0 s.scopes }

given_none : (next : ℕ) (xs : List Scope) → given (λ n. false) next xs ≡ xs
given_none next [] = refl
given_none next (x ∷ xs) = ap (λ ys. x ∷ ys) (given_none (suc next) xs)

given_same : (t u : ℕ → Bool) → ((n : ℕ) → t n ≡ u n) → (next : ℕ) (xs : List Scope) → given t next xs ≡ given u next xs
given_same t u same next [] = refl
given_same t u same next (x ∷ xs) = λ i. (if same next i then with_eval x else x) ∷ given_same t u same (suc next) xs i

either : (a b : Bool) (x : Scope) → (if b then with_eval (if a then with_eval x else x) else (if a then with_eval x else x)) ≡ (if a || b then with_eval x else x)
either true true x = eval_again x
either true false x = refl
either false b x = refl

given_twice : (t u : ℕ → Bool) (next : ℕ) (xs : List Scope) → given u next (given t next xs) ≡ given (λ n. t n || u n) next xs
given_twice t u next [] = refl
given_twice t u next (x ∷ xs) = λ i. either (t next) (u next) x i ∷ given_twice t u (suc next) xs i

given_length : (t : ℕ → Bool) (next : ℕ) (xs : List Scope) → length (given t next xs) ≡ length xs
given_length t next [] = refl
given_length t next (x ∷ xs) = ap suc (given_length t (suc next) xs)

parent_kept : (b : Bool) (x : Scope) → (if b then with_eval x else x).parent ≡ x.parent
parent_kept true x = refl
parent_kept false x = refl

given_parent : (t : ℕ → Bool) (next : ℕ) (xs : List Scope) (n : ℕ) → (get_or (given t next xs) n no_scope).parent ≡ (get_or xs n no_scope).parent
given_parent t next [] n = refl
given_parent t next (x ∷ xs) zero = parent_kept (t next) x
given_parent t next (x ∷ xs) (suc n) = given_parent t (suc next) xs n

given_past : (m next : ℕ) (xs : List Scope) → m < next → given (λ n. nat_eq n m) next xs ≡ xs
given_past m next [] h = refl
given_past m next (x ∷ xs) h = ap (λ b. (if b then with_eval x else x) ∷ given (λ n. nat_eq n m) (suc next) xs) (ne_eqb next m (λ e. omega (arith, e, h))) ∙ ap (λ ys. x ∷ ys) (given_past m (suc next) xs (omega (arith, h)))

-- one that is set
given_one : (m k next : ℕ) (xs : List Scope) → m ≡ next + k → set xs k (with_eval (get_or xs k no_scope)) ≡ given (λ n. nat_eq n m) next xs
given_one m k next [] is = refl
given_one m zero next (x ∷ xs) is =
    ap (λ ys. with_eval x ∷ ys) (sym (given_past m (suc next) xs (omega (arith, is)))) ∙ sym (ap (λ b. (if b then with_eval x else x) ∷ given (λ n. nat_eq n m) (suc next) xs) (eq-eqb next m (omega (arith, is))))
given_one m (suc k) next (x ∷ xs) is =
    ap (λ ys. x ∷ ys) (given_one m k (suc next) xs (omega (arith, is))) ∙ sym (ap (λ b. (if b then with_eval x else x) ∷ given (λ n. nat_eq n m) (suc next) xs) (ne_eqb next m (λ e. omega (arith, e, is))))

-- ---- some, one after another

marked_given : (ns : List ℕ) (s : Scoping) → marked ns s ≡ with_given (λ n. list_any (nat_eq n) ns) s
marked_given [] s = ap (λ xs. record s { scopes = xs }) (sym (given_none 0 s.scopes))
marked_given (m ∷ ns) s =
    marked_given ns (with_scope_as m with_eval s)
    ∙ ap (λ xs. record s { scopes = given (λ n. list_any (nat_eq n) ns) 0 xs }) (given_one m m 0 s.scopes (omega arith))
    ∙ ap (λ xs. record s { scopes = xs }) (given_twice (λ n. nat_eq n m) (λ n. list_any (nat_eq n) ns) 0 s.scopes)

-- ---- what is around a scope does not change

chains_same : (s t : Scoping) → ((n : ℕ) → (scope_at t n).parent ≡ (scope_at s n).parent) → (most : ℕ) (n : Option ℕ) → scopes_up most t n ≡ scopes_up most s n
chains_same s t same zero n = refl
chains_same s t same (suc most) None = refl
chains_same s t same (suc most) (Some n) = ap (λ xs. n ∷ xs) (ap (scopes_up most t) (same n) ∙ chains_same s t same most (scope_at s n).parent)

ancestors_same : (s t : Scoping) → length t.scopes ≡ length s.scopes → ((n : ℕ) → (scope_at t n).parent ≡ (scope_at s n).parent) → (n : ℕ) → ancestors t n ≡ ancestors s n
ancestors_same s t long same n = ap (λ k. scopes_up k t (Some n)) long ∙ chains_same s t same (length s.scopes) (Some n)

around_same : (s t : Scoping) → ((n : ℕ) → ancestors t n ≡ ancestors s n) → (ms : List ℕ) (n : ℕ) → is_around t ms n ≡ is_around s ms n
around_same s t same [] n = refl
around_same s t same (m ∷ ms) n = λ i. list_any (nat_eq n) (same m i) || around_same s t same ms n i

all_given : (ms : List ℕ) (s : Scoping) → marked_around ms s ≡ with_given (is_around s ms) s
all_given [] s = ap (λ xs. record s { scopes = xs }) (sym (given_none 0 s.scopes))
all_given (m ∷ ms) s =
    let here : ℕ → Bool = λ n. list_any (nat_eq n) (ancestors s m) in
    let t : Scoping = with_given here s in
    let kept : (n : ℕ) → ancestors t n ≡ ancestors s n = ancestors_same s t (given_length here 0 s.scopes) (given_parent here 0 s.scopes) in
    ap (marked_around ms) (marked_given (ancestors s m) s) ∙ all_given ms t
    ∙ ap (λ xs. record s { scopes = xs }) (given_same (is_around t ms) (is_around s ms) (around_same s t kept ms) 0 (given here 0 s.scopes) ∙ given_twice here (is_around s ms) 0 s.scopes)

-- ---- without the bit first

cleared_parent : (xs : List Scope) (n : ℕ) → (get_or (map without_eval xs) n no_scope).parent ≡ (get_or xs n no_scope).parent
cleared_parent [] n = refl
cleared_parent (x ∷ xs) zero = refl
cleared_parent (x ∷ xs) (suc n) = cleared_parent xs n

cleared_length : (xs : List Scope) → length (map without_eval xs) ≡ length xs
cleared_length [] = refl
cleared_length (x ∷ xs) = ap suc (cleared_length xs)

given_flagged : (t : ℕ → Bool) (next : ℕ) (xs : List Scope) → given t next (map without_eval xs) ≡ flagged t next xs
given_flagged t next [] = refl
given_flagged t next (x ∷ xs) = ap (λ ys. (if t next then with_eval (without_eval x) else without_eval x) ∷ ys) (given_flagged t (suc next) xs)

pub all_flagged : (ms : List ℕ) (s : Scoping) → marked_around ms (cleared s) ≡ record s { scopes = flagged (is_around s ms) 0 s.scopes }
all_flagged ms s =
    let kept : (n : ℕ) → ancestors (cleared s) n ≡ ancestors s n = ancestors_same s (cleared s) (cleared_length s.scopes) (cleared_parent s.scopes) in
    all_given ms (cleared s)
    ∙ ap (λ xs. record s { scopes = xs }) (given_same (is_around (cleared s) ms) (is_around s ms) (around_same s (cleared s) kept ms) 0 (map without_eval s.scopes) ∙ given_flagged (is_around s ms) 0 s.scopes)

-- ---- rows of nodes

pub around_joined : (ms ns : List ℕ) (s : Scoping) → marked_around (ms ++ ns) s ≡ marked_around ns (marked_around ms s)
around_joined [] ns s = refl
around_joined (m ∷ ms) ns s = around_joined ms ns (marked (ancestors s m) s)

pub next_child : (ts : List (Option Tree)) (i : ℕ) (x : Option Tree) (t : Tree) (s s1 s2 whole : Scoping) → i < length ts → x ≡ get_or ts i x → x ≡ Some t
    → s1 ≡ marked_around (own_eval t.kind t.note t.below) s → s2 ≡ marked_around (eval_scopes t.below) s1
    → marked_around (eval_scopes (row (drop i ts))) s ≡ whole → marked_around (eval_scopes (row (drop (i + 1) ts))) s2 ≡ whole
next_child ts i x t s s1 s2 whole within at is own below so_far =
    let rest = eval_scopes (row (drop (i + 1) ts)) in
    ap (marked_around rest) (below ∙ ap (marked_around (eval_scopes t.below)) own)
    ∙ sym (around_joined (own_eval t.kind t.note t.below) (eval_scopes t.below ++ rest) s ∙ around_joined (eval_scopes t.below) rest (marked_around (own_eval t.kind t.note t.below) s))
    ∙ sym (ap (λ f. marked_around (eval_scopes f) s) (child_at ts i x t within at is)) ∙ so_far

pub next_none : (ts : List (Option Tree)) (i : ℕ) (x : Option Tree) (s whole : Scoping) → i < length ts → x ≡ get_or ts i x → x ≡ None
    → marked_around (eval_scopes (row (drop i ts))) s ≡ whole → marked_around (eval_scopes (row (drop (i + 1) ts))) s ≡ whole
next_none ts i x s whole within at is so_far = sym (ap (λ f. marked_around (eval_scopes f) s) (none_at ts i x within at is)) ∙ so_far

pub all_children : (ts : List (Option Tree)) (i : ℕ) (s whole : Scoping) → length ts ≤ i → marked_around (eval_scopes (row (drop i ts))) s ≡ whole → s ≡ whole
all_children ts i s whole past so_far = sym (ap (λ f. marked_around (eval_scopes f) s) (none_left ts i past)) ∙ so_far

-- ---- from a scope up, after i of at most n scopes

pub record AreToMark (before now : Scoping) (i n : ℕ) (next : Option ℕ) (whole : Scoping) : Type 0 where
  pub left : ℕ
  pub count : left + i ≡ n
  pub same : (k : ℕ) → (scope_at now k).parent ≡ (scope_at before k).parent
  pub parts : marked (scopes_up left before next) now ≡ whole

none_up : (most : ℕ) (s : Scoping) → scopes_up most s None ≡ []
none_up zero s = refl
none_up (suc most) s = refl

mark_parent : (n : ℕ) (s : Scoping) (k : ℕ) → (scope_at (with_scope_as n with_eval s) k).parent ≡ (scope_at s k).parent
mark_parent n s k = ap (λ xs. (get_or xs k no_scope).parent) (given_one n n 0 s.scopes (omega arith)) ∙ given_parent (λ m. nat_eq m n) 0 s.scopes k

mark_by : (before now after : Scoping) (left i n : ℕ) (next parent : Option ℕ) (at : ℕ) (whole : Scoping) → left + i ≡ n → i < n → next ≡ Some at → after ≡ with_scope_as at with_eval now → parent ≡ (scope_at after at).parent
    → ((k : ℕ) → (scope_at now k).parent ≡ (scope_at before k).parent) → marked (scopes_up left before next) now ≡ whole → AreToMark before after (i + 1) n parent whole
mark_by before now after zero i n next parent at whole count within is step up same parts = absurd (omega (arith, count, within))
mark_by before now after (suc left) i n next parent at whole count within is step up same parts =
    let still : (k : ℕ) → (scope_at after k).parent ≡ (scope_at before k).parent = λ k. ap (λ s. (scope_at s k).parent) step ∙ mark_parent at now k ∙ same k in
    record {
      left = left;
      count = omega (arith, count);
      same = still;
      parts = ap (λ p. marked (scopes_up left before p) after) (up ∙ still at) ∙ ap (marked (scopes_up left before (scope_at before at).parent)) step ∙ sym (ap (λ m. marked (scopes_up (suc left) before m) now) is) ∙ parts;
    }

pub mark_more : (before now after : Scoping) (i n : ℕ) (next parent : Option ℕ) (at : ℕ) (whole : Scoping) → i < n → next ≡ Some at → after ≡ with_scope_as at with_eval now → parent ≡ (scope_at after at).parent
    → AreToMark before now i n next whole → AreToMark before after (i + 1) n parent whole
mark_more before now after i n next parent at whole within is step up r = mark_by before now after r.left i n next parent at whole r.count within is step up r.same r.parts

pub mark_none : (before now : Scoping) (i n : ℕ) (next : Option ℕ) (whole : Scoping) → next ≡ None → AreToMark before now i n next whole → now ≡ whole
mark_none before now i n next whole is r = sym (ap (λ m. marked (scopes_up r.left before m) now) is ∙ ap (λ ns. marked ns now) (none_up r.left before)) ∙ r.parts

end_by : (before now : Scoping) (left i n : ℕ) (next : Option ℕ) (whole : Scoping) → left + i ≡ n → n ≤ i → marked (scopes_up left before next) now ≡ whole → now ≡ whole
end_by before now zero i n next whole count past parts = parts
end_by before now (suc left) i n next whole count past parts = absurd (omega (arith, count, past))

pub mark_end : (before now : Scoping) (i n : ℕ) (next : Option ℕ) (whole : Scoping) → n ≤ i → AreToMark before now i n next whole → now ≡ whole
mark_end before now i n next whole past r = end_by before now r.left i n next whole r.count past r.parts

-- ---- a whole program

pub whole_program : (p : Tree) (s : Scoping) → marked_around (eval_scopes p.below) (marked_around (own_eval p.kind p.note p.below) (cleared s)) ≡ refreshed (forest_of p) s
whole_program p s =
    let own = own_eval p.kind p.note p.below in
    sym (around_joined own (eval_scopes p.below ++ []) (cleared s) ∙ ap (λ ns. marked_around ns (marked_around own (cleared s))) (append-nil (eval_scopes p.below)))
    ∙ all_flagged (eval_scopes (forest_of p)) s
