-- Walks that carry something: what they count where nodes leave and where a part stands for a whole.
use Rattle.std.proofs.Common.{◌≡◌, ◌∙◌, ◌≤◌, ◌+◌, ℕ, suc, Bool, true, false, not, ◌&&◌, Option, Some, None, nat_eq, refl, sym, ap, ap₂, subst, arith, true≢false}
use Rattle.std.specs.Prelude.{cond}
use Rattle.js_syntax.specs.declared.node_kind.NodeKind.{NodeKind as Kind}
use Rattle.js_syntax.specs.declared.node_kind.NodeKind.TheVariants.{Program as program, Function as function, BindingName as binding_name}
use Rattle.js_syntax.specs.declared.kind.FunctionKind.TheVariants as function_kind
use Rattle.js_syntax.specs.declared.scalar.SourceType.{SourceType}
use Rattle.js_syntax.specs.Node.{Forest, Note, nothing, node, absent, joined}
use Rattle.scope_laws.specs.Lists.{is_list}
use Rattle.scope_counts.specs.Counts.{declared_by_program, Bound, Weight, free, within, weights_inside, own, refs, refs_of, symbol_with}
use Rattle.scope_counts.specs.Edits.{Around, here, behind, behind_none, under, plug, Rooted, below_program, beside_program, program_with, place_in, SameScopes, in_list, Capped, Even}
use Rattle.scope_counts.specs.Losing.{gone_with, LosesAround, Related, LosesOutward, DeclaresGone, Plain}
use Rattle.scope_counts.specs.Walks.{carried, carried_of, SameEntries, to_symbol, to_gone, mark_of, is_owner, owner_in, calls, calls_gone, lives_in, living}
use Rattle.scope_counts.proofs.Edits.{even_weights, within_capped, inside_capped}
use Rattle.scope_counts.proofs.Losing.{own_related, within_related, inside_related, below_related}
use Rattle.scope_counts.proofs.Leaving.{all_lose, program_loses, leaving_loses, even_plain, weights_plain}

-- ---- what stays

own_counted : (b : Bool) (wg w v : Weight) (n : Note) (k : Kind) → Related wg w v → cond b (own wg n k) 0 ≡ 0 → cond b (own w n k) 0 ≡ cond b (own v n k) 0
own_counted true wg w v n k related e = own_related wg w v n k related e
own_counted false wg w v n k related e = refl

module _ (gone : ℕ → Bool) (s : ℕ) (c : Option ℕ → ℕ) {S : Type 0} (counts : S → Bool) (enters : S → Kind → (below : Forest) → S) where
  abbrev pub lost : (ws : ℕ → Weight) → (at : ℕ) → S → Forest → ℕ
  lost ws at st t = carried counts enters (gone_with gone c) ws at st t

  abbrev pub counted : (ws : ℕ → Weight) → (at : ℕ) → S → Forest → ℕ
  counted ws at st t = carried counts enters (symbol_with s c) ws at st t

  abbrev AllCapped : (ℕ → Weight) → Type 0
  AllCapped ws = (i : ℕ) → Capped c (ws i)

  abbrev AllRelated : (wg ws vs : ℕ → Weight) → Type 0
  AllRelated wg ws vs = (i : ℕ) → Related (wg i) (ws i) (vs i)

  pub carried_related : (wg ws vs : ℕ → Weight) (at : ℕ) (st : S) (t : Forest) → AllCapped ws → AllCapped vs → AllRelated wg ws vs → lost wg at st t ≡ 0 → counted ws at st t ≡ counted vs at st t
  carried_related wg ws vs at st nothing small tiny related e = refl
  carried_related wg ws vs at st (absent t) small tiny related e = carried_related wg ws vs (suc at) st t small tiny related e
  carried_related wg ws vs at st (node k n b t) small tiny related e =
      ap₂ (λ (i j : ℕ). i + j)
      (ap₂ (λ (i j : ℕ). i + j) (own_counted (counts st) (wg at) (ws at) (vs at) n k (related at) (Prim.omega (arith, e)))
      (carried_related (weights_inside (gone_with gone c) k b (wg at)) (weights_inside (symbol_with s c) k b (ws at)) (weights_inside (symbol_with s c) k b (vs at)) 0 (enters st k b) b
      (inside_capped s c k b (ws at) (small at)) (inside_capped s c k b (vs at) (tiny at))
      (below_related gone s c k b (wg at) (ws at) (vs at) (small at) (tiny at) (related at)) (Prim.omega (arith, e))))
      (carried_related wg ws vs (suc at) st t small tiny related (Prim.omega (arith, e)))

  -- ---- what stands around

  -- what is said of the numbers of the old and the new row
  module _ (R : ℕ → ℕ → Type 0) (among : (x y z w m n : ℕ) → x ≡ y → z ≡ w → R m n → R (x + m + z) (y + n + w)) where
    abbrev pub Says : (listed : Bool) (t u : Forest) → Type 0
    Says listed t u = (wg ws vs : ℕ → Weight) (at : ℕ) (st : S) → (listed ≡ true → Even wg) → (listed ≡ true → Even ws) → (listed ≡ true → Even vs) → AllCapped ws → AllCapped vs → AllRelated wg ws vs
        → lost wg at st t ≡ 0 → R (counted ws at st t) (counted vs at st u)

    behind_it : (x y m n : ℕ) → x ≡ y → R m n → R (x + m) (y + n)
    behind_it x y m n e h =
        let left : x + m + 0 ≡ x + m = Prim.omega arith in
        let right : y + n + 0 ≡ y + n = Prim.omega arith in
        subst (λ k. R (x + m) k) right (subst (λ k. R k (y + n + 0)) left (among x y 0 0 m n e refl h))

    pub around_says : (listed : Bool) (t u : Forest) → Says listed t u → (a : Around) → LosesAround gone a t u → SameEntries counts enters a t u → (row : Bool)
        → (listed ≡ true → in_list row a ≡ true) → Says row (plug a t) (plug a u)
    around_says listed t u h here loses same row is wg ws vs at st eg ew ev small tiny related none = h wg ws vs at st (λ l. eg (is l)) (λ l. ew (is l)) (λ l. ev (is l)) small tiny related none
    around_says listed t u h (behind k n b a) loses same row is wg ws vs at st eg ew ev small tiny related none =
        behind_it (cond (counts st) (own (ws at) n k) 0 + counted (weights_inside (symbol_with s c) k b (ws at)) 0 (enters st k b) b)
        (cond (counts st) (own (vs at) n k) 0 + counted (weights_inside (symbol_with s c) k b (vs at)) 0 (enters st k b) b)
        (counted ws (suc at) st (plug a t)) (counted vs (suc at) st (plug a u))
        (ap₂ (λ (i j : ℕ). i + j) (own_counted (counts st) (wg at) (ws at) (vs at) n k (related at) (Prim.omega (arith, none)))
        (carried_related (weights_inside (gone_with gone c) k b (wg at)) (weights_inside (symbol_with s c) k b (ws at)) (weights_inside (symbol_with s c) k b (vs at)) 0 (enters st k b) b
        (inside_capped s c k b (ws at) (small at)) (inside_capped s c k b (vs at) (tiny at))
        (below_related gone s c k b (wg at) (ws at) (vs at) (small at) (tiny at) (related at)) (Prim.omega (arith, none))))
        (around_says listed t u h a loses same row is wg ws vs (suc at) st eg ew ev small tiny related (Prim.omega (arith, none)))
    around_says listed t u h (behind_none a) loses same row is wg ws vs at st eg ew ev small tiny related none =
        around_says listed t u h a loses same row is wg ws vs (suc at) st eg ew ev small tiny related none
    around_says listed t u h (under k n a rest) loses same row is wg ws vs at st eg ew ev small tiny related none =
        let inner = around_says listed t u h a loses.2 same.1 (is_list k) is (weights_inside (gone_with gone c) k (plug a t) (wg at)) (weights_inside (symbol_with s c) k (plug a t) (ws at))
        (weights_inside (symbol_with s c) k (plug a u) (vs at)) 0 (enters st k (plug a t))
        (even_weights (gone_with gone c) k (plug a t) (wg at)) (even_weights (symbol_with s c) k (plug a t) (ws at)) (even_weights (symbol_with s c) k (plug a u) (vs at))
        (inside_capped s c k (plug a t) (ws at) (small at)) (inside_capped s c k (plug a u) (vs at) (tiny at))
        (inside_related gone s c k (plug a t) (plug a u) (wg at) (ws at) (vs at) loses.0 loses.1 (small at) (tiny at) (related at)) (Prim.omega (arith, none)) in
        among (cond (counts st) (own (ws at) n k) 0) (cond (counts st) (own (vs at) n k) 0) (counted ws (suc at) st rest) (counted vs (suc at) st rest)
        (counted (weights_inside (symbol_with s c) k (plug a t) (ws at)) 0 (enters st k (plug a t)) (plug a t))
        (counted (weights_inside (symbol_with s c) k (plug a u) (vs at)) 0 (enters st k (plug a u)) (plug a u))
        (own_counted (counts st) (wg at) (ws at) (vs at) n k (related at) (Prim.omega (arith, none)))
        (carried_related wg ws vs (suc at) st rest small tiny related (Prim.omega (arith, none)))
        (subst (λ e. R (counted (weights_inside (symbol_with s c) k (plug a t) (ws at)) 0 (enters st k (plug a t)) (plug a t))
        (counted (weights_inside (symbol_with s c) k (plug a u) (vs at)) 0 e (plug a u))) (same.0 st) inner)

    before_it : (x y m n : ℕ) → x ≡ y → R m n → R (m + x) (n + y)
    before_it x y m n e h =
        let left : 0 + m + x ≡ m + x = Prim.omega arith in
        let right : 0 + n + y ≡ n + y = Prim.omega arith in
        subst (λ k. R (m + x) k) right (subst (λ k. R k (0 + n + y)) left (among 0 0 x y m n refl e h))

    no_row : {P : Type 0} → false ≡ true → P
    no_row f = absurd (true≢false (sym f))

    no_weight : Capped c free
    no_weight x q = Prim.omega arith

    pub program_says : (p : Rooted) (listed : Bool) (t u : Forest) → Says listed t u → LosesOutward gone listed t u → SameScopes (place_in p) t u
        → SameEntries counts enters (place_in p) t u → (listed ≡ true → in_list false (place_in p) ≡ true) → (st : S)
        → carried_of counts enters (gone_with gone c) st (program_with p t) ≡ 0 → R (carried_of counts enters (symbol_with s c) st (program_with p t))
        (carried_of counts enters (symbol_with s c) st (program_with p u))
    program_says (below_program source n a beside) listed t u h outward scopes entries is st none =
        let ds = declared_by_program (plug a t) beside in
        let es = declared_by_program (plug a u) beside in
        let out = counted (λ at. free) 1 st beside in
        before_it out out (counted (λ at. within (symbol_with s c) ds free) 0 st (plug a t)) (counted (λ at. within (symbol_with s c) es free) 0 st (plug a u)) refl
        (around_says listed t u h a (all_lose gone listed t u outward a scopes false is) entries false is (λ at. within (gone_with gone c) ds free) (λ at. within (symbol_with s c) ds free)
        (λ at. within (symbol_with s c) es free) 0 st no_row no_row no_row
        (λ i. within_capped s c ds free no_weight) (λ i. within_capped s c es free no_weight)
        (λ i. within_related gone s c ds es free free free (program_loses gone listed t u outward (below_program source n a beside) scopes is) no_weight no_weight (λ x q z. refl))
        (Prim.omega (arith, none)))
    program_says (beside_program source n below a) listed t u h outward scopes entries is st none =
        let ds = declared_by_program below (plug a t) in
        let es = declared_by_program below (plug a u) in
        behind_it (counted (λ at. within (symbol_with s c) ds free) 0 st below) (counted (λ at. within (symbol_with s c) es free) 0 st below) (counted (λ at. free) 1 st (plug a t))
        (counted (λ at. free) 1 st (plug a u))
        (carried_related (λ at. within (gone_with gone c) ds free) (λ at. within (symbol_with s c) ds free) (λ at. within (symbol_with s c) es free) 0 st below
        (λ i. within_capped s c ds free no_weight) (λ i. within_capped s c es free no_weight)
        (λ i. within_related gone s c ds es free free free (program_loses gone listed t u outward (beside_program source n below a) scopes is) no_weight no_weight (λ x q z. refl))
        (Prim.omega (arith, none)))
        (around_says listed t u h a (all_lose gone listed t u outward a scopes false is) entries false is (λ at. free) (λ at. free) (λ at. free) 1 st no_row no_row no_row (λ i. no_weight)
        (λ i. no_weight) (λ i x q z. refl) (Prim.omega (arith, none)))

  -- ---- the edits

  carried_even : (g : Bound) (ws : ℕ → Weight) → Even ws → (i j : ℕ) (st : S) (t : Forest) → carried counts enters g ws i st t ≡ carried counts enters g ws j st t
  carried_even g ws even i j st nothing = refl
  carried_even g ws even i j st (absent t) = carried_even g ws even (suc i) (suc j) st t
  carried_even g ws even i j st (node k n b t) =
      ap₂ (λ (w : Weight) (m : ℕ). cond (counts st) (own w n k) 0 + carried counts enters g (weights_inside g k b w) 0 (enters st k b) b + m) (even i j) (carried_even g ws even (suc i) (suc j) st t)

  carried_joined : (g : Bound) (ws : ℕ → Weight) → Even ws → (i : ℕ) (st : S) (t u : Forest)
      → carried counts enters g ws i st (joined t u) ≡ carried counts enters g ws i st t + carried counts enters g ws i st u
  carried_joined g ws even i st nothing u = Prim.omega arith
  carried_joined g ws even i st (absent t) u = Prim.omega (arith, carried_joined g ws even (suc i) st t u, carried_even g ws even (suc i) i st u)
  carried_joined g ws even i st (node k n b t) u = Prim.omega (arith, carried_joined g ws even (suc i) st t u, carried_even g ws even (suc i) i st u)

  -- what stands behind a node that leaves
  rest_related : (k : Kind) (n : Note) (b t : Forest) (wg ws vs : ℕ → Weight) (at : ℕ) (st : S) → Even wg → Even vs → AllCapped ws → AllCapped vs → AllRelated wg ws vs
      → lost wg at st (node k n b t) ≡ 0 → counted ws (suc at) st t ≡ counted vs at st t
  rest_related k n b t wg ws vs at st eg ev small tiny related none =
      carried_related wg ws vs (suc at) st t small tiny related (Prim.omega (arith, none)) ∙ carried_even (symbol_with s c) vs ev (suc at) at st t

  pub leaving_lowers : (k : Kind) (n : Note) (b rest : Forest) → Says (λ m n. n ≤ m) (λ x y z w m n e f h. Prim.omega (arith, e, f, h)) true (node k n b rest) rest
  leaving_lowers k n b rest wg ws vs at st eg ew ev small tiny related none = Prim.omega (arith, rest_related k n b rest wg ws vs at st (eg refl) (ev refl) small tiny related none)

  -- where nothing is counted in it
  pub leaving_keeps : (k : Kind) (n : Note) (b rest : Forest) → ((w : Weight) → own w n k ≡ 0) → ((ws : ℕ → Weight) (st : S) → counted ws 0 (enters st k b) b ≡ 0)
      → Says (λ m n. m ≡ n) (λ x y z w m n e f h. Prim.omega (arith, e, f, h)) true (node k n b rest) rest
  leaving_keeps k n b rest refers inner wg ws vs at st eg ew ev small tiny related none =
      Prim.omega (arith, own_none (counts st), inner (weights_inside (symbol_with s c) k b (ws at)) st, rest_related k n b rest wg ws vs at st (eg refl) (ev refl) small tiny related none)
    where
      own_none : (d : Bool) → cond d (own (ws at) n k) 0 ≡ 0
      own_none true = refers (ws at)
      own_none false = refl

  pub part_lowers : (k l : Kind) (n i : Note) (b p q r : Forest) → Plain k → ((st : S) → enters st k (joined p (node l i b q)) ≡ st)
      → Says (λ m n. n ≤ m) (λ x y z w m n e f h. Prim.omega (arith, e, f, h)) false (node k n (joined p (node l i b q)) r) (node l i b r)
  part_lowers k l n i b p q r plain enter wg ws vs at st eg ew ev small tiny related none =
      let g = symbol_with s c in
      let h = gone_with gone c in
      let whole = joined p (node l i b q) in
      let inner : ℕ → Weight = weights_inside g k whole (ws at) in
      let gone_inner : ℕ → Weight = weights_inside h k whole (wg at) in
      let same_weight : inner 0 ≡ ws at = weights_plain g k whole (ws at) plain 0 in
      let same_gone : gone_inner 0 ≡ wg at = weights_plain h k whole (wg at) plain 0 in
      let entered : carried counts enters g inner 0 (enters st k whole) whole ≡ carried counts enters g inner 0 st whole = ap (λ e. carried counts enters g inner 0 e whole) (enter st) in
      let gone_entered : carried counts enters h gone_inner 0 (enters st k whole) whole ≡ carried counts enters h gone_inner 0 st whole =
      ap (λ e. carried counts enters h gone_inner 0 e whole) (enter st) in
      let one : carried counts enters g inner 0 st (node l i b nothing) ≡ carried counts enters g ws at st (node l i b nothing) =
      ap (λ (w : Weight). cond (counts st) (own w i l) 0 + carried counts enters g (weights_inside g l b w) 0 (enters st l b) b + 0) same_weight in
      let gone_one : carried counts enters h gone_inner 0 st (node l i b nothing) ≡ carried counts enters h wg at st (node l i b nothing) =
      ap (λ (w : Weight). cond (counts st) (own w i l) 0 + carried counts enters h (weights_inside h l b w) 0 (enters st l b) b + 0) same_gone in
      let split = carried_joined g inner (even_plain g k whole (ws at) plain) 0 st p (node l i b q) in
      let gone_split = carried_joined h gone_inner (even_plain h k whole (wg at) plain) 0 st p (node l i b q) in
      let rest_same : counted ws (suc at) st r ≡ counted vs (suc at) st r = carried_related wg ws vs (suc at) st r small tiny related (Prim.omega (arith, none)) in
      let node_same : counted ws at st (node l i b nothing) ≡ counted vs at st (node l i b nothing) =
      carried_related wg ws vs at st (node l i b nothing) small tiny related (Prim.omega (arith, none, gone_entered, gone_split, gone_one)) in
      Prim.omega (arith, entered, split, one, rest_same, node_same)

-- ---- calls

-- a list is no function
no_list : (row : Bool) (k : Kind) (outer : Option ℕ) (t u : Forest) → is_list k ≡ true → owner_in outer k t ≡ owner_in outer k u
no_list row (function how pure) outer t u e = absurd (true≢false (sym e))
no_list row k outer t u e = refl

mark_stays : (a : Around) (t u : Forest) (k : Kind) (outer : Option ℕ) → in_list (is_list k) a ≡ true → owner_in outer k (plug a t) ≡ owner_in outer k (plug a u)
mark_stays here t u k outer is = no_list true k outer t u is
mark_stays (behind l n b a) t u (function function_kind.Declaration pure) outer is = first l
  where
    first : (l : Kind) → mark_of outer (node l n b (plug a t)) ≡ mark_of outer (node l n b (plug a u))
    first (binding_name x) = refl
    first l = refl
mark_stays (behind l n b a) t u k outer is = refl
mark_stays (behind_none a) t u (function function_kind.Declaration pure) outer is = refl
mark_stays (behind_none a) t u k outer is = refl
mark_stays (under l n a rest) t u (function function_kind.Declaration pure) outer is = first l
  where
    first : (l : Kind) → mark_of outer (node l n (plug a t) rest) ≡ mark_of outer (node l n (plug a u) rest)
    first (binding_name x) = refl
    first l = refl
mark_stays (under l n a rest) t u k outer is = refl

pub same_owners : (o : Option ℕ) (a : Around) (t u : Forest) (row : Bool) → in_list row a ≡ true → SameEntries (is_owner o) owner_in a t u
same_owners o here t u row is = tt
same_owners o (behind k n b a) t u row is = same_owners o a t u row is
same_owners o (behind_none a) t u row is = same_owners o a t u row is
same_owners o (under k n a rest) t u row is = (λ outer. mark_stays a t u k outer is, same_owners o a t u (is_list k) is)

pub no_owner : (k : Kind) → Plain k → (t : Forest) (outer : Option ℕ) → owner_in outer k t ≡ outer
no_owner (function how pure) plain t outer = absurd (true≢false (plain.opens_none t))
no_owner k plain t outer = refl

pub calls_without : (gone : ℕ → Bool) (o : Option ℕ) (s : ℕ) (p : Rooted) (k : Kind) (i : Note) (b rest : Forest) → DeclaresGone gone k i b
    → SameScopes (place_in p) (node k i b rest) rest → in_list false (place_in p) ≡ true
    → calls_gone gone o (program_with p (node k i b rest)) ≡ 0 → calls o s (program_with p rest) ≤ calls o s (program_with p (node k i b rest))
calls_without gone o s p k i b rest h scopes is none =
    program_says gone s (λ q. 1) (is_owner o) owner_in (λ m n. n ≤ m) (λ x y z w m n e f h. Prim.omega (arith, e, f, h)) p true (node k i b rest) rest
    (leaving_lowers gone s (λ q. 1) (is_owner o) owner_in k i b rest)
    (leaving_loses gone k i b rest h) scopes (same_owners o (place_in p) (node k i b rest) rest false is) (λ e. is) None none

pub calls_with_part : (gone : ℕ → Bool) (o : Option ℕ) (s : ℕ) (p : Rooted) (k l : Kind) (i j : Note) (b v w r : Forest) → Plain k
    → LosesOutward gone false (node k i (joined v (node l j b w)) r) (node l j b r)
    → SameScopes (place_in p) (node k i (joined v (node l j b w)) r) (node l j b r) → SameEntries (is_owner o) owner_in (place_in p) (node k i (joined v (node l j b w)) r) (node l j b r)
    → calls_gone gone o (program_with p (node k i (joined v (node l j b w)) r)) ≡ 0 → calls o s (program_with p (node l j b r)) ≤ calls o s (program_with p (node k i (joined v (node l j b w)) r))
calls_with_part gone o s p k l i j b v w r plain outward scopes entries none =
    let whole = joined v (node l j b w) in
    program_says gone s (λ q. 1) (is_owner o) owner_in (λ m n. n ≤ m) (λ x y z w m n e f h. Prim.omega (arith, e, f, h)) p false (node k i whole r) (node l j b r)
    (part_lowers gone s (λ q. 1) (is_owner o) owner_in k l i j b v w r plain (no_owner k plain whole))
    outward scopes entries (λ e. absurd (true≢false (sym e))) None none

-- what is bound to one symbol
pub one_gone : (z : ℕ) (o : Option ℕ) (t : Forest) → calls_gone (nat_eq z) o t ≡ calls o z t
one_gone z o t = ap (λ (g : Bound). carried_of (is_owner o) owner_in g None t) (λ i. λ n q. same n q i)
  where
    same : (n q : Option ℕ) → to_gone (nat_eq z) n q ≡ to_symbol z n q
    same None q = refl
    same (Some m) q = refl

-- ---- what is held dead

pub dead_counts : (skips : Kind → Forest → Bool) (g : Bound) (ws : ℕ → Weight) (at : ℕ) (t : Forest) → carried (λ lives. lives) (lives_in skips) g ws at false t ≡ 0
dead_counts skips g ws at nothing = refl
dead_counts skips g ws at (absent t) = dead_counts skips g ws (suc at) t
dead_counts skips g ws at (node k n b t) = Prim.omega (arith, dead_counts skips g (weights_inside g k b (ws at)) 0 b, dead_counts skips g ws (suc at) t)

all_live : (g : Bound) (ws : ℕ → Weight) (at : ℕ) (t : Forest) → carried (λ lives. lives) (lives_in (λ k below. false)) g ws at true t ≡ refs g ws at t
all_live g ws at nothing = refl
all_live g ws at (absent t) = all_live g ws (suc at) t
all_live g ws at (node k n b t) = ap₂ (λ (i j : ℕ). own (ws at) n k + i + j) (all_live g (weights_inside g k b (ws at)) 0 b) (all_live g ws (suc at) t)

pub nothing_skipped : (g : Bound) (source : SourceType) (n : Note) (t rest : Forest) → living (λ k below. false) g (node (program source) n t rest) ≡ refs_of g (node (program source) n t rest)
nothing_skipped g source n t rest = ap₂ (λ (i j : ℕ). i + j) (all_live g (λ at. within g (declared_by_program t rest) free) 0 t) (all_live g (λ at. free) 1 rest)

pub living_without : (skips : Kind → Forest → Bool) (gone : ℕ → Bool) (s : ℕ) (c : Option ℕ → ℕ) (p : Rooted) (k : Kind) (i : Note) (b rest : Forest) → skips k b ≡ true
    → ((w : Weight) → own w i k ≡ 0) → DeclaresGone gone k i b
    → SameScopes (place_in p) (node k i b rest) rest → SameEntries (λ lives. lives) (lives_in skips) (place_in p) (node k i b rest) rest → in_list false (place_in p) ≡ true → living skips
    (gone_with gone c) (program_with p (node k i b rest)) ≡ 0
    → living skips (symbol_with s c) (program_with p (node k i b rest)) ≡ living skips (symbol_with s c) (program_with p rest)
living_without skips gone s c p k i b rest dead refers h scopes entries is none =
    program_says gone s c (λ lives. lives) (lives_in skips) (λ m n. m ≡ n) (λ x y z w m n e f h. Prim.omega (arith, e, f, h)) p true (node k i b rest) rest
    (leaving_keeps gone s c (λ lives. lives) (lives_in skips) k i b rest refers
    (λ ws st. ap (λ e. carried (λ lives. lives) (lives_in skips) (symbol_with s c) ws 0 e b) (dies st) ∙ dead_counts skips (symbol_with s c) ws 0 b))
    (leaving_loses gone k i b rest h) scopes entries (λ e. is) true none
  where
    dies : (st : Bool) → (st && not (skips k b)) ≡ false
    dies true = ap not dead
    dies false = refl
