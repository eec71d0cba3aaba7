-- Where what uses something that is gone leaves with it, no function's declaration refers to a symbol more often than it did.
use Rattle.std.proofs.Common.{◌≡◌, ◌∙◌, ◌≤◌, ◌+◌, ℕ, zero, suc, Bool, true, false, List, [], ◌∷◌, Option, Some, None, true≢false, refl, sym, ap, ap₂, subst, arith, eq-eqb}
use Rattle.std.specs.Prelude.{cond, nat_eq}
use Rattle.std.specs.Str.{bytes_eq}
use Rattle.js_syntax.specs.declared.node_kind.NodeKind.{NodeKind as Kind}
use Rattle.js_syntax.specs.declared.node_kind.NodeKind.TheVariants.{Program as program, ReferenceName as reference_name, TargetName as target_name}
use Rattle.js_syntax.specs.declared.scalar.SourceType.{SourceType}
use Rattle.js_syntax.specs.Node.{Forest, Note, nothing, node, absent, joined}
use Rattle.scope_rules.specs.declared.layer.Part.{Part}
use Rattle.scope_rules.specs.Table.{Scoping}
use Rattle.scope_counts.specs.Counts.{Decl, declared, declared_by_program, parts_in, Bound, Weight, free, within, within_parts, weights_inside, own, refs, refs_of, is_id, same_symbol, symbol_with, uses, ids}
use Rattle.scope_counts.specs.Edits.{plug, Rooted, below_program, beside_program, program_with, place_in, SameScopes, in_list, Capped}
use Rattle.scope_counts.specs.Losing.{is_gone, gone_with, gone_by, Thins, LosesOutward, UsersLeave, DeclaresGone, Plain, left}
use Rattle.scope_counts.specs.Scopes.{EachUse, EachReference, IsEntryOf, ExactButMarks}
use Rattle.scope_counts.specs.Walks.{carried, carried_of, SameEntries, to_symbol, is_owner, owner_in, calls}
use Rattle.scope_counts.proofs.Edits.{small_cond, less}
use Rattle.scope_counts.proofs.Tables.{none_with, id_stands, each_referring, referring_each, ids_with, referring_with}
use Rattle.scope_counts.proofs.Leaving.{leaving, leaving_loses, part_thins}
use Rattle.scope_counts.proofs.Carrying.{program_says, leaving_lowers, part_lowers, same_owners, no_owner}

-- ---- two weights, at one name and id

module _ (R : ℕ → ℕ → Type 0) (x : List ℕ) (q : Option ℕ) (g h : Bound) (each : (n : Option ℕ) → R (g n q) (h n q)) where
  within_both : (ds : List Decl) (w v : Weight) → R (w x q) (v x q) → R (within g ds w x q) (within h ds v x q)
  within_both [] w v r = r
  within_both (d ∷ ds) w v r = go (bytes_eq d.name x) (within_both ds w v r)
    where
      go : (b : Bool) → R (within g ds w x q) (within h ds v x q) → R (cond b (g d.symbol q) (within g ds w x q)) (cond b (h d.symbol q) (within h ds v x q))
      go true later = each d.symbol
      go false later = later

  parts_both : (k : Kind) (t : Forest) (w v : Weight) → R (w x q) (v x q) → (ps : List Part) → R (within_parts g ps k t w x q) (within_parts h ps k t v x q)
  parts_both k t w v r [] = r
  parts_both k t w v r (p ∷ ps) = within_both (declared p k t) (within_parts g ps k t w) (within_parts h ps k t v) (parts_both k t w v r ps)

  inside_both : (k : Kind) (t : Forest) (w v : Weight) → R (w x q) (v x q) → (i : ℕ) → R (weights_inside g k t w i x q) (weights_inside h k t v i x q)
  inside_both k t w v r i = parts_both k t w v r (parts_in k t i)

-- ---- walks

module _ {S : Type 0} (counts : S → Bool) (enters : S → Kind → (below : Forest) → S) where
  own_less : (b : Bool) (w v : Weight) (n : Note) (k : Kind) → ((x : List ℕ) (q : Option ℕ) → w x q ≤ v x q) → cond b (own w n k) 0 ≤ cond b (own v n k) 0
  own_less true w v n (reference_name x) h = h x n.id
  own_less true w v n (target_name x) h = h x n.id
  own_less true w v n k h = Prim.omega arith
  own_less false w v n k h = Prim.omega arith

  -- what counts less at each name counts less
  carried_less : (g h : Bound) → ((n q : Option ℕ) → g n q ≤ h n q) → (ws vs : ℕ → Weight) (at : ℕ) (st : S) (t : Forest) → ((i : ℕ) (x : List ℕ) (q : Option ℕ) → ws i x q ≤ vs i x q)
      → carried counts enters g ws at st t ≤ carried counts enters h vs at st t
  carried_less g h each ws vs at st nothing r = Prim.omega arith
  carried_less g h each ws vs at st (absent t) r = carried_less g h each ws vs (suc at) st t r
  carried_less g h each ws vs at st (node k n b t) r =
      Prim.omega (
        arith,
        own_less (counts st) (ws at) (vs at) n k (r at),
        carried_less g h each (weights_inside g k b (ws at)) (weights_inside h k b (vs at)) 0 (enters st k b) b
            (λ i x q. inside_both (λ m n. m ≤ n) x q g h (λ n. each n q) k b (ws at) (vs at) (r at x q) i),
        carried_less g h each ws vs (suc at) st t r,
      )

  module _ (P : Option ℕ → Type 0) (g h : Bound) (each : (n q : Option ℕ) → P q → g n q ≡ h n q) where
    own_same : (b : Bool) (w v : Weight) (n : Note) (k : Kind) → ((x : List ℕ) (q : Option ℕ) → P q → w x q ≡ v x q) → EachUse (λ x q. P q) n k → cond b (own w n k) 0 ≡ cond b (own v n k) 0
    own_same true w v n (reference_name x) r e = r x n.id e
    own_same true w v n (target_name x) r e = r x n.id e
    own_same true w v n k r e = refl
    own_same false w v n k r e = refl

    -- where each reference counts the same
    carried_same : (ws vs : ℕ → Weight) (at : ℕ) (st : S) (t : Forest) → ((i : ℕ) (x : List ℕ) (q : Option ℕ) → P q → ws i x q ≡ vs i x q) → EachReference (λ x q. P q) t
        → carried counts enters g ws at st t ≡ carried counts enters h vs at st t
    carried_same ws vs at st nothing r e = refl
    carried_same ws vs at st (absent t) r e = carried_same ws vs (suc at) st t r e
    carried_same ws vs at st (node k n b t) r e =
        ap₂ (λ (i j : ℕ). i + j)
        (ap₂ (λ (i j : ℕ). i + j) (own_same (counts st) (ws at) (vs at) n k (r at) e.0)
        (carried_same (weights_inside g k b (ws at)) (weights_inside h k b (vs at)) 0 (enters st k b) b
        (λ i x q p. inside_both (λ m n. m ≡ n) x q g h (λ n. each n q p) k b (ws at) (vs at) (r at x q p) i) e.1))
        (carried_same ws vs (suc at) st t r e.2)

-- ---- which references stay

abbrev stays : (t u : Forest) → Option ℕ → ℕ
stays t u None = 0
stays t u (Some r) = cond (left t u r) 0 1

stays_once : (t u : Forest) (q : Option ℕ) → stays t u q ≤ 1
stays_once t u None = Prim.omega arith
stays_once t u (Some r) = small_cond (left t u r) 0 1 1 (Prim.omega arith) (Prim.omega arith)

at_most_one : (s : ℕ) (n : Option ℕ) (m : ℕ) → m ≤ 1 → same_symbol s n m ≤ same_symbol s n 1
at_most_one s None m h = Prim.omega arith
at_most_one s (Some z) m h = go (nat_eq s z)
  where
    go : (b : Bool) → cond b m 0 ≤ cond b 1 0
    go true = h
    go false = Prim.omega arith

-- ---- what uses something that is gone

module _ (gone : ℕ → Bool) (t u : Forest) {S : Type 0} (counts : S → Bool) (enters : S → Kind → (below : Forest) → S) where
  abbrev of_staying : Bound
  of_staying = gone_with gone (stays t u)

  -- the weight of an id that stays
  abbrev Agrees : Weight → (ℕ → Weight) → Type 0
  Agrees w ws = (r : ℕ) → left t u r ≡ false → (x : List ℕ) → w x (Some r) ≡ ws r x (Some r)

  same_gone : (r : ℕ) → left t u r ≡ false → (n : Option ℕ) → gone_with gone (stays t u) n (Some r) ≡ gone_by gone r n (Some r)
  same_gone r e n =
      let staying : stays t u (Some r) ≡ 1 = ap (λ b. cond b 0 1) e in
      let itself : is_id r (Some r) ≡ 1 = ap (λ b. cond b 1 0) (eq-eqb r r refl) in
      ap (λ (m : ℕ). cond (is_gone gone n) m 0) (staying ∙ sym itself)

  none_at : (w : Weight) (ws : ℕ → Weight) → Capped (stays t u) w → Agrees w ws → (x : List ℕ) (q : Option ℕ) → ((r : ℕ) → q ≡ Some r → left t u r ≡ false → ws r x (Some r) ≡ 0) → w x q ≡ 0
  none_at w ws small agrees x None h = Prim.omega (arith, small x None)
  none_at w ws small agrees x (Some r) h = go (left t u r) refl
    where
      go : (b : Bool) → left t u r ≡ b → w x (Some r) ≡ 0
      go true e = let gone_id : stays t u (Some r) ≡ 0 = ap (λ b. cond b 0 1) e in Prim.omega (arith, small x (Some r), gone_id)
      go false e = agrees r e x ∙ h r refl e

  own_none : (b : Bool) (w : Weight) (ws : ℕ → Weight) (n : Note) (k : Kind) → Capped (stays t u) w → Agrees w ws → ((r : ℕ) → left t u r ≡ false → own (ws r) n k ≡ 0) → cond b (own w n k) 0 ≡ 0
  own_none true w ws n (reference_name x) small agrees h = none_at w ws small agrees x n.id (λ r e l. subst (λ q. ws r x q ≡ 0) e (h r l))
  own_none true w ws n (target_name x) small agrees h = none_at w ws small agrees x n.id (λ r e l. subst (λ q. ws r x q ≡ 0) e (h r l))
  own_none true w ws n k small agrees h = refl
  own_none false w ws n k small agrees h = refl

  gone_small : (n q : Option ℕ) → gone_with gone (stays t u) n q ≤ stays t u q
  gone_small n q = small_cond (is_gone gone n) (stays t u q) 0 (stays t u q) (Prim.omega arith) (Prim.omega arith)

  carried_none : (wg : ℕ → Weight) (ws : ℕ → ℕ → Weight) (at : ℕ) (st : S) (f : Forest) → ((i : ℕ) → Capped (stays t u) (wg i)) → ((i : ℕ) → Agrees (wg i) (λ r. ws r i))
      → ((r : ℕ) → left t u r ≡ false → refs (gone_by gone r) (ws r) at f ≡ 0) → carried counts enters of_staying wg at st f ≡ 0
  carried_none wg ws at st nothing small agrees h = refl
  carried_none wg ws at st (absent f) small agrees h = carried_none wg ws (suc at) st f small agrees h
  carried_none wg ws at st (node k n b f) small agrees h =
      Prim.omega (
        arith,
        own_none (counts st) (wg at) (λ r. ws r at) n k (small at) (agrees at) (λ r e. Prim.omega (arith, h r e)),
        carried_none (weights_inside of_staying k b (wg at)) (λ r. weights_inside (gone_by gone r) k b (ws r at)) 0 (enters st k b) b
            (λ i x q. inside_both (λ m n. m ≤ stays t u q) x q of_staying of_staying (λ n. gone_small n q) k b (wg at) (wg at) (small at x q) i)
            (λ i r e x. inside_both (λ m n. m ≡ n) x (Some r) of_staying (gone_by gone r) (same_gone r e) k b (wg at) (ws r at) (agrees at r e x) i) (λ r e. Prim.omega (arith, h r e)),
        carried_none wg ws (suc at) st f small agrees (λ r e. Prim.omega (arith, h r e)),
      )

  program_none : (source : SourceType) (n : Note) (below beside : Forest) (st : S) → ((r : ℕ) → left t u r ≡ false → refs_of (gone_by gone r) (node (program source) n below beside) ≡ 0)
      → carried_of counts enters of_staying st (node (program source) n below beside) ≡ 0
  program_none source n below beside st h =
      let ds = declared_by_program below beside in
      let no : Capped (stays t u) free = λ x q. Prim.omega arith in
      Prim.omega (
        arith,
        carried_none (λ at. within of_staying ds free) (λ r at. within (gone_by gone r) ds free) 0 st below
            (λ i x q. within_both (λ m n. m ≤ stays t u q) x q of_staying of_staying (λ n. gone_small n q) ds free free (no x q))
            (λ i r e x. within_both (λ m n. m ≡ n) x (Some r) of_staying (gone_by gone r) (same_gone r e) ds free free refl) (λ r e. Prim.omega (arith, h r e)),
        carried_none (λ at. free) (λ r at. free) 1 st beside (λ i. no) (λ i r e x. refl) (λ r e. Prim.omega (arith, h r e)),
      )

  none_of_program : (p : Rooted) (f : Forest) (st : S) → ((r : ℕ) → left t u r ≡ false → refs_of (gone_by gone r) (program_with p f) ≡ 0)
      → carried_of counts enters of_staying st (program_with p f) ≡ 0
  none_of_program (below_program source n a beside) f st h = program_none source n (plug a f) beside st h
  none_of_program (beside_program source n below a) f st h = program_none source n below (plug a f) st h

-- ---- a program

module _ {S : Type 0} (counts : S → Bool) (enters : S → Kind → (below : Forest) → S) (g h : Bound) where
  less_of : ((n q : Option ℕ) → g n q ≤ h n q) → (source : SourceType) (n : Note) (below beside : Forest) (st : S)
      → carried_of counts enters g st (node (program source) n below beside) ≤ carried_of counts enters h st (node (program source) n below beside)
  less_of each source n below beside st =
      let ds = declared_by_program below beside in
      Prim.omega (
        arith,
        carried_less counts enters g h each (λ at. within g ds free) (λ at. within h ds free) 0 st below (λ i x q. within_both (λ m n. m ≤ n) x q g h (λ n. each n q) ds free free (Prim.omega arith)),
        carried_less counts enters g h each (λ at. free) (λ at. free) 1 st beside (λ i x q. Prim.omega arith),
      )

  less_with : ((n q : Option ℕ) → g n q ≤ h n q) → (p : Rooted) (f : Forest) (st : S) → carried_of counts enters g st (program_with p f) ≤ carried_of counts enters h st (program_with p f)
  less_with each (below_program source n a beside) f st = less_of each source n (plug a f) beside st
  less_with each (beside_program source n below a) f st = less_of each source n below (plug a f) st

  same_of : (P : Option ℕ → Type 0) → ((n q : Option ℕ) → P q → g n q ≡ h n q) → (source : SourceType) (n : Note) (below beside : Forest) (st : S)
      → EachReference (λ x q. P q) (node (program source) n below beside)
      → carried_of counts enters g st (node (program source) n below beside) ≡ carried_of counts enters h st (node (program source) n below beside)
  same_of P each source n below beside st e =
      let ds = declared_by_program below beside in
      ap₂ (λ (i j : ℕ). i + j)
      (carried_same counts enters P g h each (λ at. within g ds free) (λ at. within h ds free) 0 st below (λ i x q r. within_both (λ m n. m ≡ n) x q g h (λ n. each n q r) ds free free refl) e.1)
      (carried_same counts enters P g h each (λ at. free) (λ at. free) 1 st beside (λ i x q r. refl) e.2)

  same_with : (P : Option ℕ → Type 0) → ((n q : Option ℕ) → P q → g n q ≡ h n q) → (p : Rooted) (f : Forest) (st : S) → EachReference (λ x q. P q) (program_with p f)
      → carried_of counts enters g st (program_with p f) ≡ carried_of counts enters h st (program_with p f)
  same_with P each (below_program source n a beside) f st e = same_of P each source n (plug a f) beside st e
  same_with P each (beside_program source n below a) f st e = same_of P each source n below (plug a f) st e

-- ---- an edit

module _ (gone : ℕ → Bool) (p : Rooted) (listed : Bool) (t u : Forest) (h : Thins gone listed t u) (leave : UsersLeave gone (program_with p t) t u) (s : Scoping) (before : ℕ → Bool) (x : ExactButMarks s before (program_with p t)) where
  -- each reference that is there still has stayed
  all_stay : EachReference (λ x q. stays t u q ≡ 1) (program_with p u)
  all_stay = each_referring (λ x q. stays t u q ≡ 1) (program_with p u) (λ d k.
      let e = referring_each (λ y q. IsEntryOf s (program_with p t) y q) (program_with p t) x.entered d (referring_with p t u h.references d k) in
      ap (stays t u) e.has_id ∙ ap (λ b. cond b 0 1) (kept e.id (id_stands e.id (program_with p u) d k e.has_id)))
    where
      kept : (id : ℕ) → 1 ≤ ids id (program_with p u) → left t u id ≡ false
      kept id k = go (left t u id) refl
        where
          go : (b : Bool) → left t u id ≡ b → left t u id ≡ false
          go true e = absurd (Prim.omega (arith, less (ids id u) (ids id t) e, k, x.once id, ids_with id p t u))
          go false e = e

  -- no reference that stays is bound to what is gone
  none_bound : (r : ℕ) → left t u r ≡ false → refs_of (gone_by gone r) (program_with p t) ≡ 0
  none_bound r e = none_with gone r p t (λ z g. none (uses z r (program_with p t)) (λ k. leave z g r k))
    where
      none : (m : ℕ) → (1 ≤ m → left t u r ≡ true) → m ≡ 0
      none zero f = refl
      none (suc m) f = absurd (true≢false (sym (f (Prim.omega arith)) ∙ e))

  pub falls : {S : Type 0} (counts : S → Bool) (enters : S → Kind → (below : Forest) → S) (st : S) (z : ℕ)
      → (carried_of counts enters (gone_with gone (stays t u)) st (program_with p t) ≡ 0 → carried_of counts enters (symbol_with z (stays t u)) st (program_with p u) ≤ carried_of counts enters
      (symbol_with z (stays t u)) st (program_with p t))
      → carried_of counts enters (to_symbol z) st (program_with p u) ≤ carried_of counts enters (to_symbol z) st (program_with p t)
  falls counts enters st z says =
      Prim.omega (
        arith,
        says (none_of_program gone t u counts enters p t st none_bound),
        same_with counts enters (symbol_with z (stays t u)) (to_symbol z) (λ q. stays t u q ≡ 1) (λ n q e. ap (same_symbol z n) e) p u st all_stay,
        less_with counts enters (symbol_with z (stays t u)) (to_symbol z) (λ n q. at_most_one z n (stays t u q) (stays_once t u q)) p t st,
      )

pub exact_calls_without : (gone : ℕ → Bool) (o : Option ℕ) (z : ℕ) (p : Rooted) (k : Kind) (i : Note) (b rest : Forest) → DeclaresGone gone k i b
    → SameScopes (place_in p) (node k i b rest) rest → in_list false (place_in p) ≡ true
    → UsersLeave gone (program_with p (node k i b rest)) (node k i b rest) rest → (s : Scoping) (before : ℕ → Bool) → ExactButMarks s before (program_with p (node k i b rest)) → calls o z
    (program_with p rest) ≤ calls o z (program_with p (node k i b rest))
exact_calls_without gone o z p k i b rest h scopes is leave s before x =
    let t = node k i b rest in
    falls gone p true t rest (leaving gone k i b rest) leave s before x (is_owner o) owner_in None z
    (program_says gone z (stays t rest) (is_owner o) owner_in (λ m n. n ≤ m) (λ x y z w m n e f h. Prim.omega (arith, e, f, h)) p true t rest
    (leaving_lowers gone z (stays t rest) (is_owner o) owner_in k i b rest) (leaving_loses gone k i b rest h) scopes
    (same_owners o (place_in p) t rest false is) (λ e. is) None)

pub exact_calls_with_part : (gone : ℕ → Bool) (o : Option ℕ) (z : ℕ) (p : Rooted) (k l : Kind) (i j : Note) (b v w r : Forest) → Plain k
    → LosesOutward gone false (node k i (joined v (node l j b w)) r) (node l j b r)
    → SameScopes (place_in p) (node k i (joined v (node l j b w)) r) (node l j b r) → SameEntries (is_owner o) owner_in (place_in p) (node k i (joined v (node l j b w)) r) (node l j b r)
    → UsersLeave gone (program_with p (node k i (joined v (node l j b w)) r)) (node k i (joined v (node l j b w)) r) (node l j b r) → (s : Scoping) (before : ℕ → Bool) → ExactButMarks s before
    (program_with p (node k i (joined v (node l j b w)) r))
    → calls o z (program_with p (node l j b r)) ≤ calls o z (program_with p (node k i (joined v (node l j b w)) r))
exact_calls_with_part gone o z p k l i j b v w r plain outward scopes entries leave s before x =
    let whole = joined v (node l j b w) in
    let t = node k i whole r in
    let u = node l j b r in
    falls gone p false t u (part_thins gone k l i j b v w r plain) leave s before x (is_owner o) owner_in None z
    (program_says gone z (stays t u) (is_owner o) owner_in (λ m n. n ≤ m) (λ x y z w m n e f h. Prim.omega (arith, e, f, h)) p false t u
    (part_lowers gone z (stays t u) (is_owner o) owner_in k l i j b v w r plain (no_owner k plain whole)) outward scopes entries (λ e. absurd (true≢false (sym e))) None)
