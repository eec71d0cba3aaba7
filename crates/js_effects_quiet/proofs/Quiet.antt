-- The acts that silent expressions are made of are quiet, or keep it.
use Rattle.std.proofs.Common.{◌≡◌, ◌∙◌, ◌⊎◌, inl, inr, ℕ, suc, ◌<◌, List, [], Bool, true, false, Option, if◌then◌else◌, refl, ap, arith}
use Rattle.std.proofs.lemmas.Bool.{ne_eqb}
use Rattle.js_meaning.specs.Value.{Text, Value, undef}
use Rattle.js_meaning.specs.Trace.{Ending}
use Rattle.js_meaning.specs.State.{State, Cell, Completion, normal, gives, gives_all, refers, breaks, continues, returns, throws, Out, goes, stops, M, more, go_on, bind, done, stop, unknown, give, choose, if_gives, with_value, if_gives_all, with_all, alloc, read, store, put, identity, get_import}
use Rattle.js_effects_quiet.specs.Quiet.{OnlyAllocates, Silently, goes_on, is_uncovered, Quietly, IsValue, IsList, Quiet}

-- allocation

allocates_nothing : (s : State) → OnlyAllocates s s
allocates_nothing s = record { budget = refl; fresh = omega arith; store = λ i h. refl; globals = refl; imports = refl; shown = refl; moves = refl; exports = refl; stars = refl }

allocates_both : {s z y : State} → OnlyAllocates s z → OnlyAllocates z y → OnlyAllocates s y
allocates_both {s} {z} {y} a b = record {
  budget = b.budget ∙ a.budget;
  fresh = let f = a.fresh in let g = b.fresh in omega arith;
  store = λ i h. b.store i (let f = a.fresh in omega arith) ∙ a.store i h;
  globals = b.globals ∙ a.globals;
  imports = b.imports ∙ a.imports;
  shown = b.shown ∙ a.shown;
  moves = b.moves ∙ a.moves;
  exports = b.exports ∙ a.exports;
  stars = b.stars ∙ a.stars;
}

allocates_identity : (s : State) → OnlyAllocates s (record s { fresh = suc s.fresh })
allocates_identity s = record { budget = refl; fresh = omega arith; store = λ i h. refl; globals = refl; imports = refl; shown = refl; moves = refl; exports = refl; stars = refl }

less_than_itself : (j i : ℕ) → j < i → j ≡ i → ⊥
less_than_itself j i h e = omega arith

put_elsewhere : (f : ℕ → Cell) (i : ℕ) (c : Cell) (j : ℕ) → j < i → put f i c j ≡ f j
put_elsewhere f i c j h = ap (λ b. if b then c else f j) (ne_eqb j i (λ e. less_than_itself j i h e))

allocates_cell : (s : State) (c : Cell) → OnlyAllocates s (record s { fresh = suc s.fresh; store = put s.store s.fresh c })
allocates_cell s c = record { budget = refl; fresh = omega arith; store = λ i h. put_elsewhere s.store s.fresh c i h; globals = refl; imports = refl; shown = refl; moves = refl; exports = refl; stars = refl }

allocates_filled : (s : State) (f : ℕ → Cell) (c : Cell) → ((i : ℕ) → i < s.fresh → f i ≡ s.store i) → OnlyAllocates s (record s { fresh = suc (suc s.fresh); store = put f s.fresh c })
allocates_filled s f c h = record { budget = refl; fresh = omega arith; store = λ i l. put_elsewhere f s.fresh c i l ∙ h i l; globals = refl; imports = refl; shown = refl; moves = refl; exports = refl; stars = refl }

-- what a later state can do silently, an earlier one can
silently_after : {Wanted : Completion → Type 0} {s z : State} {o : Out} → OnlyAllocates s z → Silently Wanted z o → Silently Wanted s o
silently_after a (goes_on b w) = goes_on (allocates_both a b) w
silently_after a is_uncovered = is_uncovered

silently_more : {Wanted : Completion → Type 0} {s : State} {o : Out} → Silently Wanted s o → Silently Wanted s (more [] o)
silently_more (goes_on a w) = goes_on a w
silently_more is_uncovered = is_uncovered

-- acts

pub quiet_done : {Wanted : Completion → Type 0} (c : Completion) → Wanted c → Quietly Wanted (done c)
unfolding done
quiet_done c w = record { at = λ s. goes_on (allocates_nothing s) w }

pub quiet_unknown : {Wanted : Completion → Type 0} → Quietly Wanted unknown
unfolding stop
quiet_unknown = record { at = λ s. is_uncovered }

pub quiet_bind : {First Wanted : Completion → Type 0} {m : M} {k : Completion → M} → Quietly First m → ((c : Completion) → First c → Quietly Wanted (k c)) → Quietly Wanted (bind m k)
unfolding bind
quiet_bind {First} {Wanted} {m} {k} h g = record { at = λ s. after s (m s) (h.at s) }
  where
    after : (s : State) (o : Out) → Silently First s o → Silently Wanted s (go_on o k)
    after s _ (goes_on {z = z} {c = c} a w) = silently_more (silently_after a ((g c w).at z))
    after s _ is_uncovered = is_uncovered

pub quiet_choose : {Wanted : Completion → Type 0} {m n : M} (b : Bool) → Quietly Wanted m → Quietly Wanted n → Quietly Wanted (choose b m n)
unfolding choose
quiet_choose true h g = h
quiet_choose false h g = g

pub quiet_read : {Wanted : Completion → Type 0} {k : Cell → M} (i : ℕ) → ((c : Cell) → Quietly Wanted (k c)) → Quietly Wanted (read i k)
unfolding read
quiet_read i h = record { at = λ s. (h (s.store i)).at s }

pub quiet_import : {Wanted : Completion → Type 0} {k : Option Value → M} (source x : Text) → ((o : Option Value) → Quietly Wanted (k o)) → Quietly Wanted (get_import source x k)
unfolding get_import
quiet_import source x h = record { at = λ s. (h (s.imports source x)).at s }

pub quiet_identity : {Wanted : Completion → Type 0} {k : ℕ → M} → ((i : ℕ) → Quietly Wanted (k i)) → Quietly Wanted (identity k)
unfolding identity
quiet_identity h = record { at = λ s. silently_after (allocates_identity s) ((h s.fresh).at _) }

-- a value, and on with it

pub quiet_value : {Wanted : Completion → Type 0} {m : M} {k : Value → M} → Quiet m → ((v : Value) → Quietly Wanted (k v)) → Quietly Wanted (with_value m k)
quiet_value {Wanted} {m} {k} h g = quiet_bind h after
  where
    after : (c : Completion) → IsValue c → Quietly Wanted (if_gives (λ v r. k v) c)
    after (gives v r) w = g v
    after normal w = absurd w
    after (gives_all vs) w = absurd w
    after (refers p) w = absurd w
    after (breaks o) w = absurd w
    after (continues o) w = absurd w
    after (returns v) w = absurd w
    after (throws v) w = absurd w

pub quiet_all : {Wanted : Completion → Type 0} {m : M} {k : List Value → M} → Quietly IsList m → ((vs : List Value) → Quietly Wanted (k vs)) → Quietly Wanted (with_all m k)
quiet_all {Wanted} {m} {k} h g = quiet_bind h after
  where
    after : (c : Completion) → IsList c → Quietly Wanted (if_gives_all k c)
    after (gives_all vs) w = g vs
    after (gives v r) w = absurd w
    after normal w = absurd w
    after (refers p) w = absurd w
    after (breaks o) w = absurd w
    after (continues o) w = absurd w
    after (returns v) w = absurd w
    after (throws v) w = absurd w

pub quiet_give : (v : Value) → Quiet (give v)
quiet_give v = quiet_done (gives v undef) tt

-- A new cell that is given a value at once is no cell that was there.
pub quiet_fresh : {Wanted : Completion → Type 0} (c : Cell) (f : ℕ → ℕ → Cell → Cell) (g : ℕ → ℕ → Completion) → ((i j : ℕ) → Wanted (g i j)) → Quietly Wanted (alloc c (λ i. identity (λ j. read i (λ old. store i (f i j old) (done (g i j))))))
unfolding alloc identity read store done
quiet_fresh c f g w = record { at = λ s. goes_on (allocates_filled s (put s.store s.fresh c) _ (put_elsewhere s.store s.fresh c)) (w _ _) }

-- what quiet says, by equations

abbrev EndsSo : State → Out → Type 0
EndsSo s o = (o ≡ stops [] Ending.uncovered) ⊎ ((v r : Value) × (z : State) × (o ≡ goes [] z (gives v r)) × OnlyAllocates s z)

ends_with : {s z : State} (c : Completion) → OnlyAllocates s z → IsValue c → EndsSo s (goes [] z c)
ends_with {z = z} (gives v r) a w = inr (v, r, z, refl, a)
ends_with normal a w = absurd w
ends_with (gives_all vs) a w = absurd w
ends_with (refers p) a w = absurd w
ends_with (breaks o) a w = absurd w
ends_with (continues o) a w = absurd w
ends_with (returns v) a w = absurd w
ends_with (throws v) a w = absurd w

ends_so : (s : State) (o : Out) → Silently IsValue s o → EndsSo s o
ends_so s _ (goes_on {c = c} a w) = ends_with c a w
ends_so s _ is_uncovered = inl refl

pub quiet_says : (m : M) → Quiet m → (s : State) → EndsSo s (m s)
quiet_says m h s = ends_so s (m s) (h.at s)
