-- A module that declares the names of its imports in another order does the same.
use Rattle.std.proofs.Common.{◌≡◌, ◌∙◌, ◌⊎◌, inl, inr, ℕ, zero, suc, List, [], ◌∷◌, ◌++◌, length, Some, refl, sym, ap, subst, true≢false}
use mathlib.Core.Path.{fun_ext}
use Rattle.std.specs.Prelude.{Bool, true, false, if◌then◌else◌}
use Rattle.std.specs.Str.{bytes_eq}
use Rattle.std.proofs.lemmas.Slice.Eq.{bytes_eq-Decides}
use Rattle.js_syntax.specs.Node.{Note, Forest}
use Rattle.js_meaning.specs.Value.{Text, Slot, Bound, bound, Env}
use Rattle.js_meaning.specs.State.{M}
use Rattle.js_meaning.specs.Scope.{Way, waiting, ready, linked, left_out, Decl, decl, look, with_slot, declare}
use Rattle.js_meaning.specs.Kept.{Refined}
use Rattle.js_meaning_near.specs.Names.{Names, Decls}
use Rattle.js_meaning_near.specs.Near.{module_of}
use Rattle.js_meaning_near.specs.Reordered.{IsLinked, Reordered, as_before, further_on, two_change, one_by_one, ReorderedModule, reordered_module}
use Rattle.js_meaning_near.proofs.Worlds.{World, Sub}
use Rattle.js_meaning_near.proofs.Relations.{At, Envs, Acts}
use Rattle.js_meaning_near.proofs.Scopes.{no_envs, declare_acts}
use Rattle.js_meaning_near.proofs.Contexts.{modules_act, acts_refine}

-- ---- two names of an environment in the other order, so many names further out, unless they are one name

abbrev changed_if : Bool → Bound → Bound → Env → Env
changed_if true b c env = b ∷ c ∷ env
changed_if false b c env = c ∷ b ∷ env

abbrev changed_at : ℕ → Env → Env
changed_at zero (bound x s ∷ bound y z ∷ env) = changed_if (bytes_eq x y) (bound x s) (bound y z) env
changed_at (suc n) (b ∷ env) = b ∷ changed_at n env
changed_at n env = env

not_both : (x y q : Text) → bytes_eq x y ≡ false → bytes_eq x q ≡ true → bytes_eq y q ≡ true → ⊥
not_both x y q apart e f = true≢false (sym ((bytes_eq-Decides x y).1 ((bytes_eq-Decides x q).0 e ∙ sym ((bytes_eq-Decides y q).0 f))) ∙ apart)

either_first : {X : Type 0} (x y q : Text) (s z : X) (o : X) (b c : Bool) → bytes_eq x y ≡ false → bytes_eq x q ≡ b → bytes_eq y q ≡ c → (if c then z else (if b then s else o)) ≡ (if b then s else (if c then z else o))
either_first x y q s z o true true apart e f = absurd (not_both x y q apart e f)
either_first x y q s z o true false apart e f = refl
either_first x y q s z o false true apart e f = refl
either_first x y q s z o false false apart e f = refl

look_changed_if : (x y : Text) (s z : Slot) (env : Env) (q : Text) (same : Bool) → bytes_eq x y ≡ same → look (changed_if same (bound x s) (bound y z) env) q ≡ look (bound x s ∷ bound y z ∷ env) q
look_changed_if x y s z env q true e = refl
look_changed_if x y s z env q false e = either_first x y q (Some s) (Some z) (look env q) (bytes_eq x q) (bytes_eq y q) e refl refl

-- a look tells no difference
look_changed : (n : ℕ) (env : Env) (q : Text) → look (changed_at n env) q ≡ look env q
look_changed zero [] q = refl
look_changed zero (bound x s ∷ []) q = refl
look_changed zero (bound x s ∷ bound y z ∷ env) q = look_changed_if x y s z env q (bytes_eq x y) refl
look_changed (suc n) [] q = refl
look_changed (suc n) (bound x s ∷ env) q = ap (λ o. if bytes_eq x q then Some s else o) (look_changed n env q)

-- ---- what declarations in another order do

-- how far out a name lies behind so many others and these declarations
abbrev further_out : ℕ → List Decl → ℕ
further_out n [] = n
further_out n (d ∷ ds) = further_out (suc n) ds

reached : (front : Env) (x y : Text) (s z : Slot) (env : Env) → bytes_eq x y ≡ false → changed_at (length front) (front ++ (bound x s ∷ bound y z ∷ env)) ≡ front ++ (bound y z ∷ bound x s ∷ env)
reached [] x y s z env apart = ap (λ b. changed_if b (bound x s) (bound y z) env) apart
reached (b ∷ front) x y s z env apart = ap (λ l. b ∷ l) (reached front x y s z env apart)

module _ (x y : Text) (s z : Slot) (apart : bytes_eq x y ≡ false) where
  around_changed : (ds : List Decl) (front env : Env) (k : Env → M)
      → declare ds (front ++ (bound y z ∷ bound x s ∷ env)) k ≡ declare ds (front ++ (bound x s ∷ bound y z ∷ env)) (λ e. k (changed_at (further_out (length front) ds) e))
  unfolding declare
  around_changed [] front env k = ap k (sym (reached front x y s z env apart))
  around_changed (decl u way ∷ ds) front env k = ap (λ f. with_slot way f) (fun_ext (λ t. around_changed ds (bound u t ∷ front) env k))

-- of two ways of which one takes no cell it doesn't matter which comes first
either_way : (v w : Way) (f : Slot → Slot → M) → IsLinked v ⊎ IsLinked w → with_slot w (λ z. with_slot v (λ s. f s z)) ≡ with_slot v (λ s. with_slot w (λ z. f s z))
either_way (linked source name) w f h = refl
either_way (waiting b) (linked source name) f h = refl
either_way ready (linked source name) f h = refl
either_way left_out (linked source name) f h = refl
either_way (waiting b) (waiting c) f h = absurd (elim h [ inl i ↦ i | inr i ↦ i ])
either_way (waiting b) ready f h = absurd (elim h [ inl i ↦ i | inr i ↦ i ])
either_way (waiting b) left_out f h = absurd (elim h [ inl i ↦ i | inr i ↦ i ])
either_way ready (waiting c) f h = absurd (elim h [ inl i ↦ i | inr i ↦ i ])
either_way ready ready f h = absurd (elim h [ inl i ↦ i | inr i ↦ i ])
either_way ready left_out f h = absurd (elim h [ inl i ↦ i | inr i ↦ i ])
either_way left_out (waiting c) f h = absurd (elim h [ inl i ↦ i | inr i ↦ i ])
either_way left_out ready f h = absurd (elim h [ inl i ↦ i | inr i ↦ i ])
either_way left_out left_out f h = absurd (elim h [ inl i ↦ i | inr i ↦ i ])

-- the environment in the order of the other declarations
abbrev ordered : {ds es : List Decl} → Reordered ds es → Env → Env
ordered as_before env = env
ordered (further_on r) env = ordered r env
ordered (two_change {ds = ds} apart h) env = changed_at (further_out 0 ds) env
ordered (one_by_one r q) env = ordered q (ordered r env)

look_ordered : {ds es : List Decl} (r : Reordered ds es) (env : Env) (q : Text) → look (ordered r env) q ≡ look env q
look_ordered as_before env q = refl
look_ordered (further_on r) env q = look_ordered r env q
look_ordered (two_change {ds = ds} apart h) env q = look_changed (further_out 0 ds) env q
look_ordered (one_by_one r p) env q = look_ordered p (ordered r env) q ∙ look_ordered r env q

declare_ordered : {ds es : List Decl} (r : Reordered ds es) (env : Env) (k : Env → M) → declare es env k ≡ declare ds env (λ e. k (ordered r e))
unfolding declare
declare_ordered as_before env k = refl
declare_ordered (further_on {d = decl x way} r) env k = ap (λ f. with_slot way f) (fun_ext (λ s. declare_ordered r (bound x s ∷ env) k))
declare_ordered (two_change {x = x} {y = y} {v = v} {w = w} {ds = ds} apart h) env k =
    either_way v w (λ s z. declare ds (bound x s ∷ bound y z ∷ env) k) h
    ∙ ap (λ f. with_slot v f) (fun_ext (λ s. ap (λ f. with_slot w f) (fun_ext (λ z. around_changed y x z s (sym_apart x y apart) ds [] env k))))
  where
    sym_apart : (x y : Text) → bytes_eq x y ≡ false → bytes_eq y x ≡ false
    sym_apart x y e = by (bytes_eq y x) refl
      where
        by : (b : Bool) → bytes_eq y x ≡ b → bytes_eq y x ≡ false
        by true f = absurd (true≢false (sym ((bytes_eq-Decides x y).1 (sym ((bytes_eq-Decides y x).0 f))) ∙ e))
        by false f = f
declare_ordered (one_by_one r q) env k = declare_ordered q env k ∙ declare_ordered r env (λ e. k (ordered q e))

envs_ordered : {w : World} {t : Names} {e f : Env} {ds es : List Decl} (r : Reordered ds es) → Envs w t e f → Envs w t e (ordered r f)
envs_ordered {w = w} {t = t} {e = e} {f = f} r h = record { at = λ x. subst (λ o. At w (t x) (look e x) o) (sym (look_ordered r f x)) (h.at x) }

reordered_declare : {w : World} {st t : Names} {cs ds es : List Decl} {e f : Env} {j k : Env → M} → Decls st cs ds t → Reordered ds es → Envs w st e f → ((w2 : World) (e f : Env) → Sub w w2 → Envs w2 t e f → Acts w2 (j e) (k f)) → Acts w (declare cs e j) (declare es f k)
reordered_declare {w = w} {cs = cs} {e = e} {f = f} {j = j} {k = k} d r h b =
    subst (λ m. Acts w (declare cs e j) m) (sym (declare_ordered r f k)) (declare_acts d h (λ w2 e2 f2 g i. b w2 e2 (ordered r f2) g (envs_ordered r i)))

pub reordered_refines : {a b : Forest} (n m i j : Note) → ReorderedModule a b → Refined (module_of n m a) (module_of i j b)
reordered_refines {a = a} {b = b} n m i j (reordered_module d r x y s q c) = acts_refine a b n m i j (λ E h l. modules_act E h l (record { declared = reordered_declare d r no_envs }) x y s q c)
