-- What the host sees and names is the same in both runs.
use Rattle.std.proofs.Common.{◌≡◌, ℕ, zero, suc, List, [], ◌∷◌, ◌++◌, length, Option, Some, None, refl, ap, subst}
use Rattle.js_meaning.specs.Value.{Text, Slot, Value, Content, Given, given, given_own, Sort, Shown, again, first, Parts, shows, shows_at}
use Rattle.js_meaning.specs.Trace.{Act, ShownExport, exports_value, exports_uninitialised, exports_import, ShownExports, Ending}
use Rattle.js_meaning.specs.State.{State, Cell, Export, Out, M}
use Rattle.js_meaning.specs.Show.{has_identity, number_of, After, show_own, show_in, show_content, show, show_all, show_cell, show_export, show_exports, with_shown_exports, emit, nth, named, if_some, resolve, resolve_all, resolve_maybe}
use Rattle.js_meaning_near.proofs.Worlds.{Rule, an_object, both, World, In, Sub, same, later, Links, ids_same}
use Rattle.js_meaning_near.proofs.Relations.{HoldsCell, SameSlot, same_local, same_import, same_arguments, Same, same_plain, same_closure, same_object, same_array, same_error, SameContent, same_empty, same_element, same_property, SameOpt, same_none, same_some, SameAll, all_nil, all_cons, SameCell, same_cell, SameExports, no_exports, an_export, States, Follows, Acts, same_later}
use Rattle.js_meaning_near.proofs.Acts.{acts_later, stop_acts, unknown_acts, read_acts, with_exports_acts, put_event_acts}

pub identity_same : {w : World} {m n i j : ℕ} {v u : Value} → Links w m n → In (both i j an_object) w → Same w v u → has_identity v i ≡ has_identity u j
identity_same g l same_plain = refl
identity_same g l (same_closure k b r) = ids_same g l k
identity_same g l (same_object k c) = ids_same g l k
identity_same g l (same_array k c) = ids_same g l k
identity_same g l (same_error k) = ids_same g l k

number_same : {w : World} {m n i j : ℕ} {vs us : List Value} (q : ℕ) → Links w m n → In (both i j an_object) w → SameAll w vs us → number_of i vs q ≡ number_of j us q
number_same q g l all_nil = refl
number_same q g l (all_cons r rs) = rw (identity_same g l r, number_same (suc q) g l rs) refl

length_same : {w : World} {vs us : List Value} → SameAll w vs us → length vs ≡ length us
length_same all_nil = refl
length_same (all_cons r rs) = ap suc (length_same rs)

added_same : {w : World} {vs us : List Value} {v u : Value} → SameAll w vs us → Same w v u → SameAll w (vs ++ v ∷ []) (us ++ u ∷ [])
added_same all_nil r = all_cons r all_nil
added_same (all_cons q qs) r = all_cons q (added_same qs r)

-- what goes on alike with what was shown
abbrev FollowsAfter : {A : Type 0} → World → After A → After A → Type 0
FollowsAfter {A} w k l = (x : A) (vs us : List Value) → SameAll w vs us → Follows w (k x vs) (l x us)

own_follows : {w : World} {v u : Value} {vs us : List Value} {content held : List Value → After Parts → Out} {k l : After Shown} (o : Option ℕ) (sort : Sort) → Same w v u → SameAll w vs us → ((f g : After Parts) (vs us : List Value) → SameAll w vs us → FollowsAfter w f g → Follows w (content vs f) (held us g)) → FollowsAfter w k l → Follows w (show_own o v sort vs content k) (show_own o u sort us held l)
own_follows (Some n) sort r q c h = h (again n) _ _ q
own_follows {w = w} {v = v} {u = u} {vs = vs} {us = us} {content = content} {held = held} {k = k} {l = l} None sort r q c h =
    subst (λ n. Follows w (content (vs ++ v ∷ []) (λ parts. k (first (length vs) sort parts))) (held (us ++ u ∷ []) (λ parts. l (first n sort parts)))) (length_same q) (c _ _ _ _ (added_same q r) (λ parts vs us q. h _ vs us q))

own_follows_at : {w : World} {v u : Value} {vs us : List Value} {content held : List Value → After Parts → Out} {k l : After Shown} (o p : Option ℕ) (sort : Sort) → o ≡ p → Same w v u → SameAll w vs us → ((f g : After Parts) (vs us : List Value) → SameAll w vs us → FollowsAfter w f g → Follows w (content vs f) (held us g)) → FollowsAfter w k l → Follows w (show_own o v sort vs content k) (show_own p u sort us held l)
own_follows_at {w = w} {v = v} {u = u} {vs = vs} {us = us} {content = content} {held = held} {k = k} {l = l} o p sort e r q c h = subst (λ p. Follows w (show_own o v sort vs content k) (show_own p u sort us held l)) e (own_follows o sort r q c h)

mutual
  value_follows : {w : World} {m n : ℕ} {v u : Value} {vs us : List Value} {k l : After Shown} → Links w m n → Same w v u → SameAll w vs us → FollowsAfter w k l → Follows w (show_in v vs k) (show_in u us l)
  value_follows g same_plain q h = h _ _ _ q
  value_follows g (same_closure i b r) q h = own_follows_at _ _ _ (number_same 0 g i q) (same_closure i b r) q (λ f k vs us q h. h _ vs us q) h
  value_follows g (same_object i c) q h = own_follows_at _ _ _ (number_same 0 g i q) (same_object i c) q (λ f k vs us q h. content_follows g c q h) h
  value_follows g (same_array i c) q h = own_follows_at _ _ _ (number_same 0 g i q) (same_array i c) q (λ f k vs us q h. content_follows g c q h) h
  value_follows g (same_error i) q h = own_follows_at _ _ _ (number_same 0 g i q) (same_error i) q (λ f k vs us q h. h _ vs us q) h

  content_follows : {w : World} {m n : ℕ} {c d : Content} {vs us : List Value} {k l : After Parts} → Links w m n → SameContent w c d → SameAll w vs us → FollowsAfter w k l → Follows w (show_content c vs k) (show_content d us l)
  content_follows g same_empty q h = h _ _ _ q
  content_follows g (same_element r c) q h = value_follows g r q (λ x vs us q. content_follows g c q (λ parts vs us q. h (shows x parts) vs us q))
  content_follows g (same_property {x = key} r c) q h = value_follows g r q (λ x vs us q. content_follows g c q (λ parts vs us q. h (shows_at key x parts) vs us q))

shown_states : {w : World} {s z : State} {vs us : List Value} → States w s z → SameAll w vs us → States w (record s { shown = vs }) (record z { shown = us })
shown_states r q = record { budget = r.budget; links = r.links; cells = r.cells; globals = r.globals; imports = r.imports; shown = q; moves = r.moves; exports = r.exports; stars = r.stars }

pub show_acts : {w : World} {v u : Value} {f g : Shown → M} → Same w v u → ((x : Shown) → Acts w (f x) (g x)) → Acts w (show v f) (show u g)
unfolding show
show_acts q b = record { act = λ w2 h s z r. value_follows r.links (same_later h q) r.shown (λ x vs us q. (b x).act w2 h _ _ (shown_states r q)) }

pub show_all_acts : {w : World} {vs us : List Value} {f g : List Shown → M} → SameAll w vs us → ((x : List Shown) → Acts w (f x) (g x)) → Acts w (show_all vs f) (show_all us g)
unfolding show_all
show_all_acts all_nil b = b []
show_all_acts (all_cons q qs) b = show_acts q (λ x. show_all_acts qs (λ xs. b (x ∷ xs)))

-- exports and events

cell_acts : {w : World} {c d : Cell} {f g : ShownExport → M} (x : Text) → SameCell w c d → ((e : ShownExport) → Acts w (f e) (g e)) → Acts w (show_cell x c f) (show_cell x d g)
cell_acts x (same_cell same_none) b = b (exports_uninitialised x)
cell_acts x (same_cell (same_some q)) b = show_acts q (λ y. b (exports_value x y))

export_acts : {w : World} {p : Rule} {s z : Slot} {f g : ShownExport → M} (x : Text) → HoldsCell p → SameSlot w p s z → ((e : ShownExport) → Acts w (f e) (g e)) → Acts w (show_export x s f) (show_export x z g)
export_acts x u (same_local l) b = read_acts u l (λ w2 c d h q. cell_acts x q (λ e. acts_later h (b e)))
export_acts x u (same_import {source = source} {x = name}) b = b (exports_import x source name)
export_acts x u same_arguments b = unknown_acts

exports_acts : {w : World} {es fs : List Export} {f g : List ShownExport → M} → SameExports w es fs → ((x : List ShownExport) → Acts w (f x) (g x)) → Acts w (show_exports es f) (show_exports fs g)
unfolding show_exports
exports_acts no_exports b = b []
exports_acts (an_export {x = x} u l r) b = export_acts x u l (λ e. exports_acts r (λ es. b (e ∷ es)))

pub shown_exports_acts : {w : World} {f g : ShownExports → M} → ((x : ShownExports) → Acts w (f x) (g x)) → Acts w (with_shown_exports f) (with_shown_exports g)
shown_exports_acts b = with_exports_acts (λ w2 es fs stars h e. exports_acts e (λ names. acts_later h (b _)))

pub emit_acts : {w : World} {m k : M} (x : Act) → Acts w m k → Acts w (emit x m) (emit x k)
unfolding emit
emit_acts x a = shown_exports_acts (λ exports. put_event_acts (record { act = x; exports = exports }) a)

-- what the host names

nth_same : {w : World} {vs us : List Value} → SameAll w vs us → (n : ℕ) → SameOpt w (nth vs n) (nth us n)
nth_same all_nil n = same_none
nth_same (all_cons q qs) zero = same_some q
nth_same (all_cons q qs) (suc n) = nth_same qs n

named_same : {w : World} {vs us : List Value} (x : Given) → SameAll w vs us → SameOpt w (named x vs) (named x us)
named_same (given p) q = same_some same_plain
named_same (given_own n) q = nth_same q n

if_some_acts : {w : World} {o p : Option Value} {f g : Value → M} → SameOpt w o p → ((w2 : World) (v u : Value) → Sub w w2 → Same w2 v u → Acts w2 (f v) (g u)) → Acts w (if_some o f) (if_some p g)
if_some_acts same_none b = stop_acts Ending.host_stopped
if_some_acts {w = w} (same_some q) b = b w _ _ (same w) q

pub resolve_acts : {w : World} {f g : Value → M} (x : Given) → ((w2 : World) (v u : Value) → Sub w w2 → Same w2 v u → Acts w2 (f v) (g u)) → Acts w (resolve x f) (resolve x g)
unfolding resolve
resolve_acts x b = record { act = λ w2 h s z r. (if_some_acts (named_same x r.shown) (λ w3 v u i q. b w3 v u (later h i) q)).act w2 (same w2) s z r }

pub resolve_all_acts : {w : World} {f g : List Value → M} (xs : List Given) → ((w2 : World) (v u : List Value) → Sub w w2 → SameAll w2 v u → Acts w2 (f v) (g u)) → Acts w (resolve_all xs f) (resolve_all xs g)
unfolding resolve_all
resolve_all_acts {w = w} [] b = b w _ _ (same w) all_nil
resolve_all_acts (x ∷ xs) b = resolve_acts x (λ w2 v u h q. resolve_all_acts xs (λ w3 vs us i qs. b w3 _ _ (later h i) (all_cons (same_later i q) qs)))

pub resolve_maybe_acts : {w : World} {f g : Option Value → M} (o : Option Given) → ((w2 : World) (v u : Option Value) → Sub w w2 → SameOpt w2 v u → Acts w2 (f v) (g u)) → Acts w (resolve_maybe o f) (resolve_maybe o g)
resolve_maybe_acts {w = w} None b = b w _ _ (same w) same_none
resolve_maybe_acts (Some x) b = resolve_acts x (λ w2 v u h q. b w2 _ _ h (same_some q))
