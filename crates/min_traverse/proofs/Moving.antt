-- Moves one after another, and the same further out.
use Rattle.std.proofs.Common.{◌≡◌, ◌∙◌, ◌≤◌, ◌+◌, ℕ, Bool, true, false, ◌||◌, refl, sym, ap, subst, arith}
use Rattle.std.specs.Prelude.{nat_lt}
use Rattle.js_syntax.specs.declared.node_kind.NodeKind.{NodeKind as Kind}
use Rattle.js_syntax.specs.Facts.{weight}
use Rattle.js_syntax.specs.Node.{Forest, Note, nothing, node, absent, joined, total}
use Rattle.scope_counts.specs.Counts.{ids}
use Rattle.scope_counts.specs.Edits.{Around, here, behind, behind_none, under, plug}
use Rattle.symbol_sets.specs.Numbers.{has}
use Rattle.min_context.specs.Above.{above_of}
use Rattle.min_context.specs.Place.{Place, Spot, spot, top, next_of, below, goes_on, place_of, place_at}
use Rattle.min_context.specs.Seen.{Seen, still}
use Rattle.min_options.specs.declared.options.CompressOptions.{CompressOptions}
use Rattle.min_traverse.specs.Edits.{Edits, no_edit, one_edit}
use Rattle.min_traverse.specs.Moves.{busy, Moves, IsAt}

-- ---- places

-- a place further in
abbrev pub into : Around → Around → Around
into here b = b
into (behind k n inside a) b = behind k n inside (into a b)
into (behind_none a) b = behind_none (into a b)
into (under k n a rest) b = under k n (into a b) rest

-- behind all nodes of a row
abbrev pub after : Forest → Around
after nothing = here
after (node k n inside rest) = behind k n inside (after rest)
after (absent rest) = behind_none (after rest)

pub plug_into : (a b : Around) (t : Forest) → plug (into a b) t ≡ plug a (plug b t)
plug_into here b t = refl
plug_into (behind k n inside a) b t = ap (node k n inside) (plug_into a b t)
plug_into (behind_none a) b t = ap absent (plug_into a b t)
plug_into (under k n a rest) b t = ap (λ x. node k n x rest) (plug_into a b t)

pub spot_into : (s : Spot) (a b : Around) → spot s (into a b) ≡ spot (spot s a) b
spot_into s here b = refl
spot_into s (behind k n inside a) b = spot_into (next_of s true) a b
spot_into s (behind_none a) b = spot_into (next_of s false) a b
spot_into s (under k n a rest) b = spot_into (below (place_of s (goes_on rest)) (above_of k n)) a b

pub plug_after : (t u : Forest) → plug (after t) u ≡ joined t u
plug_after nothing u = refl
plug_after (node k n inside rest) u = ap (node k n inside) (plug_after rest u)
plug_after (absent rest) u = ap absent (plug_after rest u)

pub spot_after : (s : Spot) (t u : Forest) → spot s (after (joined t u)) ≡ spot (spot s (after t)) (after u)
spot_after s nothing u = refl
spot_after s (node k n inside rest) u = spot_after (next_of s true) rest u
spot_after s (absent rest) u = spot_after (next_of s false) rest u

-- ---- counts

pub ids_joined : (r : ℕ) (t u : Forest) → ids r (joined t u) ≡ ids r t + ids r u
ids_joined r nothing u = Prim.omega arith
ids_joined r (node k n inside rest) u = Prim.omega (arith, ids_joined r rest u)
ids_joined r (absent rest) u = ids_joined r rest u

pub ids_plug : (r : ℕ) (a : Around) (t : Forest) → ids r (plug a t) ≡ ids r (plug a nothing) + ids r t
ids_plug r here t = Prim.omega arith
ids_plug r (behind k n inside a) t = Prim.omega (arith, ids_plug r a t)
ids_plug r (behind_none a) t = ids_plug r a t
ids_plug r (under k n a rest) t = Prim.omega (arith, ids_plug r a t)

total_plug : (w : Kind → ℕ) (a : Around) (t : Forest) → total w (plug a t) ≡ total w (plug a nothing) + total w t
total_plug w here t = Prim.omega arith
total_plug w (behind k n inside a) t = Prim.omega (arith, total_plug w a t)
total_plug w (behind_none a) t = total_plug w a t
total_plug w (under k n a rest) t = Prim.omega (arith, total_plug w a t)

pub edits_trans : {E : Forest → Forest → Type 0} {t u v : Forest} → Edits E t u → Edits E u v → Edits E t v
edits_trans no_edit f = f
edits_trans (one_edit e es) f = one_edit e (edits_trans es f)

-- fewer now, or fewer before
pub fewer_twice : (b : Bool) (t u v : ℕ) → u ≤ t → v ≤ u → (b || nat_lt u t) || nat_lt v u ≡ b || nat_lt v t
fewer_twice true t u v h j = refl
fewer_twice false t u v h j = Prim.grind arith

pub fewer_beside : (b t u m n : ℕ) → t ≡ b + m → u ≡ b + n → nat_lt u t ≡ nat_lt n m
fewer_beside b t u m n h j = Prim.grind arith

pub none_fewer : (b : Bool) (n : ℕ) → b ≡ b || nat_lt n n
none_fewer true n = refl
none_fewer false n = Prim.grind arith

-- ---- moves

module _ {S : Type 0} {E : CompressOptions → Forest → Forest → Type 0} {H : S → Seen → Forest → Type 0} where
  -- where the walk is is no part of what is asked
  pub elsewhere : {At : Around → Type 0} {s s' : S} {k k' : Seen} {t u : Forest} (p q : Place) → Moves S E H At s (record k { place = p }) t s' k' u → Moves S E H At s k t s' (record k' { place = q }) u
  elsewhere p q m = record { keeps = m.keeps; edits = m.edits; options = m.options; room = m.room; fewer = m.fewer; marks = m.marks; lighter = m.lighter; quiet = m.quiet; quiet_before = m.quiet_before }

  -- the same at fewer places
  pub at_some : {At To : Around → Type 0} {s s' : S} {k k' : Seen} {t u : Forest} → ((a : Around) → To a → At a) → Moves S E H At s k t s' k' u → Moves S E H To s k t s' k' u
  at_some f m = record { keeps = λ a e h. m.keeps a (f a e) h; edits = λ a e h. m.edits a (f a e) h; options = m.options; room = m.room; fewer = m.fewer; marks = m.marks; lighter = m.lighter; quiet = m.quiet; quiet_before = m.quiet_before }

  pub stay : (At : Around → Type 0) (s : S) (k : Seen) (t : Forest) → Moves S E H At s k t s k t
  stay At s k t = record {
    keeps = λ a e h. h;
    edits = λ a e h. no_edit;
    options = refl;
    room = refl;
    fewer = λ r. Prim.omega arith;
    marks = λ r h. none_fewer (has k.marked r) (ids r t);
    lighter = Prim.omega arith;
    quiet = λ q. refl;
    quiet_before = λ q. q;
  }

  pub and_then : {At : Around → Type 0} {s s' s'' : S} {k k' k'' : Seen} {t u v : Forest} → Moves S E H At s k t s' k' u → Moves S E H At s' k' u s'' k'' v → Moves S E H At s k t s'' k'' v
  and_then {k = k} {t = t} {u = u} {v = v} m n = record {
    keeps = λ a e h. n.keeps a e (m.keeps a e h);
    edits = λ a e h. edits_trans (m.edits a e h) (subst (λ o. Edits (E o) (plug a u) (plug a v)) m.options (n.edits a e (m.keeps a e h)));
    options = n.options ∙ m.options;
    room = n.room ∙ m.room;
    fewer = λ r. Prim.omega (arith, m.fewer r, n.fewer r);
    marks = λ r h.
        n.marks r (Prim.omega (arith, h, m.room))
        ∙ ap (λ b. b || nat_lt (ids r v) (ids r u)) (m.marks r h)
        ∙ fewer_twice (has k.marked r) (ids r t) (ids r u) (ids r v) (m.fewer r) (n.fewer r);
    lighter = Prim.omega (arith, m.lighter, n.lighter);
    quiet = λ q. n.quiet q ∙ m.quiet (n.quiet_before q);
    quiet_before = λ q. m.quiet_before (n.quiet_before q);
  }

  -- what stands around a part moves with it
  pub further : {At To : Around → Type 0} {s s' : S} {k k' : Seen} {t u : Forest} (b : Around) → ((a : Around) → To a → At (into a b)) → Moves S E H At s k t s' k' u → Moves S E H To s k (plug b t) s' k' (plug b u)
  further {s = s} {s' = s'} {k = k} {k' = k'} {t = t} {u = u} b f m = record {
    keeps = λ a e h. subst (H s' (still k')) (plug_into a b u) (m.keeps (into a b) (f a e) (subst (H s (still k)) (sym (plug_into a b t)) h));
    edits = λ a e h. subst (λ x. Edits (E k.options) x (plug a (plug b u))) (plug_into a b t) (subst (Edits (E k.options) (plug (into a b) t)) (plug_into a b u) (m.edits (into a b) (f a e) (subst (H s (still k)) (sym (plug_into a b t)) h)));
    options = m.options;
    room = m.room;
    fewer = λ r. Prim.omega (arith, m.fewer r, ids_plug r b t, ids_plug r b u);
    marks = λ r h. m.marks r h ∙ ap (λ x. has k.marked r || x) (sym (fewer_beside (ids r (plug b nothing)) (ids r (plug b t)) (ids r (plug b u)) (ids r t) (ids r u) (ids_plug r b t) (ids_plug r b u)));
    lighter = weighs (total weight (plug b nothing)) (total weight (plug b t)) (total weight (plug b u)) (total weight t) (total weight u) (busy k) (busy k') (total_plug weight b t) (total_plug weight b u) m.lighter;
    quiet = λ q. ap (plug b) (m.quiet q);
    quiet_before = m.quiet_before;
  }
    where
      weighs : (w x y m n i j : ℕ) → x ≡ w + m → y ≡ w + n → n + j ≤ m + i → y + j ≤ x + i
      weighs w x y m n i j e f l = Prim.omega (arith, e, f, l)

  -- what a row does below its node
  pub moves_under : {p : Place} {s s' : S} {k k' : Seen} {t u : Forest} (c : Kind) (n : Note) (r : Forest) → Moves S E H (IsAt (below p (above_of c n))) s k t s' k' u → Moves S E H (λ a. place_at a (goes_on r) ≡ p) s k (node c n t r) s' k' (node c n u r)
  moves_under c n r m = further (under c n here r) (λ a e. spot_into top a (under c n here r) ∙ ap (λ q. below q (above_of c n)) e) m

  -- what the rest of a row does behind others
  pub moves_behind : {p q : Spot} {s s' : S} {k k' : Seen} {t u : Forest} (v : Forest) → spot p (after v) ≡ q → Moves S E H (IsAt q) s k t s' k' u → Moves S E H (IsAt p) s k (joined v t) s' k' (joined v u)
  moves_behind {p = p} {s = s} {s' = s'} {k = k} {k' = k'} {t = t} {u = u} v e m =
      let w = further (after v) (λ a i. spot_into top a (after v) ∙ ap (λ z. spot z (after v)) i ∙ e) m in
      subst (λ x. Moves S E H (IsAt p) s k (joined v t) s' k' x) (plug_after v u) (subst (λ x. Moves S E H (IsAt p) s k x s' k' (plug (after v) u)) (plug_after v t) w)
