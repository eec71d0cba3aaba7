-- The scopes that the context of a walk numbers are those whose marks the flags go by.
use Rattle.std.proofs.Common.{◌≡◌, ◌∙◌, ℕ, suc, ◌==◌, Bool, true, false, ◌&&◌, Option, Some, None, true≢false, if◌then◌else◌, refl, sym, ap, subst}
use Rattle.js_syntax.specs.declared.node_kind.NodeKind.{NodeKind as Kind}
use Rattle.js_syntax.specs.declared.kind.VariableKind.{VariableKind}
use Rattle.js_syntax.specs.declared.kind.VariableKind.TheVariants as variable
use Rattle.js_syntax.specs.Node.{Forest, Tree, Note, nothing, node, absent}
use Rattle.min_context.specs.Above.{within_of, hoists, above_of, is_within as is_within_it}
use Rattle.min_context.specs.Place.{Place, outside, number_or, inside, Spot, place_of, next_of, below, top, spot, place_at, goes_on}
use Rattle.scope_rules.specs.Context.{has_second}
use Rattle.scope_rules.specs.Table.{Scoping}
use Rattle.scope_laws.specs.Place as places
use Rattle.scope_laws.specs.Place.{Around, first}
use Rattle.scope_counts.specs.Edits as counts
use Rattle.steps.specs.Allowed.Exposure.{is_script}
use Rattle.steps.specs.Marked.Flags.{Stand, is_within, holds_variables, declares_in, stand_inside, first_mark, stands_of, stand_at, stand, Tells, Told, FlagsTell}
use Rattle.rules.specs.DeadCode.Rules.{Where, where_of, scope_of}
use Rattle.rules.proofs.DeadCode.LaidOut.{is_pair, is_laid_at, is_laid, laid_here, laid_below, laid_rest}
use Rattle.rules.proofs.DeadCode.Places.{to, plugged, is_row}

pub record Same (p : Stand) (w : Where) : Type 0 where
  pub scope : p.scope ≡ Some w.scope
  pub variables : p.variables ≡ Some w.hoist_scope

pub declares_there : (p : Stand) (w : Where) → Same p w → (how : VariableKind) → declares_in p how ≡ Some (scope_of w how)
declares_there p w h variable.Var = h.variables
declares_there p w h variable.Let = h.scope
declares_there p w h variable.Const = h.scope

-- ---- one child

number_there : (b : Bool) (o p : Option ℕ) (q v : ℕ) → (if b then o else p) ≡ Some v → p ≡ Some q → (if b then o else p) ≡ Some (if b then number_or q o else q)
number_there true None p q v e f = absurd cc
number_there true (Some n) p q v e f = refl
number_there false o p q v e f = f

holds_same : (k : Kind) (at : ℕ) → holds_variables k at ≡ hoists k && is_within_it (within_of k) at
holds_same (Kind.Program source) at = refl
holds_same (Kind.Function how pure) at = refl
holds_same Kind.StaticBlock at = refl
holds_same k at = refl

child_same : (s : Scoping) (script : Bool) (p : Stand) (q : Place) (k : Kind) (n : Note) (b : Forest) (at : ℕ) (previous more : Bool) → is_within k b at ≡ is_within_it (within_of k) at → Same p (where_of q)
    → Tells s script (stand_inside p k n b at) → Same (stand_inside p k n b at) (where_of (inside q (above_of k n) at previous more))
child_same s script p q k n b at previous more e h t = record {
  scope = subst (λ c. (if is_within k b at then n.id else p.scope) ≡ Some (if true && c then number_or q.scope n.id else q.scope)) e (number_there (is_within k b at) n.id p.scope q.scope t.scope t.scope_is h.scope);
  variables = subst (λ c. (if holds_variables k at then n.id else p.variables) ≡ Some (if c then number_or q.hoist_scope n.id else q.hoist_scope)) (holds_same k at)
      (number_there (holds_variables k at) n.id p.variables q.hoist_scope t.variables t.variables_is h.variables);
}

-- ---- a row

-- each node of it stands where the context says
pub AllSame : (ps : ℕ → Stand) → (at : ℕ) → Spot → Forest → Type 0
AllSame ps at s nothing = Unit {0}
AllSame ps at s (absent rest) = AllSame ps (suc at) (next_of s false) rest
AllSame ps at s (node k n b rest) = Same (ps at) (where_of (place_of s (goes_on rest))) × AllSame ps (suc at) (next_of s true) rest

module _ (s : Scoping) (script : Bool) where
  row_same : (p : Stand) (q : Place) (k : Kind) (n : Note) (b : Forest) → ((at : ℕ) → is_within k b at ≡ is_within_it (within_of k) at) → Same p (where_of q) → (at : ℕ) (previous : Bool) (row : Forest)
      → Told s script (stand_inside p k n b) at row → AllSame (stand_inside p k n b) at (record { outer = q; above = Some (above_of k n); at = at; previous = previous }) row
  unfolding AllSame
  row_same p q k n b e h at previous nothing t = tt
  row_same p q k n b e h at previous (absent rest) t = row_same p q k n b e h (suc at) false rest t
  row_same p q k n b e h at previous (node j m c rest) t = (child_same s script p q k n b at previous (goes_on rest) (e at) h t.0, row_same p q k n b e h (suc at) true rest t.2)

  pair_same : (p : Stand) (q : Place) (k : Kind) (n : Note) (b : Forest) → is_pair b ≡ true → is_within k b 0 ≡ is_within_it (within_of k) 0 → (has_second b ≡ true → is_within k b 1 ≡ is_within_it (within_of k) 1) → Same p (where_of q)
      → Told s script (stand_inside p k n b) 0 b → AllSame (stand_inside p k n b) 0 (below q (above_of k n)) b
  unfolding AllSame
  pair_same p q k n (node j i a (node l m c nothing)) two e f h t = (
    child_same s script p q k n (node j i a (node l m c nothing)) 0 false true e h t.0,
    (child_same s script p q k n (node j i a (node l m c nothing)) 1 true false (f refl) h t.2.0, tt),
  )
  pair_same p q k n (node j i a (absent nothing)) two e f h t = (child_same s script p q k n (node j i a (absent nothing)) 0 false true e h t.0, tt)
  pair_same p q k n (absent (node l m c nothing)) two e f h t = (child_same s script p q k n (absent (node l m c nothing)) 1 false false (f refl) h t.0, tt)
  pair_same p q k n (absent (absent nothing)) two e f h t = tt
  pair_same p q k n b two e f h t = absurd cc

  and_false : (b : Bool) → b && false ≡ false
  and_false true = refl
  and_false false = refl

  below_same : (p : Stand) (q : Place) (k : Kind) (n : Note) (b : Forest) → is_laid_at k b ≡ true → Same p (where_of q) → Told s script (stand_inside p k n b) 0 b → AllSame (stand_inside p k n b) 0 (below q (above_of k n)) b
  below_same p q (Kind.PropertyDefinition is_static key) n b l h t = pair_same p q (Kind.PropertyDefinition is_static key) n b l (and_false (has_second b)) (λ e. ap (λ c. c && 1 == 1) e) h t
  below_same p q Kind.SwitchStatement n b l h t = pair_same p q Kind.SwitchStatement n b l refl (λ e. refl) h t
  below_same p q Kind.WithStatement n b l h t = pair_same p q Kind.WithStatement n b l refl (λ e. refl) h t
  below_same p q k n b l h t = row_same p q k n b (λ at. refl) h 0 false b t

-- ---- at a place

abbrev pub family : (ps : ℕ → Stand) → (at : ℕ) → counts.Around → (t : Forest) → ℕ → Stand
family ps at counts.here t = ps
family ps at (counts.behind k n b a) t = family ps (suc at) a t
family ps at (counts.behind_none a) t = family ps (suc at) a t
family ps at (counts.under k n a rest) t = family (stand_inside (ps at) k n (counts.plug a t)) 0 a t

abbrev pub index : (at : ℕ) → counts.Around → ℕ
index at counts.here = at
index at (counts.behind k n b a) = index (suc at) a
index at (counts.behind_none a) = index (suc at) a
index at (counts.under k n a rest) = index 0 a

same_there : (s : Scoping) (script : Bool) (ps : ℕ → Stand) (at : ℕ) (p : Spot) (a : counts.Around) (k : Kind) (n : Note) (b rest : Forest) → is_laid (counts.plug a (node k n b rest)) ≡ true → Told s script ps at (counts.plug a (node k n b rest))
    → AllSame ps at p (counts.plug a (node k n b rest)) → Same (family ps at a (node k n b rest) (index at a)) (where_of (place_of (spot p a) (goes_on rest)))
unfolding AllSame
same_there s script ps at p counts.here k n b rest l t h = h.0
same_there s script ps at p (counts.behind j m c a) k n b rest l t h = same_there s script ps (suc at) (next_of p true) a k n b rest (laid_rest j m c (counts.plug a (node k n b rest)) l) t.2 h.1
same_there s script ps at p (counts.behind_none a) k n b rest l t h = same_there s script ps (suc at) (next_of p false) a k n b rest l t h
same_there s script ps at p (counts.under j m a r) k n b rest l t h =
    let row = counts.plug a (node k n b rest) in
    same_there s script (stand_inside (ps at) j m row) 0 (below (place_of p (goes_on r)) (above_of j m)) a k n b rest (laid_below j m row r l) t.1
    (below_same s script (ps at) (place_of p (goes_on r)) j m row (laid_here j m row r l) h.0 t.1)

-- ---- in a program

abbrev pub whole_stand : counts.Around → (t : Forest) → Stand
whole_stand a t = family (stands_of (counts.plug a t)) 0 a t (index 0 a)

all_outside : (t : Forest) → first_mark t ≡ Some 0 → (at where_ : ℕ) (previous : Bool) (row : Forest) → AllSame (stands_of t) at (record { outer = outside; above = None; at = where_; previous = previous }) row
unfolding AllSame
all_outside t e at where_ previous nothing = tt
all_outside t e at where_ previous (absent rest) = all_outside t e (suc at) (suc where_) false rest
all_outside t e at where_ previous (node k n b rest) = (record { scope = e; variables = e }, all_outside t e (suc at) (suc where_) true rest)

pub numbers : (s : Scoping) (a : counts.Around) (k : Kind) (n : Note) (b rest : Forest) → is_laid (counts.plug a (node k n b rest)) ≡ true → FlagsTell s (counts.plug a (node k n b rest)) → first_mark (counts.plug a (node k n b rest)) ≡ Some 0
    → Same (whole_stand a (node k n b rest)) (where_of (place_at a (goes_on rest)))
numbers s a k n b rest l t e =
    let whole = counts.plug a (node k n b rest) in
    same_there s (is_script whole) (stands_of whole) 0 top a k n b rest l t (all_outside whole e 0 0 false whole)

-- ---- as edits ask for it

stand_through : (ps : ℕ → Stand) (at : ℕ) (a : counts.Around) (b : Around) (x : Option Tree) → stand_at ps at (to a b) x ≡ stand_at (family ps at a (places.plug b x)) (index at a) b x
stand_through ps at counts.here b x = refl
stand_through ps at (counts.behind k n c a) b x = stand_through ps (suc at) a b x
stand_through ps at (counts.behind_none a) b x = stand_through ps (suc at) a b x
stand_through ps at (counts.under k n a rest) b x =
    ap (λ t. stand_at (stand_inside (ps at) k n t) 0 (to a b) x) (plugged a b x) ∙ stand_through (stand_inside (ps at) k n (counts.plug a (places.plug b x))) 0 a b x

pub stand_to : (a : counts.Around) (b : Around) (x : Option Tree) → stand (to a b) x ≡ stand_at (family (stands_of (counts.plug a (places.plug b x))) 0 a (places.plug b x)) (index 0 a) b x
stand_to a b x = ap (λ t. stand_at (stands_of t) 0 (to a b) x) (plugged a b x) ∙ stand_through (stands_of (counts.plug a (places.plug b x))) 0 a b x

-- where one place is as another
pub stand_along : (p : Stand) (at : ℕ) (a : counts.Around) (rest : Forest) (x : Option Tree) → is_row a ≡ true → stand_at (λ i. p) at (to a (first rest)) x ≡ p
stand_along p at counts.here rest x e = refl
stand_along p at (counts.behind k n b a) rest x e = stand_along p (suc at) a rest x e
stand_along p at (counts.behind_none a) rest x e = stand_along p (suc at) a rest x e
stand_along p at (counts.under k n a r) rest x e = absurd (true≢false (sym e))
