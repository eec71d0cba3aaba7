-- Two trees that are the same but for notes, node by node.
use Rattle.std.proofs.Common.{◌≡◌, ◌∙◌, List, ℕ, refl, sym, ap, ap₂}
use Rattle.js_syntax.specs.declared.node_kind.NodeKind.{NodeKind as Kind}
use Rattle.js_syntax.specs.declared.node_kind.NodeKind.TheVariants.{BindingName as binding_name}
use Rattle.js_syntax.specs.Node.{Forest, Note, nothing, node, absent, nowhere, bare}

-- ---- nodes

pub same_below : {k l : Kind} {a b c d : Forest} → node k nowhere a c ≡ node l nowhere b d → a ≡ b
same_below e = cc

pub same_rest : {k l : Kind} {a b c d : Forest} → node k nowhere a c ≡ node l nowhere b d → c ≡ d
same_rest e = cc

pub same_kind : {k l : Kind} {a b c d : Forest} → node k nowhere a c ≡ node l nowhere b d → k ≡ l
same_kind e = cc

pub same_absent : {c d : Forest} → absent c ≡ absent d → c ≡ d
same_absent e = cc

pub nothing_node : {k : Kind} {n : Note} {a c : Forest} → nothing ≡ node k n a c → ⊥
nothing_node e = cc

pub nothing_absent : {c : Forest} → nothing ≡ absent c → ⊥
nothing_absent e = cc

pub absent_node : {k : Kind} {n : Note} {a c d : Forest} → absent d ≡ node k n a c → ⊥
absent_node e = cc

-- ---- rows that begin with a name

pub record Begins (f : Forest) (x : List ℕ) (rest : Forest) : Type 0 where
  pub note : Note
  pub rest_now : Forest
  pub is : f ≡ node (binding_name x) note nothing rest_now
  pub same : bare rest ≡ bare rest_now

pub nothing_bare : (f : Forest) → bare f ≡ nothing → f ≡ nothing
nothing_bare nothing e = refl
nothing_bare (absent r) e = absurd (nothing_absent (sym e))
nothing_bare (node k n b r) e = absurd (nothing_node (sym e))

pub begins : (f : Forest) (x : List ℕ) (m : Note) (rest : Forest) → bare f ≡ bare (node (binding_name x) m nothing rest) → Begins f x rest
begins nothing x m rest e = absurd (nothing_node e)
begins (absent r) x m rest e = absurd (absent_node e)
begins (node k n b r) x m rest e = record { note = n; rest_now = r; is = ap₂ (λ j c. node j n c r) (same_kind e) (nothing_bare b (same_below e)); same = sym (same_rest e) }

-- ---- rows that begin with a node

pub record Opens (f : Forest) (k : Kind) (below rest : Forest) : Type 0 where
  pub note : Note
  pub below_now : Forest
  pub rest_now : Forest
  pub is : f ≡ node k note below_now rest_now
  pub same_below : bare below_now ≡ bare below
  pub same_rest : bare rest_now ≡ bare rest

pub opened : (f : Forest) (k : Kind) (n : Note) (b r : Forest) → bare f ≡ bare (node k n b r) → Opens f k b r
opened nothing k n b r e = absurd (nothing_node e)
opened (absent s) k n b r e = absurd (absent_node e)
opened (node l m c s) k n b r e = record { note = m; below_now = c; rest_now = s; is = ap (λ j. node j m c s) (same_kind e); same_below = same_below e; same_rest = same_rest e }

-- a node before one, or before two
pub record BeforeOne (f : Forest) (t : Kind) (d : Forest) (k : Kind) (b : Forest) : Type 0 where
  pub note : Note
  pub below : Forest
  pub first_note : Note
  pub first_below : Forest
  pub is : f ≡ node t note below (node k first_note first_below nothing)
  pub same_below : bare below ≡ bare d
  pub same : bare first_below ≡ bare b

pub before_one : (f : Forest) (t : Kind) (m i : Note) (d : Forest) (k : Kind) (b : Forest) → bare f ≡ bare (node t m d (node k i b nothing)) → BeforeOne f t d k b
before_one f t m i d k b e =
    let o = opened f t m d (node k i b nothing) e in
    let p = opened o.rest_now k i b nothing o.same_rest in
    record {
      note = o.note;
      below = o.below_now;
      first_note = p.note;
      first_below = p.below_now;
      is = o.is ∙ ap (λ y. node t o.note o.below_now y) (p.is ∙ ap (λ x. node k p.note p.below_now x) (nothing_bare p.rest_now p.same_rest));
      same_below = o.same_below;
      same = p.same_below;
    }

pub record BeforeTwo (f : Forest) (t : Kind) (d : Forest) (k : Kind) (b : Forest) (l : Kind) (c : Forest) : Type 0 where
  pub note : Note
  pub below : Forest
  pub first_note : Note
  pub first_below : Forest
  pub second_note : Note
  pub second_below : Forest
  pub is : f ≡ node t note below (node k first_note first_below (node l second_note second_below nothing))
  pub same_below : bare below ≡ bare d
  pub same_first : bare first_below ≡ bare b
  pub same_second : bare second_below ≡ bare c

pub before_two : (f : Forest) (t : Kind) (m i j : Note) (d : Forest) (k : Kind) (b : Forest) (l : Kind) (c : Forest) → bare f ≡ bare (node t m d (node k i b (node l j c nothing))) → BeforeTwo f t d k b l c
before_two f t m i j d k b l c e =
    let o = opened f t m d (node k i b (node l j c nothing)) e in
    let p = opened o.rest_now k i b (node l j c nothing) o.same_rest in
    let q = opened p.rest_now l j c nothing p.same_rest in
    record {
      note = o.note;
      below = o.below_now;
      first_note = p.note;
      first_below = p.below_now;
      second_note = q.note;
      second_below = q.below_now;
      is = o.is ∙ ap (λ y. node t o.note o.below_now y) (p.is ∙ ap (λ x. node k p.note p.below_now x) (q.is ∙ ap (λ x. node l q.note q.below_now x) (nothing_bare q.rest_now q.same_rest)));
      same_below = o.same_below;
      same_first = p.same_below;
      same_second = q.same_below;
    }
