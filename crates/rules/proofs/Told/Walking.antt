-- What holds at each place of a program holds at each place of what an edit leaves.
use Rattle.std.specs.Prelude.{None, map}
use Rattle.std.proofs.Common.{◌≡◌, ◌∙◌, ℕ, suc, List, [], ◌∷◌, Bool, true, false, true≢false, refl, sym, ap, subst}
use Rattle.js_syntax.specs.declared.node_kind.NodeKind.{NodeKind as Kind}
use Rattle.js_syntax.specs.declared.node_kind.NodeKind.TheVariants as kind
use Rattle.js_syntax.specs.Node.{Forest, Note, Tree, nothing, node, absent, nowhere, row, joined, alone}
use Rattle.js_syntax.proofs.Truth.{first_of_both, second_of_both}
use Rattle.js_rebuilt.specs.Rebuilt.{is_operation, Rebuilt, ends, stays, leaves as leaves_whole, opened, built, absent_leaves, absent_comes}
use Rattle.kept_names.specs.Kept.{declarator_of}
use Rattle.scope_rules.specs.Context.{opens}
use Rattle.scope_laws.specs.Lists.{is_list}
use Rattle.scope_counts.proofs.Rebuilding.{operation_is_plain}
use Rattle.steps.specs.KeepForm.Part.{a_var}
use Rattle.steps.specs.Marked.Flags.{is_within}
use Rattle.rules.specs.Told.Places.{EachPlace}
use Rattle.steps.proofs.KeepForm.Asked.{tested_gives}
use Rattle.steps.proofs.VarNames.Again.{is_name_alone, is_bare_name, are_names}
use Rattle.steps.proofs.VarNames.Left.{NamesLeft}
use Rattle.rules.proofs.Told.Standing.{list_outside, plain_outside}
use Rattle.rules.proofs.Told.Trims.{Alike, alike_itself, Trims, leaves, empties, empties_idle, tests, states, alternate, parts, rebuilds, names_left, inside, behind, behind_none}
use Rattle.steps.specs.KeepForm.Part.{declares_one}

-- `Follows q p` says what is around a place now, q, of what was around it, p. Where a node stands another may stand that makes no scope,
-- and around an operation, or a statement of one, is what is around its parts.
module _ {S : Type 0} (all : Bool) (around : S → Kind → Note → Forest → ℕ → S) (P : S → Kind → Note → Forest → Type 0) (Follows : S → S → Type 0)
    (descends : (q p : S) (k : Kind) (n : Note) (now below : Forest) → Alike all k now below → Follows q p → (i j : ℕ) → is_within k now i ≡ is_within k below j → Follows (around q k n now i) (around p k n below j))
    (passes : (q p : S) (k : Kind) (n : Note) (below : Forest) (at : ℕ) → is_within k below at ≡ false → Follows q p → Follows q (around p k n below at))
    (enters : (q p : S) (k : Kind) (n : Note) (now : Forest) (at : ℕ) → is_within k now at ≡ false → Follows q p → Follows (around q k n now at) p)
    (keeps : (q p : S) (k : Kind) (n : Note) (now below : Forest) → Alike all k now below → Follows q p → P p k n below → P q k n now)
    (anew : (p : S) (k l : Kind) (n m : Note) (below now : Forest) → opens l now ≡ false → P p k n below → P p l m now)
    (plain : (k : Kind) → is_operation k ≡ true → (p : S) (n : Note) (below : Forest) (at : ℕ) → around p k n below at ≡ p)
    (statement : (p : S) (n : Note) (below : Forest) (at : ℕ) → around p kind.ExpressionStatement n below at ≡ p) where
  -- in a list it doesn't matter which place it is
  abbrev pub Covers : (listed : Bool) → (qs ps : ℕ → S) → Type 0
  Covers listed qs ps = (i j : ℕ) → (listed ≡ false → i ≡ j) → Follows (qs i) (ps j)

  alike_places : (listed : Bool) (k : Kind) (now below : Forest) → is_list k ≡ listed → Alike all k now below → (i j : ℕ) → (listed ≡ false → i ≡ j) → is_within k now i ≡ is_within k below j
  alike_places true k now below l a i j e = list_outside k l now i ∙ sym (list_outside k l below j)
  alike_places false k now below l a i j e = a.within i ∙ ap (λ m. is_within k below m) (e refl)

  covers_inside : (q p : S) (k : Kind) (n : Note) (now below : Forest) → Alike all k now below → Follows q p → Covers (is_list k) (around q k n now) (around p k n below)
  covers_inside q p k n now below a f i j e = descends q p k n now below a f i j (alike_places (is_list k) k now below refl a i j e)

  row_stays : (listed : Bool) (t : Forest) (qs ps : ℕ → S) (i j : ℕ) → Covers listed qs ps → (listed ≡ false → i ≡ j) → EachPlace around P ps j t → EachPlace around P qs i t
  row_stays listed nothing qs ps i j c f h = tt
  row_stays listed (absent rest) qs ps i j c f h = row_stays listed rest qs ps (suc i) (suc j) c (λ l. ap suc (f l)) h
  row_stays listed (node k n below rest) qs ps i j c f h = (
    keeps (qs i) (ps j) k n below below (alike_itself all k below) (c i j f) h.0,
    row_stays (is_list k) below (around (qs i) k n below) (around (ps j) k n below) 0 0 (covers_inside (qs i) (ps j) k n below below (alike_itself all k below) (c i j f)) (λ l. refl) h.1,
    row_stays listed rest qs ps (suc i) (suc j) c (λ l. ap suc (f l)) h.2,
  )

  record PartThere (ps : ℕ → S) (l : Kind) (n : Note) (b : Forest) : Type 0 where
    place : ℕ
    itself : P (ps place) l n b
    inner : EachPlace around P (around (ps place) l n b) 0 b

  part_there : (ps : ℕ → S) (v : Forest) (l : Kind) (n : Note) (b w : Forest) (at : ℕ) → EachPlace around P ps at (joined v (node l n b w)) → PartThere ps l n b
  part_there ps nothing l n b w at h = record { place = at; itself = h.0; inner = h.1 }
  part_there ps (absent v) l n b w at h = part_there ps v l n b w (suc at) h
  part_there ps (node k m c v) l n b w at h = part_there ps v l n b w (suc at) h.2

  -- in one place, at which a node stands, rows are rebuilt
  module _ (p : S) (here : (l : Kind) (m : Note) (now : Forest) → opens l now ≡ false → P p l m now) where
    abbrev There : Forest → Type 0
    There t = EachPlace around P (λ i. p) 0 t

    anywhere : (t : Forest) (i j : ℕ) → EachPlace around P (λ i. p) i t → EachPlace around P (λ i. p) j t
    anywhere nothing i j h = tt
    anywhere (absent r) i j h = anywhere r (suc i) (suc j) h
    anywhere (node k n a r) i j h = (h.0, h.1, anywhere r (suc i) (suc j) h.2)

    both_there : (t u : Forest) → There t → There u → There (joined t u)
    both_there nothing u h g = g
    both_there (absent r) u h g = anywhere (joined r u) 0 1 (both_there r u (anywhere r 1 0 h) g)
    both_there (node k n a r) u h g = (h.0, h.1, anywhere (joined r u) 0 1 (both_there r u (anywhere r 1 0 h.2) g))

    before_there : (t u : Forest) → There (joined t u) → There t
    before_there nothing u h = tt
    before_there (absent r) u h = anywhere r 0 1 (before_there r u (anywhere (joined r u) 1 0 h))
    before_there (node k n a r) u h = (h.0, h.1, anywhere r 0 1 (before_there r u (anywhere (joined r u) 1 0 h.2)))

    after_there : (t u : Forest) → There (joined t u) → There u
    after_there nothing u h = h
    after_there (absent r) u h = after_there r u (anywhere (joined r u) 1 0 h)
    after_there (node k n a r) u h = after_there r u (anywhere (joined r u) 1 0 h.2)

    same_there : (k : Kind) (n : Note) (a : Forest) → is_operation k ≡ true → around p k n a ≡ (λ at. p)
    same_there k n a is = λ z. λ at. plain k is p n a at z

    rebuilt_there : {t u : Forest} → Rebuilt t u → There t → There u
    rebuilt_there ends h = tt
    rebuilt_there (stays {r = r} {s = q} rest) h = (h.0, h.1, anywhere q 0 1 (rebuilt_there rest (anywhere r 1 0 h.2)))
    rebuilt_there (leaves_whole {r = r} rest) h = rebuilt_there rest (anywhere r 1 0 h.2)
    rebuilt_there (opened {k = k} {n = n} {a = a} {r = r} is rest) h =
        rebuilt_there rest (both_there a r (subst (λ (f : ℕ → S). EachPlace around P f 0 a) (same_there k n a is) h.1) (anywhere r 1 0 h.2))
    rebuilt_there (built {l = l} {m = m} {b = b} {s = q} may rest) h =
        let below = rebuilt_there rest h in (
          here l m b ((operation_is_plain l may.operation).opens_none b),
          subst (λ (f : ℕ → S). EachPlace around P f 0 b) (sym (same_there l m b may.operation)) (before_there b q below),
          anywhere q 0 1 (after_there b q below),
        )
    rebuilt_there (absent_leaves {r = r} rest) h = rebuilt_there rest (anywhere r 1 0 h)
    rebuilt_there (absent_comes {s = q} rest) h = anywhere q 0 1 (rebuilt_there rest h)

    -- names are declared there
    module _ (keeps_there : (q : S) (l : Kind) (m : Note) (now : Forest) → opens l now ≡ false → Follows q p → P q l m now) where
      name_there : (k : Kind) (m : Note) (b : Forest) → is_name_alone k b ≡ true → (qs : ℕ → S) → ((i : ℕ) → Follows (qs i) p) → EachPlace around P qs 0 (node k m b (absent nothing))
      name_there (kind.BindingName x) m nothing h qs f = (keeps_there (qs 0) (kind.BindingName x) m nothing refl (f 0), tt, tt)
      name_there (kind.BindingName x) m (absent r) h qs f = absurd cc
      name_there (kind.BindingName x) m (node j i c r) h qs f = absurd cc
      name_there k m b h qs f = absurd cc

      declarators_there : (ts : List Tree) → are_names ts ≡ true → (qs : ℕ → S) (at : ℕ) → ((i : ℕ) → Follows (qs i) p) → EachPlace around P qs at (row (map declarator_of ts))
      declarators_there [] h qs at f = tt
      declarators_there (t ∷ ts) h qs at f =
          let n : Note = record { span = t.note.span; id = None } in
          let name = node t.kind t.note t.below (absent nothing) in (
            keeps_there (qs at) kind.VariableDeclarator n name refl (f at),
            name_there t.kind t.note t.below (first_of_both (is_bare_name t) (are_names ts) h) (around (qs at) kind.VariableDeclarator n name) (λ i. enters (qs at) p kind.VariableDeclarator n name i refl (f at)),
            declarators_there ts (second_of_both (is_bare_name t) (are_names ts) h) qs (suc at) f,
          )

      declared_there : {k : Kind} {n m : Note} {a b : Forest} → NamesLeft k n a m b → (qs : ℕ → S) → ((i : ℕ) → Follows (qs i) p) → EachPlace around P qs 0 b
      declared_there made qs f =
          let inner = row (map declarator_of made.names) in
          subst (λ t. EachPlace around P qs 0 t) (sym made.is) (
            keeps_there (qs 0) kind.Declarators nowhere inner refl (f 0),
            declarators_there made.names made.bare (around (qs 0) kind.Declarators nowhere inner) 0 (λ i. enters (qs 0) p kind.Declarators nowhere inner i refl (f 0)),
            tt,
          )

  pub trimmed_stays : (listed : Bool) (t u : Forest) → Trims all listed t u → (qs ps : ℕ → S) (i j : ℕ) → Covers listed qs ps → (listed ≡ false → i ≡ j) → EachPlace around P ps j t → EachPlace around P qs i u
  trimmed_stays listed t u (leaves k n below rest) qs ps i j c f h = row_stays true rest qs ps i (suc j) c (λ l. absurd (true≢false l)) h.2
  trimmed_stays listed t u (empties r n m below rest) qs ps i j c f h = (keeps (qs i) (ps j) kind.EmptyStatement m nothing nothing (alike_itself all kind.EmptyStatement nothing) (c i j f) (anew (ps j) kind.ExpressionStatement kind.EmptyStatement n m below nothing refl h.0), tt, row_stays r rest qs ps (suc i) (suc j) c (λ l. ap suc (f l)) h.2)
  trimmed_stays listed t u (empties_idle r k n m below rest idle) qs ps i j c f h = (keeps (qs i) (ps j) kind.EmptyStatement m nothing nothing (alike_itself all kind.EmptyStatement nothing) (c i j f) (anew (ps j) k kind.EmptyStatement n m below nothing refl h.0), tt, row_stays r rest qs ps (suc i) (suc j) c (λ l. ap suc (f l)) h.2)
  trimmed_stays listed t u (tests r k l n m x b after rest tested) qs ps i j c f h =
      let whole = node l x b after in
      let p = around (ps j) k n whole 0 in
      let new = node l x b nothing in
      let q = around (qs i) kind.ExpressionStatement m new 0 in
      let over = subst (λ z. Follows z p) (sym (statement (qs i) m new 0)) (passes (qs i) (ps j) k n whole 0 (plain_outside k (tested_gives k tested) whole 0) (c i j f)) in (
        keeps (qs i) (ps j) kind.ExpressionStatement m new new (alike_itself all kind.ExpressionStatement new) (c i j f) (anew (ps j) k kind.ExpressionStatement n m whole new refl h.0),
        (
          keeps q p l x b b (alike_itself all l b) over h.1.0,
          row_stays (is_list l) b (around q l x b) (around p l x b) 0 0 (covers_inside q p l x b b (alike_itself all l b) over) (λ e. refl) h.1.1,
          tt,
        ),
        row_stays r rest qs ps (suc i) (suc j) c (λ e. ap suc (f e)) h.2,
      )
  trimmed_stays listed t u (states r how x k n m l j y o b rest) qs ps i z c f h =
      let value = alone k y b in
      let name = node (kind.BindingName x) j nothing value in
      let declarator = alone kind.VariableDeclarator l name in
      let whole = declares_one m l j x value in
      let of_it = around (ps z) (kind.VariableDeclaration how) n whole 0 in
      let of_list = around of_it kind.Declarators m declarator 0 in
      let p = around of_list kind.VariableDeclarator l name 1 in
      let q = around (qs i) kind.ExpressionStatement o value 0 in
      let through = passes (qs i) of_it kind.Declarators m declarator 0 refl (passes (qs i) (ps z) (kind.VariableDeclaration how) n whole 0 refl (c i z f)) in
      let over = subst (λ w. Follows w p) (sym (statement (qs i) o value 0)) (passes (qs i) of_list kind.VariableDeclarator l name 1 refl through) in
      let given = h.1.1.1.2 in (
        keeps (qs i) (ps z) kind.ExpressionStatement o value value (alike_itself all kind.ExpressionStatement value) (c i z f) (anew (ps z) (kind.VariableDeclaration how) kind.ExpressionStatement n o whole value refl h.0),
        (
          keeps q p k y b b (alike_itself all k b) over given.0,
          row_stays (is_list k) b (around q k y b) (around p k y b) 0 0 (covers_inside q p k y b b (alike_itself all k b) over) (λ e. refl) given.1,
          tt,
        ),
        row_stays r rest qs ps (suc i) (suc z) c (λ e. ap suc (f e)) h.2,
      )
  trimmed_stays listed t u (alternate k l n m o below b) qs ps i j c f h =
      let second = c (suc i) (suc j) (λ e. ap suc (f e)) in (
        keeps (qs i) (ps j) k n below below (alike_itself all k below) (c i j f) h.0,
        row_stays (is_list k) below (around (qs i) k n below) (around (ps j) k n below) 0 0 (covers_inside (qs i) (ps j) k n below below (alike_itself all k below) (c i j f)) (λ e. refl) h.1,
        (
          keeps (qs (suc i)) (ps (suc j)) l m b b (alike_itself all l b) second h.2.0,
          row_stays (is_list l) b (around (qs (suc i)) l m b) (around (ps (suc j)) l m b) 0 0 (covers_inside (qs (suc i)) (ps (suc j)) l m b b (alike_itself all l b) second) (λ e. refl) h.2.1,
          tt,
        ),
      )
  trimmed_stays listed t u (parts r k l m n b v w rest gives) qs ps i j c f h =
      let whole = joined v (node l n b w) in
      let part = part_there (around (ps j) k m whole) v l n b w 0 h.1 in
      let p = around (ps j) k m whole part.place in
      let over = passes (qs i) (ps j) k m whole part.place (plain_outside k gives whole part.place) (c i j f) in (
        keeps (qs i) p l n b b (alike_itself all l b) over part.itself,
        row_stays (is_list l) b (around (qs i) l n b) (around p l n b) 0 0 (covers_inside (qs i) p l n b b (alike_itself all l b) over) (λ e. refl) part.inner,
        row_stays r rest qs ps (suc i) (suc j) c (λ e. ap suc (f e)) h.2,
      )
  trimmed_stays listed t u (rebuilds r k l n m a b rest made unasked) qs ps i j c f h =
      let new = rebuilt_there (ps j) (λ x y now none. anew (ps j) k x n y a now none h.0) made (h.0, h.1, tt) in (
        keeps (qs i) (ps j) l m b b (alike_itself all l b) (c i j f) new.0,
        row_stays (is_list l) b (around (qs i) l m b) (around (ps j) l m b) 0 0 (covers_inside (qs i) (ps j) l m b b (alike_itself all l b) (c i j f)) (λ e. refl) new.1,
        row_stays r rest qs ps (suc i) (suc j) c (λ e. ap suc (f e)) h.2,
      )
  trimmed_stays listed t u (names_left r k n m a b rest made) qs ps i j c f h =
      let p = ps j in
      let here : (q : S) (l : Kind) (x : Note) (now : Forest) → opens l now ≡ false → Follows q p → P q l x now = λ q l x now none over. keeps q p l x now now (alike_itself all l now) over (anew p k l n x a now none h.0) in (
        here (qs i) a_var m b refl (c i j f),
        declared_there p (λ l x now none. anew p k l n x a now none h.0) here made (around (qs i) a_var m b) (λ z. enters (qs i) p a_var m b z refl (c i j f)),
        row_stays r rest qs ps (suc i) (suc j) c (λ e. ap suc (f e)) h.2,
      )
  trimmed_stays listed t u (inside r k n below now rest a g) qs ps i j c f h = (
    keeps (qs i) (ps j) k n now below a (c i j f) h.0,
    trimmed_stays (is_list k) below now g (around (qs i) k n now) (around (ps j) k n below) 0 0 (covers_inside (qs i) (ps j) k n now below a (c i j f)) (λ l. refl) h.1,
    row_stays r rest qs ps (suc i) (suc j) c (λ l. ap suc (f l)) h.2,
  )
  trimmed_stays listed t u (behind r k n below rest now g) qs ps i j c f h = (
    keeps (qs i) (ps j) k n below below (alike_itself all k below) (c i j f) h.0,
    row_stays (is_list k) below (around (qs i) k n below) (around (ps j) k n below) 0 0 (covers_inside (qs i) (ps j) k n below below (alike_itself all k below) (c i j f)) (λ l. refl) h.1,
    trimmed_stays r rest now g qs ps (suc i) (suc j) c (λ l. ap suc (f l)) h.2,
  )
  trimmed_stays listed t u (behind_none r rest now g) qs ps i j c f h = trimmed_stays r rest now g qs ps (suc i) (suc j) c (λ l. ap suc (f l)) h
