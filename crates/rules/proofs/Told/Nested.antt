-- The scopes of a table stand in one another as the nodes of a program do: of a new table, and behind edits.
use Rattle.std.specs.Prelude.{map}
use Rattle.std.proofs.Common.{◌≡◌, ◌∙◌, ◌⊎◌, inl, inr, ◌≤◌, ◌<◌, ◌+◌, ℕ, suc, List, [], ◌∷◌, Bool, true, false, if◌then◌else◌, cond, nat_eq, Option, Some, None, refl, sym, ap, ap₂, subst, arith}
use Rattle.std.proofs.lemmas.Bool.{eqb-true}
use Rattle.std.specs.Option.{option_to_list}
use Rattle.js_syntax.specs.declared.node_kind.NodeKind.{NodeKind as Kind}
use Rattle.js_syntax.specs.declared.node_kind.NodeKind.TheVariants as kind
use Rattle.js_syntax.specs.Class.{root}
use Rattle.js_syntax.specs.Node.{Forest, Note, Tree, nothing, node, absent, nowhere, row, joined, alone}
use Rattle.js_syntax.proofs.Truth.{first_of_both, second_of_both}
use Rattle.js_rebuilt.specs.Rebuilt.{is_operation, Rebuilt, ends, stays, leaves as leaves_whole, opened, built, absent_leaves, absent_comes}
use Rattle.json_shape.specs.Shape.{Fits}
use Rattle.kept_names.specs.Kept.{declarator_of}
use Rattle.scope_rules.specs.Context.{Context, opens, inside, outermost}
use Rattle.scope_rules.specs.Site.{opens_one, scope_count, sites_of, found_in}
use Rattle.scope_rules.specs.Table.{Scoping, scoping_of, symbols_declared}
use Rattle.scope_rules.specs.Mark.{marked, first_marks}
use Rattle.scope_table.specs.Reading.{scope_at}
use Rattle.scope_counts.specs.Exact.{count}
use Rattle.scope_counts.proofs.Rebuilding.{operation_is_plain}
use Rattle.scope_laws.specs.Lists.{is_list}
use Rattle.steps.specs.KeepForm.Part.{a_var}
use Rattle.steps.specs.KeepForm.Sheds.{other}
use Rattle.steps.proofs.KeepForm.Fitting.{fits_laid_out}
use Rattle.steps.specs.Allowed.Edits.{Edit, TreeEdits, no_tree_edit, one_tree_edit}
use Rattle.steps.proofs.Owed.FitsEdits.{edit_fits}
use Rattle.steps.specs.Marked.Flags.{is_within}
use Rattle.steps.proofs.Marked.Cuts.{Cuts, edit_cuts}
use Rattle.steps.proofs.VarNames.Again.{is_name_alone, is_bare_name, are_names}
use Rattle.steps.proofs.VarNames.Left.{NamesLeft}
use Rattle.rules.proofs.Told.Marks.{marks_of_node}
use Rattle.rules.proofs.Told.Merged.{merged_nests}
use Rattle.rules.proofs.Told.Passed.{passed_nests}
use Rattle.steps.proofs.Marked.Exposing.{never}
use Rattle.rules.specs.Told.Places.{EachPlace}
use Rattle.rules.specs.Told.Nesting.{scope_inside, IsScopeIn, NestsAt, own_scope, scope_marks, ScopesNest}
use Rattle.rules.proofs.Told.Standing.{strict_code, within_opens, operation_outside}
use Rattle.rules.proofs.Told.Contexts.{looks, inside_looks}
use Rattle.rules.proofs.Told.Made.{IsMade, scope_of, EachMade, new_made}
use Rattle.rules.proofs.Told.Trims.{Trims, leaves, empties, empties_idle, tests, states, alternate, parts, rebuilds, names_left, inside as inside_it, behind, behind_none, trims}
use Rattle.rules.proofs.Told.Walking.{trimmed_stays}
use Rattle.steps.specs.KeepForm.Part.{declares_one}

-- ---- a new table

first_if : (w : Bool) (o q : Option ℕ) (l m : Option ℕ × Bool) → (w ≡ true → o ≡ l.0) → q ≡ m.0 → (if w then o else q) ≡ (if w then l else m).0
first_if true o q l m f e = f refl
first_if false o q l m f e = e

-- a number stands in no row, or once in one whose numbers go from one to another
abbrev Hits : (i low high times : ℕ) → Type 0
Hits i low high times = (times ≡ 0) ⊎ ((times ≡ 1) × (low ≤ i) × (i < high))

hits_both : (i low middle high x y : ℕ) → low ≤ middle → middle ≤ high → Hits i low middle x → Hits i middle high y → Hits i low high (x + y)
hits_both i low middle high x y f g (inl a) (inl b) = inl (Prim.omega (arith, a, b))
hits_both i low middle high x y f g (inl a) (inr b) = inr (Prim.omega (arith, a, b.0), Prim.omega (arith, f, b.1), b.2)
hits_both i low middle high x y f g (inr a) (inl b) = inr (Prim.omega (arith, a.0, b), a.1, Prim.omega (arith, g, a.2))
hits_both i low middle high x y f g (inr a) (inr b) = absurd (Prim.omega (arith, a.2, b.1))

hits_one : (i next : ℕ) (b : Bool) → nat_eq i next ≡ b → Hits i next (next + 1) (cond b 1 0 + 0)
hits_one i next true e = let same : i ≡ next = eqb-true i next e in inr (refl, Prim.omega (arith, same), Prim.omega (arith, same))
hits_one i next false e = inl refl

module _ (s : Scoping) where
  scope_same : (c : Context) (next : ℕ) (k : Kind) (n : Note) (below : Forest) (around : Option ℕ) → (opens k below ≡ true → IsMade s next (scope_of s c n k below)) → around ≡ c.scope → (at : ℕ)
      → scope_inside around k n below at ≡ (inside c next k below at).scope
  scope_same c next k n below around made same at =
      first_if (is_within k below at) n.id around (Some next, strict_code c.strict k below) (looks c) (λ w. (made (within_opens k below at w)).mark) same ∙ sym (ap (λ l. l.0) (inside_looks c next k below at))

  row_nests : (t : Forest) (cs : ℕ → Context) (os : ℕ → Option ℕ) (at next : ℕ) → EachMade s cs at next t → ((i : ℕ) → os i ≡ (cs i).scope) → EachPlace scope_inside (NestsAt s) os at t
  row_nests nothing cs os at next made same = tt
  row_nests (absent rest) cs os at next made same = row_nests rest cs os (suc at) next made same
  row_nests (node k n below rest) cs os at next made same = (
    (λ o. let m = made.0 o in record { number = next; is_marked = m.mark; parent = m.parent ∙ sym (same at) }),
    row_nests below (inside (cs at) next k below) (scope_inside (os at) k n below) 0 (next + opens_one k below) made.1 (scope_same (cs at) next k n below (os at) made.0 (same at)),
    row_nests rest cs os (suc at) (next + scope_count (node k n below nothing)) made.2 same,
  )

  own_hits : (i next : ℕ) (b : Bool) (n : Note) → (b ≡ true → n.id ≡ Some next) → Hits i next (next + (if b then 1 else 0)) (count i (if b then option_to_list n.id else []))
  own_hits i next true n is = subst (λ o. Hits i next (next + 1) (count i (option_to_list o))) (sym (is refl)) (hits_one i next (nat_eq i next) refl)
  own_hits i next false n is = inl refl

  row_hits : (i : ℕ) (t : Forest) (cs : ℕ → Context) (at next : ℕ) → EachMade s cs at next t → Hits i next (next + scope_count t) (count i (scope_marks t))
  row_hits i nothing cs at next made = inl refl
  row_hits i (absent rest) cs at next made = row_hits i rest cs (suc at) next made
  row_hits i (node k n below rest) cs at next made =
      let own = own_hits i next (opens k below) n (λ o. (made.0 o).mark) in
      let inner = row_hits i below (inside (cs at) next k below) 0 (next + opens_one k below) made.1 in
      let behind_it = next + scope_count (node k n below nothing) in
      let outer = row_hits i rest cs (suc at) behind_it made.2 in
      let there : next + opens_one k below + scope_count below ≡ behind_it = Prim.omega arith in
      let last : behind_it + scope_count rest ≡ next + scope_count (node k n below rest) = Prim.omega arith in
      let sum = marks_of_node i k n below rest in
      let both = hits_both i (next + opens_one k below) behind_it (next + scope_count (node k n below rest)) (count i (scope_marks below)) (count i (scope_marks rest)) (Prim.omega (arith, there)) (Prim.omega (arith, last))
      (subst (λ h. Hits i (next + opens_one k below) h (count i (scope_marks below))) there inner) (subst (λ h. Hits i behind_it h (count i (scope_marks rest))) last outer) in
      subst (λ x. Hits i next (next + scope_count (node k n below rest)) x) (sym sum)
      (hits_both i next (next + opens_one k below) (next + scope_count (node k n below rest)) (count i (own_scope k n below)) (count i (scope_marks below) + count i (scope_marks rest)) (Prim.omega arith) (Prim.omega arith) own both)

once_hit : (i low high x : ℕ) → Hits i low high x → x ≤ 1
once_hit i low high x (inl e) = Prim.omega (arith, e)
once_hit i low high x (inr e) = Prim.omega (arith, e.0)

pub new_nests : (t : Forest) → let f = found_in (sites_of t) in ScopesNest (scoping_of f) (marked (first_marks (symbols_declared f.bindings)) t)
new_nests t =
    let f = found_in (sites_of t) in
    let s = scoping_of f in
    let u = marked (first_marks (symbols_declared f.bindings)) t in
    let made = new_made t in
    record { nested = row_nests s u (λ at. outermost) (λ at. None) 0 0 made (λ i. refl); once = λ i. once_hit i 0 (0 + scope_count u) (count i (scope_marks u)) (row_hits s i u (λ at. outermost) 0 0 made) }

-- ---- edits

part_marks : (i : ℕ) (v : Forest) (l : Kind) (j : Note) (b w : Forest) → count i (own_scope l j b) + count i (scope_marks b) ≤ count i (scope_marks (joined v (node l j b w)))
part_marks i nothing l j b w = Prim.omega (arith, marks_of_node i l j b w)
part_marks i (absent v) l j b w = part_marks i v l j b w
part_marks i (node k n c v) l j b w = Prim.omega (arith, marks_of_node i k n c (joined v (node l j b w)), part_marks i v l j b w)

marks_joined : (i : ℕ) (t u : Forest) → count i (scope_marks (joined t u)) ≡ count i (scope_marks t) + count i (scope_marks u)
marks_joined i nothing u = Prim.omega arith
marks_joined i (absent t) u = marks_joined i t u
marks_joined i (node k n a t) u = Prim.omega (arith, marks_of_node i k n a (joined t u), marks_of_node i k n a t, marks_joined i t u)

-- an operation makes no scope
marks_opened : (i : ℕ) (k : Kind) (n : Note) (a r : Forest) → is_operation k ≡ true → count i (scope_marks (node k n a r)) ≡ count i (scope_marks (joined a r))
marks_opened i k n a r is =
    let none : count i (own_scope k n a) ≡ 0 = ap (λ b. count i (if b then option_to_list n.id else [])) ((operation_is_plain k is).opens_none a) in
    Prim.omega (arith, none, marks_of_node i k n a r, marks_joined i a r)

rebuilt_marks : (i : ℕ) {t u : Forest} → Rebuilt t u → count i (scope_marks u) ≤ count i (scope_marks t)
rebuilt_marks i ends = Prim.omega arith
rebuilt_marks i (stays {k = k} {n = n} {a = a} {r = r} {s = s} rest) = Prim.omega (arith, marks_of_node i k n a r, marks_of_node i k n a s, rebuilt_marks i rest)
rebuilt_marks i (leaves_whole {k = k} {n = n} {a = a} {r = r} rest) = Prim.omega (arith, marks_of_node i k n a r, rebuilt_marks i rest)
rebuilt_marks i (opened {k = k} {n = n} {a = a} {r = r} is rest) = Prim.omega (arith, marks_opened i k n a r is, rebuilt_marks i rest)
rebuilt_marks i (built {l = l} {m = m} {b = b} {s = s} may rest) = Prim.omega (arith, marks_opened i l m b s may.operation, rebuilt_marks i rest)
rebuilt_marks i (absent_leaves rest) = rebuilt_marks i rest
rebuilt_marks i (absent_comes rest) = rebuilt_marks i rest

-- nor do names
name_unmarked : (i : ℕ) (k : Kind) (m : Note) (b : Forest) → is_name_alone k b ≡ true → count i (scope_marks (node k m b (absent nothing))) ≡ 0
name_unmarked i (kind.BindingName x) m nothing h = refl
name_unmarked i (kind.BindingName x) m (absent r) h = absurd cc
name_unmarked i (kind.BindingName x) m (node j o c r) h = absurd cc
name_unmarked i k m b h = absurd cc

names_unmarked : (i : ℕ) (ts : List Tree) → are_names ts ≡ true → count i (scope_marks (row (map declarator_of ts))) ≡ 0
names_unmarked i [] h = refl
names_unmarked i (t ∷ ts) h =
    let name = node t.kind t.note t.below (absent nothing) in
    Prim.omega (
      arith,
      marks_of_node i kind.VariableDeclarator (record { span = t.note.span; id = None }) name (row (map declarator_of ts)),
      name_unmarked i t.kind t.note t.below (first_of_both (is_bare_name t) (are_names ts) h),
      names_unmarked i ts (second_of_both (is_bare_name t) (are_names ts) h),
    )

declared_unmarked : (i : ℕ) {k : Kind} {n m : Note} {a b : Forest} → NamesLeft k n a m b → count i (scope_marks b) ≡ 0
declared_unmarked i made =
    let inner = row (map declarator_of made.names) in
    let none : count i (scope_marks (node kind.Declarators nowhere inner nothing)) ≡ 0 = Prim.omega (arith, marks_of_node i kind.Declarators nowhere inner nothing, names_unmarked i made.names made.bare) in
    ap (λ t. count i (scope_marks t)) made.is ∙ none

fewer_marks : (i : ℕ) (all listed : Bool) (t u : Forest) → Trims all listed t u → count i (scope_marks u) ≤ count i (scope_marks t)
fewer_marks i all listed t u (leaves k n below rest) = Prim.omega (arith, marks_of_node i k n below rest)
fewer_marks i all listed t u (empties r n m below rest) = Prim.omega (arith, marks_of_node i kind.ExpressionStatement n below rest)
fewer_marks i all listed t u (empties_idle r k n m below rest idle) = Prim.omega (arith, marks_of_node i k n below rest)
fewer_marks i all listed t u (tests r k l n m j b after rest tested) =
    Prim.omega (arith, marks_of_node i kind.ExpressionStatement m (node l j b nothing) rest, marks_of_node i k n (node l j b after) rest, marks_of_node i l j b nothing, marks_of_node i l j b after)
fewer_marks i all listed t u (states r how x k n m l j y o b rest) =
    let value = alone k y b in
    let name = node (kind.BindingName x) j nothing value in
    let declarator = alone kind.VariableDeclarator l name in
    let whole = declares_one m l j x value in
    Prim.omega (
      arith,
      marks_of_node i kind.ExpressionStatement o value rest,
      marks_of_node i (kind.VariableDeclaration how) n whole rest,
      marks_of_node i kind.Declarators m declarator nothing,
      marks_of_node i kind.VariableDeclarator l name nothing,
      marks_of_node i (kind.BindingName x) j nothing value,
    )
fewer_marks i all listed t u (alternate k l n m o below b) =
    let last = node kind.EmptyStatement o nothing nothing in
    Prim.omega (arith, marks_of_node i k n below (node l m b last), marks_of_node i k n below (node l m b (absent nothing)), marks_of_node i l m b last, marks_of_node i l m b (absent nothing))
fewer_marks i all listed t u (parts r k l m n b v w rest gives) = Prim.omega (arith, marks_of_node i l n b rest, marks_of_node i k m (joined v (node l n b w)) rest, part_marks i v l n b w)
fewer_marks i all listed t u (rebuilds r k l n m a b rest made unasked) =
    Prim.omega (arith, marks_of_node i k n a rest, marks_of_node i l m b rest, marks_of_node i k n a nothing, marks_of_node i l m b nothing, rebuilt_marks i made)
fewer_marks i all listed t u (names_left r k n m a b rest made) = Prim.omega (arith, marks_of_node i k n a rest, marks_of_node i a_var m b rest, declared_unmarked i made)
fewer_marks i all listed t u (inside_it r k n below now rest a h) =
    let own : count i (own_scope k n now) ≡ count i (own_scope k n below) = ap (λ b. count i (if b then option_to_list n.id else [])) a.opens in
    Prim.omega (arith, marks_of_node i k n below rest, marks_of_node i k n now rest, own, fewer_marks i all (is_list k) below now h)
fewer_marks i all listed t u (behind r k n below rest now h) = Prim.omega (arith, marks_of_node i k n below rest, marks_of_node i k n below now, fewer_marks i all r rest now h)
fewer_marks i all listed t u (behind_none r rest now h) = fewer_marks i all r rest now h

cut_nests : (s : Scoping) (t u : Forest) → Cuts false t u → Fits root t → ScopesNest s t → ScopesNest s u
cut_nests s t u c fits h =
    let trimmed = trims false false other t u c (fits_laid_out t fits) (λ g. never g) in
    record {
      nested = trimmed_stays false scope_inside (NestsAt s) (λ q p. q ≡ p) (λ q p k n now below a f i j w. ap₂ (λ (b : Bool) (o : Option ℕ). if b then n.id else o) w f)
          (λ q p k n below at w f. f ∙ sym (ap (λ (b : Bool). if b then n.id else p) w)) (λ q p k n now at w f. ap (λ (b : Bool). if b then n.id else q) w ∙ f) (λ q p k n now below a f x o. subst (λ y. IsScopeIn s y n) (sym f) (x (sym a.opens ∙ o))) (λ p k l n m below now none x o. never (sym none ∙ o)) (λ k is p n below at. ap (λ (b : Bool). if b then n.id else p) (operation_outside k is below at)) (λ p n below at. refl) false t u trimmed (λ at. None)
          (λ at. None) 0 0 (λ i j f. refl) (λ l. refl) h.nested;
      once = λ i. Prim.omega (arith, h.once i, fewer_marks i false false t u trimmed);
    }

edit_nests : (s : Scoping) (t u : Forest) → Edit t u → Fits root t → ScopesNest s t → ScopesNest s u
edit_nests s t u e fits h = elim (edit_cuts t u e fits) [
  | inl c ↦ cut_nests s t u c fits h
  | inr (inl m) ↦ merged_nests s t u m h
  | inr (inr p) ↦ passed_nests s t u p h
]

pub edits_nest : (s : Scoping) (t u : Forest) → TreeEdits t u → Fits root t → ScopesNest s t → ScopesNest s u
edits_nest s t u (no_tree_edit v) fits h = h
edits_nest s t u (one_tree_edit v w x e more) fits h = edits_nest s w x more (edit_fits v w e fits) (edit_nests s v w e fits h)

-- ---- another table with the same parents

same_nests : (s now : Scoping) → ((n : ℕ) → (scope_at now n).parent ≡ (scope_at s n).parent) → (os : ℕ → Option ℕ) (at : ℕ) (t : Forest) → EachPlace scope_inside (NestsAt s) os at t → EachPlace scope_inside (NestsAt now) os at t
same_nests s now same os at nothing h = tt
same_nests s now same os at (absent rest) h = same_nests s now same os (suc at) rest h
same_nests s now same os at (node k n below rest) h = (
  (λ o. let x = h.0 o in record { number = x.number; is_marked = x.is_marked; parent = same x.number ∙ x.parent }),
  same_nests s now same (scope_inside (os at) k n below) 0 below h.1,
  same_nests s now same os (suc at) rest h.2,
)

pub parents_alone : (t : Forest) (s now : Scoping) → ((n : ℕ) → (scope_at now n).parent ≡ (scope_at s n).parent) → ScopesNest s t → ScopesNest now t
parents_alone t s now same h = record { nested = same_nests s now same (λ at. None) 0 t h.nested; once = h.once }
