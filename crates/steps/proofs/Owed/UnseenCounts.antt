-- The table stays exact, with shorter lists, when a node leaves a list or becomes empty, where what it declares is unseen, or it declares
-- nothing.
use Rattle.std.proofs.Common.{◌≡◌, ◌∙◌, inl, inr, ℕ, Bool, true, false, List, [], ◌∷◌, ◌++◌, Option, Some, true≢false, refl, sym, ap, subst, arith}
use Rattle.js_syntax.specs.declared.node_kind.NodeKind.{NodeKind as Kind}
use Rattle.js_syntax.specs.declared.node_kind.NodeKind.TheVariants.{PropertyDefinition as property_definition, EmptyStatement as empty_statement}
use Rattle.js_syntax.specs.Node.{Forest, Tree, Note, nothing, node, forest_of}
use Rattle.scope_rules.specs.Context.{is_there, has_second, opens}
use Rattle.scope_rules.specs.Site.{BindingSite, sites_of, bindings_among}
use Rattle.scope_rules.specs.Table.{Symbol, Scoping}
use Rattle.scope_laws.specs.Exact.{Among, Exact}
use Rattle.scope_laws.specs.Place.{Around, plug}
use Rattle.scope_laws.specs.Lists.{is_list, without, is_listed}
use Rattle.scope_laws.proofs.Around.{stands_there}
use Rattle.scope_counts.specs.Counts.{Decl, named, hoisted, aims_inside, no_part}
use Rattle.scope_counts.specs.Exact.{count, references_of, lists_of}
use Rattle.scope_counts.specs.Edits as counts
use Rattle.scope_counts.specs.Edits.{Rooted, program_with, place_in, SameScopes, in_list}
use Rattle.scope_counts.specs.Losing.{is_gone, left, UsersLeave, DeclaresGone}
use Rattle.scope_counts.specs.Scopes.{ExactButMarks, unmarked}
use Rattle.scope_counts.proofs.Stays.{exact_without, exact_emptied}
use Rattle.scope_counts.proofs.Whole.{exact_with}
use Rattle.steps.proofs.KeepForm.Rules.{first_empty}
use Rattle.steps.specs.Owed.Kept.{is_program, IsKept}
use Rattle.steps.specs.Owed.Part.{DeclaresNothing}
use Rattle.steps.specs.Owed.Unseen.{IsUnreferred, IsUnseen}
use Rattle.steps.proofs.Owed.Outlying.{declares_before}
use Rattle.steps.proofs.Owed.Places.{place_of, rest_of, same_scopes, IsInside, inside_list, is_rooted}
use Rattle.steps.proofs.Owed.Pruning.{kept_but_marks}

-- ---- symbols that list no reference

abbrev is_nil : List ℕ → Bool
is_nil [] = true
is_nil (x ∷ xs) = false

abbrev pub unlisted : Scoping → ℕ → Bool
unlisted s z = is_nil (lists_of s z)

nil_counts : (r : ℕ) (ids : List ℕ) → is_nil ids ≡ true → count r ids ≡ 0
nil_counts r [] e = refl
nil_counts r (x ∷ ids) e = absurd (true≢false (sym e))

none_among : (ids : List ℕ) → ((id : ℕ) → Among id ids → ⊥) → is_nil ids ≡ true
none_among [] h = refl
none_among (x ∷ ids) h = absurd (h x (inl refl))

pub users_leave : (s : Scoping) (p : Rooted) (t u : Forest) → ExactButMarks s unmarked (program_with p t) → UsersLeave (unlisted s) (program_with p t) t u
users_leave s p t u x z g r h = absurd (Prim.omega (arith, h, x.lists z r, nil_counts r (lists_of s z) g))

-- the symbol of a declaration that nothing refers to
pub unreferred_unlisted : (s : Scoping) (t : Forest) → Exact s t → (b : BindingSite) → Among b (bindings_among (sites_of t)) → IsUnreferred t b → is_gone (unlisted s) b.id ≡ true
unreferred_unlisted s t x b h free =
    let d = x.declared b h in
    ap (is_gone (unlisted s)) d.is_marked
    ∙ ap (λ (o : Option Symbol). is_nil (references_of o)) d.stands
    ∙ none_among d.symbol.references (λ id i.
    let n = ((x.listed d.number d.symbol d.stands).holds id).0 i in
    let same = (x.one_symbol n.names.declaration b n.names.stands h).0 (n.names.is_marked ∙ sym d.is_marked) in
    free n.reference n.stands (n.names.binds ∙ ap Some same))

-- ---- nodes around, with an item of a list and without it

module _ (t u : Forest) where
  same_front : (a : counts.Around) → in_list false a ≡ true → is_there (counts.plug a t) ≡ is_there (counts.plug a u)
  same_front counts.here e = absurd (true≢false (sym e))
  same_front (counts.behind k n b a) e = refl
  same_front (counts.behind_none a) e = refl
  same_front (counts.under k n a rest) e = refl

  same_second : (a : counts.Around) → in_list false a ≡ true → has_second (counts.plug a t) ≡ has_second (counts.plug a u)
  same_second counts.here e = absurd (true≢false (sym e))
  same_second (counts.behind k n b a) e = same_front a e
  same_second (counts.behind_none a) e = same_front a e
  same_second (counts.under k n a rest) e = refl

  listed_opens : (k : Kind) (a : counts.Around) → in_list (is_list k) a ≡ true → opens k (counts.plug a t) ≡ opens k (counts.plug a u)
  listed_opens (property_definition is_static key) a e = same_second a e
  listed_opens k a e = refl

  listed_scopes : (a : counts.Around) (row : Bool) → in_list row a ≡ true → SameScopes a t u
  listed_scopes counts.here row e = tt
  listed_scopes (counts.behind k n b a) row e = listed_scopes a row e
  listed_scopes (counts.behind_none a) row e = listed_scopes a row e
  listed_scopes (counts.under k n a rest) row e = (listed_opens k a e, listed_scopes a (is_list k) e)

-- ---- at a place

module _ (a : Around) (x : Tree) (is : is_program (plug a (Some x)) ≡ true) where
  -- an empty statement comes in the place of a node whose declarations are gone
  empties : ((s : Scoping) → Exact s (plug a (Some x)) → DeclaresGone (unlisted s) x.kind x.note x.below) → IsInside a → (n : Note) (s : Scoping) → IsKept s (plug a (Some x))
      → IsKept s (plug a (Some (record { kind = empty_statement; note = n; below = nothing })))
  empties none inside n s kept =
      let place = is_rooted a x inside is in
      let p = place.rooted in
      let rest = rest_of a in
      let whole = node x.kind x.note x.below rest in
      let empty = node empty_statement n nothing rest in
      let old : IsKept s (program_with p whole) = subst (IsKept s) (place.with_node x) kept in
      let exact : ExactButMarks old.table unmarked (program_with p whole) = (exact_with p whole old.table).0 old.exact in
      let gone = none old.table (subst (Exact old.table) (sym (place.with_node x)) old.exact) in
      let scopes : SameScopes (place_in p) whole empty = subst (λ b. SameScopes b whole empty) (sym place.place_is)
      (same_scopes x.kind empty_statement x.note n x.below nothing rest (place_of place.inner)) in
      subst (IsKept s) (sym (place.with_node (record { kind = empty_statement; note = n; below = nothing })))
      (kept_but_marks p (left whole empty) whole empty s old
      (exact_emptied (unlisted old.table) p x.kind x.note n x.below rest gone scopes (users_leave old.table p whole empty exact) old.table unmarked (left whole empty) (λ r. refl) exact))

  abbrev whole : Forest
  whole = node x.kind x.note x.below (rest_of a)

  -- it leaves a list
  gone_leaves : ((s : Scoping) → Exact s (plug a (Some x)) → DeclaresGone (unlisted s) x.kind x.note x.below) → is_listed false a ≡ true → (s : Scoping) → IsKept s (plug a (Some x)) → IsKept s (without a)
  gone_leaves none listed s kept =
      let inside = inside_list a listed in
      let place = is_rooted a x inside is in
      let p = place.rooted in
      let rest = rest_of a in
      let old : IsKept s (program_with p whole) = subst (IsKept s) (place.with_node x) kept in
      let exact : ExactButMarks old.table unmarked (program_with p whole) = (exact_with p whole old.table).0 old.exact in
      let gone = none old.table (subst (Exact old.table) (sym (place.with_node x)) old.exact) in
      let in_it : in_list false (place_in p) ≡ true = sym place.listed ∙ listed in
      subst (IsKept s) (sym place.with_none)
      (kept_but_marks p (left whole rest) whole rest s old
      (exact_without (unlisted old.table) p x.kind x.note x.below rest gone (listed_scopes whole rest (place_in p) false in_it) in_it
      (users_leave old.table p whole rest exact) old.table unmarked (left whole rest) (λ r. refl) exact))

module _ (a : Around) (x : Tree) (unseen : IsUnseen a (Some x)) (is : is_program (plug a (Some x)) ≡ true) where
  declares_gone : IsInside a → (s : Scoping) → Exact s (plug a (Some x)) → DeclaresGone (unlisted s) x.kind x.note x.below
  declares_gone inside s exact aims d i =
      let b = declares_before x aims d i a inside is in
      subst (λ (e : Decl). is_gone (unlisted s) e.symbol ≡ true) b.is
      (elim (unseen b.site b.stands) [
        | inl w ↦ absurd (Prim.omega (arith, w.from, b.outlies))
        | inr free ↦ unreferred_unlisted s (plug a (Some x)) exact b.site (stands_there a (Some x) b.site b.stands) free
      ])

  -- it leaves a list
  pub unseen_leaves : is_listed false a ≡ true → (s : Scoping) → IsKept s (plug a (Some x)) → IsKept s (without a)
  unseen_leaves listed = gone_leaves a x is (declares_gone (inside_list a listed)) listed

  -- an empty statement comes in its place
  pub unseen_empties : IsInside a → (n : Note) (s : Scoping) → IsKept s (plug a (Some x)) → IsKept s (plug a (Some (record { kind = empty_statement; note = n; below = nothing })))
  unseen_empties inside = empties a x is (declares_gone inside) inside

-- what declares nothing declares nothing that isn't gone
idle_gone : (x : Tree) → DeclaresNothing (forest_of x) → (s : Scoping) → DeclaresGone (unlisted s) x.kind x.note x.below
idle_gone x none s aims d i = absurd (subst (Among d) (first_empty (named aims x.note x.kind ++ hoisted (aims_inside no_part aims x.kind x.below) 0 x.below) [] (none (λ at. aims) 0)) i)

-- so does one that declares nothing
pub idle_empties : (a : Around) (x : Tree) → DeclaresNothing (forest_of x) → is_program (plug a (Some x)) ≡ true → IsInside a → (n : Note) (s : Scoping) → IsKept s (plug a (Some x)) → IsKept s (plug a (Some (record { kind = empty_statement; note = n; below = nothing })))
idle_empties a x none is inside =
    empties a x is (λ s exact. idle_gone x none s) inside

pub idle_leaves : (a : Around) (x : Tree) → DeclaresNothing (forest_of x) → is_program (plug a (Some x)) ≡ true → is_listed false a ≡ true → (s : Scoping) → IsKept s (plug a (Some x)) → IsKept s (without a)
idle_leaves a x none is listed = gone_leaves a x is (λ s exact. idle_gone x none s) listed
