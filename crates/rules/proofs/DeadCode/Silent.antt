-- What has no effects by the facts is silent where it stands.
use Rattle.std.proofs.Common.{◌≡◌, ◌∙◌, ◌⊎◌, ◌+◌, ℕ, suc, List, ◌++◌, Bool, true, false, ◌||◌, true≢false, is_some, codes, bytes_eq, Option, Some, None, inl, inr, refl, sym, ap, subst}
use Rattle.std.proofs.lemmas.Bool.{or_cases}
use Rattle.std.proofs.lemmas.Option.{get_or_from_slice_get}
use Rattle.js_syntax.specs.declared.node_kind.NodeKind.{NodeKind as Kind}
use Rattle.js_syntax.specs.declared.node_kind.NodeKind.TheVariants.{ReferenceName as reference_name}
use Rattle.js_syntax.specs.Node.{Forest, Tree, Note, nothing, node, absent}
use Rattle.js_syntax.specs.declared.operator.UnaryOperator.TheVariants as unary
use Rattle.js_effects.specs.declared.surroundings.Surroundings.{Surroundings}
use Rattle.js_effects.specs.Still.{is_value}
use Rattle.js_effects.specs.Silence.{runs_its_parts, is_marked, is_known_name, is_this, is_known, has_effect, may_have_effects}
use Rattle.js_effects.proofs.Sorts.{by_sort, known_by}
use Rattle.min_pass.specs.declared.around.Around.{Around as Asked}
use Rattle.min_pass.specs.Around.{is_with, entered as asked_below, outermost as asked_of_program}
use Rattle.scope_rules.specs.Context.{Context, inside, outermost}
use Rattle.scope_rules.specs.Site.{Site, BindingSite, ReferenceSite, own_sites, opens_one, scope_count, sites, sites_of, bindings_among, references_among}
use Rattle.scope_rules.specs.Binding.{binding_of}
use Rattle.scope_rules.specs.Table.{Reference}
use Rattle.scope_table.specs.Reading.{no_reference, reference_at}
use Rattle.scope_laws.specs.Exact.{Among, Names}
use Rattle.scope_laws.specs.Place.{Around, first, behind, behind_none, under, one_place, plug, there, sites_before, sites_there, sites_after}
use Rattle.scope_laws.proofs.Among.{among_left, among_right}
use Rattle.scope_laws.proofs.Around.{references_append, references_split, stands_there}
use Rattle.steps.specs.Allowed.Silent.{read_in, IsFound, IsSilentNode, IsSilent, HoldsThere}
use Rattle.steps.specs.Allowed.Places.{asked_at, At}
use Rattle.steps.proofs.Owed.Pruning.{pruned, prunes}
use Rattle.steps.proofs.Marked.Tables.{pruned_exact}
use Rattle.js_syntax.proofs.Truth.{first_of_neither, second_of_neither}
use Rattle.rules.specs.DeadCode.Rules.{Facts}
use Rattle.rules.specs.DeadCode.Knows.{Knows}

-- ---- the references of a node's parts

abbrev pub AllOf : List ReferenceSite → List Site → Type 0
AllOf all ss = (r : ReferenceSite) → Among r (references_among ss) → Among r all

pub of_left : (all : List ReferenceSite) (xs ys : List Site) → AllOf all (xs ++ ys) → AllOf all xs
of_left all xs ys m = λ r h. m r (subst (Among r) (sym (references_append xs ys)) (among_left r (references_among xs) (references_among ys) h))

pub of_right : (all : List ReferenceSite) (xs ys : List Site) → AllOf all (xs ++ ys) → AllOf all ys
of_right all xs ys m = λ r h. m r (subst (Among r) (sym (references_append xs ys)) (among_right r (references_among xs) (references_among ys) h))

-- ---- marks of references

pub record MarkedAs (marks : List Bool) (o : Option ℕ) : Type 0 where
  pub id : ℕ
  pub is : o ≡ Some id
  pub marked : is_marked marks (Some id) ≡ true

pub marked_as : (marks : List Bool) (o : Option ℕ) → is_marked marks o ≡ true → MarkedAs marks o
marked_as marks None e = absurd (true≢false (sym e))
marked_as marks (Some n) e = record { id = n; is = refl; marked = e }

value_of : (o : Option ℕ) → is_some o ≡ true → (n : ℕ) × (o ≡ Some n)
value_of None e = absurd (true≢false (sym e))
value_of (Some n) e = (n, refl)

named_binds : (bs : List BindingSite) (r : ReferenceSite) (symbol : ℕ) → Names bs r symbol → is_some (binding_of bs r) ≡ true
named_binds bs r symbol n = ap is_some n.binds

-- what is marked is bound
abbrev pub Binds : List Bool → Forest → Type 0
Binds bound v = (r : ReferenceSite) → Among r (references_among (sites_of v)) → is_marked bound r.id ≡ true → is_some (binding_of (bindings_among (sites_of v)) r) ≡ true

pub known_binds : (f : Facts) (marked : ℕ → Bool) (v : Forest) → Knows f marked v → Binds f.bound v
known_binds f marked v h r stands is =
    let exact = pruned_exact v h.fits marked f.scoping (pruned marked f.scoping) (prunes marked f.scoping) h.exact in
    let e = exact.entered r stands in
    let there : is_some (reference_at f.scoping e.id).symbol ≡ true = sym (h.bound e.id) ∙ ap (is_marked f.bound) (sym e.has_id) ∙ is in
    let same : reference_at f.scoping e.id ≡ e.entry = get_or_from_slice_get f.scoping.references e.id e.entry no_reference e.stands in
    let symbol = value_of e.entry.symbol (ap (λ (x : Reference). is_some x.symbol) (sym same) ∙ there) in
    named_binds (bindings_among (sites_of v)) r symbol.0 ((e.names symbol.0).0 symbol.1)

-- ---- by the sort of node

abbrev IsIdle : (v k r b : Bool) → Type 0
IsIdle v k r b = (v ≡ true) ⊎ ((k ≡ true) ⊎ ((r ≡ true) × (b ≡ false)))

module _ (bound : List Bool) (v : Forest) (binds : Binds bound v) where
  name_found : (w : Surroundings) (cs : ℕ → Context) (at next : ℕ) (k : Kind) (n : Note) (below rest : Forest) → AllOf (references_among (sites_of v)) (sites cs at next (node k n below rest)) → w.in_with ≡ false → is_known_name bound k n below ≡ true
      → IsFound (bindings_among (sites_of v)) w (cs at) k n below
  name_found w cs at next (reference_name x) n below rest m outside e = (
    outside,
    elim (or_cases (is_marked bound n.id) (bytes_eq x (codes "undefined")) e) [
      | inl h ↦ inl (binds (read_in (cs at) n x) (m (read_in (cs at) n x) (inl refl)) h)
      | inr h ↦ inr h
    ],
  )
  name_found w cs at next (Kind.UnaryExpression unary.Typeof) n below rest m outside e = (outside, e)
  name_found w cs at next k n below rest m outside e = absurd (true≢false (sym e))

  this_found : (w : Surroundings) (c : Context) (k : Kind) (n : Note) (below : Forest) → w.in_class ≡ false → is_this k ≡ true → IsFound (bindings_among (sites_of v)) w c k n below
  this_found w c Kind.ThisExpression n below outside e = outside
  this_found w c k n below outside e = absurd (true≢false (sym e))

  found : (w : Surroundings) (cs : ℕ → Context) (at next : ℕ) (k : Kind) (n : Note) (below rest : Forest) → AllOf (references_among (sites_of v)) (sites cs at next (node k n below rest)) → is_known bound w k n below ≡ true
      → IsFound (bindings_among (sites_of v)) w (cs at) k n below
  found w cs at next k n below rest m e = elim (known_by bound w k n below e) [
    | inl b ↦ name_found w cs at next k n below rest m b.0 b.1
    | inr b ↦ this_found w (cs at) k n below b.0 b.1
  ]

  silent_node : (w : Surroundings) (cs : ℕ → Context) (at next : ℕ) (k : Kind) (n : Note) (below rest : Forest) (parts : Type 0) → AllOf (references_among (sites_of v)) (sites cs at next (node k n below rest)) → (may_have_effects bound w below ≡ false → parts)
      → IsIdle (is_value k) (is_known bound w k n below) (runs_its_parts k below) (may_have_effects bound w below) → IsSilentNode (bindings_among (sites_of v)) w (cs at) k n below parts
  silent_node w cs at next k n below rest parts m then_ (inl e) = inl e
  silent_node w cs at next k n below rest parts m then_ (inr (inl e)) = inr (inl (found w cs at next k n below rest m e))
  silent_node w cs at next k n below rest parts m then_ (inr (inr e)) = inr (inr (e.0, then_ e.1))

  pub silent_row : (w : Surroundings) (cs : ℕ → Context) (at next : ℕ) (f : Forest) → AllOf (references_among (sites_of v)) (sites cs at next f) → may_have_effects bound w f ≡ false → IsSilent (bindings_among (sites_of v)) w cs at next f
  silent_row w cs at next nothing m e = tt
  silent_row w cs at next (absent rest) m e = silent_row w cs (suc at) next rest m e
  silent_row w cs at next (node k n below rest) m e =
      let own = own_sites (cs at) n k below in
      let inner = sites (inside (cs at) next k below) 0 (next + opens_one k below) below in
      let outer = sites cs (suc at) (next + scope_count (node k n below nothing)) rest in
      let all = references_among (sites_of v) in
      let effect = has_effect bound w k n below (may_have_effects bound w below) in (
        silent_node w cs at next k n below rest (IsSilent (bindings_among (sites_of v)) w (inside (cs at) next k below) 0 (next + opens_one k below) below) m
            (silent_row w (inside (cs at) next k below) 0 (next + opens_one k below) below (of_right all own inner (of_left all (own ++ inner) outer m)))
            (by_sort (is_value k) (is_known bound w k n below) (runs_its_parts k below) (may_have_effects bound w below) (first_of_neither effect (may_have_effects bound w rest) e)),
        silent_row w cs (suc at) (next + scope_count (node k n below nothing)) rest (of_right all (own ++ inner) outer m) (second_of_neither effect (may_have_effects bound w rest) e),
      )

-- ---- at a place

pub holds_there : (all : List ReferenceSite) (x : Option Tree) (holds : Bool → Context → ℕ → Type 0) (asked : Asked) (cs : ℕ → Context) (at next : ℕ) (a : Around) → AllOf all (there cs at next a x)
    → ((ds : ℕ → Context) (place before : ℕ) → AllOf all (sites ds place before (one_place x)) → holds (asked_at asked a).in_with (ds place) before) → HoldsThere asked.in_with cs at next a x holds
holds_there all x holds asked cs at next (first rest) m by = by cs at next m
holds_there all x holds asked cs at next (behind k n below a) m by = holds_there all x holds asked cs (suc at) (next + scope_count (node k n below nothing)) a m by
holds_there all x holds asked cs at next (behind_none a) m by = holds_there all x holds asked cs (suc at) next a m by
holds_there all x holds asked cs at next (under k n a rest) m by = holds_there all x holds (asked_below asked k) (inside (cs at) next k (plug a x)) 0 (next + opens_one k (plug a x)) a m by

pub all_there : (a : Around) (x : Option Tree) → AllOf (references_among (sites_of (plug a x))) (sites_there a x)
all_there a x = λ r h.
    subst (Among r) (sym (references_split a x))
    (among_right r (references_among (sites_before a x)) (references_among (sites_there a x) ++ references_among (sites_after a x)) (among_left r (references_among (sites_there a x)) (references_among (sites_after a x)) h))

pub silent_at : (a : Around) (x : Option Tree) (holds : Bool → Context → ℕ → Type 0)
    → ((ds : ℕ → Context) (place before : ℕ) → AllOf (references_among (sites_of (plug a x))) (sites ds place before (one_place x)) → holds (asked_at (asked_of_program true) a).in_with (ds place) before) → At a x holds
silent_at a x holds by = holds_there (references_among (sites_of (plug a x))) x holds (asked_of_program true) (λ at. outermost) 0 0 a (all_there a x) by

abbrev pub AllDeclared : List BindingSite → List Site → Type 0
AllDeclared all ss = (b : BindingSite) → Among b (bindings_among ss) → Among b all

holds_of_declared : (all : List BindingSite) (x : Option Tree) (holds : Bool → Context → ℕ → Type 0) (in_with : Bool) (cs : ℕ → Context) (at next : ℕ) (a : Around) → AllDeclared all (there cs at next a x)
    → ((w : Bool) (ds : ℕ → Context) (place before : ℕ) → AllDeclared all (sites ds place before (one_place x)) → holds w (ds place) before) → HoldsThere in_with cs at next a x holds
holds_of_declared all x holds in_with cs at next (first rest) m by = by in_with cs at next m
holds_of_declared all x holds in_with cs at next (behind k n below a) m by = holds_of_declared all x holds in_with cs (suc at) (next + scope_count (node k n below nothing)) a m by
holds_of_declared all x holds in_with cs at next (behind_none a) m by = holds_of_declared all x holds in_with cs (suc at) next a m by
holds_of_declared all x holds in_with cs at next (under k n a rest) m by = holds_of_declared all x holds (in_with || is_with k) (inside (cs at) next k (plug a x)) 0 (next + opens_one k (plug a x)) a m by

pub declared_at : (a : Around) (x : Option Tree) (holds : Bool → Context → ℕ → Type 0)
    → ((w : Bool) (ds : ℕ → Context) (place before : ℕ) → AllDeclared (bindings_among (sites_of (plug a x))) (sites ds place before (one_place x)) → holds w (ds place) before) → At a x holds
declared_at a x holds by = holds_of_declared (bindings_among (sites_of (plug a x))) x holds false (λ at. outermost) 0 0 a (stands_there a x) by
