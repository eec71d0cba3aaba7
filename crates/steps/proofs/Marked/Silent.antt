-- What has no effects by what is known of names is silent where it stands.
use Rattle.std.proofs.Common.{◌≡◌, ◌⊎◌, ◌+◌, ℕ, suc, List, [], ◌++◌, Bool, true, false, ◌&&◌, ◌||◌, true≢false, is_some, codes, bytes_eq, Option, Some, None, inl, inr, refl, sym, ap, subst}
use Rattle.std.proofs.lemmas.Bool.{or_cases}
use Rattle.js_syntax.specs.declared.node_kind.NodeKind.{NodeKind as Kind}
use Rattle.js_syntax.specs.declared.node_kind.NodeKind.TheVariants.{ReferenceName as reference_name, ExpressionStatement as expression_statement, EmptyStatement as empty_statement, VariableDeclaration as variable_declaration, VariableDeclarator as variable_declarator, Declarators as declarators, BindingName as binding_name}
use Rattle.js_syntax.specs.declared.kind.VariableKind.{VariableKind}
use Rattle.js_syntax.specs.Node.{Forest, Tree, Note, nothing, node, absent, alone}
use Rattle.js_syntax.specs.declared.operator.UnaryOperator.TheVariants as unary
use Rattle.js_effects.specs.declared.surroundings.Surroundings.{Surroundings}
use Rattle.js_effects.specs.Still.{is_value}
use Rattle.js_effects.specs.Silence.{runs_its_parts, is_marked, is_known_name, is_this, is_known, has_effect, may_have_effects}
use Rattle.js_effects.proofs.Sorts.{by_sort, known_by}
use Rattle.min_pass.specs.declared.around.Around.{Around as Asked}
use Rattle.min_pass.specs.Around.{entered as asked_below, outermost as asked_of_program}
use Rattle.min_pass.specs.Pass.{is_given}
use Rattle.scope_rules.specs.Context.{Context, inside, outermost}
use Rattle.scope_rules.specs.Site.{Site, ReferenceSite, own_sites, opens_one, scope_count, sites, sites_of, bindings_among, references_among}
use Rattle.scope_rules.specs.Binding.{binding_of}
use Rattle.scope_rules.specs.Table.{Scoping}
use Rattle.scope_laws.specs.Exact.{Among}
use Rattle.scope_laws.specs.Place.{Around, first, behind, behind_none, under, one_place, plug, there, sites_before, sites_there, sites_after}
use Rattle.scope_laws.proofs.Among.{among_left, among_right}
use Rattle.scope_laws.proofs.Around.{references_append, references_split}
use Rattle.steps.specs.Allowed.Silent.{read_in, IsFound, IsSilentNode, IsSilent, HoldsThere}
use Rattle.steps.specs.Allowed.Places.{a_node, asked_at, in_class_at, surroundings_at, At}
use Rattle.steps.specs.Allowed.SilentStatement.{SilentStatement, a_statement, silent_statement_empties}
use Rattle.steps.specs.Allowed.UnusedDeclarator.{SilentDeclarator, a_declarator}
use Rattle.steps.specs.Allowed.UnusedDeclaration.{SilentDeclaration, one_declarator, a_declaration}
use Rattle.steps.specs.Allowed.Edits.{Edit, becomes, silent_statement}
use Rattle.js_syntax.proofs.Truth.{first_of_neither, second_of_neither}
use Rattle.steps.specs.Marked.Told.{IsTold, AreBound, IsSilentAt, IsSilentValue}
use Rattle.steps.proofs.Marked.Referring.{entries_tell}

-- ---- the references of a node's parts

abbrev AllOf : List ReferenceSite → List Site → Type 0
AllOf all ss = (r : ReferenceSite) → Among r (references_among ss) → Among r all

of_left : (all : List ReferenceSite) (xs ys : List Site) → AllOf all (xs ++ ys) → AllOf all xs
of_left all xs ys m = λ r h. m r (subst (Among r) (sym (references_append xs ys)) (among_left r (references_among xs) (references_among ys) h))

of_right : (all : List ReferenceSite) (xs ys : List Site) → AllOf all (xs ++ ys) → AllOf all ys
of_right all xs ys m = λ r h. m r (subst (Among r) (sym (references_append xs ys)) (among_right r (references_among xs) (references_among ys) h))

all_there : (a : Around) (x : Option Tree) → AllOf (references_among (sites_of (plug a x))) (sites_there a x)
all_there a x = λ r h.
    subst (Among r) (sym (references_split a x))
    (among_right r (references_among (sites_before a x)) (references_among (sites_there a x) ++ references_among (sites_after a x)) (among_left r (references_among (sites_there a x)) (references_among (sites_after a x)) h))

-- ---- by the sort of node

abbrev IsIdle : (v k r b : Bool) → Type 0
IsIdle v k r b = (v ≡ true) ⊎ ((k ≡ true) ⊎ ((r ≡ true) × (b ≡ false)))

record MarkedAs (marks : List Bool) (o : Option ℕ) : Type 0 where
  id : ℕ
  is : o ≡ Some id
  marked : is_marked marks (Some id) ≡ true

marked_as : (marks : List Bool) (o : Option ℕ) → is_marked marks o ≡ true → MarkedAs marks o
marked_as marks None e = absurd (true≢false (sym e))
marked_as marks (Some n) e = record { id = n; is = refl; marked = e }

module _ (s : Scoping) (marked exported : ℕ → Bool) (bound : List Bool) (v : Forest) (told : IsTold s marked exported v) (knows : AreBound s bound) where
  bound_here : (c : Context) (n : Note) (x : List ℕ) → Among (read_in c n x) (references_among (sites_of v)) → is_marked bound n.id ≡ true → is_some (binding_of (bindings_among (sites_of v)) (read_in c n x)) ≡ true
  bound_here c n x h e =
      let m = marked_as bound n.id e in
      let b = knows m.id m.marked in
      let names = (entries_tell v told.fits s marked told.lists (read_in c n x) h m.id b.entry m.is b.stands b.symbol).0 b.is in
      ap is_some names.binds

  name_found : (w : Surroundings) (cs : ℕ → Context) (at next : ℕ) (k : Kind) (n : Note) (below rest : Forest) → AllOf (references_among (sites_of v)) (sites cs at next (node k n below rest)) → w.in_with ≡ false → is_known_name bound k n below ≡ true
      → IsFound (bindings_among (sites_of v)) w (cs at) k n below
  name_found w cs at next (reference_name x) n below rest m outside e = (
    outside,
    elim (or_cases (is_marked bound n.id) (bytes_eq x (codes "undefined")) e) [
      | inl h ↦ inl (bound_here (cs at) n x (m (read_in (cs at) n x) (inl refl)) h)
      | inr h ↦ inr h
    ],
  )
  name_found w cs at next (Kind.UnaryExpression unary.Typeof) n below rest m outside e = (outside, e)
  name_found w cs at next k n below rest m outside e = absurd (true≢false (sym e))

  this_found : (w : Surroundings) (c : Context) (k : Kind) (n : Note) (below : Forest) → w.in_class ≡ false → is_this k ≡ true → IsFound (bindings_among (sites_of v)) w c k n below
  this_found w c Kind.ThisExpression n below outside e = outside
  this_found w c k n below outside e = absurd (true≢false (sym e))

  found : (w : Surroundings) (cs : ℕ → Context) (at next : ℕ) (k : Kind) (n : Note) (below rest : Forest) → AllOf (references_among (sites_of v)) (sites cs at next (node k n below rest)) → is_known bound w k n below ≡ true
      → IsFound (bindings_among (sites_of v)) w (cs at) k n below
  found w cs at next k n below rest m e = elim (known_by bound w k n below e) [
    | inl b ↦ name_found w cs at next k n below rest m b.0 b.1
    | inr b ↦ this_found w (cs at) k n below b.0 b.1
  ]

  silent_node : (w : Surroundings) (cs : ℕ → Context) (at next : ℕ) (k : Kind) (n : Note) (below rest : Forest) (parts : Type 0) → AllOf (references_among (sites_of v)) (sites cs at next (node k n below rest)) → (may_have_effects bound w below ≡ false → parts)
      → IsIdle (is_value k) (is_known bound w k n below) (runs_its_parts k below) (may_have_effects bound w below) → IsSilentNode (bindings_among (sites_of v)) w (cs at) k n below parts
  silent_node w cs at next k n below rest parts m then_ (inl e) = inl e
  silent_node w cs at next k n below rest parts m then_ (inr (inl e)) = inr (inl (found w cs at next k n below rest m e))
  silent_node w cs at next k n below rest parts m then_ (inr (inr e)) = inr (inr (e.0, then_ e.1))

  silent_row : (w : Surroundings) (cs : ℕ → Context) (at next : ℕ) (f : Forest) → AllOf (references_among (sites_of v)) (sites cs at next f) → may_have_effects bound w f ≡ false → IsSilent (bindings_among (sites_of v)) w cs at next f
  silent_row w cs at next nothing m e = tt
  silent_row w cs at next (absent rest) m e = silent_row w cs (suc at) next rest m e
  silent_row w cs at next (node k n below rest) m e =
      let own = own_sites (cs at) n k below in
      let inner = sites (inside (cs at) next k below) 0 (next + opens_one k below) below in
      let outer = sites cs (suc at) (next + scope_count (node k n below nothing)) rest in
      let all = references_among (sites_of v) in
      let effect = has_effect bound w k n below (may_have_effects bound w below) in (
        silent_node w cs at next k n below rest (IsSilent (bindings_among (sites_of v)) w (inside (cs at) next k below) 0 (next + opens_one k below) below) m
            (silent_row w (inside (cs at) next k below) 0 (next + opens_one k below) below (of_right all own inner (of_left all (own ++ inner) outer m)))
            (by_sort (is_value k) (is_known bound w k n below) (runs_its_parts k below) (may_have_effects bound w below) (first_of_neither effect (may_have_effects bound w rest) e)),
        silent_row w cs (suc at) (next + scope_count (node k n below nothing)) rest (of_right all (own ++ inner) outer m) (second_of_neither effect (may_have_effects bound w rest) e),
      )

  -- ---- at a place

  holds_there : (x : Option Tree) (holds : Bool → Context → ℕ → Type 0) (asked : Asked) (cs : ℕ → Context) (at next : ℕ) (a : Around) → AllOf (references_among (sites_of v)) (there cs at next a x)
      → ((ds : ℕ → Context) (place before : ℕ) → AllOf (references_among (sites_of v)) (sites ds place before (one_place x)) → holds (asked_at asked a).in_with (ds place) before)
      → HoldsThere asked.in_with cs at next a x holds
  holds_there x holds asked cs at next (first rest) m by = by cs at next m
  holds_there x holds asked cs at next (behind k n below a) m by = holds_there x holds asked cs (suc at) (next + scope_count (node k n below nothing)) a m by
  holds_there x holds asked cs at next (behind_none a) m by = holds_there x holds asked cs (suc at) next a m by
  holds_there x holds asked cs at next (under k n a rest) m by = holds_there x holds (asked_below asked k) (inside (cs at) next k (plug a x)) 0 (next + opens_one k (plug a x)) a m by

  silent_behind : (w : Surroundings) (cs : ℕ → Context) (at next : ℕ) (n m : Note) (x : List ℕ) (value : Forest)
      → AllOf (references_among (sites_of v)) (sites cs at next (node variable_declarator n (node (binding_name x) m nothing value) nothing)) → may_have_effects bound w value || w.in_with && is_given value ≡ false
      → SilentDeclarator v (node (binding_name x) m nothing value) w.in_class w.in_with (cs at) next
  silent_behind w cs at next n m x value all_of e =
      let below = node (binding_name x) m nothing value in
      let all = references_among (sites_of v) in
      let own = own_sites (cs at) n variable_declarator below in
      let ds = inside (cs at) next variable_declarator below in
      let place = next + opens_one variable_declarator below in
      let name = own_sites (ds 0) m (binding_name x) nothing ++ sites (inside (ds 0) place (binding_name x) nothing) 0 (place + 0) nothing in
      let behind = sites ds 1 (place + scope_count (node (binding_name x) m nothing nothing)) value in (
        second_of_neither (may_have_effects bound w value) (w.in_with && is_given value) e,
        silent_row w ds 1 (place + scope_count (node (binding_name x) m nothing nothing)) value (of_right all name behind (of_right all own (name ++ behind) (of_left all (own ++ (name ++ behind)) [] all_of)))
            (first_of_neither (may_have_effects bound w value) (w.in_with && is_given value) e),
      )

module _ (s : Scoping) (marked exported : ℕ → Bool) (bound : List Bool) (a : Around) where
  pub statement_empties : (n m l : Note) (k : Kind) (inner : Forest) → IsTold s marked exported (plug a (a_statement n l k inner)) → AreBound s bound → IsSilentAt bound a (alone k l inner)
      → Edit (plug a (a_statement n l k inner)) (plug a (a_node empty_statement m nothing))
  statement_empties n m l k inner told knows silent =
      let x = a_statement n l k inner in
      let e = alone k l inner in
      let v = plug a x in
      let all = references_among (sites_of v) in
      let w = surroundings_at a in
      becomes a _ _ (silent_statement (silent_statement_empties n m l k inner
      (holds_there s marked exported bound v told knows x (SilentStatement v e (in_class_at a)) (asked_of_program true) (λ at. outermost) 0 0 a (all_there a x)
      (λ ds place before f.
      let own = own_sites (ds place) n expression_statement e in
      let within = sites (inside (ds place) before expression_statement e) 0 (before + opens_one expression_statement e) e in
      silent_row s marked exported bound v told knows w (inside (ds place) before expression_statement e) 0 (before + opens_one expression_statement e) e (of_right all own within (of_left all (own ++ within) [] f)) silent))))

  pub declarator_silent : (n m : Note) (x : List ℕ) (value : Forest) → IsTold s marked exported (plug a (a_declarator n m x value)) → AreBound s bound → IsSilentValue bound a value
      → At a (a_declarator n m x value) (SilentDeclarator (plug a (a_declarator n m x value)) (node (binding_name x) m nothing value) (in_class_at a))
  declarator_silent n m x value told knows quiet =
      let y = a_declarator n m x value in
      let v = plug a y in
      holds_there s marked exported bound v told knows y (SilentDeclarator v (node (binding_name x) m nothing value) (in_class_at a)) (asked_of_program true) (λ at. outermost) 0 0 a (all_there a y)
      (λ cs at next all_of. silent_behind s marked exported bound v told knows (surroundings_at a) cs at next n m x value all_of quiet)

  pub declaration_silent : (how : VariableKind) (n m l j : Note) (x : List ℕ) (value : Forest) → IsTold s marked exported (plug a (a_declaration how n m l j x value)) → AreBound s bound → IsSilentValue bound a value
      → At a (a_declaration how n m l j x value) (SilentDeclaration (plug a (a_declaration how n m l j x value)) how m l (node (binding_name x) j nothing value) (in_class_at a))
  declaration_silent how n m l j x value told knows quiet =
      let y = a_declaration how n m l j x value in
      let v = plug a y in
      let all = references_among (sites_of v) in
      let below = node (binding_name x) j nothing value in
      let ds = node variable_declarator l below nothing in
      let whole = one_declarator m l below in
      holds_there s marked exported bound v told knows y (SilentDeclaration v how m l below (in_class_at a)) (asked_of_program true) (λ at. outermost) 0 0 a (all_there a y)
      (λ cs at next all_of.
      let place = next + opens_one (variable_declaration how) whole in
      let outer = inside (cs at) next (variable_declaration how) whole in
      let list = inside (outer 0) place declarators ds in
      let declarator = sites list 0 (place + opens_one declarators ds) ds in
      let own_list = own_sites (outer 0) m declarators ds in
      let own = own_sites (cs at) n (variable_declaration how) whole in
      silent_behind s marked exported bound v told knows (surroundings_at a) list 0 (place + opens_one declarators ds) l j x value
      (of_right all own_list declarator (of_left all (own_list ++ declarator) [] (of_right all own ((own_list ++ declarator) ++ []) (of_left all (own ++ ((own_list ++ declarator) ++ [])) [] all_of)))) quiet)
