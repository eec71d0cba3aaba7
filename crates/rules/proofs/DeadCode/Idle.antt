-- What is silent where it stands has no effects by the facts, and what is free is unlisted.
use Rattle.std.proofs.Common.{◌≡◌, ◌∙◌, inl, inr, ◌+◌, ◌==◌, ℕ, suc, List, [], ◌∷◌, ◌++◌, length, Bool, true, false, not, ◌&&◌, ◌||◌, if◌then◌else◌, true≢false, is_some, codes, bytes_eq, Option, Some, None, refl, sym, ap}
use Rattle.std.proofs.lemmas.Bool.{and_from, or_left, or_right, false_from_ne_true}
use Rattle.std.proofs.lemmas.Option.{get_or_from_slice_get}
use Rattle.js_syntax.specs.declared.node_kind.NodeKind.{NodeKind as Kind}
use Rattle.js_syntax.specs.declared.node_kind.NodeKind.TheVariants.{ReferenceName as reference_name}
use Rattle.js_syntax.specs.Node.{Forest, Tree, Note, nothing, node, absent}
use Rattle.js_syntax.specs.declared.operator.UnaryOperator.TheVariants as unary
use Rattle.js_effects.specs.declared.surroundings.Surroundings.{Surroundings}
use Rattle.js_effects.specs.Still.{is_value}
use Rattle.js_effects.specs.Silence.{is_one_name, runs_its_parts, is_marked, is_known, has_effect, may_have_effects}
use Rattle.min_pass.specs.declared.around.Around.{Around as Asked}
use Rattle.min_pass.specs.Around.{entered as asked_below, outermost as asked_of_program}
use Rattle.scope_rules.specs.Context.{Context, inside, outermost}
use Rattle.scope_rules.specs.Site.{BindingSite, ReferenceSite, own_sites, opens_one, scope_count, sites, sites_of, bindings_among, references_among}
use Rattle.scope_rules.specs.Binding.{declared_by, binding_of}
use Rattle.scope_rules.specs.Table.{Symbol, Reference, Scoping}
use Rattle.scope_table.specs.Reading.{no_symbol, no_reference, symbol_at, reference_at}
use Rattle.scope_laws.specs.Exact.{Among, Exact}
use Rattle.scope_laws.specs.Place.{Around, first, behind, behind_none, under, one_place, plug, there}
use Rattle.scope_laws.proofs.Around.{stands_there}
use Rattle.scope_laws.proofs.Bindings.{declared_binding}
use Rattle.scope_counts.specs.Losing.{Prunes}
use Rattle.scope_counts.specs.Scopes.{unmarked}
use Rattle.steps.specs.Allowed.Silent.{read_in, IsFound, IsSilentNode, IsSilent, HoldsThere}
use Rattle.steps.specs.Allowed.Places.{asked_at, At}
use Rattle.steps.specs.Allowed.Free.{IsFree}
use Rattle.steps.proofs.Marked.Tables.{pruned_exact}
use Rattle.js_syntax.proofs.Truth.{neither}
use Rattle.rules.specs.DeadCode.Rules.{Facts, is_unlisted}
use Rattle.rules.specs.DeadCode.Knows.{Knows}
use Rattle.rules.proofs.DeadCode.Silent.{AllOf, of_left, of_right, all_there, AllDeclared}
use Rattle.rules.proofs.DeadCode.Unused.{exported_stands}
use Rattle.rules.specs.DeadCode.Quiet.{Exactly}

-- ---- nothing is marked, so the table itself is exact

prunes_none : (s : Scoping) → Prunes unmarked s s
prunes_none s = record { same_entries = refl; same_symbols = λ n y e. record { symbol = y; stands = e; same_name = refl }; lists = λ n r. refl }

-- ---- where a node stands

pub record Found (a : Around) (x : Option Tree) (holds : Bool → Context → ℕ → Type 0) : Type 0 where
  pub contexts : ℕ → Context
  pub at : ℕ
  pub next : ℕ
  pub references : AllOf (references_among (sites_of (plug a x))) (sites contexts at next (one_place x))
  pub bindings : AllDeclared (bindings_among (sites_of (plug a x))) (sites contexts at next (one_place x))
  pub holds_there : holds (asked_at (asked_of_program true) a).in_with (contexts at) next

module _ (rs : List ReferenceSite) (bs : List BindingSite) (x : Option Tree) (holds : Bool → Context → ℕ → Type 0) where
  record Place (w : Asked) (a : Around) : Type 0 where
    contexts : ℕ → Context
    at : ℕ
    next : ℕ
    references : AllOf rs (sites contexts at next (one_place x))
    bindings : AllDeclared bs (sites contexts at next (one_place x))
    holds_there : holds (asked_at w a).in_with (contexts at) next

  find_place : (w : Asked) (cs : ℕ → Context) (at next : ℕ) (a : Around) → AllOf rs (there cs at next a x) → AllDeclared bs (there cs at next a x) → HoldsThere w.in_with cs at next a x holds → Place w a
  find_place w cs at next (first rest) r b h = record { contexts = cs; at = at; next = next; references = r; bindings = b; holds_there = h }
  find_place w cs at next (behind k n c a) r b h =
      let p = find_place w cs (suc at) (next + scope_count (node k n c nothing)) a r b h in
      record { contexts = p.contexts; at = p.at; next = p.next; references = p.references; bindings = p.bindings; holds_there = p.holds_there }
  find_place w cs at next (behind_none a) r b h =
      let p = find_place w cs (suc at) next a r b h in
      record { contexts = p.contexts; at = p.at; next = p.next; references = p.references; bindings = p.bindings; holds_there = p.holds_there }
  find_place w cs at next (under k n a rest) r b h =
      let p = find_place (asked_below w k) (inside (cs at) next k (plug a x)) 0 (next + opens_one k (plug a x)) a r b h in
      record { contexts = p.contexts; at = p.at; next = p.next; references = p.references; bindings = p.bindings; holds_there = p.holds_there }

pub find : (a : Around) (x : Option Tree) (holds : Bool → Context → ℕ → Type 0) → At a x holds → Found a x holds
find a x holds h =
    let p = find_place (references_among (sites_of (plug a x))) (bindings_among (sites_of (plug a x))) x holds (asked_of_program true) (λ at. outermost) 0 0 a (all_there a x) (stands_there a x) h in
    record { contexts = p.contexts; at = p.at; next = p.next; references = p.references; bindings = p.bindings; holds_there = p.holds_there }

-- ---- what is silent

idle_value : (v k r b : Bool) → v ≡ true → (if v || k then false else not r || b) ≡ false
idle_value true k r b e = refl
idle_value false k r b e = absurd (true≢false (sym e))

idle_name : (v k r b : Bool) → k ≡ true → (if v || k then false else not r || b) ≡ false
idle_name true k r b e = refl
idle_name false true r b e = refl
idle_name false false r b e = absurd (true≢false (sym e))

idle_parts : (v k r b : Bool) → r ≡ true → b ≡ false → (if v || k then false else not r || b) ≡ false
idle_parts true k r b e f = refl
idle_parts false true r b e f = refl
idle_parts false false true b e f = f
idle_parts false false false b e f = absurd (true≢false (sym e))

some_value : {X : Type 0} (o : Option X) → is_some o ≡ true → (x : X) × (o ≡ Some x)
some_value None e = absurd (true≢false (sym e))
some_value (Some x) e = (x, refl)

module _ (f : Facts) (t : Forest) (h : Knows f unmarked t) where
  exact : Exact f.scoping t
  exact = pruned_exact t h.fits unmarked f.scoping f.scoping (prunes_none f.scoping) h.exact

  -- a reference that has a binding is marked
  bound_marked : (r : ReferenceSite) → Among r (references_among (sites_of t)) → is_some (binding_of (bindings_among (sites_of t)) r) ≡ true → is_marked f.bound r.id ≡ true
  bound_marked r stands e =
      let b = some_value (binding_of (bindings_among (sites_of t)) r) e in
      let d = declared_binding (bindings_among (sites_of t)) r b.0 b.1 in
      let declared = exact.declared d.site d.stands in
      let entered = exact.entered r stands in
      let symbol : entered.entry.symbol ≡ Some declared.number = (entered.names declared.number).1 (record { declaration = d.site; stands = d.stands; is_marked = declared.is_marked; binds = b.1 ∙ ap Some (sym d.same) }) in
      let answer : is_some (reference_at f.scoping entered.id).symbol ≡ true =
      ap (λ (x : Reference). is_some x.symbol) (get_or_from_slice_get f.scoping.references entered.id entered.entry no_reference entered.stands) ∙ ap is_some symbol in
      ap (is_marked f.bound) entered.has_id ∙ h.bound entered.id ∙ answer

  known : (w : Surroundings) (cs : ℕ → Context) (at next : ℕ) (k : Kind) (n : Note) (below rest : Forest) → AllOf (references_among (sites_of t)) (sites cs at next (node k n below rest)) → IsFound (bindings_among (sites_of t)) w (cs at) k n below
      → is_known f.bound w k n below ≡ true
  known w cs at next (reference_name x) n below rest m e =
      let named = is_marked f.bound n.id || bytes_eq x (codes "undefined") in
      or_left (not w.in_with && named) (not w.in_class && false) (and_from (not w.in_with) named (ap not e.0) (elim e.1 [
        | inl h ↦ or_left (is_marked f.bound n.id) (bytes_eq x (codes "undefined")) (bound_marked (read_in (cs at) n x) (m (read_in (cs at) n x) (inl refl)) h)
        | inr h ↦ or_right (is_marked f.bound n.id) (bytes_eq x (codes "undefined")) h
      ]))
  known w cs at next (Kind.UnaryExpression unary.Typeof) n below rest m e = or_left (not w.in_with && is_one_name below) (not w.in_class && false) (and_from (not w.in_with) (is_one_name below) (ap not e.0) e.1)
  known w cs at next Kind.ThisExpression n below rest m e = or_right (not w.in_with && false) (not w.in_class && true) (and_from (not w.in_class) true (ap not e) refl)
  known w cs at next k n below rest m e = absurd e

  idle_node : (w : Surroundings) (cs : ℕ → Context) (at next : ℕ) (k : Kind) (n : Note) (below rest : Forest) (parts : Type 0) → AllOf (references_among (sites_of t)) (sites cs at next (node k n below rest)) → (parts → may_have_effects f.bound w below ≡ false)
      → IsSilentNode (bindings_among (sites_of t)) w (cs at) k n below parts → has_effect f.bound w k n below (may_have_effects f.bound w below) ≡ false
  idle_node w cs at next k n below rest parts m g (inl e) = idle_value (is_value k) (is_known f.bound w k n below) (runs_its_parts k below) (may_have_effects f.bound w below) e
  idle_node w cs at next k n below rest parts m g (inr (inl e)) = idle_name (is_value k) (is_known f.bound w k n below) (runs_its_parts k below) (may_have_effects f.bound w below) (known w cs at next k n below rest m e)
  idle_node w cs at next k n below rest parts m g (inr (inr e)) = idle_parts (is_value k) (is_known f.bound w k n below) (runs_its_parts k below) (may_have_effects f.bound w below) e.0 (g e.1)

  pub idle_row : (w : Surroundings) (cs : ℕ → Context) (at next : ℕ) (row : Forest) → AllOf (references_among (sites_of t)) (sites cs at next row) → IsSilent (bindings_among (sites_of t)) w cs at next row → may_have_effects f.bound w row ≡ false
  idle_row w cs at next nothing m e = refl
  idle_row w cs at next (absent rest) m e = idle_row w cs (suc at) next rest m e
  idle_row w cs at next (node k n below rest) m e =
      let own = own_sites (cs at) n k below in
      let inner = sites (inside (cs at) next k below) 0 (next + opens_one k below) below in
      let outer = sites cs (suc at) (next + scope_count (node k n below nothing)) rest in
      let all = references_among (sites_of t) in
      neither (has_effect f.bound w k n below (may_have_effects f.bound w below)) (may_have_effects f.bound w rest)
      (idle_node w cs at next k n below rest (IsSilent (bindings_among (sites_of t)) w (inside (cs at) next k below) 0 (next + opens_one k below) below) m
      (idle_row w (inside (cs at) next k below) 0 (next + opens_one k below) below (of_right all own inner (of_left all (own ++ inner) outer m))) e.0)
      (idle_row w cs (suc at) (next + scope_count (node k n below nothing)) rest (of_right all (own ++ inner) outer m) e.1)

  -- ---- what is free

  nobody : (xs : List ℕ) → ((id : ℕ) → Among id xs → ⊥) → (length xs == 0) ≡ true
  nobody [] e = refl
  nobody (x ∷ xs) e = absurd (e x (inl refl))

  no_list : (d : BindingSite) (stands : Among d (bindings_among (sites_of t))) → IsFree t (declared_by d) → (length (symbol_at f.scoping (exact.declared d stands).number).references == 0) ≡ true
  no_list d stands free =
      let declared = exact.declared d stands in
      let listed = exact.listed declared.number declared.symbol declared.stands in
      ap (λ (y : Symbol). length y.references == 0) (get_or_from_slice_get f.scoping.symbols declared.number declared.symbol no_symbol declared.stands)
      ∙ nobody declared.symbol.references (λ id g.
      let named = (listed.holds id).0 g in
      let same : declared_by named.names.declaration ≡ declared_by d = (exact.one_symbol named.names.declaration d named.names.stands stands).0 (named.names.is_marked ∙ sym declared.is_marked) in
      free.unreferred named.reference named.stands (named.names.binds ∙ ap Some same))

  not_exported : Exactly f t → (d : BindingSite) → Among d (bindings_among (sites_of t)) → IsFree t (declared_by d) → (n : ℕ) → d.id ≡ Some n → is_marked f.exported (Some n) ≡ false
  not_exported exactly d stands free n is = false_from_ne_true (is_marked f.exported (Some n))
      (λ g.
      let e = exactly.exported n g in
      free.unexported e.declaration e.stands e.is_outermost ((exact.one_symbol e.declaration d (exported_stands (λ at. outermost) 0 0 t e.declaration e.stands) stands).0 (e.has_mark ∙ sym is)))

  pub unlisted : f.keeps_unused ≡ false → Exactly f t → (d : BindingSite) → Among d (bindings_among (sites_of t)) → IsFree t (declared_by d) → is_unlisted f d.id ≡ true
  unlisted goes exactly d stands free =
      let declared = exact.declared d stands in
      let listed = length (symbol_at f.scoping declared.number).references == 0 in
      let apart = not (is_marked f.exported (Some declared.number)) in
      ap (is_unlisted f) declared.is_marked
      ∙ and_from (not f.keeps_unused) (listed && apart) (ap not goes) (and_from listed apart (no_list d stands free) (ap not (not_exported exactly d stands free declared.number declared.is_marked)))
