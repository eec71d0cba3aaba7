-- Where a node of a core module becomes a part that it comes to, the new module refines the old one.
use Rattle.std.proofs.Common.{◌≡◌, ◌∙◌, ◌⊎◌, inl, inr, [], ◌∷◌, Bool, true, false, ◌&&◌, None, Some, refl, sym, ap, subst, true≢false}
use Rattle.js_syntax.specs.Class.{root}
use Rattle.js_syntax.specs.declared.node_kind.NodeKind.{NodeKind as Kind}
use Rattle.js_syntax.specs.declared.kind.FunctionKind.TheVariants as function_kind
use Rattle.js_syntax.specs.declared.scalar.SourceType.TheVariants as source_type
use Rattle.js_syntax.specs.Facts.{is_core}
use Rattle.js_syntax.specs.Node.{Note, Forest, Tree, nothing, node, absent, nowhere, bare, below_of, forest_of}
use Rattle.js_syntax.specs.declared.value.ModuleName.{ModuleName}
use Rattle.js_meaning.specs.Kept.{Refined}
use Rattle.js_meaning.specs.Module.{specifier_of}
use Rattle.js_meaning.specs.Scope.{names_of, bound_names}
use Rattle.js_meaning.proofs.Kept.{refined_joined}
use Rattle.js_meaning_near.specs.Names.{no_names}
use Rattle.js_meaning_near.specs.Purpose.{Purpose, Purposes, for_values, purpose_here, purposes_behind, wanted_below}
use Rattle.js_meaning_near.specs.Near.{is_calm, hoists_nothing, is_row, Row as NearRow, fields, items, row_below as near_row_below, key_of, keys, module_of}
use Rattle.js_meaning_near.specs.Fit.{whole}
use Rattle.js_meaning_near.specs.Avoid.{InPlace}
use Rattle.js_meaning_near.specs.Local.{ReadsSame, Stands, for_part, for_waste, for_sides, for_sequence, Local, at_place, behind_jump, leaves_list, in_below, in_rest, in_absent}
use Rattle.js_meaning_near.proofs.Alike.{same_alike, place_alike}
use Rattle.js_meaning_near.proofs.Instances.{local_change}
use Rattle.js_meaning_near.proofs.Local.{old_node}
use Rattle.js_meaning_near.proofs.Near.{alike_refine}
use Rattle.json_shape.specs.Shape.{one, Plan, these, first_place, Stand, Fits}
use Rattle.json_shape.specs.Shape as shape
use Rattle.form_rules.specs.Form.{IsWellFormed}
use Rattle.scope_laws.specs.Place.{Around, first, behind, behind_none, under, plug}
use Rattle.steps.specs.Steps.{all_core}
use Rattle.steps.specs.Allowed.Wanted.{wanted_in, wanted_at}
use Rattle.steps.proofs.Fit.Formed.{good_program}
use Rattle.steps.proofs.Fit.Held.{core_here, core_below, core_behind, core_alone}
use Rattle.steps.proofs.Fit.Holding.{is_sound, planned_below}
use Rattle.steps.proofs.Fit.Passing.{plan_passes, first_passes, behind_passes}
use Rattle.steps.proofs.Fit.Place.{program_in_place}
use Rattle.steps.specs.KeepForm.Part.{is_statement}
use Rattle.steps.specs.Owed.Comes.{Comes}
use Rattle.steps.specs.Owed.Owed.{is_read_name}
use Rattle.steps.proofs.Owed.Binders.{variables_bind, handler_binds, function_binds, plugged_bind, plugged_first_binds, plugged_parameters_bind}
use Rattle.steps.proofs.Owed.ExportsStay.{same_local, entries_stay, stars_stay, requests_stay}
use Rattle.steps.proofs.Owed.Made.{MadeBy, is_single, made_at, object_stands, export_stands, name_is_read}
use Rattle.js_syntax.proofs.Truth.{both}

-- ---- what is around stays

no_key : (k : Kind) → hoists_nothing k ≡ true → key_of k ≡ None
no_key (Kind.Property how method key) h = absurd (true≢false (sym h))
no_key k h = refl

pub calm_hoists : (k : Kind) → is_calm k ≡ true → hoists_nothing k ≡ true
calm_hoists (Kind.ReferenceName x) h = refl
calm_hoists (Kind.MemberExpression key optional) h = refl
calm_hoists Kind.ParenthesizedExpression h = refl
calm_hoists (Kind.Function function_kind.Declaration pure) h = absurd (true≢false (sym h))
calm_hoists (Kind.Function how pure) h = refl
calm_hoists k h = h

new_hoists : {u : Purpose} {k l : Kind} {a b : Forest} → Stands u k a l b → hoists_nothing l ≡ true
new_hoists (for_part c) = (c no_names).new_hoists
new_hoists (for_waste e w s) = (w no_names).new_hoists
new_hoists (for_sides e s) = refl
new_hoists (for_sequence s) = refl

calm_unread : (k : Kind) → is_calm k ≡ true → is_read_name k ≡ false
calm_unread (Kind.ReferenceName x) h = absurd (true≢false (sym h))
calm_unread k h = refl

no_properties : (k : Kind) → k ≡ Kind.Properties → hoists_nothing k ≡ true → ⊥
no_properties k is h = true≢false (sym h ∙ ap hoists_nothing is)

module _ (x y : Tree) (core : all_core (forest_of x) ≡ true → all_core (forest_of y) ≡ true) where
  pub core_kept : (a : Around) → all_core (plug a (Some x)) ≡ true → all_core (plug a (Some y)) ≡ true
  core_kept (first rest) h =
      let part = core (core_alone x.kind x.note x.below rest h) in
      both (is_core y.kind) (all_core y.below && all_core rest) (core_here y.kind y.note y.below nothing part)
      (both (all_core y.below) (all_core rest) (core_below y.kind y.note y.below nothing part) (core_behind x.kind x.note x.below rest h))
  core_kept (behind k n below a) h =
      both (is_core k) (all_core below && all_core (plug a (Some y))) (core_here k n below (plug a (Some x)) h)
      (both (all_core below) (all_core (plug a (Some y))) (core_below k n below (plug a (Some x)) h) (core_kept a (core_behind k n below (plug a (Some x)) h)))
  core_kept (behind_none a) h = core_kept a h
  core_kept (under k n a rest) h =
      both (is_core k) (all_core (plug a (Some y)) && all_core rest) (core_here k n (plug a (Some x)) rest h)
      (both (all_core (plug a (Some y))) (all_core rest) (core_kept a (core_below k n (plug a (Some x)) rest h)) (core_behind k n (plug a (Some x)) rest h))

-- nodes of no keys, of which the first is no name, and that bind the same where that is read
module _ (x y : Tree) (old_key : key_of x.kind ≡ None) (no_list : x.kind ≡ Kind.Properties → ⊥) (unread : is_read_name x.kind ≡ false) (key : key_of y.kind ≡ None)
    (binds : (is_statement x.kind ≡ true) ⊎ (names_of x.kind (bound_names x.below) ≡ names_of y.kind (bound_names y.below))) where
  -- the keys of an object literal are of its properties
  keys_of_row : (a : Around) → keys (plug a (Some x)) ≡ keys (plug a (Some y))
  keys_of_row (first rest) = ap (λ k. k ∷ keys rest) (old_key ∙ sym key)
  keys_of_row (behind k n below a) = ap (λ ks. key_of k ∷ ks) (keys_of_row a)
  keys_of_row (behind_none a) = refl
  keys_of_row (under k n a rest) = refl

  keys_of_object : (a : Around) → MadeBy Kind.ObjectExpression (plug a (Some x)) → keys (below_of (plug a (Some x))) ≡ keys (below_of (plug a (Some y)))
  keys_of_object (first rest) made = absurd (no_list (object_stands (plug (first rest) (Some x)) made).0.0)
  keys_of_object (behind k n below a) made = refl
  keys_of_object (behind_none a) made = refl
  keys_of_object (under k n a rest) made = keys_of_row a

  -- below a specifier of an export stands a name
  exported_name : (exported : ModuleName) (a : Around) → MadeBy (Kind.ExportSpecifier exported) (plug a (Some x)) → specifier_of (Kind.ExportSpecifier exported) (plug a (Some x)) ≡ specifier_of (Kind.ExportSpecifier exported) (plug a (Some y))
  exported_name exported (first rest) made = absurd (true≢false (sym (name_is_read x.kind x.below (export_stands exported (plug (first rest) (Some x)) made).0) ∙ unread))
  exported_name exported (behind k n below a) made = same_local exported k n below below (plug a (Some x)) (plug a (Some y))
  exported_name exported (behind_none a) made = refl
  exported_name exported (under k n a rest) made = same_local exported k n (plug a (Some x)) (plug a (Some y)) rest rest

  pub reads_alike : (k : Kind) (a : Around) → (is_single k ≡ true → MadeBy k (plug a (Some x))) → ReadsSame k (plug a (Some x)) (plug a (Some y))
  reads_alike Kind.ObjectExpression a made = keys_of_object a (made refl)
  reads_alike (Kind.ExportSpecifier exported) a made = exported_name exported a (made refl)
  reads_alike (Kind.VariableDeclaration how) a made = elim binds [
    | inl states ↦ variables_bind x states (λ a. plug a (Some y)) (λ k n b a. refl) (λ a. refl) (λ k n a r. refl) how a (made refl)
    | inr same ↦ plugged_bind x y same a
  ]
  reads_alike Kind.CatchClause a made = elim binds [
    | inl states ↦ handler_binds x states (λ a. plug a (Some y)) (λ k n b a. refl) (λ a. refl) (λ k n a r. refl) a (made refl)
    | inr same ↦ plugged_first_binds x y same a
  ]
  reads_alike (Kind.Function how pure) a made = elim binds [
    | inl states ↦ function_binds x states (λ a. plug a (Some y)) (λ k n b a. refl) (λ a. refl) (λ k n a r. refl) how pure a (made refl)
    | inr same ↦ plugged_parameters_bind x y same a
  ]
  reads_alike k a made = tt

-- nodes that start nothing have no keys
pub reads_same : (x y : Tree) → hoists_nothing x.kind ≡ true → is_read_name x.kind ≡ false → hoists_nothing y.kind ≡ true → (is_statement x.kind ≡ true) ⊎ (names_of x.kind (bound_names x.below) ≡ names_of y.kind (bound_names y.below))
    → (k : Kind) (a : Around) → (is_single k ≡ true → MadeBy k (plug a (Some x))) → ReadsSame k (plug a (Some x)) (plug a (Some y))
reads_same x y old_hoists unread hoists binds = reads_alike x y (no_key x.kind old_hoists) (λ e. no_properties x.kind e old_hoists) unread (no_key y.kind hoists) binds

module _ (place : Around) (x y : Tree) (c : Comes place x y) where
  pub core_stays : (a : Around) → all_core (plug a (Some x)) ≡ true → all_core (plug a (Some y)) ≡ true
  core_stays a h = core_kept x y c.core a h

  -- what comes, but for notes below it
  abbrev pub what_comes : Tree
  what_comes = record { kind = y.kind; note = y.note; below = c.inner }

  local_as_planned : (us : Purposes) (o : NearRow) (a : Around) → wanted_in us a ≡ wanted_at place → (plan : Plan) → plan_passes is_sound plan ≡ true → Stand plan (plug a (Some x)) → Local us o (plug a (Some x)) (plug a (Some what_comes))
  local_as_planned us o (first rest) e plan h st = at_place (subst (λ u. Stands u x.kind x.below what_comes.kind what_comes.below) (sym e) c.stands) c.declares.plainly
  local_as_planned us o (behind k n below a) e plan h st = in_rest (local_as_planned (purposes_behind us) o a e (shape.behind plan k) (behind_passes is_sound plan k h) st.1)
  local_as_planned us o (behind_none a) e plan h st = in_absent (local_as_planned (purposes_behind us) o a e (shape.behind plan Kind.Hole) (behind_passes is_sound plan Kind.Hole h) st.1)
  local_as_planned us o (under k n a rest) e plan h st =
      let planned = planned_below (plug a (Some x)) (first_place plan) k st.0 in
      in_below (reads_same x what_comes (calm_hoists x.kind c.old_calm) (calm_unread x.kind c.old_calm) (new_hoists c.stands) c.declares.binds k a (λ single. made_at (plug a (Some x)) k single (first_place plan) (first_passes is_sound plan refl h) st.0)) (local_as_planned (wanted_below (purpose_here us (is_row rest)) k) (near_row_below k) a e planned.0 planned.1 planned.2)

pub part_is_local : (a : Around) (x y : Tree) (c : Comes a x y) → Fits root (plug a (Some x)) → Local for_values fields (plug a (Some x)) (plug a (Some (what_comes a x y c)))
part_is_local a x y c fits = local_as_planned a x y c for_values fields a refl (these (one root ∷ [])) refl fits

-- ---- modules

module_in_place : (n m : Note) (b : Forest) → Fits root (module_of n m b) → IsWellFormed (module_of n m b) → all_core (module_of n m b) ≡ true → InPlace whole items b
module_in_place n m b fits form core =
    let list = node Kind.Statements m b nothing in
    let good = good_program source_type.Module n list fits form (core_below (Kind.Program source_type.Module) n list nothing core) in
    let place = program_in_place source_type.Module n list good.0 good.1 in
    place.0.1.0.1

-- a module, of which the items changed, and then notes
pub record StillModule (n m : Note) (b u : Forest) : Type 0 where
  pub changed : Forest
  pub is : u ≡ module_of n m changed
  pub between : Forest
  pub local : Local for_values items b between
  pub same : bare between ≡ bare changed

pub not_of_nothing : {us : Purposes} {o : NearRow} {t u : Forest} → Local us o t u → t ≡ nothing → ⊥
not_of_nothing (at_place c p) e = cc
not_of_nothing (behind_jump j c) e = cc
not_of_nothing (leaves_list i d) e = cc
not_of_nothing (in_below q s) e = cc
not_of_nothing (in_rest s) e = cc
not_of_nothing (in_absent s) e = cc

pub items_change : (n m : Note) (b c u : Forest) → u ≡ module_of n m c → Local for_values fields (module_of n m b) u → Local for_values items b c
items_change n m b c _ e (at_place s p) = absurd (true≢false (sym (old_node s)))
items_change n m b c _ e (in_below q (at_place s p)) = absurd (true≢false (sym (old_node s)))
items_change n m b c _ e (in_below q (in_below {b = d} r s)) = subst (Local for_values items b) (same_items e) s
  where
    same_items : {d : Forest} → module_of n m d ≡ module_of n m c → d ≡ c
    same_items e = cc
items_change n m b c _ e (in_below q (in_rest s)) = absurd (not_of_nothing s refl)
items_change n m b c _ e (in_rest s) = absurd (not_of_nothing s refl)

-- where an item of a module, or a part of it, stands
pub record InModule (n m : Note) (a : Around) : Type 0 where
  pub inside : Around
  pub is : (z : Tree) → plug a (Some z) ≡ module_of n m (plug inside (Some z))

plugged : (a : Around) (x : Tree) → plug a (Some x) ≡ nothing → ⊥
plugged (first rest) x e = cc
plugged (behind k n below a) x e = cc
plugged (behind_none a) x e = cc
plugged (under k n a rest) x e = cc

abbrev begins_calm : Forest → Bool
begins_calm (node k n a r) = is_calm k
begins_calm t = false

abbrev behind_it : Forest → Forest
behind_it (node k n a r) = r
behind_it t = nothing

list_there : (n : Note) (b : Forest) (a : Around) (x : Tree) → is_calm x.kind ≡ true → plug a (Some x) ≡ node Kind.Statements n b nothing → (inside : Around) × ((z : Tree) → plug a (Some z) ≡ node Kind.Statements n (plug inside (Some z)) nothing)
list_there n b (first rest) x calm e = absurd (true≢false (sym calm ∙ ap begins_calm e))
list_there n b (behind k i below a) x calm e = absurd (plugged a x (ap behind_it e))
list_there n b (behind_none a) x calm e = absurd cc
list_there n b (under k i a rest) x calm e = (a, λ z. same (plug a (Some z)) e)
  where
    same : {c : Forest} (d : Forest) → node k i c rest ≡ node Kind.Statements n b nothing → node k i d rest ≡ node Kind.Statements n d nothing
    same d e = cc

item_there : (n m : Note) (b : Forest) (a : Around) (x : Tree) → is_calm x.kind ≡ true → plug a (Some x) ≡ module_of n m b → InModule n m a
item_there n m b (first rest) x calm e = absurd (true≢false (sym calm ∙ ap begins_calm e))
item_there n m b (behind k i below a) x calm e = absurd (plugged a x (ap behind_it e))
item_there n m b (behind_none a) x calm e = absurd cc
item_there n m b (under k i a rest) x calm e =
    let list = list_there m b a x calm (ap below_of e) in
    record { inside = list.0; is = λ z. ap (λ t. node k i t rest) (list.1 z) ∙ same (node Kind.Statements m (plug list.0 (Some z)) nothing) e }
  where
    same : {c : Forest} (d : Forest) → node k i c rest ≡ module_of n m b → node k i d rest ≡ node (Kind.Program source_type.Module) n d nothing
    same d e = cc

-- notes below a node
other_notes : (a : Around) (k : Kind) (n : Note) (b c : Forest) → bare b ≡ bare c → bare (plug a (Some (record { kind = k; note = n; below = b }))) ≡ bare (plug a (Some (record { kind = k; note = n; below = c })))
other_notes (first rest) k n b c e = ap (λ t. node k nowhere t (bare rest)) e
other_notes (behind l i below a) k n b c e = ap (λ t. node l nowhere (bare below) t) (other_notes a k n b c e)
other_notes (behind_none a) k n b c e = ap absent (other_notes a k n b c e)
other_notes (under l i a rest) k n b c e = ap (λ t. node l nowhere t (bare rest)) (other_notes a k n b c e)

pub parts_stay_modules : (n m : Note) (b : Forest) (a : Around) (x y : Tree) → plug a (Some x) ≡ module_of n m b → Comes a x y → Fits root (module_of n m b) → StillModule n m b (plug a (Some y))
parts_stay_modules n m b a x y is c fits =
    let there = item_there n m b a x c.old_calm is in
    let z = what_comes a x y c in
    record {
      changed = plug there.inside (Some y);
      is = there.is y;
      between = plug there.inside (Some z);
      local = items_change n m b (plug there.inside (Some z)) (plug a (Some z)) (there.is z) (subst (λ t. Local for_values fields t (plug a (Some z))) is (part_is_local a x y c (subst (Fits root) (sym is) fits)));
      same = other_notes there.inside y.kind y.note c.inner y.below c.same;
    }

pub module_refines : (n m : Note) (b u : Forest) → StillModule n m b u → Fits root u → IsWellFormed u → all_core u ≡ true → Refined (module_of n m b) u
module_refines n m b u new fits form core =
    let changed = module_in_place n m new.changed (subst (Fits root) new.is fits) (subst IsWellFormed new.is form) (subst (λ t. all_core t ≡ true) new.is core) in
    let place = place_alike whole items (same_alike new.changed new.between (sym new.same)) changed in
    let first = local_change n m b new.between new.local place (entries_stay new.local) (stars_stay new.local) (requests_stay new.local) in
    subst (Refined (module_of n m b)) (sym new.is)
    (refined_joined (module_of n m b) (module_of n m new.between) (module_of n m new.changed) first (alike_refine n m n m (same_alike new.between new.changed new.same) place))

-- the new module is core, since the old one is
pub comes_refines : (n m : Note) (b : Forest) (a : Around) (x y : Tree) → plug a (Some x) ≡ module_of n m b → Comes a x y
    → Fits root (module_of n m b) → all_core (module_of n m b) ≡ true → Fits root (plug a (Some y)) → IsWellFormed (plug a (Some y)) → Refined (module_of n m b) (plug a (Some y))
comes_refines n m b a x y is c fits core new_fits new_form =
    module_refines n m b (plug a (Some y)) (parts_stay_modules n m b a x y is c fits) new_fits new_form
    (core_stays a x y c a (subst (λ t. all_core t ≡ true) (sym is) core))

-- the same, where all is known of both modules
pub parts_refine : (n m : Note) (b : Forest) (a : Around) (x y : Tree) → plug a (Some x) ≡ module_of n m b → Comes a x y
    → Fits root (module_of n m b) → IsWellFormed (module_of n m b) → all_core (module_of n m b) ≡ true
    → Fits root (plug a (Some y)) → IsWellFormed (plug a (Some y)) → all_core (plug a (Some y)) ≡ true → Refined (module_of n m b) (plug a (Some y))
parts_refine n m b a x y is c fits form core new_fits new_form new_core = comes_refines n m b a x y is c fits core new_fits new_form
