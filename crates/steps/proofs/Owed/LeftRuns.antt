-- Where an item leaves a core module, and the change is one that no run shows, the new module refines the old one.
use Rattle.std.proofs.Common.{◌≡◌, ◌∷◌, true, ◌&&◌, Some, refl, sym, ap, subst, true≢false}
use Rattle.js_syntax.specs.Class.{root}
use Rattle.js_syntax.specs.declared.node_kind.NodeKind.{NodeKind as Kind}
use Rattle.js_syntax.specs.declared.value.ModuleName.{ModuleName}
use Rattle.js_syntax.specs.Facts.{is_core}
use Rattle.js_syntax.specs.Node.{Note, Forest, Tree, below_of}
use Rattle.js_syntax.proofs.Truth.{both}
use Rattle.js_meaning.specs.Kept.{Refined}
use Rattle.js_meaning.specs.Module.{specifier_of}
use Rattle.js_meaning_near.specs.Purpose.{for_values}
use Rattle.js_meaning_near.specs.Near.{fields, items as near_items, row_below as near_row_below, key_of, keys, module_of}
use Rattle.js_meaning_near.specs.Local.{ReadsSame, Local, at_place, in_below, in_rest}
use Rattle.js_meaning_near.proofs.Local.{old_node}
use Rattle.json_shape.specs.Shape.{Fits}
use Rattle.form_rules.specs.Form.{IsWellFormed}
use Rattle.min_pass.specs.declared.around.Around.{Around as Asked}
use Rattle.min_pass.specs.declared.around.Row.{Row as AskedRow}
use Rattle.min_pass.specs.declared.around.Row.TheVariants.{Items as items, Other as other}
use Rattle.min_pass.specs.Around.{row_below as asked_row_below, entered as asked_below}
use Rattle.scope_laws.specs.Place.{Around, first, behind, behind_none, under, plug}
use Rattle.scope_laws.specs.Lists.{without}
use Rattle.steps.specs.Steps.{all_core}
use Rattle.steps.specs.Allowed.Places.{asked_at}
use Rattle.steps.proofs.Fit.Held.{core_here, core_below, core_behind}
use Rattle.steps.specs.KeepForm.Part.{is_statement}
use Rattle.steps.proofs.Owed.Binders.{variables_bind, handler_binds, function_binds}
use Rattle.steps.proofs.Owed.ExportsStay.{same_local}
use Rattle.steps.proofs.Owed.Made.{MadeBy, is_single, object_stands}
use Rattle.steps.proofs.Owed.PartRuns.{StillModule, not_of_nothing, items_change, module_refines}

-- ---- rows of both relations

pub list_of_both : (row : AskedRow) (k : Kind) → asked_row_below row k ≡ items → near_row_below k ≡ near_items
list_of_both row Kind.Statements e = refl
list_of_both row Kind.Declarators e = refl
list_of_both items (Kind.VariableDeclaration how) e = absurd cc
list_of_both row k e = absurd cc

-- ---- what is around stays

module _ (x : Tree) where
  -- no item stands in a row that is no list, but below its nodes
  keys_of_row : (w : Asked) (a : Around) → w.row ≡ other → (asked_at w a).row ≡ items → keys (plug a (Some x)) ≡ keys (without a)
  keys_of_row w (first rest) e item = absurd (other_row w.row e item)
    where
      other_row : (row : AskedRow) → row ≡ other → row ≡ items → ⊥
      other_row row e f = cc
  keys_of_row w (behind k n below a) e item = ap (λ ks. key_of k ∷ ks) (keys_of_row w a e item)
  keys_of_row w (behind_none a) e item = refl
  keys_of_row w (under k n a rest) e item = refl

  keys_of_object : (w : Asked) (a : Around) → (asked_at (asked_below w Kind.ObjectExpression) a).row ≡ items → MadeBy Kind.ObjectExpression (plug a (Some x)) → keys (below_of (plug a (Some x))) ≡ keys (below_of (without a))
  keys_of_object w (first rest) item made = absurd cc
  keys_of_object w (behind k n below a) item made = refl
  keys_of_object w (behind_none a) item made = refl
  keys_of_object w (under k n a rest) item made =
      let v = asked_below w Kind.ObjectExpression in
      keys_of_row (asked_below v k) a (ap (asked_row_below v.row) (object_stands (plug (under k n a rest) (Some x)) made).0.0) item

  exported_name : (exported : ModuleName) (w : Asked) (a : Around) → (asked_at (asked_below w (Kind.ExportSpecifier exported)) a).row ≡ items → specifier_of (Kind.ExportSpecifier exported) (plug a (Some x)) ≡ specifier_of (Kind.ExportSpecifier exported) (without a)
  exported_name exported w (first rest) item = absurd cc
  exported_name exported w (behind k n below a) item = same_local exported k n below below (plug a (Some x)) (without a)
  exported_name exported w (behind_none a) item = refl
  exported_name exported w (under k n a rest) item = same_local exported k n (plug a (Some x)) (without a) rest rest

  pub reads_same : is_statement x.kind ≡ true → (w : Asked) (k : Kind) (a : Around) → (asked_at (asked_below w k) a).row ≡ items → (is_single k ≡ true → MadeBy k (plug a (Some x))) → ReadsSame k (plug a (Some x)) (without a)
  reads_same states w Kind.ObjectExpression a item made = keys_of_object w a item (made refl)
  reads_same states w (Kind.ExportSpecifier exported) a item made = exported_name exported w a item
  reads_same states w (Kind.VariableDeclaration how) a item made = variables_bind x states without (λ k n b a. refl) (λ a. refl) (λ k n a r. refl) how a (made refl)
  reads_same states w Kind.CatchClause a item made = handler_binds x states without (λ k n b a. refl) (λ a. refl) (λ k n a r. refl) a (made refl)
  reads_same states w (Kind.Function how pure) a item made = function_binds x states without (λ k n b a. refl) (λ a. refl) (λ k n a r. refl) how pure a (made refl)
  reads_same states w k a item made = tt

  pub core_left : (a : Around) → all_core (plug a (Some x)) ≡ true → all_core (without a) ≡ true
  core_left (first rest) h = core_behind x.kind x.note x.below rest h
  core_left (behind k n below a) h =
      both (is_core k) (all_core below && all_core (without a)) (core_here k n below (plug a (Some x)) h)
      (both (all_core below) (all_core (without a)) (core_below k n below (plug a (Some x)) h) (core_left a (core_behind k n below (plug a (Some x)) h)))
  core_left (behind_none a) h = core_left a h
  core_left (under k n a rest) h =
      both (is_core k) (all_core (without a) && all_core rest) (core_here k n (plug a (Some x)) rest h)
      (both (all_core (without a)) (all_core rest) (core_left a (core_below k n (plug a (Some x)) rest h)) (core_behind k n (plug a (Some x)) rest h))

-- ---- modules

-- a module that is changed further in is a module still
record StaysModule (n m : Note) (u : Forest) : Type 0 where
  changed : Forest
  is : u ≡ module_of n m changed

stays_module : (n m : Note) (b u : Forest) → Local for_values fields (module_of n m b) u → StaysModule n m u
stays_module n m b _ (at_place s p) = absurd (true≢false (sym (old_node s)))
stays_module n m b _ (in_below q (at_place s p)) = absurd (true≢false (sym (old_node s)))
stays_module n m b _ (in_below q (in_below {b = d} r s)) = record { changed = d; is = refl }
stays_module n m b _ (in_below q (in_rest s)) = absurd (not_of_nothing s refl)
stays_module n m b _ (in_rest s) = absurd (not_of_nothing s refl)

pub still_module : (n m : Note) (b u : Forest) → Local for_values fields (module_of n m b) u → StillModule n m b u
still_module n m b u change =
    let left = stays_module n m b u change in
    record { changed = left.changed; is = left.is; between = left.changed; local = items_change n m b left.changed u left.is change; same = refl }

pub left_refines : (n m : Note) (b : Forest) (a : Around) (x : Tree) → plug a (Some x) ≡ module_of n m b → Local for_values fields (module_of n m b) (without a) → all_core (module_of n m b) ≡ true → Fits root (without a) → IsWellFormed (without a)
    → Refined (module_of n m b) (without a)
left_refines n m b a x is change core new_fits new_form =
    module_refines n m b (without a) (still_module n m b (without a) change) new_fits new_form (core_left x a (subst (λ t. all_core t ≡ true) (sym is) core))
