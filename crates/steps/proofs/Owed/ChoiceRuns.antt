-- What is known of a branch of a choice in a core module.
use Rattle.std.proofs.Common.{◌≡◌, ◌∙◌, ℕ, [], true, false, Some, refl, sym, ap, subst}
use Rattle.js_syntax.specs.Class.{root}
use Rattle.js_syntax.specs.declared.node_kind.NodeKind.{NodeKind as Kind}
use Rattle.js_syntax.specs.declared.scalar.SourceType.TheVariants as source_type
use Rattle.js_syntax.specs.Node.{Note, Forest, Tree, nothing, node, forest_of}
use Rattle.js_meaning.specs.Scope.{specifier_decls, import_decls}
use Rattle.js_meaning.specs.Value.{Text}
use Rattle.js_meaning_near.specs.Near.{is_calm, module_of}
use Rattle.json_shape.specs.Shape.{Fits}
use Rattle.form_rules.specs.Form.{IsWellFormed}
use Rattle.scope_laws.specs.Place.{Around, first, behind, behind_none, under, plug}
use Rattle.steps.specs.Steps.{all_core}
use Rattle.steps.proofs.KeepForm.Rules.{first_empty, second_empty, both_empty}
use Rattle.steps.specs.Naming.Placed.{Place, place_below, is_well_placed}
use Rattle.steps.proofs.Fit.Formed.{program_well_placed}
use Rattle.steps.proofs.Fit.Held.{core_below, core_behind, core_alone}
use Rattle.steps.proofs.Owed.Undeclared.{lead_to_imports, no_imports_there}

-- a part of the row below a node is core where the node is
pub consequent_core : (above k : Kind) (n m i : Note) (t : Kind) (d b r : Forest) → all_core (node above n (node t m d (node k i b r)) nothing) ≡ true → all_core (node k i b nothing) ≡ true
consequent_core above k n m i t d b r h = core_alone k i b r (core_behind t m d (node k i b r) (core_below above n (node t m d (node k i b r)) nothing h))

pub alternate_core : (above k l : Kind) (n m i j : Note) (t : Kind) (d b c : Forest)
    → all_core (node above n (node t m d (node k i b (node l j c nothing))) nothing) ≡ true → all_core (node l j c nothing) ≡ true
alternate_core above k l n m i j t d b c h =
    let branches = node k i b (node l j c nothing) in
    core_behind k i b (node l j c nothing) (core_behind t m d branches (core_below above n (node t m d branches) nothing h))

pub imports_before : (source : Text) (k : Kind) (n : Note) (a r : Forest) → import_decls source (node k n a r) ≡ [] → import_decls source (node k n a nothing) ≡ []
imports_before source k n a r h = both_empty (specifier_decls source k a (import_decls source a)) [] (first_empty (specifier_decls source k a (import_decls source a)) (import_decls source r) h) refl

pub imports_behind : (source : Text) (k : Kind) (n : Note) (a r : Forest) → import_decls source (node k n a r) ≡ [] → import_decls source r ≡ []
imports_behind source k n a r h = second_empty (specifier_decls source k a (import_decls source a)) (import_decls source r) h

-- ---- in a module of the table

pub module_placed : (n m : Note) (b : Forest) → Fits root (module_of n m b) → IsWellFormed (module_of n m b) → all_core (module_of n m b) ≡ true → is_well_placed (module_of n m b) ≡ true
module_placed n m b fits form core =
    let list = node Kind.Statements m b nothing in
    program_well_placed source_type.Module n list fits form (core_below (Kind.Program source_type.Module) n list nothing core)

pub core_there : (a : Around) (x : Tree) → all_core (plug a (Some x)) ≡ true → all_core (forest_of x) ≡ true
core_there (first rest) x h = core_alone x.kind x.note x.below rest h
core_there (behind k n below a) x h = core_there a x (core_behind k n below (plug a (Some x)) h)
core_there (behind_none a) x h = core_there a x h
core_there (under k n a rest) x h = core_there a x (core_below k n (plug a (Some x)) rest h)

module _ (n m : Note) (b : Forest) (a : Around) (x y : Tree) (is : plug a (Some x) ≡ module_of n m b)
    (fits : Fits root (module_of n m b)) (form : IsWellFormed (module_of n m b)) (core : all_core (module_of n m b) ≡ true) where
  pub no_imports_below : (k : Kind) → x.kind ≡ k → is_calm k ≡ true → ((p : Place) (i : ℕ) → lead_to_imports (place_below p k i) ≡ false) → (source : Text) → import_decls source x.below ≡ []
  no_imports_below k kind calm leads =
      no_imports_there n m b a x is (module_placed n m b fits form core) (ap is_calm kind ∙ calm) (subst (λ l. (p : Place) (i : ℕ) → lead_to_imports (place_below p l i) ≡ false) (sym kind) leads)
