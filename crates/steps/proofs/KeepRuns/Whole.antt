-- A step of a whole module is tidy by what it asks of a name, where that was declared once.
use Rattle.std.proofs.Common.{◌≡◌, inl, inr, true, false, refl}
use Rattle.js_syntax.specs.declared.node_kind.NodeKind.{NodeKind as Kind}
use Rattle.js_syntax.specs.declared.scalar.SourceType.TheVariants as source_type
use Rattle.js_syntax.specs.Node.{Forest, nothing, Note, alone}
use Rattle.js_meaning.specs.Kept.{Refined}
use Rattle.js_meaning.specs.Scope.{module_decls}
use Rattle.js_meaning_near.specs.Near as near
use Rattle.js_meaning_near.specs.Near.{fields, module_of}
use Rattle.js_meaning_near.specs.Fit.{whole}
use Rattle.js_meaning_near.specs.Avoid.{InPlace}
use Rattle.steps.specs.Names.{refers}
use Rattle.steps.specs.Steps.{outermost, Step, inside, all_core}
use Rattle.steps.proofs.Steps.{step_core}
use Rattle.steps.specs.KeepRuns.Formed.{holds_well, is_formed}
use Rattle.steps.specs.KeepRuns.Drop.{Drop, no_drop, of_block, of_function, dropped}
use Rattle.steps.specs.KeepRuns.Tidy.{TidyAt, Tidy}
use Rattle.steps.specs.KeepRuns.Once.{OnceIn, Once}
use Rattle.steps.proofs.KeepRuns.Calm.{form_holds, form_below}
use Rattle.steps.proofs.KeepRuns.Formed.{formed_step}
use Rattle.steps.proofs.KeepRuns.Modules.{in_program, top, place_step, InItems, in_items, in_its_items, module_step}
use Rattle.steps.proofs.KeepRuns.Names.{block_free, variables_free}
use Rattle.steps.proofs.KeepRuns.Once.{name_free, refers_step, clear_row, once_tidy}
use Rattle.steps.proofs.KeepRuns.Shown.{exports_avoid}
use Rattle.js_syntax.proofs.Truth.{first_of_neither}

top_tidy : (m : Note) (a b : Forest) (s : Step (top m a) a b) (d : Drop) → dropped s ≡ d → is_formed a ≡ true → holds_well Kind.Statements b ≡ true → is_formed b ≡ true → InPlace whole near.items b
    → OnceIn (Kind.Program source_type.Module) (alone Kind.Statements m b) d → TidyAt (Kind.Program source_type.Module) (alone Kind.Statements m b) d
top_tidy m a b s no_drop e f h g i o = tt
top_tidy m a b s (of_block x) e f h g i o =
    let free : refers x a ≡ false = first_of_neither (refers x a) false (block_free s x e) in (
      exports_avoid x b (name_free s x (inl e) f) (refers_step s x (inl e) f free),
      clear_row s x Kind.Statements whole near.items (module_decls b) (inl e) f h g free (λ t. t) o.0 o.1 i,
    )
top_tidy m a b s (of_function x) e f h g i o =
    let free : refers x a ≡ false = first_of_neither (refers x a) false (variables_free s x e) in (
      exports_avoid x b (name_free s x (inr e) f) (refers_step s x (inr e) f free),
      clear_row s x Kind.Statements whole near.items (module_decls b) (inr e) f h g free (λ t. t) o.0 o.1 i,
    )

module_tidy : (n m : Note) (a u : Forest) (s : Step outermost (module_of n m a) u) → InItems n m a u s
    → is_formed (module_of n m a) ≡ true → all_core a ≡ true → InPlace whole fields (module_of n m a) → Once s → Tidy s
module_tidy n m a _ _ (in_items {b = b} s) f c i o =
    let g : is_formed (alone Kind.Statements m a) ≡ true = form_below (Kind.Program source_type.Module) (alone Kind.Statements m a) nothing f in
    let h : is_formed a ≡ true = form_below Kind.Statements a nothing g in
    let l : is_formed b ≡ true = formed_step s h in
    let j : InPlace whole near.items b = place_step whole near.items s i.0.1.0.1 in
    let k : holds_well Kind.Statements b ≡ true = form_holds Kind.Statements b nothing (formed_step (inside {w = in_program m a} {k = Kind.Statements} {n = m} {r = nothing} s) g) in (
      top_tidy m a b s (dropped s) refl h k l j o.0,
      (tt, once_tidy whole near.items s Kind.Statements (form_holds Kind.Statements a nothing g) h l (step_core s c) tt j o.1.1),
    )

pub module_once : (n m : Note) (a u : Forest) (s : Step outermost (module_of n m a) u) → is_formed (module_of n m a) ≡ true → all_core a ≡ true → InPlace whole fields (module_of n m a) → Once s → Refined (module_of n m a) u
module_once n m a u s f c i o = module_step n m a u s f i (module_tidy n m a u s (in_its_items n m a u s) f c i o)
