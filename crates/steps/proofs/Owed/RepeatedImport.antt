-- What an import without names owes that leaves its list behind another request of its module.
use Rattle.std.proofs.Common.{◌≡◌, inl, inr, arith, Some, true, false, refl, ap}
use Rattle.js_syntax.specs.Node.{Tree, forest_of}
use Rattle.scope_rules.specs.Context.{outermost}
use Rattle.scope_laws.specs.Place.{Around, plug}
use Rattle.steps.specs.Allowed.Branches.{declares_none}
use Rattle.steps.specs.Allowed.RepeatedImport.{import_of, RepeatedImport, repeated_import_leaves}
use Rattle.steps.specs.KeepForm.Sheds.{exports_none}
use Rattle.steps.specs.Owed.Owed.{IsUnexported, by_refining, Leaving}
use Rattle.steps.proofs.Owed.Focus.{always, follows_there}
use Rattle.steps.proofs.Owed.Outward.{declares_nothing}
use Rattle.steps.proofs.Owed.PartForm.{outside_as, nothing_declared}
use Rattle.steps.proofs.Owed.RepeatedRuns.{repeated_refines}
use Rattle.steps.proofs.Owed.Unreached.{no_catch}
use Rattle.steps.proofs.Owed.Unseen.{enclosed_alone_there}

pub repeated_import_owes : (a : Around) (x : Tree) → RepeatedImport a x → Leaving a x
repeated_import_owes a x (repeated_import_leaves source n m item asked) =
    let y : Tree = import_of source n m in
    let none : declares_none (forest_of y) ≡ true = refl in
    record {
      weighs = Prim.omega arith;
      listed = inl item;
      no_directive = refl;
      no_call = inl (record { counts = refl; lists = λ i. refl; begins = λ i. refl; calls = refl });
      may_change = inl refl;
      unseen = λ e. inr (declares_nothing (forest_of y) none (enclosed_alone_there a y.kind y.note y.below e));
      unexported = follows_there (λ b c i. Unit {0}) (IsUnexported (plug a (Some y)) y)
          (λ b c i h z within right seeks. ap (exports_none z.exported) (nothing_declared z.sought 0 (forest_of y) (outside_as z.sought (forest_of y) (no_catch (plug a (Some y)) z.sought z.exported c seeks)) none)) (Some y) a false (λ at. outermost) 0 0
          (always (Some y) a false (λ at. outermost) 0 0);
      runs = by_refining (λ i j b is fits form core. repeated_refines source n m a asked i j b is fits form core);
    }
