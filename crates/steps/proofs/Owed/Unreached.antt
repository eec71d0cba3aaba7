-- What a statement behind a jump owes that leaves its list.
use Rattle.std.proofs.Common.{◌≡◌, ◌∙◌, ◌≤◌, ◌⊎◌, ℕ, ◌==◌, List, [], inl, inr, true, false, Some, arith, refl, sym, ap, subst, true≢false}
use Rattle.js_syntax.specs.Class.{root}
use Rattle.js_syntax.specs.declared.node_kind.NodeKind.{NodeKind as Kind}
use Rattle.js_syntax.specs.Facts.{weight}
use Rattle.js_syntax.specs.Node.{Note, Forest, Tree, forest_of}
use Rattle.js_meaning.specs.Scope.{vars_of, var_names, import_decls}
use Rattle.js_meaning_near.specs.Purpose.{for_values}
use Rattle.js_meaning_near.specs.Near.{is_calm, fields, module_of}
use Rattle.js_meaning_near.specs.Local as local
use Rattle.js_meaning_near.specs.Local.{Local}
use Rattle.js_meaning_near.proofs.Local.{calm_specifier}
use Rattle.form_rules.specs.declared.sought.Sought.{Sought}
use Rattle.form_rules.specs.declared.sought.Sought.TheVariants.{CatchScope as catch_scope}
use Rattle.form_rules.specs.Rules.{Exported}
use Rattle.form_rules.specs.Form.{IsWellFormed}
use Rattle.json_shape.specs.Shape.{is_directive_kind, Fits}
use Rattle.scope_rules.specs.Context.{Context, outermost}
use Rattle.scope_laws.specs.Place.{Around, plug}
use Rattle.scope_laws.specs.Lists.{without}
use Rattle.steps.specs.Steps.{all_core}
use Rattle.steps.specs.Allowed.Branches.{declares_none}
use Rattle.steps.specs.Allowed.Places.{IsItem}
use Rattle.steps.specs.Allowed.Unreached.{only_runs, Unreached, never_runs}
use Rattle.steps.specs.KeepForm.Part.{is_statement}
use Rattle.steps.specs.KeepForm.Sheds.{exports_none}
use Rattle.steps.proofs.KeepForm.Rules.{first_empty}
use Rattle.steps.specs.Naming.Placed.{Place, declared, cases, others, place_below}
use Rattle.steps.specs.Owed.Owed.{NeverRuns, Uncounted, IsIdleItem, MayChange, IsUnexported, by_change, Leaving}
use Rattle.steps.specs.Owed.Seeking.{Seeks}
use Rattle.steps.proofs.Owed.JumpRuns.{cut_is_local}
use Rattle.steps.proofs.Owed.ChoiceRuns.{no_imports_below}
use Rattle.steps.proofs.Owed.Focus.{always, follows_there}
use Rattle.steps.proofs.Owed.Outward.{declares_nothing}
use Rattle.steps.proofs.Owed.PartForm.{is_catch, outside_as, nothing_declared}
use Rattle.steps.proofs.Owed.Undeclared.{no_variables, lead_to_imports, neither_leads}
use Rattle.steps.proofs.Owed.Unseen.{enclosed_alone_there}

-- ---- kinds

no_kind : {A : Type 0} → false ≡ true → A
no_kind e = absurd (true≢false (sym e))

-- what only runs has a weight, is no directive, and starts nothing
record Runs (k : Kind) : Type 0 where
  weighs : 1 ≤ weight k
  no_directive : is_directive_kind k ≡ false
  calm : is_calm k ≡ true
  states : is_statement k ≡ true
  leads : (p : Place) (i : ℕ) → lead_to_imports (place_below p k i) ≡ false

of_kind : (k : Kind) → only_runs k ≡ true → Runs k
of_kind Kind.ExpressionStatement h = record { weighs = Prim.omega arith; no_directive = refl; calm = refl; states = refl; leads = λ p i. refl }
of_kind Kind.BlockStatement h = record { weighs = Prim.omega arith; no_directive = refl; calm = refl; states = refl; leads = λ p i. refl }
of_kind (Kind.LabeledStatement l) h = record { weighs = Prim.omega arith; no_directive = refl; calm = refl; states = refl; leads = λ p i. refl }
of_kind Kind.IfStatement h = record { weighs = Prim.omega arith; no_directive = refl; calm = refl; states = refl; leads = λ p i. refl }
of_kind (Kind.BreakStatement l) h = record { weighs = Prim.omega arith; no_directive = refl; calm = refl; states = refl; leads = λ p i. refl }
of_kind (Kind.ContinueStatement l) h = record { weighs = Prim.omega arith; no_directive = refl; calm = refl; states = refl; leads = λ p i. refl }
of_kind Kind.ReturnStatement h = record { weighs = Prim.omega arith; no_directive = refl; calm = refl; states = refl; leads = λ p i. refl }
of_kind Kind.ThrowStatement h = record { weighs = Prim.omega arith; no_directive = refl; calm = refl; states = refl; leads = λ p i. refl }
of_kind Kind.WhileStatement h = record { weighs = Prim.omega arith; no_directive = refl; calm = refl; states = refl; leads = λ p i. refl }
of_kind Kind.WithStatement h = record { weighs = Prim.omega arith; no_directive = refl; calm = refl; states = refl; leads = λ p i. refl }
of_kind Kind.DebuggerStatement h = record { weighs = Prim.omega arith; no_directive = refl; calm = refl; states = refl; leads = λ p i. refl }
of_kind Kind.DoWhileStatement h = record { weighs = Prim.omega arith; no_directive = refl; calm = refl; states = refl; leads = λ p i. refl }
of_kind Kind.ForStatement h = record { weighs = Prim.omega arith; no_directive = refl; calm = refl; states = refl; leads = λ p i. neither_leads (i == 0) declared others refl refl }
of_kind Kind.ForInStatement h = record { weighs = Prim.omega arith; no_directive = refl; calm = refl; states = refl; leads = λ p i. refl }
of_kind Kind.ForOfStatement h = record { weighs = Prim.omega arith; no_directive = refl; calm = refl; states = refl; leads = λ p i. refl }
of_kind Kind.SwitchStatement h = record { weighs = Prim.omega arith; no_directive = refl; calm = refl; states = refl; leads = λ p i. neither_leads (i == 1) cases others refl refl }
of_kind Kind.TryStatement h = record { weighs = Prim.omega arith; no_directive = refl; calm = refl; states = refl; leads = λ p i. refl }
of_kind k h = no_kind h

pub runs_weigh : (k : Kind) → only_runs k ≡ true → 1 ≤ weight k
runs_weigh k h = (of_kind k h).weighs

-- ---- what is sought there

pub no_catch : (t : Forest) (s : Sought) (es : List Exported) (c : Context) → Seeks t s es c → is_catch s ≡ false
no_catch t (catch_scope f) es c h = absurd h
no_catch t s es c h = refl

pub runs_calm : (k : Kind) → only_runs k ≡ true → is_calm k ≡ true
runs_calm k h = (of_kind k h).calm

-- ---- all of it

-- in a core module it declares nothing outside
pub runs_declare_nothing : (a : Around) (x : Tree) → only_runs x.kind ≡ true → declares_none (forest_of x) ≡ true
    → (n m : Note) (b : Forest) → plug a (Some x) ≡ module_of n m b → Fits root (module_of n m b) → IsWellFormed (module_of n m b) → all_core (module_of n m b) ≡ true → local.DeclaresNothing x.kind x.below
runs_declare_nothing a x runs none n m b is fits form core =
    let kind = of_kind x.kind runs in
    record {
      vars = first_empty (vars_of x.kind x.below (var_names x.below)) [] (no_variables (forest_of x) none);
      imports = λ source. calm_specifier source x.kind x.below (import_decls source x.below) kind.calm ∙ no_imports_below n m b a x x is fits form core x.kind refl kind.calm kind.leads source;
    }

-- of a statement of which no run shows that it leaves
pub unshown_owes : (a : Around) (x : Tree) → IsItem a → Uncounted false a x → MayChange a x ⊎ IsIdleItem a → only_runs x.kind ≡ true → declares_none (forest_of x) ≡ true
    → (is_statement x.kind ≡ true → local.DeclaresNothing x.kind x.below → Fits root (plug a (Some x)) → Local for_values fields (plug a (Some x)) (without a)) → Leaving a x
unshown_owes a x item uncounted may runs none change =
    let kind = of_kind x.kind runs in
    record {
      weighs = Prim.omega (arith, kind.weighs);
      listed = inl item;
      no_directive = kind.no_directive;
      no_call = uncounted;
      may_change = may;
      unseen = λ e. inr (declares_nothing (forest_of x) none (enclosed_alone_there a x.kind x.note x.below e));
      unexported = follows_there (λ b c i. Unit {0}) (IsUnexported (plug a (Some x)) x)
          (λ b c i h z within right seeks. ap (exports_none z.exported) (nothing_declared z.sought 0 (forest_of x) (outside_as z.sought (forest_of x) (no_catch (plug a (Some x)) z.sought z.exported c seeks)) none)) (Some x) a false (λ at. outermost) 0 0
          (always (Some x) a false (λ at. outermost) 0 0);
      runs = by_change (λ n m b is fits form core. change kind.states (runs_declare_nothing a x runs none n m b is fits form core) (subst (Fits root) (sym is) fits));
    }

-- and of one that never runs, wherever that is known from
pub never_running_owes : (a : Around) (x : Tree) → IsItem a → NeverRuns false a → only_runs x.kind ≡ true → declares_none (forest_of x) ≡ true
    → (is_statement x.kind ≡ true → local.DeclaresNothing x.kind x.below → Fits root (plug a (Some x)) → Local for_values fields (plug a (Some x)) (without a)) → Leaving a x
never_running_owes a x item never runs none change = unshown_owes a x item (inr never) (inr (item, never)) runs none change

pub unreached_owes : (a : Around) (x : Tree) → Unreached a x → Leaving a x
unreached_owes a x (never_runs item jump runs none) = never_running_owes a x item (inl jump) runs none (λ states declares fits. cut_is_local x (of_kind x.kind runs).calm states declares a item jump fits)
