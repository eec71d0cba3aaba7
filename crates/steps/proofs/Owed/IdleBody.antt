-- What a statement owes that does nothing, and becomes empty as the body of another.
use Rattle.std.proofs.Common.{◌≡◌, ◌≤◌, ◌⊎◌, inl, inr, true, false, Some, arith, refl, sym, true≢false}
use Rattle.std.proofs.lemmas.Bool.{or_cases}
use Rattle.js_syntax.specs.declared.node_kind.NodeKind.{NodeKind as Kind}
use Rattle.js_syntax.specs.declared.node_kind.NodeKind.TheVariants.{EmptyStatement as empty_statement, BlockStatement as block_statement, LabeledStatement as labeled_statement, WhileStatement as while_statement, ForStatement as for_statement, TryStatement as try_statement}
use Rattle.js_syntax.specs.Facts.{weight}
use Rattle.js_syntax.specs.Node.{Note, Forest, Tree, nothing, node, forest_of}
use Rattle.js_syntax.proofs.Truth.{first_of_both}
use Rattle.js_meaning.specs.Host.{Enter}
use Rattle.js_meaning.specs.Value.{Env}
use Rattle.js_meaning.specs.Node.{Ask, run}
use Rattle.js_meaning_near.specs.Quiet.{Leads}
use Rattle.js_meaning_near.specs.Near.{meaning, DoesNothing}
use Rattle.js_meaning_near.specs.Local as local
use Rattle.js_meaning_near.specs.Local.{for_part}
use Rattle.known_tests.proofs.Taken.{unknown_leads}
use Rattle.scope_laws.specs.Place.{Around, plug}
use Rattle.steps.specs.Allowed.Branches.{declares_none, declares_no_name}
use Rattle.steps.specs.Allowed.EmptyBlock.{holds_nothing}
use Rattle.steps.specs.Allowed.IdleBody.{IsBody, is_idle_statement, IdleBody, idle_body_empties}
use Rattle.steps.specs.Allowed.IdleStatement as idle_statement
use Rattle.steps.specs.Allowed.Unreached.{only_runs}
use Rattle.steps.specs.KeepForm.Part.{is_statement, may_be_idle}
use Rattle.steps.specs.Owed.Comes.{Comes}
use Rattle.steps.specs.Owed.Kept.{is_program}
use Rattle.steps.specs.Owed.Owed.{Becoming, IsUncalled, by_coming}
use Rattle.steps.proofs.Fit.Enclosing.{fits_enclosed}
use Rattle.steps.proofs.Fit.Modules.{fits_program}
use Rattle.steps.proofs.KeepForm.Asked.{idle_kinds}
use Rattle.steps.proofs.Owed.BodyPlace.{body_fits, body_sheds}
use Rattle.steps.proofs.Owed.IdleRuns as runs
use Rattle.steps.proofs.Owed.IdleStatement.{nothing_done_by}
use Rattle.steps.proofs.Owed.Outward.{declares_nothing}
use Rattle.steps.proofs.Owed.PartForm.{outside_as, nothing_declared}
use Rattle.steps.proofs.Owed.Places.{inside_program}
use Rattle.steps.proofs.Owed.Unreached.{runs_calm, runs_declare_nothing}
use Rattle.steps.proofs.Owed.Unseen.{enclosed_alone_there}
use Rattle.steps.proofs.Owed.UnseenCounts.{idle_empties}

no_kind : {A : Type 0} → false ≡ true → A
no_kind e = absurd (true≢false (sym e))

-- ---- its kind

holding_kind : (k : Kind) (a : Forest) → holds_nothing k a ≡ true → may_be_idle k ≡ true
holding_kind block_statement a h = refl
holding_kind (labeled_statement l) a h = refl
holding_kind k a h = no_kind h

idle_kind : (k : Kind) (a : Forest) → idle_statement.does_nothing k a ≡ true → may_be_idle k ≡ true
idle_kind while_statement a h = refl
idle_kind for_statement a h = refl
idle_kind try_statement a h = refl
idle_kind (labeled_statement l) a h = refl
idle_kind k a h = no_kind h

kind_of : (k : Kind) (a : Forest) → (holds_nothing k a ≡ true) ⊎ (idle_statement.does_nothing k a ≡ true) → may_be_idle k ≡ true
kind_of k a (inl holds) = holding_kind k a holds
kind_of k a (inr idle) = idle_kind k a idle

pub body_kind : (k : Kind) (a : Forest) → is_idle_statement k a ≡ true → may_be_idle k ≡ true
body_kind k a h = kind_of k a (or_cases (holds_nothing k a) (idle_statement.does_nothing k a) h)

-- an empty statement weighs less
pub idle_weighs : (k : Kind) → may_be_idle k ≡ true → 2 ≤ weight k
idle_weighs k idle = idle_kinds (λ z. 2 ≤ weight z) (Prim.omega arith) (Prim.omega arith) (Prim.omega arith) (Prim.omega arith) (Prim.omega arith) (λ label. Prim.omega arith) k idle

-- ---- what it does

done_by : (k : Kind) (a : Forest) → (holds_nothing k a ≡ true) ⊎ (idle_statement.does_nothing k a ≡ true) → declares_no_name k a ≡ true → DoesNothing k a
done_by k a (inl holds) none = runs.does_nothing k a holds
done_by k a (inr idle) none = nothing_done_by k a idle none

-- so does an empty statement; asked for anything else, both are uncovered
comes_to_nothing : (k : Kind) (a : Forest) → may_be_idle k ≡ true → DoesNothing k a → (E : Enter) (env : Env) (q : Ask) → Leads (meaning E k a q env) (meaning E empty_statement nothing q env)
comes_to_nothing k a kind idle E env (run ls) = idle.nothing_done E (run ls) env
comes_to_nothing k a kind idle E env q =
    idle_kinds (λ z. Leads (meaning E z a q env) (meaning E empty_statement nothing q env)) (unknown_leads _) (unknown_leads _) (unknown_leads _) (unknown_leads _) (unknown_leads _) (λ l. unknown_leads _) k kind

-- ---- all of it

module _ (a : Around) (x : Tree) (m : Note) (body : IsBody a) (idle : is_idle_statement x.kind x.below ≡ true) (none : declares_none (forest_of x) ≡ true) where
  abbrev y : Tree
  y = record { kind = empty_statement; note = m; below = nothing }

  kind : may_be_idle x.kind ≡ true
  kind = body_kind x.kind x.below idle

  only : only_runs x.kind ≡ true
  only = idle_kinds (λ z. only_runs z ≡ true) refl refl refl refl refl (λ label. refl) x.kind kind

  nothing_done : DoesNothing x.kind x.below
  nothing_done = done_by x.kind x.below (or_cases (holds_nothing x.kind x.below) (idle_statement.does_nothing x.kind x.below) idle) (first_of_both (declares_no_name x.kind x.below) true none)

  uncalled : IsUncalled a x
  uncalled = idle_kinds (λ k. IsUncalled a (record x { kind = k }))
      (record { counts = refl; lists = λ i. refl; begins = λ i. refl; calls = inl refl }) (record { counts = refl; lists = λ i. refl; begins = λ i. refl; calls = inl refl })
      (record { counts = refl; lists = λ i. refl; begins = λ i. refl; calls = inl refl }) (record { counts = refl; lists = λ i. refl; begins = λ i. refl; calls = inl refl })
      (record { counts = refl; lists = λ i. refl; begins = λ i. refl; calls = inl refl }) (λ l. record { counts = refl; lists = λ i. refl; begins = λ i. refl; calls = inl refl }) x.kind kind

  no_program : (rest : Forest) → is_program (node x.kind x.note x.below rest) ≡ false
  no_program rest = idle_kinds (λ z. is_program (node z x.note x.below rest) ≡ false) refl refl refl refl refl (λ label. refl) x.kind kind

  comes : local.DeclaresNothing x.kind x.below → Comes a x y
  comes declares = record {
    inner = nothing;
    same = refl;
    stands = for_part (λ st. record { old_hoists = nothing_done.hoists; new_hoists = refl; comes = λ E env binds q p. comes_to_nothing x.kind x.below kind nothing_done E env q });
    old_calm = runs_calm x.kind only;
    declares = record { plainly = record { vars = declares.vars; imports = declares.imports }; binds = inl (idle_kinds (λ z. is_statement z ≡ true) refl refl refl refl refl (λ label. refl) x.kind kind) };
    core = λ c. refl;
  }

  owes : Becoming a x y
  owes = record {
    lighter = let more = idle_weighs x.kind kind in Prim.omega (arith, more);
    no_call = uncalled;
    ends = inr refl;
    may_change = inr (inr body);
    fits = body_fits a x m kind body;
    sheds = body_sheds a x m kind body (λ s calm at. nothing_declared s at (forest_of x) (outside_as s (forest_of x) calm) none);
    kept = λ fits s kept.
        idle_empties a x (declares_nothing (forest_of x) none (enclosed_alone_there a x.kind x.note x.below (fits_enclosed (plug a (Some x)) fits))) (fits_program (plug a (Some x)) fits)
        (inside_program a x (fits_program (plug a (Some x)) fits) no_program) m s kept;
    runs = by_coming (λ p q r is fits form core. comes (runs_declare_nothing a x only none p q r is fits form core));
  }

pub idle_body_owes : (a : Around) (x y : Tree) → IdleBody a x y → Becoming a x y
idle_body_owes a _ _ (idle_body_empties x m body idle none) = owes a x m body idle none
