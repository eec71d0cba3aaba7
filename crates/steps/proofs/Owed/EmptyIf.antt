-- What an `if` owes whose branches are empty, which becomes a statement of its test.
use Rattle.std.proofs.Common.{inl, ◌≡◌, ◌∙◌, [], Bool, true, false, Some, arith, refl, sym, ap, subst, true≢false}
use Rattle.js_syntax.specs.Class.{Class, root, expression}
use Rattle.js_syntax.specs.declared.node_kind.NodeKind.{NodeKind as Kind}
use Rattle.js_syntax.specs.declared.node_kind.NodeKind.TheVariants.{IfStatement as if_statement, EmptyStatement as empty_statement, ExpressionStatement as expression_statement}
use Rattle.js_syntax.specs.Node.{Note, Forest, Tree, nothing, node, absent, forest_of}
use Rattle.js_syntax.specs.Table.{an_expression_statement}
use Rattle.js_syntax.proofs.Truth.{both, first_of_both, second_of_both}
use Rattle.js_meaning.specs.Host.{Enter}
use Rattle.js_meaning.specs.Node.{Ask, run, now, need, may}
use Rattle.js_meaning.specs.Meaning.{eval}
use Rattle.js_meaning.specs.Operator.{truthy}
use Rattle.js_meaning.specs.Scope.{import_decls}
use Rattle.js_meaning.specs.State.{M, normal, done, choose, with_value}
use Rattle.js_meaning.specs.Value.{Env, Text}
use Rattle.js_meaning_near.specs.Local.{for_part}
use Rattle.js_meaning_near.specs.Names.{Names}
use Rattle.js_meaning_near.specs.Near.{meaning, ComesTo}
use Rattle.js_meaning_near.specs.Purpose.{Purpose}
use Rattle.js_meaning_near.specs.Quiet.{Leads, goes_on_as}
use Rattle.json_shape.specs.Shape.{Fits}
use Rattle.known_tests.proofs.Taken.{unknown_leads}
use Rattle.scope_counts.proofs.Leaving.{if_is_plain}
use Rattle.scope_laws.specs.Place.{Around, plug}
use Rattle.steps.specs.Steps.{all_core}
use Rattle.steps.specs.Allowed.Branches.{declares_none}
use Rattle.steps.specs.Allowed.EmptyIf.{is_empty, are_empty, begins_no_statement, statement_of, EmptyIf, test_stays}
use Rattle.steps.specs.Allowed.KnownIf.{an_if}
use Rattle.steps.specs.Allowed.Wanted.{wanted_at}
use Rattle.steps.specs.KeepForm.Part.{by_test}
use Rattle.steps.specs.Owed.Comes.{Comes}
use Rattle.steps.specs.Owed.Owed.{Becoming, by_coming}
use Rattle.steps.specs.Owed.Part.{IsPart, DeclaresNothing}
use Rattle.steps.specs.Owed.TakesPlace.{TakesPlace}
use Rattle.steps.proofs.Fit.Held.{core_below, core_alone}
use Rattle.steps.proofs.Fit.Modules.{fits_program}
use Rattle.steps.proofs.Owed.BranchKinds.{no_statement, unnamed_unasked}
use Rattle.steps.proofs.Owed.ChoiceParts.{parts_of_if}
use Rattle.steps.proofs.Owed.ChoiceRuns.{imports_before, no_imports_below}
use Rattle.steps.proofs.Owed.Expressions.{expression_declares_none}
use Rattle.steps.proofs.Owed.FitsBecoming.{becoming_fits}
use Rattle.steps.proofs.Owed.FitsTaking.{as_if, if_stood, if_below}
use Rattle.steps.proofs.Owed.KnownIf.{tested_row}
use Rattle.steps.proofs.Owed.PartCounts.{parts_kept}
use Rattle.steps.proofs.Owed.PartForm.{nothing_declared, if_stays_outside, replaced_sheds}
use Rattle.steps.proofs.Owed.Places.{inside_program}
use Rattle.steps.proofs.Owed.TestCounts.{statement_kept}
use Rattle.steps.proofs.Owed.Undeclared.{no_variables}

-- ---- the branches

no_more : {A : Type 0} → false ≡ true → A
no_more e = absurd (true≢false (sym e))

each_one : (Q : Kind → Forest → Type 0) → Q empty_statement nothing → (k : Kind) (b : Forest) → is_empty k b ≡ true → Q k b
each_one Q q empty_statement nothing h = q
each_one Q q empty_statement (absent r) h = no_more h
each_one Q q empty_statement (node l n c r) h = no_more h
each_one Q q k b h = no_more h

pub each_empty : (P : Forest → Type 0) → ((n : Note) → P (node empty_statement n nothing (absent nothing))) → ((n m : Note) → P (node empty_statement n nothing (node empty_statement m nothing nothing))) → (branches : Forest) → are_empty branches ≡ true → P branches
each_empty P one two (node k n b (absent nothing)) h = each_one (λ z d. P (node z n d (absent nothing))) (one n) k b h
each_empty P one two (node k n b (node l m c nothing)) h =
    each_one (λ z d. P (node z n d (node l m c nothing))) (each_one (λ z d. P (node empty_statement n nothing (node z m d nothing))) (two n m) l c (second_of_both (is_empty k b) (is_empty l c) h)) k b (first_of_both (is_empty k b) (is_empty l c) h)
each_empty P one two nothing h = no_more h
each_empty P one two (absent r) h = no_more h
each_empty P one two (node k n b nothing) h = no_more h
each_empty P one two (node k n b (absent (absent r))) h = no_more h
each_empty P one two (node k n b (absent (node l m c r))) h = no_more h
each_empty P one two (node k n b (node l m c (absent r))) h = no_more h
each_empty P one two (node k n b (node l m c (node z i d r))) h = no_more h

pub empty_declares : (branches : Forest) → are_empty branches ≡ true → declares_none branches ≡ true
empty_declares = each_empty (λ b. declares_none b ≡ true) (λ i. refl) (λ i j. refl)

-- ---- runs

leads_itself : (m : M) → Leads m m
leads_itself m = record { leads = λ s. goes_on_as (record { budget = refl; fresh = Prim.omega arith; store = λ i h. refl; globals = λ x. refl; imports = λ source x. refl; shown = refl; moves = refl; exports = refl; stars = refl }) }

either_way : (b : Bool) (m : M) → choose b m m ≡ m
unfolding choose
either_way true m = refl
either_way false m = refl

module _ (t : Kind) (m : Note) (d : Forest) where
  same : (E : Enter) (env : Env) → with_value (meaning E t d now env) (λ v. choose (truthy v) (done normal) (done normal)) ≡ with_value (meaning E t d now env) (λ v. done normal)
  same E env = ap (with_value (meaning E t d now env)) (λ z. λ v. either_way (truthy v) (done normal) z)

  one_branch : (n : Note) (E : Enter) (env : Env) (q : Ask) → Leads (meaning E if_statement (node t m d (node empty_statement n nothing (absent nothing))) q env) (meaning E expression_statement (node t m d nothing) q env)
  unfolding need may eval
  one_branch n E env (run ls) = subst (λ k. Leads k (with_value (meaning E t d now env) (λ v. done normal))) (sym (same E env)) (leads_itself (with_value (meaning E t d now env) (λ v. done normal)))
  one_branch n E env q = unknown_leads _

  both_branches : (n o : Note) (E : Enter) (env : Env) (q : Ask) → Leads (meaning E if_statement (node t m d (node empty_statement n nothing (node empty_statement o nothing nothing))) q env) (meaning E expression_statement (node t m d nothing) q env)
  unfolding need may eval
  both_branches n o E env (run ls) = subst (λ k. Leads k (with_value (meaning E t d now env) (λ v. done normal))) (sym (same E env)) (leads_itself (with_value (meaning E t d now env) (λ v. done normal)))
  both_branches n o E env q = unknown_leads _

  only_test : (branches : Forest) → are_empty branches ≡ true → (E : Enter) (env : Env) (q : Ask) → Leads (meaning E if_statement (node t m d branches) q env) (meaning E expression_statement (node t m d nothing) q env)
  only_test = each_empty (λ b. (E : Enter) (env : Env) (q : Ask) → Leads (meaning E if_statement (node t m d b) q env) (meaning E expression_statement (node t m d nothing) q env)) one_branch both_branches

test_comes : (u : Purpose) (st : Names) (t : Kind) (m : Note) (d branches : Forest) → are_empty branches ≡ true → ComesTo u st if_statement (node t m d branches) expression_statement (node t m d nothing)
test_comes u st t m d branches empty = record { old_hoists = refl; new_hoists = refl; comes = λ E env binds q p. only_test t m d branches empty E env q }

-- ---- all that it owes

module _ (a : Around) (n m o : Note) (t : Kind) (d branches : Forest) (empty : are_empty branches ≡ true) (unnamed : begins_no_statement t ≡ false) where
  abbrev below : Forest
  below = node t m d branches

  abbrev x : Tree
  x = an_if n t m d branches

  abbrev y : Tree
  y = statement_of o m t d

  module _ (fits : Fits root (plug a (Some x))) where
    test : Fits expression (node t m d nothing)
    test = ((parts_of_if a n below fits).0, tt)

    none_below : declares_none below ≡ true
    none_below = tested_row t m d branches (expression_declares_none (node t m d nothing) test) (empty_declares branches empty)

    none_there : declares_none (forest_of x) ≡ true
    none_there = both (declares_none below) true none_below refl

    is_part : IsPart x (record { kind = t; note = m; below = d })
    is_part = record {
      before = nothing;
      after = branches;
      stands = refl;
      plain = if_is_plain;
      before_declares = λ aims at. refl;
      after_declares = each_empty DeclaresNothing (λ i aims at. refl) (λ i j aims at. refl) branches empty;
    }

    comes : ((source : Text) → import_decls source below ≡ []) → Comes a x y
    comes imports = record {
      inner = node t m d nothing;
      same = refl;
      stands = for_part (λ st. test_comes (wanted_at a) st t m d branches empty);
      old_calm = refl;
      declares = record { plainly = record { vars = no_variables below none_below ∙ sym (no_variables (node t m d nothing) (expression_declares_none (node t m d nothing) test)); imports = λ source. imports source ∙ sym (imports_before source t m d branches (imports source)) }; binds = inl refl };
      core = λ c. both (all_core (node t m d nothing)) true (core_alone t m d branches (core_below if_statement n below nothing c)) refl;
    }

  takes : TakesPlace x y
  takes = record {
    classes = λ (to : Class) fits. (as_if expression_statement (node t m d nothing) to (if_stood to n below fits) (an_expression_statement, tt, refl, tt, refl, ((if_below to n below fits).0, tt)), tt);
    old_told = refl;
    new_told = refl;
  }

  owes : Becoming a x y
  owes = record {
    lighter = Prim.omega arith;
    no_call = record { counts = refl; lists = λ j. refl; begins = λ j. refl; calls = inl refl };
    ends = inl refl;
    may_change = inl refl;
    fits = becoming_fits a x y takes;
    sheds = λ fits.
        let is = test fits in
        replaced_sheds a x y (by_test refl (unnamed_unasked t d is.0 unnamed) (no_statement t d is.0) (λ s at. nothing_declared s at (forest_of x) (if_stays_outside s n below) (none_there fits))) refl (λ deleted. refl) fits;
    kept = λ fits s kept.
        let program = fits_program (plug a (Some x)) fits in
        statement_kept a x program (inside_program a x program (λ rest. refl)) t m o d s (parts_kept a x (record { kind = t; note = m; below = d }) (is_part fits) program s kept);
    runs = by_coming (λ p q r is fits form core. comes (subst (Fits root) (sym is) fits) (no_imports_below p q r a x y is fits form core if_statement refl refl (λ s j. refl)));
  }

pub empty_if_owes : (a : Around) (x y : Tree) → EmptyIf x y → Becoming a x y
empty_if_owes a x y (test_stays n m o t d branches empty unnamed) = owes a n m o t d branches empty unnamed
