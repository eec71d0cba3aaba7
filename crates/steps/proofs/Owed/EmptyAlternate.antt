-- What an `if` owes that loses an empty alternate.
use Rattle.std.proofs.Common.{inl, Some, arith, refl}
use Rattle.js_syntax.specs.Class.{Class}
use Rattle.js_syntax.specs.declared.node_kind.NodeKind.{NodeKind as Kind}
use Rattle.js_syntax.specs.declared.node_kind.NodeKind.TheVariants.{IfStatement as if_statement, EmptyStatement as empty_statement}
use Rattle.js_syntax.specs.Node.{Note, Forest, Tree, nothing, node, absent}
use Rattle.js_syntax.specs.Table.{an_if_statement}
use Rattle.js_meaning.specs.Host.{Enter}
use Rattle.js_meaning.specs.Node.{Ask, run, need, may}
use Rattle.js_meaning.specs.Meaning.{eval}
use Rattle.js_meaning.specs.State.{M}
use Rattle.js_meaning.specs.Value.{Env}
use Rattle.js_meaning_near.specs.Local.{for_part}
use Rattle.js_meaning_near.specs.Names.{Names}
use Rattle.js_meaning_near.specs.Near.{meaning, ComesTo}
use Rattle.js_meaning_near.specs.Purpose.{Purpose}
use Rattle.js_meaning_near.specs.Quiet.{Leads, goes_on_as}
use Rattle.known_tests.proofs.Taken.{unknown_leads}
use Rattle.scope_laws.specs.Place.{Around, plug}
use Rattle.steps.specs.Allowed.EmptyAlternate.{one_branch, EmptyAlternate, alternate_goes}
use Rattle.steps.specs.Allowed.KnownIf.{an_if}
use Rattle.steps.specs.Allowed.Wanted.{wanted_at}
use Rattle.steps.specs.KeepForm.Part.{without_alternate}
use Rattle.steps.specs.Owed.Comes.{Comes}
use Rattle.steps.specs.Owed.Owed.{Becoming, by_coming}
use Rattle.steps.specs.Owed.TakesPlace.{TakesPlace}
use Rattle.steps.proofs.Fit.Modules.{fits_program}
use Rattle.steps.proofs.Owed.AlternateCounts.{alternate_kept}
use Rattle.steps.proofs.Owed.FitsBecoming.{becoming_fits}
use Rattle.steps.proofs.Owed.FitsTaking.{if_stood, if_below}
use Rattle.steps.proofs.Owed.PartForm.{replaced_sheds}
use Rattle.steps.proofs.Owed.Places.{inside_program}

leads_itself : (m : M) → Leads m m
leads_itself m = record { leads = λ s. goes_on_as (record { budget = refl; fresh = Prim.omega arith; store = λ i h. refl; globals = λ x. refl; imports = λ source x. refl; shown = refl; moves = refl; exports = refl; stars = refl }) }

module _ (a : Around) (n i j o : Note) (t l : Kind) (d b : Forest) where
  abbrev with : Forest
  with = node t i d (node l j b (node empty_statement o nothing nothing))

  abbrev without : Forest
  without = node t i d (node l j b (absent nothing))

  abbrev x : Tree
  x = an_if n t i d (node l j b (node empty_statement o nothing nothing))

  abbrev y : Tree
  y = one_branch n t l i j d b

  -- where the test doesn't hold, nothing is done with the one as with the other
  leads : (E : Enter) (env : Env) (q : Ask) → Leads (meaning E if_statement with q env) (meaning E if_statement without q env)
  unfolding need may eval
  leads E env (run ls) = leads_itself (meaning E if_statement without (run ls) env)
  leads E env q = unknown_leads _

  branch_comes : (u : Purpose) (st : Names) → ComesTo u st if_statement with if_statement without
  branch_comes u st = record { old_hoists = refl; new_hoists = refl; comes = λ E env binds q p. leads E env q }

  comes : Comes a x y
  comes = record {
    inner = without;
    same = refl;
    stands = for_part (λ st. branch_comes (wanted_at a) st);
    old_calm = refl;
    declares = record { plainly = record { vars = refl; imports = λ source. refl }; binds = inl refl };
    core = λ c. c;
  }

  takes : TakesPlace x y
  takes = record {
    classes = λ (to : Class) fits. let parts = if_below to n with fits in ((an_if_statement, tt, if_stood to n with fits, tt, refl, (parts.0, (parts.1.0, (tt, tt)))), tt);
    old_told = refl;
    new_told = refl;
  }

  owes : Becoming a x y
  owes = record {
    lighter = Prim.omega arith;
    no_call = record { counts = refl; lists = λ j. refl; begins = λ j. refl; calls = inl refl };
    ends = inl refl;
    may_change = inl refl;
    fits = becoming_fits a x y takes;
    sheds = λ fits. replaced_sheds a x y without_alternate refl (λ deleted. refl) fits;
    kept = λ fits s kept. let program = fits_program (plug a (Some x)) fits in alternate_kept a t l n i j o d b program (inside_program a x program (λ rest. refl)) s kept;
    runs = by_coming (λ p q r is fits form core. comes);
  }

pub empty_alternate_owes : (a : Around) (x y : Tree) → EmptyAlternate a x y → Becoming a x y
empty_alternate_owes a x y (alternate_goes n i j o t l d b last) = owes a n i j o t l d b
