-- A program of which the rules take nothing out has no dead code, but for what is kept.
use Rattle.std.proofs.Common.{◌≡◌, ◌↔◌, Option}
use Rattle.js_syntax.specs.Node.{Forest, Tree}
use Rattle.scope_laws.specs.Place.{Around, plug}
use Rattle.scope_counts.specs.Scopes.{unmarked}
use Rattle.headline.specs.Clean.{CleanBut, IsDead, an_empty_statement, an_empty_block, a_silent_statement, an_unused_function, an_unused_declarator, a_value_of_an_unused_name, an_unused_import, a_known_conditional, a_known_side, an_unused_operation, an_unused_list, an_indirect_choice, a_one_sided_choice, idle_parts, two_sides, an_unused_object, a_known_operation, a_known_if, a_dead_if, an_empty_if, an_empty_alternate, an_unreached_statement, an_untaken_statement, a_statement_of_names, an_unrun_value, an_idle_statement, a_repeated_import, an_idle_try, an_idle_body}
use Rattle.rules.specs.DeadCode.Knows.{Knows}
use Rattle.rules.specs.DeadCode.Quiet.{Exactly, IsQuiet}
use Rattle.rules.specs.DeadCode.Rules.{Facts}
use Rattle.rules.proofs.DeadCode.Alive.{no_empty_item, no_empty_block, no_silent_statement, no_idle_body, no_unused_function, no_unused_declarator, no_value_stays}
use Rattle.rules.specs.Expressions.Settled.{IsSettled}
use Rattle.rules.proofs.Expressions.Settled.{no_conditional, no_side, no_unused, no_list, no_indirect, no_one_sided, no_sequence, no_two_sides, no_object, no_known, no_known_if, no_dead_if, no_empty_if, no_empty_alternate, no_try, no_unreached, no_untaken, no_names, no_idle, no_value}
use Rattle.rules.specs.Imports.Quiet.{ImportsUsed}
use Rattle.rules.proofs.Imports.Used.{no_unused_name}
use Rattle.rules.proofs.Imports.Repeating.{none_repeats}
use Rattle.rules.proofs.Imports.Together.{rule_goes}
use Rattle.rules.proofs.Imports.Passing as passing
use Rattle.rules_clean.proofs.Deciding.{expressions_rest}
use Rattle.rules_clean.proofs.Dying.{rules_rest}
use Rattle.rules_clean.proofs.Importing.{imports_rest}

module _ (f : Facts) (t : Forest) (known : Knows f unmarked t) (exactly : Exactly f t) where
  module _ (quiet : IsQuiet f t) (used : ImportsUsed f t) (settled : IsSettled t) where
    none_dead : (a : Around) (x : Option Tree) → t ≡ plug a x → IsDead f.keeps_unused f.keeps_imports t a x → ⊥
    none_dead a x is (an_empty_statement b n item) = no_empty_item f t known exactly quiet a n is item
    none_dead a x is (an_empty_block b y held) = no_empty_block f t known exactly quiet b y is held
    none_dead a x is (a_silent_statement b n below silent) = no_silent_statement f t known exactly quiet a n below is silent
    none_dead a x is (an_unused_function b pure n m name rest unkept item own free) = no_unused_function f t known exactly quiet a pure n m name rest is unkept item own free
    none_dead a x is (an_unused_declarator b n m name value unkept declares own silent free) = no_unused_declarator f t known exactly quiet a n m name value is unkept declares own silent free
    none_dead a x is (a_value_of_an_unused_name b y z unkept stays) = no_value_stays f t known exactly quiet b y z is unkept stays
    none_dead a x is (an_unused_import b k n m name unkept named binds imported own free) = no_unused_name f t known exactly used a k n m name is unkept named binds imported own free
    none_dead a x is (a_known_conditional b y z decides) = no_conditional t settled a y z is decides
    none_dead a x is (a_known_side b y z decides) = no_side t settled a y z is decides
    none_dead a x is (an_unused_operation b y z unused) = no_unused t settled a y z is unused
    none_dead a x is (an_unused_list b y z unused) = no_list t settled a y z is unused
    none_dead a x is (an_indirect_choice b y z decides) = no_indirect t settled a y z is decides
    none_dead a x is (a_one_sided_choice b y z one_acts) = no_one_sided t settled a y z is one_acts
    none_dead a x is (idle_parts b y z leave) = no_sequence t settled a y z is leave
    none_dead a x is (two_sides b y z act) = no_two_sides t settled a y z is act
    none_dead a x is (an_unused_object b y z unused) = no_object t settled a y z is unused
    none_dead a x is (a_known_operation b y z known) = no_known t settled a y z is known
    none_dead a x is (a_known_if b y z known) = no_known_if t settled a y z is known
    none_dead a x is (a_dead_if b y z known) = no_dead_if t settled a y z is known
    none_dead a x is (an_unreached_statement b y unreached) = no_unreached t settled b y is unreached
    none_dead a x is (an_untaken_statement b y untaken) = no_untaken t settled b y is untaken
    none_dead a x is (an_idle_statement b y idle) = no_idle t settled b y is idle
    none_dead a x is (an_empty_if b y z empty) = no_empty_if t settled a y z is empty
    none_dead a x is (an_empty_alternate b y z empty) = no_empty_alternate t settled a y z is empty
    none_dead a x is (an_idle_try b y z idle) = no_try t settled a y z is idle
    none_dead a x is (an_idle_body b y z idle) = no_idle_body f t known exactly quiet b y z is idle
    none_dead a x is (a_statement_of_names b y z names) = no_names t settled a y z is names
    none_dead a x is (an_unrun_value b y z value) = no_value t settled a y z is value
    none_dead a x is (a_repeated_import b y repeated) = none_repeats t (λ c z rest at. (used c z rest at).1) b y is repeated

    pub clean : CleanBut f.keeps_unused f.keeps_imports t
    clean = record { nothing_is_dead = none_dead; imports_are_together = rule_goes f t known exactly (λ c z rest at. (used c z rest at).2); none_is_passed_on = passing.rule_goes f t known exactly (λ c z rest at. (used c z rest at).3) }

  pub clean_if_quiet : (IsQuiet f t × ImportsUsed f t × IsSettled t) ↔ CleanBut f.keeps_unused f.keeps_imports t
  clean_if_quiet = (λ h. clean h.0 h.1 h.2, λ h. (rules_rest f unmarked t known h, imports_rest f unmarked t known h, expressions_rest f.keeps_unused f.keeps_imports t h))
