-- Of a program without dead code no expression comes to its parts, no `if` to its branch, and no list to what is reached of it.
use Rattle.std.proofs.Common.{Bool, Some}
use Rattle.js_syntax.specs.Node.{Forest}
use Rattle.headline.specs.Clean.{CleanBut, a_known_conditional, a_known_side, an_unused_operation, an_unused_list, an_indirect_choice, a_one_sided_choice, idle_parts, two_sides, an_unused_object, a_known_operation, a_known_if, a_dead_if, an_empty_if, an_empty_alternate, an_unreached_statement, an_untaken_statement, a_statement_of_names, an_unrun_value, an_idle_statement, an_idle_try}
use Rattle.rules.specs.Expressions.Settled.{IsSettled}
use Rattle.rules.proofs.Expressions.Settled.{is_settled}

pub expressions_rest : (unused imports : Bool) (t : Forest) → CleanBut unused imports t → IsSettled t
expressions_rest unused imports t clean =
    is_settled t (λ a x y is h. clean.nothing_is_dead a (Some x) is (a_known_conditional a x y h)) (λ a x y is h. clean.nothing_is_dead a (Some x) is (a_known_side a x y h))
    (λ a x y is h. clean.nothing_is_dead a (Some x) is (an_unused_operation a x y h)) (λ a x y is h. clean.nothing_is_dead a (Some x) is (an_unused_list a x y h))
    (λ a x y is h. clean.nothing_is_dead a (Some x) is (an_indirect_choice a x y h)) (λ a x y is h. clean.nothing_is_dead a (Some x) is (a_one_sided_choice a x y h))
    (λ a x y is h. clean.nothing_is_dead a (Some x) is (idle_parts a x y h)) (λ a x y is h. clean.nothing_is_dead a (Some x) is (two_sides a x y h))
    (λ a x y is h. clean.nothing_is_dead a (Some x) is (an_unused_object a x y h)) (λ a x y is h. clean.nothing_is_dead a (Some x) is (a_known_operation a x y h))
    (λ a x y is h. clean.nothing_is_dead a (Some x) is (a_known_if a x y h)) (λ a x y is h. clean.nothing_is_dead a (Some x) is (a_dead_if a x y h))
    (λ a x is h. clean.nothing_is_dead a (Some x) is (an_unreached_statement a x h)) (λ a x is h. clean.nothing_is_dead a (Some x) is (an_untaken_statement a x h))
    (λ a x is h. clean.nothing_is_dead a (Some x) is (an_idle_statement a x h)) (λ a x y is h. clean.nothing_is_dead a (Some x) is (an_unrun_value a x y h))
    (λ a x y is h. clean.nothing_is_dead a (Some x) is (an_idle_try a x y h)) (λ a x y is h. clean.nothing_is_dead a (Some x) is (an_empty_if a x y h))
    (λ a x y is h. clean.nothing_is_dead a (Some x) is (an_empty_alternate a x y h))
    (λ a x y is h. clean.nothing_is_dead a (Some x) is (a_statement_of_names a x y h))
