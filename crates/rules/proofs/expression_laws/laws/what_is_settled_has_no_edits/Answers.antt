use Rattle.rules.proofs.Expressions.Settled.{no_conditional, no_side, no_unused, no_list, no_indirect, no_one_sided, no_sequence, no_two_sides, no_object, no_known, no_known_if, no_dead_if, no_empty_if, no_empty_alternate, no_try, no_unreached, no_untaken, no_names, no_idle, no_value, is_settled}
use Rattle.rules.proofs.expression_laws.laws.what_is_settled_has_no_edits.Goals as goal

pub returns-clause-conditional : goal.returns-clause-conditional
returns-clause-conditional c = no_conditional

pub returns-clause-logical : goal.returns-clause-logical
returns-clause-logical c = no_side

pub returns-clause-unused : goal.returns-clause-unused
returns-clause-unused c = no_unused

pub returns-clause-list : goal.returns-clause-list
returns-clause-list c = no_list

pub returns-clause-indirect : goal.returns-clause-indirect
returns-clause-indirect c = no_indirect

pub returns-clause-one_sided : goal.returns-clause-one_sided
returns-clause-one_sided c = no_one_sided

pub returns-clause-sequence : goal.returns-clause-sequence
returns-clause-sequence c = no_sequence

pub returns-clause-two_sides : goal.returns-clause-two_sides
returns-clause-two_sides c = no_two_sides

pub returns-clause-object : goal.returns-clause-object
returns-clause-object c = no_object

pub returns-clause-known : goal.returns-clause-known
returns-clause-known c = no_known

pub returns-clause-known_if : goal.returns-clause-known_if
returns-clause-known_if c = no_known_if

pub returns-clause-dead_if : goal.returns-clause-dead_if
returns-clause-dead_if c = no_dead_if

pub returns-clause-unreached : goal.returns-clause-unreached
returns-clause-unreached c = no_unreached

pub returns-clause-untaken : goal.returns-clause-untaken
returns-clause-untaken c = no_untaken

pub returns-clause-names : goal.returns-clause-names
returns-clause-names c = no_names

pub returns-clause-idle : goal.returns-clause-idle
returns-clause-idle c = no_idle

pub returns-clause-unrun : goal.returns-clause-unrun
returns-clause-unrun c = no_value

pub returns-clause-settled : goal.returns-clause-settled
returns-clause-settled c = is_settled

pub returns-clause-idle_try : goal.returns-clause-idle_try
returns-clause-idle_try c = no_try

pub returns-clause-empty_if : goal.returns-clause-empty_if
returns-clause-empty_if c = no_empty_if

pub returns-clause-empty_alternate : goal.returns-clause-empty_alternate
returns-clause-empty_alternate c = no_empty_alternate
