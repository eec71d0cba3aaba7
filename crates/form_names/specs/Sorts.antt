-- In which ways a name was declared so far, and whether one more clashes with them.
use Rattle.std.specs.Prelude.{Bool, true, false, ◌&&◌, ◌||◌}
use Rattle.form_rules.specs.declared.sought.Sort.{Sort}
use Rattle.form_rules.specs.declared.sought.Sort.TheVariants.{Lexical as lexical, Repeatable as repeatable, Hoisted as hoisted, Variable as variable, Parameter as parameter, CatchParameter as catch_parameter}
use Rattle.form_names.specs.declared.sorts.Sorts.{Sorts}

abbrev pub no_sorts : Sorts
no_sorts = record { lexical = false; repeatable = false; hoisted = false; variable = false; parameter = false; catch_parameter = false }

abbrev pub with_sort : Sort → Sorts → Sorts
with_sort lexical s = record { lexical = true; repeatable = s.repeatable; hoisted = s.hoisted; variable = s.variable; parameter = s.parameter; catch_parameter = s.catch_parameter }
with_sort repeatable s = record { lexical = s.lexical; repeatable = true; hoisted = s.hoisted; variable = s.variable; parameter = s.parameter; catch_parameter = s.catch_parameter }
with_sort hoisted s = record { lexical = s.lexical; repeatable = s.repeatable; hoisted = true; variable = s.variable; parameter = s.parameter; catch_parameter = s.catch_parameter }
with_sort variable s = record { lexical = s.lexical; repeatable = s.repeatable; hoisted = s.hoisted; variable = true; parameter = s.parameter; catch_parameter = s.catch_parameter }
with_sort parameter s = record { lexical = s.lexical; repeatable = s.repeatable; hoisted = s.hoisted; variable = s.variable; parameter = true; catch_parameter = s.catch_parameter }
with_sort catch_parameter s = record { lexical = s.lexical; repeatable = s.repeatable; hoisted = s.hoisted; variable = s.variable; parameter = s.parameter; catch_parameter = true }

-- a test that counts where the flag stands
unfoldable pub or_if : (flag test rest : Bool) → Bool
or_if flag test rest = (flag && test) || rest

abbrev pub any_clash : (Sort → Sort → Bool) → Sort → Sorts → Bool
any_clash test sort s =
    or_if s.lexical (test lexical sort) (or_if s.repeatable (test repeatable sort) (or_if s.hoisted (test hoisted sort)
    (or_if s.variable (test variable sort) (or_if s.parameter (test parameter sort) (or_if s.catch_parameter (test catch_parameter sort) false)))))
