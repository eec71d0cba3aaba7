-- What clap's meaning of the command set gives.
use Rattle.std.proofs.Common.{◌≡◌, List, [], ◌∷◌, Bool, Option, Some, None, IsSome, is_some, true, false, cond, refl, ap, sym, ◌∙◌, inl, inr, option_map, find}
use Rattle.clap.specs.Walk.{Held, Names, Row, Text, answers_to, finished, nothing_held, settled, walk, walk_from}
use Rattle.clap.specs.Simple.{App, Shape, argument_words, built, entered, is_simple, label_of, names_of, rows_at, subcommand_of}
use Rattle.clap.specs.Values.{kind_of}
use Rattle.clap.specs.Kinds.{Kinds, HasKind, check_kinds, or_else}
use Rattle.clap.specs.Faults.{check_fault, defaults_fault, entered_fault, fault_of, is_simple_and_free, level_fault, settle_fault, walk_fault}
use Rattle.clap.specs.declared.error.Error.{Error}
use Rattle.clap.specs.declared.error.kind.ErrorKind.TheVariants as kind
use Rattle.clap.proofs.OnLiterals.{clap_on_literals}
use Rattle.shake_words.specs.Program.{program}
use Rattle.shake_words.specs.Meaning.{accepts, command_met, command_named, command_of, is_none}

-- ---- the command set lies within the class of which clap's meaning is exact

pub simple : (a : App) → a ≡ program → is_simple a ≡ true
unfolding clap_on_literals
simple a is = ap is_simple is

pub simple_and_free : (a : App) → a ≡ program → is_simple_and_free a ≡ true
unfolding clap_on_literals
simple_and_free a is = ap is_simple_and_free is

-- ---- accepted or not

pub no_fault : (a : App) (words : List Text) → a ≡ program → fault_of a words ≡ [] → fault_of program words ≡ []
no_fault a words is none = ap (λ b. fault_of b words) (sym is) ∙ none

pub accepted : (a : App) (words : List Text) → a ≡ program → fault_of a words ≡ [] → accepts words ≡ true
unfolding accepts
accepted a words is none = ap is_none (no_fault a words is none)

has_some : (kinds : Kinds) (e : Error) → HasKind kinds e → (kind_of e ≡ kind.OutOfMemory → ⊥) → is_none kinds ≡ false
has_some [] e (inl memory) other = absurd (other memory)
has_some [] e (inr none) other = absurd none
has_some (k ∷ ks) e has other = refl

pub refused : (a : App) (words : List Text) (e : Error) → a ≡ program → HasKind (fault_of a words) e → (kind_of e ≡ kind.OutOfMemory → ⊥) → accepts words ≡ false
unfolding accepts
refused a words e is has other = ap is_none (ap (λ b. fault_of b words) (sym is)) ∙ has_some (fault_of a words) e has other

-- ---- words without a fault name a command

none_last : (a b c d e : Kinds) → or_else a (or_else b (or_else c (or_else d e))) ≡ [] → e ≡ []
none_last [] [] [] [] e none = none
none_last [] [] [] (k ∷ ks) e none = cc
none_last [] [] (k ∷ ks) d e none = cc
none_last [] (k ∷ ks) c d e none = cc
none_last (k ∷ ks) b c d e none = cc

is_wanted : (wants_help wants_subcommand wants_argument : Bool) → wants_subcommand ≡ true → check_kinds wants_help wants_subcommand wants_argument ≡ [] → ⊥
is_wanted true wants_subcommand wants_argument is none = cc
is_wanted false true wants_argument is none = cc
is_wanted false false wants_argument is none = cc

has_command : (s : Shape) (rows : List Row) (has : Bool) → s.subcommand_required ≡ true → check_fault s rows has ≡ [] → has ≡ true
has_command s rows true is none = refl
has_command s rows false is none = absurd (is_wanted _ _ _ is none)

level_met : (s : Shape) (names : Names) (h : Held) (words : List Text) (has : Bool) (below : Kinds) → s.subcommand_required ≡ true → level_fault s names h words has below ≡ [] → has ≡ true
level_met s names h words has below is none =
    let end = (walk s.rules names h words).held in
    has_command s (finished s.rules end) has is
    (none_last (walk_fault s names (walk_from h) words) below (settle_fault s.rules s.args_override_self end)
    (defaults_fault (settled s.rules end).rows s.rules) (check_fault s (finished s.rules end) has) none)

-- where the walk over the words met a command, and the words behind it
abbrev stop : List Text → Option (Text × List Text)
stop words = (walk (built program).top.rules (names_of (built program)) nothing_held (argument_words program words)).stopped

met : (words : List Text) → fault_of program words ≡ [] → is_some (entered (built program) (stop words)) ≡ true
met words none =
    level_met (built program).top (names_of (built program)) nothing_held (argument_words program words)
    (is_some (entered (built program) (stop words))) (entered_fault (built program) (stop words)) refl none

abbrev IsNamed : Option (Text × List Row) → Type 0
IsNamed found = is_some found ≡ true → IsSome (command_met found)

-- the command has a name that the program knows
abbrev IsKnown : Shape → Type 0
IsKnown s = (rows : List Row) → IsSome (command_named s.name rows)

abbrev AreKnown : List Shape → Type 0
AreKnown [] = Unit {0}
AreKnown (s ∷ rest) = IsKnown s × AreKnown rest

named_among : (subs : List Shape) (p : Text × List Text) → AreKnown subs → IsNamed (option_map (λ s. rows_at s p.1) (find (λ s. answers_to p.0 (label_of s)) subs))
named_among [] p known = λ is. cc
named_among (s ∷ rest) p known =
    elim (answers_to p.0 (label_of s)) as (λ b. IsNamed (option_map (λ x. rows_at x p.1) (cond b (Some s) (find (λ x. answers_to p.0 (label_of x)) rest)))) [
      | true ↦ λ is. known.0 (rows_at s p.1).1
      | false ↦ named_among rest p known.1
    ]

-- each command of the set
all_known : AreKnown (built program).subs
all_known = ((λ rows. refl), ((λ rows. refl), tt))

named : (stop : Option (Text × List Text)) → IsNamed (entered (built program) stop)
named None = λ is. cc
named (Some p) = named_among (built program).subs p all_known

pub asks : (words : List Text) → fault_of program words ≡ [] → IsSome (command_of words)
unfolding command_of
asks words none = named (stop words) (met words none)

-- ---- what a parse gives

pub met_is : (a : App) (words : List Text) (found : Option (Text × List Row)) → a ≡ program → found ≡ subcommand_of a words → command_met found ≡ command_of words
unfolding command_of
met_is a words found is met = ap command_met (met ∙ ap (λ b. subcommand_of b words) is)
