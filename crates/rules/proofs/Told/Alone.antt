-- Of a table nothing is asked but its scopes' flags.
use Rattle.std.proofs.Common.{◌≡◌, ◌∙◌, ℕ, suc, Bool, not, ◌||◌, sym, ap}
use Rattle.js_syntax.specs.Node.{Forest, nothing, node, absent}
use Rattle.scope_rules.specs.ScopeFlags as scope_flag
use Rattle.scope_rules.specs.Table.{Scoping}
use Rattle.scope_table.specs.Reading.{scope_at}
use Rattle.steps.specs.Allowed.Exposure.{is_script}
use Rattle.steps.specs.Marked.Flags.{has_bits, Stand, stand_inside, stands_of}
use Rattle.rules.specs.DeadCode.Quiet.{TellsOnly, ToldOnly}
use Rattle.rules.specs.Told.Parts.{FlagsTellOnly, TellsNamesOnly, NamesToldOnly}
use Rattle.rules.proofs.Told.Edited.{Throughout}

abbrev is_sloppy : ℕ → Bool
is_sloppy flags = not (has_bits flags scope_flag.strict_mode || has_bits flags scope_flag.top || has_bits flags scope_flag.function || has_bits flags scope_flag.class_static_block)

module _ (s now : Scoping) (script : Bool) (same : (n : ℕ) → (scope_at now n).flags ≡ (scope_at s n).flags) where
  same_tells : (p : Stand) → TellsOnly s script p → TellsOnly now script p
  same_tells p h = record {
    evaluates = λ n e g. h.evaluates n e (ap (λ f. has_bits f scope_flag.direct_eval) (sym (same n)) ∙ g);
    sloppy = λ n e g. h.sloppy n e (ap is_sloppy (sym (same n)) ∙ g);
    names = h.names;
    variable_names = h.variable_names;
  }

  same_told : (ps : ℕ → Stand) (at : ℕ) (t : Forest) → ToldOnly s script ps at t → ToldOnly now script ps at t
  same_told ps at nothing h = tt
  same_told ps at (absent rest) h = same_told ps (suc at) rest h
  same_told ps at (node k n below rest) h = (same_tells (ps at) h.0, same_told (stand_inside (ps at) k n below) 0 below h.1, same_told ps (suc at) rest h.2)

module _ (s now : Scoping) (script : Bool) (same : (n : ℕ) → (scope_at now n).flags ≡ (scope_at s n).flags) where
  same_names : (ps : ℕ → Stand) (at : ℕ) (t : Forest) → Throughout (TellsNamesOnly s script) ps at t → Throughout (TellsNamesOnly now script) ps at t
  same_names ps at nothing h = tt
  same_names ps at (absent rest) h = same_names ps (suc at) rest h
  same_names ps at (node k n below rest) h = (
    record { sloppy = λ m e g. h.0.sloppy m e (ap is_sloppy (sym (same m)) ∙ g); names = h.0.names; variable_names = h.0.variable_names },
    same_names (stand_inside (ps at) k n below) 0 below h.1,
    same_names ps (suc at) rest h.2,
  )

pub names_alone : (t : Forest) (s now : Scoping) → ((n : ℕ) → (scope_at now n).flags ≡ (scope_at s n).flags) → NamesToldOnly s t → NamesToldOnly now t
names_alone t s now same h = same_names s now (is_script t) same (stands_of t) 0 t h

pub flags_alone : (t : Forest) (s now : Scoping) → ((n : ℕ) → (scope_at now n).flags ≡ (scope_at s n).flags) → FlagsTellOnly s t → FlagsTellOnly now t
flags_alone t s now same h = same_told s now (is_script t) same (stands_of t) 0 t h
