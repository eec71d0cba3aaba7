-- A program that is marked by its own table is between passes before the first.
use Rattle.std.proofs.Common.{◌≡◌, ◌∙◌, ℕ, List, Bool, true, false, Some, length, sym, ap, subst}
use Rattle.std.proofs.lemmas.List.{length-replicate}
use Rattle.js_syntax.specs.Class.{root}
use Rattle.js_syntax.specs.Node.{Forest}
use Rattle.js_effects.specs.Silence.{is_marked}
use Rattle.js_scoping.specs.Build.{table_of, numbered}
use Rattle.json_shape.specs.Shape.{Fits}
use Rattle.scope_rules.specs.Table.{Scoping}
use Rattle.symbol_sets.specs.Numbers.{none_below}
use Rattle.steps.specs.Allowed.Exposure.{is_script, is_script_source}
use Rattle.steps.specs.Marked.Flags.{first_mark, FlagsTell}
use Rattle.rules.specs.Told.Nesting.{ScopesNest}
use Rattle.rules.specs.Told.Parts.{FlagsTellOnly}
use Rattle.rules.proofs.Told.New.{new_told_only}
use Rattle.rules.proofs.Told.Nested.{new_nests}
use Rattle.rules.specs.DeadCode.Knows.{TellsBound, TellsExported}
use Rattle.rules.specs.DeadCode.Quiet.{IsExported}
use Rattle.rules.proofs.DeadCode.BeginsTrue.{begins}
use Rattle.exported_names.specs.Answers.{bound_of}
use Rattle.exported_names.specs.Exported.{exported_of}
use Rattle.exported_names.proofs.New.{known, only}
use Rattle.min_context.specs.IsTrue.{IsTrue}
use Rattle.min_context.specs.Place.{outside}
use Rattle.min_context.specs.Seen.{Seen}
use Rattle.min_statements.specs.Walker.{Names, names_of}
use Rattle.min_peephole.specs.Between.{BetweenPasses}

module _ (names : Names) (c : Seen) (t : Forest) (fits : Fits root t) (marked : t ≡ numbered t) (table : c.scoping ≡ table_of t) where
  -- what is true of each new table is true of this one
  there : (P : Scoping → Forest → Type 0) → P (table_of t) (numbered t) → P c.scoping t
  there P h = subst (λ u. P c.scoping u) (sym marked) (subst (λ s. P s (numbered t)) (sym table) h)

  pub begun : names ≡ names_of c.scoping t → c.marked ≡ none_below (length c.scoping.references) → c.place ≡ outside → c.eval_dropped ≡ false → c.requested ≡ false
      → is_script_source c.source_type ≡ is_script t → BetweenPasses names c t
  begun named marks place calls asked source =
      let k = known t fits false false in
      let bound_is : names.bound ≡ bound_of c.scoping = ap {A = Names} (λ (n : Names). n.bound) named in
      let exported_is : names.exported ≡ exported_of c.scoping t = ap {A = Names} (λ (n : Names). n.exported) named in
      record {
        place = place;
        marks = marks ∙ ap none_below (sym (ap length marks ∙ length-replicate (length c.scoping.references) false));
        calls_stay = calls;
        nothing_asked = asked;
        holds = subst (IsTrue c) (sym marked) (begins t fits c table marks);
        nested = there ScopesNest (new_nests t);
        flags = there FlagsTell k.flags;
        flags_only = there FlagsTellOnly (new_told_only t fits);
        outermost = there (λ s u. first_mark u ≡ Some 0) k.outermost;
        source = source;
        bound = subst (TellsBound c.scoping) (sym bound_is) (there (λ s u. TellsBound s (bound_of s)) k.bound);
        exported = subst (λ v. TellsExported v t) (sym exported_is) (there (λ s u. TellsExported (exported_of s u) u) k.exported);
        exported_only = subst (λ (v : List Bool). (symbol : ℕ) → is_marked v (Some symbol) ≡ true → IsExported t symbol) (sym exported_is)
            (there (λ s u. (symbol : ℕ) → is_marked (exported_of s u) (Some symbol) ≡ true → IsExported u symbol) (only t));
      }
