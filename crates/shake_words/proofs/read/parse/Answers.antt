use Rattle.std.proofs.Common.{map, string_bytes, sym, subst, IsSome, ◌∙◌}
use Rattle.shake_words.proofs.Taken.{accepted, asks, met_is, no_fault, refused, simple, simple_and_free}
use Rattle.shake_words.proofs.read.parse.Goals as goal

pub unwrap-requires : goal.unwrap-requires
unwrap-requires c =
    let app = c.in_ok-program.ensures in
    let words = map string_bytes c.args.words.now in
    let met = c.command_met.ensures ∙ met_is _ words _ app (c.in-Ok.ensures.matches (simple _ app)).1 in
    subst IsSome (sym met) (asks words (no_fault _ words app (c.in-Ok.ensures.kinds (simple_and_free _ app))))

pub returns-in-Ok-clause-accepted : goal.returns-in-Ok-clause-accepted
returns-in-Ok-clause-accepted c =
    accepted _ (map string_bytes c.args.words.now) c.in_ok-program.ensures (c.in-Ok.ensures.kinds (simple_and_free _ c.in_ok-program.ensures))

pub returns-in-Ok-clause-meaning : goal.returns-in-Ok-clause-meaning
returns-in-Ok-clause-meaning c =
    let app = c.in_ok-program.ensures in
    let words = map string_bytes c.args.words.now in
    sym (met_is _ words _ app (c.in-Ok.ensures.matches (simple _ app)).1) ∙ sym c.command_met.ensures ∙ c.unwrap.ensures

pub returns : goal.returns
returns c = record {
  accepted = tt;
  meaning = tt;
  usage = λ _. refused _ (map string_bytes c.args.words.now) c.in-Err.error c.in_ok-program.ensures
      (c.in-Err.ensures.kinds (simple_and_free _ c.in_ok-program.ensures)) (λ memory. c.in_default.not-OutOfMemory (c.kind.ensures ∙ memory));
}
