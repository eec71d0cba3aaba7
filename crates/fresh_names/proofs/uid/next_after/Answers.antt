use Rattle.std.proofs.Common.{◌≡◌, ◌∙◌, ◌+◌, ◌-◌, ◌^◌, Bool, if◌then◌else◌, Some, ap, sym}
use Rattle.std.proofs.lemmas.Bool.{lt-ltb}
use Rattle.std.specs.Option.{option_map}
use Rattle.fresh_names.specs.Kept.{uid_with}
use Rattle.fresh_names.specs.Uid.{Uid, next_after}
use Rattle.fresh_names.proofs.uid.next_after.Goals as goal

pub returns-then-last-lt4294967295 : goal.returns-then-last-lt4294967295
returns-then-last-lt4294967295 c = λ base.
    let last : Uid = uid_with base c.in-Some.last in
    let next : Uid = record { base = base; count = last.count; postfix = last.postfix + 1 } in
    let longer : Uid = record { base = base; count = last.count + 1; postfix = 2 } in
    sym (ap (λ b. if b then next else longer) (lt-ltb last.postfix (2 ^ 32 - 1) c.if-last-lt4294967295.true))
    ∙ ap (λ o. next_after base (option_map (uid_with base) o)) (sym c.in-Some.is)
