use Rattle.steps.proofs.Allowed.Tried.{and_goes_right, and_stays_left, or_goes_right, or_stays_left, coalesce_goes_right, coalesce_stays_left, typed_stays_left, voided_goes_right, object_stays_left}
use Rattle.steps.proofs.allowed_laws.rows.known_sides_count.Goals as goal

pub returns : goal.returns
returns c =
    record {
      and_right = and_goes_right;
      and_left = and_stays_left;
      or_right = or_goes_right;
      or_left = or_stays_left;
      coalesce_right = coalesce_goes_right;
      coalesce_left = coalesce_stays_left;
      typed = typed_stays_left;
      voided = voided_goes_right;
      object = object_stays_left;
    }
