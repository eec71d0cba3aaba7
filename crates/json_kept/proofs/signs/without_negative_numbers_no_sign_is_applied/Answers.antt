use Rattle.json_kept.proofs.SignsWritten.{signed_itself}
use Rattle.json_kept.proofs.signs.without_negative_numbers_no_sign_is_applied.Goals as goal

pub returns : goal.returns
returns c = signed_itself
