use Rattle.json_kept.proofs.Signable.{read_exact_sizes, read_signable}
use Rattle.json_kept.proofs.SignsFit.{signed_readable, exact_may}
use Rattle.json_kept.proofs.signs.what_was_read_is_signable.Goals as goal

pub returns : goal.returns
returns c = record {
  exact_sizes = read_exact_sizes;
  signable = read_signable;
  readable = signed_readable;
  runs = exact_may;
}
