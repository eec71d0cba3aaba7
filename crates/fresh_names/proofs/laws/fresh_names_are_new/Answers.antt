use Rattle.std.proofs.Common.{[], ◌++◌}
use Rattle.fresh_names.specs.Uid.{with_names}
use Rattle.fresh_names.specs.Fresh.{known_after, names_of}
use Rattle.fresh_names.proofs.Fresh.{made, fresh, covers_calls}
use Rattle.fresh_names.proofs.laws.fresh_names_are_new.Goals as goal

pub returns : goal.returns
returns c = λ taken calls name. let start = with_names taken [] in fresh (known_after calls start) (taken ++ names_of calls start) name (covers_calls start taken calls (made taken))
