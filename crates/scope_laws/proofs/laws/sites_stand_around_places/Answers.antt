use Rattle.scope_laws.proofs.Split.{split_of}
use Rattle.scope_laws.proofs.laws.sites_stand_around_places.Goals as goal

pub returns : goal.returns
returns c = split_of
