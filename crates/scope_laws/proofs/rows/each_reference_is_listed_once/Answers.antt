use Rattle.scope_laws.proofs.Tried.{once, another, twice, never}
use Rattle.scope_laws.proofs.rows.each_reference_is_listed_once.Goals as goal

pub returns : goal.returns
returns c = record { once = once; another = another; twice = twice; never = never }
