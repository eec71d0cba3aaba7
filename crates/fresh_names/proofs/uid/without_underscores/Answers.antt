use Rattle.fresh_names.proofs.Read.{cut_behind_underscores}
use Rattle.fresh_names.proofs.uid.without_underscores.Goals as goal

pub range_from-requires : goal.range_from-requires
range_from-requires c = λ _. cut_behind_underscores c.args.name.now c.underscores.result c.utf8.name c.underscores.ensures
