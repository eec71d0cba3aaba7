use Rattle.headline.proofs.UsedImports.{imports_used}
use Rattle.headline.proofs.lasting.imports_are_used.Goals as goal

pub returns : goal.returns
returns c = λ t fits script calls clean. imports_used t fits script calls clean
