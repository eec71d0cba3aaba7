use Rattle.js_syntax.specs.Node.{row}
use Rattle.min_imports.proofs.Listing.{passes_so}
use Rattle.min_imports.proofs.listed.names_pass.Goals as goal

pub returns-in-len1-up : goal.returns-in-len1-up
returns-in-len1-up c = passes_so c.args.uses.now (row c.args.listed.now.specifiers.now) c.args.names.now c.all_pass.result c.in-len1-up.len_at_least c.all_pass.ensures
