use Rattle.std.specs.Str.{bytes_eq}
use Rattle.min_imports.specs.Passing.{found_in}
use Rattle.min_imports.proofs.Naming.{put_in, put_not}
use Rattle.min_imports.proofs.passed.bind.Goals as goal

pub returns-then-imports_one : goal.returns-then-imports_one
returns-then-imports_one c = put_in c.args.text c.args.kind c.args.names.now c.insert.new.self c.imports_one.result c.imports_one.ensures c.if-imports_one.true c.in_ok-insert.ensures.updates

pub returns : goal.returns
returns c = λ x. put_not (bytes_eq c.args.text.now x) c.args.kind.now c.imports_one.result (found_in c.args.names.now x) c.imports_one.ensures c.if-imports_one.false
