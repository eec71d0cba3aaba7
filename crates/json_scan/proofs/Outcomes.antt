-- What is checked by reading it is a fault, or nothing.
use Rattle.std.proofs.Common.{Result, Ok, Err, refl}
use Rattle.js_syntax.specs.Node.{nothing}
use Rattle.json_text.specs.Fault.{Fault}
use Rattle.json_text.specs.Answer.{Gives}
use Rattle.json_text.specs.declared.error.TreeError.{TreeError}
use Rattle.json_scan.specs.Outcome.{without_value}
use Rattle.json_scan.specs.Scan.{checked}
use Rattle.json_scan.proofs.Steps.{fails_checked}

pub only_fault : {X Y : Type 0} (seen : X → Y) (r : Result X TreeError) (o : Result Y Fault) → Gives seen r o → Gives (λ _. nothing) (without_value r) (checked o)
only_fault seen (Ok x) o h = rw h refl
only_fault seen (Err e) o h = fails_checked e o h
