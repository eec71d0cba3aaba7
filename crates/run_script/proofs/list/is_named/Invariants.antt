use Rattle.std.proofs.Common.{◌≡◌, drop}
use Rattle.run_script.specs.Script.{is_named}
use Rattle.run_script.specs.Held.{globals_of}
use Rattle.run_script.proofs.list.is_named.Given as goal

abbrev pub invariant-loop-global : goal.invariant-loop-global
invariant-loop-global l = is_named l.name (globals_of (drop l.global-index l.globals)) ≡ is_named l.name (globals_of l.globals)
