use Rattle.std.proofs.Common.{◌≡◌, drop}
use Rattle.json_text.specs.Text.{continues_name}
use Rattle.form_names.proofs.name.continues_name.Given as goal

abbrev pub invariant-loop-c : goal.invariant-loop-c
invariant-loop-c l = continues_name l.bytes ≡ continues_name (drop l.c-index l.bytes)
