use Rattle.std.proofs.Common.{true, false}
use Rattle.std.proofs.lemmas.List.{set-set}
use Rattle.symbol_sets.proofs.laws.the_last_call_counts.Goals as goal

pub returns : goal.returns
returns c = record {
  in_twice = λ set n. set-set set n true true;
  out_twice = λ set n. set-set set n false false;
  in_last = λ set n. set-set set n false true;
  out_last = λ set n. set-set set n true false;
}
