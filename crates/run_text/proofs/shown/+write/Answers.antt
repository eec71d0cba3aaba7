use Rattle.std.proofs.Common.{flat_map, ap, arith}
use Rattle.std.proofs.lemmas.List.{take_all}
use Rattle.run_value.specs.ShownView.{parts_of}
use Rattle.run_value.specs.ShownWeight.{parts_size}
use Rattle.json_write.specs.Tokens.{data_tokens}
use Rattle.json_write.proofs.Appending.{one, ◌then◌, appended}
use Rattle.run_text.specs.Parts.{parts_datas}
use Rattle.run_text.proofs.Lists.{part_smaller, part_tokens, parts_tokens}
use Rattle.run_text.proofs.shown.+write.Goals as goal

pub write_first-returns : goal.write_first-returns
write_first-returns z c =
    one c.in_ok-begin_object.ensures then one c.in_ok-key.ensures then c.in_ok-write_parts.ensures then (rw c.sort_word.ensures at c.in_ok-write_text_field.ensures)
    then c.in_ok-write_number_field.ensures then one c.in_ok-end_object.ensures

pub write_parts-write_each_part-requires : goal.write_parts-write_each_part-requires
write_parts-write_each_part-requires z c = (omega (arith, ap parts_size c.parts.ensures), tt)

pub write_parts-returns : goal.write_parts-returns
write_parts-returns z c =
    appended (one c.in_ok-begin_array.ensures then c.in_ok-write_each_part.ensures then one c.in_ok-end_array.ensures) (parts_tokens _ _ c.parts.ensures)

pub write_each_part-write_part-requires : goal.write_each_part-write_part-requires
write_each_part-write_part-requires z c = (omega (arith, part_smaller c.args.keys.now c.args.values.now c.loop-at.at c.index-values-at.result c.loop-at-test.true c.index-values-at.is), tt)

pub write_each_part-loop-at-preserved : goal.write_each_part-loop-at-preserved
write_each_part-loop-at-preserved z c =
    appended (c.loop-at.invariant then c.in_ok-write_part.ensures) (part_tokens c.args.keys.now c.args.values.now c.loop-at.at c.index-values-at.result c.loop-at-test.true c.index-values-at.is)

pub write_each_part-returns : goal.write_each_part-returns
write_each_part-returns z c =
    appended c.loop-at.invariant (ap (λ vs. flat_map data_tokens (parts_datas (parts_of c.args.keys.now vs))) (take_all c.loop-at.at c.args.values.now (omega (arith, c.loop-at-test.false))))

pub write_pair-returns : goal.write_pair-returns
write_pair-returns z c =
    one c.in_ok-begin_array.ensures then one c.in_ok-string.ensures then c.in_ok-write_shown.ensures then one c.in_ok-end_array.ensures
