use Rattle.std.proofs.Common.{◌++◌}
use Rattle.form_rules.specs.Rules.{rule_1, rule_2, rule_3, rule_4, rule_5, rule_6, rule_7, rule_8, rule_9, rule_10, rule_11, rule_12}
use Rattle.form_check.proofs.First.{joined}
use Rattle.form_check.proofs.broken.broken_by_any.Goals as goal

pub returns : goal.returns
returns c =
    let x = c.args.context.now in
    let k = c.args.node.now.kind in
    let p = c.args.place in
    let b = c.args.node.now.below in
    let r2 = rule_1 x k p b ++ rule_2 x k p b in
    let r3 = r2 ++ rule_3 x k p b in
    let r4 = r3 ++ rule_4 x k p b in
    let r5 = r4 ++ rule_5 x k p b in
    let r6 = r5 ++ rule_6 x k p b in
    let r7 = r6 ++ rule_7 x k p b in
    let r8 = r7 ++ rule_8 x k p b in
    let r9 = r8 ++ rule_9 x k p b in
    let r10 = r9 ++ rule_10 x k p b in
    let r11 = r10 ++ rule_11 x k p b in
    let s2 = joined (rule_1 x k p b) (rule_2 x k p b) c.first_of-first.ensures.first c.in_ok-clashes.ensures.rule_1 c.in_ok-clashes.ensures.rule_2 in
    let s3 = joined r2 (rule_3 x k p b) c.first_of-first-2.ensures.first s2 c.rule_3.ensures in
    let s4 = joined r3 (rule_4 x k p b) c.first_of-first-3.ensures.first s3 c.in_ok-rule_4.ensures in
    let s5 = joined r4 (rule_5 x k p b) c.first_of-first-4.ensures.first s4 c.rule_5.ensures in
    let s6 = joined r5 (rule_6 x k p b) c.first_of-first-5.ensures.first s5 c.rule_6.ensures in
    let s7 = joined r6 (rule_7 x k p b) c.first_of-first-6.ensures.first s6 c.in_ok-rule_7.ensures in
    let s8 = joined r7 (rule_8 x k p b) c.first_of-first-7.ensures.first s7 c.rule_8.ensures in
    let s9 = joined r8 (rule_9 x k p b) c.first_of-first-8.ensures.first s8 c.in_ok-clashes.ensures.rule_9 in
    let s10 = joined r9 (rule_10 x k p b) c.first_of-first-9.ensures.first s9 c.rule_10.ensures in
    let s11 = joined r10 (rule_11 x k p b) c.first_of-first-10.ensures.first s10 c.in_ok-rule_11.ensures in
    record { first = joined r11 (rule_12 x k p b) c.first_of.ensures.first s11 c.rule_12.ensures }
