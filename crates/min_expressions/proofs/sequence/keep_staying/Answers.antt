use Rattle.std.proofs.Common.{rules, ◌≡◌, ◌-◌, length, take}
use Rattle.std.specs.Prelude.{filter}
use Rattle.std.proofs.lemmas.Fn.{filter_same}
use Rattle.min_expressions.specs.Sequences.{item_stays}
use Rattle.min_expressions.proofs.Sequences.{one_is_left, put_back}
use Rattle.min_expressions.proofs.sequence.keep_staying.Goals as goal

pub replace_last-requires : goal.replace_last-requires
replace_last-requires c =
    let kept : c.retain.new.self.items ≡ filter item_stays c.replace_last-last.new.parts.items = filter_same _ _ _ (λ x b f' k. search rules) _ _ c.retain.ensures.filtered in
    one_is_left (take (length c.args.parts.now.items - 1) c.args.parts.now.items) c.replace_last-last.new.parts.items c.retain.new.self.items c.replace_last-last.ensures.put kept

pub returns : goal.returns
returns c =
    let kept : c.retain.new.self.items ≡ filter item_stays c.replace_last-last.new.parts.items = filter_same _ _ _ (λ x b f' k. search rules) _ _ c.retain.ensures.filtered in
    put_back (take (length c.args.parts.now.items - 1) c.args.parts.now.items) c.replace_last-last.new.parts.items c.retain.new.self.items c.replace_last-last.ensures.put kept
    c.args.parts.now.items c.replace_last.new.parts.items c.replace_last-last.result c.replace_last-last.ensures.last c.replace_last.ensures.put
