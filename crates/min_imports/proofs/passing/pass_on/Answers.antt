use Rattle.std.proofs.Common.{◌∙◌, drop, length, ap, ap₂, sym, arith}
use Rattle.std.specs.List.{items_where_true}
use Rattle.js_syntax.specs.Node.{row}
use Rattle.min_imports.specs.Merging.{overlaid}
use Rattle.min_imports.proofs.Overlaid.{written}
use Rattle.min_imports.proofs.passing.pass_on.Goals as goal

pub put_changed-requires : goal.put_changed-requires
put_changed-requires c = ap length c.as_mut_slice-2.ensures.value ∙ c.requires.even ∙ ap length (sym c.as_mut_slice.ensures.value)

pub keep_staying-requires : goal.keep_staying-requires
keep_staying-requires c =
    let put = written c.args.items.now.len c.put_changed.new.items (drop (length c.put_changed.new.items) c.args.items.now.items) (omega (arith, c.put_changed.auto.items, c.as_mut_slice.ensures.len)) in
    omega (arith, ap length c.as_slice.ensures.value, c.requires.long, ap length c.as_mut_slice.ensures.value, c.put_changed.auto.items, ap length put)

pub returns : goal.returns
returns c =
    let put = written c.args.items.now.len c.put_changed.new.items (drop (length c.put_changed.new.items) c.args.items.now.items) (omega (arith, c.put_changed.auto.items, c.as_mut_slice.ensures.len)) in
    ap row (c.keep_staying.ensures ∙ ap₂ items_where_true c.as_slice.ensures.value (put ∙ c.put_changed.ensures ∙ ap₂ overlaid c.as_mut_slice.ensures.value c.as_mut_slice-2.ensures.value))
