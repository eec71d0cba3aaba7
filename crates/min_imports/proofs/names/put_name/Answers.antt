use Rattle.std.proofs.Common.{◌∙◌, not, sym}
use Rattle.js_syntax.proofs.Truth.{second_of_both}
use Rattle.min_imports.specs.declared.names.Sort.TheVariants as sort
use Rattle.min_imports.specs.Merging.{item_is_of}
use Rattle.min_imports.proofs.Lists.{first_put, next_put}
use Rattle.min_imports.proofs.names.put_name.Goals as goal

pub put_default-requires : goal.put_default-requires
put_default-requires c = second_of_both (not c.args.has_default) (item_is_of sort.Default c.args.item.now) (sym c.comes_first.ensures ∙ c.if-comes_first.true)

pub returns-then-comes_first : goal.returns-then-comes_first
returns-then-comes_first c = first_put c.args.has_default c.args.item.now c.args.names.now.items c.put_default.new.names.items c.comes_first.result c.comes_first.ensures c.if-comes_first.true c.in_ok-put_default.ensures

pub returns : goal.returns
returns c = next_put c.args.has_default c.args.item.now c.args.names.now.items c.put_named.new.names.items c.comes_first.result c.comes_first.ensures c.if-comes_first.false c.in_ok-put_named.ensures
