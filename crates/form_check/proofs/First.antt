-- The first break of two lists.
use Rattle.std.proofs.Common.{◌≡◌, ◌∙◌, List, ◌++◌, Option, sym, ap₂}
use Rattle.form_rules.specs.declared.rule.Break.{Break}
use Rattle.form_rules.specs.Break.{least, merged}
use Rattle.form_rules.proofs.Least.{least_append}

pub joined : (xs ys : List Break) {first one other : Option Break} → first ≡ merged one other → one ≡ least xs → other ≡ least ys → first ≡ least (xs ++ ys)
joined xs ys is here there = is ∙ ap₂ merged here there ∙ sym (least_append xs ys)
