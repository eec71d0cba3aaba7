use Rattle.std.proofs.Common.{◌≡◌, ℕ, List, map, take}
use Rattle.std.specs.Ordering.{nat_cmp}
use Rattle.std.specs.Cmp.Lexicographic.{slice_cmp}
use Rattle.std.specs.BTreeSet.{contains_by}
use Rattle.form_rules.specs.Name.{is_among}
use Rattle.form_context.proofs.names.Names.new.Given as goal

abbrev pub invariant-loop-name : goal.invariant-loop-name
invariant-loop-name l = (q : List ℕ) → contains_by (λ k. slice_cmp nat_cmp q k.now) l.index ≡ is_among q (map (λ s. s.now) (take l.name-index l.fn.listed.items))
