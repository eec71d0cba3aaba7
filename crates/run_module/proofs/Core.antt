-- Where no node outside the core is found, all are of the core, and the other way about.
use Rattle.std.proofs.Common.{◌≡◌, ◌+◌, ◌&&◌, ◌∙◌, ℕ, Bool, true, false, Option, Some, None, if◌then◌else◌, refl, ap}
use Rattle.js_syntax.specs.declared.node_kind.NodeKind.{NodeKind as Kind}
use Rattle.js_syntax.specs.declared.scalar.SourceType.TheVariants as source_type
use Rattle.js_syntax.specs.Facts.{is_core}
use Rattle.js_syntax.specs.Node.{Forest, nothing, node, absent}
use Rattle.js_tree.specs.Count.{one_each, node_count}
use Rattle.steps.specs.Steps.{all_core}
use Rattle.steps.specs.Fit.Sensible.{is_core_module}
use Rattle.run_covered.specs.Covered.{either, first_in, first_outside}

none_of : (b : Bool) (x y : Option ℕ) (p : ℕ) → (if b then either x y else Some p) ≡ None → (b ≡ true) × (x ≡ None) × (y ≡ None)
none_of true None y p h = (refl, refl, h)
none_of true (Some z) y p h = absurd (cc h)
none_of false x y p h = absurd (cc h)

both_so : (b c d : Bool) → b ≡ true → c ≡ true → d ≡ true → (b && (c && d)) ≡ true
both_so b c d h i j = cc (h, i, j)

pub covered_core : (p : ℕ) (t : Forest) → first_in p t ≡ None → all_core t ≡ true
covered_core p nothing h = refl
covered_core p (absent r) h = covered_core p r h
covered_core p (node k n a r) h =
    let parts = none_of (is_core k) (first_in (p + one_each k) a) (first_in (p + node_count (node k n a nothing)) r) p h in
    both_so (is_core k) (all_core a) (all_core r) parts.0 (covered_core (p + one_each k) a parts.1) (covered_core (p + node_count (node k n a nothing)) r parts.2)

first_so : (b c : Bool) → (b && c) ≡ true → b ≡ true
first_so true c h = refl
first_so false c h = absurd (cc h)

second_so : (b c : Bool) → (b && c) ≡ true → c ≡ true
second_so true c h = h
second_so false c h = absurd (cc h)

none_so : (b : Bool) (x y : Option ℕ) (p : ℕ) → b ≡ true → x ≡ None → y ≡ None → (if b then either x y else Some p) ≡ None
none_so b x y p h i j = ap (λ c. if c then either x y else Some p) h ∙ ap (λ z. either z y) i ∙ j

pub core_covered : (p : ℕ) (t : Forest) → all_core t ≡ true → first_in p t ≡ None
core_covered p nothing h = refl
core_covered p (absent r) h = core_covered p r h
core_covered p (node k n a r) h =
    let rest = second_so (is_core k) (all_core a && all_core r) h in
    none_so (is_core k) (first_in (p + one_each k) a) (first_in (p + node_count (node k n a nothing)) r) p (first_so (is_core k) (all_core a && all_core r) h)
    (core_covered (p + one_each k) a (first_so (all_core a) (all_core r) rest)) (core_covered (p + node_count (node k n a nothing)) r (second_so (all_core a) (all_core r) rest))

pub covered_module : (t : Forest) → first_outside t ≡ None → is_core_module t ≡ true
covered_module (node (Kind.Program source_type.Module) n a r) h = covered_core 0 (node (Kind.Program source_type.Module) n a r) h
covered_module t h = absurd (cc h)

pub module_covered : (t : Forest) → is_core_module t ≡ true → first_outside t ≡ None
module_covered (node (Kind.Program source_type.Module) n a r) h = core_covered 0 (node (Kind.Program source_type.Module) n a r) h
module_covered t h = absurd (cc h)
