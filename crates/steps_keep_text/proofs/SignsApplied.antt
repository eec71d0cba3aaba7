-- A core module without its notes, with signs applied, does what the module does.
use Rattle.std.proofs.Common.{◌≡◌, suc, pos, negsuc, refl, sym, ap, ap₂, subst}
use Rattle.js_syntax.specs.declared.node_kind.NodeKind.{NodeKind as Kind}
use Rattle.js_syntax.specs.declared.operator.UnaryOperator.TheVariants.{UnaryNegation as unary_negation}
use Rattle.js_syntax.specs.declared.value.LiteralValue.TheVariants as value
use Rattle.js_syntax.specs.Node.{Note, Forest, nothing, node, absent, nowhere, bare}
use Rattle.js_meaning.specs.Kept.{Refined}
use Rattle.js_meaning.proofs.Kept.{refined_joined}
use Rattle.js_meaning_near.specs.Near.{fields, items, module_of}
use Rattle.js_meaning_near.specs.Fit.{whole}
use Rattle.js_meaning_near.specs.Avoid.{InPlace}
use Rattle.js_meaning_near.specs.Signed.{signed, NodeMayBeSigned, MayBeSigned}
use Rattle.js_meaning_near.proofs.Alike.{alike_bare, place_alike}
use Rattle.js_meaning_near.proofs.Near.{refines_without_notes}
use Rattle.js_meaning_near.proofs.Signed.{signed_refines}
use Rattle.steps.specs.Fit.Sensible.{IsSensibleModule}

-- ---- signs and notes don't depend on one another

bare_signed : (a : Forest) → bare (signed a) ≡ signed (bare a)
bare_signed nothing = refl
bare_signed (absent c) = ap absent (bare_signed c)
bare_signed (node (Kind.Literal (value.Number (negsuc i))) n nothing c) = ap (λ r. node (Kind.UnaryExpression unary_negation) nowhere (node (Kind.Literal (value.Number (pos (suc i)))) nowhere nothing nothing) r) (bare_signed c)
bare_signed (node k n a c) = ap₂ (λ (b r : Forest). node k nowhere b r) (bare_signed a) (bare_signed c)

node_may_bare : (k : Kind) (a : Forest) → NodeMayBeSigned k a → NodeMayBeSigned k (bare a)
node_may_bare (Kind.Literal (value.Number (negsuc i))) a h = h
node_may_bare Kind.ObjectExpression nothing h = tt
node_may_bare Kind.ObjectExpression (absent c) h = tt
node_may_bare Kind.ObjectExpression (node (Kind.Literal v) n b c) h = absurd h
node_may_bare Kind.ObjectExpression (node k n b c) h = tt
node_may_bare k a h = tt

may_bare : (a : Forest) → MayBeSigned a → MayBeSigned (bare a)
may_bare nothing h = tt
may_bare (absent c) h = may_bare c h
may_bare (node k n a c) h = (node_may_bare k a h.0, may_bare a h.1, may_bare c h.2)

-- ---- a module

module _ (n m : Note) (a : Forest) where
  items_refine : InPlace whole fields (module_of n m a) → MayBeSigned a → Refined (module_of n m a) (bare (signed (module_of n m a)))
  items_refine place may =
      refined_joined (module_of n m a) (bare (module_of n m a)) (bare (signed (module_of n m a))) (refines_without_notes n m a place)
      (subst (λ b. Refined (bare (module_of n m a)) (module_of nowhere nowhere b)) (sym (bare_signed a))
      (signed_refines nowhere nowhere nowhere nowhere (bare a) (place_alike whole items (alike_bare a) place.0.1.0.1) (may_bare a may)))

  items_may : MayBeSigned (module_of n m a) → MayBeSigned a
  items_may may = may.1.1

pub module_refines : (u : Forest) → IsSensibleModule u → MayBeSigned u → Refined u (bare (signed u))
module_refines u m may =
    subst (λ x. Refined x (bare (signed x))) (sym m.is)
    (items_refine m.note m.list_note m.items (subst (InPlace whole fields) m.is m.in_place) (items_may m.note m.list_note m.items (subst MayBeSigned m.is may)))
