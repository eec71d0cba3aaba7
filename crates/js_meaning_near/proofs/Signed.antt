-- A module refines to what it is with its negative numbers as unary minus on their magnitudes.
use Rattle.std.proofs.Common.{◌≡◌, ℕ, negsuc, List, refl, sym, ap, subst, ◌∙◌}
use Rattle.std.specs.Prelude.{true}
use Rattle.js_syntax.specs.declared.node_kind.NodeKind.{NodeKind as Kind}
use Rattle.js_syntax.specs.declared.value.LiteralValue.TheVariants as value
use Rattle.js_syntax.specs.Facts.{is_core}
use Rattle.js_syntax.specs.Node.{Note, Forest, nothing, node, absent, below_of}
use Rattle.js_meaning.specs.Scope.{Decl, first_of, lexical}
use Rattle.js_meaning.specs.Kept.{Refined}
use Rattle.js_meaning_near.specs.Purpose.{Purposes, purposes_behind}
use Rattle.js_meaning_near.specs.Names.{Names, Copied}
use Rattle.js_meaning_near.specs.Near.{Row, fields, items, Heads, keys, Near, near_nothing, near_absent, changed, sign_applied, module_of}
use Rattle.js_meaning_near.specs.Fit.{Part, whole, others, part_of, Fits}
use Rattle.js_meaning_near.specs.Avoid.{InPlace}
use Rattle.js_meaning_near.specs.Signed.{signed, NodeMayBeSigned, MayBeSigned}
use Rattle.js_meaning_near.proofs.Contexts.{near_refines}
use Rattle.js_meaning_near.proofs.Fit.{same_copied, fits_map}
use Rattle.js_meaning_near.proofs.Avoid.{fits_clear, same_module}
use Rattle.js_meaning_near.proofs.Alike.{Like, alike_nothing, alike_absent, alike_node, alike_signed}
use Rattle.js_meaning_near.proofs.Names.{first_alike, lexical_alike, module_alike, keys_alike, entries_alike, stars_alike, requests_alike}
use Rattle.js_meaning_near.proofs.Near.{near_alike}

-- one node, by whether it is such a number
pub data Sign : Kind → Forest → Type 0 where
  is_number : {i : ℕ} → Sign (Kind.Literal (value.Number (negsuc i))) nothing
  is_other : {k : Kind} {a : Forest} → ((n : Note) (rest : Forest) → signed (node k n a rest) ≡ node k n (signed a) (signed rest)) → Sign k a

number_sign : (z : ℕ) (a : Forest) → Sign (Kind.Literal (value.Number (negsuc z))) a
number_sign i nothing = is_number
number_sign i (absent r) = is_other (λ n rest. refl)
number_sign i (node k m b r) = is_other (λ n rest. refl)

pub sign_of : (k : Kind) (a : Forest) → Sign k a
sign_of (Kind.Literal (value.Number (negsuc i))) a = number_sign i a
sign_of (Kind.Literal v) a = is_other (λ n rest. refl)
sign_of k a = is_other (λ n rest. refl)

like_node : (k : Kind) (a : Forest) → Sign k a → (n : Note) (c : Forest) → NodeMayBeSigned k a → Like true a (signed a) → Like true c (signed c) → Like true (node k n a c) (signed (node k n a c))
like_node _ _ is_number n c may below rest = alike_signed may rest
like_node k a (is_other is) n c may below rest = subst (Like true (node k n a c)) (sym (is n c)) (alike_node below rest)

like_signed : (a : Forest) → MayBeSigned a → Like true a (signed a)
like_signed nothing may = alike_nothing
like_signed (absent c) may = alike_absent (like_signed c may)
like_signed (node k n a c) may = like_node k a (sign_of k a) n c may.0 (like_signed a may.1) (like_signed c may.2)

-- ---- what a node reads off the row below it

keys_node : (k : Kind) (a : Forest) → Sign k a → (n : Note) (c : Forest) → NodeMayBeSigned Kind.ObjectExpression (node k n a c) → Like true a (signed a) → keys a ≡ keys (below_of (signed (node k n a c)))
keys_node _ _ is_number n c may below = absurd may
keys_node k a (is_other is) n c may below = keys_alike below ∙ ap (λ t. keys (below_of t)) (sym (is n c))

keys_signed : (a : Forest) → NodeMayBeSigned Kind.ObjectExpression a → MayBeSigned a → keys (below_of a) ≡ keys (below_of (signed a))
keys_signed nothing may all = refl
keys_signed (absent c) may all = refl
keys_signed (node k n a c) may all = keys_node k a (sign_of k a) n c may (like_signed a all.1)

heads_signed : (k : Kind) (t : Names) (a : Forest) → NodeMayBeSigned k a → MayBeSigned a → Heads k t a (signed a)
heads_signed Kind.ForStatement t a may all = subst (λ (ds : List Decl). Copied t (lexical (first_of a)) ds) (lexical_alike (first_alike (like_signed a all))) (same_copied t (lexical (first_of a)))
heads_signed Kind.ObjectExpression t a may all = keys_signed a may all
heads_signed _ t a may all = tt

-- ---- rows

near_node_signed : {us : Purposes} (k : Kind) (a : Forest) → Sign k a → (p : Row) (st : Names) (n : Note) (c : Forest) → NodeMayBeSigned k a → Near us p st (node k n a c) (node k n (signed a) (signed c)) → Near (purposes_behind us) p st c (signed c) → Near us p st (node k n a c) (signed (node k n a c))
near_node_signed _ _ is_number p st n c may here rest = changed (sign_applied may) rest
near_node_signed {us = us} k a (is_other is) p st n c may here rest = subst (Near us p st (node k n a c)) (sym (is n c)) here

behind_signed : (k : Kind) (n : Note) (a c : Forest) → Sign k a → part_of others (signed (node k n a c)) ≡ signed c
behind_signed _ n _ c is_number = refl
behind_signed k n a c (is_other is) = ap (part_of others) (is n c)

rows_signed : {us : Purposes} (q : Part) (p : Row) (st : Names) (a : Forest) → MayBeSigned a → Fits q p st a → Near us p st (part_of q a) (part_of q (signed a))
rows_signed whole p st nothing may y = near_nothing
rows_signed others p st nothing may y = near_nothing
rows_signed others p st (absent c) may y = rows_signed whole p st c may y
rows_signed {us = us} others p st (node k n a c) may y = subst (Near us p st c) (sym (behind_signed k n a c (sign_of k a))) (rows_signed whole p st c may.2 y)
rows_signed whole p st (absent c) may y = near_absent (rows_signed whole p st c may y)
rows_signed whole p st (node k n a c) may y =
    let rest = rows_signed whole p st c may.2 y.1 in
    near_node_signed k a (sign_of k a) p st n c may.0
    (near_alike k n n (is_core k) refl (like_signed a may.1) (λ t. heads_signed k t a may.0 may.1) (fits_map p st a k (is_core k) (λ q t u z. rows_signed q t u a may.1 z) y.0) rest)
    rest

-- ---- modules

pub signed_refines : (n m i j : Note) (a : Forest) → InPlace whole items a → MayBeSigned a → Refined (module_of n m a) (module_of i j (signed a))
signed_refines n m i j a y may =
    let s = like_signed a may in
    near_refines n m i j (same_module a (signed a) (module_alike s) (entries_alike s) (stars_alike s) (requests_alike s) (λ st g. rows_signed whole items st a may (fits_clear whole items st a g y)))

pub module_signed_refines : (n m : Note) (a : Forest) → InPlace whole fields (module_of n m a) → MayBeSigned a → Refined (module_of n m a) (module_of n m (signed a))
module_signed_refines n m a y may = signed_refines n m n m a y.0.1.0.1 may
