-- Whether the first node of a row is called, parentheses aside, so that it makes a direct call if it is the name `eval`
-- (ECMA-262 13.3.6.1).
use Rattle.std.proofs.Common.{◌≡◌, ℕ, suc, Bool, true, false, true≢false, is_some, Some, None, if◌then◌else◌, bytes_eq, codes, refl, sym}
use Rattle.js_syntax.specs.declared.node_kind.NodeKind.{NodeKind as Kind}
use Rattle.js_syntax.specs.declared.node_kind.NodeKind.TheVariants.{ParenthesizedExpression as parenthesized_expression, CallExpression as call_expression, ReferenceName as reference_name}
use Rattle.js_syntax.specs.Node.{Forest}
use Rattle.js_tree.specs.Names.{eval_name, eval_of_call}
use Rattle.scope_laws.specs.Lists.{is_list}
use Rattle.scope_laws.specs.Place as places
use Rattle.scope_counts.specs.Edits.{Around, here, behind, behind_none, under, plug, in_list}
use Rattle.steps.specs.Allowed.Uses.{Use, as_value, as_callee, use_below, use_there, use_at}
use Rattle.steps.proofs.Owed.Places.{place_of}

abbrev pub called_below : (called : Bool) → Kind → Bool
called_below called parenthesized_expression = called
called_below called (call_expression false pure) = true
called_below called k = false

abbrev pub called_at : (called : Bool) → Around → Bool
called_at called here = called
called_at called (behind k n b a) = called_at false a
called_at called (behind_none a) = called_at false a
called_at called (under k n a rest) = called_at (called_below called k) a

never : {P : Type 0} → false ≡ true → P
never e = absurd (true≢false (sym e))

-- nothing is called in a list
no_list : (called : Bool) (k : Kind) → called_below called k ≡ true → is_list k ≡ false
no_list called parenthesized_expression h = refl
no_list called (call_expression false pure) h = refl
no_list called k h = never h

pub no_list_called : (a : Around) (listed called : Bool) → (called ≡ true → listed ≡ false) → called_at called a ≡ true → in_list listed a ≡ false
no_list_called here listed called f h = f h
no_list_called (behind k n b a) listed called f h = no_list_called a listed false never h
no_list_called (behind_none a) listed called f h = no_list_called a listed false never h
no_list_called (under k n a rest) listed called f h = no_list_called a (is_list k) (called_below called k) (no_list called k) h

-- what is called is used so
below_used : (called : Bool) (u : Use) (k : Kind) → (called ≡ true → u ≡ as_callee) → called_below called k ≡ true → use_below u k 0 ≡ as_callee
below_used called u parenthesized_expression f h = f h
below_used called u (call_expression false pure) f h = refl
below_used called u k f h = never h

used_there : (a : places.Around) (called : Bool) (us : ℕ → Use) (at : ℕ) → (called ≡ true → us at ≡ as_callee) → called_at called (place_of a) ≡ true → use_there us at a ≡ as_callee
used_there (places.first rest) called us at f h = f h
used_there (places.behind k n b a) called us at f h = used_there a false us (suc at) never h
used_there (places.behind_none a) called us at f h = used_there a false us (suc at) never h
used_there (places.under k n a rest) called us at f h = used_there a (called_below called k) (λ i. use_below (us at) k i) 0 (below_used called (us at) k f) h

pub used_as_callee : (a : places.Around) → called_at false (place_of a) ≡ true → use_at a ≡ as_callee
used_as_callee a h = used_there a false (λ i. as_value) 0 never h

-- the new row begins with the name `eval` only if the old one did
abbrev pub NamesStay : (old new : Forest) → Type 0
NamesStay t u = is_some (eval_name u) ≡ true → is_some (eval_name t) ≡ true

named : {X : Type 0} (b : Bool) (x y : X) → is_some (if b then Some x else None) ≡ true → is_some (if b then Some y else None) ≡ true
named true x y e = refl
named false x y e = never e

name_stays : (called : Bool) (a : Around) (t u : Forest) → called ≡ true → (called_at called a ≡ true → NamesStay t u) → NamesStay (plug a t) (plug a u)
name_stays called here t u c f e = f c e
name_stays called (behind parenthesized_expression n b a) t u c f e = e
name_stays called (behind (reference_name x) n b a) t u c f e = e
name_stays called (behind k n b a) t u c f e = never e
name_stays called (behind_none a) t u c f e = never e
name_stays called (under parenthesized_expression n a rest) t u c f e = name_stays called a t u c f e
name_stays called (under (reference_name x) n a rest) t u c f e = named (bytes_eq x (codes "eval")) _ _ e
name_stays called (under k n a rest) t u c f e = never e

pub calls_stay : (called : Bool) (k : Kind) (a : Around) (t u : Forest) → (called_at (called_below called k) a ≡ true → NamesStay t u)
    → is_some (eval_of_call k (plug a u)) ≡ true → is_some (eval_of_call k (plug a t)) ≡ true
calls_stay called (call_expression false pure) a t u f e = name_stays true a t u refl f e
calls_stay called k a t u f e = never e
