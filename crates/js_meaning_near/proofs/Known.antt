-- Something is known of a name, in the whole scope that declares it.
use Rattle.std.proofs.Common.{◌≡◌, List, [], ◌∷◌, ◌++◌, Some, refl, sym, ap, ap₂, subst, ◌∙◌}
use Rattle.std.specs.Prelude.{Bool, true, false, if◌then◌else◌}
use Rattle.std.specs.Str.{bytes_eq}
use Rattle.std.proofs.lemmas.Slice.Eq.{bytes_eq-Decides}
use Rattle.js_syntax.specs.declared.node_kind.NodeKind.{NodeKind as Kind}
use Rattle.js_syntax.specs.declared.kind.FunctionKind.{FunctionKind}
use Rattle.js_syntax.specs.declared.kind.FunctionKind.TheVariants as function_kind
use Rattle.js_syntax.specs.declared.value.LiteralValue.{LiteralValue as Literal}
use Rattle.js_syntax.specs.Node.{Note, Forest, nothing, node}
use Rattle.js_meaning.specs.Value.{Text, this_name, Plain, plain, literal_value}
use Rattle.js_meaning.specs.Scope.{Decl, decl, waiting, ready, all_so, named_so, own_name, first_name, lexical, function_decls, module_decls}
use Rattle.js_meaning.specs.Module.{Entry, entry_local, entry_import, entries, stars, requests}
use Rattle.js_meaning.specs.Kept.{Kept, Refined}
use Rattle.js_meaning_near.specs.Names.{Status, live, loose, owing, Fact, exactly, silent_function, owed_function, known, Names, no_names, loose_names, with_name, Allowed, Usable, Decls, in_both, in_both_known, Plainly, PlainBut, declared}
use Rattle.js_meaning_near.specs.Near.{Row, items, fields, near_silent, near_known, changed, value_read, SilentCode, near_code, ExportsOk, near_module, loose_module, module_of}
use Rattle.js_meaning_near.specs.Fit.{whole, others, names_after, within_code, Fits}
use Rattle.js_meaning_near.specs.Avoid.{declares, code_declares}
use Rattle.js_meaning_near.specs.Rewritten.{SameNames, Below, BelowCode, Rewritten, at_place}
use Rattle.js_meaning_near.specs.Purpose.{Purposes, purposes_behind, for_values}
use Rattle.js_meaning_near.specs.Known.{Knows, DeclaredOnce, declared_here, declared_later, Knowing}
use Rattle.js_meaning_near.proofs.Fit.{same_decls, fit}
use Rattle.js_meaning_near.proofs.Avoid.{itself, with_same, plain_with, after_other, after_plain, after_both, usable_plain, receiver_ok}
use Rattle.js_meaning_near.proofs.Contexts.{near_refines, loose_keeps}
use Rattle.js_meaning_near.proofs.Rewritten.{vars_kept, lexical_kept, rewritten_near}

known_false : false ≡ true → ⊥
known_false e = cc

-- the scope itself

abbrev pub Fresh : Fact → Status → Type 0
Fresh (exactly p) s = Unit {0}
Fresh silent_function s = s ≡ loose
Fresh owed_function s = s ≡ owing

still_fresh : (p : Fact) (st : Names) (x y : Text) → bytes_eq y x ≡ false → Fresh p (st x) → Fresh p (with_name st y live x)
still_fresh (exactly p) st x y e f = tt
still_fresh silent_function st x y e f = ap (λ b. if b then live else st x) e ∙ f
still_fresh owed_function st x y e f = ap (λ b. if b then live else st x) e ∙ f

allowed : (p : Fact) (st : Names) (x : Text) → Fresh p (st x) → Allowed p st
allowed (exactly p) st x e = tt
allowed silent_function st x e = (x, e)
allowed owed_function st x e = (x, e)

pub knows_after : (x : Text) (p : Fact) (ds : List Decl) (st : Names) → declares ds x ≡ false → Knows x p st → Knows x p (names_after st ds)
knows_after x p ds st e k = record { known_so = after_other ds st x e ∙ k.known_so; plain = λ y f. after_plain ds st y (k.plain y f) }

plain_live : (st : Names) (y z : Text) → Plainly (st z) → Plainly (with_name st y live z)
plain_live st y z h = after_plain (decl y ready ∷ []) st z h

pub knowing : (x : Text) (p : Fact) (st : Names) {ds : List Decl} → PlainBut x st → Fresh p (st x) → DeclaredOnce x ds → Knowing x p st ds
knowing x p st g e (declared_here {constant = c} {ds = ds} f) = record {
  within = names_after (with_name st x (known p)) ds;
  decls = in_both_known p (allowed p st x e) (same_decls (with_name st x (known p)) ds);
  knows = knows_after x p ds (with_name st x (known p)) f (record { known_so = with_same st x x (known p) (itself x); plain = λ y h. plain_with st x x y (known p) (itself x) h (g y h) });
}
knowing x p st g e (declared_later {y = y} f d) =
    let k = knowing x p (with_name st y live) (λ z h. plain_live st y z (g z h)) (still_fresh p st x y f e) d in
    record { within = k.within; decls = in_both k.decls; knows = k.knows }

-- below

pub knows_below : (x : Text) (p : Fact) (k : Kind) (b : Forest) → declares (declared k b) x ≡ false → Below (Knows x p) k b
knows_below x p Kind.BlockStatement b e st g = knows_after x p (lexical b) st e g
knows_below x p Kind.Cases b e st g = knows_after x p (lexical b) st e g
knows_below x p Kind.ForStatement b e st g = knows_after x p (declared Kind.ForStatement b) st e g
knows_below x p Kind.CatchClause b e st g = knows_after x p (declared Kind.CatchClause b) st e g
knows_below x p k b e st g = g

pub knows_code : (x : Text) (p : Fact) (f : FunctionKind) (b : Forest) → declares (code_declares f b) x ≡ false → BelowCode (Knows x p) f b
knows_code x p f b e st g = subst (Knows x p) (sym (after_both (named_so (waiting true) (own_name f b)) (function_decls f b) st)) (knows_after x p (code_declares f b) st e g)

-- modules

pub known_usable : (x : Text) (p : Fact) (st : Names) → Knows x p st → (y : Text) → Usable (st y)
known_usable x p st k y = go (bytes_eq y x) refl
  where
    go : (b : Bool) → bytes_eq y x ≡ b → Usable (st y)
    go true e = subst (λ z. Usable (st z)) (sym ((bytes_eq-Decides y x).0 e)) (subst Usable (sym k.known_so) tt)
    go false e = usable_plain (st y) (k.plain y e)

pub exports_known : (x : Text) (p : Fact) (st : Names) (es : List Entry) → Knows x p st → ExportsOk st es
exports_known x p st [] k = tt
exports_known x p st (entry_local z y ∷ es) k = (known_usable x p st k y, exports_known x p st es k)
exports_known x p st (entry_import z source name ∷ es) k = exports_known x p st es k

pub decls_kept : {C : Names → Type 0} {us : Purposes} {a b : Forest} → Rewritten C whole us items a b → module_decls a ≡ module_decls b
decls_kept s = ap₂ (λ (v : List Text) (w : List Decl). decl this_name ready ∷ all_so ready v ++ w) (vars_kept s) (lexical_kept s)

-- where a name holds a value from its initialisation on, it may be read as the value
pub exact_scope : (n m : Note) (x : Text) (p : Plain) (a b : Forest) → DeclaredOnce x (module_decls b) → Rewritten (Knows x (exactly p)) whole for_values items a b → entries a ≡ entries b → stars a ≡ stars b → requests a ≡ requests b → Refined (module_of n m a) (module_of n m b)
exact_scope n m x p a b d s e t r =
    let k = knowing x (exactly p) no_names (λ y h. tt) tt d in
    near_refines n m n m (near_module (subst (λ ds. Decls no_names ds (module_decls b) k.within) (sym (decls_kept s)) k.decls) e (exports_known x (exactly p) k.within (entries a) k.knows) t r (rewritten_near k.within k.knows s))

-- where a function of the module does nothing, calls of it may go
pub loose_scope : (n m : Note) (x : Text) (p : Fact) (a b : Forest) → Fresh p loose → DeclaredOnce x (module_decls b) → Rewritten (Knows x p) whole for_values items a b → entries a ≡ entries b → stars a ≡ stars b → requests a ≡ requests b → Kept (module_of n m a) (module_of n m b)
loose_scope n m x p a b h d s e t r =
    let k = knowing x p loose_names (λ y h. tt) h d in
    loose_keeps n m n m (loose_module (subst (λ ds. Decls loose_names ds (module_decls b) k.within) (sym (decls_kept s)) k.decls) e (exports_known x p k.within (entries a) k.knows) t r (rewritten_near k.within k.knows s))

-- places

same_all : (k : Kind) (a : Forest) → SameNames k a k a
same_all k a = record { name = refl; bound = refl; vars = refl; imports = λ source. refl; items = refl }

-- a read of the name becomes the literal
pub read_place : {x : Text} {p : Plain} {us : Purposes} {q : Row} {n m : Note} {r s : Forest} (v : Literal) → literal_value v ≡ plain p → Rewritten (Knows x (exactly p)) whole (purposes_behind us) q r s → Rewritten (Knows x (exactly p)) whole us q (node (Kind.ReferenceName x) n nothing r) (node (Kind.Literal v) m nothing s)
read_place v e t = at_place (record { name = refl; bound = refl; vars = refl; imports = λ source. refl; items = refl }) (λ st g o. changed (value_read g.known_so e) o) t

-- the declarator that gives the value
pub value_place : {x : Text} {p : Plain} {us : Purposes} {q : Row} {n i k : Note} {r s : Forest} (v : Literal) → literal_value v ≡ plain p → Rewritten (Knows x (exactly p)) whole (purposes_behind us) q r s
    → Rewritten (Knows x (exactly p)) whole us q (node Kind.VariableDeclarator n (node (Kind.BindingName x) i nothing (node (Kind.Literal v) k nothing nothing)) r) (node Kind.VariableDeclarator n (node (Kind.BindingName x) i nothing (node (Kind.Literal v) k nothing nothing)) s)
value_place v e t = at_place (same_all _ _) (λ st g o. near_known g.known_so e o) t

-- the function itself, with its code
pub function_place : {x : Text} {pure : Bool} {us : Purposes} {p : Row} {n : Note} {a r s : Forest} → first_name a ≡ Some x → ((st : Names) → Knows x silent_function st → SilentCode st a) → ((st : Names) → Knows x silent_function st → Fits others fields (within_code st function_kind.Declaration a) a)
    → Rewritten (Knows x silent_function) whole (purposes_behind us) p r s → Rewritten (Knows x silent_function) whole us p (node (Kind.Function function_kind.Declaration pure) n a r) (node (Kind.Function function_kind.Declaration pure) n a s)
function_place {a = a} e q f t = at_place (same_all _ _) (λ st g o. near_silent tt g.known_so e e (q st g) (near_code (same_decls st (function_decls function_kind.Declaration a)) (receiver_ok st function_kind.Declaration a) refl (fit others fields _ a (f st g))) o) t
