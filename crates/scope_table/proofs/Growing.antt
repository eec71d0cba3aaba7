-- Symbols with one more declaration, or one more reference.
use Rattle.std.proofs.Common.{◌≡◌, ◌∙◌, ◌<◌, ◌+◌, ℕ, suc, List, [], ◌∷◌, ◌++◌, Bool, true, false, Option, if◌then◌else◌, map, length, get_or, take, arith, refl, sym, ap}
use Rattle.std.specs.Int.RustNames.{bit_or}
use Rattle.scope_rules.specs.Site.{BindingSite, ReferenceSite}
use Rattle.scope_rules.specs.Binding.{Binding}
use Rattle.scope_rules.specs.Table.{Redeclaration, redeclaration, is_number, symbol_declared, declarations_of, joined_bits, references_to, Reference, reference_at, symbol_used, symbol_at, symbols_from, symbols_of}
use Rattle.std.proofs.lemmas.List.{take_more, length-map, length-take-le, map-append}
use Rattle.scope_table.specs.Group.{at_number}
use Rattle.scope_table.specs.Kept.{KeptSymbol, blank, with_declaration, with_reference, kept_at, kept_from, told}

pub both : {X : Type 0} {x y : X} {xs ys : List X} → x ≡ y → xs ≡ ys → x ∷ xs ≡ y ∷ ys
both first rest i = first i ∷ rest i

pub kept_none : (all : List BindingSite) (next : ℕ) (bs : List Binding) → map blank bs ≡ kept_from all [] [] next bs
kept_none all next [] = refl
kept_none all next (b ∷ bs) = ap (λ ss. blank b ∷ ss) (kept_none all (suc next) bs)

-- ---- declarations

bits_push : (bits : ℕ) (ds : List Redeclaration) (d : Redeclaration) → joined_bits bits (ds ++ d ∷ []) ≡ bit_or (joined_bits bits ds) d.flags
bits_push bits [] d = refl
bits_push bits (e ∷ ds) d = bits_push (bit_or bits e.flags) ds d

pub last_step : {X : Type 0} (here one : Bool) (e d : X) (ds : List X) →
    (if here then e ∷ (if one then ds ++ d ∷ [] else ds) else (if one then ds ++ d ∷ [] else ds)) ≡ (if one then (if here then e ∷ ds else ds) ++ d ∷ [] else (if here then e ∷ ds else ds))
last_step true true e d ds = refl
last_step true false e d ds = refl
last_step false true e d ds = refl
last_step false false e d ds = refl

declarations_push : (all : List BindingSite) (k : ℕ) (some : List BindingSite) (s : BindingSite)
    → declarations_of all k (some ++ s ∷ []) ≡ (if is_number k (symbol_declared all s) then declarations_of all k some ++ redeclaration s ∷ [] else declarations_of all k some)
declarations_push all k [] s = refl
declarations_push all k (x ∷ xs) s =
    ap (λ ds. if is_number k (symbol_declared all x) then redeclaration x ∷ ds else ds) (declarations_push all k xs s)
    ∙ last_step (is_number k (symbol_declared all x)) (is_number k (symbol_declared all s)) (redeclaration x) (redeclaration s) (declarations_of all k xs)

with_more : (one : Bool) (b : Binding) (d : Redeclaration) (ds more : List Redeclaration) (rs : List ℕ) → more ≡ (if one then ds ++ d ∷ [] else ds)
    → let with_all : List Redeclaration → KeptSymbol = λ es. record { name = b.name; scope = b.scope; flags = joined_bits 0 es; declarations = es; references = rs } in
    (if one then with_declaration d (with_all ds) else with_all ds) ≡ with_all more
with_more true b d ds more rs is =
    ap (λ bits. record { name = b.name; scope = b.scope; flags = bits; declarations = ds ++ d ∷ []; references = rs }) (sym (bits_push 0 ds d))
    ∙ ap (λ es. record { name = b.name; scope = b.scope; flags = joined_bits 0 es; declarations = es; references = rs }) (sym is)
with_more false b d ds more rs is = ap (λ es. record { name = b.name; scope = b.scope; flags = joined_bits 0 es; declarations = es; references = rs }) (sym is)

pub kept_declared : (all some : List BindingSite) (uses : List (Option ℕ)) (s : BindingSite) (next : ℕ) (bs : List Binding)
    → at_number (with_declaration (redeclaration s)) (symbol_declared all s) next (kept_from all some uses next bs) ≡ kept_from all (some ++ s ∷ []) uses next bs
kept_declared all some uses s next [] = refl
kept_declared all some uses s next (b ∷ bs) =
    both
    (with_more (is_number next (symbol_declared all s)) b (redeclaration s) (declarations_of all next some) (declarations_of all next (some ++ s ∷ [])) (references_to next 0 uses) (declarations_push all next some s))
    (kept_declared all some uses s (suc next) bs)

-- ---- references

pub references_push : (k n m : ℕ) (uses : List (Option ℕ)) (u : Option ℕ) → m ≡ n + length uses
    → references_to k n (uses ++ u ∷ []) ≡ (if is_number k u then references_to k n uses ++ m ∷ [] else references_to k n uses)
references_push k n m [] u is =
    let same : n ≡ m = omega arith in
    ap (λ j. if is_number k u then j ∷ [] else []) same
references_push k n m (x ∷ xs) u is =
    ap (λ rs. if is_number k x then n ∷ rs else rs) (references_push k (suc n) m xs u (omega arith))
    ∙ last_step (is_number k x) (is_number k u) n m (references_to k (suc n) xs)

referred : (one : Bool) (s : KeptSymbol) (m : ℕ) (more : List ℕ) → more ≡ (if one then s.references ++ m ∷ [] else s.references)
    → (if one then with_reference m s else s) ≡ record { name = s.name; scope = s.scope; flags = s.flags; declarations = s.declarations; references = more }
referred true s m more is = ap (λ rs. record { name = s.name; scope = s.scope; flags = s.flags; declarations = s.declarations; references = rs }) (sym is)
referred false s m more is = ap (λ rs. record { name = s.name; scope = s.scope; flags = s.flags; declarations = s.declarations; references = rs }) (sym is)

pub kept_referred : (all some : List BindingSite) (uses : List (Option ℕ)) (u : Option ℕ) (m next : ℕ) (bs : List Binding) → m ≡ length uses
    → at_number (with_reference m) u next (kept_from all some uses next bs) ≡ kept_from all some (uses ++ u ∷ []) next bs
kept_referred all some uses u m next [] is = refl
kept_referred all some uses u m next (b ∷ bs) is =
    both
    (referred (is_number next u) (kept_at all some uses next b) m (references_to next 0 (uses ++ u ∷ [])) (references_push next 0 m uses u (omega arith)))
    (kept_referred all some uses u m (suc next) bs is)

-- ---- one more site, or one more reference

pub take_next : {X : Type 0} (xs : List X) (i : ℕ) (x : X) → i < length xs → x ≡ get_or xs i x → take (i + 1) xs ≡ take i xs ++ x ∷ []
take_next xs i x within at = take_more xs i x within ∙ ap (λ y. take i xs ++ y ∷ []) (sym at)

pub declared_more : (all sites : List BindingSite) (i : ℕ) (s : BindingSite) (number : Option ℕ) (before after : List KeptSymbol) → i < length sites → s ≡ get_or sites i s → number ≡ symbol_declared all s
    → after ≡ at_number (with_declaration (redeclaration s)) number 0 before → before ≡ kept_from all (take i sites) [] 0 (symbols_of all) → after ≡ kept_from all (take (i + 1) sites) [] 0 (symbols_of all)
declared_more all sites i s number before after within at is now so_far =
    now ∙ ap (λ n. at_number (with_declaration (redeclaration s)) n 0 before) is ∙ ap (at_number (with_declaration (redeclaration s)) (symbol_declared all s) 0) so_far
    ∙ kept_declared all (take i sites) [] s 0 (symbols_of all) ∙ ap (λ some. kept_from all some [] 0 (symbols_of all)) (sym (take_next sites i s within at))

pub length_front : {X Y : Type 0} (f : X → Y) (xs : List X) (i : ℕ) → i < length xs → i ≡ length (map f (take i xs))
length_front f xs i within = sym (length-map (take i xs) f ∙ length-take-le i xs (omega arith))

pub referred_more : (all : List BindingSite) (rs : List Reference) (i : ℕ) (r : Reference) (used : Option ℕ) (before after : List KeptSymbol) → i < length rs → r ≡ get_or rs i r → used ≡ r.symbol
    → after ≡ at_number (with_reference i) used 0 before → before ≡ kept_from all all (map (λ x. x.symbol) (take i rs)) 0 (symbols_of all)
    → after ≡ kept_from all all (map (λ x. x.symbol) (take (i + 1) rs)) 0 (symbols_of all)
referred_more all rs i r used before after within at is now so_far =
    now ∙ ap (λ u. at_number (with_reference i) u 0 before) is ∙ ap (at_number (with_reference i) r.symbol 0) so_far
    ∙ kept_referred all all (map (λ x. x.symbol) (take i rs)) r.symbol i 0 (symbols_of all) (length_front (λ x. x.symbol) rs i within)
    ∙ ap (λ uses. kept_from all all uses 0 (symbols_of all)) (sym (ap (map (λ x. x.symbol)) (take_next rs i r within at) ∙ map-append (λ x. x.symbol) (take i rs) (r ∷ [])))

-- ---- all of them

pub told_all : (all : List BindingSite) (uses : List (Option ℕ)) (next : ℕ) (bs : List Binding) → map told (kept_from all all uses next bs) ≡ symbols_from all uses next bs
told_all all uses next [] = refl
told_all all uses next (b ∷ bs) = ap (λ ss. symbol_at all uses next b ∷ ss) (told_all all uses (suc next) bs)

pub uses_are : (bs : List BindingSite) (rs : List ReferenceSite) → map (λ r. r.symbol) (map (reference_at bs) rs) ≡ map (symbol_used bs) rs
uses_are bs [] = refl
uses_are bs (r ∷ rs) = ap (λ us. symbol_used bs r ∷ us) (uses_are bs rs)

pub kept_length : (all some : List BindingSite) (uses : List (Option ℕ)) (next : ℕ) (bs : List Binding) → length (kept_from all some uses next bs) ≡ length bs
kept_length all some uses next [] = refl
kept_length all some uses next (b ∷ bs) = ap suc (kept_length all some uses (suc next) bs)
