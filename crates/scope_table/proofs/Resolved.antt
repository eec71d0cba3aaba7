-- A reference has a symbol where a layer around it declares its name.
use Rattle.std.proofs.Common.{◌≡◌, ◌∙◌, ◌+◌, ◌&&◌, ◌||◌, ℕ, suc, List, [], ◌∷◌, Bool, true, false, Some, None, is_some, option_map, option_and_then, cond, if◌then◌else◌, map, arith, refl, sym, ap, subst}
use Rattle.std.specs.Bool.{nat_eq}
use Rattle.std.specs.List.{count_by}
use Rattle.std.specs.Str.{bytes_eq}
use Rattle.std.proofs.lemmas.List.Sums.{sum_by-cons}
use Rattle.scope_rules.specs.declared.layer.Layer.{Layer}
use Rattle.scope_rules.specs.declared.layer.Part.{Part}
use Rattle.scope_rules.specs.declared.layer.Part.TheVariants.{OwnName as own_name, Parameters as parameters, Body as body}
use Rattle.scope_rules.specs.Site.{BindingSite, ReferenceSite}
use Rattle.scope_rules.specs.Binding.{Binding, is_own_name, same_part, same_layer, is_declared, binding_layer, named_in, declared_by, binding_of, resolved}
use Rattle.scope_rules.specs.Table.{same_flag, same_binding, is_among, new_behind, symbols_of, symbol_of, symbol_used, reference_at}
use Rattle.scope_names.proofs.Firsts.{same_is, number_among}
use Rattle.js_syntax.proofs.Truth.{first_of_both, second_of_both, both, second_of_either}

or_map : (a b c d : Bool) → (a ≡ true → c ≡ true) → (b ≡ true → d ≡ true) → a || b ≡ true → c || d ≡ true
or_map true b c d f g h = ap (λ x. x || d) (f refl)
or_map false b c d f g h = second_of_either c d (g h)

-- ---- what is declared is a symbol

same_flags : (p q : Part) → same_part p q ≡ true → same_flag (is_own_name p) (is_own_name q) ≡ true
same_flags own_name own_name h = refl
same_flags own_name parameters h = h
same_flags own_name body h = h
same_flags parameters own_name h = h
same_flags parameters parameters h = refl
same_flags parameters body h = refl
same_flags body own_name h = h
same_flags body parameters h = refl
same_flags body body h = refl

same_declared : (b : BindingSite) (l : Layer) (x : List ℕ) → same_layer b.layer l && bytes_eq b.name x ≡ true → same_binding (declared_by b) (named_in x l) ≡ true
same_declared b l x h =
    let layers = first_of_both (same_layer b.layer l) (bytes_eq b.name x) h in
    let scopes = nat_eq b.layer.scope l.scope in
    let flags = same_flag (is_own_name b.layer.part) (is_own_name l.part) in
    both (scopes && flags) (bytes_eq b.name x)
    (both scopes flags (first_of_both scopes (same_part b.layer.part l.part) layers) (same_flags b.layer.part l.part (second_of_both scopes (same_part b.layer.part l.part) layers)))
    (second_of_both (same_layer b.layer l) (bytes_eq b.name x) h)

declared_among : (bs : List BindingSite) (l : Layer) (x : List ℕ) → is_declared bs l x ≡ true → is_among (named_in x l) (map declared_by bs) ≡ true
declared_among [] l x h = h
declared_among (b ∷ bs) l x h =
    or_map (same_layer b.layer l && bytes_eq b.name x) (is_declared bs l x) (same_binding (declared_by b) (named_in x l)) (is_among (named_in x l) (map declared_by bs)) (same_declared b l x) (declared_among bs l x) h

seen_already : (s c m : Bool) → (c ≡ true → s ≡ true) → s || m ≡ s || (c || m)
seen_already true c m f = refl
seen_already false true m f = let impossible = f refl in cc
seen_already false false m f = refl

seen_now : (c s n m : Bool) → (c || s) || n ≡ (c || s) || m → s || (c || n) ≡ s || (c || m)
seen_now true true n m h = refl
seen_now true false n m h = refl
seen_now false true n m h = refl
seen_now false false n m h = h

among_new : (q : Binding) (seen bs : List Binding) → is_among q seen || is_among q (new_behind seen bs) ≡ is_among q seen || is_among q bs
among_new q seen [] = refl
among_new q seen (b ∷ bs) =
    elim (is_among b seen) as (λ c. is_among b seen ≡ c → is_among q seen || is_among q (if c then new_behind seen bs else b ∷ new_behind (b ∷ seen) bs) ≡ is_among q seen || (same_binding b q || is_among q bs)) [
      | true ↦ λ e. among_new q seen bs ∙ seen_already (is_among q seen) (same_binding b q) (is_among q bs) (λ same. ap (λ r. is_among r seen) (sym (same_is b q same)) ∙ e)
      | false ↦ λ e. seen_now (same_binding b q) (is_among q seen) (is_among q (new_behind (b ∷ seen) bs)) (is_among q bs) (among_new q (b ∷ seen) bs)
    ] refl

declared_has_symbol : (bs : List BindingSite) (l : Layer) (x : List ℕ) → is_declared bs l x ≡ true → is_some (symbol_of bs (named_in x l)) ≡ true
declared_has_symbol bs l x h = number_among 0 (symbols_of bs) (named_in x l) ∙ among_new (named_in x l) [] (map declared_by bs) ∙ declared_among bs l x h

-- ---- references

layer_declares : (bs : List BindingSite) (ls : List Layer) (x : List ℕ) (l : Layer) → binding_layer bs ls x ≡ Some l → is_declared bs l x ≡ true
layer_declares bs [] x l h = cc
layer_declares bs (m ∷ ls) x l h =
    elim (is_declared bs m x) as (λ c. is_declared bs m x ≡ c → (if c then Some m else binding_layer bs ls x) ≡ Some l → is_declared bs l x ≡ true)
    [ true ↦ λ e g. let same : m ≡ l = cc in subst (λ k. is_declared bs k x ≡ true) same e | false ↦ λ e g. layer_declares bs ls x l g ] refl h

has_symbol : (bs : List BindingSite) (r : ReferenceSite) → is_some (symbol_used bs r) ≡ is_some (binding_of bs r)
has_symbol bs r =
    elim (binding_layer bs r.layers r.name) as
    (λ l. binding_layer bs r.layers r.name ≡ l → is_some (option_and_then (symbol_of bs) (option_map (named_in r.name) l)) ≡ is_some (option_map (named_in r.name) l))
    [ None ↦ λ e. refl | Some l ↦ λ e. declared_has_symbol bs l r.name (layer_declares bs r.layers r.name l e) ] refl

counted : (here : Bool) (n m : ℕ) → n ≡ m → cond here 1 0 + n ≡ (if here then suc m else m)
counted true n m is = omega arith
counted false n m is = omega arith

pub resolved_are : (bs : List BindingSite) (rs : List ReferenceSite) → count_by (λ r. is_some r.symbol) (map (reference_at bs) rs) ≡ resolved bs rs
resolved_are bs [] = refl
resolved_are bs (r ∷ rs) =
    sum_by-cons (λ x. cond (is_some x.symbol) 1 0) (reference_at bs r) (map (reference_at bs) rs)
    ∙ ap (λ c. cond c 1 0 + count_by (λ x. is_some x.symbol) (map (reference_at bs) rs)) (has_symbol bs r) ∙ counted (is_some (binding_of bs r)) _ (resolved bs rs) (resolved_are bs rs)
