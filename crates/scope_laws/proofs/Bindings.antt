-- Which binding a reference has doesn't depend on marks, and something declares it.
use Rattle.std.proofs.Common.{◌≡◌, ◌+◌, ◌∙◌, ℕ, suc, List, [], ◌∷◌, Bool, true, false, ◌&&◌, ◌||◌, true≢false, nat_eq, Some, None, is_some, option_map, unwrap_or, if◌then◌else◌, drop, inl, inr, bytes_eq, refl, sym, ap, ap₂}
use Rattle.std.proofs.lemmas.Bool.{and_parts, and_from, or_cases, eqb-true, eq-eqb}
use Rattle.std.proofs.lemmas.Slice.Eq.{bytes_eq-Decides}
use Rattle.scope_rules.specs.declared.layer.Layer.{Layer}
use Rattle.scope_rules.specs.declared.layer.Part.{Part}
use Rattle.scope_rules.specs.declared.layer.Part.TheVariants.{OwnName as own_name, Parameters as parameters, Body as body}
use Rattle.scope_rules.specs.Site.{BindingSite, ReferenceSite}
use Rattle.scope_rules.specs.Binding.{Binding, same_part, same_layer, is_declared, binding_layer, named_in, declared_by, binding_of, resolved}
use Rattle.scope_rules.specs.Table.{same_flag, same_binding}
use Rattle.scope_laws.specs.Renumbered.{bindings_with, references_from}
use Rattle.scope_laws.specs.Exact.{Among}

pub none_is_some : {A : Type 0} {x : A} → None ≡ Some x → ⊥
none_is_some e = true≢false (sym (ap is_some e))

pub same_value : {A : Type 0} {x y : A} → Some x ≡ Some y → x ≡ y
same_value {x = x} e = ap (λ o. unwrap_or o x) e

-- ---- tests

same_part_true : (p q : Part) → same_part p q ≡ true → p ≡ q
same_part_true own_name own_name e = refl
same_part_true parameters parameters e = refl
same_part_true body body e = refl
same_part_true p q e = absurd (true≢false (sym e))

same_flag_true : (a b : Bool) → same_flag a b ≡ true → a ≡ b
same_flag_true true true e = refl
same_flag_true false false e = refl
same_flag_true true false e = sym e
same_flag_true false true e = e

same_flag_same : (a : Bool) → same_flag a a ≡ true
same_flag_same true = refl
same_flag_same false = refl

same_layer_true : (l m : Layer) → same_layer l m ≡ true → l ≡ m
same_layer_true l m e =
    let p = and_parts (nat_eq l.scope m.scope) (same_part l.part m.part) e in
    let s = eqb-true l.scope m.scope p.0 in
    let q = same_part_true l.part m.part p.1 in
    λ i. record { scope = s i; part = q i }

pub same_binding_true : (a b : Binding) → same_binding a b ≡ true → a ≡ b
same_binding_true a b e =
    let p = and_parts (nat_eq a.scope b.scope && same_flag a.is_own b.is_own) (bytes_eq a.name b.name) e in
    let q = and_parts (nat_eq a.scope b.scope) (same_flag a.is_own b.is_own) p.0 in
    let s = eqb-true a.scope b.scope q.0 in
    let o = same_flag_true a.is_own b.is_own q.1 in
    let n = (bytes_eq-Decides a.name b.name).0 p.1 in
    λ i. record { scope = s i; is_own = o i; name = n i }

pub same_binding_same : (a : Binding) → same_binding a a ≡ true
same_binding_same a =
    and_from (nat_eq a.scope a.scope && same_flag a.is_own a.is_own) (bytes_eq a.name a.name)
    (and_from (nat_eq a.scope a.scope) (same_flag a.is_own a.is_own) (eq-eqb a.scope a.scope refl) (same_flag_same a.is_own))
    ((bytes_eq-Decides a.name a.name).1 refl)

-- ---- something declares it

pub record Declares (bs : List BindingSite) (l : Layer) (x : List ℕ) : Type 0 where
  pub site : BindingSite
  pub stands : Among site bs
  pub layer : site.layer ≡ l
  pub name : site.name ≡ x

pub declares : (bs : List BindingSite) (l : Layer) (x : List ℕ) → is_declared bs l x ≡ true → Declares bs l x
declares [] l x e = absurd (true≢false (sym e))
declares (b ∷ bs) l x e =
    elim (or_cases (same_layer b.layer l && bytes_eq b.name x) (is_declared bs l x) e) [
      | inl h ↦
          let p = and_parts (same_layer b.layer l) (bytes_eq b.name x) h in
          record { site = b; stands = inl refl; layer = same_layer_true b.layer l p.0; name = (bytes_eq-Decides b.name x).0 p.1 }
      | inr h ↦ let d = declares bs l x h in record { site = d.site; stands = inr d.stands; layer = d.layer; name = d.name }
    ]

pub record Declared (bs : List BindingSite) (b : Binding) : Type 0 where
  pub site : BindingSite
  pub stands : Among site bs
  pub same : declared_by site ≡ b

found_layer : (bs : List BindingSite) (l : Layer) (ls : List Layer) (x : List ℕ) (b : Binding) (d : Bool) → is_declared bs l x ≡ d
    → (option_map (named_in x) (binding_layer bs ls x) ≡ Some b → Declared bs b)
    → option_map (named_in x) (if d then Some l else binding_layer bs ls x) ≡ Some b → Declared bs b
found_layer bs l ls x b true is others e =
    let d = declares bs l x is in
    record { site = d.site; stands = d.stands; same = ap₂ named_in d.name d.layer ∙ same_value e }
found_layer bs l ls x b false is others e = others e

in_layers : (bs : List BindingSite) (ls : List Layer) (x : List ℕ) (b : Binding) → option_map (named_in x) (binding_layer bs ls x) ≡ Some b → Declared bs b
in_layers bs [] x b e = absurd (none_is_some e)
in_layers bs (l ∷ ls) x b e = found_layer bs l ls x b (is_declared bs l x) refl (in_layers bs ls x b) e

pub declared_binding : (bs : List BindingSite) (r : ReferenceSite) (b : Binding) → binding_of bs r ≡ Some b → Declared bs b
declared_binding bs r b e = in_layers bs r.layers r.name b e

-- ---- marks aside

same_declared : (symbols : List ℕ) (bs : List BindingSite) (l : Layer) (x : List ℕ) → is_declared (bindings_with symbols bs) l x ≡ is_declared bs l x
same_declared symbols [] l x = refl
same_declared symbols (b ∷ bs) l x = ap (λ d. same_layer b.layer l && bytes_eq b.name x || d) (same_declared (drop 1 symbols) bs l x)

same_binding_layer : (symbols : List ℕ) (bs : List BindingSite) (ls : List Layer) (x : List ℕ) → binding_layer (bindings_with symbols bs) ls x ≡ binding_layer bs ls x
same_binding_layer symbols bs [] x = refl
same_binding_layer symbols bs (l ∷ ls) x = ap₂ (λ d o. if d then Some l else o) (same_declared symbols bs l x) (same_binding_layer symbols bs ls x)

pub same_binding_of : (symbols : List ℕ) (bs : List BindingSite) (r : ReferenceSite) → binding_of (bindings_with symbols bs) r ≡ binding_of bs r
same_binding_of symbols bs r = ap (option_map (named_in r.name)) (same_binding_layer symbols bs r.layers r.name)

pub same_resolved : (symbols : List ℕ) (next : ℕ) (bs : List BindingSite) (rs : List ReferenceSite) → resolved (bindings_with symbols bs) (references_from next rs) ≡ resolved bs rs
same_resolved symbols next bs [] = refl
same_resolved symbols next bs (r ∷ rs) = ap₂ (λ b (n : ℕ). if b then suc n else n) (ap is_some (same_binding_of symbols bs r)) (same_resolved symbols (next + 1) bs rs)
