-- One field after another, and one item of a list after another.
use Rattle.std.proofs.Common.{◌≡◌, ◌∙◌, ◌≤◌, ℕ, List, [], ◌∷◌, Bool, true, false, ◌&&◌, ◌||◌, Option, Some, None, length, map, drop, refl, sym, ap, true≢false, arith}
use Rattle.std.proofs.lemmas.List.{drop_all}
use Rattle.js_syntax.specs.declared.value.Key.{Key}
use Rattle.js_syntax.specs.declared.node_kind.NodeKind.{NodeKind as Kind}
use Rattle.js_syntax.specs.Field.{Sort, keeps, checks, a_key, child, maybe, each, each_or_hole, a_body, Field, field}
use Rattle.js_syntax.specs.Hint.{has}
use Rattle.js_syntax.specs.Node.{Tree, row}
use Rattle.js_syntax.proofs.Truth.{or_false}
use Rattle.js_tree.proofs.Search.{AsksEach}
use Rattle.json_shape.specs.Shape.{these}
use Rattle.json_fits.specs.Fitting.{places_by, holds_node, place_of, may_be, is_planned}

pub has_each : (test : Kind → Bool) → AsksEach (has test)
has_each test None ts = refl
has_each test (Some t) ts = ap (λ (b : Bool). b || has test (row ts)) (sym (or_false (test t.kind)))

-- ---- fields

module _ (private : Bool) (key : Key) where
  held : (name : List ℕ) (s : Sort) (fs : List Field) → holds_node s ≡ true → places_by private key (field name s ∷ fs) ≡ place_of private key s ∷ places_by private key fs
  held name (keeps k) fs h = absurd (true≢false (sym h))
  held name (checks c) fs h = absurd (true≢false (sym h))
  held name (a_key keys) fs h = refl
  held name (child c) fs h = refl
  held name (maybe c) fs h = refl
  held name (each kind c) fs h = refl
  held name (each_or_hole kind c) fs h = refl
  held name (a_body c) fs h = refl

  pub field_passed : (name : List ℕ) (s : Sort) (fs : List Field) → holds_node s ≡ false → places_by private key (field name s ∷ fs) ≡ places_by private key fs
  field_passed name (keeps k) fs h = refl
  field_passed name (checks c) fs h = refl
  field_passed name (a_key keys) fs h = absurd (true≢false h)
  field_passed name (child c) fs h = absurd (true≢false h)
  field_passed name (maybe c) fs h = absurd (true≢false h)
  field_passed name (each kind c) fs h = absurd (true≢false h)
  field_passed name (each_or_hole kind c) fs h = absurd (true≢false h)
  field_passed name (a_body c) fs h = absurd (true≢false h)

  first_held : (s : Sort) (fs : List Field) (x : Option Tree) (ts : List (Option Tree))
      → is_planned (these (place_of private key s ∷ places_by private key fs)) (row (x ∷ ts)) ≡ may_be (place_of private key s) (row (x ∷ [])) && is_planned (these (places_by private key fs)) (row ts)
  first_held s fs None ts = refl
  first_held s fs (Some t) ts = refl

  pub field_held : (name : List ℕ) (s : Sort) (fs : List Field) (x : Option Tree) (ts : List (Option Tree)) → holds_node s ≡ true
      → is_planned (these (places_by private key (field name s ∷ fs))) (row (x ∷ ts)) ≡ may_be (place_of private key s) (row (x ∷ [])) && is_planned (these (places_by private key fs)) (row ts)
  field_held name s fs x ts h = ap (λ ps. is_planned (these ps) (row (x ∷ ts))) (held name s fs h) ∙ first_held s fs x ts

  pub field_lacks : (name : List ℕ) (s : Sort) (fs : List Field) → holds_node s ≡ true → is_planned (these (places_by private key (field name s ∷ fs))) (row []) ≡ false
  field_lacks name s fs h = ap (λ ps. is_planned (these ps) (row [])) (held name s fs h)

-- no node stands behind the last
pub none_planned : (x : Option Tree) (ts : List (Option Tree)) → is_planned (these []) (row (x ∷ ts)) ≡ false
none_planned None ts = refl
none_planned (Some t) ts = refl

pub not_planned : (ts : List (Option Tree)) → 1 ≤ length ts → is_planned (these []) (row ts) ≡ false
not_planned [] within = absurd (Prim.omega (arith, within))
not_planned (x ∷ ts) within = none_planned x ts

pub all_planned : (ts : List (Option Tree)) → length ts ≡ 0 → is_planned (these []) (row ts) ≡ true
all_planned [] h = refl
all_planned (x ∷ ts) h = absurd (Prim.omega (arith, h))

-- no field is left
pub fields_over : (private : Bool) (key : Key) {X : Type 0} (view : X → Field) (fields : List X) (i : ℕ) (ts : List (Option Tree)) → length fields ≤ i
    → is_planned (these (places_by private key (map view (drop i fields)))) (row ts) ≡ is_planned (these []) (row ts)
fields_over private key view fields i ts h = ap (λ fs. is_planned (these (places_by private key (map view fs))) (row ts)) (drop_all i fields h)
