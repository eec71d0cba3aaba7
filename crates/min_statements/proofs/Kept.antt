-- Lists of which each item is changed in turn, and lists without some.
use Rattle.std.proofs.Common.{◌≡◌, ◌∙◌, ◌<◌, ◌≤◌, ◌+◌, ℕ, zero, suc, ◌==◌, Bool, true, false, not, List, [], ◌∷◌, Option, Some, None, map, if◌then◌else◌, cond, length, take, ◌++◌, get_or, set, refl, sym, ap, arith, add-one, true≢false}
use Rattle.std.specs.Prelude.{filter}
use Rattle.std.proofs.lemmas.List.{take-append-le, take_all}
use Rattle.js_syntax.specs.declared.node_kind.NodeKind.{NodeKind as Kind}
use Rattle.js_syntax.specs.declared.node_kind.NodeKind.TheVariants.{Declarators as declarators, Specifiers as specifiers}
use Rattle.js_syntax.specs.declared.kind.VariableKind.{VariableKind}
use Rattle.js_syntax.specs.Node.{Forest, Tree, Note, nothing, node, absent, alone, joined, row}
use Rattle.rules.specs.DeadCode.Rules.{Facts, Where, declarator_goes, declarators_left, item_goes, declaration_left, item_left, trimmed}
use Rattle.rules.specs.Imports.Rules.{specifier_goes, names_left, import_left}
use Rattle.min_statements.specs.Shed.{is_dead_declarator, is_dead_item, is_unused_specifier, kept_items, each_left, left_of}

-- ---- those that stay

pub kept : (b : Bool) (t : Tree) (ts : List (Option Tree)) (r : Forest) → row ts ≡ r → row (cond (not b) (Some t ∷ ts) ts) ≡ (if b then r else node t.kind t.note t.below r)
kept true t ts r e = e
kept false t ts r e = ap (node t.kind t.note t.below) e

pub declarators_kept : (f : Facts) (w : Where) (how : VariableKind) (ts : List (Option Tree)) → row (filter (λ x. not (is_dead_declarator f w how x)) ts) ≡ declarators_left f w how (row ts)
declarators_kept f w how [] = refl
declarators_kept f w how (None ∷ ts) = ap absent (declarators_kept f w how ts)
declarators_kept f w how (Some t ∷ ts) = kept (declarator_goes f w how t.kind t.below) t (filter (λ x. not (is_dead_declarator f w how x)) ts) (declarators_left f w how (row ts)) (declarators_kept f w how ts)

pub items_kept : (f : Facts) (w : Where) (ts : List (Option Tree)) → row (filter (λ x. not (is_dead_item f w x)) ts) ≡ kept_items f w (row ts)
items_kept f w [] = refl
items_kept f w (None ∷ ts) = ap absent (items_kept f w ts)
items_kept f w (Some t ∷ ts) = kept (item_goes f w t.kind t.below) t (filter (λ x. not (is_dead_item f w x)) ts) (kept_items f w (row ts)) (items_kept f w ts)

pub specifiers_kept : (f : Facts) (w : Where) (ts : List (Option Tree)) → row (filter (λ x. not (is_unused_specifier f w x)) ts) ≡ names_left f w (row ts)
specifiers_kept f w [] = refl
specifiers_kept f w (None ∷ ts) = ap absent (specifiers_kept f w ts)
specifiers_kept f w (Some t ∷ ts) = kept (specifier_goes f w t.kind t.below) t (filter (λ x. not (is_unused_specifier f w x)) ts) (names_left f w (row ts)) (specifiers_kept f w ts)

one_left : (f : Facts) (w : Where) (g : Bool) (k : Kind) (n : Note) (b r l : Forest) → each_left f w r ≡ l → each_left f w (if g then r else node k n b r) ≡ (if g then l else node k n (item_left f w k b) l)
one_left f w true k n b r l e = e
one_left f w false k n b r l e = ap (node k n (item_left f w k b)) e

pub trimmed_is : (f : Facts) (w : Where) (t : Forest) → each_left f w (kept_items f w t) ≡ trimmed f w t
trimmed_is f w nothing = refl
trimmed_is f w (absent rest) = ap absent (trimmed_is f w rest)
trimmed_is f w (node k n b rest) = one_left f w (item_goes f w k b) k n b (kept_items f w rest) (trimmed f w rest) (trimmed_is f w rest)

-- ---- one after another

-- the list once those before i are changed and the others will be
module _ (h : Option Tree → Option Tree) where
  abbrev pub changing : List (Option Tree) → ℕ → List (Option Tree)
  changing [] i = []
  changing (x ∷ xs) zero = h x ∷ map h xs
  changing (x ∷ xs) (suc i) = x ∷ changing xs i

  pub changing_first : (xs : List (Option Tree)) → changing xs 0 ≡ map h xs
  changing_first [] = refl
  changing_first (x ∷ xs) = refl

  changing_then : (xs : List (Option Tree)) (i : ℕ) (x : Option Tree) → i < length xs → x ≡ get_or xs i x → changing (set xs i (h x)) (suc i) ≡ changing xs i
  changing_then [] i x l is = absurd (Prim.omega (arith, l))
  changing_then (y ∷ ys) zero x l is = ap (λ z. h x ∷ z) (changing_first ys) ∙ ap (λ z. h z ∷ map h ys) is
  changing_then (y ∷ ys) (suc i) x l is = ap (λ z. y ∷ z) (changing_then ys i x (Prim.omega (arith, l)) is)

  pub changing_next : (xs : List (Option Tree)) (i : ℕ) (x : Option Tree) → i < length xs → x ≡ get_or xs i x → changing (set xs i (h x)) (i + 1) ≡ changing xs i
  changing_next xs i x l is = ap (λ k. changing (set xs i (h x)) k) (add-one i) ∙ changing_then xs i x l is

  pub changed : (xs : List (Option Tree)) (i : ℕ) → length xs ≤ i → changing xs i ≡ xs
  changed [] i l = refl
  changed (x ∷ xs) zero l = absurd (Prim.omega (arith, l))
  changed (x ∷ xs) (suc i) l = ap (λ z. x ∷ z) (changed xs i (Prim.omega (arith, l)))

pub each_is : (f : Facts) (w : Where) (ts : List (Option Tree)) → row (map (left_of f w) ts) ≡ each_left f w (row ts)
each_is f w [] = refl
each_is f w (None ∷ ts) = ap absent (each_is f w ts)
each_is f w (Some t ∷ ts) = ap (node t.kind t.note (item_left f w t.kind t.below)) (each_is f w ts)

-- ---- the list that a declaration has

alone_left : (f : Facts) (w : Where) (how : VariableKind) (k : Kind) (n : Note) (b t : Forest) → declaration_left f w how (node k n b t) ≡ joined (declaration_left f w how (alone k n b)) t
alone_left f w how declarators n b t = refl
alone_left f w how k n b t = refl

one_of_list : (f : Facts) (w : Where) (how : VariableKind) (x : Option Tree) (ts : List (Option Tree)) → declaration_left f w how (row (x ∷ ts)) ≡ joined (declaration_left f w how (row (x ∷ []))) (row ts)
one_of_list f w how None ts = refl
one_of_list f w how (Some t) ts = alone_left f w how t.kind t.note t.below (row ts)

joined_one : (y : Option Tree) (ts : List (Option Tree)) → row (y ∷ ts) ≡ joined (row (y ∷ [])) (row ts)
joined_one None ts = refl
joined_one (Some t) ts = refl

pub first_left : (f : Facts) (w : Where) (how : VariableKind) (xs : List (Option Tree)) (x y : Option Tree) → (length xs == 0) ≡ false → row (y ∷ []) ≡ declaration_left f w how (row (get_or xs 0 x ∷ [])) → row (set xs 0 y) ≡ declaration_left f w how (row xs)
first_left f w how [] x y l e = absurd (true≢false l)
first_left f w how (z ∷ zs) x y l e = joined_one y zs ∙ ap (λ t. joined t (row zs)) e ∙ sym (one_of_list f w how z zs)

pub none_left : (f : Facts) (w : Where) (how : VariableKind) (xs : List (Option Tree)) → length xs ≡ 0 → row xs ≡ declaration_left f w how (row xs)
none_left f w how [] e = refl
none_left f w how (x ∷ xs) e = absurd (Prim.omega (arith, e))

-- ---- the list that an import has

pub only_left : (f : Facts) (w : Where) (xs : List (Option Tree)) (x y : Option Tree) → length xs ≡ 1 → row (y ∷ []) ≡ import_left f w (row (get_or xs 0 x ∷ [])) → row (set xs 0 y) ≡ import_left f w (row xs)
only_left f w [] x y l e = absurd (Prim.omega (arith, l))
only_left f w (z ∷ []) x y l e = e
only_left f w (z ∷ v ∷ zs) x y l e = absurd (Prim.omega (arith, l))

others_stay : (f : Facts) (w : Where) (k : Kind) (n : Note) (b : Forest) (x : Option Tree) (xs : List (Option Tree)) → node k n b (row (x ∷ xs)) ≡ import_left f w (node k n b (row (x ∷ xs)))
others_stay f w specifiers n b None xs = refl
others_stay f w specifiers n b (Some x) xs = refl
others_stay f w k n b x xs = refl

pub no_list : (f : Facts) (w : Where) (xs : List (Option Tree)) → (length xs ≡ 1 → ⊥) → row xs ≡ import_left f w (row xs)
no_list f w [] l = refl
no_list f w (x ∷ []) l = absurd (l (Prim.omega arith))
no_list f w (None ∷ y ∷ xs) l = refl
no_list f w (Some x ∷ y ∷ xs) l = others_stay f w x.kind x.note x.below y xs

-- ---- a node with other children

pub same_tree : (y : Tree) (k : Kind) (n : Note) (t : Forest) → y.kind ≡ k → y.note ≡ n → y.below ≡ t → y ≡ record { kind = k; note = n; below = t }
same_tree y k n t a b c = ap (λ x. record { kind = x; note = y.note; below = y.below }) a ∙ ap (λ x. record { kind = k; note = x; below = y.below }) b ∙ ap (λ x. record { kind = k; note = n; below = x }) c

pub written : {A : Type 0} (n : ℕ) (ys zs : List A) → n ≡ length ys → take n (ys ++ zs) ≡ ys
written n ys zs e = take-append-le n ys zs (Prim.omega (arith, e)) ∙ take_all n ys (Prim.omega (arith, e))
