-- One more name in a list and in its index.
use Rattle.std.proofs.Common.{◌≡◌, ◌<◌, ◌+◌, ◌∙◌, ℕ, List, [], ◌∷◌, ◌++◌, Bool, true, false, cond, ◌||◌, length, get_or, take, drop, map, append_assoc, append-nil, refl, sym, ap}
use Rattle.js_tree.proofs.Rows.{front_of}
use Rattle.form_context.specs.Name.{all_names}
use Rattle.std.proofs.lemmas.List.{take_more}
use Rattle.std.proofs.lemmas.Map.Text.{is_eq-slice_cmp}
use Rattle.std.specs.Cmp.Lexicographic.{slice_cmp, nat_list_eq_equiv}
use Rattle.std.specs.Ordering.{nat_cmp, is_eq}
use Rattle.std.specs.Str.{bytes_eq}
use Rattle.form_rules.specs.Name.{is_among}
use denote.Bor.{Bor}

or_last : (a b : Bool) → b || false ≡ cond b true false
or_last a true = refl
or_last a false = refl

among_push : (q : List ℕ) (ws : List (List ℕ)) (w : List ℕ) → is_among q (ws ++ w ∷ []) ≡ cond (bytes_eq w q) true (is_among q ws)
among_push q [] w = rw (nat_list_eq_equiv.symm w q) (or_last true (bytes_eq q w))
among_push q (v ∷ ws) w = ap (λ b. bytes_eq q v || b) (among_push q ws w) ∙ push_or (bytes_eq q v) (bytes_eq w q) (is_among q ws)
  where
    push_or : (a b c : Bool) → a || cond b true c ≡ cond b true (a || c)
    push_or true true c = refl
    push_or true false c = refl
    push_or false b c = refl

abbrev pub bytes_of : List (Bor (List ℕ)) → List (List ℕ)
bytes_of = map (λ s. s.now)

pub bytes_push : (xs : List (Bor (List ℕ))) (x : Bor (List ℕ)) → bytes_of (xs ++ x ∷ []) ≡ bytes_of xs ++ x.now ∷ []
bytes_push [] x = refl
bytes_push (y ∷ xs) x = ap (λ ys. y.now ∷ ys) (bytes_push xs x)

-- the index finds what it found, and the next name
pub one_more : (xs : List (Bor (List ℕ))) (i : ℕ) (d : Bor (List ℕ)) (q : List ℕ) (old new : Bool) → i < length xs → old ≡ is_among q (bytes_of (take i xs)) → new ≡ cond (is_eq (slice_cmp nat_cmp (get_or xs i d).now q)) true old
    → new ≡ is_among q (bytes_of (take (i + 1) xs))
one_more xs i d q old new h was is =
    is ∙ ap (λ b. cond b true old) (is_eq-slice_cmp (get_or xs i d).now q) ∙ ap (cond (bytes_eq (get_or xs i d).now q) true) was
    ∙ sym (among_push q (bytes_of (take i xs)) (get_or xs i d).now) ∙ ap (is_among q) (sym (ap bytes_of (take_more xs i d h) ∙ bytes_push (take i xs) (get_or xs i d)))

pub among_append : (q : List ℕ) (xs ys : List (List ℕ)) → is_among q (xs ++ ys) ≡ is_among q xs || is_among q ys
among_append q [] ys = refl
among_append q (x ∷ xs) ys = ap (λ b. bytes_eq q x || b) (among_append q xs ys) ∙ or_assoc (bytes_eq q x) (is_among q xs) (is_among q ys)
  where
    or_assoc : (a b c : Bool) → a || (b || c) ≡ (a || b) || c
    or_assoc true b c = refl
    or_assoc false b c = refl

-- with `f` the names of an item: one more item, and those of a list from a place on
module _ {A : Type 0} (f : A → List (List ℕ)) where
  pub more_names : (ns : List A) (n : A) → all_names (map f (ns ++ n ∷ [])) ≡ all_names (map f ns) ++ f n
  more_names [] n = append-nil (f n)
  more_names (m ∷ ns) n = ap (λ xs. f m ++ xs) (more_names ns n) ∙ sym (append_assoc (f m) (all_names (map f ns)) (f n))

  pub names_at : (ns : List A) (i : ℕ) (n : A) → i < length ns → n ≡ get_or ns i n → all_names (map f (drop i ns)) ≡ f n ++ all_names (map f (drop (i + 1) ns))
  names_at ns i n h is = ap (λ ms. all_names (map f ms)) (front_of ns i n h is)

pub known_here : (q : List ℕ) (here rest : List (List ℕ)) → is_among q here ≡ true → is_among q (here ++ rest) ≡ true
known_here q here rest h = among_append q here rest ∙ ap (λ b. b || is_among q rest) h

pub not_known_here : (q : List ℕ) (here rest : List (List ℕ)) → is_among q here ≡ false → is_among q (here ++ rest) ≡ is_among q rest
not_known_here q here rest h = among_append q here rest ∙ ap (λ b. b || is_among q rest) h
