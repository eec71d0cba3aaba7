-- A word of a list stands at the place of its number, so that one comparison tells whether a name is among them.
use Rattle.std.proofs.Common.{◌≡◌, ◌<◌, ◌≤◌, ◌∙◌, ℕ, zero, suc, List, [], ◌∷◌, Bool, true, false, ◌||◌, ◌&&◌, length, map, get_or, slice_index_or, refl, sym, ap, arith, true≢false}
use Rattle.std.specs.Str.{bytes_eq}
use Rattle.std.proofs.lemmas.Slice.Eq.{bytes_eq-Decides}
use Rattle.form_rules.specs.Name.{is_among, reserved_words, strict_words}
use Rattle.form_names.specs.Words.{word_number, is_word_at}
use Rattle.form_names.specs.declared.reserved.TheConstants.{RESERVED_PLACES, STRICT_PLACES}

-- ---- one word

pub word_read : {A : Type 0} (f : A → List ℕ) (s : List ℕ) (ws : List A) (i : ℕ) (d : A) → i < length ws → bytes_eq s (f (slice_index_or ws i d)) ≡ is_word_at (map f ws) i s
word_read f s [] i d h = absurd (omega arith)
word_read f s (w ∷ ws) zero d h = refl
word_read f s (w ∷ ws) (suc i) d h = word_read f s ws i d (omega arith)

pub no_word : {A : Type 0} (f : A → List ℕ) (s : List ℕ) (ws : List A) (i : ℕ) → length ws ≤ i → false ≡ is_word_at (map f ws) i s
no_word f s [] i h = refl
no_word f s (w ∷ ws) zero h = absurd (omega arith)
no_word f s (w ∷ ws) (suc i) h = no_word f s ws i (omega arith)

-- ---- all words of a list

abbrev each : (List ℕ → Bool) → List (List ℕ) → Bool
each p [] = true
each p (w ∷ ws) = p w && each p ws

or_true : (b : Bool) → b || true ≡ true
or_true true = refl
or_true false = refl

same_truth : (a b : Bool) → (a ≡ true → b ≡ true) → (b ≡ true → a ≡ true) → a ≡ b
same_truth true b f g = sym (f refl)
same_truth false true f g = g refl
same_truth false false f g = refl

-- what holds of this word and of those behind it holds of the name, whichever it is
by_word : (this others first rest r : Bool) → (this ≡ true → r ≡ first) → (rest ≡ true → others ≡ true → r ≡ true) → first && rest ≡ true → this || others ≡ true → r ≡ true
by_word true others true rest r is go all among = is refl
by_word true others false rest r is go all among = is refl ∙ all
by_word false others true rest r is go all among = go all among
by_word false others false true r is go all among = go refl among
by_word false others false false r is go all among = go all among

holds_among : (p : List ℕ → Bool) (ws : List (List ℕ)) (s : List ℕ) → each p ws ≡ true → is_among s ws ≡ true → p s ≡ true
holds_among p [] s all among = absurd (true≢false (sym among))
holds_among p (w ∷ ws) s all among =
    by_word (bytes_eq s w) (is_among s ws) (p w) (each p ws) (p s) (λ same. ap p ((bytes_eq-Decides s w).0 same)) (λ rest others. holds_among p ws s rest others) all among

stands_among : (ws : List (List ℕ)) (i : ℕ) (s : List ℕ) → is_word_at ws i s ≡ true → is_among s ws ≡ true
stands_among [] i s h = h
stands_among (w ∷ ws) zero s h = ap (λ (b : Bool). b || is_among s ws) h
stands_among (w ∷ ws) (suc i) s h = ap (λ (b : Bool). bytes_eq s w || b) (stands_among ws i s h) ∙ or_true (bytes_eq s w)

at_home : (places : List ℕ) (ws : List (List ℕ)) → each (λ w. is_word_at ws (get_or places (word_number w) 0) w) ws ≡ true
    → (s : List ℕ) → is_word_at ws (get_or places (word_number s) 0) s ≡ is_among s ws
at_home places ws all s =
    same_truth (is_word_at ws (get_or places (word_number s) 0) s) (is_among s ws) (stands_among ws (get_or places (word_number s) 0) s)
    (holds_among (λ w. is_word_at ws (get_or places (word_number w) 0) w) ws s all)

-- ---- the two lists

pub reserved_at_home : (n : ℕ) (s : List ℕ) → n ≡ word_number s → is_word_at reserved_words (get_or RESERVED_PLACES n 0) s ≡ is_among s reserved_words
reserved_at_home n s is = ap (λ m. is_word_at reserved_words (get_or RESERVED_PLACES m 0) s) is ∙ at_home RESERVED_PLACES reserved_words refl s

pub strict_at_home : (n : ℕ) (s : List ℕ) → n ≡ word_number s → is_word_at strict_words (get_or STRICT_PLACES n 0) s ≡ is_among s strict_words
strict_at_home n s is = ap (λ m. is_word_at strict_words (get_or STRICT_PLACES m 0) s) is ∙ at_home STRICT_PLACES strict_words refl s
