-- Names that nothing declares, numbered in the order of their first references.
use Rattle.std.proofs.Common.{◌≡◌, ◌∙◌, ◌<◌, ◌≤◌, ◌+◌, ◌||◌, ℕ, suc, List, [], ◌∷◌, ◌++◌, Bool, true, false, Option, Some, None, is_some, if◌then◌else◌, length, get_or, drop, map, take, option_and_then, drop_of_length-le, append_assoc, append-nil, length-append, arith, refl, sym, ap, subst}
use Rattle.std.specs.BTreeMap.{BTreeMap, IsEmpty, is_at}
use Rattle.std.specs.Cmp.Lexicographic.{slice_cmp}
use Rattle.std.specs.Map.{lookup}
use Rattle.std.specs.Ordering.{nat_cmp}
use Rattle.std.specs.Str.{bytes_eq}
use Rattle.std.proofs.lemmas.Slice.Eq.{bytes_eq-Decides}
use Rattle.std.proofs.lemmas.List.{map-append, length-map, take_all}
use Rattle.js_tree.proofs.Rows.{front_of}
use Rattle.scope_rules.specs.Table.{Unresolved, is_number, references_to, is_named, unresolved_among, names_behind, name_number, unresolved_from}
use Rattle.scope_table.specs.Group.{at_number}
use Rattle.scope_table.specs.Unbound.{name_told, number_of, blank_name, with_use, IsCounted}
use Rattle.scope_table.proofs.Growing.{both, references_push, take_next, length_front}
use denote.Ref.{Bor}
use Rattle.scope_names.proofs.Firsts.{count_up, is_none}

-- ---- numbers

number_other : (k : ℕ) (xs : List (List ℕ)) (b q : List ℕ) → bytes_eq b q ≡ false → name_number k (xs ++ b ∷ []) q ≡ name_number k xs q
number_other k [] b q h = ap (λ x. if x then Some k else None) h
number_other k (x ∷ xs) b q h = ap (λ n. if bytes_eq x q then Some k else n) (number_other (suc k) xs b q h)

number_last : (k : ℕ) (xs : List (List ℕ)) (b : List ℕ) → name_number k xs b ≡ None → name_number k (xs ++ b ∷ []) b ≡ Some (k + length xs)
number_last k [] b h = ap (λ x. if x then Some k else None) ((bytes_eq-Decides b b).1 refl) ∙ ap (λ m. Some m) (omega arith)
number_last k (x ∷ xs) b h =
    elim (bytes_eq x b) as (λ c. (if c then Some k else name_number (suc k) xs b) ≡ None → (if c then Some k else name_number (suc k) (xs ++ b ∷ []) b) ≡ Some (k + suc (length xs)))
    [ true ↦ λ impossible. cc | false ↦ λ none. number_last (suc k) xs b none ∙ count_up k (length xs) ] h

-- ---- one name after another

pub record AreNamed (unbound : List (Option (Bor (List ℕ)))) (i : ℕ) (numbers : List ℕ → Option ℕ) (items : List Unresolved) : Type 0 where
  pub names : List (List ℕ)
  pub seen : List (List ℕ)
  pub listed : items ≡ map blank_name names
  pub known : (q : List ℕ) → is_some (numbers q) ≡ is_named seen q
  pub numbered : (q : List ℕ) → numbers q ≡ name_number 0 names q
  pub whole : names ++ names_behind seen (map name_told (drop i unbound)) ≡ names_behind [] (map name_told unbound)
  pub few : length items ≤ i

one_number : (names : List (List ℕ)) (b q : List ℕ) (known : Option ℕ) (same : Bool) → bytes_eq b q ≡ same → name_number 0 names b ≡ None → known ≡ name_number 0 names q
    → (if same then Some (length names) else known) ≡ name_number 0 (names ++ b ∷ []) q
one_number names b q known true same none is =
    subst (λ r. Some (length names) ≡ name_number 0 (names ++ b ∷ []) r) ((bytes_eq-Decides b q).0 same) (ap (λ m. Some m) (omega arith) ∙ sym (number_last 0 names b none))
one_number names b q known false other none is = is ∙ sym (number_other 0 names b q other)

one_known : (b q : List ℕ) (seen : List (List ℕ)) (n : ℕ) (known : Option ℕ) (same : Bool) → bytes_eq b q ≡ same → is_some known ≡ is_named seen q
    → is_some (if same then Some n else known) ≡ is_named (b ∷ seen) q
one_known b q seen n known true same is = sym (ap (λ c. c || is_named seen q) same)
one_known b q seen n known false other is = is ∙ sym (ap (λ c. c || is_named seen q) other)

module _ (unbound : List (Option (Bor (List ℕ)))) (i : ℕ) (u : Option (Bor (List ℕ))) (within : i < length unbound) (at : u ≡ get_or unbound i u) where
  -- what is left, from this one on
  rest_is : map name_told (drop i unbound) ≡ name_told u ∷ map name_told (drop (i + 1) unbound)
  rest_is = ap (map name_told) (front_of unbound i u within at)

  named_step : (x : List ℕ) (numbers after : List ℕ → Option ℕ) (items more : List Unresolved) (c : Bool) → name_told u ≡ Some x
      → is_some (numbers x) ≡ c
      → more ≡ (if c then items else items ++ blank_name x ∷ [])
      → ((q : List ℕ) → after q ≡ (if c then numbers q else if bytes_eq x q then Some (length items) else numbers q))
      → AreNamed unbound i numbers items → AreNamed unbound (i + 1) after more
  named_step x numbers after items more true is has items_are numbers_are n =
      let rest = map name_told (drop (i + 1) unbound) in
      record {
        names = n.names;
        seen = n.seen;
        listed = items_are ∙ n.listed;
        known = λ q. ap is_some (numbers_are q) ∙ n.known q;
        numbered = λ q. numbers_are q ∙ n.numbered q;
        whole = sym (ap (λ b. n.names ++ (if b then names_behind n.seen rest else x ∷ names_behind (x ∷ n.seen) rest)) (sym (n.known x) ∙ has))
            ∙ sym (ap (λ us. n.names ++ names_behind n.seen us) (rest_is ∙ ap (λ v. v ∷ rest) is)) ∙ n.whole;
        few = omega (arith, ap length items_are, n.few);
      }
  named_step x numbers after items more false is has items_are numbers_are n =
      let rest = map name_told (drop (i + 1) unbound) in
      let none : name_number 0 n.names x ≡ None = sym (n.numbered x) ∙ is_none (numbers x) has in
      let long : length items ≡ length n.names = ap length n.listed ∙ length-map n.names blank_name in
      record {
        names = n.names ++ x ∷ [];
        seen = x ∷ n.seen;
        listed = items_are ∙ ap (λ us. us ++ blank_name x ∷ []) n.listed ∙ sym (map-append blank_name n.names (x ∷ []));
        known = λ q. ap is_some (numbers_are q) ∙ one_known x q n.seen (length items) (numbers q) (bytes_eq x q) refl (n.known q);
        numbered = λ q. numbers_are q ∙ ap (λ m. if bytes_eq x q then Some m else numbers q) long ∙ one_number n.names x q (numbers q) (bytes_eq x q) refl none (n.numbered q);
        whole = append_assoc n.names (x ∷ []) (names_behind (x ∷ n.seen) rest)
            ∙ sym (ap (λ b. n.names ++ (if b then names_behind n.seen rest else x ∷ names_behind (x ∷ n.seen) rest)) (sym (n.known x) ∙ has))
            ∙ sym (ap (λ us. n.names ++ names_behind n.seen us) (rest_is ∙ ap (λ v. v ∷ rest) is)) ∙ n.whole;
        few = omega (arith, ap length items_are, length-append items (blank_name x ∷ []), n.few);
      }

  unnamed_step : (numbers after : List ℕ → Option ℕ) (items more : List Unresolved) → name_told u ≡ None → more ≡ items → ((q : List ℕ) → after q ≡ numbers q)
      → AreNamed unbound i numbers items → AreNamed unbound (i + 1) after more
  unnamed_step numbers after items more is items_are numbers_are n =
      let rest = map name_told (drop (i + 1) unbound) in
      record {
        names = n.names;
        seen = n.seen;
        listed = items_are ∙ n.listed;
        known = λ q. ap is_some (numbers_are q) ∙ n.known q;
        numbered = λ q. numbers_are q ∙ n.numbered q;
        whole = sym (ap (λ us. n.names ++ names_behind n.seen us) (rest_is ∙ ap (λ v. v ∷ rest) is)) ∙ n.whole;
        few = omega (arith, ap length items_are, n.few);
      }

  counted_step : (numbers after : BTreeMap (Bor (List ℕ)) ℕ) (items more : List Unresolved) (told : Option (List ℕ)) → name_told u ≡ told → IsCounted told numbers items after more
      → AreNamed unbound i (number_of numbers) items → AreNamed unbound (i + 1) (number_of after) more
  counted_step numbers after items more None is counted n = unnamed_step (number_of numbers) (number_of after) items more is counted.0 counted.1 n
  counted_step numbers after items more (Some x) is counted n =
      named_step x (number_of numbers) (number_of after) items more (is_some (number_of numbers x)) is refl counted.listed counted.numbered n

pub named_more : (unbound : List (Option (Bor (List ℕ)))) (i : ℕ) (u : Option (Bor (List ℕ))) (numbers after : BTreeMap (Bor (List ℕ)) ℕ) (items more : List Unresolved) → i < length unbound → u ≡ get_or unbound i u
    → IsCounted (name_told u) numbers items after more → AreNamed unbound i (number_of numbers) items → AreNamed unbound (i + 1) (number_of after) more
named_more unbound i u numbers after items more within at counted n = counted_step unbound i u within at numbers after items more (name_told u) refl counted n

pub named_none : (unbound : List (Option (Bor (List ℕ)))) (numbers : List ℕ → Option ℕ) → ((q : List ℕ) → numbers q ≡ None) → AreNamed unbound 0 numbers []
named_none unbound numbers none = record { names = []; seen = []; listed = refl; known = λ q. ap is_some (none q); numbered = none; whole = refl; few = omega arith }

pub number_none : (m : BTreeMap (Bor (List ℕ)) ℕ) → IsEmpty m → (q : List ℕ) → number_of m q ≡ None
number_none m empty q = ap (lookup (is_at (λ k. slice_cmp nat_cmp q k.now))) empty

pub names_are : (unbound : List (Option (Bor (List ℕ)))) (i : ℕ) (numbers : List ℕ → Option ℕ) (items : List Unresolved) → length unbound ≤ i → (n : AreNamed unbound i numbers items) → n.names ≡ names_behind [] (map name_told unbound)
names_are unbound i numbers items past n = sym (append-nil n.names) ∙ ap (λ us. n.names ++ names_behind n.seen (map name_told us)) (sym (drop_of_length-le unbound past)) ∙ n.whole

-- ---- one reference after another

pub unused : (next : ℕ) (names : List (List ℕ)) → map blank_name names ≡ unresolved_from [] next names
unused next [] = refl
unused next (x ∷ xs) = ap (λ us. blank_name x ∷ us) (unused (suc next) xs)

used_once : (one : Bool) (x : List ℕ) (rs more : List ℕ) (m : ℕ) → more ≡ (if one then rs ++ m ∷ [] else rs)
    → let with_all : List ℕ → Unresolved = λ es. record { name = x; references = es } in (if one then with_use m (with_all rs) else with_all rs) ≡ with_all more
used_once true x rs more m is = ap (λ es. record { name = x; references = es }) (sym is)
used_once false x rs more m is = ap (λ es. record { name = x; references = es }) (sym is)

used_more : (uses : List (Option ℕ)) (u : Option ℕ) (m next : ℕ) (names : List (List ℕ)) → m ≡ length uses
    → at_number (with_use m) u next (unresolved_from uses next names) ≡ unresolved_from (uses ++ u ∷ []) next names
used_more uses u m next [] is = refl
used_more uses u m next (x ∷ xs) is =
    both (used_once (is_number next u) x (references_to next 0 uses) (references_to next 0 (uses ++ u ∷ [])) m (references_push next 0 m uses u (omega arith))) (used_more uses u m (suc next) xs is)

pub unresolved_more : (number : List ℕ → Option ℕ) (all : List (List ℕ)) (unbound : List (Option (Bor (List ℕ)))) (i : ℕ) (u : Option (Bor (List ℕ))) (used : Option ℕ) (before after : List Unresolved)
    → i < length unbound → u ≡ get_or unbound i u → used ≡ option_and_then number (name_told u) → after ≡ at_number (with_use i) used 0 before
    → before ≡ unresolved_from (map (λ v. option_and_then number v) (map name_told (take i unbound))) 0 all
    → after ≡ unresolved_from (map (λ v. option_and_then number v) (map name_told (take (i + 1) unbound))) 0 all
unresolved_more number all unbound i u used before after within at is now so_far =
    let uses = map (λ v. option_and_then number v) (map name_told (take i unbound)) in
    now ∙ ap (λ v. at_number (with_use i) v 0 before) is ∙ ap (at_number (with_use i) (option_and_then number (name_told u)) 0) so_far
    ∙ used_more uses (option_and_then number (name_told u)) i 0 all (length_front name_told unbound i within ∙ sym (length-map (map name_told (take i unbound)) (λ v. option_and_then number v)))
    ∙ ap (λ us. unresolved_from us 0 all)
    (sym (ap (λ us. map (λ v. option_and_then number v) (map name_told us)) (take_next unbound i u within at) ∙ ap (map (λ v. option_and_then number v)) (map-append name_told (take i unbound) (u ∷ []))
    ∙ map-append (λ v. option_and_then number v) (map name_told (take i unbound)) (name_told u ∷ [])))

pub unresolved_all : (number : List ℕ → Option ℕ) (unbound : List (Option (Bor (List ℕ)))) (i : ℕ) (items : List Unresolved) → length unbound ≤ i
    → ((q : List ℕ) → number q ≡ name_number 0 (names_behind [] (map name_told unbound)) q)
    → items ≡ unresolved_from (map (λ v. option_and_then number v) (map name_told (take i unbound))) 0 (names_behind [] (map name_told unbound))
    → items ≡ unresolved_among (map name_told unbound)
unresolved_all number unbound i items past same so_far =
    let all = names_behind [] (map name_told unbound) in
    so_far ∙ ap (λ xs. unresolved_from (map (λ v. option_and_then number v) (map name_told xs)) 0 all) (take_all i unbound past)
    ∙ (λ k. unresolved_from (map (λ v. option_and_then (λ q. same q k) v) (map name_told unbound)) 0 all)
