-- What an export lists, told by sets, and whether it lists the names of an import.
use Rattle.std.proofs.Common.{◌≡◌, ◌∙◌, ◌<◌, ◌≤◌, ◌==◌, ◌+◌, ℕ, List, [], ◌∷◌, Bool, true, false, not, ◌&&◌, ◌||◌, cond, Option, Some, None, if◌then◌else◌, length, drop, get_or, map, refl, sym, ap, arith}
use Rattle.std.specs.BTreeSet as sorted
use Rattle.std.specs.BTreeSet.{BTreeSet}
use Rattle.std.specs.Cmp.{unsigned_tied, nat_eq_equiv}
use Rattle.std.specs.Cmp.Lexicographic.{slice_cmp}
use Rattle.std.specs.List.{list_all, list_any}
use Rattle.std.specs.Ordering.{is_eq, nat_cmp}
use Rattle.std.specs.Str.{bytes_eq}
use Rattle.std.proofs.lemmas.List.{drop_more, drop_all}
use Rattle.std.proofs.lemmas.Map.Text.{is_eq-slice_cmp}
use Rattle.js_syntax.specs.declared.node_kind.NodeKind.{NodeKind as Kind}
use Rattle.js_syntax.specs.declared.node_kind.NodeKind.TheVariants.{BindingName as binding_name}
use Rattle.js_syntax.specs.Node.{Tree, Forest, Note, nothing, node, absent, row}
use Rattle.js_tree.proofs.Rows.{front_of}
use Rattle.js_tree.proofs.Search.{AsksEach}
use Rattle.steps.specs.Steps.{binds_import}
use Rattle.steps.specs.Allowed.MergedImports.{is_one_name, are_names}
use Rattle.steps.specs.Allowed.PassedExports.{lists, lists_each, may_pass}
use Rattle.steps.specs.Allowed.Places.{has_node}
use Rattle.rules.specs.DeadCode.Rules.{Facts}
use Rattle.rules.specs.Imports.Passed.{is_number, has_reference, is_passed_alone, are_passed_alone}
use Rattle.min_imports.specs.Passing.{listed_below, listed_text, reference_below, listed_reference, bound_below, symbol_below, has_text, has_number, Told, text_is_listed, name_passes, fails, is_text}
use denote.Ref.{Bor}

-- ---- one specifier of an export

pub lists_first : (k : Kind) (n : Note) (b r : Forest) (x : List ℕ) → lists (node k n b r) x ≡ is_text (listed_below b) x || lists r x
lists_first k n nothing r x = refl
lists_first k n (absent s) r x = refl
lists_first k n (node (Kind.ReferenceName y) m c d) r x = refl
lists_first k n (node l m c d) r x = refl

refers_first : (k : Kind) (n : Note) (b r : Forest) (id : ℕ) → has_reference (node k n b r) id ≡ is_number id (reference_below b) || has_reference r id
refers_first k n nothing r id = refl
refers_first k n (absent s) r id = refl
refers_first k n (node (Kind.ReferenceName y) m c d) r id = refl
refers_first k n (node l m c d) r id = refl

listed_one : (t : Option Tree) (x : List ℕ) → lists (row (t ∷ [])) x ≡ is_text (listed_text t) x || false
listed_one None x = refl
listed_one (Some t) x = lists_first t.kind t.note t.below nothing x

refers_one : (t : Option Tree) (id : ℕ) → has_reference (row (t ∷ [])) id ≡ is_number id (listed_reference t) || false
refers_one None id = refl
refers_one (Some t) id = refers_first t.kind t.note t.below nothing id

listed_each : (x : List ℕ) → AsksEach (λ t. lists t x)
listed_each x None ts = refl
listed_each x (Some t) ts = lists_first t.kind t.note t.below (row ts) x ∙ ap (λ b. b || lists (row ts) x) (or_none (is_text (listed_below t.below) x) ∙ sym (lists_first t.kind t.note t.below nothing x))
  where
    or_none : (b : Bool) → b ≡ b || false
    or_none true = refl
    or_none false = refl

refers_each : (id : ℕ) → AsksEach (λ t. has_reference t id)
refers_each id None ts = refl
refers_each id (Some t) ts = refers_first t.kind t.note t.below (row ts) id ∙ ap (λ b. b || has_reference (row ts) id) (or_none (is_number id (reference_below t.below)) ∙ sym (refers_first t.kind t.note t.below nothing id))
  where
    or_none : (b : Bool) → b ≡ b || false
    or_none true = refl
    or_none false = refl

-- ---- sets with one more

either_of : (a b : Bool) → (if a then true else b) ≡ (a || false) || b
either_of true b = refl
either_of false b = refl

module _ (t : Option Tree) where
  pub text_put : (text : Bor (List ℕ)) (m n : BTreeSet (Bor (List ℕ))) → Some text.now ≡ listed_text t → sorted.Updates (λ x y. slice_cmp nat_cmp x.now y.now) m n text true → (x : List ℕ) → has_text n x ≡ lists (row (t ∷ [])) x || has_text m x
  text_put text m n is updates x =
      updates.0 (record { ref_ptr = (0, 0); now = x }) ∙ ap (λ b. cond b true (has_text m x)) (is_eq-slice_cmp text.now x)
      ∙ either_of (bytes_eq text.now x) (has_text m x) ∙ ap (λ o. (is_text o x || false) || has_text m x) is ∙ ap (λ b. b || has_text m x) (sym (listed_one t x))

  pub no_text : (m : BTreeSet (Bor (List ℕ))) → None ≡ listed_text t → (x : List ℕ) → has_text m x ≡ lists (row (t ∷ [])) x || has_text m x
  no_text m is x = ap (λ o. (is_text o x || false) || has_text m x) is ∙ ap (λ b. b || has_text m x) (sym (listed_one t x))

  pub number_put : (id : ℕ) (m n : BTreeSet ℕ) → Some id ≡ listed_reference t → sorted.Updates nat_cmp m n id true → (i : ℕ) → has_number n i ≡ has_reference (row (t ∷ [])) i || has_number m i
  number_put id m n is updates i =
      updates.0 i ∙ ap (λ b. cond b true (has_number m i)) (unsigned_tied id i ∙ nat_eq_equiv.symm id i)
      ∙ either_of (i == id) (has_number m i) ∙ ap (λ o. (is_number i o || false) || has_number m i) is ∙ ap (λ b. b || has_number m i) (sym (refers_one t i))

  pub no_number : (m : BTreeSet ℕ) → None ≡ listed_reference t → (i : ℕ) → has_number m i ≡ has_reference (row (t ∷ [])) i || has_number m i
  no_number m is i = ap (λ o. (is_number i o || false) || has_number m i) is ∙ ap (λ b. b || has_number m i) (sym (refers_one t i))

-- ---- all of them

or_moves : (a b c : Bool) → (a || b) || c ≡ b || (a || c)
or_moves true true c = refl
or_moves true false c = refl
or_moves false b c = refl

-- what the sets have so far, and what is listed behind, is all that is listed
pub record So (texts : BTreeSet (Bor (List ℕ))) (references : BTreeSet ℕ) (rest whole : Forest) : Type 0 where
  pub has_texts : (x : List ℕ) → has_text texts x || lists rest x ≡ lists whole x
  pub has_references : (id : ℕ) → has_number references id || has_reference rest id ≡ has_reference whole id

none_there : (texts : BTreeSet (Bor (List ℕ))) (x : List ℕ) → texts.keys ≡ [] → has_text texts x ≡ false
none_there texts x is = ap (list_any (λ k. is_eq (slice_cmp nat_cmp x k.now))) is

none_numbered : (numbers : BTreeSet ℕ) (id : ℕ) → numbers.keys ≡ [] → has_number numbers id ≡ false
none_numbered numbers id is = ap (list_any (λ k. is_eq (nat_cmp id k))) is

pub so_begins : (texts : BTreeSet (Bor (List ℕ))) (references : BTreeSet ℕ) (t : Forest) → texts.keys ≡ [] → references.keys ≡ [] → So texts references t t
so_begins texts references t is be = record {
  has_texts = λ x. ap (λ b. b || lists t x) (none_there texts x is);
  has_references = λ id. ap (λ b. b || has_reference t id) (none_numbered references id be);
}

pub so_more : (ts : List (Option Tree)) (i : ℕ) (t : Option Tree) (texts more : BTreeSet (Bor (List ℕ))) (references others : BTreeSet ℕ) → i < length ts → t ≡ get_or ts i t
    → ((x : List ℕ) → has_text more x ≡ lists (row (t ∷ [])) x || has_text texts x) → ((id : ℕ) → has_number others id ≡ has_reference (row (t ∷ [])) id || has_number references id)
    → So texts references (row (drop i ts)) (row ts) → So more others (row (drop (i + 1) ts)) (row ts)
so_more ts i t texts more references others h is put given so =
    let rest = drop (i + 1) ts in
    record {
      has_texts = λ x.
          ap (λ b. b || lists (row rest) x) (put x)
          ∙ or_moves (lists (row (t ∷ [])) x) (has_text texts x) (lists (row rest) x)
          ∙ ap (λ b. has_text texts x || b) (sym (listed_each x t rest) ∙ ap (λ l. lists (row l) x) (sym (front_of ts i t h is)))
          ∙ so.has_texts x;
      has_references = λ id.
          ap (λ b. b || has_reference (row rest) id) (given id)
          ∙ or_moves (has_reference (row (t ∷ [])) id) (has_number references id) (has_reference (row rest) id)
          ∙ ap (λ b. has_number references id || b) (sym (refers_each id t rest) ∙ ap (λ l. has_reference (row l) id) (sym (front_of ts i t h is)))
          ∙ so.has_references id;
    }

pub so_ends : (ts : List (Option Tree)) (i : ℕ) (texts : BTreeSet (Bor (List ℕ))) (references : BTreeSet ℕ) → length ts ≤ i → So texts references (row (drop i ts)) (row ts) → Told texts references (row ts)
so_ends ts i texts references all so =
    let none = drop_all i ts all in
    record {
      has_texts = λ x. or_none (has_text texts x) ∙ ap (λ l. has_text texts x || lists (row l) x) (sym none) ∙ so.has_texts x;
      has_references = λ id. or_none (has_number references id) ∙ ap (λ l. has_number references id || has_reference (row l) id) (sym none) ∙ so.has_references id;
    }
  where
    or_none : (b : Bool) → b ≡ b || false
    or_none true = refl
    or_none false = refl

-- ---- references to a symbol

module _ {X : Type 0} (test : ℕ → Bool) (number : X → ℕ) where
  abbrev pub each : List X → Bool
  each xs = list_all test (map number xs)

  next : (xs : List X) (i : ℕ) (d : X) → i < length xs → each (drop i xs) ≡ test (number (get_or xs i d)) && each (drop (i + 1) xs)
  next xs i d h = ap each (drop_more xs i d h)

  pub one_fails : (xs : List X) (i : ℕ) (d : X) → i < length xs → test (number (get_or xs i d)) ≡ false → each xs ≡ each (drop i xs) → false ≡ each xs
  one_fails xs i d h other so = sym (so ∙ next xs i d h ∙ ap (λ b. b && each (drop (i + 1) xs)) other)

  pub one_more : (xs : List X) (i : ℕ) (d : X) → i < length xs → test (number (get_or xs i d)) ≡ true → each xs ≡ each (drop i xs) → each xs ≡ each (drop (i + 1) xs)
  one_more xs i d h does so = so ∙ next xs i d h ∙ ap (λ b. b && each (drop (i + 1) xs)) does

  pub all_so : (xs : List X) (i : ℕ) → length xs ≤ i → each xs ≡ each (drop i xs) → true ≡ each xs
  all_so xs i all so = sym (so ∙ ap each (drop_all i xs all))

-- ---- the names of an import

module _ (f : Facts) (listed : Forest) where
  fails_either : (a b c d e g : Bool) → not ((a && b) && ((c && d) && (e && g))) ≡ not ((a && true) && ((c && true) && (e && true))) || not (b && (d && g))
  fails_either false b c d e g = refl
  fails_either true true true d true g = refl
  fails_either true true true true false g = refl
  fails_either true true true false false g = refl
  fails_either true true false d e g = refl
  fails_either true false true d true g = refl
  fails_either true false true d false g = refl
  fails_either true false false d e g = refl

  no_name : (k : Kind) (n : Note) (b rest : Forest) → is_one_name b ≡ false → fails f listed (node k n b rest) ≡ true
  no_name k n b rest none = ap not (ap (λ c. (binds_import k && (c && are_names rest)) && (lists_each listed (node k n b rest) && are_passed_alone f listed (node k n b rest))) none ∙ by (binds_import k) (lists_each listed (node k n b rest) && are_passed_alone f listed (node k n b rest)))
    where
      by : (c d : Bool) → (c && false) && d ≡ false
      by true d = refl
      by false d = refl

  pub fails_each : AsksEach (fails f listed)
  fails_each None ts = refl
  fails_each (Some x) ts = by x.below
    where
      gone : (b : Forest) → is_one_name b ≡ false → fails f listed (node x.kind x.note b (row ts)) ≡ fails f listed (node x.kind x.note b nothing) || fails f listed (row ts)
      gone b none = no_name x.kind x.note b (row ts) none ∙ ap (λ c. c || fails f listed (row ts)) (sym (no_name x.kind x.note b nothing none))

      by : (b : Forest) → fails f listed (node x.kind x.note b (row ts)) ≡ fails f listed (node x.kind x.note b nothing) || fails f listed (row ts)
      by (node (Kind.BindingName y) m nothing nothing) = fails_either (binds_import x.kind) (are_names (row ts)) (lists listed y) (lists_each listed (row ts)) (is_passed_alone f listed m.id) (are_passed_alone f listed (row ts))
      by (node (Kind.BindingName y) m nothing (absent r)) = gone (node (binding_name y) m nothing (absent r)) refl
      by (node (Kind.BindingName y) m nothing (node l i c r)) = gone (node (binding_name y) m nothing (node l i c r)) refl
      by (node (Kind.BindingName y) m (absent s) r) = gone (node (binding_name y) m (absent s) r) refl
      by (node (Kind.BindingName y) m (node l i c d) r) = gone (node (binding_name y) m (node l i c d) r) refl
      by (node l m c r) = gone (node l m c r) refl
      by (absent r) = gone (absent r) refl
      by nothing = gone nothing refl

  -- as it is asked of one name
  pub one_passes : (t : Option Tree) (b : Bool) → b ≡ name_passes f listed t → fails f listed (row (t ∷ [])) ≡ not b
  one_passes None b is = ap not (sym is)
  one_passes (Some x) b is = ap not (by x.below ∙ sym is)
    where
      gone : (b : Forest) → is_one_name b ≡ false
          → are_names (node x.kind x.note b nothing) && (lists_each listed (node x.kind x.note b nothing) && are_passed_alone f listed (node x.kind x.note b nothing))
          ≡ are_names (node x.kind x.note b nothing) && (text_is_listed listed (bound_below b) && is_passed_alone f listed (symbol_below b))
      gone b none = neither (lists_each listed (node x.kind x.note b nothing) && are_passed_alone f listed (node x.kind x.note b nothing)) ∙ sym (neither (text_is_listed listed (bound_below b) && is_passed_alone f listed (symbol_below b)))
        where
          shut : (c d : Bool) → (c && (false && true)) && d ≡ false
          shut true d = refl
          shut false d = refl

          neither : (d : Bool) → are_names (node x.kind x.note b nothing) && d ≡ false
          neither d = ap (λ c. (binds_import x.kind && (c && true)) && d) none ∙ shut (binds_import x.kind) d

      ends : (a b c : Bool) → a && ((b && true) && (c && true)) ≡ a && (b && c)
      ends true true true = refl
      ends true true false = refl
      ends true false c = refl
      ends false b c = refl

      by : (b : Forest) → are_names (node x.kind x.note b nothing) && (lists_each listed (node x.kind x.note b nothing) && are_passed_alone f listed (node x.kind x.note b nothing)) ≡ name_passes f listed (Some (record { kind = x.kind; note = x.note; below = b }))
      by (node (Kind.BindingName y) m nothing nothing) = ends (binds_import x.kind && (true && true)) (lists listed y) (is_passed_alone f listed m.id)
      by (node (Kind.BindingName y) m nothing (absent r)) = gone (node (binding_name y) m nothing (absent r)) refl
      by (node (Kind.BindingName y) m nothing (node l i c r)) = gone (node (binding_name y) m nothing (node l i c r)) refl
      by (node (Kind.BindingName y) m (absent s) r) = gone (node (binding_name y) m (absent s) r) refl
      by (node (Kind.BindingName y) m (node l i c d) r) = gone (node (binding_name y) m (node l i c d) r) refl
      by (node l m c r) = gone (node l m c r) refl
      by (absent r) = gone (absent r) refl
      by nothing = gone nothing refl

  -- where there is one
  pub passes_so : (ts : List (Option Tree)) (b : Bool) → 1 ≤ length ts → b ≡ not (fails f listed (row ts)) → b ≡ may_pass (row ts) listed && are_passed_alone f listed (row ts)
  passes_so [] b h is = absurd (Prim.omega (arith, h))
  passes_so (None ∷ ts) b h is = is ∙ sym (shut (has_node (row ts)) (lists_each listed (row ts)) (are_passed_alone f listed (row ts)))
    where
      shut : (a b c : Bool) → (a && (false && b)) && c ≡ false
      shut true b c = refl
      shut false b c = refl
  passes_so (Some x ∷ ts) b h is = is ∙ by (are_names (row (Some x ∷ ts))) (lists_each listed (row (Some x ∷ ts))) (are_passed_alone f listed (row (Some x ∷ ts)))
    where
      by : (a b c : Bool) → not (not (a && (b && c))) ≡ (a && b) && c
      by true true true = refl
      by true true false = refl
      by true false c = refl
      by false b c = refl
