-- A set of the modules that are asked for, where one more statement asks.
use Rattle.std.proofs.Common.{◌≡◌, ◌∙◌, ℕ, List, [], ◌∷◌, ◌++◌, Bool, true, false, not, ◌&&◌, ◌||◌, cond, if◌then◌else◌, refl, sym, ap}
use Rattle.std.specs.Cmp.Lexicographic.{slice_cmp}
use Rattle.std.specs.Ordering.{nat_cmp}
use Rattle.std.specs.Str.{bytes_eq}
use Rattle.std.specs.BTreeSet as sorted
use Rattle.std.specs.BTreeSet.{BTreeSet, contains_by}
use Rattle.std.proofs.lemmas.Map.Text.{is_eq-slice_cmp}
use Rattle.std.proofs.lemmas.Slice.Eq.{bytes_eq-Decides}
use denote.Ref.{Bor}
use Rattle.js_syntax.specs.Node.{Tree, forest_of}
use Rattle.js_syntax.proofs.Truth.{second_of_both}
use Rattle.js_meaning.specs.Module.{requests_of}
use Rattle.steps.specs.Names.{is_among}
use Rattle.steps.proofs.Among.{among_joined}
use Rattle.rules.specs.Imports.Repeated.{repeats}
use Rattle.min_imports.specs.Items.{is_nameless, Answers}
use Rattle.min_imports.proofs.Asking.{repeats_asking}

-- ---- a set with one more

has_after : (name : Bor (List ℕ)) (m n : BTreeSet (Bor (List ℕ))) → sorted.Updates (λ x y. slice_cmp nat_cmp x.now y.now) m n name true
    → (q : List ℕ) → contains_by (λ k. slice_cmp nat_cmp q k.now) n ≡ if bytes_eq name.now q then true else contains_by (λ k. slice_cmp nat_cmp q k.now) m
has_after name m n updates q =
    updates.0 (record { ref_ptr = (0, 0); now = q }) ∙ ap (λ b. cond b true (contains_by (λ k. slice_cmp nat_cmp q k.now) m)) (is_eq-slice_cmp name.now q)

known_before : (asked : List (List ℕ)) (source q : List ℕ) (same : Bool) → bytes_eq source q ≡ same → is_among asked source ≡ true → (if same then true else is_among asked q) ≡ is_among asked q
known_before asked source q true is known = sym (ap (is_among asked) (sym ((bytes_eq-Decides source q).0 is)) ∙ known)
known_before asked source q false is known = refl

either_of : (same known : Bool) → (if same then true else known) ≡ known || (same || false)
either_of true true = refl
either_of true false = refl
either_of false true = refl
either_of false false = refl

one_more : (asked : List (List ℕ)) (source q : List ℕ) (goes nameless : Bool) → goes ≡ nameless && is_among asked source
    → (if bytes_eq source q then true else is_among asked q) ≡ is_among (if goes then asked else asked ++ source ∷ []) q
one_more asked source q true nameless is = known_before asked source q (bytes_eq source q) refl (second_of_both nameless (is_among asked source) (sym is))
one_more asked source q false nameless is = either_of (bytes_eq source q) (is_among asked q) ∙ sym (among_joined asked (source ∷ []) q)

-- ---- what is answered

stays_so : (known nameless : Bool) → not (nameless && known) ≡ not known || not nameless
stays_so true true = refl
stays_so true false = refl
stays_so false true = refl
stays_so false false = refl

module _ (x : Tree) (sources : BTreeSet (Bor (List ℕ))) where
  pub answers_asking : (source : Bor (List ℕ)) (behind : BTreeSet (Bor (List ℕ))) (new answer : Bool) → requests_of x.kind ≡ source.now ∷ []
      → new ≡ not (contains_by (λ k. slice_cmp nat_cmp source.now k.now) sources) → sorted.Updates (λ y z. slice_cmp nat_cmp y.now z.now) sources behind source true
      → answer ≡ new || not (is_nameless x.kind x.below) → Answers sources (forest_of x) answer behind
  answers_asking source behind new answer asks is updates said = λ asked tells.
      let goes = repeats_asking asked x.kind x.below source.now asks in
      let known = is_among asked source.now in (
        ap (λ b. b ∷ [])
            (ap not goes ∙ stays_so known (is_nameless x.kind x.below) ∙ sym (said ∙ ap (λ b. b || not (is_nameless x.kind x.below)) (is ∙ ap not (tells source.now)))),
        λ q.
            has_after source sources behind updates q
            ∙ ap (λ b. if bytes_eq source.now q then true else b) (tells q)
            ∙ one_more asked source.now q (repeats asked x.kind x.below) (is_nameless x.kind x.below) goes
            ∙ ap (λ l. is_among (if repeats asked x.kind x.below then asked else asked ++ l) q) (sym asks),
      )
