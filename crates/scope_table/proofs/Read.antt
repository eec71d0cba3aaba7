-- What is read of a scoping.
use Rattle.std.proofs.Common.{◌≡◌, ◌∙◌, ◌<◌, ◌≤◌, ◌+◌, ◌++◌, ℕ, zero, suc, List, [], ◌∷◌, true, false, Option, Some, None, String, option_map, cond, if◌then◌else◌, map, length, get_or, drop, append_assoc, append-nil, arith, refl, sym, ap}
use Rattle.std.specs.Global.{Global}
use Rattle.std.specs.List.{filter_map, cons_option}
use Rattle.std.specs.Map.{lookup}
use Rattle.std.specs.Option.{option_to_list}
use Rattle.js_tree.proofs.Rows.{front_of}
use Rattle.js_syntax.specs.declared.scalar.ReferenceId.{ReferenceId}
use Rattle.std.specs.Str.{bytes_eq}
use Rattle.std.specs.String.{string_bytes}
use Rattle.js_syntax.specs.declared.scalar.SymbolId.{SymbolId}
use Rattle.scope_rules.specs.Table.{Scoping}
use Rattle.scope_table.specs.Named.{named}
use Rattle.scope_table.specs.Reading.{scope_at, symbol_named, scopes_up, first_of, binding_among}

pub named_lookup : (x : List ℕ) (es : List (String Global × SymbolId)) → option_map (λ s. s.0) (lookup (λ k. bytes_eq x (string_bytes k)) es) ≡ symbol_named x (map named es)
named_lookup x [] = refl
named_lookup x (e ∷ es) =
    elim (bytes_eq x (string_bytes e.0)) as
    (λ b. option_map (λ s. s.0) (cond b (Some e.1) (lookup (λ k. bytes_eq x (string_bytes k)) es)) ≡ (if b then Some e.1.0 else symbol_named x (map named es)))
    [ true ↦ refl | false ↦ named_lookup x es ]

none_up : (most : ℕ) (s : Scoping) → scopes_up most s None ≡ []
none_up zero s = refl
none_up (suc most) s = refl

cons_is_append : {X : Type 0} (x : Option X) (xs : List X) → cons_option x xs ≡ option_to_list x ++ xs
cons_is_append None xs = refl
cons_is_append (Some x) xs = refl

pub found_more : {X : Type 0} (found : ℕ → Option X) (ids : List ReferenceId) (i : ℕ) (id : ReferenceId) (old new whole : List X) → i < length ids → id ≡ get_or ids i id
    → new ≡ old ++ option_to_list (found id.0) → old ++ filter_map found (map (λ r. r.0) (drop i ids)) ≡ whole → new ++ filter_map found (map (λ r. r.0) (drop (i + 1) ids)) ≡ whole
found_more found ids i id old new whole within at now so_far =
    let rest = filter_map found (map (λ r. r.0) (drop (i + 1) ids)) in
    ap (λ xs. xs ++ rest) now ∙ append_assoc old (option_to_list (found id.0)) rest ∙ ap (λ xs. old ++ xs) (sym (cons_is_append (found id.0) rest))
    ∙ sym (ap (λ xs. old ++ filter_map found (map (λ r. r.0) xs)) (front_of ids i id within at)) ∙ so_far

-- ---- from a scope up, after i of at most n scopes

pub record AreLeft (s : Scoping) (i n : ℕ) (next : Option ℕ) (found whole : List ℕ) : Type 0 where
  pub left : ℕ
  pub count : left + i ≡ n
  pub parts : found ++ scopes_up left s next ≡ whole

up_by : (s : Scoping) (left i n : ℕ) (next parent : Option ℕ) (at : ℕ) (old new whole : List ℕ) → left + i ≡ n → i < n → next ≡ Some at → parent ≡ (scope_at s at).parent
    → new ≡ old ++ at ∷ [] → old ++ scopes_up left s next ≡ whole → AreLeft s (i + 1) n parent new whole
up_by s zero i n next parent at old new whole count within is up now parts = absurd (omega arith)
up_by s (suc left) i n next parent at old new whole count within is up now parts = record {
  left = left;
  count = omega arith;
  parts = ap (λ xs. xs ++ scopes_up left s parent) now ∙ append_assoc old (at ∷ []) (scopes_up left s parent) ∙ ap (λ p. old ++ at ∷ scopes_up left s p) up
      ∙ sym (ap (λ m. old ++ scopes_up (suc left) s m) is) ∙ parts;
}

pub up_more : (s : Scoping) (i n : ℕ) (next parent : Option ℕ) (at : ℕ) (old new whole : List ℕ) → i < n → next ≡ Some at → parent ≡ (scope_at s at).parent → new ≡ old ++ at ∷ []
    → AreLeft s i n next old whole → AreLeft s (i + 1) n parent new whole
up_more s i n next parent at old new whole within is up now r = up_by s r.left i n next parent at old new whole r.count within is up now r.parts

pub up_none : (s : Scoping) (i n : ℕ) (next : Option ℕ) (found whole : List ℕ) → next ≡ None → AreLeft s i n next found whole → found ≡ whole
up_none s i n next found whole is r = sym (ap (λ m. found ++ scopes_up r.left s m) is ∙ ap (λ xs. found ++ xs) (none_up r.left s) ∙ append-nil found) ∙ r.parts

end_by : (s : Scoping) (left i n : ℕ) (next : Option ℕ) (found whole : List ℕ) → left + i ≡ n → n ≤ i → found ++ scopes_up left s next ≡ whole → found ≡ whole
end_by s zero i n next found whole count past parts = sym (append-nil found) ∙ parts
end_by s (suc left) i n next found whole count past parts = absurd (omega arith)

pub up_end : (s : Scoping) (i n : ℕ) (next : Option ℕ) (found whole : List ℕ) → n ≤ i → AreLeft s i n next found whole → found ≡ whole
up_end s i n next found whole past r = end_by s r.left i n next found whole r.count past r.parts

pub record IsSought (s : Scoping) (x : List ℕ) (i n : ℕ) (next whole : Option ℕ) : Type 0 where
  pub left : ℕ
  pub count : left + i ≡ n
  pub parts : binding_among s x (scopes_up left s next) ≡ whole

sought_by : (s : Scoping) (x : List ℕ) (left i n : ℕ) (next parent : Option ℕ) (at : ℕ) (whole : Option ℕ) → left + i ≡ n → i < n → next ≡ Some at → parent ≡ (scope_at s at).parent
    → symbol_named x (scope_at s at).bindings ≡ None → binding_among s x (scopes_up left s next) ≡ whole → IsSought s x (i + 1) n parent whole
sought_by s x zero i n next parent at whole count within is up none parts = absurd (omega arith)
sought_by s x (suc left) i n next parent at whole count within is up none parts = record {
  left = left;
  count = omega arith;
  parts = ap (λ p. binding_among s x (scopes_up left s p)) up ∙ sym (ap (λ m. first_of m (binding_among s x (scopes_up left s (scope_at s at).parent))) none)
      ∙ sym (ap (λ m. binding_among s x (scopes_up (suc left) s m)) is) ∙ parts;
}

pub sought_more : (s : Scoping) (x : List ℕ) (i n : ℕ) (next parent : Option ℕ) (at : ℕ) (whole : Option ℕ) → i < n → next ≡ Some at → parent ≡ (scope_at s at).parent
    → symbol_named x (scope_at s at).bindings ≡ None → IsSought s x i n next whole → IsSought s x (i + 1) n parent whole
sought_more s x i n next parent at whole within is up none r = sought_by s x r.left i n next parent at whole r.count within is up none r.parts

here_by : (s : Scoping) (x : List ℕ) (left i n : ℕ) (next : Option ℕ) (at : ℕ) (symbol : ℕ) (whole : Option ℕ) → left + i ≡ n → i < n → next ≡ Some at
    → symbol_named x (scope_at s at).bindings ≡ Some symbol → binding_among s x (scopes_up left s next) ≡ whole → Some symbol ≡ whole
here_by s x zero i n next at symbol whole count within is here parts = absurd (omega arith)
here_by s x (suc left) i n next at symbol whole count within is here parts =
    sym (ap (λ m. first_of m (binding_among s x (scopes_up left s (scope_at s at).parent))) here) ∙ sym (ap (λ m. binding_among s x (scopes_up (suc left) s m)) is) ∙ parts

pub sought_here : (s : Scoping) (x : List ℕ) (i n : ℕ) (next : Option ℕ) (at : ℕ) (symbol : ℕ) (whole : Option ℕ) → i < n → next ≡ Some at
    → symbol_named x (scope_at s at).bindings ≡ Some symbol → IsSought s x i n next whole → Some symbol ≡ whole
sought_here s x i n next at symbol whole within is here r = here_by s x r.left i n next at symbol whole r.count within is here r.parts

pub sought_none : (s : Scoping) (x : List ℕ) (i n : ℕ) (next whole : Option ℕ) → next ≡ None → IsSought s x i n next whole → None ≡ whole
sought_none s x i n next whole is r = sym (ap (λ m. binding_among s x (scopes_up r.left s m)) is ∙ ap (binding_among s x) (none_up r.left s)) ∙ r.parts

sought_end_by : (s : Scoping) (x : List ℕ) (left i n : ℕ) (next whole : Option ℕ) → left + i ≡ n → n ≤ i → binding_among s x (scopes_up left s next) ≡ whole → None ≡ whole
sought_end_by s x zero i n next whole count past parts = parts
sought_end_by s x (suc left) i n next whole count past parts = absurd (omega arith)

pub sought_end : (s : Scoping) (x : List ℕ) (i n : ℕ) (next whole : Option ℕ) → n ≤ i → IsSought s x i n next whole → None ≡ whole
sought_end s x i n next whole past r = sought_end_by s x r.left i n next whole r.count past r.parts
