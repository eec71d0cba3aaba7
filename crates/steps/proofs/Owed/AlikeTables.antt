-- The table of scopes, symbols and references stays exact where a program's own list has the same references, scopes and declarations.
use Rattle.std.proofs.Common.{◌≡◌, ◌∙◌, inl, inr, ℕ, List, [], ◌∷◌, ◌++◌, Bool, true, false, true≢false, arith, refl, sym, ap, subst}
use Rattle.std.specs.Prelude.{cond}
use Rattle.std.specs.List.{AllByRecursion}
use mathlib.Core.Path.{fun_ext}
use Rattle.js_syntax.specs.declared.node_kind.NodeKind.TheVariants.{Program as program, Statements as statements}
use Rattle.js_syntax.specs.declared.scalar.SourceType.{SourceType}
use Rattle.js_syntax.specs.Node.{Forest, Note, nothing, node}
use Rattle.scope_rules.specs.Table.{Scoping}
use Rattle.scope_laws.specs.Exact.{Among}
use Rattle.scope_counts.specs.Counts.{Decl, Bound, Weight, everywhere, hoisted, declared_by_program, free, within, refs, bound_to, uses, tally, by_id}
use Rattle.scope_counts.specs.Losing.{find, referring, declaring, OneEach}
use Rattle.scope_counts.specs.Scopes.{Parts, program_parts, over, EachScope, has, holds, is_symbol, Agree, IsSymbolOf, IsEntryOf, ExactButMarks, unmarked}
use Rattle.scope_counts.proofs.Again.{again_loses}
use Rattle.scope_counts.proofs.Losing.{found, within_found}
use Rattle.scope_counts.proofs.Tables.{referring_each, each_referring}
use Rattle.scope_counts.proofs.Whole.{exact_is}
use Rattle.steps.specs.Owed.Kept.{IsKept}
use Rattle.steps.proofs.Owed.Declaring.{declaring_each, each_declaring}
use Rattle.steps.proofs.Owed.Shuffled.{Shuffled, as_before, further_on, two_change, one_by_one, before_all, back}

-- ---- lists in another order

abbrev pub Any : {X : Type 0} → X → Type 0
Any x = Unit {0}

pub all_any : {X : Type 0} (xs : List X) → AllByRecursion Any xs
all_any [] = tt
all_any (x ∷ xs) = (tt, all_any xs)

pub among_shuffled : {X : Type 0} {P : X → Type 0} {xs ys : List X} (x : X) → Shuffled P xs ys → Among x xs → Among x ys
among_shuffled x as_before h = h
among_shuffled x (further_on s) (inl h) = inl h
among_shuffled x (further_on s) (inr h) = inr (among_shuffled x s h)
among_shuffled x (two_change p) (inl h) = inr (inl h)
among_shuffled x (two_change p) (inr (inl h)) = inl h
among_shuffled x (two_change p) (inr (inr h)) = inr (inr h)
among_shuffled x (one_by_one s q) h = among_shuffled x q (among_shuffled x s h)

either_first : (b c : Bool) (m : ℕ) → cond b 1 (cond c 1 m) ≡ cond c 1 (cond b 1 m)
either_first true true m = refl
either_first true false m = refl
either_first false c m = refl

has_shuffled : {P : Decl → Type 0} {ds es : List Decl} (symbol : ℕ) → Shuffled P ds es → has symbol ds ≡ has symbol es
has_shuffled symbol as_before = refl
has_shuffled symbol (further_on {x = d} s) = ap (λ m. cond (is_symbol symbol d.symbol) 1 m) (has_shuffled symbol s)
has_shuffled symbol (two_change {x = d} {y = e} {xs = ds} p) = either_first (is_symbol symbol d.symbol) (is_symbol symbol e.symbol) (has symbol ds)
has_shuffled symbol (one_by_one s q) = has_shuffled symbol s ∙ has_shuffled symbol q

-- where each name has one symbol, the first one found is the same
find_shuffled : {P : Decl → Type 0} {ds es : List Decl} → Shuffled P ds es → OneEach ds → (x : List ℕ) → find x ds ≡ find x es
find_shuffled {ds = ds} {es = es} s one x = elim ((again_loses (λ z. false) ds es one (record {
  among = λ d h. among_shuffled d (back _ s) h;
  gone_or_again = λ d h. inr (record { decl = d; stands = among_shuffled d s h; same_name = refl });
})).found x) [
  | inl e ↦ e
  | inr g ↦ absurd (true≢false (sym g.is))
]

-- ---- rows that are alike

-- what a row declares in the program's scope
abbrev pub in_program : Forest → List Decl
in_program t = hoisted (λ i. everywhere) 0 t

-- of what a table tells the second has what the first has, though its declarations may come in another order
pub record IsAlike (r s : Forest) : Type 0 where
  pub tally_same : (w : Weight) → tally w s ≡ tally w r
  pub refs_same : (g : Bound) (w : Weight) → refs g (λ i. w) 0 s ≡ refs g (λ i. w) 0 r
  pub over_same : (f : Parts → ℕ) → over f s ≡ over f r
  pub scopes : EachScope Agree r → EachScope Agree s
  pub refers : referring s ≡ referring r
  pub declares : Shuffled Any (declaring s) (declaring r)
  pub hoists : Shuffled Any (in_program s) (in_program r)

-- ---- the table

module _ (source : SourceType) (n m : Note) (r s : Forest) (h : IsAlike r s) where
  abbrev of_row : Forest → Forest
  of_row t = node (program source) n (node statements m t nothing) nothing

  abbrev of_program : Forest → List Decl
  of_program t = declared_by_program (node statements m t nothing) nothing

  shuffled : Shuffled Any (of_program r) (of_program s)
  shuffled = before_all Any [] (before_all Any [] (back Any h.hoists))

  module _ (one : OneEach (of_program r)) where
    same_weight : (g : Bound) → within g (of_program s) free ≡ within g (of_program r) free
    same_weight g = fun_ext (λ x. fun_ext (λ q. within_found g (of_program s) free x q ∙ ap (λ o. found g o 0 q) (sym (find_shuffled shuffled one x)) ∙ sym (within_found g (of_program r) free x q)))

    same_uses : (symbol id : ℕ) → uses symbol id (of_row s) ≡ uses symbol id (of_row r)
    same_uses symbol id =
        let g = bound_to symbol id in
        Prim.omega (arith, ap (λ w. refs g (λ i. w) 0 s) (same_weight g), h.refs_same g (within g (of_program r) free))

  alike_stays : (table : Scoping) (marked : ℕ → Bool) → ExactButMarks table marked (of_row r) → ExactButMarks table marked (of_row s)
  alike_stays table marked x =
      let one : OneEach (of_program r) = x.agree.0 false in
      let same = same_uses one in
      record {
        once = λ id. Prim.omega (arith, x.once id, h.tally_same (by_id id));
        entered = each_referring (IsEntryOf table (of_row s)) (of_row s) (λ d k.
            let e = referring_each (IsEntryOf table (of_row r)) (of_row r) x.entered d (subst (λ l. Among d ((l ++ []) ++ [])) h.refers k) in
            record {
              id = e.id;
              entry = e.entry;
              has_id = e.has_id;
              stands = e.stands;
              counts = λ symbol. (λ j. same symbol e.id ∙ (e.counts symbol).0 j, λ j. (e.counts symbol).1 (sym (same symbol e.id) ∙ j));
            });
        declared = each_declaring (IsSymbolOf table) (of_row s) (λ d k.
            declaring_each (IsSymbolOf table) (of_row r) x.declared d (among_shuffled d (before_all Any [] (before_all Any [] h.declares)) k));
        agree = (agreed x.agree.0, (λ o. absurd (true≢false (sym o)), h.scopes x.agree.1.1, tt), tt);
        apart = λ symbol. Prim.omega (arith, x.apart symbol, has_shuffled symbol shuffled, h.over_same (holds symbol));
        lists = λ symbol id. same symbol id ∙ x.lists symbol id;
      }
    where
      agreed : Agree (program_parts (node statements m r nothing) nothing) → Agree (program_parts (node statements m s nothing) nothing)
      agreed a true d e i j names = absurd i
      agreed a false d e i j names = a false d e (among_shuffled d (back Any shuffled) i) (among_shuffled e (back Any shuffled) j) names

  pub alike_kept : (table : Scoping) → IsKept table (of_row r) → IsKept table (of_row s)
  alike_kept table kept = record {
    table = kept.table;
    shortens = kept.shortens;
    exact = (exact_is source n (node statements m s nothing) nothing kept.table).1 (alike_stays kept.table unmarked ((exact_is source n (node statements m r nothing) nothing kept.table).0 kept.exact));
  }
