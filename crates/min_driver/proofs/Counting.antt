-- Rows of nodes, of which one more node is counted.
use Rattle.std.proofs.Common.{◌≡◌, ◌∙◌, ◌+◌, ◌-◌, ◌≤◌, ◌++◌, ℕ, List, [], ◌∷◌, Option, Some, None, map, length, take, drop, get_or, ap, ap₂, sym, arith}
use Rattle.std.proofs.lemmas.List.{take_all}
use Rattle.js_syntax.specs.Node.{Tree, row}
use Rattle.js_tree.specs.Count.{one_each, node_count}
use Rattle.min_driver.specs.Counting.{nodes_in, work_of, work_in}

module _ {X : Type 0} (nodes : X → List (Option Tree)) where
  pub nodes_more : (rows : List X) (x : X) → nodes_in (map nodes (rows ++ x ∷ [])) ≡ nodes_in (map nodes rows) + node_count (row (nodes x))
  nodes_more [] x = Prim.omega arith
  nodes_more (y ∷ rows) x = Prim.omega (arith, nodes_more rows x)

  pub work_more : (rows : List X) (x : X) → work_in (map nodes (rows ++ x ∷ [])) ≡ work_in (map nodes rows) + work_of (row (nodes x))
  work_more [] x = Prim.omega arith
  work_more (y ∷ rows) x = Prim.omega (arith, work_more rows x)

  -- with one row more
  pub nodes_pushed : (rows now : List X) (x : X) → now ≡ rows ++ x ∷ [] → nodes_in (map nodes now) ≡ nodes_in (map nodes rows) + node_count (row (nodes x))
  nodes_pushed rows now x is = ap (λ l. nodes_in (map nodes l)) is ∙ nodes_more rows x

  pub work_pushed : (rows now : List X) (x : X) → now ≡ rows ++ x ∷ [] → work_in (map nodes now) ≡ work_in (map nodes rows) + work_of (row (nodes x))
  work_pushed rows now x is = ap (λ l. work_in (map nodes l)) is ∙ work_more rows x

-- ---- the first of a row, and the others

abbrev pub others : List (Option Tree) → List (Option Tree)
others ts = take (length ts - 1) (drop 1 ts)

no_longer : (ts : List (Option Tree)) → length (drop 1 ts) ≤ length ts - 1
no_longer [] = Prim.omega arith
no_longer (t ∷ ts) = Prim.omega arith

all_others : (ts : List (Option Tree)) → others ts ≡ drop 1 ts
all_others ts = take_all (length ts - 1) (drop 1 ts) (no_longer ts)

first_of : (measure : List (Option Tree) → ℕ) (ts : List (Option Tree)) (x y : Option Tree) → 1 ≤ length ts → x ≡ get_or ts 0 x → x ≡ y → measure ts ≡ measure (y ∷ others ts)
first_of measure [] x y within at is = absurd (Prim.omega (arith, within))
first_of measure (z ∷ ts) x y within at is = ap₂ (λ a us. measure (a ∷ us)) (sym at ∙ is) (sym (all_others (z ∷ ts)))

pub none_counted : (ts : List (Option Tree)) (x : Option Tree) → 1 ≤ length ts → x ≡ get_or ts 0 x → x ≡ None → node_count (row ts) ≡ node_count (row (others ts))
none_counted ts x within at is = first_of (λ us. node_count (row us)) ts x None within at is

pub node_counted : (ts : List (Option Tree)) (x : Option Tree) (t : Tree) → 1 ≤ length ts → x ≡ get_or ts 0 x → x ≡ Some t → node_count (row ts) ≡ one_each t.kind + node_count t.below + node_count (row (others ts))
node_counted ts x t within at is = first_of (λ us. node_count (row us)) ts x (Some t) within at is

pub none_looked_at : (ts : List (Option Tree)) (x : Option Tree) → 1 ≤ length ts → x ≡ get_or ts 0 x → x ≡ None → work_of (row ts) ≡ 1 + work_of (row (others ts))
none_looked_at ts x within at is = Prim.omega (arith, first_of (λ us. work_of (row us)) ts x None within at is)

pub node_looked_at : (ts : List (Option Tree)) (x : Option Tree) (t : Tree) → 1 ≤ length ts → x ≡ get_or ts 0 x → x ≡ Some t → work_of (row ts) ≡ 1 + work_of t.below + work_of (row (others ts))
node_looked_at ts x t within at is = Prim.omega (arith, first_of (λ us. work_of (row us)) ts x (Some t) within at is)
