-- The rule is a list of the walker's edits.
use Rattle.std.proofs.Common.{◌≡◌, ◌∙◌, ◌+◌, ◌≤◌, ◌&&◌, ◌++◌, ℕ, List, [], ◌∷◌, Bool, true, false, true≢false, Some, None, cond, if◌then◌else◌, refl, sym, ap, subst, arith}
use Rattle.std.specs.Prelude.{slice_index_or}
use Rattle.std.proofs.lemmas.Bool.{and_parts}
use Rattle.std.proofs.lemmas.List.{reverse-append}
use Rattle.js_syntax.specs.declared.node_kind.NodeKind.{NodeKind as Kind}
use Rattle.js_syntax.specs.declared.node_kind.NodeKind.TheVariants.{EmptyStatement as empty_statement, FunctionBody as function_body}
use Rattle.js_syntax.specs.Facts.{weight}
use Rattle.js_syntax.specs.Node.{Forest, Note, Tree, nothing, node, absent, forest_of, total}
use Rattle.scope_counts.specs.Counts.{ids}
use Rattle.scope_counts.specs.Edits.{Around, here, behind, behind_none, under, plug}
use Rattle.min_context.specs.Above.{parent_of, above_of}
use Rattle.min_context.specs.Ancestry.{nearest}
use Rattle.min_context.specs.Place.{told_of, Spot, place_below, place_of, next_of, below, top, spot, Place, goes_on}
use Rattle.min_context.specs.Seen.{Seen}
use Rattle.min_context.specs.declared.ancestor.Ancestor.{Ancestor}
use Rattle.min_context.specs.declared.ancestor.Ancestor.TheVariants as ancestor
use Rattle.min_context.specs.declared.ancestor.Ancestor.TheVariants.{Field as field}
use Rattle.min_traverse.specs.Edits.{Edits, no_edit, one_edit}
use Rattle.min_traverse.specs.Lawful.{Lawful}
use Rattle.min_traverse.specs.Moves.{IsHere, before}
use Rattle.min_traverse.specs.Visits.{above_place}
use Rattle.rules.proofs.DeadCode.Places.{join, plug_join}
use Rattle.test_traverse.specs.Bodies.{has_empty, without_empty, is_list, is_body, row_of_body, list_of_body}
use Rattle.test_traverse.specs.Cleaning.{BodyEdit, an_empty_statement_leaves, is_body_above, is_cleaned, clean_of, cleaned}
use Rattle.test_traverse.proofs.Lists.{View, empty, another, view, ids_stay, lighter}

-- ---- what the context tells of a row

list_join : (body list : Bool) (a b : Around) → list_of_body body list (join a b) ≡ list_of_body (row_of_body body a) (list_of_body body list a) b
list_join body list here b = refl
list_join body list (behind k n c a) b = list_join body list a b
list_join body list (behind_none a) b = list_join body list a b
list_join body list (under k n a rest) b = list_join (is_body k) (body && is_list k) a b

nearest_last : (above : List Ancestor) (a : Ancestor) → nearest (above ++ (a ∷ [])) 0 ≡ a
nearest_last above a = ap (λ (up : List Ancestor). slice_index_or up 0 ancestor.None) (reverse-append above (a ∷ []))

body_field : (k : Kind) (at : ℕ) (previous more : Bool) → is_body_above (field (told_of (parent_of k) at previous more) at) ≡ is_body k
body_field function_body at previous more = refl
body_field k at previous more = refl

-- each place of a row has a function's body above it
abbrev pub TellsBody : Spot → Bool → Type 0
TellsBody s body = (at : ℕ) (previous more : Bool) → is_body_above (above_place (place_below s.outer s.above at previous more)) ≡ body

pub body_below : (p : Place) (k : Kind) (n : Note) → TellsBody (below p (above_of k n)) (is_body k)
body_below p k n at previous more = ap is_body_above (nearest_last p.ancestors (field (told_of (parent_of k) at previous more) at)) ∙ body_field k at previous more

body_at : (body : Bool) (s : Spot) (a : Around) (more : Bool) → TellsBody s body → is_body_above (above_place (place_of (spot s a) more)) ≡ row_of_body body a
body_at body s here more h = h s.at s.previous more
body_at body s (behind k n b a) more h = body_at body (next_of s true) a more h
body_at body s (behind_none a) more h = body_at body (next_of s false) a more h
body_at body s (under k n a rest) more h = body_at (is_body k) (below (place_of s (goes_on rest)) (above_of k n)) a more (body_below (place_of s (goes_on rest)) k n)

-- ---- the rule

-- from one place further on in a list
further : (a b : Around) (t u : Forest) → Edits BodyEdit (plug (join a b) t) (plug (join a b) u) → Edits BodyEdit (plug a (plug b t)) (plug a (plug b u))
further a b t u e = subst (λ v. Edits BodyEdit (plug a (plug b t)) v) (plug_join a b u) (subst (λ v. Edits BodyEdit v (plug (join a b) u)) (plug_join a b t) e)

node_cleaned : (a : Around) (k : Kind) (n : Note) (b rest : Forest) → View k b → list_of_body false false a ≡ true
    → Edits BodyEdit (plug a rest) (plug a (without_empty rest)) → Edits BodyEdit (plug a (node k n b rest)) (plug a (node k n b (without_empty rest)))
    → Edits BodyEdit (plug a (node k n b rest)) (plug a (without_empty (node k n b rest)))
node_cleaned a empty_statement n nothing rest empty e gone stays = one_edit (an_empty_statement_leaves a n rest e) gone
node_cleaned a k n b rest (another f) e gone stays = rw f stays

list_cleaned : (a : Around) (t : Forest) → list_of_body false false a ≡ true → Edits BodyEdit (plug a t) (plug a (without_empty t))
list_cleaned a nothing e = no_edit
list_cleaned a (absent rest) e =
    further a (behind_none here) rest (without_empty rest) (list_cleaned (join a (behind_none here)) rest (list_join false false a (behind_none here) ∙ e))
list_cleaned a (node k n b rest) e =
    node_cleaned a k n b rest (view k b) e (list_cleaned a rest e)
    (further a (behind k n b here) rest (without_empty rest) (list_cleaned (join a (behind k n b here)) rest (list_join false false a (behind k n b here) ∙ e)))

-- where the rule has an answer
pub record Answers (c : Seen) (x y : Tree) : Type 0 where
  pub body : is_body_above (above_place c.place) ≡ true
  pub list : is_list x.kind ≡ true
  pub some : has_empty x.below ≡ true
  pub is : clean_of x ≡ y

answer_of : (b : Bool) (z y : Tree) → (if b then Some z else None) ≡ Some y → (b ≡ true) × (z ≡ y)
answer_of true z y e = (refl, Prim.cc)
answer_of false z y e = absurd Prim.cc

pub answers : (c : Seen) (x y : Tree) → cleaned c x ≡ Some y → Answers c x y
answers c x y e =
    let h = answer_of (is_cleaned c x) (clean_of x) y e in
    let p = and_parts (is_body_above (above_place c.place)) (is_list x.kind && has_empty x.below) h.0 in
    let q = and_parts (is_list x.kind) (has_empty x.below) p.1 in
    record { body = p.0; list = q.0; some = q.1; is = h.1 }

tree_cleaned : (c : Seen) (a : Around) (x : Tree) (r : Forest) → IsHere c a r → is_body_above (above_place c.place) ≡ true → is_list x.kind ≡ true
    → Edits BodyEdit (plug a (before x r)) (plug a (before (clean_of x) r))
tree_cleaned c a x r at body list =
    let in_list = under x.kind x.note here r in
    let told : row_of_body false a ≡ true = sym (body_at false top a (goes_on r) (λ at previous more. refl)) ∙ ap (λ p. is_body_above (above_place p)) at ∙ body in
    further a in_list x.below (without_empty x.below)
    (list_cleaned (join a in_list) x.below (list_join false false a in_list ∙ ap (λ b. b && is_list x.kind) told ∙ list))

weighs : (b : Bool) (m n : ℕ) → b ≡ true → m + cond b 1 0 ≤ n → m + 1 ≤ n
weighs true m n e l = l
weighs false m n e l = absurd (true≢false (sym e))

pub lawful : Lawful (λ o. BodyEdit) cleaned
lawful = record {
  edits = λ c a x y r h at e.
      let g = answers c x y e in
      subst (λ z. Edits BodyEdit (plug a (before x r)) (plug a (before z r))) g.is (tree_cleaned c a x r at g.body g.list);
  thins = λ c x y e r.
      let g = answers c x y e in
      subst (λ z. ids r (forest_of z) ≤ ids r (forest_of x)) g.is (Prim.omega (arith, ids_stay r x.below));
  lighter = λ c x y e.
      let g = answers c x y e in
      let l = weighs (has_empty x.below) (total weight (without_empty x.below)) (total weight x.below) g.some (lighter x.below) in
      subst (λ z. total weight (forest_of z) + 1 ≤ total weight (forest_of x)) g.is (Prim.omega (arith, l));
}
