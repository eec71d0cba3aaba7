-- A place is one of scope_counts, in front of the rest of its row.
use Rattle.std.proofs.Common.{◌≡◌, ◌∙◌, Bool, true, false, true≢false, refl, sym, ap, subst}
use Rattle.js_syntax.specs.declared.node_kind.NodeKind.{NodeKind as Kind}
use Rattle.js_syntax.specs.declared.node_kind.NodeKind.TheVariants.{Program as program, PropertyDefinition as property_definition}
use Rattle.js_syntax.specs.Node.{Forest, Tree, Note, node, absent}
use Rattle.std.specs.Prelude.{Some}
use Rattle.scope_rules.specs.Context.{is_there, has_second, opens}
use Rattle.scope_laws.specs.Place.{Around, first, behind, behind_none, under, plug}
use Rattle.scope_laws.specs.Lists.{without, is_list, is_listed}
use Rattle.scope_counts.specs.Edits as counts
use Rattle.steps.specs.Owed.Kept.{is_program}

abbrev pub place_of : Around → counts.Around
place_of (first rest) = counts.here
place_of (behind k n below a) = counts.behind k n below (place_of a)
place_of (behind_none a) = counts.behind_none (place_of a)
place_of (under k n a rest) = counts.under k n (place_of a) rest

abbrev pub rest_of : Around → Forest
rest_of (first rest) = rest
rest_of (behind k n below a) = rest_of a
rest_of (behind_none a) = rest_of a
rest_of (under k n a rest) = rest_of a

pub placed_is : (a : Around) (x : Tree) → plug a (Some x) ≡ counts.plug (place_of a) (node x.kind x.note x.below (rest_of a))
placed_is (first rest) x = refl
placed_is (behind k n below a) x = ap (λ t. node k n below t) (placed_is a x)
placed_is (behind_none a) x = ap (λ t. absent t) (placed_is a x)
placed_is (under k n a rest) x = ap (λ t. node k n t rest) (placed_is a x)

pub without_is : (a : Around) → without a ≡ counts.plug (place_of a) (rest_of a)
without_is (first rest) = refl
without_is (behind k n below a) = ap (λ t. node k n below t) (without_is a)
without_is (behind_none a) = ap (λ t. absent t) (without_is a)
without_is (under k n a rest) = ap (λ t. node k n t rest) (without_is a)

pub listed_is : (row : Bool) (a : Around) → is_listed row a ≡ counts.in_list row (place_of a)
listed_is row (first rest) = refl
listed_is row (behind k n below a) = listed_is row a
listed_is row (behind_none a) = listed_is row a
listed_is row (under k n a rest) = listed_is (is_list k) a

-- ---- one node in the place of another

module _ (k l : Kind) (n m : Note) (b c rest : Forest) where
  both_there : (a : counts.Around) → is_there (counts.plug a (node k n b rest)) ≡ is_there (counts.plug a (node l m c rest))
  both_there counts.here = refl
  both_there (counts.behind j i t a) = refl
  both_there (counts.behind_none a) = refl
  both_there (counts.under j i a t) = refl

  second_there : (a : counts.Around) → has_second (counts.plug a (node k n b rest)) ≡ has_second (counts.plug a (node l m c rest))
  second_there counts.here = refl
  second_there (counts.behind j i t a) = both_there a
  second_there (counts.behind_none a) = both_there a
  second_there (counts.under j i a t) = refl

  same_opens : (j : Kind) (a : counts.Around) → opens j (counts.plug a (node k n b rest)) ≡ opens j (counts.plug a (node l m c rest))
  same_opens (property_definition is_static key) a = second_there a
  same_opens j a = refl

  pub same_scopes : (a : counts.Around) → counts.SameScopes a (node k n b rest) (node l m c rest)
  same_scopes counts.here = tt
  same_scopes (counts.behind j i t a) = same_scopes a
  same_scopes (counts.behind_none a) = same_scopes a
  same_scopes (counts.under j i a t) = (same_opens j a, same_scopes a)

-- ---- in a program

-- the place lies below a program, or beside it
pub record IsRooted (a : Around) : Type 0 where
  pub rooted : counts.Rooted
  pub inner : Around
  pub place_is : counts.place_in rooted ≡ place_of inner
  pub with_node : (x : Tree) → plug a (Some x) ≡ counts.program_with rooted (node x.kind x.note x.below (rest_of a))
  pub with_none : without a ≡ counts.program_with rooted (rest_of a)
  pub listed : is_listed false a ≡ counts.in_list false (counts.place_in rooted)

-- it is not the place of the tree itself
abbrev pub IsInside : Around → Type 0
IsInside a = (rest : Forest) → a ≡ first rest → ⊥

pub inside_program : (a : Around) (x : Tree) → is_program (plug a (Some x)) ≡ true → ((rest : Forest) → is_program (node x.kind x.note x.below rest) ≡ false) → IsInside a
inside_program a x e other rest is = true≢false (sym (subst (λ b. is_program (plug b (Some x)) ≡ true) is e) ∙ other rest)

pub inside_list : (a : Around) → is_listed false a ≡ true → IsInside a
inside_list a e rest is = true≢false (sym (subst (λ b. is_listed false b ≡ true) is e))

pub is_rooted : (a : Around) (x : Tree) → IsInside a → is_program (plug a (Some x)) ≡ true → IsRooted a
is_rooted (first rest) x inside e = absurd (inside rest refl)
is_rooted (behind (program source) n below a) x inside e = record {
  rooted = counts.beside_program source n below (place_of a);
  inner = a;
  place_is = refl;
  with_node = λ y. ap (λ t. node (program source) n below t) (placed_is a y);
  with_none = ap (λ t. node (program source) n below t) (without_is a);
  listed = listed_is false a;
}
is_rooted (behind k n below a) x inside e = absurd cc
is_rooted (behind_none a) x inside e = absurd (true≢false (sym e))
is_rooted (under (program source) n a rest) x inside e = record {
  rooted = counts.below_program source n (place_of a) rest;
  inner = a;
  place_is = refl;
  with_node = λ y. ap (λ t. node (program source) n t rest) (placed_is a y);
  with_none = ap (λ t. node (program source) n t rest) (without_is a);
  listed = listed_is false a;
}
is_rooted (under k n a rest) x inside e = absurd cc
