-- A place in a program, with what holds of it, and that a step there is a step of the program.
use Rattle.std.proofs.Common.{◌≡◌, ◌⊎◌, inl, inr, ℕ, suc, ◌+◌, Bool, true, false, ◌||◌, if◌then◌else◌, Option, Some, refl, sym, subst, true≢false}
use Rattle.std.proofs.lemmas.Bool.{or_cases}
use Rattle.js_syntax.specs.declared.node_kind.NodeKind.{NodeKind as Kind}
use Rattle.js_syntax.specs.declared.scalar.SourceType.{SourceType}
use Rattle.js_syntax.specs.Node.{Forest, Tree, nothing, node, absent, Note}
use Rattle.js_syntax.specs.declared.kind.VariableKind.{VariableKind}
use Rattle.min_pass.specs.declared.around.Around.{Around as Asked}
use Rattle.min_pass.specs.declared.around.Row.{Row as AskedRow}
use Rattle.min_pass.specs.declared.around.Row.TheVariants as asked
use Rattle.min_pass.specs.Around.{row_below as asked_row_below, is_with, entered as asked_below, outermost as asked_of_program}
use Rattle.steps.specs.Steps as steps
use Rattle.steps.specs.Steps.{Row, items, of_item, declarators, other, is_single, row_below, Around, entered, outermost, Goes, Step, inside, behind_node, behind_absent}
use Rattle.scope_rules.specs.Context.{Context, inside as inside_context, outermost as outermost_context}
use Rattle.scope_rules.specs.Site.{opens_one, scope_count}
use Rattle.scope_laws.specs.Place.{Around as Place, first, behind, behind_none, under, placed, plug}
use Rattle.scope_laws.specs.Lists.{without}
use Rattle.steps.specs.Allowed.Silent.{HoldsThere}
use Rattle.steps.specs.Allowed.Places.{asked_at, has_node, has_other}
use Rattle.steps.specs.Naming.Placed.{is_well_placed}
use Rattle.steps.specs.Owed.Good.{Good}
use Rattle.steps.proofs.Owed.Here.{good_below, Here, here_program, here_below, here_behind, here_absent}
use Rattle.steps.proofs.Naming.Unused.{entered_row}

-- ---- the row of a step by the row that is asked

abbrev AsAsked : AskedRow → Row → (single : Bool) → Type 0
AsAsked asked.Items items single = Unit {0}
AsAsked asked.OfItem (of_item how) single = Unit {0}
AsAsked asked.Declarators (declarators how) single = Unit {0}
AsAsked asked.Declarators other true = Unit {0}
AsAsked asked.Other other single = Unit {0}
AsAsked p s single = ⊥

of_declarators : (how : VariableKind) (single : Bool) → AsAsked asked.Declarators (if single then other else declarators how) single
of_declarators how true = tt
of_declarators how false = tt

asked_below_too : (p : AskedRow) (s : Row) (single : Bool) (k : Kind) (a : Forest) → AsAsked p s single → AsAsked (asked_row_below p k) (row_below s k a) (is_single a)
asked_below_too asked.Items items single (Kind.VariableDeclaration how) a h = tt
asked_below_too asked.Items items single Kind.Statements a h = tt
asked_below_too asked.Items items single k a h = tt
asked_below_too asked.OfItem (of_item how) single Kind.Declarators a h = of_declarators how (is_single a)
asked_below_too asked.OfItem (of_item how) single Kind.Statements a h = tt
asked_below_too asked.OfItem (of_item how) single k a h = tt
asked_below_too asked.Declarators (declarators how) single Kind.Statements a h = tt
asked_below_too asked.Declarators (declarators how) single k a h = tt
asked_below_too asked.Declarators other true Kind.Statements a h = tt
asked_below_too asked.Declarators other true k a h = tt
asked_below_too asked.Other other single Kind.Statements a h = tt
asked_below_too asked.Other other single k a h = tt
asked_below_too p s single k a h = absurd h

items_as_asked : (p : AskedRow) (s : Row) (single : Bool) → AsAsked p s single → p ≡ asked.Items → s ≡ items
items_as_asked asked.Items items single h e = refl
items_as_asked asked.OfItem (of_item how) single h e = absurd cc
items_as_asked asked.Declarators (declarators how) single h e = absurd cc
items_as_asked asked.Declarators other true h e = absurd cc
items_as_asked asked.Other other single h e = absurd cc
items_as_asked p s single h e = absurd h

pub record OfDeclarators (row : Row) : Type 0 where
  pub how : VariableKind
  pub is : row ≡ declarators how

declarators_as_asked : (p : AskedRow) (s : Row) (single : Bool) → AsAsked p s single → single ≡ false → p ≡ asked.Declarators → OfDeclarators s
declarators_as_asked asked.Declarators (declarators how) single h f e = record { how = how; is = refl }
declarators_as_asked asked.Declarators other true h f e = absurd (true≢false f)
declarators_as_asked asked.Items items single h f e = absurd cc
declarators_as_asked asked.OfItem (of_item how) single h f e = absurd cc
declarators_as_asked asked.Other other single h f e = absurd cc
declarators_as_asked p s single h f e = absurd h

-- ---- rows of one node

two_are_not_single : (k : Kind) (n : Note) (b : Forest) (a : Place) (x : Tree) → is_single (node k n b (plug a (Some x))) ≡ false
two_are_not_single k n b (first rest) x = refl
two_are_not_single k n b (behind j m c a) x = refl
two_are_not_single k n b (behind_none a) x = refl
two_are_not_single k n b (under j m a rest) x = refl

with_others : (k : Kind) (n : Note) (b rest : Forest) → has_node rest ≡ true → is_single (node k n b rest) ≡ false
with_others k n b nothing e = absurd (true≢false (sym e))
with_others k n b (absent rest) e = refl
with_others k n b (node j m c rest) e = refl

-- ---- the place

pub record Focus (t : Forest) (w : Around) (a : Place) (x : Tree) (at_row : Asked) (before : Bool) (holds : Bool → Context → ℕ → Type 0) : Type 0 where
  pub around : Around
  pub contexts : ℕ → Context
  pub at : ℕ
  pub next : ℕ
  pub rest : Forest
  pub here : Here t around contexts at next (placed (Some x) rest)
  pub keeps : (y : Tree) → Step around (placed (Some x) rest) (placed (Some y) rest) → Step w (plug a (Some x)) (plug a (Some y))
  pub leaves : Goes around x.kind x.below → Step w (plug a (Some x)) (without a)
  pub in_with : Bool
  pub there : holds in_with (contexts at) next
  pub item : (asked_at at_row a).row ≡ asked.Items → around.row ≡ items
  pub declarator : (asked_at at_row a).row ≡ asked.Declarators → has_other before a ≡ true → OfDeclarators around.row

module _ (t : Forest) (x : Tree) (holds : Bool → Context → ℕ → Type 0) where
  pub focus : (a : Place) (w : Around) (cs : ℕ → Context) (at next : ℕ) (at_row : Asked) (before single in_with : Bool) → Here t w cs at next (plug a (Some x)) → AsAsked at_row.row w.row single
      → (before ≡ true → single ≡ false) → (is_single (plug a (Some x)) ≡ false → single ≡ false) → HoldsThere in_with cs at next a (Some x) holds → Focus t w a x at_row before holds
  focus (first rest) w cs at next at_row before single in_with h is b s there = record {
    around = w;
    contexts = cs;
    at = at;
    next = next;
    rest = rest;
    here = h;
    keeps = λ y step. step;
    leaves = λ goes. steps.leaves goes;
    in_with = in_with;
    there = there;
    item = items_as_asked at_row.row w.row single is;
    declarator = λ e o. declarators_as_asked at_row.row w.row single is (by (or_cases before (has_node rest) o)) e;
  }
    where
      by : (before ≡ true) ⊎ (has_node rest ≡ true) → single ≡ false
      by (inl e) = b e
      by (inr e) = s (with_others x.kind x.note x.below rest e)
  focus (behind k n below a) w cs at next at_row before single in_with h is b s there =
      let several = s (two_are_not_single k n below a x) in
      let f = focus a w cs (suc at) (next + scope_count (node k n below nothing)) at_row true single in_with (here_behind t w cs at next k n below (plug a (Some x)) h) is (λ e. several) (λ e. several) there in
      record {
        around = f.around;
        contexts = f.contexts;
        at = f.at;
        next = f.next;
        rest = f.rest;
        here = f.here;
        keeps = λ y step. behind_node (f.keeps y step);
        leaves = λ goes. behind_node (f.leaves goes);
        in_with = f.in_with;
        there = f.there;
        item = f.item;
        declarator = f.declarator;
      }
  focus (behind_none a) w cs at next at_row before single in_with h is b s there =
      let f = focus a w cs (suc at) next at_row before single in_with (here_absent t w cs at next (plug a (Some x)) h) is b (λ e. s refl) there in
      record {
        around = f.around;
        contexts = f.contexts;
        at = f.at;
        next = f.next;
        rest = f.rest;
        here = f.here;
        keeps = λ y step. behind_absent (f.keeps y step);
        leaves = λ goes. behind_absent (f.leaves goes);
        in_with = f.in_with;
        there = f.there;
        item = f.item;
        declarator = f.declarator;
      }
  focus (under k n a rest) w cs at next at_row before single in_with h is b s there =
      let inner = plug a (Some x) in
      let f = focus a (entered w k inner) (inside_context (cs at) next k inner) 0 (next + opens_one k inner) (asked_below at_row k) false (is_single inner) (in_with || is_with k)
      (here_below t w cs at next k n inner rest h)
      (subst (λ row. AsAsked (asked_row_below at_row.row k) row (is_single inner)) (sym (entered_row w k inner)) (asked_below_too at_row.row w.row single k inner is))
      (λ e. absurd (true≢false (sym e))) (λ e. e) there in
      record {
        around = f.around;
        contexts = f.contexts;
        at = f.at;
        next = f.next;
        rest = f.rest;
        here = f.here;
        keeps = λ y step. inside (f.keeps y step);
        leaves = λ goes. inside (f.leaves goes);
        in_with = f.in_with;
        there = f.there;
        item = f.item;
        declarator = f.declarator;
      }

-- ---- in a whole program

abbrev pub is_program : Kind → Bool
is_program (Kind.Program source) = true
is_program k = false

pub not_alone : (k : Kind) (n : Note) (b rest : Forest) → is_program k ≡ false → is_well_placed (node k n b rest) ≡ true → ⊥
not_alone (Kind.Program source) n b rest e w = true≢false e
not_alone k n b rest e w = true≢false (sym w)

pub nothing_behind : (k : Kind) (n : Note) (b r : Forest) → is_well_placed (node k n b r) ≡ true → r ≡ nothing
nothing_behind (Kind.Program source) n b nothing w = refl
nothing_behind (Kind.Program source) n b (absent r) w = absurd (true≢false (sym w))
nothing_behind (Kind.Program source) n b (node j m c r) w = absurd (true≢false (sym w))
nothing_behind k n b r w = absurd (true≢false (sym w))

pub something : (a : Place) (x : Tree) → plug a (Some x) ≡ nothing → ⊥
something (first rest) x e = absurd cc
something (behind k n b a) x e = absurd cc
something (behind_none a) x e = absurd cc
something (under k n a rest) x e = absurd cc

below_program : (x : Tree) (holds : Bool → Context → ℕ → Type 0) (source : SourceType) (n : Note) (a : Place) → is_well_placed (plug (under (Kind.Program source) n a nothing) (Some x)) ≡ true → Good (plug (under (Kind.Program source) n a nothing) (Some x))
    → HoldsThere false (λ at. outermost_context) 0 0 (under (Kind.Program source) n a nothing) (Some x) holds
    → Focus (plug (under (Kind.Program source) n a nothing) (Some x)) outermost (under (Kind.Program source) n a nothing) x (asked_of_program true) false holds
below_program x holds source n a w good there =
    let k = Kind.Program source in
    let inner = plug a (Some x) in
    let f = focus (node k n inner nothing) x holds a (entered outermost k inner) (inside_context outermost_context 0 k inner) 0 1 (asked_below (asked_of_program true) k) false (is_single inner) false
    (here_program source n inner w (good_below k n inner nothing good)) tt (λ e. absurd (true≢false (sym e))) (λ e. e) there in
    record {
      around = f.around;
      contexts = f.contexts;
      at = f.at;
      next = f.next;
      rest = f.rest;
      here = f.here;
      keeps = λ y step. inside (f.keeps y step);
      leaves = λ goes. inside (f.leaves goes);
      in_with = f.in_with;
      there = f.there;
      item = f.item;
      declarator = f.declarator;
    }

pub focused : (x : Tree) (holds : Bool → Context → ℕ → Type 0) (a : Place) → is_program x.kind ≡ false → is_well_placed (plug a (Some x)) ≡ true → Good (plug a (Some x)) → HoldsThere false (λ at. outermost_context) 0 0 a (Some x) holds
    → Focus (plug a (Some x)) outermost a x (asked_of_program true) false holds
focused x holds (first rest) e w good there = absurd (not_alone x.kind x.note x.below rest e w)
focused x holds (behind k n b a) e w good there = absurd (something a x (nothing_behind k n b (plug a (Some x)) w))
focused x holds (behind_none a) e w good there = absurd (true≢false (sym w))
focused x holds (under (Kind.Program source) n a nothing) e w good there = below_program x holds source n a w good there
focused x holds (under (Kind.Program source) n a (absent r)) e w good there = absurd (true≢false (sym w))
focused x holds (under (Kind.Program source) n a (node j m c r)) e w good there = absurd (true≢false (sym w))
focused x holds (under k n a rest) e w good there = absurd (true≢false (sym w))

-- ---- two things that hold at a place

pub both_there : (p q : Bool → Context → ℕ → Type 0) (x : Option Tree) (a : Place) (in_with : Bool) (cs : ℕ → Context) (at next : ℕ) → HoldsThere in_with cs at next a x p → HoldsThere in_with cs at next a x q
    → HoldsThere in_with cs at next a x (λ b c i. p b c i × q b c i)
both_there p q x (first rest) in_with cs at next h g = (h, g)
both_there p q x (behind k n below a) in_with cs at next h g = both_there p q x a in_with cs (suc at) (next + scope_count (node k n below nothing)) h g
both_there p q x (behind_none a) in_with cs at next h g = both_there p q x a in_with cs (suc at) next h g
both_there p q x (under k n a rest) in_with cs at next h g = both_there p q x a (in_with || is_with k) (inside_context (cs at) next k (plug a x)) 0 (next + opens_one k (plug a x)) h g

-- what follows at a place from what holds there
pub follows_there : (p q : Bool → Context → ℕ → Type 0) → ((b : Bool) (c : Context) (i : ℕ) → p b c i → q b c i) → (x : Option Tree) (a : Place) (in_with : Bool) (cs : ℕ → Context) (at next : ℕ) → HoldsThere in_with cs at next a x p
    → HoldsThere in_with cs at next a x q
follows_there p q f x (first rest) in_with cs at next h = f in_with (cs at) next h
follows_there p q f x (behind k n below a) in_with cs at next h = follows_there p q f x a in_with cs (suc at) (next + scope_count (node k n below nothing)) h
follows_there p q f x (behind_none a) in_with cs at next h = follows_there p q f x a in_with cs (suc at) next h
follows_there p q f x (under k n a rest) in_with cs at next h = follows_there p q f x a (in_with || is_with k) (inside_context (cs at) next k (plug a x)) 0 (next + opens_one k (plug a x)) h

-- what always holds
pub always : (x : Option Tree) (a : Place) (in_with : Bool) (cs : ℕ → Context) (at next : ℕ) → HoldsThere in_with cs at next a x (λ b c i. Unit {0})
always x (first rest) in_with cs at next = tt
always x (behind k n below a) in_with cs at next = always x a in_with cs (suc at) (next + scope_count (node k n below nothing))
always x (behind_none a) in_with cs at next = always x a in_with cs (suc at) next
always x (under k n a rest) in_with cs at next = always x a (in_with || is_with k) (inside_context (cs at) next k (plug a x)) 0 (next + opens_one k (plug a x))
