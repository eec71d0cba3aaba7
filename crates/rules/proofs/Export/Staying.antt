-- What an edit leaves declares in the program's own scope, below exports, what the tree did.
use Rattle.std.proofs.Common.{◌≡◌, ◌∙◌, ◌<◌, inl, inr, ℕ, suc, ◌+◌, List, [], ◌++◌, Bool, true, false, ◌||◌, true≢false, if◌then◌else◌, Option, Some, None, is_some, refl, sym, ap, ap₂, subst, arith}
use Rattle.js_syntax.specs.declared.node_kind.NodeKind.{NodeKind as Kind}
use Rattle.js_syntax.specs.declared.node_kind.NodeKind.TheVariants as kind
use Rattle.js_syntax.specs.declared.scalar.SourceType.{SourceType}
use Rattle.js_syntax.specs.Node.{Forest, Tree, Note, nothing, node, absent, forest_of}
use Rattle.min_pass.specs.Around.{is_with}
use Rattle.scope_rules.specs.declared.layer.Layer.{Layer}
use Rattle.scope_rules.specs.Context.{Context, has_second, is_there, opens, inside, outermost}
use Rattle.scope_rules.specs.Site.{BindingSite, own_sites, opens_one, scope_count, bindings_among}
use Rattle.scope_laws.specs.Exact.{Among}
use Rattle.scope_laws.specs.Lists.{is_list, is_listed, without}
use Rattle.scope_laws.specs.Place.{Around, first, behind, behind_none, under, one_place, plug}
use Rattle.scope_laws.proofs.Among.{among_left, among_right, among_cases}
use Rattle.scope_counts.specs.Counts.{Decl, Aims, no_part, aims_inside, named}
use Rattle.scope_counts.specs.Edits.{Even}
use Rattle.scope_counts.proofs.Layers.{aims_at, not_equal, aims_in_other}
use Rattle.scope_counts.proofs.Counting.{decls_at, at_joined}
use Rattle.scope_counts.proofs.Edits.{same_aims, even_aims}
use Rattle.scope_counts.proofs.Whole.{from_decls}
use Rattle.steps.specs.KeepForm.Part.{gives_way}
use Rattle.steps.specs.Naming.Standing.{is_export}
use Rattle.steps.proofs.Naming.Sites.{InThree, in_first, in_second, in_third, binding_in}
use Rattle.steps.specs.Allowed.Silent.{HoldsThere}
use Rattle.steps.specs.Allowed.Places.{At}
use Rattle.steps.specs.Allowed.KnownIf.{an_if}
use Rattle.steps.specs.Owed.Kept.{is_program}
use Rattle.steps.specs.Owed.Part.{DeclaresNothing, IsPart}
use Rattle.steps.specs.Marked.Exports.{IsMarkedAmong}
use Rattle.steps.proofs.Marked.Unexporting.{collected, decl_of, declares_none}
use Rattle.rules.proofs.Export.Gathered.{gathered, gathered_hoisted, are_gathered, is_gathered, own_gathered, in_own, in_inner, in_outer, in_node, first_or_later, gathered_even, joined_cases}

never : {P : Type 0} → false ≡ true → P
never e = absurd (true≢false (sym e))

-- ---- a tree with another node at a place, or with none

abbrev pub put : Option Tree → (rest : Forest) → Forest
put None rest = rest
put (Some y) rest = node y.kind y.note y.below rest

abbrev pub made : Around → Option Tree → Forest
made (first rest) y = put y rest
made (behind k n below a) y = node k n below (made a y)
made (behind_none a) y = absent (made a y)
made (under k n a rest) y = node k n (made a y) rest

pub made_without : (a : Around) → made a None ≡ without a
made_without (first rest) = refl
made_without (behind k n below a) = ap (node k n below) (made_without a)
made_without (behind_none a) = ap absent (made_without a)
made_without (under k n a rest) = ap (λ t. node k n t rest) (made_without a)

pub made_plug : (a : Around) (y : Tree) → made a (Some y) ≡ plug a (Some y)
made_plug (first rest) y = refl
made_plug (behind k n below a) y = ap (node k n below) (made_plug a y)
made_plug (behind_none a) y = ap absent (made_plug a y)
made_plug (under k n a rest) y = ap (λ t. node k n t rest) (made_plug a y)

-- what leaves stands in a list
abbrev pub LeavesLists : Option Tree → (listed : Bool) → Around → Type 0
LeavesLists y listed a = is_some y ≡ false → is_listed listed a ≡ true

there_made : (x : Tree) (y : Option Tree) (a : Around) → LeavesLists y false a → is_there (plug a (Some x)) ≡ is_there (made a y)
there_made x None (first rest) l = never (l refl)
there_made x (Some y) (first rest) l = refl
there_made x y (behind k n below a) l = refl
there_made x y (behind_none a) l = refl
there_made x y (under k n a rest) l = refl

second_made : (x : Tree) (y : Option Tree) (a : Around) → LeavesLists y false a → has_second (plug a (Some x)) ≡ has_second (made a y)
second_made x None (first rest) l = never (l refl)
second_made x (Some y) (first rest) l = refl
second_made x y (behind k n below a) l = there_made x y a l
second_made x y (behind_none a) l = there_made x y a l
second_made x y (under k n a rest) l = refl

opens_made : (x : Tree) (y : Option Tree) (k : Kind) (a : Around) → LeavesLists y (is_list k) a → opens k (plug a (Some x)) ≡ opens k (made a y)
opens_made x y (kind.PropertyDefinition is_static key) a l = second_made x y a l
opens_made x y k a l = refl

-- ---- a declaration that stood there

-- In this context: what x declares there, what comes in its place declares too, with the same mark. Where nothing comes, x declares
-- nothing of it.
abbrev pub Stays : BindingSite → Tree → Option Tree → Context → ℕ → Type 0
Stays e x y c next =
    (all : Bool) (a : Aims) → aims_at e.layer c ≡ a → Among e (bindings_among (collected all (λ at. c) 0 next (one_place (Some x)))) → Among (decl_of e) (gathered all (λ at. a) 0 (put y nothing))

module _ (e : BindingSite) (top : e.layer.scope ≡ 0) (x : Tree) (holds : Bool → Context → ℕ → Type 0) where
  abbrev Standing : Bool → (ℕ → Context) → (at next : ℕ) → Forest → Type 0
  Standing all cs at next t = Among e (bindings_among (collected all cs at next t))

  abbrev Declared : Bool → (ℕ → Aims) → ℕ → Forest → Type 0
  Declared all aims at t = Among (decl_of e) (gathered all aims at t)

  before : (next : ℕ) → 0 < next → e.layer.scope < next
  before next some = Prim.omega (arith, some, top)

  at_first : (y : Option Tree) (all listed : Bool) (ps : ℕ → Context) (aims : ℕ → Aims) (at next : ℕ) (rest : Forest) → 0 < next → ((i : ℕ) → aims_at e.layer (ps i) ≡ aims i) → (listed ≡ true → Even aims)
      → LeavesLists y listed (first rest) → Stays e x y (ps at) next → Standing all ps at next (plug (first rest) (Some x)) → Declared all aims at (put y rest)
  at_first None all listed ps aims at next rest some same even l stays h = elim (first_or_later e all ps at next x.kind x.note x.below rest h) [
    | inl g ↦ absurd (stays all (aims at) (same at) g)
    | inr g ↦
        subst (Among (decl_of e)) (gathered_even all aims (even (l refl)) (suc at) at rest)
        (is_gathered e all ps aims (suc at) (next + scope_count (node x.kind x.note x.below nothing)) rest (before (next + scope_count (node x.kind x.note x.below nothing)) (Prim.omega (arith, some))) same g)
  ]
  at_first (Some y) all listed ps aims at next rest some same even l stays h = elim (first_or_later e all ps at next x.kind x.note x.below rest h) [
    | inl g ↦ in_node (decl_of e) all aims at y.kind y.note y.below rest (stays all (aims at) (same at) g)
    | inr g ↦
        in_outer (decl_of e) all aims at y.kind y.note y.below rest
        (is_gathered e all ps aims (suc at) (next + scope_count (node x.kind x.note x.below nothing)) rest (before (next + scope_count (node x.kind x.note x.below nothing)) (Prim.omega (arith, some))) same g)
  ]

  module _ (y : Option Tree) (stays : (w : Bool) (c : Context) (next : ℕ) → 0 < next → holds w c next → Stays e x y c next) where
    around : (a : Around) (all listed w : Bool) (ps : ℕ → Context) (aims : ℕ → Aims) (at next : ℕ) → 0 < next → ((i : ℕ) → aims_at e.layer (ps i) ≡ aims i) → (listed ≡ true → Even aims)
        → LeavesLists y listed a → HoldsThere w ps at next a (Some x) holds → Standing all ps at next (plug a (Some x)) → Declared all aims at (made a y)
    around (first rest) all listed w ps aims at next some same even l there h = at_first y all listed ps aims at next rest some same even l (stays w (ps at) next some there) h
    around (behind k n below a) all listed w ps aims at next some same even l there h = elim (first_or_later e all ps at next k n below (plug a (Some x)) h) [
      | inl g ↦ in_node (decl_of e) all aims at k n below (made a y) (is_gathered e all ps aims at next (node k n below nothing) (before next some) same g)
      | inr g ↦
          in_outer (decl_of e) all aims at k n below (made a y)
          (around a all listed w ps aims (suc at) (next + scope_count (node k n below nothing)) (Prim.omega (arith, some)) same even l there g)
    ]
    around (behind_none a) all listed w ps aims at next some same even l there h = around a all listed w ps aims (suc at) next some same even l there h
    around (under k n a rest) all listed w ps aims at next some same even l there h =
        by (binding_in e (if all then own_sites (ps at) n k below else []) (collected (all || is_export k) (inside (ps at) next k below) 0 (next + opens_one k below) below) (collected all ps (suc at) behind_it rest) h)
        (λ g.
        around a (all || is_export k) (is_list k) (w || is_with k) (inside (ps at) next k below) (aims_inside no_part (aims at) k below) 0 (next + opens_one k below) (Prim.omega (arith, some))
        (aims_in_other e.layer (ps at) (aims at) next k below (same at) (not_equal next e.layer.scope (λ s. Prim.omega (arith, s, some, top)))) (even_aims no_part (aims at) k below) l there g)
      where
        below : Forest
        below = plug a (Some x)

        behind_it : ℕ
        behind_it = next + scope_count (node k n below nothing)

        by : InThree e (bindings_among (if all then own_sites (ps at) n k below else [])) (bindings_among (collected (all || is_export k) (inside (ps at) next k below) 0 (next + opens_one k below) below)) (bindings_among (collected all ps (suc at) behind_it rest))
            → (Standing (all || is_export k) (inside (ps at) next k below) 0 (next + opens_one k below) below → Declared (all || is_export k) (aims_inside no_part (aims at) k below) 0 (made a y))
            → Declared all aims at (node k n (made a y) rest)
        by (in_first g) inner = in_own (decl_of e) all aims at k n (made a y) rest (own_gathered e all (ps at) (aims at) n k below (same at) g)
        by (in_second g) inner =
            let here : aims_inside no_part (aims at) k below ≡ aims_inside no_part (aims at) k (made a y) = λ i. λ j. same_aims no_part (aims at) k below (made a y) (opens_made x y k a l) j i in
            in_inner (decl_of e) all aims at k n (made a y) rest (subst (λ (f : ℕ → Aims). Declared (all || is_export k) f 0 (made a y)) here (inner g))
        by (in_third g) inner = in_outer (decl_of e) all aims at k n (made a y) rest (is_gathered e all ps aims (suc at) behind_it rest (before behind_it (Prim.omega (arith, some))) same g)

    -- ---- whole programs

    abbrev top_aims : ℕ → Aims
    top_aims i = aims_at e.layer outermost

    abbrev beside : SourceType → Note → Forest → ℕ
    beside source n below = 0 + scope_count (node (kind.Program source) n below nothing)

    program_gathered : (source : SourceType) (n : Note) (below rest : Forest)
        → decls_at e.layer (collected false (λ at. outermost) 0 0 (node (kind.Program source) n below rest)) ≡ gathered false top_aims 0 below ++ gathered false top_aims 1 rest
    program_gathered source n below rest =
        at_joined e.layer (collected false (inside outermost 0 (kind.Program source) below) 0 1 below) (collected false (λ at. outermost) 1 (beside source n below) rest)
        ∙ ap₂ (λ ds es. ds ++ es) (are_gathered e.layer false (inside outermost 0 (kind.Program source) below) top_aims 0 1 below (before 1 (Prim.omega arith)) (λ i. refl))
        (are_gathered e.layer false (λ at. outermost) top_aims 1 (beside source n below) rest (before (beside source n below) (Prim.omega arith)) (λ i. refl))

    abbrev pub FoundIn : Forest → Type 0
    FoundIn t = IsMarkedAmong (bindings_among (collected false (λ at. outermost) 0 0 t)) e

    found : (source : SourceType) (n : Note) (below rest : Forest) → Among (decl_of e) (gathered false top_aims 0 below ++ gathered false top_aims 1 rest) → FoundIn (node (kind.Program source) n below rest)
    found source n below rest h =
        let i =
        from_decls e.layer (bindings_among (collected false (λ at. outermost) 0 0 (node (kind.Program source) n below rest))) (decl_of e)
        (subst (Among (decl_of e)) (sym (program_gathered source n below rest)) h) in
        record { declaration = i.site; stands = i.stands; is_outermost = ap (λ (l : Layer). l.scope) i.there ∙ top; same_mark = ap (λ (d : Decl). d.symbol) i.is; same_name = ap (λ (d : Decl). d.name) i.is }

    in_program : (source : SourceType) (n : Note) (old new below rest : Forest)
        → (Standing false (inside outermost 0 (kind.Program source) old) 0 1 old → Declared false top_aims 0 new) → (Standing false (λ at. outermost) 1 (beside source n old) below → Declared false top_aims 1 rest)
        → Among e (bindings_among (collected false (λ at. outermost) 0 0 (node (kind.Program source) n old below))) → FoundIn (node (kind.Program source) n new rest)
    in_program source n old new below rest inner outer h =
        found source n new rest (by (binding_in e [] (collected false (inside outermost 0 (kind.Program source) old) 0 1 old) (collected false (λ at. outermost) 1 (beside source n old) below) h))
      where
        by : InThree e (bindings_among []) (bindings_among (collected false (inside outermost 0 (kind.Program source) old) 0 1 old)) (bindings_among (collected false (λ at. outermost) 1 (beside source n old) below))
            → Among (decl_of e) (gathered false top_aims 0 new ++ gathered false top_aims 1 rest)
        by (in_first g) = absurd g
        by (in_second g) = among_left (decl_of e) (gathered false top_aims 0 new) (gathered false top_aims 1 rest) (inner g)
        by (in_third g) = among_right (decl_of e) (gathered false top_aims 0 new) (gathered false top_aims 1 rest) (outer g)

    pub whole : (a : Around) → ((rest : Forest) → is_program (node x.kind x.note x.below rest) ≡ false) → is_program (plug a (Some x)) ≡ true → LeavesLists y false a → At a (Some x) holds
        → Among e (bindings_among (collected false (λ at. outermost) 0 0 (plug a (Some x)))) → FoundIn (made a y)
    whole (first rest) other is l there h = never (sym (other rest) ∙ is)
    whole (behind (kind.Program source) n below a) other is l there h =
        in_program source n below below (plug a (Some x)) (made a y) (λ g. is_gathered e false (inside outermost 0 (kind.Program source) below) top_aims 0 1 below (before 1 (Prim.omega arith)) (λ i. refl) g)
        (λ g. around a false false false (λ at. outermost) top_aims 1 (beside source n below) (Prim.omega arith) (λ i. refl) (λ f. never f) l there g) h
    whole (behind k n below a) other is l there h = never is
    whole (behind_none a) other is l there h = never is
    whole (under (kind.Program source) n a rest) other is l there h =
        let below = plug a (Some x) in
        in_program source n below (made a y) rest rest (λ g. around a false false false (inside outermost 0 (kind.Program source) below) top_aims 0 1 (Prim.omega arith) (λ i. refl) (λ f. never f) l there g)
        (λ g. is_gathered e false (λ at. outermost) top_aims 1 (beside source n below) rest (before (beside source n below) (Prim.omega arith)) (λ i. refl) g) h
    whole (under k n a rest) other is l there h = never is

-- ---- a part that stands for the whole

no_export : (all : Bool) (k : Kind) → gives_way k ≡ true → all || is_export k ≡ all
no_export true k g = refl
no_export false kind.IfStatement g = refl
no_export false kind.TryStatement g = refl
no_export false kind.ConditionalExpression g = refl
no_export false (kind.LogicalExpression operator) g = refl
no_export false (kind.UnaryExpression operator) g = refl
no_export false (kind.BinaryExpression operator) g = refl
no_export false k g = never g

no_name : (d : Decl) (all : Bool) (ds : List Decl) → ds ≡ [] → Among d (if all then ds else []) → ⊥
no_name d true ds is h = subst (Among d) is h
no_name d false ds is h = h

nothing_there : (d : Decl) (all : Bool) (a : Aims) (at : ℕ) (t : Forest) → DeclaresNothing t → Among d (gathered all (λ i. a) at t) → ⊥
nothing_there d all a at t none h = subst (Among d) (none (λ i. a) at) (gathered_hoisted all (λ i. a) at t d h)

pub part_stays : (e : BindingSite) → e.layer.scope ≡ 0 → (x y : Tree) → gives_way x.kind ≡ true → IsPart x y → (c : Context) (next : ℕ) → 0 < next → Stays e x (Some y) c next
part_stays e top x y gives part c next some all a same h =
    of_whole (is_gathered e all (λ at. c) (λ at. a) 0 next (one_place (Some x)) (Prim.omega (arith, some, top)) (λ i. same) h)
  where
    d : Decl
    d = decl_of e

    even : ℕ → Aims
    even i = a

    front : List Decl
    front = (if all then named a y.note y.kind else []) ++ gathered (all || is_export y.kind) (aims_inside no_part a y.kind y.below) 0 y.below

    of_part : Among d (gathered all even 0 (node y.kind y.note y.below part.after)) → Among d (gathered all even 0 (node y.kind y.note y.below nothing))
    of_part g = elim (among_cases d front (gathered all even 1 part.after) g) [
      | inl f ↦ among_left d front [] f
      | inr f ↦ absurd (nothing_there d all a 1 part.after part.after_declares f)
    ]

    below : Among d (gathered (all || is_export x.kind) (aims_inside no_part a x.kind x.below) 0 x.below) → Among d (gathered all even 0 (node y.kind y.note y.below nothing))
    below g =
        let outside : aims_inside no_part a x.kind x.below ≡ even = λ i. λ j. part.plain.aims_same no_part a x.below j i in
        let all_below = subst (λ b. Among d (gathered b (aims_inside no_part a x.kind x.below) 0 x.below)) (no_export all x.kind gives) g in
        let same_aims_below = subst (λ (f : ℕ → Aims). Among d (gathered all f 0 x.below)) outside all_below in
        elim (joined_cases d all even (λ i j. refl) 0 part.before (node y.kind y.note y.below part.after) (subst (λ t. Among d (gathered all even 0 t)) part.stands same_aims_below)) [
          | inl f ↦ absurd (nothing_there d all a 0 part.before part.before_declares f)
          | inr f ↦ of_part f
        ]

    of_whole : Among d (gathered all even 0 (node x.kind x.note x.below nothing)) → Among d (gathered all even 0 (node y.kind y.note y.below nothing))
    of_whole g =
        let own = if all then named a x.note x.kind else [] in
        let inner = gathered (all || is_export x.kind) (aims_inside no_part a x.kind x.below) 0 x.below in
        elim (among_cases d (own ++ inner) [] g) [
          | inl f ↦ elim (among_cases d own inner f) [
            | inl i ↦ absurd (no_name d all (named a x.note x.kind) (part.plain.names_none a x.note) i)
            | inr i ↦ below i
          ]
          | inr f ↦ absurd f
        ]

-- what declares nothing may become anything, or go
pub undeclared_stays : (e : BindingSite) → e.layer.scope ≡ 0 → (x : Tree) (y : Option Tree) → DeclaresNothing (forest_of x) → (c : Context) (next : ℕ) → 0 < next → Stays e x y c next
undeclared_stays e top x y none c next some all a same h = absurd (declares_none (forest_of x) none all (λ at. c) 0 next e (Prim.omega (arith, some, top)) h)

-- what stands before an alternate that goes declares what it did
pub alternate_stays : (e : BindingSite) → e.layer.scope ≡ 0 → (n i j o : Note) (t l : Kind) (d b : Forest) (c : Context) (next : ℕ) → 0 < next
    → Stays e (an_if n t i d (node l j b (node kind.EmptyStatement o nothing nothing))) (Some (an_if n t i d (node l j b (absent nothing)))) c next
alternate_stays e top n i j o t l d b c next some true a same h =
    is_gathered e true (λ at. c) (λ at. a) 0 next (one_place (Some (an_if n t i d (node l j b (node kind.EmptyStatement o nothing nothing))))) (Prim.omega (arith, some, top)) (λ i. same) h
alternate_stays e top n i j o t l d b c next some false a same h =
    is_gathered e false (λ at. c) (λ at. a) 0 next (one_place (Some (an_if n t i d (node l j b (node kind.EmptyStatement o nothing nothing))))) (Prim.omega (arith, some, top)) (λ i. same) h
