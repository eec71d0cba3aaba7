-- What an `if` on a known test becomes doesn't see notes.
use Rattle.std.proofs.Common.{◌≡◌, ◌↔◌, ◌∙◌, Bool, false, ◌&&◌, refl, sym, ap₂, subst}
use Rattle.js_syntax.specs.declared.node_kind.NodeKind.{NodeKind as Kind}
use Rattle.js_syntax.specs.Node.{Forest, Tree, Note, nothing, node, absent, nowhere, bare}
use Rattle.js_meaning_near.specs.Local.{IsField}
use Rattle.scope_laws.specs.Place.{Around}
use Rattle.steps.specs.Allowed.Arranged.{is_nothing}
use Rattle.steps.specs.Allowed.Branches.{is_handler, lets_only_at, lets_only, inside_or_parameter, inside_from, none_or_parameter, none_from, declares_none}
use Rattle.steps.specs.Allowed.DeadIf.{DeadIf, nothing_is_run}
use Rattle.steps.specs.Allowed.EmptyIf.{is_empty, are_empty, statement_of, EmptyIf, test_stays}
use Rattle.steps.specs.Allowed.EmptyAlternate.{is_last_at, one_branch, EmptyAlternate, alternate_goes}
use Rattle.steps.specs.Allowed.KnownIf.{KnownIf, consequent_is_run, alternate_is_run}
use Rattle.headline.proofs.RenotedKnown.{truth_bare}

lets_bare : (t : Forest) → lets_only (bare t) ≡ lets_only t
lets_bare nothing = refl
lets_bare (absent rest) = lets_bare rest
lets_bare (node k n below rest) = ap₂ (λ x y. lets_only_at k x && y) (lets_bare below) (lets_bare rest)

inside_bare : (p : Bool) (t : Forest) → inside_from p (bare t) ≡ inside_from p t
inside_bare p nothing = refl
inside_bare p (absent rest) = inside_bare false rest
inside_bare p (node k n below rest) = ap₂ (λ x y. x && y) (ap₂ (λ x y. inside_or_parameter p k x y) (lets_bare below) (inside_bare (is_handler k) below)) (inside_bare false rest)

none_bare : (p : Bool) (t : Forest) → none_from p (bare t) ≡ none_from p t
none_bare p nothing = refl
none_bare p (absent rest) = none_bare false rest
none_bare p (node k n below rest) =
    ap₂ (λ x y. x && y)
    (ap₂ (λ (x : Bool) (y : Bool × Bool). none_or_parameter p k x y.0 y.1) (lets_bare below) (ap₂ (λ (x y : Bool). (x, y)) (inside_bare false below) (none_bare (is_handler k) below)))
    (none_bare false rest)

pub declares_bare : (t : Forest) → declares_none (bare t) ≡ declares_none t
declares_bare t = none_bare false t

field_bare : (t : Forest) → IsField (bare t) ↔ IsField t
field_bare nothing = (λ h. h, λ h. h)
field_bare (absent nothing) = (λ h. h, λ h. h)
field_bare (absent (absent rest)) = (λ h. h, λ h. h)
field_bare (absent (node k n below rest)) = (λ h. h, λ h. h)
field_bare (node k n below nothing) = (λ h. h, λ h. h)
field_bare (node k n below (absent rest)) = (λ h. h, λ h. h)
field_bare (node k n below (node l m c rest)) = (λ h. h, λ h. h)

-- ---- of a tree without its notes

known_bare : (n : Note) (x y : Tree) → KnownIf x y → (z : Tree) × KnownIf (record { kind = x.kind; note = n; below = bare x.below }) z
known_bare n _ _ (consequent_is_run _ m i t k a b alternate truth branch field none) =
    (_, consequent_is_run n nowhere nowhere t k (bare a) (bare b) (bare alternate) (truth_bare t m a ∙ truth) branch ((field_bare alternate).1 field) (declares_bare alternate ∙ none))
known_bare n _ _ (alternate_is_run _ m i j t k l a b c truth branch none) =
    (_, alternate_is_run n nowhere nowhere nowhere t k l (bare a) (bare b) (bare c) (truth_bare t m a ∙ truth) branch (declares_bare (node k i b nothing) ∙ none))

dead_bare : (n : Note) (x y : Tree) → DeadIf x y → (z : Tree) × DeadIf (record { kind = x.kind; note = n; below = bare x.below }) z
dead_bare n _ _ (nothing_is_run _ m i o t k a b truth none) = (_, nothing_is_run n nowhere nowhere o t k (bare a) (bare b) (truth_bare t m a ∙ truth) (declares_bare (node k i b nothing) ∙ none))

-- ---- and back

known_there : (n : Note) (k : Kind) (f : Forest) (z : Tree) → KnownIf (record { kind = k; note = n; below = bare f }) z → (y : Tree) × KnownIf (record { kind = k; note = n; below = f }) y
known_there n _ (node t m a (node k i b (node l j c nothing))) _ (alternate_is_run _ _ _ _ _ _ _ _ _ _ truth branch none) =
    (_, alternate_is_run n m i j t k l a b c (sym (truth_bare t m a) ∙ truth) branch (sym (declares_bare (node k i b nothing)) ∙ none))
known_there n _ (node t m a (node k i b alternate)) _ (consequent_is_run _ _ _ _ _ _ _ _ truth branch field none) =
    (_, consequent_is_run n m i t k a b alternate (sym (truth_bare t m a) ∙ truth) branch ((field_bare alternate).0 field) (sym (declares_bare alternate) ∙ none))
known_there n k f z h = elim h [ ]

pub known_if_as : (n : Note) (f : Forest) (x y : Tree) → bare f ≡ bare x.below → KnownIf x y → (z : Tree) × KnownIf (record { kind = x.kind; note = n; below = f }) z
known_if_as n f x y e known =
    let there = known_bare n x y known in
    known_there n x.kind f there.0 (subst (λ t. KnownIf (record { kind = x.kind; note = n; below = t }) there.0) (sym e) there.1)

dead_there : (n : Note) (k : Kind) (f : Forest) (z : Tree) → DeadIf (record { kind = k; note = n; below = bare f }) z → (y : Tree) × DeadIf (record { kind = k; note = n; below = f }) y
dead_there n _ (node t m a (node k i b (absent nothing))) _ (nothing_is_run _ _ _ o _ _ _ _ truth none) =
    (_, nothing_is_run n m i o t k a b (sym (truth_bare t m a) ∙ truth) (sym (declares_bare (node k i b nothing)) ∙ none))
dead_there n k f z h = elim h [ ]

pub dead_if_as : (n : Note) (f : Forest) (x y : Tree) → bare f ≡ bare x.below → DeadIf x y → (z : Tree) × DeadIf (record { kind = x.kind; note = n; below = f }) z
dead_if_as n f x y e dead =
    let there = dead_bare n x y dead in
    dead_there n x.kind f there.0 (subst (λ t. DeadIf (record { kind = x.kind; note = n; below = t }) there.0) (sym e) there.1)

-- ---- an `if` whose branches are empty

nothing_bare : (t : Forest) → is_nothing (bare t) ≡ is_nothing t
nothing_bare nothing = refl
nothing_bare (absent r) = refl
nothing_bare (node k n b r) = refl

one_bare : (k : Kind) (b : Forest) → is_empty k (bare b) ≡ is_empty k b
one_bare Kind.EmptyStatement b = nothing_bare b
one_bare k b = refl

empty_bare : (t : Forest) → are_empty (bare t) ≡ are_empty t
empty_bare nothing = refl
empty_bare (absent r) = refl
empty_bare (node k n b nothing) = refl
empty_bare (node k n b (absent nothing)) = one_bare k b
empty_bare (node k n b (absent (absent r))) = refl
empty_bare (node k n b (absent (node l m c r))) = refl
empty_bare (node k n b (node l m c nothing)) = ap₂ (λ x y. x && y) (one_bare k b) (one_bare l c)
empty_bare (node k n b (node l m c (absent r))) = refl
empty_bare (node k n b (node l m c (node z i d r))) = refl

empty_there : (n : Note) (k : Kind) (f : Forest) (z : Tree) → EmptyIf (record { kind = k; note = n; below = bare f }) z → (y : Tree) × EmptyIf (record { kind = k; note = n; below = f }) y
empty_there n _ (node t m d branches) _ (test_stays _ _ o _ _ _ empty unnamed) = (_, test_stays n m o t d branches (sym (empty_bare branches) ∙ empty) unnamed)
empty_there n k f z h = elim h [ ]

pub empty_if_as : (n : Note) (f : Forest) (x y : Tree) → bare f ≡ bare x.below → EmptyIf x y → (z : Tree) × EmptyIf (record { kind = x.kind; note = n; below = f }) z
empty_if_as n f _ _ e (test_stays _ m o t d branches empty unnamed) =
    empty_there n Kind.IfStatement f _ (subst (λ u. EmptyIf (record { kind = Kind.IfStatement; note = n; below = u }) (statement_of o nowhere t (bare d))) (sym e) (test_stays n nowhere o t (bare d) (bare branches) (empty_bare branches ∙ empty) unnamed))

-- ---- and one with an empty alternate

alternate_there : (a : Around) (n : Note) (k : Kind) (f : Forest) (z : Tree) → EmptyAlternate a (record { kind = k; note = n; below = bare f }) z → (y : Tree) × EmptyAlternate a (record { kind = k; note = n; below = f }) y
alternate_there a n _ (node t i d (node l j b (node k o nothing nothing))) _ (alternate_goes _ _ _ _ _ _ _ _ last) = (_, alternate_goes n i j o t l d b last)
alternate_there a n k nothing z h = elim h [ ]
alternate_there a n k (absent r) z h = elim h [ ]
alternate_there a n k (node t i d nothing) z h = elim h [ ]
alternate_there a n k (node t i d (absent r)) z h = elim h [ ]
alternate_there a n k (node t i d (node l j b nothing)) z h = elim h [ ]
alternate_there a n k (node t i d (node l j b (absent r))) z h = elim h [ ]
alternate_there a n k (node t i d (node l j b (node p o (absent c) r))) z h = elim h [ ]
alternate_there a n k (node t i d (node l j b (node p o (node q m c e) r))) z h = elim h [ ]
alternate_there a n k (node t i d (node l j b (node p o nothing (absent r)))) z h = elim h [ ]
alternate_there a n k (node t i d (node l j b (node p o nothing (node q m c r)))) z h = elim h [ ]

pub empty_alternate_as : (here a : Around) (n : Note) (f : Forest) (x y : Tree) → is_last_at (λ i. false) 0 here ≡ is_last_at (λ i. false) 0 a → bare f ≡ bare x.below → EmptyAlternate a x y
    → (z : Tree) × EmptyAlternate here (record { kind = x.kind; note = n; below = f }) z
empty_alternate_as here a n f _ _ same e (alternate_goes _ i j o t l d b last) =
    alternate_there here n Kind.IfStatement f _
    (subst (λ u. EmptyAlternate here (record { kind = Kind.IfStatement; note = n; below = u }) (one_branch n t l nowhere nowhere (bare d) (bare b))) (sym e)
    (alternate_goes n nowhere nowhere nowhere t l (bare d) (bare b) (same ∙ last)))
