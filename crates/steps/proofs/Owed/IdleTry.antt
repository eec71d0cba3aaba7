-- What a `try` around nothing owes, which becomes its finalizer, or its block.
use Rattle.std.proofs.Common.{inl, ◌≡◌, ◌<◌, ◌∷◌, [], true, Some, arith, refl}
use Rattle.js_syntax.specs.Class as class
use Rattle.js_syntax.specs.Class.{Class, root}
use Rattle.js_syntax.specs.declared.node_kind.NodeKind.{NodeKind as Kind}
use Rattle.js_syntax.specs.declared.node_kind.NodeKind.TheVariants.{BlockStatement as block_statement, TryStatement as try_statement}
use Rattle.js_syntax.specs.Facts.{weight}
use Rattle.js_syntax.specs.Node.{Note, Forest, Tree, nothing, node, absent, joined, forest_of, total}
use Rattle.js_syntax.proofs.Truth.{both}
use Rattle.js_meaning.specs.Scope.{import_decls}
use Rattle.js_meaning.specs.Value.{Text}
use Rattle.js_meaning_near.specs.Local.{IsField, Plainly, for_part}
use Rattle.json_shape.specs.Shape.{maybe_one, these, IsOf, Stand}
use Rattle.form_rules.specs.Scope.{sought_below}
use Rattle.scope_counts.specs.Losing.{Plain}
use Rattle.scope_laws.specs.Place.{Around, plug}
use Rattle.steps.specs.Steps.{all_core}
use Rattle.steps.specs.Allowed.Branches.{stays_inside, declares_none}
use Rattle.steps.specs.Allowed.EmptyBlock.{idles}
use Rattle.steps.specs.Allowed.IdleTry.{has_no_loop, a_try, IdleTry}
use Rattle.steps.specs.Allowed.IdleTry as allowed
use Rattle.steps.specs.Allowed.Wanted.{wanted_at}
use Rattle.steps.specs.Fit.Enclosed.{is_enclosed}
use Rattle.steps.proofs.Fit.Enclosing.{fits_enclosed}
use Rattle.steps.proofs.Fit.Held.{core_below, core_behind, core_alone}
use Rattle.steps.specs.Owed.Comes.{DeclaresSame, Comes}
use Rattle.steps.specs.Owed.Owed.{ComesOut, ByPart}
use Rattle.steps.specs.Owed.Part.{IsPart}
use Rattle.steps.specs.Owed.TakesPlace.{TakesPlace}
use Rattle.steps.proofs.Owed.Bare.{branch_comes_out}
use Rattle.steps.proofs.Owed.ByPart.{part_lighter}
use Rattle.steps.proofs.Owed.ChoiceRuns.{imports_before, imports_behind, no_imports_below}
use Rattle.steps.proofs.Owed.EmptyBlock.{names_inside}
use Rattle.steps.proofs.Owed.FitsTaking.{as_try, try_stood, try_below}
use Rattle.steps.proofs.Owed.Inside.{enclosed_rest}
use Rattle.steps.proofs.Owed.KnownIf.{tested_row, enclosed_alone}
use Rattle.steps.proofs.Owed.Outward.{declares_row, declares_nothing}
use Rattle.steps.proofs.Owed.PartForm.{Stands, nothing_declared, outside_below}
use Rattle.steps.proofs.Owed.TryRuns.{finalizer_comes, block_comes}
use Rattle.steps.proofs.Owed.Undeclared.{no_variables, NoVariables, alone_plainly, last_plainly}
use Rattle.steps.proofs.Owed.Unseen.{enclosed_there}

-- ---- a handler or none

data Tried : (x y : Tree) → Type 0 where
  finalizer_is_run : (n i j : Note) (b handler c : Forest) → idles b ≡ true → IsField handler → declares_none handler ≡ true → has_no_loop c ≡ true
      → Tried (a_try n i b (joined handler (node block_statement j c nothing))) (record { kind = block_statement; note = j; below = c })
  block_is_run : (n i : Note) (b handler : Forest) → idles b ≡ true → IsField handler → declares_none handler ≡ true
      → Tried (a_try n i b (joined handler (absent nothing))) (record { kind = block_statement; note = i; below = b })

tried : (x y : Tree) → IdleTry x y → Tried x y
tried _ _ (allowed.finalizer_is_run n i j b c idle loops) = finalizer_is_run n i j b (absent nothing) c idle tt refl loops
tried _ _ (allowed.finalizer_is_run_alone n i h j k b handler c idle none loops) = finalizer_is_run n i j b (node k h handler nothing) c idle tt none loops
tried _ _ (allowed.block_is_run n i h k b handler idle none) = block_is_run n i b (node k h handler nothing) idle tt none

-- ---- a field, and what stands behind it

both_declare_none : (v t : Forest) → IsField v → declares_none v ≡ true → declares_none t ≡ true → declares_none (joined v t) ≡ true
both_declare_none (absent nothing) t f h g = g
both_declare_none (node k n a nothing) t f h g = tested_row k n a t h g
both_declare_none nothing t f h g = absurd f
both_declare_none (absent (absent r)) t f h g = absurd f
both_declare_none (absent (node k n a r)) t f h g = absurd f
both_declare_none (node k n a (absent r)) t f h g = absurd f
both_declare_none (node k n a (node l m b r)) t f h g = absurd f

enclosed_field : (v t : Forest) → IsField v → is_enclosed (joined v t) ≡ true → (is_enclosed v ≡ true) × (is_enclosed t ≡ true)
enclosed_field (absent nothing) t f h = (refl, h)
enclosed_field (node k n a nothing) t f h = (enclosed_alone k n a t h, enclosed_rest k n a t h)
enclosed_field nothing t f h = absurd f
enclosed_field (absent (absent r)) t f h = absurd f
enclosed_field (absent (node k n a r)) t f h = absurd f
enclosed_field (node k n a (absent r)) t f h = absurd f
enclosed_field (node k n a (node l m b r)) t f h = absurd f

imports_field : (source : Text) (v t : Forest) → IsField v → import_decls source (joined v t) ≡ [] → (import_decls source v ≡ []) × (import_decls source t ≡ [])
imports_field source (absent nothing) t f h = (refl, h)
imports_field source (node k n a nothing) t f h = (imports_before source k n a t h, imports_behind source k n a t h)
imports_field source nothing t f h = absurd f
imports_field source (absent (absent r)) t f h = absurd f
imports_field source (absent (node k n a r)) t f h = absurd f
imports_field source (node k n a (absent r)) t f h = absurd f
imports_field source (node k n a (node l m b r)) t f h = absurd f

core_field : (v t : Forest) → all_core (joined v t) ≡ true → all_core t ≡ true
core_field nothing t h = h
core_field (absent r) t h = core_field r t h
core_field (node k n a r) t h = core_field r t (core_behind k n a (joined r t) h)

plainly_field : (v t : Forest) (l : Kind) (b : Forest) → IsField v → NoVariables v → Plainly Kind.IfStatement t l b → Plainly Kind.IfStatement (joined v t) l b
plainly_field (absent nothing) t l b f h g = record { vars = g.vars; imports = g.imports }
plainly_field (node k n a nothing) t l b f h g = last_plainly k n a t l b h g
plainly_field nothing t l b f h g = absurd f
plainly_field (absent (absent r)) t l b f h g = absurd f
plainly_field (absent (node k n a r)) t l b f h g = absurd f
plainly_field (node k n a (absent r)) t l b f h g = absurd f
plainly_field (node k n a (node m j c r)) t l b f h g = absurd f

-- no more is seen of a `try` than of an `if`
try_plainly : {a : Forest} {l : Kind} {b : Forest} → Plainly Kind.IfStatement a l b → DeclaresSame try_statement a l b
try_plainly h = record { plainly = record { vars = h.vars; imports = h.imports }; binds = inl refl }

abbrev BlocksBehind : Forest → Type 0
BlocksBehind t = Stand (these (maybe_one class.handler ∷ maybe_one class.block ∷ [])) t

abbrev IsBlock : Forest → Type 0
IsBlock c = IsOf block_statement c (λ p. Stand p c) class.block

finalizer_stands : (v : Forest) (j : Note) (c : Forest) → IsField v → BlocksBehind (joined v (node block_statement j c nothing)) → IsBlock c
finalizer_stands (absent nothing) j c f of = of.1.0
finalizer_stands (node k n a nothing) j c f of = of.1.0
finalizer_stands nothing j c f of = absurd f
finalizer_stands (absent (absent r)) j c f of = absurd f
finalizer_stands (absent (node k n a r)) j c f of = absurd f
finalizer_stands (node k n a (absent r)) j c f of = absurd f
finalizer_stands (node k n a (node m i b r)) j c f of = absurd f

-- what stands around the part
block_before : (i : Note) (b handler : Forest) → idles b ≡ true → declares_none handler ≡ true → declares_none (node block_statement i b handler) ≡ true
block_before i b handler idle none = both (stays_inside b) (declares_none handler) (names_inside b idle) none

-- ---- what it owes

try_is_plain : Plain try_statement
try_is_plain = record { opens_none = λ t. refl; aims_same = λ o a t i. refl; names_none = λ a n. refl; refers_none = λ w n. refl }

try_lighter : (x y : Tree) → Tried x y → total weight (forest_of y) < total weight (forest_of x)
try_lighter x y (finalizer_is_run n i j b handler c idle field none loops) = part_lighter try_statement block_statement n j x.below c (node block_statement i b handler) nothing (Prim.omega arith) refl
try_lighter x y (block_is_run n i b handler idle field none) = part_lighter try_statement block_statement n i x.below b nothing (joined handler (absent nothing)) (Prim.omega arith) refl

try_comes_out : (a : Around) (x y : Tree) → Tried x y → ComesOut a y
try_comes_out a x y (finalizer_is_run n i j b handler c idle field none loops) = branch_comes_out a block_statement j c refl
try_comes_out a x y (block_is_run n i b handler idle field none) = branch_comes_out a block_statement i b refl

try_takes : (x y : Tree) → Tried x y → TakesPlace x y
try_takes x y (finalizer_is_run n i j b handler c idle field none loops) = record {
  classes = λ (to : Class) fits. (as_try block_statement c to (try_stood to n x.below fits) (finalizer_stands handler j c field (try_below to n x.below fits).1), tt);
  old_told = refl;
  new_told = refl;
}
try_takes x y (block_is_run n i b handler idle field none) = record {
  classes = λ (to : Class) fits. (as_try block_statement b to (try_stood to n x.below fits) (try_below to n x.below fits).0, tt);
  old_told = refl;
  new_told = refl;
}

try_stands : (x y : Tree) → Tried x y → Stands x y
try_stands x y (finalizer_is_run n i j b handler c idle field none loops) =
    let before = node block_statement i b handler in
    record {
      before = before;
      after = nothing;
      note = j;
      is_part = refl;
      gives = refl;
      unasked = refl;
      alike = refl;
      none_before = λ s p. nothing_declared (sought_below s try_statement) p before (outside_below s try_statement before) (block_before i b handler idle none);
      none_after = λ s p. refl;
    }
try_stands x y (block_is_run n i b handler idle field none) =
    let after = joined handler (absent nothing) in
    record {
      before = nothing;
      after = after;
      note = i;
      is_part = refl;
      gives = refl;
      unasked = refl;
      alike = refl;
      none_before = λ s p. refl;
      none_after = λ s p. nothing_declared (sought_below s try_statement) p after (outside_below s try_statement after) (both_declare_none handler (absent nothing) field none refl);
    }

try_is_part : (a : Around) (x y : Tree) → Tried x y → is_enclosed (plug a (Some x)) ≡ true → IsPart x y
try_is_part a x y (finalizer_is_run n i j b handler c idle field none loops) e =
    let finalizer = node block_statement j c nothing in
    let there = (enclosed_there a try_statement n x.below e).1 in
    let rest = enclosed_field handler finalizer field (enclosed_rest block_statement i b (joined handler finalizer) there) in
    let before = declares_nothing (node block_statement i b nothing) (block_before i b nothing idle refl) (enclosed_alone block_statement i b (joined handler finalizer) there) in
    record {
      before = node block_statement i b handler;
      after = nothing;
      stands = refl;
      plain = try_is_plain;
      before_declares = declares_row block_statement i b handler before (declares_nothing handler none rest.0);
      after_declares = λ aims at. refl;
    }
try_is_part a x y (block_is_run n i b handler idle field none) e =
    let there = (enclosed_there a try_statement n x.below e).1 in
    let after = joined handler (absent nothing) in
    record {
      before = nothing;
      after = after;
      stands = refl;
      plain = try_is_plain;
      before_declares = λ aims at. refl;
      after_declares = declares_nothing after (both_declare_none handler (absent nothing) field none refl) (enclosed_rest block_statement i b after there);
    }

try_comes : (a : Around) (x y : Tree) → Tried x y → ((source : Text) → import_decls source x.below ≡ []) → Comes a x y
try_comes a _ _ (finalizer_is_run n i j b handler c idle field none loops) h =
    let finalizer = node block_statement j c nothing in
    let rest = joined handler finalizer in
    let tried : NoVariables (node block_statement i b nothing) = record { vars = no_variables (node block_statement i b nothing) (block_before i b nothing idle refl); imports = λ source. imports_before source block_statement i b rest (h source) } in
    let gone : NoVariables handler = record { vars = no_variables handler none; imports = λ source. (imports_field source handler finalizer field (imports_behind source block_statement i b rest (h source))).0 } in
    let last = alone_plainly block_statement j c nothing (record { vars = refl; imports = λ source. refl }) in
    record {
      inner = c;
      same = refl;
      stands = for_part (λ st. finalizer_comes (wanted_at a) st i j b handler c idle field loops);
      old_calm = refl;
      declares = try_plainly (last_plainly block_statement i b rest block_statement c tried (plainly_field handler finalizer block_statement c field gone last));
      core = λ core. core_field handler finalizer (core_behind block_statement i b rest (core_below try_statement n (node block_statement i b rest) nothing core));
    }
try_comes a _ _ (block_is_run n i b handler idle field none) h =
    let rest = joined handler (absent nothing) in
    let gone : NoVariables rest = record { vars = no_variables rest (both_declare_none handler (absent nothing) field none refl); imports = λ source. imports_behind source block_statement i b rest (h source) } in
    record {
      inner = b;
      same = refl;
      stands = for_part (λ st. block_comes (wanted_at a) st i b handler idle field);
      old_calm = refl;
      declares = try_plainly (alone_plainly block_statement i b rest gone);
      core = λ core. core_alone block_statement i b rest (core_below try_statement n (node block_statement i b rest) nothing core);
    }

try_owes : (n i : Note) (b rest : Forest) (a : Around) (y : Tree) → Tried (a_try n i b rest) y → ByPart a (a_try n i b rest) y
try_owes n i b rest a y idle =
    let x = a_try n i b rest in
    record {
      lighter = try_lighter x y idle;
      no_call = record { counts = refl; lists = λ i. refl; begins = λ i. refl; calls = refl };
      ends = refl;
      may_change = refl;
      takes = λ fits. try_takes x y idle;
      stands = λ fits. try_stands x y idle;
      comes_out = try_comes_out a x y idle;
      part = λ fits. try_is_part a x y idle (fits_enclosed (plug a (Some x)) fits);
      coming = λ o p r is fits form core. try_comes a x y idle (no_imports_below o p r a x y is fits form core try_statement refl refl (λ q i. refl));
    }

tried_owes : (a : Around) (x y : Tree) → Tried x y → ByPart a x y
tried_owes a x y (finalizer_is_run n i j b handler c idle field none loops) = try_owes n i b (joined handler (node block_statement j c nothing)) a y (finalizer_is_run n i j b handler c idle field none loops)
tried_owes a x y (block_is_run n i b handler idle field none) = try_owes n i b (joined handler (absent nothing)) a y (block_is_run n i b handler idle field none)

pub idle_try_owes : (a : Around) (x y : Tree) → IdleTry x y → ByPart a x y
idle_try_owes a x y c = tried_owes a x y (tried x y c)
