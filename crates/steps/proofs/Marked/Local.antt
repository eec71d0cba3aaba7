-- What an edit makes of the row in which it is made, whose other nodes keep their marks.
use Rattle.std.proofs.Common.{◌≡◌, ◌∙◌, ◌⊎◌, inl, inr, ℕ, List, ◌≤◌, ◌<◌, true, false, Some, is_some, arith, refl, sym, ap}
use Rattle.js_syntax.specs.declared.node_kind.NodeKind.{NodeKind as Kind}
use Rattle.js_syntax.specs.declared.node_kind.NodeKind.TheVariants.{ExpressionStatement as expression_statement, IfStatement as if_statement, EmptyStatement as empty_statement, VariableDeclaration as variable_declaration}
use Rattle.js_syntax.specs.declared.kind.VariableKind.{VariableKind}
use Rattle.js_syntax.specs.Class.{root, expression}
use Rattle.js_syntax.specs.Facts.{weight}
use Rattle.js_syntax.specs.Node.{Forest, Tree, Note, nothing, node, absent, alone, joined, total, forest_of}
use Rattle.js_tree.specs.Count.{levels}
use Rattle.js_tree.specs.Names.{eval_name}
use Rattle.js_rebuilt.specs.Rebuilt.{Rebuilt}
use Rattle.json_shape.specs.Shape.{is_directive_kind, Fits}
use Rattle.scope_laws.specs.Place as places
use Rattle.scope_laws.specs.Lists.{without}
use Rattle.scope_counts.specs.Edits.{Around, plug, in_list}
use Rattle.steps.specs.KeepForm.Part.{gives_way, may_be_idle, is_tested, is_asked_for, declares_one}
use Rattle.steps.specs.Allowed.SilentStatement.{silent_statement_empties}
use Rattle.steps.specs.Allowed.DeadIf.{nothing_is_run}
use Rattle.steps.specs.Allowed.IdleBody.{idle_body_empties}
use Rattle.steps.specs.Allowed.EmptyIf.{test_stays}
use Rattle.steps.specs.Allowed.EmptyAlternate.{alternate_goes}
use Rattle.steps.specs.Allowed.ValueStays.{value_is_stated}
use Rattle.steps.specs.Allowed.UnrunValue.{a_zero, value_never_given}
use Rattle.steps.specs.Allowed.Edits as edits
use Rattle.steps.specs.Allowed.Edits.{Leaves, Becomes, Edit}
use Rattle.steps.specs.Allowed.MergedImports.{MergedImports}
use Rattle.steps.specs.Allowed.PassedExports.{PassedExports}
use Rattle.steps.specs.Owed.Owed.{ByPart, ByParts}
use Rattle.steps.specs.Owed.Part.{DeclaresNothing}
use Rattle.steps.proofs.Owed.KnownConditional.{known_conditional_owes}
use Rattle.steps.proofs.Owed.Bare.{eval_alone}
use Rattle.steps.proofs.Owed.Expressions.{expression_declares_nothing}
use Rattle.steps.proofs.Owed.KnownSide.{known_side_owes}
use Rattle.steps.proofs.Owed.KnownIf.{known_if_owes}
use Rattle.steps.proofs.Owed.IdleTry.{idle_try_owes}
use Rattle.steps.proofs.Owed.IdleBody.{body_kind}
use Rattle.steps.proofs.Owed.UnusedOperation.{unused_operation_owes}
use Rattle.steps.proofs.Owed.UnusedList.{unused_list_owes}
use Rattle.steps.proofs.Owed.IndirectChoice.{indirect_choice_owes}
use Rattle.steps.proofs.Owed.OneSidedChoice.{one_sided_choice_owes}
use Rattle.steps.proofs.Owed.IdleParts.{idle_parts_owes}
use Rattle.steps.proofs.Owed.TwoSides.{two_sides_owes}
use Rattle.steps.proofs.Owed.UnusedObject.{unused_object_owes}
use Rattle.steps.proofs.Owed.KnownOperation.{known_operation_owes}
use Rattle.steps.proofs.Owed.UnrunValue.{dropped, new_fits, rebuilt}
use Rattle.steps.proofs.Owed.ValueStays.{value_fits}
use Rattle.steps.proofs.Owed.FitsBecoming.{taken_as}
use Rattle.steps.proofs.Owed.Owed.{leaving}
use Rattle.steps.proofs.Owed.Places.{place_of, rest_of, placed_is, without_is, listed_is}
use Rattle.steps.proofs.Owed.TableKept as tables
use Rattle.steps.specs.KeepForm.Part.{a_var}
use Rattle.steps.proofs.VarNames.Left as kept
use Rattle.steps.proofs.VarNames.Left.{NamesLeft}
use Rattle.steps.proofs.Marked.Called.{called_at, used_as_callee}
use Rattle.steps.proofs.Marked.Picked.{Picks, zeroed, unused_list_picks, indirect_choice_picks, one_sided_choice_picks, idle_parts_picks, two_sides_picks, unused_object_picks, known_operation_picks}

-- An expression is rebuilt of its parts. No rule of form asks for what it was or for what it is, which declares nothing, weighs less and
-- has no more levels.
pub record IsRebuilt (k : Kind) (n : Note) (a : Forest) (l : Kind) (m : Note) (b : Forest) : Type 0 where
  pub rebuilt : Rebuilt (alone k n a) (alone l m b)
  pub old_unasked : is_asked_for k ≡ false
  pub unasked : is_asked_for l ≡ false
  pub declares : DeclaresNothing (alone l m b)
  pub lighter : total weight (alone l m b) < total weight (alone k n a)
  pub no_deeper : levels (alone l m b) ≤ levels (alone k n a)
  pub picks : Picks k a l b

-- A node leaves a list, a statement of an expression or one that does nothing becomes empty, one of its test comes in a statement's place, one
-- of its value in that of a declaration, an `if` loses its alternate, a part of a node stands in its place, or an expression is rebuilt of its
-- parts; what comes isn't the name `eval` if it is called.
pub data Local (place : Around) : (t u : Forest) → Type 0 where
  leaves : (k : Kind) (n : Note) (b rest : Forest) → in_list false place ≡ true → is_directive_kind k ≡ false → 1 ≤ total weight (alone k n b) → Local place (node k n b rest) rest
  empties : (n m : Note) (b rest : Forest) → Local place (node expression_statement n b rest) (node empty_statement m nothing rest)
  empties_idle : (k : Kind) (n m : Note) (b rest : Forest) → may_be_idle k ≡ true → Local place (node k n b rest) (node empty_statement m nothing rest)
  tests : (k l : Kind) (n m i : Note) (b after rest : Forest) → is_tested k ≡ true → Local place (node k n (node l i b after) rest) (node expression_statement m (node l i b nothing) rest)
  states : (how : VariableKind) (x : List ℕ) (k : Kind) (n m l j i o : Note) (b rest : Forest) → DeclaresNothing (alone k i b) → Local place (node (variable_declaration how) n (declares_one m l j x (alone k i b)) rest) (node expression_statement o (alone k i b) rest)
  alternate : (t l : Kind) (n i j o : Note) (d b rest : Forest) → Local place (node if_statement n (node t i d (node l j b (node empty_statement o nothing nothing))) rest) (node if_statement n (node t i d (node l j b (absent nothing))) rest)
  parts : (k l : Kind) (i j : Note) (b v w rest : Forest) → gives_way k ≡ true → is_asked_for l ≡ false → (called_at false place ≡ true → is_some (eval_name (node l j b rest)) ≡ false)
      → Local place (node k i (joined v (node l j b w)) rest) (node l j b rest)
  rebuilds : (k l : Kind) (n m : Note) (a b rest : Forest) → IsRebuilt k n a l m b → (called_at false place ≡ true → is_some (eval_name (node l m b rest)) ≡ false) → Local place (node k n a rest) (node l m b rest)
  -- of a statement a declaration of its names is left
  names_left : (k : Kind) (n m : Note) (a b rest : Forest) → NamesLeft k n a m b → Local place (node k n a rest) (node a_var m b rest)

pub record IsLocal (t u : Forest) : Type 0 where
  pub place : Around
  pub old : Forest
  pub new : Forest
  pub local : Local place old new
  pub old_is : t ≡ plug place old
  pub new_is : u ≡ plug place new

-- ---- every case: a line each

by_part : (a : places.Around) (x y : Tree) → ByPart a x y → Fits root (places.plug a (Some x)) → IsLocal (places.plug a (Some x)) (places.plug a (Some y))
by_part a x y owed fits =
    let part = owed.part fits in
    let stands = owed.stands fits in
    record {
      place = place_of a;
      old = node x.kind x.note (joined part.before (node y.kind y.note y.below part.after)) (rest_of a);
      new = node y.kind y.note y.below (rest_of a);
      local = parts x.kind y.kind x.note y.note y.below part.before part.after (rest_of a) stands.gives stands.unasked
          (λ c. eval_alone y.kind y.note y.below (rest_of a) ∙ owed.comes_out.uncalled (used_as_callee a c));
      old_is = placed_is a x ∙ ap (λ t. plug (place_of a) (node x.kind x.note t (rest_of a))) part.stands;
      new_is = placed_is a y;
    }

by_parts : (a : places.Around) (x y : Tree) → ByParts a x y → Picks x.kind x.below y.kind y.below → Fits root (places.plug a (Some x)) → IsLocal (places.plug a (Some x)) (places.plug a (Some y))
by_parts a x y owed picks fits = record {
  place = place_of a;
  old = node x.kind x.note x.below (rest_of a);
  new = node y.kind y.note y.below (rest_of a);
  local = rebuilds x.kind y.kind x.note y.note x.below y.below (rest_of a)
      (record {
        rebuilt = owed.rebuilt fits;
        old_unasked = owed.old_unasked fits;
        unasked = owed.unasked fits;
        declares = expression_declares_nothing (forest_of y) (taken_as (owed.takes fits) expression refl (owed.fits_expression fits));
        lighter = owed.lighter;
        no_deeper = owed.no_deeper;
        picks = picks;
      })
      (λ c. eval_alone y.kind y.note y.below (rest_of a) ∙ owed.comes_out.uncalled (used_as_callee a c));
  old_is = placed_is a x;
  new_is = placed_is a y;
}

left : (a : places.Around) (x : Tree) → Leaves a x → Fits root (places.plug a (Some x)) → IsLocal (places.plug a (Some x)) (without a)
left a x c fits =
    let owed = leaving a x c in
    record {
      place = place_of a;
      old = node x.kind x.note x.below (rest_of a);
      new = rest_of a;
      local = leaves x.kind x.note x.below (rest_of a) (sym (listed_is false a) ∙ tables.in_list a owed.listed) owed.no_directive owed.weighs;
      old_is = placed_is a x;
      new_is = without_is a;
    }

changed : (a : places.Around) (x y : Tree) → Becomes a x y → Fits root (places.plug a (Some x)) → IsLocal (places.plug a (Some x)) (places.plug a (Some y))
changed a x y (edits.silent_statement (silent_statement_empties n m l k inner silent)) fits = record {
  place = place_of a;
  old = node expression_statement n (alone k l inner) (rest_of a);
  new = node empty_statement m nothing (rest_of a);
  local = empties n m (alone k l inner) (rest_of a);
  old_is = placed_is a x;
  new_is = placed_is a y;
}
changed a x y (edits.known_conditional c) fits = by_part a x y (known_conditional_owes a x y c) fits
changed a x y (edits.known_side c) fits = by_part a x y (known_side_owes a x y c) fits
changed a x y (edits.known_if c) fits = by_part a x y (known_if_owes a x y c) fits
changed a x y (edits.idle_try c) fits = by_part a x y (idle_try_owes a x y c) fits
changed a x y (edits.dead_if (nothing_is_run n m i o tested k d b truth none)) fits = record {
  place = place_of a;
  old = node if_statement n (node tested m d (node k i b (absent nothing))) (rest_of a);
  new = node empty_statement o nothing (rest_of a);
  local = empties_idle if_statement n o (node tested m d (node k i b (absent nothing))) (rest_of a) refl;
  old_is = placed_is a x;
  new_is = placed_is a y;
}
changed a x y (edits.idle_body (idle_body_empties _ m body idle none)) fits = record {
  place = place_of a;
  old = node x.kind x.note x.below (rest_of a);
  new = node empty_statement m nothing (rest_of a);
  local = empties_idle x.kind x.note m x.below (rest_of a) (body_kind x.kind x.below idle);
  old_is = placed_is a x;
  new_is = placed_is a y;
}
changed a x y (edits.kept_names c) fits =
    let left = kept.names_left a x y c fits in
    record {
      place = place_of a;
      old = node x.kind x.note x.below (rest_of a);
      new = node a_var y.note y.below (rest_of a);
      local = names_left x.kind x.note y.note x.below y.below (rest_of a) left.1;
      old_is = placed_is a x;
      new_is = placed_is a y ∙ ap (λ k. plug (place_of a) (node k y.note y.below (rest_of a))) left.0;
    }
changed a x y (edits.unused_operation c) fits = by_part a x y (unused_operation_owes a x y c) fits
changed a x y (edits.unused_list c) fits = by_parts a x y (unused_list_owes a x y c) (unused_list_picks a x y c) fits
changed a x y (edits.indirect_choice c) fits = by_parts a x y (indirect_choice_owes a x y c) (indirect_choice_picks a x y c) fits
changed a x y (edits.one_sided_choice c) fits = by_parts a x y (one_sided_choice_owes a x y c) (one_sided_choice_picks a x y c) fits
changed a x y (edits.idle_parts c) fits = by_parts a x y (idle_parts_owes a x y c) (idle_parts_picks a x y c) fits
changed a x y (edits.two_sides c) fits = by_parts a x y (two_sides_owes a x y c) (two_sides_picks a x y c) fits
changed a x y (edits.unused_object c) fits = by_parts a x y (unused_object_owes a x y c) (unused_object_picks a x y c) fits
changed a x y (edits.known_operation c) fits = by_parts a x y (known_operation_owes a x y c) (known_operation_picks a x y c) fits
changed a x y (edits.unrun_value (value_never_given n _ given unrun drops)) fits = record {
  place = place_of a;
  old = node x.kind x.note x.below (rest_of a);
  new = node (a_zero n).kind n nothing (rest_of a);
  local = rebuilds x.kind (a_zero n).kind x.note n x.below nothing (rest_of a)
      (record {
        rebuilt = rebuilt a n x given unrun drops;
        old_unasked = (dropped x.kind drops).unasked;
        unasked = refl;
        declares = expression_declares_nothing (forest_of (a_zero n)) (new_fits a n x given unrun drops);
        lighter = Prim.omega (arith, (dropped x.kind drops).weighs);
        no_deeper = Prim.omega (arith, (dropped x.kind drops).deep x.note x.below);
        picks = zeroed x.kind x.below (dropped x.kind drops).one;
      })
      (λ c. refl);
  old_is = placed_is a x;
  new_is = placed_is a (a_zero n);
}
changed a x y (edits.empty_alternate (alternate_goes n i j o tested l d b last)) fits = record {
  place = place_of a;
  old = node if_statement n (node tested i d (node l j b (node empty_statement o nothing nothing))) (rest_of a);
  new = node if_statement n (node tested i d (node l j b (absent nothing))) (rest_of a);
  local = alternate tested l n i j o d b (rest_of a);
  old_is = placed_is a x;
  new_is = placed_is a y;
}
changed a x y (edits.value_stays (value_is_stated how n m l j i o name k b stated item in_with own free)) fits = record {
  place = place_of a;
  old = node (variable_declaration how) n (declares_one m l j name (alone k i b)) (rest_of a);
  new = node expression_statement o (alone k i b) (rest_of a);
  local = states how name k n m l j i o b (rest_of a) (expression_declares_nothing (alone k i b) (value_fits a how n m l j i o name k b item own free fits));
  old_is = placed_is a x;
  new_is = placed_is a y;
}
changed a x y (edits.empty_if (test_stays n m o tested d branches empty unnamed)) fits = record {
  place = place_of a;
  old = node if_statement n (node tested m d branches) (rest_of a);
  new = node expression_statement o (node tested m d nothing) (rest_of a);
  local = tests if_statement tested n o m d branches (rest_of a) refl;
  old_is = placed_is a x;
  new_is = placed_is a y;
}

-- an edit that isn't so makes one of two imports, or of an import and an export
pub is_local : (t u : Forest) → Edit t u → Fits root t → IsLocal t u ⊎ (MergedImports t u ⊎ PassedExports t u)
is_local t u (edits.leaves a x c) fits = inl (left a x c fits)
is_local t u (edits.becomes a x y c) fits = inl (changed a x y c fits)
is_local t u (edits.merges v w c) fits = inr (inl c)
is_local t u (edits.passes v w c) fits = inr (inr c)
