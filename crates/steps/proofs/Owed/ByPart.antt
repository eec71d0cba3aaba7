-- What a node owes that becomes a part of it, it owes as one that becomes another.
use Rattle.std.proofs.Common.{inl, ◌≡◌, ◌∙◌, ◌≤◌, ◌<◌, ◌+◌, ℕ, Some, arith, ap}
use Rattle.js_syntax.specs.declared.node_kind.NodeKind.{NodeKind as Kind}
use Rattle.js_syntax.specs.Facts.{weight}
use Rattle.js_syntax.specs.Node.{Forest, Tree, Note, nothing, node, absent, joined, total}
use Rattle.scope_laws.specs.Place.{Around, plug}
use Rattle.steps.specs.Owed.Owed.{ByPart, Becoming, by_coming}
use Rattle.steps.proofs.Owed.Calling.{other_uncalled}
use Rattle.steps.proofs.Owed.FitsBecoming.{becoming_fits}
use Rattle.steps.proofs.Fit.Modules.{fits_program}
use Rattle.steps.proofs.Owed.PartForm.{part_sheds}
use Rattle.steps.proofs.Owed.PartCounts.{parts_kept}

-- a part weighs no more than what it is a part of
total_joined : (w : Kind → ℕ) (t u : Forest) → total w (joined t u) ≡ total w t + total w u
total_joined w nothing u = Prim.omega arith
total_joined w (absent r) u = total_joined w r u
total_joined w (node k n b r) u =
    let later = total_joined w r u in
    Prim.omega (arith, later)

-- so a part is lighter than the node
pub part_lighter : (k l : Kind) (n i : Note) (below b before after : Forest) → 1 ≤ weight k → below ≡ joined before (node l i b after) → total weight (node l i b nothing) < total weight (node k n below nothing)
part_lighter k l n i below b before after weighs is =
    let whole = ap (total weight) is ∙ total_joined weight before (node l i b after) in
    Prim.omega (arith, weighs, whole)

pub by_part : (a : Around) (x y : Tree) → ByPart a x y → Becoming a x y
by_part a x y owed = record {
  lighter = owed.lighter;
  no_call = other_uncalled a x owed.no_call;
  ends = inl owed.ends;
  may_change = inl owed.may_change;
  fits = λ fits. becoming_fits a x y (owed.takes fits) fits;
  sheds = λ fits. part_sheds a x y (owed.stands fits) owed.comes_out.undeleted fits;
  kept = λ fits s kept. parts_kept a x y (owed.part fits) (fits_program (plug a (Some x)) fits) s kept;
  runs = by_coming owed.coming;
}
