-- The rules are lawful for a walker that may make such edits.
use Rattle.std.proofs.Common.{◌∙◌, ap}
use Rattle.js_syntax.specs.Node.{Forest, Tree}
use Rattle.scope_counts.specs.Edits.{Around, plug}
use Rattle.steps.specs.Allowed.Edits.{Edit, TreeEdits, no_tree_edit, one_tree_edit}
use Rattle.min_options.specs.declared.options.CompressOptions.{CompressOptions}
use Rattle.min_traverse.specs.Edits.{Edits, no_edit, one_edit}
use Rattle.min_traverse.specs.Lawful.{Lawful}
use Rattle.min_traverse.specs.Moves.{before}
use Rattle.min_traverse.proofs.Joining.{either_lawful}
use Rattle.rules.specs.DeadCode.Before.{before as place}
use Rattle.rules.specs.Expressions.Uses.{spot_of}
use Rattle.rules.specs.Expressions.Known.{conditional_becomes, logical_becomes, fold_conditional, fold_logical, at_expression_end}
use Rattle.rules.specs.Expressions.Unused.{unused_becomes, fold_unused, UnusedOperations, last, one_more}
use Rattle.rules.specs.Expressions.Lists.{unused_list_becomes, fold_unused_list}
use Rattle.rules.specs.Expressions.Indirect.{indirect_becomes, fold_indirect}
use Rattle.rules.specs.Expressions.OneSided.{one_sided_becomes, fold_one_sided}
use Rattle.rules.specs.Expressions.Sequences.{sequence_left, fold_sequence}
use Rattle.rules.specs.Expressions.TwoSides.{two_sides_become, fold_two_sides}
use Rattle.rules.specs.Expressions.Objects.{object_left, fold_object}
use Rattle.rules.specs.Expressions.Operations.{fold_known}
use Rattle.rules.specs.Expressions.EmptyIfs.{fold_empty_if}
use Rattle.rules.specs.Expressions.EmptyAlternates.{is_last, alternate_left, fold_empty_alternate}
use Rattle.rules.specs.Expressions.Ifs.{fold_if}
use Rattle.rules.specs.Expressions.Jumps.{cut_list}
use Rattle.rules.specs.Expressions.Untaken.{rid_if}
use Rattle.rules.specs.Expressions.LeftNames.{name_if, at_if_end}
use Rattle.rules.proofs.Expressions.LeftNames.{names_edits}
use Rattle.rules.proofs.Expressions.FewerNames.{named_is_less}
use Rattle.rules.proofs.Expressions.Jumps.{list_edits, cut_is_less}
use Rattle.rules.proofs.Expressions.Untaken as untaken
use Rattle.rules.proofs.Expressions.Thinner as thinner
use Rattle.rules.proofs.Expressions.Becoming.{branch, branch_is_less, side, side_is_less}
use Rattle.rules.proofs.Expressions.Unused.{left_part, left_is_less, unused_edits_there}
use Rattle.rules.proofs.Expressions.Lists.{list_is_less, list_edits_there}
use Rattle.rules.proofs.Expressions.Indirect.{indirect_is_less, indirect_edits_there}
use Rattle.rules.proofs.Expressions.OneSided.{one_sided_is_less, one_sided_edits_there}
use Rattle.rules.proofs.Expressions.Sequences.{sequence_is_less, sequence_edits_there}
use Rattle.rules.proofs.Expressions.TwoSides.{two_sides_is_less, two_sides_edits_there}
use Rattle.rules.proofs.Expressions.Objects.{object_is_less, object_edits_there}
use Rattle.rules.proofs.Expressions.Operations.{known_is_less, known_edits}
use Rattle.rules.proofs.Expressions.EmptyIfs.{empty_if_is_less, empty_if_edits}
use Rattle.rules.proofs.Expressions.EmptyAlternates.{empty_alternate_is_less, empty_alternate_edits}
use Rattle.rules.proofs.Expressions.Ifs.{if_is_less, if_edits}
use Rattle.rules.proofs.Expressions.Editing.{conditional_edit, logical_edit, unused_edit, list_edit, indirect_edit, one_sided_edit, sequence_edit, two_sides_edit, object_edit, known_edit, if_edit, empty_if_edit, empty_alternate_edit}

module _ (E : CompressOptions → Forest → Forest → Type 0) (makes : (o : CompressOptions) (t u : Forest) → Edit t u → E o t u) where
  pub conditionals_fold : Lawful E fold_conditional
  conditionals_fold = record {
    edits = λ c a x y r h at e. one_edit (makes c.options (plug a (before x r)) (plug a (before y r)) (conditional_edit a x y r (ap (λ p. conditional_becomes (spot_of p) x.kind x.below) at ∙ e))) no_edit;
    thins = λ c x y e. (branch_is_less x.note (branch (spot_of c.place) x.kind x.below y e)).thins;
    lighter = λ c x y e. (branch_is_less x.note (branch (spot_of c.place) x.kind x.below y e)).lighter;
  }

  pub logicals_fold : Lawful E fold_logical
  logicals_fold = record {
    edits = λ c a x y r h at e. one_edit (makes c.options (plug a (before x r)) (plug a (before y r)) (logical_edit a x y r (ap (λ p. logical_becomes (spot_of p) x.kind x.below) at ∙ e))) no_edit;
    thins = λ c x y e. (side_is_less x.note (side (spot_of c.place) x.kind x.below y e)).thins;
    lighter = λ c x y e. (side_is_less x.note (side (spot_of c.place) x.kind x.below y e)).lighter;
  }

  -- an edit for each operation
  unused_edits : (o : CompressOptions) (a : Around) (r : Forest) (x y : Tree) → UnusedOperations (place a r) x y → Edits (E o) (plug a (before x r)) (plug a (before y r))
  unused_edits o a r x y (last e) = one_edit (makes o (plug a (before x r)) (plug a (before y r)) (unused_edit a x y r e)) no_edit
  unused_edits o a r x z (one_more y e more) = one_edit (makes o (plug a (before x r)) (plug a (before y r)) (unused_edit a x y r e)) (unused_edits o a r y z more)

  pub unused_fold : Lawful E fold_unused
  unused_fold = record {
    edits = λ c a x y r h at e. unused_edits c.options a r x y (unused_edits_there a x y r (ap (λ p. unused_becomes (spot_of p) x.kind x.below) at ∙ e));
    thins = λ c x y e. (left_is_less x.note (left_part (spot_of c.place) x.kind x.below y e)).thins;
    lighter = λ c x y e. (left_is_less x.note (left_part (spot_of c.place) x.kind x.below y e)).lighter;
  }

  pub lists_fold : Lawful E fold_unused_list
  lists_fold = record {
    edits = λ c a x y r h at e. one_edit (makes c.options (plug a (before x r)) (plug a (before y r)) (list_edit a x y r (list_edits_there a x y r (ap (λ p. unused_list_becomes (spot_of p) x.note x.kind x.below) at ∙ e)))) no_edit;
    thins = λ c x y e. (list_is_less (spot_of c.place) x.note x.kind x.below y e).thins;
    lighter = λ c x y e. (list_is_less (spot_of c.place) x.note x.kind x.below y e).lighter;
  }

  pub indirect_fold : Lawful E fold_indirect
  indirect_fold = record {
    edits = λ c a x y r h at e. one_edit (makes c.options (plug a (before x r)) (plug a (before y r)) (indirect_edit a x y r (indirect_edits_there a x y r (ap (λ p. indirect_becomes (spot_of p) x.note x.kind x.below) at ∙ e)))) no_edit;
    thins = λ c x y e. (indirect_is_less (spot_of c.place) x.note x.kind x.below y e).thins;
    lighter = λ c x y e. (indirect_is_less (spot_of c.place) x.note x.kind x.below y e).lighter;
  }

  pub one_sided_fold : Lawful E fold_one_sided
  one_sided_fold = record {
    edits = λ c a x y r h at e. one_edit (makes c.options (plug a (before x r)) (plug a (before y r)) (one_sided_edit a x y r (one_sided_edits_there a x y r (ap (λ p. one_sided_becomes (spot_of p) x.note x.kind x.below) at ∙ e)))) no_edit;
    thins = λ c x y e. (one_sided_is_less (spot_of c.place) x.note x.kind x.below y e).thins;
    lighter = λ c x y e. (one_sided_is_less (spot_of c.place) x.note x.kind x.below y e).lighter;
  }

  pub sequences_fold : Lawful E fold_sequence
  sequences_fold = record {
    edits = λ c a x y r h at e. one_edit (makes c.options (plug a (before x r)) (plug a (before y r)) (sequence_edit a x y r (sequence_edits_there a x y r (ap (λ p. sequence_left (spot_of p) x.note x.kind x.below) at ∙ e)))) no_edit;
    thins = λ c x y e. (sequence_is_less (spot_of c.place) x.note x.kind x.below y e).thins;
    lighter = λ c x y e. (sequence_is_less (spot_of c.place) x.note x.kind x.below y e).lighter;
  }

  pub two_sides_fold : Lawful E fold_two_sides
  two_sides_fold = record {
    edits = λ c a x y r h at e. one_edit (makes c.options (plug a (before x r)) (plug a (before y r)) (two_sides_edit a x y r (two_sides_edits_there a x y r (ap (λ p. two_sides_become (spot_of p) x.note x.kind x.below) at ∙ e)))) no_edit;
    thins = λ c x y e. (two_sides_is_less (spot_of c.place) x.note x.kind x.below y e).thins;
    lighter = λ c x y e. (two_sides_is_less (spot_of c.place) x.note x.kind x.below y e).lighter;
  }

  pub objects_fold : Lawful E fold_object
  objects_fold = record {
    edits = λ c a x y r h at e. one_edit (makes c.options (plug a (before x r)) (plug a (before y r)) (object_edit a x y r (object_edits_there a x y r (ap (λ p. object_left (spot_of p) x.note x.kind x.below) at ∙ e)))) no_edit;
    thins = λ c x y e. (object_is_less (spot_of c.place) x.note x.kind x.below y e).thins;
    lighter = λ c x y e. (object_is_less (spot_of c.place) x.note x.kind x.below y e).lighter;
  }

  pub known_fold : Lawful E fold_known
  known_fold = record {
    edits = λ c a x y r h at e. one_edit (makes c.options (plug a (before x r)) (plug a (before y r)) (known_edit a x y r (known_edits (place a r) x y e))) no_edit;
    thins = λ c x y e. (known_is_less x.note x.kind x.below y e).thins;
    lighter = λ c x y e. (known_is_less x.note x.kind x.below y e).lighter;
  }

  pub ifs_fold : Lawful E fold_if
  ifs_fold = record {
    edits = λ c a x y r h at e. one_edit (makes c.options (plug a (before x r)) (plug a (before y r)) (if_edit a x y r (if_edits x y e))) no_edit;
    thins = λ c x y e. (if_is_less x y e).thins;
    lighter = λ c x y e. (if_is_less x y e).lighter;
  }

  pub tests_fold : Lawful E fold_empty_if
  tests_fold = record {
    edits = λ c a x y r h at e. one_edit (makes c.options (plug a (before x r)) (plug a (before y r)) (empty_if_edit a x y r (empty_if_edits x y e))) no_edit;
    thins = λ c x y e. (empty_if_is_less x y e).thins;
    lighter = λ c x y e. (empty_if_is_less x y e).lighter;
  }

  pub alternates_fold : Lawful E fold_empty_alternate
  alternates_fold = record {
    edits = λ c a x y r h at e. one_edit (makes c.options (plug a (before x r)) (plug a (before y r)) (empty_alternate_edit a x y r (empty_alternate_edits a r x y (ap (λ p. alternate_left (is_last p) x.note x.kind x.below) at ∙ e)))) no_edit;
    thins = λ c x y e. (empty_alternate_is_less (is_last c.place) x y e).thins;
    lighter = λ c x y e. (empty_alternate_is_less (is_last c.place) x y e).lighter;
  }

  made_by : (o : CompressOptions) {t u : Forest} → TreeEdits t u → Edits (E o) t u
  made_by o (no_tree_edit t) = no_edit
  made_by o (one_tree_edit t u v e more) = one_edit (makes o t u e) (made_by o more)

  pub jumps_cut : Lawful E cut_list
  jumps_cut = record {
    edits = λ c a x y r h at e. made_by c.options (list_edits a x y r e);
    thins = λ c x y e. (cut_is_less x y e).thins;
    lighter = λ c x y e. (cut_is_less x y e).lighter;
  }

  pub ifs_rid : Lawful E rid_if
  ifs_rid = record {
    edits = λ c a x y r h at e. made_by c.options (untaken.left_edits a x y r e);
    thins = λ c x y e. (thinner.left_is_less x y e).thins;
    lighter = λ c x y e. (thinner.left_is_less x y e).lighter;
  }

  pub ifs_named : Lawful E name_if
  ifs_named = record {
    edits = λ c a x y r h at e. made_by c.options (names_edits a x y r e);
    thins = λ c x y e. (named_is_less x y e).thins;
    lighter = λ c x y e. (named_is_less x y e).lighter;
  }

  pub ifs_end : Lawful E at_if_end
  ifs_end = either_lawful (either_lawful (either_lawful (either_lawful ifs_fold tests_fold) alternates_fold) ifs_rid) ifs_named

  pub expressions_fold : Lawful E at_expression_end
  expressions_fold = either_lawful (either_lawful (either_lawful (either_lawful (either_lawful (either_lawful (either_lawful (either_lawful (either_lawful conditionals_fold logicals_fold) unused_fold) lists_fold) indirect_fold) one_sided_fold) sequences_fold) two_sides_fold) objects_fold) known_fold
