-- A program that the rules leave as it is has no dead code.
use Rattle.std.proofs.Common.{◌≡◌, ◌∙◌, Bool, true, false, not, ◌&&◌, true≢false, Option, Some, None, is_some, if◌then◌else◌, refl, sym, ap}
use Rattle.std.proofs.lemmas.Bool.{and_parts}
use Rattle.js_syntax.specs.Class.{root}
use Rattle.js_syntax.specs.declared.node_kind.NodeKind.{NodeKind as Kind}
use Rattle.js_syntax.specs.declared.node_kind.NodeKind.TheVariants.{Statements as statements}
use Rattle.js_syntax.specs.Node.{Forest, Tree, Note, nothing, node, absent}
use Rattle.js_scoping.specs.Build.{numbered}
use Rattle.js_scoping.proofs.Again.{numbered_same}
use Rattle.json_shape.specs.Shape.{Fits}
use Rattle.min_context.specs.Above.{above_of}
use Rattle.min_context.specs.Place.{Place, Spot, place_of, next_of, below, top, goes_on}
use Rattle.headline.specs.Clean.{Clean}
use Rattle.headline.proofs.Renoted.{clean_as}
use Rattle.rules.proofs.Told.New.{new_told_only}
use Rattle.exported_names.proofs.New.{known, only}
use Rattle.rules.specs.DeadCode.Quiet.{EachNode, IsQuietAt}
use Rattle.rules.specs.DeadCode.Rules.{Facts, where_of, has_dead, becomes_empty, becomes_stated}
use Rattle.rules.proofs.DeadCode.Walked.{quiet_nodes}
use Rattle.rules.specs.Imports.Merged.{come_together}
use Rattle.rules.specs.Imports.Passed.{pass_on}
use Rattle.rules.specs.Imports.Repeated.{list_once}
use Rattle.rules.specs.Imports.Rules.{pruned}
use Rattle.rules.specs.Imports.Quiet.{IsUsedAt}
use Rattle.rules.proofs.Imports.Walked.{imports_used}
use Rattle.rules.specs.Expressions.Uses.{spot_of}
use Rattle.rules.specs.Expressions.Known.{conditional_becomes, logical_becomes}
use Rattle.rules.specs.Expressions.Unused.{unused_becomes}
use Rattle.rules.specs.Expressions.Lists.{unused_list_becomes}
use Rattle.rules.specs.Expressions.Indirect.{indirect_becomes}
use Rattle.rules.specs.Expressions.OneSided.{one_sided_becomes}
use Rattle.rules.specs.Expressions.Sequences.{sequence_left}
use Rattle.rules.specs.Expressions.TwoSides.{two_sides_become}
use Rattle.rules.specs.Expressions.Objects.{object_left}
use Rattle.rules.specs.Expressions.Operations.{known_becomes}
use Rattle.rules.specs.Expressions.EmptyIfs.{test_left}
use Rattle.rules.specs.Expressions.EmptyAlternates.{is_last, alternate_left}
use Rattle.rules.specs.Expressions.Ifs.{if_becomes}
use Rattle.rules.specs.Expressions.Jumps.{list_reached}
use Rattle.rules.specs.Expressions.Untaken.{if_left}
use Rattle.rules.specs.Expressions.LeftNames.{if_named}
use Rattle.rules.specs.Expressions.Settled.{IsSettledAt}
use Rattle.rules.proofs.Expressions.Walked.{settled_nodes}
use Rattle.min_peephole.specs.Quiet.{first_facts, is_row, uses_names, decides_none, wastes_none, keeps_parts, computes_none, stays, all_stay, is_quiet}
use Rattle.rules_clean.proofs.Cleaned.{clean}

list_stays : (k : Kind) (dead : Bool) → not (is_row k && dead) ≡ true → k ≡ statements → dead ≡ false
list_stays k false h e = refl
list_stays k true h e = absurd (true≢false (sym h ∙ ap (λ (j : Kind). not (is_row j && true)) e))

none_empty : (goes : Bool) (y : Tree) → not goes ≡ true → (if goes then Some y else None) ≡ None
none_empty false y h = refl
none_empty true y h = absurd (true≢false (sym h))

none_there : (o : Option Tree) → not (is_some o) ≡ true → o ≡ None
none_there None h = refl
none_there (Some y) h = absurd (true≢false (sym h))

module _ (f : Facts) (p : Place) (n : Note) (k : Kind) (inner : Forest) (h : stays f p n k inner ≡ true) where
  abbrev one_goes : Bool
  one_goes = is_row k && has_dead f (where_of p) inner

  abbrev is_emptied : Bool
  is_emptied = becomes_empty f p k inner

  abbrev is_stated : Bool
  is_stated = becomes_stated f p k inner

  abbrev is_settled : Bool
  is_settled = decides_none p n k inner && (wastes_none p n k inner && (keeps_parts p n k inner && computes_none p n k inner))

  abbrev uses_all : Bool
  uses_all = uses_names f p n k inner

  at_node : (not one_goes ≡ true) × (not is_emptied && (not is_stated && (uses_all && is_settled)) ≡ true)
  at_node = and_parts (not one_goes) (not is_emptied && (not is_stated && (uses_all && is_settled))) h

  at_statement : (not is_emptied ≡ true) × (not is_stated && (uses_all && is_settled) ≡ true)
  at_statement = and_parts (not is_emptied) (not is_stated && (uses_all && is_settled)) at_node.1

  at_declaration : (not is_stated ≡ true) × (uses_all && is_settled ≡ true)
  at_declaration = and_parts (not is_stated) (uses_all && is_settled) at_statement.1

  at_import : (uses_all ≡ true) × (is_settled ≡ true)
  at_import = and_parts uses_all is_settled at_declaration.1

  abbrev keeps_all : Bool
  keeps_all = keeps_parts p n k inner && computes_none p n k inner

  at_expression : (decides_none p n k inner ≡ true) × (wastes_none p n k inner && keeps_all ≡ true)
  at_expression = and_parts (decides_none p n k inner) (wastes_none p n k inner && keeps_all) at_import.1

  at_parts : (wastes_none p n k inner ≡ true) × (keeps_all ≡ true)
  at_parts = and_parts (wastes_none p n k inner) keeps_all at_expression.1

  at_values : (keeps_parts p n k inner ≡ true) × (computes_none p n k inner ≡ true)
  at_values = and_parts (keeps_parts p n k inner) (computes_none p n k inner) at_parts.1

  quiet_here : IsQuietAt f p (record { kind = k; note = n; below = inner })
  quiet_here = record { list = list_stays k (has_dead f (where_of p) inner) at_node.0; statement = none_empty is_emptied _ at_statement.0; declaration = none_empty is_stated _ at_declaration.0 }

  used_here : IsUsedAt f p (record { kind = k; note = n; below = inner })
  used_here =
      let named = not (is_some (pruned f (where_of p) (record { kind = k; note = n; below = inner }))) in
      let once = not (is_some (list_once n k inner)) in
      let apart = not (is_some (come_together f p (record { kind = k; note = n; below = inner }))) in
      let kept = not (is_some (pass_on f p (record { kind = k; note = n; below = inner }))) in
      let used = and_parts named (once && (apart && kept)) at_import.0 in
      let asked = and_parts once (apart && kept) used.1 in
      let apart_kept = and_parts apart kept asked.1 in
      (none_there (pruned f (where_of p) (record { kind = k; note = n; below = inner })) used.0, none_there (list_once n k inner) asked.0, none_there (come_together f p (record { kind = k; note = n; below = inner })) apart_kept.0, none_there (pass_on f p (record { kind = k; note = n; below = inner })) apart_kept.1)

  settled_here : IsSettledAt p (record { kind = k; note = n; below = inner })
  settled_here =
      let bare = not (is_some (logical_becomes (spot_of p) k inner)) in
      let behind = not (is_some (indirect_becomes (spot_of p) n k inner)) in
      let decides = and_parts (not (is_some (conditional_becomes (spot_of p) k inner))) (bare && behind) at_expression.0 in
      let others = and_parts bare behind decides.1 in
      let lists = not (is_some (unused_list_becomes (spot_of p) n k inner)) in
      let sides = not (is_some (one_sided_becomes (spot_of p) n k inner)) in
      let wastes = and_parts (not (is_some (unused_becomes (spot_of p) k inner))) (lists && sides) at_parts.0 in
      let unused = and_parts lists sides wastes.1 in
      let both = not (is_some (two_sides_become (spot_of p) n k inner)) in
      let values = not (is_some (object_left (spot_of p) n k inner)) in
      let keeps = and_parts (not (is_some (sequence_left (spot_of p) n k inner))) (both && values) at_values.0 in
      let parts = and_parts both values keeps.1 in
      let tested = not (is_some (test_left n k inner)) in
      let alternates = not (is_some (alternate_left (is_last p) n k inner)) in
      let reached = not (is_some (list_reached n k inner)) in
      let left = not (is_some (if_left n k inner)) in
      let named = not (is_some (if_named n k inner)) in
      let taken = left && named in
      let computes = and_parts (not (is_some (known_becomes n k inner))) (not (is_some (if_becomes n k inner)) && (tested && (alternates && (reached && taken)))) at_values.1 in
      let statements = and_parts (not (is_some (if_becomes n k inner))) (tested && (alternates && (reached && taken))) computes.1 in
      let tests = and_parts tested (alternates && (reached && taken)) statements.1 in
      let ends = and_parts alternates (reached && taken) tests.1 in
      let runs = and_parts reached taken ends.1 in
      let untaken = and_parts left named runs.1 in
      record {
        conditional = none_there (conditional_becomes (spot_of p) k inner) decides.0;
        logical = none_there (logical_becomes (spot_of p) k inner) others.0;
        unused = none_there (unused_becomes (spot_of p) k inner) wastes.0;
        list = none_there (unused_list_becomes (spot_of p) n k inner) unused.0;
        indirect = none_there (indirect_becomes (spot_of p) n k inner) others.1;
        one_sided = none_there (one_sided_becomes (spot_of p) n k inner) unused.1;
        sequence = none_there (sequence_left (spot_of p) n k inner) keeps.0;
        two_sides = none_there (two_sides_become (spot_of p) n k inner) parts.0;
        object = none_there (object_left (spot_of p) n k inner) parts.1;
        known = none_there (known_becomes n k inner) computes.0;
        statement = none_there (if_becomes n k inner) statements.0;
        test = none_there (test_left n k inner) tests.0;
        alternate = none_there (alternate_left (is_last p) n k inner) ends.0;
        jumps = none_there (list_reached n k inner) runs.0;
        untaken = none_there (if_left n k inner) untaken.0;
        names = none_there (if_named n k inner) untaken.1;
      }

each_stays : (Q : Place → Tree → Type 0) (f : Facts) → ((p : Place) (n : Note) (k : Kind) (inner : Forest) → stays f p n k inner ≡ true → Q p (record { kind = k; note = n; below = inner })) → (s : Spot) (t : Forest) → all_stay f s t ≡ true → EachNode Q s t
each_stays Q f here s nothing h = tt
each_stays Q f here s (absent rest) h = each_stays Q f here (next_of s false) rest h
each_stays Q f here s (node k n inner rest) h =
    let inside = below (place_of s (goes_on rest)) (above_of k n) in
    let a = and_parts (stays f (place_of s (goes_on rest)) n k inner) (all_stay f inside inner && all_stay f (next_of s true) rest) h in
    let b = and_parts (all_stay f inside inner) (all_stay f (next_of s true) rest) a.1 in
    (here (place_of s (goes_on rest)) n k inner a.0, each_stays Q f here inside inner b.0, each_stays Q f here (next_of s true) rest b.1)

pub quiet_clean : (t : Forest) → Fits root t → is_quiet t ≡ true → Clean t
quiet_clean t fits quiet =
    let f = first_facts t in
    clean_as false false (numbered t) t (numbered_same t)
    (clean f (numbered t) (known t fits false false) (record { flags = new_told_only t fits; exported = only t }) (quiet_nodes f (numbered t) (each_stays (IsQuietAt f) f (quiet_here f) top (numbered t) quiet))
    (imports_used f (numbered t) (each_stays (IsUsedAt f) f (used_here f) top (numbered t) quiet)) (settled_nodes (numbered t) (each_stays IsSettledAt f (settled_here f) top (numbered t) quiet)))
