-- What holds wherever a row stands in a program.
use Rattle.std.proofs.Common.{◌≡◌, ℕ, suc, ◌+◌, true, ◌&&◌, [], refl, sym, subst, true≢false}
use Rattle.std.proofs.lemmas.Bool.{and_parts}
use Rattle.js_syntax.specs.declared.node_kind.NodeKind.{NodeKind as Kind}
use Rattle.js_syntax.specs.declared.scalar.SourceType.{SourceType}
use Rattle.js_syntax.specs.Node.{Forest, nothing, node, absent, Note}
use Rattle.js_meaning.specs.Value.{this_name}
use Rattle.js_meaning.specs.Scope.{var_names, item_decls, vars_of, lexical}
use Rattle.steps.specs.Names.{is_among, names_declared}
use Rattle.steps.specs.Steps.{Around, entered, outermost}
use Rattle.steps.specs.Fit.Clear.{Apart}
use Rattle.steps.specs.Allowed.Arranged.{is_arranged_at, is_arranged}
use Rattle.scope_rules.specs.Context.{Context, inside, body_of, outermost as outermost_context}
use Rattle.scope_rules.specs.Site.{opens_one, scope_count}
use Rattle.steps.specs.Naming.Placed.{Place, program_list, others, sort_of, place_below, fits, has_plain_value, has_plain_values, well_placed, is_well_placed}
use Rattle.steps.specs.Naming.Agreeing.{Agrees}
use Rattle.steps.specs.Naming.Standing.{Stands, program, below, behind_node, behind_absent}
use Rattle.steps.proofs.Naming.Lists.{in_right, declared_right}
use Rattle.steps.proofs.Naming.Sites.{placed_here, placed_below, placed_behind}
use Rattle.steps.proofs.Naming.Agreeing.{well_placed_agrees}
use Rattle.steps.proofs.Naming.Standing.{declarations_of}
use Rattle.steps.specs.Fit.Plain.{is_plain_statement, has_plain_statements}
use Rattle.steps.specs.Fit.Sensible.{IsSensibleModule}
use Rattle.steps.specs.Owed.Good.{Good}
use Rattle.steps.proofs.Owed.ItemRows.{Rows, rows_below, rows_program}
use Rattle.steps.proofs.Owed.KnownNames.{none_known, scope_known, names_below, AllKnown, all_known, known_below}
use Rattle.steps.proofs.Owed.Separate.{variables_below, ListApart, leads, statements_lead, lists_below, RowApart, apart_absent, apart_behind, apart_below}
use Rattle.steps.proofs.Naming.Unused.{entered_row}

pub good_absent : (r : Forest) → Good (absent r) → Good r
good_absent r g = record { clear = g.clear; values = g.values; statements = g.statements; arranged = g.arranged }

pub good_below : (k : Kind) (n : Note) (a r : Forest) → Good (node k n a r) → Good a
good_below k n a r g = record {
  clear = g.clear.1;
  values = (and_parts (has_plain_values a) (has_plain_values r) (and_parts (has_plain_value k a) (has_plain_values a && has_plain_values r) g.values).1).0;
  statements = (and_parts (has_plain_statements a) (has_plain_statements r) (and_parts (is_plain_statement k a) (has_plain_statements a && has_plain_statements r) g.statements).1).0;
  arranged = (and_parts (is_arranged a) (is_arranged r) (and_parts (is_arranged_at k a) (is_arranged a && is_arranged r) g.arranged).1).0;
}

pub good_behind : (k : Kind) (n : Note) (a r : Forest) → Good (node k n a r) → Good r
good_behind k n a r g = record {
  clear = g.clear.2;
  values = (and_parts (has_plain_values a) (has_plain_values r) (and_parts (has_plain_value k a) (has_plain_values a && has_plain_values r) g.values).1).1;
  statements = (and_parts (has_plain_statements a) (has_plain_statements r) (and_parts (is_plain_statement k a) (has_plain_statements a && has_plain_statements r) g.statements).1).1;
  arranged = (and_parts (is_arranged a) (is_arranged r) (and_parts (is_arranged_at k a) (is_arranged a && is_arranged r) g.arranged).1).1;
}

pub plain_value_here : (k : Kind) (n : Note) (a r : Forest) → Good (node k n a r) → has_plain_value k a ≡ true
plain_value_here k n a r g = (and_parts (has_plain_value k a) (has_plain_values a && has_plain_values r) g.values).0

pub plain_statement_here : (k : Kind) (n : Note) (a r : Forest) → Good (node k n a r) → is_plain_statement k a ≡ true
plain_statement_here k n a r g = (and_parts (is_plain_statement k a) (has_plain_statements a && has_plain_statements r) g.statements).0

pub arranged_here : (k : Kind) (n : Note) (a r : Forest) → Good (node k n a r) → is_arranged_at k a ≡ true
arranged_here k n a r g = (and_parts (is_arranged_at k a) (is_arranged a && is_arranged r) g.arranged).0

pub good_module : (t : Forest) → IsSensibleModule t → Good t
good_module t h = record { clear = h.clear; values = h.values; statements = h.statements; arranged = h.sensible.arranged }

pub record Here (t : Forest) (w : Around) (cs : ℕ → Context) (at next : ℕ) (row : Forest) : Type 0 where
  pub stands : Stands t w cs at next row
  pub good : Good row
  pub places : ℕ → Place
  pub placed : well_placed places at row ≡ true
  pub rows : Rows places w
  pub agreed : Agrees (declarations_of t) next row
  pub known : AllKnown (declarations_of t) w cs at row
  pub this : is_among w.names this_name ≡ true
  -- no scope further in than the function declares a name of `var` that stands here
  pub variables : Apart (var_names row) w.inner
  pub lists : (i : ℕ) → leads (places i) ≡ true → ListApart w row
  pub apart : RowApart w.row w row

-- ---- the program

pub here_program : (source : SourceType) (n : Note) (a : Forest) → is_well_placed (node (Kind.Program source) n a nothing) ≡ true → Good a
    → Here (node (Kind.Program source) n a nothing) (entered outermost (Kind.Program source) a) (inside outermost_context 0 (Kind.Program source) a) 0 1 a
here_program source n a w good = record {
  stands = program refl;
  good = good;
  places = λ i. program_list;
  placed = (and_parts (well_placed (place_below others (Kind.Program source)) 0 a) (has_plain_values a) w).0;
  rows = rows_program (entered outermost (Kind.Program source) a);
  agreed = agreed.1;
  known = all_known (declarations_of t) (entered outermost (Kind.Program source) a) (inside outermost_context 0 (Kind.Program source) a) 0 a
      (λ i. scope_known (declarations_of t) (names_declared (Kind.Program source) a) [] 0 [] (λ x d. agreed.0 refl (body_of 0) x refl d) (none_known (declarations_of t) []));
  this = refl;
  variables = λ x e f. true≢false (sym f);
  lists = λ i l x e f. true≢false (sym f);
  apart = tt;
}
  where
    t : Forest
    t = node (Kind.Program source) n a nothing

    agreed : Agrees (declarations_of t) 0 t
    agreed = well_placed_agrees t w

-- ---- below a node, and behind it

pub here_below : (t : Forest) (w : Around) (cs : ℕ → Context) (at next : ℕ) (k : Kind) (n : Note) (a r : Forest) → Here t w cs at next (node k n a r) → Here t (entered w k a) (inside (cs at) next k a) 0 (next + opens_one k a) a
here_below t w cs at next k n a r h = record {
  stands = below h.stands;
  good = good_below k n a r h.good;
  places = place_below (h.places at) k;
  placed = inner;
  rows = rows_below (h.places at) w k a;
  agreed = h.agreed.1;
  known = known_below (declarations_of t) w (h.places at) (cs at) next k a placed inner h.agreed.0 h.known.0;
  this = names_below w k a this_name h.this;
  variables = variables_below w (h.places at) k n a r placed inner (good_below k n a r h.good).values h.good.clear.0 h.variables;
  lists = λ i l. lists_below w (h.places at) k n a r i placed h.good.clear.0 (h.lists at) l;
  apart = subst (λ row. RowApart row (entered w k a) a) (sym (entered_row w k a))
      (apart_below w.row w k n a r (arranged_here k n a r h.good) h.variables
      (λ is. h.lists at (statements_lead (h.places at) (subst (λ s. fits (h.places at) s ≡ true) is placed))) h.apart);
}
  where
    placed : fits (h.places at) (sort_of k) ≡ true
    placed = placed_here h.places at k n a r h.placed

    inner : well_placed (place_below (h.places at) k) 0 a ≡ true
    inner = placed_below h.places at k n a r h.placed

pub here_behind : (t : Forest) (w : Around) (cs : ℕ → Context) (at next : ℕ) (k : Kind) (n : Note) (a r : Forest) → Here t w cs at next (node k n a r) → Here t w cs (suc at) (next + scope_count (node k n a nothing)) r
here_behind t w cs at next k n a r h = record {
  stands = behind_node h.stands;
  good = good_behind k n a r h.good;
  places = h.places;
  placed = placed_behind h.places at k n a r h.placed;
  rows = h.rows;
  agreed = h.agreed.2;
  known = h.known.1;
  this = h.this;
  variables = λ x e. h.variables x (in_right (vars_of k a (var_names a)) (var_names r) x e);
  lists = λ i l x e. h.lists i l x (declared_right (item_decls k a (lexical a)) (lexical r) x e);
  apart = apart_behind w.row w k n a r h.apart;
}

pub here_absent : (t : Forest) (w : Around) (cs : ℕ → Context) (at next : ℕ) (r : Forest) → Here t w cs at next (absent r) → Here t w cs (suc at) next r
here_absent t w cs at next r h = record {
  stands = behind_absent h.stands;
  good = good_absent r h.good;
  places = h.places;
  placed = h.placed;
  rows = h.rows;
  agreed = h.agreed;
  known = h.known;
  this = h.this;
  variables = h.variables;
  lists = h.lists;
  apart = apart_absent w.row w r h.apart;
}
