-- A new program is known by its own table, and one whose table's lists are pruned still is.
use Rattle.std.proofs.Common.{◌≡◌, ◌∙◌, ℕ, List, Bool, true, Some, true≢false, is_some, slice_index_or, refl, sym, ap}
use Rattle.js_syntax.specs.declared.node_kind.NodeKind.{NodeKind as Kind}
use Rattle.js_syntax.specs.Class.{root}
use Rattle.js_syntax.specs.Node.{Forest, nothing, node, absent}
use Rattle.json_shape.specs.Shape.{Fits}
use Rattle.scope_rules.specs.Mark.{marked, first_marks}
use Rattle.scope_rules.specs.Site.{sites_of, found_in}
use Rattle.scope_rules.specs.Table.{Scoping, scoping_of, symbols_declared}
use Rattle.scope_table.specs.Reading.{no_reference, scope_at}
use Rattle.scope_laws.proofs.Marking.{bare_marked}
use Rattle.scope_counts.proofs.Tables.{marks_may_go}
use Rattle.scope_counts.specs.Losing.{Prunes}
use Rattle.scope_counts.specs.Scopes.{unmarked}
use Rattle.steps.specs.Allowed.Exposure.{is_script}
use Rattle.steps.proofs.Fit.Modules.{fits_program}
use Rattle.steps.proofs.Fit.Notes.{fits_renoted}
use Rattle.steps.specs.Owed.Kept.{is_program}
use Rattle.steps.specs.Marked.Flags.{first_mark}
use Rattle.steps.proofs.Marked.Numbered.{marked_told}
use Rattle.steps.proofs.Marked.Tables.{new_exact}
use Rattle.steps.proofs.Marked.Telling.{flags_alone}
use Rattle.rules.specs.DeadCode.Rules.{Facts}
use Rattle.rules.specs.DeadCode.Knows.{TellsBound, TellsExported, Knows}

-- the program makes the first scope
first_number : (symbols : List ℕ) (t : Forest) → is_program t ≡ true → first_mark (marked (first_marks symbols) t) ≡ Some 0
first_number symbols (node (Kind.Program source) n below rest) e = refl
first_number symbols (node k n below rest) e = absurd (true≢false (sym e))
first_number symbols (absent rest) e = absurd (true≢false (sym e))
first_number symbols nothing e = absurd (true≢false (sym e))

pub new_known : (t : Forest) → Fits root t → (bound exported : List Bool) (keeps_unused keeps_imports : Bool)
    → let f = found_in (sites_of t) in
    let u = marked (first_marks (symbols_declared f.bindings)) t in
    let facts : Facts = record { scoping = scoping_of f; bound = bound; exported = exported; is_script = is_script u; keeps_unused = keeps_unused; keeps_imports = keeps_imports } in
    TellsBound (scoping_of f) bound → TellsExported exported u → Knows facts unmarked u
new_known t fits bound exported keeps_unused keeps_imports bound_so exported_so =
    let f = found_in (sites_of t) in
    let m = first_marks (symbols_declared f.bindings) in
    record {
      fits = fits_renoted t (marked m t) (sym (bare_marked m t)) fits;
      exact = new_exact t fits;
      flags = marked_told t fits;
      outermost = first_number (symbols_declared f.bindings) t (fits_program t fits);
      bound = bound_so;
      exported = exported_so;
      script = refl;
    }

pub pruned_known : (f : Facts) (marked : ℕ → Bool) (now : Scoping) (t : Forest) → Prunes marked f.scoping now → ((n : ℕ) → (scope_at now n).flags ≡ (scope_at f.scoping n).flags) → Knows f marked t → Knows (record f { scoping = now }) unmarked t
pruned_known f marked now t prunes same h = record {
  fits = h.fits;
  exact = marks_may_go marked f.scoping now t prunes h.exact;
  flags = flags_alone t f.scoping now same h.flags;
  outermost = h.outermost;
  bound = λ id. h.bound id ∙ ap (λ rs. is_some (slice_index_or rs id no_reference).symbol) (sym prunes.same_entries);
  exported = h.exported;
  script = h.script;
}
