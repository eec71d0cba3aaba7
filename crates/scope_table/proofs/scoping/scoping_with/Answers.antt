use Rattle.std.proofs.Common.{◌≡◌, ◌∙◌, length, map, is_some, arith, ap, sym}
use Rattle.std.specs.List.{count_by, sum_by}
use Rattle.std.proofs.lemmas.List.{length-map}
use Rattle.scope_rules.specs.Table.{symbols_of, scopes_from, reference_at, symbol_used, unbound_name, symbols_from, unresolved_among}
use Rattle.scope_table.specs.Kept.{told, kept_from}
use Rattle.scope_table.specs.Unbound.{name_told}
use Rattle.scope_table.proofs.Growing.{told_all, uses_are, kept_length}
use Rattle.scope_table.proofs.Listing.{listed_are}
use Rattle.scope_table.proofs.Resolved.{resolved_are}
use Rattle.scope_table.proofs.Showing.{few_symbols}
use Rattle.scope_table.proofs.scoping.scoping_with.Goals as goal

pub scopes_with-requires : goal.scopes_with-requires
scopes_with-requires c = omega (arith, few_symbols c.args.names.now, c.requires.few_bindings, ap length c.requires.names)

pub unresolved_of-requires : goal.unresolved_of-requires
unresolved_of-requires c =
    omega (
      arith,
      c.requires.few_references,
      ap length c.deref-2.ensures.value,
      length-map c.in_ok-references.unbound.items name_told,
      ap length c.in_ok-references.ensures.unbound,
      length-map c.references.result.now (unbound_name c.args.names.now),
      ap length c.references.ensures.references,
    )

pub returns-clause-scoping : goal.returns-clause-scoping
returns-clause-scoping c =
    let names : c.args.names.now ≡ c.args.found.now.bindings = c.requires.names in
    let references : c.in_ok-references.references.items ≡ map (reference_at c.args.found.now.bindings) c.args.found.now.references =
    c.in_ok-references.ensures.references ∙ (λ i. map (reference_at (names i)) (c.references.ensures.references i)) in
    let unbound : map name_told c.deref-2.result.now ≡ map (unbound_name c.args.found.now.bindings) c.args.found.now.references =
    ap (map name_told) c.deref-2.ensures.value ∙ c.in_ok-references.ensures.unbound ∙ (λ i. map (unbound_name (names i)) (c.references.ensures.references i)) in
    let scopes : c.in_ok-scopes_with.field-0.items ≡ scopes_from (symbols_of c.args.found.now.bindings) 0 c.args.found.now.scopes =
    c.in_ok-scopes_with.ensures ∙ (λ i. scopes_from (symbols_of (names i)) 0 (c.scopes.ensures.scopes i)) in
    let uses : map (λ r. r.symbol) c.deref.result.now ≡ map (symbol_used c.args.found.now.bindings) c.args.found.now.references =
    ap (map (λ r. r.symbol)) (c.deref.ensures.value ∙ references) ∙ uses_are c.args.found.now.bindings c.args.found.now.references in
    let symbols : map told c.in_ok-symbols_with.field-0.items ≡ symbols_from c.args.found.now.bindings (map (symbol_used c.args.found.now.bindings) c.args.found.now.references) 0 (symbols_of c.args.found.now.bindings) =
    ap (map told) (c.in_ok-symbols_with.ensures ∙ (λ i. kept_from (names i) (names i) (uses i) 0 (symbols_of (names i))))
    ∙ told_all c.args.found.now.bindings (map (symbol_used c.args.found.now.bindings) c.args.found.now.references) 0 (symbols_of c.args.found.now.bindings) in
    λ i. record { scopes = scopes i; symbols = symbols i; references = references i; unresolved = (c.in_ok-unresolved_of.ensures ∙ ap unresolved_among unbound) i }

pub invariant_of-scoping : goal.invariant_of-scoping
invariant_of-scoping c = (
  omega (
    arith,
    c.requires.few_bindings,
    ap length c.in_ok-symbols_with.ensures,
    kept_length c.args.names.now c.args.names.now (map (λ r. r.symbol) c.deref.result.now) 0 (symbols_of c.args.names.now),
    few_symbols c.args.names.now,
    ap length c.requires.names,
  ),
  omega (arith, c.requires.few_references, ap length c.in_ok-references.ensures.references, length-map c.references.result.now (reference_at c.args.names.now), ap length c.references.ensures.references),
)

pub returns-clause-resolved : goal.returns-clause-resolved
returns-clause-resolved c =
    ap (count_by (λ r. is_some r.symbol)) (c.in_ok-references.ensures.references ∙ (λ i. map (reference_at (c.requires.names i)) (c.references.ensures.references i)))
    ∙ resolved_are c.args.found.now.bindings c.args.found.now.references

pub returns-clause-listed : goal.returns-clause-listed
returns-clause-listed c =
    ap (λ s. sum_by (λ x. length x.references) s.symbols) (returns-clause-scoping c) ∙ listed_are c.args.found.now.bindings c.args.found.now.references
    ∙ sym (ap (λ s. count_by (λ r. is_some r.symbol) s.references) (returns-clause-scoping c))
