-- A new table has the scopes of declarations.
use Rattle.std.proofs.Common.{◌∙◌, ◌+◌, map, slice_get, option_map, sym, ap, subst, arith}
use Rattle.js_syntax.specs.Node.{Forest}
use Rattle.scope_rules.specs.Site.{BindingSite, Found, found_in, sites_of}
use Rattle.scope_rules.specs.Binding.{declared_by}
use Rattle.scope_rules.specs.Table.{symbols_of, symbol_used, symbol_at, symbols_from, symbols_declared, scoping_of}
use Rattle.scope_rules.specs.Mark.{first_marks, marked}
use Rattle.scope_laws.specs.Exact.{Among}
use Rattle.scope_laws.proofs.Exact.{declaration, number, number_is, marked_bindings}
use Rattle.scope_laws.proofs.Marking.{found_marked}
use Rattle.scope_laws.proofs.Numbers.{numbered, symbols_at}
use Rattle.exported_names.specs.Placed.{IsPlaced, ArePlaced}

placed : (f : Found) (b : BindingSite) → Among b (marked_bindings f.bindings) → IsPlaced (scoping_of f) b
placed f b h =
    let bs = f.bindings in
    let d = declaration (number bs) bs b h in
    let n = numbered 0 (symbols_of bs) (declared_by d.before) (number bs d.before) (number_is bs d.before d.stands) in
    let uses = map (symbol_used bs) f.references in
    record {
      number = number bs d.before;
      symbol = symbol_at bs uses (0 + n.place) (declared_by d.before);
      is_marked = ap (λ (b : BindingSite). b.id) d.is;
      stands = ap (slice_get (symbols_from bs uses 0 (symbols_of bs))) (n.is ∙ Prim.omega arith) ∙ symbols_at bs uses 0 (symbols_of bs) n.place ∙ ap (option_map (symbol_at bs uses (0 + n.place))) n.stands;
      same_scope = ap (λ (b : BindingSite). b.layer.scope) (sym d.is);
    }

pub new_placed : (t : Forest) → let f = found_in (sites_of t) in ArePlaced (scoping_of f) (marked (first_marks (symbols_declared f.bindings)) t)
new_placed t b h =
    let f = found_in (sites_of t) in
    placed f b (subst (λ (g : Found). Among b g.bindings) (found_marked (first_marks (symbols_declared f.bindings)) t) h)
