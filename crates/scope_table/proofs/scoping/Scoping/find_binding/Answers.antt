use Rattle.std.proofs.Common.{◌∙◌, length, option_map, sym, ap, arith, refl}
use Rattle.scope_table.specs.Reading.{binding_of}
use Rattle.scope_table.proofs.Read.{sought_more, sought_here, sought_none, sought_end}
use Rattle.scope_table.proofs.scoping.Scoping.find_binding.Goals as goal

pub loop-i-init : goal.loop-i-init
loop-i-init c = record { left = length c.args.self.now.scopes; count = omega arith; parts = refl }

pub loop-i-preserved : goal.loop-i-preserved
loop-i-preserved c =
    sought_more c.args.self.now c.args.name.now c.loop-i._i (length c.args.self.now.scopes) c.loop-i.next c.parent_of-next.result c.in-Some.at (binding_of c.args.self.now c.args.scope.0 c.args.name.now)
    (omega (arith, c.loop-i-test.true, c.scopes_len-most.ensures)) c.in-Some.is c.parent_of-next.ensures (sym c.symbol_in.ensures ∙ ap (option_map (λ s. s.0)) c.in_default-symbol_in.is) c.loop-i.invariant

pub returns-in_default : goal.returns-in_default
returns-in_default c = record {
  binding = sought_none c.args.self.now c.args.name.now c.loop-i._i (length c.args.self.now.scopes) c.loop-i.next (binding_of c.args.self.now c.args.scope.0 c.args.name.now) c.in_default.is c.loop-i.invariant;
}

pub returns-in-Some-symbol_in : goal.returns-in-Some-symbol_in
returns-in-Some-symbol_in c = record {
  binding = sought_here c.args.self.now c.args.name.now c.loop-i._i (length c.args.self.now.scopes) c.loop-i.next c.in-Some.at c.in-Some-symbol_in.symbol.0 (binding_of c.args.self.now c.args.scope.0 c.args.name.now)
      (omega (arith, c.loop-i-test.true, c.scopes_len-most.ensures)) c.in-Some.is (sym c.symbol_in.ensures ∙ ap (option_map (λ s. s.0)) c.in-Some-symbol_in.is) c.loop-i.invariant;
}

pub returns : goal.returns
returns c = record {
  binding = sought_end c.args.self.now c.args.name.now c.loop-i._i (length c.args.self.now.scopes) c.loop-i.next (binding_of c.args.self.now c.args.scope.0 c.args.name.now) (omega (arith, c.loop-i-test.false, c.scopes_len-most.ensures)) c.loop-i.invariant;
}
