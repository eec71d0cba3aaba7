use Rattle.std.proofs.Common.{◌∙◌, ◌++◌, Some, map, length, ap, arith}
use Rattle.std.proofs.lemmas.List.{map-append}
use Rattle.scope_table.specs.Reading.{scopes_up, ancestors}
use Rattle.scope_table.proofs.Read.{up_more, up_none, up_end}
use Rattle.scope_table.proofs.scoping.Scoping.scope_ancestors.Goals as goal

pub loop-i-init : goal.loop-i-init
loop-i-init c = record {
  left = length c.args.self.now.scopes;
  count = omega arith;
  parts = ap (λ xs. map (λ s. s.0) xs ++ scopes_up (length c.args.self.now.scopes) c.args.self.now (Some c.args.scope.0)) c.new-above.ensures.items;
}

pub loop-i-preserved : goal.loop-i-preserved
loop-i-preserved c =
    up_more c.args.self.now c.loop-i._i (length c.args.self.now.scopes) c.loop-i.next c.parent_of-next.result c.in-Some.at (map (λ s. s.0) c.loop-i.above.items) (map (λ s. s.0) c.push.new.self.items) (ancestors c.args.self.now c.args.scope.0)
    (omega (arith, c.loop-i-test.true, c.scopes_len-i-end.ensures)) c.in-Some.is c.parent_of-next.ensures (ap (map (λ s. s.0)) c.in_ok-push.ensures.items ∙ map-append (λ s. s.0) c.loop-i.above.items _) c.loop-i.invariant

pub returns-in_default : goal.returns-in_default
returns-in_default c = record {
  ancestors = up_none c.args.self.now c.loop-i._i (length c.args.self.now.scopes) c.loop-i.next (map (λ s. s.0) c.loop-i.above.items) (ancestors c.args.self.now c.args.scope.0) c.in_default.is c.loop-i.invariant;
}

pub returns : goal.returns
returns c = record {
  ancestors = up_end c.args.self.now c.loop-i._i (length c.args.self.now.scopes) c.loop-i.next (map (λ s. s.0) c.loop-i.above.items) (ancestors c.args.self.now c.args.scope.0) (omega (arith, c.loop-i-test.false, c.scopes_len-i-end.ensures)) c.loop-i.invariant;
}
