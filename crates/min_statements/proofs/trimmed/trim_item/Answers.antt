use Rattle.std.proofs.Common.{◌≡◌, ◌∙◌, false, sym, ap}
use Rattle.js_syntax.specs.declared.node_kind.NodeKind.TheVariants.{VariableDeclaration as variable_declaration}
use Rattle.js_syntax.specs.Node.{Tree}
use Rattle.rules.specs.DeadCode.Rules.{declaration_has_dead, item_left}
use Rattle.min_statements.proofs.Spared.{declaration_same}
use Rattle.min_statements.proofs.trimmed.trim_item.Goals as goal

pub returns-else-declaration_has_dead : goal.returns-else-declaration_has_dead
returns-else-declaration_has_dead c =
    let node = c.args.node.now in
    let f = c.args.facts.now in
    let at = c.args.at in
    let how = c.in-VariableDeclaration.how in
    let is : node.kind ≡ variable_declaration how = sym c.kind.ensures ∙ c.in-VariableDeclaration.is in
    let alive : declaration_has_dead f at how node.below ≡ false = ap (declaration_has_dead f at how) (sym c.children.ensures) ∙ sym c.declaration_has_dead.ensures ∙ c.if-declaration_has_dead.false in
    ap {B = Tree} (λ b. record { kind = node.kind; note = node.note; below = b }) (declaration_same f at how node.below alive ∙ ap (λ k. item_left f at k node.below) (sym is))
