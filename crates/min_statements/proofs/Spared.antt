-- What has nothing that goes stays as it is, and the context is told of nothing.
use Rattle.std.proofs.Common.{◌≡◌, ◌∙◌, ◌+◌, ℕ, Bool, true, false, not, ◌&&◌, ◌||◌, if◌then◌else◌, [], ◌∷◌, Option, Some, None, refl, sym, ap, arith, true≢false}
use Rattle.js_syntax.specs.declared.node_kind.NodeKind.{NodeKind as Kind}
use Rattle.js_syntax.specs.declared.node_kind.NodeKind.TheVariants.{VariableDeclaration as variable_declaration, Declarators as declarators, EmptyStatement as empty_statement, ExpressionStatement as expression_statement}
use Rattle.js_syntax.specs.declared.kind.VariableKind.{VariableKind}
use Rattle.js_syntax.specs.Node.{Forest, Tree, Note, nothing, node, absent, alone, row}
use Rattle.js_meaning_near.specs.Near.{cuts_off}
use Rattle.scope_counts.specs.Counts.{ids}
use Rattle.min_context.specs.Edited.{evals, Leaves}
use Rattle.min_context.specs.Seen.{Seen}
use Rattle.rules.specs.DeadCode.Rules.{Facts, Where, declarator_goes, declarators_left, one_goes, one_stays, item_goes, is_silent_statement, declaration_left, declaration_has_dead, item_has_dead, has_dead}
use Rattle.rules.specs.Expressions.Lists.{new_note}
use Rattle.rules.specs.Expressions.Jumps.{is_inert, emptied_behind, has_inert}
use Rattle.min_statements.specs.Shed.{declarators_shed, item_shed, shed, inert_shed}
use Rattle.min_statements.specs.Statement.{is_expression}
use Rattle.min_statements.specs.Walker.{Names, facts_of}
use Rattle.min_statements.proofs.Shed.{leaves_none, leaves_more}

neither : (a b : Bool) → a || b ≡ false → (a ≡ false) × (b ≡ false)
neither true b h = absurd (true≢false h)
neither false b h = (refl, h)

both_none : (a b : ℕ) → a ≡ 0 → b ≡ 0 → a + b ≡ 0
both_none a b is_a is_b = Prim.omega (arith, is_a, is_b)

-- ---- declarators

module _ (f : Facts) (w : Where) (how : VariableKind) where
  declarators_spared : (m : Forest → ℕ) (t : Forest) → one_goes f w how t ≡ false → declarators_shed m f w how t ≡ 0
  declarators_spared m nothing h = refl
  declarators_spared m (absent rest) h = declarators_spared m rest h
  declarators_spared m (node k n b rest) h =
      let stays = neither (declarator_goes f w how k b) (one_goes f w how rest) h in
      both_none (if declarator_goes f w how k b then m (alone k n b) else 0) (declarators_shed m f w how rest) (ap (λ g. if g then m (alone k n b) else 0) stays.0) (declarators_spared m rest stays.1)

  declarators_same : (t : Forest) → one_goes f w how t ≡ false → declarators_left f w how t ≡ t
  declarators_same nothing h = refl
  declarators_same (absent rest) h = ap absent (declarators_same rest h)
  declarators_same (node k n b rest) h =
      let stays = neither (declarator_goes f w how k b) (one_goes f w how rest) h in
      ap (λ g. if g then declarators_left f w how rest else node k n b (declarators_left f w how rest)) stays.0 ∙ ap (node k n b) (declarators_same rest stays.1)

  pub declaration_same : (b : Forest) → declaration_has_dead f w how b ≡ false → b ≡ declaration_left f w how b
  declaration_same (node declarators n ds rest) h = ap (λ d. node declarators n d rest) (sym (declarators_same ds h))
  declaration_same b h = refl

-- ---- items

module _ (f : Facts) (w : Where) where
  item_spared : (m : Forest → ℕ) (k : Kind) (n : Note) (b : Forest) → item_has_dead f w k b ≡ false → (if item_goes f w k b then m (alone k n b) else item_shed m f w k b) ≡ 0
  item_spared m (variable_declaration how) n (node declarators i ds rest) h =
      ap (λ g. if g && not (one_stays f w how ds) then m (alone (variable_declaration how) n (node declarators i ds rest)) else declarators_shed m f w how ds) h ∙ declarators_spared f w how m ds h
  item_spared m (variable_declaration how) n b h = refl
  item_spared m k n b h = ap (λ g. if g then m (alone k n b) else 0) h

  child_spared : (m : Forest → ℕ) (x : Option Tree) → has_dead f w (row (x ∷ [])) ≡ false → shed m f w (row (x ∷ [])) ≡ 0
  child_spared m None h = refl
  child_spared m (Some t) h = ap (λ n. n + 0) (item_spared m t.kind t.note t.below (neither (item_has_dead f w t.kind t.below) false h).0)

  pub no_expression : (k : Kind) (b : Forest) → is_expression k ≡ false → is_silent_statement f w k b ≡ false
  no_expression expression_statement b h = absurd (true≢false h)
  no_expression k b h = refl

pub spared : (names : Names) (c : Seen) (g : Facts) (w : Where) (x : Option Tree) → g ≡ facts_of names c → has_dead g w (row (x ∷ [])) ≡ false
    → Leaves c (λ r. shed (ids r) (facts_of names c) w (row (x ∷ []))) (shed evals (facts_of names c) w (row (x ∷ []))) c
spared names c g w x is h =
    let f = facts_of names c in
    let alive : has_dead f w (row (x ∷ [])) ≡ false = ap (λ q. has_dead q w (row (x ∷ []))) (sym is) ∙ h in
    leaves_more (leaves_none c) (leaves_none c) (λ r. child_spared f w (ids r) x alive) (child_spared f w evals x alive)

-- ---- what never runs

inert_spared : (m : Forest → ℕ) (jumped : Bool) (t : Forest) → has_inert jumped t ≡ false → inert_shed m jumped t ≡ 0
inert_spared m jumped nothing h = refl
inert_spared m jumped (absent rest) h = inert_spared m jumped rest h
inert_spared m jumped (node k n b rest) h =
    let stays = neither (is_inert jumped k b) (has_inert (jumped || cuts_off k b) rest) h in
    ap (λ g. if g then m (alone k n b) + inert_shed m jumped rest else inert_shed m (jumped || cuts_off k b) rest) stays.0 ∙ inert_spared m (jumped || cuts_off k b) rest stays.1

emptied_same : (jumped : Bool) (t : Forest) → has_inert jumped t ≡ false → t ≡ emptied_behind jumped t
emptied_same jumped nothing h = refl
emptied_same jumped (absent rest) h = ap absent (emptied_same jumped rest h)
emptied_same jumped (node k n b rest) h =
    let stays = neither (is_inert jumped k b) (has_inert (jumped || cuts_off k b) rest) h in
    ap (node k n b) (emptied_same (jumped || cuts_off k b) rest stays.1) ∙ sym (ap (λ g. if g then node empty_statement (new_note n) nothing (emptied_behind jumped rest) else node k n b (emptied_behind (jumped || cuts_off k b) rest)) stays.0)

pub none_inert : (c : Seen) (t u : Forest) → u ≡ t → has_inert false u ≡ false → Leaves c (λ r. inert_shed (ids r) false t) (inert_shed evals false t) c
none_inert c t u is h =
    let alive : has_inert false t ≡ false = ap (has_inert false) (sym is) ∙ h in
    leaves_more (leaves_none c) (leaves_none c) (λ r. inert_spared (ids r) false t alive) (inert_spared evals false t alive)

pub none_emptied : (x : Tree) (u : Forest) → u ≡ x.below → has_inert false u ≡ false → x ≡ record x { below = emptied_behind false x.below }
none_emptied x u is h = ap (λ b. record { kind = x.kind; note = x.note; below = b }) (emptied_same false x.below (ap (has_inert false) (sym is) ∙ h))
