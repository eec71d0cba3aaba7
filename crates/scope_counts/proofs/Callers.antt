-- What no living declaration refers to isn't counted where the dead are left out.
use Rattle.std.proofs.Common.{◌≡◌, ◌∙◌, ℕ, suc, Bool, true, false, not, Option, Some, None, refl, ap, arith, eq-eqb}
use Rattle.std.specs.Prelude.{cond}
use Rattle.js_syntax.specs.declared.node_kind.NodeKind.{NodeKind as Kind}
use Rattle.js_syntax.specs.declared.node_kind.NodeKind.TheVariants.{Program as program, Function as function, BindingName as binding_name}
use Rattle.js_syntax.specs.declared.kind.FunctionKind.TheVariants as function_kind
use Rattle.js_syntax.specs.declared.scalar.SourceType.{SourceType}
use Rattle.js_syntax.specs.Node.{Forest, Note, nothing, node, absent}
use Rattle.scope_counts.specs.Counts.{declared_by_program, Bound, Weight, free, within, weights_inside, own}
use Rattle.scope_counts.specs.Losing.{is_gone}
use Rattle.scope_counts.specs.Walks.{carried, carried_of, owner_in, is_owner, lives_in, is_dead, living}
use Rattle.scope_counts.proofs.Carrying.{dead_counts}

same_owner : (o : Option ℕ) → is_owner o o ≡ true
same_owner None = refl
same_owner (Some s) = eq-eqb s s refl

module _ (dead : ℕ → Bool) (g : Bound) where
  -- an owner that lives
  abbrev Lives : Option ℕ → Type 0
  Lives o = is_gone dead o ≡ false

  -- nothing that a living owner has is counted
  abbrev NoneCount : (ws : ℕ → Weight) → (at : ℕ) → (outer : Option ℕ) → Forest → Type 0
  NoneCount ws at outer t = (o : Option ℕ) → Lives o → carried (is_owner o) owner_in g ws at outer t ≡ 0

  owner_lives : (k : Kind) (b : Forest) (outer : Option ℕ) → Lives outer → is_dead dead k b ≡ false → Lives (owner_in outer k b)
  owner_lives (function function_kind.Declaration pure) nothing outer l e = l
  owner_lives (function function_kind.Declaration pure) (absent b) outer l e = l
  owner_lives (function function_kind.Declaration pure) (node (binding_name x) n b c) outer l e = e
  owner_lives (function function_kind.Declaration pure) (node k n b c) outer l e = l
  owner_lives k b outer l e = l

  none_lives : (ws : ℕ → Weight) (at : ℕ) (outer : Option ℕ) (t : Forest) → Lives outer → NoneCount ws at outer t → carried (λ lives. lives) (lives_in (is_dead dead)) g ws at true t ≡ 0
  none_lives ws at outer nothing l h = refl
  none_lives ws at outer (absent t) l h = none_lives ws (suc at) outer t l h
  none_lives ws at outer (node k n b t) l h =
      Prim.omega (
        arith,
        own_none (h outer l),
        below (is_dead dead k b) refl (none_lives (weights_inside g k b (ws at)) 0 (owner_in outer k b) b),
        none_lives ws (suc at) outer t l (λ o m. Prim.omega (arith, h o m)),
      )
    where
      own_none : carried (is_owner outer) owner_in g ws at outer (node k n b t) ≡ 0
          → own (ws at) n k ≡ 0
      own_none e = let itself : cond (is_owner outer outer) (own (ws at) n k) 0 ≡ own (ws at) n k = ap (λ c. cond c (own (ws at) n k) 0) (same_owner outer) in Prim.omega (arith, e, itself)

      below : (d : Bool) → is_dead dead k b ≡ d
          → (Lives (owner_in outer k b) → NoneCount (weights_inside g k b (ws at)) 0 (owner_in outer k b) b → carried (λ lives. lives) (lives_in (is_dead dead)) g
          (weights_inside g k b (ws at)) 0 true b ≡ 0)
          → carried (λ lives. lives) (lives_in (is_dead dead)) g (weights_inside g k b (ws at)) 0 (not (is_dead dead k b)) b ≡ 0
      below true e f = ap (λ d. carried (λ lives. lives) (lives_in (is_dead dead)) g (weights_inside g k b (ws at)) 0 (not d) b) e ∙ dead_counts (is_dead dead) g (weights_inside g k b (ws at)) 0 b
      below false e f =
          ap (λ d. carried (λ lives. lives) (lives_in (is_dead dead)) g (weights_inside g k b (ws at)) 0 (not d) b) e
          ∙ f (owner_lives k b outer l e) (λ o m. Prim.omega (arith, h o m))

  pub none_living : (source : SourceType) (n : Note) (t rest : Forest)
      → ((o : Option ℕ) → is_gone dead o ≡ false → carried_of (is_owner o) owner_in g None (node (program source) n t rest) ≡ 0)
      → living (is_dead dead) g (node (program source) n t rest) ≡ 0
  none_living source n t rest h =
      Prim.omega (
        arith,
        none_lives (λ at. within g (declared_by_program t rest) free) 0 None t refl (λ o l. Prim.omega (arith, h o l)),
        none_lives (λ at. free) 1 None rest refl (λ o l. Prim.omega (arith, h o l)),
      )
