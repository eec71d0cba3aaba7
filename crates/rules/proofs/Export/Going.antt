-- What an edit takes away declares nothing in the program's own scope that is exported.
use Rattle.std.proofs.Common.{◌≡◌, ◌∙◌, ◌<◌, inl, inr, ℕ, ◌+◌, List, [], Bool, true, sym, ap, subst, arith, ◌++◌, append-nil}
use Rattle.js_syntax.specs.declared.node_kind.NodeKind.{NodeKind as Kind}
use Rattle.js_syntax.specs.declared.node_kind.NodeKind.TheVariants.{EmptyStatement as empty_statement, ExpressionStatement as expression_statement, Function as function, VariableDeclaration as variable_declaration, Declarators as declarators, VariableDeclarator as variable_declarator, BindingName as binding_name}
use Rattle.js_syntax.specs.declared.kind.FunctionKind.TheVariants as function_kind
use Rattle.js_syntax.specs.declared.kind.VariableKind.{VariableKind}
use Rattle.js_syntax.specs.declared.kind.VariableKind.TheVariants as variable
use Rattle.js_syntax.specs.Node.{Forest, Note, nothing, node}
use Rattle.scope_rules.specs.declared.layer.Layer.{Layer}
use Rattle.scope_rules.specs.Context.{Context, inside, in_variables}
use Rattle.scope_rules.specs.Binding.{named_in}
use Rattle.scope_rules.specs.Site.{BindingSite, own_sites, scope_count, sites, sites_of, bindings_among, Site}
use Rattle.scope_laws.specs.Exact.{Among}
use Rattle.steps.specs.Naming.Standing.{exported_declarations}
use Rattle.steps.proofs.Naming.Sites.{InThree, in_first, in_second, in_third, binding_in}
use Rattle.steps.specs.Steps.{binds_import}
use Rattle.steps.specs.Allowed.Free.{IsFree, Free, FreeDeclarator}
use Rattle.steps.specs.Allowed.Silent.{inside_of}
use Rattle.steps.specs.Allowed.SilentStatement.{SilentStatement}
use Rattle.steps.specs.Allowed.UnusedDeclarator.{SilentDeclarator}
use Rattle.steps.specs.Allowed.UnusedDeclaration.{SilentDeclaration, one_declarator}
use Rattle.steps.specs.Fit.Enclosed.{is_enclosed_at, is_enclosed}
use Rattle.steps.proofs.Owed.ImportFacts.{declares_name}
use Rattle.steps.proofs.Owed.Inside.{In}
use Rattle.steps.proofs.Owed.FunctionParts.{function_behind}
use Rattle.steps.proofs.Owed.Unseen.{silent_inside, layer_below}
use Rattle.steps.specs.KeepForm.Part.{declares_one}
use Rattle.steps.specs.Owed.Part.{DeclaresNothing}
use Rattle.steps.proofs.Marked.Unexporting.{declares_none, all_collected}

-- the node, which stands in this context, doesn't hold the declaration
abbrev pub Gone : BindingSite → Kind → Note → Forest → Context → ℕ → Type 0
Gone e k n below c next = Among e (bindings_among (sites (λ at. c) 0 next (node k n below nothing))) → ⊥

module _ (v : Forest) (e : BindingSite) (stands : Among e (exported_declarations v)) (top : e.layer.scope ≡ 0) where
  -- an export is of no name that is free
  no_free : (x : List ℕ) (l : Layer) → IsFree v (named_in x l) → e.name ≡ x → e.layer ≡ l → ⊥
  no_free x l free name layer = free.unexported e stands top (ap (λ y. named_in y e.layer) name ∙ ap (named_in x) layer)

  -- nor does it lie in a scope further in
  not_further : (lo hi : ℕ) → 0 < lo → In lo hi e.layer → ⊥
  not_further lo hi some i = Prim.omega (arith, some, i.from, top)

  module _ (c : Context) (next : ℕ) (some : 0 < next) where
    pub empty_gone : (n : Note) → Gone e empty_statement n nothing c next
    empty_gone n h = h

    pub import_gone : (w : Bool) (k : Kind) (n m : Note) (x : List ℕ) → binds_import k ≡ true → FreeDeclarator v x w c next → Gone e k n (node (binding_name x) m nothing nothing) c next
    import_gone w k n m x binds free h = let d = declares_name x m k n binds (λ at. c) 0 next e h in no_free x c.declaring.layer free d.0 d.1

    pub statement_gone : (class w : Bool) (n : Note) (below : Forest) → is_enclosed below ≡ true → SilentStatement v below class w c next → Gone e expression_statement n below c next
    statement_gone class w n below closed silent h = by (binding_in e (own_sites c n expression_statement below) (sites (inside c next expression_statement below) 0 (next + 0) below) [] h)
      where
        by : InThree e (bindings_among (own_sites c n expression_statement below)) (bindings_among (sites (inside c next expression_statement below) 0 (next + 0) below)) (bindings_among []) → ⊥
        by (in_first g) = g
        by (in_second g) =
            not_further (next + 0) (next + 0 + scope_count below) (Prim.omega (arith, some)) (silent_inside (bindings_among (sites_of v)) (inside_of class w) (inside c next expression_statement below) 0 (next + 0) below closed silent e g)
        by (in_third g) = g

    pub function_gone : (w pure : Bool) (n m : Note) (x : List ℕ) (rest : Forest) → is_enclosed_at (function function_kind.Declaration pure) (node (binding_name x) m nothing rest) ≡ true → Free v variable.Let x w c next
        → Gone e (function function_kind.Declaration pure) n (node (binding_name x) m nothing rest) c next
    function_gone w pure n m x rest closed free h = of_three (binding_in e (own_sites c n (function function_kind.Declaration pure) below) (sites fs 0 (next + 1) below) [] h)
      where
        below : Forest
        below = node (binding_name x) m nothing rest

        fs : ℕ → Context
        fs = inside c next (function function_kind.Declaration pure) below

        of_part : InThree e (bindings_among (own_sites (fs 0) m (binding_name x) nothing)) (bindings_among []) (bindings_among (sites fs 1 (next + 1 + scope_count (node (binding_name x) m nothing nothing)) rest)) → ⊥
        of_part (in_first (inl q)) = no_free x c.block free (ap (λ (s : BindingSite). s.name) (sym q)) (ap (λ (s : BindingSite). s.layer) (sym q))
        of_part (in_first (inr q)) = q
        of_part (in_second q) = q
        of_part (in_third q) = not_further next (next + 1 + scope_count (node (binding_name x) m nothing rest)) some (function_behind c next function_kind.Declaration pure (binding_name x) m nothing rest closed e q)

        of_three : InThree e (bindings_among (own_sites c n (function function_kind.Declaration pure) below)) (bindings_among (sites fs 0 (next + 1) below)) (bindings_among []) → ⊥
        of_three (in_first f) = f
        of_three (in_second f) = of_part (binding_in e (own_sites (fs 0) m (binding_name x) nothing) [] (sites fs 1 (next + 1 + scope_count (node (binding_name x) m nothing nothing)) rest) f)
        of_three (in_third f) = f

  module _ (class w : Bool) (x : List ℕ) (m : Note) (value : Forest) (closed : is_enclosed value ≡ true) where
    abbrev named_value : Forest
    named_value = node (binding_name x) m nothing value

    -- a declarator in a row
    declarator_in_row : (cs : ℕ → Context) (place next : ℕ) → 0 < next → (l : Note) → SilentDeclarator v named_value class w (cs place) next → IsFree v (named_in x (cs place).declaring.layer)
        → Among e (bindings_among (sites cs place next (node variable_declarator l named_value nothing))) → ⊥
    declarator_in_row cs place next some l silent free h = of_three (binding_in e (own_sites (cs place) l variable_declarator named_value) (sites fs 0 (next + 0) named_value) [] h)
      where
        fs : ℕ → Context
        fs = inside (cs place) next variable_declarator named_value

        from : ℕ
        from = next + 0 + scope_count (node (binding_name x) m nothing nothing)

        of_part : InThree e (bindings_among (own_sites (fs 0) m (binding_name x) nothing)) (bindings_among []) (bindings_among (sites fs 1 from value)) → ⊥
        of_part (in_first (inl q)) = no_free x (cs place).declaring.layer free (ap (λ (s : BindingSite). s.name) (sym q)) (ap (λ (s : BindingSite). s.layer) (sym q))
        of_part (in_first (inr q)) = q
        of_part (in_second q) = q
        of_part (in_third q) = not_further from (from + scope_count value) (Prim.omega (arith, some)) (silent_inside (bindings_among (sites_of v)) (inside_of class w) fs 1 from value closed silent.1 e q)

        of_three : InThree e (bindings_among (own_sites (cs place) l variable_declarator named_value)) (bindings_among (sites fs 0 (next + 0) named_value)) (bindings_among []) → ⊥
        of_three (in_first f) = f
        of_three (in_second f) = of_part (binding_in e (own_sites (fs 0) m (binding_name x) nothing) [] (sites fs 1 from value) f)
        of_three (in_third f) = f

    module _ (c : Context) (next : ℕ) (some : 0 < next) where
      pub declarator_gone : (n : Note) → SilentDeclarator v named_value class w c next → FreeDeclarator v x w c next → Gone e variable_declarator n named_value c next
      declarator_gone n silent free h = declarator_in_row (λ at. c) 0 next some n silent free h

      pub declaration_gone : (how : VariableKind) (n j l : Note) → SilentDeclaration v how j l named_value class w c next → Free v how x w c next → Gone e (variable_declaration how) n (one_declarator j l named_value) c next
      declaration_gone how n j l silent free h = of_outer (binding_in e (own_sites c n (variable_declaration how) whole) (sites outer 0 (next + 0) whole) [] h)
        where
          ds : Forest
          ds = node variable_declarator l named_value nothing

          whole : Forest
          whole = one_declarator j l named_value

          outer : ℕ → Context
          outer = inside c next (variable_declaration how) whole

          list : ℕ → Context
          list = inside (outer 0) (next + 0) declarators ds

          of_inner : InThree e (bindings_among (own_sites (outer 0) j declarators ds)) (bindings_among (sites list 0 (next + 0 + 0) ds)) (bindings_among []) → ⊥
          of_inner (in_first q) = q
          of_inner (in_second q) = declarator_in_row list 0 (next + 0 + 0) (Prim.omega (arith, some)) l silent (subst (λ r. IsFree v (named_in x r)) (sym (layer_below c how)) free) q
          of_inner (in_third q) = q

          of_outer : InThree e (bindings_among (own_sites c n (variable_declaration how) whole)) (bindings_among (sites outer 0 (next + 0) whole)) (bindings_among []) → ⊥
          of_outer (in_first q) = q
          of_outer (in_second q) = of_inner (binding_in e (own_sites (outer 0) j declarators ds) (sites list 0 (next + 0 + 0) ds) [] q)
          of_outer (in_third q) = q

  -- a declaration whose value declares nothing
  flat : (ss : List Site) → ((ss ++ []) ++ []) ++ [] ≡ ss
  flat ss = append-nil ((ss ++ []) ++ []) ∙ append-nil (ss ++ []) ∙ append-nil ss

  pub stated_gone : (w : Bool) (x : List ℕ) (how : VariableKind) (n m l j : Note) (value : Forest) → DeclaresNothing value → (c : Context) (next : ℕ) → 0 < next → Free v how x w c next → Gone e (variable_declaration how) n (declares_one m l j x value) c next
  stated_gone w x how n m l j value none c next some free (inl q) =
      no_free x (in_variables c how).declaring.layer (subst (λ r. IsFree v (named_in x r)) (sym (layer_below c how)) free) (ap (λ (s : BindingSite). s.name) (sym q)) (ap (λ (s : BindingSite). s.layer) (sym q))
  stated_gone w x how n m l j value none c next some free (inr h) =
      let name = node (binding_name x) j nothing value in
      let declarator = node variable_declarator l name nothing in
      let list = inside (inside c next (variable_declaration how) (declares_one m l j x value) 0) (next + 0) declarators declarator in
      let fs = inside (list 0) (next + 0 + 0) variable_declarator name in
      let from = next + 0 + 0 + 0 + scope_count (node (binding_name x) j nothing nothing) in
      declares_none value none true fs 1 from e (Prim.omega (arith, some, top)) (subst (λ ss. Among e (bindings_among ss)) (flat (sites fs 1 from value) ∙ sym (all_collected fs 1 from value)) h)
