-- Where an import and an export are an export from the other module, no reference or declaration comes in, no call of `eval` comes in or leaves,
-- no flag that tells of a place does, and no declaration below an export.
use Rattle.std.proofs.Common.{◌≡◌, ◌∙◌, ◌≤◌, inl, inr, ℕ, suc, ◌+◌, List, [], ◌++◌, false, ◌||◌, if◌then◌else◌, is_some, append-nil, Some, None, arith, refl, sym, ap, subst}
use Rattle.js_syntax.specs.declared.node_kind.NodeKind.{NodeKind as Kind}
use Rattle.js_syntax.specs.declared.node_kind.NodeKind.TheVariants.{Program as program, Statements as statements, ImportDeclaration as import_declaration, Specifiers as specifiers, ExportNamedDeclaration as export_named_declaration}
use Rattle.js_syntax.specs.declared.scalar.SourceType.TheVariants as source_type
use Rattle.js_syntax.specs.Node.{Forest, Note, nothing, node, absent}
use Rattle.js_tree.specs.Names.{eval_of_call}
use Rattle.scope_rules.specs.Context.{Context, inside, outermost}
use Rattle.scope_rules.specs.Site.{Site, BindingSite, has_eval, opens_one, scope_count, sites, bindings_among}
use Rattle.scope_rules.specs.Table.{Scoping}
use Rattle.scope_laws.specs.Exact.{Among}
use Rattle.scope_laws.proofs.Among.{among_left, among_right, among_cases}
use Rattle.scope_counts.specs.Counts.{Decl, Weight, tally}
use Rattle.scope_counts.specs.Losing.{own_referring, referring, own_declaring, declaring}
use Rattle.steps.specs.Allowed.Exposure.{evaluates_somewhere}
use Rattle.steps.specs.Allowed.PassedExports.{WithoutExport, export_leaves, leaves_behind, PassesIn, passes_here, passes_behind, PassedExports, exports_pass}
use Rattle.steps.specs.Marked.Flags.{Stand, Tells, Told, FlagsTell}
use Rattle.steps.specs.Naming.Standing.{is_export, exported_sites, exported_declarations}
use Rattle.steps.proofs.Marked.Merged.{names_call_none, beside_names, at_top, at_items, calls_of, names_open_none, names_export_none}
use Rattle.steps.proofs.Naming.Sites.{bindings_append}
use Rattle.steps.proofs.Owed.MergedRows.{AreNames}
use Rattle.steps.proofs.Owed.PassedRows.{AreListed, none_listed, one_listed, ArePassed, none_passed, one_passed, IsNew, new_names, new_namespace, parts}
use Rattle.steps.proofs.Owed.PassedTables.{new_tally, new_refers, new_declares}

-- ---- references and declarations

module _ (w : Weight) where
  left_tally : {listed r s : Forest} → WithoutExport listed r s → tally w s ≤ tally w r
  left_tally (export_leaves n m rest) = Prim.omega arith
  left_tally (leaves_behind k n below r s out) = Prim.omega (arith, left_tally out)

  row_tally : {names r s z : Forest} → PassesIn names r s z → tally w z ≤ tally w r
  row_tally (passes_here source n m i listed k below r s on out) = Prim.omega (arith, new_tally w (parts on).new i s, left_tally out)
  row_tally (passes_behind k n below r s z h) = Prim.omega (arith, row_tally h)

pub fewer_tally : (w : Weight) (t u : Forest) → PassedExports t u → tally w u ≤ tally w t
fewer_tally w _ _ (exports_pass n m names r s z h free none) = Prim.omega (arith, row_tally w h)

-- a list that is read node by node
module _ {X : Type 0} (x : X) (own : List X) where
  more_behind : (xs ys : List X) → (Among x xs → Among x ys) → Among x (own ++ xs) → Among x (own ++ ys)
  more_behind xs ys f h = elim (among_cases x own xs h) [
    | inl e ↦ among_left x own ys e
    | inr e ↦ among_right x own ys (f e)
  ]

left_referred : (d : Decl) {listed r s : Forest} → WithoutExport listed r s → Among d (referring s) → Among d (referring r)
left_referred d {listed = listed} (export_leaves n m rest) h = among_right d (referring listed ++ []) (referring rest) h
left_referred d (leaves_behind k n below r s out) h = more_behind d (own_referring n k ++ referring below) (referring s) (referring r) (left_referred d out) h

row_referred : (d : Decl) {names r s z : Forest} → PassesIn names r s z → Among d (referring z) → Among d (referring r)
row_referred d {names = names} (passes_here source n m i listed k below r s on out) h =
    among_right d (referring names ++ []) (referring r) (left_referred d out (subst (Among d) (new_refers (parts on).new i s) h))
row_referred d (passes_behind k n below r s z p) h = more_behind d (own_referring n k ++ referring below) (referring z) (referring r) (row_referred d p) h

in_module : {X : Type 0} (x : X) (xs ys : List X) → (Among x xs → Among x ys) → Among x ((xs ++ []) ++ []) → Among x ((ys ++ []) ++ [])
in_module x xs ys f h = among_left x (ys ++ []) [] (among_left x ys [] (f (alone xs (alone (xs ++ []) h))))
  where
    alone : (zs : List _) → Among x (zs ++ []) → Among x zs
    alone zs g = elim (among_cases x zs [] g) [
      | inl e ↦ e
      | inr e ↦ absurd e
    ]

pub referred_before : (t u : Forest) → PassedExports t u → (d : Decl) → Among d (referring u) → Among d (referring t)
referred_before _ _ (exports_pass n m names r s z h free none) d = in_module d (referring z) (referring r) (row_referred d h)

left_declared : (d : Decl) {listed r s : Forest} → WithoutExport listed r s → Among d (declaring s) → Among d (declaring r)
left_declared d {listed = listed} (export_leaves n m rest) h = among_right d (declaring listed ++ []) (declaring rest) h
left_declared d (leaves_behind k n below r s out) h = more_behind d (own_declaring n k ++ declaring below) (declaring s) (declaring r) (left_declared d out) h

row_declared : (d : Decl) {names r s z : Forest} → PassesIn names r s z → Among d (declaring z) → Among d (declaring r)
row_declared d {names = names} (passes_here source n m i listed k below r s on out) h =
    among_right d (declaring names ++ []) (declaring r) (left_declared d out (subst (Among d) (new_declares (parts on).new i s) h))
row_declared d (passes_behind k n below r s z p) h = more_behind d (own_declaring n k ++ declaring below) (declaring z) (declaring r) (row_declared d p) h

pub declared_before : (t u : Forest) → PassedExports t u → (d : Decl) → Among d (declaring u) → Among d (declaring t)
declared_before _ _ (exports_pass n m names r s z h free none) d = in_module d (declaring z) (declaring r) (row_declared d h)

-- ---- calls of `eval`

listed_call_none : {t : Forest} → AreListed t → has_eval t ≡ false
listed_call_none none_listed = refl
listed_call_none (one_listed exported n m x rest are) = listed_call_none are

passed_call_none : {t : Forest} → ArePassed t → has_eval t ≡ false
passed_call_none none_passed = refl
passed_call_none (one_passed imported exported n rest are) = passed_call_none are

left_evals : {listed r s : Forest} → AreListed listed → WithoutExport listed r s → has_eval s ≡ has_eval r
left_evals are (export_leaves n m rest) = sym (ap (λ b. beside_names b (has_eval rest)) (listed_call_none are))
left_evals are (leaves_behind k n below r s out) = ap (λ b. (is_some (eval_of_call k below) || has_eval below) || b) (left_evals are out)

new_evals : {source : List ℕ} {k : Kind} {below : Forest} → IsNew source k below → (i : Note) (s : Forest) → has_eval (node k i below s) ≡ has_eval s
new_evals (new_names passed j are) i s = ap (λ b. beside_names b (has_eval s)) (passed_call_none are)
new_evals (new_namespace exported) i s = refl

pub passed_evals : {names r s z : Forest} → PassesIn names r s z → has_eval z ≡ has_eval r
passed_evals (passes_here source n m i listed k below r s on out) =
    let known = parts on in
    new_evals known.new i s ∙ left_evals known.listed_are out ∙ sym (ap (λ b. beside_names b (has_eval r)) (names_call_none known.names_are))
passed_evals (passes_behind k n below r s z h) = ap (λ b. (is_some (eval_of_call k below) || has_eval below) || b) (passed_evals h)

-- ---- what flags tell

module _ (t : Scoping) where
  abbrev There : Stand → ℕ → Forest → Type 0
  There p at row = Told t false (λ i. p) at row

  told_anywhere : (p : Stand) (i j : ℕ) (row : Forest) → There p i row → There p j row
  told_anywhere p i j nothing h = tt
  told_anywhere p i j (absent row) h = told_anywhere p (suc i) (suc j) row h
  told_anywhere p i j (node k n b row) h = (h.0, h.1, told_anywhere p (suc i) (suc j) row h.2)

  passed_told : {passed : Forest} → ArePassed passed → (p : Stand) (at : ℕ) → Tells t false p → There p at passed
  passed_told none_passed p at here = tt
  passed_told (one_passed imported exported n rest are) p at here = (here, tt, passed_told are p (suc at) here)

  new_told : {source : List ℕ} {k : Kind} {below : Forest} → IsNew source k below → (i : Note) (s : Forest) (p : Stand) (at : ℕ) → Tells t false p → There p (suc at) s → There p at (node k i below s)
  new_told (new_names passed j are) i s p at here told = (here, (here, passed_told are p 0 here, tt), told)
  new_told (new_namespace exported) i s p at here told = (here, tt, told)

  left_told : {listed r s : Forest} → WithoutExport listed r s → (p : Stand) (i j : ℕ) → There p i r → There p j s
  left_told (export_leaves n m rest) p i j h = told_anywhere p (suc i) j rest h.2
  left_told (leaves_behind k n below r s out) p i j h = (h.0, h.1, left_told out p (suc i) (suc j) h.2)

  row_told : {names : Forest} (p : Stand) (at : ℕ) {r s z : Forest} → PassesIn names r s z → There p at r → There p at z
  row_told p at (passes_here source n m i listed k below r s on out) told = new_told (parts on).new i s p at told.0 (left_told out p (suc at) (suc at) told.2)
  row_told p at (passes_behind k n below r s z h) told = (told.0, told.1, row_told p (suc at) h told.2)

pub passes_told : (table : Scoping) (t u : Forest) → PassedExports t u → FlagsTell table t → FlagsTell table u
passes_told table _ _ (exports_pass n m names r s z h free none) told =
    let same : calls_of r ≡ calls_of z = ap (λ b. (false || b) || false) (sym (passed_evals h)) in (
      subst (λ b. Tells table false (at_top b n)) same told.0,
      (
        subst (λ b. Tells table false (at_items b n)) same told.1.0,
        subst (λ b. Told table false (λ i. at_items b n) 0 z) same (row_told table (at_items (calls_of r) n) 0 h told.1.1),
        tt,
      ),
      tt,
    )

-- ---- exports

listed_open_none : {t : Forest} → AreListed t → scope_count t ≡ 0
listed_open_none none_listed = refl
listed_open_none (one_listed exported n m x rest are) = Prim.omega (arith, listed_open_none are)

passed_open_none : {t : Forest} → ArePassed t → scope_count t ≡ 0
passed_open_none none_passed = refl
passed_open_none (one_passed imported exported n rest are) = Prim.omega (arith, passed_open_none are)

-- of a row whose nodes stand in one context
module _ (c : Context) where
  abbrev exported : ℕ → ℕ → Forest → List BindingSite
  exported at next t = bindings_among (exported_sites (λ i. c) at next t)

  listed_bind_none : {listed : Forest} → AreListed listed → (at next : ℕ) → bindings_among (sites (λ i. c) at next listed) ≡ []
  listed_bind_none none_listed at next = refl
  listed_bind_none (one_listed exported n m x rest are) at next = listed_bind_none are (suc at) (next + scope_count (node (Kind.ExportSpecifier exported) n (node (Kind.ReferenceName x) m nothing nothing) nothing))

  passed_bind_none : {passed : Forest} → ArePassed passed → (at next : ℕ) → bindings_among (sites (λ i. c) at next passed) ≡ []
  passed_bind_none none_passed at next = refl
  passed_bind_none (one_passed imported exported n rest are) at next = passed_bind_none are (suc at) (next + scope_count (node (Kind.ForeignSpecifier imported exported) n nothing nothing))

  abbrev own : Kind → (next : ℕ) → Forest → List Site
  own k next b = if is_export k then sites (inside c next k b) 0 (next + opens_one k b) b else exported_sites (inside c next k b) 0 (next + opens_one k b) b

  exported_first : (k : Kind) (n : Note) (b t : Forest) (at next : ℕ) → exported at next (node k n b t) ≡ bindings_among (own k next b) ++ exported (suc at) (next + scope_count (node k n b nothing)) t
  exported_first k n b t at next = bindings_append (own k next b) (exported_sites (λ i. c) (suc at) (next + scope_count (node k n b nothing)) t)

  exported_anywhere : (i j next : ℕ) (t : Forest) → exported i next t ≡ exported j next t
  exported_anywhere i j next nothing = refl
  exported_anywhere i j next (absent t) = exported_anywhere (suc i) (suc j) next t
  exported_anywhere i j next (node k n b t) =
      exported_first k n b t i next ∙ ap (λ l. bindings_among (own k next b) ++ l) (exported_anywhere (suc i) (suc j) (next + scope_count (node k n b nothing)) t) ∙ sym (exported_first k n b t j next)

-- a node of which no declaration below is exported, and that makes no scope
record Passed (k : Kind) (below : Forest) : Type 0 where
  binds_none : (c : Context) (next : ℕ) → bindings_among (own c k next below) ≡ []
  opens_none : (n : Note) → scope_count (node k n below nothing) ≡ 0

module _ (c : Context) where
  node_passed : {k : Kind} {below : Forest} → Passed k below → (n : Note) (t : Forest) (at next : ℕ) → exported c at next (node k n below t) ≡ exported c (suc at) next t
  node_passed {k = k} {below = below} p n t at next =
      exported_first c k n below t at next
      ∙ ap (λ l. l ++ exported c (suc at) (next + scope_count (node k n below nothing)) t) (p.binds_none c next)
      ∙ ap (λ i. exported c (suc at) i t) (Prim.omega (arith, p.opens_none n))

import_passed : (source : List ℕ) (m : Note) {names : Forest} → AreNames names → Passed (import_declaration source) (node specifiers m names nothing)
import_passed source m {names = names} are = record {
  binds_none = λ c next. ap (λ l. bindings_among (l ++ [])) (names_export_none are (inside (inside c next (import_declaration source) (node specifiers m names nothing) 0) (next + 0) specifiers names) 0 (next + 0 + 0));
  opens_none = λ n. Prim.omega (arith, names_open_none are);
}

export_passed : (m : Note) {listed : Forest} → AreListed listed → Passed (export_named_declaration None) (absent (node specifiers m listed nothing))
export_passed m {listed = listed} are = record {
  binds_none = λ c next.
      let outer = inside c next (export_named_declaration None) (absent (node specifiers m listed nothing)) 1 in
      bindings_append (sites (inside outer (next + 0) specifiers listed) 0 (next + 0 + 0) listed) [] ∙ ap (λ l. l ++ []) (listed_bind_none (inside outer (next + 0) specifiers listed 0) are 0 (next + 0 + 0));
  opens_none = λ n. Prim.omega (arith, listed_open_none are);
}

new_passed : {source : List ℕ} {k : Kind} {below : Forest} → IsNew source k below → Passed k below
new_passed {source = source} (new_names passed j are) = record {
  binds_none = λ c next.
      let outer = inside c next (export_named_declaration (Some source)) (absent (node specifiers j passed nothing)) 1 in
      bindings_append (sites (inside outer (next + 0) specifiers passed) 0 (next + 0 + 0) passed) [] ∙ ap (λ l. l ++ []) (passed_bind_none (inside outer (next + 0) specifiers passed 0) are 0 (next + 0 + 0));
  opens_none = λ n. Prim.omega (arith, passed_open_none are);
}
new_passed (new_namespace name) = record { binds_none = λ c next. refl; opens_none = λ n. refl }

module _ (c : Context) where
  left_exported : {listed r s : Forest} → AreListed listed → (i j next : ℕ) → WithoutExport listed r s → exported c i next s ≡ exported c j next r
  left_exported are i j next (export_leaves n m rest) = exported_anywhere c i (suc j) next rest ∙ sym (node_passed c (export_passed m are) n rest j next)
  left_exported are i j next (leaves_behind k n below r s out) =
      exported_first c k n below s i next ∙ ap (λ l. bindings_among (own c k next below) ++ l) (left_exported are (suc i) (suc j) (next + scope_count (node k n below nothing)) out) ∙ sym (exported_first c k n below r j next)

  row_exported : {names : Forest} (i j next : ℕ) {r s z : Forest} → PassesIn names r s z → exported c i next z ≡ exported c j next r
  row_exported i j next (passes_here source n m o listed k below r s on out) =
      let known = parts on in
      node_passed c (new_passed known.new) o s i next ∙ left_exported known.listed_are (suc i) (suc j) next out ∙ sym (node_passed c (import_passed source m known.names_are) n r j next)
  row_exported i j next (passes_behind k n below r s z h) =
      exported_first c k n below z i next ∙ ap (λ l. bindings_among (own c k next below) ++ l) (row_exported (suc i) (suc j) (next + scope_count (node k n below nothing)) h) ∙ sym (exported_first c k n below r j next)

pub same_exports : (t u : Forest) → PassedExports t u → exported_declarations u ≡ exported_declarations t
same_exports _ _ (exports_pass n m names r s z h free none) =
    let top = inside outermost 0 (program source_type.Module) (node statements m z nothing) 0 in
    let c = inside top 1 statements z 0 in
    twice (exported_sites (λ i. c) 0 1 z) ∙ row_exported c 0 0 1 h ∙ sym (twice (exported_sites (λ i. c) 0 1 r))
  where
    twice : (xs : List Site) → bindings_among ((xs ++ []) ++ []) ≡ bindings_among xs
    twice xs = ap bindings_among (append-nil (xs ++ []) ∙ append-nil xs)

pub same_evaluates : (t u : Forest) → PassedExports t u → evaluates_somewhere u ≡ evaluates_somewhere t
same_evaluates _ _ (exports_pass n m names r s z h free none) = ap (λ b. (false || b) || false) (passed_evals h)
