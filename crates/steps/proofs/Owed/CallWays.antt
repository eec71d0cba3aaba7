-- The way to an item of a list, in a core tree of the table: through blocks, branches, switches and tries in one entry, or behind a loop or a
-- function.
use Rattle.std.proofs.Common.{◌≡◌, ◌∙◌, ◌⊎◌, inl, inr, [], ◌∷◌, Bool, true, false, ◌&&◌, Some, None, refl, sym, subst, true≢false}
use Rattle.js_syntax.specs.Class.{Class, binding_element}
use Rattle.js_syntax.specs.declared.node_kind.NodeKind.{NodeKind as Kind}
use Rattle.js_syntax.specs.declared.kind.FunctionKind.{FunctionKind}
use Rattle.js_syntax.specs.Node.{Note, Forest, Tree, nothing, node, absent}
use Rattle.js_syntax.proofs.Truth.{first_of_both, second_of_both}
use Rattle.js_meaning.specs.Scope as scope
use Rattle.js_meaning.specs.Scope.{first_name}
use Rattle.js_meaning_near.specs.Near.{is_passage, Row, fields, items as near_items, row_below}
use Rattle.js_meaning_near.specs.Local.{KeysStay, ReadsSame}
use Rattle.json_shape.specs.Shape as shape
use Rattle.json_shape.specs.Shape.{Place, one, list, Plan, these, first_place, IsAt, Stand}
use Rattle.min_pass.specs.declared.around.Around.{Around as Asked}
use Rattle.min_pass.specs.declared.around.Row.{Row as AskedRow}
use Rattle.min_pass.specs.declared.around.Row.TheVariants.{Items as items, OfItem as of_item}
use Rattle.min_pass.specs.Around.{row_below as asked_row_below, entered as asked_below}
use Rattle.scope_laws.specs.Place.{Around, first, behind, behind_none, under, plug}
use Rattle.scope_laws.specs.Lists.{without}
use Rattle.steps.specs.Steps.{all_core}
use Rattle.steps.specs.Allowed.Places.{asked_at}
use Rattle.steps.specs.KeepForm.Part.{is_statement}
use Rattle.steps.specs.KeepRuns.Formed.{may_hold, holds_well, is_plain, still, heads, is_formed}
use Rattle.steps.specs.KeepRuns.Ways.{Within, here, through, Further, inside, in_while, in_do, in_for, in_bare_for, in_function, in_unnamed_function, in_code, in_unnamed_code}
use Rattle.steps.specs.KeepRuns.Ways as way
use Rattle.steps.proofs.Fit.CoreRows.{takes_such}
use Rattle.steps.proofs.Fit.Held.{core_here, core_below, core_behind}
use Rattle.steps.proofs.Fit.Holding.{is_sound}
use Rattle.steps.proofs.Fit.Modules.{ends}
use Rattle.steps.proofs.Fit.Passing.{plan_passes, first_passes, behind_passes}
use Rattle.steps.proofs.Fit.Statements.{no_passage, no_other_passage, lacks_passages, is_name, no_name, lacks_names, lacks_at, name_of_none, leads, is_statements, order, is_ordered, dry, nameless, Planned, planned_at, CodeStands, code_stands, body_stands}
use Rattle.steps.proofs.KeepRuns.Calm.{form_holds, form_heads, form_below, form_behind}
use Rattle.steps.proofs.Owed.LeftRuns.{list_of_both, reads_same}
use Rattle.steps.proofs.Owed.Made.{made_at}

-- ---- places

pub items_lead : (row : AskedRow) (k : Kind) → asked_row_below row k ≡ items → is_statements k ≡ true
items_lead row Kind.Statements e = refl
items_lead of_item Kind.Declarators e = absurd cc
items_lead row Kind.Declarators e = absurd cc
items_lead items (Kind.VariableDeclaration how) e = absurd cc
items_lead row k e = absurd cc

statements_lead : (k : Kind) → is_statements k ≡ true → leads k ≡ true
statements_lead Kind.Statements e = refl
statements_lead k e = absurd (true≢false (sym e))

no_tree : {A : Type 0} (a : Around) (x : Tree) → plug a (Some x) ≡ nothing → A
no_tree (first rest) x e = absurd cc
no_tree (behind k n below a) x e = absurd cc
no_tree (behind_none a) x e = absurd cc
no_tree (under k n a rest) x e = absurd cc

sound_of : (p : Place) → is_ordered p ≡ true → is_sound p ≡ true
sound_of p h = first_of_both (is_sound p) (order p) h

-- the first of a list of statements is no name
first_of_list : (t : Forest) (plan : Plan) → plan_passes nameless plan ≡ true → Stand plan t → all_core t ≡ true → first_name t ≡ None
first_of_list nothing plan h st core = refl
first_of_list (absent r) plan h st core = refl
first_of_list (node k n a r) plan h st core = name_of_none k (lacks_at is_name no_name lacks_names a k (first_place plan) (core_here k n a r core) (first_passes nameless plan refl h) st.0)

module _ (x : Tree) (statement : is_statement x.kind ≡ true) (no_plain : is_plain x.kind ≡ false) where
  -- where no statement stands there is no such place
  pub not_still : (a : Around) → still (plug a (Some x)) ≡ true → ⊥
  not_still (first rest) h = true≢false (sym (first_of_both (is_plain x.kind) (still x.below) (first_of_both (is_plain x.kind && still x.below) (still rest) h)) ∙ no_plain)
  not_still (behind k n below a) h = not_still a (second_of_both (is_plain k && still below) (still (plug a (Some x))) h)
  not_still (behind_none a) h = not_still a h
  not_still (under k n a rest) h = not_still a (second_of_both (is_plain k) (still (plug a (Some x))) (first_of_both (is_plain k && still (plug a (Some x))) (still rest) h))

  abbrev pub Way : Row → Around → Type 0
  Way p a = Within x p a ⊎ Further x p a

  -- a way that goes through passages alone begins with one
  within_leads : (p : Row) (w : Asked) (a : Around) (plan : Plan) → plan_passes dry plan ≡ true → Stand plan (plug a (Some x)) → all_core (plug a (Some x)) ≡ true → Within x p a → (asked_at w a).row ≡ items → w.row ≡ items
  within_leads p w (first rest) plan h st core v item = item
  within_leads p w (behind k n below a) plan h st core (way.past v) item = within_leads p w a (shape.behind plan k) (behind_passes dry plan k h) st.1 (core_behind k n below (plug a (Some x)) core) v item
  within_leads p w (behind_none a) plan h st core (way.past_none v) item = within_leads p w a (shape.behind plan Kind.Hole) (behind_passes dry plan Kind.Hole h) st.1 core v item
  within_leads p w (under k n a rest) plan h st core (through s v) item =
      absurd (true≢false (sym s ∙ lacks_at is_passage no_passage lacks_passages (plug a (Some x)) k (first_place plan) (core_here k n (plug a (Some x)) rest core) (first_passes dry plan refl h) st.0))

  -- ---- below a node

  module _ (k : Kind) (n : Note) (a : Around) (rest : Forest) (w : Asked) (item : (asked_at (asked_below w k) a).row ≡ items) (core : all_core (node k n (plug a (Some x)) rest) ≡ true) where
    leads_there : Planned k (plug a (Some x)) → Within x (row_below k) a → leads k ≡ true
    leads_there planned v = by (leads k) refl
      where
        by : (b : Bool) → leads k ≡ b → leads k ≡ true
        by true e = e
        by false e = statements_lead k (items_lead w.row k (within_leads (row_below k) (asked_below w k) a planned.plan (planned.lacks e) planned.stand (core_below k n (plug a (Some x)) rest core) v item))

  -- the head of a loop holds no passage
  in_loop : (p : Row) (n : Note) (a : Around) (rest : Forest) → Planned Kind.ForStatement (plug a (Some x)) → all_core (plug a (Some x)) ≡ true → Within x fields a → Further x p (under Kind.ForStatement n a rest)
  in_loop p n (behind l m below a) rest planned core (way.past v) = in_for v
  in_loop p n (behind_none a) rest planned core (way.past_none v) = in_bare_for v
  in_loop p n (first r) rest planned core v = elim v [ ]
  in_loop p n (under l m a r) rest planned core (through s v) =
      absurd (true≢false (sym s ∙ lacks_at is_passage no_passage lacks_passages (plug a (Some x)) l (first_place planned.plan) (core_here l m (plug a (Some x)) r core) (planned.head refl) planned.stand.0))

  -- ---- below a function

  module _ (p : Row) (f : FunctionKind) (pure : Bool) (n : Note) (rest : Forest) (named : Around → Around)
      (is_in_body : (i j : Note) (ps : Forest) (b : Around) → Within x fields (under Kind.FunctionBody j b nothing) → Further x p (under (Kind.Function f pure) n (named (behind Kind.Parameters i ps (under Kind.FunctionBody j b nothing))) rest)) where
    body_of_code : (l q : Kind) (i j : Note) (ps r : Forest) (b : Around) → l ≡ Kind.Parameters → q ≡ Kind.FunctionBody → r ≡ nothing → Within x (row_below q) b → Further x p (under (Kind.Function f pure) n (named (behind l i ps (under q j b r))) rest)
    body_of_code l q i j ps r b e g h v =
        subst (λ z. Further x p (under (Kind.Function f pure) n (named (behind z i ps (under q j b r))) rest)) (sym e)
        (subst (λ z. Further x p (under (Kind.Function f pure) n (named (behind Kind.Parameters i ps (under z j b r))) rest)) (sym g)
        (subst (λ z. Further x p (under (Kind.Function f pure) n (named (behind Kind.Parameters i ps (under Kind.FunctionBody j b z))) rest)) (sym h) (is_in_body i j ps b (through refl (subst (λ z. Within x (row_below z) b) g v)))))

    behind_its_name : (a : Around) (c d : Class) → Stand (these (list Kind.Parameters c ∷ one d ∷ [])) (plug a (Some x)) → takes_such no_other_passage d ≡ true → all_core (plug a (Some x)) ≡ true → still (scope.first_of (plug a (Some x))) ≡ true → Within x fields a
        → Further x p (under (Kind.Function f pure) n (named a) rest)
    behind_its_name (behind l i ps (under q j b r)) c d st only core quiet (way.past (through s v)) =
        let inner = core_behind l i ps (node q j (plug b (Some x)) r) core in
        body_of_code l q i j ps r b st.0.0 (body_stands d q (plug b (Some x)) only (core_here q j (plug b (Some x)) r inner) s st.1.0) (ends r st.1.1) v
    behind_its_name (behind l i ps (behind q j below b)) c d st only core quiet (way.past v) = no_tree b x (ends (plug b (Some x)) st.1.1)
    behind_its_name (behind l i ps (behind_none b)) c d st only core quiet (way.past v) = absurd st.1.0
    behind_its_name (behind l i ps (first r)) c d st only core quiet (way.past v) = elim v [ ]
    behind_its_name (behind_none a) c d st only core quiet v = absurd st.0
    behind_its_name (first r) c d st only core quiet v = elim v [ ]
    behind_its_name (under l i b r) c d st only core quiet v = absurd (not_still (under l i b nothing) quiet)

  module _ (p : Row) (f : FunctionKind) (pure : Bool) (n : Note) (rest : Forest) where
    in_its_body : (a : Around) → CodeStands (plug a (Some x)) → all_core (plug a (Some x)) ≡ true → (still (scope.first_of (plug a (Some x))) && still (scope.first_of (scope.behind (plug a (Some x))))) ≡ true → Within x fields a → Further x p (under (Kind.Function f pure) n a rest)
    in_its_body (behind k m name a) code core quiet (way.past v) =
        behind_its_name p f pure n rest (λ b. behind k m name b) (λ i j ps b v. in_function v) a binding_element code.inner code.stand.1 code.only (core_behind k m name (plug a (Some x)) core) (second_of_both (still (node k m name nothing)) (still (scope.first_of (plug a (Some x)))) quiet) v
    in_its_body (behind_none a) code core quiet (way.past_none v) = behind_its_name p f pure n rest (λ b. behind_none b) (λ i j ps b v. in_unnamed_function v) a binding_element code.inner code.stand.1 code.only core quiet v
    in_its_body (first r) code core quiet v = elim v [ ]
    in_its_body (under k m a r) code core quiet v = absurd (not_still (under k m a nothing) (first_of_both (still (node k m (plug a (Some x)) nothing)) (still (scope.first_of r)) quiet))

    further_in : (a : Around) → (still (scope.first_of (plug a (Some x))) && still (scope.first_of (scope.behind (plug a (Some x))))) ≡ true → Further x fields a → Further x p (under (Kind.Function f pure) n a rest)
    further_in (behind k m name a) quiet (way.past v) = in_code v
    further_in (behind_none a) quiet (way.past_none v) = in_unnamed_code v
    further_in (first r) quiet v = elim v [ ]
    further_in (under k m a r) quiet v = absurd (not_still (under k m a nothing) (first_of_both (still (node k m (plug a (Some x)) nothing)) (still (scope.first_of r)) quiet))

  -- ---- a node on the way

  keys_of : (k : Kind) (a b : Forest) → ReadsSame k a b → KeysStay k a b
  keys_of Kind.ObjectExpression a b q = q
  keys_of k a b q = tt

  around_node : (p : Row) (above k : Kind) (n : Note) (a : Around) (rest : Forest) (place : Place) → may_hold above k ≡ true → heads k (plug a (Some x)) ≡ true → all_core (node k n (plug a (Some x)) rest) ≡ true → is_ordered place ≡ true → IsAt k (plug a (Some x)) (λ p. Stand p (plug a (Some x))) place
      → Planned k (plug a (Some x)) → KeysStay k (plug a (Some x)) (without a) → (Within x (row_below k) a → leads k ≡ true) → Way (row_below k) a → Way p (under k n a rest)
  around_node p above (Kind.Program source) n a rest place may head core o at planned keys lead v = absurd (true≢false (sym may))
  around_node p above (Kind.Function f pure) n a rest place may head core o at planned keys lead (inl v) = inr (in_its_body p f pure n rest a (code_stands f pure (plug a (Some x)) place o at) (core_below (Kind.Function f pure) n (plug a (Some x)) rest core) head v)
  around_node p above (Kind.Function f pure) n a rest place may head core o at planned keys lead (inr v) = inr (further_in p f pure n rest a head v)
  around_node p above Kind.WhileStatement n a rest place may head core o at planned keys lead (inl v) = inr (in_while v)
  around_node p above Kind.DoWhileStatement n a rest place may head core o at planned keys lead (inl v) = inr (in_do v)
  around_node p above Kind.ForStatement n a rest place may head core o at planned keys lead (inl v) = inr (in_loop p n a rest planned (core_below Kind.ForStatement n (plug a (Some x)) rest core) v)
  around_node p above k n a rest place may head core o at planned keys lead (inl v) = inl (through (lead v) v)
  around_node p above k n a rest place may head core o at planned keys lead (inr v) = inr (inside tt keys v)

  -- ---- all of it

  pub way_of : (p : Row) (w : Asked) (above : Kind) (a : Around) (plan : Plan) → plan_passes is_ordered plan ≡ true → Stand plan (plug a (Some x)) → all_core (plug a (Some x)) ≡ true → holds_well above (plug a (Some x)) ≡ true → is_formed (plug a (Some x)) ≡ true
      → (w.row ≡ items → p ≡ near_items) → (w.row ≡ items → plan_passes nameless plan ≡ true) → (asked_at w a).row ≡ items → Way p a
  way_of p w above (first rest) plan o st core holds formed listed names item =
      inl (subst (λ q. Within x q (first rest)) (sym (listed item)) (here (first_of_list rest (shape.behind plan x.kind) (behind_passes nameless plan x.kind (names item)) st.1 (core_behind x.kind x.note x.below rest core))))
  way_of p w above (behind k n below a) plan o st core holds formed listed names item =
      elim (way_of p w above a (shape.behind plan k) (behind_passes is_ordered plan k o) st.1 (core_behind k n below (plug a (Some x)) core) (second_of_both (may_hold above k) (holds_well above (plug a (Some x))) holds) (form_behind k below (plug a (Some x)) formed) listed
      (λ e. behind_passes nameless plan k (names e)) item) [
        | inl v ↦ inl (way.past v)
        | inr v ↦ inr (way.past v)
      ]
  way_of p w above (behind_none a) plan o st core holds formed listed names item =
      elim (way_of p w above a (shape.behind plan Kind.Hole) (behind_passes is_ordered plan Kind.Hole o) st.1 core holds formed listed (λ e. behind_passes nameless plan Kind.Hole (names e)) item) [
        | inl v ↦ inl (way.past_none v)
        | inr v ↦ inr (way.past_none v)
      ]
  way_of p w above (under k n a rest) plan o st core holds formed listed names item =
      let below = plug a (Some x) in
      let place = first_place plan in
      let here_core = core_here k n below rest core in
      let ordered = first_passes is_ordered plan refl o in
      let planned = planned_at k below here_core place ordered st.0 in
      let same = reads_same x statement w k a item (λ single. made_at below k single place (sound_of place ordered) st.0) in
      around_node p above k n a rest place (first_of_both (may_hold above k) (holds_well above rest) holds) (form_heads k below rest formed) core ordered st.0 planned (keys_of k below (without a) same) (leads_there k n a rest w item core planned)
      (way_of (row_below k) (asked_below w k) k a planned.plan planned.ordered planned.stand (core_below k n below rest core) (form_holds k below rest formed) (form_below k below rest formed) (list_of_both w.row k) (λ e. planned.items (items_lead w.row k e)) item)
