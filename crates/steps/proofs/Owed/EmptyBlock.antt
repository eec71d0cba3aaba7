-- What a block of nothing owes that leaves its list.
use Rattle.std.proofs.Common.{◌≡◌, ◌∙◌, ◌≤◌, List, [], ◌++◌, inl, inr, Bool, true, false, ◌&&◌, Some, arith, refl, sym, ap, ap₂, subst, true≢false}
use Rattle.js_syntax.specs.Class.{root}
use Rattle.js_syntax.specs.declared.node_kind.NodeKind.{NodeKind as Kind}
use Rattle.js_syntax.specs.declared.node_kind.NodeKind.TheVariants.{Statements as statements, EmptyStatement as empty_statement, BlockStatement as block_statement, LabeledStatement as labeled_statement}
use Rattle.js_syntax.specs.Facts.{weight}
use Rattle.js_syntax.specs.Node.{Forest, Tree, nothing, node, absent, forest_of, bare}
use Rattle.js_syntax.proofs.Truth.{both}
use Rattle.js_meaning.specs.Value.{Text}
use Rattle.js_meaning.specs.Scope.{Decl, vars_of, var_names, specifier_decls, import_decls}
use Rattle.json_shape.specs.Shape.{is_directive_kind, Fits}
use Rattle.min_pass.specs.declared.around.Around.{Around as Asked}
use Rattle.min_pass.specs.Around.{outermost as asked_of_program}
use Rattle.scope_rules.specs.Context.{outermost}
use Rattle.scope_laws.specs.Place.{Around, plug}
use Rattle.steps.specs.Allowed.Branches.{is_handler, lets_only, stays_inside_at, inside_from, stays_inside, declares_none, declares_no_name}
use Rattle.steps.specs.Allowed.Changing.{holds_items, may_change_at}
use Rattle.steps.specs.Allowed.EmptyBlock.{is_idle, idles, holds_nothing, EmptyBlock, empty_block_leaves}
use Rattle.steps.specs.Allowed.Exposure.{Exposure, exposure, evaluates_somewhere}
use Rattle.steps.specs.Allowed.Places.{asked_at}
use Rattle.steps.specs.KeepForm.Part.{is_statement}
use Rattle.steps.specs.KeepForm.Sheds.{exports_none}
use Rattle.steps.proofs.KeepForm.Rules.{first_empty}
use Rattle.steps.specs.Owed.Owed.{IsOther, IsUnexported, by_change, Leaving}
use Rattle.steps.proofs.Owed.Focus.{always, follows_there}
use Rattle.steps.proofs.Owed.IdleRuns.{held, does_nothing, leaving_is_local}
use Rattle.steps.proofs.Owed.Outward.{declares_nothing}
use Rattle.steps.proofs.Owed.PartForm.{outside_as, nothing_declared}
use Rattle.steps.proofs.Owed.Undeclared.{no_variables}
use Rattle.steps.proofs.Owed.Unreached.{no_catch}
use Rattle.steps.proofs.Owed.Unseen.{enclosed_alone_there}

no_kind : {A : Type 0} → false ≡ true → A
no_kind e = absurd (true≢false (sym e))

-- ---- it declares no name

inside_here : (k : Kind) (a : Forest) → is_idle k ≡ true → stays_inside a ≡ true → stays_inside_at k (lets_only a) (inside_from (is_handler k) a) ≡ true
inside_here empty_statement a h e = e
inside_here statements a h e = e
inside_here block_statement a h e = e
inside_here (labeled_statement l) a h e = e
inside_here k a h e = no_kind h

pub names_inside : (t : Forest) → idles t ≡ true → stays_inside t ≡ true
names_inside nothing h = refl
names_inside (absent r) h = names_inside r h
names_inside (node k n a r) h =
    let o = held k a r h in
    both (stays_inside_at k (lets_only a) (inside_from (is_handler k) a)) (stays_inside r) (inside_here k a o.idle (names_inside a o.below)) (names_inside r o.rest)

none_here : (k : Kind) (a : Forest) → is_idle k ≡ true → stays_inside a ≡ true → declares_none a ≡ true → declares_no_name k a ≡ true
none_here empty_statement a h i e = e
none_here statements a h i e = e
none_here block_statement a h i e = i
none_here (labeled_statement l) a h i e = e
none_here k a h i e = no_kind h

pub none_declared : (t : Forest) → idles t ≡ true → declares_none t ≡ true
none_declared nothing h = refl
none_declared (absent r) h = none_declared r h
none_declared (node k n a r) h =
    let o = held k a r h in
    both (declares_no_name k a) (declares_none r) (none_here k a o.idle (names_inside a o.below) (none_declared a o.below)) (none_declared r o.rest)

imports_here : (source : Text) (k : Kind) (a : Forest) (ds : List Decl) → is_idle k ≡ true → ds ≡ [] → specifier_decls source k a ds ≡ []
imports_here source empty_statement a ds h e = e
imports_here source statements a ds h e = e
imports_here source block_statement a ds h e = e
imports_here source (labeled_statement l) a ds h e = e
imports_here source k a ds h e = no_kind h

pub none_imported : (source : Text) (t : Forest) → idles t ≡ true → import_decls source t ≡ []
none_imported source nothing h = refl
none_imported source (absent r) h = none_imported source r h
none_imported source (node k n a r) h =
    let o = held k a r h in
    ap (λ ds. ds ++ import_decls source r) (imports_here source k a (import_decls source a) o.idle (none_imported source a o.below)) ∙ none_imported source r o.rest

-- ---- the node

pub record Holds (k : Kind) (a : Forest) : Type 0 where
  pub idle : is_idle k ≡ true
  pub below : idles a ≡ true
  pub weighs : 1 ≤ weight k
  pub states : is_statement k ≡ true
  pub no_directive : is_directive_kind k ≡ false

pub holds : (k : Kind) (a : Forest) → holds_nothing k a ≡ true → Holds k a
holds block_statement a h = record { idle = refl; below = h; weighs = Prim.omega arith; states = refl; no_directive = refl }
holds (labeled_statement l) a h = record { idle = refl; below = h; weighs = Prim.omega arith; states = refl; no_directive = refl }
holds k a h = no_kind h

pub holding_declares_none : (x : Tree) → holds_nothing x.kind x.below ≡ true → declares_none (forest_of x) ≡ true
holding_declares_none x h =
    let o = holds x.kind x.below h in
    both (declares_no_name x.kind x.below) true (none_here x.kind x.below o.idle (names_inside x.below o.below) (none_declared x.below o.below)) refl

is_other : (x : Tree) → holds_nothing x.kind x.below ≡ true → IsOther x
is_other x h = other x.kind h
  where
    other : (k : Kind) → holds_nothing k x.below ≡ true → IsOther (record x { kind = k })
    other block_statement h = record { counts = refl; lists = λ m. refl; begins = λ m. refl; calls = refl }
    other (labeled_statement l) h = record { counts = refl; lists = λ m. refl; begins = λ m. refl; calls = refl }
    other k h = no_kind h

may_change : (evaluates : Bool) (w : Asked) (e : Exposure) (k : Kind) (a : Forest) → holds_nothing k a ≡ true → holds_items w.row ≡ true → may_change_at evaluates w e k a ≡ true
may_change evaluates w e block_statement a h item = both (holds_items w.row) (idles a) item h
may_change evaluates w e (labeled_statement l) a h item = refl
may_change evaluates w e k a h item = no_kind h

-- ---- all of it

pub empty_block_owes : (a : Around) (x : Tree) → EmptyBlock a x → Leaving a x
empty_block_owes a x (empty_block_leaves item nothing_held) =
    let o = holds x.kind x.below nothing_held in
    let none = holding_declares_none x nothing_held in
    record {
      weighs = Prim.omega (arith, o.weighs);
      listed = inl item;
      no_directive = o.no_directive;
      no_call = inl (is_other x nothing_held);
      may_change = inl (may_change (evaluates_somewhere (plug a (Some x))) (asked_at (asked_of_program true) a) (exposure a (Some x)) x.kind x.below nothing_held (ap holds_items item));
      unseen = λ e. inr (declares_nothing (forest_of x) none (enclosed_alone_there a x.kind x.note x.below e));
      unexported = follows_there (λ b c i. Unit {0}) (IsUnexported (plug a (Some x)) x)
          (λ b c i h z within right seeks. ap (exports_none z.exported) (nothing_declared z.sought 0 (forest_of x) (outside_as z.sought (forest_of x) (no_catch (plug a (Some x)) z.sought z.exported c seeks)) none)) (Some x) a false (λ at. outermost) 0 0
          (always (Some x) a false (λ at. outermost) 0 0);
      runs = by_change (λ n m b is fits form core. leaving_is_local x (does_nothing x.kind x.below nothing_held) o.states (record {
        vars = first_empty (vars_of x.kind x.below (var_names x.below)) [] (no_variables (forest_of x) none);
        imports = λ source. imports_here source x.kind x.below (import_decls source x.below) o.idle (none_imported source x.below o.below);
      }) a item (subst (Fits root) (sym is) fits));
    }

-- ---- spans and ids don't tell

pub bare_idles : (t : Forest) → idles (bare t) ≡ idles t
bare_idles nothing = refl
bare_idles (absent rest) = bare_idles rest
bare_idles (node k n below rest) = ap₂ (λ b c. is_idle k && (b && c)) (bare_idles below) (bare_idles rest)

pub holds_bare : (k : Kind) (t : Forest) → holds_nothing k (bare t) ≡ holds_nothing k t
holds_bare block_statement t = bare_idles t
holds_bare (labeled_statement l) t = bare_idles t
holds_bare k t = refl
