-- Code of modules is strict everywhere, and what the rules of form say of a node and of the names below it there.
use Rattle.std.proofs.Common.{◌≡◌, ◌∙◌, ℕ, suc, ◌+◌, List, [], ◌++◌, Bool, true, false, ◌||◌, ◌==◌, codes, refl, sym, ap, subst, true≢false}
use Rattle.std.specs.Str.{bytes_eq}
use Rattle.std.proofs.lemmas.Bool.{or_left, false_from_ne_true}
use Rattle.std.proofs.lemmas.Slice.Eq.{bytes_eq-Decides}
use Rattle.js_tree.specs.Count.{one_each, node_count}
use Rattle.js_syntax.specs.declared.node_kind.NodeKind.{NodeKind as Kind}
use Rattle.js_syntax.specs.declared.kind.FunctionKind.{FunctionKind}
use Rattle.js_syntax.specs.declared.kind.FunctionKind.TheVariants as function_kind
use Rattle.js_syntax.specs.Node.{Forest, nothing, node, absent}
use Rattle.form_rules.specs.declared.rule.Break.{Break}
use Rattle.form_rules.specs.Name.{may_be_bound}
use Rattle.form_rules.specs.Scope.{Declared}
use Rattle.form_rules.specs.Context as form
use Rattle.form_rules.specs.Context.{Context, is_module, is_strict_function, in_function, inside}
use Rattle.form_rules.specs.Rules.{each_breaks, declared_places, rule_1, rule_2, rule_3, rule_4, rule_5, rule_6, rule_7, rule_8, rule_9, rule_10, rule_11, rule_12, broken_at}
use Rattle.form_rules.specs.Form.{broken_in}
use Rattle.js_meaning.specs.Value.{Text, this_name}
use Rattle.js_meaning.specs.Scope.{default_name}
use Rattle.json_text.specs.Text.{is_identifier_name}
use Rattle.steps.specs.Naming.Placed.{Place, sort_of, place_below, fits, well_placed}
use Rattle.steps.proofs.Naming.Lists.{either}
use Rattle.steps.proofs.Naming.Taking.{never_fits}
use Rattle.steps.proofs.Naming.Sites.{placed_here, placed_below, placed_behind}
use Rattle.steps.proofs.KeepForm.Rules.{first_empty, second_empty, no_places, no_names, is_kept}

-- ---- lists of breaks

pub none_later : (rule : ℕ) (ds : List Declared) → each_breaks rule (declared_places ds) ≡ [] → ds ≡ []
none_later rule ds h = no_names ds (no_places rule (declared_places ds) h)

-- ---- the rules that speak of names

front : (a b c d e f g h i j k l : List Break) → a ++ b ++ c ++ d ++ e ++ f ++ g ++ h ++ i ++ j ++ k ++ l ≡ [] → (a ≡ []) × (e ≡ []) × (i ≡ [])
front a b c d e f g h i j k l z =
    let to_i = first_empty (a ++ b ++ c ++ d ++ e ++ f ++ g ++ h ++ i) j (first_empty (a ++ b ++ c ++ d ++ e ++ f ++ g ++ h ++ i ++ j) k (first_empty (a ++ b ++ c ++ d ++ e ++ f ++ g ++ h ++ i ++ j ++ k) l z)) in
    let to_e = first_empty (a ++ b ++ c ++ d ++ e) f (first_empty (a ++ b ++ c ++ d ++ e ++ f) g (first_empty (a ++ b ++ c ++ d ++ e ++ f ++ g) h (first_empty (a ++ b ++ c ++ d ++ e ++ f ++ g ++ h) i to_i))) in
    (first_empty a b (first_empty (a ++ b) c (first_empty (a ++ b ++ c) d (first_empty (a ++ b ++ c ++ d) e to_e))), second_empty (a ++ b ++ c ++ d) e to_e, second_empty (a ++ b ++ c ++ d ++ e ++ f ++ g ++ h) i to_i)

pub of_names : (c : Context) (k : Kind) (p : ℕ) (a : Forest) → broken_at c k p a ≡ [] → (rule_1 c k p a ≡ []) × (rule_5 c k p a ≡ []) × (rule_9 c k p a ≡ [])
of_names c k p a h =
    front (rule_1 c k p a) (rule_2 c k p a) (rule_3 c k p a) (rule_4 c k p a) (rule_5 c k p a) (rule_6 c k p a) (rule_7 c k p a) (rule_8 c k p a) (rule_9 c k p a) (rule_10 c k p a) (rule_11 c k p a) (rule_12 c k p a) h

-- ---- a row that breaks none

pub kept_here : (cs : ℕ → Context) (at q : ℕ) (k : Kind) (n : _) (a r : Forest) → broken_in cs at q (node k n a r) ≡ [] → broken_at (cs at) k q a ≡ []
kept_here cs at q k n a r h =
    first_empty (broken_at (cs at) k q a) (broken_in (inside (cs at) k a) 0 (q + one_each k) a)
    (first_empty (broken_at (cs at) k q a ++ broken_in (inside (cs at) k a) 0 (q + one_each k) a) (broken_in cs (suc at) (q + node_count (node k n a nothing)) r) h)

pub kept_below : (cs : ℕ → Context) (at q : ℕ) (k : Kind) (n : _) (a r : Forest) → broken_in cs at q (node k n a r) ≡ [] → broken_in (inside (cs at) k a) 0 (q + one_each k) a ≡ []
kept_below cs at q k n a r h =
    second_empty (broken_at (cs at) k q a) (broken_in (inside (cs at) k a) 0 (q + one_each k) a)
    (first_empty (broken_at (cs at) k q a ++ broken_in (inside (cs at) k a) 0 (q + one_each k) a) (broken_in cs (suc at) (q + node_count (node k n a nothing)) r) h)

pub kept_behind : (cs : ℕ → Context) (at q : ℕ) (k : Kind) (n : _) (a r : Forest) → broken_in cs at q (node k n a r) ≡ [] → broken_in cs (suc at) (q + node_count (node k n a nothing)) r ≡ []
kept_behind cs at q k n a r h = second_empty (broken_at (cs at) k q a ++ broken_in (inside (cs at) k a) 0 (q + one_each k) a) (broken_in cs (suc at) (q + node_count (node k n a nothing)) r) h

-- ---- strict code

abbrev IsStrict : Context → Type 0
IsStrict c = c.strict ≡ true

strict_function : (how : FunctionKind) (b : Bool) (c : Context) → b ≡ true → IsStrict (in_function how b c)
strict_function function_kind.Arrow b c h = h
strict_function how b c h = h

pub strict_below : (p : Place) (c : Context) (k : Kind) (a : Forest) (at : ℕ) → fits p (sort_of k) ≡ true → c.strict ≡ true → (inside c k a at).strict ≡ true
strict_below p c (Kind.Program source) a at f h = absurd (never_fits p f)
strict_below p c (Kind.Function how pure) a at f h = strict_function how (c.strict || is_strict_function a) c (or_left c.strict (is_strict_function a) h)
strict_below p c (Kind.Class how) a at f h = refl
strict_below p c (Kind.MethodDefinition how is_static key) a at f h = either IsStrict (at == 1) (form.as_role (form.role_of_method how c.members.is_derived) c) (form.below_it c) h h
strict_below p c (Kind.PropertyDefinition is_static key) a at f h = absurd (never_fits p f)
strict_below p c (Kind.Property how is_one key) a at f h = either IsStrict (at == 1) (form.as_role (form.role_of_property how is_one) c) (form.below_it c) h h
strict_below p c Kind.IfStatement a at f h = either IsStrict (at == 0) (form.below_it c) (form.as_body c) h h
strict_below p c Kind.WithStatement a at f h = either IsStrict (at == 0) (form.below_it c) (form.as_body c) h h
strict_below p c Kind.WhileStatement a at f h = either IsStrict (at == 0) (form.below_it c) (form.in_loop c) h h
strict_below p c Kind.DoWhileStatement a at f h = either IsStrict (at == 0) (form.in_loop c) (form.below_it c) h h
strict_below p c Kind.ForStatement a at f h = either IsStrict (at == 3) (form.in_loop c) (form.below_it c) h h
strict_below p c Kind.ForInStatement a at f h = absurd (never_fits p f)
strict_below p c Kind.ForOfStatement a at f h = absurd (never_fits p f)
strict_below p c Kind.SwitchStatement a at f h = either IsStrict (at == 1) (form.in_switch c) (form.below_it c) h h
strict_below p c k a at f h = h

-- ---- names that are bound

abbrev pub OkName : Text → Type 0
OkName x = (bytes_eq (codes "arguments") x ≡ false) × (bytes_eq this_name x ≡ false) × (bytes_eq default_name x ≡ false)

other_than : (w x : Text) (m : Bool) → may_be_bound true m w ≡ false → may_be_bound true m x ≡ true → bytes_eq w x ≡ false
other_than w x m h g = false_from_ne_true (bytes_eq w x) (λ e. true≢false (sym g ∙ ap (may_be_bound true m) (sym ((bytes_eq-Decides w x).0 e)) ∙ h))

no_arguments : (m : Bool) → may_be_bound true m (codes "arguments") ≡ false
unfolding is_identifier_name
no_arguments true = refl
no_arguments false = refl

no_this : (m : Bool) → may_be_bound true m this_name ≡ false
unfolding is_identifier_name
no_this true = refl
no_this false = refl

no_default : (m : Bool) → may_be_bound true m default_name ≡ false
unfolding is_identifier_name
no_default true = refl
no_default false = refl

ok_strict : (m : Bool) (x : Text) → may_be_bound true m x ≡ true → OkName x
ok_strict m x h = (other_than (codes "arguments") x m (no_arguments m) h, other_than this_name x m (no_this m) h, other_than default_name x m (no_default m) h)

abbrev pub OkAt : Kind → Type 0
OkAt (Kind.BindingName x) = OkName x
OkAt k = Unit {0}

abbrev pub AllOk : Forest → Type 0
AllOk nothing = Unit {0}
AllOk (absent r) = AllOk r
AllOk (node k n a r) = OkAt k × AllOk a × AllOk r

ok_at : (c : Context) (k : Kind) (q : ℕ) (a : Forest) → c.strict ≡ true → rule_5 c k q a ≡ [] → OkAt k
ok_at c (Kind.BindingName x) q a s h = ok_strict (is_module c.source) x (subst (λ b. may_be_bound b (is_module c.source) x ≡ true) s (is_kept (may_be_bound c.strict (is_module c.source) x) q 5 h))
ok_at c k q a s h = tt

pub all_ok : (cs : ℕ → Context) (ps : ℕ → Place) (at q : ℕ) (t : Forest) → ((i : ℕ) → (cs i).strict ≡ true) → well_placed ps at t ≡ true → broken_in cs at q t ≡ [] → AllOk t
all_ok cs ps at q nothing s w h = tt
all_ok cs ps at q (absent r) s w h = all_ok cs ps (suc at) q r s w h
all_ok cs ps at q (node k n a r) s w h =
    let here = placed_here ps at k n a r w in (
      ok_at (cs at) k q a (s at) (of_names (cs at) k q a (kept_here cs at q k n a r h)).1,
      all_ok (inside (cs at) k a) (place_below (ps at) k) 0 (q + one_each k) a (λ i. strict_below (ps at) (cs at) k a i here (s at)) (placed_below ps at k n a r w) (kept_below cs at q k n a r h),
      all_ok cs ps (suc at) (q + node_count (node k n a nothing)) r s (placed_behind ps at k n a r w) (kept_behind cs at q k n a r h),
    )
