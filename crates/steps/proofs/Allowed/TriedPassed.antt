-- An import and an export that become an export from the other module, tried on small programs.
use Rattle.std.proofs.Common.{◌≡◌, ℕ, List, Bool, [], ◌∷◌, true, false, true≢false, not, ◌&&◌, ◌||◌, codes, bytes_eq, inl, ap, refl, sym}
use Rattle.std.proofs.lemmas.Slice.Eq.{bytes_eq-Decides}
use Rattle.js_syntax.specs.declared.node_kind.NodeKind.{NodeKind as Kind}
use Rattle.js_syntax.specs.declared.node_kind.NodeKind.TheVariants.{BindingName as binding_name}
use Rattle.js_syntax.specs.declared.value.ModuleName.{ModuleName}
use Rattle.js_syntax.specs.declared.value.ModuleName.TheVariants.{Name as named, Text as quoted}
use Rattle.js_syntax.specs.Node.{Forest, nothing, node, absent, nowhere, joined}
use Rattle.js_syntax.proofs.Truth.{second_of_either}
use Rattle.json_text.specs.Text.{is_identifier_name}
use Rattle.form_rules.specs.Samples.{a_module, a, reads, does}
use Rattle.scope_rules.specs.Samples.{b, imports}
use Rattle.steps.specs.Allowed.MergedImports.{is_namespace}
use Rattle.steps.specs.Allowed.PassedExports.{Binds, binds_export, binds_default, binds_behind, passes_none, passes_one, PassedOn, names_passed_on, namespace_passed_on, export_leaves, leaves_behind, PassesIn, passes_here, passes_behind, PassedExports, exports_pass}
use Rattle.steps.specs.Allowed.Rows.{call_of_eval, imports_other, takes_from, default_name, namespace_name, name_as, text_as, shows, shown_as, passes_from, passed_as, passes_namespace}

pub one_passes : PassedExports (a_module (takes_from (name_as a b ∷ []) ∷ shows (shown_as b (codes "c") ∷ []) ∷ [])) (a_module (passes_from (passed_as (named a) (codes "c") ∷ []) ∷ []))
unfolding is_identifier_name
one_passes =
    exports_pass nowhere nowhere (name_as a b) _ _ _
    (passes_here (codes "m") nowhere nowhere nowhere _ _ _ _ _
    (names_passed_on (name_as a b) _ _ nowhere refl (passes_one (named (codes "c")) (named a) nowhere nowhere nowhere b _ _ (binds_export (named a) nowhere nowhere b nothing refl) passes_none))
    (export_leaves nowhere nowhere _))
    (record { unreferred = λ r h e. h; unexported = λ e h s d. h }, tt) refl

-- of `a` and `b`
abbrev both_names : Forest
both_names = joined (name_as a a) (name_as b b)

binds_a : Binds both_names a (named a)
unfolding is_identifier_name
binds_a = binds_export (named a) nowhere nowhere a (name_as b b) refl

binds_b : Binds both_names b (named b)
unfolding is_identifier_name
binds_b = binds_behind _ nowhere _ _ b (named b) (binds_export (named b) nowhere nowhere b nothing refl)

pub several_pass : PassedExports (a_module (takes_from (name_as a a ∷ name_as b b ∷ []) ∷ imports_other ∷ shows (shown_as b b ∷ shown_as a a ∷ shown_as b (codes "c") ∷ []) ∷ []))
    (a_module (passes_from (passed_as (named b) b ∷ passed_as (named a) a ∷ passed_as (named b) (codes "c") ∷ []) ∷ imports_other ∷ []))
several_pass =
    exports_pass nowhere nowhere both_names _ _ _
    (passes_here (codes "m") nowhere nowhere nowhere _ _ _ _ _
    (names_passed_on both_names _ _ nowhere refl
    (passes_one (named b) (named b) nowhere nowhere nowhere b _ _ binds_b
    (passes_one (named a) (named a) nowhere nowhere nowhere a _ _ binds_a (passes_one (named (codes "c")) (named b) nowhere nowhere nowhere b _ _ binds_b passes_none))))
    (leaves_behind _ nowhere _ _ _ (export_leaves nowhere nowhere _)))
    (record { unreferred = λ r h e. h; unexported = λ e h s d. h }, (record { unreferred = λ r h e. h; unexported = λ e h s d. h }, tt)) refl

pub default_passes : PassedExports (a_module (imports a ∷ shows (shown_as a a ∷ []) ∷ [])) (a_module (passes_from (passed_as (named (codes "default")) a ∷ []) ∷ []))
default_passes =
    exports_pass nowhere nowhere (default_name a) _ _ _
    (passes_here (codes "m") nowhere nowhere nowhere _ _ _ _ _
    (names_passed_on (default_name a) _ _ nowhere refl (passes_one (named a) (named (codes "default")) nowhere nowhere nowhere a _ _ (binds_default nowhere nowhere a nothing) passes_none))
    (export_leaves nowhere nowhere _))
    (record { unreferred = λ r h e. h; unexported = λ e h s d. h }, tt) refl

pub namespace_passes : PassedExports (a_module (takes_from (namespace_name a ∷ []) ∷ shows (shown_as a b ∷ []) ∷ [])) (a_module (passes_namespace b ∷ []))
namespace_passes =
    exports_pass nowhere nowhere (namespace_name a) _ _ _
    (passes_here (codes "m") nowhere nowhere nowhere _ _ _ _ _ (namespace_passed_on (named b) nowhere nowhere nowhere nowhere a) (export_leaves nowhere nowhere _))
    (record { unreferred = λ r h e. h; unexported = λ e h s d. h }, tt) refl

pub quoted_passes : PassedExports (a_module (takes_from (text_as (codes "a b") a ∷ []) ∷ shows (shown_as a b ∷ []) ∷ [])) (a_module (passes_from (passed_as (quoted (codes "a b")) b ∷ []) ∷ []))
quoted_passes =
    exports_pass nowhere nowhere (text_as (codes "a b") a) _ _ _
    (passes_here (codes "m") nowhere nowhere nowhere _ _ _ _ _
    (names_passed_on (text_as (codes "a b") a) _ _ nowhere refl (passes_one (named b) (quoted (codes "a b")) nowhere nowhere nowhere a _ _ (binds_export (quoted (codes "a b")) nowhere nowhere a nothing refl) passes_none))
    (export_leaves nowhere nowhere _))
    (record { unreferred = λ r h e. h; unexported = λ e h s d. h }, tt) refl

-- ---- what is no such edit

-- whether a name or a default is bound so
abbrev is_this : Forest → List ℕ → Bool
is_this (node (binding_name y) n below rest) x = bytes_eq y x
is_this t x = false

abbrev is_bound : Forest → List ℕ → Bool
is_bound nothing x = false
is_bound (absent rest) x = is_bound rest x
is_bound (node k n below rest) x = (not (is_namespace k) && is_this below x) || is_bound rest x

itself : (x : List ℕ) → bytes_eq x x ≡ true
itself x = (bytes_eq-Decides x x).1 refl

bound : {names : Forest} {x : List ℕ} {imported : ModuleName} → Binds names x imported → is_bound names x ≡ true
bound (binds_export imported n m x rest exact) = ap (λ c. c || is_bound rest x) (itself x)
bound (binds_default n m x rest) = ap (λ c. c || is_bound rest x) (itself x)
bound (binds_behind k n below rest x imported h) = second_of_either (not (is_namespace k) && is_this below x) (is_bound rest x) (bound h)

-- what becomes of an import right in front of an export
record Found (names listed : Forest) : Type 0 where
  kind : Kind
  below : Forest
  on : PassedOn (codes "m") names listed kind below

two_items : (names listed ns left now : Forest) → PassesIn ns (joined (takes_from (names ∷ [])) (shows (listed ∷ []))) left now → Found (joined names nothing) (joined listed nothing)
two_items names listed _ _ _ (passes_here source n m i _ k below _ _ on (export_leaves j l _)) = record { kind = k; below = below; on = on }
two_items names listed _ _ _ (passes_here source n m i _ k below _ _ on (leaves_behind l j c r s out)) = elim out [ ]
two_items names listed _ _ _ (passes_behind k n below r s z (passes_behind l j c u v w h)) = elim h [ ]

found : (names listed u : Forest) → PassedExports (a_module (takes_from (names ∷ []) ∷ shows (listed ∷ []) ∷ [])) u → Found (joined names nothing) (joined listed nothing)
found names listed _ (exports_pass n m ns r s z passes free none) = two_items names listed ns s z passes

pub further_name_stays : (u : Forest) → PassedExports (a_module (takes_from (name_as a a ∷ []) ∷ shows (joined (shown_as a a) (shown_as b b) ∷ []) ∷ [])) u → ⊥
further_name_stays u h = by (found (name_as a a) (joined (shown_as a a) (shown_as b b)) u h).on
  where
    by : {k : Kind} {below : Forest} → PassedOn (codes "m") (name_as a a) (joined (shown_as a a) (shown_as b b)) k below → ⊥
    by (names_passed_on _ _ _ j may (passes_one exported imported n m i _ _ _ binds (passes_one further its p q l _ _ _ is rest))) = true≢false (sym (bound is))

pub unlisted_name_stays : (u : Forest) → PassedExports (a_module (takes_from (joined (name_as a a) (name_as b b) ∷ []) ∷ shows (shown_as a a ∷ []) ∷ [])) u → ⊥
unlisted_name_stays u h = by (found (joined (name_as a a) (name_as b b)) (shown_as a a) u h).on
  where
    by : {k : Kind} {below : Forest} → PassedOn (codes "m") (joined (name_as a a) (name_as b b)) (shown_as a a) k below → ⊥
    by (names_passed_on _ _ _ j may passes) = true≢false (sym may)

pub namespace_beside_default_stays : (u : Forest) → PassedExports (a_module (takes_from (joined (default_name a) (namespace_name b) ∷ []) ∷ shows (joined (shown_as a a) (shown_as b b) ∷ []) ∷ [])) u → ⊥
namespace_beside_default_stays u h = by (found (joined (default_name a) (namespace_name b)) (joined (shown_as a a) (shown_as b b)) u h).on
  where
    by : {k : Kind} {below : Forest} → PassedOn (codes "m") (joined (default_name a) (namespace_name b)) (joined (shown_as a a) (shown_as b b)) k below → ⊥
    by (names_passed_on _ _ _ j may (passes_one exported imported n m i _ _ _ binds (passes_one further its p q l _ _ _ is rest))) = true≢false (sym (bound is))

pub export_in_front_stays : (u : Forest) → PassedExports (a_module (shows (shown_as a a ∷ []) ∷ imports a ∷ [])) u → ⊥
export_in_front_stays _ (exports_pass n m ns _ s z (passes_behind k l below _ t w (passes_here source i j p listed e c _ v on out)) free none) = elim out [ ]
export_in_front_stays _ (exports_pass n m ns _ s z (passes_behind k l below _ t w (passes_behind e i c _ v x h)) free none) = elim h [ ]

pub used_name_stays : (u : Forest) → PassedExports (a_module (imports a ∷ shows (shown_as a a ∷ []) ∷ does (reads a) ∷ [])) u → ⊥
used_name_stays _ (exports_pass n m _ _ _ z (passes_here source i j p _ k below _ _ on (export_leaves q o _)) free none) = free.0.unreferred _ (inl refl) refl
used_name_stays _ (exports_pass n m _ _ _ z (passes_here source i j p listed k below _ _ on (leaves_behind l q c _ _ (leaves_behind e o d _ _ out))) free none) = elim out [ ]
used_name_stays _ (exports_pass n m _ _ _ z (passes_behind k i below _ _ _ (passes_behind l j c _ _ _ (passes_behind e o d _ _ _ h))) free none) = elim h [ ]

pub evaluated_stays : (u : Forest) → PassedExports (a_module (imports a ∷ shows (shown_as a a ∷ []) ∷ does call_of_eval ∷ [])) u → ⊥
evaluated_stays _ (exports_pass n m ns r s z passes free none) = true≢false none
