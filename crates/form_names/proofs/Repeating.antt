-- Exported names and private names that repeat, and exported names that are not declared.
use Rattle.std.proofs.Common.{◌≡◌, ◌∙◌, ◌<◌, ◌≤◌, ◌+◌, ℕ, List, [], ◌∷◌, Bool, true, false, not, ◌&&◌, ◌||◌, Option, if◌then◌else◌, length, get_or, drop, drop_of_length-le, refl, sym, ap, subst}
use Rattle.std.specs.Str.{bytes_eq}
use Rattle.form_rules.specs.declared.rule.Break.{Break}
use Rattle.form_rules.specs.declared.role.Half.{Half}
use Rattle.form_rules.specs.declared.role.Half.TheVariants.{Getter as getter, Setter as setter, Whole as whole_half}
use Rattle.form_rules.specs.Break.{unless, least, merged}
use Rattle.form_rules.specs.Scope.{Declared}
use Rattle.form_rules.specs.Rules.{Exported, is_exported, repeated_exports, is_declared, undeclared, Private, is_repeated, repeated_privates}
use Rattle.js_tree.proofs.Rows.{front_of}
use Rattle.form_names.specs.declared.halves.Halves.{Halves}
use Rattle.form_names.specs.Sorts.{or_if}
use Rattle.form_names.specs.Halves.{no_halves, with_half, repeats, any_repeated}
use Rattle.form_names.proofs.Firsts.{IsFirst, first_if_more, first_unless_more}
use Rattle.form_names.proofs.Clashing.{raised, below}

-- ---- exports

pub exports_more : (exported : List Exported) (i : ℕ) (e : Exported) (seen : List Exported) (is_new : Bool) (first next whole : Option Break)
    → i < length exported → e ≡ get_or exported i e → is_new ≡ not (is_exported e.name seen) → next ≡ merged first (least (unless is_new e.place 7))
    → IsFirst 7 first whole (repeated_exports seen (drop i exported)) → IsFirst 7 next whole (repeated_exports (e ∷ seen) (drop (i + 1) exported))
exports_more exported i e seen is_new first next whole within at new is so_far =
    first_if_more 7 first next whole (is_exported e.name seen) e.place (repeated_exports (e ∷ seen) (drop (i + 1) exported))
    (is ∙ ap (λ b. merged first (least (unless b e.place 7))) new)
    (subst (IsFirst 7 first whole) (ap (repeated_exports seen) (front_of exported i e within at)) so_far)

pub added : (named : Bool) {had was : Bool} → had ≡ was → (if named then true else had) ≡ named || was
added true is = refl
added false is = is

pub undeclared_more : (declared : List Declared) (exported : List Exported) (i : ℕ) (e : Exported) (has : Bool) (first next whole : Option Break)
    → i < length exported → e ≡ get_or exported i e → has ≡ is_declared e.name declared → next ≡ merged first (least (unless has e.place 7))
    → IsFirst 7 first whole (undeclared declared (drop i exported)) → IsFirst 7 next whole (undeclared declared (drop (i + 1) exported))
undeclared_more declared exported i e has first next whole within at known is so_far =
    first_unless_more 7 first next whole (is_declared e.name declared) e.place (undeclared declared (drop (i + 1) exported))
    (is ∙ ap (λ b. merged first (least (unless b e.place 7))) known)
    (subst (IsFirst 7 first whole) (ap (undeclared declared) (front_of exported i e within at)) so_far)

-- ---- declared names

either : (had named rest : Bool) → (if named then true else had) || rest ≡ had || (named || rest)
either true true rest = refl
either true false rest = refl
either false true rest = refl
either false false rest = refl

pub declared_more : (declared : List Declared) (i : ℕ) (d : Declared) (q : List ℕ) (had has whole : Bool) → i < length declared → d ≡ get_or declared i d
    → has ≡ (if bytes_eq d.name q then true else had) → had || is_declared q (drop i declared) ≡ whole → has || is_declared q (drop (i + 1) declared) ≡ whole
declared_more declared i d q had has whole within at is so_far =
    ap (λ b. b || is_declared q (drop (i + 1) declared)) is ∙ either had (bytes_eq d.name q) (is_declared q (drop (i + 1) declared))
    ∙ ap (λ ds. had || is_declared q ds) (sym (front_of declared i d within at)) ∙ so_far

or_false : (b : Bool) → b ≡ b || false
or_false true = refl
or_false false = refl

pub declared_none : (declared : List Declared) (i : ℕ) (q : List ℕ) (had whole : Bool) → length declared ≤ i → had || is_declared q (drop i declared) ≡ whole → had ≡ whole
declared_none declared i q had whole past so_far = or_false had ∙ ap (λ ds. had || is_declared q ds) (sym (drop_of_length-le declared past)) ∙ so_far

-- ---- private names

-- the halves of a name among those seen so far
abbrev pub halves_of : (seen : List Private) → (name : List ℕ) → Halves
halves_of [] q = no_halves
halves_of (p ∷ ps) q = if bytes_eq p.name q then with_half p.half p.is_static (halves_of ps q) else halves_of ps q

with_half_repeats : (one : Half) (is_static : Bool) (half : Half) (also : Bool) (h : Halves)
    → any_repeated half also (with_half one is_static h) ≡ repeats one is_static half also || any_repeated half also h
with_half_repeats whole_half is_static half also h = raised h.whole true _
with_half_repeats getter false half also h = below (repeats getter false half also) _ _ _ _ (raised _ _ _)
with_half_repeats setter false half also h = let under_it = below (repeats setter false half also) in under_it _ _ _ _ (under_it _ _ _ _ (raised _ _ _))
with_half_repeats getter true half also h = let under_it = below (repeats getter true half also) in under_it _ _ _ _ (under_it _ _ _ _ (under_it _ _ _ _ (raised _ _ _)))
with_half_repeats setter true half also h =
    let under_it = below (repeats setter true half also) in under_it _ _ _ _ (under_it _ _ _ _ (under_it _ _ _ _ (under_it _ _ _ _ (raised _ _ _))))

no_halves_repeat : (half : Half) (is_static : Bool) → any_repeated half is_static no_halves ≡ false
unfolding or_if
no_halves_repeat half is_static = refl

where_named : (one : Half) (is_static : Bool) (half : Half) (also : Bool) (h : Halves) (named : Bool)
    → (named && repeats one is_static half also) || any_repeated half also h ≡ any_repeated half also (if named then with_half one is_static h else h)
where_named one is_static half also h true = sym (with_half_repeats one is_static half also h)
where_named one is_static half also h false = refl

repeated_by_halves : (p : Private) (seen : List Private) → is_repeated p seen ≡ any_repeated p.half p.is_static (halves_of seen p.name)
repeated_by_halves p [] = sym (no_halves_repeat p.half p.is_static)
repeated_by_halves p (q ∷ qs) =
    ap (λ b. (bytes_eq q.name p.name && repeats q.half q.is_static p.half p.is_static) || b) (repeated_by_halves p qs)
    ∙ where_named q.half q.is_static p.half p.is_static (halves_of qs p.name) (bytes_eq q.name p.name)

pub privates_more : (privates : List Private) (i : ℕ) (p : Private) (seen : List Private) (before : Halves) (first next whole : Option Break)
    → i < length privates → p ≡ get_or privates i p → before ≡ halves_of seen p.name → next ≡ merged first (least (unless (not (any_repeated p.half p.is_static before)) p.place 4))
    → IsFirst 4 first whole (repeated_privates seen (drop i privates)) → IsFirst 4 next whole (repeated_privates (p ∷ seen) (drop (i + 1) privates))
privates_more privates i p seen before first next whole within at known is so_far =
    first_if_more 4 first next whole (is_repeated p seen) p.place (repeated_privates (p ∷ seen) (drop (i + 1) privates))
    (is ∙ ap (λ b. merged first (least (unless (not b) p.place 4))) (ap (any_repeated p.half p.is_static) known ∙ sym (repeated_by_halves p seen)))
    (subst (IsFirst 4 first whole) (ap (repeated_privates seen) (front_of privates i p within at)) so_far)
