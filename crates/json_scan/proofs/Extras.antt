-- Where no member has the key of such a field, none is found.
use Rattle.std.proofs.Common.{◌≡◌, ℕ, List, [], ◌∷◌, map, Bool, true, false, ◌||◌, None, Ok, true≢false, refl, sym, ap, ◌∙◌, codes}
use Rattle.serde_json.specs.Data.{Data, Members, no_members, put}
use Rattle.serde_json.specs.Find.{get_member}
use Rattle.serde_json.proofs.Views.{get_member-put_other}
use Rattle.js_syntax.specs.declared.node_type.NodeType.{NodeType}
use Rattle.json_text.specs.Plain.{check_extra, check_extras}
use Rattle.json_value.specs.View.{view, members_view, put_all}
use Rattle.json_value.proofs.Views.{Member}
use Rattle.json_scan.specs.Extra.{is_extra, has_extra, HasNoExtra}

first_not : (b c : Bool) → (b || c) ≡ false → b ≡ false
first_not true c h = h
first_not false c h = refl

others_not : (b c : Bool) → (b || c) ≡ false → c ≡ false
others_not true c h = absurd (true≢false h)
others_not false c h = h

unlike : (key other : List ℕ) → is_extra key ≡ true → is_extra other ≡ false → key ≡ other → ⊥
unlike key other is not same = true≢false (sym is ∙ ap is_extra same ∙ not)

passes : (key : List ℕ) → is_extra key ≡ true → (ms : List Member) (found : Members) → has_extra ms ≡ false → get_member key (put_all (map (λ m. (m.0, view m.1)) ms) found) ≡ get_member key found
passes key is [] found none = refl
passes key is (m ∷ ms) found none =
    passes key is ms (put m.0.now (view m.1) found) (others_not (is_extra m.0.now) (has_extra ms) none)
    ∙ get_member-put_other key m.0.now (view m.1) found (unlike key m.0.now is (first_not (is_extra m.0.now) (has_extra ms) none))

pub none_found : (ms : List Member) → has_extra ms ≡ false → (key : List ℕ) → is_extra key ≡ true → get_member key (members_view ms) ≡ None
none_found ms none key is = passes key is ms no_members none

pub nothing_said : (kind : NodeType) (d : Data) → HasNoExtra d → check_extras kind d ≡ Ok tt
unfolding check_extras check_extra
nothing_said kind d none =
    rw (none (codes "async") refl, none (codes "generator") refl, none (codes "await") refl, none (codes "decorators") refl, none (codes "attributes") refl, none (codes "assertions") refl, none (codes "options") refl, none (codes "phase") refl) refl
