-- Layers that names are declared in, as a list of declarations grows.
use Rattle.std.proofs.Common.{◌≡◌, ◌∙◌, ◌<◌, ◌≤◌, ◌+◌, ◌&&◌, ◌||◌, ℕ, List, Bool, true, false, length, get_or, drop, drop_of_length-le, refl, sym, ap}
use Rattle.std.specs.Str.{bytes_eq}
use Rattle.js_tree.proofs.Rows.{front_of}
use Rattle.scope_rules.specs.declared.layer.Layer.{Layer}
use Rattle.scope_rules.specs.Site.{BindingSite}
use Rattle.scope_rules.specs.Binding.{same_layer, is_declared}

turned : (a b c : Bool) → (a || b) || c ≡ b || (a || c)
turned true true c = refl
turned true false c = refl
turned false b c = refl

pub declared_more : (sites : List BindingSite) (i : ℕ) (s : BindingSite) (l : Layer) (q : List ℕ) (had has whole : Bool) → i < length sites → s ≡ get_or sites i s
    → has ≡ (same_layer s.layer l && bytes_eq s.name q) || had → had || is_declared (drop i sites) l q ≡ whole → has || is_declared (drop (i + 1) sites) l q ≡ whole
declared_more sites i s l q had has whole within at is so_far =
    ap (λ b. b || is_declared (drop (i + 1) sites) l q) is ∙ turned (same_layer s.layer l && bytes_eq s.name q) had (is_declared (drop (i + 1) sites) l q)
    ∙ ap (λ ds. had || is_declared ds l q) (sym (front_of sites i s within at)) ∙ so_far

or_false : (b : Bool) → b ≡ b || false
or_false true = refl
or_false false = refl

pub declared_none : (sites : List BindingSite) (i : ℕ) (l : Layer) (q : List ℕ) (had whole : Bool) → length sites ≤ i → had || is_declared (drop i sites) l q ≡ whole → had ≡ whole
declared_none sites i l q had whole past so_far = or_false had ∙ ap (λ ds. had || is_declared ds l q) (sym (drop_of_length-le sites past)) ∙ so_far
