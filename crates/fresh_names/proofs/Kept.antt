-- What a map in memory says of names.
use Rattle.std.proofs.Common.{Less, Equal, Greater, ◌≡◌, ◌∙◌, ℕ, true, false, cond, List, [], ◌∷◌, map, option_map, Some, refl, ap}
use Rattle.std.specs.Prelude.{String, if◌then◌else◌}
use Rattle.std.specs.String.{string_bytes, string_cmp}
use Rattle.std.specs.Global.{Global}
use Rattle.std.specs.Str.{bytes_eq}
use Rattle.std.specs.Ordering.{match_ordering, nat_cmp}
use Rattle.std.specs.Cmp.Lexicographic.{slice_cmp}
use Rattle.std.specs.Map.{lookup}
use Rattle.std.specs.BTreeMap.{insert_entry, is_at}
use Rattle.std.proofs.lemmas.Map.Text.{is_eq-slice_cmp}
use Rattle.std.proofs.lemmas.Slice.Eq.{bytes_eq-Decides}
use Rattle.fresh_names.specs.declared.uid.Around.{Around}
use Rattle.fresh_names.specs.Uid.{known_at, with_uid}
use Rattle.fresh_names.specs.Kept.{uid_with, uid_told}

pub put_told : (k : String Global) (v : Around) (es : List (String Global × Around)) → map uid_told (insert_entry string_cmp es k v) ≡ with_uid (uid_with (string_bytes k) v) (map uid_told es)
put_told k v [] = refl
put_told k v (e ∷ es) =
    elim (slice_cmp nat_cmp (string_bytes k) (string_bytes e.0)) as
    (λ o. map uid_told (match_ordering o ((k, v) ∷ e ∷ es) ((e.0, v) ∷ es) (e ∷ insert_entry string_cmp es k v))
    ≡ match_ordering o (uid_with (string_bytes k) v ∷ uid_told e ∷ map uid_told es) (uid_with (string_bytes e.0) v ∷ map uid_told es) (uid_told e ∷ with_uid (uid_with (string_bytes k) v) (map uid_told es)))
    [ Less ↦ refl | Equal ↦ refl | Greater ↦ ap (λ us. uid_told e ∷ us) (put_told k v es) ]

pub known_told : (base : List ℕ) (es : List (String Global × Around)) → option_map (uid_with base) (lookup (is_at (λ k. slice_cmp nat_cmp base (string_bytes k))) es) ≡ known_at (map uid_told es) base
known_told base [] = refl
known_told base (e ∷ es) =
    let rest = lookup (is_at (λ k. slice_cmp nat_cmp base (string_bytes k))) es in
    ap (λ c. option_map (uid_with base) (cond c (Some e.1) rest)) (is_eq-slice_cmp base (string_bytes e.0))
    ∙ elim (bytes_eq base (string_bytes e.0)) as (λ c. bytes_eq base (string_bytes e.0) ≡ c → option_map (uid_with base) (cond c (Some e.1) rest) ≡ (if c then Some (uid_told e) else known_at (map uid_told es) base))
    [ true ↦ λ same. ap (λ b. Some (uid_with b e.1)) ((bytes_eq-Decides base (string_bytes e.0)).0 same) | false ↦ λ other. known_told base es ] refl
