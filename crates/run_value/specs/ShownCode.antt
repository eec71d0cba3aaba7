-- How proofs tell what is shown apart: a code for each, and no two have one code.
use Rattle.std.proofs.Common.{◌≡◌, ◌⊎◌, inl, inr, ℕ, List, ap, refl}
use Rattle.std.specs.Coded.{Coded, code_by, coded⊎, coded_ℕ, coded_list}
use base.Stored.{Gv, gnil, gcons, coded_unit}
use Rattle.js_meaning.specs.Value.{Text, Sort, a_function, an_object, an_array, a_type_error, a_reference_error, Shown, plainly, again, first, Parts, no_parts, shows, shows_at}
use Rattle.run_value.specs.Code.{plain_code}

abbrev text_code : Coded Text
text_code = coded_list coded_ℕ

abbrev sort_parts : Sort → (Unit {0} ⊎ (Unit {0} ⊎ (Unit {0} ⊎ (Unit {0} ⊎ Unit {0}))))
sort_parts a_function = (inl tt)
sort_parts an_object = (inr (inl tt))
sort_parts an_array = (inr (inr (inl tt)))
sort_parts a_type_error = (inr (inr (inr (inl tt))))
sort_parts a_reference_error = (inr (inr (inr (inr tt))))

abbrev sort_back : (Unit {0} ⊎ (Unit {0} ⊎ (Unit {0} ⊎ (Unit {0} ⊎ Unit {0})))) → Sort
sort_back (inl p) = a_function
sort_back (inr (inl p)) = an_object
sort_back (inr (inr (inl p))) = an_array
sort_back (inr (inr (inr (inl p)))) = a_type_error
sort_back (inr (inr (inr (inr p)))) = a_reference_error

pub sort_same : (a : Sort) → sort_back (sort_parts a) ≡ a
sort_same a_function = refl
sort_same an_object = refl
sort_same an_array = refl
sort_same a_type_error = refl
sort_same a_reference_error = refl

abbrev sort_code : Coded Sort
sort_code = code_by (Unit {0} ⊎ (Unit {0} ⊎ (Unit {0} ⊎ (Unit {0} ⊎ Unit {0})))) (coded⊎ coded_unit (coded⊎ coded_unit (coded⊎ coded_unit (coded⊎ coded_unit coded_unit)))) sort_parts sort_back sort_same

abbrev mutual
  pub stored : Shown → Gv
  stored (plainly p) = gcons gnil (plain_code.code p)
  stored (again n) = gcons (gcons gnil gnil) (coded_ℕ.code n)
  stored (first n sort parts) = gcons (gcons gnil (gcons gnil gnil)) (gcons (gcons (coded_ℕ.code n) (sort_code.code sort)) (stored_parts parts))

  pub stored_parts : Parts → Gv
  stored_parts no_parts = gnil
  stored_parts (shows v c) = gcons gnil (gcons (stored v) (stored_parts c))
  stored_parts (shows_at k v c) = gcons (gcons gnil (text_code.code k)) (gcons (stored v) (stored_parts c))

abbrev front : Gv → Gv
front (gcons a b) = a
front g = g

abbrev back : Gv → Gv
back (gcons a b) = b
back g = g

mutual
  pub stored_inj : (v u : Shown) → stored v ≡ stored u → v ≡ u
  stored_inj (plainly p) (plainly p2) h = ap plainly (plain_code.inj p p2 (ap back h))
  stored_inj (plainly p) (again n2) h = absurd (cc h)
  stored_inj (plainly p) (first n2 sort2 parts2) h = absurd (cc h)
  stored_inj (again n) (plainly p2) h = absurd (cc h)
  stored_inj (again n) (again n2) h = ap again (coded_ℕ.inj n n2 (ap back h))
  stored_inj (again n) (first n2 sort2 parts2) h = absurd (cc h)
  stored_inj (first n sort parts) (plainly p2) h = absurd (cc h)
  stored_inj (first n sort parts) (again n2) h = absurd (cc h)
  stored_inj (first n sort parts) (first n2 sort2 parts2) h =
      let same_n = coded_ℕ.inj n n2 (ap (λ g. front (front (back g))) h) in
      let same_sort = sort_code.inj sort sort2 (ap (λ g. back (front (back g))) h) in
      let same_parts = stored_parts_inj parts parts2 (ap (λ g. back (back g)) h) in
      λ t. first (same_n t) (same_sort t) (same_parts t)

  pub stored_parts_inj : (c d : Parts) → stored_parts c ≡ stored_parts d → c ≡ d
  stored_parts_inj no_parts no_parts h = refl
  stored_parts_inj no_parts (shows v2 c2) h = absurd (cc h)
  stored_parts_inj no_parts (shows_at k2 v2 c2) h = absurd (cc h)
  stored_parts_inj (shows v c) no_parts h = absurd (cc h)
  stored_parts_inj (shows v c) (shows v2 c2) h =
      let same_v = stored_inj v v2 (ap (λ g. front (back g)) h) in
      let same_c = stored_parts_inj c c2 (ap (λ g. back (back g)) h) in
      λ t. shows (same_v t) (same_c t)
  stored_parts_inj (shows v c) (shows_at k2 v2 c2) h = absurd (cc h)
  stored_parts_inj (shows_at k v c) no_parts h = absurd (cc h)
  stored_parts_inj (shows_at k v c) (shows v2 c2) h = absurd (cc h)
  stored_parts_inj (shows_at k v c) (shows_at k2 v2 c2) h =
      let same_k = text_code.inj k k2 (ap (λ g. back (front g)) h) in
      let same_v = stored_inj v v2 (ap (λ g. front (back g)) h) in
      let same_c = stored_parts_inj c c2 (ap (λ g. back (back g)) h) in
      λ t. shows_at (same_k t) (same_v t) (same_c t)

abbrev pub parts_code : Coded Parts
parts_code = record { code = stored_parts; inj = stored_parts_inj }
