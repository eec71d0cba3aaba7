-- A node that was read fits: its fields, one after another, and its row.
use Rattle.std.proofs.Common.{◌≡◌, ℕ, zero, suc, List, [], ◌∷◌, Bool, true, false, not, ◌&&◌, ◌||◌, Option, Some, None, Result, Ok, refl, sym, subst, ap, ap₂, ◌∙◌}
use Rattle.std.specs.Prelude.{codes}
use Rattle.serde_json.specs.Data.{Data, null, array, Items}
use Rattle.serde_json.specs.Find.{get}
use Rattle.js_syntax.specs.declared.value.Key.{Key}
use Rattle.js_syntax.specs.declared.value.Key.TheVariants.{Name as key_name, Text as key_text, Number as key_number, Below as key_below}
use Rattle.js_syntax.specs.declared.node_kind.NodeKind.{NodeKind as Kind}
use Rattle.js_syntax.specs.declared.node_kind.NodeKind.TheVariants.{Statements as statements}
use Rattle.js_syntax.specs.Node.{Note, Forest, nothing, node, absent, alone, joined, nowhere}
use Rattle.js_syntax.specs.Class.{Class, for_left, simple_target, target, target_value, target_element}
use Rattle.js_syntax.specs.Field.{Keys, keeps, checks, a_key, child, maybe, each, each_or_hole, a_body, Field, field, Makes}
use Rattle.js_syntax.specs.Hint.{has, is_private}
use Rattle.js_syntax.specs.Table.{Row, a_program, a_parenthesized_target, fields_of, kind_at, type_of, stands}
use Rattle.js_syntax.specs.declared.node_type.NodeType.{NodeType}
use Rattle.js_syntax.specs.declared.node_type.NodeType.TheVariants as type
use Rattle.json_text.specs.Fault.{Fault, ◌>>=◌, fault_of}
use Rattle.json_text.specs.Plain.{is_true_at, type_at, check_extras, read_kept, read_check}
use Rattle.json_text.specs.Reading.{Reader, note_of, read_child, read_maybe, read_or_hole, read_items, read_list, row_here, made, with_child, read_key, read_body, read_fields, read_here, read_node}
use Rattle.json_shape.specs.Shape.{one as at_one, list as a_list, list_with_holes as a_list_with_holes, body as a_whole_body, Values, kind_of, kind_in, first_of, IsChosen, Place, maybe_one, key_place, places, these, all, all_or_holes, all_of_body, Plan, Stand, Fits}
use Rattle.json_shape.proofs.Choice.{made_is, is_list_kind}
use Rattle.json_shape.proofs.Fitting.{began, first_stands, maybe_stands, takes_none, not_private, list_not_private, takes_directive, ok_is, items_fit, or_hole_fits, items_or_holes_fit, Fitting, body_fits, first_private, KeyIs, KeyFits, key_fits}
use Rattle.json_shape.proofs.Decided.{is_first, type_in, stand_so, From, is_dropped, Decision, decision}
use Rattle.js_syntax.proofs.Truth.{or_false, not_true, first_of_both, second_of_both}

-- ---- the keys of a row

abbrev rest_of_row : Forest → Forest
rest_of_row nothing = nothing
rest_of_row (node k m below rest) = rest
rest_of_row (absent rest) = rest

abbrev KeysAre : (private : Bool) → (fs : List Field) → Values fs → Forest → Type 0
KeysAre private [] vs row = Unit {0}
KeysAre private (field name (keeps k) ∷ fs) vs row = KeysAre private fs vs.1 row
KeysAre private (field name (checks c) ∷ fs) vs row = KeysAre private fs vs row
KeysAre private (field name (a_key keys) ∷ fs) vs row = KeyIs private vs.0 row × KeysAre private fs vs.1 (rest_of_row row)
KeysAre private (field name (child c) ∷ fs) vs row = KeysAre private fs vs (rest_of_row row)
KeysAre private (field name (maybe c) ∷ fs) vs row = KeysAre private fs vs (rest_of_row row)
KeysAre private (field name (each list c) ∷ fs) vs row = KeysAre private fs vs (rest_of_row row)
KeysAre private (field name (each_or_hole list c) ∷ fs) vs row = KeysAre private fs vs (rest_of_row row)
KeysAre private (field name (a_body c) ∷ fs) vs row = KeysAre private fs vs (rest_of_row row)

abbrev first_key_private : Key → Forest → Bool
first_key_private key_below row = first_private row
first_key_private key row = false

-- whether the key, of which a row has one at the most, is a private name
abbrev key_private : (fs : List Field) → Values fs → Forest → Bool
key_private [] vs row = false
key_private (field name (keeps k) ∷ fs) vs row = key_private fs vs.1 row
key_private (field name (checks c) ∷ fs) vs row = key_private fs vs row
key_private (field name (a_key keys) ∷ fs) vs row = first_key_private vs.0 row
key_private (field name (child c) ∷ fs) vs row = key_private fs vs (rest_of_row row)
key_private (field name (maybe c) ∷ fs) vs row = key_private fs vs (rest_of_row row)
key_private (field name (each list c) ∷ fs) vs row = key_private fs vs (rest_of_row row)
key_private (field name (each_or_hole list c) ∷ fs) vs row = key_private fs vs (rest_of_row row)
key_private (field name (a_body c) ∷ fs) vs row = key_private fs vs (rest_of_row row)

abbrev has_no_key : List Field → Bool
has_no_key [] = true
has_no_key (field name (a_key keys) ∷ fs) = false
has_no_key (field name sort ∷ fs) = has_no_key fs

-- no private name stands in the row but as its key
abbrev are_open : List Field → Bool
are_open [] = true
are_open (field name (a_key keys) ∷ fs) = has_no_key fs && are_open fs
are_open (field name (child c) ∷ fs) = takes_none (stands c type.PrivateIdentifier) && are_open fs
are_open (field name (maybe c) ∷ fs) = takes_none (stands c type.PrivateIdentifier) && are_open fs
are_open (field name (each list c) ∷ fs) = is_list_kind list && are_open fs
are_open (field name (each_or_hole list c) ∷ fs) = is_list_kind list && are_open fs
are_open (field name sort ∷ fs) = are_open fs

-- what stands behind the directives of a body is none
abbrev pub are_bodies : List Field → Bool
are_bodies [] = true
are_bodies (field name (a_body c) ∷ fs) = not (takes_directive (stands c type.ExpressionStatement)) && are_bodies fs
are_bodies (field name sort ∷ fs) = are_bodies fs

keys_in : (r : Row) → has_no_key (fields_of r) || are_open (fields_of r) ≡ true
keys_in a_program = refl
keys_in r = refl

pub bodies_in : (r : Row) → are_bodies (fields_of r) ≡ true
bodies_in a_program = refl
bodies_in r = refl

no_keys : (private : Bool) (fs : List Field) (vs : Values fs) (row : Forest) → has_no_key fs ≡ true → KeysAre private fs vs row
no_keys private [] vs row h = tt
no_keys private (field name (keeps k) ∷ fs) vs row h = no_keys private fs vs.1 row h
no_keys private (field name (checks c) ∷ fs) vs row h = no_keys private fs vs row h
no_keys private (field name (a_key keys) ∷ fs) vs row h = absurd cc
no_keys private (field name (child c) ∷ fs) vs row h = no_keys private fs vs (rest_of_row row) h
no_keys private (field name (maybe c) ∷ fs) vs row h = no_keys private fs vs (rest_of_row row) h
no_keys private (field name (each list c) ∷ fs) vs row h = no_keys private fs vs (rest_of_row row) h
no_keys private (field name (each_or_hole list c) ∷ fs) vs row h = no_keys private fs vs (rest_of_row row) h
no_keys private (field name (a_body c) ∷ fs) vs row h = no_keys private fs vs (rest_of_row row) h

no_key_private : (fs : List Field) (vs : Values fs) (row : Forest) → has_no_key fs ≡ true → key_private fs vs row ≡ false
no_key_private [] vs row h = refl
no_key_private (field name (keeps k) ∷ fs) vs row h = no_key_private fs vs.1 row h
no_key_private (field name (checks c) ∷ fs) vs row h = no_key_private fs vs row h
no_key_private (field name (a_key keys) ∷ fs) vs row h = absurd cc
no_key_private (field name (child c) ∷ fs) vs row h = no_key_private fs vs (rest_of_row row) h
no_key_private (field name (maybe c) ∷ fs) vs row h = no_key_private fs vs (rest_of_row row) h
no_key_private (field name (each list c) ∷ fs) vs row h = no_key_private fs vs (rest_of_row row) h
no_key_private (field name (each_or_hole list c) ∷ fs) vs row h = no_key_private fs vs (rest_of_row row) h
no_key_private (field name (a_body c) ∷ fs) vs row h = no_key_private fs vs (rest_of_row row) h

key_is : (key : Key) (row : Forest) (private : Bool) → first_key_private key row ≡ private → KeyIs private key row
key_is key_below row private h = h
key_is (key_name s) row private h = tt
key_is (key_text s) row private h = tt
key_is (key_number n) row private h = tt

keys_are : (fs : List Field) (vs : Values fs) (row : Forest) (private : Bool) → are_open fs ≡ true → key_private fs vs row ≡ private → KeysAre private fs vs row
keys_are [] vs row private free h = tt
keys_are (field name (keeps k) ∷ fs) vs row private free h = keys_are fs vs.1 row private free h
keys_are (field name (checks c) ∷ fs) vs row private free h = keys_are fs vs row private free h
keys_are (field name (a_key keys) ∷ fs) vs row private free h = (key_is vs.0 row private h, no_keys private fs vs.1 (rest_of_row row) (first_of_both _ _ free))
keys_are (field name (child c) ∷ fs) vs row private free h = keys_are fs vs (rest_of_row row) private (second_of_both _ _ free) h
keys_are (field name (maybe c) ∷ fs) vs row private free h = keys_are fs vs (rest_of_row row) private (second_of_both _ _ free) h
keys_are (field name (each list c) ∷ fs) vs row private free h = keys_are fs vs (rest_of_row row) private (second_of_both _ _ free) h
keys_are (field name (each_or_hole list c) ∷ fs) vs row private free h = keys_are fs vs (rest_of_row row) private (second_of_both _ _ free) h
keys_are (field name (a_body c) ∷ fs) vs row private free h = keys_are fs vs (rest_of_row row) private free h

-- ---- one node, or none, before a row

module _ (p : Place) where
  rest_single : (x r : Forest) → Stand (these (p ∷ [])) x → rest_of_row (joined x r) ≡ r
  rest_single nothing r h = absurd h
  rest_single (node k m below nothing) r h = refl
  rest_single (node k m below (node j n b rest)) r h = absurd h.1.0
  rest_single (node k m below (absent rest)) r h = absurd h.1.0
  rest_single (absent nothing) r h = refl
  rest_single (absent (node j n b rest)) r h = absurd h.1.0
  rest_single (absent (absent rest)) r h = absurd h.1.0

  has_single : (x r : Forest) → Stand (these (p ∷ [])) x → has is_private (joined x r) ≡ first_private x || has is_private r
  has_single nothing r h = absurd h
  has_single (node k m below nothing) r h = refl
  has_single (node k m below (node j n b rest)) r h = absurd h.1.0
  has_single (node k m below (absent rest)) r h = absurd h.1.0
  has_single (absent nothing) r h = refl
  has_single (absent (node j n b rest)) r h = absurd h.1.0
  has_single (absent (absent rest)) r h = absurd h.1.0

  first_single : (x r : Forest) → Stand (these (p ∷ [])) x → first_private (joined x r) ≡ first_private x
  first_single nothing r h = absurd h
  first_single (node k m below rest) r h = refl
  first_single (absent rest) r h = refl

first_not_private : (c : Class) (x : Forest) → takes_none (stands c type.PrivateIdentifier) ≡ true → Stand (these (maybe_one c ∷ [])) x → first_private x ≡ false
first_not_private c nothing none h = refl
first_not_private c (node k m below rest) none h = not_private c k below none h.0
first_not_private c (absent rest) none h = refl

-- ---- fields

pub record FieldsFit (fs : List Field) (make : Makes fs) (t : NodeType) (d : Data) (made : Kind × Forest) : Type 0 where
  pub values : Values fs
  pub kind : made.0 ≡ kind_of fs make values
  pub from : From t d fs values
  pub stand : (private : Bool) → KeysAre private fs values made.1 → Stand (these (places private fs values)) made.1
  pub private : are_open fs ≡ true → has is_private made.1 ≡ key_private fs values made.1

-- a row that stands behind one node
module _ (t : NodeType) (d : Data) (fs : List Field) (make : Makes fs) (x : Forest) (p : Kind × Forest) (rest : FieldsFit fs make t d p) where
  behind_stands : (place : Place) → Stand (these (place ∷ [])) x → (private : Bool) → KeysAre private fs rest.values (rest_of_row (joined x p.1)) → Stand (these (place ∷ places private fs rest.values)) (joined x p.1)
  behind_stands place h private keys =
      first_stands place (places private fs rest.values) x p.1 h (rest.stand private (subst (KeysAre private fs rest.values) (rest_single place x p.1 h) keys))

  behind_private : (place : Place) → Stand (these (place ∷ [])) x → first_private x ≡ false → are_open fs ≡ true → has is_private (joined x p.1) ≡ key_private fs rest.values (rest_of_row (joined x p.1))
  behind_private place h first free =
      has_single place x p.1 h ∙ ap (λ (b : Bool). b || has is_private p.1) first ∙ rest.private free ∙ ap (key_private fs rest.values) (sym (rest_single place x p.1 h))

key_first : (keys : Keys) (key : Key) (x : Forest) → KeyFits keys key x → first_private x ≡ first_key_private key x
key_first keys key_below x fits = refl
key_first keys (key_name s) nothing fits = refl
key_first keys (key_name s) (node k m below rest) fits = absurd (fits true tt).0
key_first keys (key_name s) (absent rest) fits = refl
key_first keys (key_text s) nothing fits = refl
key_first keys (key_text s) (node k m below rest) fits = absurd (fits true tt).0
key_first keys (key_text s) (absent rest) fits = refl
key_first keys (key_number n) nothing fits = refl
key_first keys (key_number n) (node k m below rest) fits = absurd (fits true tt).0
key_first keys (key_number n) (absent rest) fits = refl

first_key_same : (key : Key) (x y : Forest) → first_private x ≡ first_private y → first_key_private key x ≡ first_key_private key y
first_key_same key_below x y h = h
first_key_same (key_name s) x y h = refl
first_key_same (key_text s) x y h = refl
first_key_same (key_number n) x y h = refl

key_is_first : (key : Key) (private : Bool) (x y : Forest) → first_private x ≡ first_private y → KeyIs private key x → KeyIs private key y
key_is_first key_below private x y h is = sym h ∙ is
key_is_first (key_name s) private x y h is = tt
key_is_first (key_text s) private x y h is = tt
key_is_first (key_number n) private x y h is = tt

key_self : (key : Key) (x : Forest) → KeyIs (first_key_private key x) key x
key_self key_below x = refl
key_self (key_name s) x = tt
key_self (key_text s) x = tt
key_self (key_number n) x = tt

-- a row that stands behind its key
key_field : {t : NodeType} {d : Data} (name : List ℕ) (keys : Keys) (fs : List Field) (make : Key → Makes fs) (k : Key × Forest) → KeyFits keys k.0 k.1 → (p : Kind × Forest) → FieldsFit fs (make k.0) t d p
    → FieldsFit (field name (a_key keys) ∷ fs) make t d (p.0, joined k.1 p.1)
key_field {t = t} {d = d} name keys fs make k fits p rest =
    let place = key_place keys (first_key_private k.0 k.1) k.0 in
    let here = fits (first_key_private k.0 k.1) (key_self k.0 k.1) in
    let first = first_single place k.1 p.1 here in
    record {
      values = (k.0, rest.values);
      kind = rest.kind;
      from = rest.from;
      stand = λ private keys_are. first_stands (key_place keys private k.0) (places private fs rest.values) k.1 p.1 (fits private (key_is_first k.0 private (joined k.1 p.1) k.1 first keys_are.0))
          (rest.stand private (subst (KeysAre private fs rest.values) (rest_single place k.1 p.1 here) keys_are.1));
      private = λ free. has_single place k.1 p.1 here
          ∙ ap₂ (λ (a b : Bool). a || b) (key_first keys k.0 k.1 fits) (rest.private (second_of_both _ _ free) ∙ no_key_private fs rest.values p.1 (first_of_both _ _ free))
          ∙ or_false (first_key_private k.0 k.1) ∙ first_key_same k.0 k.1 (joined k.1 p.1) (sym first);
    }

-- a list of this kind, whose nodes stand as planned
abbrev IsListOf : Kind → Plan → Forest → Type 0
IsListOf kind plan x = (r : Forest) × (x ≡ alone kind nowhere r) × Stand plan r

module _ (one : Reader) (fit : Fitting one) (t : NodeType) (d : Data) where
  child_fits : (c : Class) (bad : Fault) (found : Option Data) (x : Forest) → read_child (one c bad) bad found ≡ Ok x → Fits c x
  unfolding read_child
  child_fits c bad None x h = absurd cc
  child_fits c bad (Some e) x h = fit c bad e x h

  maybe_fits : (c : Class) (bad : Fault) (found : Option Data) (x : Forest) → read_maybe (one c bad) found ≡ Ok x → Stand (these (maybe_one c ∷ [])) x
  unfolding read_maybe
  maybe_fits c bad None x h = subst (Stand (these (maybe_one c ∷ []))) (ok_is (absent nothing) x h) (tt, tt)
  maybe_fits c bad (Some null) x h = subst (Stand (these (maybe_one c ∷ []))) (ok_is (absent nothing) x h) (tt, tt)
  maybe_fits c bad (Some e) x h = maybe_stands c x (fit c bad e x h)

  list_fits : (kind : Kind) (plan : Plan) (read_all : Items → Result Forest Fault) → ((ds : Items) (r : Forest) → read_all ds ≡ Ok r → Stand plan r) → (bad : Fault) (found : Option Data) (x : Forest) → read_list kind read_all bad found ≡ Ok x → IsListOf kind plan x
  unfolding read_list
  list_fits kind plan read_all all_fit bad (Some (array ds)) x h =
      let r = began (read_all ds) (λ r. Ok (alone kind nowhere r)) x h in
      (r.0, sym (ok_is (alone kind nowhere r.0) x r.2), all_fit ds r.0 r.1)
  list_fits kind plan read_all all_fit bad found x h = absurd cc

  list_first : (kind : Kind) (plan : Plan) (x : Forest) → is_list_kind kind ≡ true → IsListOf kind plan x → first_private x ≡ false
  list_first kind plan x lists h = ap first_private h.1 ∙ list_not_private kind lists

  fields_fit : (fs : List Field) (make : Makes fs) (p : Kind × Forest) → are_bodies fs ≡ true → read_fields one t fs make d ≡ Ok p → FieldsFit fs make t d p
  fields_fit [] make p bodies h = subst (FieldsFit [] make t d) (ok_is (make, nothing) p h) (record { values = tt; kind = refl; from = tt; stand = λ private keys. tt; private = λ free. refl })
  fields_fit (field name (keeps k) ∷ fs) make p bodies h =
      let v = began (read_kept k t name d) (λ x. read_fields one t fs (make x) d) p h in
      let rest = fields_fit fs (make v.0) p bodies v.2 in
      record { values = (v.0, rest.values); kind = rest.kind; from = (v.1, rest.from); stand = rest.stand; private = rest.private }
  fields_fit (field name (checks c) ∷ fs) make p bodies h =
      let v = began (read_check c (fault_of t name) (get name d)) (λ x. read_fields one t fs make d) p h in
      let rest = fields_fit fs make p bodies v.2 in
      record { values = rest.values; kind = rest.kind; from = rest.from; stand = rest.stand; private = rest.private }
  fields_fit (field name (a_key keys) ∷ fs) make p bodies h =
      let key = began (read_key one keys (is_true_at (get (codes "computed") d)) (fault_of t name) (get name d)) (λ k. with_child k.1 (read_fields one t fs (make k.0) d)) p h in
      let later = began (read_fields one t fs (make key.0.0) d) (λ q. Ok (q.0, joined key.0.1 q.1)) p key.2 in
      let rest = fields_fit fs (make key.0.0) later.0 bodies later.1 in
      subst (FieldsFit (field name (a_key keys) ∷ fs) make t d) (ok_is (later.0.0, joined key.0.1 later.0.1) p later.2)
      (key_field name keys fs make key.0 (key_fits one fit (fault_of t name) keys key.0.0 key.0.1 (is_true_at (get (codes "computed") d)) (get name d) key.1) later.0 rest)
  fields_fit (field name (child c) ∷ fs) make p bodies h =
      let x = began (read_child (one c (fault_of t name)) (fault_of t name) (get name d)) (λ n. with_child n (read_fields one t fs make d)) p h in
      let later = began (read_fields one t fs make d) (λ q. Ok (q.0, joined x.0 q.1)) p x.2 in
      let rest = fields_fit fs make later.0 bodies later.1 in
      let here = child_fits c (fault_of t name) (get name d) x.0 x.1 in
      subst (FieldsFit (field name (child c) ∷ fs) make t d) (ok_is (later.0.0, joined x.0 later.0.1) p later.2)
      (record { values = rest.values; kind = rest.kind; from = rest.from; stand = behind_stands t d fs make x.0 later.0 rest (at_one c) here; private = λ free. behind_private t d fs make x.0 later.0 rest (at_one c) here (first_not_private c x.0 (first_of_both _ _ free) (maybe_stands c x.0 here)) (second_of_both _ _ free) })
  fields_fit (field name (maybe c) ∷ fs) make p bodies h =
      let x = began (read_maybe (one c (fault_of t name)) (get name d)) (λ n. with_child n (read_fields one t fs make d)) p h in
      let later = began (read_fields one t fs make d) (λ q. Ok (q.0, joined x.0 q.1)) p x.2 in
      let rest = fields_fit fs make later.0 bodies later.1 in
      let here = maybe_fits c (fault_of t name) (get name d) x.0 x.1 in
      subst (FieldsFit (field name (maybe c) ∷ fs) make t d) (ok_is (later.0.0, joined x.0 later.0.1) p later.2)
      (record { values = rest.values; kind = rest.kind; from = rest.from; stand = behind_stands t d fs make x.0 later.0 rest (maybe_one c) here; private = λ free. behind_private t d fs make x.0 later.0 rest (maybe_one c) here (first_not_private c x.0 (first_of_both _ _ free) here) (second_of_both _ _ free) })
  fields_fit (field name (each list c) ∷ fs) make p bodies h =
      let x = began (read_list list (read_items (one c (fault_of t name))) (fault_of t name) (get name d)) (λ n. with_child n (read_fields one t fs make d)) p h in
      let later = began (read_fields one t fs make d) (λ q. Ok (q.0, joined x.0 q.1)) p x.2 in
      let rest = fields_fit fs make later.0 bodies later.1 in
      let of = list_fits list (all c) (read_items (one c (fault_of t name))) (items_fit (one c (fault_of t name)) c (fit c (fault_of t name))) (fault_of t name) (get name d) x.0 x.1 in
      let here = subst (Stand (these (a_list list c ∷ []))) (sym of.1) ((refl, of.2), tt) in
      subst (FieldsFit (field name (each list c) ∷ fs) make t d) (ok_is (later.0.0, joined x.0 later.0.1) p later.2)
      (record { values = rest.values; kind = rest.kind; from = rest.from; stand = behind_stands t d fs make x.0 later.0 rest (a_list list c) here; private = λ free. behind_private t d fs make x.0 later.0 rest (a_list list c) here (list_first list (all c) x.0 (first_of_both _ _ free) of) (second_of_both _ _ free) })
  fields_fit (field name (each_or_hole list c) ∷ fs) make p bodies h =
      let x = began (read_list list (read_items (read_or_hole (one c (fault_of t name)))) (fault_of t name) (get name d)) (λ n. with_child n (read_fields one t fs make d)) p h in
      let later = began (read_fields one t fs make d) (λ q. Ok (q.0, joined x.0 q.1)) p x.2 in
      let rest = fields_fit fs make later.0 bodies later.1 in
      let of = list_fits list (all_or_holes c) (read_items (read_or_hole (one c (fault_of t name)))) (items_or_holes_fit (read_or_hole (one c (fault_of t name))) c (or_hole_fits (one c (fault_of t name)) c (fit c (fault_of t name)))) (fault_of t name) (get name d) x.0 x.1 in
      let here = subst (Stand (these (a_list_with_holes list c ∷ []))) (sym of.1) ((refl, of.2), tt) in
      subst (FieldsFit (field name (each_or_hole list c) ∷ fs) make t d) (ok_is (later.0.0, joined x.0 later.0.1) p later.2)
      (record { values = rest.values; kind = rest.kind; from = rest.from; stand = behind_stands t d fs make x.0 later.0 rest (a_list_with_holes list c) here; private = λ free. behind_private t d fs make x.0 later.0 rest (a_list_with_holes list c) here (list_first list (all_or_holes c) x.0 (first_of_both _ _ free) of) (second_of_both _ _ free) })
  fields_fit (field name (a_body c) ∷ fs) make p bodies h =
      let x = began (read_list statements (read_body one c (fault_of t name)) (fault_of t name) (get name d)) (λ n. with_child n (read_fields one t fs make d)) p h in
      let later = began (read_fields one t fs make d) (λ q. Ok (q.0, joined x.0 q.1)) p x.2 in
      let rest = fields_fit fs make later.0 (second_of_both _ _ bodies) later.1 in
      let of = list_fits statements (all_of_body c) (read_body one c (fault_of t name)) (λ ds r. body_fits one fit (fault_of t name) c ds r (not_true _ (first_of_both _ _ bodies))) (fault_of t name) (get name d) x.0 x.1 in
      let here = subst (Stand (these (a_whole_body c ∷ []))) (sym of.1) ((refl, of.2), tt) in
      subst (FieldsFit (field name (a_body c) ∷ fs) make t d) (ok_is (later.0.0, joined x.0 later.0.1) p later.2)
      (record { values = rest.values; kind = rest.kind; from = rest.from; stand = behind_stands t d fs make x.0 later.0 rest (a_whole_body c) here; private = λ free. behind_private t d fs make x.0 later.0 rest (a_whole_body c) here (list_first statements (all_of_body c) x.0 refl of) free })

-- ---- a node by its row

-- the key of a row is as the row says
row_keys : (r : Row) (vs : Values (fields_of r)) (row : Forest) → (are_free : are_open (fields_of r) ≡ true → has is_private row ≡ key_private (fields_of r) vs row) → (b : Bool) → has_no_key (fields_of r) ≡ b → b || are_open (fields_of r) ≡ true
    → KeysAre (has is_private row) (fields_of r) vs row
row_keys r vs row are_free true is h = no_keys (has is_private row) (fields_of r) vs row is
row_keys r vs row are_free false is h = keys_are (fields_of r) vs row (has is_private row) h (sym (are_free h))

-- what may be assigned may stand wherever parentheses around it are dropped
takes_target : (c : Class) (t : NodeType) (r : Row) → stands c type.ParenthesizedExpression ≡ Some a_parenthesized_target → stands simple_target t ≡ Some r → stands c t ≡ Some r
takes_target simple_target t r h g = g
takes_target for_left type.Identifier r h g = g
takes_target for_left type.MemberExpression r h g = g
takes_target for_left type.ParenthesizedExpression r h g = g
takes_target for_left t r h g = absurd cc
takes_target target type.Identifier r h g = g
takes_target target type.MemberExpression r h g = g
takes_target target type.ParenthesizedExpression r h g = g
takes_target target t r h g = absurd cc
takes_target target_value type.Identifier r h g = g
takes_target target_value type.MemberExpression r h g = g
takes_target target_value type.ParenthesizedExpression r h g = g
takes_target target_value t r h g = absurd cc
takes_target target_element type.Identifier r h g = g
takes_target target_element type.MemberExpression r h g = g
takes_target target_element type.ParenthesizedExpression r h g = g
takes_target target_element t r h g = absurd cc
takes_target c t r h g = absurd cc

target_fits : (c : Class) (t : Forest) → stands c type.ParenthesizedExpression ≡ Some a_parenthesized_target → Fits simple_target t → Fits c t
target_fits c nothing h fits = absurd fits
target_fits c (node k m below nothing) h fits =
    ((fits.0.0, fits.0.1, takes_target c (type_of fits.0.0) (first_of fits.0.0) h fits.0.2, fits.0.3, fits.0.4, fits.0.5), tt)
target_fits c (node k m below (node j n b rest)) h fits = absurd fits.1.0
target_fits c (node k m below (absent rest)) h fits = absurd fits.1.0
target_fits c (absent rest) h fits = absurd fits.0

dropped_fits : (c : Class) (r : Row) (k : Kind) (n : Note) (row : Forest) (vs : Values (fields_of r)) (private : Bool) → is_dropped r ≡ true → stands c (type_of r) ≡ Some (first_of r) → Stand (these (places private (fields_of r) vs)) row → Fits c (made r k n row)
dropped_fits c a_parenthesized_target k n row vs private is here stand = target_fits c row here stand
dropped_fits c r k n row vs private is here stand = absurd cc

made_fits : (c : Class) (r : Row) (k : Kind) (n : Note) (row : Forest) (vs : Values (fields_of r)) (b : Bool) → is_dropped r ≡ b → (is_dropped r ≡ false → IsChosen r vs) → stands c (type_of r) ≡ Some (first_of r) → k ≡ kind_in r vs
    → Stand (these (places (has is_private row) (fields_of r) vs)) row → Fits c (made r k n row)
made_fits c r k n row vs true is chosen here kind stand = dropped_fits c r k n row vs (has is_private row) is here stand
made_fits c r k n row vs false is chosen here kind stand = subst (Fits c) (sym (made_is r vs k n row (chosen is))) ((r, vs, here, chosen is, kind, stand), tt)

row_fits : (one : Reader) → Fitting one → (c : Class) (bad : Fault) (d : Data) (t : NodeType) (first found : Option Row) (tree : Forest) → stands c t ≡ first → row_here d first ≡ found → read_here one bad d found ≡ Ok tree → Fits c tree
unfolding row_here
row_fits one fit c bad d t first None tree stood chosen h = absurd cc
row_fits one fit c bad d t None (Some r) tree stood chosen h = absurd cc
row_fits one fit c bad d t (Some first) (Some r) tree stood chosen h =
    let so = stand_so c t in
    let decided = subst (Decision first (type_of r) d) chosen (decision (type_of r) d first (ap is_first (sym stood) ∙ so.0)) in
    let fields = began (read_fields one (type_of r) (fields_of r) (kind_at r) d) (λ p. check_extras (type_of r) d >>= λ _. Ok (made r p.0 (note_of d) p.1)) tree h in
    let extras = began (check_extras (type_of r) d) (λ _. Ok (made r fields.0.0 (note_of d) fields.0.1)) tree fields.2 in
    let made_so = fields_fit one fit (type_of r) d (fields_of r) (kind_at r) fields.0 (bodies_in r) fields.1 in
    let here = ap (stands c) (decided.1 ∙ ap (type_in t) (sym stood) ∙ so.1) ∙ stood ∙ ap Some (sym decided.0) in
    let keys = row_keys r made_so.values fields.0.1 made_so.private (has_no_key (fields_of r)) refl (keys_in r) in
    subst (Fits c) (ok_is (made r fields.0.0 (note_of d) fields.0.1) tree extras.2)
    (made_fits c r fields.0.0 (note_of d) fields.0.1 made_so.values (is_dropped r) refl (λ stays. decided.2 made_so.values made_so.from stays) here made_so.kind (made_so.stand (has is_private fields.0.1) keys))

pub nodes_fit : (n : ℕ) → Fitting (read_node n)
unfolding read_node
nodes_fit zero c bad d t h = absurd cc
nodes_fit (suc n) c bad d t h =
    let typed = began (type_at bad d) (λ ty. read_here (read_node n) bad d (row_here d (stands c ty))) t h in
    row_fits (read_node n) (nodes_fit n) c bad d typed.0 (stands c typed.0) (row_here d (stands c typed.0)) t refl refl typed.2
