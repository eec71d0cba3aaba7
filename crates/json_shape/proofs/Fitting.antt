-- A tree that was read fits.
use Rattle.std.proofs.Common.{◌≡◌, inl, inr, pos, negsuc, List, [], ◌∷◌, Bool, true, false, Option, Some, None, Result, Ok, Err, if◌then◌else◌, refl, sym, subst, ap, ◌∙◌}
use Rattle.serde_json.specs.Data.{Data, null, Items, no_items, item}
use Rattle.js_syntax.specs.declared.value.Key.{Key}
use Rattle.js_syntax.specs.declared.value.Key.TheVariants.{Name as key_name, Text as key_text, Number as key_number, Below as key_below}
use Rattle.js_syntax.specs.declared.value.LiteralValue.{LiteralValue as Value}
use Rattle.js_syntax.specs.declared.value.LiteralValue.TheVariants as value
use Rattle.js_syntax.specs.declared.node_kind.NodeKind.{NodeKind as Kind}
use Rattle.js_syntax.specs.declared.node_kind.NodeKind.TheVariants.{PrivateName as private_name, Hole as hole}
use Rattle.js_syntax.specs.Node.{Forest, nothing, node, absent, alone, joined, nowhere}
use Rattle.js_syntax.specs.Class.{Class, a_prologue, expression, private_key}
use Rattle.js_syntax.specs.Field.{Keys}
use Rattle.js_syntax.specs.Hint.{is_private}
use Rattle.js_syntax.specs.Table.{Row, a_program, a_directive, fields_of, type_of, stands}
use Rattle.js_syntax.specs.declared.node_type.NodeType.{NodeType}
use Rattle.js_syntax.specs.declared.node_type.NodeType.TheVariants as type
use Rattle.json_text.specs.Fault.{Fault, ◌>>=◌}
use Rattle.json_text.specs.Plain.{type_at, check_extras, takes_literal, takes_private, read_identifier_name, read_identifier, literal_value, key_of, read_literal_key}
use Rattle.json_text.specs.Reading.{Reader, read_or_hole, before, read_items, is_directive, apart, within, static_key, read_key, read_body}
use Rattle.json_shape.specs.Shape.{Values, kind_in, first_of, Place, maybe_one, key_place, item_or_hole, these, all, all_or_holes, all_of_body, is_directive_kind, after_body_item, IsOf, Stand, Fits}
use Rattle.json_shape.proofs.Choice.{directive_kind, private_type, is_list_kind}

-- ---- small steps

-- what goes well began well
abbrev pub Began : {A B : Type 0} → Result A Fault → (A → Result B Fault) → B → Type 0
Began {A = A} r f y = (x : A) × (r ≡ Ok x) × (f x ≡ Ok y)

pub began : {A B : Type 0} (r : Result A Fault) (f : A → Result B Fault) (y : B) → (r >>= f) ≡ Ok y → Began r f y
began (Ok x) f y h = (x, refl, h)
began (Err e) f y h = absurd cc

-- of two ways the one that was taken
taken : {A : Type 0} (b : Bool) (x : Result A Fault) (bad : Fault) (y : A) → (if b then x else Err bad) ≡ Ok y → (b ≡ true) × (x ≡ Ok y)
taken true x bad y h = (refl, h)
taken false x bad y h = absurd cc

-- ---- rows of nodes

-- what stands at a place comes first in a row
pub first_stands : (p : Place) (ps : List Place) (t r : Forest) → Stand (these (p ∷ [])) t → Stand (these ps) r → Stand (these (p ∷ ps)) (joined t r)
first_stands p ps nothing r h later = absurd h
first_stands p ps (node k m below nothing) r h later = (h.0, later)
first_stands p ps (node k m below (node j n b rest)) r h later = absurd h.1.0
first_stands p ps (node k m below (absent rest)) r h later = absurd h.1.0
first_stands p ps (absent nothing) r h later = (h.0, later)
first_stands p ps (absent (node j n b rest)) r h later = absurd h.1.0
first_stands p ps (absent (absent rest)) r h later = absurd h.1.0

all_stand : (c : Class) (t r : Forest) → Fits c t → Stand (all c) r → Stand (all c) (joined t r)
all_stand c nothing r h later = absurd h
all_stand c (node k m below nothing) r h later = (h.0, later)
all_stand c (node k m below (node j n b rest)) r h later = absurd h.1.0
all_stand c (node k m below (absent rest)) r h later = absurd h.1.0
all_stand c (absent rest) r h later = absurd h.0

-- a node, or a hole
abbrev pub FitsOrHole : Class → Forest → Type 0
FitsOrHole c t = Stand (these (item_or_hole c ∷ [])) t

or_hole : (c : Class) (t : Forest) → Fits c t → FitsOrHole c t
or_hole c nothing h = absurd h
or_hole c (node k m below nothing) h = (inr h.0, tt)
or_hole c (node k m below (node j n b rest)) h = absurd h.1.0
or_hole c (node k m below (absent rest)) h = absurd h.1.0
or_hole c (absent rest) h = absurd h.0

holes_stand : (c : Class) (t r : Forest) → FitsOrHole c t → Stand (all_or_holes c) r → Stand (all_or_holes c) (joined t r)
holes_stand c nothing r h later = absurd h
holes_stand c (node k m below nothing) r h later = (h.0, later)
holes_stand c (node k m below (node j n b rest)) r h later = absurd h.1.0
holes_stand c (node k m below (absent rest)) r h later = absurd h.1.0
holes_stand c (absent rest) r h later = absurd h.0

pub maybe_stands : (c : Class) (t : Forest) → Fits c t → Stand (these (maybe_one c ∷ [])) t
maybe_stands c nothing h = absurd h
maybe_stands c (node k m below nothing) h = h
maybe_stands c (node k m below (node j n b rest)) h = absurd h.1.0
maybe_stands c (node k m below (absent rest)) h = absurd h.1.0
maybe_stands c (absent rest) h = absurd h.0

-- ---- which classes take private names, and which directives

abbrev is_private_type : NodeType → Bool
is_private_type type.PrivateIdentifier = true
is_private_type t = false

private_kind : (r : Row) (vs : Values (fields_of r)) → is_private (kind_in r vs) ≡ is_private_type (type_of r)
private_kind a_program vs = refl
private_kind r vs = refl

abbrev pub takes_none : Option Row → Bool
takes_none None = true
takes_none (Some r) = false

not_private_at : (c : Class) (t : NodeType) (r : Row) → takes_none (stands c type.PrivateIdentifier) ≡ true → stands c t ≡ Some r → is_private_type t ≡ false
not_private_at c type.PrivateIdentifier r none h = absurd cc
not_private_at c t r none h = refl

pub not_private : (c : Class) (k : Kind) (below : Forest) → takes_none (stands c type.PrivateIdentifier) ≡ true → IsOf k below (λ p. Stand p below) c → is_private k ≡ false
not_private c k below none of = ap is_private of.4 ∙ private_kind of.0 of.1 ∙ not_private_at c (type_of of.0) (first_of of.0) none of.2

pub list_not_private : (k : Kind) → is_list_kind k ≡ true → is_private k ≡ false
list_not_private (private_name s) h = absurd cc
list_not_private k h = refl

is_private_of : (k : Kind) (below : Forest) → IsOf k below (λ p. Stand p below) private_key → is_private k ≡ true
is_private_of k below of = ap is_private of.4 ∙ private_kind of.0 of.1 ∙ ap is_private_type (private_type (type_of of.0) (first_of of.0) of.2)

abbrev is_directive_row : Row → Bool
is_directive_row a_directive = true
is_directive_row r = false

directive_row : (r : Row) (vs : Values (fields_of r)) → is_directive_kind (kind_in r vs) ≡ is_directive_row r
directive_row a_program vs = refl
directive_row r vs = refl

abbrev pub takes_directive : Option Row → Bool
takes_directive (Some r) = is_directive_row r
takes_directive None = false

no_directive_at : (c : Class) (r : Row) → takes_directive (stands c type.ExpressionStatement) ≡ false → stands c (type_of r) ≡ Some (first_of r) → is_directive_row r ≡ false
no_directive_at c a_directive none h = absurd cc
no_directive_at c r none h = refl

pub no_directive : (c : Class) (k : Kind) (below : Forest) → takes_directive (stands c type.ExpressionStatement) ≡ false → IsOf k below (λ p. Stand p below) c → is_directive_kind k ≡ false
no_directive c k below none of = ap is_directive_kind of.4 ∙ directive_row of.0 of.1 ∙ no_directive_at c of.0 none of.2

-- ---- lists

pub ok_is : {A : Type 0} (x y : A) → ◌≡◌ {A = Result A Fault} (Ok x) (Ok y) → x ≡ y
ok_is x y h = cc

pub items_fit : (one : Data → Result Forest Fault) (c : Class) → ((d : Data) (t : Forest) → one d ≡ Ok t → Fits c t) → (ds : Items) (t : Forest) → read_items one ds ≡ Ok t → Stand (all c) t
items_fit one c fit no_items t h = subst (Stand (all c)) (ok_is nothing t h) tt
items_fit one c fit (item d ds) t h =
    let first = began (one d) (λ x. before x (read_items one ds)) t h in
    let rest = began (read_items one ds) (λ r. Ok (joined first.0 r)) t first.2 in
    subst (Stand (all c)) (ok_is (joined first.0 rest.0) t rest.2) (all_stand c first.0 rest.0 (fit d first.0 first.1) (items_fit one c fit ds rest.0 rest.1))

pub or_hole_fits : (one : Data → Result Forest Fault) (c : Class) → ((d : Data) (t : Forest) → one d ≡ Ok t → Fits c t) → (d : Data) (t : Forest) → read_or_hole one d ≡ Ok t → FitsOrHole c t
unfolding read_or_hole
or_hole_fits one c fit null t h = subst (FitsOrHole c) (ok_is (alone hole nowhere nothing) t h) (inl (refl, tt), tt)
or_hole_fits one c fit d t h = or_hole c t (fit d t h)

pub items_or_holes_fit : (one : Data → Result Forest Fault) (c : Class) → ((d : Data) (t : Forest) → one d ≡ Ok t → FitsOrHole c t) → (ds : Items) (t : Forest) → read_items one ds ≡ Ok t → Stand (all_or_holes c) t
items_or_holes_fit one c fit no_items t h = subst (Stand (all_or_holes c)) (ok_is nothing t h) tt
items_or_holes_fit one c fit (item d ds) t h =
    let first = began (one d) (λ x. before x (read_items one ds)) t h in
    let rest = began (read_items one ds) (λ r. Ok (joined first.0 r)) t first.2 in
    subst (Stand (all_or_holes c)) (ok_is (joined first.0 rest.0) t rest.2) (holes_stand c first.0 rest.0 (fit d first.0 first.1) (items_or_holes_fit one c fit ds rest.0 rest.1))

directive_first : (c : Class) (t r : Forest) → Fits a_prologue t → Stand (all_of_body c) r → Stand (all_of_body c) (joined t r)
directive_first c nothing r h later = absurd h
directive_first c (node k m below nothing) r h later =
    (inl h.0, subst (λ (b : Bool). Stand (after_body_item c b) r) (sym (ap is_directive_kind h.0.4 ∙ directive_kind h.0.0 h.0.1 h.0.2)) later)
directive_first c (node k m below (node j n b rest)) r h later = absurd h.1.0
directive_first c (node k m below (absent rest)) r h later = absurd h.1.0
directive_first c (absent rest) r h later = absurd h.0

pub body_of_all : (c : Class) (t : Forest) → takes_directive (stands c type.ExpressionStatement) ≡ false → Stand (all c) t → Stand (all_of_body c) t
body_of_all c nothing none h = tt
body_of_all c (node k m below rest) none h =
    let other = no_directive c k below none h.0 in
    (inr (other, h.0), subst (λ (b : Bool). Stand (after_body_item c b) rest) (sym other) h.1)
body_of_all c (absent rest) none h = absurd h.0

-- a reader whose trees fit
abbrev pub Fitting : Reader → Type 0
Fitting one = (c : Class) (bad : Fault) (d : Data) (t : Forest) → one c bad d ≡ Ok t → Fits c t

module _ (one : Reader) (fit : Fitting one) (bad : Fault) where
  body_item_fits : (c : Class) (b : Bool) (d : Data) (ds : Items) (t : Forest) → takes_directive (stands c type.ExpressionStatement) ≡ false → ((r : Forest) → read_body one c bad ds ≡ Ok r → Stand (all_of_body c) r)
      → (if b then (one a_prologue bad d >>= λ x. before x (read_body one c bad ds)) else read_items (one c bad) (item d ds)) ≡ Ok t → Stand (all_of_body c) t
  body_item_fits c true d ds t none later h =
      let first = began (one a_prologue bad d) (λ x. before x (read_body one c bad ds)) t h in
      let rest = began (read_body one c bad ds) (λ r. Ok (joined first.0 r)) t first.2 in
      subst (Stand (all_of_body c)) (ok_is (joined first.0 rest.0) t rest.2) (directive_first c first.0 rest.0 (fit a_prologue bad d first.0 first.1) (later rest.0 rest.1))
  body_item_fits c false d ds t none later h = body_of_all c t none (items_fit (one c bad) c (fit c bad) (item d ds) t h)

  pub body_fits : (c : Class) (ds : Items) (t : Forest) → takes_directive (stands c type.ExpressionStatement) ≡ false → read_body one c bad ds ≡ Ok t → Stand (all_of_body c) t
  body_fits c no_items t none h = subst (Stand (all_of_body c)) (ok_is nothing t h) tt
  body_fits c (item d ds) t none h = body_item_fits c (is_directive d) d ds t none (λ r. body_fits c ds r none) h

-- ---- keys

abbrev pub first_private : Forest → Bool
first_private nothing = false
first_private (node k m below rest) = is_private k
first_private (absent rest) = false

-- whether the node that is a key is a private name
abbrev pub KeyIs : (private : Bool) → Key → Forest → Type 0
KeyIs private key_below t = first_private t ≡ private
KeyIs private key t = Unit {0}

abbrev pub KeyFits : Keys → Key → Forest → Type 0
KeyFits keys key t = (private : Bool) → KeyIs private key t → Stand (these (key_place keys private key ∷ [])) t

expression_key : (keys : Keys) (t : Forest) → Fits expression t → KeyFits keys key_below t
expression_key keys nothing h private is = absurd h
expression_key keys (node k m below nothing) h private is = subst (λ (b : Bool). Stand (these (key_place keys b key_below ∷ [])) (node k m below nothing)) (sym (not_private expression k below refl h.0) ∙ is) h
expression_key keys (node k m below (node j n b rest)) h private is = absurd h.1.0
expression_key keys (node k m below (absent rest)) h private is = absurd h.1.0
expression_key keys (absent rest) h private is = absurd h.0

private_node_key : (keys : Keys) (t : Forest) → takes_private keys ≡ true → Fits private_key t → KeyFits keys key_below t
private_node_key keys nothing may h private is = absurd h
private_node_key keys (node k m below nothing) may h private is = subst (λ (b : Bool). Stand (these (key_place keys b key_below ∷ [])) (node k m below nothing)) (sym (is_private_of k below h.0) ∙ is) ((may, h.0), tt)
private_node_key keys (node k m below (node j n b rest)) may h private is = absurd h.1.0
private_node_key keys (node k m below (absent rest)) may h private is = absurd h.1.0
private_node_key keys (absent rest) may h private is = absurd h.0

abbrev IsLiteralKey : Key → Type 0
IsLiteralKey (key_text s) = Unit {0}
IsLiteralKey (key_number n) = Unit {0}
IsLiteralKey key = ⊥

key_of_literal : (bad : Fault) (v : Value) (key : Key) → key_of bad v ≡ Ok key → IsLiteralKey key
key_of_literal bad (value.Text s) key h = subst IsLiteralKey (ok_is (key_text s) key h) tt
key_of_literal bad (value.Number (pos n)) key h = subst IsLiteralKey (ok_is (key_number n) key h) tt
key_of_literal bad (value.Number (negsuc n)) key h = absurd cc
key_of_literal bad v key h = absurd cc

literal_key_at : (b : Bool) (bad : Fault) (r : Result Value Fault) (d : Data) (key : Key) → (if b then Err bad else (r >>= λ v. key_of bad v >>= λ k. check_extras type.Literal d >>= λ _. Ok k)) ≡ Ok key → IsLiteralKey key
literal_key_at true bad r d key h = absurd cc
literal_key_at false bad r d key h =
    let v = began r (λ v. key_of bad v >>= λ k. check_extras type.Literal d >>= λ _. Ok k) key h in
    let k = began (key_of bad v.0) (λ k. check_extras type.Literal d >>= λ _. Ok k) key v.2 in
    let extras = began (check_extras type.Literal d) (λ _. Ok k.0) key k.2 in
    subst IsLiteralKey (ok_is k.0 key extras.2) (key_of_literal bad v.0 k.0 k.1)

literal_key : (bad : Fault) (d : Data) (key : Key) → read_literal_key bad d ≡ Ok key → IsLiteralKey key
unfolding read_literal_key
literal_key bad d key h = literal_key_at _ bad (literal_value d) d key h

literal_key_fits : (keys : Keys) (key : Key) → takes_literal keys ≡ true → IsLiteralKey key → KeyFits keys key (absent nothing)
literal_key_fits keys (key_text s) may is private at = (may, tt)
literal_key_fits keys (key_number n) may is private at = (may, tt)
literal_key_fits keys (key_name s) may is private at = absurd is
literal_key_fits keys key_below may is private at = absurd is

abbrev KeyOf : Keys → (Key × Forest) → Type 0
KeyOf keys p = KeyFits keys p.0 p.1

module _ (one : Reader) (fit : Fitting one) (bad : Fault) (keys : Keys) (key : Key) (x : Forest) where
  static_key_fits : (d : Data) (t : NodeType) → static_key one keys bad d t ≡ Ok (key, x) → KeyOf keys (key, x)
  unfolding read_identifier
  static_key_fits d type.Identifier h =
      let k = began (read_identifier d) (λ k. Ok (k, absent nothing)) (key, x) h in
      let s = began (read_identifier_name d) (λ s. Ok (key_name s)) k.0 k.1 in
      subst (KeyOf keys) (ap (λ (j : Key). (j, absent nothing)) (ok_is (key_name s.0) k.0 s.2) ∙ ok_is (k.0, absent nothing) (key, x) k.2) (λ private is. (refl, tt))
  static_key_fits d type.Literal h =
      let may = taken (takes_literal keys) (apart (read_literal_key bad d)) bad (key, x) h in
      let k = began (read_literal_key bad d) (λ k. Ok (k, absent nothing)) (key, x) may.1 in
      subst (KeyOf keys) (ok_is (k.0, absent nothing) (key, x) k.2) (literal_key_fits keys k.0 may.0 (literal_key bad d k.0 k.1))
  static_key_fits d type.PrivateIdentifier h =
      let may = taken (takes_private keys) (within (one private_key bad d)) bad (key, x) h in
      let n = began (one private_key bad d) (λ n. Ok (key_below, n)) (key, x) may.1 in
      subst (KeyOf keys) (ok_is (key_below, n.0) (key, x) n.2) (private_node_key keys n.0 may.0 (fit private_key bad d n.0 n.1))
  static_key_fits d t h = absurd cc

  pub key_fits : (computed : Bool) (found : Option Data) → read_key one keys computed bad found ≡ Ok (key, x) → KeyFits keys key x
  unfolding read_key
  key_fits computed None h = absurd cc
  key_fits true (Some d) h =
      let n = began (one expression bad d) (λ n. Ok (key_below, n)) (key, x) h in
      subst (KeyOf keys) (ok_is (key_below, n.0) (key, x) n.2) (expression_key keys n.0 (fit expression bad d n.0 n.1))
  key_fits false (Some d) h =
      let t = began (type_at bad d) (λ t. static_key one keys bad d t) (key, x) h in
      static_key_fits d t.0 t.2
