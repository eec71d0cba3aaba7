-- A value of JSON that stands for itself: what is written for it reads as that value again.
use Rattle.std.proofs.Common.{◌≡◌, ℕ, ◌^◌, ◌<◌, ◌≤◌, suc, max, List, [], Some, option_map, option_and_then, Ordering, Less, Equal, Greater, refl, sym, ap, ap₂, ◌∙◌, arith, append-nil}
use Rattle.std.specs.Ordering.{nat_cmp, match_ordering, ordering_reverse}
use Rattle.std.specs.Cmp.Lexicographic.{slice_cmp}
use Rattle.std.proofs.lemmas.Cmp.{nat_list_cmp_total}
use Rattle.json.specs.Lex.{tokens}
use Rattle.json.specs.Json as json
use Rattle.json.specs.Tree as tree
use Rattle.json.proofs.Printed.Trees.{value-json_tokens}
use Rattle.serde_json.specs.Data.{unsigned, Data, null, boolean, number, string, array, object, Items, no_items, item, Members, no_members, member, put, depth, items_depth, members_depth}
use Rattle.serde_json.specs.Read.{of_json, of_items, of_members, max_depth, read}
use Rattle.serde_json.specs.Written.{outline, items_outline, members_outline}
use Rattle.serde_json.proofs.Numbers.{number_of-decimal}

-- ---- objects with their keys in order

-- this key stands before all
abbrev ComesFirst : List ℕ → Members → Type 0
ComesFirst k no_members = Unit {0}
ComesFirst k (member l e ms) = slice_cmp nat_cmp k l ≡ Less

abbrev mutual
  pub IsPlain : Data → Type 0
  IsPlain (number (unsigned n)) = n < 2 ^ 64
  IsPlain (number n) = ⊥
  IsPlain (array ds) = AreItemsPlain ds
  IsPlain (object ms) = AreMembersPlain ms
  IsPlain d = Unit {0}

  pub AreItemsPlain : Items → Type 0
  AreItemsPlain no_items = Unit {0}
  AreItemsPlain (item d ds) = IsPlain d × AreItemsPlain ds

  pub AreMembersPlain : Members → Type 0
  AreMembersPlain no_members = Unit {0}
  AreMembersPlain (member k d ms) = IsPlain d × ComesFirst k ms × AreMembersPlain ms

turned : (k l : List ℕ) → slice_cmp nat_cmp k l ≡ Less → slice_cmp nat_cmp l k ≡ Greater
turned k l h = nat_list_cmp_total.antisymm l k ∙ ap ordering_reverse h

turned_back : (k l : List ℕ) → slice_cmp nat_cmp k l ≡ Greater → slice_cmp nat_cmp l k ≡ Less
turned_back k l h = nat_list_cmp_total.antisymm l k ∙ ap ordering_reverse h

first_put : (o : Ordering) (l k m : List ℕ) (d f : Data) (ms : Members) → slice_cmp nat_cmp l k ≡ Less → slice_cmp nat_cmp l m ≡ Less
    → ComesFirst l (match_ordering o (member k d (member m f ms)) (member m d ms) (member m f (put k d ms)))
first_put Less l k m d f ms before first = before
first_put Equal l k m d f ms before first = first
first_put Greater l k m d f ms before first = first

ComesFirst-put : (l k : List ℕ) (d : Data) (ms : Members) → slice_cmp nat_cmp l k ≡ Less → ComesFirst l ms → ComesFirst l (put k d ms)
ComesFirst-put l k d no_members before first = before
ComesFirst-put l k d (member m f ms) before first = first_put (slice_cmp nat_cmp k m) l k m d f ms before first

plain_at : (o : Ordering) (k l : List ℕ) (d e : Data) (ms : Members) → slice_cmp nat_cmp k l ≡ o → IsPlain d → AreMembersPlain (member l e ms) → AreMembersPlain (put k d ms)
    → AreMembersPlain (match_ordering o (member k d (member l e ms)) (member l d ms) (member l e (put k d ms)))
plain_at Less k l d e ms is p all later = (p, is, all)
plain_at Equal k l d e ms is p all later = (p, all.1, all.2)
plain_at Greater k l d e ms is p all later = (all.0, ComesFirst-put l k d ms (turned_back k l is) all.1, later)

pub AreMembersPlain-put : (k : List ℕ) (d : Data) (ms : Members) → IsPlain d → AreMembersPlain ms → AreMembersPlain (put k d ms)
AreMembersPlain-put k d no_members p all = (p, tt, tt)
AreMembersPlain-put k d (member l e ms) p all = plain_at (slice_cmp nat_cmp k l) k l d e ms refl p all (AreMembersPlain-put k d ms p all.2)

-- ---- reading goes from the first member on

abbrev followed : Members → Members → Members
followed no_members ms = ms
followed (member k d found) ms = member k d (followed found ms)

abbrev IsOrdered : Members → Type 0
IsOrdered no_members = Unit {0}
IsOrdered (member k d ms) = ComesFirst k ms × IsOrdered ms

IsOrdered-plain : (ms : Members) → AreMembersPlain ms → IsOrdered ms
IsOrdered-plain no_members h = tt
IsOrdered-plain (member k d ms) h = (h.1, IsOrdered-plain ms h.2)

before_all : (l k : List ℕ) (d : Data) (found ms : Members) → ComesFirst l (followed found (member k d ms)) → IsOrdered (followed found (member k d ms)) → slice_cmp nat_cmp l k ≡ Less
before_all l k d no_members ms first h = first
before_all l k d (member m e found) ms first h = nat_list_cmp_total.trans l m k first (before_all m k d found ms h.0 h.1)

put_last : (k : List ℕ) (d : Data) (found ms : Members) → IsOrdered (followed found (member k d ms)) → put k d found ≡ followed found (member k d no_members)
put_last k d no_members ms h = refl
put_last k d (member l e found) ms h = rw (turned l k (before_all l k d found ms h.0 h.1)) (ap (member l e) (put_last k d found ms h.1))

followed_assoc : (k : List ℕ) (d : Data) (found ms : Members) → followed (followed found (member k d no_members)) ms ≡ followed found (member k d ms)
followed_assoc k d no_members ms = refl
followed_assoc k d (member l e found) ms = ap (member l e) (followed_assoc k d found ms)

followed_none : (found : Members) → followed found no_members ≡ found
followed_none no_members = refl
followed_none (member k d found) = ap (member k d) (followed_none found)

mutual
  of_json-outline : (d : Data) → IsPlain d → of_json (outline d) ≡ Some d
  of_json-outline null h = refl
  of_json-outline (boolean b) h = refl
  of_json-outline (number (unsigned n)) h = ap (option_map number) (number_of-decimal n h)
  of_json-outline (number n) h = absurd h
  of_json-outline (string s) h = refl
  of_json-outline (array ds) h = ap (option_map array) (of_items-outline ds h)
  of_json-outline (object ms) h = ap (option_map object) (of_members-outline ms no_members h (IsOrdered-plain ms h))

  of_items-outline : (ds : Items) → AreItemsPlain ds → of_items (items_outline ds) ≡ Some ds
  of_items-outline no_items h = refl
  of_items-outline (item d ds) h = rw (of_json-outline d h.0, of_items-outline ds h.1) refl

  of_members-outline : (ms found : Members) → AreMembersPlain ms → IsOrdered (followed found ms) → of_members (members_outline ms) found ≡ Some (followed found ms)
  of_members-outline no_members found h ordered = ap Some (sym (followed_none found))
  of_members-outline (member k d ms) found h ordered =
      let next = followed_assoc k d found ms in
      rw (of_json-outline d h.0, put_last k d found ms ordered)
      (of_members-outline ms (followed found (member k d no_members)) h.2 (rw next ordered) ∙ ap Some next)

mutual
  depth-outline : (d : Data) → tree.depth (outline d) ≡ depth d
  depth-outline null = refl
  depth-outline (boolean b) = refl
  depth-outline (number n) = refl
  depth-outline (string s) = refl
  depth-outline (array ds) = ap suc (items_depth-outline ds)
  depth-outline (object ms) = ap suc (members_depth-outline ms)

  items_depth-outline : (ds : Items) → tree.items_depth (items_outline ds) ≡ items_depth ds
  items_depth-outline no_items = refl
  items_depth-outline (item d ds) = ap₂ (λ m n. max m n) (depth-outline d) (items_depth-outline ds)

  members_depth-outline : (ms : Members) → tree.members_depth (members_outline ms) ≡ members_depth ms
  members_depth-outline no_members = refl
  members_depth-outline (member k d ms) = ap₂ (λ m n. max m n) (depth-outline d) (members_depth-outline ms)

-- the text with these tokens is read as the value
pub read-outline : (text : List ℕ) (d : Data) → tokens text ≡ tree.json_tokens (outline d) → IsPlain d → depth d ≤ max_depth → read text ≡ Some d
read-outline text d same plain shallow =
    ap (λ o. option_and_then of_json (option_and_then (λ p. json.if_last p.0 p.1) o))
    (ap (json.value max_depth) (same ∙ sym (append-nil _)) ∙ value-json_tokens (outline d) max_depth [] (omega (arith, depth-outline d)))
    ∙ of_json-outline d plain
