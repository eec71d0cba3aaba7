-- A declaration of one name, of which the value may stay as a statement, doesn't see notes.
use Rattle.std.proofs.Common.{◌≡◌, ◌∙◌, ℕ, List, true, not, ap, refl}
use Rattle.js_syntax.specs.declared.node_kind.NodeKind.{NodeKind as Kind}
use Rattle.js_syntax.specs.declared.node_kind.NodeKind.TheVariants.{Literal as literal, VariableDeclarator as variable_declarator, Declarators as declarators, BindingName as binding_name}
use Rattle.js_syntax.specs.Node.{Forest, Note, nothing, node, alone, bare}
use Rattle.scope_laws.proofs.Notes.{unseen}
use Rattle.steps.specs.KeepForm.Part.{declares_one}
use Rattle.steps.specs.Allowed.ValueStays.{may_be_stated}
use Rattle.headline.proofs.RenotedRows.{nothing_bare, opened, before_one}
use Rattle.headline.proofs.RenotedUnused.{names_taken_bare}

stated_bare : (k : Kind) (t : Forest) → may_be_stated k (bare t) ≡ may_be_stated k t
stated_bare (literal v) t = refl
stated_bare k t = ap not (names_taken_bare k t)

pub stated_as : (k : Kind) (f g : Forest) → bare f ≡ bare g → may_be_stated k g ≡ true → may_be_stated k f ≡ true
stated_as k f g e may = unseen (may_be_stated k) (stated_bare k) f g e ∙ may

-- ---- a row of one node

record Alone (f : Forest) (k : Kind) (below : Forest) : Type 0 where
  note : Note
  inner : Forest
  is : f ≡ alone k note inner
  same : bare inner ≡ bare below

alone_as : (f : Forest) (k : Kind) (n : Note) (b : Forest) → bare f ≡ bare (alone k n b) → Alone f k b
alone_as f k n b e =
    let o = opened f k n b nothing e in
    record { note = o.note; inner = o.below_now; is = o.is ∙ ap (node k o.note o.below_now) (nothing_bare o.rest_now o.same_rest); same = o.same_below }

-- ---- what a declaration of one name holds

pub record DeclaresAs (f : Forest) (x : List ℕ) (k : Kind) (below : Forest) : Type 0 where
  pub list_note : Note
  pub declarator_note : Note
  pub name_note : Note
  pub value_note : Note
  pub value_below : Forest
  pub is : f ≡ declares_one list_note declarator_note name_note x (alone k value_note value_below)
  pub same : bare value_below ≡ bare below

declared_is : (f c d e v : Forest) (m l j i : Note) (x : List ℕ) (k : Kind) → f ≡ alone declarators m c → c ≡ alone variable_declarator l d → d ≡ node (binding_name x) j e (alone k i v) → e ≡ nothing → f ≡ declares_one m l j x (alone k i v)
declared_is f c d e v m l j i x k list declarator name none =
    list ∙ ap (alone declarators m) declarator ∙ ap (λ t. alone declarators m (alone variable_declarator l t)) name ∙ ap (λ t. alone declarators m (alone variable_declarator l (node (binding_name x) j t (alone k i v)))) none

pub declared_as : (f : Forest) (m l j i : Note) (x : List ℕ) (k : Kind) (b : Forest) → bare f ≡ bare (declares_one m l j x (alone k i b)) → DeclaresAs f x k b
declared_as f m l j i x k b e =
    let named = node (binding_name x) j nothing (alone k i b) in
    let o = alone_as f declarators m (alone variable_declarator l named) e in
    let p = alone_as o.inner variable_declarator l named o.same in
    let q = before_one p.inner (binding_name x) j i nothing k b p.same in
    record {
      list_note = o.note;
      declarator_note = p.note;
      name_note = q.note;
      value_note = q.first_note;
      value_below = q.first_below;
      is = declared_is f o.inner p.inner q.below q.first_below o.note p.note q.note q.first_note x k o.is p.is q.is (nothing_bare q.below q.same_below);
      same = q.same;
    }
