-- What an edit makes of a tree, row by row.
use Rattle.std.proofs.Common.{◌≡◌, ◌∙◌, ◌⊎◌, inl, inr, ℕ, List, Bool, true, false, is_some, refl, sym, subst, true≢false}
use Rattle.js_syntax.specs.declared.node_kind.NodeKind.{NodeKind as Kind}
use Rattle.js_syntax.specs.declared.node_kind.NodeKind.TheVariants.{ExpressionStatement as expression_statement, EmptyStatement as empty_statement, IfStatement as if_statement, VariableDeclaration as variable_declaration}
use Rattle.js_syntax.specs.declared.kind.VariableKind.{VariableKind}
use Rattle.js_syntax.specs.Class.{root}
use Rattle.js_syntax.specs.Node.{Forest, Note, nothing, node, absent, joined, alone}
use Rattle.js_tree.specs.Names.{eval_of_call}
use Rattle.json_shape.specs.Shape.{is_directive_kind, Fits}
use Rattle.scope_laws.specs.Lists.{is_list}
use Rattle.scope_counts.specs.Edits as place
use Rattle.scope_counts.specs.Edits.{Around, here, under, plug, in_list}
use Rattle.steps.specs.KeepForm.Part.{gives_way, may_be_idle, is_tested, is_asked_for, declares_one}
use Rattle.steps.specs.Allowed.Edits.{Edit}
use Rattle.steps.specs.Allowed.MergedImports.{MergedImports}
use Rattle.steps.specs.Allowed.PassedExports.{PassedExports}
use Rattle.steps.specs.Owed.Part.{DeclaresNothing}
use Rattle.steps.proofs.Marked.Called.{called_below, called_at, NamesStay, no_list_called, calls_stay}
use Rattle.steps.specs.KeepForm.Part.{a_var}
use Rattle.steps.proofs.VarNames.Left.{NamesLeft}
use Rattle.steps.proofs.Marked.Local as local
use Rattle.steps.proofs.Marked.Local.{IsRebuilt, Local, IsLocal, is_local}

-- of a row, which is a list or not; no call becomes one of `eval`
pub data Cuts : (listed : Bool) → (t u : Forest) → Type 0 where
  leaves : (k : Kind) (n : Note) (below rest : Forest) → is_directive_kind k ≡ false → Cuts true (node k n below rest) rest
  empties : (listed : Bool) (n m : Note) (below rest : Forest) → Cuts listed (node expression_statement n below rest) (node empty_statement m nothing rest)
  empties_idle : (listed : Bool) (k : Kind) (n m : Note) (below rest : Forest) → may_be_idle k ≡ true → Cuts listed (node k n below rest) (node empty_statement m nothing rest)
  tests : (listed : Bool) (k l : Kind) (n m i : Note) (b after rest : Forest) → is_tested k ≡ true → Cuts listed (node k n (node l i b after) rest) (node expression_statement m (node l i b nothing) rest)
  states : (listed : Bool) (how : VariableKind) (x : List ℕ) (k : Kind) (n m l j i o : Note) (b rest : Forest) → DeclaresNothing (alone k i b) → Cuts listed (node (variable_declaration how) n (declares_one m l j x (alone k i b)) rest) (node expression_statement o (alone k i b) rest)
  alternate : (t l : Kind) (i j o : Note) (d b : Forest) → Cuts false (node t i d (node l j b (node empty_statement o nothing nothing))) (node t i d (node l j b (absent nothing)))
  parts : (listed : Bool) (k l : Kind) (i j : Note) (b v w rest : Forest) → gives_way k ≡ true → is_asked_for l ≡ false → Cuts listed (node k i (joined v (node l j b w)) rest) (node l j b rest)
  rebuilds : (listed : Bool) (k l : Kind) (n m : Note) (a b rest : Forest) → IsRebuilt k n a l m b → Cuts listed (node k n a rest) (node l m b rest)
  names_left : (listed : Bool) (k : Kind) (n m : Note) (a b rest : Forest) → NamesLeft k n a m b → Cuts listed (node k n a rest) (node a_var m b rest)
  inside : (listed : Bool) (k : Kind) (n : Note) (below now rest : Forest) → (is_some (eval_of_call k now) ≡ true → is_some (eval_of_call k below) ≡ true) → Cuts (is_list k) below now → Cuts listed (node k n below rest) (node k n now rest)
  behind : (listed : Bool) (k : Kind) (n : Note) (below rest now : Forest) → Cuts listed rest now → Cuts listed (node k n below rest) (node k n below now)
  behind_none : (listed : Bool) (rest now : Forest) → Cuts listed rest now → Cuts listed (absent rest) (absent now)

cut_here : (a : Around) (t u : Forest) → Local a t u → (listed : Bool) → in_list false a ≡ listed → Cuts listed t u
cut_here a t u (local.leaves k n b rest is plain weighs) listed e = subst (λ l. Cuts l (node k n b rest) rest) (sym is ∙ e) (leaves k n b rest plain)
cut_here a t u (local.empties n m b rest) listed e = empties listed n m b rest
cut_here a t u (local.empties_idle k n m b rest idle) listed e = empties_idle listed k n m b rest idle
cut_here a t u (local.tests k l n m i b after rest tested) listed e = tests listed k l n m i b after rest tested
cut_here a t u (local.states how x k n m l j i o b rest none) listed e = states listed how x k n m l j i o b rest none
cut_here a t u (local.alternate y l n i j o d b rest) listed e =
    inside listed if_statement n (node y i d (node l j b (node empty_statement o nothing nothing))) (node y i d (node l j b (absent nothing))) rest (λ h. h) (alternate y l i j o d b)
cut_here a t u (local.parts k l i j b v w rest gives unasked uncalled) listed e = parts listed k l i j b v w rest gives unasked
cut_here a t u (local.rebuilds k l n m b c rest made uncalled) listed e = rebuilds listed k l n m b c rest made
cut_here a t u (local.names_left k n m b c rest made) listed e = names_left listed k n m b c rest made

-- where the first node is called it makes no name `eval` of another
names_stay : (a : Around) (t u : Forest) → Local a t u → called_at false a ≡ true → NamesStay t u
names_stay a t u (local.leaves k n b rest is plain weighs) c e = absurd (true≢false (sym is ∙ no_list_called a false false (λ g. refl) c))
names_stay a t u (local.empties n m b rest) c e = absurd (true≢false (sym e))
names_stay a t u (local.empties_idle k n m b rest idle) c e = absurd (true≢false (sym e))
names_stay a t u (local.tests k l n m i b after rest tested) c e = absurd (true≢false (sym e))
names_stay a t u (local.states how x k n m l j i o b rest none) c e = absurd (true≢false (sym e))
names_stay a t u (local.alternate y l n i j o d b rest) c e = absurd (true≢false (sym e))
names_stay a t u (local.parts k l i j b v w rest gives unasked uncalled) c e = absurd (true≢false (sym e ∙ uncalled c))
names_stay a t u (local.rebuilds k l n m b d rest made uncalled) c e = absurd (true≢false (sym e ∙ uncalled c))
names_stay a t u (local.names_left k n m b d rest made) c e = absurd (true≢false (sym e))

cut_at : (listed called : Bool) (a : Around) (t u : Forest) → (called_at called a ≡ true → NamesStay t u) → Cuts (in_list listed a) t u → Cuts listed (plug a t) (plug a u)
cut_at listed called here t u f c = c
cut_at listed called (place.behind k n b a) t u f c = behind listed k n b (plug a t) (plug a u) (cut_at listed false a t u f c)
cut_at listed called (place.behind_none a) t u f c = behind_none listed (plug a t) (plug a u) (cut_at listed false a t u f c)
cut_at listed called (under k n a rest) t u f c = inside listed k n (plug a t) (plug a u) rest (calls_stay called k a t u f) (cut_at (is_list k) (called_below called k) a t u f c)

local_cuts : (t u : Forest) → IsLocal t u → Cuts false t u
local_cuts t u l =
    subst (λ x. Cuts false t x) (sym l.new_is)
    (subst (λ x. Cuts false x (plug l.place l.new)) (sym l.old_is) (cut_at false false l.place l.old l.new (names_stay l.place l.old l.new l.local) (cut_here l.place l.old l.new l.local (in_list false l.place) refl)))

-- an edit that cuts nothing so makes one of two imports, or of an import and an export
pub edit_cuts : (t u : Forest) → Edit t u → Fits root t → Cuts false t u ⊎ (MergedImports t u ⊎ PassedExports t u)
edit_cuts t u e fits = elim (is_local t u e fits) [
  | inl l ↦ inl (local_cuts t u l)
  | inr m ↦ inr m
]
