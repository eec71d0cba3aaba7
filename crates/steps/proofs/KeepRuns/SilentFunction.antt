-- A call of a function whose text tells that it is silent does nothing but give a value.
use Rattle.std.proofs.Common.{◌≡◌, ◌∙◌, inl, List, [], ◌∷◌, Bool, true, false, ◌&&◌, ◌||◌, Some, refl, sym, ap, subst, true≢false, bytes_eq}
use Rattle.std.proofs.lemmas.Slice.Eq.{bytes_eq-Decides}
use Rattle.js_syntax.specs.declared.node_kind.NodeKind.{NodeKind as Kind}
use Rattle.js_syntax.specs.declared.kind.FunctionKind.TheVariants as function_kind
use Rattle.js_syntax.specs.Node.{Note, Forest, Tree, nothing, node, absent, alone}
use Rattle.js_syntax.proofs.Truth.{first_of_both, second_of_both, not_true, or_false}
use Rattle.js_meaning.specs.Value.{Text}
use Rattle.js_meaning.specs.Scope.{Decl, function_decls}
use Rattle.js_meaning.specs.Module.{names_in}
use Rattle.js_meaning_near.specs.Names.{Fact, Names, Declared}
use Rattle.js_meaning_near.specs.Near.{Silent, SilentCode}
use Rattle.js_meaning_near.specs.Fit.{names_after, within_code}
use Rattle.js_meaning_near.specs.Avoid.{declares}
use Rattle.js_meaning_near.specs.Known.{Knows, code_of}
use Rattle.js_meaning_near.specs.Bodies.{AreNames, QuietNames, no_names_more, name_given, name_not_given, QuietItems, no_items_more, empty_item, expression_item, names_item, return_item, bare_return_item}
use Rattle.js_meaning_near.specs.Unused.{Needed, all_needed, not_needed}
use Rattle.js_meaning_near.proofs.Bodies.{quiet_code}
use Rattle.js_meaning_near.proofs.Fit.{same_decls}
use Rattle.steps.specs.Names.{is_among, may_act}
use Rattle.steps.specs.KeepRuns.SilentFunction.{is_call, holds_call, are_names, is_silent, are_silent, gives_silently, declares_silently, runs_silently, all_run_silently, has_silent_parts}
use Rattle.steps.proofs.KeepRuns.Names.{declares_among, decls_declare}
use Rattle.steps.proofs.KeepRuns.Silent.{Declare, silent}
use Rattle.scope_laws.specs.Place.{Around, first, behind, behind_none, under, plug}

-- ---- what it evaluates

module _ (names : List Text) (st : Names) (declared : Declare st names) where
  silent_so : (k : Kind) (n : Note) (a : Forest) → is_silent names k n a ≡ true → Silent st k a
  silent_so k n a h = silent names k n a declared (not_true (may_act names (alone k n a)) h)

  pub silent_arguments : (es : Forest) → are_silent names es ≡ true → Needed st es nothing
  silent_arguments nothing h = all_needed
  silent_arguments (absent r) h = absurd (true≢false (sym h))
  silent_arguments (node k n a r) h = not_needed (silent_so k n a (first_of_both (is_silent names k n a) (are_silent names r) h)) (silent_arguments r (second_of_both (is_silent names k n a) (are_silent names r) h))

  module _ (own : List Decl) (are_own : names ≡ names_in own) where
    own_so : (x : Text) → is_among names x ≡ true → declares own x ≡ true
    own_so x h = declares_among own x ∙ ap (λ l. is_among l x) (sym are_own) ∙ h

    quiet_name : (x : Text) (n m : Note) (a v r : Forest) → is_among names x ≡ true → gives_silently names v ≡ true → QuietNames own st r → QuietNames own st (node Kind.VariableDeclarator n (node (Kind.BindingName x) m a v) r)
    quiet_name x n m a nothing r h g q = absurd (true≢false (sym g))
    quiet_name x n m a (absent c) r h g q = name_not_given (own_so x h) q
    quiet_name x n m a (node k i b c) r h g q = name_given (own_so x h) (silent_so k i b g) q

    quiet_names : (t : Forest) → declares_silently names t ≡ true → QuietNames own st t
    quiet_names nothing h = no_names_more
    quiet_names (node Kind.VariableDeclarator n (node (Kind.BindingName x) m a v) r) h =
        let here = first_of_both (is_among names x && gives_silently names v) (declares_silently names r) h in
        quiet_name x n m a v r (first_of_both (is_among names x) (gives_silently names v) here) (second_of_both (is_among names x) (gives_silently names v) here)
        (quiet_names r (second_of_both (is_among names x && gives_silently names v) (declares_silently names r) h))
    quiet_names t h = absurd (true≢false (sym h))

    quiet_return : (n : Note) (v r : Forest) → gives_silently names v ≡ true → QuietItems own st r → QuietItems own st (node Kind.ReturnStatement n v r)
    quiet_return n nothing r h q = absurd (true≢false (sym h))
    quiet_return n (absent c) r h q = bare_return_item q
    quiet_return n (node k m a c) r h q = return_item (silent_so k m a h) q

    quiet_item : (k : Kind) (n : Note) (a r : Forest) → runs_silently names k a ≡ true → QuietItems own st r → QuietItems own st (node k n a r)
    quiet_item Kind.EmptyStatement n a r h q = empty_item q
    quiet_item Kind.ExpressionStatement n (node k m a c) r h q = expression_item (silent_so k m a h) q
    quiet_item Kind.ReturnStatement n a r h q = quiet_return n a r h q
    quiet_item (Kind.VariableDeclaration how) n (node Kind.Declarators m a c) r h q = names_item (quiet_names a h) q
    quiet_item k n a r h q = absurd (true≢false (sym h))

    pub quiet_items : (t : Forest) → all_run_silently names t ≡ true → QuietItems own st t
    quiet_items nothing h = no_items_more
    quiet_items (absent r) h = absurd (true≢false (sym h))
    quiet_items (node k n a r) h = quiet_item k n a r (first_of_both (runs_silently names k a) (all_run_silently names r) h) (quiet_items r (second_of_both (runs_silently names k a) (all_run_silently names r) h))

-- ---- its names

names_so : (ps : Forest) → are_names ps ≡ true → AreNames ps
names_so nothing h = tt
names_so (node (Kind.BindingName x) n a r) h = names_so r h
names_so t h = absurd (true≢false (sym h))

own_declared : (st : Names) (ds : List Decl) → Declare (names_after st ds) (names_in ds)
own_declared st ds x h = decls_declare (same_decls st ds) x (inl (declares_among ds x ∙ h))

-- what is known of a name makes it a declared one
pub known_declared : (x : Text) (f : Fact) (st : Names) → Knows x f st → Declare st (x ∷ [])
known_declared x f st k y h = subst (λ z. Declared (st z)) ((bytes_eq-Decides x y).0 (sym (or_false (bytes_eq x y)) ∙ h)) (subst Declared (sym k.known_so) tt)

pub silent_code : (st : Names) (a : Forest) → has_silent_parts a ≡ true → SilentCode st a
silent_code st (node (Kind.BindingName x) i nothing (node Kind.Parameters j ps (node Kind.FunctionBody k (node Kind.Statements l b nothing) nothing))) h =
    let own : List Decl = function_decls function_kind.Declaration (code_of i j k l x ps b) in
    let within : Names = within_code st function_kind.Declaration (code_of i j k l x ps b) in
    quiet_code st i j k l x ps b (names_so ps (first_of_both (are_names ps) (all_run_silently (names_in own) b) h), quiet_items (names_in own) within (own_declared st own) own refl b (second_of_both (are_names ps) (all_run_silently (names_in own) b) h))
silent_code st t h = absurd (true≢false (sym h))

-- ---- no call stands in it

or_true : (b c : Bool) → c ≡ true → (b || c) ≡ true
or_true true c h = refl
or_true false c h = h

or_first : (b c : Bool) → b ≡ true → (b || c) ≡ true
or_first true c h = refl
or_first false c h = absurd (true≢false (sym h))

pub call_there : (x : Tree) (a : Around) → holds_call x.below ≡ true → holds_call (plug a (Some x)) ≡ true
call_there x (first rest) h = or_true (is_call x.kind) (holds_call x.below || holds_call rest) (or_first (holds_call x.below) (holds_call rest) h)
call_there x (behind k n below a) h = or_true (is_call k) (holds_call below || holds_call (plug a (Some x))) (or_true (holds_call below) (holds_call (plug a (Some x))) (call_there x a h))
call_there x (behind_none a) h = call_there x a h
call_there x (under k n a rest) h = or_true (is_call k) (holds_call (plug a (Some x)) || holds_call rest) (or_first (holds_call (plug a (Some x))) (holds_call rest) (call_there x a h))
