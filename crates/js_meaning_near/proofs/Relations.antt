-- What is related in two runs side by side: environments, values, completions, states, and what they do.
use Rattle.std.proofs.Common.{◌≡◌, ◌+◌, ◌≤◌, ℕ, suc, List, [], ◌∷◌, Option, Some, None}
use Rattle.std.specs.Prelude.{Bool}
use Rattle.js_syntax.specs.Node.{Forest}
use Rattle.js_syntax.specs.declared.kind.FunctionKind.{FunctionKind}
use Rattle.js_syntax.specs.declared.kind.VariableKind.{VariableKind}
use Rattle.js_meaning.specs.Value.{Text, Slot, local, imported, arguments_object, Env, Plain, Value, plain, closure, object, array, error, Content, no_content, element, property, ErrorKind}
use Rattle.js_meaning.specs.Trace.{Ending, Event}
use Rattle.js_meaning.specs.State.{State, Cell, cell, Export, export, Place, at_slot, at_global, at_member, Completion, normal, gives, gives_all, refers, breaks, continues, returns, throws, Out, goes, stops, M, done, with_value}
use Rattle.js_meaning.specs.Scope.{look, first_of, lexical}
use Rattle.js_meaning.specs.Host.{Loop, for_loop, Task, body, turn, called_back, Enter}
use Rattle.js_meaning.specs.Node.{Wanted, Ask, run, value, place, take, take_all, declares, collect, entry, matches, now, Meaning}
use Rattle.js_meaning.specs.Meaning.{enter_body}
use Rattle.js_meaning.specs.Run.{seen}
use Rattle.js_meaning.specs.Kept.{Prefix}
use Rattle.js_meaning_near.specs.Names.{Status, undeclared, loose, owing, live, dead, unread, Fact, exactly, silent_function, owed_function, known, Names, Copied}
use Rattle.js_meaning_near.specs.Quiet.{OnlyAllocates, Quiet}
use Rattle.js_meaning_near.specs.Wasted.{Meets}
use Rattle.js_meaning_near.specs.Near.{fields, Near, Code, OwesTurn}
use Rattle.js_meaning_near.specs.Purpose.{Purpose, for_value, ForEffect, loop_purposes}
use Rattle.js_meaning_near.proofs.Worlds.{Rule, any_value, only_value, an_object, both, left, right, slack, debt, World, In, Sub, Links}

abbrev pub HoldsCell : Rule → Type 0
HoldsCell an_object = ⊥
HoldsCell _ = Unit {0}

-- what a name is bound to in both, by the rule of its cell
pub data SameSlot (w : World) (p : Rule) : Slot → Slot → Type 0 where
  same_local : {c d : ℕ} → In (both c d p) w → SameSlot w p (local c) (local d)
  same_import : {source x : Text} → SameSlot w p (imported source x) (imported source x)
  same_arguments : SameSlot w p arguments_object arguments_object

-- what a name is bound to in the old run alone, and in the new one alone
pub data LeftSlot (w : World) : Slot → Type 0 where
  left_local : {c : ℕ} → In (left c) w → LeftSlot w (local c)
  left_import : {source x : Text} → LeftSlot w (imported source x)
  left_arguments : LeftSlot w arguments_object

pub data RightSlot (w : World) : Slot → Type 0 where
  right_local : {c : ℕ} → In (right c) w → RightSlot w (local c)

-- the old run has twice as many entries left, and the new one may not have more
pub record Owed (w : World) : Type 0 where
  pub owed : In debt w
  pub no_slack : In slack w → ⊥

-- where a fact lets calls go, the new run may have more entries left, or the old one has twice as many
abbrev pub Spare : Fact → World → Type 0
Spare (exactly p) w = Unit {0}
Spare silent_function w = In slack w
Spare owed_function w = Owed w

-- what a name of this status is bound to in the one and in the other
pub data At (w : World) : Status → Option Slot → Option Slot → Type 0 where
  at_nowhere : At w undeclared None None
  at_loose : In slack w → At w loose None None
  at_owing : Owed w → At w owing None None
  at_live : {s z : Slot} → SameSlot w any_value s z → At w live (Some s) (Some z)
  at_known : {p : Fact} {c d : ℕ} → Spare p w → In (both c d (only_value p)) w → At w (known p) (Some (local c)) (Some (local d))
  at_dead : {s : Slot} {o : Option Slot} → LeftSlot w s → At w dead (Some s) o
  at_unread : {s z : Slot} → LeftSlot w s → RightSlot w z → At w unread (Some s) (Some z)

pub record Envs (w : World) (st : Names) (e f : Env) : Type 0 where
  pub at : (x : Text) → At w (st x) (look e x) (look f x)

-- values: an own object of one is the fellow of the other's, and functions have near code
mutual
  pub data Same (w : World) : Value → Value → Type 0 where
    same_plain : {p : Plain} → Same w (plain p) (plain p)
    same_closure : {i j : ℕ} {st : Names} {t : FunctionKind} {a b : Forest} {e f : Env} → In (both i j an_object) w → Code st t a b → Envs w st e f → Same w (closure i t a e) (closure j t b f)
    same_object : {i j : ℕ} {c d : Content} → In (both i j an_object) w → SameContent w c d → Same w (object i c) (object j d)
    same_array : {i j : ℕ} {c d : Content} → In (both i j an_object) w → SameContent w c d → Same w (array i c) (array j d)
    same_error : {i j : ℕ} {k : ErrorKind} → In (both i j an_object) w → Same w (error i k) (error j k)

  pub data SameContent (w : World) : Content → Content → Type 0 where
    same_empty : SameContent w no_content no_content
    same_element : {v u : Value} {c d : Content} → Same w v u → SameContent w c d → SameContent w (element v c) (element u d)
    same_property : {x : Text} {v u : Value} {c d : Content} → Same w v u → SameContent w c d → SameContent w (property x v c) (property x u d)

pub data SameOpt (w : World) : Option Value → Option Value → Type 0 where
  same_none : SameOpt w None None
  same_some : {v u : Value} → Same w v u → SameOpt w (Some v) (Some u)

pub data SameAll (w : World) : List Value → List Value → Type 0 where
  all_nil : SameAll w [] []
  all_cons : {v u : Value} {vs us : List Value} → Same w v u → SameAll w vs us → SameAll w (v ∷ vs) (u ∷ us)

pub data SameCell (w : World) : Cell → Cell → Type 0 where
  same_cell : {b : Bool} {o p : Option Value} → SameOpt w o p → SameCell w (cell b o) (cell b p)

pub data SamePlace (w : World) : Place → Place → Type 0 where
  same_at_slot : {s z : Slot} → SameSlot w any_value s z → SamePlace w (at_slot s) (at_slot z)
  same_at_global : {x : Text} {there : Bool} → SamePlace w (at_global x there) (at_global x there)
  same_at_member : {v u x y : Value} → Same w v u → Same w x y → SamePlace w (at_member v x) (at_member u y)

pub data SameCompletion (w : World) : Completion → Completion → Type 0 where
  same_normal : SameCompletion w normal normal
  same_gives : {v u x y : Value} → Same w v u → Same w x y → SameCompletion w (gives v x) (gives u y)
  same_gives_all : {vs us : List Value} → SameAll w vs us → SameCompletion w (gives_all vs) (gives_all us)
  same_refers : {p q : Place} → SamePlace w p q → SameCompletion w (refers p) (refers q)
  same_breaks : {o : Option Text} → SameCompletion w (breaks o) (breaks o)
  same_continues : {o : Option Text} → SameCompletion w (continues o) (continues o)
  same_returns : {v u : Value} → Same w v u → SameCompletion w (returns v) (returns u)
  same_throws : {v u : Value} → Same w v u → SameCompletion w (throws v) (throws u)

-- what is known of a cell's content
abbrev pub Obeys : Rule → Cell → Type 0
Obeys (only_value p) (cell b (Some v)) = Meets p v
Obeys _ c = Unit {0}

pub record Cells (w : World) (s z : ℕ → Cell) : Type 0 where
  pub linked : (a b : ℕ) (p : Rule) → In (both a b p) w → HoldsCell p → SameCell w (s a) (z b)
  pub obeyed : (a b : ℕ) (p : Rule) → In (both a b p) w → Obeys p (s a)

-- the exports: the same names, bound to the same
pub data SameExports (w : World) : List Export → List Export → Type 0 where
  no_exports : SameExports w [] []
  an_export : {x : Text} {p : Rule} {s z : Slot} {es fs : List Export} → HoldsCell p → SameSlot w p s z → SameExports w es fs → SameExports w (export x s ∷ es) (export x z ∷ fs)

-- what both are asked, where they are evaluated for this
pub data SameAsk (w : World) : Purpose → Ask → Ask → Type 0 where
  same_run : {u : Purpose} {ls : List Text} → SameAsk w u (run ls) (run ls)
  same_value : {wanted : Wanted} → SameAsk w (for_value wanted) (value wanted) (value wanted)
  same_place : {u : Purpose} → SameAsk w u place place
  same_take : {o : Purpose} {v u : Value} → Same w v u → SameAsk w o (take v) (take u)
  same_take_all : {u : Purpose} {vs us : List Value} → SameAll w vs us → SameAsk w u (take_all vs) (take_all us)
  same_declares : {u : Purpose} {how : VariableKind} → SameAsk w u (declares how) (declares how)
  same_collect : {u : Purpose} → SameAsk w u collect collect
  same_entry : {u : Purpose} → SameAsk w u entry entry
  same_matches : {o : Purpose} {v u : Value} → Same w v u → SameAsk w o (matches v) (matches u)

-- how many entries there may be yet: as many; or the new run has at least as many left; or the old one at least twice as many
pub data Budgets (w : World) (m n : ℕ) : Type 0 where
  as_many : (In debt w → ⊥) → m ≡ n → Budgets w m n
  no_more : In slack w → m ≤ n → Budgets w m n
  twice : Owed w → n + n ≤ m → Budgets w m n

pub record States (w : World) (s z : State) : Type 0 where
  pub budget : Budgets w s.budget z.budget
  pub links : Links w s.fresh z.fresh
  pub cells : Cells w s.store z.store
  pub globals : (x : Text) → SameOpt w (s.globals x) (z.globals x)
  pub imports : (source x : Text) → SameOpt w (s.imports source x) (z.imports source x)
  pub shown : SameAll w s.shown z.shown
  pub moves : s.moves ≡ z.moves
  pub exports : SameExports w s.exports z.exports
  pub stars : s.stars ≡ z.stars

abbrev pub trace : Out → List Event
trace o = (seen o).trace

-- the new run did what the old one did; or the old one was uncovered before, or had no entry left where the new one may
-- have had one; or the new one had none left where the old one may have had some
pub data Follows (w : World) : Out → Out → Type 0 where
  both_go : {es : List Event} {s z : State} {c d : Completion} {w2 : World} → Sub w w2 → States w2 s z → SameCompletion w2 c d → Follows w (goes es s c) (goes es z d)
  both_stop : {es : List Event} {e : Ending} → Follows w (stops es e) (stops es e)
  old_stops : {es : List Event} {o : Out} → Prefix es (trace o) → Follows w (stops es Ending.uncovered) o
  old_out : {es : List Event} {o : Out} → In slack w → Prefix es (trace o) → Follows w (stops es Ending.out) o
  new_out : {es : List Event} {o : Out} → Owed w → Follows w o (stops es Ending.out)

pub record Acts (w : World) (m k : M) : Type 0 where
  pub act : (w2 : World) → Sub w w2 → (s z : State) → States w2 s z → Follows w2 (m s) (k z)

-- what a computation does but for the value that it gives
abbrev pub effects : M → M
effects m = with_value m (λ v. done normal)

-- alike but for the values that they give
pub record ActsForEffect (w : World) (m k : M) : Type 0 where
  pub acts : Acts w (effects m) (effects k)

-- a node's meaning in one environment, beside another's in another, where it is evaluated for this
pub record Means (u : Purpose) (st : Names) (m k : Meaning) : Type 0 where
  pub mean : {w : World} {e f : Env} {q z : Ask} → Envs w st e f → SameAsk w u q z → Acts w (m q e) (k z f)
  pub effect : {w : World} {e f : Env} → ForEffect u → Envs w st e f → ActsForEffect w (m now e) (k now f)

-- what a loop reads off its row
abbrev pub LoopHead : Loop → Names → Forest → Forest → Type 0
LoopHead for_loop st a b = Copied st (lexical (first_of a)) (lexical (first_of b))
LoopHead _ st a b = Unit {0}

pub data Tasks (w : World) : Task → Task → Type 0 where
  same_body : {st : Names} {t : FunctionKind} {a b : Forest} {e f : Env} {v u : Value} {vs us : List Value} → Code st t a b → Envs w st e f → Same w v u → SameAll w vs us → Tasks w (body t a e v vs) (body t b f u us)
  same_turn : {st : Names} {l : Loop} {ls : List Text} {a b : Forest} {e f : Env} → LoopHead l st a b → Near (loop_purposes l) fields st a b → Envs w st e f → Tasks w (turn l a ls e) (turn l b ls f)
  same_owing_turn : {st : Names} {l : Loop} {ls : List Text} {a b : Forest} {e f : Env} (x : Text) → st x ≡ known owed_function → LoopHead l st a b → OwesTurn l st a b → Envs w st e f → Tasks w (turn l a ls e) (turn l b ls f)
  same_back : {k : Bool} {st : Names} {t : FunctionKind} {a b : Forest} {e f : Env} {v u : Value} {vs us : List Value} → Code st t a b → Envs w st e f → Same w v u → SameAll w vs us → Tasks w (called_back k t a e v vs) (called_back k t b f u us)

-- how a call ends whose code does nothing but give a value
pub data CallEnds (s : State) : Out → Type 0 where
  call_gives : {b : ℕ} {z : State} {v r : Value} → s.budget ≡ suc b → OnlyAllocates (record s { budget = b }) z → CallEnds s (goes [] z (gives v r))
  call_uncovered : CallEnds s (stops [] Ending.uncovered)
  call_out : CallEnds s (stops [] Ending.out)

-- entering keeps the relation
pub record Enters (E : Enter) : Type 0 where
  pub called : (f : FunctionKind) (a : Forest) (env : Env) → ((F : Enter) (this : Value) (vs : List Value) → Quiet (enter_body F f a env this vs)) → (this : Value) (vs : List Value) (s : State) → CallEnds s (E (body f a env this vs) s)
  pub entered : {w : World} {t u : Task} → Tasks w t u → Acts w (E t) (E u)

-- all of it stays where the world grows

pub owed_later : {w w2 : World} → Sub w w2 → Owed w → Owed w2
owed_later g o = record { owed = g.kept _ o.owed; no_slack = λ i. o.no_slack (g.slack_kept i) }

pub owed_before : {w w2 : World} → Sub w w2 → Owed w2 → Owed w
owed_before g o = record { owed = g.debt_kept o.owed; no_slack = λ i. o.no_slack (g.kept _ i) }

pub budgets_later : {w w2 : World} {m n : ℕ} → Sub w w2 → Budgets w m n → Budgets w2 m n
budgets_later h (as_many f e) = as_many (λ i. f (h.debt_kept i)) e
budgets_later h (no_more i l) = no_more (h.kept _ i) l
budgets_later h (twice o l) = twice (owed_later h o) l

pub slot_later : {w w2 : World} {p : Rule} {s z : Slot} → Sub w w2 → SameSlot w p s z → SameSlot w2 p s z
slot_later g (same_local i) = same_local (g.kept _ i)
slot_later g same_import = same_import
slot_later g same_arguments = same_arguments

pub left_later : {w w2 : World} {s : Slot} → Sub w w2 → LeftSlot w s → LeftSlot w2 s
left_later g (left_local i) = left_local (g.kept _ i)
left_later g left_import = left_import
left_later g left_arguments = left_arguments

pub right_later : {w w2 : World} {s : Slot} → Sub w w2 → RightSlot w s → RightSlot w2 s
right_later g (right_local i) = right_local (g.kept _ i)

pub spare_later : (p : Fact) {w w2 : World} → Sub w w2 → Spare p w → Spare p w2
spare_later (exactly p) g y = y
spare_later silent_function g y = g.kept _ y
spare_later owed_function g y = owed_later g y

pub at_later : {w w2 : World} {s : Status} {o p : Option Slot} → Sub w w2 → At w s o p → At w2 s o p
at_later g at_nowhere = at_nowhere
at_later g (at_loose i) = at_loose (g.kept _ i)
at_later g (at_owing o) = at_owing (owed_later g o)
at_later g (at_live i) = at_live (slot_later g i)
at_later g (at_known {p = p} y i) = at_known (spare_later p g y) (g.kept _ i)
at_later g (at_dead i) = at_dead (left_later g i)
at_later g (at_unread i k) = at_unread (left_later g i) (right_later g k)

pub envs_later : {w w2 : World} {st : Names} {e f : Env} → Sub w w2 → Envs w st e f → Envs w2 st e f
envs_later g r = record { at = λ x. at_later g (r.at x) }

mutual
  pub same_later : {w w2 : World} {v u : Value} → Sub w w2 → Same w v u → Same w2 v u
  same_later g same_plain = same_plain
  same_later g (same_closure i b r) = same_closure (g.kept _ i) b (envs_later g r)
  same_later g (same_object i c) = same_object (g.kept _ i) (content_later g c)
  same_later g (same_array i c) = same_array (g.kept _ i) (content_later g c)
  same_later g (same_error i) = same_error (g.kept _ i)

  pub content_later : {w w2 : World} {c d : Content} → Sub w w2 → SameContent w c d → SameContent w2 c d
  content_later g same_empty = same_empty
  content_later g (same_element r c) = same_element (same_later g r) (content_later g c)
  content_later g (same_property r c) = same_property (same_later g r) (content_later g c)

pub opt_later : {w w2 : World} {v u : Option Value} → Sub w w2 → SameOpt w v u → SameOpt w2 v u
opt_later g same_none = same_none
opt_later g (same_some r) = same_some (same_later g r)

pub all_later : {w w2 : World} {v u : List Value} → Sub w w2 → SameAll w v u → SameAll w2 v u
all_later g all_nil = all_nil
all_later g (all_cons r rs) = all_cons (same_later g r) (all_later g rs)

pub cell_later : {w w2 : World} {v u : Cell} → Sub w w2 → SameCell w v u → SameCell w2 v u
cell_later g (same_cell r) = same_cell (opt_later g r)

pub place_later : {w w2 : World} {p q : Place} → Sub w w2 → SamePlace w p q → SamePlace w2 p q
place_later g (same_at_slot i) = same_at_slot (slot_later g i)
place_later g same_at_global = same_at_global
place_later g (same_at_member r q) = same_at_member (same_later g r) (same_later g q)

pub completion_later : {w w2 : World} {v u : Completion} → Sub w w2 → SameCompletion w v u → SameCompletion w2 v u
completion_later g same_normal = same_normal
completion_later g (same_gives r q) = same_gives (same_later g r) (same_later g q)
completion_later g (same_gives_all r) = same_gives_all (all_later g r)
completion_later g (same_refers p) = same_refers (place_later g p)
completion_later g same_breaks = same_breaks
completion_later g same_continues = same_continues
completion_later g (same_returns r) = same_returns (same_later g r)
completion_later g (same_throws r) = same_throws (same_later g r)

pub exports_later : {w w2 : World} {v u : List Export} → Sub w w2 → SameExports w v u → SameExports w2 v u
exports_later g no_exports = no_exports
exports_later g (an_export h i r) = an_export h (slot_later g i) (exports_later g r)

pub ask_later : {w w2 : World} {o : Purpose} {v u : Ask} → Sub w w2 → SameAsk w o v u → SameAsk w2 o v u
ask_later g same_run = same_run
ask_later g same_value = same_value
ask_later g same_place = same_place
ask_later g (same_take r) = same_take (same_later g r)
ask_later g (same_take_all r) = same_take_all (all_later g r)
ask_later g same_declares = same_declares
ask_later g same_collect = same_collect
ask_later g same_entry = same_entry
ask_later g (same_matches r) = same_matches (same_later g r)
