-- Which rows of nodes are near one another: the new one is the old one, but for changes that no run shows.
use Rattle.std.specs.Prelude.{Bool, true, false, ℕ, suc, pos, negsuc, nat_le, List, [], ◌∷◌, Option, Some, None, ◌≡◌, ◌&&◌, ◌||◌}
use Rattle.js_syntax.specs.declared.node_kind.NodeKind.{NodeKind as Kind}
use Rattle.js_syntax.specs.declared.kind.FunctionKind.{FunctionKind}
use Rattle.js_syntax.specs.declared.kind.FunctionKind.TheVariants as function_kind
use Rattle.js_syntax.specs.declared.kind.VariableKind.{VariableKind}
use Rattle.js_syntax.specs.declared.scalar.SourceType.TheVariants as source_type
use Rattle.js_syntax.specs.Node.{Note, Forest, nothing, node, absent, below_of}
use Rattle.js_syntax.specs.Facts.{is_core}
use Rattle.js_syntax.specs.declared.value.LiteralValue.{LiteralValue as Literal}
use Rattle.js_meaning.specs.Value.{Text, Env, this_name, Plain, Value, plain, literal_value}
use Rattle.js_meaning.specs.Scope.{waiting, named_so, first_of, behind, first_name, lexical, function_decls, own_name, default_name, module_decls}
use Rattle.js_meaning.specs.State.{normal, done}
use Rattle.js_meaning.specs.Host.{Enter, Loop, while_loop, do_loop, for_loop}
use Rattle.js_meaning.specs.Module.{Entry, entry_local, entry_import, entries, stars, requests}
use Rattle.js_meaning.specs.Node.{Wanted, Ask, run, value, Meaning, now}
use Rattle.js_syntax.specs.declared.operator.UnaryOperator.{UnaryOperator}
use Rattle.js_syntax.specs.declared.operator.LogicalOperator.{LogicalOperator}
use Rattle.js_syntax.specs.declared.operator.LogicalOperator.TheVariants as logical
use Rattle.js_meaning.specs.Operator.{largest}
use Rattle.js_meaning.specs.Expression.{static_key}
use Rattle.js_meaning.specs.Meaning.{does, if_core, enter_body, eval}
use Rattle.js_meaning_near.specs.Purpose.{Purpose, for_effect, ForEffect, asked, Purposes, all, last_for, purpose_here, purposes_behind, for_values, handed_on, wanted_below}
use Rattle.js_meaning_near.specs.Quiet.{Quiet, Leads}
use Rattle.js_meaning_near.specs.Wasted.{Wastes, Owing, drops}
use Rattle.js_meaning_near.specs.Names.{Names, no_names, loose_names, owing_names, unread, Fact, known, exactly, owed_function, OfCalls, Lone, Usable, Writable, Fillable, FillableIf, Binds, Decls, Copied, declared, names_below}

-- what a node does in a row
abbrev pub meaning : Enter → Kind → Forest → Meaning
meaning E k a = if_core (is_core k) (does E k a (eval E a))

-- An expression that does nothing but give a value, wherever the declared names are bound.
pub record Silent (st : Names) (k : Kind) (a : Forest) : Type 0 where
  pub silent : (E : Enter) (env : Env) → Binds st env → Quiet (meaning E k a now env)

-- a row without a node in front: where an expression should stand there, the node is uncovered
abbrev pub NoField : Forest → Type 0
NoField (node k n a r) = ⊥
NoField _ = Unit {0}

-- a function's code of which a call does nothing but give a value
pub record SilentCode (st : Names) (a : Forest) : Type 0 where
  pub silent_code : (E : Enter) (env : Env) → Binds st env → (this : Value) (vs : List Value) → Quiet (enter_body E function_kind.Declaration a env this vs)

-- expressions that start nothing and declare nothing, and that don't ask what they are wanted for
abbrev pub is_blunt : Kind → Bool
is_blunt (Kind.Literal v) = true
is_blunt Kind.ThisExpression = true
is_blunt Kind.ArrayExpression = true
is_blunt Kind.ObjectExpression = true
is_blunt Kind.SequenceExpression = true
is_blunt (Kind.UnaryExpression o) = true
is_blunt (Kind.UpdateExpression o prefix) = true
is_blunt (Kind.BinaryExpression o) = true
is_blunt (Kind.LogicalExpression o) = true
is_blunt (Kind.AssignmentExpression o) = true
is_blunt Kind.ConditionalExpression = true
is_blunt (Kind.CallExpression optional pure) = true
is_blunt (Kind.NewExpression pure) = true
is_blunt k = false

-- nodes that start nothing and declare nothing outside of `var`
abbrev pub is_calm : Kind → Bool
is_calm Kind.EmptyStatement = true
is_calm Kind.ExpressionStatement = true
is_calm Kind.BlockStatement = true
is_calm Kind.IfStatement = true
is_calm (Kind.LabeledStatement l) = true
is_calm (Kind.BreakStatement l) = true
is_calm (Kind.ContinueStatement l) = true
is_calm Kind.ReturnStatement = true
is_calm Kind.ThrowStatement = true
is_calm Kind.WhileStatement = true
is_calm Kind.DoWhileStatement = true
is_calm Kind.ForStatement = true
is_calm Kind.ForInStatement = true
is_calm Kind.ForOfStatement = true
is_calm Kind.WithStatement = true
is_calm Kind.DebuggerStatement = true
is_calm Kind.SwitchStatement = true
is_calm Kind.TryStatement = true
is_calm k = is_blunt k

-- nodes that start nothing and declare nothing where they stand, outside of `var`: those, and expressions that ask what
-- they are wanted for, or that are functions
abbrev pub hoists_nothing : Kind → Bool
hoists_nothing (Kind.ReferenceName x) = true
hoists_nothing (Kind.MemberExpression key optional) = true
hoists_nothing Kind.ParenthesizedExpression = true
hoists_nothing (Kind.Function function_kind.Expression pure) = true
hoists_nothing (Kind.Function function_kind.Arrow pure) = true
hoists_nothing k = is_calm k

-- A statement that does nothing, whatever its labels and the names around.
pub record DoesNothing (k : Kind) (a : Forest) : Type 0 where
  pub hoists : hoists_nothing k ≡ true
  pub nothing_done : (E : Enter) (q : Ask) (env : Env) → Leads (meaning E k a q env) (done normal)

-- A statement of an expression of which nothing acts, though a function may be called that does nothing.
pub record WastesAll (st : Names) (a : Forest) : Type 0 where
  pub wastes_all : (E : Enter) (env : Env) → Binds st env → (ls : List Text) → Wastes E st env (meaning E Kind.ExpressionStatement a (run ls) env) []

-- An item that may leave a list: of statements, or of declarators.
mutual
  pub data Idle (st : Names) : Kind → Forest → Type 0 where
    idle_empty : {a : Forest} → Idle st Kind.EmptyStatement a
    idle_expression : {k : Kind} {n : Note} {a r : Forest} → Silent st k a → Idle st Kind.ExpressionStatement (node k n a r)
    idle_no_expression : {a : Forest} → NoField a → Idle st Kind.ExpressionStatement a
    idle_waste : {a : Forest} → WastesAll st a → Idle st Kind.ExpressionStatement a
    idle_statement : {k : Kind} {a : Forest} → DoesNothing k a → Idle st k a
    -- what an import does is done where the module is linked
    idle_import : {source : Text} {a : Forest} → Idle st (Kind.ImportDeclaration source) a
    -- so is what an export of names does
    idle_export : {n : Note} {a : Forest} → Idle st (Kind.ExportNamedDeclaration None) (absent (node Kind.Specifiers n a nothing))
    idle_function : {pure : Bool} {x : Text} {n : Note} {a r : Forest} → Lone (st x) → Idle st (Kind.Function function_kind.Declaration pure) (node (Kind.BindingName x) n a r)
    idle_declarator : {x : Text} {k : Kind} {n m : Note} {a b r : Forest} → Lone (st x) → Silent st k b → Idle st Kind.VariableDeclarator (node (Kind.BindingName x) n a (node k m b r))
    idle_bare_declarator : {x : Text} {n : Note} {a r : Forest} → Lone (st x) → Idle st Kind.VariableDeclarator (node (Kind.BindingName x) n a (absent r))
    idle_cut_declarator : {x : Text} {n : Note} {a : Forest} → Idle st Kind.VariableDeclarator (node (Kind.BindingName x) n a nothing)
    idle_declaration : {how : VariableKind} {n : Note} {a r : Forest} → AllIdle st a → Idle st (Kind.VariableDeclaration how) (node Kind.Declarators n a r)

  pub data AllIdle (st : Names) : Forest → Type 0 where
    all_idle : AllIdle st nothing
    one_idle : {k : Kind} {n : Note} {a r : Forest} → Idle st k a → AllIdle st r → AllIdle st (node k n a r)

-- A node, and what may stand in its place.
pub data Change (st : Names) : Kind → Forest → Kind → Forest → Type 0 where
  -- a statement that nobody can tell becomes empty
  statement_emptied : {k : Kind} {n : Note} {a r b : Forest} → Silent st k a → Change st Kind.ExpressionStatement (node k n a r) Kind.EmptyStatement b
  no_statement_emptied : {a b : Forest} → NoField a → Change st Kind.ExpressionStatement a Kind.EmptyStatement b
  -- a read of a name that holds a known value
  value_read : {x : Text} {p : Plain} {v : Literal} {a b : Forest} → st x ≡ known (exactly p) → literal_value v ≡ plain p → Change st (Kind.ReferenceName x) a (Kind.Literal v) b
  -- a negative number as unary minus on its magnitude (13.5.5), where arithmetic covers it
  sign_applied : {i : ℕ} {m : Note} {a b r : Forest} → nat_le (suc i) largest ≡ true → Change st (Kind.Literal (Literal.Number (negsuc i))) a (Kind.UnaryExpression UnaryOperator.UnaryNegation) (node (Kind.Literal (Literal.Number (pos (suc i)))) m b r)

-- what a node may be asked of which this is wanted
abbrev pub Permits : Wanted → Ask → Type 0
Permits w (value v) = v ≡ w
Permits w q = Unit {0}

-- A node, and one that may stand for it where it is evaluated for this: where the names are bound, it comes to what that one
-- does.
pub record ComesTo (u : Purpose) (st : Names) (k : Kind) (a : Forest) (l : Kind) (b : Forest) : Type 0 where
  pub old_hoists : hoists_nothing k ≡ true
  pub new_hoists : hoists_nothing l ≡ true
  pub comes : (E : Enter) (env : Env) → Binds st env → (q : Ask) → Permits (asked u) q → Leads (meaning E k a q env) (meaning E l b q env)

-- A statement of an expression, and a statement that may stand for it: the new one evaluates these parts, and the old one
-- these others, and nothing that anybody can tell else.
pub record SameEffects (st : Names) (a : Forest) (l : Kind) (b ps qs : Forest) : Type 0 where
  pub new_hoists : hoists_nothing l ≡ true
  pub wastes : (E : Enter) (env : Env) → Binds st env → (ls : List Text) → Wastes E st env (meaning E Kind.ExpressionStatement a (run ls) env) (eval E ps)
  pub drops_all : (E : Enter) (env : Env) (ls : List Text) → drops (eval E qs) env ≡ meaning E l b (run ls) env

-- So, where the old statement also makes one call that does nothing, and evaluates these parts but for it.
pub record OwedEffects (st : Names) (a : Forest) (l : Kind) (b ps : Forest) : Type 0 where
  pub new_hoists : hoists_nothing l ≡ true
  pub owes : (E : Enter) (env : Env) → Binds st env → (ls : List Text) → Owing E st env (meaning E Kind.ExpressionStatement a (run ls) env) (eval E ps)
  pub drops_all : (E : Enter) (env : Env) (ls : List Text) → drops (eval E ps) env ≡ meaning E l b (run ls) env

-- An expression, and one that may stand for it where nobody takes the value: so may a statement of it.
pub record LessWaste (st : Names) (k : Kind) (a : Forest) (l : Kind) (b ps qs : Forest) : Type 0 where
  pub old_note : Note
  pub new_note : Note
  pub old_blunt : is_blunt k ≡ true
  pub new_hoists : hoists_nothing l ≡ true
  pub effects : SameEffects st (node k old_note a nothing) Kind.ExpressionStatement (node l new_note b nothing) ps qs

-- what lies below a conditional of which one branch is silent, and below the logical expression that comes to the other one
pub data OneSided (st : Names) : LogicalOperator → Forest → Forest → Type 0 where
  first_stays : {k l z : Kind} {n i j : Note} {a b c : Forest} → Silent st z c → OneSided st logical.And (node k n a (node l i b (node z j c nothing))) (node k n a (node l i b nothing))
  second_stays : {k l z : Kind} {n i j : Note} {a b c : Forest} → Silent st l b → OneSided st logical.Or (node k n a (node l i b (node z j c nothing))) (node k n a (node z j c nothing))

-- expressions of which the last one's value counts, and the same without some silent ones before it
pub data Shorter (st : Names) : Forest → Forest → Type 0 where
  last_stays : {k : Kind} {n : Note} {a : Forest} → Shorter st (node k n a nothing) (node k n a nothing)
  one_stays : {k : Kind} {n : Note} {a r s : Forest} → Shorter st r s → Shorter st (node k n a r) (node k n a s)
  one_leaves : {k : Kind} {n : Note} {a r s : Forest} → Silent st k a → Shorter st r s → Shorter st (node k n a r) s

-- statements behind which nothing of their list runs (14.8, 14.9, 14.10, 14.14)
abbrev pub is_jump : Kind → Bool
is_jump (Kind.BreakStatement l) = true
is_jump (Kind.ContinueStatement l) = true
is_jump Kind.ReturnStatement = true
is_jump Kind.ThrowStatement = true
is_jump k = false

-- How a row is looked at: a list for any of its items, that of an `if` for both that stand behind its test, and another for its first node.
pub data Glance : Type 0 where
  at_any at_first at_branches at_both : Glance

abbrev pub glance_below : Kind → Glance
glance_below Kind.Statements = at_any
glance_below Kind.IfStatement = at_branches
glance_below k = at_first

abbrev pub glance_behind : Glance → Glance
glance_behind at_any = at_any
glance_behind at_branches = at_both
glance_behind g = at_first

abbrev pub is_any : Glance → Bool
is_any at_any = true
is_any g = false

abbrev pub cuts_by : Glance → (here behind : Bool) → Bool
cuts_by at_any here behind = here || behind
cuts_by at_first here behind = here
cuts_by at_branches here behind = behind
cuts_by at_both here behind = here && behind

-- a block cuts off as its list does, and an `if` as both of its branches
abbrev pub cuts_so : Kind → (inside : Bool) → Bool
cuts_so Kind.BlockStatement inside = inside
cuts_so Kind.Statements inside = inside
cuts_so Kind.IfStatement inside = inside
cuts_so k inside = is_jump k

abbrev pub row_cuts : Glance → Forest → Bool
row_cuts g nothing = false
row_cuts g (absent r) = is_any g && row_cuts g r
row_cuts g (node k n a r) = cuts_by g (cuts_so k (row_cuts (glance_below k) a)) (row_cuts (glance_behind g) r)

-- A jump, a block in whose list one stands, however far in, or an `if` of which both branches are such: nothing of its own list behind it
-- runs (14.2.2).
abbrev pub cuts_off : Kind → Forest → Bool
cuts_off k a = cuts_so k (row_cuts (glance_below k) a)

-- what stands behind one, and the same without a node that starts nothing where its scope is entered
pub data Unreached : Forest → Forest → Type 0 where
  goes_here : {k : Kind} {n : Note} {a r : Forest} → hoists_nothing k ≡ true → Unreached (node k n a r) r
  goes_behind : {k : Kind} {n : Note} {a r s : Forest} → Unreached r s → Unreached (node k n a r) (node k n a s)
  goes_behind_none : {r s : Forest} → Unreached r s → Unreached (absent r) (absent s)

-- How the nodes of a row stand: in a field each; in the fields of a switch; or in a list that items may leave.
pub data Row : Type 0 where
  fields switch_fields items : Row

abbrev pub row_below : Kind → Row
row_below Kind.Statements = items
row_below Kind.Declarators = items
row_below Kind.SwitchStatement = switch_fields
row_below _ = fields

-- cases have a scope of their own only where they stand in a switch
abbrev pub HoldsCases : Row → Type 0
HoldsCases switch_fields = Unit {0}
HoldsCases _ = ⊥

-- what is asked of the names that a node itself looks up
abbrev pub Okay : Row → Names → Kind → Type 0
Okay p st (Kind.ReferenceName x) = Usable (st x)
Okay p st Kind.ThisExpression = Usable (st this_name)
Okay p st (Kind.BindingName x) = Fillable (st x)
Okay p st (Kind.TargetName x) = Writable (st x)
Okay p st Kind.ExportDefaultDeclaration = Fillable (st default_name)
Okay p st (Kind.Function f pure) = ⊥
Okay p st Kind.Cases = HoldsCases p
Okay p st _ = Unit {0}

-- the keys of an object literal's properties
abbrev pub key_of : Kind → Option Text
key_of (Kind.Property how method key) = Some (static_key key)
key_of _ = None

abbrev pub keys : Forest → List (Option Text)
keys nothing = []
keys (absent r) = []
keys (node k n a r) = key_of k ∷ keys r

-- what else a node reads off the row below it
abbrev pub Heads : Kind → Names → Forest → Forest → Type 0
Heads Kind.ForStatement within a b = Copied within (lexical (first_of a)) (lexical (first_of b))
Heads Kind.ObjectExpression within a b = keys (below_of a) ≡ keys (below_of b)
Heads _ within a b = Unit {0}

abbrev pub ReceiverOk : FunctionKind → Names → Type 0
ReceiverOk function_kind.Arrow st = Unit {0}
ReceiverOk _ st = Fillable (st this_name)

abbrev pub IsClosure : FunctionKind → Type 0
IsClosure function_kind.Declaration = ⊥
IsClosure _ = Unit {0}

abbrev pub is_row : Forest → Bool
is_row nothing = false
is_row _ = true

-- Nodes below which each statement runs at most once before anything is entered, and nothing else does that is asked to run.
abbrev pub is_passage : Kind → Bool
is_passage Kind.Statements = true
is_passage Kind.BlockStatement = true
is_passage Kind.IfStatement = true
is_passage (Kind.LabeledStatement l) = true
is_passage Kind.SwitchStatement = true
is_passage Kind.Cases = true
is_passage Kind.SwitchCase = true
is_passage Kind.TryStatement = true
is_passage Kind.CatchClause = true
is_passage Kind.FunctionBody = true
is_passage k = false

-- a node of this row by itself
abbrev pub alone_in : Row → Row
alone_in items = fields
alone_in p = p

-- a row, and what stands behind its first field
pub data FirstField : Forest → Forest → Type 0 where
  first_node : {k : Kind} {n : Note} {a r : Forest} → FirstField (node k n a r) r
  first_absent : {r : Forest} → FirstField (absent r) r

-- By what the expressions of the rows are evaluated for, how their nodes stand, and the names around them.
mutual
  pub data Near : Purposes → Row → Names → Forest → Forest → Type 0 where
    near_nothing : {us : Purposes} {p : Row} {st : Names} → Near us p st nothing nothing
    near_absent : {us : Purposes} {p : Row} {st : Names} {c d : Forest} → Near (purposes_behind us) p st c d → Near us p st (absent c) (absent d)
    near_node : {us : Purposes} {p : Row} {st t : Names} {k : Kind} {n m : Note} {a b c d : Forest} → Okay p st k → Decls st (declared k a) (declared k b) t → Heads k t a b → Near (wanted_below (purpose_here us (is_row c)) k) (row_below k) (names_below k st t) a b → Near (purposes_behind us) p st c d
        → Near us p st (node k n a c) (node k m b d)
    -- a function that an expression gives; its own name lies in a scope around it
    near_closure : {us : Purposes} {p : Row} {st t : Names} {f : FunctionKind} {pure : Bool} {n m : Note} {a b c d : Forest} → IsClosure f → own_name f a ≡ own_name f b
        → Decls st (named_so (waiting true) (own_name f a)) (named_so (waiting true) (own_name f b)) t → FillableIf t (own_name f a) → Code t f a b → Near (purposes_behind us) p st c d
        → Near us p st (node (Kind.Function f pure) n a c) (node (Kind.Function f pure) m b d)
    -- a function that a declaration gives, where its scope is entered
    near_hoisted : {us : Purposes} {p : Row} {st : Names} {pure : Bool} {n m : Note} {a b c d : Forest} → first_name a ≡ first_name b → FillableIf st (first_name a) → Code st function_kind.Declaration a b → Near (purposes_behind us) p st c d
        → Near us p st (node (Kind.Function function_kind.Declaration pure) n a c) (node (Kind.Function function_kind.Declaration pure) m b d)
    -- a function that nothing looks up, with any code
    near_unread : {us : Purposes} {p : Row} {st : Names} {x : Text} {pure also : Bool} {n m : Note} {a b c d : Forest} → st x ≡ unread → first_name a ≡ Some x → first_name b ≡ Some x → Near (purposes_behind us) p st c d
        → Near us p st (node (Kind.Function function_kind.Declaration pure) n a c) (node (Kind.Function function_kind.Declaration also) m b d)
    -- a declarator that gives a known value
    near_known : {us : Purposes} {q : Row} {st : Names} {x : Text} {p : Plain} {v : Literal} {n m i j k l : Note} {a b e f r s c d : Forest} → st x ≡ known (exactly p) → literal_value v ≡ plain p → Near (purposes_behind us) q st c d
        → Near us q st (node Kind.VariableDeclarator n (node (Kind.BindingName x) i a (node (Kind.Literal v) k e r)) c) (node Kind.VariableDeclarator m (node (Kind.BindingName x) j b (node (Kind.Literal v) l f s)) d)
    -- a function whose calls do nothing but give a value, where that is known of its name
    near_silent : {us : Purposes} {p : Row} {st : Names} {x : Text} {g : Fact} {pure : Bool} {n m : Note} {a b c d : Forest} → OfCalls g → st x ≡ known g → first_name a ≡ Some x → first_name b ≡ Some x → SilentCode st a
        → Code st function_kind.Declaration a b → Near (purposes_behind us) p st c d → Near us p st (node (Kind.Function function_kind.Declaration pure) n a c) (node (Kind.Function function_kind.Declaration pure) m b d)
    -- nothing is said of what a node does that isn't core
    near_uncovered : {us : Purposes} {p : Row} {st : Names} {k : Kind} {n m : Note} {a b c d : Forest} → is_core k ≡ false → Near (purposes_behind us) p st c d → Near us p st (node k n a c) (node k m b d)
    -- an import, whatever names it binds: what it does is done where the module is linked
    near_import : {us : Purposes} {p : Row} {st : Names} {source : Text} {n m : Note} {a b c d : Forest} → Near (purposes_behind us) p st c d → Near us p st (node (Kind.ImportDeclaration source) n a c) (node (Kind.ImportDeclaration source) m b d)
    -- a node for another
    changed : {us : Purposes} {p : Row} {st : Names} {k l : Kind} {n m : Note} {a b c d : Forest} → Change st k a l b → Near (purposes_behind us) p st c d → Near us p st (node k n a c) (node l m b d)
    -- a part for the expression that comes to it, as far as is wanted there
    comes_to : {us : Purposes} {p : Row} {st : Names} {k l : Kind} {n m i j : Note} {a b c d : Forest} → ComesTo (purpose_here us (is_row c)) st k a l b → Near (all (purpose_here us (is_row c))) fields st (node l i b nothing) (node l j b nothing) → Near (purposes_behind us) p st c d → Near us p st (node k n a c) (node l m b d)
    -- a statement for one that wastes more
    same_effects : {us : Purposes} {p : Row} {st : Names} {l : Kind} {n m : Note} {a b c d ps qs : Forest} → SameEffects st a l b ps qs → Near (all for_effect) fields st ps qs → Near (purposes_behind us) p st c d → Near us p st (node Kind.ExpressionStatement n a c) (node l m b d)
    -- an expression of which nobody takes the value, for one that wastes more
    wastes_more : {us : Purposes} {p : Row} {st : Names} {k l : Kind} {n m : Note} {a b c d ps qs : Forest} → ForEffect (purpose_here us (is_row c)) → LessWaste st k a l b ps qs → Near (all for_effect) fields st ps qs → Near (purposes_behind us) p st c d
        → Near us p st (node k n a c) (node l m b d)
    -- so a conditional of which one branch does nothing
    one_sided : {us : Purposes} {p : Row} {st : Names} {o : LogicalOperator} {n m : Note} {a b c d e : Forest} → ForEffect (purpose_here us (is_row c)) → OneSided st o a e → Near (wanted_below for_effect (Kind.LogicalExpression o)) fields st e b
        → Near (purposes_behind us) p st c d → Near us p st (node Kind.ConditionalExpression n a c) (node (Kind.LogicalExpression o) m b d)
    -- a sequence for one with more silent parts
    shorter : {us : Purposes} {p : Row} {st : Names} {n m i j : Note} {a b c d e : Forest} → Shorter st a e → Near (last_for (handed_on (purpose_here us (is_row c)))) fields st e b → Near (purposes_behind us) p st c d
        → Near us p st (node Kind.SequenceExpression n (node Kind.Expressions i a nothing) c) (node Kind.SequenceExpression m (node Kind.Expressions j b nothing) d)
    -- loops from whose body a call leaves that the old program is owed for
    near_while : {us : Purposes} {p : Row} {st : Names} {n m : Note} {a b c d : Forest} (x : Text) → st x ≡ known owed_function → Owes fields st a b → Near (purposes_behind us) p st c d → Near us p st (node Kind.WhileStatement n a c) (node Kind.WhileStatement m b d)
    near_do : {us : Purposes} {p : Row} {st : Names} {n m : Note} {a b c d : Forest} (x : Text) → st x ≡ known owed_function → Owes fields st a b → Near (purposes_behind us) p st c d → Near us p st (node Kind.DoWhileStatement n a c) (node Kind.DoWhileStatement m b d)
    near_for : {us : Purposes} {p : Row} {st t : Names} {n m : Note} {a b c d : Forest} (x : Text) → t x ≡ known owed_function → Decls st (lexical (first_of a)) (lexical (first_of b)) t → Copied t (lexical (first_of a)) (lexical (first_of b)) → OwesBehind t a b → Near (purposes_behind us) p st c d
        → Near us p st (node Kind.ForStatement n a c) (node Kind.ForStatement m b d)
    -- an item that the new list doesn't have
    leaves : {us : Purposes} {st : Names} {k : Kind} {n : Note} {a c d : Forest} → Idle st k a → Near us items st c d → Near us items st (node k n a c) d
    -- an item that declares one name which nothing looks up, for a statement of its value
    value_stays : {us : Purposes} {st : Names} {how : VariableKind} {x : Text} {n m i o j l q : Note} {k z : Kind} {a b c d e : Forest} → Lone (st x) → Near for_values fields st (node k j b nothing) (node z l e nothing) → Near us items st c d
        → Near us items st (node (Kind.VariableDeclaration how) n (node Kind.Declarators m (node Kind.VariableDeclarator i (node (Kind.BindingName x) o a (node k j b nothing)) nothing) nothing) c) (node Kind.ExpressionStatement q (node z l e nothing) d)
    -- an item behind a jump, which never runs
    behind_jump : {us : Purposes} {st : Names} {k : Kind} {n : Note} {a c d e : Forest} → cuts_off k a ≡ true → Unreached c e → Near us items st (node k n a e) d → Near us items st (node k n a c) d

  -- what lies below a function, by the names around it
  pub data Code : Names → FunctionKind → Forest → Forest → Type 0 where
    near_code : {st t : Names} {f : FunctionKind} {a b : Forest} → Decls st (function_decls f a) (function_decls f b) t → ReceiverOk f t → is_row a ≡ is_row b → Near for_values fields t (behind a) (behind b)
        → Code st f a b
    -- a body in which one call leaves that the old program is owed for
    owing_code : {st t : Names} {f : FunctionKind} {a b c d ps qs : Forest} {i j k l : Note} (x : Text) → st x ≡ known owed_function → Decls st (function_decls f a) (function_decls f b) t → ReceiverOk f t
        → FirstField a (node Kind.Parameters i ps (node Kind.FunctionBody j c nothing)) → FirstField b (node Kind.Parameters k qs (node Kind.FunctionBody l d nothing))
        → Near for_values fields t (node Kind.Parameters i ps nothing) (node Kind.Parameters k qs nothing) → Owes fields t (node Kind.FunctionBody j c nothing) (node Kind.FunctionBody l d nothing)
        → Code st f a b

  -- Rows of statements with one place where a call leaves that the old program is owed for.
  pub data Owes : Row → Names → Forest → Forest → Type 0 where
    owes_here : {p : Row} {st : Names} {l : Kind} {n m : Note} {a b c d ps : Forest} → OwedEffects st a l b ps → Near (all for_effect) fields st ps ps → Near for_values p st c d → Owes p st (node Kind.ExpressionStatement n a c) (node l m b d)
    owes_item : {st : Names} {n : Note} {a c d : Forest} → OwedEffects st a Kind.EmptyStatement nothing nothing → Near for_values items st c d → Owes items st (node Kind.ExpressionStatement n a c) d
    owes_behind : {p : Row} {st : Names} {k l : Kind} {n m : Note} {a b c d : Forest} → Near for_values (alone_in p) st (node k n a nothing) (node l m b nothing) → Owes p st c d → Owes p st (node k n a c) (node l m b d)
    owes_absent : {p : Row} {st : Names} {c d : Forest} → Owes p st c d → Owes p st (absent c) (absent d)
    owes_below : {p : Row} {st t : Names} {k : Kind} {n m : Note} {a b c d : Forest} → is_passage k ≡ true → Okay p st k → Decls st (declared k a) (declared k b) t → Owes (row_below k) (names_below k st t) a b → Near for_values p st c d
        → Owes p st (node k n a c) (node k m b d)

  -- of a `for` behind what stands first in its head
  pub data OwesBehind : Names → Forest → Forest → Type 0 where
    behind_first : {st : Names} {k l : Kind} {n m : Note} {a b c d : Forest} → Near for_values fields st (node k n a nothing) (node l m b nothing) → Owes fields st c d → OwesBehind st (node k n a c) (node l m b d)
    behind_no_first : {st : Names} {c d : Forest} → Owes fields st c d → OwesBehind st (absent c) (absent d)

-- a turn of a loop
pub data OwesTurn : Loop → Names → Forest → Forest → Type 0 where
  while_turn : {st : Names} {a b : Forest} → Owes fields st a b → OwesTurn while_loop st a b
  do_turn : {st : Names} {a b : Forest} → Owes fields st a b → OwesTurn do_loop st a b
  for_turn : {st : Names} {a b : Forest} → OwesBehind st a b → OwesTurn for_loop st a b

-- what the host sees under each exported name has to be there in both
abbrev pub ExportsOk : Names → List Entry → Type 0
ExportsOk st [] = Unit {0}
ExportsOk st (entry_local x y ∷ es) = Usable (st y) × ExportsOk st es
ExportsOk st (entry_import x source name ∷ es) = ExportsOk st es

-- Two modules, by their statements: these are near, the exports and the requests are the same.
pub data NearModule : Forest → Forest → Type 0 where
  near_module : {t : Names} {a b : Forest} → Decls no_names (module_decls a) (module_decls b) t
      → entries a ≡ entries b → ExportsOk t (entries a) → stars a ≡ stars b → requests a ≡ requests b → Near for_values items t a b → NearModule a b

-- The same, where the new module may make fewer entries.
pub data LooseModule : Forest → Forest → Type 0 where
  loose_module : {t : Names} {a b : Forest} → Decls loose_names (module_decls a) (module_decls b) t
      → entries a ≡ entries b → ExportsOk t (entries a) → stars a ≡ stars b → requests a ≡ requests b → Near for_values items t a b → LooseModule a b

-- The same, where in the module itself, or in functions, one call each leaves that the old one is owed for.
pub data OwingModule : Forest → Forest → Type 0 where
  owing_within : {t : Names} {a b : Forest} → Decls owing_names (module_decls a) (module_decls b) t
      → entries a ≡ entries b → ExportsOk t (entries a) → stars a ≡ stars b → requests a ≡ requests b → Near for_values items t a b → OwingModule a b
  owing_itself : {t : Names} {a b : Forest} → Decls owing_names (module_decls a) (module_decls b) t
      → entries a ≡ entries b → ExportsOk t (entries a) → stars a ≡ stars b → requests a ≡ requests b → Owes items t a b → OwingModule a b

-- a module's tree, by its statements
abbrev pub module_of : Note → Note → Forest → Forest
module_of n m a = node (Kind.Program source_type.Module) n (node Kind.Statements m a nothing) nothing
