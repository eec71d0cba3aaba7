-- The flags of the table that is made of a program tell of the program only what is so.
use Rattle.std.proofs.Common.{◌≡◌, ◌∙◌, ◌≤◌, ◌+◌, ℕ, suc, Bool, true, false, not, ◌&&◌, ◌||◌, true≢false, if◌then◌else◌, Option, Some, refl, sym, ap, arith}
use Rattle.js_syntax.specs.declared.node_kind.NodeKind.{NodeKind as Kind}
use Rattle.js_syntax.specs.declared.node_kind.NodeKind.TheVariants as kind
use Rattle.js_syntax.specs.declared.kind.FunctionKind.{FunctionKind}
use Rattle.js_syntax.specs.declared.kind.FunctionKind.TheVariants as function_kind
use Rattle.js_syntax.specs.declared.scalar.SourceType.{SourceType}
use Rattle.js_syntax.specs.declared.scalar.SourceType.TheVariants as source_type
use Rattle.js_syntax.specs.Class.{root}
use Rattle.js_syntax.specs.Node.{Forest, Note, nothing, node, absent}
use Rattle.json_shape.specs.Shape.{Fits}
use Rattle.scope_rules.specs.Context.{Context, opens, strict_in, inside, outermost}
use Rattle.scope_rules.specs.Site.{bit, function_bits, form_bits, scope_bits, scope_row, has_eval, opens_one, scope_count, sites_of, found_in}
use Rattle.scope_rules.specs.Table.{Scoping, scoping_of, symbols_declared}
use Rattle.scope_rules.specs.Mark.{marked, first_marks}
use Rattle.scope_table.specs.Reading.{scope_at}
use Rattle.scope_laws.proofs.Bindings.{same_value}
use Rattle.steps.proofs.Fit.Modules.{fits_program}
use Rattle.steps.specs.Allowed.Exposure.{Exposure, is_script_source, is_script}
use Rattle.steps.specs.Owed.Kept.{is_program}
use Rattle.steps.specs.Marked.Flags.{has_bits, is_within, Stand, stand_inside, stands_of}
use Rattle.steps.proofs.Marked.Exposing.{never}
use Rattle.steps.proofs.Marked.Numbered.{marked_program}
use Rattle.rules.specs.DeadCode.Quiet.{TellsOnly, ToldOnly}
use Rattle.rules.specs.Told.Parts.{FlagsTellOnly}
use Rattle.rules.proofs.Told.Standing.{strict_code, is_block, shares_code, exposed_in_scope, inside_reads, scope_evaluates, scope_strict, scope_sloppy, scope_names, scope_variables, within_opens, variables_within}
use Rattle.rules.proofs.Told.Contexts.{looks, inside_looks}
use Rattle.rules.proofs.Told.Made.{IsMade, scope_of, EachMade, new_made}

-- ---- bits of flags

abbrev flags_of : (form : ℕ) → (strict evaluates : Bool) → ℕ
flags_of form strict evaluates = bit strict 1 + form + bit evaluates 512

abbrev is_sloppy : ℕ → Bool
is_sloppy flags = not (has_bits flags 1 || has_bits flags 2 || has_bits flags 4 || has_bits flags 16)

by_bits : (P : Bool → Bool → Type 0) → P true true → P true false → P false true → P false false → (a b : Bool) → P a b
by_bits P f g h i true true = f
by_bits P f g h i true false = g
by_bits P f g h i false true = h
by_bits P f g h i false false = i

-- the bits of a form of scope leave the bit of `eval` free, and make the scope a block of code or not
record IsForm (form : ℕ) (block : Bool) : Type 0 where
  evaluates : (a b : Bool) → has_bits (flags_of form a b) 512 ≡ b
  sloppy : (a b : Bool) → is_sloppy (flags_of form a b) ≡ block && not a

function_form : (how : FunctionKind) (constructs : Bool) → IsForm (function_bits how constructs) false
function_form function_kind.Arrow constructs = record { evaluates = by_bits _ refl refl refl refl; sloppy = by_bits _ refl refl refl refl }
function_form function_kind.Declaration true = record { evaluates = by_bits _ refl refl refl refl; sloppy = by_bits _ refl refl refl refl }
function_form function_kind.Declaration false = record { evaluates = by_bits _ refl refl refl refl; sloppy = by_bits _ refl refl refl refl }
function_form function_kind.Expression true = record { evaluates = by_bits _ refl refl refl refl; sloppy = by_bits _ refl refl refl refl }
function_form function_kind.Expression false = record { evaluates = by_bits _ refl refl refl refl; sloppy = by_bits _ refl refl refl refl }

block_form : IsForm 64 true
block_form = record { evaluates = by_bits _ refl refl refl refl; sloppy = by_bits _ refl refl refl refl }

form : (k : Kind) (constructs : Bool) → IsForm (form_bits k constructs) (is_block k)
form (kind.Program source) constructs = record { evaluates = by_bits _ refl refl refl refl; sloppy = by_bits _ refl refl refl refl }
form (kind.Function how pure) constructs = function_form how constructs
form kind.StaticBlock constructs = record { evaluates = by_bits _ refl refl refl refl; sloppy = by_bits _ refl refl refl refl }
form kind.BlockStatement constructs = block_form
form kind.SwitchStatement constructs = block_form
form kind.ForStatement constructs = block_form
form kind.ForInStatement constructs = block_form
form kind.ForOfStatement constructs = block_form
form kind.CatchClause constructs = record { evaluates = by_bits _ refl refl refl refl; sloppy = by_bits _ refl refl refl refl }
form kind.WithStatement constructs = record { evaluates = by_bits _ refl refl refl refl; sloppy = by_bits _ refl refl refl refl }
form k constructs = record { evaluates = by_bits _ refl refl refl refl; sloppy = by_bits _ refl refl refl refl }

strict_same : (c : Context) (k : Kind) (below : Forest) → strict_in c k below ≡ strict_code c.strict k below
strict_same c (kind.Program source) below = refl
strict_same c (kind.Function how pure) below = refl
strict_same c (kind.Class how) below = refl
strict_same c k below = refl

flag_evaluates : (c : Context) (k : Kind) (below : Forest) → has_bits (scope_bits c k below) 512 ≡ has_eval (scope_row k below)
flag_evaluates c k below = (form k c.constructs).evaluates (strict_in c k below) (has_eval (scope_row k below))

flag_sloppy : (c : Context) (k : Kind) (below : Forest) → is_sloppy (scope_bits c k below) ≡ is_block k && not (strict_code c.strict k below)
flag_sloppy c k below = (form k c.constructs).sloppy (strict_in c k below) (has_eval (scope_row k below)) ∙ ap (λ b. is_block k && not b) (strict_same c k below)

-- ---- in the scope that a node makes, or around it

pick : (w : Bool) (o q : Option ℕ) (m : ℕ) (x y : Bool) → (if w then o else q) ≡ Some m → (w ≡ true → o ≡ Some m → x ≡ true) → (q ≡ Some m → y ≡ true) → (if w then x else y) ≡ true
pick true o q m x y e f g = f refl e
pick false o q m x y e f g = g e

pick_variables : (w b : Bool) (o q : Option ℕ) (m : ℕ) (x y : Bool) → (if w && not b then o else q) ≡ Some m → (w ≡ true → b ≡ false → o ≡ Some m → x ≡ true) → (q ≡ Some m → y ≡ true) → (if w then (if b then y else x) else y) ≡ true
pick_variables true true o q m x y e f g = g e
pick_variables true false o q m x y e f g = f refl refl e
pick_variables false b o q m x y e f g = g e

second_if : (w : Bool) (l m : Option ℕ × Bool) (x y : Bool) → l.1 ≡ x → m.1 ≡ y → (if w then l else m).1 ≡ (if w then x else y)
second_if true l m x y e f = e
second_if false l m x y e f = f

code_shares : (b c : Bool) → b ≡ false → c ≡ true → not b && c ≡ true
code_shares true c e f = absurd (true≢false e)
code_shares false c e f = f

module _ (s : Scoping) (script : Bool) where
  record Fine (c : Context) (p : Stand) : Type 0 where
    strict : c.strict ≡ p.exposure.strict
    only : TellsOnly s script p

  module _ (c : Context) (p : Stand) (k : Kind) (n : Note) (next : ℕ) (below : Forest) (h : Fine c p) (made : opens k below ≡ true → IsMade s next (scope_of s c n k below))
      (starts : script ≡ true → next ≡ 0 → (is_block k ≡ false) × (shares_code p.exposure k ≡ true)) (at : ℕ) where
    abbrev within : Bool
    within = is_within k below at

    abbrev there : Exposure
    there = exposed_in_scope p.exposure k below

    number : within ≡ true → (m : ℕ) → n.id ≡ Some m → next ≡ m
    number w m e = same_value (sym (made (within_opens k below at w)).mark ∙ e)

    flags_there : within ≡ true → (m : ℕ) → n.id ≡ Some m → (scope_at s m).flags ≡ scope_bits c k below
    flags_there w m e = ap (λ i. (scope_at s i).flags) (sym (number w m e)) ∙ (made (within_opens k below at w)).flags

    same_code : strict_code c.strict k below ≡ strict_code p.exposure.strict k below
    same_code = ap (λ b. strict_code b k below) h.strict

    fine_inside : Fine (inside c next k below at) (stand_inside p k n below at)
    fine_inside = record {
      strict = ap (λ l. l.1) (inside_looks c next k below at)
          ∙ second_if within (Some next, strict_code c.strict k below) (looks c) there.strict p.exposure.strict (same_code ∙ sym (scope_strict p.exposure k below)) h.strict
          ∙ sym (inside_reads (λ e. e.strict) (λ e b. refl) p.exposure k below at);
      only = record {
        evaluates = λ m e g. inside_reads (λ e. e.evaluates) (λ e b. refl) p.exposure k below at
            ∙ pick within n.id p.scope m there.evaluates p.exposure.evaluates e
            (λ w own. scope_evaluates p.exposure k below ∙ sym (flag_evaluates c k below) ∙ ap (λ f. has_bits f 512) (sym (flags_there w m own)) ∙ g) (λ o. h.only.evaluates m o g);
        sloppy = λ m e g. inside_reads (λ e. e.in_sloppy_block) (λ e b. refl) p.exposure k below at
            ∙ pick within n.id p.scope m there.in_sloppy_block p.exposure.in_sloppy_block e
            (λ w own. scope_sloppy p.exposure k below ∙ ap (λ b. is_block k && not b) (sym same_code) ∙ sym (flag_sloppy c k below) ∙ ap is_sloppy (sym (flags_there w m own)) ∙ g) (λ o. h.only.sloppy m o g);
        names = λ g e. inside_reads (λ e. e.names_shared) (λ e b. refl) p.exposure k below at
            ∙ pick within n.id p.scope 0 there.names_shared p.exposure.names_shared e
            (λ w own. let begins = starts g (number w 0 own) in scope_names p.exposure k below ∙ code_shares (is_block k) (shares_code p.exposure k) begins.0 begins.1) (λ o. h.only.names g o);
        variable_names = λ g e. inside_reads (λ e. e.variables_shared) (λ e b. refl) p.exposure k below at
            ∙ ap (λ b. if within then b else p.exposure.variables_shared) (scope_variables p.exposure k below)
            ∙ pick_variables within (is_block k) n.id p.variables 0 (shares_code p.exposure k) p.exposure.variables_shared (ap (λ b. if b then n.id else p.variables) (sym (variables_within k below at)) ∙ e)
            (λ w b own. (starts g (number w 0 own)).1) (λ o. h.only.variable_names g o);
      };
    }

  row_only : (t : Forest) (cs : ℕ → Context) (ps : ℕ → Stand) (at next : ℕ) → 1 ≤ next → EachMade s cs at next t → ((i : ℕ) → Fine (cs i) (ps i)) → ToldOnly s script ps at t
  row_only nothing cs ps at next some made h = tt
  row_only (absent rest) cs ps at next some made h = row_only rest cs ps (suc at) next some made h
  row_only (node k n below rest) cs ps at next some made h =
      let not_first : script ≡ true → next ≡ 0 → (is_block k ≡ false) × (shares_code (ps at).exposure k ≡ true) = λ g e. absurd (Prim.omega (arith, some, e)) in (
        (h at).only,
        row_only below (inside (cs at) next k below) (stand_inside (ps at) k n below) 0 (next + opens_one k below) (Prim.omega (arith, some)) made.1 (λ i. fine_inside (cs at) (ps at) k n next below (h at) made.0 not_first i),
        row_only rest cs ps (suc at) (next + scope_count (node k n below nothing)) (Prim.omega (arith, some)) made.2 h,
      )

-- ---- whole programs

script_source : (source : SourceType) (n : Note) (below rest : Forest) → is_script (node (kind.Program source) n below rest) ≡ is_script_source source
script_source source_type.Script n below rest = refl
script_source source_type.Module n below rest = refl
script_source source_type.CommonJs n below rest = refl

program_only : (s : Scoping) (source : SourceType) (n : Note) (below rest : Forest) → let t = node (kind.Program source) n below rest in EachMade s (λ at. outermost) 0 0 t → FlagsTellOnly s t
program_only s source n below rest made =
    let k : Kind = kind.Program source in
    let t = node k n below rest in
    let script = is_script t in
    let own = made.0 refl in
    let flags : (m : ℕ) → n.id ≡ Some m → (scope_at s m).flags ≡ scope_bits outermost k below = λ m e. ap (λ i. (scope_at s i).flags) (same_value (sym e ∙ own.mark)) ∙ own.flags in
    let at_root : (i : ℕ) → Fine s script outermost (stands_of t i) = λ i. record {
      strict = refl;
      only = record {
        evaluates = λ m e g. sym (flag_evaluates outermost k below) ∙ ap (λ f. has_bits f 512) (sym (flags m e)) ∙ g;
        sloppy = λ m e g. never (sym (flag_sloppy outermost k below) ∙ ap is_sloppy (sym (flags m e)) ∙ g);
        names = λ g e. g;
        variable_names = λ g e. g;
      };
    } in (
      (at_root 0).only,
      row_only s script below (inside outermost 0 k below) (stand_inside (stands_of t 0) k n below) 0 1 (Prim.omega arith) made.1
          (λ i. fine_inside s script outermost (stands_of t 0) k n 0 below (at_root 0) made.0 (λ g e. (refl, sym (script_source source n below rest) ∙ g)) i),
      row_only s script rest (λ at. outermost) (stands_of t) 1 (0 + scope_count (node k n below nothing)) (Prim.omega arith) made.2 at_root,
    )

told_only : (s : Scoping) (t : Forest) → is_program t ≡ true → EachMade s (λ at. outermost) 0 0 t → FlagsTellOnly s t
told_only s (node (kind.Program source) n below rest) e made = program_only s source n below rest made
told_only s (node k n below rest) e made = never e
told_only s (absent rest) e made = never e
told_only s nothing e made = never e

pub new_told_only : (t : Forest) → Fits root t → let f = found_in (sites_of t) in FlagsTellOnly (scoping_of f) (marked (first_marks (symbols_declared f.bindings)) t)
new_told_only t fits =
    let f = found_in (sites_of t) in
    let m = first_marks (symbols_declared f.bindings) in
    told_only (scoping_of f) (marked m t) (marked_program m t (fits_program t fits)) (new_made t)
