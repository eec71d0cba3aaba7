-- Statements of which a declaration of names is left, tried on small programs.
use Rattle.std.proofs.Common.{[], ◌∷◌, true≢false, sym, refl}
use Rattle.js_syntax.specs.declared.kind.VariableKind.TheVariants as variable
use Rattle.js_syntax.specs.Node.{nothing}
use Rattle.form_rules.specs.Samples.{a_module, no, a, binds, reads, one, does, declares, let_, var_, block, function_a}
use Rattle.scope_rules.specs.Samples.{b}
use Rattle.scope_laws.specs.Place.{Around, first}
use Rattle.steps.specs.Allowed.KeptNames.{names_stay}
use Rattle.steps.specs.Allowed.KeptNamesRows.{vars, pattern_of_a, StaysWhole}
use Rattle.steps.specs.Allowed.Rows.{call_of_a, null, if_null, if_one, while_, loop, in_branch, in_function, branch_of_if}
use Rattle.steps.specs.Allowed.Edits.{Edit, becomes, kept_names}

abbrev there : Around
there = in_branch null (first nothing)

pub head_declares : Edit (a_module (if_null (block (loop (declares variable.Var (binds a) one) (does call_of_a) ∷ [])) no ∷ [])) (a_module (if_null (block (var_ a ∷ [])) no ∷ []))
head_declares = becomes there _ _ (kept_names (names_stay _ _ refl refl refl refl refl refl))

pub all_are_declared : Edit (a_module (if_null (block (if_one (block (var_ a ∷ let_ a ∷ while_ (reads a) (declares variable.Var (binds b) one) ∷ [])) ∷ [])) no ∷ [])) (a_module (if_null (block (vars a b ∷ [])) no ∷ []))
all_are_declared = becomes there _ _ (kept_names (names_stay _ _ refl refl refl refl refl refl))

pub other_names_stay : StaysWhole there (while_ (reads a) (block (var_ b ∷ function_a [] [] ∷ [])))
other_names_stay y (names_stay x z item untaken leaves alone plain is) = true≢false (sym alone)

pub pattern_stays : StaysWhole there (while_ (reads a) pattern_of_a)
pattern_stays y (names_stay x z item untaken leaves alone plain is) = true≢false (sym plain)

pub block_stays : StaysWhole there (block (var_ a ∷ []))
block_stays y (names_stay x z item untaken leaves alone plain is) = true≢false (sym leaves)

pub nameless_stays : StaysWhole there (while_ (reads a) (does call_of_a))
nameless_stays y (names_stay x z item untaken leaves alone plain is) = absurd cc

pub body_stays : StaysWhole branch_of_if (while_ (reads a) (var_ a))
body_stays y (names_stay x z item untaken leaves alone plain is) = absurd cc

pub taken_stays : StaysWhole (in_branch one (first nothing)) (while_ (reads a) (var_ a))
taken_stays y (names_stay x z item untaken leaves alone plain is) = true≢false (sym untaken)

pub may_be_taken_stays : StaysWhole (in_branch (reads a) (first nothing)) (while_ (reads a) (var_ a))
may_be_taken_stays y (names_stay x z item untaken leaves alone plain is) = true≢false (sym untaken)

pub function_code_stays : StaysWhole (in_function null) (while_ (reads a) (var_ a))
function_code_stays y (names_stay x z item untaken leaves alone plain is) = true≢false (sym untaken)
