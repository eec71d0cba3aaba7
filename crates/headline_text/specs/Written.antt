-- What the text of a program is read as, and what that of one program promises of another.
use Rattle.std.specs.Prelude.{◌≡◌, ◌≤◌, true, Ok}
use Rattle.serde_json.specs.Data.{depth}
use Rattle.serde_json.specs.Read.{max_depth}
use Rattle.js_syntax.specs.Node.{Forest, bare, total}
use Rattle.json_text.specs.Answer.{IsReadAs}
use Rattle.json_text.specs.Text.{data_of, text_of}
use Rattle.js_meaning_near.specs.Signed.{signed}
use Rattle.js_meaning.specs.Kept.{Kept, KeptBack}
-- a module whose nodes are all of the core of the language, for which runs are defined
use Rattle.steps.specs.Fit.Sensible.{is_core_module}
use Rattle.json_kept.specs.Respelled.{negative, misnamed}

-- The tree without its notes, with unary minus on its magnitude in the place of each negative number: without such numbers it
-- is the tree without its notes.
abbrev pub written : Forest → Forest
written t = bare (signed t)

-- Of a program that was read, and what is left of it. Of the program it is asked that each name of it is one.
pub record TextHeadline (t u : Forest) : Type 0 where
  -- where the text keeps JSON's limit of nesting, it is read as what is left, with unary minus in the place of negative numbers, as
  -- `data_of` has it already
  pub read : total misnamed t ≡ 0 → depth (data_of u) ≤ max_depth → IsReadAs (text_of u) (Ok (written u))
  -- and as what is left itself, where no number of the program is negative
  pub plain : total negative t ≡ 0 → written u ≡ bare u
  -- of a core module every run is kept, for every script and bound, however deep the text nests
  pub kept : total misnamed t ≡ 0 → is_core_module t ≡ true → Kept t (written u)
  -- where a run of what is written ends or is stopped by the host, the old one was the same, unless it was uncovered
  pub back : total misnamed t ≡ 0 → is_core_module t ≡ true → KeptBack t (written u)
