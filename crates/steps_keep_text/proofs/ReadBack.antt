-- The text of what edits leave of a program that was read is read as what they leave, where it keeps JSON's limit of nesting.
use Rattle.std.proofs.Common.{◌≡◌, ◌≤◌, ℕ, List, Ok, IsUtf8, sym, ap, subst, arith}
use Rattle.serde_json.specs.Data.{depth}
use Rattle.serde_json.specs.Read.{max_depth}
use Rattle.serde_json.specs.Written.{compact_text}
use Rattle.js_syntax.specs.Class.{root}
use Rattle.js_syntax.specs.Node.{Forest, bare, total}
use Rattle.js_meaning_near.specs.Signed.{signed, MayBeSigned}
use Rattle.json_text.specs.Answer.{IsReadAs}
use Rattle.json_text.specs.Fault.{untyped}
use Rattle.json_text.specs.Text.{data_of, text_of}
use Rattle.json_shape.specs.Shape.{Fits}
use Rattle.json_shape.proofs.FittingNodes.{nodes_fit}
use Rattle.json_kept.specs.Respelled.{negative, misnamed, IsWrittenAsItIs}
use Rattle.json_kept.specs.Signs.{IsSignable}
use Rattle.json_kept.proofs.Exact.{read_readable}
use Rattle.json_kept.proofs.Signable.{read_exact_sizes}
use Rattle.json_kept.proofs.SignsFit.{signed_readable, exact_may}
use Rattle.json_kept.proofs.SignsWritten.{data_signed, signed_itself}
use Rattle.json_kept.proofs.Texts.{readable_text}
use Rattle.steps.specs.Allowed.Edits.{Edits}
use Rattle.steps.proofs.Owed.FitsEdits.{edits_fit}
use Rattle.steps_keep_text.proofs.StillRead.{fewer_negative, left_exact_sizes, left_readable, left_signable}

-- a signable tree is read back with its signs applied
pub signable_text : (u : Forest) → IsSignable u → IsUtf8 (text_of u) → IsReadAs (text_of u) (Ok (bare (signed u)))
signable_text u s utf8 =
    let same : text_of (signed u) ≡ text_of u = ap compact_text (data_signed u) in
    subst (λ text. IsReadAs text (Ok (bare (signed u)))) same (readable_text (signed u) (signed_readable u s) (subst IsUtf8 (sym same) utf8))

pub read_fits : (bytes : List ℕ) (t : Forest) → IsReadAs bytes (Ok t) → Fits root t
read_fits bytes t read = nodes_fit 128 root untyped read.1.0 t read.1.2

module _ (bytes : List ℕ) (t u : Forest) (read : IsReadAs bytes (Ok t)) (edits : Edits t u) where
  fits : Fits root t
  fits = read_fits bytes t read

  pub read_as_it_is : IsWrittenAsItIs t → depth (data_of u) ≤ max_depth → IsUtf8 (text_of u) → IsReadAs (text_of u) (Ok (bare u))
  read_as_it_is so shallow utf8 = readable_text u (left_readable t u edits fits (read_readable bytes t read so).values shallow) utf8

  pub unsigned : total negative t ≡ 0 → signed u ≡ u
  unsigned none = signed_itself u (Prim.omega (arith, fewer_negative t u edits fits, none))

  module _ (names : total misnamed t ≡ 0) where
    pub read_with_signs : depth (data_of u) ≤ max_depth → IsUtf8 (text_of u) → IsReadAs (text_of u) (Ok (bare (signed u)))
    read_with_signs shallow utf8 = signable_text u (left_signable t u edits fits (read_exact_sizes bytes t read names) shallow) utf8

    pub runs_with_signs : MayBeSigned u
    runs_with_signs = exact_may u (edits_fit t u edits fits) (left_exact_sizes t u edits fits (read_exact_sizes bytes t read names))
