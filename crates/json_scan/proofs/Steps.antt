-- Reading step by step.
use Rattle.std.proofs.Common.{Result, refl}
use Rattle.json_text.specs.Fault.{Fault, ◌>>=◌}
use Rattle.json_text.specs.Answer.{Fails}
use Rattle.json_scan.specs.Scan.{checked}
use Rattle.json_text.specs.declared.error.TreeError.{TreeError}
use Rattle.json_text.specs.declared.error.TreeError.TheVariants as error

-- a fault ends what goes on
pub fails_bind : {A B : Type 0} (e : TreeError) (r : Result A Fault) (f : A → Result B Fault) → Fails e r → Fails e (r >>= f)
fails_bind error.Syntax r f h = rw h refl
fails_bind (error.UnknownNode k) r f h = rw h refl
fails_bind (error.BadField k g) r f h = rw h refl
fails_bind error.NumberOutOfRange r f h = rw h refl
fails_bind error.OutOfMemory r f h = tt

-- a fault of what is checked is the check's
pub fails_checked : {A : Type 0} (e : TreeError) (r : Result A Fault) → Fails e r → Fails e (checked r)
fails_checked e r h = fails_bind e r _ h
