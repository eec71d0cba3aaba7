-- Several edits, one after another. Which single edits there are is for the walker to say.
use Rattle.js_syntax.specs.Node.{Forest}

pub data Edits (E : Forest → Forest → Type 0) : (t u : Forest) → Type 0 where
  no_edit : {t : Forest} → Edits E t t
  one_edit : {t u v : Forest} → E t u → Edits E u v → Edits E t v
