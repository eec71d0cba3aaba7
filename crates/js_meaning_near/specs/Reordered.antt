-- Modules whose declarations stand in another order. What an import binds takes no cell, and a name is sought by its text (ECMA-262 9.4.2),
-- so no run tells where among other declarations an import's name stands.
use Rattle.std.specs.Prelude.{◌≡◌, ◌⊎◌, false, List, ◌∷◌}
use Rattle.std.specs.Str.{bytes_eq}
use Rattle.js_syntax.specs.Node.{Forest}
use Rattle.js_meaning.specs.Value.{Text}
use Rattle.js_meaning.specs.Scope.{Way, linked, Decl, decl, module_decls}
use Rattle.js_meaning.specs.Module.{entries, stars, requests, distinct}
use Rattle.js_meaning_near.specs.Purpose.{for_values}
use Rattle.js_meaning_near.specs.Names.{Names, no_names, Decls}
use Rattle.js_meaning_near.specs.Near.{items, Near, ExportsOk}

-- a name that an import binds
abbrev pub IsLinked : Way → Type 0
IsLinked (linked source name) = Unit {0}
IsLinked _ = ⊥

-- The same declarations, where names of imports have changed places with other names.
pub data Reordered : List Decl → List Decl → Type 0 where
  as_before : {ds : List Decl} → Reordered ds ds
  further_on : {d : Decl} {ds es : List Decl} → Reordered ds es → Reordered (d ∷ ds) (d ∷ es)
  two_change : {x y : Text} {v w : Way} {ds : List Decl} → bytes_eq x y ≡ false → IsLinked v ⊎ IsLinked w → Reordered (decl x v ∷ decl y w ∷ ds) (decl y w ∷ decl x v ∷ ds)
  one_by_one : {ds es fs : List Decl} → Reordered ds es → Reordered es fs → Reordered ds fs

-- Two modules, by their statements: as near modules, but that the new one declares in another order what both declare, and asks again for no
-- module, or more often.
pub data ReorderedModule : Forest → Forest → Type 0 where
  reordered_module : {t : Names} {a b : Forest} {ds : List Decl} → Decls no_names (module_decls a) ds t → Reordered ds (module_decls b)
      → entries a ≡ entries b → ExportsOk t (entries a) → stars a ≡ stars b → distinct (requests a) ≡ distinct (requests b) → Near for_values items t a b → ReorderedModule a b
