-- Names in memory as the lists that definitions have.
use Rattle.std.specs.Prelude.{ℕ, List, [], ◌∷◌, ◌++◌, Option, Some, None, Vec, map}
use Rattle.std.specs.Global.{Global}
use Rattle.std.specs.declared.rc.Rc.{Rc}
use denote.Ref.{Bor}

-- no name or one
abbrev pub optional : Option (Bor (List ℕ)) → List (List ℕ)
optional None = []
optional (Some s) = s.now ∷ []

-- the names of several lists, one after another
abbrev pub all_names : List (List (List ℕ)) → List (List ℕ)
all_names [] = []
all_names (n ∷ ns) = n ++ all_names ns

-- a list that contexts share; without one it is empty
abbrev pub listed : {X : Type 0} → Option (Rc (Vec X Global) Global) → List X
listed None = []
listed (Some l) = l.value.items

-- the names of all lists of such a list
abbrev pub all_listed : Option (Rc (Vec (Rc (List (List ℕ)) Global) Global) Global) → List (List ℕ)
all_listed ns = all_names (map (λ n. n.value) (listed ns))
