-- What is read off a list of statements node by node is the same of a list in which two imports are one, in another order.
use Rattle.std.proofs.Common.{◌≡◌, ◌∙◌, ℕ, ◌==◌, List, [], ◌++◌, Bool, true, false, true≢false, ◌&&◌, if◌then◌else◌, refl, sym, ap}
use Rattle.std.specs.List.{AllByRecursion}
use Rattle.std.proofs.lemmas.Bool.{and_parts}
use Rattle.std.proofs.lemmas.List.{append_assoc}
use Rattle.js_syntax.specs.declared.node_kind.NodeKind.{NodeKind as Kind}
use Rattle.js_syntax.specs.declared.node_kind.NodeKind.TheVariants.{ImportDeclaration as import_declaration, Specifiers as specifiers, BindingName as binding_name}
use Rattle.js_syntax.specs.Node.{Forest, Note, nothing, node, absent, joined}
use Rattle.steps.specs.Steps.{binds_import}
use Rattle.steps.specs.Allowed.MergedImports.{is_one_name, are_names, is_default, how_many, go_together, as_named, all_named, first_default, but_first_default, names_merged, may_merge, WithoutImport, import_leaves, leaves_behind, MergesIn, merges_here, merges_behind}
use Rattle.steps.proofs.Owed.Shuffled.{Shuffled, one_by_one, by_equal, behind_all, before_all, back, all_over}

-- ---- names of an import, as they are known to be

pub data AreNames : Forest → Type 0 where
  no_names : AreNames nothing
  a_name : (k : Kind) (n m : Note) (x : List ℕ) (rest : Forest) → binds_import k ≡ true → AreNames rest → AreNames (node k n (node (binding_name x) m nothing nothing) rest)

pub known_names : (t : Forest) → are_names t ≡ true → AreNames t
known_names nothing h = no_names
known_names (absent rest) h = absurd (true≢false (sym h))
known_names (node k n below rest) h =
    let first = and_parts (binds_import k) (is_one_name below && are_names rest) h in
    let second = and_parts (is_one_name below) (are_names rest) first.1 in
    with_name below second.0 (known_names rest second.1)
  where
    with_name : (b : Forest) → is_one_name b ≡ true → AreNames rest → AreNames (node k n b rest)
    with_name (node (binding_name x) m nothing nothing) e names = a_name k n m x rest (and_parts (binds_import k) (is_one_name below && are_names rest) h).0 names
    with_name (node (binding_name x) m nothing (node l i c r)) e names = absurd (true≢false (sym e))
    with_name (node (binding_name x) m nothing (absent r)) e names = absurd (true≢false (sym e))
    with_name (node (binding_name x) m (node l i c r) s) e names = absurd (true≢false (sym e))
    with_name (node (binding_name x) m (absent r) s) e names = absurd (true≢false (sym e))
    with_name (absent r) e names = absurd (true≢false (sym e))
    with_name nothing e names = absurd (true≢false (sym e))
    with_name (node l m c r) e names = absurd (true≢false (sym e))

pub record May (names later : Forest) : Type 0 where
  pub names_are : AreNames names
  pub later_are : AreNames later
  pub together : go_together (joined names later) ≡ true

pub may : (names later : Forest) → may_merge names later ≡ true → May names later
may names later h =
    let first = and_parts (are_names names) (are_names later && go_together (joined names later)) h in
    let second = and_parts (are_names later) (go_together (joined names later)) first.1 in
    record { names_are = known_names names first.0; later_are = known_names later second.0; together = second.1 }

still_binds : (k : Kind) → binds_import k ≡ true → binds_import (as_named k) ≡ true
still_binds Kind.ImportDefaultSpecifier h = refl
still_binds k h = h

pub names_named : {t : Forest} → AreNames t → AreNames (all_named t)
names_named no_names = no_names
names_named (a_name k n m x rest h names) = a_name (as_named k) n m x (all_named rest) (still_binds k h) (names_named names)

pub names_joined : {t u : Forest} → AreNames t → AreNames u → AreNames (joined t u)
names_joined no_names u = u
names_joined (a_name k n m x rest h names) u = a_name k n m x (joined rest _) h (names_joined names u)

if_names : (b : Bool) {t u : Forest} → AreNames t → AreNames u → AreNames (if b then t else u)
if_names true t u = t
if_names false t u = u

pub default_is : {t : Forest} → AreNames t → AreNames (first_default t)
default_is no_names = no_names
default_is (a_name k n m x rest h names) = if_names (is_default k) (a_name k n m x nothing h no_names) (default_is names)

pub others_are : {t : Forest} → AreNames t → AreNames (but_first_default t)
others_are no_names = no_names
others_are (a_name k n m x rest h names) = if_names (is_default k) names (a_name k n m x (but_first_default rest) h (others_are names))

pub merged_are : {t u : Forest} → AreNames t → AreNames u → AreNames (names_merged t u)
merged_are {t = t} a b = if_names (how_many is_default t == 0) (names_joined (default_is b) (names_joined a (names_named (others_are b)))) (names_joined a (names_named b))

-- ---- what is read node by node

-- of each node by itself, where an import has what its names have, and a default what an export of its name has
pub record Reads {X : Type 0} (P : X → Type 0) (whole : Forest → List X) (of_names : List ℕ → Forest → List X) : Type 0 where
  pub one_first : (k : Kind) (n : Note) (below rest : Forest) → whole (node k n below rest) ≡ whole (node k n below nothing) ++ whole rest
  pub of_import : (source : List ℕ) (n m : Note) (names : Forest) → AreNames names → whole (node (import_declaration source) n (node specifiers m names nothing) nothing) ≡ of_names source names
  pub no_names : (source : List ℕ) → of_names source nothing ≡ []
  pub name_first : (source : List ℕ) (k : Kind) (n : Note) (below rest : Forest) → of_names source (node k n below rest) ≡ of_names source (node k n below nothing) ++ of_names source rest
  pub default_same : (source : List ℕ) (k : Kind) (n : Note) (below : Forest) → binds_import k ≡ true → of_names source (node (as_named k) n below nothing) ≡ of_names source (node k n below nothing)
  pub each : (source : List ℕ) (names : Forest) → AreNames names → AllByRecursion P (of_names source names)

module _ {X : Type 0} {P : X → Type 0} {whole : Forest → List X} {of_names : List ℕ → Forest → List X} (r : Reads P whole of_names) where
  of_joined : (source : List ℕ) {t : Forest} → AreNames t → (u : Forest) → of_names source (joined t u) ≡ of_names source t ++ of_names source u
  of_joined source no_names u = ap (λ l. l ++ of_names source u) (sym (r.no_names source))
  of_joined source (a_name k n m x rest h names) u =
      let below = node (binding_name x) m nothing nothing in
      r.name_first source k n below (joined rest u)
      ∙ ap (λ l. of_names source (node k n below nothing) ++ l) (of_joined source names u)
      ∙ sym (append_assoc (of_names source (node k n below nothing)) (of_names source rest) (of_names source u))
      ∙ ap (λ l. l ++ of_names source u) (sym (r.name_first source k n below rest))

  of_named : (source : List ℕ) {t : Forest} → AreNames t → of_names source (all_named t) ≡ of_names source t
  of_named source no_names = refl
  of_named source (a_name k n m x rest h names) =
      let below = node (binding_name x) m nothing nothing in
      r.name_first source (as_named k) n below (all_named rest)
      ∙ ap (λ l. l ++ of_names source (all_named rest)) (r.default_same source k n below h)
      ∙ ap (λ l. of_names source (node k n below nothing) ++ l) (of_named source names)
      ∙ sym (r.name_first source k n below rest)

  -- the first default in front of the others
  default_first : (source : List ℕ) {t : Forest} → AreNames t → Shuffled P (of_names source t) (of_names source (first_default t) ++ of_names source (but_first_default t))
  default_first source no_names = by_equal P (of_names source nothing) (of_names source nothing ++ of_names source nothing) (ap (λ l. l ++ of_names source nothing) (sym (r.no_names source)))
  default_first source (a_name k n m x rest h names) = by (is_default k) (default_first source names)
    where
      below : Forest
      below = node (binding_name x) m nothing nothing

      one : List X
      one = of_names source (node k n below nothing)

      by : (b : Bool) → Shuffled P (of_names source rest) (of_names source (first_default rest) ++ of_names source (but_first_default rest)) → Shuffled P (of_names source (node k n below rest))
          (of_names source (if b then node k n below nothing else first_default rest) ++ of_names source (if b then rest else node k n below (but_first_default rest)))
      by true later = by_equal P (of_names source (node k n below rest)) (one ++ of_names source rest) (r.name_first source k n below rest)
      by false later =
          let front = of_names source (first_default rest) in
          let others = of_names source (but_first_default rest) in
          one_by_one (by_equal P (of_names source (node k n below rest)) (one ++ of_names source rest) (r.name_first source k n below rest))
          (one_by_one (behind_all P one later)
          (one_by_one (all_over P one (r.each source (node k n below nothing) (a_name k n m x nothing h no_names)) front others)
          (by_equal P (front ++ (one ++ others)) (front ++ of_names source (node k n below (but_first_default rest))) (ap (λ l. front ++ l) (sym (r.name_first source k n below (but_first_default rest)))))))

  -- the names of both imports
  pub merged : (source : List ℕ) {t u : Forest} → AreNames t → AreNames u → Shuffled P (of_names source (names_merged t u)) (of_names source t ++ of_names source u)
  merged source {t = t} {u = u} a b = by (how_many is_default t == 0)
    where
      by : (c : Bool) → Shuffled P (of_names source (if c then joined (first_default u) (joined t (all_named (but_first_default u))) else joined t (all_named u))) (of_names source t ++ of_names source u)
      by true =
          let front = of_names source (first_default u) in
          let others = of_names source (but_first_default u) in
          let own = of_names source t in
          one_by_one
          (by_equal P (of_names source (joined (first_default u) (joined t (all_named (but_first_default u))))) (front ++ (own ++ others))
          (of_joined source (default_is b) (joined t (all_named (but_first_default u))) ∙ ap (λ l. front ++ l) (of_joined source a (all_named (but_first_default u)) ∙ ap (λ l. own ++ l) (of_named source (others_are b)))))
          (one_by_one (all_over P front (r.each source (first_default u) (default_is b)) own others) (behind_all P own (back P (default_first source b))))
      by false = by_equal P (of_names source (joined t (all_named u))) (of_names source t ++ of_names source u) (of_joined source a (all_named u) ∙ ap (λ l. of_names source t ++ l) (of_named source b))

  left_behind : (source : List ℕ) {names s t : Forest} → AreNames names → WithoutImport source names s t → Shuffled P (of_names source names ++ whole t) (whole s)
  left_behind source {names = all} names (import_leaves n m rest) =
      by_equal P (of_names source all ++ whole rest) (whole (node (import_declaration source) n (node specifiers m all nothing) rest))
      (ap (λ l. l ++ whole rest) (sym (r.of_import source n m all names)) ∙ sym (r.one_first (import_declaration source) n (node specifiers m all nothing) rest))
  left_behind source {names = all} names (leaves_behind k n below s t h) =
      let one = whole (node k n below nothing) in
      one_by_one (by_equal P (of_names source all ++ whole (node k n below t)) (of_names source all ++ (one ++ whole t)) (ap (λ l. of_names source all ++ l) (r.one_first k n below t)))
      (one_by_one (all_over P (of_names source all) (r.each source all names) one (whole t))
      (one_by_one (behind_all P one (left_behind source names h)) (by_equal P (one ++ whole s) (whole (node k n below s)) (sym (r.one_first k n below s)))))

  pub reordered : {s t : Forest} → MergesIn s t → Shuffled P (whole t) (whole s)
  reordered (merges_here source n m names later s t h out) =
      let known = may names later h in
      let all = names_merged names later in
      let old = node (import_declaration source) n (node specifiers m names nothing) in
      let new = node (import_declaration source) n (node specifiers m all nothing) in
      one_by_one
      (by_equal P (whole (new t)) (of_names source all ++ whole t)
      (r.one_first (import_declaration source) n (node specifiers m all nothing) t ∙ ap (λ l. l ++ whole t) (r.of_import source n m all (merged_are known.names_are known.later_are))))
      (one_by_one (before_all P (whole t) (merged source known.names_are known.later_are))
      (one_by_one (by_equal P ((of_names source names ++ of_names source later) ++ whole t) (of_names source names ++ (of_names source later ++ whole t)) (append_assoc (of_names source names) (of_names source later) (whole t)))
      (one_by_one (behind_all P (of_names source names) (left_behind source known.later_are out))
      (by_equal P (of_names source names ++ whole s) (whole (old s)) (ap (λ l. l ++ whole s) (sym (r.of_import source n m names known.names_are)) ∙ sym (r.one_first (import_declaration source) n (node specifiers m names nothing) s))))))
  reordered (merges_behind k n below s t h) =
      let one = whole (node k n below nothing) in
      one_by_one (by_equal P (whole (node k n below t)) (one ++ whole t) (r.one_first k n below t))
      (one_by_one (behind_all P one (reordered h)) (by_equal P (one ++ whole s) (whole (node k n below s)) (sym (r.one_first k n below s))))
