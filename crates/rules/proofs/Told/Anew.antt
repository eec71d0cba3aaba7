-- The bit of direct eval that is read anew is wherever a call stands.
use Rattle.std.proofs.Common.{◌≡◌, ◌∙◌, ◌≤◌, ◌+◌, ◌==◌, ℕ, zero, suc, List, [], ◌∷◌, Bool, true, false, ◌&&◌, if◌then◌else◌, cond, nat_eq, Option, Some, length, slice_index_or, refl, sym, ap, ap₂, subst, arith}
use Rattle.std.specs.List.{list_any}
use Rattle.std.specs.Option.{option_to_list}
use Rattle.std.proofs.lemmas.Bool.{eqb-true, eq-eqb}
use Rattle.std.proofs.lemmas.Nat.{and_or_self}
use Rattle.bitflags.specs.Sets.{without as without_bits}
use Rattle.js_syntax.specs.declared.node_kind.NodeKind.{NodeKind as Kind}
use Rattle.js_syntax.specs.declared.node_kind.NodeKind.TheVariants as kind
use Rattle.js_syntax.specs.Class.{root}
use Rattle.js_syntax.specs.Node.{Forest, Note, nothing, node, absent}
use Rattle.js_syntax.proofs.Truth.{first_of_either, second_of_either}
use Rattle.json_shape.specs.Shape.{Fits}
use Rattle.scope_rules.specs.Context.{opens}
use Rattle.scope_rules.specs.Site.{has_eval, scope_row}
use Rattle.scope_rules.specs.Table.{Scope, Scoping}
use Rattle.scope_table.specs.Reading.{no_scope, scope_at, scopes_up, ancestors}
use Rattle.scope_table.specs.Refreshing.{own_eval, eval_scopes, is_around, flagged, refreshed}
use Rattle.scope_counts.specs.Exact.{count}
use Rattle.steps.proofs.Fit.Modules.{fits_program}
use Rattle.steps.specs.Allowed.Exposure.{is_script}
use Rattle.steps.specs.Owed.Kept.{is_program}
use Rattle.steps.specs.Marked.Flags.{has_bits, is_within, Stand, stand_inside, stands_of, Tells, Told, FlagsTell}
use Rattle.steps.proofs.Marked.Exposing.{never}
use Rattle.rules.proofs.Told.Standing.{exposed_in_scope, inside_reads, scope_evaluates, within_opens}
use Rattle.rules.proofs.Told.Edited.{Throughout}
use Rattle.rules.proofs.Told.Refreshed.{told_again, told_flags, sloppy_told, evals_of_node, count_itself}

-- ---- where calls stand, there the mark of the scope is among those with calls

module _ (B : ℕ → Type 0) where
  abbrev Noted : Stand → Type 0
  Noted p = (n : ℕ) → p.scope ≡ Some n → p.exposure.evaluates ≡ true → B n

  noted_if : (w : Bool) (o q : Option ℕ) (m : ℕ) (x y : Bool) → (if w then o else q) ≡ Some m → (if w then x else y) ≡ true → (w ≡ true → o ≡ Some m → x ≡ true → B m) → (q ≡ Some m → y ≡ true → B m) → B m
  noted_if true o q m x y e h f g = f refl e h
  noted_if false o q m x y e h f g = g e h

  own_noted : (k : Kind) (n : Note) (below : Forest) → ((i : ℕ) → 1 ≤ count i (own_eval k n below) → B i) → opens k below ≡ true → (m : ℕ) → n.id ≡ Some m → has_eval (scope_row k below) ≡ true → B m
  own_noted k n below b p m is e =
      let one : count m (own_eval k n below) ≡ 1 = ap₂ (λ c d. count m (if c && d then option_to_list n.id else [])) p e ∙ ap (λ i. count m (option_to_list i)) is ∙ count_itself m in b m (Prim.omega (arith, one))

  row_noted : (t : Forest) (ps : ℕ → Stand) (at : ℕ) → ((i : ℕ) → 1 ≤ count i (eval_scopes t) → B i) → ((i : ℕ) → Noted (ps i)) → Throughout Noted ps at t
  row_noted nothing ps at b h = tt
  row_noted (absent rest) ps at b h = row_noted rest ps (suc at) b h
  row_noted (node k n below rest) ps at b h =
      let own : (i : ℕ) → 1 ≤ count i (own_eval k n below) → B i = λ i l. b i (Prim.omega (arith, l, evals_of_node i k n below rest)) in (
        h at,
        row_noted below (stand_inside (ps at) k n below) 0 (λ i l. b i (Prim.omega (arith, l, evals_of_node i k n below rest)))
            (λ i m is e. noted_if (is_within k below i) n.id (ps at).scope m (exposed_in_scope (ps at).exposure k below).evaluates (ps at).exposure.evaluates is (sym (inside_reads (λ x. x.evaluates) (λ x c. refl) (ps at).exposure k below i) ∙ e)
            (λ w o g. own_noted k n below own (within_opens k below i w) m o (sym (scope_evaluates (ps at).exposure k below) ∙ g)) (λ o g. h at m o g)),
        row_noted rest ps (suc at) (λ i l. b i (Prim.omega (arith, l, evals_of_node i k n below rest))) h,
      )

  program_noted : (t : Forest) → is_program t ≡ true → ((i : ℕ) → 1 ≤ count i (eval_scopes t) → B i) → Throughout Noted (stands_of t) 0 t
  program_noted (node (kind.Program source) n below rest) e b =
      let k : Kind = kind.Program source in
      let t = node k n below rest in
      row_noted t (stands_of t) 0 b (λ i m is g. own_noted k n below (λ j l. b j (Prim.omega (arith, l, evals_of_node j k n below rest))) refl m is g)
  program_noted (node k n below rest) e b = never e
  program_noted (absent rest) e b = never e
  program_noted nothing e b = never e

-- ---- a scope is around itself

itself : (s : Scoping) (most n : ℕ) → 1 ≤ most → list_any (nat_eq n) (scopes_up most s (Some n)) ≡ true
itself s zero n l = absurd (Prim.omega (arith, l))
itself s (suc most) n l = first_of_either (nat_eq n n) (list_any (nat_eq n) (scopes_up most s (scope_at s n).parent)) (eq-eqb n n refl)

around_itself : (s : Scoping) (ms : List ℕ) (n : ℕ) → 1 ≤ length s.scopes → 1 ≤ count n ms → is_around s ms n ≡ true
around_itself s [] n some l = absurd (Prim.omega (arith, l))
around_itself s (m ∷ ms) n some l =
    elim (nat_eq n m) as (λ b. nat_eq n m ≡ b → 1 ≤ cond b 1 0 + count n ms → is_around s (m ∷ ms) n ≡ true) [
      | true ↦ λ same _. first_of_either (list_any (nat_eq n) (ancestors s m)) (is_around s ms n) (subst (λ i. list_any (nat_eq n) (ancestors s i) ≡ true) (eqb-true n m same) (itself s (length s.scopes) n some))
      | false ↦ λ _ later. second_of_either (list_any (nat_eq n) (ancestors s m)) (is_around s ms n) (around_itself s ms n some (Prim.omega (arith, later)))
    ] refl l

-- ---- the bit

given : (f : ℕ) → has_bits (told_again true f) 512 ≡ true
given f = ap (λ n. n == 512) (and_or_self 512 (without_bits 16 f 512))

bit_given : (test : ℕ → Bool) (next : ℕ) (xs : List Scope) (n m : ℕ) → m ≡ next + n → test m ≡ true → has_bits (slice_index_or xs n no_scope).flags 512 ≡ true → has_bits (slice_index_or (flagged test next xs) n no_scope).flags 512 ≡ true
bit_given test next [] n m is e h = never h
bit_given test next (x ∷ xs) zero m is e h =
    let same : m ≡ next = Prim.omega (arith, is) in ap (λ f. has_bits f 512) (told_flags (test next) x) ∙ ap (λ b. has_bits (told_again b x.flags) 512) (sym (ap test same) ∙ e) ∙ given x.flags
bit_given test next (x ∷ xs) (suc n) m is e h = bit_given test (suc next) xs n m (Prim.omega (arith, is)) e h

some_scope : (xs : List Scope) (n : ℕ) → has_bits (slice_index_or xs n no_scope).flags 512 ≡ true → 1 ≤ length xs
some_scope [] n h = never h
some_scope (x ∷ xs) n h = Prim.omega arith

-- ---- the table

module _ (s : Scoping) (u : Forest) where
  abbrev Among : ℕ → Type 0
  Among n = 1 ≤ count n (eval_scopes u)

  again : (script : Bool) (p : Stand) → Noted Among p → Tells s script p → Tells (refreshed u s) script p
  again script p noted h = record {
    scope = h.scope;
    scope_is = h.scope_is;
    variables = h.variables;
    variables_is = h.variables_is;
    declaring = h.declaring;
    declaring_is = h.declaring_is;
    evaluates = λ e. (
        let was = h.evaluates e in
        bit_given (is_around s (eval_scopes u)) 0 s.scopes h.scope h.scope (Prim.omega arith) (around_itself s (eval_scopes u) h.scope (some_scope s.scopes h.scope was) (noted h.scope h.scope_is e)) was);
    sloppy = λ e. sloppy_told (is_around s (eval_scopes u)) 0 s.scopes h.scope ∙ h.sloppy e;
    names = h.names;
    variable_names = h.variable_names;
    declared = h.declared;
  }

  row_again : (script : Bool) (ps : ℕ → Stand) (at : ℕ) (t : Forest) → Throughout (Noted Among) ps at t → Told s script ps at t → Told (refreshed u s) script ps at t
  row_again script ps at nothing b h = tt
  row_again script ps at (absent rest) b h = row_again script ps (suc at) rest b h
  row_again script ps at (node k n below rest) b h = (again script (ps at) b.0 h.0, row_again script (stand_inside (ps at) k n below) 0 below b.1 h.1, row_again script ps (suc at) rest b.2 h.2)

pub refreshed_tells : (s : Scoping) (u : Forest) → Fits root u → FlagsTell s u → FlagsTell (refreshed u s) u
refreshed_tells s u fits h = row_again s u (is_script u) (stands_of u) 0 u (program_noted (Among s u) u (fits_program u fits) (λ i l. l)) h
