-- The table stays exact, with shorter lists, when a declaration of a name to which nothing refers becomes a statement of its value.
use Rattle.std.proofs.Common.{◌≡◌, ◌∙◌, ◌++◌, ◌+◌, inl, inr, ℕ, suc, Bool, true, false, List, [], ◌∷◌, append-nil, if◌then◌else◌, refl, sym, ap, subst, true≢false, arith}
use Rattle.std.specs.Prelude.{Some}
use Rattle.js_syntax.specs.declared.node_kind.NodeKind.{NodeKind as Kind}
use Rattle.js_syntax.specs.declared.node_kind.NodeKind.TheVariants.{ExpressionStatement as expression_statement, VariableDeclaration as variable_declaration, BindingName as binding_name}
use Rattle.js_syntax.specs.declared.kind.VariableKind.{VariableKind}
use Rattle.js_syntax.specs.Node.{Forest, Note, nothing, node, alone}
use Rattle.scope_rules.specs.Context.{Context, inside, in_variables, outermost}
use Rattle.scope_rules.specs.Site.{BindingSite, bindings_among, opens_one, scope_count}
use Rattle.scope_rules.specs.Binding.{named_in}
use Rattle.scope_rules.specs.Table.{Scoping}
use Rattle.scope_laws.specs.Exact.{Among, Exact}
use Rattle.scope_laws.specs.Place.{Around, first, behind, behind_none, under, plug, there}
use Rattle.scope_laws.proofs.Around.{stands_there}
use Rattle.scope_counts.specs.Counts.{Decl, Aims, Weight, Bound, no_part, aims_inside, named, hoisted, weights_inside, bound_to, refs}
use Rattle.scope_counts.specs.Edits.{program_with, SameScopes}
use Rattle.scope_counts.specs.Losing.{Loses, Thins, left, is_gone, gone_by, LosesOutward, DeclaresGone, referring, declaring}
use Rattle.scope_counts.specs.Scopes.{ExactButMarks, unmarked}
use Rattle.scope_counts.proofs.Leaving.{emptied_loses}
use Rattle.scope_counts.proofs.Losing.{refs_related}
use Rattle.scope_counts.proofs.Stays.{exact_stays}
use Rattle.scope_counts.proofs.Whole.{exact_with}
use Rattle.steps.specs.KeepForm.Part.{declares_one}
use Rattle.steps.specs.Allowed.EmptyIf.{statement_of}
use Rattle.steps.specs.Allowed.Free.{IsFree, Free}
use Rattle.steps.specs.Allowed.Places.{At}
use Rattle.steps.specs.Allowed.Silent.{HoldsThere}
use Rattle.steps.specs.Allowed.ValueStays.{declaration_of_value}
use Rattle.steps.specs.Owed.Kept.{is_program, IsKept}
use Rattle.steps.specs.Owed.Part.{DeclaresNothing}
use Rattle.steps.specs.Owed.Unseen.{IsUnreferred}
use Rattle.steps.proofs.Owed.Places.{place_of, rest_of, same_scopes, IsInside, inside_program, is_rooted}
use Rattle.steps.proofs.Owed.Pruning.{kept_but_marks}
use Rattle.steps.proofs.Owed.Unseen.{free_unreferred, layer_below}
use Rattle.steps.proofs.Owed.UnseenCounts.{unlisted, users_leave, unreferred_unlisted}

module _ (how : VariableKind) (n m l j i o : Note) (x : List ℕ) (k : Kind) (b : Forest) where
  abbrev value : Forest
  value = alone k i b

  abbrev all : Forest
  all = declares_one m l j x value

  abbrev old : Forest → Forest
  old r = node (variable_declaration how) n all r

  abbrev new : Forest → Forest
  new r = node expression_statement o value r

  -- ---- the declared name stands there

  record IsNamed (t : Forest) (bs : List BindingSite) : Type 0 where
    site : BindingSite
    stands : Among site bs
    id : site.id ≡ j.id
    free : IsUnreferred t site

  named_there : (t : Forest) (a : Around) (in_with : Bool) (cs : ℕ → Context) (at next : ℕ) → HoldsThere in_with cs at next a (Some (declaration_of_value how n m l j i x k b)) (Free t how x) → IsNamed t (bindings_among (there cs at next a (Some (declaration_of_value how n m l j i x k b))))
  named_there t (first rest) in_with cs at next free =
      let c = in_variables (cs at) how in
      let site : BindingSite = record { id = j.id; name = x; layer = c.declaring.layer; flags = c.declaring.flags; is_pure = c.declaring.is_pure; span = j.span } in
      record { site = site; stands = inl refl; id = refl; free = free_unreferred t site x c.declaring.layer refl refl (subst (λ r. IsFree t (named_in x r)) (sym (layer_below (cs at) how)) free) }
  named_there t (behind z q below a) in_with cs at next free = named_there t a in_with cs (suc at) (next + scope_count (node z q below nothing)) free
  named_there t (behind_none a) in_with cs at next free = named_there t a in_with cs (suc at) next free
  named_there t (under z q a rest) in_with cs at next free =
      let y = declaration_of_value how n m l j i x k b in
      named_there t a _ (inside (cs at) next z (plug a (Some y))) 0 (next + opens_one z (plug a (Some y))) free

  -- ---- what is declared around

  module _ (gone : ℕ → Bool) (named_gone : is_gone gone j.id ≡ true) (none : DeclaresNothing value) where
    one_gone : (b : Bool) (d : Decl) → Among d (((((if b then record { name = x; symbol = j.id } ∷ [] else []) ++ []) ++ []) ++ []) ++ []) → is_gone gone d.symbol ≡ true
    one_gone true d (inl h) = subst (λ (d : Decl). is_gone gone d.symbol ≡ true) h named_gone
    one_gone true d (inr h) = absurd h
    one_gone false d h = absurd h

    declares_gone : DeclaresGone gone (variable_declaration how) n all
    declares_gone a d h =
        let aims : ℕ → Aims = aims_inside no_part a (variable_declaration how) all in
        let name : List Decl = named (aims 0) j (binding_name x) in
        one_gone (aims 0).naming d (subst (λ (ds : List Decl). Among d ((((name ++ []) ++ ds) ++ []) ++ [])) (none (λ at. aims 0) 1) h)

    loses : (r : Forest) → LosesOutward gone false (old r) (new r)
    loses r aims at even =
        subst (λ (ds : List Decl). Loses gone (hoisted aims at (old r)) (ds ++ hoisted aims (suc at) r)) (sym (none (aims_inside no_part (aims at) expression_statement value) 0))
        (emptied_loses gone (variable_declaration how) n o all r declares_gone aims at even)

  -- ---- what stays

  old_counts : (g : Bound) (w : Weight) → refs g (weights_inside g (variable_declaration how) all w) 0 all ≡ refs g (λ at. w) 0 value
  old_counts g w = Prim.omega arith

  new_counts : (g : Bound) (w : Weight) → refs g (weights_inside g expression_statement value w) 0 value ≡ refs g (λ at. w) 0 value
  new_counts g w = refl

  same_list : (ds : List Decl) → (ds ++ []) ++ [] ≡ ds
  same_list ds = append-nil (ds ++ []) ∙ append-nil ds

  thins : (gone : ℕ → Bool) (r : Forest) → Thins gone false (old r) (new r)
  thins gone r = record {
    fewer = λ z. Prim.omega arith;
    same = λ s z wg ws vs at eg ew ev small tiny related none e.
        let g = bound_to s z in
        Prim.omega (
          arith,
          old_counts g (ws at),
          new_counts g (vs at),
          refs_related gone s z (λ a. wg at) (λ a. ws at) (λ a. vs at) 0 value (λ a. small at) (λ a. tiny at) (λ a. related at) (Prim.omega (arith, none, old_counts (gone_by gone z) (wg at))),
          refs_related gone s z wg ws vs (suc at) r small tiny related (Prim.omega (arith, none)),
        );
    references = λ d h. subst (λ (ds : List Decl). Among d (ds ++ referring r)) (sym (same_list (referring value))) h;
    declarations = λ d h. inr (subst (λ (ds : List Decl). Among d (ds ++ declaring r)) (sym (same_list (declaring value))) h);
    agree = λ e. (λ o. absurd (true≢false (sym o)), e.1.1.1.2, e.2);
    apart = λ s. Prim.omega arith;
  }

-- of a program
pub stated_kept : (a : Around) (how : VariableKind) (n m l j i o : Note) (x : List ℕ) (k : Kind) (b : Forest) → DeclaresNothing (alone k i b) → is_program (plug a (Some (declaration_of_value how n m l j i x k b))) ≡ true
    → At a (Some (declaration_of_value how n m l j i x k b)) (Free (plug a (Some (declaration_of_value how n m l j i x k b))) how x)
    → (s : Scoping) → IsKept s (plug a (Some (declaration_of_value how n m l j i x k b))) → IsKept s (plug a (Some (statement_of o i k b)))
stated_kept a how n m l j i o x k b none is free s kept =
    let y = declaration_of_value how n m l j i x k b in
    let inside_it : IsInside a = inside_program a y is (λ rest. refl) in
    let place = is_rooted a y inside_it is in
    let p = place.rooted in
    let r = rest_of a in
    let t = old how n m l j i o x k b r in
    let u = new how n m l j i o x k b r in
    let was : IsKept s (program_with p t) = subst (IsKept s) (place.with_node y) kept in
    let exact : ExactButMarks was.table unmarked (program_with p t) = (exact_with p t was.table).0 was.exact in
    let there_named = named_there how n m l j i o x k b (plug a (Some y)) a false (λ at. outermost) 0 0 free in
    let whole : Exact was.table (plug a (Some y)) = subst (Exact was.table) (sym (place.with_node y)) was.exact in
    let listed = unreferred_unlisted was.table (plug a (Some y)) whole there_named.site (stands_there a (Some y) there_named.site there_named.stands) there_named.free in
    let gone = unlisted was.table in
    let named_gone : is_gone gone j.id ≡ true = ap (is_gone gone) (sym there_named.id) ∙ listed in
    subst (IsKept s) (sym (place.with_node (statement_of o i k b)))
    (kept_but_marks p (left t u) t u s was
    (exact_stays gone p false t u (thins how n m l j i o x k b gone r) (loses how n m l j i o x k b gone named_gone none r)
    (subst (λ z. SameScopes z t u) (sym place.place_is) (same_scopes (variable_declaration how) expression_statement n o (declares_one m l j x (alone k i b)) (alone k i b) r (place_of place.inner)))
    (λ e. absurd (true≢false (sym e))) (users_leave was.table p t u exact) was.table unmarked (left t u) (λ z. refl) exact))
