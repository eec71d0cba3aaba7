-- What lies below a node stands in the same context as before.
use Rattle.std.proofs.Common.{◌≡◌, ℕ, false, ◌||◌, refl, sym, ap, ◌∙◌}
use Rattle.js_syntax.specs.declared.node_kind.NodeKind.{NodeKind as Kind}
use Rattle.js_syntax.specs.declared.node_kind.NodeKind.TheVariants.{Program as program, Function as function, Class as class, MethodDefinition as method_definition, PropertyDefinition as property_definition, Property as property, LabeledStatement as labeled_statement, IfStatement as if_statement, WithStatement as with_statement, WhileStatement as while_statement, DoWhileStatement as do_while_statement, ForStatement as for_statement, ForInStatement as for_in_statement, ForOfStatement as for_of_statement, SwitchStatement as switch_statement}
use Rattle.js_syntax.specs.Node.{Forest}
use Rattle.form_rules.specs.Context.{Context, is_module, context, in_function, in_class, labeled, privates_of, extends_another, inside}
use Rattle.steps.specs.KeepForm.Sheds.{row_below, may_leave, Around, entered, Sheds}
use Rattle.steps.proofs.KeepForm.Rows.{stays_below}
use Rattle.steps.proofs.KeepForm.Seen.{list_same, function_same, privates_same, extends_same, loop_same}

-- the context does not depend on the place in a list
pub inside_same : (w : Around) (c : Context) (k : Kind) (a b : Forest) (i j : ℕ) → Sheds (entered w k a) a b → (may_leave (row_below w.row k) ≡ false → i ≡ j) → inside c k b j ≡ inside c k a i
inside_same w c (program source) a b i j h e = ap (λ x. context c (is_module source || x) c.leaves c.members) (list_same (stays_below w.row (program source) refl) h)
inside_same w c (function how pure) a b i j h e = ap (λ x. in_function how (c.strict || x) c) (function_same (stays_below w.row (function how pure) refl) h)
inside_same w c (class how) a b i j h e =
    let stays = stays_below w.row (class how) refl in
    ap (λ x. in_class x (extends_another b) c) (privates_same stays h) ∙ ap (λ x. in_class (privates_of a) x c) (extends_same stays h)
inside_same w c (labeled_statement label) a b i j h e = ap (λ x. labeled (record { name = label; is_loop = x }) c) (loop_same (stays_below w.row (labeled_statement label) refl) refl h)
inside_same w c (method_definition how is_static key) a b i j h e = ap (λ x. inside c (method_definition how is_static key) a x) (sym (e (stays_below w.row (method_definition how is_static key) refl)))
inside_same w c (property_definition is_static key) a b i j h e = ap (λ x. inside c (property_definition is_static key) a x) (sym (e (stays_below w.row (property_definition is_static key) refl)))
inside_same w c (property how is_one key) a b i j h e = ap (λ x. inside c (property how is_one key) a x) (sym (e (stays_below w.row (property how is_one key) refl)))
inside_same w c if_statement a b i j h e = ap (λ x. inside c if_statement a x) (sym (e (stays_below w.row if_statement refl)))
inside_same w c with_statement a b i j h e = ap (λ x. inside c with_statement a x) (sym (e (stays_below w.row with_statement refl)))
inside_same w c while_statement a b i j h e = ap (λ x. inside c while_statement a x) (sym (e (stays_below w.row while_statement refl)))
inside_same w c do_while_statement a b i j h e = ap (λ x. inside c do_while_statement a x) (sym (e (stays_below w.row do_while_statement refl)))
inside_same w c for_statement a b i j h e = ap (λ x. inside c for_statement a x) (sym (e (stays_below w.row for_statement refl)))
inside_same w c for_in_statement a b i j h e = ap (λ x. inside c for_in_statement a x) (sym (e (stays_below w.row for_in_statement refl)))
inside_same w c for_of_statement a b i j h e = ap (λ x. inside c for_of_statement a x) (sym (e (stays_below w.row for_of_statement refl)))
inside_same w c switch_statement a b i j h e = ap (λ x. inside c switch_statement a x) (sym (e (stays_below w.row switch_statement refl)))
inside_same w c k a b i j h e = refl
