use Rattle.std.proofs.Common.{◌≡◌, ◌∙◌, ℕ, cond, sym, ap, subst, arith}
use Rattle.js_syntax.specs.Node.{Tree, forest_of}
use Rattle.min_context.specs.Seen.{Seen}
use Rattle.min_peephole.specs.Walked.{Walked}
use Rattle.min_peephole.proofs.Passing.{is_true, known, only, between_same}
use Rattle.min_peephole.proofs.passes.walk.Goals as goal

pub walk_statements-requires : goal.walk_statements-requires
walk_statements-requires c =
    let b = between_same c.args.statements.now c.args.ctx.now c.get_mut.result.now c.args.program.now c.into_root-root.result c.get_mut.ensures.context (c.into_root-root.ensures ∙ c.replace.ensures.value) c.requires.between in
    record {
      is_true = is_true c.args.statements.now c.get_mut.result.now (forest_of c.into_root-root.result) b;
      known = known c.args.statements.now c.get_mut.result.now (forest_of c.into_root-root.result) b;
      only = only c.args.statements.now c.get_mut.result.now (forest_of c.into_root-root.result) b;
      exported_only = b.exported_only;
      outside = b.place;
    }

pub returns : goal.returns
returns c =
    let e = c.in_ok-walk_statements.ensures in
    let context : c.get_mut.result.now ≡ c.args.ctx.now = c.get_mut.ensures.context in
    let tree : c.into_root-root.result ≡ c.args.program.now = c.into_root-root.ensures ∙ c.replace.ensures.value in
    let left : c.new.result ≡ c.walk_statements.new.root = c.new.ensures in
    let asked : c.get_mut.result.now.requested ≡ c.args.ctx.now.requested = ap {A = Seen} (λ k. k.requested) context in
    let w : Walked c.args.statements.now c.get_mut.result.now (forest_of c.into_root-root.result) c.walk_statements.new.walker c.walk_statements.new.ctx (forest_of c.walk_statements.new.root) = record {
      edits = e.edits;
      holds = e.is_true;
      known = e.known;
      only = e.only;
      exported_only = e.exported_only;
      place = e.outside;
      lighter = omega (arith, e.lighter, ap {B = ℕ} (λ q. cond q 1 0) (asked ∙ c.requires.between.nothing_asked));
      names_same = e.names;
      context_same = e.context;
      quiet = e.nothing_goes;
      uses_imports = e.uses_imports;
      settled = e.settled;
    } in
    record {
      walked = subst (λ (z : Tree). Walked c.args.statements.now c.args.ctx.now (forest_of c.args.program.now) c.walk_statements.new.walker c.walk_statements.new.ctx (forest_of z)) (sym left)
          (subst (λ (x : Tree). Walked c.args.statements.now c.args.ctx.now (forest_of x) c.walk_statements.new.walker c.walk_statements.new.ctx (forest_of c.walk_statements.new.root)) tree
          (subst (λ (k : Seen). Walked c.args.statements.now k (forest_of c.into_root-root.result) c.walk_statements.new.walker c.walk_statements.new.ctx (forest_of c.walk_statements.new.root)) context w));
      options = e.options ∙ ap {A = Seen} (λ k. k.options) context;
      quiet = λ q. left ∙ e.quiet q ∙ tree;
    }
