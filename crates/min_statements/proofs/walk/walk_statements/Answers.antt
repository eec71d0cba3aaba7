use Rattle.min_context.specs.Seen.{still}
use Rattle.js_syntax.specs.Node.{forest_of}
use Rattle.min_statements.proofs.Acting.{as_tree_edits, known, own_of}
use Rattle.min_statements.proofs.Seeing.{none_goes, names_used, none_changes, same_names, same_context}
use Rattle.min_statements.proofs.walk.walk_statements.Goals as goal

pub traverse_root-requires : goal.traverse_root-requires
traverse_root-requires c = record { holds = (c.requires.is_true, own_of c.args.walker.now c.args.ctx.now _ _ c.requires.known c.requires.only c.requires.exported_only); outside = c.requires.outside }

pub returns : goal.returns
returns c =
    let e = c.in_ok-traverse_root.ensures in
    record {
      edits = as_tree_edits e.edits;
      is_true = e.holds.0;
      known = known c.traverse_root.new.traverse (still c.traverse_root.new.ctx) (forest_of c.traverse_root.new.root) e.holds;
      only = e.holds.1.only;
      exported_only = e.holds.1.exported_only;
      options = e.options;
      room = e.room;
      marks = e.marks;
      lighter = e.lighter;
      quiet = e.quiet;
      nothing_goes = λ quiet. none_goes c.args.walker.now c.traverse_root.new.traverse c.args.ctx.now c.traverse_root.new.ctx c.args.root.now c.traverse_root.new.root c.requires.outside (e.quiet quiet) e.holds.0.fits (e.visited quiet);
      uses_imports = λ quiet. names_used c.args.walker.now c.traverse_root.new.traverse c.args.ctx.now c.traverse_root.new.ctx c.args.root.now c.traverse_root.new.root c.requires.outside (e.quiet quiet) e.holds.0.fits (e.visited quiet);
      settled = λ quiet. none_changes c.args.walker.now c.traverse_root.new.traverse c.args.ctx.now c.traverse_root.new.ctx c.args.root.now c.traverse_root.new.root c.requires.outside (e.quiet quiet) e.holds.0.fits (e.visited quiet);
      names = λ quiet. same_names c.args.walker.now c.traverse_root.new.traverse c.args.ctx.now c.traverse_root.new.ctx c.args.root.now c.requires.outside (e.visited quiet);
      context = λ quiet. same_context c.args.walker.now c.traverse_root.new.traverse c.args.ctx.now c.traverse_root.new.ctx c.args.root.now c.requires.outside (e.visited quiet);
      outside = e.outside;
    }
