-- The command set, as clap's meaning reads it: what each of clap's builders makes of a command.
use Rattle.std.specs.Prelude.{Some, codes, true}
use Rattle.clap.specs.Walk.{Rule, Text}
use Rattle.clap.specs.Simple.{App, new_app, new_rule, on_top, with_rule, with_subcommand}
use Rattle.clap.specs.declared.builder.action.ArgAction.TheVariants.{SetTrue}

-- the flag `--tree-only`
abbrev pub tree_only : Rule
tree_only = record (new_rule (codes "tree-only")) {
  long = Some (codes "tree-only");
  action = Some SetTrue;
}

-- a command of this name, with the flag
abbrev pub with_tree_only : Text → App
with_tree_only name = with_rule (new_app name) tree_only

-- a program that wants a command, and offers no help
abbrev pub wants_command : App → App
wants_command = on_top (λ top. record top {
  subcommand_required = true;
  disable_help_flag = true;
  disable_help_subcommand = true;
})

-- the program, and its commands in turn
abbrev pub program : App
program = with_subcommand (with_subcommand (wants_command (new_app (codes "shake"))) (with_tree_only (codes "dce")).top) (new_app (codes "run")).top
