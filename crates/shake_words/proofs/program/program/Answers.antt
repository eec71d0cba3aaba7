use Rattle.std.proofs.Common.{ap, ap₂, codes, true, ◌≡◌, ◌∙◌}
use Rattle.clap.specs.Simple.{App, app_of, app_of_fields, new_app, with_subcommand}
use Rattle.clap.specs.declared.builder.command.Command.{Command}
use Rattle.clap.specs.declared.builder.command.Command.TheOpen.{Command-F}
use Rattle.shake_words.specs.Program.{wants_command}
use Rattle.shake_words.proofs.program.program.Goals as goal

abbrev without_help_flag : Command-F Command → Command-F Command
without_help_flag fields = record fields { disable_help_flag = true }

abbrev without_help_subcommand : Command-F Command → Command-F Command
without_help_subcommand fields = record fields { disable_help_subcommand = true }

pub returns : goal.returns
returns c =
    let fields = c.disable_help_subcommand-bare.ensures ∙ ap without_help_subcommand (c.disable_help_flag.ensures ∙ ap without_help_flag c.subcommand_required.ensures) in
    let bare : app_of c.disable_help_subcommand-bare.result ≡ wants_command (new_app (codes "shake")) = ap app_of_fields fields ∙ ap wants_command c.new.ensures.app in
    let with_dce = c.in_ok-with_dce.ensures.shape c.in_ok-dce.ensures.local ∙ ap₂ with_subcommand bare (ap (λ (a : App). a.top) c.in_ok-dce.ensures.app) in
    c.in_ok-whole.ensures.shape c.new-2.ensures.local ∙ ap₂ with_subcommand with_dce (ap (λ (a : App). a.top) c.new-2.ensures.app)
