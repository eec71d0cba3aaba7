use Rattle.std.proofs.Common.{◌+◌, ◌*◌}
use Rattle.run_value.specs.View.{value_of}
use Rattle.run_value.specs.Weight.{value_size, content_size}
use Rattle.run_value.specs.Showing.{sizes}
use Rattle.run_value.proofs.show.+show.Given as goal

abbrev pub decreases-show_full : goal.decreases-show_full
decreases-show_full l = 4 * content_size l.content.now + 3

abbrev pub decreases-show_value : goal.decreases-show_value
decreases-show_value l = 4 * value_size (value_of l.value.now)

abbrev pub decreases-show_content : goal.decreases-show_content
decreases-show_content l = 4 * content_size l.content.now + 2

abbrev pub decreases-show_values : goal.decreases-show_values
decreases-show_values l = 4 * sizes l.values.now + 1
