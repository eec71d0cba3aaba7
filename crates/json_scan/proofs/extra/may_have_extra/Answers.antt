use Rattle.std.proofs.Common.{◌≡◌, false, sym, ap, ◌∙◌}
use Rattle.json_value.proofs.Views.{view_object}
use Rattle.json_scan.specs.Extra.{has_extra}
use Rattle.json_scan.proofs.Extras.{none_found}
use Rattle.json_scan.proofs.extra.may_have_extra.Goals as goal

pub returns-in-Object : goal.returns-in-Object
returns-in-Object c none key is =
    let ms = c.in-Object.members.items in
    let none_there : has_extra ms ≡ false = sym (c.has_extra.ensures ∙ ap has_extra c.as_slice.ensures.value) ∙ none in
    rw (c.in-Object.is, view_object) (none_found ms none_there key is)
