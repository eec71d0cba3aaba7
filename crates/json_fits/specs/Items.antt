-- What the code calls the items of a list.
use Rattle.json_shape.specs.Shape.{Plan, all, all_or_holes, all_of_body}
use Rattle.json_table.specs.View.{class_view}
use Rattle.json_fits.specs.declared.walk.Items.{Items}
use Rattle.json_fits.specs.declared.walk.Items.TheVariants as items

abbrev pub items_view : Items → Plan
items_view (items.All c) = all (class_view c)
items_view (items.OrHoles c) = all_or_holes (class_view c)
items_view (items.OfBody c) = all_of_body (class_view c)
