-- What small modules are read as.
use Rattle.std.proofs.Common.{◌≡◌, Ok, negsuc, codes, refl}
use Rattle.serde_json.specs.Data.{negative as negative_number}
use Rattle.js_syntax.specs.Name.{type_named}
use Rattle.js_syntax.specs.Node.{total}
use Rattle.js_syntax.specs.Word.{word_named}
use Rattle.js_syntax.specs.declared.value.Key.TheVariants.{Name as key_name, Text as key_text}
use Rattle.json_text.specs.Plain.{type_at, read_text, read_flag, read_word, read_value, check_extra, check_extras, read_identifier, read_literal_key, read_check}
use Rattle.json_text.specs.Reading.{span_of, read_child, read_list, is_directive, row_here, read_key, read_node, read_program}
use Rattle.json_text.specs.Text.{is_identifier_name, data_of}
use Rattle.json_kept.specs.Respelled.{misnamed}
use Rattle.json_kept.specs.Samples as sample

unfoldable looked_at : Unit {0}
unfolding type_named word_named type_at read_text read_flag read_word read_value check_extra check_extras read_identifier read_literal_key read_check span_of read_child read_list is_directive row_here read_key read_node is_identifier_name
looked_at = tt

pub literal_read : read_program (sample.throws_data (sample.number_data (negative_number (negsuc 3)))) ≡ Ok (sample.throws sample.less_four)
unfolding looked_at
literal_read = refl

pub literal_back : read_program (data_of (sample.throws sample.less_four)) ≡ Ok (sample.throws sample.minus_on_four)
unfolding looked_at
literal_back = refl

pub minus_back : read_program (data_of (sample.throws sample.minus_on_four)) ≡ Ok (sample.throws sample.minus_on_four)
unfolding looked_at
minus_back = refl

pub name_read : read_program (sample.throws_data (sample.object_data (codes "a b"))) ≡ Ok (sample.throws (sample.an_object (key_name (codes "a b"))))
unfolding looked_at
name_read = refl

pub name_counted : total misnamed (sample.throws (sample.an_object (key_name (codes "a b")))) ≡ 1
unfolding looked_at
name_counted = refl

pub name_back : read_program (data_of (sample.throws (sample.an_object (key_name (codes "a b"))))) ≡ Ok (sample.throws (sample.an_object (key_text (codes "a b"))))
unfolding looked_at
name_back = refl

pub one_counted : total misnamed (sample.throws (sample.an_object (key_name (codes "ab")))) ≡ 0
unfolding looked_at
one_counted = refl

pub one_back : read_program (data_of (sample.throws (sample.an_object (key_name (codes "ab"))))) ≡ Ok (sample.throws (sample.an_object (key_name (codes "ab"))))
unfolding looked_at
one_back = refl
