use Rattle.std.proofs.Common.{map, string_bytes}
use Rattle.shake_streams.proofs.Histories.{gave_stops}
use Rattle.shake.proofs.Telling.{shakes, shakes_front, is_syntax, is_tree, is_large, is_broken, is_bad, is_outside, says_line, completes}
use Rattle.shake.proofs.Running.{ran, tells_given, follows_stops, tells_stops}
use Rattle.shake.proofs.run.shake.Goals as goal

pub returns-in-Ok-read_all-clause-ok : goal.returns-in-Ok-read_all-clause-ok
returns-in-Ok-read_all-clause-ok g c =
    shakes (map string_bytes c.args.words.now) c.in-Ok.command c.in-Ok.ensures.meaning _ _ c.in-Ok-read_all.bytes.items c.in-Ok-read_all.ensures.ok c.in-Ok-read_all.ensures.within
    c.answer.result _ _ _ _ c.answer.ensures.answer

pub returns-in-Ok-read_all-clause-write_front : goal.returns-in-Ok-read_all-clause-write_front
returns-in-Ok-read_all-clause-write_front g c =
    shakes_front (map string_bytes c.args.words.now) c.in-Ok.command c.in-Ok.ensures.meaning _ _ c.in-Ok-read_all.bytes.items c.in-Ok-read_all.ensures.ok c.in-Ok-read_all.ensures.within
    c.answer.result _ _ _ _ c.answer.ensures.answer

pub returns-in-Ok-read_all-clause-syntax : goal.returns-in-Ok-read_all-clause-syntax
returns-in-Ok-read_all-clause-syntax g c =
    is_syntax (map string_bytes c.args.words.now) c.in-Ok.command c.in-Ok.ensures.meaning _ _ c.in-Ok-read_all.bytes.items c.in-Ok-read_all.ensures.ok c.in-Ok-read_all.ensures.within
    c.answer.result _ _ _ _ c.answer.ensures.answer

pub returns-in-Ok-read_all-clause-tree : goal.returns-in-Ok-read_all-clause-tree
returns-in-Ok-read_all-clause-tree g c =
    is_tree (map string_bytes c.args.words.now) c.in-Ok.command c.in-Ok.ensures.meaning _ _ c.in-Ok-read_all.bytes.items c.in-Ok-read_all.ensures.ok c.in-Ok-read_all.ensures.within
    c.answer.result _ _ _ _ c.answer.ensures.answer

pub returns-in-Ok-read_all-clause-too_large : goal.returns-in-Ok-read_all-clause-too_large
returns-in-Ok-read_all-clause-too_large g c =
    is_large (map string_bytes c.args.words.now) c.in-Ok.command c.in-Ok.ensures.meaning _ _ c.in-Ok-read_all.bytes.items c.in-Ok-read_all.ensures.ok c.in-Ok-read_all.ensures.within
    c.answer.result _ _ _ _ c.answer.ensures.answer

pub returns-in-Ok-read_all-clause-ill_formed : goal.returns-in-Ok-read_all-clause-ill_formed
returns-in-Ok-read_all-clause-ill_formed g c =
    is_broken (map string_bytes c.args.words.now) c.in-Ok.command c.in-Ok.ensures.meaning _ _ c.in-Ok-read_all.bytes.items c.in-Ok-read_all.ensures.ok c.in-Ok-read_all.ensures.within
    c.answer.result _ _ _ _ c.answer.ensures.answer

pub returns-in-Ok-read_all-clause-bad_script : goal.returns-in-Ok-read_all-clause-bad_script
returns-in-Ok-read_all-clause-bad_script g c =
    is_bad (map string_bytes c.args.words.now) c.in-Ok.command c.in-Ok.ensures.meaning _ _ c.in-Ok-read_all.bytes.items c.in-Ok-read_all.ensures.ok c.in-Ok-read_all.ensures.within
    c.answer.result _ _ _ _ c.answer.ensures.answer

pub returns-in-Ok-read_all-clause-not_core : goal.returns-in-Ok-read_all-clause-not_core
returns-in-Ok-read_all-clause-not_core g c =
    is_outside (map string_bytes c.args.words.now) c.in-Ok.command c.in-Ok.ensures.meaning _ _ c.in-Ok-read_all.bytes.items c.in-Ok-read_all.ensures.ok c.in-Ok-read_all.ensures.within
    c.answer.result _ _ _ _ c.answer.ensures.answer

pub returns-in-Ok-read_all-clause-line : goal.returns-in-Ok-read_all-clause-line
returns-in-Ok-read_all-clause-line g c =
    says_line (map string_bytes c.args.words.now) c.in-Ok.command c.in-Ok.ensures.meaning _ _ c.in-Ok-read_all.bytes.items c.in-Ok-read_all.ensures.ok c.in-Ok-read_all.ensures.within
    c.answer.result _ _ _ _ c.answer.ensures.line

pub returns-in-Ok-read_all-clause-completes : goal.returns-in-Ok-read_all-clause-completes
returns-in-Ok-read_all-clause-completes g c =
    completes (map string_bytes c.args.words.now) c.in-Ok.command c.in-Ok.ensures.meaning _ _ c.in-Ok-read_all.bytes.items c.in-Ok-read_all.ensures.ok c.in-Ok-read_all.ensures.within
    c.answer.result _ _ _ _ _ _ c.answer.ensures.answer

pub returns-in-Ok-read_all-clause-run : goal.returns-in-Ok-read_all-clause-run
returns-in-Ok-read_all-clause-run g c =
    ran (map string_bytes c.args.words.now) c.in-Ok.command c.in-Ok.ensures.meaning _ _ _ _ c.in-Ok-read_all.bytes.items c.in-Ok-read_all.ensures.gave c.in-Ok-read_all.ensures.within
    c.answer.result c.answer.ensures.follows

pub returns-in-Ok-read_all-clause-told : goal.returns-in-Ok-read_all-clause-told
returns-in-Ok-read_all-clause-told g c =
    tells_given (map string_bytes c.args.words.now) c.in-Ok.command c.in-Ok.ensures.meaning c.answer.result _ _ c.in-Ok-read_all.bytes.items _ _ c.in-Ok-read_all.ensures.gave c.answer.ensures.told

pub returns-in-Ok-read_all-clause-source_stops : goal.returns-in-Ok-read_all-clause-source_stops
returns-in-Ok-read_all-clause-source_stops g c = gave_stops _ _ c.in-Ok-read_all.bytes.items c.in-Ok-read_all.ensures.gave

pub returns-in-Ok-read_all-clause-out_stops : goal.returns-in-Ok-read_all-clause-out_stops
returns-in-Ok-read_all-clause-out_stops g c = follows_stops c.in-Ok.command c.answer.result c.in-Ok-read_all.bytes.items _ _ c.answer.ensures.follows

pub returns-in-Ok-read_all-clause-err_stops : goal.returns-in-Ok-read_all-clause-err_stops
returns-in-Ok-read_all-clause-err_stops g c = tells_stops _ _ _ c.answer.ensures.told
