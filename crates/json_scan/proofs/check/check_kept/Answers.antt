use Rattle.std.proofs.Common.{refl}
use Rattle.std.proofs.lemmas.Result.{err_from_is_err_and}
use Rattle.json_scan.proofs.Outcomes.{only_fault}
use Rattle.json_scan.proofs.Steps.{fails_checked}
use Rattle.json_scan.proofs.check.check_kept.Goals as goal

pub returns-in-Text : goal.returns-in-Text
returns-in-Text c = rw (c.in-Text.is, c.only_checked.ensures, ← c.place_of-place.ensures.fault) (only_fault _ _ _ c.text_field.ensures)

pub returns-in-Flag : goal.returns-in-Flag
returns-in-Flag c = rw (c.in-Flag.is, c.only_checked-in-Flag.ensures, ← c.place_of-place.ensures.fault, ← c.place_of-place.ensures.field) (only_fault _ _ _ c.flag_field.ensures)

pub returns-in-Value : goal.returns-in-Value
returns-in-Value c = rw (c.in-Value.is, c.only_checked-in-Value.ensures, ← c.place_of-place.ensures.fault, ← c.place_of-place.ensures.field) (only_fault _ _ _ c.literal_value.ensures)

pub returns-in-Word : goal.returns-in-Word
returns-in-Word c = rw (c.in-Word.is, ← c.place_of-place.ensures.fault, ← c.place_of-place.ensures.field) c.check_word.ensures

pub returns-in-Mark : goal.returns-in-Mark
returns-in-Mark c = rw c.in-Mark.is refl

pub returns-in-Name : goal.returns-in-Name
returns-in-Name c = rw (c.in-Name.is, c.only_checked-in-Name.ensures, ← c.place_of-place.ensures.fault, ← c.place_of-place.ensures.field) (only_fault _ _ _ c.name_field.ensures)

pub returns-in-MaybeName : goal.returns-in-MaybeName
returns-in-MaybeName c = rw (c.in-MaybeName.is, c.only_checked-in-MaybeName.ensures, ← c.place_of-place.ensures.fault, ← c.place_of-place.ensures.field) (only_fault _ _ _ c.optional_name_field.ensures)

pub returns-in-ModuleName : goal.returns-in-ModuleName
returns-in-ModuleName c = rw (c.in-ModuleName.is, c.only_checked-in-ModuleName.ensures, ← c.place_of-place.ensures.fault, ← c.place_of-place.ensures.field) (only_fault _ _ _ c.module_name_field.ensures)

pub returns-in-MaybeModuleName : goal.returns-in-MaybeModuleName
returns-in-MaybeModuleName c = rw (c.in-MaybeModuleName.is, c.only_checked-in-MaybeModuleName.ensures, ← c.place_of-place.ensures.fault, ← c.place_of-place.ensures.field) (only_fault _ _ _ c.optional_module_name_field.ensures)

pub returns-in-Source : goal.returns-in-Source
returns-in-Source c = rw (c.in-Source.is, c.only_checked-in-Source.ensures, ← c.place_of-place.ensures.fault, ← c.place_of-place.ensures.field) (only_fault _ _ _ c.source_field.ensures)

pub returns-in_err-template_field-in-TemplateText : goal.returns-in_err-template_field-in-TemplateText
returns-in_err-template_field-in-TemplateText c =
    let p = err_from_is_err_and c.from_residual.result c.from_residual.ensures.1 in
    rw (c.in-TemplateText.is, p.1, p.2, ← c.place_of-place.ensures.fault, ← c.place_of-place.ensures.field) (fails_checked _ _ c.in_err-template_field-in-TemplateText.ensures)

pub returns-in_ok-template_field-in-TemplateText : goal.returns-in_ok-template_field-in-TemplateText
returns-in_ok-template_field-in-TemplateText c = rw (c.in-TemplateText.is, ← c.place_of-place.ensures.fault, ← c.place_of-place.ensures.field, c.in_ok-template_field-in-TemplateText.ensures) refl

pub returns-in_err-reg_exp_field-in-RegExpText : goal.returns-in_err-reg_exp_field-in-RegExpText
returns-in_err-reg_exp_field-in-RegExpText c =
    let p = err_from_is_err_and c.from_residual-in_err-reg_exp_field-in-RegExpText.result c.from_residual-in_err-reg_exp_field-in-RegExpText.ensures.1 in
    rw (c.in-RegExpText.is, p.1, p.2, ← c.place_of-place.ensures.fault, ← c.place_of-place.ensures.field) (fails_checked _ _ c.in_err-reg_exp_field-in-RegExpText.ensures)

pub returns-in_ok-reg_exp_field-in-RegExpText : goal.returns-in_ok-reg_exp_field-in-RegExpText
returns-in_ok-reg_exp_field-in-RegExpText c = rw (c.in-RegExpText.is, ← c.place_of-place.ensures.fault, ← c.place_of-place.ensures.field, c.in_ok-reg_exp_field-in-RegExpText.ensures) refl
