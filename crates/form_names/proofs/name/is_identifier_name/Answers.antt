use Rattle.form_names.proofs.Names.{no_name, starts_well, starts_badly}
use Rattle.form_names.proofs.name.is_identifier_name.Goals as goal

pub returns-in-empty : goal.returns-in-empty
returns-in-empty c = record { name = no_name c.args.text.now c.as_bytes.result.now c.as_bytes.ensures.value c.in-empty.len_below }

pub returns-then-starts_name : goal.returns-then-starts_name
returns-then-starts_name c = record {
  name = starts_well c.args.text.now c.as_bytes.result.now c.starts_name.result c.continues_name.result c.as_bytes.ensures.value c.in-len1-up.len_at_least c.starts_name.ensures c.if-starts_name.true c.continues_name.ensures;
}

pub returns-else-starts_name : goal.returns-else-starts_name
returns-else-starts_name c = record {
  name = starts_badly c.args.text.now c.as_bytes.result.now c.starts_name.result c.as_bytes.ensures.value c.in-len1-up.len_at_least c.starts_name.ensures c.if-starts_name.false;
}
