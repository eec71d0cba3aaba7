use Rattle.js_meaning.proofs.Kept.{refined_kept, refined_back}
use Rattle.headline.proofs.Refining.{edits_refine}
use Rattle.headline.proofs.edits.edits_keep_runs.Goals as goal

pub returns : goal.returns
returns c = record {
  stays = λ t u e h. (edits_refine e h).left;
  kept = λ t u e h. refined_kept t u (edits_refine e h).refined;
  back = λ t u e h. refined_back t u (edits_refine e h).refined;
}
