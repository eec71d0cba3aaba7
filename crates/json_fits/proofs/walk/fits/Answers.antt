use Rattle.std.proofs.Common.{◌∙◌, true, sym, ap, refl}
use Rattle.std.proofs.lemmas.Bool.{and_parts, and_from}
use Rattle.js_syntax.specs.Class.{root}
use Rattle.js_syntax.specs.Node.{Tree, forest_of}
use Rattle.json_fits.specs.Fitting.{is_of, is_planned}
use Rattle.json_fits.proofs.Fitting.{found_fits, fits_found}
use Rattle.json_fits.proofs.walk.fits.Goals as goal

pub returns : goal.returns
returns c =
    let t = c.args.program.now in
    let same = c.is_of.ensures ∙ ap (λ (x : Tree). is_of x.kind x.below (λ p. is_planned p x.below) root) c.root.ensures in
    record {
      fits = (
        λ h. found_fits (forest_of t) (and_from (is_of t.kind t.below (λ p. is_planned p t.below) root) true (sym same ∙ h) refl),
        λ f. same ∙ (and_parts (is_of t.kind t.below (λ p. is_planned p t.below) root) true (fits_found (forest_of t) f)).0,
      );
    }
