use Rattle.std.proofs.Common.{map, refl}
use Rattle.std.proofs.lemmas.List.{length-map}
use Rattle.load_model.specs.Blocks.{gives_of}
use Rattle.load_model.specs.Left.{children}
use Rattle.text_read.proofs.steps.push_source.Goals as goal

pub returns : goal.returns
returns c = λ model at. record {
  enters = record {
    adds = c.in_ok-push_source.ensures at.in_note (map (gives_of model) (children c.args.element.now)) (length-map (children c.args.element.now) (gives_of model));
    within = λ level l. tt;
  };
  first_is = refl;
}
