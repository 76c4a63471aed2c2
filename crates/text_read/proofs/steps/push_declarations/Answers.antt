use Rattle.std.proofs.Common.{None, map, refl}
use Rattle.load_model.specs.Blocks.{declaration_blocks, gives_of}
use Rattle.load_model.specs.Left.{attributes_of, children}
use Rattle.read_blocks.specs.NamedInside.{declarations_in, with_declarations}
use Rattle.text_read.proofs.DeclaredLemmas.{declarations_given}
use Rattle.text_read.proofs.WalkLemmas.{enlists_same}
use Rattle.text_read.proofs.steps.push_declarations.Goals as goal

pub returns : goal.returns
returns c = λ model at.
    let element = c.args.element.now in
    enlists_same at c.args.into.now c.push_declarations.new.self None (with_declarations (declarations_in c.args.sequences c.args.which element))
    (declaration_blocks c.args.sequences c.args.which (attributes_of element) (map (gives_of model) (children element))) (declarations_given model c.args.which c.args.sequences element) (record {
      enters = record { adds = c.in_ok-push_declarations.ensures at.in_note; within = λ level l. tt };
      first_is = refl;
    })
