use Rattle.std.proofs.Common.{ap, ◌∙◌}
use Rattle.std.specs.Option.{option_map_or}
use Rattle.load_model.specs.Blocks.{or_empty}
use Rattle.load_model.specs.Loaded.{read_text, text_of}
use Rattle.load_model.specs.declared.element.Element.{Element, out-Element}
use Rattle.doc_load.proofs.BodyLemmas.{kept_or_empty}
use Rattle.doc_load.proofs.text.with_declarations.Goals as goal

pub returns : goal.returns
returns c = λ ordered things faults read.
    let root = c.args.root.now in
    let place = option_map_or (λ (text : Element). (out-Element text).place) (text_of root) 0 in
    let all = c.in_ok-declarations.ensures root (c.as_slice.ensures.value ∙ read.declarations_are) things ordered in
    record {
      body_is = c.from_list.ensures ∙ c.in_ok-body.ensures ∙ ap (λ n. or_empty n c.args.read.blocks.items) c.text_place.ensures
          ∙ ap (or_empty place) read.blocks_are ∙ kept_or_empty place (read_text root).blocks;
      declarations_are = all;
      faults_are = faults;
      left_is = c.text_left-left.ensures read.left_is all.left_is;
    }
