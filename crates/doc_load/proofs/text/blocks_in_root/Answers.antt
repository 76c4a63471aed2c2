use Rattle.std.proofs.Common.{◌≡◌, [], ◌∙◌, ap, sym, subst, false, Option, None}
use Rattle.std.specs.Borrow.{Bor}
use Rattle.std.specs.Option.{option_map, option_map_or}
use Rattle.load_model.specs.declared.element.Element.{Element}
use Rattle.load_model.specs.Blocks.{gives_of, no_blocks, without_sources}
use Rattle.load_model.specs.Left.{nothing}
use Rattle.load_model.specs.Loaded.{known_of, text_of}
use Rattle.read_blocks.specs.Adds.{AreBlocks}
use Rattle.doc_load.proofs.text.blocks_in_root.Goals as goal

pub returns-in-None : goal.returns-in-None
returns-in-None c = λ known.
    let none : None ≡ text_of c.args.root.now = sym (ap (λ (o : Option (Bor Element)). option_map (λ (text : Bor Element). text.now) o) c.in-None.is) ∙ c.text_in.ensures in
    subst (λ (text : Option Element). AreBlocks false c.new.result (option_map_or (λ (text : Element). without_sources ((gives_of (known_of c.args.root.now) text).inside (record { level = 0; style = []; in_note = false }))) text (no_blocks nothing))) none (c.new.ensures false)
