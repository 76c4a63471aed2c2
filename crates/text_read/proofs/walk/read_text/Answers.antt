use Rattle.std.proofs.Common.{[], false, ap, subst, sym}
use Rattle.load_model.specs.Blocks as blocks
use Rattle.load_model.specs.Blocks.{without_sources}
use Rattle.read_blocks.specs.Adds.{AreBlocks}
use Rattle.read_blocks.proofs.AddLemmas.{from_none}
use Rattle.text_read.specs.Walk.{blocks_in}
use Rattle.text_read.proofs.WalkLemmas.{inside_out}
use Rattle.text_read.proofs.walk.read_text.Goals as goal

pub returns : goal.returns
returns c = λ model k.
    let text = c.args.text.now in
    let body : blocks.Lists = record { level = 0; style = []; in_note = false } in
    let inside = c.in_ok-push_inside.ensures model body k c.outside-lists.ensures in
    subst (AreBlocks false c.drop_sources.new.self) (ap without_sources (sym (inside_out model text body)))
    (c.drop_sources.ensures false (blocks_in text model body) (from_none false c.new-read.result c.push_inside.new.into (blocks_in text model body) (c.new-read.ensures false) inside.enters.adds))
