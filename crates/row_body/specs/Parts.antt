-- Parts of a body as they are made of rows and what was read behind them.
use Rattle.std.specs.Prelude.{List, [], ◌∷◌}
use Rattle.doc_model.specs.declared.block.Block.{Block}
use Rattle.doc_model.specs.declared.block.Section.{Section, roll-Section}
use Rattle.doc_model.specs.declared.paragraph.Par.{Par, roll-Par}
use Rattle.doc_model.specs.declared.paragraph.ParHead.{ParHead}
use Rattle.doc_model.specs.declared.paragraph.Item.{Item}
use Rattle.node_array.specs.declared.row.SectionHead.{SectionHead}
use Rattle.node_array.specs.Body.{texts_behind}

-- a section of these blocks
abbrev pub section_with : SectionHead → List Block → Section
section_with head blocks = roll-Section (record { kind = head.kind; name = head.name; style = head.style; protected = head.protected; hidden = head.hidden; source = head.source; blocks = blocks })

-- a paragraph of these items
abbrev pub par_with : ParHead → List Item → Par
par_with head items = roll-Par (record { id = head.id; style = head.style; level = head.level; list = head.list; items = items })

-- the texts that are left behind some items
abbrev pub texts_after : List Item → List (List Par) → List (List Par)
texts_after [] texts = texts
texts_after (item ∷ items) texts = texts_after items (texts_behind item texts)
