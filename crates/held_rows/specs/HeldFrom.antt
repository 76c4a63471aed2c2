-- What a container holds from a paragraph on, among the rows of a body.
use Rattle.std.specs.Prelude.{◌≡◌, List, ◌∷◌, ◌++◌, map, Option, Some}
use Rattle.doc_model.specs.declared.block.Block.{Block}
use Rattle.doc_model.specs.declared.paragraph.Par.{Par}
use Rattle.doc_model.specs.declared.paragraph.ParId.{ParId}
use Rattle.doc_model.specs.declared.document.Document.{Document}
use Rattle.edit_rules.specs.Places.{with_containers, held_from}
use Rattle.node_array.specs.declared.row.Row.{Row}
use Rattle.node_array.specs.Rows.{par_rows, rows_of}
use Rattle.container_rows.specs.Standing.{AreBehindAll}

-- the paragraph that a block is, if it is one
abbrev pub held_of : Block → Option Par
held_of block = (with_containers block).held

-- rows from that of a paragraph on begin with those of the blocks that its container holds from it on
pub record IsHeldFrom (doc : Document) (number : ParId) (from : List Row) : Type 0 where
  pub par : Par
  pub blocks : List Block
  pub behind : List Row
  pub rows : from ≡ par_rows par ++ (rows_of blocks ++ behind)
  pub held : held_from doc number ≡ Some par ∷ map held_of blocks
  pub ends : AreBehindAll behind
