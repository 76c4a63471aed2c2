-- The paragraph of a row, from the row and those behind it.
use Rattle.std.proofs.Common.{◌≡◌, List, [], ◌∷◌, ◌++◌, map, ap, sym, ◌∙◌}
use Rattle.std.specs.List.{flat_map}
use Rattle.doc_model.specs.declared.block.Block.{Block}
use Rattle.doc_model.specs.declared.paragraph.Par.{Par, out-Par}
use Rattle.doc_model.specs.declared.paragraph.ParHead.{ParHead}
use Rattle.doc_model.specs.declared.paragraph.Item.{Item}
use Rattle.edit_rules.specs.Places.{as_block, paragraph_of}
use Rattle.node_array.specs.declared.row.Row.{Row}
use Rattle.node_array.specs.declared.row.Row.TheVariants as row
use Rattle.node_array.specs.Rows.{par_rows}
use Rattle.container_rows.proofs.Parts.{head_row, bare, text_rows, own_rows}
use Rattle.container_rows.proofs.Tests.{pars_back}

head_in : ParHead → List Row → ParHead
head_in head (row.Par other items ∷ rows) = other
head_in head rows = head

items_in : List Item → List Row → List Item
items_in items (row.Par head others ∷ rows) = others
items_in items rows = items

behind_in : List Row → List Row
behind_in [] = []
behind_in (r ∷ rows) = rows

-- what a row says of the paragraph whose rows begin with it
pub record Opened (head : ParHead) (items : List Item) (rest : List Row) (par : Par) (more : List Row) : Type 0 where
  pub head_is : head ≡ head_row par
  pub items_are : items ≡ map bare (out-Par par).items
  pub rest_is : rest ≡ flat_map text_rows (out-Par par).items ++ more

pub opened : (head : ParHead) (items : List Item) (rest : List Row) (par : Par) (more : List Row) → row.Par head items ∷ rest ≡ par_rows par ++ more → Opened head items rest par more
unfolding head_in items_in behind_in
opened head items rest par more e =
    let same = e ∙ ap (λ (rows : List Row). rows ++ more) (own_rows par) in
    record { head_is = ap (head_in head) same; items_are = ap (items_in items) same; rest_is = ap behind_in same }

-- blocks that are paragraphs
pub kept_by : (blocks : List Block) (pars : List Par) → blocks ≡ map as_block pars → blocks ≡ map as_block (flat_map paragraph_of blocks)
kept_by blocks pars e = e ∙ ap (map as_block) (sym (ap (flat_map paragraph_of) e ∙ pars_back pars))
