use Rattle.std.proofs.Common.{◌∙◌, ap, Vec, Global}
use Rattle.doc_model.specs.declared.paragraph.Item.{Item}
use Rattle.item_spaces.proofs.SpacingLemmas.{place_gone, no_place}
use Rattle.item_spaces.proofs.spacing.SpacedItems.into_items.Goals as goal
use Rattle.item_spaces.proofs.spacing.SpacedItems.into_items.Goals.{in-Some, in_default}

pub returns : goal.returns
returns c = λ before stands.
    let items = c.args.self.items.items in
    elim c.match-place.branch [
      | in-Some w ↦
          c.from_vec.ensures ∙ ap (λ (all : Vec Item Global). all.items) w.items-is ∙ w.drop_item.ensures ∙ place_gone items c.args.self.last before w.in-Some.at w.in-Some.ensures stands
      | in_default w ↦ c.from_vec.ensures ∙ ap (λ (all : Vec Item Global). all.items) w.items-is ∙ no_place items c.args.self.last before w.in_default.ensures stands
    ]
