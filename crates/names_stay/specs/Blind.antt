-- Changes of paragraphs that leave all names where they are.
use Rattle.std.specs.Prelude.{◌≡◌, ℕ, List, []}
use Rattle.std.specs.List.{flat_map}
use Rattle.doc_model.specs.declared.field.Field.TheVariants as fields
use Rattle.doc_model.specs.declared.paragraph.Par.{Par, out-Par}
use Rattle.doc_model.specs.declared.paragraph.ParId.{ParId}
use Rattle.doc_model.specs.declared.paragraph.Item.{Item, out-Item, roll-Item}
use Rattle.doc_model.specs.declared.paragraph.What.{What, roll-What}
use Rattle.doc_model.specs.declared.paragraph.What.TheOpen.{What-F}
use Rattle.doc_model.specs.declared.paragraph.Note.{Note}

-- whether what an item is has a name of its own or holds what may have one: a mark, a note, and a sequence field
abbrev pub IsNameless : What-F What Item Note Par → Type 0
IsNameless (What-F.Char c) = Unit {0}
IsNameless What-F.Tab = Unit {0}
IsNameless What-F.Break = Unit {0}
IsNameless (What-F.Field (fields.Sequence name refname format)) = ⊥
IsNameless (What-F.Field field) = Unit {0}
IsNameless (What-F.Note note) = ⊥
IsNameless (What-F.Mark mark) = ⊥

-- what is told of items by their names: nothing of an item without one, and spans are of no account
pub record IsBlind {X : Type 0} (tell : Item → List X) : Type 0 where
  pub nameless : (spans : List (List ℕ)) (what : What-F What Item Note Par) → IsNameless what → tell (roll-Item (record { spans = spans; what = roll-What what })) ≡ []
  pub spans : (item : Item) (spans : List (List ℕ)) → tell (roll-Item (record (out-Item item) { spans = spans })) ≡ tell item

-- names with the paragraphs that they stand in
abbrev pub Named : Type 0
Named = List (List ℕ × ParId)

-- a change of paragraphs leaves their numbers, and what is told of their items by their names
pub record KeepsNames (change : Par → Par) : Type 0 where
  pub number : (par : Par) → (out-Par (change par)).id ≡ (out-Par par).id
  pub items : (tell : Item → Named) (par : Par) → IsBlind tell → flat_map tell (out-Par (change par)).items ≡ flat_map tell (out-Par par).items
