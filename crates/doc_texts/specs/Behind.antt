-- Paragraphs that are gathered one after another. A list of gathered ones has the last in front.
use Rattle.std.specs.Prelude.{List, [], ◌∷◌, map, reverse}
use Rattle.doc_model.specs.declared.paragraph.ParHead.{ParHead}
use Rattle.doc_model.specs.declared.list_style.ListStyle.{ListStyle}
use Rattle.doc_model.specs.Parts.{items_of}
use Rattle.field_model.specs.Gathered.{GatheredPar}
use Rattle.field_model.specs.Labels.{head_of, label_behind}
use Rattle.doc_texts.specs.Places.{PlacedPar}

-- the heads of gathered paragraphs, in the order in which they were gathered
abbrev pub heads_of : List GatheredPar → List ParHead
heads_of before = reverse (map (λ par. par.head) before)

-- a paragraph with its label, as it is gathered behind others
abbrev pub gathered_behind : List ListStyle → ListStyle → List GatheredPar → PlacedPar → GatheredPar
gathered_behind lists outline before one = record {
  place = one.place;
  head = head_of one.par;
  label = label_behind lists outline (heads_of before) (head_of one.par);
  items = items_of one.par;
}

-- paragraphs, gathered one after another behind others
abbrev pub all_behind : List ListStyle → ListStyle → List GatheredPar → List PlacedPar → List GatheredPar
all_behind lists outline before [] = before
all_behind lists outline before (one ∷ more) = all_behind lists outline (gathered_behind lists outline before one ∷ before) more
