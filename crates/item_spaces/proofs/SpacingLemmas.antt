-- The end of a paragraph.
use Rattle.std.proofs.Common.{◌≡◌, ℕ, false, List, [], sym, ap, ◌∙◌, append-nil, Some, None}
use Rattle.std.specs.Prelude.{reverse, remove}
use Rattle.doc_model.specs.declared.paragraph.Item.{Item}
use Rattle.load_model.specs.Content.{Raw, items_of_raw}
use Rattle.item_spaces.specs.declared.last.Last.{Last}
use Rattle.item_spaces.specs.declared.last.Last.TheVariants as last
use Rattle.item_spaces.specs.Last.{place_of}
use Rattle.item_spaces.specs.Spacing.{settled, Stands}

-- where nothing more is read
all_read : (items : List Item) (which : Last) (before : List Raw) → Stands items which before → settled items which false ≡ items_of_raw (reverse before)
all_read items which before stands = sym (ap items_of_raw (sym (append-nil (reverse before))) ∙ stands.whole [] ∙ append-nil (settled items which false))

-- a space that goes, and none
pub place_gone : (items : List Item) (which : Last) (before : List Raw) (at : ℕ) → Some at ≡ place_of which → Stands items which before → remove items at ≡ items_of_raw (reverse before)
place_gone items last.Nothing before at e stands = absurd (cc)
place_gone items last.Solid before at e stands = absurd (cc)
place_gone items (last.Space place) before at e stands = let same : at ≡ place = cc in ap (remove items) same ∙ all_read items (last.Space place) before stands

pub no_place : (items : List Item) (which : Last) (before : List Raw) → None ≡ place_of which → Stands items which before → items ≡ items_of_raw (reverse before)
no_place items last.Nothing before e stands = all_read items last.Nothing before stands
no_place items last.Solid before e stands = all_read items last.Solid before stands
no_place items (last.Space place) before e stands = absurd (cc)
