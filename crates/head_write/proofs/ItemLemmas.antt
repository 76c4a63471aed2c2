-- Items in no spans.
use Rattle.std.proofs.Common.{◌≡◌, Bool, true, false, List, [], ◌∷◌, refl, ap}
use Rattle.doc_model.specs.declared.paragraph.Item.{Item, out-Item, roll-Item}
use Rattle.doc_model.specs.declared.paragraph.Note.{Note}
use Rattle.doc_model.specs.declared.paragraph.Par.{Par}
use Rattle.doc_model.specs.declared.paragraph.What.{What, out-What}
use Rattle.doc_model.specs.declared.paragraph.What.TheOpen.{Item-F}
use Rattle.doc_model.specs.declared.paragraph.What.TheViews.{out-roll-Item}
use Rattle.doc_model.specs.Parts.{what_of, is_mark}
use Rattle.spelling_model.specs.Spelling.{is_space, is_there, without_marks}
use Rattle.written_model.specs.Content.{bare_items}
use Rattle.head_write.specs.Items.{is_blank, is_marking, has_other}

-- an item in no spans
abbrev pub bare : What → Item
bare what = roll-Item (record { spans = []; what = what })

pub bare_what : (what : What) → what_of (bare what) ≡ out-What what
bare_what what = ap (λ (item : Item-F What Item Note Par). out-What item.what) (out-roll-Item (record { spans = []; what = what }))

pub bare_spans : (what : What) → (out-Item (bare what)).spans ≡ []
bare_spans what = ap (λ (item : Item-F What Item Note Par). item.spans) (out-roll-Item (record { spans = []; what = what }))

pub bare_space : (what : What) → is_space (bare what) ≡ is_blank what
bare_space what = refl

pub bare_mark : (what : What) → is_mark (bare what) ≡ is_marking what
bare_mark what = refl

pub bare_others : (whats : List What) → is_there (without_marks (bare_items whats)) ≡ has_other whats
bare_others [] = refl
bare_others (what ∷ whats) = by_mark (bare_others whats) (is_marking what) refl where
  by_mark : is_there (without_marks (bare_items whats)) ≡ has_other whats → (b : Bool) → is_marking what ≡ b → is_there (without_marks (bare_items (what ∷ whats))) ≡ has_other (what ∷ whats)
  by_mark rest true e = rw (bare_mark what, e) rest
  by_mark rest false e = rw (bare_mark what, e) refl
