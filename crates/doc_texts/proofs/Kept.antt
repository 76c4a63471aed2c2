-- What a reader holds when one paragraph more is read.
use Rattle.std.proofs.Common.{◌≡◌, List, [], ◌∷◌, ◌++◌, map, sym, ap, subst, ◌∙◌}
use Rattle.std.proofs.lemmas.List.{map-append, reverse-append}
use Rattle.doc_model.specs.declared.paragraph.Item.{Item}
use Rattle.doc_model.specs.declared.paragraph.Par.{Par}
use Rattle.doc_model.specs.declared.paragraph.ParHead.{ParHead}
use Rattle.doc_model.specs.declared.list_style.ListStyle.{ListStyle}
use Rattle.doc_model.specs.declared.page.Label.{Label}
use Rattle.doc_model.specs.Parts.{items_of}
use Rattle.field_model.specs.declared.gathered.Gathered.{Gathered}
use Rattle.field_model.specs.Gathered.{GatheredPar}
use Rattle.field_model.specs.Labels.{head_of, label_behind}
use Rattle.list_num.specs.Counts.{HaveCounted}
use Rattle.doc_texts.specs.declared.texts.ParText.{ParText}
use Rattle.doc_texts.specs.declared.reader.Reader.{Reader}
use Rattle.doc_texts.specs.Places.{placed_at}
use Rattle.doc_texts.specs.Behind.{gathered_behind, heads_of}
use Rattle.doc_texts.specs.Holds.{HasRead, gathered_par}

-- a paragraph by its parts
pub gathered_is : (lists : List ListStyle) (outline : ListStyle) (before : List GatheredPar) (place : Gathered) (par : Par) (head : ParHead) (label : Label) (items : List Item)
    → head ≡ head_of par → label ≡ label_behind lists outline (heads_of before) head → items ≡ items_of par
    → record { place = place; head = head; label = label; items = items } ≡ gathered_behind lists outline before (placed_at place par)
gathered_is lists outline before place par head label items e l i =
    let with_label : Label → GatheredPar = λ (x : Label). record { place = place; head = head; label = x; items = items } in
    let with_head : ParHead → GatheredPar = λ (x : ParHead). record { place = place; head = x; label = label_behind lists outline (heads_of before) x; items = items } in
    let with_items : List Item → GatheredPar = λ (x : List Item). record { place = place; head = head_of par; label = label_behind lists outline (heads_of before) (head_of par); items = x } in
    ap with_label l ∙ ap with_head e ∙ ap with_items i

-- the heads, and one more
pub heads_more : (one : GatheredPar) (before : List GatheredPar) → heads_of (one ∷ before) ≡ heads_of before ++ one.head ∷ []
heads_more one before = reverse-append (one.head ∷ []) (map (λ par. par.head) before)

-- a reader that holds one paragraph more
pub read_more : (lists : List ListStyle) (before : List GatheredPar) (one : GatheredPar) (text : ParText) (old new : Reader)
    → HasRead lists before old → gathered_par text ≡ one → HaveCounted lists (heads_of before ++ text.head ∷ []) new.counts
    → new.texts.items ≡ old.texts.items ++ text ∷ [] → HasRead lists (one ∷ before) new
read_more lists before one text old new h is counted texts =
    subst (λ (last : GatheredPar). HasRead lists (last ∷ before) new) is
    (record {
      counted = subst (λ (heads : List ParHead). HaveCounted lists heads new.counts) (sym (heads_more (gathered_par text) before)) counted;
      texts = ap (map gathered_par) texts ∙ map-append gathered_par old.texts.items (text ∷ []) ∙ ap (λ (front : List GatheredPar). front ++ gathered_par text ∷ []) h.texts
          ∙ sym (reverse-append (gathered_par text ∷ []) before);
    })
