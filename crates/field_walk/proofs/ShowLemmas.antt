-- The texts of a paragraph's items, one after another.
use Rattle.std.proofs.Common.{◌≡◌, ℕ, suc, ◌+◌, ◌<◌, List, [], ◌∷◌, ◌++◌, length, take, get_or, refl, ap, sym, ◌∙◌, arith, append_assoc, append-nil}
use Rattle.std.specs.List.{between}
use Rattle.std.proofs.Math.Seq.{take-suc}
use Rattle.std.proofs.lemmas.List.{take_all}
use Rattle.std.proofs.Common.{◌-◌}
use Rattle.doc_model.specs.declared.paragraph.Item.{out-Item}
use Rattle.doc_model.specs.declared.paragraph.What.{out-What, Note as note_item}
use Rattle.doc_model.specs.declared.paragraph.What.TheOpen.{What-F}
use Rattle.doc_model.specs.declared.paragraph.What.TheViews.{out-roll-What}
use Rattle.doc_model.specs.declared.paragraph.What.TheVariants.{rolls-Note}
use Rattle.doc_model.specs.declared.paragraph.Note.{Note, out-Note}
use Rattle.doc_model.specs.Parts.{what_of}
use Rattle.doc_model.specs.declared.paragraph.Item.{Item}
use Rattle.doc_model.specs.declared.page.PageTable.{PageTable}
use Rattle.field_model.specs.declared.gathered.ParPlace.{ParPlace}
use Rattle.field_model.specs.declared.gathered.Shown.{Shown}
use Rattle.field_model.specs.Gathered.{Event}
use Rattle.field_model.specs.Shown.{shown_behind, shown_item, citation, cited_before, cited_in}
use Rattle.field_model.specs.Cut.{cut}

pub shown_append : (all : List Event) (table : PageTable) (par : ParPlace) (front one two : List Item) → shown_behind all table par front (one ++ two) ≡ shown_behind all table par front one ++ shown_behind all table par (front ++ one) two
shown_append all table par front [] two = ap (λ (seen : List Item). shown_behind all table par seen two) (sym (append-nil front))
shown_append all table par front (item ∷ one) two =
    ap (λ (more : List Shown). shown_item all table par front item ++ more) (shown_append all table par (front ++ item ∷ []) one two)
    ∙ sym (append_assoc (shown_item all table par front item) (shown_behind all table par (front ++ item ∷ []) one) (shown_behind all table par ((front ++ item ∷ []) ++ one) two))
    ∙ ap (λ (seen : List Item). (shown_item all table par front item ++ shown_behind all table par (front ++ item ∷ []) one) ++ shown_behind all table par seen two) (append_assoc front (item ∷ []) one)

pub item_taken : (items : List Item) (i : ℕ) (item : Item) → i < length items → item ≡ get_or items i item → take (i + 1) items ≡ take i items ++ item ∷ []
item_taken items i item lt is =
    let next : i + 1 ≡ suc i = omega arith in
    ap (λ (n : ℕ). take n items) next ∙ take-suc items i item lt ∙ ap (λ (p : Item). take i items ++ p ∷ []) (sym is)

pub show_pushed : (all : List Event) (table : PageTable) (par : ParPlace) (front items : List Item) (i : ℕ) (item : Item) (old between new : List Shown) → i < length items → item ≡ get_or items i item → between ≡ old ++ shown_behind all table par front (take i items) → new ≡ between ++ shown_item all table par (front ++ take i items) item → new ≡ old ++ shown_behind all table par front (take (i + 1) items)
show_pushed all table par front items i item old between new lt is e f =
    let one : List Shown = shown_behind all table par front (take i items) in
    let two : List Shown = shown_item all table par (front ++ take i items) item in
    f
    ∙ ap (λ (done : List Shown). done ++ two) e
    ∙ append_assoc old one two
    ∙ ap (λ (more : List Shown). old ++ (one ++ more)) (sym (append-nil two))
    ∙ ap (λ (more : List Shown). old ++ more) (sym (shown_append all table par front (take i items) (item ∷ [])))
    ∙ ap (λ (seen : List Item). old ++ shown_behind all table par front seen) (sym (item_taken items i item lt is))

pub show_both : (all : List Event) (table : PageTable) (par : ParPlace) (front back items : List Item) (none one two : List Shown) → none ≡ [] → front ++ back ≡ items → one ≡ none ++ shown_behind all table par [] front → two ≡ one ++ shown_behind all table par front back → two ≡ shown_behind all table par [] items
show_both all table par front back items none one two n w e f =
    f
    ∙ ap (λ (done : List Shown). done ++ shown_behind all table par front back) (e ∙ ap (λ (done : List Shown). done ++ shown_behind all table par [] front) n)
    ∙ sym (shown_append all table par [] front back)
    ∙ ap (shown_behind all table par []) w

pub between_all : (n : ℕ) (items : List Item) → n ≡ length items → between 0 n items ≡ items
between_all n items e = take_all (n - 0) items (omega arith)

pub note_shown : (all : List Event) (table : PageTable) (par : ParPlace) (front : List Item) (item : Item) (note : Note) → (out-Item item).what ≡ note_item note → let text : List ℕ = cut (citation (out-Note note).class (cited_before (out-Note note).class par + cited_in (out-Note note).class front + 1)) in let made : Shown = record { item = length front; text = text } in shown_item all table par front item ≡ made ∷ []
note_shown all table par front item note i =
    let e : what_of item ≡ What-F.Note note = ap out-What (i ∙ sym (rolls-Note note)) ∙ out-roll-What (What-F.Note note) in
    rw e refl
