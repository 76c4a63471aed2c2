-- Items as they are kept.
use Rattle.std.proofs.Common.{◌≡◌, ℕ, Bool, true, false, not, ◌&&◌, ◌||◌, cond, List, [], ◌∷◌, ◌++◌, map, refl, sym, ap, ap₂, ◌∙◌}
use Rattle.std.specs.List.{list_any}
use Rattle.doc_model.specs.Alike.{in_note}
use Rattle.doc_model.specs.Parts.{is_mark}
use Rattle.doc_model.specs.declared.paragraph.Item.{Item, out-Item, roll-Item}
use Rattle.doc_model.specs.declared.paragraph.Note.{Note, out-Note, roll-Note}
use Rattle.doc_model.specs.declared.paragraph.Par.{Par}
use Rattle.doc_model.specs.declared.paragraph.What.{What, out-What, roll-What}
use Rattle.doc_model.specs.declared.paragraph.What.TheOpen.{What-F}
use Rattle.doc_model.specs.declared.paragraph.What.TheViews.{out-roll-What, roll-out-What, roll-out-Item}
use Rattle.load_model.specs.Content.{Raw, Blank, Read, item_in, items_of_raw, items_behind, is_solid, is_nearest_solid}
use Rattle.read_blocks.specs.Kept.{at_ten, kept_items, kept_raw, kept_raws}

item_is : (item : Item) → item_in (out-Item item).spans (out-What (out-Item item).what) ≡ item
item_is item = ap (λ (what : What). roll-Item (record (out-Item item) { what = what })) (roll-out-What (out-Item item).what) ∙ roll-out-Item item

mark_kind : (spans : List (List ℕ)) (what : What-F What Item Note Par) → is_mark (in_note at_ten (item_in spans what)) ≡ is_mark (item_in spans what)
mark_kind spans (What-F.Char c) = simp out-roll-What
mark_kind spans What-F.Tab = simp out-roll-What
mark_kind spans What-F.Break = simp out-roll-What
mark_kind spans (What-F.Field field) = simp out-roll-What
mark_kind spans (What-F.Note note) = simp out-roll-What
mark_kind spans (What-F.Mark mark) = simp out-roll-What

note_mark : (item : Item) → is_mark (in_note at_ten item) ≡ is_mark item
note_mark item =
    ap (λ (one : Item). is_mark (in_note at_ten one)) (sym (item_is item)) ∙ mark_kind (out-Item item).spans (out-What (out-Item item).what) ∙ ap is_mark (item_is item)

-- an item that is no note stays as it is
pub char_stays : (spans : List (List ℕ)) (c : ℕ) → in_note at_ten (item_in spans (What-F.Char c)) ≡ item_in spans (What-F.Char c)
char_stays spans c = simp out-roll-What

pub note_ten : (spans : List (List ℕ)) (note : Note) → in_note at_ten (item_in spans (What-F.Note note)) ≡ item_in spans (What-F.Note (roll-Note (record (out-Note note) { pars = map at_ten (out-Note note).pars })))
note_ten spans note = simp out-roll-What

solid_kept : (raw : Raw) → is_solid (kept_raw raw) ≡ is_solid raw
solid_kept (Blank spans) = refl
solid_kept (Read item) = ap not (note_mark item)

any_kept : (raws : List Raw) → list_any is_solid (map kept_raw raws) ≡ list_any is_solid raws
any_kept [] = refl
any_kept (raw ∷ raws) = ap₂ (λ (a b : Bool). a || b) (solid_kept raw) (any_kept raws)

nearest_mark : (item : Item) (before : List Raw) → is_mark item ≡ true → is_nearest_solid (Read item ∷ before) ≡ is_nearest_solid before
nearest_mark item before e = rw e refl

nearest_item : (item : Item) (before : List Raw) → is_mark item ≡ false → is_nearest_solid (Read item ∷ before) ≡ true
nearest_item item before e = rw e (ap not e)

by_mark : (b : Bool) (one other : Item) (before behind : List Raw) → is_mark one ≡ b → is_mark other ≡ b → is_nearest_solid before ≡ is_nearest_solid behind → is_nearest_solid (Read one ∷ before) ≡ is_nearest_solid (Read other ∷ behind)
by_mark true one other before behind e f same = nearest_mark one before e ∙ same ∙ sym (nearest_mark other behind f)
by_mark false one other before behind e f same = nearest_item one before e ∙ sym (nearest_item other behind f)

nearest_kept : (raws : List Raw) → is_nearest_solid (map kept_raw raws) ≡ is_nearest_solid raws
nearest_kept [] = refl
nearest_kept (Blank spans ∷ raws) = refl
nearest_kept (Read item ∷ raws) = by_mark (is_mark item) (in_note at_ten item) item (map kept_raw raws) raws (note_mark item) refl (nearest_kept raws)

blank_kept : (b : Bool) (spans : List (List ℕ)) (xs ys : List Item) → xs ≡ map (in_note at_ten) ys
    → cond b (item_in spans (What-F.Char 0x20) ∷ xs) xs ≡ map (in_note at_ten) (cond b (item_in spans (What-F.Char 0x20) ∷ ys) ys)
blank_kept true spans xs ys e = ap₂ (λ (first : Item) (more : List Item). first ∷ more) (sym (char_stays spans 0x20)) e
blank_kept false spans xs ys e = e

behind_kept : (before after : List Raw) → items_behind (map kept_raw before) (map kept_raw after) ≡ map (in_note at_ten) (items_behind before after)
behind_kept before [] = refl
behind_kept before (Read item ∷ after) = ap (λ (more : List Item). in_note at_ten item ∷ more) (behind_kept (Read item ∷ before) after)
behind_kept before (Blank spans ∷ after) =
    let xs = items_behind (Blank spans ∷ map kept_raw before) (map kept_raw after) in
    ap₂ (λ (a b : Bool). cond (a && b) (item_in spans (What-F.Char 0x20) ∷ xs) xs) (nearest_kept before) (any_kept after)
    ∙ blank_kept (is_nearest_solid before && list_any is_solid after) spans xs (items_behind (Blank spans ∷ before) after) (behind_kept (Blank spans ∷ before) after)

pub items_kept : (is_in_note : Bool) (raws : List Raw) → items_of_raw (kept_raws is_in_note raws) ≡ kept_items is_in_note (items_of_raw raws)
items_kept true raws = refl
items_kept false raws = behind_kept [] raws
