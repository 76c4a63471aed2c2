-- White space and items don't look at the numbers of a note's paragraphs.
use Rattle.std.proofs.Common.{◌≡◌, ℕ, ◌&&◌, ◌||◌, not, Bool, true, false, cond, List, [], ◌∷◌, map, filter, replicate, zero, suc, refl, sym, ap, ap₂, ◌∙◌}
use Rattle.std.specs.List.{list_any}
use Rattle.doc_model.specs.Alike.{in_note}
use Rattle.doc_model.specs.declared.field.Field.{Field}
use Rattle.doc_model.specs.declared.paragraph.Item.{Item, out-Item, roll-Item}
use Rattle.doc_model.specs.declared.paragraph.Mark.{Mark}
use Rattle.doc_model.specs.declared.paragraph.Note.{Note}
use Rattle.doc_model.specs.declared.paragraph.Par.{Par}
use Rattle.doc_model.specs.declared.paragraph.What.{What, out-What}
use Rattle.doc_model.specs.declared.paragraph.What.TheOpen.{What-F}
use Rattle.doc_model.specs.declared.paragraph.What.TheViews.{out-roll-What, roll-out-Item, roll-out-What}
use Rattle.doc_model.specs.Parts.{is_mark}
use Rattle.load_model.specs.Content.{Raw, Blank, Read, is_nearest_solid, is_passing, is_solid, is_white, item_in, items_behind, items_of_raw, raw_character}
use Rattle.back_text_places.specs.Bare.{bare_raw, bare_raws, unnumbered_par}

abbrev pub bare : Item → Item
bare item = in_note unnumbered_par item

abbrev pub bare_items : Bool → List Item → List Item
bare_items true items = items
bare_items false items = map bare items

-- what isn't a note stays as it is
pub char_stays : (spans : List (List ℕ)) (c : ℕ) → bare (item_in spans (What-F.Char c)) ≡ item_in spans (What-F.Char c)
char_stays spans c = simp out-roll-What

pub tab_stays : (spans : List (List ℕ)) → bare (item_in spans What-F.Tab) ≡ item_in spans What-F.Tab
tab_stays spans = simp out-roll-What

pub break_stays : (spans : List (List ℕ)) → bare (item_in spans What-F.Break) ≡ item_in spans What-F.Break
break_stays spans = simp out-roll-What

pub field_stays : (spans : List (List ℕ)) (field : Field) → bare (item_in spans (What-F.Field field)) ≡ item_in spans (What-F.Field field)
field_stays spans field = simp out-roll-What

pub mark_stays : (spans : List (List ℕ)) (mark : Mark) → bare (item_in spans (What-F.Mark mark)) ≡ item_in spans (What-F.Mark mark)
mark_stays spans mark = simp out-roll-What

pub spaces_stay : (spans : List (List ℕ)) (count : ℕ) → map bare_raw (map Read (replicate count (item_in spans (What-F.Char 0x20)))) ≡ map Read (replicate count (item_in spans (What-F.Char 0x20)))
spaces_stay spans zero = refl
spaces_stay spans (suc count) = ap₂ (λ (first : Item) (more : List Raw). Read first ∷ more) (char_stays spans 0x20) (spaces_stay spans count)

pub character_stays : (spans : List (List ℕ)) (c : ℕ) → bare_raw (raw_character spans c) ≡ raw_character spans c
character_stays spans c = by_white (is_white c) where
  by_white : (b : Bool) → bare_raw (cond b (Blank spans) (Read (item_in spans (What-F.Char c)))) ≡ cond b (Blank spans) (Read (item_in spans (What-F.Char c)))
  by_white true = refl
  by_white false = ap Read (char_stays spans c)

-- a mark stays a mark
mark_kind : (spans : List (List ℕ)) (what : What-F What Item Note Par) → is_mark (bare (item_in spans what)) ≡ is_mark (item_in spans what)
mark_kind spans (What-F.Char c) = simp out-roll-What
mark_kind spans What-F.Tab = simp out-roll-What
mark_kind spans What-F.Break = simp out-roll-What
mark_kind spans (What-F.Field field) = simp out-roll-What
mark_kind spans (What-F.Note note) = simp out-roll-What
mark_kind spans (What-F.Mark mark) = simp out-roll-What

item_is : (item : Item) → item_in (out-Item item).spans (out-What (out-Item item).what) ≡ item
item_is item = ap (λ (what : What). roll-Item (record (out-Item item) { what = what })) (roll-out-What (out-Item item).what) ∙ roll-out-Item item

mark_same : (item : Item) → is_mark (bare item) ≡ is_mark item
mark_same item = ap (λ (one : Item). is_mark (bare one)) (sym (item_is item)) ∙ mark_kind (out-Item item).spans (out-What (out-Item item).what) ∙ ap is_mark (item_is item)

solid_same : (raw : Raw) → is_solid (bare_raw raw) ≡ is_solid raw
solid_same (Blank spans) = refl
solid_same (Read item) = ap not (mark_same item)

passing_same : (raw : Raw) → is_passing (bare_raw raw) ≡ is_passing raw
passing_same (Blank spans) = refl
passing_same (Read item) = mark_same item

-- the nearest that isn't a mark
abbrev near : List Raw → Bool
near [] = false
near (raw ∷ more) = is_solid raw

nearest_is : (before : List Raw) → is_nearest_solid before ≡ near (filter (λ raw. not (is_passing raw)) before)
nearest_is before = by_list (filter (λ raw. not (is_passing raw)) before) refl where
  by_list : (found : List Raw) → filter (λ raw. not (is_passing raw)) before ≡ found → is_nearest_solid before ≡ near (filter (λ raw. not (is_passing raw)) before)
  by_list [] e = rw e refl
  by_list (raw ∷ more) e = rw e refl

left_same : (before : List Raw) → filter (λ raw. not (is_passing raw)) (map bare_raw before) ≡ map bare_raw (filter (λ raw. not (is_passing raw)) before)
left_same [] = refl
left_same (raw ∷ before) = ap₂ (λ (b : Bool) (more : List Raw). cond (not b) (bare_raw raw ∷ more) more) (passing_same raw) (left_same before) ∙ by_test (is_passing raw) where
  by_test : (b : Bool) → cond (not b) (bare_raw raw ∷ map bare_raw (filter (λ one. not (is_passing one)) before)) (map bare_raw (filter (λ one. not (is_passing one)) before))
      ≡ map bare_raw (cond (not b) (raw ∷ filter (λ one. not (is_passing one)) before) (filter (λ one. not (is_passing one)) before))
  by_test true = refl
  by_test false = refl

near_same : (raws : List Raw) → near (map bare_raw raws) ≡ near raws
near_same [] = refl
near_same (raw ∷ raws) = solid_same raw

nearest_same : (before : List Raw) → is_nearest_solid (map bare_raw before) ≡ is_nearest_solid before
nearest_same before = nearest_is (map bare_raw before) ∙ ap near (left_same before) ∙ near_same (filter (λ raw. not (is_passing raw)) before) ∙ sym (nearest_is before)

any_same : (after : List Raw) → list_any is_solid (map bare_raw after) ≡ list_any is_solid after
any_same [] = refl
any_same (raw ∷ after) = ap₂ (λ (one more : Bool). one || more) (solid_same raw) (any_same after)

behind_same : (before after : List Raw) → items_behind (map bare_raw before) (map bare_raw after) ≡ map bare (items_behind before after)
behind_same before [] = refl
behind_same before (Read item ∷ after) = ap (λ (more : List Item). bare item ∷ more) (behind_same (Read item ∷ before) after)
behind_same before (Blank spans ∷ after) =
    ap₂ (λ (near solid : Bool). by_test (near && solid) (items_behind (map bare_raw (Blank spans ∷ before)) (map bare_raw after))) (nearest_same before) (any_same after)
    ∙ ap (by_test (is_nearest_solid before && list_any is_solid after)) (behind_same (Blank spans ∷ before) after)
    ∙ last (is_nearest_solid before && list_any is_solid after) (items_behind (Blank spans ∷ before) after)
  where
    by_test : Bool → List Item → List Item
    by_test stays more = cond stays (item_in spans (What-F.Char 0x20) ∷ more) more

    last : (stays : Bool) (more : List Item) → by_test stays (map bare more) ≡ map bare (by_test stays more)
    last true more = ap (λ (first : Item). first ∷ map bare more) (sym (char_stays spans 0x20))
    last false more = refl

pub items_same : (within : Bool) (raws : List Raw) → items_of_raw (bare_raws within raws) ≡ bare_items within (items_of_raw raws)
items_same true raws = refl
items_same false raws = behind_same [] raws
