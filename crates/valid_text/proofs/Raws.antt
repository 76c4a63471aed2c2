-- Characters, and the items of what is read in a paragraph.
use Rattle.std.proofs.Common.{◌≡◌, ℕ, ◌≤◌, ◌&&◌, Bool, true, false, cond, List, [], ◌∷◌, map, replicate, zero, suc, inl, inr, refl, sym, ap, ◌∙◌, arith}
use Rattle.std.specs.List.{AllByRecursion as Each, list_any}
use Rattle.std.proofs.lemmas.Bool.{false≢true}
use Rattle.doc_model.specs.declared.paragraph.What.TheOpen.{What-F}
use Rattle.doc_model.specs.Chars.{IsLegal, IsLegalText}
use Rattle.load_model.specs.Content.{Raw, Blank, Read, is_nearest_solid, is_solid, is_white, item_in, items_behind, items_of_raw, raw_character, spaced}
use Rattle.valid_text.proofs.Good.{Text, AreSpans, IsGoodItem, IsGoodRaw, NoteOf, item_good, space_good}

-- a legal character that isn't white space is one from U+20 on
text_legal : (c : ℕ) → IsLegal c → is_white c ≡ false → IsLegalText c
text_legal c legal e = (legal, by_kind legal) where
  by_kind : IsLegal c → 0x20 ≤ c
  by_kind (inl h) = absurd (false≢true (sym e ∙ ap is_white h))
  by_kind (inr (inl h)) = absurd (false≢true (sym e ∙ ap is_white h))
  by_kind (inr (inr (inl h))) = absurd (false≢true (sym e ∙ ap is_white h))
  by_kind (inr (inr (inr (inl h)))) = h.0
  by_kind (inr (inr (inr (inr (inl h))))) = omega (arith, h.0)
  by_kind (inr (inr (inr (inr (inr h))))) = omega (arith, h.0)

pub space_legal : IsLegalText 0x20
space_legal = (inr (inr (inr (inl (omega arith, omega arith)))), omega arith)

-- where white space is spaces
pub spaced_legal : (text : List ℕ) → Each IsLegal text → Each IsLegalText (spaced text)
spaced_legal [] each = tt
spaced_legal (c ∷ text) each = (by_white (is_white c) refl, spaced_legal text each.1) where
  by_white : (b : Bool) → is_white c ≡ b → IsLegalText (cond b 0x20 c)
  by_white true e = space_legal
  by_white false e = text_legal c each.0 e

module _ (text : Text) (within : Bool) where
  -- a character
  pub character_good : (spans : List (List ℕ)) (c : ℕ) → AreSpans text spans → IsLegal c → IsGoodRaw text within (raw_character spans c)
  character_good spans c are legal = by_white (is_white c) refl where
    by_white : (b : Bool) → is_white c ≡ b → IsGoodRaw text within (cond b (Blank spans) (Read (item_in spans (What-F.Char c))))
    by_white true e = are
    by_white false e = item_good text (NoteOf text within) spans (What-F.Char c) are (text_legal c legal e)

  -- so many spaces
  pub spaces_good : (spans : List (List ℕ)) (count : ℕ) → AreSpans text spans → Each (IsGoodRaw text within) (map Read (replicate count (item_in spans (What-F.Char 0x20))))
  spaces_good spans zero are = tt
  spaces_good spans (suc count) are = (space_good text (NoteOf text within) spans are, spaces_good spans count are)

  behind_good : (before after : List Raw) → Each (IsGoodRaw text within) after → Each (IsGoodItem text (NoteOf text within)) (items_behind before after)
  behind_good before [] each = tt
  behind_good before (Read item ∷ after) each = (each.0, behind_good (Read item ∷ before) after each.1)
  behind_good before (Blank spans ∷ after) each = by_test (is_nearest_solid before && list_any is_solid after) (behind_good (Blank spans ∷ before) after each.1) where
    by_test : (b : Bool) → Each (IsGoodItem text (NoteOf text within)) (items_behind (Blank spans ∷ before) after)
        → Each (IsGoodItem text (NoteOf text within)) (cond b (item_in spans (What-F.Char 0x20) ∷ items_behind (Blank spans ∷ before) after) (items_behind (Blank spans ∷ before) after))
    by_test true rest = (space_good text (NoteOf text within) spans each.0, rest)
    by_test false rest = rest

  -- the items of what is read
  pub items_good : (raws : List Raw) → Each (IsGoodRaw text within) raws → Each (IsGoodItem text (NoteOf text within)) (items_of_raw raws)
  items_good raws each = behind_good [] raws each
