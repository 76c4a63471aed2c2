-- Pieces are read as their items.
use Rattle.std.proofs.Common.{◌≡◌, ℕ, ◌+◌, ◌≤◌, ◌==◌, Bool, true, false, not, ◌&&◌, ◌||◌, cond, List, [], ◌∷◌, ◌++◌, map, replicate, refl, sym, ap, ap₂, ◌∙◌, arith, add-one, bytes_eq}
use Rattle.std.specs.List.{flat_map, list_any, AllByRecursion as Each}
use Rattle.std.specs.Cmp.Lexicographic.{pointwise}
use Rattle.std.proofs.lemmas.Bool.{false≢true, eqb-true}
use Rattle.std.proofs.lemmas.Slice.Eq.{bytes_eq-Decides}
use Rattle.doc_model.specs.declared.paragraph.Par.{Par}
use Rattle.doc_model.specs.declared.paragraph.Item.{Item, out-Item, roll-Item}
use Rattle.doc_model.specs.declared.paragraph.Note.{Note}
use Rattle.doc_model.specs.declared.paragraph.What.{What, roll-What}
use Rattle.doc_model.specs.declared.paragraph.What.TheOpen.{What-F}
use Rattle.doc_model.specs.declared.paragraph.What.TheViews.{roll-out-Item, roll-out-What}
use Rattle.doc_model.specs.Chars.{IsLegalText}
use Rattle.doc_model.specs.Parts.{is_mark, what_of}
use Rattle.doc_model.specs.Valid.{IsItem}
use Rattle.load_model.specs.Content.{Raw, Blank, Read, is_nearest_solid, is_solid, is_white, item_in, items_behind, items_of_raw, raw_character}
use Rattle.spelling_model.specs.Spelling.{Piece, As, Spaces, Placed, behind_space, is_space, is_there, is_word, pieces_of, placed, stands_for_itself, without_marks}
use Rattle.back_spaces.specs.Raws.{raw_of, raws_of}

-- an item is what it opens to
pub whole : (item : Item) (what : What-F What Item Note Par) → what_of item ≡ what → item_in (out-Item item).spans what ≡ item
whole item what e =
    ap (λ (one : What). roll-Item (record { spans = (out-Item item).spans; what = one })) (ap roll-What (sym e) ∙ roll-out-What (out-Item item).what) ∙ roll-out-Item item

-- white space from U+20 on is U+20
pub white : (c : ℕ) → 0x20 ≤ c → is_white c ≡ (c == 0x20)
white c from =
    let tab : (c == 0x9) ≡ false = grind (arith, from) in
    let feed : (c == 0xa) ≡ false = grind (arith, from) in
    let return : (c == 0xd) ≡ false = grind (arith, from) in
    rw (tab, feed, return) (either (c == 0x20)) where
      either : (b : Bool) → (b || false || false || false) ≡ b
      either true = refl
      either false = refl

read_by : (spans : List (List ℕ)) (c : ℕ) → 0x20 ≤ c → raw_character spans c ≡ cond (c == 0x20) (Blank spans) (Read (item_in spans (What-F.Char c)))
read_by spans c from = ap (λ (b : Bool). cond b (Blank spans) (Read (item_in spans (What-F.Char c)))) (white c from)

-- what an item is, by its kind
record IsOne (item : Item) : Type 0 where
  solid : is_space item ≡ false → raw_of item ≡ Read item
  blank : is_space item ≡ true → raw_of item ≡ Blank (out-Item item).spans
  space : is_space item ≡ true → item_in (out-Item item).spans (What-F.Char 0x20) ≡ item
  own : is_space item ≡ true → is_mark item ≡ false

-- a character is one from U+20 on
abbrev IsWhat : What-F What Item Note Par → Type 0
IsWhat (What-F.Char c) = IsLegalText c
IsWhat _ = Unit {0}

is_one : (item : Item) → IsItem item → IsOne item
is_one item is = by_what (what_of item) refl is.0 where
  by_what : (what : What-F What Item Note Par) → what_of item ≡ what → IsWhat what → IsOne item
  by_what (What-F.Char c) e legal = record {
    solid = λ other. rw e (read_by (out-Item item).spans c legal.1 ∙ ap (λ (b : Bool). cond b (Blank (out-Item item).spans) (Read (item_in (out-Item item).spans (What-F.Char c)))) (rw e at other) ∙ ap Read (whole item (What-F.Char c) e));
    blank = λ same. rw e (read_by (out-Item item).spans c legal.1 ∙ ap (λ (b : Bool). cond b (Blank (out-Item item).spans) (Read (item_in (out-Item item).spans (What-F.Char c)))) (rw e at same));
    space = λ same. ap (λ (d : ℕ). item_in (out-Item item).spans (What-F.Char d)) (sym (eqb-true c 0x20 (rw e at same))) ∙ whole item (What-F.Char c) e;
    own = λ same. rw e refl;
  }
  by_what What-F.Tab e legal = record { solid = λ other. rw e refl; blank = λ same. absurd (false≢true (rw e at same)); space = λ same. absurd (false≢true (rw e at same)); own = λ same. absurd (false≢true (rw e at same)) }
  by_what What-F.Break e legal = record { solid = λ other. rw e refl; blank = λ same. absurd (false≢true (rw e at same)); space = λ same. absurd (false≢true (rw e at same)); own = λ same. absurd (false≢true (rw e at same)) }
  by_what (What-F.Field field) e legal = record { solid = λ other. rw e refl; blank = λ same. absurd (false≢true (rw e at same)); space = λ same. absurd (false≢true (rw e at same)); own = λ same. absurd (false≢true (rw e at same)) }
  by_what (What-F.Note note) e legal = record { solid = λ other. rw e refl; blank = λ same. absurd (false≢true (rw e at same)); space = λ same. absurd (false≢true (rw e at same)); own = λ same. absurd (false≢true (rw e at same)) }
  by_what (What-F.Mark mark) e legal = record { solid = λ other. rw e refl; blank = λ same. absurd (false≢true (rw e at same)); space = λ same. absurd (false≢true (rw e at same)); own = λ same. absurd (false≢true (rw e at same)) }

-- what an item is read as in its place
abbrev raw_at : Placed → Raw
raw_at place = cond (is_space place.item && not (stands_for_itself place)) (Read place.item) (raw_of place.item)

abbrev raws_at : List Item → List Item → List Raw
raws_at before items = map raw_at (placed before items)

-- pieces are read place by place
same_spans : (one other : List (List ℕ)) → pointwise bytes_eq one other ≡ true → one ≡ other
same_spans [] [] e = refl
same_spans [] (y ∷ ys) e = absurd (false≢true e)
same_spans (x ∷ xs) [] e = absurd (false≢true e)
same_spans (x ∷ xs) (y ∷ ys) e = ap₂ (λ (z : List ℕ) (zs : List (List ℕ)). z ∷ zs) ((bytes_eq-Decides x y).0 (first (bytes_eq x y) (pointwise bytes_eq xs ys) e)) (same_spans xs ys (second (bytes_eq x y) (pointwise bytes_eq xs ys) e)) where
  first : (a b : Bool) → (a && b) ≡ true → a ≡ true
  first true b f = refl
  first false b f = absurd (false≢true f)

  second : (a b : Bool) → (a && b) ≡ true → b ≡ true
  second true b f = f
  second false b f = absurd (false≢true f)

behind_raws : (spans : List (List ℕ)) (pieces : List Piece) → flat_map raws_of (behind_space spans pieces) ≡ Read (item_in spans (What-F.Char 0x20)) ∷ flat_map raws_of pieces
behind_raws spans [] = refl
behind_raws spans (As item ∷ pieces) = refl
behind_raws spans (Spaces others count ∷ pieces) = by_test (pointwise bytes_eq spans others) refl where
  by_test : (same : Bool) → pointwise bytes_eq spans others ≡ same → flat_map raws_of (behind_space spans (Spaces others count ∷ pieces)) ≡ Read (item_in spans (What-F.Char 0x20)) ∷ flat_map raws_of (Spaces others count ∷ pieces)
  by_test true e =
      ap (λ (b : Bool). flat_map raws_of (cond b (Spaces spans (count + 1) ∷ pieces) (Spaces spans 1 ∷ Spaces others count ∷ pieces))) e
      ∙ ap (λ (n : ℕ). replicate n (Read (item_in spans (What-F.Char 0x20))) ++ flat_map raws_of pieces) (add-one count)
      ∙ ap (λ (names : List (List ℕ)). Read (item_in spans (What-F.Char 0x20)) ∷ (replicate count (Read (item_in names (What-F.Char 0x20))) ++ flat_map raws_of pieces)) (same_spans spans others e)
  by_test false e = ap (λ (b : Bool). flat_map raws_of (cond b (Spaces spans (count + 1) ∷ pieces) (Spaces spans 1 ∷ Spaces others count ∷ pieces))) e

pieces_raws : (before items : List Item) → Each IsItem items → flat_map raws_of (pieces_of (placed before items)) ≡ raws_at before items
pieces_raws before [] each = refl
pieces_raws before (item ∷ after) each = by_space (pieces_raws (item ∷ before) after each.1) (is_space item) refl where
  place : Placed
  place = record { before = before; item = item; after = after }

  by_stands : flat_map raws_of (pieces_of (placed (item ∷ before) after)) ≡ raws_at (item ∷ before) after → (stands : Bool) → is_space item ≡ true → stands_for_itself place ≡ stands
      → flat_map raws_of (pieces_of (placed before (item ∷ after))) ≡ raws_at before (item ∷ after)
  by_stands more true e f = rw (e, f) (ap (λ (rest : List Raw). raw_of item ∷ rest) more)
  by_stands more false e f = rw (e, f) (behind_raws (out-Item item).spans (pieces_of (placed (item ∷ before) after)) ∙ ap₂ (λ (one : Item) (rest : List Raw). Read one ∷ rest) ((is_one item each.0).space e) more)

  by_space : flat_map raws_of (pieces_of (placed (item ∷ before) after)) ≡ raws_at (item ∷ before) after → (space : Bool) → is_space item ≡ space
      → flat_map raws_of (pieces_of (placed before (item ∷ after))) ≡ raws_at before (item ∷ after)
  by_space more false e = rw e (ap (λ (rest : List Raw). raw_of item ∷ rest) more)
  by_space more true e = by_stands more (stands_for_itself place) e refl

-- the nearest item before a place tells whether the nearest thing that was read ends a run of spaces
abbrev Tells : List Item → List Raw → Type 0
Tells before raws = is_word (without_marks before) ≡ true → is_nearest_solid raws ≡ true

-- where an item that isn't a mark stands behind a space, something behind it is read as one
some_solid : (before items : List Item) → Each IsItem items → is_word (without_marks before) ≡ false → is_there (without_marks items) ≡ true → list_any is_solid (raws_at before items) ≡ true
some_solid before [] each none there = absurd (false≢true there)
some_solid before (item ∷ after) each none there = by_mark (λ none_before there_behind. some_solid (item ∷ before) after each.1 none_before there_behind) (is_mark item) refl where
  rest : Bool
  rest = list_any is_solid (raws_at (item ∷ before) after)

  stays : stands_for_itself (record { before = before; item = item; after = after }) ≡ false
  stays = ap (λ (b : Bool). b && is_there (without_marks after)) none

  own : (space : Bool) → is_space item ≡ space → raw_at (record { before = before; item = item; after = after }) ≡ Read item
  own true e = rw (e, stays) refl
  own false e = rw e ((is_one item each.0).solid e)

  is_read : (is_solid (raw_at (record { before = before; item = item; after = after })) || rest) ≡ (not (is_mark item) || rest)
  is_read = ap (λ (raw : Raw). is_solid raw || rest) (own (is_space item) refl)

  by_mark : (is_word (without_marks (item ∷ before)) ≡ false → is_there (without_marks after) ≡ true → list_any is_solid (raws_at (item ∷ before) after) ≡ true) → (mark : Bool) → is_mark item ≡ mark
      → list_any is_solid (raws_at before (item ∷ after)) ≡ true
  by_mark behind false m = is_read ∙ ap (λ (b : Bool). not b || rest) m
  by_mark behind true m =
      is_read ∙ ap (λ (b : Bool). not b || rest) m
      ∙ behind (ap (λ (b : Bool). is_word (cond (not b) (item ∷ without_marks before) (without_marks before))) m ∙ none)
      (sym (ap (λ (b : Bool). is_there (cond (not b) (item ∷ without_marks after) (without_marks after))) m) ∙ there)

-- one more thing that was read
tells_item : (item : Item) (before : List Item) (raws : List Raw) → is_space item ≡ false → Tells before raws → Tells (item ∷ before) (Read item ∷ raws)
tells_item item before raws other tells = by_mark (is_mark item) refl where
  by_mark : (mark : Bool) → is_mark item ≡ mark → Tells (item ∷ before) (Read item ∷ raws)
  by_mark true m = λ word. rw m (tells (rw m at word))
  by_mark false m = λ word. rw (m, m) refl

tells_space : (item : Item) (before : List Item) (raws : List Raw) → is_space item ≡ true → is_mark item ≡ false → Tells (item ∷ before) raws
tells_space item before raws space own = λ word. absurd (false≢true (rw (own, space) at word))

back_from : (raws : List Raw) (before items : List Item) → Each IsItem items → Tells before raws → items_behind raws (raws_at before items) ≡ items
back_from raws before [] each tells = refl
back_from raws before (item ∷ after) each tells = by_space (λ more told. back_from more (item ∷ before) after each.1 told) (is_space item) refl where
  place : Placed
  place = record { before = before; item = item; after = after }

  rest : List Raw
  rest = raws_at (item ∷ before) after

  as_item : ((more : List Raw) → Tells (item ∷ before) more → items_behind more rest ≡ after) → raw_at place ≡ Read item → Tells (item ∷ before) (Read item ∷ raws) → items_behind raws (raws_at before (item ∷ after)) ≡ item ∷ after
  as_item behind e more = ap (λ (raw : Raw). items_behind raws (raw ∷ rest)) e ∙ ap (λ (items : List Item). item ∷ items) (behind (Read item ∷ raws) more)

  as_blank : ((more : List Raw) → Tells (item ∷ before) more → items_behind more rest ≡ after) → is_space item ≡ true → is_word (without_marks before) ≡ true → is_there (without_marks after) ≡ true → items_behind raws (raw_of item ∷ rest) ≡ item ∷ after
  as_blank behind space word there =
      let solid : list_any is_solid rest ≡ true = some_solid (item ∷ before) after each.1 (ap₂ (λ (mark same : Bool). is_word (cond (not mark) (item ∷ without_marks before) (without_marks before))) ((is_one item each.0).own space) space ∙ ap not space) there in
      ap (λ (raw : Raw). items_behind raws (raw ∷ rest)) ((is_one item each.0).blank space)
      ∙ ap₂ (λ (one other : Bool). cond (one && other) (item_in (out-Item item).spans (What-F.Char 0x20) ∷ items_behind (Blank (out-Item item).spans ∷ raws) rest) (items_behind (Blank (out-Item item).spans ∷ raws) rest)) (tells word) solid
      ∙ ap₂ (λ (one : Item) (items : List Item). one ∷ items) ((is_one item each.0).space space)
      (behind (Blank (out-Item item).spans ∷ raws) (tells_space item before (Blank (out-Item item).spans ∷ raws) space ((is_one item each.0).own space)))

  two_true : (a b : Bool) → (a && b) ≡ true → (a ≡ true) × (b ≡ true)
  two_true true b e = (refl, e)
  two_true false b e = absurd (false≢true e)

  by_stands : ((more : List Raw) → Tells (item ∷ before) more → items_behind more rest ≡ after) → (stands : Bool) → is_space item ≡ true → stands_for_itself place ≡ stands → items_behind raws (raws_at before (item ∷ after)) ≡ item ∷ after
  by_stands behind false e f = as_item behind (rw (e, f) refl) (tells_space item before (Read item ∷ raws) e ((is_one item each.0).own e))
  by_stands behind true e f =
      let both = two_true (is_word (without_marks before)) (is_there (without_marks after)) f in
      ap (λ (raw : Raw). items_behind raws (raw ∷ rest)) (ap₂ (λ (space stands : Bool). cond (space && not stands) (Read item) (raw_of item)) e f) ∙ as_blank behind e both.0 both.1

  by_space : ((more : List Raw) → Tells (item ∷ before) more → items_behind more rest ≡ after) → (space : Bool) → is_space item ≡ space → items_behind raws (raws_at before (item ∷ after)) ≡ item ∷ after
  by_space behind false e = as_item behind (ap (λ (space : Bool). cond (space && not (stands_for_itself place)) (Read item) (raw_of item)) e ∙ (is_one item each.0).solid e) (tells_item item before raws e tells)
  by_space behind true e = by_stands behind (stands_for_itself place) e refl

pub spaces_back : (items : List Item) → Each IsItem items → items_of_raw (flat_map raws_of (pieces_of (placed [] items))) ≡ items
spaces_back items each = ap items_of_raw (pieces_raws [] items each) ∙ back_from [] [] items each (λ word. absurd (false≢true word))
