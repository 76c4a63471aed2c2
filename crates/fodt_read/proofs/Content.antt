-- A paragraph's characters, read from the front of its content.
use Rattle.std.proofs.Common.{◌≡◌, ◌≢◌, ℕ, ◌+◌, ◌≤◌, ◌<◌, false, List, [], ◌∷◌, ◌++◌, length, take, drop, get_or, refl, ap, sym, ◌∙◌, subst, arith, zero, suc, append_assoc, append-nil, inl, inr, Bool, length-append}
use Rattle.std.specs.Prelude.{◌⊎◌, replicate}
use Rattle.std.specs.List.{AllByRecursion as Each}
use Rattle.std.proofs.lemmas.List.{append_cancel_left, length-replicate}
use Rattle.doc_model.specs.Chars.{IsPlainChar}
use Rattle.spelling_model.specs.declared.pieces.TheConstants.{EMPTY_PARAGRAPH, PARAGRAPH}
use Rattle.spelling_model.specs.Spelling.{escaped, spaces, empty_paragraph, paragraph_start, paragraph_end}
use Rattle.plain_doc.specs.PlainSpelling.{plain_content, plain_paragraph_bytes}
use Rattle.fodt_read.specs.PlainText.{IsUnmarked, IsEntity, IsPlainText}
use Rattle.fodt_read.proofs.Pieces.{Single, Waiting, next, escaped_cases, entity_front, spaces_front, spaces_second}

-- of the characters some are read, and the others are spelled by the rest
pub record Reads (chars more text rest : List ℕ) : Type 0 where
  pub after_word : Bool
  pub left : List ℕ
  pub all : chars ≡ text ++ left
  pub plain : Each IsPlainChar left
  pub spelled : rest ≡ plain_content 0 after_word left ++ (paragraph_end ++ more)

-- at the start
pub reads_all : (chars more bytes : List ℕ) → IsPlainText chars → bytes ≡ plain_content 0 false chars ++ (paragraph_end ++ more) → Reads chars more [] bytes
reads_all chars more bytes plain e = record { after_word = false; left = chars; all = refl; plain = plain.characters; spelled = e }

-- what the rest begins with: the end tag, a character that stands for itself, an entity or waiting spaces
pub record Ends (chars more text rest : List ℕ) : Type 0 where
  pub all : chars ≡ text
  pub spelled : rest ≡ paragraph_end ++ more

pub record Piece (chars more text rest : List ℕ) (spelling piece : List ℕ) : Type 0 where
  pub after : List ℕ
  pub spelled : rest ≡ spelling ++ after
  pub reads : Reads chars more (text ++ piece) after

pub record One (chars more text rest : List ℕ) : Type 0 where
  pub c : ℕ
  pub unmarked : IsUnmarked c
  pub piece : Piece chars more text rest (c ∷ []) (c ∷ [])

pub record Entity (chars more text rest : List ℕ) : Type 0 where
  pub c : ℕ
  pub entity : IsEntity c
  pub piece : Piece chars more text rest (escaped c) (c ∷ [])

pub record Spaces (chars more text rest : List ℕ) : Type 0 where
  pub count : ℕ
  pub some : 1 ≤ count
  pub most : count ≤ length chars
  pub piece : Piece chars more text rest (spaces count) (replicate count 0x20)

abbrev pub Begins : List ℕ → List ℕ → List ℕ → List ℕ → Type 0
Begins chars more text rest = Ends chars more text rest ⊎ One chars more text rest ⊎ Entity chars more text rest ⊎ Spaces chars more text rest

piece_of : (chars more text rest spelling piece left : List ℕ) (after_word : Bool) → chars ≡ text ++ (piece ++ left) → Each IsPlainChar left
    → rest ≡ (spelling ++ plain_content 0 after_word left) ++ (paragraph_end ++ more) → Piece chars more text rest spelling piece
piece_of chars more text rest spelling piece left after_word all plain spelled = record {
  after = plain_content 0 after_word left ++ (paragraph_end ++ more);
  spelled = spelled ∙ append_assoc spelling (plain_content 0 after_word left) (paragraph_end ++ more);
  reads = record {
    after_word = after_word;
    left = left;
    all = all ∙ sym (append_assoc text piece left);
    plain = plain;
    spelled = refl;
  };
}

plain_behind : (xs ys : List ℕ) → Each IsPlainChar (xs ++ ys) → Each IsPlainChar ys
plain_behind [] ys each = each
plain_behind (x ∷ xs) ys each = plain_behind xs ys each.1

begins_single : (chars more text rest : List ℕ) (c : ℕ) (cs bytes : List ℕ) → chars ≡ text ++ c ∷ cs → IsPlainChar c → Each IsPlainChar cs
    → rest ≡ bytes ++ (paragraph_end ++ more) → Single c cs bytes → Begins chars more text rest
begins_single chars more text rest c cs bytes all here plain spelled single =
    let spelling : rest ≡ (escaped c ++ plain_content 0 single.after_word cs) ++ (paragraph_end ++ more) =
    spelled ∙ ap (λ (xs : List ℕ). xs ++ (paragraph_end ++ more)) single.spelled in
    elim (escaped_cases c here) [
      | inl entity ↦ inr (inr (inl (record { c = c; entity = entity; piece = piece_of chars more text rest (escaped c) (c ∷ []) cs single.after_word all plain spelling })))
      | inr self ↦ inr (inl (record {
        c = c;
        unmarked = self.0;
        piece = piece_of chars more text rest (c ∷ []) (c ∷ []) cs single.after_word all plain (spelling ∙ ap (λ (xs : List ℕ). (xs ++ plain_content 0 single.after_word cs) ++ (paragraph_end ++ more)) self.1);
      }))
    ]

begins_waiting : (chars more text rest left bytes : List ℕ) → chars ≡ text ++ left → Each IsPlainChar left
    → rest ≡ bytes ++ (paragraph_end ++ more) → Waiting left bytes → Begins chars more text rest
begins_waiting chars more text rest left bytes all plain spelled waiting =
    let spelling : rest ≡ (spaces waiting.count ++ plain_content 0 false waiting.left) ++ (paragraph_end ++ more) =
    spelled ∙ ap (λ (xs : List ℕ). xs ++ (paragraph_end ++ more)) waiting.spelled in
    let all' : chars ≡ text ++ (replicate waiting.count 0x20 ++ waiting.left) = all ∙ ap (λ (xs : List ℕ). text ++ xs) waiting.all in
    inr (inr (inr (record {
      count = waiting.count;
      some = waiting.some;
      most = omega (arith, ap (length {A = ℕ}) all', length-append text (replicate waiting.count 0x20 ++ waiting.left), length-append (replicate waiting.count 0x20) waiting.left, length-replicate {A = ℕ} waiting.count 0x20);
      piece = piece_of chars more text rest (spaces waiting.count) (replicate waiting.count 0x20) waiting.left false all'
          (plain_behind (replicate waiting.count 0x20) waiting.left (subst (λ (xs : List ℕ). Each IsPlainChar xs) waiting.all plain)) spelling;
    })))

begins_by : (chars more text rest : List ℕ) (after_word : Bool) (left : List ℕ) → chars ≡ text ++ left → Each IsPlainChar left
    → rest ≡ plain_content 0 after_word left ++ (paragraph_end ++ more) → Begins chars more text rest
unfolding spaces
begins_by chars more text rest after_word [] all plain spelled = inl (record { all = all ∙ append-nil text; spelled = spelled })
begins_by chars more text rest after_word (c ∷ cs) all plain spelled =
    elim (next after_word c cs) [
      | inl single ↦ begins_single chars more text rest c cs (plain_content 0 after_word (c ∷ cs)) all plain.0 plain.1 spelled single
      | inr waiting ↦ begins_waiting chars more text rest (c ∷ cs) (plain_content 0 after_word (c ∷ cs)) all plain spelled waiting
    ]

pub begins : (chars more text rest : List ℕ) → Reads chars more text rest → Begins chars more text rest
begins chars more text rest reads = begins_by chars more text rest reads.after_word reads.left reads.all reads.plain reads.spelled

-- the first byte of an end tag, and its second
end_front : (more : List ℕ) → (get_or (paragraph_end ++ more) 0 0 ≡ 0x3c) × (get_or (paragraph_end ++ more) 1 0 ≡ 0x2f)
unfolding paragraph_end
end_front more = (refl, refl)

same_first : (xs ys : List ℕ) (x y : ℕ) → xs ≡ ys → get_or xs 0 0 ≡ x → get_or ys 0 0 ≡ y → x ≡ y
same_first xs ys x y e at_x at_y = sym at_x ∙ ap (λ (zs : List ℕ). get_or zs 0 0) e ∙ at_y

-- the end tag stands nowhere but at the end
pub reads_end : (chars more text rest after : List ℕ) → Reads chars more text rest → rest ≡ paragraph_end ++ after → (chars ≡ text) × (after ≡ more)
reads_end chars more text rest after reads e = elim (begins chars more text rest reads) [
  | inl ends ↦ (ends.all, append_cancel_left paragraph_end after more (sym e ∙ ends.spelled))
  | inr (inl one) ↦ absurd (one.unmarked.2 (same_first (one.c ∷ one.piece.after) (paragraph_end ++ after) one.c 0x3c (sym one.piece.spelled ∙ e) refl (end_front after).0))
  | inr (inr (inl entity)) ↦ absurd (omega (arith, same_first (escaped entity.c ++ entity.piece.after) (paragraph_end ++ after) 0x26 0x3c (sym entity.piece.spelled ∙ e) (entity_front entity.c entity.piece.after entity.entity) (end_front after).0))
  | inr (inr (inr some)) ↦ absurd (omega (arith, spaces_second some.count some.piece.after some.some, (end_front after).1, ap (λ (xs : List ℕ). get_or xs 1 0) (sym some.piece.spelled ∙ e)))
]

-- a byte that stands for itself is the next character
reads_one : (chars more text : List ℕ) (b : ℕ) (bs : List ℕ) → IsUnmarked b → Reads chars more text (b ∷ bs) → Reads chars more (text ++ b ∷ []) bs
reads_one chars more text b bs unmarked reads = elim (begins chars more text (b ∷ bs) reads) [
  | inl ends ↦ absurd (unmarked.2 (same_first (b ∷ bs) (paragraph_end ++ more) b 0x3c ends.spelled refl (end_front more).0))
  | inr (inl one) ↦
      let same : b ≡ one.c = ap (λ (xs : List ℕ). get_or xs 0 0) one.piece.spelled in
      let after : one.piece.after ≡ bs = sym (ap (λ (xs : List ℕ). drop 1 xs) one.piece.spelled) in
      subst (λ (xs : List ℕ). Reads chars more (text ++ b ∷ []) xs) after
      (subst (λ (x : ℕ). Reads chars more (text ++ x ∷ []) one.piece.after) (sym same) one.piece.reads)
  | inr (inr (inl entity)) ↦ absurd (unmarked.1 (same_first (b ∷ bs) (escaped entity.c ++ entity.piece.after) b 0x26 entity.piece.spelled refl (entity_front entity.c entity.piece.after entity.entity)))
  | inr (inr (inr some)) ↦ absurd (unmarked.2 (same_first (b ∷ bs) (spaces some.count ++ some.piece.after) b 0x3c some.piece.spelled refl (spaces_front some.count some.piece.after some.some)))
]

-- so are several
pub reads_run : (chars more text rest : List ℕ) (n : ℕ) → Each IsUnmarked (take n rest) → Reads chars more text rest → Reads chars more (text ++ take n rest) (drop n rest)
reads_run chars more text rest zero each reads = subst (λ (xs : List ℕ). Reads chars more xs rest) (sym (append-nil text)) reads
reads_run chars more text [] (suc n) each reads = subst (λ (xs : List ℕ). Reads chars more xs []) (sym (append-nil text)) reads
reads_run chars more text (b ∷ bs) (suc n) each reads =
    subst (λ (xs : List ℕ). Reads chars more xs (drop n bs)) (append_assoc text (b ∷ []) (take n bs))
    (reads_run chars more (text ++ b ∷ []) bs n each.1 (reads_one chars more text b bs each.0 reads))

-- where neither the end tag nor a byte that stands for itself is next, an entity or waiting spaces are
pub reads_escape : (chars more text rest : List ℕ) → ((after : List ℕ) → rest ≢ paragraph_end ++ after) → ((c : ℕ) (after : List ℕ) → rest ≡ c ∷ after → IsUnmarked c → ⊥)
    → Reads chars more text rest → Entity chars more text rest ⊎ Spaces chars more text rest
reads_escape chars more text rest no_end marked reads = elim (begins chars more text rest reads) [
  | inl ends ↦ absurd (no_end more ends.spelled)
  | inr (inl one) ↦ absurd (marked one.c one.piece.after one.piece.spelled one.unmarked)
  | inr (inr escape) ↦ escape
]

-- what is read is never longer than the characters
pub reads_within : (chars more text rest : List ℕ) → Reads chars more text rest → length text ≤ length chars
reads_within chars more text rest reads = omega (arith, ap (length {A = ℕ}) reads.all, length-append text reads.left)

-- the same, at equal texts
pub reads_at : (chars more text text' rest rest' : List ℕ) → text ≡ text' → rest ≡ rest' → Reads chars more text rest → Reads chars more text' rest'
reads_at chars more text text' rest rest' same_text same_rest reads =
    subst (λ (xs : List ℕ). Reads chars more text' xs) same_rest (subst (λ (xs : List ℕ). Reads chars more xs rest) same_text reads)

-- what is read where an entity or waiting spaces are next
pub reads_count : (chars more text rest after : List ℕ) (character count : ℕ) → IsPlainText chars
    → ((c : ℕ) (after' : List ℕ) → IsEntity c → rest ≡ escaped c ++ after' → (character ≡ c) × (count ≡ 1) × (after ≡ after'))
    → ((n : ℕ) (after' : List ℕ) → 1 ≤ n → n ≤ 32768 → rest ≡ spaces n ++ after' → (character ≡ 0x20) × (count ≡ n) × (after ≡ after'))
    → Entity chars more text rest ⊎ Spaces chars more text rest → Reads chars more (text ++ replicate count character) after
reads_count chars more text rest after character count plain of_entity of_spaces (inl entity) =
    let is = of_entity entity.c entity.piece.after entity.entity entity.piece.spelled in
    reads_at chars more (text ++ entity.c ∷ []) (text ++ replicate count character) entity.piece.after after
    (ap (λ (n : ℕ). text ++ replicate n entity.c) (sym is.1) ∙ ap (λ (c : ℕ). text ++ replicate count c) (sym is.0)) (sym is.2) entity.piece.reads
reads_count chars more text rest after character count plain of_entity of_spaces (inr some) =
    let most : some.count ≤ 32768 = omega (arith, some.most, plain.most) in
    let is = of_spaces some.count some.piece.after some.some most some.piece.spelled in
    reads_at chars more (text ++ replicate some.count 0x20) (text ++ replicate count character) some.piece.after after
    (ap (λ (n : ℕ). text ++ replicate n 0x20) (sym is.1) ∙ ap (λ (c : ℕ). text ++ replicate count c) (sym is.0)) (sym is.2) some.piece.reads

-- a paragraph that isn't empty
pub paragraph_spelled : (chars bytes more : List ℕ) → bytes ≡ plain_paragraph_bytes chars ++ more → ((rest : List ℕ) → bytes ≢ EMPTY_PARAGRAPH.now ++ rest)
    → bytes ≡ PARAGRAPH.now ++ (plain_content 0 false chars ++ (paragraph_end ++ more))
unfolding empty_paragraph paragraph_start
paragraph_spelled [] bytes more e not_empty = absurd (not_empty more e)
paragraph_spelled (c ∷ cs) bytes more e not_empty =
    e ∙ append_assoc (paragraph_start ++ plain_content 0 false (c ∷ cs)) paragraph_end more ∙ append_assoc paragraph_start (plain_content 0 false (c ∷ cs)) (paragraph_end ++ more)

-- an empty paragraph
pub paragraph_empty : (chars bytes more rest : List ℕ) → bytes ≡ plain_paragraph_bytes chars ++ more → bytes ≡ EMPTY_PARAGRAPH.now ++ rest → (rest ≡ more) × (chars ≡ [])
unfolding empty_paragraph paragraph_start
paragraph_empty [] bytes more rest e found = (append_cancel_left EMPTY_PARAGRAPH.now rest more (sym found ∙ e), refl)
paragraph_empty (c ∷ cs) bytes more rest e found = absurd (omega (arith, ap (λ (xs : List ℕ). get_or xs 7 0) (sym found ∙ e)))

-- where a run of characters that stand for themselves is read, and neither the end tag nor another of them is next
pub reads_marked : (chars more text text' rest run marked : List ℕ) (n : ℕ) → run ≡ take n rest → marked ≡ drop n rest → text' ≡ text ++ run → Each IsUnmarked (take n rest)
    → ((c : ℕ) (after : List ℕ) → drop n rest ≡ c ∷ after → IsUnmarked c → ⊥) → ((after : List ℕ) → marked ≢ paragraph_end ++ after)
    → Reads chars more text rest → Entity chars more text' marked ⊎ Spaces chars more text' marked
reads_marked chars more text text' rest run marked n run_is marked_is text_is each stop no_end reads =
    reads_escape chars more text' marked no_end (λ c after e. stop c after (sym marked_is ∙ e))
    (reads_at chars more (text ++ take n rest) text' (drop n rest) marked (ap (λ (xs : List ℕ). text ++ xs) (sym run_is) ∙ sym text_is) (sym marked_is)
    (reads_run chars more text rest n each reads))

-- what is read has room
pub room : (chars more text rest read : List ℕ) → IsPlainText chars → Reads chars more (text ++ read) rest → 32768 < length text + length read → ⊥
room chars more text rest read plain reads long = absurd (omega (arith, reads_within chars more (text ++ read) rest reads, plain.most, length-append text read))
