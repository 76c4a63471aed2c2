-- The paragraphs of a document, read from the front of its body.
use Rattle.std.proofs.Common.{◌≡◌, ◌≢◌, ℕ, ◌+◌, ◌≤◌, ◌<◌, List, [], ◌∷◌, ◌++◌, length, get_or, refl, ap, sym, ◌∙◌, subst, arith, suc, append_assoc, append-nil, add-zero, length-append}
use Rattle.std.specs.Prelude.{sum_by}
use Rattle.std.specs.List.{AllByRecursion as Each, flat_map}
use Rattle.std.proofs.lemmas.List.{nil_from_length}
use Rattle.std.proofs.lemmas.List.Sums.{sum_by-append, sum_by-cons}
use Rattle.doc_model.specs.declared.block.Block.{Block, roll-Block}
use Rattle.doc_model.specs.declared.block.Block.TheOpen.{Block-F}
use Rattle.doc_model.specs.Chars.{IsPlainChar}
use Rattle.doc_model.specs.Plain.{plain_blocks, plain_paragraph}
use Rattle.spelling_model.specs.Spelling.{tail, empty_paragraph, paragraph_start}
use Rattle.plain_doc.specs.PlainSpelling.{plain_paragraph_bytes}
use Rattle.fodt_read.specs.PlainText.{IsPlainText, ArePlain}
use Rattle.fodt_read.proofs.Runs.{Each-append, Each-of}

-- the block of a paragraph
abbrev pub block_of : ℕ → List ℕ → Block
block_of number text = roll-Block (Block-F.Par (plain_paragraph number text))

pub length-plain_blocks : (number : ℕ) (texts : List (List ℕ)) → length (plain_blocks number texts) ≡ length texts
length-plain_blocks number [] = refl
length-plain_blocks number (text ∷ texts) = ap suc (length-plain_blocks (number + 1) texts)

pub plain_blocks-push : (number : ℕ) (texts : List (List ℕ)) (text : List ℕ) → plain_blocks number (texts ++ text ∷ []) ≡ plain_blocks number texts ++ block_of (number + length texts) text ∷ []
plain_blocks-push number [] text = ap (λ (n : ℕ). block_of n text ∷ []) (sym (add-zero number))
plain_blocks-push number (first ∷ texts) text =
    let sum : number + 1 + length texts ≡ number + suc (length texts) = omega arith in
    ap (λ (blocks : List Block). block_of number first ∷ blocks)
    (plain_blocks-push (number + 1) texts text ∙ ap (λ (n : ℕ). plain_blocks (number + 1) texts ++ block_of n text ∷ []) sum)

-- of all texts some are read, and the others are spelled by the rest
pub record Left (texts all : List (List ℕ)) (rest : List ℕ) : Type 0 where
  pub after : List (List ℕ)
  pub are : all ≡ texts ++ after
  pub plain : Each IsPlainText after
  pub spelled : rest ≡ flat_map plain_paragraph_bytes after ++ tail

-- some texts are read, and where those of a document are spelled, the others are left
pub record Seen (bytes : List ℕ) (blocks : List Block) (characters : ℕ) (rest : List ℕ) : Type 0 where
  pub texts : List (List ℕ)
  pub blocks_are : blocks ≡ plain_blocks 1 texts
  pub plain : Each IsPlainText texts
  pub few : length texts ≤ 65536
  pub sum : sum_by (length {A = ℕ}) texts ≡ characters
  pub most : characters ≤ 4194304
  pub left : (all : List (List ℕ)) → ArePlain all → bytes ≡ flat_map plain_paragraph_bytes all ++ tail → Left texts all rest

each_plain : (texts : List (List ℕ)) → Each (Each IsPlainChar) texts → Each (λ (text : List ℕ). length text ≤ 32768) texts → Each IsPlainText texts
each_plain [] characters most = tt
each_plain (text ∷ texts) characters most = (record { characters = characters.0; most = most.0 }, each_plain texts characters.1 most.1)

pub seen_none : (bytes : List ℕ) (blocks : List Block) → blocks ≡ [] → Seen bytes blocks 0 bytes
seen_none bytes blocks none = record {
  texts = [];
  blocks_are = none;
  plain = tt;
  few = omega arith;
  sum = refl;
  most = omega arith;
  left = λ all plain e. record {
    after = all;
    are = refl;
    plain = each_plain all plain.characters plain.within.items_of_paragraph;
    spelled = e;
  };
}

-- the second byte of a paragraph, which is that of no tail
paragraph_second : (text more : List ℕ) → get_or (plain_paragraph_bytes text ++ more) 1 0 ≡ 0x74
unfolding empty_paragraph paragraph_start
paragraph_second [] more = refl
paragraph_second (c ∷ cs) more = refl

tail_second : get_or tail 1 0 ≡ 0x2f
unfolding tail
tail_second = refl

-- the text that is next
pub record Next (texts all : List (List ℕ)) (rest : List ℕ) : Type 0 where
  pub text : List ℕ
  pub after : List ℕ
  pub plain : IsPlainText text
  pub spelled : rest ≡ plain_paragraph_bytes text ++ after
  pub left : Left (texts ++ text ∷ []) all after

next_of : (texts all : List (List ℕ)) (rest : List ℕ) (after : List (List ℕ)) → all ≡ texts ++ after → Each IsPlainText after → rest ≡ flat_map plain_paragraph_bytes after ++ tail → rest ≢ tail → Next texts all rest
next_of texts all rest [] are plain spelled more = absurd (more spelled)
next_of texts all rest (text ∷ after) are plain spelled more = record {
  text = text;
  after = flat_map plain_paragraph_bytes after ++ tail;
  plain = plain.0;
  spelled = spelled ∙ append_assoc (plain_paragraph_bytes text) (flat_map plain_paragraph_bytes after) tail;
  left = record {
    after = after;
    are = are ∙ sym (append_assoc texts (text ∷ []) after);
    plain = plain.1;
    spelled = refl;
  };
}

-- before the tail there is a next text
pub next_text : (texts all : List (List ℕ)) (rest : List ℕ) → Left texts all rest → rest ≢ tail → Next texts all rest
next_text texts all rest left more = next_of texts all rest left.after left.are left.plain left.spelled more

all_of : (texts all : List (List ℕ)) (rest : List ℕ) (after : List (List ℕ)) → all ≡ texts ++ after → rest ≡ flat_map plain_paragraph_bytes after ++ tail → rest ≡ tail → all ≡ texts
all_of texts all rest [] are spelled end = are ∙ append-nil texts
all_of texts all rest (text ∷ after) are spelled end =
    absurd (omega (
      arith,
      tail_second,
      paragraph_second text (flat_map plain_paragraph_bytes after ++ tail),
      ap (λ (xs : List ℕ). get_or xs 1 0) (sym end ∙ spelled ∙ append_assoc (plain_paragraph_bytes text) (flat_map plain_paragraph_bytes after) tail),
    ))

-- at the tail all are read
pub all_read : (texts all : List (List ℕ)) (rest : List ℕ) → Left texts all rest → rest ≡ tail → all ≡ texts
all_read texts all rest left end = all_of texts all rest left.after left.are left.spelled end

-- one more text is read: it is the one that is next where a document is spelled
pub seen_more : (bytes text rest after : List ℕ) (blocks blocks' : List Block) (characters : ℕ) → (seen : Seen bytes blocks characters rest) → IsPlainText text
    → length blocks < 65536 → characters + length text ≤ 4194304 → blocks' ≡ plain_blocks 1 (seen.texts ++ text ∷ []) → rest ≢ tail
    → ((chars more : List ℕ) → IsPlainText chars → rest ≡ plain_paragraph_bytes chars ++ more → (after ≡ more) × (text ≡ chars))
    → Seen bytes blocks' (characters + length text) after
seen_more bytes text rest after blocks blocks' characters seen plain few most are more read = record {
  texts = seen.texts ++ text ∷ [];
  blocks_are = are;
  plain = Each-append IsPlainText seen.texts (text ∷ []) seen.plain (plain, tt);
  few = omega (arith, length-append seen.texts (text ∷ []), ap (length {A = Block}) seen.blocks_are, length-plain_blocks 1 seen.texts);
  sum = omega (arith, sum_by-append (length {A = ℕ}) seen.texts (text ∷ []), sum_by-cons (length {A = ℕ}) text [], seen.sum);
  most = most;
  left = λ all fits e.
      let next = next_text seen.texts all rest (seen.left all fits e) more in
      let is = read next.text next.after next.plain next.spelled in
      subst (λ (xs : List ℕ). Left (seen.texts ++ xs ∷ []) all after) (sym is.1) (subst (λ (xs : List ℕ). Left (seen.texts ++ next.text ∷ []) all xs) (sym is.0) next.left);
}

-- as many texts are read as there are blocks
pub seen_count : (bytes rest : List ℕ) (blocks : List Block) (characters : ℕ) → (seen : Seen bytes blocks characters rest) → length seen.texts ≡ length blocks
seen_count bytes rest blocks characters seen = sym (ap (length {A = Block}) seen.blocks_are ∙ length-plain_blocks 1 seen.texts)

few_texts : (texts all after : List (List ℕ)) → ArePlain all → all ≡ texts ++ after → (length texts ≤ 65536) × (sum_by (length {A = ℕ}) texts ≤ 4194304)
few_texts texts all after fits are = (
  omega (arith, fits.within.paragraphs, ap (length {A = List ℕ}) are, length-append texts after),
  omega (arith, fits.within.items, ap (λ (xs : List (List ℕ)). sum_by (length {A = ℕ}) xs) are, sum_by-append (length {A = ℕ}) texts after),
)

-- the text that is next has room
pub record Room (blocks : List Block) (characters : ℕ) (texts all : List (List ℕ)) (rest : List ℕ) : Type 0 where
  pub next : Next texts all rest
  pub paragraphs : length blocks < 65536
  pub characters_fit : characters + length next.text ≤ 4194304

pub room_for_next : (bytes rest : List ℕ) (blocks : List Block) (characters : ℕ) → (seen : Seen bytes blocks characters rest) → (all : List (List ℕ)) → ArePlain all → bytes ≡ flat_map plain_paragraph_bytes all ++ tail → rest ≢ tail
    → Room blocks characters seen.texts all rest
room_for_next bytes rest blocks characters seen all fits e more =
    let next = next_text seen.texts all rest (seen.left all fits e) more in
    let few = few_texts (seen.texts ++ next.text ∷ []) all next.left.after fits next.left.are in
    record {
      next = next;
      paragraphs = omega (arith, few.0, length-append seen.texts (next.text ∷ []), seen_count bytes rest blocks characters seen);
      characters_fit = omega (arith, few.1, sum_by-append (length {A = ℕ}) seen.texts (next.text ∷ []), sum_by-cons (length {A = ℕ}) next.text [], seen.sum);
    }

-- where all are read, they are those of the blocks
pub seen_end : (bytes rest : List ℕ) (blocks : List Block) (characters : ℕ) → (seen : Seen bytes blocks characters rest) → rest ≡ tail → (all : List (List ℕ)) → ArePlain all → bytes ≡ flat_map plain_paragraph_bytes all ++ tail → blocks ≡ plain_blocks 1 all
seen_end bytes rest blocks characters seen end all fits e =
    seen.blocks_are ∙ ap (λ (texts : List (List ℕ)). plain_blocks 1 texts) (sym (all_read seen.texts all rest (seen.left all fits e) end))

-- a document has a paragraph
pub some_blocks : (blocks : List Block) (all : List (List ℕ)) → ArePlain all → blocks ≡ plain_blocks 1 all → length blocks ≡ 0 → ⊥
some_blocks blocks all fits are none =
    fits.within.some (nil_from_length all (sym (length-plain_blocks 1 all) ∙ sym (ap (length {A = Block}) are) ∙ none))

-- the block of one more text
pub pushed : (texts : List (List ℕ)) (text : List ℕ) (blocks blocks' : List Block) (block : Block) (count : ℕ) → blocks ≡ plain_blocks 1 texts → count ≡ length blocks → block ≡ block_of (count + 1) text → blocks' ≡ blocks ++ block ∷ []
    → blocks' ≡ plain_blocks 1 (texts ++ text ∷ [])
pushed texts text blocks blocks' block count are counted is e =
    let number : count + 1 ≡ 1 + length texts = omega (arith, counted, ap (length {A = Block}) are, length-plain_blocks 1 texts) in
    e ∙ ap (λ (x : Block). blocks ++ x ∷ []) is ∙ ap (λ (xs : List Block). xs ++ block_of (count + 1) text ∷ []) are
    ∙ ap (λ (n : ℕ). plain_blocks 1 texts ++ block_of n text ∷ []) number ∙ sym (plain_blocks-push 1 texts text)

-- what is read in the end is what a document has
pub seen_all : (bytes rest : List ℕ) (blocks : List Block) (characters : ℕ) → (seen : Seen bytes blocks characters rest) → blocks ≢ [] → ArePlain seen.texts
seen_all bytes rest blocks characters seen some = record {
  characters = Each-of IsPlainText (Each IsPlainChar) (λ text plain. plain.characters) seen.texts seen.plain;
  within = record {
    some = λ none. some (seen.blocks_are ∙ ap (λ (texts : List (List ℕ)). plain_blocks 1 texts) none);
    paragraphs = seen.few;
    items_of_paragraph = Each-of IsPlainText (λ (text : List ℕ). length text ≤ 32768) (λ text plain. plain.most) seen.texts seen.plain;
    items = omega (arith, seen.sum, seen.most);
  };
}
