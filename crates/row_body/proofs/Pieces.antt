-- Items with their notes' texts, in two pieces.
use Rattle.std.proofs.Common.{arith, ◌≡◌, ℕ, ◌+◌, ◌<◌, ◌≤◌, List, [], ◌∷◌, ◌++◌, length, take, get_or, refl, ap, sym, ◌∙◌, append_assoc}
use Rattle.std.specs.List.{between}
use Rattle.std.proofs.lemmas.Slice.{between_to_end}
use Rattle.std.proofs.lemmas.List.{append-nil, take_all, take_more}
use Rattle.doc_model.specs.declared.paragraph.Par.{Par}
use Rattle.doc_model.specs.declared.paragraph.Item.{Item}
use Rattle.node_array.specs.Body.{with_text, texts_behind, with_texts}
use Rattle.row_body.specs.Parts.{texts_after}

-- the texts that are left behind both pieces
pub after_append : (front back : List Item) (texts : List (List Par)) → texts_after (front ++ back) texts ≡ texts_after back (texts_after front texts)
after_append [] back texts = refl
after_append (item ∷ front) back texts = after_append front back (texts_behind item texts)

-- both pieces
pub with_append : (front back : List Item) (texts : List (List Par)) → with_texts (front ++ back) texts ≡ with_texts front texts ++ with_texts back (texts_after front texts)
with_append [] back texts = refl
with_append (item ∷ front) back texts = ap (λ (items : List Item). with_text item texts ∷ items) (with_append front back (texts_behind item texts))

-- what a writer of copies has after so many of the items
pub record Copied (old new items : List Item) (was left : List (List Par)) (count : ℕ) : Type 0 where
  pub copied : new ≡ old ++ with_texts (take count items) was
  pub rest : left ≡ texts_after (take count items) was

-- one item more
pub copied_more : (old new items : List Item) (was left : List (List Par)) (count : ℕ) (item copy : Item) (pushed : List Item) (behind : List (List Par))
    → Copied old new items was left count → count < length items → item ≡ get_or items count item
    → copy ≡ with_text item left → behind ≡ texts_behind item left → pushed ≡ new ++ copy ∷ [] → Copied old pushed items was behind (count + 1)
copied_more old new items was left count item copy pushed behind known within here is after all =
    let front = take count items in
    let more : take (count + 1) items ≡ front ++ item ∷ [] = take_more items count item within ∙ ap (λ (one : Item). front ++ one ∷ []) (sym here) in
    record {
      copied = all ∙ ap (λ (one : Item). new ++ one ∷ []) (is ∙ ap (with_text item) known.rest)
          ∙ ap (λ (items : List Item). items ++ with_text item (texts_after front was) ∷ []) known.copied
          ∙ append_assoc old (with_texts front was) (with_text item (texts_after front was) ∷ [])
          ∙ ap (λ (items : List Item). old ++ items) (sym (with_append front (item ∷ []) was))
          ∙ ap (λ (items : List Item). old ++ with_texts items was) (sym more);
      rest = after ∙ ap (texts_behind item) known.rest ∙ sym (after_append front (item ∷ []) was) ∙ ap (λ (items : List Item). texts_after items was) (sym more);
    }

-- no item yet
pub copied_none : (old items : List Item) (was : List (List Par)) → Copied old old items was was 0
copied_none old items was = record { copied = sym (append-nil old); rest = refl }

-- all items
pub copied_all : (old new items : List Item) (was left : List (List Par)) (count : ℕ) → Copied old new items was left count → length items ≤ count
    → (new ≡ old ++ with_texts items was) × (left ≡ texts_after items was)
copied_all old new items was left count known whole =
    let all = take_all count items whole in
    (known.copied ∙ ap (λ (items : List Item). old ++ with_texts items was) all, known.rest ∙ ap (λ (items : List Item). texts_after items was) all)

-- both pieces of the items
pub both_copied : (items front back : List Item) (was left : List (List Par)) (none first second : List Item) (count : ℕ) → front ++ back ≡ between 0 count items → count ≡ length items
    → none ≡ [] → first ≡ none ++ with_texts front was → left ≡ texts_after front was → second ≡ first ++ with_texts back left → second ≡ with_texts items was
both_copied items front back was left none first second count pieces whole empty one rest two =
    two ∙ ap (λ (texts : List (List Par)). first ++ with_texts back texts) rest
    ∙ ap (λ (copies : List Item). copies ++ with_texts back (texts_after front was)) (one ∙ ap (λ (copies : List Item). copies ++ with_texts front was) empty)
    ∙ sym (with_append front back was) ∙ ap (λ (items : List Item). with_texts items was) (pieces ∙ between_to_end items 0 count (omega (arith, whole)))
