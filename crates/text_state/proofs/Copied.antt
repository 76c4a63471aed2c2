-- A list that is copied item by item.
use Rattle.std.proofs.Common.{◌≡◌, ℕ, ◌+◌, List, [], ◌∷◌, ◌++◌, take, ap, sym, ◌∙◌, Some}
use Rattle.std.specs.Prelude.{slice_get}
use Rattle.std.proofs.lemmas.List.{take_more}
use Rattle.std.proofs.lemmas.Option.{get_or_from_slice_get, slice_get_within}

-- one item more
pub copied_more : {X : Type 0} (items : List X) (at : ℕ) (item copy : X) (copies more : List X) → slice_get items at ≡ Some item → copies ≡ take at items → copy ≡ item
    → more ≡ copies ++ copy ∷ [] → more ≡ take (at + 1) items
copied_more items at item copy copies more here known is pushed =
    let front = take at items in
    pushed ∙ ap (λ front. front ++ copy ∷ []) known ∙ ap (λ one. front ++ one ∷ []) (is ∙ sym (get_or_from_slice_get items at item item here))
    ∙ sym (take_more items at item (slice_get_within items at item here))
