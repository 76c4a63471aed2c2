-- The shown numbers of levels, put together from the front.
use Rattle.std.proofs.Common.{◌≡◌, ℕ, ◌+◌, ◌<◌, Bool, true, false, List, [], ◌∷◌, ◌++◌, map, length, take, get_or, refl, ap, ap₂, sym, ◌∙◌, append_assoc}
use Rattle.std.specs.List.{filter, join_with_byte}
use Rattle.std.proofs.lemmas.List.{take_more, map-append, append-nil}
use Rattle.std.proofs.lemmas.List.Elements.{filter-append}
use Rattle.doc_model.specs.declared.list_style.ListLevel.{ListLevel}
use Rattle.field_model.specs.Cut.{cut}
use Rattle.number_text.proofs.CutLemmas.{cut_cut}
use Rattle.list_num.specs.Counters.{separator}

-- whether a list is empty
abbrev pub is_nil : {X : Type 0} → List X → Bool
is_nil [] = true
is_nil (x ∷ xs) = false

is_nil-map : {X Y : Type 0} (f : X → Y) (xs : List X) → is_nil (map f xs) ≡ is_nil xs
is_nil-map f [] = refl
is_nil-map f (x ∷ xs) = refl

join-push : (xs : List (List ℕ)) (x : List ℕ) → join_with_byte 46 (xs ++ x ∷ []) ≡ join_with_byte 46 xs ++ (separator (is_nil xs) ++ x)
join-push [] x = refl
join-push (y ∷ []) x = refl
join-push (y ∷ z ∷ ys) x = ap (λ (text : List ℕ). y ++ 46 ∷ text) (join-push (z ∷ ys) x) ∙ sym (append_assoc y (46 ∷ join_with_byte 46 (z ∷ ys)) (46 ∷ x))

-- the items among the first ones that pass a test
abbrev pub passed : (ListLevel → Bool) → List ListLevel → ℕ → List ListLevel
passed p levels i = filter p (take i levels)

passed-more : (p : ListLevel → Bool) (levels : List ListLevel) (i : ℕ) (level : ListLevel) → i < length levels → level ≡ get_or levels i level → p level ≡ true → passed p levels (i + 1) ≡ passed p levels i ++ level ∷ []
passed-more p levels i level lt is passes =
    ap (filter p) (take_more levels i level lt ∙ ap (λ (l : ListLevel). take i levels ++ l ∷ []) (sym is))
    ∙ filter-append p (take i levels) (level ∷ [])
    ∙ ap (λ (end : List ListLevel). passed p levels i ++ end) (rw passes refl)

pub passed-same : (p : ListLevel → Bool) (levels : List ListLevel) (i : ℕ) (level : ListLevel) → i < length levels → level ≡ get_or levels i level → p level ≡ false → passed p levels (i + 1) ≡ passed p levels i
passed-same p levels i level lt is fails =
    ap (filter p) (take_more levels i level lt ∙ ap (λ (l : ListLevel). take i levels ++ l ∷ []) (sym is))
    ∙ filter-append p (take i levels) (level ∷ [])
    ∙ ap (λ (end : List ListLevel). passed p levels i ++ end) (rw fails refl)
    ∙ append-nil (passed p levels i)

-- one more level is shown
pub shown_more : (p : ListLevel → Bool) (f : ListLevel → List ℕ) (levels : List ListLevel) (i : ℕ) (level : ListLevel) (first : Bool) (old new : List ℕ) → i < length levels → level ≡ get_or levels i level → p level ≡ true
    → first ≡ is_nil (passed p levels i) → old ≡ cut (join_with_byte 46 (map f (passed p levels i))) → new ≡ cut (old ++ (separator first ++ f level))
    → new ≡ cut (join_with_byte 46 (map f (passed p levels (i + 1))))
shown_more p f levels i level first old new lt is passes none e h =
    let so_far = map f (passed p levels i) in
    let test : first ≡ is_nil so_far = none ∙ sym (is_nil-map f (passed p levels i)) in
    let whole : map f (passed p levels (i + 1)) ≡ so_far ++ f level ∷ [] = ap (map f) (passed-more p levels i level lt is passes) ∙ map-append f (passed p levels i) (level ∷ []) in
    h
    ∙ ap₂ (λ (text : List ℕ) (b : Bool). cut (text ++ (separator b ++ f level))) e test
    ∙ cut_cut (join_with_byte 46 so_far) (separator (is_nil so_far) ++ f level)
    ∙ ap cut (sym (join-push so_far (f level)) ∙ ap (join_with_byte 46) (sym whole))

is_nil-push : {X : Type 0} (xs : List X) (x : X) → false ≡ is_nil (xs ++ x ∷ [])
is_nil-push [] x = refl
is_nil-push (y ∷ xs) x = refl

-- then it isn't the first any more
pub shown_some : (p : ListLevel → Bool) (levels : List ListLevel) (i : ℕ) (level : ListLevel) → i < length levels → level ≡ get_or levels i level → p level ≡ true → false ≡ is_nil (passed p levels (i + 1))
shown_some p levels i level lt is passes = is_nil-push (passed p levels i) level ∙ ap (is_nil {X = ListLevel}) (sym (passed-more p levels i level lt is passes))
