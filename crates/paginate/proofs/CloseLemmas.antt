-- A page that is closed: the note rows that it shows, those that are carried, and its parts.
use Rattle.std.proofs.Common.{◌≡◌, ℕ, ◌+◌, ◌-◌, ◌≤◌, List, [], ◌∷◌, ◌++◌, Option, refl, length, zero, suc, arith, ap, sym, ◌∙◌, take, drop, map}
use Rattle.std.specs.List.{filter_map}
use Rattle.std.proofs.lemmas.List.{drop-append-le, append_assoc, map-append, length-append}
use Rattle.std.proofs.lemmas.List.Elements.{filter_map-append}
use Rattle.page_model.specs.declared.body.HeadText.{HeadText}
use Rattle.page_model.specs.declared.row.NoteRow.{NoteRow}
use Rattle.paginate.specs.declared.breaker.Closed.{Closed}
use Rattle.paginate.specs.Standing.{left_from}

-- the first ones of two lists together
pub take_both : (n : ℕ) (xs ys : List NoteRow) → take n xs ++ take (n - length (take n xs)) ys ≡ take n (xs ++ ys)
take_both zero xs ys = refl
take_both (suc n) [] ys = let e : suc n - 0 ≡ suc n = omega arith in ap (λ (m : ℕ). take m ys) e
take_both (suc n) (x ∷ xs) ys =
    let e : suc n - suc (length (take n xs)) ≡ n - length (take n xs) = omega arith in
    ap (λ (m : ℕ). x ∷ (take n xs ++ take m ys)) e ∙ ap (λ (l : List NoteRow). x ∷ l) (take_both n xs ys)

drop_nil : (n : ℕ) → drop {A = NoteRow} n [] ≡ []
drop_nil zero = refl
drop_nil (suc n) = refl

drop_many : (a b : ℕ) (xs : List NoteRow) → drop (a + b) xs ≡ drop b (drop a xs)
drop_many zero b xs = let e : 0 + b ≡ b = omega arith in ap (λ (m : ℕ). drop m xs) e
drop_many (suc a) b [] = drop_nil (suc a + b) ∙ sym (drop_nil b)
drop_many (suc a) b (x ∷ xs) = let e : suc a + b ≡ suc (a + b) = omega arith in ap (λ (m : ℕ). drop m (x ∷ xs)) e ∙ drop_many a b xs

drop-counted : (n : ℕ) (xs : List NoteRow) → drop (length (take n xs)) xs ≡ drop n xs
drop-counted zero xs = refl
drop-counted (suc n) [] = refl
drop-counted (suc n) (x ∷ xs) = drop-counted n xs

-- those behind the ones that are shown
pub drop_both : (shown n : ℕ) (queue more : List NoteRow) → shown ≤ length queue
    → drop (shown + (length (take n (drop shown queue)) + length (take (n - length (take n (drop shown queue))) more))) (queue ++ more) ≡ drop n (drop shown queue ++ more)
drop_both shown n queue more h =
    let carried = drop shown queue in
    let both = take_both n carried more in
    let count : length (take n carried) + length (take (n - length (take n carried)) more) ≡ length (take n (carried ++ more)) =
    sym (length-append (take n carried) (take (n - length (take n carried)) more)) ∙ ap (λ (l : List NoteRow). length l) both in
    ap (λ (m : ℕ). drop (shown + m) (queue ++ more)) count
    ∙ drop_many shown (length (take n (carried ++ more))) (queue ++ more)
    ∙ ap (λ (l : List NoteRow). drop (length (take n (carried ++ more))) l) (drop-append-le shown queue more h)
    ∙ drop-counted n (carried ++ more)

pub left-same : (a a' : Option ℕ) (b b' : ℕ) (c c' : List NoteRow) → a ≡ a' → b ≡ b' → c ≡ c' → left_from a b c ≡ left_from a' b' c'
left-same a a' b b' c c' p q r = rw (p, q, r) refl

-- a page by its parts
abbrev pub page_from : ℕ → Option ℕ → ℕ → List (List ℕ) → List (List ℕ) → List (Option HeadText) → List ℕ → Closed
page_from number master columns body notes heads firsts = record {
  body = record { number = number; master = master; columns = columns; body = body; notes = notes; heads = heads };
  firsts = firsts;
}

pub page-same : (page : Closed) (number : ℕ) (master : Option ℕ) (columns : ℕ) (body notes : List (List ℕ)) (heads : List (Option HeadText)) (firsts : List ℕ)
    → page.body.number ≡ number → page.body.master ≡ master → page.body.columns ≡ columns → page.body.body ≡ body → page.body.notes ≡ notes → page.body.heads ≡ heads → page.firsts ≡ firsts
    → page ≡ page_from number master columns body notes heads firsts
page-same page number master columns body notes heads firsts a b c d e f g = rw (← a, ← b, ← c, ← d, ← e, ← f, ← g) refl

-- the notes of a page, and the paragraphs that begin in them
pub notes_shown : (n : ℕ) (xs ys : List NoteRow) → map (λ row. row.text) (take n xs) ++ map (λ row. row.text) (take (n - length (take n xs)) ys) ≡ map (λ row. row.text) (take n (xs ++ ys))
notes_shown n xs ys = sym (map-append (λ (row : NoteRow). row.text) (take n xs) (take (n - length (take n xs)) ys)) ∙ ap (map (λ (row : NoteRow). row.text)) (take_both n xs ys)

pub places_shown : (front : List ℕ) (n : ℕ) (xs ys : List NoteRow)
    → front ++ filter_map (λ row. row.place) (take n xs) ++ filter_map (λ row. row.place) (take (n - length (take n xs)) ys) ≡ front ++ filter_map (λ row. row.place) (take n (xs ++ ys))
places_shown front n xs ys =
    append_assoc front (filter_map (λ (row : NoteRow). row.place) (take n xs)) (filter_map (λ (row : NoteRow). row.place) (take (n - length (take n xs)) ys))
    ∙ ap (λ (l : List ℕ). front ++ l) (sym (filter_map-append (λ (row : NoteRow). row.place) (take n xs) (take (n - length (take n xs)) ys)) ∙ ap (filter_map (λ (row : NoteRow). row.place)) (take_both n xs ys))
