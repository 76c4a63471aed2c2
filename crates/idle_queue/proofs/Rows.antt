-- Kept lines, by the keys of their jobs.
use Rattle.std.proofs.Common.{◌≡◌, ℕ, ◌+◌, ◌<◌, Bool, true, false, List, [], ◌∷◌, ◌++◌, length, take, drop, get_or, refl, ap, sym, ◌∙◌, arith, zero, suc, append_assoc, drop-cons}
use Rattle.std.proofs.Math.ListN.{drop_of_length-le}
use Rattle.std.specs.Prelude.{map, ◌||◌, if◌then◌else◌}
use Rattle.std.specs.List.{list_any, remove}
use Rattle.std.proofs.lemmas.List.{take_more, append-nil, map-append, take_all}
use Rattle.line_model.specs.declared.key.Key.{Key}
use Rattle.line_model.specs.declared.job.Job.{Job}
use Rattle.round_model.specs.Idle.{without_oldest}

-- the keys of rows
abbrev pub keys_of : List Job → List Key
keys_of rows = map (λ job. job.key) rows

or_true : (b c : Bool) → c ≡ true → (b || c) ≡ true
or_true true c h = refl
or_true false c h = h

or_false : (b c d : Bool) → (b || c) ≡ false → (c ≡ false → d ≡ false) → (b || d) ≡ false
or_false true c d e g = e
or_false false c d e g = g e

pub kept_at : (f : Key → Bool) (rows : List Job) (i : ℕ) (d : Job) → i < length rows → f (get_or rows i d).key ≡ true → list_any f (keys_of rows) ≡ true
kept_at f [] i d within h = absurd (omega arith)
kept_at f (row ∷ rows) zero d within h = ap (λ (b : Bool). b || list_any f (keys_of rows)) h
kept_at f (row ∷ rows) (suc i) d within h = or_true (f row.key) (list_any f (keys_of rows)) (kept_at f rows i d (omega arith) h)

none_push : (f : Key → Bool) (rows : List Job) (row : Job) → list_any f (keys_of rows) ≡ false → f row.key ≡ false → list_any f (keys_of (rows ++ row ∷ [])) ≡ false
none_push f [] row none h = ap (λ (b : Bool). b || false) h
none_push f (first ∷ rows) row none h = or_false (f first.key) (list_any f (keys_of rows)) (list_any f (keys_of (rows ++ row ∷ []))) none (λ none'. none_push f rows row none' h)

pub none_more : (f : Key → Bool) (rows : List Job) (i : ℕ) (d : Job) → i < length rows → list_any f (keys_of (take i rows)) ≡ false → f (get_or rows i d).key ≡ false
    → list_any f (keys_of (take (i + 1) rows)) ≡ false
none_more f rows i d within none h =
    ap (λ (front : List Job). list_any f (keys_of front)) (take_more rows i d within) ∙ none_push f (take i rows) (get_or rows i d) none h

-- the first rows are all in use
abbrev pub AreInUse : (Key → Bool) → List Job → ℕ → Type 0
AreInUse f rows i = without_oldest f (keys_of rows) ≡ keys_of (take i rows) ++ without_oldest f (keys_of (drop i rows))

pub in_use_more : (f : Key → Bool) (rows : List Job) (i : ℕ) (d : Job) → i < length rows → AreInUse f rows i → f (get_or rows i d).key ≡ true → AreInUse f rows (i + 1)
in_use_more f rows i d within e h =
    let next : suc i ≡ i + 1 = omega arith in
    e
    ∙ ap (λ (behind : List Job). keys_of (take i rows) ++ without_oldest f (keys_of behind)) (drop-cons rows i d within)
    ∙ ap (λ (b : Bool). keys_of (take i rows) ++ (if b then (get_or rows i d).key ∷ without_oldest f (keys_of (drop (suc i) rows)) else keys_of (drop (suc i) rows))) h
    ∙ sym (append_assoc (keys_of (take i rows)) ((get_or rows i d).key ∷ []) (without_oldest f (keys_of (drop (suc i) rows))))
    ∙ ap (λ (front : List Key). front ++ without_oldest f (keys_of (drop (suc i) rows)))
    (sym (map-append (λ (job : Job). job.key) (take i rows) (get_or rows i d ∷ [])) ∙ ap (λ (front : List Job). keys_of front) (sym (take_more rows i d within)))
    ∙ ap (λ (n : ℕ). keys_of (take (i + 1) rows) ++ without_oldest f (keys_of (drop n rows))) next

pub oldest_at : (f : Key → Bool) (rows : List Job) (i : ℕ) (d : Job) → i < length rows → AreInUse f rows i → f (get_or rows i d).key ≡ false
    → without_oldest f (keys_of rows) ≡ keys_of (remove rows i)
oldest_at f rows i d within e h =
    e
    ∙ ap (λ (behind : List Job). keys_of (take i rows) ++ without_oldest f (keys_of behind)) (drop-cons rows i d within)
    ∙ ap (λ (b : Bool). keys_of (take i rows) ++ (if b then (get_or rows i d).key ∷ without_oldest f (keys_of (drop (suc i) rows)) else keys_of (drop (suc i) rows))) h
    ∙ sym (map-append (λ (job : Job). job.key) (take i rows) (drop (suc i) rows))

pub oldest_none : (f : Key → Bool) (rows : List Job) (i : ℕ) → i ≡ length rows → AreInUse f rows i → without_oldest f (keys_of rows) ≡ keys_of rows
oldest_none f rows i all e =
    let behind : drop i rows ≡ [] = drop_of_length-le rows (omega arith) in
    e
    ∙ ap (λ (front : List Job). keys_of front ++ without_oldest f (keys_of (drop i rows))) (take_all i rows (omega arith))
    ∙ ap (λ (back : List Job). keys_of rows ++ without_oldest f (keys_of back)) behind
    ∙ append-nil (keys_of rows)
