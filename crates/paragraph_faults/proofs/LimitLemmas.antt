-- Limits of paragraphs and items.
use Rattle.std.proofs.Common.{◌≡◌, ℕ, zero, suc, ◌+◌, ◌<◌, ◌≤◌, Bool, true, false, cond, List, [], ◌∷◌, ◌++◌, length, map, take, drop, get_or, refl, sym, ap, ◌∙◌}
use Rattle.std.specs.Prelude.{nat_lt, slice_get, option_to_list}
use Rattle.std.specs.List.{filter}
use Rattle.std.specs.Option.{option_map}
use Rattle.std.proofs.lemmas.List.{map-append, take_more, drop_more}
use Rattle.std.proofs.lemmas.List.Elements.{filter-append}
use Rattle.std.proofs.lemmas.Bool.{ltb-false}
use Rattle.doc_model.specs.Limits.{limit_number}
use Rattle.doc_model.specs.declared.refusal.Limit.TheVariants as limit
use Rattle.load_model.specs.Offences.{Counted, too_long, first_too_many}
use Rattle.paragraph_faults.specs.declared.counted.Counted.{Counted as Read}
use Rattle.paragraph_faults.specs.Counts.{counted_of}

-- the one behind so many
pub place_beyond : (count : ℕ) (counted : List Read) → option_to_list (option_map (λ par. par.place) (slice_get counted count)) ≡ take 1 (drop count (map (λ (par : Counted). par.place) (map counted_of counted)))
place_beyond zero [] = refl
place_beyond (suc count) [] = refl
place_beyond zero (par ∷ counted) = refl
place_beyond (suc count) (par ∷ counted) = place_beyond count counted

-- those that are too long, of some and one more
long_more : (counted : List Read) (at : ℕ) (d : Read) → at < length counted
    → too_long (map counted_of (take at counted)) ++ too_long (counted_of (get_or counted at d) ∷ []) ≡ too_long (map counted_of (take (at + 1) counted))
long_more counted at d l =
    let test : Counted → Bool = λ (one : Counted). nat_lt (limit_number limit.ItemsOfParagraph) one.items in
    let par = get_or counted at d in
    sym (ap too_long (ap (map counted_of) (take_more counted at d l) ∙ map-append counted_of (take at counted) (par ∷ []))
    ∙ ap (map (λ (one : Counted). one.place)) (filter-append test (map counted_of (take at counted)) (counted_of par ∷ []))
    ∙ map-append (λ (one : Counted). one.place) (filter test (map counted_of (take at counted))) (filter test (counted_of par ∷ [])))

pub long_step : (counted : List Read) (at : ℕ) (d : Read) (old new : List ℕ) → at < length counted → old ≡ too_long (map counted_of (take at counted)) → new ≡ old ++ too_long (counted_of (get_or counted at d) ∷ [])
    → new ≡ too_long (map counted_of (take (at + 1) counted))
long_step counted at d old new l known pushed = pushed ∙ ap (λ (places : List ℕ). places ++ too_long (counted_of (get_or counted at d) ∷ [])) known ∙ long_more counted at d l

-- the first of some that passes all items, or of those behind it
module _ (counted : List Read) (before at : ℕ) (d : Read) (all : List ℕ) (l : at < length counted) (rest : first_too_many before (map counted_of (drop at counted)) ≡ all) where
  abbrev items : ℕ
  items = (get_or counted at d).items

  abbrev behind : List ℕ
  behind = first_too_many (before + items) (map counted_of (drop (at + 1) counted))

  opened : cond (nat_lt 4194304 (before + items)) ((get_or counted at d).place ∷ []) behind ≡ all
  opened = sym (ap (λ (some : List Read). first_too_many before (map counted_of some)) (drop_more counted at d l)) ∙ rest

  pub next_here : nat_lt 4194304 (before + items) ≡ false → (before + items ≤ 4194304) × (behind ≡ all)
  next_here fits = (ltb-false 4194304 (before + items) fits, sym (ap (λ b. cond b ((get_or counted at d).place ∷ []) behind) fits) ∙ opened)

  pub found_here : nat_lt 4194304 (before + items) ≡ true → (get_or counted at d).place ∷ [] ≡ all
  found_here passes = sym (ap (λ b. cond b ((get_or counted at d).place ∷ []) behind) passes) ∙ opened
