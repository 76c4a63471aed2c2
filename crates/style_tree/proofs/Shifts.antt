-- Shifting the places of an index one by one.
use Rattle.std.proofs.Common.{◌≡◌, ℕ, List, [], ◌∷◌, length, Some, zero, suc, refl, ap, sym, slice_get, unwrap_or}
use Rattle.std.proofs.lemmas.Option.{none-some}
use Rattle.indexmap.specs.IndexMap.{set_value_at}
use Rattle.style_tree.specs.Index.{shifted, shifted_entries}
use Rattle.style_tree.specs.declared.places.Shift.{Shift}

-- the entries with the first of their places shifted
abbrev pub shifted_first : Shift → ℕ → List (List ℕ × ℕ) → List (List ℕ × ℕ)
shifted_first shift zero entries = entries
shifted_first shift (suc count) [] = []
shifted_first shift (suc count) (entry ∷ entries) = (entry.0, shifted shift entry.1) ∷ shifted_first shift count entries

-- the next one is still as it was
pub next-shifted_first : (shift : Shift) (count : ℕ) (entries : List (List ℕ × ℕ)) → slice_get (shifted_first shift count entries) count ≡ slice_get entries count
next-shifted_first shift zero entries = refl
next-shifted_first shift (suc count) [] = refl
next-shifted_first shift (suc count) (entry ∷ entries) = next-shifted_first shift count entries

-- shifting it too
pub set-shifted_first : (shift : Shift) (count : ℕ) (entries : List (List ℕ × ℕ)) (name : List ℕ) (place : ℕ) → slice_get entries count ≡ Some (name, place) → set_value_at (shifted_first shift count entries) count (shifted shift place) ≡ shifted_first shift (suc count) entries
set-shifted_first shift zero [] name place e = absurd (none-some (name, place) e)
set-shifted_first shift zero (entry ∷ entries) name place e = ap (λ kept. (entry.0, shifted shift (unwrap_or {T = List ℕ × ℕ} kept (name, place)).1) ∷ entries) (sym e)
set-shifted_first shift (suc count) [] name place e = absurd (none-some (name, place) e)
set-shifted_first shift (suc count) (entry ∷ entries) name place e = ap (λ rest. (entry.0, shifted shift entry.1) ∷ rest) (set-shifted_first shift count entries name place e)

-- how many there are
pub length-shifted_first : (shift : Shift) (count : ℕ) (entries : List (List ℕ × ℕ)) → length (shifted_first shift count entries) ≡ length entries
length-shifted_first shift zero entries = refl
length-shifted_first shift (suc count) [] = refl
length-shifted_first shift (suc count) (entry ∷ entries) = ap suc (length-shifted_first shift count entries)

-- all of them
pub all-shifted_first : (shift : Shift) (entries : List (List ℕ × ℕ)) → shifted_first shift (length entries) entries ≡ shifted_entries shift entries
all-shifted_first shift [] = refl
all-shifted_first shift (entry ∷ entries) = ap (λ rest. (entry.0, shifted shift entry.1) ∷ rest) (all-shifted_first shift entries)
