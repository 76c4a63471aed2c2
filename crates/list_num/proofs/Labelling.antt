-- The label of an item whose level has numbers.
use Rattle.std.proofs.Common.{◌≡◌, ℕ, zero, suc, ◌≤◌, le_refl, ◌==◌, false, List, [], ◌∷◌, ◌++◌, take, Some, Result, Ok, Err, refl, ap, ap₂, sym, ◌∙◌, append_assoc, arith}
use Rattle.std.specs.Prelude.{IfOk}
use Rattle.std.specs.List.{find}
use Rattle.doc_model.specs.declared.field.Format.{Format}
use Rattle.doc_model.specs.declared.list_style.ListLevel.{ListLevel}
use Rattle.doc_model.specs.declared.list_style.LevelWhat.TheVariants.{Number}
use Rattle.doc_model.specs.declared.page.Label.{Label}
use Rattle.field_model.specs.Cut.{cut, kept_characters}
use Rattle.field_model.specs.Labels.{item_label, shown_levels, is_empty_format}
use Rattle.number_text.proofs.CutLemmas.{cut_cut}

take_front : (n k : ℕ) (text : List ℕ) → n ≤ k → take n (take k text) ≡ take n text
take_front zero k text h = refl
take_front (suc n) zero text h = absurd (omega arith)
take_front (suc n) (suc k) [] h = refl
take_front (suc n) (suc k) (c ∷ text) h = ap (λ (cs : List ℕ). c ∷ cs) (take_front n k text (omega arith))

take_inside : (n k : ℕ) (front text : List ℕ) → n ≤ k → take n (front ++ take k text) ≡ take n (front ++ text)
take_inside zero k front text h = refl
take_inside (suc n) k [] text h = take_front (suc n) k text h
take_inside (suc n) k (c ∷ front) text h = ap (λ (cs : List ℕ). c ∷ cs) (take_inside n k front text (omega arith))

-- numbers that are cut, between prefix and suffix, are as whole ones
cut_inside : (prefix numbers suffix : List ℕ) → cut (prefix ++ (cut numbers ++ suffix)) ≡ cut (prefix ++ (numbers ++ suffix))
cut_inside prefix numbers suffix =
    ap cut (sym (append_assoc prefix (cut numbers) suffix))
    ∙ sym (cut_cut (prefix ++ cut numbers) suffix)
    ∙ ap (λ (front : List ℕ). cut (front ++ suffix)) (take_inside kept_characters kept_characters prefix numbers (le_refl kept_characters))
    ∙ cut_cut (prefix ++ numbers) suffix
    ∙ ap cut (append_assoc prefix numbers suffix)

label-numbered : (levels : List ListLevel) (count : ℕ → ℕ) (own : ℕ) (level : ListLevel) (format : Format) (prefix suffix : List ℕ) (start display : ℕ)
    → Some level ≡ find (λ level. level.level == own) levels → level.what ≡ Number format prefix suffix start display → is_empty_format format ≡ false
    → item_label levels count own ≡ record { full = cut (prefix ++ (shown_levels levels count own display ++ suffix)); plain = cut (shown_levels levels count own display) }
label-numbered levels count own level format prefix suffix start display found is shown = rw (← found, is, shown) refl

pub numbered : {E : Type 0} (r : Result Label E) (levels : List ListLevel) (count : ℕ → ℕ) (own : ℕ) (level : ListLevel) (format : Format) (prefix suffix plain : List ℕ) (start display : ℕ)
    → Some level ≡ find (λ level. level.level == own) levels → level.what ≡ Number format prefix suffix start display → is_empty_format format ≡ false
    → plain ≡ cut (shown_levels levels count own display)
    → IfOk r (λ label. label.full ≡ cut (prefix ++ (plain ++ suffix))) → IfOk r (λ label. label.plain ≡ plain)
    → IfOk r (λ label. label ≡ item_label levels count own)
numbered (Ok label) levels count own level format prefix suffix plain start display found is shown cuts full same =
    let whole : label.full ≡ cut (prefix ++ (shown_levels levels count own display ++ suffix)) =
    full ∙ ap (λ (numbers : List ℕ). cut (prefix ++ (numbers ++ suffix))) cuts ∙ cut_inside prefix (shown_levels levels count own display) suffix in
    let made : Label = record { full = label.full; plain = label.plain } in
    let both : made ≡ record { full = cut (prefix ++ (shown_levels levels count own display ++ suffix)); plain = cut (shown_levels levels count own display) } =
    ap₂ (λ (full plain : List ℕ). let label : Label = record { full = full; plain = plain } in label) whole (same ∙ cuts) in
    both ∙ sym (label-numbered levels count own level format prefix suffix start display found is shown)
numbered (Err e) levels count own level format prefix suffix plain start display found is shown cuts full same = tt
