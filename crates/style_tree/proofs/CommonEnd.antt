-- The end of the styles that aren't automatic, sought from the end of the list.
use Rattle.std.proofs.Common.{◌≡◌, ℕ, ◌+◌, ◌-◌, ◌<◌, ◌==◌, Bool, true, false, ◌&&◌, if◌then◌else◌, List, [], ◌∷◌, take, Some, zero, suc, ap, sym, ◌∙◌, slice_get, arith}
use Rattle.std.proofs.lemmas.Option.{none-some}
use Rattle.doc_model.specs.declared.style.Style.{Style}
use Rattle.style_model.specs.Changes.{common_end}
use Rattle.style_tree.proofs.Marks.{some_same}

-- an automatic style behind others changes nothing
end_auto_suc : (styles : List Style) (at : ℕ) (style : Style) → slice_get styles at ≡ Some style → style.auto ≡ true → common_end (take (suc at) styles) ≡ common_end (take at styles)
end_auto_suc [] at style here auto = absurd (none-some style here)
end_auto_suc (first ∷ styles) zero style here auto = ap (λ own. if own && 0 == 0 then 0 else 0 + 1) (ap (λ style. style.auto) (some_same first style here) ∙ auto)
end_auto_suc (first ∷ styles) (suc at) style here auto = ap (λ count. if first.auto && count == 0 then 0 else count + 1) (end_auto_suc styles at style here auto)

-- a style that isn't automatic is the last such where it is the last
end_common_suc : (styles : List Style) (at : ℕ) (style : Style) → slice_get styles at ≡ Some style → style.auto ≡ false → common_end (take (suc at) styles) ≡ suc at
end_common_suc [] at style here common = absurd (none-some style here)
end_common_suc (first ∷ styles) zero style here common = ap (λ own. if own && 0 == 0 then 0 else 0 + 1) (ap (λ style. style.auto) (some_same first style here) ∙ common)
end_common_suc (first ∷ styles) (suc at) style here common = ap (λ count. if first.auto && count == 0 then 0 else count + 1) (end_common_suc styles at style here common) ∙ by first.auto
  where
    by : (own : Bool) → (if own && suc at == 0 then 0 else suc at + 1) ≡ suc (suc at)
    by true = grind arith
    by false = grind arith

pub end_auto : (styles : List Style) (at : ℕ) (style : Style) → 0 < at → slice_get styles (at - 1) ≡ Some style → style.auto ≡ true → common_end (take (at - 1) styles) ≡ common_end (take at styles)
end_auto styles zero style some here auto = absurd (omega (arith, some))
end_auto styles (suc at) style some here auto =
    let back : suc at - 1 ≡ at = omega arith in
    ap (λ count. common_end (take count styles)) back ∙ sym (end_auto_suc styles at style (ap (slice_get styles) (sym back) ∙ here) auto)

pub end_common : (styles : List Style) (at : ℕ) (style : Style) → 0 < at → slice_get styles (at - 1) ≡ Some style → style.auto ≡ false → common_end (take at styles) ≡ at
end_common styles zero style some here common = absurd (omega (arith, some))
end_common styles (suc at) style some here common =
    let back : suc at - 1 ≡ at = omega arith in
    end_common_suc styles at style (ap (slice_get styles) (sym back) ∙ here) common
