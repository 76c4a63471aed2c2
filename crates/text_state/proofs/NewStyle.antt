-- A style that is behind those of other names is new to them.
use Rattle.std.proofs.Common.{◌≡◌, ◌≢◌, ◌<◌, ◌&&◌, ℕ, Bool, true, false, cond, List, [], ◌∷◌, length, take, get_or, Some, None, zero, suc, refl, sym, ap, subst, ◌∙◌, arith}
use Rattle.std.specs.Prelude.{AllPairs}
use Rattle.std.specs.Str.{bytes_eq}
use Rattle.std.proofs.lemmas.Bool.{false≢true}
use Rattle.std.specs.Cmp.Lexicographic.{bytes_decides}
use Rattle.doc_model.specs.declared.style.Style.{Style}
use Rattle.style_model.specs.Lineage.{is_same_family, is_named, style_named}
use Rattle.style_tree.proofs.Saying.{same_family}

-- no two styles of one family have one name
abbrev pub AreApart : List Style → Type 0
AreApart styles = AllPairs (λ left right. left.family ≡ right.family → left.name ≢ right.name) styles

both_true : (left right : Bool) → (left && right) ≡ true → (left ≡ true) × (right ≡ true)
both_true true right e = (refl, e)
both_true false right e = absurd (false≢true e)

-- a style that is apart from another isn't named as the other
apart : (one style : Style) → (one.family ≡ style.family → one.name ≢ style.name) → is_named style.family style.name one ≡ false
apart one style differ = by (is_named style.family style.name one) refl where
  by : (test : Bool) → is_named style.family style.name one ≡ test → is_named style.family style.name one ≡ false
  by true e =
      let both = both_true (is_same_family one.family style.family) (bytes_eq one.name style.name) e in
      absurd (differ (same_family one.family style.family both.0) ((bytes_decides one.name style.name).0 both.1))
  by false e = e

pub new_style : (styles : List Style) (at : ℕ) (style : Style) → at < length styles → style ≡ get_or styles at style → AreApart styles
    → style_named (take at styles) style.family style.name ≡ None
new_style [] at style within here pairs = absurd (omega (arith, within))
new_style (one ∷ styles) zero style within here pairs = refl
new_style (one ∷ styles) (suc at) style within here pairs =
    let inside : at < length styles = omega (arith, within) in
    let differ : one.family ≡ style.family → one.name ≢ style.name = subst (λ (other : Style). one.family ≡ other.family → one.name ≢ other.name) (sym here) (pairs 0 (suc at) style (omega arith) within) in
    ap (λ test. cond test (Some one) (style_named (take at styles) style.family style.name)) (apart one style differ)
    ∙ new_style styles at style inside here (λ i j d below within. pairs (suc i) (suc j) d (omega arith) (omega arith))
