-- A list and its last item.
use Rattle.std.proofs.Common.{◌≡◌, ℕ, ◌+◌, ◌-◌, ◌<◌, List, [], ◌∷◌, ◌++◌, length, get_or, take, arith, sym, ◌∙◌, ap, subst, refl, Option, Some, None, Bor}
use Rattle.std.specs.Prelude.{◌↔◌, IsSome, IfSome, MatchOption}
use Rattle.std.proofs.Math.Seq.{take-length}
use Rattle.std.proofs.lemmas.List.{take_more}

-- a list with an item x at its last place is its front and x
pub last-splits : {X : Type 0} (xs : List X) (x : X) → 0 < length xs → x ≡ get_or xs (length xs - 1) x → xs ≡ take (length xs - 1) xs ++ x ∷ []
last-splits xs x some is =
    let below : length xs - 1 < length xs = omega arith in
    let all : length xs ≡ (length xs - 1) + 1 = omega arith in
    sym (take-length xs) ∙ (ap (λ n. take n xs) all ∙ (take_more xs (length xs - 1) x below ∙ ap (λ y. take (length xs - 1) xs ++ y ∷ []) (sym is)))

-- what lends the last of n items splits their list
pub last-cases : {X : Type 0} (xs : List X) (n : ℕ) (r : Option (Bor X)) → n ≡ length xs → (IsSome r ↔ (0 < n)) → IfSome r (λ x. x.now ≡ get_or xs (n - 1) x.now)
    → MatchOption r (xs ≡ []) (λ x. (rest : List X) × (xs ≡ rest ++ x.now ∷ []))
last-cases [] n None len some is = refl
last-cases (x ∷ xs) n None len some is = cc (some.1 (omega (arith, len)))
last-cases xs n (Some x) len some is =
    let counted : 0 < n = some.0 refl in
    let below : 0 < length xs = omega (arith, len) in
    (take (length xs - 1) xs, last-splits xs x.now below (subst (λ k. x.now ≡ get_or xs (k - 1) x.now) len is))
