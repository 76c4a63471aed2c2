-- Paragraphs pass no limit where those of a document don't.
use Rattle.std.proofs.Common.{◌≡◌, ℕ, ◌+◌, ◌≤◌, Bool, false, cond, List, [], ◌∷◌, map, refl, ap, ◌∙◌, arith, nat_lt, sum_by}
use Rattle.std.specs.List.{AllByRecursion as Each}
use Rattle.std.proofs.lemmas.Bool.{le-ltb}
use Rattle.std.proofs.lemmas.List.Sums.{sum_by-cons}
use Rattle.doc_model.specs.declared.refusal.Limit.TheVariants as limit
use Rattle.doc_model.specs.Limits.{limit_number}
use Rattle.load_model.specs.Offences.{Counted, first_too_many, too_long}
use Rattle.back_valid.proofs.Lists.{each_also}
use Rattle.back_offences.proofs.Lists.{none_filter}

-- none has too many items where each has few
pub none_long : (counted : List Counted) → Each (λ par. par.items ≤ limit_number limit.ItemsOfParagraph) counted → too_long counted ≡ []
none_long counted few =
    ap (map (λ (par : Counted). par.place)) (none_filter (λ (par : Counted). nat_lt (limit_number limit.ItemsOfParagraph) par.items) counted
    (each_also (λ (par : Counted). par.items ≤ limit_number limit.ItemsOfParagraph) (λ (par : Counted). nat_lt (limit_number limit.ItemsOfParagraph) par.items ≡ false) (λ par is. le-ltb (limit_number limit.ItemsOfParagraph) par.items is) counted few))

-- all have not too many where their sum is small
pub none_many : (before : ℕ) (counted : List Counted) → before + sum_by (λ (par : Counted). par.items) counted ≤ limit_number limit.Items → first_too_many before counted ≡ []
none_many before [] few = refl
none_many before (par ∷ more) few =
    let sum = sum_by-cons (λ (one : Counted). one.items) par more in
    ap (λ (b : Bool). cond b (par.place ∷ []) (first_too_many (before + par.items) more)) (le-ltb (limit_number limit.Items) (before + par.items) (omega (arith, few, sum)))
    ∙ none_many (before + par.items) more (omega (arith, few, sum))

-- the sum of what is told of each is the sum of what is told
pub sum_told : {X : Type 0} (tell : X → ℕ) (xs : List X) → sum_by tell xs ≡ sum_by (λ n. n) (map tell xs)
sum_told tell [] = refl
sum_told tell (x ∷ xs) =
    let one = sum_by-cons tell x xs in
    let two = sum_by-cons (λ n. n) (tell x) (map tell xs) in
    let rest = sum_told tell xs in
    omega (arith, one, two, rest)

-- what is told twice is told once
pub told_told : {X Y Z : Type 0} (tell : Y → Z) (make : X → Y) (xs : List X) → map tell (map make xs) ≡ map (λ x. tell (make x)) xs
told_told tell make [] = refl
told_told tell make (x ∷ xs) = ap (λ (more : List _). tell (make x) ∷ more) (told_told tell make xs)
