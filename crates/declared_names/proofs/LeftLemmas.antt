-- What is left out in declarations.
use Rattle.std.proofs.Common.{◌≡◌, ℕ, ◌+◌, ◌<◌, List, [], ◌∷◌, ◌++◌, length, map, take, get_or, refl, sym, ap, ◌∙◌, arith}
use Rattle.std.specs.Prelude.{fold}
use Rattle.std.proofs.lemmas.List.{length-map, get_or-map, take_more}
use Rattle.load_model.specs.Blocks as blocks
use Rattle.load_model.specs.Left.{Left, nothing, both, all_of}
use Rattle.element_parts.specs.declared.left.LeftOut.{LeftOut}
use Rattle.element_parts.specs.Shown.{shown}
use Rattle.declared_names.specs.declared.stated.Stated.{Stated}
use Rattle.declared_names.specs.Kept.{Shown, stated_of, shown_declared, AreStated}

fold_last : {X Y : Type 0} (f : Y → X → Y) (start : Y) (xs : List X) (x : X) → fold f start (xs ++ x ∷ []) ≡ f (fold f start xs) x
fold_last f start [] x = refl
fold_last f start (y ∷ xs) x = fold_last f (f start y) xs x

pub left_more : (lefts : List Left) (at : ℕ) → at < length lefts → all_of (take (at + 1) lefts) ≡ both (all_of (take at lefts)) (get_or lefts at nothing)
left_more lefts at l = ap all_of (take_more lefts at nothing l) ∙ fold_last both nothing (take at lefts) (get_or lefts at nothing)

map_twice : {X Y Z : Type 0} (f : Y → Z) (g : X → Y) (xs : List X) → map (λ x. f (g x)) xs ≡ map f (map g xs)
map_twice f g [] = refl
map_twice f g (x ∷ xs) = ap (λ more. f (g x) ∷ more) (map_twice f g xs)

module _ (kept : List Stated) (lefts : List Left) (same : map (λ (one : Stated). one.left) kept ≡ map shown lefts) where
  pub as_many : length kept ≡ length lefts
  as_many = sym (length-map kept (λ (one : Stated). one.left)) ∙ ap (λ (some : List LeftOut). length some) same ∙ length-map lefts shown

  pub left_at : (at : ℕ) (d : Stated) → at < length kept → (get_or kept at d).left ≡ shown (get_or lefts at nothing)
  left_at at d l =
      let many = as_many in
      sym (get_or-map (λ (one : Stated). one.left) kept at d (shown nothing) l)
      ∙ ap (λ (some : List LeftOut). get_or some at (shown nothing)) same ∙ get_or-map shown lefts at nothing (shown nothing) (omega (arith, l, many))

pub lefts_are : (kept : List Stated) (declarations : List blocks.Declared) → AreStated kept declarations → map (λ (one : Stated). one.left) kept ≡ map shown (map (λ (declared : blocks.Declared). declared.left) declarations)
lefts_are kept declarations stated =
    map_twice (λ (one : Shown). one.left) stated_of kept ∙ ap (map (λ (one : Shown). one.left)) stated
    ∙ sym (map_twice (λ (one : Shown). one.left) shown_declared declarations) ∙ map_twice shown (λ (declared : blocks.Declared). declared.left) declarations
