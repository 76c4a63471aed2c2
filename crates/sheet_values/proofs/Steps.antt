-- One more element behind those that were read.
use Rattle.std.proofs.Common.{◌≡◌, ℕ, ◌+◌, ◌<◌, Bool, true, false, cond, length, take, get_or, List, [], ◌∷◌, ◌++◌, map, fold, refl, sym, ap, ◌∙◌}
use Rattle.std.specs.List.{flat_map}
use Rattle.std.proofs.lemmas.Grind.{flat_map-append}
use Rattle.std.proofs.lemmas.Bool.{false≢true}
use Rattle.std.proofs.lemmas.List.{append-nil, map_more}
use Rattle.load_model.specs.Left.{Left, both, nothing, all_of}
use Rattle.element_parts.specs.Shown.{shown}
use Rattle.element_parts.specs.declared.left.LeftOut.{LeftOut}

pub flat_behind : {X Y : Type 0} (f : X → List Y) (xs : List X) (x : X) → flat_map f (xs ++ x ∷ []) ≡ flat_map f xs ++ f x
flat_behind f xs x = flat_map-append f xs (x ∷ []) ∙ ap (λ ys. flat_map f xs ++ ys) (append-nil (f x))

fold_behind : {X : Type 0} (f : X → Left) (total : Left) (xs : List X) (x : X) → fold both total (map f (xs ++ x ∷ [])) ≡ both (fold both total (map f xs)) (f x)
fold_behind f total [] x = refl
fold_behind f total (y ∷ xs) x = fold_behind f (both total (f y)) xs x

pub all_behind : {X : Type 0} (f : X → Left) (xs : List X) (x : X) → all_of (map f (xs ++ x ∷ [])) ≡ both (all_of (map f xs)) (f x)
all_behind f xs x = fold_behind f nothing xs x

-- what is left out with one more element
pub left_behind : {X : Type 0} (f : X → Left) (xs : List X) (x : X) (more : LeftOut) → more ≡ shown (both (all_of (map f xs)) (f x)) → more ≡ shown (all_of (map f (xs ++ x ∷ [])))
left_behind f xs x more e = e ∙ ap shown (sym (all_behind f xs x))

pub next_behind : {X Y : Type 0} (f : X → Y) (xs : List X) (i : ℕ) (x : X) → i < length xs → x ≡ get_or xs i x → map f (take (i + 1) xs) ≡ map f (take i xs) ++ f x ∷ []
next_behind f xs i x inside is = map_more f xs i x inside ∙ ap (λ one. map f (take i xs) ++ f one ∷ []) (sym is)

pub else_is : {X : Type 0} (b : Bool) (x y : X) → b ≡ false → y ≡ cond b x y
else_is true x y e = absurd (false≢true (sym e))
else_is false x y e = refl
