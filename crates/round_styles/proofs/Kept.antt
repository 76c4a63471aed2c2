-- What is kept of one item more.
use Rattle.std.proofs.Common.{◌≡◌, ℕ, ◌+◌, ◌<◌, List, [], ◌∷◌, ◌++◌, take, length, get_or, Option, Some, None, refl, sym, ap, ◌∙◌}
use Rattle.std.specs.Prelude.{filter_map, option_to_list}
use Rattle.std.specs.List.{cons_option, slice_get}
use Rattle.std.proofs.lemmas.List.{take_more}
use Rattle.std.proofs.lemmas.List.Elements.{filter_map-append}
use Rattle.std.proofs.lemmas.Option.{slice_get_within, slice_get-get_or}

one_kept : {Y : Type 0} (o : Option Y) → cons_option o [] ≡ option_to_list o
one_kept None = refl
one_kept (Some y) = refl

pub kept_more : {X Y : Type 0} (f : X → Option Y) (xs : List X) (i : ℕ) (x : X) → slice_get xs i ≡ Some x → filter_map f (take i xs) ++ option_to_list (f x) ≡ filter_map f (take (i + 1) xs)
kept_more f xs i x e =
    let inside : i < length xs = slice_get_within xs i x e in
    let found : slice_get xs i ≡ Some (get_or xs i x) = slice_get-get_or xs i x inside in
    let is : get_or xs i x ≡ x = cc in
    ap (λ more. filter_map f (take i xs) ++ more) (sym (one_kept (f x)))
    ∙ sym (filter_map-append f (take i xs) (x ∷ []))
    ∙ ap (λ next. filter_map f (take i xs ++ next ∷ [])) (sym is)
    ∙ ap (filter_map f) (sym (take_more xs i x inside))
