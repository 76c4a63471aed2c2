-- The parts of the root that are read.
use Rattle.std.proofs.Common.{◌≡◌, ℕ, Bool, true, false, cond, Bor, ◌||◌, List, [], ◌∷◌, ◌++◌, map, refl, sym, ap, ◌∙◌, eqb}
use Rattle.std.specs.List.{list_any}
use Rattle.load_model.specs.declared.element.Element.{Element}
use Rattle.load_model.specs.declared.names.Tag.{Tag}
use Rattle.load_model.specs.declared.names.Tag.TheVariants as tag
use Rattle.load_model.specs.Left.{is, is_same_tag, tag_of}
use Rattle.markup_nodes.specs.Node.{Node, Element as Inner, Char}
use Rattle.markup_nodes.specs.Nodes.{elems, turns_of}
use Rattle.load_model.specs.Styles.{InPart}
use Rattle.sheet_kept.specs.Held.{held_turn, parts_of}
use Rattle.sheet_kept.proofs.Firsts.{first_passes, first_fails}
use Rattle.std.proofs.lemmas.Bool.{eqb-true}

number_through : (m n k : ℕ) → eqb m n ≡ true → eqb n k ≡ true → eqb m k ≡ true
number_through m n k e f = ap (λ one. eqb one k) (eqb-true m n e) ∙ f

abbrev pub same_part : Element → Element → Bool
same_part one other = is_same_tag (tag_of one) (tag_of other)

abbrev pub is_part : Element → Bool
is_part part = is tag.CommonStyles part || is tag.AutomaticStyles part

part_through : (one two three : Element) → same_part one two ≡ true → same_part two three ≡ true → same_part one three ≡ true
part_through one two three e f = number_through _ _ _ e f

pub no_part : (elements : List Element) (element : Element) → is_part element ≡ false → parts_of (elements ++ element ∷ []) ≡ parts_of elements
no_part elements element e = first_fails same_part part_through is_part elements element e

pub one_part : (elements : List Element) (element : Element) (is_there : Bool) → is_part element ≡ true → list_any (λ part. is_same_tag (tag_of part) (tag_of element)) (parts_of elements) ≡ is_there
    → parts_of (elements ++ element ∷ []) ≡ cond is_there (parts_of elements) (parts_of elements ++ element ∷ [])
one_part elements element is_there e f =
    first_passes same_part part_through is_part elements element e ∙ ap (λ b. cond b (parts_of elements) (parts_of elements ++ element ∷ [])) f

-- what elements with the characters behind them are as what a part holds
pub held_turns : (is_auto : Bool) (nodes : List (Node Element)) → map (held_turn is_auto) (turns_of nodes) ≡ map (λ element. record { auto = is_auto; element = element }) (elems nodes)
held_turns is_auto [] = refl
held_turns is_auto (Inner x ∷ nodes) = ap (λ (more : List InPart). record { auto = is_auto; element = x } ∷ more) (held_turns is_auto nodes)
held_turns is_auto (Char c ∷ nodes) = held_turns is_auto nodes

any_lent : (tag : Tag) (lent : List (Bor Element)) → list_any (λ part. is_same_tag (tag_of part.now) tag) lent ≡ list_any (λ part. is_same_tag (tag_of part) tag) (map (λ part. part.now) lent)
any_lent tag [] = refl
any_lent tag (part ∷ lent) = ap (λ b. is_same_tag (tag_of part.now) tag || b) (any_lent tag lent)

-- whether an element has a tag, as it was told of lent ones
pub any_part : (tag : Tag) (lent shown : List (Bor Element)) (elements : List Element) (told is_there : Bool) → map (λ part. part.now) lent ≡ elements → shown ≡ lent
    → told ≡ list_any (λ part. is_same_tag (tag_of part.now) tag) shown → told ≡ is_there → list_any (λ part. is_same_tag (tag_of part) tag) elements ≡ is_there
any_part tag lent shown elements told is_there same as_shown tells is =
    ap (list_any (λ part. is_same_tag (tag_of part) tag)) (sym same) ∙ sym (any_lent tag lent) ∙ ap (list_any (λ part. is_same_tag (tag_of part.now) tag)) (sym as_shown) ∙ sym tells ∙ is
