-- Texts put together piece by piece.
use Rattle.std.proofs.Common.{◌≡◌, ℕ, zero, suc, ◌+◌, ◌≤◌, ◌<◌, true, false, List, [], ◌∷◌, ◌++◌, length, take, drop, get_or, refl, ap, sym, ◌∙◌, arith, append_assoc, append-nil, drop-cons}
use Rattle.std.proofs.Math.Seq.{take-suc}
use Rattle.std.specs.Prelude.{slice_index, codes, chars}
use Rattle.std.proofs.lemmas.Str.{chars-IsAscii}
use Rattle.field_model.specs.declared.gathered.Target.{Target}
use Rattle.field_model.specs.declared.gathered.Spot.{Spot}
use Rattle.field_model.specs.Gathered.{is_before}
use Rattle.std.proofs.lemmas.Grind.{flat_map-append}
use Rattle.std.proofs.lemmas.List.{drop_all, take-append-drop}
use Rattle.field_model.specs.Cut.{cut, kept_characters}
use Rattle.number_text.proofs.CutLemmas.{cut_then, cut_rest}
use Rattle.field_model.specs.declared.gathered.Piece.{Piece}
use Rattle.field_model.specs.declared.gathered.Piece.TheVariants.{Gap, Char, Number, Variable}
use Rattle.field_model.specs.Gathered.{Event}
use Rattle.field_model.specs.Shown.{quote, piece_text, up_to_gap, joined, direction_form}
use Rattle.field_walk.specs.Gaps.{is_gap}

take_of_take : (n m : ℕ) (text : List ℕ) → n ≤ m → take n (take m text) ≡ take n text
take_of_take zero m text le = refl
take_of_take (suc n) zero text le = absurd (omega arith)
take_of_take (suc n) (suc m) [] le = refl
take_of_take (suc n) (suc m) (c ∷ text) le = ap (λ (cs : List ℕ). c ∷ cs) (take_of_take n m text (omega arith))

inside : (n m : ℕ) (old text : List ℕ) → n ≤ m → take n (old ++ take m text) ≡ take n (old ++ text)
inside zero m old text le = refl
inside (suc n) m [] text le = take_of_take (suc n) m text le
inside (suc n) m (c ∷ old) text le = ap (λ (cs : List ℕ). c ∷ cs) (inside n m old text (omega arith))

-- a text that was cut before it is added
pub cut_inside : (old text : List ℕ) → cut (old ++ cut text) ≡ cut (old ++ text)
cut_inside old text = inside 512 512 old text (omega arith)

pub cut_twice : (old new text : List ℕ) → new ≡ cut (old ++ text) → new ≡ cut (old ++ cut text)
cut_twice old new text e = e ∙ sym (cut_inside old text)

taken : (pieces : List Piece) (i : ℕ) (piece : Piece) → i < length pieces → piece ≡ get_or pieces i piece → take (i + 1) pieces ≡ take i pieces ++ piece ∷ []
taken pieces i piece lt is =
    let next : i + 1 ≡ suc i = omega arith in
    ap (λ (n : ℕ). take n pieces) next ∙ take-suc pieces i piece lt ∙ ap (λ (p : Piece). take i pieces ++ p ∷ []) (sym is)

dropped : (pieces : List Piece) (i : ℕ) (piece : Piece) → i < length pieces → piece ≡ get_or pieces i piece → drop i pieces ≡ piece ∷ drop (i + 1) pieces
dropped pieces i piece lt is =
    let next : suc i ≡ i + 1 = omega arith in
    drop-cons pieces i piece lt ∙ ap (λ (p : Piece). p ∷ drop (suc i) pieces) (sym is) ∙ ap (λ (n : ℕ). piece ∷ drop n pieces) next

goes_on : (piece : Piece) (more : List Piece) → is_gap piece ≡ false → up_to_gap (piece ∷ more) ≡ piece ∷ up_to_gap more
goes_on Gap more e = absurd (cc)
goes_on (Char char) more e = refl
goes_on (Number name format here) more e = refl
goes_on (Variable name here) more e = refl

ends : (piece : Piece) (more : List Piece) → is_gap piece ≡ true → up_to_gap (piece ∷ more) ≡ []
ends Gap more e = refl
ends (Char char) more e = absurd (cc)
ends (Number name format here) more e = absurd (cc)
ends (Variable name here) more e = absurd (cc)

-- one piece further
pub quote_more : (all : List Event) (pieces : List Piece) (i : ℕ) (piece : Piece) → i < length pieces → piece ≡ get_or pieces i piece → quote all (take (i + 1) pieces) ≡ quote all (take i pieces) ++ piece_text all piece
quote_more all pieces i piece lt is =
    ap (quote all) (taken pieces i piece lt is) ∙ flat_map-append (piece_text all) (take i pieces) (piece ∷ []) ∙ ap (λ (text : List ℕ). quote all (take i pieces) ++ text) (append-nil (piece_text all piece))

pub quote_pushed : (all : List Event) (pieces : List Piece) (i : ℕ) (piece : Piece) (old between new : List ℕ) → i < length pieces → piece ≡ get_or pieces i piece → between ≡ cut (old ++ quote all (take i pieces)) → new ≡ cut (between ++ piece_text all piece) → new ≡ cut (old ++ quote all (take (i + 1) pieces))
quote_pushed all pieces i piece old between new lt is e f = cut_then old between new (quote all (take i pieces)) (piece_text all piece) e f ∙ ap (λ (text : List ℕ). cut (old ++ text)) (sym (quote_more all pieces i piece lt is))

-- a full text has the quote of all
pub quote_full : (all : List Event) (pieces : List Piece) (n : ℕ) (old new : List ℕ) → length new ≡ kept_characters → new ≡ cut (old ++ quote all (take n pieces)) → new ≡ cut (old ++ quote all pieces)
quote_full all pieces n old new full e =
    cut_rest old new (quote all (take n pieces)) (quote all (drop n pieces)) e full
    ∙ ap (λ (text : List ℕ). cut (old ++ text)) (sym (flat_map-append (piece_text all) (take n pieces) (drop n pieces)) ∙ ap (quote all) (take-append-drop n pieces))

-- a full text has the quote up to the gap
pub gap_full : (all : List Event) (pieces : List Piece) (n : ℕ) (old new : List ℕ) → length new ≡ kept_characters → up_to_gap pieces ≡ take n pieces ++ up_to_gap (drop n pieces) → new ≡ cut (old ++ quote all (take n pieces)) → new ≡ cut (old ++ quote all (up_to_gap pieces))
gap_full all pieces n old new full g e =
    cut_rest old new (quote all (take n pieces)) (quote all (up_to_gap (drop n pieces))) e full
    ∙ ap (λ (text : List ℕ). cut (old ++ text)) (sym (flat_map-append (piece_text all) (take n pieces) (up_to_gap (drop n pieces))) ∙ ap (quote all) (sym g))

-- up to a gap, as far as none came
pub gap_more : (pieces : List Piece) (i : ℕ) (piece : Piece) → i < length pieces → piece ≡ get_or pieces i piece → is_gap piece ≡ false → up_to_gap pieces ≡ take i pieces ++ up_to_gap (drop i pieces) → up_to_gap pieces ≡ take (i + 1) pieces ++ up_to_gap (drop (i + 1) pieces)
gap_more pieces i piece lt is none e =
    e
    ∙ ap (λ (ps : List Piece). take i pieces ++ up_to_gap ps) (dropped pieces i piece lt is)
    ∙ ap (λ (ps : List Piece). take i pieces ++ ps) (goes_on piece (drop (i + 1) pieces) none)
    ∙ sym (append_assoc (take i pieces) (piece ∷ []) (up_to_gap (drop (i + 1) pieces)))
    ∙ ap (λ (ps : List Piece). ps ++ up_to_gap (drop (i + 1) pieces)) (sym (taken pieces i piece lt is))

-- a gap comes
pub gap_here : (pieces : List Piece) (i : ℕ) (piece : Piece) → i < length pieces → piece ≡ get_or pieces i piece → is_gap piece ≡ true → up_to_gap pieces ≡ take i pieces ++ up_to_gap (drop i pieces) → up_to_gap pieces ≡ take i pieces
gap_here pieces i piece lt is gap e =
    e
    ∙ ap (λ (ps : List Piece). take i pieces ++ up_to_gap ps) (dropped pieces i piece lt is)
    ∙ ap (λ (ps : List Piece). take i pieces ++ ps) (ends piece (drop (i + 1) pieces) gap)
    ∙ append-nil (take i pieces)

-- the first piece that is left
pub text_gap : (all : List Event) (pieces : List Piece) (i : ℕ) (piece : Piece) (text : List ℕ) → i < length pieces → piece ≡ get_or pieces i piece → is_gap piece ≡ true → up_to_gap pieces ≡ take i pieces ++ up_to_gap (drop i pieces) → text ≡ quote all (take i pieces) → text ≡ quote all (up_to_gap pieces)
text_gap all pieces i piece text lt is gap g e = e ∙ ap (quote all) (sym (gap_here pieces i piece lt is gap g))

pub cut_gap : (all : List Event) (pieces : List Piece) (i : ℕ) (piece : Piece) (old new : List ℕ) → i < length pieces → piece ≡ get_or pieces i piece → is_gap piece ≡ true → up_to_gap pieces ≡ take i pieces ++ up_to_gap (drop i pieces) → new ≡ cut (old ++ quote all (take i pieces)) → new ≡ cut (old ++ quote all (up_to_gap pieces))
cut_gap all pieces i piece old new lt is gap g e = e ∙ ap (λ (ps : List Piece). cut (old ++ quote all ps)) (sym (gap_here pieces i piece lt is gap g))

-- no gap comes
pub gap_never : (pieces : List Piece) (n : ℕ) → length pieces ≤ n → up_to_gap pieces ≡ take n pieces ++ up_to_gap (drop n pieces) → up_to_gap pieces ≡ take n pieces
gap_never pieces n le e = e ∙ ap (λ (ps : List Piece). take n pieces ++ up_to_gap ps) (drop_all n pieces le) ∙ append-nil (take n pieces)

-- what a piece shows is short
pub piece_kept : (all : List Event) (piece : Piece) → cut (piece_text all piece) ≡ piece_text all piece
piece_kept all Gap = refl
piece_kept all (Char char) = refl
piece_kept all (Number name format here) = take_of_take 512 512 _ (omega arith)
piece_kept all (Variable name here) = take_of_take 512 512 _ (omega arith)

pub joined_some : (number name : List ℕ) → (number ≡ [] → ⊥) → joined number name ≡ number ++ 32 ∷ name
joined_some [] name some = absurd (some refl)
joined_some (first ∷ number) name some = refl

below_128 : (n : ℕ) (xs : List ℕ) → n < 128 → ((i : ℕ) → slice_index xs i < 128) → (i : ℕ) → slice_index (n ∷ xs) i < 128
below_128 n xs lt h zero = lt
below_128 n xs lt h (suc i) = h i

none_128 : (i : ℕ) → slice_index [] i < 128
none_128 zero = omega arith
none_128 (suc i) = omega arith

pub says_above : (target : Target) (here : Spot) (old new : List ℕ) → is_before target.spot here ≡ true → new ≡ cut (old ++ chars (codes "above")) → new ≡ cut (old ++ direction_form target here)
says_above target here old new e f =
    let word : direction_form target here ≡ codes "above" = rw e refl in
    f ∙ ap (λ (text : List ℕ). cut (old ++ text)) (chars-IsAscii (codes "above") (below_128 97 (98 ∷ 111 ∷ 118 ∷ 101 ∷ []) (omega arith) (below_128 98 (111 ∷ 118 ∷ 101 ∷ []) (omega arith) (below_128 111 (118 ∷ 101 ∷ []) (omega arith) (below_128 118 (101 ∷ []) (omega arith) (below_128 101 [] (omega arith) none_128))))) ∙ sym word)

pub says_below : (target : Target) (here : Spot) (old new : List ℕ) → is_before target.spot here ≡ false → new ≡ cut (old ++ chars (codes "below")) → new ≡ cut (old ++ direction_form target here)
says_below target here old new e f =
    let word : direction_form target here ≡ codes "below" = rw e refl in
    f ∙ ap (λ (text : List ℕ). cut (old ++ text)) (chars-IsAscii (codes "below") (below_128 98 (101 ∷ 108 ∷ 111 ∷ 119 ∷ []) (omega arith) (below_128 101 (108 ∷ 111 ∷ 119 ∷ []) (omega arith) (below_128 108 (111 ∷ 119 ∷ []) (omega arith) (below_128 111 (119 ∷ []) (omega arith) (below_128 119 [] (omega arith) none_128))))) ∙ sym word)
