-- Each line of a key begins and ends between characters of the key's text, and so does each unit of a text.
use Rattle.std.proofs.Common.{◌≡◌, ℕ, ◌+◌, ◌<◌, ◌≤◌, le_refl, zero, suc, Bool, true, false, cond, ◌==◌, List, [], ◌∷◌, ◌++◌, map, length, take, drop, reverse, get_or, refl, sym, ap, ap₂, subst, ◌∙◌, arith, append_assoc, append-nil, length-append, take-append-drop, take_at, drop_at, encode_utf8, encode_utf8_all, chars, IsUtf8, IsCharBoundary}
use Rattle.std.specs.List.{All, Contains, concat}
use Rattle.std.proofs.Math.Seq.{get_or-append_seam}
use Rattle.std.proofs.lemmas.Bool.Decides.{nat_tests}
use Rattle.std.proofs.lemmas.List.{reverse-append, reverse-reverse}
use Rattle.std.proofs.lemmas.List.Elements.{All-nil, All-cons, All-append, All-contains}
use Rattle.std.proofs.lemmas.Str.{IsCharBoundary-start, IsCharBoundary-at_seam, IsCharBoundary-before_ascii, IsCharBoundary-after_ascii, IsUtf8-past_char, IsUtf8-take, IsUtf8-drop}
use Rattle.unicode_segmentation.specs.Grapheme.{graphemes, is_grapheme_break}
use Rattle.unicode_segmentation.specs.Segments as Pieces
use Rattle.unicode_segmentation.proofs.SegmentsLemmas.{concat-segments}
use Rattle.line_model.specs.declared.unit.TextUnit.{TextUnit}
use Rattle.line_model.specs.declared.key.Key.{Key}
use Rattle.line_model.specs.declared.key.Line.{Line}
use Rattle.line_model.specs.Units.{units_from, units_at, is_space}
use Rattle.line_model.specs.Lines.{width, line_length, end_of, without_last_spaces, lines_of_units, segments, lines_of_segment, lines_of_segments, lines_of}

-- ---- units

-- a place between characters of a text, and not before another
pub record IsPlaceFrom (text : List ℕ) (from to : ℕ) : Type 0 where
  pub grows : from ≤ to
  pub boundary : IsCharBoundary text to

-- units that follow one another in a text from a place on, each ending between characters
abbrev pub Follow : List ℕ → ℕ → List TextUnit → Type 0
Follow text from [] = Unit {0}
Follow text from (unit ∷ units) = IsPlaceFrom text from unit.to × Follow text unit.to units

IsUtf8-past : (cs rest : List ℕ) → IsUtf8 (encode_utf8_all cs ++ rest) → IsUtf8 rest
IsUtf8-past [] rest u = u
IsUtf8-past (c ∷ cs) rest u = IsUtf8-past cs rest (IsUtf8-past_char _ _ c u (append_assoc (encode_utf8 c) (encode_utf8_all cs) rest))

Follow-units_from : (text front tail : List ℕ) (clusters : List (List ℕ)) → text ≡ front ++ (concat (map encode_utf8_all clusters) ++ tail) → IsUtf8 (concat (map encode_utf8_all clusters) ++ tail) → Follow text (length front) (units_from (length front) (map encode_utf8_all clusters))
Follow-units_from text front tail [] e u = tt
Follow-units_from text front tail (cs ∷ clusters) e u =
    let p = encode_utf8_all cs in
    let rest = concat (map encode_utf8_all clusters) ++ tail in
    let joined : concat (map encode_utf8_all (cs ∷ clusters)) ++ tail ≡ p ++ rest = append_assoc p (concat (map encode_utf8_all clusters)) tail in
    let split : text ≡ (front ++ p) ++ rest = e ∙ ap (λ l. front ++ l) joined ∙ sym (append_assoc front p rest) in
    let later : IsUtf8 rest = IsUtf8-past cs rest (subst IsUtf8 joined u) in
    let place : length (front ++ p) ≡ length front + length p = length-append front p in (
      record { grows = omega arith; boundary = subst (IsCharBoundary text) place (IsCharBoundary-at_seam text (front ++ p) rest split later) },
      subst (λ n. Follow text n (units_from n (map encode_utf8_all clusters))) place (Follow-units_from text (front ++ p) tail clusters split later),
    )

-- the units of a part of a text
pub Follow-units_at : (text front part tail : List ℕ) → text ≡ front ++ (part ++ tail) → IsUtf8 part → IsUtf8 (part ++ tail) → Follow text (length front) (units_at (length front) part)
unfolding Pieces.segments
Follow-units_at text front part tail e p u =
    let whole : part ≡ concat (graphemes true part) = sym (concat-segments (is_grapheme_break true) part p) in
    Follow-units_from text front tail (Pieces.cut (is_grapheme_break true) [] (chars part) [])
    (e ∙ ap (λ l. front ++ (l ++ tail)) whole) (subst (λ l. IsUtf8 (l ++ tail)) whole u)

pub end_of-append : (text : List ℕ) (from : ℕ) (front back : List TextUnit) → IsCharBoundary text from → Follow text from (front ++ back) → IsPlaceFrom text from (end_of from front)
end_of-append text from [] back b f = record { grows = le_refl from; boundary = b }
end_of-append text from (unit ∷ front) back b f =
    let rest = end_of-append text unit.to front back f.0.boundary f.1 in
    record { grows = omega (arith, f.0.grows, rest.grows); boundary = rest.boundary }

Follow-append : (text : List ℕ) (from : ℕ) (front back : List TextUnit) → Follow text from (front ++ back) → Follow text (end_of from front) back
Follow-append text from [] back f = f
Follow-append text from (unit ∷ front) back f = Follow-append text unit.to front back f.1

-- ---- units without the spaces at their end

abbrev past_spaces : List TextUnit → List TextUnit
past_spaces [] = []
past_spaces (unit ∷ more) = cond (is_space unit) (past_spaces more) (unit ∷ more)

past_spaces-back : (units : List TextUnit) → (spaces : List TextUnit) × (units ≡ spaces ++ past_spaces units)
past_spaces-back [] = ([], refl)
past_spaces-back (unit ∷ more) = one (is_space unit) (past_spaces-back more) where
  one : (b : Bool) → (spaces : List TextUnit) × (more ≡ spaces ++ past_spaces more) → (spaces : List TextUnit) × (unit ∷ more ≡ spaces ++ cond b (past_spaces more) (unit ∷ more))
  one true rest = (unit ∷ rest.0, ap (λ l. unit ∷ l) rest.1)
  one false rest = ([], refl)

without_last_spaces-front : (units : List TextUnit) → (spaces : List TextUnit) × (units ≡ without_last_spaces units ++ spaces)
without_last_spaces-front units =
    let back = past_spaces-back (reverse units) in
    (reverse back.0, sym (reverse-reverse units) ∙ ap reverse back.1 ∙ reverse-append back.0 (past_spaces (reverse units)))

-- the units of a text without the spaces at their end are those of the part before a place
pub without_last_spaces-place : (text : List ℕ) → IsUtf8 text → IsCharBoundary text (end_of 0 (without_last_spaces (units_at 0 text)))
without_last_spaces-place text u =
    let front = without_last_spaces-front (units_at 0 text) in
    let whole : text ≡ text ++ [] = sym (append-nil text) in
    let follow = Follow-units_at text [] text [] whole u (subst IsUtf8 whole u) in
    (end_of-append text 0 _ front.0 (IsCharBoundary-start text u) (subst (Follow text 0) front.1 follow)).boundary

-- ---- lines

-- a line whose ends stand between characters of a text, in order
pub record IsLineOf (text : List ℕ) (line : Line) : Type 0 where
  pub start : IsCharBoundary text line.from
  pub end : IsCharBoundary text line.to
  pub grows : line.from ≤ line.to

-- the lines of units from a place on, at most so many
abbrev pub lines_at_most : Key → ℕ → ℕ → List TextUnit → List Line
lines_at_most key zero from units = []
lines_at_most key (suc most) from [] = []
lines_at_most key (suc most) from (unit ∷ more) =
    record { from = from; to = end_of from (take (line_length (width key from) (unit ∷ more)) (unit ∷ more)) }
    ∷ lines_at_most key most (end_of from (take (line_length (width key from) (unit ∷ more)) (unit ∷ more))) (drop (line_length (width key from) (unit ∷ more)) (unit ∷ more))

pub lines_of_units-at_most : (key : Key) (from : ℕ) (units : List TextUnit) → lines_of_units key from units ≡ lines_at_most key (length units) from units
lines_of_units-at_most key from units = refl

All-lines_at_most : (text : List ℕ) (key : Key) (most from : ℕ) (units : List TextUnit) → IsCharBoundary text from → Follow text from units → All (IsLineOf text) (lines_at_most key most from units)
All-lines_at_most text key zero from units b f = All-nil (IsLineOf text)
All-lines_at_most text key (suc most) from [] b f = All-nil (IsLineOf text)
All-lines_at_most text key (suc most) from (unit ∷ more) b f =
    let count = line_length (width key from) (unit ∷ more) in
    let parts : Follow text from (take count (unit ∷ more) ++ drop count (unit ∷ more)) = subst (Follow text from) (sym (take-append-drop count (unit ∷ more))) f in
    let end = end_of-append text from (take count (unit ∷ more)) (drop count (unit ∷ more)) b parts in
    All-cons (IsLineOf text) _ _ (record { start = b; end = end.boundary; grows = end.grows })
    (All-lines_at_most text key most _ _ end.boundary (Follow-append text from (take count (unit ∷ more)) (drop count (unit ∷ more)) parts))

All-lines_of_segment : (text : List ℕ) (key : Key) (front segment tail : List ℕ) → text ≡ front ++ (segment ++ tail) → IsUtf8 segment → IsUtf8 (segment ++ tail) → All (IsLineOf text) (lines_of_segment key (length front) segment)
All-lines_of_segment text key front [] tail e p u =
    let place = IsCharBoundary-at_seam text front tail e u in
    All-cons (IsLineOf text) _ [] (record { start = place; end = place; grows = le_refl _ }) (All-nil (IsLineOf text))
All-lines_of_segment text key front (byte ∷ bytes) tail e p u =
    All-lines_at_most text key _ (length front) _ (IsCharBoundary-at_seam text front _ e u) (Follow-units_at text front (byte ∷ bytes) tail e p u)

-- ---- segments

-- segments with a break between two
abbrev joined : List (List ℕ) → List ℕ
joined [] = []
joined (segment ∷ []) = segment
joined (segment ∷ (next ∷ more)) = segment ++ 0xa ∷ joined (next ∷ more)

abbrev put_in_front : ℕ → List (List ℕ) → List (List ℕ)
put_in_front byte [] = []
put_in_front byte (segment ∷ more) = (byte ∷ segment) ∷ more

joined-front : (byte : ℕ) (first : List ℕ) (more : List (List ℕ)) → joined ((byte ∷ first) ∷ more) ≡ byte ∷ joined (first ∷ more)
joined-front byte first [] = refl
joined-front byte first (next ∷ more) = refl

-- lists of one segment or more that are joined to a text
abbrev SplitsTo : List (List ℕ) → List ℕ → Type 0
SplitsTo all bytes = (first : List ℕ) × (more : List (List ℕ)) × (all ≡ first ∷ more) × (joined (first ∷ more) ≡ bytes)

SplitsTo-byte : (byte : ℕ) (bytes first : List ℕ) (more : List (List ℕ)) (b : Bool) → (b ≡ true → byte ≡ 0xa) → joined (first ∷ more) ≡ bytes → SplitsTo (cond b ([] ∷ (first ∷ more)) (put_in_front byte (first ∷ more))) (byte ∷ bytes)
SplitsTo-byte byte bytes first more true e j = ([], first ∷ more, refl, ap₂ (λ x xs. x ∷ xs) (sym (e refl)) j)
SplitsTo-byte byte bytes first more false e j = (byte ∷ first, more, refl, joined-front byte first more ∙ ap (λ l. byte ∷ l) j)

is_break : (byte : ℕ) → (byte == 0xa) ≡ true → byte ≡ 0xa
is_break byte e = grind (arith, nat_tests)

segments-joined : (bytes : List ℕ) → SplitsTo (segments bytes) bytes
segments-joined [] = ([], [], refl, refl)
segments-joined (byte ∷ bytes) =
    let rest = segments-joined bytes in
    subst (λ all. SplitsTo (cond (byte == 0xa) ([] ∷ all) (put_in_front byte all)) (byte ∷ bytes)) (sym rest.2)
    (SplitsTo-byte byte bytes rest.0 rest.1 (byte == 0xa) (is_break byte) rest.3)

-- both sides of a break are texts
record IsBroken (front back : List ℕ) : Type 0 where
  before : IsUtf8 front
  from : IsUtf8 (0xa ∷ back)
  after : IsUtf8 back

IsBroken-utf8 : (front back : List ℕ) → IsUtf8 (front ++ 0xa ∷ back) → IsBroken front back
IsBroken-utf8 front back u =
    let whole = front ++ 0xa ∷ back in
    let size = length-append front (0xa ∷ back) in
    let inside : length front < length whole = omega arith in
    let byte : get_or whole (length front) 0 ≡ 0xa = get_or-append_seam front 0xa back 0 in
    let small : get_or whole (length front) 0 < 128 = omega arith in
    let cut = IsCharBoundary-before_ascii whole (length front) inside small in
    let past = IsCharBoundary-after_ascii whole (length front) u inside small in
    let wide : length (front ++ 0xa ∷ []) ≡ length front + 1 = length-append front (0xa ∷ []) in
    record {
      before = subst IsUtf8 (take_at front (0xa ∷ back) _ refl) (IsUtf8-take whole _ u cut);
      from = subst IsUtf8 (drop_at front (0xa ∷ back) _ refl) (IsUtf8-drop whole _ u cut);
      after = subst IsUtf8 (ap (drop (length front + 1)) (sym (append_assoc front (0xa ∷ []) back)) ∙ drop_at (front ++ 0xa ∷ []) back _ wide) (IsUtf8-drop whole _ u past);
    }

All-lines_of_segments : (text : List ℕ) (key : Key) (front first : List ℕ) (more : List (List ℕ)) → text ≡ front ++ joined (first ∷ more) → IsUtf8 (joined (first ∷ more)) → All (IsLineOf text) (lines_of_segments key (length front) (first ∷ more))
All-lines_of_segments text key front first [] e u =
    let whole : first ≡ first ++ [] = sym (append-nil first) in
    All-append (IsLineOf text) _ [] (All-lines_of_segment text key front first [] (e ∙ ap (λ l. front ++ l) whole) u (subst IsUtf8 whole u)) (All-nil (IsLineOf text))
All-lines_of_segments text key front first (next ∷ more) e u =
    let rest = joined (next ∷ more) in
    let broken = IsBroken-utf8 first rest u in
    let place : length (front ++ (first ++ 0xa ∷ [])) ≡ length front + length first + 1 = omega (arith, length-append front (first ++ 0xa ∷ []), length-append first (0xa ∷ [])) in
    let past : text ≡ (front ++ (first ++ 0xa ∷ [])) ++ rest =
    e ∙ ap (λ l. front ++ l) (sym (append_assoc first (0xa ∷ []) rest)) ∙ sym (append_assoc front (first ++ 0xa ∷ []) rest) in
    All-append (IsLineOf text) _ _ (All-lines_of_segment text key front first (0xa ∷ rest) e broken.before u)
    (subst (λ n. All (IsLineOf text) (lines_of_segments key n (next ∷ more))) place
    (All-lines_of_segments text key (front ++ (first ++ 0xa ∷ [])) next more past broken.after))

-- each line of a key begins and ends between characters of its text
pub All-lines_of : (key : Key) → IsUtf8 key.text → All (IsLineOf key.text) (lines_of key)
unfolding lines_of
All-lines_of key u = one key.hidden where
  shown : All (IsLineOf key.text) (lines_of_segments key 0 (segments key.text))
  shown =
      let split = segments-joined key.text in
      subst (λ all. All (IsLineOf key.text) (lines_of_segments key 0 all)) (sym split.2)
      (All-lines_of_segments key.text key [] split.0 split.1 (sym split.3) (subst IsUtf8 (sym split.3) u))

  one : (b : Bool) → All (IsLineOf key.text) (cond b [] (lines_of_segments key 0 (segments key.text)))
  one true = All-nil (IsLineOf key.text)
  one false = shown

pub IsLineOf-key : (key : Key) (line : Line) → IsUtf8 key.text → Contains (lines_of key) line → IsLineOf key.text line
IsLineOf-key key line u in' = All-contains (IsLineOf key.text) (lines_of key) line (All-lines_of key u) in'
