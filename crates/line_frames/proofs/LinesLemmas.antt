-- Lines one after another, and units so many bytes further on.
use Rattle.std.proofs.Common.{◌≡◌, ℕ, ◌+◌, ◌-◌, ◌^◌, ◌<◌, ◌≤◌, List, [], ◌∷◌, ◌++◌, Bool, true, false, ◌&&◌, if◌then◌else◌, Option, Some, refl, length, drop, take, zero, suc, reverse, arith, ap, sym, ◌∙◌, subst, get_or, length-drop, leb, ◌==◌, append-nil, IsUtf8}
use Rattle.std.proofs.lemmas.Bool.Decides.{nat_tests}
use Rattle.std.proofs.lemmas.List.{append_assoc, length-map, take-map, drop-map, map-append, reverse-append, length-take-le}
use Rattle.line_model.specs.declared.unit.TextUnit.{TextUnit}
use Rattle.line_model.specs.declared.key.Key.{Key}
use Rattle.line_model.specs.declared.key.Line.{Line}
use Rattle.line_model.specs.Units.{is_space, units_from, units_at, unit_at}
use Rattle.line_model.specs.Lines.{width, columns_of, without_last_spaces, fits, may_end_behind, greatest_to, or_else, line_length, end_of, lines_of_units, lines_of_segment, lines_of_segments, segments}
use Rattle.break_units.proofs.Places.{Follow, Follow-units_at, lines_at_most}
use Rattle.line_frames.specs.Further.{unit_further, further, EndShort}
use Rattle.line_frames.proofs.LineLemmas.{fits_to, ends_at, line_length-within}

-- how many of some units are the line that begins at a place, where it ends, and what stands behind it
abbrev count_of : Key → ℕ → List TextUnit → ℕ
count_of key from units = line_length (width key from) units

abbrev behind : Key → ℕ → List TextUnit → ℕ
behind key from units = end_of from (take (count_of key from units) units)

abbrev rest_of : Key → ℕ → List TextUnit → List TextUnit
rest_of key from units = drop (count_of key from units) units

shorter : (key : Key) (from : ℕ) (unit : TextUnit) (more : List TextUnit) → length (rest_of key from (unit ∷ more)) ≤ length more
shorter key from unit more =
    omega (arith, length-drop (count_of key from (unit ∷ more)) (unit ∷ more), (line_length-within (width key from) (unit ∷ more)).0)

-- where there may be as many lines as units, more make no difference
enough : (key : Key) (m k from : ℕ) (units : List TextUnit) → length units ≤ m → length units ≤ k → lines_at_most key m from units ≡ lines_at_most key k from units
enough key zero zero from units p q = refl
enough key zero (suc k) from [] p q = refl
enough key zero (suc k) from (unit ∷ more) p q = absurd (omega arith)
enough key (suc m) zero from [] p q = refl
enough key (suc m) zero from (unit ∷ more) p q = absurd (omega arith)
enough key (suc m) (suc k) from [] p q = refl
enough key (suc m) (suc k) from (unit ∷ more) p q =
    let less = shorter key from unit more in
    ap (λ (lines : List Line). record { from = from; to = behind key from (unit ∷ more) } ∷ lines)
    (enough key m k (behind key from (unit ∷ more)) (rest_of key from (unit ∷ more)) (omega arith) (omega arith))

-- the first line, and the lines of what stands behind it
lines_of_units-cons : (key : Key) (from : ℕ) (units : List TextUnit) → 0 < length units
    → lines_of_units key from units ≡ record { from = from; to = behind key from units } ∷ lines_of_units key (behind key from units) (rest_of key from units)
lines_of_units-cons key from [] filled = absurd (omega arith)
lines_of_units-cons key from (unit ∷ more) filled =
    ap (λ (lines : List Line). record { from = from; to = behind key from (unit ∷ more) } ∷ lines)
    (enough key (length more) (length (rest_of key from (unit ∷ more))) (behind key from (unit ∷ more)) (rest_of key from (unit ∷ more))
    (shorter key from unit more) (omega arith))

-- the end of units is that of the last
pub end_of-last : (units : List TextUnit) (from : ℕ) (d : TextUnit) → 0 < length units → (get_or units (length units - 1) d).to ≡ end_of from units
end_of-last [] from d h = absurd (omega arith)
end_of-last (unit ∷ []) from d h = refl
end_of-last (unit ∷ (next ∷ more)) from d h =
    let e : length (unit ∷ (next ∷ more)) - 1 ≡ suc (length (next ∷ more) - 1) = omega arith in
    ap (λ (n : ℕ). (get_or (unit ∷ (next ∷ more)) n d).to) e ∙ end_of-last (next ∷ more) unit.to d (omega arith)

-- a unit further on takes the same columns and has the same class
columns_of-further : (by : ℕ) (units : List TextUnit) → columns_of (further by units) ≡ columns_of units
columns_of-further by [] = refl
columns_of-further by (unit ∷ more) = ap (λ (n : ℕ). unit.columns + n) (columns_of-further by more)

abbrev from_no_space : List TextUnit → List TextUnit
from_no_space [] = []
from_no_space (unit ∷ more) = if is_space unit then from_no_space more else unit ∷ more

cond-further : (by : ℕ) (b : Bool) (kept : List TextUnit) (unit : TextUnit) (more : List TextUnit)
    → (if b then further by kept else unit_further by unit ∷ further by more) ≡ further by (if b then kept else unit ∷ more)
cond-further by true kept unit more = refl
cond-further by false kept unit more = refl

from_no_space-further : (by : ℕ) (units : List TextUnit) → from_no_space (further by units) ≡ further by (from_no_space units)
from_no_space-further by [] = refl
from_no_space-further by (unit ∷ more) =
    ap (λ (kept : List TextUnit). if is_space unit then kept else unit_further by unit ∷ further by more) (from_no_space-further by more)
    ∙ cond-further by (is_space unit) (from_no_space more) unit more

reverse-further : (by : ℕ) (units : List TextUnit) → reverse (further by units) ≡ further by (reverse units)
reverse-further by [] = refl
reverse-further by (unit ∷ more) =
    reverse-append (unit_further by unit ∷ []) (further by more) ∙ ap (λ (l : List TextUnit). l ++ unit_further by unit ∷ []) (reverse-further by more)
    ∙ sym (map-append (unit_further by) (reverse more) (unit ∷ [])) ∙ ap (further by) (sym (reverse-append (unit ∷ []) more))

without-further : (by : ℕ) (units : List TextUnit) → without_last_spaces (further by units) ≡ further by (without_last_spaces units)
without-further by units =
    ap (λ (l : List TextUnit). reverse (from_no_space l)) (reverse-further by units)
    ∙ ap reverse (from_no_space-further by (reverse units)) ∙ reverse-further by (from_no_space (reverse units))

fits_to-further : (width by : ℕ) (units : List TextUnit) (count : ℕ) → fits_to width (further by units) count ≡ fits_to width units count
fits_to-further width by units count =
    ap (fits width) (take-map (unit_further by) count units)
    ∙ ap (λ (n : ℕ). leb n width) (ap columns_of (without-further by (take count units)) ∙ columns_of-further by (without_last_spaces (take count units)))

first-further : (by : ℕ) (units : List TextUnit) → may_end_behind 1 (further by units) ≡ may_end_behind 1 units
first-further by [] = refl
first-further by (unit ∷ []) = refl
first-further by (unit ∷ (next ∷ more)) = refl

may_end-further : (by : ℕ) (units : List TextUnit) (count : ℕ) → may_end_behind count (further by units) ≡ may_end_behind count units
may_end-further by units count = ap (may_end_behind 1) (drop-map (unit_further by) (count - 1) units) ∙ first-further by (drop (count - 1) units)

ends_at-further : (width by : ℕ) (units : List TextUnit) (count : ℕ) → ends_at width (further by units) count ≡ ends_at width units count
ends_at-further width by units count =
    ap (λ (b : Bool). b && fits_to width (further by units) count) (may_end-further by units count)
    ∙ ap (λ (b : Bool). may_end_behind count units && b) (fits_to-further width by units count)

greatest_to-same : (f g : ℕ → Bool) (n : ℕ) → ((m : ℕ) → f m ≡ g m) → greatest_to n f ≡ greatest_to n g
greatest_to-same f g zero same = refl
greatest_to-same f g (suc n) same =
    ap (λ (b : Bool). if b then Some (suc n) else greatest_to n f) (same (suc n))
    ∙ ap (λ (o : Option ℕ). if g (suc n) then Some (suc n) else o) (greatest_to-same f g n same)

pub line_length-further : (width by : ℕ) (units : List TextUnit) → line_length width (further by units) ≡ line_length width units
line_length-further width by units =
    ap (λ (n : ℕ). or_else (greatest_to n (ends_at width (further by units))) (greatest_to n (fits_to width (further by units))) 1) (length-map units (unit_further by))
    ∙ ap (λ (o : Option ℕ). or_else o (greatest_to (length units) (fits_to width (further by units))) 1)
    (greatest_to-same (ends_at width (further by units)) (ends_at width units) (length units) (ends_at-further width by units))
    ∙ ap (λ (o : Option ℕ). or_else (greatest_to (length units) (ends_at width units)) o 1)
    (greatest_to-same (fits_to width (further by units)) (fits_to width units) (length units) (fits_to-further width by units))

end_of-further : (by from : ℕ) (units : List TextUnit) → 0 < length units → end_of from (further by units) ≡ by + end_of 0 units
end_of-further by from [] h = absurd (omega arith)
end_of-further by from (unit ∷ []) h = refl
end_of-further by from (unit ∷ (next ∷ more)) h = end_of-further by (by + unit.to) (next ∷ more) (omega arith)

-- the first line of units further on, and the lines of what stands behind it
pub lines-step : (key : Key) (by from n : ℕ) (units : List TextUnit) → 0 < length units → n ≡ line_length (width key from) units
    → lines_of_units key from (further by units)
    ≡ record { from = from; to = by + end_of 0 (take n units) } ∷ lines_of_units key (by + end_of 0 (take n units)) (further by (drop n units))
lines-step key by from n units filled e =
    let some : 1 ≤ n = rw e (line_length-within (width key from) units).0 in
    let within : n ≤ length units = rw e ((line_length-within (width key from) units).1 filled) in
    let same : count_of key from (further by units) ≡ n = line_length-further (width key from) by units ∙ sym e in
    let taken : 0 < length (take n units) = omega (arith, length-take-le n units within) in
    let to : behind key from (further by units) ≡ by + end_of 0 (take n units)
    = ap (λ (m : ℕ). end_of from (take m (further by units))) same ∙ ap (end_of from) (take-map (unit_further by) n units) ∙ end_of-further by from (take n units) taken in
    let rest : rest_of key from (further by units) ≡ further by (drop n units)
    = ap (λ (m : ℕ). drop m (further by units)) same ∙ drop-map (unit_further by) n units in
    lines_of_units-cons key from (further by units) (omega (arith, length-map units (unit_further by)))
    ∙ ap (λ (to : ℕ). record { from = from; to = to } ∷ lines_of_units key to (rest_of key from (further by units))) to
    ∙ ap (λ (rest : List TextUnit). record { from = from; to = by + end_of 0 (take n units) } ∷ lines_of_units key (by + end_of 0 (take n units)) rest) rest

-- one more line behind others
pub lines-push : (key : Key) (by from n : ℕ) (units : List TextUnit) (lines all : List Line) → 0 < length units → n ≡ line_length (width key from) units
    → lines ++ lines_of_units key from (further by units) ≡ all
    → (lines ++ record { from = from; to = by + end_of 0 (take n units) } ∷ []) ++ lines_of_units key (by + end_of 0 (take n units)) (further by (drop n units)) ≡ all
lines-push key by from n units lines all filled e so_far =
    append_assoc lines (record { from = from; to = by + end_of 0 (take n units) } ∷ []) (lines_of_units key (by + end_of 0 (take n units)) (further by (drop n units)))
    ∙ ap (λ (more : List Line). lines ++ more) (sym (lines-step key by from n units filled e)) ∙ so_far

pub end_of-short : (by from n : ℕ) (units : List TextUnit) → by + from < 2 ^ 32 → EndShort by units → by + end_of from (take n units) < 2 ^ 32
end_of-short by from zero units h all = h
end_of-short by from (suc n) [] h all = h
end_of-short by from (suc n) (unit ∷ more) h all = end_of-short by unit.to n more all.0 all.1

pub short-drop : (by n : ℕ) (units : List TextUnit) → EndShort by units → EndShort by (drop n units)
short-drop by zero units all = all
short-drop by (suc n) [] all = all
short-drop by (suc n) (unit ∷ more) all = short-drop by n more all.1

-- what `is_empty` says of units that there are
pub filled : (n : ℕ) (said : Bool) → said ≡ (n == 0) → said ≡ false → 0 < n
filled zero said e f = let t : said ≡ true = e in absurd (cc)
filled (suc n) said e f = omega arith

-- the units of a text further on
units_from-further : (by from : ℕ) (clusters : List (List ℕ)) → units_from (by + from) clusters ≡ further by (units_from from clusters)
units_from-further by from [] = refl
units_from-further by from (cluster ∷ more) =
    let e : by + from + length cluster ≡ by + (from + length cluster) = omega arith in
    ap (λ (to : ℕ). record (unit_at (by + from) cluster) { to = to } ∷ units_from to more) e
    ∙ ap (λ (units : List TextUnit). unit_further by (unit_at from cluster) ∷ units) (units_from-further by (from + length cluster) more)

units_from-further_all : (by : ℕ) (clusters : List (List ℕ)) → units_from by clusters ≡ further by (units_from 0 clusters)
units_from-further_all by clusters =
    let e : by ≡ by + 0 = omega arith in
    ap (λ (from : ℕ). units_from from clusters) e ∙ units_from-further by 0 clusters

pub units_at-further : (by : ℕ) (text : List ℕ) → units_at by text ≡ further by (units_at 0 text)
units_at-further by text = units_from-further_all by _

Follow-short : (by from : ℕ) (text : List ℕ) (units : List TextUnit) → by + length text < 2 ^ 32 → Follow text from units → EndShort by units
Follow-short by from text [] h f = tt
Follow-short by from text (unit ∷ more) h f = (omega (arith, f.0.boundary.0), Follow-short by unit.to text more h f.1)

pub EndShort-units_at : (by : ℕ) (text : List ℕ) → IsUtf8 text → by + length text < 2 ^ 32 → EndShort by (units_at 0 text)
EndShort-units_at by text u h =
    Follow-short by 0 text (units_at 0 text) h (Follow-units_at text [] text [] (sym (append-nil text)) u (subst IsUtf8 (sym (append-nil text)) u))

pub lines_of_segment-filled : (key : Key) (from : ℕ) (text : List ℕ) → 0 < length text → lines_of_segment key from text ≡ lines_of_units key from (further from (units_at 0 text))
lines_of_segment-filled key from [] h = absurd (omega arith)
lines_of_segment-filled key from (byte ∷ bytes) h = ap (lines_of_units key from) (units_at-further from (byte ∷ bytes))

-- whether a text has no break
abbrev pub NoBreak : List ℕ → Type 0
NoBreak text = (i : ℕ) → i < length text → get_or text i 0 ≡ 10 → ⊥

NoBreak-rest : (byte : ℕ) (bytes : List ℕ) → NoBreak (byte ∷ bytes) → NoBreak bytes
NoBreak-rest byte bytes none = λ i h e. none (suc i) (omega arith) e

no_break : (byte : ℕ) (bytes : List ℕ) → NoBreak (byte ∷ bytes) → (byte == 10) ≡ false
no_break byte bytes none = let other : byte ≡ 10 → ⊥ = λ e. none 0 (omega arith) e in grind (arith, nat_tests)

-- the first segment of a text with a break, and the one of a text without
pub segments-break : (segment more : List ℕ) → NoBreak segment → segments (segment ++ 10 ∷ more) ≡ segment ∷ segments more
segments-break [] more none = refl
segments-break (byte ∷ bytes) more none = rw (no_break byte bytes none) (rw (segments-break bytes more (NoBreak-rest byte bytes none)) refl)

pub segments-last : (text : List ℕ) → NoBreak text → segments text ≡ text ∷ []
segments-last [] none = refl
segments-last (byte ∷ bytes) none = rw (no_break byte bytes none) (rw (segments-last bytes (NoBreak-rest byte bytes none)) refl)

-- the lines of one more segment, and of the last, behind others
pub segments-push : (key : Key) (from : ℕ) (text segment more : List ℕ) (lines all : List Line) → text ≡ segment ++ 10 ∷ more → NoBreak segment
    → lines ++ lines_of_segments key from (segments text) ≡ all
    → (lines ++ lines_of_segment key from segment) ++ lines_of_segments key (from + (length segment + 1)) (segments more) ≡ all
segments-push key from text segment more lines all parts none so_far =
    let first : segments text ≡ segment ∷ segments more = ap segments parts ∙ segments-break segment more none in
    let place : from + (length segment + 1) ≡ from + length segment + 1 = omega arith in
    ap (λ (n : ℕ). (lines ++ lines_of_segment key from segment) ++ lines_of_segments key n (segments more)) place
    ∙ append_assoc lines (lines_of_segment key from segment) (lines_of_segments key (from + length segment + 1) (segments more))
    ∙ ap (λ (l : List (List ℕ)). lines ++ lines_of_segments key from l) (sym first) ∙ so_far

pub segments-end : (key : Key) (from : ℕ) (text : List ℕ) (lines all : List Line) → NoBreak text → lines ++ lines_of_segments key from (segments text) ≡ all
    → lines ++ lines_of_segment key from text ≡ all
segments-end key from text lines all none so_far =
    ap (λ (l : List Line). lines ++ l) (sym (append-nil (lines_of_segment key from text)))
    ∙ ap (λ (l : List (List ℕ)). lines ++ lines_of_segments key from l) (sym (segments-last text none)) ∙ so_far
