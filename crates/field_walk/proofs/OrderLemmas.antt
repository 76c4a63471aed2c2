-- What was gathered in the order of rows stands in reading order, in the body and in notes.
use Rattle.std.proofs.Common.{◌≡◌, ℕ, ◌+◌, ◌-◌, ◌<◌, ◌≤◌, Bool, true, false, List, [], ◌∷◌, ◌++◌, length, get_or, refl, ap, ◌∙◌, arith}
use Rattle.std.specs.Prelude.{◌&&◌, nat_lt, nat_le, ◌||◌, ◌==◌}
use Rattle.std.specs.List.{All, AllWithin}
use Rattle.std.specs.Str.{bytes_eq}
use Rattle.std.specs.List.Sorted.{IsNonDecreasingBy, IsPartitionedBy}
use Rattle.std.proofs.lemmas.List.{length-append}
use Rattle.std.proofs.lemmas.List.Elements.{All-push}
use Rattle.std.proofs.lemmas.List.Sorted.{IsNonDecreasingBy-push}
use Rattle.std.proofs.Math.ListN.{get_or-append}
use Rattle.std.proofs.Math.Seq.{get_or-append_right}
use Rattle.std.proofs.lemmas.Grind.{common_steps}
use Rattle.std.proofs.lemmas.Bool.Decides.{nat_tests}
use Rattle.std.proofs.lemmas.Grind.{get_or_default_zero}
use Rattle.std.proofs.Common.{⊎_elim}
use Rattle.std.proofs.lemmas.Bool.{cases_lt}
use Rattle.doc_model.specs.declared.field.NoteClass.{NoteClass}
use Rattle.doc_model.specs.declared.paragraph.ParHead.{ParHead}
use Rattle.doc_model.specs.declared.page.Label.{Label}
use Rattle.field_model.specs.Gathered.{IsNext}
use Rattle.field_model.specs.declared.gathered.Gathered.{Gathered}
use Rattle.field_model.specs.declared.gathered.Gathered.TheVariants as place
use Rattle.field_model.specs.declared.gathered.Spot.{Spot}
use Rattle.field_model.specs.declared.gathered.VariableSet.{VariableSet}
use Rattle.field_model.specs.Gathered.{Event, Head, Letter, Counted, Assigned, Asked, Cited, Marked, Other, in_note, note_place, note_places, note_number, anchor_of, spot, same_text, is_up_to, is_before, AreInOrder}
use Rattle.field_model.specs.Fields.{counted, assigned, and_then, when}
use Rattle.field_walk.specs.Order.{IsRising}

-- the place up to which notes were read: where the paragraph of the body begins, or the item of the note that is read
abbrev reach : List Event → ℕ
reach [] = 0
reach (Head place.Body head label ∷ before) = length before
reach (Head (place.Note number) head label ∷ before) = anchor_of (place.Note number) before
reach (Letter char ∷ before) = reach before
reach (Counted name refname format ∷ before) = reach before
reach (Assigned name value ∷ before) = reach before
reach (Asked name ∷ before) = reach before
reach (Cited id class ∷ before) = reach before
reach (Marked name ∷ before) = reach before
reach (Other ∷ before) = reach before

-- the places of note items rise, and none stands in front of what was read
record Ordered (all : List Event) : Type 0 where
  sorted : IsNonDecreasingBy (λ n. n) (note_places all)
  below : All (λ n. n < length all) (note_places all)
  beyond : AllWithin (λ n. reach all ≤ n) (note_places all) (note_number all - 1) (length (note_places all))
  top : reach all ≤ length all
  place : in_note all ≡ true → note_place all ≡ reach all

further : (xs : List ℕ) (y b m : ℕ) → AllWithin (λ n. b ≤ n) xs m (length xs) → b ≤ y → AllWithin (λ n. b ≤ n) (xs ++ y ∷ []) m (length (xs ++ y ∷ []))
further xs y b m h le k d ge lt =
    let size : length (xs ++ y ∷ []) ≡ length xs + 1 = length-append xs (y ∷ []) in
    ⊎_elim
    (λ (inside : k < length xs). rw (get_or-append xs (y ∷ []) d k inside) (h k d ge inside))
    (λ (at : length xs ≤ k). let same : k - length xs ≡ 0 = omega arith in rw (get_or-append_right xs (y ∷ []) k d at, same) le)
    (cases_lt k (length xs))

lower : (xs : List ℕ) (m : ℕ) → All (λ n. n < m) xs → All (λ n. n < m + 1) xs
lower xs m h k d lt = omega (arith, h k d lt)

ordered_cited : (id : List ℕ) (class : NoteClass) (before : List Event) (noted : Bool) → in_note before ≡ noted → Ordered before → Ordered (Cited id class ∷ before)
ordered_cited id class before true e o = record {
  sorted = rw e o.sorted;
  below = rw e (λ k d lt. omega (arith, o.below k d lt));
  beyond = rw e o.beyond;
  top = omega (arith, o.top);
  place = o.place;
}
ordered_cited id class before false e o = record {
  sorted = rw e (IsNonDecreasingBy-push (λ n. n) (note_places before) (length before) o.sorted (λ d lt. omega (arith, o.below (length (note_places before) - 1) d (omega arith))));
  below = rw e (All-push (λ n. n < length (Cited id class ∷ before)) (note_places before) (length before) (λ k d lt. omega (arith, o.below k d lt)) (omega arith));
  beyond = rw e (further (note_places before) (length before) (reach before) (note_number before - 1) o.beyond o.top);
  top = omega (arith, o.top);
  place = o.place;
}

ordered : (all : List Event) → AreInOrder all → Ordered all
ordered [] h = record {
  sorted = λ i j d le lt. absurd (omega arith);
  below = λ k d lt. absurd (omega arith);
  beyond = λ k d ge lt. absurd (omega arith);
  top = omega arith;
  place = λ e. absurd (cc);
}
ordered (Head place.Body head label ∷ before) h = record {
  sorted = λ i j d le lt. absurd (omega arith);
  below = λ k d lt. absurd (omega arith);
  beyond = λ k d ge lt. absurd (omega arith);
  top = omega arith;
  place = λ e. absurd (cc);
}
ordered (Head (place.Note number) head label ∷ before) h =
    let o = ordered before h.1 in
    let low : 1 ≤ number = h.0.0 in
    let high : number ≤ length (note_places before) = h.0.1 in
    record {
      sorted = o.sorted;
      below = λ k d lt. omega (arith, o.below k d lt);
      beyond = λ k d ge lt. rw (get_or_default_zero (note_places before) k d lt) (o.sorted (number - 1) k 0 ge lt);
      top = omega (arith, o.below (number - 1) 0 (omega arith));
      place = λ e. refl;
    }
ordered (Letter char ∷ before) h = let o = ordered before h in record { sorted = o.sorted; below = λ k d lt. omega (arith, o.below k d lt); beyond = o.beyond; top = omega (arith, o.top); place = o.place }
ordered (Counted name refname format ∷ before) h = let o = ordered before h in record { sorted = o.sorted; below = λ k d lt. omega (arith, o.below k d lt); beyond = o.beyond; top = omega (arith, o.top); place = o.place }
ordered (Assigned name value ∷ before) h = let o = ordered before h in record { sorted = o.sorted; below = λ k d lt. omega (arith, o.below k d lt); beyond = o.beyond; top = omega (arith, o.top); place = o.place }
ordered (Asked name ∷ before) h = let o = ordered before h in record { sorted = o.sorted; below = λ k d lt. omega (arith, o.below k d lt); beyond = o.beyond; top = omega (arith, o.top); place = o.place }
ordered (Cited id class ∷ before) h = ordered_cited id class before (in_note before) refl (ordered before h)
ordered (Marked name ∷ before) h = let o = ordered before h in record { sorted = o.sorted; below = λ k d lt. omega (arith, o.below k d lt); beyond = o.beyond; top = omega (arith, o.top); place = o.place }
ordered (Other ∷ before) h = let o = ordered before h in record { sorted = o.sorted; below = λ k d lt. omega (arith, o.below k d lt); beyond = o.beyond; top = omega (arith, o.top); place = o.place }

-- how far the anchors of what is kept of a text may reach
abbrev limit : Bool → List Event → ℕ
limit false all = length all
limit true all = reach all

-- what is kept of a text rises, and was read
record Kept {X : Type 0} (spot_at : X → Spot) (noted : Bool) (all : List Event) (xs : List X) : Type 0 where
  anchors : IsNonDecreasingBy (λ x. (spot_at x).anchor) xs
  places : IsNonDecreasingBy (λ x. (spot_at x).at) xs
  reached : All (λ x. (spot_at x).anchor ≤ limit noted all) xs
  before : All (λ x. (spot_at x).at < length all) xs

none_kept : {X : Type 0} (spot_at : X → Spot) (noted : Bool) → Kept spot_at noted [] []
none_kept spot_at noted = record { anchors = λ i j d le lt. absurd (omega arith); places = λ i j d le lt. absurd (omega arith); reached = λ k d lt. absurd (omega arith); before = λ k d lt. absurd (omega arith) }

-- the limit grows
grown : {X : Type 0} (spot_at : X → Spot) (noted : Bool) (before all : List Event) (xs : List X) → limit noted before ≤ limit noted all → length before ≤ length all → Kept spot_at noted before xs → Kept spot_at noted all xs
grown spot_at noted before all xs le more k = record { anchors = k.anchors; places = k.places; reached = λ i d lt. omega (arith, k.reached i d lt); before = λ i d lt. omega (arith, k.before i d lt) }

-- one more is kept
pushed : {X : Type 0} (spot_at : X → Spot) (noted : Bool) (before all : List Event) (xs : List X) (x : X) → limit noted before ≤ (spot_at x).anchor → (spot_at x).anchor ≤ limit noted all → (spot_at x).at ≡ length before → length before < length all → Kept spot_at noted before xs → Kept spot_at noted all (xs ++ x ∷ [])
pushed spot_at noted before all xs x from to at more k = record {
  anchors = IsNonDecreasingBy-push (λ x. (spot_at x).anchor) xs x k.anchors (λ d lt. omega (arith, k.reached (length xs - 1) d (omega arith)));
  places = IsNonDecreasingBy-push (λ x. (spot_at x).at) xs x k.places (λ d lt. omega (arith, k.before (length xs - 1) d (omega arith)));
  reached = All-push (λ x. (spot_at x).anchor ≤ limit noted all) xs x (λ i d lt. omega (arith, k.reached i d lt)) to;
  before = All-push (λ x. (spot_at x).at < length all) xs x (λ i d lt. omega (arith, k.before i d lt)) (omega arith);
}

spot_noted : (before : List Event) → in_note before ≡ true → (spot before).anchor ≡ note_place before
spot_noted before e = rw e refl

spot_body : (before : List Event) → in_note before ≡ false → (spot before).anchor ≡ length before
spot_body before e = rw e refl

-- something of a text is kept, if it passes a test
kept_when : {X : Type 0} (spot_at : X → Spot) (noted here test : Bool) (before all : List Event) (xs : List X) (x : X) → in_note before ≡ here → reach all ≡ reach before → length all ≡ length before + 1 → spot_at x ≡ spot before → Ordered before → Kept spot_at noted before xs → Kept spot_at noted all (and_then xs (when (same_text noted here && test) x))
kept_when spot_at true true true before all xs x i stays size e o k =
    let a : (spot_at x).anchor ≡ reach before = ap (λ (s : Spot). s.anchor) e ∙ spot_noted before i ∙ o.place i in
    let t : (spot_at x).at ≡ length before = ap (λ (s : Spot). s.at) e in
    pushed spot_at true before all xs x (omega arith) (omega arith) t (omega arith) k
kept_when spot_at true true false before all xs x i stays size e o k = grown spot_at true before all xs (omega arith) (omega arith) k
kept_when spot_at true false test before all xs x i stays size e o k = grown spot_at true before all xs (omega arith) (omega arith) k
kept_when spot_at false true test before all xs x i stays size e o k = grown spot_at false before all xs (omega arith) (omega arith) k
kept_when spot_at false false true before all xs x i stays size e o k =
    let a : (spot_at x).anchor ≡ length before = ap (λ (s : Spot). s.anchor) e ∙ spot_body before i in
    let t : (spot_at x).at ≡ length before = ap (λ (s : Spot). s.at) e in
    pushed spot_at false before all xs x (omega arith) (omega arith) t (omega arith) k
kept_when spot_at false false false before all xs x i stays size e o k = grown spot_at false before all xs (omega arith) (omega arith) k

-- nothing of a text is kept
kept_more : {X : Type 0} (spot_at : X → Spot) (noted : Bool) (before all : List Event) (xs : List X) → reach all ≡ reach before → length all ≡ length before + 1 → Kept spot_at noted before xs → Kept spot_at noted all xs
kept_more spot_at true before all xs stays size k = grown spot_at true before all xs (omega arith) (omega arith) k
kept_more spot_at false before all xs stays size k = grown spot_at false before all xs (omega arith) (omega arith) k

-- a paragraph begins
kept_head : {X : Type 0} (spot_at : X → Spot) (noted : Bool) (before : List Event) (place : Gathered) (head : ParHead) (label : Label) (xs : List X) → IsNext place before → Ordered before → Kept spot_at noted before xs → Kept spot_at noted (Head place head label ∷ before) xs
kept_head spot_at false before place head label xs next o k = grown spot_at false before (Head place head label ∷ before) xs (omega arith) (omega arith) k
kept_head spot_at true before place.Body head label xs next o k = grown spot_at true before (Head place.Body head label ∷ before) xs o.top (omega arith) k
kept_head spot_at true before (place.Note number) head label xs next o k =
    let low : 1 ≤ number = next.0 in
    let high : number ≤ length (note_places before) = next.1 in
    let after : note_number before ≤ number = next.2 in
    grown spot_at true before (Head (place.Note number) head label ∷ before) xs (o.beyond (number - 1) 0 (omega arith) (omega arith)) (omega arith) k

kept_counted : (noted : Bool) (name : List ℕ) (all : List Event) → AreInOrder all → Kept (λ (s : Spot). s) noted all (counted noted name all)
kept_counted noted name [] h = none_kept (λ (s : Spot). s) noted
kept_counted noted name (Head place head label ∷ before) h = kept_head (λ (s : Spot). s) noted before place head label (counted noted name before) h.0 (ordered before h.1) (kept_counted noted name before h.1)
kept_counted noted name (Letter char ∷ before) h = kept_more (λ (s : Spot). s) noted before (Letter char ∷ before) (counted noted name before) refl (omega arith) (kept_counted noted name before h)
kept_counted noted name (Counted own refown format ∷ before) h = kept_when (λ (s : Spot). s) noted (in_note before) (bytes_eq name own) before (Counted own refown format ∷ before) (counted noted name before) (spot before) refl refl (omega arith) refl (ordered before h) (kept_counted noted name before h)
kept_counted noted name (Assigned own value ∷ before) h = kept_more (λ (s : Spot). s) noted before (Assigned own value ∷ before) (counted noted name before) refl (omega arith) (kept_counted noted name before h)
kept_counted noted name (Asked own ∷ before) h = kept_more (λ (s : Spot). s) noted before (Asked own ∷ before) (counted noted name before) refl (omega arith) (kept_counted noted name before h)
kept_counted noted name (Cited id class ∷ before) h = kept_more (λ (s : Spot). s) noted before (Cited id class ∷ before) (counted noted name before) refl (omega arith) (kept_counted noted name before h)
kept_counted noted name (Marked own ∷ before) h = kept_more (λ (s : Spot). s) noted before (Marked own ∷ before) (counted noted name before) refl (omega arith) (kept_counted noted name before h)
kept_counted noted name (Other ∷ before) h = kept_more (λ (s : Spot). s) noted before (Other ∷ before) (counted noted name before) refl (omega arith) (kept_counted noted name before h)

pub counted_rising : (noted : Bool) (name : List ℕ) (all : List Event) → AreInOrder all → IsRising (λ (s : Spot). s) (counted noted name all)
counted_rising noted name all h = let k = kept_counted noted name all h in record { anchors = k.anchors; places = k.places }

kept_assigned : (noted : Bool) (name : List ℕ) (all : List Event) → AreInOrder all → Kept (λ (s : VariableSet). s.spot) noted all (assigned noted name all)
kept_assigned noted name [] h = none_kept (λ (s : VariableSet). s.spot) noted
kept_assigned noted name (Head place head label ∷ before) h = kept_head (λ (s : VariableSet). s.spot) noted before place head label (assigned noted name before) h.0 (ordered before h.1) (kept_assigned noted name before h.1)
kept_assigned noted name (Letter char ∷ before) h = kept_more (λ (s : VariableSet). s.spot) noted before (Letter char ∷ before) (assigned noted name before) refl (omega arith) (kept_assigned noted name before h)
kept_assigned noted name (Counted own refown format ∷ before) h = kept_more (λ (s : VariableSet). s.spot) noted before (Counted own refown format ∷ before) (assigned noted name before) refl (omega arith) (kept_assigned noted name before h)
kept_assigned noted name (Assigned own value ∷ before) h = kept_when (λ (s : VariableSet). s.spot) noted (in_note before) (bytes_eq name own) before (Assigned own value ∷ before) (assigned noted name before) (record { spot = spot before; value = value }) refl refl (omega arith) refl (ordered before h) (kept_assigned noted name before h)
kept_assigned noted name (Asked own ∷ before) h = kept_more (λ (s : VariableSet). s.spot) noted before (Asked own ∷ before) (assigned noted name before) refl (omega arith) (kept_assigned noted name before h)
kept_assigned noted name (Cited id class ∷ before) h = kept_more (λ (s : VariableSet). s.spot) noted before (Cited id class ∷ before) (assigned noted name before) refl (omega arith) (kept_assigned noted name before h)
kept_assigned noted name (Marked own ∷ before) h = kept_more (λ (s : VariableSet). s.spot) noted before (Marked own ∷ before) (assigned noted name before) refl (omega arith) (kept_assigned noted name before h)
kept_assigned noted name (Other ∷ before) h = kept_more (λ (s : VariableSet). s.spot) noted before (Other ∷ before) (assigned noted name before) refl (omega arith) (kept_assigned noted name before h)

pub assigned_rising : (noted : Bool) (name : List ℕ) (all : List Event) → AreInOrder all → IsRising (λ (s : VariableSet). s.spot) (assigned noted name all)
assigned_rising noted name all h = let k = kept_assigned noted name all h in record { anchors = k.anchors; places = k.places }

up_to_down : (a b t u anchor at : ℕ) → a ≤ b → t ≤ u → (nat_lt b anchor || (b == anchor && nat_le u at)) ≡ true → (nat_lt a anchor || (a == anchor && nat_le t at)) ≡ true
up_to_down a b t u anchor at ab tu e = grind (arith, nat_tests, common_steps)

before_down : (a b t u anchor at : ℕ) → a ≤ b → t ≤ u → (nat_lt b anchor || (b == anchor && nat_lt u at)) ≡ true → (nat_lt a anchor || (a == anchor && nat_lt t at)) ≡ true
before_down a b t u anchor at ab tu e = grind (arith, nat_tests, common_steps)

-- what is read up to a place stands in front
pub up_to_parts : (xs : List Spot) (here : Spot) → IsRising (λ s. s) xs → IsPartitionedBy (λ s. is_up_to s here) xs
up_to_parts xs here r i j d le lt e = up_to_down (get_or xs i d).anchor (get_or xs j d).anchor (get_or xs i d).at (get_or xs j d).at here.anchor here.at (r.anchors i j d le lt) (r.places i j d le lt) e

pub before_parts : (xs : List VariableSet) (here : Spot) → IsRising (λ s. s.spot) xs → IsPartitionedBy (λ s. is_before s.spot here) xs
before_parts xs here r i j d le lt e = before_down (get_or xs i d).spot.anchor (get_or xs j d).spot.anchor (get_or xs i d).spot.at (get_or xs j d).spot.at here.anchor here.at (r.anchors i j d le lt) (r.places i j d le lt) e
