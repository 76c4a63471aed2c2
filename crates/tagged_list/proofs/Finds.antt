-- What the search for a tag finds.
use Rattle.std.proofs.Common.{◌≡◌, ℕ, ◌+◌, ◌-◌, ◌^◌, ◌<◌, ◌≤◌, ◌⊎◌, Bool, true, false, cond, ltb, eqb, List, [], ◌∷◌, length, get_or, zero, suc, refl, sym, ap, ◌∙◌, subst, arith, inl, inr, Option, Some, None, eq-eqb}
use Rattle.std.specs.Prelude.{position}
use Rattle.std.specs.List.{filter_map, position_or_len}
use Rattle.std.proofs.lemmas.List.Elements.{filter_map-append}
use Rattle.std.proofs.lemmas.List.{get_or-map, length-map}
use Rattle.std.proofs.lemmas.List.Sums.{position_or_len_is}
use Rattle.std.proofs.lemmas.Bool.{cases_lt}
use Rattle.std.proofs.lemmas.Bool.Decides.{nat_tests}
use Rattle.tagged_list.specs.declared.entry.Entry.{Entry}
use Rattle.tagged_list.specs.declared.tag.Tag.{Tag}
use Rattle.tagged_list.specs.declared.tag.Tag.TheVariants.{Number, Depth}
use Rattle.tagged_list.specs.Tags.{same_tag, has_tag, rank_of, spot_at}
use Rattle.tagged_list.specs.Entries.{tagged_of, keys_of, spot_of, spots_of}
use Rattle.tagged_list.specs.Keeps.{times, Keeps}
use Rattle.tagged_list.proofs.Counts.{found, times_at, times_append}

-- the first place that passes
pub position_is : {X : Type 0} (p : X → Bool) (xs : List X) (i : ℕ) (d : X) → i < length xs → p (get_or xs i d) ≡ true → ((k : ℕ) → k < i → p (get_or xs k d) ≡ false) → position p xs ≡ Some i
position_is p xs i d within passes before =
    let at = position_or_len_is p xs i d (omega arith) before (λ h. passes) in
    let lt : ltb (position_or_len p xs) (length xs) ≡ true = grind (arith, nat_tests) in
    ap (λ (b : Bool). cond b (Some (position_or_len p xs)) None) lt ∙ ap Some at

pub position_none : {X : Type 0} (p : X → Bool) (xs : List X) → ((k : ℕ) (d : X) → k < length xs → p (get_or xs k d) ≡ false) → position p xs ≡ None
position_none p xs before =
    let at = position_or_len_none p xs before in
    let ge : ltb (position_or_len p xs) (length xs) ≡ false = grind (arith, nat_tests) in
    ap (λ (b : Bool). cond b (Some (position_or_len p xs)) None) ge
  where
    position_or_len_none : {X : Type 0} (p : X → Bool) (xs : List X) → ((k : ℕ) (d : X) → k < length xs → p (get_or xs k d) ≡ false) → position_or_len p xs ≡ length xs
    position_or_len_none p [] before = refl
    position_or_len_none p (x ∷ xs) before = position_or_len_is p (x ∷ xs) (length (x ∷ xs)) x (omega arith) (λ k h. before k x h) (λ h. absurd (omega arith))

pub is_false : (b : Bool) → (b ≡ true → ⊥) → b ≡ false
is_false true h = absurd (h refl)
is_false false h = refl

-- tags are the same just where their ranks are
same_rank : (tag other : Tag) → same_tag tag other ≡ eqb (rank_of tag) (rank_of other)
same_rank (Number m) (Number n) = grind (arith, nat_tests)
same_rank (Depth m) (Depth n) = grind (arith, nat_tests)
same_rank (Number m) (Depth n) = grind (arith, nat_tests)
same_rank (Depth m) (Number n) = grind (arith, nat_tests)

-- the entry has the tag, so its spot is there
pub spot_from_own : {T : Type 0} (tag : Tag) (own : Option Tag) (item : T) (key : ℕ) → has_tag tag (own, item) ≡ true → spot_of {T = T} (record { key = key; tagged = (own, item) }) ≡ Some (spot_at (rank_of tag) key)
spot_from_own tag None item key h = cc
spot_from_own tag (Some other) item key h =
    let e : rank_of other ≡ rank_of tag = grind (arith, nat_tests, same_rank tag other) in
    ap (λ (r : ℕ). Some (spot_at r key)) e

pub spot_from_tag : {T : Type 0} (tag : Tag) (entry : Entry T) → has_tag tag entry.tagged ≡ true → spot_of entry ≡ Some (spot_at (rank_of tag) entry.key)
spot_from_tag tag entry h = spot_from_own tag entry.tagged.0 entry.tagged.1 entry.key h

-- the spot is that of the entry, so it has the tag and the key
tag_from_own : {T : Type 0} (tag : Tag) (own : Option Tag) (item : T) (key given : ℕ) → key < 2 ^ 64 → given < 2 ^ 64 → spot_of {T = T} (record { key = key; tagged = (own, item) }) ≡ Some (spot_at (rank_of tag) given) → (has_tag tag (own, item) ≡ true) × (key ≡ given)
tag_from_own tag None item key given a b h = cc
tag_from_own tag (Some other) item key given a b h =
    let e : spot_at (rank_of other) key ≡ spot_at (rank_of tag) given = cc in
    let ranks : rank_of tag ≡ rank_of other = omega arith in
    (same_rank tag other ∙ eq-eqb _ _ ranks, omega arith)

pub tag_from_spot : {T : Type 0} (tag : Tag) (entry : Entry T) (given : ℕ) → entry.key < 2 ^ 64 → given < 2 ^ 64 → spot_of entry ≡ Some (spot_at (rank_of tag) given) → (has_tag tag entry.tagged ≡ true) × (entry.key ≡ given)
tag_from_spot tag entry given a b h = tag_from_own tag entry.tagged.0 entry.tagged.1 entry.key given a b h

-- the spots of entries, and the entries of spots
pub times_cons : {T : Type 0} (x : ℕ) (entry : Entry T) (items : List (Entry T)) → times x (spots_of (entry ∷ items)) ≡ times x (spots_of (entry ∷ [])) + times x (spots_of items)
times_cons x entry items = ap (times x) (filter_map-append spot_of (entry ∷ []) items) ∙ times_append x (spots_of (entry ∷ [])) (spots_of items)

times_one : {T : Type 0} (x : ℕ) (entry : Entry T) → spot_of entry ≡ Some x → 0 < times x (spots_of (entry ∷ []))
times_one x entry has =
    let one : times x (spots_of (entry ∷ [])) ≡ times x (x ∷ []) = ap (λ (o : Option ℕ). times x (filter_map (λ p. p) (o ∷ []))) has in
    omega (arith, one, times_at (x ∷ []) 0 (omega arith))

pub spot_there : {T : Type 0} (items : List (Entry T)) (k : ℕ) (d : Entry T) (x : ℕ) → k < length items → spot_of (get_or items k d) ≡ Some x → 0 < times x (spots_of items)
spot_there [] k d x within is = absurd (omega arith)
spot_there (item ∷ items) zero d x within is = omega (arith, times_cons x item items, times_one x item is)
spot_there (item ∷ items) (suc k) d x within is = omega (arith, times_cons x item items, spot_there items k d x (omega arith) is)

one_holds : (x : ℕ) (own : Option ℕ) → 0 < times x (filter_map (λ o. o) (own ∷ [])) → own ≡ Some x
one_holds x None h = absurd (omega arith)
one_holds x (Some y) h = let at = found x (y ∷ []) h in ap Some (grind (arith, nat_tests))

in_either : {T : Type 0} (x : ℕ) (item : Entry T) (items : List (Entry T)) → (0 < times x (spots_of (item ∷ []))) ⊎ (times x (spots_of (item ∷ [])) ≤ 0) → 0 < times x (spots_of (item ∷ [])) + times x (spots_of items) → (0 < times x (spots_of items) → (k : ℕ) × (k < length items) × ((d : Entry T) → spot_of (get_or items k d) ≡ Some x)) → (k : ℕ) × (k < length (item ∷ items)) × ((d : Entry T) → spot_of (get_or (item ∷ items) k d) ≡ Some x)
in_either x item items (inl here) h rest = (0, omega arith, λ d. one_holds x (spot_of item) here)
in_either x item items (inr none) h rest = let r = rest (omega arith) in (suc r.0, omega (arith, r.1), r.2)

pub entry_there : {T : Type 0} (items : List (Entry T)) (x : ℕ) → 0 < times x (spots_of items) → (k : ℕ) × (k < length items) × ((d : Entry T) → spot_of (get_or items k d) ≡ Some x)
entry_there [] x h = absurd (omega arith)
entry_there (item ∷ items) x h = in_either x item items (cases_lt 0 (times x (spots_of (item ∷ [])))) (omega (arith, times_cons x item items)) (entry_there items x)

-- where an entry has the tag, its spot stands among the spots
pub spot_place : {T : Type 0} (items : List (Entry T)) (spots : List ℕ) (tag : Tag) (k : ℕ) (d : Entry T) → Keeps items spots → k < length items → has_tag tag (get_or items k d).tagged ≡ true → (m : ℕ) × (m < length spots) × (get_or spots m 0 ≡ spot_at (rank_of tag) (get_or items k d).key)
spot_place items spots tag k d keeps within has =
    let x = spot_at (rank_of tag) (get_or items k d).key in
    let there = spot_there items k d x within (spot_from_tag tag (get_or items k d) has) in
    found x spots (omega (arith, keeps.same x, there))

-- the key of an entry
pub key_is : {T : Type 0} (items : List (Entry T)) (k : ℕ) (d : Entry T) → k < length items → get_or (keys_of items) k 0 ≡ (get_or items k d).key
key_is items k d within = get_or-map (λ entry. entry.key) items k d 0 within

pub key_within : {T : Type 0} (items : List (Entry T)) (spots : List ℕ) (k : ℕ) (d : Entry T) → Keeps items spots → k < length items → (get_or items k d).key < 2 ^ 64
key_within items spots k d keeps within =
    let long = length-map items (λ (entry : Entry _). entry.key) in
    omega (arith, keeps.bounded k 0 (omega arith), key_is items k d within)

-- no entry has the tag: no spot is behind the place
pub none_behind : {T : Type 0} (items : List (Entry T)) (spots : List ℕ) (tag : Tag) → Keeps items spots → ((k : ℕ) → k < length spots → get_or spots k 0 < spot_at (rank_of tag) 0) → position (has_tag tag) (tagged_of items) ≡ None
none_behind {T} items spots tag keeps below =
    position_none (has_tag tag) (tagged_of items) (λ k e within. is_false _ (λ has. apart k e within has))
  where
    apart : (k : ℕ) (e : Option Tag × T) → k < length (tagged_of items) → has_tag tag (get_or (tagged_of items) k e) ≡ true → ⊥
    apart k e within has =
        let long = length-map items (λ (entry : Entry T). entry.tagged) in
        let d : Entry T = record { key = 0; tagged = e } in
        let inside : k < length items = omega arith in
        let is = get_or-map (λ (entry : Entry T). entry.tagged) items k d e inside in
        let m = spot_place items spots tag k d keeps inside (ap (has_tag tag) (sym is) ∙ has) in
        omega (arith, below m.0 m.1, m.2)

-- no entry has the tag: the spot at the place has another
pub none_at : {T : Type 0} (items : List (Entry T)) (spots : List ℕ) (tag : Tag) (place : ℕ) → Keeps items spots → ((k : ℕ) → k < place → get_or spots k 0 < spot_at (rank_of tag) 0) → spot_at (rank_of tag) 0 ≤ get_or spots place 0 → ((key : ℕ) → key < 2 ^ 64 → get_or spots place 0 ≡ spot_at (rank_of tag) key → ⊥) → position (has_tag tag) (tagged_of items) ≡ None
none_at {T} items spots tag place keeps below least other =
    position_none (has_tag tag) (tagged_of items) (λ k e within. is_false _ (λ has. apart k e within has))
  where
    behind : (m key : ℕ) → m < length spots → get_or spots m 0 ≡ spot_at (rank_of tag) key → key < 2 ^ 64 → (m < place) ⊎ (place ≤ m) → ⊥
    behind m key inside is small (inl lt) = omega (arith, below m lt)
    behind m key inside is small (inr le) =
        let up = keeps.sorted place m 0 le inside in
        other (get_or spots place 0 - spot_at (rank_of tag) 0) (omega arith) (omega arith)

    apart : (k : ℕ) (e : Option Tag × T) → k < length (tagged_of items) → has_tag tag (get_or (tagged_of items) k e) ≡ true → ⊥
    apart k e within has =
        let long = length-map items (λ (entry : Entry T). entry.tagged) in
        let d : Entry T = record { key = 0; tagged = e } in
        let inside : k < length items = omega arith in
        let is = get_or-map (λ (entry : Entry T). entry.tagged) items k d e inside in
        let m = spot_place items spots tag k d keeps inside (ap (has_tag tag) (sym is) ∙ has) in
        behind m.0 (get_or items k d).key m.1 m.2 (key_within items spots k d keeps inside) (cases_lt m.0 place)

pub some_entry : {T : Type 0} (items : List (Entry T)) → 0 < length items → Entry T
some_entry [] h = absurd (omega arith)
some_entry (item ∷ items) h = item

-- the first entry with the tag: the one whose key the first spot of the tag has
pub first_at : {T : Type 0} (items : List (Entry T)) (spots : List ℕ) (tag : Tag) (place key at : ℕ) → Keeps items spots → ((k : ℕ) → k < place → get_or spots k 0 < spot_at (rank_of tag) 0) → place < length spots → key < 2 ^ 64 → get_or spots place 0 ≡ spot_at (rank_of tag) key → ((k : ℕ) → k < at → get_or (keys_of items) k 0 < key) → ((k : ℕ) → at ≤ k → k < length items → key ≤ get_or (keys_of items) k 0) → position (has_tag tag) (tagged_of items) ≡ Some at
first_at {T} items spots tag place key at keeps below within small is lower upper =
    by (entry_there items (spot_at (rank_of tag) key) (omega (arith, keeps.same (spot_at (rank_of tag) key), subst (λ (x : ℕ). 0 < times x spots) is (times_at spots place within))))
  where
    before : (d : Entry T) (k : ℕ) → k < at → at < length items → has_tag tag (get_or items k d).tagged ≡ true → ⊥
    before d k lt inside has =
        let m = spot_place items spots tag k d keeps (omega arith) has in
        by_place (cases_lt m.0 place) m.1 m.2
      where
        by_place : {m : ℕ} → (m < place) ⊎ (place ≤ m) → m < length spots → get_or spots m 0 ≡ spot_at (rank_of tag) (get_or items k d).key → ⊥
        by_place {m} (inl down) in_spots same = omega (arith, below m down)
        by_place {m} (inr up) in_spots same = omega (arith, keeps.sorted place m 0 up in_spots, lower k lt, key_is items k d (omega arith))

    same_place : (k : ℕ) → k < length items → get_or (keys_of items) k 0 ≡ key → (k < at) ⊎ (at ≤ k) → (at < k) ⊎ (k ≤ at) → k ≡ at
    same_place k inside e (inl lt) far = absurd (omega (arith, lower k lt))
    same_place k inside e (inr le) (inl lt) =
        let long = length-map items (λ (entry : Entry T). entry.key) in
        absurd (omega (arith, keeps.rising at k 0 lt (omega arith), upper at (omega arith) (omega arith)))
    same_place k inside e (inr le) (inr ge) = omega arith

    by : (k : ℕ) × (k < length items) × ((d : Entry T) → spot_of (get_or items k d) ≡ Some (spot_at (rank_of tag) key)) → position (has_tag tag) (tagged_of items) ≡ Some at
    by known =
        let k = known.0 in
        let inside = known.1 in
        let d = some_entry items (omega arith) in
        let held = tag_from_spot tag (get_or items k d) key (key_within items spots k d keeps inside) small (known.2 d) in
        let same : k ≡ at = same_place k inside (key_is items k d inside ∙ held.1) (cases_lt k at) (cases_lt at k) in
        let long = length-map items (λ (entry : Entry T). entry.tagged) in
        let at_tagged : (j : ℕ) → j < length items → get_or (tagged_of items) j d.tagged ≡ (get_or items j d).tagged = λ j h. get_or-map (λ (entry : Entry T). entry.tagged) items j d d.tagged h in
        let in_all : at < length items = omega arith in
        let passes : has_tag tag (get_or items at d).tagged ≡ true = subst (λ (j : ℕ). has_tag tag (get_or items j d).tagged ≡ true) same held.0 in
        position_is (has_tag tag) (tagged_of items) at d.tagged (omega arith)
        (ap (has_tag tag) (at_tagged at in_all) ∙ passes)
        (λ j lt. is_false _ (λ has. before d j lt in_all (ap (has_tag tag) (sym (at_tagged j (omega arith))) ∙ has)))
