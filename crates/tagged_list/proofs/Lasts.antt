-- The last place of a list that passes a test, and what the search for it finds.
use Rattle.std.proofs.Common.{◌≡◌, ℕ, ◌+◌, ◌-◌, ◌^◌, ◌<◌, ◌≤◌, ◌⊎◌, Bool, true, false, cond, List, [], ◌∷◌, ◌++◌, length, get_or, take, zero, suc, refl, sym, ap, ◌∙◌, subst, arith, inl, inr, Option, Some, None}
use Rattle.std.proofs.lemmas.List.{get_or-map, length-map, get_or-take, length-take, get_or_default}
use Rattle.std.proofs.lemmas.Bool.{cases_lt}
use Rattle.tagged_list.specs.declared.entry.Entry.{Entry}
use Rattle.tagged_list.specs.declared.tag.Tag.{Tag}
use Rattle.tagged_list.specs.Tags.{has_tag, rank_of, spot_at}
use Rattle.tagged_list.specs.Last.{last_or_first, last_position}
use Rattle.tagged_list.specs.Entries.{tagged_of, keys_of, spot_of}
use Rattle.tagged_list.specs.Keeps.{times, Keeps}
use Rattle.tagged_list.proofs.Counts.{times_at}
use Rattle.tagged_list.proofs.Finds.{is_false, spot_place, entry_there, tag_from_spot, key_is, key_within, some_entry}

-- no item passes, or the last one is known
pub last_none : {X : Type 0} (p : X → Bool) (xs : List X) → ((k : ℕ) (d : X) → k < length xs → p (get_or xs k d) ≡ false) → last_position p xs ≡ None
last_none p [] none = refl
last_none p (x ∷ xs) none =
    ap (λ (o : Option ℕ). last_or_first (p x) o) (last_none p xs (λ k d h. none (suc k) d (omega arith))) ∙ ap (λ (b : Bool). last_or_first b None) (none zero x (omega arith))

pub last_is : {X : Type 0} (p : X → Bool) (xs : List X) (i : ℕ) (d : X) → i < length xs → p (get_or xs i d) ≡ true → ((k : ℕ) → i < k → k < length xs → p (get_or xs k d) ≡ false) → last_position p xs ≡ Some i
last_is p [] i d within passes after = absurd (omega arith)
last_is p (x ∷ xs) zero d within passes after =
    let rest = last_none p xs (λ k e h. ap p (get_or_default xs k e d h) ∙ after (suc k) (omega arith) (omega arith)) in
    ap (λ (o : Option ℕ). last_or_first (p x) o) rest ∙ ap (λ (b : Bool). last_or_first b None) passes
last_is p (x ∷ xs) (suc i) d within passes after =
    let rest = last_is p xs i d (omega arith) passes (λ k lt h. after (suc k) (omega arith) (omega arith)) in
    let more : i + 1 ≡ suc i = omega arith in
    ap (λ (o : Option ℕ). last_or_first (p x) o) rest ∙ ap Some more

last_cond : (first passes : Bool) (n : ℕ) (rest : Option ℕ) → last_or_first first (cond passes (Some n) rest) ≡ cond passes (Some (suc n)) (last_or_first first rest)
last_cond first true n rest = let more : n + 1 ≡ suc n = omega arith in ap Some more
last_cond first false n rest = refl

pub last_push : {X : Type 0} (p : X → Bool) (xs : List X) (x : X) → last_position p (xs ++ x ∷ []) ≡ cond (p x) (Some (length xs)) (last_position p xs)
last_push p [] x = refl
last_push p (y ∷ ys) x = ap (λ (o : Option ℕ). last_or_first (p y) o) (last_push p ys x) ∙ last_cond (p y) (p x) (length ys) (last_position p ys)

-- what is known where an entry before a place has the tag
record Before {T : Type 0} (items : List (Entry T)) (spots : List ℕ) (tag : Tag) (key : ℕ) (j : ℕ) (d : Entry T) : Type 0 where
  place : ℕ
  inside : place < length spots
  is : get_or spots place 0 ≡ spot_at (rank_of tag) (get_or items j d).key
  lower : (get_or items j d).key < key

before_at : {T : Type 0} (items : List (Entry T)) (spots : List ℕ) (tag : Tag) (at j : ℕ) (d : Entry T) → Keeps items spots → at < length items → j < at → has_tag tag (get_or items j d).tagged ≡ true → Before items spots tag (get_or (keys_of items) at 0) j d
before_at {T} items spots tag at j d keeps within lt has =
    let m = spot_place items spots tag j d keeps (omega arith) has in
    let long = length-map items (λ (entry : Entry T). entry.key) in
    record { place = m.0; inside = m.1; is = m.2; lower = omega (arith, keeps.rising j at 0 lt (omega arith), key_is items j d (omega arith)) }

-- an item of the front of the list is that of an entry
taken_tag : {T : Type 0} (items : List (Entry T)) (tag : Tag) (at k : ℕ) (e : Option Tag × T) (d : Entry T) → k < at → k < length items → has_tag tag (get_or (take at (tagged_of items)) k e) ≡ has_tag tag (get_or items k d).tagged
taken_tag {T} items tag at k e d lt within =
    ap (has_tag tag) (get_or-take at (tagged_of items) k e lt ∙ get_or-map (λ (entry : Entry T). entry.tagged) items k d e within)

taken_long : {T : Type 0} (items : List (Entry T)) (at : ℕ) → at ≤ length items → length (take at (tagged_of items)) ≡ at
taken_long {T} items at le =
    let long = length-map items (λ (entry : Entry T). entry.tagged) in
    let short = length-take at (tagged_of items) in
    omega arith

pub last_at_none : {T : Type 0} (items : List (Entry T)) (spots : List ℕ) (tag : Tag) (at place : ℕ) → Keeps items spots → at < length items → (get_or (keys_of items) at 0) < 2 ^ 64 → ((k : ℕ) → place ≤ k → k < length spots → spot_at (rank_of tag) (get_or (keys_of items) at 0) ≤ get_or spots k 0) → place ≤ length spots → (0 < place → get_or spots (place - 1) 0 < spot_at (rank_of tag) (get_or (keys_of items) at 0)) → (0 < place → (key : ℕ) → key < 2 ^ 64 → get_or spots (place - 1) 0 ≡ spot_at (rank_of tag) key → ⊥) → last_position (has_tag tag) (take at (tagged_of items)) ≡ None
last_at_none {T} items spots tag at place keeps within small above inside below other =
    let d = some_entry items (omega arith) in
    last_none (has_tag tag) (take at (tagged_of items)) (λ k e h. is_false _ (λ has. let short = taken_long items at (omega arith) in let lt : k < at = omega arith in apart k d lt (sym (taken_tag items tag at k e d lt (omega arith)) ∙ has)))
  where
    by : (m key : ℕ) → m < length spots → get_or spots m 0 ≡ spot_at (rank_of tag) key → key < get_or (keys_of items) at 0 → (m < place) ⊎ (place ≤ m) → ⊥
    by m key in_spots is lower (inr le) = omega (arith, above m le in_spots)
    by m key in_spots is lower (inl lt) =
        let up = keeps.sorted m (place - 1) 0 (omega arith) (omega arith) in
        other (omega arith) (get_or spots (place - 1) 0 - spot_at (rank_of tag) 0) (omega (arith, below (omega arith))) (omega (arith, below (omega arith)))

    apart : (k : ℕ) (d : Entry T) → k < at → has_tag tag (get_or items k d).tagged ≡ true → ⊥
    apart k d lt has =
        let b = before_at items spots tag at k d keeps within lt has in
        by b.place (get_or items k d).key b.inside b.is b.lower (cases_lt b.place place)

pub last_at : {T : Type 0} (items : List (Entry T)) (spots : List ℕ) (tag : Tag) (at place key found_at : ℕ) → Keeps items spots → at < length items → 0 < place → place ≤ length spots → ((k : ℕ) → place ≤ k → k < length spots → spot_at (rank_of tag) (get_or (keys_of items) at 0) ≤ get_or spots k 0) → get_or spots (place - 1) 0 < spot_at (rank_of tag) (get_or (keys_of items) at 0) → key < 2 ^ 64 → get_or spots (place - 1) 0 ≡ spot_at (rank_of tag) key → ((k : ℕ) → k < found_at → get_or (keys_of items) k 0 < key) → ((k : ℕ) → found_at ≤ k → k < length items → key ≤ get_or (keys_of items) k 0) → last_position (has_tag tag) (take at (tagged_of items)) ≡ Some found_at
last_at {T} items spots tag at place key found_at keeps within some inside above below small is lower upper =
    by (entry_there items (spot_at (rank_of tag) key) (omega (arith, keeps.same (spot_at (rank_of tag) key), subst (λ (x : ℕ). 0 < times x spots) is (times_at spots (place - 1) (omega arith)))))
  where
    behind : (m other : ℕ) → m < length spots → get_or spots m 0 ≡ spot_at (rank_of tag) other → other < get_or (keys_of items) at 0 → key < other → (m < place) ⊎ (place ≤ m) → ⊥
    behind m other in_spots same low high (inr le) = omega (arith, above m le in_spots)
    behind m other in_spots same low high (inl lt) = omega (arith, keeps.sorted m (place - 1) 0 (omega arith) (omega arith))

    same_place : (k : ℕ) → k < length items → get_or (keys_of items) k 0 ≡ key → (k < found_at) ⊎ (found_at ≤ k) → (found_at < k) ⊎ (k ≤ found_at) → k ≡ found_at
    same_place k in_items e (inl lt) far = absurd (omega (arith, lower k lt))
    same_place k in_items e (inr le) (inl lt) =
        let long = length-map items (λ (entry : Entry T). entry.key) in
        absurd (omega (arith, keeps.rising found_at k 0 lt (omega arith), upper found_at (omega arith) (omega arith)))
    same_place k in_items e (inr le) (inr ge) = omega arith

    not_past : (k : ℕ) → k < length items → get_or (keys_of items) k 0 ≡ key → (k < at) ⊎ (at ≤ k) → (at < k) ⊎ (k ≤ at) → k < at
    not_past k in_items e (inl lt) far = lt
    not_past k in_items e (inr le) (inl lt) =
        let long = length-map items (λ (entry : Entry T). entry.key) in
        absurd (omega (arith, keeps.rising at k 0 lt (omega arith)))
    not_past k in_items e (inr le) (inr ge) = let same : k ≡ at = omega arith in absurd (omega (arith, ap (λ (n : ℕ). get_or (keys_of items) n 0) same))

    apart : (d : Entry T) (j k : ℕ) → k < length items → get_or (keys_of items) k 0 ≡ key → k < j → j < at → has_tag tag (get_or items j d).tagged ≡ true → ⊥
    apart d j k in_items e lt far has =
        let b = before_at items spots tag at j d keeps within far has in
        let long = length-map items (λ (entry : Entry T). entry.key) in
        behind b.place (get_or items j d).key b.inside b.is b.lower (omega (arith, keeps.rising k j 0 lt (omega arith), key_is items j d (omega arith))) (cases_lt b.place place)

    by : (k : ℕ) × (k < length items) × ((d : Entry T) → spot_of (get_or items k d) ≡ Some (spot_at (rank_of tag) key)) → last_position (has_tag tag) (take at (tagged_of items)) ≡ Some found_at
    by known =
        let k = known.0 in
        let in_items = known.1 in
        let d = some_entry items (omega arith) in
        let held = tag_from_spot tag (get_or items k d) key (key_within items spots k d keeps in_items) small (known.2 d) in
        let its = key_is items k d in_items ∙ held.1 in
        let front : k < at = not_past k in_items its (cases_lt k at) (cases_lt at k) in
        let same : k ≡ found_at = same_place k in_items its (cases_lt k found_at) (cases_lt found_at k) in
        let short = taken_long items at (omega arith) in
        let is_last = last_is (has_tag tag) (take at (tagged_of items)) k d.tagged (omega arith) (taken_tag items tag at k d.tagged d front in_items ∙ held.0) (λ j lt h. let far : j < at = omega arith in is_false _ (λ has. apart d j k in_items its lt far (sym (taken_tag items tag at j d.tagged d far (omega arith)) ∙ has))) in
        is_last ∙ ap Some same
