-- What parts of a list of entries hold.
use Rattle.std.proofs.Common.{◌≡◌, ℕ, ◌+◌, ◌-◌, ◌^◌, ◌<◌, ◌≤◌, ◌⊎◌, List, [], ◌∷◌, ◌++◌, length, get_or, take, drop, map, zero, suc, sym, ap, ◌∙◌, subst, arith, inl, inr, Option, Some, None, append_assoc, take-append-drop}
use Rattle.std.specs.Prelude.{All, AllPairs, slice_get}
use Rattle.std.specs.List.{between, splice, filter_map}
use Rattle.std.specs.List.Sorted.{IsNonDecreasing}
use Rattle.std.proofs.lemmas.List.{map-append, take-map, drop-map, get_or-take, get_or-drop, length-take, length-drop, get_or_default, get_or-map, length-map, take_more, take-take, drop-drop}
use Rattle.std.proofs.lemmas.List.Edits.{between_more, split_between}
use Rattle.std.proofs.lemmas.List.Elements.{All-append, All-take, All-drop, filter_map-append}
use Rattle.std.proofs.lemmas.List.Kept.{AllPairs-cons}
use Rattle.std.proofs.lemmas.Option.{get_or_from_slice_get, slice_get_within}
use Rattle.std.proofs.lemmas.Bool.{cases_lt}
use Rattle.std.proofs.lemmas.Slice.{between_is}
use Rattle.tagged_list.specs.declared.entry.Entry.{Entry}
use Rattle.tagged_list.specs.declared.tag.Tag.{Tag}
use Rattle.tagged_list.specs.Entries.{tagged_of, keys_of, spot_of, spots_of}
use Rattle.tagged_list.specs.Keeps.{times, Rises, Keeps}
use Rattle.tagged_list.proofs.Counts.{times_append, times_at}

-- one more entry
pub spots_more : {T : Type 0} (items : List (Entry T)) (from at : ℕ) (entry : Entry T) → from ≤ at → slice_get items at ≡ Some entry → spots_of (between from (at + 1) items) ≡ spots_of (between from at items) ++ spots_of (entry ∷ [])
spots_more items from at entry le is =
    ap (filter_map spot_of) (between_more items from at entry le (slice_get_within items at entry is) ∙ ap (λ e. between from at items ++ e ∷ []) (get_or_from_slice_get items at entry entry is))
    ∙ filter_map-append spot_of (between from at items) (entry ∷ [])

-- a shorter front holds no more
pub spots_le : {T : Type 0} (x : ℕ) (items : List (Entry T)) (a b : ℕ) → a ≤ b → times x (spots_of (take a items)) ≤ times x (spots_of (take b items))
spots_le x items zero b le = omega arith
spots_le x items (suc a) zero le = absurd (omega arith)
spots_le x [] (suc a) (suc b) le = omega arith
spots_le x (item ∷ items) (suc a) (suc b) le =
    omega (arith, spots_le x items a b (omega arith), times_append x (spots_of (item ∷ [])) (spots_of (take a items)), times_append x (spots_of (item ∷ [])) (spots_of (take b items)), ap (times x) (filter_map-append spot_of (item ∷ []) (take a items)), ap (times x) (filter_map-append spot_of (item ∷ []) (take b items)))

-- a spot of a range
pub spot_in : {T : Type 0} (items : List (Entry T)) (from at to : ℕ) (entry : Entry T) (spot : ℕ) → from ≤ at → at < to → slice_get items at ≡ Some entry → spot_of entry ≡ Some spot → times spot (spots_of (between from at items)) < times spot (spots_of (between from to items))
spot_in items from at to entry spot le lt is has =
    let one : times spot (spots_of (entry ∷ [])) ≡ times spot (spot ∷ []) = ap (λ (o : Option ℕ). times spot (filter_map (λ p. p) (o ∷ []))) has in
    let self = times_at (spot ∷ []) 0 (omega arith) in
    omega (arith, one, self, ap (times spot) (spots_more items from at entry le is), times_append spot (spots_of (between from at items)) (spots_of (entry ∷ [])), spots_le spot (drop from items) (at + 1 - from) (to - from) (omega arith))

-- the spot of one entry
pub one_spot : {T : Type 0} (x : ℕ) (entry : Entry T) (spot : ℕ) → spot_of entry ≡ Some spot → times x (spots_of (entry ∷ [])) ≡ times x (spot ∷ [])
one_spot x entry spot has = ap (λ (o : Option ℕ). times x (filter_map (λ p. p) (o ∷ []))) has

pub no_spot : {T : Type 0} (x : ℕ) (entry : Entry T) → spot_of entry ≡ None → times x (spots_of (entry ∷ [])) ≡ 0
no_spot x entry has = ap (λ (o : Option ℕ). times x (filter_map (λ p. p) (o ∷ []))) has

-- one more entry, counted
pub times_more : {T : Type 0} (x : ℕ) (items : List (Entry T)) (from at : ℕ) (entry : Entry T) → from ≤ at → slice_get items at ≡ Some entry → times x (spots_of (between from (at + 1) items)) ≡ times x (spots_of (between from at items)) + times x (spots_of (entry ∷ []))
times_more x items from at entry le is = ap (times x) (spots_more items from at entry le is) ∙ times_append x (spots_of (between from at items)) (spots_of (entry ∷ []))

pub times_taken : {T : Type 0} (x : ℕ) (items : List (Entry T)) (at : ℕ) (entry : Entry T) → at < length items → entry ≡ get_or items at entry → times x (spots_of (take (at + 1) items)) ≡ times x (spots_of (take at items)) + times x (spots_of (entry ∷ []))
times_taken x items at entry within is =
    ap (λ es. times x (spots_of es)) (take_more items at entry within ∙ ap (λ e. take at items ++ e ∷ []) (sym is))
    ∙ (ap (times x) (filter_map-append spot_of (take at items) (entry ∷ [])) ∙ times_append x (spots_of (take at items)) (spots_of (entry ∷ [])))

-- one more item
pub tagged_more : {T : Type 0} (items : List (Entry T)) (from at : ℕ) (entry : Entry T) → from ≤ at → slice_get items at ≡ Some entry → between from (at + 1) (tagged_of items) ≡ between from at (tagged_of items) ++ entry.tagged ∷ []
tagged_more {T} items from at entry le is =
    let within = slice_get_within items at entry is in
    let long = length-map items (λ (e : Entry T). e.tagged) in
    between_more (tagged_of items) from at entry.tagged le (omega arith)
    ∙ ap (λ e. between from at (tagged_of items) ++ e ∷ []) (get_or-map (λ (e : Entry T). e.tagged) items at entry entry.tagged within ∙ ap (λ (e : Entry T). e.tagged) (get_or_from_slice_get items at entry entry is))

-- pairs of two lists
pub pairs_append : {X : Type 0} (R : X → X → Type 0) (xs ys : List X) → AllPairs R xs → AllPairs R ys → ((i j : ℕ) (d : X) → i < length xs → j < length ys → R (get_or xs i d) (get_or ys j d)) → AllPairs R (xs ++ ys)
pairs_append R [] ys p q cross = q
pairs_append R (x ∷ xs) ys p q cross =
    AllPairs-cons R x (xs ++ ys)
    (All-append (R x) xs ys (λ k d h. p zero (suc k) d (omega arith) (omega arith)) (λ k d h. cross zero k d (omega arith) h))
    (pairs_append R xs ys (λ i j d lt within. p (suc i) (suc j) d (omega arith) (omega arith)) q (λ i j d a b. cross (suc i) j d (omega arith) b))

pub rises_take : (n : ℕ) (xs : List ℕ) → Rises xs → Rises (take n xs)
rises_take n xs rising i j d lt within =
    let shorter = length-take n xs in
    let in_n : j < n = omega arith in
    let in_xs : j < length xs = omega arith in
    rw (get_or-take n xs i d (omega arith), get_or-take n xs j d in_n) (rising i j d lt in_xs)

pub rises_drop : (n : ℕ) (xs : List ℕ) → Rises xs → Rises (drop n xs)
rises_drop n xs rising i j d lt within =
    let shorter = length-drop n xs in
    rw (get_or-drop n xs i d, get_or-drop n xs j d) (rising (n + i) (n + j) d (omega arith) (omega arith))

-- other numbers in the place of a range, between those round it
pub rises_splice : (xs ys : List ℕ) (low high : ℕ) → Rises xs → Rises ys → low ≤ high → high ≤ length xs → (0 < low → All (λ y. get_or xs (low - 1) 0 < y) ys) → (high < length xs → All (λ y. y < get_or xs high 0) ys) → Rises (take low xs ++ (ys ++ drop high xs))
rises_splice xs ys low high rising risen order within above below =
    pairs_append (λ x y. x < y) (take low xs) (ys ++ drop high xs) (rises_take low xs rising)
    (pairs_append (λ x y. x < y) ys (drop high xs) risen (rises_drop high xs rising) behind)
    front
  where
    no_higher : (i j d : ℕ) → i ≤ j → j < length xs → get_or xs i d ≤ get_or xs j d
    no_higher i j d le inside = by (cases_lt i j) where
      by : (i < j) ⊎ (j ≤ i) → get_or xs i d ≤ get_or xs j d
      by (inl lt) = omega (arith, rising i j d lt inside)
      by (inr ge) = let e : i ≡ j = omega arith in subst (λ n. get_or xs i d ≤ get_or xs n d) e (omega arith)

    behind : (i j d : ℕ) → i < length ys → j < length (drop high xs) → get_or ys i d < get_or (drop high xs) j d
    behind i j d a b =
        let shorter = length-drop high xs in
        let same = get_or_default xs high 0 d (omega arith) in
        rw (get_or-drop high xs j d) (omega (arith, below (omega arith) i d a, no_higher high (high + j) d (omega arith) (omega arith), same))

    front_key : (i d : ℕ) → i < length (take low xs) → (y : ℕ) → get_or xs (low - 1) d < y → get_or (take low xs) i d < y
    front_key i d a y lt =
        let shorter = length-take low xs in
        rw (get_or-take low xs i d (omega arith)) (omega (arith, no_higher i (low - 1) d (omega arith) (omega arith)))

    front : (i j d : ℕ) → i < length (take low xs) → j < length (ys ++ drop high xs) → get_or (take low xs) i d < get_or (ys ++ drop high xs) j d
    front i j d a b =
        let shorter = length-take low xs in
        let same = get_or_default xs (low - 1) 0 d (omega arith) in
        All-append (λ y. get_or (take low xs) i d < y) ys (drop high xs)
        (λ k e h. front_key i d a (get_or ys k e) (omega (arith, above (omega arith) k e h, same)))
        (λ k e h. let rest = length-drop high xs in rw (get_or-drop high xs k e, get_or-take low xs i d (omega arith)) (subst (λ n. get_or xs i d < n) (get_or_default xs (high + k) d e (omega arith)) (rising i (high + k) d (omega arith) (omega arith))))
        j d b

-- the spots of three parts
pub spots_join : {T : Type 0} (x : ℕ) (front middle back : List (Entry T)) → times x (spots_of (front ++ (middle ++ back))) ≡ times x (spots_of front) + (times x (spots_of middle) + times x (spots_of back))
spots_join x front middle back =
    omega (arith, ap (times x) (filter_map-append spot_of front (middle ++ back)), ap (times x) (filter_map-append spot_of middle back), times_append x (spots_of front) (spots_of (middle ++ back)), times_append x (spots_of middle) (spots_of back))

-- the spots of a list, part by part
pub spots_split : {T : Type 0} (x : ℕ) (items : List (Entry T)) (low high : ℕ) → low ≤ high → times x (spots_of items) ≡ times x (spots_of (take low items)) + (times x (spots_of (between low high items)) + times x (spots_of (drop high items)))
spots_split x items low high le =
    ap (λ es. times x (spots_of es)) (split_between items low high le)
    ∙ spots_join x (take low items) (between low high items) (drop high items)

-- the keys of a splice
pub keys_splice : {T : Type 0} (items entries : List (Entry T)) (low high : ℕ) → keys_of (splice items low high entries) ≡ take low (keys_of items) ++ (keys_of entries ++ drop high (keys_of items))
keys_splice {T} items entries low high =
    let key : Entry T → ℕ = λ entry. entry.key in
    map-append key (take low items) (entries ++ drop high items)
    ∙ (ap (λ ks. map key (take low items) ++ ks) (map-append key entries (drop high items))
    ∙ (ap (λ ks. ks ++ (map key entries ++ map key (drop high items))) (sym (take-map key low items))
    ∙ ap (λ ks. take low (map key items) ++ (map key entries ++ ks)) (sym (drop-map key high items))))

-- the items of a splice
pub tagged_splice : {T : Type 0} (items entries : List (Entry T)) (low high : ℕ) → tagged_of (splice items low high entries) ≡ splice (tagged_of items) low high (tagged_of entries)
tagged_splice {T} items entries low high =
    let own : Entry T → Option Tag × T = λ entry. entry.tagged in
    map-append own (take low items) (entries ++ drop high items)
    ∙ (ap (λ ks. map own (take low items) ++ ks) (map-append own entries (drop high items))
    ∙ (ap (λ ks. ks ++ (map own entries ++ map own (drop high items))) (sym (take-map own low items))
    ∙ ap (λ ks. take low (map own items) ++ (map own entries ++ ks)) (sym (drop-map own high items))))

-- a range with what stands before it, and with what stands behind it
front_joins : {X : Type 0} (xs : List X) (low from : ℕ) → low ≤ from → take low xs ++ between low from xs ≡ take from xs
front_joins xs low from le =
    ap (λ zs. zs ++ between low from xs) (sym (take-take low from xs le))
    ∙ (ap (λ zs. take low (take from xs) ++ zs) (between_is xs low from) ∙ take-append-drop low (take from xs))

back_joins : {X : Type 0} (xs : List X) (to high : ℕ) → to ≤ high → between to high xs ++ drop high xs ≡ drop to xs
back_joins xs to high le =
    let far : high ≡ to + (high - to) = omega arith in
    ap (λ zs. between to high xs ++ zs) (ap (λ n. drop n xs) far ∙ sym (drop-drop (high - to) to xs)) ∙ take-append-drop (high - to) (drop to xs)

-- a splice of a wider range, whose ends stay, is the splice
pub wider_splice : {X : Type 0} (xs ys : List X) (low from to high : ℕ) → low ≤ from → from ≤ to → to ≤ high → splice xs low high (between low from xs ++ (ys ++ between to high xs)) ≡ splice xs from to ys
wider_splice xs ys low from to high a b c =
    ap (λ zs. take low xs ++ zs) (append_assoc (between low from xs) (ys ++ between to high xs) (drop high xs) ∙ ap (λ zs. between low from xs ++ zs) (append_assoc ys (between to high xs) (drop high xs) ∙ ap (λ zs. ys ++ zs) (back_joins xs to high c)))
    ∙ (sym (append_assoc (take low xs) (between low from xs) (ys ++ drop to xs)) ∙ ap (λ zs. zs ++ (ys ++ drop to xs)) (front_joins xs low from a))

-- what is kept by a splice
pub Keeps_splice : {T : Type 0} (items entries : List (Entry T)) (spots left after : List ℕ) (low high : ℕ) → Keeps items spots → low ≤ high → high ≤ length items → Rises (keys_of entries) → All (λ key. key < 2 ^ 64) (keys_of entries) → (0 < low → All (λ key. get_or (keys_of items) (low - 1) 0 < key) (keys_of entries)) → (high < length items → All (λ key. key < get_or (keys_of items) high 0) (keys_of entries)) → ((x : ℕ) → times x left + times x (spots_of (between low high items)) ≡ times x spots) → IsNonDecreasing after → ((x : ℕ) → times x after ≡ times x left + times x (spots_of entries)) → Keeps (splice items low high entries) after
Keeps_splice {T} items entries spots left after low high keeps order within rising bounded above below gone sorted more =
    let long = length-map items (λ (e : Entry T). e.key) in
    record {
      rising = subst Rises (sym (keys_splice items entries low high)) (rises_splice (keys_of items) (keys_of entries) low high keeps.rising rising order (omega arith) above (λ h. below (omega arith)));
      bounded = subst (λ ks. All (λ key. key < 2 ^ 64) ks) (sym (keys_splice items entries low high)) (All-append (λ key. key < 2 ^ 64) (take low (keys_of items)) (keys_of entries ++ drop high (keys_of items)) (All-take (λ key. key < 2 ^ 64) low (keys_of items) keeps.bounded) (All-append (λ key. key < 2 ^ 64) (keys_of entries) (drop high (keys_of items)) bounded (All-drop (λ key. key < 2 ^ 64) high (keys_of items) keeps.bounded)));
      sorted = sorted;
      same = λ x. omega (arith, more x, gone x, keeps.same x, spots_split x items low high order, spots_join x (take low items) entries (drop high items));
    }
