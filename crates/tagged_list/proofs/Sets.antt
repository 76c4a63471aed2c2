-- One entry in the place of another with the same key and tag.
use Rattle.std.proofs.Common.{◌≡◌, ℕ, ◌^◌, ◌<◌, List, [], ◌∷◌, length, get_or, set, map, zero, suc, refl, ap, sym, ◌∙◌, subst, arith, Option}
use Rattle.std.specs.Prelude.{All}
use Rattle.std.specs.List.{splice, filter_map}
use Rattle.tagged_list.specs.declared.entry.Entry.{Entry}
use Rattle.tagged_list.specs.declared.tag.Tag.{Tag}
use Rattle.tagged_list.specs.Entries.{keys_of, spot_of, spots_of}
use Rattle.tagged_list.specs.Keeps.{times, Rises, Keeps}
use Rattle.tagged_list.proofs.Finds.{times_cons}

pub splice_one : {X : Type 0} (xs : List X) (at : ℕ) (x : X) → at < length xs → splice xs at (suc at) (x ∷ []) ≡ set xs at x
splice_one [] at x within = absurd (omega arith)
splice_one (y ∷ ys) zero x within = refl
splice_one (y ∷ ys) (suc at) x within = ap (λ zs. y ∷ zs) (splice_one ys at x (omega arith))

pub map_set : {X Y : Type 0} (f : X → Y) (xs : List X) (at : ℕ) (x : X) → map f (set xs at x) ≡ set (map f xs) at (f x)
map_set f [] at x = refl
map_set f (y ∷ ys) zero x = refl
map_set f (y ∷ ys) (suc at) x = ap (λ zs. f y ∷ zs) (map_set f ys at x)

keys_set : {T : Type 0} (items : List (Entry T)) (at : ℕ) (e : Entry T) → at < length items → e.key ≡ get_or (keys_of items) at 0 → keys_of (set items at e) ≡ keys_of items
keys_set [] at e within same = absurd (omega arith)
keys_set (item ∷ items) zero e within same = ap (λ (k : ℕ). k ∷ keys_of items) same
keys_set (item ∷ items) (suc at) e within same = ap (λ (ks : List ℕ). item.key ∷ ks) (keys_set items at e (omega arith) same)

spot_same : {T : Type 0} (one other : Entry T) → one.key ≡ other.key → one.tagged.0 ≡ other.tagged.0 → spot_of one ≡ spot_of other
spot_same {T} one other key tag =
    ap (λ (k : ℕ). spot_of {T = T} (record { key = k; tagged = (one.tagged.0, one.tagged.1) })) key ∙ ap (λ (t : Option Tag). spot_of {T = T} (record { key = other.key; tagged = (t, one.tagged.1) })) tag

one_same : {T : Type 0} (x : ℕ) (one other : Entry T) → spot_of one ≡ spot_of other → times x (spots_of (one ∷ [])) ≡ times x (spots_of (other ∷ []))
one_same x one other same = ap (λ (o : Option ℕ). times x (filter_map (λ p. p) (o ∷ []))) same

times_set : {T : Type 0} (x : ℕ) (items : List (Entry T)) (at : ℕ) (e : Entry T) → at < length items → spot_of e ≡ spot_of (get_or items at e) → times x (spots_of (set items at e)) ≡ times x (spots_of items)
times_set x [] at e within same = absurd (omega arith)
times_set x (item ∷ items) zero e within same = omega (arith, times_cons x e items, times_cons x item items, one_same x e item same)
times_set x (item ∷ items) (suc at) e within same =
    omega (arith, times_cons x item (set items at e), times_cons x item items, times_set x items at e (omega arith) same)

pub Keeps_set : {T : Type 0} (items : List (Entry T)) (spots : List ℕ) (at : ℕ) (e : Entry T) → Keeps items spots → at < length items → e.key ≡ get_or (keys_of items) at 0 → (get_or items at e).key ≡ get_or (keys_of items) at 0 → e.tagged.0 ≡ (get_or items at e).tagged.0 → Keeps (set items at e) spots
Keeps_set items spots at e keeps within key own tag =
    let keys = keys_set items at e within key in
    record {
      rising = subst Rises (sym keys) keeps.rising;
      bounded = subst (λ ks. All (λ key. key < 2 ^ 64) ks) (sym keys) keeps.bounded;
      sorted = keeps.sorted;
      same = λ x. omega (arith, keeps.same x, times_set x items at e within (spot_same e (get_or items at e) (key ∙ sym own) tag));
    }
