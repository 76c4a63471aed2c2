-- What a list of entries holds.
use Rattle.std.specs.Prelude.{ℕ, List, map, Option, Some, None}
use Rattle.std.specs.List.{filter_map}
use Rattle.tagged_list.specs.declared.tag.Tag.{Tag}
use Rattle.tagged_list.specs.declared.entry.Entry.{Entry}
use Rattle.tagged_list.specs.Tags.{rank_of, spot_at}

-- the items with their tags
abbrev pub tagged_of : {T : Type 0} → List (Entry T) → List (Option Tag × T)
tagged_of entries = map (λ entry. entry.tagged) entries

-- the keys
abbrev pub keys_of : {T : Type 0} → List (Entry T) → List ℕ
keys_of entries = map (λ entry. entry.key) entries

-- the spot of an entry, if it has a tag
abbrev pub spot_of : {T : Type 0} → Entry T → Option ℕ
spot_of entry = of_tag entry.tagged.0 entry.key where
  of_tag : Option Tag → ℕ → Option ℕ
  of_tag None key = None
  of_tag (Some tag) key = Some (spot_at (rank_of tag) key)

-- the spots of the entries that have tags
abbrev pub spots_of : {T : Type 0} → List (Entry T) → List ℕ
spots_of entries = filter_map spot_of entries
