-- Which items have a tag, and the order of tags.
use Rattle.std.specs.Prelude.{ℕ, ◌+◌, ◌*◌, ◌^◌, ◌==◌, Bool, false, Option, Some, None}
use Rattle.tagged_list.specs.declared.tag.Tag.{Tag}
use Rattle.tagged_list.specs.declared.tag.Tag.TheVariants.{Number, Depth}

-- whether two tags are the same
abbrev pub same_tag : Tag → Tag → Bool
same_tag (Number one) (Number other) = one == other
same_tag (Depth one) (Depth other) = one == other
same_tag (Number one) (Depth other) = false
same_tag (Depth one) (Number other) = false

-- whether an item has the tag
abbrev pub has_tag : {T : Type 0} → Tag → Option Tag × T → Bool
has_tag tag (None, item) = false
has_tag tag (Some other, item) = same_tag tag other

-- numbers and depths in turn
abbrev pub rank_of : Tag → ℕ
rank_of (Number number) = 2 * number
rank_of (Depth depth) = 2 * depth + 1

-- a tag's rank and a key as one number, by which spots are ordered
abbrev pub spot_at : ℕ → ℕ → ℕ
spot_at rank key = 2 ^ 64 * rank + key
