-- What counts say of the paragraphs that were counted.
use Rattle.std.specs.Prelude.{◌≡◌, ◌≢◌, ℕ, List, [], take, replicate, Option, None, Some, MatchOption}
use Rattle.std.specs.Str.{bytes_eq}
use Rattle.std.specs.HashMap.{get}
use Rattle.doc_model.specs.declared.paragraph.ParHead.{ParHead}
use Rattle.doc_model.specs.declared.list_style.ListStyle.{ListStyle}
use Rattle.field_model.specs.Labels.{places_counted_by, item_count, style_named}
use Rattle.list_num.specs.declared.counts.Counts.{Counts}
use Rattle.list_num.specs.declared.counts.StyleCounts.{StyleCounts}
use Rattle.list_num.specs.Counters.{count_in, style_at}

-- each counter says how many items of its level count among the places of a name
abbrev pub AreCountersOf : List ParHead → List ℕ → List ℕ → Type 0
AreCountersOf before name counters = (level : ℕ) → count_in counters level ≡ item_count (places_counted_by name before) level

-- the counters of a list style, and its place
pub record AreOfStyle (lists : List ListStyle) (before : List ParHead) (name : List ℕ) (style : StyleCounts) : Type 0 where
  pub counters : AreCountersOf before name style.counters
  pub place : style_at lists style.at ≡ style_named lists name

-- a name that has no entry has counted nothing, and isn't that of one of the list styles that are known
pub record IsUnknown (lists : List ListStyle) (before : List ParHead) (known : ℕ) (name : List ℕ) : Type 0 where
  pub places : places_counted_by name before ≡ []
  pub unseen : style_named (take known lists) name ≡ None

-- the counts are those of these paragraphs, in reading order, with these list styles
pub record HaveCounted (lists : List ListStyle) (before : List ParHead) (counts : Counts) : Type 0 where
  pub outline : AreCountersOf before [] counts.outline
  pub styles : (name : List ℕ) → name ≢ [] → MatchOption (get bytes_eq counts.lists name) (IsUnknown lists before counts.known name) (AreOfStyle lists before name)

-- the counters of a style that has counted nothing
abbrev pub no_counts : List ℕ
no_counts = replicate 10 0

-- what a name has when the list style at a place is entered under it: what it had, else that place and nothing counted
abbrev pub entered : ℕ → Option StyleCounts → StyleCounts
entered at None = record { at = Some at; counters = no_counts }
entered at (Some style) = style
