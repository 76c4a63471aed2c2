-- Which master page follows another.
use Rattle.std.specs.Prelude.{ℕ, List, [], ◌∷◌, map, position, slice_get, codes, Option, Some, None, option_and_then}
use Rattle.std.specs.List.{AllByRecursion as Each}
use Rattle.std.specs.Option.{option_map_or}
use Rattle.std.specs.Str.{bytes_eq}
use Rattle.doc_model.specs.declared.page_layout.Master.{Master}
use Rattle.doc_model.specs.Valid.{IsNoneOrGiven}

-- the place of the first master of a name, counted from 0
abbrev pub place_of_master : List Master → List ℕ → Option ℕ
place_of_master masters name = position (λ master. bytes_eq master.name name) masters

-- the master where no page is there yet: the one named 'Standard', else the first, if there is one
abbrev pub first_master : List Master → Option ℕ
first_master [] = None
first_master (master ∷ masters) = option_map_or (λ place. Some place) (place_of_master (master ∷ masters) (codes "Standard")) (Some 0)

-- the master of a page behind one with the master at a place, or of a first page: the one of its next name, and the same where that is empty
abbrev pub next_master : List Master → Option ℕ → Option ℕ
next_master masters None = first_master masters
next_master masters (Some place) = option_and_then (λ master. following master.next) (slice_get masters place) where
  following : List ℕ → Option ℕ
  following [] = Some place
  following (letter ∷ letters) = place_of_master masters (letter ∷ letters)

-- each master that follows another is there
abbrev pub AreMastersThere : List Master → Type 0
AreMastersThere masters = Each (λ master. IsNoneOrGiven (map (λ other. other.name) masters) master.next) masters
