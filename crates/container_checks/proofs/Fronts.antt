-- A paragraph at the front of its container, by the row before its own.
use Rattle.std.proofs.Common.{◌≡◌, ◌≢◌, ℕ, ◌+◌, ◌-◌, Bool, true, false, ◌||◌, ◌&&◌, List, [], ◌∷◌, ◌++◌, take, drop, get_or, refl, ap, ap₂, sym, ◌∙◌, subst, arith, Some}
use Rattle.std.specs.Prelude.{position, slice_get}
use Rattle.std.specs.List.{list_any}
use Rattle.std.proofs.lemmas.Bool.{false≢true}
use Rattle.std.proofs.lemmas.List.{take_more}
use Rattle.std.proofs.lemmas.Option.{get_or_from_slice_get, slice_get_within}
use Rattle.doc_model.specs.declared.block.Block.{Block}
use Rattle.doc_model.specs.declared.document.Document.{Document}
use Rattle.doc_model.specs.declared.paragraph.ParId.{ParId}
use Rattle.container_facts.specs.Fronts.{begins_with, is_front}
use Rattle.container_facts.proofs.Fronts.{front_told}
use Rattle.container_rows.specs.Standing.{IsApart}
use Rattle.edit_rules.specs.Places.{container_of}
use Rattle.node_array.specs.declared.row.Row.{Row}
use Rattle.node_array.specs.declared.row.Row.TheVariants as row
use Rattle.node_array.specs.Places.{is_par}
use Rattle.node_array.specs.Rows.{rows_of}
use Rattle.paragraph_rows.specs.Flat.{AreFlat}
use Rattle.paragraph_rows.specs.Standing.{AreApart, Stands}
use Rattle.paragraph_rows.proofs.Standing.{row_found}
use Rattle.row_facts.specs.Around.{begins}
use Rattle.level_walks.proofs.Lists.{none_first, none_rest}
use Rattle.level_walks.proofs.Reached.{turned}
use Rattle.level_walks.proofs.Ordered.{some_is}
use Rattle.level_walks.proofs.Rows.{HasRow, has_row}

-- whether the last row begins something
abbrev pub last_begins : Bool → List Row → Bool
last_begins fresh [] = fresh
last_begins fresh (r ∷ rows) = last_begins (begins r) rows

and_none : (test : Bool) → (test && false) ≡ false
and_none true = refl
and_none false = refl

no_front : (par : ParId) (fresh : Bool) (rows : List Row) → list_any (is_par par) rows ≡ false → is_front fresh par.0 rows ≡ false
no_front par fresh [] none = refl
no_front par fresh (row.Start head ∷ rows) none = no_front par true rows none
no_front par fresh (row.End ∷ rows) none = no_front par false rows none
no_front par fresh (row.Par head items ∷ rows) none =
    ap₂ (λ (a b : Bool). fresh && a || b) (turned par.0 head.id.0 false (none_first (is_par par) (row.Par head items) rows none)) (no_front par false rows (none_rest (is_par par) (row.Par head items) rows none))
    ∙ ap (λ (a : Bool). a || false) (and_none fresh)
no_front par fresh (row.NoteText ∷ rows) none = no_front par true rows none

front_is : (par : ParId) (fresh : Bool) (rows : List Row) (one : Row) (behind : List Row) → is_par par one ≡ true → list_any (is_par par) rows ≡ false → list_any (is_par par) behind ≡ false
    → is_front fresh par.0 (rows ++ one ∷ behind) ≡ last_begins fresh rows
front_is par fresh [] (row.Start head) behind own none later = absurd (false≢true own)
front_is par fresh [] row.End behind own none later = absurd (false≢true own)
front_is par fresh [] (row.Par head items) behind own none later =
    ap₂ (λ (a b : Bool). fresh && a || b) (turned par.0 head.id.0 true own) (no_front par false behind later) ∙ alone fresh where
      alone : (test : Bool) → (test && true || false) ≡ test
      alone true = refl
      alone false = refl
front_is par fresh [] row.NoteText behind own none later = absurd (false≢true own)
front_is par fresh (row.Start head ∷ rows) one behind own none later = front_is par true rows one behind own none later
front_is par fresh (row.End ∷ rows) one behind own none later = front_is par false rows one behind own none later
front_is par fresh (row.Par head items ∷ rows) one behind own none later =
    ap (λ (a : Bool). fresh && a || is_front false par.0 (rows ++ one ∷ behind)) (turned par.0 head.id.0 false (none_first (is_par par) (row.Par head items) rows none))
    ∙ ap (λ (a : Bool). a || is_front false par.0 (rows ++ one ∷ behind)) (and_none fresh)
    ∙ front_is par false rows one behind own (none_rest (is_par par) (row.Par head items) rows none) later
front_is par fresh (row.NoteText ∷ rows) one behind own none later = front_is par true rows one behind own none later

last_one : (fresh : Bool) (rows : List Row) (r : Row) → last_begins fresh (rows ++ r ∷ []) ≡ begins r
last_one fresh [] r = refl
last_one fresh (first ∷ rows) r = last_one (begins first) rows r

module _ (par : ParId) (rows : List Row) (at : ℕ) (apart : AreApart rows) (found : position (is_par par) rows ≡ Some at) where
  told : is_front true par.0 rows ≡ last_begins true (take at rows)
  told =
      let it : HasRow par rows = has_row par rows at apart found in
      let one : Row = row.Par it.head it.items in
      let place : it.at ≡ at = some_is it.at at (sym it.found ∙ found) in
      let stands : Stands par rows (take at rows) one (drop (at + 1) rows) = row_found par rows at one found (subst (λ (n : ℕ). slice_get rows n ≡ Some one) place it.there) apart in
      ap (is_front true par.0) stands.rows_are ∙ front_is par true (take at rows) one (drop (at + 1) rows) stands.own stands.none_before stands.none_behind

  -- its row is the first
  pub front_first : at ≡ 0 → true ≡ is_front true par.0 rows
  front_first is = sym (told ∙ ap (λ (n : ℕ). last_begins true (take n rows)) is)

  -- it stands behind another
  pub front_behind : at ≢ 0 → (r : Row) → slice_get rows (at - 1) ≡ Some r → begins r ≡ is_front true par.0 rows
  front_behind some r there =
      let next : at ≡ (at - 1) + 1 = omega (arith, some) in
      sym (told ∙ ap (λ (n : ℕ). last_begins true (take n rows)) next
      ∙ ap (last_begins true) (take_more rows (at - 1) r (slice_get_within rows (at - 1) r there))
      ∙ last_one true (take (at - 1) rows) (get_or rows (at - 1) r) ∙ ap begins (get_or_from_slice_get rows (at - 1) r r there))

-- what stands at the front begins its container
pub begins_told : (doc : Document) (body : List Block) (par : ParId) (test : Bool) → doc.body ≡ body → IsApart doc → AreFlat (rows_of body) → test ≡ is_front true par.0 (rows_of body)
    → test ≡ begins_with par.0 (container_of doc par)
begins_told doc body par test same apart =
    let P : List Block → Type 0 = λ blocks. AreFlat (rows_of blocks) → test ≡ is_front true par.0 (rows_of blocks) → test ≡ begins_with par.0 (container_of doc par) in
    subst P same (λ flat is. is ∙ sym (front_told doc par apart flat))
