-- Protected sections by the containers of rows.
use Rattle.std.proofs.Common.{◌≡◌, ℕ, ◌<◌, Bool, true, false, cond, List, length, get_or, refl, ap, sym, ◌∙◌, Option, Some, None}
use Rattle.std.specs.Prelude.{slice_get, find, option_map, unwrap_or}
use Rattle.std.specs.Option.{option_or}
use Rattle.std.proofs.lemmas.Bool.{false≢true}
use Rattle.std.proofs.lemmas.Option.{slice_get_within, slice_get-get_or}
use Rattle.doc_model.specs.declared.block.Block.{Block}
use Rattle.doc_model.specs.declared.refusal.Refusal.{Refusal}
use Rattle.doc_model.specs.declared.refusal.Refusal.TheVariants.{Protected}
use Rattle.node_array.specs.declared.row.Row.{Row}
use Rattle.node_array.specs.declared.row.Row.TheVariants as row
use Rattle.node_array.specs.Containers.{containers_of}
use Rattle.node_array.specs.Rows.{rows_of}
use Rattle.row_checks.specs.Guarded.{protected_row}
use Rattle.row_facts.specs.Around.{Opened, open_before, open_behind, sections_open, begins, is_end, IsOpenBy}
use Rattle.row_facts.specs.Paragraphs.{section_in}
use Rattle.row_facts.proofs.Containers.{container_opens}

-- what a row begins comes first, and then what was open before it
stepped : (opened : Opened) (r : Row) → begins r ≡ true → protected_row (sections_open (open_behind opened r)) ≡ option_or (protected_row (section_in r)) (protected_row (sections_open opened))
stepped opened (row.Start head) beginning = by_test head.protected where
  by_test : (test : Bool) → option_map (λ head. Protected head.name) (cond test (Some head) (find (λ head. head.protected) (sections_open opened)))
      ≡ option_or (option_map (λ head. Protected head.name) (cond test (Some head) None)) (option_map (λ head. Protected head.name) (find (λ head. head.protected) (sections_open opened)))
  by_test true = refl
  by_test false = refl
stepped opened row.End beginning = absurd (false≢true beginning)
stepped opened (row.Par head items) beginning = absurd (false≢true beginning)
stepped opened row.NoteText beginning = refl

-- what begins is no end
pub begins_no_end : (r : Row) → begins r ≡ true → is_end r ≡ false
begins_no_end (row.Start head) beginning = refl
begins_no_end row.End beginning = absurd (false≢true beginning)
begins_no_end (row.Par head items) beginning = absurd (false≢true beginning)
begins_no_end row.NoteText beginning = refl

same_row : (rows : List Row) (place : ℕ) (one other : Row) → slice_get rows place ≡ Some one → slice_get rows place ≡ Some other → other ≡ one
same_row rows place one other here there = ap (λ (o : Option Row). unwrap_or o one) (sym there ∙ here)

-- the container's row is one of the rows, before the row that it holds, and begins what it holds
pub outer_within : (rows : List Row) (at place : ℕ) → IsOpenBy rows at (Some place) → place < length rows
outer_within rows at place opened = slice_get_within rows place opened.first opened.stands

pub outer_begins : (rows : List Row) (at place : ℕ) (one : Row) → IsOpenBy rows at (Some place) → slice_get rows place ≡ Some one → is_end one ≡ false
outer_begins rows at place one opened there =
    ap is_end (sym (same_row rows place one opened.first there opened.stands)) ∙ begins_no_end opened.first opened.beginning

-- the refusal by what is open before a row is that by its container, or that by what is open before the container
pub outer_told : (rows : List Row) (at place : ℕ) (one : Row) → IsOpenBy rows at (Some place) → slice_get rows place ≡ Some one
    → protected_row (sections_open (open_before at rows)) ≡ option_or (protected_row (section_in one)) (protected_row (sections_open (open_before place rows)))
outer_told rows at place one opened there =
    let is : opened.first ≡ one = same_row rows place one opened.first there opened.stands in
    ap (λ (o : Opened). protected_row (sections_open o)) opened.opened ∙ stepped (open_before place rows) opened.first opened.beginning
    ∙ ap (λ (r : Row). option_or (protected_row (section_in r)) (protected_row (sections_open (open_before place rows)))) is

-- what is open before a row that is no end, by its container
pub open_by : (body : List Block) (at : ℕ) (container : Option ℕ) → at < length (rows_of body) → ((one : Row) → slice_get (rows_of body) at ≡ Some one → is_end one ≡ false)
    → slice_get (containers_of body) at ≡ Some container → IsOpenBy (rows_of body) at container
open_by body at container inside no_end here =
    let rows : List Row = rows_of body in
    let there : slice_get rows at ≡ Some (get_or rows at row.End) = slice_get-get_or rows at row.End inside in
    container_opens body at (get_or rows at row.End) container there (no_end (get_or rows at row.End) there) here

-- nothing is open, so nothing refuses
pub none_open : (rows : List Row) (at : ℕ) → IsOpenBy rows at None → None ≡ protected_row (sections_open (open_before at rows))
none_open rows at opened = ap (λ (o : Opened). protected_row (sections_open o)) (sym opened)

-- the section that the container is refuses
pub begun_refuses : (rows : List Row) (at place : ℕ) (one : Row) (why : Refusal) → IsOpenBy rows at (Some place) → slice_get rows place ≡ Some one → Some why ≡ protected_row (section_in one)
    → Some why ≡ protected_row (sections_open (open_before at rows))
begun_refuses rows at place one why opened there refuses =
    sym (outer_told rows at place one opened there ∙ ap (λ (o : Option Refusal). option_or o (protected_row (sections_open (open_before place rows)))) (sym refuses))

-- it doesn't, so what is open before it tells
pub outer_refuses : (rows : List Row) (at place : ℕ) (one : Row) → IsOpenBy rows at (Some place) → slice_get rows place ≡ Some one → None ≡ protected_row (section_in one)
    → protected_row (sections_open (open_before place rows)) ≡ protected_row (sections_open (open_before at rows))
outer_refuses rows at place one opened there none =
    sym (outer_told rows at place one opened there ∙ ap (λ (o : Option Refusal). option_or o (protected_row (sections_open (open_before place rows)))) (sym none))
