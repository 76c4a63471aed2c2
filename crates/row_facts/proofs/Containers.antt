-- What is open before a row is known by the place of its container.
use Rattle.std.proofs.Common.{◌≡◌, ℕ, ◌+◌, ◌≤◌, true, false, List, [], ◌∷◌, ◌++◌, take, refl, ap, sym, subst, ◌∙◌, arith, zero, suc, Option, Some, slice_get}
use Rattle.std.specs.Prelude.{fold, unwrap_or}
use Rattle.std.proofs.lemmas.List.{take_more}
use Rattle.std.proofs.lemmas.List.Sums.{fold-append}
use Rattle.std.proofs.lemmas.Option.{get_or_from_slice_get, slice_get_within, none-some}
use Rattle.std.proofs.lemmas.Bool.{false≢true, true≢false}
use Rattle.doc_model.specs.declared.block.Block.{Block}
use Rattle.node_array.specs.declared.row.Row.{Row}
use Rattle.node_array.specs.declared.row.Row.TheVariants as row
use Rattle.node_array.specs.Containers.{containers_of}
use Rattle.node_array.specs.Rows.{rows_of}
use Rattle.node_array.proofs.OneStack.{body_runs}
use Rattle.node_array.proofs.Stacks.{innermost, outer, round, behind, run}
use Rattle.row_facts.specs.Around.{Opened, without_innermost, open_behind, open_before, begins, is_end, IsOpenFrom, IsOpenBy}

module _ (all : List Row) where
  -- the places of the rows that began what is open, the innermost first
  abbrev StandsBy : ℕ → List ℕ → Type 0
  StandsBy at [] = open_before at all ≡ []
  StandsBy at (place ∷ places) = IsOpenFrom all at place × StandsBy place places

  one_more : (at : ℕ) (r : Row) → slice_get all at ≡ Some r → open_before (at + 1) all ≡ open_behind (open_before at all) r
  one_more at r here =
      ap (fold open_behind []) (take_more all at r (slice_get_within all at r here) ∙ ap (λ (x : Row). take at all ++ x ∷ []) (get_or_from_slice_get all at r r here))
      ∙ fold-append open_behind [] (take at all) (r ∷ [])

  stands_as : (at later : ℕ) (places : List ℕ) → open_before later all ≡ open_before at all → at ≤ later → StandsBy at places → StandsBy later places
  stands_as at later [] same below stands = same ∙ stands
  stands_as at later (place ∷ places) same below stands =
      let before = stands.0.before in
      (record { first = stands.0.first; stands = stands.0.stands; before = omega (arith, below, before); beginning = stands.0.beginning; opened = same ∙ stands.0.opened }, stands.1)

  closed : (opened : Opened) (r : Row) → begins r ≡ true → without_innermost (open_behind opened r) ≡ opened
  closed opened (row.Start head) is = refl
  closed opened row.End is = absurd (false≢true is)
  closed opened (row.Par head items) is = absurd (false≢true is)
  closed opened row.NoteText is = refl

  ended : (at : ℕ) (places : List ℕ) → open_before (at + 1) all ≡ without_innermost (open_before at all) → StandsBy at places → StandsBy (at + 1) (outer places)
  ended at [] more stands = more ∙ ap without_innermost stands
  ended at (place ∷ places) more stands =
      let before = stands.0.before in
      stands_as place (at + 1) places (more ∙ ap without_innermost stands.0.opened ∙ closed (open_before place all) stands.0.first stands.0.beginning) (omega (arith, before)) stands.1

  step : (at : ℕ) (r : Row) (places : List ℕ) → slice_get all at ≡ Some r → StandsBy at places → StandsBy (at + 1) (behind at r places)
  step at (row.Start head) places here stands =
      (record { first = row.Start head; stands = here; before = omega arith; beginning = refl; opened = one_more at (row.Start head) here }, stands)
  step at row.End places here stands = ended at places (one_more at row.End here) stands
  step at (row.Par head items) places here stands = stands_as at (at + 1) places (one_more at (row.Par head items) here) (omega arith) stands
  step at row.NoteText places here stands =
      (record { first = row.NoteText; stands = here; before = omega arith; beginning = refl; opened = one_more at row.NoteText here }, stands)

  -- the containers of rows from a place on
  pub record Reached (containers : List (Option ℕ)) (from i : ℕ) (r : Row) : Type 0 where
    pub places : List ℕ
    pub container : slice_get containers i ≡ Some (innermost (round r places))
    pub stands : StandsBy (from + i) places

  later : (containers : List (Option ℕ)) (container : Option ℕ) (from i : ℕ) (r : Row) → Reached containers (from + 1) i r → Reached (container ∷ containers) from (suc i) r
  later containers container from i r reached =
      record { places = reached.places; container = reached.container; stands = subst (λ (n : ℕ). StandsBy n reached.places) (omega arith) reached.stands }

  reached : (rows : List Row) (from : ℕ) (places : List ℕ) → ((i : ℕ) → slice_get rows i ≡ slice_get all (from + i)) → StandsBy from places → (i : ℕ) (r : Row) → slice_get rows i ≡ Some r → Reached (run places from rows) from i r
  reached [] from places same stands i r here = absurd (none-some r here)
  reached (x ∷ rows) from places same stands zero r here =
      record { places = places; container = ap (λ (y : Row). Some (innermost (round y places))) (ap (λ (o : Option Row). unwrap_or o x) here); stands = subst (λ (n : ℕ). StandsBy n places) (omega arith) stands }
  reached (x ∷ rows) from places same stands (suc i) r here =
      let first : slice_get all from ≡ Some x = ap (slice_get all) (omega arith) ∙ sym (same 0) in
      let rest : (j : ℕ) → slice_get rows j ≡ slice_get all ((from + 1) + j) = λ j. same (suc j) ∙ ap (slice_get all) (omega arith) in
      later (run (behind from x places) (from + 1) rows) (innermost (round x places)) from i r
      (reached rows (from + 1) (behind from x places) rest (step from x places first stands) i r here)

  round_it : (r : Row) (places : List ℕ) → is_end r ≡ false → round r places ≡ places
  round_it (row.Start head) places other = refl
  round_it row.End places other = absurd (true≢false other)
  round_it (row.Par head items) places other = refl
  round_it row.NoteText places other = refl

  opened_by : (at : ℕ) (places : List ℕ) → StandsBy at places → IsOpenBy all at (innermost places)
  opened_by at [] stands = stands
  opened_by at (place ∷ places) stands = stands.0

pub container_opens : (body : List Block) (at : ℕ) (r : Row) (container : Option ℕ) → slice_get (rows_of body) at ≡ Some r → is_end r ≡ false → slice_get (containers_of body) at ≡ Some container → IsOpenBy (rows_of body) at container
container_opens body at r container here other is =
    let known = reached (rows_of body) (rows_of body) 0 [] (λ i. ap (slice_get (rows_of body)) (omega arith)) refl at r here in
    let same : container ≡ innermost known.places = ap (λ (o : Option (Option ℕ)). unwrap_or o container) (sym is ∙ ap (λ (cs : List (Option ℕ)). slice_get cs at) (sym (body_runs body)) ∙ known.container) ∙ ap innermost (round_it (rows_of body) r known.places other) in
    subst (λ (c : Option ℕ). IsOpenBy (rows_of body) at c) (sym same) (opened_by (rows_of body) at known.places (subst (λ (n : ℕ). StandsBy (rows_of body) n known.places) (omega arith) known.stands))
