-- Pages with more rows behind them, and one more closed page.
use Rattle.std.proofs.Common.{◌≡◌, ℕ, ◌+◌, ◌-◌, ◌<◌, ◌≤◌, List, [], ◌∷◌, ◌++◌, Bool, true, false, ◌&&◌, ◌==◌, nat_le, Option, if◌then◌else◌, refl, length, drop, take, zero, suc, arith, ap, ap₂, ◌⊎◌, inl, inr, sym, ◌∙◌, max}
use Rattle.std.proofs.lemmas.Bool.{cases_lt}
use Rattle.std.proofs.lemmas.Bool.Decides.{nat_tests}
use Rattle.std.proofs.lemmas.List.{take-append-le, drop-append-le, append_assoc, length-append, length-drop}
use Rattle.page_model.specs.declared.body.HeadText.{HeadText}
use Rattle.page_model.specs.declared.frame.Frames.{Frames}
use Rattle.page_model.specs.declared.row.Row.{Row}
use Rattle.page_model.specs.declared.row.NoteRow.{NoteRow}
use Rattle.page_model.specs.Breaking.{must_end_between, may_end_at, first_forced, blanks_of, notes_of, cost_of, is_reached, end_at_level, first_there, page_end}
use Rattle.page_model.specs.Pages.{Broken, Left, at_most, master_of, number_of, room_for, count_for, room_for_notes, page_of, left_by, rows_behind, is_over}
use Rattle.paginate.specs.declared.breaker.Breaker.{Breaker}
use Rattle.paginate.specs.declared.breaker.Closed.{Closed}
use Rattle.paginate.specs.Heads.{heads_behind}
use Rattle.paginate.specs.Standing.{left_of, closed_of, Closes}
use Rattle.paginate.specs.Reached.{size_of, closed_behind, heads_after, Reaches}
use Rattle.paginate.proofs.EndLemmas.{greatest-same, page_end-within, page_end-some, page_end-room, length-notes_of}

-- two rows at least: more behind them change nothing at the first place
may_end-first : (level : ℕ) (rows more : List Row) → 1 < length rows → may_end_at level (rows ++ more) 1 ≡ may_end_at level rows 1
may_end-first level [] more h = absurd (omega arith)
may_end-first level (row ∷ []) more h = absurd (omega arith)
may_end-first level (row ∷ (next ∷ rows)) more h = refl

may_end-more : (level : ℕ) (rows more : List Row) (place : ℕ) → 1 ≤ place → place < length rows → may_end_at level (rows ++ more) place ≡ may_end_at level rows place
may_end-more level rows more place least most =
    ap (λ (l : List Row). may_end_at level l 1) (drop-append-le (place - 1) rows more (omega arith))
    ∙ may_end-first level (drop (place - 1) rows) more (omega (arith, length-drop (place - 1) rows))

-- the first forced end is the same, or both stand behind all rows
forced-more : (rows more : List Row) → (first_forced (rows ++ more) ≡ first_forced rows) ⊎ ((length rows ≤ first_forced (rows ++ more)) × (first_forced rows ≡ length rows))
forced-more [] more = inr (omega arith, refl)
forced-more (row ∷ []) [] = inl refl
forced-more (row ∷ []) (next ∷ more) = inr (some (must_end_between row next), refl)
  where
    some : (b : Bool) → 1 ≤ (if b then 1 else suc (first_forced (next ∷ more)))
    some true = omega arith
    some false = omega arith
forced-more (row ∷ (next ∷ rows)) more = by_test (must_end_between row next) (forced-more (next ∷ rows) more)
  where
    by_test : (b : Bool) → (first_forced ((next ∷ rows) ++ more) ≡ first_forced (next ∷ rows)) ⊎ ((length (next ∷ rows) ≤ first_forced ((next ∷ rows) ++ more)) × (first_forced (next ∷ rows) ≡ length (next ∷ rows)))
        → ((if b then 1 else suc (first_forced ((next ∷ rows) ++ more))) ≡ (if b then 1 else suc (first_forced (next ∷ rows))))
        ⊎ ((length (row ∷ (next ∷ rows)) ≤ (if b then 1 else suc (first_forced ((next ∷ rows) ++ more)))) × ((if b then 1 else suc (first_forced (next ∷ rows))) ≡ length (row ∷ (next ∷ rows))))
    by_test true h = inl refl
    by_test false (inl same) = inl (ap suc same)
    by_test false (inr (long, all)) = inr (omega (arith, long), ap suc all)

le-same : (m a b : ℕ) → (m ≤ a → m ≤ b) → (m ≤ b → m ≤ a) → nat_le m a ≡ nat_le m b
le-same m a b p q = elim (cases_lt a m) [
  | inl over ↦ (let other : b < m = elim (cases_lt b m) [ inl h ↦ h | inr h ↦ (let under = q h in absurd (omega arith)) ] in grind (arith, nat_tests))
  | inr under ↦ (let other = p under in grind (arith, nat_tests))
]

forced-test : (rows more : List Row) (place : ℕ) → place < length rows → nat_le place (first_forced (rows ++ more)) ≡ nat_le place (first_forced rows)
forced-test rows more place h = elim (forced-more rows more) [
  | inl same ↦ ap (nat_le place) same
  | inr (long, all) ↦ le-same place (first_forced (rows ++ more)) (first_forced rows) (λ _. omega (arith, all)) (λ _. omega (arith, long))
]

reached-more : (room : ℕ) (carried : List NoteRow) (rows more : List Row) (place : ℕ) → place < length rows → is_reached room carried (rows ++ more) place ≡ is_reached room carried rows place
reached-more room carried rows more place h =
    ap₂ (λ (l : List Row) (b : Bool). nat_le (cost_of carried l) room && b) (take-append-le place rows more (omega arith)) (forced-test rows more place h)

end_at_level-more : (room level : ℕ) (carried : List NoteRow) (rows more : List Row) → room < length rows → end_at_level room carried (rows ++ more) level ≡ end_at_level room carried rows level
end_at_level-more room level carried rows more h =
    greatest-same (λ place. is_reached room carried (rows ++ more) place && may_end_at level (rows ++ more) place) (λ place. is_reached room carried rows place && may_end_at level rows place) room
    (λ place least most. ap₂ (λ (a b : Bool). a && b) (reached-more room carried rows more place (omega arith)) (may_end-more level rows more place least (omega arith)))

-- where there are more rows than a page has room for, further ones don't change its end
pub page_end-more : (room : ℕ) (carried : List NoteRow) (rows more : List Row) → room < length rows → page_end room carried (rows ++ more) ≡ page_end room carried rows
page_end-more room carried [] more h = absurd (omega arith)
page_end-more room carried (row ∷ rows) more h =
    ap (λ (o : Option ℕ). first_there o (end_at_level room carried ((row ∷ rows) ++ more) 1) (end_at_level room carried ((row ∷ rows) ++ more) 2) 1) (end_at_level-more room 0 carried (row ∷ rows) more h)
    ∙ ap (λ (o : Option ℕ). first_there (end_at_level room carried (row ∷ rows) 0) o (end_at_level room carried ((row ∷ rows) ++ more) 2) 1) (end_at_level-more room 1 carried (row ∷ rows) more h)
    ∙ ap (λ (o : Option ℕ). first_there (end_at_level room carried (row ∷ rows) 0) (end_at_level room carried (row ∷ rows) 1) o 1) (end_at_level-more room 2 carried (row ∷ rows) more h)

-- a page by its rows and how many these are
abbrev page_with : Frames → Left → List Row → ℕ → List Row → Broken
page_with frames left rows count taken = record {
  master = master_of frames left rows;
  number = number_of left rows;
  rows = taken;
  notes = take (room_for frames left rows - (count + blanks_of taken + 1)) (left.carried ++ notes_of taken);
}

abbrev left_with : Frames → Left → List Row → ℕ → List Row → Left
left_with frames left rows count taken = record {
  master = master_of frames left rows;
  number = number_of left rows;
  carried = drop (room_for frames left rows - (count + blanks_of taken + 1)) (left.carried ++ notes_of taken);
}

-- what further rows change of a page that has more rows than room
record Same (frames : Frames) (left : Left) (rows more : List Row) : Type 0 where
  page : page_of frames left (rows ++ more) ≡ page_of frames left rows
  leaves : left_by frames left (rows ++ more) ≡ left_by frames left rows
  behind : rows_behind frames left (rows ++ more) ≡ rows_behind frames left rows ++ more

same : (frames : Frames) (left : Left) (rows more : List Row) → room_for frames left rows < length rows → Same frames left rows more
same frames left [] more h = absurd (omega arith)
same frames left (row ∷ rows) more h =
    let all = row ∷ rows in
    let count : count_for frames left (all ++ more) ≡ count_for frames left all = page_end-more (room_for frames left all) left.carried all more h in
    let within = page_end-within (room_for frames left all) left.carried all in
    let taken : take (count_for frames left (all ++ more)) (all ++ more) ≡ take (count_for frames left all) all =
    ap (λ (n : ℕ). take n (all ++ more)) count ∙ take-append-le (count_for frames left all) all more within in
    record {
      page = ap₂ (page_with frames left all) count taken;
      leaves = ap₂ (left_with frames left all) count taken;
      behind = ap (λ (n : ℕ). drop n (all ++ more)) count ∙ drop-append-le (count_for frames left all) all more within;
    }

not_over : (left : Left) (rows : List Row) → 0 < length rows → is_over left rows ≡ false
not_over left [] h = absurd (omega arith)
not_over left (row ∷ rows) h = let e : (length (row ∷ rows) == 0) ≡ false = grind (arith, nat_tests) in rw e refl

pub at_most-step : (n : ℕ) (frames : Frames) (left : Left) (rows : List Row) (b : Bool) → is_over (left_by frames left rows) (rows_behind frames left rows) ≡ b
    → at_most (suc n) frames left rows ≡ page_of frames left rows ∷ (if b then [] else at_most n frames (left_by frames left rows) (rows_behind frames left rows))
at_most-step n frames left rows b e = rw e refl

-- one page of rows with more behind them
at_most-more : (n : ℕ) (frames : Frames) (left : Left) (rows more : List Row) → max 1 (room_for frames left rows) < length rows
    → at_most (suc n) frames left (rows ++ more) ≡ page_of frames left rows ∷ at_most n frames (left_by frames left rows) (rows_behind frames left rows ++ more)
at_most-more n frames left rows more h =
    let s = same frames left rows more (omega arith) in
    let short = page_end-room (room_for frames left rows) left.carried rows in
    let rest : 0 < length (rows_behind frames left (rows ++ more)) =
    rw s.behind (omega (arith, length-append (rows_behind frames left rows) more, length-drop (count_for frames left rows) rows)) in
    at_most-step n frames left (rows ++ more) false (not_over (left_by frames left (rows ++ more)) (rows_behind frames left (rows ++ more)) rest)
    ∙ ap (λ (page : Broken). page ∷ at_most n frames (left_by frames left (rows ++ more)) (rows_behind frames left (rows ++ more))) s.page
    ∙ ap₂ (λ (l : Left) (r : List Row). page_of frames left rows ∷ at_most n frames l r) s.leaves s.behind

-- the lists of closed pages and headings with one more page
pub closed_behind-snoc : (frames : Frames) (heads : List (Option HeadText)) (pages : List Broken) (page : Broken)
    → closed_behind frames heads (pages ++ page ∷ []) ≡ closed_behind frames heads pages ++ closed_of frames (heads_after heads pages) page ∷ []
closed_behind-snoc frames heads [] page = refl
closed_behind-snoc frames heads (first ∷ pages) page = ap (λ (l : List Closed). closed_of frames heads first ∷ l) (closed_behind-snoc frames (heads_behind heads first.rows) pages page)

pub heads_after-snoc : (heads : List (Option HeadText)) (pages : List Broken) (page : Broken) → heads_after heads (pages ++ page ∷ []) ≡ heads_behind (heads_after heads pages) page.rows
heads_after-snoc heads [] page = refl
heads_after-snoc heads (first ∷ pages) page = heads_after-snoc (heads_behind heads first.rows) pages page

pub length-snoc : (pages : List Broken) (page : Broken) → length (pages ++ page ∷ []) ≡ length pages + 1
length-snoc pages page = omega (arith, length-append pages (page ∷ []))

-- what is left for pages gets less with each page, unless nothing was left
notes_of-split : (n : ℕ) (rows : List Row) → length (notes_of (take n rows)) + length (notes_of (drop n rows)) ≡ length (notes_of rows)
notes_of-split zero rows = omega arith
notes_of-split (suc n) [] = omega arith
notes_of-split (suc n) (row ∷ rows) = omega (arith, notes_of-split n rows, length-notes_of (take n rows) row, length-notes_of rows row)

pub size-less : (frames : Frames) (left : Left) (rows : List Row) → 0 < length rows → size_of (left_by frames left rows) (rows_behind frames left rows) + 1 ≤ size_of left rows
size-less frames left rows h =
    let count = count_for frames left rows in
    let some = page_end-some (room_for frames left rows) left.carried rows h in
    let own = notes_of (take count rows) in
    omega (arith, notes_of-split count rows, length-drop (room_for_notes frames left rows) (left.carried ++ own), length-append left.carried own, length-drop count rows)

notes_of-append : (xs ys : List Row) → length (notes_of (xs ++ ys)) ≡ length (notes_of xs) + length (notes_of ys)
notes_of-append [] ys = omega arith
notes_of-append (x ∷ xs) ys = omega (arith, notes_of-append xs ys, length-notes_of (xs ++ ys) x, length-notes_of xs x)

-- one more closed page with rows behind it
pub reaches-more : (frames : Frames) (most : ℕ) (left : Left) (heads : List (Option HeadText)) (rows : List Row) (old new : Breaker) (rest : List Row) (count : ℕ) → 65535 ≤ most
    → Reaches frames most left heads rows old rest → Closes frames rest old new count → max 1 (room_for frames (left_of old) rest) < length rest
    → Reaches frames most left heads rows new (drop count rest)
reaches-more frames most left heads rows old new rest count large so_far closes full =
    let page = page_of frames (left_of old) rest in
    let behind : drop count rest ≡ rows_behind frames (left_of old) rest = ap (λ (n : ℕ). drop n rest) closes.counted in
    let more_pages = so_far.pages ++ page ∷ [] in
    record {
      pages = more_pages;
      first = λ n more.
          let count_one : length more_pages + n ≡ length so_far.pages + suc n = omega (arith, length-snoc so_far.pages page) in
          ap (λ (k : ℕ). at_most k frames left (rows ++ more)) count_one ∙ so_far.first (suc n) more
          ∙ ap (λ (l : List Broken). so_far.pages ++ l) (at_most-more n frames (left_of old) rest more full)
          ∙ sym (append_assoc so_far.pages (page ∷ []) (at_most n frames (left_by frames (left_of old) rest) (rows_behind frames (left_of old) rest ++ more)))
          ∙ ap₂ (λ (l : Left) (r : List Row). more_pages ++ at_most n frames l (r ++ more)) (sym closes.left) (sym behind);
      closed = closes.pages ∙ ap₂ (λ (l : List Closed) (h : List (Option HeadText)). l ++ closed_of frames h page ∷ []) so_far.closed so_far.heads_now ∙ sym (closed_behind-snoc frames heads so_far.pages page);
      heads_now = closes.heads ∙ ap (λ (h : List (Option HeadText)). heads_behind h page.rows) so_far.heads_now ∙ sym (heads_after-snoc heads so_far.pages page);
      counted =
          let same_size : size_of (left_of new) (drop count rest) ≡ size_of (left_by frames (left_of old) rest) (rows_behind frames (left_of old) rest) = ap₂ size_of closes.left behind in
          let less = size-less frames (left_of old) rest (omega arith) in
          let longer = length-snoc so_far.pages page in
          omega (arith, same_size, less, longer, so_far.counted);
      numbered = omega (arith, length-snoc so_far.pages page, closes.small, so_far.numbered, large);
    }

-- before any page
pub reaches-none : (frames : Frames) (left : Left) (heads : List (Option HeadText)) (rows : List Row) (breaker : Breaker) (most : ℕ) → left_of breaker ≡ left → breaker.heads ≡ heads → breaker.pages.items ≡ []
    → breaker.number ≤ most → Reaches frames most left heads rows breaker rows
reaches-none frames left heads rows breaker most is_left is_heads none small = record {
  pages = [];
  first = λ n more. let e : 0 + n ≡ n = omega arith in ap (λ (k : ℕ). at_most k frames left (rows ++ more)) e ∙ ap (λ (l : Left). at_most n frames l (rows ++ more)) (sym is_left);
  closed = none;
  heads_now = is_heads;
  counted = omega (arith, ap (λ (l : Left). size_of l rows) is_left);
  numbered = omega arith;
}

-- more rows behind
pub reaches-rows : (frames : Frames) (most : ℕ) (left : Left) (heads : List (Option HeadText)) (rows : List Row) (breaker : Breaker) (rest more : List Row)
    → Reaches frames most left heads rows breaker rest → Reaches frames most left heads (rows ++ more) breaker (rest ++ more)
reaches-rows frames most left heads rows breaker rest more so_far = record {
  pages = so_far.pages;
  first = λ n further.
      ap (λ (l : List Row). at_most (length so_far.pages + n) frames left l) (append_assoc rows more further)
      ∙ so_far.first n (more ++ further)
      ∙ ap (λ (l : List Row). so_far.pages ++ at_most n frames (left_of breaker) l) (sym (append_assoc rest more further));
  closed = so_far.closed;
  heads_now = so_far.heads_now;
  counted = omega (arith, so_far.counted, notes_of-append rows more, notes_of-append rest more, length-append rows more, length-append rest more);
  numbered = so_far.numbered;
}
