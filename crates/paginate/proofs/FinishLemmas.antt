-- The last pages, and all pages together.
use Rattle.std.proofs.Common.{◌≡◌, ℕ, ◌+◌, ◌-◌, ◌<◌, ◌≤◌, ◌^◌, List, [], ◌∷◌, ◌++◌, Bool, true, false, ◌&&◌, ◌==◌, nat_le, Option, Some, None, if◌then◌else◌, refl, length, drop, zero, suc, arith, ap, ap₂, sym, ◌∙◌, subst, map, find, reverse, cond, unwrap_or, slice_get, get_or}
use Rattle.std.specs.List.{filter_map, list_any}
use Rattle.std.specs.Option.{option_map, option_map_or}
use Rattle.std.proofs.lemmas.List.{append_assoc, append-nil, length-append, length-drop, map-append, reverse-append}
use Rattle.std.proofs.lemmas.List.Elements.{filter_map-append}
use Rattle.doc_model.specs.declared.page_layout.Master.{Master}
use Rattle.doc_model.specs.declared.page_layout.PageLayout.{PageLayout}
use Rattle.doc_model.specs.declared.page.PageEntry.{PageEntry}
use Rattle.doc_model.specs.declared.page.PageTable.{PageTable}
use Rattle.doc_model.specs.declared.page.ParPage.{ParPage}
use Rattle.doc_model.specs.declared.paragraph.ParId.{ParId}
use Rattle.page_model.specs.declared.body.PageBody.{PageBody}
use Rattle.page_model.specs.declared.body.HeadText.{HeadText}
use Rattle.page_model.specs.declared.frame.Frames.{Frames}
use Rattle.page_model.specs.declared.placed.ParRows.{ParRows}
use Rattle.page_model.specs.declared.row.Row.{Row}
use Rattle.page_model.specs.declared.row.Heading.{Heading}
use Rattle.page_model.specs.declared.row.NoteRow.{NoteRow}
use Rattle.page_model.specs.Frames.{frame_at, frames_of, frames_from, bare_frame}
use Rattle.page_model.specs.BodyRows.{body_rows}
use Rattle.page_model.specs.Breaking.{notes_of}
use Rattle.page_model.specs.Pages.{Broken, Left, nothing_left, at_most, master_of, count_for, room_for_notes, page_of, left_by, rows_behind, is_over, pages_of}
use Rattle.page_model.specs.Bodies.{heading_at, last_heading, heads_of, body_of, bodies_behind, bodies_of}
use Rattle.page_model.specs.Table.{entry_of, first_rows, page_with, pars_from, table_of}
use Rattle.paginate.specs.declared.breaker.Breaker.{Breaker}
use Rattle.paginate.specs.declared.breaker.Closed.{Closed}
use Rattle.paginate.specs.declared.plan.Plan.{Plan}
use Rattle.paginate.specs.Heads.{heads_behind, no_heads, raised, raised_by}
use Rattle.paginate.specs.Standing.{left_of, closed_of, carried_by, Closes}
use Rattle.paginate.specs.Reached.{size_of, closed_behind, heads_after, Reaches, Finishes, IsDone}
use Rattle.paginate.specs.Roomy.{IsRoomy}
use Rattle.paginate.specs.Placed.{pending, HasPlaced}
use Rattle.paginate.specs.Marks.{closed_entry, closed_with, looked_up}
use Rattle.paginate.proofs.PageLemmas.{at_most-step, closed_behind-snoc, heads_after-snoc, length-snoc, size-less}

-- a page without rows shows a note row at least, where one is carried
notes_less : (frames : Frames) (left : Left) → IsRoomy frames → 0 < length left.carried → size_of (left_by frames left []) (rows_behind frames left []) + 1 ≤ size_of left []
notes_less frames left roomy some =
    let room = roomy (master_of frames left []) in
    omega (arith, room, length-drop (room_for_notes frames left []) (left.carried ++ []), length-append left.carried [])

over_false : (left : Left) (rows : List Row) → is_over left rows ≡ false → 0 < length rows + length left.carried
over_false left [] e = some (length left.carried) e where
  some : (n : ℕ) → ((0 == 0) && (n == 0)) ≡ false → 0 < 0 + n
  some zero e = absurd (cc)
  some (suc n) e = omega arith
over_false left (row ∷ rows) e = omega arith

-- what is left gets less with each page, unless nothing was left
pub less-left : (frames : Frames) (left : Left) (rows : List Row) → IsRoomy frames → 0 < length rows + length left.carried → size_of (left_by frames left rows) (rows_behind frames left rows) + 1 ≤ size_of left rows
less-left frames left [] roomy some = notes_less frames left roomy (omega arith)
less-left frames left (row ∷ rows) roomy some = size-less frames left (row ∷ rows) (omega arith)

nothing_behind : (frames : Frames) (left : Left) → length left.carried ≡ 0 → is_over (left_by frames left []) (rows_behind frames left []) ≡ true
nothing_behind frames left none =
    let last : length (left_by frames left []).carried ≡ 0 = omega (arith, length-drop (room_for_notes frames left []) (left.carried ++ []), length-append left.carried []) in
    ap (λ (n : ℕ). (0 == 0) && (n == 0)) last

-- where something is left behind a page, something was left before it
was_left : (frames : Frames) (left : Left) (rows : List Row) → is_over (left_by frames left rows) (rows_behind frames left rows) ≡ false → 0 < length rows + length left.carried
was_left frames left (row ∷ rows) e = omega arith
was_left frames left [] e = by_count (length left.carried) refl where
  by_count : (n : ℕ) → length left.carried ≡ n → 0 < 0 + length left.carried
  by_count zero is = (let over = nothing_behind frames left is in absurd (cc))
  by_count (suc n) is = omega arith

-- before any page
pub finishes-none : (frames : Frames) (most : ℕ) (rows : List Row) (breaker : Breaker) → breaker.pages.items ≡ [] → breaker.number ≤ most → Finishes frames most (left_of breaker) breaker.heads rows breaker rows
finishes-none frames most rows breaker none small = record {
  pages = [];
  first = λ n. let e : 0 + n ≡ n = omega arith in ap (λ (k : ℕ). at_most k frames (left_of breaker) rows) e;
  closed = none;
  heads_now = refl;
  counted = omega arith;
  numbered = omega arith;
}

-- one more page with something behind it
pub finishes-more : (frames : Frames) (most : ℕ) (left : Left) (heads : List (Option HeadText)) (rows : List Row) (old new : Breaker) (rest : List Row) (count : ℕ) → 65535 ≤ most → IsRoomy frames
    → Finishes frames most left heads rows old rest → Closes frames rest old new count → is_over (left_of new) (drop count rest) ≡ false
    → Finishes frames most left heads rows new (drop count rest)
finishes-more frames most left heads rows old new rest count large roomy so_far closes more =
    let page = page_of frames (left_of old) rest in
    let behind : drop count rest ≡ rows_behind frames (left_of old) rest = ap (λ (n : ℕ). drop n rest) closes.counted in
    let over : is_over (left_by frames (left_of old) rest) (rows_behind frames (left_of old) rest) ≡ false = sym (ap₂ is_over closes.left behind) ∙ more in
    let more_pages = so_far.pages ++ page ∷ [] in
    record {
      pages = more_pages;
      first = λ n.
          let count_one : length more_pages + n ≡ length so_far.pages + suc n = omega (arith, length-snoc so_far.pages page) in
          ap (λ (k : ℕ). at_most k frames left rows) count_one ∙ so_far.first (suc n)
          ∙ ap (λ (l : List Broken). so_far.pages ++ l) (at_most-step n frames (left_of old) rest false over)
          ∙ sym (append_assoc so_far.pages (page ∷ []) (at_most n frames (left_by frames (left_of old) rest) (rows_behind frames (left_of old) rest)))
          ∙ ap₂ (λ (l : Left) (r : List Row). more_pages ++ at_most n frames l r) (sym closes.left) (sym behind);
      closed = closes.pages ∙ ap₂ (λ (l : List Closed) (h : List (Option HeadText)). l ++ closed_of frames h page ∷ []) so_far.closed so_far.heads_now ∙ sym (closed_behind-snoc frames heads so_far.pages page);
      heads_now = closes.heads ∙ ap (λ (h : List (Option HeadText)). heads_behind h page.rows) so_far.heads_now ∙ sym (heads_after-snoc heads so_far.pages page);
      counted =
          let same_size : size_of (left_of new) (drop count rest) ≡ size_of (left_by frames (left_of old) rest) (rows_behind frames (left_of old) rest) = ap₂ size_of closes.left behind in
          let less = less-left frames (left_of old) rest roomy (was_left frames (left_of old) rest over) in
          let longer = length-snoc so_far.pages page in
          omega (arith, same_size, less, longer, so_far.counted);
      numbered = omega (arith, length-snoc so_far.pages page, closes.small, so_far.numbered, large);
    }

-- the last page
pub finishes-last : (frames : Frames) (most : ℕ) (left : Left) (heads : List (Option HeadText)) (rows : List Row) (old new : Breaker) (rest : List Row) (count : ℕ)
    → Finishes frames most left heads rows old rest → Closes frames rest old new count → is_over (left_of new) (drop count rest) ≡ true → IsDone frames left heads rows new
finishes-last frames most left heads rows old new rest count so_far closes none =
    let page = page_of frames (left_of old) rest in
    let behind : drop count rest ≡ rows_behind frames (left_of old) rest = ap (λ (n : ℕ). drop n rest) closes.counted in
    let over : is_over (left_by frames (left_of old) rest) (rows_behind frames (left_of old) rest) ≡ true = sym (ap₂ is_over closes.left behind) ∙ none in
    record {
      pages = so_far.pages ++ page ∷ [];
      all = λ n.
          let count_one : length (so_far.pages ++ page ∷ []) + n ≡ length so_far.pages + suc n = omega (arith, length-snoc so_far.pages page) in
          ap (λ (k : ℕ). at_most k frames left rows) count_one ∙ so_far.first (suc n) ∙ ap (λ (l : List Broken). so_far.pages ++ l) (at_most-step n frames (left_of old) rest true over);
      closed = closes.pages ∙ ap₂ (λ (l : List Closed) (h : List (Option HeadText)). l ++ closed_of frames h page ∷ []) so_far.closed so_far.heads_now ∙ sym (closed_behind-snoc frames heads so_far.pages page);
      counted = omega (arith, length-snoc so_far.pages page, so_far.counted);
    }

-- the last headings behind one more row
last-some : (before : List Row) (row : Row) (heading : Heading) (level : ℕ) → heading_at row ≡ Some heading
    → last_heading (before ++ row ∷ []) level ≡ (if nat_le heading.level level then Some heading.text else last_heading before level)
last-some before row heading level e =
    let all : filter_map heading_at (before ++ row ∷ []) ≡ filter_map heading_at before ++ heading ∷ [] =
    filter_map-append heading_at before (row ∷ []) ∙ ap (λ (l : List Heading). filter_map heading_at before ++ l) (one (heading_at row) e) in
    ap (λ (l : List Heading). option_map (λ h. h.text) (find (λ h. nat_le h.level level) (reverse l))) all
    ∙ ap (λ (l : List Heading). option_map (λ h. h.text) (find (λ h. nat_le h.level level) l)) (reverse-append (filter_map heading_at before) (heading ∷ []))
    ∙ by_test (nat_le heading.level level) (find (λ h. nat_le h.level level) (reverse (filter_map heading_at before)))
  where
    one : (o : Option Heading) → o ≡ Some heading → filter_map heading_at (row ∷ []) ≡ heading ∷ []
    one o is = rw e refl

    by_test : (b : Bool) (o : Option Heading) → option_map (λ (h : Heading). h.text) (cond b (Some heading) o) ≡ (if b then Some heading.text else option_map (λ (h : Heading). h.text) o)
    by_test true o = refl
    by_test false o = refl

last-none : (before : List Row) (row : Row) (level : ℕ) → heading_at row ≡ None → last_heading (before ++ row ∷ []) level ≡ last_heading before level
last-none before row level e =
    let all : filter_map heading_at (before ++ row ∷ []) ≡ filter_map heading_at before =
    filter_map-append heading_at before (row ∷ []) ∙ ap (λ (l : List Heading). filter_map heading_at before ++ l) none ∙ append-nil (filter_map heading_at before) in
    ap (λ (l : List Heading). option_map (λ h. h.text) (find (λ h. nat_le h.level level) (reverse l))) all
  where
    none : filter_map heading_at (row ∷ []) ≡ []
    none = rw e refl

-- numbers that follow each other
abbrev up_from : ℕ → ℕ → List ℕ
up_from start zero = []
up_from start (suc n) = start ∷ up_from (suc start) n

raised-map : (before : List Row) (row : Row) (heading : Heading) (start n : ℕ) → heading_at row ≡ Some heading
    → raised heading start (map (last_heading before) (up_from start n)) ≡ map (last_heading (before ++ row ∷ [])) (up_from start n)
raised-map before row heading start zero e = refl
raised-map before row heading start (suc n) e =
    ap₂ (λ (o : Option HeadText) (l : List (Option HeadText)). o ∷ l) (sym (last-some before row heading start e)) (raised-map before row heading (suc start) n e)

same-map : (before : List Row) (row : Row) (start n : ℕ) → heading_at row ≡ None → map (last_heading before) (up_from start n) ≡ map (last_heading (before ++ row ∷ [])) (up_from start n)
same-map before row start zero e = refl
same-map before row start (suc n) e = ap₂ (λ (o : Option HeadText) (l : List (Option HeadText)). o ∷ l) (sym (last-none before row start e)) (same-map before row (suc start) n e)

heads-row : (before : List Row) (row : Row) → raised_by (heads_of before) row ≡ heads_of (before ++ row ∷ [])
heads-row before row = by_heading (heading_at row) refl where
  by_heading : (o : Option Heading) → heading_at row ≡ o → option_map_or (λ heading. raised heading 1 (heads_of before)) o (heads_of before) ≡ heads_of (before ++ row ∷ [])
  by_heading (Some heading) e = raised-map before row heading 1 10 e
  by_heading None e = same-map before row 1 10 e

heads-rows : (before rows : List Row) → heads_behind (heads_of before) rows ≡ heads_of (before ++ rows)
heads-rows before [] = ap heads_of (sym (append-nil before))
heads-rows before (row ∷ rows) =
    ap (λ (h : List (Option HeadText)). heads_behind h rows) (heads-row before row) ∙ heads-rows (before ++ row ∷ []) rows ∙ ap heads_of (append_assoc before (row ∷ []) rows)

-- the bodies of closed pages
closed-bodies : (frames : Frames) (before : List Row) (pages : List Broken) → map (λ closed. closed.body) (closed_behind frames (heads_of before) pages) ≡ bodies_behind frames before pages
closed-bodies frames before [] = refl
closed-bodies frames before (page ∷ pages) =
    ap (λ (h : List (Option HeadText)). map (λ (c : Closed). c.body) (closed_of frames (heads_of before) page ∷ closed_behind frames h pages)) (heads-rows before page.rows)
    ∙ ap₂ (λ (h : List (Option HeadText)) (l : List PageBody). record {
      number = page.number;
      master = page.master;
      columns = (frame_at frames page.master).columns;
      body = (body_of frames before page).body;
      notes = (body_of frames before page).notes;
      heads = h;
    } ∷ l)
    (heads-rows before page.rows) (closed-bodies frames (before ++ page.rows) pages)

closed_behind-append : (frames : Frames) (heads : List (Option HeadText)) (pages more : List Broken) → closed_behind frames heads (pages ++ more) ≡ closed_behind frames heads pages ++ closed_behind frames (heads_after heads pages) more
closed_behind-append frames heads [] more = refl
closed_behind-append frames heads (page ∷ pages) more = ap (λ (l : List Closed). closed_of frames heads page ∷ l) (closed_behind-append frames (heads_behind heads page.rows) pages more)

closed-entries : (frames : Frames) (heads : List (Option HeadText)) (pages : List Broken) → map closed_entry (closed_behind frames heads pages) ≡ map (entry_of frames) pages
closed-entries frames heads [] = refl
closed-entries frames heads (page ∷ pages) = ap (λ (l : List PageEntry). entry_of frames page ∷ l) (closed-entries frames (heads_behind heads page.rows) pages)

closed-with : (frames : Frames) (heads : List (Option HeadText)) (index : ℕ) (pages : List Broken) (place : ℕ) → closed_with index (closed_behind frames heads pages) place ≡ page_with index pages place
closed-with frames heads index [] place = refl
closed-with frames heads index (page ∷ pages) place =
    ap (λ (o : Option ℕ). if list_any (λ (first : ℕ). first == place) (first_rows page) then Some index else o) (closed-with frames (heads_behind heads page.rows) (index + 1) pages place)

closed-pars : (frames : Frames) (heads : List (Option HeadText)) (pages : List Broken) (place : ℕ) (set : List ParId) → looked_up (closed_behind frames heads pages) place set ≡ pars_from pages place set
closed-pars frames heads pages place [] = refl
closed-pars frames heads pages place (par ∷ pars) =
    ap₂ (λ (o : Option ℕ) (l : List ParPage). option_map_or (λ page. record { par = par; page = page } ∷ []) o [] ++ l) (closed-with frames heads 1 pages place) (closed-pars frames heads pages (place + 1) pars)

-- all pages, in two parts
abbrev pub all_pages : (frames : Frames) (rows : List Row) (old : Breaker) (rest : List Row) (new : Breaker) → Reaches frames 65535 nothing_left no_heads rows old rest → IsDone frames (left_of old) old.heads rest new → List Broken
all_pages frames rows old rest new so_far done = so_far.pages ++ done.pages

pages-all : (frames : Frames) (rows : List Row) (old : Breaker) (rest : List Row) (new : Breaker) (so_far : Reaches frames 65535 nothing_left no_heads rows old rest) (done : IsDone frames (left_of old) old.heads rest new)
    → pages_of frames rows ≡ so_far.pages ++ done.pages
unfolding pages_of
pages-all frames rows old rest new so_far done =
    let left = length rows + length (notes_of rows) + 1 - length so_far.pages - length done.pages in
    let fuel : length rows + length (notes_of rows) + 1 ≡ length so_far.pages + (length done.pages + left) = omega (arith, so_far.counted, done.counted) in
    ap (λ (n : ℕ). at_most n frames nothing_left rows) fuel
    ∙ ap (λ (l : List Row). at_most (length so_far.pages + (length done.pages + left)) frames nothing_left l) (sym (append-nil rows))
    ∙ so_far.first (length done.pages + left) []
    ∙ ap (λ (l : List Row). so_far.pages ++ at_most (length done.pages + left) frames (left_of old) l) (append-nil rest)
    ∙ ap (λ (l : List Broken). so_far.pages ++ l) (done.all left)

closed-all : (frames : Frames) (rows : List Row) (old : Breaker) (rest : List Row) (new : Breaker) (so_far : Reaches frames 65535 nothing_left no_heads rows old rest) (done : IsDone frames (left_of old) old.heads rest new)
    → old.pages.items ++ new.pages.items ≡ closed_behind frames no_heads (so_far.pages ++ done.pages)
closed-all frames rows old rest new so_far done =
    ap₂ (λ (a b : List Closed). a ++ b) so_far.closed (done.closed ∙ ap (λ (h : List (Option HeadText)). closed_behind frames h done.pages) so_far.heads_now)
    ∙ sym (closed_behind-append frames no_heads so_far.pages done.pages)

-- the bodies of all pages
pub bodies-all : (masters : List Master) (layouts : List PageLayout) (pars : List ParRows) (plan : Plan) (new : Breaker) → HasPlaced masters layouts pars plan
    → IsDone (frames_of masters layouts) (left_of plan.breaker) plan.breaker.heads (pending plan) new
    → map (λ closed. closed.body) (plan.breaker.pages.items ++ new.pages.items) ≡ bodies_of masters layouts pars
bodies-all masters layouts pars plan new placed done =
    let frames = frames_of masters layouts in
    let rows = body_rows masters pars in
    ap (map (λ (c : Closed). c.body)) (closed-all frames rows plan.breaker (pending plan) new placed.reaches done)
    ∙ closed-bodies frames [] (placed.reaches.pages ++ done.pages)
    ∙ ap (bodies_behind frames []) (sym (pages-all frames rows plan.breaker (pending plan) new placed.reaches done))

-- the entries of the table
pub entries-all : (masters : List Master) (layouts : List PageLayout) (pars : List ParRows) (plan : Plan) (new : Breaker) → HasPlaced masters layouts pars plan
    → IsDone (frames_of masters layouts) (left_of plan.breaker) plan.breaker.heads (pending plan) new
    → map closed_entry plan.breaker.pages.items ++ map closed_entry new.pages.items ≡ (table_of masters layouts pars).pages
entries-all masters layouts pars plan new placed done =
    let frames = frames_of masters layouts in
    let rows = body_rows masters pars in
    sym (map-append closed_entry plan.breaker.pages.items new.pages.items)
    ∙ ap (map closed_entry) (closed-all frames rows plan.breaker (pending plan) new placed.reaches done)
    ∙ closed-entries frames no_heads (placed.reaches.pages ++ done.pages)
    ∙ ap (map (entry_of frames)) (sym (pages-all frames rows plan.breaker (pending plan) new placed.reaches done))

-- and its paragraphs
pub pars-all : (masters : List Master) (layouts : List PageLayout) (pars : List ParRows) (plan : Plan) (new : Breaker) → HasPlaced masters layouts pars plan
    → IsDone (frames_of masters layouts) (left_of plan.breaker) plan.breaker.heads (pending plan) new
    → looked_up (plan.breaker.pages.items ++ new.pages.items) 0 plan.set.items ≡ (table_of masters layouts pars).pars
pars-all masters layouts pars plan new placed done =
    let frames = frames_of masters layouts in
    let rows = body_rows masters pars in
    ap (λ (l : List Closed). looked_up l 0 plan.set.items) (closed-all frames rows plan.breaker (pending plan) new placed.reaches done)
    ∙ closed-pars frames no_heads (placed.reaches.pages ++ done.pages) 0 plan.set.items
    ∙ ap₂ (λ (l : List Broken) (ids : List ParId). pars_from l 0 ids) (sym (pages-all frames rows plan.breaker (pending plan) new placed.reaches done)) placed.has_set

closed-length : (frames : Frames) (heads : List (Option HeadText)) (pages : List Broken) → length (closed_behind frames heads pages) ≡ length pages
closed-length frames heads [] = refl
closed-length frames heads (page ∷ pages) = ap suc (closed-length frames (heads_behind heads page.rows) pages)

-- there are few pages
pub count-all : (masters : List Master) (layouts : List PageLayout) (pars : List ParRows) (plan : Plan) (new : Breaker) → HasPlaced masters layouts pars plan
    → IsDone (frames_of masters layouts) (left_of plan.breaker) plan.breaker.heads (pending plan) new
    → length plan.breaker.pages.items + length new.pages.items + 1 < 2 ^ 32
count-all masters layouts pars plan new placed done =
    let frames = frames_of masters layouts in
    let rows = body_rows masters pars in
    let all = ap (λ (l : List Closed). length l) (closed-all frames rows plan.breaker (pending plan) new placed.reaches done) in
    omega (
      arith,
      all,
      length-append plan.breaker.pages.items new.pages.items,
      closed-length frames no_heads (placed.reaches.pages ++ done.pages),
      length-append placed.reaches.pages done.pages,
      placed.few,
      placed.reaches.counted,
      done.counted,
    )

-- each page has room for two rows at least
frames-roomy : (masters : List Master) (layouts : List PageLayout) (place : ℕ) (all : List Master) (at : ℕ) → 2 ≤ (unwrap_or (slice_get (frames_from masters layouts place all) at) bare_frame).room
frames-roomy masters layouts place [] at = omega arith
frames-roomy masters layouts place (master ∷ all) zero = omega arith
frames-roomy masters layouts place (master ∷ all) (suc at) = frames-roomy masters layouts (suc place) all at

pub is_roomy : (masters : List Master) (layouts : List PageLayout) → IsRoomy (frames_of masters layouts)
unfolding frames_of
is_roomy masters layouts None = omega arith
is_roomy masters layouts (Some place) = frames-roomy masters layouts 0 masters place

-- the body of a page among the last ones
get-last : (last : List Closed) (i : ℕ) (d : Closed) → i < length last → slice_get (map (λ closed. closed.body) last) i ≡ Some (get_or last i d).body
get-last [] i d h = absurd (omega arith)
get-last (closed ∷ last) zero d h = refl
get-last (closed ∷ last) (suc i) d h = get-last last i d (omega arith)

pub get-behind : (pages last : List Closed) (i : ℕ) (d : Closed) → length pages ≤ i → i < length pages + length last → slice_get (map (λ closed. closed.body) (pages ++ last)) i ≡ Some (get_or last (i - length pages) d).body
get-behind [] last i d least most = let e : i - 0 ≡ i = omega arith in get-last last i d (omega arith) ∙ ap (λ (n : ℕ). Some (get_or last n d).body) (sym e)
get-behind (closed ∷ pages) last zero d least most = absurd (omega arith)
get-behind (closed ∷ pages) last (suc i) d least most =
    let e : suc i - suc (length pages) ≡ i - length pages = omega arith in
    get-behind pages last i d (omega arith) (omega arith) ∙ ap (λ (n : ℕ). Some (get_or last n d).body) (sym e)

pub table-same : (a b : PageTable) → a.pages ≡ b.pages → a.pars ≡ b.pars → a ≡ b
table-same a b p q = ap₂ (λ (pages : List PageEntry) (pars : List ParPage). record { pages = pages; pars = pars }) p q

-- the same for what another one reaches
pub done-same : (frames frames' : Frames) (left left' : Left) (heads heads' : List (Option HeadText)) (rows rows' : List Row) (new : Breaker)
    → frames ≡ frames' → left ≡ left' → heads ≡ heads' → rows ≡ rows' → IsDone frames left heads rows new → IsDone frames' left' heads' rows' new
done-same frames frames' left left' heads heads' rows rows' new a b c d done =
    subst (λ (f : Frames). IsDone f left' heads' rows' new) a
    (subst (λ (l : Left). IsDone frames l heads' rows' new) b
    (subst (λ (h : List (Option HeadText)). IsDone frames left h rows' new) c
    (subst (λ (r : List Row). IsDone frames left heads r new) d done)))

-- less is left behind a closed page
pub smaller : (frames : Frames) (old new : Breaker) (rest more : List Row) (count : ℕ) → IsRoomy frames → count ≡ count_for frames (left_of old) rest → carried_by new ≡ (left_by frames (left_of old) rest).carried
    → more ≡ drop count rest → is_over (left_of new) more ≡ false → size_of (left_of new) more < size_of (left_of old) rest
smaller frames old new rest more count roomy counted carried is_more left =
    let behind : more ≡ rows_behind frames (left_of old) rest = is_more ∙ ap (λ (n : ℕ). drop n rest) counted in
    let over : is_over (left_by frames (left_of old) rest) (rows_behind frames (left_of old) rest) ≡ false =
    sym (ap₂ (λ (c : List NoteRow) (r : List Row). (length r == 0) && (length c == 0)) carried behind) ∙ left in
    let less = less-left frames (left_of old) rest roomy (was_left frames (left_of old) rest over) in
    let same : size_of (left_of new) more ≡ size_of (left_by frames (left_of old) rest) (rows_behind frames (left_of old) rest) =
    ap₂ (λ (c : List NoteRow) (r : List Row). length c + length (notes_of r) + length r) carried behind in
    omega (arith, same, less)
