-- What a plan holds after a page is closed, rows are dropped, and a paragraph is added.
use Rattle.std.proofs.Common.{◌≡◌, ℕ, ◌+◌, ◌-◌, ◌<◌, ◌^◌, List, [], ◌∷◌, ◌++◌, refl, length, drop, zero, suc, arith, ap, ap₂, sym, ◌∙◌, subst, max, map, OnOk, Ok, Err}
use Rattle.std.specs.Prelude.{Result}
use Rattle.std.proofs.lemmas.List.{append_assoc, append-nil, length-append, length-map}
use Rattle.doc_model.specs.declared.page_layout.Master.{Master}
use Rattle.doc_model.specs.declared.page_layout.PageLayout.{PageLayout}
use Rattle.doc_model.specs.declared.paragraph.ParId.{ParId}
use Rattle.page_model.specs.declared.placed.ParRows.{ParRows}
use Rattle.page_model.specs.declared.placed.NoteRows.{NoteRows}
use Rattle.page_model.specs.declared.frame.Frames.{Frames}
use Rattle.page_model.specs.declared.row.Row.{Row}
use Rattle.page_model.specs.Frames.{frames_of}
use Rattle.page_model.specs.BodyRows.{body_rows, ids_of_notes, note_pars, rows_from, rows_of_par, set_of_par, set_pars}
use Rattle.page_model.specs.Pages.{nothing_left, room_for}
use Rattle.paginate.specs.declared.breaker.Breaker.{Breaker}
use Rattle.paginate.specs.declared.plan.Plan.{Plan}
use Rattle.paginate.specs.Heads.{no_heads}
use Rattle.paginate.specs.Standing.{left_of, Closes}
use Rattle.paginate.specs.Reached.{Reaches}
use Rattle.paginate.specs.Placed.{pending, row_count, HasPlaced, HoldsSame, Adds}
use Rattle.paginate.proofs.PageLemmas.{reaches-more, reaches-rows}

pub drop_rows : (a b : ℕ) (xs : List Row) → drop b (drop a xs) ≡ drop (a + b) xs
drop_rows zero b xs = let e : b ≡ 0 + b = omega arith in ap (λ (m : ℕ). drop m xs) e
drop_rows (suc a) b [] = none b ∙ sym (none (suc a + b)) where
  none : (n : ℕ) → drop {A = Row} n [] ≡ []
  none zero = refl
  none (suc n) = refl
drop_rows (suc a) b (x ∷ xs) = let e : suc (a + b) ≡ suc a + b = omega arith in drop_rows a b xs ∙ ap (λ (m : ℕ). drop m (x ∷ xs)) e

-- the number of the last page leaves room for one more
pub number_small : (masters : List Master) (layouts : List PageLayout) (pars : List ParRows) (plan : Plan) → HasPlaced masters layouts pars plan → 0 < length (pending plan) → plan.breaker.number + 1 < 2 ^ 32
number_small masters layouts pars plan placed some = omega (arith, placed.few, placed.reaches.numbered, placed.reaches.counted)

-- what the pages reach after one more is closed
pub closed-reaches : (masters : List Master) (layouts : List PageLayout) (pars : List ParRows) (plan : Plan) (frames : Frames) (rest : List Row) (new : Breaker) (count : ℕ)
    → HasPlaced masters layouts pars plan → frames ≡ plan.frames → rest ≡ pending plan → max 1 (room_for frames (left_of plan.breaker) rest) < length rest
    → (plan.breaker.number + 1 < 2 ^ 32 → Closes frames rest plan.breaker new count)
    → Reaches (frames_of masters layouts) 65535 nothing_left no_heads (body_rows masters pars) new (drop (plan.from + count) plan.rows.items)
closed-reaches masters layouts pars plan frames rest new count placed is_frames is_rest full closes =
    let some : 0 < length (pending plan) = rw (← is_rest) (omega arith) in
    let same_frames : frames ≡ frames_of masters layouts = is_frames ∙ placed.has_frames in
    let all = closes (number_small masters layouts pars plan placed some) in
    let closes' : Closes frames (pending plan) plan.breaker new count = subst (λ (l : List Row). Closes frames l plan.breaker new count) is_rest all in
    let closes'' : Closes (frames_of masters layouts) (pending plan) plan.breaker new count = subst (λ (f : Frames). Closes f (pending plan) plan.breaker new count) same_frames closes' in
    let full' : max 1 (room_for frames (left_of plan.breaker) (pending plan)) < length (pending plan) = subst (λ (l : List Row). max 1 (room_for frames (left_of plan.breaker) l) < length l) is_rest full in
    let full'' : max 1 (room_for (frames_of masters layouts) (left_of plan.breaker) (pending plan)) < length (pending plan) =
    subst (λ (f : Frames). max 1 (room_for f (left_of plan.breaker) (pending plan)) < length (pending plan)) same_frames full' in
    subst (λ (l : List Row). Reaches (frames_of masters layouts) 65535 nothing_left no_heads (body_rows masters pars) new l) (drop_rows plan.from count plan.rows.items)
    (reaches-more (frames_of masters layouts) 65535 nothing_left no_heads (body_rows masters pars) plan.breaker new (pending plan) count (omega arith) placed.reaches closes'' full'')

-- a plan that holds the same
pub same-placed : (masters : List Master) (layouts : List PageLayout) (pars : List ParRows) (old new : Plan) → HasPlaced masters layouts pars old → HoldsSame old new → HasPlaced masters layouts pars new
same-placed masters layouts pars old new placed same = record {
  unfinished = same.same_finished ∙ placed.unfinished;
  has_masters = same.same_masters ∙ placed.has_masters;
  has_frames = same.same_frames ∙ placed.has_frames;
  has_set = same.same_set ∙ placed.has_set;
  few = placed.few;
  reaches =
      subst (λ (b : Breaker). Reaches (frames_of masters layouts) 65535 nothing_left no_heads (body_rows masters pars) b (pending new)) (sym same.same_breaker)
      (subst (λ (l : List Row). Reaches (frames_of masters layouts) 65535 nothing_left no_heads (body_rows masters pars) old.breaker l) (sym same.same_pending) placed.reaches);
}

set_pars-snoc : (pars : List ParRows) (par : ParRows) → set_pars (pars ++ par ∷ []) ≡ set_pars pars ++ set_of_par par
set_pars-snoc [] par = append-nil (set_of_par par)
set_pars-snoc (first ∷ pars) par = ap (λ (l : List ParId). set_of_par first ++ l) (set_pars-snoc pars par) ∙ sym (append_assoc (set_of_par first) (set_pars pars) (set_of_par par))

rows_from-snoc : (masters : List Master) (place : ℕ) (pars : List ParRows) (par : ParRows) → rows_from masters place (pars ++ par ∷ []) ≡ rows_from masters place pars ++ rows_of_par masters (place + length (set_pars pars)) par
rows_from-snoc masters place [] par = append-nil (rows_of_par masters place par) ∙ (let e : place ≡ place + 0 = omega arith in ap (λ (n : ℕ). rows_of_par masters n par) e)
rows_from-snoc masters place (first ∷ pars) par =
    let e : place + length (set_of_par first) + length (set_pars pars) ≡ place + length (set_of_par first ++ set_pars pars) = omega (arith, length-append (set_of_par first) (set_pars pars)) in
    ap (λ (l : List Row). rows_of_par masters place first ++ l)
    (rows_from-snoc masters (place + length (set_of_par first)) pars par ∙ ap (λ (n : ℕ). rows_from masters (place + length (set_of_par first)) pars ++ rows_of_par masters n par) e)
    ∙ sym (append_assoc (rows_of_par masters place first) (rows_from masters (place + length (set_of_par first)) pars) (rows_of_par masters (place + length (set_of_par first ++ set_pars pars)) par))

-- a plan with one more paragraph
pub adds-placed : (masters : List Master) (layouts : List PageLayout) (pars : List ParRows) (par : ParRows) (old new : Plan) (set : List ParId) (rows : List Row)
    → HasPlaced masters layouts pars old → Adds set rows old new → set ≡ set_of_par par → rows ≡ rows_of_par old.masters (length old.set.items) par → row_count masters (pars ++ par ∷ []) < 2 ^ 32 - 65536
    → HasPlaced masters layouts (pars ++ par ∷ []) new
adds-placed masters layouts pars par old new set rows placed adds is_set is_rows few =
    let all_rows : body_rows masters (pars ++ par ∷ []) ≡ body_rows masters pars ++ rows =
    rows_from-snoc masters 0 pars par
    ∙ (let e : 0 + length (set_pars pars) ≡ length (set_pars pars) = omega arith in ap (λ (n : ℕ). body_rows masters pars ++ rows_of_par masters n par) e)
    ∙ ap (λ (ids : List ParId). body_rows masters pars ++ rows_of_par masters (length ids) par) (sym placed.has_set)
    ∙ ap (λ (ms : List Master). body_rows masters pars ++ rows_of_par ms (length old.set.items) par) (sym placed.has_masters)
    ∙ ap (λ (l : List Row). body_rows masters pars ++ l) (sym is_rows) in
    record {
      unfinished = adds.same_finished ∙ placed.unfinished;
      has_masters = adds.same_masters ∙ placed.has_masters;
      has_frames = adds.same_frames ∙ placed.has_frames;
      has_set = adds.more_set ∙ ap₂ (λ (a b : List ParId). a ++ b) placed.has_set is_set ∙ sym (set_pars-snoc pars par);
      few = few;
      reaches =
          subst (λ (l : List Row). Reaches (frames_of masters layouts) 65535 nothing_left no_heads l new.breaker (pending new)) (sym all_rows)
          (subst (λ (b : Breaker). Reaches (frames_of masters layouts) 65535 nothing_left no_heads (body_rows masters pars ++ rows) b (pending new)) (sym adds.same_breaker)
          (subst (λ (l : List Row). Reaches (frames_of masters layouts) 65535 nothing_left no_heads (body_rows masters pars ++ rows) old.breaker l) (sym adds.more_pending)
          (reaches-rows (frames_of masters layouts) 65535 nothing_left no_heads (body_rows masters pars) old.breaker (pending old) rows placed.reaches)));
    }

pub on_ok : {X E : Type 0} {P Q : Type 0} (r : Result X E) → OnOk r P → (P → Q) → OnOk r Q
on_ok (Ok x) p f = f p
on_ok (Err e) p f = p

ids-length : (notes : List NoteRows) → length (ids_of_notes notes) ≡ note_pars notes
ids-length [] = refl
ids-length (note ∷ notes) = omega (arith, ids-length notes, length-append (map (λ note_par. note_par.par) note.pars) (ids_of_notes notes), length-map note.pars (λ note_par. note_par.par))

pub set-length : (par : ParRows) → length (set_of_par par) ≡ note_pars par.notes + 1
set-length par = omega (arith, ids-length par.notes, length-append (ids_of_notes par.notes) (par.par ∷ []))
