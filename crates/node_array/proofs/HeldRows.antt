-- Rows with their tags and depths, in part and changed.
use Rattle.std.proofs.Common.{◌≡◌, ℕ, ◌+◌, ◌-◌, ◌<◌, ◌≤◌, Bool, not, cond, ltb, List, [], ◌∷◌, ◌++◌, length, map, take, drop, zero, suc, refl, ap, sym, ◌∙◌, subst, arith, Option, Some, None, get_or, append_assoc, take-append-drop}
use Rattle.std.specs.Prelude.{position, slice_get}
use Rattle.std.specs.List.{between, splice, position_or_len}
use Rattle.std.proofs.lemmas.List.{map-append, take-map, drop-map, length-map, get_or-map, append-nil, take_all, take_more}
use Rattle.std.proofs.lemmas.List.Edits.{between_more}
use Rattle.std.proofs.lemmas.Option.{get_or_from_slice_get, slice_get_within}
use Rattle.doc_model.specs.declared.block.Block.{Block}
use Rattle.doc_model.specs.declared.paragraph.ParId.{ParId}
use Rattle.tagged_list.specs.declared.tag.Tag.{Tag}
use Rattle.tagged_list.specs.declared.tag.Tag.TheVariants.{Number}
use Rattle.tagged_list.specs.Tags.{has_tag}
use Rattle.node_array.specs.declared.placed.Placed.{Placed}
use Rattle.node_array.specs.declared.row.Row.{Row}
use Rattle.node_array.specs.declared.row.Row.TheVariants as row
use Rattle.node_array.specs.Rows.{rows_of}
use Rattle.node_array.specs.Body.{body_of}
use Rattle.node_array.specs.Held.{tag_of, next_depth, placed_rows, depth_behind, plain_rows, Holds}
use Rattle.node_array.specs.Places.{is_par}
use Rattle.node_array.proofs.OneBody.{body_known}
use Rattle.node_array.proofs.Stacks.{Fits}
use Rattle.node_array.proofs.OneStack.{body_fits}

pub map_splice : {A B : Type 0} (f : A → B) (xs ys : List A) (from to : ℕ) → map f (splice xs from to ys) ≡ splice (map f xs) from to (map f ys)
map_splice f xs ys from to =
    map-append f (take from xs) (ys ++ drop to xs)
    ∙ (ap (λ ks. map f (take from xs) ++ ks) (map-append f ys (drop to xs))
    ∙ (ap (λ ks. ks ++ (map f ys ++ map f (drop to xs))) (sym (take-map f from xs))
    ∙ ap (λ ks. take from (map f xs) ++ (map f ys ++ ks)) (sym (drop-map f to xs))))

pub plain_placed : (depth : ℕ) (rows : List Row) → plain_rows (placed_rows depth rows) ≡ rows
plain_placed depth [] = refl
plain_placed depth (r ∷ rows) = ap (λ (rs : List Row). r ∷ rs) (plain_placed (next_depth depth r) rows)

pub plain_splice : (held : List (Option Tag × Placed)) (depth : ℕ) (rows : List Row) (from to : ℕ) → plain_rows (splice held from to (placed_rows depth rows)) ≡ splice (plain_rows held) from to rows
plain_splice held depth rows from to =
    map_splice (λ one. one.1.row) held (placed_rows depth rows) from to ∙ ap (λ rs. splice (plain_rows held) from to rs) (plain_placed depth rows)

-- parts of rows
pub placed_append : (depth : ℕ) (xs ys : List Row) → placed_rows depth (xs ++ ys) ≡ placed_rows depth xs ++ placed_rows (depth_behind depth xs) ys
placed_append depth [] ys = refl
placed_append depth (x ∷ xs) ys =
    ap (λ (hs : List (Option Tag × Placed)). (tag_of depth x, record { depth = depth; row = x }) ∷ hs) (placed_append (next_depth depth x) xs ys)

pub placed_take : (depth n : ℕ) (rows : List Row) → take n (placed_rows depth rows) ≡ placed_rows depth (take n rows)
placed_take depth zero rows = refl
placed_take depth (suc n) [] = refl
placed_take depth (suc n) (r ∷ rows) =
    ap (λ (hs : List (Option Tag × Placed)). (tag_of depth r, record { depth = depth; row = r }) ∷ hs) (placed_take (next_depth depth r) n rows)

pub placed_drop : (depth n : ℕ) (rows : List Row) → drop n (placed_rows depth rows) ≡ placed_rows (depth_behind depth (take n rows)) (drop n rows)
placed_drop depth zero rows = refl
placed_drop depth (suc n) [] = refl
placed_drop depth (suc n) (r ∷ rows) = placed_drop (next_depth depth r) n rows

pub depth_append : (depth : ℕ) (xs ys : List Row) → depth_behind depth (xs ++ ys) ≡ depth_behind (depth_behind depth xs) ys
depth_append depth [] ys = refl
depth_append depth (x ∷ xs) ys = depth_append (next_depth depth x) xs ys

-- where rows close all that is open, they tell how many that is
closed_by : List Row → ℕ
closed_by [] = 0
closed_by (row.Start head ∷ rows) = closed_by rows - 1
closed_by (row.End ∷ rows) = closed_by rows + 1
closed_by (row.Par head items ∷ rows) = closed_by rows
closed_by (row.NoteText ∷ rows) = closed_by rows - 1

fits_closed : (depth : ℕ) (rows : List Row) → Fits depth rows → depth ≡ closed_by rows
unfolding closed_by
fits_closed depth [] h = h
fits_closed depth (row.Start head ∷ rows) h = omega (arith, fits_closed (depth + 1) rows h)
fits_closed depth (row.End ∷ rows) h = omega (arith, h.0, fits_closed (depth - 1) rows h.1)
fits_closed depth (row.Par head items ∷ rows) h = fits_closed depth rows h
fits_closed depth (row.NoteText ∷ rows) h = omega (arith, fits_closed (depth + 1) rows h)

fits_behind : (depth : ℕ) (xs ys : List Row) → Fits depth (xs ++ ys) → Fits (depth_behind depth xs) ys
fits_behind depth [] ys h = h
fits_behind depth (row.Start head ∷ xs) ys h = fits_behind (depth + 1) xs ys h
fits_behind depth (row.End ∷ xs) ys h = fits_behind (depth - 1) xs ys h.1
fits_behind depth (row.Par head items ∷ xs) ys h = fits_behind depth xs ys h
fits_behind depth (row.NoteText ∷ xs) ys h = fits_behind (depth + 1) xs ys h

-- the depth before rows that end a body does not depend on what stands before them
pub same_depth : (front other back : List Row) (one two : List Block) → front ++ back ≡ rows_of one → other ++ back ≡ rows_of two → depth_behind 0 front ≡ depth_behind 0 other
same_depth front other back one two e f =
    let a = fits_behind 0 front back (subst (λ (rs : List Row). Fits 0 rs) (sym e) (body_fits one)) in
    let b = fits_behind 0 other back (subst (λ (rs : List Row). Fits 0 rs) (sym f) (body_fits two)) in
    fits_closed (depth_behind 0 front) back a ∙ sym (fits_closed (depth_behind 0 other) back b)

-- rows in the place of others
pub placed_splice : (rows new : List Row) (from to : ℕ) (one two : List Block) → rows ≡ rows_of one → splice rows from to new ≡ rows_of two → splice (placed_rows 0 rows) from to (placed_rows (depth_behind 0 (take from rows)) new) ≡ placed_rows 0 (splice rows from to new)
placed_splice rows new from to one two e f =
    let front = take from rows in
    let back = drop to rows in
    let same : depth_behind 0 (front ++ new) ≡ depth_behind 0 (take to rows) =
    same_depth (front ++ new) (take to rows) back two one (append_assoc front new back ∙ f) (take-append-drop to rows ∙ e) in
    ap (λ hs. hs ++ (placed_rows (depth_behind 0 front) new ++ drop to (placed_rows 0 rows))) (placed_take 0 from rows)
    ∙ (ap (λ hs. placed_rows 0 front ++ (placed_rows (depth_behind 0 front) new ++ hs)) (placed_drop 0 to rows)
    ∙ (ap (λ (d : ℕ). placed_rows 0 front ++ (placed_rows (depth_behind 0 front) new ++ placed_rows d back)) (sym same ∙ depth_append 0 front new)
    ∙ (ap (λ hs. placed_rows 0 front ++ hs) (sym (placed_append (depth_behind 0 front) new back)) ∙ sym (placed_append 0 front (new ++ back)))))

pub Holds_splice : (held : List (Option Tag × Placed)) (rows : List Row) (from to : ℕ) (body : List Block) → Holds held → splice (plain_rows held) from to rows ≡ rows_of body → Holds (splice held from to (placed_rows (depth_behind 0 (take from (plain_rows held))) rows))
Holds_splice held rows from to body holds stands =
    let depth = depth_behind 0 (take from (plain_rows held)) in
    let is = plain_splice held depth rows from to in
    let whole : plain_rows (splice held from to (placed_rows depth rows)) ≡ rows_of body = is ∙ stands in
    record {
      placed = ap (λ hs. splice hs from to (placed_rows depth rows)) holds.placed ∙ (placed_splice (plain_rows held) rows from to (body_of (plain_rows held)) body (sym holds.body) stands ∙ ap (placed_rows 0) (sym is));
      body = ap (λ rs. rows_of (body_of rs)) whole ∙ (ap rows_of (body_known body) ∙ sym whole);
    }

-- the depth before a place
placed_at : (depth n : ℕ) (rows : List Row) (d : Option Tag × Placed) → n < length rows → (get_or (placed_rows depth rows) n d).1.depth ≡ depth_behind depth (take n rows)
placed_at depth n [] d within = absurd (omega arith)
placed_at depth zero (r ∷ rows) d within = refl
placed_at depth (suc n) (r ∷ rows) d within = placed_at (next_depth depth r) n rows d (omega arith)

pub depth_at : (held : List (Option Tag × Placed)) (at : ℕ) (one : Option Tag × Placed) → Holds held → slice_get held at ≡ Some one → one.1.depth ≡ depth_behind 0 (take at (plain_rows held))
depth_at held at one holds is =
    let within = slice_get_within held at one is in
    let long = length-map held (λ (h : Option Tag × Placed). h.1.row) in
    ap (λ (h : Option Tag × Placed). h.1.depth) (sym (get_or_from_slice_get held at one one is) ∙ ap (λ hs. get_or hs at one) holds.placed) ∙ placed_at 0 at (plain_rows held) one (omega arith)

pub depth_end : (held : List (Option Tag × Placed)) (at : ℕ) → Holds held → length held ≤ at → 0 ≡ depth_behind 0 (take at (plain_rows held))
unfolding closed_by
depth_end held at holds past =
    let rows = plain_rows held in
    let long = length-map held (λ (h : Option Tag × Placed). h.1.row) in
    let whole : take at rows ++ [] ≡ rows_of (body_of rows) = append-nil (take at rows) ∙ (take_all at rows (omega arith) ∙ sym holds.body) in
    sym (fits_closed (depth_behind 0 (take at rows)) [] (fits_behind 0 (take at rows) [] (subst (λ (rs : List Row). Fits 0 rs) (sym whole) (body_fits (body_of rows)))))

-- the place of a paragraph
par_tag : (par : ParId) (depth : ℕ) (r : Row) (p : Placed) → has_tag (Number par.0) (tag_of depth r, p) ≡ is_par par r
par_tag par depth (row.Start head) p = refl
par_tag par depth row.End p = refl
par_tag par depth (row.Par head items) p = refl
par_tag par depth row.NoteText p = refl

placed_prefix : (par : ParId) (depth : ℕ) (rows : List Row) → position_or_len (has_tag (Number par.0)) (placed_rows depth rows) ≡ position_or_len (is_par par) rows
placed_prefix par depth [] = refl
placed_prefix par depth (r ∷ rows) =
    ap (λ b. cond (not b) (1 + position_or_len (has_tag (Number par.0)) (placed_rows (next_depth depth r) rows)) 0) (par_tag par depth r (record { depth = depth; row = r }))
    ∙ ap (λ n. cond (not (is_par par r)) (1 + n) 0) (placed_prefix par (next_depth depth r) rows)

placed_long : (depth : ℕ) (rows : List Row) → length (placed_rows depth rows) ≡ length rows
placed_long depth [] = refl
placed_long depth (r ∷ rows) = ap suc (placed_long (next_depth depth r) rows)

pub position_held : (par : ParId) (held : List (Option Tag × Placed)) → Holds held → position (has_tag (Number par.0)) held ≡ position (is_par par) (plain_rows held)
position_held par held holds =
    let rows = plain_rows held in
    let p : Option Tag × Placed → Bool = has_tag (Number par.0) in
    ap (λ hs. position p hs) holds.placed
    ∙ (ap (λ n. cond (ltb n (length (placed_rows 0 rows))) (Some n) None) (placed_prefix par 0 rows) ∙ ap (λ n. cond (ltb (position_or_len (is_par par) rows) n) (Some (position_or_len (is_par par) rows)) None) (placed_long 0 rows))

-- one more row of a range
pub plain_more : (held : List (Option Tag × Placed)) (from at : ℕ) (one : Option Tag × Placed) → from ≤ at → slice_get held at ≡ Some one → between from (at + 1) (plain_rows held) ≡ between from at (plain_rows held) ++ one.1.row ∷ []
plain_more held from at one le is =
    let row_in : Option Tag × Placed → Row = λ h. h.1.row in
    let within = slice_get_within held at one is in
    let long = length-map held row_in in
    between_more (plain_rows held) from at one.1.row le (omega arith)
    ∙ ap (λ r. between from at (plain_rows held) ++ r ∷ []) (get_or-map row_in held at one one.1.row within ∙ ap row_in (get_or_from_slice_get held at one one is))

-- one more placed row
pub placed_more : (depth : ℕ) (rows : List Row) (at : ℕ) (r : Row) → at < length rows → r ≡ get_or rows at r → placed_rows depth (take (at + 1) rows) ≡ placed_rows depth (take at rows) ++ (tag_of (depth_behind depth (take at rows)) r, record { depth = depth_behind depth (take at rows); row = r }) ∷ []
placed_more depth rows at r within is =
    ap (placed_rows depth) (take_more rows at r within ∙ ap (λ x. take at rows ++ x ∷ []) (sym is)) ∙ placed_append depth (take at rows) (r ∷ [])

pub depth_more : (depth : ℕ) (rows : List Row) (at : ℕ) (r : Row) → at < length rows → r ≡ get_or rows at r → depth_behind depth (take (at + 1) rows) ≡ next_depth (depth_behind depth (take at rows)) r
depth_more depth rows at r within is =
    ap (depth_behind depth) (take_more rows at r within ∙ ap (λ x. take at rows ++ x ∷ []) (sym is)) ∙ depth_append depth (take at rows) (r ∷ [])
