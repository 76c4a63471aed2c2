-- The container of a row is the last row before it that opens one less deep.
use Rattle.std.proofs.Common.{◌≡◌, ℕ, ◌+◌, ◌-◌, ◌<◌, ◌≤◌, Bool, false, cond, eqb, List, [], ◌∷◌, ◌++◌, length, take, zero, suc, refl, ap, sym, ◌∙◌, subst, arith, Option, Some, None, get_or, append_assoc, length-append, eq-eqb}
use Rattle.std.specs.Prelude.{slice_get}
use Rattle.std.proofs.lemmas.List.{append-nil, length-map}
use Rattle.std.proofs.lemmas.Bool.Decides.{nat_tests}
use Rattle.std.proofs.lemmas.Option.{get_or_from_slice_get, slice_get_within, slice_get-get_or}
use Rattle.tagged_list.specs.declared.tag.Tag.{Tag}
use Rattle.tagged_list.specs.declared.tag.Tag.TheVariants.{Number, Depth}
use Rattle.tagged_list.specs.Tags.{has_tag}
use Rattle.tagged_list.specs.Last.{last_position}
use Rattle.tagged_list.proofs.Lasts.{last_push}
use Rattle.node_array.specs.declared.placed.Placed.{Placed}
use Rattle.node_array.specs.declared.row.Row.{Row}
use Rattle.node_array.specs.declared.row.Row.TheVariants as row
use Rattle.node_array.specs.Body.{body_of}
use Rattle.node_array.specs.Containers.{containers_of}
use Rattle.node_array.specs.Held.{tag_of, next_depth, placed_rows, plain_rows, around_of, Holds}
use Rattle.node_array.proofs.Stacks.{innermost, outer, round, behind, run}
use Rattle.node_array.proofs.OneStack.{body_runs, body_long}

-- the last row before a place that opens one less deep than so many, if any are round it
abbrev pub found : ℕ → List (Option Tag × Placed) → Option ℕ
found depth front = cond (eqb depth 0) None (last_position (has_tag (Depth (depth - 1))) front)

-- each of the places that are open is that of the last row of its depth
Knows : List (Option Tag × Placed) → List ℕ → Type 0
Knows front [] = Unit {0}
Knows front (place ∷ places) = (last_position (has_tag (Depth (length places))) front ≡ Some place) × Knows front places

knows_more : (front : List (Option Tag × Placed)) (one : Option Tag × Placed) (places : List ℕ) (n : ℕ) → ((m : ℕ) → m < n → has_tag (Depth m) one ≡ false) → length places ≤ n → Knows front places → Knows (front ++ one ∷ []) places
unfolding Knows
knows_more front one [] n other le known = tt
knows_more front one (place ∷ places) n other le known = (
  last_push (has_tag (Depth (length places))) front one ∙ (ap (λ (b : Bool). cond b (Some (length front)) (last_position (has_tag (Depth (length places))) front)) (other (length places) (omega arith)) ∙ known.0),
  knows_more front one places n other (omega arith) known.1,
)

knows_outer : (front : List (Option Tag × Placed)) (places : List ℕ) → Knows front places → Knows front (outer places)
unfolding Knows
knows_outer front [] known = tt
knows_outer front (place ∷ places) known = known.1

outer_length : (places : List ℕ) → length (outer places) ≡ length places - 1
outer_length [] = refl
outer_length (place ∷ places) = omega arith

other_depth : (m n : ℕ) → m < n → eqb m n ≡ false
other_depth m n lt = grind (arith, nat_tests)

-- a row that opens
knows_open : (front : List (Option Tag × Placed)) (p : Placed) (places : List ℕ) → Knows front places → Knows (front ++ (Some (Depth (length places)), p) ∷ []) (length front ∷ places)
unfolding Knows
knows_open front p places known = (
  last_push (has_tag (Depth (length places))) front (Some (Depth (length places)), p) ∙ ap (λ (b : Bool). cond b (Some (length front)) (last_position (has_tag (Depth (length places))) front)) (eq-eqb (length places) (length places) refl),
  knows_more front (Some (Depth (length places)), p) places (length places) (λ m lt. other_depth m (length places) lt) (omega arith) known,
)

knows_step : (front : List (Option Tag × Placed)) (r : Row) (p : Placed) (places : List ℕ) → Knows front places → Knows (front ++ (tag_of (length places) r, p) ∷ []) (behind (length front) r places)
knows_step front (row.Start head) p places known = knows_open front p places known
knows_step front row.End p places known =
    knows_more front (None, p) (outer places) (length (outer places)) (λ m lt. refl) (omega arith) (knows_outer front places known)
knows_step front (row.Par head items) p places known =
    knows_more front (Some (Number head.id.0), p) places (length places) (λ m lt. refl) (omega arith) known
knows_step front row.NoteText p places known = knows_open front p places known

behind_length : (at : ℕ) (r : Row) (places : List ℕ) → length (behind at r places) ≡ next_depth (length places) r
behind_length at (row.Start head) places = omega arith
behind_length at row.End places = outer_length places
behind_length at (row.Par head items) places = refl
behind_length at row.NoteText places = omega arith

-- the innermost place is the one that is found
innermost_found : (front : List (Option Tag × Placed)) (places : List ℕ) → Knows front places → innermost places ≡ found (length places) front
unfolding Knows
innermost_found front [] known = refl
innermost_found front (place ∷ places) known =
    let no : eqb (suc (length places)) 0 ≡ false = grind (arith, nat_tests) in
    let down : suc (length places) - 1 ≡ length places = omega arith in
    sym (ap (λ (b : Bool). cond b None (last_position (has_tag (Depth (suc (length places) - 1))) front)) no ∙ (ap (λ (n : ℕ). last_position (has_tag (Depth n)) front) down ∙ known.0))

round_found : (front : List (Option Tag × Placed)) (r : Row) (places : List ℕ) → Knows front places → innermost (round r places) ≡ found (around_of (length places) r) front
round_found front (row.Start head) places known = innermost_found front places known
round_found front row.End places known =
    innermost_found front (outer places) (knows_outer front places known) ∙ ap (λ (n : ℕ). found n front) (outer_length places)
round_found front (row.Par head items) places known = innermost_found front places known
round_found front row.NoteText places known = innermost_found front places known

container_at : (front : List (Option Tag × Placed)) (places : List ℕ) (rows : List Row) (i depth : ℕ) (d : Option Tag × Placed) → Knows front places → depth ≡ length places → i < length rows → get_or (run places (length front) rows) i None ≡ found (around_of (get_or (placed_rows depth rows) i d).1.depth (get_or (placed_rows depth rows) i d).1.row) (front ++ take i (placed_rows depth rows))
container_at front places [] i depth d known is within = absurd (omega arith)
container_at front places (r ∷ rows) zero depth d known is within =
    round_found front r places known
    ∙ (ap (λ (n : ℕ). found (around_of n r) front) (sym is) ∙ ap (λ (hs : List (Option Tag × Placed)). found (around_of depth r) hs) (sym (append-nil front)))
container_at front places (r ∷ rows) (suc i) depth d known is within =
    let one : Option Tag × Placed = (tag_of depth r, record { depth = depth; row = r }) in
    let more : Knows (front ++ one ∷ []) (behind (length front) r places) = subst (λ (n : ℕ). Knows (front ++ (tag_of n r, record { depth = depth; row = r }) ∷ []) (behind (length front) r places)) (sym is) (knows_step front r (record { depth = depth; row = r }) places known) in
    let far : length front + 1 ≡ length (front ++ one ∷ []) = omega (arith, length-append front (one ∷ [])) in
    let deep : next_depth depth r ≡ length (behind (length front) r places) = ap (λ (n : ℕ). next_depth n r) is ∙ sym (behind_length (length front) r places) in
    let rest = placed_rows (next_depth depth r) rows in
    ap (λ (n : ℕ). get_or (run (behind (length front) r places) n rows) i None) far
    ∙ (container_at (front ++ one ∷ []) (behind (length front) r places) rows i (next_depth depth r) d more deep (omega arith)
    ∙ ap (λ (hs : List (Option Tag × Placed)). found (around_of (get_or rest i d).1.depth (get_or rest i d).1.row) hs) (append_assoc front (one ∷ []) (take i rest)))

-- the container of a row of a body
pub container_known : (held : List (Option Tag × Placed)) (at : ℕ) (one : Option Tag × Placed) → Holds held → slice_get held at ≡ Some one → slice_get (containers_of (body_of (plain_rows held))) at ≡ Some (found (around_of one.1.depth one.1.row) (take at held))
unfolding Knows
container_known held at one holds is =
    let rows = plain_rows held in
    let body = body_of rows in
    let within = slice_get_within held at one is in
    let long = length-map held (λ (h : Option Tag × Placed). h.1.row) in
    let goes : run [] 0 rows ≡ containers_of body = ap (run [] 0) (sym holds.body) ∙ body_runs body in
    let count : length (containers_of body) ≡ length rows = body_long body ∙ ap length holds.body in
    let it : get_or (placed_rows 0 rows) at one ≡ one = ap (λ hs. get_or hs at one) (sym holds.placed) ∙ get_or_from_slice_get held at one one is in
    let there = container_at [] [] rows at 0 one tt refl (omega arith) in
    slice_get-get_or (containers_of body) at None (omega arith)
    ∙ ap Some
    (ap (λ cs. get_or cs at None) (sym goes)
    ∙ (there
    ∙ (ap (λ (h : Option Tag × Placed). found (around_of h.1.depth h.1.row) (take at (placed_rows 0 rows))) it
    ∙ ap (λ hs. found (around_of one.1.depth one.1.row) (take at hs)) (sym holds.placed))))
