-- What a walk along rows tells of what is held.
use Rattle.std.proofs.Common.{◌≡◌, ℕ, ◌+◌, ◌-◌, eqb, Bool, true, false, not, ◌||◌, ◌&&◌, List, [], ◌∷◌, ◌++◌, take, length, suc, cond, refl, ap, sym, ◌∙◌, arith, Option, Some, None}
use Rattle.std.specs.Prelude.{if◌then◌else◌, is_some}
use Rattle.std.specs.List.{list_any, list_all, position_or_len}
use Rattle.std.specs.Option.{option_map_or}
use Rattle.std.proofs.lemmas.Bool.{eqb-true, eq-eqb, ne_eqb, false≢true}
use Rattle.doc_model.specs.declared.paragraph.ParId.{ParId}
use Rattle.edit_rules.specs.Places.{through_first}
use Rattle.node_array.specs.declared.row.Row.{Row}
use Rattle.node_array.specs.declared.row.Row.TheVariants as row
use Rattle.node_array.specs.Places.{is_par}
use Rattle.level_rows.specs.Level.{held_in, is_number, begin_two}
use Rattle.level_walks.specs.Walks.{begins_with_one, comes_to, depth_behind, is_held_here, is_nothing, is_one_held, stays}
use Rattle.level_walks.proofs.Lists.{none_first, none_rest}

longer : (n : ℕ) → 1 + n + 1 ≡ suc (n + 1)
longer n = omega arith

and_none : (test : Bool) → (test && false) ≡ false
and_none true = refl
and_none false = refl

-- equal numbers, told from either side
pub turned : (m n : ℕ) (test : Bool) → eqb m n ≡ test → eqb n m ≡ test
turned m n true is = eq-eqb n m (sym (eqb-true m n is))
turned m n false is = by_other (eqb n m) refl where
  by_other : (other : Bool) → eqb n m ≡ other → eqb n m ≡ false
  by_other true same = absurd (false≢true (sym is ∙ eq-eqb m n (sym (eqb-true n m same))))
  by_other false other = other

-- what stands at the level of the container, or deeper
on_section : (s here : Bool) (n : ℕ) (held : List (Option ℕ)) → comes_to s n ((if here then None ∷ [] else []) ++ held) ≡ ((s || not here) && comes_to s n held)
on_section true true n held = refl
on_section true false n held = refl
on_section false true n held = refl
on_section false false n held = refl

on_other : (s here : Bool) (n m : ℕ) (held : List (Option ℕ)) → eqb m n ≡ false → comes_to s n ((if here then Some m ∷ [] else []) ++ held) ≡ comes_to s n held
on_other true true n m held other = ap (λ (b : Bool). b || comes_to true n held) other
on_other false true n m held other = ap (λ (b : Bool). b || comes_to false n held) other
on_other s false n m held other = refl

on_own : (s here : Bool) (n m : ℕ) (held : List (Option ℕ)) → eqb m n ≡ true → comes_to s n held ≡ false → comes_to s n ((if here then Some m ∷ [] else []) ++ held) ≡ here
on_own s true n m held own none = ap (λ (b : Bool). b || (s || true) && comes_to s n held) own
on_own s false n m held own none = none

on_end : (s here : Bool) (n : ℕ) (held : List (Option ℕ)) → comes_to s n (if here then [] else held) ≡ (not here && comes_to s n held)
on_end s true n held = refl
on_end s false n held = refl

-- a step that may not be taken
step : {X : Type 0} (may : Bool) (x : X) (f : X → Bool) → option_map_or f (if may then Some x else None) false ≡ (may && f x)
step true x f = refl
step false x f = refl

step_back : {X : Type 0} (here : Bool) (x : X) (f : X → Bool) → option_map_or f (if here then None else Some x) false ≡ (not here && f x)
step_back true x f = refl
step_back false x f = refl

module _ (s : Bool) (par : ParId) where
  -- a paragraph that has no row isn't come to
  pub none_reached : (depth : ℕ) (rows : List Row) → list_any (is_par par) rows ≡ false → comes_to s par.0 (held_in depth rows) ≡ false
  none_reached depth [] none = refl
  none_reached depth (row.Start head ∷ rows) none =
      on_section s (eqb depth 0) par.0 (held_in (depth + 1) rows)
      ∙ ap (λ (b : Bool). (s || not (eqb depth 0)) && b) (none_reached (depth + 1) rows none) ∙ and_none (s || not (eqb depth 0))
  none_reached depth (row.End ∷ rows) none =
      on_end s (eqb depth 0) par.0 (held_in (depth - 1) rows)
      ∙ ap (λ (b : Bool). not (eqb depth 0) && b) (none_reached (depth - 1) rows none) ∙ and_none (not (eqb depth 0))
  none_reached depth (row.Par head items ∷ rows) none =
      on_other s (eqb depth 0) par.0 head.id.0 (held_in depth rows) (turned par.0 head.id.0 false (none_first (is_par par) (row.Par head items) rows none))
      ∙ none_reached depth rows (none_rest (is_par par) (row.Par head items) rows none)
  none_reached depth (row.NoteText ∷ rows) none = none_reached (depth + 1) rows none

  -- one is come to where a walk to its row stays in the container
  pub reached : (depth : ℕ) (rows : List Row) (one : Row) (behind : List Row) → is_par par one ≡ true → list_any (is_par par) rows ≡ false → list_any (is_par par) behind ≡ false
      → stays s depth rows ≡ comes_to s par.0 (held_in depth (rows ++ one ∷ behind))
  reached depth [] (row.Start head) behind own none later = absurd (false≢true own)
  reached depth [] row.End behind own none later = absurd (false≢true own)
  reached depth [] (row.Par head items) behind own none later =
      sym (on_own s (eqb depth 0) par.0 head.id.0 (held_in depth behind) (turned par.0 head.id.0 true own) (none_reached depth behind later))
  reached depth [] row.NoteText behind own none later = absurd (false≢true own)
  reached depth (row.Start head ∷ rows) one behind own none later =
      step (s || not (eqb depth 0)) (depth + 1) (λ next. stays s next rows)
      ∙ ap (λ (b : Bool). (s || not (eqb depth 0)) && b) (reached (depth + 1) rows one behind own none later)
      ∙ sym (on_section s (eqb depth 0) par.0 (held_in (depth + 1) (rows ++ one ∷ behind)))
  reached depth (row.End ∷ rows) one behind own none later =
      step_back (eqb depth 0) (depth - 1) (λ next. stays s next rows)
      ∙ ap (λ (b : Bool). not (eqb depth 0) && b) (reached (depth - 1) rows one behind own none later)
      ∙ sym (on_end s (eqb depth 0) par.0 (held_in (depth - 1) (rows ++ one ∷ behind)))
  reached depth (row.Par head items ∷ rows) one behind own none later =
      reached depth rows one behind own (none_rest (is_par par) (row.Par head items) rows none) later
      ∙ sym (on_other s (eqb depth 0) par.0 head.id.0 (held_in depth (rows ++ one ∷ behind)) (turned par.0 head.id.0 false (none_first (is_par par) (row.Par head items) rows none)))
  reached depth (row.NoteText ∷ rows) one behind own none later = reached (depth + 1) rows one behind own none later

-- past sections: it is among what is held
pub reached_any : (n : ℕ) (held : List (Option ℕ)) → comes_to true n held ≡ list_any (is_number n) held
reached_any n [] = refl
reached_any n (one ∷ held) = ap (λ (b : Bool). is_number n one || b) (reached_any n held)

-- past paragraphs alone: it is, and up to it there are only paragraphs
pub reached_together : (n : ℕ) (held : List (Option ℕ)) → comes_to false n held ≡ (list_any (is_number n) held && list_all is_some (through_first (is_number n) held))
reached_together n [] = refl
reached_together n (None ∷ held) =
    sym (ap (λ (k : ℕ). list_any (is_number n) held && list_all is_some (take k (None ∷ held))) (longer (position_or_len (is_number n) held)) ∙ and_none (list_any (is_number n) held))
reached_together n (Some m ∷ held) = by_test (eqb m n) (reached_together n held) where
  by_test : (test : Bool) → comes_to false n held ≡ (list_any (is_number n) held && list_all is_some (take (position_or_len (is_number n) held + 1) held))
      → (test || comes_to false n held) ≡ ((test || list_any (is_number n) held) && list_all is_some (take (cond (not test) (1 + position_or_len (is_number n) held) 0 + 1) (Some m ∷ held)))
  by_test true later = refl
  by_test false later = later ∙ sym (ap (λ (k : ℕ). list_any (is_number n) held && list_all is_some (take k (Some m ∷ held))) (longer (position_or_len (is_number n) held)))

-- what begins with a paragraph
pub begins_two : (number : ℕ) (held : List (Option ℕ)) → begins_with_one held ≡ begin_two (Some number ∷ held)
begins_two number [] = refl
begins_two number (None ∷ held) = refl
begins_two number (Some other ∷ held) = refl

pub begun_here : (depth : ℕ) (r : Row) (rows : List Row) → is_held_here depth r ≡ true → true ≡ begins_with_one (held_in depth (r ∷ rows))
begun_here depth (row.Start head) rows here = absurd (false≢true here)
begun_here depth row.End rows here = absurd (false≢true here)
begun_here depth (row.Par head items) rows here = ap (λ (b : Bool). begins_with_one ((if b then Some head.id.0 ∷ [] else []) ++ held_in depth rows)) (sym here)
begun_here depth row.NoteText rows here = absurd (false≢true here)

-- a step that isn't taken, and one that is
abbrev next_of : ℕ → Option ℕ → ℕ
next_of other None = other
next_of other (Some next) = next

pub begun_nowhere : (depth : ℕ) (r : Row) (rows : List Row) → is_held_here depth r ≡ false → depth_behind false depth r ≡ None → false ≡ begins_with_one (held_in depth (r ∷ rows))
begun_nowhere depth (row.Start head) rows other ends = by_level (eqb depth 0) ends where
  by_level : (here : Bool) → (if not here then Some (depth + 1) else None) ≡ None → false ≡ begins_with_one ((if here then None ∷ [] else []) ++ held_in (depth + 1) rows)
  by_level true ends = refl
  by_level false ends = absurd cc
begun_nowhere depth row.End rows other ends = by_level (eqb depth 0) ends where
  by_level : (here : Bool) → (if here then None else Some (depth - 1)) ≡ None → false ≡ begins_with_one (if here then [] else held_in (depth - 1) rows)
  by_level true ends = refl
  by_level false ends = absurd cc
begun_nowhere depth (row.Par head items) rows other ends = absurd cc
begun_nowhere depth row.NoteText rows other ends = absurd cc

pub begun_behind : (depth next : ℕ) (r : Row) (rows : List Row) → is_held_here depth r ≡ false → depth_behind false depth r ≡ Some next → begins_with_one (held_in next rows) ≡ begins_with_one (held_in depth (r ∷ rows))
begun_behind depth next (row.Start head) rows other is = by_level (eqb depth 0) is where
  by_level : (here : Bool) → (if not here then Some (depth + 1) else None) ≡ Some next → begins_with_one (held_in next rows) ≡ begins_with_one ((if here then None ∷ [] else []) ++ held_in (depth + 1) rows)
  by_level true is = absurd cc
  by_level false is = ap (λ (n : ℕ). begins_with_one (held_in n rows)) (sym (ap (next_of 0) is))
begun_behind depth next row.End rows other is = by_level (eqb depth 0) is where
  by_level : (here : Bool) → (if here then None else Some (depth - 1)) ≡ Some next → begins_with_one (held_in next rows) ≡ begins_with_one (if here then [] else held_in (depth - 1) rows)
  by_level true is = absurd cc
  by_level false is = ap (λ (n : ℕ). begins_with_one (held_in n rows)) (sym (ap (next_of 0) is))
begun_behind depth next (row.Par head items) rows other is =
    ap (λ (n : ℕ). begins_with_one (held_in n rows)) (sym (ap (next_of 0) is))
    ∙ ap (λ (b : Bool). begins_with_one ((if b then Some head.id.0 ∷ [] else []) ++ held_in depth rows)) (sym other)
begun_behind depth next row.NoteText rows other is = ap (λ (n : ℕ). begins_with_one (held_in n rows)) (sym (ap (next_of 0) is))

-- where nothing is held
pub held_here : (depth : ℕ) (r : Row) (rows : List Row) → is_one_held depth r ≡ true → false ≡ is_nothing (held_in depth (r ∷ rows))
held_here depth (row.Start head) rows here = ap (λ (b : Bool). is_nothing ((if b then None ∷ [] else []) ++ held_in (depth + 1) rows)) (sym here)
held_here depth row.End rows here = absurd (false≢true here)
held_here depth (row.Par head items) rows here = ap (λ (b : Bool). is_nothing ((if b then Some head.id.0 ∷ [] else []) ++ held_in depth rows)) (sym here)
held_here depth row.NoteText rows here = absurd (false≢true here)

pub held_nowhere : (depth : ℕ) (r : Row) (rows : List Row) → is_one_held depth r ≡ false → depth_behind true depth r ≡ None → true ≡ is_nothing (held_in depth (r ∷ rows))
held_nowhere depth (row.Start head) rows other ends = absurd cc
held_nowhere depth row.End rows other ends = by_level (eqb depth 0) ends where
  by_level : (here : Bool) → (if here then None else Some (depth - 1)) ≡ None → true ≡ is_nothing (if here then [] else held_in (depth - 1) rows)
  by_level true ends = refl
  by_level false ends = absurd cc
held_nowhere depth (row.Par head items) rows other ends = absurd cc
held_nowhere depth row.NoteText rows other ends = absurd cc

pub held_behind : (depth next : ℕ) (r : Row) (rows : List Row) → is_one_held depth r ≡ false → depth_behind true depth r ≡ Some next → is_nothing (held_in next rows) ≡ is_nothing (held_in depth (r ∷ rows))
held_behind depth next (row.Start head) rows other is =
    ap (λ (n : ℕ). is_nothing (held_in n rows)) (sym (ap (next_of 0) is))
    ∙ ap (λ (b : Bool). is_nothing ((if b then None ∷ [] else []) ++ held_in (depth + 1) rows)) (sym other)
held_behind depth next row.End rows other is = by_level (eqb depth 0) is where
  by_level : (here : Bool) → (if here then None else Some (depth - 1)) ≡ Some next → is_nothing (held_in next rows) ≡ is_nothing (if here then [] else held_in (depth - 1) rows)
  by_level true is = absurd cc
  by_level false is = ap (λ (n : ℕ). is_nothing (held_in n rows)) (sym (ap (next_of 0) is))
held_behind depth next (row.Par head items) rows other is =
    ap (λ (n : ℕ). is_nothing (held_in n rows)) (sym (ap (next_of 0) is))
    ∙ ap (λ (b : Bool). is_nothing ((if b then Some head.id.0 ∷ [] else []) ++ held_in depth rows)) (sym other)
held_behind depth next row.NoteText rows other is = ap (λ (n : ℕ). is_nothing (held_in n rows)) (sym (ap (next_of 0) is))

pub nothing_more : (number : ℕ) (held : List (Option ℕ)) → is_nothing held ≡ eqb (length (Some number ∷ held)) 1
nothing_more number [] = refl
nothing_more number (one ∷ held) = sym (ne_eqb (length (Some number ∷ one ∷ held)) 1 (λ e. omega (arith, e)))

-- a walk, row by row
pub stopped : (s : Bool) (depth : ℕ) (r : Row) (rows : List Row) → depth_behind s depth r ≡ None → false ≡ stays s depth (r ∷ rows)
stopped s depth r rows ends = ap (λ (o : Option ℕ). option_map_or (λ next. stays s next rows) o false) (sym ends)

pub walked : (s : Bool) (depth next : ℕ) (r : Row) (rows : List Row) → depth_behind s depth r ≡ Some next → stays s next rows ≡ stays s depth (r ∷ rows)
walked s depth next r rows is = ap (λ (o : Option ℕ). option_map_or (λ next. stays s next rows) o false) (sym is)
