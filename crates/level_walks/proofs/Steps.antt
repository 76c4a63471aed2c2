-- Walks along rows, one row after another.
use Rattle.std.proofs.Common.{◌≡◌, ℕ, ◌+◌, ◌<◌, ◌≤◌, eqb, Bool, true, false, List, ◌∷◌, drop, length, ap, sym, ◌∙◌, Some, None}
use Rattle.std.specs.Prelude.{slice_get}
use Rattle.std.specs.List.{between}
use Rattle.level_rows.specs.Level.{held_in}
use Rattle.node_array.specs.declared.row.Row.{Row}
use Rattle.level_walks.specs.Walks.{begins_with_one, depth_behind, is_held_here, is_nothing, is_one_held, stays}
use Rattle.level_walks.proofs.Lists.{between_at, from_place, nothing_between, past_end}
use Rattle.level_walks.proofs.Reached.{begun_here, begun_nowhere, begun_behind, held_here, held_nowhere, held_behind, stopped, walked}

-- a walk from one place to another
module _ (s : Bool) (rows : List Row) (at to depth : ℕ) (whole : Bool) (left : stays s depth (between at to rows) ≡ whole) where
  module _ (r : Row) (there : slice_get rows at ≡ Some r) (before : at < to) where
    begins : stays s depth (r ∷ between (at + 1) to rows) ≡ whole
    begins = ap (stays s depth) (sym (between_at rows at to r there before)) ∙ left

    pub goes_on : (next : ℕ) → Some next ≡ depth_behind s depth r → stays s next (between (at + 1) to rows) ≡ whole
    goes_on next is = walked s depth next r (between (at + 1) to rows) (sym is) ∙ begins

    pub stops : None ≡ depth_behind s depth r → false ≡ whole
    stops ends = stopped s depth r (between (at + 1) to rows) (sym ends) ∙ begins

  pub arrives : to ≤ at → eqb depth 0 ≡ whole
  arrives past = ap (stays s depth) (sym (nothing_between rows at to past)) ∙ left

-- whether a paragraph comes first
module _ (rows : List Row) (at depth : ℕ) (whole : Bool) (left : begins_with_one (held_in depth (drop at rows)) ≡ whole) where
  module _ (r : Row) (there : slice_get rows at ≡ Some r) (test : Bool) (tests : test ≡ is_held_here depth r) where
    one_begins : begins_with_one (held_in depth (r ∷ drop (at + 1) rows)) ≡ whole
    one_begins = ap (λ (rs : List Row). begins_with_one (held_in depth rs)) (sym (from_place rows at r there)) ∙ left

    pub one_comes : test ≡ true → true ≡ whole
    one_comes is = begun_here depth r (drop (at + 1) rows) (sym tests ∙ is) ∙ one_begins

    pub none_comes : test ≡ false → None ≡ depth_behind false depth r → false ≡ whole
    none_comes is ends = begun_nowhere depth r (drop (at + 1) rows) (sym tests ∙ is) (sym ends) ∙ one_begins

    pub one_may_come : test ≡ false → (next : ℕ) → Some next ≡ depth_behind false depth r → begins_with_one (held_in next (drop (at + 1) rows)) ≡ whole
    one_may_come is next step = begun_behind depth next r (drop (at + 1) rows) (sym tests ∙ is) (sym step) ∙ one_begins

  pub none_came : length rows ≤ at → false ≡ whole
  none_came past = ap (λ (rs : List Row). begins_with_one (held_in depth rs)) (sym (past_end rows at past)) ∙ left

-- whether nothing comes
module _ (rows : List Row) (at depth : ℕ) (whole : Bool) (left : is_nothing (held_in depth (drop at rows)) ≡ whole) where
  module _ (r : Row) (there : slice_get rows at ≡ Some r) (test : Bool) (tests : test ≡ is_one_held depth r) where
    held_begins : is_nothing (held_in depth (r ∷ drop (at + 1) rows)) ≡ whole
    held_begins = ap (λ (rs : List Row). is_nothing (held_in depth rs)) (sym (from_place rows at r there)) ∙ left

    pub something_comes : test ≡ true → false ≡ whole
    something_comes is = held_here depth r (drop (at + 1) rows) (sym tests ∙ is) ∙ held_begins

    pub nothing_comes : test ≡ false → None ≡ depth_behind true depth r → true ≡ whole
    nothing_comes is ends = held_nowhere depth r (drop (at + 1) rows) (sym tests ∙ is) (sym ends) ∙ held_begins

    pub something_may_come : test ≡ false → (next : ℕ) → Some next ≡ depth_behind true depth r → is_nothing (held_in next (drop (at + 1) rows)) ≡ whole
    something_may_come is next step = held_behind depth next r (drop (at + 1) rows) (sym tests ∙ is) (sym step) ∙ held_begins

  pub nothing_came : length rows ≤ at → true ≡ whole
  nothing_came past = ap (λ (rs : List Row). is_nothing (held_in depth rs)) (sym (past_end rows at past)) ∙ left
