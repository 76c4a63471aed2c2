-- The containers of rows as who goes over the rows meets them: with the places of those that are open, the innermost first.
use Rattle.std.proofs.Common.{◌≡◌, ℕ, ◌+◌, ◌-◌, ◌<◌, List, [], ◌∷◌, ◌++◌, length, map, refl, ap, sym, ◌∙◌, subst, arith, append_assoc, Option, Some, None, length-append, suc}
use Rattle.std.specs.List.{flat_map}
use Rattle.node_array.specs.declared.row.Row.{Row}
use Rattle.node_array.specs.declared.row.Row.TheVariants as row
use Rattle.node_array.specs.Containers.{Around, in_turn, enclosed}

-- the innermost of those that are open
abbrev pub innermost : List ℕ → Option ℕ
innermost [] = None
innermost (place ∷ open_places) = Some place

abbrev pub outer : List ℕ → List ℕ
outer [] = []
outer (place ∷ open_places) = open_places

-- those that are round a row, and those that are open behind it
abbrev pub round : Row → List ℕ → List ℕ
round (row.Start head) places = places
round row.End places = outer places
round (row.Par head items) places = places
round row.NoteText places = places

abbrev pub behind : ℕ → Row → List ℕ → List ℕ
behind at (row.Start head) places = at ∷ places
behind at row.End places = outer places
behind at (row.Par head items) places = places
behind at row.NoteText places = at ∷ places

abbrev pub run : List ℕ → ℕ → List Row → List (Option ℕ)
run places at [] = []
run places at (r ∷ rows) = innermost (round r places) ∷ run (behind at r places) (at + 1) rows

-- so many are open that the rows close all of them, and no more
abbrev pub Fits : ℕ → List Row → Type 0
Fits depth [] = depth ≡ 0
Fits depth (row.Start head ∷ rows) = Fits (depth + 1) rows
Fits depth (row.End ∷ rows) = (0 < depth) × Fits (depth - 1) rows
Fits depth (row.Par head items ∷ rows) = Fits depth rows
Fits depth (row.NoteText ∷ rows) = Fits (depth + 1) rows

-- what is known of the rows of a part and their containers
pub record Goes (rows : List Row) (part : Around) : Type 0 where
  pub runs : (places : List ℕ) (at : ℕ) (more : List Row) → run places at (rows ++ more) ≡ part (innermost places) at ++ run places (at + length rows) more
  pub long : (container : Option ℕ) (at : ℕ) → length (part container at) ≡ length rows
  pub fits : (depth : ℕ) (more : List Row) → Fits depth more → Fits depth (rows ++ more)

pub goes_none : Goes [] (in_turn [])
goes_none =
    record {
      runs = λ places at more. ap (λ (n : ℕ). run places n more) (omega arith);
      long = λ container at. refl;
      fits = λ depth more h. h;
    }

pub goes_then : (one : List Row) (part : Around) (rest : List Row) (parts : List Around) → Goes one part → Goes rest (in_turn parts) → Goes (one ++ rest) (in_turn (part ∷ parts))
goes_then one part rest parts first others =
    record {
      runs = λ places at more.
          let c = innermost places in
          let far : at + length one ≡ at + length (part c at) = omega (arith, first.long c at) in
          let end : (at + length one) + length rest ≡ at + length (one ++ rest) = omega (arith, length-append one rest) in
          ap (run places at) (append_assoc one rest more)
          ∙ (first.runs places at (rest ++ more)
          ∙ (ap (λ (cs : List (Option ℕ)). part c at ++ cs) (others.runs places (at + length one) more ∙ (ap (λ (n : ℕ). in_turn parts c n ++ run places ((at + length one) + length rest) more) far ∙ ap (λ (n : ℕ). in_turn parts c (at + length (part c at)) ++ run places n more) end))
          ∙ sym (append_assoc (part c at) (in_turn parts c (at + length (part c at))) (run places (at + length (one ++ rest)) more))));
      long = λ container at. omega (arith, length-append (part container at) (in_turn parts container (at + length (part container at))), length-append one rest, first.long container at, others.long container (at + length (part container at)));
      fits = λ depth more h. subst (λ (rs : List Row). Fits depth rs) (sym (append_assoc one rest more)) (first.fits depth (rest ++ more) (others.fits depth more h));
    }

-- parts in turn
pub goes_each : {K X Y : Type 0} (f : K → X) (h : X → Y) (g : Y → List Row) (around : X → Around) → ((k : K) → Goes (g (h (f k))) (around (f k))) → (ks : List K) → Goes (flat_map g (map h (map f ks))) (in_turn (map around (map f ks)))
goes_each f h g around good [] = goes_none
goes_each f h g around good (k ∷ ks) =
    goes_then (g (h (f k))) (around (f k)) (flat_map g (map h (map f ks))) (map around (map f ks)) (good k) (goes_each f h g around good ks)

-- the row of a paragraph before the rows of its notes
pub goes_par : (head : _) (items : _) (rows : List Row) (part : Around) → Goes rows part → Goes (row.Par head items ∷ rows) (λ container at. container ∷ part container (at + 1))
goes_par head items rows part inner =
    record {
      runs = λ places at more.
          let far : (at + 1) + length rows ≡ at + length (row.Par head items ∷ rows) = omega arith in
          ap (λ (cs : List (Option ℕ)). innermost places ∷ cs) (inner.runs places (at + 1) more ∙ ap (λ (n : ℕ). part (innermost places) (at + 1) ++ run places n more) far);
      long = λ container at. omega (arith, inner.long container (at + 1));
      fits = λ depth more h. inner.fits depth more h;
    }

-- what is enclosed by two rows
enclosed_runs : (rows : List Row) (part : Around) → Goes rows part → (places : List ℕ) (at : ℕ) (more : List Row) → innermost places ∷ run (at ∷ places) (at + 1) ((rows ++ row.End ∷ []) ++ more) ≡ enclosed part (innermost places) at ++ run places ((at + 1) + (length rows + 1)) more
enclosed_runs rows part inner places at more =
    let c = innermost places in
    let content = part (Some at) (at + 1) in
    let far : ((at + 1) + length rows) + 1 ≡ (at + 1) + (length rows + 1) = omega arith in
    ap (λ (cs : List (Option ℕ)). c ∷ cs)
    (ap (run (at ∷ places) (at + 1)) (append_assoc rows (row.End ∷ []) more)
    ∙ (inner.runs (at ∷ places) (at + 1) (row.End ∷ more)
    ∙ (ap (λ (n : ℕ). content ++ (c ∷ run places n more)) far ∙ sym (append_assoc content (c ∷ []) (run places ((at + 1) + (length rows + 1)) more)))))

enclosed_long : (rows : List Row) (part : Around) → Goes rows part → (container : Option ℕ) (at : ℕ) → length (enclosed part container at) ≡ suc (length (rows ++ row.End ∷ []))
enclosed_long rows part inner container at =
    omega (arith, length-append rows (row.End ∷ []), length-append (part (Some at) (at + 1)) (container ∷ []), inner.long (Some at) (at + 1))

enclosed_fits : (rows : List Row) (part : Around) → Goes rows part → (depth : ℕ) (more : List Row) → Fits depth more → Fits (depth + 1) ((rows ++ row.End ∷ []) ++ more)
enclosed_fits rows part inner depth more h =
    let down : depth ≡ (depth + 1) - 1 = omega arith in
    subst (λ (rs : List Row). Fits (depth + 1) rs) (sym (append_assoc rows (row.End ∷ []) more)) (inner.fits (depth + 1) (row.End ∷ more) (omega arith, subst (λ (n : ℕ). Fits n more) down h))

ends_at : (r : Row) (rows : List Row) (at : ℕ) → (at + 1) + (length rows + 1) ≡ at + length (r ∷ (rows ++ row.End ∷ []))
ends_at r rows at = omega (arith, length-append rows (row.End ∷ []))

pub goes_section : (head : _) (rows : List Row) (part : Around) → Goes rows part → Goes (row.Start head ∷ (rows ++ row.End ∷ [])) (enclosed part)
goes_section head rows part inner =
    record {
      runs = λ places at more. enclosed_runs rows part inner places at more ∙ ap (λ (n : ℕ). enclosed part (innermost places) at ++ run places n more) (ends_at (row.Start head) rows at);
      long = enclosed_long rows part inner;
      fits = enclosed_fits rows part inner;
    }

pub goes_note : (rows : List Row) (part : Around) → Goes rows part → Goes (row.NoteText ∷ (rows ++ row.End ∷ [])) (enclosed part)
goes_note rows part inner =
    record {
      runs = λ places at more. enclosed_runs rows part inner places at more ∙ ap (λ (n : ℕ). enclosed part (innermost places) at ++ run places n more) (ends_at row.NoteText rows at);
      long = enclosed_long rows part inner;
      fits = enclosed_fits rows part inner;
    }
