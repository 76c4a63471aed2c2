-- Where the paragraph of a number stands, and what a change of it comes to.
use Rattle.std.proofs.Common.{◌≡◌, ℕ, zero, suc, ◌+◌, Bool, true, false, List, [], ◌∷◌, ◌++◌, map, refl, ap, ap₂, sym, ◌∙◌, subst, arith, append_assoc, append-nil}
use Rattle.std.specs.Prelude.{◌==◌, ◌||◌, if◌then◌else◌}
use Rattle.std.specs.List.{flat_map, list_any, AllByRecursion as Each}
use Rattle.std.proofs.lemmas.Bool.{false≢true}
use Rattle.std.proofs.lemmas.Bool.Decides.{nat_tests}
use Rattle.doc_model.specs.declared.block.Block.{Block}
use Rattle.doc_model.specs.declared.block.Block.TheOpen.{Section-F}
use Rattle.doc_model.specs.declared.block.Section.{Section}
use Rattle.doc_model.specs.declared.document.Document.{Document}
use Rattle.doc_model.specs.declared.paragraph.Par.{Par}
use Rattle.doc_model.specs.declared.paragraph.ParId.{ParId}
use Rattle.doc_model.specs.declared.paragraph.Note.{Note, out-Note}
use Rattle.doc_model.specs.Reading.{number_of, notes_of, block_paragraphs}
use Rattle.doc_model.specs.Alike.{in_paragraph, in_block}
use Rattle.node_array.specs.declared.row.Row.{Row}
use Rattle.node_array.specs.declared.row.Row.TheVariants as row
use Rattle.node_array.specs.Places.{is_par}
use Rattle.node_array.specs.Rows.{par_rows, block_rows, rows_of}
use Rattle.paragraph_rows.specs.OwnRow.{own_row, text_rows, rows_of_notes}
use Rattle.paragraph_rows.specs.Flat.{AreFlat}
use Rattle.paragraph_rows.specs.Standing.{Stands}
use Rattle.paragraph_rows.specs.Located.{Located}
use Rattle.paragraph_rows.proofs.Lists.{joined_map, each_front, each_behind}
use Rattle.paragraph_rows.proofs.Opened.{par_open}
use Rattle.block_facts.proofs.Blocks.{par_block, section_block, of_blocks, par_reads, par_changes, section_reads, section_changes}
use Rattle.paragraph_rows.proofs.Blocks.{section_head, par_block_rows, section_block_rows}
use Rattle.paragraph_rows.proofs.FlatPars.{IsFlatNote, IsFlatPar, IsFlatBlock, flat_pars}
use Rattle.paragraph_rows.proofs.Changed.{note_changed, own_same, notes_changed, text_changed}

-- a test of one of two lists
pub none_front : (test : Row → Bool) (front behind : List Row) → list_any test (front ++ behind) ≡ false → list_any test front ≡ false
none_front test [] behind none = refl
none_front test (one ∷ front) behind none = by_test (test one) none (none_front test front behind) where
  by_test : (here : Bool) → (here || list_any test (front ++ behind)) ≡ false → (list_any test (front ++ behind) ≡ false → list_any test front ≡ false) → (here || list_any test front) ≡ false
  by_test true none rest = none
  by_test false none rest = rest none

pub none_back : (test : Row → Bool) (front behind : List Row) → list_any test (front ++ behind) ≡ false → list_any test behind ≡ false
none_back test [] behind none = none
none_back test (one ∷ front) behind none = by_test (test one) none (none_back test front behind) where
  by_test : (here : Bool) → (here || list_any test (front ++ behind)) ≡ false → (list_any test (front ++ behind) ≡ false → list_any test behind ≡ false) → list_any test behind ≡ false
  by_test true none rest = absurd (false≢true (sym none))
  by_test false none rest = rest none

pub none_both : (test : Row → Bool) (front behind : List Row) → list_any test front ≡ false → list_any test behind ≡ false → list_any test (front ++ behind) ≡ false
none_both test [] behind left right = right
none_both test (one ∷ front) behind left right = by_test (test one) left (λ more. none_both test front behind more right) where
  by_test : (here : Bool) → (here || list_any test front) ≡ false → (list_any test front ≡ false → list_any test (front ++ behind) ≡ false) → (here || list_any test (front ++ behind)) ≡ false
  by_test true left rest = left
  by_test false left rest = rest left

module _ (par : ParId) where
  -- how many rows are that of the paragraph
  abbrev times : List Row → ℕ
  times [] = 0
  times (one ∷ rows) = (if is_par par one then 1 else 0) + times rows

  times_append : (front behind : List Row) → times (front ++ behind) ≡ times front + times behind
  times_append [] behind = omega arith
  times_append (one ∷ front) behind = omega (arith, times_append front behind)

  times_none : (rows : List Row) → list_any (is_par par) rows ≡ false → times rows ≡ 0
  times_none [] none = refl
  times_none (one ∷ rows) none = by_test (is_par par one) none (times_none rows) where
    by_test : (test : Bool) → (test || list_any (is_par par) rows) ≡ false → (list_any (is_par par) rows ≡ false → times rows ≡ 0) → (if test then 1 else 0) + times rows ≡ 0
    by_test true none rest = absurd (false≢true (sym none))
    by_test false none rest = omega (arith, rest none)

  -- the paragraph with a change made to it, if it has this number
  abbrev at_this : (Par → Par) → Par → Par
  at_this change one = if number_of one == par.0 then change one else one

  abbrev Fresh : Par → Type 0
  Fresh one = list_any (is_par par) (rows_of_notes one) ≡ false

  -- the paragraph stands among some rows, and these are the rows after a change of it
  record At (rows : List Row) (later : (Par → Par) → List Row) : Type 0 where
    before : List Row
    old : Par
    after : List Row
    number : is_par par (own_row old) ≡ true
    is : rows ≡ before ++ (par_rows old ++ after)
    changed : (change : Par → Par) → Fresh (change old) → later change ≡ before ++ (par_rows (change old) ++ after)

  record Part (rows : List Row) (later : (Par → Par) → List Row) : Type 0 where
    absent : times rows ≡ 0 → (change : Par → Par) → later change ≡ rows
    present : times rows ≡ 1 → At rows later

  part_as : (rows others : List Row) (later same : (Par → Par) → List Row) → others ≡ rows → ((change : Par → Par) → same change ≡ later change) → Part rows later → Part others same
  part_as rows others later same e f part = record {
    absent = λ none change. f change ∙ (part.absent (ap times (sym e) ∙ none) change ∙ sym e);
    present = λ once. let at = part.present (ap times (sym e) ∙ once) in record {
      before = at.before;
      old = at.old;
      after = at.after;
      number = at.number;
      is = e ∙ at.is;
      changed = λ change fresh. f change ∙ at.changed change fresh;
    };
  }

  part_fixed : (rows : List Row) → times rows ≡ 0 → Part rows (λ change. rows)
  part_fixed rows none = record { absent = λ same change. refl; present = λ once. absurd (omega (arith, none, once)) }

  part_both : (front behind : List Row) (one other : (Par → Par) → List Row) → Part front one → Part behind other → Part (front ++ behind) (λ change. one change ++ other change)
  part_both front behind one other first second = record {
    absent = λ none change. ap₂ (λ (a b : List Row). a ++ b) (first.absent (omega (arith, none, times_append front behind)) change) (second.absent (omega (arith, none, times_append front behind)) change);
    present = λ once. by_times (times front) refl once;
  } where
    in_front : times front ≡ 1 → times behind ≡ 0 → At (front ++ behind) (λ change. one change ++ other change)
    in_front once none = let at = first.present once in record {
      before = at.before;
      old = at.old;
      after = at.after ++ behind;
      number = at.number;
      is = ap (λ (rows : List Row). rows ++ behind) at.is ∙ (append_assoc at.before (par_rows at.old ++ at.after) behind ∙ ap (λ (rows : List Row). at.before ++ rows) (append_assoc (par_rows at.old) at.after behind));
      changed = λ change fresh.
          ap₂ (λ (a b : List Row). a ++ b) (at.changed change fresh) (second.absent none change)
          ∙ (append_assoc at.before (par_rows (change at.old) ++ at.after) behind ∙ ap (λ (rows : List Row). at.before ++ rows) (append_assoc (par_rows (change at.old)) at.after behind));
    }

    in_behind : times front ≡ 0 → times behind ≡ 1 → At (front ++ behind) (λ change. one change ++ other change)
    in_behind none once = let at = second.present once in record {
      before = front ++ at.before;
      old = at.old;
      after = at.after;
      number = at.number;
      is = ap (λ (rows : List Row). front ++ rows) at.is ∙ sym (append_assoc front at.before (par_rows at.old ++ at.after));
      changed = λ change fresh.
          ap₂ (λ (a b : List Row). a ++ b) (first.absent none change) (at.changed change fresh)
          ∙ sym (append_assoc front at.before (par_rows (change at.old) ++ at.after));
    }

    by_times : (n : ℕ) → times front ≡ n → times (front ++ behind) ≡ 1 → At (front ++ behind) (λ change. one change ++ other change)
    by_times zero is once = in_behind is (omega (arith, is, once, times_append front behind))
    by_times (suc n) is once = in_front (omega (arith, is, once, times_append front behind)) (omega (arith, is, once, times_append front behind))

  -- parts that are joined
  part_joined : {X : Type 0} (f : X → List Row) (g : (Par → Par) → X → List Row) (xs : List X) → Each (λ x. Part (f x) (λ change. g change x)) xs → Part (flat_map f xs) (λ change. flat_map (g change) xs)
  part_joined f g [] known = part_fixed [] refl
  part_joined f g (x ∷ xs) known = part_both (f x) (flat_map f xs) (λ change. g change x) (λ change. flat_map (g change) xs) known.0 (part_joined f g xs known.1)

  -- parts between two rows that are no paragraphs
  part_between : (first last : Row) (rows : List Row) (later : (Par → Par) → List Row) → is_par par first ≡ false → is_par par last ≡ false → Part rows later
      → Part (first ∷ (rows ++ last ∷ [])) (λ change. first ∷ (later change ++ last ∷ []))
  part_between first last rows later one other part =
      let alone : (r : Row) → is_par par r ≡ false → times (r ∷ []) ≡ 0 = λ r no. ap (λ (b : Bool). (if b then 1 else 0) + 0) no in
      part_both (first ∷ []) (rows ++ last ∷ []) (λ change. first ∷ []) (λ change. later change ++ last ∷ []) (part_fixed (first ∷ []) (alone first one))
      (part_both rows (last ∷ []) later (λ change. last ∷ []) part (part_fixed (last ∷ []) (alone last other)))

  swapped : (one : Par) → (number_of one == par.0) ≡ is_par par (own_row one)
  swapped one = grind (arith, nat_tests)

  -- a paragraph of a note
  alone_rows : (one : Par) → notes_of one ≡ [] → par_rows one ≡ own_row one ∷ []
  alone_rows one none = par_open one ∙ ap (λ (notes : List Note). own_row one ∷ flat_map text_rows notes) none

  note_par : (one : Par) → notes_of one ≡ [] → Part (par_rows one) (λ change. par_rows (at_this change one))
  note_par one none = by_test (is_par par (own_row one)) refl where
    is_here : (test : Bool) → is_par par (own_row one) ≡ test → (change : Par → Par) → at_this change one ≡ (if test then change one else one)
    is_here test is change = ap (λ (b : Bool). if b then change one else one) (swapped one ∙ is)

    count : (test : Bool) → is_par par (own_row one) ≡ test → times (par_rows one) ≡ (if test then 1 else 0) + 0
    count test is = ap times (alone_rows one none) ∙ ap (λ (b : Bool). (if b then 1 else 0) + 0) is

    by_test : (test : Bool) → is_par par (own_row one) ≡ test → Part (par_rows one) (λ change. par_rows (at_this change one))
    by_test true is = record {
      absent = λ no. absurd (omega (arith, no, count true is));
      present = λ once. record {
        before = [];
        old = one;
        after = [];
        number = is;
        is = sym (append-nil (par_rows one));
        changed = λ change fresh. ap par_rows (is_here true is change) ∙ sym (append-nil (par_rows (change one)));
      };
    }
    by_test false is = record {
      absent = λ no change. ap par_rows (is_here false is change);
      present = λ once. absurd (omega (arith, once, count false is));
    }

  note_pars : (pars : List Par) → Each (λ one. notes_of one ≡ []) pars → Each (λ one. Part (par_rows one) (λ change. par_rows (at_this change one))) pars
  note_pars [] none = tt
  note_pars (one ∷ pars) none = (note_par one none.0, note_pars pars none.1)

  note_text : (note : Note) → IsFlatNote note → Part (text_rows note) (λ change. text_rows (note_changed (at_this change) note))
  note_text note flat =
      let pars : List Par = (out-Note note).pars in
      part_as (text_rows note) (text_rows note) (λ change. row.NoteText ∷ (flat_map (λ one. par_rows (at_this change one)) pars ++ row.End ∷ [])) (λ change. text_rows (note_changed (at_this change) note)) refl
      (λ change. text_changed (at_this change) note ∙ ap (λ (rows : List Row). row.NoteText ∷ (rows ++ row.End ∷ [])) (joined_map par_rows (at_this change) pars))
      (part_between row.NoteText row.End (flat_map par_rows pars) (λ change. flat_map (λ one. par_rows (at_this change one)) pars) refl refl
      (part_joined par_rows (λ change one. par_rows (at_this change one)) pars (note_pars pars flat)))

  note_texts : (notes : List Note) → Each IsFlatNote notes → Each (λ note. Part (text_rows note) (λ change. text_rows (note_changed (at_this change) note))) notes
  note_texts [] flat = tt
  note_texts (note ∷ notes) flat = (note_text note flat.0, note_texts notes flat.1)

  -- notes without a paragraph of this number stay
  still_par : (change : Par → Par) (one : Par) → list_any (is_par par) (par_rows one) ≡ false → at_this change one ≡ one
  still_par change one none =
      let own : is_par par (own_row one) ≡ false = none_own (is_par par (own_row one)) (ap (list_any (is_par par)) (sym (par_open one)) ∙ none) in
      ap (λ (b : Bool). if b then change one else one) (swapped one ∙ own) where
        none_own : (test : Bool) → (test || list_any (is_par par) (rows_of_notes one)) ≡ false → test ≡ false
        none_own true none = none
        none_own false none = refl

  still_pars : (change : Par → Par) (pars : List Par) → list_any (is_par par) (flat_map par_rows pars) ≡ false → map (at_this change) pars ≡ pars
  still_pars change [] none = refl
  still_pars change (one ∷ pars) none =
      ap₂ (λ (first : Par) (more : List Par). first ∷ more) (still_par change one (none_front (is_par par) (par_rows one) (flat_map par_rows pars) none))
      (still_pars change pars (none_back (is_par par) (par_rows one) (flat_map par_rows pars) none))

  still_text : (change : Par → Par) (note : Note) → list_any (is_par par) (text_rows note) ≡ false → text_rows (note_changed (at_this change) note) ≡ text_rows note
  still_text change note none =
      text_changed (at_this change) note
      ∙ ap (λ (pars : List Par). row.NoteText ∷ (flat_map par_rows pars ++ row.End ∷ [])) (still_pars change (out-Note note).pars (none_front (is_par par) (flat_map par_rows (out-Note note).pars) (row.End ∷ []) none))

  still_texts : (change : Par → Par) (notes : List Note) → list_any (is_par par) (flat_map text_rows notes) ≡ false → flat_map text_rows (map (note_changed (at_this change)) notes) ≡ flat_map text_rows notes
  still_texts change [] none = refl
  still_texts change (note ∷ notes) none =
      ap₂ (λ (here more : List Row). here ++ more) (still_text change note (none_front (is_par par) (text_rows note) (flat_map text_rows notes) none))
      (still_texts change notes (none_back (is_par par) (text_rows note) (flat_map text_rows notes) none))

  -- a paragraph of the body
  opened : (change : Par → Par) (one : Par) → par_rows (in_paragraph (at_this change) one)
      ≡ own_row (at_this change one) ∷ flat_map text_rows (map (note_changed (at_this change)) (notes_of (at_this change one)))
  opened change one =
      par_open (in_paragraph (at_this change) one)
      ∙ ap₂ (λ (first : Row) (notes : List Note). first ∷ flat_map text_rows notes) (own_same (at_this change) one) (notes_changed (at_this change) one)

  body_par : (one : Par) → IsFlatPar one → Part (par_rows one) (λ change. par_rows (in_paragraph (at_this change) one))
  body_par one flat = by_test (is_par par (own_row one)) refl where
    is_here : (test : Bool) → is_par par (own_row one) ≡ test → (change : Par → Par) → at_this change one ≡ (if test then change one else one)
    is_here test is change = ap (λ (b : Bool). if b then change one else one) (swapped one ∙ is)

    count : is_par par (own_row one) ≡ true → times (par_rows one) ≡ 1 + times (rows_of_notes one)
    count is = ap times (par_open one) ∙ ap (λ (b : Bool). (if b then 1 else 0) + times (rows_of_notes one)) is

    by_test : (test : Bool) → is_par par (own_row one) ≡ test → Part (par_rows one) (λ change. par_rows (in_paragraph (at_this change) one))
    by_test true is = record {
      absent = λ no. absurd (omega (arith, no, count is));
      present = λ once. record {
        before = [];
        old = one;
        after = [];
        number = is;
        is = sym (append-nil (par_rows one));
        changed = λ change fresh.
            opened change one
            ∙ (ap (λ (p : Par). own_row p ∷ flat_map text_rows (map (note_changed (at_this change)) (notes_of p))) (is_here true is change)
            ∙ (ap (λ (rows : List Row). own_row (change one) ∷ rows) (still_texts change (notes_of (change one)) fresh)
            ∙ (sym (par_open (change one)) ∙ sym (append-nil (par_rows (change one))))));
      };
    }
    by_test false is =
        let alone : times (own_row one ∷ []) ≡ 0 = ap (λ (b : Bool). (if b then 1 else 0) + 0) is in
        part_as (own_row one ∷ rows_of_notes one) (par_rows one) (λ change. own_row one ∷ flat_map (λ note. text_rows (note_changed (at_this change) note)) (notes_of one)) (λ change. par_rows (in_paragraph (at_this change) one)) (par_open one)
        (λ change.
        opened change one
        ∙ (ap (λ (p : Par). own_row p ∷ flat_map text_rows (map (note_changed (at_this change)) (notes_of p))) (is_here false is change)
        ∙ ap (λ (rows : List Row). own_row one ∷ rows) (joined_map text_rows (note_changed (at_this change)) (notes_of one))))
        (part_both (own_row one ∷ []) (rows_of_notes one) (λ change. own_row one ∷ []) (λ change. flat_map (λ note. text_rows (note_changed (at_this change) note)) (notes_of one)) (part_fixed (own_row one ∷ []) alone)
        (part_joined text_rows (λ change note. text_rows (note_changed (at_this change) note)) (notes_of one) (note_texts (notes_of one) flat)))

  -- blocks
  abbrev IsPart : Block → Type 0
  IsPart block = IsFlatBlock block → Part (block_rows block) (λ change. block_rows (in_block (at_this change) block))

  each_part : (blocks : List Block) → Each IsPart blocks → Each IsFlatPar (flat_map block_paragraphs blocks) → Each (λ block. Part (block_rows block) (λ change. block_rows (in_block (at_this change) block))) blocks
  each_part [] known flat = tt
  each_part (block ∷ blocks) known flat = (
    known.0 (each_front IsFlatPar (block_paragraphs block) (flat_map block_paragraphs blocks) flat),
    each_part blocks known.1 (each_behind IsFlatPar (block_paragraphs block) (flat_map block_paragraphs blocks) flat),
  )

  part_blocks : (blocks : List Block) → Each IsPart blocks → Each IsFlatPar (flat_map block_paragraphs blocks) → Part (rows_of blocks) (λ change. rows_of (map (in_block (at_this change)) blocks))
  part_blocks blocks known flat =
      part_as (rows_of blocks) (rows_of blocks) (λ change. flat_map (λ block. block_rows (in_block (at_this change) block)) blocks) (λ change. rows_of (map (in_block (at_this change)) blocks)) refl
      (λ change. joined_map block_rows (in_block (at_this change)) blocks)
      (part_joined block_rows (λ change block. block_rows (in_block (at_this change) block)) blocks (each_part blocks known flat))

  part_par : (one : Par) → IsPart (par_block one)
  part_par one flat =
      part_as (par_rows one) (block_rows (par_block one)) (λ change. par_rows (in_paragraph (at_this change) one)) (λ change. block_rows (in_block (at_this change) (par_block one))) (par_block_rows one)
      (λ change. ap block_rows (par_changes (at_this change) one) ∙ par_block_rows (in_paragraph (at_this change) one))
      (body_par one (subst (Each IsFlatPar) (par_reads one) flat).0)

  part_section : (x : Section-F Block Section) → Each IsPart x.blocks → IsPart (section_block x)
  part_section x known flat =
      let start : Row = row.Start (section_head x) in
      let later : (Par → Par) → List Row = λ change. rows_of (map (in_block (at_this change)) x.blocks) in
      part_as (start ∷ (rows_of x.blocks ++ row.End ∷ [])) (block_rows (section_block x)) (λ change. start ∷ (later change ++ row.End ∷ [])) (λ change. block_rows (in_block (at_this change) (section_block x))) (section_block_rows x)
      (λ change. ap block_rows (section_changes (at_this change) x) ∙ section_block_rows (record x { blocks = map (in_block (at_this change)) x.blocks }))
      (part_between start row.End (rows_of x.blocks) later refl refl (part_blocks x.blocks known (subst (Each IsFlatPar) (section_reads x) flat)))

  part_body : (body : List Block) → AreFlat (rows_of body) → Part (rows_of body) (λ change. rows_of (map (in_block (at_this change)) body))
  part_body body flat = part_blocks body (of_blocks IsPart part_par part_section body) (flat_pars body flat)

-- a row stands at one place
abbrev first_of : Row → List Row → Row
first_of other [] = other
first_of other (one ∷ rows) = one

abbrev rest_of : List Row → List Row
rest_of [] = []
rest_of (one ∷ rows) = rows

one_place : (test : Row → Bool) (before others : List Row) (one other : Row) (behind more : List Row) → before ++ one ∷ behind ≡ others ++ other ∷ more
    → test other ≡ true → list_any test before ≡ false → list_any test behind ≡ false → (before ≡ others) × (one ≡ other) × (behind ≡ more)
one_place test [] [] one other behind more e own front back = (refl, ap (first_of one) e, ap rest_of e)
one_place test [] (first ∷ others) one other behind more e own front back =
    let none : list_any test (other ∷ more) ≡ false = none_back test others (other ∷ more) (ap (list_any test) (sym (ap rest_of e)) ∙ back) in
    absurd (false≢true (sym none ∙ ap (λ (b : Bool). b || list_any test more) own))
one_place test (first ∷ before) [] one other behind more e own front back =
    absurd (false≢true (sym front ∙ ap (λ (b : Bool). b || list_any test before) (ap test (ap (first_of first) e) ∙ own)))
one_place test (first ∷ before) (second ∷ others) one other behind more e own front back =
    let same : first ≡ second = ap (first_of first) e in
    let rest = one_place test before others one other behind more (ap rest_of e) own (none_back test (first ∷ []) before front) back in
    (ap₂ (λ (r : Row) (rows : List Row). r ∷ rows) same rest.0, rest.1, rest.2)

pub located : (par : ParId) (doc : Document) (before : List Row) (one : Row) (behind : List Row) → Stands par (rows_of doc.body) before one behind → AreFlat (rows_of doc.body)
    → Located par doc before one behind
located par doc before one behind stands flat =
    let once : times par (rows_of doc.body) ≡ 1 =
    ap (times par) stands.rows_are
    ∙ (times_append par before (one ∷ behind)
    ∙ (ap₂ (λ (m n : ℕ). m + n) (times_none par before stands.none_before) (ap₂ (λ (b : Bool) (n : ℕ). (if b then 1 else 0) + n) stands.own (times_none par behind stands.none_behind)))) in
    let at = (part_body par doc.body flat).present once in
    let same = one_place (is_par par) before at.before one (own_row at.old) behind (rows_of_notes at.old ++ at.after)
    (sym stands.rows_are ∙ (at.is ∙ ap (λ (rows : List Row). at.before ++ (rows ++ at.after)) (par_open at.old))) at.number stands.none_before stands.none_behind in
    record {
      old = at.old;
      after = at.after;
      own = sym same.1;
      notes = same.2;
      changed = λ change fresh. at.changed change fresh ∙ ap (λ (rows : List Row). rows ++ (par_rows (change at.old) ++ at.after)) (sym same.0);
    }
