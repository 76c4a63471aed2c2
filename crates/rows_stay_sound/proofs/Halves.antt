-- Paragraphs that are split and joined.
use Rattle.std.proofs.Common.{◌≡◌, ℕ, ◌+◌, false, List, [], ◌∷◌, ◌++◌, take, drop, Option, Some, None, refl, ap, sym, ◌∙◌, subst, append_assoc}
use Rattle.std.proofs.lemmas.List.{take-append-drop}
use Rattle.doc_model.specs.declared.edit.EditOp.TheVariants.{Split, Join}
use Rattle.doc_model.specs.declared.paragraph.Item.{Item}
use Rattle.doc_model.specs.declared.paragraph.ParHead.{ParHead}
use Rattle.doc_model.specs.declared.paragraph.ParId.{ParId}
use Rattle.doc_model.specs.declared.style.Style.{Style}
use Rattle.edit_rules.specs.Edited.{Edited, edited}
use Rattle.node_array.specs.declared.row.Row.{Row}
use Rattle.node_array.specs.declared.row.Row.TheVariants as row
use Rattle.node_array.specs.Rows.{rows_of}
use Rattle.container_rows.specs.Halves.{with_style_in, second_head}
use Rattle.container_rows.specs.Standing.{IsApart}
use Rattle.container_rows.specs.Texts.{note_count, through_ends}
use Rattle.container_rows.proofs.Split.{split_among}
use Rattle.container_rows.proofs.Join.{join_among}
use Rattle.paragraph_rows.specs.Flat.{has_flat_notes}
use Rattle.row_edits.specs.Sound.{AreSound, IsSound}
use Rattle.row_edits.proofs.Distinct.{Apart, Below, apart_more, apart_fewer, below_more, below_fewer}
use Rattle.rows_stay_sound.proofs.Neutral.{numbers, numbers_both, par_neutral, kept}

-- one more row of a paragraph
more_flat : (before : List Row) (one : ParHead) (some others : List Item) (other : ParHead) (notes behind : List Row)
    → has_flat_notes false (before ++ row.Par one others ∷ (notes ++ row.Par other some ∷ behind)) ≡ has_flat_notes false (before ++ (notes ++ behind))
more_flat before one some others other notes behind =
    par_neutral false before one others (notes ++ row.Par other some ∷ behind)
    ∙ ap (has_flat_notes false) (sym (append_assoc before notes (row.Par other some ∷ behind)))
    ∙ par_neutral false (before ++ notes) other some behind
    ∙ ap (has_flat_notes false) (append_assoc before notes behind)

-- the numbers round a row that stands behind others
numbers_cut : (before : List Row) (one : ParHead) (items : List Item) (notes behind : List Row)
    → numbers (before ++ row.Par one items ∷ (notes ++ behind)) ≡ (numbers before ++ one.id.0 ∷ numbers notes) ++ numbers behind
numbers_cut before one items notes behind =
    numbers_both before (row.Par one items ∷ (notes ++ behind))
    ∙ ap (λ (some : List ℕ). numbers before ++ one.id.0 ∷ some) (numbers_both notes behind)
    ∙ sym (append_assoc (numbers before) (one.id.0 ∷ numbers notes) (numbers behind))

-- the new paragraph has the number that it is given
styled_number : (style : Option Style) (head : ParHead) → (with_style_in style head).id ≡ head.id
styled_number None head = refl
styled_number (Some style) head = refl

pub split_kept : (old : Edited) (at : ℕ) (before : List Row) (head : ParHead) (items : List Item) (rest : List Row)
    → IsApart old.document → rows_of old.document.body ≡ before ++ row.Par head items ∷ rest → IsSound old → IsSound (edited old (Split head.id at))
split_kept old at before head items rest apart is sound =
    let next : ℕ = old.next in
    let count : ℕ = through_ends (note_count (take at items)) rest in
    let notes : List Row = take count rest in
    let behind : List Row = drop count rest in
    let second : ParHead = second_head old.document.styles next at head items in
    let number : second.id.0 ≡ next = ap (λ (id : ParId). id.0) (styled_number _ _) in
    let new : List Row = before ++ row.Par head (take at items) ∷ (notes ++ row.Par second (drop at items) ∷ behind) in
    let whole : AreSound next (before ++ row.Par head items ∷ (notes ++ behind)) =
    subst (AreSound next) (is ∙ ap (λ (rows : List Row). before ++ row.Par head items ∷ rows) (sym (take-append-drop count rest))) sound
    in
    let ahead : List ℕ = numbers before ++ head.id.0 ∷ numbers notes in
    let was : numbers (before ++ row.Par head items ∷ (notes ++ behind)) ≡ ahead ++ numbers behind = numbers_cut before head items notes behind in
    let now : numbers new ≡ ahead ++ next ∷ numbers behind =
    numbers_cut before head (take at items) notes (row.Par second (drop at items) ∷ behind) ∙ ap (λ (n : ℕ). ahead ++ n ∷ numbers behind) number
    in
    let below : Below next (ahead ++ numbers behind) = subst (Below next) was whole.below in
    let found : AreSound (next + 1) new = record {
      flat = more_flat before head (drop at items) (take at items) second notes behind ∙ sym (par_neutral false before head items (notes ++ behind)) ∙ whole.flat;
      apart = subst Apart (sym now) (apart_more next ahead (numbers behind) (subst Apart was whole.apart) below);
      below = subst (Below (next + 1)) (sym now) (below_more next ahead (numbers behind) below);
    } in
    subst (AreSound (next + 1)) (sym (split_among next at old.document before head items rest apart is)) found

pub join_kept : (old : Edited) (before : List Row) (head : ParHead) (items : List Item) (rest : List Row) (other : ParHead) (others : List Item) (more : List Row)
    → IsApart old.document → rows_of old.document.body ≡ before ++ row.Par head items ∷ rest → drop (through_ends (note_count items) rest) rest ≡ row.Par other others ∷ more
    → IsSound old → IsSound (edited old (Join head.id))
join_kept old before head items rest other others more apart is behind_is sound =
    let next : ℕ = old.next in
    let count : ℕ = through_ends (note_count items) rest in
    let notes : List Row = take count rest in
    let whole : AreSound next (before ++ row.Par head items ∷ (notes ++ row.Par other others ∷ more)) =
    subst (AreSound next) (is ∙ ap (λ (rows : List Row). before ++ row.Par head items ∷ rows) (sym (take-append-drop count rest) ∙ ap (λ (rows : List Row). notes ++ rows) behind_is)) sound
    in
    let new : List Row = before ++ row.Par head (items ++ others) ∷ (notes ++ more) in
    let ahead : List ℕ = numbers before ++ head.id.0 ∷ numbers notes in
    let was : numbers (before ++ row.Par head items ∷ (notes ++ row.Par other others ∷ more)) ≡ ahead ++ ((other.id.0 ∷ []) ++ numbers more) = numbers_cut before head items notes (row.Par other others ∷ more) in
    let now : numbers new ≡ ahead ++ numbers more = numbers_cut before head (items ++ others) notes more in
    kept old (Join head.id) refl
    (subst (AreSound next) (sym (join_among next old.document before head items rest other others more apart is behind_is))
    (record {
      flat = par_neutral false before head (items ++ others) (notes ++ more) ∙ sym (more_flat before head others items other notes more) ∙ whole.flat;
      apart = subst Apart (sym now) (apart_fewer ahead (other.id.0 ∷ []) (numbers more) (subst Apart was whole.apart));
      below = subst (Below next) (sym now) (below_fewer next ahead (other.id.0 ∷ []) (numbers more) (subst (Below next) was whole.below));
    }))
