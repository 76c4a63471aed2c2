-- Counts of rows that come one by one, and of rows of which a range was replaced.
use Rattle.std.proofs.Common.{◌≡◌, ℕ, ◌+◌, ◌-◌, ◌≤◌, Bool, List, [], ◌∷◌, ◌++◌, filter, length, take, drop, ap, sym, ◌∙◌, arith, Some, sum, length-append}
use Rattle.std.specs.Prelude.{slice_get, IfOk, Result, Ok, Err}
use Rattle.std.specs.List.{flat_map, between, splice}
use Rattle.std.proofs.lemmas.List.{take_more}
use Rattle.std.proofs.lemmas.List.Concat.{flat_map-append}
use Rattle.std.proofs.lemmas.List.Edits.{split_between}
use Rattle.std.proofs.lemmas.List.Elements.{filter-append}
use Rattle.std.proofs.lemmas.List.Sums.{sum_by-append}
use Rattle.std.proofs.lemmas.Option.{get_or_from_slice_get, slice_get_within}
use Rattle.doc_model.specs.Limits.{counts_as_section}
use Rattle.node_array.specs.declared.row.Row.{Row}
use Rattle.node_array.specs.declared.row.SectionHead.{SectionHead}
use Rattle.paragraph_rows.specs.Standing.{number_in}
use Rattle.row_facts.specs.Paragraphs.{section_in}
use Rattle.row_measures.specs.RowCounts.{count_in}
use Rattle.row_counts.specs.declared.counts.Counts.{Counts}
use Rattle.row_counts.specs.Counts.{counts_of}

-- both together
abbrev pub both : Counts → Counts → Counts
both one other = record { paragraphs = one.paragraphs + other.paragraphs; items = one.items + other.items; sections = one.sections + other.sections }

-- what is left of the one without the other
abbrev pub without : Counts → Counts → Counts
without all some = record { paragraphs = all.paragraphs - some.paragraphs; items = all.items - some.items; sections = all.sections - some.sections }

same : (one other : Counts) → one.paragraphs ≡ other.paragraphs → one.items ≡ other.items → one.sections ≡ other.sections → one ≡ other
same one other paragraphs items sections =
    ap (λ (n : ℕ). let made : Counts = record { paragraphs = n; items = one.items; sections = one.sections } in made) paragraphs
    ∙ ap (λ (n : ℕ). let made : Counts = record { paragraphs = other.paragraphs; items = n; sections = one.sections } in made) items
    ∙ ap (λ (n : ℕ). let made : Counts = record { paragraphs = other.paragraphs; items = other.items; sections = n } in made) sections

abbrev is_counted : SectionHead → Bool
is_counted head = counts_as_section head.kind

-- those of rows one behind the other
counts-append : (front back : List Row) → counts_of (front ++ back) ≡ both (counts_of front) (counts_of back)
counts-append front back =
    same (counts_of (front ++ back)) (both (counts_of front) (counts_of back))
    (ap length (flat_map-append number_in front back) ∙ length-append (flat_map number_in front) (flat_map number_in back))
    (ap sum (flat_map-append count_in front back) ∙ sum_by-append (λ n. n) (flat_map count_in front) (flat_map count_in back))
    (ap (λ (heads : List SectionHead). length (filter is_counted heads)) (flat_map-append section_in front back)
    ∙ ap length (filter-append is_counted (flat_map section_in front) (flat_map section_in back))
    ∙ length-append (filter is_counted (flat_map section_in front)) (filter is_counted (flat_map section_in back)))

-- one row more
pub one_more : (rows : List Row) (at : ℕ) (r : Row) (counts more : Counts) → slice_get rows at ≡ Some r → counts ≡ counts_of (take at rows) → more ≡ both counts (counts_of (r ∷ []))
    → more ≡ counts_of (take (at + 1) rows)
one_more rows at r counts more here known sum =
    let front : List Row = take at rows in
    let longer : take (at + 1) rows ≡ front ++ r ∷ [] = take_more rows at r (slice_get_within rows at r here) ∙ ap (λ (one : Row). front ++ one ∷ []) (get_or_from_slice_get rows at r r here) in
    sum ∙ ap (λ (counts : Counts). both counts (counts_of (r ∷ []))) known ∙ sym (counts-append front (r ∷ [])) ∙ ap counts_of (sym longer)

-- rows of which a range was replaced
replaced_counts : (a b c d : Counts) → both (without (both a (both b c)) b) d ≡ both a (both d c)
replaced_counts a b c d = same (both (without (both a (both b c)) b) d) (both a (both d c)) (omega arith) (omega arith) (omega arith)

pub replaced : (rows put removed : List Row) (from to : ℕ) (was gone came now : Counts) → from ≤ to → was ≡ counts_of rows → removed ≡ between from to rows
    → gone ≡ counts_of removed → came ≡ counts_of put → now ≡ both (without was gone) came → now ≡ counts_of (splice rows from to put)
replaced rows put removed from to was gone came now order all out lost got result =
    let front : List Row = take from rows in
    let middle : List Row = between from to rows in
    let back : List Row = drop to rows in
    let whole : counts_of rows ≡ both (counts_of front) (both (counts_of middle) (counts_of back)) =
    ap counts_of (split_between rows from to order) ∙ counts-append front (middle ++ back) ∙ ap (both (counts_of front)) (counts-append middle back) in
    let spliced : counts_of (splice rows from to put) ≡ both (counts_of front) (both (counts_of put) (counts_of back)) =
    counts-append front (put ++ back) ∙ ap (both (counts_of front)) (counts-append put back) in
    result ∙ ap (λ (counts : Counts). both (without counts gone) came) (all ∙ whole)
    ∙ ap (λ (counts : Counts). both (without (both (counts_of front) (both (counts_of middle) (counts_of back))) counts) came) (lost ∙ ap counts_of out)
    ∙ ap (λ (counts : Counts). both (without (both (counts_of front) (both (counts_of middle) (counts_of back))) (counts_of middle)) counts) got
    ∙ replaced_counts (counts_of front) (counts_of middle) (counts_of back) (counts_of put) ∙ sym spliced

-- what follows of a result that finds memory
pub if_ok : {T E : Type 0} (result : Result T E) (P Q : T → Type 0) → ((t : T) → P t → Q t) → IfOk result P → IfOk result Q
if_ok (Ok t) P Q follows p = follows t p
if_ok (Err e) P Q follows p = tt
