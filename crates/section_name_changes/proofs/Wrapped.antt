-- The names of a document of which blocks are wrapped.
use Rattle.std.proofs.Common.{◌≡◌, ◌≢◌, ℕ, ◌+◌, suc, true, false, cond, List, [], ◌∷◌, ◌++◌, map, take, Some, None, refl, ap, ap₂, sym, ◌∙◌, subst, arith, append_assoc}
use Rattle.std.specs.List.{flat_map, position_or_len, after_first}
use Rattle.std.specs.Str.{bytes_eq}
use Rattle.std.proofs.lemmas.Bool.{false≢true}
use Rattle.std.proofs.lemmas.Slice.Eq.{bytes_eq-Decides}
use Rattle.std.proofs.lemmas.List.{take-append-drop}
use Rattle.std.proofs.lemmas.List.Concat.{flat_map-append}
use Rattle.doc_model.specs.declared.block.Block.{Block}
use Rattle.doc_model.specs.declared.block.Kind.TheVariants.{Plain}
use Rattle.doc_model.specs.declared.document.Document.{Document}
use Rattle.doc_model.specs.declared.edit.EditOp.TheVariants.{WrapSection}
use Rattle.doc_model.specs.declared.paragraph.Par.{Par, out-Par}
use Rattle.doc_model.specs.declared.paragraph.ParHead.{ParHead}
use Rattle.doc_model.specs.declared.paragraph.ParId.{ParId}
use Rattle.doc_model.specs.declared.paragraph.Item.{Item}
use Rattle.edit_rules.specs.Blocks.{wrap_through, section_of}
use Rattle.edit_rules.specs.Edited.{Edited, edited, edited_document}
use Rattle.edit_rules.specs.Places.{as_block, is_paragraph, through_first, is_in_note, are_in_order}
use Rattle.name_index.specs.declared.names.NameKind.TheVariants as kinds
use Rattle.name_index.specs.Names.{found, Sets}
use Rattle.name_index.specs.Scan.{section_names, names_of}
use Rattle.node_array.specs.declared.row.Row.{Row}
use Rattle.node_array.specs.declared.row.Row.TheVariants as row
use Rattle.node_array.specs.Rows.{block_rows, rows_of}
use Rattle.container_rows.specs.Standing.{IsApart, IsChangedFrom}
use Rattle.container_rows.proofs.Changed.{changed_from}
use Rattle.container_rows.proofs.Heads.{opened}
use Rattle.container_rows.proofs.Parts.{section_is, block_is}
use Rattle.held_rows.specs.Wrapping.{wrapping}
use Rattle.held_rows.proofs.Runs.{first_block}
use Rattle.paragraph_rows.specs.OwnRow.{own_row, rows_of_notes, head_of, bare}
use Rattle.paragraph_rows.proofs.Opened.{par_open}
use Rattle.row_edits.specs.Sound.{IsSound}
use Rattle.row_edits.proofs.Distinct.{Apart}
use Rattle.rows_stay_sound.proofs.Neutral.{numbers, numbers_both}
use Rattle.rows_stay_sound.proofs.Sections.{wrap_kept}
use Rattle.names_change.proofs.Lead.{Pairs, lead, found_leads, put_lead}
use Rattle.names_change.proofs.Reading.{State, after, read, names_read}
use Rattle.names_change.proofs.SectionStarts.{starts, sections_in, all_begin, sections_read}
use Rattle.names_change.proofs.Found.{start, is_within, apart_parts}
use Rattle.names_change.proofs.ByKind.{section_sets}
use Rattle.section_name_changes.proofs.Outside.{Put, after_both, blocks_outside, body_outside, end_neutral, start_neutral, starts_put}

-- the first of a list is among the first ones
first_taken : {X : Type 0} (n : ℕ) (x : X) (xs : List X) → take (n + 1) (x ∷ xs) ≡ x ∷ take n xs
first_taken n x xs = let next : n + 1 ≡ suc n = omega arith in ap (λ (m : ℕ). take m (x ∷ xs)) next

-- rows of a section that is wrapped
section_rows : (name style : List ℕ) (inner rest : List Block) (behind : List Row) → rows_of (section_of name style inner ∷ rest) ++ behind
    ≡ row.Start (wrapping name style) ∷ (rows_of inner ++ row.End ∷ (rows_of rest ++ behind))
section_rows name style inner rest behind =
    ap (λ (rows : List Row). (rows ++ rows_of rest) ++ behind) (section_is (record { kind = Plain; name = name; style = style; protected = false; hidden = false; source = None; blocks = inner }))
    ∙ ap (λ (rows : List Row). row.Start (wrapping name style) ∷ rows)
    (append_assoc (rows_of inner ++ row.End ∷ []) (rows_of rest) behind ∙ append_assoc (rows_of inner) (row.End ∷ []) (rows_of rest ++ behind))

-- no name was there
not_led : (doc : Document) (name : List ℕ) → name ≢ [] → found (names_of doc) kinds.Section name ≡ None → lead name (section_names doc) ≡ None
not_led doc [] given none = absurd (given refl)
not_led doc (letter ∷ letters) given none = sym (found_leads doc kinds.Section letter letters) ∙ none

pub wrapped_follow : (old : Edited) (before : List Row) (head : ParHead) (items : List Item) (rest inside : List Row) (other : ParHead) (others : List Item) (more : List Row) (name style : List ℕ)
    → IsApart old.document → is_in_note old.document head.id ≡ false → are_in_order old.document head.id other.id ≡ true
    → rows_of old.document.body ≡ before ++ row.Par head items ∷ rest → row.Par head items ∷ rest ≡ inside ++ row.Par other others ∷ more
    → IsSound old → name ≢ [] → found (names_of old.document) kinds.Section name ≡ None
    → Sets (names_of old.document) (names_of (edited_document old.next (WrapSection head.id other.id name style) old.document)) kinds.Section name (Some head.id)
wrapped_follow old before head items rest inside other others more name style apart out ordered is to sound given none =
    let doc : Document = old.document in
    let new : Document = edited_document old.next (WrapSection head.id other.id name style) doc in
    let it : IsChangedFrom (wrap_through other.id name style) before (row.Par head items ∷ rest) (rows_of new.body) =
    changed_from (wrap_through other.id name style) doc before head items rest apart (λ in_note. absurd (false≢true (sym out ∙ in_note))) is
    in
    let test = is_paragraph other.id.0 in
    let blocks : List Block = as_block it.par ∷ it.blocks in
    let place : ℕ = position_or_len test blocks in
    let inner : List Block = through_first test blocks in
    let left : List Block = after_first test blocks in
    let cut : blocks ≡ inner ++ left = sym (take-append-drop (place + 1) blocks) in
    let back : List Row = rows_of left ++ it.behind in
    let was : rows_of doc.body ≡ before ++ (rows_of inner ++ back) =
    is ∙ ap (λ (rows : List Row). before ++ rows)
    (it.old ∙ sym (first_block it.par it.blocks it.behind) ∙ ap (λ (bs : List Block). rows_of bs ++ it.behind) cut
    ∙ ap (λ (rows : List Row). rows ++ it.behind) (flat_map-append block_rows inner left) ∙ append_assoc (rows_of inner) (rows_of left) it.behind)
    in
    let now : rows_of new.body ≡ before ++ row.Start (wrapping name style) ∷ (rows_of inner ++ row.End ∷ back) = it.new ∙ ap (λ (rows : List Row). before ++ rows) (section_rows name style inner left it.behind) in
    let sound_new : IsSound (edited old (WrapSection head.id other.id name style)) = wrap_kept old before head items rest inside other others more name style apart out ordered is to sound in
    let first : Row = own_row it.par in
    let id : ParId = (out-Par it.par).id in
    let tail : List Row = rows_of_notes it.par ++ rows_of (take place it.blocks) in
    let own : rows_of inner ≡ first ∷ tail =
    ap rows_of (first_taken place (as_block it.par) it.blocks) ∙ ap (λ (rows : List Row). rows ++ rows_of (take place it.blocks)) (block_is it.par ∙ par_open it.par)
    in
    let id_is : head.id ≡ id = ap (λ (h : ParHead). h.id) (opened head items rest it.par (rows_of it.blocks ++ it.behind) it.old).head_is in
    let round = apart_parts (numbers before) head.id.0 (numbers rest) (subst Apart (ap numbers is ∙ numbers_both before (row.Par head items ∷ rest)) sound.apart) in
    let out_before : is_within before ≡ false = body_outside doc before head items rest old.next sound is round.0 round.1 out in
    let out_inner : (after (before ++ rows_of inner) start).within ≡ false =
    ap (λ (s : State). s.within) (after_both before (rows_of inner) start) ∙ blocks_outside inner (after before start) out_before
    in
    let begin : (others : List Row) → starts (tail ++ others) ≡ flat_map sections_in inner ++ starts others = λ others. ap (λ (rows : List Row). starts (rows ++ others)) (sym own) ∙ all_begin inner others in
    let put : Put name id (starts (before ++ first ∷ (tail ++ back))) (starts (before ++ row.Start (wrapping name style) ∷ first ∷ (tail ++ row.End ∷ back))) =
    starts_put before (wrapping name style) (head_of it.par) (map bare (out-Par it.par).items) (tail ++ back) (tail ++ row.End ∷ back) (begin (row.End ∷ back) ∙ sym (begin back))
    in
    let old_sections : section_names doc ≡ put.front ++ put.behind =
    sections_read doc ∙ ap starts was ∙ ap (λ (rows : List Row). starts (before ++ (rows ++ back))) own ∙ put.was
    in
    let new_sections : section_names new ≡ put.front ++ (name, id) ∷ put.behind =
    sections_read new ∙ ap starts now ∙ ap (λ (rows : List Row). starts (before ++ row.Start (wrapping name style) ∷ (rows ++ row.End ∷ back))) own ∙ put.is
    in
    section_sets doc new name (Some head.id)
    (λ kind of_items.
    names_read kind of_items new sound_new.flat ∙ ap (λ (rows : List Row). read kind rows start) now
    ∙ start_neutral kind before (wrapping name style) (rows_of inner ++ row.End ∷ back) start
    ∙ ap (λ (rows : List Row). read kind rows start) (sym (append_assoc before (rows_of inner) (row.End ∷ back)))
    ∙ end_neutral kind (before ++ rows_of inner) back start out_inner
    ∙ ap (λ (rows : List Row). read kind rows start) (append_assoc before (rows_of inner) back ∙ sym was) ∙ sym (names_read kind of_items doc sound.flat))
    (λ empty. absurd (given ((bytes_eq-Decides name []).0 empty)))
    (λ other.
    ap (lead other) new_sections ∙ put_lead name other id put.front put.behind (sym (ap (lead name) old_sections) ∙ not_led doc name given none)
    ∙ ap₂ (λ (one : ParId) (pairs : Pairs). cond (bytes_eq name other) (Some one) (lead other pairs)) (sym id_is) (sym old_sections))
