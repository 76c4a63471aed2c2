-- The names of a document of which a paragraph is split.
use Rattle.std.proofs.Common.{◌≡◌, ℕ, ◌+◌, ◌&&◌, Bool, not, List, [], ◌∷◌, ◌++◌, map, take, drop, length, Option, Some, None, refl, ap, ap₂, sym, ◌∙◌, subst, append_assoc}
use Rattle.std.specs.Prelude.{◌==◌, if◌then◌else◌, option_map}
use Rattle.std.specs.List.{flat_map}
use Rattle.std.proofs.lemmas.List.{take-map, drop-map, take-append-drop}
use Rattle.std.proofs.lemmas.List.Concat.{flat_map-append}
use Rattle.doc_model.specs.declared.block.Block.{Block}
use Rattle.doc_model.specs.declared.document.Document.{Document}
use Rattle.doc_model.specs.declared.edit.EditOp.TheVariants.{Split}
use Rattle.doc_model.specs.declared.paragraph.Par.{Par, out-Par, roll-Par}
use Rattle.doc_model.specs.declared.paragraph.ParHead.{ParHead}
use Rattle.doc_model.specs.declared.paragraph.ParId.{ParId}
use Rattle.doc_model.specs.declared.paragraph.Item.{Item}
use Rattle.doc_model.specs.declared.paragraph.What.{What}
use Rattle.doc_model.specs.declared.paragraph.What.TheOpen.{Par-F}
use Rattle.doc_model.specs.declared.paragraph.What.TheViews.{out-roll-Par}
use Rattle.doc_model.specs.declared.paragraph.Note.{Note}
use Rattle.doc_model.specs.declared.style.Style.{Style}
use Rattle.doc_model.specs.Reading.{note_of}
use Rattle.edit_rules.specs.Blocks.{following_place, first_half, second_half, with_style_of, next_style, split_first}
use Rattle.edit_rules.specs.Edited.{Edited, edited_document}
use Rattle.edit_rules.specs.Places.{as_block}
use Rattle.name_index.specs.declared.names.NameKind.{NameKind}
use Rattle.name_index.specs.declared.names.NameKind.TheVariants as kinds
use Rattle.name_index.specs.Scan.{names_of_kind, section_names, names_of}
use Rattle.name_index.proofs.Found.{or_else}
use Rattle.node_array.specs.declared.row.Row.{Row}
use Rattle.node_array.specs.declared.row.Row.TheVariants as row
use Rattle.node_array.specs.Rows.{par_rows, rows_of}
use Rattle.container_rows.specs.Standing.{IsApart, KeepsParagraphs, IsChangedFrom}
use Rattle.container_rows.proofs.Changed.{changed_from}
use Rattle.container_rows.proofs.Heads.{Opened, opened, kept_by}
use Rattle.container_rows.proofs.Parts.{bare}
use Rattle.container_rows.proofs.Tests.{par_alone}
use Rattle.held_rows.proofs.Runs.{first_block}
use Rattle.paragraph_rows.proofs.Lists.{each_front, each_behind}
use Rattle.row_edits.specs.Sound.{AreSound, IsSound}
use Rattle.rows_stay_sound.proofs.Halves.{split_kept}
use Rattle.names_change.proofs.Places.{read_places, text_places}
use Rattle.names_change.specs.Leading.{have_name, leads_to, Redirects}
use Rattle.names_change.proofs.Lead.{Pairs, lead, lead_both, others_lead, redirect}
use Rattle.names_change.proofs.Reading.{state, Fits, fits, settled, settled_again, read, par_read, names_read}
use Rattle.names_change.proofs.Renamed.{Without, Tells, renamed, told}
use Rattle.names_change.proofs.SectionStarts.{starts, par_starts, starts_as, sections_read}
use Rattle.names_change.proofs.Found.{have_bare, no_section, redirects_by, start, is_within, held_behind, Standing, standing, names_behind, read_at, ahead_other, behind_other}

-- a paragraph by its parts
pub text_rolled : (kind : NameKind) (x : Par-F What Item Note Par) → text_places kind (roll-Par x) ≡ flat_map (read_places kind x.id) x.items
text_rolled kind x = ap (λ (p : Par-F What Item Note Par). flat_map (read_places kind p.id) p.items) (out-roll-Par x)

-- both paragraphs among rows
pub two_read : (kind : NameKind) (before : List Row) (one other : Par) (behind : List Row) → Fits (is_within before) one → Fits (is_within before) other
    → read kind (before ++ (par_rows one ++ (par_rows other ++ behind))) start ≡ read kind before start ++ (text_places kind one ++ (text_places kind other ++ names_behind kind before behind))
two_read kind before one other behind one_fits other_fits =
    let within : Bool = is_within before in
    read_at kind before one (par_rows other ++ behind) one_fits
    ∙ ap (λ (some : Pairs). read kind before start ++ (text_places kind one ++ some))
    (par_read kind within (settled within (held_behind before)) other behind other_fits
    ∙ ap (λ held. text_places kind other ++ read kind behind (state within held)) (settled_again within (held_behind before)))

-- a paragraph in two halves
pub halves_lead : (kind : NameKind) (name : List ℕ) (before : List Row) (par first second : Par) (behind : List Row) (front rear : List Item) (to : ParId)
    → Standing before par behind → Fits (is_within before) first → Fits (is_within before) second → (out-Par par).items ≡ front ++ rear
    → text_places kind first ≡ flat_map (read_places kind (out-Par par).id) front → text_places kind second ≡ flat_map (read_places kind to) rear
    → lead name (read kind (before ++ (par_rows first ++ (par_rows second ++ behind))) start)
    ≡ (if (have_name kind name rear && not (have_name kind name front)) && leads_to (out-Par par).id (lead name (read kind (before ++ (par_rows par ++ behind)) start))
    then Some to else lead name (read kind (before ++ (par_rows par ++ behind)) start))
halves_lead kind name before par first second behind front rear to it first_fits second_fits items_are first_is second_is =
    let id : ParId = (out-Par par).id in
    let ahead : Pairs = read kind before start in
    let last : Pairs = names_behind kind before behind in
    let in_front : Pairs = flat_map (read_places kind id) front in
    let in_rear : Pairs = flat_map (read_places kind id) rear in
    let in_new : Pairs = flat_map (read_places kind to) rear in
    let cut : text_places kind par ≡ in_front ++ in_rear = ap (flat_map (read_places kind id)) items_are ∙ flat_map-append (read_places kind id) front rear in
    let old_is : lead name (read kind (before ++ (par_rows par ++ behind)) start) ≡ or_else (lead name ahead) (or_else (lead name in_front) (or_else (lead name in_rear) (lead name last))) =
    ap (lead name) (read_at kind before par behind it.fit ∙ ap (λ (some : Pairs). ahead ++ (some ++ last)) cut)
    ∙ lead_both name ahead ((in_front ++ in_rear) ++ last)
    ∙ ap (or_else (lead name ahead)) (ap (lead name) (append_assoc in_front in_rear last) ∙ lead_both name in_front (in_rear ++ last) ∙ ap (or_else (lead name in_front)) (lead_both name in_rear last))
    in
    let new_is : lead name (read kind (before ++ (par_rows first ++ (par_rows second ++ behind))) start) ≡ or_else (lead name ahead) (or_else (lead name in_front) (or_else (lead name in_new) (lead name last))) =
    ap (lead name) (two_read kind before first second behind first_fits second_fits ∙ ap₂ (λ (a b : Pairs). ahead ++ (a ++ (b ++ last))) first_is second_is)
    ∙ lead_both name ahead (in_front ++ (in_new ++ last))
    ∙ ap (or_else (lead name ahead)) (lead_both name in_front (in_new ++ last) ∙ ap (or_else (lead name in_front)) (lead_both name in_new last))
    in
    let notes : Without kind id (flat_map note_of front ++ flat_map note_of rear) = subst (Without kind id) (ap (flat_map note_of) items_are ∙ flat_map-append note_of front rear) (it.notes kind) in
    let front_notes : Without kind id (flat_map note_of front) = each_front _ (flat_map note_of front) (flat_map note_of rear) notes in
    let rear_notes : Without kind id (flat_map note_of rear) = each_behind _ (flat_map note_of front) (flat_map note_of rear) notes in
    let tells : Tells kind id (lead name in_front) (have_name kind name front) = told kind id name front front_notes in
    new_is
    ∙ redirect id to (lead name ahead) (lead name in_front) (lead name in_rear) (lead name in_new) (lead name last) (have_name kind name front) (have_name kind name rear)
    (others_lead id name ahead (ahead_other kind id.0 before it.ahead)) tells.there tells.none (told kind id name rear rear_notes).there (renamed kind id name to rear rear_notes)
    (others_lead id name last (behind_other kind id.0 before behind it.ahead it.after_it))
    ∙ sym (ap (λ said. if (have_name kind name rear && not (have_name kind name front)) && leads_to id said then Some to else said) old_is)

module _ (styles : List Style) (next at : ℕ) where
  split_is : (par : Par) (blocks : List Block) → split_first styles next at (as_block par ∷ blocks) ≡ as_block (first_half at par) ∷ as_block (second_half styles next at par) ∷ blocks
  split_is par blocks = ap (λ (pars : List Par). flat_map (λ p. as_block (first_half at p) ∷ as_block (second_half styles next at p) ∷ []) pars ++ blocks) (par_alone par)

  split_keeps : KeepsParagraphs (split_first styles next at)
  split_keeps [] = refl
  split_keeps (par ∷ pars) = kept_by (split_first styles next at (map as_block (par ∷ pars))) (first_half at par ∷ second_half styles next at par ∷ pars) (split_is par (map as_block pars))

  halves_rows : (par : Par) (blocks : List Block) (behind : List Row) → rows_of (split_first styles next at (as_block par ∷ blocks)) ++ behind
      ≡ par_rows (first_half at par) ++ (par_rows (second_half styles next at par) ++ (rows_of blocks ++ behind))
  halves_rows par blocks behind =
      ap (λ (bs : List Block). rows_of bs ++ behind) (split_is par blocks) ∙ first_block (first_half at par) (as_block (second_half styles next at par) ∷ blocks) behind
      ∙ ap (λ (rows : List Row). par_rows (first_half at par) ++ rows) (first_block (second_half styles next at par) blocks behind)

  styled_text : (kind : NameKind) (style : Option Style) (p : Par-F What Item Note Par) → text_places kind (with_style_of style (roll-Par p)) ≡ flat_map (read_places kind p.id) p.items
  styled_text kind None p = text_rolled kind p
  styled_text kind (Some style) p =
      text_rolled kind (record (out-Par (roll-Par p)) { style = style.name; level = style.outline })
      ∙ ap (λ (q : Par-F What Item Note Par). flat_map (read_places kind q.id) q.items) (out-roll-Par p)

  second_text : (kind : NameKind) (par : Par) → text_places kind (second_half styles next at par) ≡ flat_map (read_places kind (record { 0 = next })) (drop at (out-Par par).items)
  second_text kind par =
      styled_text kind (if at == length (out-Par par).items then next_style styles par else None)
      (record (out-Par par) { id = record { 0 = next }; list = option_map following_place (out-Par par).list; items = drop at (out-Par par).items })

  first_id : (par : Par) → (out-Par (first_half at par)).id ≡ (out-Par par).id
  first_id par = ap (λ (p : Par-F What Item Note Par). p.id) (out-roll-Par (record (out-Par par) { items = take at (out-Par par).items }))

pub split_follows : (old : Edited) (at : ℕ) (before : List Row) (head : ParHead) (items : List Item) (rest : List Row) → IsApart old.document
    → rows_of old.document.body ≡ before ++ row.Par head items ∷ rest → IsSound old
    → Redirects (λ kind name. have_name kind name (drop at items) && not (have_name kind name (take at items))) head.id (record { 0 = old.next })
    (names_of old.document) (names_of (edited_document old.next (Split head.id at) old.document))
split_follows old at before head items rest apart is sound =
    let doc : Document = old.document in
    let next : ℕ = old.next in
    let new : Document = edited_document next (Split head.id at) doc in
    let to : ParId = record { 0 = next } in
    let change : List Block → List Block = split_first doc.styles next at in
    let it : IsChangedFrom change before (row.Par head items ∷ rest) (rows_of new.body) = changed_from change doc before head items rest apart (λ _. split_keeps doc.styles next at) is in
    let par : Par = it.par in
    let behind : List Row = rows_of it.blocks ++ it.behind in
    let first : Par = first_half at par in
    let second : Par = second_half doc.styles next at par in
    let own : Opened head items rest par behind = opened head items rest par behind it.old in
    let was : rows_of doc.body ≡ before ++ (par_rows par ++ behind) = is ∙ ap (λ (rows : List Row). before ++ rows) it.old in
    let now : rows_of new.body ≡ before ++ (par_rows first ++ (par_rows second ++ behind)) = it.new ∙ ap (λ (rows : List Row). before ++ rows) (halves_rows doc.styles next at par it.blocks it.behind) in
    let sound_new : IsSound (record { document = new; next = next + 1 }) = split_kept old at before head items rest apart is sound in
    let here : Standing before par behind = standing next before par behind (subst (AreSound next) was sound) in
    let there : Standing before first (par_rows second ++ behind) = standing (next + 1) before first (par_rows second ++ behind) (subst (AreSound (next + 1)) now sound_new) in
    let second_fits = (fits (is_within before) second behind there.flat).0 in
    let id_is : head.id ≡ (out-Par par).id = ap (λ (h : ParHead). h.id) own.head_is in
    let sections : section_names new ≡ section_names doc =
    sections_read new ∙ ap starts now
    ∙ starts_as before first par (par_rows second ++ behind) behind (first_id doc.styles next at par) (par_starts second behind) ∙ sym (ap starts was) ∙ sym (sections_read doc)
    in
    redirects_by doc new (λ kind name. have_name kind name (drop at items) && not (have_name kind name (take at items))) head.id to
    (λ name. ap (λ (b : Bool). b && not (have_name kinds.Section name (take at items))) (no_section name (drop at items))) sections
    (λ kind of_items name.
    let rear_is : have_name kind name (drop at items) ≡ have_name kind name (drop at (out-Par par).items) =
    ap (λ (some : List Item). have_name kind name (drop at some)) own.items_are ∙ ap (have_name kind name) (drop-map bare at (out-Par par).items) ∙ have_bare kind name (drop at (out-Par par).items)
    in
    let front_is : have_name kind name (take at items) ≡ have_name kind name (take at (out-Par par).items) =
    ap (λ (some : List Item). have_name kind name (take at some)) own.items_are ∙ ap (have_name kind name) (take-map bare at (out-Par par).items) ∙ have_bare kind name (take at (out-Par par).items)
    in
    let said : lead name (names_of_kind doc kind) ≡ lead name (read kind (before ++ (par_rows par ++ behind)) start) =
    ap (lead name) (names_read kind of_items doc sound.flat ∙ ap (λ (rows : List Row). read kind rows start) was)
    in
    ap (lead name) (names_read kind of_items new sound_new.flat ∙ ap (λ (rows : List Row). read kind rows start) now)
    ∙ halves_lead kind name before par first second behind (take at (out-Par par).items) (drop at (out-Par par).items) to here there.fit second_fits (sym (take-append-drop at (out-Par par).items))
    (text_rolled kind (record (out-Par par) { items = take at (out-Par par).items })) (second_text doc.styles next at kind par)
    ∙ sym
    (ap₂ (λ (r f : Bool). if (r && not f) && leads_to head.id (lead name (names_of_kind doc kind)) then Some to else lead name (names_of_kind doc kind)) rear_is front_is
    ∙ ap₂
    (λ (id : ParId) (led : Option ParId). if (have_name kind name (drop at (out-Par par).items) && not (have_name kind name (take at (out-Par par).items))) && leads_to id led then Some to else led)
    id_is said))
